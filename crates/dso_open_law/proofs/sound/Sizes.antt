-- In a lawful journal of a sound program a copy has a value of each field below its size, and of no other.
use Rattle.std.proofs.Common.{ℕ, ◌≡◌, ◌<◌, ◌≤◌, ◌⊎◌, inl, inr, refl, sym, ◌∙◌, ap, subst, Bool, true, false, cond, ltb, ◌&&◌, is_some, Option, Some, None, List, length, slice_get, get_or, arith}
use Rattle.std.proofs.lemmas.Bool.{ltb-true, ltb-false}
use Rattle.std.proofs.lemmas.Option.{slice_get_cases}
use Rattle.dso_base.specs.declared.journal.Entry.{Entry}
use Rattle.dso_base.specs.declared.journal.Node.TheVariants.{Client}
use Rattle.dso_base.specs.declared.lock.ThreadId.{ThreadId}
use Rattle.dso_base.specs.declared.record.Body.{Body}
use Rattle.dso_base.specs.declared.request.Event.{Event}
use Rattle.dso_base.specs.declared.request.Request.{Request}
use Rattle.dso_base.specs.declared.value.ClassId.{ClassId}
use Rattle.dso_base.specs.declared.value.Value.{Value}
use Rattle.dso_law.specs.Settings.{Settings}
use Rattle.dso_law.specs.Entries.{entries_of}
use Rattle.dso_law.specs.Copies.{is_resident, value_held, copy_of, class_held}
use Rattle.dso_law.specs.HeldBody.{held_body}
use Rattle.dso_law.specs.CoreLaws.{TellsBody}
use Rattle.dso_law.proofs.core.Bodies.{bodies_are_held}
use Rattle.dso_legal.specs.ClassesKept.{KeepsClasses}
use Rattle.dso_legal.specs.Lawful.{AllFollow}
use Rattle.dso_legal.specs.SoundProgram.{AsksSoundly, GivesKnownTexts}
use Rattle.dso_legal.specs.ValuesFine.{FitsField, KeepsValues}
use Rattle.dso_legal.specs.WithinShape.{StaysWithinShape}
use Rattle.dso_legal.proofs.fitting.Classes.{classes_are_kept}
use Rattle.dso_legal.proofs.fitting.RepliesThere.{place_below}
use Rattle.dso_legal.proofs.fitting.Values.{values_are_fine, same_pair}
use Rattle.dso_open_law.specs.FewTouched.{is_field_of, CopiesAreWhole}

-- nothing is there, whichever is taken
none_either : (b : Bool) → let nothing : Option Value = None in is_some (cond b nothing nothing) ≡ false
none_either true = refl
none_either false = refl

module _ (p : Settings) (next : ThreadId → List Event → Option Request) (sound : AsksSoundly p.shape next) (texts : GivesKnownTexts p.shape next) (within : StaysWithinShape p.shape next)
    (es : List Entry) (follow : AllFollow p next es) (c : ℕ) where
  abbrev own : List Entry
  own = entries_of (Client c) es

  fine : KeepsValues p.shape es
  fine = values_are_fine p next sound texts within es follow

  kept : KeepsClasses p.shape es
  kept = classes_are_kept p next es follow

  tells : (o : ℕ) → TellsBody o own
  tells o = bodies_are_held o own

  -- a value that is held is of a field below the size
  value_below : (o f : ℕ) (v : Value) (class : ClassId) (size : ℕ) → class_held o own ≡ Some (class, size) → value_held o f own ≡ Some v → f < size
  value_below o f v class size has is =
      let at : FitsField p.shape es o f v = fine.copies c o f v is in
      let same = same_pair (class, size) (at.class, at.size) (sym (kept.copies c o class size has) ∙ at.made) in
      let below : f < at.size = place_below p at.class at.size f (fine.sizes o at.class at.size at.made) at.there in
      subst (λ n. f < n) (sym same.1) below

  -- the copy of an object that is held whole
  of_held : (o f : ℕ) (body : Body) → held_body o own ≡ Some body → is_some (copy_of o f own) ≡ ltb f (length body.values)
  of_held o f body held = by (ltb f (length body.values)) refl
    where
      there : f < length body.values → is_some (slice_get body.values f) ≡ true
      there less = by (slice_get_cases body.values f).1
        where
          by : (((x : Value) × (f < length body.values) × (slice_get body.values f ≡ Some x) × (get_or body.values f x ≡ x)) ⊎ ((length body.values ≤ f) × (slice_get body.values f ≡ None))) → is_some (slice_get body.values f) ≡ true
          by (inl h) = ap is_some h.2
          by (inr h) = absurd (omega (arith, less, h.0))

      past : (length body.values ≤ f) → (v : Option Value) → value_held o f own ≡ v → is_some (cond (is_resident o own) v None) ≡ false
      past more None is = none_either (is_resident o own)
      past more (Some v) is = let below = value_below o f v body.class (length body.values) ((tells o).class body held) is in absurd (omega (arith, more, below))

      by : (b : Bool) → ltb f (length body.values) ≡ b → is_some (copy_of o f own) ≡ b
      by true less = ap is_some ((tells o).fields body f held (ltb-true f (length body.values) less)) ∙ there (ltb-true f (length body.values) less)
      by false more = past (ltb-false f (length body.values) more) (value_held o f own) refl

  -- A copy has a value where the object is resident and has the field.
  pub copies_are_whole : CopiesAreWhole own
  copies_are_whole o f = by (held_body o own) refl
    where
      by : (held : Option Body) → held_body o own ≡ held → is_some (copy_of o f own) ≡ (is_resident o own && is_field_of f (class_held o own))
      by None none =
          let absent : is_resident o own ≡ false = sym (tells o).resident ∙ ap is_some none in
          ap (λ b. is_some (cond b (value_held o f own) None)) absent ∙ ap (λ b. b && is_field_of f (class_held o own)) (sym absent)
      by (Some body) held =
          let there : is_resident o own ≡ true = sym (tells o).resident ∙ ap is_some held in
          of_held o f body held ∙ sym (ap (λ b. b && is_field_of f (class_held o own)) there ∙ ap (is_field_of f) ((tells o).class body held))
