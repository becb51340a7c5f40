-- In a lawful journal of sound code sizes are kept: a copy has no value past its size, and sizes are small.
use Rattle.std.specs.List.{AllByRecursion}
use Rattle.std.proofs.Common.{ℕ, ◌≡◌, ◌<◌, ◌≤◌, ◌^◌, refl, sym, ◌∙◌, ap, subst, Bool, true, false, cond, eqb, Option, Some, None, List, [], ◌∷◌, length, slice_get, arith}
use Rattle.std.proofs.lemmas.Option.{slice_get_within, get_or_from_slice_get}
use Rattle.dso_base.specs.Block.{Work, body_in, start, worked}
use Rattle.dso_base.specs.declared.journal.Entry.{Entry}
use Rattle.dso_base.specs.declared.journal.Node.TheVariants.{Client}
use Rattle.dso_base.specs.declared.lock.ThreadId.{ThreadId}
use Rattle.dso_base.specs.declared.record.Body.{Body}
use Rattle.dso_base.specs.declared.request.Event.{Event}
use Rattle.dso_base.specs.declared.request.Event.TheVariants.{Act, Lost}
use Rattle.dso_base.specs.declared.shape.ClassShape.{ClassShape}
use Rattle.dso_base.specs.declared.shape.Shape.{Shape}
use Rattle.dso_base.specs.declared.value.ClassId.{ClassId}
use Rattle.dso_base.specs.declared.value.ClassId.TheVariants.{Plain, Array, Roots}
use Rattle.dso_base.specs.declared.value.Value.{Value}
use Rattle.dso_base.specs.Following.{is_thread}
use Rattle.dso_plain.specs.History.{is_act_of}
use Rattle.dso_plain.specs.Possible.{IsFieldCount}
use Rattle.dso_plain.proofs.keys.SameKeys.{same_number, same_thread, number_self}
use Rattle.dso_law.specs.Settings.{Settings}
use Rattle.dso_law.specs.Entries.{entries_of, by_event}
use Rattle.dso_law.specs.Copies.{is_resident, value_held, copy_of}
use Rattle.dso_law.specs.FitsDown.{HasSize}
use Rattle.dso_law.specs.HeldBody.{held_body}
use Rattle.dso_law.specs.Threads.{or_else, own, work_of, locks_of, block_after, open_block, privates_after, privates_before}
use Rattle.dso_law.proofs.core.Bodies.{bodies_are_held}
use Rattle.dso_machine.specs.declared.code.Code.{Code}
use Rattle.dso_machine.specs.Next.{next_request}
use Rattle.dso_machine.specs.Sound.{IsSoundCode, IsSoundClass}
use Rattle.dso_legal.specs.ClassesKept.{class_made, IsAsMade, KeepsClasses}
use Rattle.dso_legal.specs.Lawful.{AllFollow}
use Rattle.dso_legal.specs.ValuesFine.{FitsField, KeepsValues}
use Rattle.dso_legal.proofs.blocks.OwnThreads.{AreOwnEvents, IsOwnEvent, of_client}
use Rattle.dso_legal.proofs.fitting.Classes.{classes_are_kept}
use Rattle.dso_legal.proofs.fitting.RepliesThere.{place_below}
use Rattle.dso_legal.proofs.fitting.Values.{values_are_fine, same_pair}
use Rattle.dso_client.specs.ClientStands.{point}
use Rattle.dso_client.specs.RunFacts.{SizesAreKept}
use Rattle.dso_world.proofs.premises.SoundPrograms.{sound_code}

-- ---- how large an object of sound code is

-- an object of sound code has a size that is told in 32 bits
small : (code : Code) → IsSoundCode code → (class : ClassId) (size : ℕ) → HasSize code.shape class size → size < 2 ^ 32
small code sound (Plain number) size has = by (slice_get code.shape.classes number) refl has
  where
    by : (class : Option ClassShape) → slice_get code.shape.classes number ≡ class → IsFieldCount class size → size < 2 ^ 32
    by None is count = absurd count
    by (Some class) is count =
        let fine : IsSoundClass code.shape class = subst (IsSoundClass code.shape) (get_or_from_slice_get code.shape.classes number class class is)
        (sound.classes number class (slice_get_within code.shape.classes number class is)) in
        omega (arith, count, fine.few_fields)
small code sound (Array kind) size has = omega (arith, has)
small code sound Roots size has = omega (arith, has, sound.few_roots)

-- ---- threads of other clients have nothing in hand

module _ (shape : Shape) (c : ℕ) (t : ThreadId) (other : eqb c t.client ≡ false) where
  -- an act of one of the client's threads isn't the thread's
  not_its : (thread : ThreadId) → thread.client ≡ c → is_thread t thread ≡ false
  not_its thread its = by (is_thread t thread) refl
    where
      by : (b : Bool) → is_thread t thread ≡ b → b ≡ false
      by false is = refl
      by true is = absurd (cc (sym (number_self c) ∙ (ap (eqb c) (sym its ∙ ap (λ (u : ThreadId). u.client) (same_thread t thread is)) ∙ other)))

  -- so it leaves what is kept of the thread
  leaves : {X : Type 0} (step : Event → X → X) (event : Option Event) (x : X) → IsOwnEvent c event → by_event (λ event x. cond (is_act_of t event) (step event x) x) event x ≡ x
  leaves step None x its = refl
  leaves step (Some (Act thread request reply woken)) x its = ap (λ b. cond b (step (Act thread request reply woken) x) x) (not_its thread its)
  leaves step (Some (Lost client)) x its = absurd its

  no_block : (own : List Entry) → AreOwnEvents c own → open_block t own ≡ []
  no_block [] its = refl
  no_block (e ∷ own) its = leaves (λ event block. block_after event (locks_of t own) block) e.event (open_block t own) its.0 ∙ no_block own its.1

  no_privates : (own : List Entry) → AreOwnEvents c own → privates_before shape t own ≡ []
  no_privates [] its = refl
  no_privates (e ∷ own) its = leaves (λ event privates. privates_after shape event (locks_of t own) (open_block t own) privates) e.event (privates_before shape t own) its.0 ∙ no_privates own its.1

  none_own : (entries : List Entry) → AreOwnEvents c entries → (o : ℕ) → own shape t o entries ≡ None
  none_own entries its o =
      let work : work_of shape t entries ≡ start [] = ap (λ block. worked shape block (start (privates_before shape t entries))) (no_block entries its) ∙ ap start (no_privates entries its) in
      ap (λ (work : Work). or_else (body_in o work.privates) (body_in o work.news)) work

-- ---- sizes

-- what holds of each body holds of the one that is found
found_has : (P : Body → Type 0) (o : ℕ) (bodies : List Body) (body : Body) → AllByRecursion P bodies → body_in o bodies ≡ Some body → P body
found_has P o [] body all is = absurd (cc is)
found_has P o (first ∷ rest) body all is = by (eqb first.object o) is (found_has P o rest body all.1)
  where
    by : (b : Bool) → cond b (Some first) (body_in o rest) ≡ Some body → (body_in o rest ≡ Some body → P body) → P body
    by true is later = let same : first ≡ body = cc is in subst P same all.0
    by false is later = later is

either_has : (P : Body → Type 0) (one two : Option Body) (body : Body) → (one ≡ Some body → P body) → (two ≡ Some body → P body) → or_else one two ≡ Some body → P body
either_has P None two body first second is = second is
either_has P (Some one) two body first second is = first is

module _ (code : Code) (sound : IsSoundCode code) (p : Settings) (shaped : p.shape ≡ code.shape) (es : List Entry) (follow : AllFollow p (next_request code) es) where
  fine : KeepsValues p.shape es
  fine = let program = sound_code code p.shape sound shaped in values_are_fine p (next_request code) program.sound program.texts program.within es follow

  kept : KeepsClasses p.shape es
  kept = classes_are_kept p (next_request code) es follow

  -- an object that was made has a small size
  made_small : (o : ℕ) (class : ClassId) (size : ℕ) → class_made p.shape o es ≡ Some (class, size) → size < 2 ^ 32
  made_small o class size is = small code sound class size (subst (λ shape. HasSize shape class size) shaped (fine.sizes o class size is))

  module _ (c : ℕ) where
    -- a copy's class and size are those of the object
    copy_made : (o : ℕ) (body : Body) → held_body o (entries_of (Client c) es) ≡ Some body → class_made p.shape o es ≡ Some (body.class, length body.values)
    copy_made o body held = kept.copies c o body.class (length body.values) ((bodies_are_held o (entries_of (Client c) es)).class body held)

    -- past its size a copy has no value
    none_past : (o f : ℕ) (body : Body) → held_body o (entries_of (Client c) es) ≡ Some body → length body.values ≤ f → copy_of o f (entries_of (Client c) es) ≡ None
    none_past o f body held past = by (is_resident o (entries_of (Client c) es)) (value_held o f (entries_of (Client c) es)) refl
      where
        by : (resident : Bool) (v : Option Value) → value_held o f (entries_of (Client c) es) ≡ v → cond resident v None ≡ None
        by false v is = refl
        by true None is = refl
        by true (Some v) is =
            let at : FitsField p.shape es o f v = fine.copies c o f v is in
            let same = same_pair (body.class, length body.values) (at.class, at.size) (sym (copy_made o body held) ∙ at.made) in
            let below : f < at.size = place_below p at.class at.size f (fine.sizes o at.class at.size at.made) at.there in
            absurd (omega (arith, past, same.1, below))

    -- what a thread has of its own was made
    own_small : (t : ThreadId) (o : ℕ) (body : Body) → own p.shape t o (entries_of (Client c) es) ≡ Some body → length body.values < 2 ^ 32
    own_small t o body is = by (eqb c t.client) refl
      where
        as_made : IsAsMade p.shape es body → length body.values < 2 ^ 32
        as_made made = made_small body.object body.class (length body.values) made

        by : (b : Bool) → eqb c t.client ≡ b → length body.values < 2 ^ 32
        by false other = absurd (cc (sym (none_own p.shape c t other (entries_of (Client c) es) (of_client p (next_request code) c es follow).events o) ∙ is))
        by true its =
            let mine : own p.shape t o (entries_of (Client t.client) es) ≡ Some body = subst (λ n. own p.shape t o (entries_of (Client n) es) ≡ Some body) (same_number c t.client its) is in
            let work = work_of p.shape t (entries_of (Client t.client) es) in
            as_made (either_has (IsAsMade p.shape es) (body_in o work.privates) (body_in o work.news) body
            (found_has (IsAsMade p.shape es) o work.privates body (kept.privates t)) (found_has (IsAsMade p.shape es) o work.news body (kept.news t)) mine)

    -- Sizes are kept.
    pub sizes_are_kept : SizesAreKept (point code p c (entries_of (Client c) es))
    sizes_are_kept = record {
      fields = none_past;
      copies = λ o body held. made_small o body.class (length body.values) (copy_made o body held);
      own = own_small;
    }
