-- What a thread knows of an object that isn't its own.
use Rattle.std.proofs.Common.{◌≡◌, ℕ, ◌<◌, ◌^◌, refl, sym, ◌∙◌, ap, false, ◌||◌, is_some, Option, Some, None, length, slice_get, arith, inl, inr, true}
use Rattle.std.proofs.lemmas.Bool.Decides.{leb_tells}
use Rattle.std.proofs.lemmas.Option.{slice_get_past}
use Rattle.std.specs.Option.{option_map}
use Rattle.dso_base.specs.declared.record.Body.{Body}
use Rattle.dso_base.specs.declared.value.ClassId.{ClassId}
use Rattle.dso_change.specs.Hands.{Hand}
use Rattle.dso_law.specs.Copies.{is_resident, class_held, copy_of}
use Rattle.dso_law.specs.HeldBody.{held_body}
use Rattle.dso_law.specs.Replies.{class_of_body, class_known, value_in, value_seen}
use Rattle.dso_law.specs.Threads.{or_else, own, work_of}
use Rattle.dso_law.proofs.core.Bodies.{bodies_are_held}
use Rattle.dso_table.specs.declared.tables.ObjectTables.{ObjectTables}
use Rattle.dso_table.specs.States.{body_of}
use Rattle.dso_table.specs.ObjectTables.{state_in}
use Rattle.dso_txn.specs.InHand as block
use Rattle.dso_txn.specs.InHand.{news_in, sets_in, bodies_in, in_body, put_value}
use Rattle.dso_client.specs.declared.thread_context.ThreadContext.{ThreadContext}
use Rattle.dso_client.specs.KnownObjects.{KnowsObject}
use Rattle.dso_client.specs.RunPoints.{RunPoint}
use Rattle.dso_client.specs.RunFacts.{SizesAreKept}
use Rattle.dso_client.specs.ContextStands.{ContextStands}
use Rattle.dso_client.specs.TableStands.{TableStands}
use Rattle.dso_client.proofs.objects.Own.{own_tells}
use Rattle.dso_client.proofs.objects.SortedSets.{sets_rise, value_last}

-- an object without a copy isn't resident
pub absent : (at : RunPoint) (table : ObjectTables) (o : ℕ) → TableStands at table → body_of ((state_in table).standing o) ≡ None → is_resident o at.entries ≡ false
absent at table o stands e = sym (bodies_are_held o at.entries).resident ∙ ap is_some (sym (stands.bodies o) ∙ e)

-- an object that is there, and isn't the thread's own, has a copy
pub not_there : (at : RunPoint) (table : ObjectTables) (context : ThreadContext) (o : ℕ) → KnowsObject at table context o → own at.settings.shape context.id o at.entries ≡ None
    → body_of ((state_in table).standing o) ≡ None → ⊥
not_there at table context o h mine e =
    let gone = absent at table o h.knows.of_copies e in
    let none : (is_some (own at.settings.shape context.id o at.entries) || is_resident o at.entries) ≡ false = (λ i. is_some (mine i) || gone i) in
    absurd (cc (sym none ∙ h.there))

-- its class and size are those of the copy
pub class_of_copy : (at : RunPoint) (table : ObjectTables) (context : ThreadContext) (o : ℕ) (body : Body) → TableStands at table → own at.settings.shape context.id o at.entries ≡ None
    → body_of ((state_in table).standing o) ≡ Some body → class_known at.settings context.id o at.entries ≡ Some (class_of_body body)
class_of_copy at table context o body stands mine e =
    ap (λ body. or_else (option_map class_of_body body) (class_held o at.entries)) mine ∙ (bodies_are_held o at.entries).class body (sym (stands.bodies o) ∙ e)

-- the copy's value of a field
pub value_of_copy : (at : RunPoint) (table : ObjectTables) (o f : ℕ) (body : Body) → TableStands at table → SizesAreKept at
    → body_of ((state_in table).standing o) ≡ Some body → slice_get body.values f ≡ copy_of o f at.entries
value_of_copy at table o f body stands sizes e =
    let held : held_body o at.entries ≡ Some body = sym (stands.bodies o) ∙ e in
    elim (leb_tells (length body.values) f) [
      | inl h ↦ slice_get_past body.values f h.1 ∙ sym (sizes.fields o f body held h.1)
      | inr h ↦ sym ((bodies_are_held o at.entries).fields body f held h.1)
    ]

no_news : (privates news : Option Body) → or_else privates news ≡ None → news ≡ None
no_news None news e = e
no_news (Some body) news e = absurd (cc e)

-- the value that the block has of a field of an object that isn't the thread's own, else the copy's
pub value_known : (at : RunPoint) (context : ThreadContext) (o f : ℕ) → ContextStands at context → own at.settings.shape context.id o at.entries ≡ None
    → value_in at.settings (own at.settings.shape context.id o at.entries) f (value_seen at.settings context.id o f at.entries)
    ≡ or_else (block.value_in (news_in context.block) (sets_in context.block) o f) (copy_of o f at.entries)
value_known at context o f stands mine =
    let work = work_of at.settings.shape context.id at.entries in
    let no : news_in context.block o ≡ None = no_news (bodies_in context.privates o) (news_in context.block o) (own_tells context.privates context.block work o stands.work ∙ mine) in
    let same : sets_in context.block ≡ work.sets = ap (λ (hand : Hand). hand.sets) stands.work in
    ap (λ body. value_in at.settings body f (value_seen at.settings context.id o f at.entries)) mine
    ∙ (value_last o f (copy_of o f at.entries) work.sets (sets_rise at.settings.shape context.id at.entries)
    ∙ (ap (λ sets. or_else (put_value o f sets) (copy_of o f at.entries)) (sym same)
    ∙ ap (λ body. or_else (in_body f body (put_value o f (sets_in context.block))) (copy_of o f at.entries)) (sym no)))

-- of one class and size
same_size : (a b : ClassId × ℕ) → Some a ≡ Some b → a.1 ≡ b.1
same_size a b e =
    let same : a ≡ b = cc e in
    ap (λ (class : ClassId × ℕ). class.1) same

-- a size is told in 32 bits
pub size_fits : (at : RunPoint) (table : ObjectTables) (context : ThreadContext) (o : ℕ) (class : ClassId) (size : ℕ) → KnowsObject at table context o → SizesAreKept at
    → class_known at.settings context.id o at.entries ≡ Some (class, size) → size < 2 ^ 32
size_fits at table context o class size h sizes e = by (own at.settings.shape context.id o at.entries) refl (held_body o at.entries) refl
  where
    of_own : (body : Body) → own at.settings.shape context.id o at.entries ≡ Some body → Some (class_of_body body) ≡ Some (class, size) → size < 2 ^ 32
    of_own body mine same =
        let small = sizes.own context.id o body mine in
        let it = same_size (class_of_body body) (class, size) same in
        omega (arith, small, it)

    of_copy : (body : Body) → held_body o at.entries ≡ Some body → class_held o at.entries ≡ Some (class, size) → size < 2 ^ 32
    of_copy body held same =
        let small = sizes.copies o body held in
        let it = same_size (class_of_body body) (class, size) (sym ((bodies_are_held o at.entries).class body held) ∙ same) in
        omega (arith, small, it)

    by : (mine : Option Body) → own at.settings.shape context.id o at.entries ≡ mine → (held : Option Body) → held_body o at.entries ≡ held → size < 2 ^ 32
    by (Some body) is held there = of_own body is (ap (λ mine. or_else (option_map class_of_body mine) (class_held o at.entries)) (sym is) ∙ e)
    by None is (Some body) there = of_copy body there (ap (λ mine. or_else (option_map class_of_body mine) (class_held o at.entries)) (sym is) ∙ e)
    by None is None there = absurd (not_there at table context o h is (h.knows.of_copies.bodies o ∙ there))

-- an object with a copy is resident, of its class and size
pub resident_with : (at : RunPoint) (table : ObjectTables) (o : ℕ) (body : Body) → TableStands at table → body_of ((state_in table).standing o) ≡ Some body → is_resident o at.entries ≡ true
resident_with at table o body stands e = sym (bodies_are_held o at.entries).resident ∙ ap is_some (sym (stands.bodies o) ∙ e)

pub class_with : (at : RunPoint) (table : ObjectTables) (o : ℕ) (body : Body) → TableStands at table → body_of ((state_in table).standing o) ≡ Some body → class_held o at.entries ≡ Some (class_of_body body)
class_with at table o body stands e = (bodies_are_held o at.entries).class body (sym (stands.bodies o) ∙ e)
