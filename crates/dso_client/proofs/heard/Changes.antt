-- Changes that were taken.
use Rattle.std.proofs.Common.{◌≡◌, ℕ, zero, suc, ◌+◌, ◌<◌, ◌≤◌, refl, sym, ◌∙◌, ap, arith, Bool, true, false, cond, eqb, Option, Some, None, List, [], ◌∷◌, ◌++◌, length, slice_set, take, get_or, subst}
use Rattle.std.proofs.lemmas.Bool.{eqb-true, ltb-false}
use Rattle.std.proofs.lemmas.List.{take_all, take_more}
use Rattle.std.specs.Bool.{OnTrue, OnFalse}
use Rattle.std.specs.Option.{option_map}
use Rattle.dso_base.specs.declared.message.Down.TheVariants as down
use Rattle.dso_base.specs.declared.record.Body.{Body}
use Rattle.dso_base.specs.declared.record.Set.{Set}
use Rattle.dso_base.specs.declared.value.Value.{Value}
use Rattle.dso_change.specs.Hands.{has_field}
use Rattle.dso_law.specs.HeldBody.{held_body}
use Rattle.dso_law.specs.Copies.{is_object_asked}
use Rattle.dso_law.specs.Store.{body_by_sets, body_with}
use Rattle.dso_table.specs.declared.slot.ObjectStanding.{ObjectStanding}
use Rattle.dso_table.specs.declared.slot.ObjectStanding.TheVariants.{Asked, Resident}
use Rattle.dso_law.specs.Records.{records}
use Rattle.dso_table.specs.declared.tables.ObjectTables.{ObjectTables}
use Rattle.dso_table.specs.States.{State, body_of, is_asked, with_value, set}
use Rattle.dso_table.specs.ObjectTables.{state_in}
use Rattle.dso_client.specs.MessageEffects.{heard}
use Rattle.dso_client.specs.RunPoints.{RunPoint}
use Rattle.dso_client.specs.TableStands.{TableStands}
use Rattle.dso_client.proofs.flushed.Flushed.{at_number}

-- a list in which a place past its end is set is as it was
past : (values : List Value) (f : ℕ) (v : Value) → length values ≤ f → slice_set values f v ≡ values
past [] f v h = refl
past (first ∷ values) zero v h = absurd (omega (arith, h))
past (first ∷ values) (suc f) v h = ap (λ rest. first ∷ rest) (past values f v (omega (arith, h)))

-- the copy with the value
pub with_it : (change : Set) (standing : Option ObjectStanding) → body_of (option_map (with_value change.field change.value) standing) ≡ body_with change (body_of standing)
with_it change None = refl
with_it change (Some Asked) = refl
with_it change (Some (Resident body)) = refl

pub asked_as : (change : Set) (standing : Option ObjectStanding) → is_asked (option_map (with_value change.field change.value) standing) ≡ is_asked standing
asked_as change None = refl
asked_as change (Some Asked) = refl
asked_as change (Some (Resident body)) = refl

-- where there is no such field the body is as it was
pub no_field : (change : Set) (body : Option Body) → has_field change.field body ≡ false → body ≡ body_with change body
no_field change None e = refl
no_field change (Some body) e =
    let most : length body.values ≤ change.field = ltb-false change.field (length body.values) e in
    ap (λ values. Some (record body { values = values })) (sym (past body.values change.field change.value most))

module _ (clock : ℕ) (at : RunPoint) (change : Set) (old new : ObjectTables) (h : TableStands at old) where
  written : state_in new ≡ set change None (state_in old) → TableStands (heard clock (down.Changes (change ∷ [])) at) new
  written is = record {
    bodies = λ x. ap (λ (s : State). body_of (s.standing x)) is
        ∙ (ap body_of (at_number change.object (option_map (with_value change.field change.value) ((state_in old).standing change.object)) (state_in old).standing x) ∙ bodies x (eqb change.object x) refl);
    asked = λ x. ap (λ (s : State). is_asked (s.standing x)) is
        ∙ (ap is_asked (at_number change.object (option_map (with_value change.field change.value) ((state_in old).standing change.object)) (state_in old).standing x) ∙ asked x (eqb change.object x) refl);
    marks = λ x. ap (λ (s : State). s.marks x) is ∙ h.marks x;
    opened = λ t x. ap (λ (s : State). s.opened (t, x)) is ∙ h.opened t x;
    wanted = λ t x. ap (λ (s : State). s.wanted (t, x)) is ∙ h.wanted t x;
    room = ap (λ (s : State). s.limit) is ∙ h.room;
    count = ap (λ (s : State). s.residents) is ∙ h.count;
    acked = subst (λ n. n ≤ records at.entries) (sym (ap (λ (s : State). s.acked) is)) h.acked;
    order = ap (λ (s : State). s.used) is ∙ h.order;
  }
    where
      bodies : (x : ℕ) (b : Bool) → eqb change.object x ≡ b
          → body_of (cond b (option_map (with_value change.field change.value) ((state_in old).standing change.object)) ((state_in old).standing x)) ≡ cond b (body_with change (held_body x at.entries)) (held_body x at.entries)
      bodies x true e = with_it change ((state_in old).standing change.object)
          ∙ (ap (λ o. body_with change (body_of ((state_in old).standing o))) (eqb-true change.object x e) ∙ ap (body_with change) (h.bodies x))
      bodies x false e = h.bodies x

      asked : (x : ℕ) (b : Bool) → eqb change.object x ≡ b
          → is_asked (cond b (option_map (with_value change.field change.value) ((state_in old).standing change.object)) ((state_in old).standing x)) ≡ is_object_asked x at.entries
      asked x true e = asked_as change ((state_in old).standing change.object) ∙ (ap (λ o. is_asked ((state_in old).standing o)) (eqb-true change.object x e) ∙ h.asked x)
      asked x false e = h.asked x

  unwritten : state_in new ≡ state_in old → has_field change.field (body_of ((state_in old).standing change.object)) ≡ false → TableStands (heard clock (down.Changes (change ∷ [])) at) new
  unwritten is none = record {
    bodies = λ x. ap (λ (s : State). body_of (s.standing x)) is ∙ (h.bodies x ∙ bodies x (eqb change.object x) refl);
    asked = λ x. ap (λ (s : State). is_asked (s.standing x)) is ∙ h.asked x;
    marks = λ x. ap (λ (s : State). s.marks x) is ∙ h.marks x;
    opened = λ t x. ap (λ (s : State). s.opened (t, x)) is ∙ h.opened t x;
    wanted = λ t x. ap (λ (s : State). s.wanted (t, x)) is ∙ h.wanted t x;
    room = ap (λ (s : State). s.limit) is ∙ h.room;
    count = ap (λ (s : State). s.residents) is ∙ h.count;
    acked = subst (λ n. n ≤ records at.entries) (sym (ap (λ (s : State). s.acked) is)) h.acked;
    order = ap (λ (s : State). s.used) is ∙ h.order;
  }
    where
      bodies : (x : ℕ) (b : Bool) → eqb change.object x ≡ b → held_body x at.entries ≡ cond b (body_with change (held_body x at.entries)) (held_body x at.entries)
      bodies x true e = no_field change (held_body x at.entries) (ap (has_field change.field) (sym (h.bodies x))
          ∙ (ap (λ o. has_field change.field (body_of ((state_in old).standing o))) (sym (eqb-true change.object x e)) ∙ none))
      bodies x false e = refl

  pub change_heard : (found : Bool) → found ≡ has_field change.field (body_of ((state_in old).standing change.object)) → OnTrue found (state_in new ≡ set change None (state_in old))
      → OnFalse found (state_in new ≡ state_in old) → TableStands (heard clock (down.Changes (change ∷ [])) at) new
  change_heard true found is same = written is
  change_heard false found is same = unwritten same (sym found)

-- one more set behind the others
pub sets_more : (x : ℕ) (sets : List Set) (change : Set) (before : Option Body)
    → body_by_sets x (sets ++ change ∷ []) before ≡ cond (eqb change.object x) (body_with change (body_by_sets x sets before)) (body_by_sets x sets before)
sets_more x [] change before = refl
sets_more x (first ∷ sets) change before = sets_more x sets change (cond (eqb first.object x) (body_with first before) before)

-- so many of the changes were heard
abbrev pub HeardUpTo : ℕ → List Set → ObjectTables → ObjectTables → Type 0
HeardUpTo n changes old new = (clock : ℕ) (at : RunPoint) → TableStands at old → TableStands (heard clock (down.Changes (take n changes)) at) new

-- before the first
pub none_heard : (changes : List Set) (table : ObjectTables) → HeardUpTo 0 changes table table
none_heard changes table clock at h = record { bodies = h.bodies; asked = h.asked; marks = h.marks; opened = h.opened; wanted = h.wanted; room = h.room; count = h.count; acked = h.acked; order = h.order }

-- changes, and one more behind them, are all of them
one_behind : (clock : ℕ) (at : RunPoint) (changes : List Set) (change : Set) (table : ObjectTables)
    → TableStands (heard clock (down.Changes (change ∷ [])) (heard clock (down.Changes changes) at)) table → TableStands (heard clock (down.Changes (changes ++ change ∷ [])) at) table
one_behind clock at changes change table h = record {
  bodies = λ x. h.bodies x ∙ sym (sets_more x changes change (held_body x at.entries));
  asked = h.asked;
  marks = h.marks;
  opened = h.opened;
  wanted = h.wanted;
  room = h.room;
  count = h.count;
  acked = h.acked;
  order = h.order;
}

-- one more
pub one_more_heard : (i : ℕ) (changes : List Set) (other : Set) (old mid new : ObjectTables) → i < length changes → HeardUpTo i changes old mid
    → ((clock : ℕ) (at : RunPoint) → TableStands at mid → TableStands (heard clock (down.Changes (get_or changes i other ∷ [])) at) new) → HeardUpTo (i + 1) changes old new
one_more_heard i changes other old mid new less before hears clock at h =
    subst (λ changes. TableStands (heard clock (down.Changes changes) at) new) (sym (take_more changes i other less))
    (one_behind clock at (take i changes) (get_or changes i other) new (hears clock (heard clock (down.Changes (take i changes)) at) (before clock at h)))

-- all of them
pub all_heard : (n : ℕ) (changes : List Set) (old new : ObjectTables) → length changes ≤ n → HeardUpTo n changes old new
    → (clock : ℕ) (at : RunPoint) → TableStands at old → TableStands (heard clock (down.Changes changes) at) new
all_heard n changes old new all before clock at h = subst (λ changes. TableStands (heard clock (down.Changes changes) at) new) (take_all n changes all) (before clock at h)
