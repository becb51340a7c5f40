-- A client's copies as the server takes a record of another client: the changes of it come behind what is in flight.
use Rattle.std.specs.List.{list_any, AllByRecursion}
use Rattle.std.proofs.Common.{ℕ, ◌≡◌, ◌≢◌, ◌⊎◌, inl, inr, refl, sym, ◌∙◌, ap, subst, Bool, true, false, eqb, Some, None, List, [], ◌∷◌, ◌++◌, filter}
use Rattle.dso_base.specs.Block.{Work}
use Rattle.dso_base.specs.declared.journal.Entry.{Entry}
use Rattle.dso_base.specs.declared.lock.LockName.{LockName}
use Rattle.dso_base.specs.declared.lock.ThreadId.{ThreadId}
use Rattle.dso_base.specs.declared.message.Down.{Down}
use Rattle.dso_base.specs.declared.record.Set.{Set}
use Rattle.dso_base.specs.declared.shape.Shape.{Shape}
use Rattle.dso_base.specs.declared.value.Value.{Value}
use Rattle.dso_plain.specs.Past.{KeepsPast, PastsGrow}
use Rattle.dso_plain.specs.Possible.{StandsFrom}
use Rattle.dso_plain.specs.State.{PlainState, IsShared, is_shared, guard_in, guard_of_object}
use Rattle.dso_law.specs.declared.readings.LockStanding.{LockStanding}
use Rattle.dso_law.specs.Leases.{standing, standing_down}
use Rattle.dso_law.specs.Copies.{is_resident, resident_by_taken, is_set_of, value_by_sets}
use Rattle.dso_legal.specs.Agreement.{after}
use Rattle.dso_legal.specs.CopiesStand.{speaks_of, FieldCopy, field_by_taken, field_copy, IsPastCopy, IsPastValue, brings, FieldStands, class_copy_by, class_copy, CopiesStand}
use Rattle.dso_legal.specs.Residency.{is_set}
use Rattle.dso_legal.specs.Works.{TellsWork}
use Rattle.dso_legal.proofs.copies.FieldMoves as field
use Rattle.dso_legal.proofs.copies.FieldMoves.{apart, sets_other}
use Rattle.dso_legal.proofs.copies.ClassMoves as class_moves
use Rattle.dso_legal.proofs.copies.CopiesGoOn.{each_append}
use Rattle.dso_legal.proofs.copies.PastValues.{stands_behind, newest_stands}
use Rattle.dso_legal.proofs.copies.ChangesSent.{changes_down}
use Rattle.dso_legal.proofs.objects.SetsOfFields.{gives_value, value_kept, has_filtered, gives_some}

-- parts of a copy after messages
pub resident_after : (l : LockName) (o f : ℕ) (ms : List Down) (copy : FieldCopy) → (after (field_by_taken l o f) ms copy).resident ≡ after (resident_by_taken o) ms copy.resident
resident_after l o f [] copy = refl
resident_after l o f (m ∷ ms) copy = resident_after l o f ms (field_by_taken l o f m copy)

pub guard_after : (l : LockName) (o f : ℕ) (ms : List Down) (copy : FieldCopy) → (after (field_by_taken l o f) ms copy).guard ≡ after (standing_down l) ms copy.guard
guard_after l o f [] copy = refl
guard_after l o f (m ∷ ms) copy = guard_after l o f ms (field_by_taken l o f m copy)

-- A block of another client's thread took the state from s to r; the client is told of the sets of the objects that it holds.
pub record IsForeign (shape : Shape) (c : ℕ) (u : ThreadId) (work : Work) (holds : ℕ → Bool) (s r : PlainState) (ms : List Down) (own : List Entry) : Type 0 where
  pub past : KeepsPast r
  pub tells : TellsWork u work s r
  pub grows : PastsGrow s r
  pub seen : (t : ThreadId) (o f : ℕ) → t.client ≡ c → r.seen (t, o, f) ≡ s.seen (t, o, f)
  pub held : (o f : ℕ) → list_any (is_set_of o f) work.sets ≡ true → after (resident_by_taken o) ms (is_resident o own) ≡ true → holds o ≡ true
  pub unleased : (o f : ℕ) → IsShared o s → value_by_sets o f work.sets None ≢ None → (after (standing_down (guard_in shape s o f)) ms (standing (guard_in shape s o f) own)).lease ≡ None

module _ (shape : Shape) (c : ℕ) (u : ThreadId) (work : Work) (holds : ℕ → Bool) (s r : PlainState) (ms : List Down) (own : List Entry) (is : IsForeign shape c u work holds s r ms own) where
  -- the sets that the client is told
  abbrev told_sets : List Set
  told_sets = filter (λ set. holds set.object) work.sets

  -- a shared object stays so, and is what it was
  still : (o : ℕ) → IsShared o s → r.objects o ≡ s.objects o
  still o shared = (is.tells.left o shared).object

  still_shared : (o : ℕ) → IsShared o s → IsShared o r
  still_shared o shared = ap is_shared (still o shared) ∙ shared

  -- no set is of an object that wasn't shared
  unset : (o : ℕ) → is_shared (s.objects o) ≡ false → is_set o work.sets ≡ false
  unset o unshared = gives_some o work.sets (λ f. by f (is.tells.sets o f))
    where
      by : (f : ℕ) → value_by_sets o f work.sets None ≡ None ⊎ IsShared o s → value_by_sets o f work.sets None ≡ None
      by f (inl none) = none
      by f (inr shared) = absurd (apart shared unshared)

  untold : (o : ℕ) → is_shared (s.objects o) ≡ false → AllByRecursion (λ m. speaks_of o m ≡ false) (changes_down told_sets)
  untold o unshared = by told_sets (none (is_set o told_sets) refl)
    where
      none : (b : Bool) → is_set o told_sets ≡ b → is_set o told_sets ≡ false
      none true told = absurd (apart (has_filtered (λ set. eqb set.object o) (λ set. holds set.object) work.sets told) (unset o unshared))
      none false told = told

      by : (sets : List Set) → is_set o sets ≡ false → AllByRecursion (λ m. speaks_of o m ≡ false) (changes_down sets)
      by [] e = tt
      by (set ∷ sets) e = (e, tt)

  -- the changes come behind what is in flight, for a field of a shared object
  module _ (o f : ℕ) (shared : IsShared o s) (z : FieldCopy) (past : IsPastCopy c o f r z) (meets : z.resident ≡ true → z.value ≡ s.heap (o, f)) where
    told_all : (b : Bool) → list_any (is_set_of o f) work.sets ≡ b → (list_any (is_set_of o f) work.sets ≡ true → holds o ≡ true) → value_by_sets o f told_sets z.value ≡ value_by_sets o f work.sets z.value
    told_all true set held = value_kept holds o f work.sets z.value (held set)
    told_all false set held = sets_other o f told_sets z.value (none (list_any (is_set_of o f) told_sets) refl) ∙ sym (sets_other o f work.sets z.value set)
      where
        none : (b : Bool) → list_any (is_set_of o f) told_sets ≡ b → list_any (is_set_of o f) told_sets ≡ false
        none true told = absurd (apart (has_filtered (is_set_of o f) (λ set. holds set.object) work.sets told) set)
        none false told = told

    told_value : z.resident ≡ true → (list_any (is_set_of o f) work.sets ≡ true → holds o ≡ true) → value_by_sets o f told_sets z.value ≡ r.heap (o, f)
    told_value here held = told_all (list_any (is_set_of o f) work.sets) refl held ∙ (ap (value_by_sets o f work.sets) (meets here) ∙ sym ((is.tells.left o shared).heap f))

    newest_past : (v : Value) → r.heap (o, f) ≡ Some v → IsPastValue c o f r v
    newest_past v e t its = newest_stands r is.past o f v (still_shared o shared) e t

    changes_come : (l : LockName) → (sets : List Set) → (z.resident ≡ true → value_by_sets o f sets z.value ≡ r.heap (o, f)) → (z.guard.lease ≢ None → list_any (is_set_of o f) sets ≡ false) → field.ComesBehind l c o f r (changes_down sets) z
    changes_come l [] comes free = record { along = tt; past = past; meets = comes }
    changes_come l (set ∷ sets) comes free = record {
      along = (record { past = past; unchanged = free; absent = λ _. refl }, tt);
      past = λ here v e. newest_past v (sym (comes here) ∙ e);
      meets = comes;
    }

  module _ (o f : ℕ) (h : CopiesStand shape c s ms own) where
    abbrev l : LockName
    l = guard_in shape s o f

    abbrev copy : FieldCopy
    copy = field_copy l o f own

    abbrev z : FieldCopy
    z = after (field_by_taken l o f) ms copy

    goes_on : IsShared o s → (v : Value) → IsPastValue c o f s v → IsPastValue c o f r v
    goes_on shared v stands t its =
        let grown : (newer : List Value) × (r.past (o, f) ≡ newer ++ s.past (o, f)) = is.grows.grown o f shared in
        subst (λ place. StandsFrom place v (r.past (o, f))) (sym (is.seen t o f its)) (subst (StandsFrom (s.seen (t, o, f)) v) (sym grown.1) (stands_behind (s.seen (t, o, f)) v grown.0 (s.past (o, f)) (stands t its)))

    here_held : z.resident ≡ true → list_any (is_set_of o f) work.sets ≡ true → holds o ≡ true
    here_held here set = is.held o f set (sym (resident_after l o f ms copy) ∙ here)

    untouched : IsShared o s → (b : Bool) → list_any (is_set_of o f) told_sets ≡ b → z.guard.lease ≢ None → list_any (is_set_of o f) told_sets ≡ false
    untouched shared true told leased = absurd (leased (ap (λ (g : LockStanding). g.lease) (guard_after l o f ms copy) ∙ is.unleased o f shared (gives_value o f work.sets None (has_filtered (is_set_of o f) (λ set. holds set.object) work.sets told))))
    untouched shared false told leased = told

    shared_field : IsShared o s → FieldStands l c o f r (ms ++ changes_down told_sets) copy
    shared_field shared =
        let past_on : IsPastCopy c o f r z = λ here v e. goes_on shared v ((h.field o f).past here v e) in
        field.field_goes_on l c o f s r ms (changes_down told_sets) copy (goes_on shared) (h.field o f)
        (changes_come o f shared z past_on (h.field o f).meets l told_sets (λ here. told_value o f shared z past_on (h.field o f).meets here (here_held here)) (untouched shared (list_any (is_set_of o f) told_sets) refl))

    field_foreign : (b : Bool) → is_shared (s.objects o) ≡ b → FieldStands (guard_in shape r o f) c o f r (ms ++ changes_down told_sets) (field_copy (guard_in shape r o f) o f own)
    field_foreign true shared = subst (λ k. FieldStands k c o f r (ms ++ changes_down told_sets) (field_copy k o f own)) (ap (λ object. guard_of_object shape object o f) (sym (still o shared))) (shared_field shared)
    field_foreign false unshared = field.field_absent (guard_in shape r o f) c o f r (ms ++ changes_down told_sets) (field_copy (guard_in shape r o f) o f own) (away (is_resident o own) refl)
        (each_append (λ m. speaks_of o m ≡ false) ms (changes_down told_sets) (h.shared o unshared) (untold o unshared))
      where
        away : (b : Bool) → is_resident o own ≡ b → is_resident o own ≡ false
        away true here = absurd (apart ((class_moves.now_shared o s ms (class_copy o own) (h.class o)).shared here) unshared)
        away false here = here

  -- the changes bring nothing
  brings_nothing : (o : ℕ) (sets : List Set) → AllByRecursion (λ m. brings o m ≡ false) (changes_down sets)
  brings_nothing o [] = tt
  brings_nothing o (set ∷ sets) = (refl, tt)

  -- The copies stand again.
  pub copies_after_foreign : CopiesStand shape c s ms own → CopiesStand shape c r (ms ++ changes_down told_sets) own
  copies_after_foreign h = record {
    class = λ o. class_moves.class_goes_on o s r ms (changes_down told_sets) (class_copy o own) (record { shared = still_shared o; same = still o }) (h.class o)
        (class_moves.silent_behind o r (changes_down told_sets) (after (class_copy_by o) ms (class_copy o own)) (class_moves.still_shared o s r (record { shared = still_shared o; same = still o }) (after (class_copy_by o) ms (class_copy o own)) (h.class o).behind) (brings_nothing o told_sets));
    field = λ o f. field_foreign o f h (is_shared (s.objects o)) refl;
    shared = λ o unshared. each_append (λ m. speaks_of o m ≡ false) ms (changes_down told_sets) (h.shared o (before o unshared (is_shared (s.objects o)) refl)) (untold o (before o unshared (is_shared (s.objects o)) refl));
  }
    where
      before : (o : ℕ) → is_shared (r.objects o) ≡ false → (b : Bool) → is_shared (s.objects o) ≡ b → is_shared (s.objects o) ≡ false
      before o unshared true shared = absurd (apart (still_shared o shared) unshared)
      before o unshared false shared = shared
