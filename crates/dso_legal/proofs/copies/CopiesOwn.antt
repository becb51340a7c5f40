-- A client's copies as one of its blocks ends: they get what the block publishes and sets.
use Rattle.std.specs.List.{list_any, AllByRecursion}
use Rattle.std.proofs.Common.{ℕ, ◌≡◌, ◌≢◌, ◌⊎◌, inl, inr, refl, sym, ◌∙◌, ap, subst, Bool, true, false, cond, Option, Some, None, List, ◌∷◌, length}
use Rattle.dso_base.specs.Block.{Work}
use Rattle.dso_base.specs.declared.journal.Entry.{Entry}
use Rattle.dso_base.specs.declared.journal.Input.{Input}
use Rattle.dso_base.specs.declared.journal.Input.TheVariants as input
use Rattle.dso_base.specs.declared.lock.Level.{Level}
use Rattle.dso_base.specs.declared.lock.LockName.{LockName}
use Rattle.dso_base.specs.declared.lock.ThreadId.{ThreadId}
use Rattle.dso_base.specs.declared.message.Down.{Down}
use Rattle.dso_base.specs.declared.message.Up.{Up}
use Rattle.dso_base.specs.declared.message.Up.TheVariants as up
use Rattle.dso_base.specs.declared.record.Txn.{Txn}
use Rattle.dso_base.specs.declared.value.ClassId.{ClassId}
use Rattle.dso_base.specs.declared.value.Value.{Value}
use Rattle.dso_plain.specs.Past.{KeepsPast}
use Rattle.dso_plain.specs.Possible.{StandsFrom, IsOf}
use Rattle.dso_plain.specs.State.{PlainState, IsShared, is_shared, guard_in, guard_of_object}
use Rattle.dso_law.specs.Settings.{Settings}
use Rattle.dso_law.specs.Entries.{by_sent_up, by_taken_down}
use Rattle.dso_law.specs.declared.readings.LockStanding.{LockStanding}
use Rattle.dso_law.specs.Leases.{standing, standing_down}
use Rattle.dso_law.specs.Copies.{is_among, is_resident, resident_by_taken, resident_by_sent, unless_flushed, value_by_taken, value_by_sent, value_held, class_by_taken, class_by_sent, class_held, is_set_of, value_by_sets, value_by_bodies, class_by_bodies}
use Rattle.dso_legal.specs.Agreement.{after}
use Rattle.dso_legal.specs.CopiesStand.{speaks_of, field_copy, IsPastValue, FieldStands, class_copy, ClassStands, IsSharedCopy, CopiesStand}
use Rattle.dso_legal.specs.Residency.{is_set}
use Rattle.dso_legal.specs.Works.{TellsWork, HasBody}
use Rattle.dso_legal.proofs.objects.BodiesHeld.{value_elsewhere, class_elsewhere, IsFound, found_once, set_anew, set_of_object}
use Rattle.dso_legal.proofs.copies.ClassMoves as class_moves
use Rattle.dso_legal.proofs.records.ClientWords.{Records, ClientWord, IsAct, IsQuiet, spoken, word_status}
use Rattle.dso_legal.proofs.copies.CopiesAtClient.{quiet_resident, quiet_value, quiet_class, said_gives_none}
use Rattle.dso_legal.proofs.copies.FieldMoves as field
use Rattle.dso_legal.proofs.copies.FieldMoves.{apart, sets_other}
use Rattle.dso_legal.proofs.copies.PastValues.{newest_stands}
use Rattle.dso_legal.proofs.objects.SetsOfFields.{no_value}

-- A block of a thread of the client took the state from s to r, and its record is sent.
pub record Ends (p : Settings) (c : ℕ) (t : ThreadId) (work : Work) (s r : PlainState) (e : Entry) (own : List Entry) : Type 0 where
  pub past : KeepsPast r
  pub tells : TellsWork t work s r
  pub acts : IsAct e.input
  pub word : ClientWord p c e own
  pub txn : Txn
  pub records : word.word ≡ Records txn
  pub news : txn.news ≡ work.news
  pub sets : txn.sets ≡ work.sets
  pub resident : (o : ℕ) → is_set o work.sets ≡ true → is_resident o own ≡ true
  pub leased : (o f : ℕ) → list_any (is_set_of o f) work.sets ≡ true → (standing (guard_in p.shape s o f) own).lease ≢ None
  pub seen : (u : ThreadId) (o f : ℕ) → u.client ≡ c → IsShared o s → (standing (guard_in p.shape s o f) own).lease ≡ None → r.seen (u, o, f) ≡ s.seen (u, o, f)

-- classes that are there and the same
same_class : (a b : ClassId × ℕ) → Some a ≡ Some b → a ≡ b
same_class a b e = cc

-- an act takes no message, and flushes nothing
act_takes : {S : Type 0} (step : Down → S → S) (i : Input) → IsAct i → (s : S) → by_taken_down step i s ≡ s
act_takes step (input.Act index) is s = refl
act_takes step other is s = absurd is

act_keeps : (o : ℕ) (i : Input) → IsAct i → (b : Bool) → unless_flushed o i b ≡ b
act_keeps o (input.Act index) is b = refl
act_keeps o other is b = absurd is

module _ (p : Settings) (c : ℕ) (t : ThreadId) (work : Work) (s r : PlainState) (ms : List Down) (e : Entry) (own : List Entry) (is : Ends p c t work s r e own) where
  -- what the entry's messages make of a reading that hears records alone
  by_record : {S : Type 0} (step : Up → S → S) → ((m : Up) → IsQuiet m → (x : S) → step m x ≡ x) → (x : S) → by_sent_up step e.sent x ≡ step (up.Commit is.txn) x
  by_record step quiet x = word_status is.word step quiet x ∙ ap (λ w. after step (spoken w) x) is.records

  resident_now : (o : ℕ) → is_resident o (e ∷ own) ≡ cond (is_among o work.news) true (is_resident o own)
  resident_now o = act_keeps o e.input is.acts (by_sent_up (resident_by_sent o) e.sent (by_taken_down (resident_by_taken o) e.input (is_resident o own)))
      ∙ (by_record (resident_by_sent o) (quiet_resident o) (by_taken_down (resident_by_taken o) e.input (is_resident o own))
      ∙ (ap (resident_by_sent o (up.Commit is.txn)) (act_takes (resident_by_taken o) e.input is.acts (is_resident o own))
      ∙ ap (λ news. cond (is_among o news) true (is_resident o own)) is.news))

  value_now : (o f : ℕ) → value_held o f (e ∷ own) ≡ value_by_sets o f work.sets (value_by_bodies o f work.news (value_held o f own))
  value_now o f = by_record (value_by_sent o f) (quiet_value o f) (by_taken_down (value_by_taken o f) e.input (value_held o f own))
      ∙ (ap (value_by_sent o f (up.Commit is.txn)) (act_takes (value_by_taken o f) e.input is.acts (value_held o f own))
      ∙ (ap (λ news. value_by_sets o f is.txn.sets (value_by_bodies o f news (value_held o f own))) is.news
      ∙ ap (λ sets. value_by_sets o f sets (value_by_bodies o f work.news (value_held o f own))) is.sets))

  class_now : (o : ℕ) → class_held o (e ∷ own) ≡ class_by_bodies o work.news (class_held o own)
  class_now o = by_record (class_by_sent o) (quiet_class o) (by_taken_down (class_by_taken o) e.input (class_held o own))
      ∙ (ap (class_by_sent o (up.Commit is.txn)) (act_takes (class_by_taken o) e.input is.acts (class_held o own))
      ∙ ap (λ news. class_by_bodies o news (class_held o own)) is.news)

  guard_less : (l : LockName) → (standing l (e ∷ own)).lease ≢ None → (standing l own).lease ≢ None
  guard_less l leased = subst (λ (g : LockStanding). g.lease ≢ None) (act_takes (standing_down l) e.input is.acts (standing l own)) (said_gives_none l e.sent (by_taken_down (standing_down l) e.input (standing l own)) leased)

  -- a shared object stays so, and is what it was
  still : (o : ℕ) → IsShared o s → r.objects o ≡ s.objects o
  still o shared = (is.tells.left o shared).object

  still_shared : (o : ℕ) → IsShared o s → IsShared o r
  still_shared o shared = ap is_shared (still o shared) ∙ shared

  -- no set is of an object that wasn't shared
  unset : (o f : ℕ) → is_shared (s.objects o) ≡ false → value_by_sets o f work.sets None ≡ None
  unset o f unshared = by (is.tells.sets o f)
    where
      by : value_by_sets o f work.sets None ≡ None ⊎ IsShared o s → value_by_sets o f work.sets None ≡ None
      by (inl none) = none
      by (inr shared) = absurd (apart shared unshared)

  newest_past : (o f : ℕ) → IsShared o r → (v : Value) → r.heap (o, f) ≡ Some v → IsPastValue c o f r v
  newest_past o f shared v e u its = newest_stands r is.past o f v shared e u

  module _ (h : CopiesStand p.shape c s ms own) (o : ℕ) where
    -- an object that is published
    module _ (found : IsFound o work.news) where
      abbrev published : IsShared o r × HasBody found.body r × (is_shared (s.objects o) ≡ false)
      published = is.tells.news o found.body found.found

      published_value : (f : ℕ) → value_held o f (e ∷ own) ≡ r.heap (o, f)
      published_value f = value_now o f ∙ (no_value o f work.sets (value_by_bodies o f work.news (value_held o f own)) (unset o f published.2)
          ∙ (found.values f (value_held o f own) ∙ (sym (published.1.values f) ∙ ap (λ x. r.heap (x, f)) found.its)))

      field_published : (f : ℕ) (l : LockName) → FieldStands l c o f r ms (field_copy l o f (e ∷ own))
      field_published f l = field.field_fresh l c o f r ms (field_copy l o f (e ∷ own)) (newest_past o f published.0) (published_value f) (h.shared o published.2)

      class_published : ClassStands o r ms (class_copy o (e ∷ own))
      class_published = class_moves.silent_behind o r ms (class_copy o (e ∷ own)) now (class_moves.silent_brings o ms (h.shared o published.2))
        where
          now : IsSharedCopy o r (class_copy o (e ∷ own))
          now = record {
            shared = λ _. published.0;
            of = λ _ class held. subst (λ (x : ClassId × ℕ). IsOf x.0 x.1 (r.objects o)) (same_class (found.body.class, length found.body.values) class (sym (class_now o ∙ found.class (class_held o own)) ∙ held)) (subst (λ x. IsOf found.body.class (length found.body.values) (r.objects x)) found.its published.1.class);
          }

    -- an object that isn't published
    module _ (elsewhere : is_among o work.news ≡ false) where
      resident_same : is_resident o (e ∷ own) ≡ is_resident o own
      resident_same = resident_now o ∙ ap (λ b. cond b true (is_resident o own)) elsewhere

      value_same : (f : ℕ) → value_held o f (e ∷ own) ≡ value_by_sets o f work.sets (value_held o f own)
      value_same f = value_now o f ∙ ap (value_by_sets o f work.sets) (value_elsewhere o f work.news (value_held o f own) elsewhere)

      class_same : class_held o (e ∷ own) ≡ class_held o own
      class_same = class_now o ∙ class_elsewhere o work.news (class_held o own) elsewhere

      class_unpublished : ClassStands o r ms (class_copy o (e ∷ own))
      class_unpublished = class_moves.class_less o r ms (class_copy o own) (class_copy o (e ∷ own)) (record { resident = λ here. sym resident_same ∙ here; class = class_same })
          (class_moves.class_stays o s r ms (class_copy o own) (record { shared = still_shared o; same = still o }) (h.class o))

      module _ (f : ℕ) where
        abbrev l : LockName
        l = guard_in p.shape s o f

        -- the copy stays, with no greater lease
        less : (x : Option Value) → value_held o f (e ∷ own) ≡ x → field.IsLess l c o f (field.with_value l c o f x (field_copy l o f own)) (field_copy l o f (e ∷ own))
        less x value = record { resident = λ here. sym resident_same ∙ here; value = value; leased = guard_less l }

        module _ (shared : IsShared o s) where
          -- a field that is set
          field_set : list_any (is_set_of o f) work.sets ≡ true → FieldStands l c o f r ms (field_copy l o f (e ∷ own))
          field_set set =
              let x : Option Value = value_by_sets o f work.sets (value_held o f own) in
              let meets : x ≡ r.heap (o, f) = set_anew o f work.sets (value_held o f own) (s.heap (o, f)) set ∙ sym ((is.tells.left o shared).heap f) in
              field.field_less l c o f r ms (field.with_value l c o f x (field_copy l o f own)) (field_copy l o f (e ∷ own)) (less x (value_same f))
              (field.field_set l c o f s r x ms (field_copy l o f own) (is.resident o (set_of_object o f work.sets set)) (is.leased o f set) (newest_past o f (still_shared o shared)) meets (h.field o f))

          -- a field that isn't
          module _ (untouched : list_any (is_set_of o f) work.sets ≡ false) where
            same_heap : r.heap (o, f) ≡ s.heap (o, f)
            same_heap = (is.tells.left o shared).heap f ∙ sets_other o f work.sets (s.heap (o, f)) untouched

            same_past : r.past (o, f) ≡ s.past (o, f)
            same_past = (is.tells.left o shared).past f (sets_other o f work.sets None untouched)

            goes_on : (standing l own).lease ≡ None → (v : Value) → IsPastValue c o f s v → IsPastValue c o f r v
            goes_on unleased v stands u its = subst (λ place. StandsFrom place v (r.past (o, f))) (sym (is.seen u o f its shared unleased)) (subst (StandsFrom (s.seen (u, o, f)) v) (sym same_past) (stands u its))

            stays : (lease : Option Level) → (standing l own).lease ≡ lease → FieldStands l c o f r ms (field_copy l o f own)
            stays None unleased = field.field_stays l c o f s r ms (field_copy l o f own) (goes_on unleased) same_heap (h.field o f)
            stays (Some level) leased = field.field_leased l c o f s r ms (field_copy l o f own) (λ none. some_none (sym leased ∙ none)) (newest_past o f (still_shared o shared)) same_heap (h.field o f)
              where
                some_none : Some level ≡ None → ⊥
                some_none e = cc e

            field_unset : FieldStands l c o f r ms (field_copy l o f (e ∷ own))
            field_unset = field.field_less l c o f r ms (field_copy l o f own) (field_copy l o f (e ∷ own)) (less (value_held o f own) (value_same f ∙ sets_other o f work.sets (value_held o f own) untouched)) (stays (standing l own).lease refl)

          either : (b : Bool) → list_any (is_set_of o f) work.sets ≡ b → FieldStands l c o f r ms (field_copy l o f (e ∷ own))
          either true set = field_set set
          either false set = field_unset set

        field_unpublished : (b : Bool) → is_shared (s.objects o) ≡ b → FieldStands (guard_in p.shape r o f) c o f r ms (field_copy (guard_in p.shape r o f) o f (e ∷ own))
        field_unpublished true shared = subst (λ k. FieldStands k c o f r ms (field_copy k o f (e ∷ own))) (ap (λ object. guard_of_object p.shape object o f) (sym (still o shared))) (either shared (list_any (is_set_of o f) work.sets) refl)
        field_unpublished false unshared = field.field_absent (guard_in p.shape r o f) c o f r ms (field_copy (guard_in p.shape r o f) o f (e ∷ own)) (resident_same ∙ away (is_resident o own) refl) (h.shared o unshared)
          where
            away : (b : Bool) → is_resident o own ≡ b → is_resident o own ≡ false
            away true here = absurd (apart ((class_moves.now_shared o s ms (class_copy o own) (h.class o)).shared here) unshared)
            away false here = here

    class_after : (b : Bool) → is_among o work.news ≡ b → ClassStands o r ms (class_copy o (e ∷ own))
    class_after true among = class_published (found_once o work.news (is.tells.once o) among)
    class_after false among = class_unpublished among

    field_after : (f : ℕ) (b : Bool) → is_among o work.news ≡ b → FieldStands (guard_in p.shape r o f) c o f r ms (field_copy (guard_in p.shape r o f) o f (e ∷ own))
    field_after f true among = field_published (found_once o work.news (is.tells.once o) among) f (guard_in p.shape r o f)
    field_after f false among = field_unpublished among f (is_shared (s.objects o)) refl

    shared_after : is_shared (r.objects o) ≡ false → AllByRecursion (λ m. speaks_of o m ≡ false) ms
    shared_after unshared = h.shared o (before (is_shared (s.objects o)) refl)
      where
        before : (b : Bool) → is_shared (s.objects o) ≡ b → is_shared (s.objects o) ≡ false
        before true shared = absurd (apart (still_shared o shared) unshared)
        before false shared = shared

  -- The copies stand again.
  pub copies_after_ending : CopiesStand p.shape c s ms own → CopiesStand p.shape c r ms (e ∷ own)
  copies_after_ending h = record {
    class = λ o. class_after h o (is_among o work.news) refl;
    field = λ o f. field_after h o f (is_among o work.news) refl;
    shared = shared_after h;
  }
