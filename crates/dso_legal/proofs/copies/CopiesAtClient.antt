-- A client's copies after an entry of its own that sends no record.
use Rattle.std.specs.List.{AllByRecursion}
use Rattle.std.proofs.Common.{ℕ, ◌≡◌, ◌≢◌, refl, sym, ◌∙◌, subst, Bool, true, false, cond, eqb, Option, None, List, [], ◌∷◌, drop}
use Rattle.dso_base.specs.declared.journal.Entry.{Entry}
use Rattle.dso_base.specs.declared.journal.Input.{Input}
use Rattle.dso_base.specs.declared.journal.Input.TheVariants as input
use Rattle.dso_base.specs.declared.journal.Sent.{Sent}
use Rattle.dso_base.specs.declared.journal.Sent.TheVariants.{ToServer, ToClient}
use Rattle.dso_base.specs.declared.lock.LockName.{LockName}
use Rattle.dso_base.specs.declared.message.Down.{Down}
use Rattle.dso_base.specs.declared.message.Up.{Up}
use Rattle.dso_base.specs.declared.message.Up.TheVariants as up
use Rattle.dso_base.specs.declared.shape.Shape.{Shape}
use Rattle.dso_base.specs.declared.value.ClassId.{ClassId}
use Rattle.dso_base.specs.declared.value.Value.{Value}
use Rattle.dso_plain.specs.KeyTests.{is_lock}
use Rattle.dso_plain.specs.State.{PlainState, guard_in}
use Rattle.dso_law.specs.Settings.{Settings}
use Rattle.dso_law.specs.Entries.{by_sent_up, by_taken_down}
use Rattle.dso_law.specs.Channels.{takes_down}
use Rattle.dso_law.specs.declared.readings.LockStanding.{LockStanding}
use Rattle.dso_law.specs.Leases.{standing_up, standing_down}
use Rattle.dso_law.specs.Copies.{unless_flushed, resident_by_sent, resident_by_taken, value_by_sent, value_by_taken, class_by_sent, class_by_taken}
use Rattle.dso_legal.specs.Agreement.{after}
use Rattle.dso_legal.specs.CopiesStand.{speaks_of, FieldCopy, field_copy, FieldStands, ClassCopy, class_copy, ClassStands, CopiesStand}
use Rattle.dso_legal.proofs.records.ClientWords.{IsQuiet, Word, Silent, Records, AsksFor, Flushes, spoken, ClientWord, word_status}
use Rattle.dso_legal.proofs.copies.FieldMoves as field
use Rattle.dso_legal.proofs.copies.ClassMoves as class_moves

-- the word is no record
abbrev pub NoRecord : Word → Type 0
NoRecord (Records txn) = ⊥
NoRecord word = Unit {0}

-- a flush makes nothing resident
unless_less : (o : ℕ) (i : Input) (b : Bool) → unless_flushed o i b ≡ true → b ≡ true
unless_less o (input.Act index) b h = h
unless_less o (input.TookUp c m) b h = h
unless_less o (input.TookDown m) b h = h
unless_less o (input.Flush x) b h = by (eqb x o) h
  where
    by : (test : Bool) → cond test false b ≡ true → b ≡ true
    by true e = absurd (cc e)
    by false e = e
unless_less o (input.Lose c) b h = h
unless_less o (input.Break c) b h = h
unless_less o (input.Rejoin c) b h = h

-- a message to the server gives no lease
up_gives_none : (l : LockName) (m : Up) (g : LockStanding) → (standing_up l m g).lease ≢ None → g.lease ≢ None
up_gives_none l up.IdAsk g h = h
up_gives_none l (up.Fault o) g h = h
up_gives_none l (up.Flushed o) g h = h
up_gives_none l (up.Request k level) g h = by (is_lock l k) h
  where
    by : (test : Bool) → (cond test (record { lease = g.lease; is_asked = true }) g).lease ≢ None → g.lease ≢ None
    by true e = e
    by false e = e
up_gives_none l (up.Return k threads) g h = by (is_lock l k) h
  where
    by : (test : Bool) → (cond test (record { lease = None; is_asked = g.is_asked }) g).lease ≢ None → g.lease ≢ None
    by true e = absurd (e refl)
    by false e = e
up_gives_none l (up.Commit txn) g h = h

-- nor do several
pub said_gives_none : (l : LockName) (out : List Sent) (g : LockStanding) → (by_sent_up (standing_up l) out g).lease ≢ None → g.lease ≢ None
said_gives_none l [] g h = h
said_gives_none l (ToServer m ∷ out) g h = up_gives_none l m g (said_gives_none l out (standing_up l m g) h)
said_gives_none l (ToClient c m ∷ out) g h = said_gives_none l out g h

-- quiet messages leave residents, values and classes
pub quiet_resident : (o : ℕ) (m : Up) → IsQuiet m → (b : Bool) → resident_by_sent o m b ≡ b
quiet_resident o up.IdAsk h b = refl
quiet_resident o (up.Request k level) h b = refl
quiet_resident o (up.Return k threads) h b = refl
quiet_resident o m h b = absurd h

pub quiet_value : (o f : ℕ) (m : Up) → IsQuiet m → (v : Option Value) → value_by_sent o f m v ≡ v
quiet_value o f up.IdAsk h v = refl
quiet_value o f (up.Request k level) h v = refl
quiet_value o f (up.Return k threads) h v = refl
quiet_value o f m h v = absurd h

pub quiet_class : (o : ℕ) (m : Up) → IsQuiet m → (v : Option (ClassId × ℕ)) → class_by_sent o m v ≡ v
quiet_class o up.IdAsk h v = refl
quiet_class o (up.Request k level) h v = refl
quiet_class o (up.Return k threads) h v = refl
quiet_class o m h v = absurd h

-- and so does a word that is no record
word_leaves : {S : Type 0} (step : Up → S → S) (word : Word) → NoRecord word → ((o : ℕ) (s : S) → step (up.Fault o) s ≡ s) → ((o : ℕ) (s : S) → step (up.Flushed o) s ≡ s) → (s : S) → after step (spoken word) s ≡ s
word_leaves step Silent quiet faults flushes s = refl
word_leaves step (Records txn) quiet faults flushes s = absurd quiet
word_leaves step (AsksFor o) quiet faults flushes s = faults o s
word_leaves step (Flushes o) quiet faults flushes s = flushes o s

-- the copies as the input leaves them
abbrev taken_field : LockName → ℕ → ℕ → Input → FieldCopy → FieldCopy
taken_field l o f i copy = record {
  resident = by_taken_down (resident_by_taken o) i copy.resident;
  value = by_taken_down (value_by_taken o f) i copy.value;
  guard = by_taken_down (standing_down l) i copy.guard;
}

abbrev taken_class : ℕ → Input → ClassCopy → ClassCopy
taken_class o i copy = record { resident = by_taken_down (resident_by_taken o) i copy.resident; class = by_taken_down (class_by_taken o) i copy.class }

module _ (p : Settings) (c : ℕ) (e : Entry) (own : List Entry) (w : ClientWord p c e own) (quiet : NoRecord w.word) where
  resident_word : (o : ℕ) (b : Bool) → by_sent_up (resident_by_sent o) e.sent b ≡ b
  resident_word o b = word_status w (resident_by_sent o) (quiet_resident o) b ∙ word_leaves (resident_by_sent o) w.word quiet (λ x s. refl) (λ x s. refl) b

  value_word : (o f : ℕ) (v : Option Value) → by_sent_up (value_by_sent o f) e.sent v ≡ v
  value_word o f v = word_status w (value_by_sent o f) (quiet_value o f) v ∙ word_leaves (value_by_sent o f) w.word quiet (λ x s. refl) (λ x s. refl) v

  class_word : (o : ℕ) (v : Option (ClassId × ℕ)) → by_sent_up (class_by_sent o) e.sent v ≡ v
  class_word o v = word_status w (class_by_sent o) (quiet_class o) v ∙ word_leaves (class_by_sent o) w.word quiet (λ x s. refl) (λ x s. refl) v

  -- the entry leaves no more than its input does
  field_is_less : (l : LockName) (o f : ℕ) → field.IsLess l c o f (taken_field l o f e.input (field_copy l o f own)) (field_copy l o f (e ∷ own))
  field_is_less l o f = record {
    resident = λ here. sym (resident_word o (by_taken_down (resident_by_taken o) e.input (field_copy l o f own).resident)) ∙ unless_less o e.input (by_sent_up (resident_by_sent o) e.sent (by_taken_down (resident_by_taken o) e.input (field_copy l o f own).resident)) here;
    value = value_word o f (by_taken_down (value_by_taken o f) e.input (field_copy l o f own).value);
    leased = said_gives_none l e.sent (by_taken_down (standing_down l) e.input (field_copy l o f own).guard);
  }

  class_is_less : (o : ℕ) → class_moves.IsLess o (taken_class o e.input (class_copy o own)) (class_copy o (e ∷ own))
  class_is_less o = record {
    resident = λ here. sym (resident_word o (by_taken_down (resident_by_taken o) e.input (class_copy o own).resident)) ∙ unless_less o e.input (by_sent_up (resident_by_sent o) e.sent (by_taken_down (resident_by_taken o) e.input (class_copy o own).resident)) here;
    class = class_word o (by_taken_down (class_by_taken o) e.input (class_copy o own).class);
  }

-- a message that the input takes is the first of these
abbrev pub FirstOf : Input → List Down → Type 0
FirstOf (input.TookDown m) [] = ⊥
FirstOf (input.TookDown m) (x ∷ xs) = m ≡ x
FirstOf i ms = Unit {0}

-- what is left of the messages behind it
abbrev pub behind : Input → List Down → List Down
behind i ms = cond (takes_down i) (drop 1 ms) ms

module _ (shape : Shape) (c : ℕ) (s : PlainState) where
  field_input : (l : LockName) (o f : ℕ) (i : Input) (ms : List Down) (copy : FieldCopy) → FirstOf i ms → FieldStands l c o f s ms copy → FieldStands l c o f s (behind i ms) (taken_field l o f i copy)
  field_input l o f (input.TookDown m) [] copy first h = absurd first
  field_input l o f (input.TookDown m) (x ∷ ms) copy first h = field.field_taken l c o f s m ms copy (subst (λ y. FieldStands l c o f s (y ∷ ms) copy) (sym first) h)
  field_input l o f (input.Act index) ms copy first h = h
  field_input l o f (input.TookUp d m) ms copy first h = h
  field_input l o f (input.Flush x) ms copy first h = h
  field_input l o f (input.Lose d) ms copy first h = h
  field_input l o f (input.Break d) ms copy first h = h
  field_input l o f (input.Rejoin d) ms copy first h = h

  class_input : (o : ℕ) (i : Input) (ms : List Down) (copy : ClassCopy) → FirstOf i ms → ClassStands o s ms copy → ClassStands o s (behind i ms) (taken_class o i copy)
  class_input o (input.TookDown m) [] copy first h = absurd first
  class_input o (input.TookDown m) (x ∷ ms) copy first h = class_moves.class_taken o s m ms copy (subst (λ y. ClassStands o s (y ∷ ms) copy) (sym first) h)
  class_input o (input.Act index) ms copy first h = h
  class_input o (input.TookUp d m) ms copy first h = h
  class_input o (input.Flush x) ms copy first h = h
  class_input o (input.Lose d) ms copy first h = h
  class_input o (input.Break d) ms copy first h = h
  class_input o (input.Rejoin d) ms copy first h = h

  silent_input : (o : ℕ) (i : Input) (ms : List Down) → FirstOf i ms → AllByRecursion (λ m. speaks_of o m ≡ false) ms → AllByRecursion (λ m. speaks_of o m ≡ false) (behind i ms)
  silent_input o (input.TookDown m) [] first h = tt
  silent_input o (input.TookDown m) (x ∷ ms) first h = h.1
  silent_input o (input.Act index) ms first h = h
  silent_input o (input.TookUp d m) ms first h = h
  silent_input o (input.Flush x) ms first h = h
  silent_input o (input.Lose d) ms first h = h
  silent_input o (input.Break d) ms first h = h
  silent_input o (input.Rejoin d) ms first h = h

  -- The copies stand after an entry of the client that sends no record.
  pub copies_after_own : (p : Settings) (e : Entry) (own : List Entry) (ms : List Down) → (w : ClientWord p c e own) → NoRecord w.word → FirstOf e.input ms → CopiesStand shape c s ms own → CopiesStand shape c s (behind e.input ms) (e ∷ own)
  copies_after_own p e own ms w quiet first h = record {
    class = λ o. class_moves.class_less o s (behind e.input ms) (taken_class o e.input (class_copy o own)) (class_copy o (e ∷ own)) (class_is_less p c e own w quiet o) (class_input o e.input ms (class_copy o own) first (h.class o));
    field = λ o f. let l : LockName = guard_in shape s o f in
        field.field_less l c o f s (behind e.input ms) (taken_field l o f e.input (field_copy l o f own)) (field_copy l o f (e ∷ own)) (field_is_less p c e own w quiet l o f) (field_input l o f e.input ms (field_copy l o f own) first (h.field o f));
    shared = λ o unshared. silent_input o e.input ms first (h.shared o unshared);
  }
