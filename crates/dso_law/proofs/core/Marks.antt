-- The mark of an object is the number of the last record not acknowledged that changes it.
use Rattle.std.specs.List.{list_any}
use Rattle.std.proofs.Common.{ℕ, ◌<◌, ◌≡◌, inl, inr, refl, sym, ◌∙◌, ap, Bool, true, false, cond, ◌||◌, leb, is_some, Option, Some, None, List, [], ◌∷◌, ◌++◌, drop, arith}
use Rattle.std.proofs.lemmas.Bool.Decides.{leb_tells}
use Rattle.dso_base.specs.declared.journal.Entry.{Entry}
use Rattle.dso_base.specs.declared.journal.Input.{Input}
use Rattle.dso_base.specs.declared.journal.Input.TheVariants as input
use Rattle.dso_base.specs.declared.journal.Sent.{Sent}
use Rattle.dso_base.specs.declared.journal.Sent.TheVariants.{ToServer, ToClient}
use Rattle.dso_base.specs.declared.message.Down.TheVariants as down
use Rattle.dso_base.specs.declared.message.Up.{Up}
use Rattle.dso_base.specs.declared.message.Up.TheVariants as up
use Rattle.dso_base.specs.declared.record.Txn.{Txn}
use Rattle.dso_law.specs.Entries.{by_taken_down, by_sent_up}
use Rattle.dso_law.specs.Threads.{or_else}
use Rattle.dso_law.specs.Records.{unacked, unacked_by_taken, unacked_by_sent}
use Rattle.dso_law.specs.ClientStep.{changes_object}
use Rattle.dso_law.specs.ChangeMarks.{later_mark, mark_by_taken, mark_by_sent, change_mark, last_change, RiseAbove, AcksFirst, AcksInOrder}
use Rattle.dso_law.specs.CoreLaws.{MarksTell}

-- a number is at most itself
at_most_itself : (n : ℕ) → leb n n ≡ true
at_most_itself n = elim (leb_tells n n) [ inl h ↦ h.0 | inr h ↦ absurd (omega (arith, h.1)) ]

-- a greater number is not at most the lesser
over : (m n : ℕ) → n < m → leb m n ≡ false
over m n less = elim (leb_tells m n) [ inl h ↦ absurd (omega (arith, h.1, less)) | inr h ↦ h.0 ]

module _ (o : ℕ) where
  -- one more record at the end counts first
  last_more : (txns : List Txn) (txn : Txn) → last_change o (txns ++ txn ∷ []) ≡ cond (changes_object o txn) (Some txn.seq) (last_change o txns)
  last_more [] txn = refl
  last_more (first ∷ txns) txn = ap (λ last. or_else last (cond (changes_object o first) (Some first.seq) None)) (last_more txns txn) ∙ by (changes_object o txn)
    where
      by : (b : Bool) → or_else (cond b (Some txn.seq) (last_change o txns)) (cond (changes_object o first) (Some first.seq) None)
          ≡ cond b (Some txn.seq) (or_else (last_change o txns) (cond (changes_object o first) (Some first.seq) None))
      by true = refl
      by false = refl

  -- the last change is of one of the records
  last_above : (n : ℕ) (txns : List Txn) (mark : ℕ) → RiseAbove n txns → last_change o txns ≡ Some mark → n < mark
  last_above n [] mark rise is = absurd (cc is)
  last_above n (txn ∷ txns) mark rise is = by (last_change o txns) (changes_object o txn) refl (λ e. last_above txn.seq txns mark rise.1 e) is
    where
      by : (last : Option ℕ) (b : Bool) → last_change o txns ≡ last → (last_change o txns ≡ Some mark → txn.seq < mark) → or_else last (cond b (Some txn.seq) None) ≡ Some mark → n < mark
      by (Some m) b e above is = let over_it = above (e ∙ is) in let over_n = rise.0 in omega (arith, over_n, over_it)
      by None true e above is = let same : txn.seq ≡ mark = cc is in let over_n = rise.0 in omega (arith, over_n, same)
      by None false e above is = absurd (cc is)

  -- an acknowledgement of the first record leaves the mark of those behind it
  mark_acked : (seq : ℕ) (txn : Txn) (txns : List Txn) → seq ≡ txn.seq → RiseAbove seq txns → later_mark seq (last_change o (txn ∷ txns)) ≡ last_change o txns
  mark_acked seq txn txns first rise = by (last_change o txns) (changes_object o txn) refl
    where
      by : (last : Option ℕ) (b : Bool) → last_change o txns ≡ last → later_mark seq (or_else last (cond b (Some txn.seq) None)) ≡ last
      by (Some mark) b e = ap (λ t. cond t None (Some mark)) (over mark seq (last_above seq txns mark rise e))
      by None true e = ap (λ n. cond (leb n seq) None (Some n)) (sym first) ∙ ap (λ t. cond t None (Some seq)) (at_most_itself seq)
      by None false e = refl

  acked : (seq : ℕ) (txns : List Txn) → AcksFirst (input.TookDown (down.Ack seq)) txns → later_mark seq (last_change o txns) ≡ last_change o (drop 1 txns)
  acked seq [] h = absurd h
  acked seq (txn ∷ txns) h = mark_acked seq txn txns h.0 h.1

  taken : (i : Input) (txns : List Txn) → AcksFirst i txns → by_taken_down mark_by_taken i (last_change o txns) ≡ last_change o (by_taken_down unacked_by_taken i txns)
  taken (input.TookDown (down.Ack seq)) txns h = acked seq txns h
  taken (input.TookDown m) txns h = refl
  taken i txns h = refl

  said : (m : Up) (txns : List Txn) → mark_by_sent o m (last_change o txns) ≡ last_change o (unacked_by_sent m txns)
  said (up.Commit txn) txns = sym (last_more txns txn)
  said m txns = refl

  sent : (out : List Sent) (mark : Option ℕ) (txns : List Txn) → mark ≡ last_change o txns → by_sent_up (mark_by_sent o) out mark ≡ last_change o (by_sent_up unacked_by_sent out txns)
  sent [] mark txns h = h
  sent (ToServer m ∷ out) mark txns h = sent out (mark_by_sent o m mark) (unacked_by_sent m txns) (ap (mark_by_sent o m) h ∙ said m txns)
  sent (ToClient c m ∷ out) mark txns h = sent out mark txns h

  marked : (es : List Entry) → AcksInOrder es → change_mark o es ≡ last_change o (unacked es)
  marked [] h = refl
  marked (e ∷ es) h = sent e.sent (by_taken_down mark_by_taken e.input (change_mark o es)) (by_taken_down unacked_by_taken e.input (unacked es))
      (ap (by_taken_down mark_by_taken e.input) (marked es h.0) ∙ taken e.input (unacked es) h.1)

  -- there is a last change where a record changes the object
  there_is : (txns : List Txn) → is_some (last_change o txns) ≡ list_any (changes_object o) txns
  there_is [] = refl
  there_is (txn ∷ txns) = by (last_change o txns) (changes_object o txn) (there_is txns)
    where
      by : (last : Option ℕ) (b : Bool) → is_some last ≡ list_any (changes_object o) txns → is_some (or_else last (cond b (Some txn.seq) None)) ≡ (b || list_any (changes_object o) txns)
      by (Some mark) true rest = refl
      by (Some mark) false rest = rest
      by None true rest = refl
      by None false rest = rest

-- Where records are acknowledged in order, the mark tells of the records that aren't.
pub marks_tell : MarksTell
marks_tell o es h = record { last = marked o es h; there = ap is_some (marked o es h) ∙ there_is o (unacked es) }
