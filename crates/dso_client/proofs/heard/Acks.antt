-- An acknowledgement that was taken.
use Rattle.std.proofs.Common.{◌≡◌, ◌↔◌, ℕ, refl, sym, ◌∙◌, ap, subst, inl, inr, IsTrue, Bool, true, false, cond, eqb, ◌||◌, Option, Some, None, List, [], ◌∷◌, drop, suc, ◌+◌, ◌≤◌, max, length, arith}
use Rattle.std.proofs.lemmas.Bool.{eqb-true, lt-ltb, le-ltb}
use Rattle.std.proofs.lemmas.Bool.Decides.{leb_tells}
use Rattle.std.specs.Bool.{OnTrue}
use Rattle.dso_base.specs.declared.message.Down.TheVariants as down
use Rattle.dso_base.specs.declared.record.Txn.{Txn}
use Rattle.dso_law.specs.ChangeMarks.{later_mark}
use Rattle.dso_law.specs.FitsDown.{FitsAck}
use Rattle.dso_law.specs.Records.{unacked, records}
use Rattle.dso_law.specs.RunLaws.{NumberedFrom}
use Rattle.dso_table.specs.declared.tables.ObjectTables.{ObjectTables}
use Rattle.dso_table.specs.States.{State, body_of, is_asked, acknowledged, later_than}
use Rattle.dso_table.specs.ObjectTables.{state_in}
use Rattle.dso_txn.specs.Numbers.{numbers_in, with_number, IsLeast}
use Rattle.dso_client.specs.declared.sequences.Sequences.{Sequences}
use Rattle.dso_client.specs.MessageEffects.{heard}
use Rattle.dso_client.specs.SequencesStand.{SequencesStand}
use Rattle.dso_client.specs.RunPoints.{RunPoint}
use Rattle.dso_client.specs.RunFacts.{RunFacts}
use Rattle.dso_client.specs.TableStands.{TableStands}
use Rattle.dso_client.proofs.lock_standing.FirstAcked.{among, not_behind, first_is_least}
use Rattle.dso_client.proofs.flushed.Flushed.{at_number}
use Rattle.dso_client.proofs.heard.Locks.{on_true}

-- the numbers without the first
without_first : (k seq : ℕ) (txns : List Txn) (n : ℕ) → NumberedFrom k txns → FitsAck seq txns → cond (eqb seq n) false (among txns n) ≡ among (drop 1 txns) n
without_first k seq [] n h fits = absurd fits
without_first k seq (txn ∷ txns) n h fits = by (eqb seq n) refl
  where
    by : (b : Bool) → eqb seq n ≡ b → cond b false (eqb txn.seq n || among txns n) ≡ among txns n
    by true e = sym (ap (among txns) (sym (eqb-true seq n e) ∙ fits) ∙ not_behind k txn txns h)
    by false e = ap (λ b. b || among txns n) (ap (λ s. eqb s n) (sym fits) ∙ e)

pub ack_heard : (clock seq : ℕ) (at : RunPoint) (old new : Sequences) → SequencesStand at old → RunFacts at → FitsAck seq (unacked at.entries) → (done : Bool)
    → IsTrue done ↔ IsLeast seq (numbers_in old.unacked) → OnTrue done (numbers_in new.unacked ≡ with_number seq false (numbers_in old.unacked))
    → new ≡ record old { unacked = new.unacked } → SequencesStand (heard clock (down.Ack seq) at) new
ack_heard clock seq at old new h facts fits done least gone same =
    let it = on_true done (numbers_in new.unacked ≡ with_number seq false (numbers_in old.unacked))
    (least.1 (first_is_least facts.numbered.acked (unacked at.entries) seq (numbers_in old.unacked) facts.numbered.numbers h.unacked fits)) gone in
    subst (SequencesStand (heard clock (down.Ack seq) at)) (sym same) (record {
      ids = h.ids;
      bounded = h.bounded;
      end = h.end;
      asking = h.asking;
      records = h.records;
      unacked = λ n. ap (λ numbers. numbers n) it ∙ (at_number seq false (numbers_in old.unacked) n
          ∙ (ap (cond (eqb seq n) false) (h.unacked n) ∙ without_first facts.numbered.acked seq (unacked at.entries) n facts.numbered.numbers fits));
    })

later_same : (seq : ℕ) (mark : Option ℕ) → later_than seq mark ≡ later_mark seq mark
later_same seq None = refl
later_same seq (Some n) = elim (leb_tells n seq) [
  | inl h ↦ ap (λ b. cond b (Some n) None) (le-ltb seq n h.1) ∙ sym (ap (λ b. cond b None (Some n)) h.0)
  | inr h ↦ ap (λ b. cond b (Some n) None) (lt-ltb seq n h.1) ∙ sym (ap (λ b. cond b None (Some n)) h.0)
]

-- the first record that isn't acknowledged has no greater number than the last one sent
pub acked_was_sent : (at : RunPoint) (seq : ℕ) → RunFacts at → FitsAck seq (unacked at.entries) → seq ≤ records at.entries
acked_was_sent at seq facts fits = by facts.numbered.acked (unacked at.entries) (records at.entries) facts.numbered.numbers facts.numbered.whole fits
  where
    by : (k : ℕ) (txns : List Txn) (n : ℕ) → NumberedFrom k txns → k + length txns ≡ n → FitsAck seq txns → seq ≤ n
    by k [] n h whole fits = absurd fits
    by k (txn ∷ txns) n h whole fits =
        let first : txn.seq ≡ suc k = h.0 in
        let same : seq ≡ txn.seq = fits in
        omega (arith, first, same, whole)

pub acked_heard : (clock seq : ℕ) (at : RunPoint) (old new : ObjectTables) → TableStands at old → seq ≤ records at.entries → state_in new ≡ acknowledged seq (state_in old)
    → TableStands (heard clock (down.Ack seq) at) new
acked_heard clock seq at old new h sent is = record {
  bodies = λ x. ap (λ (s : State). body_of (s.standing x)) is ∙ h.bodies x;
  asked = λ x. ap (λ (s : State). is_asked (s.standing x)) is ∙ h.asked x;
  marks = λ x. ap (λ (s : State). s.marks x) is ∙ (ap (later_than seq) (h.marks x) ∙ later_same seq _);
  opened = λ t x. ap (λ (s : State). s.opened (t, x)) is ∙ h.opened t x;
  wanted = λ t x. ap (λ (s : State). s.wanted (t, x)) is ∙ h.wanted t x;
  room = ap (λ (s : State). s.limit) is ∙ h.room;
  count = ap (λ (s : State). s.residents) is ∙ h.count;
  acked = subst (λ n. n ≤ records at.entries) (sym (ap (λ (s : State). s.acked) is)) (most (state_in old).acked h.acked);
  order = ap (λ (s : State). s.used) is ∙ h.order;
}
  where
    most : (n : ℕ) → n ≤ records at.entries → max seq n ≤ records at.entries
    most n few = omega (arith, few, sent)
