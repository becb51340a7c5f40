-- The ids once a request was answered.
use Rattle.std.proofs.Common.{◌≡◌, ℕ, suc, ◌+◌, ◌≤◌, refl, sym, ◌∙◌, ap, arith, inl, inr, Bool, true, false, cond, ltb, subst, Some, None}
use Rattle.std.proofs.lemmas.Bool.{lt-ltb, le-ltb}
use Rattle.std.proofs.lemmas.Bool.Decides.{leb_tells}
use Rattle.dso_base.specs.declared.request.Reply.TheVariants.{Made}
use Rattle.dso_ids.specs.Ids.{Ids, without_first}
use Rattle.dso_law.specs.Records.{batches, made, made_by_reply, id_at}
use Rattle.dso_client.specs.declared.answered.Answered.{Answered}
use Rattle.dso_client.specs.declared.sequences.Sequences.{Sequences}
use Rattle.dso_client.specs.SequencesStand.{SequencesStand, ids_in}
use Rattle.dso_client.specs.ActEffects.{applied}
use Rattle.dso_client.specs.RunPoints.{RunPoint}

-- a pool with ids left, and one without
abbrev taken : Ids → Bool → Ids
taken pool b = cond b (record pool { next = pool.next + 1 }) pool

-- the id behind so many, once the first one was taken
one_less : (pool : Ids) (k : ℕ) → ids_in (without_first pool) k ≡ ids_in pool (suc k)
one_less pool k = elim (leb_tells pool.end pool.next) [
  | inl h ↦
      let late = h.1 in
      ap (λ b. ids_in (taken pool b) k) (le-ltb pool.next pool.end late)
      ∙ (ap (λ b. cond b (Some (pool.next + k)) None) (le-ltb (pool.next + k) pool.end (omega (arith, late)))
      ∙ sym (ap (λ b. cond b (Some (pool.next + suc k)) None) (le-ltb (pool.next + suc k) pool.end (omega (arith, late)))))
  | inr h ↦
      let less = h.1 in
      let same : (pool.next + 1) + k ≡ pool.next + suc k = omega arith in
      ap (λ b. ids_in (taken pool b) k) (lt-ltb pool.next pool.end less) ∙ ap (λ n. cond (ltb n pool.end) (Some n) None) same
]

still_bounded : (pool : Ids) → pool.next ≤ pool.end → (without_first pool).next ≤ (without_first pool).end
still_bounded pool h = elim (leb_tells pool.end pool.next) [
  | inl g ↦ subst (λ b. (taken pool b).next ≤ (taken pool b).end) (sym (le-ltb pool.next pool.end g.1)) h
  | inr g ↦
      let less = g.1 in
      let after : pool.next + 1 ≤ pool.end = omega (arith, less) in
      subst (λ b. (taken pool b).next ≤ (taken pool b).end) (sym (lt-ltb pool.next pool.end g.1)) after
]

same_end : (pool : Ids) (b : Bool) → (taken pool b).end ≡ pool.end
same_end pool true = refl
same_end pool false = refl

module _ (clock : ℕ) (at : RunPoint) (act : Answered) (old : Sequences) (h : SequencesStand at old) where
  -- a new object takes the first id
  pub id_applied : (o : ℕ) → act.reply ≡ Made o → SequencesStand (applied clock act at) (record old { pool = without_first old.pool })
  id_applied o is = record {
    ids = λ k. one_less old.pool k ∙ (h.ids (suc k) ∙ ap (λ n. id_at (batches at.entries) n) (counted k));
    bounded = still_bounded old.pool h.bounded;
    end = same_end old.pool (ltb old.pool.next old.pool.end) ∙ h.end;
    asking = h.asking;
    records = h.records;
    unacked = h.unacked;
  }
    where
      counted : (k : ℕ) → made at.entries + suc k ≡ made_by_reply act.reply (made at.entries) + k
      counted k = let one : made at.entries + suc k ≡ suc (made at.entries) + k = omega arith in one ∙ ap (λ r. made_by_reply r (made at.entries) + k) (sym is)
