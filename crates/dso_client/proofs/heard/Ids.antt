-- A batch of ids that was taken.
use Rattle.std.proofs.Common.{◌≡◌, ℕ, ◌+◌, ◌*◌, ◌≤◌, refl, sym, ◌∙◌, ap, arith, inl, inr, false, cond, ltb, Some, None, List, [], ◌∷◌, ◌++◌, length}
use Rattle.std.proofs.lemmas.Bool.{lt-ltb, le-ltb}
use Rattle.std.proofs.lemmas.Bool.Decides.{leb_tells}
use Rattle.dso_base.specs.declared.message.Down.TheVariants as down
use Rattle.dso_ids.specs.Ids.{filled}
use Rattle.dso_law.specs.FitsDown.{FitsIds}
use Rattle.dso_law.specs.Records.{batches, made, id_at}
use Rattle.dso_law.specs.RunLaws.{IdsAreTaken}
use Rattle.dso_law.specs.Settings.{batch_size}
use Rattle.dso_law.proofs.core.Ids.{ids_are_ahead}
use Rattle.dso_client.specs.declared.sequences.Sequences.{Sequences}
use Rattle.dso_client.specs.MessageEffects.{heard}
use Rattle.dso_client.specs.SequencesStand.{SequencesStand, ids_in, ids_end}
use Rattle.dso_client.specs.RunPoints.{RunPoint}
use Rattle.dso_client.proofs.contexts.BatchEnds.{behind_all}

-- one more batch ends behind all others
end_more : (first : ℕ) (bs : List ℕ) → ids_end bs ≤ first → ids_end (bs ++ first ∷ []) ≡ first + 256
end_more first [] h = omega (arith, h)
end_more first (b ∷ bs) h =
    let rest = end_more first bs (omega (arith, h)) in
    let here : b + 256 ≤ first = omega (arith, h) in
    omega (arith, rest, here)

-- the ids of a batch
of_batch : (first k : ℕ) → ids_in (filled first) k ≡ cond (ltb k 256) (Some (first + k)) None
of_batch first k = elim (leb_tells 256 k) [
  | inl h ↦
      let late = h.1 in
      ap (λ b. cond b (Some (first + k)) None) (le-ltb (first + k) (first + 256) (omega (arith, late)) ∙ sym (le-ltb k 256 late))
  | inr h ↦
      let early = h.1 in
      ap (λ b. cond b (Some (first + k)) None) (lt-ltb (first + k) (first + 256) (omega (arith, early)) ∙ sym (lt-ltb k 256 early))
]

module _ (clock first : ℕ) (at : RunPoint) (fits : FitsIds first at.entries) (taken : IdsAreTaken at.entries) where
  all_made : made at.entries ≡ batch_size * length (batches at.entries)
  all_made = taken.all fits.asked

  pub batch_heard : (old : Sequences) → SequencesStand at old → SequencesStand (heard clock (down.Ids first) at) (record old { pool = filled first; is_asking = false })
  batch_heard old h = record {
    ids = λ k. of_batch first k ∙ (sym (ids_are_ahead.more (batches at.entries) first k) ∙ ap (λ n. id_at (batches at.entries ++ first ∷ []) (n + k)) (sym all_made));
    bounded = omega arith;
    end = sym (end_more first (batches at.entries) (behind_all first (batches at.entries) fits.above fits.new));
    asking = refl;
    records = h.records;
    unacked = h.unacked;
  }

  -- while a batch is asked for, no id is left
  pub none_left : (old : Sequences) → SequencesStand at old → old.pool.next ≡ old.pool.end
  none_left old h = elim (leb_tells old.pool.end old.pool.next) [
    | inl g ↦
        let most = g.1 in
        let least = h.bounded in
        omega (arith, most, least)
    | inr g ↦
        let less = g.1 in
        let zero_more : old.pool.next + 0 ≡ old.pool.next = omega arith in
        let there : ids_in old.pool 0 ≡ Some (old.pool.next + 0) = ap (λ b. cond b (Some (old.pool.next + 0)) None) (lt-ltb (old.pool.next + 0) old.pool.end (omega (arith, less))) in
        let none : id_at (batches at.entries) (made at.entries + 0) ≡ None = ap (λ n. id_at (batches at.entries) (n + 0)) all_made ∙ ids_are_ahead.none (batches at.entries) 0 in
        absurd (cc (sym there ∙ (h.ids 0 ∙ none)))
  ]
