-- A client's ids and the numbers of its records stand for its entries.
use Rattle.std.specs.List.{list_any}
use Rattle.std.specs.Prelude.{◌≡◌, ◌≤◌, ℕ, ◌+◌, eqb, cond, ltb, max, Option, Some, None, List, [], ◌∷◌}
use Rattle.dso_law.specs.Settings.{batch_size}
use Rattle.dso_law.specs.Records.{batches, is_batch_asked, records, unacked}
use Rattle.dso_law.specs.IdsAhead.{ids_from}
use Rattle.dso_ids.specs.Ids.{Ids}
use Rattle.dso_txn.specs.Numbers.{numbers_in}
use Rattle.dso_client.specs.declared.sequences.Sequences.{Sequences}
use Rattle.dso_client.specs.RunPoints.{RunPoint}

-- the id that a pool gives after so many more
abbrev pub ids_in : Ids → ℕ → Option ℕ
ids_in pool k = cond (ltb (pool.next + k) pool.end) (Some (pool.next + k)) None

-- the number behind the greatest id of the batches, 1 where there is no batch
abbrev pub ids_end : List ℕ → ℕ
ids_end [] = 1
ids_end (first ∷ batches) = max (first + batch_size) (ids_end batches)

-- The ids ahead, and the one behind them; whether a batch is asked for; how many records were sent, and the numbers of
-- those that aren't acknowledged.
pub record SequencesStand (at : RunPoint) (sequences : Sequences) : Type 0 where
  pub ids : (k : ℕ) → ids_in sequences.pool k ≡ ids_from k at.entries
  pub bounded : sequences.pool.next ≤ sequences.pool.end
  pub end : sequences.pool.end ≡ ids_end (batches at.entries)
  pub asking : sequences.is_asking ≡ is_batch_asked at.entries
  pub records : sequences.records ≡ records at.entries
  pub unacked : (n : ℕ) → numbers_in sequences.unacked n ≡ list_any (λ txn. eqb txn.seq n) (unacked at.entries)
