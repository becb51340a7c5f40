-- Which numbers are kept, and which is the least.
use Rattle.std.specs.Prelude.{ℕ, ◌≡◌, ◌≤◌, Bool, true}
use Rattle.std.specs.BTreeMap.{is_at}
use Rattle.std.specs.BTreeSet.{contains}
use Rattle.std.specs.Ordering.{nat_cmp}
use Rattle.dso_lookup.specs.Maps.{writes, written}
use Rattle.dso_txn.specs.declared.unacked.Unacked.{Unacked}

-- the numbers that are kept
abbrev pub numbers_in : Unacked → ℕ → Bool
numbers_in unacked = contains nat_cmp unacked.numbers

-- the numbers with this one kept or not
abbrev pub with_number : ℕ → Bool → (ℕ → Bool) → ℕ → Bool
with_number seq is_kept numbers = written (writes (is_at (nat_cmp seq)) (λ _. is_kept)) numbers

-- the number is kept, and no lesser one is
pub record IsLeast (seq : ℕ) (numbers : ℕ → Bool) : Type 0 where
  pub kept : numbers seq ≡ true
  pub least : (n : ℕ) → numbers n ≡ true → seq ≤ n
