-- How the moments of a call go on.
use Rattle.std.proofs.Common.{◌≡◌, inl, inr, ℕ, suc, ◌+◌, ◌≤◌, List, [], ◌∷◌, ◌++◌, length, length-append, refl, sym, ◌∙◌, ap, subst, arith, Option, Some, None, Result, Ok, Err, true}
use Rattle.std.specs.Option.{IfSome}
use Rattle.dso_keep.specs.Crash.{LeavesOnly, CrashLeaves}
use Rattle.dso_keep.specs.Disk.{Change, File, MayLeave, Makes, Writes, changed, bytes_in, is_settled}
use Rattle.dso_keep.specs.Disk.{Attached, Wrote, Synced}

-- where no write is pending, a crash leaves what a read gives
pub settled_leaves : (first : List ℕ) (changes : List Change) (left : List ℕ) → is_settled changes ≡ true → MayLeave first changes left → left ≡ bytes_in (record { first = first; changes = changes })
settled_leaves first [] left is leaves = leaves
settled_leaves first (Attached bytes ∷ changes) left is leaves = leaves
settled_leaves first (Synced ∷ changes) left is leaves = leaves
settled_leaves first (Wrote at bytes ∷ changes) left is leaves = absurd (cc is)

-- of two lists with one sum the second is the whole, where it isn't shorter
no_more : {X : Type 0} (xs later sooner : List X) → xs ≡ later ++ sooner → length xs ≤ length sooner → sooner ≡ xs
no_more xs [] sooner is long = sym is
no_more xs (x ∷ later) sooner is long =
    let total : length xs ≡ suc (length later) + length sooner = ap length is ∙ length-append (x ∷ later) sooner in absurd (omega (arith, total, long))

module _ (P : List ℕ → Type 0) where
  -- before the first change
  pub started : (f : File) → ((left : List ℕ) → MayLeave f.first f.changes left → P left) → LeavesOnly P f f
  started f here = record {
    first = refl;
    goes_on = ([], refl);
    each = λ later sooner is long left leaves. here left (subst (λ changes. MayLeave f.first changes left) (no_more f.changes later sooner is long) leaves);
  }

  -- one change more
  pub goes_on : (old mid : File) (change : Change) → LeavesOnly P old mid → ((left : List ℕ) → MayLeave mid.first (change ∷ mid.changes) left → P left)
      → LeavesOnly P old (record mid { changes = change ∷ mid.changes })
  goes_on old mid change so_far here = record {
    first = so_far.first;
    goes_on = (change ∷ so_far.goes_on.0, ap (λ (l : List Change). change ∷ l) so_far.goes_on.1);
    each = by;
  }
    where
      by : (later sooner : List Change) → change ∷ mid.changes ≡ later ++ sooner → length old.changes ≤ length sooner → (left : List ℕ) → MayLeave mid.first sooner left → P left
      by [] sooner is long left leaves = here left (subst (λ changes. MayLeave mid.first changes left) (sym is) leaves)
      by (x ∷ later) sooner is long left leaves = so_far.each later sooner (cc is) long left leaves

  -- the same, where the file is told
  pub starts : (file : Option File) → IfSome file (λ f. (left : List ℕ) → MayLeave f.first f.changes left → P left) → CrashLeaves P file file
  starts None here = tt
  starts (Some f) here = started f here

  changes_on : (old mid : Option File) (change : Change) → CrashLeaves P old mid → IfSome mid (λ m. (left : List ℕ) → MayLeave m.first (change ∷ m.changes) left → P left)
      → CrashLeaves P old (changed change mid)
  changes_on None None change so_far here = tt
  changes_on (Some old) (Some mid) change so_far here = goes_on old mid change so_far here
  changes_on None (Some mid) change so_far here = so_far
  changes_on (Some old) None change so_far here = so_far

  -- a call more, whether it failed or not
  pub calls_on : {A F : Type 0} (old mid new : Option File) (change : Change) (result : Result A F) → CrashLeaves P old mid → Makes change mid new result
      → IfSome mid (λ m. (left : List ℕ) → MayLeave m.first (change ∷ m.changes) left → P left) → CrashLeaves P old new
  calls_on old mid new change (Ok answer) so_far makes here = subst (CrashLeaves P old) (sym makes) (changes_on old mid change so_far here)
  calls_on old mid new change (Err fault) so_far (inl made) here = subst (CrashLeaves P old) (sym made) (changes_on old mid change so_far here)
  calls_on old mid new change (Err fault) so_far (inr same) here = subst (CrashLeaves P old) (sym same) so_far

  -- a write more, whether it failed or not
  pub writes_on : {A F : Type 0} (old mid new : Option File) (at : ℕ) (bytes : List ℕ) (result : Result A F) → CrashLeaves P old mid → Writes at bytes mid new result
      → ((part : List ℕ) → length part ≤ length bytes → IfSome mid (λ m. (left : List ℕ) → MayLeave m.first (Wrote at part ∷ m.changes) left → P left)) → CrashLeaves P old new
  writes_on old mid new at bytes (Ok answer) so_far writes here = subst (CrashLeaves P old) (sym writes) (changes_on old mid (Wrote at bytes) so_far (here bytes (omega arith)))
  writes_on old mid new at bytes (Err fault) so_far (inl wrote) here =
      subst (CrashLeaves P old) (sym wrote.2) (changes_on old mid (Wrote at wrote.0) so_far (here wrote.0 wrote.1))
  writes_on old mid new at bytes (Err fault) so_far (inr same) here = subst (CrashLeaves P old) (sym same) so_far

-- what is true of all that P leaves is true of a crash
pub leaves_so : (P Q : List ℕ → Type 0) (old new : Option File) → ((left : List ℕ) → P left → Q left) → CrashLeaves P old new → CrashLeaves Q old new
leaves_so P Q None None so leaves = tt
leaves_so P Q (Some old) (Some new) so leaves = record {
  first = leaves.first;
  goes_on = leaves.goes_on;
  each = λ later sooner is long left may. so left (leaves.each later sooner is long left may);
}
leaves_so P Q None (Some new) so leaves = leaves
leaves_so P Q (Some old) None so leaves = leaves
