-- A store's file that was taken, before anything was written to it.
use Rattle.std.proofs.Common.{◌≡◌, ◌⊎◌, inl, inr, refl, sym, ◌∙◌, subst, ℕ, ◌<◌, ◌≤◌, List, [], length, Option, Some, None}
use Rattle.std.specs.Option.{IfSome}
use Rattle.dso_keep.specs.Crash.{CrashLeaves}
use Rattle.dso_keep.specs.Disk.{Attached, File, bytes_in, changed}
use Rattle.dso_keep.specs.Keeping.{IsInUse}
use Rattle.dso_keep.specs.Packets.{IsShort, IsUnused}
use Rattle.dso_keep.specs.Records.{HoldsRecords}
use Rattle.dso_keep.proofs.crash.Creating.{before_first}
use Rattle.dso_keep.proofs.crash.Moments.{starts}

-- For the bytes of the file that is taken:
module _ (found : List ℕ) where
  -- what is true of its bytes is true of those
  pub of_taken : (P : List ℕ → Type 0) (old : Option File) → IfSome (changed (Attached found) old) (λ f. P (bytes_in f)) → IfSome old (λ f. P found)
  of_taken P None is = tt
  of_taken P (Some f) is = is

  -- where they are at most one, it is unused
  unused : (old : Option File) → length found ≤ 1 → IsUnused (changed (Attached found) old)
  unused None short = tt
  unused (Some f) short = (short, refl)

  pub short_unused : (old : Option File) → IsShort (changed (Attached found) old) → IsUnused (changed (Attached found) old)
  short_unused None short = tt
  short_unused (Some f) short = (short, refl)

  -- and a crash leaves no record
  taken_leaves : (old : Option File) → length found ≤ 1 → CrashLeaves (λ left. HoldsRecords left []) (changed (Attached found) old) (changed (Attached found) old)
  taken_leaves old short = starts (λ left. HoldsRecords left []) (changed (Attached found) old) (before_first (changed (Attached found) old) (unused old short))

  -- A call that was to take it and failed took it or did nothing: so nothing was written,
  pub unwritten : (old new : Option File) → (new ≡ changed (Attached found) old) ⊎ (new ≡ old) → (new ≡ old) ⊎ (new ≡ changed (Attached found) old)
  unwritten old new (inl taken) = inr taken
  unwritten old new (inr same) = inl same

  -- and a crash leaves no record then
  pub untaken_leaves : (old new : Option File) → (new ≡ changed (Attached found) old) ⊎ (new ≡ old) → length found ≤ 1
      → (new ≡ old) ⊎ CrashLeaves (λ left. HoldsRecords left []) (changed (Attached found) old) new
  untaken_leaves old new (inr same) short = inl same
  untaken_leaves old new (inl taken) short =
      inr (subst (CrashLeaves (λ left. HoldsRecords left []) (changed (Attached found) old)) (sym taken) (taken_leaves old short))

  -- It was taken, and a store is made in it.
  module _ (old mid new : Option File) (is : mid ≡ changed (Attached found) old) (crash : IsUnused mid → CrashLeaves (λ left. HoldsRecords left []) mid new) where
    -- it had at most one byte,
    pub was_short : IsShort mid → IfSome old (λ f. length found ≤ 1)
    was_short short = of_taken (λ bytes. length bytes ≤ 1) old (subst IsShort is short)

    -- so a crash leaves no record,
    pub made_leaves : IsShort mid → CrashLeaves (λ left. HoldsRecords left []) (changed (Attached found) old) new
    made_leaves short =
        subst (λ m. CrashLeaves (λ left. HoldsRecords left []) m new) is (crash (subst IsUnused (sym is) (short_unused old (subst IsShort is short))))

    -- and also where making it failed
    pub unmade_leaves : length found ≤ 1 → (new ≡ old) ⊎ CrashLeaves (λ left. HoldsRecords left []) (changed (Attached found) old) new
    unmade_leaves short =
        inr (subst (λ m. CrashLeaves (λ left. HoldsRecords left []) m new) is (crash (subst IsUnused (sym is) (unused old short))))

  -- it is in use
  longer : (count : ℕ) (old : Option File) → 1 < count → IfSome (changed (Attached found) old) (λ f. count ≡ length (bytes_in f)) → IfSome old (λ f. 1 < length found)
  longer count None less same = tt
  longer count (Some f) less same = subst (λ n. 1 < n) same less

  pub in_use : (count : ℕ) (old mid new : Option File) → mid ≡ changed (Attached found) old → IsInUse count mid new
      → IfSome old (λ f. 1 < length found) × (new ≡ changed (Attached found) old)
  in_use count old mid new is used =
      (longer count old used.0 (subst (λ m. IfSome m (λ f. count ≡ length (bytes_in f))) is used.1), used.2 ∙ is)
