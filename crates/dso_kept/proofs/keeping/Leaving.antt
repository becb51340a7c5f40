-- What a crash leaves of the records of a run: in a step, and in all the steps so far.
use Rattle.std.specs.Option.{IfSome}
use Rattle.std.proofs.Common.{◌≡◌, ◌⊎◌, inl, inr, ℕ, ◌<◌, ◌≤◌, List, [], ◌∷◌, ◌++◌, length, take, refl, sym, ◌∙◌, ap, subst, arith, Option, Some, None}
use Rattle.std.proofs.lemmas.Bool.{cases_lt}
use Rattle.std.proofs.lemmas.List.{append-nil, take_at, take_all, take-append-le}
use Rattle.dso_base.specs.declared.record.Txn.{Txn}
use Rattle.dso_base.specs.declared.shape.Shape.{Shape}
use Rattle.dso_keep.specs.declared.keep.Keep.{Keep}
use Rattle.dso_keep.specs.Crash.{CrashLeaves}
use Rattle.dso_keep.specs.Disk.{File, MayLeave}
use Rattle.dso_keep.specs.Keeping.{KeepStands}
use Rattle.dso_keep.specs.Records.{AllFit, HoldsRecords, Reopens, opening}
use Rattle.dso_keep.proofs.crash.Moments.{leaves_so, settled_leaves, starts}
use Rattle.dso_keep.proofs.keeping.Kept.{holds}
use Rattle.dso_kept.specs.Keeping.{IsStoreOf, ReopensEither, ReopensFirst, with_one}
use Rattle.dso_kept.proofs.keeping.Stretches.{goes_through}

-- ---- nothing is done

reopens_now : (shape : Shape) (records : List (ℕ × Txn)) (keep : Keep) (file : Option File) → KeepStands records keep file → AllFit shape (opening shape) records
    → IfSome file (λ f. (left : List ℕ) → MayLeave f.first f.changes left → Reopens shape left records)
reopens_now shape records keep None stands fit = tt
reopens_now shape records keep (Some f) stands fit = λ left may.
    let is = settled_leaves f.first f.changes left stands.kept.1 may ∙ stands.kept.0 in
    record { holds = subst (λ l. HoldsRecords l records) (sym is) (holds records stands.grammar); fit = fit }

-- where nothing is done a crash leaves the records of the keep
pub unchanged_reopens : (shape : Shape) (before after : List (ℕ × Txn)) (keep : Keep) (file : Option File) → KeepStands before keep file → AllFit shape (opening shape) before
    → CrashLeaves (ReopensEither shape before after) file file
unchanged_reopens shape before after keep file stands fit =
    leaves_so (λ left. Reopens shape left before) (ReopensEither shape before after) file file (λ left reopens. inl reopens)
    (starts (λ left. Reopens shape left before) file (reopens_now shape before keep file stands fit))

-- and reopening the file gives them
pub store_of : (shape : Shape) (records : List (ℕ × Txn)) (keep : Keep) (file : Option File) → KeepStands records keep file → AllFit shape (opening shape) records → IsStoreOf shape records file
store_of shape records keep None stands fit = tt
store_of shape records keep (Some f) stands fit =
    (stands.kept.1, record { holds = subst (λ l. HoldsRecords l records) (sym stands.kept.0) (holds records stands.grammar); fit = fit })

-- what has no record reopens to none of any
pub none_first : (shape : Shape) (records : List (ℕ × Txn)) (old new : Option File) → CrashLeaves (λ left. HoldsRecords left []) old new → CrashLeaves (ReopensFirst shape records) old new
none_first shape records old new leaves =
    leaves_so (λ left. HoldsRecords left []) (ReopensFirst shape records) old new (λ left none. (0, record { holds = none; fit = tt })) leaves

-- ---- a run

-- the records, and others behind them
abbrev pub GoOn : List (ℕ × Txn) → List (ℕ × Txn) → Type 0
GoOn records more = (rest : List (ℕ × Txn)) × (more ≡ records ++ rest)

pub one_goes_on : (r : Option (ℕ × Txn)) (records more : List (ℕ × Txn)) → more ≡ with_one r records → GoOn records more
one_goes_on None records more is = ([], is ∙ sym (append-nil records))
one_goes_on (Some r) records more is = (r ∷ [], is)

pub same_goes_on : (records : List (ℕ × Txn)) → GoOn records records
same_goes_on records = ([], sym (append-nil records))

-- the first of a list are the first of one with more behind it
first_of : (n : ℕ) (xs ys : List (ℕ × Txn)) → (m : ℕ) × (take m (xs ++ ys) ≡ take n xs)
first_of n xs ys = by (cases_lt n (length xs))
  where
    by : (n < length xs) ⊎ (length xs ≤ n) → (m : ℕ) × (take m (xs ++ ys) ≡ take n xs)
    by (inl few) = (n, take-append-le n xs ys (omega (arith, few)))
    by (inr all) = (length xs, take_at xs ys (length xs) refl ∙ sym (take_all n xs all))

module _ (shape : Shape) (records more : List (ℕ × Txn)) (on : GoOn records more) where
  still : (left : List ℕ) → ReopensFirst shape records left → ReopensFirst shape more left
  still left some =
      let same = first_of some.0 records on.0 in
      (same.0, subst (Reopens shape left) (sym (ap (take same.0) on.1 ∙ same.1)) some.1)

  either : (left : List ℕ) → ReopensEither shape records more left → ReopensFirst shape more left
  either left (inl before) = (length records, subst (Reopens shape left) (sym (ap (take (length records)) on.1 ∙ take_at records on.0 (length records) refl)) before)
  either left (inr after) = (length more, subst (Reopens shape left) (sym (take_all (length more) more (omega arith))) after)

  -- a step more: what a crash leaves are still some of the first
  pub leaves_first : (start mid new : Option File) → CrashLeaves (ReopensFirst shape records) start mid → CrashLeaves (ReopensEither shape records more) mid new
      → CrashLeaves (ReopensFirst shape more) start new
  leaves_first start mid new so_far step = goes_through (ReopensFirst shape more) start mid new
      (leaves_so (ReopensFirst shape records) (ReopensFirst shape more) start mid still so_far)
      (leaves_so (ReopensEither shape records more) (ReopensFirst shape more) mid new either step)
