use Rattle.std.proofs.Common.{◌≡◌, ℕ, ◌<◌, ◌≤◌, ◌+◌, ◌*◌, ◌^◌, List, length, get_or, take, ap, sym, ◌∙◌, subst, arith, rules, ℤ, pos, ◌+ℤ◌, to_z, of_z, w64}
use Rattle.std.proofs.lemmas.Int.{ints}
use Rattle.std.proofs.lemmas.List.Sums.{fold_more}
use Rattle.std.specs.List.{fold}
use Rattle.std.specs.Prelude.{unsigned_abs}
use mir.Syntax.{w128}
use mir.Val.{SFits}
use Rattle.dso_plain.specs.HeapTables.{state_of}
use Rattle.dso_report.specs.CounterTotal.{count_of}
use Rattle.dso_report.proofs.counters.sum_of.Goals as goal

-- 128 bits have room for one count more
fits_one_more : (sum count : ℤ) (i : ℕ) → i + 1 < 2 ^ 64 → unsigned_abs sum ≤ i * 2 ^ 63 → SFits w64 count → to_z w128 (of_z w128 (sum +ℤ to_z w128 (of_z w128 (to_z w64 (of_z w64 count))))) ≡ sum +ℤ count
fits_one_more sum count i few bounded fits = omega (arith, ints)

-- the bound of one count more
bounds_one_more : (sum count : ℤ) (i : ℕ) → unsigned_abs sum ≤ i * 2 ^ 63 → SFits w64 count → unsigned_abs (sum +ℤ count) ≤ (i + 1) * 2 ^ 63
bounds_one_more sum count i bounded fits = omega (arith, ints)

-- the sum of one count more
sums_one_more : (f : ℕ → ℤ) (xs : List ℕ) (i d : ℕ) (sum count : ℤ) → i < length xs → sum ≡ fold (λ s o. s +ℤ f o) (pos 0) (take i xs) → count ≡ f (get_or xs i d) → sum +ℤ count ≡ fold (λ s o. s +ℤ f o) (pos 0) (take (i + 1) xs)
sums_one_more f xs i d sum count within so is =
    let more : ℤ → ℕ → ℤ = λ s o. s +ℤ f o in
    ap (λ s. s +ℤ count) so ∙ ap (λ s. fold more (pos 0) (take i xs) +ℤ s) is ∙ sym (fold_more more (pos 0) xs i d within)

-- an object more
pub loop-object-preserved : goal.loop-object-preserved
loop-object-preserved c =
    let s = state_of c.args.plain.now in
    let count_at : ℕ → ℤ = λ o. count_of c.args.names.now s o (s.objects o) in
    let sum : ℤ = to_z w128 c.loop-object.sum-bits in
    let i = c.loop-object.object-index in
    let few : length c.args.objects.now < 2 ^ 64 = search rules in
    let fits : SFits w64 c.count_of.result = search rules in
    let adds = fits_one_more sum c.count_of.result i (omega (arith, few, c.loop-object-test.true)) c.loop-object.invariant.bounded fits in
    record {
      sums = adds ∙ sums_one_more count_at c.args.objects.now i 0 sum c.count_of.result c.loop-object-test.true c.loop-object.invariant.sums c.count_of.ensures;
      bounded = subst (λ x. unsigned_abs x ≤ (i + 1) * 2 ^ 63) (sym adds) (bounds_one_more sum c.count_of.result i c.loop-object.invariant.bounded fits);
    }
