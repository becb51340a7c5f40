-- The keys of a map's entries don't fall.
use Rattle.std.proofs.Common.{◌≡◌, refl, sym, ap, subst, ℕ, zero, suc, ℤ, Bool, true, false, cond, ◌+◌, Option, Some, List, [], ◌∷◌, arith, All, AllPairs}
use Rattle.std.specs.Prelude.{int_lt, insert, not, ◌≤ℤ◌}
use Rattle.std.proofs.lemmas.Int.{ints}
use Rattle.std.proofs.lemmas.List.Elements.{All-cons, All-nil, All-weaker}
use Rattle.std.proofs.lemmas.List.Kept.{AllPairs-cons}
use Rattle.std.proofs.lemmas.List.Sorted.{All-permutation, IsPermutation-insert}
use Rattle.dso_base.specs.declared.value.Value.{Value}
use Rattle.dso_base.specs.declared.value.Value.TheVariants as value
use Rattle.dso_map.specs.Fields.{place_of}
use Rattle.dso_map.specs.Fields.MapField.{Key, Held}
use Rattle.dso_plain.specs.State.{PlainState}
use Rattle.dso_report.specs.declared.maps.MapEntry.{MapEntry}
use Rattle.dso_report.specs.Held.{number_in}
use Rattle.dso_report.specs.MapEntries.{entries_below, with_entry, with_slot}
use Rattle.dso_report.proofs.entries.OfSlots.{place_among}

-- the key of the one is no greater than that of the other
abbrev IsBelow : MapEntry → MapEntry → Type 0
IsBelow entry later = entry.key ≤ℤ later.key

-- the keys don't fall
abbrev pub Rise : List MapEntry → Type 0
Rise entries = AllPairs IsBelow entries

-- ---- keys

-- a smaller key is below
less_below : (a b : ℤ) → int_lt a b ≡ true → a ≤ℤ b
less_below a b less = grind (arith, ints)

-- a key that is not smaller is above
not_less_above : (a b : ℤ) → int_lt a b ≡ false → b ≤ℤ a
not_less_above a b not_less = grind (arith, ints)

-- what is below a key is below those above it
below_all : (a b c : ℤ) → a ≤ℤ b → b ≤ℤ c → a ≤ℤ c
below_all a b c first second = grind (arith, ints)

-- ---- a list of entries

-- the others of entries whose keys don't fall
rest_rises : (first : MapEntry) (rest : List MapEntry) → Rise (first ∷ rest) → Rise rest
rest_rises first rest rises i j d less within = rises (suc i) (suc j) d (omega (arith, less)) (omega (arith, within))

-- the first is below the others
first_below : (first : MapEntry) (rest : List MapEntry) → Rise (first ∷ rest) → All (IsBelow first) rest
first_below first rest rises k d within = rises 0 (suc k) d (omega arith) (omega (arith, within))

-- an item stands in front, or is put among the others
put_first_or_later : (n : ℕ) (entry first : MapEntry) (rest : List MapEntry) (b : Bool) → insert (first ∷ rest) (cond (not b) (1 + n) 0) entry ≡ cond b (entry ∷ first ∷ rest) (first ∷ insert rest n entry)
put_first_or_later n entry first rest true = refl
put_first_or_later n entry first rest false =
    let next : 1 + n ≡ suc n = omega arith in
    ap (λ k. insert (first ∷ rest) k entry) next

-- where the keys don't fall they don't with an entry that is put among them
put_rises : (entry first : MapEntry) (rest : List MapEntry) (b : Bool) → int_lt entry.key first.key ≡ b → Rise (first ∷ rest) → Rise (with_entry entry rest) → Rise (cond b (entry ∷ first ∷ rest) (first ∷ with_entry entry rest))
put_rises entry first rest true less rises later =
    let below : IsBelow entry first = less_below entry.key first.key less in
    let others = All-weaker (IsBelow first) (IsBelow entry) (λ (other : MapEntry). below_all entry.key first.key other.key below) rest (first_below first rest rises) in
    AllPairs-cons IsBelow entry (first ∷ rest) (All-cons (IsBelow entry) first rest below others) rises
put_rises entry first rest false less rises later =
    let below : IsBelow first entry = not_less_above entry.key first.key less in
    let others = All-permutation (IsBelow first) (entry ∷ rest) (with_entry entry rest) (IsPermutation-insert rest (place_among entry rest) entry) (All-cons (IsBelow first) entry rest below (first_below first rest rises)) in
    AllPairs-cons IsBelow first (with_entry entry rest) others later

-- where the keys don't fall they don't with an entry that is put among them
with_entry_rises : (entry : MapEntry) (entries : List MapEntry) → Rise entries → Rise (with_entry entry entries)
with_entry_rises entry [] rises = AllPairs-cons IsBelow entry [] (All-nil (IsBelow entry)) rises
with_entry_rises entry (first ∷ rest) rises =
    let b = int_lt entry.key first.key in
    subst Rise (sym (put_first_or_later (place_among entry rest) entry first rest b)) (put_rises entry first rest b refl rises (with_entry_rises entry rest (rest_rises first rest rises)))

-- nor with the entry of a slot
with_slot_rises : (key : ℤ) (held : Option Value) (entries : List MapEntry) → Rise entries → Rise (with_slot key held entries)
with_slot_rises key (Some (value.Ref object)) entries rises = with_entry_rises (record { key = key; object = object }) entries rises
with_slot_rises key held entries rises = rises

-- the keys of the first slots' entries don't fall
pub entries_rise : (s : PlainState) (o n : ℕ) → Rise (entries_below s o n)
entries_rise s o zero = λ i j d less within. absurd (omega (arith, within))
entries_rise s o (suc n) = with_slot_rises (number_in (s.heap (o, place_of (Key n)))) (s.heap (o, place_of (Held n))) (entries_below s o n) (entries_rise s o n)
