-- The entries of a map are those of its slots that hold an object.
use Rattle.std.proofs.Common.{◌≡◌, refl, sym, subst, inl, inr, ℕ, zero, suc, ℤ, ◌<◌, Option, Some, List, [], ◌∷◌, arith, All, Contains}
use Rattle.std.specs.Prelude.{int_lt}
use Rattle.std.specs.List.{position_or_len}
use Rattle.std.proofs.lemmas.Bool.{cases_eq}
use Rattle.std.proofs.lemmas.List.Elements.{All-nil, All-cons, Contains-append_right}
use Rattle.std.proofs.lemmas.List.Sorted.{All-permutation, Contains-permutation, IsPermutation-insert}
use Rattle.dso_base.specs.declared.value.Value.{Value}
use Rattle.dso_base.specs.declared.value.Value.TheVariants as value
use Rattle.dso_map.specs.Fields.{place_of}
use Rattle.dso_map.specs.Fields.MapField.{Key, Held}
use Rattle.dso_plain.specs.State.{PlainState}
use Rattle.dso_report.specs.declared.maps.MapEntry.{MapEntry}
use Rattle.dso_report.specs.Held.{number_in}
use Rattle.dso_report.specs.MapEntries.{entries_below, with_entry, with_slot}

-- the place of an entry among others
abbrev pub place_among : MapEntry → List MapEntry → ℕ
place_among entry entries = position_or_len (λ (other : MapEntry). int_lt entry.key other.key) entries

-- ---- an entry for each slot that holds an object

-- an entry that is put among others is there
put_there : (entry : MapEntry) (entries : List MapEntry) → Contains (with_entry entry entries) entry
put_there entry entries =
    Contains-permutation (entry ∷ entries) (with_entry entry entries) entry (IsPermutation-insert entries (place_among entry entries) entry) (0, omega arith, refl)

-- the entries that were there still are, where another is put among them
stays_there : (entry other : MapEntry) (entries : List MapEntry) → Contains entries other → Contains (with_entry entry entries) other
stays_there entry other entries there =
    Contains-permutation (entry ∷ entries) (with_entry entry entries) other (IsPermutation-insert entries (place_among entry entries) entry) (Contains-append_right (entry ∷ []) entries other there)

-- they still are behind one slot more
slot_stays : (key : ℤ) (held : Option Value) (entries : List MapEntry) (other : MapEntry) → Contains entries other → Contains (with_slot key held entries) other
slot_stays key (Some (value.Ref object)) entries other there = stays_there (record { key = key; object = object }) other entries there
slot_stays key held entries other there = there

-- the entry of a slot that holds an object is among those of more slots
pub slot_there : (s : PlainState) (o n slot named : ℕ) → slot < n → s.heap (o, place_of (Held slot)) ≡ Some (value.Ref named) → Contains (entries_below s o n) (record { key = number_in (s.heap (o, place_of (Key slot))); object = named })
slot_there s o zero slot named below holds = absurd (omega (arith, below))
slot_there s o (suc n) slot named below holds =
    let before = entries_below s o n in
    let entry : MapEntry = record { key = number_in (s.heap (o, place_of (Key slot))); object = named } in
    let key = number_in (s.heap (o, place_of (Key n))) in
    elim (cases_eq slot n) [
      | inl last ↦
          let there : Contains (with_slot (number_in (s.heap (o, place_of (Key slot)))) (s.heap (o, place_of (Held slot))) before) entry =
          subst (λ held. Contains (with_slot (number_in (s.heap (o, place_of (Key slot)))) held before) entry) (sym holds) (put_there entry before) in
          subst (λ at. Contains (with_slot (number_in (s.heap (o, place_of (Key at)))) (s.heap (o, place_of (Held at))) before) entry) last there
      | inr earlier ↦ slot_stays key (s.heap (o, place_of (Held n))) before entry (slot_there s o n slot named (omega (arith, below, earlier)) holds)
    ]

-- ---- what holds of each entry

module _ (P : MapEntry → Type 0) where
  -- it holds of each entry, where it does of those before and of the one that the slot makes
  slot_holds : (key : ℤ) (held : Option Value) (entries : List MapEntry) → All P entries → ((named : ℕ) → held ≡ Some (value.Ref named) → P (record { key = key; object = named })) → All P (with_slot key held entries)
  slot_holds key (Some (value.Ref object)) entries each holds =
      let entry : MapEntry = record { key = key; object = object } in
      All-permutation P (entry ∷ entries) (with_entry entry entries) (IsPermutation-insert entries (place_among entry entries) entry) (All-cons P entry entries (holds object refl) each)
  slot_holds key held entries each holds = each

  -- it holds of each entry of some slots, where it does of the one that each of them makes
  pub entries_hold : (s : PlainState) (o n : ℕ) → ((slot named : ℕ) → slot < n → s.heap (o, place_of (Held slot)) ≡ Some (value.Ref named) → P (record { key = number_in (s.heap (o, place_of (Key slot))); object = named })) → All P (entries_below s o n)
  entries_hold s o zero holds = All-nil P
  entries_hold s o (suc n) holds =
      slot_holds (number_in (s.heap (o, place_of (Key n)))) (s.heap (o, place_of (Held n))) (entries_below s o n)
      (entries_hold s o n (λ slot named below. holds slot named (omega (arith, below)))) (λ named. holds n named (omega arith))

-- it holds of the entry's object
abbrev pub OfObject : (ℕ → Type 0) → MapEntry → Type 0
OfObject P entry = P entry.object
