-- A row of flags, which of them are set, and which one is chosen.
use Rattle.std.specs.Prelude.{ℕ, zero, suc, ◌+◌, ◌*◌, ◌≤◌, ◌≡◌, Bool, true, false, cond, Option, Some, None, List, []}
use Rattle.std.specs.Prelude.{◌∷◌, count_by, drop, length, slice_get}
use Rattle.std.specs.Prelude.{option_map, replicate, take}
use Rattle.dso_world.specs.ChosenSlot.{seed_after, lot}

-- a flag for each slot, in the order of the slots; the place at which the next round begins; how many steps made an
-- entry
pub record Row : Type 0 where
  pub flags : List Bool
  pub begin : ℕ
  pub entries : ℕ

-- at first: none of so many is set
abbrev pub closed_row : ℕ → Row
closed_row count = record { flags = replicate count false; begin = 0; entries = 0 }

-- whether a flag is set
abbrev pub is_set : Bool → Bool
is_set flag = flag

-- one where the flag is set, else none
abbrev pub one_if : Bool → ℕ
one_if flag = cond flag 1 0

-- how many are set
abbrev pub set_count : List Bool → ℕ
set_count flags = count_by is_set flags

-- Each block of 64 flags has its count: with it as many are set as up to the block's end. Each flag is in a block, and
-- no block but the last is without one.
pub record AreCounts (flags : List Bool) (counts : List ℕ) : Type 0 where
  pub all : length flags ≤ 64 * length counts
  pub few : 64 * length counts ≤ length flags + 64
  pub each : (block count : ℕ) → slice_get counts block ≡ Some count
      → set_count (take (64 * block) flags) + count ≡ set_count (take (64 * block + 64) flags)

-- the place of the one set that has this number among those set, from 0 on
abbrev pub nth_set : ℕ → List Bool → Option ℕ
nth_set n [] = None
nth_set n (false ∷ rest) = option_map (λ i. suc i) (nth_set n rest)
nth_set zero (true ∷ rest) = Some 0
nth_set (suc n) (true ∷ rest) = option_map (λ i. suc i) (nth_set n rest)

-- a place behind so many others where there is one, else one among these
abbrev pub else_before : ℕ → Option ℕ → Option ℕ → Option ℕ
else_before begin (Some i) before = Some (begin + i)
else_before begin None before = before

-- the place of the first one set, from this place on, going round
abbrev pub next_set : ℕ → List Bool → Option ℕ
next_set begin flags = else_before begin (nth_set 0 (drop begin flags)) (nth_set 0 (take begin flags))

-- The chosen place. By round robin: that of the first flag set, from where the round begins. By a seed: it moves on
-- once for each entry and once more, and names one of those set.
abbrev pub chosen_place : Option ℕ → Row → Option ℕ
chosen_place None row = next_set row.begin row.flags
chosen_place (Some seed) row = nth_set (lot (seed_after (suc row.entries) seed) (set_count row.flags)) row.flags
