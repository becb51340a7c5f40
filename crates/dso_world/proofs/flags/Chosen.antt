-- That the place chosen in a row of flags is that of the chosen slot.
use Rattle.std.proofs.Common.{ℕ, zero, suc, ◌+◌, ◌/◌, ◌^◌, ◌≤◌, ◌≡◌, ◌↔◌, refl, sym, ◌∙◌, ap, Bool, true, false, cond, Option, Some, None, List, [], ◌∷◌, ◌++◌, drop, filter, length, map, option_and_then, slice_get, take, arith}
use Rattle.std.proofs.lemmas.List.Elements.{filter-append}
use Rattle.std.proofs.lemmas.List.Sums.{sum_by-append}
use Rattle.std.proofs.Math.Nat.{mod-lt}
use Rattle.std.proofs.lemmas.List.{append-nil, drop-map, take-append-drop, take-map}
use Rattle.dso_base.specs.declared.journal.Entry.{Entry}
use Rattle.dso_base.specs.declared.lock.ThreadId.{ThreadId}
use Rattle.dso_base.specs.declared.request.Event.{Event}
use Rattle.dso_base.specs.declared.request.Request.{Request}
use Rattle.dso_law.specs.Replies.{first_of_list}
use Rattle.dso_law.specs.Settings.{Settings}
use Rattle.dso_legal.specs.Slots.{Slot, slots, is_open, open_slots}
use Rattle.dso_world.specs.ChosenSlot.{chosen_slot, going_round, is_slot, last_slot, lot, seed_after, slots_behind, slots_up_to}
use Rattle.dso_world.specs.Flags.{Row, chosen_place, else_before, is_set, next_set, nth_set, set_count}
use Rattle.dso_world.specs.Laws.{PlacesAreChosen, RowStands, place_behind}
use Rattle.dso_world.proofs.flags.NthSet.{not_there, nth_passing, passing_count, too_few}

-- what stands behind the first ones
dropped : {X : Type 0} (n i : ℕ) (xs : List X) → slice_get (drop n xs) i ≡ slice_get xs (n + i)
dropped zero i xs = ap (slice_get xs) (omega arith)
dropped (suc n) i [] = refl
dropped (suc n) i (x ∷ xs) = dropped n i xs ∙ place (n + i) (suc n + i) (omega arith)
  where
    place : (a b : ℕ) → suc a ≡ b → slice_get xs a ≡ slice_get (x ∷ xs) b
    place a b is = ap (slice_get (x ∷ xs)) is

module _ {X : Type 0} (test : X → Bool) where
  -- the first of a list is the one of number 0
  first_is : (xs : List X) → first_of_list xs ≡ slice_get xs 0
  first_is [] = refl
  first_is (x ∷ xs) = refl

  module _ (k : ℕ) (xs : List X) where
    -- the first that passes behind so many others
    behind_first : slice_get (filter test (drop k xs)) 0 ≡ option_and_then (slice_get (drop k xs)) (nth_set 0 (drop k (map test xs)))
    behind_first = nth_passing test 0 (drop k xs) [] ∙ ap (λ list. option_and_then (slice_get list) (nth_set 0 (map test (drop k xs)))) (append-nil (drop k xs))
        ∙ ap (λ flags. option_and_then (slice_get (drop k xs)) (nth_set 0 flags)) (sym (drop-map test k xs))

    -- the first that passes among these
    first_among : first_of_list (filter test (take k xs)) ≡ option_and_then (slice_get xs) (nth_set 0 (take k (map test xs)))
    first_among = first_is (filter test (take k xs)) ∙ nth_passing test 0 (take k xs) (drop k xs)
        ∙ ap (λ list. option_and_then (slice_get list) (nth_set 0 (map test (take k xs)))) (take-append-drop k xs)
        ∙ ap (λ flags. option_and_then (slice_get xs) (nth_set 0 flags)) (sym (take-map test k xs))

    -- the first that passes, going round
    first_round : first_of_list (filter test (drop k xs ++ take k xs)) ≡ option_and_then (slice_get xs) (next_set k (map test xs))
    first_round = ap first_of_list (filter-append test (drop k xs) (take k xs)) ∙ by (filter test (drop k xs)) (nth_set 0 (drop k (map test xs))) refl refl
      where
        by : (behind : List X) (place : Option ℕ) → filter test (drop k xs) ≡ behind → nth_set 0 (drop k (map test xs)) ≡ place
            → first_of_list (behind ++ filter test (take k xs)) ≡ option_and_then (slice_get xs) (else_before k place (nth_set 0 (take k (map test xs))))
        by [] None is at = first_among
        by [] (Some i) is at =
            let few : set_count (drop k (map test xs)) ≡ 0 = ap set_count (drop-map test k xs) ∙ passing_count test (drop k xs) ∙ ap length is in
            absurd (cc (sym at ∙ not_there 0 (drop k (map test xs)) (omega (arith, few))))
        by (x ∷ rest) None is at = absurd (cc (sym (ap (λ list. slice_get list 0) is) ∙ behind_first ∙ ap (option_and_then (slice_get (drop k xs))) at))
        by (x ∷ rest) (Some i) is at = sym (ap (λ list. slice_get list 0) is) ∙ behind_first ∙ ap (option_and_then (slice_get (drop k xs))) at ∙ dropped k i xs

-- the slots behind one are those behind the ones up to it
behind_is : (slot : Slot) (all : List Slot) → slots_behind slot all ≡ drop (length (slots_up_to slot all)) all
behind_is slot [] = refl
behind_is slot (first ∷ rest) = by (is_slot slot first) (behind_is slot rest)
  where
    by : (here : Bool) → slots_behind slot rest ≡ drop (length (slots_up_to slot rest)) rest → cond here rest (slots_behind slot rest) ≡ drop (length (cond here (first ∷ []) (first ∷ slots_up_to slot rest))) (first ∷ rest)
    by true later = refl
    by false later = later

up_to_is : (slot : Slot) (all : List Slot) → slots_up_to slot all ≡ take (length (slots_up_to slot all)) all
up_to_is slot [] = refl
up_to_is slot (first ∷ rest) = by (is_slot slot first) (up_to_is slot rest)
  where
    by : (here : Bool) → slots_up_to slot rest ≡ take (length (slots_up_to slot rest)) rest → cond here (first ∷ []) (first ∷ slots_up_to slot rest) ≡ take (length (cond here (first ∷ []) (first ∷ slots_up_to slot rest))) (first ∷ rest)
    by true later = refl
    by false later = ap (λ list. first ∷ list) later

-- going round from behind the last one
round_is : (last : Option Slot) (all : List Slot) → going_round last all ≡ drop (place_behind last all) all ++ take (place_behind last all) all
round_is None all = sym (append-nil all)
round_is (Some slot) all = ap (λ list. list ++ slots_up_to slot all) (behind_is slot all) ∙ ap (λ list. drop (length (slots_up_to slot all)) all ++ list) (up_to_is slot all)

-- none of a row is chosen where none is set, and none is set where none is chosen
none_set : (begin : ℕ) (flags : List Bool) → next_set begin flags ≡ None → set_count flags ≡ 0
none_set begin flags none = by (nth_set 0 (drop begin flags)) (nth_set 0 (take begin flags)) refl refl none
  where
    by : (behind among : Option ℕ) → nth_set 0 (drop begin flags) ≡ behind → nth_set 0 (take begin flags) ≡ among → else_before begin behind among ≡ None → set_count flags ≡ 0
    by (Some i) among is at none = absurd (cc none)
    by None (Some i) is at none = absurd (cc none)
    by None None is at none =
        let all : set_count flags ≡ set_count (take begin flags) + set_count (drop begin flags) = ap set_count (sym (take-append-drop begin flags)) ∙ sum_by-append (λ x. cond (is_set x) 1 0) (take begin flags) (drop begin flags) in
        omega (arith, all, too_few 0 (drop begin flags) is, too_few 0 (take begin flags) at)

none_next : (begin : ℕ) (flags : List Bool) → set_count flags ≡ 0 → next_set begin flags ≡ None
none_next begin flags few =
    let all : set_count flags ≡ set_count (take begin flags) + set_count (drop begin flags) = ap set_count (sym (take-append-drop begin flags)) ∙ sum_by-append (λ x. cond (is_set x) 1 0) (take begin flags) (drop begin flags) in
    ap (λ place. else_before begin place (nth_set 0 (take begin flags))) (not_there 0 (drop begin flags) (omega arith)) ∙ not_there 0 (take begin flags) (omega arith)

none_named : (x : ℕ) (flags : List Bool) → nth_set (lot x (set_count flags)) flags ≡ None → set_count flags ≡ 0
none_named x flags none = by (set_count flags) (too_few (lot x (set_count flags)) flags none)
  where
    by : (count : ℕ) → count ≤ lot x count → count ≡ 0
    by zero few = refl
    by (suc n) few = absurd (omega (arith, few, mod-lt (x / 2 ^ 33) {m = suc n} (omega arith)))

-- a list of no length
empty : {X : Type 0} (xs : List X) → length xs ≡ 0 → xs ≡ []
empty [] is = refl
empty (x ∷ xs) is = absurd (omega (arith, is))

module _ (p : Settings) (next : ThreadId → List Event → Option Request) (row : Row) (es : List Entry) (stands : RowStands p next row es) where
  -- as many flags are set as slots are open
  open_count : set_count row.flags ≡ length (open_slots p next es)
  open_count = ap set_count stands.flags ∙ passing_count (is_open p next es) (slots p)

  slot_chosen : (seed : Option ℕ) → option_and_then (slice_get (slots p)) (chosen_place seed row) ≡ chosen_slot p next seed es
  slot_chosen None = ap (λ flags. option_and_then (slice_get (slots p)) (next_set row.begin flags)) stands.flags
      ∙ sym (first_round (is_open p next es) row.begin (slots p))
      ∙ ap (λ k. first_of_list (filter (is_open p next es) (drop k (slots p) ++ take k (slots p)))) stands.begin
      ∙ ap (λ round. first_of_list (filter (is_open p next es) round)) (sym (round_is (last_slot es) (slots p)))
  slot_chosen (Some seed) = ap (λ n. option_and_then (slice_get (slots p)) (nth_set (lot (seed_after (suc n) seed) (set_count row.flags)) row.flags)) stands.entries
      ∙ ap (λ count. option_and_then (slice_get (slots p)) (nth_set (lot (seed_after (suc (length es)) seed) count) row.flags)) open_count
      ∙ ap (λ flags. option_and_then (slice_get (slots p)) (nth_set (lot (seed_after (suc (length es)) seed) (length (open_slots p next es))) flags)) stands.flags
      ∙ ap (λ all. option_and_then (slice_get all) (nth_set (lot (seed_after (suc (length es)) seed) (length (open_slots p next es))) (map (is_open p next es) (slots p)))) (sym (append-nil (slots p)))
      ∙ sym (nth_passing (is_open p next es) (lot (seed_after (suc (length es)) seed) (length (open_slots p next es))) (slots p) [])

  none_chosen : (seed : Option ℕ) → (chosen_place seed row ≡ None) ↔ (open_slots p next es ≡ [])
  none_chosen None = (
    λ none. empty (open_slots p next es) (sym open_count ∙ none_set row.begin row.flags none),
    λ none. none_next row.begin row.flags (open_count ∙ ap length none),
  )
  none_chosen (Some seed) = (
    λ none. empty (open_slots p next es) (sym open_count ∙ none_named (seed_after (suc row.entries) seed) row.flags none),
    λ none. let few : set_count row.flags ≡ 0 = open_count ∙ ap length none in not_there (lot (seed_after (suc row.entries) seed) (set_count row.flags)) row.flags (omega arith),
  )

pub places_are_chosen : PlacesAreChosen
places_are_chosen p next row es stands seed = record { slot = slot_chosen p next row es stands seed; none = none_chosen p next row es stands seed }
