-- The chosen slot is open.
use Rattle.std.proofs.Common.{◌≡◌, ◌∙◌, refl, sym, ap, ℕ, zero, suc, Bool, true, false, cond, ◌&&◌, ◌||◌, Option, Some, None, List, [], ◌∷◌, filter, length, slice_get}
use Rattle.std.specs.List.{list_any}
use Rattle.std.proofs.lemmas.List.Folds.{list_any-append}
use Rattle.dso_base.specs.declared.journal.Entry.{Entry}
use Rattle.dso_base.specs.declared.lock.ThreadId.{ThreadId}
use Rattle.dso_base.specs.declared.request.Event.{Event}
use Rattle.dso_base.specs.declared.request.Request.{Request}
use Rattle.dso_law.specs.Replies.{first_of_list}
use Rattle.dso_law.specs.Settings.{Settings}
use Rattle.dso_legal.specs.Slots.{Slot, is_open, open_slots, slots}
use Rattle.dso_world.specs.ChosenSlot.{chosen_slot, going_round, is_slot, last_slot, lot, seed_after, slots_behind, slots_up_to}
use Rattle.dso_world.proofs.slots.Once.{same_slot}

-- either of two
later : (a b : Bool) → b ≡ true → (a || b) ≡ true
later true b is = refl
later false b is = is

lift : (a b c : Bool) → (b ≡ true → c ≡ true) → (a || b) ≡ true → (a || c) ≡ true
lift true b c then is = refl
lift false b c then is = then is

either : (a b c : Bool) → (a ≡ true → c ≡ true) → (b ≡ true → c ≡ true) → (a || b) ≡ true → c ≡ true
either true b c first second is = first refl
either false b c first second is = second is

-- a slot that stands in a list is found there
found_first : (slot first : Slot) (rest : List Slot) → first ≡ slot → list_any (is_slot slot) (first ∷ rest) ≡ true
found_first slot first rest same = ap (λ b. b || list_any (is_slot slot) rest) (ap (is_slot slot) same ∙ same_slot slot)

found_at : (slot : Slot) (list : List Slot) (place : ℕ) → slice_get list place ≡ Some slot → list_any (is_slot slot) list ≡ true
found_at slot [] place is = absurd (cc is)
found_at slot (first ∷ rest) zero is = let same : first ≡ slot = cc is in found_first slot first rest same
found_at slot (first ∷ rest) (suc place) is = later (is_slot slot first) (list_any (is_slot slot) rest) (found_at slot rest place is)

found : (slot : Slot) (list : List Slot) → first_of_list list ≡ Some slot → list_any (is_slot slot) list ≡ true
found slot [] is = absurd (cc is)
found slot (first ∷ rest) is = let same : first ≡ slot = cc is in found_first slot first rest same

module _ (test : Slot → Bool) where
  -- what is found among those that pass
  filtered : (pass : Slot → Bool) (all : List Slot) → list_any test (filter pass all) ≡ list_any (λ slot. pass slot && test slot) all
  filtered pass [] = refl
  filtered pass (first ∷ rest) = by (pass first) (filtered pass rest)
    where
      by : (passes : Bool) → list_any test (filter pass rest) ≡ list_any (λ slot. pass slot && test slot) rest
          → list_any test (cond passes (first ∷ filter pass rest) (filter pass rest)) ≡ (passes && test first || list_any (λ slot. pass slot && test slot) rest)
      by true before = ap (λ b. test first || b) before
      by false before = before

  -- what is found behind one, or up to it, is found in the whole list
  behind : (slot : Slot) (all : List Slot) → list_any test (slots_behind slot all) ≡ true → list_any test all ≡ true
  behind slot [] is = is
  behind slot (first ∷ rest) is = by (is_slot slot first) (behind slot rest) is
    where
      by : (here : Bool) → (list_any test (slots_behind slot rest) ≡ true → list_any test rest ≡ true)
          → list_any test (cond here rest (slots_behind slot rest)) ≡ true → (test first || list_any test rest) ≡ true
      by true before is = later (test first) (list_any test rest) is
      by false before is = later (test first) (list_any test rest) (before is)

  up_to : (slot : Slot) (all : List Slot) → list_any test (slots_up_to slot all) ≡ true → list_any test all ≡ true
  up_to slot [] is = is
  up_to slot (first ∷ rest) is = by (is_slot slot first) (up_to slot rest) is
    where
      by : (here : Bool) → (list_any test (slots_up_to slot rest) ≡ true → list_any test rest ≡ true)
          → list_any test (cond here (first ∷ []) (first ∷ slots_up_to slot rest)) ≡ true → (test first || list_any test rest) ≡ true
      by true before is = lift (test first) false (list_any test rest) (λ never. absurd (cc never)) is
      by false before is = lift (test first) (list_any test (slots_up_to slot rest)) (list_any test rest) before is

  -- and so what is found going round
  round : (last : Option Slot) (all : List Slot) → list_any test (going_round last all) ≡ true → list_any test all ≡ true
  round None all is = is
  round (Some slot) all is =
      either (list_any test (slots_behind slot all)) (list_any test (slots_up_to slot all)) (list_any test all) (behind slot all) (up_to slot all)
      (sym (list_any-append test (slots_behind slot all) (slots_up_to slot all)) ∙ is)

module _ (p : Settings) (next : ThreadId → List Event → Option Request) (es : List Entry) where
  -- the chosen slot is among those that are open
  pub chosen_open : (seed : Option ℕ) (slot : Slot) → chosen_slot p next seed es ≡ Some slot → list_any (is_slot slot) (open_slots p next es) ≡ true
  chosen_open None slot is =
      let passed = found slot (filter (is_open p next es) (going_round (last_slot es) (slots p))) is in
      let both : Slot → Bool = λ other. is_open p next es other && is_slot slot other in
      let there : list_any both (going_round (last_slot es) (slots p)) ≡ true
      = sym (filtered (is_slot slot) (is_open p next es) (going_round (last_slot es) (slots p))) ∙ passed in
      filtered (is_slot slot) (is_open p next es) (slots p) ∙ round both (last_slot es) (slots p) there
  chosen_open (Some seed) slot is = found_at slot (open_slots p next es) (lot (seed_after (suc (length es)) seed) (length (open_slots p next es))) is
