-- A step is found where it is computed.
use Rattle.std.specs.Prelude.{position}
use Rattle.std.proofs.Common.{ℕ, zero, suc, ◌-◌, ◌<◌, ◌≤◌, ◌≡◌, refl, sym, ◌∙◌, ap, subst, Bool, true, false, cond, Option, Some, None, List, [], ◌∷◌, length, option_map, slice_get, arith}
use Rattle.dso_world.specs.declared.step.Step.{Step}
use Rattle.dso_world.specs.declared.step.Step.TheVariants as step
use Rattle.dso_world.specs.declared.step_table.OwnSteps.{OwnSteps}
use Rattle.dso_world.specs.ChosenSlot.{is_slot}
use Rattle.dso_world.specs.StepPlaces.{ArePlaced, IsAt, IsOwnOf, IsPlaced, kept_where}
use Rattle.dso_world.specs.Touched.{client_of}
use Rattle.dso_world.specs.WorldSteps.{is_own, slot_of}
use Rattle.dso_world.proofs.places.Found.{place_behind, same_slots}
use Rattle.dso_world.proofs.slots.Once.{same_slot}

module _ {X : Type 0} (test : X → Bool) where
  -- there is no place where nothing passes the test
  none_there : (xs : List X) → ((place : ℕ) (x : X) → slice_get xs place ≡ Some x → test x ≡ true → ⊥) → position test xs ≡ None
  none_there [] none = refl
  none_there (x ∷ xs) none = place_behind test x xs ∙ by (test x) refl (none_there xs (λ place y there. none (suc place) y there))
    where
      by : (here : Bool) → test x ≡ here → position test xs ≡ None → cond here (Some 0) (option_map (λ place. suc place) (position test xs)) ≡ None
      by true passes later = absurd (none 0 x refl passes)
      by false fails later = ap (option_map (λ place. suc place)) later

  -- it is the place of the only one that passes
  only_there : (xs : List X) (place : ℕ) (x : X) → slice_get xs place ≡ Some x → test x ≡ true → ((other : ℕ) (y : X) → slice_get xs other ≡ Some y → test y ≡ true → other ≡ place) → position test xs ≡ Some place
  only_there [] place x there passes only = absurd (cc there)
  only_there (y ∷ xs) zero x there passes only =
      let same : y ≡ x = cc there in
      place_behind test y xs ∙ ap (λ here. cond here (Some 0) (option_map (λ place. suc place) (position test xs))) (ap test same ∙ passes)
  only_there (y ∷ xs) (suc place) x there passes only = place_behind test y xs ∙ by (test y) refl (only_there xs place x there passes (λ other z its is. cc (only (suc other) z its is)))
    where
      by : (here : Bool) → test y ≡ here → position test xs ≡ Some place → cond here (Some 0) (option_map (λ place. suc place) (position test xs)) ≡ Some (suc place)
      by true is later = absurd (cc (only 0 y refl is))
      by false fails later = ap (option_map (λ place. suc place)) later

-- where a slot stands by what is listed of its client
pub named_so : (own : List OwnSteps) (behind : ℕ) (step : Step) (before : ℕ) (its : OwnSteps) → before ≡ client_of (slot_of step) - 1 → slice_get own before ≡ Some its
    → (place : ℕ) → IsPlaced own behind place (slot_of step) → IsAt its behind (length own) place (slot_of step)
named_so own behind step before its is there place placed =
    let same : placed.its ≡ its = cc (sym placed.listed ∙ (ap (slice_get own) (sym is) ∙ there)) in
    subst (λ its. IsAt its behind (length own) place (slot_of step)) same placed.at

-- a client's own step stands among the client's
own_within : (its : OwnSteps) (behind many place : ℕ) (step : Step) → is_own step ≡ true → IsAt its behind many place (slot_of step) → (its.begin ≤ place) × (place < its.end)
own_within its behind many place (step.Act t) own at = (omega (arith, at.0), at.1)
own_within its behind many place (step.TakeDown c) own at = (at.1, omega (arith, at.0))
own_within its behind many place (step.Flush c) own at = (at.1, omega (arith, at.0))
own_within its behind many place (step.TakeUp c) own at = absurd (cc own)
own_within its behind many place (step.Lose c) own at = absurd (cc own)
own_within its behind many place (step.Break c) own at = absurd (cc own)

module _ (own : List OwnSteps) (behind : ℕ) (steps : List Step) (placed : ArePlaced own behind steps) (number place : ℕ) (is : IsOwnOf number steps place) where
  its_listed : slice_get own (number - 1) ≡ Some (placed place is.step is.there).its
  its_listed = ap (λ c. slice_get own (c - 1)) (sym is.its) ∙ (placed place is.step is.there).listed

  pub own_there : (its : OwnSteps) → slice_get own (number - 1) ≡ Some its → (its.begin ≤ place) × (place < its.end)
  own_there its there =
      let same : (placed place is.step is.there).its ≡ its = cc (sym its_listed ∙ there) in
      subst (λ (its : OwnSteps). (its.begin ≤ place) × (place < its.end)) same
      (own_within (placed place is.step is.there).its behind (length own) place is.step is.own (placed place is.step is.there).at)

  pub not_own : slice_get own (number - 1) ≡ None → ⊥
  not_own none = cc (sym none ∙ its_listed)

module _ (own : List OwnSteps) (behind : ℕ) (steps : List Step) (placed : ArePlaced own behind steps) (step : Step) (named : Option ℕ)
    (names : (place : ℕ) → IsPlaced own behind place (slot_of step) → named ≡ Some place) where
  abbrev is_it : Step → Bool
  is_it other = is_slot (slot_of step) (slot_of other)

  -- wherever the step stands, that place is named
  there_named : (place : ℕ) (other : Step) → slice_get steps place ≡ Some other → is_it other ≡ true → named ≡ Some place
  there_named place other there is = names place (subst (IsPlaced own behind place) (same_slots (slot_of step) (slot_of other) is) (placed place other there))

  -- it stands nowhere where no place is named,
  not_named : named ≡ None → None ≡ position is_it steps
  not_named none = sym (none_there is_it steps (λ place other there is. cc (sym none ∙ there_named place other there is)))

  -- and else it stands at the named one, or nowhere
  at_named : (at : ℕ) → named ≡ Some at → kept_where (slot_of step) at (slice_get steps at) ≡ position is_it steps
  at_named at is = by (slice_get steps at) refl
    where
      by : (found : Option Step) → slice_get steps at ≡ found → kept_where (slot_of step) at found ≡ position is_it steps
      by None none = sym (none_there is_it steps (λ place other there same.
          let here : at ≡ place = cc (sym is ∙ there_named place other there same) in
          cc (sym none ∙ (ap (slice_get steps) here ∙ there))))
      by (Some found) stands = test (is_it found) refl
        where
          test : (here : Bool) → is_it found ≡ here → cond here (Some at) None ≡ position is_it steps
          test true same = sym (only_there is_it steps at found stands same (λ place other there its. cc (sym (there_named place other there its) ∙ is)))
          test false differs = sym (none_there is_it steps (λ place other there same.
              let here : at ≡ place = cc (sym is ∙ there_named place other there same) in
              let its : found ≡ other = cc (sym stands ∙ (ap (slice_get steps) here ∙ there)) in
              cc (sym differs ∙ (ap is_it its ∙ same))))

  -- So it is found where it is named, if anywhere,
  module _ (view : List Step) (same : steps ≡ view) where
    pub found_where : (at : ℕ) → named ≡ Some at → (result : Option ℕ) → result ≡ kept_where (slot_of step) at (slice_get steps at) → result ≡ position is_it view
    found_where at is result kept = kept ∙ at_named at is ∙ ap (position is_it) same

    pub found_nowhere : named ≡ None → None ≡ position is_it view
    found_nowhere none = not_named none ∙ ap (position is_it) same

    -- and stands there alone.
    pub only_place : (result : Option ℕ) → result ≡ position is_it view → (place : ℕ) → slice_get view place ≡ Some step → result ≡ Some place
    only_place result is place there =
        let stands : slice_get steps place ≡ Some step = ap (λ list. slice_get list place) same ∙ there in
        is ∙ ap (position is_it) (sym same) ∙ only_there is_it steps place step stands (same_slot (slot_of step))
        (λ other found at_other its. cc (sym (there_named other found at_other its) ∙ there_named place step stands (same_slot (slot_of step))))
