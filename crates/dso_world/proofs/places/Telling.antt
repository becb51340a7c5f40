-- The flags of a row are told anew at some of its places.
use Rattle.std.proofs.Common.{ℕ, zero, suc, ◌+◌, ◌<◌, ◌≤◌, ◌≡◌, ◌≢◌, ◌⊎◌, inl, inr, refl, sym, ◌∙◌, ap, subst, Bool, true, false, eqb, Some, List, [], ◌∷◌, length, slice_get, slice_set, arith}
use Rattle.std.proofs.lemmas.Bool.{eqb-true, eqb-false}
use Rattle.std.proofs.lemmas.List.{length-set}
use Rattle.dso_class.specs.declared.program.Program.{Program}
use Rattle.dso_world.specs.declared.nodes.Nodes.{Nodes}
use Rattle.dso_world.specs.declared.step.Step.{Step}
use Rattle.dso_world.specs.Flags.{Row}
use Rattle.dso_world.specs.SlotTests.{TellsOpen}
use Rattle.dso_world.specs.StepUpdates.{IsTold, KeepsRound, Tells}

-- what is written at a place stands there, and all else where it stood
set_here : {X : Type 0} (xs : List X) (place : ℕ) (x : X) → place < length xs → slice_get (slice_set xs place x) place ≡ Some x
set_here [] place x within = absurd (omega (arith, within))
set_here (y ∷ xs) zero x within = refl
set_here (y ∷ xs) (suc place) x within = set_here xs place x (omega (arith, within))

set_elsewhere : {X : Type 0} (xs : List X) (place at : ℕ) (x : X) → at ≢ place → slice_get (slice_set xs place x) at ≡ slice_get xs at
set_elsewhere [] place at x differs = refl
set_elsewhere (y ∷ xs) zero zero x differs = absurd (differs refl)
set_elsewhere (y ∷ xs) zero (suc at) x differs = refl
set_elsewhere (y ∷ xs) (suc place) zero x differs = refl
set_elsewhere (y ∷ xs) (suc place) (suc at) x differs = set_elsewhere xs place at x (λ same. differs (ap (λ n. suc n) same))

-- a round that is kept twice
pub kept_on : (old mid new : Row) → KeepsRound old mid → KeepsRound mid new → KeepsRound old new
kept_on old mid new first second = record { many = second.many ∙ first.many; begin = second.begin ∙ first.begin; entries = second.entries ∙ first.entries }

-- one place more is one of those before, or the last
pub one_place_more : (begin end at : ℕ) → begin ≤ at → at < end + 1 → ((begin ≤ at) × (at < end)) ⊎ (at ≡ end)
one_place_more begin end at from to = by (eqb at end) refl
  where
    by : (last : Bool) → eqb at end ≡ last → ((begin ≤ at) × (at < end)) ⊎ (at ≡ end)
    by true is = inr (eqb-true at end is)
    by false is = inl (from, omega (arith, to, eqb-false at end is))

module _ (nodes : Nodes) (steps : List Step) where
  -- what is told at a place is told there still, where the flag stays or is told again
  pub still_told : (old new : Row) (place : ℕ) → IsTold nodes steps old place → (slice_get new.flags place ≡ slice_get old.flags place) ⊎ IsTold nodes steps new place → IsTold nodes steps new place
  still_told old new place told (inl same) = λ step there. let was = told step there in (was.0, same ∙ was.1, was.2)
  still_told old new place told (inr again) = again

  pub other_on : (old mid new : Row) (place : ℕ) → (slice_get mid.flags place ≡ slice_get old.flags place) ⊎ IsTold nodes steps mid place
      → (slice_get new.flags place ≡ slice_get mid.flags place) ⊎ IsTold nodes steps new place → (slice_get new.flags place ≡ slice_get old.flags place) ⊎ IsTold nodes steps new place
  other_on old mid new place (inl same) (inl stays) = inl (stays ∙ same)
  other_on old mid new place (inr told) (inl stays) = inr (still_told mid new place told (inl stays))
  other_on old mid new place first (inr again) = inr again

  module _ {P Q : ℕ → Type 0} where
    -- Some places after some others,
    pub tells_both : (old mid new : Row) → Tells nodes steps P old mid → Tells nodes steps Q mid new → Tells nodes steps (λ place. P place ⊎ Q place) old new
    tells_both old mid new first second = record {
      round = kept_on old mid new first.round second.round;
      others = λ place. other_on old mid new place (first.others place) (second.others place);
      told = λ place is. either place is;
    }
      where
        either : (place : ℕ) → P place ⊎ Q place → IsTold nodes steps new place
        either place (inl before) = still_told mid new place (first.told place before) (second.others place)
        either place (inr after) = second.told place after

    -- fewer places,
    pub tells_fewer : (old new : Row) → ((place : ℕ) → Q place → P place) → Tells nodes steps P old new → Tells nodes steps Q old new
    tells_fewer old new fewer tells = record { round = tells.round; others = tells.others; told = λ place is. tells.told place (fewer place is) }

  -- no place,
  pub tells_none : {P : ℕ → Type 0} (row : Row) → ((place : ℕ) → P place → IsTold nodes steps row place) → Tells nodes steps P row row
  tells_none row told = record { round = record { many = refl; begin = refl; entries = refl }; others = λ place. inl refl; told = told }

  -- and one place.
  pub tells_one : (row : Row) (place : ℕ) (step : Step) (answer : Bool) → slice_get steps place ≡ Some step → place < length row.flags → ((program : Program) → TellsOpen program nodes step answer)
      → Tells nodes steps (λ at. at ≡ place) row (record row { flags = slice_set row.flags place answer })
  tells_one row place step answer there within tells = record {
    round = record { many = length-set row.flags place answer; begin = refl; entries = refl };
    others = λ at. by at (eqb at place) refl;
    told = λ at same. subst (λ k. IsTold nodes steps (record row { flags = slice_set row.flags place answer }) k) (sym same) here;
  }
    where
      here : IsTold nodes steps (record row { flags = slice_set row.flags place answer }) place
      here = λ other stands.
          let same : step ≡ other = cc (sym there ∙ stands) in
          (answer, set_here row.flags place answer within, subst (λ s. (program : Program) → TellsOpen program nodes s answer) same tells)

      by : (at : ℕ) (same : Bool) → eqb at place ≡ same → (slice_get (slice_set row.flags place answer) at ≡ slice_get row.flags at) ⊎ IsTold nodes steps (record row { flags = slice_set row.flags place answer }) at
      by at true is = inr (subst (λ k. IsTold nodes steps (record row { flags = slice_set row.flags place answer }) k) (sym (eqb-true at place is)) here)
      by at false is = inl (set_elsewhere row.flags place at answer (eqb-false at place is))
