-- The flags of a row are told anew at some of its places, but for those whose slots stay.
use Rattle.std.specs.Int.{bit_at}
use Rattle.std.proofs.Common.{ℕ, ◌<◌, ◌≡◌, ◌⊎◌, inl, inr, refl, sym, ◌∙◌, ap, subst, true, Some, List, slice_get, arith, ⊎_elim}
use Rattle.std.proofs.lemmas.Bool.{cases_eq}
use Rattle.std.proofs.lemmas.Nat.Bits.{bit_at-lt}
use Rattle.dso_base.specs.declared.journal.Entry.{Entry}
use Rattle.dso_world.specs.declared.nodes.Nodes.{Nodes}
use Rattle.dso_world.specs.declared.step.Step.{Step}
use Rattle.dso_world.specs.declared.step.Step.TheVariants as step
use Rattle.dso_world.specs.AskedAgain.{IsAmong, OthersAreSpared, Settles, Stays, StaysAt}
use Rattle.dso_world.specs.Flags.{Row}
use Rattle.dso_world.specs.StepPlaces.{IsOwnOf}
use Rattle.dso_world.specs.StepUpdates.{IsTold, Tells}
use Rattle.dso_world.specs.Touched.{client_of}
use Rattle.dso_world.specs.WorldSteps.{is_own, slot_of}
use Rattle.dso_world.proofs.places.Telling.{kept_on, other_on, still_told}

module _ (words : List ℕ) (nodes : Nodes) (entry : Entry) (steps : List Step) where
  -- what is settled stays so, where the flag stays or is told again
  still_settled : (old new : Row) (place : ℕ) → IsTold nodes steps old place ⊎ StaysAt words nodes entry steps place → (slice_get new.flags place ≡ slice_get old.flags place) ⊎ IsTold nodes steps new place
      → IsTold nodes steps new place ⊎ StaysAt words nodes entry steps place
  still_settled old new place (inl told) later = inl (still_told nodes steps old new place told later)
  still_settled old new place (inr stays) later = inr stays

  module _ {P Q : ℕ → Type 0} where
    -- Some places after some others,
    pub settles_both : (old mid new : Row) → Settles words nodes entry steps P old mid → Settles words nodes entry steps Q mid new → Settles words nodes entry steps (λ place. P place ⊎ Q place) old new
    settles_both old mid new first second = record {
      round = kept_on old mid new first.round second.round;
      others = λ place. other_on nodes steps old mid new place (first.others place) (second.others place);
      settled = λ place is. either place is;
    }
      where
        either : (place : ℕ) → P place ⊎ Q place → IsTold nodes steps new place ⊎ StaysAt words nodes entry steps place
        either place (inl before) = still_settled mid new place (first.settled place before) (second.others place)
        either place (inr after) = second.settled place after

    -- fewer places,
    pub settles_fewer : (old new : Row) → ((place : ℕ) → Q place → P place) → Settles words nodes entry steps P old new → Settles words nodes entry steps Q old new
    settles_fewer old new fewer settles = record { round = settles.round; others = settles.others; settled = λ place is. settles.settled place (fewer place is) }

  module _ {P : ℕ → Type 0} where
    -- places that are all told,
    pub told_settles : (old new : Row) → Tells nodes steps P old new → Settles words nodes entry steps P old new
    told_settles old new tells = record { round = tells.round; others = tells.others; settled = λ place is. inl (tells.told place is) }

    -- and places that all stay.
    pub stay_settles : (row : Row) → ((place : ℕ) → P place → StaysAt words nodes entry steps place) → Settles words nodes entry steps P row row
    stay_settles row stay = record { round = record { many = refl; begin = refl; entries = refl }; others = λ place. inl refl; settled = λ place is. inr (stay place is) }

  -- A client's own places: those of its threads whose numbers are told, and of the others, which stay.
  pub own_settles : (number threads : ℕ) (old new : Row)
      → Tells nodes steps (λ at. ((slice_get steps at ≡ Some (step.TakeDown number)) ⊎ (slice_get steps at ≡ Some (step.Flush number))) ⊎ IsAmong number threads steps at) old new
      → OthersAreSpared words nodes entry number threads → Settles words nodes entry steps (IsOwnOf number steps) old new
  own_settles number threads old new tells spared = record { round = tells.round; others = tells.others; settled = λ place is. by place is.step is.there is.own is.its }
    where
      by : (place : ℕ) (one : Step) → slice_get steps place ≡ Some one → is_own one ≡ true → client_of (slot_of one) ≡ number → IsTold nodes steps new place ⊎ StaysAt words nodes entry steps place
      by place (step.Act t) there own its = ⊎_elim
          (λ among. inl (tells.told place (inr (record { thread = t; there = there; its = its; among = among }))))
          (λ other. inr (λ one stands program.
          let same : step.Act t ≡ one = cc (sym there ∙ stands) in
          let few : bit_at threads t.index < 2 = bit_at-lt threads t.index in
          subst (Stays program words nodes entry) same (spared t its (omega (arith, few, other)) program)))
          (cases_eq (bit_at threads t.index) 1)
      by place (step.TakeDown c) there own its = inl (tells.told place (inl (inl (there ∙ ap (λ n. Some (step.TakeDown n)) its))))
      by place (step.Flush c) there own its = inl (tells.told place (inl (inr (there ∙ ap (λ n. Some (step.Flush n)) its))))
      by place (step.TakeUp c) there own its = absurd (cc own)
      by place (step.Lose c) there own its = absurd (cc own)
      by place (step.Break c) there own its = absurd (cc own)
