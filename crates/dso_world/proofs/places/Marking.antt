-- The flags of a row are told anew where an entry may have changed them.
use Rattle.std.specs.List.{list_any}
use Rattle.std.specs.Option.{option_map_or}
use Rattle.std.proofs.Common.{ℕ, zero, suc, ◌≤◌, ◌≡◌, ◌⊎◌, inl, inr, refl, sym, ◌∙◌, ap, Bool, true, false, eqb, ◌||◌, Option, Some, None, List, [], ◌∷◌, length, map, option_map, slice_get, take, arith}
use Rattle.std.proofs.lemmas.Option.{slice_get-map, slice_get_cases, slice_get_past}
use Rattle.dso_base.specs.declared.journal.Entry.{Entry}
use Rattle.dso_base.specs.declared.journal.Input.{Input}
use Rattle.dso_base.specs.declared.journal.Node.TheVariants.{Client}
use Rattle.dso_base.specs.declared.journal.Sent.{Sent}
use Rattle.dso_class.specs.declared.program.Program.{Program}
use Rattle.dso_legal.specs.Slots.{Slot, is_open, slots}
use Rattle.dso_machine.specs.Next.{next_request}
use Rattle.dso_lookup.proofs.Tests.{right_holds}
use Rattle.dso_plain.proofs.keys.SameKeys.{same_number}
use Rattle.dso_world.specs.declared.nodes.Nodes.{Nodes}
use Rattle.dso_world.specs.declared.step.Step.{Step}
use Rattle.dso_world.specs.declared.step.Step.TheVariants as step
use Rattle.dso_world.specs.AskedAgain.{Settles, StaysAt}
use Rattle.dso_world.specs.AskingThreads.{AreListed}
use Rattle.dso_world.specs.ChosenSlot.{is_slot}
use Rattle.dso_world.specs.Flags.{Row}
use Rattle.dso_world.specs.StepPlaces.{IsOwnOf}
use Rattle.dso_world.specs.StepUpdates.{AreFlags, IsGoing, IsSentTo, IsServedBy, IsTold, IsTouchedAt, Marks, is_served}
use Rattle.dso_world.specs.ClientSteps.{IsJournal}
use Rattle.dso_world.specs.NodesStand.{NodesStand}
use Rattle.dso_world.specs.Touched.{client_in, client_of, goes_to, is_input_of, is_touched, is_touched_by}
use Rattle.dso_world.specs.WorldSteps.{is_own, settings_of, slot_of}
use Rattle.dso_world.proofs.slots.Once.{same_slot}
use Rattle.dso_world.proofs.slots.OthersStay.{others_stay}

-- a slot at a place is among the slots
pub among_slots : (slot : Slot) (xs : List Slot) (place : ℕ) → slice_get xs place ≡ Some slot → list_any (is_slot slot) xs ≡ true
among_slots slot [] place is = absurd (cc is)
among_slots slot (x ∷ xs) zero is =
    let same : x ≡ slot = cc is in
    ap (λ b. b || list_any (is_slot slot) xs) (ap (is_slot slot) same ∙ same_slot slot)
among_slots slot (x ∷ xs) (suc place) is = by (is_slot slot x) (among_slots slot xs place is)
  where
    by : (here : Bool) → list_any (is_slot slot) xs ≡ true → (here || list_any (is_slot slot) xs) ≡ true
    by true later = refl
    by false later = later

-- what stands at a place of a list is told at that place
pub told_place : {A B : Type 0} (f : A → B) (xs : List A) (place : ℕ) (x : A) → slice_get xs place ≡ Some x → slice_get (map f xs) place ≡ Some (f x)
told_place f xs place x is = slice_get-map f xs place ∙ ap (option_map f) is

-- lists with the same at each place are the same
same_items : {X : Type 0} (xs ys : List X) → ((place : ℕ) → slice_get xs place ≡ slice_get ys place) → xs ≡ ys
same_items [] [] each = refl
same_items [] (y ∷ ys) each = absurd (cc (each 0))
same_items (x ∷ xs) [] each = absurd (cc (each 0))
same_items (x ∷ xs) (y ∷ ys) each =
    let first : x ≡ y = cc (each 0) in
    ap (λ z. z ∷ xs) first ∙ ap (λ zs. y ∷ zs) (same_items xs ys (λ place. each (suc place)))

module _ (program : Program) (words : List ℕ) (nodes : Nodes) (entry : Entry) (steps : List Step) (old new : Row) (settles : Settles words nodes entry steps (IsTouchedAt entry steps) old new)
    (long : length steps ≡ length old.flags) (es : List Entry) (journal : IsJournal program (entry ∷ es)) (stands : NodesStand program nodes (entry ∷ es))
    (listed : AreListed program words es) (are : AreFlags program steps old es) where
  -- whether a slot is open after the entries
  abbrev opens : List Entry → Slot → Bool
  opens es slot = is_open (settings_of program) (next_request program.code) es slot

  abbrev all : List Slot
  all = slots (settings_of program)

  module _ (place : ℕ) (step : Step) (there : slice_get steps place ≡ Some step) where
    -- the slot at the place
    at : slice_get all place ≡ Some (slot_of step)
    at = ap (λ list. slice_get list place) (sym are.listed) ∙ told_place slot_of steps place step there

    flag_told : IsTold nodes steps new place → slice_get new.flags place ≡ Some (opens (entry ∷ es) (slot_of step))
    flag_told told =
        let its = told step there in
        its.1 ∙ ap (λ b. Some b) (its.2 program (entry ∷ es) journal stands (among_slots (slot_of step) all place at))

    -- that of a slot that is open where it was before
    unchanged : opens (entry ∷ es) (slot_of step) ≡ opens es (slot_of step) → (slice_get new.flags place ≡ slice_get old.flags place) ⊎ IsTold nodes steps new place
        → slice_get new.flags place ≡ Some (opens (entry ∷ es) (slot_of step))
    unchanged stays (inr told) = flag_told told
    unchanged stays (inl same) = same ∙ ap (λ flags. slice_get flags place) are.flags ∙ told_place (opens es) all place (slot_of step) at ∙ ap (λ b. Some b) (sym stays)

    of_touched : IsTold nodes steps new place ⊎ StaysAt words nodes entry steps place → slice_get new.flags place ≡ Some (opens (entry ∷ es) (slot_of step))
    of_touched (inl told) = flag_told told
    of_touched (inr stays) = unchanged (stays step there program es journal stands listed (among_slots (slot_of step) all place at)) (settles.others place)

    flag_is : slice_get new.flags place ≡ slice_get (map (opens (entry ∷ es)) all) place
    flag_is = by (is_touched entry.node entry.input entry.sent (slot_of step)) refl ∙ sym (told_place (opens (entry ∷ es)) all place (slot_of step) at)
      where
        by : (touched : Bool) → is_touched entry.node entry.input entry.sent (slot_of step) ≡ touched → slice_get new.flags place ≡ Some (opens (entry ∷ es) (slot_of step))
        by true is = of_touched (settles.settled place (step, there, is))
        by false is = unchanged (others_stay (settings_of program) (next_request program.code) entry es (slot_of step) is) (settles.others place)

  -- there is no flag and no slot where no step is
  flag_past : (place : ℕ) → length steps ≤ place → slice_get steps place ≡ None → slice_get new.flags place ≡ slice_get (map (opens (entry ∷ es)) all) place
  flag_past place past none =
      let none_there : slice_get all place ≡ None = ap (λ list. slice_get list place) (sym are.listed) ∙ slice_get-map slot_of steps place ∙ ap (option_map slot_of) none in
      let many = settles.round.many in
      slice_get_past new.flags place (omega (arith, many, long, past)) ∙ sym (slice_get-map (opens (entry ∷ es)) all place ∙ ap (option_map (opens (entry ∷ es))) none_there)

  flags_are : new.flags ≡ map (opens (entry ∷ es)) all
  flags_are = same_items new.flags (map (opens (entry ∷ es)) all) (λ place. elim (slice_get_cases steps place).1 [
    | inl some ↦ flag_is place some.0 some.2
    | inr none ↦ flag_past place none.0 none.1
  ])

-- Where all is told that the entry touches, or stays, the flags tell of the entries with it.
pub all_marked : (program : Program) (words : List ℕ) (nodes : Nodes) (entry : Entry) (steps : List Step) (old new : Row) → Settles words nodes entry steps (IsTouchedAt entry steps) old new → length steps ≡ length old.flags
    → Marks program words nodes entry steps old new
all_marked program words nodes entry steps old new settles long = λ es journal stands listed are. record { listed = are.listed; flags = flags_are program words nodes entry steps old new settles long es journal stands listed are }

-- ---- what is touched

either_is : (a b : Bool) → (a || b) ≡ true → (a ≡ true) ⊎ (b ≡ true)
either_is true b is = inl refl
either_is false b is = inr is

-- an input that is of a client
input_is : (c : ℕ) (input : Input) → is_input_of c input ≡ true → client_in input ≡ Some c
input_is c input is = by (client_in input) refl is
  where
    by : (whose : Option ℕ) → client_in input ≡ whose → option_map_or (eqb c) whose false ≡ true → whose ≡ Some c
    by None none is = absurd (cc is)
    by (Some d) its is = ap (λ n. Some n) (sym (same_number c d is))

module _ (steps : List Step) (place : ℕ) where
  served_by : (input : Input) (c : ℕ) (one : Step) → slice_get steps place ≡ Some one → is_served one ≡ true → client_of (slot_of one) ≡ c → is_input_of c input ≡ true → IsServedBy input steps place
  served_by input c one there served its is = (c, input_is c input is, record { step = one; there = there; served = served; its = its })

  -- What an entry of the server touches is of the client of its input, or is sent to,
  pub by_server : (input : Input) (sent : List Sent) (one : Step) → slice_get steps place ≡ Some one → is_touched_by input sent (slot_of one) ≡ true → IsServedBy input steps place ⊎ IsSentTo sent steps place
  by_server input sent (step.Act t) there is = absurd (cc is)
  by_server input sent (step.Flush c) there is = absurd (cc is)
  by_server input sent (step.TakeDown c) there is = elim (either_is (is_input_of c input) (list_any (goes_to c) sent) is) [
    | inl its ↦ inl (served_by input c (step.TakeDown c) there refl refl its)
    | inr goes ↦ inr (c, there, goes)
  ]
  by_server input sent (step.TakeUp c) there is = inl (served_by input c (step.TakeUp c) there refl refl is)
  by_server input sent (step.Lose c) there is = inl (served_by input c (step.Lose c) there refl refl is)
  by_server input sent (step.Break c) there is = inl (served_by input c (step.Break c) there refl refl is)

  own_of : (d c : ℕ) (one : Step) → slice_get steps place ≡ Some one → is_own one ≡ true → client_of (slot_of one) ≡ c → eqb d c ≡ true → IsOwnOf d steps place
  own_of d c one there own its is = record { step = one; there = there; own = own; its = its ∙ sym (same_number d c is) }

  -- and what one of a client touches is its own, or what the server takes of it.
  pub by_client : (d : ℕ) (input : Input) (sent : List Sent) (one : Step) → slice_get steps place ≡ Some one → is_touched (Client d) input sent (slot_of one) ≡ true
      → IsOwnOf d steps place ⊎ (slice_get steps place ≡ Some (step.TakeUp d))
  by_client d input sent (step.Act t) there is = inl (own_of d t.client (step.Act t) there refl refl is)
  by_client d input sent (step.Flush c) there is = inl (own_of d c (step.Flush c) there refl refl is)
  by_client d input sent (step.TakeDown c) there is = inl (own_of d c (step.TakeDown c) there refl refl is)
  by_client d input sent (step.TakeUp c) there is = inr (there ∙ ap (λ n. Some (step.TakeUp n)) (sym (same_number d c is)))
  by_client d input sent (step.Lose c) there is = absurd (cc is)
  by_client d input sent (step.Break c) there is = absurd (cc is)

-- what holds of one of a front that is longer by one holds of one of the front, or of that one
pub any_next : {X : Type 0} (test : X → Bool) (i : ℕ) (xs : List X) (x : X) → slice_get xs i ≡ Some x → list_any test (take (suc i) xs) ≡ true → (list_any test (take i xs) ≡ true) ⊎ (test x ≡ true)
any_next test i [] x there is = absurd (cc there)
any_next test zero (y ∷ ys) x there is = elim (either_is (test y) false is) [
  | inl here ↦ inr (ap test (sym (cc there)) ∙ here)
  | inr none ↦ absurd (cc none)
]
any_next test (suc i) (y ∷ ys) x there is = elim (either_is (test y) (list_any test (take (suc i) ys)) is) [
  | inl here ↦ inl (ap (λ b. b || list_any test (take i ys)) here)
  | inr later ↦ elim (any_next test i ys x there later) [
    | inl before ↦ inl (right_holds (test y) (list_any test (take i ys)) before)
    | inr last ↦ inr last
  ]
]

-- a place that one of some messages goes to, with one more of them
pub one_message : (steps : List Step) (place i next : ℕ) (sent : List Sent) (message : Sent) → next ≡ suc i → slice_get sent i ≡ Some message → IsSentTo (take next sent) steps place
    → IsSentTo (take i sent) steps place ⊎ IsGoing message steps place
one_message steps place i next sent message is there (c, stands, goes) = elim (any_next (goes_to c) i sent message there (ap (λ n. list_any (goes_to c) (take n sent)) (sym is) ∙ goes)) [
  | inl before ↦ inl (c, stands, before)
  | inr last ↦ inr (c, stands, last)
]
