-- Where the own steps of a sound program's clients stand, client by client.
use Rattle.std.specs.List.{flat_map}
use Rattle.std.proofs.Common.{ℕ, zero, suc, ◌+◌, ◌≤◌, ◌≡◌, refl, sym, ◌∙◌, ap, subst, List, [], ◌∷◌, ◌++◌, length, map, slice_get, arith}
use Rattle.std.proofs.lemmas.List.{length-append, length-map}
use Rattle.dso_class.proofs.lists.Joined.{Stands, stands}
use Rattle.dso_class.specs.declared.program.Program.{Program}
use Rattle.dso_class.specs.Sound.{IsSoundProgram}
use Rattle.dso_client.specs.Openings.{first_threads}
use Rattle.dso_law.specs.Settings.{Settings, threads_of, up_to}
use Rattle.dso_legal.specs.Slots.{TakesUp, Loses, Breaks, client_slots, slots}
use Rattle.dso_world.specs.declared.step.Step.{Step}
use Rattle.dso_world.specs.declared.step_table.OwnSteps.{OwnSteps}
use Rattle.dso_world.specs.StepPlaces.{AreOwnOf, ArePlaced, AreWithin, IsPlaced}
use Rattle.dso_world.specs.WorldSteps.{settings_of, slot_of}
use Rattle.dso_world.proofs.places.Computed.{are_within, one_number_more, slots_placed}
use Rattle.dso_world.proofs.places.Marking.{told_place}
use Rattle.dso_world.proofs.programs.Threads.{own_few, own_first}

-- the first client's are those behind none
pub none_yet : (p : Settings) → AreOwnOf p 0 []
none_yet p = record { many = refl; begins = λ place its there. absurd (cc there); ends = λ place its there. absurd (cc there) }

-- as many steps as slots
pub as_many : (steps : List Step) (p : Settings) (count : ℕ) → map slot_of steps ≡ flat_map (client_slots p) (up_to count) → length steps ≡ length (flat_map (client_slots p) (up_to count))
as_many steps p count listed = sym (length-map steps slot_of) ∙ ap length listed

-- one client's own steps more
pub more_listed : (p : Settings) (count next : ℕ) (steps more : List Step) → next ≡ suc count → map slot_of steps ≡ flat_map (client_slots p) (up_to count) → map slot_of more ≡ map slot_of steps ++ client_slots p next
    → map slot_of more ≡ flat_map (client_slots p) (up_to next)
more_listed p count next steps more is listed added = added ∙ ap (λ front. front ++ client_slots p next) listed ∙ ap (λ c. flat_map (client_slots p) (up_to count) ++ client_slots p c) is
    ∙ sym (one_number_more (client_slots p) count) ∙ ap (λ n. flat_map (client_slots p) (up_to n)) (sym is)

-- and where they stand
pub one_own_more : (p : Settings) (count next : ℕ) (own more : List OwnSteps) (its : OwnSteps) → AreOwnOf p count own → next ≡ suc count → its.begin ≡ length (flat_map (client_slots p) (up_to count))
    → its.end ≡ length (flat_map (client_slots p) (up_to next)) → more ≡ own ++ its ∷ [] → AreOwnOf p next more
one_own_more p count next own more its are one begins ends is = subst (AreOwnOf p next) (sym is) (record {
  many = length-append own (its ∷ []) ∙ (let many = are.many in omega (arith, many, one));
  begins = λ place other there. begun place other (stands own (its ∷ []) place other there);
  ends = λ place other there. ended place other (stands own (its ∷ []) place other there);
})
  where
    -- the last one stands behind all others
    last : (place k : ℕ) → place ≡ length own + k → k ≡ 0 → place ≡ count
    last place k at none = let many = are.many in omega (arith, at, none, many)

    begun : (place : ℕ) (other : OwnSteps) → Stands own (its ∷ []) place other → other.begin ≡ length (flat_map (client_slots p) (up_to place))
    begun place other (Stands.before there) = are.begins place other there
    begun place other (Stands.behind zero at there) =
        let its_is : its ≡ other = cc there in
        let same : count ≡ place = sym (last place 0 at refl) in
        ap (λ (o : OwnSteps). o.begin) (sym its_is) ∙ begins ∙ ap (λ n. length (flat_map (client_slots p) (up_to n))) same
    begun place other (Stands.behind (suc k) at there) = absurd (cc there)

    ended : (place : ℕ) (other : OwnSteps) → Stands own (its ∷ []) place other → other.end ≡ length (flat_map (client_slots p) (up_to (suc place)))
    ended place other (Stands.before there) = are.ends place other there
    ended place other (Stands.behind zero at there) =
        let its_is : its ≡ other = cc there in
        let same : next ≡ suc place = (let is = last place 0 at refl in omega (arith, one, is)) in
        ap (λ (o : OwnSteps). o.end) (sym its_is) ∙ ends ∙ ap (λ n. length (flat_map (client_slots p) (up_to n))) same
    ended place other (Stands.behind (suc k) at there) = absurd (cc there)

-- all steps, where those of the server stand behind the own ones of all clients
pub all_listed : (p : Settings) (front taking all : List Step) (takes triggers : ℕ) → map slot_of front ≡ flat_map (client_slots p) (up_to p.clients) → map slot_of taking ≡ map slot_of front ++ map TakesUp (up_to takes)
    → map slot_of all ≡ map slot_of taking ++ flat_map (λ c. Loses c ∷ Breaks c ∷ []) (up_to triggers) → takes ≡ p.clients → triggers ≡ p.clients → map slot_of all ≡ slots p
all_listed p front taking all takes triggers own taken triggered each_taken each = triggered
    ∙ ap (λ first. first ++ flat_map (λ c. Loses c ∷ Breaks c ∷ []) (up_to triggers)) (taken ∙ ap (λ first. first ++ map TakesUp (up_to takes)) own ∙ ap (λ n. flat_map (client_slots p) (up_to p.clients) ++ map TakesUp (up_to n)) each_taken)
    ∙ ap (λ n. flat_map (client_slots p) (up_to p.clients) ++ map TakesUp (up_to p.clients) ++ flat_map (λ c. Loses c ∷ Breaks c ∷ []) (up_to n)) each

module _ (program : Program) (sound : IsSoundProgram program) (own : List OwnSteps) (are : AreOwnOf (settings_of program) program.clients own)
    (front : List Step) (listed : map slot_of front ≡ flat_map (client_slots (settings_of program)) (up_to program.clients)) (behind : ℕ) (is : behind ≡ length front) where
  few : (c : ℕ) → length (threads_of (settings_of program) c) ≤ 16
  few c = own_few program.code sound.code program.threads sound.threads sound.threads_rise c

  numbered : (c : ℕ) → threads_of (settings_of program) c ≡ first_threads c (length (threads_of (settings_of program) c))
  numbered c = own_first program.code sound.code program.threads sound.threads sound.threads_rise c

  begun : length (flat_map (client_slots (settings_of program)) (up_to program.clients)) ≡ behind
  begun = sym (is ∙ as_many front (settings_of program) program.clients listed)

  -- Each step stands where it is computed, and no sum of places wraps.
  pub table_placed : (steps : List Step) → map slot_of steps ≡ slots (settings_of program) → ArePlaced own behind steps
  table_placed steps all = λ place step there. subst (λ b. IsPlaced own b place (slot_of step)) begun
      (slots_placed (settings_of program) own are numbered place (slot_of step) (ap (λ list. slice_get list place) (sym all) ∙ told_place slot_of steps place step there))

  pub table_within : AreWithin own behind
  table_within = subst (AreWithin own) begun (are_within (settings_of program) own are few sound.no_more_clients)
