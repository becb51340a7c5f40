-- Where each slot of a cluster stands is computed from where its client's own slots begin.
use Rattle.std.specs.List.{flat_map}
use Rattle.std.proofs.Common.{ℕ, zero, suc, ◌+◌, ◌*◌, ◌-◌, ◌<◌, ◌≤◌, ◌≡◌, refl, sym, ◌∙◌, ap, subst, Some, List, [], ◌∷◌, ◌++◌, length, map, option_map, slice_get, arith}
use Rattle.std.proofs.lemmas.List.{append-nil, length-append, length-map}
use Rattle.std.proofs.lemmas.List.Concat.{flat_map-append}
use Rattle.std.proofs.lemmas.Option.{slice_get-map, slice_get_within}
use Rattle.dso_class.proofs.lists.Joined.{Stands, stands}
use Rattle.dso_client.proofs.contexts.ContextsFound.{number_at_place}
use Rattle.dso_client.specs.Openings.{first_threads, thread_at}
use Rattle.dso_law.specs.Settings.{Settings, clients_of, threads_of, up_to}
use Rattle.dso_legal.specs.Slots.{Slot, Acts, TakesDown, Flushes, TakesUp, Loses, Breaks, client_slots, slots}
use Rattle.dso_world.specs.declared.step_table.OwnSteps.{OwnSteps}
use Rattle.dso_world.specs.StepPlaces.{AreOwnOf, AreWithin, IsPlaced}

-- a list has something at each place within it
something : {X : Type 0} (xs : List X) (place : ℕ) → place < length xs → (x : X) × (slice_get xs place ≡ Some x)
something [] place within = absurd (omega (arith, within))
something (x ∷ xs) zero within = (x, refl)
something (x ∷ xs) (suc place) within = something xs place (omega (arith, within))

module _ {X : Type 0} (f : ℕ → List X) where
  -- what is made of one number more stands behind what is made of those before
  pub one_number_more : (n : ℕ) → flat_map f (up_to (suc n)) ≡ flat_map f (up_to n) ++ f (suc n)
  one_number_more n = flat_map-append f (up_to n) (suc n ∷ []) ∙ ap (λ list. flat_map f (up_to n) ++ list) (append-nil (f (suc n)))

  -- an item of what is made of the first numbers stands in what is made of one of them
  record StandsIn (last place : ℕ) (x : X) : Type 0 where
    before : ℕ
    within : before < last
    at : ℕ
    there : slice_get (f (suc before)) at ≡ Some x
    behind : place ≡ length (flat_map f (up_to before)) + at

  stands_in : (last place : ℕ) (x : X) → slice_get (flat_map f (up_to last)) place ≡ Some x → StandsIn last place x
  stands_in zero place x is = absurd (cc is)
  stands_in (suc last) place x is = by (stands (flat_map f (up_to last)) (f (suc last)) place x (ap (λ list. slice_get list place) (sym (one_number_more last)) ∙ is)) (stands_in last place x)
    where
      by : Stands (flat_map f (up_to last)) (f (suc last)) place x → (slice_get (flat_map f (up_to last)) place ≡ Some x → StandsIn last place x) → StandsIn (suc last) place x
      by (Stands.before there) first =
          let so = first there in
          record { before = so.before; within = omega (arith, so.within); at = so.at; there = so.there; behind = so.behind }
      by (Stands.behind at is there) first = record { before = last; within = omega arith; at = at; there = there; behind = is }

many_up_to : (n : ℕ) → length (up_to n) ≡ n
many_up_to zero = refl
many_up_to (suc n) =
    let all : length (up_to n ++ suc n ∷ []) ≡ length (up_to n) + 1 = length-append (up_to n) (suc n ∷ []) in
    omega (arith, all, many_up_to n)

-- two slots for each client
abbrev triggers : ℕ → List Slot
triggers c = Loses c ∷ Breaks c ∷ []

many_triggers : (n : ℕ) → length (flat_map triggers (up_to n)) ≡ 2 * n
many_triggers zero = refl
many_triggers (suc n) =
    let all : length (flat_map triggers (up_to (suc n))) ≡ length (flat_map triggers (up_to n)) + 2 = ap length (one_number_more triggers n) ∙ length-append (flat_map triggers (up_to n)) (triggers (suc n)) in
    omega (arith, all, many_triggers n)

module _ (p : Settings) where
  -- how many own slots the first clients have
  abbrev begun : ℕ → ℕ
  begun n = length (flat_map (client_slots p) (up_to n))

  many_own : (c : ℕ) → length (client_slots p c) ≡ length (threads_of p c) + 2
  many_own c = length-append (map Acts (threads_of p c)) (TakesDown c ∷ Flushes c ∷ []) ∙ ap (λ n. n + 2) (length-map (threads_of p c) Acts)

  begun_on : (n : ℕ) → begun (suc n) ≡ begun n + (length (threads_of p (suc n)) + 2)
  begun_on n = ap length (one_number_more (client_slots p) n) ∙ length-append (flat_map (client_slots p) (up_to n)) (client_slots p (suc n)) ∙ ap (λ k. begun n + k) (many_own (suc n))

  -- these are few where each client has few threads
  few_begun : (few : (c : ℕ) → length (threads_of p c) ≤ 16) (n : ℕ) → begun n ≤ 18 * n
  few_begun few zero = omega arith
  few_begun few (suc n) = omega (arith, begun_on n, few (suc n), few_begun few n)

  module _ (own : List OwnSteps) (are : AreOwnOf p p.clients own) where
    -- so no sum of places wraps
    pub are_within : ((c : ℕ) → length (threads_of p c) ≤ 16) → p.clients ≤ 16 → AreWithin own (begun p.clients)
    are_within few clients = record {
      begins = λ place its there.
          let at = are.begins place its there in
          let within = slice_get_within own place its there in
          let many = are.many in
          omega (arith, at, within, many, clients, few_begun few place);
      far = omega (arith, clients, few_begun few p.clients);
      many = let many = are.many in omega (arith, many, clients);
    }

    module _ (numbered : (c : ℕ) → threads_of p c ≡ first_threads c (length (threads_of p c))) where
      abbrev Placed : ℕ → Slot → Type 0
      Placed place slot = IsPlaced own (begun p.clients) place slot

      one_less : (n : ℕ) → n ≡ suc n - 1
      one_less n = omega arith

      module _ (before : ℕ) (within : before < p.clients) where
        abbrev c : ℕ
        c = suc before

        -- where the client's own slots stand
        its : (its : OwnSteps) × (slice_get own before ≡ Some its)
        its = something own before (let many = are.many in omega (arith, within, many))

        listed : slice_get own (c - 1) ≡ Some its.0
        listed = ap (slice_get own) (sym (one_less before)) ∙ its.1

        begins : its.0.begin ≡ begun before
        begins = are.begins before its.0 its.1

        ends : its.0.end ≡ begun before + (length (threads_of p c) + 2)
        ends = are.ends before its.0 its.1 ∙ begun_on before

        act_placed : (at : ℕ) (slot : Slot) → slice_get (map Acts (threads_of p c)) at ≡ Some slot → Placed (begun before + at) slot
        act_placed at slot is =
            let n = length (threads_of p c) in
            let less : at < n = omega (arith, slice_get_within (map Acts (threads_of p c)) at slot is, length-map (threads_of p c) Acts) in
            let there : slice_get (map Acts (threads_of p c)) at ≡ Some (Acts (thread_at c (suc at))) = ap (λ ts. slice_get (map Acts ts) at) (numbered c)
            ∙ slice_get-map Acts (first_threads c n) at ∙ ap (option_map Acts) (slice_get-map (thread_at c) (up_to n) at ∙ ap (option_map (thread_at c)) (number_at_place n at less)) in
            let same : Acts (thread_at c (suc at)) ≡ slot = cc (sym there ∙ is) in
            subst (Placed (begun before + at)) same (record { its = its.0; listed = listed; at = (omega (arith, begins), omega (arith, ends, less)) })

        own_placed : (at : ℕ) (slot : Slot) → slice_get (client_slots p c) at ≡ Some slot → Placed (begun before + at) slot
        own_placed at slot is = by (stands (map Acts (threads_of p c)) (TakesDown c ∷ Flushes c ∷ []) at slot is)
          where
            many : length (map Acts (threads_of p c)) ≡ length (threads_of p c)
            many = length-map (threads_of p c) Acts

            two : (k : ℕ) → at ≡ length (map Acts (threads_of p c)) + k → slice_get (TakesDown c ∷ Flushes c ∷ []) k ≡ Some slot → Placed (begun before + at) slot
            two zero is there =
                let same : TakesDown c ≡ slot = cc there in
                subst (Placed (begun before + at)) same (record { its = its.0; listed = listed; at = (omega (arith, ends, is, many), omega (arith, begins)) })
            two (suc zero) is there =
                let same : Flushes c ≡ slot = cc there in
                subst (Placed (begun before + at)) same (record { its = its.0; listed = listed; at = (omega (arith, ends, is, many), omega (arith, begins)) })
            two (suc (suc k)) is there = absurd (cc there)

            by : Stands (map Acts (threads_of p c)) (TakesDown c ∷ Flushes c ∷ []) at slot → Placed (begun before + at) slot
            by (Stands.before there) = act_placed at slot there
            by (Stands.behind k is there) = two k is there

        taking_placed : Placed (begun p.clients + before) (TakesUp c)
        taking_placed = record { its = its.0; listed = listed; at = omega arith }

        trigger_placed : (at : ℕ) (slot : Slot) → slice_get (triggers c) at ≡ Some slot → Placed (begun p.clients + p.clients + (2 * before + at)) slot
        trigger_placed zero slot there =
            let same : Loses c ≡ slot = cc there in
            let many = are.many in
            subst (Placed (begun p.clients + p.clients + (2 * before + 0))) same (record { its = its.0; listed = listed; at = omega (arith, many) })
        trigger_placed (suc zero) slot there =
            let same : Breaks c ≡ slot = cc there in
            let many = are.many in
            subst (Placed (begun p.clients + p.clients + (2 * before + 1))) same (record { its = its.0; listed = listed; at = omega (arith, many) })
        trigger_placed (suc (suc at)) slot there = absurd (cc there)

      -- a place that is told in two ways
      told_so : (place same : ℕ) (slot : Slot) → same ≡ place → Placed same slot → Placed place slot
      told_so place same slot is placed = subst (λ k. Placed k slot) is placed

      first_part : (place : ℕ) (slot : Slot) → slice_get (flat_map (client_slots p) (clients_of p)) place ≡ Some slot → Placed place slot
      first_part place slot there =
          let so = stands_in (client_slots p) p.clients place slot there in
          told_so place (begun so.before + so.at) slot (sym so.behind) (own_placed so.before so.within so.at slot so.there)

      second_part : (at : ℕ) (slot : Slot) → slice_get (map TakesUp (clients_of p)) at ≡ Some slot → Placed (begun p.clients + at) slot
      second_part at slot is =
          let less : at < p.clients = omega (arith, slice_get_within (map TakesUp (clients_of p)) at slot is, length-map (clients_of p) TakesUp, many_up_to p.clients) in
          let there : slice_get (map TakesUp (clients_of p)) at ≡ Some (TakesUp (suc at)) = slice_get-map TakesUp (clients_of p) at ∙ ap (option_map TakesUp) (number_at_place p.clients at less) in
          let same : TakesUp (suc at) ≡ slot = cc (sym there ∙ is) in
          subst (Placed (begun p.clients + at)) same (taking_placed at less)

      third_part : (at : ℕ) (slot : Slot) → slice_get (flat_map triggers (clients_of p)) at ≡ Some slot → Placed (begun p.clients + p.clients + at) slot
      third_part at slot is =
          let so = stands_in triggers p.clients at slot is in
          told_so (begun p.clients + p.clients + at) (begun p.clients + p.clients + (2 * so.before + so.at)) slot
          (let behind = so.behind in omega (arith, behind, many_triggers so.before)) (trigger_placed so.before so.within so.at slot so.there)

      -- Each slot stands where it is computed.
      pub slots_placed : (place : ℕ) (slot : Slot) → slice_get (slots p) place ≡ Some slot → IsPlaced own (begun p.clients) place slot
      slots_placed place slot is = by (stands (flat_map (client_slots p) (clients_of p) ++ map TakesUp (clients_of p)) (flat_map triggers (clients_of p)) place slot is)
        where
          front : Stands (flat_map (client_slots p) (clients_of p)) (map TakesUp (clients_of p)) place slot → Placed place slot
          front (Stands.before there) = first_part place slot there
          front (Stands.behind at is there) = told_so place (begun p.clients + at) slot (sym is) (second_part at slot there)

          many : length (flat_map (client_slots p) (clients_of p) ++ map TakesUp (clients_of p)) ≡ begun p.clients + p.clients
          many = length-append (flat_map (client_slots p) (clients_of p)) (map TakesUp (clients_of p)) ∙ ap (λ n. begun p.clients + n) (length-map (clients_of p) TakesUp ∙ many_up_to p.clients)

          by : Stands (flat_map (client_slots p) (clients_of p) ++ map TakesUp (clients_of p)) (flat_map triggers (clients_of p)) place slot → Placed place slot
          by (Stands.before there) = front (stands (flat_map (client_slots p) (clients_of p)) (map TakesUp (clients_of p)) place slot there)
          by (Stands.behind at is there) = told_so place (begun p.clients + p.clients + at) slot (sym (is ∙ ap (λ n. n + at) many)) (third_part at slot there)
