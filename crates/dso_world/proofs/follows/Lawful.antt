-- A lawful journal stays lawful with an entry that may follow: no client's connection is taken up more often than it broke.
use Rattle.std.specs.List.{AllByRecursion}
use Rattle.std.proofs.Common.{ℕ, suc, ◌≤◌, ◌≡◌, refl, sym, subst, Bool, true, false, cond, eqb, ltb, Option, None, List, [], ◌∷◌, arith}
use Rattle.std.proofs.lemmas.Bool.{ltb-true, ltb-false}
use Rattle.dso_base.specs.declared.journal.Entry.{Entry}
use Rattle.dso_base.specs.declared.journal.Input.{Input}
use Rattle.dso_base.specs.declared.journal.Input.TheVariants as input
use Rattle.dso_base.specs.declared.journal.Node.TheVariants.{Server, Client}
use Rattle.dso_base.specs.declared.journal.Sent.{Sent}
use Rattle.dso_base.specs.declared.lock.ThreadId.{ThreadId}
use Rattle.dso_base.specs.declared.message.Up.{Up}
use Rattle.dso_base.specs.declared.request.Event.{Event}
use Rattle.dso_base.specs.declared.request.Request.{Request}
use Rattle.dso_plain.proofs.keys.SameKeys.{same_number}
use Rattle.dso_law.specs.Settings.{Settings, clients_of}
use Rattle.dso_law.specs.Channels.{CountsRejoins, breaks, count_inputs, is_broken, rejoins}
use Rattle.dso_law.specs.Entries.{entries_of}
use Rattle.dso_legal.specs.Lawful.{IsLawful, MayFollow}
use Rattle.dso_server.specs.Sending.{broke, lost, rejoined, took}
use Rattle.dso_world.specs.LinkStands.{Broken, Half}
use Rattle.dso_world.specs.PastOf.{course_of}
use Rattle.dso_world.proofs.follows.Rejoins.{rejoins_left}
use Rattle.dso_world.proofs.pasts.Courses.{is_broken_by, is_half_by}

-- what holds of each holds of each in another way
each_so : {X : Type 0} (P Q : X → Type 0) → ((x : X) → P x → Q x) → (xs : List X) → AllByRecursion P xs → AllByRecursion Q xs
each_so P Q then [] all = tt
each_so P Q then (x ∷ xs) all = (then x all.0, each_so P Q then xs all.1)

module _ (p : Settings) (next : ThreadId → List Event → Option Request) (es : List Entry) (lawful : IsLawful p next es) where
  -- where the counts of rejoins stay within those of breaks
  stays_lawful : (e : Entry) → MayFollow p next e es → ((c : ℕ) → CountsRejoins c es → CountsRejoins c (e ∷ es)) → IsLawful p next (e ∷ es)
  stays_lawful e may counts = record { follow = (lawful.follow, may); connections = each_so (λ c. CountsRejoins c es) (λ c. CountsRejoins c (e ∷ es)) counts (clients_of p) lawful.connections }

  -- the counts of a client, within each other
  abbrev AreWithin : ℕ → ℕ → ℕ → Type 0
  AreWithin at_client at_server broken = (at_client ≤ broken) × (at_server ≤ at_client)

  module _ (clock : ℕ) (c : ℕ) where
    -- ---- a client

    -- Lawful with an act, a flush or a message taken by a client,
    pub lawful_with : (input : Input) (sent : List Sent) (event : Option Event) → ((d : ℕ) → rejoins d input ≡ false)
        → MayFollow p next (record { clock = clock; node = Client c; input = input; sent = sent; event = event }) es
        → IsLawful p next (record { clock = clock; node = Client c; input = input; sent = sent; event = event } ∷ es)
    lawful_with input sent event still may = stays_lawful (record { clock = clock; node = Client c; input = input; sent = sent; event = event }) may
        (λ d before. let both = by d (eqb d c) before in record { at_client = both.0; at_server = both.1 })
      where
        by : (d : ℕ) (its : Bool) → CountsRejoins d es
            → AreWithin (count_inputs (rejoins d) (cond its (record { clock = clock; node = Client c; input = input; sent = sent; event = event } ∷ entries_of (Client d) es) (entries_of (Client d) es)))
            (count_inputs (rejoins d) (entries_of Server es)) (count_inputs (breaks d) (entries_of Server es))
        by d true before = subst (λ b. AreWithin (cond b (suc (count_inputs (rejoins d) (entries_of (Client d) es))) (count_inputs (rejoins d) (entries_of (Client d) es)))
            (count_inputs (rejoins d) (entries_of Server es)) (count_inputs (breaks d) (entries_of Server es))) (sym (still d)) (before.at_client, before.at_server)
        by d false before = (before.at_client, before.at_server)

    -- the rejoin of the client
    abbrev rejoin : Entry
    rejoin = record { clock = clock; node = Client c; input = input.Rejoin c; sent = []; event = None }

    -- and with a rejoin of one whose connection is broken.
    pub lawful_with_client_rejoin : course_of p c es ≡ Broken → MayFollow p next (record { clock = clock; node = Client c; input = input.Rejoin c; sent = []; event = None }) es
        → IsLawful p next (record { clock = clock; node = Client c; input = input.Rejoin c; sent = []; event = None } ∷ es)
    lawful_with_client_rejoin broken may = stays_lawful rejoin may (λ d before. let both = by d (eqb d c) refl before in record { at_client = both.0; at_server = both.1 })
      where
        fewer : suc (count_inputs (rejoins c) (entries_of (Client c) es)) ≤ count_inputs (breaks c) (entries_of Server es)
        fewer = ltb-true (count_inputs (rejoins c) (entries_of (Client c) es)) (count_inputs (breaks c) (entries_of Server es))
            (is_broken_by (is_broken c (entries_of Server es)) (count_inputs (rejoins c) (entries_of (Client c) es)) (count_inputs (breaks c) (entries_of Server es)) broken).1

        by : (d : ℕ) (its : Bool) → eqb d c ≡ its → CountsRejoins d es
            → AreWithin (count_inputs (rejoins d) (cond its (rejoin ∷ entries_of (Client d) es) (entries_of (Client d) es))) (count_inputs (rejoins d) (entries_of Server es)) (count_inputs (breaks d) (entries_of Server es))
        by d true is before =
            let room : suc (count_inputs (rejoins d) (entries_of (Client d) es)) ≤ count_inputs (breaks d) (entries_of Server es) =
            subst (λ n. suc (count_inputs (rejoins n) (entries_of (Client n) es)) ≤ count_inputs (breaks n) (entries_of Server es)) (sym (same_number d c is)) fewer in
            subst (λ b. AreWithin (cond b (suc (count_inputs (rejoins d) (entries_of (Client d) es))) (count_inputs (rejoins d) (entries_of (Client d) es)))
            (count_inputs (rejoins d) (entries_of Server es)) (count_inputs (breaks d) (entries_of Server es))) (sym is) (room, omega (arith, before.at_server))
        by d false is before = (before.at_client, before.at_server)

    -- ---- the server

    -- Lawful with a message taken by the server,
    pub lawful_with_took : (m : Up) (sent : List Sent) → MayFollow p next (took clock c m sent) es → IsLawful p next (took clock c m sent ∷ es)
    lawful_with_took m sent may = stays_lawful (took clock c m sent) may (λ d before. record { at_client = before.at_client; at_server = before.at_server })

    -- a loss,
    pub lawful_with_lost : (sent : List Sent) → MayFollow p next (lost clock c sent) es → IsLawful p next (lost clock c sent ∷ es)
    lawful_with_lost sent may = stays_lawful (lost clock c sent) may (λ d before. record { at_client = before.at_client; at_server = before.at_server })

    -- a break,
    pub lawful_with_broke : MayFollow p next (broke clock c) es → IsLawful p next (broke clock c ∷ es)
    lawful_with_broke may = stays_lawful (broke clock c) may (λ d before. let both = by d (eqb d c) before in record { at_client = both.0; at_server = both.1 })
      where
        by : (d : ℕ) (its : Bool) → CountsRejoins d es → AreWithin (count_inputs (rejoins d) (entries_of (Client d) es)) (count_inputs (rejoins d) (entries_of Server es))
            (cond its (suc (count_inputs (breaks d) (entries_of Server es))) (count_inputs (breaks d) (entries_of Server es)))
        by d true before = (omega (arith, before.at_client), before.at_server)
        by d false before = (before.at_client, before.at_server)

    -- and a rejoin of a connection that its client has taken up again.
    pub lawful_with_rejoined : course_of p c es ≡ Half → MayFollow p next (rejoined clock c) es → IsLawful p next (rejoined clock c ∷ es)
    lawful_with_rejoined half may = stays_lawful (rejoined clock c) may (λ d before. let both = by d (eqb d c) refl before in record { at_client = both.0; at_server = both.1 })
      where
        taken_up : (is_broken c (entries_of Server es) ≡ true) × (ltb (count_inputs (rejoins c) (entries_of (Client c) es)) (count_inputs (breaks c) (entries_of Server es)) ≡ false)
        taken_up = is_half_by (is_broken c (entries_of Server es)) (count_inputs (rejoins c) (entries_of (Client c) es)) (count_inputs (breaks c) (entries_of Server es)) half

        fewer : suc (count_inputs (rejoins c) (entries_of Server es)) ≤ count_inputs (rejoins c) (entries_of (Client c) es)
        fewer = omega (
          arith,
          rejoins_left c p next es lawful.follow taken_up.0,
          ltb-false (count_inputs (rejoins c) (entries_of (Client c) es)) (count_inputs (breaks c) (entries_of Server es)) taken_up.1,
        )

        by : (d : ℕ) (its : Bool) → eqb d c ≡ its → CountsRejoins d es → AreWithin (count_inputs (rejoins d) (entries_of (Client d) es))
            (cond its (suc (count_inputs (rejoins d) (entries_of Server es))) (count_inputs (rejoins d) (entries_of Server es))) (count_inputs (breaks d) (entries_of Server es))
        by d true is before = (before.at_client, subst (λ n. suc (count_inputs (rejoins n) (entries_of Server es)) ≤ count_inputs (rejoins n) (entries_of (Client n) es)) (sym (same_number d c is)) fewer)
        by d false is before = (before.at_client, before.at_server)
