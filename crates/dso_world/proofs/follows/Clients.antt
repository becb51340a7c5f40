-- Entries of a client that may follow a journal: one for each slot, each with what its client's core and its connection tell.
use Rattle.std.specs.List.{list_any}
use Rattle.std.proofs.Common.{ℕ, suc, ◌≡◌, refl, sym, ◌∙◌, ap, subst, true, eqb, Option, None, List, [], ◌∷◌}
use Rattle.std.specs.Prelude.{max}
use Rattle.dso_base.specs.declared.journal.Entry.{Entry}
use Rattle.dso_base.specs.declared.journal.Input.TheVariants as input
use Rattle.dso_base.specs.declared.journal.Node.TheVariants.{Client}
use Rattle.dso_base.specs.declared.journal.Sent.{Sent}
use Rattle.dso_base.specs.declared.lock.ThreadId.{ThreadId}
use Rattle.dso_base.specs.declared.message.Down.{Down}
use Rattle.dso_base.specs.declared.request.Event.{Event}
use Rattle.dso_base.specs.declared.request.Request.{Request}
use Rattle.dso_law.specs.Settings.{Settings, clients_of}
use Rattle.dso_law.specs.Channels.{IsFirst, Letter, down_in_flight, first_clock, last_clock}
use Rattle.dso_law.specs.ClientRun.{ClientRun}
use Rattle.dso_law.specs.Entries.{entries_of}
use Rattle.dso_legal.specs.Lawful.{MayFollow}
use Rattle.dso_world.proofs.premises.OwnRun.{run_follows}

module _ (p : Settings) (next : ThreadId → List Event → Option Request) (c : ℕ) (its : list_any (eqb c) (clients_of p) ≡ true) (es : List Entry) (clock : ℕ) where
  -- the client's run with this entry more
  abbrev RunsOn : Entry → Type 0
  RunsOn e = ClientRun p c next (e ∷ entries_of (Client c) es)

  -- An act of a thread,
  pub act_follows : (index : ℕ) (sent : List Sent) (event : Option Event) → clock ≡ suc (max (last_clock (Client c) es) 0)
      → RunsOn (record { clock = clock; node = Client c; input = input.Act index; sent = sent; event = event })
      → MayFollow p next (record { clock = clock; node = Client c; input = input.Act index; sent = sent; event = event }) es
  act_follows index sent event now run = record { channels = tt; clocks = now; rule = run_follows p next c es (record { clock = clock; node = Client c; input = input.Act index; sent = sent; event = event }) refl its run }

  -- a flush,
  pub flush_follows : (o : ℕ) (sent : List Sent) (event : Option Event) → clock ≡ suc (max (last_clock (Client c) es) 0)
      → RunsOn (record { clock = clock; node = Client c; input = input.Flush o; sent = sent; event = event })
      → MayFollow p next (record { clock = clock; node = Client c; input = input.Flush o; sent = sent; event = event }) es
  flush_follows o sent event now run = record { channels = tt; clocks = now; rule = run_follows p next c es (record { clock = clock; node = Client c; input = input.Flush o; sent = sent; event = event }) refl its run }

  -- the taking of the first message in flight to the client,
  pub take_follows : (letter : Letter Down) (rest : List (Letter Down)) (sent : List Sent) (event : Option Event) → down_in_flight c es ≡ letter ∷ rest
      → clock ≡ suc (max (last_clock (Client c) es) letter.clock)
      → RunsOn (record { clock = clock; node = Client c; input = input.TookDown letter.message; sent = sent; event = event })
      → MayFollow p next (record { clock = clock; node = Client c; input = input.TookDown letter.message; sent = sent; event = event }) es
  take_follows letter rest sent event first now run = record {
    channels = subst (IsFirst letter.message) (sym first) refl;
    clocks = now ∙ ap (λ letters. suc (max (last_clock (Client c) es) (first_clock letters))) (sym first);
    rule = run_follows p next c es (record { clock = clock; node = Client c; input = input.TookDown letter.message; sent = sent; event = event }) refl its run;
  }

  -- and a rejoin.
  pub client_rejoin_follows : clock ≡ suc (max (last_clock (Client c) es) 0) → MayFollow p next (record { clock = clock; node = Client c; input = input.Rejoin c; sent = []; event = None }) es
  client_rejoin_follows now = record { channels = tt; clocks = now; rule = record { its = its; step = record { its = refl; event = refl; sends = refl } } }
