-- A client stands for its entries also with a rejoin of its connection, which changes nothing that it keeps.
use Rattle.std.proofs.Common.{ℕ, refl, List, ◌∷◌}
use Rattle.dso_base.specs.declared.journal.Entry.{Entry}
use Rattle.dso_law.specs.Settings.{Settings}
use Rattle.dso_law.specs.ClientRun.{ClientRun}
use Rattle.dso_machine.specs.declared.code.Code.{Code}
use Rattle.dso_machine.specs.Next.{next_request}
use Rattle.dso_client.specs.declared.client_state.ClientState.{ClientState}
use Rattle.dso_client.specs.ClientStands.{ClientStands, point}
use Rattle.dso_client.specs.Entries.{rejoined_entry}
use Rattle.dso_client.specs.StateStands.{StateStands}
use Rattle.dso_client.specs.ContextStands.{ContextStands}
use Rattle.dso_client.proofs.contexts.AtStart.{all_as}
use Rattle.dso_client.proofs.facts.All.{run_facts}

module _ (code : Code) (p : Settings) (c clock : ℕ) (es : List Entry) (kept : ClientState)
    (h : ClientStands code p c kept es) where
  abbrev now : List Entry
  now = rejoined_entry clock c ∷ es

  goes_on : ClientRun p c (next_request code) now
  goes_on = (h.run, record { its = refl; event = refl; sends = refl })

  -- each part as before
  parts : StateStands (point code p c now) kept
  parts = record {
    number = h.parts.number;
    places = h.parts.places;
    numbered = h.parts.numbered;
    contexts = all_as (ContextStands (point code p c es)) (ContextStands (point code p c now)) (λ context s. record { next = s.next; work = s.work; seen = s.seen; waiting = s.waiting; marked = s.marked; last = s.last }) kept.contexts.items h.parts.contexts;
    table = let t = h.parts.table in record { bodies = t.bodies; asked = t.asked; marks = t.marks; opened = t.opened; wanted = t.wanted; room = t.room; count = t.count; acked = t.acked; order = t.order };
    lock_state = let l = h.parts.lock_state in record { holds = l.holds; leases = l.leases; lists = l.lists };
    sequences = let l = h.parts.sequences in record { ids = l.ids; bounded = l.bounded; end = l.end; asking = l.asking; records = l.records; unacked = l.unacked };
    facts = run_facts p c (next_request code) now goes_on;
  }

  -- The client stands for its entries with the rejoin.
  pub stands_rejoined : ClientStands code p c kept now
  stands_rejoined = record { shape = h.shape; run = goes_on; parts = parts; threads = h.threads }
