-- A client with one entry more of its own.
use Rattle.std.proofs.Common.{ℕ, suc, ◌≤◌, ◌≡◌, sym, ◌∙◌, ap, subst, cond, Option, List, ◌∷◌, length}
use Rattle.dso_base.specs.declared.journal.Entry.{Entry}
use Rattle.dso_base.specs.declared.journal.Input.{Input}
use Rattle.dso_base.specs.declared.journal.Node.TheVariants as node
use Rattle.dso_base.specs.declared.journal.Sent.{Sent}
use Rattle.dso_base.specs.declared.request.Event.{Event}
use Rattle.dso_class.specs.declared.program.Program.{Program}
use Rattle.dso_client.specs.ThreadActs.{HoldsAtMost}
use Rattle.dso_client.specs.ClientStands.{ClientStands}
use Rattle.dso_client.specs.CodeRuns.{RunsCode}
use Rattle.dso_law.specs.Channels.{last_clock}
use Rattle.dso_law.specs.Entries.{entries_of}
use Rattle.dso_plain.proofs.keys.SameKeys.{number_self}
use Rattle.dso_server.specs.Triggers.{AreTriggersOf}
use Rattle.dso_base.specs.declared.both.Both.{Both}
use Rattle.dso_base.specs.declared.both.Both.TheVariants as both
use Rattle.dso_world.specs.declared.client_node.ClientNode.{ClientNode}
use Rattle.dso_world.specs.LinkStands.{Course, LinkStands, Past}
use Rattle.dso_world.specs.NodesStand.{ClientNodeStands}
use Rattle.dso_world.specs.PastOf.{course_of, past_of}
use Rattle.dso_world.specs.WorldSteps.{settings_of}

module _ (program : Program) (c clock : ℕ) (input : Input) (sent : List Sent) (event : Option Event) (es : List Entry) where
  -- the entry
  abbrev pub own_entry : Entry
  own_entry = record { clock = clock; node = node.Client c; input = input; sent = sent; event = event }

  -- the client's own entries with it, and the clock
  pub own_more : own_entry ∷ entries_of (node.Client c) es ≡ entries_of (node.Client c) (own_entry ∷ es)
  own_more = sym (ap (λ b. cond b (own_entry ∷ entries_of (node.Client c) es) (entries_of (node.Client c) es)) (number_self c))

  pub own_last : last_clock (node.Client c) (own_entry ∷ es) ≡ clock
  own_last = ap (λ b. cond b clock (last_clock (node.Client c) es)) (number_self c)

  -- the client stands for the entries with it
  pub client_node_with : (client_node : ClientNode) (course : Course) (past : Past Both)
      → ClientStands program.code (settings_of program) c client_node.client (own_entry ∷ entries_of (node.Client c) es)
      → RunsCode program.code client_node.client → client_node.client.sequences.records ≤ suc (length es) → HoldsAtMost (suc (length es)) client_node.client
      → LinkStands course past client_node.link → course_of (settings_of program) c (own_entry ∷ es) ≡ course → past_of both.Up both.Down c (own_entry ∷ es) ≡ past
      → client_node.clock ≡ clock → AreTriggersOf c program.losses program.breaks client_node.triggers → ClientNodeStands program c client_node (own_entry ∷ es)
  client_node_with client_node course past client runs records holds link same_course same_past now triggers = record {
    client = subst (ClientStands program.code (settings_of program) c client_node.client) own_more client;
    runs = runs;
    records = records;
    holds = holds;
    link = subst (λ course. LinkStands course (past_of both.Up both.Down c (own_entry ∷ es)) client_node.link) (sym same_course)
        (subst (λ past. LinkStands course past client_node.link) (sym same_past) link);
    clock = now ∙ sym own_last;
    triggers = triggers;
  }
