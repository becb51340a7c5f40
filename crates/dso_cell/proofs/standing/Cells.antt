-- A client's cell that logs one entry more.
use Rattle.std.proofs.Common.{ℕ, ◌≡◌, sym, ◌∙◌, ap, subst, false, suc, Option, Some, None, List, ◌∷◌}
use Rattle.dso_base.specs.declared.journal.Entry.{Entry}
use Rattle.dso_base.specs.declared.journal.Node.TheVariants.{Client}
use Rattle.dso_base.specs.declared.message.Down.{Down}
use Rattle.dso_base.specs.declared.message.Up.{Up}
use Rattle.dso_law.specs.Channels.{count_inputs, rejoins}
use Rattle.dso_machine.specs.declared.code.Code.{Code}
use Rattle.dso_log.specs.Logs.{with_entry}
use Rattle.dso_port.specs.Ports.{Giving, PortState, SameRings, Taking}
use Rattle.rtrb.specs.Ring.{SameConsumer, SameProducer}
use Rattle.dso_line.specs.Letters.{is_taking, log_clock, newest}
use Rattle.dso_line.specs.Lines.{ClientLineStands}
use Rattle.dso_client.specs.declared.client_state.ClientState.{ClientState}
use Rattle.dso_client.specs.ClientStands.{ClientStands}
use Rattle.dso_cell.specs.declared.client_cell.ClientCell.{ClientCell}
use Rattle.dso_cell.specs.ClientCells.{ClientCellStands, ClientPartsStand, GoesOn}
use Rattle.dso_cell.specs.Clusters.{Cluster, GivesInto, TakesFrom}
use Rattle.dso_cell.specs.Logs.{LogIsInOrder}
use Rattle.dso_line.proofs.standing.Logs.{newest_more}

-- ---- ends of named rings
module _ {M : Type 0} where
  pub gives_on : (name : Option (Giving M)) (a b : Giving M) → SameProducer a b → GivesInto name a → GivesInto name b
  gives_on None a b same its = its
  gives_on (Some name) a b same its = ((same.0.0 ∙ its.0.0, same.0.1 ∙ its.0.1, same.0.2 ∙ its.0.2, same.0.3 ∙ its.0.3), same.1 ∙ its.1)

  pub takes_on : (name : Option (Giving M)) (a b : Taking M) → SameConsumer a b → TakesFrom name a → TakesFrom name b
  takes_on None a b same its = its
  takes_on (Some name) a b same its = (same.0.0 ∙ its.0, same.0.1 ∙ its.1, same.0.2 ∙ its.2, same.0.3 ∙ its.3)

-- ---- the parts, with one entry more
module _ (cluster : Cluster) (c : ℕ) (es : List Entry) (e : Entry) (old new : ClientState) (count more : ℕ) (before after : PortState Up Down) where
  pub parts_more : e.node ≡ Client c → (LogIsInOrder cluster.code cluster.settings (Client c) (e ∷ es) → ClientStands cluster.code cluster.settings c new (e ∷ es))
      → (is_taking e.input ≡ false → e.clock ≡ suc (log_clock es)) → more ≡ count_inputs (rejoins c) (e ∷ es) → ClientLineStands c (e ∷ es) after → SameRings before after
      → ClientPartsStand cluster c es old count before → ClientPartsStand cluster c (e ∷ es) new more after
  parts_more own core clock rejoined line rings stands = record {
    run = (stands.run, own, λ in_order. (core in_order).run.1);
    clocks = (stands.clocks, clock);
    core = core;
    rejoined = rejoined;
    line = line;
    gives = gives_on (cluster.up c) before.out after.out rings.out stands.gives;
    takes = takes_on (cluster.down c) before.into after.into rings.into stands.takes;
  }

-- ---- the parts, with the same entries
module _ (cluster : Cluster) (c : ℕ) (es : List Entry) (core : ClientState) (count : ℕ) (before after : PortState Up Down) where
  pub parts_stay : ClientLineStands c es after → SameRings before after → ClientPartsStand cluster c es core count before → ClientPartsStand cluster c es core count after
  parts_stay line rings stands = record {
    run = stands.run;
    clocks = stands.clocks;
    core = stands.core;
    rejoined = stands.rejoined;
    line = line;
    gives = gives_on (cluster.up c) before.out after.out rings.out stands.gives;
    takes = takes_on (cluster.down c) before.into after.into rings.into stands.takes;
  }

-- ---- the cell
-- where its parts stand with the entry, so does the cell
pub cell_more : (cluster : Cluster) (old new : ClientCell) (e : Entry) → new.number ≡ old.number → new.log ≡ with_entry e old.log → old.log.node ≡ Client old.number
    → ClientPartsStand cluster old.number (e ∷ newest old.log) new.core new.rejoins new.port → ClientCellStands cluster new
cell_more cluster old new e number log own parts = record {
  own = ap (λ log. log.node) log ∙ own ∙ ap Client (sym number);
  parts = subst (λ c. ClientPartsStand cluster c (newest new.log) new.core new.rejoins new.port) (sym number)
      (subst (λ es. ClientPartsStand cluster old.number es new.core new.rejoins new.port) (sym (ap newest log ∙ newest_more old.log e)) parts);
}

-- one turn behind the other
pub goes_through : (code : Code) (a b c : ClientCell) → GoesOn code a b → GoesOn code b c → GoesOn code a c
goes_through code a b c one two = record { stands = λ cluster same its. two.stands cluster same (one.stands cluster same its) }
