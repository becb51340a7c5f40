-- What a client's cell keeps whatever its log is.
use Rattle.std.proofs.Common.{ℕ, suc, ◌<◌, ◌≤◌, ◌^◌, ◌≡◌, sym, ◌∙◌, ap, subst, List, [], ◌∷◌, length, arith}
use Rattle.std.proofs.lemmas.List.{length-append}
use Rattle.dso_base.specs.declared.journal.Entry.{Entry}
use Rattle.dso_base.specs.declared.message.Up.{Up}
use Rattle.dso_log.specs.Logs.{last_clock, with_entry}
use Rattle.dso_machine.specs.declared.code.Code.{Code}
use Rattle.dso_client.specs.declared.client_state.ClientState.{ClientState}
use Rattle.dso_client.specs.ThreadActs.{HoldsAtMost}
use Rattle.dso_client.specs.CodeRuns.{RunsCode}
use Rattle.dso_cell.specs.declared.client_cell.ClientCell.{ClientCell}
use Rattle.dso_cell.specs.declared.made.Made.{Made}
use Rattle.dso_cell.specs.ClientCells.{ClientBounds}
use Rattle.dso_cell.specs.ClientSteps.{HasSaid, MayAdd, entry_said}
use Rattle.dso_port.specs.Ports.{PortState}
use Rattle.dso_session.specs.Ends.{sent_count}
use Rattle.dso_base.specs.declared.message.Down.{Down}
use Rattle.dso_line.proofs.standing.Logs.{last_of}

pub holds_weaker : (n m : ℕ) (kept : ClientState) → n ≤ m → HoldsAtMost n kept → HoldsAtMost m kept
holds_weaker n m kept few holds = record {
  held = λ t l. omega (arith, few, holds.held t l);
  waiting = λ index. omega (arith, few, holds.waiting index);
}

module _ (code : Code) (old new : ClientCell) (e : Entry) (log : new.log ≡ with_entry e old.log) where
  count : length new.log.entries ≡ suc (length old.log.entries)
  count = ap (λ log. length log.entries) log ∙ length-append old.log.entries (e ∷ []) ∙ omega arith

  clock : last_clock new.log ≡ e.clock
  clock = ap last_clock log ∙ last_of old.log.entries e

  pub bounds_more : suc (last_clock old.log) ≤ e.clock → e.clock ≤ 2 ^ 28 → RunsCode code new.core → new.core.sequences.records ≤ suc old.core.sequences.records
      → HoldsAtMost (suc (length old.log.entries)) new.core → new.rejoins ≤ suc old.rejoins → ClientBounds code old → ClientBounds code new
  bounds_more later within runs records holds rejoined bounds = record {
    few = omega (arith, count, clock, later, bounds.few);
    within = omega (arith, clock, within);
    runs = runs;
    records = omega (arith, count, records, bounds.records);
    holds = subst (λ n. HoldsAtMost n new.core) (sym count) holds;
    rejoined = omega (arith, count, rejoined, bounds.rejoined);
  }

-- so where an entry was logged and its messages were sent
pub bounds_said : (code : Code) (old new : ClientCell) (made : Made) (messages : List Up)
    → HasSaid made messages old.log new.log old.port new.port → RunsCode code new.core
    → new.core.sequences.records ≤ suc old.core.sequences.records → ((most : ℕ) → HoldsAtMost most old.core → HoldsAtMost (suc most) new.core)
    → new.rejoins ≤ suc old.rejoins → made.heard < 2 ^ 28 → MayAdd code old → ClientBounds code new
bounds_said code old new made messages said runs records holds rejoined heard may =
    let later : suc (last_clock old.log) ≤ (entry_said made messages old.log).clock = omega arith in
    let within : (entry_said made messages old.log).clock ≤ 2 ^ 28 = omega (arith, heard, may.low) in
    bounds_more code old new (entry_said made messages old.log) said.log later within runs records (holds (length old.log.entries) may.bounds.holds) rejoined may.bounds

-- whatever came over its end of the connection, where as many messages were sent
pub may_still : (code : Code) (old : ClientCell) (port : PortState Up Down) → sent_count port.session ≡ sent_count old.port.session → MayAdd code old → MayAdd code (record old { port = port })
may_still code old port same may = record {
  bounds = record { few = may.bounds.few; within = may.bounds.within; runs = may.bounds.runs; records = may.bounds.records; holds = may.bounds.holds; rejoined = may.bounds.rejoined };
  room = may.room;
  low = may.low;
  few = omega (arith, same, may.few);
}
