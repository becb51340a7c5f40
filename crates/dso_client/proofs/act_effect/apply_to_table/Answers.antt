use Rattle.std.proofs.Common.{◌≡◌, ℕ, sym, ◌∙◌, ap, is_some, List}
use Rattle.dso_law.specs.Threads.{ending_by, locks_of}
use Rattle.dso_table.specs.States.{closed, opened}
use Rattle.dso_table.specs.ObjectTables.{state_in}
use Rattle.dso_client.specs.ActEffects.{applied}
use Rattle.dso_client.specs.RunPoints.{RunPoint}
use Rattle.dso_client.specs.TableStands.{TableTells}
use Rattle.dso_client.proofs.replies.Outcomes.{on_ok}
use Rattle.dso_client.proofs.applied.Objects.{block_closed, block_puts, block_goes_on}
use Rattle.dso_client.proofs.act_effect.apply_to_table.Goals as goal

pub returns-then-is_ending : goal.returns-then-is_ending
returns-then-is_ending c = λ clock at used h mine is.
    block_closed clock at c.args.act mine c.args.table.now used h c.closed.new.self (sym is ∙ c.if-is_ending.true) (c.closed.ensures ∙ ap (closed c.args.act.thread) c.acted.ensures)

pub returns-in-Some : goal.returns-in-Some
returns-in-Some c =
    let act = c.args.act in
    let old = c.args.table.now in
    let new = c.opened.new.self in
    let o = c.in-Some.object in
    on_ok c.opened.result (state_in new ≡ opened o act.thread (state_in c.acted.new.self))
    ((clock : ℕ) (at : RunPoint) (used : List ℕ) → TableTells at used old → act.thread.client ≡ at.client → c.args.is_ending ≡ is_some (ending_by act.request act.reply (locks_of act.thread at.entries))
    → TableTells (applied clock act at) used new)
    (λ is. λ clock at used h mine ends. block_puts clock at act mine old used h o new (sym ends ∙ c.if-is_ending.false) (sym c.put_to.ensures ∙ c.in-Some.is) (is ∙ ap (opened o act.thread) c.acted.ensures))
    c.opened.ensures.ok

pub returns-in-None : goal.returns-in-None
returns-in-None c = λ clock at used h mine ends.
    block_goes_on clock at c.args.act mine c.args.table.now used h c.acted.new.self (sym ends ∙ c.if-is_ending.false) (sym c.put_to.ensures ∙ c.in-None.is) c.acted.ensures
