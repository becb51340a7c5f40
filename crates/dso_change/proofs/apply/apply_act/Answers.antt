use Rattle.std.proofs.Common.{◌≡◌, subst, ◌++◌, ◌∷◌, []}
use Rattle.std.proofs.lemmas.Result.{on_ok_weaker}
use Rattle.dso_base.specs.Block.{choice_of}
use Rattle.dso_base.specs.declared.record.Choice.TheVariants.{All}
use Rattle.dso_change.proofs.HandChanges.{value_printed, note_added}
use Rattle.dso_change.proofs.apply.apply_act.Goals as goal

pub returns-in-New-Made : goal.returns-in-New-Made
returns-in-New-Made c = rw (c.in-New-Made.is-0, c.in-New-Made.is-1) (on_ok_weaker c.make.result (λ makes work once new same. makes work same) c.make.ensures)

pub returns-in_ok-push-in-Print-Done : goal.returns-in_ok-push-in-Print-Done
returns-in_ok-push-in-Print-Done c = rw (c.in-Print-Done.is-0, c.in-Print-Done.is-1) (λ work once new same. value_printed c.args.privates.now c.args.draft.now work same c.push.new.self c.in-Print-Done.value c.in_ok-push-in-Print-Done.ensures.ok)

pub returns-in_ok-push-in-Notify-Done : goal.returns-in_ok-push-in-Notify-Done
returns-in_ok-push-in-Notify-Done c = rw (c.in-Notify-Done.is-0, c.in-Notify-Done.is-1) (λ work once new same. note_added c.args.privates.now c.args.draft.now work same c.push-in-Notify-Done.new.self c.in-Notify-Done.lock (choice_of c.args.act.woken) (subst (λ choice. c.push-in-Notify-Done.new.self ≡ c.args.draft.now.notes ++ record { lock = c.in-Notify-Done.lock; choice = choice } ∷ []) c.choice_of-choice.ensures c.in_ok-push-in-Notify-Done.ensures.ok))

pub returns-in_ok-push-in-NotifyAll-Done : goal.returns-in_ok-push-in-NotifyAll-Done
returns-in_ok-push-in-NotifyAll-Done c = rw (c.in-NotifyAll-Done.is-0, c.in-NotifyAll-Done.is-1) (λ work once new same. note_added c.args.privates.now c.args.draft.now work same c.push-in-NotifyAll-Done.new.self c.in-NotifyAll-Done.lock All c.in_ok-push-in-NotifyAll-Done.ensures.ok)
