use Rattle.std.proofs.Common.{[], ◌∷◌, ◌++◌, None}
use Rattle.dso_base.specs.declared.request.Event.TheVariants.{Act}
use Rattle.dso_machine.specs.Standing.{asked}
use Rattle.dso_client.proofs.acts.Heard.{listed_for, listed_still}
use Rattle.dso_client.proofs.thread_progress.go_on.Goals as goal

pub answer-requires : goal.answer-requires
answer-requires c = record {
  listed = listed_still c.args.context.now.next (asked c.args.context.now.thread) c.args.reply (λ request is. (c.requires.runs.runs request is).out) c.requires.listed;
}

pub next_request-requires-clause-runs : goal.next_request-requires-clause-runs
next_request-requires-clause-runs c =
    let context = c.args.context.now in
    let asks = listed_for context.next c.args.reply c.requires.listed in
    let runs = c.requires.runs.runs asks.0 asks.1 in
    record {
      events = runs.events ++ Act context.id asks.0 c.args.reply None ∷ [];
      stands = c.answer.ensures.stands c.args.code.now context.id runs.events asks.0 None runs.stands;
    }
