use Rattle.std.proofs.Common.{sym, ap, ◌∙◌, subst}
use Rattle.dso_base.specs.Following.{Listed}
use Rattle.dso_machine.specs.Next.{next_request}
use Rattle.dso_plain.specs.History.{IsLegal, last_state}
use Rattle.report_cases.proofs.LegalRuns.{legal_more, last_more}
use Rattle.report_cases.proofs.legal_run.LegalRun.make.Goals as goal

-- the history goes on by the event, and the heap is its last state
pub returns-in_ok-push-clause-legal : goal.returns-in_ok-push-clause-legal
returns-in_ok-push-clause-legal c =
    let p = c.args.program.now in
    let run = c.args.self.now in
    let made = c.in_ok-made.ensures.made c.if-made.true in
    record {
      legal = subst (IsLegal (next_request p.code) (Listed (next_request p.code)) p.code.shape) (sym c.in_ok-push.ensures.items) (legal_more p run c.args.event c.requires.legal c.requires.next made.0);
      is_last = made.1 ∙ last_more p run c.args.event c.requires.legal ∙ ap (last_state p.code.shape) (sym c.in_ok-push.ensures.items);
    }
