use Rattle.std.proofs.Common.{sym, subst}
use Rattle.report_cases.specs.LegalRun.{FollowsCode}
use Rattle.report_cases.proofs.script.act.Goals as goal

-- the thread's events so far follow the program
pub next_request-requires-clause-follows : goal.next_request-requires-clause-follows
next_request-requires-clause-follows c =
    subst (λ es. FollowsCode c.args.program.now.code c.args.thread es) (sym c.as_slice.ensures.value) (c.requires.legal.legal.follows c.args.thread)
