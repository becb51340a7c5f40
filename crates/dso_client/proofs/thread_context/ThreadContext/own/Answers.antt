use Rattle.std.proofs.Common.{ap, ◌∙◌}
use Rattle.dso_law.specs.Threads.{or_else, work_of}
use Rattle.dso_txn.specs.InHand.{news_in}
use Rattle.dso_client.proofs.objects.Own.{own_tells}
use Rattle.dso_client.proofs.thread_context.ThreadContext.own.Goals as goal

pub returns-in-Some : goal.returns-in-Some
returns-in-Some c = λ at stands.
    ap (λ found. or_else found (news_in c.args.self.now.block c.args.object)) c.in-Some.ensures
    ∙ own_tells c.args.self.now.privates c.args.self.now.block (work_of at.settings.shape c.args.self.now.id at.entries) c.args.object stands.work

pub returns-in-None : goal.returns-in-None
returns-in-None c = λ at stands.
    c.body.ensures ∙ (ap (λ found. or_else found (news_in c.args.self.now.block c.args.object)) c.in-None.ensures
    ∙ own_tells c.args.self.now.privates c.args.self.now.block (work_of at.settings.shape c.args.self.now.id at.entries) c.args.object stands.work)
