use Rattle.std.proofs.Common.{ap, ◌∙◌, is_some}
use Rattle.dso_law.specs.Threads.{work_of}
use Rattle.dso_client.proofs.objects.Found.{copied_there}
use Rattle.dso_client.proofs.objects.Own.{private_tells}
use Rattle.dso_client.proofs.thread_context.ThreadContext.is_private.Goals as goal

pub returns : goal.returns
returns c = λ at stands.
    c.is_some.ensures ∙ (copied_there c.get.result ∙ ap is_some (c.get.ensures
    ∙ private_tells c.args.self.now.privates c.args.self.now.block (work_of at.settings.shape c.args.self.now.id at.entries) c.args.object stands.work))
