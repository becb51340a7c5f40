use Rattle.std.proofs.lemmas.Result.{on_ok_weaker}
use Rattle.dso_base.specs.Naming.{work_names}
use Rattle.dso_law.specs.Entries.{events_in}
use Rattle.dso_law.specs.Threads.{work_of}
use Rattle.dso_machine.specs.Frames.{frames_after, holds_then}
use Rattle.dso_machine.specs.Next.{next_request}
use Rattle.dso_client.proofs.objects.NamedByThreads.{added_twice}
use Rattle.dso_client.proofs.named.add_thread.Goals as goal

pub returns : goal.returns
returns c = on_ok_weaker c.named.result (λ adds code p client es h.
    let t = c.args.context.now.id in
    let work = work_of p.shape t es in
    added_twice (holds_then (next_request code) (frames_after code) t (events_in t es)) (work_names work)
    c.args.into.now.items c.add_held.new.into.items c.named.new.into.items
    (c.in_ok-add_held.ensures code (events_in t es) h.thread h.kept.next) (adds work h.once h.kept.work)) c.named.ensures
