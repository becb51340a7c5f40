use Rattle.std.proofs.lemmas.Result.{on_ok_weaker}
use Rattle.dso_client.proofs.objects.NamedByThreads.{all_added}
use Rattle.dso_client.proofs.named.+add_threads.Goals as goal

pub returns-in_ok-add_thread-in-len1-up : goal.returns-in_ok-add_thread-in-len1-up
returns-in_ok-add_thread-in-len1-up t c = on_ok_weaker c.add_threads.result (λ later. all_added c.args.contexts.now c.context-item.result c.args.into.now.items
    c.add_thread.new.into.items c.add_threads.new.into.items c.in-len1-up.len_at_least c.context-item.is c.in_ok-add_thread-in-len1-up.ensures later) c.add_threads.ensures
