use Rattle.std.proofs.Common.{sym, ◌∙◌, ap, subst, map}
use Rattle.dso_base.specs.declared.record.Txn.{Txn}
use Rattle.dso_open_law.specs.TouchedThreads.{OfObject, up_topics}
use Rattle.dso_world.specs.EntryTouches.{Adds}
use Rattle.dso_world.proofs.touches.Added.{record_added}
use Rattle.dso_world.proofs.touched_threads.Touches.with_message.Goals as goal

pub returns-in-Commit : goal.returns-in-Commit
returns-in-Commit c = subst (λ message. Adds (up_topics message) c.args.self c.with_news.result) (sym c.in-Commit.is)
    (record_added c.in-Commit.txn c.args.self c.with_records.result c.with_news.result c.with_records.ensures
    (subst (λ news. Adds (map (λ body. OfObject body.object) news) c.with_records.result c.with_news.result) (c.as_slice.ensures ∙ ap (λ (txn : Txn). txn.news) c.get.ensures) c.with_news.ensures))
