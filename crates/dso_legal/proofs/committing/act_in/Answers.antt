use Rattle.std.proofs.Common.{◌≡◌, Some, sym, ap, subst}
use Rattle.std.specs.BTreeMap.{is_at}
use Rattle.std.specs.Ordering.{nat_cmp}
use Rattle.dso_lookup.specs.Maps.{look, writes, written}
use Rattle.dso_legal.specs.JournalPass.{ClientState, CountsFit}
use Rattle.dso_legal.proofs.journal_pass.EachEntry.{client_there, no_client, event_kept}
use Rattle.dso_legal.proofs.committing.act_in.Goals as goal

pub take-requires : goal.take-requires
take-requires c = λ t. subst CountsFit (sym (ap (λ (kept : ClientState). kept.threads t) (client_there c.args.client c.args.clients.now c.in-Some.threads.now c.in-Some.ensures.value))) (c.requires t)

pub take-requires-in-None : goal.take-requires-in-None
take-requires-in-None c = λ t. subst CountsFit (sym (ap (λ (kept : ClientState). kept.threads t) (no_client c.args.client c.args.clients.now c.new-threads.result c.in-None.ensures.value c.new-threads.ensures))) (c.requires t)

pub returns-in_ok-put-in-None : goal.returns-in_ok-put-in-None
returns-in_ok-put-in-None c =
    let old = c.args.clients.now in
    let is = c.take-in-None.new.self in
    let puts = subst (λ table. look nat_cmp c.put.new.map ≡ written (writes (is_at (nat_cmp c.args.client)) (λ _. Some is)) (look nat_cmp table)) c.get_mut.follows.holds-at-none c.in_ok-put-in-None.ensures in
    event_kept c.args.client c.args.event.now old c.put.new.map c.new-threads.result is (no_client c.args.client old c.new-threads.result c.in-None.ensures.value c.new-threads.ensures) puts c.in_ok-take-in-None.ensures
