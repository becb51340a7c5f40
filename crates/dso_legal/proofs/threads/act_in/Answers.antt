use Rattle.std.proofs.Common.{◌≡◌, Some, sym, subst}
use Rattle.std.specs.BTreeMap.{is_at}
use Rattle.dso_lookup.specs.Maps.{look, writes, written}
use Rattle.dso_lookup.specs.Orders.{thread_order}
use Rattle.dso_lookup.proofs.RowsInPlace.{written_through}
use Rattle.dso_legal.specs.JournalPass.{CountsFit}
use Rattle.dso_legal.proofs.journal_pass.Tables.{on_ok, hand_there, no_hand, hand_taken}
use Rattle.dso_legal.proofs.threads.act_in.Goals as goal

pub take-requires : goal.take-requires
take-requires c = subst CountsFit (sym (hand_there c.args.act.thread c.args.threads.now c.in-Some.state.now c.in-Some.ensures.value)) c.requires

pub take-requires-in-None : goal.take-requires-in-None
take-requires-in-None c = subst CountsFit (sym (no_hand c.args.act.thread c.args.threads.now c.new-state.result c.in-None.ensures.value c.new-state.ensures)) c.requires

pub returns-in-Some-clause-threads : goal.returns-in-Some-clause-threads
returns-in-Some-clause-threads c =
    let old = c.args.threads.now in
    let t = c.args.act.thread in
    let was = c.in-Some.state.now in
    let is = c.take.new.self in
    let new = c.get_mut.follows.lender is in
    let puts = written_through thread_order old new t was is (c.get_mut.follows.holds is) c.in-Some.ensures.value in
    on_ok c.take.result (hand_taken t c.args.act.request c.args.act.reply c.args.event.now old new was is (hand_there t old was c.in-Some.ensures.value) puts) c.take.ensures.state

pub returns-in_ok-put-in-None-clause-threads : goal.returns-in_ok-put-in-None-clause-threads
returns-in_ok-put-in-None-clause-threads c =
    let old = c.args.threads.now in
    let t = c.args.act.thread in
    let is = c.take-in-None.new.self in
    let puts = subst (λ table. look thread_order c.put.new.map ≡ written (writes (is_at (thread_order t)) (λ _. Some is)) (look thread_order table)) c.get_mut.follows.holds-at-none c.in_ok-put-in-None.ensures in
    hand_taken t c.args.act.request c.args.act.reply c.args.event.now old c.put.new.map c.new-state.result is (no_hand t old c.new-state.result c.in-None.ensures.value c.new-state.ensures) puts c.in_ok-ended-in-None.ensures.state
