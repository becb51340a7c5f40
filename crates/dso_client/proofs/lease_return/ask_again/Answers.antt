use Rattle.std.proofs.Common.{refl, sym, ◌∙◌}
use Rattle.dso_client.proofs.due.Again.{one_asked, none_asked}
use Rattle.dso_client.proofs.lease_return.ask_again.Goals as goal

pub returns-in_ok-ask_lock-in-Some-clause-asks : goal.returns-in_ok-ask_lock-in-Some-clause-asks
returns-in_ok-ask_lock-in-Some-clause-asks c = λ clock act txn later at h facts is its was.
    let old = c.args.kept.now in
    let new = record old { lock_state = c.ask_lock.new.lock_state } in
    one_asked clock act later at txn c.args.onward.next c.args.onward.was_closing c.args.returned.now c.in-Some.lock old new h facts is its was (sym c.asked_again.ensures ∙ c.in-Some.is)
    c.in_ok-ask_lock-in-Some.ensures.holds c.in_ok-ask_lock-in-Some.ensures.lists c.in_ok-ask_lock-in-Some.ensures.wanted refl

pub returns-in-None-clause-asks : goal.returns-in-None-clause-asks
returns-in-None-clause-asks c = λ clock act txn later at h facts is its was.
    none_asked clock act later at txn c.args.onward.next c.args.onward.was_closing c.args.returned.now c.args.kept.now h is its was (sym c.asked_again.ensures ∙ c.in-None.is)
