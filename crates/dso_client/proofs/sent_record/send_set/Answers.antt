use Rattle.std.proofs.Common.{◌≡◌, sym, ◌∙◌, ap, Some}
use Rattle.std.proofs.lemmas.Result.{on_ok_weaker}
use Rattle.dso_table.specs.States.{State, body_of, put}
use Rattle.dso_table.specs.ObjectTables.{state_in}
use Rattle.dso_client.proofs.sent_record.send_set.Goals as goal

pub returns-in-Some-clause-marked : goal.returns-in-Some-clause-marked
returns-in-Some-clause-marked c = on_ok_weaker c.put_object.result (λ is. λ copy found none.
    let o = c.args.change.object in
    let same : state_in c.set.new.self ≡ state_in c.args.table.now = c.if-set.ensures.unchanged in
    let both : c.in-Some.copy ≡ copy = cc (sym c.in-Some.is ∙ (c.in_ok-copy.ensures ∙ (ap (λ (s : State). body_of (s.standing o)) same ∙ found))) in
    is ∙ (ap (put c.in-Some.copy (Some c.args.seq)) same ∙ ap (λ body. put body (Some c.args.seq) (state_in c.args.table.now)) both)) c.put_object.ensures.ok

pub returns-in-None-clause-marked : goal.returns-in-None-clause-marked
returns-in-None-clause-marked c = λ copy found none.
    let o = c.args.change.object in
    let same : state_in c.set.new.self ≡ state_in c.args.table.now = c.if-set.ensures.unchanged in
    absurd (cc (sym c.in-None.is ∙ (c.in_ok-copy.ensures ∙ (ap (λ (s : State). body_of (s.standing o)) same ∙ found))))
