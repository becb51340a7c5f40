use Rattle.std.proofs.Common.{◌≤◌, ◌≡◌, ap, sym, ◌∙◌, subst, Some, None, suc, arith}
use Rattle.dso_base.specs.declared.journal.Input.TheVariants as input
use Rattle.dso_client.specs.declared.acted.Acted.TheVariants as acted
use Rattle.dso_client.specs.CodeRuns.{RunsCode}
use Rattle.dso_client.specs.ThreadActs.{Acts, HoldsAtMost}
use Rattle.dso_client.specs.Threads.{WhereAbsent}
use Rattle.dso_cell.specs.ClientSteps.{HasSaid}
use Rattle.dso_cell.proofs.standing.Bounds.{bounds_said}
use Rattle.dso_cell.proofs.standing.Steps.{asked_goes_on, event_goes_on}
use Rattle.dso_cell.proofs.client_cell.ClientCell.act.Goals as goal

pub returns-in_ok-say-in-Event-clause-bounds : goal.returns-in_ok-say-in-Event-clause-bounds
returns-in_ok-say-in-Event-clause-bounds c =
    let old = c.args.self.now in
    let new = c.say.new.self in
    let core = sym c.say.ensures.core in
    bounds_said c.args.code.now old new c.of_act.result c.in_ok-acted.messages.items c.in_ok-say-in-Event.ensures.said
    (subst (RunsCode c.args.code.now) core c.in_ok-acted.ensures.runs)
    (subst (λ core. core.sequences.records ≤ suc old.core.sequences.records) core (omega (arith, c.in_ok-acted.ensures.records)))
    (λ most its. subst (HoldsAtMost (suc most)) core (c.in_ok-acted.ensures.holds most its))
    (omega (arith, c.say.ensures.rejoins)) (omega (arith, ap (λ made. made.heard) c.of_act.ensures)) c.requires.may

pub returns-in_ok-say-in-Event-clause-stands : goal.returns-in_ok-say-in-Event-clause-stands
returns-in_ok-say-in-Event-clause-stands c =
    let old = c.args.self.now in
    let new = c.say.new.self in
    let messages = c.in_ok-acted.messages.items in
    let acts : Acts c.args.code.now c.args.index old.core new.core (acted.Event c.in-Event.event) messages =
    subst (λ core. Acts c.args.code.now c.args.index old.core core (acted.Event c.in-Event.event) messages) (sym c.say.ensures.core)
    (subst (λ told. Acts c.args.code.now c.args.index old.core c.act.new.self told messages) c.in-Event.is c.in_ok-acted.ensures.acts) in
    let absent : WhereAbsent old.core c.args.index (acted.Event c.in-Event.event ≡ acted.Over) =
    subst (λ told. WhereAbsent old.core c.args.index (told ≡ acted.Over)) c.in-Event.is c.in_ok-acted.ensures.absent in
    let made : c.of_act.result ≡ record { heard = 0; input = input.Act c.args.index; event = Some c.in-Event.event } =
    c.of_act.ensures ∙ ap (λ event. record { heard = 0; input = input.Act c.args.index; event = Some event }) c.in_ok-event-in-Event.ensures.ok in
    let said : HasSaid (record { heard = 0; input = input.Act c.args.index; event = Some c.in-Event.event }) messages old.log new.log old.port new.port =
    subst (λ made. HasSaid made messages old.log new.log old.port new.port) made c.in_ok-say-in-Event.ensures.said in
    event_goes_on c.args.code.now c.args.index old new messages c.say.ensures.number c.say.ensures.rejoins c.in-Event.event acts absent said

pub returns-in_ok-say-in-Asked-clause-bounds : goal.returns-in_ok-say-in-Asked-clause-bounds
returns-in_ok-say-in-Asked-clause-bounds c =
    let old = c.args.self.now in
    let new = c.say-in-Asked.new.self in
    let core = sym c.say-in-Asked.ensures.core in
    bounds_said c.args.code.now old new c.of_act-in-Asked.result c.in_ok-acted.messages.items c.in_ok-say-in-Asked.ensures.said
    (subst (RunsCode c.args.code.now) core c.in_ok-acted.ensures.runs)
    (subst (λ core. core.sequences.records ≤ suc old.core.sequences.records) core (omega (arith, c.in_ok-acted.ensures.records)))
    (λ most its. subst (HoldsAtMost (suc most)) core (c.in_ok-acted.ensures.holds most its))
    (omega (arith, c.say-in-Asked.ensures.rejoins)) (omega (arith, ap (λ made. made.heard) c.of_act-in-Asked.ensures)) c.requires.may

pub returns-in_ok-say-in-Asked-clause-stands : goal.returns-in_ok-say-in-Asked-clause-stands
returns-in_ok-say-in-Asked-clause-stands c =
    let old = c.args.self.now in
    let new = c.say-in-Asked.new.self in
    let messages = c.in_ok-acted.messages.items in
    let acts : Acts c.args.code.now c.args.index old.core new.core acted.Asked messages =
    subst (λ core. Acts c.args.code.now c.args.index old.core core acted.Asked messages) (sym c.say-in-Asked.ensures.core)
    (subst (λ told. Acts c.args.code.now c.args.index old.core c.act.new.self told messages) c.in-Asked.is c.in_ok-acted.ensures.acts) in
    let absent : WhereAbsent old.core c.args.index (acted.Asked ≡ acted.Over) =
    subst (λ told. WhereAbsent old.core c.args.index (told ≡ acted.Over)) c.in-Asked.is c.in_ok-acted.ensures.absent in
    let said : HasSaid (record { heard = 0; input = input.Act c.args.index; event = None }) messages old.log new.log old.port new.port =
    subst (λ made. HasSaid made messages old.log new.log old.port new.port) c.of_act-in-Asked.ensures c.in_ok-say-in-Asked.ensures.said in
    asked_goes_on c.args.code.now c.args.index old new messages c.say-in-Asked.ensures.number c.say-in-Asked.ensures.rejoins acts absent said
