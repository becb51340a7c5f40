use Rattle.std.proofs.Common.{None, arith, suc, length, ◌+◌, ◌≡◌, ap, sym, ◌∙◌, subst, take}
use Rattle.std.proofs.Math.Seq.{take-length}
use Rattle.std.proofs.lemmas.Result.{IfOk-weaker}
use Rattle.dso_base.specs.declared.request.Event.TheVariants.{Act}
use Rattle.dso_base.specs.declared.request.Reply.TheVariants.{Done}
use Rattle.dso_base.specs.declared.request.Request.TheVariants.{New}
use Rattle.dso_base.specs.declared.value.ClassId.TheVariants.{Plain}
use Rattle.dso_base.specs.Block.{start, worked}
use Rattle.dso_change.specs.Hands.{hand_in, hand_of, IsOnce}
use Rattle.dso_change.proofs.HandChanges.{hand_begun}
use Rattle.dso_change.proofs.EventsFollowed.{once_worked, new_next, worked_next}
use Rattle.dso_change.proofs.folding.fold.Goals as goal

pub loop-event-init : goal.loop-event-init
loop-event-init c = λ once new. hand_begun c.in_ok-privates.privates c.new-draft.result c.args.classes.now c.in_ok-privates.ensures c.new-draft.ensures

pub loop-event-preserved : goal.loop-event-preserved
loop-event-preserved c =
    let within = c.loop-event-test.true in
    let i = c.loop-event.event-index in
    let more : suc i ≡ i + 1 = omega arith in
    let first = start c.args.classes.now in
    let shape = c.args.shape.now in
    let events = c.args.events.now in
    let none = Act (record { client = 0; index = 0 }) (New (Plain 0) 0) Done None in
    λ once new. c.in_ok-apply.ensures (worked shape (take i events) first) (once_worked shape events first i once new) (new_next shape events first i none within new) (c.loop-event.invariant once new)
    ∙ ap (λ work. hand_of work) (sym (worked_next shape events first i none within) ∙ ap (λ n. worked shape (take n events) first) more)

pub returns : goal.returns
returns c =
    let most = c.loop-event.auto.event-index-end in
    let least = c.loop-event-test.false in
    let end : c.loop-event.event-index ≡ length c.args.events.now = omega arith in
    let all : take c.loop-event.event-index c.args.events.now ≡ c.args.events.now = ap (λ n. take n c.args.events.now) end ∙ take-length c.args.events.now in
    let first = start c.args.classes.now in
    IfOk-weaker c.close.result _ _ (λ txn closed once new. closed c.loop-event.privates (worked c.args.shape.now c.args.events.now first)
    (subst (λ events. IsOnce (worked c.args.shape.now events first)) all (once_worked c.args.shape.now c.args.events.now first c.loop-event.event-index once new))
    (subst (λ events. hand_in c.loop-event.privates c.loop-event.draft ≡ hand_of (worked c.args.shape.now events first)) all (c.loop-event.invariant once new))) c.close.ensures.record
