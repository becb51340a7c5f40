use Rattle.dso_plain.specs.HeapTables.{state_of}
use Rattle.dso_plain.proofs.publishing.AllShared.{shares_first, shares_next, shares_all, its_fields}
use Rattle.dso_plain.proofs.publish.publish.Goals as goal

pub loop-object-init : goal.loop-object-init
loop-object-init c = (shares_first c.in_ok-reached.reached (state_of c.args.tables.now), λ a. a)

pub share-requires : goal.share-requires
share-requires c = its_fields c.in_ok-reached.reached c.loop-object.reached (state_of c.args.tables.now) (state_of c.loop-object.tables) c.requires c.loop-object.invariant.0 c.in-Some.object

pub loop-object-preserved : goal.loop-object-preserved
loop-object-preserved c = (shares_next c.in_ok-reached.reached c.loop-object.reached c.pop_first.new.self (state_of c.args.tables.now) (state_of c.loop-object.tables) (state_of c.share.new.tables) c.in-Some.object c.loop-object.invariant.0 c.in-Some.ensures.member c.in-Some.ensures.updates c.in_ok-share.ensures.state, λ a. c.in_ok-share.ensures.agrees (c.loop-object.invariant.1 a))

pub returns-clause-state : goal.returns-clause-state
returns-clause-state c = shares_all c.args.thread c.args.value (state_of c.args.tables.now) (state_of c.loop-object.tables) c.in_ok-reached.reached c.loop-object.reached c.requires c.in_ok-reached.ensures c.loop-object.invariant.0 (λ h. absurd (cc (c.in_default.ensures.variant.1 h)))
