use Rattle.std.proofs.Common.{refl, subst}
use Rattle.std.proofs.lemmas.List.{take_all}
use Rattle.dso_base.specs.declared.message.Down.TheVariants as down
use Rattle.dso_law.specs.Granting.{to_each}
use Rattle.dso_locks.specs.Locks.{messages_of}
use Rattle.dso_locks.specs.Serving.{state_in, Sends}
use Rattle.dso_locks.proofs.Sending.{sends_none, recalled_next}
use Rattle.std.proofs.Common.{◌∙◌}
use Rattle.dso_locks.proofs.lock.recall_all.Goals as goal

pub loop-client-init : goal.loop-client-init
loop-client-init c = (refl, sends_none c.args.lock.now.name (state_in c.args.lock.now) (messages_of c.args.told.now.items))

pub loop-client-preserved : goal.loop-client-preserved
loop-client-preserved c = (c.recall.ensures.name ∙ c.loop-client.invariant.0, recalled_next c.args.lock.now.name c.loop-client.lock.name c.args.clients.now c.loop-client.client-index (state_in c.args.lock.now) (state_in c.loop-client.lock) (state_in c.recall.new.lock) (messages_of c.args.told.now.items) (messages_of c.loop-client.told.items) (messages_of c.recall.new.told.items) c.loop-client-test.true c.loop-client.invariant.0 c.loop-client.invariant.1 c.in_ok-recall.ensures.sends)

pub returns-clause-sends : goal.returns-clause-sends
returns-clause-sends c = subst (λ clients. Sends c.args.lock.now.name (to_each (down.Recall c.args.lock.now.name) clients) (state_in c.args.lock.now) (state_in c.loop-client.lock) (messages_of c.args.told.now.items) (messages_of c.loop-client.told.items)) (take_all c.loop-client.client-index c.args.clients.now c.loop-client-test.false) c.loop-client.invariant.1
