use Rattle.std.proofs.Common.{refl, ◌∙◌, ◌∷◌, [], sym, ap, subst, filter, not, length, ◌==◌}
use Rattle.std.specs.BTreeSet.{contains}
use Rattle.std.specs.Ordering.{nat_cmp}
use Rattle.std.proofs.lemmas.Result.{on_ok_weaker}
use Rattle.dso_base.specs.declared.message.Down.TheVariants as down
use Rattle.dso_law.specs.Granting.{to_each}
use Rattle.dso_locks.specs.Requests.{waiter_of}
use Rattle.dso_locks.specs.Locks.{messages_of}
use Rattle.dso_locks.specs.Serving.{state_in, leases_in, Sends}
use Rattle.dso_locks.proofs.Serving.{against_all, serving_starts, serving_granted, serving_ends, serving_recalls, no_items, some_items, shorter}
use Rattle.dso_locks.proofs.lock.serve.Goals as goal

pub loop-request-init : goal.loop-request-init
loop-request-init c = (refl, serving_starts c.args.lock.now.name (state_in c.args.lock.now) (messages_of c.args.told.now.items))

pub loop-request-preserved : goal.loop-request-preserved
loop-request-preserved c =
    let name = c.loop-request.invariant.0 in
    let granted = subst (λ k. Sends k (to_each (down.Grant k c.in-Some.request.level) (c.in-Some.request.client ∷ [])) (state_in c.loop-request.lock) (state_in c.grant.new.lock) (messages_of c.loop-request.told.items) (messages_of c.grant.new.told.items)) name c.in_ok-grant.ensures.sends in
    let none = no_items c.in_ok-clients.clients.items (ap (λ cs. length cs == 0) (sym c.as_slice.ensures.value) ∙ (sym c.is_empty.ensures ∙ c.if-not-is_empty.false)) in (
      c.grant.ensures.name ∙ name,
      serving_granted c.args.lock.now.name (state_in c.args.lock.now) (state_in c.loop-request.lock) (state_in c.grant.new.lock) (messages_of c.args.told.now.items) (messages_of c.loop-request.told.items) (messages_of c.grant.new.told.items) (waiter_of c.in-Some.request) c.loop-request.invariant.1 c.in-Some.ensures.first granted
          (λ p w. sym (against_all (waiter_of c.in-Some.request) c.loop-request.lock.leases (leases_in c.loop-request.lock) p refl c.in_ok-clients.ensures.ordered w.leased) ∙ (sym c.in_ok-clients.ensures.all ∙ none)),
    )

pub loop-request-smaller : goal.loop-request-smaller
loop-request-smaller c = shorter (waiter_of c.in-Some.request) c.loop-request.lock.queue c.grant.new.lock.queue c.in-Some.ensures.first c.in_ok-grant.ensures.rest

pub returns-then-not-is_empty-clause-served : goal.returns-then-not-is_empty-clause-served
returns-then-not-is_empty-clause-served c =
    let name = c.loop-request.invariant.0 in
    let some = some_items c.in_ok-clients.clients.items (ap (λ cs. length cs == 0) (sym c.as_slice.ensures.value) ∙ (sym c.is_empty.ensures ∙ c.if-not-is_empty.true)) in
    on_ok_weaker c.recall_once.result
    (λ sends. serving_recalls c.args.lock.now.name (state_in c.args.lock.now) (state_in c.loop-request.lock) (state_in c.recall_once.new.lock) (messages_of c.args.told.now.items) (messages_of c.loop-request.told.items) (messages_of c.recall_once.new.told.items) (waiter_of c.in-Some.request) c.in_ok-clients.clients.items c.loop-request.invariant.1 c.in-Some.ensures.first
    (λ p w. c.in_ok-clients.ensures.all ∙ against_all (waiter_of c.in-Some.request) c.loop-request.lock.leases (leases_in c.loop-request.lock) p refl c.in_ok-clients.ensures.ordered w.leased) some
    (subst (λ k. Sends k (to_each (down.Recall k) (filter (λ d. not (contains nat_cmp c.loop-request.lock.recalled d)) c.in_ok-clients.clients.items)) (state_in c.loop-request.lock) (state_in c.recall_once.new.lock) (messages_of c.loop-request.told.items) (messages_of c.recall_once.new.told.items)) name sends))
    c.recall_once.ensures.sends

pub returns-clause-served : goal.returns-clause-served
returns-clause-served c = serving_ends c.args.lock.now.name (state_in c.args.lock.now) (state_in c.loop-request.lock) (messages_of c.args.told.now.items) (messages_of c.loop-request.told.items) c.loop-request.invariant.1 c.in_default.ensures.none
