use Rattle.std.proofs.Common.{◌∙◌, ◌≤◌, ap, eqb, filter, length, refl, subst, arith}
use Rattle.dso_server.specs.Triggers.{AreTriggersOf}
use Rattle.dso_world.proofs.worlds.Openings.{few_threads, client_node_stands, threads_there}
use Rattle.dso_world.proofs.opening.client_node.Goals as goal

pub overflow_cast-threads : goal.overflow_cast-threads
overflow_cast-threads c =
    let few : c.thread_count-threads.result ≤ 16 = few_threads c.args.program.now c.requires c.args.number c.thread_count-threads.result (c.thread_count-threads.ensures ∙ ap (λ list. length (filter (λ t. eqb t.client c.args.number) list)) c.as_slice.ensures) in
    omega (arith, few)

pub new-requires-clause-there : goal.new-requires-clause-there
new-requires-clause-there c = threads_there c.args.program.now c.requires c.args.number c.thread_count-threads.result (c.thread_count-threads.ensures ∙ ap (λ list. length (filter (λ t. eqb t.client c.args.number) list)) c.as_slice.ensures)

pub returns : goal.returns
returns c = client_node_stands c.args.program.now c.requires c.args.number c.thread_count-threads.result _ (c.thread_count-threads.ensures ∙ ap (λ list. length (filter (λ t. eqb t.client c.args.number) list)) c.as_slice.ensures)
    c.in_ok-client.ensures.runs c.in_ok-client.ensures.stands c.new-3.ensures refl
    (subst (λ losses. AreTriggersOf c.args.number losses c.args.program.now.breaks c.in_ok-triggers.triggers) c.as_slice-losses.ensures
    (subst (λ breaks. AreTriggersOf c.args.number c.as_slice-losses.result.now breaks c.in_ok-triggers.triggers) c.as_slice-breaks.ensures c.in_ok-triggers.ensures))
