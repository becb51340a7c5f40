use Rattle.std.proofs.Common.{◌≤◌, ◌≡◌, ◌∙◌, ap, subst, [], ◌∷◌, ◌++◌, length, arith}
use Rattle.dso_world.specs.Collections.{ArePathsOf}
use Rattle.dso_world.proofs.collecting.Places.{none_yet}
use Rattle.dso_world.proofs.collection.Paths.of.Goals as goal

pub overflow_cast-count : goal.overflow_cast-count
overflow_cast-count c =
    let some = c.requires in
    let count : length c.args.nodes.now.client_nodes.items ≡ some.program.clients = some.stand.count in
    let few : some.program.clients ≤ 16 = some.journal.sound.no_more_clients in
    let many = c.args.nodes.now.client_nodes.ok.0 in
    let is = c.len-count.ensures in
    omega (arith, count, few, many, is)

pub loop-place-init : goal.loop-place-init
loop-place-init c = λ program es journal stands.
    none_yet program es (record { starts = c.push.new.self; edges = c.new-2.result }) (c.in_ok-push.ensures.items ∙ ap (λ xs. xs ++ 0 ∷ []) c.new.ensures.items) c.new-2.ensures.items

pub returns : goal.returns
returns c = λ program es journal stands.
    let past = c.loop-place-test.false in
    let within = c.loop-place.auto.place-end in
    let count : length c.args.nodes.now.client_nodes.items ≡ program.clients = stands.count in
    let many = c.args.nodes.now.client_nodes.ok.0 in
    let is = c.len-count.ensures in
    let all : c.loop-place.place ≡ program.clients = omega (arith, past, within, count, many, is) in
    subst (λ n. ArePathsOf program n es c.loop-place.paths) all (c.loop-place.invariant program es journal stands)
