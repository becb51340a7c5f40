use Rattle.std.proofs.Common.{ℕ, ◌≡◌, ◌↔◌, subst, true, length, arith}
use Rattle.dso_base.specs.declared.journal.Node.TheVariants as node
use Rattle.dso_law.specs.Entries.{entries_of}
use Rattle.dso_lookup.specs.Search.{is_listed}
use Rattle.dso_server.specs.Collecting.{IsGarbageAt}
use Rattle.dso_world.specs.Collections.{SweepsNodes}
use Rattle.dso_world.specs.WorldSteps.{settings_of}
use Rattle.dso_world.proofs.collecting.Swept.{nodes_swept}
use Rattle.dso_world.proofs.collection.sweep.Goals as goal

pub returns-clause-swept : goal.returns-clause-swept
returns-clause-swept c = λ program es journal stands.
    let nodes = c.args.nodes.now in
    let swept = c.in_ok-swept.swept in
    let many = swept.ok.0 in
    let is = c.len.ensures in
    let all : length swept.items ≡ c.len.result = omega (arith, many, is) in
    subst (λ n. SweepsNodes program n nodes (record nodes { server = c.collect.new.self }) es) all
    (nodes_swept program es nodes c.in_ok-paths.paths stands (c.in_ok-paths.ensures program es journal stands) swept.items c.collect.new.self c.in_ok-swept.ensures.rising
    (subst (λ edges. (o : ℕ) → (is_listed o swept.items ≡ true) ↔ IsGarbageAt nodes.server c.in_ok-paths.paths.starts.items edges o) c.as_slice-2.ensures.value
    (subst (λ starts. (o : ℕ) → (is_listed o swept.items ≡ true) ↔ IsGarbageAt nodes.server starts c.as_slice-2.result.now o) c.as_slice.ensures.value c.in_ok-swept.ensures.exact))
    c.in_ok-swept.ensures.gone (c.in_ok-swept.ensures.stands (settings_of program) (entries_of node.Server es) stands.server))
