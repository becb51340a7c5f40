use Rattle.std.proofs.Common.{ℕ, suc, ◌+◌, ◌≡◌, sym, ◌∙◌, ap, List, arith}
use Rattle.dso_base.specs.declared.journal.Entry.{Entry}
use Rattle.dso_base.specs.declared.journal.Node.TheVariants as node
use Rattle.dso_class.specs.declared.program.Program.{Program}
use Rattle.dso_law.specs.Entries.{entries_of}
use Rattle.dso_law.specs.ServerReadings.{is_lost}
use Rattle.dso_world.specs.Collections.{AddsClient, ArePathsOf, IsLawfulOf}
use Rattle.dso_world.specs.NodesStand.{ClientNodeStands, NodesStand}
use Rattle.dso_world.specs.WorldSteps.{settings_of}
use Rattle.dso_world.proofs.collecting.Added.{ok_then}
use Rattle.dso_world.proofs.collecting.Places.{kept_added, lost_left, none_left}
use Rattle.dso_world.proofs.worlds.Looks.{lent, unlent}
use Rattle.dso_world.proofs.collection.Paths.add_place.Goals as goal

pub add_client-requires : goal.add_client-requires
add_client-requires c =
    let some = c.requires.stand in
    let there = lent c.args.nodes.now.client_nodes.items c.deref.result.now c.args.place c.in-Some.client_node.now c.deref.ensures.value c.in-Some.ensures.lookup.0 c.in-Some.ensures.lookup.1 in
    record { code = some.program.code; runs = (some.stand.client_nodes c.args.place c.in-Some.client_node.now there).runs }

pub returns-in-Some : goal.returns-in-Some
returns-in-Some c =
    let nodes = c.args.nodes.now in
    let place = c.args.place in
    let client_node = c.in-Some.client_node.now in
    let old = c.args.self.now in
    let new = c.add_client.new.self in
    let there = lent nodes.client_nodes.items c.deref.result.now place client_node c.deref.ensures.value c.in-Some.ensures.lookup.0 c.in-Some.ensures.lookup.1 in
    let next : place + 1 ≡ suc place = omega arith in
    ok_then c.add_client.result
    ((program : Program) (number : ℕ) (es : List Entry) → IsLawfulOf program es → ClientNodeStands program number client_node es → AddsClient program number es old new)
    ((program : Program) (es : List Entry) → IsLawfulOf program es → NodesStand program nodes es → ArePathsOf program place es old → ArePathsOf program (suc place) es new)
    (λ adds. λ program es journal stands before. kept_added program es nodes stands place old new before client_node there
    (ap (λ n. is_lost n (entries_of node.Server es)) (sym next) ∙ (sym (c.is_lost.ensures (settings_of program) (entries_of node.Server es) stands.server) ∙ c.if-not-is_lost.true))
    (adds program (suc place) es journal (stands.client_nodes place client_node there)))
    c.add_client.ensures

pub returns-in-Some-2 : goal.returns-in-Some-2
returns-in-Some-2 c = λ program es journal stands before.
    let place = c.args.place in
    let next : place + 1 ≡ suc place = omega arith in
    lost_left program es c.args.nodes.now stands place c.args.self.now c.args.self.now before
    (ap (λ n. is_lost n (entries_of node.Server es)) (sym next) ∙ (sym (c.is_lost.ensures (settings_of program) (entries_of node.Server es) stands.server) ∙ c.if-not-is_lost.false))

pub returns-in-None : goal.returns-in-None
returns-in-None c = λ program es journal stands before.
    none_left program es c.args.nodes.now stands c.args.place c.args.self.now c.args.self.now before
    (unlent c.args.nodes.now.client_nodes.items c.deref.result.now c.args.place c.deref.ensures.value c.in-None.ensures.lookup.0)
