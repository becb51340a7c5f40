-- The client at a place, as it is added to the paths or left out.
use Rattle.std.specs.List.{list_any}
use Rattle.std.proofs.Common.{ℕ, suc, ◌≤◌, ◌<◌, ◌≡◌, inl, inr, refl, sym, ◌∙◌, ap, Bool, true, false, eqb, not, ◌||◌, Some, List, [], ◌∷◌, length, slice_get, arith}
use Rattle.std.proofs.lemmas.Bool.{eqb-true, and_from, and_left, and_right, not_from_false, not_from_true}
use Rattle.std.proofs.lemmas.Option.{slice_get_within}
use Rattle.dso_base.specs.declared.journal.Entry.{Entry}
use Rattle.dso_base.specs.declared.journal.Node.TheVariants as node
use Rattle.dso_class.specs.declared.program.Program.{Program}
use Rattle.dso_law.specs.Entries.{entries_of}
use Rattle.dso_law.specs.ServerReadings.{is_lost}
use Rattle.dso_law.specs.Settings.{clients_of}
use Rattle.dso_legal.specs.Collection.{is_kept}
use Rattle.dso_lookup.specs.Search.{has_edge, is_listed}
use Rattle.dso_lookup.proofs.Tests.{both}
use Rattle.dso_plain.proofs.keys.SameKeys.{number_self}
use Rattle.dso_world.specs.declared.client_node.ClientNode.{ClientNode}
use Rattle.dso_world.specs.declared.collection.Paths.{Paths}
use Rattle.dso_world.specs.declared.nodes.Nodes.{Nodes}
use Rattle.dso_world.specs.Collections.{AddsClient, ArePathsOf}
use Rattle.dso_world.specs.NodesStand.{NodesStand}
use Rattle.dso_world.specs.WorldSteps.{settings_of}
use Rattle.dso_world.proofs.collecting.Paths.{with_kept, with_lost}
use Rattle.dso_world.proofs.places.Clients.{numbered_so}
use Rattle.dso_world.proofs.programs.Threads.{listed}

module _ (program : Program) (es : List Entry) (nodes : Nodes) (stands : NodesStand program nodes es) (place : ℕ) (old new : Paths) (before : ArePathsOf program place es old) where
  -- a client at a place is one of the cluster
  among : (client_node : ClientNode) → slice_get nodes.client_nodes.items place ≡ Some client_node → list_any (eqb (suc place)) (clients_of (settings_of program)) ≡ true
  among client_node there =
      let within : place < length nodes.client_nodes.items = slice_get_within nodes.client_nodes.items place client_node there in
      let count : length nodes.client_nodes.items ≡ program.clients = stands.count in
      listed (eqb (suc place)) (suc place) program.clients (number_self (suc place)) (omega arith) (omega (arith, within, count))

  pub kept_added : (client_node : ClientNode) → slice_get nodes.client_nodes.items place ≡ Some client_node → is_lost (suc place) (entries_of node.Server es) ≡ false
      → AddsClient program (suc place) es old new → ArePathsOf program (suc place) es new
  kept_added client_node there here adds = with_kept program es place old new
      (and_from (list_any (eqb (suc place)) (clients_of (settings_of program))) (not (is_lost (suc place) (entries_of node.Server es))) (among client_node there) (not_from_false (is_lost (suc place) (entries_of node.Server es)) here)) adds before

  pub lost_left : is_lost (suc place) (entries_of node.Server es) ≡ true → ArePathsOf program (suc place) es old
  lost_left lost = with_lost program es place old
      (and_right (list_any (eqb (suc place)) (clients_of (settings_of program))) (not (is_lost (suc place) (entries_of node.Server es))) (not_from_true (is_lost (suc place) (entries_of node.Server es)) lost)) before

  -- there is none at a place behind the last
  pub none_left : length nodes.client_nodes.items ≤ place → ArePathsOf program (suc place) es old
  none_left behind = with_lost program es place old
      (and_left (list_any (eqb (suc place)) (clients_of (settings_of program))) (not (is_lost (suc place) (entries_of node.Server es))) (by (list_any (eqb (suc place)) (clients_of (settings_of program))) refl)) before
    where
      by : (b : Bool) → list_any (eqb (suc place)) (clients_of (settings_of program)) ≡ b → b ≡ false
      by true is =
          let most : suc place ≤ program.clients = (numbered_so (suc place) program.clients is).1 in
          let count : length nodes.client_nodes.items ≡ program.clients = stands.count in
          absurd (omega (arith, most, count, behind))
      by false is = refl

-- before the first client: object 0 is where paths begin, and there are no edges
pub none_yet : (program : Program) (es : List Entry) (paths : Paths) → paths.starts.items ≡ 0 ∷ [] → paths.edges.items ≡ [] → ArePathsOf program 0 es paths
none_yet program es paths starts edges = record {
  starts = λ o. (
    λ there. inl (root o (eqb 0 o) refl (sym (ap (is_listed o) starts) ∙ there)),
    λ start. ap (is_listed o) starts ∙ elim start [
      | inl zero ↦ ap (λ x. eqb 0 x || false) zero
      | inr named ↦ absurd (cc (nobody_counts named.0 named.1 named.2))
    ],
  );
  edges = λ a b. (
    λ there. absurd (cc (sym there ∙ ap (has_edge a b) edges)),
    λ named. absurd (cc (nobody_counts named.0 named.1 named.2)),
  );
}
  where
    root : (o : ℕ) (b : Bool) → eqb 0 o ≡ b → (eqb 0 o || false) ≡ true → o ≡ 0
    root o true same there = sym (eqb-true 0 o same)
    root o false other there = absurd (cc (sym (ap (λ b. b || false) other) ∙ there))

    nobody_counts : (c : ℕ) → c ≤ 0 → is_kept (settings_of program) es c ≡ true → true ≡ false
    nobody_counts c few kept =
        let least : 1 ≤ c = (numbered_so c program.clients (both (list_any (eqb c) (clients_of (settings_of program))) _ kept).0).0 in
        absurd (omega (arith, few, least))
