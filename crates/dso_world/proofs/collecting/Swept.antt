-- A collection of the server by the paths of its cluster sweeps what is garbage after the journal.
use Rattle.std.specs.List.{list_any}
use Rattle.std.specs.List.Sorted.{IsStrictlySortedBy}
use Rattle.std.specs.Ordering.{nat_cmp}
use Rattle.std.proofs.Common.{ℕ, ◌≤◌, ◌≡◌, ◌≢◌, ◌↔◌, inl, inr, refl, sym, subst, Bool, true, cond, eqb, Option, None, List, length}
use Rattle.dso_base.specs.declared.journal.Entry.{Entry}
use Rattle.dso_base.specs.declared.journal.Node.TheVariants as node
use Rattle.dso_base.specs.declared.record.Body.{Body}
use Rattle.dso_class.specs.declared.program.Program.{Program}
use Rattle.dso_gc_law.specs.Lacking.{AreStartsAndEdges, IsGarbageBy, IsSweptClean}
use Rattle.dso_gc_law.proofs.garbage.Sweeping.{garbage_is_found, swept_is_clean}
use Rattle.dso_law.specs.Entries.{entries_of}
use Rattle.dso_law.specs.Settings.{clients_of}
use Rattle.dso_legal.specs.Collection.{is_kept}
use Rattle.dso_lookup.specs.Search.{has_edge, is_listed}
use Rattle.dso_lookup.proofs.Tests.{both}
use Rattle.dso_machine.specs.Frames.{frames_after}
use Rattle.dso_machine.specs.Next.{next_request}
use Rattle.dso_server.specs.declared.server.Server.{Server}
use Rattle.dso_server.specs.Collecting.{HasSwept, IsGarbageAt}
use Rattle.dso_server.specs.ServerStands.{ServerStands}
use Rattle.dso_store.specs.Graph.{body_in}
use Rattle.dso_world.specs.declared.collection.Paths.{Paths}
use Rattle.dso_world.specs.declared.nodes.Nodes.{Nodes}
use Rattle.dso_world.specs.Collections.{ArePathsOf, IsGarbageThen, SweepsNodes}
use Rattle.dso_world.specs.NodesStand.{NodesStand}
use Rattle.dso_world.specs.WorldSteps.{settings_of}
use Rattle.dso_world.proofs.places.Clients.{numbered_so}

module _ (program : Program) (es : List Entry) (nodes : Nodes) (paths : Paths) (stands : NodesStand program nodes es) (are : ArePathsOf program program.clients es paths) where
  abbrev here : ℕ → Option Body
  here = body_in nodes.server.store

  abbrev starts : ℕ → Bool
  starts o = is_listed o paths.starts.items

  abbrev edges : ℕ → ℕ → Bool
  edges a b = has_edge a b paths.edges.items

  -- a client that counts is one of the cluster
  within : (c : ℕ) → is_kept (settings_of program) es c ≡ true → c ≤ program.clients
  within c is = (numbered_so c program.clients (both (list_any (eqb c) (clients_of (settings_of program))) _ is).0).1

  are_so : AreStartsAndEdges (settings_of program) (next_request program.code) (frames_after program.code) starts edges es
  are_so = record {
    starts_so = λ o. (
      λ listed. elim ((are.starts o).0 listed) [ inl root ↦ inl root | inr named ↦ inr (named.0, named.2, named.3) ],
      λ start. elim start [ inl root ↦ (are.starts o).1 (inl root) | inr named ↦ (are.starts o).1 (inr (named.0, within named.0 named.1, named.1, named.2)) ],
    );
    edges_so = λ a b. (
      λ listed. let edge = (are.edges a b).0 listed in (edge.0, edge.2, edge.3),
      λ copy. (are.edges a b).1 (copy.0, within copy.0 copy.1, copy.1, copy.2),
    );
  }

  found : (o : ℕ) → IsGarbageBy here starts edges o ↔ ((here o ≢ None) × IsGarbageThen program es o)
  found = garbage_is_found (settings_of program) (next_request program.code) (frames_after program.code) here es stands.server.store.bodies stands.lacks starts edges are_so

  module _ (swept : List ℕ) (new : Server) (rising : IsStrictlySortedBy nat_cmp swept)
      (exact : (o : ℕ) → (is_listed o swept ≡ true) ↔ IsGarbageAt nodes.server paths.starts.items paths.edges.items o)
      (gone : HasSwept swept nodes.server new) (serves : ServerStands (settings_of program) new (entries_of node.Server es)) where
    left : body_in new.store ≡ (λ o. cond (is_listed o swept) None (here o))
    left = gone.bodies

    clean : IsSweptClean (settings_of program) (next_request program.code) (frames_after program.code) (body_in new.store) es
    clean = subst (λ has. IsSweptClean (settings_of program) (next_request program.code) (frames_after program.code) has es) (sym left)
        (swept_is_clean (settings_of program) (next_request program.code) (frames_after program.code) here es stands.server.store.bodies stands.lacks starts edges are_so (λ o. is_listed o swept) exact)

    pub nodes_swept : SweepsNodes program (length swept) nodes (record nodes { server = new }) es
    nodes_swept = record {
      stands = record {
        count = stands.count;
        client_nodes = stands.client_nodes;
        server = serves;
        lacks = clean.only;
        given = subst (λ ids. length ids ≤ length es) (sym gone.ids) stands.given;
        clock = stands.clock;
      };
      ids = swept;
      rising = rising;
      many = refl;
      newly = λ o. (
        λ listed. let one = (found o).0 ((exact o).0 listed) in (one.1, λ lacks. one.0 lacks.1),
        λ one. (exact o).1 ((found o).1 ((λ none. one.1 (one.0.there, none)), one.0)),
      );
      swept = λ o. (clean.only o, λ garbage. (garbage.there, clean.all o garbage));
    }
