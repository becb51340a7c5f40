use Rattle.std.proofs.Common.{◌∙◌, ap, ◌++◌}
use Rattle.dso_world.proofs.collecting.Names.{edges_added, names_added}
use Rattle.dso_world.proofs.collection.Paths.add_client.Goals as goal

pub returns : goal.returns
returns c = λ program number es journal stands.
    let old = c.args.self.now in
    record {
      starts = names_added program number es journal c.args.client_node.now stands old.starts.items c.extend_from_slice.new.self.items c.add_both_parts.new.into.items
          c.add_both_parts-2.new.into.items c.in_ok-named.named.items (c.left_up.result.0.now ++ c.left_up.result.1.now) (c.left_down.result.0.now ++ c.left_down.result.1.now)
          c.in_ok-named.ensures.named (c.in_ok-extend_from_slice.ensures.items ∙ ap (λ xs. old.starts.items ++ xs) c.as_slice.ensures.value)
          c.left_up.ensures c.in_ok-add_both_parts.ensures c.left_down.ensures c.in_ok-add_both_parts-2.ensures;
      edges = edges_added program number es journal c.args.client_node.now stands old.edges.items c.extend_from_slice-2.new.self.items c.in_ok-edges.edges.items c.in_ok-edges.ensures
          (c.in_ok-extend_from_slice-2.ensures.items ∙ ap (λ xs. old.edges.items ++ xs) c.as_slice-2.ensures.value);
    }
