use Rattle.std.proofs.Common.{Some, ◌≡◌, ◌≤◌, None, Err, get_or, length, ap, sym, ◌∙◌, subst, arith}
use Rattle.std.proofs.lemmas.List.{take_all}
use Rattle.std.proofs.lemmas.Result.{err_from_is_err_and}
use Rattle.std.specs.Fmt.{◌++?◌}
use Rattle.dso_report.specs.Numbering.{fields_of}
use Rattle.dso_report.specs.Report.{root_line, object_line}
use Rattle.dso_report.specs.Texts.{each_below, each_of}
use Rattle.dso_report.proofs.texts.Appends.{append_nothing, appends_group, first_lacks, second_lacks, below_lacks, below_more, each_lacks, each_more_behind}
use Rattle.dso_report.proofs.graph_lines.push_graph.Goals as goal

-- what a root's line lacks, the graph lacks
pub returns-in_err-push_root-clause-missing : goal.returns-in_err-push_root-clause-missing
returns-in_err-push_root-clause-missing g c is =
    let s = g.S.Seen.state c.args.seen.now in
    let order = c.args.order.now.keys in
    let p = err_from_is_err_and c.from_residual.result c.from_residual.ensures.1 in
    first_lacks (each_below (root_line c.args.names.now order s) (fields_of s 0)) (each_of (object_line c.args.names.now order s) order)
    (below_lacks (root_line c.args.names.now order s) (fields_of s 0) c.loop-root.root (omega (arith, c.loop-root-test.true, c.fields_of-root-end.ensures)) (c.in_err-push_root.ensures.missing (ap Err (sym p.2) ∙ sym p.1 ∙ is)))

-- a root more
pub loop-root-preserved : goal.loop-root-preserved
loop-root-preserved g c =
    below_more (root_line c.args.names.now c.args.order.now.keys (g.S.Seen.state c.args.seen.now)) c.args.text.now.items c.loop-root.text.items c.push_root.new.text.items c.loop-root.root c.loop-root.invariant c.in_ok-push_root.ensures.written

-- all roots are there
pub loop-object-init : goal.loop-object-init
loop-object-init g c =
    let s = g.S.Seen.state c.args.seen.now in
    let line = root_line c.args.names.now c.args.order.now.keys s in
    let all : c.loop-root.root ≡ fields_of s 0 = omega (arith, c.loop-root-test.false, c.loop-root.auto.root-end, c.fields_of-root-end.ensures) in
    append_nothing (Some c.args.text.now.items ++? each_below line (fields_of s 0)) ∙ ap (λ n. Some c.args.text.now.items ++? each_below line n) (sym all) ∙ c.loop-root.invariant

-- what an object's line lacks, the graph lacks
pub returns-in_err-push_object-clause-missing : goal.returns-in_err-push_object-clause-missing
returns-in_err-push_object-clause-missing g c is =
    let s = g.S.Seen.state c.args.seen.now in
    let order = c.args.order.now.keys in
    let i = c.loop-object.object-index in
    let p = err_from_is_err_and c.from_residual-in_err-push_object.result c.from_residual-in_err-push_object.ensures.1 in
    let lacks = subst (λ keys. object_line c.args.names.now order s (get_or keys i 0) ≡ None) c.as_slice-object-items.ensures.keys (c.in_err-push_object.ensures.missing (ap Err (sym p.2) ∙ sym p.1 ∙ is)) in
    second_lacks (each_below (root_line c.args.names.now order s) (fields_of s 0)) (each_of (object_line c.args.names.now order s) order)
    (each_lacks (object_line c.args.names.now order s) order i 0 (omega (arith, c.loop-object-test.true, ap length c.as_slice-object-items.ensures.keys)) lacks)

-- an object more
pub loop-object-preserved : goal.loop-object-preserved
loop-object-preserved g c =
    let s = g.S.Seen.state c.args.seen.now in
    let order = c.args.order.now.keys in
    let line = object_line c.args.names.now order s in
    let i = c.loop-object.object-index in
    let is = subst (λ keys. Some c.loop-object.text.items ++? line (get_or keys i 0) ≡ Some c.push_object.new.text.items) c.as_slice-object-items.ensures.keys c.in_ok-push_object.ensures.written in
    each_more_behind line order (Some c.args.text.now.items ++? each_below (root_line c.args.names.now order s) (fields_of s 0)) c.loop-object.text.items c.push_object.new.text.items i 0
    (omega (arith, c.loop-object-test.true, ap length c.as_slice-object-items.ensures.keys)) c.loop-object.invariant is

-- all objects are there
pub returns-clause-written : goal.returns-clause-written
returns-clause-written g c =
    let s = g.S.Seen.state c.args.seen.now in
    let order = c.args.order.now.keys in
    let line = object_line c.args.names.now order s in
    let roots = each_below (root_line c.args.names.now order s) (fields_of s 0) in
    let i = c.loop-object.object-index in
    let past : length order ≤ i = omega (arith, c.loop-object-test.false, ap length c.as_slice-object-items.ensures.keys) in
    sym (appends_group (Some c.args.text.now.items) roots (each_of line order)) ∙ ap (λ ys. (Some c.args.text.now.items ++? roots) ++? each_of line ys) (sym (take_all i order past)) ∙ c.loop-object.invariant
