use Rattle.std.proofs.Common.{ap, ◌∙◌, map}
use Rattle.std.proofs.lemmas.List.{take_all}
use Rattle.dso_class.specs.Maps.{make_map}
use Rattle.dso_class.specs.Mentions.{all_of, expression}
use Rattle.dso_class.proofs.maps.Making.{more_expressions}
use Rattle.dso_class.proofs.maps.MakingForms.{paren_makes, array_makes, field_makes, call_makes, element_makes, unary_makes, binary_makes, plain_field, plain_object}
use Rattle.dso_class.proofs.new_maps.+new_maps.Goals as goal

pub in_expression-returns-in-Paren : goal.in_expression-returns-in-Paren
in_expression-returns-in-Paren t c owner known =
    paren_makes owner c.args.tree.now known c.in-Paren.inner c.get.result.now c.in_expression.result c.in-Paren.is c.get.ensures (c.in_expression.ensures owner known)

pub in_expression-returns-in-NewArray : goal.in_expression-returns-in-NewArray
in_expression-returns-in-NewArray t c owner known =
    array_makes owner c.args.tree.now known c.in-NewArray.field-0 c.in-NewArray.size c.get-in-NewArray.result.now c.in_expression-in-NewArray.result c.in-NewArray.is c.get-in-NewArray.ensures (c.in_expression-in-NewArray.ensures owner known)

pub in_expression-returns-in-Field : goal.in_expression-returns-in-Field
in_expression-returns-in-Field t c owner known =
    field_makes owner c.args.tree.now known c.in-Field.on c.get-in-Field.result.now c.in-Field.field-1 c.in_object.result c.in-Field.is c.get-in-Field.ensures (c.in_object.ensures.field owner c.in-Field.field-1.name known)

pub in_expression-returns-in-Call : goal.in_expression-returns-in-Call
in_expression-returns-in-Call t c owner known =
    call_makes owner c.args.tree.now known c.in-Call.on c.get-in-Call.result.now c.in-Call.field-1 c.in-Call.trees c.as_slice-in-Call.result.now c.in_object-in-Call.result c.in_expressions.result
    c.in-Call.is c.get-in-Call.ensures c.as_slice-in-Call.ensures (c.in_object-in-Call.ensures.method owner known) (c.in_expressions.ensures owner known)

pub in_expression-returns-in-Elem : goal.in_expression-returns-in-Elem
in_expression-returns-in-Elem t c owner known =
    element_makes owner c.args.tree.now known c.in-Elem.on c.in-Elem.at c.get-in-Elem.result.now c.get-in-Elem-2.result.now c.in_expression-in-Elem.result c.in_expression-in-Elem-2.result
    c.in-Elem.is c.get-in-Elem.ensures c.get-in-Elem-2.ensures (c.in_expression-in-Elem.ensures owner known) (c.in_expression-in-Elem-2.ensures owner known)

pub in_expression-returns-in-Unary : goal.in_expression-returns-in-Unary
in_expression-returns-in-Unary t c owner known =
    unary_makes owner c.args.tree.now known c.in-Unary.field-0 c.in-Unary.operand c.get-in-Unary.result.now c.in_expression-in-Unary.result c.in-Unary.is c.get-in-Unary.ensures (c.in_expression-in-Unary.ensures owner known)

pub in_expression-returns-in-Binary : goal.in_expression-returns-in-Binary
in_expression-returns-in-Binary t c owner known =
    binary_makes owner c.args.tree.now known c.in-Binary.field-0 c.in-Binary.left c.in-Binary.right c.get-in-Binary.result.now c.get-in-Binary-2.result.now c.in_expression-in-Binary.result c.in_expression-in-Binary-2.result
    c.in-Binary.is c.get-in-Binary.ensures c.get-in-Binary-2.ensures (c.in_expression-in-Binary.ensures owner known) (c.in_expression-in-Binary-2.ensures owner known)

pub in_object-returns-in-None-clause-field : goal.in_object-returns-in-None-clause-field
in_object-returns-in-None-clause-field t c owner name known =
    plain_field owner c.args.tree.now known name c.in_expression.result (c.in-None.ensures.other owner) (c.in_expression.ensures owner known)

pub in_object-returns-in-None-clause-method : goal.in_object-returns-in-None-clause-method
in_object-returns-in-None-clause-method t c owner known =
    plain_object owner c.args.tree.now known c.in_expression.result (c.in-None.ensures.other owner) (c.in_expression.ensures owner known)

pub in_expressions-loop-tree-preserved : goal.in_expressions-loop-tree-preserved
in_expressions-loop-tree-preserved t c owner known =
    more_expressions owner c.args.trees.now c.loop-tree.tree-index c.tree-item.result known c.loop-tree.makes c.in_expression-makes.result c.loop-tree-test.true c.tree-item.is
    (c.loop-tree.invariant owner known) (c.in_expression-makes.ensures owner known)

pub in_expressions-returns : goal.in_expressions-returns
in_expressions-returns t c owner known =
    c.loop-tree.invariant owner known ∙ ap (λ all. make_map (all_of (map (expression owner) all) known)) (take_all c.loop-tree.tree-index c.args.trees.now c.loop-tree-test.false)
