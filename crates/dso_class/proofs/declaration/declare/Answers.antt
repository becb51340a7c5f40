use Rattle.dso_class.proofs.rules.Refused as laws
use Rattle.dso_class.specs.Heads.{twice, many}
use Rattle.dso_class.proofs.declaration.declare.Goals as goal

-- src/naming.rt:21:9
pub returns-then-is_some-clause-refused : goal.returns-then-is_some-clause-refused
returns-then-is_some-clause-refused c = twice (laws.taken c.args.names.now c.as_slice-word.result c.number.result c.number.ensures c.is_some.ensures c.if-is_some.true c.as_slice-word.ensures)

-- src/naming.rt:24:9
pub returns-then-count-most-clause-refused : goal.returns-then-count-most-clause-refused
returns-then-count-most-clause-refused c = many (laws.free c.args.names.now c.as_slice-word.result c.number.result c.number.ensures c.is_some.ensures c.if-is_some.false c.as_slice-word.ensures) c.if-count-most.true

-- src/naming.rt:26:5
pub returns-in_err-add-clause-refused : goal.returns-in_err-add-clause-refused
returns-in_err-add-clause-refused c = laws.refused _ _ _ _ c.from_residual.result c.from_residual.ensures

-- src/naming.rt:13:1
pub returns-clause-fresh : goal.returns-clause-fresh
returns-clause-fresh c = laws.free c.args.names.now c.as_slice-word.result c.number.result c.number.ensures c.is_some.ensures c.if-is_some.false c.as_slice-word.ensures
