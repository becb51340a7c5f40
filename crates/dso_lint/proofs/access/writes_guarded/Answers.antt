use Rattle.dso_lint.proofs.guarding.Makings.{element_written, writes_at_element}
use Rattle.dso_lint.proofs.access.writes_guarded.Goals as goal

pub returns-in-PutElem : goal.returns-in-PutElem
returns-in-PutElem c sites so =
    let scene = c.args.scene.now in
    let a = c.args.a.now in
    let array = c.get-in-PutElem.result.now in (
      λ q. writes_at_element scene sites a array c.in-PutElem.array c.in-PutElem.field-1 c.in-PutElem.field-2 c.in-PutElem.is c.get-in-PutElem.ensures ((c.is_locked.ensures sites so).0 q),
      λ written. (c.is_locked.ensures sites so).1 (element_written scene sites a array c.in-PutElem.array c.in-PutElem.field-1 c.in-PutElem.field-2 c.in-PutElem.is c.get-in-PutElem.ensures written),
    )
