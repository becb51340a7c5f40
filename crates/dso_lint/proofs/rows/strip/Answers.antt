use Rattle.std.proofs.Common.{◌≡◌, ◌<◌, ◌+◌, ◌∷◌, [], ◌++◌, arith, true, false, length, get_or, set, sym, subst}
use Rattle.std.proofs.lemmas.Grind.{common_steps}
use Rattle.dso_lint.specs.CleanRows.{TakesThis}
use Rattle.dso_lint.proofs.cleanness.EachRow.{StripsSoFar, strips_left, strips_none, strips_took}
use Rattle.dso_lint.proofs.rows.strip.Goals.{then-take_this+in_ok-push, else-take_this}
use Rattle.dso_lint.proofs.rows.strip.Goals as goal

pub loop-number-init : goal.loop-number-init
loop-number-init c = strips_none c.args.marks.now.marked.items c.args.rows.now.items c.args.waiting.now.items

pub loop-number-preserved : goal.loop-number-preserved
loop-number-preserved c =
    let k = c.loop-number.number in
    let marked = c.args.marks.now.marked.items in
    let old = c.args.rows.now.items in
    let mid = c.loop-number.rows.items in
    let before = c.args.waiting.now.items in
    let after = c.loop-number.waiting.items in
    let own = c.index_mut.result.now in
    let new = c.take_this.new.row in
    let low : k < length old = grind (arith, common_steps) in
    let here : get_or mid k own ≡ own = grind (arith, common_steps) in
    let takes : TakesThis (get_or marked k false) (get_or mid k own) new c.take_this.result =
    subst (λ row. TakesThis (get_or marked k false) row new c.take_this.result) (sym here) (subst (λ b. TakesThis b own new c.take_this.result) c.has.ensures c.take_this.ensures) in
    elim c.if-take_this.branch [
      | then-take_this+in_ok-push w ↦
          let took : TakesThis (get_or marked k false) (get_or mid k own) new true = subst (TakesThis (get_or marked k false) (get_or mid k own) new) w.if-take_this.true takes in
          let pushed : c.if-take_this.waiting.items ≡ after ++ k ∷ [] = grind (arith, common_steps) in
          subst (StripsSoFar marked (k + 1) old (set mid k new) before) (sym pushed) (strips_took marked k old mid new own before after low c.loop-number.invariant took)
      | else-take_this w ↦
          let left : TakesThis (get_or marked k false) (get_or mid k own) new false = subst (TakesThis (get_or marked k false) (get_or mid k own) new) w.if-take_this.false takes in
          let stays : c.if-take_this.waiting.items ≡ after = grind (arith, common_steps) in
          subst (StripsSoFar marked (k + 1) old (set mid k new) before) (sym stays) (strips_left marked k old mid new own before after low c.loop-number.invariant left)
    ]
