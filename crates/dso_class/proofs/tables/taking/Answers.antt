use Rattle.std.proofs.Common.{get_or, sym, [], ◌∷◌, ◌∙◌, append-nil}
use Rattle.std.proofs.lemmas.List.{get_or_default}
use Rattle.dso_class.proofs.gathering.Callees.{one_callee, takes, takes_not}
use Rattle.dso_class.proofs.tables.taking.Goals as goal
use Rattle.dso_class.proofs.tables.taking.Goals.{then-declared-count+in_ok-push, else-declared-count}

pub loop-declared-preserved : goal.loop-declared-preserved
loop-declared-preserved c =
    let row = c.args.row.now in
    let i = c.loop-declared.declared-index in
    let declared = get_or row i (record { class = 0; number = 0; params = 0 }) in
    let below = c.loop-declared-test.true in
    let is = get_or_default row i (record { class = 0; number = 0; params = 0 }) declared below in
    elim c.if-declared-count.branch [
      | then-declared-count+in_ok-push w ↦
          let more = (declared.class, declared.number) ∷ [] in
          w.pairs-is ∙ w.in_ok-push.ensures.ok
          ∙ one_callee c.args.count row i declared c.loop-declared.pairs more below is
          (takes c.args.count declared w.if-declared-count.true) c.loop-declared.invariant
      | else-declared-count w ↦
          w.pairs-is ∙ sym (append-nil c.loop-declared.pairs)
          ∙ one_callee c.args.count row i declared c.loop-declared.pairs [] below is (takes_not c.args.count declared w.if-declared-count.false) c.loop-declared.invariant
    ]
