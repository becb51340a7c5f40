use Rattle.std.proofs.Common.{refl, ◌∙◌, sym}
use Rattle.dso_class.proofs.lists.Among.{among, more}
use Rattle.dso_class.proofs.scope.is_among.Goals as goal

pub returns-then-same : goal.returns-then-same
returns-then-same c =
    (λ _. among c.args.words.now c.loop-one.one-index c.one-item.result c.args.word.now c.loop-one-test.true c.one-item.is (c.same.ensures.0 c.if-same.true), λ _. refl)

pub loop-one-preserved : goal.loop-one-preserved
loop-one-preserved c =
    more c.args.words.now c.loop-one.one-index c.one-item.result c.args.word.now c.loop-one-test.true c.one-item.is (λ same. cc (sym c.if-same.false ∙ c.same.ensures.1 same)) c.loop-one.invariant
