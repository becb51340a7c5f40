use Rattle.std.specs.Int.{bit_at}
use Rattle.std.proofs.Common.{◌≡◌, inl, inr, sym, ◌∙◌, ap, Some, arith, ⊎_elim}
use Rattle.std.proofs.lemmas.Bool.{cases_eq}
use Rattle.std.proofs.lemmas.Nat.Bits.{bit_at-zero}
use Rattle.dso_base.specs.declared.lock.ThreadId.{ThreadId}
use Rattle.dso_world.specs.declared.step.Step.TheVariants as step
use Rattle.dso_world.proofs.asking.Words.{below}
use Rattle.dso_world.proofs.places.Telling.{tells_both, tells_fewer, tells_none}
use Rattle.dso_world.proofs.step_update.mark_threads.Goals as goal

pub loop-left-init : goal.loop-left-init
loop-left-init c = tells_none c.args.nodes.now c.args.steps.now c.args.chooser.now (λ at is. let one = is.0.among in let none = is.1 in absurd (omega (arith, one, none)))

pub loop-left-preserved : goal.loop-left-preserved
loop-left-preserved c = tells_fewer c.args.nodes.now c.args.steps.now c.args.chooser.now c.mark_step.new.chooser (λ at is. ⊎_elim
    (λ same.
    let one : is.0.thread ≡ record { client = c.args.number; index = c.first_bit-index.result } = λ i. record { client = is.0.its i; index = same i } in
    inr (is.0.there ∙ ap (λ t. Some (step.Act t)) one))
    (λ other. inl (is.0, sym (c.without_bit-left.ensures.others is.0.thread.index (below c.args.threads is.0.thread.index c.ranges.threads.fits is.0.among) other) ∙ is.1))
    (cases_eq is.0.thread.index c.first_bit-index.result))
    (tells_both c.args.nodes.now c.args.steps.now c.args.chooser.now c.loop-left.chooser c.mark_step.new.chooser c.loop-left.invariant c.mark_step.ensures)

pub returns : goal.returns
returns c = tells_fewer c.args.nodes.now c.args.steps.now c.args.chooser.now c.loop-left.chooser
    (λ at is. (is, ap (λ n. bit_at n is.thread.index) c.loop-left-test.false ∙ bit_at-zero is.thread.index)) c.loop-left.invariant
