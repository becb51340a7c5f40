use Rattle.std.proofs.Common.{◌∙◌, sym, subst, false}
use Rattle.dso_base.specs.declared.message.Down.TheVariants as down
use Rattle.dso_client.specs.MessageEffects.{heard}
use Rattle.dso_client.specs.SequencesStand.{SequencesStand}
use Rattle.dso_client.proofs.heard.Ids.{batch_heard, none_left}
use Rattle.dso_client.proofs.message_effect.hear_ids.Goals as goal

pub returns-then-next-end-clause-heard : goal.returns-then-next-end-clause-heard
returns-then-next-end-clause-heard c = λ clock at h fits taken.
    subst (λ pool. SequencesStand (heard clock (down.Ids c.args.first) at) (record c.args.sequences.now { pool = pool; is_asking = false })) (sym c.refill.ensures)
    (batch_heard clock c.args.first at fits taken c.args.sequences.now h)

pub returns-else-next-end-clause-heard : goal.returns-else-next-end-clause-heard
returns-else-next-end-clause-heard c = λ clock at h fits taken.
    absurd (c.if-next-end.false (c.next.ensures ∙ (none_left clock c.args.first at fits taken c.args.sequences.now h ∙ sym c.end.ensures)))
