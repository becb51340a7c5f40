use Rattle.std.proofs.Common.{refl, ◌∙◌, ap, [], ◌∷◌, ◌++◌}
use Rattle.std.proofs.lemmas.Result.{on_ok_weaker}
use Rattle.dso_base.specs.Block.{noted}
use Rattle.dso_base.specs.declared.record.Choice.TheVariants.{All}
use Rattle.dso_change.specs.Hands.{hand_of}
use Rattle.dso_change.proofs.HandChanges.{body_made, note_added, value_printed}
use Rattle.dso_txn.specs.InHand.{hand_in}
use Rattle.dso_client.proofs.hand_effect.apply_to_hand.Goals as goal

pub returns-in_ok-body-in-New-Made-clause-work : goal.returns-in_ok-body-in-New-Made-clause-work
returns-in_ok-body-in-New-Made-clause-work c =
    let context = c.args.context.now in
    let body = c.in_ok-body-in-New-Made.body in
    rw (c.in-New-Made.is-0, c.in-New-Made.is-1) (on_ok_weaker c.add.result (λ adds. λ work once same. body_made context.privates.bodies context.block.draft work same c.add.new.self.bodies body adds
    ∙ ap (λ b. hand_of (record work { privates = b ∷ work.privates })) c.in_ok-body-in-New-Made.ensures) c.add.ensures.ok)

pub returns-in-Notify-Done-clause-work : goal.returns-in-Notify-Done-clause-work
returns-in-Notify-Done-clause-work c =
    let context = c.args.context.now in
    let lock = c.in-Notify-Done.lock in
    let choice = c.choice_of-choice.result in
    rw (c.in-Notify-Done.is-0, c.in-Notify-Done.is-1) (on_ok_weaker c.note.result (λ notes. λ work once same. ap (λ block. hand_in context.privates block) notes
    ∙ (note_added context.privates.bodies context.block.draft work same (context.block.draft.notes ++ record { lock = lock; choice = choice } ∷ []) lock choice refl
    ∙ ap (λ choice. hand_of (noted lock choice work)) c.choice_of-choice.ensures)) c.note.ensures.ok)

pub returns-in-NotifyAll-Done-clause-work : goal.returns-in-NotifyAll-Done-clause-work
returns-in-NotifyAll-Done-clause-work c =
    let context = c.args.context.now in
    let lock = c.in-NotifyAll-Done.lock in
    rw (c.in-NotifyAll-Done.is-0, c.in-NotifyAll-Done.is-1) (on_ok_weaker c.note-in-NotifyAll-Done.result (λ notes. λ work once same. ap (λ block. hand_in context.privates block) notes
    ∙ note_added context.privates.bodies context.block.draft work same (context.block.draft.notes ++ record { lock = lock; choice = All } ∷ []) lock All refl) c.note-in-NotifyAll-Done.ensures.ok)

pub returns-in-Print-Done-clause-work : goal.returns-in-Print-Done-clause-work
returns-in-Print-Done-clause-work c =
    let context = c.args.context.now in
    let value = c.in-Print-Done.value in
    rw (c.in-Print-Done.is-0, c.in-Print-Done.is-1) (on_ok_weaker c.print.result (λ prints. λ work once same. ap (λ block. hand_in context.privates block) prints
    ∙ value_printed context.privates.bodies context.block.draft work same (context.block.draft.outs ++ value ∷ []) value refl) c.print.ensures.ok)
