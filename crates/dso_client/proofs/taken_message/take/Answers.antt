use Rattle.std.proofs.Common.{◌≡◌, ℕ, sym, ◌∙◌, ap, map}
use Rattle.dso_base.specs.declared.message.Down.{Down}
use Rattle.dso_machine.specs.declared.code.Code.{Code}
use Rattle.dso_client.specs.ClientStands.{point}
use Rattle.dso_client.specs.MessageEffects.{heard}
use Rattle.dso_client.specs.StateStands.{ClientPartsStand}
use Rattle.dso_client.specs.RunPoints.{RunPoint}
use Rattle.dso_client.specs.RunFacts.{RunFacts}
use Rattle.dso_client.specs.ContextPlaces.{running}
use Rattle.dso_client.specs.TakenMessages.{IsQuiet, Settles, Takes}
use Rattle.dso_client.specs.TouchedLocks.{touched}
use Rattle.dso_client.proofs.replies.Outcomes.{if_ok}
use Rattle.dso_client.proofs.due.Took.{quiet, ids_taken, took}
use Rattle.dso_client.proofs.taken_message.take.Goals as goal

pub returns-clause-takes : goal.returns-clause-takes
returns-clause-takes c =
    let m = c.args.message.now in
    let old = c.args.kept.now in
    let mid = c.hear.new.kept in
    let new = c.settle.new.kept in
    let lock = c.touched-lock.result in
    let runs = ap (λ contexts. map running contexts.items) c.settle.ensures.contexts ∙ c.hear.ensures.runs in
    if_ok c.settle.result
    (λ sent. (clock : ℕ) (m : Down) (at : RunPoint) → ClientPartsStand (heard clock m at) mid → IsQuiet at → RunFacts at → touched at m ≡ lock → Settles clock m at sent.items new)
    (λ sent. (code : Code) → code.shape ≡ c.args.shape.now → Takes code m old new sent.items)
    (λ sent settles. λ code shape p client clock es h.
    let at = point code p client es in
    record {
      taken = λ fits. took code p client clock m es old h new sent.items fits
          (settles clock m at (c.in_ok-hear.ensures.parts clock at h.parts fits (ids_taken code p client clock m es old h)) (quiet code p client clock m es old h) h.parts.facts
          (sym (c.touched-lock.ensures at h.parts fits))) runs;
      unfit = λ no. absurd (no ((c.fits_down.ensures at h.parts (h.shape ∙ shape)).0 c.if-not-fits_down.false));
    }) c.settle.ensures.settles
