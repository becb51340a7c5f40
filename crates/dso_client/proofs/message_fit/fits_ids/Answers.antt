use Rattle.std.proofs.Common.{◌≤◌, sym, ◌∙◌, arith}
use Rattle.std.proofs.lemmas.Bool.{leb-true, le-leb}
use Rattle.dso_law.specs.Records.{batches}
use Rattle.dso_client.specs.SequencesStand.{ids_end}
use Rattle.dso_client.proofs.contexts.BatchEnds.{behind_each, behind_all}
use Rattle.dso_client.proofs.message_fit.fits_ids.Goals as goal

pub returns-then-first-end : goal.returns-then-first-end
returns-then-first-end c = λ at stands. (
  (λ e. absurd (cc e)),
  (λ f.
      let most = behind_all c.args.first (batches at.entries) f.above f.new in
      let told = stands.end in
      let read = c.end.ensures in
      let less = c.if-first-end.true in
      absurd (omega (arith, most, told, read, less))),
)

pub returns : goal.returns
returns c = λ at stands.
    let told = stands.end in
    let read = c.end.ensures in
    let most = c.if-first-end.false in
    let behind : ids_end (batches at.entries) ≤ c.args.first = omega (arith, told, read, most) in
    let each = behind_each c.args.first (batches at.entries) behind in (
      (λ yes.
          let least = leb-true c.args.first 18446744073709551359 yes in
          record { asked = sym stands.asking ∙ c.if-not-sequences.false; above = each.0; new = each.1; room = omega (arith, least) }),
      (λ f.
          let room = f.room in
          le-leb c.args.first 18446744073709551359 (omega (arith, room))),
    )
