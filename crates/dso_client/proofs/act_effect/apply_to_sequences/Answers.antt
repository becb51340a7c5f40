use Rattle.std.proofs.Common.{subst, sym}
use Rattle.dso_client.specs.SequencesStand.{SequencesStand}
use Rattle.dso_client.specs.ActEffects.{applied}
use Rattle.dso_client.proofs.applied.Ids.{id_applied}
use Rattle.dso_client.proofs.act_effect.apply_to_sequences.Goals as goal

pub returns-in-Made-clause-stands : goal.returns-in-Made-clause-stands
returns-in-Made-clause-stands c = λ clock at h. subst (λ pool. SequencesStand (applied clock c.args.act at) (record c.args.sequences.now { pool = pool })) (sym c.take.ensures.left)
    (id_applied clock at c.args.act c.args.sequences.now h c.in-Made.field-0 c.in-Made.is)
