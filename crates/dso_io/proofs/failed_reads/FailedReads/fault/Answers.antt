use Rattle.std.proofs.Common.{refl, sym, subst}
use Rattle.dso_io.specs.declared.environment.FileFault.TheVariants.{Failed}
use Rattle.dso_io.specs.Environment.{Rose, faults_of}
use Rattle.dso_io.proofs.FaultCounts.{noted_rose}
use Rattle.dso_io.proofs.failed_reads.FailedReads.fault.Goals as goal

-- the name was noted
pub returns-in-Ok-clause-rose : goal.returns-in-Ok-clause-rose
returns-in-Ok-clause-rose c = λ is.
    subst (λ names. Rose (faults_of c.args.self.now c.args.name.now) (faults_of names c.args.name.now)) (sym c.in-Ok.ensures.ok)
    (noted_rose c.args.self.now c.args.name.now Failed refl)
