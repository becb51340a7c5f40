use Rattle.std.proofs.Common.{◌∙◌, rules, subst}
use Rattle.std.specs.Option.{IfSome}
use Rattle.dso_keep.specs.Disk.{bytes_in}
use Rattle.dso_keep.specs.Records.{IsBadAt}
use Rattle.dso_run.proofs.storing.Taking.{of_taken}
use Rattle.dso_run.proofs.stores.read_store.Goals as goal

-- an open gate is followed by no record that fits
pub returns-in-Err-BadRecord-clause-refused : goal.returns-in-Err-BadRecord-clause-refused
returns-in-Err-BadRecord-clause-refused g c =
    let place = c.in-Err-BadRecord.place in
    record {
      bad = of_taken (g.D.Disk.found c.args.disk.now c.args.name.now) (λ bytes. IsBadAt c.args.shape.now bytes place) (g.D.Disk.file c.args.disk.now)
          (subst (λ file. IfSome file (λ f. IsBadAt c.args.shape.now (bytes_in f) place)) c.in-Ok.ensures.attached (c.in-Err-BadRecord.ensures.bad place (search rules)));
      taken = c.in-Err-BadRecord.ensures.same ∙ c.in-Ok.ensures.attached;
    }
