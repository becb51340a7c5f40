use Rattle.std.proofs.Common.{rules}
use Rattle.dso_run.proofs.storing.Taking.{in_use, untaken_leaves}
use Rattle.dso_run.proofs.stores.open_store.Goals as goal

-- the file couldn't be taken
pub returns-in_default-clause-refused : goal.returns-in_default-clause-refused
returns-in_default-clause-refused g c = record {
  failed = c.in_default.ensures.failed;
  crash = untaken_leaves (g.D.Disk.found c.args.disk.now c.args.name.now) (g.D.Disk.file c.args.disk.now) (g.D.Disk.file c.attach.new.self)
      c.in_default.ensures.attached;
}

-- it is in use
pub returns-in-Err-NotEmpty-clause-refused : goal.returns-in-Err-NotEmpty-clause-refused
returns-in-Err-NotEmpty-clause-refused g c =
    let used = in_use (g.D.Disk.found c.args.disk.now c.args.name.now) c.in-Err-NotEmpty.field-0-0 (g.D.Disk.file c.args.disk.now) (g.D.Disk.file c.attach.new.self)
    (g.D.Disk.file c.create.new.disk) c.in-Ok.ensures.attached (c.in-Err-NotEmpty.ensures.in_use c.in-Err-NotEmpty.field-0-0 (search rules)) in
    record { long = used.0; taken = used.1 }
