use Rattle.std.specs.Option.{option_copied}
use Rattle.std.proofs.Common.{sym, subst, ap}
use Rattle.dso_keep.specs.Crash.{CrashLeaves}
use Rattle.dso_keep.specs.Keeping.{KeepStands}
use Rattle.dso_keep.specs.Records.{AllFit, opening}
use Rattle.dso_world.specs.WorldStands.{entries_in}
use Rattle.dso_kept.specs.Keeping.{ReopensEither, applied, record_applied}
use Rattle.dso_kept.proofs.keeping.Leaving.{unchanged_reopens}
use Rattle.dso_kept.proofs.keeping.Steps.{is_short, one_by, some_last, step_adds, world_fits}
use Rattle.dso_kept.proofs.kept_steps.kept_step.Goals as goal

pub step-requires-clause-few : goal.step-requires-clause-few
step-requires-clause-few g c = is_short c.args.world.now c.requires.weight

-- the step makes no entry
pub returns-in_err-step-clause-crash : goal.returns-in_err-step-clause-crash
returns-in_err-step-clause-crash g c =
    unchanged_reopens c.args.program.now.code.shape (applied (entries_in c.args.world.now)) (applied (entries_in c.step.new.self)) c.args.keep (g.D.Disk.file c.args.disk.now) c.requires.keeps
    (world_fits c.args.program.now c.args.world.now c.requires.stands)

pub returns-then-not-branch-clause-crash : goal.returns-then-not-branch-clause-crash
returns-then-not-branch-clause-crash g c =
    unchanged_reopens c.args.program.now.code.shape (applied (entries_in c.args.world.now)) (applied (entries_in c.step.new.self)) c.args.keep (g.D.Disk.file c.args.disk.now) c.requires.keeps
    (world_fits c.args.program.now c.args.world.now c.requires.stands)

-- it makes one
pub unreachable-requires : goal.unreachable-requires
unreachable-requires g c =
    some_last c.args.program.now c.args.step c.in_ok-step.field-0 c.args.world.now c.step.new.self (option_copied c.last.result) c.if-not-branch.false c.in_ok-step.ensures.stepped c.last.ensures
    (ap option_copied c.in_default.is)

pub keep_entry-requires-clause-can_be : goal.keep_entry-requires-clause-can_be
keep_entry-requires-clause-can_be g c =
    let adds = step_adds c.args.program.now c.args.step c.in_ok-step.field-0 c.args.world.now c.step.new.self (option_copied c.last.result) c.if-not-branch.false c.in_ok-step.ensures.stepped c.last.ensures
    c.in-Some.entry.now (ap option_copied c.in-Some.is) c.in_ok-step.ensures.stands in
    adds.can c.requires.sound c.records_are_light.ensures c.requires.stands c.requires.weight

pub returns-in_err-keep-clause-one : goal.returns-in_err-keep-clause-one
returns-in_err-keep-clause-one g c =
    let adds = step_adds c.args.program.now c.args.step c.in_ok-step.field-0 c.args.world.now c.step.new.self (option_copied c.last.result) c.if-not-branch.false c.in_ok-step.ensures.stepped c.last.ensures
    c.in-Some.entry.now (ap option_copied c.in-Some.is) c.in_ok-step.ensures.stands in
    one_by (record_applied c.in-Some.entry.now) (applied (entries_in c.args.world.now)) (applied (entries_in c.step.new.self)) adds.more

pub returns-in_err-keep-clause-crash : goal.returns-in_err-keep-clause-crash
returns-in_err-keep-clause-crash g c =
    let shape = c.args.program.now.code.shape in
    let before = applied (entries_in c.args.world.now) in
    let adds = step_adds c.args.program.now c.args.step c.in_ok-step.field-0 c.args.world.now c.step.new.self (option_copied c.last.result) c.if-not-branch.false c.in_ok-step.ensures.stepped c.last.ensures
    c.in-Some.entry.now (ap option_copied c.in-Some.is) c.in_ok-step.ensures.stands in
    subst (λ after. CrashLeaves (ReopensEither shape before after) (g.D.Disk.file c.args.disk.now) (g.D.Disk.file c.keep_entry.new.disk)) (sym adds.more)
    (c.keep_entry.ensures.crash shape before c.requires.keeps (world_fits c.args.program.now c.args.world.now c.requires.stands)
    (subst (AllFit shape (opening shape)) adds.more (world_fits c.args.program.now c.step.new.self c.in_ok-step.ensures.stands)))

pub returns-clause-keeps : goal.returns-clause-keeps
returns-clause-keeps g c =
    let adds = step_adds c.args.program.now c.args.step c.in_ok-step.field-0 c.args.world.now c.step.new.self (option_copied c.last.result) c.if-not-branch.false c.in_ok-step.ensures.stepped c.last.ensures
    c.in-Some.entry.now (ap option_copied c.in-Some.is) c.in_ok-step.ensures.stands in
    subst (λ records. KeepStands records c.in_ok-keep.keep (g.D.Disk.file c.keep_entry.new.disk)) (sym adds.more)
    (c.in_ok-keep.ensures.added (applied (entries_in c.args.world.now)) c.requires.keeps)

pub returns-clause-one : goal.returns-clause-one
returns-clause-one g c =
    let adds = step_adds c.args.program.now c.args.step c.in_ok-step.field-0 c.args.world.now c.step.new.self (option_copied c.last.result) c.if-not-branch.false c.in_ok-step.ensures.stepped c.last.ensures
    c.in-Some.entry.now (ap option_copied c.in-Some.is) c.in_ok-step.ensures.stands in
    one_by (record_applied c.in-Some.entry.now) (applied (entries_in c.args.world.now)) (applied (entries_in c.step.new.self)) adds.more

pub returns-clause-crash : goal.returns-clause-crash
returns-clause-crash g c =
    let shape = c.args.program.now.code.shape in
    let before = applied (entries_in c.args.world.now) in
    let adds = step_adds c.args.program.now c.args.step c.in_ok-step.field-0 c.args.world.now c.step.new.self (option_copied c.last.result) c.if-not-branch.false c.in_ok-step.ensures.stepped c.last.ensures
    c.in-Some.entry.now (ap option_copied c.in-Some.is) c.in_ok-step.ensures.stands in
    subst (λ after. CrashLeaves (ReopensEither shape before after) (g.D.Disk.file c.args.disk.now) (g.D.Disk.file c.keep_entry.new.disk)) (sym adds.more)
    (c.keep_entry.ensures.crash shape before c.requires.keeps (world_fits c.args.program.now c.args.world.now c.requires.stands)
    (subst (AllFit shape (opening shape)) adds.more (world_fits c.args.program.now c.step.new.self c.in_ok-step.ensures.stands)))
