use Rattle.std.proofs.Common.{List, ℕ, [], ◌∷◌}
use Rattle.dso_keep.specs.Disk.{Synced}
use Rattle.dso_keep.specs.Records.{HoldsRecords}
use Rattle.dso_keep.proofs.crash.Moments.{starts, calls_on, writes_on}
use Rattle.dso_keep.proofs.crash.Creating.{before_first, in_first, in_first_sync}
use Rattle.dso_keep.proofs.keep.write_first.Goals as goal

pub returns-in_err-write_at-clause-crash : goal.returns-in_err-write_at-clause-crash
returns-in_err-write_at-clause-crash g c = λ none.
    let P : List ℕ → Type 0 = λ left. HoldsRecords left [] in
    writes_on P _ _ _ 0 (0 ∷ []) c.write_at.result (starts P _ (before_first (g.D.Disk.file c.args.disk.now) none)) c.write_at.ensures.wrote
    (in_first (g.D.Disk.file c.args.disk.now) none)

pub returns-clause-crash : goal.returns-clause-crash
returns-clause-crash g c = λ none.
    let P : List ℕ → Type 0 = λ left. HoldsRecords left [] in
    let write = writes_on P _ _ _ 0 (0 ∷ []) c.write_at.result (starts P _ (before_first (g.D.Disk.file c.args.disk.now) none)) c.write_at.ensures.wrote
    (in_first (g.D.Disk.file c.args.disk.now) none) in
    calls_on P _ _ _ Synced c.sync.result write c.sync.ensures.synced
    (rw c.in_ok-write_at.ensures.wrote (in_first_sync (g.D.Disk.file c.args.disk.now) none))
