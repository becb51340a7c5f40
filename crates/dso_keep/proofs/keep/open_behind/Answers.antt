use Rattle.std.proofs.Common.{◌+◌, ◌++◌, [], ◌∷◌, length-append, sym, ◌∙◌, ap, subst, arith}
use Rattle.dso_keep.specs.Disk.{Synced, changed}
use Rattle.dso_keep.specs.Packets.{IsKept, IsStaged}
use Rattle.dso_keep.proofs.crash.Moments.{starts, calls_on, writes_on}
use Rattle.dso_keep.proofs.crash.Opening.{at_start, in_write, in_sync, synced, in_gate, in_last, opened_if_ok, within}
use Rattle.dso_keep.proofs.keep.open_behind.Goals as goal

pub write_at-requires : goal.write_at-requires
write_at-requires g c =
    let kept = c.requires.kept in
    within kept.0 c.args.gate kept.1 (c.args.gate + 1) (kept.0 ++ 0 ∷ []) (g.D.Disk.file c.args.disk.now) kept.2 (omega (arith, kept.1, length-append kept.0 (0 ∷ [])))

pub write_at-requires-2 : goal.write_at-requires-2
write_at-requires-2 g c =
    let kept = c.requires.kept in
    let made = c.in_ok-sync.ensures.synced ∙ ap (changed Synced) c.in_ok-write_at.ensures.wrote in
    within kept.0 c.args.gate kept.1 c.args.gate (kept.0 ++ 0 ∷ c.args.bytes.now) (g.D.Disk.file c.sync.new.self)
    (subst (IsKept (kept.0 ++ 0 ∷ c.args.bytes.now)) (sym made) (synced kept.0 c.args.gate kept.1 c.args.bytes.now (g.D.Disk.file c.args.disk.now) kept.2))
    (omega (arith, kept.1, length-append kept.0 (0 ∷ c.args.bytes.now)))

pub returns-in_err-write_at-clause-crash : goal.returns-in_err-write_at-clause-crash
returns-in_err-write_at-clause-crash g c = λ front is_at kept.
    let P = IsStaged front c.args.bytes.now in
    let start = starts P (g.D.Disk.file c.args.disk.now) (at_start front c.args.gate is_at c.args.bytes.now (g.D.Disk.file c.args.disk.now) kept) in
    writes_on P _ _ _ (c.args.gate + 1) c.args.bytes.now c.write_at.result start c.write_at.ensures.wrote
    (in_write front c.args.gate is_at c.args.bytes.now (g.D.Disk.file c.args.disk.now) kept)

pub returns-in_err-sync-clause-crash : goal.returns-in_err-sync-clause-crash
returns-in_err-sync-clause-crash g c = λ front is_at kept.
    let P = IsStaged front c.args.bytes.now in
    let start = starts P (g.D.Disk.file c.args.disk.now) (at_start front c.args.gate is_at c.args.bytes.now (g.D.Disk.file c.args.disk.now) kept) in
    let write = writes_on P _ _ _ (c.args.gate + 1) c.args.bytes.now c.write_at.result start c.write_at.ensures.wrote
    (in_write front c.args.gate is_at c.args.bytes.now (g.D.Disk.file c.args.disk.now) kept) in
    calls_on P _ _ _ Synced c.sync.result write c.sync.ensures.synced
    (rw c.in_ok-write_at.ensures.wrote (in_sync front c.args.gate is_at c.args.bytes.now (g.D.Disk.file c.args.disk.now) kept))

pub returns-in_err-write_at-2-clause-crash : goal.returns-in_err-write_at-2-clause-crash
returns-in_err-write_at-2-clause-crash g c = λ front is_at kept.
    let P = IsStaged front c.args.bytes.now in
    let start = starts P (g.D.Disk.file c.args.disk.now) (at_start front c.args.gate is_at c.args.bytes.now (g.D.Disk.file c.args.disk.now) kept) in
    let write = writes_on P _ _ _ (c.args.gate + 1) c.args.bytes.now c.write_at.result start c.write_at.ensures.wrote
    (in_write front c.args.gate is_at c.args.bytes.now (g.D.Disk.file c.args.disk.now) kept) in
    let sync = calls_on P _ _ _ Synced c.sync.result write c.sync.ensures.synced
    (rw c.in_ok-write_at.ensures.wrote (in_sync front c.args.gate is_at c.args.bytes.now (g.D.Disk.file c.args.disk.now) kept)) in
    let made = c.in_ok-sync.ensures.synced ∙ ap (changed Synced) c.in_ok-write_at.ensures.wrote in
    let staged = subst (IsKept (front ++ 0 ∷ c.args.bytes.now)) (sym made) (synced front c.args.gate is_at c.args.bytes.now (g.D.Disk.file c.args.disk.now) kept) in
    writes_on P _ _ _ c.args.gate (1 ∷ []) c.write_at-2.result sync c.write_at-2.ensures.wrote
    (in_gate front c.args.gate is_at c.args.bytes.now (g.D.Disk.file c.sync.new.self) staged)

pub returns-clause-crash : goal.returns-clause-crash
returns-clause-crash g c = λ front is_at kept.
    let P = IsStaged front c.args.bytes.now in
    let start = starts P (g.D.Disk.file c.args.disk.now) (at_start front c.args.gate is_at c.args.bytes.now (g.D.Disk.file c.args.disk.now) kept) in
    let write = writes_on P _ _ _ (c.args.gate + 1) c.args.bytes.now c.write_at.result start c.write_at.ensures.wrote
    (in_write front c.args.gate is_at c.args.bytes.now (g.D.Disk.file c.args.disk.now) kept) in
    let sync = calls_on P _ _ _ Synced c.sync.result write c.sync.ensures.synced
    (rw c.in_ok-write_at.ensures.wrote (in_sync front c.args.gate is_at c.args.bytes.now (g.D.Disk.file c.args.disk.now) kept)) in
    let made = c.in_ok-sync.ensures.synced ∙ ap (changed Synced) c.in_ok-write_at.ensures.wrote in
    let staged = subst (IsKept (front ++ 0 ∷ c.args.bytes.now)) (sym made) (synced front c.args.gate is_at c.args.bytes.now (g.D.Disk.file c.args.disk.now) kept) in
    let gate = writes_on P _ _ _ c.args.gate (1 ∷ []) c.write_at-2.result sync c.write_at-2.ensures.wrote
    (in_gate front c.args.gate is_at c.args.bytes.now (g.D.Disk.file c.sync.new.self) staged) in
    calls_on P _ _ _ Synced c.sync-2.result gate c.sync-2.ensures.synced
    (rw c.in_ok-write_at-2.ensures.wrote (in_last front c.args.gate is_at c.args.bytes.now (g.D.Disk.file c.sync.new.self) staged))

pub returns-clause-opened : goal.returns-clause-opened
returns-clause-opened g c = λ front is_at kept.
    let made = c.in_ok-sync.ensures.synced ∙ ap (changed Synced) c.in_ok-write_at.ensures.wrote in
    let staged = subst (IsKept (front ++ 0 ∷ c.args.bytes.now)) (sym made) (synced front c.args.gate is_at c.args.bytes.now (g.D.Disk.file c.args.disk.now) kept) in
    opened_if_ok front c.args.gate is_at c.args.bytes.now (g.D.Disk.file c.sync.new.self) (g.D.Disk.file c.write_at-2.new.self) (g.D.Disk.file c.sync-2.new.self) c.sync-2.result staged
    c.in_ok-write_at-2.ensures.wrote c.sync-2.ensures.synced
