use Rattle.std.proofs.Common.{◌*◌, ◌≤◌, List, ℕ, Some}
use denote.Text.{Utf8}
use denote.Shadow.{shadow}
use Rattle.dso_base.specs.declared.record.Txn.{Txn}
use Rattle.dso_keep.specs.Keeping.{KeepStands, gate_of}
use Rattle.keep_cases.proofs.stopped.add_all.Given as goal

abbrev pub invariant-loop-before : goal.invariant-loop-before
invariant-loop-before l = record {
  text : shadow (Utf8 l.rest);
  stands : (records : List (ℕ × Txn)) × KeepStands records l.keep (Some l.disk.file);
  gate : gate_of l.keep ≤ 2000 * l._before;
}
