use Rattle.std.proofs.Common.{◌+◌, ◌≤◌, length, vec_len, vec_capacity}
use Rattle.dso_keep.proofs.recording.Marks.{IsRepeated}
use Rattle.dso_keep.proofs.tape.played.Given as goal

abbrev pub invariant-loop-place : goal.invariant-loop-place
invariant-loop-place l = record {
  repeated : IsRepeated l.first l.marks l.written l.place l.used l.bytes.items;
  longer : vec_len l.bytes ≤ length l.first + l.used;
  room : length l.first + length l.written ≤ vec_capacity l.bytes;
}
