use Rattle.std.proofs.Common.{◌≡◌, drop}
use Rattle.dso_io.specs.Memory.{file_of}
use Rattle.dso_io.specs.MemoryFile.{named_bytes}
use Rattle.dso_io.proofs.mem_files.find.Given as goal

-- what was looked at so far has other names
abbrev pub invariant-loop-file : goal.invariant-loop-file
invariant-loop-file l = file_of (named_bytes l.files) l.name ≡ file_of (named_bytes (drop l.file-index l.files)) l.name
