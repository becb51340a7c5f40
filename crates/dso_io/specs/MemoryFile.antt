-- A file in memory as its name and its bytes.
use Rattle.std.specs.Prelude.{ℕ, List, map}
use Rattle.dso_io.specs.declared.mem_files.MemFile.{MemFile}

-- the files as names with bytes
abbrev pub named_bytes : List MemFile → List (List ℕ × List ℕ)
named_bytes files = map (λ file. (file.name.items, file.bytes.items)) files
