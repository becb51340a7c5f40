use Rattle.std.proofs.Common.{◌≡◌, ℕ, Bool, true, false, List, [], ◌∷◌, refl, cond, sym, ◌∙◌}
use Rattle.std.specs.Str.{bytes_eq}
use Rattle.std.proofs.lemmas.Slice.Eq.{bytes_eq-Decides}
use Rattle.dso_io.specs.Environment.{Told, Holds, replaced}
use Rattle.dso_io.specs.Memory.{file_of}
use Rattle.dso_io.proofs.mem_files.MemFilesFiles.write.Goals as goal

-- a file in memory is never untold
replaced-cond : (b : Bool) (x y : List ℕ) (other : Told) → replaced other y ≡ Holds y → replaced (cond b (Holds x) other) y ≡ Holds y
replaced-cond true x y other same = refl
replaced-cond false x y other same = same

replaced-file_of : (files : List (List ℕ × List ℕ)) (name bytes : List ℕ) → replaced (file_of files name) bytes ≡ Holds bytes
replaced-file_of [] name bytes = refl
replaced-file_of (file ∷ files) name bytes = replaced-cond (bytes_eq file.0 name) file.1 bytes (file_of files name) (replaced-file_of files name bytes)

-- what was written last under a name is its file
file_of-first : (files : List (List ℕ × List ℕ)) (name bytes : List ℕ) → file_of ((name, bytes) ∷ files) name ≡ Holds bytes
file_of-first files name bytes = let same : bytes_eq name name ≡ true = (bytes_eq-Decides name name).1 refl in rw same refl

pub returns-clause-written : goal.returns-clause-written
returns-clause-written c =
    rw c.in_ok-add.ensures.ok
    (file_of-first c.is_to_fail.new.self.kept c.args.name.now c.args.bytes.now ∙ sym (replaced-file_of c.args.self.now.kept c.args.name.now c.args.bytes.now))
