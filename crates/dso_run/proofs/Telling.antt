-- What was told of a run, by what was written of its text, and what became of the files.
use Rattle.std.proofs.Common.{◌≡◌, ◌≢◌, refl, sym, ap, subst, Bool, true, false, ℕ, List, Option, Some, None, Result, Ok, Err, OnErr}
use Rattle.std.specs.Str.{bytes_eq}
use Rattle.std.proofs.lemmas.Slice.Eq.{bytes_eq-Decides}
use Rattle.dso_io.specs.Environment.{Told}
use Rattle.dso_run.specs.Files.{AreAsBefore, IsWritten}

-- a file that is as before, and all others that are, are all files
pub all_as_before : (before after : List ℕ → Told) (file : List ℕ) → after file ≡ before file
    → ((other : List ℕ) → other ≢ file → after other ≡ before other) → AreAsBefore before after
all_as_before before after file same others name = by (bytes_eq name file) refl
  where
    by : (is : Bool) → bytes_eq name file ≡ is → after name ≡ before name
    by true is =
        let at : name ≡ file = (bytes_eq-Decides name file).0 is in
        subst (λ n. after n ≡ before n) (sym at) same
    by false is = others name (λ at. let both : bytes_eq name file ≡ true = (bytes_eq-Decides name file).1 at in cc (both, is))

-- so where a write failed, which leaves its file as before, all files are
pub as_before_if_err : {A E : Type 0} (result : Result A E) (before after : List ℕ → Told) (file : List ℕ) → OnErr result (after file ≡ before file)
    → ((other : List ℕ) → other ≢ file → after other ≡ before other) → OnErr result (AreAsBefore before after)
as_before_if_err (Ok a) before after file same others = same
as_before_if_err (Err e) before after file same others = all_as_before before after file same others

-- a file that isn't the one that was written is as before
pub elsewhere : (file : Option (List ℕ)) (bytes : List ℕ) (before after : List ℕ → Told) → IsWritten file bytes before after → (name : List ℕ) → file ≢ Some name → after name ≡ before name
elsewhere None bytes before after is name differs = is name
elsewhere (Some file) bytes before after is name differs = is.1 name (λ same. differs (ap Some (sym same)))
