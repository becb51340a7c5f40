-- Runs of bytes of a class at the front of a text.
use Rattle.std.proofs.Common.{◌≡◌, ℕ, ◌+◌, ◌≤◌, suc, Bool, true, false, ◌&&◌, cond, [], ◌∷◌, ◌++◌, length, take, drop, refl, sym, subst, arith}
use Rattle.std.specs.List.{list_all, prefix_len}
use Rattle.std.proofs.lemmas.Bool.{false≢true}
use Rattle.dso_tokens.specs.Bytes.{Text, begins}

-- a run of bytes of the class that the rest does not go on
pub record IsRun (p : ℕ → Bool) (text : Text) (count : ℕ) : Type 0 where
  pub passes : list_all p (take count text) ≡ true
  pub stops : begins p (drop count text) ≡ false
  pub within : count ≤ length text

run_step : (p : ℕ → Bool) (b : ℕ) (rest : Text) (test : Bool) → p b ≡ test → IsRun p rest (prefix_len p rest) → IsRun p (b ∷ rest) (cond test (1 + prefix_len p rest) 0)
run_step p b rest true is more =
    let next : 1 + prefix_len p rest ≡ suc (prefix_len p rest) = omega arith in
    let within : prefix_len p rest ≤ length rest = more.within in
    subst (IsRun p (b ∷ rest)) (sym next) (record { passes = rw is more.passes; stops = more.stops; within = omega arith })
run_step p b rest false is more = record { passes = refl; stops = is; within = omega arith }

-- what is counted at the front is a run
pub run_found : (p : ℕ → Bool) (text : Text) → IsRun p text (prefix_len p text)
run_found p [] = record { passes = refl; stops = refl; within = omega arith }
run_found p (b ∷ rest) = run_step p b rest (p b) refl (run_found p rest)

-- the two parts of a conjunction that holds
pub first_holds : (a b : Bool) → (a && b) ≡ true → a ≡ true
first_holds true b both = refl
first_holds false b both = both

pub second_holds : (a b : Bool) → (a && b) ≡ true → b ≡ true
second_holds true b both = both
second_holds false b both = absurd (false≢true both)

none_at : (p : ℕ → Bool) (rest : Text) → begins p rest ≡ false → prefix_len p rest ≡ 0
none_at p [] stops = refl
none_at p (b ∷ rest) stops = rw stops refl

-- a run before what does not go on with it is what is counted
pub run_is : (p : ℕ → Bool) (word rest : Text) → list_all p word ≡ true → begins p rest ≡ false → prefix_len p (word ++ rest) ≡ length word
run_is p [] rest passes stops = none_at p rest stops
run_is p (b ∷ word) rest passes stops =
    let more : prefix_len p (word ++ rest) ≡ length word = run_is p word rest (second_holds (p b) (list_all p word) passes) stops in
    rw (first_holds (p b) (list_all p word) passes) (omega arith)
