-- How many of the failed reads were of a file, once one more is noted.
use Rattle.std.proofs.Common.{arith, ◌≡◌, ◌≢◌, ◌∙◌, ◌≤◌, ◌+◌, ℕ, Bool, true, false, List, ◌∷◌, Err, refl, cond, inl, sym, ap}
use Rattle.std.specs.Str.{bytes_eq}
use Rattle.std.proofs.lemmas.List.Sums.{sum_by-cons}
use Rattle.std.proofs.lemmas.Slice.Eq.{bytes_eq-Decides}
use Rattle.dso_io.specs.declared.environment.FileFault.{FileFault}
use Rattle.dso_io.specs.declared.environment.FileFault.TheVariants.{Failed, NoMemory}
use Rattle.dso_io.specs.Environment.{Rose, faults_of, noted_after}

-- a name that is noted counts for the file of that name, and for no other
module _ (names : List (List ℕ)) (name : List ℕ) where
  noted : (other : List ℕ) → faults_of (name ∷ names) other ≡ cond (bytes_eq name other) 1 0 + faults_of names other
  noted other = sum_by-cons (λ failed. cond (bytes_eq failed other) 1 0) name names

  noted_by : (other : List ℕ) (is : Bool) → bytes_eq name other ≡ is → faults_of (name ∷ names) other ≡ cond is 1 0 + faults_of names other
  noted_by other is same = noted other ∙ ap (λ b. cond b 1 0 + faults_of names other) same

  as_many : (other : List ℕ) → other ≢ name → (is : Bool) → bytes_eq name other ≡ is → faults_of (name ∷ names) other ≡ faults_of names other
  as_many other differs true is = absurd (differs (sym ((bytes_eq-Decides name other).0 is)))
  as_many other differs false is = let none = noted_by other false is in omega (arith, none)

  no_less : (other : List ℕ) (is : Bool) → bytes_eq name other ≡ is → faults_of names other ≤ faults_of (name ∷ names) other
  no_less other true is = let more = noted_by other true is in omega (arith, more)
  no_less other false is = let none = noted_by other false is in omega (arith, none)

  pub noted_rose : (fault : FileFault) → fault ≡ Failed → Rose (faults_of names name) (faults_of (noted_after {A = ℕ} names name (Err fault)) name)
  noted_rose Failed is = let more = noted_by name true ((bytes_eq-Decides name name).1 refl) in inl (omega (arith, more))
  noted_rose (NoMemory refusal) is = absurd (cc is)

  pub noted_no_less : (fault : FileFault) (other : List ℕ) → faults_of names other ≤ faults_of (noted_after {A = ℕ} names name (Err fault)) other
  noted_no_less Failed other = no_less other (bytes_eq name other) refl
  noted_no_less (NoMemory refusal) other = omega arith

  pub noted_others : (fault : FileFault) (other : List ℕ) → other ≢ name → faults_of (noted_after {A = ℕ} names name (Err fault)) other ≡ faults_of names other
  noted_others Failed other differs = as_many other differs (bytes_eq name other) refl
  noted_others (NoMemory refusal) other differs = refl
