-- The tables of named locks, one more behind the others.
use Rattle.std.proofs.Common.{◌≡◌, ℕ, ◌+◌, arith, List, [], ◌∷◌, ◌++◌, length, sym, ap, ◌∙◌, length-append}
use Rattle.std.proofs.lemmas.List.{get_or_at}
use Rattle.dso_lint.specs.declared.tables.Named.{Named}
use Rattle.dso_lint.specs.Tables.{IsTableOf}

pub table_pushed : (lock place : ℕ) (names : List Named) (named : Named) → named.lock ≡ lock → place ≡ length names → IsTableOf lock place (names ++ named ∷ [])
table_pushed lock place names named is same =
    let long : length (names ++ named ∷ []) ≡ length names + 1 = length-append names (named ∷ []) in
    record {
      there = omega (arith, same, long);
      lock_is = λ d. ap (λ (one : Named). one.lock) (get_or_at names named [] d place (sym same)) ∙ is;
    }
