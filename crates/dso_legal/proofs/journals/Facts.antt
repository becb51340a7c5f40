-- Small facts that proofs of journals share.
use Rattle.std.specs.Prelude.{ℕ, suc, ◌≡◌, ◌≢◌, true, Option, Some, None, is_some}
use Rattle.std.proofs.Common.{arith}
use Rattle.dso_base.specs.declared.lock.Level.TheVariants.{Read, Write}
use Rattle.dso_base.specs.declared.value.Kind.{Kind}
use Rattle.dso_base.specs.declared.value.ClassId.TheVariants.{Plain, Array, Roots}

-- what is there isn't None
pub is_there : {X : Type 0} (o : Option X) → is_some o ≡ true → o ≢ None
is_there None h = λ e. cc
is_there (Some x) h = λ e. cc

-- a number after another isn't 0
pub not_zero : {n : ℕ} → suc n ≢ 0
not_zero {n} = λ e. omega arith

-- a class of the program isn't that of the roots
pub isnt_roots : {n : ℕ} → Plain n ≢ Roots
isnt_roots = λ e. cc

-- nor is one of arrays
pub isnt_roots_array : {k : Kind} → Array k ≢ Roots
isnt_roots_array = λ e. cc

-- a lease at Write isn't at Read
pub not_read : {A : Type 0} → Some Write ≡ Some Read → A
not_read {A} e = absurd (let never : Some Write ≢ Some Read = λ h. cc in never e)
