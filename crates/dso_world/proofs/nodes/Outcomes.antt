-- What follows where a call answered Ok, of two clauses of it.
use Rattle.std.proofs.Common.{Result, Ok, Err}
use Rattle.std.specs.Prelude.{IfOk, OnOk}

pub both_ok : {A E : Type 0} (r : Result A E) (P : A → Type 0) (H : Type 0) (Q : A → Type 0) → ((x : A) → P x → H → Q x) → IfOk r P → OnOk r H → IfOk r Q
both_ok (Ok x) P H Q then p h = then x p h
both_ok (Err e) P H Q then p h = tt
