-- What a client's entry makes of it, where there was memory.
use Rattle.std.specs.Result.{IfOk, OnOk}
use Rattle.std.proofs.Common.{◌≡◌, sym, subst, Result, Ok, Err}
use Rattle.dso_base.specs.declared.journal.Entry.{Entry}

-- what holds of an entry and of what it makes holds of those that are answered
pub made_ok : {E M : Type 0} (answer : Result Entry E) (entry : Entry) (new after : M) (P : Entry → M → Type 0) → IfOk answer (λ made. made ≡ entry) → OnOk answer (new ≡ after) → P entry after
    → IfOk answer (λ made. P made new)
made_ok (Ok made) entry new after P is now holds = subst (P made) (sym now) (subst (λ entry. P entry after) (sym is) holds)
made_ok (Err none) entry new after P is now holds = tt

-- what holds for each holds for one
pub all_made : {E A : Type 0} (answer : Result Entry E) (P : A → Entry → Type 0) (x : A) → IfOk answer (λ made. (x : A) → P x made) → IfOk answer (λ made. P x made)
all_made (Ok made) P x holds = holds x
all_made (Err none) P x holds = tt

-- and what follows from it
pub then_made : {E : Type 0} (answer : Result Entry E) (P Q : Entry → Type 0) → ((entry : Entry) → P entry → Q entry) → IfOk answer P → IfOk answer Q
then_made (Ok made) P Q then holds = then made holds
then_made (Err none) P Q then holds = tt
