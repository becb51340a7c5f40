-- How what is told of mentions composes: in front, behind, of one mention alone; and what is told where a name is refused.
use Rattle.std.proofs.Common.{◌≡◌, ℕ, List, [], ◌∷◌, ◌++◌, sym, subst, Result, Ok, Err, IsErr, IsErrAnd}
use Rattle.dso_syntax.specs.declared.tree.Ident.{Ident}
use Rattle.dso_syntax.specs.declared.tree.StmtTree.{StmtTree}
use Rattle.dso_class.specs.declared.fault.NameFault.{NameFault}
use Rattle.dso_class.specs.declared.fault.NameFault.TheVariants as fault
use Rattle.dso_class.specs.declared.fault.NameKind.{NameKind}
use Rattle.dso_class.specs.declared.fault.What.{What}
use Rattle.dso_config_entries.specs.Words.{Word}
use Rattle.dso_class.specs.Mentions.{Mention, Mentioned, Owner, on, body}
use Rattle.dso_class.specs.FaultsAmong.{behind, IsFault, AreFine}
use Rattle.dso_class.specs.TextProgram.{Source}
use Rattle.dso_class.specs.TextWalk.{IsToldOf, Gives, AnswersBody}
use Rattle.dso_class.specs.Heads.{IsRefused, twice, many, no_memory}
use Rattle.dso_class.proofs.rules.Composing.{fault_in_front, fault_behind, fault_alone}
use Rattle.dso_class.proofs.rules.OfDeclarations.{IsDeclared, declared_twice, declared_many}

module _ (source : Source) where
  -- what is told of the front is told of the whole
  pub told_front : (before xs ys : List Mention) (e : NameFault) → IsToldOf source before xs e → IsToldOf source before (xs ++ ys) e
  told_front before xs ys (fault.NoMemory refusal) told = tt
  told_front before xs ys (fault.At kind line) told = fault_in_front source.config source.ast before xs ys kind line told

  -- behind mentions that are fine, what is told of the rest is told of the whole
  pub told_behind : (before xs ys : List Mention) (e : NameFault) → AreFine source.config source.ast before xs → IsToldOf source (behind before xs) ys e → IsToldOf source before (xs ++ ys) e
  told_behind before xs ys (fault.NoMemory refusal) fine told = tt
  told_behind before xs ys (fault.At kind line) fine told = fault_behind source.config source.ast before xs ys kind line fine told

  -- what is told of one mention alone
  pub told_alone : (before : List Mention) (line : ℕ) (here : Mentioned) (kind : NameKind) → IsFault source.config source.ast before here kind → IsToldOf source before (on line here ∷ []) (fault.At kind line)
  told_alone before line here kind broken = fault_alone source.config source.ast before line here kind broken

  -- what is told where a name is refused
  pub told_refused : (before : List Mention) (line : ℕ) (here : Mentioned) {Taken Full : Type 0} {sort : What} (e : NameFault) → IsDeclared source.config source.ast before here Taken Full sort
      → IsRefused Taken Full sort line e → IsToldOf source before (on line here ∷ []) e
  told_refused before line here _ rules (twice taken) = told_alone before line here _ (declared_twice rules taken)
  told_refused before line here _ rules (many free full) = told_alone before line here _ (declared_many rules free full)
  told_refused before line here _ rules (no_memory refusal) = tt

  -- what is told of a body
  pub told_of_body : (owner : Owner) (before : List Mention) (params : List Ident) (statements : List StmtTree) (texts now : List Word) (e : NameFault)
      → AnswersBody source owner before params statements texts now (Err e) → IsToldOf source before (body owner params statements) e
  told_of_body owner before params statements texts now (fault.NoMemory refusal) told = tt
  told_of_body owner before params statements texts now (fault.At kind line) told = told

  -- an answer that passes a fault on
  pub passed_on : {A : Type 0} (before ms : List Mention) (P : A → Type 0) (result : Result A NameFault) (e : NameFault) → IsErr result × IsErrAnd result (λ told. told ≡ e) → IsToldOf source before ms e
      → Gives source before ms P result
  passed_on before ms P (Ok value) e is told = absurd is.1
  passed_on before ms P (Err other) e is told = subst (IsToldOf source before ms) (sym is.1) told
