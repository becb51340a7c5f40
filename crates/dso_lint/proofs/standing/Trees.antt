-- What stands in an expression or a statement, by its form.
use Rattle.std.proofs.Common.{◌≡◌, ◌⊎◌, inl, inr, refl, ℕ, arith, List, [], ◌∷◌, sym, subst, ap, ◌∙◌}
use Rattle.std.specs.Prelude.{Contains, Option, None, Some}
use Rattle.std.specs.Option.{option_to_list}
use Rattle.std.proofs.lemmas.List.Elements.{Contains-push, Contains-push_cases, Contains-append_cases, Contains-append_left, Contains-append_right}
use Rattle.dso_base.specs.declared.lock.Grade.{Grade}
use Rattle.dso_base.specs.declared.op.Op.{Op}
use Rattle.dso_base.specs.declared.value.Kind.{Kind}
use Rattle.dso_base.specs.declared.value.Value.{Value}
use Rattle.dso_machine.specs.declared.tree.FieldRef.{FieldRef}
use Rattle.dso_machine.specs.declared.tree.Expr.{Expr, Expr-F, out-Expr, out-roll-Expr}
use Rattle.dso_machine.specs.declared.tree.Expr.TheOpen as ef
use Rattle.dso_machine.specs.declared.tree.Expr.TheVariants as x
use Rattle.dso_machine.specs.declared.tree.Stmt.{Stmt, out-roll-Stmt}
use Rattle.dso_machine.specs.declared.tree.Stmt.TheOpen as sf
use Rattle.dso_machine.specs.declared.tree.Stmt.TheVariants as s
use Rattle.dso_lint.specs.Trees.{operands_in, operands, IsPart, itself, of_operand, evaluated_in, evaluated, blocks_in, blocks, StandsIn, here, deeper, Evaluates}

-- ---- short lists

module _ {X : Type 0} where
  pub head_there : (x : X) (rest : List X) → Contains (x ∷ rest) x
  head_there x rest = Contains-append_left (x ∷ []) rest x (Contains-push [] x)

  pub later_there : (x : X) (rest : List X) (y : X) → Contains rest y → Contains (x ∷ rest) y
  later_there x rest y there = Contains-append_right (x ∷ []) rest y there

  pub none_there : (y : X) → Contains [] y → ⊥
  none_there y there = absurd (omega (arith, there.1))

  pub cons_cases : (x : X) (rest : List X) (y : X) → Contains (x ∷ rest) y → (x ≡ y) ⊎ Contains rest y
  cons_cases x rest y there = by (Contains-append_cases (x ∷ []) rest y there)
    where
      first : Contains [] y ⊎ (x ≡ y) → (x ≡ y) ⊎ Contains rest y
      first (inl nowhere) = absurd (none_there y nowhere)
      first (inr is) = inl is

      by : Contains (x ∷ []) y ⊎ Contains rest y → (x ≡ y) ⊎ Contains rest y
      by (inl one) = first (Contains-push_cases [] x y one)
      by (inr more) = inr more

-- something of a list is so
abbrev pub Some_of : {X : Type 0} → (X → Type 0) → List X → Type 0
Some_of {X} P list = (x : X) × Contains list x × P x

module _ {X : Type 0} (P : X → Type 0) where
  pub of_head : (x : X) (rest : List X) → P x → Some_of P (x ∷ rest)
  of_head x rest is = (x, head_there x rest, is)

  pub of_rest : (x : X) (rest : List X) → Some_of P rest → Some_of P (x ∷ rest)
  of_rest x rest one = (one.0, later_there x rest one.0 one.1, one.2)

  pub of_none : Some_of P [] → ⊥
  of_none one = none_there one.0 one.1

  pub of_cons : (x : X) (rest : List X) → Some_of P (x ∷ rest) → P x ⊎ Some_of P rest
  of_cons x rest one = by (cons_cases x rest one.0 one.1)
    where
      by : (x ≡ one.0) ⊎ Contains rest one.0 → P x ⊎ Some_of P rest
      by (inl same) = inl (subst P (sym same) one.2)
      by (inr more) = inr (one.0, more, one.2)

-- ---- expressions

pub out_Const : (v : Value) → operands (x.Const v) ≡ []
out_Const v = ap operands (sym (x.rolls-Const v)) ∙ ap operands_in (out-roll-Expr (ef.Const v))

pub out_Var : (i : ℕ) → operands (x.Var i) ≡ []
out_Var i = ap operands (sym (x.rolls-Var i)) ∙ ap operands_in (out-roll-Expr (ef.Var i))

pub out_This : operands x.This ≡ []
out_This = ap operands (sym x.rolls-This) ∙ ap operands_in (out-roll-Expr ef.This)

pub out_Root : (r : ℕ) → operands (x.Root r) ≡ []
out_Root r = ap operands (sym (x.rolls-Root r)) ∙ ap operands_in (out-roll-Expr (ef.Root r))

pub out_Field : (a : Expr) (f : FieldRef) → operands (x.Field a f) ≡ a ∷ []
out_Field a f = ap operands (sym (x.rolls-Field a f)) ∙ ap operands_in (out-roll-Expr (ef.Field a f))

pub out_Elem : (a b : Expr) → operands (x.Elem a b) ≡ a ∷ b ∷ []
out_Elem a b = ap operands (sym (x.rolls-Elem a b)) ∙ ap operands_in (out-roll-Expr (ef.Elem a b))

pub out_Call : (a : Expr) (callees : List (ℕ × ℕ)) (args : List Expr) → operands (x.Call a callees args) ≡ a ∷ args
out_Call a callees args = ap operands (sym (x.rolls-Call a callees args)) ∙ ap operands_in (out-roll-Expr (ef.Call a callees args))

pub out_NewObject : (class : ℕ) → operands (x.NewObject class) ≡ []
out_NewObject class = ap operands (sym (x.rolls-NewObject class)) ∙ ap operands_in (out-roll-Expr (ef.NewObject class))

pub out_NewArray : (k : Kind) (a : Expr) → operands (x.NewArray k a) ≡ a ∷ []
out_NewArray k a = ap operands (sym (x.rolls-NewArray k a)) ∙ ap operands_in (out-roll-Expr (ef.NewArray k a))

pub out_Unary : (o : Op) (a : Expr) → operands (x.Unary o a) ≡ a ∷ []
out_Unary o a = ap operands (sym (x.rolls-Unary o a)) ∙ ap operands_in (out-roll-Expr (ef.Unary o a))

pub out_Binary : (o : Op) (a b : Expr) → operands (x.Binary o a b) ≡ a ∷ b ∷ []
out_Binary o a b = ap operands (sym (x.rolls-Binary o a b)) ∙ ap operands_in (out-roll-Expr (ef.Binary o a b))

-- a call has one receiver and one list of methods
abbrev called : Expr-F Expr → Option (Expr × List (ℕ × ℕ))
called (ef.Call a callees args) = Some (a, callees)
called other = None

pub call_same : (a b : Expr) (cs ds : List (ℕ × ℕ)) (xs ys : List Expr) → x.Call a cs xs ≡ x.Call b ds ys → (a ≡ b) × (cs ≡ ds)
call_same a b cs ds xs ys is =
    let out : out-Expr (x.Call a cs xs) ≡ ef.Call a cs xs = ap out-Expr (sym (x.rolls-Call a cs xs)) ∙ out-roll-Expr (ef.Call a cs xs) in
    let other : out-Expr (x.Call b ds ys) ≡ ef.Call b ds ys = ap out-Expr (sym (x.rolls-Call b ds ys)) ∙ out-roll-Expr (ef.Call b ds ys) in
    let both : called (ef.Call a cs xs) ≡ called (ef.Call b ds ys) = ap called (sym out ∙ ap out-Expr is ∙ other) in
    let first : Expr × List (ℕ × ℕ) = (a, cs) in
    let second : Expr × List (ℕ × ℕ) = (b, ds) in
    let same : first ≡ second = cc both in
    (ap (λ (p : Expr × List (ℕ × ℕ)). p.0) same, ap (λ (p : Expr × List (ℕ × ℕ)). p.1) same)

-- what stands in an expression is the expression, or stands in an operand
pub part_cases : (e whole : Expr) → IsPart e whole → (whole ≡ e) ⊎ Some_of (IsPart e) (operands whole)
part_cases e whole itself = inl refl
part_cases e whole (of_operand {operand = operand} has part) = inr (operand, has, part)

pub part_whole : (e whole : Expr) → whole ≡ e → IsPart e whole
part_whole e whole same = subst (IsPart e) (sym same) itself

pub part_operand : (e whole : Expr) → Some_of (IsPart e) (operands whole) → IsPart e whole
part_operand e whole one = of_operand one.1 one.2

-- ---- statements

pub does_Assign : (i : ℕ) (a : Expr) → evaluated (s.Assign i a) ≡ a ∷ []
does_Assign i a = ap evaluated (sym (s.rolls-Assign i a)) ∙ ap evaluated_in (out-roll-Stmt (sf.Assign i a))

pub does_PutField : (a : Expr) (f : FieldRef) (b : Expr) → evaluated (s.PutField a f b) ≡ a ∷ b ∷ []
does_PutField a f b = ap evaluated (sym (s.rolls-PutField a f b)) ∙ ap evaluated_in (out-roll-Stmt (sf.PutField a f b))

pub does_PutElem : (a b c : Expr) → evaluated (s.PutElem a b c) ≡ a ∷ b ∷ c ∷ []
does_PutElem a b c = ap evaluated (sym (s.rolls-PutElem a b c)) ∙ ap evaluated_in (out-roll-Stmt (sf.PutElem a b c))

pub does_PutRoot : (r : ℕ) (a : Expr) → evaluated (s.PutRoot r a) ≡ a ∷ []
does_PutRoot r a = ap evaluated (sym (s.rolls-PutRoot r a)) ∙ ap evaluated_in (out-roll-Stmt (sf.PutRoot r a))

pub does_Eval : (a : Expr) → evaluated (s.Eval a) ≡ a ∷ []
does_Eval a = ap evaluated (sym (s.rolls-Eval a)) ∙ ap evaluated_in (out-roll-Stmt (sf.Eval a))

pub does_If : (a : Expr) (all others : List Stmt) → evaluated (s.If a all others) ≡ a ∷ []
does_If a all others = ap evaluated (sym (s.rolls-If a all others)) ∙ ap evaluated_in (out-roll-Stmt (sf.If a all others))

pub does_While : (a : Expr) (all : List Stmt) → evaluated (s.While a all) ≡ a ∷ []
does_While a all = ap evaluated (sym (s.rolls-While a all)) ∙ ap evaluated_in (out-roll-Stmt (sf.While a all))

pub does_Sync : (a : Expr) (grade : Grade) (all : List Stmt) → evaluated (s.Sync a grade all) ≡ a ∷ []
does_Sync a grade all = ap evaluated (sym (s.rolls-Sync a grade all)) ∙ ap evaluated_in (out-roll-Stmt (sf.Sync a grade all))

pub does_Wait : (a : Expr) → evaluated (s.Wait a) ≡ a ∷ []
does_Wait a = ap evaluated (sym (s.rolls-Wait a)) ∙ ap evaluated_in (out-roll-Stmt (sf.Wait a))

pub does_TimedWait : (a b : Expr) → evaluated (s.TimedWait a b) ≡ a ∷ b ∷ []
does_TimedWait a b = ap evaluated (sym (s.rolls-TimedWait a b)) ∙ ap evaluated_in (out-roll-Stmt (sf.TimedWait a b))

pub does_Notify : (a : Expr) → evaluated (s.Notify a) ≡ a ∷ []
does_Notify a = ap evaluated (sym (s.rolls-Notify a)) ∙ ap evaluated_in (out-roll-Stmt (sf.Notify a))

pub does_NotifyAll : (a : Expr) → evaluated (s.NotifyAll a) ≡ a ∷ []
does_NotifyAll a = ap evaluated (sym (s.rolls-NotifyAll a)) ∙ ap evaluated_in (out-roll-Stmt (sf.NotifyAll a))

pub does_Print : (a : Expr) → evaluated (s.Print a) ≡ a ∷ []
does_Print a = ap evaluated (sym (s.rolls-Print a)) ∙ ap evaluated_in (out-roll-Stmt (sf.Print a))

pub does_Leave : evaluated (s.Return None) ≡ []
does_Leave = ap evaluated (sym (s.rolls-Return None)) ∙ ap evaluated_in (out-roll-Stmt (sf.Return None))

pub does_Return : (a : Expr) → evaluated (s.Return (Some a)) ≡ a ∷ []
does_Return a = ap evaluated (sym (s.rolls-Return (Some a))) ∙ ap evaluated_in (out-roll-Stmt (sf.Return (Some a)))

pub does_Returned : (a : Option Expr) → evaluated (s.Return a) ≡ option_to_list a
does_Returned None = does_Leave
does_Returned (Some a) = does_Return a

-- what a statement evaluates stands in one of its own expressions
pub evaluates_cases : (a : Stmt) (e : Expr) → Evaluates a e → Some_of (IsPart e) (evaluated a)
evaluates_cases a e is = (is.whole, is.evaluates, is.is_part)

pub evaluates_one : (a : Stmt) (e : Expr) → Some_of (IsPart e) (evaluated a) → Evaluates a e
evaluates_one a e one = record { whole = one.0; evaluates = one.1; is_part = one.2 }

-- ---- blocks

pub has_If : (a : Expr) (all others : List Stmt) → blocks (s.If a all others) ≡ all ∷ others ∷ []
has_If a all others = ap blocks (sym (s.rolls-If a all others)) ∙ ap blocks_in (out-roll-Stmt (sf.If a all others))

pub has_While : (a : Expr) (all : List Stmt) → blocks (s.While a all) ≡ all ∷ []
has_While a all = ap blocks (sym (s.rolls-While a all)) ∙ ap blocks_in (out-roll-Stmt (sf.While a all))

pub has_Sync : (a : Expr) (grade : Grade) (all : List Stmt) → blocks (s.Sync a grade all) ≡ all ∷ []
has_Sync a grade all = ap blocks (sym (s.rolls-Sync a grade all)) ∙ ap blocks_in (out-roll-Stmt (sf.Sync a grade all))

pub has_Assign : (i : ℕ) (a : Expr) → blocks (s.Assign i a) ≡ []
has_Assign i a = ap blocks (sym (s.rolls-Assign i a)) ∙ ap blocks_in (out-roll-Stmt (sf.Assign i a))

pub has_PutField : (a : Expr) (f : FieldRef) (b : Expr) → blocks (s.PutField a f b) ≡ []
has_PutField a f b = ap blocks (sym (s.rolls-PutField a f b)) ∙ ap blocks_in (out-roll-Stmt (sf.PutField a f b))

pub has_PutElem : (a b c : Expr) → blocks (s.PutElem a b c) ≡ []
has_PutElem a b c = ap blocks (sym (s.rolls-PutElem a b c)) ∙ ap blocks_in (out-roll-Stmt (sf.PutElem a b c))

pub has_PutRoot : (r : ℕ) (a : Expr) → blocks (s.PutRoot r a) ≡ []
has_PutRoot r a = ap blocks (sym (s.rolls-PutRoot r a)) ∙ ap blocks_in (out-roll-Stmt (sf.PutRoot r a))

pub has_Eval : (a : Expr) → blocks (s.Eval a) ≡ []
has_Eval a = ap blocks (sym (s.rolls-Eval a)) ∙ ap blocks_in (out-roll-Stmt (sf.Eval a))

pub has_Wait : (a : Expr) → blocks (s.Wait a) ≡ []
has_Wait a = ap blocks (sym (s.rolls-Wait a)) ∙ ap blocks_in (out-roll-Stmt (sf.Wait a))

pub has_TimedWait : (a b : Expr) → blocks (s.TimedWait a b) ≡ []
has_TimedWait a b = ap blocks (sym (s.rolls-TimedWait a b)) ∙ ap blocks_in (out-roll-Stmt (sf.TimedWait a b))

pub has_Notify : (a : Expr) → blocks (s.Notify a) ≡ []
has_Notify a = ap blocks (sym (s.rolls-Notify a)) ∙ ap blocks_in (out-roll-Stmt (sf.Notify a))

pub has_NotifyAll : (a : Expr) → blocks (s.NotifyAll a) ≡ []
has_NotifyAll a = ap blocks (sym (s.rolls-NotifyAll a)) ∙ ap blocks_in (out-roll-Stmt (sf.NotifyAll a))

pub has_Print : (a : Expr) → blocks (s.Print a) ≡ []
has_Print a = ap blocks (sym (s.rolls-Print a)) ∙ ap blocks_in (out-roll-Stmt (sf.Print a))

pub has_Return : (a : Option Expr) → blocks (s.Return a) ≡ []
has_Return a = ap blocks (sym (s.rolls-Return a)) ∙ ap blocks_in (out-roll-Stmt (sf.Return a))

-- what stands in a block is one of its statements, or stands in a block of one
abbrev pub InOne : Stmt → Stmt → Type 0
InOne a b = (b ≡ a) ⊎ Some_of (StandsIn a) (blocks b)

pub stands_cases : (a : Stmt) (block : List Stmt) → StandsIn a block → Some_of (InOne a) block
stands_cases a block (here there) = (a, there, inl refl)
stands_cases a block (deeper {inner = inner} {b = b} there has stands) = (b, there, inr (inner, has, stands))

pub stands_one : (a : Stmt) (block : List Stmt) → Some_of (InOne a) block → StandsIn a block
stands_one a block one = by one.2
  where
    by : (one.0 ≡ a) ⊎ Some_of (StandsIn a) (blocks one.0) → StandsIn a block
    by (inl same) = here (subst (Contains block) same one.1)
    by (inr more) = deeper one.1 more.1 more.2
