-- What is of the grammar has its operators where they may stand, and its statements fit into the room for levels.
use Rattle.std.proofs.Common.{◌≡◌, ℕ, suc, Bool, true, false, not, ◌&&◌, refl, sym, ap, ◌∙◌, subst, List, [], ◌∷◌, map, Option, Some, None, All}
use Rattle.std.specs.List.{list_all}
use Rattle.std.proofs.lemmas.List.Elements.{All-nil, All-cons, All-append}
use Rattle.std.proofs.lemmas.Option.{none-some, same_Some}
use Rattle.dso_base.specs.declared.op.Op.{Op}
use Rattle.dso_tokens.specs.declared.token.Form.{Form}
use Rattle.dso_tokens.specs.declared.token.Form.TheVariants as form
use Rattle.dso_tokens.specs.declared.token.Keyword.{Keyword}
use Rattle.dso_tokens.specs.declared.token.Keyword.TheVariants as k
use Rattle.dso_tokens.specs.declared.token.Mark.{Mark}
use Rattle.dso_tokens.specs.declared.token.Mark.TheVariants as mark
use Rattle.dso_syntax.specs.declared.tree.ExprTree.{ExprTree}
use Rattle.dso_syntax.specs.declared.tree.ExprForm.{ExprForm}
use Rattle.dso_syntax.specs.declared.tree.ExprForm.TheVariants as e
use Rattle.dso_syntax.specs.declared.tree.Ident.{Ident}
use Rattle.dso_syntax.specs.declared.tree.Item.{Item}
use Rattle.dso_syntax.specs.declared.tree.Member.{Member}
use Rattle.dso_syntax.specs.declared.tree.StmtTree.{StmtTree}
use Rattle.dso_syntax.specs.declared.tree.StmtForm.{StmtForm}
use Rattle.dso_syntax.specs.declared.tree.StmtForm.TheVariants as s
use Rattle.dso_syntax.specs.Grammar as g
use Rattle.dso_syntax.specs.Grammar.{Tokens, expression, line_of, operator_of, sign_of, plain_of, Binary, Unary, Postfix, Primary, Whole, Arguments, Listed}
use Rattle.dso_syntax.specs.ProgramGrammar as p
use Rattle.dso_syntax.specs.ProgramGrammar.{statement, command_of, guarded_of, Parenthesized, Waited, Body, Block, Statement, Conditional, Members, Tops}
use Rattle.dso_syntax.proofs.prefixes.OneLevelMore.{lift_block}
use Rattle.dso_machine.specs.Sound.{is_unary}
use Rattle.dso_config_entries.specs.Words.{Word}
use Rattle.dso_class.specs.Declarations.{MethodTree, ThreadTree, classes_of, methods_of, methods_from, threads_of}
use Rattle.dso_class.proofs.grammar.Operators.{operators_of, operators, fits_of, fits, block_fits, join}
use Rattle.dso_class.proofs.mentions.TreeFolds as folds

-- ---- operators

-- whether what is found before one operand is an operator for one
is_sign : Option Op → Bool
is_sign None = true
is_sign (Some o) = is_unary o

-- whether what is found between two operands is an operator for two
is_between : Option (ℕ × Op) → Bool
is_between None = true
is_between (Some found) = not (is_unary found.1)

-- each sign is an operator for one
signs_fit : (m : Mark) → is_sign (sign_of m) ≡ true
unfolding is_sign
signs_fit mark.Minus = refl
signs_fit mark.Bang = refl
signs_fit other = refl

-- each operator between two is one for two
operators_fit : (m : Mark) → is_between (operator_of m) ≡ true
unfolding is_between
operators_fit mark.Star = refl
operators_fit mark.Slash = refl
operators_fit mark.Percent = refl
operators_fit mark.Plus = refl
operators_fit mark.Minus = refl
operators_fit mark.Less = refl
operators_fit mark.LessEqual = refl
operators_fit mark.Greater = refl
operators_fit mark.GreaterEqual = refl
operators_fit mark.EqualTo = refl
operators_fit mark.NotEqual = refl
operators_fit mark.AndAnd = refl
operators_fit mark.OrOr = refl
operators_fit other = refl

-- the operator of a sign is one for one
sign_fits : (m : Mark) (o : Op) → sign_of m ≡ Some o → is_unary o ≡ true
unfolding is_sign
sign_fits m o is = sym (ap is_sign is) ∙ signs_fit m

-- the operator of a mark between two is one for two
between_fits : (m : Mark) (rank : ℕ) (o : Op) → operator_of m ≡ Some (rank, o) → not (is_unary o) ≡ true
unfolding is_between
between_fits m rank o is = sym (ap is_between is) ∙ operators_fit m

-- ---- expressions

-- a sign before a right expression is right
unary_fits : (line : ℕ) (o : Op) (a : ExprTree) → is_unary o ≡ true → operators a ≡ true → operators (expression line (e.Unary o a)) ≡ true
unary_fits line o a sign fine = folds.at_Unary operators_of (λ tree. tree.form) line o a ∙ join (is_unary o) (operators a) sign fine

-- an operator between two right expressions is right
binary_fits : (line : ℕ) (o : Op) (a b : ExprTree) → not (is_unary o) ≡ true → operators a ≡ true → operators b ≡ true → operators (expression line (e.Binary o a b)) ≡ true
binary_fits line o a b between one other =
    folds.at_Binary operators_of (λ tree. tree.form) line o a b ∙ join (not (is_unary o)) (operators a && operators b) between (join (operators a) (operators b) one other)

-- a call of right expressions is right
call_fits : (line : ℕ) (a : ExprTree) (name : Ident) (args : List ExprTree) → operators a ≡ true → list_all (λ one. one) (map operators args) ≡ true → operators (expression line (e.Call a name args)) ≡ true
call_fits line a name args one all = folds.at_Call operators_of (λ tree. tree.form) line a name args ∙ join (operators a) (list_all (λ one. one) (map operators args)) one all

-- an element of right expressions is right
element_fits : (line : ℕ) (a b : ExprTree) → operators a ≡ true → operators b ≡ true → operators (expression line (e.Elem a b)) ≡ true
element_fits line a b one other = folds.at_Elem operators_of (λ tree. tree.form) line a b ∙ join (operators a) (operators b) one other

-- an expression of one token
plain_fits : (f : Form) (this : ExprForm) (line : ℕ) → plain_of f ≡ Some this → operators (expression line this) ≡ true
plain_fits (form.Number (Some n)) this line is = subst (λ x. operators (expression line x) ≡ true) (same_Some (e.Number n) this is) (folds.at_Number operators_of (λ tree. tree.form) line n)
plain_fits (form.Text content) this line is = subst (λ x. operators (expression line x) ≡ true) (same_Some (e.Text content) this is) (folds.at_Text operators_of (λ tree. tree.form) line content)
plain_fits (form.Name name) this line is = subst (λ x. operators (expression line x) ≡ true) (same_Some (e.Name name) this is) (folds.at_Name operators_of (λ tree. tree.form) line name)
plain_fits (form.Keyword k.True) this line is = subst (λ x. operators (expression line x) ≡ true) (same_Some (e.Truth true) this is) (folds.at_Truth operators_of (λ tree. tree.form) line true)
plain_fits (form.Keyword k.False) this line is = subst (λ x. operators (expression line x) ≡ true) (same_Some (e.Truth false) this is) (folds.at_Truth operators_of (λ tree. tree.form) line false)
plain_fits (form.Keyword k.Null) this line is = subst (λ x. operators (expression line x) ≡ true) (same_Some e.Null this is) (folds.at_Null operators_of (λ tree. tree.form) line)
plain_fits (form.Keyword k.This) this line is = subst (λ x. operators (expression line x) ≡ true) (same_Some e.This this is) (folds.at_This operators_of (λ tree. tree.form) line)
plain_fits other this line is = absurd (none-some this is)

mutual
  -- each expression of the grammar has right operators
  binary_is : {rank room left : ℕ} {ts : Tokens} {a : ExprTree} → Binary rank room left ts a → operators a ≡ true
  binary_is (g.operand d) = unary_is d
  binary_is (g.tighter d) = binary_is d
  binary_is (g.operation {rank = rank} {a = a} {b = b} t m o is operator d d') = binary_fits (line_of a) o a b (between_fits m rank o operator) (binary_is d) (binary_is d')

  unary_is : {room left : ℕ} {ts : Tokens} {a : ExprTree} → Unary room left ts a → operators a ≡ true
  unary_is (g.plain d) = postfix_is d
  unary_is (g.signed {a = a} t m o is sign d) = unary_fits t.line o a (sign_fits m o sign) (unary_is d)

  postfix_is : {room left : ℕ} {ts : Tokens} {a : ExprTree} → Postfix room left ts a → operators a ≡ true
  postfix_is (g.primary d) = primary_is d
  postfix_is (g.field {a = a} dot named name is_dot is_name d) = folds.at_Field operators_of (λ tree. tree.form) (line_of a) a name ∙ postfix_is d
  postfix_is (g.call {a = a} {all = all} dot named opening closing name is_dot is_name opens closes d args) = call_fits (line_of a) a name all (postfix_is d) (arguments_are args)
  postfix_is (g.element {a = a} {b = b} opening closing opens closes d d') = element_fits (line_of a) a b (postfix_is d) (whole_is d')

  primary_is : {room : ℕ} {ts : Tokens} {a : ExprTree} → Primary room ts a → operators a ≡ true
  primary_is (g.single t this is) = plain_fits t.form this t.line is
  primary_is (g.parens {a = a} opening closing opens closes d) = folds.at_Paren operators_of (λ tree. tree.form) opening.line a ∙ whole_is d
  primary_is (g.object new named opening closing name is_new is_name opens closes) = folds.at_NewObject operators_of (λ tree. tree.form) new.line name
  primary_is (g.array {a = a} new made opening closing word this is_new is_word is_kind opens closes d) = folds.at_NewArray operators_of (λ tree. tree.form) new.line this a ∙ whole_is d

  whole_is : {room : ℕ} {ts : Tokens} {a : ExprTree} → Whole room ts a → operators a ≡ true
  whole_is (g.whole d) = binary_is d

  arguments_are : {room : ℕ} {ts : Tokens} {all : List ExprTree} → Arguments room ts all → list_all (λ one. one) (map operators all) ≡ true
  arguments_are g.none = refl
  arguments_are (g.some d) = listed_are d

  listed_are : {room : ℕ} {ts : Tokens} {all : List ExprTree} → Listed room ts all → list_all (λ one. one) (map operators all) ≡ true
  listed_are (g.last {a = a} d) = join (operators a) true (whole_is d) refl
  listed_are (g.more {a = a} {all = all} comma is d rest) = join (operators a) (list_all (λ one. one) (map operators all)) (whole_is d) (listed_are rest)

-- an expression in parentheses has right operators
asked_is : {room : ℕ} {ts : Tokens} {a : ExprTree} → Parenthesized Whole room ts a → operators a ≡ true
asked_is (p.parenthesized opening closing opens closes d) = whole_is d

-- ---- statements

-- an `if` fits where its parts do
if_fits : (line : ℕ) (a : ExprTree) (all others : List StmtTree) (room : ℕ) → operators a ≡ true → block_fits all room ≡ true → block_fits others room ≡ true → fits (statement line (s.If a all others)) (suc room) ≡ true
if_fits line a all others room one these those =
    ap (λ f. f (suc room)) (folds.at_If fits_of (λ tree. tree.form) line a all others)
    ∙ join (operators a) (block_fits all room && block_fits others room) one (join (block_fits all room) (block_fits others room) these those)

-- an assignment fits where its parts do
assign_fits : (line : ℕ) (a b : ExprTree) (room : ℕ) → operators a ≡ true → operators b ≡ true → fits (statement line (s.Assign a b)) (suc room) ≡ true
assign_fits line a b room one other = ap (λ f. f (suc room)) (folds.at_Assign fits_of (λ tree. tree.form) line a b) ∙ join (operators a) (operators b) one other

-- a statement of one word, an expression and a block fits where its parts do
guarded_fits : (which : Keyword) (made : ExprTree → List StmtTree → StmtForm) (line : ℕ) (a : ExprTree) (all : List StmtTree) (room : ℕ) → guarded_of which ≡ Some made → operators a ≡ true → block_fits all room ≡ true
    → fits (statement line (made a all)) (suc room) ≡ true
guarded_fits k.While made line a all room is one these =
    subst (λ make. fits (statement line (make a all)) (suc room) ≡ true) (same_Some s.While made is)
    (ap (λ f. f (suc room)) (folds.at_While fits_of (λ tree. tree.form) line a all) ∙ join (operators a) (block_fits all room) one these)
guarded_fits k.Synchronized made line a all room is one these =
    subst (λ make. fits (statement line (make a all)) (suc room) ≡ true) (same_Some s.Sync made is)
    (ap (λ f. f (suc room)) (folds.at_Sync fits_of (λ tree. tree.form) line a all) ∙ join (operators a) (block_fits all room) one these)
guarded_fits other made line a all room is one these = absurd (none-some made is)

-- a statement of one word and an expression fits where its part does
told_fits : (which : Keyword) (made : ExprTree → StmtForm) (line : ℕ) (a : ExprTree) (room : ℕ) → command_of which ≡ Some made → operators a ≡ true → fits (statement line (made a)) (suc room) ≡ true
told_fits k.Notify made line a room is one =
    subst (λ make. fits (statement line (make a)) (suc room) ≡ true) (same_Some s.Notify made is) (ap (λ f. f (suc room)) (folds.at_Notify fits_of (λ tree. tree.form) line a) ∙ one)
told_fits k.NotifyAll made line a room is one =
    subst (λ make. fits (statement line (make a)) (suc room) ≡ true) (same_Some s.NotifyAll made is) (ap (λ f. f (suc room)) (folds.at_NotifyAll fits_of (λ tree. tree.form) line a) ∙ one)
told_fits k.Print made line a room is one =
    subst (λ make. fits (statement line (make a)) (suc room) ≡ true) (same_Some s.Print made is) (ap (λ f. f (suc room)) (folds.at_Print fits_of (λ tree. tree.form) line a) ∙ one)
told_fits other made line a room is one = absurd (none-some made is)

-- a `wait` fits
waiting_fits : (line at : ℕ) {room : ℕ} {ts : Tokens} {form : StmtForm} → Parenthesized Waited room ts form → fits (statement line form) (suc at) ≡ true
waiting_fits line at (p.parenthesized opening closing opens closes (p.untimed {a = a} d)) = ap (λ f. f (suc at)) (folds.at_Wait fits_of (λ tree. tree.form) line a) ∙ whole_is d
waiting_fits line at (p.parenthesized opening closing opens closes (p.timed {a = a} {b = b} comma is d d')) =
    ap (λ f. f (suc at)) (folds.at_TimedWait fits_of (λ tree. tree.form) line a b) ∙ join (operators a) (operators b) (whole_is d) (whole_is d')

mutual
  -- each statement and block of the grammar fits into its room
  body_is : {room : ℕ} {ts : Tokens} {all : List StmtTree} → Body room ts all → block_fits all (suc room) ≡ true
  body_is p.done = refl
  body_is (p.next {room = room} {a = a} {all = all} d rest) = join (fits a (suc room)) (block_fits all (suc room)) (statement_is d) (body_is rest)

  block_is : {room : ℕ} {ts : Tokens} {all : List StmtTree} → Block room ts all → block_fits all room ≡ true
  block_is (p.block opening closing opens closes d) = body_is d

  statement_is : {room : ℕ} {ts : Tokens} {a : StmtTree} → Statement room ts a → fits a (suc room) ≡ true
  statement_is (p.variable {room = room} {a = a} word named equals ending name is is_name is_equals is_ending d) =
      ap (λ f. f (suc room)) (folds.at_Var fits_of (λ tree. tree.form) word.line name a) ∙ whole_is d
  statement_is (p.assigned {room = room} {a = a} {b = b} equals ending is_equals is_ending d place d') = assign_fits (line_of a) a b room (whole_is d) (whole_is d')
  statement_is (p.evaluated {room = room} {a = a} ending is d) = ap (λ f. f (suc room)) (folds.at_Eval fits_of (λ tree. tree.form) (line_of a) a) ∙ whole_is d
  statement_is (p.conditional d) = conditional_is d
  statement_is (p.guarded {room = room} {a = a} {all = all} word which made is known d body) = guarded_fits which made word.line a all room known (asked_is d) (block_is body)
  statement_is (p.command {room = room} {a = a} word ending which made is known is_ending d) = told_fits which made word.line a room known (asked_is d)
  statement_is (p.waiting {room = room} word ending is is_ending d) = waiting_fits word.line room d
  statement_is (p.returned {room = room} word ending is is_ending) = ap (λ f. f (suc room)) (folds.at_Return fits_of (λ tree. tree.form) word.line None)
  statement_is (p.returned_with {room = room} {a = a} word ending is is_ending d) = ap (λ f. f (suc room)) (folds.at_Return fits_of (λ tree. tree.form) word.line (Some a)) ∙ whole_is d

  conditional_is : {room : ℕ} {ts : Tokens} {a : StmtTree} → Conditional room ts a → fits a (suc room) ≡ true
  conditional_is (p.alone {room = room} {a = a} {all = all} word is d body) = if_fits word.line a all [] room (asked_is d) (block_is body) refl
  conditional_is (p.otherwise {room = room} {a = a} {all = all} {others = others} word else' is is_else d body other) = if_fits word.line a all others room (asked_is d) (block_is body) (block_is other)
  conditional_is (p.chained {room = room} {a = a} {all = all} {other = other} word else' is is_else d body d') =
      if_fits word.line a all (other ∷ []) (suc room) (asked_is d) (block_is body) (join (fits other (suc room)) true (conditional_is d') refl)

-- ---- methods and threads

-- the statements of a method fit into this room
abbrev pub MethodFits : ℕ → MethodTree → Type 0
MethodFits room tree = block_fits tree.statements room ≡ true

-- those of a thread
abbrev pub ThreadFits : ℕ → ThreadTree → Type 0
ThreadFits room tree = block_fits tree.statements room ≡ true

-- the methods of a class, whose braces took a level
members_fit : {room : ℕ} {ts : Tokens} {all : List Member} (number : ℕ) (class : Word) → Members room ts all → All (MethodFits (suc room)) (methods_of number class all)
members_fit {room = room} number class p.done = All-nil (MethodFits (suc room))
members_fit number class (p.next (p.field word named ending which this name is known is_name is_ending) rest) = members_fit number class rest
members_fit number class (p.next (p.static word made named ending name is is_made is_name is_ending) rest) = members_fit number class rest
members_fit number class (p.next (p.method {room = room} {names = names} {all = all} named opening closing name is_name opens closes params body) rest) =
    All-cons (MethodFits (suc (suc room))) _ _ (block_is (lift_block body)) (members_fit number class rest)
members_fit number class (p.next (p.synchronized {room = room} {names = names} {all = all} word named opening closing name is is_name opens closes params body) rest) =
    All-cons (MethodFits (suc (suc room))) _ _ (block_is (lift_block body)) (members_fit number class rest)

-- the methods of a program fit into its levels
pub methods_fit : {levels : ℕ} {ts : Tokens} {all : List Item} (number : ℕ) → Tops levels ts all → All (MethodFits levels) (methods_from number (classes_of all))
methods_fit {levels = levels} number p.done = All-nil (MethodFits levels)
methods_fit number (p.next (p.class {room = room} {members = members} word named opening closing name is is_name opens closes d) rest) =
    All-append (MethodFits (suc room)) (methods_of number name.name members) _ (members_fit number name.name d) (methods_fit (suc number) rest)
methods_fit number (p.next (p.thread word counted this is is_number body) rest) = methods_fit number rest

-- the threads of a program fit into its levels
pub threads_fit : {levels : ℕ} {ts : Tokens} {all : List Item} → Tops levels ts all → All (ThreadFits levels) (threads_of all)
threads_fit {levels = levels} p.done = All-nil (ThreadFits levels)
threads_fit (p.next (p.class word named opening closing name is is_name opens closes d) rest) = threads_fit rest
threads_fit {levels = levels} (p.next (p.thread word counted this is is_number body) rest) = All-cons (ThreadFits levels) _ _ (block_is body) (threads_fit rest)
