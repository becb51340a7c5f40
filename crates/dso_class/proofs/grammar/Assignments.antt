-- What is of the grammar assigns only to what may be assigned to.
use Rattle.std.proofs.Common.{◌≡◌, ℕ, Bool, true, refl, ◌∙◌, subst, List, [], ◌∷◌, map, Some, None, All}
use Rattle.std.specs.List.{list_all}
use Rattle.std.proofs.lemmas.List.Elements.{All-nil, All-cons}
use Rattle.std.proofs.lemmas.Option.{none-some, same_Some}
use Rattle.dso_config.specs.declared.config.Config.{Config}
use Rattle.dso_tokens.specs.declared.token.Keyword.{Keyword}
use Rattle.dso_tokens.specs.declared.token.Keyword.TheVariants as k
use Rattle.dso_syntax.specs.declared.tree.Ast.{Ast}
use Rattle.dso_syntax.specs.declared.tree.ExprTree.{ExprTree}
use Rattle.dso_syntax.specs.declared.tree.Item.{Item}
use Rattle.dso_syntax.specs.declared.tree.Member.{Member}
use Rattle.dso_syntax.specs.declared.tree.StmtTree.{StmtTree}
use Rattle.dso_syntax.specs.declared.tree.StmtForm.{StmtForm}
use Rattle.dso_syntax.specs.declared.tree.StmtForm.TheVariants as s
use Rattle.dso_syntax.specs.Grammar.{Tokens, line_of}
use Rattle.dso_syntax.specs.ProgramGrammar as p
use Rattle.dso_syntax.specs.ProgramGrammar.{statement, command_of, guarded_of, Parenthesized, Waited, Body, Block, Statement, Conditional, Declared, Members, Tops}
use Rattle.dso_class.specs.Assignable.{assigns_of, assigns, AreAssignable, MemberAssigns, ItemAssigns, ItemsAssign}
use Rattle.dso_class.specs.ValidInput.{IsValidInput}
use Rattle.dso_class.proofs.grammar.Operators.{join}
use Rattle.dso_class.proofs.mentions.TreeFolds as folds

-- all of these statements do
abbrev all_assign : List StmtTree → Bool
all_assign all = list_all (λ one. one) (map assigns all)

-- an `if` does where its blocks do
if_assigns : (line : ℕ) (a : ExprTree) (all others : List StmtTree) → all_assign all ≡ true → all_assign others ≡ true → assigns (statement line (s.If a all others)) ≡ true
if_assigns line a all others these those = folds.at_If assigns_of (λ tree. tree.form) line a all others ∙ join (all_assign all) (all_assign others) these those

-- a statement of one word, an expression and a block does where its block does
guarded_assigns : (which : Keyword) (made : ExprTree → List StmtTree → StmtForm) (line : ℕ) (a : ExprTree) (all : List StmtTree) → guarded_of which ≡ Some made → all_assign all ≡ true
    → assigns (statement line (made a all)) ≡ true
guarded_assigns k.While made line a all is these =
    subst (λ make. assigns (statement line (make a all)) ≡ true) (same_Some s.While made is) (folds.at_While assigns_of (λ tree. tree.form) line a all ∙ these)
guarded_assigns k.Synchronized made line a all is these =
    subst (λ make. assigns (statement line (make a all)) ≡ true) (same_Some s.Sync made is) (folds.at_Sync assigns_of (λ tree. tree.form) line a all ∙ these)
guarded_assigns other made line a all is these = absurd (none-some made is)

-- a statement of one word and an expression assigns to nothing
told_assigns : (which : Keyword) (made : ExprTree → StmtForm) (line : ℕ) (a : ExprTree) → command_of which ≡ Some made → assigns (statement line (made a)) ≡ true
told_assigns k.Notify made line a is = subst (λ make. assigns (statement line (make a)) ≡ true) (same_Some s.Notify made is) (folds.at_Notify assigns_of (λ tree. tree.form) line a)
told_assigns k.NotifyAll made line a is = subst (λ make. assigns (statement line (make a)) ≡ true) (same_Some s.NotifyAll made is) (folds.at_NotifyAll assigns_of (λ tree. tree.form) line a)
told_assigns k.Print made line a is = subst (λ make. assigns (statement line (make a)) ≡ true) (same_Some s.Print made is) (folds.at_Print assigns_of (λ tree. tree.form) line a)
told_assigns other made line a is = absurd (none-some made is)

-- nor does a `wait`
waiting_assigns : (line : ℕ) {room : ℕ} {ts : Tokens} {form : StmtForm} → Parenthesized Waited room ts form → assigns (statement line form) ≡ true
waiting_assigns line (p.parenthesized opening closing opens closes (p.untimed {a = a} d)) = folds.at_Wait assigns_of (λ tree. tree.form) line a
waiting_assigns line (p.parenthesized opening closing opens closes (p.timed {a = a} {b = b} comma is d d')) = folds.at_TimedWait assigns_of (λ tree. tree.form) line a b

mutual
  -- each statement and block of the grammar does
  body_assigns : {room : ℕ} {ts : Tokens} {all : List StmtTree} → Body room ts all → all_assign all ≡ true
  body_assigns p.done = refl
  body_assigns (p.next {a = a} {all = all} d rest) = join (assigns a) (all_assign all) (statement_assigns d) (body_assigns rest)

  block_assigns : {room : ℕ} {ts : Tokens} {all : List StmtTree} → Block room ts all → all_assign all ≡ true
  block_assigns (p.block opening closing opens closes d) = body_assigns d

  statement_assigns : {room : ℕ} {ts : Tokens} {a : StmtTree} → Statement room ts a → assigns a ≡ true
  statement_assigns (p.variable {a = a} word named equals ending name is is_name is_equals is_ending d) = folds.at_Var assigns_of (λ tree. tree.form) word.line name a
  statement_assigns (p.assigned {a = a} {b = b} equals ending is_equals is_ending d place d') = folds.at_Assign assigns_of (λ tree. tree.form) (line_of a) a b ∙ place
  statement_assigns (p.evaluated {a = a} ending is d) = folds.at_Eval assigns_of (λ tree. tree.form) (line_of a) a
  statement_assigns (p.conditional d) = conditional_assigns d
  statement_assigns (p.guarded {a = a} {all = all} word which made is known d body) = guarded_assigns which made word.line a all known (block_assigns body)
  statement_assigns (p.command {a = a} word ending which made is known is_ending d) = told_assigns which made word.line a known
  statement_assigns (p.waiting word ending is is_ending d) = waiting_assigns word.line d
  statement_assigns (p.returned word ending is is_ending) = folds.at_Return assigns_of (λ tree. tree.form) word.line None
  statement_assigns (p.returned_with {a = a} word ending is is_ending d) = folds.at_Return assigns_of (λ tree. tree.form) word.line (Some a)

  conditional_assigns : {room : ℕ} {ts : Tokens} {a : StmtTree} → Conditional room ts a → assigns a ≡ true
  conditional_assigns (p.alone {a = a} {all = all} word is d body) = if_assigns word.line a all [] (block_assigns body) refl
  conditional_assigns (p.otherwise {a = a} {all = all} {others = others} word else' is is_else d body other) = if_assigns word.line a all others (block_assigns body) (block_assigns other)
  conditional_assigns (p.chained {a = a} {all = all} {other = other} word else' is is_else d body d') =
      if_assigns word.line a all (other ∷ []) (block_assigns body) (join (assigns other) true (conditional_assigns d') refl)

-- the statements of a block do
block_given : {room : ℕ} {ts : Tokens} {all : List StmtTree} → Block room ts all → AreAssignable all
block_given d = record { all = block_assigns d }

-- those of a member
member_assigns : {room : ℕ} {ts : Tokens} {one : Member} → Declared room ts one → MemberAssigns one
member_assigns (p.field word named ending which this name known is is_name is_ending) = tt
member_assigns (p.static word made named ending name is is_made is_name is_ending) = tt
member_assigns (p.method named opening closing name is_name opens closes params body) = block_given body
member_assigns (p.synchronized word named opening closing name is is_name opens closes params body) = block_given body

members_assign : {room : ℕ} {ts : Tokens} {all : List Member} → Members room ts all → All MemberAssigns all
members_assign p.done = All-nil MemberAssigns
members_assign (p.next d rest) = All-cons MemberAssigns _ _ (member_assigns d) (members_assign rest)

-- those of all classes and threads
tops_assign : {levels : ℕ} {ts : Tokens} {all : List Item} → Tops levels ts all → All ItemAssigns all
tops_assign p.done = All-nil ItemAssigns
tops_assign (p.next (p.class word named opening closing name is is_name opens closes d) rest) = All-cons ItemAssigns _ _ (members_assign d) (tops_assign rest)
tops_assign (p.next (p.thread word counted this is is_number body) rest) = All-cons ItemAssigns _ _ (block_given body) (tops_assign rest)

-- the text that names are resolved of does
pub given_assigns : (config : Config) (ast : Ast) → IsValidInput config ast → ItemsAssign ast.items
given_assigns config ast given = record { all = tops_assign given.grammar }
