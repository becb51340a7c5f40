-- Which statements assign only to what may be assigned to: a variable, a field or an element.
use Rattle.std.specs.Prelude.{◌≡◌, Bool, true, ◌&&◌, List, map, All}
use Rattle.std.specs.List.{list_all}
use Rattle.dso_syntax.specs.declared.tree.ExprTree.{ExprTree, out-ExprTree}
use Rattle.dso_syntax.specs.declared.tree.ExprForm.{out-ExprForm}
use Rattle.dso_syntax.specs.declared.tree.Item.{Item}
use Rattle.dso_syntax.specs.declared.tree.Item.TheVariants as item
use Rattle.dso_syntax.specs.declared.tree.Member.{Member}
use Rattle.dso_syntax.specs.declared.tree.Member.TheVariants as member
use Rattle.dso_syntax.specs.declared.tree.StmtTree.{StmtTree, fold-StmtTree}
use Rattle.dso_syntax.specs.declared.tree.StmtForm.TheOpen.{StmtForm-F}
use Rattle.dso_syntax.specs.ProgramGrammar.{is_place}

-- whether an expression may be assigned to
abbrev pub is_target : ExprTree → Bool
is_target a = is_place (out-ExprForm (out-ExprTree a).form)

-- whether a statement assigns only to such expressions, by its form
abbrev pub assigns_of : StmtForm-F Bool Bool → Bool
assigns_of (StmtForm-F.Assign a b) = is_target a
assigns_of (StmtForm-F.If a all others) = list_all (λ one. one) all && list_all (λ one. one) others
assigns_of (StmtForm-F.While a all) = list_all (λ one. one) all
assigns_of (StmtForm-F.Sync a all) = list_all (λ one. one) all
assigns_of other = true

-- whether a statement assigns only to such expressions
abbrev pub assigns : StmtTree → Bool
assigns = fold-StmtTree Bool Bool assigns_of (λ tree. tree.form)

-- the expression may be assigned to
pub record IsTarget (tree : ExprTree) : Type 0 where
  pub may : is_target tree ≡ true

-- the statement assigns only to what may be assigned to
pub record IsAssignable (tree : StmtTree) : Type 0 where
  pub all : assigns tree ≡ true

-- each of these statements assigns only to what may be assigned to
pub record AreAssignable (trees : List StmtTree) : Type 0 where
  pub all : list_all (λ one. one) (map assigns trees) ≡ true

-- the statements of a member, where it is a method, assign only to what may be assigned to
abbrev pub MemberAssigns : Member → Type 0
MemberAssigns (member.Method line synced name params statements) = AreAssignable statements
MemberAssigns other = Unit {0}

-- the statements of a class's methods, or of a thread, assign only to what may be assigned to
abbrev pub ItemAssigns : Item → Type 0
ItemAssigns (item.Class line name members) = All MemberAssigns members
ItemAssigns (item.Thread line number number_line statements) = AreAssignable statements

-- Members of a class, classes and threads assign only to what may be assigned to.
pub record MembersAssign (members : List Member) : Type 0 where
  pub all : All MemberAssigns members

pub record ItemsAssign (items : List Item) : Type 0 where
  pub all : All ItemAssigns items
