-- Statements that are one have the same parts.
use Rattle.std.proofs.Common.{ℕ, ◌≡◌, sym, ap, ◌∙◌, List}
use Rattle.dso_syntax.specs.declared.tree.ExprTree.{ExprTree}
use Rattle.dso_syntax.specs.declared.tree.StmtTree.{StmtTree, out-StmtTree, out-roll-StmtTree}
use Rattle.dso_syntax.specs.declared.tree.StmtForm.{StmtForm, out-StmtForm, roll-StmtForm, out-roll-StmtForm}
use Rattle.dso_syntax.specs.declared.tree.StmtForm.TheOpen.{StmtForm-F}
use Rattle.dso_syntax.specs.declared.tree.StmtForm.TheVariants as s
use Rattle.dso_syntax.specs.ProgramGrammar.{statement}

-- the forms of statements
abbrev pub Shape : Type 0
Shape = StmtForm-F StmtForm StmtTree

-- the form of a statement
abbrev pub shape_of : StmtTree → Shape
shape_of tree = out-StmtForm (out-StmtTree tree).form

-- the form that a statement was made of
shape_is : (line : ℕ) (f : Shape) (one : StmtForm) → roll-StmtForm f ≡ one → shape_of (statement line one) ≡ f
shape_is line f one is =
    ap (λ tree. out-StmtForm tree.form) (out-roll-StmtTree (record { line = line; form = one })) ∙ ap out-StmtForm (sym is) ∙ out-roll-StmtForm f

-- statements that are one have one form
same_shape : (line at : ℕ) (f g : Shape) {one other : StmtForm} → roll-StmtForm f ≡ one → roll-StmtForm g ≡ other → statement line one ≡ statement at other → f ≡ g
same_shape line at f g {one} {other} is too same = sym (shape_is line f one is) ∙ ap shape_of same ∙ shape_is at g other too

-- assignments that are one are of one value to one place
assign_parts : {a b c d : ExprTree} → ◌≡◌ {A = Shape} (StmtForm-F.Assign a c) (StmtForm-F.Assign b d) → (a ≡ b) × (c ≡ d)
assign_parts same = (cc same, cc same)

-- conditionals that are one have the same parts
if_parts : {a b : ExprTree} {all these others those : List StmtTree} → ◌≡◌ {A = Shape} (StmtForm-F.If a all others) (StmtForm-F.If b these those) → (a ≡ b) × (all ≡ these) × (others ≡ those)
if_parts same = (cc same, cc same, cc same)

-- loops that are one have the same parts
while_parts : {a b : ExprTree} {all these : List StmtTree} → ◌≡◌ {A = Shape} (StmtForm-F.While a all) (StmtForm-F.While b these) → (a ≡ b) × (all ≡ these)
while_parts same = (cc same, cc same)

-- locked blocks that are one have the same parts
sync_parts : {a b : ExprTree} {all these : List StmtTree} → ◌≡◌ {A = Shape} (StmtForm-F.Sync a all) (StmtForm-F.Sync b these) → (a ≡ b) × (all ≡ these)
sync_parts same = (cc same, cc same)

-- timed waits that are one have the same parts
timed_wait_parts : {a b c d : ExprTree} → ◌≡◌ {A = Shape} (StmtForm-F.TimedWait a c) (StmtForm-F.TimedWait b d) → (a ≡ b) × (c ≡ d)
timed_wait_parts same = (cc same, cc same)

-- statements of assignment that are one have the same parts
pub same_assign : (line at : ℕ) (a b c d : ExprTree) → statement line (s.Assign a c) ≡ statement at (s.Assign b d) → (a ≡ b) × (c ≡ d)
same_assign line at a b c d same = assign_parts (same_shape line at (StmtForm-F.Assign a c) (StmtForm-F.Assign b d) (s.rolls-Assign a c) (s.rolls-Assign b d) same)

-- conditional statements that are one have the same parts
pub same_if : (line at : ℕ) (a b : ExprTree) (all these others those : List StmtTree) → statement line (s.If a all others) ≡ statement at (s.If b these those) → (a ≡ b) × (all ≡ these) × (others ≡ those)
same_if line at a b all these others those same =
    if_parts (same_shape line at (StmtForm-F.If a all others) (StmtForm-F.If b these those) (s.rolls-If a all others) (s.rolls-If b these those) same)

-- statements of loops that are one have the same parts
pub same_while : (line at : ℕ) (a b : ExprTree) (all these : List StmtTree) → statement line (s.While a all) ≡ statement at (s.While b these) → (a ≡ b) × (all ≡ these)
same_while line at a b all these same = while_parts (same_shape line at (StmtForm-F.While a all) (StmtForm-F.While b these) (s.rolls-While a all) (s.rolls-While b these) same)

-- statements with a lock that are one have the same parts
pub same_sync : (line at : ℕ) (a b : ExprTree) (all these : List StmtTree) → statement line (s.Sync a all) ≡ statement at (s.Sync b these) → (a ≡ b) × (all ≡ these)
same_sync line at a b all these same = sync_parts (same_shape line at (StmtForm-F.Sync a all) (StmtForm-F.Sync b these) (s.rolls-Sync a all) (s.rolls-Sync b these) same)

-- statements of a timed wait that are one have the same parts
pub same_timed_wait : (line at : ℕ) (a b c d : ExprTree) → statement line (s.TimedWait a c) ≡ statement at (s.TimedWait b d) → (a ≡ b) × (c ≡ d)
same_timed_wait line at a b c d same =
    timed_wait_parts (same_shape line at (StmtForm-F.TimedWait a c) (StmtForm-F.TimedWait b d) (s.rolls-TimedWait a c) (s.rolls-TimedWait b d) same)
