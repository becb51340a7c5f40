-- Expressions that are one have the same parts.
use Rattle.std.proofs.Common.{ℕ, ◌≡◌, sym, ap, ◌∙◌, List}
use Rattle.dso_base.specs.declared.op.Op.{Op}
use Rattle.dso_base.specs.declared.value.Kind.{Kind}
use Rattle.dso_syntax.specs.declared.tree.Ident.{Ident}
use Rattle.dso_syntax.specs.declared.tree.ExprTree.{ExprTree, out-ExprTree, out-roll-ExprTree}
use Rattle.dso_syntax.specs.declared.tree.ExprForm.{ExprForm, out-ExprForm, roll-ExprForm, out-roll-ExprForm}
use Rattle.dso_syntax.specs.declared.tree.ExprForm.TheOpen.{ExprForm-F}
use Rattle.dso_syntax.specs.declared.tree.ExprForm.TheVariants as e
use Rattle.dso_syntax.specs.Grammar.{expression}
use Rattle.dso_config_entries.specs.Words.{Word}

-- the forms of expressions
abbrev pub Form : Type 0
Form = ExprForm-F ExprForm ExprTree

-- the form of an expression
abbrev pub form_of : ExprTree → Form
form_of tree = out-ExprForm (out-ExprTree tree).form

-- the form that an expression was made of
form_is : (line : ℕ) (f : Form) (one : ExprForm) → roll-ExprForm f ≡ one → form_of (expression line one) ≡ f
form_is line f one is =
    ap (λ tree. out-ExprForm tree.form) (out-roll-ExprTree (record { line = line; form = one })) ∙ ap out-ExprForm (sym is) ∙ out-roll-ExprForm f

-- expressions that are one have one form
same_form : (line at : ℕ) (f g : Form) {one other : ExprForm} → roll-ExprForm f ≡ one → roll-ExprForm g ≡ other → expression line one ≡ expression at other → f ≡ g
same_form line at f g {one} {other} is too same = sym (form_is line f one is) ∙ ap form_of same ∙ form_is at g other too

-- pairs of parentheses that are one are round the same
paren_parts : {a b : ExprTree} → ◌≡◌ {A = Form} (ExprForm-F.Paren a) (ExprForm-F.Paren b) → a ≡ b
paren_parts same = cc same

-- new arrays that are one are of one kind and size
array_parts : {k l : Kind} {a b : ExprTree} → ◌≡◌ {A = Form} (ExprForm-F.NewArray k a) (ExprForm-F.NewArray l b) → (k ≡ l) × (a ≡ b)
array_parts same = (cc same, cc same)

-- fields that are one are of one object and name
field_parts : {a b : ExprTree} {name other : Ident} → ◌≡◌ {A = Form} (ExprForm-F.Field a name) (ExprForm-F.Field b other) → (a ≡ b) × (name ≡ other)
field_parts same = (cc same, cc same)

-- elements that are one are of one array and index
element_parts : {a b c d : ExprTree} → ◌≡◌ {A = Form} (ExprForm-F.Elem a c) (ExprForm-F.Elem b d) → (a ≡ b) × (c ≡ d)
element_parts same = (cc same, cc same)

-- calls that are one have one object, name and arguments
call_parts : {a b : ExprTree} {name other : Ident} {all those : List ExprTree} → ◌≡◌ {A = Form} (ExprForm-F.Call a name all) (ExprForm-F.Call b other those) → (a ≡ b) × (name ≡ other) × (all ≡ those)
call_parts same = (cc same, cc same, cc same)

-- operators before an operand that are one have the same parts
unary_parts : {o p : Op} {a b : ExprTree} → ◌≡◌ {A = Form} (ExprForm-F.Unary o a) (ExprForm-F.Unary p b) → (o ≡ p) × (a ≡ b)
unary_parts same = (cc same, cc same)

-- operators between operands that are one have the same parts
binary_parts : {o p : Op} {a b c d : ExprTree} → ◌≡◌ {A = Form} (ExprForm-F.Binary o a c) (ExprForm-F.Binary p b d) → (o ≡ p) × (a ≡ b) × (c ≡ d)
binary_parts same = (cc same, cc same, cc same)

-- expressions in parentheses that are one are round the same
pub same_paren : (line at : ℕ) (a b : ExprTree) → expression line (e.Paren a) ≡ expression at (e.Paren b) → a ≡ b
same_paren line at a b same = paren_parts (same_form line at (ExprForm-F.Paren a) (ExprForm-F.Paren b) (e.rolls-Paren a) (e.rolls-Paren b) same)

-- expressions of new arrays that are one have the same parts
pub same_array : (line at : ℕ) (k l : Kind) (a b : ExprTree) → expression line (e.NewArray k a) ≡ expression at (e.NewArray l b) → (k ≡ l) × (a ≡ b)
same_array line at k l a b same = array_parts (same_form line at (ExprForm-F.NewArray k a) (ExprForm-F.NewArray l b) (e.rolls-NewArray k a) (e.rolls-NewArray l b) same)

-- expressions of fields that are one have the same parts
pub same_field : (line at : ℕ) (a b : ExprTree) (name other : Ident) → expression line (e.Field a name) ≡ expression at (e.Field b other) → (a ≡ b) × (name ≡ other)
same_field line at a b name other same = field_parts (same_form line at (ExprForm-F.Field a name) (ExprForm-F.Field b other) (e.rolls-Field a name) (e.rolls-Field b other) same)

-- expressions of elements that are one have the same parts
pub same_element : (line at : ℕ) (a b c d : ExprTree) → expression line (e.Elem a c) ≡ expression at (e.Elem b d) → (a ≡ b) × (c ≡ d)
same_element line at a b c d same = element_parts (same_form line at (ExprForm-F.Elem a c) (ExprForm-F.Elem b d) (e.rolls-Elem a c) (e.rolls-Elem b d) same)

-- expressions of calls that are one have the same parts
pub same_call : (line at : ℕ) (a b : ExprTree) (name other : Ident) (all those : List ExprTree) → expression line (e.Call a name all) ≡ expression at (e.Call b other those) → (a ≡ b) × (name ≡ other) × (all ≡ those)
same_call line at a b name other all those same =
    call_parts (same_form line at (ExprForm-F.Call a name all) (ExprForm-F.Call b other those) (e.rolls-Call a name all) (e.rolls-Call b other those) same)

-- expressions with an operator before an operand that are one have the same parts
pub same_unary : (line at : ℕ) (o p : Op) (a b : ExprTree) → expression line (e.Unary o a) ≡ expression at (e.Unary p b) → (o ≡ p) × (a ≡ b)
same_unary line at o p a b same = unary_parts (same_form line at (ExprForm-F.Unary o a) (ExprForm-F.Unary p b) (e.rolls-Unary o a) (e.rolls-Unary p b) same)

-- expressions with an operator between operands that are one have the same parts
pub same_binary : (line at : ℕ) (o p : Op) (a b c d : ExprTree) → expression line (e.Binary o a c) ≡ expression at (e.Binary p b d) → (o ≡ p) × (a ≡ b) × (c ≡ d)
same_binary line at o p a b c d same =
    binary_parts (same_form line at (ExprForm-F.Binary o a c) (ExprForm-F.Binary p b d) (e.rolls-Binary o a c) (e.rolls-Binary p b d) same)

-- a name is no field
pub name_no_field : (at put : ℕ) (name : Word) (a : ExprTree) (field : Ident) → expression at (e.Name name) ≡ expression put (e.Field a field) → ⊥
name_no_field at put name a field same = cc (ap form_of same)

-- a name is no element
pub name_no_element : (at put : ℕ) (name : Word) (a c : ExprTree) → expression at (e.Name name) ≡ expression put (e.Elem a c) → ⊥
name_no_element at put name a c same = cc (ap form_of same)

-- a field is no element
pub field_no_element : (at put : ℕ) (a : ExprTree) (field : Ident) (b c : ExprTree) → expression at (e.Field a field) ≡ expression put (e.Elem b c) → ⊥
field_no_element at put a field b c same = cc (ap form_of same)

-- a name that is one is one word
pub same_name : (at put : ℕ) (name other : Word) → expression at (e.Name name) ≡ expression put (e.Name other) → name ≡ other
same_name at put name other same = cc (ap form_of same)
