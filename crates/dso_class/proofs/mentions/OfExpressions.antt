-- What an expression mentions, by its form.
use Rattle.std.proofs.Common.{◌≡◌, ℕ, ℤ, Bool, List, [], ◌∷◌, ◌++◌, if◌then◌else◌, map, length, Some, None, refl, ap, sym, ◌∙◌}
use Rattle.std.proofs.lemmas.List.{length-map}
use Rattle.dso_base.specs.declared.op.Op.{Op}
use Rattle.dso_base.specs.declared.value.Kind.{Kind}
use Rattle.dso_syntax.specs.declared.tree.Ident.{Ident}
use Rattle.dso_syntax.specs.declared.tree.ExprTree.{ExprTree, out-ExprTree, fold-roll-ExprTree}
use Rattle.dso_syntax.specs.declared.tree.ExprForm.{ExprForm, fold-ExprForm, fold-roll-ExprForm}
use Rattle.dso_syntax.specs.declared.tree.ExprForm.TheOpen as ef
use Rattle.dso_syntax.specs.declared.tree.ExprForm.TheVariants as e
use Rattle.dso_syntax.specs.Grammar as grammar
use Rattle.dso_config_entries.specs.Words.{Word}
use Rattle.dso_class.specs.declared.uses.Role.{Role}
use Rattle.dso_class.specs.declared.uses.Role.TheVariants as role
use Rattle.dso_class.specs.BodyWalk.{used, bare_used}
use Rattle.dso_class.specs.Mentions.{Mention, Owner, Part, part, part_of, all_of, qualifier_mentions, receiver_mentions, expression, on, alone, dotted, new, call, text, this}

-- a tree is that of its line and its form
pub tree_is : (tree : ExprTree) (form : ExprForm) → (out-ExprTree tree).form ≡ form → tree ≡ grammar.expression (out-ExprTree tree).line form
tree_is tree form is = ap (λ same. grammar.expression (out-ExprTree tree).line same) is

-- what a form mentions on a line
abbrev form_of : Owner → ExprForm → ℕ → Part
form_of owner = fold-ExprForm (ℕ → Part) Part (part_of owner) (λ tree. tree.form tree.line)

-- a tree mentions what its form does on its line
by_form : (owner : Owner) (tree : ExprTree) (form : ExprForm) → (out-ExprTree tree).form ≡ form → expression owner tree ≡ form_of owner form (out-ExprTree tree).line
by_form owner tree form is =
    ap (expression owner) (tree_is tree form is)
    ∙ fold-roll-ExprTree (ℕ → Part) Part (part_of owner) (λ tree. tree.form tree.line) (record { line = (out-ExprTree tree).line; form = form })

pub at_number : (owner : Owner) (tree : ExprTree) (v : ℤ) → (out-ExprTree tree).form ≡ e.Number v → expression owner tree ≡ part (λ known. [])
at_number owner tree v is = by_form owner tree (e.Number v) is ∙ ap (λ given. given (out-ExprTree tree).line) (ap (form_of owner) (sym (e.rolls-Number v)) ∙ fold-roll-ExprForm (ℕ → Part) Part (part_of owner) (λ tree. tree.form tree.line) (ef.Number v))

pub at_text : (owner : Owner) (tree : ExprTree) (content : Word) → (out-ExprTree tree).form ≡ e.Text content → expression owner tree ≡ part (λ known. on (out-ExprTree tree).line (text content) ∷ [])
at_text owner tree content is = by_form owner tree (e.Text content) is ∙ ap (λ given. given (out-ExprTree tree).line) (ap (form_of owner) (sym (e.rolls-Text content)) ∙ fold-roll-ExprForm (ℕ → Part) Part (part_of owner) (λ tree. tree.form tree.line) (ef.Text content))

pub at_truth : (owner : Owner) (tree : ExprTree) (b : Bool) → (out-ExprTree tree).form ≡ e.Truth b → expression owner tree ≡ part (λ known. [])
at_truth owner tree b is = by_form owner tree (e.Truth b) is ∙ ap (λ given. given (out-ExprTree tree).line) (ap (form_of owner) (sym (e.rolls-Truth b)) ∙ fold-roll-ExprForm (ℕ → Part) Part (part_of owner) (λ tree. tree.form tree.line) (ef.Truth b))

pub at_null : (owner : Owner) (tree : ExprTree) → (out-ExprTree tree).form ≡ e.Null → expression owner tree ≡ part (λ known. [])
at_null owner tree is = by_form owner tree e.Null is ∙ ap (λ given. given (out-ExprTree tree).line) (ap (form_of owner) (sym (e.rolls-Null)) ∙ fold-roll-ExprForm (ℕ → Part) Part (part_of owner) (λ tree. tree.form tree.line) ef.Null)

pub at_this : (owner : Owner) (tree : ExprTree) → (out-ExprTree tree).form ≡ e.This → expression owner tree ≡ part (λ known. if owner.in_thread then on (out-ExprTree tree).line this ∷ [] else [])
at_this owner tree is = by_form owner tree e.This is ∙ ap (λ given. given (out-ExprTree tree).line) (ap (form_of owner) (sym (e.rolls-This)) ∙ fold-roll-ExprForm (ℕ → Part) Part (part_of owner) (λ tree. tree.form tree.line) ef.This)

pub at_name : (owner : Owner) (tree : ExprTree) (name : Word) → (out-ExprTree tree).form ≡ e.Name name → expression owner tree ≡ record { bare = Some ((out-ExprTree tree).line, name); mentions = λ known. on (out-ExprTree tree).line (alone known name) ∷ [] }
at_name owner tree name is = by_form owner tree (e.Name name) is ∙ ap (λ given. given (out-ExprTree tree).line) (ap (form_of owner) (sym (e.rolls-Name name)) ∙ fold-roll-ExprForm (ℕ → Part) Part (part_of owner) (λ tree. tree.form tree.line) (ef.Name name))

pub at_paren : (owner : Owner) (tree : ExprTree) (a : ExprTree) → (out-ExprTree tree).form ≡ e.Paren a → expression owner tree ≡ part (expression owner a).mentions
at_paren owner tree a is = by_form owner tree (e.Paren a) is ∙ ap (λ given. given (out-ExprTree tree).line) (ap (form_of owner) (sym (e.rolls-Paren a)) ∙ fold-roll-ExprForm (ℕ → Part) Part (part_of owner) (λ tree. tree.form tree.line) (ef.Paren a))

pub at_new_object : (owner : Owner) (tree : ExprTree) (name : Ident) → (out-ExprTree tree).form ≡ e.NewObject name → expression owner tree ≡ part (λ known. on name.line (new name.name) ∷ [])
at_new_object owner tree name is = by_form owner tree (e.NewObject name) is ∙ ap (λ given. given (out-ExprTree tree).line) (ap (form_of owner) (sym (e.rolls-NewObject name)) ∙ fold-roll-ExprForm (ℕ → Part) Part (part_of owner) (λ tree. tree.form tree.line) (ef.NewObject name))

pub at_new_array : (owner : Owner) (tree : ExprTree) (kind : Kind) (a : ExprTree) → (out-ExprTree tree).form ≡ e.NewArray kind a → expression owner tree ≡ part (expression owner a).mentions
at_new_array owner tree kind a is = by_form owner tree (e.NewArray kind a) is ∙ ap (λ given. given (out-ExprTree tree).line) (ap (form_of owner) (sym (e.rolls-NewArray kind a)) ∙ fold-roll-ExprForm (ℕ → Part) Part (part_of owner) (λ tree. tree.form tree.line) (ef.NewArray kind a))

pub at_field : (owner : Owner) (tree : ExprTree) (a : ExprTree) (name : Ident) → (out-ExprTree tree).form ≡ e.Field a name → expression owner tree ≡ part (qualifier_mentions (expression owner a).bare (expression owner a).mentions name.name)
at_field owner tree a name is = by_form owner tree (e.Field a name) is ∙ ap (λ given. given (out-ExprTree tree).line) (ap (form_of owner) (sym (e.rolls-Field a name)) ∙ fold-roll-ExprForm (ℕ → Part) Part (part_of owner) (λ tree. tree.form tree.line) (ef.Field a name))

pub at_call : (owner : Owner) (tree : ExprTree) (a : ExprTree) (name : Ident) (args : List ExprTree) → (out-ExprTree tree).form ≡ e.Call a name args → expression owner tree ≡ part (λ known. receiver_mentions (expression owner a).bare (expression owner a).mentions known ++ on name.line (call name.name (length (map (expression owner) args))) ∷ all_of (map (expression owner) args) known)
at_call owner tree a name args is = by_form owner tree (e.Call a name args) is ∙ ap (λ given. given (out-ExprTree tree).line) (ap (form_of owner) (sym (e.rolls-Call a name args)) ∙ fold-roll-ExprForm (ℕ → Part) Part (part_of owner) (λ tree. tree.form tree.line) (ef.Call a name args))

pub at_elem : (owner : Owner) (tree : ExprTree) (a b : ExprTree) → (out-ExprTree tree).form ≡ e.Elem a b → expression owner tree ≡ part (λ known. (expression owner a).mentions known ++ (expression owner b).mentions known)
at_elem owner tree a b is = by_form owner tree (e.Elem a b) is ∙ ap (λ given. given (out-ExprTree tree).line) (ap (form_of owner) (sym (e.rolls-Elem a b)) ∙ fold-roll-ExprForm (ℕ → Part) Part (part_of owner) (λ tree. tree.form tree.line) (ef.Elem a b))

pub at_unary : (owner : Owner) (tree : ExprTree) (op : Op) (a : ExprTree) → (out-ExprTree tree).form ≡ e.Unary op a → expression owner tree ≡ part (expression owner a).mentions
at_unary owner tree op a is = by_form owner tree (e.Unary op a) is ∙ ap (λ given. given (out-ExprTree tree).line) (ap (form_of owner) (sym (e.rolls-Unary op a)) ∙ fold-roll-ExprForm (ℕ → Part) Part (part_of owner) (λ tree. tree.form tree.line) (ef.Unary op a))

pub at_binary : (owner : Owner) (tree : ExprTree) (op : Op) (a b : ExprTree) → (out-ExprTree tree).form ≡ e.Binary op a b → expression owner tree ≡ part (λ known. (expression owner a).mentions known ++ (expression owner b).mentions known)
at_binary owner tree op a b is = by_form owner tree (e.Binary op a b) is ∙ ap (λ given. given (out-ExprTree tree).line) (ap (form_of owner) (sym (e.rolls-Binary op a b)) ∙ fold-roll-ExprForm (ℕ → Part) Part (part_of owner) (λ tree. tree.form tree.line) (ef.Binary op a b))

-- an expression that is no bare name mentions the same in each role
plain : (role : Role) (mentions : List Word → List Mention) (known : List Word) → used role (part mentions) known ≡ mentions known
plain role.Value mentions known = refl
plain role.Object mentions known = refl

pub in_role : (which : Role) {given : Part} (mentions : List Word → List Mention) (known : List Word) → given ≡ part mentions → used which given known ≡ mentions known
in_role which mentions known is = ap (λ part. used which part known) is ∙ plain which mentions known

-- a bare name in its role
pub bare_in_role : (which : Role) (owner : Owner) (tree : ExprTree) (name : Word) (known : List Word) → (out-ExprTree tree).form ≡ e.Name name
    → used which (expression owner tree) known ≡ bare_used which (out-ExprTree tree).line name known
bare_in_role role.Value owner tree name known is = ap (λ part. used role.Value part known) (at_name owner tree name is)
bare_in_role role.Object owner tree name known is = ap (λ part. used role.Object part known) (at_name owner tree name is)

-- the field of a bare name, and of another expression
pub named_field : (owner : Owner) (a : ExprTree) (field : Ident) (word : Word) (known : List Word) → (out-ExprTree a).form ≡ e.Name word
    → qualifier_mentions (expression owner a).bare (expression owner a).mentions field.name known ≡ on (out-ExprTree a).line (dotted known word field.name) ∷ []
named_field owner a field word known named = ap (λ given. qualifier_mentions given.bare given.mentions field.name known) (at_name owner a word named)

pub plain_field : (owner : Owner) (a : ExprTree) (field : Ident) (known : List Word) → (expression owner a).bare ≡ None
    → qualifier_mentions (expression owner a).bare (expression owner a).mentions field.name known ≡ (expression owner a).mentions known
plain_field owner a field known other = ap (λ bare. qualifier_mentions bare (expression owner a).mentions field.name known) other

-- the field of another expression, in any role
pub object_field : (which : Role) (owner : Owner) (tree a : ExprTree) (field : Ident) (known : List Word) → (out-ExprTree tree).form ≡ e.Field a field → (expression owner a).bare ≡ None
    → used which (expression owner tree) known ≡ (expression owner a).mentions known
object_field which owner tree a field known is other =
    in_role which _ known (at_field owner tree a field is) ∙ plain_field owner a field known other

-- a call, in any role: what it is called on, the method, the arguments
pub call_parts : (which : Role) (owner : Owner) (tree a : ExprTree) (name : Ident) (args : List ExprTree) (count : ℕ) (known : List Word) → (out-ExprTree tree).form ≡ e.Call a name args → count ≡ length args
    → used which (expression owner tree) known ≡ used role.Object (expression owner a) known ++ (on name.line (call name.name count) ∷ all_of (map (expression owner) args) known)
call_parts which owner tree a name args count known is counts =
    in_role which _ known (at_call owner tree a name args is)
    ∙ ap (λ number. used role.Object (expression owner a) known ++ (on name.line (call name.name number) ∷ all_of (map (expression owner) args) known)) (length-map args (expression owner) ∙ sym counts)
