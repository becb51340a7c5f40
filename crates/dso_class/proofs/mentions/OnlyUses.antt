-- What expressions and statements mention: uses, variables and locked blocks, and nothing that is declared in a class or a text.
use Rattle.std.proofs.Common.{◌≡◌, refl, sym, ap, ◌∙◌, subst, ℕ, Bool, true, false, cond, not, if◌then◌else◌, ◌+◌, one-add, List, [], ◌∷◌, ◌++◌, map, take, Option, Some, None}
use Rattle.std.specs.List.{cons_option, list_all, prefix_len}
use Rattle.std.proofs.lemmas.List.Folds.{list_all-append}
use Rattle.dso_syntax.specs.declared.tree.ExprTree.{ExprTree, roll-ExprTree}
use Rattle.dso_syntax.specs.declared.tree.ExprForm.{ExprForm, roll-ExprForm}
use Rattle.dso_syntax.specs.declared.tree.ExprForm.TheOpen.{ExprForm-F}
use Rattle.dso_syntax.specs.declared.tree.ExprForm.TheFolds.{fold-ExprForm, fold-roll-ExprTree, fold-roll-ExprForm, ind-ExprTree, map-ExprForm, map-ExprTree}
use Rattle.dso_syntax.specs.declared.tree.StmtTree.{StmtTree, roll-StmtTree}
use Rattle.dso_syntax.specs.declared.tree.StmtForm.{StmtForm, roll-StmtForm}
use Rattle.dso_syntax.specs.declared.tree.StmtForm.TheOpen.{StmtForm-F}
use Rattle.dso_syntax.specs.declared.tree.StmtForm.TheFolds.{fold-StmtForm, fold-roll-StmtTree, fold-roll-StmtForm, ind-StmtTree, map-StmtForm, map-StmtTree}
use Rattle.dso_config_entries.specs.Words.{Word}
use Rattle.dso_class.proofs.grammar.Operators.{both, join}
use Rattle.dso_class.specs.Mentions.{Mention, Mentioned, on, Owner, Part, part_of, all_of, qualifier_mentions, receiver_mentions, expression, Step, step_of, statement, block, answer, class, field, static, method, parameter, variable, synchronized, client, alone, dotted, called, this, new, call, text}
use Rattle.dso_class.specs.PrecedingMentions.{member_in, field_in, static_in, method_in, parameter_in, in_text, begins_class, begins_body}
use Rattle.dso_class.specs.FaultsAmong.{behind}

-- a use
abbrev pub is_use : Mentioned → Bool
is_use (alone known name) = true
is_use (dotted known name other) = true
is_use (called known name) = true
is_use this = true
is_use (new name) = true
is_use (call name count) = true
is_use (text content) = true
is_use other = false

-- what statements mention: uses, variables, locked blocks
abbrev pub is_in_body : Mentioned → Bool
is_in_body (variable name) = true
is_in_body (synchronized class' name) = true
is_in_body other = is_use other

-- each of the mentions passes the test
abbrev pub MentionsPass : (Mentioned → Bool) → List Mention → Type 0
MentionsPass test ms = list_all (λ mention. test mention.what) ms ≡ true

-- the first mention passes, and so do the others
pub first_passes : (test : Mentioned → Bool) (m : Mention) (ms : List Mention) → MentionsPass test (m ∷ ms) → test m.what ≡ true
first_passes test m ms pass = (both (test m.what) (list_all (λ mention. test mention.what) ms) pass).0

pub rest_pass : (test : Mentioned → Bool) (m : Mention) (ms : List Mention) → MentionsPass test (m ∷ ms) → MentionsPass test ms
rest_pass test m ms pass = (both (test m.what) (list_all (λ mention. test mention.what) ms) pass).1

-- what passes each of two lists passes each of both
pub pass_append : (test : Mentioned → Bool) (xs ys : List Mention) → MentionsPass test xs → MentionsPass test ys → MentionsPass test (xs ++ ys)
pass_append test xs ys one other =
    list_all-append (λ mention. test mention.what) xs ys
    ∙ join (list_all (λ mention. test mention.what) xs) (list_all (λ mention. test mention.what) ys) one other

-- a weaker test passes too
pub pass_weaker : (test other : Mentioned → Bool) → ((what : Mentioned) → test what ≡ true → other what ≡ true) → (xs : List Mention) → MentionsPass test xs → MentionsPass other xs
pass_weaker test other weaker [] pass = refl
pass_weaker test other weaker (x ∷ xs) pass =
    join (other x.what) (list_all (λ mention. other mention.what) xs) (weaker x.what (first_passes test x xs pass))
    (pass_weaker test other weaker xs (rest_pass test x xs pass))

-- a use is in a body
pub use_in_body : (what : Mentioned) → is_use what ≡ true → is_in_body what ≡ true
use_in_body (variable name) is = refl
use_in_body (synchronized class' name) is = refl
use_in_body other is = is

-- a statement declares no member and no parameter
pub member_none : (what : Mentioned) → is_in_body what ≡ true → member_in what ≡ None
member_none (field name) is = absurd (cc is)
member_none (static name) is = absurd (cc is)
member_none (method name) is = absurd (cc is)
member_none other is = refl

pub field_none : (what : Mentioned) → is_in_body what ≡ true → field_in what ≡ None
field_none (field name) is = absurd (cc is)
field_none other is = refl

pub static_none : (what : Mentioned) → is_in_body what ≡ true → static_in what ≡ None
static_none (static name) is = absurd (cc is)
static_none other is = refl

pub method_none : (what : Mentioned) → is_in_body what ≡ true → method_in what ≡ None
method_none (method name) is = absurd (cc is)
method_none other is = refl

pub parameter_none : (what : Mentioned) → is_in_body what ≡ true → parameter_in what ≡ None
parameter_none (parameter name) is = absurd (cc is)
parameter_none other is = refl

-- no class and no body begins in a statement
pub goes_on_class : (what : Mentioned) → is_in_body what ≡ true → begins_class what ≡ false
goes_on_class (class name) is = absurd (cc is)
goes_on_class other is = refl

pub goes_on_body : (what : Mentioned) → is_in_body what ≡ true → begins_body what ≡ false
goes_on_body (method name) is = absurd (cc is)
goes_on_body (client number) is = absurd (cc is)
goes_on_body other is = refl

-- what was mentioned since the last mention with which a part begins
abbrev pub in_part : (Mentioned → Bool) → List Mention → List Mention
in_part begins before = take (prefix_len (λ mention. not (begins mention.what)) before) before

-- a mention with which no part begins stands in the part, and behind one with which a part begins the part is empty
pub part_goes_on : (begins : Mentioned → Bool) (m : Mention) (before : List Mention) → begins m.what ≡ false → in_part begins (m ∷ before) ≡ m ∷ in_part begins before
part_goes_on begins m before goes =
    let n = prefix_len (λ mention. not (begins mention.what)) before in
    ap (λ b. take (cond (not b) (1 + n) 0) (m ∷ before)) goes ∙ ap (λ k. take k (m ∷ before)) (one-add n)

pub part_begins : (begins : Mentioned → Bool) (m : Mention) (before : List Mention) → begins m.what ≡ true → in_part begins (m ∷ before) ≡ []
part_begins begins m before starts = ap (λ b. take (cond (not b) (1 + prefix_len (λ mention. not (begins mention.what)) before) 0) (m ∷ before)) starts

module _ {A : Type 0} (sort : Mentioned → Option A) (test : Mentioned → Bool) (none : (what : Mentioned) → test what ≡ true → sort what ≡ None) where
  -- mentions of another sort give nothing
  pub text_none : (ms : List Mention) → MentionsPass test ms → in_text sort ms ≡ []
  text_none [] each = refl
  text_none (m ∷ rest) each = ap (λ found. cons_option found (in_text sort rest)) (none m.what (first_passes test m rest each)) ∙ text_none rest (rest_pass test m rest each)

  -- behind mentions of another sort what was mentioned of the sort is as before: in the text, and in a part that goes on
  pub text_keeps : (ms before : List Mention) → MentionsPass test ms → in_text sort (behind before ms) ≡ in_text sort before
  text_keeps [] before each = refl
  text_keeps (m ∷ rest) before each = text_keeps rest (m ∷ before) (rest_pass test m rest each) ∙ ap (λ found. cons_option found (in_text sort before)) (none m.what (first_passes test m rest each))

  pub part_keeps : (begins : Mentioned → Bool) → ((what : Mentioned) → test what ≡ true → begins what ≡ false) → (ms before : List Mention) → MentionsPass test ms
      → in_text sort (in_part begins (behind before ms)) ≡ in_text sort (in_part begins before)
  part_keeps begins goes [] before each = refl
  part_keeps begins goes (m ∷ rest) before each =
      part_keeps begins goes rest (m ∷ before) (rest_pass test m rest each) ∙ ap (in_text sort) (part_goes_on begins m before (goes m.what (first_passes test m rest each)))
      ∙ ap (λ found. cons_option found (in_text sort (in_part begins before))) (none m.what (first_passes test m rest each))

-- a part that goes on has the mentions
pub part_grows : (begins test : Mentioned → Bool) → ((what : Mentioned) → test what ≡ true → begins what ≡ false) → (ms before : List Mention) → MentionsPass test ms
    → in_part begins (behind before ms) ≡ behind (in_part begins before) ms
part_grows begins test goes [] before each = refl
part_grows begins test goes (m ∷ rest) before each =
    part_grows begins test goes rest (m ∷ before) (rest_pass test m rest each) ∙ ap (λ part. behind part rest) (part_goes_on begins m before (goes m.what (first_passes test m rest each)))

-- what stands before a dot and a name, or has a method called, mentions uses alone
qualifier_uses : (bare : Option (ℕ × Word)) (mentions : List Word → List Mention) (name : Word) (known : List Word) → MentionsPass is_use (mentions known) → MentionsPass is_use (qualifier_mentions bare mentions name known)
qualifier_uses None mentions name known uses = uses
qualifier_uses (Some at) mentions name known uses = refl

receiver_uses : (bare : Option (ℕ × Word)) (mentions : List Word → List Mention) (known : List Word) → MentionsPass is_use (mentions known) → MentionsPass is_use (receiver_mentions bare mentions known)
receiver_uses None mentions known uses = uses
receiver_uses (Some at) mentions known uses = refl

-- `this` is a use
this_uses : (in_thread : Bool) (line : ℕ) → MentionsPass is_use (if in_thread then on line this ∷ [] else [])
this_uses true line = refl
this_uses false line = refl

-- a tree with what is known of it
abbrev pub Sure : {A : Type 0} → (A → Type 0) → Type 0
Sure {A} P = (a : A) × P a

-- what a form mentions
abbrev pub form_part : Owner → ExprForm → ℕ → Part
form_part owner = fold-ExprForm (ℕ → Part) Part (part_of owner) (λ tree. tree.form tree.line)

-- an expression of this owner mentions uses alone, and so does a form on each line
abbrev pub UsesTree : Owner → ExprTree → Type 0
UsesTree owner tree = (known : List Word) → MentionsPass is_use ((expression owner tree).mentions known)

abbrev pub UsesForm : Owner → ExprForm → Type 0
UsesForm owner form = (line : ℕ) (known : List Word) → MentionsPass is_use ((form_part owner form line).mentions known)

-- the arguments of a call mention uses alone
args_use : (owner : Owner) (args : List (Sure (UsesTree owner))) (known : List Word) → MentionsPass is_use (all_of (map (expression owner) (map (λ one. one.0) args)) known)
args_use owner [] known = refl
args_use owner (one ∷ rest) known =
    pass_append is_use ((expression owner one.0).mentions known) (all_of (map (expression owner) (map (λ one. one.0) rest)) known) (one.1 known) (args_use owner rest known)

-- a form whose parts mention uses alone
form_uses : (owner : Owner) (y : ExprForm-F (Sure (UsesForm owner)) (Sure (UsesTree owner))) (line : ℕ) (known : List Word)
    → MentionsPass is_use ((part_of owner (map-ExprForm (ExprForm) (ExprTree) (ℕ → Part) Part (form_part owner) (expression owner) (map-ExprForm (Sure (UsesForm owner)) (Sure (UsesTree owner)) ExprForm ExprTree (λ e. e.0) (λ e. e.0) y)) line).mentions known)
form_uses owner (ExprForm-F.Number v) line known = refl
form_uses owner (ExprForm-F.Text content) line known = refl
form_uses owner (ExprForm-F.Truth b) line known = refl
form_uses owner ExprForm-F.Null line known = refl
form_uses owner ExprForm-F.This line known = this_uses owner.in_thread line
form_uses owner (ExprForm-F.Name name) line known = refl
form_uses owner (ExprForm-F.Paren a) line known = a.1 known
form_uses owner (ExprForm-F.NewObject name) line known = refl
form_uses owner (ExprForm-F.NewArray kind a) line known = a.1 known
form_uses owner (ExprForm-F.Field a name) line known = qualifier_uses (expression owner a.0).bare (expression owner a.0).mentions name.name known (a.1 known)
form_uses owner (ExprForm-F.Call a name args) line known =
    pass_append is_use (receiver_mentions (expression owner a.0).bare (expression owner a.0).mentions known) _ (receiver_uses (expression owner a.0).bare (expression owner a.0).mentions known (a.1 known))
    (args_use owner args known)
form_uses owner (ExprForm-F.Elem a b) line known = pass_append is_use ((expression owner a.0).mentions known) ((expression owner b.0).mentions known) (a.1 known) (b.1 known)
form_uses owner (ExprForm-F.Unary op a) line known = a.1 known
form_uses owner (ExprForm-F.Binary op a b) line known = pass_append is_use ((expression owner a.0).mentions known) ((expression owner b.0).mentions known) (a.1 known) (b.1 known)

-- An expression mentions uses alone.
pub expression_uses : (owner : Owner) (tree : ExprTree) (known : List Word) → MentionsPass is_use ((expression owner tree).mentions known)
expression_uses owner = ind-ExprTree (UsesForm owner) (UsesTree owner)
    (λ x y is line known. subst (λ z. MentionsPass is_use ((form_part owner (roll-ExprForm z) line).mentions known)) is
    (subst (λ part. MentionsPass is_use ((part line).mentions known)) (sym (fold-roll-ExprForm (ℕ → Part) Part (part_of owner) (λ tree. tree.form tree.line) (map-ExprForm (Sure (UsesForm owner)) (Sure (UsesTree owner)) ExprForm ExprTree (λ e. e.0) (λ e. e.0) y))) (form_uses owner y line known)))
    (λ x y is known. subst (λ z. MentionsPass is_use ((expression owner (roll-ExprTree z)).mentions known)) is
    (subst (λ part. MentionsPass is_use (part.mentions known)) (sym (fold-roll-ExprTree (ℕ → Part) Part (part_of owner) (λ tree. tree.form tree.line) (map-ExprTree (Sure (UsesForm owner)) (Sure (UsesTree owner)) ExprForm ExprTree (λ e. e.0) (λ e. e.0) y))) (y.form.1 y.line known)))

-- what is returned mentions uses alone
pub answer_uses : (owner : Owner) (a : Option ExprTree) (known : List Word) → MentionsPass is_use (answer owner a known)
answer_uses owner None known = refl
answer_uses owner (Some a) known = expression_uses owner a known

-- what an expression mentions is in a body
pub expression_in_body : (owner : Owner) (tree : ExprTree) (known : List Word) → MentionsPass is_in_body ((expression owner tree).mentions known)
expression_in_body owner tree known = pass_weaker is_use is_in_body use_in_body ((expression owner tree).mentions known) (expression_uses owner tree known)

-- what a statement's form mentions
abbrev pub form_step : Owner → StmtForm → ℕ → Step
form_step owner = fold-StmtForm (ℕ → Step) Step (step_of owner) (λ tree. tree.form tree.line)

-- a statement of this owner, or a form on each line, mentions uses, variables and locked blocks
abbrev pub InBodyTree : Owner → StmtTree → Type 0
InBodyTree owner tree = (known : List Word) → MentionsPass is_in_body ((statement owner tree).mentions known)

abbrev pub InBodyForm : Owner → StmtForm → Type 0
InBodyForm owner form = (line : ℕ) (known : List Word) → MentionsPass is_in_body ((form_step owner form line).mentions known)

-- the statements of a block mention what a body does
steps_in_body : (owner : Owner) (trees : List (Sure (InBodyTree owner))) (known : List Word) → MentionsPass is_in_body (block (map (statement owner) (map (λ one. one.0) trees)) known)
steps_in_body owner [] known = refl
steps_in_body owner (one ∷ rest) known =
    pass_append is_in_body ((statement owner one.0).mentions known) _ (one.1 known) (steps_in_body owner rest ((statement owner one.0).names ++ known))

-- a form whose parts do
form_in_body : (owner : Owner) (y : StmtForm-F (Sure (InBodyForm owner)) (Sure (InBodyTree owner))) (line : ℕ) (known : List Word)
    → MentionsPass is_in_body ((step_of owner (map-StmtForm StmtForm StmtTree (ℕ → Step) Step (form_step owner) (statement owner) (map-StmtForm (Sure (InBodyForm owner)) (Sure (InBodyTree owner)) StmtForm StmtTree (λ e. e.0) (λ e. e.0) y)) line).mentions known)
form_in_body owner (StmtForm-F.Var name a) line known = expression_in_body owner a known
form_in_body owner (StmtForm-F.Assign a b) line known = pass_append is_in_body ((expression owner a).mentions known) _ (expression_in_body owner a known) (expression_in_body owner b known)
form_in_body owner (StmtForm-F.Eval a) line known = expression_in_body owner a known
form_in_body owner (StmtForm-F.If a all others) line known =
    pass_append is_in_body ((expression owner a).mentions known) _ (expression_in_body owner a known)
    (pass_append is_in_body (block (map (statement owner) (map (λ one. one.0) all)) known) _ (steps_in_body owner all known) (steps_in_body owner others known))
form_in_body owner (StmtForm-F.While a all) line known = pass_append is_in_body ((expression owner a).mentions known) _ (expression_in_body owner a known) (steps_in_body owner all known)
form_in_body owner (StmtForm-F.Sync a all) line known =
    pass_append is_in_body ((expression owner a).mentions known) _ (expression_in_body owner a known) (steps_in_body owner all known)
form_in_body owner (StmtForm-F.Wait a) line known = expression_in_body owner a known
form_in_body owner (StmtForm-F.TimedWait a b) line known = pass_append is_in_body ((expression owner a).mentions known) _ (expression_in_body owner a known) (expression_in_body owner b known)
form_in_body owner (StmtForm-F.Notify a) line known = expression_in_body owner a known
form_in_body owner (StmtForm-F.NotifyAll a) line known = expression_in_body owner a known
form_in_body owner (StmtForm-F.Print a) line known = expression_in_body owner a known
form_in_body owner (StmtForm-F.Return a) line known = pass_weaker is_use is_in_body use_in_body (answer owner a known) (answer_uses owner a known)

-- A statement mentions uses, variables and locked blocks.
pub statement_in_body : (owner : Owner) (tree : StmtTree) (known : List Word) → MentionsPass is_in_body ((statement owner tree).mentions known)
statement_in_body owner = ind-StmtTree (InBodyForm owner) (InBodyTree owner)
    (λ x y is line known. subst (λ z. MentionsPass is_in_body ((form_step owner (roll-StmtForm z) line).mentions known)) is
    (subst (λ one. MentionsPass is_in_body ((one line).mentions known)) (sym (fold-roll-StmtForm (ℕ → Step) Step (step_of owner) (λ tree. tree.form tree.line) (map-StmtForm (Sure (InBodyForm owner)) (Sure (InBodyTree owner)) StmtForm StmtTree (λ e. e.0) (λ e. e.0) y))) (form_in_body owner y line known)))
    (λ x y is known. subst (λ z. MentionsPass is_in_body ((statement owner (roll-StmtTree z)).mentions known)) is
    (subst (λ one. MentionsPass is_in_body (one.mentions known)) (sym (fold-roll-StmtTree (ℕ → Step) Step (step_of owner) (λ tree. tree.form tree.line) (map-StmtTree (Sure (InBodyForm owner)) (Sure (InBodyTree owner)) StmtForm StmtTree (λ e. e.0) (λ e. e.0) y))) (y.form.1 y.line known)))

-- So does a block.
pub block_in_body : (owner : Owner) (trees : List StmtTree) (known : List Word) → MentionsPass is_in_body (block (map (statement owner) trees) known)
block_in_body owner [] known = refl
block_in_body owner (tree ∷ rest) known =
    pass_append is_in_body ((statement owner tree).mentions known) _ (statement_in_body owner tree known) (block_in_body owner rest ((statement owner tree).names ++ known))
