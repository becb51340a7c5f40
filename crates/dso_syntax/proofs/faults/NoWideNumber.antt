-- No token of a program is a number that is too wide.
use Rattle.std.proofs.Common.{◌≡◌, ℕ, Bool, true, false, List, [], ◌∷◌, ◌++◌, Some, None, refl, sym, ap, ◌∙◌}
use Rattle.std.proofs.lemmas.Bool.{false≢true}
use Rattle.std.proofs.lemmas.Option.{none-some}
use Rattle.dso_tokens.specs.declared.token.Form.{Form}
use Rattle.dso_tokens.specs.declared.token.Form.TheVariants as form
use Rattle.dso_tokens.specs.declared.token.Token.{Token}
use Rattle.dso_syntax.specs.declared.tree.Ident.{Ident}
use Rattle.dso_syntax.specs.declared.tree.ExprTree.{ExprTree}
use Rattle.dso_syntax.specs.declared.tree.ExprForm.{ExprForm}
use Rattle.dso_syntax.specs.declared.tree.StmtTree.{StmtTree}
use Rattle.dso_syntax.specs.declared.tree.StmtForm.{StmtForm}
use Rattle.dso_syntax.specs.declared.tree.Item.{Item}
use Rattle.dso_syntax.specs.declared.tree.Member.{Member}
use Rattle.dso_syntax.specs.Grammar as g
use Rattle.dso_syntax.specs.Grammar.{Tokens, plain_of, Binary, Unary, Postfix, Primary, Whole, Arguments, Listed}
use Rattle.dso_syntax.specs.ProgramGrammar as p
use Rattle.dso_syntax.specs.ProgramGrammar.{Parenthesized, Waited, Body, Block, Statement, Conditional, Names, Parameters, Declared, Members, Top, Tops}

-- whether the form is a number that is too wide
abbrev pub wide_form : Form → Bool
wide_form (form.Number None) = true
wide_form other = false

abbrev pub AllNarrow : Tokens → Type 0
AllNarrow [] = Unit {0}
AllNarrow (t ∷ ts) = (wide_form t.form ≡ false) × AllNarrow ts

-- none of the tokens is a number that is too wide
pub record Narrow (ts : Tokens) : Type 0 where
  pub all : AllNarrow ts

both : {ts us : Tokens} → Narrow ts → Narrow us → Narrow (ts ++ us)
both {ts} {us} one two = pick ts one.all
  where
    pick : (ts : Tokens) → AllNarrow ts → Narrow (ts ++ us)
    pick [] all = two
    pick (t ∷ ts) all = let rest : Narrow (ts ++ us) = pick ts all.1 in record { all = (all.0, rest.all) }

none : Narrow []
none = record { all = tt }

one : {f : Form} (t : Token) → t.form ≡ f → wide_form f ≡ false → Narrow (t ∷ [])
one t is narrow = record { all = (ap wide_form is ∙ narrow, tt) }

plain_narrow : (f : Form) (this : ExprForm) → plain_of f ≡ Some this → wide_form f ≡ false
plain_narrow (form.Number None) this is = absurd (none-some this is)
plain_narrow (form.Number (Some n)) this is = refl
plain_narrow (form.Name name) this is = refl
plain_narrow (form.Keyword word) this is = refl
plain_narrow (form.Text content) this is = refl
plain_narrow (form.Mark mark) this is = refl

mutual
  n_binary : {rank room left : ℕ} {ts : Tokens} {a : ExprTree} → Binary rank room left ts a → Narrow ts
  n_binary (g.operand d) = n_unary d
  n_binary (g.tighter d) = n_binary d
  n_binary (g.operation t mark o is operator d e) = both (n_binary d) (both (one t is refl) (n_binary e))

  n_unary : {room left : ℕ} {ts : Tokens} {a : ExprTree} → Unary room left ts a → Narrow ts
  n_unary (g.plain d) = n_postfix d
  n_unary (g.signed t mark o is sign d) = both (one t is refl) (n_unary d)

  n_postfix : {room left : ℕ} {ts : Tokens} {a : ExprTree} → Postfix room left ts a → Narrow ts
  n_postfix (g.primary d) = n_primary d
  n_postfix (g.field dot named name is_dot is_name d) = both (n_postfix d) (both (one dot is_dot refl) (one named is_name.0 refl))
  n_postfix (g.call dot named opening closing name is_dot is_name opens closes d all) =
      both (n_postfix d) (both (one dot is_dot refl) (both (one named is_name.0 refl) (both (one opening opens refl) (both (n_arguments all) (one closing closes refl)))))
  n_postfix (g.element opening closing opens closes d b) = both (n_postfix d) (both (one opening opens refl) (both (n_whole b) (one closing closes refl)))

  n_primary : {room : ℕ} {ts : Tokens} {a : ExprTree} → Primary room ts a → Narrow ts
  n_primary (g.single t this is) = one t refl (plain_narrow t.form this is)
  n_primary (g.parens opening closing opens closes d) = both (one opening opens refl) (both (n_whole d) (one closing closes refl))
  n_primary (g.object new named opening closing name is_new is_name opens closes) = both (one new is_new refl) (both (one named is_name.0 refl) (both (one opening opens refl) (one closing closes refl)))
  n_primary (g.array new made opening closing word this is_new is_word is_kind opens closes d) =
      both (one new is_new refl) (both (one made is_word refl) (both (one opening opens refl) (both (n_whole d) (one closing closes refl))))

  n_whole : {room : ℕ} {ts : Tokens} {a : ExprTree} → Whole room ts a → Narrow ts
  n_whole (g.whole d) = n_binary d

  n_arguments : {room : ℕ} {ts : Tokens} {all : List ExprTree} → Arguments room ts all → Narrow ts
  n_arguments g.none = none
  n_arguments (g.some d) = n_listed d

  n_listed : {room : ℕ} {ts : Tokens} {all : List ExprTree} → Listed room ts all → Narrow ts
  n_listed (g.last d) = n_whole d
  n_listed (g.more comma is d rest) = both (n_whole d) (both (one comma is refl) (n_listed rest))

n_asked : {room : ℕ} {ts : Tokens} {a : ExprTree} → Parenthesized Whole room ts a → Narrow ts
n_asked (p.parenthesized opening closing opens closes d) = both (one opening opens refl) (both (n_whole d) (one closing closes refl))

n_waited : {room : ℕ} {ts : Tokens} {form : StmtForm} → Waited room ts form → Narrow ts
n_waited (p.untimed d) = n_whole d
n_waited (p.timed comma is d e) = both (n_whole d) (both (one comma is refl) (n_whole e))

n_waiting : {room : ℕ} {ts : Tokens} {form : StmtForm} → Parenthesized Waited room ts form → Narrow ts
n_waiting (p.parenthesized opening closing opens closes d) = both (one opening opens refl) (both (n_waited d) (one closing closes refl))

mutual
  n_body : {room : ℕ} {ts : Tokens} {all : List StmtTree} → Body room ts all → Narrow ts
  n_body p.done = none
  n_body (p.next d rest) = both (n_statement d) (n_body rest)

  n_block : {room : ℕ} {ts : Tokens} {all : List StmtTree} → Block room ts all → Narrow ts
  n_block (p.block opening closing opens closes d) = both (one opening opens refl) (both (n_body d) (one closing closes refl))

  n_statement : {room : ℕ} {ts : Tokens} {a : StmtTree} → Statement room ts a → Narrow ts
  n_statement (p.variable word named equals ending name is is_name is_equals is_ending d) =
      both (one word is refl) (both (one named is_name.0 refl) (both (one equals is_equals refl) (both (n_whole d) (one ending is_ending refl))))
  n_statement (p.assigned equals ending is_equals is_ending d place e) = both (n_whole d) (both (one equals is_equals refl) (both (n_whole e) (one ending is_ending refl)))
  n_statement (p.evaluated ending is d) = both (n_whole d) (one ending is refl)
  n_statement (p.conditional d) = n_conditional d
  n_statement (p.guarded word which made is known d body) = both (one word is refl) (both (n_asked d) (n_block body))
  n_statement (p.command word ending which made is known is_ending d) = both (one word is refl) (both (n_asked d) (one ending is_ending refl))
  n_statement (p.waiting word ending is is_ending d) = both (one word is refl) (both (n_waiting d) (one ending is_ending refl))
  n_statement (p.returned word ending is is_ending) = both (one word is refl) (one ending is_ending refl)
  n_statement (p.returned_with word ending is is_ending d) = both (one word is refl) (both (n_whole d) (one ending is_ending refl))

  n_conditional : {room : ℕ} {ts : Tokens} {a : StmtTree} → Conditional room ts a → Narrow ts
  n_conditional (p.alone word is d body) = both (one word is refl) (both (n_asked d) (n_block body))
  n_conditional (p.otherwise word else' is is_else d body other) = both (one word is refl) (both (n_asked d) (both (n_block body) (both (one else' is_else refl) (n_block other))))
  n_conditional (p.chained word else' is is_else d body other) = both (one word is refl) (both (n_asked d) (both (n_block body) (both (one else' is_else refl) (n_conditional other))))

n_names : {ts : Tokens} {all : List Ident} → Names ts all → Narrow ts
n_names (p.last named name is) = one named is.0 refl
n_names (p.more named comma name is is_comma rest) = both (one named is.0 refl) (both (one comma is_comma refl) (n_names rest))

n_parameters : {ts : Tokens} {all : List Ident} → Parameters ts all → Narrow ts
n_parameters p.none = none
n_parameters (p.some d) = n_names d

n_declared : {room : ℕ} {ts : Tokens} {a : Member} → Declared room ts a → Narrow ts
n_declared (p.field word named ending which this name is known is_name is_ending) = both (one word is refl) (both (one named is_name.0 refl) (one ending is_ending refl))
n_declared (p.static word made named ending name is is_made is_name is_ending) = both (one word is refl) (both (one made is_made refl) (both (one named is_name.0 refl) (one ending is_ending refl)))
n_declared (p.method named opening closing name is_name opens closes params body) =
    both (one named is_name.0 refl) (both (one opening opens refl) (both (n_parameters params) (both (one closing closes refl) (n_block body))))
n_declared (p.synchronized word named opening closing name is is_name opens closes params body) =
    both (one word is refl) (both (one named is_name.0 refl) (both (one opening opens refl) (both (n_parameters params) (both (one closing closes refl) (n_block body)))))

n_members : {room : ℕ} {ts : Tokens} {all : List Member} → Members room ts all → Narrow ts
n_members p.done = none
n_members (p.next d rest) = both (n_declared d) (n_members rest)

n_top : {room : ℕ} {ts : Tokens} {a : Item} → Top room ts a → Narrow ts
n_top (p.class word named opening closing name is is_name opens closes d) = both (one word is refl) (both (one named is_name.0 refl) (both (one opening opens refl) (both (n_members d) (one closing closes refl))))
n_top (p.thread word counted number is is_number body) = both (one word is refl) (both (one counted is_number refl) (n_block body))

-- none of a program's tokens is
pub program_narrow : {room : ℕ} {ts : Tokens} {all : List Item} → Tops room ts all → Narrow ts
program_narrow p.done = none
program_narrow (p.next d rest) = both (n_top d) (program_narrow rest)

-- so a token in it is not
pub narrow_at : (before : Tokens) (t : Token) (after : Tokens) → Narrow (before ++ t ∷ after) → t.form ≡ form.Number None → ⊥
narrow_at [] t after narrow is = false≢true (sym narrow.all.0 ∙ ap wide_form is)
narrow_at (u ∷ before) t after narrow is = narrow_at before t after (record { all = narrow.all.1 }) is
