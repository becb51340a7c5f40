-- What the grammar of expressions has is read, and as that tree.
use Rattle.std.proofs.Common.{◌≡◌, ℕ, zero, suc, ◌≤◌, ◌<◌, true, false, ◌==◌, List, [], ◌∷◌, ◌++◌, Some, None, Ok, refl, ap, arith}
use Rattle.std.proofs.lemmas.Option.{none-some}
use Rattle.std.proofs.lemmas.Bool.Decides.{Decides-eqb}
use Rattle.dso_base.specs.declared.op.Op.{Op}
use Rattle.dso_tokens.specs.declared.token.Keyword.TheVariants as k
use Rattle.dso_tokens.specs.declared.token.Mark.{Mark}
use Rattle.dso_tokens.specs.declared.token.Mark.TheVariants as m
use Rattle.dso_tokens.specs.declared.token.Form.{Form}
use Rattle.dso_tokens.specs.declared.token.Form.TheVariants as form
use Rattle.dso_tokens.specs.declared.token.Token.{Token}
use Rattle.dso_syntax.specs.declared.tree.Ident.{Ident}
use Rattle.dso_syntax.specs.declared.tree.ExprTree.{ExprTree}
use Rattle.dso_syntax.specs.declared.tree.ExprForm.{ExprForm}
use Rattle.dso_syntax.specs.declared.tree.ExprForm.TheVariants as e
use Rattle.dso_syntax.specs.Grammar as g
use Rattle.dso_syntax.specs.Grammar.{Tokens, expression, line_of, kind_of, operator_of, sign_of, plain_of, top_rank, IsMark, IsName, IsKeyword, Binary, Unary, Postfix, Primary, Whole, Arguments, Listed}
use Rattle.dso_syntax.specs.ProgramReader.{lead_of, plain}
use Rattle.dso_syntax.specs.ExpressionReader.{Input, Parser, mark_of, keyword_of, is_mark, is_keyword, next_mark, of_rank, operator_at, sign_at, arguments, suffixes, made, operations}

-- these tokens with this room
abbrev pub at : Tokens → ℕ → Input
at tokens room = record { tokens = tokens; room = room }

-- what an operator is not
pub record IsOperator (mark : Mark) : Type 0 where
  pub no_dot : is_mark m.Dot (Some mark) ≡ false
  pub no_bracket : is_mark m.OpenBracket (Some mark) ≡ false
  pub no_paren : is_mark m.OpenParen (Some mark) ≡ false

pub operator_is : (mark : Mark) (p : ℕ × Op) → operator_of mark ≡ Some p → IsOperator mark
operator_is m.OpenBrace p is = absurd (none-some p is)
operator_is m.CloseBrace p is = absurd (none-some p is)
operator_is m.OpenParen p is = absurd (none-some p is)
operator_is m.CloseParen p is = absurd (none-some p is)
operator_is m.OpenBracket p is = absurd (none-some p is)
operator_is m.CloseBracket p is = absurd (none-some p is)
operator_is m.Semicolon p is = absurd (none-some p is)
operator_is m.Comma p is = absurd (none-some p is)
operator_is m.Dot p is = absurd (none-some p is)
operator_is m.Assign p is = absurd (none-some p is)
operator_is m.EqualTo p is = record { no_dot = refl; no_bracket = refl; no_paren = refl }
operator_is m.NotEqual p is = record { no_dot = refl; no_bracket = refl; no_paren = refl }
operator_is m.Less p is = record { no_dot = refl; no_bracket = refl; no_paren = refl }
operator_is m.LessEqual p is = record { no_dot = refl; no_bracket = refl; no_paren = refl }
operator_is m.Greater p is = record { no_dot = refl; no_bracket = refl; no_paren = refl }
operator_is m.GreaterEqual p is = record { no_dot = refl; no_bracket = refl; no_paren = refl }
operator_is m.Plus p is = record { no_dot = refl; no_bracket = refl; no_paren = refl }
operator_is m.Minus p is = record { no_dot = refl; no_bracket = refl; no_paren = refl }
operator_is m.Star p is = record { no_dot = refl; no_bracket = refl; no_paren = refl }
operator_is m.Slash p is = record { no_dot = refl; no_bracket = refl; no_paren = refl }
operator_is m.Percent p is = record { no_dot = refl; no_bracket = refl; no_paren = refl }
operator_is m.Bang p is = absurd (none-some p is)
operator_is m.AndAnd p is = record { no_dot = refl; no_bracket = refl; no_paren = refl }
operator_is m.OrOr p is = record { no_dot = refl; no_bracket = refl; no_paren = refl }

-- What an expression of a rank ends before: nothing is asked of it, and no tighter operator goes on with it.
pub record Ends (rank : ℕ) (rest : Tokens) : Type 0 where
  pub no_dot : is_mark m.Dot (next_mark rest) ≡ false
  pub no_bracket : is_mark m.OpenBracket (next_mark rest) ≡ false
  pub no_paren : is_mark m.OpenParen (next_mark rest) ≡ false
  pub no_tighter : (r : ℕ) → r < rank → of_rank r (operator_at (next_mark rest)) ≡ None

-- what a higher rank ends before, a lower does too
pub ends_lower : (rank : ℕ) (rest : Tokens) → Ends (suc rank) rest → Ends rank rest
ends_lower rank rest ends = record {
  no_dot = ends.no_dot;
  no_bracket = ends.no_bracket;
  no_paren = ends.no_paren;
  no_tighter = λ r below. ends.no_tighter r (omega arith);
}

not_rank : (rank r : ℕ) → r < rank → (rank == r) ≡ false
not_rank rank r below = grind arith

-- an operator ends an expression of its rank
pub ends_operator : (rank : ℕ) (o : Op) (mark : Mark) (t : Token) (rest : Tokens) → IsMark mark t → operator_of mark ≡ Some (rank, o) → Ends rank (t ∷ rest)
ends_operator rank o mark t rest is operator =
    let known : IsOperator mark = operator_is mark (rank, o) operator in
    record {
      no_dot = rw is known.no_dot;
      no_bracket = rw is known.no_bracket;
      no_paren = rw is known.no_paren;
      no_tighter = λ r below. rw (is, operator, not_rank rank r below) refl;
    }

-- ---- how much room is left

mutual
  pub binary_room : {rank room left : ℕ} {ts : Tokens} {a : ExprTree} → Binary rank room left ts a → left ≤ room
  binary_room (g.operand d) = unary_room d
  binary_room (g.tighter d) = binary_room d
  binary_room (g.operation {between = between} t mark o is operator d e) = let first = binary_room d in let second = binary_room e in omega (arith, first, second)

  pub unary_room : {room left : ℕ} {ts : Tokens} {a : ExprTree} → Unary room left ts a → left ≤ room
  unary_room (g.plain d) = postfix_room d
  unary_room (g.signed t mark o is sign d) = let inner = unary_room d in omega (arith, inner)

  pub postfix_room : {room left : ℕ} {ts : Tokens} {a : ExprTree} → Postfix room left ts a → left ≤ room
  postfix_room (g.primary d) = omega arith
  postfix_room (g.field dot named name is_dot is_name d) = let inner = postfix_room d in omega (arith, inner)
  postfix_room (g.call dot named opening closing name is_dot is_name opens closes d all) = let inner = postfix_room d in omega (arith, inner)
  postfix_room (g.element opening closing opens closes d b) = let inner = postfix_room d in omega (arith, inner)

-- ---- what an expression begins with

-- the first token, which closes nothing and leads no statement
pub record Starts (ts : Tokens) : Type 0 where
  pub first : Token
  pub more : Tokens
  pub is : ts ≡ first ∷ more
  pub no_close : is_mark m.CloseParen (mark_of first.form) ≡ false
  pub no_brace : is_mark m.CloseBrace (mark_of first.form) ≡ false
  pub no_end : is_mark m.Semicolon (mark_of first.form) ≡ false
  pub no_lead : lead_of (keyword_of first.form) ≡ plain
  pub no_else : is_keyword k.Else (keyword_of first.form) ≡ false

-- the first token, which closes nothing, leads no statement and is no sign
pub record StartsPlain (ts : Tokens) : Type 0 where
  pub first : Token
  pub more : Tokens
  pub is : ts ≡ first ∷ more
  pub no_close : is_mark m.CloseParen (mark_of first.form) ≡ false
  pub no_brace : is_mark m.CloseBrace (mark_of first.form) ≡ false
  pub no_end : is_mark m.Semicolon (mark_of first.form) ≡ false
  pub no_lead : lead_of (keyword_of first.form) ≡ plain
  pub no_else : is_keyword k.Else (keyword_of first.form) ≡ false
  pub no_sign : sign_at (mark_of first.form) ≡ None

sign_closes_nothing : (mark : Mark) (o : Op) → sign_of mark ≡ Some o → (is_mark m.CloseParen (Some mark) ≡ false) × (is_mark m.CloseBrace (Some mark) ≡ false) × (is_mark m.Semicolon (Some mark) ≡ false)
sign_closes_nothing m.OpenBrace o is = absurd (none-some o is)
sign_closes_nothing m.CloseBrace o is = absurd (none-some o is)
sign_closes_nothing m.OpenParen o is = absurd (none-some o is)
sign_closes_nothing m.CloseParen o is = absurd (none-some o is)
sign_closes_nothing m.OpenBracket o is = absurd (none-some o is)
sign_closes_nothing m.CloseBracket o is = absurd (none-some o is)
sign_closes_nothing m.Semicolon o is = absurd (none-some o is)
sign_closes_nothing m.Comma o is = absurd (none-some o is)
sign_closes_nothing m.Dot o is = absurd (none-some o is)
sign_closes_nothing m.Assign o is = absurd (none-some o is)
sign_closes_nothing m.EqualTo o is = absurd (none-some o is)
sign_closes_nothing m.NotEqual o is = absurd (none-some o is)
sign_closes_nothing m.Less o is = absurd (none-some o is)
sign_closes_nothing m.LessEqual o is = absurd (none-some o is)
sign_closes_nothing m.Greater o is = absurd (none-some o is)
sign_closes_nothing m.GreaterEqual o is = absurd (none-some o is)
sign_closes_nothing m.Plus o is = absurd (none-some o is)
sign_closes_nothing m.Minus o is = (refl, refl, refl)
sign_closes_nothing m.Star o is = absurd (none-some o is)
sign_closes_nothing m.Slash o is = absurd (none-some o is)
sign_closes_nothing m.Percent o is = absurd (none-some o is)
sign_closes_nothing m.Bang o is = (refl, refl, refl)
sign_closes_nothing m.AndAnd o is = absurd (none-some o is)
sign_closes_nothing m.OrOr o is = absurd (none-some o is)

plain_is_no_mark : (this : Form) (tree : ExprForm) → plain_of this ≡ Some tree → mark_of this ≡ None
plain_is_no_mark (form.Mark mark) tree is = absurd (none-some tree is)
plain_is_no_mark (form.Name name) tree is = refl
plain_is_no_mark (form.Keyword word) tree is = refl
plain_is_no_mark (form.Number value) tree is = refl
plain_is_no_mark (form.Text content) tree is = refl

-- and leads no statement
plain_leads : (this : Form) (tree : ExprForm) → plain_of this ≡ Some tree → (lead_of (keyword_of this) ≡ plain) × (is_keyword k.Else (keyword_of this) ≡ false)
plain_leads (form.Mark mark) tree is = (refl, refl)
plain_leads (form.Name name) tree is = (refl, refl)
plain_leads (form.Number value) tree is = (refl, refl)
plain_leads (form.Text content) tree is = (refl, refl)
plain_leads (form.Keyword k.Class) tree is = absurd (none-some tree is)
plain_leads (form.Keyword k.Static) tree is = absurd (none-some tree is)
plain_leads (form.Keyword k.Synchronized) tree is = absurd (none-some tree is)
plain_leads (form.Keyword k.Thread) tree is = absurd (none-some tree is)
plain_leads (form.Keyword k.Var) tree is = absurd (none-some tree is)
plain_leads (form.Keyword k.If) tree is = absurd (none-some tree is)
plain_leads (form.Keyword k.Else) tree is = absurd (none-some tree is)
plain_leads (form.Keyword k.While) tree is = absurd (none-some tree is)
plain_leads (form.Keyword k.Wait) tree is = absurd (none-some tree is)
plain_leads (form.Keyword k.Notify) tree is = absurd (none-some tree is)
plain_leads (form.Keyword k.NotifyAll) tree is = absurd (none-some tree is)
plain_leads (form.Keyword k.Print) tree is = absurd (none-some tree is)
plain_leads (form.Keyword k.Return) tree is = absurd (none-some tree is)
plain_leads (form.Keyword k.New) tree is = absurd (none-some tree is)
plain_leads (form.Keyword k.This) tree is = (refl, refl)
plain_leads (form.Keyword k.Null) tree is = (refl, refl)
plain_leads (form.Keyword k.True) tree is = (refl, refl)
plain_leads (form.Keyword k.False) tree is = (refl, refl)
plain_leads (form.Keyword k.Long) tree is = absurd (none-some tree is)
plain_leads (form.Keyword k.Boolean) tree is = absurd (none-some tree is)
plain_leads (form.Keyword k.Text) tree is = absurd (none-some tree is)
plain_leads (form.Keyword k.Ref) tree is = absurd (none-some tree is)

begins_with : {ts : Tokens} (us : Tokens) → StartsPlain ts → StartsPlain (ts ++ us)
begins_with us starts = record { first = starts.first; more = starts.more ++ us; is = ap (λ z. z ++ us) starts.is; no_close = starts.no_close; no_brace = starts.no_brace; no_end = starts.no_end; no_lead = starts.no_lead; no_else = starts.no_else; no_sign = starts.no_sign }

starts_with : {ts : Tokens} (us : Tokens) → Starts ts → Starts (ts ++ us)
starts_with us starts = record { first = starts.first; more = starts.more ++ us; is = ap (λ z. z ++ us) starts.is; no_close = starts.no_close; no_brace = starts.no_brace; no_end = starts.no_end; no_lead = starts.no_lead; no_else = starts.no_else }

pub primary_starts : {room : ℕ} {ts : Tokens} {a : ExprTree} → Primary room ts a → StartsPlain ts
primary_starts (g.single t this is) = record { first = t; more = []; is = refl; no_close = rw (plain_is_no_mark t.form this is) refl; no_brace = rw (plain_is_no_mark t.form this is) refl; no_end = rw (plain_is_no_mark t.form this is) refl; no_lead = (plain_leads t.form this is).0; no_else = (plain_leads t.form this is).1; no_sign = rw (plain_is_no_mark t.form this is) refl }
primary_starts (g.parens {ts = ts} opening closing opens closes d) = record { first = opening; more = ts ++ closing ∷ []; is = refl; no_close = rw opens refl; no_brace = rw opens refl; no_end = rw opens refl; no_lead = rw opens refl; no_else = rw opens refl; no_sign = rw opens refl }
primary_starts (g.object new named opening closing name is_new is_name opens closes) = record { first = new; more = named ∷ opening ∷ closing ∷ []; is = refl; no_close = rw is_new refl; no_brace = rw is_new refl; no_end = rw is_new refl; no_lead = rw is_new refl; no_else = rw is_new refl; no_sign = rw is_new refl }
primary_starts (g.array {ts = ts} new made opening closing word this is_new is_word is_kind opens closes d) = record { first = new; more = made ∷ opening ∷ ts ++ closing ∷ []; is = refl; no_close = rw is_new refl; no_brace = rw is_new refl; no_end = rw is_new refl; no_lead = rw is_new refl; no_else = rw is_new refl; no_sign = rw is_new refl }

pub postfix_starts : {room left : ℕ} {ts : Tokens} {a : ExprTree} → Postfix room left ts a → StartsPlain ts
postfix_starts (g.primary d) = primary_starts d
postfix_starts (g.field dot named name is_dot is_name d) = begins_with _ (postfix_starts d)
postfix_starts (g.call dot named opening closing name is_dot is_name opens closes d all) = begins_with _ (postfix_starts d)
postfix_starts (g.element opening closing opens closes d b) = begins_with _ (postfix_starts d)

plainly : {ts : Tokens} → StartsPlain ts → Starts ts
plainly starts = record { first = starts.first; more = starts.more; is = starts.is; no_close = starts.no_close; no_brace = starts.no_brace; no_end = starts.no_end; no_lead = starts.no_lead; no_else = starts.no_else }

pub unary_starts : {room left : ℕ} {ts : Tokens} {a : ExprTree} → Unary room left ts a → Starts ts
unary_starts (g.plain d) = plainly (postfix_starts d)
unary_starts (g.signed {ts = ts} t mark o is sign d) = record { first = t; more = ts; is = refl; no_close = rw is (sign_closes_nothing mark o sign).0; no_brace = rw is (sign_closes_nothing mark o sign).1; no_end = rw is (sign_closes_nothing mark o sign).2; no_lead = rw is refl; no_else = rw is refl }

pub binary_starts : {rank room left : ℕ} {ts : Tokens} {a : ExprTree} → Binary rank room left ts a → Starts ts
binary_starts (g.operand d) = unary_starts d
binary_starts (g.tighter d) = binary_starts d
binary_starts (g.operation t mark o is operator d e) = starts_with _ (binary_starts d)

pub whole_starts : {room : ℕ} {ts : Tokens} {a : ExprTree} → Whole room ts a → Starts ts
whole_starts (g.whole d) = binary_starts d

pub listed_starts : {room : ℕ} {ts : Tokens} {all : List ExprTree} → Listed room ts all → Starts ts
listed_starts (g.last d) = whole_starts d
listed_starts (g.more comma is d all) = starts_with _ (whole_starts d)

-- ---- single steps

-- ---- whole forms

-- what an operator with its operand adds to what was read
pub operation_step : (operand : Parser ExprTree) (rank count : ℕ) (t : Token) (mark : Mark) (o : Op) (a b : ExprTree) (us rest : Tokens) (between left : ℕ)
    → IsMark mark t → operator_of mark ≡ Some (rank, o) → operand (at (us ++ rest) between) ≡ Ok (b, at rest left)
    → operations operand rank (suc count) a (at (t ∷ us ++ rest) (suc between)) ≡ operations operand rank count (expression (line_of a) (e.Binary o a b)) (at rest left)
operation_step operand rank count t mark o a b us rest between left is operator read =
    let same : (rank == rank) ≡ true = (Decides-eqb rank rank).1 refl in
    rw (is, operator, same, read) refl

-- where no operator of the rank follows, nothing is added
pub operations_stop : (operand : Parser ExprTree) (rank count : ℕ) (a : ExprTree) (rest : Tokens) (left : ℕ) → of_rank rank (operator_at (next_mark rest)) ≡ None
    → operations operand rank count a (at rest left) ≡ Ok (a, at rest left)
operations_stop operand rank zero a rest left none = rw none refl
operations_stop operand rank (suc count) a rest left none = rw none refl

-- where nothing is asked, nothing is added
pub suffixes_stop : (deeper : Parser ExprTree) (count : ℕ) (a : ExprTree) (rest : Tokens) (left : ℕ) → is_mark m.Dot (next_mark rest) ≡ false → is_mark m.OpenBracket (next_mark rest) ≡ false
    → suffixes deeper count a (at rest left) ≡ Ok (a, at rest left)
suffixes_stop deeper zero a rest left no_dot no_bracket = rw (no_dot, no_bracket) refl
suffixes_stop deeper (suc count) a rest left no_dot no_bracket = rw (no_dot, no_bracket) refl

-- a field
pub field_step : (deeper : Parser ExprTree) (count left : ℕ) (dot named : Token) (name : Ident) (a : ExprTree) (rest : Tokens) → IsMark m.Dot dot → IsName name named
    → is_mark m.OpenParen (next_mark rest) ≡ false
    → suffixes deeper (suc count) a (at (dot ∷ named ∷ rest) (suc left)) ≡ suffixes deeper count (expression (line_of a) (e.Field a name)) (at rest left)
field_step deeper count left dot named name a rest is_dot is_name no_paren = rw (is_dot, is_name.0, is_name.1, no_paren) refl

-- a call
pub call_step : (deeper : Parser ExprTree) (count left : ℕ) (dot named opening closing : Token) (name : Ident) (a : ExprTree) (all : List ExprTree) (us rest : Tokens)
    → IsMark m.Dot dot → IsName name named → IsMark m.OpenParen opening → IsMark m.CloseParen closing
    → arguments deeper (at (us ++ closing ∷ rest) left) ≡ Ok (all, at (closing ∷ rest) left)
    → suffixes deeper (suc count) a (at (dot ∷ named ∷ opening ∷ us ++ closing ∷ rest) (suc (suc left))) ≡ suffixes deeper count (expression (line_of a) (e.Call a name all)) (at rest (suc left))
call_step deeper count left dot named opening closing name a all us rest is_dot is_name opens closes read =
    rw (is_dot, is_name.0, is_name.1, opens, read, closes) refl

-- an element
pub element_step : (deeper : Parser ExprTree) (count left : ℕ) (opening closing : Token) (a b : ExprTree) (us rest : Tokens) → IsMark m.OpenBracket opening → IsMark m.CloseBracket closing
    → deeper (at (us ++ closing ∷ rest) left) ≡ Ok (b, at (closing ∷ rest) left)
    → suffixes deeper (suc count) a (at (opening ∷ us ++ closing ∷ rest) (suc left)) ≡ suffixes deeper count (expression (line_of a) (e.Elem a b)) (at rest left)
element_step deeper count left opening closing a b us rest opens closes read = rw (opens, read, closes) refl
