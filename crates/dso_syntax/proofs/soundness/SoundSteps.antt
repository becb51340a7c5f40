-- What the reader reads is of the grammar: single tokens.
use Rattle.std.proofs.Common.{◌≡◌, ℕ, zero, suc, Bool, true, false, cond, [], ◌∷◌, Some, Ok, Err, refl, sym, subst, ap, ◌∙◌}
use Rattle.std.proofs.lemmas.Option.{same_Some}
use Rattle.std.proofs.lemmas.Bool.{false≢true}
use Rattle.std.proofs.lemmas.Slice.Eq.{bytes_eq-Decides}
use Rattle.dso_tokens.specs.declared.token.Keyword.{Keyword}
use Rattle.dso_tokens.specs.declared.token.Mark.{Mark}
use Rattle.dso_tokens.specs.declared.token.Form.{Form}
use Rattle.dso_tokens.specs.declared.token.Form.TheVariants as form
use Rattle.dso_tokens.specs.declared.token.Token.{Token}
use Rattle.dso_syntax.specs.declared.tree.Ident.{Ident}
use Rattle.dso_tokens.specs.Spelling.{word_of, symbol_of}
use Rattle.dso_tokens.specs.Scan as scan
use Rattle.dso_syntax.specs.Grammar.{Tokens, IsMark, IsName, IsKeyword}
use Rattle.dso_tokens.proofs.tokens.Symbols.{symbol_is, mark_written}
use Rattle.dso_tokens.proofs.tokens.Words.{reserved_is}
use Rattle.dso_syntax.specs.ExpressionReader.{Input, StopCause, Outcome, Parser, and_then, refuse, mark_of, keyword_of, is_mark, is_keyword, next_mark, next_keyword, take_from, take_any, take_mark, take_keyword, enter, leave, open_mark, close_mark, take_name, name_from, name_by}
use Rattle.dso_syntax.proofs.completeness.ReadSteps.{at}

-- what was read, and that nothing was
pub ok_is : {A : Type 0} (x y : A × Input) → ◌≡◌ {A = Outcome A} (Ok x) (Ok y) → x ≡ y
ok_is x y same = ap (λ o. got o x) same
  where
    got : {A : Type 0} → Outcome A → A × Input → A × Input
    got (Ok p) other = p
    got (Err stop) other = other

pub err_is : {A : Type 0} (x : A × Input) (stop : StopCause × Tokens) → ◌≡◌ {A = Outcome A} (Err stop) (Ok x) → ⊥
err_is x stop same = false≢true (ap is_read same)
  where
    is_read : {A : Type 0} → Outcome A → Bool
    is_read (Ok p) = true
    is_read (Err stop) = false

-- the two steps of which something was read
pub record Steps {A B : Type 0} (o : Outcome A) (f : A → Parser B) (b : B) (j : Input) : Type 0 where
  pub value : A
  pub between : Input
  pub first : o ≡ Ok (value, between)
  pub second : f value between ≡ Ok (b, j)

pub steps : {A B : Type 0} (o : Outcome A) (f : A → Parser B) (b : B) (j : Input) → and_then o f ≡ Ok (b, j) → Steps o f b j
steps (Ok p) f b j read = record { value = p.0; between = p.1; first = refl; second = read }
steps (Err stop) f b j read = absurd (err_is (b, j) stop read)

-- a token was taken
pub record Took (R : Token → Type 0) (i : Input) (room : ℕ) (t : Token) (j : Input) : Type 0 where
  pub is : i.tokens ≡ t ∷ j.tokens
  pub holds : R t
  pub room_is : j.room ≡ room

same_mark : (mark other : Mark) → is_mark mark (Some other) ≡ true → mark ≡ other
same_mark mark other same = same_Some mark other (sym (symbol_is mark).known ∙ ap mark_written ((bytes_eq-Decides (symbol_of mark) (symbol_of other)).0 same) ∙ (symbol_is other).known)

same_keyword : (word other : Keyword) → is_keyword word (Some other) ≡ true → word ≡ other
same_keyword word other same = same_Some word other (sym (reserved_is word).known ∙ ap scan.keyword_of ((bytes_eq-Decides (word_of word) (word_of other)).0 same) ∙ (reserved_is other).known)

pub form_mark : (mark : Mark) (this : Form) → is_mark mark (mark_of this) ≡ true → this ≡ form.Mark mark
form_mark mark (form.Mark other) same = ap form.Mark (sym (same_mark mark other same))
form_mark mark (form.Name name) same = absurd (false≢true same)
form_mark mark (form.Keyword word) same = absurd (false≢true same)
form_mark mark (form.Number value) same = absurd (false≢true same)
form_mark mark (form.Text content) same = absurd (false≢true same)

pub form_keyword : (word : Keyword) (this : Form) → is_keyword word (keyword_of this) ≡ true → this ≡ form.Keyword word
form_keyword word (form.Keyword other) same = ap form.Keyword (sym (same_keyword word other same))
form_keyword word (form.Name name) same = absurd (false≢true same)
form_keyword word (form.Mark mark) same = absurd (false≢true same)
form_keyword word (form.Number value) same = absurd (false≢true same)
form_keyword word (form.Text content) same = absurd (false≢true same)

-- any token
pub took_any : (R : Token → Type 0) (room : ℕ) (tokens : Tokens) (t : Token) (j : Input) → ((first : Token) (rest : Tokens) → tokens ≡ first ∷ rest → R first) → take_from room tokens ≡ Ok (t, j) → Took R (at tokens room) room t j
took_any R room [] t j holds read = absurd (err_is (t, j) _ read)
took_any R room (first ∷ rest) t j holds read =
    subst (λ (p : Token × Input). Took R (at (first ∷ rest) room) room p.0 p.1) (ok_is (first, at rest room) (t, j) read) (record { is = refl; holds = holds first rest refl; room_is = refl })

-- a symbol
pub mark_took : (mark : Mark) (i : Input) (t : Token) (j : Input) → take_mark mark i ≡ Ok (t, j) → Took (IsMark mark) i i.room t j
mark_took mark i t j read = pick (is_mark mark (next_mark i.tokens)) refl read
  where
    pick : (test : Bool) → is_mark mark (next_mark i.tokens) ≡ test → cond test (take_any i) (refuse i) ≡ Ok (t, j) → Took (IsMark mark) i i.room t j
    pick true is read = took_any (IsMark mark) i.room i.tokens t j (λ first rest same. form_mark mark first.form (ap (λ z. is_mark mark (next_mark z)) (sym same) ∙ is)) read
    pick false is read = absurd (err_is (t, j) _ read)

-- a reserved word
pub keyword_took : (word : Keyword) (i : Input) (t : Token) (j : Input) → take_keyword word i ≡ Ok (t, j) → Took (IsKeyword word) i i.room t j
keyword_took word i t j read = pick (is_keyword word (next_keyword i.tokens)) refl read
  where
    pick : (test : Bool) → is_keyword word (next_keyword i.tokens) ≡ test → cond test (take_any i) (refuse i) ≡ Ok (t, j) → Took (IsKeyword word) i i.room t j
    pick true is read = took_any (IsKeyword word) i.room i.tokens t j (λ first rest same. form_keyword word first.form (ap (λ z. is_keyword word (next_keyword z)) (sym same) ∙ is)) read
    pick false is read = absurd (err_is (t, j) _ read)

-- a symbol that takes a level
pub record Opened (R : Token → Type 0) (i : Input) (t : Token) (j : Input) : Type 0 where
  pub room_is : i.room ≡ suc j.room
  pub is : i.tokens ≡ t ∷ j.tokens
  pub holds : R t

entered : (R : Token → Type 0) (tokens : Tokens) (room : ℕ) (t : Token) (j : Input) → ((first : Token) (rest : Tokens) → tokens ≡ first ∷ rest → R first)
    → and_then (Rattle.dso_syntax.specs.ExpressionReader.enter_at tokens room) (λ _. take_any) ≡ Ok (t, j) → Opened R (at tokens room) t j
entered R tokens zero t j holds read = absurd (err_is (t, j) _ read)
entered R tokens (suc room) t j holds read =
    let took : Took R (at tokens room) room t j = took_any R room tokens t j holds read in
    record { room_is = ap suc (sym took.room_is); is = took.is; holds = took.holds }

pub open_took : (mark : Mark) (i : Input) (t : Token) (j : Input) → open_mark mark i ≡ Ok (t, j) → Opened (IsMark mark) i t j
open_took mark i t j read = pick (is_mark mark (next_mark i.tokens)) refl read
  where
    pick : (test : Bool) → is_mark mark (next_mark i.tokens) ≡ test → cond test (and_then (enter i) (λ _. take_any)) (refuse i) ≡ Ok (t, j) → Opened (IsMark mark) i t j
    pick true is read = entered (IsMark mark) i.tokens i.room t j (λ first rest same. form_mark mark first.form (ap (λ z. is_mark mark (next_mark z)) (sym same) ∙ is)) read
    pick false is read = absurd (err_is (t, j) _ read)

-- a symbol that gives a level back
pub close_took : (mark : Mark) (i : Input) (t : Token) (j : Input) → close_mark mark i ≡ Ok (t, j) → Took (IsMark mark) i (suc i.room) t j
close_took mark i t j read =
    let two = steps (take_mark mark i) (λ t j. and_then (leave j) (λ _. Rattle.dso_syntax.specs.ExpressionReader.pure t)) t j read in
    let took = mark_took mark i two.value two.between two.first in
    subst (λ (p : Token × Input). Took (IsMark mark) i (suc i.room) p.0 p.1) (ok_is (two.value, at two.between.tokens (suc two.between.room)) (t, j) two.second)
    (record { is = took.is; holds = took.holds; room_is = ap suc took.room_is })

-- a name
pub record Named (i : Input) (name : Ident) (j : Input) : Type 0 where
  pub token : Token
  pub is : i.tokens ≡ token ∷ j.tokens
  pub holds : IsName name token
  pub room_is : j.room ≡ i.room

pub name_took : (room : ℕ) (tokens : Tokens) (name : Ident) (j : Input) → name_from room tokens ≡ Ok (name, j) → Named (at tokens room) name j
name_took room [] name j read = absurd (err_is (name, j) _ read)
name_took room (t ∷ rest) name j read = by_form t.form refl read
  where
    by_form : (this : Form) → t.form ≡ this → name_by room t rest this ≡ Ok (name, j) → Named (at (t ∷ rest) room) name j
    by_form (form.Name word) is read =
        subst (λ (p : Ident × Input). Named (at (t ∷ rest) room) p.0 p.1) (ok_is (record { line = t.line; name = word }, at rest room) (name, j) read)
        (record { token = t; is = refl; holds = (is, refl); room_is = refl })
    by_form (form.Keyword word) is read = absurd (err_is (name, j) _ read)
    by_form (form.Number value) is read = absurd (err_is (name, j) _ read)
    by_form (form.Text content) is read = absurd (err_is (name, j) _ read)
    by_form (form.Mark mark) is read = absurd (err_is (name, j) _ read)
