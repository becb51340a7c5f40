-- Every statement, member and program of the grammar is read, and as its tree.
use Rattle.std.proofs.Common.{◌≡◌, ℕ, zero, suc, ◌≤◌, true, false, List, [], ◌∷◌, ◌++◌, length, Some, None, Ok, refl, ap, ◌∙◌, arith, append_assoc, length-append}
use Rattle.std.proofs.lemmas.Option.{none-some, same_Some}
use Rattle.dso_base.specs.declared.value.Kind.{Kind}
use Rattle.dso_tokens.specs.declared.token.Keyword.{Keyword}
use Rattle.dso_tokens.specs.declared.token.Keyword.TheVariants as k
use Rattle.dso_tokens.specs.declared.token.Mark.TheVariants as m
use Rattle.dso_tokens.specs.declared.token.Token.{Token}
use Rattle.dso_syntax.specs.declared.tree.Ident.{Ident}
use Rattle.dso_syntax.specs.declared.tree.StmtTree.{StmtTree}
use Rattle.dso_syntax.specs.declared.tree.StmtForm.{StmtForm}
use Rattle.dso_syntax.specs.declared.tree.StmtForm.TheVariants as s
use Rattle.dso_syntax.specs.declared.tree.ExprTree.{ExprTree, out-ExprTree}
use Rattle.dso_syntax.specs.declared.tree.ExprForm.{out-ExprForm}
use Rattle.dso_syntax.specs.Grammar.{Tokens, IsMark, IsKeyword, IsName, line_of, kind_of, top_rank, Whole}
use Rattle.dso_syntax.specs.ProgramGrammar as p
use Rattle.dso_syntax.specs.ProgramGrammar.{statement, command_of, guarded_of, is_place, Parenthesized, Waited, Body, Block, Statement, Conditional, Names, Parameters, Declared, Members, Top, Tops}
use Rattle.dso_syntax.specs.ExpressionReader.{Parser, and_then, refuse, is_mark, is_keyword, next_mark, next_keyword, mark_of, keyword_of, whole}
use Rattle.dso_syntax.specs.ProgramReader.{parenthesized, until_brace, braced, conditional, guarded, command, lead_of, behind_expression, behind_waited, waited, behind_then, chain, by_lead, one_statement, block, field, start_of}
use Rattle.dso_syntax.proofs.completeness.ReadSteps.{at, Ends, Starts, whole_starts}
use Rattle.dso_syntax.proofs.completeness.ReadExpressions.{inner_read, ends_comma, ends_close, regroup}

-- what may stand behind a whole expression
ends_semicolon : (t : Token) (rest : Tokens) → IsMark m.Semicolon t → Ends top_rank (t ∷ rest)
ends_semicolon t rest is = record { no_dot = rw is refl; no_bracket = rw is refl; no_paren = rw is refl; no_tighter = λ r below. rw is refl }

ends_assign : (t : Token) (rest : Tokens) → IsMark m.Assign t → Ends top_rank (t ∷ rest)
ends_assign t rest is = record { no_dot = rw is refl; no_bracket = rw is refl; no_paren = rw is refl; no_tighter = λ r below. rw is refl }

-- the first word of a statement with a guard, or that tells something
guarded_lead : (word : Keyword) (made : ExprTree → List StmtTree → StmtForm) → guarded_of word ≡ Some made → (lead_of (Some word) ≡ guarded made) × (is_keyword k.Else (Some word) ≡ false)
guarded_lead k.Class made is = absurd (none-some made is)
guarded_lead k.Static made is = absurd (none-some made is)
guarded_lead k.Synchronized made is = (ap guarded (same_Some s.Sync made is), refl)
guarded_lead k.Thread made is = absurd (none-some made is)
guarded_lead k.Var made is = absurd (none-some made is)
guarded_lead k.If made is = absurd (none-some made is)
guarded_lead k.Else made is = absurd (none-some made is)
guarded_lead k.While made is = (ap guarded (same_Some s.While made is), refl)
guarded_lead k.Wait made is = absurd (none-some made is)
guarded_lead k.Notify made is = absurd (none-some made is)
guarded_lead k.NotifyAll made is = absurd (none-some made is)
guarded_lead k.Print made is = absurd (none-some made is)
guarded_lead k.Return made is = absurd (none-some made is)
guarded_lead k.New made is = absurd (none-some made is)
guarded_lead k.This made is = absurd (none-some made is)
guarded_lead k.Null made is = absurd (none-some made is)
guarded_lead k.True made is = absurd (none-some made is)
guarded_lead k.False made is = absurd (none-some made is)
guarded_lead k.Long made is = absurd (none-some made is)
guarded_lead k.Boolean made is = absurd (none-some made is)
guarded_lead k.Text made is = absurd (none-some made is)
guarded_lead k.Ref made is = absurd (none-some made is)

command_lead : (word : Keyword) (made : ExprTree → StmtForm) → command_of word ≡ Some made → (lead_of (Some word) ≡ command made) × (is_keyword k.Else (Some word) ≡ false)
command_lead k.Class made is = absurd (none-some made is)
command_lead k.Static made is = absurd (none-some made is)
command_lead k.Synchronized made is = absurd (none-some made is)
command_lead k.Thread made is = absurd (none-some made is)
command_lead k.Var made is = absurd (none-some made is)
command_lead k.If made is = absurd (none-some made is)
command_lead k.Else made is = absurd (none-some made is)
command_lead k.While made is = absurd (none-some made is)
command_lead k.Wait made is = absurd (none-some made is)
command_lead k.Notify made is = (ap command (same_Some s.Notify made is), refl)
command_lead k.NotifyAll made is = (ap command (same_Some s.NotifyAll made is), refl)
command_lead k.Print made is = (ap command (same_Some s.Print made is), refl)
command_lead k.Return made is = absurd (none-some made is)
command_lead k.New made is = absurd (none-some made is)
command_lead k.This made is = absurd (none-some made is)
command_lead k.Null made is = absurd (none-some made is)
command_lead k.True made is = absurd (none-some made is)
command_lead k.False made is = absurd (none-some made is)
command_lead k.Long made is = absurd (none-some made is)
command_lead k.Boolean made is = absurd (none-some made is)
command_lead k.Text made is = absurd (none-some made is)
command_lead k.Ref made is = absurd (none-some made is)

pub kind_start : (word : Keyword) (this : Kind) → kind_of word ≡ Some this → start_of (Some word) ≡ field this
kind_start k.Class this is = absurd (none-some this is)
kind_start k.Static this is = absurd (none-some this is)
kind_start k.Synchronized this is = absurd (none-some this is)
kind_start k.Thread this is = absurd (none-some this is)
kind_start k.Var this is = absurd (none-some this is)
kind_start k.If this is = absurd (none-some this is)
kind_start k.Else this is = absurd (none-some this is)
kind_start k.While this is = absurd (none-some this is)
kind_start k.Wait this is = absurd (none-some this is)
kind_start k.Notify this is = absurd (none-some this is)
kind_start k.NotifyAll this is = absurd (none-some this is)
kind_start k.Print this is = absurd (none-some this is)
kind_start k.Return this is = absurd (none-some this is)
kind_start k.New this is = absurd (none-some this is)
kind_start k.This this is = absurd (none-some this is)
kind_start k.Null this is = absurd (none-some this is)
kind_start k.True this is = absurd (none-some this is)
kind_start k.False this is = absurd (none-some this is)
kind_start k.Long this is = ap field (same_Some Rattle.dso_base.specs.declared.value.Kind.TheVariants.Long this is)
kind_start k.Boolean this is = ap field (same_Some Rattle.dso_base.specs.declared.value.Kind.TheVariants.Bool this is)
kind_start k.Text this is = ap field (same_Some Rattle.dso_base.specs.declared.value.Kind.TheVariants.Text this is)
kind_start k.Ref this is = ap field (same_Some Rattle.dso_base.specs.declared.value.Kind.TheVariants.Ref this is)

-- what a statement begins with: no closing brace and no `else`
pub record Opens (ts : Tokens) : Type 0 where
  pub first : Token
  pub more : Tokens
  pub is : ts ≡ first ∷ more
  pub no_brace : is_mark m.CloseBrace (mark_of first.form) ≡ false
  pub no_else : is_keyword k.Else (keyword_of first.form) ≡ false

by_expression : {ts : Tokens} (us : Tokens) → Starts ts → Opens (ts ++ us)
by_expression us starts = record { first = starts.first; more = starts.more ++ us; is = ap (λ z. z ++ us) starts.is; no_brace = starts.no_brace; no_else = starts.no_else }

by_word : (word : Keyword) (t : Token) (more : Tokens) → IsKeyword word t → is_keyword k.Else (Some word) ≡ false → Opens (t ∷ more)
by_word word t more is no_else = record { first = t; more = more; is = refl; no_brace = rw is refl; no_else = rw is no_else }

conditional_opens : {room : ℕ} {ts : Tokens} {a : StmtTree} → Conditional room ts a → Opens ts
conditional_opens (p.alone {ts = ts} {us = us} word is_word cs bs) = by_word k.If word (ts ++ us) is_word refl
conditional_opens (p.otherwise {ts = ts} {us = us} {vs = vs} word other is_word is_else cs bs es) = by_word k.If word (ts ++ (us ++ other ∷ vs)) is_word refl
conditional_opens (p.chained {ts = ts} {us = us} {vs = vs} word other is_word is_else cs bs es) = by_word k.If word (ts ++ (us ++ other ∷ vs)) is_word refl

statement_opens : {room : ℕ} {ts : Tokens} {a : StmtTree} → Statement room ts a → Opens ts
statement_opens (p.variable {ts = ts} word named equals ending name is_word is_name is_equals is_ending d) = by_word k.Var word (named ∷ equals ∷ ts ++ ending ∷ []) is_word refl
statement_opens (p.assigned {us = us} equals ending is_equals is_ending d place b) = by_expression (equals ∷ us ++ ending ∷ []) (whole_starts d)
statement_opens (p.evaluated ending is_ending d) = by_expression (ending ∷ []) (whole_starts d)
statement_opens (p.conditional d) = conditional_opens d
statement_opens (p.guarded {ts = ts} {us = us} word which made is_word is_made cs bs) = by_word which word (ts ++ us) is_word (guarded_lead which made is_made).1
statement_opens (p.command {ts = ts} word ending which made is_word is_made is_ending cs) = by_word which word (ts ++ ending ∷ []) is_word (command_lead which made is_made).1
statement_opens (p.waiting {ts = ts} word ending is_word is_ending cs) = by_word k.Wait word (ts ++ ending ∷ []) is_word refl
statement_opens (p.returned word ending is_word is_ending) = by_word k.Return word (ending ∷ []) is_word refl
statement_opens (p.returned_with {ts = ts} word ending is_word is_ending d) = by_word k.Return word (ts ++ ending ∷ []) is_word refl

-- ---- single steps, with any reader of expressions and of blocks

asked_step : {A : Type 0} (expr : Parser A) (room : ℕ) (opening closing : Token) (ts rest : Tokens) (a : A) → IsMark m.OpenParen opening → IsMark m.CloseParen closing
    → expr (at (ts ++ closing ∷ rest) room) ≡ Ok (a, at (closing ∷ rest) room) → parenthesized expr (at (opening ∷ ts ++ closing ∷ rest) (suc room)) ≡ Ok (a, at rest (suc room))
asked_step expr room opening closing ts rest a opens closes read = rw (opens, read, closes) refl

variable_step : (expr : Parser ExprTree) (block : Parser (List StmtTree)) (n room : ℕ) (word named equals ending : Token) (name : Ident) (ts rest : Tokens) (a : ExprTree)
    → IsKeyword k.Var word → IsName name named → IsMark m.Assign equals → IsMark m.Semicolon ending → expr (at (ts ++ ending ∷ rest) room) ≡ Ok (a, at (ending ∷ rest) room)
    → one_statement expr block n (at (word ∷ named ∷ equals ∷ ts ++ ending ∷ rest) room) ≡ Ok (statement word.line (s.Var name a), at rest room)
variable_step expr block n room word named equals ending name ts rest a is_word is_name is_equals is_ending read = rw (is_word, is_name.0, is_name.1, is_equals, read, is_ending) refl

-- a statement that begins with an expression
expression_step : (expr : Parser ExprTree) (block : Parser (List StmtTree)) (n room : ℕ) (ts rest : Tokens) → Starts ts
    → one_statement expr block n (at (ts ++ rest) room) ≡ and_then (expr (at (ts ++ rest) room)) (behind_expression expr)
expression_step expr block n room ts rest starts =
    ap (λ l. by_lead expr block n l (at (ts ++ rest) room)) (ap (λ z. lead_of (next_keyword (z ++ rest))) starts.is ∙ starts.no_lead)

assigned_step : (expr : Parser ExprTree) (room : ℕ) (equals ending : Token) (us rest : Tokens) (a b : ExprTree) → IsMark m.Assign equals → IsMark m.Semicolon ending
    → is_place (out-ExprForm (out-ExprTree a).form) ≡ true → expr (at (us ++ ending ∷ rest) room) ≡ Ok (b, at (ending ∷ rest) room)
    → behind_expression expr a (at (equals ∷ us ++ ending ∷ rest) room) ≡ Ok (statement (line_of a) (s.Assign a b), at rest room)
assigned_step expr room equals ending us rest a b is_equals is_ending place read = rw (is_equals, place, read, is_ending) refl

evaluated_step : (expr : Parser ExprTree) (room : ℕ) (ending : Token) (rest : Tokens) (a : ExprTree) → IsMark m.Semicolon ending
    → behind_expression expr a (at (ending ∷ rest) room) ≡ Ok (statement (line_of a) (s.Eval a), at rest room)
evaluated_step expr room ending rest a is_ending = rw is_ending refl

guarded_step : (expr : Parser ExprTree) (block : Parser (List StmtTree)) (n room : ℕ) (word : Token) (which : Keyword) (made : ExprTree → List StmtTree → StmtForm) (ts us rest : Tokens) (a : ExprTree) (all : List StmtTree)
    → IsKeyword which word → guarded_of which ≡ Some made → parenthesized expr (at (ts ++ (us ++ rest)) room) ≡ Ok (a, at (us ++ rest) room) → block (at (us ++ rest) room) ≡ Ok (all, at rest room)
    → one_statement expr block n (at (word ∷ ts ++ (us ++ rest)) room) ≡ Ok (statement word.line (made a all), at rest room)
guarded_step expr block n room word which made ts us rest a all is_word is_made read later = rw (is_word, (guarded_lead which made is_made).0, read, later) refl

told_step : (expr : Parser ExprTree) (block : Parser (List StmtTree)) (n room : ℕ) (word ending : Token) (which : Keyword) (made : ExprTree → StmtForm) (ts rest : Tokens) (a : ExprTree)
    → IsKeyword which word → command_of which ≡ Some made → IsMark m.Semicolon ending → parenthesized expr (at (ts ++ (ending ∷ rest)) room) ≡ Ok (a, at (ending ∷ rest) room)
    → one_statement expr block n (at (word ∷ ts ++ (ending ∷ rest)) room) ≡ Ok (statement word.line (made a), at rest room)
told_step expr block n room word ending which made ts rest a is_word is_made is_ending read = rw (is_word, (command_lead which made is_made).0, read, is_ending) refl

timed_step : (expr : Parser ExprTree) (room : ℕ) (comma : Token) (us rest : Tokens) (a b : ExprTree) → IsMark m.Comma comma → expr (at (us ++ rest) room) ≡ Ok (b, at rest room)
    → behind_waited expr a (at (comma ∷ us ++ rest) room) ≡ Ok (s.TimedWait a b, at rest room)
timed_step expr room comma us rest a b is_comma read = rw (is_comma, read) refl

untimed_step : (expr : Parser ExprTree) (room : ℕ) (closing : Token) (rest : Tokens) (a : ExprTree) → IsMark m.CloseParen closing
    → behind_waited expr a (at (closing ∷ rest) room) ≡ Ok (s.Wait a, at (closing ∷ rest) room)
untimed_step expr room closing rest a closes = rw closes refl

waiting_step : (expr : Parser ExprTree) (block : Parser (List StmtTree)) (n room : ℕ) (word ending : Token) (ts rest : Tokens) (form : StmtForm)
    → IsKeyword k.Wait word → IsMark m.Semicolon ending → parenthesized (waited expr) (at (ts ++ (ending ∷ rest)) room) ≡ Ok (form, at (ending ∷ rest) room)
    → one_statement expr block n (at (word ∷ ts ++ (ending ∷ rest)) room) ≡ Ok (statement word.line form, at rest room)
waiting_step expr block n room word ending ts rest form is_word is_ending read = rw (is_word, read, is_ending) refl

returned_step : (expr : Parser ExprTree) (block : Parser (List StmtTree)) (n room : ℕ) (word ending : Token) (rest : Tokens) → IsKeyword k.Return word → IsMark m.Semicolon ending
    → one_statement expr block n (at (word ∷ ending ∷ rest) room) ≡ Ok (statement word.line (s.Return None), at rest room)
returned_step expr block n room word ending rest is_word is_ending = rw (is_word, is_ending) refl

returned_with_step : (expr : Parser ExprTree) (block : Parser (List StmtTree)) (n room : ℕ) (word ending : Token) (ts rest : Tokens) (a : ExprTree) → IsKeyword k.Return word → IsMark m.Semicolon ending → Starts ts
    → expr (at (ts ++ ending ∷ rest) room) ≡ Ok (a, at (ending ∷ rest) room)
    → one_statement expr block n (at (word ∷ ts ++ ending ∷ rest) room) ≡ Ok (statement word.line (s.Return (Some a)), at rest room)
returned_with_step expr block n room word ending ts rest a is_word is_ending starts read =
    let no_end : is_mark m.Semicolon (next_mark (ts ++ ending ∷ rest)) ≡ false = ap (λ z. is_mark m.Semicolon (next_mark (z ++ ending ∷ rest))) starts.is ∙ starts.no_end in
    rw (is_word, no_end, read, is_ending) refl

-- what reads an `if` that is chained
abbrev chained_by : Parser ExprTree → Parser (List StmtTree) → ℕ → Parser StmtTree
chained_by expr block zero = refuse
chained_by expr block (suc n) = chain expr block n

-- an `if` up to its block
if_step : (expr : Parser ExprTree) (block : Parser (List StmtTree)) (n room : ℕ) (word : Token) (ts us rest : Tokens) (a : ExprTree) (all : List StmtTree)
    → IsKeyword k.If word → parenthesized expr (at (ts ++ (us ++ rest)) room) ≡ Ok (a, at (us ++ rest) room) → block (at (us ++ rest) room) ≡ Ok (all, at rest room)
    → chain expr block n (at (word ∷ ts ++ (us ++ rest)) room) ≡ behind_then (chained_by expr block n) block word.line a all (at rest room)
if_step expr block zero room word ts us rest a all is_word read later = rw (is_word, read, later) refl
if_step expr block (suc n) room word ts us rest a all is_word read later = rw (is_word, read, later) refl

alone_step : (next : Parser StmtTree) (block : Parser (List StmtTree)) (line room : ℕ) (a : ExprTree) (all : List StmtTree) (rest : Tokens) → is_keyword k.Else (next_keyword rest) ≡ false
    → behind_then next block line a all (at rest room) ≡ Ok (statement line (s.If a all []), at rest room)
alone_step next block line room a all rest no_else = rw no_else refl

otherwise_step : (next : Parser StmtTree) (block : Parser (List StmtTree)) (line room : ℕ) (a : ExprTree) (all others : List StmtTree) (other : Token) (vs rest : Tokens) → IsKeyword k.Else other
    → is_keyword k.If (next_keyword (vs ++ rest)) ≡ false → block (at (vs ++ rest) room) ≡ Ok (others, at rest room)
    → behind_then next block line a all (at (other ∷ vs ++ rest) room) ≡ Ok (statement line (s.If a all others), at rest room)
otherwise_step next block line room a all others other vs rest is_else no_if read = rw (is_else, no_if, read) refl

chained_step : (next : Parser StmtTree) (block : Parser (List StmtTree)) (line room : ℕ) (a : ExprTree) (all : List StmtTree) (one : StmtTree) (other : Token) (vs rest : Tokens) → IsKeyword k.Else other
    → is_keyword k.If (next_keyword (vs ++ rest)) ≡ true → next (at (vs ++ rest) room) ≡ Ok (one, at rest room)
    → behind_then next block line a all (at (other ∷ vs ++ rest) (suc room)) ≡ Ok (statement line (s.If a all (one ∷ [])), at rest (suc room))
chained_step next block line room a all one other vs rest is_else is_if read = rw (is_else, is_if, read) refl

-- items in braces
pub braced_step : {A : Type 0} (item : Parser A) (room : ℕ) (opening closing : Token) (ts rest : Tokens) (all : List A) → IsMark m.OpenBrace opening → IsMark m.CloseBrace closing
    → until_brace item (length (ts ++ closing ∷ rest)) (at (ts ++ closing ∷ rest) room) ≡ Ok (all, at (closing ∷ rest) room)
    → braced item (at (opening ∷ ts ++ closing ∷ rest) (suc room)) ≡ Ok (all, at rest (suc room))
braced_step item room opening closing ts rest all opens closes read = rw (opens, read, closes) refl

pub until_done : {A : Type 0} (item : Parser A) (count room : ℕ) (closing : Token) (rest : Tokens) → IsMark m.CloseBrace closing → until_brace item count (at (closing ∷ rest) room) ≡ Ok ([], at (closing ∷ rest) room)
until_done item zero room closing rest closes = rw closes refl
until_done item (suc count) room closing rest closes = rw closes refl

pub until_next : {A : Type 0} (item : Parser A) (count room : ℕ) (ts us rest : Tokens) (a : A) (all : List A) → is_mark m.CloseBrace (next_mark (ts ++ (us ++ rest))) ≡ false
    → item (at (ts ++ (us ++ rest)) room) ≡ Ok (a, at (us ++ rest) room) → until_brace item count (at (us ++ rest) room) ≡ Ok (all, at rest room)
    → until_brace item (suc count) (at (ts ++ (us ++ rest)) room) ≡ Ok (a ∷ all, at rest room)
until_next item count room ts us rest a all no_brace read later = rw (no_brace, read, later) refl

-- ---- every statement is read

-- the reader of expressions where so many levels may be opened
abbrev pub reader : ℕ → Parser ExprTree
reader n = whole (suc n)

-- three parts of the tokens, grouped the other way
regroup_three : (ts us vs rest : Tokens) (room : ℕ) → at ((ts ++ (us ++ vs)) ++ rest) room ≡ at (ts ++ (us ++ (vs ++ rest))) room
regroup_three ts us vs rest room = regroup ts (us ++ vs) rest room ∙ ap (λ z. at (ts ++ z) room) (append_assoc us vs rest)

asked_read : (n : ℕ) {room : ℕ} {ts : Tokens} {a : ExprTree} → Parenthesized Whole room ts a → (rest : Tokens) → room ≤ n → parenthesized (reader n) (at (ts ++ rest) room) ≡ Ok (a, at rest room)
asked_read n (p.parenthesized {room = room} {ts = ts} {a = a} opening closing opens closes d) rest bound =
    ap (parenthesized (reader n)) (regroup (opening ∷ ts) (closing ∷ []) rest (suc room))
    ∙ asked_step (reader n) room opening closing ts rest a opens closes (inner_read (suc n) d (closing ∷ rest) (omega arith) (ends_close closing rest closes))

waited_read : (n : ℕ) {room : ℕ} {ts : Tokens} {form : StmtForm} → Waited room ts form → (closing : Token) (rest : Tokens) → room ≤ n → IsMark m.CloseParen closing
    → waited (reader n) (at (ts ++ closing ∷ rest) room) ≡ Ok (form, at (closing ∷ rest) room)
waited_read n (p.untimed {room = room} {a = a} d) closing rest bound closes =
    ap (λ o. and_then o (behind_waited (reader n))) (inner_read (suc n) d (closing ∷ rest) (omega arith) (ends_close closing rest closes)) ∙ untimed_step (reader n) room closing rest a closes
waited_read n (p.timed {room = room} {ts = ts} {us = us} {a = a} {b = b} comma is_comma d e) closing rest bound closes =
    ap (waited (reader n)) (regroup ts (comma ∷ us) (closing ∷ rest) room)
    ∙ ap (λ o. and_then o (behind_waited (reader n))) (inner_read (suc n) d (comma ∷ us ++ closing ∷ rest) (omega arith) (ends_comma comma (us ++ closing ∷ rest) is_comma))
    ∙ timed_step (reader n) room comma us (closing ∷ rest) a b is_comma (inner_read (suc n) e (closing ∷ rest) (omega arith) (ends_close closing rest closes))

waiting_read : (n : ℕ) {room : ℕ} {ts : Tokens} {form : StmtForm} → Parenthesized Waited room ts form → (rest : Tokens) → room ≤ n → parenthesized (waited (reader n)) (at (ts ++ rest) room) ≡ Ok (form, at rest room)
waiting_read n (p.parenthesized {room = room} {ts = ts} {a = form} opening closing opens closes d) rest bound =
    ap (parenthesized (waited (reader n))) (regroup (opening ∷ ts) (closing ∷ []) rest (suc room))
    ∙ asked_step (waited (reader n)) room opening closing ts rest form opens closes (waited_read n d closing rest (omega arith) closes)

block_no_if : {room : ℕ} {ts : Tokens} {all : List StmtTree} → Block room ts all → (rest : Tokens) → is_keyword k.If (next_keyword (ts ++ rest)) ≡ false
block_no_if (p.block opening closing opens closes d) rest = rw opens refl

conditional_if : {room : ℕ} {ts : Tokens} {a : StmtTree} → Conditional room ts a → (rest : Tokens) → is_keyword k.If (next_keyword (ts ++ rest)) ≡ true
conditional_if (p.alone word is_word cs bs) rest = rw is_word refl
conditional_if (p.otherwise word other is_word is_else cs bs es) rest = rw is_word refl
conditional_if (p.chained word other is_word is_else cs bs es) rest = rw is_word refl

conditional_lead : {room : ℕ} {ts : Tokens} {a : StmtTree} → Conditional room ts a → (rest : Tokens) → lead_of (next_keyword (ts ++ rest)) ≡ conditional
conditional_lead (p.alone word is_word cs bs) rest = rw is_word refl
conditional_lead (p.otherwise word other is_word is_else cs bs es) rest = rw is_word refl
conditional_lead (p.chained word other is_word is_else cs bs es) rest = rw is_word refl

-- what stands behind a statement of a block is no `else`
body_no_else : {room : ℕ} {ts : Tokens} {all : List StmtTree} → Body room ts all → (closing : Token) (rest : Tokens) → IsMark m.CloseBrace closing → is_keyword k.Else (next_keyword (ts ++ closing ∷ rest)) ≡ false
body_no_else p.done closing rest closes = rw closes refl
body_no_else (p.next {ts = ts} {us = us} d later) closing rest closes =
    ap (λ z. is_keyword k.Else (next_keyword ((z ++ us) ++ closing ∷ rest))) (statement_opens d).is ∙ (statement_opens d).no_else

-- nor is it a closing brace before the last
statement_no_brace : {room : ℕ} {ts : Tokens} {a : StmtTree} → Statement room ts a → (rest : Tokens) → is_mark m.CloseBrace (next_mark (ts ++ rest)) ≡ false
statement_no_brace d rest = ap (λ z. is_mark m.CloseBrace (next_mark (z ++ rest))) (statement_opens d).is ∙ (statement_opens d).no_brace

some_tokens : {ts : Tokens} → Opens ts → 1 ≤ length ts
some_tokens opens = let len = ap length opens.is in omega (arith, len)

-- a block has no more statements than tokens
body_count : {room : ℕ} {ts : Tokens} {all : List StmtTree} → Body room ts all → length all ≤ length ts
body_count p.done = omega arith
body_count (p.next {ts = ts} {us = us} d later) = let some = some_tokens (statement_opens d) in let more = body_count later in let len = length-append ts us in omega (arith, some, more, len)

mutual
  pub statement_read : (n depth : ℕ) {room : ℕ} {ts : Tokens} {a : StmtTree} → Statement room ts a → (rest : Tokens) → room ≤ n → room ≤ depth → is_keyword k.Else (next_keyword rest) ≡ false
      → one_statement (reader n) (block (reader n) depth) depth (at (ts ++ rest) room) ≡ Ok (a, at rest room)
  statement_read n depth (p.variable {room = room} {ts = ts} {a = a} word named equals ending name is_word is_name is_equals is_ending d) rest bound deep no_else =
      ap (one_statement (reader n) (block (reader n) depth) depth) (regroup (word ∷ named ∷ equals ∷ ts) (ending ∷ []) rest room)
      ∙ variable_step (reader n) (block (reader n) depth) depth room word named equals ending name ts rest a is_word is_name is_equals is_ending
      (inner_read (suc n) d (ending ∷ rest) (omega arith) (ends_semicolon ending rest is_ending))
  statement_read n depth (p.assigned {room = room} {ts = ts} {us = us} {a = a} {b = b} equals ending is_equals is_ending d place later) rest bound deep no_else =
      ap (one_statement (reader n) (block (reader n) depth) depth) (regroup_three ts (equals ∷ us) (ending ∷ []) rest room)
      ∙ expression_step (reader n) (block (reader n) depth) depth room ts (equals ∷ us ++ ending ∷ rest) (whole_starts d)
      ∙ ap (λ o. and_then o (behind_expression (reader n))) (inner_read (suc n) d (equals ∷ us ++ ending ∷ rest) (omega arith) (ends_assign equals (us ++ ending ∷ rest) is_equals))
      ∙ assigned_step (reader n) room equals ending us rest a b is_equals is_ending place (inner_read (suc n) later (ending ∷ rest) (omega arith) (ends_semicolon ending rest is_ending))
  statement_read n depth (p.evaluated {room = room} {ts = ts} {a = a} ending is_ending d) rest bound deep no_else =
      ap (one_statement (reader n) (block (reader n) depth) depth) (regroup ts (ending ∷ []) rest room)
      ∙ expression_step (reader n) (block (reader n) depth) depth room ts (ending ∷ rest) (whole_starts d)
      ∙ ap (λ o. and_then o (behind_expression (reader n))) (inner_read (suc n) d (ending ∷ rest) (omega arith) (ends_semicolon ending rest is_ending))
      ∙ evaluated_step (reader n) room ending rest a is_ending
  statement_read n depth (p.conditional {room = room} {ts = ts} d) rest bound deep no_else =
      ap (λ l. by_lead (reader n) (block (reader n) depth) depth l (at (ts ++ rest) room)) (conditional_lead d rest)
      ∙ conditional_read n depth depth d rest bound deep deep no_else
  statement_read n depth (p.guarded {room = room} {ts = ts} {us = us} {a = a} {all = all} word which made is_word is_made cs bs) rest bound deep no_else =
      ap (one_statement (reader n) (block (reader n) depth) depth) (regroup (word ∷ ts) us rest room)
      ∙ guarded_step (reader n) (block (reader n) depth) depth room word which made ts us rest a all is_word is_made (asked_read n cs (us ++ rest) bound) (block_read n depth bs rest bound deep)
  statement_read n depth (p.command {room = room} {ts = ts} {a = a} word ending which made is_word is_made is_ending cs) rest bound deep no_else =
      ap (one_statement (reader n) (block (reader n) depth) depth) (regroup (word ∷ ts) (ending ∷ []) rest room)
      ∙ told_step (reader n) (block (reader n) depth) depth room word ending which made ts rest a is_word is_made is_ending (asked_read n cs (ending ∷ rest) bound)
  statement_read n depth (p.waiting {room = room} {ts = ts} {form = form} word ending is_word is_ending cs) rest bound deep no_else =
      ap (one_statement (reader n) (block (reader n) depth) depth) (regroup (word ∷ ts) (ending ∷ []) rest room)
      ∙ waiting_step (reader n) (block (reader n) depth) depth room word ending ts rest form is_word is_ending (waiting_read n cs (ending ∷ rest) bound)
  statement_read n depth (p.returned {room = room} word ending is_word is_ending) rest bound deep no_else = returned_step (reader n) (block (reader n) depth) depth room word ending rest is_word is_ending
  statement_read n depth (p.returned_with {room = room} {ts = ts} {a = a} word ending is_word is_ending d) rest bound deep no_else =
      ap (one_statement (reader n) (block (reader n) depth) depth) (regroup (word ∷ ts) (ending ∷ []) rest room)
      ∙ returned_with_step (reader n) (block (reader n) depth) depth room word ending ts rest a is_word is_ending (whole_starts d)
      (inner_read (suc n) d (ending ∷ rest) (omega arith) (ends_semicolon ending rest is_ending))

  pub conditional_read : (n depth count : ℕ) {room : ℕ} {ts : Tokens} {a : StmtTree} → Conditional room ts a → (rest : Tokens) → room ≤ n → room ≤ depth → room ≤ count → is_keyword k.Else (next_keyword rest) ≡ false
      → chain (reader n) (block (reader n) depth) count (at (ts ++ rest) room) ≡ Ok (a, at rest room)
  conditional_read n depth count (p.alone {room = room} {ts = ts} {us = us} {a = a} {all = all} word is_word cs bs) rest bound deep chained no_else =
      ap (chain (reader n) (block (reader n) depth) count) (regroup (word ∷ ts) us rest room)
      ∙ if_step (reader n) (block (reader n) depth) count room word ts us rest a all is_word (asked_read n cs (us ++ rest) bound) (block_read n depth bs rest bound deep)
      ∙ alone_step (chained_by (reader n) (block (reader n) depth) count) (block (reader n) depth) word.line room a all rest no_else
  conditional_read n depth count (p.otherwise {room = room} {ts = ts} {us = us} {vs = vs} {a = a} {all = all} {others = others} word other is_word is_else cs bs es) rest bound deep chained no_else =
      ap (chain (reader n) (block (reader n) depth) count) (regroup_three (word ∷ ts) us (other ∷ vs) rest room)
      ∙ if_step (reader n) (block (reader n) depth) count room word ts us (other ∷ vs ++ rest) a all is_word (asked_read n cs (us ++ (other ∷ vs ++ rest)) bound) (block_read n depth bs (other ∷ vs ++ rest) bound deep)
      ∙ otherwise_step (chained_by (reader n) (block (reader n) depth) count) (block (reader n) depth) word.line room a all others other vs rest is_else (block_no_if es rest) (block_read n depth es rest bound deep)
  conditional_read n depth zero (p.chained word other is_word is_else cs bs es) rest bound deep chained no_else = absurd (omega arith)
  conditional_read n depth (suc count) (p.chained {room = room} {ts = ts} {us = us} {vs = vs} {a = a} {all = all} {other = one} word other is_word is_else cs bs es) rest bound deep chained no_else =
      ap (chain (reader n) (block (reader n) depth) (suc count)) (regroup_three (word ∷ ts) us (other ∷ vs) rest (suc room))
      ∙ if_step (reader n) (block (reader n) depth) (suc count) (suc room) word ts us (other ∷ vs ++ rest) a all is_word (asked_read n cs (us ++ (other ∷ vs ++ rest)) bound) (block_read n depth bs (other ∷ vs ++ rest) bound deep)
      ∙ chained_step (chain (reader n) (block (reader n) depth) count) (block (reader n) depth) word.line room a all one other vs rest is_else (conditional_if es rest)
      (conditional_read n depth count es rest (omega arith) (omega arith) (omega arith) no_else)

  pub block_read : (n depth : ℕ) {room : ℕ} {ts : Tokens} {all : List StmtTree} → Block room ts all → (rest : Tokens) → room ≤ n → room ≤ depth → block (reader n) depth (at (ts ++ rest) room) ≡ Ok (all, at rest room)
  block_read n zero (p.block opening closing opens closes d) rest bound deep = absurd (omega arith)
  block_read n (suc depth) (p.block {room = room} {ts = ts} {all = all} opening closing opens closes d) rest bound deep =
      let few = body_count d in
      let len = length-append ts (closing ∷ rest) in
      ap (block (reader n) (suc depth)) (regroup (opening ∷ ts) (closing ∷ []) rest (suc room))
      ∙ braced_step (one_statement (reader n) (block (reader n) depth) depth) room opening closing ts rest all opens closes
      (body_read n depth d closing rest (length (ts ++ closing ∷ rest)) (omega (arith, few, len)) (omega arith) (omega arith) closes)

  pub body_read : (n depth : ℕ) {room : ℕ} {ts : Tokens} {all : List StmtTree} → Body room ts all → (closing : Token) (rest : Tokens) (count : ℕ) → length all ≤ count → room ≤ n → room ≤ depth → IsMark m.CloseBrace closing
      → until_brace (one_statement (reader n) (block (reader n) depth) depth) count (at (ts ++ closing ∷ rest) room) ≡ Ok (all, at (closing ∷ rest) room)
  body_read n depth (p.done {room = room}) closing rest count few bound deep closes = until_done (one_statement (reader n) (block (reader n) depth) depth) count room closing rest closes
  body_read n depth (p.next d later) closing rest zero few bound deep closes = absurd (omega arith)
  body_read n depth (p.next {room = room} {ts = ts} {us = us} {a = a} {all = all} d later) closing rest (suc count) few bound deep closes =
      ap (until_brace (one_statement (reader n) (block (reader n) depth) depth) (suc count)) (regroup ts us (closing ∷ rest) room)
      ∙ until_next (one_statement (reader n) (block (reader n) depth) depth) count room ts us (closing ∷ rest) a all (statement_no_brace d (us ++ closing ∷ rest))
      (statement_read n depth d (us ++ closing ∷ rest) bound deep (body_no_else later closing rest closes))
      (body_read n depth later closing rest count (omega arith) bound deep closes)
