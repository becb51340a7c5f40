-- What is read as a statement, a member or a program is one of the grammar.
use Rattle.std.proofs.Common.{◌≡◌, ℕ, zero, suc, Bool, true, false, cond, List, [], ◌∷◌, ◌++◌, length, Option, Some, None, Ok, refl, sym, subst, ap, ◌∙◌, append_assoc}
use Rattle.std.proofs.lemmas.Option.{none-some, same_Some}
use Rattle.dso_tokens.specs.declared.token.Keyword.{Keyword}
use Rattle.dso_tokens.specs.declared.token.Keyword.TheVariants as k
use Rattle.dso_tokens.specs.declared.token.Mark.TheVariants as m
use Rattle.dso_tokens.specs.declared.token.Form.{Form}
use Rattle.dso_tokens.specs.declared.token.Form.TheVariants as form
use Rattle.dso_tokens.specs.declared.token.Token.{Token}
use Rattle.dso_syntax.specs.declared.tree.StmtTree.{StmtTree}
use Rattle.dso_syntax.specs.declared.tree.StmtForm.{StmtForm}
use Rattle.dso_syntax.specs.declared.tree.StmtForm.TheVariants as s
use Rattle.dso_syntax.specs.declared.tree.ExprTree.{ExprTree, out-ExprTree}
use Rattle.dso_syntax.specs.declared.tree.ExprForm.{out-ExprForm}
use Rattle.dso_syntax.specs.Grammar.{Tokens, IsMark, IsKeyword, line_of, Whole}
use Rattle.dso_syntax.specs.ProgramGrammar as p
use Rattle.dso_syntax.specs.ProgramGrammar.{statement, command_of, guarded_of, is_place, Parenthesized, Waited, Body, Block, Statement, Conditional, Names, Parameters, Declared, Members, Top, Tops, IsProgram}
use Rattle.dso_syntax.specs.ExpressionReader.{Input, Outcome, Parser, and_then, pure, refuse, is_mark, is_keyword, next_mark, next_keyword, keyword_of, take_any, take_mark, take_keyword, enter, leave, open_mark, close_mark, take_name}
use Rattle.dso_syntax.specs.ProgramReader.{parenthesized, until_brace, braced, lead_of, behind_expression, behind_waited, waited, behind_return, behind_var, behind_then, chain, by_lead, one_statement, block}
use Rattle.dso_syntax.proofs.completeness.ReadSteps.{at}
use Rattle.dso_syntax.proofs.soundness.SoundSteps.{ok_is, err_is, steps, Took, took_any, mark_took, keyword_took, open_took, close_took, name_took, form_mark, form_keyword}
use Rattle.dso_syntax.proofs.soundness.SoundExpressions.{Came, Sounds, entered}

-- a reader that reads what is of a form
abbrev pub SoundOf : {A : Type 0} → (ℕ → Tokens → A → Type 0) → Parser A → Type 0
SoundOf {A} R parser = (i : Input) (a : A) (j : Input) → parser i ≡ Ok (a, j) → Came (λ ts. R i.room ts a) i i.room j

-- the end of a reading, by what is answered
pub finished : {A : Type 0} (R : ℕ → Tokens → A → Type 0) (i : Input) (a b : A) (l j : Input) → Came (λ ts. R i.room ts a) i i.room l → ◌≡◌ {A = Outcome A} (Ok (a, l)) (Ok (b, j)) → Came (λ ts. R i.room ts b) i i.room j
finished {A} R i a b l j came read = subst (λ (p : A × Input). Came (λ ts. R i.room ts p.0) i i.room p.1) (ok_is (a, l) (b, j) read) came

-- something in parentheses
pub inside_came : {A : Type 0} (R : ℕ → Tokens → A → Type 0) (inner : Parser A) → SoundOf R inner → SoundOf (Parenthesized R) (parenthesized inner)
inside_came R inner sound i a j read =
    let one = steps (open_mark m.OpenParen i) (λ _ j. and_then (inner j) (λ a l. and_then (close_mark m.CloseParen l) (λ _. pure a))) a j read in
    let opening = open_took m.OpenParen i one.value one.between one.first in
    let two = steps (inner one.between) (λ a l. and_then (close_mark m.CloseParen l) (λ _. pure a)) a j one.second in
    let within = sound one.between two.value two.between two.first in
    let three = steps (close_mark m.CloseParen two.between) (λ _. pure two.value) a j two.second in
    let closing = close_took m.CloseParen two.between three.value three.between three.first in
    finished (Parenthesized R) i two.value a three.between j (record {
      tokens = one.value ∷ within.tokens ++ three.value ∷ [];
      is = opening.is ∙ ap (λ z. one.value ∷ z) (within.is ∙ ap (λ z. within.tokens ++ z) closing.is ∙ sym (append_assoc within.tokens (three.value ∷ []) three.between.tokens));
      reads = subst (λ r. Parenthesized R r (one.value ∷ within.tokens ++ three.value ∷ []) two.value) (sym opening.room_is) (p.parenthesized one.value three.value opening.holds closing.holds within.reads);
      room_is = closing.room_is ∙ ap suc within.room_is ∙ sym opening.room_is;
    }) three.second

-- an expression in parentheses
pub asked_came : (expr : Parser ExprTree) → Sounds expr → SoundOf (Parenthesized Whole) (parenthesized expr)
asked_came expr sound = inside_came Whole expr sound

-- items in a row
pub record Rows {A : Type 0} (R : ℕ → Tokens → A → Type 0) (L : ℕ → Tokens → List A → Type 0) : Type 0 where
  pub none : (room : ℕ) → L room [] []
  pub next : (room : ℕ) (ts us : Tokens) (a : A) (all : List A) → R room ts a → L room us all → L room (ts ++ us) (a ∷ all)

until_pick : {A : Type 0} (R : ℕ → Tokens → A → Type 0) (L : ℕ → Tokens → List A → Type 0) → Rows R L → (item : Parser A) (rest : Parser (List A)) → SoundOf R item → SoundOf L rest → (i : Input) (all : List A) (j : Input) (test : Bool)
    → cond {A = Outcome (List A)} test (Ok ([], i)) (and_then (item i) (λ a j. and_then (rest j) (λ all. pure (a ∷ all)))) ≡ Ok (all, j) → Came (λ ts. L i.room ts all) i i.room j
until_pick R L rows item rest sound later i all j true read = finished L i [] all i j (record { tokens = []; is = refl; reads = rows.none i.room; room_is = refl }) read
until_pick R L rows item rest sound later i all j false read =
    let one = steps (item i) (λ a j. and_then (rest j) (λ all. pure (a ∷ all))) all j read in
    let first = sound i one.value one.between one.first in
    let two = steps (rest one.between) (λ all. pure (one.value ∷ all)) all j one.second in
    let more = later one.between two.value two.between two.first in
    finished L i (one.value ∷ two.value) all two.between j (record {
      tokens = first.tokens ++ more.tokens;
      is = first.is ∙ ap (λ z. first.tokens ++ z) more.is ∙ sym (append_assoc first.tokens more.tokens two.between.tokens);
      reads = rows.next i.room first.tokens more.tokens one.value two.value first.reads (subst (λ r. L r more.tokens two.value) first.room_is more.reads);
      room_is = more.room_is ∙ first.room_is;
    }) two.second

pub until_came : {A : Type 0} (R : ℕ → Tokens → A → Type 0) (L : ℕ → Tokens → List A → Type 0) → Rows R L → (item : Parser A) → SoundOf R item → (count : ℕ) → SoundOf L (until_brace item count)
until_came {A} R L rows item sound zero i all j read = pick (is_mark m.CloseBrace (next_mark i.tokens)) read
  where
    pick : (test : Bool) → cond {A = Outcome (List A)} test (Ok ([], i)) (refuse i) ≡ Ok (all, j) → Came (λ ts. L i.room ts all) i i.room j
    pick true read = finished L i [] all i j (record { tokens = []; is = refl; reads = rows.none i.room; room_is = refl }) read
    pick false read = absurd (err_is (all, j) _ read)
until_came R L rows item sound (suc count) i all j read =
    until_pick R L rows item (until_brace item count) sound (until_came R L rows item sound count) i all j (is_mark m.CloseBrace (next_mark i.tokens)) read

-- items in braces, which take a level
pub data Braces {A : Type 0} (L : ℕ → Tokens → List A → Type 0) : ℕ → Tokens → List A → Type 0 where
  braces : {room : ℕ} {ts : Tokens} {all : List A} (opening closing : Token) → IsMark m.OpenBrace opening → IsMark m.CloseBrace closing → L room ts all → Braces L (suc room) (opening ∷ ts ++ closing ∷ []) all

pub braced_came : {A : Type 0} (R : ℕ → Tokens → A → Type 0) (L : ℕ → Tokens → List A → Type 0) → Rows R L → (item : Parser A) → SoundOf R item → SoundOf (Braces L) (braced item)
braced_came R L rows item sound i all j read =
    let one = steps (open_mark m.OpenBrace i) (λ _ j. and_then (until_brace item (length j.tokens) j) (λ all l. and_then (close_mark m.CloseBrace l) (λ _. pure all))) all j read in
    let opening = open_took m.OpenBrace i one.value one.between one.first in
    let two = steps (until_brace item (length one.between.tokens) one.between) (λ all l. and_then (close_mark m.CloseBrace l) (λ _. pure all)) all j one.second in
    let inner = until_came R L rows item sound (length one.between.tokens) one.between two.value two.between two.first in
    let three = steps (close_mark m.CloseBrace two.between) (λ _. pure two.value) all j two.second in
    let closing = close_took m.CloseBrace two.between three.value three.between three.first in
    finished (Braces L) i two.value all three.between j (record {
      tokens = one.value ∷ inner.tokens ++ three.value ∷ [];
      is = opening.is ∙ ap (λ z. one.value ∷ z) (inner.is ∙ ap (λ z. inner.tokens ++ z) closing.is ∙ sym (append_assoc inner.tokens (three.value ∷ []) three.between.tokens));
      reads = subst (λ r. Braces L r (one.value ∷ inner.tokens ++ three.value ∷ []) two.value) (sym opening.room_is) (braces one.value three.value opening.holds closing.holds inner.reads);
      room_is = closing.room_is ∙ ap suc inner.room_is ∙ sym opening.room_is;
    }) three.second

-- ---- statements

pub rows_of_body : Rows Statement Body
rows_of_body = record { none = λ room. p.done; next = λ room ts us a all first later. p.next first later }

pub block_of : {room : ℕ} {ts : Tokens} {all : List StmtTree} → Braces Body room ts all → Block room ts all
block_of (braces opening closing opens closes d) = p.block opening closing opens closes d

-- what reads a semicolon behind what came
pub semicolon_came : {A : Type 0} (i l : Input) (a b : A) (j : Input) (ts : Tokens) → i.tokens ≡ ts ++ l.tokens → l.room ≡ i.room → (R : ℕ → Tokens → A → Type 0)
    → ((ending : Token) → IsMark m.Semicolon ending → R i.room (ts ++ ending ∷ []) a) → and_then (take_mark m.Semicolon l) (λ _. pure a) ≡ Ok (b, j) → Came (λ ts. R i.room ts b) i i.room j
semicolon_came i l a b j ts is room R reads read =
    let one = steps (take_mark m.Semicolon l) (λ _. pure a) b j read in
    let ending = mark_took m.Semicolon l one.value one.between one.first in
    finished R i a b one.between j (record {
      tokens = ts ++ one.value ∷ [];
      is = is ∙ ap (λ z. ts ++ z) ending.is ∙ sym (append_assoc ts (one.value ∷ []) one.between.tokens);
      reads = reads one.value ending.holds;
      room_is = ending.room_is ∙ room;
    }) one.second

-- the first word of a statement
pub leads : (word : Keyword) (t : Token) (this : Form) → t.form ≡ this → keyword_of this ≡ Some word → IsKeyword word t
leads word t (form.Keyword other) is known = is ∙ ap form.Keyword (same_Some other word known)
leads word t (form.Name name) is known = absurd (none-some word known)
leads word t (form.Mark mark) is known = absurd (none-some word known)
leads word t (form.Number value) is known = absurd (none-some word known)
leads word t (form.Text content) is known = absurd (none-some word known)

-- the word that is next is taken
pub word_took : (word : Keyword) (i : Input) (t : Token) (j : Input) → next_keyword i.tokens ≡ Some word → take_any i ≡ Ok (t, j) → Took (IsKeyword word) i i.room t j
word_took word i t j known read = took_any (IsKeyword word) i.room i.tokens t j (λ first rest same. leads word first first.form refl (ap next_keyword (sym same) ∙ known)) read

-- what a statement is by its lead
abbrev pub StatementOf : Input → StmtTree → Input → Type 0
StatementOf i a j = Came (λ ts. Statement i.room ts a) i i.room j

variable_came : (expr : Parser ExprTree) → Sounds expr → (i l : Input) (word : Token) (a : StmtTree) (j : Input) → Took (IsKeyword k.Var) i i.room word l → behind_var expr word.line l ≡ Ok (a, j) → StatementOf i a j
variable_came expr sound i l word a j took read =
    let one = steps (take_name l) (λ name j. and_then (take_mark m.Assign j) (λ _ l. and_then (expr l) (λ a q. and_then (take_mark m.Semicolon q) (λ _. pure (statement word.line (s.Var name a)))))) a j read in
    let name = name_took l.room l.tokens one.value one.between one.first in
    let two = steps (take_mark m.Assign one.between) (λ _ l. and_then (expr l) (λ a q. and_then (take_mark m.Semicolon q) (λ _. pure (statement word.line (s.Var one.value a))))) a j one.second in
    let equals = mark_took m.Assign one.between two.value two.between two.first in
    let three = steps (expr two.between) (λ a q. and_then (take_mark m.Semicolon q) (λ _. pure (statement word.line (s.Var one.value a)))) a j two.second in
    let inner = sound two.between three.value three.between three.first in
    let room : two.between.room ≡ i.room = equals.room_is ∙ name.room_is ∙ took.room_is in
    semicolon_came i three.between (statement word.line (s.Var one.value three.value)) a j (word ∷ name.token ∷ two.value ∷ inner.tokens)
    (took.is ∙ ap (λ z. word ∷ z) (name.is ∙ ap (λ z. name.token ∷ z) (equals.is ∙ ap (λ z. two.value ∷ z) inner.is))) (inner.room_is ∙ room) Statement
    (λ ending is_ending. p.variable word name.token two.value ending one.value took.holds name.holds equals.holds is_ending (subst (λ r. Whole r inner.tokens three.value) room inner.reads)) three.second

assigned_came : (expr : Parser ExprTree) → Sounds expr → (i l : Input) (a : ExprTree) (b : StmtTree) (j : Input) → Came (λ ts. Whole i.room ts a) i i.room l → is_mark m.Assign (next_mark l.tokens) ≡ true → is_place (out-ExprForm (out-ExprTree a).form) ≡ true
    → and_then (take_any l) (λ _ j. and_then (expr j) (λ b l. and_then (take_mark m.Semicolon l) (λ _. pure (statement (line_of a) (s.Assign a b))))) ≡ Ok (b, j) → StatementOf i b j
assigned_came expr sound i l a b j came is_equals place read =
    let two = steps (take_any l) (λ _ j. and_then (expr j) (λ b l. and_then (take_mark m.Semicolon l) (λ _. pure (statement (line_of a) (s.Assign a b))))) b j read in
    let equals = took_any (IsMark m.Assign) l.room l.tokens two.value two.between (λ t rest same. form_mark m.Assign t.form (ap (λ z. is_mark m.Assign (next_mark z)) (sym same) ∙ is_equals)) two.first in
    let three = steps (expr two.between) (λ b l. and_then (take_mark m.Semicolon l) (λ _. pure (statement (line_of a) (s.Assign a b)))) b j two.second in
    let inner = sound two.between three.value three.between three.first in
    let room : two.between.room ≡ i.room = equals.room_is ∙ came.room_is in
    semicolon_came i three.between (statement (line_of a) (s.Assign a three.value)) b j (came.tokens ++ two.value ∷ inner.tokens)
    (came.is ∙ ap (λ z. came.tokens ++ z) (equals.is ∙ ap (λ z. two.value ∷ z) inner.is) ∙ sym (append_assoc came.tokens (two.value ∷ inner.tokens) three.between.tokens)) (inner.room_is ∙ room) Statement
    (λ ending is_ending. subst (λ z. Statement i.room z (statement (line_of a) (s.Assign a three.value))) (sym (append_assoc came.tokens (two.value ∷ inner.tokens) (ending ∷ [])))
    (p.assigned two.value ending equals.holds is_ending came.reads place (subst (λ r. Whole r inner.tokens three.value) room inner.reads))) three.second

behind_pick : (expr : Parser ExprTree) → Sounds expr → (i l : Input) (a : ExprTree) (b : StmtTree) (j : Input) → Came (λ ts. Whole i.room ts a) i i.room l → (equals place : Bool) → is_mark m.Assign (next_mark l.tokens) ≡ equals → is_place (out-ExprForm (out-ExprTree a).form) ≡ place
    → cond {A = Outcome StmtTree} equals (cond {A = Outcome StmtTree} place (and_then (take_any l) (λ _ j. and_then (expr j) (λ b l. and_then (take_mark m.Semicolon l) (λ _. pure (statement (line_of a) (s.Assign a b)))))) (refuse l))
    (and_then (take_mark m.Semicolon l) (λ _. pure (statement (line_of a) (s.Eval a)))) ≡ Ok (b, j) → StatementOf i b j
behind_pick expr sound i l a b j came true true is_equals place read = assigned_came expr sound i l a b j came is_equals place read
behind_pick expr sound i l a b j came true false is_equals place read = absurd (err_is (b, j) _ read)
behind_pick expr sound i l a b j came false place is_equals is_place read =
    semicolon_came i l (statement (line_of a) (s.Eval a)) b j came.tokens came.is came.room_is Statement (λ ending is_ending. p.evaluated ending is_ending came.reads) read

plain_came : (expr : Parser ExprTree) → Sounds expr → (i : Input) (b : StmtTree) (j : Input) → and_then (expr i) (behind_expression expr) ≡ Ok (b, j) → StatementOf i b j
plain_came expr sound i b j read =
    let one = steps (expr i) (behind_expression expr) b j read in
    behind_pick expr sound i one.between one.value b j (sound i one.value one.between one.first) (is_mark m.Assign (next_mark one.between.tokens)) (is_place (out-ExprForm (out-ExprTree one.value).form)) refl refl one.second

returned_pick : (expr : Parser ExprTree) → Sounds expr → (i l : Input) (word : Token) (b : StmtTree) (j : Input) → Took (IsKeyword k.Return) i i.room word l → (test : Bool) → is_mark m.Semicolon (next_mark l.tokens) ≡ test
    → cond {A = Outcome StmtTree} test (and_then (take_any l) (λ _. pure (statement word.line (s.Return None)))) (and_then (expr l) (λ a j. and_then (take_mark m.Semicolon j) (λ _. pure (statement word.line (s.Return (Some a)))))) ≡ Ok (b, j) → StatementOf i b j
returned_pick expr sound i l word b j took true is read =
    let one = steps (take_any l) (λ _. pure (statement word.line (s.Return None))) b j read in
    let ending = took_any (IsMark m.Semicolon) l.room l.tokens one.value one.between (λ t rest same. form_mark m.Semicolon t.form (ap (λ z. is_mark m.Semicolon (next_mark z)) (sym same) ∙ is)) one.first in
    finished Statement i (statement word.line (s.Return None)) b one.between j (record { tokens = word ∷ one.value ∷ []; is = took.is ∙ ap (λ z. word ∷ z) ending.is; reads = p.returned word one.value took.holds ending.holds; room_is = ending.room_is ∙ took.room_is }) one.second
returned_pick expr sound i l word b j took false is read =
    let one = steps (expr l) (λ a j. and_then (take_mark m.Semicolon j) (λ _. pure (statement word.line (s.Return (Some a))))) b j read in
    let inner = sound l one.value one.between one.first in
    semicolon_came i one.between (statement word.line (s.Return (Some one.value))) b j (word ∷ inner.tokens) (took.is ∙ ap (λ z. word ∷ z) inner.is) (inner.room_is ∙ took.room_is) Statement
    (λ ending is_ending. p.returned_with word ending took.holds is_ending (subst (λ r. Whole r inner.tokens one.value) took.room_is inner.reads)) one.second

guarded_came : (expr : Parser ExprTree) (block : Parser (List StmtTree)) → Sounds expr → SoundOf Block block → (which : Keyword) (made : ExprTree → List StmtTree → StmtForm) → guarded_of which ≡ Some made → (i : Input) (b : StmtTree) (j : Input) → next_keyword i.tokens ≡ Some which
    → and_then (take_any i) (λ t j. and_then (parenthesized expr j) (λ a l. and_then (block l) (λ all. pure (statement t.line (made a all))))) ≡ Ok (b, j) → StatementOf i b j
guarded_came expr block sound sound_block which made is_made i b j known read =
    let one = steps (take_any i) (λ t j. and_then (parenthesized expr j) (λ a l. and_then (block l) (λ all. pure (statement t.line (made a all))))) b j read in
    let word = word_took which i one.value one.between known one.first in
    let two = steps (parenthesized expr one.between) (λ a l. and_then (block l) (λ all. pure (statement one.value.line (made a all)))) b j one.second in
    let test = asked_came expr sound one.between two.value two.between two.first in
    let three = steps (block two.between) (λ all. pure (statement one.value.line (made two.value all))) b j two.second in
    let body = sound_block two.between three.value three.between three.first in
    finished Statement i (statement one.value.line (made two.value three.value)) b three.between j (record {
      tokens = one.value ∷ test.tokens ++ body.tokens;
      is = word.is ∙ ap (λ z. one.value ∷ z) (test.is ∙ ap (λ z. test.tokens ++ z) body.is ∙ sym (append_assoc test.tokens body.tokens three.between.tokens));
      reads = p.guarded one.value which made word.holds is_made (subst (λ r. Parenthesized Whole r test.tokens two.value) word.room_is test.reads) (subst (λ r. Block r body.tokens three.value) (test.room_is ∙ word.room_is) body.reads);
      room_is = body.room_is ∙ test.room_is ∙ word.room_is;
    }) three.second

command_came : (expr : Parser ExprTree) → Sounds expr → (which : Keyword) (made : ExprTree → StmtForm) → command_of which ≡ Some made → (i : Input) (b : StmtTree) (j : Input) → next_keyword i.tokens ≡ Some which
    → and_then (take_any i) (λ t j. and_then (parenthesized expr j) (λ a l. and_then (take_mark m.Semicolon l) (λ _. pure (statement t.line (made a))))) ≡ Ok (b, j) → StatementOf i b j
command_came expr sound which made is_made i b j known read =
    let one = steps (take_any i) (λ t j. and_then (parenthesized expr j) (λ a l. and_then (take_mark m.Semicolon l) (λ _. pure (statement t.line (made a))))) b j read in
    let word = word_took which i one.value one.between known one.first in
    let two = steps (parenthesized expr one.between) (λ a l. and_then (take_mark m.Semicolon l) (λ _. pure (statement one.value.line (made a)))) b j one.second in
    let test = asked_came expr sound one.between two.value two.between two.first in
    semicolon_came i two.between (statement one.value.line (made two.value)) b j (one.value ∷ test.tokens) (word.is ∙ ap (λ z. one.value ∷ z) test.is) (test.room_is ∙ word.room_is) Statement
    (λ ending is_ending. p.command one.value ending which made word.holds is_made is_ending (subst (λ r. Parenthesized Whole r test.tokens two.value) word.room_is test.reads)) two.second

-- ---- a `wait`

timed_came : (expr : Parser ExprTree) → Sounds expr → (i l : Input) (a : ExprTree) (b : StmtForm) (j : Input) → Came (λ ts. Whole i.room ts a) i i.room l → is_mark m.Comma (next_mark l.tokens) ≡ true
    → and_then (take_any l) (λ _ j. and_then (expr j) (λ b. pure (s.TimedWait a b))) ≡ Ok (b, j) → Came (λ ts. Waited i.room ts b) i i.room j
timed_came expr sound i l a b j came is_comma read =
    let one = steps (take_any l) (λ _ j. and_then (expr j) (λ b. pure (s.TimedWait a b))) b j read in
    let comma = took_any (IsMark m.Comma) l.room l.tokens one.value one.between (λ t rest same. form_mark m.Comma t.form (ap (λ z. is_mark m.Comma (next_mark z)) (sym same) ∙ is_comma)) one.first in
    let two = steps (expr one.between) (λ b. pure (s.TimedWait a b)) b j one.second in
    let inner = sound one.between two.value two.between two.first in
    let room : one.between.room ≡ i.room = comma.room_is ∙ came.room_is in
    finished Waited i (s.TimedWait a two.value) b two.between j (record {
      tokens = came.tokens ++ one.value ∷ inner.tokens;
      is = came.is ∙ ap (λ z. came.tokens ++ z) (comma.is ∙ ap (λ z. one.value ∷ z) inner.is) ∙ sym (append_assoc came.tokens (one.value ∷ inner.tokens) two.between.tokens);
      reads = p.timed one.value comma.holds came.reads (subst (λ r. Whole r inner.tokens two.value) room inner.reads);
      room_is = inner.room_is ∙ room;
    }) two.second

waited_pick : (expr : Parser ExprTree) → Sounds expr → (i l : Input) (a : ExprTree) (b : StmtForm) (j : Input) → Came (λ ts. Whole i.room ts a) i i.room l → (test : Bool) → is_mark m.Comma (next_mark l.tokens) ≡ test
    → cond {A = Outcome StmtForm} test (and_then (take_any l) (λ _ j. and_then (expr j) (λ b. pure (s.TimedWait a b)))) (Ok (s.Wait a, l)) ≡ Ok (b, j) → Came (λ ts. Waited i.room ts b) i i.room j
waited_pick expr sound i l a b j came true is read = timed_came expr sound i l a b j came is read
waited_pick expr sound i l a b j came false is read = finished Waited i (s.Wait a) b l j (record { tokens = came.tokens; is = came.is; reads = p.untimed came.reads; room_is = came.room_is }) read

-- what a `wait` has in its parentheses
pub waited_came : (expr : Parser ExprTree) → Sounds expr → SoundOf Waited (waited expr)
waited_came expr sound i b j read =
    let one = steps (expr i) (behind_waited expr) b j read in
    waited_pick expr sound i one.between one.value b j (sound i one.value one.between one.first) (is_mark m.Comma (next_mark one.between.tokens)) refl one.second

waiting_came : (expr : Parser ExprTree) → Sounds expr → (i : Input) (b : StmtTree) (j : Input) → next_keyword i.tokens ≡ Some k.Wait
    → and_then (take_any i) (λ t j. and_then (parenthesized (waited expr) j) (λ form l. and_then (take_mark m.Semicolon l) (λ _. pure (statement t.line form)))) ≡ Ok (b, j) → StatementOf i b j
waiting_came expr sound i b j known read =
    let one = steps (take_any i) (λ t j. and_then (parenthesized (waited expr) j) (λ form l. and_then (take_mark m.Semicolon l) (λ _. pure (statement t.line form)))) b j read in
    let word = word_took k.Wait i one.value one.between known one.first in
    let two = steps (parenthesized (waited expr) one.between) (λ form l. and_then (take_mark m.Semicolon l) (λ _. pure (statement one.value.line form))) b j one.second in
    let inside = inside_came Waited (waited expr) (waited_came expr sound) one.between two.value two.between two.first in
    semicolon_came i two.between (statement one.value.line two.value) b j (one.value ∷ inside.tokens) (word.is ∙ ap (λ z. one.value ∷ z) inside.is) (inside.room_is ∙ word.room_is) Statement
    (λ ending is_ending. p.waiting one.value ending word.holds is_ending (subst (λ r. Parenthesized Waited r inside.tokens two.value) word.room_is inside.reads)) two.second

-- ---- conditionals

-- what an `if` is up to its block
pub record Tested (i : Input) (word : Token) (a : ExprTree) (all : List StmtTree) (l : Input) : Type 0 where
  pub test : Tokens
  pub body : Tokens
  pub is : i.tokens ≡ word ∷ test ++ (body ++ l.tokens)
  pub if_word : IsKeyword k.If word
  pub suffixes : Parenthesized Whole i.room test a
  pub does : Block i.room body all
  pub room_is : l.room ≡ i.room

abbrev ConditionalOf : Input → StmtTree → Input → Type 0
ConditionalOf i a j = Came (λ ts. Conditional i.room ts a) i i.room j

alone_came : (i l : Input) (word : Token) (a : ExprTree) (all : List StmtTree) (b : StmtTree) (j : Input) → Tested i word a all l → ◌≡◌ {A = Outcome StmtTree} (Ok (statement word.line (s.If a all []), l)) (Ok (b, j)) → ConditionalOf i b j
alone_came i l word a all b j tested read = finished Conditional i (statement word.line (s.If a all [])) b l j (record {
  tokens = word ∷ tested.test ++ tested.body;
  is = tested.is ∙ ap (λ z. word ∷ z) (sym (append_assoc tested.test tested.body l.tokens));
  reads = p.alone word tested.if_word tested.suffixes tested.does;
  room_is = tested.room_is;
}) read

-- the tokens of an `if` with what stands behind its block
with_else : (i l : Input) (word other : Token) (a : ExprTree) (all : List StmtTree) (tested : Tested i word a all l) (vs rest : Tokens) → l.tokens ≡ other ∷ vs ++ rest
    → i.tokens ≡ (word ∷ tested.test ++ (tested.body ++ other ∷ vs)) ++ rest
with_else i l word other a all tested vs rest is =
    tested.is ∙ ap (λ z. word ∷ tested.test ++ (tested.body ++ z)) is
    ∙ ap (λ z. word ∷ tested.test ++ z) (sym (append_assoc tested.body (other ∷ vs) rest)) ∙ ap (λ z. word ∷ z) (sym (append_assoc tested.test (tested.body ++ other ∷ vs) rest))

otherwise_came : (block : Parser (List StmtTree)) → SoundOf Block block → (i l q : Input) (word other : Token) (a : ExprTree) (all : List StmtTree) (b : StmtTree) (j : Input) → Tested i word a all l → Took (IsKeyword k.Else) l l.room other q
    → and_then (block q) (λ others. pure (statement word.line (s.If a all others))) ≡ Ok (b, j) → ConditionalOf i b j
otherwise_came block sound i l q word other a all b j tested took read =
    let one = steps (block q) (λ others. pure (statement word.line (s.If a all others))) b j read in
    let inner = sound q one.value one.between one.first in
    let room : q.room ≡ i.room = took.room_is ∙ tested.room_is in
    finished Conditional i (statement word.line (s.If a all one.value)) b one.between j (record {
      tokens = word ∷ tested.test ++ (tested.body ++ other ∷ inner.tokens);
      is = with_else i l word other a all tested inner.tokens one.between.tokens (took.is ∙ ap (λ z. other ∷ z) inner.is);
      reads = p.otherwise word other tested.if_word took.holds tested.suffixes tested.does (subst (λ r. Block r inner.tokens one.value) room inner.reads);
      room_is = inner.room_is ∙ room;
    }) one.second

chained_came : (next : Parser StmtTree) → SoundOf Conditional next → (i l q : Input) (word other : Token) (a : ExprTree) (all : List StmtTree) (b : StmtTree) (j : Input) → Tested i word a all l → Took (IsKeyword k.Else) l l.room other q
    → and_then (enter q) (λ _ l. and_then (next l) (λ one q. and_then (leave q) (λ _. pure (statement word.line (s.If a all (one ∷ [])))))) ≡ Ok (b, j) → ConditionalOf i b j
chained_came next sound i l q word other a all b j tested took read =
    let zero = steps (enter q) (λ _ l. and_then (next l) (λ one q. and_then (leave q) (λ _. pure (statement word.line (s.If a all (one ∷ [])))))) b j read in
    let level = entered q.tokens q.room zero.value zero.between zero.first in
    let one = steps (next zero.between) (λ one q. and_then (leave q) (λ _. pure (statement word.line (s.If a all (one ∷ []))))) b j zero.second in
    let inner = sound zero.between one.value one.between one.first in
    let room : i.room ≡ suc zero.between.room = sym tested.room_is ∙ sym took.room_is ∙ level.room_is in
    finished Conditional i (statement word.line (s.If a all (one.value ∷ []))) b (at one.between.tokens (suc one.between.room)) j (record {
      tokens = word ∷ tested.test ++ (tested.body ++ other ∷ inner.tokens);
      is = with_else i l word other a all tested inner.tokens one.between.tokens (took.is ∙ ap (λ z. other ∷ z) (level.is ∙ inner.is));
      reads = subst (λ r. Conditional r (word ∷ tested.test ++ (tested.body ++ other ∷ inner.tokens)) (statement word.line (s.If a all (one.value ∷ [])))) (sym room)
          (p.chained word other tested.if_word took.holds (subst (λ r. Parenthesized Whole r tested.test a) room tested.suffixes) (subst (λ r. Block r tested.body all) room tested.does) inner.reads);
      room_is = ap suc inner.room_is ∙ sym room;
    }) one.second

else_pick : (next : Parser StmtTree) (block : Parser (List StmtTree)) → SoundOf Conditional next → SoundOf Block block → (i l q : Input) (word other : Token) (a : ExprTree) (all : List StmtTree) (b : StmtTree) (j : Input) → Tested i word a all l → Took (IsKeyword k.Else) l l.room other q → (test : Bool)
    → cond {A = Outcome StmtTree} test (and_then (enter q) (λ _ l. and_then (next l) (λ one q. and_then (leave q) (λ _. pure (statement word.line (s.If a all (one ∷ []))))))) (and_then (block q) (λ others. pure (statement word.line (s.If a all others)))) ≡ Ok (b, j) → ConditionalOf i b j
else_pick next block sound sound_block i l q word other a all b j tested took true read = chained_came next sound i l q word other a all b j tested took read
else_pick next block sound sound_block i l q word other a all b j tested took false read = otherwise_came block sound_block i l q word other a all b j tested took read

then_pick : (next : Parser StmtTree) (block : Parser (List StmtTree)) → SoundOf Conditional next → SoundOf Block block → (i l : Input) (word : Token) (a : ExprTree) (all : List StmtTree) (b : StmtTree) (j : Input) → Tested i word a all l → (test : Bool) → is_keyword k.Else (next_keyword l.tokens) ≡ test
    → cond {A = Outcome StmtTree} test (and_then (take_any l) (λ _ j. cond {A = Outcome StmtTree} (is_keyword k.If (next_keyword j.tokens)) (and_then (enter j) (λ _ l. and_then (next l) (λ one q. and_then (leave q) (λ _. pure (statement word.line (s.If a all (one ∷ []))))))) (and_then (block j) (λ others. pure (statement word.line (s.If a all others))))))
    (Ok (statement word.line (s.If a all []), l)) ≡ Ok (b, j) → ConditionalOf i b j
then_pick next block sound sound_block i l word a all b j tested true is read =
    let one = steps (take_any l) (λ _ j. cond {A = Outcome StmtTree} (is_keyword k.If (next_keyword j.tokens)) (and_then (enter j) (λ _ l. and_then (next l) (λ one q. and_then (leave q) (λ _. pure (statement word.line (s.If a all (one ∷ []))))))) (and_then (block j) (λ others. pure (statement word.line (s.If a all others))))) b j read in
    let other = took_any (IsKeyword k.Else) l.room l.tokens one.value one.between (λ t rest same. form_keyword k.Else t.form (ap (λ z. is_keyword k.Else (next_keyword z)) (sym same) ∙ is)) one.first in
    else_pick next block sound sound_block i l one.between word one.value a all b j tested other (is_keyword k.If (next_keyword one.between.tokens)) one.second
then_pick next block sound sound_block i l word a all b j tested false is read = alone_came i l word a all b j tested read

if_came : (expr : Parser ExprTree) (block : Parser (List StmtTree)) (next : Parser StmtTree) → Sounds expr → SoundOf Block block → SoundOf Conditional next → (i : Input) (b : StmtTree) (j : Input)
    → and_then (take_keyword k.If i) (λ t j. and_then (parenthesized expr j) (λ a l. and_then (block l) (λ all. behind_then next block t.line a all))) ≡ Ok (b, j) → ConditionalOf i b j
if_came expr block next sound sound_block sound_next i b j read =
    let one = steps (take_keyword k.If i) (λ t j. and_then (parenthesized expr j) (λ a l. and_then (block l) (λ all. behind_then next block t.line a all))) b j read in
    let word = keyword_took k.If i one.value one.between one.first in
    let two = steps (parenthesized expr one.between) (λ a l. and_then (block l) (λ all. behind_then next block one.value.line a all)) b j one.second in
    let test = asked_came expr sound one.between two.value two.between two.first in
    let three = steps (block two.between) (λ all. behind_then next block one.value.line two.value all) b j two.second in
    let body = sound_block two.between three.value three.between three.first in
    then_pick next block sound_next sound_block i three.between one.value two.value three.value b j (record {
      test = test.tokens;
      body = body.tokens;
      is = word.is ∙ ap (λ z. one.value ∷ z) (test.is ∙ ap (λ z. test.tokens ++ z) body.is);
      if_word = word.holds;
      suffixes = subst (λ r. Parenthesized Whole r test.tokens two.value) word.room_is test.reads;
      does = subst (λ r. Block r body.tokens three.value) (test.room_is ∙ word.room_is) body.reads;
      room_is = body.room_is ∙ test.room_is ∙ word.room_is;
    }) (is_keyword k.Else (next_keyword three.between.tokens)) refl three.second

pub chain_came : (expr : Parser ExprTree) (block : Parser (List StmtTree)) → Sounds expr → SoundOf Block block → (count : ℕ) → SoundOf Conditional (chain expr block count)
chain_came expr block sound sound_block zero i b j read = if_came expr block refuse sound sound_block (λ i b j read. absurd (err_is (b, j) _ read)) i b j read
chain_came expr block sound sound_block (suc count) i b j read = if_came expr block (chain expr block count) sound sound_block (chain_came expr block sound sound_block count) i b j read

-- ---- every statement that is read

by_keyword : (expr : Parser ExprTree) (block : Parser (List StmtTree)) (n : ℕ) → Sounds expr → SoundOf Block block → (i : Input) (b : StmtTree) (j : Input) (word : Option Keyword) → next_keyword i.tokens ≡ word → by_lead expr block n (lead_of word) i ≡ Ok (b, j) → StatementOf i b j
by_keyword expr block n sound sound_block i b j None known read = plain_came expr sound i b j read
by_keyword expr block n sound sound_block i b j (Some k.Class) known read = plain_came expr sound i b j read
by_keyword expr block n sound sound_block i b j (Some k.Static) known read = plain_came expr sound i b j read
by_keyword expr block n sound sound_block i b j (Some k.Synchronized) known read = guarded_came expr block sound sound_block k.Synchronized s.Sync refl i b j known read
by_keyword expr block n sound sound_block i b j (Some k.Thread) known read = plain_came expr sound i b j read
by_keyword expr block n sound sound_block i b j (Some k.Var) known read = let one = steps (take_any i) (λ t. behind_var expr t.line) b j read in variable_came expr sound i one.between one.value b j (word_took k.Var i one.value one.between known one.first) one.second
by_keyword expr block n sound sound_block i b j (Some k.If) known read = let came = chain_came expr block sound sound_block n i b j read in record { tokens = came.tokens; is = came.is; reads = p.conditional came.reads; room_is = came.room_is }
by_keyword expr block n sound sound_block i b j (Some k.Else) known read = plain_came expr sound i b j read
by_keyword expr block n sound sound_block i b j (Some k.While) known read = guarded_came expr block sound sound_block k.While s.While refl i b j known read
by_keyword expr block n sound sound_block i b j (Some k.Wait) known read = waiting_came expr sound i b j known read
by_keyword expr block n sound sound_block i b j (Some k.Notify) known read = command_came expr sound k.Notify s.Notify refl i b j known read
by_keyword expr block n sound sound_block i b j (Some k.NotifyAll) known read = command_came expr sound k.NotifyAll s.NotifyAll refl i b j known read
by_keyword expr block n sound sound_block i b j (Some k.Print) known read = command_came expr sound k.Print s.Print refl i b j known read
by_keyword expr block n sound sound_block i b j (Some k.Return) known read = let one = steps (take_any i) (λ t. behind_return expr t.line) b j read in returned_pick expr sound i one.between one.value b j (word_took k.Return i one.value one.between known one.first) (is_mark m.Semicolon (next_mark one.between.tokens)) refl one.second
by_keyword expr block n sound sound_block i b j (Some k.New) known read = plain_came expr sound i b j read
by_keyword expr block n sound sound_block i b j (Some k.This) known read = plain_came expr sound i b j read
by_keyword expr block n sound sound_block i b j (Some k.Null) known read = plain_came expr sound i b j read
by_keyword expr block n sound sound_block i b j (Some k.True) known read = plain_came expr sound i b j read
by_keyword expr block n sound sound_block i b j (Some k.False) known read = plain_came expr sound i b j read
by_keyword expr block n sound sound_block i b j (Some k.Long) known read = plain_came expr sound i b j read
by_keyword expr block n sound sound_block i b j (Some k.Boolean) known read = plain_came expr sound i b j read
by_keyword expr block n sound sound_block i b j (Some k.Text) known read = plain_came expr sound i b j read
by_keyword expr block n sound sound_block i b j (Some k.Ref) known read = plain_came expr sound i b j read

pub statement_came : (expr : Parser ExprTree) (block : Parser (List StmtTree)) (n : ℕ) → Sounds expr → SoundOf Block block → SoundOf Statement (one_statement expr block n)
statement_came expr block n sound sound_block i b j read = by_keyword expr block n sound sound_block i b j (next_keyword i.tokens) refl read

pub block_came : (expr : Parser ExprTree) → Sounds expr → (n : ℕ) → SoundOf Block (block expr n)
block_came expr sound zero i all j read = absurd (err_is (all, j) _ read)
block_came expr sound (suc n) i all j read =
    let came = braced_came Statement Body rows_of_body (one_statement expr (block expr n) n) (statement_came expr (block expr n) n sound (block_came expr sound n)) i all j read in
    record { tokens = came.tokens; is = came.is; reads = block_of came.reads; room_is = came.room_is }
