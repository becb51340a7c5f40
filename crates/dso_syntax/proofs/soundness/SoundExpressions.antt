-- What is read as an expression is one of the grammar.
use Rattle.std.proofs.Common.{◌≡◌, ℕ, zero, suc, Bool, true, false, cond, ◌==◌, List, [], ◌∷◌, ◌++◌, length, Option, Some, None, Ok, Err, refl, sym, subst, ap, ◌∙◌, append_assoc, append-nil}
use Rattle.std.proofs.lemmas.Option.{none-some, same_Some}
use Rattle.std.proofs.lemmas.Bool.Decides.{Decides-eqb}
use Rattle.dso_base.specs.declared.op.Op.{Op}
use Rattle.dso_base.specs.declared.value.Kind.{Kind}
use Rattle.dso_tokens.specs.declared.token.Keyword.{Keyword}
use Rattle.dso_tokens.specs.declared.token.Keyword.TheVariants as k
use Rattle.dso_tokens.specs.declared.token.Mark.{Mark}
use Rattle.dso_tokens.specs.declared.token.Mark.TheVariants as m
use Rattle.dso_tokens.specs.declared.token.Form.{Form}
use Rattle.dso_tokens.specs.declared.token.Form.TheVariants as form
use Rattle.dso_tokens.specs.declared.token.Token.{Token}
use Rattle.dso_syntax.specs.declared.tree.Ident.{Ident}
use Rattle.dso_syntax.specs.declared.tree.ExprTree.{ExprTree}
use Rattle.dso_syntax.specs.declared.tree.ExprForm.{ExprForm}
use Rattle.dso_syntax.specs.declared.tree.ExprForm.TheVariants as e
use Rattle.dso_syntax.specs.Grammar as g
use Rattle.dso_syntax.specs.Grammar.{Tokens, expression, line_of, top_rank, IsMark, IsName, IsKeyword, Binary, Unary, Postfix, Primary, Whole, Arguments, Listed}
use Rattle.dso_syntax.specs.ExpressionReader.{Input, StopCause, too_wide, Outcome, is_wide, next_form, Parser, and_then, pure, refuse, mark_of, is_mark, next_mark, next_keyword, take_any, take_mark, take_keyword, open_mark, close_mark, take_name, enter, leave, listed, of_rank, operator_at, sign_at, plain_at, kind_at, arguments, call_suffix, field_suffix, dot_suffix, element_suffix, suffixes, parens, made, primary_other, primary_of, primary, postfix, signed, unary_of, unary, operation_of, operations, climb, restored, whole}
use Rattle.dso_syntax.proofs.completeness.ReadSteps.{at}
use Rattle.dso_syntax.proofs.soundness.SoundSteps.{ok_is, err_is, steps, Took, took_any, mark_took, keyword_took, open_took, close_took, Named, name_took, form_mark}

-- the tokens up to where reading goes on are of the form, and so much room is left
pub record Came (R : Tokens → Type 0) (i : Input) (room : ℕ) (j : Input) : Type 0 where
  pub tokens : Tokens
  pub is : i.tokens ≡ tokens ++ j.tokens
  pub reads : R tokens
  pub room_is : j.room ≡ room

-- a reader of whole expressions that reads those of the grammar
abbrev pub Sounds : Parser ExprTree → Type 0
Sounds deeper = (i : Input) (a : ExprTree) (j : Input) → deeper i ≡ Ok (a, j) → Came (λ ts. Whole i.room ts a) i i.room j

-- ---- arguments

abbrev SoundList : Parser ExprTree → ℕ → Type 0
SoundList deeper count = (i : Input) (all : List ExprTree) (j : Input) → listed deeper count i ≡ Ok (all, j) → Came (λ ts. Listed i.room ts all) i i.room j

listed_last : (deeper : Parser ExprTree) → Sounds deeper → (i l j : Input) (a : ExprTree) (all : List ExprTree) → deeper i ≡ Ok (a, l) → ◌≡◌ {A = Outcome (List ExprTree)} (Ok (a ∷ [], l)) (Ok (all, j)) → Came (λ ts. Listed i.room ts all) i i.room j
listed_last deeper sound i l j a all first read =
    let came = sound i a l first in
    subst (λ (p : List ExprTree × Input). Came (λ ts. Listed i.room ts p.0) i i.room p.1) (ok_is (a ∷ [], l) (all, j) read)
    (record { tokens = came.tokens; is = came.is; reads = g.last came.reads; room_is = came.room_is })

listed_more : (deeper : Parser ExprTree) (count : ℕ) → Sounds deeper → SoundList deeper count → (i l j : Input) (a : ExprTree) (all : List ExprTree) → deeper i ≡ Ok (a, l) → is_mark m.Comma (next_mark l.tokens) ≡ true
    → and_then (take_any l) (λ _ q. and_then (listed deeper count q) (λ all. pure (a ∷ all))) ≡ Ok (all, j) → Came (λ ts. Listed i.room ts all) i i.room j
listed_more deeper count sound more i l j a all first is read =
    let came = sound i a l first in
    let one = steps (take_any l) (λ _ q. and_then (listed deeper count q) (λ all. pure (a ∷ all))) all j read in
    let comma = took_any (IsMark m.Comma) l.room l.tokens one.value one.between (λ t rest same. form_mark m.Comma t.form (ap (λ z. is_mark m.Comma (next_mark z)) (sym same) ∙ is)) one.first in
    let two = steps (listed deeper count one.between) (λ all. pure (a ∷ all)) all j one.second in
    let later = more one.between two.value two.between two.first in
    let room = comma.room_is ∙ came.room_is in
    subst (λ (p : List ExprTree × Input). Came (λ ts. Listed i.room ts p.0) i i.room p.1) (ok_is (a ∷ two.value, two.between) (all, j) two.second)
    (record {
      tokens = came.tokens ++ one.value ∷ later.tokens;
      is = came.is ∙ ap (λ z. came.tokens ++ z) (comma.is ∙ ap (λ z. one.value ∷ z) later.is) ∙ sym (append_assoc came.tokens (one.value ∷ later.tokens) two.between.tokens);
      reads = g.more one.value comma.holds came.reads (subst (λ r. Listed r later.tokens two.value) room later.reads);
      room_is = later.room_is ∙ room;
    })

listed_pick : (deeper : Parser ExprTree) (count : ℕ) → Sounds deeper → SoundList deeper count → (i l j : Input) (a : ExprTree) (all : List ExprTree) → deeper i ≡ Ok (a, l) → (test : Bool) → is_mark m.Comma (next_mark l.tokens) ≡ test
    → cond test (and_then (take_any l) (λ _ q. and_then (listed deeper count q) (λ all. pure (a ∷ all)))) (Ok (a ∷ [], l)) ≡ Ok (all, j) → Came (λ ts. Listed i.room ts all) i i.room j
listed_pick deeper count sound more i l j a all first true is read = listed_more deeper count sound more i l j a all first is read
listed_pick deeper count sound more i l j a all first false is read = listed_last deeper sound i l j a all first read

pub listed_came : (deeper : Parser ExprTree) → Sounds deeper → (count : ℕ) (i : Input) (all : List ExprTree) (j : Input) → listed deeper count i ≡ Ok (all, j) → Came (λ ts. Listed i.room ts all) i i.room j
listed_came deeper sound zero i all j read = absurd (err_is (all, j) _ read)
listed_came deeper sound (suc count) i all j read =
    let two = steps (deeper i) (λ a j. cond (is_mark m.Comma (next_mark j.tokens)) (and_then (take_any j) (λ _ l. and_then (listed deeper count l) (λ all. pure (a ∷ all)))) (Ok (a ∷ [], j))) all j read in
    listed_pick deeper count sound (listed_came deeper sound count) i two.between j two.value all two.first (is_mark m.Comma (next_mark two.between.tokens)) refl two.second

arguments_pick : (deeper : Parser ExprTree) → Sounds deeper → (i j : Input) (all : List ExprTree) (test : Bool) → cond test (Ok ([], i)) (listed deeper (length i.tokens) i) ≡ Ok (all, j) → Came (λ ts. Arguments i.room ts all) i i.room j
arguments_pick deeper sound i j all true read =
    subst (λ (p : List ExprTree × Input). Came (λ ts. Arguments i.room ts p.0) i i.room p.1) (ok_is ([], i) (all, j) read) (record { tokens = []; is = refl; reads = g.none; room_is = refl })
arguments_pick deeper sound i j all false read =
    let came = listed_came deeper sound (length i.tokens) i all j read in record { tokens = came.tokens; is = came.is; reads = g.some came.reads; room_is = came.room_is }

pub arguments_came : (deeper : Parser ExprTree) → Sounds deeper → (i j : Input) (all : List ExprTree) → arguments deeper i ≡ Ok (all, j) → Came (λ ts. Arguments i.room ts all) i i.room j
arguments_came deeper sound i j all read = arguments_pick deeper sound i j all (is_mark m.CloseParen (next_mark i.tokens)) read

-- ---- what is asked of an expression

-- what was read so far, and what reading on adds to it
pub record Goes (R : ℕ → Tokens → Type 0) (before : Tokens) (i j : Input) : Type 0 where
  pub tokens : Tokens
  pub is : i.tokens ≡ tokens ++ j.tokens
  pub reads : R j.room (before ++ tokens)

-- nothing is added
goes_nowhere : {R : ℕ → Tokens → Type 0} {before : Tokens} {i : Input} → R i.room before → Goes R before i i
goes_nowhere {R} {before} {i} reads = record { tokens = []; is = refl; reads = subst (R i.room) (sym (append-nil before)) reads }

-- what is added in two steps
goes_on : {R : ℕ → Tokens → Type 0} {before : Tokens} {i l j : Input} (first : Goes R before i l) → Goes R (before ++ first.tokens) l j → Goes R before i j
goes_on {R} {before} {i} {l} {j} first later = record {
  tokens = first.tokens ++ later.tokens;
  is = first.is ∙ ap (λ z. first.tokens ++ z) later.is ∙ sym (append_assoc first.tokens later.tokens j.tokens);
  reads = subst (R j.room) (append_assoc before first.tokens later.tokens) later.reads;
}

-- the end of a reading, by what is answered
answered : {A : Type 0} (R : A → ℕ → Tokens → Type 0) {before : Tokens} {i : Input} (a b : A) (l j : Input) → Goes (R a) before i l → ◌≡◌ {A = Outcome A} (Ok (a, l)) (Ok (b, j)) → Goes (R b) before i j
answered {A} R {before} {i} a b l j goes read = subst (λ (p : A × Input). Goes (R p.0) before i p.1) (ok_is (a, l) (b, j) read) goes

abbrev pub PostfixOf : ℕ → ExprTree → ℕ → Tokens → Type 0
PostfixOf room a left ts = Postfix room left ts a

field_came : (room : ℕ) (before : Tokens) (a : ExprTree) (name : Ident) (dot : Token) (i j : Input) (named : Named j name i) (start : Input) → start.room ≡ suc j.room → start.tokens ≡ dot ∷ j.tokens → IsMark m.Dot dot
    → Postfix room start.room before a → Goes (PostfixOf room (expression (line_of a) (e.Field a name))) before start i
field_came room before a name dot i j named start room_is is holds reads = record {
  tokens = dot ∷ named.token ∷ [];
  is = is ∙ ap (λ z. dot ∷ z) named.is;
  reads = subst (λ r. Postfix room r (before ++ dot ∷ named.token ∷ []) (expression (line_of a) (e.Field a name))) (sym named.room_is)
      (g.field dot named.token name holds named.holds (subst (λ r. Postfix room r before a) room_is reads));
}

call_came : (deeper : Parser ExprTree) → Sounds deeper → (room : ℕ) (before : Tokens) (a b : ExprTree) (name : Ident) (dot : Token) (i j l : Input) → Named j name i → (start : Input) → start.room ≡ suc j.room → start.tokens ≡ dot ∷ j.tokens → IsMark m.Dot dot
    → Postfix room start.room before a → call_suffix deeper a name i ≡ Ok (b, l) → Goes (PostfixOf room b) before start l
call_came deeper sound room before a b name dot i j l named start room_is is holds reads read =
    let one = steps (open_mark m.OpenParen i) (λ _ j. and_then (arguments deeper j) (λ all l. and_then (close_mark m.CloseParen l) (λ _. pure (expression (line_of a) (e.Call a name all))))) b l read in
    let opening = open_took m.OpenParen i one.value one.between one.first in
    let two = steps (arguments deeper one.between) (λ all l. and_then (close_mark m.CloseParen l) (λ _. pure (expression (line_of a) (e.Call a name all)))) b l one.second in
    let args = arguments_came deeper sound one.between two.between two.value two.first in
    let three = steps (close_mark m.CloseParen two.between) (λ _. pure (expression (line_of a) (e.Call a name two.value))) b l two.second in
    let closing = close_took m.CloseParen two.between three.value three.between three.first in
    let rooms : start.room ≡ suc (suc one.between.room) = room_is ∙ ap suc (sym named.room_is ∙ opening.room_is) in
    let left : three.between.room ≡ suc one.between.room = closing.room_is ∙ ap suc args.room_is in
    answered (PostfixOf room) (expression (line_of a) (e.Call a name two.value)) b three.between l (record {
      tokens = dot ∷ named.token ∷ one.value ∷ args.tokens ++ three.value ∷ [];
      is = is ∙ ap (λ z. dot ∷ z) (named.is ∙ ap (λ z. named.token ∷ z) (opening.is ∙ ap (λ z. one.value ∷ z) (args.is ∙ ap (λ z. args.tokens ++ z) closing.is ∙ sym (append_assoc args.tokens (three.value ∷ []) three.between.tokens))));
      reads = subst (λ r. Postfix room r (before ++ (dot ∷ named.token ∷ one.value ∷ args.tokens ++ three.value ∷ [])) (expression (line_of a) (e.Call a name two.value))) (sym left)
          (g.call dot named.token one.value three.value name holds named.holds opening.holds closing.holds (subst (λ r. Postfix room r before a) rooms reads) args.reads);
    }) three.second

asked_pick : (deeper : Parser ExprTree) → Sounds deeper → (room : ℕ) (before : Tokens) (a b : ExprTree) (name : Ident) (dot : Token) (i j l : Input) → Named j name i → (start : Input) → start.room ≡ suc j.room → start.tokens ≡ dot ∷ j.tokens → IsMark m.Dot dot
    → Postfix room start.room before a → (test : Bool) → cond test (call_suffix deeper a name i) (Ok (expression (line_of a) (e.Field a name), i)) ≡ Ok (b, l) → Goes (PostfixOf room b) before start l
asked_pick deeper sound room before a b name dot i j l named start room_is is holds reads true read = call_came deeper sound room before a b name dot i j l named start room_is is holds reads read
asked_pick deeper sound room before a b name dot i j l named start room_is is holds reads false read =
    answered (PostfixOf room) (expression (line_of a) (e.Field a name)) b i l (field_came room before a name dot i j named start room_is is holds reads) read

pub dot_came : (deeper : Parser ExprTree) → Sounds deeper → (room : ℕ) (before : Tokens) (a b : ExprTree) (i l : Input) → Postfix room i.room before a → dot_suffix deeper a i ≡ Ok (b, l) → Goes (PostfixOf room b) before i l
dot_came deeper sound room before a b i l reads read =
    let one = steps (open_mark m.Dot i) (λ _ j. and_then (take_name j) (λ name. field_suffix deeper a name)) b l read in
    let dot = open_took m.Dot i one.value one.between one.first in
    let two = steps (take_name one.between) (λ name. field_suffix deeper a name) b l one.second in
    let named = name_took one.between.room one.between.tokens two.value two.between two.first in
    asked_pick deeper sound room before a b two.value one.value two.between one.between l named i dot.room_is dot.is dot.holds reads (is_mark m.OpenParen (next_mark two.between.tokens)) two.second

pub element_came : (deeper : Parser ExprTree) → Sounds deeper → (room : ℕ) (before : Tokens) (a b : ExprTree) (i l : Input) → Postfix room i.room before a → element_suffix deeper a i ≡ Ok (b, l) → Goes (PostfixOf room b) before i l
element_came deeper sound room before a b i l reads read =
    let one = steps (open_mark m.OpenBracket i) (λ _ j. and_then (deeper j) (λ b l. and_then (take_mark m.CloseBracket l) (λ _. pure (expression (line_of a) (e.Elem a b))))) b l read in
    let opening = open_took m.OpenBracket i one.value one.between one.first in
    let two = steps (deeper one.between) (λ b l. and_then (take_mark m.CloseBracket l) (λ _. pure (expression (line_of a) (e.Elem a b)))) b l one.second in
    let inner = sound one.between two.value two.between two.first in
    let three = steps (take_mark m.CloseBracket two.between) (λ _. pure (expression (line_of a) (e.Elem a two.value))) b l two.second in
    let closing = mark_took m.CloseBracket two.between three.value three.between three.first in
    let left : three.between.room ≡ one.between.room = closing.room_is ∙ inner.room_is in
    answered (PostfixOf room) (expression (line_of a) (e.Elem a two.value)) b three.between l (record {
      tokens = one.value ∷ inner.tokens ++ three.value ∷ [];
      is = opening.is ∙ ap (λ z. one.value ∷ z) (inner.is ∙ ap (λ z. inner.tokens ++ z) closing.is ∙ sym (append_assoc inner.tokens (three.value ∷ []) three.between.tokens));
      reads = subst (λ r. Postfix room r (before ++ (one.value ∷ inner.tokens ++ three.value ∷ [])) (expression (line_of a) (e.Elem a two.value))) (sym left)
          (g.element one.value three.value opening.holds closing.holds (subst (λ r. Postfix room r before a) opening.room_is reads) inner.reads);
    }) three.second

abbrev pub SoundAsks : Parser ExprTree → ℕ → Type 0
SoundAsks deeper count = (room : ℕ) (before : Tokens) (a b : ExprTree) (i j : Input) → Postfix room i.room before a → suffixes deeper count a i ≡ Ok (b, j) → Goes (PostfixOf room b) before i j

suffixes_dot_on : (deeper : Parser ExprTree) (count : ℕ) → Sounds deeper → SoundAsks deeper count → (room : ℕ) (before : Tokens) (a b : ExprTree) (i j : Input) → Postfix room i.room before a
    → and_then (dot_suffix deeper a i) (suffixes deeper count) ≡ Ok (b, j) → Goes (PostfixOf room b) before i j
suffixes_dot_on deeper count sound more room before a b i j reads read =
    let one = steps (dot_suffix deeper a i) (suffixes deeper count) b j read in
    let first = dot_came deeper sound room before a one.value i one.between reads one.first in
    let later = more room (before ++ first.tokens) one.value b one.between j first.reads one.second in
    record { tokens = first.tokens ++ later.tokens; is = first.is ∙ ap (λ z. first.tokens ++ z) later.is ∙ sym (append_assoc first.tokens later.tokens j.tokens); reads = subst (λ z. Postfix room j.room z b) (append_assoc before first.tokens later.tokens) later.reads }

suffixes_element_on : (deeper : Parser ExprTree) (count : ℕ) → Sounds deeper → SoundAsks deeper count → (room : ℕ) (before : Tokens) (a b : ExprTree) (i j : Input) → Postfix room i.room before a
    → and_then (element_suffix deeper a i) (suffixes deeper count) ≡ Ok (b, j) → Goes (PostfixOf room b) before i j
suffixes_element_on deeper count sound more room before a b i j reads read =
    let one = steps (element_suffix deeper a i) (suffixes deeper count) b j read in
    let first = element_came deeper sound room before a one.value i one.between reads one.first in
    let later = more room (before ++ first.tokens) one.value b one.between j first.reads one.second in
    record { tokens = first.tokens ++ later.tokens; is = first.is ∙ ap (λ z. first.tokens ++ z) later.is ∙ sym (append_assoc first.tokens later.tokens j.tokens); reads = subst (λ z. Postfix room j.room z b) (append_assoc before first.tokens later.tokens) later.reads }

suffixes_done : (deeper : Parser ExprTree) (room : ℕ) (before : Tokens) (a b : ExprTree) (i j : Input) → Postfix room i.room before a → ◌≡◌ {A = Outcome ExprTree} (Ok (a, i)) (Ok (b, j)) → Goes (PostfixOf room b) before i j
suffixes_done deeper room before a b i j reads read = answered (PostfixOf room) a b i j (goes_nowhere {R = PostfixOf room a} reads) read

pub suffixes_came : (deeper : Parser ExprTree) → Sounds deeper → (count : ℕ) → SoundAsks deeper count
suffixes_came deeper sound zero room before a b i j reads read = pick (is_mark m.Dot (next_mark i.tokens)) (is_mark m.OpenBracket (next_mark i.tokens)) read
  where
    pick : (dot bracket : Bool) → ◌≡◌ {A = Outcome ExprTree} (cond {A = Outcome ExprTree} dot (Err (Rattle.dso_syntax.specs.ExpressionReader.too_deep, i.tokens)) (cond {A = Outcome ExprTree} bracket (Err (Rattle.dso_syntax.specs.ExpressionReader.too_deep, i.tokens)) (Ok (a, i)))) (Ok (b, j)) → Goes (PostfixOf room b) before i j
    pick true bracket read = absurd (err_is (b, j) _ read)
    pick false true read = absurd (err_is (b, j) _ read)
    pick false false read = suffixes_done deeper room before a b i j reads read
suffixes_came deeper sound (suc count) room before a b i j reads read = pick (suffixes_came deeper sound count) (is_mark m.Dot (next_mark i.tokens)) (is_mark m.OpenBracket (next_mark i.tokens)) read
  where
    pick : SoundAsks deeper count → (dot bracket : Bool) → cond dot (and_then (dot_suffix deeper a i) (suffixes deeper count)) (cond bracket (and_then (element_suffix deeper a i) (suffixes deeper count)) (Ok (a, i))) ≡ Ok (b, j) → Goes (PostfixOf room b) before i j
    pick more true bracket read = suffixes_dot_on deeper count sound more room before a b i j reads read
    pick more false true read = suffixes_element_on deeper count sound more room before a b i j reads read
    pick more false false read = suffixes_done deeper room before a b i j reads read

-- ---- primary expressions

abbrev pub PrimaryOf : Input → ExprTree → Input → Type 0
PrimaryOf i a j = Came (λ ts. Primary i.room ts a) i i.room j

primary_answered : (i : Input) (a b : ExprTree) (l j : Input) → PrimaryOf i a l → ◌≡◌ {A = Outcome ExprTree} (Ok (a, l)) (Ok (b, j)) → PrimaryOf i b j
primary_answered i a b l j came read = subst (λ (p : ExprTree × Input). PrimaryOf i p.0 p.1) (ok_is (a, l) (b, j) read) came

single_came : (i j : Input) (a : ExprTree) (tree : ExprForm) → plain_at i.tokens ≡ Some tree → and_then (take_any i) (λ t. pure (expression t.line tree)) ≡ Ok (a, j) → PrimaryOf i a j
single_came i j a tree is read =
    let one = steps (take_any i) (λ t. pure (expression t.line tree)) a j read in
    let took = took_any (λ t. g.plain_of t.form ≡ Some tree) i.room i.tokens one.value one.between (λ t rest same. ap plain_at (sym same) ∙ is) one.first in
    primary_answered i (expression one.value.line tree) a one.between j (record { tokens = one.value ∷ []; is = took.is; reads = g.single one.value tree took.holds; room_is = took.room_is }) one.second

parens_came : (deeper : Parser ExprTree) → Sounds deeper → (i j : Input) (a : ExprTree) → and_then (open_mark m.OpenParen i) (λ t. parens deeper t.line) ≡ Ok (a, j) → PrimaryOf i a j
parens_came deeper sound i j a read =
    let one = steps (open_mark m.OpenParen i) (λ t. parens deeper t.line) a j read in
    let opening = open_took m.OpenParen i one.value one.between one.first in
    let two = steps (deeper one.between) (λ b l. and_then (close_mark m.CloseParen l) (λ _. pure (expression one.value.line (e.Paren b)))) a j one.second in
    let inner = sound one.between two.value two.between two.first in
    let three = steps (close_mark m.CloseParen two.between) (λ _. pure (expression one.value.line (e.Paren two.value))) a j two.second in
    let closing = close_took m.CloseParen two.between three.value three.between three.first in
    primary_answered i (expression one.value.line (e.Paren two.value)) a three.between j (record {
      tokens = one.value ∷ inner.tokens ++ three.value ∷ [];
      is = opening.is ∙ ap (λ z. one.value ∷ z) (inner.is ∙ ap (λ z. inner.tokens ++ z) closing.is ∙ sym (append_assoc inner.tokens (three.value ∷ []) three.between.tokens));
      reads = subst (λ r. Primary r (one.value ∷ inner.tokens ++ three.value ∷ []) (expression one.value.line (e.Paren two.value))) (sym opening.room_is) (g.parens one.value three.value opening.holds closing.holds inner.reads);
      room_is = closing.room_is ∙ ap suc inner.room_is ∙ sym opening.room_is;
    }) three.second

-- the word of a kind
abbrev pub KindWord : Kind → Token → Type 0
KindWord kind t = (word : Keyword) × IsKeyword word t × (g.kind_of word ≡ Some kind)

pub kind_word : (kind : Kind) (t : Token) (this : Form) → t.form ≡ this → kind_at (Rattle.dso_syntax.specs.ExpressionReader.keyword_of this) ≡ Some kind → KindWord kind t
kind_word kind t (form.Keyword word) is known = (word, is, known)
kind_word kind t (form.Name name) is known = absurd (none-some kind known)
kind_word kind t (form.Mark mark) is known = absurd (none-some kind known)
kind_word kind t (form.Number value) is known = absurd (none-some kind known)
kind_word kind t (form.Text content) is known = absurd (none-some kind known)

array_came : (deeper : Parser ExprTree) → Sounds deeper → (i l j : Input) (a : ExprTree) (new : Token) (kind : Kind) → Took (IsKeyword k.New) i i.room new l → kind_at (next_keyword l.tokens) ≡ Some kind → made deeper new.line (Some kind) l ≡ Ok (a, j) → PrimaryOf i a j
array_came deeper sound i l j a new kind took known read =
    let zero = steps (take_any l) (λ _ j. and_then (open_mark m.OpenBracket j) (λ _ l. and_then (deeper l) (λ a n. and_then (close_mark m.CloseBracket n) (λ _. pure (expression new.line (e.NewArray kind a)))))) a j read in
    let word = took_any (KindWord kind) l.room l.tokens zero.value zero.between (λ t rest same. kind_word kind t t.form refl (ap (λ z. kind_at (next_keyword z)) (sym same) ∙ known)) zero.first in
    let one = steps (open_mark m.OpenBracket zero.between) (λ _ l. and_then (deeper l) (λ a n. and_then (close_mark m.CloseBracket n) (λ _. pure (expression new.line (e.NewArray kind a))))) a j zero.second in
    let opening = open_took m.OpenBracket zero.between one.value one.between one.first in
    let two = steps (deeper one.between) (λ b n. and_then (close_mark m.CloseBracket n) (λ _. pure (expression new.line (e.NewArray kind b)))) a j one.second in
    let inner = sound one.between two.value two.between two.first in
    let three = steps (close_mark m.CloseBracket two.between) (λ _. pure (expression new.line (e.NewArray kind two.value))) a j two.second in
    let closing = close_took m.CloseBracket two.between three.value three.between three.first in
    let room : i.room ≡ suc one.between.room = sym took.room_is ∙ sym word.room_is ∙ opening.room_is in
    primary_answered i (expression new.line (e.NewArray kind two.value)) a three.between j (record {
      tokens = new ∷ zero.value ∷ one.value ∷ inner.tokens ++ three.value ∷ [];
      is = took.is ∙ ap (λ z. new ∷ z) (word.is ∙ ap (λ z. zero.value ∷ z) (opening.is ∙ ap (λ z. one.value ∷ z) (inner.is ∙ ap (λ z. inner.tokens ++ z) closing.is ∙ sym (append_assoc inner.tokens (three.value ∷ []) three.between.tokens))));
      reads = subst (λ r. Primary r (new ∷ zero.value ∷ one.value ∷ inner.tokens ++ three.value ∷ []) (expression new.line (e.NewArray kind two.value))) (sym room)
          (g.array new zero.value one.value three.value word.holds.0 kind took.holds word.holds.1 word.holds.2 opening.holds closing.holds inner.reads);
      room_is = closing.room_is ∙ ap suc inner.room_is ∙ sym room;
    }) three.second

object_came : (deeper : Parser ExprTree) (i l j : Input) (a : ExprTree) (new : Token) → Took (IsKeyword k.New) i i.room new l → made deeper new.line None l ≡ Ok (a, j) → PrimaryOf i a j
object_came deeper i l j a new took read =
    let zero = steps (take_name l) (λ name j. and_then (open_mark m.OpenParen j) (λ _ l. and_then (close_mark m.CloseParen l) (λ _. pure (expression new.line (e.NewObject name))))) a j read in
    let named = name_took l.room l.tokens zero.value zero.between zero.first in
    let one = steps (open_mark m.OpenParen zero.between) (λ _ l. and_then (close_mark m.CloseParen l) (λ _. pure (expression new.line (e.NewObject zero.value)))) a j zero.second in
    let opening = open_took m.OpenParen zero.between one.value one.between one.first in
    let three = steps (close_mark m.CloseParen one.between) (λ _. pure (expression new.line (e.NewObject zero.value))) a j one.second in
    let closing = close_took m.CloseParen one.between three.value three.between three.first in
    let room : i.room ≡ suc one.between.room = sym took.room_is ∙ sym named.room_is ∙ opening.room_is in
    primary_answered i (expression new.line (e.NewObject zero.value)) a three.between j (record {
      tokens = new ∷ named.token ∷ one.value ∷ three.value ∷ [];
      is = took.is ∙ ap (λ z. new ∷ z) (named.is ∙ ap (λ z. named.token ∷ z) (opening.is ∙ ap (λ z. one.value ∷ z) closing.is));
      reads = subst (λ r. Primary r (new ∷ named.token ∷ one.value ∷ three.value ∷ []) (expression new.line (e.NewObject zero.value))) (sym room)
          (g.object new named.token one.value three.value zero.value took.holds named.holds opening.holds closing.holds);
      room_is = closing.room_is ∙ sym room;
    }) three.second

new_came : (deeper : Parser ExprTree) → Sounds deeper → (i l j : Input) (a : ExprTree) (new : Token) → Took (IsKeyword k.New) i i.room new l → (kind : Option Kind) → kind_at (next_keyword l.tokens) ≡ kind → made deeper new.line kind l ≡ Ok (a, j) → PrimaryOf i a j
new_came deeper sound i l j a new took (Some kind) known read = array_came deeper sound i l j a new kind took known read
new_came deeper sound i l j a new took None known read = object_came deeper i l j a new took read

other_came : (deeper : Parser ExprTree) → Sounds deeper → (i j : Input) (a : ExprTree) (test wide : Bool)
    → cond {A = Outcome ExprTree} test (and_then (open_mark m.OpenParen i) (λ t. parens deeper t.line))
    (cond wide (Err (too_wide, i.tokens)) (and_then (take_keyword k.New i) (λ t j. made deeper t.line (kind_at (next_keyword j.tokens)) j))) ≡ Ok (a, j) → PrimaryOf i a j
other_came deeper sound i j a true wide read = parens_came deeper sound i j a read
other_came deeper sound i j a false true read = absurd (err_is (a, j) _ read)
other_came deeper sound i j a false false read =
    let one = steps (take_keyword k.New i) (λ t j. made deeper t.line (kind_at (next_keyword j.tokens)) j) a j read in
    new_came deeper sound i one.between j a one.value (keyword_took k.New i one.value one.between one.first) (kind_at (next_keyword one.between.tokens)) refl one.second

primary_pick : (deeper : Parser ExprTree) → Sounds deeper → (i j : Input) (a : ExprTree) (plain : Option ExprForm) → plain_at i.tokens ≡ plain → primary_of deeper plain i ≡ Ok (a, j) → PrimaryOf i a j
primary_pick deeper sound i j a (Some tree) is read = single_came i j a tree is read
primary_pick deeper sound i j a None is read = other_came deeper sound i j a (is_mark m.OpenParen (next_mark i.tokens)) (is_wide (next_form i.tokens)) read

pub primary_came : (deeper : Parser ExprTree) → Sounds deeper → (i j : Input) (a : ExprTree) → primary deeper i ≡ Ok (a, j) → PrimaryOf i a j
primary_came deeper sound i j a read = primary_pick deeper sound i j a (plain_at i.tokens) refl read

-- ---- postfixes and signs

-- the form of an expression that leaves so much room, up to where reading goes on
abbrev pub Leaves : (ℕ → ℕ → Tokens → ExprTree → Type 0) → Input → ExprTree → Input → Type 0
Leaves R i a j = Came (λ ts. R i.room j.room ts a) i j.room j

pub postfix_came : (deeper : Parser ExprTree) → Sounds deeper → (n : ℕ) (i j : Input) (a : ExprTree) → postfix deeper n i ≡ Ok (a, j) → Leaves Postfix i a j
postfix_came deeper sound n i j a read =
    let one = steps (primary deeper i) (suffixes deeper n) a j read in
    let first = primary_came deeper sound i one.between one.value one.first in
    let later = suffixes_came deeper sound n i.room first.tokens one.value a one.between j (subst (λ r. Postfix i.room r first.tokens one.value) (sym first.room_is) (g.primary first.reads)) one.second in
    record { tokens = first.tokens ++ later.tokens; is = first.is ∙ ap (λ z. first.tokens ++ z) later.is ∙ sym (append_assoc first.tokens later.tokens j.tokens); reads = later.reads; room_is = refl }

abbrev pub SoundLeaves : (ℕ → ℕ → Tokens → ExprTree → Type 0) → Parser ExprTree → Type 0
SoundLeaves R parser = (i j : Input) (a : ExprTree) → parser i ≡ Ok (a, j) → Leaves R i a j

-- a level was taken
pub record Entered (tokens : Tokens) (room : ℕ) (j : Input) : Type 0 where
  pub room_is : room ≡ suc j.room
  pub is : tokens ≡ j.tokens

pub entered : (tokens : Tokens) (room : ℕ) (u : Unit {0}) (j : Input) → Rattle.dso_syntax.specs.ExpressionReader.enter_at tokens room ≡ Ok (u, j) → Entered tokens room j
entered tokens zero u j read = absurd (err_is (u, j) _ read)
entered tokens (suc room) u j read = subst (λ (p : Unit {0} × Input). Entered tokens (suc room) p.1) (ok_is (tt, at tokens room) (u, j) read) (record { room_is = refl; is = refl })

-- the symbol of a sign
abbrev pub SignMark : Op → Token → Type 0
SignMark o t = (mark : Mark) × IsMark mark t × (g.sign_of mark ≡ Some o)

pub sign_mark : (o : Op) (t : Token) (this : Form) → t.form ≡ this → sign_at (mark_of this) ≡ Some o → SignMark o t
sign_mark o t (form.Mark mark) is known = (mark, is, known)
sign_mark o t (form.Keyword word) is known = absurd (none-some o known)
sign_mark o t (form.Name name) is known = absurd (none-some o known)
sign_mark o t (form.Number value) is known = absurd (none-some o known)
sign_mark o t (form.Text content) is known = absurd (none-some o known)

signed_came : (o : Op) (operand : Parser ExprTree) → SoundLeaves Unary operand → (i j : Input) (a : ExprTree) → sign_at (next_mark i.tokens) ≡ Some o
    → and_then (enter i) (λ _ j. and_then (take_any j) (λ t l. and_then (operand l) (λ a q. and_then (leave q) (λ _. pure (expression t.line (e.Unary o a)))))) ≡ Ok (a, j) → Leaves Unary i a j
signed_came o operand sound i j a known read =
    let zero = steps (enter i) (λ _ j. and_then (take_any j) (λ t l. and_then (operand l) (λ a q. and_then (leave q) (λ _. pure (expression t.line (e.Unary o a)))))) a j read in
    let level = entered i.tokens i.room zero.value zero.between zero.first in
    let one = steps (take_any zero.between) (λ t l. and_then (operand l) (λ a q. and_then (leave q) (λ _. pure (expression t.line (e.Unary o a))))) a j zero.second in
    let sign = took_any (SignMark o) zero.between.room zero.between.tokens one.value one.between (λ t rest same. sign_mark o t t.form refl (ap (λ z. sign_at (next_mark z)) (sym same ∙ sym level.is) ∙ known)) one.first in
    let two = steps (operand one.between) (λ a q. and_then (leave q) (λ _. pure (expression one.value.line (e.Unary o a)))) a j one.second in
    let inner = sound one.between two.between two.value two.first in
    let room : i.room ≡ suc one.between.room = level.room_is ∙ ap suc (sym sign.room_is) in
    subst (λ (p : ExprTree × Input). Leaves Unary i p.0 p.1) (ok_is (expression one.value.line (e.Unary o two.value), at two.between.tokens (suc two.between.room)) (a, j) two.second) (record {
      tokens = one.value ∷ inner.tokens;
      is = level.is ∙ sign.is ∙ ap (λ z. one.value ∷ z) inner.is;
      reads = subst (λ r. Unary r (suc two.between.room) (one.value ∷ inner.tokens) (expression one.value.line (e.Unary o two.value))) (sym room) (g.signed one.value sign.holds.0 o sign.holds.1 sign.holds.2 inner.reads);
      room_is = refl;
    })

plain_came : (i j : Input) (a : ExprTree) → Leaves Postfix i a j → Leaves Unary i a j
plain_came i j a came = record { tokens = came.tokens; is = came.is; reads = g.plain came.reads; room_is = came.room_is }

unary_pick : (deeper : Parser ExprTree) → Sounds deeper → (n : ℕ) (operand : Parser ExprTree) → SoundLeaves Unary operand → (i j : Input) (a : ExprTree) (sign : Option Op) → sign_at (next_mark i.tokens) ≡ sign
    → unary_of deeper sign operand (postfix deeper n) i ≡ Ok (a, j) → Leaves Unary i a j
unary_pick deeper sound n operand inner i j a (Some o) known read = signed_came o operand inner i j a known read
unary_pick deeper sound n operand inner i j a None known read = plain_came i j a (postfix_came deeper sound n i j a read)

pub unary_came : (deeper : Parser ExprTree) → Sounds deeper → (depth n : ℕ) → SoundLeaves Unary (unary deeper depth n)
unary_came deeper sound zero n i j a read = unary_pick deeper sound n refuse (λ i j a read. absurd (err_is (a, j) _ read)) i j a (sign_at (next_mark i.tokens)) refl read
unary_came deeper sound (suc depth) n i j a read = unary_pick deeper sound n (unary deeper depth n) (unary_came deeper sound depth n) i j a (sign_at (next_mark i.tokens)) refl read

-- ---- operators

-- the symbol of an operator of a rank
abbrev pub OperatorMark : ℕ → Op → Token → Type 0
OperatorMark rank o t = (mark : Mark) × IsMark mark t × (g.operator_of mark ≡ Some (rank, o))

rank_is : (rank : ℕ) (o : Op) (p : Option (ℕ × Op)) → of_rank rank p ≡ Some o → p ≡ Some (rank, o)
rank_is rank o None known = absurd (none-some o known)
rank_is rank o (Some p) known = pick (p.0 == rank) refl known
  where
    pick : (test : Bool) → (p.0 == rank) ≡ test → cond test (Some p.1) None ≡ Some o → ◌≡◌ {A = Option (ℕ × Op)} (Some p) (Some (rank, o))
    pick true same known = λ i. Some ((Decides-eqb p.0 rank).0 same i, same_Some p.1 o known i)
    pick false same known = absurd (none-some o known)

pub operator_mark : (rank : ℕ) (o : Op) (t : Token) (this : Form) → t.form ≡ this → of_rank rank (operator_at (mark_of this)) ≡ Some o → OperatorMark rank o t
operator_mark rank o t (form.Mark mark) is known = (mark, is, rank_is rank o (g.operator_of mark) known)
operator_mark rank o t (form.Keyword word) is known = absurd (none-some o known)
operator_mark rank o t (form.Name name) is known = absurd (none-some o known)
operator_mark rank o t (form.Number value) is known = absurd (none-some o known)
operator_mark rank o t (form.Text content) is known = absurd (none-some o known)

abbrev RankOf : ℕ → ℕ → ExprTree → ℕ → Tokens → Type 0
RankOf rank room a left ts = Binary rank room left ts a

-- what goes on behind an operation
abbrev SoundMore : ℕ → (ExprTree → Parser ExprTree) → Type 0
SoundMore rank more = (room : ℕ) (before : Tokens) (a b : ExprTree) (i j : Input) → Binary (suc rank) room i.room before a → more a i ≡ Ok (b, j) → Goes (RankOf (suc rank) room b) before i j

pub operation_came : (rank : ℕ) (o : Op) (operand : Parser ExprTree) (more : ExprTree → Parser ExprTree) → SoundLeaves (Binary rank) operand → SoundMore rank more
    → (room : ℕ) (before : Tokens) (a b : ExprTree) (i j : Input) → Binary (suc rank) room i.room before a → of_rank rank (operator_at (next_mark i.tokens)) ≡ Some o
    → operation_of (Some o) operand a more i ≡ Ok (b, j) → Goes (RankOf (suc rank) room b) before i j
operation_came rank o operand more sound sound_more room before a b i j reads known read =
    let zero = steps (enter i) (λ _ j. and_then (take_any j) (λ _ l. and_then (operand l) (λ b. more (expression (line_of a) (e.Binary o a b))))) b j read in
    let level = entered i.tokens i.room zero.value zero.between zero.first in
    let one = steps (take_any zero.between) (λ _ l. and_then (operand l) (λ b. more (expression (line_of a) (e.Binary o a b)))) b j zero.second in
    let sign = took_any (OperatorMark rank o) zero.between.room zero.between.tokens one.value one.between (λ t rest same. operator_mark rank o t t.form refl (ap (λ z. of_rank rank (operator_at (next_mark z))) (sym same ∙ sym level.is) ∙ known)) one.first in
    let two = steps (operand one.between) (λ b. more (expression (line_of a) (e.Binary o a b))) b j one.second in
    let inner = sound one.between two.between two.value two.first in
    let left : i.room ≡ suc one.between.room = level.room_is ∙ ap suc (sym sign.room_is) in
    let later = sound_more room (before ++ one.value ∷ inner.tokens) (expression (line_of a) (e.Binary o a two.value)) b two.between j
    (g.operation one.value sign.holds.0 o sign.holds.1 sign.holds.2 (subst (λ r. Binary (suc rank) room r before a) left reads) inner.reads) two.second in
    record {
      tokens = (one.value ∷ inner.tokens) ++ later.tokens;
      is = level.is ∙ sign.is ∙ ap (λ z. one.value ∷ z) (inner.is ∙ ap (λ z. inner.tokens ++ z) later.is) ∙ sym (append_assoc (one.value ∷ inner.tokens) later.tokens j.tokens);
      reads = subst (λ z. Binary (suc rank) room j.room z b) (append_assoc before (one.value ∷ inner.tokens) later.tokens) later.reads;
    }

operation_pick : (rank : ℕ) (operand : Parser ExprTree) (more : ExprTree → Parser ExprTree) → SoundLeaves (Binary rank) operand → SoundMore rank more → (room : ℕ) (before : Tokens) (a b : ExprTree) (i j : Input)
    → Binary (suc rank) room i.room before a → (o : Option Op) → of_rank rank (operator_at (next_mark i.tokens)) ≡ o → operation_of o operand a more i ≡ Ok (b, j) → Goes (RankOf (suc rank) room b) before i j
operation_pick rank operand more sound sound_more room before a b i j reads (Some o) known read = operation_came rank o operand more sound sound_more room before a b i j reads known read
operation_pick rank operand more sound sound_more room before a b i j reads None known read =
    answered (RankOf (suc rank) room) a b i j (goes_nowhere {R = RankOf (suc rank) room a} reads) read

operations_came : (operand : Parser ExprTree) (rank count : ℕ) → SoundLeaves (Binary rank) operand → SoundMore rank (operations operand rank count)
operations_came operand rank zero sound room before a b i j reads read =
    operation_pick rank operand (λ b. refuse) sound (λ room before a b i j reads read. absurd (err_is (b, j) _ read)) room before a b i j reads (of_rank rank (operator_at (next_mark i.tokens))) refl read
operations_came operand rank (suc count) sound room before a b i j reads read =
    operation_pick rank operand (operations operand rank count) sound (operations_came operand rank count sound) room before a b i j reads (of_rank rank (operator_at (next_mark i.tokens))) refl read

pub climb_came : (unary : Parser ExprTree) (n rank : ℕ) → SoundLeaves Unary unary → SoundLeaves (Binary rank) (climb unary n rank)
climb_came unary n zero sound i j a read = let came = sound i j a read in record { tokens = came.tokens; is = came.is; reads = g.operand came.reads; room_is = came.room_is }
climb_came unary n (suc rank) sound i j a read =
    let one = steps (climb unary n rank i) (operations (climb unary n rank) rank n) a j read in
    let first = climb_came unary n rank sound i one.between one.value one.first in
    let later = operations_came (climb unary n rank) rank n (climb_came unary n rank sound) i.room first.tokens one.value a one.between j (g.tighter first.reads) one.second in
    record { tokens = first.tokens ++ later.tokens; is = first.is ∙ ap (λ z. first.tokens ++ z) later.is ∙ sym (append_assoc first.tokens later.tokens j.tokens); reads = later.reads; room_is = refl }

-- a whole expression
restored_came : (i : Input) (o : Outcome ExprTree) (a : ExprTree) (j : Input) → ((b : ExprTree) (l : Input) → o ≡ Ok (b, l) → Leaves (Binary top_rank) i b l) → restored i.room o ≡ Ok (a, j) → Came (λ ts. Whole i.room ts a) i i.room j
restored_came i (Err stop) a j sound read = absurd (err_is (a, j) _ read)
restored_came i (Ok p) a j sound read =
    let came = sound p.0 p.1 refl in
    subst (λ (q : ExprTree × Input). Came (λ ts. Whole i.room ts q.0) i i.room q.1) (ok_is (p.0, at p.1.tokens i.room) (a, j) read) (record { tokens = came.tokens; is = came.is; reads = g.whole came.reads; room_is = refl })

pub whole_came : (n : ℕ) → Sounds (whole n)
whole_came zero i a j read = absurd (err_is (a, j) _ read)
whole_came (suc n) i a j read =
    restored_came i (climb (unary (whole n) n n) n top_rank i) a j (λ b l same. climb_came (unary (whole n) n n) n top_rank (unary_came (whole n) (whole_came n) n n) i l b same) read
