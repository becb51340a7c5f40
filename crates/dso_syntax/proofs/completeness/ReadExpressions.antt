-- Every expression of the grammar is read, and as its tree.
use Rattle.std.proofs.Common.{◌≡◌, ℕ, zero, suc, ◌≤◌, ◌<◌, false, cond, List, [], ◌∷◌, ◌++◌, length, Some, None, Ok, refl, sym, subst, ap, ◌∙◌, arith, append_assoc, length-append}
use Rattle.dso_base.specs.declared.op.Op.{Op}
use Rattle.dso_tokens.specs.declared.token.Keyword.{Keyword}
use Rattle.dso_tokens.specs.declared.token.Keyword.TheVariants as k
use Rattle.dso_tokens.specs.declared.token.Mark.{Mark}
use Rattle.dso_tokens.specs.declared.token.Mark.TheVariants as m
use Rattle.dso_tokens.specs.declared.token.Token.{Token}
use Rattle.dso_syntax.specs.declared.tree.ExprTree.{ExprTree}
use Rattle.dso_syntax.specs.declared.tree.ExprForm.TheVariants as e
use Rattle.dso_syntax.specs.Grammar as g
use Rattle.dso_syntax.specs.Grammar.{Tokens, expression, line_of, top_rank, Binary, Unary, Postfix, Primary, Whole, Arguments, Listed}
use Rattle.dso_syntax.specs.ExpressionReader.{Outcome, Parser, and_then, refuse, is_mark, next_mark, sign_at, arguments, listed, suffixes, primary, postfix, unary, unary_of, operations, climb, restored, whole}
use Rattle.dso_syntax.proofs.completeness.ReadSteps.{at, Ends, ends_lower, ends_operator, binary_room, postfix_room, Starts, StartsPlain, postfix_starts, whole_starts, listed_starts, operation_step, operations_stop, suffixes_stop, field_step, call_step, element_step}

-- the reader of operands, where so many levels may be opened
abbrev pub operands : ℕ → Parser ExprTree
operands n = unary (whole n) n n

-- what was read, with a bound for what goes on
pub record Loops (left : ℕ) (outcome : Outcome ExprTree) (more : ℕ → Outcome ExprTree) : Type 0 where
  pub count : ℕ
  pub bound : left ≤ count
  pub same : outcome ≡ more count

-- the same tokens, grouped the other way
pub regroup : (ts us rest : Tokens) (room : ℕ) → at ((ts ++ us) ++ rest) room ≡ at (ts ++ (us ++ rest)) room
regroup ts us rest room = ap (λ z. at z room) (append_assoc ts us rest)

after_operation : (n rank room between left : ℕ) (ts us rest : Tokens) (a b : ExprTree) (t : Token) (mark : Mark) (o : Op) → g.IsMark mark t → g.operator_of mark ≡ Some (rank, o) → left ≤ between
    → Loops (suc between) (climb (operands n) n (suc rank) (at (ts ++ (t ∷ us ++ rest)) room)) (λ count. operations (climb (operands n) n rank) rank count a (at (t ∷ us ++ rest) (suc between)))
    → climb (operands n) n rank (at (us ++ rest) between) ≡ Ok (b, at rest left)
    → Loops left (climb (operands n) n (suc rank) (at ((ts ++ t ∷ us) ++ rest) room)) (λ count. operations (climb (operands n) n rank) rank count (expression (line_of a) (e.Binary o a b)) (at rest left))
after_operation n rank room between left ts us rest a b t mark o is operator least loops read = go loops.count loops.bound loops.same
  where
    go : (count : ℕ) → suc between ≤ count → climb (operands n) n (suc rank) (at (ts ++ (t ∷ us ++ rest)) room) ≡ operations (climb (operands n) n rank) rank count a (at (t ∷ us ++ rest) (suc between))
        → Loops left (climb (operands n) n (suc rank) (at ((ts ++ t ∷ us) ++ rest) room)) (λ count. operations (climb (operands n) n rank) rank count (expression (line_of a) (e.Binary o a b)) (at rest left))
    go zero bound same = absurd (omega arith)
    go (suc count) bound same = record {
      count = count;
      bound = omega arith;
      same = ap (climb (operands n) n (suc rank)) (regroup ts (t ∷ us) rest room) ∙ same ∙ operation_step (climb (operands n) n rank) rank count t mark o a b us rest between left is operator read;
    }

-- a loop that nothing goes on ends
stop : (n rank left : ℕ) (rest : Tokens) (a : ExprTree) (outcome : Outcome ExprTree) → Ends (suc rank) rest → Loops left outcome (λ count. operations (climb (operands n) n rank) rank count a (at rest left))
    → outcome ≡ Ok (a, at rest left)
stop n rank left rest a outcome ends loops = loops.same ∙ operations_stop (climb (operands n) n rank) rank loops.count a rest left (ends.no_tighter rank (omega arith))

tighter_loops : (n rank room left : ℕ) (ts rest : Tokens) (a : ExprTree) → left ≤ room → room ≤ n → climb (operands n) n rank (at (ts ++ rest) room) ≡ Ok (a, at rest left)
    → Loops left (climb (operands n) n (suc rank) (at (ts ++ rest) room)) (λ count. operations (climb (operands n) n rank) rank count a (at rest left))
tighter_loops n rank room left ts rest a least bound read = record { count = n; bound = omega arith; same = ap (λ o. and_then o (operations (climb (operands n) n rank) rank n)) read }

-- ---- what is asked of an expression

-- the room that a bound leaves for one more level
asked_more : {left : ℕ} {outcome : Outcome ExprTree} {more : ℕ → Outcome ExprTree} {next : ℕ} {further : ℕ → Outcome ExprTree} → next ≤ left → Loops (suc left) outcome more
    → ((count : ℕ) → more (suc count) ≡ further count) → Loops next outcome further
asked_more {left} {outcome} {more} {next} {further} least loops step = go loops.count loops.bound loops.same
  where
    go : (count : ℕ) → suc left ≤ count → outcome ≡ more count → Loops next outcome further
    go zero bound same = absurd (omega arith)
    go (suc count) bound same = record { count = count; bound = omega arith; same = same ∙ step count }

-- the same reading of tokens grouped the other way
grouped : (p : Parser ExprTree) {left : ℕ} {more : ℕ → Outcome ExprTree} (ts us rest : Tokens) (room : ℕ) → Loops left (p (at (ts ++ (us ++ rest)) room)) more → Loops left (p (at ((ts ++ us) ++ rest) room)) more
grouped p ts us rest room loops = record { count = loops.count; bound = loops.bound; same = ap p (regroup ts us rest room) ∙ loops.same }

-- a number of arguments
pub ends_comma : (comma : Token) (rest : Tokens) → g.IsMark m.Comma comma → Ends top_rank (comma ∷ rest)
ends_comma comma rest is = record { no_dot = rw is refl; no_bracket = rw is refl; no_paren = rw is refl; no_tighter = λ r below. rw is refl }

pub ends_close : (closing : Token) (rest : Tokens) → g.IsMark m.CloseParen closing → Ends top_rank (closing ∷ rest)
ends_close closing rest is = record { no_dot = rw is refl; no_bracket = rw is refl; no_paren = rw is refl; no_tighter = λ r below. rw is refl }

pub ends_bracket : (closing : Token) (rest : Tokens) → g.IsMark m.CloseBracket closing → Ends top_rank (closing ∷ rest)
ends_bracket closing rest is = record { no_dot = rw is refl; no_bracket = rw is refl; no_paren = rw is refl; no_tighter = λ r below. rw is refl }

-- the last of a list
listed_last : (deeper : Parser ExprTree) (count room : ℕ) (ts rest : Tokens) (a : ExprTree) → is_mark m.Comma (next_mark rest) ≡ false → deeper (at (ts ++ rest) room) ≡ Ok (a, at rest room)
    → listed deeper (suc count) (at (ts ++ rest) room) ≡ Ok (a ∷ [], at rest room)
listed_last deeper count room ts rest a no_comma read = rw (read, no_comma) refl

-- one more of a list
listed_more : (deeper : Parser ExprTree) (count room : ℕ) (ts us rest : Tokens) (a : ExprTree) (all : List ExprTree) (comma : Token) → g.IsMark m.Comma comma
    → deeper (at (ts ++ (comma ∷ us ++ rest)) room) ≡ Ok (a, at (comma ∷ us ++ rest) room) → listed deeper count (at (us ++ rest) room) ≡ Ok (all, at rest room)
    → listed deeper (suc count) (at (ts ++ (comma ∷ us ++ rest)) room) ≡ Ok (a ∷ all, at rest room)
listed_more deeper count room ts us rest a all comma is read later = rw (read, is, later) refl

-- a list has no more items than tokens
listed_count : {room : ℕ} {ts : Tokens} {all : List ExprTree} → Listed room ts all → length all ≤ length ts
listed_count (g.last {ts = ts} d) = let some : 1 ≤ length ts = nonempty (whole_starts d) in some
  where
    nonempty : {ts : Tokens} → Starts ts → 1 ≤ length ts
    nonempty starts = let len = ap length starts.is in omega (arith, len)
listed_count (g.more {ts = ts} {us = us} comma is d all) = let later = listed_count all in let len = length-append ts (comma ∷ us) in omega (arith, later, len)

-- ---- primary expressions

single_step : (deeper : Parser ExprTree) (room : ℕ) (t : Token) (tree : _) (rest : Tokens) → g.plain_of t.form ≡ Some tree → primary deeper (at (t ∷ rest) room) ≡ Ok (expression t.line tree, at rest room)
single_step deeper room t tree rest is = rw is refl

parens_step : (deeper : Parser ExprTree) (room : ℕ) (opening closing : Token) (ts rest : Tokens) (a : ExprTree) → g.IsMark m.OpenParen opening → g.IsMark m.CloseParen closing
    → deeper (at (ts ++ closing ∷ rest) room) ≡ Ok (a, at (closing ∷ rest) room)
    → primary deeper (at (opening ∷ ts ++ closing ∷ rest) (suc room)) ≡ Ok (expression opening.line (e.Paren a), at rest (suc room))
parens_step deeper room opening closing ts rest a opens closes read = rw (opens, read, closes) refl

object_step : (deeper : Parser ExprTree) (room : ℕ) (new named opening closing : Token) (name : _) (rest : Tokens) → g.IsKeyword k.New new → g.IsName name named → g.IsMark m.OpenParen opening → g.IsMark m.CloseParen closing
    → primary deeper (at (new ∷ named ∷ opening ∷ closing ∷ rest) (suc room)) ≡ Ok (expression new.line (e.NewObject name), at rest (suc room))
object_step deeper room new named opening closing name rest is_new is_name opens closes = rw (is_new, is_name.0, is_name.1, opens, closes) refl

array_step : (deeper : Parser ExprTree) (room : ℕ) (new made opening closing : Token) (word : Keyword) (this : _) (ts rest : Tokens) (a : ExprTree) → g.IsKeyword k.New new → g.IsKeyword word made → g.kind_of word ≡ Some this
    → g.IsMark m.OpenBracket opening → g.IsMark m.CloseBracket closing → deeper (at (ts ++ closing ∷ rest) room) ≡ Ok (a, at (closing ∷ rest) room)
    → primary deeper (at (new ∷ made ∷ opening ∷ ts ++ closing ∷ rest) (suc room)) ≡ Ok (expression new.line (e.NewArray this a), at rest (suc room))
array_step deeper room new made opening closing word this ts rest a is_new is_word is_kind opens closes read = rw (is_new, is_word, is_kind, opens, read, closes) refl

-- ---- signs

plain_step : (n depth : ℕ) (room left : ℕ) (ts rest : Tokens) (a : ExprTree) → StartsPlain ts → postfix (whole n) n (at (ts ++ rest) room) ≡ Ok (a, at rest left)
    → unary (whole n) depth n (at (ts ++ rest) room) ≡ Ok (a, at rest left)
plain_step n depth room left ts rest a starts read = pick depth
  where
    none : sign_at (next_mark (ts ++ rest)) ≡ None
    none = ap (λ z. sign_at (next_mark (z ++ rest))) starts.is ∙ starts.no_sign

    pick : (depth : ℕ) → unary (whole n) depth n (at (ts ++ rest) room) ≡ Ok (a, at rest left)
    pick zero = ap (λ o. unary_of (whole n) o refuse (postfix (whole n) n) (at (ts ++ rest) room)) none ∙ read
    pick (suc depth) = ap (λ o. unary_of (whole n) o (unary (whole n) depth n) (postfix (whole n) n) (at (ts ++ rest) room)) none ∙ read

signed_step : (n depth room left : ℕ) (t : Token) (mark : Mark) (o : Op) (ts rest : Tokens) (a : ExprTree) → g.IsMark mark t → g.sign_of mark ≡ Some o
    → unary (whole n) depth n (at (ts ++ rest) room) ≡ Ok (a, at rest left)
    → unary (whole n) (suc depth) n (at (t ∷ ts ++ rest) (suc room)) ≡ Ok (expression t.line (e.Unary o a), at rest (suc left))
signed_step n depth room left t mark o ts rest a is sign read = rw (is, sign, read) refl

most : (n room between : ℕ) → suc between ≤ room → room ≤ n → between ≤ n
most n room between least bound = omega arith

below : (n room left : ℕ) → suc (suc left) ≤ room → room ≤ n → left < n
below n room left least bound = omega arith

below' : (n room left : ℕ) → suc left ≤ room → room ≤ n → left < n
below' n room left least bound = omega arith

-- the arguments that are there
some_step : (deeper : Parser ExprTree) (room : ℕ) (ts rest : Tokens) (all : List ExprTree) → Starts ts → listed deeper (length (ts ++ rest)) (at (ts ++ rest) room) ≡ Ok (all, at rest room)
    → arguments deeper (at (ts ++ rest) room) ≡ Ok (all, at rest room)
some_step deeper room ts rest all starts read =
    ap (λ test. cond test (Ok ([], at (ts ++ rest) room)) (listed deeper (length (ts ++ rest)) (at (ts ++ rest) room))) (ap (λ z. is_mark m.CloseParen (next_mark (z ++ rest))) starts.is ∙ starts.no_close) ∙ read

-- ---- every expression is read

mutual
  pub binary_read : (n : ℕ) {rank room left : ℕ} {ts : Tokens} {a : ExprTree} → Binary rank room left ts a → (rest : Tokens) → room ≤ n → Ends rank rest
      → climb (operands n) n rank (at (ts ++ rest) room) ≡ Ok (a, at rest left)
  binary_read n (g.operand d) rest bound ends = unary_read n n d rest bound bound ends
  binary_read n (g.tighter {rank = rank} {room = room} {left = left} {ts = ts} {a = a} d) rest bound ends =
      stop n rank left rest a _ ends (tighter_loops n rank room left ts rest a (binary_room d) bound (binary_read n d rest bound (ends_lower rank rest ends)))
  binary_read n (g.operation {rank = rank} {room = room} {between = between} {left = left} {ts = ts} {us = us} {a = a} {b = b} t mark o is operator d later) rest bound ends =
      stop n rank left rest (expression (line_of a) (e.Binary o a b)) _ ends
      (after_operation n rank room between left ts us rest a b t mark o is operator (binary_room later)
      (binary_loops n d (t ∷ us ++ rest) bound (ends_operator rank o mark t (us ++ rest) is operator))
      (binary_read n later rest (most n room between (binary_room d) bound) (ends_lower rank rest ends)))

  pub binary_loops : (n : ℕ) {rank room left : ℕ} {ts : Tokens} {a : ExprTree} → Binary (suc rank) room left ts a → (rest : Tokens) → room ≤ n → Ends rank rest
      → Loops left (climb (operands n) n (suc rank) (at (ts ++ rest) room)) (λ count. operations (climb (operands n) n rank) rank count a (at rest left))
  binary_loops n (g.tighter {rank = rank} {room = room} {left = left} {ts = ts} {a = a} d) rest bound ends =
      tighter_loops n rank room left ts rest a (binary_room d) bound (binary_read n d rest bound ends)
  binary_loops n (g.operation {rank = rank} {room = room} {between = between} {left = left} {ts = ts} {us = us} {a = a} {b = b} t mark o is operator d later) rest bound ends =
      after_operation n rank room between left ts us rest a b t mark o is operator (binary_room later)
      (binary_loops n d (t ∷ us ++ rest) bound (ends_operator rank o mark t (us ++ rest) is operator))
      (binary_read n later rest (most n room between (binary_room d) bound) ends)

  pub unary_read : (n depth : ℕ) {room left : ℕ} {ts : Tokens} {a : ExprTree} → Unary room left ts a → (rest : Tokens) → room ≤ depth → room ≤ n → Ends zero rest
      → unary (whole n) depth n (at (ts ++ rest) room) ≡ Ok (a, at rest left)
  unary_read n depth (g.plain {room = room} {left = left} {ts = ts} {a = a} d) rest deep bound ends =
      let loops = postfix_asks n d rest bound ends.no_paren in
      plain_step n depth room left ts rest a (postfix_starts d) (loops.same ∙ suffixes_stop (whole n) loops.count a rest left ends.no_dot ends.no_bracket)
  unary_read n zero (g.signed t mark o is sign d) rest deep bound ends = absurd (omega arith)
  unary_read n (suc depth) (g.signed {room = room} {left = left} {ts = ts} {a = a} t mark o is sign d) rest deep bound ends =
      signed_step n depth room left t mark o ts rest a is sign (unary_read n depth d rest (omega arith) (omega arith) ends)

  pub postfix_asks : (n : ℕ) {room left : ℕ} {ts : Tokens} {a : ExprTree} → Postfix room left ts a → (rest : Tokens) → room ≤ n → is_mark m.OpenParen (next_mark rest) ≡ false
      → Loops left (postfix (whole n) n (at (ts ++ rest) room)) (λ count. suffixes (whole n) count a (at rest left))
  postfix_asks n (g.primary {room = room} {ts = ts} {a = a} d) rest bound no_paren =
      record { count = n; bound = bound; same = ap (λ o. and_then o (suffixes (whole n) n)) (primary_read n d rest bound) }
  postfix_asks n (g.field {room = room} {left = left} {ts = ts} {a = a} dot named name is_dot is_name d) rest bound no_paren =
      grouped (postfix (whole n) n) ts (dot ∷ named ∷ []) rest room
      (asked_more (omega arith) (postfix_asks n d (dot ∷ named ∷ rest) bound (rw is_dot refl)) (λ count. field_step (whole n) count left dot named name a rest is_dot is_name no_paren))
  postfix_asks n (g.call {room = room} {left = left} {ts = ts} {us = us} {a = a} {all = all} dot named opening closing name is_dot is_name opens closes d args) rest bound no_paren =
      grouped (postfix (whole n) n) ts (dot ∷ named ∷ opening ∷ us ++ closing ∷ []) rest room
      (subst (λ z. Loops (suc left) (postfix (whole n) n (at (ts ++ (dot ∷ named ∷ opening ∷ z)) room)) (λ count. suffixes (whole n) count (expression (line_of a) (e.Call a name all)) (at rest (suc left)))) (sym (append_assoc us (closing ∷ []) rest))
      (asked_more (omega arith) (postfix_asks n d (dot ∷ named ∷ opening ∷ us ++ closing ∷ rest) bound (rw is_dot refl))
      (λ count. call_step (whole n) count left dot named opening closing name a all us rest is_dot is_name opens closes
      (arguments_read n args closing rest (below n room left (postfix_room d) bound) closes))))
  postfix_asks n (g.element {room = room} {left = left} {ts = ts} {us = us} {a = a} {b = b} opening closing opens closes d inner) rest bound no_paren =
      grouped (postfix (whole n) n) ts (opening ∷ us ++ closing ∷ []) rest room
      (subst (λ z. Loops left (postfix (whole n) n (at (ts ++ (opening ∷ z)) room)) (λ count. suffixes (whole n) count (expression (line_of a) (e.Elem a b)) (at rest left))) (sym (append_assoc us (closing ∷ []) rest))
      (asked_more (omega arith) (postfix_asks n d (opening ∷ us ++ closing ∷ rest) bound (rw opens refl))
      (λ count. element_step (whole n) count left opening closing a b us rest opens closes
      (inner_read n inner (closing ∷ rest) (below' n room left (postfix_room d) bound) (ends_bracket closing rest closes)))))

  pub primary_read : (n : ℕ) {room : ℕ} {ts : Tokens} {a : ExprTree} → Primary room ts a → (rest : Tokens) → room ≤ n → primary (whole n) (at (ts ++ rest) room) ≡ Ok (a, at rest room)
  primary_read n (g.single {room = room} t tree is) rest bound = single_step (whole n) room t tree rest is
  primary_read n (g.object {room = room} new named opening closing name is_new is_name opens closes) rest bound = object_step (whole n) room new named opening closing name rest is_new is_name opens closes
  primary_read zero (g.parens opening closing opens closes d) rest bound = absurd (omega arith)
  primary_read (suc n) (g.parens {room = room} {ts = ts} {a = a} opening closing opens closes d) rest bound =
      ap (primary (whole (suc n))) (regroup (opening ∷ ts) (closing ∷ []) rest (suc room))
      ∙ parens_step (whole (suc n)) room opening closing ts rest a opens closes (inner_read (suc n) d (closing ∷ rest) (omega arith) (ends_close closing rest closes))
  primary_read zero (g.array new made opening closing word kind is_new is_word is_kind opens closes d) rest bound = absurd (omega arith)
  primary_read (suc n) (g.array {room = room} {ts = ts} {a = a} new made opening closing word kind is_new is_word is_kind opens closes d) rest bound =
      ap (primary (whole (suc n))) (regroup (new ∷ made ∷ opening ∷ ts) (closing ∷ []) rest (suc room))
      ∙ array_step (whole (suc n)) room new made opening closing word kind ts rest a is_new is_word is_kind opens closes (inner_read (suc n) d (closing ∷ rest) (omega arith) (ends_bracket closing rest closes))

  pub inner_read : (n : ℕ) {room : ℕ} {ts : Tokens} {a : ExprTree} → Whole room ts a → (rest : Tokens) → room < n → Ends top_rank rest → whole n (at (ts ++ rest) room) ≡ Ok (a, at rest room)
  inner_read zero (g.whole d) rest bound ends = absurd (omega arith)
  inner_read (suc n) (g.whole {room = room} d) rest bound ends = ap (restored room) (binary_read n d rest (omega arith) ends)

  pub arguments_read : (n : ℕ) {room : ℕ} {ts : Tokens} {all : List ExprTree} → Arguments room ts all → (closing : Token) (rest : Tokens) → room < n → g.IsMark m.CloseParen closing
      → arguments (whole n) (at (ts ++ closing ∷ rest) room) ≡ Ok (all, at (closing ∷ rest) room)
  arguments_read n g.none closing rest bound closes = rw closes refl
  arguments_read n (g.some {room = room} {ts = ts} {all = all} d) closing rest bound closes =
      let len = length-append ts (closing ∷ rest) in
      let few = listed_count d in
      some_step (whole n) room ts (closing ∷ rest) all (listed_starts d)
      (listed_read n d (closing ∷ rest) (length (ts ++ closing ∷ rest)) (omega (arith, len, few)) bound (ends_close closing rest closes) (rw closes refl))

  pub listed_read : (n : ℕ) {room : ℕ} {ts : Tokens} {all : List ExprTree} → Listed room ts all → (rest : Tokens) (count : ℕ) → length all ≤ count → room < n → Ends top_rank rest
      → is_mark m.Comma (next_mark rest) ≡ false → listed (whole n) count (at (ts ++ rest) room) ≡ Ok (all, at rest room)
  listed_read n (g.last d) rest zero few bound ends no_comma = absurd (omega arith)
  listed_read n (g.last {room = room} {ts = ts} {a = a} d) rest (suc count) few bound ends no_comma = listed_last (whole n) count room ts rest a no_comma (inner_read n d rest bound ends)
  listed_read n (g.more comma is d all) rest zero few bound ends no_comma = absurd (omega arith)
  listed_read n (g.more {room = room} {ts = ts} {us = us} {a = a} {all = all} comma is d later) rest (suc count) few bound ends no_comma =
      ap (listed (whole n) (suc count)) (regroup ts (comma ∷ us) rest room)
      ∙ listed_more (whole n) count room ts us rest a all comma is (inner_read n d (comma ∷ us ++ rest) bound (ends_comma comma (us ++ rest) is)) (listed_read n later rest count (omega arith) bound ends no_comma)
