-- Every member, class, thread and program of the grammar is read, and as its tree: so no tokens have two trees.
use Rattle.std.proofs.Common.{◌≡◌, ℕ, zero, suc, ◌≤◌, Bool, true, false, cond, List, [], ◌∷◌, ◌++◌, length, Some, Ok, Err, refl, sym, subst, ap, ◌∙◌, arith, length-append}
use Rattle.std.specs.Prelude.{ℤ}
use Rattle.dso_base.specs.declared.value.Kind.{Kind}
use Rattle.dso_tokens.specs.declared.token.Keyword.{Keyword}
use Rattle.dso_tokens.specs.declared.token.Keyword.TheVariants as k
use Rattle.dso_tokens.specs.declared.token.Mark.TheVariants as m
use Rattle.dso_tokens.specs.declared.token.Form.TheVariants as form
use Rattle.dso_tokens.specs.declared.token.Token.{Token}
use Rattle.dso_tokens.specs.declared.token.Ending.TheVariants as ending
use Rattle.dso_syntax.specs.declared.tree.Ident.{Ident}
use Rattle.dso_syntax.specs.declared.tree.Ast.{Ast}
use Rattle.dso_syntax.specs.declared.tree.Item.{Item}
use Rattle.dso_syntax.specs.declared.tree.Item.TheVariants as item
use Rattle.dso_syntax.specs.declared.tree.Member.{Member}
use Rattle.dso_syntax.specs.declared.tree.Member.TheVariants as member
use Rattle.dso_syntax.specs.declared.tree.StmtTree.{StmtTree}
use Rattle.dso_tokens.specs.Bytes.{Text}
use Rattle.dso_syntax.specs.Grammar.{Tokens, IsMark, IsKeyword, IsName, kind_of}
use Rattle.dso_syntax.specs.ProgramGrammar as p
use Rattle.dso_syntax.specs.TextLimits.{most_levels}
use Rattle.dso_syntax.specs.ProgramGrammar.{Block, Names, Parameters, Declared, Members, Top, Tops, IsProgram}
use Rattle.dso_syntax.specs.SyntaxFaults.{IsText}
use Rattle.dso_syntax.specs.ExpressionReader.{Outcome, Parser, and_then, pure, is_mark, next_mark}
use Rattle.dso_syntax.specs.ProgramReader.{until_brace, braced, block, names, parameters, method, one_member, one_item, items_from, program}
use Rattle.dso_syntax.proofs.completeness.ReadSteps.{at}
use Rattle.dso_syntax.proofs.completeness.ReadExpressions.{regroup}
use Rattle.dso_syntax.proofs.completeness.ReadStatements.{kind_start, reader, block_read, braced_step, until_done, until_next}
use Rattle.dso_tokens.proofs.tokens.ReadingLaws.{one_reading}

-- ---- parameters

name_last : (count room : ℕ) (named : Token) (name : Ident) (rest : Tokens) → IsName name named → is_mark m.Comma (next_mark rest) ≡ false → names (suc count) (at (named ∷ rest) room) ≡ Ok (name ∷ [], at rest room)
name_last count room named name rest is no_comma = rw (is.0, is.1, no_comma) refl

name_more : (count room : ℕ) (named comma : Token) (name : Ident) (all : List Ident) (ts rest : Tokens) → IsName name named → IsMark m.Comma comma → names count (at (ts ++ rest) room) ≡ Ok (all, at rest room)
    → names (suc count) (at (named ∷ comma ∷ ts ++ rest) room) ≡ Ok (name ∷ all, at rest room)
name_more count room named comma name all ts rest is is_comma read = rw (is.0, is.1, is_comma, read) refl

names_read : {ts : Tokens} {all : List Ident} → Names ts all → (count room : ℕ) (rest : Tokens) → length ts ≤ count → is_mark m.Comma (next_mark rest) ≡ false → names count (at (ts ++ rest) room) ≡ Ok (all, at rest room)
names_read (p.last named name is) zero room rest few no_comma = absurd (omega arith)
names_read (p.last named name is) (suc count) room rest few no_comma = name_last count room named name rest is no_comma
names_read (p.more named comma name is is_comma later) zero room rest few no_comma = absurd (omega arith)
names_read (p.more {ts = ts} {names = all} named comma name is is_comma later) (suc count) room rest few no_comma =
    name_more count room named comma name all ts rest is is_comma (names_read later count room rest (omega arith) no_comma)

names_no_close : {ts : Tokens} {all : List Ident} → Names ts all → (rest : Tokens) → is_mark m.CloseParen (next_mark (ts ++ rest)) ≡ false
names_no_close (p.last named name is) rest = rw is.0 refl
names_no_close (p.more named comma name is is_comma later) rest = rw is.0 refl

some_names : (room : ℕ) (ts rest : Tokens) (all : List Ident) → is_mark m.CloseParen (next_mark (ts ++ rest)) ≡ false → names (length (ts ++ rest)) (at (ts ++ rest) room) ≡ Ok (all, at rest room)
    → parameters (at (ts ++ rest) room) ≡ Ok (all, at rest room)
some_names room ts rest all no_close read = ap (λ test. cond test (Ok ([], at (ts ++ rest) room)) (names (length (ts ++ rest)) (at (ts ++ rest) room))) no_close ∙ read

parameters_read : {ts : Tokens} {all : List Ident} → Parameters ts all → (room : ℕ) (closing : Token) (rest : Tokens) → IsMark m.CloseParen closing → parameters (at (ts ++ closing ∷ rest) room) ≡ Ok (all, at (closing ∷ rest) room)
parameters_read p.none room closing rest closes = rw closes refl
parameters_read (p.some {ts = ts} {names = all} d) room closing rest closes =
    let len = length-append ts (closing ∷ rest) in
    some_names room ts (closing ∷ rest) all (names_no_close d (closing ∷ rest)) (names_read d (length (ts ++ closing ∷ rest)) room (closing ∷ rest) (omega (arith, len)) (rw closes refl))

-- ---- members

method_step : (body : Parser (List StmtTree)) (line : ℕ) (synced : Bool) (room : ℕ) (named opening closing : Token) (name : Ident) (params : List Ident) (ts us rest : Tokens) (all : List StmtTree)
    → IsName name named → IsMark m.OpenParen opening → IsMark m.CloseParen closing → parameters (at (ts ++ (closing ∷ us ++ rest)) room) ≡ Ok (params, at (closing ∷ us ++ rest) room)
    → body (at (us ++ rest) (suc room)) ≡ Ok (all, at rest (suc room))
    → method body line synced (at (named ∷ opening ∷ ts ++ (closing ∷ us ++ rest)) (suc room)) ≡ Ok (member.Method line synced name params all, at rest (suc room))
method_step body line synced room named opening closing name params ts us rest all is opens closes read later = rw (is.0, is.1, opens, read, closes, later) refl

field_member : (body : Parser (List StmtTree)) (room : ℕ) (word named ending : Token) (which : Keyword) (this : Kind) (name : Ident) (rest : Tokens)
    → IsKeyword which word → kind_of which ≡ Some this → IsName name named → IsMark m.Semicolon ending
    → one_member body (at (word ∷ named ∷ ending ∷ rest) room) ≡ Ok (member.Field word.line this name, at rest room)
field_member body room word named ending which this name rest is_word is_kind is_name is_ending = rw (is_word, kind_start which this is_kind, is_name.0, is_name.1, is_ending) refl

static_member : (body : Parser (List StmtTree)) (room : ℕ) (word made named ending : Token) (name : Ident) (rest : Tokens)
    → IsKeyword k.Static word → IsKeyword k.Ref made → IsName name named → IsMark m.Semicolon ending
    → one_member body (at (word ∷ made ∷ named ∷ ending ∷ rest) room) ≡ Ok (member.Static word.line name, at rest room)
static_member body room word made named ending name rest is_word is_made is_name is_ending = rw (is_word, is_made, is_name.0, is_name.1, is_ending) refl

named_member : (body : Parser (List StmtTree)) (room : ℕ) (named : Token) (name : Ident) (rest : Tokens) → IsName name named → one_member body (at (named ∷ rest) room) ≡ method body named.line false (at (named ∷ rest) room)
named_member body room named name rest is = rw is.0 refl

synchronized_member : (body : Parser (List StmtTree)) (room : ℕ) (word : Token) (rest : Tokens) → IsKeyword k.Synchronized word → one_member body (at (word ∷ rest) room) ≡ method body word.line true (at rest room)
synchronized_member body room word rest is = rw is refl

-- the reader of blocks where so many levels may be opened
abbrev pub blocks : ℕ → Parser (List StmtTree)
blocks n = block (reader n) (suc n)

declared_read : (n : ℕ) {room : ℕ} {ts : Tokens} {a : Member} → Declared room ts a → (rest : Tokens) → room ≤ n → one_member (blocks n) (at (ts ++ rest) room) ≡ Ok (a, at rest room)
declared_read n (p.field {room = room} word named ending which this name is_word is_kind is_name is_ending) rest bound = field_member (blocks n) room word named ending which this name rest is_word is_kind is_name is_ending
declared_read n (p.static {room = room} word made named ending name is_word is_made is_name is_ending) rest bound = static_member (blocks n) room word made named ending name rest is_word is_made is_name is_ending
declared_read n (p.method {room = room} {ts = ts} {us = us} {names = params} {all = all} named opening closing name is opens closes d body) rest bound =
    ap (one_member (blocks n)) (regroup (named ∷ opening ∷ ts) (closing ∷ us) rest (suc room))
    ∙ named_member (blocks n) (suc room) named name (opening ∷ ts ++ (closing ∷ us ++ rest)) is
    ∙ method_step (blocks n) named.line false room named opening closing name params ts us rest all is opens closes (parameters_read d room closing (us ++ rest) closes) (block_read n (suc n) body rest bound (omega arith))
declared_read n (p.synchronized {room = room} {ts = ts} {us = us} {names = params} {all = all} word named opening closing name is_word is opens closes d body) rest bound =
    ap (one_member (blocks n)) (regroup (word ∷ named ∷ opening ∷ ts) (closing ∷ us) rest (suc room))
    ∙ synchronized_member (blocks n) (suc room) word (named ∷ opening ∷ ts ++ (closing ∷ us ++ rest)) is_word
    ∙ method_step (blocks n) word.line true room named opening closing name params ts us rest all is opens closes (parameters_read d room closing (us ++ rest) closes) (block_read n (suc n) body rest bound (omega arith))

declared_no_brace : {room : ℕ} {ts : Tokens} {a : Member} → Declared room ts a → (rest : Tokens) → is_mark m.CloseBrace (next_mark (ts ++ rest)) ≡ false
declared_no_brace (p.field word named ending which this name is_word is_kind is_name is_ending) rest = rw is_word refl
declared_no_brace (p.static word made named ending name is_word is_made is_name is_ending) rest = rw is_word refl
declared_no_brace (p.method named opening closing name is opens closes d body) rest = rw is.0 refl
declared_no_brace (p.synchronized word named opening closing name is_word is opens closes d body) rest = rw is_word refl

declared_some : {room : ℕ} {ts : Tokens} {a : Member} → Declared room ts a → 1 ≤ length ts
declared_some (p.field word named ending which this name is_word is_kind is_name is_ending) = omega arith
declared_some (p.static word made named ending name is_word is_made is_name is_ending) = omega arith
declared_some (p.method named opening closing name is opens closes d body) = omega arith
declared_some (p.synchronized word named opening closing name is_word is opens closes d body) = omega arith

members_count : {room : ℕ} {ts : Tokens} {all : List Member} → Members room ts all → length all ≤ length ts
members_count p.done = omega arith
members_count (p.next {ts = ts} {us = us} d later) = let some = declared_some d in let more = members_count later in let len = length-append ts us in omega (arith, some, more, len)

members_read : (n : ℕ) {room : ℕ} {ts : Tokens} {all : List Member} → Members room ts all → (closing : Token) (rest : Tokens) (count : ℕ) → length all ≤ count → room ≤ n → IsMark m.CloseBrace closing
    → until_brace (one_member (blocks n)) count (at (ts ++ closing ∷ rest) room) ≡ Ok (all, at (closing ∷ rest) room)
members_read n (p.done {room = room}) closing rest count few bound closes = until_done (one_member (blocks n)) count room closing rest closes
members_read n (p.next d later) closing rest zero few bound closes = absurd (omega arith)
members_read n (p.next {room = room} {ts = ts} {us = us} {a = a} {all = all} d later) closing rest (suc count) few bound closes =
    ap (until_brace (one_member (blocks n)) (suc count)) (regroup ts us (closing ∷ rest) room)
    ∙ until_next (one_member (blocks n)) count room ts us (closing ∷ rest) a all (declared_no_brace d (us ++ closing ∷ rest)) (declared_read n d (us ++ closing ∷ rest) bound)
    (members_read n later closing rest count (omega arith) bound closes)

-- ---- classes, threads, programs

class_step : (body : Parser (List StmtTree)) (room : ℕ) (word named : Token) (name : Ident) (rest others : Tokens) (members : List Member) → IsKeyword k.Class word → IsName name named
    → braced (one_member body) (at rest room) ≡ Ok (members, at others room) → one_item body (at (word ∷ named ∷ rest) room) ≡ Ok (item.Class word.line name members, at others room)
class_step body room word named name rest others members is_word is_name read = rw (is_word, is_name.0, is_name.1, read) refl

thread_step : (body : Parser (List StmtTree)) (room : ℕ) (word counted : Token) (number : ℤ) (rest others : Tokens) (all : List StmtTree) → IsKeyword k.Thread word → counted.form ≡ form.Number (Some number)
    → body (at rest room) ≡ Ok (all, at others room) → one_item body (at (word ∷ counted ∷ rest) room) ≡ Ok (item.Thread word.line number counted.line all, at others room)
thread_step body room word counted number rest others all is_word is_number read = rw (is_word, is_number, read) refl

top_read : (n : ℕ) {room : ℕ} {ts : Tokens} {a : Item} → Top room ts a → (rest : Tokens) → room ≤ n → one_item (blocks n) (at (ts ++ rest) room) ≡ Ok (a, at rest room)
top_read n (p.class {room = room} {ts = ts} {members = members} word named opening closing name is_word is_name opens closes d) rest bound =
    let few = members_count d in
    let len = length-append ts (closing ∷ rest) in
    ap (one_item (blocks n)) (regroup (word ∷ named ∷ opening ∷ ts) (closing ∷ []) rest (suc room))
    ∙ class_step (blocks n) (suc room) word named name (opening ∷ ts ++ closing ∷ rest) rest members is_word is_name
    (braced_step (one_member (blocks n)) room opening closing ts rest members opens closes (members_read n d closing rest (length (ts ++ closing ∷ rest)) (omega (arith, few, len)) (omega arith) closes))
top_read n (p.thread {room = room} {ts = ts} {all = all} word counted number is_word is_number d) rest bound =
    thread_step (blocks n) room word counted number (ts ++ rest) rest all is_word is_number (block_read n (suc n) d rest bound (omega arith))

-- an item has a first token
top_first : {room : ℕ} {ts : Tokens} {a : Item} → Top room ts a → (t : Token) × (more : Tokens) × (ts ≡ t ∷ more)
top_first (p.class {ts = ts} word named opening closing name is_word is_name opens closes d) = (word, named ∷ opening ∷ ts ++ closing ∷ [], refl)
top_first (p.thread {ts = ts} word counted number is_word is_number d) = (word, counted ∷ ts, refl)

item_step : (body : Parser (List StmtTree)) (count room : ℕ) (ts us : Tokens) (t : Token) (more : Tokens) (a : Item) (all : List Item) → ts ≡ t ∷ more → one_item body (at (ts ++ us) room) ≡ Ok (a, at us room)
    → items_from body count room us ≡ Ok (all, at [] room) → items_from body (suc count) room (ts ++ us) ≡ Ok (a ∷ all, at [] room)
item_step body count room ts us t more a all first read later =
    ap (λ z. items_from body (suc count) room (z ++ us)) first
    ∙ ap (λ o. and_then o (λ a j. and_then (items_from body count j.room j.tokens) (λ all. pure (a ∷ all)))) (ap (λ z. one_item body (at (z ++ us) room)) (sym first) ∙ read)
    ∙ ap (λ o. and_then o (λ all. pure (a ∷ all))) later

tops_read : (n : ℕ) {room : ℕ} {ts : Tokens} {all : List Item} → Tops room ts all → (count : ℕ) → length ts ≤ count → room ≤ n → items_from (blocks n) count room ts ≡ Ok (all, at [] room)
tops_read n p.done zero few bound = refl
tops_read n p.done (suc count) few bound = refl
tops_read n (p.next {ts = ts} {us = us} d later) zero few bound = let len = length-append ts us in let some = ap length (top_first d).2 in absurd (omega (arith, len, some))
tops_read n (p.next {room = room} {ts = ts} {us = us} {a = a} {all = all} d later) (suc count) few bound =
    let len = length-append ts us in
    let some = ap length (top_first d).2 in
    item_step (blocks n) count room ts us (top_first d).0 (top_first d).1 a all (top_first d).2 (top_read n d us bound) (tops_read n later count (omega (arith, len, some)) bound)

-- every program is read, and as its tree
pub program_read : (levels : ℕ) (tokens : Tokens) (ast : Ast) → IsProgram levels tokens ast → program levels tokens ≡ Ok (ast.items, at [] levels)
program_read levels tokens ast is = tops_read levels is (length tokens) (omega arith) (omega arith)

-- what is read is one thing
same_items : (xs ys : List Item) (room : ℕ) → ◌≡◌ {A = Outcome (List Item)} (Ok (xs, at [] room)) (Ok (ys, at [] room)) → xs ≡ ys
same_items xs ys room same = ap items_in same
  where
    items_in : Outcome (List Item) → List Item
    items_in (Ok p) = p.0
    items_in (Err stop) = []

-- tokens have one tree at most
pub one_tree : (levels : ℕ) (tokens : Tokens) (ast other : Ast) → IsProgram levels tokens ast → IsProgram levels tokens other → ast ≡ other
one_tree levels tokens ast other first second =
    ap (λ items. record { items = items }) (same_items ast.items other.items levels (sym (program_read levels tokens ast first) ∙ program_read levels tokens other second))

-- and so has a text
pub one_program : (text : Text) (ast other : Ast) → IsText text ast → IsText text other → ast ≡ other
one_program text ast other first second =
    let same = one_reading 0 1 text first.0 second.0 (ending.End first.1) (ending.End second.1) first.2 second.2 in
    one_tree most_levels first.0 ast other first.3 (subst (λ tokens. IsProgram most_levels tokens other) (sym same.0) second.3)
