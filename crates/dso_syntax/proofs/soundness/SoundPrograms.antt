-- What is read as a member or as a whole program is one of the grammar.
use Rattle.std.proofs.Common.{◌≡◌, ℕ, zero, suc, Bool, true, false, cond, List, [], ◌∷◌, ◌++◌, length, Option, Some, None, Ok, refl, sym, subst, ap, ◌∙◌, append_assoc}
use Rattle.std.specs.Prelude.{◌↔◌, ℤ}
use Rattle.dso_base.specs.declared.value.Kind.{Kind}
use Rattle.dso_base.specs.declared.value.Kind.TheVariants as kind
use Rattle.dso_tokens.specs.declared.token.Keyword.{Keyword}
use Rattle.dso_tokens.specs.declared.token.Keyword.TheVariants as k
use Rattle.dso_tokens.specs.declared.token.Mark.TheVariants as m
use Rattle.dso_tokens.specs.declared.token.Form.{Form}
use Rattle.dso_tokens.specs.declared.token.Form.TheVariants as form
use Rattle.dso_tokens.specs.declared.token.Token.{Token}
use Rattle.dso_syntax.specs.declared.tree.Ident.{Ident}
use Rattle.dso_syntax.specs.declared.tree.Item.{Item}
use Rattle.dso_syntax.specs.declared.tree.Item.TheVariants as item
use Rattle.dso_syntax.specs.declared.tree.Member.{Member}
use Rattle.dso_syntax.specs.declared.tree.Member.TheVariants as member
use Rattle.dso_syntax.specs.declared.tree.StmtTree.{StmtTree}
use Rattle.dso_syntax.specs.Grammar.{Tokens, IsMark, IsKeyword, IsName, kind_of}
use Rattle.dso_syntax.specs.ProgramGrammar as p
use Rattle.dso_syntax.specs.declared.tree.Ast.{Ast}
use Rattle.dso_syntax.specs.ProgramGrammar.{Block, Names, Parameters, Declared, Members, Top, Tops, IsProgram}
use Rattle.dso_syntax.proofs.completeness.ReadPrograms.{program_read}
use Rattle.dso_syntax.specs.ExpressionReader.{Input, Outcome, Parser, and_then, pure, is_mark, is_keyword, next_mark, next_keyword, take_any, take_mark, take_keyword, open_mark, close_mark, take_name, whole}
use Rattle.dso_syntax.specs.ProgramReader.{block, names, parameters, method, start_of, one_member, by_start, braced, one_item, items_from, program, next_line, number_from, number_by}
use Rattle.dso_syntax.proofs.completeness.ReadSteps.{at}
use Rattle.dso_syntax.proofs.soundness.SoundSteps.{ok_is, err_is, steps, Took, took_any, keyword_took, open_took, close_took, Named, name_took, form_mark, form_keyword}
use Rattle.dso_syntax.proofs.soundness.SoundExpressions.{Came, whole_came}
use Rattle.dso_syntax.proofs.soundness.SoundStatements.{SoundOf, Rows, Braces, braces, finished, semicolon_came, word_took, braced_came, block_came}

-- ---- parameters

abbrev pub NamesOf : ℕ → Tokens → List Ident → Type 0
NamesOf room ts all = Names ts all

abbrev pub ParametersOf : ℕ → Tokens → List Ident → Type 0
ParametersOf room ts all = Parameters ts all

names_pick : (rest : Parser (List Ident)) → SoundOf NamesOf rest → (i l : Input) (name : Ident) (all : List Ident) (j : Input) → Named i name l → (test : Bool) → is_mark m.Comma (next_mark l.tokens) ≡ test
    → cond {A = Outcome (List Ident)} test (and_then (take_any l) (λ _ q. and_then (rest q) (λ all. pure (name ∷ all)))) (Ok (name ∷ [], l)) ≡ Ok (all, j) → Came (λ ts. Names ts all) i i.room j
names_pick rest sound i l name all j taken true is read =
    let one = steps (take_any l) (λ _ q. and_then (rest q) (λ all. pure (name ∷ all))) all j read in
    let comma = took_any (IsMark m.Comma) l.room l.tokens one.value one.between (λ t rest same. form_mark m.Comma t.form (ap (λ z. is_mark m.Comma (next_mark z)) (sym same) ∙ is)) one.first in
    let two = steps (rest one.between) (λ all. pure (name ∷ all)) all j one.second in
    let later = sound one.between two.value two.between two.first in
    finished NamesOf i (name ∷ two.value) all two.between j (record {
      tokens = taken.token ∷ one.value ∷ later.tokens;
      is = taken.is ∙ ap (λ z. taken.token ∷ z) (comma.is ∙ ap (λ z. one.value ∷ z) later.is);
      reads = p.more taken.token one.value name taken.holds comma.holds later.reads;
      room_is = later.room_is ∙ comma.room_is ∙ taken.room_is;
    }) two.second
names_pick rest sound i l name all j taken false is read =
    finished NamesOf i (name ∷ []) all l j (record { tokens = taken.token ∷ []; is = taken.is; reads = p.last taken.token name taken.holds; room_is = taken.room_is }) read

pub names_came : (count : ℕ) → SoundOf NamesOf (names count)
names_came zero i all j read = absurd (err_is (all, j) _ read)
names_came (suc count) i all j read =
    let one = steps (take_name i) (λ name j. cond {A = Outcome (List Ident)} (is_mark m.Comma (next_mark j.tokens)) (and_then (take_any j) (λ _ l. and_then (names count l) (λ all. pure (name ∷ all)))) (Ok (name ∷ [], j))) all j read in
    names_pick (names count) (names_came count) i one.between one.value all j (name_took i.room i.tokens one.value one.between one.first) (is_mark m.Comma (next_mark one.between.tokens)) refl one.second

pub parameters_came : SoundOf ParametersOf parameters
parameters_came i all j read = pick (is_mark m.CloseParen (next_mark i.tokens)) read
  where
    pick : (test : Bool) → cond {A = Outcome (List Ident)} test (Ok ([], i)) (names (length i.tokens) i) ≡ Ok (all, j) → Came (λ ts. Parameters ts all) i i.room j
    pick true read = finished ParametersOf i [] all i j (record { tokens = []; is = refl; reads = p.none; room_is = refl }) read
    pick false read = let came = names_came (length i.tokens) i all j read in record { tokens = came.tokens; is = came.is; reads = p.some came.reads; room_is = came.room_is }

-- ---- members

-- a method's tokens from its name on
pub record Method (i : Input) (line : ℕ) (synced : Bool) (a : Member) (j : Input) : Type 0 where
  pub room : ℕ
  pub name : Ident
  pub token : Token
  pub opening : Token
  pub closing : Token
  pub params : Tokens
  pub body : Tokens
  pub all : List Ident
  pub does : List StmtTree
  pub is : i.tokens ≡ token ∷ opening ∷ params ++ (closing ∷ body ++ j.tokens)
  pub is_name : IsName name token
  pub opens : IsMark m.OpenParen opening
  pub closes : IsMark m.CloseParen closing
  pub takes : Parameters params all
  pub block : Block (suc room) body does
  pub start_room : i.room ≡ suc room
  pub end_room : j.room ≡ suc room
  pub made : a ≡ member.Method line synced name all does

method_came : (body : Parser (List StmtTree)) → SoundOf Block body → (line : ℕ) (synced : Bool) (i : Input) (a : Member) (j : Input) → method body line synced i ≡ Ok (a, j) → Method i line synced a j
method_came body sound line synced i a j read =
    let one = steps (take_name i) (λ name j. and_then (open_mark m.OpenParen j) (λ _ l. and_then (parameters l) (λ params q. and_then (close_mark m.CloseParen q) (λ _ r. and_then (body r) (λ does. pure (member.Method line synced name params does)))))) a j read in
    let name = name_took i.room i.tokens one.value one.between one.first in
    let two = steps (open_mark m.OpenParen one.between) (λ _ l. and_then (parameters l) (λ params q. and_then (close_mark m.CloseParen q) (λ _ r. and_then (body r) (λ does. pure (member.Method line synced one.value params does))))) a j one.second in
    let opening = open_took m.OpenParen one.between two.value two.between two.first in
    let three = steps (parameters two.between) (λ params q. and_then (close_mark m.CloseParen q) (λ _ r. and_then (body r) (λ does. pure (member.Method line synced one.value params does)))) a j two.second in
    let params = parameters_came two.between three.value three.between three.first in
    let four = steps (close_mark m.CloseParen three.between) (λ _ r. and_then (body r) (λ does. pure (member.Method line synced one.value three.value does))) a j three.second in
    let closing = close_took m.CloseParen three.between four.value four.between four.first in
    let five = steps (body four.between) (λ does. pure (member.Method line synced one.value three.value does)) a j four.second in
    let does = sound four.between five.value five.between five.first in
    let last = ok_is (member.Method line synced one.value three.value five.value, five.between) (a, j) five.second in
    let room : four.between.room ≡ suc two.between.room = closing.room_is ∙ ap suc params.room_is in
    subst (λ (q : Member × Input). Method i line synced q.0 q.1) last (record {
      room = two.between.room;
      name = one.value;
      token = name.token;
      opening = two.value;
      closing = four.value;
      params = params.tokens;
      body = does.tokens;
      all = three.value;
      does = five.value;
      is = name.is ∙ ap (λ z. name.token ∷ z) (opening.is ∙ ap (λ z. two.value ∷ z) (params.is ∙ ap (λ z. params.tokens ++ z) (closing.is ∙ ap (λ z. four.value ∷ z) does.is)));
      is_name = name.holds;
      opens = opening.holds;
      closes = closing.holds;
      takes = params.reads;
      block = subst (λ r. Block r does.tokens five.value) room does.reads;
      start_room = sym name.room_is ∙ opening.room_is;
      end_room = does.room_is ∙ room;
      made = refl;
    })

abbrev DeclaredOf : Input → Member → Input → Type 0
DeclaredOf i a j = Came (λ ts. Declared i.room ts a) i i.room j

named_came : (body : Parser (List StmtTree)) → SoundOf Block body → (tokens : Tokens) (room : ℕ) (a : Member) (j : Input) → method body (next_line tokens) false (at tokens room) ≡ Ok (a, j) → DeclaredOf (at tokens room) a j
named_came body sound tokens room a j read =
    let it = method_came body sound (next_line tokens) false (at tokens room) a j read in
    let line : next_line tokens ≡ it.token.line = ap next_line it.is in
    record {
      tokens = it.token ∷ it.opening ∷ it.params ++ (it.closing ∷ it.body);
      is = it.is ∙ ap (λ z. it.token ∷ it.opening ∷ z) (sym (append_assoc it.params (it.closing ∷ it.body) j.tokens));
      reads = subst (λ b. Declared room (it.token ∷ it.opening ∷ it.params ++ (it.closing ∷ it.body)) b) (sym (it.made ∙ ap (λ l. member.Method l false it.name it.all it.does) line))
          (subst (λ r. Declared r (it.token ∷ it.opening ∷ it.params ++ (it.closing ∷ it.body)) (member.Method it.token.line false it.name it.all it.does)) (sym it.start_room)
          (p.method it.token it.opening it.closing it.name it.is_name it.opens it.closes it.takes it.block));
      room_is = it.end_room ∙ sym it.start_room;
    }

synchronized_came : (body : Parser (List StmtTree)) → SoundOf Block body → (i l : Input) (word : Token) (a : Member) (j : Input) → Took (IsKeyword k.Synchronized) i i.room word l → method body word.line true l ≡ Ok (a, j) → DeclaredOf i a j
synchronized_came body sound i l word a j took read =
    let it = method_came body sound word.line true l a j read in
    let start : i.room ≡ suc it.room = sym took.room_is ∙ it.start_room in
    record {
      tokens = word ∷ it.token ∷ it.opening ∷ it.params ++ (it.closing ∷ it.body);
      is = took.is ∙ ap (λ z. word ∷ z) (it.is ∙ ap (λ z. it.token ∷ it.opening ∷ z) (sym (append_assoc it.params (it.closing ∷ it.body) j.tokens)));
      reads = subst (λ b. Declared i.room (word ∷ it.token ∷ it.opening ∷ it.params ++ (it.closing ∷ it.body)) b) (sym it.made)
          (subst (λ r. Declared r (word ∷ it.token ∷ it.opening ∷ it.params ++ (it.closing ∷ it.body)) (member.Method word.line true it.name it.all it.does)) (sym start)
          (p.synchronized word it.token it.opening it.closing it.name took.holds it.is_name it.opens it.closes it.takes it.block));
      room_is = it.end_room ∙ sym start;
    }

field_came : (which : Keyword) (this : Kind) → kind_of which ≡ Some this → (i : Input) (a : Member) (j : Input) → next_keyword i.tokens ≡ Some which
    → and_then (take_any i) (λ t j. and_then (take_name j) (λ name l. and_then (take_mark m.Semicolon l) (λ _. pure (member.Field t.line this name)))) ≡ Ok (a, j) → DeclaredOf i a j
field_came which this is_kind i a j known read =
    let one = steps (take_any i) (λ t j. and_then (take_name j) (λ name l. and_then (take_mark m.Semicolon l) (λ _. pure (member.Field t.line this name)))) a j read in
    let word = word_took which i one.value one.between known one.first in
    let two = steps (take_name one.between) (λ name l. and_then (take_mark m.Semicolon l) (λ _. pure (member.Field one.value.line this name))) a j one.second in
    let name = name_took one.between.room one.between.tokens two.value two.between two.first in
    semicolon_came i two.between (member.Field one.value.line this two.value) a j (one.value ∷ name.token ∷ []) (word.is ∙ ap (λ z. one.value ∷ z) name.is) (name.room_is ∙ word.room_is) Declared
    (λ ending is_ending. p.field one.value name.token ending which this two.value word.holds is_kind name.holds is_ending) two.second

static_came : (i : Input) (a : Member) (j : Input) → next_keyword i.tokens ≡ Some k.Static
    → and_then (take_any i) (λ t j. and_then (take_keyword k.Ref j) (λ _ l. and_then (take_name l) (λ name q. and_then (take_mark m.Semicolon q) (λ _. pure (member.Static t.line name))))) ≡ Ok (a, j) → DeclaredOf i a j
static_came i a j known read =
    let one = steps (take_any i) (λ t j. and_then (take_keyword k.Ref j) (λ _ l. and_then (take_name l) (λ name q. and_then (take_mark m.Semicolon q) (λ _. pure (member.Static t.line name))))) a j read in
    let word = word_took k.Static i one.value one.between known one.first in
    let zero = steps (take_keyword k.Ref one.between) (λ _ l. and_then (take_name l) (λ name q. and_then (take_mark m.Semicolon q) (λ _. pure (member.Static one.value.line name)))) a j one.second in
    let ref = keyword_took k.Ref one.between zero.value zero.between zero.first in
    let two = steps (take_name zero.between) (λ name q. and_then (take_mark m.Semicolon q) (λ _. pure (member.Static one.value.line name))) a j zero.second in
    let name = name_took zero.between.room zero.between.tokens two.value two.between two.first in
    semicolon_came i two.between (member.Static one.value.line two.value) a j (one.value ∷ zero.value ∷ name.token ∷ []) (word.is ∙ ap (λ z. one.value ∷ z) (ref.is ∙ ap (λ z. zero.value ∷ z) name.is)) (name.room_is ∙ ref.room_is ∙ word.room_is) Declared
    (λ ending is_ending. p.static one.value zero.value name.token ending two.value word.holds ref.holds name.holds is_ending) two.second

declared_by : (body : Parser (List StmtTree)) → SoundOf Block body → (i : Input) (a : Member) (j : Input) (word : Option Keyword) → next_keyword i.tokens ≡ word → by_start body (start_of word) i ≡ Ok (a, j) → DeclaredOf i a j
declared_by body sound i a j None known read = named_came body sound i.tokens i.room a j read
declared_by body sound i a j (Some k.Class) known read = named_came body sound i.tokens i.room a j read
declared_by body sound i a j (Some k.Static) known read = static_came i a j known read
declared_by body sound i a j (Some k.Synchronized) known read = let one = steps (take_any i) (λ t. method body t.line true) a j read in synchronized_came body sound i one.between one.value a j (word_took k.Synchronized i one.value one.between known one.first) one.second
declared_by body sound i a j (Some k.Thread) known read = named_came body sound i.tokens i.room a j read
declared_by body sound i a j (Some k.Var) known read = named_came body sound i.tokens i.room a j read
declared_by body sound i a j (Some k.If) known read = named_came body sound i.tokens i.room a j read
declared_by body sound i a j (Some k.Else) known read = named_came body sound i.tokens i.room a j read
declared_by body sound i a j (Some k.While) known read = named_came body sound i.tokens i.room a j read
declared_by body sound i a j (Some k.Wait) known read = named_came body sound i.tokens i.room a j read
declared_by body sound i a j (Some k.Notify) known read = named_came body sound i.tokens i.room a j read
declared_by body sound i a j (Some k.NotifyAll) known read = named_came body sound i.tokens i.room a j read
declared_by body sound i a j (Some k.Print) known read = named_came body sound i.tokens i.room a j read
declared_by body sound i a j (Some k.Return) known read = named_came body sound i.tokens i.room a j read
declared_by body sound i a j (Some k.New) known read = named_came body sound i.tokens i.room a j read
declared_by body sound i a j (Some k.This) known read = named_came body sound i.tokens i.room a j read
declared_by body sound i a j (Some k.Null) known read = named_came body sound i.tokens i.room a j read
declared_by body sound i a j (Some k.True) known read = named_came body sound i.tokens i.room a j read
declared_by body sound i a j (Some k.False) known read = named_came body sound i.tokens i.room a j read
declared_by body sound i a j (Some k.Long) known read = field_came k.Long kind.Long refl i a j known read
declared_by body sound i a j (Some k.Boolean) known read = field_came k.Boolean kind.Bool refl i a j known read
declared_by body sound i a j (Some k.Text) known read = field_came k.Text kind.Text refl i a j known read
declared_by body sound i a j (Some k.Ref) known read = field_came k.Ref kind.Ref refl i a j known read

pub declared_came : (body : Parser (List StmtTree)) → SoundOf Block body → SoundOf Declared (one_member body)
declared_came body sound i a j read = declared_by body sound i a j (next_keyword i.tokens) refl read

pub rows_of_members : Rows Declared Members
rows_of_members = record { none = λ room. p.done; next = λ room ts us a all first later. p.next first later }

-- ---- classes, threads, programs

pub class_of : {room : ℕ} {ts : Tokens} {members : List Member} → Braces Members room ts members → (word token : Token) (name : Ident) → IsKeyword k.Class word → IsName name token → Top room (word ∷ token ∷ ts) (item.Class word.line name members)
class_of (braces opening closing opens closes d) word token name is_word is_name = p.class word token opening closing name is_word is_name opens closes d

class_came : (body : Parser (List StmtTree)) → SoundOf Block body → (i : Input) (a : Item) (j : Input) → is_keyword k.Class (next_keyword i.tokens) ≡ true
    → and_then (take_any i) (λ t j. and_then (take_name j) (λ name l. and_then (braced (one_member body) l) (λ members. pure (item.Class t.line name members)))) ≡ Ok (a, j) → Came (λ ts. Top i.room ts a) i i.room j
class_came body sound i a j known read =
    let one = steps (take_any i) (λ t j. and_then (take_name j) (λ name l. and_then (braced (one_member body) l) (λ members. pure (item.Class t.line name members)))) a j read in
    let word = took_any (IsKeyword k.Class) i.room i.tokens one.value one.between (λ t rest same. form_keyword k.Class t.form (ap (λ z. is_keyword k.Class (next_keyword z)) (sym same) ∙ known)) one.first in
    let two = steps (take_name one.between) (λ name l. and_then (braced (one_member body) l) (λ members. pure (item.Class one.value.line name members))) a j one.second in
    let name = name_took one.between.room one.between.tokens two.value two.between two.first in
    let three = steps (braced (one_member body) two.between) (λ members. pure (item.Class one.value.line two.value members)) a j two.second in
    let members = braced_came Declared Members rows_of_members (one_member body) (declared_came body sound) two.between three.value three.between three.first in
    let room : two.between.room ≡ i.room = name.room_is ∙ word.room_is in
    finished Top i (item.Class one.value.line two.value three.value) a three.between j (record {
      tokens = one.value ∷ name.token ∷ members.tokens;
      is = word.is ∙ ap (λ z. one.value ∷ z) (name.is ∙ ap (λ z. name.token ∷ z) members.is);
      reads = class_of (subst (λ r. Braces Members r members.tokens three.value) room members.reads) one.value name.token two.value word.holds name.holds;
      room_is = members.room_is ∙ room;
    }) three.second

-- a number was taken
pub record Counted (tokens : Tokens) (room : ℕ) (n : ℤ × ℕ) (j : Input) : Type 0 where
  pub token : Token
  pub is : tokens ≡ token ∷ j.tokens
  pub holds : token.form ≡ form.Number (Some n.0)
  pub line : token.line ≡ n.1
  pub room_is : j.room ≡ room

pub counted : (room : ℕ) (tokens : Tokens) (n : ℤ × ℕ) (j : Input) → number_from room tokens ≡ Ok (n, j) → Counted tokens room n j
counted room [] n j read = absurd (err_is (n, j) _ read)
counted room (t ∷ rest) n j read = by_form t.form refl read
  where
    by_form : (this : Form) → t.form ≡ this → number_by room t rest this ≡ Ok (n, j) → Counted (t ∷ rest) room n j
    by_form (form.Number (Some value)) is read = subst (λ (q : (ℤ × ℕ) × Input). Counted (t ∷ rest) room q.0 q.1) (ok_is ((value, t.line), at rest room) (n, j) read) (record { token = t; is = refl; holds = is; line = refl; room_is = refl })
    by_form (form.Number None) is read = absurd (err_is (n, j) _ read)
    by_form (form.Name word) is read = absurd (err_is (n, j) _ read)
    by_form (form.Keyword word) is read = absurd (err_is (n, j) _ read)
    by_form (form.Text content) is read = absurd (err_is (n, j) _ read)
    by_form (form.Mark mark) is read = absurd (err_is (n, j) _ read)

thread_came : (body : Parser (List StmtTree)) → SoundOf Block body → (i : Input) (a : Item) (j : Input)
    → and_then (take_keyword k.Thread i) (λ t j. and_then (number_from j.room j.tokens) (λ n l. and_then (body l) (λ all. pure (item.Thread t.line n.0 n.1 all)))) ≡ Ok (a, j) → Came (λ ts. Top i.room ts a) i i.room j
thread_came body sound i a j read =
    let one = steps (take_keyword k.Thread i) (λ t j. and_then (number_from j.room j.tokens) (λ n l. and_then (body l) (λ all. pure (item.Thread t.line n.0 n.1 all)))) a j read in
    let word = keyword_took k.Thread i one.value one.between one.first in
    let two = steps (number_from one.between.room one.between.tokens) (λ n l. and_then (body l) (λ all. pure (item.Thread one.value.line n.0 n.1 all))) a j one.second in
    let n = counted one.between.room one.between.tokens two.value two.between two.first in
    let three = steps (body two.between) (λ all. pure (item.Thread one.value.line two.value.0 two.value.1 all)) a j two.second in
    let does = sound two.between three.value three.between three.first in
    let room : two.between.room ≡ i.room = n.room_is ∙ word.room_is in
    finished Top i (item.Thread one.value.line two.value.0 two.value.1 three.value) a three.between j (record {
      tokens = one.value ∷ n.token ∷ does.tokens;
      is = word.is ∙ ap (λ z. one.value ∷ z) (n.is ∙ ap (λ z. n.token ∷ z) does.is);
      reads = subst (λ l. Top i.room (one.value ∷ n.token ∷ does.tokens) (item.Thread one.value.line two.value.0 l three.value)) n.line
          (p.thread one.value n.token two.value.0 word.holds n.holds (subst (λ r. Block r does.tokens three.value) room does.reads));
      room_is = does.room_is ∙ room;
    }) three.second

pub item_pick : (body : Parser (List StmtTree)) → SoundOf Block body → (i : Input) (a : Item) (j : Input) (test : Bool) → is_keyword k.Class (next_keyword i.tokens) ≡ test
    → cond {A = Outcome Item} test (and_then (take_any i) (λ t j. and_then (take_name j) (λ name l. and_then (braced (one_member body) l) (λ members. pure (item.Class t.line name members)))))
    (and_then (take_keyword k.Thread i) (λ t j. and_then (number_from j.room j.tokens) (λ n l. and_then (body l) (λ all. pure (item.Thread t.line n.0 n.1 all))))) ≡ Ok (a, j) → Came (λ ts. Top i.room ts a) i i.room j
item_pick body sound i a j true known read = class_came body sound i a j known read
item_pick body sound i a j false known read = thread_came body sound i a j read

-- all items up to the end
record Ended (room : ℕ) (tokens : Tokens) (all : List Item) (j : Input) : Type 0 where
  pub reads : Tops room tokens all
  pub end : j.tokens ≡ []
  pub room_is : j.room ≡ room

items_came : (body : Parser (List StmtTree)) → SoundOf Block body → (count room : ℕ) (tokens : Tokens) (all : List Item) (j : Input) → items_from body count room tokens ≡ Ok (all, j) → Ended room tokens all j
items_came body sound zero room [] all j read = subst (λ (q : List Item × Input). Ended room [] q.0 q.1) (ok_is ([], at [] room) (all, j) read) (record { reads = p.done; end = refl; room_is = refl })
items_came body sound (suc count) room [] all j read = subst (λ (q : List Item × Input). Ended room [] q.0 q.1) (ok_is ([], at [] room) (all, j) read) (record { reads = p.done; end = refl; room_is = refl })
items_came body sound zero room (t ∷ rest) all j read = absurd (err_is (all, j) _ read)
items_came body sound (suc count) room (t ∷ rest) all j read =
    let one = steps (one_item body (at (t ∷ rest) room)) (λ a j. and_then (items_from body count j.room j.tokens) (λ all. pure (a ∷ all))) all j read in
    let first = item_pick body sound (at (t ∷ rest) room) one.value one.between (is_keyword k.Class (next_keyword (t ∷ rest))) refl one.first in
    let two = steps (items_from body count one.between.room one.between.tokens) (λ all. pure (one.value ∷ all)) all j one.second in
    let later = items_came body sound count one.between.room one.between.tokens two.value two.between two.first in
    subst (λ (q : List Item × Input). Ended room (t ∷ rest) q.0 q.1) (ok_is (one.value ∷ two.value, two.between) (all, j) two.second) (record {
      reads = subst (λ z. Tops room z (one.value ∷ two.value)) (sym first.is) (p.next first.reads (subst (λ r. Tops r one.between.tokens two.value) first.room_is later.reads));
      end = later.end;
      room_is = later.room_is ∙ first.room_is;
    })

-- what is read as a program is one
pub program_came : (levels : ℕ) (tokens : Tokens) (all : List Item) (j : Input) → program levels tokens ≡ Ok (all, j) → Tops levels tokens all
program_came levels tokens all j read =
    (items_came (block (whole (suc levels)) (suc levels)) (block_came (whole (suc levels)) (whole_came (suc levels)) (suc levels)) (length tokens) levels tokens all j read).reads

-- exactly the programs are read, each as its tree
pub read_exactly : (levels : ℕ) (tokens : Tokens) (ast : Ast) → IsProgram levels tokens ast ↔ (program levels tokens ≡ Ok (ast.items, at [] levels))
read_exactly levels tokens ast = (program_read levels tokens ast, λ read. program_came levels tokens ast.items (at [] levels) read)
