-- Where readers of members stop, what was read goes on to a member.
use Rattle.std.proofs.Common.{◌≡◌, ℕ, zero, suc, Bool, true, false, cond, List, [], ◌∷◌, ◌++◌, length, Option, Some, Ok, Err, refl, sym, subst, ap, ◌∙◌, append-nil}
use Rattle.dso_base.specs.declared.value.Kind.{Kind}
use Rattle.dso_base.specs.declared.value.Kind.TheVariants as kind
use Rattle.dso_tokens.specs.declared.token.Keyword.{Keyword}
use Rattle.dso_tokens.specs.declared.token.Keyword.TheVariants as k
use Rattle.dso_tokens.specs.declared.token.Mark.TheVariants as m
use Rattle.dso_tokens.specs.declared.token.Form.TheVariants as form
use Rattle.dso_tokens.specs.declared.token.Token.{Token}
use Rattle.dso_syntax.specs.declared.tree.Ident.{Ident}
use Rattle.dso_syntax.specs.declared.tree.Member.{Member}
use Rattle.dso_syntax.specs.declared.tree.Member.TheVariants as member
use Rattle.dso_syntax.specs.declared.tree.StmtTree.{StmtTree}
use Rattle.dso_syntax.specs.Grammar.{Tokens, IsMark, IsName, IsKeyword, kind_of}
use Rattle.dso_syntax.specs.ProgramGrammar as p
use Rattle.dso_syntax.specs.ProgramGrammar.{Body, Block, Names, Parameters, Declared}
use Rattle.dso_syntax.specs.ExpressionReader.{Input, StopCause, unexpected, Outcome, Parser, and_then, pure, is_mark, next_mark, next_keyword, take_any, take_mark, take_keyword, open_mark, close_mark, take_name}
use Rattle.dso_syntax.specs.ProgramReader.{names, parameters, method, by_start, start_of, next_line, one_member}
use Rattle.dso_syntax.proofs.soundness.SoundPrograms.{NamesOf, ParametersOf, names_came, parameters_came, declared_came}
use Rattle.dso_syntax.proofs.soundness.SoundStatements.{leads}
use Rattle.dso_syntax.proofs.prefixes.StopSteps.{Ext, Stop, stop_is, within_form, short, next_is, quiet_token, token_of, some_name, step_mark, step_close, step_keyword, step_seen, step_name, step_open, step_part, Some_of, Reader, no_stop}
use Rattle.dso_syntax.proofs.prefixes.StopExpressions.{name_token, mark_token}

-- ---- parameters

names_pick : (count : ℕ) → Reader NamesOf (names count) → (room : ℕ) (named : Token) (name : Ident) (j : Input) (stop : StopCause × Tokens) → IsName name named → (test : Bool) → is_mark m.Comma (next_mark j.tokens) ≡ test
    → cond {A = Outcome (List Ident)} test (and_then (take_any j) (λ _ l. and_then (names count l) (λ all. pure (name ∷ all)))) (Ok (name ∷ [], j)) ≡ Err stop → Stop (λ us. Some_of NamesOf room (named ∷ us)) (λ us. Some_of NamesOf (suc room) (named ∷ us)) j.tokens stop
names_pick count rest room named name j stop is_name true is read = step_seen (λ us. Some_of NamesOf room (named ∷ us)) (λ us. Some_of NamesOf (suc room) (named ∷ us)) (IsMark m.Comma) j (λ _ l. and_then (names count l) (λ all. pure (name ∷ all))) stop
    (next_is m.Comma j.tokens is) (λ t known. quiet_token t (form.Mark m.Comma) known refl) (record { more = []; holds = (name ∷ [], p.last named name is_name) })
    (λ t l known l_room later. step_part NamesOf (names count) rest (λ us. Some_of NamesOf room (named ∷ t ∷ us)) (λ us. Some_of NamesOf (suc room) (named ∷ t ∷ us)) l (λ all. pure (name ∷ all)) stop []
    (λ us all w. (name ∷ all, p.more named t name is_name known (subst (λ z. Names z all) (sym (append-nil us)) w))) (λ us all w. (name ∷ all, p.more named t name is_name known (subst (λ z. Names z all) (sym (append-nil us)) w)))
    (λ us all q w q_room done. no_stop (name ∷ all, q) stop done) later) read
names_pick count rest room named name j stop is_name false is read = no_stop (name ∷ [], j) stop read

some_names : (room : ℕ) → Ext (Some_of NamesOf room) []
some_names room = record { more = name_token ∷ []; holds = (some_name ∷ [], p.last name_token some_name (refl, refl)) }

names_reader : (count : ℕ) → Reader NamesOf (names count)
names_reader zero = record { sound = names_came zero; halts = λ i stop read. short (Some_of NamesOf i.room) (Some_of NamesOf (suc i.room)) i.tokens stop (sym (stop_is (unexpected, i.tokens) stop read)) (some_names (suc i.room)) }
names_reader (suc count) = record {
  sound = names_came (suc count);
  halts = λ i stop read. step_name (Some_of NamesOf i.room) (Some_of NamesOf (suc i.room)) i (λ name j. cond {A = Outcome (List Ident)} (is_mark m.Comma (next_mark j.tokens)) (and_then (take_any j) (λ _ l. and_then (names count l) (λ all. pure (name ∷ all)))) (Ok (name ∷ [], j))) stop (some_names (suc i.room))
      (λ named name j is_name j_room later. names_pick count (names_reader count) i.room named name j stop is_name (is_mark m.Comma (next_mark j.tokens)) refl later) read;
}

parameters_reader : Reader ParametersOf parameters
parameters_reader = record { sound = parameters_came; halts = λ i stop read. pick i stop (is_mark m.CloseParen (next_mark i.tokens)) read }
  where
    pick : (i : Input) (stop : StopCause × Tokens) (test : Bool) → cond {A = Outcome (List Ident)} test (Ok ([], i)) (names (length i.tokens) i) ≡ Err stop → Stop (Some_of ParametersOf i.room) (Some_of ParametersOf (suc i.room)) i.tokens stop
    pick i stop true read = no_stop ([], i) stop read
    pick i stop false read = within_form (Some_of NamesOf i.room) (Some_of NamesOf (suc i.room)) (Some_of ParametersOf i.room) (Some_of ParametersOf (suc i.room)) i.tokens stop (λ ts d. (d.0, p.some d.1)) (λ ts d. (d.0, p.some d.1)) ((names_reader (length i.tokens)).halts i stop read)

-- ---- methods

-- a form that ends as a method does: a name, parameters and a block
pub record MethodLike (M : ℕ → Tokens → Type 0) : Type 0 where
  pub makes : (room : ℕ) (named opening closing : Token) (name : Ident) (ts us : Tokens) (all : List Ident) (does : List StmtTree) → IsName name named → IsMark m.OpenParen opening → IsMark m.CloseParen closing → Parameters ts all → Block (suc room) us does
      → M (suc room) (named ∷ opening ∷ ts ++ closing ∷ us)

pub empty : (room : ℕ) → Block (suc room) (mark_token m.OpenBrace ∷ mark_token m.CloseBrace ∷ []) []
empty room = p.block (mark_token m.OpenBrace) (mark_token m.CloseBrace) refl refl p.done

pub method_halts : (M : ℕ → Tokens → Type 0) → MethodLike M → (B : Parser (List StmtTree)) → Reader Block B → (line : ℕ) (synced : Bool) (i : Input) (stop : StopCause × Tokens) → method B line synced i ≡ Err stop → Stop (M i.room) (M (suc i.room)) i.tokens stop
method_halts M like B body line synced i stop read =
    step_name (M i.room) (M (suc i.room)) i (λ name j. and_then (open_mark m.OpenParen j) (λ _ l. and_then (parameters l) (λ params q. and_then (close_mark m.CloseParen q) (λ _ r. and_then (B r) (λ does. pure (member.Method line synced name params does)))))) stop
    (record { more = name_token ∷ mark_token m.OpenParen ∷ mark_token m.CloseParen ∷ mark_token m.OpenBrace ∷ mark_token m.CloseBrace ∷ []; holds = like.makes i.room name_token (mark_token m.OpenParen) (mark_token m.CloseParen) some_name [] (mark_token m.OpenBrace ∷ mark_token m.CloseBrace ∷ []) [] [] (refl, refl) refl refl p.none (empty i.room) })
    (λ named name j is_name j_room later. step_open (λ us. M i.room (named ∷ us)) (λ us. M (suc i.room) (named ∷ us)) m.OpenParen j (λ _ l. and_then (parameters l) (λ params q. and_then (close_mark m.CloseParen q) (λ _ r. and_then (B r) (λ does. pure (member.Method line synced name params does))))) stop refl
    (λ t known. record { more = mark_token m.CloseParen ∷ mark_token m.OpenBrace ∷ mark_token m.CloseBrace ∷ []; holds = like.makes i.room named t (mark_token m.CloseParen) name [] (mark_token m.OpenBrace ∷ mark_token m.CloseBrace ∷ []) [] [] is_name known refl p.none (empty i.room) })
    (λ t left known room. record {
      more = mark_token m.CloseParen ∷ mark_token m.OpenBrace ∷ mark_token m.CloseBrace ∷ [];
      holds = subst (λ r. M r (named ∷ t ∷ mark_token m.CloseParen ∷ mark_token m.OpenBrace ∷ mark_token m.CloseBrace ∷ [])) (sym (sym j_room ∙ room)) (like.makes left named t (mark_token m.CloseParen) name [] (mark_token m.OpenBrace ∷ mark_token m.CloseBrace ∷ []) [] [] is_name known refl p.none (empty left));
    })
    (λ t l known room later'.
    let at_room : i.room ≡ suc l.room = sym j_room ∙ room in
    step_part ParametersOf parameters parameters_reader (λ us. M i.room (named ∷ t ∷ us)) (λ us. M (suc i.room) (named ∷ t ∷ us)) l (λ params q. and_then (close_mark m.CloseParen q) (λ _ r. and_then (B r) (λ does. pure (member.Method line synced name params does)))) stop (mark_token m.CloseParen ∷ mark_token m.OpenBrace ∷ mark_token m.CloseBrace ∷ [])
    (λ us all w. subst (λ r. M r (named ∷ t ∷ us ++ mark_token m.CloseParen ∷ mark_token m.OpenBrace ∷ mark_token m.CloseBrace ∷ [])) (sym at_room) (like.makes l.room named t (mark_token m.CloseParen) name us (mark_token m.OpenBrace ∷ mark_token m.CloseBrace ∷ []) all [] is_name known refl w (empty l.room)))
    (λ us all w. like.makes i.room named t (mark_token m.CloseParen) name us (mark_token m.OpenBrace ∷ mark_token m.CloseBrace ∷ []) all [] is_name known refl w (empty i.room))
    (λ us all q w q_room later''. step_close (λ vs. M i.room (named ∷ t ∷ (us ++ vs))) (λ vs. M (suc i.room) (named ∷ t ∷ (us ++ vs))) m.CloseParen q (λ _ r. and_then (B r) (λ does. pure (member.Method line synced name all does))) stop refl
    (record { more = mark_token m.OpenBrace ∷ mark_token m.CloseBrace ∷ []; holds = like.makes i.room named t (mark_token m.CloseParen) name us (mark_token m.OpenBrace ∷ mark_token m.CloseBrace ∷ []) all [] is_name known refl w (empty i.room) })
    (λ c r closes r_room last.
    let body_room : r.room ≡ suc l.room = r_room ∙ ap suc q_room in
    step_part Block B body (λ vs. M i.room (named ∷ t ∷ (us ++ c ∷ vs))) (λ vs. M (suc i.room) (named ∷ t ∷ (us ++ c ∷ vs))) r (λ does. pure (member.Method line synced name all does)) stop []
    (λ vs does v. subst (λ z. M z (named ∷ t ∷ (us ++ c ∷ (vs ++ [])))) (sym at_room) (like.makes l.room named t c name us (vs ++ []) all does is_name known closes w (subst (λ z. Block (suc l.room) z does) (sym (append-nil vs)) (subst (λ z. Block z vs does) body_room v))))
    (λ vs does v. like.makes i.room named t c name us (vs ++ []) all does is_name known closes w (subst (λ z. Block (suc i.room) z does) (sym (append-nil vs)) (subst (λ z. Block (suc z) vs does) (body_room ∙ sym at_room) v)))
    (λ vs does y v y_room done. no_stop (member.Method line synced name all does, y) stop done) last) later'') later') later) read

-- ---- members

abbrev Dec : ℕ → Tokens → Type 0
Dec = Some_of Declared

named_like : MethodLike Dec
named_like = record { makes = λ room named opening closing name ts us all does is_name opens closes params body. (member.Method named.line false name all does, p.method named opening closing name is_name opens closes params body) }

synchronized_like : (word : Token) → IsKeyword k.Synchronized word → MethodLike (λ room us. Dec room (word ∷ us))
synchronized_like word is = record { makes = λ room named opening closing name ts us all does is_name opens closes params body. (member.Method word.line true name all does, p.synchronized word named opening closing name is is_name opens closes params body) }

dec_field : (room : ℕ) → Ext (Dec room) []
dec_field room = record { more = token_of (form.Keyword k.Long) ∷ name_token ∷ mark_token m.Semicolon ∷ []; holds = (member.Field 0 kind.Long some_name, p.field (token_of (form.Keyword k.Long)) name_token (mark_token m.Semicolon) k.Long kind.Long some_name refl refl (refl, refl) refl) }

semicolon_halts : (F G : Tokens → Type 0) (a : Member) (l : Input) (stop : StopCause × Tokens) → G (mark_token m.Semicolon ∷ []) → and_then (take_mark m.Semicolon l) (λ _. pure a) ≡ Err stop → Stop F G l.tokens stop
semicolon_halts F G a l stop d read = step_mark F G m.Semicolon l (λ _. pure a) stop refl (record { more = []; holds = d }) (λ t j known room done. no_stop (a, j) stop done) read

word_known : (which : Keyword) (tokens : Tokens) → next_keyword tokens ≡ Some which → (t : Token) (rest : Tokens) → tokens ≡ t ∷ rest → IsKeyword which t
word_known which tokens known t rest same = leads which t t.form refl (ap next_keyword (sym same) ∙ known)

field_halts : (which : Keyword) (this : Kind) → kind_of which ≡ Some this → (i : Input) (stop : StopCause × Tokens) → next_keyword i.tokens ≡ Some which
    → and_then (take_any i) (λ t j. and_then (take_name j) (λ name l. and_then (take_mark m.Semicolon l) (λ _. pure (member.Field t.line this name)))) ≡ Err stop → Stop (Dec i.room) (Dec (suc i.room)) i.tokens stop
field_halts which this is_kind i stop known read = step_seen (Dec i.room) (Dec (suc i.room)) (IsKeyword which) i (λ t j. and_then (take_name j) (λ name l. and_then (take_mark m.Semicolon l) (λ _. pure (member.Field t.line this name)))) stop
    (word_known which i.tokens known) (λ t is. quiet_token t (form.Keyword which) is refl) (dec_field (suc i.room))
    (λ t j is j_room later. step_name (λ us. Dec i.room (t ∷ us)) (λ us. Dec (suc i.room) (t ∷ us)) j (λ name l. and_then (take_mark m.Semicolon l) (λ _. pure (member.Field t.line this name))) stop
    (record { more = name_token ∷ mark_token m.Semicolon ∷ []; holds = (member.Field t.line this some_name, p.field t name_token (mark_token m.Semicolon) which this some_name is is_kind (refl, refl) refl) })
    (λ named name l is_name l_room last. semicolon_halts (λ us. Dec i.room (t ∷ named ∷ us)) (λ us. Dec (suc i.room) (t ∷ named ∷ us)) (member.Field t.line this name) l stop (member.Field t.line this name, p.field t named (mark_token m.Semicolon) which this name is is_kind is_name refl) last) later) read

static_halts : (i : Input) (stop : StopCause × Tokens) → next_keyword i.tokens ≡ Some k.Static
    → and_then (take_any i) (λ t j. and_then (take_keyword k.Ref j) (λ _ l. and_then (take_name l) (λ name q. and_then (take_mark m.Semicolon q) (λ _. pure (member.Static t.line name))))) ≡ Err stop → Stop (Dec i.room) (Dec (suc i.room)) i.tokens stop
static_halts i stop known read = step_seen (Dec i.room) (Dec (suc i.room)) (IsKeyword k.Static) i (λ t j. and_then (take_keyword k.Ref j) (λ _ l. and_then (take_name l) (λ name q. and_then (take_mark m.Semicolon q) (λ _. pure (member.Static t.line name))))) stop
    (word_known k.Static i.tokens known) (λ t is. quiet_token t (form.Keyword k.Static) is refl) (dec_field (suc i.room))
    (λ t j is j_room later. step_keyword (λ us. Dec i.room (t ∷ us)) (λ us. Dec (suc i.room) (t ∷ us)) k.Ref j (λ _ l. and_then (take_name l) (λ name q. and_then (take_mark m.Semicolon q) (λ _. pure (member.Static t.line name)))) stop
    (record { more = token_of (form.Keyword k.Ref) ∷ name_token ∷ mark_token m.Semicolon ∷ []; holds = (member.Static t.line some_name, p.static t (token_of (form.Keyword k.Ref)) name_token (mark_token m.Semicolon) some_name is refl (refl, refl) refl) })
    (λ ref l is_ref l_room last. step_name (λ us. Dec i.room (t ∷ ref ∷ us)) (λ us. Dec (suc i.room) (t ∷ ref ∷ us)) l (λ name q. and_then (take_mark m.Semicolon q) (λ _. pure (member.Static t.line name))) stop
    (record { more = name_token ∷ mark_token m.Semicolon ∷ []; holds = (member.Static t.line some_name, p.static t ref name_token (mark_token m.Semicolon) some_name is is_ref (refl, refl) refl) })
    (λ named name q is_name q_room done. semicolon_halts (λ us. Dec i.room (t ∷ ref ∷ named ∷ us)) (λ us. Dec (suc i.room) (t ∷ ref ∷ named ∷ us)) (member.Static t.line name) q stop (member.Static t.line name, p.static t ref named (mark_token m.Semicolon) name is is_ref is_name refl) done) last) later) read

start_halts : (B : Parser (List StmtTree)) → Reader Block B → (i : Input) (stop : StopCause × Tokens) (word : Option Keyword) → next_keyword i.tokens ≡ word → by_start B (start_of word) i ≡ Err stop → Stop (Dec i.room) (Dec (suc i.room)) i.tokens stop
start_halts B body i stop (Some k.Long) known read = field_halts k.Long kind.Long refl i stop known read
start_halts B body i stop (Some k.Boolean) known read = field_halts k.Boolean kind.Bool refl i stop known read
start_halts B body i stop (Some k.Text) known read = field_halts k.Text kind.Text refl i stop known read
start_halts B body i stop (Some k.Ref) known read = field_halts k.Ref kind.Ref refl i stop known read
start_halts B body i stop (Some k.Static) known read = static_halts i stop known read
start_halts B body i stop (Some k.Synchronized) known read = step_seen (Dec i.room) (Dec (suc i.room)) (IsKeyword k.Synchronized) i (λ t. method B t.line true) stop (word_known k.Synchronized i.tokens known) (λ t is. quiet_token t (form.Keyword k.Synchronized) is refl) (dec_field (suc i.room))
    (λ t j is j_room later. subst (λ r. Stop (λ us. Dec r (t ∷ us)) (λ us. Dec (suc r) (t ∷ us)) j.tokens stop) j_room (method_halts (λ room us. Dec room (t ∷ us)) (synchronized_like t is) B body t.line true j stop later)) read
start_halts B body i stop other known read = method_halts Dec named_like B body (next_line i.tokens) false i stop read

pub member_reader : (B : Parser (List StmtTree)) → Reader Block B → Reader Declared (one_member B)
member_reader B body = record { sound = declared_came B body.sound; halts = λ i stop read. start_halts B body i stop (next_keyword i.tokens) refl read }
