-- Where readers of expressions stop, what was read goes on to an expression.
use Rattle.std.proofs.Common.{◌≡◌, ℕ, zero, suc, Bool, true, false, cond, List, [], ◌∷◌, ◌++◌, length, Option, Some, None, Ok, Err, refl, sym, subst, ap, ◌∙◌, append_assoc, append-nil}
use Rattle.std.specs.Prelude.{pos}
use Rattle.std.proofs.lemmas.Bool.{false≢true}
use Rattle.std.proofs.lemmas.Option.{none-some}
use Rattle.dso_base.specs.declared.op.Op.{Op}
use Rattle.dso_base.specs.declared.value.Kind.{Kind}
use Rattle.dso_tokens.specs.declared.token.Keyword.TheVariants as k
use Rattle.dso_tokens.specs.declared.token.Mark.{Mark}
use Rattle.dso_tokens.specs.declared.token.Mark.TheVariants as m
use Rattle.dso_tokens.specs.declared.token.Form.{Form}
use Rattle.dso_tokens.specs.declared.token.Form.TheVariants as form
use Rattle.dso_tokens.specs.declared.token.Token.{Token}
use Rattle.dso_syntax.specs.declared.tree.Ident.{Ident}
use Rattle.dso_syntax.specs.declared.tree.ExprTree.{ExprTree}
use Rattle.dso_syntax.specs.declared.tree.ExprForm.{ExprForm}
use Rattle.dso_syntax.specs.declared.tree.ExprForm.TheVariants as e
use Rattle.dso_syntax.specs.Grammar as g
use Rattle.dso_syntax.specs.Grammar.{Tokens, expression, line_of, top_rank, IsMark, IsName, IsKeyword, Binary, Unary, Postfix, Primary, Whole, Arguments, Listed}
use Rattle.dso_syntax.specs.SyntaxFaults.{opens, narrowed}
use Rattle.dso_syntax.specs.ExpressionReader.{Input, StopCause, unexpected, too_wide, too_deep, Outcome, Parser, and_then, pure, refuse, is_mark, next_mark, next_keyword, next_form, is_wide, take_any, take_mark, take_keyword, leave, open_mark, close_mark, take_name, listed, of_rank, operator_at, sign_at, plain_at, kind_at, arguments, call_suffix, field_suffix, dot_suffix, element_suffix, suffixes, parens, made, primary_of, primary, postfix, signed, unary_of, unary, operation_of, operations, climb, restored, whole}
use Rattle.dso_syntax.proofs.completeness.ReadSteps.{at}
use Rattle.dso_syntax.proofs.soundness.SoundSteps.{err_is}
use Rattle.dso_syntax.proofs.soundness.SoundExpressions.{listed_came, arguments_came, dot_came, element_came, primary_came, KindWord, kind_word, SignMark, sign_mark, OperatorMark, operator_mark, SoundLeaves, unary_came, climb_came, whole_came}
use Rattle.dso_syntax.proofs.prefixes.OneLevelMore.{lift_whole, lift_postfix, lift_arguments, lift_binary}
use Rattle.dso_syntax.proofs.prefixes.StopSteps.{Ext, Stop, Steps, first, second, err_steps, stop_is, behind, within_form, no_calm, short, too_many, next_is, held_here, whole_here, quiet_token, token_of, some_name, step_mark, step_close, step_keyword, step_seen, step_name, step_open, step_part, Some_of, Reader, no_stop, wide, any_stops, step_enter}

-- the shortest expression
abbrev pub this_token : Token
this_token = token_of (form.Keyword k.This)

abbrev pub name_token : Token
name_token = token_of (form.Name [])

abbrev pub mark_token : Mark → Token
mark_token mark = token_of (form.Mark mark)

pub raise : (rank : ℕ) {room left : ℕ} {ts : Tokens} {a : ExprTree} → Unary room left ts a → Binary rank room left ts a
raise zero d = g.operand d
raise (suc rank) d = g.tighter (raise rank d)

pub primary_this : (room : ℕ) → Primary room (this_token ∷ []) (expression 0 e.This)
primary_this room = g.single this_token e.This refl

pub unary_this : (room : ℕ) → Unary room room (this_token ∷ []) (expression 0 e.This)
unary_this room = g.plain (g.primary (primary_this room))

pub whole_this : (room : ℕ) → Whole room (this_token ∷ []) (expression 0 e.This)
whole_this room = g.whole (raise top_rank (unary_this room))

-- a token that opens a level stands where there is no room for one
pub stuck : (F G : Tokens → Type 0) (mark : Mark) (tokens : Tokens) (stop : StopCause × Tokens) → opens mark ≡ true → is_mark mark (next_mark tokens) ≡ true → ((t : Token) → IsMark mark t → Ext G (t ∷ [])) → stop ≡ (too_deep, tokens) → Stop F G tokens stop
stuck F G mark [] stop opening is ext same = absurd (false≢true is)
stuck F G mark (t ∷ rest) stop opening is ext same = let known : IsMark mark t = next_is mark (t ∷ rest) is t rest refl in too_many F G t rest stop same (mark, known, opening) (ext t known)

-- ---- arguments

abbrev ListsFrom : ℕ → Tokens → Tokens → Type 0
ListsFrom room ts us = Some_of Listed room (ts ++ us)

listed_more : (P : Parser ExprTree) → Reader Whole P → (count : ℕ) → Reader Listed (listed P count) → (room : ℕ) (ts : Tokens) (a : ExprTree) (j : Input) (stop : StopCause × Tokens) → Whole room ts a → j.room ≡ room → is_mark m.Comma (next_mark j.tokens) ≡ true
    → and_then (take_any j) (λ _ l. and_then (listed P count l) (λ all. pure (a ∷ all))) ≡ Err stop → Stop (ListsFrom room ts) (ListsFrom (suc room) ts) j.tokens stop
listed_more P reader count rest room ts a j stop d at_room is read = step_seen (ListsFrom room ts) (ListsFrom (suc room) ts) (IsMark m.Comma) j (λ _ l. and_then (listed P count l) (λ all. pure (a ∷ all))) stop
    (next_is m.Comma j.tokens is) (λ t known. quiet_token t (form.Mark m.Comma) known refl)
    (record { more = mark_token m.Comma ∷ this_token ∷ []; holds = (a ∷ expression 0 e.This ∷ [], g.more (mark_token m.Comma) refl (lift_whole d) (g.last (whole_this (suc room)))) })
    (λ t l known same_room later. step_part Listed (listed P count) rest (λ us. ListsFrom room ts (t ∷ us)) (λ us. ListsFrom (suc room) ts (t ∷ us)) l (λ all. pure (a ∷ all)) stop []
    (λ us all e. subst (λ z. ListsFrom room ts (t ∷ z)) (sym (append-nil us)) (a ∷ all, g.more t known d (subst (λ r. Listed r us all) (same_room ∙ at_room) e)))
    (λ us all e. subst (λ z. ListsFrom (suc room) ts (t ∷ z)) (sym (append-nil us)) (a ∷ all, g.more t known (lift_whole d) (subst (λ r. Listed r us all) (ap suc (same_room ∙ at_room)) e)))
    (λ us all q e q_room done. no_stop (a ∷ all, q) stop done) later) read

listed_pick : (P : Parser ExprTree) → Reader Whole P → (count : ℕ) → Reader Listed (listed P count) → (room : ℕ) (ts : Tokens) (a : ExprTree) (j : Input) (stop : StopCause × Tokens) → Whole room ts a → j.room ≡ room → (test : Bool) → is_mark m.Comma (next_mark j.tokens) ≡ test
    → cond {A = Outcome (List ExprTree)} test (and_then (take_any j) (λ _ l. and_then (listed P count l) (λ all. pure (a ∷ all)))) (Ok (a ∷ [], j)) ≡ Err stop → Stop (ListsFrom room ts) (ListsFrom (suc room) ts) j.tokens stop
listed_pick P reader count rest room ts a j stop d at_room true is read = listed_more P reader count rest room ts a j stop d at_room is read
listed_pick P reader count rest room ts a j stop d at_room false is read = no_stop (a ∷ [], j) stop read

listed_reader : (P : Parser ExprTree) → Reader Whole P → (count : ℕ) → Reader Listed (listed P count)
listed_reader P reader zero = record {
  sound = listed_came P reader.sound zero;
  halts = λ i stop read. short (Some_of Listed i.room) (Some_of Listed (suc i.room)) i.tokens stop (sym (stop_is (unexpected, i.tokens) stop read)) (record { more = this_token ∷ []; holds = (expression 0 e.This ∷ [], g.last (whole_this (suc i.room))) });
}
listed_reader P reader (suc count) = record {
  sound = listed_came P reader.sound (suc count);
  halts = λ i stop read. step_part Whole P reader (Some_of Listed i.room) (Some_of Listed (suc i.room)) i (λ a j. cond {A = Outcome (List ExprTree)} (is_mark m.Comma (next_mark j.tokens)) (and_then (take_any j) (λ _ l. and_then (listed P count l) (λ all. pure (a ∷ all)))) (Ok (a ∷ [], j))) stop []
      (λ ts a d. subst (Some_of Listed i.room) (sym (append-nil ts)) (a ∷ [], g.last d)) (λ ts a d. subst (Some_of Listed (suc i.room)) (sym (append-nil ts)) (a ∷ [], g.last d))
      (λ ts a j d same_room later. listed_pick P reader count (listed_reader P reader count) i.room ts a j stop d same_room (is_mark m.Comma (next_mark j.tokens)) refl later) read;
}

arguments_reader : (P : Parser ExprTree) → Reader Whole P → Reader Arguments (arguments P)
arguments_reader P reader = record { sound = λ i a j read. arguments_came P reader.sound i j a read; halts = λ i stop read. pick i stop (is_mark m.CloseParen (next_mark i.tokens)) read }
  where
    pick : (i : Input) (stop : StopCause × Tokens) (test : Bool) → cond {A = Outcome (List ExprTree)} test (Ok ([], i)) (listed P (length i.tokens) i) ≡ Err stop → Stop (Some_of Arguments i.room) (Some_of Arguments (suc i.room)) i.tokens stop
    pick i stop true read = no_stop ([], i) stop read
    pick i stop false read = within_form (Some_of Listed i.room) (Some_of Listed (suc i.room)) (Some_of Arguments i.room) (Some_of Arguments (suc i.room)) i.tokens stop (λ ts d. (d.0, g.some d.1)) (λ ts d. (d.0, g.some d.1)) ((listed_reader P reader (length i.tokens)).halts i stop read)

-- ---- what is asked of an expression

-- an expression that goes on from these tokens
abbrev pub PostFrom : ℕ → Tokens → Tokens → Type 0
PostFrom room before us = (a : ExprTree) × (left : ℕ) × Postfix room left (before ++ us) a

dot_ext : (room left : ℕ) (before : Tokens) (a : ExprTree) (t : Token) → IsMark m.Dot t → Postfix room (suc left) before a → Ext (PostFrom room before) (t ∷ [])
dot_ext room left before a t is d = record { more = name_token ∷ []; holds = (expression (line_of a) (e.Field a some_name), left, g.field t name_token some_name is (refl, refl) d) }

bracket_ext : (room left : ℕ) (before : Tokens) (a : ExprTree) (t : Token) → IsMark m.OpenBracket t → Postfix room (suc left) before a → Ext (PostFrom room before) (t ∷ [])
bracket_ext room left before a t is d = record { more = this_token ∷ mark_token m.CloseBracket ∷ []; holds = (expression (line_of a) (e.Elem a (expression 0 e.This)), left, g.element t (mark_token m.CloseBracket) is refl d (whole_this left)) }

call_ext : (room left : ℕ) (before : Tokens) (a : ExprTree) (name : Ident) (dot named t : Token) → IsMark m.Dot dot → IsName name named → IsMark m.OpenParen t → Postfix room (suc (suc left)) before a → Ext (λ us. PostFrom room before (dot ∷ named ∷ us)) (t ∷ [])
call_ext room left before a name dot named t is is_name opening d = record { more = mark_token m.CloseParen ∷ []; holds = (expression (line_of a) (e.Call a name []), suc left, g.call dot named t (mark_token m.CloseParen) name is is_name opening refl d g.none) }

call_halts : (P : Parser ExprTree) → Reader Whole P → (room : ℕ) (before : Tokens) (a : ExprTree) (name : Ident) (dot named : Token) (l : Input) (stop : StopCause × Tokens) → IsMark m.Dot dot → IsName name named → Postfix room (suc l.room) before a
    → call_suffix P a name l ≡ Err stop → Stop (λ us. PostFrom room before (dot ∷ named ∷ us)) (λ us. PostFrom (suc room) before (dot ∷ named ∷ us)) l.tokens stop
call_halts P reader room before a name dot named l stop is is_name d read =
    step_open (λ us. PostFrom room before (dot ∷ named ∷ us)) (λ us. PostFrom (suc room) before (dot ∷ named ∷ us)) m.OpenParen l (λ _ j. and_then (arguments P j) (λ all q. and_then (close_mark m.CloseParen q) (λ _. pure (expression (line_of a) (e.Call a name all))))) stop refl
    (λ t known. call_ext (suc room) l.room before a name dot named t is is_name known (lift_postfix d))
    (λ t left known at_room. call_ext room left before a name dot named t is is_name known (subst (λ r. Postfix room (suc r) before a) at_room d))
    (λ t q known at_room later.
    let inner : Postfix room (suc (suc q.room)) before a = subst (λ r. Postfix room (suc r) before a) at_room d in
    step_part Arguments (arguments P) (arguments_reader P reader) (λ us. PostFrom room before (dot ∷ named ∷ t ∷ us)) (λ us. PostFrom (suc room) before (dot ∷ named ∷ t ∷ us)) q (λ all r. and_then (close_mark m.CloseParen r) (λ _. pure (expression (line_of a) (e.Call a name all)))) stop (mark_token m.CloseParen ∷ [])
    (λ us all w. (expression (line_of a) (e.Call a name all), suc q.room, g.call dot named t (mark_token m.CloseParen) name is is_name known refl inner w))
    (λ us all w. (expression (line_of a) (e.Call a name all), suc (suc q.room), g.call dot named t (mark_token m.CloseParen) name is is_name known refl (lift_postfix inner) w))
    (λ us all r w r_room later'. step_close (λ vs. PostFrom room before (dot ∷ named ∷ t ∷ (us ++ vs))) (λ vs. PostFrom (suc room) before (dot ∷ named ∷ t ∷ (us ++ vs))) m.CloseParen r (λ _. pure (expression (line_of a) (e.Call a name all))) stop refl
    (record { more = []; holds = (expression (line_of a) (e.Call a name all), suc (suc q.room), g.call dot named t (mark_token m.CloseParen) name is is_name known refl (lift_postfix inner) (lift_arguments w)) })
    (λ c x closes x_room done. no_stop (expression (line_of a) (e.Call a name all), x) stop done) later') later) read

field_halts : (P : Parser ExprTree) → Reader Whole P → (room : ℕ) (before : Tokens) (a : ExprTree) (name : Ident) (dot named : Token) (l : Input) (stop : StopCause × Tokens) → IsMark m.Dot dot → IsName name named → Postfix room (suc l.room) before a → (test : Bool)
    → cond {A = Outcome ExprTree} test (call_suffix P a name l) (Ok (expression (line_of a) (e.Field a name), l)) ≡ Err stop → Stop (λ us. PostFrom room before (dot ∷ named ∷ us)) (λ us. PostFrom (suc room) before (dot ∷ named ∷ us)) l.tokens stop
field_halts P reader room before a name dot named l stop is is_name d true read = call_halts P reader room before a name dot named l stop is is_name d read
field_halts P reader room before a name dot named l stop is is_name d false read = no_stop (expression (line_of a) (e.Field a name), l) stop read

dot_halts : (P : Parser ExprTree) → Reader Whole P → (room : ℕ) (before : Tokens) (a : ExprTree) (i : Input) (stop : StopCause × Tokens) → Postfix room i.room before a → dot_suffix P a i ≡ Err stop → Stop (PostFrom room before) (PostFrom (suc room) before) i.tokens stop
dot_halts P reader room before a i stop d read =
    step_open (PostFrom room before) (PostFrom (suc room) before) m.Dot i (λ _ j. and_then (take_name j) (λ name. field_suffix P a name)) stop refl
    (λ t known. dot_ext (suc room) i.room before a t known (lift_postfix d)) (λ t left known at_room. dot_ext room left before a t known (subst (λ r. Postfix room r before a) at_room d))
    (λ t j known at_room later.
    let here : Postfix room (suc j.room) before a = subst (λ r. Postfix room r before a) at_room d in
    step_name (λ us. PostFrom room before (t ∷ us)) (λ us. PostFrom (suc room) before (t ∷ us)) j (λ name. field_suffix P a name) stop (let ext : Ext (PostFrom (suc room) before) (t ∷ []) = dot_ext (suc room) (suc j.room) before a t known (lift_postfix here) in record { more = ext.more; holds = ext.holds })
    (λ named name l is_name l_room later'. field_halts P reader room before a name t named l stop known is_name (subst (λ r. Postfix room (suc r) before a) (sym l_room) here) (is_mark m.OpenParen (next_mark l.tokens)) later') later) read

element_halts : (P : Parser ExprTree) → Reader Whole P → (room : ℕ) (before : Tokens) (a : ExprTree) (i : Input) (stop : StopCause × Tokens) → Postfix room i.room before a → element_suffix P a i ≡ Err stop → Stop (PostFrom room before) (PostFrom (suc room) before) i.tokens stop
element_halts P reader room before a i stop d read =
    step_open (PostFrom room before) (PostFrom (suc room) before) m.OpenBracket i (λ _ j. and_then (P j) (λ b l. and_then (take_mark m.CloseBracket l) (λ _. pure (expression (line_of a) (e.Elem a b))))) stop refl
    (λ t known. bracket_ext (suc room) i.room before a t known (lift_postfix d)) (λ t left known at_room. bracket_ext room left before a t known (subst (λ r. Postfix room r before a) at_room d))
    (λ t j known at_room later.
    let here : Postfix room (suc j.room) before a = subst (λ r. Postfix room r before a) at_room d in
    step_part Whole P reader (λ us. PostFrom room before (t ∷ us)) (λ us. PostFrom (suc room) before (t ∷ us)) j (λ b l. and_then (take_mark m.CloseBracket l) (λ _. pure (expression (line_of a) (e.Elem a b)))) stop (mark_token m.CloseBracket ∷ [])
    (λ us b w. (expression (line_of a) (e.Elem a b), j.room, g.element t (mark_token m.CloseBracket) known refl here w)) (λ us b w. (expression (line_of a) (e.Elem a b), suc j.room, g.element t (mark_token m.CloseBracket) known refl (lift_postfix here) w))
    (λ us b l w l_room later'. step_mark (λ vs. PostFrom room before (t ∷ (us ++ vs))) (λ vs. PostFrom (suc room) before (t ∷ (us ++ vs))) m.CloseBracket l (λ _. pure (expression (line_of a) (e.Elem a b))) stop refl
    (record { more = []; holds = (expression (line_of a) (e.Elem a b), suc j.room, g.element t (mark_token m.CloseBracket) known refl (lift_postfix here) (lift_whole w)) })
    (λ c x closes x_room done. no_stop (expression (line_of a) (e.Elem a b), x) stop done) later') later) read

-- reading goes on behind what was asked
suffixes_on : (room : ℕ) (before : Tokens) (b : ExprTree) (i l : Input) (stop : StopCause × Tokens) (ts : Tokens) → i.tokens ≡ ts ++ l.tokens → Postfix room l.room (before ++ ts) b → Stop (PostFrom room (before ++ ts)) (PostFrom (suc room) (before ++ ts)) l.tokens stop
    → Stop (PostFrom room before) (PostFrom (suc room) before) i.tokens stop
suffixes_on room before b i l stop ts is d it = subst (λ z. Stop (PostFrom room before) (PostFrom (suc room) before) z stop) (sym is)
    (behind (PostFrom room before) (PostFrom (suc room) before) ts l.tokens stop (held_here (PostFrom room before) ts (whole_here (PostFrom room before) ts (b, l.room, d)))
    (within_form (PostFrom room (before ++ ts)) (PostFrom (suc room) (before ++ ts)) (λ us. PostFrom room before (ts ++ us)) (λ us. PostFrom (suc room) before (ts ++ us)) l.tokens stop
    (λ us d. (d.0, d.1, subst (λ z. Postfix room d.1 z d.0) (append_assoc before ts us) d.2)) (λ us d. (d.0, d.1, subst (λ z. Postfix (suc room) d.1 z d.0) (append_assoc before ts us) d.2)) it))

suffixes_halts : (P : Parser ExprTree) → Reader Whole P → (n room : ℕ) (before : Tokens) (a : ExprTree) (i : Input) (stop : StopCause × Tokens) → Postfix room i.room before a → suffixes P n a i ≡ Err stop → Stop (PostFrom room before) (PostFrom (suc room) before) i.tokens stop
suffixes_halts P reader zero room before a i stop d read = pick (is_mark m.Dot (next_mark i.tokens)) (is_mark m.OpenBracket (next_mark i.tokens)) refl refl read
  where
    pick : (dot bracket : Bool) → is_mark m.Dot (next_mark i.tokens) ≡ dot → is_mark m.OpenBracket (next_mark i.tokens) ≡ bracket
        → cond {A = Outcome ExprTree} dot (Err (too_deep, i.tokens)) (cond {A = Outcome ExprTree} bracket (Err (too_deep, i.tokens)) (Ok (a, i))) ≡ Err stop → Stop (PostFrom room before) (PostFrom (suc room) before) i.tokens stop
    pick true bracket is is' read = stuck (PostFrom room before) (PostFrom (suc room) before) m.Dot i.tokens stop refl is (λ t known. dot_ext (suc room) i.room before a t known (lift_postfix d)) (sym (stop_is (too_deep, i.tokens) stop read))
    pick false true is is' read = stuck (PostFrom room before) (PostFrom (suc room) before) m.OpenBracket i.tokens stop refl is' (λ t known. bracket_ext (suc room) i.room before a t known (lift_postfix d)) (sym (stop_is (too_deep, i.tokens) stop read))
    pick false false is is' read = no_stop (a, i) stop read
suffixes_halts P reader (suc n) room before a i stop d read = pick (suffixes_halts P reader n) (is_mark m.Dot (next_mark i.tokens)) (is_mark m.OpenBracket (next_mark i.tokens)) read
  where
    dots : ((room : ℕ) (before : Tokens) (a : ExprTree) (i : Input) (stop : StopCause × Tokens) → Postfix room i.room before a → suffixes P n a i ≡ Err stop → Stop (PostFrom room before) (PostFrom (suc room) before) i.tokens stop)
        → Steps (dot_suffix P a i) (suffixes P n) stop → Stop (PostFrom room before) (PostFrom (suc room) before) i.tokens stop
    dots more (first is) = dot_halts P reader room before a i stop d is
    dots more (second b l is later) = let went = dot_came P reader.sound room before a b i l d is in suffixes_on room before b i l stop went.tokens went.is went.reads (more room (before ++ went.tokens) b l stop went.reads later)

    elements : ((room : ℕ) (before : Tokens) (a : ExprTree) (i : Input) (stop : StopCause × Tokens) → Postfix room i.room before a → suffixes P n a i ≡ Err stop → Stop (PostFrom room before) (PostFrom (suc room) before) i.tokens stop)
        → Steps (element_suffix P a i) (suffixes P n) stop → Stop (PostFrom room before) (PostFrom (suc room) before) i.tokens stop
    elements more (first is) = element_halts P reader room before a i stop d is
    elements more (second b l is later) = let went = element_came P reader.sound room before a b i l d is in suffixes_on room before b i l stop went.tokens went.is went.reads (more room (before ++ went.tokens) b l stop went.reads later)

    pick : ((room : ℕ) (before : Tokens) (a : ExprTree) (i : Input) (stop : StopCause × Tokens) → Postfix room i.room before a → suffixes P n a i ≡ Err stop → Stop (PostFrom room before) (PostFrom (suc room) before) i.tokens stop)
        → (dot bracket : Bool) → cond dot (and_then (dot_suffix P a i) (suffixes P n)) (cond bracket (and_then (element_suffix P a i) (suffixes P n)) (Ok (a, i))) ≡ Err stop → Stop (PostFrom room before) (PostFrom (suc room) before) i.tokens stop
    pick more true bracket read = dots more (err_steps (dot_suffix P a i) (suffixes P n) stop read)
    pick more false true read = elements more (err_steps (element_suffix P a i) (suffixes P n) stop read)
    pick more false false read = no_stop (a, i) stop read

-- ---- primary expressions

abbrev Prim : ℕ → Tokens → Type 0
Prim = Some_of Primary

parens_halts : (P : Parser ExprTree) → Reader Whole P → (i : Input) (stop : StopCause × Tokens) → and_then (open_mark m.OpenParen i) (λ t. parens P t.line) ≡ Err stop → Stop (Prim i.room) (Prim (suc i.room)) i.tokens stop
parens_halts P reader i stop read =
    step_open (Prim i.room) (Prim (suc i.room)) m.OpenParen i (λ t. parens P t.line) stop refl
    (λ t known. record { more = this_token ∷ mark_token m.CloseParen ∷ []; holds = (expression t.line (e.Paren (expression 0 e.This)), g.parens t (mark_token m.CloseParen) known refl (whole_this i.room)) })
    (λ t left known at_room. record { more = this_token ∷ mark_token m.CloseParen ∷ []; holds = (expression t.line (e.Paren (expression 0 e.This)), subst (λ r. Primary r (t ∷ this_token ∷ mark_token m.CloseParen ∷ []) (expression t.line (e.Paren (expression 0 e.This)))) (sym at_room) (g.parens t (mark_token m.CloseParen) known refl (whole_this left))) })
    (λ t j known at_room later. step_part Whole P reader (λ us. Prim i.room (t ∷ us)) (λ us. Prim (suc i.room) (t ∷ us)) j (λ b l. and_then (close_mark m.CloseParen l) (λ _. pure (expression t.line (e.Paren b)))) stop (mark_token m.CloseParen ∷ [])
    (λ us b w. (expression t.line (e.Paren b), subst (λ r. Primary r (t ∷ us ++ mark_token m.CloseParen ∷ []) (expression t.line (e.Paren b))) (sym at_room) (g.parens t (mark_token m.CloseParen) known refl w)))
    (λ us b w. (expression t.line (e.Paren b), subst (λ r. Primary (suc r) (t ∷ us ++ mark_token m.CloseParen ∷ []) (expression t.line (e.Paren b))) (sym at_room) (g.parens t (mark_token m.CloseParen) known refl w)))
    (λ us b l w l_room later'. step_close (λ vs. Prim i.room (t ∷ (us ++ vs))) (λ vs. Prim (suc i.room) (t ∷ (us ++ vs))) m.CloseParen l (λ _. pure (expression t.line (e.Paren b))) stop refl
    (record { more = []; holds = (expression t.line (e.Paren b), subst (λ r. Primary (suc r) (t ∷ us ++ mark_token m.CloseParen ∷ []) (expression t.line (e.Paren b))) (sym at_room) (g.parens t (mark_token m.CloseParen) known refl (lift_whole w))) })
    (λ c x closes x_room done. no_stop (expression t.line (e.Paren b), x) stop done) later') later) read

-- a number that is too wide, where another would do
wide_halts : (i : Input) (stop : StopCause × Tokens) → is_wide (next_form i.tokens) ≡ true → ◌≡◌ {A = Outcome ExprTree} (Err (too_wide, i.tokens)) (Err stop) → Stop (Prim i.room) (Prim (suc i.room)) i.tokens stop
wide_halts i stop is read = pick i.tokens is (sym (stop_is (too_wide, i.tokens) stop read))
  where
    this_ext : Ext (Prim (suc i.room)) []
    this_ext = record { more = this_token ∷ []; holds = (expression 0 e.This, primary_this (suc i.room)) }

    by_form : (t : Token) (rest : Tokens) (f : Form) → t.form ≡ f → is_wide (Some f) ≡ true → stop ≡ (too_wide, t ∷ rest) → Stop (Prim i.room) (Prim (suc i.room)) (t ∷ rest) stop
    by_form t rest (form.Number None) known wide_is same = record {
      used = [];
      is = sym (ap (λ (s : StopCause × Tokens). s.1) same);
      calm = no_calm;
      higher = this_ext;
      told = wide t rest same known (record { more = []; holds = (expression t.line (e.Number (pos 0)), g.single (narrowed t) (e.Number (pos 0)) (rw known refl)) });
    }
    by_form t rest (form.Number (Some value)) known wide_is same = absurd (false≢true wide_is)
    by_form t rest (form.Name name) known wide_is same = absurd (false≢true wide_is)
    by_form t rest (form.Keyword word) known wide_is same = absurd (false≢true wide_is)
    by_form t rest (form.Text content) known wide_is same = absurd (false≢true wide_is)
    by_form t rest (form.Mark mark) known wide_is same = absurd (false≢true wide_is)

    pick : (tokens : Tokens) → is_wide (next_form tokens) ≡ true → stop ≡ (too_wide, tokens) → Stop (Prim i.room) (Prim (suc i.room)) tokens stop
    pick [] is same = absurd (false≢true is)
    pick (t ∷ rest) is same = by_form t rest t.form refl is same

-- ---- behind `new`

object_halts : (P : Parser ExprTree) (room : ℕ) (new : Token) (j : Input) (stop : StopCause × Tokens) → IsKeyword k.New new → j.room ≡ room → made P new.line None j ≡ Err stop → Stop (λ us. Prim room (new ∷ us)) (λ us. Prim (suc room) (new ∷ us)) j.tokens stop
object_halts P room new j stop is_new at_room read =
    step_name (λ us. Prim room (new ∷ us)) (λ us. Prim (suc room) (new ∷ us)) j (λ name j. and_then (open_mark m.OpenParen j) (λ _ l. and_then (close_mark m.CloseParen l) (λ _. pure (expression new.line (e.NewObject name))))) stop
    (record { more = name_token ∷ mark_token m.OpenParen ∷ mark_token m.CloseParen ∷ []; holds = (expression new.line (e.NewObject some_name), g.object new name_token (mark_token m.OpenParen) (mark_token m.CloseParen) some_name is_new (refl, refl) refl refl) })
    (λ named name l is_name l_room later. step_open (λ us. Prim room (new ∷ named ∷ us)) (λ us. Prim (suc room) (new ∷ named ∷ us)) m.OpenParen l (λ _ l. and_then (close_mark m.CloseParen l) (λ _. pure (expression new.line (e.NewObject name)))) stop refl
    (λ t known. record { more = mark_token m.CloseParen ∷ []; holds = (expression new.line (e.NewObject name), g.object new named t (mark_token m.CloseParen) name is_new is_name known refl) })
    (λ t left known open_room. record { more = mark_token m.CloseParen ∷ []; holds = (expression new.line (e.NewObject name), subst (λ r. Primary r (new ∷ named ∷ t ∷ mark_token m.CloseParen ∷ []) (expression new.line (e.NewObject name))) (sym (sym at_room ∙ sym l_room ∙ open_room)) (g.object new named t (mark_token m.CloseParen) name is_new is_name known refl)) })
    (λ t q known open_room later'. step_close (λ us. Prim room (new ∷ named ∷ t ∷ us)) (λ us. Prim (suc room) (new ∷ named ∷ t ∷ us)) m.CloseParen q (λ _. pure (expression new.line (e.NewObject name))) stop refl
    (record { more = []; holds = (expression new.line (e.NewObject name), g.object new named t (mark_token m.CloseParen) name is_new is_name known refl) })
    (λ c x closes x_room done. no_stop (expression new.line (e.NewObject name), x) stop done) later') later) read

array_halts : (P : Parser ExprTree) → Reader Whole P → (room : ℕ) (new : Token) (kind : Kind) (j : Input) (stop : StopCause × Tokens) → IsKeyword k.New new → j.room ≡ room → kind_at (next_keyword j.tokens) ≡ Some kind → made P new.line (Some kind) j ≡ Err stop
    → Stop (λ us. Prim room (new ∷ us)) (λ us. Prim (suc room) (new ∷ us)) j.tokens stop
array_halts P reader room new kind j stop is_new at_room is_kind read =
    step_seen (λ us. Prim room (new ∷ us)) (λ us. Prim (suc room) (new ∷ us)) (KindWord kind) j (λ _ j. and_then (open_mark m.OpenBracket j) (λ _ l. and_then (P l) (λ a n. and_then (close_mark m.CloseBracket n) (λ _. pure (expression new.line (e.NewArray kind a)))))) stop
    (λ t rest same. kind_word kind t t.form refl (ap (λ z. kind_at (next_keyword z)) (sym same) ∙ is_kind)) (λ t known. quiet_token t (form.Keyword known.0) known.1 refl)
    (record { more = name_token ∷ mark_token m.OpenParen ∷ mark_token m.CloseParen ∷ []; holds = (expression new.line (e.NewObject some_name), g.object new name_token (mark_token m.OpenParen) (mark_token m.CloseParen) some_name is_new (refl, refl) refl refl) })
    (λ word l known l_room later. step_open (λ us. Prim room (new ∷ word ∷ us)) (λ us. Prim (suc room) (new ∷ word ∷ us)) m.OpenBracket l (λ _ l. and_then (P l) (λ a n. and_then (close_mark m.CloseBracket n) (λ _. pure (expression new.line (e.NewArray kind a))))) stop refl
    (λ t opening. record { more = this_token ∷ mark_token m.CloseBracket ∷ []; holds = (expression new.line (e.NewArray kind (expression 0 e.This)), g.array new word t (mark_token m.CloseBracket) known.0 kind is_new known.1 known.2 opening refl (whole_this room)) })
    (λ t left opening open_room. record {
      more = this_token ∷ mark_token m.CloseBracket ∷ [];
      holds = (
        expression new.line (e.NewArray kind (expression 0 e.This)),
        subst (λ r. Primary r (new ∷ word ∷ t ∷ this_token ∷ mark_token m.CloseBracket ∷ []) (expression new.line (e.NewArray kind (expression 0 e.This))))
            (sym (sym at_room ∙ sym l_room ∙ open_room)) (g.array new word t (mark_token m.CloseBracket) known.0 kind is_new known.1 known.2 opening refl (whole_this left)),
      );
    })
    (λ t q opening open_room later'.
    let rooms : room ≡ suc q.room = sym at_room ∙ sym l_room ∙ open_room in
    step_part Whole P reader (λ us. Prim room (new ∷ word ∷ t ∷ us)) (λ us. Prim (suc room) (new ∷ word ∷ t ∷ us)) q (λ a n. and_then (close_mark m.CloseBracket n) (λ _. pure (expression new.line (e.NewArray kind a)))) stop (mark_token m.CloseBracket ∷ [])
    (λ us b w. (expression new.line (e.NewArray kind b), subst (λ r. Primary r (new ∷ word ∷ t ∷ us ++ mark_token m.CloseBracket ∷ []) (expression new.line (e.NewArray kind b))) (sym rooms) (g.array new word t (mark_token m.CloseBracket) known.0 kind is_new known.1 known.2 opening refl w)))
    (λ us b w. (expression new.line (e.NewArray kind b), subst (λ r. Primary (suc r) (new ∷ word ∷ t ∷ us ++ mark_token m.CloseBracket ∷ []) (expression new.line (e.NewArray kind b))) (sym rooms) (g.array new word t (mark_token m.CloseBracket) known.0 kind is_new known.1 known.2 opening refl w)))
    (λ us b n w n_room later''. step_close (λ vs. Prim room (new ∷ word ∷ t ∷ (us ++ vs))) (λ vs. Prim (suc room) (new ∷ word ∷ t ∷ (us ++ vs))) m.CloseBracket n (λ _. pure (expression new.line (e.NewArray kind b))) stop refl
    (record { more = []; holds = (expression new.line (e.NewArray kind b), subst (λ r. Primary (suc r) (new ∷ word ∷ t ∷ us ++ mark_token m.CloseBracket ∷ []) (expression new.line (e.NewArray kind b))) (sym rooms) (g.array new word t (mark_token m.CloseBracket) known.0 kind is_new known.1 known.2 opening refl (lift_whole w))) })
    (λ c x closes x_room done. no_stop (expression new.line (e.NewArray kind b), x) stop done) later'') later') later) read

made_halts : (P : Parser ExprTree) → Reader Whole P → (room : ℕ) (new : Token) (j : Input) (stop : StopCause × Tokens) → IsKeyword k.New new → j.room ≡ room → (kind : Option Kind) → kind_at (next_keyword j.tokens) ≡ kind → made P new.line kind j ≡ Err stop
    → Stop (λ us. Prim room (new ∷ us)) (λ us. Prim (suc room) (new ∷ us)) j.tokens stop
made_halts P reader room new j stop is_new at_room (Some kind) is_kind read = array_halts P reader room new kind j stop is_new at_room is_kind read
made_halts P reader room new j stop is_new at_room None is_kind read = object_halts P room new j stop is_new at_room read

other_halts : (P : Parser ExprTree) → Reader Whole P → (i : Input) (stop : StopCause × Tokens) (paren is_too_wide : Bool) → is_wide (next_form i.tokens) ≡ is_too_wide
    → cond {A = Outcome ExprTree} paren (and_then (open_mark m.OpenParen i) (λ t. parens P t.line)) (cond is_too_wide (Err (too_wide, i.tokens)) (and_then (take_keyword k.New i) (λ t j. made P t.line (kind_at (next_keyword j.tokens)) j))) ≡ Err stop
    → Stop (Prim i.room) (Prim (suc i.room)) i.tokens stop
other_halts P reader i stop true is_too_wide is read = parens_halts P reader i stop read
other_halts P reader i stop false true is read = wide_halts i stop is read
other_halts P reader i stop false false is read =
    step_keyword (Prim i.room) (Prim (suc i.room)) k.New i (λ t j. made P t.line (kind_at (next_keyword j.tokens)) j) stop (record { more = this_token ∷ []; holds = (expression 0 e.This, primary_this (suc i.room)) })
    (λ t j known j_room later. made_halts P reader i.room t j stop known j_room (kind_at (next_keyword j.tokens)) refl later) read

primary_reader : (P : Parser ExprTree) → Reader Whole P → Reader Primary (primary P)
primary_reader P reader = record { sound = λ i a j read. primary_came P reader.sound i j a read; halts = λ i stop read. pick i stop (plain_at i.tokens) read }
  where
    single : (i : Input) (stop : StopCause × Tokens) (tree : ExprForm) → Steps (take_any i) (λ t. pure (expression t.line tree)) stop → Stop (Prim i.room) (Prim (suc i.room)) i.tokens stop
    single i stop tree (first is) = short (Prim i.room) (Prim (suc i.room)) i.tokens stop (any_stops i stop is) (record { more = this_token ∷ []; holds = (expression 0 e.This, primary_this (suc i.room)) })
    single i stop tree (second t j is later) = no_stop (expression t.line tree, j) stop later

    pick : (i : Input) (stop : StopCause × Tokens) (plain : Option ExprForm) → primary_of P plain i ≡ Err stop → Stop (Prim i.room) (Prim (suc i.room)) i.tokens stop
    pick i stop (Some tree) read = single i stop tree (err_steps (take_any i) (λ t. pure (expression t.line tree)) stop read)
    pick i stop None read = other_halts P reader i stop (is_mark m.OpenParen (next_mark i.tokens)) (is_wide (next_form i.tokens)) refl read

postfix_halts : (P : Parser ExprTree) → Reader Whole P → (n : ℕ) (i : Input) (stop : StopCause × Tokens) → postfix P n i ≡ Err stop → Stop (PostFrom i.room []) (PostFrom (suc i.room) []) i.tokens stop
postfix_halts P reader n i stop read = step_part Primary (primary P) (primary_reader P reader) (PostFrom i.room []) (PostFrom (suc i.room) []) i (suffixes P n) stop []
    (λ ts a d. (a, i.room, subst (λ z. Postfix i.room i.room z a) (sym (append-nil ts)) (g.primary d))) (λ ts a d. (a, suc i.room, subst (λ z. Postfix (suc i.room) (suc i.room) z a) (sym (append-nil ts)) (g.primary d)))
    (λ ts a j d j_room later. suffixes_halts P reader n i.room ts a j stop (subst (λ r. Postfix i.room r ts a) (sym j_room) (g.primary d)) later) read

-- ---- signs

sign_opens : (mark : Mark) (o : Op) → g.sign_of mark ≡ Some o → opens mark ≡ true
sign_opens m.Minus o is = refl
sign_opens m.Bang o is = refl
sign_opens m.OpenBrace o is = refl
sign_opens m.OpenParen o is = refl
sign_opens m.OpenBracket o is = refl
sign_opens m.Dot o is = refl
sign_opens m.CloseBrace o is = absurd (none-some o is)
sign_opens m.CloseParen o is = absurd (none-some o is)
sign_opens m.CloseBracket o is = absurd (none-some o is)
sign_opens m.Semicolon o is = absurd (none-some o is)
sign_opens m.Comma o is = absurd (none-some o is)
sign_opens m.Assign o is = absurd (none-some o is)
sign_opens mark o is = refl

operator_opens : (mark : Mark) (p : ℕ × Op) → g.operator_of mark ≡ Some p → opens mark ≡ true
operator_opens m.CloseBrace p is = absurd (none-some p is)
operator_opens m.CloseParen p is = absurd (none-some p is)
operator_opens m.CloseBracket p is = absurd (none-some p is)
operator_opens m.Semicolon p is = absurd (none-some p is)
operator_opens m.Comma p is = absurd (none-some p is)
operator_opens m.Assign p is = absurd (none-some p is)
operator_opens mark p is = refl

abbrev UnAt : ℕ → Tokens → Type 0
UnAt room ts = (a : ExprTree) × (left : ℕ) × Unary room left ts a

-- where a reader of such expressions stops
abbrev HaltsAt : (ℕ → Tokens → Type 0) → Parser ExprTree → Type 0
HaltsAt F P = (i : Input) (stop : StopCause × Tokens) → P i ≡ Err stop → Stop (F i.room) (F (suc i.room)) i.tokens stop

un_this : (room : ℕ) → UnAt room (this_token ∷ [])
un_this room = (expression 0 e.This, room, unary_this room)

signed_halts : (P : Parser ExprTree) (o : Op) (operand : Parser ExprTree) → HaltsAt UnAt operand → (i : Input) (stop : StopCause × Tokens) → sign_at (next_mark i.tokens) ≡ Some o → signed P o operand i ≡ Err stop → Stop (UnAt i.room) (UnAt (suc i.room)) i.tokens stop
signed_halts P o operand halts i stop known read =
    step_enter (UnAt i.room) (UnAt (suc i.room)) (SignMark o) i.tokens i.room (λ t l. and_then (operand l) (λ a q. and_then (leave q) (λ _. pure (expression t.line (e.Unary o a))))) stop
    (λ none. none-some o (ap (λ z. sign_at (next_mark z)) (sym none) ∙ known)) (λ t rest same. sign_mark o t t.form refl (ap (λ z. sign_at (next_mark z)) (sym same) ∙ known)) (λ t sign. (sign.0, sign.1, sign_opens sign.0 o sign.2))
    (λ t sign. record { more = this_token ∷ []; holds = (expression t.line (e.Unary o (expression 0 e.This)), suc i.room, g.signed t sign.0 o sign.1 sign.2 (unary_this i.room)) })
    (λ t left sign room. record { more = this_token ∷ []; holds = (expression t.line (e.Unary o (expression 0 e.This)), suc left, subst (λ r. Unary r (suc left) (t ∷ this_token ∷ []) (expression t.line (e.Unary o (expression 0 e.This)))) (sym room) (g.signed t sign.0 o sign.1 sign.2 (unary_this left))) })
    (λ t rest left sign room later. inner t rest left sign room (err_steps (operand (at rest left)) (λ a q. and_then (leave q) (λ _. pure (expression t.line (e.Unary o a)))) stop later)) read
  where
    inner : (t : Token) (rest : Tokens) (left : ℕ) → SignMark o t → i.room ≡ suc left → Steps (operand (at rest left)) (λ a q. and_then (leave q) (λ _. pure (expression t.line (e.Unary o a)))) stop → Stop (λ ts. UnAt i.room (t ∷ ts)) (λ ts. UnAt (suc i.room) (t ∷ ts)) rest stop
    inner t rest left sign room (first is) = within_form (UnAt left) (UnAt (suc left)) (λ ts. UnAt i.room (t ∷ ts)) (λ ts. UnAt (suc i.room) (t ∷ ts)) rest stop
        (λ ts d. (expression t.line (e.Unary o d.0), suc d.1, subst (λ r. Unary r (suc d.1) (t ∷ ts) (expression t.line (e.Unary o d.0))) (sym room) (g.signed t sign.0 o sign.1 sign.2 d.2)))
        (λ ts d. (expression t.line (e.Unary o d.0), suc d.1, subst (λ r. Unary (suc r) (suc d.1) (t ∷ ts) (expression t.line (e.Unary o d.0))) (sym room) (g.signed t sign.0 o sign.1 sign.2 d.2))) (halts (at rest left) stop is)
    inner t rest left sign room (second a q is later) = no_stop (expression t.line (e.Unary o a), at q.tokens (suc q.room)) stop later

unary_pick : (P : Parser ExprTree) → Reader Whole P → (n : ℕ) (operand : Parser ExprTree) → HaltsAt UnAt operand → (i : Input) (stop : StopCause × Tokens) (o : Option Op) → sign_at (next_mark i.tokens) ≡ o → unary_of P o operand (postfix P n) i ≡ Err stop → Stop (UnAt i.room) (UnAt (suc i.room)) i.tokens stop
unary_pick P reader n operand halts i stop (Some o) known read = signed_halts P o operand halts i stop known read
unary_pick P reader n operand halts i stop None known read = within_form (PostFrom i.room []) (PostFrom (suc i.room) []) (UnAt i.room) (UnAt (suc i.room)) i.tokens stop (λ ts d. (d.0, d.1, g.plain d.2)) (λ ts d. (d.0, d.1, g.plain d.2)) (postfix_halts P reader n i stop read)

unary_halts : (P : Parser ExprTree) → Reader Whole P → (depth n : ℕ) → HaltsAt UnAt (unary P depth n)
unary_halts P reader zero n i stop read = unary_pick P reader n refuse (λ i stop read. short (UnAt i.room) (UnAt (suc i.room)) i.tokens stop (sym (stop_is (unexpected, i.tokens) stop read)) (record { more = this_token ∷ []; holds = un_this (suc i.room) })) i stop (sign_at (next_mark i.tokens)) refl read
unary_halts P reader (suc depth) n i stop read = unary_pick P reader n (unary P depth n) (unary_halts P reader depth n) i stop (sign_at (next_mark i.tokens)) refl read

-- ---- operators

abbrev RankFrom : ℕ → ℕ → Tokens → Tokens → Type 0
RankFrom rank room before us = (a : ExprTree) × (left : ℕ) × Binary rank room left (before ++ us) a

abbrev RankAt : ℕ → ℕ → Tokens → Type 0
RankAt rank room ts = (a : ExprTree) × (left : ℕ) × Binary rank room left ts a

-- where reading more operations stops
abbrev MoreHalts : ℕ → (ExprTree → Parser ExprTree) → Type 0
MoreHalts rank more = (room : ℕ) (before : Tokens) (a : ExprTree) (i : Input) (stop : StopCause × Tokens) → Binary (suc rank) room i.room before a → more a i ≡ Err stop → Stop (RankFrom (suc rank) room before) (RankFrom (suc rank) (suc room) before) i.tokens stop

operation_halts : (rank : ℕ) (o : Op) (operand : Parser ExprTree) (more : ExprTree → Parser ExprTree) → SoundLeaves (Binary rank) operand → HaltsAt (RankAt rank) operand → MoreHalts rank more
    → (room : ℕ) (before : Tokens) (a : ExprTree) (i : Input) (stop : StopCause × Tokens) → Binary (suc rank) room i.room before a → of_rank rank (operator_at (next_mark i.tokens)) ≡ Some o → operation_of (Some o) operand a more i ≡ Err stop
    → Stop (RankFrom (suc rank) room before) (RankFrom (suc rank) (suc room) before) i.tokens stop
operation_halts rank o operand more sound halts more_halts room before a i stop d known read =
    step_enter (RankFrom (suc rank) room before) (RankFrom (suc rank) (suc room) before) (OperatorMark rank o) i.tokens i.room (λ _ l. and_then (operand l) (λ b. more (expression (line_of a) (e.Binary o a b)))) stop
    (λ none. none-some o (ap (λ z. of_rank rank (operator_at (next_mark z))) (sym none) ∙ known)) (λ t rest same. operator_mark rank o t t.form refl (ap (λ z. of_rank rank (operator_at (next_mark z))) (sym same) ∙ known)) (λ t mark. (mark.0, mark.1, operator_opens mark.0 (rank, o) mark.2))
    (λ t mark. record { more = this_token ∷ []; holds = (expression (line_of a) (e.Binary o a (expression 0 e.This)), i.room, g.operation t mark.0 o mark.1 mark.2 (lift_binary d) (raise rank (unary_this i.room))) })
    (λ t left mark at_room. record { more = this_token ∷ []; holds = (expression (line_of a) (e.Binary o a (expression 0 e.This)), left, g.operation t mark.0 o mark.1 mark.2 (subst (λ r. Binary (suc rank) room r before a) at_room d) (raise rank (unary_this left))) })
    (λ t rest left mark at_room later. inner t rest left mark (subst (λ r. Binary (suc rank) room r before a) at_room d) (err_steps (operand (at rest left)) (λ b. more (expression (line_of a) (e.Binary o a b))) stop later)) read
  where
    inner : (t : Token) (rest : Tokens) (left : ℕ) → OperatorMark rank o t → Binary (suc rank) room (suc left) before a → Steps (operand (at rest left)) (λ b. more (expression (line_of a) (e.Binary o a b))) stop
        → Stop (λ us. RankFrom (suc rank) room before (t ∷ us)) (λ us. RankFrom (suc rank) (suc room) before (t ∷ us)) rest stop
    inner t rest left mark here (first is) = within_form (RankAt rank left) (RankAt rank (suc left)) (λ us. RankFrom (suc rank) room before (t ∷ us)) (λ us. RankFrom (suc rank) (suc room) before (t ∷ us)) rest stop
        (λ us w. (expression (line_of a) (e.Binary o a w.0), w.1, g.operation t mark.0 o mark.1 mark.2 here w.2)) (λ us w. (expression (line_of a) (e.Binary o a w.0), w.1, g.operation t mark.0 o mark.1 mark.2 (lift_binary here) w.2)) (halts (at rest left) stop is)
    inner t rest left mark here (second b l is later) =
        let came = sound (at rest left) l b is in
        let whole_one : Binary (suc rank) room l.room (before ++ t ∷ came.tokens) (expression (line_of a) (e.Binary o a b)) = g.operation t mark.0 o mark.1 mark.2 here came.reads in
        subst (λ z. Stop (λ us. RankFrom (suc rank) room before (t ∷ us)) (λ us. RankFrom (suc rank) (suc room) before (t ∷ us)) z stop) (sym came.is)
        (behind (λ us. RankFrom (suc rank) room before (t ∷ us)) (λ us. RankFrom (suc rank) (suc room) before (t ∷ us)) came.tokens l.tokens stop
        (held_here (λ us. RankFrom (suc rank) room before (t ∷ us)) came.tokens (whole_here (λ us. RankFrom (suc rank) room before (t ∷ us)) came.tokens (expression (line_of a) (e.Binary o a b), l.room, whole_one)))
        (within_form (RankFrom (suc rank) room (before ++ t ∷ came.tokens)) (RankFrom (suc rank) (suc room) (before ++ t ∷ came.tokens)) (λ us. RankFrom (suc rank) room before (t ∷ (came.tokens ++ us))) (λ us. RankFrom (suc rank) (suc room) before (t ∷ (came.tokens ++ us))) l.tokens stop
        (λ us w. (w.0, w.1, subst (λ z. Binary (suc rank) room w.1 z w.0) (append_assoc before (t ∷ came.tokens) us) w.2)) (λ us w. (w.0, w.1, subst (λ z. Binary (suc rank) (suc room) w.1 z w.0) (append_assoc before (t ∷ came.tokens) us) w.2))
        (more_halts room (before ++ t ∷ came.tokens) (expression (line_of a) (e.Binary o a b)) l stop whole_one later)))

operation_pick : (rank : ℕ) (operand : Parser ExprTree) (more : ExprTree → Parser ExprTree) → SoundLeaves (Binary rank) operand → HaltsAt (RankAt rank) operand → MoreHalts rank more
    → (room : ℕ) (before : Tokens) (a : ExprTree) (i : Input) (stop : StopCause × Tokens) → Binary (suc rank) room i.room before a → (o : Option Op) → of_rank rank (operator_at (next_mark i.tokens)) ≡ o → operation_of o operand a more i ≡ Err stop
    → Stop (RankFrom (suc rank) room before) (RankFrom (suc rank) (suc room) before) i.tokens stop
operation_pick rank operand more sound halts more_halts room before a i stop d (Some o) known read = operation_halts rank o operand more sound halts more_halts room before a i stop d known read
operation_pick rank operand more sound halts more_halts room before a i stop d None known read = no_stop (a, i) stop read

-- nothing more is read
refuse_halts : (rank : ℕ) → MoreHalts rank (λ b. refuse)
refuse_halts rank room before a i stop d read = short (RankFrom (suc rank) room before) (RankFrom (suc rank) (suc room) before) i.tokens stop (sym (stop_is (unexpected, i.tokens) stop read))
    (record { more = []; holds = (a, suc i.room, subst (λ z. Binary (suc rank) (suc room) (suc i.room) z a) (sym (append-nil before)) (lift_binary d)) })

operations_halts : (rank : ℕ) (operand : Parser ExprTree) → SoundLeaves (Binary rank) operand → HaltsAt (RankAt rank) operand → (count : ℕ) → MoreHalts rank (operations operand rank count)
operations_halts rank operand sound halts zero room before a i stop d read = operation_pick rank operand (λ b. refuse) sound halts (refuse_halts rank) room before a i stop d (of_rank rank (operator_at (next_mark i.tokens))) refl read
operations_halts rank operand sound halts (suc count) room before a i stop d read =
    operation_pick rank operand (operations operand rank count) sound halts (operations_halts rank operand sound halts count) room before a i stop d (of_rank rank (operator_at (next_mark i.tokens))) refl read

climb_halts : (operand : Parser ExprTree) (n : ℕ) → SoundLeaves Unary operand → HaltsAt UnAt operand → (rank : ℕ) → HaltsAt (RankAt rank) (climb operand n rank)
climb_halts operand n sound halts zero i stop read = within_form (UnAt i.room) (UnAt (suc i.room)) (RankAt zero i.room) (RankAt zero (suc i.room)) i.tokens stop (λ ts d. (d.0, d.1, g.operand d.2)) (λ ts d. (d.0, d.1, g.operand d.2)) (halts i stop read)
climb_halts operand n sound halts (suc rank) i stop read = pick (climb_halts operand n sound halts rank) (err_steps (climb operand n rank i) (operations (climb operand n rank) rank n) stop read)
  where
    pick : HaltsAt (RankAt rank) (climb operand n rank) → Steps (climb operand n rank i) (operations (climb operand n rank) rank n) stop → Stop (RankAt (suc rank) i.room) (RankAt (suc rank) (suc i.room)) i.tokens stop
    pick inner (first is) = within_form (RankAt rank i.room) (RankAt rank (suc i.room)) (RankAt (suc rank) i.room) (RankAt (suc rank) (suc i.room)) i.tokens stop (λ ts d. (d.0, d.1, g.tighter d.2)) (λ ts d. (d.0, d.1, g.tighter d.2)) (inner i stop is)
    pick inner (second a j is later) =
        let came = climb_came operand n rank sound i j a is in
        subst (λ z. Stop (RankAt (suc rank) i.room) (RankAt (suc rank) (suc i.room)) z stop) (sym came.is)
        (behind (RankAt (suc rank) i.room) (RankAt (suc rank) (suc i.room)) came.tokens j.tokens stop (held_here (RankAt (suc rank) i.room) came.tokens (whole_here (RankAt (suc rank) i.room) came.tokens (a, j.room, g.tighter came.reads)))
        (operations_halts rank (climb operand n rank) (climb_came operand n rank sound) inner n i.room came.tokens a j stop (g.tighter came.reads) later))

-- a whole expression
restored_stops : (room : ℕ) (o : Outcome ExprTree) (stop : StopCause × Tokens) → restored room o ≡ Err stop → o ≡ Err stop
restored_stops room (Err other) stop read = ap Err (stop_is other stop read)
restored_stops room (Ok p) stop read = absurd (err_is (p.0, at p.1.tokens room) stop (sym read))

whole_halts : (n : ℕ) → HaltsAt (Some_of Whole) (whole n)
whole_halts zero i stop read = short (Some_of Whole i.room) (Some_of Whole (suc i.room)) i.tokens stop (sym (stop_is (unexpected, i.tokens) stop read)) (record { more = this_token ∷ []; holds = (expression 0 e.This, whole_this (suc i.room)) })
whole_halts (suc n) i stop read =
    let deeper : Reader Whole (whole n) = record { sound = whole_came n; halts = whole_halts n } in
    within_form (RankAt top_rank i.room) (RankAt top_rank (suc i.room)) (Some_of Whole i.room) (Some_of Whole (suc i.room)) i.tokens stop (λ ts d. (d.0, g.whole d.2)) (λ ts d. (d.0, g.whole d.2))
    (climb_halts (unary (whole n) n n) n (unary_came (whole n) (whole_came n) n n) (unary_halts (whole n) deeper n n) top_rank i stop (restored_stops i.room (climb (unary (whole n) n n) n top_rank i) stop read))

pub whole_reader : (n : ℕ) → Reader Whole (whole n)
whole_reader n = record { sound = whole_came n; halts = whole_halts n }
