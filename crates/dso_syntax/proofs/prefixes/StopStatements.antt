-- Where readers of statements stop, what was read goes on to a statement.
use Rattle.std.proofs.Common.{◌≡◌, ℕ, zero, suc, Bool, true, false, cond, List, [], ◌∷◌, ◌++◌, length, Option, Some, None, Ok, Err, refl, sym, subst, ap, ◌∙◌, append-nil}
use Rattle.dso_tokens.specs.declared.token.Keyword.{Keyword}
use Rattle.dso_tokens.specs.declared.token.Keyword.TheVariants as k
use Rattle.dso_tokens.specs.declared.token.Mark.TheVariants as m
use Rattle.dso_tokens.specs.declared.token.Form.TheVariants as form
use Rattle.dso_tokens.specs.declared.token.Token.{Token}
use Rattle.dso_syntax.specs.declared.tree.StmtTree.{StmtTree}
use Rattle.dso_syntax.specs.declared.tree.StmtForm.{StmtForm}
use Rattle.dso_syntax.specs.declared.tree.StmtForm.TheVariants as s
use Rattle.dso_syntax.specs.declared.tree.ExprTree.{ExprTree, out-ExprTree}
use Rattle.dso_syntax.specs.declared.tree.ExprForm.{out-ExprForm}
use Rattle.dso_syntax.specs.declared.tree.ExprForm.TheVariants as e
use Rattle.dso_syntax.specs.Grammar.{Tokens, expression, line_of, IsMark, IsKeyword, Whole}
use Rattle.dso_syntax.specs.ProgramGrammar as p
use Rattle.dso_syntax.specs.ProgramGrammar.{statement, is_place, command_of, guarded_of, Parenthesized, Waited, Body, Block, Statement, Conditional}
use Rattle.dso_syntax.specs.ExpressionReader.{Input, StopCause, unexpected, Outcome, Parser, and_then, pure, refuse, is_mark, is_keyword, next_mark, next_keyword, take_any, take_mark, take_keyword, enter, enter_at, leave, close_mark}
use Rattle.dso_syntax.specs.ProgramReader.{parenthesized, until_brace, braced, behind_expression, behind_waited, waited, behind_return, behind_var, behind_then, chain, by_lead, lead_of, one_statement, block}
use Rattle.dso_syntax.proofs.completeness.ReadSteps.{at}
use Rattle.dso_syntax.proofs.soundness.SoundSteps.{form_keyword}
use Rattle.dso_syntax.proofs.soundness.SoundStatements.{Rows, Braces, braces, inside_came, waited_came, until_came, braced_came, rows_of_body, block_of, leads, statement_came, block_came}
use Rattle.dso_syntax.proofs.prefixes.OneLevelMore.{lift_whole, lift_asked, lift_waited, lift_waiting, lift_block, lift_statement, lift_body}
use Rattle.dso_syntax.proofs.prefixes.StopSteps.{Ext, Stop, Steps, first, second, err_steps, any_stops, stop_is, within_form, short, next_is, quiet_token, token_of, some_name, step_mark, step_close, step_keyword, step_seen, step_name, step_open, step_part, Some_of, Reader, no_stop}
use Rattle.dso_syntax.proofs.prefixes.StopExpressions.{this_token, name_token, mark_token, whole_this}

-- ---- rows in braces

-- what is of a form with some room is so with a level more
abbrev pub Lifts : {A : Type 0} → (ℕ → Tokens → A → Type 0) → Type 0
Lifts {A} R = (room : ℕ) (ts : Tokens) (a : A) → R room ts a → R (suc room) ts a

until_reader : {A : Type 0} (R : ℕ → Tokens → A → Type 0) (L : ℕ → Tokens → List A → Type 0) → Rows R L → Lifts R → (item : Parser A) → Reader R item → (count : ℕ) → Reader L (until_brace item count)
until_reader {A} R L rows lift item reader zero = record { sound = until_came R L rows item reader.sound zero; halts = λ i stop read. pick i stop (is_mark m.CloseBrace (next_mark i.tokens)) read }
  where
    pick : (i : Input) (stop : StopCause × Tokens) (test : Bool) → cond {A = Outcome (List A)} test (Ok ([], i)) (refuse i) ≡ Err stop → Stop (Some_of L i.room) (Some_of L (suc i.room)) i.tokens stop
    pick i stop true read = no_stop ([], i) stop read
    pick i stop false read = short (Some_of L i.room) (Some_of L (suc i.room)) i.tokens stop (sym (stop_is (unexpected, i.tokens) stop read)) (record { more = []; holds = ([], rows.none (suc i.room)) })
until_reader {A} R L rows lift item reader (suc count) = record { sound = until_came R L rows item reader.sound (suc count); halts = λ i stop read. pick (until_reader R L rows lift item reader count) i stop (is_mark m.CloseBrace (next_mark i.tokens)) read }
  where
    pick : Reader L (until_brace item count) → (i : Input) (stop : StopCause × Tokens) (test : Bool) → cond {A = Outcome (List A)} test (Ok ([], i)) (and_then (item i) (λ a j. and_then (until_brace item count j) (λ all. pure (a ∷ all)))) ≡ Err stop
        → Stop (Some_of L i.room) (Some_of L (suc i.room)) i.tokens stop
    pick rest i stop true read = no_stop ([], i) stop read
    pick rest i stop false read = step_part R item reader (Some_of L i.room) (Some_of L (suc i.room)) i (λ a j. and_then (until_brace item count j) (λ all. pure (a ∷ all))) stop []
        (λ ts a d. (a ∷ [], rows.next i.room ts [] a [] d (rows.none i.room))) (λ ts a d. (a ∷ [], rows.next (suc i.room) ts [] a [] d (rows.none (suc i.room))))
        (λ ts a j d j_room later. step_part L (until_brace item count) rest (λ us. Some_of L i.room (ts ++ us)) (λ us. Some_of L (suc i.room) (ts ++ us)) j (λ all. pure (a ∷ all)) stop []
        (λ us all w. (a ∷ all, rows.next i.room ts (us ++ []) a all d (subst (λ z. L i.room z all) (sym (append-nil us)) (subst (λ r. L r us all) j_room w))))
        (λ us all w. (a ∷ all, rows.next (suc i.room) ts (us ++ []) a all (lift i.room ts a d) (subst (λ z. L (suc i.room) z all) (sym (append-nil us)) (subst (λ r. L (suc r) us all) j_room w))))
        (λ us all q w q_room done. no_stop (a ∷ all, q) stop done) later) read

pub braced_reader : {A : Type 0} (R : ℕ → Tokens → A → Type 0) (L : ℕ → Tokens → List A → Type 0) → Rows R L → Lifts R → Lifts L → (item : Parser A) → Reader R item → Reader (Braces L) (braced item)
braced_reader {A} R L rows lift lift_rows item reader = record {
  sound = braced_came R L rows item reader.sound;
  halts = λ i stop read. step_open (Some_of (Braces L) i.room) (Some_of (Braces L) (suc i.room)) m.OpenBrace i (λ _ j. and_then (until_brace item (length j.tokens) j) (λ all l. and_then (close_mark m.CloseBrace l) (λ _. pure all))) stop refl
      (λ t known. record { more = mark_token m.CloseBrace ∷ []; holds = ([], braces t (mark_token m.CloseBrace) known refl (rows.none i.room)) })
      (λ t left known room. record { more = mark_token m.CloseBrace ∷ []; holds = ([], subst (λ r. Braces L r (t ∷ mark_token m.CloseBrace ∷ []) []) (sym room) (braces t (mark_token m.CloseBrace) known refl (rows.none left))) })
      (λ t j known room later. step_part L (until_brace item (length j.tokens)) (until_reader R L rows lift item reader (length j.tokens)) (λ us. Some_of (Braces L) i.room (t ∷ us)) (λ us. Some_of (Braces L) (suc i.room) (t ∷ us)) j (λ all l. and_then (close_mark m.CloseBrace l) (λ _. pure all)) stop (mark_token m.CloseBrace ∷ [])
      (λ us all w. (all, subst (λ r. Braces L r (t ∷ us ++ mark_token m.CloseBrace ∷ []) all) (sym room) (braces t (mark_token m.CloseBrace) known refl w)))
      (λ us all w. (all, subst (λ r. Braces L (suc r) (t ∷ us ++ mark_token m.CloseBrace ∷ []) all) (sym room) (braces t (mark_token m.CloseBrace) known refl w)))
      (λ us all l w l_room later'. step_close (λ vs. Some_of (Braces L) i.room (t ∷ (us ++ vs))) (λ vs. Some_of (Braces L) (suc i.room) (t ∷ (us ++ vs))) m.CloseBrace l (λ _. pure all) stop refl
      (record { more = []; holds = (all, subst (λ r. Braces L (suc r) (t ∷ us ++ mark_token m.CloseBrace ∷ []) all) (sym room) (braces t (mark_token m.CloseBrace) known refl (lift_rows j.room us all w))) })
      (λ c x closes x_room done. no_stop (all, x) stop done) later') later) read;
}

-- ---- parentheses

-- what is in parentheses begins with the word `this`, in the shortest case, which makes this of it
inside_reader : {A : Type 0} (R : ℕ → Tokens → A → Type 0) (this : A) → Lifts R → ((room : ℕ) → R room (this_token ∷ []) this) → (P : Parser A) → Reader R P → Reader (Parenthesized R) (parenthesized P)
inside_reader {A} R this lift least P reader = record {
  sound = inside_came R P reader.sound;
  halts = λ i stop read. step_open (Some_of (Parenthesized R) i.room) (Some_of (Parenthesized R) (suc i.room)) m.OpenParen i (λ _ j. and_then (P j) (λ a l. and_then (close_mark m.CloseParen l) (λ _. pure a))) stop refl
      (λ t known. record { more = this_token ∷ mark_token m.CloseParen ∷ []; holds = (this, p.parenthesized t (mark_token m.CloseParen) known refl (least i.room)) })
      (λ t left known room. record { more = this_token ∷ mark_token m.CloseParen ∷ []; holds = (this, subst (λ r. Parenthesized R r (t ∷ this_token ∷ mark_token m.CloseParen ∷ []) this) (sym room) (p.parenthesized t (mark_token m.CloseParen) known refl (least left))) })
      (λ t j known room later. step_part R P reader (λ us. Some_of (Parenthesized R) i.room (t ∷ us)) (λ us. Some_of (Parenthesized R) (suc i.room) (t ∷ us)) j (λ a l. and_then (close_mark m.CloseParen l) (λ _. pure a)) stop (mark_token m.CloseParen ∷ [])
      (λ us b w. (b, subst (λ r. Parenthesized R r (t ∷ us ++ mark_token m.CloseParen ∷ []) b) (sym room) (p.parenthesized t (mark_token m.CloseParen) known refl w)))
      (λ us b w. (b, subst (λ r. Parenthesized R (suc r) (t ∷ us ++ mark_token m.CloseParen ∷ []) b) (sym room) (p.parenthesized t (mark_token m.CloseParen) known refl w)))
      (λ us b l w l_room later'. step_close (λ vs. Some_of (Parenthesized R) i.room (t ∷ (us ++ vs))) (λ vs. Some_of (Parenthesized R) (suc i.room) (t ∷ (us ++ vs))) m.CloseParen l (λ _. pure b) stop refl
      (record { more = []; holds = (b, subst (λ r. Parenthesized R (suc r) (t ∷ us ++ mark_token m.CloseParen ∷ []) b) (sym room) (p.parenthesized t (mark_token m.CloseParen) known refl (lift j.room us b w))) })
      (λ c x closes x_room done. no_stop (b, x) stop done) later') later) read;
}

asked_reader : (P : Parser ExprTree) → Reader Whole P → Reader (Parenthesized Whole) (parenthesized P)
asked_reader P reader = inside_reader Whole (expression 0 e.This) (λ room ts a d. lift_whole d) whole_this P reader

-- ---- what a `wait` has in its parentheses

abbrev WaitsFrom : ℕ → Tokens → Tokens → Type 0
WaitsFrom room ts us = Some_of Waited room (ts ++ us)

timed_halts : (P : Parser ExprTree) → Reader Whole P → (room : ℕ) (ts : Tokens) (a : ExprTree) (j : Input) (stop : StopCause × Tokens) → Whole room ts a → j.room ≡ room → is_mark m.Comma (next_mark j.tokens) ≡ true
    → and_then (take_any j) (λ _ l. and_then (P l) (λ b. pure (s.TimedWait a b))) ≡ Err stop → Stop (WaitsFrom room ts) (WaitsFrom (suc room) ts) j.tokens stop
timed_halts P reader room ts a j stop d at_room is read = step_seen (WaitsFrom room ts) (WaitsFrom (suc room) ts) (IsMark m.Comma) j (λ _ l. and_then (P l) (λ b. pure (s.TimedWait a b))) stop
    (next_is m.Comma j.tokens is) (λ t known. quiet_token t (form.Mark m.Comma) known refl)
    (record { more = mark_token m.Comma ∷ this_token ∷ []; holds = (s.TimedWait a (expression 0 e.This), p.timed (mark_token m.Comma) refl (lift_whole d) (whole_this (suc room))) })
    (λ t l known same_room later. step_part Whole P reader (λ us. WaitsFrom room ts (t ∷ us)) (λ us. WaitsFrom (suc room) ts (t ∷ us)) l (λ b. pure (s.TimedWait a b)) stop []
    (λ us b w. subst (λ z. WaitsFrom room ts (t ∷ z)) (sym (append-nil us)) (s.TimedWait a b, p.timed t known d (subst (λ r. Whole r us b) (same_room ∙ at_room) w)))
    (λ us b w. subst (λ z. WaitsFrom (suc room) ts (t ∷ z)) (sym (append-nil us)) (s.TimedWait a b, p.timed t known (lift_whole d) (subst (λ r. Whole (suc r) us b) (same_room ∙ at_room) w)))
    (λ us b q w q_room done. no_stop (s.TimedWait a b, q) stop done) later) read

waited_halts : (P : Parser ExprTree) → Reader Whole P → (room : ℕ) (ts : Tokens) (a : ExprTree) (j : Input) (stop : StopCause × Tokens) → Whole room ts a → j.room ≡ room → (test : Bool) → is_mark m.Comma (next_mark j.tokens) ≡ test
    → cond {A = Outcome StmtForm} test (and_then (take_any j) (λ _ l. and_then (P l) (λ b. pure (s.TimedWait a b)))) (Ok (s.Wait a, j)) ≡ Err stop → Stop (WaitsFrom room ts) (WaitsFrom (suc room) ts) j.tokens stop
waited_halts P reader room ts a j stop d at_room true is read = timed_halts P reader room ts a j stop d at_room is read
waited_halts P reader room ts a j stop d at_room false is read = no_stop (s.Wait a, j) stop read

waited_reader : (P : Parser ExprTree) → Reader Whole P → Reader Waited (waited P)
waited_reader P reader = record {
  sound = waited_came P reader.sound;
  halts = λ i stop read. step_part Whole P reader (Some_of Waited i.room) (Some_of Waited (suc i.room)) i (behind_waited P) stop []
      (λ ts a d. subst (Some_of Waited i.room) (sym (append-nil ts)) (s.Wait a, p.untimed d)) (λ ts a d. subst (Some_of Waited (suc i.room)) (sym (append-nil ts)) (s.Wait a, p.untimed d))
      (λ ts a j d same_room later. waited_halts P reader i.room ts a j stop d same_room (is_mark m.Comma (next_mark j.tokens)) refl later) read;
}

waiting_reader : (P : Parser ExprTree) → Reader Whole P → Reader (Parenthesized Waited) (parenthesized (waited P))
waiting_reader P reader = inside_reader Waited (s.Wait (expression 0 e.This)) (λ room ts form d. lift_waited d) (λ room. p.untimed (whole_this room)) (waited P) (waited_reader P reader)

-- ---- statements

abbrev Stm : ℕ → Tokens → Type 0
Stm = Some_of Statement

-- the semicolon at the end of a statement
ends_halts : (F G : Tokens → Type 0) (a : StmtTree) (l : Input) (stop : StopCause × Tokens) → G (mark_token m.Semicolon ∷ []) → and_then (take_mark m.Semicolon l) (λ _. pure a) ≡ Err stop → Stop F G l.tokens stop
ends_halts F G a l stop d read = step_mark F G m.Semicolon l (λ _. pure a) stop refl (record { more = []; holds = d }) (λ t j known room done. no_stop (a, j) stop done) read

var_halts : (P : Parser ExprTree) → Reader Whole P → (room : ℕ) (word : Token) (j : Input) (stop : StopCause × Tokens) → IsKeyword k.Var word → j.room ≡ room → behind_var P word.line j ≡ Err stop → Stop (λ us. Stm room (word ∷ us)) (λ us. Stm (suc room) (word ∷ us)) j.tokens stop
var_halts P reader room word j stop is_var at_room read =
    step_name (λ us. Stm room (word ∷ us)) (λ us. Stm (suc room) (word ∷ us)) j (λ name j. and_then (take_mark m.Assign j) (λ _ l. and_then (P l) (λ a q. and_then (take_mark m.Semicolon q) (λ _. pure (statement word.line (s.Var name a)))))) stop
    (record { more = name_token ∷ mark_token m.Assign ∷ this_token ∷ mark_token m.Semicolon ∷ []; holds = (statement word.line (s.Var some_name (expression 0 e.This)), p.variable word name_token (mark_token m.Assign) (mark_token m.Semicolon) some_name is_var (refl, refl) refl refl (whole_this (suc room))) })
    (λ named name l is_name l_room later. step_mark (λ us. Stm room (word ∷ named ∷ us)) (λ us. Stm (suc room) (word ∷ named ∷ us)) m.Assign l (λ _ l. and_then (P l) (λ a q. and_then (take_mark m.Semicolon q) (λ _. pure (statement word.line (s.Var name a))))) stop refl
    (record { more = this_token ∷ mark_token m.Semicolon ∷ []; holds = (statement word.line (s.Var name (expression 0 e.This)), p.variable word named (mark_token m.Assign) (mark_token m.Semicolon) name is_var is_name refl refl (whole_this (suc room))) })
    (λ t q known q_room later'.
    let same : q.room ≡ room = q_room ∙ l_room ∙ at_room in
    step_part Whole P reader (λ us. Stm room (word ∷ named ∷ t ∷ us)) (λ us. Stm (suc room) (word ∷ named ∷ t ∷ us)) q (λ a q. and_then (take_mark m.Semicolon q) (λ _. pure (statement word.line (s.Var name a)))) stop (mark_token m.Semicolon ∷ [])
    (λ us b w. (statement word.line (s.Var name b), p.variable word named t (mark_token m.Semicolon) name is_var is_name known refl (subst (λ r. Whole r us b) same w)))
    (λ us b w. (statement word.line (s.Var name b), p.variable word named t (mark_token m.Semicolon) name is_var is_name known refl (subst (λ r. Whole (suc r) us b) same w)))
    (λ us b x w x_room later''. ends_halts (λ vs. Stm room (word ∷ named ∷ t ∷ (us ++ vs))) (λ vs. Stm (suc room) (word ∷ named ∷ t ∷ (us ++ vs))) (statement word.line (s.Var name b)) x stop
    (statement word.line (s.Var name b), p.variable word named t (mark_token m.Semicolon) name is_var is_name known refl (lift_whole (subst (λ r. Whole r us b) same w))) later'') later') later) read

-- an expression that stands first, and what follows it
expression_halts : (P : Parser ExprTree) → Reader Whole P → (i : Input) (stop : StopCause × Tokens) → and_then (P i) (behind_expression P) ≡ Err stop → Stop (Stm i.room) (Stm (suc i.room)) i.tokens stop
expression_halts P reader i stop read = step_part Whole P reader (Stm i.room) (Stm (suc i.room)) i (behind_expression P) stop (mark_token m.Semicolon ∷ [])
    (λ ts a d. (statement (line_of a) (s.Eval a), p.evaluated (mark_token m.Semicolon) refl d)) (λ ts a d. (statement (line_of a) (s.Eval a), p.evaluated (mark_token m.Semicolon) refl d))
    (λ ts a j d j_room later. pick ts a j d j_room (is_mark m.Assign (next_mark j.tokens)) (is_place (out-ExprForm (out-ExprTree a).form)) refl refl later) read
  where
    assigned : (ts : Tokens) (a : ExprTree) (j : Input) → Whole i.room ts a → j.room ≡ i.room → is_mark m.Assign (next_mark j.tokens) ≡ true → is_place (out-ExprForm (out-ExprTree a).form) ≡ true
        → and_then (take_any j) (λ _ l. and_then (P l) (λ b q. and_then (take_mark m.Semicolon q) (λ _. pure (statement (line_of a) (s.Assign a b))))) ≡ Err stop → Stop (λ us. Stm i.room (ts ++ us)) (λ us. Stm (suc i.room) (ts ++ us)) j.tokens stop
    assigned ts a j d j_room is place read = step_seen (λ us. Stm i.room (ts ++ us)) (λ us. Stm (suc i.room) (ts ++ us)) (IsMark m.Assign) j (λ _ l. and_then (P l) (λ b q. and_then (take_mark m.Semicolon q) (λ _. pure (statement (line_of a) (s.Assign a b))))) stop
        (next_is m.Assign j.tokens is) (λ t known. quiet_token t (form.Mark m.Assign) known refl) (record { more = mark_token m.Semicolon ∷ []; holds = (statement (line_of a) (s.Eval a), p.evaluated (mark_token m.Semicolon) refl (lift_whole d)) })
        (λ t l known l_room later. step_part Whole P reader (λ us. Stm i.room (ts ++ t ∷ us)) (λ us. Stm (suc i.room) (ts ++ t ∷ us)) l (λ b q. and_then (take_mark m.Semicolon q) (λ _. pure (statement (line_of a) (s.Assign a b)))) stop (mark_token m.Semicolon ∷ [])
        (λ us b w. (statement (line_of a) (s.Assign a b), p.assigned t (mark_token m.Semicolon) known refl d place (subst (λ r. Whole r us b) (l_room ∙ j_room) w)))
        (λ us b w. (statement (line_of a) (s.Assign a b), p.assigned t (mark_token m.Semicolon) known refl (lift_whole d) place (subst (λ r. Whole (suc r) us b) (l_room ∙ j_room) w)))
        (λ us b x w x_room done. ends_halts (λ vs. Stm i.room (ts ++ t ∷ (us ++ vs))) (λ vs. Stm (suc i.room) (ts ++ t ∷ (us ++ vs))) (statement (line_of a) (s.Assign a b)) x stop
        (statement (line_of a) (s.Assign a b), p.assigned t (mark_token m.Semicolon) known refl (lift_whole d) place (lift_whole (subst (λ r. Whole r us b) (l_room ∙ j_room) w))) done) later) read

    pick : (ts : Tokens) (a : ExprTree) (j : Input) → Whole i.room ts a → j.room ≡ i.room → (equals place : Bool) → is_mark m.Assign (next_mark j.tokens) ≡ equals → is_place (out-ExprForm (out-ExprTree a).form) ≡ place
        → cond equals (cond place (and_then (take_any j) (λ _ l. and_then (P l) (λ b q. and_then (take_mark m.Semicolon q) (λ _. pure (statement (line_of a) (s.Assign a b)))))) (refuse j)) (and_then (take_mark m.Semicolon j) (λ _. pure (statement (line_of a) (s.Eval a)))) ≡ Err stop
        → Stop (λ us. Stm i.room (ts ++ us)) (λ us. Stm (suc i.room) (ts ++ us)) j.tokens stop
    pick ts a j d j_room true true is place read = assigned ts a j d j_room is place read
    pick ts a j d j_room true false is place read = short (λ us. Stm i.room (ts ++ us)) (λ us. Stm (suc i.room) (ts ++ us)) j.tokens stop (sym (stop_is (unexpected, j.tokens) stop read))
        (record { more = mark_token m.Semicolon ∷ []; holds = (statement (line_of a) (s.Eval a), p.evaluated (mark_token m.Semicolon) refl (lift_whole d)) })
    pick ts a j d j_room false place is is_place read = ends_halts (λ us. Stm i.room (ts ++ us)) (λ us. Stm (suc i.room) (ts ++ us)) (statement (line_of a) (s.Eval a)) j stop (statement (line_of a) (s.Eval a), p.evaluated (mark_token m.Semicolon) refl (lift_whole d)) read

-- behind `return`
return_halts : (P : Parser ExprTree) → Reader Whole P → (room : ℕ) (word : Token) (j : Input) (stop : StopCause × Tokens) → IsKeyword k.Return word → j.room ≡ room → (test : Bool)
    → cond test (and_then (take_any j) (λ _. pure (statement word.line (s.Return None)))) (and_then (P j) (λ a q. and_then (take_mark m.Semicolon q) (λ _. pure (statement word.line (s.Return (Some a)))))) ≡ Err stop
    → Stop (λ us. Stm room (word ∷ us)) (λ us. Stm (suc room) (word ∷ us)) j.tokens stop
return_halts P reader room word j stop is_return at_room true read = pick (err_steps (take_any j) (λ _. pure (statement word.line (s.Return None))) stop read)
  where
    pick : Steps (take_any j) (λ _. pure (statement word.line (s.Return None))) stop → Stop (λ us. Stm room (word ∷ us)) (λ us. Stm (suc room) (word ∷ us)) j.tokens stop
    pick (first is) = short (λ us. Stm room (word ∷ us)) (λ us. Stm (suc room) (word ∷ us)) j.tokens stop (any_stops j stop is) (record { more = mark_token m.Semicolon ∷ []; holds = (statement word.line (s.Return None), p.returned word (mark_token m.Semicolon) is_return refl) })
    pick (second t q is later) = no_stop (statement word.line (s.Return None), q) stop later
return_halts P reader room word j stop is_return at_room false read = step_part Whole P reader (λ us. Stm room (word ∷ us)) (λ us. Stm (suc room) (word ∷ us)) j (λ a q. and_then (take_mark m.Semicolon q) (λ _. pure (statement word.line (s.Return (Some a))))) stop (mark_token m.Semicolon ∷ [])
    (λ us b w. (statement word.line (s.Return (Some b)), p.returned_with word (mark_token m.Semicolon) is_return refl (subst (λ r. Whole r us b) at_room w)))
    (λ us b w. (statement word.line (s.Return (Some b)), p.returned_with word (mark_token m.Semicolon) is_return refl (subst (λ r. Whole (suc r) us b) at_room w)))
    (λ us b x w x_room done. ends_halts (λ vs. Stm room (word ∷ (us ++ vs))) (λ vs. Stm (suc room) (word ∷ (us ++ vs))) (statement word.line (s.Return (Some b))) x stop
    (statement word.line (s.Return (Some b)), p.returned_with word (mark_token m.Semicolon) is_return refl (lift_whole (subst (λ r. Whole r us b) at_room w))) done) read

-- behind a test there is room for a block
empty_block : (room : ℕ) (ts : Tokens) (a : ExprTree) → Parenthesized Whole room ts a → Block room (mark_token m.OpenBrace ∷ mark_token m.CloseBrace ∷ []) []
empty_block room ts a (p.parenthesized opening closing opens closes d) = p.block (mark_token m.OpenBrace) (mark_token m.CloseBrace) refl refl p.done

told_halts : (P : Parser ExprTree) → Reader Whole P → (which : Keyword) (made : ExprTree → StmtForm) → command_of which ≡ Some made → (room : ℕ) (word : Token) (j : Input) (stop : StopCause × Tokens) → IsKeyword which word → j.room ≡ room
    → and_then (parenthesized P j) (λ a l. and_then (take_mark m.Semicolon l) (λ _. pure (statement word.line (made a)))) ≡ Err stop → Stop (λ us. Stm room (word ∷ us)) (λ us. Stm (suc room) (word ∷ us)) j.tokens stop
told_halts P reader which made known room word j stop is at_room read = step_part (Parenthesized Whole) (parenthesized P) (asked_reader P reader) (λ us. Stm room (word ∷ us)) (λ us. Stm (suc room) (word ∷ us)) j (λ a l. and_then (take_mark m.Semicolon l) (λ _. pure (statement word.line (made a)))) stop (mark_token m.Semicolon ∷ [])
    (λ us b w. (statement word.line (made b), p.command word (mark_token m.Semicolon) which made is known refl (subst (λ r. Parenthesized Whole r us b) at_room w)))
    (λ us b w. (statement word.line (made b), p.command word (mark_token m.Semicolon) which made is known refl (subst (λ r. Parenthesized Whole (suc r) us b) at_room w)))
    (λ us b x w x_room done. ends_halts (λ vs. Stm room (word ∷ (us ++ vs))) (λ vs. Stm (suc room) (word ∷ (us ++ vs))) (statement word.line (made b)) x stop
    (statement word.line (made b), p.command word (mark_token m.Semicolon) which made is known refl (lift_asked (subst (λ r. Parenthesized Whole r us b) at_room w))) done) read

waiting_halts : (P : Parser ExprTree) → Reader Whole P → (room : ℕ) (word : Token) (j : Input) (stop : StopCause × Tokens) → IsKeyword k.Wait word → j.room ≡ room
    → and_then (parenthesized (waited P) j) (λ form l. and_then (take_mark m.Semicolon l) (λ _. pure (statement word.line form))) ≡ Err stop → Stop (λ us. Stm room (word ∷ us)) (λ us. Stm (suc room) (word ∷ us)) j.tokens stop
waiting_halts P reader room word j stop is at_room read = step_part (Parenthesized Waited) (parenthesized (waited P)) (waiting_reader P reader) (λ us. Stm room (word ∷ us)) (λ us. Stm (suc room) (word ∷ us)) j (λ form l. and_then (take_mark m.Semicolon l) (λ _. pure (statement word.line form))) stop (mark_token m.Semicolon ∷ [])
    (λ us f w. (statement word.line f, p.waiting word (mark_token m.Semicolon) is refl (subst (λ r. Parenthesized Waited r us f) at_room w)))
    (λ us f w. (statement word.line f, p.waiting word (mark_token m.Semicolon) is refl (subst (λ r. Parenthesized Waited (suc r) us f) at_room w)))
    (λ us f x w x_room done. ends_halts (λ vs. Stm room (word ∷ (us ++ vs))) (λ vs. Stm (suc room) (word ∷ (us ++ vs))) (statement word.line f) x stop
    (statement word.line f, p.waiting word (mark_token m.Semicolon) is refl (lift_waiting (subst (λ r. Parenthesized Waited r us f) at_room w))) done) read

guarded_halts : (P : Parser ExprTree) (B : Parser (List StmtTree)) → Reader Whole P → Reader Block B → (which : Keyword) (made : ExprTree → List StmtTree → StmtForm) → guarded_of which ≡ Some made → (room : ℕ) (word : Token) (j : Input) (stop : StopCause × Tokens) → IsKeyword which word → j.room ≡ room
    → and_then (parenthesized P j) (λ a l. and_then (B l) (λ all. pure (statement word.line (made a all)))) ≡ Err stop → Stop (λ us. Stm room (word ∷ us)) (λ us. Stm (suc room) (word ∷ us)) j.tokens stop
guarded_halts P B reader body which made known room word j stop is at_room read = step_part (Parenthesized Whole) (parenthesized P) (asked_reader P reader) (λ us. Stm room (word ∷ us)) (λ us. Stm (suc room) (word ∷ us)) j (λ a l. and_then (B l) (λ all. pure (statement word.line (made a all)))) stop (mark_token m.OpenBrace ∷ mark_token m.CloseBrace ∷ [])
    (λ us b w. let here : Parenthesized Whole room us b = subst (λ r. Parenthesized Whole r us b) at_room w in (statement word.line (made b []), p.guarded word which made is known here (empty_block room us b here)))
    (λ us b w. let here : Parenthesized Whole (suc room) us b = subst (λ r. Parenthesized Whole (suc r) us b) at_room w in (statement word.line (made b []), p.guarded word which made is known here (empty_block (suc room) us b here)))
    (λ us b x w x_room later.
    let here : Parenthesized Whole room us b = subst (λ r. Parenthesized Whole r us b) at_room w in
    step_part Block B body (λ vs. Stm room (word ∷ (us ++ vs))) (λ vs. Stm (suc room) (word ∷ (us ++ vs))) x (λ all. pure (statement word.line (made b all))) stop []
    (λ vs all v. (statement word.line (made b all), p.guarded word which made is known here (subst (λ z. Block room z all) (sym (append-nil vs)) (subst (λ r. Block r vs all) (x_room ∙ at_room) v))))
    (λ vs all v. (statement word.line (made b all), p.guarded word which made is known (lift_asked here) (subst (λ z. Block (suc room) z all) (sym (append-nil vs)) (subst (λ r. Block (suc r) vs all) (x_room ∙ at_room) v))))
    (λ vs all y v y_room done. no_stop (statement word.line (made b all), y) stop done) later) read

-- ---- conditionals

abbrev Cond : ℕ → Tokens → Type 0
Cond = Some_of Conditional

-- an `if` with its test and its block, and what follows them
abbrev IfFrom : ℕ → Token → Tokens → Tokens → Tokens → Type 0
IfFrom room word ts bs us = Cond room (word ∷ ts ++ (bs ++ us))

alone_ext : (room : ℕ) (word : Token) (ts bs : Tokens) (a : ExprTree) (all : List StmtTree) → IsKeyword k.If word → Parenthesized Whole room ts a → Block room bs all → IfFrom room word ts bs []
alone_ext room word ts bs a all is d b = (statement word.line (s.If a all []), subst (λ z. Conditional room (word ∷ ts ++ z) (statement word.line (s.If a all []))) (sym (append-nil bs)) (p.alone word is d b))

block_level : (room : ℕ) (bs : Tokens) (all : List StmtTree) → Block room bs all → (m : ℕ) × (room ≡ suc m)
block_level room bs all (p.block {room = m} opening closing opens closes d) = (m, refl)

chained_halts : (C : Parser StmtTree) → ((i : Input) (stop : StopCause × Tokens) → C i ≡ Err stop → Stop (Cond i.room) (Cond (suc i.room)) i.tokens stop) → (room m : ℕ) (word other : Token) (ts bs : Tokens) (a : ExprTree) (all : List StmtTree) (tokens : Tokens) (stop : StopCause × Tokens)
    → room ≡ suc m → IsKeyword k.If word → IsKeyword k.Else other → Parenthesized Whole room ts a → Block room bs all → and_then (C (at tokens m)) (λ more q. and_then (leave q) (λ _. pure (statement word.line (s.If a all (more ∷ []))))) ≡ Err stop
    → Stop (λ us. IfFrom room word ts bs (other ∷ us)) (λ us. IfFrom (suc room) word ts bs (other ∷ us)) tokens stop
chained_halts C halts room m word other ts bs a all tokens stop at_room is is_else d b read = pick (err_steps (C (at tokens m)) (λ more q. and_then (leave q) (λ _. pure (statement word.line (s.If a all (more ∷ []))))) stop read)
  where
    pick : Steps (C (at tokens m)) (λ more q. and_then (leave q) (λ _. pure (statement word.line (s.If a all (more ∷ []))))) stop → Stop (λ us. IfFrom room word ts bs (other ∷ us)) (λ us. IfFrom (suc room) word ts bs (other ∷ us)) tokens stop
    pick (first same) = within_form (Cond m) (Cond (suc m)) (λ us. IfFrom room word ts bs (other ∷ us)) (λ us. IfFrom (suc room) word ts bs (other ∷ us)) tokens stop
        (λ us w. (statement word.line (s.If a all (w.0 ∷ [])), subst (λ r. Conditional r (word ∷ ts ++ (bs ++ other ∷ us)) (statement word.line (s.If a all (w.0 ∷ [])))) (sym at_room) (p.chained word other is is_else (subst (λ r. Parenthesized Whole r ts a) at_room d) (subst (λ r. Block r bs all) at_room b) w.1)))
        (λ us w. (statement word.line (s.If a all (w.0 ∷ [])), subst (λ r. Conditional (suc r) (word ∷ ts ++ (bs ++ other ∷ us)) (statement word.line (s.If a all (w.0 ∷ [])))) (sym at_room) (p.chained word other is is_else (lift_asked (subst (λ r. Parenthesized Whole r ts a) at_room d)) (lift_block (subst (λ r. Block r bs all) at_room b)) w.1)))
        (halts (at tokens m) stop same)
    pick (second more q same later) = no_stop (statement word.line (s.If a all (more ∷ [])), at q.tokens (suc q.room)) stop later

else_halts : (C : Parser StmtTree) (B : Parser (List StmtTree)) → ((i : Input) (stop : StopCause × Tokens) → C i ≡ Err stop → Stop (Cond i.room) (Cond (suc i.room)) i.tokens stop) → Reader Block B → (room : ℕ) (word other : Token) (ts bs : Tokens) (a : ExprTree) (all : List StmtTree) (j : Input) (stop : StopCause × Tokens)
    → IsKeyword k.If word → IsKeyword k.Else other → Parenthesized Whole room ts a → Block room bs all → j.room ≡ room → (test : Bool)
    → cond test (and_then (enter j) (λ _ l. and_then (C l) (λ more q. and_then (leave q) (λ _. pure (statement word.line (s.If a all (more ∷ []))))))) (and_then (B j) (λ others. pure (statement word.line (s.If a all others)))) ≡ Err stop
    → Stop (λ us. IfFrom room word ts bs (other ∷ us)) (λ us. IfFrom (suc room) word ts bs (other ∷ us)) j.tokens stop
else_halts C B halts body room word other ts bs a all j stop is is_else d b at_room true read =
    let level = block_level room bs all b in
    chained_halts C halts room level.0 word other ts bs a all j.tokens stop level.1 is is_else d b
    (subst (λ r. and_then (enter_at j.tokens r) (λ _ l. and_then (C l) (λ more q. and_then (leave q) (λ _. pure (statement word.line (s.If a all (more ∷ [])))))) ≡ Err stop) (at_room ∙ level.1) read)
else_halts C B halts body room word other ts bs a all j stop is is_else d b at_room false read =
    step_part Block B body (λ us. IfFrom room word ts bs (other ∷ us)) (λ us. IfFrom (suc room) word ts bs (other ∷ us)) j (λ others. pure (statement word.line (s.If a all others))) stop []
    (λ vs others v. (statement word.line (s.If a all others), p.otherwise word other is is_else d b (subst (λ z. Block room z others) (sym (append-nil vs)) (subst (λ r. Block r vs others) at_room v))))
    (λ vs others v. (statement word.line (s.If a all others), p.otherwise word other is is_else (lift_asked d) (lift_block b) (subst (λ z. Block (suc room) z others) (sym (append-nil vs)) (subst (λ r. Block (suc r) vs others) at_room v))))
    (λ vs others y v y_room done. no_stop (statement word.line (s.If a all others), y) stop done) read

then_halts : (C : Parser StmtTree) (B : Parser (List StmtTree)) → ((i : Input) (stop : StopCause × Tokens) → C i ≡ Err stop → Stop (Cond i.room) (Cond (suc i.room)) i.tokens stop) → Reader Block B → (room : ℕ) (word : Token) (ts bs : Tokens) (a : ExprTree) (all : List StmtTree) (l : Input) (stop : StopCause × Tokens)
    → IsKeyword k.If word → Parenthesized Whole room ts a → Block room bs all → l.room ≡ room → (test : Bool) → is_keyword k.Else (next_keyword l.tokens) ≡ test
    → cond test (and_then (take_any l) (λ _ j. cond (is_keyword k.If (next_keyword j.tokens)) (and_then (enter j) (λ _ l. and_then (C l) (λ more q. and_then (leave q) (λ _. pure (statement word.line (s.If a all (more ∷ []))))))) (and_then (B j) (λ others. pure (statement word.line (s.If a all others)))))) (Ok (statement word.line (s.If a all []), l)) ≡ Err stop
    → Stop (IfFrom room word ts bs) (IfFrom (suc room) word ts bs) l.tokens stop
then_halts C B halts body room word ts bs a all l stop is d b at_room true is_else read =
    step_seen (IfFrom room word ts bs) (IfFrom (suc room) word ts bs) (IsKeyword k.Else) l (λ _ j. cond (is_keyword k.If (next_keyword j.tokens)) (and_then (enter j) (λ _ l. and_then (C l) (λ more q. and_then (leave q) (λ _. pure (statement word.line (s.If a all (more ∷ []))))))) (and_then (B j) (λ others. pure (statement word.line (s.If a all others))))) stop
    (λ t rest same. form_keyword k.Else t.form (ap (λ z. is_keyword k.Else (next_keyword z)) (sym same) ∙ is_else)) (λ t known. quiet_token t (form.Keyword k.Else) known refl)
    (record { more = []; holds = alone_ext (suc room) word ts bs a all is (lift_asked d) (lift_block b) })
    (λ t j known j_room later. else_halts C B halts body room word t ts bs a all j stop is known d b (j_room ∙ at_room) (is_keyword k.If (next_keyword j.tokens)) later) read
then_halts C B halts body room word ts bs a all l stop is d b at_room false is_else read = no_stop (statement word.line (s.If a all []), l) stop read

if_halts : (P : Parser ExprTree) (B : Parser (List StmtTree)) (C : Parser StmtTree) → Reader Whole P → Reader Block B → ((i : Input) (stop : StopCause × Tokens) → C i ≡ Err stop → Stop (Cond i.room) (Cond (suc i.room)) i.tokens stop) → (i : Input) (stop : StopCause × Tokens)
    → and_then (take_keyword k.If i) (λ t j. and_then (parenthesized P j) (λ a l. and_then (B l) (λ all. behind_then C B t.line a all))) ≡ Err stop → Stop (Cond i.room) (Cond (suc i.room)) i.tokens stop
if_halts P B C reader body halts i stop read = step_keyword (Cond i.room) (Cond (suc i.room)) k.If i (λ t j. and_then (parenthesized P j) (λ a l. and_then (B l) (λ all. behind_then C B t.line a all))) stop
    (record {
      more = token_of (form.Keyword k.If) ∷ mark_token m.OpenParen ∷ this_token ∷ mark_token m.CloseParen ∷ mark_token m.OpenBrace ∷ mark_token m.CloseBrace ∷ [];
      holds = (statement 0 (s.If (expression 0 e.This) [] []), p.alone {ts = mark_token m.OpenParen ∷ this_token ∷ mark_token m.CloseParen ∷ []} {us = mark_token m.OpenBrace ∷ mark_token m.CloseBrace ∷ []} (token_of (form.Keyword k.If)) refl (p.parenthesized (mark_token m.OpenParen) (mark_token m.CloseParen) refl refl (whole_this i.room)) (p.block (mark_token m.OpenBrace) (mark_token m.CloseBrace) refl refl p.done));
    })
    (λ t j known j_room later. step_part (Parenthesized Whole) (parenthesized P) (asked_reader P reader) (λ us. Cond i.room (t ∷ us)) (λ us. Cond (suc i.room) (t ∷ us)) j (λ a l. and_then (B l) (λ all. behind_then C B t.line a all)) stop (mark_token m.OpenBrace ∷ mark_token m.CloseBrace ∷ [])
    (λ us b w. let here : Parenthesized Whole i.room us b = subst (λ r. Parenthesized Whole r us b) j_room w in (statement t.line (s.If b [] []), p.alone t known here (empty_block i.room us b here)))
    (λ us b w. let here : Parenthesized Whole (suc i.room) us b = subst (λ r. Parenthesized Whole (suc r) us b) j_room w in (statement t.line (s.If b [] []), p.alone t known here (empty_block (suc i.room) us b here)))
    (λ us b x w x_room later'.
    let here : Parenthesized Whole i.room us b = subst (λ r. Parenthesized Whole r us b) j_room w in
    step_part Block B body (λ vs. Cond i.room (t ∷ (us ++ vs))) (λ vs. Cond (suc i.room) (t ∷ (us ++ vs))) x (λ all. behind_then C B t.line b all) stop []
    (λ vs all v. (statement t.line (s.If b all []), p.alone t known here (subst (λ z. Block i.room z all) (sym (append-nil vs)) (subst (λ r. Block r vs all) (x_room ∙ j_room) v))))
    (λ vs all v. (statement t.line (s.If b all []), p.alone t known (lift_asked here) (subst (λ z. Block (suc i.room) z all) (sym (append-nil vs)) (subst (λ r. Block (suc r) vs all) (x_room ∙ j_room) v))))
    (λ vs all y v y_room later''. then_halts C B halts body i.room t us vs b all y stop known here (subst (λ r. Block r vs all) (x_room ∙ j_room) v) (y_room ∙ x_room ∙ j_room) (is_keyword k.Else (next_keyword y.tokens)) refl later'') later') later) read

refuse_if : (i : Input) (stop : StopCause × Tokens) → ◌≡◌ {A = Outcome StmtTree} (refuse i) (Err stop) → Stop (Cond i.room) (Cond (suc i.room)) i.tokens stop
refuse_if i stop read = short (Cond i.room) (Cond (suc i.room)) i.tokens stop (sym (stop_is (unexpected, i.tokens) stop read))
    (record {
      more = token_of (form.Keyword k.If) ∷ mark_token m.OpenParen ∷ this_token ∷ mark_token m.CloseParen ∷ mark_token m.OpenBrace ∷ mark_token m.CloseBrace ∷ [];
      holds = (statement 0 (s.If (expression 0 e.This) [] []), p.alone {ts = mark_token m.OpenParen ∷ this_token ∷ mark_token m.CloseParen ∷ []} {us = mark_token m.OpenBrace ∷ mark_token m.CloseBrace ∷ []} (token_of (form.Keyword k.If)) refl (p.parenthesized (mark_token m.OpenParen) (mark_token m.CloseParen) refl refl (whole_this i.room)) (p.block (mark_token m.OpenBrace) (mark_token m.CloseBrace) refl refl p.done));
    })

chain_halts : (P : Parser ExprTree) (B : Parser (List StmtTree)) → Reader Whole P → Reader Block B → (n : ℕ) (i : Input) (stop : StopCause × Tokens) → chain P B n i ≡ Err stop → Stop (Cond i.room) (Cond (suc i.room)) i.tokens stop
chain_halts P B reader body zero i stop read = if_halts P B refuse reader body refuse_if i stop read
chain_halts P B reader body (suc n) i stop read = if_halts P B (chain P B n) reader body (chain_halts P B reader body n) i stop read

-- ---- statements by their leads

word_step : (F G : Tokens → Type 0) (which : Keyword) (i : Input) (f : Token → Parser StmtTree) (stop : StopCause × Tokens) → next_keyword i.tokens ≡ Some which → Ext G []
    → ((t : Token) (j : Input) → IsKeyword which t → j.room ≡ i.room → f t j ≡ Err stop → Stop (λ ts. F (t ∷ ts)) (λ ts. G (t ∷ ts)) j.tokens stop) → and_then (take_any i) f ≡ Err stop → Stop F G i.tokens stop
word_step F G which i f stop known ext on read = step_seen F G (IsKeyword which) i f stop (λ t rest same. leads which t t.form refl (ap next_keyword (sym same) ∙ known)) (λ t is. quiet_token t (form.Keyword which) is refl) ext on read

stm_this : (room : ℕ) → Ext (Stm room) []
stm_this room = record { more = this_token ∷ mark_token m.Semicolon ∷ []; holds = (statement 0 (s.Eval (expression 0 e.This)), p.evaluated {ts = this_token ∷ []} (mark_token m.Semicolon) refl (whole_this room)) }

lead_halts : (P : Parser ExprTree) (B : Parser (List StmtTree)) → Reader Whole P → Reader Block B → (n : ℕ) (i : Input) (stop : StopCause × Tokens) (word : Option Keyword) → next_keyword i.tokens ≡ word → by_lead P B n (lead_of word) i ≡ Err stop → Stop (Stm i.room) (Stm (suc i.room)) i.tokens stop
lead_halts P B reader body n i stop (Some k.Var) known read = word_step (Stm i.room) (Stm (suc i.room)) k.Var i (λ t. behind_var P t.line) stop known (stm_this (suc i.room)) (λ t j is j_room later. var_halts P reader i.room t j stop is j_room later) read
lead_halts P B reader body n i stop (Some k.If) known read = within_form (Cond i.room) (Cond (suc i.room)) (Stm i.room) (Stm (suc i.room)) i.tokens stop (λ ts d. (d.0, p.conditional d.1)) (λ ts d. (d.0, p.conditional d.1)) (chain_halts P B reader body n i stop read)
lead_halts P B reader body n i stop (Some k.While) known read = word_step (Stm i.room) (Stm (suc i.room)) k.While i (λ t j. and_then (parenthesized P j) (λ a l. and_then (B l) (λ all. pure (statement t.line (s.While a all))))) stop known (stm_this (suc i.room)) (λ t j is j_room later. guarded_halts P B reader body k.While s.While refl i.room t j stop is j_room later) read
lead_halts P B reader body n i stop (Some k.Synchronized) known read = word_step (Stm i.room) (Stm (suc i.room)) k.Synchronized i (λ t j. and_then (parenthesized P j) (λ a l. and_then (B l) (λ all. pure (statement t.line (s.Sync a all))))) stop known (stm_this (suc i.room)) (λ t j is j_room later. guarded_halts P B reader body k.Synchronized s.Sync refl i.room t j stop is j_room later) read
lead_halts P B reader body n i stop (Some k.Wait) known read = word_step (Stm i.room) (Stm (suc i.room)) k.Wait i (λ t j. and_then (parenthesized (waited P) j) (λ form l. and_then (take_mark m.Semicolon l) (λ _. pure (statement t.line form)))) stop known (stm_this (suc i.room)) (λ t j is j_room later. waiting_halts P reader i.room t j stop is j_room later) read
lead_halts P B reader body n i stop (Some k.Notify) known read = word_step (Stm i.room) (Stm (suc i.room)) k.Notify i (λ t j. and_then (parenthesized P j) (λ a l. and_then (take_mark m.Semicolon l) (λ _. pure (statement t.line (s.Notify a))))) stop known (stm_this (suc i.room)) (λ t j is j_room later. told_halts P reader k.Notify s.Notify refl i.room t j stop is j_room later) read
lead_halts P B reader body n i stop (Some k.NotifyAll) known read = word_step (Stm i.room) (Stm (suc i.room)) k.NotifyAll i (λ t j. and_then (parenthesized P j) (λ a l. and_then (take_mark m.Semicolon l) (λ _. pure (statement t.line (s.NotifyAll a))))) stop known (stm_this (suc i.room)) (λ t j is j_room later. told_halts P reader k.NotifyAll s.NotifyAll refl i.room t j stop is j_room later) read
lead_halts P B reader body n i stop (Some k.Print) known read = word_step (Stm i.room) (Stm (suc i.room)) k.Print i (λ t j. and_then (parenthesized P j) (λ a l. and_then (take_mark m.Semicolon l) (λ _. pure (statement t.line (s.Print a))))) stop known (stm_this (suc i.room)) (λ t j is j_room later. told_halts P reader k.Print s.Print refl i.room t j stop is j_room later) read
lead_halts P B reader body n i stop (Some k.Return) known read = word_step (Stm i.room) (Stm (suc i.room)) k.Return i (λ t. behind_return P t.line) stop known (stm_this (suc i.room)) (λ t j is j_room later. return_halts P reader i.room t j stop is j_room (is_mark m.Semicolon (next_mark j.tokens)) later) read
lead_halts P B reader body n i stop other known read = expression_halts P reader i stop read

pub statement_reader : (P : Parser ExprTree) (B : Parser (List StmtTree)) (n : ℕ) → Reader Whole P → Reader Block B → Reader Statement (one_statement P B n)
statement_reader P B n reader body = record { sound = statement_came P B n reader.sound body.sound; halts = λ i stop read. lead_halts P B reader body n i stop (next_keyword i.tokens) refl read }

-- ---- blocks

pub block_reader : (P : Parser ExprTree) → Reader Whole P → (n : ℕ) → Reader Block (block P n)
block_reader P reader zero = record {
  sound = block_came P reader.sound zero;
  halts = λ i stop read. short (Some_of Block i.room) (Some_of Block (suc i.room)) i.tokens stop (sym (stop_is (unexpected, i.tokens) stop read))
      (record { more = mark_token m.OpenBrace ∷ mark_token m.CloseBrace ∷ []; holds = ([], p.block (mark_token m.OpenBrace) (mark_token m.CloseBrace) refl refl p.done) });
}
block_reader P reader (suc n) = record {
  sound = block_came P reader.sound (suc n);
  halts = λ i stop read. within_form (Some_of (Braces Body) i.room) (Some_of (Braces Body) (suc i.room)) (Some_of Block i.room) (Some_of Block (suc i.room)) i.tokens stop (λ ts d. (d.0, block_of d.1)) (λ ts d. (d.0, block_of d.1))
      ((braced_reader Statement Body rows_of_body (λ room ts a d. lift_statement d) (λ room ts a d. lift_body d) (one_statement P (block P n) n) (statement_reader P (block P n) n reader (block_reader P reader n))).halts i stop read);
}
