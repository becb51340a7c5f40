-- Where readers of classes, threads and whole programs stop, what was read goes on to a program.
use Rattle.std.proofs.Common.{◌≡◌, ℕ, zero, suc, Bool, true, false, cond, List, [], ◌∷◌, ◌++◌, length, Some, None, Err, refl, sym, subst, ap, ◌∙◌, append-nil}
use Rattle.std.specs.Prelude.{pos, ℤ}
use Rattle.dso_tokens.specs.declared.token.Keyword.TheVariants as k
use Rattle.dso_tokens.specs.declared.token.Mark.TheVariants as m
use Rattle.dso_tokens.specs.declared.token.Form.{Form}
use Rattle.dso_tokens.specs.declared.token.Form.TheVariants as form
use Rattle.dso_tokens.specs.declared.token.Token.{Token}
use Rattle.dso_syntax.specs.declared.tree.Item.{Item}
use Rattle.dso_syntax.specs.declared.tree.Item.TheVariants as item
use Rattle.dso_syntax.specs.declared.tree.StmtTree.{StmtTree}
use Rattle.dso_syntax.specs.Grammar.{Tokens, IsKeyword}
use Rattle.dso_syntax.specs.ProgramGrammar as p
use Rattle.dso_syntax.specs.ProgramGrammar.{Block, Declared, Members, Top, Tops}
use Rattle.dso_syntax.specs.SyntaxFaults.{narrowed}
use Rattle.dso_syntax.specs.ExpressionReader.{Input, StopCause, unexpected, too_wide, Outcome, Parser, and_then, pure, is_keyword, next_keyword, take_any, take_keyword, take_name, whole}
use Rattle.dso_syntax.specs.ProgramReader.{braced, one_member, number_by, number_from, one_item, items_from, block, program}
use Rattle.dso_syntax.proofs.completeness.ReadSteps.{at}
use Rattle.dso_syntax.proofs.soundness.SoundSteps.{err_is, form_keyword}
use Rattle.dso_syntax.proofs.soundness.SoundStatements.{Braces}
use Rattle.dso_syntax.proofs.soundness.SoundPrograms.{rows_of_members, class_of, Counted, counted, item_pick}
use Rattle.dso_syntax.proofs.prefixes.OneLevelMore.{lift_declared, lift_members, lift_top}
use Rattle.dso_syntax.proofs.prefixes.StopSteps.{Ext, quiet, wide, Stop, Steps, first, second, err_steps, stop_is, no_calm, behind, within_form, short, quiet_token, token_of, some_name, step_keyword, step_seen, step_name, step_part, Some_of, Reader, no_stop}
use Rattle.dso_syntax.proofs.prefixes.StopExpressions.{name_token, mark_token, whole_reader}
use Rattle.dso_syntax.proofs.prefixes.StopStatements.{braced_reader, block_reader}
use Rattle.dso_syntax.proofs.prefixes.StopMembers.{empty, member_reader}

-- ---- threads

-- a number is not there, or it is too wide
pub data NumberStops (tokens : Tokens) (stop : StopCause × Tokens) : Type 0 where
  missing : stop ≡ (unexpected, tokens) → NumberStops tokens stop
  over : (t : Token) (rest : Tokens) → tokens ≡ t ∷ rest → stop ≡ (too_wide, t ∷ rest) → t.form ≡ form.Number None → NumberStops tokens stop

number_stops : (room : ℕ) (tokens : Tokens) (stop : StopCause × Tokens) → number_from room tokens ≡ Err stop → NumberStops tokens stop
number_stops room [] stop read = missing (sym (stop_is (unexpected, []) stop read))
number_stops room (t ∷ rest) stop read = by_form t.form refl read
  where
    by_form : (f : Form) → t.form ≡ f → number_by room t rest f ≡ Err stop → NumberStops (t ∷ rest) stop
    by_form (form.Number (Some value)) is read = absurd (err_is ((value, t.line), at rest room) stop (sym read))
    by_form (form.Number None) is read = over t rest refl (sym (stop_is (too_wide, t ∷ rest) stop read)) is
    by_form (form.Name name) is read = missing (sym (stop_is (unexpected, t ∷ rest) stop read))
    by_form (form.Keyword word) is read = missing (sym (stop_is (unexpected, t ∷ rest) stop read))
    by_form (form.Text content) is read = missing (sym (stop_is (unexpected, t ∷ rest) stop read))
    by_form (form.Mark mark) is read = missing (sym (stop_is (unexpected, t ∷ rest) stop read))

abbrev zero_token : Token
zero_token = token_of (form.Number (Some (pos 0)))

abbrev braces_tokens : Tokens
braces_tokens = mark_token m.OpenBrace ∷ mark_token m.CloseBrace ∷ []

abbrev SomeTop : ℕ → Tokens → Type 0
SomeTop = Some_of Top

-- behind the number of a thread
abbrev thread_body : Parser (List StmtTree) → ℕ → ℤ × ℕ → Parser Item
thread_body B line n l = and_then (B l) (λ all. pure (item.Thread line n.0 n.1 all))

thread_ext : (room : ℕ) (t : Token) → IsKeyword k.Thread t → Ext (λ us. SomeTop (suc room) (t ∷ us)) []
thread_ext room t is = record { more = zero_token ∷ braces_tokens; holds = (item.Thread t.line (pos 0) 0 [], p.thread t zero_token (pos 0) is refl (empty room)) }

number_halts : (B : Parser (List StmtTree)) → Reader Block B → (room : ℕ) (t : Token) → IsKeyword k.Thread t → (j : Input) (stop : StopCause × Tokens) → j.room ≡ room
    → and_then (number_from j.room j.tokens) (thread_body B t.line) ≡ Err stop → Stop (λ us. SomeTop room (t ∷ us)) (λ us. SomeTop (suc room) (t ∷ us)) j.tokens stop
number_halts B body room t is j stop j_room read = pick (err_steps (number_from j.room j.tokens) (thread_body B t.line) stop read)
  where
    not_taken : NumberStops j.tokens stop → Stop (λ us. SomeTop room (t ∷ us)) (λ us. SomeTop (suc room) (t ∷ us)) j.tokens stop
    not_taken (missing same) = short (λ us. SomeTop room (t ∷ us)) (λ us. SomeTop (suc room) (t ∷ us)) j.tokens stop same (thread_ext room t is)
    not_taken (over u rest here same known) = record {
      used = [];
      is = here ∙ sym (ap (λ (s : StopCause × Tokens). s.1) same);
      calm = no_calm;
      higher = thread_ext room t is;
      told = wide u rest same known (record { more = braces_tokens; holds = (item.Thread t.line (pos 0) u.line [], p.thread t (narrowed u) (pos 0) is (rw known refl) (empty room)) });
    }

    taken : (n : ℤ × ℕ) (l : Input) → Counted j.tokens j.room n l → thread_body B t.line n l ≡ Err stop → Stop (λ us. SomeTop room (t ∷ us)) (λ us. SomeTop (suc room) (t ∷ us)) j.tokens stop
    taken n l c later =
        let l_room : l.room ≡ room = c.room_is ∙ j_room in
        subst (λ z. Stop (λ us. SomeTop room (t ∷ us)) (λ us. SomeTop (suc room) (t ∷ us)) z stop) (sym c.is)
        (behind (λ us. SomeTop room (t ∷ us)) (λ us. SomeTop (suc room) (t ∷ us)) (c.token ∷ []) l.tokens stop (quiet (quiet_token c.token (form.Number (Some n.0)) c.holds refl))
        (step_part Block B body (λ us. SomeTop room (t ∷ c.token ∷ us)) (λ us. SomeTop (suc room) (t ∷ c.token ∷ us)) l (λ all. pure (item.Thread t.line n.0 n.1 all)) stop []
        (λ ts all d. (item.Thread t.line n.0 c.token.line all, p.thread t c.token n.0 is c.holds (subst (λ z. Block room z all) (sym (append-nil ts)) (subst (λ r. Block r ts all) l_room d))))
        (λ ts all d. (item.Thread t.line n.0 c.token.line all, p.thread t c.token n.0 is c.holds (subst (λ z. Block (suc room) z all) (sym (append-nil ts)) (subst (λ r. Block (suc r) ts all) l_room d))))
        (λ ts all q d q_room done. no_stop (item.Thread t.line n.0 n.1 all, q) stop done) later))

    pick : Steps (number_from j.room j.tokens) (thread_body B t.line) stop → Stop (λ us. SomeTop room (t ∷ us)) (λ us. SomeTop (suc room) (t ∷ us)) j.tokens stop
    pick (first here) = not_taken (number_stops j.room j.tokens stop here)
    pick (second n l here later) = taken n l (counted j.room j.tokens n l here) later

abbrev thread_of : Parser (List StmtTree) → Parser Item
thread_of B i = and_then (take_keyword k.Thread i) (λ t j. and_then (number_from j.room j.tokens) (thread_body B t.line))

top_ext : (room : ℕ) → Ext (SomeTop (suc room)) []
top_ext room = record {
  more = token_of (form.Keyword k.Thread) ∷ zero_token ∷ braces_tokens;
  holds = (item.Thread 0 (pos 0) 0 [], p.thread (token_of (form.Keyword k.Thread)) zero_token (pos 0) refl refl (empty room));
}

thread_halts : (B : Parser (List StmtTree)) → Reader Block B → (i : Input) (stop : StopCause × Tokens) → thread_of B i ≡ Err stop → Stop (SomeTop i.room) (SomeTop (suc i.room)) i.tokens stop
thread_halts B body i stop read = step_keyword (SomeTop i.room) (SomeTop (suc i.room)) k.Thread i (λ t j. and_then (number_from j.room j.tokens) (thread_body B t.line)) stop (top_ext i.room)
    (λ t j is j_room later. number_halts B body i.room t is j stop j_room later) read

-- ---- classes

abbrev class_body : Parser (List StmtTree) → Token → Parser Item
class_body B t j = and_then (take_name j) (λ name l. and_then (braced (one_member B) l) (λ members. pure (item.Class t.line name members)))

class_halts : (B : Parser (List StmtTree)) → Reader Block B → (i : Input) (stop : StopCause × Tokens) → is_keyword k.Class (next_keyword i.tokens) ≡ true → and_then (take_any i) (class_body B) ≡ Err stop
    → Stop (SomeTop i.room) (SomeTop (suc i.room)) i.tokens stop
class_halts B body i stop known read = step_seen (SomeTop i.room) (SomeTop (suc i.room)) (IsKeyword k.Class) i (class_body B) stop
    (λ t rest same. form_keyword k.Class t.form (ap (λ z. is_keyword k.Class (next_keyword z)) (sym same) ∙ known)) (λ t is. quiet_token t (form.Keyword k.Class) is refl) (top_ext i.room)
    (λ t j is j_room later. step_name (λ us. SomeTop i.room (t ∷ us)) (λ us. SomeTop (suc i.room) (t ∷ us)) j (λ name l. and_then (braced (one_member B) l) (λ members. pure (item.Class t.line name members))) stop
    (record { more = name_token ∷ braces_tokens; holds = (item.Class t.line some_name [], p.class t name_token (mark_token m.OpenBrace) (mark_token m.CloseBrace) some_name is (refl, refl) refl refl p.done) })
    (λ named name l is_name l_room later'.
    let room : l.room ≡ i.room = l_room ∙ j_room in
    step_part (Braces Members) (braced (one_member B)) (braced_reader Declared Members rows_of_members (λ room ts a d. lift_declared d) (λ room ts a d. lift_members d) (one_member B) (member_reader B body))
    (λ us. SomeTop i.room (t ∷ named ∷ us)) (λ us. SomeTop (suc i.room) (t ∷ named ∷ us)) l (λ members. pure (item.Class t.line name members)) stop []
    (λ ts all d. (item.Class t.line name all, class_of (subst (λ z. Braces Members i.room z all) (sym (append-nil ts)) (subst (λ r. Braces Members r ts all) room d)) t named name is is_name))
    (λ ts all d. (item.Class t.line name all, class_of (subst (λ z. Braces Members (suc i.room) z all) (sym (append-nil ts)) (subst (λ r. Braces Members (suc r) ts all) room d)) t named name is is_name))
    (λ ts all q d q_room done. no_stop (item.Class t.line name all, q) stop done) later') later) read

item_reader : (B : Parser (List StmtTree)) → Reader Block B → Reader Top (one_item B)
item_reader B body = record {
  sound = λ i a j read. item_pick B body.sound i a j (is_keyword k.Class (next_keyword i.tokens)) refl read;
  halts = λ i stop read. pick i stop (is_keyword k.Class (next_keyword i.tokens)) refl read;
}
  where
    pick : (i : Input) (stop : StopCause × Tokens) (test : Bool) → is_keyword k.Class (next_keyword i.tokens) ≡ test → cond {A = Outcome Item} test (and_then (take_any i) (class_body B)) (thread_of B i) ≡ Err stop → Stop (SomeTop i.room) (SomeTop (suc i.room)) i.tokens stop
    pick i stop true known read = class_halts B body i stop known read
    pick i stop false known read = thread_halts B body i stop read

-- ---- whole programs

-- behind a class or a thread, where reading the rest stops as told
rest_halts : (more : Item) (rest : Outcome (List Item)) (room : ℕ) (ts : Tokens) (j : Input) (stop : StopCause × Tokens) → Top room ts more → j.room ≡ room → Steps rest (λ all. pure (more ∷ all)) stop
    → (rest ≡ Err stop → Stop (Some_of Tops j.room) (Some_of Tops (suc j.room)) j.tokens stop) → Stop (λ us. Some_of Tops room (ts ++ us)) (λ us. Some_of Tops (suc room) (ts ++ us)) j.tokens stop
rest_halts a rest room ts j stop d j_room (first here) halts = within_form (Some_of Tops j.room) (Some_of Tops (suc j.room)) (λ us. Some_of Tops room (ts ++ us)) (λ us. Some_of Tops (suc room) (ts ++ us)) j.tokens stop
    (λ us e. (a ∷ e.0, p.next d (subst (λ r. Tops r us e.0) j_room e.1))) (λ us e. (a ∷ e.0, p.next (lift_top d) (subst (λ r. Tops (suc r) us e.0) j_room e.1))) (halts here)
rest_halts a rest room ts j stop d j_room (second all l here later) halts = no_stop (a ∷ all, l) stop later

items_halts : (B : Parser (List StmtTree)) → Reader Block B → (n room : ℕ) (tokens : Tokens) (stop : StopCause × Tokens) → items_from B n room tokens ≡ Err stop → Stop (Some_of Tops room) (Some_of Tops (suc room)) tokens stop
items_halts B body zero room [] stop read = no_stop ([], at [] room) stop read
items_halts B body (suc n) room [] stop read = no_stop ([], at [] room) stop read
items_halts B body zero room (t ∷ rest) stop read = short (Some_of Tops room) (Some_of Tops (suc room)) (t ∷ rest) stop (sym (stop_is (unexpected, t ∷ rest) stop read)) (record { more = []; holds = ([], p.done) })
items_halts B body (suc n) room (t ∷ rest) stop read =
    step_part Top (one_item B) (item_reader B body) (Some_of Tops room) (Some_of Tops (suc room)) (at (t ∷ rest) room) (λ a j. and_then (items_from B n j.room j.tokens) (λ all. pure (a ∷ all))) stop []
    (λ ts a d. (a ∷ [], p.next d p.done)) (λ ts a d. (a ∷ [], p.next d p.done))
    (λ ts a j d j_room later. rest_halts a (items_from B n j.room j.tokens) room ts j stop d j_room (err_steps (items_from B n j.room j.tokens) (λ all. pure (a ∷ all)) stop later) (λ here. items_halts B body n j.room j.tokens stop here)) read

-- where the reader of programs stops
pub program_halts : (levels : ℕ) (tokens : Tokens) (stop : StopCause × Tokens) → program levels tokens ≡ Err stop → Stop (Some_of Tops levels) (Some_of Tops (suc levels)) tokens stop
program_halts levels tokens stop read = items_halts (block (whole (suc levels)) (suc levels)) (block_reader (whole (suc levels)) (whole_reader (suc levels)) (suc levels)) (length tokens) levels tokens stop read
