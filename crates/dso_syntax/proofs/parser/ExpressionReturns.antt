-- The readers of expressions by their levels: what each makes of what its parts read, in the forms of a function's returns.
use Rattle.std.proofs.Common.{◌≡◌, ◌+◌, ◌-◌, ◌<◌, ◌||◌, ℕ, zero, suc, Bool, true, false, cond, List, [], Option, Some, None, Result, Ok, Err, length, refl, sym, subst, ap, ◌∙◌, arith}
use Rattle.dso_base.specs.declared.op.Op.{Op}
use Rattle.dso_base.specs.declared.value.Kind.{Kind}
use Rattle.dso_tokens.specs.declared.stop.Stop.{Stop}
use Rattle.dso_tokens.specs.declared.stop.Stop.TheVariants as stop
use Rattle.dso_tokens.specs.declared.cursor.Rest.{Rest}
use Rattle.dso_tokens.specs.declared.token.Token.{Token}
use Rattle.dso_tokens.specs.declared.token.Mark.TheVariants as m
use Rattle.dso_tokens.specs.declared.token.Keyword.TheVariants as k
use Rattle.dso_syntax.specs.declared.tree.Ident.{Ident}
use Rattle.dso_syntax.specs.declared.tree.ExprTree.{ExprTree}
use Rattle.dso_syntax.specs.declared.tree.ExprForm.{ExprForm}
use Rattle.dso_syntax.specs.declared.tree.ExprForm.TheVariants as e
use Rattle.dso_syntax.specs.declared.operand.Bracket.{Bracket}
use Rattle.dso_syntax.specs.declared.operand.Bracket.TheVariants as bracket
use Rattle.dso_syntax.specs.declared.operand.Part.{Part}
use Rattle.dso_syntax.specs.declared.operand.Part.TheVariants as part
use Rattle.dso_syntax.specs.declared.operand.Suffix.{Suffix}
use Rattle.dso_syntax.specs.declared.operand.Suffix.TheVariants as suffix
use Rattle.dso_syntax.specs.Grammar.{expression, line_of}
use Rattle.dso_syntax.specs.ExpressionReader.{Input, Outcome, Parser, StopCause, unexpected, too_wide, too_deep, and_then, pure, refuse, restored, operation_of, of_rank, operator_at, sign_at, next_mark, next_form, next_keyword, is_mark, is_wide, plain_at, kind_at, enter, take_any, take_mark, take_keyword, take_name, open_mark, close_mark, leave}
use Rattle.dso_syntax.specs.ExpressionReader as reader
use Rattle.dso_tokens.specs.Gives.{Gives, Fails}
use Rattle.dso_syntax.specs.OperandReader.{entered, opened, opened_of, made, made_of, closed, named, begins_suffix, take_suffix, called, indexed}
use Rattle.dso_syntax.specs.ExpressionLevels.{whole, climb, operations, unary, primary, suffixes, suffixed, arguments}

-- what a function of the parser answers
abbrev pub Read : Type 0
Read = Result (ExprTree × Rest) Stop

-- where the first step stops, both stop
pub stops_first : {A B : Type 0} (why : Stop) (o : Outcome A) (f : A → Parser B) → Fails why o → Fails why (and_then o f)
stops_first (stop.NoMemory refused) o f fails = tt
stops_first (stop.Unexpected tokens) o f fails = rw fails refl
stops_first (stop.TooWide tokens) o f fails = rw fails refl
stops_first (stop.TooDeep tokens) o f fails = rw fails refl

-- a reading that is another fails as that does
as_other : {A : Type 0} (why : Stop) (one other : Outcome A) → one ≡ other → Fails why other → Fails why one
as_other why one other same fails = subst (λ o. Fails why o) (sym same) fails

gives_other : (r : Read) (one other : Outcome ExprTree) → one ≡ other → Gives (λ a. a) r other → Gives (λ a. a) r one
gives_other r one other same gives = subst (λ o. Gives (λ a. a) r o) (sym same) gives

-- two steps and a third
pub regrouped : {A B C : Type 0} (o : Outcome A) (f : A → Parser B) (g : B → Parser C) → and_then o (λ a i. and_then (f a i) g) ≡ and_then (and_then o f) g
regrouped (Ok p) f g = refl
regrouped (Err why) f g = refl

-- ---- whole expressions

pub whole_none : (n : ℕ) (i : Input) → n ≡ 0 → whole n i ≡ Err (unexpected, i.tokens)
unfolding whole
whole_none n i e = rw e refl

whole_at : (n below : ℕ) (i : Input) → n ≡ suc below → whole n i ≡ restored i.room (climb below 6 i)
unfolding whole climb
whole_at n below i e = rw e refl

whole_is : (n : ℕ) (i : Input) → 0 < n → whole n i ≡ restored i.room (climb (n - 1) 6 i)
whole_is n i h = whole_at n (n - 1) i (omega (arith, h))

restored_stops : (why : Stop) (room : ℕ) (o : Outcome ExprTree) → Fails why o → Fails why (restored room o)
restored_stops (stop.NoMemory refused) room o fails = tt
restored_stops (stop.Unexpected tokens) room o fails = rw fails refl
restored_stops (stop.TooWide tokens) room o fails = rw fails refl
restored_stops (stop.TooDeep tokens) room o fails = rw fails refl

pub whole_stops : (why : Stop) (n : ℕ) (i : Input) → 0 < n → Fails why (climb (n - 1) 6 i) → Fails why (whole n i)
whole_stops why n i h fails = as_other why (whole n i) _ (whole_is n i h) (restored_stops why i.room _ fails)

pub whole_goes : (n : ℕ) (i j : Input) (a : ExprTree) → 0 < n → climb (n - 1) 6 i ≡ Ok (a, j) → whole n i ≡ Ok (a, record { tokens = j.tokens; room = i.room })
whole_goes n i j a h read = whole_is n i h ∙ ap (restored i.room) read

-- ---- expressions of a rank

pub climb_flat : (r : Read) (n rank : ℕ) (i : Input) → rank ≡ 0 → Gives (λ a. a) r (unary n n i) → Gives (λ a. a) r (climb n rank i)
unfolding climb unary
climb_flat r n rank i e gives = rw e gives

climb_at : (n rank below : ℕ) (i : Input) → rank ≡ suc below → climb n rank i ≡ and_then (climb n below i) (operations n below n)
unfolding climb operations
climb_at n rank below i e = rw e refl

climb_is : (n rank : ℕ) (i : Input) → 0 < rank → climb n rank i ≡ and_then (climb n (rank - 1) i) (operations n (rank - 1) n)
climb_is n rank i h = climb_at n rank (rank - 1) i (omega (arith, h))

pub climb_stops : (why : Stop) (n rank : ℕ) (i : Input) → 0 < rank → Fails why (climb n (rank - 1) i) → Fails why (climb n rank i)
climb_stops why n rank i h fails = as_other why (climb n rank i) _ (climb_is n rank i h) (stops_first why _ (operations n (rank - 1) n) fails)

pub climb_goes : (r : Read) (n rank : ℕ) (i j : Input) (a : ExprTree) → 0 < rank → climb n (rank - 1) i ≡ Ok (a, j) → Gives (λ a. a) r (operations n (rank - 1) n a j) → Gives (λ a. a) r (climb n rank i)
climb_goes r n rank i j a h read gives = gives_other r (climb n rank i) _ (climb_is n rank i h ∙ ap (λ o. and_then o (operations n (rank - 1) n)) read) gives

-- ---- operators

-- the operator of a rank that is next
abbrev pub next_operator : ℕ → Input → Option Op
next_operator rank i = of_rank rank (operator_at (next_mark i.tokens))

pub operations_none : (n rank more : ℕ) (a : ExprTree) (i : Input) → next_operator rank i ≡ None → operations n rank more a i ≡ Ok (a, i)
unfolding operations
operations_none n rank zero a i known = rw known refl
operations_none n rank (suc more) a i known = rw known refl

operations_zero : (n rank more : ℕ) (a : ExprTree) (o : Op) (i : Input) → more ≡ 0 → next_operator rank i ≡ Some o → operations n rank more a i ≡ and_then (entered i) (λ _ j. and_then (climb n rank j) (λ b. refuse))
unfolding operations climb
operations_zero n rank more a o i none known = rw (none, known) (regrouped (enter i) (λ _. take_any) (λ _ j. and_then (climb n rank j) (λ b. refuse)))

operations_at : (n rank more below : ℕ) (a : ExprTree) (o : Op) (i : Input) → more ≡ suc below → next_operator rank i ≡ Some o
    → operations n rank more a i ≡ and_then (entered i) (λ _ j. and_then (climb n rank j) (λ b. operations n rank below (expression (line_of a) (e.Binary o a b))))
unfolding operations climb
operations_at n rank more below a o i some known = rw (some, known) (regrouped (enter i) (λ _. take_any) (λ _ j. and_then (climb n rank j) (λ b. operations n rank below (expression (line_of a) (e.Binary o a b)))))

-- what follows the operand of an operator
abbrev Then : Type 0
Then = ExprTree → Parser ExprTree

operations_then : (n rank more : ℕ) (a : ExprTree) (o : Op) (i : Input) → next_operator rank i ≡ Some o
    → (f : Then) × (operations n rank more a i ≡ and_then (entered i) (λ _ j. and_then (climb n rank j) f))
operations_then n rank zero a o i known = ((λ b. refuse), operations_zero n rank zero a o i refl known)
operations_then n rank (suc more) a o i known = ((λ b. operations n rank more (expression (line_of a) (e.Binary o a b))), operations_at n rank (suc more) more a o i refl known)

pub operations_enter_stops : (why : Stop) (n rank more : ℕ) (a : ExprTree) (o : Op) (i : Input) → next_operator rank i ≡ Some o → Fails why (entered i) → Fails why (operations n rank more a i)
operations_enter_stops why n rank more a o i known fails =
    let is = operations_then n rank more a o i known in
    as_other why (operations n rank more a i) _ is.1 (stops_first why (entered i) (λ _ j. and_then (climb n rank j) is.0) fails)

pub operations_stops : (why : Stop) (n rank more : ℕ) (a : ExprTree) (o : Op) (t : Token) (i j : Input) → next_operator rank i ≡ Some o → entered i ≡ Ok (t, j) → Fails why (climb n rank j) → Fails why (operations n rank more a i)
operations_stops why n rank more a o t i j known took fails =
    let is = operations_then n rank more a o i known in
    as_other why (operations n rank more a i) _ (is.1 ∙ ap (λ o. and_then o (λ _ j. and_then (climb n rank j) is.0)) took) (stops_first why (climb n rank j) is.0 fails)

pub operations_last : (n rank more : ℕ) (a b : ExprTree) (o : Op) (t : Token) (i j l : Input) → more ≡ 0 → next_operator rank i ≡ Some o → entered i ≡ Ok (t, j) → climb n rank j ≡ Ok (b, l)
    → operations n rank more a i ≡ Err (unexpected, l.tokens)
operations_last n rank more a b o t i j l none known took read = operations_zero n rank more a o i none known ∙ ap (λ o. and_then o (λ _ j. and_then (climb n rank j) (λ b. refuse))) took ∙ ap (λ o. and_then o (λ b. refuse)) read

pub operations_goes : (r : Read) (n rank more : ℕ) (a b both : ExprTree) (o : Op) (t : Token) (i j l : Input) → 0 < more → next_operator rank i ≡ Some o → entered i ≡ Ok (t, j) → climb n rank j ≡ Ok (b, l)
    → both ≡ expression (line_of a) (e.Binary o a b) → Gives (λ a. a) r (operations n rank (more - 1) both l) → Gives (λ a. a) r (operations n rank more a i)
operations_goes r n rank more a b both o t i j l some known took read makes gives =
    gives_other r (operations n rank more a i) _ (operations_at n rank more (more - 1) a o i (omega (arith, some)) known
    ∙ ap (λ q. and_then q (λ _ j. and_then (climb n rank j) (λ b. operations n rank (more - 1) (expression (line_of a) (e.Binary o a b))))) took
    ∙ ap (λ q. and_then q (λ b. operations n rank (more - 1) (expression (line_of a) (e.Binary o a b)))) read
    ∙ ap (λ c. operations n rank (more - 1) c l) (sym makes)) gives

-- ---- signs

-- the sign that is next
abbrev pub next_sign : Input → Option Op
next_sign i = sign_at (next_mark i.tokens)

unary_none : (n more : ℕ) (i : Input) → next_sign i ≡ None → unary n more i ≡ and_then (primary n i) (suffixes n n)
unfolding unary primary suffixes
unary_none n zero i known = rw known refl
unary_none n (suc more) i known = rw known refl

pub unary_primary_stops : (why : Stop) (n more : ℕ) (i : Input) → next_sign i ≡ None → Fails why (primary n i) → Fails why (unary n more i)
unary_primary_stops why n more i known fails = as_other why (unary n more i) _ (unary_none n more i known) (stops_first why (primary n i) (suffixes n n) fails)

pub unary_plain : (r : Read) (n more : ℕ) (i j : Input) (a : ExprTree) → next_sign i ≡ None → primary n i ≡ Ok (a, j) → Gives (λ a. a) r (suffixes n n a j) → Gives (λ a. a) r (unary n more i)
unary_plain r n more i j a known read gives = gives_other r (unary n more i) _ (unary_none n more i known ∙ ap (λ o. and_then o (suffixes n n)) read) gives

-- the level given back, behind the operand of a sign
abbrev behind_sign : Op → Token → ExprTree → Parser ExprTree
behind_sign o t a i = and_then (leave i) (λ _. pure (expression t.line (e.Unary o a)))

unary_zero : (n more : ℕ) (o : Op) (i : Input) → more ≡ 0 → next_sign i ≡ Some o → unary n more i ≡ and_then (entered i) (λ t j. and_then (refuse j) (behind_sign o t))
unfolding unary
unary_zero n more o i none known = rw (none, known) (regrouped (enter i) (λ _. take_any) (λ t j. and_then (refuse j) (behind_sign o t)))

unary_at : (n more below : ℕ) (o : Op) (i : Input) → more ≡ suc below → next_sign i ≡ Some o → unary n more i ≡ and_then (entered i) (λ t j. and_then (unary n below j) (behind_sign o t))
unfolding unary
unary_at n more below o i some known = rw (some, known) (regrouped (enter i) (λ _. take_any) (λ t j. and_then (unary n below j) (behind_sign o t)))

pub unary_enter_stops : (why : Stop) (n more : ℕ) (o : Op) (i : Input) → next_sign i ≡ Some o → Fails why (entered i) → Fails why (unary n more i)
unary_enter_stops why n zero o i known fails = as_other why (unary n zero i) _ (unary_zero n zero o i refl known) (stops_first why (entered i) (λ t j. and_then (refuse j) (behind_sign o t)) fails)
unary_enter_stops why n (suc more) o i known fails = as_other why (unary n (suc more) i) _ (unary_at n (suc more) more o i refl known) (stops_first why (entered i) (λ t j. and_then (unary n more j) (behind_sign o t)) fails)

pub unary_last : (n more : ℕ) (o : Op) (t : Token) (i j : Input) → more ≡ 0 → next_sign i ≡ Some o → entered i ≡ Ok (t, j) → unary n more i ≡ Err (unexpected, j.tokens)
unary_last n more o t i j none known took = unary_zero n more o i none known ∙ ap (λ q. and_then q (λ t j. and_then (refuse j) (behind_sign o t))) took

unary_is : (n more : ℕ) (o : Op) (t : Token) (i j : Input) → 0 < more → next_sign i ≡ Some o → entered i ≡ Ok (t, j) → unary n more i ≡ and_then (unary n (more - 1) j) (behind_sign o t)
unary_is n more o t i j some known took = unary_at n more (more - 1) o i (omega (arith, some)) known ∙ ap (λ q. and_then q (λ t j. and_then (unary n (more - 1) j) (behind_sign o t))) took

pub unary_stops : (why : Stop) (n more : ℕ) (o : Op) (t : Token) (i j : Input) → 0 < more → next_sign i ≡ Some o → entered i ≡ Ok (t, j) → Fails why (unary n (more - 1) j) → Fails why (unary n more i)
unary_stops why n more o t i j some known took fails = as_other why (unary n more i) _ (unary_is n more o t i j some known took) (stops_first why (unary n (more - 1) j) (behind_sign o t) fails)

one_more : (n : ℕ) → suc n ≡ n + 1
one_more n = omega arith

pub unary_goes : (n more : ℕ) (o : Op) (t : Token) (a made : ExprTree) (i j l : Input) → 0 < more → next_sign i ≡ Some o → entered i ≡ Ok (t, j) → unary n (more - 1) j ≡ Ok (a, l)
    → made ≡ expression t.line (e.Unary o a) → unary n more i ≡ Ok (made, record { tokens = l.tokens; room = l.room + 1 })
unary_goes n more o t a made i j l some known took read makes =
    unary_is n more o t i j some known took ∙ ap (λ q. and_then q (behind_sign o t)) read ∙ ap (λ c. Ok (c, record { tokens = l.tokens; room = suc l.room })) (sym makes)
    ∙ ap (λ r. Ok (made, record { tokens = l.tokens; room = r })) (one_more l.room)

-- ---- primary expressions

-- what follows what was opened
abbrev finished : ℕ → Part → Parser ExprTree
finished n (part.Done a) j = Ok (a, j)
finished n (part.Inside b) j = and_then (whole n j) (closed b)

made_then : (n line : ℕ) (kind : Option Kind) (i : Input) → reader.made (reader.whole n) line kind i ≡ and_then (made_of line kind i) (finished n)
unfolding whole
made_then n line (Some kind) i =
    regrouped (take_any i) (λ _. open_mark m.OpenBracket) (λ _ l. and_then (whole n l) (closed (bracket.Array line kind)))
    ∙ regrouped (and_then (take_any i) (λ _. open_mark m.OpenBracket)) (λ _. pure (part.Inside (bracket.Array line kind))) (finished n)
    ∙ ap (λ o. and_then o (finished n)) (sym (regrouped (take_any i) (λ _. open_mark m.OpenBracket) (λ _. pure (part.Inside (bracket.Array line kind)))))
made_then n line None i = by_name (take_name i)
  where
    by_close : (name : Ident) (o : Outcome Token) → and_then o (λ _. pure (expression line (e.NewObject name))) ≡ and_then (and_then o (λ _. pure (part.Done (expression line (e.NewObject name))))) (finished n)
    by_close name (Ok p) = refl
    by_close name (Err why) = refl

    by_open : (name : Ident) (o : Outcome Token) → and_then o (λ _ l. and_then (close_mark m.CloseParen l) (λ _. pure (expression line (e.NewObject name))))
        ≡ and_then (and_then o (λ _ l. and_then (close_mark m.CloseParen l) (λ _. pure (part.Done (expression line (e.NewObject name)))))) (finished n)
    by_open name (Ok p) = by_close name (close_mark m.CloseParen p.1)
    by_open name (Err why) = refl

    by_name : (o : Outcome Ident) → and_then o (λ name j. and_then (open_mark m.OpenParen j) (λ _ l. and_then (close_mark m.CloseParen l) (λ _. pure (expression line (e.NewObject name)))))
        ≡ and_then (and_then o (λ name j. and_then (open_mark m.OpenParen j) (λ _ l. and_then (close_mark m.CloseParen l) (λ _. pure (part.Done (expression line (e.NewObject name))))))) (finished n)
    by_name (Ok p) = by_open p.0 (open_mark m.OpenParen p.1)
    by_name (Err why) = refl

primary_by : (n : ℕ) (plain : Option ExprForm) (i : Input) → reader.primary_of (reader.whole n) plain i ≡ and_then (opened_of plain i) (finished n)
unfolding whole
primary_by n (Some this) i = regrouped (take_any i) (λ t. pure (part.Done (expression t.line this))) (finished n)
primary_by n None i = by_mark (is_mark m.OpenParen (next_mark i.tokens)) (is_wide (next_form i.tokens))
  where
    by_word : (o : Outcome Token) → and_then o (λ t j. reader.made (reader.whole n) t.line (kind_at (next_keyword j.tokens)) j) ≡ and_then (and_then o (λ t. made t.line)) (finished n)
    by_word (Ok p) = made_then n p.0.line (kind_at (next_keyword p.1.tokens)) p.1
    by_word (Err why) = refl

    by_mark : (paren wide : Bool)
        → cond {A = Outcome ExprTree} paren (and_then (open_mark m.OpenParen i) (λ t. reader.parens (reader.whole n) t.line))
        (cond wide (Err (too_wide, i.tokens)) (and_then (take_keyword k.New i) (λ t j. reader.made (reader.whole n) t.line (kind_at (next_keyword j.tokens)) j)))
        ≡ and_then (cond paren (and_then (open_mark m.OpenParen i) (λ t. pure (part.Inside (bracket.Paren t.line))))
        (cond wide (Err (too_wide, i.tokens)) (and_then (take_keyword k.New i) (λ t. made t.line)))) (finished n)
    by_mark true wide = regrouped (open_mark m.OpenParen i) (λ t. pure (part.Inside (bracket.Paren t.line))) (finished n)
    by_mark false true = refl
    by_mark false false = by_word (take_keyword k.New i)

primary_is : (n : ℕ) (i : Input) → primary n i ≡ and_then (opened i) (finished n)
unfolding primary
primary_is n i = primary_by n (plain_at i.tokens) i

pub primary_open_stops : (why : Stop) (n : ℕ) (i : Input) → Fails why (opened i) → Fails why (primary n i)
primary_open_stops why n i fails = as_other why (primary n i) _ (primary_is n i) (stops_first why (opened i) (finished n) fails)

pub primary_done : (n : ℕ) (i j : Input) (a : ExprTree) → opened i ≡ Ok (part.Done a, j) → primary n i ≡ Ok (a, j)
primary_done n i j a read = primary_is n i ∙ ap (λ o. and_then o (finished n)) read

primary_inside : (n : ℕ) (i j : Input) (b : Bracket) → opened i ≡ Ok (part.Inside b, j) → primary n i ≡ and_then (whole n j) (closed b)
primary_inside n i j b read = primary_is n i ∙ ap (λ o. and_then o (finished n)) read

pub primary_stops : (why : Stop) (n : ℕ) (i j : Input) (b : Bracket) → opened i ≡ Ok (part.Inside b, j) → Fails why (whole n j) → Fails why (primary n i)
primary_stops why n i j b read fails = as_other why (primary n i) _ (primary_inside n i j b read) (stops_first why (whole n j) (closed b) fails)

pub primary_goes : (r : Read) (n : ℕ) (i j l : Input) (a : ExprTree) (b : Bracket) → opened i ≡ Ok (part.Inside b, j) → whole n j ≡ Ok (a, l) → Gives (λ a. a) r (closed b a l) → Gives (λ a. a) r (primary n i)
primary_goes r n i j l a b read inner gives = gives_other r (primary n i) _ (primary_inside n i j b read ∙ ap (λ o. and_then o (closed b)) inner) gives

pub primary_closes : (r : Read) (n : ℕ) (i j l : Input) (a : ExprTree) (q : Part) (b : Bracket) → opened i ≡ Ok (q, j) → q ≡ part.Inside b → whole n j ≡ Ok (a, l)
    → Gives (λ a. a) r (closed b a l) → Gives (λ a. a) r (primary n i)
primary_closes r n i j l a q b read is inner gives = primary_goes r n i j l a b (subst (λ p. opened i ≡ Ok (p, j)) is read) inner gives

-- ---- suffixes

-- what follows a suffix
abbrev answered : ℕ → ℕ → ExprTree → Suffix → Parser ExprTree
answered n below a (suffix.Field name) j = suffixes n below (expression (line_of a) (e.Field a name)) j
answered n below a (suffix.Call name) j = and_then (arguments n j) (λ all l. and_then (called a name all l) (suffixes n below))
answered n below a suffix.Element j = and_then (whole n j) (λ b l. and_then (indexed a b l) (suffixes n below))

pub suffixes_nothing : (n more : ℕ) (a : ExprTree) (i : Input) → begins_suffix (next_mark i.tokens) ≡ false → suffixes n more a i ≡ Ok (a, i)
unfolding suffixes
suffixes_nothing n more a i not = by_tests more (is_mark m.Dot (next_mark i.tokens)) (is_mark m.OpenBracket (next_mark i.tokens)) refl refl not
  where
    by_tests : (more : ℕ) (dot bracket : Bool) → is_mark m.Dot (next_mark i.tokens) ≡ dot → is_mark m.OpenBracket (next_mark i.tokens) ≡ bracket → (dot || bracket) ≡ false
        → reader.suffixes (reader.whole n) more a i ≡ Ok (a, i)
    by_tests zero false false is is' same = rw (is, is') refl
    by_tests (suc more) false false is is' same = rw (is, is') refl
    by_tests more true bracket is is' same = cc
    by_tests more false true is is' same = cc

pub suffixes_deep : (n more : ℕ) (a : ExprTree) (i : Input) → begins_suffix (next_mark i.tokens) ≡ true → more ≡ 0 → suffixes n more a i ≡ Err (too_deep, i.tokens)
unfolding suffixes
suffixes_deep n more a i some none = by_tests (is_mark m.Dot (next_mark i.tokens)) (is_mark m.OpenBracket (next_mark i.tokens)) refl refl some
  where
    by_tests : (dot bracket : Bool) → is_mark m.Dot (next_mark i.tokens) ≡ dot → is_mark m.OpenBracket (next_mark i.tokens) ≡ bracket → (dot || bracket) ≡ true
        → reader.suffixes (reader.whole n) more a i ≡ Err (too_deep, i.tokens)
    by_tests true bracket is is' same = rw (none, is) refl
    by_tests false true is is' same = rw (none, is, is') refl
    by_tests false false is is' same = cc

first : {A : Type 0} (test : Bool) (x y : A) → test ≡ true → cond test x y ≡ x
first true x y is = refl
first false x y is = cc

second : {A : Type 0} (test : Bool) (x y : A) → test ≡ false → cond test x y ≡ y
second false x y not = refl
second true x y not = cc

third : {A : Type 0} (test other : Bool) (x y z : A) → test ≡ false → other ≡ true → cond test x (cond other y z) ≡ y
third false true x y z not is = refl
third true other x y z not is = cc
third false false x y z not is = cc

dot_then : (n below : ℕ) (a : ExprTree) (i : Input) → and_then (reader.dot_suffix (reader.whole n) a i) (reader.suffixes (reader.whole n) below) ≡ and_then (named i) (answered n below a)
unfolding suffixes arguments
dot_then n below a i = by_dot (open_mark m.Dot i)
  where
    by_all : (name : Ident) (o : Outcome (List ExprTree))
        → and_then (and_then o (λ all l. and_then (close_mark m.CloseParen l) (λ _. pure (expression (line_of a) (e.Call a name all))))) (suffixes n below)
        ≡ and_then o (λ all l. and_then (called a name all l) (suffixes n below))
    by_all name (Ok p) = refl
    by_all name (Err why) = refl

    by_open : (name : Ident) (o : Outcome Token)
        → and_then (and_then o (λ _ j. and_then (reader.arguments (reader.whole n) j) (λ all l. and_then (close_mark m.CloseParen l) (λ _. pure (expression (line_of a) (e.Call a name all)))))) (suffixes n below)
        ≡ and_then (and_then o (λ _. pure (suffix.Call name))) (answered n below a)
    by_open name (Ok p) = by_all name (arguments n p.1)
    by_open name (Err why) = refl

    by_paren : (name : Ident) (j : Input) (test : Bool)
        → and_then (cond {A = Outcome ExprTree} test (reader.call_suffix (reader.whole n) a name j) (Ok (expression (line_of a) (e.Field a name), j))) (suffixes n below)
        ≡ and_then (cond {A = Outcome Suffix} test (and_then (open_mark m.OpenParen j) (λ _. pure (suffix.Call name))) (Ok (suffix.Field name, j))) (answered n below a)
    by_paren name j true = by_open name (open_mark m.OpenParen j)
    by_paren name j false = refl

    by_name : (o : Outcome Ident) → and_then (and_then o (λ name. reader.field_suffix (reader.whole n) a name)) (suffixes n below)
        ≡ and_then (and_then o (λ name l. cond {A = Outcome Suffix} (is_mark m.OpenParen (next_mark l.tokens)) (and_then (open_mark m.OpenParen l) (λ _. pure (suffix.Call name))) (Ok (suffix.Field name, l)))) (answered n below a)
    by_name (Ok p) = by_paren p.0 p.1 (is_mark m.OpenParen (next_mark p.1.tokens))
    by_name (Err why) = refl

    by_dot : (o : Outcome Token) → and_then (and_then o (λ _ j. and_then (take_name j) (λ name. reader.field_suffix (reader.whole n) a name))) (suffixes n below)
        ≡ and_then (and_then o (λ _ j. and_then (take_name j) (λ name l. cond {A = Outcome Suffix} (is_mark m.OpenParen (next_mark l.tokens)) (and_then (open_mark m.OpenParen l) (λ _. pure (suffix.Call name))) (Ok (suffix.Field name, l))))) (answered n below a)
    by_dot (Ok p) = by_name (take_name p.1)
    by_dot (Err why) = refl

element_then : (n below : ℕ) (a : ExprTree) (i : Input) → and_then (reader.element_suffix (reader.whole n) a i) (reader.suffixes (reader.whole n) below) ≡ and_then (and_then (open_mark m.OpenBracket i) (λ _. pure suffix.Element)) (answered n below a)
unfolding suffixes whole
element_then n below a i = by_open (open_mark m.OpenBracket i)
  where
    by_index : (o : Outcome ExprTree) → and_then (and_then o (λ b l. and_then (take_mark m.CloseBracket l) (λ _. pure (expression (line_of a) (e.Elem a b))))) (suffixes n below)
        ≡ and_then o (λ b l. and_then (indexed a b l) (suffixes n below))
    by_index (Ok p) = refl
    by_index (Err why) = refl

    by_open : (o : Outcome Token) → and_then (and_then o (λ _ j. and_then (reader.whole n j) (λ b l. and_then (take_mark m.CloseBracket l) (λ _. pure (expression (line_of a) (e.Elem a b)))))) (suffixes n below)
        ≡ and_then (and_then o (λ _. pure suffix.Element)) (answered n below a)
    by_open (Ok p) = by_index (whole n p.1)
    by_open (Err why) = refl

suffixes_at : (n more below : ℕ) (a : ExprTree) (i : Input) → more ≡ suc below → begins_suffix (next_mark i.tokens) ≡ true → suffixes n more a i ≡ and_then (take_suffix i) (answered n below a)
unfolding suffixes
suffixes_at n more below a i e some = by_tests (is_mark m.Dot (next_mark i.tokens)) (is_mark m.OpenBracket (next_mark i.tokens)) refl refl some
  where
    by_tests : (dot bracket : Bool) → is_mark m.Dot (next_mark i.tokens) ≡ dot → is_mark m.OpenBracket (next_mark i.tokens) ≡ bracket → (dot || bracket) ≡ true
        → reader.suffixes (reader.whole n) more a i ≡ and_then (cond {A = Outcome Suffix} (is_mark m.Dot (next_mark i.tokens)) (named i) (and_then (open_mark m.OpenBracket i) (λ _. pure suffix.Element))) (answered n below a)
    by_tests true bracket is is' same =
        ap (λ m. reader.suffixes (reader.whole n) m a i) e
        ∙ first _ _ _ is
        ∙ dot_then n below a i
        ∙ ap (λ o. and_then o (answered n below a)) (sym (first _ _ _ is))
    by_tests false true is is' same =
        ap (λ m. reader.suffixes (reader.whole n) m a i) e
        ∙ third _ _ _ _ _ is is'
        ∙ element_then n below a i
        ∙ ap (λ o. and_then o (answered n below a)) (sym (second _ _ _ is))
    by_tests false false is is' same = cc

suffixes_is : (n more : ℕ) (a : ExprTree) (i : Input) → 0 < more → begins_suffix (next_mark i.tokens) ≡ true → suffixes n more a i ≡ and_then (take_suffix i) (answered n (more - 1) a)
suffixes_is n more a i h some = suffixes_at n more (more - 1) a i (omega (arith, h)) some

pub suffixes_take_stops : (why : Stop) (n more : ℕ) (a : ExprTree) (i : Input) → 0 < more → begins_suffix (next_mark i.tokens) ≡ true → Fails why (take_suffix i) → Fails why (suffixes n more a i)
suffixes_take_stops why n more a i h some fails = as_other why (suffixes n more a i) _ (suffixes_is n more a i h some) (stops_first why (take_suffix i) (answered n (more - 1) a) fails)

-- behind a suffix: the expression with it, and then the suffixes that follow
answered_is : (n below : ℕ) (a : ExprTree) (q : Suffix) (j : Input) → answered n below a q j ≡ and_then (suffixed n q a j) (suffixes n below)
unfolding suffixed arguments whole
answered_is n below a (suffix.Field name) j = refl
answered_is n below a (suffix.Call name) j = regrouped (arguments n j) (called a name) (suffixes n below)
answered_is n below a suffix.Element j = regrouped (whole n j) (indexed a) (suffixes n below)

suffixes_on : (n more : ℕ) (a : ExprTree) (q : Suffix) (i j : Input) → 0 < more → begins_suffix (next_mark i.tokens) ≡ true → take_suffix i ≡ Ok (q, j)
    → suffixes n more a i ≡ and_then (suffixed n q a j) (suffixes n (more - 1))
suffixes_on n more a q i j h some read = suffixes_is n more a i h some ∙ ap (λ o. and_then o (answered n (more - 1) a)) read ∙ answered_is n (more - 1) a q j

pub suffixes_stops : (why : Stop) (n more : ℕ) (a : ExprTree) (q : Suffix) (i j : Input) → 0 < more → begins_suffix (next_mark i.tokens) ≡ true → take_suffix i ≡ Ok (q, j)
    → Fails why (suffixed n q a j) → Fails why (suffixes n more a i)
suffixes_stops why n more a q i j h some read fails =
    as_other why (suffixes n more a i) _ (suffixes_on n more a q i j h some read) (stops_first why (suffixed n q a j) (suffixes n (more - 1)) fails)

pub suffixes_goes : (r : Read) (n more : ℕ) (a b : ExprTree) (q : Suffix) (i j l : Input) → 0 < more → begins_suffix (next_mark i.tokens) ≡ true → take_suffix i ≡ Ok (q, j)
    → suffixed n q a j ≡ Ok (b, l) → Gives (λ a. a) r (suffixes n (more - 1) b l) → Gives (λ a. a) r (suffixes n more a i)
suffixes_goes r n more a b q i j l h some read made gives =
    gives_other r (suffixes n more a i) _ (suffixes_on n more a q i j h some read ∙ ap (λ o. and_then o (suffixes n (more - 1))) made) gives

-- ---- one suffix

pub suffixed_field : (n : ℕ) (a b : ExprTree) (q : Suffix) (name : Ident) (i : Input) → q ≡ suffix.Field name → b ≡ expression (line_of a) (e.Field a name) → suffixed n q a i ≡ Ok (b, i)
unfolding suffixed
suffixed_field n a b q name i is makes = rw (is, makes) refl

call_is : (n : ℕ) (a : ExprTree) (q : Suffix) (name : Ident) (i : Input) → q ≡ suffix.Call name → suffixed n q a i ≡ and_then (arguments n i) (called a name)
unfolding suffixed arguments
call_is n a q name i is = rw is refl

pub suffixed_call_stops : (why : Stop) (n : ℕ) (a : ExprTree) (q : Suffix) (name : Ident) (i : Input) → q ≡ suffix.Call name → Fails why (arguments n i) → Fails why (suffixed n q a i)
suffixed_call_stops why n a q name i is fails = as_other why (suffixed n q a i) _ (call_is n a q name i is) (stops_first why (arguments n i) (called a name) fails)

pub suffixed_call : (r : Read) (n : ℕ) (a : ExprTree) (all : List ExprTree) (q : Suffix) (name : Ident) (i j : Input) → q ≡ suffix.Call name → arguments n i ≡ Ok (all, j)
    → Gives (λ a. a) r (called a name all j) → Gives (λ a. a) r (suffixed n q a i)
suffixed_call r n a all q name i j is args gives = gives_other r (suffixed n q a i) _ (call_is n a q name i is ∙ ap (λ o. and_then o (called a name)) args) gives

element_is : (n : ℕ) (a : ExprTree) (q : Suffix) (i : Input) → q ≡ suffix.Element → suffixed n q a i ≡ and_then (whole n i) (indexed a)
unfolding suffixed whole
element_is n a q i is = rw is refl

pub suffixed_element_stops : (why : Stop) (n : ℕ) (a : ExprTree) (q : Suffix) (i : Input) → q ≡ suffix.Element → Fails why (whole n i) → Fails why (suffixed n q a i)
suffixed_element_stops why n a q i is fails = as_other why (suffixed n q a i) _ (element_is n a q i is) (stops_first why (whole n i) (indexed a) fails)

pub suffixed_element : (r : Read) (n : ℕ) (a b : ExprTree) (q : Suffix) (i j : Input) → q ≡ suffix.Element → whole n i ≡ Ok (b, j)
    → Gives (λ a. a) r (indexed a b j) → Gives (λ a. a) r (suffixed n q a i)
suffixed_element r n a b q i j is index gives = gives_other r (suffixed n q a i) _ (element_is n a q i is ∙ ap (λ o. and_then o (indexed a)) index) gives

-- ---- arguments

pub arguments_none : (n : ℕ) (i : Input) → is_mark m.CloseParen (next_mark i.tokens) ≡ true → arguments n i ≡ Ok ([], i)
unfolding arguments
arguments_none n i is = first _ _ _ is

pub arguments_some : (r : Result (List ExprTree × Rest) Stop) (n : ℕ) (i : Input) → is_mark m.CloseParen (next_mark i.tokens) ≡ false
    → Gives (λ all. all) r (reader.listed (whole n) (length i.tokens) i) → Gives (λ all. all) r (arguments n i)
unfolding arguments whole
arguments_some r n i not gives = subst (λ o. Gives (λ all. all) r o) (sym (second _ _ _ not)) gives
