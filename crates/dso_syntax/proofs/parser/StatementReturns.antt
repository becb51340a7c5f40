-- The readers of statements by their levels: what each makes of what its parts read, in the forms of a function's returns.
use Rattle.std.proofs.Common.{◌≡◌, ◌+◌, ◌-◌, ◌<◌, ℕ, zero, suc, Bool, true, false, cond, List, [], ◌∷◌, Result, Ok, Err, length, refl, sym, subst, ap, ◌∙◌, arith}
use Rattle.dso_tokens.specs.declared.stop.Stop.{Stop}
use Rattle.dso_tokens.specs.declared.cursor.Rest.{Rest}
use Rattle.dso_tokens.specs.declared.token.Token.{Token}
use Rattle.dso_tokens.specs.declared.token.Mark.TheVariants as m
use Rattle.dso_tokens.specs.declared.token.Keyword.TheVariants as k
use Rattle.dso_syntax.specs.declared.tree.ExprTree.{ExprTree}
use Rattle.dso_syntax.specs.declared.tree.StmtTree.{StmtTree}
use Rattle.dso_syntax.specs.declared.tree.StmtForm.{StmtForm}
use Rattle.dso_syntax.specs.declared.tree.StmtForm.TheVariants as s
use Rattle.dso_syntax.specs.declared.blockless.Guarding.{Guarding}
use Rattle.dso_syntax.specs.declared.blockless.Else.{Else}
use Rattle.dso_syntax.specs.declared.blockless.Else.TheVariants as part
use Rattle.dso_syntax.specs.ProgramGrammar.{statement as made_statement}
use Rattle.dso_syntax.specs.ExpressionReader.{Input, Outcome, Parser, unexpected, and_then, pure, next_mark, next_keyword, is_mark, is_keyword, take_any, take_mark, take_keyword, open_mark, close_mark, enter, leave}
use Rattle.dso_syntax.specs.ProgramReader as reader
use Rattle.dso_tokens.specs.Gives.{Gives, Fails}
use Rattle.dso_syntax.specs.StatementLevels.{expr, parenthesized, wait_end, behind_waited, waiting, guard, condition, else_part, simple, guarding_of, block, statement, guarded, chain, other_of, chained, otherwise}
use Rattle.dso_syntax.proofs.parser.ExpressionReturns.{stops_first}

-- what a function of the parser answers
abbrev pub Read : Type 0 → Type 0
Read A = Result (A × Rest) Stop

-- a reading that is another fails as that does
pub as_other : {A : Type 0} (why : Stop) (one other : Outcome A) → one ≡ other → Fails why other → Fails why one
as_other why one other same fails = subst (λ o. Fails why o) (sym same) fails

-- and gives what that gives
pub gives_other : {A : Type 0} (r : Read A) (one other : Outcome A) → one ≡ other → Gives (λ a. a) r other → Gives (λ a. a) r one
gives_other r one other same gives = subst (λ o. Gives (λ a. a) r o) (sym same) gives

-- ---- blocks

pub block_none : (n : ℕ) (i : Input) → n ≡ 0 → block n i ≡ Err (unexpected, i.tokens)
unfolding block
block_none n i e = rw e refl

-- behind the opening brace
abbrev inside : ℕ → Input → Outcome (List StmtTree)
inside n j = and_then (reader.until_brace (statement n) (length j.tokens) j) (λ all l. and_then (close_mark m.CloseBrace l) (λ _. pure all))

block_at : (n below : ℕ) (i : Input) → n ≡ suc below → block n i ≡ and_then (open_mark m.OpenBrace i) (λ _. inside below)
unfolding block statement
block_at n below i e = rw e refl

block_is : (n : ℕ) (i : Input) → 0 < n → block n i ≡ and_then (open_mark m.OpenBrace i) (λ _. inside (n - 1))
block_is n i h = block_at n (n - 1) i (omega (arith, h))

pub block_open_stops : (why : Stop) (n : ℕ) (i : Input) → 0 < n → Fails why (open_mark m.OpenBrace i) → Fails why (block n i)
block_open_stops why n i h fails = as_other why (block n i) _ (block_is n i h) (stops_first why (open_mark m.OpenBrace i) (λ _. inside (n - 1)) fails)

block_on : (n : ℕ) (t : Token) (i j : Input) → 0 < n → open_mark m.OpenBrace i ≡ Ok (t, j) → block n i ≡ inside (n - 1) j
block_on n t i j h opens = block_is n i h ∙ ap (λ o. and_then o (λ _. inside (n - 1))) opens

pub block_stops : (why : Stop) (n : ℕ) (t : Token) (i j : Input) → 0 < n → open_mark m.OpenBrace i ≡ Ok (t, j) → Fails why (reader.until_brace (statement (n - 1)) (length j.tokens) j) → Fails why (block n i)
block_stops why n t i j h opens fails = as_other why (block n i) _ (block_on n t i j h opens) (stops_first why _ (λ all l. and_then (close_mark m.CloseBrace l) (λ _. pure all)) fails)

block_read : (n : ℕ) (t : Token) (all : List StmtTree) (i j l : Input) → 0 < n → open_mark m.OpenBrace i ≡ Ok (t, j) → reader.until_brace (statement (n - 1)) (length j.tokens) j ≡ Ok (all, l)
    → block n i ≡ and_then (close_mark m.CloseBrace l) (λ _. pure all)
block_read n t all i j l h opens read = block_on n t i j h opens ∙ ap (λ o. and_then o (λ all l. and_then (close_mark m.CloseBrace l) (λ _. pure all))) read

pub block_close_stops : (why : Stop) (n : ℕ) (t : Token) (all : List StmtTree) (i j l : Input) → 0 < n → open_mark m.OpenBrace i ≡ Ok (t, j) → reader.until_brace (statement (n - 1)) (length j.tokens) j ≡ Ok (all, l)
    → Fails why (close_mark m.CloseBrace l) → Fails why (block n i)
block_close_stops why n t all i j l h opens read fails = as_other why (block n i) _ (block_read n t all i j l h opens read) (stops_first why _ (λ _. pure all) fails)

pub block_goes : (n : ℕ) (t u : Token) (all : List StmtTree) (i j l q : Input) → 0 < n → open_mark m.OpenBrace i ≡ Ok (t, j) → reader.until_brace (statement (n - 1)) (length j.tokens) j ≡ Ok (all, l)
    → close_mark m.CloseBrace l ≡ Ok (u, q) → block n i ≡ Ok (all, q)
block_goes n t u all i j l q h opens read closes = block_read n t all i j l h opens read ∙ ap (λ o. and_then o (λ _. pure all)) closes

-- ---- a `wait`

-- the closing parenthesis of a `wait`, behind its form
abbrev closed : StmtForm → Parser StmtForm
closed form i = and_then (close_mark m.CloseParen i) (λ _. pure form)

-- the semicolon of a `wait`, behind its form
abbrev ended : ℕ → StmtForm → Parser StmtTree
ended line form i = and_then (take_mark m.Semicolon i) (λ _. pure (made_statement line form))

waiting_is : (i : Input) → simple reader.waiting i ≡ waiting i
waiting_is i = by_word (take_any i)
  where
    by_close : (line : ℕ) (form : StmtForm) (o : Outcome Token) → and_then (and_then o (λ _. pure form)) (ended line) ≡ and_then (and_then o (λ _. take_mark m.Semicolon)) (λ _. pure (made_statement line form))
    by_close line form (Ok p) = refl
    by_close line form (Err why) = refl

    by_ticks : (line : ℕ) (a : ExprTree) (o : Outcome ExprTree) → and_then (and_then (and_then o (λ b. pure (s.TimedWait a b))) closed) (ended line)
        ≡ and_then o (λ b l. and_then (wait_end l) (λ _. pure (made_statement line (s.TimedWait a b))))
    by_ticks line a (Ok p) = by_close line (s.TimedWait a p.0) (close_mark m.CloseParen p.1)
    by_ticks line a (Err why) = refl

    by_comma : (line : ℕ) (a : ExprTree) (o : Outcome Token) → and_then (and_then (and_then o (λ _ j. and_then (expr j) (λ b. pure (s.TimedWait a b)))) closed) (ended line)
        ≡ and_then o (λ _ j. and_then (expr j) (λ b l. and_then (wait_end l) (λ _. pure (made_statement line (s.TimedWait a b)))))
    by_comma line a (Ok p) = by_ticks line a (expr p.1)
    by_comma line a (Err why) = refl

    by_test : (line : ℕ) (a : ExprTree) (j : Input) (test : Bool)
        → and_then (and_then (cond {A = Outcome StmtForm} test (and_then (take_any j) (λ _ j. and_then (expr j) (λ b. pure (s.TimedWait a b)))) (Ok (s.Wait a, j))) closed) (ended line)
        ≡ cond {A = Outcome StmtTree} test (and_then (take_any j) (λ _ j. and_then (expr j) (λ b l. and_then (wait_end l) (λ _. pure (made_statement line (s.TimedWait a b)))))) (and_then (wait_end j) (λ _. pure (made_statement line (s.Wait a))))
    by_test line a j true = by_comma line a (take_any j)
    by_test line a j false = by_close line (s.Wait a) (close_mark m.CloseParen j)

    by_expression : (line : ℕ) (o : Outcome ExprTree) → and_then (and_then (and_then o (reader.behind_waited expr)) closed) (ended line) ≡ and_then o (behind_waited line)
    by_expression line (Ok p) = by_test line p.0 p.1 (is_mark m.Comma (next_mark p.1.tokens))
    by_expression line (Err why) = refl

    by_open : (line : ℕ) (o : Outcome Token) → and_then (and_then o (λ _ j. and_then (reader.waited expr j) closed)) (ended line) ≡ and_then o (λ _ j. and_then (expr j) (behind_waited line))
    by_open line (Ok p) = by_expression line (expr p.1)
    by_open line (Err why) = refl

    by_word : (o : Outcome Token) → and_then o (λ t j. and_then (reader.parenthesized (reader.waited expr) j) (ended t.line)) ≡ and_then o (λ t j. and_then (open_mark m.OpenParen j) (λ _ l. and_then (expr l) (behind_waited t.line)))
    by_word (Ok p) = by_open p.0.line (open_mark m.OpenParen p.1)
    by_word (Err why) = refl

-- ---- statements by their first words

statement_is : (n : ℕ) (i : Input) (lead : reader.Lead) → reader.lead_of (next_keyword i.tokens) ≡ lead → statement n i ≡ reader.by_lead expr (block n) n lead i
unfolding statement block
statement_is n i lead is = ap (λ l. reader.by_lead expr (reader.block expr n) n l i) is

pub statement_if : (r : Read StmtTree) (n : ℕ) (i : Input) → reader.lead_of (next_keyword i.tokens) ≡ reader.conditional → Gives (λ a. a) r (chain n n i) → Gives (λ a. a) r (statement n i)
unfolding chain block
statement_if r n i is gives = gives_other r (statement n i) _ (statement_is n i reader.conditional is) gives

pub statement_guarded : (r : Read StmtTree) (n : ℕ) (which : Guarding) (i : Input) → reader.lead_of (next_keyword i.tokens) ≡ reader.guarded (guarding_of which) → Gives (λ a. a) r (guarded n which i) → Gives (λ a. a) r (statement n i)
unfolding guarded block
statement_guarded r n which i is gives = gives_other r (statement n i) _ (statement_is n i (reader.guarded (guarding_of which)) is) gives

pub statement_variable : (r : Read StmtTree) (n : ℕ) (i : Input) → reader.lead_of (next_keyword i.tokens) ≡ reader.variable → Gives (λ a. a) r (simple reader.variable i) → Gives (λ a. a) r (statement n i)
statement_variable r n i is gives = gives_other r (statement n i) _ (statement_is n i reader.variable is) gives

pub statement_command : (r : Read StmtTree) (n : ℕ) (made : ExprTree → StmtForm) (i : Input) → reader.lead_of (next_keyword i.tokens) ≡ reader.command made
    → Gives (λ a. a) r (simple (reader.command made) i) → Gives (λ a. a) r (statement n i)
statement_command r n made i is gives = gives_other r (statement n i) _ (statement_is n i (reader.command made) is) gives

pub statement_waiting : (r : Read StmtTree) (n : ℕ) (i : Input) → reader.lead_of (next_keyword i.tokens) ≡ reader.waiting → Gives (λ a. a) r (waiting i) → Gives (λ a. a) r (statement n i)
statement_waiting r n i is gives = gives_other r (statement n i) _ (statement_is n i reader.waiting is ∙ waiting_is i) gives

pub statement_returned : (r : Read StmtTree) (n : ℕ) (i : Input) → reader.lead_of (next_keyword i.tokens) ≡ reader.returned → Gives (λ a. a) r (simple reader.returned i) → Gives (λ a. a) r (statement n i)
statement_returned r n i is gives = gives_other r (statement n i) _ (statement_is n i reader.returned is) gives

pub statement_plain : (r : Read StmtTree) (n : ℕ) (i : Input) → reader.lead_of (next_keyword i.tokens) ≡ reader.plain → Gives (λ a. a) r (simple reader.plain i) → Gives (λ a. a) r (statement n i)
statement_plain r n i is gives = gives_other r (statement n i) _ (statement_is n i reader.plain is) gives

-- ---- an expression and a block

-- a line and an expression
abbrev headed : ℕ → ExprTree → Parser (ℕ × ExprTree)
headed line a = pure (line, a)

guarded_is : (n : ℕ) (which : Guarding) (i : Input) → guarded n which i ≡ and_then (guard i) (λ p j. and_then (block n j) (λ all. pure (made_statement p.0 (guarding_of which p.1 all))))
unfolding guarded block
guarded_is n which i = by_word (take_any i)
  where
    by_expression : (t : Token) (o : Outcome ExprTree) → and_then o (λ a l. and_then (block n l) (λ all. pure (made_statement t.line (guarding_of which a all))))
        ≡ and_then (and_then o (headed t.line)) (λ p j. and_then (block n j) (λ all. pure (made_statement p.0 (guarding_of which p.1 all))))
    by_expression t (Ok p) = refl
    by_expression t (Err why) = refl

    by_word : (o : Outcome Token) → and_then o (λ t j. and_then (parenthesized j) (λ a l. and_then (block n l) (λ all. pure (made_statement t.line (guarding_of which a all)))))
        ≡ and_then (and_then o (λ t j. and_then (parenthesized j) (headed t.line))) (λ p j. and_then (block n j) (λ all. pure (made_statement p.0 (guarding_of which p.1 all))))
    by_word (Ok p) = by_expression p.0 (parenthesized p.1)
    by_word (Err why) = refl

pub guarded_head_stops : (why : Stop) (n : ℕ) (which : Guarding) (i : Input) → Fails why (guard i) → Fails why (guarded n which i)
guarded_head_stops why n which i fails = as_other why (guarded n which i) _ (guarded_is n which i) (stops_first why (guard i) (λ p j. and_then (block n j) (λ all. pure (made_statement p.0 (guarding_of which p.1 all)))) fails)

guarded_on : (n line : ℕ) (which : Guarding) (a : ExprTree) (i j : Input) → guard i ≡ Ok ((line, a), j) → guarded n which i ≡ and_then (block n j) (λ all. pure (made_statement line (guarding_of which a all)))
guarded_on n line which a i j read = guarded_is n which i ∙ ap (λ o. and_then o (λ p j. and_then (block n j) (λ all. pure (made_statement p.0 (guarding_of which p.1 all))))) read

pub guarded_stops : (why : Stop) (n line : ℕ) (which : Guarding) (a : ExprTree) (i j : Input) → guard i ≡ Ok ((line, a), j) → Fails why (block n j) → Fails why (guarded n which i)
guarded_stops why n line which a i j read fails = as_other why (guarded n which i) _ (guarded_on n line which a i j read) (stops_first why (block n j) (λ all. pure (made_statement line (guarding_of which a all))) fails)

pub guarded_goes : (n line : ℕ) (which : Guarding) (a : ExprTree) (all : List StmtTree) (form : StmtForm) (i j l : Input) → guard i ≡ Ok ((line, a), j) → block n j ≡ Ok (all, l) → form ≡ guarding_of which a all
    → guarded n which i ≡ Ok (made_statement line form, l)
guarded_goes n line which a all form i j l read body same =
    guarded_on n line which a i j read ∙ ap (λ o. and_then o (λ all. pure (made_statement line (guarding_of which a all)))) body ∙ ap (λ (f : StmtForm). Ok (made_statement line f, l)) (sym same)

-- ---- conditions

behind_is : (n more line : ℕ) (a : ExprTree) (all : List StmtTree) (i : Input)
    → reader.behind_then (chained n more) (block n) line a all i ≡ and_then (otherwise n more i) (λ others. pure (made_statement line (s.If a all others)))
unfolding otherwise block
behind_is n more line a all i = by_else (is_keyword k.Else (next_keyword i.tokens))
  where
    by_chained : (o : Outcome StmtTree) → and_then o (λ other q. and_then (leave q) (λ _. pure (made_statement line (s.If a all (other ∷ [])))))
        ≡ and_then (and_then o (λ other j. and_then (leave j) (λ _. pure (other ∷ [])))) (λ others. pure (made_statement line (s.If a all others)))
    by_chained (Ok p) = refl
    by_chained (Err why) = refl

    by_level : (o : Outcome (Unit {0})) → and_then o (λ _ l. and_then (chained n more l) (λ other q. and_then (leave q) (λ _. pure (made_statement line (s.If a all (other ∷ []))))))
        ≡ and_then (and_then (and_then o (λ _. pure part.Chained)) (other_of n (chained n more))) (λ others. pure (made_statement line (s.If a all others)))
    by_level (Ok p) = by_chained (chained n more p.1)
    by_level (Err why) = refl

    by_if : (j : Input) (test : Bool)
        → cond {A = Outcome StmtTree} test (and_then (enter j) (λ _ l. and_then (chained n more l) (λ other q. and_then (leave q) (λ _. pure (made_statement line (s.If a all (other ∷ [])))))))
        (and_then (block n j) (λ others. pure (made_statement line (s.If a all others))))
        ≡ and_then (and_then (cond {A = Outcome Else} test (and_then (enter j) (λ _. pure part.Chained)) (Ok (part.Block, j))) (other_of n (chained n more))) (λ others. pure (made_statement line (s.If a all others)))
    by_if j true = by_level (enter j)
    by_if j false = refl

    by_word : (o : Outcome Token)
        → and_then o (λ _ j. cond {A = Outcome StmtTree} (is_keyword k.If (next_keyword j.tokens)) (and_then (enter j) (λ _ l. and_then (chained n more l) (λ other q. and_then (leave q) (λ _. pure (made_statement line (s.If a all (other ∷ [])))))))
        (and_then (block n j) (λ others. pure (made_statement line (s.If a all others)))))
        ≡ and_then (and_then (and_then o (λ _ j. cond {A = Outcome Else} (is_keyword k.If (next_keyword j.tokens)) (and_then (enter j) (λ _. pure part.Chained)) (Ok (part.Block, j)))) (other_of n (chained n more)))
        (λ others. pure (made_statement line (s.If a all others)))
    by_word (Ok p) = by_if p.1 (is_keyword k.If (next_keyword p.1.tokens))
    by_word (Err why) = refl

    by_else : (test : Bool)
        → cond {A = Outcome StmtTree} test (and_then (take_any i) (λ _ j. cond {A = Outcome StmtTree} (is_keyword k.If (next_keyword j.tokens)) (and_then (enter j) (λ _ l. and_then (chained n more l) (λ other q. and_then (leave q) (λ _. pure (made_statement line (s.If a all (other ∷ [])))))))
        (and_then (block n j) (λ others. pure (made_statement line (s.If a all others))))))
        (Ok (made_statement line (s.If a all []), i))
        ≡ and_then (and_then (cond {A = Outcome Else} test (and_then (take_any i) (λ _ j. cond {A = Outcome Else} (is_keyword k.If (next_keyword j.tokens)) (and_then (enter j) (λ _. pure part.Chained)) (Ok (part.Block, j)))) (Ok (part.Nothing, i)))
        (other_of n (chained n more))) (λ others. pure (made_statement line (s.If a all others)))
    by_else true = by_word (take_any i)
    by_else false = refl

-- behind the condition of an `if`
abbrev then_part : ℕ → ℕ → ℕ × ExprTree → Parser StmtTree
then_part n more p j = and_then (block n j) (λ all l. reader.behind_then (chained n more) (block n) p.0 p.1 all l)

chain_is : (n more : ℕ) (i : Input) → chain n more i ≡ and_then (condition i) (then_part n more)
unfolding chain block
chain_is n more i = by_more more
  where
    by_expression : (more line : ℕ) (o : Outcome ExprTree) → and_then o (λ a l. and_then (block n l) (λ all. reader.behind_then (chained n more) (block n) line a all)) ≡ and_then (and_then o (headed line)) (then_part n more)
    by_expression more line (Ok p) = refl
    by_expression more line (Err why) = refl

    by_word : (more : ℕ) (o : Outcome Token) → and_then o (λ t j. and_then (parenthesized j) (λ a l. and_then (block n l) (λ all. reader.behind_then (chained n more) (block n) t.line a all)))
        ≡ and_then (and_then o (λ t j. and_then (parenthesized j) (headed t.line))) (then_part n more)
    by_word more (Ok p) = by_expression more p.0.line (parenthesized p.1)
    by_word more (Err why) = refl

    by_more : (more : ℕ) → chain n more i ≡ and_then (condition i) (then_part n more)
    by_more zero = by_word zero (take_keyword k.If i)
    by_more (suc more) = by_word (suc more) (take_keyword k.If i)

pub chain_head_stops : (why : Stop) (n more : ℕ) (i : Input) → Fails why (condition i) → Fails why (chain n more i)
chain_head_stops why n more i fails = as_other why (chain n more i) _ (chain_is n more i) (stops_first why (condition i) (then_part n more) fails)

chain_on : (n more line : ℕ) (a : ExprTree) (i j : Input) → condition i ≡ Ok ((line, a), j) → chain n more i ≡ then_part n more (line, a) j
chain_on n more line a i j read = chain_is n more i ∙ ap (λ o. and_then o (then_part n more)) read

pub chain_block_stops : (why : Stop) (n more line : ℕ) (a : ExprTree) (i j : Input) → condition i ≡ Ok ((line, a), j) → Fails why (block n j) → Fails why (chain n more i)
chain_block_stops why n more line a i j read fails = as_other why (chain n more i) _ (chain_on n more line a i j read) (stops_first why (block n j) (λ all l. reader.behind_then (chained n more) (block n) line a all l) fails)

chain_then : (n more line : ℕ) (a : ExprTree) (all : List StmtTree) (i j l : Input) → condition i ≡ Ok ((line, a), j) → block n j ≡ Ok (all, l)
    → chain n more i ≡ and_then (otherwise n more l) (λ others. pure (made_statement line (s.If a all others)))
chain_then n more line a all i j l read body =
    chain_on n more line a i j read ∙ ap (λ o. and_then o (λ all l. reader.behind_then (chained n more) (block n) line a all l)) body ∙ behind_is n more line a all l

pub chain_stops : (why : Stop) (n more line : ℕ) (a : ExprTree) (all : List StmtTree) (i j l : Input) → condition i ≡ Ok ((line, a), j) → block n j ≡ Ok (all, l) → Fails why (otherwise n more l) → Fails why (chain n more i)
chain_stops why n more line a all i j l read body fails = as_other why (chain n more i) _ (chain_then n more line a all i j l read body) (stops_first why (otherwise n more l) (λ others. pure (made_statement line (s.If a all others))) fails)

pub chain_goes : (n more line : ℕ) (a : ExprTree) (all others : List StmtTree) (i j l q : Input) → condition i ≡ Ok ((line, a), j) → block n j ≡ Ok (all, l) → otherwise n more l ≡ Ok (others, q)
    → chain n more i ≡ Ok (made_statement line (s.If a all others), q)
chain_goes n more line a all others i j l q read body rest = chain_then n more line a all i j l read body ∙ ap (λ o. and_then o (λ others. pure (made_statement line (s.If a all others)))) rest

-- ---- what follows an `else`

pub otherwise_head_stops : (why : Stop) (n more : ℕ) (i : Input) → Fails why (else_part i) → Fails why (otherwise n more i)
unfolding otherwise
otherwise_head_stops why n more i fails = stops_first why (else_part i) (other_of n (chained n more)) fails

otherwise_on : (n more : ℕ) (next this : Else) (i j : Input) → else_part i ≡ Ok (next, j) → next ≡ this → otherwise n more i ≡ other_of n (chained n more) this j
unfolding otherwise
otherwise_on n more next this i j read is = ap (λ o. and_then o (other_of n (chained n more))) read ∙ ap (λ q. other_of n (chained n more) q j) is

pub otherwise_none : (n more : ℕ) (next : Else) (all : List StmtTree) (i j : Input) → else_part i ≡ Ok (next, j) → next ≡ part.Nothing → all ≡ [] → otherwise n more i ≡ Ok (all, j)
otherwise_none n more next all i j read is same = otherwise_on n more next part.Nothing i j read is ∙ ap (λ (z : List StmtTree). Ok (z, j)) (sym same)

pub otherwise_block : (r : Read (List StmtTree)) (n more : ℕ) (next : Else) (i j : Input) → else_part i ≡ Ok (next, j) → next ≡ part.Block → Gives (λ a. a) r (block n j) → Gives (λ a. a) r (otherwise n more i)
unfolding block
otherwise_block r n more next i j read is gives = gives_other r (otherwise n more i) _ (otherwise_on n more next part.Block i j read is) gives

pub otherwise_last : (n more : ℕ) (next : Else) (i j : Input) → else_part i ≡ Ok (next, j) → next ≡ part.Chained → more ≡ 0 → otherwise n more i ≡ Err (unexpected, j.tokens)
otherwise_last n more next i j read is none = otherwise_on n more next part.Chained i j read is ∙ ap (λ z. other_of n (chained n z) part.Chained j) none

-- the level given back, behind a chained `if`
abbrev behind_chained : StmtTree → Parser (List StmtTree)
behind_chained other j = and_then (leave j) (λ _. pure (other ∷ []))

otherwise_at : (n more below : ℕ) (next : Else) (i j : Input) → else_part i ≡ Ok (next, j) → next ≡ part.Chained → more ≡ suc below → otherwise n more i ≡ and_then (chain n below j) behind_chained
unfolding chain
otherwise_at n more below next i j read is some = otherwise_on n more next part.Chained i j read is ∙ ap (λ z. other_of n (chained n z) part.Chained j) some

otherwise_is : (n more : ℕ) (next : Else) (i j : Input) → else_part i ≡ Ok (next, j) → next ≡ part.Chained → 0 < more → otherwise n more i ≡ and_then (chain n (more - 1) j) behind_chained
otherwise_is n more next i j read is some = otherwise_at n more (more - 1) next i j read is (omega (arith, some))

pub otherwise_stops : (why : Stop) (n more : ℕ) (next : Else) (i j : Input) → else_part i ≡ Ok (next, j) → next ≡ part.Chained → 0 < more → Fails why (chain n (more - 1) j) → Fails why (otherwise n more i)
otherwise_stops why n more next i j read is some fails = as_other why (otherwise n more i) _ (otherwise_is n more next i j read is some) (stops_first why (chain n (more - 1) j) behind_chained fails)

one_more : (n : ℕ) → suc n ≡ n + 1
one_more n = omega arith

pub otherwise_goes : (n more : ℕ) (next : Else) (other : StmtTree) (all : List StmtTree) (i j l : Input) → else_part i ≡ Ok (next, j) → next ≡ part.Chained → 0 < more → chain n (more - 1) j ≡ Ok (other, l)
    → all ≡ other ∷ [] → otherwise n more i ≡ Ok (all, record { tokens = l.tokens; room = l.room + 1 })
otherwise_goes n more next other all i j l read is some chains same =
    otherwise_is n more next i j read is some ∙ ap (λ o. and_then o behind_chained) chains
    ∙ ap (λ (z : List StmtTree). Ok (z, record { tokens = l.tokens; room = suc l.room })) (sym same) ∙ ap (λ r. Ok (all, record { tokens = l.tokens; room = r })) (one_more l.room)
