-- Readers of statements, members and whole programs go in lockstep.
use Rattle.std.proofs.Common.{◌≡◌, ℕ, zero, suc, ◌+◌, ◌≤◌, ◌<◌, Bool, true, false, cond, List, [], ◌∷◌, ◌++◌, length, Some, None, Ok, Err, refl, sym, subst, ◌∙◌, ◌-◌, arith, length-append}
use Rattle.dso_tokens.specs.declared.token.Keyword.TheVariants as k
use Rattle.dso_tokens.specs.declared.token.Mark.TheVariants as m
use Rattle.dso_tokens.specs.declared.token.Form.{Form}
use Rattle.dso_tokens.specs.declared.token.Form.TheVariants as form
use Rattle.dso_tokens.specs.declared.token.Token.{Token}
use Rattle.dso_syntax.specs.declared.tree.Ident.{Ident}
use Rattle.dso_syntax.specs.declared.tree.Item.{Item}
use Rattle.dso_syntax.specs.declared.tree.Item.TheVariants as item
use Rattle.dso_syntax.specs.declared.tree.Member.TheVariants as member
use Rattle.dso_syntax.specs.declared.tree.StmtTree.{StmtTree}
use Rattle.dso_syntax.specs.declared.tree.StmtForm.TheVariants as s
use Rattle.dso_syntax.specs.declared.tree.ExprTree.{ExprTree, out-ExprTree}
use Rattle.dso_syntax.specs.declared.tree.ExprForm.{out-ExprForm}
use Rattle.dso_syntax.specs.Grammar.{Tokens, line_of}
use Rattle.dso_syntax.specs.ProgramGrammar.{statement, is_place}
use Rattle.dso_syntax.specs.ExpressionReader.{Input, StopCause, unexpected, too_wide, Outcome, Parser, and_then, pure, refuse, is_mark, is_keyword, next_mark, next_keyword, take_any, take_mark, take_keyword, enter, leave, open_mark, close_mark, take_name, whole}
use Rattle.dso_syntax.specs.ProgramReader.{parenthesized, until_brace, braced, Lead, variable, conditional, guarded, command, waiting, returned, plain, lead_of, behind_expression, behind_waited, waited, behind_return, behind_var, behind_then, chain, by_lead, one_statement, block, names, parameters, method, Start, field, static, synchronized, named, start_of, next_line, by_start, one_member, number_by, number_from, one_item, items_from, program}
use Rattle.dso_syntax.proofs.completeness.ReadSteps.{at}
use Rattle.dso_syntax.proofs.soundness.SoundSteps.{err_is}
use Rattle.dso_syntax.proofs.lockstep.LockstepSteps.{Setting, Twin, itself, narrower, left_of, right_of, Passed, Sides, same, fails, passed, Both, refused, both_then, both_on, alike_mark, alike_keyword, alike_line, alike_through, two_ways, looser, within, both_pure, both_refuse, both_any, both_enter, both_leave, both_mark, both_keyword, both_open, both_close, both_name, second_stops, nowhere, rooms}
use Rattle.dso_syntax.proofs.lockstep.LockstepExpressions.{Deep, whole_both, not_wide}

-- readers in lockstep that take a token at least, where fewer than so many levels may be opened
pub record DeepOf {A : Type 0} (S : Setting) (F : ℕ) (P Q : Parser A) : Type 0 where
  pub both : (M N : ℕ) → M ≤ F → Both S M (suc N) M N P Q

-- ---- rows in braces

until_pick : {A : Type 0} (S : Setting) (M N : ℕ) (P Q : Parser (List A)) → Both S M N M N P Q
    → Both S M N M N (λ i. cond (is_mark m.CloseBrace (next_mark i.tokens)) (Ok ([], i)) (P i)) (λ i. cond (is_mark m.CloseBrace (next_mark i.tokens)) (Ok ([], i)) (Q i))
until_pick S M N P Q on = both_on S (λ ts. is_mark m.CloseBrace (next_mark ts)) {P = λ x i. cond x (Ok ([], i)) (P i)} {Q = λ x i. cond x (Ok ([], i)) (Q i)}
    (alike_through S (is_mark m.CloseBrace) (alike_mark S)) (two_ways S (both_pure S []) on)

until_beyond : {A : Type 0} (S : Setting) (F : ℕ) (P Q : Parser A) → DeepOf S F P Q → (n : ℕ) (i : Input) → length i.tokens ≤ length S.behind_first → Passed S (until_brace P n i)
until_beyond S F P Q deep zero i short = (until_pick S zero zero refuse refuse (both_refuse S)).beyond i short
until_beyond S F P Q deep (suc n) i short = (until_pick S zero zero (λ i. and_then (P i) (λ a j. and_then (until_brace P n j) (λ all. pure (a ∷ all)))) (λ i. and_then (Q i) (λ a j. and_then (until_brace P n j) (λ all. pure (a ∷ all))))
    (both_then S {K = zero} {L = zero} (looser S (deep.both zero zero (omega arith))) (λ a. both_then S {K = zero} {L = zero} (nowhere S {Q = until_brace P n} (until_beyond S F P Q deep n)) (λ all. both_pure S (a ∷ all))))).beyond i short

until_both : {A : Type 0} (S : Setting) (F : ℕ) (P Q : Parser A) → DeepOf S F P Q → (n other : ℕ) (M N : ℕ) → M ≤ F → N ≤ n → Both S M N M N (until_brace P n) (until_brace Q other)
until_both S F P Q deep n other M zero most bound = record { before = λ s m n' room len related. absurd (omega (arith, len)); beyond = until_beyond S F P Q deep n }
until_both S F P Q deep zero other M (suc N) most bound = absurd (omega (arith, bound))
until_both S F P Q deep (suc n) zero M (suc N) most bound =
    until_pick S M (suc N) (λ i. and_then (P i) (λ a j. and_then (until_brace P n j) (λ all. pure (a ∷ all)))) refuse (second_stops S (λ i. (unexpected, i.tokens))
    (both_then S {M = zero} {N = zero} {K = zero} {L = zero} {M' = zero} {N' = zero} (looser S (deep.both zero zero (omega arith))) (λ a. both_then S {K = zero} {L = zero} (nowhere S {Q = until_brace P n} (until_beyond S F P Q deep n)) (λ all. both_pure S (a ∷ all)))).beyond)
until_both S F P Q deep (suc n) (suc other) M (suc N) most bound =
    until_pick S M (suc N) (λ i. and_then (P i) (λ a j. and_then (until_brace P n j) (λ all. pure (a ∷ all)))) (λ i. and_then (Q i) (λ a j. and_then (until_brace Q other j) (λ all. pure (a ∷ all))))
    (within S {M' = M} {N' = N} (omega arith) (omega arith) (omega arith) (omega arith) (both_then S {K = M} {L = N} (deep.both M N most) (λ a. both_then S {K = M} {L = N} (until_both S F P Q deep n other M N most (omega (arith, bound))) (λ all. both_pure S (a ∷ all)))))

until_length : {A : Type 0} (S : Setting) (F : ℕ) (P Q : Parser A) → DeepOf S F P Q → (M N : ℕ) → M ≤ F → Both S M N M N (λ i. until_brace P (length i.tokens) i) (λ i. until_brace Q (length i.tokens) i)
until_length S F P Q deep M N most = record {
  before = λ s m n room len related.
      let all : length (left_of S s) ≡ length s + suc (length S.behind_first) = length-append s (S.first ∷ S.behind_first) in
      (within S {K = M} {L = suc (length s)} {K' = M} {L' = N} (omega arith) (omega arith) (omega arith) (omega (arith, len)) (until_both S F P Q deep (length (left_of S s)) (length (right_of S s)) M (suc (length s)) most (omega (arith, all)))).before s m n room (omega arith) related;
  beyond = λ i short. until_beyond S F P Q deep (length i.tokens) i short;
}

braced_some : {A : Type 0} (S : Setting) (F : ℕ) (P Q : Parser A) → DeepOf S F P Q → (K N : ℕ) → K ≤ F → Both S (suc K) (suc N) (suc K) N (braced P) (braced Q)
braced_some S F P Q deep K N less = both_then S {K = K} {L = N} (both_open S m.OpenBrace) (λ _. both_then S {K = K} {L = N} (until_length S F P Q deep K N less)
    (λ all. both_then S {K = suc K} {L = N} (looser S (both_close S m.CloseBrace)) (λ _. both_pure S all)))

braced_both : {A : Type 0} (S : Setting) (F : ℕ) (P Q : Parser A) → DeepOf S F P Q → DeepOf S (suc F) (braced P) (braced Q)
braced_both S F P Q deep = record { both = λ M N most. rooms S F {P = braced P} {Q = braced Q} (λ K less. braced_some S F P Q deep K N less) M most }

-- ---- statements

inside_both : {A : Type 0} (S : Setting) (F : ℕ) (P Q : Parser A) (N : ℕ) → ((K : ℕ) → K ≤ F → Both S K N K N P Q) → (M : ℕ) → M ≤ suc F → Both S M N M N (parenthesized P) (parenthesized Q)
inside_both S F P Q N inner M most = rooms S F {P = parenthesized P} {Q = parenthesized Q} (λ K less. both_then S {K = K} {L = N} (looser S (both_open S m.OpenParen)) (λ _. both_then S {K = K} {L = N} (inner K less)
    (λ a. both_then S {K = suc K} {L = N} (looser S (both_close S m.CloseParen)) (λ _. both_pure S a)))) M most

paren_both : (S : Setting) (F : ℕ) (P Q : Parser ExprTree) → Deep S F P Q → (M N : ℕ) → M ≤ suc F → Both S M N M N (parenthesized P) (parenthesized Q)
paren_both S F P Q deep M N most = inside_both S F P Q N (λ K less. looser S (deep.both K N less)) M most

behind_waited_both : (S : Setting) (F : ℕ) (P Q : Parser ExprTree) → Deep S F P Q → (a : ExprTree) (M N : ℕ) → M ≤ F → Both S M N M N (behind_waited P a) (behind_waited Q a)
behind_waited_both S F P Q deep a M N most = both_on S (λ ts. is_mark m.Comma (next_mark ts))
    {P = λ x i. cond x (and_then (take_any i) (λ _ j. and_then (P j) (λ b. pure (s.TimedWait a b)))) (Ok (s.Wait a, i))}
    {Q = λ x i. cond x (and_then (take_any i) (λ _ j. and_then (Q j) (λ b. pure (s.TimedWait a b)))) (Ok (s.Wait a, i))}
    (alike_through S (is_mark m.Comma) (alike_mark S))
    (two_ways S (both_then S {K = M} {L = N} (looser S (both_any S)) (λ _. both_then S {K = M} {L = N} (looser S (deep.both M N most)) (λ b. both_pure S (s.TimedWait a b)))) (both_pure S (s.Wait a)))

waited_both : (S : Setting) (F : ℕ) (P Q : Parser ExprTree) → Deep S F P Q → (M N : ℕ) → M ≤ F → Both S M N M N (waited P) (waited Q)
waited_both S F P Q deep M N most = both_then S {K = M} {L = N} (looser S (deep.both M N most)) (λ a. behind_waited_both S F P Q deep a M N most)

semicolon_both : (S : Setting) (M N : ℕ) {A : Type 0} (a : A) → Both S M N M N (λ i. and_then (take_mark m.Semicolon i) (λ _. pure a)) (λ i. and_then (take_mark m.Semicolon i) (λ _. pure a))
semicolon_both S M N a = both_then S {K = M} {L = N} (looser S (both_mark S m.Semicolon)) (λ _. both_pure S a)

behind_expression_both : (S : Setting) (F : ℕ) (P Q : Parser ExprTree) → Deep S F P Q → (a : ExprTree) (M N : ℕ) → M ≤ F → Both S M N M N (behind_expression P a) (behind_expression Q a)
behind_expression_both S F P Q deep a M N most = both_on S (λ ts. is_mark m.Assign (next_mark ts))
    {P = λ x i. cond x (cond (is_place (out-ExprForm (out-ExprTree a).form)) (and_then (take_any i) (λ _ j. and_then (P j) (λ b l. and_then (take_mark m.Semicolon l) (λ _. pure (statement (line_of a) (s.Assign a b)))))) (refuse i)) (and_then (take_mark m.Semicolon i) (λ _. pure (statement (line_of a) (s.Eval a))))}
    {Q = λ x i. cond x (cond (is_place (out-ExprForm (out-ExprTree a).form)) (and_then (take_any i) (λ _ j. and_then (Q j) (λ b l. and_then (take_mark m.Semicolon l) (λ _. pure (statement (line_of a) (s.Assign a b)))))) (refuse i)) (and_then (take_mark m.Semicolon i) (λ _. pure (statement (line_of a) (s.Eval a))))}
    (alike_through S (is_mark m.Assign) (alike_mark S))
    (two_ways S (two_ways S (both_then S {K = M} {L = N} (looser S (both_any S)) (λ _. both_then S {K = M} {L = N} (looser S (deep.both M N most)) (λ b. semicolon_both S M N (statement (line_of a) (s.Assign a b))))) (both_refuse S) (is_place (out-ExprForm (out-ExprTree a).form)))
    (semicolon_both S M N (statement (line_of a) (s.Eval a))))

behind_return_both : (S : Setting) (F : ℕ) (P Q : Parser ExprTree) → Deep S F P Q → (line : ℕ) (M N : ℕ) → M ≤ F → Both S M N M N (behind_return P line) (behind_return Q line)
behind_return_both S F P Q deep line M N most = both_on S (λ ts. is_mark m.Semicolon (next_mark ts))
    {P = λ x i. cond x (and_then (take_any i) (λ _. pure (statement line (s.Return None)))) (and_then (P i) (λ a j. and_then (take_mark m.Semicolon j) (λ _. pure (statement line (s.Return (Some a))))))}
    {Q = λ x i. cond x (and_then (take_any i) (λ _. pure (statement line (s.Return None)))) (and_then (Q i) (λ a j. and_then (take_mark m.Semicolon j) (λ _. pure (statement line (s.Return (Some a))))))}
    (alike_through S (is_mark m.Semicolon) (alike_mark S))
    (two_ways S (both_then S {K = M} {L = N} (looser S (both_any S)) (λ _. both_pure S (statement line (s.Return None)))) (both_then S {K = M} {L = N} (looser S (deep.both M N most)) (λ a. semicolon_both S M N (statement line (s.Return (Some a))))))

behind_var_both : (S : Setting) (F : ℕ) (P Q : Parser ExprTree) → Deep S F P Q → (line : ℕ) (M N : ℕ) → M ≤ F → Both S M N M N (behind_var P line) (behind_var Q line)
behind_var_both S F P Q deep line M N most = both_then S {K = M} {L = N} (looser S (both_name S)) (λ name. both_then S {K = M} {L = N} (looser S (both_mark S m.Assign)) (λ _. both_then S {K = M} {L = N} (looser S (deep.both M N most))
    (λ a. semicolon_both S M N (statement line (s.Var name a)))))

-- behind an `else`
else_both : (S : Setting) (C D : Parser StmtTree) (P Q : Parser (List StmtTree)) (line : ℕ) (a : ExprTree) (all : List StmtTree) (M N : ℕ) → ((K : ℕ) → K ≤ M - 1 → Both S K N K N C D) → Both S M N M N P Q
    → Both S M N M N (λ j. cond (is_keyword k.If (next_keyword j.tokens)) (and_then (enter j) (λ _ l. and_then (C l) (λ other q. and_then (leave q) (λ _. pure (statement line (s.If a all (other ∷ []))))))) (and_then (P j) (λ others. pure (statement line (s.If a all others)))))
    (λ j. cond (is_keyword k.If (next_keyword j.tokens)) (and_then (enter j) (λ _ l. and_then (D l) (λ other q. and_then (leave q) (λ _. pure (statement line (s.If a all (other ∷ []))))))) (and_then (Q j) (λ others. pure (statement line (s.If a all others)))))
else_both S C D P Q line a all M N chained body = both_on S (λ ts. is_keyword k.If (next_keyword ts))
    {P = λ x j. cond x (and_then (enter j) (λ _ l. and_then (C l) (λ other q. and_then (leave q) (λ _. pure (statement line (s.If a all (other ∷ []))))))) (and_then (P j) (λ others. pure (statement line (s.If a all others))))}
    {Q = λ x j. cond x (and_then (enter j) (λ _ l. and_then (D l) (λ other q. and_then (leave q) (λ _. pure (statement line (s.If a all (other ∷ []))))))) (and_then (Q j) (λ others. pure (statement line (s.If a all others))))}
    (alike_through S (is_keyword k.If) (alike_keyword S))
    (two_ways S (rooms S (M - 1) {P = λ j. and_then (enter j) (λ _ l. and_then (C l) (λ other q. and_then (leave q) (λ _. pure (statement line (s.If a all (other ∷ []))))))} {Q = λ j. and_then (enter j) (λ _ l. and_then (D l) (λ other q. and_then (leave q) (λ _. pure (statement line (s.If a all (other ∷ []))))))}
    (λ K less. both_then S {K = K} {L = N} (both_enter S) (λ _. both_then S {K = K} {L = N} (chained K less) (λ other. both_then S {K = suc K} {L = N} (both_leave S) (λ _. both_pure S (statement line (s.If a all (other ∷ []))))))) M (omega arith))
    (both_then S {K = M} {L = N} body (λ others. both_pure S (statement line (s.If a all others)))))

then_both : (S : Setting) (C D : Parser StmtTree) (P Q : Parser (List StmtTree)) (line : ℕ) (a : ExprTree) (all : List StmtTree) (M N : ℕ) → ((K : ℕ) → K ≤ M - 1 → Both S K N K N C D) → Both S M N M N P Q
    → Both S M N M N (behind_then C P line a all) (behind_then D Q line a all)
then_both S C D P Q line a all M N chained body = both_on S (λ ts. is_keyword k.Else (next_keyword ts))
    {P = λ x i. cond x (and_then (take_any i) (λ _ j. cond (is_keyword k.If (next_keyword j.tokens)) (and_then (enter j) (λ _ l. and_then (C l) (λ other q. and_then (leave q) (λ _. pure (statement line (s.If a all (other ∷ []))))))) (and_then (P j) (λ others. pure (statement line (s.If a all others)))))) (Ok (statement line (s.If a all []), i))}
    {Q = λ x i. cond x (and_then (take_any i) (λ _ j. cond (is_keyword k.If (next_keyword j.tokens)) (and_then (enter j) (λ _ l. and_then (D l) (λ other q. and_then (leave q) (λ _. pure (statement line (s.If a all (other ∷ []))))))) (and_then (Q j) (λ others. pure (statement line (s.If a all others)))))) (Ok (statement line (s.If a all []), i))}
    (alike_through S (is_keyword k.Else) (alike_keyword S))
    (two_ways S (both_then S {K = M} {L = N} (looser S (both_any S)) (λ _. else_both S C D P Q line a all M N chained body)) (both_pure S (statement line (s.If a all []))))

-- an `if`, by what reads the one behind its `else`
abbrev if_with : Parser StmtTree → Parser ExprTree → Parser (List StmtTree) → Parser StmtTree
if_with C P B i = and_then (take_keyword k.If i) (λ t j. and_then (parenthesized P j) (λ a l. and_then (B l) (λ all. behind_then C B t.line a all)))

if_both : (S : Setting) (F G : ℕ) (C D : Parser StmtTree) (P Q : Parser ExprTree) (A B : Parser (List StmtTree)) → Deep S F P Q → DeepOf S G A B → (M N : ℕ) → ((K : ℕ) → K ≤ M - 1 → Both S K N K N C D) → M ≤ suc F → M ≤ G
    → Both S M (suc N) M N (if_with C P A) (if_with D Q B)
if_both S F G C D P Q A B deep body M N chained most bound = both_then S {K = M} {L = N} (both_keyword S k.If) (λ t. both_then S {K = M} {L = N} (paren_both S F P Q deep M N most)
    (λ a. both_then S {K = M} {L = N} (looser S (body.both M N bound)) (λ all. then_both S C D A B t.line a all M N chained (looser S (body.both M N bound)))))

-- no room at all
small : {A : Type 0} (S : Setting) (N : ℕ) (P Q : Parser A) → ((i : Input) → length i.tokens ≤ length S.behind_first → Passed S (P i)) → (K : ℕ) → K ≤ zero → Both S K N K N P Q
small S N P Q beyond zero less = nowhere S beyond
small S N P Q beyond (suc K) less = absurd (omega (arith, less))

chain_both : (S : Setting) (F G : ℕ) (P Q : Parser ExprTree) (A B : Parser (List StmtTree)) → Deep S F P Q → DeepOf S G A B → (n other M N : ℕ) → M ≤ suc n → M ≤ suc F → M ≤ G
    → Both S M (suc N) M N (chain P A n) (chain Q B other)
chain_both S F G P Q A B deep body zero zero M N count most bound = if_both S F G refuse refuse P Q A B deep body M N (λ K less. both_refuse S) most bound
chain_both S F G P Q A B deep body zero (suc other) M N count most bound =
    if_both S F G refuse (chain Q B other) P Q A B deep body M N (λ K less. small S N refuse (chain Q B other) (λ i short. refused S i unexpected short) K (omega (arith, less, count))) most bound
chain_both S F G P Q A B deep body (suc n) zero M N count most bound =
    if_both S F G (chain P A n) refuse P Q A B deep body M N (λ K less. second_stops S (λ i. (unexpected, i.tokens)) (chain_both S F G P Q A B deep body n zero zero zero (omega arith) (omega arith) (omega arith)).beyond) most bound
chain_both S F G P Q A B deep body (suc n) (suc other) M N count most bound =
    if_both S F G (chain P A n) (chain Q B other) P Q A B deep body M N (λ K less. looser S (chain_both S F G P Q A B deep body n other K N (omega (arith, less, count)) (omega (arith, less, most)) (omega (arith, less, bound)))) most bound

lead_both : (S : Setting) (F G : ℕ) (P Q : Parser ExprTree) (A B : Parser (List StmtTree)) → Deep S F P Q → DeepOf S G A B → (n other M N : ℕ) → M ≤ suc n → M ≤ F → M ≤ G → (lead : Lead)
    → Both S M (suc N) M N (by_lead P A n lead) (by_lead Q B other lead)
lead_both S F G P Q A B deep body n other M N count most bound variable = both_then S {K = M} {L = N} (both_any S) (λ t. behind_var_both S F P Q deep t.line M N most)
lead_both S F G P Q A B deep body n other M N count most bound conditional = chain_both S F G P Q A B deep body n other M N count (omega (arith, most)) bound
lead_both S F G P Q A B deep body n other M N count most bound (guarded made) = both_then S {K = M} {L = N} (both_any S) (λ t. both_then S {K = M} {L = N} (paren_both S F P Q deep M N (omega (arith, most)))
    (λ a. both_then S {K = M} {L = N} (looser S (body.both M N bound)) (λ all. both_pure S (statement t.line (made a all)))))
lead_both S F G P Q A B deep body n other M N count most bound (command made) = both_then S {K = M} {L = N} (both_any S) (λ t. both_then S {K = M} {L = N} (paren_both S F P Q deep M N (omega (arith, most))) (λ a. semicolon_both S M N (statement t.line (made a))))
lead_both S F G P Q A B deep body n other M N count most bound waiting = both_then S {K = M} {L = N} (both_any S) (λ t. both_then S {K = M} {L = N} (inside_both S F (waited P) (waited Q) N (λ K less. waited_both S F P Q deep K N less) M (omega (arith, most))) (λ form. semicolon_both S M N (statement t.line form)))
lead_both S F G P Q A B deep body n other M N count most bound returned = both_then S {K = M} {L = N} (both_any S) (λ t. behind_return_both S F P Q deep t.line M N most)
lead_both S F G P Q A B deep body n other M N count most bound plain = both_then S {K = M} {L = N} (deep.both M N most) (λ a. behind_expression_both S F P Q deep a M N most)

statement_both : (S : Setting) (F G : ℕ) (P Q : Parser ExprTree) (A B : Parser (List StmtTree)) → Deep S F P Q → DeepOf S G A B → (n other : ℕ) → G ≤ F → G ≤ n → DeepOf S G (one_statement P A n) (one_statement Q B other)
statement_both S F G P Q A B deep body n other most count = record {
  both = λ M N less. both_on S (λ ts. lead_of (next_keyword ts)) {P = by_lead P A n} {Q = by_lead Q B other} (alike_through S lead_of (alike_keyword S))
      (lead_both S F G P Q A B deep body n other M N (omega (arith, less, count)) (omega (arith, less, most)) less);
}

-- blocks, with fewer levels than are counted
block_both : (S : Setting) (F : ℕ) (P Q : Parser ExprTree) → Deep S F P Q → (n other : ℕ) → n ≤ F → DeepOf S n (block P n) (block Q other)
block_both S F P Q deep zero other most = record { both = λ M N less. within S {M = zero} {N = suc N} {M' = M} {N' = N} {K = M} {L = suc N} less (omega arith) (omega arith) (omega arith) (nowhere S (λ i short. refused S i unexpected short)) }
block_both S F P Q deep (suc n) zero most = record {
  both = λ M N less. second_stops S (λ i. (unexpected, i.tokens))
      ((braced_both S n (one_statement P (block P n) n) (one_statement Q (block Q zero) zero) (statement_both S F n P Q (block P n) (block Q zero) deep (block_both S F P Q deep n zero (omega (arith, most))) n zero (omega (arith, most)) (omega arith))).both zero zero (omega arith)).beyond;
}
block_both S F P Q deep (suc n) (suc other) most = record {
  both = (braced_both S n (one_statement P (block P n) n) (one_statement Q (block Q other) other)
      (statement_both S F n P Q (block P n) (block Q other) deep (block_both S F P Q deep n other (omega (arith, most))) n other (omega (arith, most)) (omega arith))).both;
}

-- ---- members

more_names : (S : Setting) (P Q : Parser (List Ident)) {M N : ℕ} → Both S M N M N P Q → (name : Ident)
    → Both S M N M N (λ j. cond (is_mark m.Comma (next_mark j.tokens)) (and_then (take_any j) (λ _ l. and_then (P l) (λ all. pure (name ∷ all)))) (Ok (name ∷ [], j)))
    (λ j. cond (is_mark m.Comma (next_mark j.tokens)) (and_then (take_any j) (λ _ l. and_then (Q l) (λ all. pure (name ∷ all)))) (Ok (name ∷ [], j)))
more_names S P Q {M} {N} on name = both_on S (λ ts. is_mark m.Comma (next_mark ts))
    {P = λ x j. cond x (and_then (take_any j) (λ _ l. and_then (P l) (λ all. pure (name ∷ all)))) (Ok (name ∷ [], j))} {Q = λ x j. cond x (and_then (take_any j) (λ _ l. and_then (Q l) (λ all. pure (name ∷ all)))) (Ok (name ∷ [], j))}
    (alike_through S (is_mark m.Comma) (alike_mark S)) (two_ways S (both_then S {K = M} {L = N} (looser S (both_any S)) (λ _. both_then S {K = M} {L = N} on (λ all. both_pure S (name ∷ all)))) (both_pure S (name ∷ [])))

names_beyond : (S : Setting) (n : ℕ) (i : Input) → length i.tokens ≤ length S.behind_first → Passed S (names n i)
names_beyond S zero i short = refused S i unexpected short
names_beyond S (suc n) i short = (both_then S {M = zero} {N = zero} {K = zero} {L = zero} (looser S (both_name S)) (more_names S (names n) (names n) (nowhere S (names_beyond S n)))).beyond i short

names_both : (S : Setting) (n other M N : ℕ) → N ≤ n → Both S M N M N (names n) (names other)
names_both S n other M zero bound = record { before = λ s m n' room len related. absurd (omega (arith, len)); beyond = names_beyond S n }
names_both S zero other M (suc N) bound = absurd (omega (arith, bound))
names_both S (suc n) zero M (suc N) bound = second_stops S (λ i. (unexpected, i.tokens)) (names_beyond S (suc n))
names_both S (suc n) (suc other) M (suc N) bound = within S {M' = M} {N' = N} (omega arith) (omega arith) (omega arith) (omega arith) (both_then S {K = M} {L = N} (both_name S) (more_names S (names n) (names other) (names_both S n other M N (omega (arith, bound)))))

names_length : (S : Setting) (M N : ℕ) → Both S M N M N (λ i. names (length i.tokens) i) (λ i. names (length i.tokens) i)
names_length S M N = record {
  before = λ s m n room len related.
      let all : length (left_of S s) ≡ length s + suc (length S.behind_first) = length-append s (S.first ∷ S.behind_first) in
      (within S {K = M} {L = suc (length s)} {K' = M} {L' = N} (omega arith) (omega arith) (omega arith) (omega (arith, len)) (names_both S (length (left_of S s)) (length (right_of S s)) M (suc (length s)) (omega (arith, all)))).before s m n room (omega arith) related;
  beyond = λ i short. names_beyond S (length i.tokens) i short;
}

parameters_both : (S : Setting) (M N : ℕ) → Both S M N M N parameters parameters
parameters_both S M N = both_on S (λ ts. is_mark m.CloseParen (next_mark ts)) {P = λ x i. cond x (Ok ([], i)) (names (length i.tokens) i)} {Q = λ x i. cond x (Ok ([], i)) (names (length i.tokens) i)}
    (alike_through S (is_mark m.CloseParen) (alike_mark S)) (two_ways S (both_pure S []) (names_length S M N))

method_both : (S : Setting) (G : ℕ) (A B : Parser (List StmtTree)) → DeepOf S G A B → (line : ℕ) (synced : Bool) (M N : ℕ) → M ≤ G → 1 ≤ G → Both S M (suc N) M N (method A line synced) (method B line synced)
method_both S G A B body line synced M N most some = both_then S {K = M} {L = N} (both_name S) (λ name. rooms S (M - 1)
    {P = λ j. and_then (open_mark m.OpenParen j) (λ _ l. and_then (parameters l) (λ params q. and_then (close_mark m.CloseParen q) (λ _ r. and_then (A r) (λ does. pure (member.Method line synced name params does)))))}
    {Q = λ j. and_then (open_mark m.OpenParen j) (λ _ l. and_then (parameters l) (λ params q. and_then (close_mark m.CloseParen q) (λ _ r. and_then (B r) (λ does. pure (member.Method line synced name params does)))))}
    (λ K less. both_then S {K = K} {L = N} (looser S (both_open S m.OpenParen)) (λ _. both_then S {K = K} {L = N} (parameters_both S K N)
    (λ params. both_then S {K = suc K} {L = N} (looser S (both_close S m.CloseParen)) (λ _. both_then S {K = suc K} {L = N} (looser S (body.both (suc K) N (omega (arith, less, most, some)))) (λ does. both_pure S (member.Method line synced name params does)))))) M (omega arith))

start_both : (S : Setting) (G : ℕ) (A B : Parser (List StmtTree)) → DeepOf S G A B → 1 ≤ G → (M N : ℕ) → M ≤ G → (start : Start) → Both S M (suc N) M N (by_start A start) (by_start B start)
start_both S G A B body some M N most (field kind) = both_then S {K = M} {L = N} (both_any S) (λ t. both_then S {K = M} {L = N} (looser S (both_name S)) (λ name. semicolon_both S M N (member.Field t.line kind name)))
start_both S G A B body some M N most static = both_then S {K = M} {L = N} (both_any S) (λ t. both_then S {K = M} {L = N} (looser S (both_keyword S k.Ref)) (λ _. both_then S {K = M} {L = N} (looser S (both_name S)) (λ name. semicolon_both S M N (member.Static t.line name))))
start_both S G A B body some M N most synchronized = both_then S {K = M} {L = N} (both_any S) (λ t. looser S (method_both S G A B body t.line true M N most some))
start_both S G A B body some M N most named = both_on S next_line {P = λ line. method A line false} {Q = λ line. method B line false} (alike_line S) (λ line. method_both S G A B body line false M N most some)

member_both : (S : Setting) (G : ℕ) (A B : Parser (List StmtTree)) → DeepOf S G A B → 1 ≤ G → DeepOf S G (one_member A) (one_member B)
member_both S G A B body some = record { both = λ M N less. both_on S (λ ts. start_of (next_keyword ts)) {P = by_start A} {Q = by_start B} (alike_through S start_of (alike_keyword S)) (start_both S G A B body some M N less) }

-- ---- threads and classes

number_before : (S : Setting) (M N : ℕ) (s : Tokens) (m n : ℕ) → m < M → length s < suc N → S.Rooms m n → Sides S M N (number_from m (left_of S s)) (number_from n (right_of S s))
number_before S M N [] m n room len rooms = last S.first S.second S.twin refl refl
  where
    by_form : (this : Form) (t : Token) → Sides S M N (number_by m t S.behind_first this) (number_by n t S.behind_second this)
    by_form (form.Name name) t = fails (unexpected, t ∷ S.behind_second) refl
    by_form (form.Keyword word) t = fails (unexpected, t ∷ S.behind_second) refl
    by_form (form.Number (Some value)) t = passed (record { holds = omega arith })
    by_form (form.Number None) t = fails (too_wide, t ∷ S.behind_second) refl
    by_form (form.Text content) t = fails (unexpected, t ∷ S.behind_second) refl
    by_form (form.Mark mark) t = fails (unexpected, t ∷ S.behind_second) refl

    last : (t u : Token) → Twin t u → t ≡ S.first → u ≡ S.second → Sides S M N (number_by m t S.behind_first t.form) (number_by n u S.behind_second u.form)
    last t u itself is_t is_u = by_form t.form t
    last t u (narrower one two line) is_t is_u = passed (subst (λ f. Passed S (number_by m t S.behind_first f)) (sym one) (record { holds = λ hit is. not_wide t u one two (is_t ∙ S.wide_differs hit ∙ sym is_u) }))
number_before S M N (t ∷ s) m n room len rooms = by_form t.form
  where
    by_form : (this : Form) → Sides S M N (number_by m t (left_of S s) this) (number_by n t (right_of S s) this)
    by_form (form.Name name) = fails (unexpected, t ∷ right_of S s) refl
    by_form (form.Keyword word) = fails (unexpected, t ∷ right_of S s) refl
    by_form (form.Number (Some value)) = let short : length s < N = omega (arith, len) in same (value, t.line) s m n room short rooms refl refl
    by_form (form.Number None) = fails (too_wide, t ∷ right_of S s) refl
    by_form (form.Text content) = fails (unexpected, t ∷ right_of S s) refl
    by_form (form.Mark mark) = fails (unexpected, t ∷ right_of S s) refl

number_beyond : (S : Setting) (tokens : Tokens) (room : ℕ) → length tokens ≤ length S.behind_first → Passed S (number_from room tokens)
number_beyond S [] room short = refused S (at [] room) unexpected short
number_beyond S (t ∷ rest) room short = by_form t.form
  where
    by_form : (this : Form) → Passed S (number_by room t rest this)
    by_form (form.Name name) = refused S (at (t ∷ rest) room) unexpected short
    by_form (form.Keyword word) = refused S (at (t ∷ rest) room) unexpected short
    by_form (form.Number (Some value)) = record { holds = omega (arith, short) }
    by_form (form.Number None) = refused S (at (t ∷ rest) room) too_wide short
    by_form (form.Text content) = refused S (at (t ∷ rest) room) unexpected short
    by_form (form.Mark mark) = refused S (at (t ∷ rest) room) unexpected short

number_both : (S : Setting) {M N : ℕ} → Both S M (suc N) M N (λ i. number_from i.room i.tokens) (λ i. number_from i.room i.tokens)
number_both S {M} {N} = record { before = number_before S M N; beyond = λ i. number_beyond S i.tokens i.room }

item_both : (S : Setting) (G : ℕ) (A B : Parser (List StmtTree)) → DeepOf S G A B → 1 ≤ G → DeepOf S G (one_item A) (one_item B)
item_both S G A B body some = record {
  both = λ M N less. both_on S (λ ts. is_keyword k.Class (next_keyword ts))
      {P = λ x i. cond x (and_then (take_any i) (λ t j. and_then (take_name j) (λ name l. and_then (braced (one_member A) l) (λ members. pure (item.Class t.line name members)))))
      (and_then (take_keyword k.Thread i) (λ t j. and_then (number_from j.room j.tokens) (λ n l. and_then (A l) (λ does. pure (item.Thread t.line n.0 n.1 does)))))}
      {Q = λ x i. cond x (and_then (take_any i) (λ t j. and_then (take_name j) (λ name l. and_then (braced (one_member B) l) (λ members. pure (item.Class t.line name members)))))
      (and_then (take_keyword k.Thread i) (λ t j. and_then (number_from j.room j.tokens) (λ n l. and_then (B l) (λ does. pure (item.Thread t.line n.0 n.1 does)))))}
      (alike_through S (is_keyword k.Class) (alike_keyword S))
      (two_ways S (both_then S {K = M} {L = N} (both_any S) (λ t. both_then S {K = M} {L = N} (looser S (both_name S)) (λ name. both_then S {K = M} {L = N} (looser S ((braced_both S G (one_member A) (one_member B) (member_both S G A B body some)).both M N (omega (arith, less)))) (λ members. both_pure S (item.Class t.line name members)))))
      (both_then S {K = M} {L = N} (both_keyword S k.Thread) (λ t. both_then S {K = M} {L = N} (looser S (number_both S)) (λ n. both_then S {K = M} {L = N} (looser S (body.both M N less)) (λ does. both_pure S (item.Thread t.line n.0 n.1 does))))));
}

-- one more class or thread
abbrev next_item : Parser (List StmtTree) → ℕ → Parser (List Item)
next_item A n i = and_then (one_item A i) (λ a j. and_then (items_from A n j.room j.tokens) (λ all. pure (a ∷ all)))

items_next : (A : Parser (List StmtTree)) (n room : ℕ) (s : Tokens) (t : Token) (rest : Tokens) → items_from A (suc n) room (s ++ t ∷ rest) ≡ next_item A n (at (s ++ t ∷ rest) room)
items_next A n room [] t rest = refl
items_next A n room (u ∷ s) t rest = refl

items_stop : (A : Parser (List StmtTree)) (room : ℕ) (s : Tokens) (t : Token) (rest : Tokens) → items_from A zero room (s ++ t ∷ rest) ≡ Err (unexpected, s ++ t ∷ rest)
items_stop A room [] t rest = refl
items_stop A room (u ∷ s) t rest = refl

abbrev items_of : Parser (List StmtTree) → ℕ → Parser (List Item)
items_of A n i = items_from A n i.room i.tokens

items_beyond : (S : Setting) (G : ℕ) (A B : Parser (List StmtTree)) → DeepOf S G A B → 1 ≤ G → (n : ℕ) (tokens : Tokens) (room : ℕ) → length tokens ≤ length S.behind_first → Passed S (items_from A n room tokens)
items_beyond S G A B body some n [] room short = record { holds = omega arith }
items_beyond S G A B body some zero (t ∷ rest) room short = refused S (at (t ∷ rest) room) unexpected short
items_beyond S G A B body some (suc n) (t ∷ rest) room short =
    (both_then S {M = zero} {N = zero} {K = zero} {L = zero} {M' = zero} {N' = zero} (looser S ((item_both S G A B body some).both zero zero (omega arith)))
    (λ a. both_then S {K = zero} {L = zero} (nowhere S {P = items_of A n} {Q = items_of A n} (λ i. items_beyond S G A B body some n i.tokens i.room)) (λ all. both_pure S (a ∷ all)))).beyond (at (t ∷ rest) room) short

items_both : (S : Setting) (G : ℕ) (A B : Parser (List StmtTree)) → DeepOf S G A B → 1 ≤ G → (n other M N : ℕ) → M ≤ G → N ≤ n → Both S M N M N (items_of A n) (items_of B other)
items_both S G A B body some n other M zero most bound = record { before = λ s m n' room len related. absurd (omega (arith, len)); beyond = λ i. items_beyond S G A B body some n i.tokens i.room }
items_both S G A B body some zero other M (suc N) most bound = absurd (omega (arith, bound))
items_both S G A B body some (suc n) zero M (suc N) most bound = record {
  before = λ s m n' room len related. fails (unexpected, right_of S s) (items_stop B n' s S.second S.behind_second);
  beyond = λ i. items_beyond S G A B body some (suc n) i.tokens i.room;
}
items_both S G A B body some (suc n) (suc other) M (suc N) most bound =
    let inner : Both S M (suc N) M (suc N) (next_item A n) (next_item B other) = within S {M' = M} {N' = N} (omega arith) (omega arith) (omega arith) (omega arith)
    (both_then S {K = M} {L = N} ((item_both S G A B body some).both M N most) (λ a. both_then S {K = M} {L = N} (items_both S G A B body some n other M N most (omega (arith, bound))) (λ all. both_pure S (a ∷ all)))) in
    record {
      before = λ s m n' room len related. subst (λ o. Sides S M (suc N) o (items_from B (suc other) n' (right_of S s))) (sym (items_next A n m s S.first S.behind_first))
          (subst (λ o. Sides S M (suc N) (next_item A n (at (left_of S s) m)) o) (sym (items_next B other n' s S.second S.behind_second)) (inner.before s m n' room len related));
      beyond = λ i. items_beyond S G A B body some (suc n) i.tokens i.room;
    }

-- ---- whole programs

program_sides : (S : Setting) (levels others : ℕ) (s : Tokens) → S.Rooms levels others → Sides S (suc levels) (suc (length s)) (program levels (left_of S s)) (program others (right_of S s))
program_sides S levels others s related =
    let all : length (left_of S s) ≡ length s + suc (length S.behind_first) = length-append s (S.first ∷ S.behind_first) in
    (items_both S (suc levels) (block (whole (suc levels)) (suc levels)) (block (whole (suc others)) (suc others))
    (block_both S (suc levels) (whole (suc levels)) (whole (suc others)) (whole_both S (suc levels) (suc others)) (suc levels) (suc others) (omega arith)) (omega arith)
    (length (left_of S s)) (length (right_of S s)) (suc levels) (suc (length s)) (omega arith) (omega (arith, all))).before s levels others (omega arith) (omega arith) related

-- the second side fails
pub record Fails {A : Type 0} (o : Outcome A) : Type 0 where
  pub stop : StopCause × Tokens
  pub is : o ≡ Err stop

-- Where the reader stops at a token, with a trouble that counts, it does not go on with it on the other side.
pub program_fails : (S : Setting) (levels others : ℕ) (s : Tokens) (cause : StopCause) → S.Rooms levels others → S.Hit cause → program levels (left_of S s) ≡ Err (cause, S.first ∷ S.behind_first) → Fails (program others (right_of S s))
program_fails S levels others s cause related hit stops = pick (program_sides S levels others s related)
  where
    pick : Sides S (suc levels) (suc (length s)) (program levels (left_of S s)) (program others (right_of S s)) → Fails (program others (right_of S s))
    pick (same a r m n room len rooms one two) = absurd (err_is (a, at (left_of S r) m) (cause, S.first ∷ S.behind_first) (sym stops ∙ one))
    pick (fails stop two) = record { stop = stop; is = two }
    pick (passed gone) = absurd ((subst (Passed S) stops gone).holds hit refl)
