-- Readers of expressions go in lockstep.
use Rattle.std.proofs.Common.{◌≡◌, ℕ, zero, suc, ◌+◌, ◌≤◌, ◌<◌, Bool, true, false, cond, [], ◌∷◌, length, Option, Some, None, Ok, Err, refl, sym, subst, ap, ◌∙◌, arith, length-append}
use Rattle.std.specs.Prelude.{pos, ℤ}
use Rattle.std.proofs.lemmas.Option.{none-some}
use Rattle.dso_base.specs.declared.op.Op.{Op}
use Rattle.dso_base.specs.declared.value.Kind.{Kind}
use Rattle.dso_tokens.specs.declared.token.Keyword.TheVariants as k
use Rattle.dso_tokens.specs.declared.token.Mark.TheVariants as m
use Rattle.dso_tokens.specs.declared.token.Form.{Form}
use Rattle.dso_tokens.specs.declared.token.Form.TheVariants as form
use Rattle.dso_tokens.specs.declared.token.Token.{Token}
use Rattle.dso_syntax.specs.declared.tree.Ident.{Ident}
use Rattle.dso_syntax.specs.declared.tree.ExprTree.{ExprTree}
use Rattle.dso_syntax.specs.declared.tree.ExprForm.{ExprForm}
use Rattle.dso_syntax.specs.declared.tree.ExprForm.TheVariants as e
use Rattle.dso_syntax.specs.Grammar.{Tokens, expression, line_of, plain_of, top_rank}
use Rattle.dso_syntax.specs.ExpressionReader.{Input, unexpected, too_wide, too_deep, Outcome, Parser, and_then, pure, refuse, is_mark, next_mark, next_keyword, next_form, is_wide, take_any, take_keyword, open_mark, listed, of_rank, operator_at, sign_at, plain_at, kind_at, arguments, call_suffix, field_suffix, dot_suffix, element_suffix, suffixes, parens, made, primary_of, primary, postfix, signed, unary_of, unary, operation_of, operations, climb, restored, whole}
use Rattle.dso_syntax.proofs.completeness.ReadSteps.{at}
use Rattle.dso_syntax.proofs.lockstep.LockstepSteps.{Setting, Twin, itself, narrower, left_of, right_of, Passed, Sides, same, fails, passed, Both, refused, both_then, Alike, both_on, alike_mark, alike_keyword, alike_through, two_ways, looser, within, both_pure, both_refuse, both_any, both_enter, both_leave, both_mark, both_keyword, both_open, both_close, both_name, second_stops, both_stop, nowhere, rooms}

-- readers of whole expressions in lockstep, where fewer than so many levels may be opened
pub record Deep (S : Setting) (F : ℕ) (P Q : Parser ExprTree) : Type 0 where
  pub both : (M N : ℕ) → M ≤ F → Both S M (suc N) M N P Q

-- ---- arguments

more_listed : (S : Setting) (P Q : Parser ExprTree) (count other : ℕ) {M N : ℕ} → Both S M N M N (listed P count) (listed Q other) → (a : ExprTree)
    → Both S M N M N (λ j. cond (is_mark m.Comma (next_mark j.tokens)) (and_then (take_any j) (λ _ l. and_then (listed P count l) (λ all. pure (a ∷ all)))) (Ok (a ∷ [], j)))
    (λ j. cond (is_mark m.Comma (next_mark j.tokens)) (and_then (take_any j) (λ _ l. and_then (listed Q other l) (λ all. pure (a ∷ all)))) (Ok (a ∷ [], j)))
more_listed S P Q count other on a = both_on S (λ ts. is_mark m.Comma (next_mark ts))
    {P = λ x j. cond x (and_then (take_any j) (λ _ l. and_then (listed P count l) (λ all. pure (a ∷ all)))) (Ok (a ∷ [], j))}
    {Q = λ x j. cond x (and_then (take_any j) (λ _ l. and_then (listed Q other l) (λ all. pure (a ∷ all)))) (Ok (a ∷ [], j))}
    (alike_through S (is_mark m.Comma) (alike_mark S))
    (two_ways S (both_then S (looser S (both_any S)) (λ _. both_then S on (λ all. both_pure S (a ∷ all)))) (both_pure S (a ∷ [])))

listed_both : (S : Setting) (F : ℕ) (P Q : Parser ExprTree) → Deep S F P Q → (count other : ℕ) (M N : ℕ) → M ≤ F → N ≤ count → Both S M N M N (listed P count) (listed Q other)
listed_both S F P Q deep zero other M N most bound = record {
  before = λ s m n room len rooms. absurd (omega (arith, len, bound));
  beyond = λ i short. refused S i unexpected short;
}
listed_both S F P Q deep (suc count) zero M N most bound = record {
  before = λ s m n room len rooms. fails (unexpected, right_of S s) refl;
  beyond = (both_then S {K = zero} {L = zero} (looser S (deep.both zero zero (omega arith))) (more_listed S P Q count zero {M = zero} {N = zero} (listed_both S F P Q deep count zero zero zero (omega arith) (omega arith)))).beyond;
}
listed_both S F P Q deep (suc count) (suc other) M zero most bound = record {
  before = λ s m n room len rooms. absurd (omega (arith, len));
  beyond = (both_then S {K = zero} {L = zero} (looser S (deep.both zero zero (omega arith))) (more_listed S P Q count other {M = zero} {N = zero} (listed_both S F P Q deep count other zero zero (omega arith) (omega arith)))).beyond;
}
listed_both S F P Q deep (suc count) (suc other) M (suc N) most bound =
    both_then S {K = M} {L = N} (deep.both M N most) (λ a. within S (omega arith) (omega arith) (omega arith) (omega arith) (more_listed S P Q count other {M = M} {N = N} (listed_both S F P Q deep count other M N most (omega (arith, bound))) a))

-- the arguments of a call
arguments_some : (S : Setting) (F : ℕ) (P Q : Parser ExprTree) → Deep S F P Q → (M N : ℕ) → M ≤ F → Both S M N M N (λ i. listed P (length i.tokens) i) (λ i. listed Q (length i.tokens) i)
arguments_some S F P Q deep M N most = record {
  before = λ s m n room len rooms.
      let all : length (left_of S s) ≡ length s + suc (length S.behind_first) = length-append s (S.first ∷ S.behind_first) in
      (within S {K = M} {L = suc (length s)} {K' = M} {L' = N} (omega arith) (omega arith) (omega arith) (omega (arith, len)) (listed_both S F P Q deep (length (left_of S s)) (length (right_of S s)) M (suc (length s)) most (omega (arith, all)))).before s m n room (omega arith) rooms;
  beyond = λ i short. (listed_both S F P Q deep (length i.tokens) zero zero zero (omega arith) (omega arith)).beyond i short;
}

arguments_both : (S : Setting) (F : ℕ) (P Q : Parser ExprTree) → Deep S F P Q → (M N : ℕ) → M ≤ F → Both S M N M N (arguments P) (arguments Q)
arguments_both S F P Q deep M N most = both_on S (λ ts. is_mark m.CloseParen (next_mark ts))
    {P = λ x i. cond x (Ok ([], i)) (listed P (length i.tokens) i)} {Q = λ x i. cond x (Ok ([], i)) (listed Q (length i.tokens) i)}
    (alike_through S (is_mark m.CloseParen) (alike_mark S)) (two_ways S (both_pure S []) (arguments_some S F P Q deep M N most))

-- ---- what is asked of an expression

call_both : (S : Setting) (F : ℕ) (P Q : Parser ExprTree) → Deep S F P Q → (a : ExprTree) (name : Ident) (M N : ℕ) → M ≤ suc F → Both S M N M N (call_suffix P a name) (call_suffix Q a name)
call_both S F P Q deep a name M N most = rooms S F {P = call_suffix P a name} {Q = call_suffix Q a name}
    (λ K less. both_then S {K = K} {L = N} (looser S (both_open S m.OpenParen)) (λ _. both_then S {K = K} {L = N} (arguments_both S F P Q deep K N less)
    (λ all. both_then S {K = suc K} {L = N} (looser S (both_close S m.CloseParen)) (λ _. both_pure S (expression (line_of a) (e.Call a name all)))))) M most

field_both : (S : Setting) (F : ℕ) (P Q : Parser ExprTree) → Deep S F P Q → (a : ExprTree) (name : Ident) (M N : ℕ) → M ≤ suc F → Both S M N M N (field_suffix P a name) (field_suffix Q a name)
field_both S F P Q deep a name M N most = both_on S (λ ts. is_mark m.OpenParen (next_mark ts))
    {P = λ x i. cond x (call_suffix P a name i) (Ok (expression (line_of a) (e.Field a name), i))} {Q = λ x i. cond x (call_suffix Q a name i) (Ok (expression (line_of a) (e.Field a name), i))}
    (alike_through S (is_mark m.OpenParen) (alike_mark S)) (two_ways S (call_both S F P Q deep a name M N most) (both_pure S (expression (line_of a) (e.Field a name))))

dot_both : (S : Setting) (F : ℕ) (P Q : Parser ExprTree) → Deep S F P Q → (a : ExprTree) (K N : ℕ) → K ≤ suc F → Both S (suc K) N K N (dot_suffix P a) (dot_suffix Q a)
dot_both S F P Q deep a K N less = both_then S {K = K} {L = N} (looser S (both_open S m.Dot)) (λ _. both_then S {K = K} {L = N} (looser S (both_name S)) (λ name. field_both S F P Q deep a name K N less))

element_both : (S : Setting) (F : ℕ) (P Q : Parser ExprTree) → Deep S F P Q → (a : ExprTree) (K N : ℕ) → K ≤ F → Both S (suc K) N K N (element_suffix P a) (element_suffix Q a)
element_both S F P Q deep a K N less = both_then S {K = K} {L = N} (looser S (both_open S m.OpenBracket)) (λ _. both_then S {K = K} {L = N} (looser S (deep.both K N less))
    (λ b. both_then S {K = K} {L = N} (looser S (both_mark S m.CloseBracket)) (λ _. both_pure S (expression (line_of a) (e.Elem a b)))))

-- one more thing is asked, or none
abbrev asking : Parser ExprTree → Parser ExprTree → ExprTree → Bool → Bool → Parser ExprTree
asking dot element a x y i = cond x (dot i) (cond y (element i) (Ok (a, i)))

asking_both : (S : Setting) (M N : ℕ) (P P' Q Q' : Parser ExprTree) (a : ExprTree) → Both S M N M N P Q → Both S M N M N P' Q'
    → Both S M N M N (λ i. asking P P' a (is_mark m.Dot (next_mark i.tokens)) (is_mark m.OpenBracket (next_mark i.tokens)) i)
    (λ i. asking Q Q' a (is_mark m.Dot (next_mark i.tokens)) (is_mark m.OpenBracket (next_mark i.tokens)) i)
asking_both S M N P P' Q Q' a dot element = both_on S next_mark {P = λ x i. asking P P' a (is_mark m.Dot x) (is_mark m.OpenBracket x) i} {Q = λ x i. asking Q Q' a (is_mark m.Dot x) (is_mark m.OpenBracket x) i} (alike_mark S)
    (λ x. two_ways S dot (two_ways S element (both_pure S a) (is_mark m.OpenBracket x)) (is_mark m.Dot x))

-- with no room nothing more is asked
suffixes_full : (P : Parser ExprTree) (a : ExprTree) (ts : Tokens) → suffixes P zero a (at ts zero) ≡ suffixes P (suc zero) a (at ts zero)
suffixes_full P a ts = pick (is_mark m.Dot (next_mark ts)) (is_mark m.OpenBracket (next_mark ts)) refl refl
  where
    stopped : Parser ExprTree
    stopped i = Err (too_deep, i.tokens)

    pick : (x y : Bool) → is_mark m.Dot (next_mark ts) ≡ x → is_mark m.OpenBracket (next_mark ts) ≡ y
        → asking stopped stopped a (is_mark m.Dot (next_mark ts)) (is_mark m.OpenBracket (next_mark ts)) (at ts zero) ≡ suffixes P (suc zero) a (at ts zero)
    pick true y is_x is_y = rw is_x refl
    pick false true is_x is_y = rw (is_x, is_y) refl
    pick false false is_x is_y = rw (is_x, is_y) refl

suffixes_beyond : (S : Setting) (F : ℕ) (P Q : Parser ExprTree) → Deep S F P Q → (n : ℕ) (a : ExprTree) (i : Input) → length i.tokens ≤ length S.behind_first → Passed S (suffixes P n a i)
suffixes_beyond S F P Q deep zero a i short = (asking_both S zero zero (λ i. Err (too_deep, i.tokens)) (λ i. Err (too_deep, i.tokens)) (λ i. Err (too_deep, i.tokens)) (λ i. Err (too_deep, i.tokens)) a (both_stop S too_deep) (both_stop S too_deep)).beyond i short
suffixes_beyond S F P Q deep (suc n) a i short = (asking_both S zero zero (λ i. and_then (dot_suffix P a i) (suffixes P n)) (λ i. and_then (element_suffix P a i) (suffixes P n)) (λ i. and_then (dot_suffix Q a i) (suffixes P n)) (λ i. and_then (element_suffix Q a i) (suffixes P n)) a
    (nowhere S (both_then S {M = suc zero} {N = zero} {K = zero} {L = zero} {M' = zero} {N' = zero} {Q = dot_suffix Q a} {g = suffixes P n} (dot_both S F P Q deep a zero zero (omega arith)) (λ b. nowhere S (suffixes_beyond S F P Q deep n b))).beyond)
    (nowhere S (both_then S {M = suc zero} {N = zero} {K = zero} {L = zero} {M' = zero} {N' = zero} {Q = element_suffix Q a} {g = suffixes P n} (element_both S F P Q deep a zero zero (omega arith)) (λ b. nowhere S (suffixes_beyond S F P Q deep n b))).beyond)).beyond i short

-- one more thing is asked, with a level of room
suffixes_step : (S : Setting) (F : ℕ) (P Q : Parser ExprTree) → Deep S F P Q → (n other : ℕ) (a : ExprTree) (K N : ℕ) → K ≤ F → ((b : ExprTree) → Both S K N K N (suffixes P n b) (suffixes Q other b))
    → Both S (suc K) N (suc K) N (suffixes P (suc n) a) (suffixes Q (suc other) a)
suffixes_step S F P Q deep n other a K N less on = asking_both S (suc K) N (λ i. and_then (dot_suffix P a i) (suffixes P n)) (λ i. and_then (element_suffix P a i) (suffixes P n)) (λ i. and_then (dot_suffix Q a i) (suffixes Q other)) (λ i. and_then (element_suffix Q a i) (suffixes Q other)) a
    (within S {M' = K} {N' = N} (omega arith) (omega arith) (omega arith) (omega arith) (both_then S {K = K} {L = N} (dot_both S F P Q deep a K N (omega (arith, less))) on))
    (within S {M' = K} {N' = N} (omega arith) (omega arith) (omega arith) (omega arith) (both_then S {K = K} {L = N} (element_both S F P Q deep a K N less) on))

-- the second side asks no more
suffixes_stopped : (S : Setting) (F : ℕ) (P Q : Parser ExprTree) → Deep S F P Q → (n : ℕ) (a : ExprTree) (M N : ℕ) → Both S M N M N (suffixes P (suc n) a) (suffixes Q zero a)
suffixes_stopped S F P Q deep n a M N =
    asking_both S M N (λ i. and_then (dot_suffix P a i) (suffixes P n)) (λ i. and_then (element_suffix P a i) (suffixes P n)) (λ i. Err (too_deep, i.tokens)) (λ i. Err (too_deep, i.tokens)) a
    (second_stops S {P = λ i. and_then (dot_suffix P a i) (suffixes P n)} (λ i. (too_deep, i.tokens)) (both_then S {M = suc zero} {N = zero} {K = zero} {L = zero} {M' = zero} {N' = zero} {Q = dot_suffix Q a} {g = suffixes P n} (dot_both S F P Q deep a zero zero (omega arith)) (λ b. nowhere S (suffixes_beyond S F P Q deep n b))).beyond)
    (second_stops S {P = λ i. and_then (element_suffix P a i) (suffixes P n)} (λ i. (too_deep, i.tokens)) (both_then S {M = suc zero} {N = zero} {K = zero} {L = zero} {M' = zero} {N' = zero} {Q = element_suffix Q a} {g = suffixes P n} (element_both S F P Q deep a zero zero (omega arith)) (λ b. nowhere S (suffixes_beyond S F P Q deep n b))).beyond)

-- with room for one thing
suffixes_one : (S : Setting) (F : ℕ) (P Q : Parser ExprTree) → Deep S F P Q → (other : ℕ) (a : ExprTree) (N : ℕ) → Both S (suc zero) N (suc zero) N (suffixes P (suc zero) a) (suffixes Q other a)
suffixes_one S F P Q deep zero a N = suffixes_stopped S F P Q deep zero a (suc zero) N
suffixes_one S F P Q deep (suc other) a N = suffixes_step S F P Q deep zero other a zero N (omega arith) (λ b. nowhere S (suffixes_beyond S F P Q deep zero b))

suffixes_none : (S : Setting) (F : ℕ) (P Q : Parser ExprTree) → Deep S F P Q → (other : ℕ) (a : ExprTree) (N : ℕ) (s : Tokens) (m n : ℕ) → m < suc zero → length s < N → S.Rooms m n
    → Sides S (suc zero) N (suffixes P zero a (at (left_of S s) m)) (suffixes Q other a (at (right_of S s) n))
suffixes_none S F P Q deep other a N s zero n room len related = subst (λ o. Sides S (suc zero) N o (suffixes Q other a (at (right_of S s) n))) (sym (suffixes_full P a (left_of S s))) ((suffixes_one S F P Q deep other a N).before s zero n room len related)
suffixes_none S F P Q deep other a N s (suc m) n room len related = absurd (omega (arith, room))

-- what is asked, where no more is asked than there is room for
pub suffixes_both : (S : Setting) (F : ℕ) (P Q : Parser ExprTree) → Deep S F P Q → (n other : ℕ) (a : ExprTree) (M N : ℕ) → M ≤ suc F → M ≤ suc n → Both S M N M N (suffixes P n a) (suffixes Q other a)
suffixes_both S F P Q deep zero other a zero N most bound = nowhere S (suffixes_beyond S F P Q deep zero a)
suffixes_both S F P Q deep zero other a (suc K) N most bound = within S {K = suc K} {L = N} {K' = suc K} {L' = N} bound (omega arith) (omega arith) (omega arith) (record { before = suffixes_none S F P Q deep other a N; beyond = suffixes_beyond S F P Q deep zero a })
suffixes_both S F P Q deep (suc n) zero a M N most bound = suffixes_stopped S F P Q deep n a M N
suffixes_both S F P Q deep (suc n) (suc other) a zero N most bound = nowhere S (suffixes_beyond S F P Q deep (suc n) a)
suffixes_both S F P Q deep (suc n) (suc other) a (suc K) N most bound = suffixes_step S F P Q deep n other a K N (omega (arith, most)) (λ b. suffixes_both S F P Q deep n other b K N (omega (arith, most)) (omega (arith, bound)))

-- ---- primary expressions

parens_both : (S : Setting) (F : ℕ) (P Q : Parser ExprTree) → Deep S F P Q → (line K N : ℕ) → K ≤ F → Both S K N (suc K) N (parens P line) (parens Q line)
parens_both S F P Q deep line K N less = both_then S {K = K} {L = N} (looser S (deep.both K N less)) (λ a. both_then S {K = suc K} {L = N} (looser S (both_close S m.CloseParen)) (λ _. both_pure S (expression line (e.Paren a))))

array_both : (S : Setting) (F : ℕ) (P Q : Parser ExprTree) → Deep S F P Q → (line : ℕ) (kind : Kind) (K N : ℕ) → K ≤ F → Both S (suc K) N (suc K) N (made P line (Some kind)) (made Q line (Some kind))
array_both S F P Q deep line kind K N less = both_then S {K = suc K} {L = N} (looser S (both_any S)) (λ _. both_then S {K = K} {L = N} (looser S (both_open S m.OpenBracket)) (λ _. both_then S {K = K} {L = N} (looser S (deep.both K N less))
    (λ a. both_then S {K = suc K} {L = N} (looser S (both_close S m.CloseBracket)) (λ _. both_pure S (expression line (e.NewArray kind a))))))

object_both : (S : Setting) (F : ℕ) (P Q : Parser ExprTree) → Deep S F P Q → (line K N : ℕ) → Both S (suc K) N (suc K) N (made P line None) (made Q line None)
object_both S F P Q deep line K N = both_then S {K = suc K} {L = N} (looser S (both_name S)) (λ name. both_then S {K = K} {L = N} (looser S (both_open S m.OpenParen))
    (λ _. both_then S {K = suc K} {L = N} (looser S (both_close S m.CloseParen)) (λ _. both_pure S (expression line (e.NewObject name)))))

made_both : (S : Setting) (F : ℕ) (P Q : Parser ExprTree) → Deep S F P Q → (line : ℕ) (K N : ℕ) → K ≤ F → (kind : Option Kind) → Both S (suc K) N (suc K) N (made P line kind) (made Q line kind)
made_both S F P Q deep line K N less (Some kind) = array_both S F P Q deep line kind K N less
made_both S F P Q deep line K N less None = object_both S F P Q deep line K N

-- a primary expression, by what is seen of its first token
abbrev seen : Parser ExprTree → Option ExprForm → Bool → Parser ExprTree
seen P (Some this) y i = and_then (take_any i) (λ t. pure (expression t.line this))
seen P None y i = cond (is_mark m.OpenParen (next_mark i.tokens)) (and_then (open_mark m.OpenParen i) (λ t. parens P t.line))
    (cond y (Err (too_wide, i.tokens)) (and_then (take_keyword k.New i) (λ t j. made P t.line (kind_at (next_keyword j.tokens)) j)))

new_both : (S : Setting) (F : ℕ) (P Q : Parser ExprTree) → Deep S F P Q → (K N : ℕ) → K ≤ F → (y : Bool)
    → Both S (suc K) (suc N) (suc K) N (λ i. cond y (Err (too_wide, i.tokens)) (and_then (take_keyword k.New i) (λ t j. made P t.line (kind_at (next_keyword j.tokens)) j)))
    (λ i. cond y (Err (too_wide, i.tokens)) (and_then (take_keyword k.New i) (λ t j. made Q t.line (kind_at (next_keyword j.tokens)) j)))
new_both S F P Q deep K N less true = both_stop S too_wide
new_both S F P Q deep K N less false = both_then S {K = suc K} {L = N} (both_keyword S k.New)
    (λ t. both_on S (λ ts. kind_at (next_keyword ts)) {P = made P t.line} {Q = made Q t.line} (alike_through S kind_at (alike_keyword S)) (made_both S F P Q deep t.line K N less))

seen_both : (S : Setting) (F : ℕ) (P Q : Parser ExprTree) → Deep S F P Q → (K N : ℕ) → K ≤ F → (x : Option ExprForm) (y : Bool) → Both S (suc K) (suc N) (suc K) N (seen P x y) (seen Q x y)
seen_both S F P Q deep K N less (Some this) y = both_then S {K = suc K} {L = N} (both_any S) (λ t. both_pure S (expression t.line this))
seen_both S F P Q deep K N less None y = both_on S (λ ts. is_mark m.OpenParen (next_mark ts))
    {P = λ x i. cond x (and_then (open_mark m.OpenParen i) (λ t. parens P t.line)) (cond y (Err (too_wide, i.tokens)) (and_then (take_keyword k.New i) (λ t j. made P t.line (kind_at (next_keyword j.tokens)) j)))}
    {Q = λ x i. cond x (and_then (open_mark m.OpenParen i) (λ t. parens Q t.line)) (cond y (Err (too_wide, i.tokens)) (and_then (take_keyword k.New i) (λ t j. made Q t.line (kind_at (next_keyword j.tokens)) j)))}
    (alike_through S (is_mark m.OpenParen) (alike_mark S))
    (two_ways S (both_then S {K = K} {L = N} (both_open S m.OpenParen) (λ t. parens_both S F P Q deep t.line K N less)) (new_both S F P Q deep K N less y))

primary_seen : (P : Parser ExprTree) (i : Input) → primary P i ≡ seen P (plain_at i.tokens) (is_wide (next_form i.tokens)) i
primary_seen P i = pick (plain_at i.tokens)
  where
    pick : (x : Option ExprForm) → primary_of P x i ≡ seen P x (is_wide (next_form i.tokens)) i
    pick (Some tree) = refl
    pick None = refl

-- the second token is the first, or a number in place of one that is too wide
pub data Same : Token → Token → Type 0 where
  equal : {t u : Token} → t ≡ u → Same t u
  number : {t u : Token} → t.form ≡ form.Number None → u.form ≡ form.Number (Some (pos 0)) → Same t u

twin_same : (t u : Token) → Twin t u → Same t u
twin_same t u itself = equal refl
twin_same t u (narrower one two line) = number one two

-- a number that is too wide is not another
pub not_wide : (t u : Token) → t.form ≡ form.Number None → u.form ≡ form.Number (Some (pos 0)) → t ≡ u → ⊥
not_wide t u one two is = none-some (pos 0) (ap number_in (sym one ∙ ap (λ (x : Token). x.form) is ∙ two))
  where
    number_in : Form → Option ℤ
    number_in (form.Number value) = value
    number_in rest = None

wide_stops : (P : Parser ExprTree) (t : Token) (rest : Tokens) (m : ℕ) → t.form ≡ form.Number None → seen P (plain_of t.form) (is_wide (Some t.form)) (at (t ∷ rest) m) ≡ Err (too_wide, t ∷ rest)
wide_stops P t rest m is = rw is refl

primary_before : (S : Setting) (F : ℕ) (P Q : Parser ExprTree) → Deep S F P Q → (K N : ℕ) → K ≤ F → (s : Tokens) (m n : ℕ) → m < suc K → length s < suc N → S.Rooms m n
    → Sides S (suc K) N (seen P (plain_at (left_of S s)) (is_wide (next_form (left_of S s))) (at (left_of S s) m)) (seen Q (plain_at (right_of S s)) (is_wide (next_form (right_of S s))) (at (right_of S s) n))
primary_before S F P Q deep K N less [] m n room len related = pick (twin_same S.first S.second S.twin)
  where
    pick : Same S.first S.second → Sides S (suc K) N (seen P (plain_of S.first.form) (is_wide (Some S.first.form)) (at (left_of S []) m)) (seen Q (plain_of S.second.form) (is_wide (Some S.second.form)) (at (right_of S []) n))
    pick (equal is) = subst (λ (t : Token). Sides S (suc K) N (seen P (plain_of S.first.form) (is_wide (Some S.first.form)) (at (left_of S []) m)) (seen Q (plain_of t.form) (is_wide (Some t.form)) (at (right_of S []) n))) is
        ((seen_both S F P Q deep K N less (plain_of S.first.form) (is_wide (Some S.first.form))).before [] m n room len related)
    pick (number one two) = passed (subst (Passed S) (sym (wide_stops P S.first S.behind_first m one)) (record { holds = λ hit is. not_wide S.first S.second one two (S.wide_differs hit) }))
primary_before S F P Q deep K N less (t ∷ s) m n room len related = (seen_both S F P Q deep K N less (plain_of t.form) (is_wide (Some t.form))).before (t ∷ s) m n room len related

-- a primary expression
primary_some : (S : Setting) (F : ℕ) (P Q : Parser ExprTree) → Deep S F P Q → (K N : ℕ) → K ≤ F → Both S (suc K) (suc N) (suc K) N (primary P) (primary Q)
primary_some S F P Q deep K N less = record {
  before = λ s m n room len related. subst (λ o. Sides S (suc K) N o (primary Q (at (right_of S s) n))) (sym (primary_seen P (at (left_of S s) m)))
      (subst (λ o. Sides S (suc K) N (seen P (plain_at (left_of S s)) (is_wide (next_form (left_of S s))) (at (left_of S s) m)) o) (sym (primary_seen Q (at (right_of S s) n))) (primary_before S F P Q deep K N less s m n room len related));
  beyond = λ i short. subst (Passed S) (sym (primary_seen P i)) ((seen_both S F P Q deep K N less (plain_at i.tokens) (is_wide (next_form i.tokens))).beyond i short);
}

primary_both : (S : Setting) (F : ℕ) (P Q : Parser ExprTree) → Deep S F P Q → (M N : ℕ) → M ≤ suc F → Both S M (suc N) M N (primary P) (primary Q)
primary_both S F P Q deep M N most = rooms S F {P = primary P} {Q = primary Q} (λ K less. primary_some S F P Q deep K N less) M most

postfix_both : (S : Setting) (F : ℕ) (P Q : Parser ExprTree) → Deep S F P Q → (n other : ℕ) (M N : ℕ) → M ≤ suc F → M ≤ suc n → Both S M (suc N) M N (postfix P n) (postfix Q other)
postfix_both S F P Q deep n other M N most bound = both_then S {K = M} {L = N} (primary_both S F P Q deep M N most) (λ a. suffixes_both S F P Q deep n other a M N most bound)

-- ---- signs

signed_both : (S : Setting) (D E : Parser ExprTree) (o : Op) (P Q : Parser ExprTree) (K N : ℕ) → Both S K N K N P Q → Both S (suc K) (suc N) (suc K) N (signed D o P) (signed E o Q)
signed_both S D E o P Q K N operand = both_then S {K = K} {L = suc N} (both_enter S) (λ _. both_then S {K = K} {L = N} (both_any S) (λ t. both_then S {K = K} {L = N} operand
    (λ a. both_then S {K = suc K} {L = N} (both_leave S) (λ _. both_pure S (expression t.line (e.Unary o a))))))

unary_pick : (S : Setting) (D E : Parser ExprTree) (P Q R T : Parser ExprTree) (K N : ℕ) → Both S K N K N P Q → Both S (suc K) (suc N) (suc K) N R T → (o : Option Op) → Both S (suc K) (suc N) (suc K) N (unary_of D o P R) (unary_of E o Q T)
unary_pick S D E P Q R T K N operand plain (Some o) = signed_both S D E o P Q K N operand
unary_pick S D E P Q R T K N operand plain None = plain

unary_with : (S : Setting) (D E : Parser ExprTree) (P Q R T : Parser ExprTree) (K N : ℕ) → Both S K N K N P Q → Both S (suc K) (suc N) (suc K) N R T
    → Both S (suc K) (suc N) (suc K) N (λ i. unary_of D (sign_at (next_mark i.tokens)) P R i) (λ i. unary_of E (sign_at (next_mark i.tokens)) Q T i)
unary_with S D E P Q R T K N operand plain = both_on S (λ ts. sign_at (next_mark ts)) {P = λ x. unary_of D x P R} {Q = λ x. unary_of E x Q T} (alike_through S sign_at (alike_mark S)) (unary_pick S D E P Q R T K N operand plain)

unary_beyond : (S : Setting) (F : ℕ) (P Q : Parser ExprTree) → Deep S F P Q → (depth n : ℕ) (i : Input) → length i.tokens ≤ length S.behind_first → Passed S (unary P depth n i)
unary_beyond S F P Q deep zero n i short = (unary_with S P Q refuse refuse (postfix P n) (postfix Q n) zero zero (both_refuse S) (postfix_both S F P Q deep n n (suc zero) zero (omega arith) (omega arith))).beyond i short
unary_beyond S F P Q deep (suc depth) n i short = (unary_with S P Q (unary P depth n) (unary P depth n) (postfix P n) (postfix Q n) zero zero (nowhere S (unary_beyond S F P Q deep depth n)) (postfix_both S F P Q deep n n (suc zero) zero (omega arith) (omega arith))).beyond i short

unary_both : (S : Setting) (F : ℕ) (P Q : Parser ExprTree) → Deep S F P Q → (depth deep_other n other : ℕ) (M N : ℕ) → M ≤ suc F → M ≤ suc n → M ≤ suc depth → Both S M (suc N) M N (unary P depth n) (unary Q deep_other other)
unary_both S F P Q deep depth deep_other n other zero N most bound within_depth = nowhere S (unary_beyond S F P Q deep depth n)
unary_both S F P Q deep zero zero n other (suc K) N most bound within_depth = unary_with S P Q refuse refuse (postfix P n) (postfix Q other) K N (both_refuse S) (postfix_both S F P Q deep n other (suc K) N most bound)
unary_both S F P Q deep zero (suc deep_other) n other (suc K) N most bound within_depth =
    within S {M' = suc zero} {N' = N} within_depth (omega arith) (omega arith) (omega arith) (unary_with S P Q refuse (unary Q deep_other other) (postfix P n) (postfix Q other) zero N (nowhere S (λ i short. refused S i unexpected short)) (postfix_both S F P Q deep n other (suc zero) N (omega arith) (omega arith)))
unary_both S F P Q deep (suc depth) zero n other (suc K) N most bound within_depth =
    unary_with S P Q (unary P depth n) refuse (postfix P n) (postfix Q other) K N (second_stops S (λ i. (unexpected, i.tokens)) (unary_beyond S F P Q deep depth n)) (postfix_both S F P Q deep n other (suc K) N most bound)
unary_both S F P Q deep (suc depth) (suc deep_other) n other (suc K) N most bound within_depth =
    unary_with S P Q (unary P depth n) (unary Q deep_other other) (postfix P n) (postfix Q other) K N (looser S (unary_both S F P Q deep depth deep_other n other K N (omega (arith, most)) (omega (arith, bound)) (omega (arith, within_depth))))
    (postfix_both S F P Q deep n other (suc K) N most bound)

-- ---- operators

-- with no more room, no operator goes on
operation_some : (S : Setting) (o : Op) (P Q : Parser ExprTree) (a : ExprTree) (f g : ExprTree → Parser ExprTree) (K N : ℕ) → Both S K N K N P Q → ((b : ExprTree) → Both S K N K N (f b) (g b))
    → Both S (suc K) N K N (operation_of (Some o) P a f) (operation_of (Some o) Q a g)
operation_some S o P Q a f g K N operand more = both_then S {K = K} {L = N} (both_enter S) (λ _. both_then S {K = K} {L = N} (looser S (both_any S)) (λ _. both_then S {K = K} {L = N} operand (λ b. more (expression (line_of a) (e.Binary o a b)))))

operation_pick : (S : Setting) (P Q : Parser ExprTree) (a : ExprTree) (f g : ExprTree → Parser ExprTree) (K N : ℕ) → Both S K N K N P Q → ((b : ExprTree) → Both S K N K N (f b) (g b))
    → (o : Option Op) → Both S (suc K) N (suc K) N (operation_of o P a f) (operation_of o Q a g)
operation_pick S P Q a f g K N operand more None = both_pure S a
operation_pick S P Q a f g K N operand more (Some o) = within S {M' = K} {N' = N} (omega arith) (omega arith) (omega arith) (omega arith) (operation_some S o P Q a f g K N operand more)

-- the operator of a rank that is seen
abbrev next_of : ℕ → Tokens → Option Op
next_of rank ts = of_rank rank (operator_at (next_mark ts))

alike_of : (S : Setting) (rank : ℕ) → Alike S (next_of rank)
alike_of S rank = alike_through S (λ mark. of_rank rank (operator_at mark)) (alike_mark S)

operations_beyond : (S : Setting) (F : ℕ) (P Q : Parser ExprTree) → Deep S F P Q → (rank count : ℕ) (a : ExprTree) (i : Input) → length i.tokens ≤ length S.behind_first → Passed S (operations P rank count a i)
operations_beyond S F P Q deep rank zero a i short =
    (operation_pick S P Q a (λ b. refuse) (λ b. refuse) zero zero (looser S (deep.both zero zero (omega arith))) (λ b. both_refuse S) (next_of rank i.tokens)).beyond i short
operations_beyond S F P Q deep rank (suc count) a i short =
    (operation_pick S P Q a (operations P rank count) (operations P rank count) zero zero (looser S (deep.both zero zero (omega arith))) (λ b. nowhere S (operations_beyond S F P Q deep rank count b)) (next_of rank i.tokens)).beyond i short

-- with no room no operator goes on
full_before : (S : Setting) (P Q : Parser ExprTree) (a : ExprTree) (f g : ExprTree → Parser ExprTree) (N : ℕ) (s : Tokens) (n : ℕ) → length s < N → S.Rooms zero n → (x : Option Op)
    → Sides S (suc zero) N (operation_of x P a f (at (left_of S s) zero)) (operation_of x Q a g (at (right_of S s) n))
full_before S P Q a f g N s n len related None = same a s zero n (omega arith) len related refl refl
full_before S P Q a f g N s zero len related (Some o) = fails (too_deep, right_of S s) refl
full_before S P Q a f g N s (suc n) len related (Some o) = passed (record { holds = λ hit is. S.no_more n hit related })

-- by what the second side sees
operations_right : (S : Setting) (Q : Parser ExprTree) (rank other : ℕ) (a : ExprTree) (M N : ℕ) (o : Outcome ExprTree) (s : Tokens) (n : ℕ) → ((g : ExprTree → Parser ExprTree) → Sides S M N o (operation_of (next_of rank (left_of S s)) Q a g (at (right_of S s) n)))
    → Sides S M N o (operations Q rank other a (at (right_of S s) n))
operations_right S Q rank zero a M N o s n on = subst (λ x. Sides S M N o (operation_of x Q a (λ b. refuse) (at (right_of S s) n))) ((alike_of S rank).is s) (on (λ b. refuse))
operations_right S Q rank (suc other) a M N o s n on = subst (λ x. Sides S M N o (operation_of x Q a (operations Q rank other) (at (right_of S s) n))) ((alike_of S rank).is s) (on (operations Q rank other))

operations_none : (S : Setting) (P Q : Parser ExprTree) (rank other : ℕ) (a : ExprTree) (N : ℕ) (s : Tokens) (m n : ℕ) → m < suc zero → length s < N → S.Rooms m n
    → Sides S (suc zero) N (operations P rank zero a (at (left_of S s) m)) (operations Q rank other a (at (right_of S s) n))
operations_none S P Q rank other a N s zero n room len related = operations_right S Q rank other a (suc zero) N (operations P rank zero a (at (left_of S s) zero)) s n (λ g. full_before S P Q a (λ b. refuse) g N s n len related (next_of rank (left_of S s)))
operations_none S P Q rank other a N s (suc m) n room len related = absurd (omega (arith, room))

operations_both : (S : Setting) (F : ℕ) (P Q : Parser ExprTree) → Deep S F P Q → (rank count other : ℕ) (a : ExprTree) (M N : ℕ) → M ≤ F → M ≤ suc count → Both S M N M N (operations P rank count a) (operations Q rank other a)
operations_both S F P Q deep rank count other a zero N most bound = nowhere S (operations_beyond S F P Q deep rank count a)
operations_both S F P Q deep rank zero other a (suc K) N most bound =
    within S {K = suc K} {L = N} {K' = suc K} {L' = N} bound (omega arith) (omega arith) (omega arith) (record { before = operations_none S P Q rank other a N; beyond = operations_beyond S F P Q deep rank zero a })
operations_both S F P Q deep rank (suc count) zero a (suc K) N most bound = record {
  before = λ s m n room len related. subst (λ x. Sides S (suc K) N (operations P rank (suc count) a (at (left_of S s) m)) (operation_of x Q a (λ b. refuse) (at (right_of S s) n))) ((alike_of S rank).is s)
      ((operation_pick S P Q a (operations P rank count) (λ b. refuse) K N (looser S (deep.both K N (omega (arith, most)))) (λ b. second_stops S (λ j. (unexpected, j.tokens)) (operations_beyond S F P Q deep rank count b)) (next_of rank (left_of S s))).before s m n room len related);
  beyond = operations_beyond S F P Q deep rank (suc count) a;
}
operations_both S F P Q deep rank (suc count) (suc other) a (suc K) N most bound =
    both_on S (next_of rank) {P = λ x. operation_of x P a (operations P rank count)} {Q = λ x. operation_of x Q a (operations Q rank other)} (alike_of S rank)
    (operation_pick S P Q a (operations P rank count) (operations Q rank other) K N (looser S (deep.both K N (omega (arith, most)))) (λ b. operations_both S F P Q deep rank count other b K N (omega (arith, most)) (omega (arith, bound))))

climb_both : (S : Setting) (P Q : Parser ExprTree) (n other : ℕ) → Deep S (suc n) P Q → (rank : ℕ) → Deep S (suc n) (climb P n rank) (climb Q other rank)
climb_both S P Q n other deep zero = record { both = deep.both }
climb_both S P Q n other deep (suc rank) = record {
  both = λ M N most. both_then S {K = M} {L = N} ((climb_both S P Q n other deep rank).both M N most)
      (λ a. operations_both S (suc n) (climb P n rank) (climb Q other rank) (climb_both S P Q n other deep rank) rank n other a M N most most);
}

-- ---- whole expressions

restored_sides : (S : Setting) (M N K L m n : ℕ) (o p : Outcome ExprTree) → m < M → S.Rooms m n → Sides S K N o p → Sides S M N (restored m o) (restored n p)
restored_sides S M N K L m n o p room related (same a s m' n' less len rooms one two) = same a s m n room len related (ap (restored m) one) (ap (restored n) two)
restored_sides S M N K L m n o p room related (fails stop two) = fails stop (ap (restored n) two)
restored_sides S M N K L m n o p room related (passed gone) = passed (restored_passed S m o gone)
  where
    restored_passed : (S : Setting) (m : ℕ) (o : Outcome ExprTree) → Passed S o → Passed S (restored m o)
    restored_passed S m (Ok p) gone = record { holds = gone.holds }
    restored_passed S m (Err stop) gone = record { holds = gone.holds }

restored_beyond : (S : Setting) (m : ℕ) (o : Outcome ExprTree) → Passed S o → Passed S (restored m o)
restored_beyond S m (Ok p) gone = record { holds = gone.holds }
restored_beyond S m (Err stop) gone = record { holds = gone.holds }

unary_deep : (S : Setting) (n other : ℕ) (P Q : Parser ExprTree) → Deep S n P Q → Deep S (suc n) (unary P n n) (unary Q other other)
unary_deep S n other P Q deep = record { both = λ M N most. unary_both S n P Q deep n other n other M N most most most }

-- a whole expression, with fewer levels than are counted
pub whole_both : (S : Setting) (n other : ℕ) → Deep S n (whole n) (whole other)
whole_both S zero other = record { both = λ M N most. within S {M = zero} {N = suc N} {M' = M} {N' = N} {K = M} {L = suc N} most (omega arith) (omega arith) (omega arith) (nowhere S (λ i short. refused S i unexpected short)) }
whole_both S (suc n) zero = record {
  both = λ M N most. second_stops S (λ i. (unexpected, i.tokens))
      (λ i short. restored_beyond S i.room (climb (unary (whole n) n n) n top_rank i) (((climb_both S (unary (whole n) n n) (unary (whole zero) zero zero) n zero (unary_deep S n zero (whole n) (whole zero) (whole_both S n zero)) top_rank).both zero zero (omega arith)).beyond i short));
}
whole_both S (suc n) (suc other) = record {
  both = λ M N most.
      let inner : Both S M (suc N) M N (climb (unary (whole n) n n) n top_rank) (climb (unary (whole other) other other) other top_rank) =
      (climb_both S (unary (whole n) n n) (unary (whole other) other other) n other (unary_deep S n other (whole n) (whole other) (whole_both S n other)) top_rank).both M N most in
      record {
        before = λ s m n' room len related. restored_sides S M N M N m n' (climb (unary (whole n) n n) n top_rank (at (left_of S s) m)) (climb (unary (whole other) other other) other top_rank (at (right_of S s) n')) room related (inner.before s m n' room len related);
        beyond = λ i short. restored_beyond S i.room (climb (unary (whole n) n n) n top_rank i) (inner.beyond i short);
      };
}
