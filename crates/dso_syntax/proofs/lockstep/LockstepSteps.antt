-- Two readers go in lockstep: over two rows of tokens that begin alike, up to a token, and go on in any way behind it. Where the first stops at
-- that token, the second does not go on with it either. What stands behind the token does not count.
use Rattle.std.proofs.Common.{◌≡◌, ℕ, zero, suc, ◌≤◌, ◌<◌, Bool, true, false, cond, [], ◌∷◌, ◌++◌, length, Some, None, Ok, Err, refl, sym, subst, ap, ◌∙◌, arith}
use Rattle.std.specs.Prelude.{pos}
use Rattle.dso_tokens.specs.declared.token.Keyword.{Keyword}
use Rattle.dso_tokens.specs.declared.token.Mark.{Mark}
use Rattle.dso_tokens.specs.declared.token.Form.{Form}
use Rattle.dso_tokens.specs.declared.token.Form.TheVariants as form
use Rattle.dso_tokens.specs.declared.token.Token.{Token}
use Rattle.dso_syntax.specs.Grammar.{Tokens}
use Rattle.dso_syntax.specs.ExpressionReader.{Input, StopCause, unexpected, too_wide, too_deep, Outcome, Parser, and_then, pure, refuse, mark_of, keyword_of, is_mark, is_keyword, next_mark, next_keyword, take_from, take_any, take_mark, take_keyword, enter_at, enter, leave, open_mark, close_mark, name_by, name_from, take_name}
use Rattle.dso_syntax.specs.ProgramReader.{next_line}
use Rattle.dso_syntax.proofs.completeness.ReadSteps.{at}

-- the second token is the first or, where that is a number that is too wide, a number in its place
pub data Twin : Token → Token → Type 0 where
  itself : {t : Token} → Twin t t
  narrower : {t u : Token} → t.form ≡ form.Number None → u.form ≡ form.Number (Some (pos 0)) → t.line ≡ u.line → Twin t u

-- The two tokens, what stands behind them, which troubles count, and how the rooms on both sides are related.
pub record Setting : Type 1 where
  pub first : Token
  pub second : Token
  pub behind_first : Tokens
  pub behind_second : Tokens
  pub twin : Twin first second
  pub Hit : StopCause → Type 0
  pub Rooms : ℕ → ℕ → Type 0
  pub wide_differs : Hit too_wide → first ≡ second
  pub deeper : (m n : ℕ) → Rooms (suc m) (suc n) → Rooms m n
  pub higher : (m n : ℕ) → Rooms m n → Rooms (suc m) (suc n)
  pub no_more : (n : ℕ) → Hit too_deep → Rooms zero (suc n) → ⊥

-- the tokens on both sides
abbrev pub left_of : Setting → Tokens → Tokens
left_of S s = s ++ S.first ∷ S.behind_first

abbrev pub right_of : Setting → Tokens → Tokens
right_of S s = s ++ S.second ∷ S.behind_second

-- the first side is past the token, or stops in another way than counts
abbrev pub PassedBy : {A : Type 0} → Setting → Outcome A → Type 0
PassedBy S (Ok p) = length p.1.tokens ≤ length S.behind_first
PassedBy S (Err stop) = S.Hit stop.0 → stop.1 ≡ S.first ∷ S.behind_first → ⊥

pub record Passed {A : Type 0} (S : Setting) (o : Outcome A) : Type 0 where
  pub holds : PassedBy S o

-- both sides read the same and stand before the token, the second fails, or the first has passed
pub data Sides {A : Type 0} (S : Setting) (M N : ℕ) (o p : Outcome A) : Type 0 where
  same : (a : A) (s : Tokens) (m n : ℕ) → m < M → length s < N → S.Rooms m n → o ≡ Ok (a, at (left_of S s) m) → p ≡ Ok (a, at (right_of S s) n) → Sides S M N o p
  fails : (stop : StopCause × Tokens) → p ≡ Err stop → Sides S M N o p
  passed : Passed S o → Sides S M N o p

-- Two parsers in lockstep, from less room than M and fewer tokens than N before the token, to less than M' and N'.
pub record Both {A : Type 0} (S : Setting) (M N M' N' : ℕ) (P Q : Parser A) : Type 0 where
  pub before : (s : Tokens) (m n : ℕ) → m < M → length s < N → S.Rooms m n → Sides S M' N' (P (at (left_of S s) m)) (Q (at (right_of S s) n))
  pub beyond : (i : Input) → length i.tokens ≤ length S.behind_first → Passed S (P i)

-- ---- combining

-- beyond the token, what refuses does not stop at it
pub refused : {A : Type 0} (S : Setting) (i : Input) (cause : StopCause) → length i.tokens ≤ length S.behind_first → Passed {A = A} S (Err (cause, i.tokens))
refused S i cause short = record { holds = λ hit is. let len : length i.tokens ≡ suc (length S.behind_first) = ap length is in absurd (omega (arith, short, len)) }

then_passed : {A B : Type 0} (S : Setting) (o : Outcome A) (f : A → Parser B) → Passed S o → ((a : A) (i : Input) → length i.tokens ≤ length S.behind_first → Passed S (f a i)) → Passed S (and_then o f)
then_passed S (Ok p) f gone on = on p.0 p.1 gone.holds
then_passed S (Err stop) f gone on = record { holds = gone.holds }

then_sides : {A B : Type 0} (S : Setting) (M N M' N' : ℕ) (o p : Outcome A) (f g : A → Parser B) → Sides S M N o p → ((a : A) → Both S M N M' N' (f a) (g a)) → Sides S M' N' (and_then o f) (and_then p g)
then_sides S M N M' N' o p f g (same a s m n room len rooms one two) on =
    subst (λ z. Sides S M' N' (and_then z f) (and_then p g)) (sym one) (subst (λ z. Sides S M' N' (f a (at (left_of S s) m)) (and_then z g)) (sym two) ((on a).before s m n room len rooms))
then_sides S M N M' N' o p f g (fails stop two) on = fails stop (ap (λ z. and_then z g) two)
then_sides S M N M' N' o p f g (passed gone) on = passed (then_passed S o f gone (λ a. (on a).beyond))

pub both_then : {A B : Type 0} (S : Setting) {M N K L M' N' : ℕ} {P Q : Parser A} {f g : A → Parser B} → Both S M N K L P Q → ((a : A) → Both S K L M' N' (f a) (g a))
    → Both S M N M' N' (λ i. and_then (P i) f) (λ i. and_then (Q i) g)
both_then S {M} {N} {K} {L} {M'} {N'} {P} {Q} {f} {g} one on = record {
  before = λ s m n room len rooms. then_sides S K L M' N' (P (at (left_of S s) m)) (Q (at (right_of S s) n)) f g (one.before s m n room len rooms) on;
  beyond = λ i short. then_passed S (P i) f (one.beyond i short) (λ a. (on a).beyond);
}

-- what both sides see alike of the tokens
pub record Alike {K : Type 0} (S : Setting) (key : Tokens → K) : Type 0 where
  pub is : (s : Tokens) → key (left_of S s) ≡ key (right_of S s)

pub both_on : {A K : Type 0} (S : Setting) {M N M' N' : ℕ} (key : Tokens → K) {P Q : K → Parser A} → Alike S key → ((x : K) → Both S M N M' N' (P x) (Q x))
    → Both S M N M' N' (λ i. P (key i.tokens) i) (λ i. Q (key i.tokens) i)
both_on S {M} {N} {M'} {N'} key {P} {Q} alike on = record {
  before = λ s m n room len rooms. subst (λ x. Sides S M' N' (P (key (left_of S s)) (at (left_of S s) m)) (Q x (at (right_of S s) n))) (alike.is s) ((on (key (left_of S s))).before s m n room len rooms);
  beyond = λ i short. (on (key i.tokens)).beyond i short;
}

-- two ways by a test
pub two_ways : {A : Type 0} (S : Setting) {M N M' N' : ℕ} {P Q R T : Parser A} → Both S M N M' N' P Q → Both S M N M' N' R T → (x : Bool)
    → Both S M N M' N' (λ i. cond x (P i) (R i)) (λ i. cond x (Q i) (T i))
two_ways S one other true = one
two_ways S one other false = other

-- ---- weaker limits

sides_within : {A : Type 0} (S : Setting) (M N M' N' : ℕ) (o p : Outcome A) → M ≤ M' → N ≤ N' → Sides S M N o p → Sides S M' N' o p
sides_within S M N M' N' o p rooms lens (same a s m n room len related one two) = same a s m n (omega (arith, room, rooms)) (omega (arith, len, lens)) related one two
sides_within S M N M' N' o p rooms lens (fails stop two) = fails stop two
sides_within S M N M' N' o p rooms lens (passed gone) = passed gone

-- more tokens may be left than are
pub looser : {A : Type 0} (S : Setting) {M N M' : ℕ} {P Q : Parser A} → Both S M (suc N) M' N P Q → Both S M N M' N P Q
looser S {M} {N} {M'} both = record {
  before = λ s m n room len rooms. both.before s m n room (omega (arith, len)) rooms;
  beyond = both.beyond;
}

-- limits of what is read, in general
pub within : {A : Type 0} (S : Setting) {M N M' N' K L K' L' : ℕ} {P Q : Parser A} → K ≤ M → L ≤ N → M' ≤ K' → N' ≤ L' → Both S M N M' N' P Q → Both S K L K' L' P Q
within S {M} {N} {M'} {N'} {K} {L} {K'} {L'} {P} {Q} a b c d both = record {
  before = λ s m n room len rooms. sides_within S M' N' K' L' (P (at (left_of S s) m)) (Q (at (right_of S s) n)) c d (both.before s m n (omega (arith, room, a)) (omega (arith, len, b)) rooms);
  beyond = both.beyond;
}

-- ---- single steps

pub both_pure : {A : Type 0} (S : Setting) {M N : ℕ} (a : A) → Both S M N M N (pure a) (pure a)
both_pure S a = record { before = λ s m n room len rooms. same a s m n room len rooms refl refl; beyond = λ i short. record { holds = short } }

-- the second side refuses
pub both_refuse : {A : Type 0} (S : Setting) {M N M' N' : ℕ} → Both {A = A} S M N M' N' refuse refuse
both_refuse S = record { before = λ s m n room len rooms. fails (unexpected, right_of S s) refl; beyond = λ i short. refused S i unexpected short }

any_before : (S : Setting) (M N : ℕ) (s : Tokens) (m n : ℕ) → m < M → length s < suc N → S.Rooms m n → Sides S M N (take_any (at (left_of S s) m)) (take_any (at (right_of S s) n))
any_before S M N [] m n room len rooms = passed (record { holds = omega arith })
any_before S M N (t ∷ s) m n room len rooms = let short : length s < N = omega (arith, len) in same t s m n room short rooms refl refl

any_beyond : (S : Setting) (tokens : Tokens) (room : ℕ) → length tokens ≤ length S.behind_first → Passed S (take_from room tokens)
any_beyond S [] room short = refused S (at [] room) unexpected short
any_beyond S (t ∷ rest) room short = record { holds = omega (arith, short) }

pub both_any : (S : Setting) {M N : ℕ} → Both S M (suc N) M N take_any take_any
both_any S {M} {N} = record { before = any_before S M N; beyond = λ i. any_beyond S i.tokens i.room }

enter_before : (S : Setting) (M N : ℕ) (s : Tokens) (m n : ℕ) → m < suc M → length s < N → S.Rooms m n → Sides S M N (enter_at (left_of S s) m) (enter_at (right_of S s) n)
enter_before S M N s zero zero room len rooms = fails (too_deep, right_of S s) refl
enter_before S M N s zero (suc n) room len rooms = passed (record { holds = λ hit is. S.no_more n hit rooms })
enter_before S M N s (suc m) zero room len rooms = fails (too_deep, right_of S s) refl
enter_before S M N s (suc m) (suc n) room len rooms = let less : m < M = omega (arith, room) in same tt s m n less len (S.deeper m n rooms) refl refl

enter_beyond : (S : Setting) (tokens : Tokens) (room : ℕ) → length tokens ≤ length S.behind_first → Passed S (enter_at tokens room)
enter_beyond S tokens zero short = refused S (at tokens zero) too_deep short
enter_beyond S tokens (suc room) short = record { holds = short }

pub both_enter : (S : Setting) {M N : ℕ} → Both S (suc M) N M N enter enter
both_enter S {M} {N} = record { before = enter_before S M N; beyond = λ i. enter_beyond S i.tokens i.room }

pub both_leave : (S : Setting) {M N : ℕ} → Both S M N (suc M) N leave leave
both_leave S {M} {N} = record {
  before = λ s m n room len rooms. same tt s (suc m) (suc n) (omega (arith, room)) len (S.higher m n rooms) refl refl;
  beyond = λ i short. record { holds = short };
}

-- ---- what both sides see

twin_mark : (t u : Token) → Twin t u → mark_of t.form ≡ mark_of u.form
twin_mark t u itself = refl
twin_mark t u (narrower one two line) = ap mark_of one ∙ sym (ap mark_of two)

twin_keyword : (t u : Token) → Twin t u → keyword_of t.form ≡ keyword_of u.form
twin_keyword t u itself = refl
twin_keyword t u (narrower one two line) = ap keyword_of one ∙ sym (ap keyword_of two)

twin_line : (t u : Token) → Twin t u → t.line ≡ u.line
twin_line t u itself = refl
twin_line t u (narrower one two line) = line

pub alike_mark : (S : Setting) → Alike S next_mark
alike_mark S = record { is = see }
  where
    see : (s : Tokens) → next_mark (left_of S s) ≡ next_mark (right_of S s)
    see [] = twin_mark S.first S.second S.twin
    see (t ∷ s) = refl

pub alike_keyword : (S : Setting) → Alike S next_keyword
alike_keyword S = record { is = see }
  where
    see : (s : Tokens) → next_keyword (left_of S s) ≡ next_keyword (right_of S s)
    see [] = twin_keyword S.first S.second S.twin
    see (t ∷ s) = refl

pub alike_line : (S : Setting) → Alike S next_line
alike_line S = record { is = see }
  where
    see : (s : Tokens) → next_line (left_of S s) ≡ next_line (right_of S s)
    see [] = twin_line S.first S.second S.twin
    see (t ∷ s) = refl

-- and what follows from it
pub alike_through : {K L : Type 0} (S : Setting) {key : Tokens → K} (f : K → L) → Alike S key → Alike S (λ ts. f (key ts))
alike_through S f alike = record { is = λ s. ap f (alike.is s) }

-- ---- tokens

pub both_mark : (S : Setting) {M N : ℕ} (mark : Mark) → Both S M (suc N) M N (take_mark mark) (take_mark mark)
both_mark S mark = both_on S (λ ts. is_mark mark (next_mark ts)) {P = λ x i. cond x (take_any i) (refuse i)} {Q = λ x i. cond x (take_any i) (refuse i)}
    (alike_through S (is_mark mark) (alike_mark S)) (two_ways S (both_any S) (both_refuse S))

pub both_keyword : (S : Setting) {M N : ℕ} (word : Keyword) → Both S M (suc N) M N (take_keyword word) (take_keyword word)
both_keyword S word = both_on S (λ ts. is_keyword word (next_keyword ts)) {P = λ x i. cond x (take_any i) (refuse i)} {Q = λ x i. cond x (take_any i) (refuse i)}
    (alike_through S (is_keyword word) (alike_keyword S)) (two_ways S (both_any S) (both_refuse S))

pub both_open : (S : Setting) {M N : ℕ} (mark : Mark) → Both S (suc M) (suc N) M N (open_mark mark) (open_mark mark)
both_open S mark = both_on S (λ ts. is_mark mark (next_mark ts)) {P = λ x i. cond x (and_then (enter i) (λ _. take_any)) (refuse i)} {Q = λ x i. cond x (and_then (enter i) (λ _. take_any)) (refuse i)}
    (alike_through S (is_mark mark) (alike_mark S)) (two_ways S (both_then S (both_enter S) (λ _. both_any S)) (both_refuse S))

pub both_close : (S : Setting) {M N : ℕ} (mark : Mark) → Both S M (suc N) (suc M) N (close_mark mark) (close_mark mark)
both_close S mark = both_then S (both_mark S mark) (λ t. both_then S (both_leave S) (λ _. both_pure S t))

name_before : (S : Setting) (M N : ℕ) (s : Tokens) (m n : ℕ) → m < M → length s < suc N → S.Rooms m n → Sides S M N (take_name (at (left_of S s) m)) (take_name (at (right_of S s) n))
name_before S M N [] m n room len rooms = last S.first S.second S.twin
  where
    by_form : (this : Form) (t : Token) → Twin t t → Sides S M N (name_by m t S.behind_first this) (name_by n t S.behind_second this)
    by_form (form.Name name) t twin = passed (record { holds = omega arith })
    by_form (form.Keyword word) t twin = fails (unexpected, t ∷ S.behind_second) refl
    by_form (form.Number value) t twin = fails (unexpected, t ∷ S.behind_second) refl
    by_form (form.Text content) t twin = fails (unexpected, t ∷ S.behind_second) refl
    by_form (form.Mark mark) t twin = fails (unexpected, t ∷ S.behind_second) refl

    last : (t u : Token) → Twin t u → Sides S M N (name_by m t S.behind_first t.form) (name_by n u S.behind_second u.form)
    last t u itself = by_form t.form t itself
    last t u (narrower one two line) = fails (unexpected, u ∷ S.behind_second) (ap (name_by n u S.behind_second) two)
name_before S M N (t ∷ s) m n room len rooms = by_form t.form
  where
    by_form : (this : Form) → Sides S M N (name_by m t (left_of S s) this) (name_by n t (right_of S s) this)
    by_form (form.Name name) = let short : length s < N = omega (arith, len) in same (record { line = t.line; name = name }) s m n room short rooms refl refl
    by_form (form.Keyword word) = fails (unexpected, t ∷ right_of S s) refl
    by_form (form.Number value) = fails (unexpected, t ∷ right_of S s) refl
    by_form (form.Text content) = fails (unexpected, t ∷ right_of S s) refl
    by_form (form.Mark mark) = fails (unexpected, t ∷ right_of S s) refl

name_beyond : (S : Setting) (tokens : Tokens) (room : ℕ) → length tokens ≤ length S.behind_first → Passed S (name_from room tokens)
name_beyond S [] room short = refused S (at [] room) unexpected short
name_beyond S (t ∷ rest) room short = by_form t.form
  where
    by_form : (this : Form) → Passed S (name_by room t rest this)
    by_form (form.Name name) = record { holds = omega (arith, short) }
    by_form (form.Keyword word) = refused S (at (t ∷ rest) room) unexpected short
    by_form (form.Number value) = refused S (at (t ∷ rest) room) unexpected short
    by_form (form.Text content) = refused S (at (t ∷ rest) room) unexpected short
    by_form (form.Mark mark) = refused S (at (t ∷ rest) room) unexpected short

pub both_name : (S : Setting) {M N : ℕ} → Both S M (suc N) M N take_name take_name
both_name S {M} {N} = record { before = name_before S M N; beyond = λ i. name_beyond S i.tokens i.room }

-- ---- where one side does not go on

-- the second side stops here, whatever the first does
pub second_stops : {A : Type 0} (S : Setting) {M N M' N' : ℕ} {P : Parser A} (stop : Input → StopCause × Tokens) → ((i : Input) → length i.tokens ≤ length S.behind_first → Passed S (P i))
    → Both S M N M' N' P (λ i. Err (stop i))
second_stops S stop beyond = record { before = λ s m n room len rooms. fails (stop (at (right_of S s) n)) refl; beyond = beyond }

-- both sides stop here
pub both_stop : {A : Type 0} (S : Setting) {M N M' N' : ℕ} (cause : StopCause) → Both {A = A} S M N M' N' (λ i. Err (cause, i.tokens)) (λ i. Err (cause, i.tokens))
both_stop S cause = record { before = λ s m n room len rooms. fails (cause, right_of S s) refl; beyond = λ i short. refused S i cause short }

-- no room is so small
pub nowhere : {A : Type 0} (S : Setting) {N M' N' : ℕ} {P Q : Parser A} → ((i : Input) → length i.tokens ≤ length S.behind_first → Passed S (P i)) → Both S zero N M' N' P Q
nowhere S beyond = record { before = λ s m n room len rooms. absurd (omega (arith, room)); beyond = beyond }

-- what holds with some room holds with any
pub rooms : {A : Type 0} (S : Setting) (F : ℕ) {N N' : ℕ} {P Q : Parser A} → ((K : ℕ) → K ≤ F → Both S (suc K) N (suc K) N' P Q) → (M : ℕ) → M ≤ suc F → Both S M N M N' P Q
rooms S F on zero most = nowhere S (on zero (omega arith)).beyond
rooms S F on (suc K) most = on K (omega (arith, most))
