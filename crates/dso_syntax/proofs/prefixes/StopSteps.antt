-- Where a reader stops, what it read goes on to a whole form: with the room there is up to the last token that opens a level, and with one level
-- more in any case.
use Rattle.std.proofs.Common.{◌≡◌, ℕ, zero, suc, Bool, true, false, cond, [], ◌∷◌, ◌++◌, None, Ok, Err, refl, sym, subst, ap, ◌∙◌, append_assoc, append-nil}
use Rattle.std.proofs.lemmas.Bool.{false≢true}
use Rattle.dso_tokens.specs.declared.token.Keyword.{Keyword}
use Rattle.dso_tokens.specs.declared.token.Mark.{Mark}
use Rattle.dso_tokens.specs.declared.token.Form.{Form}
use Rattle.dso_tokens.specs.declared.token.Form.TheVariants as form
use Rattle.dso_tokens.specs.declared.token.Token.{Token}
use Rattle.dso_syntax.specs.declared.tree.Ident.{Ident}
use Rattle.dso_syntax.specs.Grammar.{Tokens, IsMark, IsKeyword, IsName}
use Rattle.dso_syntax.specs.SyntaxFaults.{OpensLevel, narrowed, opens}
use Rattle.dso_syntax.specs.ExpressionReader.{Input, StopCause, unexpected, too_wide, too_deep, Outcome, Parser, and_then, refuse, is_mark, is_keyword, next_mark, next_keyword, take_from, take_any, take_mark, take_keyword, enter_at, enter, leave, open_mark, close_mark, take_name, name_from, name_by}
use Rattle.dso_syntax.proofs.completeness.ReadSteps.{at}
use Rattle.dso_syntax.proofs.soundness.SoundExpressions.{Came}
use Rattle.dso_syntax.proofs.soundness.SoundSteps.{err_is, Took, mark_took, keyword_took, Opened, open_took, close_took, Named, name_took, took_any}

-- the tokens go on to such a form
pub record Ext (F : Tokens → Type 0) (p : Tokens) : Type 0 where
  pub more : Tokens
  pub holds : F (p ++ more)

-- none of the tokens opens a level
abbrev pub AllQuiet : Tokens → Type 0
AllQuiet [] = Unit {0}
AllQuiet (t ∷ ts) = (OpensLevel t → ⊥) × AllQuiet ts

pub record Quiet (p : Tokens) : Type 0 where
  pub all : AllQuiet p

-- up to the last token that opens a level the tokens go on to the form
pub data Calm (F : Tokens → Type 0) (p : Tokens) : Type 0 where
  held : (b c : Tokens) → p ≡ b ++ c → Quiet c → Ext F b → Calm F p
  quiet : Quiet p → Calm F p

-- What the trouble says of the token where reading stops.
pub data Told (G : Tokens → Type 0) (used : Tokens) (stop : StopCause × Tokens) : Type 0 where
  plain : stop.0 ≡ unexpected → Told G used stop
  wide : (t : Token) (rest : Tokens) → stop ≡ (too_wide, t ∷ rest) → t.form ≡ form.Number None → Ext G (used ++ narrowed t ∷ []) → Told G used stop
  deep : (t : Token) (rest : Tokens) → stop ≡ (too_deep, t ∷ rest) → OpensLevel t → Ext G (used ++ t ∷ []) → Told G used stop

-- where reading stops; F is the form with the room that there is, G with a level more
pub record Stop (F G : Tokens → Type 0) (tokens : Tokens) (stop : StopCause × Tokens) : Type 0 where
  pub used : Tokens
  pub is : tokens ≡ used ++ stop.1
  pub calm : Calm F used
  pub higher : Ext G used
  pub told : Told G used stop

-- ---- from a part to the whole

ext_framed : (F H : Tokens → Type 0) (before after u : Tokens) → ((ts : Tokens) → F ts → H (before ++ (ts ++ after))) → Ext F u → Ext H (before ++ u)
ext_framed F H before after u on ext = record {
  more = ext.more ++ after;
  holds = subst H (ap (λ z. before ++ z) (append_assoc u ext.more after) ∙ sym (append_assoc before u (ext.more ++ after))) (on (u ++ ext.more) ext.holds);
}

pub quiet_both : (p q : Tokens) → Quiet p → Quiet q → Quiet (p ++ q)
quiet_both [] q one two = two
quiet_both (t ∷ p) q one two = let rest : Quiet (p ++ q) = quiet_both p q (record { all = one.all.1 }) two in record { all = (one.all.0, rest.all) }

calm_framed : (F H : Tokens → Type 0) (before after u : Tokens) → ((ts : Tokens) → F ts → H (before ++ (ts ++ after))) → Calm H before → Calm F u → Calm H (before ++ u)
calm_framed F H before after u on around (held b c is none ext) = held (before ++ b) c (ap (λ z. before ++ z) is ∙ sym (append_assoc before b c)) none (ext_framed F H before after b on ext)
calm_framed F H before after u on (held b c is none ext) (quiet all) = held b (c ++ u) (ap (λ z. z ++ u) is ∙ append_assoc b c u) (quiet_both c u none all) ext
calm_framed F H before after u on (quiet none) (quiet all) = quiet (quiet_both before u none all)

told_framed : (G I : Tokens → Type 0) (before after u : Tokens) (stop : StopCause × Tokens) → ((ts : Tokens) → G ts → I (before ++ (ts ++ after))) → Told G u stop → Told I (before ++ u) stop
told_framed G I before after u stop on (plain is) = plain is
told_framed G I before after u stop on (wide t rest is known ext) = wide t rest is known (subst (Ext I) (sym (append_assoc before u (narrowed t ∷ []))) (ext_framed G I before after (u ++ narrowed t ∷ []) on ext))
told_framed G I before after u stop on (deep t rest is known ext) = deep t rest is known (subst (Ext I) (sym (append_assoc before u (t ∷ []))) (ext_framed G I before after (u ++ t ∷ []) on ext))

-- a part stops, so the whole does
pub framed : (F G H I : Tokens → Type 0) (before after tokens : Tokens) (stop : StopCause × Tokens) → ((ts : Tokens) → F ts → H (before ++ (ts ++ after))) → ((ts : Tokens) → G ts → I (before ++ (ts ++ after))) → Calm H before
    → Stop F G tokens stop → Stop H I (before ++ tokens) stop
framed F G H I before after tokens stop one two around it = record {
  used = before ++ it.used;
  is = ap (λ z. before ++ z) it.is ∙ sym (append_assoc before it.used stop.1);
  calm = calm_framed F H before after it.used one around it.calm;
  higher = ext_framed G I before after it.used two it.higher;
  told = told_framed G I before after it.used stop two it.told;
}

-- nothing is read before
pub no_calm : {F : Tokens → Type 0} → Calm F []
no_calm = quiet (record { all = tt })

-- the same, where nothing stands before or behind the part
pub within_form : (F G H I : Tokens → Type 0) (tokens : Tokens) (stop : StopCause × Tokens) → ((ts : Tokens) → F ts → H ts) → ((ts : Tokens) → G ts → I ts) → Stop F G tokens stop → Stop H I tokens stop
within_form F G H I tokens stop one two it = framed F G H I [] [] tokens stop (λ ts d. subst H (sym (append-nil ts)) (one ts d)) (λ ts d. subst I (sym (append-nil ts)) (two ts d)) no_calm it

-- reading goes on behind some tokens
pub behind : (F G : Tokens → Type 0) (before tokens : Tokens) (stop : StopCause × Tokens) → Calm F before → Stop (λ ts. F (before ++ ts)) (λ ts. G (before ++ ts)) tokens stop → Stop F G (before ++ tokens) stop
behind F G before tokens stop around it = framed (λ ts. F (before ++ ts)) (λ ts. G (before ++ ts)) F G before [] tokens stop
    (λ ts d. subst (λ z. F (before ++ z)) (sym (append-nil ts)) d) (λ ts d. subst (λ z. G (before ++ z)) (sym (append-nil ts)) d) around it

-- ---- where the next token is not the one that is wanted

-- reading stops at an unexpected token, or at the end
pub short : (F G : Tokens → Type 0) (tokens : Tokens) (stop : StopCause × Tokens) → stop ≡ (unexpected, tokens) → Ext G [] → Stop F G tokens stop
short F G tokens stop is ext = record { used = []; is = sym (ap (λ (s : StopCause × Tokens). s.1) is); calm = no_calm; higher = ext; told = plain (ap (λ (s : StopCause × Tokens). s.0) is) }

-- reading stops at a token that opens a level too many
pub too_many : (F G : Tokens → Type 0) (t : Token) (rest : Tokens) (stop : StopCause × Tokens) → stop ≡ (too_deep, t ∷ rest) → OpensLevel t → Ext G (t ∷ []) → Stop F G (t ∷ rest) stop
too_many F G t rest stop is opening ext = record {
  used = [];
  is = sym (ap (λ (s : StopCause × Tokens). s.1) is);
  calm = no_calm;
  higher = record { more = t ∷ ext.more; holds = ext.holds };
  told = deep t rest is opening ext;
}

-- ---- steps

-- the first step stops, or the second behind it
pub data Steps {A B : Type 0} (o : Outcome A) (f : A → Parser B) (stop : StopCause × Tokens) : Type 0 where
  first : o ≡ Err stop → Steps o f stop
  second : (a : A) (j : Input) → o ≡ Ok (a, j) → f a j ≡ Err stop → Steps o f stop

abbrev stop_of : {A : Type 0} → StopCause × Tokens → Outcome A → StopCause × Tokens
stop_of other (Err stop) = stop
stop_of other (Ok p) = other

pub stop_is : {A : Type 0} (x y : StopCause × Tokens) → ◌≡◌ {A = Outcome A} (Err x) (Err y) → x ≡ y
stop_is x y same = ap (stop_of x) same

pub err_steps : {A B : Type 0} (o : Outcome A) (f : A → Parser B) (stop : StopCause × Tokens) → and_then o f ≡ Err stop → Steps o f stop
err_steps (Ok p) f stop read = second p.0 p.1 refl read
err_steps (Err other) f stop read = first (ap Err (stop_is other stop read))

pub any_stops : (i : Input) (stop : StopCause × Tokens) → take_any i ≡ Err stop → stop ≡ (unexpected, i.tokens)
any_stops i stop read = pick i.tokens read
  where
    pick : (tokens : Tokens) → take_from i.room tokens ≡ Err stop → stop ≡ (unexpected, tokens)
    pick [] read = sym (stop_is (unexpected, []) stop read)
    pick (t ∷ rest) read = absurd (err_is (t, at rest i.room) stop (sym read))

if_stops : (test : Bool) (i : Input) (stop : StopCause × Tokens) → cond test (take_any i) (refuse i) ≡ Err stop → stop ≡ (unexpected, i.tokens)
if_stops true i stop read = any_stops i stop read
if_stops false i stop read = sym (stop_is (unexpected, i.tokens) stop read)

pub mark_stops : (mark : Mark) (i : Input) (stop : StopCause × Tokens) → take_mark mark i ≡ Err stop → stop ≡ (unexpected, i.tokens)
mark_stops mark i stop read = if_stops (is_mark mark (next_mark i.tokens)) i stop read

pub keyword_stops : (word : Keyword) (i : Input) (stop : StopCause × Tokens) → take_keyword word i ≡ Err stop → stop ≡ (unexpected, i.tokens)
keyword_stops word i stop read = if_stops (is_keyword word (next_keyword i.tokens)) i stop read

pub close_stops : (mark : Mark) (i : Input) (stop : StopCause × Tokens) → close_mark mark i ≡ Err stop → stop ≡ (unexpected, i.tokens)
close_stops mark i stop read = pick (take_mark mark i) refl read
  where
    pick : (o : Outcome Token) → take_mark mark i ≡ o → and_then o (λ t j. and_then (leave j) (λ _. Rattle.dso_syntax.specs.ExpressionReader.pure t)) ≡ Err stop → stop ≡ (unexpected, i.tokens)
    pick (Ok p) is read = absurd (err_is (p.0, at p.1.tokens (suc p.1.room)) stop (sym read))
    pick (Err other) is read = sym (stop_is other stop read) ∙ mark_stops mark i other is

pub name_stops : (i : Input) (stop : StopCause × Tokens) → take_name i ≡ Err stop → stop ≡ (unexpected, i.tokens)
name_stops i stop read = pick i.tokens read
  where
    by_form : (t : Token) (rest : Tokens) (f : Form) → name_by i.room t rest f ≡ Err stop → stop ≡ (unexpected, t ∷ rest)
    by_form t rest (form.Name name) read = absurd (err_is (record { line = t.line; name = name }, at rest i.room) stop (sym read))
    by_form t rest (form.Keyword word) read = sym (stop_is (unexpected, t ∷ rest) stop read)
    by_form t rest (form.Number value) read = sym (stop_is (unexpected, t ∷ rest) stop read)
    by_form t rest (form.Text content) read = sym (stop_is (unexpected, t ∷ rest) stop read)
    by_form t rest (form.Mark mark) read = sym (stop_is (unexpected, t ∷ rest) stop read)

    pick : (tokens : Tokens) → name_from i.room tokens ≡ Err stop → stop ≡ (unexpected, tokens)
    pick [] read = sym (stop_is (unexpected, []) stop read)
    pick (t ∷ rest) read = by_form t rest t.form read

-- a symbol that opens a level is not there, or it opens one too many
pub data OpenStops (R : Token → Type 0) (tokens : Tokens) (stop : StopCause × Tokens) : Type 0 where
  missing : stop ≡ (unexpected, tokens) → OpenStops R tokens stop
  full : (t : Token) (rest : Tokens) → tokens ≡ t ∷ rest → R t → stop ≡ (too_deep, t ∷ rest) → OpenStops R tokens stop

enter_stops : (R : Token → Type 0) (tokens : Tokens) (room : ℕ) (stop : StopCause × Tokens) → ((t : Token) (rest : Tokens) → tokens ≡ t ∷ rest → R t) → (tokens ≡ [] → ⊥) → and_then (enter_at tokens room) (λ _. take_any) ≡ Err stop → OpenStops R tokens stop
enter_stops R [] room stop known some read = absurd (some refl)
enter_stops R (t ∷ rest) zero stop known some read = full t rest refl (known t rest refl) (sym (stop_is (too_deep, t ∷ rest) stop read))
enter_stops R (t ∷ rest) (suc room) stop known some read = absurd (err_is (t, at rest room) stop (sym read))

-- a symbol stands next
pub next_is : (mark : Mark) (tokens : Tokens) → is_mark mark (next_mark tokens) ≡ true → (t : Token) (rest : Tokens) → tokens ≡ t ∷ rest → IsMark mark t
next_is mark tokens is t rest same = Rattle.dso_syntax.proofs.soundness.SoundSteps.form_mark mark t.form (ap (λ z. is_mark mark (next_mark z)) (sym same) ∙ is)

pub open_stops : (mark : Mark) (i : Input) (stop : StopCause × Tokens) → open_mark mark i ≡ Err stop → OpenStops (IsMark mark) i.tokens stop
open_stops mark i stop read = pick (is_mark mark (next_mark i.tokens)) refl read
  where
    pick : (test : Bool) → is_mark mark (next_mark i.tokens) ≡ test → cond test (and_then (enter i) (λ _. take_any)) (refuse i) ≡ Err stop → OpenStops (IsMark mark) i.tokens stop
    pick true is read = enter_stops (IsMark mark) i.tokens i.room stop (next_is mark i.tokens is) (λ none. false≢true (ap (λ z. is_mark mark (next_mark z)) (sym none) ∙ is)) read
    pick false is read = missing (sym (stop_is (unexpected, i.tokens) stop read))

-- any token of a form
abbrev pub token_of : Form → Token
token_of f = record { place = 0; line = 0; form = f }

-- where a symbol that opens a level is wanted
pub opening_stop : (F G : Tokens → Type 0) (mark : Mark) (tokens : Tokens) (stop : StopCause × Tokens) → opens mark ≡ true → ((t : Token) → IsMark mark t → Ext G (t ∷ [])) → OpenStops (IsMark mark) tokens stop → Stop F G tokens stop
opening_stop F G mark tokens stop opening on (missing is) = let ext : Ext G (token_of (form.Mark mark) ∷ []) = on (token_of (form.Mark mark)) refl in short F G tokens stop is (record { more = token_of (form.Mark mark) ∷ ext.more; holds = ext.holds })
opening_stop F G mark tokens stop opening on (full t rest is known same) = subst (λ ts. Stop F G ts stop) (sym is) (too_many F G t rest stop same (mark, known, opening) (on t known))

-- ---- one step and what comes behind it

-- what is whole needs nothing more
pub whole_here : (F : Tokens → Type 0) (p : Tokens) → F p → Ext F p
whole_here F p d = record { more = []; holds = subst F (sym (append-nil p)) d }

pub held_here : (F : Tokens → Type 0) (p : Tokens) → Ext F p → Calm F p
held_here F p ext = held p [] (sym (append-nil p)) (record { all = tt }) ext

abbrev opens_form : Form → Bool
opens_form (form.Mark mark) = opens mark
opens_form other = false

-- a token of a form that opens no level
pub quiet_token : (t : Token) (f : Form) → t.form ≡ f → opens_form f ≡ false → Quiet (t ∷ [])
quiet_token t f is still = record { all = (λ opening. false≢true (sym still ∙ ap opens_form (sym is ∙ opening.1) ∙ opening.2), tt) }

-- behind a token that opens no level
one_on : (F G : Tokens → Type 0) (t : Token) (rest tokens : Tokens) (stop : StopCause × Tokens) → tokens ≡ t ∷ rest → Quiet (t ∷ []) → Stop (λ ts. F (t ∷ ts)) (λ ts. G (t ∷ ts)) rest stop → Stop F G tokens stop
one_on F G t rest tokens stop is none it = subst (λ z. Stop F G z stop) (sym is) (behind F G (t ∷ []) rest stop (quiet none) it)

pub step_mark : {A : Type 0} (F G : Tokens → Type 0) (mark : Mark) (i : Input) (f : Token → Parser A) (stop : StopCause × Tokens) → opens mark ≡ false → Ext G (token_of (form.Mark mark) ∷ [])
    → ((t : Token) (j : Input) → IsMark mark t → j.room ≡ i.room → f t j ≡ Err stop → Stop (λ ts. F (t ∷ ts)) (λ ts. G (t ∷ ts)) j.tokens stop) → and_then (take_mark mark i) f ≡ Err stop → Stop F G i.tokens stop
step_mark {A} F G mark i f stop still ext on read = pick (err_steps (take_mark mark i) f stop read)
  where
    pick : Steps (take_mark mark i) f stop → Stop F G i.tokens stop
    pick (first is) = short F G i.tokens stop (mark_stops mark i stop is) (record { more = token_of (form.Mark mark) ∷ ext.more; holds = ext.holds })
    pick (second t j is later) = let took = mark_took mark i t j is in one_on F G t j.tokens i.tokens stop took.is (quiet_token t (form.Mark mark) took.holds still) (on t j took.holds took.room_is later)

pub step_close : {A : Type 0} (F G : Tokens → Type 0) (mark : Mark) (i : Input) (f : Token → Parser A) (stop : StopCause × Tokens) → opens mark ≡ false → Ext G (token_of (form.Mark mark) ∷ [])
    → ((t : Token) (j : Input) → IsMark mark t → j.room ≡ suc i.room → f t j ≡ Err stop → Stop (λ ts. F (t ∷ ts)) (λ ts. G (t ∷ ts)) j.tokens stop) → and_then (close_mark mark i) f ≡ Err stop → Stop F G i.tokens stop
step_close {A} F G mark i f stop still ext on read = pick (err_steps (close_mark mark i) f stop read)
  where
    pick : Steps (close_mark mark i) f stop → Stop F G i.tokens stop
    pick (first is) = short F G i.tokens stop (close_stops mark i stop is) (record { more = token_of (form.Mark mark) ∷ ext.more; holds = ext.holds })
    pick (second t j is later) = let took = close_took mark i t j is in one_on F G t j.tokens i.tokens stop took.is (quiet_token t (form.Mark mark) took.holds still) (on t j took.holds took.room_is later)

pub step_keyword : {A : Type 0} (F G : Tokens → Type 0) (word : Keyword) (i : Input) (f : Token → Parser A) (stop : StopCause × Tokens) → Ext G []
    → ((t : Token) (j : Input) → IsKeyword word t → j.room ≡ i.room → f t j ≡ Err stop → Stop (λ ts. F (t ∷ ts)) (λ ts. G (t ∷ ts)) j.tokens stop) → and_then (take_keyword word i) f ≡ Err stop → Stop F G i.tokens stop
step_keyword {A} F G word i f stop ext on read = pick (err_steps (take_keyword word i) f stop read)
  where
    pick : Steps (take_keyword word i) f stop → Stop F G i.tokens stop
    pick (first is) = short F G i.tokens stop (keyword_stops word i stop is) ext
    pick (second t j is later) = let took = keyword_took word i t j is in one_on F G t j.tokens i.tokens stop took.is (quiet_token t (form.Keyword word) took.holds refl) (on t j took.holds took.room_is later)

-- any token of a form that is seen
pub step_seen : {A : Type 0} (F G : Tokens → Type 0) (R : Token → Type 0) (i : Input) (f : Token → Parser A) (stop : StopCause × Tokens) → ((t : Token) (rest : Tokens) → i.tokens ≡ t ∷ rest → R t) → ((t : Token) → R t → Quiet (t ∷ [])) → Ext G []
    → ((t : Token) (j : Input) → R t → j.room ≡ i.room → f t j ≡ Err stop → Stop (λ ts. F (t ∷ ts)) (λ ts. G (t ∷ ts)) j.tokens stop) → and_then (take_any i) f ≡ Err stop → Stop F G i.tokens stop
step_seen {A} F G R i f stop known none ext on read = pick (err_steps (take_any i) f stop read)
  where
    pick : Steps (take_any i) f stop → Stop F G i.tokens stop
    pick (first is) = short F G i.tokens stop (any_stops i stop is) ext
    pick (second t j is later) = let took = took_any R i.room i.tokens t j known is in one_on F G t j.tokens i.tokens stop took.is (none t took.holds) (on t j took.holds took.room_is later)

-- some name
abbrev pub some_name : Ident
some_name = record { line = 0; name = [] }

pub step_name : {A : Type 0} (F G : Tokens → Type 0) (i : Input) (f : Ident → Parser A) (stop : StopCause × Tokens) → Ext G []
    → ((t : Token) (name : Ident) (j : Input) → IsName name t → j.room ≡ i.room → f name j ≡ Err stop → Stop (λ ts. F (t ∷ ts)) (λ ts. G (t ∷ ts)) j.tokens stop) → and_then (take_name i) f ≡ Err stop → Stop F G i.tokens stop
step_name {A} F G i f stop ext on read = pick (err_steps (take_name i) f stop read)
  where
    pick : Steps (take_name i) f stop → Stop F G i.tokens stop
    pick (first is) = short F G i.tokens stop (name_stops i stop is) ext
    pick (second name j is later) = let took = name_took i.room i.tokens name j is in one_on F G took.token j.tokens i.tokens stop took.is (quiet_token took.token (form.Name name.name) took.holds.0 refl) (on took.token name j took.holds took.room_is later)

pub step_open : {A : Type 0} (F G : Tokens → Type 0) (mark : Mark) (i : Input) (f : Token → Parser A) (stop : StopCause × Tokens) → opens mark ≡ true
    → ((t : Token) → IsMark mark t → Ext G (t ∷ [])) → ((t : Token) (m : ℕ) → IsMark mark t → i.room ≡ suc m → Ext F (t ∷ []))
    → ((t : Token) (j : Input) → IsMark mark t → i.room ≡ suc j.room → f t j ≡ Err stop → Stop (λ ts. F (t ∷ ts)) (λ ts. G (t ∷ ts)) j.tokens stop) → and_then (open_mark mark i) f ≡ Err stop → Stop F G i.tokens stop
step_open {A} F G mark i f stop opening full_ext ext on read = pick (err_steps (open_mark mark i) f stop read)
  where
    pick : Steps (open_mark mark i) f stop → Stop F G i.tokens stop
    pick (first is) = opening_stop F G mark i.tokens stop opening full_ext (open_stops mark i stop is)
    pick (second t j is later) =
        let took = open_took mark i t j is in
        subst (λ z. Stop F G z stop) (sym took.is) (behind F G (t ∷ []) j.tokens stop (held_here F (t ∷ []) (ext t j.room took.holds took.room_is)) (on t j took.holds took.room_is later))

-- some form of a kind
abbrev pub Some_of : {A : Type 0} → (ℕ → Tokens → A → Type 0) → ℕ → Tokens → Type 0
Some_of {A} R room ts = (a : A) × R room ts a

-- a reader of a form: what it reads, and where it stops
pub record Reader {A : Type 0} (R : ℕ → Tokens → A → Type 0) (P : Parser A) : Type 0 where
  pub sound : (i : Input) (a : A) (j : Input) → P i ≡ Ok (a, j) → Came (λ ts. R i.room ts a) i i.room j
  pub halts : (i : Input) (stop : StopCause × Tokens) → P i ≡ Err stop → Stop (Some_of R i.room) (Some_of R (suc i.room)) i.tokens stop

pub step_part : {A B : Type 0} (R : ℕ → Tokens → A → Type 0) (P : Parser A) → Reader R P → (F G : Tokens → Type 0) (i : Input) (f : A → Parser B) (stop : StopCause × Tokens) (after : Tokens)
    → ((ts : Tokens) (a : A) → R i.room ts a → F (ts ++ after)) → ((ts : Tokens) (a : A) → R (suc i.room) ts a → G (ts ++ after))
    → ((ts : Tokens) (a : A) (j : Input) → R i.room ts a → j.room ≡ i.room → f a j ≡ Err stop → Stop (λ us. F (ts ++ us)) (λ us. G (ts ++ us)) j.tokens stop) → and_then (P i) f ≡ Err stop → Stop F G i.tokens stop
step_part {A} {B} R P reader F G i f stop after one two on read = pick (err_steps (P i) f stop read)
  where
    pick : Steps (P i) f stop → Stop F G i.tokens stop
    pick (first is) = framed (Some_of R i.room) (Some_of R (suc i.room)) F G [] after i.tokens stop (λ ts d. one ts d.0 d.1) (λ ts d. two ts d.0 d.1) no_calm (reader.halts i stop is)
    pick (second a j is later) =
        let came = reader.sound i a j is in
        subst (λ z. Stop F G z stop) (sym came.is) (behind F G came.tokens j.tokens stop (held_here F came.tokens (record { more = after; holds = one came.tokens a came.reads })) (on came.tokens a j came.reads came.room_is later))

-- what reads something does not stop
pub no_stop : {A : Type 0} {F G : Tokens → Type 0} {tokens : Tokens} (p : A × Input) (stop : StopCause × Tokens) → ◌≡◌ {A = Outcome A} (Ok p) (Err stop) → Stop F G tokens stop
no_stop p stop read = absurd (err_is p stop (sym read))

-- a level is taken for the next token, whatever it is
pub step_enter : {A : Type 0} (F G : Tokens → Type 0) (R : Token → Type 0) (tokens : Tokens) (room : ℕ) (f : Token → Parser A) (stop : StopCause × Tokens) → (tokens ≡ [] → ⊥) → ((t : Token) (rest : Tokens) → tokens ≡ t ∷ rest → R t) → ((t : Token) → R t → OpensLevel t)
    → ((t : Token) → R t → Ext G (t ∷ [])) → ((t : Token) (m : ℕ) → R t → room ≡ suc m → Ext F (t ∷ []))
    → ((t : Token) (rest : Tokens) (m : ℕ) → R t → room ≡ suc m → f t (at rest m) ≡ Err stop → Stop (λ ts. F (t ∷ ts)) (λ ts. G (t ∷ ts)) rest stop) → and_then (enter_at tokens room) (λ _ j. and_then (take_any j) f) ≡ Err stop → Stop F G tokens stop
step_enter F G R [] room f stop some known opening full_ext ext on read = absurd (some refl)
step_enter F G R (t ∷ rest) zero f stop some known opening full_ext ext on read = let holds : R t = known t rest refl in too_many F G t rest stop (sym (stop_is (too_deep, t ∷ rest) stop read)) (opening t holds) (full_ext t holds)
step_enter F G R (t ∷ rest) (suc m) f stop some known opening full_ext ext on read = let holds : R t = known t rest refl in behind F G (t ∷ []) rest stop (held_here F (t ∷ []) (ext t m holds refl)) (on t rest m holds refl read)
