-- A text is read in one way, and step by step as the front of it is found.
use Rattle.std.proofs.Common.{◌≡◌, ℕ, zero, suc, ◌+◌, ◌≤◌, Bool, true, false, cond, ◌||◌, ◌&&◌, ◌==◌, List, [], ◌∷◌, ◌++◌, length, take, drop, Some, None, refl, sym, subst, ap, ◌∙◌, ◌-◌, arith, length-take-le, length-drop}
use Rattle.std.specs.List.{list_all, prefix_len}
use Rattle.std.proofs.lemmas.Option.{none-some}
use Rattle.std.proofs.lemmas.Bool.{false≢true}
use Rattle.std.proofs.lemmas.Bool.Decides.{Decides-eqb}
use Rattle.std.proofs.lemmas.List.{take-append-drop}
use Rattle.std.proofs.Math.Seq.{drop-append_seam}
use Rattle.dso_tokens.specs.declared.token.Form.{Form}
use Rattle.dso_tokens.specs.declared.token.Token.{Token}
use Rattle.dso_tokens.specs.declared.token.Ending.{Ending}
use Rattle.dso_tokens.specs.declared.token.Ending.TheVariants as ending
use Rattle.dso_tokens.specs.declared.scan.Front.{Front}
use Rattle.dso_tokens.specs.declared.scan.Front.TheVariants as front
use Rattle.dso_tokens.specs.Bytes.{Text, begins, is_white, is_allowed, is_letter, is_digit, is_printable, is_of_line, line_after}
use Rattle.dso_tokens.specs.declared.token.Mark.{Mark}
use Rattle.dso_tokens.specs.declared.token.Mark.TheVariants as m
use Rattle.dso_tokens.specs.declared.token.Form.TheVariants as form
use Rattle.dso_tokens.specs.Spelling.{symbol_of}
use Rattle.dso_tokens.proofs.tokens.Words.{reserved_is}
use Rattle.dso_tokens.specs.Token.{IsToken}
use Rattle.dso_tokens.specs.Scan.{Found, token_at, front_at, front_of, begins_comment}
use Rattle.dso_tokens.specs.Reading.{Reads, ends, passes, comments, takes, bad_byte, bad_token}
use Rattle.dso_tokens.proofs.tokens.ByteRuns.{IsRun, run_found, run_is, first_holds, second_holds}
use Rattle.dso_tokens.proofs.tokens.TokenLaws.{TokenAtFront, token_at_front, token_read}

-- the line behind a gap: the next one behind a line feed
abbrev pub line_behind : Text → ℕ → ℕ
line_behind [] line = line
line_behind (b ∷ rest) line = line_after b line

-- how a text is read, told by what it begins with
abbrev pub Step : Front → ℕ → ℕ → Text → List Token → Ending → Type 0
Step front.End place line text tokens end = (tokens ≡ []) × (end ≡ ending.End place)
Step (front.Gap count) place line text tokens end = Reads (place + count) (line_behind text line) (drop count text) tokens end
Step (front.Token form count) place line text tokens end =
    (more : List Token) × (tokens ≡ record { place = place; line = line; form = form } ∷ more) × Reads (place + count) line (drop count text) more end
Step front.BadByte place line text tokens end = (tokens ≡ []) × (end ≡ ending.BadByte place)
Step front.BadToken place line text tokens end = (tokens ≡ []) × (end ≡ ending.BadToken place)

-- which bytes are no white space and allowed: those that begin a token
word_allowed : (b : ℕ) → is_letter b ≡ true → (is_white b ≡ false) × (is_allowed b ≡ true)
word_allowed b is = (grind arith, grind arith)

digit_allowed : (b : ℕ) → is_digit b ≡ true → (is_white b ≡ false) × (is_allowed b ≡ true)
digit_allowed b is = (grind arith, grind arith)

-- and so does each symbol
symbol_visible : (mark : Mark) → (begins is_white (symbol_of mark) ≡ false) × (begins is_allowed (symbol_of mark) ≡ true)
symbol_visible m.OpenBrace = (refl, refl)
symbol_visible m.CloseBrace = (refl, refl)
symbol_visible m.OpenParen = (refl, refl)
symbol_visible m.CloseParen = (refl, refl)
symbol_visible m.OpenBracket = (refl, refl)
symbol_visible m.CloseBracket = (refl, refl)
symbol_visible m.Semicolon = (refl, refl)
symbol_visible m.Comma = (refl, refl)
symbol_visible m.Dot = (refl, refl)
symbol_visible m.Assign = (refl, refl)
symbol_visible m.EqualTo = (refl, refl)
symbol_visible m.NotEqual = (refl, refl)
symbol_visible m.Less = (refl, refl)
symbol_visible m.LessEqual = (refl, refl)
symbol_visible m.Greater = (refl, refl)
symbol_visible m.GreaterEqual = (refl, refl)
symbol_visible m.Plus = (refl, refl)
symbol_visible m.Minus = (refl, refl)
symbol_visible m.Star = (refl, refl)
symbol_visible m.Slash = (refl, refl)
symbol_visible m.Percent = (refl, refl)
symbol_visible m.Bang = (refl, refl)
symbol_visible m.AndAnd = (refl, refl)
symbol_visible m.OrOr = (refl, refl)

letter_visible : (word : Text) → begins is_letter word ≡ true → (begins is_white word ≡ false) × (begins is_allowed word ≡ true)
letter_visible [] is = absurd (false≢true is)
letter_visible (b ∷ word) is = word_allowed b is

digit_visible : (word : Text) → begins is_digit word ≡ true → (begins is_white word ≡ false) × (begins is_allowed word ≡ true)
digit_visible [] is = absurd (false≢true is)
digit_visible (b ∷ word) is = digit_allowed b is

-- a token begins with a visible byte
token_visible : (this : Form) (word rest : Text) → IsToken this word rest → (begins is_white word ≡ false) × (begins is_allowed word ≡ true)
token_visible (form.Name name) word rest token = letter_visible word token.1
token_visible (form.Keyword reserved) word rest token = letter_visible word (subst (λ w. begins is_letter w ≡ true) (sym token.0) (reserved_is reserved).starts)
token_visible (form.Number value) word rest token = digit_visible word token.1
token_visible (form.Text content) word rest token = subst (λ w. (begins is_white w ≡ false) × (begins is_allowed w ≡ true)) (sym token.0) (refl, refl)
token_visible (form.Mark mark) word rest token = subst (λ w. (begins is_white w ≡ false) × (begins is_allowed w ≡ true)) (sym token.0) (symbol_visible mark)

-- ---- from the front to the reading

-- the fault where no token begins
no_token : (place line b : ℕ) (rest : Text) → is_allowed b ≡ true → is_white b ≡ false → begins_comment (b ∷ rest) ≡ false → token_at (b ∷ rest) ≡ None
    → Reads place line (b ∷ rest) [] (ending.BadToken place)
no_token place line b rest allowed white comment missing =
    bad_token allowed white comment (λ word behind this same token. none-some (this, length word) (sym missing ∙ ap token_at same ∙ token_read this word behind token))

token_step : (place line b : ℕ) (rest : Text) (tokens : List Token) (end : Ending) → is_allowed b ≡ true → is_white b ≡ false → begins_comment (b ∷ rest) ≡ false
    → (found : Found) → token_at (b ∷ rest) ≡ found → Step (front_of found) place line (b ∷ rest) tokens end → Reads place line (b ∷ rest) tokens end
token_step place line b rest tokens end allowed white comment None is step =
    subst (λ (p : List Token × Ending). Reads place line (b ∷ rest) p.0 p.1) (λ i. (sym step.0 i, sym step.1 i)) (no_token place line b rest allowed white comment is)
token_step place line b rest tokens end allowed white comment (Some p) is step =
    let stands : TokenAtFront (b ∷ rest) p.0 p.1 = token_at_front (b ∷ rest) p.0 p.1 is in
    let len : length (take p.1 (b ∷ rest)) ≡ p.1 = length-take-le p.1 (b ∷ rest) stands.within in
    subst (λ ts. Reads place line (b ∷ rest) ts end) (sym step.1)
    (takes (take p.1 (b ∷ rest)) p.0 (sym (take-append-drop p.1 (b ∷ rest))) comment stands.token
    (subst (λ n. Reads (place + n) line (drop p.1 (b ∷ rest)) step.0 end) (sym len) step.2))

-- what begins a comment is two slashes
comment_begins : (b : ℕ) (rest : Text) → begins_comment (b ∷ rest) ≡ true → (b ≡ 47) × (rest ≡ 47 ∷ drop 1 rest)
comment_begins b [] is = absurd (false≢true (sym (both_false (b == 47)) ∙ is))
  where
    both_false : (x : Bool) → (x && false) ≡ false
    both_false true = refl
    both_false false = refl
comment_begins b (c ∷ rest) is =
    ((Decides-eqb b 47).0 (first_holds (b == 47) (c == 47) is), λ i. (Decides-eqb c 47).0 (second_holds (b == 47) (c == 47) is) i ∷ rest)

-- a comment is read as far as its line goes
comment_step : (place line b : ℕ) (rest : Text) (tokens : List Token) (end : Ending) → begins_comment (b ∷ rest) ≡ true
    → Reads (place + (2 + prefix_len is_of_line (drop 1 rest))) (line_after b line) (drop (2 + prefix_len is_of_line (drop 1 rest)) (b ∷ rest)) tokens end
    → Reads place line (b ∷ rest) tokens end
comment_step place line b rest tokens end is step =
    let first : b ≡ 47 = (comment_begins b rest is).0 in
    let second : rest ≡ 47 ∷ drop 1 rest = (comment_begins b rest is).1 in
    let count : ℕ = prefix_len is_of_line (drop 1 rest) in
    let run : IsRun is_of_line (drop 1 rest) (prefix_len is_of_line (drop 1 rest)) = run_found is_of_line (drop 1 rest) in
    let len : length (take (prefix_len is_of_line (drop 1 rest)) (drop 1 rest)) ≡ prefix_len is_of_line (drop 1 rest) = length-take-le (prefix_len is_of_line (drop 1 rest)) (drop 1 rest) run.within in
    let two : 2 + prefix_len is_of_line (drop 1 rest) ≡ suc (suc (prefix_len is_of_line (drop 1 rest))) = omega arith in
    let left : drop (2 + prefix_len is_of_line (drop 1 rest)) (b ∷ rest) ≡ drop (prefix_len is_of_line (drop 1 rest)) (drop 1 rest) =
    ap (λ n. drop n (b ∷ rest)) two ∙ ap (λ r. drop (suc (prefix_len is_of_line (drop 1 rest))) r) second in
    comments (take (prefix_len is_of_line (drop 1 rest)) (drop 1 rest))
    ((λ i. first i ∷ second i) ∙ ap (λ z. 47 ∷ 47 ∷ z) (sym (take-append-drop (prefix_len is_of_line (drop 1 rest)) (drop 1 rest))))
    run.passes run.stops
    (subst (λ n. Reads (place + (2 + n)) line (drop (prefix_len is_of_line (drop 1 rest)) (drop 1 rest)) tokens end) (sym len)
    (subst (λ z. Reads (place + (2 + prefix_len is_of_line (drop 1 rest))) line z tokens end) left
    (subst (λ l. Reads (place + (2 + prefix_len is_of_line (drop 1 rest))) l (drop (2 + prefix_len is_of_line (drop 1 rest)) (b ∷ rest)) tokens end) (ap (λ c. line_after c line) first) step)))

step_picked : (place line b : ℕ) (rest : Text) (tokens : List Token) (end : Ending) (white comment allowed : Bool)
    → is_white b ≡ white → begins_comment (b ∷ rest) ≡ comment → is_allowed b ≡ allowed
    → Step (cond white (front.Gap 1) (cond comment (front.Gap (2 + prefix_len is_of_line (drop 1 rest))) (cond allowed (front_of (token_at (b ∷ rest))) front.BadByte))) place line (b ∷ rest) tokens end
    → Reads place line (b ∷ rest) tokens end
step_picked place line b rest tokens end true comment allowed is_w is_c is_a step = passes is_w step
step_picked place line b rest tokens end false true allowed is_w is_c is_a step = comment_step place line b rest tokens end is_c step
step_picked place line b rest tokens end false false true is_w is_c is_a step = token_step place line b rest tokens end is_a is_w is_c (token_at (b ∷ rest)) refl step
step_picked place line b rest tokens end false false false is_w is_c is_a step =
    subst (λ (p : List Token × Ending). Reads place line (b ∷ rest) p.0 p.1) (λ i. (sym step.0 i, sym step.1 i)) (bad_byte is_a)

-- a text is read as its front and what is behind it are
pub step_reads : (place line : ℕ) (text : Text) (tokens : List Token) (end : Ending) → Step (front_at text) place line text tokens end → Reads place line text tokens end
step_reads place line [] tokens end step = subst (λ (p : List Token × Ending). Reads place line [] p.0 p.1) (λ i. (sym step.0 i, sym step.1 i)) ends
step_reads place line (b ∷ rest) tokens end step =
    step_picked place line b rest tokens end (is_white b) (begins_comment (b ∷ rest)) (is_allowed b) refl refl refl step

-- ---- from the reading to the front

front_white : (b : ℕ) (rest : Text) → is_white b ≡ true → front_at (b ∷ rest) ≡ front.Gap 1
front_white b rest white = rw white refl

front_comment : (comment rest : Text) → list_all is_of_line comment ≡ true → begins is_of_line rest ≡ false → front_at (47 ∷ 47 ∷ comment ++ rest) ≡ front.Gap (2 + length comment)
front_comment comment rest goes stops = ap (λ n. front.Gap (2 + n)) (run_is is_of_line comment rest goes stops)

front_token : (text : Text) (form : Form) (count : ℕ) → begins is_white text ≡ false → begins_comment text ≡ false → begins is_allowed text ≡ true → token_at text ≡ Some (form, count)
    → front_at text ≡ front.Token form count
front_token [] form count white comment allowed found = absurd (false≢true allowed)
front_token (b ∷ rest) form count white comment allowed found = rw (allowed, white, comment) (ap front_of found)

front_bad_byte : (b : ℕ) (rest : Text) → is_allowed b ≡ false → front_at (b ∷ rest) ≡ front.BadByte
front_bad_byte b rest refused = rw (refused, no_white (is_white b) (is_printable b) refused, no_comment b rest (b == 47) refl refused) refl
  where
    no_white : (x y : Bool) → (x || y) ≡ false → x ≡ false
    no_white true y e = e
    no_white false y e = refl

    no_comment : (b : ℕ) (rest : Text) (test : Bool) → (b == 47) ≡ test → is_allowed b ≡ false → begins_comment (b ∷ rest) ≡ false
    no_comment b rest true is refused = absurd (false≢true (sym refused ∙ ap is_allowed ((Decides-eqb b 47).0 is)))
    no_comment b rest false is refused = rw is refl

no_token_found : (b : ℕ) (rest : Text) (found : Found) → token_at (b ∷ rest) ≡ found → ((word behind : Text) (form : Form) → b ∷ rest ≡ word ++ behind → IsToken form word behind → ⊥) → found ≡ None
no_token_found b rest None is none = refl
no_token_found b rest (Some p) is none =
    absurd (none (take p.1 (b ∷ rest)) (drop p.1 (b ∷ rest)) p.0 (sym (take-append-drop p.1 (b ∷ rest))) (token_at_front (b ∷ rest) p.0 p.1 is).token)

front_bad_token : (b : ℕ) (rest : Text) → is_allowed b ≡ true → is_white b ≡ false → begins_comment (b ∷ rest) ≡ false
    → ((word behind : Text) (form : Form) → b ∷ rest ≡ word ++ behind → IsToken form word behind → ⊥) → front_at (b ∷ rest) ≡ front.BadToken
front_bad_token b rest allowed white comment none = rw (allowed, white, comment) (ap front_of (no_token_found b rest (token_at (b ∷ rest)) refl none))

-- a word that begins with an allowed byte begins its text
visible_first : (word rest : Text) → (begins is_white word ≡ false) × (begins is_allowed word ≡ true) → (begins is_white (word ++ rest) ≡ false) × (begins is_allowed (word ++ rest) ≡ true)
visible_first [] rest visible = absurd (false≢true visible.1)
visible_first (b ∷ word) rest visible = visible

-- what is behind a comment
behind_comment : (comment rest : Text) → drop (2 + length comment) (47 ∷ 47 ∷ comment ++ rest) ≡ rest
behind_comment comment rest =
    let two : 2 + length comment ≡ suc (suc (length comment)) = omega arith in
    ap (λ n. drop n (47 ∷ 47 ∷ comment ++ rest)) two ∙ drop-append_seam comment rest

-- a reading goes as the front of its text says
pub reads_step : (place line : ℕ) (text : Text) (tokens : List Token) (end : Ending) → Reads place line text tokens end → Step (front_at text) place line text tokens end
reads_step place line [] tokens end ends = (refl, refl)
reads_step place line (b ∷ rest) tokens end (passes white more) = subst (λ f. Step f place line (b ∷ rest) tokens end) (sym (front_white b rest white)) more
reads_step place line text tokens end (comments {rest = rest} comment same goes stops more) = subst (λ z. Step (front_at z) place line z tokens end) (sym same)
    (subst (λ f. Step f place line (47 ∷ 47 ∷ comment ++ rest) tokens end) (sym (front_comment comment rest goes stops))
    (subst (λ z. Reads (place + (2 + length comment)) line z tokens end) (sym (behind_comment comment rest)) more))
reads_step place line text tokens end (takes {rest = rest} {tokens = later} word this same comment token more) =
    let visible : (begins is_white (word ++ rest) ≡ false) × (begins is_allowed (word ++ rest) ≡ true) = visible_first word rest (token_visible this word rest token) in
    let found : front_at text ≡ front.Token this (length word) =
    ap front_at same
    ∙ front_token (word ++ rest) this (length word) visible.0 (ap begins_comment (sym same) ∙ comment) visible.1 (token_read this word rest token) in
    subst (λ f. Step f place line text (record { place = place; line = line; form = this } ∷ later) end) (sym found)
    (later, refl, subst (λ z. Reads (place + length word) line z later end) (sym (ap (drop (length word)) same ∙ drop-append_seam word rest)) more)
reads_step place line (b ∷ rest) tokens end (bad_byte refused) = subst (λ f. Step f place line (b ∷ rest) tokens end) (sym (front_bad_byte b rest refused)) (refl, refl)
reads_step place line (b ∷ rest) tokens end (bad_token allowed white comment none) =
    subst (λ f. Step f place line (b ∷ rest) tokens end) (sym (front_bad_token b rest allowed white comment none)) (refl, refl)

-- ---- one reading

-- a front that goes on takes some bytes of the text
abbrev pub Goes : Front → ℕ → Type 0
Goes (front.Gap count) len = (1 ≤ count) × (count ≤ len)
Goes (front.Token form count) len = (1 ≤ count) × (count ≤ len)
Goes other len = Unit {0}

token_goes : (text : Text) (found : Found) → token_at text ≡ found → Goes (front_of found) (length text)
token_goes text None is = tt
token_goes text (Some p) is = let stands : TokenAtFront text p.0 p.1 = token_at_front text p.0 p.1 is in (stands.some, stands.within)

comment_goes : (b : ℕ) (rest : Text) → begins_comment (b ∷ rest) ≡ true → Goes (front.Gap (2 + prefix_len is_of_line (drop 1 rest))) (length (b ∷ rest))
comment_goes b rest is =
    let run : IsRun is_of_line (drop 1 rest) (prefix_len is_of_line (drop 1 rest)) = run_found is_of_line (drop 1 rest) in
    let len : length rest ≡ suc (length (drop 1 rest)) = ap length (comment_begins b rest is).1 in
    let within : prefix_len is_of_line (drop 1 rest) ≤ length (drop 1 rest) = run.within in
    (omega arith, omega arith)

goes_picked : (b : ℕ) (rest : Text) (white comment allowed : Bool) → begins_comment (b ∷ rest) ≡ comment
    → Goes (cond white (front.Gap 1) (cond comment (front.Gap (2 + prefix_len is_of_line (drop 1 rest))) (cond allowed (front_of (token_at (b ∷ rest))) front.BadByte))) (length (b ∷ rest))
goes_picked b rest true comment allowed is_c = (omega arith, omega arith)
goes_picked b rest false true allowed is_c = comment_goes b rest is_c
goes_picked b rest false false true is_c = token_goes (b ∷ rest) (token_at (b ∷ rest)) refl
goes_picked b rest false false false is_c = tt

pub front_goes : (text : Text) → Goes (front_at text) (length text)
front_goes [] = tt
front_goes (b ∷ rest) = goes_picked b rest (is_white b) (begins_comment (b ∷ rest)) (is_allowed b) refl

-- two readings of one text are one
abbrev pub SameReading : List Token → Ending → List Token → Ending → Type 0
SameReading tokens end others other = (tokens ≡ others) × (end ≡ other)

abbrev Agree : ℕ → Type 0
Agree n = (place line : ℕ) (text : Text) (tokens others : List Token) (end other : Ending) → length text ≤ n
    → Reads place line text tokens end → Reads place line text others other → SameReading tokens end others other

-- what is left behind some bytes is shorter
shorter : (text : Text) (count n : ℕ) → length text ≤ suc n → (1 ≤ count) × (count ≤ length text) → length (drop count text) ≤ n
shorter text count n most goes = let len : length (drop count text) ≡ length text - count = length-drop count text in omega (arith, goes.0, goes.1)

steps_agree : (n : ℕ) → Agree n → (place line : ℕ) (text : Text) (tokens others : List Token) (end other : Ending) → length text ≤ suc n → (f : Front) → Goes f (length text)
    → Step f place line text tokens end → Step f place line text others other → SameReading tokens end others other
steps_agree n agree place line text tokens others end other most front.End goes one two = (one.0 ∙ sym two.0, one.1 ∙ sym two.1)
steps_agree n agree place line text tokens others end other most (front.Gap count) goes one two =
    agree (place + count) (line_behind text line) (drop count text) tokens others end other (shorter text count n most goes) one two
steps_agree n agree place line text tokens others end other most (front.Token this count) goes one two =
    let more : SameReading one.0 end two.0 other = agree (place + count) line (drop count text) one.0 two.0 end other (shorter text count n most goes) one.2 two.2 in
    (one.1 ∙ ap (λ ts. record { place = place; line = line; form = this } ∷ ts) more.0 ∙ sym two.1, more.1)
steps_agree n agree place line text tokens others end other most front.BadByte goes one two = (one.0 ∙ sym two.0, one.1 ∙ sym two.1)
steps_agree n agree place line text tokens others end other most front.BadToken goes one two = (one.0 ∙ sym two.0, one.1 ∙ sym two.1)

agree : (n : ℕ) → Agree n
agree zero place line [] tokens others end other most one two =
    let first : Step front.End place line [] tokens end = reads_step place line [] tokens end one in
    let second : Step front.End place line [] others other = reads_step place line [] others other two in (first.0 ∙ sym second.0, first.1 ∙ sym second.1)
agree zero place line (b ∷ rest) tokens others end other most one two = absurd (omega arith)
agree (suc n) place line text tokens others end other most one two =
    steps_agree n (agree n) place line text tokens others end other most (front_at text) (front_goes text)
    (reads_step place line text tokens end one) (reads_step place line text others other two)

-- a text is read in one way
pub one_reading : (place line : ℕ) (text : Text) (tokens others : List Token) (end other : Ending) → Reads place line text tokens end → Reads place line text others other
    → SameReading tokens end others other
one_reading place line text tokens others end other one two = agree (length text) place line text tokens others end other (omega arith) one two
