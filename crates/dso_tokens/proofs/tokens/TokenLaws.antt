-- The token that is found at the front of a text is the token that stands there, and the other way round.
use Rattle.std.proofs.Common.{◌≡◌, ℕ, suc, zero, ◌+◌, ◌≤◌, Bool, true, false, cond, ◌||◌, ◌==◌, nat_le, [], ◌∷◌, ◌++◌, length, take, drop, Option, Some, None, refl, sym, subst, ap, ◌∙◌, arith, length-take-le, length-append}
use Rattle.std.proofs.lemmas.List.{take-append-drop}
use Rattle.std.proofs.lemmas.Bool.Decides.{Decides-eqb}
use Rattle.std.specs.List.{list_all, prefix_len}
use Rattle.std.proofs.Math.Seq.{take-append_seam, drop-append_seam}
use Rattle.std.proofs.lemmas.Option.{none-some, same_Some}
use Rattle.std.proofs.lemmas.Bool.{false≢true}
use Rattle.dso_tokens.specs.declared.token.Keyword.{Keyword}
use Rattle.dso_tokens.specs.declared.token.Mark.{Mark}
use Rattle.dso_tokens.specs.declared.token.Form.{Form}
use Rattle.dso_tokens.specs.declared.token.Form.TheVariants as form
use Rattle.dso_tokens.specs.Bytes.{Text, begins, is_letter, is_digit, is_word}
use Rattle.dso_tokens.specs.Spelling.{symbol_of, double_marks, single_marks}
use Rattle.dso_tokens.specs.TokenLimits.{longest_name, longest_content}
use Rattle.dso_tokens.specs.Token.{IsToken, number_of}
use Rattle.dso_tokens.specs.Scan.{Found, keyword_of, name_of, word_at, number_at, content_at, literal_of, mark_among, mark_at, mark_or, token_at}
use Rattle.dso_tokens.proofs.tokens.ByteRuns.{IsRun, run_found, run_is}
use Rattle.dso_tokens.proofs.tokens.Words.{keyword_written, none_written, not_found, reserved_is}
use Rattle.dso_tokens.proofs.tokens.Literals.{IsLiteral, literal_found, literal_read, written}
use Rattle.dso_tokens.proofs.tokens.Symbols.{IsLongest, double_found, single_found, double_len, single_len, symbol_read, symbol_found, symbol_is, is_other, is_double}

-- the token stands at the front of the text, and takes so many bytes
pub record TokenAtFront (text : Text) (this : Form) (count : ℕ) : Type 0 where
  pub token : IsToken this (take count text) (drop count text)
  pub some : 1 ≤ count
  pub within : count ≤ length text

-- what is found stands there
abbrev pub FoundAtFront : Text → Found → Type 0
FoundAtFront text found = (this : Form) (count : ℕ) → found ≡ Some (this, count) → TokenAtFront text this count

nothing : (text : Text) → FoundAtFront text None
nothing text this count found = absurd (none-some (this, count) found)

something : (text : Text) (this : Form) (count : ℕ) → TokenAtFront text this count → FoundAtFront text (Some (this, count))
something text this count stands other more found = subst (λ p. TokenAtFront text p.0 p.1) (same_Some (this, count) (other, more) found) stands

-- the first byte of a run
pub run_starts : (p : ℕ → Bool) (b : ℕ) (rest : Text) → p b ≡ true → 1 ≤ prefix_len p (b ∷ rest)
run_starts p b rest is = rw is (omega arith)

starts_word : (p : ℕ → Bool) (b : ℕ) (rest : Text) (count : ℕ) → p b ≡ true → 1 ≤ count → begins p (take count (b ∷ rest)) ≡ true
starts_word p b rest zero is some = absurd (omega arith)
starts_word p b rest (suc count) is some = is

-- a letter goes on a word, and is no digit; so does a digit
letter_is_word : (b : ℕ) → is_letter b ≡ true → is_word b ≡ true
letter_is_word b is = rw is refl

digit_is_no_letter : (b : ℕ) → is_digit b ≡ true → is_letter b ≡ false
digit_is_no_letter b is = grind arith

-- what the test of a bound says
at_most : (a b : ℕ) → nat_le a b ≡ true → a ≤ b
at_most a b is = grind arith

is_at_most : (a b : ℕ) → a ≤ b → nat_le a b ≡ true
is_at_most a b is = grind arith

name_at_front : (text : Text) (count : ℕ) → IsRun is_word text count → begins is_letter (take count text) ≡ true → 1 ≤ count
    → keyword_of (take count text) ≡ None → (test : Bool) → nat_le count longest_name ≡ test
    → FoundAtFront text (cond test (Some (form.Name (take count text), count)) None)
name_at_front text count run starts some missing true is =
    let len : length (take count text) ≡ count = length-take-le count text run.within in
    let least : count ≤ 64 = at_most count 64 is in
    something text (form.Name (take count text)) count (record {
      token = (refl, starts, run.passes, run.stops, omega arith, none_written (take count text) missing);
      some = some;
      within = run.within;
    })
name_at_front text count run starts some missing false is = nothing text

keyword_at_front : (text : Text) (count : ℕ) → IsRun is_word text count → begins is_letter (take count text) ≡ true → 1 ≤ count
    → (found : Option Keyword) → keyword_of (take count text) ≡ found → FoundAtFront text (name_of count (take count text) found)
keyword_at_front text count run starts some (Some reserved) is =
    something text (form.Keyword reserved) count (record { token = (keyword_written (take count text) reserved is, run.stops); some = some; within = run.within })
keyword_at_front text count run starts some None is = name_at_front text count run starts some is (nat_le count longest_name) refl

-- a word that is found
word_at_front : (b : ℕ) (rest : Text) → is_letter b ≡ true → FoundAtFront (b ∷ rest) (word_at (b ∷ rest))
word_at_front b rest is =
    let count : ℕ = prefix_len is_word (b ∷ rest) in
    let some : 1 ≤ prefix_len is_word (b ∷ rest) = run_starts is_word b rest (letter_is_word b is) in
    keyword_at_front (b ∷ rest) (prefix_len is_word (b ∷ rest)) (run_found is_word (b ∷ rest)) (starts_word is_letter b rest (prefix_len is_word (b ∷ rest)) is some) some
    (keyword_of (take (prefix_len is_word (b ∷ rest)) (b ∷ rest))) refl

digits_stand : (text : Text) (count : ℕ) → IsRun is_digit text count → begins is_digit (take count text) ≡ true → 1 ≤ count
    → (test : Bool) → begins is_word (drop count text) ≡ test → FoundAtFront text (cond test None (Some (form.Number (number_of (take count text)), count)))
digits_stand text count run starts some true is = nothing text
digits_stand text count run starts some false is =
    something text (form.Number (number_of (take count text))) count (record { token = (refl, starts, run.passes, is); some = some; within = run.within })

-- a number that is found
number_at_front : (b : ℕ) (rest : Text) → is_digit b ≡ true → FoundAtFront (b ∷ rest) (number_at (b ∷ rest))
number_at_front b rest is =
    let some : 1 ≤ prefix_len is_digit (b ∷ rest) = run_starts is_digit b rest is in
    digits_stand (b ∷ rest) (prefix_len is_digit (b ∷ rest)) (run_found is_digit (b ∷ rest)) (starts_word is_digit b rest (prefix_len is_digit (b ∷ rest)) is some) some
    (begins is_word (drop (prefix_len is_digit (b ∷ rest)) (b ∷ rest))) refl

content_at_front : (b : ℕ) (rest content : Text) (count : ℕ) → b ≡ 34 → IsLiteral rest content count → (test : Bool) → nat_le (length content) longest_content ≡ test
    → FoundAtFront (b ∷ rest) (cond test (Some (form.Text content, count + 1)) None)
content_at_front b rest content count quote literal true is =
    let next : count + 1 ≡ suc count = omega arith in
    let least : length content ≤ 255 = at_most (length content) 255 is in
    let within : count ≤ length rest = literal.within in
    something (b ∷ rest) (form.Text content) (count + 1) (subst (TokenAtFront (b ∷ rest) (form.Text content)) (sym next) (record {
      token = ((λ i. quote i ∷ literal.spelled i), literal.printable, least);
      some = omega arith;
      within = omega arith;
    }))
content_at_front b rest content count quote literal false is = nothing (b ∷ rest)

-- a literal that is found
literal_at_front : (b : ℕ) (rest : Text) → b ≡ 34 → (found : Option (Text × ℕ)) → content_at false rest ≡ found → FoundAtFront (b ∷ rest) (literal_of found)
literal_at_front b rest quote None is = nothing (b ∷ rest)
literal_at_front b rest quote (Some p) is =
    content_at_front b rest p.0 p.1 quote (literal_found rest p.0 p.1 is) (nat_le (length p.0) longest_content) refl

symbol_at_front : (text : Text) (mark : Mark) (count : ℕ) → IsLongest text mark → length (symbol_of mark) ≡ count → 1 ≤ count → TokenAtFront text (form.Mark mark) count
symbol_at_front text mark count longest len some =
    let within : length text ≡ length (symbol_of mark) + length (drop (length (symbol_of mark)) text) = ap length longest.spelled ∙ length-append (symbol_of mark) _ in
    let word : take count text ≡ symbol_of mark = ap (take count) longest.spelled ∙ ap (λ n. take n (symbol_of mark ++ drop (length (symbol_of mark)) text)) (sym len) ∙ take-append_seam (symbol_of mark) _ in
    record {
      token = (word, λ other behind same. subst (λ n. length (symbol_of other) ≤ n) (ap length (sym word)) (longest.longest other behind (sym (take-append-drop count text) ∙ same)));
      some = some;
      within = omega arith;
    }

-- a symbol that is found
mark_at_front : (text : Text) (double single : Option Mark) → mark_among double_marks text ≡ double → mark_among single_marks text ≡ single → FoundAtFront text (mark_or double single)
mark_at_front text (Some mark) single two one =
    let this : IsLongest text mark × _ = double_found text mark two in
    something text (form.Mark mark) 2 (symbol_at_front text mark 2 this.0 (double_len mark this.1) (omega arith))
mark_at_front text None (Some mark) two one =
    let this : IsLongest text mark × _ = single_found text mark two one in
    something text (form.Mark mark) 1 (symbol_at_front text mark 1 this.0 (single_len mark this.1) (omega arith))
mark_at_front text None None two one = nothing text

token_picked : (b : ℕ) (rest : Text) (letter digit quote : Bool) → is_letter b ≡ letter → is_digit b ≡ digit → (b == 34) ≡ quote
    → FoundAtFront (b ∷ rest) (cond letter (word_at (b ∷ rest)) (cond digit (number_at (b ∷ rest)) (cond quote (literal_of (content_at false rest)) (mark_at (b ∷ rest)))))
token_picked b rest true digit quote is is_d is_q = word_at_front b rest is
token_picked b rest false true quote is is_d is_q = number_at_front b rest is_d
token_picked b rest false false true is is_d is_q = literal_at_front b rest ((Decides-eqb b 34).0 is_q) (content_at false rest) refl
token_picked b rest false false false is is_d is_q =
    mark_at_front (b ∷ rest) (mark_among double_marks (b ∷ rest)) (mark_among single_marks (b ∷ rest)) refl refl

-- what is found at the front of a text stands there
pub token_at_front : (text : Text) → FoundAtFront text (token_at text)
token_at_front [] = nothing []
token_at_front (b ∷ rest) = token_picked b rest (is_letter b) (is_digit b) (b == 34) refl refl refl

-- a text that begins with a letter begins with a word
letter_first : (word rest : Text) → begins is_letter word ≡ true → token_at (word ++ rest) ≡ word_at (word ++ rest)
letter_first [] rest starts = absurd (false≢true starts)
letter_first (b ∷ word) rest starts = rw starts refl

-- a text that begins with a digit begins with a number
digit_first : (word rest : Text) → begins is_digit word ≡ true → token_at (word ++ rest) ≡ number_at (word ++ rest)
digit_first [] rest starts = absurd (false≢true starts)
digit_first (b ∷ word) rest starts = rw (digit_is_no_letter b starts, starts) refl

-- a byte that begins no other token
no_other : (b : ℕ) → is_other b ≡ false → (is_letter b ≡ false) × (is_digit b ≡ false) × ((b == 34) ≡ false)
no_other b is = none (is_letter b) (is_digit b) (b == 34) is
  where
    none : (x y z : Bool) → (x || (y || z)) ≡ false → (x ≡ false) × (y ≡ false) × (z ≡ false)
    none true y z is = absurd (false≢true (sym is))
    none false true z is = absurd (false≢true (sym is))
    none false false z is = (refl, refl, is)

-- no symbol is empty
no_length : (test : Bool) → ◌≡◌ {A = ℕ} 0 (cond test 2 1) → ⊥
no_length true e = omega (arith, e)
no_length false e = omega (arith, e)

-- a text that begins with another byte begins with a symbol or nothing
other_first : (word rest : Text) (mark : Mark) → word ≡ symbol_of mark → begins is_other word ≡ false → token_at (word ++ rest) ≡ mark_at (word ++ rest)
other_first [] rest mark spelled starts = absurd (no_length (is_double mark) (ap length spelled ∙ (symbol_is mark).len))
other_first (b ∷ word) rest mark spelled starts =
    let none : (is_letter b ≡ false) × (is_digit b ≡ false) × ((b == 34) ≡ false) = no_other b starts in rw (none.0, none.1, none.2) refl

-- a whole word is read
word_read : (word rest : Text) → list_all is_word word ≡ true → begins is_word rest ≡ false → word_at (word ++ rest) ≡ name_of (length word) word (keyword_of word)
word_read word rest goes stops =
    ap (λ n. name_of n (take n (word ++ rest)) (keyword_of (take n (word ++ rest)))) (run_is is_word word rest goes stops)
    ∙ ap (λ w. name_of (length word) w (keyword_of w)) (take-append_seam word rest)

-- no digit follows where nothing of a word does
no_digit : (rest : Text) → begins is_word rest ≡ false → begins is_digit rest ≡ false
no_digit [] stops = refl
no_digit (b ∷ rest) stops = grind arith

-- a whole number is read
number_read : (word rest : Text) → list_all is_digit word ≡ true → begins is_word rest ≡ false → number_at (word ++ rest) ≡ Some (form.Number (number_of word), length word)
number_read word rest goes stops =
    ap (λ n. cond (begins is_word (drop n (word ++ rest))) None (Some (form.Number (number_of (take n (word ++ rest))), n))) (run_is is_digit word rest goes (no_digit rest stops))
    ∙ ap (λ r. cond (begins is_word r) None (Some (form.Number (number_of (take (length word) (word ++ rest))), length word))) (drop-append_seam word rest)
    ∙ ap (λ test. cond test None (Some (form.Number (number_of (take (length word) (word ++ rest))), length word))) stops
    ∙ ap (λ w. Some (form.Number (number_of w), length word)) (take-append_seam word rest)

-- a symbol with its length as a token
abbrev as_mark : Option (Mark × ℕ) → Found
as_mark None = None
as_mark (Some p) = Some (form.Mark p.0, p.1)

as_mark_is : (text : Text) (double single : Option Mark) → mark_or double single ≡ as_mark (symbol_found text double single)
as_mark_is text (Some mark) single = refl
as_mark_is text None (Some mark) = refl
as_mark_is text None None = refl

-- the token that stands at the front of a text is what is found
pub token_read : (this : Form) (word rest : Text) → IsToken this word rest → token_at (word ++ rest) ≡ Some (this, length word)
token_read (form.Name name) word rest token =
    letter_first word rest token.1 ∙ word_read word rest token.2 token.3
    ∙ ap (name_of (length word) word) (not_found word (keyword_of word) refl token.5)
    ∙ ap (λ test. cond test (Some (form.Name word, length word)) None) (is_at_most (length word) 64 token.4)
    ∙ ap (λ w. Some (form.Name w, length word)) token.0
token_read (form.Keyword reserved) word rest token =
    letter_first word rest (subst (λ w. begins is_letter w ≡ true) (sym token.0) (reserved_is reserved).starts)
    ∙ word_read word rest (subst (λ w. list_all is_word w ≡ true) (sym token.0) (reserved_is reserved).goes) token.1
    ∙ ap (name_of (length word) word) (ap keyword_of token.0 ∙ (reserved_is reserved).known)
token_read (form.Number value) word rest token =
    digit_first word rest token.1 ∙ number_read word rest token.2 token.3 ∙ ap (λ v. Some (form.Number v, length word)) (sym token.0)
token_read (form.Text content) word rest token =
    let one : length (written content) + 1 ≡ suc (length (written content)) = omega arith in
    let count : length (written content) + 1 ≡ length word = one ∙ ap length (sym token.0) in
    ap (λ w. token_at (w ++ rest)) token.0
    ∙ ap literal_of (literal_read content rest token.1)
    ∙ ap (λ test. cond test (Some (form.Text content, length (written content) + 1)) None) (is_at_most (length content) 255 token.2)
    ∙ (λ i. Some (form.Text content, count i))
token_read (form.Mark mark) word rest token =
    other_first word rest mark token.0 (subst (λ w. begins is_other w ≡ false) (sym token.0) (symbol_is mark).starts)
    ∙ as_mark_is (word ++ rest) (mark_among double_marks (word ++ rest)) (mark_among single_marks (word ++ rest))
    ∙ ap as_mark (symbol_read (word ++ rest) rest mark (mark_among double_marks (word ++ rest)) refl (ap (λ w. w ++ rest) token.0)
    (λ other behind same. subst (λ n. length (symbol_of other) ≤ n) (ap length token.0) (token.1 other behind same)))
    ∙ ap (λ n. Some (form.Mark mark, n)) (ap length (sym token.0))
