-- Symbols: the longest that stands at the front.
use Rattle.std.proofs.Common.{◌≡◌, ℕ, suc, ◌≤◌, Bool, true, false, cond, List, [], ◌∷◌, ◌++◌, length, take, drop, find, nat_eq, slice_get, not, ◌||◌, ◌==◌, zero, Option, Some, None, refl, sym, subst, ap, ◌∙◌, arith}
use Rattle.std.specs.List.{starts_with, list_all}
use Rattle.std.proofs.lemmas.Option.{none-some, same_Some}
use Rattle.std.proofs.Math.Seq.{take-append_seam}
use Rattle.std.proofs.lemmas.Slice.Eq.{starts_is}
use Rattle.std.proofs.lemmas.Bool.Decides.{Decides-eqb}
use Rattle.std.proofs.lemmas.Bool.{false≢true}
use Rattle.dso_tokens.specs.declared.token.Mark.{Mark}
use Rattle.dso_tokens.specs.declared.token.Mark.TheVariants as m
use Rattle.dso_tokens.specs.Bytes.{Text, begins, is_letter, is_digit}
use Rattle.dso_tokens.specs.Spelling.{symbol_of, double_marks, single_marks}
use Rattle.dso_tokens.specs.Scan.{mark_among}
use Rattle.dso_tokens.proofs.tokens.Words.{find_passes}
use Rattle.dso_tokens.proofs.tokens.ByteRuns.{first_holds, second_holds}

-- a symbol has two bytes and is among those of two, or one and is among those of one
abbrev pub is_double : Mark → Bool
is_double m.EqualTo = true
is_double m.NotEqual = true
is_double m.LessEqual = true
is_double m.GreaterEqual = true
is_double m.AndAnd = true
is_double m.OrOr = true
is_double other = false

-- the symbol that is written so
abbrev pub mark_written : Text → Option Mark
mark_written word = find (λ mark. Rattle.std.specs.Str.bytes_eq (symbol_of mark) word) (double_marks ++ single_marks)

-- what no token but a symbol begins with
abbrev pub is_other : ℕ → Bool
is_other b = is_letter b || (is_digit b || b == 34)

-- what each symbol is: its length, its place among the symbols of that length, that its writing is its own, and how it begins
pub record IsSymbol (mark : Mark) : Type 0 where
  pub len : length (symbol_of mark) ≡ cond (is_double mark) 2 1
  pub place : ℕ
  pub listed : slice_get (cond (is_double mark) double_marks single_marks) place ≡ Some mark
  pub known : mark_written (symbol_of mark) ≡ Some mark
  pub starts : begins is_other (symbol_of mark) ≡ false

pub symbol_is : (mark : Mark) → IsSymbol mark
symbol_is m.EqualTo = record { len = refl; place = 0; listed = refl; known = refl; starts = refl }
symbol_is m.NotEqual = record { len = refl; place = 1; listed = refl; known = refl; starts = refl }
symbol_is m.LessEqual = record { len = refl; place = 2; listed = refl; known = refl; starts = refl }
symbol_is m.GreaterEqual = record { len = refl; place = 3; listed = refl; known = refl; starts = refl }
symbol_is m.AndAnd = record { len = refl; place = 4; listed = refl; known = refl; starts = refl }
symbol_is m.OrOr = record { len = refl; place = 5; listed = refl; known = refl; starts = refl }
symbol_is m.OpenBrace = record { len = refl; place = 0; listed = refl; known = refl; starts = refl }
symbol_is m.CloseBrace = record { len = refl; place = 1; listed = refl; known = refl; starts = refl }
symbol_is m.OpenParen = record { len = refl; place = 2; listed = refl; known = refl; starts = refl }
symbol_is m.CloseParen = record { len = refl; place = 3; listed = refl; known = refl; starts = refl }
symbol_is m.OpenBracket = record { len = refl; place = 4; listed = refl; known = refl; starts = refl }
symbol_is m.CloseBracket = record { len = refl; place = 5; listed = refl; known = refl; starts = refl }
symbol_is m.Semicolon = record { len = refl; place = 6; listed = refl; known = refl; starts = refl }
symbol_is m.Comma = record { len = refl; place = 7; listed = refl; known = refl; starts = refl }
symbol_is m.Dot = record { len = refl; place = 8; listed = refl; known = refl; starts = refl }
symbol_is m.Assign = record { len = refl; place = 9; listed = refl; known = refl; starts = refl }
symbol_is m.Less = record { len = refl; place = 10; listed = refl; known = refl; starts = refl }
symbol_is m.Greater = record { len = refl; place = 11; listed = refl; known = refl; starts = refl }
symbol_is m.Plus = record { len = refl; place = 12; listed = refl; known = refl; starts = refl }
symbol_is m.Minus = record { len = refl; place = 13; listed = refl; known = refl; starts = refl }
symbol_is m.Star = record { len = refl; place = 14; listed = refl; known = refl; starts = refl }
symbol_is m.Slash = record { len = refl; place = 15; listed = refl; known = refl; starts = refl }
symbol_is m.Percent = record { len = refl; place = 16; listed = refl; known = refl; starts = refl }
symbol_is m.Bang = record { len = refl; place = 17; listed = refl; known = refl; starts = refl }

-- the symbol stands at the front of the text
abbrev pub stands : Text → Mark → Bool
stands text mark = starts_with nat_eq text (symbol_of mark)

-- then the text is its writing and more
pub stands_written : (text : Text) (mark : Mark) → stands text mark ≡ true → text ≡ symbol_of mark ++ drop (length (symbol_of mark)) text
stands_written text mark = (starts_is {E = nat_eq} Decides-eqb text (symbol_of mark) (stands text mark) refl).0

-- and so is what is its writing and more
pub written_stands : (text rest : Text) (mark : Mark) → text ≡ symbol_of mark ++ rest → stands text mark ≡ true
written_stands text rest mark = (starts_is {E = nat_eq} Decides-eqb text (symbol_of mark) (stands text mark) refl).1 rest

none_at : {X : Type 0} (p : X → Bool) (y : X) (xs : List X) (test : Bool) → p y ≡ test → cond test (Some y) (find p xs) ≡ None → (p y ≡ false) × (find p xs ≡ None)
none_at p y xs true is missing = absurd (none-some y (sym missing))
none_at p y xs false is missing = (is, missing)

-- where nothing is found, no item of the list passes
pub none_passes : {X : Type 0} (p : X → Bool) (xs : List X) (x : X) (place : ℕ) → find p xs ≡ None → slice_get xs place ≡ Some x → p x ≡ false
none_passes p [] x place missing there = absurd (none-some x there)
none_passes p (y ∷ xs) x zero missing there = subst (λ z. p z ≡ false) (same_Some y x there) (none_at p y xs (p y) refl missing).0
none_passes p (y ∷ xs) x (suc place) missing there = none_passes p xs x place (none_at p y xs (p y) refl missing).1 there

kept_at : {X : Type 0} (p q : X → Bool) (y : X) (xs : List X) (x : X) (test : Bool) → q y ≡ true → (find p xs ≡ Some x → q x ≡ true) → cond test (Some y) (find p xs) ≡ Some x → q x ≡ true
kept_at p q y xs x true this behind found = subst (λ z. q z ≡ true) (same_Some y x found) this
kept_at p q y xs x false this behind found = behind found

-- what is found is of the list
pub found_of : {X : Type 0} (p q : X → Bool) (xs : List X) (x : X) → list_all q xs ≡ true → find p xs ≡ Some x → q x ≡ true
found_of p q [] x all found = absurd (none-some x found)
found_of p q (y ∷ xs) x all found =
    kept_at p q y xs x (p y) (first_holds (q y) (list_all q xs) all) (λ later. found_of p q xs x (second_holds (q y) (list_all q xs) all) later) found

-- no symbol has more than two bytes
short : (test : Bool) → cond test 2 1 ≤ 2
short true = omega arith
short false = omega arith

-- The symbol stands there, and no longer one does.
pub record IsLongest (text : Text) (mark : Mark) : Type 0 where
  pub spelled : text ≡ symbol_of mark ++ drop (length (symbol_of mark)) text
  pub longest : (other : Mark) (behind : Text) → text ≡ symbol_of other ++ behind → length (symbol_of other) ≤ length (symbol_of mark)

pub double_len : (mark : Mark) → is_double mark ≡ true → length (symbol_of mark) ≡ 2
double_len mark is = (symbol_is mark).len ∙ ap (λ test. cond test 2 1) is

pub single_len : (mark : Mark) → is_double mark ≡ false → length (symbol_of mark) ≡ 1
single_len mark is = (symbol_is mark).len ∙ ap (λ test. cond test 2 1) is

-- a symbol of two bytes that is found among those
pub double_found : (text : Text) (mark : Mark) → mark_among double_marks text ≡ Some mark → IsLongest text mark × (is_double mark ≡ true)
double_found text mark found =
    let is : is_double mark ≡ true = found_of (stands text) is_double double_marks mark refl found in (
      record {
        spelled = stands_written text mark (find_passes (stands text) double_marks mark found);
        longest = λ other behind same. let two : length (symbol_of mark) ≡ 2 = double_len mark is in let most : length (symbol_of other) ≤ 2 = subst (λ n. n ≤ 2) (sym (symbol_is other).len) (short (is_double other)) in omega arith;
      },
      is,
    )

-- where no symbol of two bytes is found, none stands there
no_double : (text : Text) (other : Mark) (test : Bool) → is_double other ≡ test → mark_among double_marks text ≡ None → stands text other ≡ true → is_double other ≡ false
no_double text other false is missing there = is
no_double text other true is missing there =
    absurd (false≢true (sym (none_passes (stands text) double_marks other (symbol_is other).place missing (subst (λ test. slice_get (cond test double_marks single_marks) (symbol_is other).place ≡ Some other) is (symbol_is other).listed)) ∙ there))

not_double : (test : Bool) → not test ≡ true → test ≡ false
not_double true is = absurd (false≢true is)
not_double false is = refl

-- a symbol of one byte that is found, where none of two is
pub single_found : (text : Text) (mark : Mark) → mark_among double_marks text ≡ None → mark_among single_marks text ≡ Some mark → IsLongest text mark × (is_double mark ≡ false)
single_found text mark missing found =
    let is : is_double mark ≡ false = not_double (is_double mark) (found_of (stands text) (λ m. not (is_double m)) single_marks mark refl found) in (
      record {
        spelled = stands_written text mark (find_passes (stands text) single_marks mark found);
        longest = λ other behind same. let one : length (symbol_of mark) ≡ 1 = single_len mark is in
            let other_one : length (symbol_of other) ≡ 1 = single_len other (no_double text other (is_double other) refl missing (written_stands text behind other same)) in omega arith;
      },
      is,
    )

-- two symbols at the front of one text with equal lengths are one
pub one_symbol : (text : Text) (mark other : Mark) (rest behind : Text) → text ≡ symbol_of mark ++ rest → text ≡ symbol_of other ++ behind → length (symbol_of mark) ≡ length (symbol_of other) → mark ≡ other
one_symbol text mark other rest behind first second lens =
    let written : symbol_of mark ≡ symbol_of other =
    sym (take-append_seam (symbol_of mark) rest) ∙ ap (take (length (symbol_of mark))) (sym first ∙ second) ∙ ap (λ n. take n (symbol_of other ++ behind)) lens ∙ take-append_seam (symbol_of other) behind
    in same_Some mark other (sym (symbol_is mark).known ∙ ap mark_written written ∙ (symbol_is other).known)

-- What is found first: a symbol of two bytes, else of one, and how many bytes it takes.
abbrev pub symbol_found : Text → Option Mark → Option Mark → Option (Mark × ℕ)
symbol_found text (Some mark) other = Some (mark, 2)
symbol_found text None (Some mark) = Some (mark, 1)
symbol_found text None None = None

single_read : (text rest : Text) (mark : Mark) (single : Option Mark) → mark_among double_marks text ≡ None → mark_among single_marks text ≡ single → text ≡ symbol_of mark ++ rest
    → ◌≡◌ {A = Option (Mark × ℕ)} (symbol_found text None single) (Some (mark, length (symbol_of mark)))
single_read text rest mark None missing is there =
    let alone : is_double mark ≡ false = no_double text mark (is_double mark) refl missing (written_stands text rest mark there) in
    absurd (false≢true (sym (none_passes (stands text) single_marks mark (symbol_is mark).place is (subst (λ test. slice_get (cond test double_marks single_marks) (symbol_is mark).place ≡ Some mark) alone (symbol_is mark).listed))
    ∙ written_stands text rest mark there))
single_read text rest mark (Some found) missing is there =
    let alone : is_double mark ≡ false = no_double text mark (is_double mark) refl missing (written_stands text rest mark there) in
    let this : IsLongest text found × (is_double found ≡ false) = single_found text found missing is in
    let same : found ≡ mark = one_symbol text found mark _ rest this.0.spelled there (single_len found this.1 ∙ sym (single_len mark alone)) in
    λ i. Some (same i, sym (single_len mark alone) i)

-- the longest symbol at the front is what is found
pub symbol_read : (text rest : Text) (mark : Mark) (double : Option Mark) → mark_among double_marks text ≡ double → text ≡ symbol_of mark ++ rest
    → ((other : Mark) (behind : Text) → text ≡ symbol_of other ++ behind → length (symbol_of other) ≤ length (symbol_of mark))
    → ◌≡◌ {A = Option (Mark × ℕ)} (symbol_found text double (mark_among single_marks text)) (Some (mark, length (symbol_of mark)))
symbol_read text rest mark None is there longest = single_read text rest mark (mark_among single_marks text) is refl there
symbol_read text rest mark (Some found) is there longest =
    let this : IsLongest text found × (is_double found ≡ true) = double_found text found is in
    let two : length (symbol_of found) ≡ 2 = double_len found this.1 in
    let least : length (symbol_of found) ≤ length (symbol_of mark) = longest found _ this.0.spelled in
    let most : length (symbol_of mark) ≤ 2 = subst (λ n. n ≤ 2) (sym (symbol_is mark).len) (short (is_double mark)) in
    let lens : length (symbol_of found) ≡ length (symbol_of mark) = omega arith in
    let same : found ≡ mark = one_symbol text found mark _ rest this.0.spelled there lens in
    λ i. Some (same i, (sym two ∙ lens) i)
