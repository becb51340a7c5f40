-- A text is read as what is written so.
use Rattle.std.proofs.Common.{codes, ◌≡◌, ◌+◌, ◌↔◌, ℕ, suc, Bool, true, false, ◌==◌, if◌then◌else◌, List, [], ◌∷◌, ◌++◌, Some, None, refl, ap, sym, subst, ◌∙◌, arith}
use Rattle.std.proofs.lemmas.Bool.{and_parts, false≢true}
use Rattle.std.proofs.lemmas.Bool.Decides.{nat_tests}
use Rattle.std.proofs.lemmas.Slice.Eq.{bytes_eq-Decides}
use Rattle.std.specs.List.{list_all, position_or_len, before_first, after_first}
use Rattle.std.specs.Str.{bytes_eq}
use Rattle.dso_base.specs.declared.lock.Grade.{Grade}
use Rattle.dso_base.specs.declared.lock.Grade.TheVariants as grade
use Rattle.dso_config.specs.declared.pattern.Pattern.{Pattern}
use Rattle.dso_config.specs.declared.pattern.Pattern.TheVariants as pattern
use Rattle.dso_config.specs.Spelling.{is_letter, is_word, is_dot, is_name, pattern_in, pattern_of, grade_of, IsPattern, written_grade}

-- a byte that is told to be a dot is one
dot-is : (b : ℕ) → is_dot b ≡ true → b ≡ 46
dot-is b is = grind (arith, nat_tests)

-- a dot goes on no name
word-no_dot : (b : ℕ) → is_word b ≡ true → is_dot b ≡ false
word-no_dot b word = by_test (is_dot b) refl where
  by_test : (test : Bool) → is_dot b ≡ test → is_dot b ≡ false
  by_test false is = is
  by_test true is = absurd (false≢true (subst (λ x. is_word x ≡ true) (dot-is b is) word))

-- another byte than a dot stands before the first dot
before-step : (b : ℕ) (rest : List ℕ) → is_dot b ≡ false → before_first is_dot (b ∷ rest) ≡ b ∷ before_first is_dot rest
before-step b rest other =
    let next : 1 + position_or_len is_dot rest ≡ suc (position_or_len is_dot rest) = omega arith in
    rw (other, next)

after-step : (b : ℕ) (rest : List ℕ) → is_dot b ≡ false → after_first is_dot (b ∷ rest) ≡ after_first is_dot rest
after-step b rest other =
    let next : 1 + position_or_len is_dot rest + 1 ≡ suc (position_or_len is_dot rest + 1) = omega arith in
    rw (other, next)

-- what stands around the first dot makes the text, where something stands behind it
around-step : (test : Bool) (x : ℕ) (text : List ℕ) (b : ℕ) (rest : List ℕ) → is_dot x ≡ test → after_first is_dot (x ∷ text) ≡ b ∷ rest
    → (after_first is_dot text ≡ b ∷ rest → text ≡ before_first is_dot text ++ 46 ∷ b ∷ rest) → x ∷ text ≡ before_first is_dot (x ∷ text) ++ 46 ∷ b ∷ rest
around-step true x text b rest dot is further =
    subst (λ y. after_first is_dot (y ∷ text) ≡ b ∷ rest → y ∷ text ≡ before_first is_dot (y ∷ text) ++ 46 ∷ b ∷ rest) (sym (dot-is x dot)) (λ same. ap (λ t. 46 ∷ t) same) is
around-step false x text b rest other is further =
    let same = further (sym (after-step x text other) ∙ is) in
    rw (before-step x text other) (ap (λ t. x ∷ t) same)

around : (text : List ℕ) (b : ℕ) (rest : List ℕ) → after_first is_dot text ≡ b ∷ rest → text ≡ before_first is_dot text ++ 46 ∷ b ∷ rest
around [] b rest is = cc
around (x ∷ text) b rest is = around-step (is_dot x) x text b rest refl is (around text b rest)

-- no byte of a name is a dot
name-words : (name : List ℕ) → is_name name ≡ true → list_all is_word name ≡ true
name-words [] named = refl
name-words (b ∷ rest) named =
    let parts = and_parts (is_letter b) _ named in
    let more = and_parts _ (list_all is_word rest) parts.1 in
    rw (parts.0, more.1)

-- a class and its member are told apart again
apart : (class member : List ℕ) → list_all is_word class ≡ true → (before_first is_dot (class ++ 46 ∷ member) ≡ class) × (after_first is_dot (class ++ 46 ∷ member) ≡ member)
apart [] member words = (refl, refl)
apart (b ∷ class) member words =
    let parts = and_parts (is_word b) (list_all is_word class) words in
    let other = word-no_dot b parts.0 in
    let further = apart class member parts.1 in
    (before-step b (class ++ 46 ∷ member) other ∙ ap (λ t. b ∷ t) further.0, after-step b (class ++ 46 ∷ member) other ∙ further.1)

-- a name begins with no star
letter-no_star : (b : ℕ) → is_letter b ≡ true → b == 42 ≡ false
letter-no_star b letter = by_test (b == 42) refl where
  by_test : (test : Bool) → b == 42 ≡ test → b == 42 ≡ false
  by_test false is = is
  by_test true is =
      let here : b ≡ 42 = grind (arith, nat_tests) in
      absurd (false≢true (subst (λ x. is_letter x ≡ true) here letter))

name-no_star : (name : List ℕ) → is_name name ≡ true → bytes_eq name (codes "*") ≡ false
name-no_star [] named = refl
name-no_star (b ∷ rest) named = rw (letter-no_star b (and_parts (is_letter b) _ named).0)

dotted-no_star : (name rest : List ℕ) → is_name name ≡ true → bytes_eq (name ++ rest) (codes "*.*") ≡ false
dotted-no_star [] rest named = absurd (false≢true named)
dotted-no_star (b ∷ name) rest named = rw (letter-no_star b (and_parts (is_letter b) _ named).0)

-- a text that is written with a class is read by it
pattern-dotted : (class member : List ℕ) → is_name class ≡ true → pattern_of (class ++ 46 ∷ member) ≡ pattern_in class member
pattern-dotted class member named =
    let parts = apart class member (name-words class named) in
    rw (dotted-no_star class (46 ∷ member) named, parts.0, parts.1)

-- a pattern is read from its text
pattern-read : (text : List ℕ) (p : Pattern) → IsPattern text p → pattern_of text ≡ Some p
pattern-read text pattern.All is = ap pattern_of is.is
pattern-read text (pattern.Class class) is = ap pattern_of is.is ∙ pattern-dotted class (codes "*") is.named ∙ rw is.named
pattern-read text (pattern.Method class member) is =
    ap pattern_of is.is ∙ pattern-dotted class member is.named.0 ∙ rw (is.named.0, name-no_star member is.named.1, is.named.1)

-- what is read of a text behind its dot
method-written : (text class member : List ℕ) → before_first is_dot text ≡ class → after_first is_dot text ≡ member → is_name class ≡ true → is_name member ≡ true
    → IsPattern text (pattern.Method class member)
method-written text class [] before after named name = absurd (false≢true name)
method-written text class (b ∷ rest) before after named name = record { is = around text b rest after ∙ ap (λ c. c ++ 46 ∷ b ∷ rest) before; named = (named, name) }

class-written : (text class member : List ℕ) → before_first is_dot text ≡ class → after_first is_dot text ≡ member → is_name class ≡ true → bytes_eq member (codes "*") ≡ true
    → IsPattern text (pattern.Class class)
class-written text class member before after named star =
    let all = after ∙ (bytes_eq-Decides member (codes "*")).0 star in
    record { is = around text 42 [] all ∙ ap (λ c. c ++ codes ".*") before; named = named }

-- what is read with a class is written so
in-written : (text class member : List ℕ) (p : Pattern) → before_first is_dot text ≡ class → after_first is_dot text ≡ member → pattern_in class member ≡ Some p → IsPattern text p
in-written text class member p before after is = by_class (is_name class) refl is where
  by_member : (name : Bool) → is_name class ≡ true → is_name member ≡ name → (if name then Some (pattern.Method class member) else None) ≡ Some p → IsPattern text p
  by_member true named is told =
      let same : pattern.Method class member ≡ p = cc in
      subst (IsPattern text) same (method-written text class member before after named is)
  by_member false named is told = cc

  by_star : (star : Bool) → is_name class ≡ true → bytes_eq member (codes "*") ≡ star
      → (if star then Some (pattern.Class class) else if is_name member then Some (pattern.Method class member) else None) ≡ Some p → IsPattern text p
  by_star true named is told =
      let same : pattern.Class class ≡ p = cc in
      subst (IsPattern text) same (class-written text class member before after named is)
  by_star false named is told = by_member (is_name member) named refl told

  by_class : (named : Bool) → is_name class ≡ named
      → (if named then (if bytes_eq member (codes "*") then Some (pattern.Class class) else if is_name member then Some (pattern.Method class member) else None) else None) ≡ Some p
      → IsPattern text p
  by_class true is told = by_star (bytes_eq member (codes "*")) is refl told
  by_class false is told = cc

-- the pattern that is read of a text is written so
pattern-written : (text : List ℕ) (p : Pattern) → pattern_of text ≡ Some p → IsPattern text p
pattern-written text p is = by_all (bytes_eq text (codes "*.*")) refl is where
  by_all : (all : Bool) → bytes_eq text (codes "*.*") ≡ all → (if all then Some pattern.All else pattern_in (before_first is_dot text) (after_first is_dot text)) ≡ Some p → IsPattern text p
  by_all true is told =
      let same : pattern.All ≡ p = cc in
      subst (IsPattern text) same (record { is = (bytes_eq-Decides text (codes "*.*")).0 is; named = tt })
  by_all false is told = in-written text (before_first is_dot text) (after_first is_dot text) p refl refl told

pub read_pattern : (text : List ℕ) (p : Pattern) → (pattern_of text ≡ Some p) ↔ IsPattern text p
read_pattern text p = (pattern-written text p, pattern-read text p)

-- a level is read from its text
grade-read : (text : List ℕ) (g : Grade) → text ≡ written_grade g → grade_of text ≡ Some g
grade-read text grade.Read is = ap grade_of is
grade-read text grade.Write is = ap grade_of is
grade-read text grade.Synchronous is = ap grade_of is

-- the level that is read of a text is written so
grade-written : (text : List ℕ) (g : Grade) → grade_of text ≡ Some g → text ≡ written_grade g
grade-written text g is = by_read (bytes_eq text (codes "read")) refl is where
  of : (word : List ℕ) (level : Grade) → bytes_eq text word ≡ true → written_grade level ≡ word → Some level ≡ Some g → text ≡ written_grade g
  of word level is said told =
      let same : level ≡ g = cc in
      (bytes_eq-Decides text word).0 is ∙ sym said ∙ ap written_grade same

  by_synchronous : (test : Bool) → bytes_eq text (codes "synchronous-write") ≡ test → (if test then Some grade.Synchronous else None) ≡ Some g → text ≡ written_grade g
  by_synchronous true is told = of (codes "synchronous-write") grade.Synchronous is refl told
  by_synchronous false is told = cc

  by_write : (test : Bool) → bytes_eq text (codes "write") ≡ test
      → (if test then Some grade.Write else if bytes_eq text (codes "synchronous-write") then Some grade.Synchronous else None) ≡ Some g → text ≡ written_grade g
  by_write true is told = of (codes "write") grade.Write is refl told
  by_write false is told = by_synchronous (bytes_eq text (codes "synchronous-write")) refl told

  by_read : (test : Bool) → bytes_eq text (codes "read") ≡ test
      → (if test then Some grade.Read else if bytes_eq text (codes "write") then Some grade.Write else if bytes_eq text (codes "synchronous-write") then Some grade.Synchronous else None) ≡ Some g
      → text ≡ written_grade g
  by_read true is told = of (codes "read") grade.Read is refl told
  by_read false is told = by_write (bytes_eq text (codes "write")) refl told

pub read_grade : (text : List ℕ) (g : Grade) → (grade_of text ≡ Some g) ↔ (text ≡ written_grade g)
read_grade text g = (grade-written text g, grade-read text g)
