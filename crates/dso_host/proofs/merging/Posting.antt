-- Letters of later entries stand behind those of earlier ones, and have later clocks.
use Rattle.std.specs.List.{AllByRecursion}
use Rattle.std.proofs.Common.{ℕ, zero, suc, ◌≤◌, ◌<◌, ◌≡◌, refl, sym, ◌∙◌, ap, Bool, true, false, cond, eqb, Some, List, [], ◌∷◌, ◌++◌, drop, slice_get, arith}
use Rattle.std.proofs.lemmas.List.{append-nil, append_assoc}
use Rattle.dso_base.specs.declared.journal.Entry.{Entry}
use Rattle.dso_base.specs.declared.journal.Sent.{Sent}
use Rattle.dso_base.specs.declared.journal.Sent.TheVariants.{ToServer, ToClient}
use Rattle.dso_law.specs.Channels.{Direction, Letter, posted, to_client, to_server}
use Rattle.dso_law.specs.Entries.{entries_of, if_to, is_node}
use Rattle.dso_world.specs.PastOf.{letters_posted}
use Rattle.dso_line.specs.Letters.{letters_of}

-- more letters behind these, none with a clock below the bound
pub record Later {M : Type 0} (bound : ℕ) (letters all : List (Letter M)) : Type 0 where
  pub rest : List (Letter M)
  pub is : all ≡ letters ++ rest
  pub above : AllByRecursion (λ letter. bound ≤ letter.clock) rest

none_later : {M : Type 0} (bound : ℕ) (letters : List (Letter M)) → Later bound letters letters
none_later bound letters = record { rest = []; is = sym (append-nil letters); above = tt }

above_snoc : {M : Type 0} (bound : ℕ) (rest : List (Letter M)) (letter : Letter M) → AllByRecursion (λ one. bound ≤ one.clock) rest → bound ≤ letter.clock → AllByRecursion (λ one. bound ≤ one.clock) (rest ++ letter ∷ [])
above_snoc bound [] letter above its = (its, tt)
above_snoc bound (one ∷ rest) letter above its = (above.0, above_snoc bound rest letter above.1 its)

one_later : {M : Type 0} (bound clock : ℕ) (m : M) (letters all : List (Letter M)) → bound ≤ clock → Later bound letters all → Later bound letters (posted clock m all)
one_later bound clock m letters all high later = record {
  rest = later.rest ++ record { message = m; clock = clock } ∷ [];
  is = ap (λ list. posted clock m list) later.is ∙ append_assoc letters later.rest (record { message = m; clock = clock } ∷ []);
  above = above_snoc bound later.rest (record { message = m; clock = clock }) later.above high;
}

-- a direction posts behind
abbrev pub PostsBehind : {M : Type 0} → Direction M → Type 0
PostsBehind {M = M} direction = (bound clock : ℕ) → bound ≤ clock → (out : List Sent) (letters all : List (Letter M)) → Later bound letters all → Later bound letters (direction.by_sent (posted clock) out all)

pub up_behind : (c : ℕ) → PostsBehind (to_server c)
up_behind c bound clock high [] letters all later = later
up_behind c bound clock high (ToServer m ∷ out) letters all later = up_behind c bound clock high out letters (posted clock m all) (one_later bound clock m letters all high later)
up_behind c bound clock high (ToClient d m ∷ out) letters all later = up_behind c bound clock high out letters all later

pub down_behind : (c : ℕ) → PostsBehind (to_client c)
down_behind c bound clock high [] letters all later = later
down_behind c bound clock high (ToServer m ∷ out) letters all later = down_behind c bound clock high out letters all later
down_behind c bound clock high (ToClient d m ∷ out) letters all later = down_behind c bound clock high out letters (if_to c (posted clock) d m all) (by (eqb c d))
  where
    by : (its : Bool) → Later bound letters (cond its (posted clock m all) all)
    by false = later
    by true = one_later bound clock m letters all high later

pub posts_later : {M : Type 0} (direction : Direction M) → PostsBehind direction → (bound : ℕ) (front es : List Entry) → AllByRecursion (λ f. bound ≤ f.clock) front → Later bound (letters_of direction es) (letters_of direction (front ++ es))
posts_later direction behind bound [] es above = none_later bound (letters_of direction es)
posts_later direction behind bound (f ∷ front) es above = behind bound f.clock above.0 f.sent (letters_of direction es) (letters_of direction (front ++ es)) (posts_later direction behind bound front es above.1)

-- a letter with a low clock is not among the later ones
not_later : {M : Type 0} (bound : ℕ) (rest : List (Letter M)) (k : ℕ) (letter : Letter M) → AllByRecursion (λ one. bound ≤ one.clock) rest → slice_get rest k ≡ Some letter → letter.clock < bound → ⊥
not_later bound [] k letter above at low = absurd (cc at)
not_later bound (one ∷ rest) zero letter above at low = let same : one ≡ letter = cc at in omega (arith, above.0, ap (λ l. l.clock) same, low)
not_later bound (one ∷ rest) (suc k) letter above at low = not_later bound rest k letter above.1 at low

-- so it is among the earlier ones
pub earlier : {M : Type 0} (bound : ℕ) (letters rest : List (Letter M)) (k : ℕ) (letter : Letter M) → AllByRecursion (λ one. bound ≤ one.clock) rest → slice_get (letters ++ rest) k ≡ Some letter → letter.clock < bound → slice_get letters k ≡ Some letter
earlier bound [] rest k letter above at low = absurd (not_later bound rest k letter above at low)
earlier bound (one ∷ letters) rest zero letter above at low = at
earlier bound (one ∷ letters) rest (suc k) letter above at low = earlier bound letters rest k letter above at low

-- the letter at a place is the first of those left behind that many
pub first_left : {M : Type 0} (letters : List (Letter M)) (k : ℕ) (letter : Letter M) → slice_get letters k ≡ Some letter → drop k letters ≡ letter ∷ drop (suc k) letters
first_left [] k letter at = absurd (cc at)
first_left (one ∷ letters) zero letter at = let same : one ≡ letter = cc at in ap (λ l. l ∷ letters) same
first_left (one ∷ letters) (suc k) letter at = first_left letters k letter at

-- a node's letters are those of its own entries
pub own_letters : {M : Type 0} (direction : Direction M) (es : List Entry) → letters_posted direction es ≡ letters_of direction (entries_of direction.sender es)
own_letters direction [] = refl
own_letters direction (e ∷ es) = by (is_node direction.sender e.node) (own_letters direction es)
  where
    by : (its : Bool) → letters_posted direction es ≡ letters_of direction (entries_of direction.sender es) → cond its (direction.by_sent (posted e.clock) e.sent (letters_posted direction es)) (letters_posted direction es)
        ≡ letters_of direction (cond its (e ∷ entries_of direction.sender es) (entries_of direction.sender es))
    by true before = ap (λ letters. direction.by_sent (posted e.clock) e.sent letters) before
    by false before = before
