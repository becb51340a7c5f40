-- Lists of rising numbers, each once: one more, some less, and that two with the same numbers are one.
use Rattle.std.specs.List.{list_any}
use Rattle.std.proofs.Common.{ℕ, suc, ◌-◌, ◌<◌, ◌≤◌, ◌≡◌, ◌≢◌, inl, inr, refl, sym, ◌∙◌, ap, Bool, true, false, cond, not, eqb, ltb, ◌||◌, ◌&&◌, List, [], ◌∷◌, filter, length, arith}
use Rattle.std.proofs.lemmas.Bool.Decides.{eqb_tells, leb_tells}
use Rattle.dso_law.specs.Copies.{insert_number}

-- whether the number is one of the list
abbrev pub among : ℕ → List ℕ → Bool
among x xs = list_any (λ y. eqb y x) xs

-- the numbers rise, all above n
abbrev pub Above : ℕ → List ℕ → Type 0
Above n [] = Unit {0}
Above n (x ∷ xs) = (n < x) × Above x xs

-- the numbers rise
abbrev pub Rising : List ℕ → Type 0
Rising [] = Unit {0}
Rising (x ∷ xs) = Above x xs

-- a number is itself
pub itself : (n : ℕ) → eqb n n ≡ true
itself n = elim (eqb_tells n n) [ inl h ↦ h.0 | inr h ↦ absurd (h.1 refl) ]

-- two numbers that differ are told apart
other : (a b : ℕ) → a ≢ b → eqb a b ≡ false
other a b differ = elim (eqb_tells a b) [ inl h ↦ absurd (differ h.1) | inr h ↦ h.0 ]

-- the test tells what it says
equal : (a b : ℕ) → eqb a b ≡ true → a ≡ b
equal a b is = elim (eqb_tells a b) [ inl h ↦ h.1 | inr h ↦ absurd (cc (sym is ∙ h.0)) ]

unequal : (a b : ℕ) → eqb a b ≡ false → a ≢ b
unequal a b is = elim (eqb_tells a b) [ inl h ↦ absurd (cc (sym is ∙ h.0)) | inr h ↦ h.1 ]

less : (a b : ℕ) → ltb a b ≡ true → a < b
less a b is = elim (leb_tells (suc a) b) [ inl h ↦ h.1 | inr h ↦ absurd (cc (sym is ∙ h.0)) ]

-- a number that is neither the same nor lesser is greater
greater : (a b : ℕ) → eqb a b ≡ false → ltb a b ≡ false → b < a
greater a b differs is = elim (leb_tells (suc a) b) [ inl h ↦ absurd (cc (sym is ∙ h.0)) | inr h ↦ let apart = unequal a b differs in omega (arith, apart, h.1) ]

-- what rises above a number rises above a lesser one
above_lesser : (m n : ℕ) (xs : List ℕ) → m ≤ n → Above n xs → Above m xs
above_lesser m n [] most rise = tt
above_lesser m n (x ∷ xs) most rise = (omega (arith, most, rise.0), rise.1)

-- what rises above a number rises
above_rises : (n : ℕ) (xs : List ℕ) → Above n xs → Rising xs
above_rises n [] rise = tt
above_rises n (x ∷ xs) rise = rise.1

-- a number that isn't above is none of them
above_absent : (n x : ℕ) (xs : List ℕ) → x ≤ n → Above n xs → among x xs ≡ false
above_absent n x [] most rise = refl
above_absent n x (y ∷ ys) most rise = ap (λ t. t || among x ys) (other y x (λ same. omega (arith, most, rise.0, same)))
    ∙ above_absent y x ys (omega (arith, most, rise.0)) rise.1

-- ---- one more

above_more : (m n : ℕ) (xs : List ℕ) → m < n → Above m xs → Above m (insert_number n xs)
above_more m n [] over rise = (over, tt)
above_more m n (first ∷ rest) over rise = by (eqb n first) (ltb n first) (less n first) (λ differs is. above_more first n rest (greater n first differs is) rise.1)
  where
    by : (same before : Bool) → (before ≡ true → n < first) → (same ≡ false → before ≡ false → Above first (insert_number n rest))
        → Above m (cond same (first ∷ rest) (cond before (n ∷ first ∷ rest) (first ∷ insert_number n rest)))
    by true before near far = rise
    by false true near far = (over, (near refl, rise.1))
    by false false near far = (rise.0, far refl refl)

pub rising_more : (n : ℕ) (xs : List ℕ) → Rising xs → Rising (insert_number n xs)
rising_more n [] rise = tt
rising_more n (first ∷ rest) rise = by (eqb n first) (ltb n first) (less n first) (λ differs is. above_more first n rest (greater n first differs is) rise)
  where
    by : (same before : Bool) → (before ≡ true → n < first) → (same ≡ false → before ≡ false → Above first (insert_number n rest))
        → Rising (cond same (first ∷ rest) (cond before (n ∷ first ∷ rest) (first ∷ insert_number n rest)))
    by true before near far = rise
    by false true near far = (near refl, rise)
    by false false near far = far refl refl

-- one of two, in either order
or_first : (t u : Bool) → (t || u) ≡ cond t true u
or_first true u = refl
or_first false u = refl

pub among_more : (n x : ℕ) (xs : List ℕ) → among x (insert_number n xs) ≡ cond (eqb n x) true (among x xs)
among_more n x [] = or_first (eqb n x) false
among_more n x (first ∷ rest) = by (eqb n first) (ltb n first) (equal n first) (among_more n x rest)
  where
    here : (t u : Bool) → (t || u) ≡ cond t true (t || u)
    here true u = refl
    here false u = refl

    behind : (t s u : Bool) → (s || cond t true u) ≡ cond t true (s || u)
    behind true true u = refl
    behind true false u = refl
    behind false s u = refl

    by : (same before : Bool) → (same ≡ true → n ≡ first) → among x (insert_number n rest) ≡ cond (eqb n x) true (among x rest)
        → among x (cond same (first ∷ rest) (cond before (n ∷ first ∷ rest) (first ∷ insert_number n rest))) ≡ cond (eqb n x) true (eqb first x || among x rest)
    by true before is more = here (eqb first x) (among x rest) ∙ ap (λ m. cond (eqb m x) true (eqb first x || among x rest)) (sym (is refl))
    by false true is more = or_first (eqb n x) (eqb first x || among x rest)
    by false false is more = ap (λ t. eqb first x || t) more ∙ behind (eqb n x) (eqb first x) (among x rest)

-- one more counts where it isn't one of them
pub length_more : (n : ℕ) (xs : List ℕ) → Rising xs → length (insert_number n xs) ≡ cond (among n xs) (length xs) (suc (length xs))
length_more n [] rise = refl
length_more n (first ∷ rest) rise = by (eqb n first) (ltb n first) (equal n first) (unequal n first) (less n first) (length_more n rest (above_rises first rest rise))
  where
    next : (t : Bool) → suc (cond t (length rest) (suc (length rest))) ≡ cond t (suc (length rest)) (suc (suc (length rest)))
    next true = refl
    next false = refl

    by : (same before : Bool) → (same ≡ true → n ≡ first) → (same ≡ false → n ≢ first) → (before ≡ true → n < first)
        → length (insert_number n rest) ≡ cond (among n rest) (length rest) (suc (length rest))
        → length (cond same (first ∷ rest) (cond before (n ∷ first ∷ rest) (first ∷ insert_number n rest))) ≡ cond (eqb first n || among n rest) (suc (length rest)) (suc (suc (length rest)))
    by true before is differs near more = ap (λ t. cond (t || among n rest) (suc (length rest)) (suc (suc (length rest)))) (sym (ap (eqb first) (is refl) ∙ itself first))
    by false true is differs near more = ap (λ t. cond t (suc (length rest)) (suc (suc (length rest))))
        (sym (ap (λ t. t || among n rest) (other first n (λ same. differs refl (sym same))) ∙ above_absent first n rest (let before = near refl in omega (arith, before)) rise))
    by false false is differs near more = ap suc more ∙ next (among n rest)
        ∙ ap (λ t. cond (t || among n rest) (suc (length rest)) (suc (suc (length rest)))) (sym (other first n (λ same. differs refl (sym same))))

-- ---- some less

above_some : (f : ℕ → Bool) (m : ℕ) (xs : List ℕ) → Above m xs → Above m (filter f xs)
above_some f m [] rise = tt
above_some f m (first ∷ rest) rise = by (f first) (above_some f first rest rise.1)
  where
    by : (t : Bool) → Above first (filter f rest) → Above m (cond t (first ∷ filter f rest) (filter f rest))
    by true rest_rises = (rise.0, rest_rises)
    by false rest_rises = let over = rise.0 in above_lesser m first (filter f rest) (omega (arith, over)) rest_rises

pub rising_some : (f : ℕ → Bool) (xs : List ℕ) → Rising xs → Rising (filter f xs)
rising_some f [] rise = tt
rising_some f (first ∷ rest) rise = by (f first) (above_some f first rest rise)
  where
    by : (t : Bool) → Above first (filter f rest) → Rising (cond t (first ∷ filter f rest) (filter f rest))
    by true rest_rises = rest_rises
    by false rest_rises = above_rises first (filter f rest) rest_rises

pub among_some : (f : ℕ → Bool) (x : ℕ) (xs : List ℕ) → among x (filter f xs) ≡ (f x && among x xs)
among_some f x [] = none (f x)
  where
    none : (t : Bool) → false ≡ (t && false)
    none true = refl
    none false = refl
among_some f x (first ∷ rest) = by (f first) (λ here. sym (ap f (equal first x here))) (among_some f x rest)
  where
    kept : (s : Bool) → (s ≡ true → f x ≡ true) → among x (filter f rest) ≡ (f x && among x rest) → (s || among x (filter f rest)) ≡ (f x && (s || among x rest))
    kept true same more = sym (ap (λ t. t && true) (same refl))
    kept false same more = more

    dropped : (s : Bool) → (s ≡ true → f x ≡ false) → among x (filter f rest) ≡ (f x && among x rest) → among x (filter f rest) ≡ (f x && (s || among x rest))
    dropped true same more = more ∙ ap (λ t. t && among x rest) (same refl) ∙ sym (ap (λ t. t && true) (same refl))
    dropped false same more = more

    by : (t : Bool) → (eqb first x ≡ true → f x ≡ t) → among x (filter f rest) ≡ (f x && among x rest)
        → among x (cond t (first ∷ filter f rest) (filter f rest)) ≡ (f x && (eqb first x || among x rest))
    by true same more = kept (eqb first x) same more
    by false same more = dropped (eqb first x) same more

-- the numbers but this one
abbrev pub but : ℕ → List ℕ → List ℕ
but n xs = filter (λ x. not (eqb n x)) xs

pub among_but : (n x : ℕ) (xs : List ℕ) → among x (but n xs) ≡ cond (eqb n x) false (among x xs)
among_but n x xs = among_some (λ y. not (eqb n y)) x xs ∙ by (eqb n x)
  where
    by : (t : Bool) → (not t && among x xs) ≡ cond t false (among x xs)
    by true = refl
    by false = refl

-- a list that has a number isn't empty
not_empty : (n : ℕ) (xs : List ℕ) → among n xs ≡ true → 1 ≤ length xs
not_empty n [] is = absurd (cc is)
not_empty n (x ∷ xs) is = omega arith

-- one less counts where it was one of them
pub length_but : (n : ℕ) (xs : List ℕ) → Rising xs → length (but n xs) ≡ cond (among n xs) (length xs - 1) (length xs)
length_but n [] rise = refl
length_but n (first ∷ rest) rise = by (eqb n first) (equal n first) (unequal n first) (length_but n rest (above_rises first rest rise))
  where
    next : (t : Bool) → (t ≡ true → 1 ≤ length rest) → suc (cond t (length rest - 1) (length rest)) ≡ cond t (suc (length rest) - 1) (suc (length rest))
    next true there = let some = there refl in omega (arith, some)
    next false there = refl

    drops : length rest ≡ suc (length rest) - 1
    drops = omega arith

    by : (same : Bool) → (same ≡ true → n ≡ first) → (same ≡ false → n ≢ first) → length (but n rest) ≡ cond (among n rest) (length rest - 1) (length rest)
        → length (cond (not same) (first ∷ but n rest) (but n rest)) ≡ cond (eqb first n || among n rest) (suc (length rest) - 1) (suc (length rest))
    by true is differs less_one = less_one
        ∙ ap (λ t. cond t (length rest - 1) (length rest)) (above_absent first n rest (let same = is refl in omega (arith, same)) rise) ∙ drops
        ∙ ap (λ t. cond (t || among n rest) (suc (length rest) - 1) (suc (length rest))) (sym (ap (eqb first) (is refl) ∙ itself first))
    by false is differs less_one = ap suc less_one ∙ next (among n rest) (not_empty n rest)
        ∙ ap (λ t. cond (t || among n rest) (suc (length rest) - 1) (suc (length rest))) (sym (other first n (λ same. differs refl (sym same))))

-- ---- the same numbers

-- the first of a list is one of it
first_in : (x : ℕ) (xs : List ℕ) → among x (x ∷ xs) ≡ true
first_in x xs = ap (λ t. t || among x xs) (itself x)

-- what is less than the first is none of a rising list
below_first : (x y : ℕ) (ys : List ℕ) → x < y → Above y ys → among x (y ∷ ys) ≡ false
below_first x y ys under rise = ap (λ t. t || among x ys) (other y x (λ same. omega (arith, under, same))) ∙ above_absent y x ys (omega (arith, under)) rise

-- two rising lists with the same numbers begin alike
begin_alike : (x y : ℕ) (xs ys : List ℕ) → Above x xs → Above y ys → ((z : ℕ) → among z (x ∷ xs) ≡ among z (y ∷ ys)) → x ≡ y
begin_alike x y xs ys xs_rise ys_rise same = elim (eqb_tells x y) [
  | inl h ↦ h.1
  | inr h ↦ elim (leb_tells (suc x) y) [
    | inl g ↦ absurd (cc (sym (first_in x xs) ∙ (same x ∙ below_first x y ys g.1 ys_rise)))
    | inr g ↦ let under : y < x = let differ = h.1 in let not_under = g.1 in omega (arith, differ, not_under) in
        absurd (cc (sym (first_in y ys) ∙ (sym (same y) ∙ below_first y x xs under xs_rise)))
  ]
]

-- and go on alike
go_on_alike : (x : ℕ) (xs ys : List ℕ) → Above x xs → Above x ys → ((z : ℕ) → among z (x ∷ xs) ≡ among z (x ∷ ys)) → (z : ℕ) → among z xs ≡ among z ys
go_on_alike x xs ys xs_rise ys_rise same z = by (eqb x z) (λ is. let here = equal x z is in
    above_absent x z xs (omega (arith, here)) xs_rise ∙ sym (above_absent x z ys (omega (arith, here)) ys_rise)) (same z)
  where
    by : (t : Bool) → (t ≡ true → among z xs ≡ among z ys) → (t || among z xs) ≡ (t || among z ys) → among z xs ≡ among z ys
    by true here rest = here refl
    by false here rest = rest

pub same_numbers : (xs ys : List ℕ) → Rising xs → Rising ys → ((z : ℕ) → among z xs ≡ among z ys) → xs ≡ ys
same_numbers [] [] xs_rise ys_rise same = refl
same_numbers [] (y ∷ ys) xs_rise ys_rise same = absurd (cc (same y ∙ first_in y ys))
same_numbers (x ∷ xs) [] xs_rise ys_rise same = absurd (cc (sym (same x) ∙ first_in x xs))
same_numbers (x ∷ xs) (y ∷ ys) xs_rise ys_rise same =
    let first : x ≡ y = begin_alike x y xs ys xs_rise ys_rise same in
    let ys_above : Above x ys = rw first ys_rise in
    let all : (z : ℕ) → among z (x ∷ xs) ≡ among z (x ∷ ys) = λ z. same z ∙ ap (λ w. among z (w ∷ ys)) (sym first) in
    ap (λ zs. x ∷ zs) (same_numbers xs ys (above_rises x xs xs_rise) (above_rises x ys ys_above) (go_on_alike x xs ys xs_rise ys_above all)) ∙ ap (λ w. w ∷ ys) first
