-- What becomes of a list of the server's ends, by what becomes of each.
use Rattle.std.specs.Option.{option_map}
use Rattle.std.proofs.Common.{ℕ, zero, suc, ◌+◌, ◌<◌, ◌≡◌, inl, inr, refl, sym, ◌∙◌, ap, subst, Bool, true, false, cond, eqb, Option, Some, None, List, [], ◌∷◌, ◌++◌, length, slice_get, arith}
use Rattle.std.proofs.lemmas.Bool.{eq-eqb, eqb-true}
use Rattle.dso_cell.specs.declared.server_end.ServerEnd.{ServerEnd}
use Rattle.dso_cell.specs.declared.server_ends.Found.{Found}
use Rattle.dso_cell.specs.ServerEnds.{AreLeft, ArePassed, HasLookedUp, HaveLooked, IsPassed, OneChanged, arrival_of, moved, with_end}

-- ---- lists side by side
pub unmoved_left : (ends : List ServerEnd) → AreLeft ends ends
unmoved_left [] = tt
unmoved_left (end ∷ ends) = (inl refl, unmoved_left ends)

pub passed_left : (olds news : List ServerEnd) → ArePassed olds news → AreLeft olds news
passed_left [] [] passed = tt
passed_left [] (new ∷ news) passed = absurd passed
passed_left (old ∷ olds) [] passed = absurd passed
passed_left (old ∷ olds) (new ∷ news) passed = (inr passed.0, passed_left olds news passed.1)

passed_both : (a b olds news : List ServerEnd) → ArePassed a b → ArePassed olds news → ArePassed (a ++ olds) (b ++ news)
passed_both [] [] olds news first rest = rest
passed_both [] (y ∷ b) olds news first rest = absurd first
passed_both (x ∷ a) [] olds news first rest = absurd first
passed_both (x ∷ a) (y ∷ b) olds news first rest = (first.0, passed_both a b olds news first.1 rest)

left_both : (a b olds news : List ServerEnd) → AreLeft a b → AreLeft olds news → AreLeft (a ++ olds) (b ++ news)
left_both [] [] olds news first rest = rest
left_both [] (y ∷ b) olds news first rest = absurd first
left_both (x ∷ a) [] olds news first rest = absurd first
left_both (x ∷ a) (y ∷ b) olds news first rest = (first.0, left_both a b olds news first.1 rest)

pub left_many : (olds news : List ServerEnd) → AreLeft olds news → length news ≡ length olds
left_many [] [] left = refl
left_many [] (new ∷ news) left = absurd left
left_many (old ∷ olds) [] left = absurd left
left_many (old ∷ olds) (new ∷ news) left = ap suc (left_many olds news left.1)

module _ (Changes : ServerEnd → ServerEnd → Type 0) where
  -- one of the first of them changed
  changed_before : (place : ℕ) (a b olds news : List ServerEnd) → OneChanged Changes place a b → AreLeft olds news → OneChanged Changes place (a ++ olds) (b ++ news)
  changed_before zero [] b olds news one rest = absurd one
  changed_before zero (x ∷ a) [] olds news one rest = absurd one
  changed_before zero (x ∷ a) (y ∷ b) olds news one rest = (one.0, left_both a b olds news one.1 rest)
  changed_before (suc place) [] b olds news one rest = absurd one
  changed_before (suc place) (x ∷ a) [] olds news one rest = absurd one
  changed_before (suc place) (x ∷ a) (y ∷ b) olds news one rest = (one.0, changed_before place a b olds news one.1 rest)

  -- one behind them changed
  changed_behind : (place : ℕ) (a olds news : List ServerEnd) → OneChanged Changes place olds news → OneChanged Changes (place + length a) (a ++ olds) (a ++ news)
  changed_behind place [] olds news one = let none : place ≡ place + 0 = omega arith in subst (λ n. OneChanged Changes n olds news) none one
  changed_behind place (x ∷ a) olds news one =
      let next : suc (place + length a) ≡ place + suc (length a) = omega arith in
      subst (λ n. OneChanged Changes n (x ∷ a ++ olds) (x ∷ a ++ news)) next (inl refl, changed_behind place a olds news one)

  -- as many
  pub as_many : (place : ℕ) (olds news : List ServerEnd) → OneChanged Changes place olds news → length news ≡ length olds
  as_many zero [] news one = absurd one
  as_many zero (old ∷ olds) [] one = absurd one
  as_many zero (old ∷ olds) (new ∷ news) one = ap suc (left_many olds news one.1)
  as_many (suc place) [] news one = absurd one
  as_many (suc place) (old ∷ olds) [] one = absurd one
  as_many (suc place) (old ∷ olds) (new ∷ news) one = ap suc (as_many place olds news one.1)

  -- the end that changed
  pub record Subject (place : ℕ) (olds : List ServerEnd) : Type 0 where
    pub old : ServerEnd
    pub new : ServerEnd
    pub there : slice_get olds place ≡ Some old
    pub changed : Changes old new

  pub subject : (place : ℕ) (olds news : List ServerEnd) → OneChanged Changes place olds news → Subject place olds
  subject zero [] news one = absurd one
  subject zero (old ∷ olds) [] one = absurd one
  subject zero (old ∷ olds) (new ∷ news) one = record { old = old; new = new; there = refl; changed = one.0 }
  subject (suc place) [] news one = absurd one
  subject (suc place) (old ∷ olds) [] one = absurd one
  subject (suc place) (old ∷ olds) (new ∷ news) one =
      let its = subject place olds news one.1 in
      record { old = its.old; new = its.new; there = its.there; changed = its.changed }

-- ---- what is told of looks
-- the first end looked in vain, and then the others
pub one_behind : (found : Option Found) (old new : ServerEnd) (olds news : List ServerEnd) → IsPassed old new → HaveLooked found olds news → HaveLooked (moved 1 found) (old ∷ olds) (new ∷ news)
one_behind None old new olds news passed looked = (passed, looked)
one_behind (Some found) old new olds news passed looked =
    let next : suc found.place ≡ found.place + 1 = omega arith in
    subst (λ n. OneChanged (HasLookedUp (arrival_of found.news)) n (old ∷ olds) (new ∷ news)) next (inr passed, looked)

-- one of the last ends brought the news
pub found_behind : (found : Found) (a olds news : List ServerEnd) → HaveLooked (Some found) olds news → HaveLooked (moved (length a) (Some found)) (a ++ olds) (a ++ news)
found_behind found a olds news looked = changed_behind (HasLookedUp (arrival_of found.news)) found.place a olds news looked

-- none of them did, and then the first ones looked
pub looked_before : (found : Option Found) (a b olds news : List ServerEnd) → HaveLooked found a b → ArePassed olds news → HaveLooked found (a ++ olds) (b ++ news)
looked_before None a b olds news looked passed = passed_both a b olds news looked passed
looked_before (Some found) a b olds news looked passed = changed_before (HasLookedUp (arrival_of found.news)) found.place a b olds news looked (passed_left olds news passed)

-- ---- one end changed
module _ (c : ℕ) (change : ServerEnd → ServerEnd) where
  other : (first k : ℕ) (old new : ServerEnd) → (first + k ≡ c → ⊥) → Some new ≡ option_map (with_end c change (first + k)) (Some old) → new ≡ old
  other first k old new isnt same = by (eqb (first + k) c) refl (cc same)
    where
      by : (its : Bool) → eqb (first + k) c ≡ its → new ≡ cond its (change old) old → new ≡ old
      by true is h = absurd (isnt (eqb-true (first + k) c is))
      by false is h = h

  pub own_changed : (first : ℕ) (old new : ServerEnd) → first + 0 ≡ c → Some new ≡ option_map (with_end c change (first + 0)) (Some old) → new ≡ change old
  own_changed first old new is same =
      let h : new ≡ cond (eqb (first + 0) c) (change old) old = cc same in
      h ∙ ap (λ b. cond b (change old) old) (eq-eqb (first + 0) c is)

  -- of all behind the first
  abbrev ChangesFrom : ℕ → List ServerEnd → List ServerEnd → Type 0
  ChangesFrom first olds news = (k : ℕ) → slice_get news k ≡ option_map (with_end c change (first + k)) (slice_get olds k)

  later : (first : ℕ) (old new : ServerEnd) (olds news : List ServerEnd) → ChangesFrom first (old ∷ olds) (new ∷ news) → ChangesFrom (suc first) olds news
  later first old new olds news same k =
      let next : first + suc k ≡ suc first + k = omega arith in
      subst (λ n. slice_get news k ≡ option_map (with_end c change n) (slice_get olds k)) next (same (suc k))

  others_left : (first : ℕ) (olds news : List ServerEnd) → c < first → ChangesFrom first olds news → AreLeft olds news
  others_left first [] [] low same = tt
  others_left first [] (new ∷ news) low same = let h = same 0 in absurd (cc h)
  others_left first (old ∷ olds) [] low same = let h = same 0 in absurd (cc h)
  others_left first (old ∷ olds) (new ∷ news) low same =
      (inl (other first 0 old new (λ is. omega (arith, low, is)) (same 0)), others_left (suc first) olds news (omega (arith, low)) (later first old new olds news same))

  pub one_changed : (place first : ℕ) (olds news : List ServerEnd) → c ≡ first + place → place < length olds → ChangesFrom first olds news → OneChanged (λ old new. new ≡ change old) place olds news
  one_changed zero first [] news its within same = absurd (omega (arith, within))
  one_changed zero first (old ∷ olds) [] its within same = let h = same 0 in absurd (cc h)
  one_changed zero first (old ∷ olds) (new ∷ news) its within same =
      (own_changed first old new (sym its) (same 0), others_left (suc first) olds news (omega (arith, its)) (later first old new olds news same))
  one_changed (suc place) first [] news its within same = absurd (omega (arith, within))
  one_changed (suc place) first (old ∷ olds) [] its within same = let h = same 0 in absurd (cc h)
  one_changed (suc place) first (old ∷ olds) (new ∷ news) its within same = (
    inl (other first 0 old new (λ is. omega (arith, its, is)) (same 0)),
    one_changed place (suc first) olds news (omega (arith, its)) (omega (arith, within)) (later first old new olds news same),
  )
