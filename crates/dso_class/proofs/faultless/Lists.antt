-- What is declared one after the other: each is new, and there are not too many.
use Rattle.std.proofs.Common.{◌≡◌, ◌≢◌, refl, sym, ap, subst, subst₂, ℕ, ◌+◌, ◌<◌, ◌≤◌, arith, Bool, true, false, List, [], ◌∷◌, map, length, Option, Some, None, All, AllPairs, Contains, lt_of_not-le}
use Rattle.std.specs.List.{cons_option}
use Rattle.std.proofs.lemmas.List.{length-map}
use Rattle.std.proofs.Math.ListN.{get_or-map}
use Rattle.std.proofs.lemmas.List.Elements.{All-nil, All-cons, Contains-append_right}
use Rattle.std.proofs.lemmas.List.Kept.{AllPairs-cons}
use Rattle.dso_config.specs.declared.config.Config.{Config}
use Rattle.dso_syntax.specs.declared.tree.Ast.{Ast}
use Rattle.dso_class.specs.Mentions.{Mention, Mentioned}
use Rattle.dso_class.specs.PrecedingMentions.{in_text}
use Rattle.dso_class.specs.FaultsAmong.{IsFine, AreFine}
use Rattle.dso_class.proofs.mentions.OnlyUses.{MentionsPass, first_passes, rest_pass, in_part, part_goes_on}

-- each thing is none of those before it
abbrev pub AreNew : {A : Type 0} → List A → List A → Type 0
AreNew seen [] = Unit {0}
AreNew seen (x ∷ rest) = (Contains seen x → ⊥) × AreNew (x ∷ seen) rest

-- before each thing there are less than so many
abbrev pub AreFew : {A : Type 0} → ℕ → List A → List A → Type 0
AreFew most seen [] = Unit {0}
AreFew most seen (x ∷ rest) = (most ≤ length seen → ⊥) × AreFew most (x ∷ seen) rest

-- what was seen differs from all that is new
pub apart : {A : Type 0} (seen xs : List A) (x : A) → Contains seen x → AreNew seen xs → All (λ y. x ≢ y) xs
apart seen [] x there new = All-nil (λ y. x ≢ y)
apart seen (y ∷ rest) x there new =
    All-cons (λ z. x ≢ z) y rest (λ same. new.0 (subst (Contains seen) same there)) (apart (y ∷ seen) rest x (Contains-append_right (y ∷ []) seen x there) new.1)

-- things that are new differ
pub new_differ : {A : Type 0} (seen xs : List A) → AreNew seen xs → AllPairs (λ x y. x ≢ y) xs
new_differ seen [] new = λ i j d before below. absurd (omega (arith, below))
new_differ seen (x ∷ rest) new =
    AllPairs-cons (λ y z. y ≢ z) x rest (apart (x ∷ seen) rest x (0, omega arith, refl) new.1) (new_differ (x ∷ seen) rest new.1)

-- there are no more than so many
pub few : {A : Type 0} (most : ℕ) (seen xs : List A) → length seen ≤ most → AreFew most seen xs → length seen + length xs ≤ most
few most seen [] below all = omega (arith, below)
few most seen (x ∷ rest) below all =
    let later : length (x ∷ seen) + length rest ≤ most = few most (x ∷ seen) rest (lt_of_not-le all.0) all.1 in
    omega (arith, later)

-- pairs of what f gives
pub pairs_of_map : {A B : Type 0} (R : B → B → Type 0) (f : A → B) (xs : List A) → AllPairs R (map f xs) → AllPairs (λ x y. R (f x) (f y)) xs
pairs_of_map R f xs pairs = λ i j d before below.
    subst₂ R (get_or-map f xs i d) (get_or-map f xs j d) (pairs i j (f d) before (subst (λ n. j < n) (sym (length-map xs f)) below))

-- one thing more, or none
new_more : {A : Type 0} (seen later : List A) (found : Option A) (rest : List A) → later ≡ cons_option found seen → ((x : A) → found ≡ Some x → Contains seen x → ⊥) → AreNew later rest → AreNew seen (cons_option found rest)
new_more seen later None rest is fresh new = subst (λ s. AreNew s rest) is new
new_more seen later (Some x) rest is fresh new = (fresh x refl, subst (λ s. AreNew s rest) is new)

few_more : {A : Type 0} (most : ℕ) (seen later : List A) (found : Option A) (rest : List A) → later ≡ cons_option found seen → ((x : A) → found ≡ Some x → most ≤ length seen → ⊥) → AreFew most later rest → AreFew most seen (cons_option found rest)
few_more most seen later None rest is room all = subst (λ s. AreFew most s rest) is all
few_more most seen later (Some x) rest is room all = (room x refl, subst (λ s. AreFew most s rest) is all)

-- what mentions declare of a sort, where `seen` is what was declared of it so far
module _ (config : Config) (ast : Ast) {A : Type 0} (sort : Mentioned → Option A) (seen : List Mention → List A) (test : Mentioned → Bool)
    (grows : (m : Mention) (before : List Mention) → test m.what ≡ true → seen (m ∷ before) ≡ cons_option (sort m.what) (seen before)) where
  -- all of it is new where a rule says so
  pub all_new : ((before : List Mention) (here : Mentioned) (x : A) → IsFine config ast before here → sort here ≡ Some x → Contains (seen before) x → ⊥)
      → (ms before : List Mention) → MentionsPass test ms → AreFine config ast before ms → AreNew (seen before) (in_text sort ms)
  all_new rule [] before each fine = tt
  all_new rule (m ∷ rest) before each fine =
      new_more (seen before) (seen (m ∷ before)) (sort m.what) (in_text sort rest) (grows m before (first_passes test m rest each)) (λ x. rule before m.what x fine.0) (all_new rule rest (m ∷ before) (rest_pass test m rest each) fine.1)

  -- there is not too much of it where a rule says so
  pub all_few : (most : ℕ) → ((before : List Mention) (here : Mentioned) (x : A) → IsFine config ast before here → sort here ≡ Some x → most ≤ length (seen before) → ⊥)
      → (ms before : List Mention) → MentionsPass test ms → AreFine config ast before ms → AreFew most (seen before) (in_text sort ms)
  all_few most rule [] before each fine = tt
  all_few most rule (m ∷ rest) before each fine =
      few_more most (seen before) (seen (m ∷ before)) (sort m.what) (in_text sort rest) (grows m before (first_passes test m rest each)) (λ x. rule before m.what x fine.0) (all_few most rule rest (m ∷ before) (rest_pass test m rest each) fine.1)

-- what holds of one thing more, or of none
each_more : {A : Type 0} (P : A → Type 0) (found : Option A) (rest : List A) → ((x : A) → found ≡ Some x → P x) → All P rest → All P (cons_option found rest)
each_more P None rest here all = all
each_more P (Some x) rest here all = All-cons P x rest (here x refl) all

-- what is mentioned of a sort is so where a rule says it of each
each_so : (config : Config) (ast : Ast) {A : Type 0} (sort : Mentioned → Option A) (P : A → Type 0) → ((before : List Mention) (here : Mentioned) (x : A) → IsFine config ast before here → sort here ≡ Some x → P x)
    → (ms before : List Mention) → AreFine config ast before ms → All P (in_text sort ms)
each_so config ast sort P rule [] before fine = All-nil P
each_so config ast sort P rule (m ∷ rest) before fine =
    each_more P (sort m.what) (in_text sort rest) (λ x. rule before m.what x fine.0) (each_so config ast sort P rule rest (m ∷ before) fine.1)

-- a part's mentions grow where no part begins
pub part_more : {A : Type 0} (sort : Mentioned → Option A) (begins : Mentioned → Bool) (m : Mention) (before : List Mention) → begins m.what ≡ false
    → in_text sort (in_part begins (m ∷ before)) ≡ cons_option (sort m.what) (in_text sort (in_part begins before))
part_more sort begins m before goes = ap (in_text sort) (part_goes_on begins m before goes)

-- all mentions pass the test that passes all
each_any : (ms : List Mention) → MentionsPass (λ what. true) ms
each_any [] = refl
each_any (m ∷ rest) = each_any rest

-- what a whole text mentions of a sort differs, is not too much, and is so where a rule says it of each
module _ (config : Config) (ast : Ast) {A : Type 0} (sort : Mentioned → Option A) (ms : List Mention) (fine : AreFine config ast [] ms) where
  pub text_differs : ((before : List Mention) (here : Mentioned) (x : A) → IsFine config ast before here → sort here ≡ Some x → Contains (in_text sort before) x → ⊥)
      → AllPairs (λ x y. x ≢ y) (in_text sort ms)
  text_differs rule =
      new_differ [] (in_text sort ms) (all_new config ast sort (in_text sort) (λ what. true) (λ m before is. refl) rule ms [] (each_any ms) fine)

  pub text_each : (P : A → Type 0) → ((before : List Mention) (here : Mentioned) (x : A) → IsFine config ast before here → sort here ≡ Some x → P x) → All P (in_text sort ms)
  text_each P rule = each_so config ast sort P rule ms [] fine

  pub text_few : (most : ℕ) → ((before : List Mention) (here : Mentioned) (x : A) → IsFine config ast before here → sort here ≡ Some x → most ≤ length (in_text sort before) → ⊥)
      → length (in_text sort ms) ≤ most
  text_few most rule =
      let all = few most [] (in_text sort ms) (omega arith) (all_few config ast sort (in_text sort) (λ what. true) (λ m before is. refl) most rule ms [] (each_any ms) fine) in
      omega (arith, all)

-- what a part mentions of a sort from its beginning on differs, and is not too much
module _ (config : Config) (ast : Ast) {A : Type 0} (sort : Mentioned → Option A) (begins test : Mentioned → Bool) (goes : (what : Mentioned) → test what ≡ true → begins what ≡ false)
    (ms before : List Mention) (start : in_part begins before ≡ []) (each : MentionsPass test ms) (fine : AreFine config ast before ms) where
  pub part_differs : ((before : List Mention) (here : Mentioned) (x : A) → IsFine config ast before here → sort here ≡ Some x → Contains (in_text sort (in_part begins before)) x → ⊥)
      → AllPairs (λ x y. x ≢ y) (in_text sort ms)
  part_differs rule =
      new_differ (in_text sort (in_part begins before)) (in_text sort ms)
      (all_new config ast sort (λ before. in_text sort (in_part begins before)) test (λ m before is. part_more sort begins m before (goes m.what is)) rule ms before each fine)

  pub part_few : (most : ℕ) → ((before : List Mention) (here : Mentioned) (x : A) → IsFine config ast before here → sort here ≡ Some x → most ≤ length (in_text sort (in_part begins before)) → ⊥)
      → length (in_text sort ms) ≤ most
  part_few most rule =
      let none : length (in_text sort (in_part begins before)) ≡ 0 = ap (λ part. length (in_text sort part)) start in
      let all = few most (in_text sort (in_part begins before)) (in_text sort ms) (omega (arith, none))
      (all_few config ast sort (λ before. in_text sort (in_part begins before)) test (λ m before is. part_more sort begins m before (goes m.what is)) most rule ms before each fine) in
      omega (arith, all)
