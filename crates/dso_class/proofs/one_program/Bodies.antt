-- Lists side by side with one list are one, and so are bodies whose threads are counted.
use Rattle.std.proofs.Common.{ℕ, zero, suc, ◌≡◌, refl, sym, ap, ap₂, ◌∙◌, eqb, Some, List, [], ◌∷◌, take, slice_get, All}
use Rattle.std.specs.List.{AllZip}
use Rattle.std.proofs.lemmas.List.Elements.{All-head, All-tail}
use Rattle.dso_base.specs.declared.lock.ThreadId.{ThreadId}
use Rattle.dso_machine.specs.declared.code.ThreadBody.{ThreadBody}
use Rattle.dso_class.specs.TextProgram.{AreCounted}
use Rattle.dso_class.proofs.one_program.ExpressionCode.{of_three}
use Rattle.dso_class.proofs.lists.SideBySide.{zip_count}

-- where two are beside one, a relation between them holds of all
pub zip_both : {A B : Type 0} (R : A → B → Type 0) (P : A → Type 0) (S : B → B → Type 0) → ((x : A) (y z : B) → P x → R x y → R x z → S y z)
    → (xs : List A) (ys zs : List B) → All P xs → AllZip R xs ys → AllZip R xs zs → AllZip S ys zs
zip_both R P S one [] [] [] all both too = tt
zip_both R P S one [] [] (z ∷ zs) all both too = absurd too
zip_both R P S one [] (y ∷ ys) zs all both too = absurd both
zip_both R P S one (x ∷ xs) [] zs all both too = absurd both
zip_both R P S one (x ∷ xs) (y ∷ ys) [] all both too = absurd too
zip_both R P S one (x ∷ xs) (y ∷ ys) (z ∷ zs) all both too =
    (one x y z (All-head P x xs all) both.0 too.0, zip_both R P S one xs ys zs (All-tail P x xs all) both.1 too.1)

-- lists whose items are one, one by one, are one
pub zip_same : {A : Type 0} (xs ys : List A) → AllZip (λ x y. x ≡ y) xs ys → xs ≡ ys
zip_same [] [] both = refl
zip_same [] (y ∷ ys) both = absurd both
zip_same (x ∷ xs) [] both = absurd both
zip_same (x ∷ xs) (y ∷ ys) both = ap₂ (λ z zs. z ∷ zs) both.0 (zip_same xs ys both.1)

-- lists beside one list are one where the items beside each item are
pub one_zip : {A B : Type 0} (R : A → B → Type 0) (P : A → Type 0) → ((x : A) (y z : B) → P x → R x y → R x z → y ≡ z)
    → (xs : List A) (ys zs : List B) → All P xs → AllZip R xs ys → AllZip R xs zs → ys ≡ zs
one_zip R P one xs ys zs all both too = zip_same ys zs (zip_both R P (λ y z. y ≡ z) one xs ys zs all both too)

-- the front of two lists
zip_front : {A B : Type 0} (R : A → B → Type 0) (k : ℕ) (xs : List A) (ys : List B) → AllZip R xs ys → AllZip R (take k xs) (take k ys)
zip_front R zero xs ys both = tt
zip_front R (suc k) [] [] both = tt
zip_front R (suc k) [] (y ∷ ys) both = absurd both
zip_front R (suc k) (x ∷ xs) [] both = absurd both
zip_front R (suc k) (x ∷ xs) (y ∷ ys) both = (both.0, zip_front R k xs ys both.1)

-- lists with the same item at each place are one
same_places : {A : Type 0} (R : A → A → Type 0) (xs ys : List A) → AllZip R xs ys → ((k : ℕ) (x y : A) → slice_get xs k ≡ Some x → slice_get ys k ≡ Some y → R x y → x ≡ y) → xs ≡ ys
same_places R [] [] both same = refl
same_places R [] (y ∷ ys) both same = absurd both
same_places R (x ∷ xs) [] both same = absurd both
same_places R (x ∷ xs) (y ∷ ys) both same =
    ap₂ (λ z zs. z ∷ zs) (same 0 x y refl refl both.0) (same_places R xs ys both.1 (λ k. same (suc k)))

-- Two bodies are of one client and have the same statements.
pub record AreAlike (body other : ThreadBody) : Type 0 where
  pub client : body.thread.client ≡ other.thread.client
  pub vars : body.vars ≡ other.vars
  pub statements : body.body ≡ other.body

-- bodies of one thread with the same statements are one
one_body_of : (body other : ThreadBody) → AreAlike body other → body.thread.index ≡ other.thread.index → body ≡ other
one_body_of body other alike index =
    let thread : body.thread ≡ other.thread = ap₂ {C = ThreadId} (λ client index. record { client = client; index = index }) alike.client index in
    of_three {D = ThreadBody} (λ thread vars statements. record { thread = thread; vars = vars; body = statements }) thread alike.vars alike.statements

-- bodies that are alike one by one, with their threads counted, are one
pub one_bodies : (bodies others : List ThreadBody) → AllZip AreAlike bodies others → AreCounted bodies → AreCounted others → bodies ≡ others
one_bodies bodies others both counted too =
    same_places AreAlike bodies others both
    (λ k body other here there alike.
    let before =
    zip_count AreAlike (λ one. eqb one.thread.client body.thread.client) (λ one. eqb one.thread.client other.thread.client)
    (λ one beside are. ap₂ eqb are.client alike.client) (take k bodies) (take k others) (zip_front AreAlike k bodies others both) in
    one_body_of body other alike (counted k body here ∙ ap suc before ∙ sym (too k other there)))
