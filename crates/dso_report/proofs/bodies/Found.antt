-- A body is found at the place that its object has among the objects of the bodies, and what is found is one of them.
use Rattle.std.proofs.Common.{◌≡◌, refl, sym, ap, ◌∙◌, inl, inr, ℕ, Bool, true, false, true≢false, cond, ◌+◌, ◌<◌, ◌^◌, ◌≤◌, nat_lt, get_or, Bor, Option, Some, None, List, [], ◌∷◌, length, map, slice_get, arith, All, Contains}
use Rattle.std.specs.List.{HoldsAt, position, position_or_len}
use Rattle.std.specs.Option.{IfSome, MatchOption, option_and_then, option_copied}
use Rattle.std.specs.Prelude.{eqb, not}
use Rattle.std.proofs.lemmas.Bool.{cases_lt, eqb-true, lt-ltb}
use Rattle.std.proofs.lemmas.List.{length-map}
use Rattle.std.proofs.lemmas.List.Elements.{All-contains, Contains-append_right}
use Rattle.std.proofs.lemmas.List.Folds.{find_at}
use Rattle.std.proofs.lemmas.Option.{none-some, same_Some, slice_get_past, slice_get_read}
use Rattle.dso_base.specs.declared.record.Body.{Body}
use Rattle.dso_report.specs.BodyGraph.{body_in}

-- the objects of bodies
abbrev pub objects_in : List Body → List ℕ
objects_in bodies = map (λ (body : Body). body.object) bodies

-- the first that has the object stands where the object first stands among theirs
place_of_object : (bodies : List Body) (o : ℕ) → position_or_len (eqb o) (objects_in bodies) ≡ position_or_len (λ (body : Body). eqb o body.object) bodies
place_of_object [] o = refl
place_of_object (body ∷ bodies) o = ap (λ n. cond (not (eqb o body.object)) (1 + n) 0) (place_of_object bodies o)

-- what stands at a place, if it is within
at_place : (bodies : List Body) (n : ℕ) (b : Bool) → nat_lt n (length (objects_in bodies)) ≡ b → option_and_then (slice_get bodies) (cond b (Some n) None) ≡ slice_get bodies n
at_place bodies n true is = refl
at_place bodies n false is = elim (cases_lt n (length (objects_in bodies))) [
  | inl less ↦ absurd (true≢false (sym (lt-ltb n (length (objects_in bodies)) less) ∙ is))
  | inr past ↦ sym (slice_get_past bodies n (omega (arith, past, length-map bodies (λ (body : Body). body.object))))
]

-- the body of an object is what stands at the object's place
pub found : (bodies : List Body) (objects : List ℕ) (o : ℕ) → objects ≡ objects_in bodies → option_and_then (slice_get bodies) (position (eqb o) objects) ≡ body_in bodies o
found bodies objects o are =
    let n = position_or_len (eqb o) (objects_in bodies) in
    ap (λ os. option_and_then (slice_get bodies) (position (eqb o) os)) are ∙ at_place bodies n (nat_lt n (length (objects_in bodies))) refl
    ∙ ap (slice_get bodies) (place_of_object bodies o) ∙ sym (find_at (λ (body : Body). eqb o body.object) bodies)

-- what a slice answers at a place is what stands there
pub looked_up : (bodies : List Body) (n : ℕ) (r : Option (Bor Body)) → IfSome r (λ (x : Bor Body). x.now ≡ get_or bodies n x.now) → MatchOption r (length bodies ≤ n) (λ (x : Bor Body). (n < length bodies) × HoldsAt (λ (y : Body). x.now ≡ y) bodies n) → option_copied r ≡ slice_get bodies n
looked_up bodies n None same at = sym (slice_get_past bodies n at)
looked_up bodies n (Some x) same at = sym (slice_get_read bodies (length bodies) n x.now refl at.0 same)

-- ---- what is found

-- a body that is found is one of them, and of the object
pub record IsOf (bodies : List Body) (o : ℕ) (body : Body) : Type 0 where
  pub among : Contains bodies body
  pub object : o ≡ body.object

-- what is found is the first, or else one of the others
found_first : (first : Body) (rest : List Body) (o : ℕ) (body : Body) (b : Bool) → eqb o first.object ≡ b → (body_in rest o ≡ Some body → IsOf rest o body) → cond b (Some first) (body_in rest o) ≡ Some body → IsOf (first ∷ rest) o body
found_first first rest o body true test others is =
    let same : first ≡ body = same_Some first body is in
    record { among = (0, omega arith, same); object = eqb-true o first.object test ∙ ap (λ (b : Body). b.object) same }
found_first first rest o body false test others is =
    let there = others is in
    record { among = Contains-append_right (first ∷ []) rest body there.among; object = there.object }

-- a body that is found is one of them, and of the object
pub found_is_of : (bodies : List Body) (o : ℕ) (body : Body) → body_in bodies o ≡ Some body → IsOf bodies o body
found_is_of [] o body is = absurd (none-some body is)
found_is_of (first ∷ rest) o body is = found_first first rest o body (eqb o first.object) refl (found_is_of rest o body) is

-- a body that is found has no more values than can be counted, where none of them has
pub counted_found : (bodies : List Body) (o : ℕ) (body : Body) → All (λ (b : Body). length b.values < 2 ^ 32) bodies → body_in bodies o ≡ Some body → length body.values < 2 ^ 32
counted_found bodies o body counted is = All-contains (λ (b : Body). length b.values < 2 ^ 32) bodies body counted (found_is_of bodies o body is).among
