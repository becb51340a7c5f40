-- The objects of different bodies, listed one after the other.
use Rattle.std.proofs.Common.{◌≡◌, ◌≢◌, refl, sym, ap, ◌∙◌, ℕ, Bool, true, false, cond, ◌<◌, ◌+◌, List, [], ◌∷◌, ◌++◌, length, take, get_or, arith, add-one, AllPairs}
use Rattle.std.specs.List.{list_any}
use Rattle.std.specs.Prelude.{eqb}
use Rattle.std.proofs.Math.Seq.{take-suc}
use Rattle.std.proofs.lemmas.Bool.{eqb-true}
use Rattle.std.proofs.lemmas.List.{get_or-map, get_or-take, length-map, length-take, map-append}
use Rattle.std.proofs.lemmas.Map.Views.{Contains-from_any}
use Rattle.dso_base.specs.declared.record.Body.{Body}
use Rattle.dso_report.specs.Numbering.{add_object}
use Rattle.dso_report.proofs.bodies.Found.{objects_in}

-- the bodies are of different objects
abbrev pub Differ : List Body → Type 0
Differ bodies = AllPairs (λ (body other : Body). body.object ≢ other.object) bodies

module _ (bodies : List Body) (differ : Differ bodies) (i : ℕ) (d : Body) (within : i < length bodies) where
  -- no body before has the object
  not_before : (k : ℕ) → k < i → get_or (objects_in (take i bodies)) k (get_or bodies i d).object ≢ (get_or bodies i d).object
  not_before k before same =
      let object = λ (body : Body). body.object in
      let there : k < length (take i bodies) = omega (arith, before, within, length-take i bodies) in
      let is = get_or-map object (take i bodies) k d (get_or bodies i d).object there in
      differ k i d before within (sym (ap object (get_or-take i bodies k d before)) ∙ sym is ∙ same)

  -- so the object isn't listed yet
  pub not_listed : (b : Bool) → list_any (eqb (get_or bodies i d).object) (objects_in (take i bodies)) ≡ b → b ≡ false
  not_listed false is = refl
  not_listed true is =
      let there = Contains-from_any eqb-true (get_or bodies i d).object (objects_in (take i bodies)) is in
      absurd (not_before there.0 (omega (arith, there.1, within, length-map (take i bodies) (λ (body : Body). body.object), length-take i bodies)) there.2)

  -- the objects of one body more
  listed_more : (old new : List ℕ) → old ≡ objects_in (take i bodies) → new ≡ add_object old (get_or bodies i d).object → new ≡ objects_in (take (i + 1) bodies)
  listed_more old new so is =
      let object = λ (body : Body). body.object in
      let o = (get_or bodies i d).object in
      let before = objects_in (take i bodies) in
      is ∙ ap (λ os. add_object os o) so
      ∙ ap (λ b. cond b before (before ++ o ∷ [])) (not_listed (list_any (eqb o) before) refl)
      ∙ sym (map-append object (take i bodies) (get_or bodies i d ∷ []))
      ∙ ap objects_in (sym (take-suc bodies i d within)) ∙ ap (λ n. objects_in (take n bodies)) (sym (add-one i))

-- the objects of bodies with that of the next one
pub listed_next : (bodies : List Body) (i : ℕ) (body : Body) (old new : List ℕ) → Differ bodies → i < length bodies → body ≡ get_or bodies i body → old ≡ objects_in (take i bodies) → new ≡ add_object old body.object → new ≡ objects_in (take (i + 1) bodies)
listed_next bodies i body old new differ within is so added =
    listed_more bodies differ i body within old new so (added ∙ ap (λ (b : Body). add_object old b.object) is)
