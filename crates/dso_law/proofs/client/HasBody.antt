-- Whether an object is among bodies.
use Rattle.std.proofs.Common.{ℕ, ◌≡◌, refl, ◌∙◌, ap, Bool, true, false, cond, eqb, ◌||◌, is_some, Option, Some, List, [], ◌∷◌}
use Rattle.dso_base.specs.declared.record.Body.{Body}
use Rattle.dso_base.specs.Block.{body_in}
use Rattle.dso_law.specs.Copies.{is_among}

-- the first body is of it, or one behind
found_here : (b : Bool) (body : Body) (rest : Option Body) → is_some (cond b (Some body) rest) ≡ (b || is_some rest)
found_here true body rest = refl
found_here false body rest = refl

-- a body is found exactly where one is of the object
pub found_among : (o : ℕ) (bodies : List Body) → is_some (body_in o bodies) ≡ is_among o bodies
found_among o [] = refl
found_among o (body ∷ bodies) = found_here (eqb body.object o) body (body_in o bodies) ∙ ap (λ rest. eqb body.object o || rest) (found_among o bodies)
