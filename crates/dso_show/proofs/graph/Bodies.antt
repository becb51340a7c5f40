-- The bodies of the objects listed are the graph of a program, and no more than the graph.
use Rattle.std.proofs.Common.{ℕ, ◌≡◌, ◌≢◌, ◌<◌, ◌↔◌, ◌||◌, refl, sym, ◌∙◌, ap, subst, Bool, true, false, cond, eqb, is_some, List, [], ◌∷◌, length, map, option_map, Option, Some, None, All}
use Rattle.std.specs.List.{AllByRecursion}
use Rattle.std.specs.Option.{IfSome}
use Rattle.std.proofs.Math.Path.{fun_ext}
use Rattle.std.proofs.lemmas.Bool.{eqb-true}
use Rattle.std.proofs.lemmas.List.Elements.{All-from_recursion}
use Rattle.dso_base.specs.declared.record.Body.{Body}
use Rattle.dso_base.specs.declared.shape.Shape.{Shape}
use Rattle.dso_base.specs.declared.value.ClassId.{ClassId}
use Rattle.dso_base.specs.declared.value.ClassId.TheVariants as class
use Rattle.dso_base.specs.declared.value.Value.{Value}
use Rattle.dso_base.specs.declared.value.Value.TheVariants as value
use Rattle.dso_class.specs.declared.program.Program.{Program}
use Rattle.dso_class.specs.Sound.{IsSoundProgram}
use Rattle.dso_law.specs.FitsDown as law
use Rattle.dso_keep.proofs.lists.Telling.{some_there}
use Rattle.dso_report.specs.BodyGraph.{HasSize, IsGraphOf, body_in, object_of_body, state_of_bodies}
use Rattle.dso_report.specs.WholeState.{NamesWhatIsThere}
use Rattle.dso_show.specs.Published.{objects_of}
use Rattle.dso_show.proofs.graph.Listed.{IsBodyOf, IsListed, Names}
use Rattle.dso_show.proofs.graph.Objects.{Once, differ, is_listed}

-- ---- bodies that are found for objects

module _ (shape : Shape) (all : List ℕ) (find : ℕ → Option Body) (each : (o : ℕ) → IfSome (find o) (IsBodyOf shape all o)) where
  body_found : (o : ℕ) (body : Body) → Some body ≡ find o → IsBodyOf shape all o body
  body_found o body is = subst (λ found. IfSome found (IsBodyOf shape all o)) (sym is) (each o)

  -- they are of these objects
  objects_are : (bodies : List Body) (objects : List ℕ) → map Some bodies ≡ map find objects → objects_of bodies ≡ objects
  objects_are [] [] are = refl
  objects_are [] (o ∷ objects) are = absurd (cc are)
  objects_are (body ∷ bodies) [] are = absurd (cc are)
  objects_are (body ∷ bodies) (o ∷ objects) are =
      let first : Some body ≡ find o = cc are in
      let rest : map Some bodies ≡ map find objects = cc are in
      ap (λ x. x ∷ objects_of bodies) (body_found o body first).object ∙ ap (λ (l : List ℕ). o ∷ l) (objects_are bodies objects rest)

  -- each is its object's
  bodies_are : (bodies : List Body) (objects : List ℕ) → map Some bodies ≡ map find objects → AllByRecursion (λ (body : Body). IsBodyOf shape all body.object body) bodies
  bodies_are [] objects are = tt
  bodies_are (body ∷ bodies) [] are = absurd (cc are)
  bodies_are (body ∷ bodies) (o ∷ objects) are =
      let first : Some body ≡ find o = cc are in
      let rest : map Some bodies ≡ map find objects = cc are in
      let is = body_found o body first in
      (subst (λ n. IsBodyOf shape all n body) (sym is.object) is, bodies_are bodies objects rest)

  -- the body of an object that is listed is the one that is found
  found_listed : (o : ℕ) (bodies : List Body) (objects : List ℕ) → map Some bodies ≡ map find objects → body_in bodies o ≡ cond (is_listed o objects) (find o) None
  found_listed o [] [] are = refl
  found_listed o [] (x ∷ objects) are = absurd (cc are)
  found_listed o (body ∷ bodies) [] are = absurd (cc are)
  found_listed o (body ∷ bodies) (x ∷ objects) are =
      let first : Some body ≡ find x = cc are in
      let rest : map Some bodies ≡ map find objects = cc are in
      ap (λ n. cond (eqb o n) (Some body) (body_in bodies o)) (body_found x body first).object
      ∙ by (eqb o x) refl first (found_listed o bodies objects rest)
    where
      by : (b : Bool) → eqb o x ≡ b → Some body ≡ find x → body_in bodies o ≡ cond (is_listed o objects) (find o) None
          → cond b (Some body) (body_in bodies o) ≡ cond (b || is_listed o objects) (find o) None
      by true is first rest = first ∙ ap find (sym (eqb-true o x is))
      by false is first rest = rest

-- ---- the bodies of all objects

module _ (p : Program) (sound : IsSoundProgram p) (objects : List ℕ) (find : ℕ → Option Body) (bodies : List Body)
    (listed : IsListed p.code.shape (0 ∷ objects) find) (are : map Some bodies ≡ map find (0 ∷ objects)) where
  there_or_not : (found : Option Body) → cond (is_some found) found None ≡ found
  there_or_not None = refl
  there_or_not (Some body) = refl

  found : (o : ℕ) → body_in bodies o ≡ find o
  found o =
      found_listed p.code.shape (0 ∷ objects) find listed.each o bodies (0 ∷ objects) are
      ∙ ap (λ b. cond b (find o) None) (sym (listed.there o)) ∙ there_or_not (find o)

  -- the graph has their bodies and no more
  pub all_found : body_in bodies ≡ find
  all_found = fun_ext found

  -- an object listed has a body among them
  has_body : (o : ℕ) → is_listed o (0 ∷ objects) ≡ true → is_some (body_in bodies o) ≡ true
  has_body o is = ap is_some (found o) ∙ listed.there o ∙ is

  mapped : (body : Option Body) → is_some body ≡ true → option_map object_of_body body ≢ None
  mapped None there none = absurd (cc there)
  mapped (Some body) there none = absurd (cc none)

  value_named : (v : Value) → Names p.code.shape (0 ∷ objects) v → NamesWhatIsThere p.names (state_of_bodies bodies) v
  value_named (value.Ref o) names = (names.0, mapped (body_in bodies o) (has_body o names.1))
  value_named (value.Text t) names = subst (λ n. t < n) (sym sound.names.texts) names
  value_named (value.Long n) names = tt
  value_named (value.Bool b) names = tt
  value_named value.Null names = tt

  values_named : (vs : List Value) → AllByRecursion (Names p.code.shape (0 ∷ objects)) vs → AllByRecursion (NamesWhatIsThere p.names (state_of_bodies bodies)) vs
  values_named [] names = tt
  values_named (v ∷ vs) names = (value_named v names.0, values_named vs names.1)

  sized : (c : ClassId) (n : ℕ) → law.HasSize p.code.shape c n → HasSize p.code.shape c n
  sized (class.Plain number) n size = size
  sized (class.Array kind) n size = size
  sized class.Roots n size = size

  -- what holds of each object's body holds of each of the bodies
  of_each : (P : Body → Type 0) → ((body : Body) → IsBodyOf p.code.shape (0 ∷ objects) body.object body → P body) → All P bodies
  of_each P holds = All-from_recursion P bodies (by bodies (bodies_are p.code.shape (0 ∷ objects) find listed.each bodies (0 ∷ objects) are))
    where
      by : (some : List Body) → AllByRecursion (λ (body : Body). IsBodyOf p.code.shape (0 ∷ objects) body.object body) some → AllByRecursion P some
      by [] each = tt
      by (body ∷ some) each = (holds body each.0, by some each.1)

  -- so they are a graph of the program
  pub bodies_are_graph : IsGraphOf p bodies
  bodies_are_graph = record {
    differ = differ bodies (subst Once (sym (objects_are p.code.shape (0 ∷ objects) find listed.each bodies (0 ∷ objects) are)) listed.once);
    roots = some_there (body_in bodies 0) (has_body 0 refl);
    classes = of_each (λ body. (body.class ≡ class.Roots) ↔ (body.object ≡ 0)) (λ body is. is.class);
    sizes = of_each (λ body. HasSize p.code.shape body.class (length body.values)) (λ body is. sized body.class (length body.values) is.shaped.0);
    named = of_each (λ body. All (NamesWhatIsThere p.names (state_of_bodies bodies)) body.values)
        (λ body is. All-from_recursion (NamesWhatIsThere p.names (state_of_bodies bodies)) body.values (values_named body.values is.named));
  }
