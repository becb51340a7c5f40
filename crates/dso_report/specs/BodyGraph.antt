-- The graph that a table of bodies is: the state that it stands for, and what a program's graph has.
use Rattle.std.specs.Prelude.{ℕ, ◌≡◌, ◌≢◌, ◌↔◌, eqb, Option, None, List, length, slice_get, All, AllPairs}
use Rattle.std.specs.List.{find}
use Rattle.std.specs.Option.{option_and_then, option_map}
use Rattle.dso_base.specs.declared.record.Body.{Body}
use Rattle.dso_base.specs.declared.value.ClassId.{ClassId}
use Rattle.dso_base.specs.declared.value.ClassId.TheVariants as class
use Rattle.dso_base.specs.declared.shape.Shape.{Shape}
use Rattle.dso_class.specs.declared.program.Program.{Program}
use Rattle.dso_plain.specs.HeapTables.{blank}
use Rattle.dso_plain.specs.Possible.{CanBeMade}
use Rattle.dso_plain.specs.State.{Object, PlainState}
use Rattle.dso_report.specs.WholeState.{NamesWhatIsThere}

-- the body of an object, if it is among them
abbrev pub body_in : List Body → ℕ → Option Body
body_in bodies o = find (λ body. eqb o body.object) bodies

-- a body as a shared object, with a field for each value
abbrev pub object_of_body : Body → Object
object_of_body body = record { class = body.class; size = length body.values; owner = None }

-- The state of a table of bodies: their objects with their values, and nothing else.
abbrev pub state_of_bodies : List Body → PlainState
state_of_bodies bodies = record blank {
  objects = λ o. option_map object_of_body (body_in bodies o);
  heap = λ key. option_and_then (λ body. slice_get body.values key.1) (body_in bodies key.0);
}

-- an object of the class can have so many values: one for each root, or as one of its class or an array can be made
abbrev pub HasSize : Shape → ClassId → ℕ → Type 0
HasSize shape class.Roots n = n ≡ shape.roots
HasSize shape class n = CanBeMade shape class n

-- The bodies are a graph of the program: of different objects, with object 0 among them, which alone is of the roots'
-- class; each has the values of its class, and each value names an object among them other than object 0, or a text of
-- the program.
pub record IsGraphOf (p : Program) (bodies : List Body) : Type 0 where
  pub differ : AllPairs (λ body other. body.object ≢ other.object) bodies
  pub roots : body_in bodies 0 ≢ None
  pub classes : All (λ body. (body.class ≡ class.Roots) ↔ (body.object ≡ 0)) bodies
  pub sizes : All (λ body. HasSize p.code.shape body.class (length body.values)) bodies
  pub named : All (λ body. All (NamesWhatIsThere p.names (state_of_bodies bodies)) body.values) bodies
