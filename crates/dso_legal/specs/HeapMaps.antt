-- Maps in the one heap: the fields of an object hold a finite map.
use Rattle.std.specs.Prelude.{ℕ, ◌≡◌, Option, Some, None}
use Rattle.dso_base.specs.declared.shape.Shape.{Shape}
use Rattle.dso_map.specs.Bodies.{MapBody}
use Rattle.dso_map.specs.Contents.{Content, Holds}
use Rattle.dso_map.specs.Fields.{MapField, IsMapField, place_of}
use Rattle.dso_map.specs.SoundMap.{IsSoundMap}
use Rattle.dso_machine.specs.MapCalls.{IsOfMaps}
use Rattle.dso_plain.specs.State.{Object, PlainState}

-- the object is there, and of the class of maps
abbrev pub IsMapObject : Shape → Option Object → Type 0
IsMapObject shape None = ⊥
IsMapObject shape (Some object) = IsOfMaps shape object.class

-- the object's fields have the values of the body
abbrev pub HasBody : ℕ → MapBody → PlainState → Type 0
HasBody o b s = (f : MapField) → IsMapField f → s.heap (o, place_of f) ≡ Some (b f)

-- the object has a sound body, and that holds the map
pub record IsMap (o : ℕ) (m : Content) (s : PlainState) : Type 0 where
  pub body : MapBody
  pub has : HasBody o body s
  pub sound : IsSoundMap body
  pub holds : Holds body m
