-- The law on clustered maps: the history that a lawful journal of sound code commits keeps maps.
use Rattle.std.proofs.Common.{ℕ, ◌≡◌, refl, sym, subst, true, eqb, length, slice_get, Option, Some, None, List}
use Rattle.std.specs.Prelude.{IfSome}
use Rattle.std.proofs.lemmas.Bool.{eqb-true}
use Rattle.dso_base.specs.declared.lock.ThreadId.{ThreadId}
use Rattle.dso_base.specs.declared.request.Event.{Event}
use Rattle.dso_base.specs.declared.request.Request.{Request}
use Rattle.dso_base.specs.declared.shape.ClassShape.{ClassShape}
use Rattle.dso_base.specs.declared.shape.Shape.{Shape}
use Rattle.dso_base.specs.Following.{Listed}
use Rattle.dso_base.specs.Shape.{fields_of}
use Rattle.dso_map.specs.MapClass.{map_fields, map_size}
use Rattle.dso_machine.specs.declared.code.Code.{Code}
use Rattle.dso_machine.specs.Next.{next_request}
use Rattle.dso_machine.specs.Sound.{IsSoundClass, IsSoundCode}
use Rattle.dso_machine.proofs.protocol.MapWalks.{maps_called}
use Rattle.dso_machine.proofs.protocol.Threads.{all_of}
use Rattle.dso_plain.specs.History.{Runs, IsLegal, events_of}
use Rattle.dso_plain.specs.State.{opening}
use Rattle.dso_legal.specs.Committed.{committed}
use Rattle.dso_legal.specs.MapHistory.{MapsAreOneMap}
use Rattle.dso_legal.specs.SoundProgram.{AsksSoundly}
use Rattle.dso_legal.proofs.central.CentralLaw.{central_law}
use Rattle.dso_legal.proofs.maps.CommittedBlocks.{committed_goes}
use Rattle.dso_legal.proofs.maps.OneMap.{keeps_maps}
use Rattle.dso_legal.proofs.maps.Opening.{MapsHaveFields}
use Rattle.dso_legal.proofs.maps.RealPuts.{puts_are_real}
use Rattle.dso_legal.proofs.programs.SoundCode.{sound_program}

-- a sound class with as many fields as a map is that of maps
fields_are : (shape : Shape) (class : Option ClassShape) → IfSome class (IsSoundClass shape) → eqb (length (fields_of class)) map_size ≡ true → fields_of class ≡ map_fields
fields_are shape None fine is = absurd (cc is)
fields_are shape (Some class) fine is = fine.as_map (eqb-true (length class.fields) map_size is)

class_fine : (code : Code) → IsSoundCode code → (n : ℕ) (class : Option ClassShape) → slice_get code.shape.classes n ≡ class → IfSome class (IsSoundClass code.shape)
class_fine code sound n None is = tt
class_fine code sound n (Some class) is = all_of (IsSoundClass code.shape) code.shape.classes n class is sound.classes

maps_have_fields : (code : Code) → IsSoundCode code → MapsHaveFields code.shape
maps_have_fields code sound n is = fields_are code.shape (slice_get code.shape.classes n) (class_fine code sound n (slice_get code.shape.classes n) refl) is

-- The law.
pub maps_are_one_map : MapsAreOneMap
maps_are_one_map p code same sound es lawful =
    let next : ThreadId → List Event → Option Request = next_request code in
    let asks : AsksSoundly p.shape next = subst (λ shape. AsksSoundly shape next) (sym same) (sound_program code sound) in
    let legal : IsLegal next (Listed next) p.shape (committed es) = (central_law p next asks es lawful).legal in
    keeps_maps code.shape (maps_have_fields code sound) next (committed es) (puts_are_real p next asks es lawful.follow code.shape) (committed_goes p next es lawful.follow)
    (subst (λ shape. Runs shape (committed es) (opening shape)) same legal.runs)
    (λ t. maps_called code sound t (events_of t (committed es)) (legal.follows t))
