-- Sound code is a sound program of the cluster that has its shape.
use Rattle.std.proofs.Common.{◌≡◌, sym, subst, Option, List}
use Rattle.dso_base.specs.declared.lock.ThreadId.{ThreadId}
use Rattle.dso_base.specs.declared.request.Event.{Event}
use Rattle.dso_base.specs.declared.request.Request.{Request}
use Rattle.dso_base.specs.declared.shape.Shape.{Shape}
use Rattle.dso_machine.specs.declared.code.Code.{Code}
use Rattle.dso_machine.specs.Next.{next_request}
use Rattle.dso_machine.specs.Sound as machine
use Rattle.dso_legal.specs.SoundProgram.{AsksSoundly, GivesKnownTexts}
use Rattle.dso_legal.specs.WithinShape.{StaysWithinShape}
use Rattle.dso_legal.proofs.programs.SoundCode.{sound_program, known_texts}
use Rattle.dso_legal.proofs.programs.WithinShape.{within_shape}

-- all that the laws of lawful journals ask of a program
pub record IsOfSoundProgram (shape : Shape) (next : ThreadId → List Event → Option Request) : Type 0 where
  pub sound : AsksSoundly shape next
  pub texts : GivesKnownTexts shape next
  pub within : StaysWithinShape shape next

-- Sound code keeps to it.
pub sound_code : (code : Code) (shape : Shape) → machine.IsSoundCode code → shape ≡ code.shape → IsOfSoundProgram shape (next_request code)
sound_code code shape sound shaped = subst (λ shape. IsOfSoundProgram shape (next_request code)) (sym shaped) (record {
  sound = sound_program code sound;
  texts = known_texts code sound;
  within = within_shape code sound;
})
