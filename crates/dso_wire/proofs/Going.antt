-- What has bytes has what encoding asks for.
use Rattle.std.proofs.Common.{List, [], ◌∷◌}
use Rattle.std.specs.List.{AllByRecursion}
use Rattle.std.proofs.lemmas.List.Elements.{All-from_recursion}
use Rattle.dso_base.specs.declared.message.Down.{Down}
use Rattle.dso_base.specs.declared.message.Down.TheVariants as down
use Rattle.dso_base.specs.declared.message.Up.{Up}
use Rattle.dso_base.specs.declared.message.Up.TheVariants as up
use Rattle.dso_base.specs.declared.record.Choice.{Choice}
use Rattle.dso_base.specs.declared.record.Choice.TheVariants as choice
use Rattle.dso_base.specs.declared.record.Txn.{Txn}
use Rattle.dso_session.specs.declared.frame.Frame.{Frame}
use Rattle.dso_session.specs.declared.frame.Frame.TheVariants.{Carry, Hello}
use Rattle.dso_wire.specs.CanGo.{Any, ListCanGo, BodyCanGo, ChoiceCanGo, NoteCanGo, RecordCanGo, UpCanGo, DownCanGo, FrameCanGo}
use Rattle.dso_wire.specs.Spelling.{IsList, IsValue, IsThread, IsBody, IsSet, IsChoice, IsNote, IsRecord, IsUp, IsDown, IsFrame}

each : {A : Type 0} (Is CanGo : A → Type 0) → ((x : A) → Is x → CanGo x) → (items : List A) → AllByRecursion Is items → AllByRecursion CanGo items
each Is CanGo goes [] are = tt
each Is CanGo goes (x ∷ items) are = (goes x are.0, each Is CanGo goes items are.1)

list_goes : {A : Type 0} (Is CanGo : A → Type 0) → ((x : A) → Is x → CanGo x) → (items : List A) → IsList Is items → ListCanGo CanGo items
list_goes Is CanGo goes items is = (is.0, All-from_recursion CanGo items (each Is CanGo goes items is.1))

choice_goes : (c : Choice) → IsChoice c → ChoiceCanGo c
choice_goes (choice.Here t) is = is
choice_goes choice.There is = tt
choice_goes choice.All is = tt

pub record_goes : (r : Txn) → IsRecord r → RecordCanGo r
record_goes r is = record {
  thread = is.1.0;
  news = list_goes IsBody BodyCanGo (λ b body. list_goes IsValue Any (λ v value. tt) b.values body.1.1) r.news is.1.1.0;
  sets = list_goes IsSet Any (λ s set. tt) r.sets is.1.1.1.0;
  outs = list_goes IsValue Any (λ v value. tt) r.outs is.1.1.1.1.0;
  notes = list_goes IsNote NoteCanGo (λ n note. choice_goes n.choice note.1) r.notes is.1.1.1.1.1.0;
}

up_goes : (m : Up) → IsUp m → UpCanGo m
up_goes up.IdAsk is = tt
up_goes (up.Fault o) is = tt
up_goes (up.Flushed o) is = tt
up_goes (up.Request l level) is = tt
up_goes (up.Return l threads) is = list_goes IsThread IsThread (λ t thread. thread) threads is.1
up_goes (up.Commit r) is = record_goes r is

down_goes : (m : Down) → IsDown m → DownCanGo m
down_goes (down.Ids o) is = tt
down_goes (down.Object b) is = list_goes IsValue Any (λ v value. tt) b.values is.1.1
down_goes (down.Grant l level) is = tt
down_goes (down.Recall l) is = tt
down_goes (down.Ack s) is = tt
down_goes (down.Changes sets) is = list_goes IsSet Any (λ s set. tt) sets is
down_goes (down.Wake l t) is = is.1

frame_goes : {M : Type 0} (Is CanGo : M → Type 0) → ((m : M) → Is m → CanGo m) → (frame : Frame M) → IsFrame Is frame → FrameCanGo CanGo frame
frame_goes Is CanGo goes (Carry epoch nth seen clock m) is = goes m is.1.1.1.1
frame_goes Is CanGo goes (Hello epoch seen clock) is = tt

pub up_frame_goes : (frame : Frame Up) → IsFrame IsUp frame → FrameCanGo UpCanGo frame
up_frame_goes frame is = frame_goes IsUp UpCanGo up_goes frame is

pub down_frame_goes : (frame : Frame Down) → IsFrame IsDown frame → FrameCanGo DownCanGo frame
down_frame_goes frame is = frame_goes IsDown DownCanGo down_goes frame is
