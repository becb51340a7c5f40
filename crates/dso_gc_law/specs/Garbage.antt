-- The laws of collection: what is garbage stays garbage, and is named no more. Entries stand with the newest first.
use Rattle.std.specs.List.{list_any}
use Rattle.std.specs.Option.{option_map_or}
use Rattle.std.specs.Prelude.{ℕ, ◌≡◌, Bool, true, false, Option, List, ◌∷◌, ◌++◌}
use Rattle.dso_base.specs.declared.journal.Entry.{Entry}
use Rattle.dso_base.specs.declared.journal.Node.{Node}
use Rattle.dso_base.specs.declared.journal.Node.TheVariants.{Server, Client}
use Rattle.dso_base.specs.declared.journal.Sent.{Sent}
use Rattle.dso_base.specs.declared.journal.Sent.TheVariants.{ToServer, ToClient}
use Rattle.dso_base.specs.declared.lock.ThreadId.{ThreadId}
use Rattle.dso_base.specs.declared.request.Event.{Event}
use Rattle.dso_base.specs.declared.request.Request.{Request}
use Rattle.dso_base.specs.declared.value.Value.{Value}
use Rattle.dso_base.specs.Naming.{event_names, up_names, down_names}
use Rattle.dso_machine.specs.Frames.{KeepsFrames}
use Rattle.dso_law.specs.Settings.{Settings}
use Rattle.dso_legal.specs.Collection.{IsGarbageAfter, is_kept}
use Rattle.dso_legal.specs.Lawful.{AllFollow}
use Rattle.dso_legal.specs.SoundProgram.{AsksSoundly}

-- whether what is sent names the object
abbrev pub sent_names : Sent → ℕ → Bool
sent_names (ToServer m) o = up_names m o
sent_names (ToClient c m) o = down_names m o

-- the entry doesn't name the object, where it is of a client that counts or of the server
abbrev pub Spares : (ℕ → Bool) → ℕ → Entry → Node → Type 0
Spares kept o e Server = list_any (λ m. sent_names m o) e.sent ≡ false
Spares kept o e (Client c) = kept c ≡ true → (option_map_or (λ event. event_names event o) e.event false ≡ false)
    × (list_any (λ m. sent_names m o) e.sent ≡ false)

-- Nothing swept is named again: what is garbage at some time is named by no later entry of a client that wasn't lost
-- then, nor by one of the server.
abbrev pub SweptAreUnnamed : Type 0
SweptAreUnnamed = (p : Settings) (next : ThreadId → List Event → Option Request)
    (frames : ThreadId → List Event → List Value) → KeepsFrames next frames → AsksSoundly p.shape next
    → (e : Entry) (later es : List Entry) → AllFollow p next (e ∷ later ++ es)
    → (o : ℕ) → IsGarbageAfter p next frames es o → Spares (is_kept p es) o e e.node

-- Garbage stays: what is garbage at some time is garbage ever after.
abbrev pub GarbageStays : Type 0
GarbageStays = (p : Settings) (next : ThreadId → List Event → Option Request)
    (frames : ThreadId → List Event → List Value) → KeepsFrames next frames → AsksSoundly p.shape next
    → (later es : List Entry) → AllFollow p next (later ++ es) → (o : ℕ) → IsGarbageAfter p next frames es o
    → IsGarbageAfter p next frames (later ++ es) o
