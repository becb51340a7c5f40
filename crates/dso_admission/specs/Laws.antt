-- What bytes are admitted by the grammar alone, and that a client that is cut off is the only one that is lost.
use Rattle.std.specs.BTreeSet.{contains}
use Rattle.std.specs.List.{AllByRecursion}
use Rattle.std.specs.Ordering.{nat_cmp}
use Rattle.std.specs.Prelude.{ℕ, ◌<◌, ◌≡◌, ◌≢◌, ◌||◌, Bool, eqb, List, Ok, Err}
use Rattle.dso_base.specs.declared.journal.Entry.{Entry}
use Rattle.dso_base.specs.declared.message.Down.{Down}
use Rattle.dso_base.specs.declared.message.Up.{Up}
use Rattle.dso_base.specs.declared.no_memory.NoMemory.{NoMemory}
use Rattle.dso_law.specs.Settings.{Settings}
use Rattle.dso_server.specs.declared.server.Server.{Server}
use Rattle.dso_server.specs.ServerStands.{ServerStands}
use Rattle.dso_session.specs.declared.frame.Frame.{Frame}
use Rattle.dso_wire.specs.declared.fault.WireFault.TheVariants as fault
use Rattle.dso_wire.specs.Cells.{bytes_of}
use Rattle.dso_wire.specs.Faults.{Means, whole}
use Rattle.dso_wire.specs.Reading.{up_frame_at}
use Rattle.dso_wire.specs.Spelling.{IsFrame, IsUp, up_frame_cells}
use Rattle.dso_admission.specs.Admissions.{CutsOff}

-- the bytes of a frame decode to that frame
abbrev pub FramesAreRead : Type 0
FramesAreRead = (frame : Frame Up) → IsFrame IsUp frame
    → whole up_frame_at (bytes_of (up_frame_cells frame)) ≡ Ok frame

-- what any bytes decode to is their frame, or says by the grammar what is wrong with them
abbrev pub BytesAreTold : Type 0
BytesAreTold = (bytes : List ℕ) → AllByRecursion (λ byte. byte < 256) bytes
    → Means up_frame_cells (IsFrame IsUp) bytes (whole up_frame_at bytes)

-- no bytes decode to a refused allocation
abbrev pub NoneIsRefused : Type 0
NoneIsRefused = (bytes : List ℕ) (refused : NoMemory) → whole up_frame_at bytes ≢ Err (fault.NoMemory refused)

-- whether the server knows the client as lost
abbrev pub knows_lost : Server → ℕ → Bool
knows_lost server c = contains nat_cmp server.lost c

-- Where a client is cut off it is lost then, and of the others those that were before.
abbrev pub OneIsCutOff : Type 0
OneIsCutOff = (p : Settings) (c : ℕ) (messages : List (ℕ × Down)) (old new : Server) (es : List Entry)
    → ServerStands p old es → CutsOff c messages old new → (d : ℕ) → knows_lost new d ≡ (eqb d c || knows_lost old d)
