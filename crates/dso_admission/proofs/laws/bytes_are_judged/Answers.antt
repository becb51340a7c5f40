use Rattle.std.proofs.Common.{◌≡◌, ◌<◌, arith, zero, suc, get_or, ℕ, List, [], ◌∷◌, Result, Ok, Err, refl, sym, ap, ◌∙◌, inr}
use Rattle.std.proofs.lemmas.List.{append-nil}
use Rattle.dso_base.specs.declared.message.Up.{Up}
use Rattle.dso_base.specs.declared.no_memory.NoMemory.{NoMemory}
use Rattle.dso_session.specs.declared.frame.Frame.{Frame}
use Rattle.dso_wire.specs.declared.fault.WireFault.TheVariants as fault
use Rattle.dso_wire.specs.declared.fault.Wrong.{Wrong}
use Rattle.dso_wire.specs.declared.fault.Wrong.TheVariants as wrong
use Rattle.dso_wire.specs.Cells.{bytes_of}
use Rattle.dso_wire.specs.Faults.{told, whole}
use Rattle.dso_wire.specs.Reading.{up_at, up_frame_at}
use Rattle.dso_wire.specs.Spelling.{IsFrame, IsUp, up_cells, up_frame_cells}
use Rattle.std.specs.List.{AllByRecursion}
use Rattle.dso_wire.proofs.Exact.{Exact}
use Rattle.dso_wire.proofs.Grammar.{frame_exact, up_exact}
use Rattle.dso_wire.proofs.Meaning.{means}
use Rattle.dso_admission.proofs.laws.bytes_are_judged.Goals as goal

exact : Exact up_frame_at up_frame_cells (IsFrame IsUp)
exact = frame_exact up_at up_cells IsUp up_exact 1 refl refl

-- no fault of reading is told as a refused allocation
none_refused : (bytes : List ℕ) (refused : NoMemory) (read : Result (Frame Up × List ℕ) Wrong) → told bytes read ≡ Err (fault.NoMemory refused) → ⊥
none_refused bytes refused (Ok (x, [])) e = absurd cc
none_refused bytes refused (Ok (x, b ∷ rest)) e = absurd cc
none_refused bytes refused (Err wrong.Short) e = absurd cc
none_refused bytes refused (Err (wrong.Tag left)) e = absurd cc
none_refused bytes refused (Err (wrong.Range left)) e = absurd cc

are_bytes : (bytes : List ℕ) → AllByRecursion (λ byte. byte < 256) bytes → (i : ℕ) → get_or bytes i 0 < 256
are_bytes [] all zero = omega arith
are_bytes [] all (suc i) = omega arith
are_bytes (byte ∷ bytes) all zero = all.0
are_bytes (byte ∷ bytes) all (suc i) = are_bytes bytes all.1 i

pub returns-clause-told : goal.returns-clause-told
returns-clause-told c = λ bytes all. means up_frame_at up_frame_cells (IsFrame IsUp) exact bytes (whole up_frame_at bytes) (are_bytes bytes all) (inr refl)

pub returns-clause-read : goal.returns-clause-read
returns-clause-read c = λ frame is. ap (told (bytes_of (up_frame_cells frame)))
    (ap up_frame_at (sym (append-nil (bytes_of (up_frame_cells frame)))) ∙ exact.again frame [] is)

pub returns-clause-refused : goal.returns-clause-refused
returns-clause-refused c = λ bytes refused e. none_refused bytes refused (up_frame_at bytes) e
