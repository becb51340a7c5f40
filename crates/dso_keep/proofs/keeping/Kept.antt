-- What a crash leaves of the records, while one more is added.
use Rattle.std.proofs.Common.{◌≡◌, ◌⊎◌, inl, inr, ℕ, ◌+◌, List, [], ◌∷◌, ◌++◌, length, refl, sym, ◌∙◌, ap, subst, arith, Option, Some, None}
use Rattle.std.specs.List.{AllByRecursion}
use Rattle.std.specs.Option.{IfSome}
use Rattle.dso_base.specs.declared.record.Txn.{Txn}
use Rattle.dso_base.specs.declared.shape.Shape.{Shape}
use Rattle.dso_keep.specs.declared.keep.Keep.{Keep}
use Rattle.dso_keep.specs.Crash.{CrashLeaves}
use Rattle.dso_keep.specs.Disk.{File, MayLeave}
use Rattle.dso_keep.specs.Keeping.{HoldsOldOrNew, KeepStands, ReopensOldOrNew, gate_of}
use Rattle.dso_keep.specs.Packets.{IsKept, IsStaged, ReadsAs, file_of, gated, sized}
use Rattle.dso_keep.specs.Records.{AllFit, HasPacket, HoldsRecords, opening, packet_of, packets_of}
use Rattle.dso_keep.proofs.crash.Moments.{leaves_so, settled_leaves, starts}
use Rattle.dso_keep.proofs.keeping.Packets.{AreShort, before_or_after, gate_more, kept_more, reads}

-- records with one more have its packet behind the others
pub packets_of-push : (records : List (ℕ × Txn)) (r : ℕ × Txn) → packets_of (records ++ r ∷ []) ≡ packets_of records ++ packet_of r ∷ []
packets_of-push [] r = refl
packets_of-push (first ∷ records) r = ap (λ (l : List (List ℕ)). packet_of first ∷ l) (packets_of-push records r)

pub grammar-push : (records : List (ℕ × Txn)) (r : ℕ × Txn) → AllByRecursion HasPacket records → HasPacket r → AllByRecursion HasPacket (records ++ r ∷ [])
grammar-push [] r all is = (is, tt)
grammar-push (first ∷ records) r all is = (all.0, grammar-push records r all.1 is)

-- their packets have lengths of four bytes
pub are_short : (records : List (ℕ × Txn)) → AllByRecursion HasPacket records → AreShort (packets_of records)
are_short [] all = tt
are_short (r ∷ records) all = (all.0.2, are_short records all.1)

-- behind whole records no gate is open
pub holds : (records : List (ℕ × Txn)) → AllByRecursion HasPacket records → HoldsRecords (file_of (packets_of records)) records
holds records grammar = record { grammar = grammar; read = reads (packets_of records) (0 ∷ []) (are_short records grammar) (omega arith) }

module _ (records : List (ℕ × Txn)) (r : ℕ × Txn) where
  -- where nothing is done a crash leaves the records
  still_holds : (keep : Keep) (file : Option File) → KeepStands records keep file
      → IfSome file (λ f. (left : List ℕ) → MayLeave f.first f.changes left → HoldsOldOrNew records r left)
  still_holds keep None stands = tt
  still_holds keep (Some f) stands = λ left leaves.
      let is = settled_leaves f.first f.changes left stands.kept.1 leaves ∙ stands.kept.0 in
      inl (subst (λ l. HoldsRecords l records) (sym is) (holds records stands.grammar))

  pub unchanged_leaves : (keep : Keep) (file : Option File) → KeepStands records keep file → CrashLeaves (HoldsOldOrNew records r) file file
  unchanged_leaves keep file stands = starts (HoldsOldOrNew records r) file (still_holds keep file stands)

  -- what is staged behind the gate holds the records, or these and the new one
  staged_holds : AllByRecursion HasPacket records → HasPacket r → (left : List ℕ) → IsStaged (gated (packets_of records)) (sized (packet_of r) ++ 0 ∷ []) left → HoldsOldOrNew records r left
  staged_holds grammar is left staged = by (before_or_after (packets_of records) (packet_of r) (are_short records grammar) is.2 left staged)
    where
      by : ReadsAs left (packets_of records) ⊎ ReadsAs left (packets_of records ++ packet_of r ∷ []) → HoldsOldOrNew records r left
      by (inl before) = inl (record { grammar = grammar; read = before })
      by (inr after) = inr (record { grammar = grammar-push records r grammar is; read = subst (ReadsAs left) (sym (packets_of-push records r)) after })

  pub staged_leaves : (bytes : List ℕ) (old new : Option File) → AllByRecursion HasPacket records → HasPacket r → bytes ≡ sized (packet_of r) ++ 0 ∷ []
      → CrashLeaves (IsStaged (gated (packets_of records)) bytes) old new → CrashLeaves (HoldsOldOrNew records r) old new
  staged_leaves bytes old new grammar is staged leaves =
      leaves_so (IsStaged (gated (packets_of records)) (sized (packet_of r) ++ 0 ∷ [])) (HoldsOldOrNew records r) old new
      (staged_holds grammar is) (subst (λ b. CrashLeaves (IsStaged (gated (packets_of records)) b) old new) staged leaves)

  -- the keep of the records with the new one
  pub stands_more : (bytes : List ℕ) (keep next : Keep) (old new : Option File) → KeepStands records keep old → HasPacket r → bytes ≡ sized (packet_of r) ++ 0 ∷ []
      → gate_of next ≡ gate_of keep + 5 + length (packet_of r) → IsKept (gated (packets_of records) ++ 1 ∷ bytes) new → KeepStands (records ++ r ∷ []) next new
  stands_more bytes keep next old new stands is staged gate kept =
      let short = are_short records stands.grammar in
      let opened : IsKept (gated (packets_of records) ++ (1 ∷ sized (packet_of r) ++ 0 ∷ [])) new = subst (λ b. IsKept (gated (packets_of records) ++ 1 ∷ b) new) staged kept in
      let at : gate_of next ≡ length (gated (packets_of records ++ packet_of r ∷ [])) = gate ∙ gate_more (packets_of records) (packet_of r) short is.2 (gate_of keep) stands.gate in
      record {
        grammar = grammar-push records r stands.grammar is;
        gate = at ∙ ap (λ (ps : List (List ℕ)). length (gated ps)) (sym (packets_of-push records r));
        kept = subst (λ ps. IsKept (file_of ps) new) (sym (packets_of-push records r)) (kept_more (packets_of records) (packet_of r) short is.2 new opened);
      }

  -- where they fit, it reopens to them
  pub reopens_so : (shape : Shape) (old new : Option File) → AllFit shape (opening shape) records → AllFit shape (opening shape) (records ++ r ∷ [])
      → CrashLeaves (HoldsOldOrNew records r) old new → CrashLeaves (ReopensOldOrNew shape records r) old new
  reopens_so shape old new before after leaves = leaves_so (HoldsOldOrNew records r) (ReopensOldOrNew shape records r) old new by leaves
    where
      by : (left : List ℕ) → HoldsOldOrNew records r left → ReopensOldOrNew shape records r left
      by left (inl holds) = inl (record { holds = holds; fit = before })
      by left (inr holds) = inr (record { holds = holds; fit = after })
