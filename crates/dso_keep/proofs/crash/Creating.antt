-- What a crash leaves while the first gate is written.
use Rattle.std.proofs.Common.{◌≡◌, ℕ, ◌≤◌, List, [], ◌∷◌, length, drop, refl, sym, ◌∙◌, ap, subst, arith, Option, Some, None}
use Rattle.std.proofs.lemmas.List.{drop_all}
use Rattle.std.specs.Option.{IfSome}
use Rattle.dso_keep.specs.Disk.{File, MayLeave, Torn, Wrote, Synced, bytes_in, changed}
use Rattle.dso_keep.specs.Packets.{IsUnused, ReadsAs}
use Rattle.dso_keep.specs.Records.{HoldsRecords}
use Rattle.dso_keep.proofs.crash.Moments.{settled_leaves}
use Rattle.dso_keep.proofs.crash.Torn.{torn_wider}

-- at most one byte reads as no packet
short_reads : (left : List ℕ) → length left ≤ 1 → ReadsAs left []
short_reads [] short = refl
short_reads (a ∷ []) short = refl
short_reads (a ∷ b ∷ left) short = absurd (omega arith)

-- and has no record
none_held : (left : List ℕ) → length left ≤ 1 → HoldsRecords left []
none_held left short = record { grammar = tt; read = short_reads left short }

torn_short : (old left : List ℕ) → length old ≤ 1 → Torn 0 1 old left → HoldsRecords left []
torn_short old left short torn = none_held left (omega (arith, short, torn.no_longer))

pub before_first : (file : Option File) → IsUnused file → IfSome file (λ f. (left : List ℕ) → MayLeave f.first f.changes left → HoldsRecords left [])
before_first None none = tt
before_first (Some f) none = λ left may. none_held left (omega (arith, ap length (settled_leaves f.first f.changes left none.1 may), none.0))

pub in_first : (file : Option File) → IsUnused file → (part : List ℕ) → length part ≤ 1
    → IfSome file (λ f. (left : List ℕ) → MayLeave f.first (Wrote 0 part ∷ f.changes) left → HoldsRecords left [])
in_first None none part few = tt
in_first (Some f) none part few = λ left may.
    torn_short may.0 left (omega (arith, ap length (settled_leaves f.first f.changes may.0 none.1 may.1), none.0)) (torn_wider 0 (length part) 1 may.0 left few may.2)

pub in_first_sync : (file : Option File) → IsUnused file → IfSome (changed (Wrote 0 (0 ∷ [])) file) (λ f. (left : List ℕ) → MayLeave f.first (Synced ∷ f.changes) left → HoldsRecords left [])
in_first_sync None none = tt
in_first_sync (Some f) none = λ left may.
    let all : drop 1 (bytes_in f) ≡ [] = drop_all 1 (bytes_in f) none.0 in
    let is : left ≡ 0 ∷ [] = may ∙ ap (λ (l : List ℕ). 0 ∷ l) all in subst (λ l. HoldsRecords l []) (sym is) (none_held (0 ∷ []) (omega arith))
