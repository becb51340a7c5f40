-- What is read in all, and where it goes wrong.
use Rattle.std.proofs.Common.{◌≡◌, ℕ, ◌+◌, ◌<◌, ◌≤◌, List, [], ◌∷◌, ◌++◌, length, drop, refl, sym, ◌∙◌, ap, subst, arith, true}
use Rattle.dso_base.specs.declared.record.Txn.{Txn}
use Rattle.dso_base.specs.declared.shape.Shape.{Shape}
use Rattle.dso_keep.specs.Packets.{IsShut, ReadsAs, gated}
use Rattle.dso_keep.specs.Reading.{Adds, IsBadHere, IsBehind, IsWhole, NoneBehind, NoneFits, StandBefore, is_open_at}
use Rattle.dso_keep.specs.Records.{FitsGraph, IsBadAt, Reopens, packet_of, packets_of}
use Rattle.dso_keep.specs.declared.kept.Kept.{Kept}
use Rattle.dso_keep.proofs.behind.Gates.{gate_open, same_packet, stand_more}
use Rattle.dso_keep.proofs.keeping.Kept.{are_short}
use Rattle.dso_keep.proofs.keeping.Packets.{reads}

-- a file of at most one byte has no record
pub none_kept : (shape : Shape) (bytes : List ℕ) (records : List (ℕ × Txn)) → length bytes ≤ 1 → records ≡ [] → Reopens shape bytes records
none_kept shape bytes records short none = subst (Reopens shape bytes) (sym none) (record { holds = record { grammar = tt; read = by bytes short }; fit = tt })
  where
    by : (bytes : List ℕ) → length bytes ≤ 1 → ReadsAs bytes []
    by [] short = refl
    by (a ∷ []) short = refl
    by (a ∷ b ∷ bytes) short = absurd (omega (arith, short))

-- all that is read, where no gate is open behind it
pub all_read : (shape : Shape) (bytes : List ℕ) (kept : Kept) (at : ℕ) → IsWhole shape kept → StandBefore kept.records.items at bytes → IsShut (drop at bytes) → Reopens shape bytes kept.records.items
all_read shape bytes kept at whole stand shut = record {
  holds = record {
    grammar = whole.grammar;
    read = subst (λ l. ReadsAs l (packets_of kept.records.items)) (sym stand.1)
        (reads (packets_of kept.records.items) (drop at bytes) (are_short kept.records.items whole.grammar) shut);
  };
  fit = whole.fit;
}

-- a bad gate stands behind what is read
pub bad_at : (shape : Shape) (bytes : List ℕ) (kept : Kept) (at : ℕ) → 1 < length bytes → IsWhole shape kept → StandBefore kept.records.items at bytes → IsBadHere shape kept (drop at bytes) → IsBadAt shape bytes at
bad_at shape bytes kept at long whole stand bad = record {
  long = long;
  records = kept.records.items;
  grammar = whole.grammar;
  fit = whole.fit;
  rest = bad.0;
  whole = stand.1 ∙ ap (λ (l : List ℕ). gated (packets_of kept.records.items) ++ l) bad.1;
  at = stand.0;
  bad = λ r more is here fits. bad.2 r more is here (subst (λ graph. FitsGraph shape graph r) (sym whole.graph) fits);
}

-- no whole packet stands behind the gate
pub none_here : (shape : Shape) (kept : Kept) (bytes : List ℕ) (at : ℕ) → is_open_at (drop at bytes) ≡ true → NoneBehind (drop (at + 1) bytes) → IsBadHere shape kept (drop at bytes)
none_here shape kept bytes at is none = (drop (at + 1) bytes, gate_open bytes at is, λ r more has here fits. none (packet_of r) (has.2, more, here))

-- the packet that stands there has no record that fits
pub unfit_here : (shape : Shape) (kept : Kept) (bytes packet : List ℕ) (at : ℕ) → is_open_at (drop at bytes) ≡ true → IsBehind packet (drop (at + 1) bytes) → NoneFits shape packet kept
    → IsBadHere shape kept (drop at bytes)
unfit_here shape kept bytes packet at is behind none = (
  drop (at + 1) bytes,
  gate_open bytes at is,
  λ r more has here fits. none r has (same_packet packet (packet_of r) behind.1 more behind.0 has.2 (sym behind.2 ∙ here)).0 fits,
)

-- the record that was added stands in front of the next gate
pub stands_on : (shape : Shape) (bytes packet : List ℕ) (old new : Kept) (at next : ℕ) → Adds shape packet old new → next ≡ at + 5 + length packet → is_open_at (drop at bytes) ≡ true
    → IsBehind packet (drop (at + 1) bytes) → StandBefore old.records.items at bytes → StandBefore new.records.items next bytes
stands_on shape bytes packet old new at next adds place is behind stand =
    let more = stand_more bytes old.records.items adds.r at stand is (subst (λ p. IsBehind p (drop (at + 1) bytes)) adds.own behind) in
    let same : at + (5 + length (packet_of adds.r)) ≡ next = omega (arith, place, ap length adds.own) in
    subst (λ records. StandBefore records next bytes) (sym adds.records) (subst (λ n. StandBefore (old.records.items ++ adds.r ∷ []) n bytes) same more)
