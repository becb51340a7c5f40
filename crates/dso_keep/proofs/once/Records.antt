-- A file reopens to one list of records at most.
use Rattle.std.proofs.Common.{◌≡◌, ℕ, ◌<◌, List, [], ◌∷◌, ◌++◌, length, drop, get_or, refl, sym, ◌∙◌, ap, subst, arith}
use Rattle.std.specs.List.{AllByRecursion}
use Rattle.dso_base.specs.declared.record.Txn.{Txn}
use Rattle.dso_base.specs.declared.shape.Shape.{Shape}
use Rattle.dso_wire.specs.Laws.{IsOneToOne}
use Rattle.dso_wire.specs.Spelling.{IsRecord, record_cells}
use Rattle.dso_keep.specs.Packets.{HasPackets, ReadsAs, sized}
use Rattle.dso_keep.specs.Records.{AllFit, FitsGraph, HasPacket, IsBadAt, KeptGraph, Reopens, applied_to, graph_after, opening, packet_of, packets_of}
use Rattle.dso_keep.proofs.keeping.Kept.{are_short}
use Rattle.dso_keep.proofs.once.Packets.{go_on, reads_once}

module _ (one : IsOneToOne record_cells IsRecord) where
  pub same_record : (r s : ℕ × Txn) → HasPacket r → HasPacket s → packet_of r ≡ packet_of s → r ≡ s
  same_record r s is_r is_s same =
      let client : r.0 ≡ s.0 = ap (λ (l : List ℕ). get_or l 0 0) same in
      let txn : r.1 ≡ s.1 = one r.1 s.1 is_r.1 is_s.1 (ap (λ (l : List ℕ). drop 1 l) same) in
      λ i. (client i, txn i)

  same_records : (xs ys : List (ℕ × Txn)) → AllByRecursion HasPacket xs → AllByRecursion HasPacket ys → packets_of xs ≡ packets_of ys → xs ≡ ys
  same_records [] [] is_xs is_ys same = refl
  same_records [] (y ∷ ys) is_xs is_ys same = absurd (cc same)
  same_records (x ∷ xs) [] is_xs is_ys same = absurd (cc same)
  same_records (x ∷ xs) (y ∷ ys) is_xs is_ys same =
      let first : x ≡ y = same_record x y is_xs.0 is_ys.0 (ap (λ (l : List (List ℕ)). get_or l 0 []) same) in
      let rest : xs ≡ ys = same_records xs ys is_xs.1 is_ys.1 (ap (λ (l : List (List ℕ)). drop 1 l) same) in
      λ i. first i ∷ rest i

  pub one_reopening : (shape : Shape) (bytes : List ℕ) (xs ys : List (ℕ × Txn)) → Reopens shape bytes xs → Reopens shape bytes ys → xs ≡ ys
  one_reopening shape bytes xs ys a b = same_records xs ys a.holds.grammar b.holds.grammar (reads_once bytes (packets_of xs) (packets_of ys) a.holds.read b.holds.read)

  -- Of records whose packets go on behind others', those are the first, and the next one fits their graph.
  record Follows (shape : Shape) (graph : KeptGraph) (first : List (ℕ × Txn)) (next : List ℕ) : Type 0 where
    pub r : ℕ × Txn
    pub is : HasPacket r
    pub own : next ≡ packet_of r
    pub fits : FitsGraph shape (graph_after graph first) r

  follows : (shape : Shape) (graph : KeptGraph) (first records : List (ℕ × Txn)) (next : List ℕ) (more : List (List ℕ)) → AllByRecursion HasPacket first → AllByRecursion HasPacket records → AllFit shape graph records
      → packets_of records ≡ packets_of first ++ next ∷ more → Follows shape graph first next
  follows shape graph [] [] next more is_first is fit same = absurd (cc same)
  follows shape graph [] (r ∷ records) next more is_first is fit same = record { r = r; is = is.0; own = sym (ap (λ (l : List (List ℕ)). get_or l 0 []) same); fits = fit.0 }
  follows shape graph (x ∷ first) [] next more is_first is fit same = absurd (cc same)
  follows shape graph (x ∷ first) (r ∷ records) next more is_first is fit same =
      let here : r ≡ x = same_record r x is.0 is_first.0 (ap (λ (l : List (List ℕ)). get_or l 0 []) same) in
      let on = follows shape (applied_to x graph) first records next more is_first.1 is.1
      (subst (λ y. AllFit shape (applied_to y graph) records) here fit.1) (ap (λ (l : List (List ℕ)). drop 1 l) same) in
      record { r = on.r; is = on.is; own = on.own; fits = on.fits }

  long_reads : (bytes : List ℕ) (packets : List (List ℕ)) → 1 < length bytes → ReadsAs bytes packets → HasPackets bytes packets
  long_reads [] packets long read = absurd (omega (arith, long))
  long_reads (a ∷ []) packets long read = absurd (omega (arith, long))
  long_reads (a ∷ b ∷ bytes) packets long read = read

  pub bad_never : (shape : Shape) (bytes : List ℕ) (place : ℕ) (records : List (ℕ × Txn)) → IsBadAt shape bytes place → Reopens shape bytes records → ⊥
  bad_never shape bytes place records bad reopens =
      let has = subst (λ l. HasPackets l (packets_of records)) bad.whole (long_reads bytes (packets_of records) bad.long reopens.holds.read) in
      let on = go_on (packets_of bad.records) (packets_of records) bad.rest (are_short bad.records bad.grammar) has in
      let next = follows shape (opening shape) bad.records records on.next on.more bad.grammar reopens.holds.grammar reopens.fit on.whole in
      bad.bad next.r on.behind next.is (on.own ∙ ap (λ (p : List ℕ). sized p ++ on.behind) next.own) next.fits
