-- The gate at a place, and the packet behind it.
use Rattle.std.proofs.Common.{◌≡◌, ℕ, ◌+◌, ◌<◌, ◌^◌, List, [], ◌∷◌, ◌++◌, length, length-append, drop, take, refl, sym, ◌∙◌, ap, subst, arith, false, true}
use Rattle.std.specs.Int.{to_be_bytes, from_be_bytes, w32}
use Rattle.std.proofs.lemmas.Bool.Decides.{nat_tests}
use Rattle.std.proofs.lemmas.List.{drop-drop, drop_at, take_at}
use Rattle.std.proofs.lemmas.Nat.{from_be_bytes-to_be_bytes_4}
use Rattle.dso_base.specs.declared.record.Txn.{Txn}
use Rattle.dso_keep.specs.Packets.{IsShut, gated, sized}
use Rattle.dso_keep.specs.Reading.{IsBehind, StandBefore, is_open_at}
use Rattle.dso_keep.specs.Records.{packet_of, packets_of}
use Rattle.dso_keep.proofs.keeping.Kept.{packets_of-push}
use Rattle.dso_keep.proofs.keeping.Packets.{gate_of-push, gated-push}

-- an open gate stands where the test says so
pub gate_open : (bytes : List ℕ) (at : ℕ) → is_open_at (drop at bytes) ≡ true → drop at bytes ≡ 1 ∷ drop (at + 1) bytes
gate_open bytes at is = by (drop at bytes) refl is
  where
    by : (tail : List ℕ) → drop at bytes ≡ tail → is_open_at tail ≡ true → drop at bytes ≡ 1 ∷ drop (at + 1) bytes
    by [] same is = absurd (cc is)
    by (gate ∷ rest) same is =
        let one : gate ≡ 1 = grind (arith, nat_tests) in
        let behind : drop (at + 1) bytes ≡ rest = sym (drop-drop 1 at bytes) ∙ ap (λ (l : List ℕ). drop 1 l) same in
        same ∙ (λ i. one i ∷ sym behind i)

-- none stands open where it says no
pub gate_shut : (tail : List ℕ) → is_open_at tail ≡ false → IsShut tail
gate_shut [] is = tt
gate_shut (gate ∷ rest) is = λ one. grind (arith, nat_tests)

-- the length decides the packet, and what is behind it
pub same_packet : (a b more rest : List ℕ) → length a < 2 ^ 32 → length b < 2 ^ 32 → sized a ++ more ≡ sized b ++ rest → (a ≡ b) × (more ≡ rest)
same_packet a b more rest short_a short_b is =
    let fronts : to_be_bytes w32 (length a) ≡ to_be_bytes w32 (length b) = ap (λ (l : List ℕ). take 4 l) is in
    let long : length a ≡ length b =
    sym (from_be_bytes-to_be_bytes_4 (length a) short_a) ∙ ap (from_be_bytes w32) fronts ∙ from_be_bytes-to_be_bytes_4 (length b) short_b in
    let tails : a ++ more ≡ b ++ rest = ap (λ (l : List ℕ). drop 4 l) is in (
      sym (take_at a more (length a) refl) ∙ ap (λ (l : List ℕ). take (length a) l) tails ∙ take_at b rest (length a) (sym long),
      sym (drop_at a more (length a) refl) ∙ ap (λ (l : List ℕ). drop (length a) l) tails ∙ drop_at b rest (length a) (sym long),
    )

-- one record more stands in front of the next gate
pub stand_more : (bytes : List ℕ) (records : List (ℕ × Txn)) (r : ℕ × Txn) (at : ℕ) → StandBefore records at bytes → is_open_at (drop at bytes) ≡ true
    → IsBehind (packet_of r) (drop (at + 1) bytes) → StandBefore (records ++ r ∷ []) (at + (5 + length (packet_of r))) bytes
stand_more bytes records r at stand is behind =
    let packet = packet_of r in
    let more = behind.1 in
    let here : drop at bytes ≡ 1 ∷ sized packet ++ more = gate_open bytes at is ∙ ap (λ (l : List ℕ). 1 ∷ l) behind.2 in
    let size : length (1 ∷ sized packet) ≡ 5 + length packet = omega (arith, length-append (to_be_bytes w32 (length packet)) packet) in
    let past : drop (at + (5 + length packet)) bytes ≡ more = sym (drop-drop (5 + length packet) at bytes) ∙ ap (λ (l : List ℕ). drop (5 + length packet) l) here ∙ drop_at (1 ∷ sized packet) more (5 + length packet) size in
    let pushed = packets_of-push records r in
    let place : at + (5 + length packet) ≡ length (gated (packets_of records ++ packet ∷ [])) = omega (arith, gate_of-push (packets_of records) packet, stand.0) in
    let split : bytes ≡ gated (packets_of records ++ packet ∷ []) ++ drop (at + (5 + length packet)) bytes =
    stand.1 ∙ ap (λ (l : List ℕ). gated (packets_of records) ++ l) here ∙ sym (gated-push (packets_of records) packet more)
    ∙ ap (λ (l : List ℕ). gated (packets_of records ++ packet ∷ []) ++ l) (sym past) in (
      place ∙ ap (λ (ps : List (List ℕ)). length (gated ps)) (sym pushed),
      subst (λ ps. bytes ≡ gated ps ++ drop (at + (5 + length packet)) bytes) (sym pushed) split,
    )
