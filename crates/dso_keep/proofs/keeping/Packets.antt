-- Which packets a file reads as.
use Rattle.std.proofs.Common.{◌≡◌, ◌≢◌, ◌⊎◌, inl, inr, ℕ, ◌+◌, ◌<◌, ◌^◌, List, [], ◌∷◌, ◌++◌, length, length-append, refl, sym, ◌∙◌, ap, subst, arith, append_assoc, Option}
use Rattle.std.specs.List.{AllByRecursion}
use Rattle.std.specs.Int.{to_be_bytes, w32}
use Rattle.std.proofs.lemmas.Bool.{cases_eq}
use Rattle.std.proofs.lemmas.List.{append-nil}
use Rattle.dso_keep.specs.Disk.{File}
use Rattle.dso_keep.specs.Packets.{sized, gated, file_of, IsShut, HasPackets, ReadsAs, IsStaged, IsKept}

-- each has a length of four bytes
abbrev pub AreShort : List (List ℕ) → Type 0
AreShort packets = AllByRecursion (λ packet. length packet < 2 ^ 32) packets

pub gated-push : (packets : List (List ℕ)) (packet rest : List ℕ) → gated (packets ++ packet ∷ []) ++ rest ≡ gated packets ++ (1 ∷ sized packet ++ rest)
gated-push [] packet rest = ap (λ (l : List ℕ). 1 ∷ l ++ rest) (append-nil (sized packet))
gated-push (p ∷ packets) packet rest =
    let tail : List ℕ = 1 ∷ sized packet ++ rest in
    let one : (sized p ++ gated (packets ++ packet ∷ [])) ++ rest ≡ sized p ++ (gated (packets ++ packet ∷ []) ++ rest) = append_assoc (sized p) (gated (packets ++ packet ∷ [])) rest in
    let two : sized p ++ (gated (packets ++ packet ∷ []) ++ rest) ≡ sized p ++ (gated packets ++ tail) = ap (λ (l : List ℕ). sized p ++ l) (gated-push packets packet rest) in
    let three : sized p ++ (gated packets ++ tail) ≡ (sized p ++ gated packets) ++ tail = sym (append_assoc (sized p) (gated packets) tail) in
    ap (λ (l : List ℕ). 1 ∷ l) (one ∙ two ∙ three)

-- the next gate stands behind the packet's length and the packet
pub gate_of-push : (packets : List (List ℕ)) (packet : List ℕ) → length (gated (packets ++ packet ∷ [])) ≡ length (gated packets) + 5 + length packet
gate_of-push packets packet =
    let whole : length (gated (packets ++ packet ∷ []) ++ []) ≡ length (gated packets ++ (1 ∷ sized packet ++ [])) = ap length (gated-push packets packet []) in
    let left : length (gated (packets ++ packet ∷ []) ++ []) ≡ length (gated (packets ++ packet ∷ [])) = ap length (append-nil (gated (packets ++ packet ∷ []))) in
    let right : length (gated packets ++ (1 ∷ sized packet ++ [])) ≡ length (gated packets) + length (1 ∷ sized packet ++ []) = length-append (gated packets) (1 ∷ sized packet ++ []) in
    let tail : length (sized packet ++ []) ≡ length (sized packet) = ap length (append-nil (sized packet)) in
    let four : length (sized packet) ≡ 4 + length packet = length-append (to_be_bytes w32 (length packet)) packet in
    omega (arith, whole, left, right, tail, four)

has_packets : (packets : List (List ℕ)) (rest : List ℕ) → AreShort packets → IsShut rest → HasPackets (gated packets ++ rest) packets
has_packets [] rest short shut = shut
has_packets (packet ∷ packets) rest short shut =
    (short.0, gated packets ++ rest, ap (λ (l : List ℕ). 1 ∷ l) (append_assoc (sized packet) (gated packets) rest), has_packets packets rest short.1 shut)

-- behind whole packets no gate is open
pub reads : (packets : List (List ℕ)) (rest : List ℕ) → AreShort packets → IsShut rest → ReadsAs (gated packets ++ rest) packets
reads [] [] short shut = refl
reads [] (a ∷ []) short shut = refl
reads [] (a ∷ b ∷ rest) short shut = shut
reads (packet ∷ packets) rest short shut = has_packets (packet ∷ packets) rest short shut

pub short-push : (packets : List (List ℕ)) (packet : List ℕ) → AreShort packets → length packet < 2 ^ 32 → AreShort (packets ++ packet ∷ [])
short-push [] packet short is = (is, tt)
short-push (p ∷ packets) packet short is = (short.0, short-push packets packet short.1 is)

module _ (packets : List (List ℕ)) (packet : List ℕ) (short : AreShort packets) (is_short : length packet < 2 ^ 32) where
  by_gate : (gate : ℕ) → (gate ≡ 1) ⊎ (gate ≢ 1) → ReadsAs (gated packets ++ (gate ∷ sized packet ++ 0 ∷ [])) packets ⊎ ReadsAs (gated packets ++ (gate ∷ sized packet ++ 0 ∷ [])) (packets ++ packet ∷ [])
  by_gate gate (inl is) = inr (subst (λ left. ReadsAs left (packets ++ packet ∷ [])) (gated-push packets packet (0 ∷ []) ∙ ap (λ (g : ℕ). gated packets ++ (g ∷ sized packet ++ 0 ∷ [])) (sym is))
      (reads (packets ++ packet ∷ []) (0 ∷ []) (short-push packets packet short is_short) (omega arith)))
  by_gate gate (inr shut) = inl (reads packets (gate ∷ sized packet ++ 0 ∷ []) short shut)

  -- what a crash leaves reads as the packets, or as these and the new one
  pub before_or_after : (left : List ℕ) → IsStaged (gated packets) (sized packet ++ 0 ∷ []) left → (ReadsAs left packets) ⊎ (ReadsAs left (packets ++ packet ∷ []))
  before_or_after left (inl rest) = subst (λ l. ReadsAs l packets ⊎ ReadsAs l (packets ++ packet ∷ [])) (sym rest.1) (inl (reads packets (0 ∷ rest.0) short (omega arith)))
  before_or_after left (inr gate) = subst (λ l. ReadsAs l packets ⊎ ReadsAs l (packets ++ packet ∷ [])) (sym gate.1) (by_gate gate.0 (cases_eq gate.0 1))

  pub kept_more : (file : Option File) → IsKept (gated packets ++ (1 ∷ sized packet ++ 0 ∷ [])) file → IsKept (file_of (packets ++ packet ∷ [])) file
  kept_more file kept = subst (λ bytes. IsKept bytes file) (sym (gated-push packets packet (0 ∷ []))) kept

  pub gate_more : (gate : ℕ) → gate ≡ length (gated packets) → gate + 5 + length packet ≡ length (gated (packets ++ packet ∷ []))
  gate_more gate is = omega (arith, is, gate_of-push packets packet)
