-- A file reads as one list of packets at most.
use Rattle.std.proofs.Common.{◌≡◌, ℕ, List, [], ◌∷◌, ◌++◌, drop, refl, sym, ◌∙◌, ap, subst, append_assoc}
use Rattle.dso_keep.specs.Packets.{IsShut, HasPackets, ReadsAs, gated, sized}
use Rattle.dso_keep.proofs.behind.Gates.{same_packet}
use Rattle.dso_keep.proofs.keeping.Packets.{AreShort}

shut_or_open : (bytes tail : List ℕ) → IsShut bytes → bytes ≡ 1 ∷ tail → ⊥
shut_or_open [] tail shut is = absurd (cc is)
shut_or_open (gate ∷ rest) tail shut is = shut (cc is)

once : (bytes : List ℕ) (xs ys : List (List ℕ)) → HasPackets bytes xs → HasPackets bytes ys → xs ≡ ys
once bytes [] [] a b = refl
once bytes [] (y ∷ ys) a b = absurd (shut_or_open bytes (sized y ++ b.1) a b.2)
once bytes (x ∷ xs) [] a b = absurd (shut_or_open bytes (sized x ++ a.1) b a.2)
once bytes (x ∷ xs) (y ∷ ys) a b =
    let tails : sized x ++ a.1 ≡ sized y ++ b.1 = ap (λ (l : List ℕ). drop 1 l) (sym a.2 ∙ b.2) in
    let same = same_packet x y a.1 b.1 a.0 b.0 tails in
    let rest : xs ≡ ys = once a.1 xs ys a.3 (subst (λ l. HasPackets l ys) (sym same.1) b.3) in
    λ i. same.0 i ∷ rest i

pub reads_once : (bytes : List ℕ) (xs ys : List (List ℕ)) → ReadsAs bytes xs → ReadsAs bytes ys → xs ≡ ys
reads_once [] xs ys a b = a ∙ sym b
reads_once (x ∷ []) xs ys a b = a ∙ sym b
reads_once (x ∷ y ∷ bytes) xs ys a b = once (x ∷ y ∷ bytes) xs ys a b

-- The packets go on with one behind an open gate.
pub record GoOn (packets others : List (List ℕ)) (rest : List ℕ) : Type 0 where
  pub next : List ℕ
  pub more : List (List ℕ)
  pub whole : others ≡ packets ++ next ∷ more
  pub behind : List ℕ
  pub own : rest ≡ sized next ++ behind

pub go_on : (packets others : List (List ℕ)) (rest : List ℕ) → AreShort packets → HasPackets (gated packets ++ (1 ∷ rest)) others → GoOn packets others rest
go_on [] [] rest short has = absurd (has refl)
go_on [] (next ∷ more) rest short has = record { next = next; more = more; whole = refl; behind = has.1; own = ap (λ (l : List ℕ). drop 1 l) has.2 }
go_on (packet ∷ packets) [] rest short has = absurd (has refl)
go_on (packet ∷ packets) (other ∷ others) rest short has =
    let whole : sized packet ++ (gated packets ++ (1 ∷ rest)) ≡ sized other ++ has.1 =
    sym (append_assoc (sized packet) (gated packets) (1 ∷ rest)) ∙ ap (λ (l : List ℕ). drop 1 l) has.2 in
    let same = same_packet packet other (gated packets ++ (1 ∷ rest)) has.1 short.0 has.0 whole in
    let further = go_on packets others rest short.1 (subst (λ l. HasPackets l others) (sym same.1) has.3) in
    record {
      next = further.next;
      more = further.more;
      whole = λ i. sym same.0 i ∷ further.whole i;
      behind = further.behind;
      own = further.own;
    }
