-- The first of the records that aren't acknowledged has the least number.
use Rattle.std.specs.List.{list_any}
use Rattle.std.proofs.Common.{◌≡◌, ℕ, suc, ◌≤◌, ◌<◌, refl, sym, ◌∙◌, ap, Bool, true, false, eqb, ◌||◌, List, [], ◌∷◌, arith}
use Rattle.std.proofs.lemmas.Bool.{eqb-true, eq-eqb}
use Rattle.dso_base.specs.declared.record.Txn.{Txn}
use Rattle.dso_law.specs.FitsDown.{FitsAck}
use Rattle.dso_law.specs.RunLaws.{NumberedFrom}
use Rattle.dso_txn.specs.Numbers.{IsLeast}

-- the numbers of these records
abbrev pub among : List Txn → ℕ → Bool
among txns n = list_any (λ txn. eqb txn.seq n) txns

-- each of consecutive numbers is behind the one before the first
above : (k : ℕ) (txns : List Txn) (n : ℕ) → NumberedFrom k txns → among txns n ≡ true → k < n
above k [] n h e = absurd (cc e)
above k (txn ∷ txns) n h e = by (eqb txn.seq n) refl e (above (suc k) txns n h.1)
  where
    by : (b : Bool) → eqb txn.seq n ≡ b → (b || among txns n) ≡ true → (among txns n ≡ true → suc k < n) → k < n
    by true is e rest =
        let same = eqb-true txn.seq n is in
        let first = h.0 in
        omega (arith, same, first)
    by false is e rest =
        let more = rest e in
        omega (arith, more)

-- the first number is among them
first_among : (txn : Txn) (txns : List Txn) → among (txn ∷ txns) txn.seq ≡ true
first_among txn txns = ap (λ b. b || among txns txn.seq) (eq-eqb txn.seq txn.seq refl)

-- an acknowledgement of the least number fits, and no other
pub least_fits : (k : ℕ) (txns : List Txn) (least seq : ℕ) (numbers : ℕ → Bool) → NumberedFrom k txns → ((n : ℕ) → numbers n ≡ among txns n) → IsLeast least numbers
    → (eqb least seq ≡ true → FitsAck seq txns) × (FitsAck seq txns → eqb least seq ≡ true)
least_fits k [] least seq numbers h same is = absurd (cc (sym is.kept ∙ same least))
least_fits k (txn ∷ txns) least seq numbers h same is =
    let most : least ≤ txn.seq = is.least txn.seq (same txn.seq ∙ first_among txn txns) in
    let over = above k (txn ∷ txns) least h (sym (same least) ∙ is.kept) in
    let first = h.0 in
    let it : least ≡ txn.seq = omega (arith, most, over, first) in
    ((λ e. sym (eqb-true least seq e) ∙ it), (λ f. eq-eqb least seq (it ∙ sym f)))

-- where no number is kept, none fits
pub none_fits : (txns : List Txn) (seq : ℕ) (numbers : ℕ → Bool) → ((n : ℕ) → numbers n ≡ among txns n) → ((n : ℕ) → numbers n ≡ false) → FitsAck seq txns → ⊥
none_fits [] seq numbers same none f = f
none_fits (txn ∷ txns) seq numbers same none f = absurd (cc (sym (none txn.seq) ∙ (same txn.seq ∙ first_among txn txns)))

-- none of those behind the first has its number
pub not_behind : (k : ℕ) (txn : Txn) (txns : List Txn) → NumberedFrom k (txn ∷ txns) → among txns txn.seq ≡ false
not_behind k txn txns h = by (among txns txn.seq) refl
  where
    by : (b : Bool) → among txns txn.seq ≡ b → b ≡ false
    by false e = refl
    by true e =
        let more = above (suc k) txns txn.seq h.1 e in
        let first = h.0 in
        absurd (omega (arith, more, first))

-- the first has the least number
pub first_is_least : (k : ℕ) (txns : List Txn) (seq : ℕ) (numbers : ℕ → Bool) → NumberedFrom k txns → ((n : ℕ) → numbers n ≡ among txns n) → FitsAck seq txns → IsLeast seq numbers
first_is_least k [] seq numbers h same fits = absurd fits
first_is_least k (txn ∷ txns) seq numbers h same fits = record {
  kept = ap numbers fits ∙ (same txn.seq ∙ first_among txn txns);
  least = λ n e.
      let over = above k (txn ∷ txns) n h (sym (same n) ∙ e) in
      let first = h.0 in
      omega (arith, over, first, fits);
}
