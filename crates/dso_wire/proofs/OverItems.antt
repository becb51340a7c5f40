-- Reading items one after the other, as a loop does.
use Rattle.std.proofs.Common.{◌≡◌, ℕ, suc, ◌-◌, ◌+◌, ◌≤◌, ◌<◌, List, [], ◌∷◌, ◌++◌, Result, Ok, Err, refl, sym, ap, ◌∙◌, append_assoc, arith}
use Rattle.std.specs.List.{flat_map}
use Rattle.std.proofs.lemmas.List.{append-nil}
use Rattle.dso_wire.specs.declared.fault.Wrong.{Wrong}
use Rattle.dso_wire.specs.declared.fault.ReadFault.{ReadFault}
use Rattle.dso_wire.specs.declared.fault.ReadFault.TheVariants as faults
use Rattle.dso_wire.specs.Cells.{Cell, bytes_of}
use Rattle.dso_wire.specs.Reading.{◌>>=◌, Reader, Fails, items_at}
use Rattle.dso_wire.proofs.Exact.{bytes-append}

-- what was read before, and what is still read
abbrev pub with_front : {A : Type 0} → List A → Result (List A × List ℕ) Wrong → Result (List A × List ℕ) Wrong
with_front front read = read >>= λ x. Ok (front ++ x.0, x.1)

module _ {A : Type 0} (reader : Reader A) where
  abbrev beside : A → List A × List ℕ → Result ((A × List A) × List ℕ) Wrong
  beside n y = Ok ((n, y.0), y.1)

  abbrev before : (A × List A) × List ℕ → Result (List A × List ℕ) Wrong
  before x = Ok (x.0.0 ∷ x.0.1, x.1)

  regroup : (front : List A) (n : A) (read : Result (List A × List ℕ) Wrong) → with_front front ((read >>= beside n) >>= before) ≡ with_front (front ++ n ∷ []) read
  regroup front n (Ok x) = ap (λ (ns : List A). Ok (ns, x.1)) (simp append_assoc)
  regroup front n (Err f) = refl

  pub goes_on : (front : List A) (count i : ℕ) (bytes : List ℕ) (n : A) (after : List ℕ) (total : Result (List A × List ℕ) Wrong) → i < count → reader bytes ≡ Ok (n, after)
      → with_front front (items_at reader (count - i) bytes) ≡ total → with_front (front ++ n ∷ []) (items_at reader (count - (i + 1)) after) ≡ total
  unfolding items_at
  goes_on front count i bytes n after total lt h so_far =
      let k : count - i ≡ suc (count - (i + 1)) = omega arith in
      let one : with_front front (items_at reader (count - i) bytes) ≡ with_front (front ++ n ∷ []) (items_at reader (count - (i + 1)) after) = rw (k, h) (regroup front n (items_at reader (count - (i + 1)) after)) in
      sym one ∙ so_far

  pub ends : (e : ReadFault) (front : List A) (count i : ℕ) (bytes : List ℕ) (total : Result (List A × List ℕ) Wrong) → i < count → Fails e (reader bytes)
      → with_front front (items_at reader (count - i) bytes) ≡ total → Fails e total
  unfolding items_at
  ends (faults.NoMemory refused) front count i bytes total lt h so_far = tt
  ends (faults.Wrong f) front count i bytes total lt h so_far =
      let k : count - i ≡ suc (count - (i + 1)) = omega arith in
      let one : with_front front (items_at reader (count - i) bytes) ≡ Err f = rw (k, h) refl in
      sym so_far ∙ one

  pub is_done : (front : List A) (count i : ℕ) (bytes : List ℕ) (total : Result (List A × List ℕ) Wrong) → count ≤ i → with_front front (items_at reader (count - i) bytes) ≡ total → total ≡ Ok (front, bytes)
  unfolding items_at
  is_done front count i bytes total le so_far =
      let k : count - i ≡ 0 = omega arith in
      let one : with_front front (items_at reader (count - i) bytes) ≡ Ok (front, bytes) = rw k (ap (λ (ns : List A). Ok (ns, bytes)) (append-nil front)) in
      sym so_far ∙ one

-- the bytes of a list are those of its items
pub bytes_flat : {A : Type 0} (cells : A → List Cell) (items : List A) → bytes_of (flat_map cells items) ≡ flat_map (λ item. bytes_of (cells item)) items
bytes_flat cells [] = refl
bytes_flat cells (x ∷ items) = bytes-append (cells x) (flat_map cells items) ∙ ap (λ (text : List ℕ). bytes_of (cells x) ++ text) (bytes_flat cells items)

-- one thing put behind another
pub put_behind : (x y : List Cell) (old between new : List ℕ) → between ≡ old ++ bytes_of x → new ≡ between ++ bytes_of y → new ≡ old ++ bytes_of (x ++ y)
put_behind x y old between new first second =
    second ∙ ap (λ (text : List ℕ). text ++ bytes_of y) first ∙ append_assoc old (bytes_of x) (bytes_of y) ∙ ap (λ (text : List ℕ). old ++ text) (sym (bytes-append x y))
