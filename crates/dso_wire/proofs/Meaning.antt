-- What decoding answers, by the grammar.
use Rattle.std.proofs.Common.{◌≡◌, ℕ, suc, ◌-◌, List, [], ◌∷◌, ◌++◌, length, Result, Ok, Err, refl, sym, ap, subst, ◌∙◌, arith, inl, inr}
use Rattle.std.proofs.lemmas.List.{length-append, append-nil}
use Rattle.dso_wire.specs.declared.fault.WireFault.{WireFault}
use Rattle.dso_wire.specs.declared.fault.Wrong.{Wrong}
use Rattle.dso_wire.specs.declared.fault.Wrong.TheVariants as wrong
use Rattle.dso_wire.specs.Cells.{Cell, Mark, Tag, Ranged, bytes_of}
use Rattle.dso_wire.specs.Reading.{Reader, wrong_told}
use Rattle.dso_wire.specs.Faults.{told, whole, IsAnswer, GoesWrong, HasRest, Means}
use Rattle.dso_wire.proofs.Bytes.{IsBytes}
use Rattle.dso_wire.specs.Laws.{IsOneToOne}
use Rattle.dso_wire.proofs.Exact.{Exact, ok_is}

pub length_bytes : (cells : List Cell) → length (bytes_of cells) ≡ length cells
length_bytes [] = refl
length_bytes (c ∷ cells) = ap suc (length_bytes cells)

module _ {A : Type 0} (reader : Reader A) (cells : A → List Cell) (Is : A → Type 0) (exact : Exact reader cells Is) where
  goes_wrong : (mark : Mark) (left : ℕ) (bytes : List ℕ) → IsBytes bytes → reader bytes ≡ Err (wrong_told mark left) → GoesWrong cells Is mark (length bytes - left) bytes
  goes_wrong mark left bytes fits e =
      let s = exact.stops bytes mark left fits e in
      record {
        front = s.front;
        byte = s.byte;
        rest = s.rest;
        stands = s.parts;
        at = omega (arith, ap length s.parts, length-append (bytes_of s.front) (s.byte ∷ s.rest), length_bytes s.front, s.left);
        thing = s.goes.thing;
        is = s.goes.is;
        due = s.goes.byte;
        behind = s.goes.behind;
        begins = s.goes.whole;
        none = λ other more is same.
            let stops = s.always more in
            let reads = exact.again other [] is in
            let there : reader (bytes_of s.front ++ s.byte ∷ more) ≡ Ok (other, []) = ap reader (sym (append-nil (bytes_of (cells other)) ∙ same)) ∙ reads in
            absurd cc;
      }

  has_rest : (bytes : List ℕ) (x : A) (b : ℕ) (rest : List ℕ) → IsBytes bytes → reader bytes ≡ Ok (x, b ∷ rest) → HasRest cells Is (length bytes - suc (length rest)) bytes
  has_rest bytes x b rest fits e =
      let t = exact.takes bytes x (b ∷ rest) fits e in
      (x, b, rest, t.1, omega (arith, ap length t.0.parts, length-append (bytes_of (cells x)) (b ∷ rest), length_bytes (cells x)), t.0.parts)

  means_of : (bytes : List ℕ) → IsBytes bytes → (read : Result (A × List ℕ) Wrong) → reader bytes ≡ read → Means cells Is bytes (told bytes read)
  means_of bytes fits (Ok (x, [])) e = let t = exact.takes bytes x [] fits e in (t.1, t.0.parts ∙ append-nil (bytes_of (cells x)))
  means_of bytes fits (Ok (x, b ∷ rest)) e = has_rest bytes x b rest fits e
  means_of bytes fits (Err wrong.Short) e = let s = exact.short bytes fits e in (s.thing, s.first, s.more, s.is, s.whole)
  means_of bytes fits (Err (wrong.Tag left)) e = goes_wrong Tag left bytes fits e
  means_of bytes fits (Err (wrong.Range left)) e = goes_wrong Ranged left bytes fits e

  pub means : (bytes : List ℕ) (answer : Result A WireFault) → IsBytes bytes → IsAnswer answer (whole reader bytes) → Means cells Is bytes answer
  means bytes answer fits (inl none) = subst (Means cells Is bytes) (sym none.1) tt
  means bytes answer fits (inr due) = subst (Means cells Is bytes) (sym due) (means_of bytes fits (reader bytes) refl)

  pub only : (bytes : List ℕ) (answer : Result A WireFault) (x : A) → IsAnswer answer (whole reader bytes) → Is x → bytes ≡ bytes_of (cells x) → IsAnswer answer (Ok x)
  only bytes answer x due is same =
      let read : reader bytes ≡ Ok (x, []) = ap reader (same ∙ sym (append-nil (bytes_of (cells x)))) ∙ exact.again x [] is in
      subst (λ (read : Result (A × List ℕ) Wrong). IsAnswer answer (told bytes read)) read due

  -- two things with the same bytes are one
  pub one_spelled : IsOneToOne cells Is
  one_spelled x y is_x is_y same =
      let again : Ok (x, []) ≡ Ok (y, []) = sym (exact.again x [] is_x) ∙ ap (λ (text : List ℕ). reader (text ++ [])) same ∙ exact.again y [] is_y in
      ap (λ (p : A × List ℕ). p.0) (ok_is (x, []) (y, []) again)
