-- A word before and behind its first `=`.
use Rattle.std.proofs.Common.{arith, ◌≡◌, ◌∙◌, sym, ℕ, suc, ◌+◌, ◌<◌, Bool, true, false, ◌==◌, List, [], ◌∷◌, ◌++◌, length, take, drop, Option, Some, None, refl, ap}
use Rattle.std.specs.List.{position_or_len, before_first, after_first}
use Rattle.std.specs.Option.{option_map}
use Rattle.std.proofs.lemmas.Bool.{eqb-true}
use Rattle.dso_command_line.specs.WordReading.{parted}

-- the place of the first `=`, or the length
abbrev place : List ℕ → ℕ
place s = position_or_len (λ b. b == 61) s

-- the parts with one byte more in front
abbrev further : ℕ → List ℕ × List ℕ → List ℕ × List ℕ
further b parts = (b ∷ parts.0, parts.1)

-- one byte in front of a word without `=`, by whether it is one
none-front : (b : ℕ) (rest : List ℕ) (t : Bool) → (b == 61) ≡ t → (place rest ≡ length rest → parted rest ≡ None)
    → place (b ∷ rest) ≡ suc (length rest) → parted (b ∷ rest) ≡ None
none-front b rest true is ih at_end = absurd (omega (arith, rw is at at_end))
none-front b rest false is ih at_end = rw is (ap (option_map (further b)) (ih (omega (arith, rw is at at_end))))

-- where no byte is `=` there are no parts
pub parted-none : (s : List ℕ) → place s ≡ length s → parted s ≡ None
parted-none [] at_end = refl
parted-none (b ∷ rest) at_end = none-front b rest (b == 61) refl (parted-none rest) at_end

-- the parts of a word, by the place of its first `=`
abbrev parts_at : ℕ → List ℕ → List ℕ × List ℕ
parts_at n s = (take n s, drop (n + 1) s)

-- one byte in front of a word with `=`, by whether it is one
some-front : (b : ℕ) (rest : List ℕ) (t : Bool) → (b == 61) ≡ t → (place rest < length rest → parted rest ≡ Some (parts_at (place rest) rest))
    → place (b ∷ rest) < suc (length rest) → parted (b ∷ rest) ≡ Some (parts_at (place (b ∷ rest)) (b ∷ rest))
some-front b rest true is ih within = rw is refl
some-front b rest false is ih within =
    let one : place (b ∷ rest) ≡ suc (place rest) = rw is (omega arith) in
    let next : suc (place rest) + 1 ≡ suc (place rest + 1) = omega arith in
    let front : parted (b ∷ rest) ≡ Some (further b (parts_at (place rest) rest)) = rw is (ap (option_map (further b)) (ih (omega (arith, rw is at within)))) in
    let parts : parts_at (suc (place rest)) (b ∷ rest) ≡ further b (parts_at (place rest) rest) = rw next refl in
    front ∙ ap Some (sym parts ∙ ap (λ n. parts_at n (b ∷ rest)) (sym one))

-- where a byte is `=` they stand round the first one
pub parted-some : (s : List ℕ) → place s < length s → parted s ≡ Some (before_first (λ b. b == 61) s, after_first (λ b. b == 61) s)
parted-some [] within = absurd (omega arith)
parted-some (b ∷ rest) within = some-front b rest (b == 61) refl (parted-some rest) within

-- one byte in front of a word with parts, by whether it is `=` and by the parts behind it
joins-front : (b : ℕ) (rest : List ℕ) (parts : List ℕ × List ℕ) (t : Bool) → (b == 61) ≡ t
    → (behind : Option (List ℕ × List ℕ)) → parted rest ≡ behind
    → ((q : List ℕ × List ℕ) → parted rest ≡ Some q → rest ≡ q.0 ++ 61 ∷ q.1)
    → parted (b ∷ rest) ≡ Some parts → b ∷ rest ≡ parts.0 ++ 61 ∷ parts.1
joins-front b rest parts true is behind at ih given =
    let here : parted (b ∷ rest) ≡ Some ([], rest) = rw is refl in
    let same : parts ≡ ([], rest) = cc (here, given) in
    let equals : b ≡ 61 = eqb-true b 61 is in
    rw same (rw equals refl)
joins-front b rest parts false is None at ih given =
    let here : parted (b ∷ rest) ≡ None = rw is (ap (option_map (further b)) at) in cc (here, given)
joins-front b rest parts false is (Some q) at ih given =
    let here : parted (b ∷ rest) ≡ Some (further b q) = rw is (ap (option_map (further b)) at) in
    let same : parts ≡ further b q = cc (here, given) in
    rw same (ap (λ word. b ∷ word) (ih q at))

-- the word of parts is one, `=`, and the other
pub parted-joins : (s : List ℕ) (parts : List ℕ × List ℕ) → parted s ≡ Some parts → s ≡ parts.0 ++ 61 ∷ parts.1
parted-joins [] parts is = cc is
parted-joins (b ∷ rest) parts is = joins-front b rest parts (b == 61) refl (parted rest) refl (parted-joins rest) is
