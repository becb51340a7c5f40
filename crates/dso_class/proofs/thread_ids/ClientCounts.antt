-- How many threads of a client there are.
use Rattle.std.proofs.Common.{◌≡◌, refl, sym, ap, ◌∙◌, subst, ℕ, ◌+◌, ◌<◌, ◌≤◌, ◌^◌, arith, ℤ, pos, negsuc, leb, Bool, true, false, ◌&&◌, List, length, take, get_or, count_by, leb-false}
use Rattle.std.proofs.lemmas.List.{take_all}
use Rattle.std.proofs.lemmas.List.Sums.{count_by_more_yes, count_by_more_no}
use Rattle.std.proofs.lemmas.Int.{to_z-of_z, to_z_pos}
use mir.Val.{SFits, of_z, to_z}
use mir.Syntax.{w64}
use Rattle.dso_machine.specs.declared.code.ThreadBody.{ThreadBody}
use Rattle.dso_class.specs.Heads.{is_number}
use Rattle.dso_class.specs.TextWalk.{clients_in}
use Rattle.dso_class.proofs.faultless.Counts.{same_number, count_map}

-- whether a body is of a client of this number
abbrev pub is_of : ℤ → ThreadBody → Bool
is_of number body = is_number number (pos body.thread.client)

-- so many of the first bodies are of the client
pub record IsCountSoFar (number : ℤ) (bodies : List ThreadBody) (i count : ℕ) : Type 0 where
  pub counts : count ≡ count_by (is_of number) (take i bodies)
  pub few : count ≤ i

-- a number is itself
leb_itself : (a : ℕ) (b : Bool) → leb a a ≡ b → b ≡ true
leb_itself a true is = refl
leb_itself a false is = absurd (omega (arith, leb-false a a is))

pub is_itself : (number : ℤ) → is_number number number ≡ true
is_itself (pos a) = ap (λ b. b && b) (leb_itself a (leb a a) refl)
is_itself (negsuc a) = ap (λ b. b && b) (leb_itself a (leb a a) refl)

-- a number that is another one isn't this one
is_other : (number other : ℤ) (b : Bool) → is_number number other ≡ b → (other ≡ number → ⊥) → b ≡ false
is_other number other true is differs = absurd (differs (same_number number other is))
is_other number other false is differs = refl

-- no body yet
pub none_counted : (number : ℤ) (bodies : List ThreadBody) → IsCountSoFar number bodies 0 0
none_counted number bodies = record { counts = refl; few = omega arith }

module _ (number : ℤ) (bodies : List ThreadBody) (i : ℕ) (body : ThreadBody) (count : ℕ) (below : i < length bodies) (is : body ≡ get_or bodies i body) (so_far : IsCountSoFar number bodies i count) where
  -- one body more, of the client, and of another
  pub one_counted : pos body.thread.client ≡ number → IsCountSoFar number bodies (i + 1) (count + 1)
  one_counted same = record {
    counts = ap (λ n. n + 1) so_far.counts ∙ sym (count_by_more_yes (is_of number) bodies i body below
        (subst (λ one. is_of number one ≡ true) is (subst (λ n. is_number number n ≡ true) (sym same) (is_itself number))));
    few = omega (arith, so_far.few);
  }

  pub none_more : (pos body.thread.client ≡ number → ⊥) → IsCountSoFar number bodies (i + 1) count
  none_more differs = record {
    counts = so_far.counts ∙ sym (count_by_more_no (is_of number) bodies i body below
        (subst (λ one. is_of number one ≡ false) is (is_other number (pos body.thread.client) (is_of number body) refl differs)));
    few = omega (arith, so_far.few);
  }

-- all bodies
pub all_counted : (number : ℤ) (bodies : List ThreadBody) (i count : ℕ) → length bodies ≤ i → IsCountSoFar number bodies i count → count ≡ count_by (is_number number) (clients_in bodies)
all_counted number bodies i count all so_far =
    so_far.counts ∙ ap (count_by (is_of number)) (take_all i bodies all) ∙ sym (count_map (λ body. pos body.thread.client) number bodies)

-- the same number, as it is passed
pub same_passed : (client : ℕ) (one number : ℤ) → one ≡ pos client → client < 2 ^ 63 → of_z w64 one ≡ of_z w64 number → pos client ≡ to_z w64 (of_z w64 number)
same_passed client one number is fits same = sym (to_z_pos w64 client fits) ∙ ap (to_z w64) (ap (of_z w64) (sym is) ∙ same)

pub other_passed : (client : ℕ) (one number : ℤ) → one ≡ pos client → SFits w64 number → (of_z w64 one ≡ of_z w64 number → ⊥) → pos client ≡ to_z w64 (of_z w64 number) → ⊥
other_passed client one number is fits differs same = differs (ap (of_z w64) (is ∙ same ∙ to_z-of_z w64 number fits))
