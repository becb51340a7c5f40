-- Threads whose indices count those of their client, with one thread more.
use Rattle.std.proofs.Common.{◌≡◌, ◌⊎◌, inl, inr, refl, sym, ap, ◌∙◌, subst, ℕ, zero, suc, ℤ, pos, unsigned_abs, Bool, true, false, List, [], ◌∷◌, ◌++◌, take, count_by, slice_get, eqb, Some}
use Rattle.std.proofs.Math.Path.{fun_ext}
use Rattle.std.proofs.lemmas.Bool.{eqb-true, eq-eqb, false≢true}
use Rattle.std.proofs.lemmas.Option.{none-some, same_Some}
use Rattle.dso_machine.specs.declared.code.ThreadBody.{ThreadBody}
use Rattle.dso_class.specs.Heads.{is_number}
use Rattle.dso_class.specs.TextProgram.{AreCounted}
use Rattle.dso_class.specs.TextWalk.{clients_in}
use Rattle.dso_class.proofs.faultless.Counts.{same_number, count_map}
use Rattle.dso_class.proofs.thread_ids.ClientCounts.{is_itself}

-- what stands at a place of a list with one item more is of the list, or is the item behind it
at_push : {A : Type 0} (xs : List A) (x : A) (k : ℕ) (y : A) → slice_get (xs ++ x ∷ []) k ≡ Some y
    → ((slice_get xs k ≡ Some y) × (take k (xs ++ x ∷ []) ≡ take k xs)) ⊎ ((x ≡ y) × (take k (xs ++ x ∷ []) ≡ xs))
at_push [] x zero y is = inr (same_Some x y is, refl)
at_push [] x (suc k) y is = absurd (none-some y is)
at_push (z ∷ zs) x zero y is = inl (is, refl)
at_push (z ∷ zs) x (suc k) y is = elim (at_push zs x k y is) [
  | inl within ↦ inl (within.0, ap (λ rest. z ∷ rest) within.1)
  | inr last ↦ inr (last.0, ap (λ rest. z ∷ rest) last.1)
]

-- a client is of a number where the two are equal
same_test : (client other : ℕ) → is_number (pos client) (pos other) ≡ eqb other client
same_test client other = by (is_number (pos client) (pos other)) (eqb other client) refl refl
  where
    by : (a b : Bool) → is_number (pos client) (pos other) ≡ a → eqb other client ≡ b → a ≡ b
    by true true is same = refl
    by false false is same = refl
    by true false is same = absurd (false≢true (sym same ∙ eq-eqb other client (ap unsigned_abs (same_number (pos client) (pos other) is))))
    by false true is same = absurd (false≢true (sym is ∙ subst (λ n. is_number (pos client) n ≡ true) (ap pos (sym (eqb-true other client same))) (is_itself (pos client))))

-- as many threads of a client, by its number
same_count : (client : ℕ) (bodies : List ThreadBody) → count_by (is_number (pos client)) (clients_in bodies) ≡ count_by (λ other. eqb other.thread.client client) bodies
same_count client bodies =
    count_map (λ body. pos body.thread.client) (pos client) bodies
    ∙ ap (λ (test : ThreadBody → Bool). count_by test bodies) (fun_ext (λ (body : ThreadBody). same_test client body.thread.client))

-- one thread more, which is the next of its client
pub counted_more : (bodies : List ThreadBody) (body : ThreadBody) (number : ℤ) → number ≡ pos body.thread.client → body.thread.index ≡ suc (count_by (is_number number) (clients_in bodies))
    → AreCounted bodies → AreCounted (bodies ++ body ∷ [])
counted_more bodies body number of next counts place here stands = elim (at_push bodies body place here stands) [
  | inl within ↦
      subst (λ front. here.thread.index ≡ suc (count_by (λ other. eqb other.thread.client here.thread.client) front)) (sym within.1) (counts place here within.0)
  | inr last ↦
      subst (λ front. here.thread.index ≡ suc (count_by (λ other. eqb other.thread.client here.thread.client) front)) (sym last.1)
      (subst (λ (one : ThreadBody). one.thread.index ≡ suc (count_by (λ other. eqb other.thread.client one.thread.client) bodies)) last.0
      (next ∙ ap (λ n. suc (count_by (is_number n) (clients_in bodies))) of ∙ ap suc (same_count body.thread.client bodies)))
]
