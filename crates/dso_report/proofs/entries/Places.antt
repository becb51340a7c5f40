-- The place of the first item that passes a test, or behind all.
use Rattle.std.proofs.Common.{◌≡◌, refl, sym, ◌∙◌, inl, inr, ℕ, Bool, true, false, true≢false, cond, nat_lt, Some, None, List, length, arith}
use Rattle.std.specs.List.{position, position_or_len}
use Rattle.std.specs.Prelude.{not}
use Rattle.std.proofs.lemmas.Bool.{cases_lt, lt-ltb}
use Rattle.std.proofs.lemmas.List.Sums.{prefix_len-le-length}
use Rattle.std.proofs.lemmas.Option.{none-some, same_Some}

module _ {A : Type 0} (p : A → Bool) (xs : List A) where
  -- where a place is found it is that one
  is_place : (n : ℕ) (b : Bool) → cond b (Some (position_or_len p xs)) None ≡ Some n → n ≡ position_or_len p xs
  is_place n true is = sym (same_Some (position_or_len p xs) n is)
  is_place n false is = absurd (none-some n is)

  -- where none is found it is behind all
  is_behind : (b : Bool) → nat_lt (position_or_len p xs) (length xs) ≡ b → cond b (Some (position_or_len p xs)) None ≡ None → length xs ≡ position_or_len p xs
  is_behind true test is = absurd (none-some (position_or_len p xs) (sym is))
  is_behind false test is = elim (cases_lt (position_or_len p xs) (length xs)) [
    | inl less ↦ absurd (true≢false (sym (lt-ltb (position_or_len p xs) (length xs) less) ∙ test))
    | inr past ↦ omega (arith, past, prefix_len-le-length (λ x. not (p x)) xs)
  ]

  -- the place that is found
  pub place_found : (n : ℕ) → position p xs ≡ Some n → n ≡ position_or_len p xs
  place_found n is = is_place n (nat_lt (position_or_len p xs) (length xs)) is

  -- the place behind all, where none is found
  pub none_behind : (n : ℕ) → n ≡ length xs → position p xs ≡ None → n ≡ position_or_len p xs
  none_behind n all is = all ∙ is_behind (nat_lt (position_or_len p xs) (length xs)) refl is
