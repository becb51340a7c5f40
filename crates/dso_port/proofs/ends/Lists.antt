-- Lists with items behind them, and the Hellos among frames.
use Rattle.std.specs.List.{AllByRecursion}
use Rattle.std.proofs.Common.{ℕ, zero, suc, ◌≤◌, ◌≡◌, refl, ap, subst, Some, List, [], ◌∷◌, ◌++◌, length, slice_get, arith}
use Rattle.dso_session.specs.declared.frame.Frame.{Frame}
use Rattle.dso_session.specs.declared.frame.Frame.TheVariants.{Carry, Hello}
use Rattle.dso_port.specs.Frames.{hellos}

module _ {X : Type 0} where
  pub all_more : (P : X → Type 0) (xs : List X) (x : X) → AllByRecursion P xs → P x → AllByRecursion P (xs ++ x ∷ [])
  all_more P [] x all its = (its, tt)
  all_more P (y ∷ xs) x all its = (all.0, all_more P xs x all.1 its)

  pub all_at : (P : X → Type 0) (xs : List X) (place : ℕ) (x : X) → AllByRecursion P xs → slice_get xs place ≡ Some x → P x
  all_at P [] place x all at = absurd (cc at)
  all_at P (y ∷ xs) zero x all at = let same : y ≡ x = cc at in subst P same all.0
  all_at P (y ∷ xs) (suc place) x all at = all_at P xs place x all.1 at

  pub at_front : (xs more : List X) (place : ℕ) (x : X) → slice_get xs place ≡ Some x → slice_get (xs ++ more) place ≡ Some x
  at_front [] more place x at = absurd (cc at)
  at_front (y ∷ xs) more zero x at = at
  at_front (y ∷ xs) more (suc place) x at = at_front xs more place x at

  pub at_end : (xs : List X) (x : X) → slice_get (xs ++ x ∷ []) (length xs) ≡ Some x
  at_end [] x = refl
  at_end (y ∷ xs) x = at_end xs x

module _ {M : Type 0} where
  pub more_hellos : (frames more : List (Frame M)) → hellos frames ≤ hellos (frames ++ more)
  more_hellos [] more = omega arith
  more_hellos (Hello epoch seen clock ∷ frames) more = omega (arith, more_hellos frames more)
  more_hellos (Carry epoch number seen clock message ∷ frames) more = more_hellos frames more

  pub one_hello : (frames : List (Frame M)) (epoch seen clock : ℕ) → hellos (frames ++ Hello epoch seen clock ∷ []) ≡ suc (hellos frames)
  one_hello [] epoch seen clock = refl
  one_hello (Hello e s c ∷ frames) epoch seen clock = ap suc (one_hello frames epoch seen clock)
  one_hello (Carry e n s c m ∷ frames) epoch seen clock = one_hello frames epoch seen clock

  pub no_hello : (frames : List (Frame M)) (epoch number seen clock : ℕ) (message : M) → hellos (frames ++ Carry epoch number seen clock message ∷ []) ≡ hellos frames
  no_hello [] epoch number seen clock message = refl
  no_hello (Hello e s c ∷ frames) epoch number seen clock message = ap suc (no_hello frames epoch number seen clock message)
  no_hello (Carry e n s c m ∷ frames) epoch number seen clock message = no_hello frames epoch number seen clock message
