-- An end gives its frames one after the other.
use Rattle.std.proofs.Common.{ℕ, zero, suc, ◌+◌, ◌-◌, ◌≤◌, ◌≡◌, refl, sym, ◌∙◌, ap, Bool, true, false, cond, Option, Some, None, List, [], ◌∷◌, ◌++◌, drop, length, slice_get, subst, append_assoc, arith}
use Rattle.std.proofs.lemmas.List.{append-nil}
use Rattle.dso_world.proofs.links.Order.{order_behind}
use Rattle.dso_session.specs.declared.frame.Frame.{Frame}
use Rattle.dso_session.specs.declared.frame.Frame.TheVariants.{Carry, Hello}
use Rattle.dso_session.specs.declared.session.Posted.{Posted}
use Rattle.dso_session.specs.Ends.{End, IsInOrder, behind_frame, carrying, gone_on, next_frame}
use Rattle.dso_world.specs.Link.{carried, emptied, gives}

-- the item at a place is the first one from there on
pub from_here : {X : Type 0} (xs : List X) (i : ℕ) (x : X) → slice_get xs i ≡ Some x → drop i xs ≡ x ∷ drop (suc i) xs
from_here [] i x is = absurd (cc is)
from_here (y ∷ ys) zero x is = let same : y ≡ x = cc is in ap (λ z. z ∷ ys) same
from_here (y ∷ ys) (suc i) x is = from_here ys i x is

-- nothing is behind the last one
past_end : {X : Type 0} (xs : List X) (i : ℕ) → slice_get xs i ≡ None → (drop i xs ≡ []) × (length xs ≤ i)
past_end [] zero is = (refl, omega arith)
past_end [] (suc i) is = (refl, omega arith)
past_end (y ∷ ys) zero is = absurd (cc is)
past_end (y ∷ ys) (suc i) is = let rest = past_end ys i is in (rest.0, omega (arith, rest.1))

module _ {M : Type 0} where
  -- the end, with what it is to say
  abbrev told : End M → Bool → Bool → End M
  told end owes ready = record end { owes_hello = owes; is_ready = ready }

  -- the messages left begin with the one that goes
  carries : (end : End M) (frame : Frame M) → end.seen ≤ end.given → (next : Option (Posted M)) → slice_get end.kept (end.given - end.seen) ≡ next → carrying end next ≡ Some frame
      → carried end.epoch end.given end.accepted (drop (end.given - end.seen) end.kept) ≡ frame ∷ carried end.epoch (end.given + 1) end.accepted (drop (end.given + 1 - end.seen) end.kept)
  carries end frame order None get is = absurd (cc is)
  carries end frame order (Some one) get is =
      let same : Carry end.epoch (end.given + 1) end.accepted one.clock one.message ≡ frame = cc is in
      let further : suc (end.given - end.seen) ≡ end.given + 1 - end.seen = omega (arith, order) in
      ap (carried end.epoch end.given end.accepted) (from_here end.kept (end.given - end.seen) one get)
      ∙ ap (λ f. f ∷ carried end.epoch (end.given + 1) end.accepted (drop (suc (end.given - end.seen)) end.kept)) same
      ∙ ap (λ k. frame ∷ carried end.epoch (end.given + 1) end.accepted (drop k end.kept)) further

  -- the frame that goes is the first of those that the end can give
  pub goes_first : (end : End M) (frame : Frame M) → IsInOrder end → next_frame end ≡ Some frame → gives end ≡ frame ∷ gives (behind_frame end)
  goes_first end frame order is = by end.owes_hello end.is_ready is
    where
      next : (next : Option (Posted M)) → slice_get end.kept (end.given - end.seen) ≡ next → carrying (told end false true) next ≡ Some frame → gives (told end false true) ≡ frame ∷ gives (gone_on (told end false true) next)
      next None get is = absurd (cc is)
      next (Some one) get is = carries (told end false true) frame order.seen (Some one) get is

      by : (owes ready : Bool) → next_frame (told end owes ready) ≡ Some frame → gives (told end owes ready) ≡ frame ∷ gives (behind_frame (told end owes ready))
      by true ready is =
          let same : Hello end.epoch end.accepted end.clock ≡ frame = cc is in
          ap (λ f. f ∷ carried end.epoch end.given end.accepted (cond ready (drop (end.given - end.seen) end.kept) [])) same
      by false false is = absurd (cc is)
      by false true is = next (slice_get end.kept (end.given - end.seen)) refl is

  -- and where none goes there is none
  pub none_goes : (end : End M) → IsInOrder end → next_frame end ≡ None → (gives end ≡ []) × (emptied end ≡ end) × (behind_frame end ≡ end)
  none_goes end order is = by end.owes_hello end.is_ready is
    where
      next : (next : Option (Posted M)) → slice_get end.kept (end.given - end.seen) ≡ next → carrying (told end false true) next ≡ None → (gives (told end false true) ≡ []) × (emptied (told end false true) ≡ told end false true) × (gone_on (told end false true) next ≡ told end false true)
      next (Some one) get is = absurd (cc is)
      next None get is =
          let past = past_end end.kept (end.given - end.seen) get in
          let all : end.seen + length end.kept ≡ end.given = omega (arith, past.1, order.seen, order.given) in
          (ap (carried end.epoch end.given end.accepted) past.0, ap (λ given. record (told end false true) { given = given }) all, refl)

      by : (owes ready : Bool) → next_frame (told end owes ready) ≡ None → (gives (told end owes ready) ≡ []) × (emptied (told end owes ready) ≡ told end owes ready) × (behind_frame (told end owes ready) ≡ told end owes ready)
      by true ready is = absurd (cc is)
      by false false is = (refl, refl, refl)
      by false true is = next (slice_get end.kept (end.given - end.seen)) refl is

  pub emptied_behind : (end : End M) → emptied (behind_frame end) ≡ emptied end
  emptied_behind end = by end.owes_hello end.is_ready
    where
      next : (next : Option (Posted M)) → emptied (gone_on (told end false true) next) ≡ emptied (told end false true)
      next None = refl
      next (Some one) = refl

      by : (owes ready : Bool) → emptied (behind_frame (told end owes ready)) ≡ emptied (told end owes ready)
      by true true = refl
      by true false = refl
      by false false = refl
      by false true = next (slice_get end.kept (end.given - end.seen))

  module _ (end new : End M) (next : Option (Frame M)) (order : IsInOrder end) (goes : next ≡ next_frame end) (after : new ≡ behind_frame end) where
    -- a frame goes
    module _ (frame : Frame M) (is : next ≡ Some frame) where
      pub one_goes : gives end ≡ frame ∷ gives new
      one_goes = goes_first end frame order (sym goes ∙ is) ∙ ap (λ e. frame ∷ gives e) (sym after)

      pub fewer_go : suc (length (gives new)) ≤ length (gives end)
      fewer_go = omega (arith, ap length one_goes)

      pub all_go : (before now : List (Frame M)) → now ≡ before ++ frame ∷ [] → now ++ gives new ≡ before ++ gives end
      all_go before now one_more = ap (λ list. list ++ gives new) one_more ∙ append_assoc before (frame ∷ []) (gives new) ∙ ap (λ list. before ++ list) (sym one_goes)

    pub emptied_same : emptied new ≡ emptied end
    emptied_same = ap emptied after ∙ emptied_behind end

    pub order_new : IsInOrder new
    order_new = subst IsInOrder (sym after) (order_behind end order)

    -- none goes
    module _ (is : next ≡ None) where
      pub all_gone : (before : List (Frame M)) → before ++ gives end ≡ before
      all_gone before = ap (λ list. before ++ list) (none_goes end order (sym goes ∙ is)).0 ∙ append-nil before

      pub emptied_now : new ≡ emptied end
      emptied_now = let none = none_goes end order (sym goes ∙ is) in after ∙ none.2 ∙ sym none.1
