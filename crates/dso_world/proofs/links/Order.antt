-- What an end gave stays among what it sent, and what the other end has seen was given.
use Rattle.std.proofs.Common.{ℕ, suc, ◌-◌, ◌≤◌, ◌≡◌, refl, Bool, true, false, cond, eqb, leb, ltb, not, ◌||◌, Option, Some, None, slice_get, arith}
use Rattle.std.proofs.lemmas.List.{length-drop}
use Rattle.std.proofs.lemmas.Bool.{ltb-false}
use Rattle.std.proofs.lemmas.Option.{slice_get_within}
use Rattle.dso_session.specs.declared.frame.Accepted.TheVariants as accepted
use Rattle.dso_session.specs.declared.frame.Frame.{Frame}
use Rattle.dso_session.specs.declared.frame.Frame.TheVariants.{Carry, Hello}
use Rattle.dso_session.specs.declared.session.Posted.{Posted}
use Rattle.dso_session.specs.Ends.{End, IsInOrder, after_answer, after_frame, behind_frame, forgotten, gone_on, is_new, next_kept, sent_count}

module _ {M : Type 0} where
  -- behind a frame
  pub order_behind : (end : End M) → IsInOrder end → IsInOrder (behind_frame end)
  order_behind end order = by end.owes_hello end.is_ready (next_kept end) refl
    where
      by : (owes ready : Bool) (next : Option (Posted M)) → cond ready (slice_get end.kept (end.given - end.seen)) None ≡ next → IsInOrder (cond owes (record end { owes_hello = false }) (gone_on end next))
      by true ready next is = record { seen = order.seen; given = order.given; few = order.few }
      by false ready None is = order
      by false false (Some one) is = absurd (cc is)
      by false true (Some one) is = record {
        seen = omega (arith, order.seen);
        given = omega (arith, order.seen, slice_get_within end.kept (end.given - end.seen) one is);
        few = order.few;
      }

  -- what was seen is kept no longer
  pub order_forgotten : (seen : ℕ) (end : End M) → IsInOrder end → seen ≤ sent_count end → IsInOrder (forgotten seen end)
  order_forgotten seen end order few = record {
    seen = omega (arith, order.seen);
    given = omega (arith, order.seen, order.given, few, length-drop (seen - end.seen) end.kept);
    few = omega (arith, order.few, few, length-drop (seen - end.seen) end.kept);
  }

  -- a frame that comes
  pub order_after : (frame : Frame M) (end : End M) → IsInOrder end → IsInOrder (after_frame frame end)
  order_after (Carry epoch number seen clock message) end order = by (not (eqb epoch end.epoch)) (leb number end.accepted) (ltb (suc end.accepted) number) (ltb (sent_count end) seen) refl
    where
      by : (a b c d : Bool) → ltb (sent_count end) seen ≡ d
          → IsInOrder (after_answer (Carry epoch number seen clock message) (cond a (accepted.OldConnection epoch) (cond b (accepted.Again number) (cond (c || d) (accepted.Gap number) (accepted.Up message clock)))) end)
      by true b c d few = order
      by false true c d few = order
      by false false true d few = order
      by false false false true few = order
      by false false false false few =
          let now : IsInOrder (forgotten seen end) = order_forgotten seen end order (ltb-false (sent_count end) seen few) in
          record { seen = now.seen; given = now.given; few = now.few }
  order_after (Hello epoch seen clock) end order = by (not (is_new epoch end end.role)) (ltb (sent_count end) seen) (ltb seen end.seen) refl refl
    where
      by : (a b c : Bool) → ltb (sent_count end) seen ≡ b → ltb seen end.seen ≡ c
          → IsInOrder (after_answer (Hello epoch seen clock) (cond a (accepted.OldConnection epoch) (cond (b || c) (accepted.Gap seen) (accepted.Rejoined seen))) end)
      by true b c few least = order
      by false true c few least = order
      by false false true few least = order
      by false false false few least =
          let now : IsInOrder (forgotten seen end) = order_forgotten seen end order (ltb-false (sent_count end) seen few) in
          record {
            seen = omega (arith, ltb-false seen end.seen least);
            given = omega (arith, ltb-false (sent_count end) seen few, length-drop (seen - end.seen) end.kept);
            few = now.few;
          }
