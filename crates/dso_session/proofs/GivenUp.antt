-- What an end gives up of frames that carry what was sent, in order and once.
use Rattle.std.proofs.Common.{ℕ, suc, ◌+◌, ◌-◌, ◌≡◌, refl, sym, ◌∙◌, ap, Bool, true, false, cond, eqb, leb, ltb, not, ◌||◌, Option, Some, None, List, [], ◌∷◌, ◌++◌, take, slice_get, arith}
use Rattle.std.proofs.lemmas.List.{append-nil, take_more}
use Rattle.std.proofs.lemmas.Option.{get_or_from_slice_get, slice_get_within}
use Rattle.std.proofs.lemmas.Bool.{leb-false, ltb-false}
use Rattle.dso_session.specs.declared.frame.Accepted.{Accepted}
use Rattle.dso_session.specs.declared.frame.Accepted.TheVariants as accepted
use Rattle.dso_session.specs.declared.frame.Frame.{Frame}
use Rattle.dso_session.specs.declared.frame.Frame.TheVariants.{Carry, Hello}
use Rattle.dso_session.specs.declared.session.Posted.{Posted}
use Rattle.dso_session.specs.Ends.{End, after_answer, after_frame, answer, behind_frame, broken, gone_on, is_new, next_kept, posted, sent_count}
use Rattle.dso_session.specs.Laws.{CarriesSent, CarrySent, Happening, Sends, Gives, Takes, Breaks, GivenUpOnce, after_all, given_up, given_up_by, given_up_over, happened}

module _ {M : Type 0} where
  -- lists one behind the other
  joined : (xs ys zs : List (Posted M)) → xs ++ (ys ++ zs) ≡ (xs ++ ys) ++ zs
  joined [] ys zs = refl
  joined (x ∷ xs) ys zs = ap (λ rest. x ∷ rest) (joined xs ys zs)

  -- the answer to a message, by what of it is so
  abbrev reply_to : ℕ → ℕ → ℕ → M → Bool → Bool → Bool → Bool → Accepted M
  reply_to epoch number clock message a b c d = cond a (accepted.OldConnection epoch) (cond b (accepted.Again number) (cond (c || d) (accepted.Gap number) (accepted.Up message clock)))

  module _ (sent : List (Posted M)) where
    -- what is given up by so much brings the messages accepted up to there
    abbrev Brings : List (Posted M) → End M → End M → Type 0
    Brings up end now = take end.accepted sent ++ up ≡ take now.accepted sent

    nothing : (end now : End M) → now.accepted ≡ end.accepted → Brings [] end now
    nothing end now same = append-nil (take end.accepted sent) ∙ ap (λ n. take n sent) (sym same)

    -- the message behind those accepted
    the_next : (end : End M) (number : ℕ) (one : Posted M) → number ≡ end.accepted + 1 → slice_get sent (number - 1) ≡ Some one → take end.accepted sent ++ one ∷ [] ≡ take number sent
    the_next end number one next is =
        let here : slice_get sent end.accepted ≡ Some one = ap (slice_get sent) (omega (arith, next)) ∙ is in
        ap (λ x. take end.accepted sent ++ x ∷ []) (sym (get_or_from_slice_get sent end.accepted one one here))
        ∙ sym (take_more sent end.accepted one (slice_get_within sent end.accepted one here)) ∙ ap (λ n. take n sent) (sym next)

    taken : (frame : Frame M) (end : End M) → CarriesSent sent frame → Brings (given_up (answer frame end)) end (after_frame frame end)
    taken (Carry epoch number seen clock message) end carries = by (not (eqb epoch end.epoch)) (leb number end.accepted) (ltb (suc end.accepted) number) (ltb (sent_count end) seen) refl refl
      where
        by : (a b c d : Bool) → leb number end.accepted ≡ b → ltb (suc end.accepted) number ≡ c
            → Brings (given_up (reply_to epoch number clock message a b c d)) end (after_answer (Carry epoch number seen clock message) (reply_to epoch number clock message a b c d) end)
        by true b c d above below = nothing end end refl
        by false true c d above below = nothing end end refl
        by false false true d above below = nothing end end refl
        by false false false true above below = nothing end end refl
        by false false false false above below = the_next end number (record { message = message; clock = clock }) (omega (arith, leb-false number end.accepted above, ltb-false (suc end.accepted) number below)) carries.1
    taken (Hello epoch seen clock) end carries = by (not (is_new epoch end end.role)) (ltb (sent_count end) seen || ltb seen end.seen)
      where
        by : (a b : Bool) → Brings (given_up {M = M} (cond a (accepted.OldConnection epoch) (cond b (accepted.Gap seen) (accepted.Rejoined seen)))) end
            (after_answer (Hello epoch seen clock) (cond a (accepted.OldConnection epoch) (cond b (accepted.Gap seen) (accepted.Rejoined seen))) end)
        by true b = nothing end end refl
        by false true = nothing end end refl
        by false false = append-nil (take end.accepted sent)

    given : (end : End M) → Brings [] end (behind_frame end)
    given end = by end.owes_hello (next_kept end)
      where
        by : (owes : Bool) (next : Option (Posted M)) → Brings [] end (cond owes (record end { owes_hello = false }) (gone_on end next))
        by true next = append-nil (take end.accepted sent)
        by false None = append-nil (take end.accepted sent)
        by false (Some one) = append-nil (take end.accepted sent)

    -- what happens first, and then the rest
    and_then : (first : Happening M) (rest : List (Happening M)) (end : End M) → Brings (given_up_by first end) end (happened first end)
        → take (happened first end).accepted sent ++ given_up_over rest (happened first end) ≡ take (after_all rest (happened first end)).accepted sent
        → take end.accepted sent ++ (given_up_by first end ++ given_up_over rest (happened first end)) ≡ take (after_all rest (happened first end)).accepted sent
    and_then first rest end now later = joined (take end.accepted sent) (given_up_by first end) (given_up_over rest (happened first end))
        ∙ ap (λ up. up ++ given_up_over rest (happened first end)) now ∙ later

    all_given : (happenings : List (Happening M)) (end : End M) → CarrySent sent happenings → take end.accepted sent ++ given_up_over happenings end ≡ take (after_all happenings end).accepted sent
    all_given [] end carry = append-nil (take end.accepted sent)
    all_given (Sends message clock ∷ rest) end carry = and_then (Sends message clock) rest end (append-nil (take end.accepted sent)) (all_given rest (posted message clock end) carry)
    all_given (Gives ∷ rest) end carry = and_then Gives rest end (given end) (all_given rest (behind_frame end) carry)
    all_given (Takes frame ∷ rest) end carry = and_then (Takes frame) rest end (taken frame end carry.0) (all_given rest (after_frame frame end) carry.1)
    all_given (Breaks ∷ rest) end carry = and_then Breaks rest end (append-nil (take end.accepted sent)) (all_given rest (broken end) carry)

  pub given_up_once : GivenUpOnce M
  given_up_once sent happenings end carry = all_given sent happenings end carry
