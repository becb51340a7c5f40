-- What an end sent stays what it sent, and what goes to the channel is of that.
use Rattle.std.proofs.Common.{ℕ, zero, suc, ◌+◌, ◌-◌, ◌≤◌, ◌≡◌, refl, sym, ◌∙◌, ap, subst, Bool, true, false, cond, eqb, leb, ltb, not, ◌||◌, Option, Some, None, List, [], ◌∷◌, ◌++◌, drop, length, max, slice_get, arith}
use Rattle.std.proofs.Math.Nat.{max-eq_left, max-eq_right, max-le}
use Rattle.std.proofs.lemmas.List.{drop-append-le, drop-drop, length-append, length-drop}
use Rattle.std.proofs.lemmas.Bool.{leb-false, leb-true, ltb-false}
use Rattle.dso_session.specs.declared.frame.Accepted.TheVariants as accepted
use Rattle.dso_session.specs.declared.frame.Frame.{Frame}
use Rattle.dso_session.specs.declared.frame.Frame.TheVariants.{Carry, Hello}
use Rattle.dso_session.specs.declared.session.Posted.{Posted}
use Rattle.dso_session.specs.Ends.{End, after_answer, after_frame, behind_frame, broken, carrying, forgotten, gone_on, is_new, next_frame, next_kept, posted, rejoined, sent_count}
use Rattle.dso_session.specs.Laws.{CarriesSent, GivesSent, Happening, Sends, Gives, Takes, Breaks, HasSent, KeepsSent, happened, sent_by}

-- what is seen of two counts is the greater one
greater : (a b : ℕ) → a + (b - a) ≡ max a b
greater a b = by (leb b a) refl
  where
    by : (test : Bool) → leb b a ≡ test → a + (b - a) ≡ max a b
    by true is = omega (arith, leb-true b a is) ∙ sym (max-eq_left (leb-true b a is))
    by false is = omega (arith, leb-false b a is) ∙ sym (max-eq_right (omega (arith, leb-false b a is)))

-- what stands behind the first ones
dropped : {X : Type 0} (n i : ℕ) (xs : List X) → slice_get (drop n xs) i ≡ slice_get xs (n + i)
dropped zero i xs = ap (slice_get xs) (omega arith)
dropped (suc n) i [] = refl
dropped (suc n) i (x ∷ xs) = dropped n i xs ∙ place (n + i) (suc n + i) (omega arith)
  where
    place : (a b : ℕ) → suc a ≡ b → slice_get xs a ≡ slice_get (x ∷ xs) b
    place a b is = ap (slice_get (x ∷ xs)) is

module _ {M : Type 0} where
  -- as many as were sent
  pub all_sent : (sent : List (Posted M)) (end : End M) → HasSent sent end → sent_count end ≡ length sent
  all_sent sent end has = ap (λ kept. end.seen + length kept) has.kept ∙ ap (λ n. end.seen + n) (length-drop end.seen sent) ∙ omega (arith, has.seen)

  -- what was seen is kept no longer
  pub forgets : (seen : ℕ) (sent : List (Posted M)) (end : End M) → HasSent sent end → seen ≤ sent_count end → HasSent sent (forgotten seen end)
  forgets seen sent end has few = record {
    seen = max-le has.seen (subst (λ n. seen ≤ n) (all_sent sent end has) few);
    kept = ap (drop (seen - end.seen)) has.kept ∙ drop-drop (seen - end.seen) end.seen sent ∙ ap (λ n. drop n sent) (greater end.seen seen);
  }

  -- an end that has seen and kept the same has sent the same
  same_sent : (sent : List (Posted M)) (end now : End M) → now.seen ≡ end.seen → now.kept ≡ end.kept → HasSent sent end → HasSent sent now
  same_sent sent end now seen kept has = record {
    seen = subst (λ n. n ≤ length sent) (sym seen) has.seen;
    kept = kept ∙ has.kept ∙ ap (λ n. drop n sent) (sym seen);
  }

  -- one message more
  sends : (message : M) (clock : ℕ) (sent : List (Posted M)) (end : End M) → HasSent sent end → HasSent (sent ++ record { message = message; clock = clock } ∷ []) (posted message clock end)
  sends message clock sent end has = record {
    seen = omega (arith, has.seen, length-append sent (record { message = message; clock = clock } ∷ []));
    kept = ap (λ kept. kept ++ record { message = message; clock = clock } ∷ []) has.kept ∙ sym (drop-append-le end.seen sent (record { message = message; clock = clock } ∷ []) has.seen);
  }

  -- a frame that goes
  gives : (sent : List (Posted M)) (end : End M) → HasSent sent end → HasSent sent (behind_frame end)
  gives sent end has = by end.owes_hello (next_kept end)
    where
      by : (owes : Bool) (next : Option (Posted M)) → HasSent sent (cond owes (record end { owes_hello = false }) (gone_on end next))
      by true next = same_sent sent end (record end { owes_hello = false }) refl refl has
      by false None = has
      by false (Some one) = same_sent sent end (record end { given = end.given + 1 }) refl refl has

  -- a frame that comes
  takes : (frame : Frame M) (sent : List (Posted M)) (end : End M) → HasSent sent end → HasSent sent (after_frame frame end)
  takes (Carry epoch number seen clock message) sent end has = by (not (eqb epoch end.epoch)) (leb number end.accepted) (ltb (suc end.accepted) number) (ltb (sent_count end) seen) refl
    where
      by : (a b c d : Bool) → ltb (sent_count end) seen ≡ d
          → HasSent sent (after_answer (Carry epoch number seen clock message) (cond a (accepted.OldConnection epoch) (cond b (accepted.Again number) (cond (c || d) (accepted.Gap number) (accepted.Up message clock)))) end)
      by true b c d few = has
      by false true c d few = has
      by false false true d few = has
      by false false false true few = has
      by false false false false few = same_sent sent (forgotten seen end) (record (forgotten seen end) { accepted = number }) refl refl (forgets seen sent end has (ltb-false (sent_count end) seen few))
  takes (Hello epoch seen clock) sent end has = by (not (is_new epoch end end.role)) (ltb (sent_count end) seen) (ltb seen end.seen) refl
    where
      by : (a b c : Bool) → ltb (sent_count end) seen ≡ b
          → HasSent sent (after_answer (Hello epoch seen clock) (cond a (accepted.OldConnection epoch) (cond (b || c) (accepted.Gap seen) (accepted.Rejoined seen))) end)
      by true b c few = has
      by false true c few = has
      by false false true few = has
      by false false false few = same_sent sent (forgotten seen end) (rejoined epoch seen end) refl refl (forgets seen sent end has (ltb-false (sent_count end) seen few))

  -- the frame that is next
  next_is_sent : (sent : List (Posted M)) (end : End M) → HasSent sent end → end.seen ≤ end.given → GivesSent sent (next_frame end)
  next_is_sent sent end has order = by end.owes_hello (next_kept end) refl
    where
      at_place : (one : Posted M) (test : Bool) → cond test (slice_get end.kept (end.given - end.seen)) None ≡ Some one → slice_get sent (end.given + 1 - 1) ≡ Some one
      at_place one true is =
          let place : end.seen + (end.given - end.seen) ≡ end.given + 1 - 1 = omega (arith, order) in
          ap (slice_get sent) (sym place) ∙ sym (dropped end.seen (end.given - end.seen) sent) ∙ ap (λ kept. slice_get kept (end.given - end.seen)) (sym has.kept) ∙ is
      at_place one false is = absurd (cc is)

      by : (owes : Bool) (next : Option (Posted M)) → next_kept end ≡ next → GivesSent sent (cond owes (Some (Hello end.epoch end.accepted end.clock)) (carrying end next))
      by true next is = tt
      by false None is = tt
      by false (Some one) is = (omega arith, at_place one end.is_ready is)

  -- what stands in a list stands there whatever comes behind it
  still : (xs more : List (Posted M)) (i : ℕ) (one : Posted M) → slice_get xs i ≡ Some one → slice_get (xs ++ more) i ≡ Some one
  still [] more i one is = absurd (cc is)
  still (x ∷ xs) more zero one is = is
  still (x ∷ xs) more (suc i) one is = still xs more i one is

  stays : (sent more : List (Posted M)) (frame : Frame M) → CarriesSent sent frame → CarriesSent (sent ++ more) frame
  stays sent more (Carry epoch number seen clock message) carries = (carries.0, still sent more (number - 1) (record { message = message; clock = clock }) carries.1)
  stays sent more (Hello epoch seen clock) carries = tt

  pub keeps_sent : KeepsSent M
  keeps_sent = record {
    goes_on = λ happening sent end has. by happening sent end has;
    next = next_is_sent;
    stays = stays;
  }
    where
      by : (happening : Happening M) (sent : List (Posted M)) (end : End M) → HasSent sent end → HasSent (sent_by happening sent) (happened happening end)
      by (Sends message clock) sent end has = sends message clock sent end has
      by Gives sent end has = gives sent end has
      by (Takes frame) sent end has = takes frame sent end has
      by Breaks sent end has = same_sent sent end (broken end) refl refl has
