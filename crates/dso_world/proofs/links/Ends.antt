-- What an end of a connection is once it sent a message, took one, or took the connection up again.
use Rattle.std.proofs.Common.{ℕ, suc, ◌+◌, ◌<◌, ◌≤◌, ◌≡◌, refl, sym, ◌∙◌, ap, subst, Bool, true, false, cond, leb, ltb, not, ◌&&◌, ◌||◌, List, [], ◌∷◌, ◌++◌, drop, length, arith}
use Rattle.std.proofs.Math.Seq.{drop-append_seam}
use Rattle.std.proofs.lemmas.Bool.{eq-eqb, le-ltb, leb-true, ltb-false}
use Rattle.dso_session.specs.declared.frame.Accepted.{Accepted}
use Rattle.dso_session.specs.declared.frame.Accepted.TheVariants as accepted
use Rattle.dso_session.specs.declared.frame.Frame.TheVariants.{Carry, Hello}
use Rattle.dso_session.specs.declared.session.Posted.{Posted}
use Rattle.dso_session.specs.declared.session.Role.{Role}
use Rattle.dso_session.specs.declared.session.Role.TheVariants as role
use Rattle.dso_session.specs.Ends.{End, after_answer, after_frame, answer, forgotten, is_new, posted, rejoined, sent_count}
use Rattle.dso_session.specs.Laws.{HasSent, Sends}
use Rattle.dso_session.proofs.Sent.{all_sent, forgets, keeps_sent}
use Rattle.dso_world.specs.Link.{carried, emptied, gives}
use Rattle.dso_world.specs.LinkStands.{EndStands}
use Rattle.dso_world.proofs.links.Carried.{emptied_has, gives_nothing, gives_rest}

-- a greater number is not at most the other
not_below : (a b : ℕ) → b < a → leb a b ≡ false
not_below a b less = by (leb a b) refl
  where
    by : (test : Bool) → leb a b ≡ test → test ≡ false
    by true is = absurd (omega (arith, less, leb-true a b is))
    by false is = refl

pub below : (a b : ℕ) → a < b → ltb a b ≡ true
below a b less = by (ltb a b) refl
  where
    by : (test : Bool) → ltb a b ≡ test → test ≡ true
    by true is = refl
    by false is = absurd (omega (arith, less, ltb-false a b is))

module _ {M : Type 0} where
  -- the answers, by what of a frame is so
  abbrev carry_answer : ℕ → ℕ → ℕ → M → Bool → Bool → Bool → Bool → Accepted M
  carry_answer epoch number clock message own old gap many = cond (not own) (accepted.OldConnection epoch) (cond old (accepted.Again number) (cond (gap || many) (accepted.Gap number) (accepted.Up message clock)))

  abbrev hello_answer : ℕ → ℕ → Bool → Bool → Bool → Accepted M
  hello_answer epoch seen new many less = cond (not new) (accepted.OldConnection epoch) (cond (many || less) (accepted.Gap seen) (accepted.Rejoined seen))

  -- a message is given up
  gives_up : (epoch number seen clock : ℕ) (message : M) (end : End M) → epoch ≡ end.epoch → number ≡ end.accepted + 1 → seen ≤ sent_count end → answer (Carry epoch number seen clock message) end ≡ accepted.Up message clock
  gives_up epoch number seen clock message end own next few =
      ap (λ x. carry_answer epoch number clock message x (leb number end.accepted) (ltb (suc end.accepted) number) (ltb (sent_count end) seen)) (eq-eqb epoch end.epoch own)
      ∙ ap (λ x. carry_answer epoch number clock message true x (ltb (suc end.accepted) number) (ltb (sent_count end) seen)) (not_below number end.accepted (omega (arith, next)))
      ∙ ap (λ x. carry_answer epoch number clock message true false x (ltb (sent_count end) seen)) (le-ltb (suc end.accepted) number (omega (arith, next)))
      ∙ ap (λ x. carry_answer epoch number clock message true false false x) (le-ltb (sent_count end) seen few)

  -- the connection begins anew
  begins : (epoch seen clock : ℕ) (end : End M) → is_new epoch end end.role ≡ true → seen ≤ sent_count end → end.seen ≤ seen → answer (Hello epoch seen clock) end ≡ accepted.Rejoined seen
  begins epoch seen clock end new few more =
      ap (λ x. hello_answer epoch seen x (ltb (sent_count end) seen) (ltb seen end.seen)) new
      ∙ ap (λ x. hello_answer epoch seen true x (ltb seen end.seen)) (le-ltb (sent_count end) seen few)
      ∙ ap (λ x. hello_answer epoch seen true false x) (le-ltb seen end.seen more)

  pub new_at_server : (epoch : ℕ) (end : End M) → end.role ≡ role.Server → epoch ≡ end.epoch → end.is_ready ≡ false → is_new epoch end end.role ≡ true
  new_at_server epoch end its same ready = ap (is_new epoch end) its ∙ ap (λ x. x && not end.is_ready) (eq-eqb epoch end.epoch same) ∙ ap (λ x. not x) ready

  pub new_at_client : (epoch : ℕ) (end : End M) → end.role ≡ role.Client → end.epoch < epoch → is_new epoch end end.role ≡ true
  new_at_client epoch end its later = ap (is_new epoch end) its ∙ below end.epoch epoch later

  -- of an end that is ready, once it gave all
  pub gave_all : (posts : List (Posted M)) (end : End M) → HasSent posts end → end.is_ready ≡ true → (emptied end).given ≡ length posts
  gave_all posts end has ready = ap (λ x. cond x (sent_count end) end.given) ready ∙ all_sent posts end has

  module _ (own : Role) (posts : List (Posted M)) (heard era : ℕ) (end : End M) (stands : EndStands own posts heard era end) where
    -- one message more
    module _ (message : M) (clock : ℕ) where
      pub sent_one : HasSent (posts ++ record { message = message; clock = clock } ∷ []) (posted message clock end)
      sent_one = keeps_sent.goes_on (Sends message clock) posts end stands.sent

      pub posted_stands : EndStands own (posts ++ record { message = message; clock = clock } ∷ []) heard era (emptied (posted message clock end))
      posted_stands = record {
        role = stands.role;
        sent = emptied_has (posts ++ record { message = message; clock = clock } ∷ []) (posted message clock end) sent_one;
        accepted = stands.accepted;
        epoch = stands.epoch;
        said_hello = refl;
      }

      pub posted_gives : end.is_ready ≡ true → end.given ≡ length posts → gives (posted message clock end) ≡ carried era (length posts) heard (record { message = message; clock = clock } ∷ [])
      posted_gives ready given =
          gives_rest (posts ++ record { message = message; clock = clock } ∷ []) (posted message clock end) sent_one stands.said_hello ready (omega (arith, stands.sent.seen, given))
          ∙ ap (λ n. carried end.epoch n end.accepted (drop n (posts ++ record { message = message; clock = clock } ∷ []))) given
          ∙ ap (carried end.epoch (length posts) end.accepted) (drop-append_seam posts (record { message = message; clock = clock } ∷ []))
          ∙ ap (λ n. carried n (length posts) end.accepted (record { message = message; clock = clock } ∷ [])) stands.epoch
          ∙ ap (λ n. carried era (length posts) n (record { message = message; clock = clock } ∷ [])) stands.accepted

    -- it takes the next message
    module _ (seen clock : ℕ) (message : M) (few : seen ≤ length posts) where
      abbrev heard_end : End M
      heard_end = record (forgotten seen end) { accepted = heard + 1 }

      room : seen ≤ sent_count end
      room = subst (λ n. seen ≤ n) (sym (all_sent posts end stands.sent)) few

      pub heard_answer : answer (Carry era (heard + 1) seen clock message) end ≡ accepted.Up message clock
      heard_answer = gives_up era (heard + 1) seen clock message end (sym stands.epoch) (ap (λ n. n + 1) (sym stands.accepted)) room

      pub heard_after : after_frame (Carry era (heard + 1) seen clock message) end ≡ heard_end
      heard_after = ap (λ a. after_answer (Carry era (heard + 1) seen clock message) a end) heard_answer

      heard_has : HasSent posts heard_end
      heard_has = let has = forgets seen posts end stands.sent room in record { seen = has.seen; kept = has.kept }

      pub heard_stands : EndStands own posts (heard + 1) era (emptied heard_end)
      heard_stands = record { role = stands.role; sent = emptied_has posts heard_end heard_has; accepted = refl; epoch = stands.epoch; said_hello = refl }

      pub heard_given : end.is_ready ≡ true → (emptied heard_end).given ≡ length posts
      heard_given ready = gave_all posts heard_end heard_has ready

      pub heard_gives : end.is_ready ≡ true → end.given ≡ length posts → gives heard_end ≡ []
      heard_gives ready given = gives_nothing posts heard_end heard_has stands.said_hello ready (omega (arith, stands.sent.seen, given)) (omega (arith, given))

    -- it takes the connection up again
    module _ (epoch seen clock : ℕ) (new : is_new epoch end end.role ≡ true) (few : seen ≤ length posts) (more : end.seen ≤ seen) where
      new_room : seen ≤ sent_count end
      new_room = subst (λ n. seen ≤ n) (sym (all_sent posts end stands.sent)) few

      pub new_answer : answer (Hello epoch seen clock) end ≡ accepted.Rejoined seen
      new_answer = begins epoch seen clock end new new_room more

      pub new_after : after_frame (Hello epoch seen clock) end ≡ rejoined epoch seen end
      new_after = ap (λ a. after_answer (Hello epoch seen clock) a end) new_answer

      pub new_has : HasSent posts (rejoined epoch seen end)
      new_has = let has = forgets seen posts end stands.sent new_room in record { seen = has.seen; kept = has.kept }

      pub new_stands : EndStands own posts heard epoch (emptied (rejoined epoch seen end))
      new_stands = record { role = stands.role; sent = emptied_has posts (rejoined epoch seen end) new_has; accepted = stands.accepted; epoch = refl; said_hello = refl }

      pub new_given : (emptied (rejoined epoch seen end)).given ≡ length posts
      new_given = all_sent posts (rejoined epoch seen end) new_has

      pub new_order : (rejoined epoch seen end).seen ≤ seen
      new_order = omega (arith, more)
