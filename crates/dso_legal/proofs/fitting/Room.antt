-- No more batches are given than the journal has entries, so each ends within 64 bits where the journal has fewer than 2 ^ 54.
use Rattle.std.specs.List.{AllByRecursion}
use Rattle.std.proofs.Common.{Bool, List, None, Option, Some, [], ap, arith, cond, eqb, false, length, refl, subst, suc, sym, true, ℕ, ◌*◌, ◌+◌, ◌<◌, ◌^◌, ◌∙◌, ◌∷◌, ◌≡◌, ◌≤◌}
use Rattle.dso_base.specs.declared.journal.Entry.{Entry}
use Rattle.dso_base.specs.declared.journal.Input.{Input}
use Rattle.dso_base.specs.declared.journal.Input.TheVariants as input
use Rattle.dso_base.specs.declared.journal.Node.{Node}
use Rattle.dso_base.specs.declared.journal.Node.TheVariants.{Client, Server}
use Rattle.dso_base.specs.declared.journal.Sent.{Sent}
use Rattle.dso_base.specs.declared.lock.ThreadId.{ThreadId}
use Rattle.dso_base.specs.declared.message.Down.{Down}
use Rattle.dso_base.specs.declared.message.Down.TheVariants as down
use Rattle.dso_base.specs.declared.message.Up.{Up}
use Rattle.dso_base.specs.declared.message.Up.TheVariants as up
use Rattle.dso_base.specs.declared.record.Body.{Body}
use Rattle.dso_base.specs.declared.record.Set.{Set}
use Rattle.dso_base.specs.declared.request.Event.{Event}
use Rattle.dso_base.specs.declared.request.Request.{Request}
use Rattle.dso_plain.proofs.keys.SameKeys.{same_number}
use Rattle.dso_law.specs.Channels.{down_in_flight, takes_down}
use Rattle.dso_law.specs.Entries.{by_sent_down, entries_of, unsent}
use Rattle.dso_law.specs.ServerReadings.{Batch, batch_by, batches_given, counted, is_of_lost, next_batch}
use Rattle.dso_law.specs.ServerStep.{ServerStep, object_to, sets_for}
use Rattle.dso_law.specs.Settings.{Settings}
use Rattle.dso_law.specs.Store.{stored}
use Rattle.dso_legal.specs.Agreement.{messages}
use Rattle.dso_legal.specs.Lawful.{AllFollow, NodeFollows, ServerFollows}
use Rattle.dso_legal.specs.Room.{BatchesHaveRoom}
use Rattle.dso_legal.proofs.channels.AfterEntry.{other_turn, own_turn, server_turn}
use Rattle.dso_legal.proofs.channels.InFlight.{told_to}
use Rattle.dso_legal.proofs.copies.ChangesSent.{changes_down}
use Rattle.dso_legal.proofs.copies.ServerMessages.{IsOfLease, IsTold, IsToldOn, IsWake, what_is_told}
use Rattle.dso_legal.proofs.fitting.Carried.{first_of, rest_of}
use Rattle.dso_legal.proofs.fitting.InHand.{each_of_two, each_so}
use Rattle.dso_legal.proofs.ids.Batches.{IsNoIds, no_batches, no_reply_no_ids, told_by_append}
use Rattle.dso_legal.proofs.records.BothEnds.{server_with}
use Rattle.dso_legal.proofs.records.ServerSent.{IsNoReply, ServerSent, reply_on, server_sent, told_each_so}

-- ---- numbers

one_more_at_most : (n m : ℕ) → n ≤ m → n ≤ suc m
one_more_at_most n m le = omega (arith, le)

both_more : (a b n : ℕ) → a ≤ suc b → b ≤ n → a ≤ suc n
both_more a b n first second = omega (arith, first, second)

-- a batch ends below the bound that one more entry gives
batch_within : (n m : ℕ) → n ≤ m → (1 + 256 * n) + 256 ≤ 1 + 256 * suc m
batch_within n m le = omega (arith, le)

bound_rises : (a n : ℕ) → a ≤ 1 + 256 * n → a ≤ 1 + 256 * suc n
bound_rises a n le = omega (arith, le)

-- ---- batches

-- the reply to what the server takes in gives at most one
one_reply : (p : Settings) (i : Input) (es : List Entry) (given : List Batch) → length (by_sent_down batch_by (reply_on p i es) given) ≤ suc (length given)
one_reply p (input.TookUp d up.IdAsk) es given = omega arith
one_reply p (input.TookUp d (up.Fault o)) es given = by (stored p.shape o es)
  where
    by : (body : Option Body) → length (by_sent_down batch_by (object_to d body) given) ≤ suc (length given)
    by None = omega arith
    by (Some body) = omega arith
one_reply p (input.TookUp d (up.Commit txn)) es given = omega arith
one_reply p (input.TookUp d m) es given = omega arith
one_reply p other es given = omega arith

one_sent : (p : Settings) (e : Entry) (es : List Entry) → ServerSent p e es → length (batches_given (e ∷ es)) ≤ suc (length (batches_given es))
one_sent p e es sent =
    let reply : List Sent = reply_on p e.input (unsent e ∷ es) in
    let none : by_sent_down batch_by sent.others (by_sent_down batch_by reply (batches_given es)) ≡ by_sent_down batch_by reply (batches_given es) =
    no_batches sent.others (by_sent_down batch_by reply (batches_given es)) (told_each_so IsNoReply IsNoIds no_reply_no_ids sent.others sent.no_replies) in
    subst (λ given. length given ≤ suc (length (batches_given es)))
    (sym (ap (λ out. by_sent_down batch_by out (batches_given es)) sent.whole ∙ told_by_append batch_by reply sent.others (batches_given es) ∙ none))
    (one_reply p e.input (unsent e ∷ es) (batches_given es))

module _ (p : Settings) (next : ThreadId → List Event → Option Request) where
  few_counted : (b : Bool) (e : Entry) (all : List Entry) (n : ℕ) → is_of_lost e.input all ≡ b → ServerStep p e all → length (batches_given (counted all)) ≤ n → length (batches_given (cond b (counted all) (e ∷ counted all))) ≤ suc n
  few_counted true e all n counts step few = one_more_at_most (length (batches_given (counted all))) n few
  few_counted false e all n counts step few = both_more (length (batches_given (e ∷ counted all))) (length (batches_given (counted all))) n (one_sent p e (counted all) (server_sent p e all step counts)) few

  few_at : (node : Node) (e : Entry) (es : List Entry) → NodeFollows p next node e es → length (batches_given (counted (entries_of Server es))) ≤ length es
      → length (batches_given (counted (server_with node e es))) ≤ suc (length es)
  few_at Server e es rule few = few_counted (is_of_lost e.input (entries_of Server es)) e (entries_of Server es) (length es) refl rule.step few
  few_at (Client d) e es rule few = one_more_at_most (length (batches_given (counted (entries_of Server es)))) (length es) few

  -- no more batches than entries
  few_batches : (es : List Entry) → AllFollow p next es → length (batches_given (counted (entries_of Server es))) ≤ length es
  few_batches [] follow = omega arith
  few_batches (e ∷ es) follow = few_at e.node e es follow.1.rule (few_batches es follow.0)

  -- ---- messages

  -- a batch in flight ends below the bound
  abbrev EndsWithin : ℕ → Down → Type 0
  EndsWithin n (down.Ids first) = first + 256 ≤ 1 + 256 * n
  EndsWithin n m = Unit {0}

  within_more : (n : ℕ) (m : Down) → EndsWithin n m → EndsWithin (suc n) m
  within_more n (down.Ids first) h = bound_rises (first + 256) n h
  within_more n m h = tt

  module _ (c : ℕ) where
    leases_within : (n : ℕ) (ms : List Down) → AllByRecursion IsOfLease ms → AllByRecursion (EndsWithin n) ms
    leases_within n = each_so IsOfLease (EndsWithin n) one
      where
        one : (m : Down) → IsOfLease m → EndsWithin n m
        one (down.Grant l level) h = tt
        one (down.Recall l) h = tt
        one m h = absurd h

    wakes_within : (n : ℕ) (ms : List Down) → AllByRecursion IsWake ms → AllByRecursion (EndsWithin n) ms
    wakes_within n = each_so IsWake (EndsWithin n) one
      where
        one : (m : Down) → IsWake m → EndsWithin n m
        one (down.Wake l t) h = tt
        one m h = absurd h

    changes_within : (n : ℕ) (sets : List Set) → AllByRecursion (EndsWithin n) (changes_down sets)
    changes_within n [] = tt
    changes_within n (set ∷ sets) = (tt, tt)

    one_within : (n : ℕ) (b : Bool) (m : Down) → EndsWithin n m → AllByRecursion (EndsWithin n) (cond b (m ∷ []) [])
    one_within n true m h = (h, tt)
    one_within n false m h = tt

    none_within : (n : ℕ) (ms : List Down) → ms ≡ [] → AllByRecursion (EndsWithin n) ms
    none_within n ms is = subst (AllByRecursion (EndsWithin n)) (sym is) tt

    told_for : (n d : ℕ) (m : Up) (server : List Entry) (ms : List Down) → length (batches_given server) ≤ n → IsTold p c d m server ms → AllByRecursion (EndsWithin (suc n)) ms
    told_for n d up.IdAsk server ms few is = subst (AllByRecursion (EndsWithin (suc n))) (sym is) (one_within (suc n) (eqb c d) (down.Ids (next_batch server)) (batch_within (length (batches_given server)) n few))
    told_for n d (up.Fault o) server ms few is = subst (AllByRecursion (EndsWithin (suc n))) (sym is.tells) (one_within (suc n) (eqb c d) (down.Object is.body) tt)
    told_for n d (up.Flushed o) server ms few is = none_within (suc n) ms is
    told_for n d (up.Request l level) server ms few is = leases_within (suc n) ms is
    told_for n d (up.Return l threads) server ms few is = leases_within (suc n) ms is
    told_for n d (up.Commit txn) server ms few is = subst (AllByRecursion (EndsWithin (suc n))) (sym is.tells)
        (each_of_two (EndsWithin (suc n)) (cond (eqb c d) (down.Ack txn.seq ∷ []) (changes_down (sets_for c txn server))) is.woken (by (eqb c d)) (wakes_within (suc n) is.woken is.wake))
      where
        by : (b : Bool) → AllByRecursion (EndsWithin (suc n)) (cond b (down.Ack txn.seq ∷ []) (changes_down (sets_for c txn server)))
        by true = (tt, tt)
        by false = changes_within (suc n) (sets_for c txn server)

    told_on : (n : ℕ) (i : Input) (lost : Bool) (server : List Entry) (ms : List Down) → length (batches_given server) ≤ n → IsToldOn p c i lost server ms → AllByRecursion (EndsWithin (suc n)) ms
    told_on n i true server ms few h = none_within (suc n) ms h
    told_on n (input.TookUp d m) false server ms few h = told_for n d m server ms few h
    told_on n (input.Lose d) false server ms few h = leases_within (suc n) ms h
    told_on n other false server ms few h = none_within (suc n) ms h

    all_within : (es : List Entry) → AllFollow p next es → AllByRecursion (EndsWithin (length es)) (messages (down_in_flight c es))
    all_within [] follow = tt
    all_within (e ∷ es) follow = at e.node refl (each_so (EndsWithin (length es)) (EndsWithin (suc (length es))) (within_more (length es)) (messages (down_in_flight c es)) (all_within es follow.0))
      where
        at : (node : Node) → e.node ≡ node → AllByRecursion (EndsWithin (suc (length es))) (messages (down_in_flight c es)) → AllByRecursion (EndsWithin (suc (length es))) (messages (down_in_flight c (e ∷ es)))
        at Server node before =
            let rule : ServerFollows p next e es = subst (λ n. NodeFollows p next n e es) node follow.1.rule in
            subst (AllByRecursion (EndsWithin (suc (length es)))) (sym (server_turn c e es node).down)
            (each_of_two (EndsWithin (suc (length es))) (messages (down_in_flight c es)) (told_to c e.sent) before
            (told_on (length es) e.input (is_of_lost e.input (entries_of Server es)) (counted (entries_of Server es)) (told_to c e.sent) (few_batches es follow.0) (what_is_told p next c e es follow.0 rule)))
        at (Client d) node before = by (eqb c d) refl
          where
            by : (b : Bool) → eqb c d ≡ b → AllByRecursion (EndsWithin (suc (length es))) (messages (down_in_flight c (e ∷ es)))
            by true same = subst (AllByRecursion (EndsWithin (suc (length es)))) (sym (own_turn c e es (node ∙ ap Client (sym (same_number c d same)))).down)
                (rest_of (EndsWithin (suc (length es))) (takes_down e.input) (messages (down_in_flight c es)) before)
            by false other = subst (λ letters. AllByRecursion (EndsWithin (suc (length es))) (messages letters)) (sym (other_turn c d e es node other).down) before

within_bits : (first n : ℕ) → first + 256 ≤ 1 + 256 * n → n < 2 ^ 54 → first + 256 < 2 ^ 64
within_bits first n le less = omega (arith, le, less)

pub batches_have_room : BatchesHaveRoom
batches_have_room p next es follow few c first comes = within_bits first (length es) (first_of (EndsWithin p next (length es)) (down.Ids first) (down_in_flight c es) comes (all_within p next c es follow)) few
