-- A record whose acknowledgement a client took is among those that the server has applied.
use Rattle.std.specs.List.{AllByRecursion}
use Rattle.std.proofs.Common.{ℕ, ◌≡◌, inl, inr, refl, sym, subst, ap, ◌∙◌, Bool, true, false, cond, eqb, drop, Option, Some, None, List, [], ◌∷◌, ◌++◌}
use Rattle.dso_base.specs.declared.journal.Entry.{Entry}
use Rattle.dso_base.specs.declared.journal.Input.{Input}
use Rattle.dso_base.specs.declared.journal.Input.TheVariants as input
use Rattle.dso_base.specs.declared.journal.Node.{Node}
use Rattle.dso_base.specs.declared.journal.Node.TheVariants.{Server, Client}
use Rattle.dso_base.specs.declared.lock.ThreadId.{ThreadId}
use Rattle.dso_base.specs.declared.message.Down.{Down}
use Rattle.dso_base.specs.declared.message.Down.TheVariants as down
use Rattle.dso_base.specs.declared.message.Up.TheVariants as up
use Rattle.dso_base.specs.declared.record.Set.{Set}
use Rattle.dso_base.specs.declared.record.Txn.{Txn}
use Rattle.dso_base.specs.declared.request.Event.{Event}
use Rattle.dso_base.specs.declared.request.Request.{Request}
use Rattle.dso_law.specs.Channels.{IsFirst, Letter, TakesFirst, down_in_flight, takes_down}
use Rattle.dso_law.specs.Entries.{by_taken_up, entries_of}
use Rattle.dso_law.specs.ServerReadings.{counted, is_of_lost}
use Rattle.dso_law.specs.Settings.{Settings}
use Rattle.dso_legal.specs.Agreement.{messages}
use Rattle.dso_legal.specs.Lawful.{AllFollow, NodeFollows, ServerFollows}
use Rattle.dso_legal.proofs.channels.AfterEntry.{OtherTurn, OwnTurn, ServerTurn, other_turn, own_turn, server_turn}
use Rattle.dso_legal.proofs.channels.InFlight.{told_to}
use Rattle.dso_legal.proofs.copies.ChangesSent.{changes_down}
use Rattle.dso_legal.proofs.copies.ServerMessages.{IsOfLease, IsToldOn, IsWake, TellsRecord, what_is_told}
use Rattle.dso_plain.proofs.keys.SameKeys.{same_number}
use Rattle.dso_kept.specs.Keeping.{AcknowledgedAreApplied, IsAmong, TookAcknowledgement, applied, record_applied, records_in, with_one, with_record}
use Rattle.dso_kept.proofs.keeping.Adding.{applied_more}

-- ---- what is among records is among them and others behind them

among_push : (c n : ℕ) (records : List (ℕ × Txn)) (r : ℕ × Txn) → IsAmong c n records → IsAmong c n (records ++ r ∷ [])
among_push c n [] r among = absurd among
among_push c n (first ∷ records) r (inl here) = inl here
among_push c n (first ∷ records) r (inr later) = inr (among_push c n records r later)

among_more : (c n : ℕ) (records : List (ℕ × Txn)) (r : Option (ℕ × Txn)) → IsAmong c n records → IsAmong c n (with_one r records)
among_more c n records None among = among
among_more c n records (Some r) among = among_push c n records r among

among_last : (c : ℕ) (txn : Txn) (records : List (ℕ × Txn)) → IsAmong c txn.seq (records ++ (c, txn) ∷ [])
among_last c txn [] = inl (refl, refl)
among_last c txn (first ∷ records) = inr (among_last c txn records)

-- ---- acknowledgements of records

-- an acknowledgement, if the message is one, is of one of the client's records among these
abbrev AckOf : ℕ → List (ℕ × Txn) → Down → Type 0
AckOf c records (down.Ack n) = IsAmong c n records
AckOf c records m = Unit {0}

module _ (P Q : Down → Type 0) (so : (m : Down) → P m → Q m) where
  each_so : (ms : List Down) → AllByRecursion P ms → AllByRecursion Q ms
  each_so [] all = tt
  each_so (m ∷ ms) all = (so m all.0, each_so ms all.1)

module _ (P : Down → Type 0) where
  behind : (xs ys : List Down) → AllByRecursion P xs → AllByRecursion P ys → AllByRecursion P (xs ++ ys)
  behind [] ys front back = back
  behind (x ∷ xs) ys front back = (front.0, behind xs ys front.1 back)

  left_of : (taken : Bool) (ms : List Down) → AllByRecursion P ms → AllByRecursion P (cond taken (drop 1 ms) ms)
  left_of true [] all = tt
  left_of true (m ∷ ms) all = all.1
  left_of false ms all = all

  first_of : (m : Down) (letters : List (Letter Down)) → IsFirst m letters → AllByRecursion P (messages letters) → P m
  first_of m [] first all = absurd first
  first_of m (letter ∷ letters) first all = subst P (sym first) all.0

  at_most : (b : Bool) (m : Down) → P m → AllByRecursion P (cond b (m ∷ []) [])
  at_most true m here = (here, tt)
  at_most false m here = tt

module _ (c : ℕ) (records : List (ℕ × Txn)) where
  ack_more : (r : Option (ℕ × Txn)) (m : Down) → AckOf c records m → AckOf c (with_one r records) m
  ack_more r (down.Ack n) among = among_more c n records r among
  ack_more r (down.Ids first) among = tt
  ack_more r (down.Object body) among = tt
  ack_more r (down.Grant l level) among = tt
  ack_more r (down.Recall l) among = tt
  ack_more r (down.Changes sets) among = tt
  ack_more r (down.Wake l t) among = tt

  of_lease : (m : Down) → IsOfLease m → AckOf c records m
  of_lease (down.Grant l level) is = tt
  of_lease (down.Recall l) is = tt
  of_lease m is = absurd is

  of_wake : (m : Down) → IsWake m → AckOf c records m
  of_wake (down.Wake l t) is = tt
  of_wake m is = absurd is

  of_changes : (sets : List Set) → AllByRecursion (AckOf c records) (changes_down sets)
  of_changes [] = tt
  of_changes (set ∷ sets) = (tt, tt)

  none_told : (ms : List Down) → ms ≡ [] → AllByRecursion (AckOf c records) ms
  none_told ms none = subst (AllByRecursion (AckOf c records)) (sym none) tt

-- what a record's entry tells acknowledges that record alone
tells_of : (c d : ℕ) (txn : Txn) (server : List Entry) (ms : List Down) (records : List (ℕ × Txn)) → TellsRecord c d txn server ms → AllByRecursion (AckOf c (records ++ (d, txn) ∷ [])) ms
tells_of c d txn server ms records tells =
    let all : List (ℕ × Txn) = records ++ (d, txn) ∷ [] in
    subst (AllByRecursion (AckOf c all)) (sym tells.tells) (behind (AckOf c all) _ tells.woken (by (eqb c d) refl _) (each_so IsWake (AckOf c all) (of_wake c all) tells.woken tells.wake))
  where
    by : (own : Bool) → eqb c d ≡ own → (sets : List Set) → AllByRecursion (AckOf c (records ++ (d, txn) ∷ [])) (cond own (down.Ack txn.seq ∷ []) (changes_down sets))
    by true same sets = (subst (λ n. IsAmong n txn.seq (records ++ (d, txn) ∷ [])) (sym (same_number c d same)) (among_last d txn records), tt)
    by false other sets = of_changes c (records ++ (d, txn) ∷ []) sets

-- so what the server's entry tells, of what is applied with it
told_acks : (p : Settings) (c : ℕ) (i : Input) (lost : Bool) (server : List Entry) (ms : List Down) (records more : List (ℕ × Txn)) → IsToldOn p c i lost server ms
    → (lost ≡ false → more ≡ by_taken_up with_record i records) → AllByRecursion (AckOf c more) ms
told_acks p c i true server ms records more told is = none_told c more ms told
told_acks p c (input.TookUp d (up.Commit txn)) false server ms records more told is =
    subst (λ all. AllByRecursion (AckOf c all) ms) (sym (is refl)) (tells_of c d txn server ms records told)
told_acks p c (input.TookUp d up.IdAsk) false server ms records more told is = subst (AllByRecursion (AckOf c more)) (sym told) (at_most (AckOf c more) (eqb c d) _ tt)
told_acks p c (input.TookUp d (up.Fault o)) false server ms records more told is = subst (AllByRecursion (AckOf c more)) (sym told.tells) (at_most (AckOf c more) (eqb c d) _ tt)
told_acks p c (input.TookUp d (up.Flushed o)) false server ms records more told is = none_told c more ms told
told_acks p c (input.TookUp d (up.Request l level)) false server ms records more told is = each_so IsOfLease (AckOf c more) (of_lease c more) ms told
told_acks p c (input.TookUp d (up.Return l threads)) false server ms records more told is = each_so IsOfLease (AckOf c more) (of_lease c more) ms told
told_acks p c (input.Lose d) false server ms records more told is = each_so IsOfLease (AckOf c more) (of_lease c more) ms told
told_acks p c i false server ms records more told is = none_told c more ms told

-- ---- entry by entry

-- The acknowledgements that are in flight to the client, and those that it took, are of its records that are applied.
record AcksApplied (c : ℕ) (es : List Entry) : Type 0 where
  flight : AllByRecursion (AckOf c (applied es)) (messages (down_in_flight c es))
  taken : (n : ℕ) → TookAcknowledgement n (entries_of (Client c) es) → IsAmong c n (applied es)

module _ (p : Settings) (next : ThreadId → List Event → Option Request) (c : ℕ) (e : Entry) (es : List Entry) (follow : AllFollow p next (e ∷ es)) (before : AcksApplied c es) where
  by_server : e.node ≡ Server → AcksApplied c (e ∷ es)
  by_server node = record {
    flight = subst (AllByRecursion (AckOf c (applied (e ∷ es)))) (sym turn.down)
        (behind (AckOf c (applied (e ∷ es))) (messages (down_in_flight c es)) (told_to c e.sent)
        (each_so (AckOf c (applied es)) (AckOf c (applied (e ∷ es))) grown (messages (down_in_flight c es)) before.flight)
        (told_acks p c e.input (is_of_lost e.input (entries_of Server es)) (counted (entries_of Server es)) (told_to c e.sent) (applied es) (applied (e ∷ es))
        (what_is_told p next c e es follow.0 follows) now));
    taken = λ n took. subst (IsAmong c n) (sym more) (among_more c n (applied es) (record_applied e) (before.taken n (subst (TookAcknowledgement n) turn.own took)));
  }
    where
      turn : ServerTurn c e es
      turn = server_turn c e es node

      follows : ServerFollows p next e es
      follows = subst (λ n. NodeFollows p next n e es) node follow.1.rule

      more : applied (e ∷ es) ≡ with_one (record_applied e) (applied es)
      more = applied_more p next e es follow.1

      grown : (m : Down) → AckOf c (applied es) m → AckOf c (applied (e ∷ es)) m
      grown m ack = subst (λ records. AckOf c records m) (sym more) (ack_more c (applied es) (record_applied e) m ack)

      now : is_of_lost e.input (entries_of Server es) ≡ false → applied (e ∷ es) ≡ by_taken_up with_record e.input (applied es)
      now alive = ap (λ own. records_in (counted own)) turn.server ∙ ap (λ lost. records_in (cond lost (counted (entries_of Server es)) (e ∷ counted (entries_of Server es)))) alive

  by_itself : e.node ≡ Client c → AcksApplied c (e ∷ es)
  by_itself node = record {
    flight = subst (λ records. AllByRecursion (AckOf c records) (messages (down_in_flight c (e ∷ es)))) (sym same)
        (subst (AllByRecursion (AckOf c (applied es))) (sym turn.down) (left_of (AckOf c (applied es)) (takes_down e.input) (messages (down_in_flight c es)) before.flight));
    taken = λ n took. subst (IsAmong c n) (sym same) (by n (subst (TookAcknowledgement n) turn.own took));
  }
    where
      turn : OwnTurn c e es
      turn = own_turn c e es node

      same : applied (e ∷ es) ≡ applied es
      same = ap (λ own. records_in (counted own)) turn.server

      by : (n : ℕ) → TookAcknowledgement n (e ∷ entries_of (Client c) es) → IsAmong c n (applied es)
      by n (inl is) =
          let first : IsFirst (down.Ack n) (down_in_flight c es) = subst (λ i. TakesFirst i (Client c) es) is (subst (λ at. TakesFirst e.input at es) node follow.1.channels) in
          first_of (AckOf c (applied es)) (down.Ack n) (down_in_flight c es) first before.flight
      by n (inr earlier) = before.taken n earlier

  by_other : (d : ℕ) → e.node ≡ Client d → eqb c d ≡ false → AcksApplied c (e ∷ es)
  by_other d node other = record {
    flight = subst (λ records. AllByRecursion (AckOf c records) (messages (down_in_flight c (e ∷ es)))) (sym same)
        (subst (λ letters. AllByRecursion (AckOf c (applied es)) (messages letters)) (sym turn.down) before.flight);
    taken = λ n took. subst (IsAmong c n) (sym same) (before.taken n (subst (TookAcknowledgement n) turn.own took));
  }
    where
      turn : OtherTurn c e es
      turn = other_turn c d e es node other

      same : applied (e ∷ es) ≡ applied es
      same = ap (λ own. records_in (counted own)) turn.server

  at_node : (node : Node) → e.node ≡ node → AcksApplied c (e ∷ es)
  at_node Server node = by_server node
  at_node (Client d) node = by (eqb c d) refl
    where
      by : (own : Bool) → eqb c d ≡ own → AcksApplied c (e ∷ es)
      by true same = by_itself (node ∙ ap Client (sym (same_number c d same)))
      by false other = by_other d node other

acks_applied : (p : Settings) (next : ThreadId → List Event → Option Request) (c : ℕ) (es : List Entry) → AllFollow p next es → AcksApplied c es
acks_applied p next c [] follow = record { flight = tt; taken = λ n took. absurd took }
acks_applied p next c (e ∷ es) follow = at_node p next c e es follow (acks_applied p next c es follow.0) e.node refl

pub acknowledged_are_applied : AcknowledgedAreApplied
acknowledged_are_applied p next es follow c n took = (acks_applied p next c es follow).taken n took
