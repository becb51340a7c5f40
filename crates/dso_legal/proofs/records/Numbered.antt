-- The records of a client are numbered and acknowledged in order.
use Rattle.std.proofs.Common.{ℕ, ◌≡◌, refl, sym, ◌∙◌, ap, subst, Bool, true, false, cond, eqb, Option, Some, None, List, [], ◌∷◌, ◌++◌}
use Rattle.dso_base.specs.declared.journal.Entry.{Entry}
use Rattle.dso_base.specs.declared.journal.Input.{Input}
use Rattle.dso_base.specs.declared.journal.Input.TheVariants as input
use Rattle.dso_base.specs.declared.journal.Node.TheVariants.{Server, Client}
use Rattle.dso_base.specs.declared.lock.ThreadId.{ThreadId}
use Rattle.dso_base.specs.declared.message.Down.{Down}
use Rattle.dso_base.specs.declared.message.Down.TheVariants as down
use Rattle.dso_base.specs.declared.message.Up.{Up}
use Rattle.dso_base.specs.declared.message.Up.TheVariants as up
use Rattle.dso_base.specs.declared.record.Body.{Body}
use Rattle.dso_base.specs.declared.record.Txn.{Txn}
use Rattle.dso_base.specs.declared.request.Event.{Event}
use Rattle.dso_base.specs.declared.request.Request.{Request}
use Rattle.dso_law.specs.Settings.{Settings}
use Rattle.dso_law.specs.Entries.{unsent, entries_of, by_taken_down, by_taken_up, if_to}
use Rattle.dso_law.specs.Records.{records_by_sent, records, unacked_by_taken, unacked_by_sent, unacked}
use Rattle.dso_law.specs.ServerReadings.{counted, is_lost, number_by, last_number, next_batch}
use Rattle.dso_law.specs.Store.{stored}
use Rattle.dso_law.specs.ServerStep.{object_to}
use Rattle.dso_legal.specs.Agreement.{after, EachMay}
use Rattle.dso_legal.specs.Lawful.{next_after, AllFollow}
use Rattle.dso_legal.specs.Numbered.{RecordsInOrder, RecordsFirst, Always, unchanged, HasNextNumber, number_sent, IsOfFirst, RecordsStayInOrder, RecordsFit}
use Rattle.dso_legal.proofs.channels.Agreement.{AllDeaf, IsDeaf, more_deaf, may_append, after_append, Commute, Commutes, deaf_down}
use Rattle.dso_legal.proofs.records.ClientSends.{AtMostRecord, IsAboutLock, EachAboutLock, IsAskOrFlush, AtMostAsk, ClientSent, client_sent}
use Rattle.dso_legal.proofs.records.BothEnds.{Ends, ends_agree, first_may_up, first_may_down}
use Rattle.dso_legal.proofs.records.ServerSent.{told_each_deaf, told_each_so, IsNoReply, reply_on, ServerSent, server_sent}
use Rattle.dso_legal.proofs.channels.InFlight.{said_of, told_to, told_append, said_status, told_status}

-- messages that may always come
pub each_always : {M S : Type 0} (step : M → S → S) (ms : List M) (s : S) → EachMay Always step ms s
each_always step [] s = tt
each_always step (m ∷ ms) s = (tt, each_always step ms (step m s))

-- messages that change nothing
pub after_unchanged : {M S : Type 0} (ms : List M) (s : S) → after unchanged ms s ≡ s
after_unchanged [] s = refl
after_unchanged (m ∷ ms) s = after_unchanged ms s

-- what is taken changes nothing
pub taken_unchanged : {S : Type 0} (input : Input) (s : S) → by_taken_down unchanged input s ≡ s
taken_unchanged (input.TookDown m) s = refl
taken_unchanged other s = refl

-- a choice between a thing and itself
pub same_either : {X : Type 0} (b : Bool) (x : X) → cond b x x ≡ x
same_either true x = refl
same_either false x = refl

-- messages about locks have no numbers
lock_deaf : (m : Up) → IsAboutLock m → IsDeaf HasNextNumber number_sent m
lock_deaf (up.Request l level) h = λ n. (tt, refl)
lock_deaf (up.Return l threads) h = λ n. (tt, refl)
lock_deaf other h = absurd h

locks_deaf : (ms : List Up) → EachAboutLock ms → AllDeaf HasNextNumber number_sent ms
locks_deaf [] h = record { comes = λ n. tt; stays = λ n. refl }
locks_deaf (m ∷ ms) h = more_deaf HasNextNumber number_sent m ms (lock_deaf m h.0) (locks_deaf ms h.1)

-- nor have asks
ask_deaf : (input : Input) (es : List Entry) (m : Up) → IsAskOrFlush input es m → IsDeaf HasNextNumber number_sent m
ask_deaf input es up.IdAsk h = λ n. (tt, refl)
ask_deaf input es (up.Fault o) h = λ n. (tt, refl)
ask_deaf input es (up.Flushed o) h = λ n. (tt, refl)
ask_deaf input es (up.Request l level) h = λ n. (tt, refl)
ask_deaf input es other h = absurd h

asks_deaf : (input : Input) (es : List Entry) (ms : List Up) → AtMostAsk input es ms → AllDeaf HasNextNumber number_sent ms
asks_deaf input es [] h = record { comes = λ n. tt; stays = λ n. refl }
asks_deaf input es (m ∷ []) h = more_deaf HasNextNumber number_sent m [] (ask_deaf input es m h) (record { comes = λ n. tt; stays = λ n. refl })
asks_deaf input es (m ∷ k ∷ ms) h = absurd h

-- a record that is sent has the next number
record_comes : (es : List Entry) (ms : List Up) → AtMostRecord es ms → EachMay HasNextNumber number_sent ms (records es)
record_comes es [] h = tt
record_comes es (m ∷ []) h = (subst (λ m. HasNextNumber m (records es)) (sym h.is) h.number, tt)
record_comes es (m ∷ k ∷ ms) h = absurd h

-- what a client's entry sends is numbered
sent_numbered : (e : Entry) (es : List Entry) → ClientSent e es → EachMay HasNextNumber number_sent (said_of e.sent) (records es)
sent_numbered e es sent =
    let locks = locks_deaf sent.locks sent.about_locks in
    let last = asks_deaf e.input (unsent e ∷ es) sent.last sent.asks in
    let n = after number_sent sent.first (records es) in
    subst (λ ms. EachMay HasNextNumber number_sent ms (records es)) (sym sent.whole)
    (may_append HasNextNumber number_sent sent.first (sent.locks ++ sent.last) (records es) (record_comes es sent.first sent.records)
    (may_append HasNextNumber number_sent sent.locks sent.last n (locks.comes n) (last.comes (after number_sent sent.locks n))))

-- numbered in order, the last number is how many there are
count_is_number : (m : Up) (n : ℕ) → HasNextNumber m n → records_by_sent m n ≡ number_sent m n
count_is_number (up.Commit txn) n h = sym h
count_is_number m n h = refl

counts_are_numbers : (ms : List Up) (n : ℕ) → EachMay HasNextNumber number_sent ms n → after records_by_sent ms n ≡ after number_sent ms n
counts_are_numbers [] n h = refl
counts_are_numbers (m ∷ ms) n h = ap (after records_by_sent ms) (count_is_number m n h.0) ∙ counts_are_numbers ms (number_sent m n) h.1

-- the number of a message that the server takes
number_heard : (c : ℕ) (input : Input) (n : ℕ) → by_taken_up (number_by c) input n ≡ by_taken_up (if_to c number_sent) input n
number_heard c (input.TookUp d (up.Commit txn)) n = refl
number_heard c (input.TookUp d m) n = sym (same_either (eqb c d) n)
number_heard c other n = refl

-- numbers of both directions commute
numbers_commute : Commutes HasNextNumber number_sent (Always {M = Down}) unchanged
numbers_commute m d n up down = deaf_down HasNextNumber number_sent Always unchanged m d n (λ s. (tt, refl)) up

-- so do records and acknowledgements
record_commutes : (txn : Txn) (d : Down) (q : List Txn) → IsOfFirst d q → Commute Always unacked_by_sent IsOfFirst unacked_by_taken (up.Commit txn) d q
record_commutes txn (down.Ack seq) [] h = absurd h
record_commutes txn (down.Ack seq) (first ∷ rest) h = record { down_later = h; up_later = tt; same = refl }
record_commutes txn d q h = record { down_later = tt; up_later = tt; same = refl }

pub queue_commutes : Commutes Always unacked_by_sent IsOfFirst unacked_by_taken
queue_commutes (up.Commit txn) d q up down = record_commutes txn d q down
queue_commutes m d q up down = record { down_later = down; up_later = tt; same = refl }

-- what is no reply acknowledges nothing
no_reply_deaf : (m : Down) → IsNoReply m → IsDeaf IsOfFirst unacked_by_taken m
no_reply_deaf (down.Ids first) h = absurd h
no_reply_deaf (down.Object body) h = absurd h
no_reply_deaf (down.Ack seq) h = absurd h
no_reply_deaf m h = λ s. (tt, refl)

-- the server acknowledges what it takes, at once
record AcksAtOnce (ms : List Down) (q : List Txn) : Type 0 where
  comes : EachMay IsOfFirst unacked_by_taken ms q
  empty : after unacked_by_taken ms q ≡ []

ack_one : (b : Bool) (txn : Txn) → AcksAtOnce (cond b (down.Ack txn.seq ∷ []) []) (cond b (txn ∷ []) [])
ack_one true txn = record { comes = (refl, tt); empty = refl }
ack_one false txn = record { comes = tt; empty = refl }

nothing_to_ack : (b : Bool) → AcksAtOnce [] (cond b [] [])
nothing_to_ack true = record { comes = tt; empty = refl }
nothing_to_ack false = record { comes = tt; empty = refl }

one_no_ack : (b e : Bool) (m : Down) → IsDeaf IsOfFirst unacked_by_taken m → AcksAtOnce (cond b (m ∷ []) []) (cond e [] [])
one_no_ack true true m deaf = record { comes = ((deaf []).0, tt); empty = (deaf []).1 }
one_no_ack true false m deaf = record { comes = ((deaf []).0, tt); empty = (deaf []).1 }
one_no_ack false true m deaf = record { comes = tt; empty = refl }
one_no_ack false false m deaf = record { comes = tt; empty = refl }

object_no_ack : (c d : ℕ) (body : Option Body) → AcksAtOnce (told_to c (object_to d body)) (cond (eqb c d) [] [])
object_no_ack c d None = nothing_to_ack (eqb c d)
object_no_ack c d (Some body) = one_no_ack (eqb c d) (eqb c d) (down.Object body) (λ s. (tt, refl))

reply_acks : (p : Settings) (c : ℕ) (i : Input) (es : List Entry) → AcksAtOnce (told_to c (reply_on p i es)) (by_taken_up (if_to c unacked_by_sent) i [])
reply_acks p c (input.TookUp d up.IdAsk) es = one_no_ack (eqb c d) (eqb c d) (down.Ids (next_batch es)) (λ s. (tt, refl))
reply_acks p c (input.TookUp d (up.Fault o)) es = object_no_ack c d (stored p.shape o es)
reply_acks p c (input.TookUp d (up.Commit txn)) es = ack_one (eqb c d) txn
reply_acks p c (input.TookUp d m) es = nothing_to_ack (eqb c d)
reply_acks p c other es = record { comes = tt; empty = refl }

-- and with all that it sends
sent_acks : (p : Settings) (c : ℕ) (e : Entry) (es : List Entry) → ServerSent p e es → AcksAtOnce (told_to c e.sent) (by_taken_up (if_to c unacked_by_sent) e.input [])
sent_acks p c e es sent =
    let q = by_taken_up (if_to c unacked_by_sent) e.input [] in
    let reply = reply_acks p c e.input (unsent e ∷ es) in
    let deaf = told_each_deaf IsOfFirst unacked_by_taken c sent.others (told_each_so IsNoReply (IsDeaf IsOfFirst unacked_by_taken) no_reply_deaf sent.others sent.no_replies) in
    let same : told_to c e.sent ≡ told_to c (reply_on p e.input (unsent e ∷ es)) ++ told_to c sent.others = ap (told_to c) sent.whole ∙ told_append c (reply_on p e.input (unsent e ∷ es)) sent.others in
    record {
      comes = subst (λ ms. EachMay IsOfFirst unacked_by_taken ms q) (sym same)
          (may_append IsOfFirst unacked_by_taken (told_to c (reply_on p e.input (unsent e ∷ es))) (told_to c sent.others) q reply.comes (deaf.comes (after unacked_by_taken (told_to c (reply_on p e.input (unsent e ∷ es))) q)));
      empty = ap (λ ms. after unacked_by_taken ms q) same ∙ after_append unacked_by_taken (told_to c (reply_on p e.input (unsent e ∷ es))) (told_to c sent.others) q
          ∙ deaf.stays (after unacked_by_taken (told_to c (reply_on p e.input (unsent e ∷ es))) q) ∙ reply.empty;
    }

module _ (p : Settings) (next : ThreadId → List Event → Option Request) (c : ℕ) where
  -- both ends of the numbers
  numbers_ends : Ends p next c HasNextNumber number_sent Always unchanged records (last_number c)
  numbers_ends = record {
    start = refl;
    at_client = λ e es follow h.
        let comes = sent_numbered e (entries_of (Client c) es) (client_sent p c (next_after next es) (next_after next (e ∷ es)) e (entries_of (Client c) es) h.step) in
        let n = records (entries_of (Client c) es) in
        record {
          comes = subst (EachMay HasNextNumber number_sent (said_of e.sent)) (sym (taken_unchanged e.input n)) comes;
          reads = said_status records_by_sent e.sent n ∙ counts_are_numbers (said_of e.sent) n comes ∙ ap (after number_sent (said_of e.sent)) (sym (taken_unchanged e.input n))
              ∙ sym (said_status number_sent e.sent (by_taken_down unchanged e.input n));
        };
    at_server = λ e es follow h counts stays.
        let n = last_number c (counted (entries_of Server es)) in
        record {
          comes = each_always unchanged (told_to c e.sent) (by_taken_up (if_to c number_sent) e.input n);
          reads = number_heard c e.input n ∙ sym (told_status c unchanged e.sent (by_taken_up (if_to c number_sent) e.input n) ∙ after_unchanged (told_to c e.sent) (by_taken_up (if_to c number_sent) e.input n));
        };
  }

  -- both ends of the records that aren't acknowledged
  pub queue_ends : Ends p next c Always unacked_by_sent IsOfFirst unacked_by_taken unacked (λ es. [])
  queue_ends = record {
    start = refl;
    at_client = λ e es follow h. record { comes = each_always unacked_by_sent (said_of e.sent) (by_taken_down unacked_by_taken e.input (unacked (entries_of (Client c) es))); reads = refl };
    at_server = λ e es follow h counts stays.
        let acks = sent_acks p c e (counted (entries_of Server es)) (server_sent p e (entries_of Server es) h.step counts) in
        record { comes = acks.comes; reads = sym (told_status c unacked_by_taken e.sent (by_taken_up (if_to c unacked_by_sent) e.input []) ∙ acks.empty) };
  }

-- over entries that follow one another
pub records_in_order : (p : Settings) (next : ThreadId → List Event → Option Request) (es : List Entry) → AllFollow p next es → (c : ℕ) → is_lost c (entries_of Server es) ≡ false → RecordsInOrder c es
records_in_order p next es follow c alive = record {
  numbers = ends_agree p next c HasNextNumber number_sent Always unchanged records (last_number c) numbers_commute (numbers_ends p next c) es follow alive;
  acknowledged = ends_agree p next c Always unacked_by_sent IsOfFirst unacked_by_taken unacked (λ es. []) queue_commutes (queue_ends p next c) es follow alive;
}

pub records_stay_in_order : RecordsStayInOrder
records_stay_in_order p next es h c alive = records_in_order p next es h.follow c alive

pub records_first : (p : Settings) (next : ThreadId → List Event → Option Request) (es : List Entry) → AllFollow p next es → (c : ℕ) → is_lost c (entries_of Server es) ≡ false → RecordsFirst c es
records_first p next es follow c alive =
    let order = records_in_order p next es follow c alive in
    record {
      ups = λ m f. first_may_up p next c HasNextNumber number_sent Always unchanged records (last_number c) es order.numbers m f;
      downs = λ m f. first_may_down p next c Always unacked_by_sent IsOfFirst unacked_by_taken unacked (λ es. []) es order.acknowledged m f;
    }

pub records_fit : RecordsFit
records_fit p next es h c alive = records_first p next es h.follow c alive
