-- A record that comes has its objects and sets in order.
use Rattle.std.specs.List.{AllByRecursion}
use Rattle.std.proofs.Common.{ℕ, ◌+◌, ◌≤◌, ◌≡◌, ◌⊎◌, inl, inr, refl, sym, subst, Bool, true, false, cond, eqb, Option, Some, None, List, [], ◌∷◌, ◌++◌, drop, arith}
use Rattle.dso_base.specs.declared.journal.Entry.{Entry}
use Rattle.dso_base.specs.declared.journal.Node.{Node}
use Rattle.dso_base.specs.declared.journal.Node.TheVariants.{Server, Client}
use Rattle.dso_base.specs.declared.lock.ThreadId.{ThreadId}
use Rattle.dso_base.specs.declared.message.Up.{Up}
use Rattle.dso_base.specs.declared.message.Up.TheVariants as up
use Rattle.dso_base.specs.declared.record.Ending.{Ending}
use Rattle.dso_base.specs.declared.record.Txn.{Txn}
use Rattle.dso_base.specs.declared.request.Event.{Event}
use Rattle.dso_base.specs.declared.request.Event.TheVariants.{Act}
use Rattle.dso_base.specs.declared.request.Request.{Request}
use Rattle.dso_base.specs.Block.{start, is_field_before}
use Rattle.dso_plain.proofs.keys.SameKeys.{same_number}
use Rattle.dso_law.specs.Settings.{Settings}
use Rattle.dso_law.specs.Entries.{entries_of, by_sent_up}
use Rattle.dso_law.specs.Channels.{Letter, posted, takes_up, up_in_flight, in_flight_after, to_server, IsFirst}
use Rattle.dso_law.specs.FitsUp.{Rises}
use Rattle.dso_law.specs.ServerReadings.{counted}
use Rattle.dso_law.specs.Threads.{ending_of, locks_of, open_block, privates_before}
use Rattle.dso_law.specs.ClientStep.{record_of, commits}
use Rattle.dso_law.specs.Replies.{woken_by}
use Rattle.dso_legal.specs.Agreement.{messages, after}
use Rattle.dso_legal.specs.Lawful.{next_after, ClientFollows, NodeFollows, AllFollow}
use Rattle.dso_legal.specs.OwnObjects.{count_bodies}
use Rattle.dso_legal.specs.Sorted.{IsSortedRecord, RecordsAreSorted}
use Rattle.dso_legal.proofs.acts.ClientActs.{IsNoRecord, NoRecords, IsQuiet, HasEvent, client_acted}
use Rattle.dso_legal.proofs.records.NewsAreNew.{taken_news, was_sent, none_less, through}
use Rattle.dso_legal.proofs.records.Rising.{is_upto, work_rises, ids_rise}
use Rattle.dso_legal.proofs.records.SentNews.{news_of, sent_news, sent_once}
use Rattle.dso_legal.proofs.channels.InFlight.{said_of, said_letters}

-- what is said of a record where its objects may stand more than once
record NearlySorted (txn : Txn) : Type 0 where
  news : Rises is_upto txn.news
  sets : Rises is_field_before txn.sets

abbrev IsNearlySorted : Up → Type 0
IsNearlySorted (up.Commit txn) = NearlySorted txn
IsNearlySorted m = Unit {0}

no_record_sorted : (m : Up) → IsNoRecord m → IsNearlySorted m
no_record_sorted (up.Commit txn) h = absurd h
no_record_sorted m h = tt

no_records_sorted : (ms : List Up) → NoRecords ms → AllByRecursion IsNearlySorted ms
no_records_sorted [] h = tt
no_records_sorted (m ∷ ms) h = (no_record_sorted m h.0, no_records_sorted ms h.1)

each_append : (xs ys : List Up) → AllByRecursion IsNearlySorted xs → AllByRecursion IsNearlySorted ys → AllByRecursion IsNearlySorted (xs ++ ys)
each_append [] ys h k = k
each_append (x ∷ xs) ys h k = (h.0, each_append xs ys h.1 k)

record_sorted : (p : Settings) (t : ThreadId) (event : Event) (ending : Option Ending) (es : List Entry) → AllByRecursion IsNearlySorted (record_of p t event ending es)
record_sorted p t event None es = tt
record_sorted p t event (Some ending) es =
    let rises = work_rises p.shape (open_block t es ++ event ∷ []) (start (privates_before p.shape t es)) (record { news = tt; sets = tt }) in
    (record { news = rises.news; sets = rises.sets }, tt)

-- what a client's entry sends
sent_sorted : (p : Settings) (e : Entry) (es : List Entry) → IsQuiet e ⊎ HasEvent p e es → AllByRecursion IsNearlySorted (said_of e.sent)
sent_sorted p e es (inl quiet) = no_records_sorted (said_of e.sent) quiet.no_records
sent_sorted p e es (inr it) =
    let event : Event = Act it.thread it.request it.reply (woken_by it.request it.reply es) in
    subst (AllByRecursion IsNearlySorted) (sym it.whole) (each_append (commits p it.thread event es) it.rest (record_sorted p it.thread event (ending_of event (locks_of it.thread es)) es) (no_records_sorted it.rest it.no_records))

-- without the first
dropped : (b : Bool) (letters : List (Letter Up)) → AllByRecursion IsNearlySorted (messages letters) → AllByRecursion IsNearlySorted (messages (cond b (drop 1 letters) letters))
dropped true [] h = tt
dropped true (letter ∷ letters) h = h.1
dropped false letters h = h

module _ (p : Settings) (next : ThreadId → List Event → Option Request) (c : ℕ) where
  way_at : (node : Node) (e : Entry) (es : List Entry) → NodeFollows p next node e es → AllByRecursion IsNearlySorted (messages (up_in_flight c es)) → AllByRecursion IsNearlySorted (messages (in_flight_after (to_server c) e node (up_in_flight c es)))
  way_at Server e es follows h = dropped (takes_up c e.input) (up_in_flight c es) h
  way_at (Client d) e es follows h = by (eqb c d) refl
    where
      by : (b : Bool) → eqb c d ≡ b → AllByRecursion IsNearlySorted (messages (cond b (by_sent_up (posted e.clock) e.sent (up_in_flight c es)) (up_in_flight c es)))
      by true is =
          let mine : ClientFollows p next c e es = subst (λ n. ClientFollows p next n e es) (sym (same_number c d is)) follows in
          subst (AllByRecursion IsNearlySorted) (sym (said_letters e.clock e.sent (up_in_flight c es)))
          (each_append (messages (up_in_flight c es)) (said_of e.sent) h
          (sent_sorted p e (entries_of (Client c) es) (client_acted p c (next_after next es) (next_after next (e ∷ es)) e (entries_of (Client c) es) mine.step)))
      by false is = h

  -- what is in flight
  way_sorted : (es : List Entry) → AllFollow p next es → AllByRecursion IsNearlySorted (messages (up_in_flight c es))
  way_sorted [] follow = tt
  way_sorted (e ∷ es) follow = way_at e.node e es follow.1.rule (way_sorted es follow.0)

alone : (a b : ℕ) → a + b ≤ 1 → a ≤ 1
alone a b le = omega (arith, le)

-- a record that publishes each object once
sorted_by : (m : Up) (n : ℕ → ℕ) → IsNearlySorted m → ((o : ℕ) → news_of o m (n o) ≤ 1) → IsSortedRecord m
sorted_by (up.Commit txn) n h few = record { news = ids_rise txn.news h.news (λ o. alone (count_bodies o txn.news) (n o) (few o)); sets = h.sets }
sorted_by m n h few = tt

first_sorted : (m : Up) (letters : List (Letter Up)) (n : ℕ → ℕ) → IsFirst m letters → AllByRecursion IsNearlySorted (messages letters) → ((o : ℕ) → after (news_of o) (messages letters) (n o) ≤ 1) → IsSortedRecord m
first_sorted m [] n f h few = absurd f
first_sorted m (letter ∷ letters) n f h few = subst IsSortedRecord (sym f) (sorted_by letter.message n h.0
    (λ o. through (news_of o letter.message (n o)) (after (news_of o) (messages letters) (news_of o letter.message (n o))) 1 (none_less o (messages letters) (news_of o letter.message (n o))) (few o)))

-- over entries that follow one another
pub first_is_sorted : (p : Settings) (next : ThreadId → List Event → Option Request) (es : List Entry) → AllFollow p next es → (c : ℕ) (m : Up) → IsFirst m (up_in_flight c es) → IsSortedRecord m
first_is_sorted p next es follow c m f = first_sorted m (up_in_flight c es) (λ o. taken_news o c (counted (entries_of Server es))) f (way_sorted p next c es follow)
    (λ o. through (after (news_of o) (messages (up_in_flight c es)) (taken_news o c (counted (entries_of Server es)))) (sent_news o (entries_of (Client c) es)) 1 (was_sent o p next c es follow) (sent_once o p next c es follow))

pub records_are_sorted : RecordsAreSorted
records_are_sorted p next es h c m f = first_is_sorted p next es h.follow c m f
