-- A client publishes no object twice: how often an object stands among the news of its records.
use Rattle.std.proofs.Common.{ℕ, zero, suc, ◌+◌, ◌≤◌, ◌≡◌, ◌⊎◌, inl, inr, refl, sym, ◌∙◌, ap, subst, Bool, true, false, cond, eqb, Option, Some, None, List, [], ◌∷◌, ◌++◌, arith}
use Rattle.dso_base.specs.declared.journal.Entry.{Entry}
use Rattle.dso_base.specs.declared.journal.Node.{Node}
use Rattle.dso_base.specs.declared.journal.Node.TheVariants.{Server, Client}
use Rattle.dso_base.specs.declared.journal.Sent.{Sent}
use Rattle.dso_base.specs.declared.journal.Sent.TheVariants.{ToServer, ToClient}
use Rattle.dso_base.specs.declared.lock.ThreadId.{ThreadId}
use Rattle.dso_base.specs.declared.message.Up.{Up}
use Rattle.dso_base.specs.declared.message.Up.TheVariants as up
use Rattle.dso_base.specs.declared.record.Ending.{Ending}
use Rattle.dso_base.specs.declared.request.Event.{Event}
use Rattle.dso_base.specs.declared.request.Event.TheVariants.{Act}
use Rattle.dso_base.specs.declared.request.Request.{Request}
use Rattle.dso_base.specs.Block.{start, worked}
use Rattle.dso_base.specs.Following.{is_thread}
use Rattle.dso_plain.proofs.keys.SameKeys.{same_number, same_thread, thread_self}
use Rattle.dso_law.specs.Settings.{Settings}
use Rattle.dso_law.specs.Entries.{entries_of, by_sent_up}
use Rattle.dso_law.specs.Threads.{ending_of, locks_of, open_block, privates_before, work_of}
use Rattle.dso_law.specs.ClientStep.{record_of, commits}
use Rattle.dso_law.specs.Replies.{woken_by}
use Rattle.dso_legal.specs.Agreement.{after}
use Rattle.dso_legal.specs.Lawful.{next_after, ClientFollows, NodeFollows, AllFollow}
use Rattle.dso_legal.specs.MadeOnce.{objects_made, objects_of, is_made}
use Rattle.dso_legal.specs.OwnObjects.{count_bodies, count_in_hand}
use Rattle.dso_legal.proofs.channels.Agreement.{after_append}
use Rattle.dso_legal.proofs.acts.ClientActs.{IsNoRecord, NoRecords, IsQuiet, HasEvent, client_acted}
use Rattle.dso_legal.proofs.records.BothEnds.{client_with}
use Rattle.dso_legal.proofs.leases.LeaseSteps.{if_true}
use Rattle.dso_legal.proofs.objects.Makers.{count_listed, within, apart, falls_once, listed_if, at_least}
use Rattle.dso_legal.proofs.ids.Making.{in_order, rises}
use Rattle.dso_legal.proofs.objects.OwnObjects.{published_said, published, Balanced, by_record, record_of_other, balanced, more_published, some_more, published_made}
use Rattle.dso_legal.proofs.channels.InFlight.{said_of, said_status}

-- sums
none_before : (k : ℕ) → 1 ≤ 0 + k → 1 ≤ k
none_before k le = omega (arith, le)

one_or_more : (n k : ℕ) → n ≡ suc k → 1 ≤ n
one_or_more n k e = omega (arith, e)

never_one : 1 ≤ 0 → ⊥
never_one le = omega (arith, le)

-- the first news of an object
first_news : (held pub_now made all news before : ℕ) → held + pub_now ≡ made → pub_now ≡ news + before → made ≤ all → all ≤ 1 → news + 0 ≤ 1
first_news held pub_now made all news before a b c d = omega (arith, a, b, c, d)

-- none where its thread published it before
own_again : (held pub_now made all news before k : ℕ) → held + pub_now ≡ made → pub_now ≡ news + before → made ≤ all → all ≤ 1 → 1 ≤ before → k ≤ 1 → news + k ≤ 1
own_again held pub_now made all news before k a b c d some le = omega (arith, a, b, c, d, some, le)

-- none where another thread did
other_again : (held pub_now made all news before k held_other pub_other made_other : ℕ) → held + pub_now ≡ made → pub_now ≡ news + before → held_other + pub_other ≡ made_other → made_other + made ≤ all → all ≤ 1 → 1 ≤ pub_other
    → k ≤ 1 → news + k ≤ 1
other_again held pub_now made all news before k held_other pub_other made_other a b c d few some le = omega (arith, a, b, c, d, few, some, le)

module _ (o : ℕ) where
  -- what a message publishes
  abbrev pub news_of : Up → ℕ → ℕ
  news_of (up.Commit txn) n = count_bodies o txn.news + n
  news_of m n = n

  -- how often the client's records publish the object
  abbrev pub sent_news : List Entry → ℕ
  sent_news [] = 0
  sent_news (e ∷ es) = by_sent_up news_of e.sent (sent_news es)

  no_news : (m : Up) (n : ℕ) → IsNoRecord m → news_of m n ≡ n
  no_news (up.Commit txn) n h = absurd h
  no_news m n h = refl

  none_new : (ms : List Up) (n : ℕ) → NoRecords ms → after news_of ms n ≡ n
  none_new [] n h = refl
  none_new (m ∷ ms) n h = ap (after news_of ms) (no_news m n h.0) ∙ none_new ms n h.1

  -- some thread published it
  abbrev SomeOne : (ThreadId → ℕ) → Type 0
  SomeOne n = (u : ThreadId) × (1 ≤ n u)

  sent_one : (m : Up) (k : ℕ) (n : ThreadId → ℕ) → (1 ≤ k → SomeOne n) → 1 ≤ news_of m k → SomeOne (λ u. published_said o u m (n u))
  sent_one (up.Commit txn) k n h le = by (count_bodies o txn.news) refl le
    where
      by : (a : ℕ) → count_bodies o txn.news ≡ a → 1 ≤ a + k → SomeOne (λ u. published_said o u (up.Commit txn) (n u))
      by zero is some = let it = h (none_before k some) in (it.0, more_published o (is_thread it.0 txn.thread) (count_bodies o txn.news) (n it.0) it.1)
      by (suc a) is some = (
        txn.thread,
        subst (λ (x : ℕ). 1 ≤ x) (sym (if_true (is_thread txn.thread txn.thread) (count_bodies o txn.news + n txn.thread) (n txn.thread) (thread_self txn.thread)))
            (some_more o (count_bodies o txn.news) (n txn.thread) (one_or_more (count_bodies o txn.news) a is)),
      )
  sent_one m k n h le = h le

  sent_all : (out : List Sent) (k : ℕ) (n : ThreadId → ℕ) → (1 ≤ k → SomeOne n) → 1 ≤ by_sent_up news_of out k → SomeOne (λ u. by_sent_up (published_said o u) out (n u))
  sent_all [] k n h le = h le
  sent_all (ToServer m ∷ out) k n h le = sent_all out (news_of m k) (λ u. published_said o u m (n u)) (sent_one m k n h) le
  sent_all (ToClient d m ∷ out) k n h le = sent_all out k n h le

  some_sent : (es : List Entry) → 1 ≤ sent_news es → SomeOne (λ u. published o u es)
  some_sent [] le = absurd (never_one le)
  some_sent (e ∷ es) le = sent_all e.sent (sent_news es) (λ u. published o u es) (some_sent es) le

  module _ (p : Settings) where
    -- the client made the object at most once, and each of its threads has in hand and published what it made
    record OneMaker (es : List Entry) : Type 0 where
      few : count_listed o (objects_made es) ≤ 1
      balance : (t : ThreadId) → Balanced o p t es

    module _ (e : Entry) (es : List Entry) (maker : OneMaker (e ∷ es)) where
      module _ (it : HasEvent p e es) where
        abbrev event : Event
        event = Act it.thread it.request it.reply (woken_by it.request it.reply es)

        -- what the record publishes, if the event ends one
        abbrev news : ℕ
        news = count_bodies o (worked p.shape (open_block it.thread es ++ event ∷ []) (start (privates_before p.shape it.thread es))).news

        own_more : (ending : Ending) → ending_of event (locks_of it.thread es) ≡ Some ending → published o it.thread (e ∷ es) ≡ news + published o it.thread es
        own_more ending is = by_record o p e es it it.thread
            ∙ ap (λ x. after (published_said o it.thread) (record_of p it.thread event x es) (published o it.thread es)) is
            ∙ if_true (is_thread it.thread it.thread) (news + published o it.thread es) (published o it.thread es) (thread_self it.thread)

        other_same : (u : ThreadId) → is_thread u it.thread ≡ false → published o u (e ∷ es) ≡ published o u es
        other_same u other = by_record o p e es it u ∙ record_of_other o p e es it u (ending_of event (locks_of it.thread es)) (published o u es) other

        -- counts after the entry
        abbrev held : ThreadId → ℕ
        held u = count_in_hand o (work_of p.shape u (e ∷ es))

        abbrev made_by : ThreadId → ℕ
        made_by u = count_listed o (objects_of u (e ∷ es))

        never_again : (ending : Ending) → ending_of event (locks_of it.thread es) ≡ Some ending → (k : ℕ) → sent_news es ≡ k → k ≤ 1 → news + k ≤ 1
        never_again ending is zero sent le = first_news (held it.thread) (published o it.thread (e ∷ es)) (made_by it.thread) (count_listed o (objects_made (e ∷ es))) news (published o it.thread es)
            (maker.balance it.thread) (own_more ending is) (within o it.thread (e ∷ es)) maker.few
        never_again ending is (suc k) sent le = by (is_thread who.0 it.thread) refl
          where
            who : SomeOne (λ u. published o u es)
            who = some_sent es (one_or_more (sent_news es) k sent)

            by : (b : Bool) → is_thread who.0 it.thread ≡ b → news + suc k ≤ 1
            by true same = own_again (held it.thread) (published o it.thread (e ∷ es)) (made_by it.thread) (count_listed o (objects_made (e ∷ es))) news (published o it.thread es) (suc k)
                (maker.balance it.thread) (own_more ending is) (within o it.thread (e ∷ es)) maker.few
                (subst (λ u. 1 ≤ published o u es) (sym (same_thread who.0 it.thread same)) who.1) le
            by false other = other_again (held it.thread) (published o it.thread (e ∷ es)) (made_by it.thread) (count_listed o (objects_made (e ∷ es))) news (published o it.thread es) (suc k)
                (held who.0) (published o who.0 (e ∷ es)) (made_by who.0)
                (maker.balance it.thread) (own_more ending is) (maker.balance who.0) (apart o who.0 it.thread other (e ∷ es)) maker.few
                (subst (λ n. 1 ≤ n) (sym (other_same who.0 other)) who.1) le

        sent_is : sent_news (e ∷ es) ≡ after news_of (commits p it.thread event es) (sent_news es)
        sent_is = said_status news_of e.sent (sent_news es)
            ∙ ap (λ ms. after news_of ms (sent_news es)) it.whole
            ∙ after_append news_of (commits p it.thread event es) it.rest (sent_news es)
            ∙ none_new it.rest (after news_of (commits p it.thread event es) (sent_news es)) it.no_records

        sent_by : (ending : Option Ending) → ending_of event (locks_of it.thread es) ≡ ending → sent_news es ≤ 1 → sent_news (e ∷ es) ≤ 1
        sent_by None is le = subst (λ n. n ≤ 1) (sym (sent_is ∙ ap (λ x. after news_of (record_of p it.thread event x es) (sent_news es)) is)) le
        sent_by (Some ending) is le = subst (λ n. n ≤ 1) (sym (sent_is ∙ ap (λ x. after news_of (record_of p it.thread event x es) (sent_news es)) is)) (never_again ending is (sent_news es) refl le)

      sent_step : IsQuiet e ⊎ HasEvent p e es → sent_news es ≤ 1 → sent_news (e ∷ es) ≤ 1
      sent_step (inl quiet) le = subst (λ n. n ≤ 1) (sym (said_status news_of e.sent (sent_news es) ∙ none_new (said_of e.sent) (sent_news es) quiet.no_records)) le
      sent_step (inr it) le = sent_by it (ending_of (event it) (locks_of it.thread es)) refl le

    module _ (next : ThreadId → List Event → Option Request) (c : ℕ) where
      maker : (es : List Entry) → AllFollow p next es → OneMaker (entries_of (Client c) es)
      maker es follow = record {
        few = falls_once o (objects_made (entries_of (Client c) es)) (rises (entries_of (Client c) es) (in_order p next c es follow)).made;
        balance = λ t. balanced o p next c t es follow;
      }

      sent_at : (node : Node) (e : Entry) (es : List Entry) → NodeFollows p next node e es → OneMaker (client_with c node e es) → sent_news (entries_of (Client c) es) ≤ 1 → sent_news (client_with c node e es) ≤ 1
      sent_at Server e es follows one le = le
      sent_at (Client d) e es follows one le = by (eqb c d) refl one
        where
          by : (b : Bool) → eqb c d ≡ b → OneMaker (cond b (e ∷ entries_of (Client c) es) (entries_of (Client c) es)) → sent_news (cond b (e ∷ entries_of (Client c) es) (entries_of (Client c) es)) ≤ 1
          by true is here =
              let mine : ClientFollows p next c e es = subst (λ n. ClientFollows p next n e es) (sym (same_number c d is)) follows in
              sent_step e (entries_of (Client c) es) here (client_acted p c (next_after next es) (next_after next (e ∷ es)) e (entries_of (Client c) es) mine.step) le
          by false is here = le

      -- the client's records publish the object once at most
      pub sent_once : (es : List Entry) → AllFollow p next es → sent_news (entries_of (Client c) es) ≤ 1
      sent_once [] follow = omega arith
      sent_once (e ∷ es) follow = sent_at e.node e es follow.1.rule (maker (e ∷ es) follow) (sent_once es follow.0)

      -- and the client made what they publish
      pub sent_made : (es : List Entry) → AllFollow p next es → 1 ≤ sent_news (entries_of (Client c) es) → is_made c o es ≡ true
      sent_made es follow le =
          let own = entries_of (Client c) es in
          let who = some_sent own le in
          let some = published_made (count_in_hand o (work_of p.shape who.0 own)) (published o who.0 own) (count_listed o (objects_of who.0 own)) (balanced o p next c who.0 es follow) who.1 in
          listed_if o (objects_made own) (at_least (count_listed o (objects_of who.0 own)) (count_listed o (objects_made own)) some (within o who.0 own))
