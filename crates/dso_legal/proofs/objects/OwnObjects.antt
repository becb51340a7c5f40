-- What a thread has in hand is its own: of each object, it made as many as it has in hand and published.
use Rattle.std.proofs.Common.{ℕ, ◌+◌, ◌≤◌, ◌≡◌, ◌⊎◌, inl, inr, refl, sym, ◌∙◌, ap, subst, Bool, true, false, cond, eqb, ◌||◌, Option, Some, None, List, [], ◌∷◌, ◌++◌, arith}
use Rattle.dso_base.specs.declared.journal.Entry.{Entry}
use Rattle.dso_base.specs.declared.journal.Node.{Node}
use Rattle.dso_base.specs.declared.journal.Node.TheVariants.{Server, Client}
use Rattle.dso_base.specs.declared.journal.Sent.{Sent}
use Rattle.dso_base.specs.declared.journal.Sent.TheVariants.{ToServer, ToClient}
use Rattle.dso_base.specs.declared.lock.ThreadId.{ThreadId}
use Rattle.dso_base.specs.declared.message.Up.{Up}
use Rattle.dso_base.specs.declared.message.Up.TheVariants as up
use Rattle.dso_base.specs.declared.record.Ending.{Ending}
use Rattle.dso_base.specs.declared.request.Event.{Event}
use Rattle.dso_base.specs.declared.request.Event.TheVariants.{Act}
use Rattle.dso_base.specs.declared.request.Reply.TheVariants.{Made}
use Rattle.dso_base.specs.declared.request.Request.{Request}
use Rattle.dso_base.specs.declared.shape.Shape.{Shape}
use Rattle.dso_base.specs.Block.{Work, start, work_after, worked}
use Rattle.dso_base.specs.Following.{is_thread}
use Rattle.dso_plain.specs.History.{is_act_of}
use Rattle.dso_plain.proofs.keys.SameKeys.{same_number, same_thread, thread_self}
use Rattle.dso_law.specs.Settings.{Settings}
use Rattle.dso_law.specs.Entries.{entries_of, by_sent_up, by_event}
use Rattle.dso_law.specs.Threads.{ending_of, locks_of, open_block, block_after, privates_before, privates_after, work_of}
use Rattle.dso_law.specs.Copies.{is_among}
use Rattle.dso_law.specs.ClientStep.{record_of, commits}
use Rattle.dso_law.specs.Replies.{woken_by}
use Rattle.dso_law.specs.Laws.{WorkAfter}
use Rattle.dso_law.proofs.client.WorkByEntry.{work_goes_on}
use Rattle.dso_legal.specs.Agreement.{after}
use Rattle.dso_legal.specs.Lawful.{next_after, ClientFollows, NodeFollows, AllFollow}
use Rattle.dso_legal.specs.MadeOnce.{objects_by_reply, objects_by, objects_made, objects_of_by, objects_of, is_made, MadeOnce}
use Rattle.dso_legal.specs.OwnObjects.{published_by, was_published, count_bodies, count_in_hand, has_in_hand, IsOwn, ObjectsInHandAreOwn}
use Rattle.dso_legal.proofs.channels.Agreement.{after_append}
use Rattle.dso_legal.proofs.objects.BodyCounts.{count_reply, count_act, count_there, count_either}
use Rattle.dso_legal.proofs.acts.ClientActs.{IsNoRecord, NoRecords, IsQuiet, HasEvent, client_acted}
use Rattle.dso_legal.proofs.records.BothEnds.{client_with}
use Rattle.dso_legal.proofs.leases.LeaseSteps.{unless_true, if_true}
use Rattle.dso_legal.proofs.ids.MadeOnce.{made_once}
use Rattle.dso_legal.proofs.objects.Makers.{count_listed, count_replied, within, apart, falls_once, listed_if, not_two, at_least}
use Rattle.dso_legal.proofs.ids.Making.{IsNew, only_new, fails}
use Rattle.dso_legal.proofs.channels.InFlight.{said_of, said_status}

-- one more event is one more step of the work
pub worked_more : (shape : Shape) (events : List Event) (event : Event) (work : Work) → worked shape (events ++ event ∷ []) work ≡ work_after shape event (worked shape events work)
worked_more shape [] event work = refl
worked_more shape (first ∷ events) event work = worked_more shape events event (work_after shape first work)

-- the event, if there is one, is none of the thread's
abbrev pub IsOthers : ThreadId → Option Event → Type 0
IsOthers t None = Unit {0}
IsOthers t (Some event) = is_act_of t event ≡ false

-- and leaves the thread's readings alone
pub left_alone : {X : Type 0} (t : ThreadId) (f : Event → X → X) (event : Option Event) (x : X) → IsOthers t event → by_event (λ event x. cond (is_act_of t event) (f event x) x) event x ≡ x
left_alone t f None x h = refl
left_alone t f (Some event) x h = unless_true (is_act_of t event) (f event x) x h

pub work_alone : (shape : Shape) (t : ThreadId) (e : Entry) (es : List Entry) → IsOthers t e.event → work_of shape t (e ∷ es) ≡ work_of shape t es
work_alone shape t e es h =
    ap (λ block. worked shape block (start (privates_before shape t (e ∷ es)))) (left_alone t (λ event block. block_after event (locks_of t es) block) e.event (open_block t es) h)
    ∙ ap (λ privates. worked shape (open_block t es) (start privates)) (left_alone t (λ event privates. privates_after shape event (locks_of t es) (open_block t es) privates) e.event (privates_before shape t es) h)

objects_alone : (t : ThreadId) (e : Entry) (es : List Entry) → IsOthers t e.event → objects_of t (e ∷ es) ≡ objects_of t es
objects_alone t e es h = left_alone t objects_by e.event (objects_of t es) h

-- sums
kept : (h p m h' p' m' : ℕ) → h' ≡ h → p' ≡ p → m' ≡ m → h + p ≡ m → h' + p' ≡ m'
kept h p m h' p' m' a b c e = omega (arith, a, b, c, e)

grown : (r h p m h' p' m' : ℕ) → h' ≡ r + h → p' ≡ p → m' ≡ r + m → h + p ≡ m → h' + p' ≡ m'
grown r h p m h' p' m' a b c e = omega (arith, a, b, c, e)

handed_in : (r h p m priv news h' p' m' : ℕ) → priv + news ≡ r + h → h' ≡ priv + 0 → p' ≡ news + p → m' ≡ r + m → h + p ≡ m → h' + p' ≡ m'
handed_in r h p m priv news h' p' m' a b c d e = omega (arith, a, b, c, d, e)

module _ (o : ℕ) where
  -- what a record of the thread publishes
  abbrev pub published_said : ThreadId → Up → ℕ → ℕ
  published_said t (up.Commit txn) n = cond (is_thread t txn.thread) (count_bodies o txn.news + n) n
  published_said t m n = n

  -- how often the thread published the object
  abbrev pub published : ThreadId → List Entry → ℕ
  published t [] = 0
  published t (e ∷ es) = by_sent_up (published_said t) e.sent (published t es)

  no_record : (t : ThreadId) (m : Up) (n : ℕ) → IsNoRecord m → published_said t m n ≡ n
  no_record t (up.Commit txn) n h = absurd h
  no_record t m n h = refl

  no_records : (t : ThreadId) (ms : List Up) (n : ℕ) → NoRecords ms → after (published_said t) ms n ≡ n
  no_records t [] n h = refl
  no_records t (m ∷ ms) n h = ap (after (published_said t) ms) (no_record t m n h.0) ∙ no_records t ms n h.1

  module _ (p : Settings) where
    -- the thread made as many of the object as it has in hand and published
    abbrev pub Balanced : ThreadId → List Entry → Type 0
    Balanced t es = count_in_hand o (work_of p.shape t es) + published t es ≡ count_listed o (objects_of t es)

    module _ (e : Entry) (es : List Entry) where
      -- an entry of which the thread has nothing
      untouched : (t : ThreadId) → IsOthers t e.event → published t (e ∷ es) ≡ published t es → Balanced t es → Balanced t (e ∷ es)
      untouched t others same h = kept (count_in_hand o (work_of p.shape t es)) (published t es) (count_listed o (objects_of t es))
          (count_in_hand o (work_of p.shape t (e ∷ es))) (published t (e ∷ es)) (count_listed o (objects_of t (e ∷ es)))
          (ap (λ work. count_in_hand o work) (work_alone p.shape t e es others)) same (ap (count_listed o) (objects_alone t e es others)) h

      at_quiet : (t : ThreadId) → IsQuiet e → Balanced t es → Balanced t (e ∷ es)
      at_quiet t quiet h = untouched t (subst (IsOthers t) (sym quiet.event) tt)
          (said_status (published_said t) e.sent (published t es) ∙ no_records t (said_of e.sent) (published t es) quiet.no_records) h

      module _ (it : HasEvent p e es) where
        abbrev event : Event
        event = Act it.thread it.request it.reply (woken_by it.request it.reply es)

        -- what the thread published, by the record that the event ends
        pub by_record : (t : ThreadId) → published t (e ∷ es) ≡ after (published_said t) (commits p it.thread event es) (published t es)
        by_record t = said_status (published_said t) e.sent (published t es)
            ∙ ap (λ ms. after (published_said t) ms (published t es)) it.whole
            ∙ after_append (published_said t) (commits p it.thread event es) it.rest (published t es)
            ∙ no_records t it.rest (after (published_said t) (commits p it.thread event es) (published t es)) it.no_records

        -- the work when the block ends here
        abbrev whole_work : Work
        whole_work = worked p.shape (open_block it.thread es ++ event ∷ []) (start (privates_before p.shape it.thread es))

        -- of another thread
        pub record_of_other : (t : ThreadId) (ending : Option Ending) (n : ℕ) → is_thread t it.thread ≡ false → after (published_said t) (record_of p it.thread event ending es) n ≡ n
        record_of_other t None n other = refl
        record_of_other t (Some ending) n other = unless_true (is_thread t it.thread) (count_bodies o whole_work.news + n) n other

        at_other : (t : ThreadId) → is_thread t it.thread ≡ false → Balanced t es → Balanced t (e ∷ es)
        at_other t other h = untouched t (subst (IsOthers t) (sym it.event) other)
            (by_record t ∙ record_of_other t (ending_of event (locks_of it.thread es)) (published t es) other) h

        -- its own thread
        abbrev before : Work
        before = work_of p.shape it.thread es

        abbrev later : Work
        later = work_after p.shape event before

        its : is_act_of it.thread event ≡ true
        its = thread_self it.thread

        fair : (x : ℕ) → it.reply ≡ Made x → IsNew it.request
        fair x made = only_new p it.thread it.request es x (it.answered ∙ ap Some made)

        in_hand : count_in_hand o later ≡ count_reply o it.reply + count_in_hand o before
        in_hand = count_act o p.shape it.request it.reply (woken_by it.request it.reply es) before fair

        listed : count_listed o (objects_of it.thread (e ∷ es)) ≡ count_reply o it.reply + count_listed o (objects_of it.thread es)
        listed = ap (λ event. count_listed o (by_event (objects_of_by it.thread) event (objects_of it.thread es))) it.event
            ∙ ap (count_listed o) (if_true (is_act_of it.thread event) (objects_by_reply it.reply (objects_of it.thread es)) (objects_of it.thread es) its)
            ∙ count_replied o it.reply (objects_of it.thread es)

        goes : WorkAfter p.shape it.thread event e es
        goes = work_goes_on p.shape it.thread event e es (record { event_is = it.event; its = its })

        -- the record has the news of the work after the event
        handed : (ending : Ending) → after (published_said it.thread) (record_of p it.thread event (Some ending) es) (published it.thread es) ≡ count_bodies o later.news + published it.thread es
        handed ending = if_true (is_thread it.thread it.thread) (count_bodies o whole_work.news + published it.thread es) (published it.thread es) (thread_self it.thread)
            ∙ ap (λ work. count_bodies o work.news + published it.thread es) (worked_more p.shape (open_block it.thread es) event (start (privates_before p.shape it.thread es)))

        at_own_by : (ending : Option Ending) → ending_of event (locks_of it.thread es) ≡ ending → Balanced it.thread es → Balanced it.thread (e ∷ es)
        at_own_by None is h = grown (count_reply o it.reply) (count_in_hand o before) (published it.thread es) (count_listed o (objects_of it.thread es))
            (count_in_hand o (work_of p.shape it.thread (e ∷ es))) (published it.thread (e ∷ es)) (count_listed o (objects_of it.thread (e ∷ es)))
            (ap (λ work. count_in_hand o work) (goes.goes_on is) ∙ in_hand)
            (by_record it.thread ∙ ap (λ ending. after (published_said it.thread) (record_of p it.thread event ending es) (published it.thread es)) is)
            listed h
        at_own_by (Some ending) is h = handed_in (count_reply o it.reply) (count_in_hand o before) (published it.thread es) (count_listed o (objects_of it.thread es))
            (count_bodies o later.privates) (count_bodies o later.news)
            (count_in_hand o (work_of p.shape it.thread (e ∷ es))) (published it.thread (e ∷ es)) (count_listed o (objects_of it.thread (e ∷ es)))
            in_hand
            (ap (λ work. count_in_hand o work) (goes.ends (λ none. some_ending (sym is ∙ none))))
            (by_record it.thread ∙ ap (λ ending. after (published_said it.thread) (record_of p it.thread event ending es) (published it.thread es)) is ∙ handed ending)
            listed h
          where
            some_ending : Some ending ≡ None → ⊥
            some_ending none = cc none

        at_event : (t : ThreadId) → Balanced t es → Balanced t (e ∷ es)
        at_event t h = by (is_thread t it.thread) refl
          where
            by : (b : Bool) → is_thread t it.thread ≡ b → Balanced t (e ∷ es)
            by true is = subst (λ u. Balanced u (e ∷ es)) (same_thread t it.thread is) (at_own_by (ending_of event (locks_of it.thread es)) refl (subst (λ u. Balanced u es) (sym (same_thread t it.thread is)) h))
            by false is = at_other t is h

      pub at_either : (t : ThreadId) → IsQuiet e ⊎ HasEvent p e es → Balanced t es → Balanced t (e ∷ es)
      at_either t (inl quiet) h = at_quiet t quiet h
      at_either t (inr it) h = at_event it t h

    module _ (next : ThreadId → List Event → Option Request) (c : ℕ) (t : ThreadId) where
      balanced_at : (node : Node) (e : Entry) (es : List Entry) → NodeFollows p next node e es → Balanced t (entries_of (Client c) es) → Balanced t (client_with c node e es)
      balanced_at Server e es follows h = h
      balanced_at (Client d) e es follows h = by (eqb c d) refl
        where
          by : (b : Bool) → eqb c d ≡ b → Balanced t (cond b (e ∷ entries_of (Client c) es) (entries_of (Client c) es))
          by true is =
              let mine : ClientFollows p next c e es = subst (λ n. ClientFollows p next n e es) (sym (same_number c d is)) follows in
              at_either e (entries_of (Client c) es) t (client_acted p c (next_after next es) (next_after next (e ∷ es)) e (entries_of (Client c) es) mine.step) h
          by false is = h

      -- over a whole journal
      pub balanced : (es : List Entry) → AllFollow p next es → Balanced t (entries_of (Client c) es)
      balanced [] follow = refl
      balanced (e ∷ es) follow = balanced_at e.node e es follow.1.rule (balanced es follow.0)

  -- a record with the object among its news is of a thread that published it
  abbrev SomePublished : (ThreadId → ℕ) → Type 0
  SomePublished n = (u : ThreadId) × (1 ≤ n u)

  pub more_published : (b : Bool) (m n : ℕ) → 1 ≤ n → 1 ≤ cond b (m + n) n
  more_published true m n le = omega (arith, le)
  more_published false m n le = le

  pub some_more : (m n : ℕ) → 1 ≤ m → 1 ≤ m + n
  some_more m n le = omega (arith, le)

  published_one : (m : Up) (b : Bool) (n : ThreadId → ℕ) → (b ≡ true → SomePublished n) → published_by o m b ≡ true → SomePublished (λ u. published_said u m (n u))
  published_one (up.Commit txn) b n h e = by (is_among o txn.news) refl e
    where
      by : (a : Bool) → is_among o txn.news ≡ a → (a || b) ≡ true → SomePublished (λ u. published_said u (up.Commit txn) (n u))
      by true is f = (
        txn.thread,
        subst (λ m. 1 ≤ m) (sym (if_true (is_thread txn.thread txn.thread) (count_bodies o txn.news + n txn.thread) (n txn.thread) (thread_self txn.thread)))
            (some_more (count_bodies o txn.news) (n txn.thread) (count_there o txn.news is)),
      )
      by false is f = let it = h f in (it.0, more_published (is_thread it.0 txn.thread) (count_bodies o txn.news) (n it.0) it.1)
  published_one m b n h e = h e

  published_sent : (out : List Sent) (b : Bool) (n : ThreadId → ℕ) → (b ≡ true → SomePublished n) → by_sent_up (published_by o) out b ≡ true → SomePublished (λ u. by_sent_up (published_said u) out (n u))
  published_sent [] b n h e = h e
  published_sent (ToServer m ∷ out) b n h e = published_sent out (published_by o m b) (λ u. published_said u m (n u)) (published_one m b n h) e
  published_sent (ToClient d m ∷ out) b n h e = published_sent out b n h e

  pub some_published : (es : List Entry) → was_published o es ≡ true → SomePublished (λ u. published u es)
  some_published [] e = absurd (cc e)
  some_published (e ∷ es) f = published_sent e.sent (was_published o es) (λ u. published u es) (some_published es) f

-- sums of which too much would be
pub hand_made : (h p m : ℕ) → h + p ≡ m → 1 ≤ h → 1 ≤ m
hand_made h p m e le = omega (arith, e, le)

pub published_made : (h p m : ℕ) → h + p ≡ m → 1 ≤ p → 1 ≤ m
published_made h p m e le = omega (arith, e, le)

just_one_in_hand : (h p m n : ℕ) → h + p ≡ m → m ≤ n → n ≤ 1 → 1 ≤ h → h ≡ 1
just_one_in_hand h p m n e le few some = omega (arith, e, le, few, some)

pub not_both_ways : (h p m n : ℕ) → h + p ≡ m → m ≤ n → n ≤ 1 → 1 ≤ h → 1 ≤ p → ⊥
not_both_ways h p m n e le few some more = omega (arith, e, le, few, some, more)

module _ (p : Settings) (next : ThreadId → List Event → Option Request) (es : List Entry) (follow : AllFollow p next es) (o : ℕ) where
  abbrev own : ℕ → List Entry
  own c = entries_of (Client c) es

  balance : (c : ℕ) (t : ThreadId) → Balanced o p t (own c)
  balance c t = balanced o p next c t es follow

  once : MadeOnce es
  once = made_once p next es follow

  few : (c : ℕ) → count_listed o (objects_made (own c)) ≤ 1
  few c = falls_once o (objects_made (own c)) (once.rise c).made

  -- the client of a thread that made it made it
  client_made : (c : ℕ) (t : ThreadId) → 1 ≤ count_listed o (objects_of t (own c)) → is_made c o es ≡ true
  client_made c t some = listed_if o (objects_made (own c)) (at_least (count_listed o (objects_of t (own c))) (count_listed o (objects_made (own c))) some (within o t (own c)))

  -- made by one thread of a client
  same_maker : (c : ℕ) (t u : ThreadId) → 1 ≤ count_listed o (objects_of t (own c)) → 1 ≤ count_listed o (objects_of u (own c)) → u ≡ t
  same_maker c t u some more = by (is_thread t u) refl
    where
      by : (b : Bool) → is_thread t u ≡ b → u ≡ t
      by true is = same_thread t u is
      by false is = absurd (not_two (count_listed o (objects_of t (own c))) (count_listed o (objects_of u (own c))) (count_listed o (objects_made (own c))) (apart o t u is (own c)) (few c) some more)

  -- a thread that has it in hand
  in_hand_counts : (t : ThreadId) → has_in_hand p t o es ≡ true → 1 ≤ count_in_hand o (work_of p.shape t (own t.client))
  in_hand_counts t e = count_either o (work_of p.shape t (own t.client)).privates (work_of p.shape t (own t.client)).news e

  in_hand_made : (t : ThreadId) → has_in_hand p t o es ≡ true → 1 ≤ count_listed o (objects_of t (own t.client))
  in_hand_made t e = hand_made (count_in_hand o (work_of p.shape t (own t.client))) (published o t (own t.client)) (count_listed o (objects_of t (own t.client))) (balance t.client t) (in_hand_counts t e)

  module _ (t : ThreadId) (e : has_in_hand p t o es ≡ true) where
    some : 1 ≤ count_listed o (objects_of t (own t.client))
    some = in_hand_made t e

    -- no record publishes it
    never_published : (c : ℕ) → was_published o (own c) ≡ true → ⊥
    never_published c f =
        let it = some_published o (own c) f in
        let more : 1 ≤ count_listed o (objects_of it.0 (own c)) = published_made (count_in_hand o (work_of p.shape it.0 (own c))) (published o it.0 (own c)) (count_listed o (objects_of it.0 (own c))) (balance c it.0) it.1 in
        let same : c ≡ t.client = once.by_one c t.client o (client_made c it.0 more) (client_made t.client t some) in
        let thread : it.0 ≡ t = same_maker t.client t it.0 some (subst (λ n. 1 ≤ count_listed o (objects_of it.0 (own n))) same more) in
        let too : 1 ≤ published o t (own t.client) = subst (λ u. 1 ≤ published o u (own t.client)) thread (subst (λ n. 1 ≤ published o it.0 (own n)) same it.1) in
        not_both_ways (count_in_hand o (work_of p.shape t (own t.client))) (published o t (own t.client)) (count_listed o (objects_of t (own t.client))) (count_listed o (objects_made (own t.client)))
        (balance t.client t) (within o t (own t.client)) (few t.client) (in_hand_counts t e) too

    -- nobody else has it in hand
    only_one : (u : ThreadId) → has_in_hand p u o es ≡ true → u ≡ t
    only_one u f =
        let more = in_hand_made u f in
        let same : u.client ≡ t.client = once.by_one u.client t.client o (client_made u.client u more) (client_made t.client t some) in
        same_maker t.client t u some (subst (λ n. 1 ≤ count_listed o (objects_of u (own n))) same more)

-- what is in hand was made by its client
pub in_hand_is_made : (p : Settings) (next : ThreadId → List Event → Option Request) (es : List Entry) → AllFollow p next es → (t : ThreadId) (o : ℕ) → has_in_hand p t o es ≡ true → is_made t.client o es ≡ true
in_hand_is_made p next es follow t o e = client_made p next es follow o t.client t (some p next es follow o t e)

-- and is its own
pub in_hand_is_own : (p : Settings) (next : ThreadId → List Event → Option Request) (es : List Entry) → AllFollow p next es → (t : ThreadId) (o : ℕ) → has_in_hand p t o es ≡ true → IsOwn p t o es
in_hand_is_own p next es follow t o e = record {
  made = listed_if o (objects_of t (entries_of (Client t.client) es)) (some p next es follow o t e);
  once = just_one_in_hand (count_in_hand o (work_of p.shape t (entries_of (Client t.client) es))) (published o t (entries_of (Client t.client) es))
      (count_listed o (objects_of t (entries_of (Client t.client) es))) (count_listed o (objects_made (entries_of (Client t.client) es)))
      (balance p next es follow o t.client t) (within o t (entries_of (Client t.client) es)) (few p next es follow o t.client) (in_hand_counts p next es follow o t e);
  unpublished = λ c. fails (was_published o (entries_of (Client c) es)) (never_published p next es follow o t e c);
  alone = only_one p next es follow o t e;
}

pub objects_in_hand_are_own : ObjectsInHandAreOwn
objects_in_hand_are_own p next es h t o e = in_hand_is_own p next es h.follow t o e
