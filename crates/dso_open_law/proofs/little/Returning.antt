-- An entry by which a thread acts gives back and asks again no lock that its event doesn't touch: such a lock's lease is
-- due after it only where it was before, and between two entries of a run none is.
use Rattle.std.specs.List.{list_any}
use Rattle.std.proofs.Common.{ℕ, ◌≡◌, refl, sym, ◌∙◌, ap, subst, Bool, true, false, cond, not, ◌&&◌, ◌||◌, is_some, Option, Some, None, List, [], ◌∷◌, ◌++◌, map, filter, flat_map}
use Rattle.std.specs.Prelude.{is_none}
use Rattle.std.proofs.lemmas.Bool.{or_parts, or_from}
use Rattle.std.proofs.lemmas.List.Folds.{list_any-append}
use Rattle.dso_base.specs.declared.journal.Entry.{Entry}
use Rattle.dso_base.specs.declared.journal.Input.TheVariants as input
use Rattle.dso_base.specs.declared.journal.Sent.TheVariants.{ToServer}
use Rattle.dso_base.specs.declared.lock.Level.TheVariants.{Write}
use Rattle.dso_base.specs.declared.lock.LockName.{LockName}
use Rattle.dso_base.specs.declared.lock.ThreadId.{ThreadId}
use Rattle.dso_base.specs.declared.message.Up.{Up}
use Rattle.dso_base.specs.declared.message.Up.TheVariants as up
use Rattle.dso_base.specs.declared.record.Ending.{Ending}
use Rattle.dso_base.specs.declared.request.Event.{Event}
use Rattle.dso_base.specs.declared.request.Event.TheVariants.{Act}
use Rattle.dso_base.specs.declared.request.Request.{Request}
use Rattle.dso_base.specs.declared.request.Request.TheVariants.{Enter}
use Rattle.dso_plain.specs.KeyTests.{is_lock}
use Rattle.dso_plain.proofs.keys.SameKeys.{same_lock}
use Rattle.dso_law.specs.Settings.{Settings}
use Rattle.dso_law.specs.Entries.{unsent, by_taken_down}
use Rattle.dso_law.specs.Threads.{hold_of, locks_of, ending_of}
use Rattle.dso_law.specs.Leases.{leased, is_entered, granted_by, granted, leased_locks}
use Rattle.dso_law.specs.ClientWaiters.{client_list}
use Rattle.dso_law.specs.Closing.{is_closing, is_free, is_lease_due, due}
use Rattle.dso_law.specs.Replies.{woken_by}
use Rattle.dso_law.specs.ClientStep.{record_of, commits, returns, asks_again, Does}
use Rattle.dso_law.proofs.runs.OwnRequests.{same_any}
use Rattle.dso_open_law.specs.TouchedThreads.{Topic, OfIds, OfObject, OfLock, OfRecords, OfNothing, is_topic, up_topics, sent_topics, sets_taken, sets_sent, set_objects, input_topics, event_topics, touched_topics}
use Rattle.dso_open_law.specs.OthersMayAct.{OnlyActorsGoOn}
use Rattle.dso_open_law.proofs.readings.Untouched.{IsSpared, spared_parts, Spares}
use Rattle.dso_open_law.proofs.readings.Locks.{lease_stays, entered_stays}
use Rattle.dso_open_law.proofs.readings.Holds.{held_stays}
use Rattle.dso_open_law.proofs.threads.Awaiting.{closing_stays}

-- a lock is among those of a list that pass a test where it passes and is in the list
in_filter : (j : LockName) (test : LockName → Bool) (locks : List LockName) → list_any (is_lock j) (filter test locks) ≡ (test j && list_any (is_lock j) locks)
in_filter j test [] = none (test j)
  where
    none : (b : Bool) → false ≡ (b && false)
    none true = refl
    none false = refl
in_filter j test (k ∷ locks) = by (is_lock j k) (test k) refl refl (in_filter j test locks)
  where
    with_first : (b : Bool) (rest : List LockName) → is_lock j k ≡ b → list_any (is_lock j) (k ∷ rest) ≡ (b || list_any (is_lock j) rest)
    with_first b rest is = ap (λ t. t || list_any (is_lock j) rest) is

    found : (b : Bool) → b ≡ true → true ≡ (b && true)
    found true is = refl
    found false is = absurd (cc is)

    missed : (b : Bool) (rest : Bool) → b ≡ false → rest ≡ (b && list_any (is_lock j) locks) → rest ≡ (b && true)
    missed true rest is e = absurd (cc is)
    missed false rest is e = e

    by : (a b : Bool) → is_lock j k ≡ a → test k ≡ b → list_any (is_lock j) (filter test locks) ≡ (test j && list_any (is_lock j) locks)
        → list_any (is_lock j) (cond b (k ∷ filter test locks) (filter test locks)) ≡ (test j && (a || list_any (is_lock j) locks))
    by true true same passes rest = with_first true (filter test locks) same ∙ found (test j) (sym (ap test (same_lock j k same)) ∙ passes)
    by true false same fails rest = missed (test j) (list_any (is_lock j) (filter test locks)) (sym (ap test (same_lock j k same)) ∙ fails) rest
    by false true other passes rest = with_first false (filter test locks) other ∙ rest
    by false false other fails rest = rest

-- ---- topics of messages

module _ (about : Topic) where
  -- the messages don't touch it
  abbrev pub AreSpared : List Up → Type 0
  AreSpared ms = IsSpared about (flat_map sent_topics (map ToServer ms))

  pub both_spared : (a b : List Topic) → IsSpared about a → IsSpared about b → IsSpared about (a ++ b)
  both_spared a b none_a none_b = list_any-append (is_topic about) a b ∙ or_from (list_any (is_topic about) a) (list_any (is_topic about) b) none_a none_b

  -- of two lists of messages neither does
  said_too : (a b : List Up) → AreSpared a → AreSpared b → AreSpared (a ++ b)
  said_too [] b none_a none_b = none_b
  said_too (m ∷ a) b none_a none_b =
      let h = spared_parts about (up_topics m) (flat_map sent_topics (map ToServer a)) none_a in
      both_spared (up_topics m) (flat_map sent_topics (map ToServer (a ++ b))) h.0 (said_too a b h.1 none_b)

  -- leases given back touch their locks
  returned : (list : LockName → List ThreadId) (locks : List LockName) → list_any (λ k. is_topic about (OfLock k)) locks ≡ false → AreSpared (map (λ k. up.Return k (list k)) locks)
  returned list [] none = refl
  returned list (k ∷ locks) none =
      let h = or_parts (is_topic about (OfLock k)) (list_any (λ k. is_topic about (OfLock k)) locks) none in
      or_from (is_topic about (OfLock k)) (list_any (is_topic about) (flat_map sent_topics (map ToServer (map (λ k. up.Return k (list k)) locks)))) h.0 (returned list locks h.1)

-- only a lock is about a lock
no_lock : (about : Topic) (locks : List LockName) → ((k : LockName) → is_topic about (OfLock k) ≡ false) → list_any (λ k. is_topic about (OfLock k)) locks ≡ false
no_lock about [] none = refl
no_lock about (k ∷ locks) none = or_from (is_topic about (OfLock k)) (list_any (λ k. is_topic about (OfLock k)) locks) (none k) (no_lock about locks none)

-- ---- no field is set

-- the messages set no field
abbrev SetNone : List Up → Type 0
SetNone ms = flat_map sets_sent (map ToServer ms) ≡ []

-- of two lists of messages none does
both_set_none : (a b : List Up) → SetNone a → SetNone b → SetNone (a ++ b)
both_set_none [] b none_a none_b = none_b
both_set_none (m ∷ a) b none_a none_b = in_front (sets_sent (ToServer m)) none_a (λ none. both_set_none a b none none_b)
  where
    in_front : (first : List Topic) → first ++ flat_map sets_sent (map ToServer a) ≡ [] → (SetNone a → SetNone (a ++ b)) → first ++ flat_map sets_sent (map ToServer (a ++ b)) ≡ []
    in_front [] none rest = rest none
    in_front (x ∷ first) none rest = absurd (cc none)

returns_set_none : (list : LockName → List ThreadId) (locks : List LockName) → SetNone (map (λ k. up.Return k (list k)) locks)
returns_set_none list [] = refl
returns_set_none list (k ∷ locks) = returns_set_none list locks

-- only the topic of a lock is about the lock
about_lock : (about : Topic) (l : LockName) → is_topic about (OfLock l) ≡ true → about ≡ OfLock l
about_lock (OfLock j) l same = ap OfLock (sym (same_lock j l same))
about_lock OfIds l same = absurd (cc same)
about_lock (OfObject o) l same = absurd (cc same)
about_lock (OfRecords t) l same = absurd (cc same)
about_lock OfNothing l same = absurd (cc same)

-- ---- what is due

module _ (p : Settings) (c : ℕ) (before after : ThreadId → Option Request) (e : Entry) (es : List Entry) (goes : OnlyActorsGoOn c before after e)
    (quiet : due p c before es ≡ []) (index : ℕ) (acted : e.input ≡ input.Act index) where
  -- as it stands before the entry's messages
  abbrev now : List Entry
  now = unsent e ∷ es

  -- a topic that the event doesn't touch isn't touched before the messages
  unsent_spares : (about : Topic) → IsSpared about (event_topics before after es e.event) → Spares before after es about (unsent e)
  unsent_spares about none = record {
    taken = ap (λ i. list_any (is_topic about) (input_topics before after es i)) acted;
    done = none;
    sent = refl;
  }

  module _ (j : LockName) (none : IsSpared (OfLock j) (event_topics before after es e.event)) where
    spares : Spares before after es (OfLock j) (unsent e)
    spares = unsent_spares (OfLock j) none

    free_stays : is_free p c after j now ≡ is_free p c before j es
    free_stays = ap not (same_any c (λ t. not (is_none (hold_of t j now))) (λ t. not (is_none (hold_of t j es))) (λ t own. ap not (held_stays before after es j (unsent e) spares t)) p.threads)

    lease_due_stays : is_lease_due p c after j now ≡ is_lease_due p c before j es
    lease_due_stays = ap (λ closing. closing && (is_entered j now && is_free p c after j now)) (closing_stays p c before after es j (unsent e) goes spares)
        ∙ ap (λ entered. is_closing p c before j es && (entered && is_free p c after j now)) (entered_stays before after es j (unsent e) spares)
        ∙ ap (λ free. is_closing p c before j es && (is_entered j es && free)) free_stays

    leased_stays : list_any (is_lock j) (leased_locks now) ≡ list_any (is_lock j) (leased_locks es)
    leased_stays = in_filter j (λ l. is_some (leased l now)) (granted now)
        ∙ ap (λ lease. is_some lease && list_any (is_lock j) (granted now)) (lease_stays before after es j (unsent e) spares)
        ∙ ap (λ i. is_some (leased j es) && list_any (is_lock j) (by_taken_down granted_by i (granted es))) acted
        ∙ sym (in_filter j (λ l. is_some (leased l es)) (granted es))

    -- its lease isn't due
    not_due : list_any (is_lock j) (due p c after now) ≡ false
    not_due = in_filter j (λ l. is_lease_due p c after l now) (leased_locks now)
        ∙ ap (λ is_due. is_due && list_any (is_lock j) (leased_locks now)) lease_due_stays
        ∙ ap (λ there. is_lease_due p c before j es && there) leased_stays
        ∙ sym (in_filter j (λ l. is_lease_due p c before l es) (leased_locks es))
        ∙ ap (list_any (is_lock j)) quiet

  module _ (about : Topic) (none : IsSpared about (event_topics before after es e.event)) where
    due_spared : list_any (λ k. is_topic about (OfLock k)) (due p c after now) ≡ false
    due_spared = by about none
      where
        by : (about : Topic) → IsSpared about (event_topics before after es e.event) → list_any (λ k. is_topic about (OfLock k)) (due p c after now) ≡ false
        by (OfLock j) none = not_due j none
        by OfIds none = no_lock OfIds (due p c after now) (λ k. refl)
        by (OfObject o) none = no_lock (OfObject o) (due p c after now) (λ k. refl)
        by (OfRecords t) none = no_lock (OfRecords t) (due p c after now) (λ k. refl)
        by OfNothing none = no_lock OfNothing (due p c after now) (λ k. refl)

    returns_spared : AreSpared about (returns p c after now)
    returns_spared = returned about (λ l. client_list l now) (due p c after now) due_spared

    again_if : (l : LockName) (b : Bool) → is_topic about (OfLock l) ≡ false → AreSpared about (cond b (up.Request l Write ∷ []) [])
    again_if l true none = or_from (is_topic about (OfLock l)) false none refl
    again_if l false none = refl

    -- a lock that isn't due isn't asked again
    not_again : (l : LockName) (closing due : Bool) → due ≡ false → AreSpared about (cond (closing && due) (up.Request l Write ∷ []) [])
    not_again l true due none = ap (λ b. list_any (is_topic about) (flat_map sent_topics (map ToServer (cond b (up.Request l Write ∷ []) [])))) none
    not_again l false due none = refl

    again_spared : (request : Option Request) → AreSpared about (asks_again p c before after request now es)
    again_spared (Some (Enter l Write)) = by (is_topic about (OfLock l)) refl
      where
        by : (b : Bool) → is_topic about (OfLock l) ≡ b → AreSpared about (cond (not (is_closing p c before l es) && list_any (is_lock l) (due p c after now)) (up.Request l Write ∷ []) [])
        by true same = not_again l (not (is_closing p c before l es)) (list_any (is_lock l) (due p c after now)) (not_due l (subst (λ x. IsSpared x (event_topics before after es e.event)) (about_lock about l same) none))
        by false other = again_if l (not (is_closing p c before l es) && list_any (is_lock l) (due p c after now)) other
    again_spared request = refl

    again_sets_none : (request : Option Request) → SetNone (asks_again p c before after request now es)
    again_sets_none (Some (Enter l Write)) = by (not (is_closing p c before l es) && list_any (is_lock l) (due p c after now))
      where
        by : (b : Bool) → SetNone (cond b (up.Request l Write ∷ []) [])
        by true = refl
        by false = refl
    again_sets_none request = refl

    no_record : (t : ThreadId) (event : Event) (ending : Option Ending) → ending ≡ None → record_of p t event ending es ≡ []
    no_record t event None is = refl
    no_record t event (Some ending) is = absurd (cc is)

    -- So an act that ends no block touches no more than its event does.
    pub act_touches : (t : ThreadId) (request : Request) (does : Does p c t request before after e es)
        → ending_of (Act t request does.reply (woken_by request does.reply es)) (locks_of t es) ≡ None → IsSpared about (touched_topics before after es e ++ set_objects e)
    act_touches t request does ends_none =
        let event : Event = Act t request does.reply (woken_by request does.reply es) in
        let gives_back : List Up = returns p c after now in
        let again : List Up = asks_again p c before after (after t) now es in
        let nothing : commits p t event es ≡ [] = no_record t event (ending_of event (locks_of t es)) ends_none in
        let said : AreSpared about (commits p t event es ++ gives_back ++ again) =
        said_too about (commits p t event es ++ gives_back) again (said_too about (commits p t event es) gives_back (ap (λ ms. list_any (is_topic about) (flat_map sent_topics (map ToServer ms))) nothing) returns_spared)
        (again_spared (after t)) in
        let sets : SetNone (commits p t event es ++ gives_back ++ again) =
        both_set_none (commits p t event es ++ gives_back) again (both_set_none (commits p t event es) gives_back (ap (λ ms. flat_map sets_sent (map ToServer ms)) nothing)
        (returns_set_none (λ l. client_list l now) (due p c after now))) (again_sets_none (after t)) in
        both_spared about (touched_topics before after es e) (set_objects e)
        (both_spared about (input_topics before after es e.input ++ event_topics before after es e.event) (flat_map sent_topics e.sent)
        (both_spared about (input_topics before after es e.input) (event_topics before after es e.event) (unsent_spares about none).taken none)
        (ap (λ sent. list_any (is_topic about) (flat_map sent_topics sent)) does.sends ∙ said))
        (ap (λ i. list_any (is_topic about) (sets_taken i ++ flat_map sets_sent e.sent)) acted ∙ ap (λ sent. list_any (is_topic about) (flat_map sets_sent sent)) does.sends ∙ ap (list_any (is_topic about)) sets)
