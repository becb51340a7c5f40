-- What a history has of the threads' events: a prefix of each thread's, by the program; and all of them where the journal is
-- finished. So a journal whose history runs commits legally.
use Rattle.std.specs.List.{list_any}
use Rattle.std.proofs.Common.{ℕ, zero, suc, ◌≡◌, ◌⊎◌, inl, inr, refl, sym, ◌∙◌, ap, subst, Bool, true, false, cond, not, eqb, ◌&&◌, ◌||◌, is_some, Option, Some, None, List, [], ◌∷◌, ◌++◌}
use Rattle.std.specs.Prelude.{drop}
use Rattle.std.proofs.lemmas.List.{append-nil}
use Rattle.dso_base.specs.declared.journal.Entry.{Entry}
use Rattle.dso_base.specs.declared.journal.Node.{Node}
use Rattle.dso_base.specs.declared.journal.Node.TheVariants.{Server, Client}
use Rattle.dso_base.specs.declared.lock.ThreadId.{ThreadId}
use Rattle.dso_base.specs.declared.request.Event.{Event}
use Rattle.dso_base.specs.declared.request.Event.TheVariants.{Act, Lost}
use Rattle.dso_base.specs.declared.request.Reply.{Reply}
use Rattle.dso_base.specs.declared.request.Reply.TheVariants.{Done}
use Rattle.dso_base.specs.declared.request.Request.{Request}
use Rattle.dso_base.specs.declared.request.Request.TheVariants.{End}
use Rattle.dso_base.specs.declared.shape.Shape.{Shape}
use Rattle.dso_base.specs.Following.{is_thread, FollowsProgram, IsListed, Listed}
use Rattle.dso_plain.specs.State.{opening}
use Rattle.dso_plain.specs.History.{Runs, is_act_of, events_of}
use Rattle.dso_plain.proofs.keys.SameKeys.{same_number, same_thread}
use Rattle.dso_lookup.proofs.Tests.{both}
use Rattle.dso_law.specs.Settings.{Settings, clients_of}
use Rattle.dso_law.specs.Entries.{entries_of, by_event, add_event, events_in}
use Rattle.dso_law.specs.Channels.{up_in_flight, down_in_flight}
use Rattle.dso_law.specs.Prefixes.{IsPrefix}
use Rattle.dso_law.specs.Replies.{woken_by}
use Rattle.dso_law.specs.ServerReadings.{is_lost}
use Rattle.dso_law.specs.Threads.{Locks, locks_of, ending_by, block_after, open_block, ends_thread}
use Rattle.dso_legal.specs.Agreement.{messages}
use Rattle.dso_legal.specs.WithoutWaits.{WithoutWaits}
use Rattle.dso_legal.specs.Central.{CommitsLegally, CommitsAsMade}
use Rattle.dso_legal.specs.Resolved.{AreResolved}
use Rattle.dso_legal.proofs.blocks.ResolvedBlocks.{resolved_of, history_resolved, history_calm, first_endings}
use Rattle.dso_legal.proofs.central.ResolvedFollows.{resolved_follows}
use Rattle.dso_legal.specs.Committed.{committed, ended_blocks}
use Rattle.dso_legal.specs.AsMade.{as_made}
use Rattle.dso_legal.specs.Lawful.{next_after, ClientFollows, NodeFollows, AllFollow, IsLawful}
use Rattle.dso_legal.specs.PendingBlocks.{joined, taken_in, pending, records_in, handed_in, AreRecordsOf}
use Rattle.dso_legal.specs.SoundProgram.{AsksSoundly}
use Rattle.dso_legal.proofs.fitting.Untold.{keeps_to}
use Rattle.dso_legal.specs.Slots.{is_any, is_end, ends, has_ended, is_quiet, is_over, is_loss_or_break_due, is_finished}
use Rattle.dso_legal.proofs.acts.SoundNames.{first_follows}
use Rattle.dso_legal.proofs.records.BothEnds.{client_with}
use Rattle.dso_legal.proofs.records.HandedIn.{are_records_split}
use Rattle.dso_legal.proofs.blocks.Histories.{first_in_history, thread_in_parts}
use Rattle.dso_legal.proofs.leases.LeaseSteps.{no_both}
use Rattle.dso_legal.proofs.blocks.OwnActs.{IsNextAct, next_act, reply_listed, threads_follow}

-- tests of booleans
neither_fails : (a b : Bool) → not (not a || b) ≡ true → (a ≡ true) × (not b ≡ true)
neither_fails true b e = (refl, e)
neither_fails false b e = absurd (cc e)

the_other : (a b : Bool) → (a || b) ≡ true → a ≡ false → b ≡ true
the_other true b e none = absurd (cc none)
the_other false b e none = e

first_isnt : (a b : Bool) → not (a || b) ≡ true → a ≡ false
first_isnt true b e = absurd (cc e)
first_isnt false b e = refl

-- where no item of a list fails a test, the one that is found passes it
passes : {X : Type 0} (test same : X → Bool) (x : X) → ((y : X) → same y ≡ true → y ≡ x) → (xs : List X) → not (list_any (λ y. not (test y)) xs) ≡ true → list_any same xs ≡ true → test x ≡ true
passes test same x is [] none found = absurd (cc found)
passes test same x is (y ∷ xs) none found =
    let it = neither_fails (test y) (list_any (λ y. not (test y)) xs) none in
    by (same y) refl it.0 (passes test same x is xs it.1) found
  where
    by : (b : Bool) → same y ≡ b → test y ≡ true → (list_any same xs ≡ true → test x ≡ true) → (b || list_any same xs) ≡ true → test x ≡ true
    by true first passed later found = subst (λ z. test z ≡ true) (is y first) passed
    by false first passed later found = later found

-- an empty list
nothing_there : {X : Type 0} (xs : List X) → is_any xs ≡ false → xs ≡ []
nothing_there [] none = refl
nothing_there (x ∷ xs) none = absurd (cc none)

-- of nothing nothing is left
nothing_left : {X : Type 0} (n : ℕ) (xs : List X) → xs ≡ [] → drop n xs ≡ []
nothing_left zero xs none = none
nothing_left (suc n) [] none = refl
nothing_left (suc n) (x ∷ xs) none = absurd (cc none)

-- no records, no blocks
no_blocks : (shape : Shape) (before blocks : List (List Event)) → AreRecordsOf shape before [] blocks → blocks ≡ []
no_blocks shape before [] are = refl
no_blocks shape before (block ∷ blocks) are = absurd are

-- the two words for the end of a thread
same_end : (event : Event) → ends event ≡ ends_thread event
same_end (Act thread (End fault) reply woken) = refl
same_end (Act thread request reply woken) = refl
same_end (Lost client) = refl

same_ends : (events : List Event) → list_any ends events ≡ list_any ends_thread events
same_ends [] = refl
same_ends (event ∷ events) = ap (λ b. b || list_any ends events) (same_end event) ∙ ap (λ b. ends_thread event || b) (same_ends events)

-- what is found in a list with one more, and not before, is the last
last_found : {X : Type 0} (test : X → Bool) (xs : List X) (x : X) → list_any test (xs ++ x ∷ []) ≡ true → list_any test xs ≡ false → test x ≡ true
last_found test [] x found none = by (test x) found
  where
    by : (b : Bool) → (b || false) ≡ true → b ≡ true
    by true e = refl
    by false e = e
last_found test (y ∷ xs) x found none = by (test y) (last_found test xs x) found none
  where
    by : (b : Bool) → (list_any test (xs ++ x ∷ []) ≡ true → list_any test xs ≡ false → test x ≡ true) → (b || list_any test (xs ++ x ∷ [])) ≡ true → (b || list_any test xs) ≡ false → test x ≡ true
    by true later found none = absurd (cc none)
    by false later found none = later found none

-- a thread's end is an ending
end_is_ending : (request : Request) (reply : Reply) (locks : Locks) → is_end request ≡ true → IsListed request reply → is_some (ending_by request reply locks) ≡ true
end_is_ending (End fault) Done locks is listed = refl
end_is_ending (End fault) reply locks is listed = absurd listed
end_is_ending request reply locks is listed = absurd (cc is)

module _ (p : Settings) (next : ThreadId → List Event → Option Request) (sound : AsksSoundly p.shape next) (t : ThreadId) where
  -- a thread that has ended has no open block
  abbrev EndsClosed : List Entry → Type 0
  EndsClosed own = list_any ends (events_in t own) ≡ true → open_block t own ≡ []

  module _ (e : Entry) (es : List Entry) (follow : AllFollow p next es) (before : EndsClosed (entries_of (Client t.client) es)) where
    abbrev own : List Entry
    own = entries_of (Client t.client) es

    -- an act of the thread, of which nothing was its end before
    act_closed : (it : IsNextAct p t.client (next_after next es) e own) (b : Bool) → is_thread t it.thread ≡ b
        → list_any ends (cond b (events_in t own ++ Act it.thread it.request it.reply (woken_by it.request it.reply own) ∷ []) (events_in t own)) ≡ true
        → cond b (block_after (Act it.thread it.request it.reply (woken_by it.request it.reply own)) (locks_of t own) (open_block t own)) (open_block t own) ≡ []
    act_closed it true is ended =
        let asked : next t (events_in t own) ≡ Some it.request = subst (λ u. next_after next es u ≡ Some it.request) (same_thread t it.thread is) it.asked in
        let goes : list_any ends (events_in t own) ≡ false = same_ends (events_in t own) ∙ (keeps_to p next sound es follow t it.request asked).goes in
        let act : Event = Act it.thread it.request it.reply (woken_by it.request it.reply own) in
        ap (λ b. cond b [] (open_block t own ++ act ∷ []))
        (end_is_ending it.request it.reply (locks_of t own) (last_found ends (events_in t own) act ended goes) (reply_listed p it.thread own it.request it.reply it.answered))
    act_closed it false is ended = before ended

    event_closed : (e.event ≡ None) ⊎ IsNextAct p t.client (next_after next es) e own → EndsClosed (e ∷ own)
    event_closed (inl none) = subst (λ event. list_any ends (by_event (add_event t) event (events_in t own)) ≡ true
        → by_event (λ event block. cond (is_act_of t event) (block_after event (locks_of t own) block) block) event (open_block t own) ≡ []) (sym none) before
    event_closed (inr it) = subst (λ event. list_any ends (by_event (add_event t) event (events_in t own)) ≡ true
        → by_event (λ event block. cond (is_act_of t event) (block_after event (locks_of t own) block) block) event (open_block t own) ≡ []) (sym it.event) (act_closed it (is_thread t it.thread) refl)

    closed_at : (node : Node) → NodeFollows p next node e es → EndsClosed (client_with t.client node e es)
    closed_at Server rule = before
    closed_at (Client d) rule = by (eqb t.client d) refl
      where
        by : (b : Bool) → eqb t.client d ≡ b → EndsClosed (cond b (e ∷ own) own)
        by true is =
            let mine : ClientFollows p next t.client e es = subst (λ n. ClientFollows p next n e es) (sym (same_number t.client d is)) rule in
            event_closed (next_act p t.client (next_after next es) (next_after next (e ∷ es)) e own mine.step)
        by false is = before

  -- A thread that has ended has no open block.
  pub ended_is_closed : (es : List Entry) → AllFollow p next es → has_ended t es ≡ true → open_block t (entries_of (Client t.client) es) ≡ []
  ended_is_closed [] follow ended = refl
  ended_is_closed (e ∷ es) follow ended = closed_at e es follow.0 (ended_is_closed es follow.0) e.node follow.1.rule ended

module _ (p : Settings) (next : ThreadId → List Event → Option Request) (c : ℕ) where
  -- what isn't a client of the cluster has no entries
  stays_empty : (node : Node) (e : Entry) (es : List Entry) → list_any (eqb c) (clients_of p) ≡ false → NodeFollows p next node e es → entries_of (Client c) es ≡ [] → client_with c node e es ≡ []
  stays_empty Server e es none rule before = before
  stays_empty (Client d) e es none rule before = by (eqb c d) refl
    where
      by : (b : Bool) → eqb c d ≡ b → cond b (e ∷ entries_of (Client c) es) (entries_of (Client c) es) ≡ []
      by true is = no_both (list_any (eqb c) (clients_of p)) (subst (λ n. list_any (eqb n) (clients_of p) ≡ true) (sym (same_number c d is)) rule.its) none
      by false is = before

  no_entries : (es : List Entry) → AllFollow p next es → list_any (eqb c) (clients_of p) ≡ false → entries_of (Client c) es ≡ []
  no_entries [] follow none = refl
  no_entries (e ∷ es) follow none = stays_empty e.node e es none follow.1.rule (no_entries es follow.0 none)

  -- A client with nothing in flight to the server has nothing pending.
  pub none_pending : (es : List Entry) → AllFollow p next es → is_lost c (entries_of Server es) ≡ false → is_any (up_in_flight c es) ≡ false → pending c es ≡ []
  none_pending es follow alive none = no_blocks p.shape (taken_in c es) (pending c es)
      (subst (λ letters. AreRecordsOf p.shape (taken_in c es) (records_in (messages letters)) (pending c es)) (nothing_there (up_in_flight c es) none) (are_records_split p next c es follow alive))

  -- so where the journal is quiet
  quiet_pending : (es : List Entry) → AllFollow p next es → is_lost c (entries_of Server es) ≡ false → not (list_any (λ c. not (is_quiet p c es)) (clients_of p)) ≡ true → pending c es ≡ []
  quiet_pending es follow alive quiet = by (list_any (eqb c) (clients_of p)) refl
    where
      by : (b : Bool) → list_any (eqb c) (clients_of p) ≡ b → pending c es ≡ []
      by true is = none_pending es follow alive (first_isnt (is_any (up_in_flight c es)) (is_any (down_in_flight c es))
          (the_other (is_lost c (entries_of Server es)) (not (is_any (up_in_flight c es) || is_any (down_in_flight c es)))
          (passes (λ c. is_quiet p c es) (eqb c) c (λ d same. sym (same_number c d same)) (clients_of p) quiet is) alive))
      by false is = nothing_left (handed_in c es) (ended_blocks (entries_of (Client c) es)) (ap ended_blocks (no_entries es follow is))

module _ (p : Settings) (next : ThreadId → List Event → Option Request) (es : List Entry) (follow : AllFollow p next es) (t : ThreadId) where
  abbrev client : List Entry
  client = entries_of (Client t.client) es

  -- The history has a prefix of the thread's events, which follow the program,
  pub part_follows : FollowsProgram next (Listed next) t (events_of t (as_made es))
  part_follows =
      let part : IsPrefix (events_of t (as_made es)) (events_in t client) = first_in_history p next t es follow in
      first_follows next t [] (events_of t (as_made es)) part.rest (subst (FollowsProgram next (Listed next) t) part.whole (threads_follow p next t es follow))

  -- and all of them where the journal is finished and its client isn't lost.
  pub is_whole : is_lost t.client (entries_of Server es) ≡ false → AsksSoundly p.shape next → list_any (is_thread t) p.threads ≡ true → is_finished p es ≡ true → events_of t (as_made es) ≡ events_in t client
  is_whole alive sound its finished =
      let over = both (not (list_any (λ t. not (is_over p es t)) p.threads)) (not (list_any (λ c. not (is_quiet p c es)) (clients_of p)) && not (list_any (λ c. is_loss_or_break_due p c es) (clients_of p))) finished in
      let quiet = both (not (list_any (λ c. not (is_quiet p c es)) (clients_of p))) (not (list_any (λ c. is_loss_or_break_due p c es) (clients_of p))) over.1 in
      let ended : has_ended t es ≡ true = the_other (is_lost t.client (entries_of Server es)) (has_ended t es) (passes (is_over p es) (is_thread t) t (λ u same. same_thread t u same) p.threads over.0 its) alive in
      sym (append-nil (events_of t (as_made es)))
      ∙ ap (λ blocks. events_of t (as_made es) ++ (events_of t (joined blocks) ++ [])) (sym (quiet_pending p next t.client es follow alive quiet.0))
      ∙ ap (λ block. events_of t (as_made es) ++ (events_of t (joined (pending t.client es)) ++ block)) (sym (ended_is_closed p next sound t es follow ended))
      ∙ thread_in_parts p next t t.client refl es follow

module _ (p : Settings) (next : ThreadId → List Event → Option Request) (sound : AsksSoundly p.shape next) (es : List Entry) (lawful : IsLawful p next es) where
  -- each thread's events in the history, as they were made
  resolved_here : (t : ThreadId) → AreResolved (events_of t (as_made es)) (events_of t (committed es))
  resolved_here t = resolved_of t (as_made es) (committed es) (history_resolved es)

  whole_here : is_finished p es ≡ true → (t : ThreadId) → list_any (is_thread t) p.threads ≡ true → is_lost t.client (entries_of Server es) ≡ false → events_of t (as_made es) ≡ events_in t (entries_of (Client t.client) es)
  whole_here finished t its alive = is_whole p next es lawful.follow t alive sound its finished

  -- A lawful journal of a sound program commits legally where its history runs.
  pub commits_where_it_runs : Runs p.shape (committed es) (opening p.shape) → CommitsLegally p next es
  commits_where_it_runs runs = record {
    legal = record {
      runs = runs;
      follows = λ t. resolved_follows next t (sound.goes_by_replies t) (events_of t (as_made es)) (events_of t (committed es)) (resolved_here t) (part_follows p next es lawful.follow t);
    };
    endings = first_endings p next es lawful.follow;
    parts = λ t. record { first = events_of t (as_made es); begins = first_in_history p next t es lawful.follow; resolved = resolved_here t };
    whole = λ finished t its alive. subst (λ events. AreResolved events (events_of t (committed es))) (whole_here finished t its alive) (resolved_here t);
  }

  -- And without waits just what its threads made.
  pub commits_as_made : WithoutWaits es → CommitsAsMade p es
  commits_as_made calm = record {
    parts = λ t. subst (λ history. IsPrefix (events_of t history) (events_in t (entries_of (Client t.client) es))) (sym (history_calm es calm)) (first_in_history p next t es lawful.follow);
    whole = λ finished t its alive. ap (events_of t) (history_calm es calm) ∙ whole_here finished t its alive;
  }
