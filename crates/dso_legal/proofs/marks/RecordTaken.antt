-- What the server makes of the marks as it takes a record: the block, resolved, runs, marks and all, and the waiters are known behind it.
use Rattle.std.specs.List.{list_any, AllByRecursion}
use Rattle.std.proofs.Common.{ℕ, zero, suc, ◌≡◌, ◌⊎◌, ◌↔◌, inl, inr, refl, sym, ◌∙◌, ap, subst, Bool, true, false, cond, not, eqb, ◌&&◌, ◌||◌, Option, Some, List, [], ◌∷◌, ◌++◌}
use Rattle.std.specs.Prelude.{slice_get}
use Rattle.dso_base.specs.declared.journal.Entry.{Entry}
use Rattle.dso_base.specs.declared.journal.Input.TheVariants as input
use Rattle.dso_base.specs.declared.journal.Node.{Node}
use Rattle.dso_base.specs.declared.journal.Node.TheVariants.{Server, Client}
use Rattle.dso_base.specs.declared.journal.Sent.{Sent}
use Rattle.dso_base.specs.declared.journal.Sent.TheVariants.{ToClient}
use Rattle.dso_base.specs.declared.lock.Level.TheVariants.{Write}
use Rattle.dso_base.specs.declared.lock.LockName.{LockName}
use Rattle.dso_base.specs.declared.lock.ThreadId.{ThreadId}
use Rattle.dso_base.specs.declared.message.Down.{Down}
use Rattle.dso_base.specs.declared.message.Down.TheVariants as down
use Rattle.dso_base.specs.declared.message.Up.TheVariants as up
use Rattle.dso_base.specs.declared.record.Choice.{Choice}
use Rattle.dso_base.specs.declared.record.Choice.TheVariants.{Here, There, All}
use Rattle.dso_base.specs.declared.record.Ending.{Ending}
use Rattle.dso_base.specs.declared.record.Ending.TheVariants as ending
use Rattle.dso_base.specs.declared.record.Txn.{Txn}
use Rattle.dso_base.specs.declared.request.Event.{Event}
use Rattle.dso_base.specs.declared.request.Event.TheVariants.{Act, Lost}
use Rattle.dso_base.specs.declared.request.Reply.TheVariants.{Done}
use Rattle.dso_base.specs.declared.request.Request.{Request}
use Rattle.dso_base.specs.declared.request.Request.TheVariants.{Exit, Wait, Timeout, End}
use Rattle.dso_base.specs.Following.{is_thread}
use Rattle.dso_plain.specs.KeyTests.{is_lock}
use Rattle.dso_plain.specs.State.{PlainState, opening}
use Rattle.dso_plain.specs.Possible.{IsUnmarkedWaiter}
use Rattle.dso_plain.specs.History.{Runs, RunsButMarks, end_of, last_state}
use Rattle.dso_plain.specs.Touches.{AreActsOf}
use Rattle.dso_plain.proofs.keys.SameKeys.{same_number, number_self, thread_self}
use Rattle.dso_plain.proofs.independence.RunsSwap.{runs_in_parts, runs_but_marks_in_parts, ends_in_parts}
use Rattle.dso_law.specs.Channels.{IsFirst, TakesFirst, up_in_flight}
use Rattle.dso_law.specs.Entries.{unsent, entries_of, by_taken_up, by_sent_down, if_to}
use Rattle.dso_law.specs.FitsUp.{FitsNote, FitsChoice}
use Rattle.dso_law.specs.Granting.{leased_to}
use Rattle.dso_law.specs.RequestNeeds.{conflicts}
use Rattle.dso_law.specs.ServerReadings.{loses, is_lost, is_of_lost, counted}
use Rattle.dso_law.specs.ServerStep.{changes_of, HeardStep, HeardOrLost, ServerStepOn}
use Rattle.dso_law.specs.ServerWaiters.{waiters_by, waiters_by_sent, waiters_of, wakes_of, lists_noted}
use Rattle.dso_law.specs.Settings.{Settings}
use Rattle.dso_law.specs.Threads.{Locks, ending_of}
use Rattle.dso_legal.specs.Agreement.{after, EachMay}
use Rattle.dso_legal.specs.AsMade.{as_made}
use Rattle.dso_legal.specs.Committed.{or_empty, block_numbered, block_taken, resolved, committed_by, committed_at, committed, ended_blocks}
use Rattle.dso_legal.specs.Lawful.{next_after, ServerFollows, NodeFollows, AllFollow}
use Rattle.dso_legal.specs.Marks.{MarksAreKnown, is_kept, kept_at, lists_at, kept_through, lists_through, IsAway}
use Rattle.dso_legal.specs.PendingBlocks.{no_locks, joined, taken_in, locks_through}
use Rattle.dso_legal.specs.Places.{Place, Away, Kept, Gone, places_noted, place_ended, place_up, place_down, MayNote, MayEnd, MayPlaceUp, MayPlaceDown, place_of, place_with}
use Rattle.dso_legal.specs.SoundProgram.{AsksSoundly}
use Rattle.dso_legal.proofs.blocks.EachEvent.{AtClient, IfEvent, EachEvent, each_follows, each_taken}
use Rattle.dso_legal.proofs.blocks.Histories.{client_of_thread, taken_of_client}
use Rattle.dso_legal.proofs.blocks.OwnActs.{next_act}
use Rattle.dso_legal.proofs.blocks.ResolvedBlocks.{history_resolved}
use Rattle.dso_legal.proofs.channels.AfterEntry.{server_turn}
use Rattle.dso_legal.proofs.channels.InFlight.{told_to, told_status}
use Rattle.dso_legal.proofs.central.AllHold.{all_holds}
use Rattle.dso_legal.proofs.fitting.Untold.{all_untold}
use Rattle.dso_legal.proofs.leases.LeaseSteps.{no_both, unless_true}
use Rattle.dso_legal.proofs.leases.LeasesCompatible.{all_lent}
use Rattle.dso_legal.proofs.marks.BlockMarks.{KnowsMarks, LateLast, block_knows}
use Rattle.dso_legal.proofs.marks.RecordMarks.{EventWakes, wakes_only, IsOf, own_or_other, FitsHere, MayAsk, Walks, CanWalk, walk, late_last, exit_is}
use Rattle.dso_legal.proofs.marks.SameRuns.{runs_resolved}
use Rattle.dso_legal.proofs.records.BothEnds.{first_may_up}
use Rattle.dso_legal.proofs.records.HandedIn.{TakesBlock, takes_its_block}
use Rattle.dso_legal.proofs.waiting.BlockNotes.{notes_of, block_notes}
use Rattle.dso_legal.proofs.waiting.KeptLeased.{kept_leased}
use Rattle.dso_legal.proofs.waiting.ListMoves.{fails}
use Rattle.dso_legal.proofs.waiting.MarksAsked.{event_times_out, IsUnasked, asks_fairly}
use Rattle.dso_legal.proofs.waiting.ServerWaiters.{any_append, none_woken, changes_wake_none}
use Rattle.dso_legal.proofs.waiting.ServerWakes.{lists_ended, woken_both, record_wakes}
use Rattle.dso_legal.proofs.waiting.Waiters.{WaitersStand, waiters_stand, server_does, enough_write}

-- where a thread stands, as the server tells it
abbrev pub place_at : List Entry → LockName → ThreadId → Place
place_at es l t = place_with t.client l t (counted (entries_of Server es))

-- wakes that may come leave who is kept
wake_leaves : (l : LockName) (t : ThreadId) (m : Down) (s : Place) → MayPlaceDown l t m s → is_kept (place_down l t m s) ≡ is_kept s
wake_leaves l t (down.Wake k u) s may = by (is_lock l k && is_thread t u) refl
  where
    by : (b : Bool) → (is_lock l k && is_thread t u) ≡ b → is_kept (cond b Away s) ≡ is_kept s
    by true is = sym (ap is_kept (may is))
    by false isnt = refl
wake_leaves l t m s may = refl

wakes_leave : (l : LockName) (t : ThreadId) (ms : List Down) (s : Place) → EachMay (MayPlaceDown l t) (place_down l t) ms s → is_kept (after (place_down l t) ms s) ≡ is_kept s
wakes_leave l t [] s may = refl
wakes_leave l t (m ∷ ms) s may = wakes_leave l t ms (place_down l t m s) may.1 ∙ wake_leaves l t m s may.0

-- what holds of each block, and of the empty one, holds of the one of each number
numbered_so : (P : List Event → Type 0) → P [] → (n : ℕ) (blocks : List (List Event)) → AllByRecursion P blocks → P (block_numbered n blocks)
numbered_so P empty zero blocks each = empty
numbered_so P empty (suc n) blocks each = at n blocks each
  where
    at : (n : ℕ) (blocks : List (List Event)) → AllByRecursion P blocks → P (or_empty (slice_get blocks n))
    at n [] each = empty
    at zero (block ∷ blocks) each = each.0
    at (suc n) (block ∷ blocks) each = at n blocks each.1

-- an act whose ending is a timeout times out
times_out : (event : Event) (locks : Locks) (k : LockName) → ending_of event locks ≡ Some (ending.Timeout k) → event_times_out event ≡ true
times_out (Act t (Timeout l) Done woken) locks k ends = refl
times_out (Act t (Exit l) Done woken) locks k ends = absurd (cc (exit_is l _ (ending.Timeout k) ends))
times_out (Act t (Wait l) Done woken) locks k ends = absurd (cc ends)
times_out (Act t (End fault) Done woken) locks k ends = absurd (cc ends)
times_out (Act t request reply woken) locks k ends = absurd (cc ends)
times_out (Lost client) locks k ends = absurd (cc ends)

module _ (p : Settings) (next : ThreadId → List Event → Option Request) (sound : AsksSoundly p.shape next) where
  -- every event of the clients wakes as an act may
  each_wakes_at : (node : Node) (e : Entry) (es : List Entry) → NodeFollows p next node e es → AtClient EventWakes node e.event
  each_wakes_at Server e es rule = tt
  each_wakes_at (Client c) e es rule = elim (next_act p c (next_after next es) (next_after next (e ∷ es)) e (entries_of (Client c) es) rule.step) [
    | inl none ↦ subst (IfEvent EventWakes) (sym none) tt
    | inr it ↦ subst (IfEvent EventWakes) (sym it.event) (wakes_only it.request it.reply (entries_of (Client c) es))
  ]

  each_wakes : (es : List Entry) → AllFollow p next es → EachEvent EventWakes es
  each_wakes [] follow = tt
  each_wakes (e ∷ es) follow = (each_wakes_at e.node e es follow.1.rule, each_wakes es follow.0)

  -- The server takes a record of a client that isn't lost.
  module _ (e : Entry) (es : List Entry) (follow : AllFollow p next (e ∷ es)) (at : e.node ≡ Server) (d : ℕ) (txn : Txn) (took : e.input ≡ input.TookUp d (up.Commit txn)) (alive : is_lost d (entries_of Server es) ≡ false) where
    stand : WaitersStand p next sound es
    stand = waiters_stand p next sound es follow.0

    abbrev server : List Entry
    server = counted (entries_of Server es)

    abbrev a : ThreadId
    a = txn.thread

    takes : TakesBlock p d txn e es
    takes = takes_its_block p next d es follow.0 alive e follow.1 txn at took

    its : a.client ≡ d
    its = taken_of_client p next e es follow.1 d txn alive takes

    -- the thread's client isn't lost,
    alive_own : is_lost a.client (entries_of Server es) ≡ false
    alive_own = subst (λ n. is_lost n (entries_of Server es) ≡ false) (sym its) alive

    -- and no client more is lost than before
    lost_now : (c : ℕ) → is_lost c (entries_of Server (e ∷ es)) ≡ is_lost c (entries_of Server es)
    lost_now c = ap (is_lost c) (server_turn d e es at).server ∙ ap (λ i. loses c i || is_lost c (entries_of Server es)) took

    rule : ServerFollows p next e es
    rule = subst (λ n. NodeFollows p next n e es) at follow.1.rule

    first : TakesFirst e.input Server es
    first = subst (λ n. TakesFirst e.input n es) at follow.1.channels

    heard : HeardStep p d (up.Commit txn) e server
    heard = subst (λ b. HeardOrLost p d (up.Commit txn) b e server) alive (subst (λ i. ServerStepOn p i e (entries_of Server es)) took rule.step).heard

    may_come : (l : LockName) (t : ThreadId) → t.client ≡ d → MayPlaceUp l t (up.Commit txn) (place_at es l t)
    may_come l t own = first_may_up p next t.client (MayPlaceUp l t) (place_up l t) (MayPlaceDown l t) (place_down l t) (place_of l t) (place_with t.client l t) es (stand.agree l t (subst (λ n. is_lost n (entries_of Server es) ≡ false) (sym own) alive)) (up.Commit txn)
        (subst (λ n. IsFirst (up.Commit txn) (up_in_flight n es)) (sym own) (subst (λ i. TakesFirst i Server es) took first))

    notes_are : txn.notes ≡ notes_of takes.block
    notes_are = ap (λ (x : Txn). x.notes) takes.its.whole ∙ block_notes p.shape takes.block _

    kept_is : (l : LockName) (t : ThreadId) → is_lost t.client (entries_of Server es) ≡ false → kept_at es l t ≡ is_kept (place_at es l t)
    kept_is l t there = ap (λ b. not b && is_kept (place_at es l t)) there

    -- no thread of a lost client is kept
    none_kept : (l : LockName) (t : ThreadId) → is_lost t.client (entries_of Server es) ≡ true → kept_at es l t ≡ false
    none_kept l t lost = ap (λ b. not b && is_kept (place_at es l t)) lost

    -- other clients keep nobody of a lock that this one has at Write
    others_none : (l : LockName) → leased_to d l server ≡ Some Write → (u : ThreadId) → (u.client ≡ d → ⊥) → kept_at es l u ≡ false
    others_none l leased u other = of_lost (is_lost u.client (entries_of Server es)) refl
      where
        apart : eqb d u.client ≡ false
        apart = fails (eqb d u.client) (λ same. other (sym (same_number d u.client same)))

        by : is_lost u.client (entries_of Server es) ≡ false → (s : Place) → place_at es l u ≡ s → kept_at es l u ≡ false
        by there Away is = kept_is l u there ∙ ap is_kept is
        by there Gone is = kept_is l u there ∙ ap is_kept is
        by there Kept is = absurd (cc (sym (ap (conflicts Write) (enough_write (leased_to u.client l server) (kept_leased p next sound es follow.0 l u there is)))
            ∙ (all_lent p next es follow.0 l).compatible d u.client Write apart leased))

        of_lost : (b : Bool) → is_lost u.client (entries_of Server es) ≡ b → kept_at es l u ≡ false
        of_lost true lost = none_kept l u lost
        of_lost false there = by there (place_at es l u) refl

    fits_here : AllByRecursion (FitsHere d (kept_at es)) (notes_of takes.block)
    fits_here = subst (AllByRecursion (FitsHere d (kept_at es))) notes_are (each_follows (FitsNote p d server) (FitsHere d (kept_at es))
        (λ note fit. record { choice = choice note.choice fit.1; others = others_none note.lock fit.0 }) txn.notes heard.fits.notes)
      where
        choice : (x : Choice) → FitsChoice p d x → IsOf d x
        choice (Here w) fit = client_of_thread p d w fit
        choice There fit = tt
        choice All fit = tt

    -- its block, if it times out, asks for no mark
    unasked : IsUnasked takes.block
    unasked = subst IsUnasked (sym takes.numbered) (numbered_so IsUnasked (λ late. refl) txn.seq (ended_blocks (entries_of (Client d) es)) (asks_fairly p next sound es follow.0 d).ended)

    asks : MayAsk a takes.block (kept_at es) (lists_at es)
    asks = by txn.ending refl
      where
        away : ((l : LockName) → place_at es l a ≡ Away) → (l : LockName) → IsAway (kept_at es) (lists_at es) l a
        away is l = record {
          unkept = kept_is l a alive_own ∙ ap is_kept (is l);
          unlisted = fails (list_any (is_thread a) (lists_at es l)) (λ there. cc (sym (is l) ∙ (stand.server l a alive_own).gone.0 there));
        }

        ends_so : (l : LockName) (x : Ending) → txn.ending ≡ x → MayEnd a a x (place_at es l a)
        ends_so l x is = subst (λ y. MayEnd a a y (place_at es l a)) is (may_come l a its).1

        or_true : (b : Bool) → (b || (true || false)) ≡ true
        or_true true = refl
        or_true false = refl

        by : (x : Ending) → txn.ending ≡ x → MayAsk a takes.block (kept_at es) (lists_at es)
        by (ending.Timeout k) is = inl (unasked (ap (list_any event_times_out) takes.its.ends.whole ∙ any_append event_times_out takes.its.ends.earlier (takes.its.ends.last ∷ [])
            ∙ ap (λ b. list_any event_times_out takes.its.ends.earlier || (b || false)) (times_out takes.its.ends.last _ k (takes.its.ends.ends ∙ ap Some is)) ∙ or_true (list_any event_times_out takes.its.ends.earlier)))
        by (ending.Exit k) is = inr (away (λ l. ends_so l (ending.Exit k) is (thread_self a)))
        by (ending.Wait k) is = inr (away (λ l. ends_so l (ending.Wait k) is (thread_self a)))
        by (ending.End fault) is = inr (away (λ l. ends_so l (ending.End fault) is (thread_self a)))

    can : CanWalk d a its (kept_at es) txn.ending takes.block (place_at es) (kept_at es) (lists_at es)
    can = record {
      wakes = subst (AllByRecursion EventWakes) (sym takes.numbered) (each_taken EventWakes d txn.seq es (each_wakes es follow.0));
      fits = fits_here;
      may = λ l t own. subst (λ notes. MayNote l t notes (place_at es l t)) notes_are (may_come l t own).0;
      tracks = record { own = λ l t own. kept_is l t (subst (λ n. is_lost n (entries_of Server es) ≡ false) (sym own) alive); others = λ l t other. refl };
      asks = asks;
    }

    walks : Walks d a its (kept_at es) txn.ending takes.block (place_at es) (kept_at es) (lists_at es)
    walks = subst (λ b. CanWalk d a its (kept_at es) txn.ending b (place_at es) (kept_at es) (lists_at es) → Walks d a its (kept_at es) txn.ending b (place_at es) (kept_at es) (lists_at es)) (sym takes.its.ends.whole)
        (walk d a its (kept_at es) txn.ending takes.its.ends.earlier takes.its.ends.last (locks_through a (joined (taken_in d es)) no_locks) (place_at es) (kept_at es) (lists_at es)
        (subst (AreActsOf a) takes.its.ends.whole takes.its.acts) takes.its.ends.stays takes.its.ends.ends) can

    -- The history goes on by the block, resolved,
    history : committed (e ∷ es) ≡ committed es ++ resolved takes.block (lists_at es)
    history = ap (λ more. committed es ++ more) (ap (λ n. committed_at n e.input es) at ∙ ap (λ i. committed_by i es) took
        ∙ unless_true (is_lost d (entries_of Server es)) [] (block_taken d txn.seq es) alive ∙ ap (λ b. resolved b (lists_at es)) (sym takes.numbered))

    abbrev s : PlainState
    s = last_state p.shape (committed es)

    -- which runs, whatever is marked;
    block_runs : RunsButMarks p.shape (resolved takes.block (lists_at es)) s
    block_runs = ((runs_but_marks_in_parts p.shape (committed es) (resolved takes.block (lists_at es)) (opening p.shape)).0
        (subst (λ h. RunsButMarks p.shape h (opening p.shape)) history
        (runs_resolved p.shape (opening p.shape).marked (as_made (e ∷ es)) (committed (e ∷ es)) (opening p.shape) (all_holds p next sound (e ∷ es) follow).stand.runs (history_resolved (e ∷ es))).runs)).1

    -- who is kept now,
    counts : is_of_lost e.input (entries_of Server es) ≡ false
    counts = ap (λ i. is_of_lost i (entries_of Server es)) took ∙ alive

    counted_now : counted (entries_of Server (e ∷ es)) ≡ e ∷ server
    counted_now = ap counted (server_turn d e es at).server ∙ unless_true (is_of_lost e.input (entries_of Server es)) server (e ∷ server) counts

    kept_heard : (l : LockName) (t : ThreadId) → is_lost t.client (entries_of Server es) ≡ false → is_kept (place_at (e ∷ es) l t) ≡ is_kept (by_taken_up (if_to t.client (place_up l t)) e.input (place_at es l t))
    kept_heard l t there = ap (λ js. is_kept (place_with t.client l t js)) counted_now ∙ ap is_kept (told_status t.client (place_down l t) e.sent (by_taken_up (if_to t.client (place_up l t)) e.input (place_at es l t)))
        ∙ wakes_leave l t (told_to t.client e.sent) (by_taken_up (if_to t.client (place_up l t)) e.input (place_at es l t))
        (server_does p next sound e es follow (all_untold p next sound es follow.0) stand l t there first rule counts (ap (loses t.client) took)).comes

    kept_after : (l : LockName) (t : ThreadId) → is_lost t.client (entries_of Server es) ≡ false → kept_through takes.block (kept_at es) l t ≡ is_kept (place_at (e ∷ es) l t)
    kept_after l t there = own_or_other d t
        (λ own. walks.tracks.own l t own ∙ ap (λ notes. is_kept (place_ended l t a txn.ending (places_noted l t notes (place_at es l t)))) (sym notes_are)
        ∙ sym (kept_heard l t there ∙ ap (λ i. is_kept (by_taken_up (if_to t.client (place_up l t)) i (place_at es l t))) took
        ∙ ap (λ b. is_kept (cond b (place_up l t (up.Commit txn) (place_at es l t)) (place_at es l t))) (ap (λ n. eqb n d) own ∙ number_self d)))
        (λ other. walks.tracks.others l t other ∙ kept_is l t there
        ∙ sym (kept_heard l t there ∙ ap (λ i. is_kept (by_taken_up (if_to t.client (place_up l t)) i (place_at es l t))) took
        ∙ ap (λ b. is_kept (cond b (place_up l t (up.Commit txn) (place_at es l t)) (place_at es l t))) (fails (eqb t.client d) (λ same. other (same_number t.client d same)))))

    kept_now : (l : LockName) (t : ThreadId) → kept_through takes.block (kept_at es) l t ≡ kept_at (e ∷ es) l t
    kept_now l t = by (is_lost t.client (entries_of Server es)) refl
      where
        by : (b : Bool) → is_lost t.client (entries_of Server es) ≡ b → kept_through takes.block (kept_at es) l t ≡ kept_at (e ∷ es) l t
        by true lost = walks.tracks.others l t (λ own. no_both (is_lost d (entries_of Server es)) (subst (λ n. is_lost n (entries_of Server es) ≡ true) own lost) alive) ∙ none_kept l t lost
            ∙ sym (ap (λ b. not b && is_kept (place_at (e ∷ es) l t)) (lost_now t.client ∙ lost))
        by false there = kept_after l t there ∙ sym (ap (λ b. not b && is_kept (place_at (e ∷ es) l t)) (lost_now t.client ∙ there))

    -- and the lists.
    lists_now : (l : LockName) → lists_through takes.block (lists_at es) l ≡ lists_at (e ∷ es) l
    lists_now l =
        let front : List Sent = ToClient d (down.Ack txn.seq) ∷ changes_of p d txn (unsent e ∷ server) in
        let left : List ThreadId = lists_ended a txn.ending (lists_noted txn.notes (lists_at es)) l in
        let heard_lists : (λ k. waiters_by k e.input (waiters_of k server)) ≡ lists_at es = ap (λ i. λ k. waiters_by k i (waiters_of k server)) took in
        ap (λ ls. ls l) walks.leaves ∙ ap (λ notes. lists_ended a txn.ending (lists_noted notes (lists_at es)) l) (sym notes_are)
        ∙ sym (ap (waiters_of l) counted_now ∙ ap (λ ls. by_sent_down (waiters_by_sent l) e.sent (ls l)) heard_lists ∙ ap (λ out. by_sent_down (waiters_by_sent l) out (lists_at es l)) (heard.sends ∙ ap (λ ls. front ++ wakes_of txn ls) heard_lists)
        ∙ (woken_both l front (wakes_of txn (lists_at es)) (lists_at es l) (lists_at es l) left (none_woken l front (lists_at es l) (tt, changes_wake_none p d txn (unsent e ∷ server)))
        (record_wakes l txn (lists_at es) (stand.server l a alive_own).once)).leaves)

    -- So the history runs behind it, marks and all, and who is kept and listed is known.
    pub record RecordKnows : Type 0 where
      pub runs : Runs p.shape (committed (e ∷ es)) (opening p.shape)
      pub known : (l : LockName) (t : ThreadId) → IsUnmarkedWaiter l t (last_state p.shape (committed (e ∷ es))) ↔ ((kept_at (e ∷ es) l t ≡ true) ⊎ (list_any (is_thread t) (lists_at (e ∷ es) l) ≡ true))

    pub record_knows : Runs p.shape (committed es) (opening p.shape) → MarksAreKnown (kept_at es) (lists_at es) s → RecordKnows
    record_knows runs known =
        let late : LateLast takes.block = subst LateLast (sym takes.its.ends.whole) (late_last a takes.its.ends.earlier takes.its.ends.last (locks_through a (joined (taken_in d es)) no_locks) takes.its.ends.stays) in
        let knows : KnowsMarks p.shape takes.block (kept_at es) (lists_at es) s = block_knows p.shape takes.block (kept_at es) (lists_at es) s late block_runs walks.may known in
        record {
          runs = subst (λ h. Runs p.shape h (opening p.shape)) (sym history) ((runs_in_parts p.shape (committed es) (resolved takes.block (lists_at es)) (opening p.shape)).1 (runs, knows.runs));
          known = λ l t. subst (λ h. IsUnmarkedWaiter l t (last_state p.shape h) ↔ ((kept_at (e ∷ es) l t ≡ true) ⊎ (list_any (is_thread t) (lists_at (e ∷ es) l) ≡ true))) (sym history)
              (subst (λ r. IsUnmarkedWaiter l t r ↔ ((kept_at (e ∷ es) l t ≡ true) ⊎ (list_any (is_thread t) (lists_at (e ∷ es) l) ≡ true))) (sym (ends_in_parts p.shape (committed es) (resolved takes.block (lists_at es)) (opening p.shape)))
              (subst (λ b. IsUnmarkedWaiter l t (end_of p.shape (resolved takes.block (lists_at es)) s) ↔ ((b ≡ true) ⊎ (list_any (is_thread t) (lists_at (e ∷ es) l) ≡ true))) (kept_now l t)
              (subst (λ ts. IsUnmarkedWaiter l t (end_of p.shape (resolved takes.block (lists_at es)) s) ↔ ((kept_through takes.block (kept_at es) l t ≡ true) ⊎ (list_any (is_thread t) ts ≡ true))) (lists_now l)
              (knows.marks.known l t))));
        }
