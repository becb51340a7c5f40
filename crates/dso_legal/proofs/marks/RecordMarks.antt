-- A block and its record say the same of the waiters: who is kept after it, and who is left in the server's lists; and each of its acts
-- may wake as it did.
use Rattle.std.specs.List.{list_any, AllByRecursion}
use Rattle.std.proofs.Common.{ℕ, ◌≡◌, ◌≢◌, ◌⊎◌, inl, inr, refl, sym, ◌∙◌, ap, subst, Bool, true, false, cond, eqb, ◌&&◌, ◌||◌, Option, Some, None, List, [], ◌∷◌, ◌++◌}
use Rattle.std.specs.Prelude.{drop}
use Rattle.dso_base.specs.declared.journal.Entry.{Entry}
use Rattle.dso_base.specs.declared.lock.LockName.{LockName}
use Rattle.dso_base.specs.declared.lock.ThreadId.{ThreadId}
use Rattle.dso_base.specs.declared.record.Choice.{Choice}
use Rattle.dso_base.specs.declared.record.Choice.TheVariants.{Here, There, All}
use Rattle.dso_base.specs.declared.record.Ending.{Ending}
use Rattle.dso_base.specs.declared.record.Ending.TheVariants as ending
use Rattle.dso_base.specs.declared.record.Note.{Note}
use Rattle.dso_base.specs.declared.request.Event.{Event}
use Rattle.dso_base.specs.declared.request.Event.TheVariants.{Act, Lost}
use Rattle.dso_base.specs.declared.request.Reply.{Reply}
use Rattle.dso_base.specs.declared.request.Reply.TheVariants.{Done, Val}
use Rattle.dso_base.specs.declared.request.Request.{Request}
use Rattle.dso_base.specs.declared.request.Request.TheVariants.{New, Look, Get, Put, Enter, Exit, Wait, Tick, Timeout, Resume, Notify, NotifyAll, Print, End, Pause, Settle}
use Rattle.dso_base.specs.declared.value.Value.TheVariants as value
use Rattle.dso_base.specs.Following.{is_thread}
use Rattle.dso_plain.specs.KeyTests.{is_lock}
use Rattle.dso_plain.specs.State.{Hold}
use Rattle.dso_plain.specs.Touches.{AreActsOf, TimesOut}
use Rattle.dso_plain.proofs.keys.SameKeys.{same_number, number_self, same_thread, thread_self, same_lock}
use Rattle.dso_law.specs.Replies.{woken_by}
use Rattle.dso_law.specs.ServerWaiters.{lists_after, lists_noted}
use Rattle.dso_law.specs.Threads.{Locks, exit_ending, ending_by, ending_of, locks_after}
use Rattle.dso_legal.specs.Committed.{lists_after_act}
use Rattle.dso_legal.specs.Marks.{KeptThreads, is_kept, kept_by, kept_through, lists_timed_out, lists_through, IsAway, MayWake, EachMayWake}
use Rattle.dso_legal.specs.PendingBlocks.{locks_through, StaysOpen}
use Rattle.dso_legal.specs.Places.{Place, Away, Kept, Gone, unkept, place_noted, places_noted, place_ended, MayNote}
use Rattle.dso_legal.specs.Resolved.{WaiterLists}
use Rattle.dso_legal.proofs.blocks.LocksOfEvents.{lock_either_way}
use Rattle.dso_legal.proofs.leases.LeaseSteps.{no_both}
use Rattle.dso_legal.proofs.leases.Queues.{lock_self}
use Rattle.dso_legal.proofs.marks.BlockMarks.{LateLast}
use Rattle.dso_legal.proofs.waiting.BlockNotes.{note_by, notes_of}
use Rattle.dso_legal.proofs.waiting.ClientEnd.{ending_silent}
use Rattle.dso_legal.proofs.waiting.MarksAsked.{asks_mark, event_asks_mark}
use Rattle.dso_legal.proofs.waiting.NotedPlaces.{noted_both}
use Rattle.dso_legal.proofs.waiting.ServerWakes.{lists_ended}

-- only a done Notify wakes somebody
abbrev pub WakesOnly : Request → Reply → Option ThreadId → Type 0
WakesOnly (New class n) reply woken = woken ≡ None
WakesOnly (Look o) reply woken = woken ≡ None
WakesOnly (Get o f) reply woken = woken ≡ None
WakesOnly (Put o f v) reply woken = woken ≡ None
WakesOnly (Enter l level) reply woken = woken ≡ None
WakesOnly (Exit l) reply woken = woken ≡ None
WakesOnly (Wait l) reply woken = woken ≡ None
WakesOnly (Tick l) reply woken = woken ≡ None
WakesOnly (Timeout l) reply woken = woken ≡ None
WakesOnly (Resume l) reply woken = woken ≡ None
WakesOnly (Notify l) Done woken = Unit {0}
WakesOnly (Notify l) reply woken = woken ≡ None
WakesOnly (NotifyAll l) reply woken = woken ≡ None
WakesOnly (Print v) reply woken = woken ≡ None
WakesOnly (End fault) reply woken = woken ≡ None
WakesOnly Pause reply woken = woken ≡ None
WakesOnly Settle reply woken = woken ≡ None

abbrev pub EventWakes : Event → Type 0
EventWakes (Act t request reply woken) = WakesOnly request reply woken
EventWakes (Lost client) = Unit {0}

-- so does a client's act
pub wakes_only : (request : Request) (reply : Reply) (own : List Entry) → WakesOnly request reply (woken_by request reply own)
wakes_only (New class n) reply own = refl
wakes_only (Look o) reply own = refl
wakes_only (Get o f) reply own = refl
wakes_only (Put o f v) reply own = refl
wakes_only (Enter l level) reply own = refl
wakes_only (Exit l) reply own = refl
wakes_only (Wait l) reply own = refl
wakes_only (Tick l) reply own = refl
wakes_only (Timeout l) reply own = refl
wakes_only (Resume l) reply own = refl
wakes_only (Notify l) Done own = tt
wakes_only (Notify l) reply own = refl
wakes_only (NotifyAll l) reply own = refl
wakes_only (Print v) reply own = refl
wakes_only (End fault) reply own = refl
wakes_only Pause reply own = refl
wakes_only Settle reply own = refl

-- the lists after two lists of notifications
lists_both : (xs ys : List Note) (lists : WaiterLists) → lists_noted (xs ++ ys) lists ≡ lists_noted ys (lists_noted xs lists)
lists_both [] ys lists = refl
lists_both (note ∷ xs) ys lists = lists_both xs ys (lists_after note.lock note.choice lists)

-- an act that ends no block leaves the lists as its notification does
lists_one : (t : ThreadId) (request : Request) (reply : Reply) (woken : Option ThreadId) (locks : Locks) (lists : WaiterLists) → ending_by request reply locks ≡ None
    → lists_timed_out t request reply (lists_after_act request reply woken lists) ≡ lists_noted (note_by request reply woken) lists
lists_one t (Timeout l) Done woken locks lists stays = absurd (cc stays)
lists_one t (Notify l) Done None locks lists stays = refl
lists_one t (Notify l) Done (Some w) locks lists stays = refl
lists_one t (NotifyAll l) Done woken locks lists stays = refl
lists_one t request reply woken locks lists stays = refl

-- the ending that an exit is
pub exit_is : (l : LockName) (hold : Option Hold) (end : Ending) → exit_ending l hold ≡ Some end → end ≡ ending.Exit l
exit_is l None end is = cc is
exit_is l (Some hold) end is = absurd (cc is)

same_ending : (a b : Ending) → Some a ≡ Some b → b ≡ a
same_ending a b same = cc same

-- an act that ends a block leaves them as the ending does
lists_last : (t : ThreadId) (request : Request) (reply : Reply) (woken : Option ThreadId) (locks : Locks) (end : Ending) (lists : WaiterLists) → ending_by request reply locks ≡ Some end
    → lists_timed_out t request reply (lists_after_act request reply woken lists) ≡ lists_ended t end lists
lists_last t (Exit l) Done woken locks end lists ends = sym (ap (λ x. lists_ended t x lists) (exit_is l _ end ends))
lists_last t (Wait l) Done woken locks end lists ends = sym (ap (λ x. lists_ended t x lists) (same_ending (ending.Wait l) end ends))
lists_last t (Timeout l) Done woken locks end lists ends = sym (ap (λ x. lists_ended t x lists) (same_ending (ending.Timeout l) end ends))
lists_last t (End fault) Done woken locks end lists ends = sym (ap (λ x. lists_ended t x lists) (same_ending (ending.End fault) end ends))
lists_last t request reply woken locks end lists ends = absurd (cc ends)

-- whom a client chooses is its own
abbrev pub IsOf : ℕ → Choice → Type 0
IsOf d (Here w) = w.client ≡ d
IsOf d There = Unit {0}
IsOf d All = Unit {0}

-- a notification of client d: whom it chose is its own, and other clients keep nobody of its lock
pub record FitsHere (d : ℕ) (kept : KeptThreads) (note : Note) : Type 0 where
  pub choice : IsOf d note.choice
  pub others : (u : ThreadId) → (u.client ≡ d → ⊥) → kept note.lock u ≡ false

-- who is kept: of client d's threads who stands so; of the others who was
pub record Tracks (d : ℕ) (was : KeptThreads) (place : LockName → ThreadId → Place) (kept : KeptThreads) : Type 0 where
  pub own : (l : LockName) (t : ThreadId) → t.client ≡ d → kept l t ≡ is_kept (place l t)
  pub others : (l : LockName) (t : ThreadId) → (t.client ≡ d → ⊥) → kept l t ≡ was l t

-- no event asks for a mark, or the thread is in no list
abbrev pub MayAsk : ThreadId → List Event → KeptThreads → WaiterLists → Type 0
MayAsk a events kept lists = (list_any event_asks_mark events ≡ false) ⊎ ((l : LockName) → IsAway kept lists l a)

-- whose client is d or not
pub own_or_other : {P : Type 0} (d : ℕ) (t : ThreadId) → (t.client ≡ d → P) → ((t.client ≡ d → ⊥) → P) → P
own_or_other {P = P} d t own other = by (eqb t.client d) refl
  where
    by : (b : Bool) → eqb t.client d ≡ b → P
    by true is = own (same_number t.client d is)
    by false isnt = other (λ is. no_both (eqb t.client d) (ap (λ n. eqb n d) is ∙ number_self d) isnt)

isnt_kept : (s : Place) → s ≢ Kept → is_kept s ≡ false
isnt_kept Away isnt = refl
isnt_kept Kept isnt = absurd (isnt refl)
isnt_kept Gone isnt = refl

-- a test of two threads is the same either way, and so is one of two places
thread_either_way : (t u : ThreadId) → is_thread t u ≡ is_thread u t
thread_either_way t u = by (is_thread t u) (is_thread u t) refl refl
  where
    by : (a b : Bool) → is_thread t u ≡ a → is_thread u t ≡ b → a ≡ b
    by true true f g = refl
    by false false f g = refl
    by true false f g = no_both (is_thread t t) (thread_self t) (subst (λ x. is_thread x t ≡ false) (same_thread t u f) g)
    by false true f g = no_both (is_thread u u) (thread_self u) (subst (λ x. is_thread x u ≡ false) (same_thread u t g) f)

place_either_way : (l k : LockName) (t u : ThreadId) → (is_lock l k && is_thread t u) ≡ (is_lock k l && is_thread u t)
place_either_way l k t u = ap (λ b. b && is_thread t u) (lock_either_way l k) ∙ ap (λ b. is_lock k l && b) (thread_either_way t u)

-- who is kept once a thread is chosen, or all are
kept_chosen : (a b : Bool) (s : Place) → cond (a && b) false (is_kept s) ≡ is_kept (cond a (cond b Away s) s)
kept_chosen true true s = refl
kept_chosen true false s = refl
kept_chosen false b s = refl

kept_none : (a : Bool) (s : Place) → cond a false (is_kept s) ≡ is_kept (cond a (unkept s) s)
kept_none true Away = refl
kept_none true Kept = refl
kept_none true Gone = refl
kept_none false s = refl

-- once a thread waits, or times out
kept_waits : (a : Bool) (s : Place) → cond a true (is_kept s) ≡ is_kept (cond a Kept s)
kept_waits true s = refl
kept_waits false s = refl

-- who isn't among those of a list isn't among those left
fewer : (t : ThreadId) (ts : List ThreadId) → list_any (is_thread t) ts ≡ false → list_any (is_thread t) (drop 1 ts) ≡ false
fewer t [] out = refl
fewer t (u ∷ ts) out = by (is_thread t u) out
  where
    by : (b : Bool) → (b || list_any (is_thread t) ts) ≡ false → list_any (is_thread t) ts ≡ false
    by true out = absurd (cc out)
    by false out = out

-- An act of a thread a of client d that ends no block.
module _ (d : ℕ) (a : ThreadId) (its : a.client ≡ d) (was : KeptThreads) (place : LockName → ThreadId → Place) (kept : KeptThreads) (lists : WaiterLists) (tracks : Tracks d was place kept) where
  -- where each thread stands after a notification
  abbrev place_after : Request → Reply → Option ThreadId → LockName → ThreadId → Place
  place_after request reply woken l t = places_noted l t (note_by request reply woken) (place l t)

  -- its notification fits, and may come
  abbrev NoteFits : Request → Reply → Option ThreadId → Type 0
  NoteFits request reply woken = AllByRecursion (FitsHere d was) (note_by request reply woken)

  abbrev NoteMayCome : Request → Reply → Option ThreadId → Type 0
  NoteMayCome request reply woken = (l : LockName) (t : ThreadId) → t.client ≡ d → MayNote l t (note_by request reply woken) (place l t)

  -- It may wake as it did,
  act_wakes_so : (request : Request) (reply : Reply) (woken : Option ThreadId) → WakesOnly request reply woken → NoteFits request reply woken → NoteMayCome request reply woken
      → (asks_mark request reply ≡ false) ⊎ ((l : LockName) → IsAway kept lists l a) → MayWake a request reply woken kept lists
  act_wakes_so (Notify l) Done None wakes fits may asks = λ u. own_or_other d u
      (λ own. tracks.own l u own ∙ isnt_kept (place l u) ((may l u own).0 (lock_self l)))
      (λ other. tracks.others l u other ∙ fits.0.others u other)
  act_wakes_so (Notify l) Done (Some w) wakes fits may asks =
      tracks.own l w fits.0.choice ∙ ap is_kept ((may l w fits.0.choice).0 (lock_self l) (thread_self w))
  act_wakes_so (Tick l) (Val (value.Bool true)) woken wakes fits may (inl none) = absurd (cc none)
  act_wakes_so (Tick l) (Val (value.Bool true)) woken wakes fits may (inr away) = (away l, wakes)
  act_wakes_so (Timeout l) (Val (value.Bool true)) woken wakes fits may (inl none) = absurd (cc none)
  act_wakes_so (Timeout l) (Val (value.Bool true)) woken wakes fits may (inr away) = (away l, wakes)
  act_wakes_so (Resume l) reply woken wakes fits may (inl none) = absurd (cc none)
  act_wakes_so (Resume l) reply woken wakes fits may (inr away) = (away l, wakes)
  act_wakes_so request reply woken wakes fits may asks = wakes

  -- who is kept after it stands so,
  act_tracks : (request : Request) (reply : Reply) (woken : Option ThreadId) (locks : Locks) → ending_by request reply locks ≡ None → NoteFits request reply woken
      → Tracks d was (place_after request reply woken) (kept_by a request reply woken kept)
  act_tracks (Notify l) Done (Some w) locks stays fits = record {
    own = λ k u own. ap (λ b. cond b false (kept k u)) (place_either_way l k w u) ∙ ap (cond (is_lock k l && is_thread u w) false) (tracks.own k u own) ∙ kept_chosen (is_lock k l) (is_thread u w) (place k u);
    others = λ k u other. ap (λ b. cond (is_lock l k && b) false (kept k u)) (not_own u other (is_thread w u) refl) ∙ neither (is_lock l k) (kept k u) ∙ tracks.others k u other;
  }
    where
      neither : (b x : Bool) → cond (b && false) false x ≡ x
      neither true x = refl
      neither false x = refl

      not_own : (u : ThreadId) → (u.client ≡ d → ⊥) → (b : Bool) → is_thread w u ≡ b → b ≡ false
      not_own u other true same = absurd (other (ap (λ (x : ThreadId). x.client) (same_thread w u same) ∙ fits.0.choice))
      not_own u other false ne = refl
  act_tracks (NotifyAll l) Done woken locks stays fits = record {
    own = λ k u own. ap (λ b. cond b false (kept k u)) (lock_either_way l k) ∙ ap (cond (is_lock k l) false) (tracks.own k u own) ∙ kept_none (is_lock k l) (place k u);
    others = λ k u other. by k u other (is_lock l k) refl;
  }
    where
      by : (k : LockName) (u : ThreadId) → (u.client ≡ d → ⊥) → (b : Bool) → is_lock l k ≡ b → cond b false (kept k u) ≡ was k u
      by k u other true same = sym (subst (λ x. was x u ≡ false) (sym (same_lock l k same)) (fits.0.others u other))
      by k u other false ne = tracks.others k u other
  act_tracks (Notify l) Done None locks stays fits = record { own = λ k u own. tracks.own k u own ∙ ap is_kept (still (is_lock k l) (place k u)); others = tracks.others }
    where
      still : (b : Bool) (s : Place) → s ≡ cond b s s
      still true s = refl
      still false s = refl
  act_tracks (Wait l) Done woken locks stays fits = absurd (cc stays)
  act_tracks (Timeout l) Done woken locks stays fits = absurd (cc stays)
  act_tracks request reply woken locks stays fits = record { own = tracks.own; others = tracks.others }

  -- and a that is in no list stays so.
  act_stays_away : (request : Request) (reply : Reply) (woken : Option ThreadId) (locks : Locks) → ending_by request reply locks ≡ None → (l : LockName) → IsAway kept lists l a
      → IsAway (kept_by a request reply woken kept) (lists_timed_out a request reply (lists_after_act request reply woken lists)) l a
  act_stays_away (Notify k) Done None locks stays l away = record { unkept = away.unkept; unlisted = by (is_lock k l) }
    where
      by : (b : Bool) → list_any (is_thread a) (cond b (drop 1 (lists l)) (lists l)) ≡ false
      by true = fewer a (lists l) away.unlisted
      by false = away.unlisted
  act_stays_away (Notify k) Done (Some w) locks stays l away = record { unkept = unkept_by (is_lock k l && is_thread w a); unlisted = by (is_lock k l) }
    where
      unkept_by : (b : Bool) → cond b false (kept l a) ≡ false
      unkept_by true = refl
      unkept_by false = away.unkept

      by : (b : Bool) → list_any (is_thread a) (cond b (lists l) (lists l)) ≡ false
      by true = away.unlisted
      by false = away.unlisted
  act_stays_away (NotifyAll k) Done woken locks stays l away = record { unkept = unkept_by (is_lock k l); unlisted = by (is_lock k l) }
    where
      unkept_by : (b : Bool) → cond b false (kept l a) ≡ false
      unkept_by true = refl
      unkept_by false = away.unkept

      by : (b : Bool) → list_any (is_thread a) (cond b [] (lists l)) ≡ false
      by true = refl
      by false = away.unlisted
  act_stays_away (Wait k) Done woken locks stays l away = absurd (cc stays)
  act_stays_away (Timeout k) Done woken locks stays l away = absurd (cc stays)
  act_stays_away request reply woken locks stays l away = record { unkept = away.unkept; unlisted = away.unlisted }

  -- One that ends a block: who is kept stands as the ending leaves it.
  act_ends : (request : Request) (reply : Reply) (woken : Option ThreadId) (locks : Locks) (end : Ending) → ending_by request reply locks ≡ Some end
      → Tracks d was (λ l t. place_ended l t a end (place l t)) (kept_by a request reply woken kept)
  act_ends (Exit l) Done woken locks end ends = subst (λ x. Tracks d was (λ k t. place_ended k t a x (place k t)) kept) (sym (exit_is l _ end ends)) (record { own = tracks.own; others = tracks.others })
  act_ends (End fault) Done woken locks end ends = subst (λ x. Tracks d was (λ k t. place_ended k t a x (place k t)) kept) (sym (same_ending (ending.End fault) end ends)) (record { own = tracks.own; others = tracks.others })
  act_ends (Wait l) Done woken locks end ends = subst (λ x. Tracks d was (λ k t. place_ended k t a x (place k t)) (kept_by a (Wait l) Done woken kept)) (sym (same_ending (ending.Wait l) end ends)) (record {
    own = λ k u own. ap (λ b. cond b true (kept k u)) (place_either_way l k a u) ∙ ap (cond (is_lock k l && is_thread u a) true) (tracks.own k u own) ∙ kept_waits (is_lock k l && is_thread u a) (place k u);
    others = λ k u other. ap (λ b. cond (is_lock l k && b) true (kept k u)) (not_own u other (is_thread a u) refl) ∙ neither (is_lock l k) (kept k u) ∙ tracks.others k u other;
  })
    where
      neither : (b x : Bool) → cond (b && false) true x ≡ x
      neither true x = refl
      neither false x = refl

      not_own : (u : ThreadId) → (u.client ≡ d → ⊥) → (b : Bool) → is_thread a u ≡ b → b ≡ false
      not_own u other true same = absurd (other (ap (λ (x : ThreadId). x.client) (same_thread a u same) ∙ its))
      not_own u other false ne = refl
  act_ends (Timeout l) Done woken locks end ends = subst (λ x. Tracks d was (λ k t. place_ended k t a x (place k t)) (kept_by a (Timeout l) Done woken kept)) (sym (same_ending (ending.Timeout l) end ends)) (record {
    own = λ k u own. ap (λ b. cond b false (kept k u)) (place_either_way l k a u) ∙ ap (cond (is_lock k l && is_thread u a) false) (tracks.own k u own) ∙ kept_none (is_lock k l && is_thread u a) (place k u);
    others = λ k u other. ap (λ b. cond (is_lock l k && b) false (kept k u)) (not_own u other (is_thread a u) refl) ∙ neither (is_lock l k) (kept k u) ∙ tracks.others k u other;
  })
    where
      neither : (b x : Bool) → cond (b && false) false x ≡ x
      neither true x = refl
      neither false x = refl

      not_own : (u : ThreadId) → (u.client ≡ d → ⊥) → (b : Bool) → is_thread a u ≡ b → b ≡ false
      not_own u other true same = absurd (other (ap (λ (x : ThreadId). x.client) (same_thread a u same) ∙ its))
      not_own u other false ne = refl
  act_ends request reply woken locks end ends = absurd (cc ends)

-- the first of two lists, and the second
each_first : {X : Type 0} (P : X → Type 0) (xs ys : List X) → AllByRecursion P (xs ++ ys) → AllByRecursion P xs
each_first P [] ys each = tt
each_first P (x ∷ xs) ys each = (each.0, each_first P xs ys each.1)

each_second : {X : Type 0} (P : X → Type 0) (xs ys : List X) → AllByRecursion P (xs ++ ys) → AllByRecursion P ys
each_second P [] ys each = each
each_second P (x ∷ xs) ys each = each_second P xs ys each.1

may_first : (l : LockName) (t : ThreadId) (xs ys : List Note) (s : Place) → MayNote l t (xs ++ ys) s → MayNote l t xs s
may_first l t [] ys s may = tt
may_first l t (note ∷ xs) ys s may = (may.0, may_first l t xs ys (place_noted l t note s) may.1)

may_second : (l : LockName) (t : ThreadId) (xs ys : List Note) (s : Place) → MayNote l t (xs ++ ys) s → MayNote l t ys (places_noted l t xs s)
may_second l t [] ys s may = may
may_second l t (note ∷ xs) ys s may = may_second l t xs ys (place_noted l t note s) may.1

module _ (d : ℕ) (a : ThreadId) (its : a.client ≡ d) (was : KeptThreads) (end : Ending) where
  -- What is so of a block of a, from where each thread stands, who is kept and the lists: each act may wake as it did; who is kept
  -- behind it stands as its record leaves it; and the lists are those that its record leaves.
  pub record Walks (events : List Event) (place : LockName → ThreadId → Place) (kept : KeptThreads) (lists : WaiterLists) : Type 0 where
    pub may : EachMayWake events kept lists
    pub tracks : Tracks d was (λ l t. place_ended l t a end (places_noted l t (notes_of events) (place l t))) (kept_through events kept)
    pub leaves : lists_through events lists ≡ lists_ended a end (lists_noted (notes_of events) lists)

  -- what it needs
  pub record CanWalk (events : List Event) (place : LockName → ThreadId → Place) (kept : KeptThreads) (lists : WaiterLists) : Type 0 where
    pub wakes : AllByRecursion EventWakes events
    pub fits : AllByRecursion (FitsHere d was) (notes_of events)
    pub may : (l : LockName) (t : ThreadId) → t.client ≡ d → MayNote l t (notes_of events) (place l t)
    pub tracks : Tracks d was place kept
    pub asks : MayAsk a events kept lists

  first_asks : (event : Bool) (others : Bool) (kept : KeptThreads) (lists : WaiterLists) → ((event || others) ≡ false) ⊎ ((l : LockName) → IsAway kept lists l a) → (event ≡ false) ⊎ ((l : LockName) → IsAway kept lists l a)
  first_asks true others kept lists (inl none) = absurd (cc none)
  first_asks false others kept lists (inl none) = inl refl
  first_asks event others kept lists (inr away) = inr away

  later_ask : (event : Bool) (others : Bool) → (event || others) ≡ false → others ≡ false
  later_ask true others none = absurd (cc none)
  later_ask false others none = none

  -- the last act
  walk_last : (request : Request) (reply : Reply) (woken : Option ThreadId) (locks : Locks) (place : LockName → ThreadId → Place) (kept : KeptThreads) (lists : WaiterLists) → ending_by request reply locks ≡ Some end
      → CanWalk (Act a request reply woken ∷ []) place kept lists → Walks (Act a request reply woken ∷ []) place kept lists
  walk_last request reply woken locks place kept lists ends can =
      let none : note_by request reply woken ≡ [] = ending_silent request reply woken locks end ends in
      record {
        may = (
          act_wakes_so d a its was place kept lists can.tracks request reply woken can.wakes.0
              (each_first (FitsHere d was) (note_by request reply woken) [] can.fits) (λ l t own. may_first l t (note_by request reply woken) [] (place l t) (can.may l t own))
              (first_asks (asks_mark request reply) false kept lists can.asks),
          tt,
        );
        tracks = subst (λ notes. Tracks d was (λ l t. place_ended l t a end (places_noted l t (notes ++ []) (place l t))) (kept_by a request reply woken kept)) (sym none)
            (act_ends d a its was place kept lists can.tracks request reply woken locks end ends);
        leaves = lists_last a request reply woken locks end lists ends ∙ ap (λ notes. lists_ended a end (lists_noted (notes ++ []) lists)) (sym none);
      }

  -- an act before others
  walk_first : (request : Request) (reply : Reply) (woken : Option ThreadId) (locks : Locks) (events : List Event) (place : LockName → ThreadId → Place) (kept : KeptThreads) (lists : WaiterLists) → ending_by request reply locks ≡ None
      → CanWalk (Act a request reply woken ∷ events) place kept lists
      → ((place' : LockName → ThreadId → Place) (kept' : KeptThreads) (lists' : WaiterLists) → CanWalk events place' kept' lists' → Walks events place' kept' lists')
      → Walks (Act a request reply woken ∷ events) place kept lists
  walk_first request reply woken locks events place kept lists stays can later =
      let notes : List Note = note_by request reply woken in
      let place' : LockName → ThreadId → Place = λ l t. places_noted l t notes (place l t) in
      let kept' : KeptThreads = kept_by a request reply woken kept in
      let lists' : WaiterLists = lists_timed_out a request reply (lists_after_act request reply woken lists) in
      let fits : AllByRecursion (FitsHere d was) notes = each_first (FitsHere d was) notes (notes_of events) can.fits in
      let rest : Walks events place' kept' lists' = later place' kept' lists' (record {
        wakes = can.wakes.1;
        fits = each_second (FitsHere d was) notes (notes_of events) can.fits;
        may = λ l t own. may_second l t notes (notes_of events) (place l t) (can.may l t own);
        tracks = act_tracks d a its was place kept lists can.tracks request reply woken locks stays fits;
        asks = asks_later can.asks;
      }) in
      record {
        may = (
          act_wakes_so d a its was place kept lists can.tracks request reply woken can.wakes.0 fits (λ l t own. may_first l t notes (notes_of events) (place l t) (can.may l t own))
              (first_asks (asks_mark request reply) (list_any event_asks_mark events) kept lists can.asks),
          rest.may,
        );
        tracks = record {
          own = λ l t own. rest.tracks.own l t own ∙ ap (λ s. is_kept (place_ended l t a end s)) (sym (noted_both l t notes (notes_of events) (place l t)));
          others = rest.tracks.others;
        };
        leaves = rest.leaves ∙ ap (λ ls. lists_ended a end (lists_noted (notes_of events) ls)) (lists_one a request reply woken locks lists stays) ∙ ap (lists_ended a end) (sym (lists_both notes (notes_of events) lists));
      }
    where
      asks_later : MayAsk a (Act a request reply woken ∷ events) kept lists → MayAsk a events (kept_by a request reply woken kept) (lists_timed_out a request reply (lists_after_act request reply woken lists))
      asks_later (inl none) = inl (later_ask (asks_mark request reply) (list_any event_asks_mark events) none)
      asks_later (inr away) = inr (λ l. act_stays_away d a its was place kept lists can.tracks request reply woken locks stays l (away l))

  -- Each block of a does so.
  pub walk : (earlier : List Event) (last : Event) (locks : Locks) (place : LockName → ThreadId → Place) (kept : KeptThreads) (lists : WaiterLists) → AreActsOf a (earlier ++ last ∷ []) → StaysOpen a earlier locks
      → ending_of last (locks_through a earlier locks) ≡ Some end → CanWalk (earlier ++ last ∷ []) place kept lists → Walks (earlier ++ last ∷ []) place kept lists
  walk [] (Act u request reply woken) locks place kept lists acts stays ends =
      subst (λ x. CanWalk (Act x request reply woken ∷ []) place kept lists → Walks (Act x request reply woken ∷ []) place kept lists) (sym acts.0) (walk_last request reply woken locks place kept lists ends)
  walk [] (Lost client) locks place kept lists acts stays ends = absurd acts.0
  walk (Lost client ∷ earlier) last locks place kept lists acts stays ends = absurd acts.0
  walk (Act u request reply woken ∷ earlier) last locks place kept lists acts stays ends =
      subst (λ x. CanWalk (Act x request reply woken ∷ (earlier ++ last ∷ [])) place kept lists → Walks (Act x request reply woken ∷ (earlier ++ last ∷ [])) place kept lists) (sym acts.0)
      (λ can. walk_first request reply woken locks (earlier ++ last ∷ []) place kept lists stays.0 can
      (λ place' kept' lists'. walk earlier last (locks_after a (Act u request reply woken) locks) place' kept' lists' acts.1 stays.1 ends))

-- what ends no block doesn't time out
in_time : (event : Event) (locks : Locks) → ending_of event locks ≡ None → TimesOut event → ⊥
in_time (Act t (Timeout l) Done woken) locks stays late = cc stays
in_time (Act t request reply woken) locks stays late = late
in_time (Lost client) locks stays late = late

-- A block that ends so is late last.
pub late_last : (a : ThreadId) (earlier : List Event) (last : Event) (locks : Locks) → StaysOpen a earlier locks → LateLast (earlier ++ last ∷ [])
late_last a [] last locks stays = tt
late_last a (event ∷ []) last locks stays = (in_time event locks stays.0, tt)
late_last a (event ∷ second ∷ earlier) last locks stays = (in_time event locks stays.0, late_last a (second ∷ earlier) last (locks_after a event locks) stays.1)
