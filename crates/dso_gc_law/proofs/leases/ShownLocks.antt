-- After a journal of a sound program each lock that a client has a lease of, asks for, or has a thread waiting on was
-- shown to the client, if the client isn't lost.
use Rattle.std.specs.List.{list_any}
use Rattle.std.proofs.Common.{ℕ, ◌≡◌, ◌≢◌, ◌⊎◌, inl, inr, refl, sym, ap, subst, ◌∙◌, Bool, true, false, cond, eqb}
use Rattle.std.proofs.Common.{Option, Some, None, List, [], ◌∷◌}
use Rattle.dso_base.specs.declared.journal.Entry.{Entry}
use Rattle.dso_base.specs.declared.journal.Input.{Input}
use Rattle.dso_base.specs.declared.journal.Input.TheVariants as input
use Rattle.dso_base.specs.declared.journal.Node.{Node}
use Rattle.dso_base.specs.declared.journal.Node.TheVariants.{Server, Client}
use Rattle.dso_base.specs.declared.lock.LockName.{LockName}
use Rattle.dso_base.specs.declared.lock.LockName.TheVariants.{Mon, Name}
use Rattle.dso_base.specs.declared.lock.ThreadId.{ThreadId}
use Rattle.dso_base.specs.declared.message.Down.TheVariants as down
use Rattle.dso_base.specs.declared.request.Event.{Event}
use Rattle.dso_base.specs.declared.request.Reply.{Reply}
use Rattle.dso_base.specs.declared.request.Reply.TheVariants.{Done}
use Rattle.dso_base.specs.declared.request.Request.{Request}
use Rattle.dso_base.specs.declared.request.Request.TheVariants.{Enter, Exit, Wait, Resume}
use Rattle.dso_base.specs.Following.{is_thread}
use Rattle.dso_plain.specs.KeyTests.{is_lock}
use Rattle.dso_plain.specs.State.{Hold}
use Rattle.dso_plain.proofs.keys.SameKeys.{same_number, same_lock}
use Rattle.dso_law.specs.declared.readings.LockStanding.{LockStanding}
use Rattle.dso_law.specs.Settings.{Settings}
use Rattle.dso_law.specs.Entries.{unsent, entries_of, events_in, by_event, by_taken_down}
use Rattle.dso_law.specs.Threads.{Locks, Waiting, resumed, locks_by, locks_after, locks_of, hold_of, is_local}
use Rattle.dso_law.specs.Leases.{standing_up, standing_down, standing, leased, is_asked_for}
use Rattle.dso_law.specs.Closing.{due}
use Rattle.dso_law.specs.FitsDown.{IsWaitingOn}
use Rattle.dso_law.specs.RequestNeeds.{hold_level}
use Rattle.dso_law.specs.Replies.{monitor_reply, reply_of}
use Rattle.dso_law.specs.ServerReadings.{is_lost}
use Rattle.dso_law.specs.ClientStep.{ClientStepOn}
use Rattle.dso_law.specs.ClientRun.{next_in}
use Rattle.dso_law.proofs.runs.OwnRequests.{same_due}
use Rattle.dso_legal.specs.Lawful.{next_after, AllFollow}
use Rattle.dso_legal.specs.SoundProgram.{AsksSoundly, KeepsTo, IsToldLock}
use Rattle.dso_legal.proofs.blocks.OwnActs.{IsNextAct, next_act}
use Rattle.dso_legal.proofs.blocks.SameLocks.{same_locks}
use Rattle.dso_legal.proofs.channels.AfterEntry.{own_turn, other_turn, server_turn}
use Rattle.dso_legal.proofs.channels.InFlight.{said_of, said_status}
use Rattle.dso_legal.proofs.fitting.Untold.{keeps_to}
use Rattle.dso_legal.proofs.journals.Facts.{is_there}
use Rattle.dso_legal.proofs.leases.Holds.{holds_well, enough_there}
use Rattle.dso_legal.proofs.leases.LeasesInFlight.{no_lease_ups}
use Rattle.dso_legal.proofs.leases.Tokens.{known}
use Rattle.dso_legal.proofs.records.BothEnds.{not_lost_before}
use Rattle.dso_gc_law.proofs.leases.Touched.{due_is_leased}
use Rattle.dso_gc_law.proofs.leases.Asking.{Wants, IsAsked, what_is_asked}
use Rattle.dso_gc_law.proofs.leases.AskedInRuns.{NoneIsLocal, NoneAreLocal, AskedAreUnleased}
use Rattle.dso_gc_law.proofs.leases.Shown.{LockShown, shown_not_local, shown_now, own_rule, lock_still_shown}

-- By a client's entries each lock that it has a lease of, asks for, or has a thread waiting on was shown to it.
pub record AllShown (p : Settings) (c : ℕ) (its : List Entry) : Type 0 where
  pub of_lease : (l : LockName) → leased l its ≢ None → LockShown p c l its
  pub of_ask : (l : LockName) → is_asked_for l its ≡ true → LockShown p c l its
  pub of_wait : (t : ThreadId) → t.client ≡ c → (l : LockName) → IsWaitingOn l (locks_of t its).waiting
      → LockShown p c l its

-- ---- a lock that a thread wants

module _ (p : Settings) (next : ThreadId → List Event → Option Request) (sound : AsksSoundly p.shape next)
    (es : List Entry) (follow : AllFollow p next es) where
  -- each lock that a thread of the client waits on was shown
  abbrev WaitsShown : ℕ → Type 0
  WaitsShown c = (t : ThreadId) → t.client ≡ c → (l : LockName)
      → IsWaitingOn l (locks_of t (entries_of (Client c) es)).waiting → LockShown p c l (entries_of (Client c) es)

  module _ (t : ThreadId) (alive : is_lost t.client (entries_of Server es) ≡ false) (waits : WaitsShown t.client) where
    -- the entries of its client
    abbrev own_entries : List Entry
    own_entries = entries_of (Client t.client) es

    -- one that it enters, and that isn't local to it
    entered_shown : (l : LockName) → IsToldLock l (events_in t own_entries) → is_local p.shape t l own_entries ≡ false
        → LockShown p t.client l own_entries
    entered_shown (Mon o) told public = shown_now p next sound es follow t alive o told.1 public
    entered_shown (Name n) told public = tt

    -- so each that it wants
    wanted_there : (l : LockName) (request : Option Request) → next_after next es t ≡ request
        → Wants p l t request own_entries → LockShown p t.client l own_entries
    wanted_there l None asked wants = absurd wants
    wanted_there l (Some (Enter k level)) asked wants =
        let may : KeepsTo p.shape t (events_in t own_entries) (Enter k level) = keeps_to p next sound es follow t
        (Enter k level) asked in
        entered_shown l (subst (λ n. IsToldLock n (events_in t own_entries)) (same_lock l k wants.0) may.names)
        wants.1.0
    wanted_there l (Some (Resume k)) asked wants =
        let may : KeepsTo p.shape t (events_in t own_entries) (Resume k) = keeps_to p next sound es follow t
        (Resume k) asked in
        waits t refl l (subst (λ n. IsWaitingOn n (locks_of t own_entries).waiting) (same_lock l k wants)
        (subst (λ (locks : Locks). IsWaitingOn k locks.waiting) (sym (same_locks t own_entries)) may.locks))
    wanted_there l (Some request) asked wants = absurd wants

  -- of a thread of the client
  wanted_shown : (c : ℕ) → is_lost c (entries_of Server es) ≡ false → WaitsShown c → (t : ThreadId) → t.client ≡ c
      → (l : LockName)
      → Wants p l t (next_after next es t) (entries_of (Client c) es) → LockShown p c l (entries_of (Client c) es)
  wanted_shown c alive waits t its l =
      subst (λ n. is_lost n (entries_of Server es) ≡ false → WaitsShown n → Wants p l t (next_after next es t)
      (entries_of (Client n) es) → LockShown p n l (entries_of (Client n) es)) its
      (λ alive waits wants. wanted_there t alive waits l (next_after next es t) refl wants) alive waits

-- ---- what an act makes of a wait

-- a thread that waits on a lock after an act did so before it, or the act is a wait on it that was done
waits_by : (l : LockName) (request : Request) (reply : Reply) (locks : Locks)
    → IsWaitingOn l (locks_by request reply locks).waiting
    → IsWaitingOn l locks.waiting ⊎ ((request ≡ Wait l) × (reply ≡ Done))
waits_by l (Wait k) Done locks is = inr (ap Wait is, refl)
waits_by l (Resume k) Done locks is = by locks.waiting refl is
  where
    by : (waiting : Option Waiting) → locks.waiting ≡ waiting → IsWaitingOn l (resumed k waiting locks).waiting
        → IsWaitingOn l locks.waiting ⊎ ((Resume k ≡ Wait l) × (Done ≡ Done))
    by None was is = inl is
    by (Some waiting) was is = absurd is
waits_by l (Enter k level) Done locks is = inl is
waits_by l (Exit k) Done locks is = inl is
waits_by l request reply locks is = inl is

-- a wait that was done is of a lock that is held
held_if_done : (hold : Option Hold) → Some (monitor_reply (hold_level hold)) ≡ Some Done
    → (held : Hold) × (hold ≡ Some held)
held_if_done None answered = absurd (cc answered)
held_if_done (Some hold) answered = (hold, refl)

-- ---- one more entry of the client

module _ (p : Settings) (next : ThreadId → List Event → Option Request) (sound : AsksSoundly p.shape next) (e : Entry)
    (es : List Entry) (follow : AllFollow p next (e ∷ es))
    (c : ℕ) (node : e.node ≡ Client c) (alive : is_lost c (entries_of Server es) ≡ false)
    (all : AllShown p c (entries_of (Client c) es)) where
  -- the client's entries before it, and the next requests before and after it
  abbrev its : List Entry
  its = entries_of (Client c) es

  abbrev before : ThreadId → Option Request
  before = next_after next es

  abbrev later : ThreadId → Option Request
  later = next_after next (e ∷ es)

  -- the client rule
  step : ClientStepOn p c e.input before later e its
  step = (own_rule p next sound e es follow c node alive).step

  -- what was shown is shown still
  still : (l : LockName) → LockShown p c l its → LockShown p c l (e ∷ its)
  still = lock_still_shown p next sound e es follow c node alive

  -- a lock leased with what the entry takes was leased or asked for before
  leased_with : (l : LockName) (i : Input) → ClientStepOn p c i before later e its
      → (by_taken_down (standing_down l) i (standing l its)).lease ≢ None
      → (leased l its ≢ None) ⊎ (is_asked_for l its ≡ true)
  leased_with l (input.TookDown (down.Grant k level)) h some = by (is_lock l k) refl some
    where
      by : (b : Bool) → is_lock l k ≡ b
          → (cond b (record { lease = Some level; is_asked = false }) (standing l its)).lease ≢ None
          → (leased l its ≢ None) ⊎ (is_asked_for l its ≡ true)
      by true same some = inr (subst (λ n. is_asked_for n its ≡ true) (same_lock l k same) h.fits)
      by false other some = inl some
  leased_with l (input.TookDown m) h some = inl some
  leased_with l i h some = inl some

  -- so it was shown
  taken_shown : (l : LockName) → leased l (unsent e ∷ its) ≢ None → LockShown p c l (e ∷ its)
  taken_shown l some = elim (leased_with l e.input step some) [
    | inl lease ↦ still l (all.of_lease l lease)
    | inr ask ↦ still l (all.of_ask l ask)
  ]

  -- a lock leased behind the entry was so before it sent
  lease_later : (l : LockName) → leased l (e ∷ its) ≢ None → LockShown p c l (e ∷ its)
  lease_later l some = taken_shown l
      (λ none. some
      (ap (λ (s : LockStanding). s.lease) (said_status (standing_up l) e.sent (standing l (unsent e ∷ its)))
      ∙ no_lease_ups l (said_of e.sent) (standing l (unsent e ∷ its)) none))

  -- a lock that is due has a lease then
  due_shown : (l : LockName) → list_any (is_lock l) (due p c later (unsent e ∷ its)) ≡ true → LockShown p c l (e ∷ its)
  due_shown l is = taken_shown l
      (is_there (leased l (unsent e ∷ its)) (due_is_leased p c later l (unsent e ∷ its) is))

  -- a lock that is asked for behind the entry
  ask_later : (l : LockName) → is_asked_for l (e ∷ its) ≡ true → LockShown p c l (e ∷ its)
  ask_later l is = by (what_is_asked p c before later e its l step is)
    where
      by : IsAsked p c before later e its l → LockShown p c l (e ∷ its)
      by (inl was) = still l (all.of_ask l was)
      by (inr (inl need)) = still l
          (wanted_shown p next sound es follow.0 c alive all.of_wait need.thread need.its.client l need.wants)
      by (inr (inr again)) = due_shown l again.due

  -- and one that a thread waits on
  wait_later : (t : ThreadId) → t.client ≡ c → (l : LockName) → IsWaitingOn l (locks_of t (e ∷ its)).waiting
      → LockShown p c l (e ∷ its)
  wait_later t mate l = by (next_act p c before later e its step)
    where
      acted : (act : IsNextAct p c before e its) (request : Request) (reply : Reply) → act.request ≡ request
          → act.reply ≡ reply → request ≡ Wait l → reply ≡ Done → LockShown p c l (e ∷ its)
      acted act request reply is answer wait done =
          let answered : Some (monitor_reply (hold_level (hold_of act.thread l its))) ≡ Some Done =
          sym (ap (λ r. reply_of p act.thread r its) (is ∙ wait)) ∙ act.answered ∙ ap Some (answer ∙ done) in
          let held = held_if_done (hold_of act.thread l its) answered in
          still l (all.of_lease l
          (enough_there held.0.level (leased l its)
          ((holds_well p next es follow.0 c).within act.thread l held.0 held.1).enough))

      if_its : (act : IsNextAct p c before e its) (b : Bool) → is_thread t act.thread ≡ b
          → IsWaitingOn l (cond b (locks_by act.request act.reply (locks_of t its)) (locks_of t its)).waiting
          → LockShown p c l (e ∷ its)
      if_its act true same is = elim (waits_by l act.request act.reply (locks_of t its) is) [
        | inl was ↦ still l (all.of_wait t mate l was)
        | inr now ↦ acted act act.request act.reply refl refl now.0 now.1
      ]
      if_its act false other is = still l (all.of_wait t mate l is)

      by : (e.event ≡ None) ⊎ IsNextAct p c before e its → IsWaitingOn l (locks_of t (e ∷ its)).waiting
          → LockShown p c l (e ∷ its)
      by (inl none) is = still l
          (all.of_wait t mate l
          (subst (λ event. IsWaitingOn l (by_event (locks_after t) event (locks_of t its)).waiting) none is))
      by (inr act) is = if_its act (is_thread t act.thread) refl
          (subst (λ event. IsWaitingOn l (by_event (locks_after t) event (locks_of t its)).waiting) act.event is)

  -- So all are shown behind the entry.
  all_later : AllShown p c (e ∷ its)
  all_later = record { of_lease = lease_later; of_ask = ask_later; of_wait = wait_later }

  -- the next requests by the client's own entries
  abbrev now_own : ThreadId → Option Request
  now_own = next_in next (e ∷ its)

  -- they are those by the journal
  same_next : (t : ThreadId) → eqb t.client c ≡ true → later t ≡ now_own t
  same_next t own = ap (λ n. next t (events_in t (entries_of (Client n) (e ∷ es)))) (same_number t.client c own)
      ∙ ap (λ entries. next t (events_in t entries)) (own_turn c e es node).own

  -- none that is due is local
  none_is_local : NoneIsLocal p c next e its
  none_is_local t mate l is = shown_not_local p c l (e ∷ its)
      (due_shown l (ap (list_any (is_lock l)) (same_due p c later now_own same_next (unsent e ∷ its)) ∙ is)) t mate

-- ---- over a journal

-- What stands of a client's entries: all its locks were shown to it, none that is due is local, and none that is
-- asked for leased.
pub record LocksStand (p : Settings) (c : ℕ) (next : ThreadId → List Event → Option Request)
    (its : List Entry) : Type 0 where
  pub shown : AllShown p c its
  pub local : NoneAreLocal p c next its
  pub unleased : AskedAreUnleased its

module _ (p : Settings) (next : ThreadId → List Event → Option Request) (sound : AsksSoundly p.shape next)
    (c : ℕ) where
  -- before the first entry
  locks_start : LocksStand p c next []
  locks_start = record {
    shown = record {
      of_lease = λ l some. absurd (some refl);
      of_ask = λ l is. absurd
          (cc is);
      of_wait = λ t mate l is. absurd is;
    };
    local = tt;
    unleased = tt;
  }

  module _ (e : Entry) (es : List Entry) (follow : AllFollow p next (e ∷ es))
      (alive : is_lost c (entries_of Server es) ≡ false) (had : LocksStand p c next (entries_of (Client c) es)) where
    -- with one more entry of the client
    locks_own : e.node ≡ Client c → LocksStand p c next (e ∷ entries_of (Client c) es)
    locks_own node = record {
      shown = all_later p next sound e es follow c node alive had.shown;
      local = (had.local, none_is_local p next sound e es follow c node alive had.shown);
      unleased = (had.unleased, λ l. (known p next es follow.0).plain c l);
    }

    -- by the entry's node
    locks_at : (node : Node) → e.node ≡ node → LocksStand p c next (entries_of (Client c) (e ∷ es))
    locks_at Server is = subst (LocksStand p c next) (sym (server_turn c e es is).own) had
    locks_at (Client d) is = by (eqb c d) refl
      where
        by : (b : Bool) → eqb c d ≡ b → LocksStand p c next (entries_of (Client c) (e ∷ es))
        by true same =
            let mine : e.node ≡ Client c = is ∙ ap Client (sym (same_number c d same)) in
            subst (LocksStand p c next) (sym (own_turn c e es mine).own) (locks_own mine)
        by false other = subst (LocksStand p c next) (sym (other_turn c d e es is other).own) had

  -- So of each client that isn't lost.
  pub locks_stand : (es : List Entry) → AllFollow p next es → is_lost c (entries_of Server es) ≡ false
      → LocksStand p c next (entries_of (Client c) es)
  locks_stand [] follow alive = locks_start
  locks_stand (e ∷ es) follow alive =
      let before : is_lost c (entries_of Server es) ≡ false = not_lost_before c e.node e es alive in
      locks_at e es follow before (locks_stand es follow.0 before) e.node refl
