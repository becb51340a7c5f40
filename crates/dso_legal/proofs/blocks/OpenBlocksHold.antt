-- The open blocks of a client's threads, run from the state at the client: what a thread holds there it holds still, by the
-- client's entries; so what is held there, and what an open block touches, is within the client's leases.
use Rattle.std.proofs.Common.{ℕ, ◌≡◌, refl, sym, ◌∙◌, ap, subst, Bool, true, false, cond, List, [], ◌∷◌, ◌++◌}
use Rattle.std.specs.Prelude.{Option, Some}
use Rattle.dso_base.specs.declared.journal.Entry.{Entry}
use Rattle.dso_base.specs.declared.journal.Node.TheVariants.{Server, Client}
use Rattle.dso_base.specs.declared.lock.Level.{Level}
use Rattle.dso_base.specs.declared.lock.LockName.{LockName}
use Rattle.dso_base.specs.declared.lock.ThreadId.{ThreadId}
use Rattle.dso_base.specs.declared.record.Ending.{Ending}
use Rattle.dso_base.specs.declared.request.Event.{Event}
use Rattle.dso_base.specs.declared.request.Event.TheVariants.{Act, Lost}
use Rattle.dso_base.specs.declared.request.Request.{Request}
use Rattle.dso_base.specs.declared.shape.Shape.{Shape}
use Rattle.dso_plain.specs.State.{PlainState, level_of}
use Rattle.dso_plain.specs.History.{RunsButMarks, end_of, is_act_of, events_of}
use Rattle.dso_plain.specs.Touches.{TouchesIn, IsActOf, AreActsOf}
use Rattle.dso_law.specs.Settings.{Settings}
use Rattle.dso_law.specs.Entries.{entries_of}
use Rattle.dso_law.specs.Leases.{leased}
use Rattle.dso_law.specs.RequestNeeds.{is_enough}
use Rattle.dso_law.specs.ServerReadings.{is_lost, counted}
use Rattle.dso_law.specs.Granting.{standing_with}
use Rattle.dso_law.specs.Threads.{Locks, locks_by, locks_after, ending_of, locks_of, open_block}
use Rattle.dso_legal.specs.Agreement.{messages}
use Rattle.dso_law.specs.Channels.{up_in_flight}
use Rattle.dso_legal.specs.Blocks.{KeepsThread}
use Rattle.dso_legal.specs.Committed.{ended_blocks}
use Rattle.dso_legal.specs.Lawful.{AllFollow}
use Rattle.dso_legal.specs.PendingBlocks.{joined, no_locks, locks_through}
use Rattle.dso_legal.specs.Works.{HaveLocks}
use Rattle.dso_legal.proofs.leases.Holds.{holds_well}
use Rattle.dso_legal.proofs.line.LineParts.{leases_shrink}
use Rattle.dso_legal.proofs.line.LineSent.{HoldsLeased, lease_at_end}
use Rattle.dso_legal.proofs.blocks.OpenLocks.{IsHeldAt, IsHeldFor}
use Rattle.dso_legal.proofs.blocks.OpenRuns.{HoldsItsTouches, open_run, held_so, held_within, parts_touched}
use Rattle.dso_legal.proofs.leases.Tokens.{locks_agree}

-- the locks after two lists of events
pub through_append : (t : ThreadId) (xs ys : List Event) (locks : Locks) → locks_through t (xs ++ ys) locks ≡ locks_through t ys (locks_through t xs locks)
through_append t [] ys locks = refl
through_append t (e ∷ xs) ys locks = through_append t xs ys (locks_after t e locks)

-- another's event leaves a thread's locks
others_leave : (t : ThreadId) (e : Event) (locks : Locks) → is_act_of t e ≡ false → locks_after t e locks ≡ locks
others_leave t (Act thread request reply woken) locks other = ap (λ b. cond b (locks_by request reply locks) locks) other
others_leave t (Lost client) locks other = refl

-- the locks after the thread's own events are those after all
pub through_own : (t : ThreadId) (xs : List Event) (locks : Locks) → locks_through t (events_of t xs) locks ≡ locks_through t xs locks
through_own t [] locks = refl
through_own t (e ∷ xs) locks = by (is_act_of t e) refl (through_own t xs)
  where
    by : (b : Bool) → is_act_of t e ≡ b → ((locks : Locks) → locks_through t (events_of t xs) locks ≡ locks_through t xs locks)
        → locks_through t (cond b (e ∷ events_of t xs) (events_of t xs)) locks ≡ locks_through t xs (locks_after t e locks)
    by true is rest = rest (locks_after t e locks)
    by false other rest = rest locks ∙ ap (locks_through t xs) (sym (others_leave t e locks other))

-- the locks with which the thread's open block starts
abbrev pub locks_before : ThreadId → List Entry → Locks
locks_before t own = locks_through t (joined (ended_blocks own)) no_locks

-- the thread's locks are those after its open block
pub locks_now : (shape : Shape) (t : ThreadId) (own : List Entry) → KeepsThread shape t own → locks_through t (open_block t own) (locks_before t own) ≡ locks_of t own
locks_now shape t own keeps = ap (locks_through t (open_block t own)) (sym (through_own t (joined (ended_blocks own)) no_locks))
    ∙ sym (through_append t (events_of t (joined (ended_blocks own))) (open_block t own) no_locks)
    ∙ ap (λ events. locks_through t events no_locks) keeps.events ∙ sym keeps.locks

-- A thread's open block can run from the state, in which the thread has the locks with which it starts.
pub record OpensFrom (shape : Shape) (t : ThreadId) (own : List Entry) (s : PlainState) : Type 0 where
  pub keeps : KeepsThread shape t own
  pub have : HaveLocks t (locks_before t own) s
  pub runs : RunsButMarks shape (open_block t own) s

-- the open block as a run without endings
pub opens_run : (shape : Shape) (t : ThreadId) (own : List Entry) (s : PlainState) → OpensFrom shape t own s → HoldsItsTouches shape t (open_block t own) s (locks_before t own)
opens_run shape t own s opens = open_run shape t (open_block t own) s (locks_before t own) opens.keeps.acts opens.runs opens.have opens.keeps.stays

module _ (p : Settings) (next : ThreadId → List Event → Option Request) (es : List Entry) (follow : AllFollow p next es) (c : ℕ) where
  abbrev own : List Entry
  own = entries_of (Client c) es

  -- what a thread of the client holds by its entries is within the client's leases
  pub hold_leased : (t : ThreadId) (l : LockName) (x : Level) → IsHeldAt l x (locks_of t own) → is_enough x (leased l own) ≡ true
  hold_leased t l x e =
      let so = held_so l x (locks_of t own) e in
      subst (λ y. is_enough y (leased l own) ≡ true) so.level ((holds_well p next es follow c).within t l so.hold so.held).enough

  -- and what it is held for
  pub held_leased : (t : ThreadId) (l : LockName) (x : Level) → IsHeldFor l x (locks_of t own) → is_enough x (leased l own) ≡ true
  held_leased t l x e = held_within (locks_of t own) (λ l. record { lease = leased l own; is_asked = false }) (hold_leased t) l x e

  module _ (t : ThreadId) (s : PlainState) (opens : OpensFrom p.shape t own s) where
    -- the thread has its locks at the end of its open block
    pub have_now : HaveLocks t (locks_of t own) (end_of p.shape (open_block t own) s)
    have_now = subst (λ locks. HaveLocks t locks (end_of p.shape (open_block t own) s)) (locks_now p.shape t own opens.keeps) (opens_run p.shape t own s opens).have

    -- what it holds in the state it holds still
    pub holds_still : (l : LockName) (x : Level) → level_of (s.monitors (l, t)) ≡ Some x → IsHeldAt l x (locks_of t own)
    holds_still l x e = subst (IsHeldAt l x) (locks_now p.shape t own opens.keeps) ((opens_run p.shape t own s opens).keeps l x (sym (ap level_of (opens.have.holds l)) ∙ e))

    -- what its open block touches it holds
    pub open_touches : (l : LockName) (x : Level) → TouchesIn p.shape (open_block t own) s l x → IsHeldFor l x (locks_of t own)
    open_touches l x h = subst (IsHeldFor l x) (locks_now p.shape t own opens.keeps) ((opens_run p.shape t own s opens).touched l x h)

    -- so it does what the block with an ending behind it touches
    pub ended_touches : (ending : Ending) (event : Event) → IsActOf t event → ending_of event (locks_of t own) ≡ Some ending → AreActsOf t (open_block t own ++ event ∷ []) → RunsButMarks p.shape (open_block t own ++ event ∷ []) s
        → (l : LockName) (x : Level) → TouchesIn p.shape (open_block t own ++ event ∷ []) s l x → IsHeldFor l x (locks_of t own)
    ended_touches ending event its ends acts runs l x h = subst (IsHeldFor l x) (locks_now p.shape t own opens.keeps)
        (parts_touched p.shape t ending (open_block t own) event s (locks_before t own) acts runs opens.have opens.keeps.stays (ap (ending_of event) (locks_now p.shape t own opens.keeps) ∙ ends) l x h)

  -- What the client's threads hold in the state is within its leases, where the open block of each runs from there.
  pub holds_leased : (s : PlainState) → ((t : ThreadId) → t.client ≡ c → OpensFrom p.shape t own s) → HoldsLeased c own s
  holds_leased s opens t l x its e = hold_leased t l x (holds_still t s (opens t its) l x e)

  -- what the client has leased the server has lent
  pub lease_is_lent : (l : LockName) (x : Level) → is_lost c (entries_of Server es) ≡ false → is_enough x (leased l own) ≡ true → is_enough x (standing_with c l (counted (entries_of Server es))).lease ≡ true
  lease_is_lent l x alive e = leases_shrink (messages (up_in_flight c es)) (λ l. standing_with c l (counted (entries_of Server es))) l x (lease_at_end c l es x (locks_agree p next c l es follow alive) e)
