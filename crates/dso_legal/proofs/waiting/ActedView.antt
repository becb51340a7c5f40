-- What a thread's act, with the record that it ends, makes of the waiters at its client: they stand as they should.
use Rattle.std.proofs.Common.{ℕ, ◌≡◌, ◌≢◌, refl, sym, ◌∙◌, ap, subst, Bool, true, false, cond, is_some, Option, Some, None, List, [], ◌∷◌, ◌++◌}
use Rattle.std.proofs.lemmas.List.{append-nil}
use Rattle.dso_base.specs.declared.journal.Entry.{Entry}
use Rattle.dso_base.specs.declared.lock.Level.TheVariants.{Write}
use Rattle.dso_base.specs.declared.lock.LockName.{LockName}
use Rattle.dso_base.specs.declared.lock.ThreadId.{ThreadId}
use Rattle.dso_base.specs.declared.record.Ending.{Ending}
use Rattle.dso_base.specs.declared.record.Note.{Note}
use Rattle.dso_base.specs.declared.request.Event.{Event}
use Rattle.dso_base.specs.declared.request.Event.TheVariants.{Act}
use Rattle.dso_base.specs.declared.request.Reply.{Reply}
use Rattle.dso_base.specs.declared.request.Request.{Request}
use Rattle.dso_base.specs.Following.{is_thread}
use Rattle.dso_plain.specs.KeyTests.{is_lock}
use Rattle.dso_plain.proofs.keys.SameKeys.{same_thread, thread_self}
use Rattle.dso_law.specs.ClientWaiters.{list_by_act, client_list, marked_by_act, is_marked}
use Rattle.dso_law.specs.FitsDown.{IsWaitingOn}
use Rattle.dso_law.specs.Leases.{leased}
use Rattle.dso_law.specs.Replies.{reply_of}
use Rattle.dso_law.specs.RequestNeeds.{hold_level, unmet}
use Rattle.dso_law.specs.Settings.{Settings}
use Rattle.dso_law.specs.Threads.{Locks, Waiting, hold_in, resumed, locks_by, locks_of, ending_by, block_after, open_block}
use Rattle.dso_legal.specs.Places.{Place, places_noted, place_ended, place_of}
use Rattle.dso_legal.specs.SoundProgram.{IsOfWaiter, KeepsLocks}
use Rattle.dso_legal.proofs.blocks.OpenLocks.{set_there}
use Rattle.dso_legal.proofs.blocks.WaitsApart.{HoldsApart, does_wait}
use Rattle.dso_legal.proofs.leases.Queues.{lock_self}
use Rattle.dso_legal.proofs.waiting.BlockNotes.{notes_of, notes_both}
use Rattle.dso_legal.proofs.waiting.ClientView.{View, level_of, Waits, is_in, OneHolds, IsQuiet}
use Rattle.dso_legal.proofs.waiting.HandedIn.{HandsIn}
use Rattle.dso_legal.proofs.waiting.NotedPlaces.{names_lock}

-- how the waiters stand by a client's entries
abbrev pub view_of : List Entry → View
view_of own = record {
  place = λ l t. place_of l t own;
  list = λ l. client_list l own;
  notes = λ t. notes_of (open_block t own);
  locks = λ t. locks_of t own;
  marked = λ t. is_marked t own;
  lease = λ l. leased l own;
}

-- where a thread stands once a's act is done and its record sent, if it ends a block
abbrev pub place_handed : LockName → ThreadId → ThreadId → Option Ending → List Note → Place → Place
place_handed l t a None notes s = s
place_handed l t a (Some end) notes s = place_ended l t a end (places_noted l t notes s)

-- how the waiters stand once an act of a is done and its record sent
abbrev pub acted : List Entry → ThreadId → Request → Reply → Option ThreadId → View
acted own a request reply woken = record {
  place = λ l t. place_handed l t a (ending_by request reply (locks_of a own)) (notes_of (open_block a own)) (place_of l t own);
  list = λ l. list_by_act l a request reply woken (client_list l own);
  notes = λ u. notes_of (cond (is_thread u a) (block_after (Act a request reply woken) (locks_of u own) (open_block u own)) (open_block u own));
  locks = λ u. cond (is_thread u a) (locks_by request reply (locks_of u own)) (locks_of u own);
  marked = λ u. marked_by_act u own a request reply woken (is_marked u own);
  lease = λ l. leased l own;
}

-- two locks are one or not
pub waits_on_one : (l k : LockName) (waiting : Option Waiting) → IsWaitingOn l waiting → IsWaitingOn k waiting → is_lock l k ≡ true
waits_on_one l k None one two = absurd one
waits_on_one l k (Some waiting) one two = subst (λ x. is_lock l x ≡ true) (sym one ∙ two) (lock_self l)

-- who goes on waits no more
pub not_waiting : (k : LockName) (waiting : Option Waiting) (locks : Locks) → IsWaitingOn k waiting → (resumed k waiting locks).waiting ≡ None
not_waiting k None locks waits = absurd waits
not_waiting k (Some waiting) locks waits = refl

-- and holds the lock at Write
pub holds_again : (k : LockName) (waiting : Option Waiting) (locks : Locks) → IsWaitingOn k waiting → hold_level (hold_in k (resumed k waiting locks).holds) ≡ Some Write
holds_again k None locks waits = absurd waits
holds_again k (Some waiting) locks waits = ap hold_level (set_there k (Some (record { level = Write; count = waiting.count })) locks.holds)

-- an act that only a waiting thread does not do is of one that doesn't wait
pub none_waiting : {P : Type 0} (l : LockName) (waiting : Option Waiting) → IsWaitingOn l waiting → (waiting ≢ None → ⊥) → P
none_waiting l waiting waits awake = absurd (awake (does_wait l waiting waits))

module _ (own : List Entry) (l : LockName) (a : ThreadId) (request : Request) (reply : Reply) (woken : Option ThreadId) where
  abbrev before : View
  before = view_of own

  abbrev now : View
  now = acted own a request reply woken

  abbrev event : Event
  event = Act a request reply woken

  -- a's locks before and after
  abbrev held : Locks
  held = locks_of a own

  abbrev held_now : Locks
  held_now = locks_by request reply (locks_of a own)

  -- what is so of a is so of the thread that is a
  at_own : (P : Locks → Locks → Type 0) (t : ThreadId) → is_thread t a ≡ true → P held held_now → P (locks_of t own) (cond (is_thread t a) (locks_by request reply (locks_of t own)) (locks_of t own))
  at_own P t same is = subst (λ b. P (locks_of t own) (cond b (locks_by request reply (locks_of t own)) (locks_of t own))) (sym same)
      (subst (λ x. P (locks_of x own) (locks_by request reply (locks_of x own))) (same_thread t a same) is)

  -- and of another what is so where nothing changes
  at_other : (P : Locks → Locks → Type 0) (t : ThreadId) → is_thread t a ≡ false → P (locks_of t own) (locks_of t own) → P (locks_of t own) (cond (is_thread t a) (locks_by request reply (locks_of t own)) (locks_of t own))
  at_other P t other is = subst (λ b. P (locks_of t own) (cond b (locks_by request reply (locks_of t own)) (locks_of t own))) (sym other) is

  pub at_each : (P : Locks → Locks → Type 0) → P held held_now → ((x : Locks) → P x x) → (t : ThreadId) → P (locks_of t own) (cond (is_thread t a) (locks_by request reply (locks_of t own)) (locks_of t own))
  at_each P is same t = by (is_thread t a) refl
    where
      by : (b : Bool) → is_thread t a ≡ b → P (locks_of t own) (cond (is_thread t a) (locks_by request reply (locks_of t own)) (locks_of t own))
      by true one = at_own P t one is
      by false other = at_other P t other (same (locks_of t own))

  -- the locks of others
  pub others_locks : (u : ThreadId) → is_thread u a ≡ false → level_of l now u ≡ level_of l before u
  others_locks u other = at_other (λ x y. hold_level (hold_in l y.holds) ≡ hold_level (hold_in l x.holds)) u other refl

  -- the notifications of others
  pub others_notes : (u : ThreadId) → is_thread u a ≡ false → now.notes u ≡ before.notes u
  others_notes u other = ap (λ b. notes_of (cond b (block_after event (locks_of u own) (open_block u own)) (open_block u own))) other

  -- An act that ends no block, and leaves the waiters.
  pub record Leaves : Type 0 where
    pub ends : ending_by request reply held ≡ None
    pub silent : names_lock l (notes_of (event ∷ [])) ≡ false
    pub list : (t : ThreadId) → is_in l now t ≡ is_in l before t
    pub holds : hold_level (hold_in l held.holds) ≡ Some Write → hold_level (hold_in l held_now.holds) ≡ Some Write
    pub waits : IsWaitingOn l held.waiting → IsWaitingOn l held_now.waiting
    pub waited : IsWaitingOn l held_now.waiting → IsWaitingOn l held.waiting
    pub marked : (t : ThreadId) → Waits l before t → now.marked t ≡ before.marked t

  pub leaves_quiet : Leaves → IsQuiet l before now
  leaves_quiet h = record {
    place = λ t. ap (λ end. place_handed l t a end (notes_of (open_block a own)) (place_of l t own)) h.ends;
    list = h.list;
    lease = λ t there. refl;
    more = λ u. cond (is_thread u a) (notes_of (event ∷ [])) [];
    notes = λ u. by u (is_thread u a) refl;
    others = λ u. none (is_thread u a);
    holds = at_each (λ x y. hold_level (hold_in l x.holds) ≡ Some Write → hold_level (hold_in l y.holds) ≡ Some Write) h.holds (λ x held. held);
    waits = at_each (λ x y. IsWaitingOn l x.waiting → IsWaitingOn l y.waiting) h.waits (λ x waits. waits);
    waited = at_each (λ x y. IsWaitingOn l y.waiting → IsWaitingOn l x.waiting) h.waited (λ x waits. waits);
    marked = h.marked;
  }
    where
      by : (u : ThreadId) (b : Bool) → is_thread u a ≡ b → notes_of (cond b (block_after event (locks_of u own) (open_block u own)) (open_block u own)) ≡ notes_of (open_block u own) ++ cond b (notes_of (event ∷ [])) []
      by u true same = ap (λ end. notes_of (cond (is_some end) [] (open_block u own ++ event ∷ []))) (subst (λ x. ending_by request reply (locks_of x own) ≡ None) (same_thread u a same) h.ends) ∙ notes_both (open_block u own) (event ∷ [])
      by u false other = sym (append-nil (notes_of (open_block u own)))

      none : (b : Bool) → names_lock l (cond b (notes_of (event ∷ [])) []) ≡ false
      none true = h.silent
      none false = refl

  -- An act that ends a block, but puts nobody in the lists of the lock and takes nobody out.
  pub record Ends (end : Ending) : Type 0 where
    pub ends : ending_by request reply held ≡ Some end
    pub leaves : (t : ThreadId) (s : Place) → place_ended l t a end s ≡ s
    pub list : now.list l ≡ before.list l
    pub waits : IsWaitingOn l held.waiting → IsWaitingOn l held_now.waiting
    pub waited : IsWaitingOn l held_now.waiting → IsWaitingOn l held.waiting
    pub marked : (t : ThreadId) → Waits l before t → now.marked t ≡ before.marked t

  pub own_notes : (end : Ending) → ending_by request reply held ≡ Some end → now.notes a ≡ []
  own_notes end ends = ap (λ b. notes_of (cond b (block_after event (locks_of a own) (open_block a own)) (open_block a own))) (thread_self a) ∙ ap (λ end. notes_of (cond (is_some end) [] (open_block a own ++ event ∷ []))) ends

  pub ends_hands : (end : Ending) → Ends end → HandsIn l a before now
  ends_hands end h = record {
    place = λ t. ap (λ end. place_handed l t a end (notes_of (open_block a own)) (place_of l t own)) h.ends ∙ h.leaves t (places_noted l t (notes_of (open_block a own)) (place_of l t own));
    list = h.list;
    lease = refl;
    own = own_notes end h.ends;
    notes = others_notes;
    holds = others_locks;
    waits = at_each (λ x y. IsWaitingOn l x.waiting → IsWaitingOn l y.waiting) h.waits (λ x waits. waits);
    waited = at_each (λ x y. IsWaitingOn l y.waiting → IsWaitingOn l x.waiting) h.waited (λ x waits. waits);
    marked = h.marked;
  }

  -- What is known of the act, and of the holds around it.
  pub record IsFair (p : Settings) (c : ℕ) (next : ThreadId → Option Request) : Type 0 where
    pub waits : held.waiting ≢ None → IsOfWaiter request
    pub keeps : KeepsLocks request held
    pub met : unmet p c next a request own ≡ None
    pub answered : reply_of p a request own ≡ Some reply
    pub apart : HoldsApart held
    pub one : OneHolds l before
    pub one_now : OneHolds l now
    pub leased : (u : ThreadId) → level_of l before u ≡ Some Write → leased l own ≡ Some Write
