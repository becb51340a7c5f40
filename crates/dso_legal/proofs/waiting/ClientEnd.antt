-- The client's end of a waiter: what an entry of the client says may come where each thread stands, and the waiters of each lock stand
-- as they should behind it.
use Rattle.std.specs.List.{list_any}
use Rattle.std.proofs.Common.{ℕ, ◌≡◌, ◌≢◌, refl, sym, ◌∙◌, ap, subst, Bool, true, false, cond, ◌&&◌, ◌||◌, Option, Some, None, List, [], ◌∷◌, ◌++◌}
use Rattle.std.proofs.lemmas.List.{append-nil}
use Rattle.dso_base.specs.declared.journal.Entry.{Entry}
use Rattle.dso_base.specs.declared.journal.Input.TheVariants as input
use Rattle.dso_base.specs.declared.lock.Level.{Level}
use Rattle.dso_base.specs.declared.lock.LockName.{LockName}
use Rattle.dso_base.specs.declared.lock.ThreadId.{ThreadId}
use Rattle.dso_base.specs.declared.message.Down.{Down}
use Rattle.dso_base.specs.declared.message.Down.TheVariants as down
use Rattle.dso_base.specs.declared.record.Ending.{Ending}
use Rattle.dso_base.specs.declared.record.Ending.TheVariants as ending
use Rattle.dso_base.specs.declared.request.Event.{Event}
use Rattle.dso_base.specs.declared.request.Event.TheVariants.{Act}
use Rattle.dso_base.specs.declared.request.Reply.{Reply}
use Rattle.dso_base.specs.declared.request.Reply.TheVariants.{Done}
use Rattle.dso_base.specs.declared.request.Request.{Request}
use Rattle.dso_base.specs.declared.request.Request.TheVariants.{Exit, Wait, Timeout, Notify, NotifyAll, End}
use Rattle.dso_base.specs.Block.{worked, start}
use Rattle.dso_base.specs.Following.{is_thread}
use Rattle.dso_plain.specs.KeyTests.{is_lock}
use Rattle.dso_plain.proofs.keys.SameKeys.{same_lock, same_thread}
use Rattle.dso_law.specs.declared.readings.LockStanding.{LockStanding}
use Rattle.dso_law.specs.ClientStep.{record_of, commits}
use Rattle.dso_law.specs.ClientWaiters.{list_by_sent, client_list, is_marked}
use Rattle.dso_law.specs.Closing.{is_lease_due}
use Rattle.dso_law.specs.FitsDown.{IsWaitingOn}
use Rattle.dso_law.specs.Leases.{standing_up, standing, leased}
use Rattle.dso_law.specs.Replies.{woken_by}
use Rattle.dso_law.specs.RequestNeeds.{hold_level}
use Rattle.dso_law.specs.Settings.{Settings}
use Rattle.dso_law.specs.Threads.{Locks, hold_in, locks_of, ending_by, open_block, privates_before}
use Rattle.dso_legal.specs.Agreement.{after, EachMay}
use Rattle.dso_legal.specs.Places.{Place, Away, Kept, Gone, places_noted, place_ended, place_up, MayNote, MayEnd, MayPlaceUp, place_of}
use Rattle.dso_legal.specs.SoundProgram.{IsOfWaiter}
use Rattle.dso_legal.proofs.blocks.WaitsApart.{does_wait}
use Rattle.dso_legal.proofs.leases.LeaseSteps.{no_both}
use Rattle.dso_legal.proofs.waiting.BlockNotes.{note_by, notes_of, notes_both, block_notes}
use Rattle.dso_legal.proofs.waiting.ActedView.{view_of, place_handed, acted, waits_on_one, IsFair}
use Rattle.dso_legal.proofs.waiting.ClientView.{View, Waits, is_in, KeepsWaiters, quiet_keeps}
use Rattle.dso_legal.proofs.waiting.EachAct.{acts_keep}
use Rattle.dso_legal.proofs.waiting.EndingsInTime.{IsInTime}
use Rattle.dso_legal.proofs.waiting.EntryParts.{after_parts, SaysWell}
use Rattle.dso_legal.proofs.waiting.ListMoves.{fails, woken_keeps}

-- An act that ends a block makes no notification,
pub ending_silent : (request : Request) (reply : Reply) (woken : Option ThreadId) (locks : Locks) (end : Ending) → ending_by request reply locks ≡ Some end → note_by request reply woken ≡ []
ending_silent (Notify l) Done woken locks end ends = absurd (cc ends)
ending_silent (NotifyAll l) Done woken locks end ends = absurd (cc ends)
ending_silent request reply woken locks end ends = refl

-- and is done by a thread that doesn't wait, unless it times out
ends_awake : (request : Request) (reply : Reply) (locks : Locks) (end : Ending) → ending_by request reply locks ≡ Some end → IsInTime end → IsOfWaiter request → ⊥
ends_awake (Exit l) Done locks end ends in_time waiter = waiter
ends_awake (Wait l) Done locks end ends in_time waiter = waiter
ends_awake (End fault) Done locks end ends in_time waiter = waiter
ends_awake (Timeout l) Done locks end ends in_time waiter = subst IsInTime {x = end} {y = ending.Timeout l} (sym cc) in_time
ends_awake request reply locks end ends in_time waiter = absurd (cc ends)

-- who stands nowhere else is away
away_unless : (s : Place) → (s ≢ Away → ⊥) → s ≡ Away
away_unless Away isnt = refl
away_unless Kept isnt = absurd (isnt (λ e. cc e))
away_unless Gone isnt = absurd (isnt (λ e. cc e))

-- an ending of a thread that is away, unless it times out, may come
may_end : (t u : ThreadId) (end : Ending) (s : Place) → (IsInTime end → is_thread t u ≡ true → s ≡ Away) → MayEnd t u end s
may_end t u (ending.Exit l) s away = away tt
may_end t u (ending.Wait l) s away = away tt
may_end t u (ending.End fault) s away = away tt
may_end t u (ending.Timeout l) s away = tt

-- what is so of a view is so where its places, lists and leases are the same
same_keeps : (l : LockName) (v r : View) → ((t : ThreadId) → r.place l t ≡ v.place l t) → r.list l ≡ v.list l → r.lease l ≡ v.lease l → ((u : ThreadId) → r.notes u ≡ v.notes u) → ((u : ThreadId) → r.locks u ≡ v.locks u)
    → ((u : ThreadId) → r.marked u ≡ v.marked u) → KeepsWaiters l v → KeepsWaiters l r
same_keeps l v r place list lease notes locks marked k = quiet_keeps l v r (record {
  place = place;
  list = λ t. ap (list_any (is_thread t)) list;
  lease = λ t there. lease;
  more = λ u. [];
  notes = λ u. notes u ∙ sym (append-nil (v.notes u));
  others = λ u. refl;
  holds = λ u held. ap (λ (x : Locks). hold_level (hold_in l x.holds)) (locks u) ∙ held;
  waits = λ t waits. subst (λ (x : Locks). IsWaitingOn l x.waiting) (sym (locks t)) waits;
  waited = λ t waits. subst (λ (x : Locks). IsWaitingOn l x.waiting) (locks t) waits;
  marked = λ t waits. marked t;
}) k

-- An act with the record that it ends.
module _ (p : Settings) (c : ℕ) (next : ThreadId → Option Request) (own : List Entry) (a : ThreadId) (request : Request) (reply : Reply)
    (fair : (l : LockName) → IsFair own l a request reply (woken_by request reply own) p c next) (k : (l : LockName) → KeepsWaiters l (view_of own)) where
  abbrev woken : Option ThreadId
  woken = woken_by request reply own

  abbrev event : Event
  event = Act a request reply woken

  -- the notifications of the record
  record_notes : (end : Ending) → ending_by request reply (locks_of a own) ≡ Some end → (worked p.shape (open_block a own ++ event ∷ []) (start (privates_before p.shape a own))).notes ≡ notes_of (open_block a own)
  record_notes end ends =
      block_notes p.shape (open_block a own ++ event ∷ []) (privates_before p.shape a own) ∙ notes_both (open_block a own) (event ∷ [])
      ∙ ap (λ notes. notes_of (open_block a own) ++ (notes ++ [])) (ending_silent request reply woken (locks_of a own) end ends) ∙ append-nil (notes_of (open_block a own))

  -- where a thread stands behind the record
  place_behind : (l : LockName) (t : ThreadId) (end : Option Ending) → ending_by request reply (locks_of a own) ≡ end → (s : Place)
      → after (place_up l t) (record_of p a event end own) s ≡ place_handed l t a end (notes_of (open_block a own)) s
  place_behind l t None ends s = refl
  place_behind l t (Some end) ends s = ap (λ notes. place_ended l t a end (places_noted l t notes s)) (record_notes end ends)

  -- the record may come
  record_comes : (l : LockName) (t : ThreadId) (end : Option Ending) → ending_by request reply (locks_of a own) ≡ end → EachMay (MayPlaceUp l t) (place_up l t) (record_of p a event end own) (place_of l t own)
  record_comes l t None ends = tt
  record_comes l t (Some end) ends = ((subst (λ notes. MayNote l t notes (place_of l t own)) (sym (record_notes end ends)) ((k l).may a t), may_end t a end (place_of l t own) away), tt)
    where
      away : IsInTime end → is_thread t a ≡ true → place_of l t own ≡ Away
      away in_time same = away_unless (place_of l t own) (λ placed.
          let waits : Waits l (view_of own) a = subst (λ x. Waits l (view_of own) x) (sym (same_thread t a same)) ((k l).placed t placed) in
          ends_awake request reply (locks_of a own) end ends in_time ((fair l).waits (does_wait l (locks_of a own).waiting waits)))

  -- records leave lists and leases
  record_list : (l : LockName) (end : Option Ending) (ts : List ThreadId) → after (list_by_sent l) (record_of p a event end own) ts ≡ ts
  record_list l None ts = refl
  record_list l (Some end) ts = refl

  record_lease : (l : LockName) (end : Option Ending) (s : LockStanding) → after (standing_up l) (record_of p a event end own) s ≡ s
  record_lease l None s = refl
  record_lease l (Some end) s = refl

  pub act_well : (index : ℕ) → SaysWell own (input.Act index) (Some event) (commits p a event own)
  act_well index = record {
    comes = λ l t. record_comes l t (ending_by request reply (locks_of a own)) refl;
    keeps = λ l. same_keeps l (acted own a request reply woken) (after_parts own (input.Act index) (Some event) (commits p a event own))
        (λ t. place_behind l t (ending_by request reply (locks_of a own)) refl (place_of l t own))
        (record_list l (ending_by request reply (locks_of a own)) _)
        (ap (λ (s : LockStanding). s.lease) (record_lease l (ending_by request reply (locks_of a own)) (standing l own)))
        (λ u. refl) (λ u. refl) (λ u. refl)
        (acts_keep p c next own a l k request reply (fair l));
  }

-- A message taken.
module _ (own : List Entry) (k : (l : LockName) → KeepsWaiters l (view_of own)) where
  abbrev taken_view : Down → View
  taken_view m = after_parts own (input.TookDown m) None []

  -- a grant comes where there is no lease, so its list is empty
  grant_keeps : (l j : LockName) (level : Level) (b : Bool) → is_lock l j ≡ b → (b ≡ true → leased l own ≡ None) → KeepsWaiters l (taken_view (down.Grant j level))
  grant_keeps l j level b same unleased = quiet_keeps l (view_of own) (taken_view (down.Grant j level)) (record {
    place = λ t. refl;
    list = λ t. ap (λ b. list_any (is_thread t) (cond b [] (client_list l own))) same ∙ list t b unleased;
    lease = λ t there. ap (λ b. (cond b (let r : LockStanding = record { lease = Some level; is_asked = false } in r) (standing l own)).lease) same ∙ lease t b unleased there;
    more = λ u. [];
    notes = λ u. sym (append-nil (notes_of (open_block u own)));
    others = λ u. refl;
    holds = λ u held. held;
    waits = λ t waits. waits;
    waited = λ t waits. waits;
    marked = λ t waits. refl;
  }) (k l)
    where
      out : (t : ThreadId) → leased l own ≡ None → is_in l (view_of own) t ≡ false
      out t none = fails (is_in l (view_of own) t) (λ there. cc (sym none ∙ (k l).leased t there))

      list : (t : ThreadId) (b : Bool) → (b ≡ true → leased l own ≡ None) → list_any (is_thread t) (cond b [] (client_list l own)) ≡ is_in l (view_of own) t
      list t true unleased = sym (out t (unleased refl))
      list t false unleased = refl

      lease : (t : ThreadId) (b : Bool) → (b ≡ true → leased l own ≡ None) → is_in l (view_of own) t ≡ true → (cond b (let r : LockStanding = record { lease = Some level; is_asked = false } in r) (standing l own)).lease ≡ leased l own
      lease t true unleased there = no_both (is_in l (view_of own) t) there (out t (unleased refl))
      lease t false unleased there = refl

  -- a wake finds its thread gone to the server
  wake_keeps : (l j : LockName) (w : ThreadId) (b : Bool) → is_lock l j ≡ b → place_of j w own ≡ Gone → KeepsWaiters l (taken_view (down.Wake j w))
  wake_keeps l j w true same gone = woken_keeps l w (view_of own) (taken_view (down.Wake j w)) (record {
    was = subst (λ x. place_of x w own ≡ Gone) (same_lock l j same) gone;
    place = λ t. ap (λ b. cond (b && is_thread t w) Away (place_of l t own)) same;
    list = refl;
    lease = refl;
    notes = λ u. refl;
    locks = λ u. refl;
    marked = λ t. refl;
  }) (k l)
  wake_keeps l j w false other gone = quiet_keeps l (view_of own) (taken_view (down.Wake j w)) (record {
    place = λ t. ap (λ b. cond (b && is_thread t w) Away (place_of l t own)) other;
    list = λ t. refl;
    lease = λ t there. refl;
    more = λ u. [];
    notes = λ u. sym (append-nil (notes_of (open_block u own)));
    others = λ u. refl;
    holds = λ u held. held;
    waits = λ t waits. waits;
    waited = λ t waits. waits;
    marked = λ t waits. marked t waits (is_thread t w) refl;
  }) (k l)
    where
      there : IsWaitingOn j (locks_of w own).waiting
      there = (k j).placed w (λ away. cc (sym gone ∙ away))

      marked : (t : ThreadId) → Waits l (view_of own) t → (b : Bool) → is_thread t w ≡ b → (b || is_marked t own) ≡ is_marked t own
      marked t waits true is = no_both (is_lock l j) (waits_on_one l j (locks_of w own).waiting (subst (λ x. Waits l (view_of own) x) (sym (same_thread t w is)) waits) there) other
      marked t waits false ne = refl

  -- What a message taken needs: a grant that there is no lease, a wake that its thread is gone.
  abbrev pub IsDue : Down → Type 0
  IsDue (down.Grant j level) = leased j own ≡ None
  IsDue (down.Wake j w) = place_of j w own ≡ Gone
  IsDue m = Unit {0}

  taken_keeps : (m : Down) → IsDue m → (l : LockName) → KeepsWaiters l (taken_view m)
  taken_keeps (down.Grant j level) is_lease_due l = grant_keeps l j level (is_lock l j) refl (λ same. subst (λ x. leased x own ≡ None) (same_lock l j same) is_lease_due)
  taken_keeps (down.Wake j w) is_lease_due l = wake_keeps l j w (is_lock l j) refl is_lease_due
  taken_keeps m is_lease_due l = k l

  pub taken_well : (m : Down) → IsDue m → SaysWell own (input.TookDown m) None []
  taken_well m is_lease_due = record { comes = λ l t. tt; keeps = taken_keeps m is_lease_due }
