-- An entry of a client goes by its parts: how the waiters stand after its message taken, its event and its messages sent. Leases are
-- given back behind what is so far, where nobody holds their locks; and what is asked for concerns no waiter.
use Rattle.std.specs.List.{list_any, AllByRecursion}
use Rattle.std.proofs.Common.{◌≡◌, ◌≢◌, ◌↔◌, refl, sym, ◌∙◌, ap, subst, Bool, true, false, cond, ◌&&◌, ◌||◌, Option, Some, None, List, [], ◌∷◌, ◌++◌, map}
use Rattle.dso_base.specs.declared.journal.Entry.{Entry}
use Rattle.dso_base.specs.declared.journal.Input.{Input}
use Rattle.dso_base.specs.declared.lock.Level.TheVariants.{Write}
use Rattle.dso_base.specs.declared.lock.LockName.{LockName}
use Rattle.dso_base.specs.declared.lock.ThreadId.{ThreadId}
use Rattle.dso_base.specs.declared.message.Up.{Up}
use Rattle.dso_base.specs.declared.message.Up.TheVariants as up
use Rattle.dso_base.specs.declared.request.Event.{Event}
use Rattle.dso_base.specs.Following.{is_thread}
use Rattle.dso_plain.specs.KeyTests.{is_lock}
use Rattle.dso_plain.specs.History.{is_act_of}
use Rattle.dso_plain.proofs.keys.SameKeys.{same_lock}
use Rattle.dso_law.specs.declared.readings.LockStanding.{LockStanding}
use Rattle.dso_law.specs.ClientWaiters.{list_by_taken, list_by_sent, list_by_event, client_list, marked_by_taken, marked_by_event, is_marked}
use Rattle.dso_law.specs.Entries.{by_taken_down, by_event}
use Rattle.dso_law.specs.Leases.{standing_up, standing_down, standing}
use Rattle.dso_law.specs.Threads.{locks_after, locks_of, block_after, open_block}
use Rattle.dso_legal.specs.Agreement.{after, EachMay}
use Rattle.dso_legal.specs.Places.{Place, Kept, Gone, place_up, place_down, MayPlaceUp, place_of}
use Rattle.dso_legal.proofs.channels.Agreement.{may_append, after_append}
use Rattle.dso_legal.proofs.channels.InFlight.{said_of, said_status}
use Rattle.dso_legal.proofs.leases.ClientLeases.{neither}
use Rattle.dso_legal.proofs.leases.LeaseSteps.{no_both}
use Rattle.dso_legal.proofs.leases.Locks.{Distinct}
use Rattle.dso_legal.proofs.waiting.BlockNotes.{notes_of}
use Rattle.dso_legal.proofs.waiting.ActedView.{view_of}
use Rattle.dso_legal.proofs.waiting.ClientView.{View, level_of, KeepsWaiters, kept_free, quiet_keeps}
use Rattle.dso_legal.proofs.waiting.ListMoves.{returned_keeps}
use Rattle.std.proofs.lemmas.List.{append-nil}

-- how the waiters stand after an entry with these parts
abbrev pub after_parts : List Entry → Input → Option Event → List Up → View
after_parts own i event ms = record {
  place = λ l t. after (place_up l t) ms (by_taken_down (place_down l t) i (place_of l t own));
  list = λ l. after (list_by_sent l) ms (by_event (list_by_event l) event (by_taken_down (list_by_taken l) i (client_list l own)));
  notes = λ t. notes_of (by_event (λ event block. cond (is_act_of t event) (block_after event (locks_of t own) block) block) event (open_block t own));
  locks = λ t. by_event (locks_after t) event (locks_of t own);
  marked = λ t. by_event (marked_by_event t own) event (by_taken_down (marked_by_taken t) i (is_marked t own));
  lease = λ l. (after (standing_up l) ms (by_taken_down (standing_down l) i (standing l own))).lease;
}

-- What an entry with these parts says may come where each thread stands, and the waiters of each lock stand as they should behind it.
pub record SaysWell (own : List Entry) (i : Input) (event : Option Event) (ms : List Up) : Type 0 where
  pub comes : (l : LockName) (t : ThreadId) → EachMay (MayPlaceUp l t) (place_up l t) ms (by_taken_down (place_down l t) i (place_of l t own))
  pub keeps : (l : LockName) → KeepsWaiters l (after_parts own i event ms)

-- The view after the parts is the one that the entries tell.
pub parts_tell : (e : Entry) (own : List Entry) (l : LockName) → KeepsWaiters l (after_parts own e.input e.event (said_of e.sent)) → KeepsWaiters l (view_of (e ∷ own))
parts_tell e own l k = quiet_keeps l (after_parts own e.input e.event (said_of e.sent)) (view_of (e ∷ own)) (record {
  place = λ t. said_status (place_up l t) e.sent (by_taken_down (place_down l t) e.input (place_of l t own));
  list = λ t. ap (list_any (is_thread t)) (said_status (list_by_sent l) e.sent (by_event (list_by_event l) e.event (by_taken_down (list_by_taken l) e.input (client_list l own))));
  lease = λ t there. ap (λ (s : LockStanding). s.lease) (said_status (standing_up l) e.sent (by_taken_down (standing_down l) e.input (standing l own)));
  more = λ u. [];
  notes = λ u. sym (append-nil (notes_of (open_block u (e ∷ own))));
  others = λ u. refl;
  holds = λ u held. held;
  waits = λ t waits. waits;
  waited = λ t waits. waits;
  marked = λ t waits. refl;
}) k

-- the message asks for something, or says what is flushed
abbrev pub IsAsking : Up → Type 0
IsAsking (up.Return k threads) = ⊥
IsAsking (up.Commit txn) = ⊥
IsAsking m = Unit {0}

-- such messages may always come, and concern no waiter
module _ (l : LockName) where
  asks_come : (t : ThreadId) (ms : List Up) (s : Place) → AllByRecursion IsAsking ms → EachMay (MayPlaceUp l t) (place_up l t) ms s
  asks_come t [] s each = tt
  asks_come t (up.Return k threads ∷ ms) s each = absurd each.0
  asks_come t (up.Commit txn ∷ ms) s each = absurd each.0
  asks_come t (up.IdAsk ∷ ms) s each = (tt, asks_come t ms s each.1)
  asks_come t (up.Fault o ∷ ms) s each = (tt, asks_come t ms s each.1)
  asks_come t (up.Flushed o ∷ ms) s each = (tt, asks_come t ms s each.1)
  asks_come t (up.Request k level ∷ ms) s each = (tt, asks_come t ms s each.1)

  asks_leave_place : (t : ThreadId) (ms : List Up) (s : Place) → AllByRecursion IsAsking ms → after (place_up l t) ms s ≡ s
  asks_leave_place t [] s each = refl
  asks_leave_place t (up.Return k threads ∷ ms) s each = absurd each.0
  asks_leave_place t (up.Commit txn ∷ ms) s each = absurd each.0
  asks_leave_place t (up.IdAsk ∷ ms) s each = asks_leave_place t ms s each.1
  asks_leave_place t (up.Fault o ∷ ms) s each = asks_leave_place t ms s each.1
  asks_leave_place t (up.Flushed o ∷ ms) s each = asks_leave_place t ms s each.1
  asks_leave_place t (up.Request k level ∷ ms) s each = asks_leave_place t ms s each.1

  asks_leave_list : (ms : List Up) (ts : List ThreadId) → AllByRecursion IsAsking ms → after (list_by_sent l) ms ts ≡ ts
  asks_leave_list [] ts each = refl
  asks_leave_list (up.Return k threads ∷ ms) ts each = absurd each.0
  asks_leave_list (up.Commit txn ∷ ms) ts each = absurd each.0
  asks_leave_list (up.IdAsk ∷ ms) ts each = asks_leave_list ms ts each.1
  asks_leave_list (up.Fault o ∷ ms) ts each = asks_leave_list ms ts each.1
  asks_leave_list (up.Flushed o ∷ ms) ts each = asks_leave_list ms ts each.1
  asks_leave_list (up.Request k level ∷ ms) ts each = asks_leave_list ms ts each.1

  asks_leave_lease : (ms : List Up) (s : LockStanding) → AllByRecursion IsAsking ms → (after (standing_up l) ms s).lease ≡ s.lease
  asks_leave_lease [] s each = refl
  asks_leave_lease (up.Return k threads ∷ ms) s each = absurd each.0
  asks_leave_lease (up.Commit txn ∷ ms) s each = absurd each.0
  asks_leave_lease (up.IdAsk ∷ ms) s each = asks_leave_lease ms s each.1
  asks_leave_lease (up.Fault o ∷ ms) s each = asks_leave_lease ms s each.1
  asks_leave_lease (up.Flushed o ∷ ms) s each = asks_leave_lease ms s each.1
  asks_leave_lease (up.Request k level ∷ ms) s each = asks_leave_lease ms (cond (is_lock l k) (let r : LockStanding = record s { is_asked = true } in r) s) each.1 ∙ by (is_lock l k)
    where
      by : (b : Bool) → (cond b (let r : LockStanding = record s { is_asked = true } in r) s).lease ≡ s.lease
      by true = refl
      by false = refl

-- a return of each of the locks
abbrev pub each_return : (LockName → List ThreadId) → List LockName → List Up
each_return list locks = map (λ k. up.Return k (list k)) locks

-- What returns of distinct locks make of a thread's place, where those kept of the lock are those of its list.
module _ (l : LockName) (list : LockName → List ThreadId) where
  abbrev pub returned_place : Bool → ThreadId → Place → Place
  returned_place b t s = cond (b && list_any (is_thread t) (list l)) Gone s

  pub record ReturnsWell (t : ThreadId) (locks : List LockName) (s : Place) : Type 0 where
    pub comes : EachMay (MayPlaceUp l t) (place_up l t) (each_return list locks) s
    pub status : after (place_up l t) (each_return list locks) s ≡ returned_place (list_any (is_lock l) locks) t s

  returns_others : (t : ThreadId) (locks : List LockName) (s : Place) → list_any (is_lock l) locks ≡ false → EachMay (MayPlaceUp l t) (place_up l t) (each_return list locks) s × (after (place_up l t) (each_return list locks) s ≡ s)
  returns_others t [] s none = (tt, refl)
  returns_others t (k ∷ locks) s none =
      let both = neither (is_lock l k) (list_any (is_lock l) locks) none in
      let still : place_up l t (up.Return k (list k)) s ≡ s = ap (λ b. cond (b && list_any (is_thread t) (list k)) Gone s) both.0 in
      let rest = returns_others t locks s both.1 in
      (((λ same. no_both (is_lock l k) same both.0), subst (EachMay (MayPlaceUp l t) (place_up l t) (each_return list locks)) (sym still) rest.0), ap (after (place_up l t) (each_return list locks)) still ∙ rest.1)

  returns_one : (t : ThreadId) (k : LockName) (locks : List LockName) (s : Place) (b : Bool) → is_lock l k ≡ b → Distinct (k ∷ locks)
      → ((b || list_any (is_lock l) locks) ≡ true → (list_any (is_thread t) (list l) ≡ true) ↔ (s ≡ Kept)) → ReturnsWell t locks s → ReturnsWell t (k ∷ locks) s
  returns_one t k locks s true same distinct kept later =
      let now : place_up l t (up.Return k (list k)) s ≡ returned_place true t s = ap (λ b. cond (b && list_any (is_thread t) (list k)) Gone s) same ∙ ap (λ x. cond (list_any (is_thread t) (list x)) Gone s) (same_lock l k same) in
      let none : list_any (is_lock l) locks ≡ false = subst (λ j. list_any (is_lock j) locks ≡ false) (same_lock l k same) distinct.0 in
      let rest = returns_others t locks (returned_place true t s) none in
      record {
        comes = ((λ _. subst (λ x. (list_any (is_thread t) (list x) ≡ true) ↔ (s ≡ Kept)) (sym (same_lock l k same)) (kept refl)), subst (EachMay (MayPlaceUp l t) (place_up l t) (each_return list locks)) (sym now) rest.0);
        status = ap (after (place_up l t) (each_return list locks)) now ∙ rest.1 ∙ sym (ap (λ b. returned_place (b || list_any (is_lock l) locks) t s) same);
      }
  returns_one t k locks s false other distinct kept later =
      let still : place_up l t (up.Return k (list k)) s ≡ s = ap (λ b. cond (b && list_any (is_thread t) (list k)) Gone s) other in
      record {
        comes = ((λ same. no_both (is_lock l k) same other), subst (EachMay (MayPlaceUp l t) (place_up l t) (each_return list locks)) (sym still) later.comes);
        status = ap (after (place_up l t) (each_return list locks)) still ∙ later.status ∙ sym (ap (λ b. returned_place (b || list_any (is_lock l) locks) t s) other);
      }

  pub returns_well : (t : ThreadId) (locks : List LockName) (s : Place) → Distinct locks → (list_any (is_lock l) locks ≡ true → (list_any (is_thread t) (list l) ≡ true) ↔ (s ≡ Kept)) → ReturnsWell t locks s
  returns_well t [] s distinct kept = record { comes = tt; status = refl }
  returns_well t (k ∷ locks) s distinct kept = returns_one t k locks s (is_lock l k) refl distinct kept
      (returns_well t locks s distinct.1 (λ there. kept (either (is_lock l k) (list_any (is_lock l) locks) there)))
    where
      either : (a b : Bool) → b ≡ true → (a || b) ≡ true
      either true b is = refl
      either false b is = is

  -- of the list
  pub returned_list : (locks : List LockName) (ts : List ThreadId) → after (list_by_sent l) (each_return list locks) ts ≡ cond (list_any (is_lock l) locks) [] ts
  returned_list [] ts = refl
  returned_list (k ∷ locks) ts = returned_list locks (cond (is_lock l k) [] ts) ∙ by (is_lock l k) (list_any (is_lock l) locks)
    where
      by : (a b : Bool) → cond b [] (cond a [] ts) ≡ cond (a || b) [] ts
      by true true = refl
      by true false = refl
      by false true = refl
      by false false = refl

  -- and of the lease, where the lock isn't among them
  pub returned_lease : (locks : List LockName) (s : LockStanding) → list_any (is_lock l) locks ≡ false → (after (standing_up l) (each_return list locks) s).lease ≡ s.lease
  returned_lease [] s none = refl
  returned_lease (k ∷ locks) s none =
      let both = neither (is_lock l k) (list_any (is_lock l) locks) none in
      ap (λ b. (after (standing_up l) (each_return list locks) (cond b (let r : LockStanding = record s { lease = None } in r) s)).lease) both.0 ∙ returned_lease locks s both.1

-- What is so after what is so far, with returns of distinct locks behind it that nobody holds, and then what is asked for.
module _ (own : List Entry) (i : Input) (event : Option Event) (front : List Up) (locks : List LockName) (rest : List Up) where
  abbrev so_far : View
  so_far = after_parts own i event front

  abbrev returns_then : List Up
  returns_then = each_return so_far.list locks ++ rest

  module _ (well : SaysWell own i event front) (distinct : Distinct locks) (asks : AllByRecursion IsAsking rest)
      (free : (l : LockName) → list_any (is_lock l) locks ≡ true → (u : ThreadId) → level_of l so_far u ≢ Some Write) where
    each_well : (l : LockName) (t : ThreadId) → ReturnsWell l so_far.list t locks (so_far.place l t)
    each_well l t = returns_well l so_far.list t locks (so_far.place l t) distinct (λ there.
        let kept = kept_free l so_far (well.keeps l) t (free l there) in (kept.1, kept.0))

    place_then : (l : LockName) (t : ThreadId) → (after_parts own i event (front ++ returns_then)).place l t ≡ returned_place l so_far.list (list_any (is_lock l) locks) t (so_far.place l t)
    place_then l t =
        let s : Place = by_taken_down (place_down l t) i (place_of l t own) in
        after_append (place_up l t) front returns_then s ∙ after_append (place_up l t) (each_return so_far.list locks) rest (so_far.place l t)
        ∙ asks_leave_place l t rest (after (place_up l t) (each_return so_far.list locks) (so_far.place l t)) asks ∙ (each_well l t).status

    list_then : (l : LockName) → (after_parts own i event (front ++ returns_then)).list l ≡ cond (list_any (is_lock l) locks) [] (so_far.list l)
    list_then l =
        let ts : List ThreadId = by_event (list_by_event l) event (by_taken_down (list_by_taken l) i (client_list l own)) in
        after_append (list_by_sent l) front returns_then ts ∙ after_append (list_by_sent l) (each_return so_far.list locks) rest (so_far.list l)
        ∙ asks_leave_list l rest (after (list_by_sent l) (each_return so_far.list locks) (so_far.list l)) asks ∙ returned_list l so_far.list locks (so_far.list l)

    lease_then : (l : LockName) → list_any (is_lock l) locks ≡ false → (after_parts own i event (front ++ returns_then)).lease l ≡ so_far.lease l
    lease_then l none =
        let s : LockStanding = by_taken_down (standing_down l) i (standing l own) in
        let now : LockStanding = after (standing_up l) front s in
        ap (λ (x : LockStanding). x.lease) (after_append (standing_up l) front returns_then s ∙ after_append (standing_up l) (each_return so_far.list locks) rest now)
        ∙ asks_leave_lease l rest (after (standing_up l) (each_return so_far.list locks) now) asks ∙ returned_lease l so_far.list locks now none

    keeps_by : (l : LockName) (b : Bool) → list_any (is_lock l) locks ≡ b → KeepsWaiters l (after_parts own i event (front ++ returns_then))
    keeps_by l true there = returned_keeps l so_far (after_parts own i event (front ++ returns_then)) (record {
      free = free l there;
      place = λ t. place_then l t ∙ ap (λ b. returned_place l so_far.list b t (so_far.place l t)) there;
      list = list_then l ∙ ap (λ b. cond b [] (so_far.list l)) there;
      notes = λ u. refl;
      marked = λ t. refl;
      locks = λ u. refl;
    }) (well.keeps l)
    keeps_by l false none = quiet_keeps l so_far (after_parts own i event (front ++ returns_then)) (record {
      place = λ t. place_then l t ∙ ap (λ b. returned_place l so_far.list b t (so_far.place l t)) none;
      list = λ t. ap (list_any (is_thread t)) (list_then l ∙ ap (λ b. cond b [] (so_far.list l)) none);
      lease = λ t there. lease_then l none;
      more = λ u. [];
      notes = λ u. sym (append-nil (so_far.notes u));
      others = λ u. refl;
      holds = λ u held. held;
      waits = λ t waits. waits;
      waited = λ t waits. waits;
      marked = λ t waits. refl;
    }) (well.keeps l)

    pub gives_back_well : SaysWell own i event (front ++ returns_then)
    gives_back_well = record {
      comes = λ l t.
          let s : Place = by_taken_down (place_down l t) i (place_of l t own) in
          may_append (MayPlaceUp l t) (place_up l t) front returns_then s (well.comes l t)
          (may_append (MayPlaceUp l t) (place_up l t) (each_return so_far.list locks) rest (so_far.place l t) (each_well l t).comes
          (asks_come l t rest (after (place_up l t) (each_return so_far.list locks) (so_far.place l t)) asks));
      keeps = λ l. keeps_by l (list_any (is_lock l) locks) refl;
    }
