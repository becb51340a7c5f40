-- How the waiters of the locks stand at a client, as its entries tell: what the server has of it by the client's messages, and what
-- its threads did since.
use Rattle.std.specs.List.{list_any}
use Rattle.std.proofs.Common.{◌≡◌, ◌≢◌, ◌⊎◌, ◌↔◌, inl, inr, refl, sym, ◌∙◌, ap, subst, Bool, true, false, ◌||◌, Option, Some, List, [], ◌∷◌, ◌++◌}
use Rattle.dso_base.specs.declared.lock.Level.{Level}
use Rattle.dso_base.specs.declared.lock.Level.TheVariants.{Write}
use Rattle.dso_base.specs.declared.lock.LockName.{LockName}
use Rattle.dso_base.specs.declared.lock.ThreadId.{ThreadId}
use Rattle.dso_base.specs.declared.record.Note.{Note}
use Rattle.dso_base.specs.Following.{is_thread}
use Rattle.dso_plain.specs.KeyTests.{is_lock}
use Rattle.dso_law.specs.FitsDown.{IsWaitingOn}
use Rattle.dso_law.specs.RequestNeeds.{hold_level}
use Rattle.dso_law.specs.Threads.{Locks, hold_in}
use Rattle.dso_legal.specs.Places.{Place, Away, Kept, Gone, places_noted, MayNote}
use Rattle.dso_legal.proofs.leases.LeaseSteps.{no_both}
use Rattle.dso_legal.proofs.waiting.NotedPlaces.{names_lock, others_leave, others_may, noted_both, may_both}

-- Where each thread stands by the client's messages; the client's lists; what each thread notified since its last record; its
-- locks; who is marked; and the leases.
pub record View : Type 0 where
  pub place : LockName → ThreadId → Place
  pub list : LockName → List ThreadId
  pub notes : ThreadId → List Note
  pub locks : ThreadId → Locks
  pub marked : ThreadId → Bool
  pub lease : LockName → Option Level

module _ (l : LockName) (v : View) where
  -- the level at which the thread holds the lock
  abbrev pub level_of : ThreadId → Option Level
  level_of t = hold_level (hold_in l (v.locks t).holds)

  -- the thread waits on the lock
  abbrev pub Waits : ThreadId → Type 0
  Waits t = IsWaitingOn l (v.locks t).waiting

  -- the thread is in the client's list of the lock
  abbrev pub is_in : ThreadId → Bool
  is_in t = list_any (is_thread t) (v.list l)

  -- no other thread holds the lock at Write
  pub record IsAlone (u : ThreadId) : Type 0 where
    pub others : (w : ThreadId) → is_thread u w ≡ false → level_of w ≢ Some Write

  -- who holds it at Write does so alone
  pub record OneHolds : Type 0 where
    pub alone : (u : ThreadId) → level_of u ≡ Some Write → IsAlone u

  -- Where no other thread than u holds the lock at Write, who is kept once u's notifications are in is who is in the client's list.
  -- Each thread's notifications may come, and are of locks that it holds at Write. Who is in the list waits, and the lock is leased
  -- at Write. Who stands anywhere waits; who is gone to the server is not in the client's list. A waiting thread is marked exactly
  -- where it is neither in the list nor gone.
  pub record KeepsWaiters : Type 0 where
    pub kept : (u t : ThreadId) → IsAlone u → (places_noted l t (v.notes u) (v.place l t) ≡ Kept) ↔ (is_in t ≡ true)
    pub may : (u t : ThreadId) → MayNote l t (v.notes u) (v.place l t)
    pub holder : (u : ThreadId) → names_lock l (v.notes u) ≡ true → level_of u ≡ Some Write
    pub listed : (t : ThreadId) → is_in t ≡ true → Waits t
    pub leased : (t : ThreadId) → is_in t ≡ true → v.lease l ≡ Some Write
    pub placed : (t : ThreadId) → v.place l t ≢ Away → Waits t
    pub gone : (t : ThreadId) → v.place l t ≡ Gone → is_in t ≡ false
    pub marked : (t : ThreadId) → Waits t → v.marked t ≡ true → (is_in t ≡ false) × (v.place l t ≢ Gone)
    pub unmarked : (t : ThreadId) → Waits t → v.marked t ≡ false → (is_in t ≡ true) ⊎ (v.place l t ≡ Gone)

  module _ (k : KeepsWaiters) where
    -- who doesn't hold the lock at Write notified nobody of it
    pub silent : (u : ThreadId) → level_of u ≢ Some Write → names_lock l (v.notes u) ≡ false
    silent u unheld = by (names_lock l (v.notes u)) refl
      where
        by : (b : Bool) → names_lock l (v.notes u) ≡ b → b ≡ false
        by true names = absurd (unheld (k.holder u names))
        by false none = refl

    -- where nobody holds it at Write, who is kept is who is in the list
    pub kept_free : (t : ThreadId) → ((u : ThreadId) → level_of u ≢ Some Write) → (v.place l t ≡ Kept) ↔ (is_in t ≡ true)
    kept_free t free = subst (λ s. (s ≡ Kept) ↔ (is_in t ≡ true)) (others_leave l t (v.notes t) (v.place l t) (silent t (free t))) (k.kept t t (record { others = λ w other. free w }))

-- What leaves a lock's waiters as they are: other notifications, more holds, and marks of threads that don't wait on it.
pub record IsQuiet (l : LockName) (v r : View) : Type 0 where
  pub place : (t : ThreadId) → r.place l t ≡ v.place l t
  pub list : (t : ThreadId) → is_in l r t ≡ is_in l v t
  pub lease : (t : ThreadId) → is_in l v t ≡ true → r.lease l ≡ v.lease l
  pub more : ThreadId → List Note
  pub notes : (u : ThreadId) → r.notes u ≡ v.notes u ++ more u
  pub others : (u : ThreadId) → names_lock l (more u) ≡ false
  pub holds : (u : ThreadId) → level_of l v u ≡ Some Write → level_of l r u ≡ Some Write
  pub waits : (t : ThreadId) → Waits l v t → Waits l r t
  pub waited : (t : ThreadId) → Waits l r t → Waits l v t
  pub marked : (t : ThreadId) → Waits l v t → r.marked t ≡ v.marked t

-- whether one of two lists of notifications is of the lock
pub names_both : (l : LockName) (xs ys : List Note) → names_lock l ys ≡ false → names_lock l (xs ++ ys) ≡ true → names_lock l xs ≡ true
names_both l [] ys none names = no_both (names_lock l ys) names none
names_both l (note ∷ xs) ys none names = by (is_lock l note.lock) names (names_both l xs ys none)
  where
    by : (b : Bool) → (b || names_lock l (xs ++ ys)) ≡ true → (names_lock l (xs ++ ys) ≡ true → names_lock l xs ≡ true) → (b || names_lock l xs) ≡ true
    by true names later = refl
    by false names later = later names

pub quiet_keeps : (l : LockName) (v r : View) → IsQuiet l v r → KeepsWaiters l v → KeepsWaiters l r
quiet_keeps l v r q k = record {
  kept = λ u t alone. subst (λ s. (s ≡ Kept) ↔ (is_in l r t ≡ true)) (sym (noted u t))
      (subst (λ b. (places_noted l t (v.notes u) (v.place l t) ≡ Kept) ↔ (b ≡ true)) (sym (q.list t)) (k.kept u t (record { others = λ w other held. alone.others w other (q.holds w held) })));
  may = λ u t. subst (λ notes. MayNote l t notes (r.place l t)) (sym (q.notes u)) (subst (MayNote l t (v.notes u ++ q.more u)) (sym (q.place t))
      (may_both l t (v.notes u) (q.more u) (v.place l t) (k.may u t) (others_may l t (q.more u) (places_noted l t (v.notes u) (v.place l t)) (q.others u))));
  holder = λ u names. q.holds u (k.holder u (names_both l (v.notes u) (q.more u) (q.others u) (ap (names_lock l) (sym (q.notes u)) ∙ names)));
  listed = λ t there. q.waits t (k.listed t (was_in t there));
  leased = λ t there. q.lease t (was_in t there) ∙ k.leased t (was_in t there);
  placed = λ t placed. q.waits t (k.placed t (λ away. placed (q.place t ∙ away)));
  gone = λ t gone. q.list t ∙ k.gone t (sym (q.place t) ∙ gone);
  marked = λ t waits is.
      let was = k.marked t (q.waited t waits) (sym (q.marked t (q.waited t waits)) ∙ is) in
      (q.list t ∙ was.0, λ gone. was.1 (sym (q.place t) ∙ gone));
  unmarked = λ t waits isnt. elim (k.unmarked t (q.waited t waits) (sym (q.marked t (q.waited t waits)) ∙ isnt)) [
    | inl there ↦ inl (q.list t ∙ there)
    | inr gone ↦ inr (q.place t ∙ gone)
  ];
}
  where
    was_in : (t : ThreadId) → is_in l r t ≡ true → is_in l v t ≡ true
    was_in t there = sym (q.list t) ∙ there

    noted : (u t : ThreadId) → places_noted l t (r.notes u) (r.place l t) ≡ places_noted l t (v.notes u) (v.place l t)
    noted u t = ap (λ notes. places_noted l t notes (r.place l t)) (q.notes u) ∙ ap (places_noted l t (v.notes u ++ q.more u)) (q.place t)
        ∙ noted_both l t (v.notes u) (q.more u) (v.place l t) ∙ others_leave l t (q.more u) (places_noted l t (v.notes u) (v.place l t)) (q.others u)
