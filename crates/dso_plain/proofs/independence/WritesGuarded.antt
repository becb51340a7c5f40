-- Where a step writes: its own parts, what it makes, and else only under a lock that it touches at Write.
use Rattle.std.proofs.Common.{ℕ, ◌-◌, ◌≡◌, ◌≢◌, ◌⊎◌, inl, inr, refl, sym, ◌∙◌, ap, subst, Bool, true, false, cond, eqb, ◌&&◌, is_some, is_none, Option, Some, None, List, ◌∷◌, length}
use Rattle.dso_base.specs.declared.lock.Level.{Level}
use Rattle.dso_base.specs.declared.lock.Level.TheVariants.{Write}
use Rattle.dso_base.specs.declared.lock.LockName.{LockName}
use Rattle.dso_base.specs.declared.lock.ThreadId.{ThreadId}
use Rattle.dso_base.specs.declared.request.Fault.{Fault}
use Rattle.dso_base.specs.declared.request.Reply.{Reply}
use Rattle.dso_base.specs.declared.request.Reply.TheVariants.{Done, Made, Val}
use Rattle.dso_base.specs.declared.request.Request.{Request}
use Rattle.dso_base.specs.declared.request.Request.TheVariants.{New, Get, Put, Enter, Exit, Wait, Timeout, Resume, Notify, NotifyAll, Print, End}
use Rattle.dso_base.specs.declared.shape.Shape.{Shape}
use Rattle.dso_base.specs.declared.value.ClassId.{ClassId}
use Rattle.dso_base.specs.declared.value.Value.{Value}
use Rattle.dso_base.specs.declared.value.Value.TheVariants as value
use Rattle.dso_base.specs.Reach.{reach}
use Rattle.dso_base.specs.Following.{is_thread}
use Rattle.dso_plain.specs.KeyTests.{is_lock, is_field, is_place, is_view}
use Rattle.dso_lookup.specs.Maps.{writes}
use Rattle.dso_plain.specs.State.{Object, Hold, PlainState, is_private_to, is_mine, is_shared, is_owner, IsPrivate, IsShared, level_of, guard_in, hold_on_guard}
use Rattle.dso_plain.specs.Possible.{AnswersRequest}
use Rattle.dso_plain.specs.After.{Change, nothing, made_new, new_object, read, read_shared, put, times_out, notifies, notifies_all, entered, exited, count_of, resumed, change_of, published, shared, present, opening_field, names}
use Rattle.dso_plain.specs.Touches.{ActTouches, ActMakes}
use Rattle.dso_plain.proofs.keys.SameKeys.{Wherever, none, written_there, same_number, same_thread, same_lock, same_field, same_place, same_view}
use Rattle.dso_lookup.proofs.Tests.{both}

-- an object that the thread makes: there was none of its id
abbrev pub IsNew : (ℕ → Type 0) → PlainState → ℕ → Type 0
IsNew makes s o = (s.objects o ≡ None) × makes o

-- a shared object's field whose guard the thread touches at Write
abbrev pub IsUnderGuard : Shape → (LockName → Level → Type 0) → PlainState → ℕ × ℕ → Type 0
IsUnderGuard shape touch s key = IsShared key.0 s × touch (guard_in shape s key.0 key.1) Write

-- the list is the old one with one value more
abbrev pub IsLonger : List Value → List Value → Type 0
IsLonger old new = (v : Value) × (new ≡ v ∷ old)

-- a mark that a thread writes: under a lock that it touches, its own one or set; or under no lock its own one, set
abbrev pub IsMark : ThreadId → (LockName → Level → Type 0) → LockName × ThreadId → Bool → Type 0
IsMark t touch key mark = (touch key.0 Write × ((key.1 ≡ t) ⊎ (mark ≡ true))) ⊎ ((key.1 ≡ t) × (mark ≡ true))

-- what a step of thread t, which touches these locks and makes these ids, may write
pub record IsGuarded (shape : Shape) (t : ThreadId) (touch : LockName → Level → Type 0) (makes : ℕ → Type 0) (s : PlainState) (c : Change) : Type 0 where
  pub objects : Wherever c.objects (λ o new. (IsPrivate t o s ⊎ IsNew makes s o) × ((w : ThreadId) → w ≢ t → is_private_to w new ≡ false))
  pub made : Wherever c.made (λ w _. w ≡ t)
  pub heap : Wherever c.heap (λ key _. IsPrivate t key.0 s ⊎ IsNew makes s key.0 ⊎ IsUnderGuard shape touch s key)
  pub past : Wherever c.past (λ key new. IsPrivate t key.0 s ⊎ (IsUnderGuard shape touch s key × IsLonger (s.past key) new))
  pub seen : Wherever c.seen (λ key _. key.0 ≡ t)
  pub monitors : Wherever c.monitors (λ key hold. (key.1 ≡ t) × ((x : Level) → level_of hold ≡ Some x → touch key.0 x))
  pub asleep : Wherever c.asleep (λ key _. (key.1 ≡ t) × touch key.0 Write)
  pub marked : Wherever c.marked (IsMark t touch)
  pub output : Wherever c.output (λ w _. w ≡ t)
  pub ended : Wherever c.ended (λ w _. w ≡ t)
  pub lost : Wherever c.lost (λ _ _. ⊥)

-- no thread but the owner has the object
other_owner : (t w : ThreadId) (owner : Option ThreadId) → is_owner t owner ≡ true → w ≢ t → is_owner w owner ≡ false
other_owner t w None e ne = refl
other_owner t w (Some u) e ne = by (is_thread w u) refl
  where
    by : (b : Bool) → is_thread w u ≡ b → b ≡ false
    by false d = refl
    by true d = absurd (ne (sym (same_thread w u d) ∙ same_thread t u e))

-- so an object of one thread is not private to another
pub other_private : (t w : ThreadId) (object : Option Object) → is_private_to t object ≡ true → w ≢ t → is_private_to w object ≡ false
other_private t w None e ne = refl
other_private t w (Some object) e ne = other_owner t w object.owner e ne

-- what became shared is private to nobody
pub shared_private : (w : ThreadId) (object : Option Object) → is_private_to w (shared object) ≡ false
shared_private w None = refl
shared_private w (Some object) = refl

-- another thread's new object is not one's own
new_private : (t w : ThreadId) → w ≢ t → is_thread w t ≡ false
new_private t w ne = by (is_thread w t) refl
  where
    by : (b : Bool) → is_thread w t ≡ b → b ≡ false
    by false d = refl
    by true d = absurd (ne (sym (same_thread w t d)))

-- what is found is private to the thread
pub reach_private : (mine : ℕ → Bool) (names : ℕ → ℕ → Bool) (objects : List ℕ) (v : Value) (o : ℕ) → reach mine names objects v o ≡ true → mine o ≡ true
reach_private mine names objects (value.Ref a) o e = (both (mine o) _ (both (mine a) _ e).1).0
reach_private mine names objects value.Null o e = absurd (cc e)
reach_private mine names objects (value.Long n) o e = absurd (cc e)
reach_private mine names objects (value.Bool b) o e = absurd (cc e)
reach_private mine names objects (value.Text n) o e = absurd (cc e)

-- a published object is the thread's own
pub published_private : (t : ThreadId) (v : Value) (s : PlainState) (o : ℕ) → published t v s o ≡ true → IsPrivate t o s
published_private t v s o e = reach_private (is_mine t s) (names s) (s.made t) v o e

module _ (shape : Shape) (t : ThreadId) (touch : LockName → Level → Type 0) (makes : ℕ → Type 0) (s : PlainState) where
  -- a step that writes nothing
  pub guarded_nothing : (unguarded : Bool) → IsGuarded shape t touch makes s (record nothing { unguarded = unguarded })
  guarded_nothing unguarded = record { objects = λ _ _ e. none e; made = λ _ _ e. none e; heap = λ _ _ e. none e; past = λ _ _ e. none e; seen = λ _ _ e. none e; monitors = λ _ _ e. none e; asleep = λ _ _ e. none e; marked = λ _ _ e. none e; output = λ _ _ e. none e; ended = λ _ _ e. none e; lost = λ _ _ e. none e }

  -- the key is the new object
  is_made : (o key : ℕ) → s.objects o ≡ None → makes o → eqb key o ≡ true → IsNew makes s key
  is_made o key absent m e = subst (λ k. IsNew makes s k) (sym (same_number key o e)) (absent, m)

  -- a new object is written, and nothing else
  pub guarded_new : (class : ClassId) (n o : ℕ) → s.objects o ≡ None → makes o → IsGuarded shape t touch makes s (made_new shape t class n o s)
  guarded_new class n o absent m = record {
    objects = λ key new e.
        let h = written_there (λ key. eqb key o) (λ key. Some (new_object t class n)) key new e in
        (inr (is_made o key absent m h.0), λ w ne. subst (λ x. is_private_to w x ≡ false) h.1 (new_private t w ne));
    made = λ key new e. same_thread t key (written_there (is_thread t) (λ _. o ∷ s.made t) key new e).0;
    heap = λ key new e. inr (inl (is_made o key.0 absent m (written_there (λ key. eqb key.0 o) (λ key. opening_field shape class n key.1) key new e).0));
    past = λ _ _ e. none e;
    seen = λ _ _ e. none e;
    monitors = λ _ _ e. none e;
    asleep = λ _ _ e. none e;
    marked = λ _ _ e. none e;
    output = λ _ _ e. none e;
    ended = λ _ _ e. none e;
    lost = λ _ _ e. none e;
  }

  -- a read writes what its thread has seen
  pub guarded_read : (o f : ℕ) (is_shared : Bool) → IsGuarded shape t touch makes s (read shape t o f is_shared s)
  guarded_read o f false = guarded_nothing false
  guarded_read o f true = by (hold_on_guard shape t o f s)
    where
      by : (hold : Option Hold) → IsGuarded shape t touch makes s (read_shared t o f hold s)
      by None = guarded_nothing true
      by (Some hold) = record { seen = λ key new e. same_view t o f key (written_there (is_view t o f) (λ _. length (s.past (o, f)) - 1) key new e).0; objects = λ _ _ e. none e; made = λ _ _ e. none e; heap = λ _ _ e. none e; past = λ _ _ e. none e; monitors = λ _ _ e. none e; asleep = λ _ _ e. none e; marked = λ _ _ e. none e; output = λ _ _ e. none e; ended = λ _ _ e. none e; lost = λ _ _ e. none e }

  -- a put into an object of its own
  pub guarded_put_own : (o f : ℕ) (v : Value) → IsPrivate t o s → IsGuarded shape t touch makes s (put t o f v false s)
  guarded_put_own o f v own = record {
    heap = λ key new e. inl (subst (λ k. IsPrivate t k.0 s) (sym (same_field o f key (written_there (is_field o f) (λ _. Some v) key new e).0)) own);
    objects = λ _ _ e. none e;
    made = λ _ _ e. none e;
    past = λ _ _ e. none e;
    seen = λ _ _ e. none e;
    monitors = λ _ _ e. none e;
    asleep = λ _ _ e. none e;
    marked = λ _ _ e. none e;
    output = λ _ _ e. none e;
    ended = λ _ _ e. none e;
    lost = λ _ _ e. none e;
  }

  -- a put into a shared object, whose guard the thread touches at Write
  pub guarded_put_shared : (o f : ℕ) (v : Value) → IsShared o s → touch (guard_in shape s o f) Write → IsGuarded shape t touch makes s (put t o f v true s)
  guarded_put_shared o f v common h = record {
    objects = λ key new e.
        let there = written_there (published t v s) (λ key. shared (s.objects key)) key new e in
        (inl (published_private t v s key there.0), λ w _. subst (λ x. is_private_to w x ≡ false) there.1 (shared_private w (s.objects key)));
    heap = λ key new e. inr (inr (under key (written_there (is_field o f) (λ _. Some v) key new e).0));
    past = λ key new e. pasts key new (is_field o f key) refl e;
    seen = λ key new e. same_view t o f key (written_there (is_view t o f) (λ _. length (s.past (o, f))) key new e).0;
    made = λ _ _ e. none e;
    monitors = λ _ _ e. none e;
    asleep = λ _ _ e. none e;
    marked = λ _ _ e. none e;
    output = λ _ _ e. none e;
    ended = λ _ _ e. none e;
    lost = λ _ _ e. none e;
  }
    where
      under : (key : ℕ × ℕ) → is_field o f key ≡ true → IsUnderGuard shape touch s key
      under key e = subst (λ k. IsUnderGuard shape touch s k) (sym (same_field o f key e)) (common, h)

      pasts : (key : ℕ × ℕ) (new : List Value) (b : Bool) → is_field o f key ≡ b → cond b (Some (v ∷ s.past (o, f))) (writes (λ key. published t v s key.0) (λ key. present (s.heap key)) key) ≡ Some new → IsPrivate t key.0 s ⊎ (IsUnderGuard shape touch s key × IsLonger (s.past key) new)
      pasts key new true d e = inr (under key d, (v, subst (λ k. new ≡ v ∷ s.past k) (sym (same_field o f key d)) (cc e)))
      pasts key new false d e = inl (published_private t v s key.0 (written_there (λ key. published t v s key.0) (λ key. present (s.heap key)) key new e).0)

  -- the key is the lock's with the thread
  at_place : (l : LockName) (key : LockName × ThreadId) (w : ThreadId) → is_place l w key ≡ true → (key.0 ≡ l) × (key.1 ≡ w)
  at_place l key w e = let d = same_place l w key e in (ap (λ k. k.0) d, ap (λ k. k.1) d)

  -- touching at a place
  pub touched_at : (l : LockName) (x : Level) (key : LockName × ThreadId) (w : ThreadId) → is_place l w key ≡ true → touch l x → touch key.0 x
  touched_at l x key w e h = subst (λ k. touch k x) (sym (at_place l key w e).0) h

  -- the hold on a lock that the thread has so, or takes so
  pub guarded_hold : (l : LockName) (hold : Option Hold) → ((x : Level) → level_of hold ≡ Some x → touch l x) → IsGuarded shape t touch makes s (record nothing { monitors = writes (is_place l t) (λ key. hold) })
  guarded_hold l hold held = record {
    monitors = λ key new e.
        let there = written_there (is_place l t) (λ _. hold) key new e in
        ((at_place l key t there.0).1, λ x d. touched_at l x key t there.0 (held x (subst (λ h. level_of h ≡ Some x) (sym there.1) d)));
    objects = λ _ _ e. none e;
    made = λ _ _ e. none e;
    heap = λ _ _ e. none e;
    past = λ _ _ e. none e;
    seen = λ _ _ e. none e;
    asleep = λ _ _ e. none e;
    marked = λ _ _ e. none e;
    output = λ _ _ e. none e;
    ended = λ _ _ e. none e;
    lost = λ _ _ e. none e;
  }

  -- a hold that goes to the waits, or comes back from them
  pub guarded_wait : (l : LockName) (hold : Option Hold) (count : Option ℕ) → ((x : Level) → level_of hold ≡ Some x → touch l x) → touch l Write → IsGuarded shape t touch makes s (record nothing {
    monitors = writes (is_place l t) (λ key. hold);
    asleep = writes (is_place l t) (λ key. count);
    marked = writes (is_place l t) (λ key. false);
  })
  guarded_wait l hold count held h = record {
    monitors = (guarded_hold l hold held).monitors;
    asleep = λ key new e.
        let there = written_there (is_place l t) (λ _. count) key new e in
        ((at_place l key t there.0).1, touched_at l Write key t there.0 h);
    marked = λ key new e.
        let there = written_there (is_place l t) (λ _. false) key new e in
        inl (touched_at l Write key t there.0 h, inl (at_place l key t there.0).1);
    objects = λ _ _ e. none e;
    made = λ _ _ e. none e;
    heap = λ _ _ e. none e;
    past = λ _ _ e. none e;
    seen = λ _ _ e. none e;
    output = λ _ _ e. none e;
    ended = λ _ _ e. none e;
    lost = λ _ _ e. none e;
  }

  -- a notification marks under the lock
  pub guarded_notify : (l : LockName) (woken : Option ThreadId) → touch l Write → IsGuarded shape t touch makes s (notifies l woken)
  guarded_notify l None h = guarded_nothing false
  guarded_notify l (Some w) h = record { marked = λ key new e. let there = written_there (is_place l w) (λ _. true) key new e in inl (touched_at l Write key w there.0 h, inr (sym there.1)); objects = λ _ _ e. none e; made = λ _ _ e. none e; heap = λ _ _ e. none e; past = λ _ _ e. none e; seen = λ _ _ e. none e; monitors = λ _ _ e. none e; asleep = λ _ _ e. none e; output = λ _ _ e. none e; ended = λ _ _ e. none e; lost = λ _ _ e. none e }

  -- and so does one of all
  pub guarded_notify_all : (l : LockName) → touch l Write → IsGuarded shape t touch makes s (notifies_all l s)
  guarded_notify_all l h = record {
    marked = λ key new e.
        let there = written_there (λ key. is_lock l key.0 && is_some (s.asleep key)) (λ _. true) key new e in
        inl (subst (λ k. touch k Write) (sym (same_lock l key.0 (both (is_lock l key.0) (is_some (s.asleep key)) there.0).0)) h, inr (sym there.1));
    objects = λ _ _ e. none e;
    made = λ _ _ e. none e;
    heap = λ _ _ e. none e;
    past = λ _ _ e. none e;
    seen = λ _ _ e. none e;
    monitors = λ _ _ e. none e;
    asleep = λ _ _ e. none e;
    output = λ _ _ e. none e;
    ended = λ _ _ e. none e;
    lost = λ _ _ e. none e;
  }

  -- a timeout sets the thread's own mark
  pub guarded_timeout : (l : LockName) → IsGuarded shape t touch makes s (times_out t l)
  guarded_timeout l = record { marked = λ key new e. let there = written_there (is_place l t) (λ _. true) key new e in inr ((at_place l key t there.0).1, sym there.1); objects = λ _ _ e. none e; made = λ _ _ e. none e; heap = λ _ _ e. none e; past = λ _ _ e. none e; seen = λ _ _ e. none e; monitors = λ _ _ e. none e; asleep = λ _ _ e. none e; output = λ _ _ e. none e; ended = λ _ _ e. none e; lost = λ _ _ e. none e }

  -- printing adds to the thread's own output
  pub guarded_print : (out : List Value) → IsGuarded shape t touch makes s (record nothing { output = writes (is_thread t) (λ key. out) })
  guarded_print out = record { output = λ key new e. same_thread t key (written_there (is_thread t) (λ _. out) key new e).0; objects = λ _ _ e. none e; made = λ _ _ e. none e; heap = λ _ _ e. none e; past = λ _ _ e. none e; seen = λ _ _ e. none e; monitors = λ _ _ e. none e; asleep = λ _ _ e. none e; marked = λ _ _ e. none e; ended = λ _ _ e. none e; lost = λ _ _ e. none e }

  -- ending writes the thread's own end
  pub guarded_end : (fault : Option Fault) → IsGuarded shape t touch makes s (record nothing { ended = writes (is_thread t) (λ key. Some fault) })
  guarded_end fault = record { ended = λ key new e. same_thread t key (written_there (is_thread t) (λ _. Some fault) key new e).0; objects = λ _ _ e. none e; made = λ _ _ e. none e; heap = λ _ _ e. none e; past = λ _ _ e. none e; seen = λ _ _ e. none e; monitors = λ _ _ e. none e; asleep = λ _ _ e. none e; marked = λ _ _ e. none e; output = λ _ _ e. none e; lost = λ _ _ e. none e }

-- a hold after an entry has the level that it had, or the one wanted
entered_level : (level x : Level) (hold : Option Hold) → level_of (entered level hold) ≡ Some x → (level_of hold ≡ Some x) ⊎ (x ≡ level)
entered_level level x None e = inr (sym (cc e))
entered_level level x (Some hold) e = inl e

-- a hold after an exit has the level that it had
pub exited_level : (x : Level) (hold : Option Hold) → level_of (exited hold) ≡ Some x → level_of hold ≡ Some x
exited_level x None e = e
exited_level x (Some hold) e = by (eqb hold.count 1) e
  where
    by : (b : Bool) → level_of (cond b None (Some (record { level = hold.level; count = hold.count - 1 }))) ≡ Some x → Some hold.level ≡ Some x
    by true e = absurd (cc e)
    by false e = e

-- a waiter has its hold again at Write
resumed_level : (x : Level) (count : Option ℕ) → level_of (resumed count) ≡ Some x → x ≡ Write
resumed_level x None e = absurd (cc e)
resumed_level x (Some count) e = sym (cc e)

-- an object that is private to the thread is not shared
pub private_unshared : (t : ThreadId) (object : Option Object) → is_private_to t object ≡ true → is_shared object ≡ false
private_unshared t None e = absurd (cc e)
private_unshared t (Some object) e = by object.owner e
  where
    by : (owner : Option ThreadId) → is_owner t owner ≡ true → is_none owner ≡ false
    by None e = absurd (cc e)
    by (Some w) e = refl

module _ (shape : Shape) (t : ThreadId) (s : PlainState) where
  -- Each act writes only what it may. What an act writes whose reply has no line is nothing.
  pub guarded : (request : Request) (reply : Reply) (woken : Option ThreadId) → AnswersRequest shape t request reply s → IsGuarded shape t (ActTouches t request reply s) (ActMakes request reply) s (change_of shape t request reply woken s)
  guarded (New class n) (Made o) woken a = guarded_new shape t (ActTouches t (New class n) (Made o) s) (ActMakes (New class n) (Made o)) s class n o a.1 refl
  guarded (Get o f) (Val v) woken a = guarded_read shape t (ActTouches t (Get o f) (Val v) s) (ActMakes (Get o f) (Val v)) s o f (is_shared (s.objects o))
  guarded (Put o f v) Done woken a = elim a.1 [
    | inl own ↦ subst (λ b. IsGuarded shape t (ActTouches t (Put o f v) Done s) (ActMakes (Put o f v) Done) s (put t o f v b s)) (sym (private_unshared t (s.objects o) own)) (guarded_put_own shape t (ActTouches t (Put o f v) Done s) (ActMakes (Put o f v) Done) s o f v own)
    | inr h ↦ subst (λ b. IsGuarded shape t (ActTouches t (Put o f v) Done s) (ActMakes (Put o f v) Done) s (put t o f v b s)) (sym h.0) (guarded_put_shared shape t (ActTouches t (Put o f v) Done s) (ActMakes (Put o f v) Done) s o f v h.0 (inl h.1))
  ]
  guarded (Enter l level) Done woken a = guarded_hold shape t (ActTouches t (Enter l level) Done s) (ActMakes (Enter l level) Done) s l (entered level (s.monitors (l, t))) (λ x e. elim (entered_level level x (s.monitors (l, t)) e) [
    | inl h ↦ inl h
    | inr h ↦ inr (refl, h)
  ])
  guarded (Exit l) Done woken a = guarded_hold shape t (ActTouches t (Exit l) Done s) (ActMakes (Exit l) Done) s l (exited (s.monitors (l, t))) (λ x e. inl (exited_level x (s.monitors (l, t)) e))
  guarded (Wait l) Done woken a = guarded_wait shape t (ActTouches t (Wait l) Done s) (ActMakes (Wait l) Done) s l None (Some (count_of (s.monitors (l, t)))) (λ x e. absurd (cc e)) (inl a)
  guarded (Timeout l) Done woken a = guarded_timeout shape t (ActTouches t (Timeout l) Done s) (ActMakes (Timeout l) Done) s l
  guarded (Resume l) Done woken a = guarded_wait shape t (ActTouches t (Resume l) Done s) (ActMakes (Resume l) Done) s l (resumed (s.asleep (l, t))) None (λ x e. inr (refl, resumed_level x (s.asleep (l, t)) e)) (inr (refl, refl))
  guarded (Notify l) Done woken a = guarded_notify shape t (ActTouches t (Notify l) Done s) (ActMakes (Notify l) Done) s l woken (inl a)
  guarded (NotifyAll l) Done woken a = guarded_notify_all shape t (ActTouches t (NotifyAll l) Done s) (ActMakes (NotifyAll l) Done) s l (inl a)
  guarded (Print v) Done woken a = guarded_print shape t (ActTouches t (Print v) Done s) (ActMakes (Print v) Done) s (v ∷ s.output t)
  guarded (End fault) Done woken a = guarded_end shape t (ActTouches t (End fault) Done s) (ActMakes (End fault) Done) s fault
  guarded request reply woken a = guarded_nothing shape t (ActTouches t request reply s) (ActMakes request reply) s false
