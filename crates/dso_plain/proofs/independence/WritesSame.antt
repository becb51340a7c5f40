-- A step writes the same after a step of another thread that has nothing to do with it.
use Rattle.std.proofs.Common.{ℕ, zero, suc, ◌-◌, ◌≡◌, ◌≢◌, inl, inr, refl, sym, ◌∙◌, ap, subst, Bool, true, false, cond, eqb, ◌&&◌, ◌||◌, is_some, Option, Some, None, List, ◌∷◌, length}
use Rattle.std.proofs.Math.Path.{fun_ext}
use Rattle.dso_base.specs.declared.lock.Level.{Level}
use Rattle.dso_base.specs.declared.lock.Level.TheVariants.{Write}
use Rattle.dso_base.specs.declared.lock.LockName.{LockName}
use Rattle.dso_base.specs.declared.lock.ThreadId.{ThreadId}
use Rattle.dso_base.specs.declared.request.Reply.{Reply}
use Rattle.dso_base.specs.declared.request.Reply.TheVariants.{Done, Made, Val}
use Rattle.dso_base.specs.declared.request.Request.{Request}
use Rattle.dso_base.specs.declared.request.Request.TheVariants.{New, Get, Put, Enter, Exit, Wait, Timeout, Resume, Notify, NotifyAll, Print, End}
use Rattle.dso_base.specs.declared.shape.Shape.{Shape}
use Rattle.dso_base.specs.declared.value.Value.{Value}
use Rattle.dso_base.specs.declared.value.Value.TheVariants as value
use Rattle.dso_base.specs.Reach.{reach, has_way, names_within}
use Rattle.dso_base.specs.Following.{is_thread}
use Rattle.dso_plain.specs.KeyTests.{is_lock, is_field, is_place, is_view}
use Rattle.dso_lookup.specs.Maps.{writes}
use Rattle.dso_plain.specs.State.{Hold, PlainState, is_private_to, is_mine, is_shared, size_of, IsPrivate, IsShared, guard_in, hold_on_guard}
use Rattle.dso_plain.specs.Possible.{AnswersRequest, AnswersGet, AnswersPut}
use Rattle.dso_plain.specs.After.{nothing, new_object, read, read_shared, put, notifies_all, entered, exited, count_of, resumed, change_of, published, shared, present, opening_field, names, names_below, holds_reference}
use Rattle.dso_plain.specs.Touches.{ActTouches, NoClash}
use Rattle.dso_plain.proofs.keys.SameKeys.{same_lock}
use Rattle.dso_plain.proofs.independence.WritesGuarded.{private_unshared, published_private}
use Rattle.dso_plain.proofs.independence.LeavesOthers.{IsQuiet, not_both}
use Rattle.dso_plain.proofs.independence.StaysPossible.{some_level, kept_private, kept_shared, same_guard_hold}

-- what is found depends on the thread's own objects alone
reach_same : (mine mine' : ℕ → Bool) (names names' : ℕ → ℕ → Bool) (objects objects' : List ℕ) → mine ≡ mine' → names_within mine names ≡ names_within mine' names' → objects ≡ objects' → (v : Value) (o : ℕ) → reach mine names objects v o ≡ reach mine' names' objects' v o
reach_same mine mine' names names' objects objects' e d k (value.Ref a) o = λ i. e i a && (e i o && (eqb o a || has_way (d i) (k i) a o))
reach_same mine mine' names names' objects objects' e d k value.Null o = refl
reach_same mine mine' names names' objects objects' e d k (value.Long n) o = refl
reach_same mine mine' names names' objects objects' e d k (value.Bool b) o = refl
reach_same mine mine' names names' objects objects' e d k (value.Text n) o = refl

-- the same fields name the same objects
names_below_same : (heap heap' : ℕ × ℕ → Option Value) (a : ℕ) → ((f : ℕ) → heap (a, f) ≡ heap' (a, f)) → (n o : ℕ) → names_below heap n a o ≡ names_below heap' n a o
names_below_same heap heap' a e zero o = refl
names_below_same heap heap' a e (suc n) o = λ i. holds_reference o (e n i) || names_below_same heap heap' a e n o i

-- the same is written where the test holds
writes_same : {A : Type 0} (b : Bool) (v w : A) → (b ≡ true → v ≡ w) → cond b (Some v) None ≡ cond b (Some w) None
writes_same true v w e = ap Some (e refl)
writes_same false v w e = refl

module _ (shape : Shape) (t u : ThreadId) (touch : LockName → Level → Type 0) (makes : ℕ → Type 0) (s r : PlainState) (other : u ≢ t) (q : IsQuiet shape t touch makes s r) where
  -- the same objects are u's own
  same_mine : is_mine u r ≡ is_mine u s
  same_mine = fun_ext (λ o. q.privacy u o other)

  -- u's own objects name the same
  same_names_from : (a b : ℕ) (mine : Bool) → is_private_to u (s.objects a) ≡ mine → (mine && (is_private_to u (s.objects b) && names r a b)) ≡ (mine && (is_private_to u (s.objects b) && names s a b))
  same_names_from a b false e = refl
  same_names_from a b true e = ap (λ x. is_private_to u (s.objects b) && x) (
      ap (λ x. names_below r.heap (size_of x) a b) (kept_private shape t u touch makes s r other q a e)
      ∙ names_below_same r.heap s.heap a (λ f. q.heap_own u (a, f) other e) (size_of (s.objects a)) b)

  -- and so they do within u's own
  same_names : names_within (is_mine u r) (names r) ≡ names_within (is_mine u s) (names s)
  same_names = fun_ext (λ a. fun_ext (λ b. ap (λ mine. mine a && (mine b && names r a b)) same_mine ∙ same_names_from a b (is_private_to u (s.objects a)) refl))

  -- the same objects are published
  same_published : (v : Value) → published u v r ≡ published u v s
  same_published v = fun_ext (λ o. reach_same (is_mine u r) (is_mine u s) (names r) (names s) (r.made u) (s.made u) same_mine same_names (q.made u other) v o)

  -- and they become the same
  same_objects : (v : Value) → writes (published u v r) (λ o. shared (r.objects o)) ≡ writes (published u v s) (λ o. shared (s.objects o))
  same_objects v = ap (λ p. writes p (λ o. shared (r.objects o))) (same_published v) ∙ fun_ext (λ o. writes_same (published u v s o) (shared (r.objects o)) (shared (s.objects o)) (λ e. ap shared (kept_private shape t u touch makes s r other q o (published_private u v s o e))))

  -- with the same pasts
  same_pasts : (v : Value) → writes (λ key. published u v r key.0) (λ key. present (r.heap key)) ≡ writes (λ key. published u v s key.0) (λ key. present (s.heap key))
  same_pasts v = ap (λ p. writes (λ key. p key.0) (λ key. present (r.heap key))) (same_published v) ∙ fun_ext (λ key. writes_same (published u v s key.0) (present (r.heap key)) (present (s.heap key)) (λ e. ap present (q.heap_own u key other (published_private u v s key.0 e))))

  -- a put into a shared object, whose guard the other does not touch at Write, writes the same
  alike_put_shared : (o f : ℕ) (v : Value) → IsShared o s → (touch (guard_in shape s o f) Write → ⊥) → put u o f v true r ≡ put u o f v true s
  alike_put_shared o f v common never =
      let past = q.past (o, f) common never in
      λ i. record nothing {
        objects = same_objects v i;
        heap = writes (is_field o f) (λ key. Some v);
        past = λ key. cond (is_field o f key) (Some (v ∷ past i)) (same_pasts v i key);
        seen = writes (is_view u o f) (λ key. length (past i));
      }

  -- an object of u is no more shared there than here
  unshared : (o : ℕ) → IsPrivate u o s → is_shared (r.objects o) ≡ is_shared (s.objects o)
  unshared o own = ap (λ x. is_shared x) (kept_private shape t u touch makes s r other q o own)

  -- a shared object is shared there as here
  still_common : (o : ℕ) → IsShared o s → is_shared (r.objects o) ≡ is_shared (s.objects o)
  still_common o common = ap (λ x. is_shared x) (kept_shared shape t u touch makes s r other q o common)

  -- a put writes the same
  alike_put : (o f : ℕ) (v : Value) → NoClash touch (ActTouches u (Put o f v) Done s) → AnswersPut shape u o f Done s → put u o f v (is_shared (r.objects o)) r ≡ put u o f v (is_shared (s.objects o)) s
  alike_put o f v locks a = elim a.1 [
    | inl own ↦ ap (λ b. put u o f v b r) (unshared o own ∙ private_unshared u (s.objects o) own) ∙ sym (ap (λ b. put u o f v b s) (private_unshared u (s.objects o) own))
    | inr h ↦ ap (λ b. put u o f v b r) (still_common o h.0 ∙ h.0)
        ∙ (alike_put_shared o f v h.0 (λ w. not_both touch (ActTouches u (Put o f v) Done s) locks (guard_in shape s o f) w (inl h.1))
        ∙ sym (ap (λ b. put u o f v b s) h.0))
  ]

  -- a read under the guard sees the same place
  alike_seen : (o f : ℕ) (hold : Option Hold) → hold ≢ None → r.past (o, f) ≡ s.past (o, f) → read_shared u o f hold r ≡ read_shared u o f hold s
  alike_seen o f None held e = absurd (held refl)
  alike_seen o f (Some hold) held e = ap (λ p. record nothing { seen = writes (is_view u o f) (λ key. length p - 1) }) e

  -- a read without the guard is counted
  alike_unguarded : (o f : ℕ) (hold : Option Hold) → hold ≡ None → read_shared u o f hold r ≡ read_shared u o f hold s
  alike_unguarded o f None e = refl
  alike_unguarded o f (Some hold) e = absurd (cc e)

  -- reads of a shared object are the same where they are with the hold of s
  alike_read_shared : (o f : ℕ) → IsShared o s → read_shared u o f (hold_on_guard shape u o f s) r ≡ read_shared u o f (hold_on_guard shape u o f s) s → read shape u o f (is_shared (r.objects o)) r ≡ read shape u o f (is_shared (s.objects o)) s
  alike_read_shared o f common e =
      ap (λ b. read shape u o f b r) (still_common o common ∙ common)
      ∙ (ap (λ hold. read_shared u o f hold r) (same_guard_hold shape t u touch makes s r other q o f common)
      ∙ (e ∙ sym (ap (λ b. read shape u o f b s) common)))

  -- a read writes the same
  alike_get : (o f : ℕ) (v : Value) → NoClash touch (ActTouches u (Get o f) (Val v) s) → AnswersGet shape u o f (Val v) s → read shape u o f (is_shared (r.objects o)) r ≡ read shape u o f (is_shared (s.objects o)) s
  alike_get o f v locks (inl a) = ap (λ b. read shape u o f b r) (unshared o a.0 ∙ private_unshared u (s.objects o) a.0) ∙ sym (ap (λ b. read shape u o f b s) (private_unshared u (s.objects o) a.0))
  alike_get o f v locks (inr (inl a)) =
      let level = some_level (hold_on_guard shape u o f s) a.1 in
      alike_read_shared o f a.0 (alike_seen o f (hold_on_guard shape u o f s) a.1 (q.past (o, f) a.0 (λ w. let e = (locks (guard_in shape s o f) Write level.0 w (inl level.1)).0 in cc e)))
  alike_get o f v locks (inr (inr a)) = alike_read_shared o f a.0 (alike_unguarded o f (hold_on_guard shape u o f s) a.1)

  -- the same waiters are marked
  alike_marks : (l : LockName) → (touch l Write → ⊥) → notifies_all l r ≡ notifies_all l s
  alike_marks l never = ap (λ p. record nothing { marked = writes p (λ key. true) }) (fun_ext (λ key. by key (is_lock l key.0) refl))
    where
      by : (key : LockName × ThreadId) (b : Bool) → is_lock l key.0 ≡ b → (b && is_some (r.asleep key)) ≡ (b && is_some (s.asleep key))
      by key false e = refl
      by key true e = ap (λ x. is_some x) (q.asleep key.0 key.1 (λ w. never (subst (λ k. touch k Write) (same_lock l key.0 e) w)))

  -- the act writes the same
  pub alike : (request : Request) (reply : Reply) (woken : Option ThreadId) → NoClash touch (ActTouches u request reply s) → AnswersRequest shape u request reply s → change_of shape u request reply woken r ≡ change_of shape u request reply woken s
  alike (New class n) (Made o) woken locks a = ap (λ m. record nothing {
    objects = writes (λ key. eqb key o) (λ key. Some (new_object u class n));
    made = writes (is_thread u) (λ key. o ∷ m);
    heap = writes (λ key. eqb key.0 o) (λ key. opening_field shape class n key.1);
  }) (q.made u other)
  alike (Get o f) (Val v) woken locks a = alike_get o f v locks a
  alike (Put o f v) Done woken locks a = alike_put o f v locks a
  alike (Enter l level) Done woken locks a = ap (λ hold. record nothing { monitors = writes (is_place l u) (λ key. entered level hold) }) (q.monitors l u other)
  alike (Exit l) Done woken locks a = ap (λ hold. record nothing { monitors = writes (is_place l u) (λ key. exited hold) }) (q.monitors l u other)
  alike (Wait l) Done woken locks a = ap (λ hold. record nothing {
    monitors = writes (is_place l u) (λ key. None);
    asleep = writes (is_place l u) (λ key. Some (count_of hold));
    marked = writes (is_place l u) (λ key. false);
  }) (q.monitors l u other)
  alike (Resume l) Done woken locks a = ap (λ count. record nothing {
    monitors = writes (is_place l u) (λ key. resumed count);
    asleep = writes (is_place l u) (λ key. None);
    marked = writes (is_place l u) (λ key. false);
  }) (q.own_waits l u other)
  alike (NotifyAll l) Done woken locks a = alike_marks l (λ w. not_both touch (ActTouches u (NotifyAll l) Done s) locks l w (inl a))
  alike (Print v) Done woken locks a = ap (λ out. record nothing { output = writes (is_thread u) (λ key. v ∷ out) }) (q.output u other)
  alike (Timeout l) Done woken locks a = refl
  alike (Notify l) Done woken locks a = refl
  alike (End fault) Done woken locks a = refl
  alike request reply woken locks a = refl
