-- What a step of one thread leaves to the others.
use Rattle.std.proofs.Common.{ℕ, ◌≡◌, ◌≢◌, ◌⊎◌, inl, inr, refl, sym, ◌∙◌, ap, subst, Bool, true, false, Option, Some, None, List}
use Rattle.dso_base.specs.declared.lock.Level.{Level}
use Rattle.dso_base.specs.declared.lock.Level.TheVariants.{Write}
use Rattle.dso_base.specs.declared.lock.LockName.{LockName}
use Rattle.dso_base.specs.declared.lock.ThreadId.{ThreadId}
use Rattle.dso_base.specs.declared.shape.Shape.{Shape}
use Rattle.dso_base.specs.declared.value.Value.{Value}
use Rattle.dso_plain.specs.State.{Object, PlainState, is_private_to, is_shared, IsPrivate, IsShared, level_of, guard_in}
use Rattle.dso_plain.specs.Possible.{StandsFrom}
use Rattle.dso_plain.specs.After.{Change, apply}
use Rattle.dso_plain.specs.Touches.{NoClash, NoCommonId}
use Rattle.dso_plain.proofs.keys.SameKeys.{written_is, unwritten}
use Rattle.dso_plain.proofs.independence.ChangesCommute.{AreDisjoint}
use Rattle.dso_plain.proofs.independence.WritesGuarded.{IsGuarded, IsMark, IsNew, IsUnderGuard, IsLonger, other_private, private_unshared}

-- true is not false
pub differ : {A : Type 0} (b : Bool) → b ≡ false → b ≡ true → A
differ b e d = absurd (cc (sym e ∙ d))

-- an object that is not there is nobody's
pub absent_private : {A : Type 0} (t : ThreadId) (object : Option Object) → object ≡ None → is_private_to t object ≡ true → A
absent_private t object e d = differ (is_private_to t object) (ap (λ x. is_private_to t x) e) d

-- an object that is not there is not shared
pub absent_shared : {A : Type 0} (object : Option Object) → object ≡ None → is_shared object ≡ true → A
absent_shared object e d = differ (is_shared object) (ap (λ x. is_shared x) e) d

-- an object is not private and shared
pub private_or_shared : {A : Type 0} (t : ThreadId) (object : Option Object) → is_private_to t object ≡ true → is_shared object ≡ true → A
private_or_shared t object e d = differ (is_shared object) (private_unshared t object e) d

-- an object is not private to two threads
pub private_to_one : {A : Type 0} (t w : ThreadId) (object : Option Object) → is_private_to t object ≡ true → is_private_to w object ≡ true → w ≢ t → A
private_to_one t w object e d ne = differ (is_private_to w object) (other_private t w object e ne) d

-- What is the same in r as in s after a step of t that touches these locks and makes these ids.
pub record IsQuiet (shape : Shape) (t : ThreadId) (touch : LockName → Level → Type 0) (makes : ℕ → Type 0) (s r : PlainState) : Type 0 where
  pub privacy : (w : ThreadId) (o : ℕ) → w ≢ t → is_private_to w (r.objects o) ≡ is_private_to w (s.objects o)
  pub stays : (o : ℕ) → (IsPrivate t o s → ⊥) → (s.objects o ≡ None → ⊥) → r.objects o ≡ s.objects o
  pub fresh : (o : ℕ) → s.objects o ≡ None → (makes o → ⊥) → r.objects o ≡ None
  pub made : (w : ThreadId) → w ≢ t → r.made w ≡ s.made w
  pub heap_own : (w : ThreadId) (key : ℕ × ℕ) → w ≢ t → IsPrivate w key.0 s → r.heap key ≡ s.heap key
  pub heap : (key : ℕ × ℕ) → IsShared key.0 s → (touch (guard_in shape s key.0 key.1) Write → ⊥) → r.heap key ≡ s.heap key
  pub past : (key : ℕ × ℕ) → IsShared key.0 s → (touch (guard_in shape s key.0 key.1) Write → ⊥) → r.past key ≡ s.past key
  pub grows : (key : ℕ × ℕ) (place : ℕ) (v : Value) → IsShared key.0 s → StandsFrom place v (s.past key) → StandsFrom place v (r.past key)
  pub seen : (key : ThreadId × ℕ × ℕ) → key.0 ≢ t → r.seen key ≡ s.seen key
  pub monitors : (l : LockName) (w : ThreadId) → w ≢ t → r.monitors (l, w) ≡ s.monitors (l, w)
  pub held : (l : LockName) (x : Level) → level_of (r.monitors (l, t)) ≡ Some x → touch l x
  pub own_waits : (l : LockName) (w : ThreadId) → w ≢ t → r.asleep (l, w) ≡ s.asleep (l, w)
  pub asleep : (l : LockName) (w : ThreadId) → (touch l Write → ⊥) → r.asleep (l, w) ≡ s.asleep (l, w)
  pub marked : (l : LockName) (w : ThreadId) → w ≢ t → (touch l Write → ⊥) → r.marked (l, w) ≡ s.marked (l, w)
  pub stays_marked : (l : LockName) (w : ThreadId) → w ≢ t → s.marked (l, w) ≡ true → r.marked (l, w) ≡ true
  pub output : (w : ThreadId) → w ≢ t → r.output w ≡ s.output w
  pub ended : (w : ThreadId) → w ≢ t → r.ended w ≡ s.ended w
  pub lost : (client : ℕ) → r.lost client ≡ s.lost client

module _ (shape : Shape) (t : ThreadId) (touch : LockName → Level → Type 0) (makes : ℕ → Type 0) (s : PlainState) (c : Change) where
  -- what another thread might write is not one's own
  foreign : (w : ThreadId) (o : ℕ) → w ≢ t → IsPrivate t o s ⊎ IsNew makes s o → is_private_to w (s.objects o) ≡ false
  foreign w o ne (inl own) = other_private t w (s.objects o) own ne
  foreign w o ne (inr new) = ap (λ x. is_private_to w x) new.0

  -- a guarded change leaves to others what is theirs
  pub quiet : ((l : LockName) (x : Level) → level_of (s.monitors (l, t)) ≡ Some x → touch l x) → IsGuarded shape t touch makes s c → IsQuiet shape t touch makes s (apply c s)
  quiet mine g = record {
    privacy = λ w o ne. written_is (λ x. is_private_to w x ≡ is_private_to w (s.objects o)) c.objects s.objects o (λ v e. let h = g.objects o v e in h.1 w ne ∙ sym (foreign w o ne h.0)) refl;
    stays = λ o not_own there. unwritten c.objects s.objects o (λ v e. elim (g.objects o v e).0 [
      | inl own ↦ not_own own
      | inr new ↦ there new.0
    ]);
    fresh = λ o absent not_made. unwritten c.objects s.objects o (λ v e. elim (g.objects o v e).0 [
      | inl own ↦ absent_private t (s.objects o) absent own
      | inr new ↦ not_made new.1
    ]) ∙ absent;
    made = λ w ne. unwritten c.made s.made w (λ v e. ne (g.made w v e));
    heap_own = λ w key ne own. unwritten c.heap s.heap key (λ v e. elim (g.heap key v e) [
      | inl mine ↦ private_to_one t w (s.objects key.0) mine own ne
      | inr h ↦ elim h [
        | inl new ↦ absent_private w (s.objects key.0) new.0 own
        | inr under ↦ private_or_shared w (s.objects key.0) own under.0
      ]
    ]);
    heap = λ key common free. unwritten c.heap s.heap key (λ v e. elim (g.heap key v e) [
      | inl own ↦ private_or_shared t (s.objects key.0) own common
      | inr h ↦ elim h [
        | inl new ↦ absent_shared (s.objects key.0) new.0 common
        | inr under ↦ free under.1
      ]
    ]);
    past = λ key common free. unwritten c.past s.past key (λ v e. elim (g.past key v e) [
      | inl own ↦ private_or_shared t (s.objects key.0) own common
      | inr h ↦ free h.0.1
    ]);
    grows = λ key place v common stands. written_is (λ x. StandsFrom place v x) c.past s.past key (λ new e. elim (g.past key new e) [
      | inl own ↦ private_or_shared t (s.objects key.0) own common
      | inr h ↦ subst (λ x. StandsFrom place v x) (sym h.1.1) (inr stands)
    ]) stands;
    seen = λ key ne. unwritten c.seen s.seen key (λ v e. ne (g.seen key v e));
    monitors = λ l w ne. unwritten c.monitors s.monitors (l, w) (λ v e. ne (g.monitors (l, w) v e).0);
    held = λ l. written_is (λ hold. (x : Level) → level_of hold ≡ Some x → touch l x) c.monitors s.monitors (l, t) (λ v e. (g.monitors (l, t) v e).1) (mine l);
    own_waits = λ l w ne. unwritten c.asleep s.asleep (l, w) (λ v e. ne (g.asleep (l, w) v e).0);
    asleep = λ l w free. unwritten c.asleep s.asleep (l, w) (λ v e. free (g.asleep (l, w) v e).1);
    marked = λ l w ne free. unwritten c.marked s.marked (l, w) (λ v e. elim (g.marked (l, w) v e) [
      | inl h ↦ free h.0
      | inr h ↦ ne h.0
    ]);
    stays_marked = λ l w ne was. written_is (λ x. x ≡ true) c.marked s.marked (l, w) (λ v e. elim (g.marked (l, w) v e) [
      | inl h ↦ elim h.1 [
        | inl own ↦ absurd (ne own)
        | inr set ↦ set
      ]
      | inr h ↦ h.1
    ]) was;
    output = λ w ne. unwritten c.output s.output w (λ v e. ne (g.output w v e));
    ended = λ w ne. unwritten c.ended s.ended w (λ v e. ne (g.ended w v e));
    lost = λ client. unwritten c.lost s.lost client (λ v e. g.lost client v e);
  }

-- two that do not clash do not both touch a lock at Write
pub not_both : {A : Type 0} (touch touch' : LockName → Level → Type 0) → NoClash touch touch' → (l : LockName) → touch l Write → touch' l Write → A
not_both touch touch' apart l a b = let e = (apart l Write Write a b).0 in absurd (cc e)

module _ (shape : Shape) (t u : ThreadId) (touch touch' : LockName → Level → Type 0) (makes makes' : ℕ → Type 0) (s : PlainState) (ne : t ≢ u) (locks : NoClash touch touch') (ids : NoCommonId makes makes') where
  -- no object is written by both
  object_once : (o : ℕ) → IsPrivate t o s ⊎ IsNew makes s o → IsPrivate u o s ⊎ IsNew makes' s o → ⊥
  object_once o (inl a) (inl b) = private_to_one t u (s.objects o) a b (λ e. ne (sym e))
  object_once o (inl a) (inr b) = absent_private t (s.objects o) b.0 a
  object_once o (inr a) (inl b) = absent_private u (s.objects o) a.0 b
  object_once o (inr a) (inr b) = ids o a.1 b.1

  -- no field of the heap is written by both
  field_once : (key : ℕ × ℕ) → IsPrivate t key.0 s ⊎ IsNew makes s key.0 ⊎ IsUnderGuard shape touch s key → IsPrivate u key.0 s ⊎ IsNew makes' s key.0 ⊎ IsUnderGuard shape touch' s key → ⊥
  field_once key (inl a) (inl b) = private_to_one t u (s.objects key.0) a b (λ e. ne (sym e))
  field_once key (inl a) (inr (inl b)) = absent_private t (s.objects key.0) b.0 a
  field_once key (inl a) (inr (inr b)) = private_or_shared t (s.objects key.0) a b.0
  field_once key (inr (inl a)) (inl b) = absent_private u (s.objects key.0) a.0 b
  field_once key (inr (inl a)) (inr (inl b)) = ids key.0 a.1 b.1
  field_once key (inr (inl a)) (inr (inr b)) = absent_shared (s.objects key.0) a.0 b.0
  field_once key (inr (inr a)) (inl b) = private_or_shared u (s.objects key.0) b a.0
  field_once key (inr (inr a)) (inr (inl b)) = absent_shared (s.objects key.0) b.0 a.0
  field_once key (inr (inr a)) (inr (inr b)) = not_both touch touch' locks (guard_in shape s key.0 key.1) a.1 b.1

  -- a field whose past is written is one whose heap may be
  as_heap : (w : ThreadId) (touched : LockName → Level → Type 0) (made : ℕ → Type 0) (key : ℕ × ℕ) (new : List Value) → IsPrivate w key.0 s ⊎ (IsUnderGuard shape touched s key × IsLonger (s.past key) new) → IsPrivate w key.0 s ⊎ IsNew made s key.0 ⊎ IsUnderGuard shape touched s key
  as_heap w touched made key new (inl a) = inl a
  as_heap w touched made key new (inr a) = inr (inr a.0)

  -- a mark that both write is the same
  mark_once : (key : LockName × ThreadId) (v w : Bool) → IsMark t touch key v → IsMark u touch' key w → v ≡ w
  mark_once key v w (inl a) (inl b) = not_both touch touch' locks key.0 a.0 b.0
  mark_once key v w (inl (touched, inl own)) (inr b) = absurd (ne (sym own ∙ b.0))
  mark_once key v w (inl (touched, inr set)) (inr b) = set ∙ sym b.1
  mark_once key v w (inr a) (inl (touched, inl own)) = absurd (ne (sym a.0 ∙ own))
  mark_once key v w (inr a) (inl (touched, inr set)) = a.1 ∙ sym set
  mark_once key v w (inr a) (inr b) = absurd (ne (sym a.0 ∙ b.0))

  -- two steps that have nothing to do with each other write nothing at a common key, but marks that agree
  pub disjoint : (c d : Change) → IsGuarded shape t touch makes s c → IsGuarded shape u touch' makes' s d → AreDisjoint c d
  disjoint c d g h = record {
    objects = λ key v w a b. object_once key (g.objects key v a).0 (h.objects key w b).0;
    made = λ key v w a b. ne (sym (g.made key v a) ∙ h.made key w b);
    heap = λ key v w a b. field_once key (g.heap key v a) (h.heap key w b);
    past = λ key v w a b. field_once key (as_heap t touch makes key v (g.past key v a)) (as_heap u touch' makes' key w (h.past key w b));
    seen = λ key v w a b. ne (sym (g.seen key v a) ∙ h.seen key w b);
    monitors = λ key v w a b. ne (sym (g.monitors key v a).0 ∙ (h.monitors key w b).0);
    asleep = λ key v w a b. ne (sym (g.asleep key v a).0 ∙ (h.asleep key w b).0);
    marked = λ key v w a b. mark_once key v w (g.marked key v a) (h.marked key w b);
    output = λ key v w a b. ne (sym (g.output key v a) ∙ h.output key w b);
    ended = λ key v w a b. ne (sym (g.ended key v a) ∙ h.ended key w b);
    lost = λ key v w a b. g.lost key v a;
  }
