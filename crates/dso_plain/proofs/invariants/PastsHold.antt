-- What holds of pasts in every state that is reached.
use Rattle.std.proofs.Common.{ℕ, ◌-◌, ◌<◌, ◌≤◌, ◌≡◌, inl, inr, refl, sym, ◌∙◌, ap, subst, Bool, true, false, cond, eqb, ltb, ◌&&◌, is_some, Option, Some, None, List, [], ◌∷◌, ◌++◌, length, arith}
use Rattle.std.proofs.lemmas.Bool.{lt-ltb, le-ltb}
use Rattle.std.proofs.lemmas.List.{append_assoc}
use Rattle.dso_base.specs.declared.lock.LockName.{LockName}
use Rattle.dso_base.specs.declared.lock.ThreadId.{ThreadId}
use Rattle.dso_base.specs.declared.request.Event.{Event}
use Rattle.dso_base.specs.declared.request.Event.TheVariants.{Act, Lost}
use Rattle.dso_base.specs.declared.request.Reply.{Reply}
use Rattle.dso_base.specs.declared.request.Reply.TheVariants.{Done, Made, Val}
use Rattle.dso_base.specs.declared.request.Request.{Request}
use Rattle.dso_base.specs.declared.request.Request.TheVariants.{New, Get, Put, Enter, Exit, Wait, Timeout, Resume, Notify, NotifyAll, Print, End}
use Rattle.dso_base.specs.declared.shape.Shape.{Shape}
use Rattle.dso_base.specs.declared.value.ClassId.{ClassId}
use Rattle.dso_base.specs.declared.value.Value.{Value}
use Rattle.dso_base.specs.declared.value.Value.TheVariants as value
use Rattle.dso_base.specs.Shape.{kind_of}
use Rattle.dso_base.specs.Following.{is_thread}
use Rattle.dso_plain.specs.KeyTests.{is_field, is_view}
use Rattle.dso_lookup.specs.Maps.{or_old}
use Rattle.dso_plain.specs.State.{Object, Hold, PlainState, opening, roots_object, is_private_to, is_shared, size_of, IsPrivate, IsShared, HasField, hold_on_guard}
use Rattle.dso_plain.specs.Possible.{MayButMarks, AnswersRequest, AnswersPut}
use Rattle.dso_base.specs.Block.{opening_value}
use Rattle.dso_plain.specs.After.{change_of, apply, after, read, read_shared, put, published, shared, present, opening_field, new_object, made_new, notifies}
use Rattle.dso_plain.specs.History.{RunsButMarks, end_of, last_state}
use Rattle.dso_plain.specs.StepInvariants.{PastInvariant}
use Rattle.dso_plain.specs.Past.{newest, KeepsPast, PastsGrow}
use Rattle.dso_lookup.specs.Reaching.{IsListed}
use Rattle.dso_plain.proofs.keys.SameKeys.{same_number, same_thread, thread_self, same_field, unwritten, written_is}
use Rattle.dso_lookup.proofs.Tests.{both}
use Rattle.dso_plain.proofs.independence.WritesGuarded.{guarded, published_private, private_unshared, shared_private}
use Rattle.dso_plain.proofs.independence.LeavesOthers.{differ, private_or_shared, absent_shared}

-- a past whose newest is there is not empty
has_one : (past : List Value) (v : Value) → newest past ≡ Some v → 0 < length past
has_one [] v e = absurd (cc e)
has_one (x ∷ older) v e = omega arith

-- what is kept says all of the law
pub kept_past : (s : PlainState) → PastInvariant s → KeepsPast s
kept_past s k = record {
  newest_is_heap = k.newest_is_heap;
  none_before = k.none_before;
  seen_in_past = λ t o f common has. place t o f (s.heap (o, f)) refl common (k.fields o f ∙ lt-ltb f (size_of (s.objects o)) has);
  unseen_before = λ t o f e.
      let w = k.within t o f in
      let d = ap (λ p. length p) (k.none_before o f e) in
      omega arith;
  fields = k.fields;
  private_listed = k.private_listed;
}
  where
    place : (t : ThreadId) (o f : ℕ) (at : Option Value) → s.heap (o, f) ≡ at → IsShared o s → is_some (s.heap (o, f)) ≡ true → s.seen (t, o, f) < length (s.past (o, f))
    place t o f None e common some = differ (is_some (s.heap (o, f))) (ap (λ x. is_some x) e) some
    place t o f (Some v) e common some =
        let w = k.within t o f in
        let d = has_one (s.past (o, f)) v (k.newest_is_heap o f common ∙ e) in
        omega arith

-- nothing is below 0
none_below : (f : ℕ) → ltb f 0 ≡ false
none_below f = le-ltb f 0 (omega arith)

-- a value is there where the test holds
some_where : {A : Type 0} (b : Bool) (v : A) → is_some (cond b (Some v) None) ≡ b
some_where true v = refl
some_where false v = refl

-- the roots' object alone is there at first
pub opening_kept : (shape : Shape) → PastInvariant (opening shape)
opening_kept shape = record {
  newest_is_heap = λ o f e. first (eqb o 0 && ltb f shape.roots);
  none_before = λ o f e. before (eqb o 0) (ltb f shape.roots) e;
  within = λ t o f. omega arith;
  fields = λ o f. sizes f (eqb o 0);
  private_listed = λ t o e. absurd (nobody t (eqb o 0) e);
}
  where
    first : (b : Bool) → newest (cond b (value.Null ∷ []) []) ≡ cond b (Some value.Null) None
    first true = refl
    first false = refl

    before : (a b : Bool) → is_shared (cond a (Some (roots_object shape)) None) ≡ false → cond (a && b) (value.Null ∷ []) [] ≡ []
    before true b e = absurd (cc e)
    before false b e = refl

    sizes : (f : ℕ) (a : Bool) → is_some (cond (a && ltb f shape.roots) (Some value.Null) None) ≡ ltb f (size_of (cond a (Some (roots_object shape)) None))
    sizes f true = some_where (ltb f shape.roots) value.Null
    sizes f false = sym (none_below f)

    nobody : (t : ThreadId) (a : Bool) → is_private_to t (cond a (Some (roots_object shape)) None) ≡ true → ⊥
    nobody t true e = absurd (cc e)
    nobody t false e = absurd (cc e)

-- a new object
module _ (shape : Shape) (t : ThreadId) (class : ClassId) (n o : ℕ) (s : PlainState) (k : PastInvariant s) (absent : s.objects o ≡ None) where
  -- other objects' pasts are as they were
  new_newest : (p f : ℕ) (b : Bool) → is_shared (or_old (cond b (Some (Some (new_object t class n))) None) (s.objects p)) ≡ true → newest (s.past (p, f)) ≡ or_old (cond b (Some (opening_field shape class n f)) None) (s.heap (p, f))
  new_newest p f true e = absurd (cc e)
  new_newest p f false e = k.newest_is_heap p f e

  -- the new object has no past
  new_before : (p f : ℕ) (b : Bool) → eqb p o ≡ b → is_shared (or_old (cond b (Some (Some (new_object t class n))) None) (s.objects p)) ≡ false → s.past (p, f) ≡ []
  new_before p f true d e = k.none_before p f (ap (λ x. is_shared (s.objects x)) (same_number p o d) ∙ ap (λ x. is_shared x) absent)
  new_before p f false d e = k.none_before p f e

  -- it has a value at each of its fields
  new_fields : (p f : ℕ) (b : Bool) → is_some (or_old (cond b (Some (opening_field shape class n f)) None) (s.heap (p, f))) ≡ ltb f (size_of (or_old (cond b (Some (Some (new_object t class n))) None) (s.objects p)))
  new_fields p f true = some_where (ltb f n) (opening_value (kind_of shape class f))
  new_fields p f false = k.fields p f

  -- it is listed as its thread's
  new_listed : (w : ThreadId) (p : ℕ) (b c : Bool) → eqb p o ≡ b → is_thread t w ≡ c → is_private_to w (or_old (cond b (Some (Some (new_object t class n))) None) (s.objects p)) ≡ true → IsListed p (or_old (cond c (Some (o ∷ s.made t)) None) (s.made w))
  new_listed w p true true d d' e = inl (same_number p o d)
  new_listed w p true false d d' e = differ (is_thread t w) d' (subst (λ x. is_thread t x ≡ true) (same_thread w t e) (thread_self t))
  new_listed w p false true d d' e = inr (subst (λ x. IsListed p (s.made x)) (same_thread t w d') (k.private_listed w p e))
  new_listed w p false false d d' e = k.private_listed w p e

  -- so a new object keeps it
  new_kept : PastInvariant (apply (made_new shape t class n o s) s)
  new_kept = record {
    newest_is_heap = λ p f e. new_newest p f (eqb p o) e;
    none_before = λ p f e. new_before p f (eqb p o) refl e;
    within = k.within;
    fields = λ p f. new_fields p f (eqb p o);
    private_listed = λ w p e. new_listed w p (eqb p o) (is_thread t w) refl refl e;
  }

-- a place that is seen
module _ (t : ThreadId) (o f : ℕ) (s : PlainState) (k : PastInvariant s) where
  -- the last place is in the past
  seen_within : (w : ThreadId) (p g : ℕ) (b : Bool) → is_view t o f (w, p, g) ≡ b → or_old (cond b (Some (length (s.past (o, f)) - 1)) None) (s.seen (w, p, g)) ≤ length (s.past (p, g)) - 1
  seen_within w p g true e =
      let d = ap (λ x. length (s.past x)) (same_field o f (p, g) (both (is_thread t w) (eqb p o && eqb g f) e).1) in
      omega arith
  seen_within w p g false e = k.within w p g

  -- a read of a shared object keeps it
  read_shared_kept : (hold : Option Hold) → PastInvariant (apply (read_shared t o f hold s) s)
  read_shared_kept None = k
  read_shared_kept (Some hold) = record {
    newest_is_heap = k.newest_is_heap;
    none_before = k.none_before;
    within = λ w p g. seen_within w p g (is_view t o f (w, p, g)) refl;
    fields = k.fields;
    private_listed = k.private_listed;
  }

  -- and so does any read
  read_kept : (shape : Shape) (b : Bool) → PastInvariant (apply (read shape t o f b s) s)
  read_kept shape false = k
  read_kept shape true = read_shared_kept (hold_on_guard shape t o f s)

-- the newest of a new past is the present value
newest_present : (v : Option Value) → newest (present v) ≡ v
newest_present None = refl
newest_present (Some v) = refl

-- what was private and is shared is shared
shared_is : (t : ThreadId) (object : Option Object) → is_private_to t object ≡ true → is_shared (shared object) ≡ true
shared_is t None e = absurd (cc e)
shared_is t (Some object) e = refl

-- and has its size
pub shared_size : (object : Option Object) → size_of (shared object) ≡ size_of object
shared_size None = refl
shared_size (Some object) = refl

-- a put
module _ (t : ThreadId) (o f : ℕ) (v : Value) (s : PlainState) (k : PastInvariant s) (has : HasField o f s) where
  -- the field is one that the object has
  put_field : (key : ℕ × ℕ) → is_field o f key ≡ true → ltb key.1 (size_of (s.objects key.0)) ≡ true
  put_field key e = subst (λ x. ltb x.1 (size_of (s.objects x.0)) ≡ true) (sym (same_field o f key e)) (lt-ltb f (size_of (s.objects o)) has)

  -- into a private object
  module _ (own : IsPrivate t o s) where
    own_newest : (p g : ℕ) (b : Bool) → is_field o f (p, g) ≡ b → IsShared p s → newest (s.past (p, g)) ≡ or_old (cond b (Some (Some v)) None) (s.heap (p, g))
    own_newest p g true d e = private_or_shared t (s.objects o) own (subst (λ x. is_shared (s.objects x.0) ≡ true) (same_field o f (p, g) d) e)
    own_newest p g false d e = k.newest_is_heap p g e

    own_fields : (p g : ℕ) (b : Bool) → is_field o f (p, g) ≡ b → is_some (or_old (cond b (Some (Some v)) None) (s.heap (p, g))) ≡ ltb g (size_of (s.objects p))
    own_fields p g true d = sym (put_field (p, g) d)
    own_fields p g false d = k.fields p g

    put_own_kept : PastInvariant (apply (put t o f v false s) s)
    put_own_kept = record {
      newest_is_heap = λ p g e. own_newest p g (is_field o f (p, g)) refl e;
      none_before = k.none_before;
      within = k.within;
      fields = λ p g. own_fields p g (is_field o f (p, g)) refl;
      private_listed = k.private_listed;
    }

  -- into a shared object
  module _ (common : IsShared o s) where
    common_newest : (p g : ℕ) (b c : Bool) → is_shared (or_old (cond c (Some (shared (s.objects p))) None) (s.objects p)) ≡ true → newest (or_old (cond b (Some (v ∷ s.past (o, f))) (cond c (Some (present (s.heap (p, g)))) None)) (s.past (p, g))) ≡ or_old (cond b (Some (Some v)) None) (s.heap (p, g))
    common_newest p g true c e = refl
    common_newest p g false true e = newest_present (s.heap (p, g))
    common_newest p g false false e = k.newest_is_heap p g e

    common_before : (p g : ℕ) (b c : Bool) → is_field o f (p, g) ≡ b → published t v s p ≡ c → is_shared (or_old (cond c (Some (shared (s.objects p))) None) (s.objects p)) ≡ false → or_old (cond b (Some (v ∷ s.past (o, f))) (cond c (Some (present (s.heap (p, g)))) None)) (s.past (p, g)) ≡ []
    common_before p g b true d d' e = differ (is_shared (shared (s.objects p))) e (shared_is t (s.objects p) (published_private t v s p d'))
    common_before p g true false d d' e = differ (is_shared (s.objects p)) e (subst (λ x. is_shared (s.objects x.0) ≡ true) (sym (same_field o f (p, g) d)) common)
    common_before p g false false d d' e = k.none_before p g e

    common_unseen : (w : ThreadId) (p g : ℕ) → IsPrivate t p s → s.seen (w, p, g) ≤ length (present (s.heap (p, g))) - 1
    common_unseen w p g own =
        let h = k.within w p g in
        let e = ap (λ x. length x) (k.none_before p g (private_unshared t (s.objects p) own)) in
        omega arith

    common_within : (w : ThreadId) (p g : ℕ) (a b c : Bool) → is_field o f (p, g) ≡ b → published t v s p ≡ c → or_old (cond (a && b) (Some (length (s.past (o, f)))) None) (s.seen (w, p, g)) ≤ length (or_old (cond b (Some (v ∷ s.past (o, f))) (cond c (Some (present (s.heap (p, g)))) None)) (s.past (p, g))) - 1
    common_within w p g true true c d d' = omega arith
    common_within w p g false true c d d' =
        let e = ap (λ x. length (s.past x)) (same_field o f (p, g) d) in
        let h = k.within w p g in
        omega arith
    common_within w p g true false true d d' = common_unseen w p g (published_private t v s p d')
    common_within w p g false false true d d' = common_unseen w p g (published_private t v s p d')
    common_within w p g true false false d d' = k.within w p g
    common_within w p g false false false d d' = k.within w p g

    common_size : (p : ℕ) (c : Bool) → size_of (or_old (cond c (Some (shared (s.objects p))) None) (s.objects p)) ≡ size_of (s.objects p)
    common_size p true = shared_size (s.objects p)
    common_size p false = refl

    common_fields : (p g : ℕ) (b : Bool) → is_field o f (p, g) ≡ b → is_some (or_old (cond b (Some (Some v)) None) (s.heap (p, g))) ≡ ltb g (size_of (s.objects p))
    common_fields p g true d = sym (put_field (p, g) d)
    common_fields p g false d = k.fields p g

    common_listed : (w : ThreadId) (p : ℕ) (c : Bool) → is_private_to w (or_old (cond c (Some (shared (s.objects p))) None) (s.objects p)) ≡ true → IsListed p (s.made w)
    common_listed w p true e = differ (is_private_to w (shared (s.objects p))) (shared_private w (s.objects p)) e
    common_listed w p false e = k.private_listed w p e

    put_shared_kept : PastInvariant (apply (put t o f v true s) s)
    put_shared_kept = record {
      newest_is_heap = λ p g e. common_newest p g (is_field o f (p, g)) (published t v s p) e;
      none_before = λ p g e. common_before p g (is_field o f (p, g)) (published t v s p) refl refl e;
      within = λ w p g. common_within w p g (is_thread t w) (is_field o f (p, g)) (published t v s p) refl refl;
      fields = λ p g. common_fields p g (is_field o f (p, g)) refl ∙ sym (ap (λ n. ltb g n) (common_size p (published t v s p)));
      private_listed = λ w p e. common_listed w p (published t v s p) e;
    }

module _ (shape : Shape) (t : ThreadId) (s : PlainState) where
  -- a put keeps it
  put_kept : (o f : ℕ) (v : Value) → AnswersPut shape t o f Done s → PastInvariant s → PastInvariant (apply (put t o f v (is_shared (s.objects o)) s) s)
  put_kept o f v a k = elim a.1 [
    | inl own ↦ subst (λ b. PastInvariant (apply (put t o f v b s) s)) (sym (private_unshared t (s.objects o) own)) (put_own_kept t o f v s k a.0 own)
    | inr h ↦ subst (λ b. PastInvariant (apply (put t o f v b s) s)) (sym h.0) (put_shared_kept t o f v s k a.0 h.0)
  ]

  -- a notification does not bear on it
  notify_kept : (l : LockName) (woken : Option ThreadId) → PastInvariant s → PastInvariant (apply (notifies l woken) s)
  notify_kept l None k = k
  notify_kept l (Some w) k = k

  -- each act keeps it
  act_kept : (request : Request) (reply : Reply) (woken : Option ThreadId) → AnswersRequest shape t request reply s → PastInvariant s → PastInvariant (apply (change_of shape t request reply woken s) s)
  act_kept (New class n) (Made o) woken a k = new_kept shape t class n o s k a.1
  act_kept (Get o f) (Val v) woken a k = read_kept t o f s k shape (is_shared (s.objects o))
  act_kept (Put o f v) Done woken a k = put_kept o f v a k
  act_kept (Enter l level) Done woken a k = k
  act_kept (Exit l) Done woken a k = k
  act_kept (Wait l) Done woken a k = k
  act_kept (Timeout l) Done woken a k = k
  act_kept (Resume l) Done woken a k = k
  act_kept (Notify l) Done woken a k = notify_kept l woken k
  act_kept (NotifyAll l) Done woken a k = k
  act_kept (Print v) Done woken a k = k
  act_kept (End fault) Done woken a k = k
  act_kept request reply woken a k = k

-- each event keeps it
pub event_kept : (shape : Shape) (e : Event) (s : PlainState) → MayButMarks shape e s → PastInvariant s → PastInvariant (after shape e s)
event_kept shape (Act t request reply woken) s m k = act_kept shape t s request reply woken m.answers k
event_kept shape (Lost client) s m k = k

-- a run keeps it
pub run_kept : (shape : Shape) (es : List Event) (s : PlainState) → RunsButMarks shape es s → PastInvariant s → PastInvariant (end_of shape es s)
run_kept shape [] s m k = k
run_kept shape (e ∷ es) s m k = run_kept shape es (after shape e s) m.1 (event_kept shape e s m.0 k)

-- in every state that is reached
pub past : (shape : Shape) (h : List Event) → RunsButMarks shape h (opening shape) → KeepsPast (last_state shape h)
past shape h m = kept_past (last_state shape h) (run_kept shape h (opening shape) m (opening_kept shape))

-- a step lets pasts grow
act_grows : (shape : Shape) (t : ThreadId) (request : Request) (reply : Reply) (woken : Option ThreadId) (s : PlainState) → AnswersRequest shape t request reply s → PastsGrow s (apply (change_of shape t request reply woken s) s)
act_grows shape t request reply woken s a =
    let g = guarded shape t s request reply woken a in
    let c = change_of shape t request reply woken s in
    record {
      shared = λ o common. ap (λ x. is_shared x) (unwritten c.objects s.objects o (λ v e. elim (g.objects o v e).0 [
        | inl own ↦ private_or_shared t (s.objects o) own common
        | inr new ↦ absent_shared (s.objects o) new.0 common
      ])) ∙ common;
      grown = λ o f common. written_is (λ new. (newer : List Value) × (new ≡ newer ++ s.past (o, f))) c.past s.past (o, f) (λ v e. elim (g.past (o, f) v e) [
        | inl own ↦ private_or_shared t (s.objects o) own common
        | inr h ↦ (h.1.0 ∷ [], h.1.1)
      ]) ([], refl);
    }

-- an event lets pasts grow
event_grows : (shape : Shape) (e : Event) (s : PlainState) → MayButMarks shape e s → PastsGrow s (after shape e s)
event_grows shape (Act t request reply woken) s m = act_grows shape t request reply woken s m.answers
event_grows shape (Lost client) s m = record { shared = λ o common. common; grown = λ o f common. ([], refl) }

-- a run lets pasts grow
pub pasts_grow : (shape : Shape) (es : List Event) (s : PlainState) → RunsButMarks shape es s → PastsGrow s (end_of shape es s)
pasts_grow shape [] s m = record { shared = λ o common. common; grown = λ o f common. ([], refl) }
pasts_grow shape (e ∷ es) s m =
    let one = event_grows shape e s m.0 in
    let rest = pasts_grow shape es (after shape e s) m.1 in
    record {
      shared = λ o common. rest.shared o (one.shared o common);
      grown = λ o f common.
          let first = one.grown o f common in
          let more = rest.grown o f (one.shared o common) in
          (more.0 ++ first.0, more.1 ∙ (ap (λ x. more.0 ++ x) first.1 ∙ sym (append_assoc more.0 first.0 (s.past (o, f)))));
    }
