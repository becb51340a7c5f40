-- What bodies and sets tell of a state after a put into a shared object, and after publishing.
use Rattle.std.proofs.Common.{ℕ, ◌+◌, ◌<◌, ◌≤◌, ◌≡◌, ◌⊎◌, inl, inr, refl, sym, ◌∙◌, ap, subst, Bool, true, false, cond, not, eqb, ◌&&◌, is_some, Option, Some, None, List, [], ◌∷◌, length, arith}
use Rattle.std.specs.Prelude.{filter}
use Rattle.std.proofs.lemmas.Bool.{not-true, not_from_false}
use Rattle.dso_base.specs.declared.lock.ThreadId.{ThreadId}
use Rattle.dso_base.specs.declared.record.Body.{Body}
use Rattle.dso_base.specs.declared.record.Set.{Set}
use Rattle.dso_base.specs.declared.value.ClassId.{ClassId}
use Rattle.dso_base.specs.declared.value.Value.{Value}
use Rattle.dso_base.specs.Block.{body_in, with_value, insert_bodies, is_field_before, insert_set}
use Rattle.dso_lookup.specs.Maps.{or_old}
use Rattle.dso_plain.specs.State.{Object, PlainState, IsShared, is_private_to, is_shared, size_of}
use Rattle.dso_plain.specs.Possible.{IsOf}
use Rattle.dso_plain.specs.After as plain
use Rattle.dso_plain.proofs.independence.WritesGuarded.{shared_private}
use Rattle.dso_plain.proofs.keys.SameKeys.{same_number}
use Rattle.dso_plain.proofs.independence.LeavesOthers.{private_or_shared}
use Rattle.dso_law.specs.FitsUp.{Rises}
use Rattle.dso_law.specs.Copies.{is_set_of, value_by_sets}
use Rattle.dso_legal.specs.OwnObjects.{count_bodies}
use Rattle.dso_legal.proofs.objects.FoundBodies.{found_is, found_valued, some_valued, found_parted, some_parted, found_all_inserted, some_of_news, some_of_bodies}
use Rattle.dso_legal.proofs.leases.LeaseSteps.{no_both}
use Rattle.dso_legal.proofs.blocks.LocksOfEvents.{either_way}
use Rattle.dso_legal.proofs.objects.SetsFound.{value_put}
use Rattle.dso_legal.proofs.objects.TellsState.{IsBodyOf, Told, body_kept, some_found, still_shared, put_heap, put_elsewhere, valued_body}

module _ (t : ThreadId) (bodies published : List Body) (puts : List Set) (before : PlainState) (objects : ℕ → Option Object) (heap : ℕ × ℕ → Option Value) (past : ℕ × ℕ → List Value)
    (told : Told t bodies published puts before objects heap past) where
  -- a put into a shared object
  module _ (o f : ℕ) (v : Value) (has : f < size_of (objects o)) (common : is_shared (objects o) ≡ true) where
    -- the fields with the value
    abbrev Heap : ℕ × ℕ → Option Value
    Heap = put_heap t bodies published puts before objects heap past told o f v has

    -- the pasts with it
    abbrev pub put_past : ℕ × ℕ → List Value
    put_past key = or_old (cond (eqb key.0 o && eqb key.1 f) (Some (v ∷ past (o, f))) None) (past key)

    -- another object's fields are as they were
    elsewhere : (p g : ℕ) → eqb p o ≡ false → Heap (p, g) ≡ heap (p, g)
    elsewhere = put_elsewhere t bodies published puts before objects heap past told o f v has

    -- and so are their pasts
    past_elsewhere : (p g : ℕ) → eqb p o ≡ false → put_past (p, g) ≡ past (p, g)
    past_elsewhere p g e = ap (λ b. or_old (cond (b && eqb g f) (Some (v ∷ past (o, f))) None) (past (p, g))) e

    -- a private object is another
    private_other : (p : ℕ) → is_private_to t (objects p) ≡ true → eqb p o ≡ false
    private_other p own = by (eqb p o) refl
      where
        by : (b : Bool) → eqb p o ≡ b → b ≡ false
        by true e = private_or_shared t (objects p) own (ap (λ n. is_shared (objects n)) (same_number p o e) ∙ common)
        by false e = refl

    -- each private body
    private_each : (p : ℕ) (body : Body) → body_in p bodies ≡ Some body → (is_private_to t (objects p) ≡ true) × IsBodyOf body (objects p) (λ g. Heap (p, g))
    private_each p body e = let it = told.each p body e in
        (it.0, body_kept body (objects p) (objects p) (λ g. heap (p, g)) (λ g. Heap (p, g)) refl (λ g. elsewhere p g (private_other p it.0)) it.1)

    -- into one that was published in the block
    module _ (new : is_some (body_in o published) ≡ true) where
      -- it was not shared at the start
      new_before : is_shared (before.objects o) ≡ false
      new_before = let it = some_found (body_in o published) new in (told.news o it.0 it.1).2

      -- what was is another object
      shared_other : (p : ℕ) → IsShared p before → eqb p o ≡ false
      shared_other p e = by (eqb p o) refl
        where
          by : (b : Bool) → eqb p o ≡ b → b ≡ false
          by true same = no_both (is_shared (before.objects p)) e (ap (λ n. is_shared (before.objects n)) (same_number p o same) ∙ new_before)
          by false same = refl

      -- what is told with the value in its new contents
      pub told_put_new : Told t bodies (with_value o f v published) puts before objects Heap put_past
      told_put_new = record {
        each = private_each;
        all = told.all;
        news = λ p body e.
            let it = found_valued p o f v published body e in
            let was = told.news p it.0 it.1 in
            (was.0, subst (λ body. IsBodyOf body (objects p) (λ g. Heap (p, g))) (sym it.2) (valued_body t bodies published puts before objects heap past told o f v has p it.0 (found_is p published it.0 it.1) was.1), was.2);
        shared = λ p e. elim (told.shared p e) [
          | inl h ↦ inl h
          | inr h ↦ inr (some_valued p o f v published ∙ h)
        ];
        left_object = told.left_object;
        left_heap = λ p g e. elsewhere p g (shared_other p e) ∙ told.left_heap p g e;
        left_past = λ p g e none. past_elsewhere p g (shared_other p e) ∙ told.left_past p g e none;
        sets = told.sets;
      }

    -- into one that was shared at the start
    module _ (old : is_some (body_in o published) ≡ false) (rises : Rises is_field_before puts) where
      -- the set of the put
      abbrev pub Put : Set
      Put = record { object = o; field = f; value = v }

      -- the put's object was shared
      shared_before : IsShared o before
      shared_before = elim (told.shared o common) [
        | inl h ↦ h
        | inr h ↦ no_both (is_some (body_in o published)) h old
      ]

      -- a published object is another
      new_other : (p : ℕ) (body : Body) → body_in p published ≡ Some body → eqb p o ≡ false
      new_other p body e = by (eqb p o) refl
        where
          by : (b : Bool) → eqb p o ≡ b → b ≡ false
          by true same = no_both (is_some (body_in o published)) (ap (λ n. is_some (body_in n published)) (sym (same_number p o same)) ∙ ap is_some e) old
          by false same = refl

      -- the set is of the field where the put is
      set_of : (p g : ℕ) → is_set_of p g Put ≡ (eqb p o && eqb g f)
      set_of p g = ap (λ b. b && eqb f g) (either_way o p) ∙ ap (λ b. eqb p o && b) (either_way f g)

      -- the values that the sets give, with the put
      put_value : (p g : ℕ) (x : Option Value) → value_by_sets p g (insert_set Put puts) x ≡ cond (eqb p o && eqb g f) (Some v) (value_by_sets p g puts x)
      put_value p g x = value_put p g Put puts x rises ∙ ap (λ b. cond b (Some v) (value_by_sets p g puts x)) (set_of p g)

      -- a field has the value put, or what it had
      left_heap : (p g : ℕ) (b : Bool) → IsShared p before → or_old (cond b (Some (Some v)) None) (heap (p, g)) ≡ cond b (Some v) (value_by_sets p g puts (before.heap (p, g)))
      left_heap p g true e = refl
      left_heap p g false e = told.left_heap p g e

      -- a field without a set has its past
      left_past : (p g : ℕ) (b : Bool) → IsShared p before → cond b (Some v) (value_by_sets p g puts None) ≡ None → or_old (cond b (Some (v ∷ past (o, f))) None) (past (p, g)) ≡ before.past (p, g)
      left_past p g true e none = absurd (cc none)
      left_past p g false e none = told.left_past p g e none

      -- only fields of objects shared before are set
      sets : (p g : ℕ) (a b : Bool) → eqb p o ≡ a → cond (a && b) (Some v) (value_by_sets p g puts None) ≡ None ⊎ IsShared p before
      sets p g true b is = inr (subst (λ n. IsShared n before) (sym (same_number p o is)) shared_before)
      sets p g false b is = told.sets p g

      -- what is told with the set
      pub told_put_old : Told t bodies published (insert_set Put puts) before objects Heap put_past
      told_put_old = record {
        each = private_each;
        all = told.all;
        news = λ p body e. let it = told.news p body e in
            (it.0, body_kept body (objects p) (objects p) (λ g. heap (p, g)) (λ g. Heap (p, g)) refl (λ g. elsewhere p g (new_other p body e)) it.1, it.2);
        shared = told.shared;
        left_object = told.left_object;
        left_heap = λ p g e. left_heap p g (eqb p o && eqb g f) e ∙ sym (put_value p g (before.heap (p, g)));
        left_past = λ p g e none. left_past p g (eqb p o && eqb g f) e (sym (put_value p g None) ∙ none);
        sets = λ p g. elim (sets p g (eqb p o) (eqb g f) refl) [
          | inl h ↦ inl (put_value p g None ∙ h)
          | inr h ↦ inr h
        ];
      }

-- no more of a part
fewer : (a n m : ℕ) → n ≤ m → a + n ≤ a + m
fewer a n m le = omega (arith, le)

-- nor where the whole has one more
fewer_one : (a n m : ℕ) → n ≤ m → n ≤ a + m
fewer_one a n m le = omega (arith, le)

-- a part of the bodies has no more of an object
count_part : (o : ℕ) (test : Body → Bool) (bodies : List Body) → count_bodies o (filter test bodies) ≤ count_bodies o bodies
count_part o test [] = omega arith
count_part o test (body ∷ bodies) = by (test body) (count_part o test bodies)
  where
    by : (b : Bool) → count_bodies o (filter test bodies) ≤ count_bodies o bodies → count_bodies o (cond b (body ∷ filter test bodies) (filter test bodies)) ≤ cond (eqb body.object o) 1 0 + count_bodies o bodies
    by true le = fewer (cond (eqb body.object o) 1 0) (count_bodies o (filter test bodies)) (count_bodies o bodies) le
    by false le = fewer_one (cond (eqb body.object o) 1 0) (count_bodies o (filter test bodies)) (count_bodies o bodies) le

-- what is no more than one at most is one at most
through : (a b : ℕ) → a ≤ b → b ≤ 1 → a ≤ 1
through a b le few = omega (arith, le, few)

-- what was private and is shared is shared
shared_is : (t : ThreadId) (object : Option Object) → is_private_to t object ≡ true → is_shared (plain.shared object) ≡ true
shared_is t None e = absurd (cc e)
shared_is t (Some object) e = refl

-- and is of its class and size
shared_of : (class : ClassId) (n : ℕ) (object : Option Object) → IsOf class n object → IsOf class n (plain.shared object)
shared_of class n None h = absurd h
shared_of class n (Some object) h = h

module _ (t : ThreadId) (bodies published : List Body) (puts : List Set) (before : PlainState) (objects : ℕ → Option Object) (heap : ℕ × ℕ → Option Value) (past past' : ℕ × ℕ → List Value)
    (told : Told t bodies published puts before objects heap past)
    (tests goes : ℕ → Bool) (same : (p : ℕ) → tests p ≡ goes p) (own : (p : ℕ) → goes p ≡ true → is_private_to t (objects p) ≡ true) (few : (p : ℕ) → count_bodies p bodies ≤ 1)
    (pasts : (p g : ℕ) → goes p ≡ false → past' (p, g) ≡ past (p, g)) where
  -- the objects of which those that go are shared
  abbrev pub shared_objects : ℕ → Option Object
  shared_objects p = or_old (cond (goes p) (Some (plain.shared (objects p))) None) (objects p)

  -- one that goes
  gone : (p : ℕ) → goes p ≡ true → shared_objects p ≡ plain.shared (objects p)
  gone p e = ap (λ b. or_old (cond b (Some (plain.shared (objects p))) None) (objects p)) e

  -- one that stays
  stays : (p : ℕ) → goes p ≡ false → shared_objects p ≡ objects p
  stays p e = ap (λ b. or_old (cond b (Some (plain.shared (objects p))) None) (objects p)) e

  -- a shared one stays
  shared_stays : (p : ℕ) → is_shared (objects p) ≡ true → goes p ≡ false
  shared_stays p e = by (goes p) refl
    where
      by : (b : Bool) → goes p ≡ b → b ≡ false
      by true is = private_or_shared t (objects p) (own p is) e
      by false is = refl

  -- one that was shared at the start stays
  still : (p : ℕ) → IsShared p before → goes p ≡ false
  still p e = shared_stays p (still_shared t bodies published puts before objects heap past told p e)

  -- the body of one that stays
  stay_each : (p : ℕ) (body : Body) → goes p ≡ false → body_in p bodies ≡ Some body → (is_private_to t (shared_objects p) ≡ true) × IsBodyOf body (shared_objects p) (λ g. heap (p, g))
  stay_each p body e is = let it = told.each p body is in
      (ap (is_private_to t) (stays p e) ∙ it.0, body_kept body (objects p) (shared_objects p) (λ g. heap (p, g)) (λ g. heap (p, g)) (stays p e) (λ g. refl) it.1)

  -- a private object stayed
  stay_all : (p : ℕ) (b : Bool) → goes p ≡ b → is_private_to t (or_old (cond b (Some (plain.shared (objects p))) None) (objects p)) ≡ true → is_some (body_in p (filter (λ body. not (tests body.object)) bodies)) ≡ true
  stay_all p true is e = no_both (is_private_to t (plain.shared (objects p))) e (shared_private t (objects p))
  stay_all p false is e = some_parted p (λ n. not (tests n)) bodies (not_from_false (tests p) (same p ∙ is)) (told.all p e)

  -- one that goes was not shared at the start
  unshared_before : (p : ℕ) (b : Bool) → is_shared (before.objects p) ≡ b → goes p ≡ true → b ≡ false
  unshared_before p true e is = no_both (goes p) is (still p e)
  unshared_before p false e is = refl

  -- the body of one that goes
  go_news : (p : ℕ) (body : Body) → goes p ≡ true → body_in p bodies ≡ Some body → (is_shared (shared_objects p) ≡ true) × IsBodyOf body (shared_objects p) (λ g. heap (p, g)) × (is_shared (before.objects p) ≡ false)
  go_news p body e is = let it = told.each p body is in (
    ap is_shared (gone p e) ∙ shared_is t (objects p) it.0,
    record { class = subst (IsOf body.class (length body.values)) (sym (gone p e)) (shared_of body.class (length body.values) (objects p) it.1.class); values = it.1.values },
    unshared_before p (is_shared (before.objects p)) refl e,
  )

  -- the body of one that was published before
  stay_news : (p : ℕ) (body : Body) → body_in p published ≡ Some body → (is_shared (shared_objects p) ≡ true) × IsBodyOf body (shared_objects p) (λ g. heap (p, g)) × (is_shared (before.objects p) ≡ false)
  stay_news p body is =
      let it = told.news p body is in
      let e = stays p (shared_stays p it.0) in
      (ap is_shared e ∙ it.0, body_kept body (objects p) (shared_objects p) (λ g. heap (p, g)) (λ g. heap (p, g)) e (λ g. refl) it.1, it.2)

  -- what is shared was, or is among those published
  news_shared : (p : ℕ) (b : Bool) → goes p ≡ b → is_shared (or_old (cond b (Some (plain.shared (objects p))) None) (objects p)) ≡ true → IsShared p before ⊎ (is_some (body_in p (insert_bodies (filter (λ body. tests body.object) bodies) published)) ≡ true)
  news_shared p true is e = inr (some_of_bodies p (filter (λ body. tests body.object) bodies) published (some_parted p tests bodies (same p ∙ is) (told.all p (own p is))))
  news_shared p false is e = elim (told.shared p e) [
    | inl h ↦ inl h
    | inr h ↦ inr (some_of_news p (filter (λ body. tests body.object) bodies) published h)
  ]

  -- what is told where those that go are no longer private, and stand among those published
  pub told_published : Told t (filter (λ body. not (tests body.object)) bodies) (insert_bodies (filter (λ body. tests body.object) bodies) published) puts before shared_objects heap past'
  told_published = record {
    each = λ p body e. let it = found_parted p (λ n. not (tests n)) bodies body e in stay_each p body (sym (same p) ∙ not-true (tests p) it.0) it.1;
    all = λ p e. stay_all p (goes p) refl e;
    news = λ p body e. elim (found_all_inserted p (filter (λ body. tests body.object) bodies) published body (through (count_bodies p (filter (λ body. tests body.object) bodies)) (count_bodies p bodies) (count_part p (λ body. tests body.object) bodies) (few p)) e) [
      | inl h ↦ let it = found_parted p tests bodies body h in go_news p body (sym (same p) ∙ it.0) it.1
      | inr h ↦ stay_news p body h
    ];
    shared = λ p e. news_shared p (goes p) refl e;
    left_object = λ p e. stays p (still p e) ∙ told.left_object p e;
    left_heap = told.left_heap;
    left_past = λ p g e none. pasts p g (still p e) ∙ told.left_past p g e none;
    sets = told.sets;
  }
