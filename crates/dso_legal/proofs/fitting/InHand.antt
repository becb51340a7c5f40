-- What holds of the classes and the fields of the objects that a thread has in hand, and how its acts keep it.
use Rattle.std.specs.List.{AllByRecursion}
use Rattle.std.proofs.Common.{ℕ, zero, suc, ◌+◌, ◌<◌, ◌≡◌, ◌⊎◌, inl, inr, refl, sym, ◌∙◌, ap, subst, Bool, true, false, cond, eqb, ltb, is_some, Option, Some, List, [], ◌∷◌, ◌++◌, length, slice_get, arith}
use Rattle.std.specs.Prelude.{filter, slice_set}
use Rattle.dso_base.specs.Block.{Work, start, body_in, opening_value, opening_from, opening_body, with_value, is_published, insert_body, insert_bodies, is_same_field, is_field_before, insert_set, publish, put_shared, put, work_by}
use Rattle.dso_base.specs.declared.lock.ThreadId.{ThreadId}
use Rattle.dso_base.specs.declared.record.Body.{Body}
use Rattle.dso_base.specs.declared.record.Set.{Set}
use Rattle.dso_base.specs.declared.request.Reply.{Reply}
use Rattle.dso_base.specs.declared.request.Reply.TheVariants.{Done, Made}
use Rattle.dso_base.specs.declared.request.Request.{Request}
use Rattle.dso_base.specs.declared.request.Request.TheVariants.{New, Put, Notify, NotifyAll, Print}
use Rattle.dso_base.specs.declared.shape.Shape.{Shape}
use Rattle.dso_base.specs.declared.value.ClassId.{ClassId}
use Rattle.dso_base.specs.declared.value.Value.{Value}
use Rattle.dso_base.specs.Shape.{kind_of}
use Rattle.dso_plain.proofs.keys.SameKeys.{same_number}
use Rattle.dso_legal.proofs.objects.FoundBodies.{opening_length}
use Rattle.dso_legal.proofs.objects.StoredBodies.{as_many_set}

-- ---- lists

-- what holds of each holds of those that pass a test,
pub each_filtered : {X : Type 0} (P : X → Type 0) (test : X → Bool) (xs : List X) → AllByRecursion P xs → AllByRecursion P (filter test xs)
each_filtered P test [] h = tt
each_filtered P test (x ∷ xs) h = by (test x) (each_filtered P test xs h.1)
  where
    by : (b : Bool) → AllByRecursion P (filter test xs) → AllByRecursion P (cond b (x ∷ filter test xs) (filter test xs))
    by true rest = (h.0, rest)
    by false rest = rest

-- of two lists together,
pub each_of_two : {X : Type 0} (P : X → Type 0) (xs ys : List X) → AllByRecursion P xs → AllByRecursion P ys → AllByRecursion P (xs ++ ys)
each_of_two P [] ys h k = k
each_of_two P (x ∷ xs) ys h k = (h.0, each_of_two P xs ys h.1 k)

-- and, where it tells another thing, that of each.
pub each_so : {X : Type 0} (P Q : X → Type 0) → ((x : X) → P x → Q x) → (xs : List X) → AllByRecursion P xs → AllByRecursion Q xs
each_so P Q so [] h = tt
each_so P Q so (x ∷ xs) h = (so x h.0, each_so P Q so xs h.1)

-- so with one body more in its place,
inserted : (P : Body → Type 0) (body : Body) (bodies : List Body) → P body → AllByRecursion P bodies → AllByRecursion P (insert_body body bodies)
inserted P body [] it h = (it, tt)
inserted P body (first ∷ rest) it h = by (ltb body.object first.object) (inserted P body rest it h.1)
  where
    by : (b : Bool) → AllByRecursion P (insert_body body rest) → AllByRecursion P (cond b (body ∷ first ∷ rest) (first ∷ insert_body body rest))
    by true later = (it, h)
    by false later = (h.0, later)

pub all_inserted : (P : Body → Type 0) (bodies news : List Body) → AllByRecursion P bodies → AllByRecursion P news → AllByRecursion P (insert_bodies bodies news)
all_inserted P [] news h k = k
all_inserted P (body ∷ bodies) news h k = inserted P body (insert_bodies bodies news) h.0 (all_inserted P bodies news h.1 k)

-- and one set more.
pub set_inserted : (P : Set → Type 0) (set : Set) (sets : List Set) → P set → AllByRecursion P sets → AllByRecursion P (insert_set set sets)
set_inserted P set [] it h = (it, tt)
set_inserted P set (first ∷ rest) it h = by (is_same_field set first) (is_field_before set first) (set_inserted P set rest it h.1)
  where
    by : (a b : Bool) → AllByRecursion P (insert_set set rest) → AllByRecursion P (cond a (set ∷ rest) (cond b (set ∷ first ∷ rest) (first ∷ insert_set set rest)))
    by true b later = (it, h.1)
    by false true later = (it, h)
    by false false later = (h.0, later)

-- ---- values

-- a value among values of which one was set is that one, or stood there before
set_cases : (values : List Value) (i f : ℕ) (v w : Value) → slice_get (slice_set values i v) f ≡ Some w → ((i ≡ f) × (v ≡ w)) ⊎ (slice_get values f ≡ Some w)
set_cases [] i f v w is = inr is
set_cases (x ∷ values) zero zero v w is = inl (refl, cc is)
set_cases (x ∷ values) zero (suc f) v w is = inr is
set_cases (x ∷ values) (suc i) zero v w is = inr is
set_cases (x ∷ values) (suc i) (suc f) v w is = elim (set_cases values i f v w is) [
  | inl h ↦ inl (ap suc h.0, h.1)
  | inr h ↦ inr h
]

-- one place more
placed_more : (shape : Shape) (class : ClassId) (k n f : ℕ) (v : Value) → (f < n) × (v ≡ opening_value (kind_of shape class (suc k + f))) → (suc f < suc n) × (v ≡ opening_value (kind_of shape class (k + suc f)))
placed_more shape class k n f v h = (omega (arith, h.0), h.1 ∙ ap (λ m. opening_value (kind_of shape class m)) (omega arith))

-- a value of a new object is the opening one of its field
pub opening_is : (shape : Shape) (class : ClassId) (k n f : ℕ) (v : Value) → slice_get (opening_from shape class k n) f ≡ Some v → (f < n) × (v ≡ opening_value (kind_of shape class (k + f)))
opening_is shape class k zero f v is = absurd (cc is)
opening_is shape class k (suc n) zero v is =
    let first : opening_value (kind_of shape class k) ≡ v = cc is in
    (omega arith, sym first ∙ ap (λ m. opening_value (kind_of shape class m)) (omega arith))
opening_is shape class k (suc n) (suc f) v is = placed_more shape class k n f v (opening_is shape class (suc k) n f v is)

-- ---- bodies, sets and the work in hand

module _ (C : ℕ → ClassId → ℕ → Type 0) (F : ℕ → ℕ → Value → Type 0) (V O : Value → Type 0) where
  -- so of the body's class and size, and of each of its values in its field
  pub record BodyHas (body : Body) : Type 0 where
    pub class : C body.object body.class (length body.values)
    pub values : (f : ℕ) (v : Value) → slice_get body.values f ≡ Some v → F body.object f v

  -- so of the set's value in its field
  abbrev pub SetHas : Set → Type 0
  SetHas set = F set.object set.field set.value

  -- so of all that a thread has in hand
  pub record WorkHas (work : Work) : Type 0 where
    pub privates : AllByRecursion BodyHas work.privates
    pub news : AllByRecursion BodyHas work.news
    pub sets : AllByRecursion SetHas work.sets
    pub outs : AllByRecursion O work.outs

  -- what an act must bring: the class and the opening values of a new object, what is written, what is printed
  abbrev pub ActHas : Shape → Request → Reply → Type 0
  ActHas shape (New class n) (Made o) = C o class n × ((f : ℕ) → f < n → F o f (opening_value (kind_of shape class f)))
  ActHas shape (Put o f v) Done = F o f v
  ActHas shape (Print v) Done = O v
  ActHas shape request reply = Unit {0}

  -- the only private objects at a block's start
  pub start_has : (bodies : List Body) → AllByRecursion BodyHas bodies → WorkHas (start bodies)
  start_has bodies h = record { privates = h; news = tt; sets = tt; outs = tt }

  -- a body that is found
  pub found_has : (o : ℕ) (bodies : List Body) (body : Body) → AllByRecursion BodyHas bodies → body_in o bodies ≡ Some body → BodyHas body
  found_has o [] body h is = absurd (cc is)
  found_has o (first ∷ rest) body h is = by (eqb first.object o) is (found_has o rest body h.1)
    where
      by : (b : Bool) → cond b (Some first) (body_in o rest) ≡ Some body → (body_in o rest ≡ Some body → BodyHas body) → BodyHas body
      by true found later =
          let same : first ≡ body = cc found in
          subst BodyHas same h.0
      by false found later = later found

  -- a body with a value of its object set
  pub body_set : (f : ℕ) (v : Value) (body : Body) → BodyHas body → F body.object f v → BodyHas (record body { values = slice_set body.values f v })
  body_set f v body h it = record {
    class = subst (C body.object body.class) (sym (as_many_set body.values f v)) h.class;
    values = λ g w is. elim (set_cases body.values f g v w is) [
      | inl new ↦ subst (λ n. F body.object n w) new.0 (subst (F body.object f) new.1 it)
      | inr old ↦ h.values g w old
    ];
  }

  -- bodies with a value set
  pub valued : (o f : ℕ) (v : Value) (bodies : List Body) → AllByRecursion BodyHas bodies → F o f v → AllByRecursion BodyHas (with_value o f v bodies)
  valued o f v [] h it = tt
  valued o f v (body ∷ rest) h it = (by (eqb body.object o) refl, valued o f v rest h.1 it)
    where
      by : (b : Bool) → eqb body.object o ≡ b → BodyHas (cond b (record body { values = slice_set body.values f v }) body)
      by true is = body_set f v body h.0 (subst (λ n. F n f v) (sym (same_number body.object o is)) it)
      by false is = h.0

  -- a new object
  new_has : (shape : Shape) (class : ClassId) (n o : ℕ) → ActHas shape (New class n) (Made o) → BodyHas (opening_body shape class n o)
  new_has shape class n o h = record {
    class = subst (C o class) (sym (opening_length shape class 0 n)) h.0;
    values = λ f v is.
        let at = opening_is shape class 0 n f v is in
        let same : 0 + f ≡ f = omega arith in
        subst (F o f) (sym (at.1 ∙ ap (λ m. opening_value (kind_of shape class m)) same)) (h.1 f at.0);
  }

  -- a value put into a shared object,
  put_shared_has : (o f : ℕ) (v : Value) (work : Work) → WorkHas work → F o f v → WorkHas (put_shared o f v work)
  put_shared_has o f v work h it = by (is_some (body_in o work.news))
    where
      by : (b : Bool) → WorkHas (cond b (record work { news = with_value o f v work.news }) (record work { sets = insert_set (record { object = o; field = f; value = v }) work.sets }))
      by true = record { privates = h.privates; news = valued o f v work.news h.news it; sets = h.sets; outs = h.outs }
      by false = record { privates = h.privates; news = h.news; sets = set_inserted SetHas (record { object = o; field = f; value = v }) work.sets it h.sets; outs = h.outs }

  -- what it publishes,
  published_has : (v : Value) (work : Work) → WorkHas work → WorkHas (publish v work)
  published_has v work h = record {
    privates = each_filtered BodyHas _ work.privates h.privates;
    news = all_inserted BodyHas _ work.news (each_filtered BodyHas (λ body. is_published work.privates v body.object) work.privates h.privates) h.news;
    sets = h.sets;
    outs = h.outs;
  }

  -- and a value put into any object
  put_has : (o f : ℕ) (v : Value) (work : Work) → WorkHas work → F o f v → WorkHas (put o f v work)
  put_has o f v work h it = by (is_some (body_in o work.privates))
    where
      by : (b : Bool) → WorkHas (cond b (record work { privates = with_value o f v work.privates }) (publish v (put_shared o f v work)))
      by true = record { privates = valued o f v work.privates h.privates it; news = h.news; sets = h.sets; outs = h.outs }
      by false = published_has v (put_shared o f v work) (put_shared_has o f v work h it)

  -- An act that brings what it must keeps it so.
  pub act_has : (shape : Shape) (request : Request) (reply : Reply) (woken : Option ThreadId) (work : Work) → WorkHas work → ActHas shape request reply → WorkHas (work_by shape request reply woken work)
  act_has shape (New class n) (Made o) woken work h it = record { privates = (new_has shape class n o it, h.privates); news = h.news; sets = h.sets; outs = h.outs }
  act_has shape (Put o f v) Done woken work h it = put_has o f v work h it
  act_has shape (Print v) Done woken work h it = record { privates = h.privates; news = h.news; sets = h.sets; outs = each_of_two O work.outs (v ∷ []) h.outs (it, tt) }
  act_has shape (Notify l) Done woken work h it = record { privates = h.privates; news = h.news; sets = h.sets; outs = h.outs }
  act_has shape (NotifyAll l) Done woken work h it = record { privates = h.privates; news = h.news; sets = h.sets; outs = h.outs }
  act_has shape request reply woken work h it = h

module _ (C C' : ℕ → ClassId → ℕ → Type 0) (F F' : ℕ → ℕ → Value → Type 0) (V V' O O' : Value → Type 0)
    (more_c : (o : ℕ) (class : ClassId) (n : ℕ) → C o class n → C' o class n) (more_f : (o f : ℕ) (v : Value) → F o f v → F' o f v) (more_v : (v : Value) → V v → V' v) (more_o : (v : Value) → O v → O' v) where
  -- what tells more of classes, fields and values tells more of bodies and of the work in hand
  pub body_more : (body : Body) → BodyHas C F V O body → BodyHas C' F' V' O' body
  body_more body h = record { class = more_c body.object body.class (length body.values) h.class; values = λ f v is. more_f body.object f v (h.values f v is) }

  pub work_more : (work : Work) → WorkHas C F V O work → WorkHas C' F' V' O' work
  work_more work h = record {
    privates = each_so (BodyHas C F V O) (BodyHas C' F' V' O') body_more work.privates h.privates;
    news = each_so (BodyHas C F V O) (BodyHas C' F' V' O') body_more work.news h.news;
    sets = each_so (SetHas C F V O) (SetHas C' F' V' O') (λ set it. more_f set.object set.field set.value it) work.sets h.sets;
    outs = each_so O O' more_o work.outs h.outs;
  }
