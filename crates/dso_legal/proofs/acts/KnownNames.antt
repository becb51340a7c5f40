-- What one act makes of the names that threads know.
use Rattle.std.proofs.Common.{ℕ, zero, suc, ◌<◌, ◌≡◌, ◌⊎◌, inl, inr, refl, sym, ◌∙◌, ap, subst, Bool, true, false, cond, eqb, ltb, ◌||◌, is_some, Option, Some, None, List, [], ◌∷◌, arith}
use Rattle.std.proofs.lemmas.Bool.{ltb-true, cases_eq, eq-eqb}
use Rattle.dso_base.specs.declared.lock.ThreadId.{ThreadId}
use Rattle.dso_base.specs.declared.request.Event.{Event}
use Rattle.dso_base.specs.declared.request.Reply.{Reply}
use Rattle.dso_base.specs.declared.request.Reply.TheVariants.{Done, Made, Val}
use Rattle.dso_base.specs.declared.request.Request.{Request}
use Rattle.dso_base.specs.declared.request.Request.TheVariants.{New, Get, Put, Enter, Exit, Wait, Timeout, Resume, Notify, NotifyAll, Print, End}
use Rattle.dso_base.specs.declared.shape.Shape.{Shape}
use Rattle.dso_base.specs.declared.value.ClassId.{ClassId}
use Rattle.dso_base.specs.declared.value.Kind.{Kind}
use Rattle.dso_base.specs.declared.value.Kind.TheVariants as kind
use Rattle.dso_base.specs.declared.value.Value.{Value}
use Rattle.dso_base.specs.declared.value.Value.TheVariants as value
use Rattle.dso_base.specs.Reach.{start, onward, Reached}
use Rattle.dso_base.specs.Shape.{kind_of}
use Rattle.dso_base.specs.Following.{is_thread}
use Rattle.dso_plain.specs.KeyTests.{is_field}
use Rattle.dso_lookup.specs.Maps.{or_old}
use Rattle.dso_plain.specs.State.{Object, Hold, PlainState, IsPrivate, IsShared, is_private_to, is_mine, is_shared, size_of, hold_on_guard}
use Rattle.dso_plain.specs.Possible.{StandsFrom, AnswersRequest, AnswersGet, AnswersPut}
use Rattle.dso_base.specs.Block.{opening_value}
use Rattle.dso_plain.specs.After.{apply, change_of, made_new, new_object, opening_field, read, read_shared, put, published, shared, present, holds_reference, names_below, names, notifies}
use Rattle.dso_plain.specs.Past.{newest}
use Rattle.dso_plain.specs.StepInvariants.{PastInvariant}
use Rattle.dso_plain.proofs.keys.SameKeys.{same_number, number_self, same_thread, thread_self, same_field}
use Rattle.dso_plain.proofs.independence.WritesGuarded.{published_private, private_unshared, shared_private}
use Rattle.dso_plain.proofs.publishing.PublishedIsReached.{published_is_reached}
use Rattle.dso_plain.proofs.independence.LeavesOthers.{differ, absent_private, absent_shared, private_or_shared, private_to_one}
use Rattle.dso_legal.specs.Names.{NamesAreKnown}
use Rattle.dso_legal.specs.SoundProgram.{tells, was_told, IsToldValue, NamesOnlyTold}

-- the object is the thread's own or shared, by the objects alone
abbrev pub IsAmong : ThreadId → ℕ → (ℕ → Option Object) → Type 0
IsAmong t o objects = (is_private_to t (objects o) ≡ true) ⊎ (is_shared (objects o) ≡ true)

-- Names are known, of the parts that this speaks of.
pub record KnownIn (t : ThreadId) (events : List Event) (objects : ℕ → Option Object) (heap : ℕ × ℕ → Option Value) (past : ℕ × ℕ → List Value) : Type 0 where
  pub told : (o : ℕ) → was_told o events ≡ true → IsAmong t o objects
  pub own : (o f named : ℕ) → is_private_to t (objects o) ≡ true → heap (o, f) ≡ Some (value.Ref named) → IsAmong t named objects
  pub shared : (o f named : ℕ) → is_shared (objects o) ≡ true → StandsFrom 0 (value.Ref named) (past (o, f)) → is_shared (objects named) ≡ true

-- of a whole state
abbrev pub KeepsNames : ThreadId → List Event → PlainState → Type 0
KeepsNames t events s = KnownIn t events s.objects s.heap s.past

-- which is what the law says
pub known_names : (t : ThreadId) (events : List Event) (s : PlainState) → KeepsNames t events s → NamesAreKnown t events s
known_names t events s k = record { told = k.told; own = k.own; shared = k.shared }

-- an object that is there for a thread is not absent
absent_among : {A : Type 0} (t : ThreadId) (o : ℕ) (objects : ℕ → Option Object) → objects o ≡ None → IsAmong t o objects → A
absent_among t o objects absent (inl own) = absent_private t (objects o) absent own
absent_among t o objects absent (inr common) = absent_shared (objects o) absent common

-- two owners are one
same_owner : (t w : ThreadId) (object : Option Object) → is_private_to t object ≡ true → is_private_to w object ≡ true → w ≡ t
same_owner t w object own mine = by (is_thread t w) refl
  where
    by : (b : Bool) → is_thread t w ≡ b → w ≡ t
    by true is = same_thread t w is
    by false is = private_to_one t w object own mine (λ e. differ (is_thread t w) is (subst (λ x. is_thread t x ≡ true) (sym e) (thread_self t)))

-- what was private and is published is shared
becomes_shared : (t : ThreadId) (object : Option Object) → is_private_to t object ≡ true → is_shared (shared object) ≡ true
becomes_shared t None e = absurd (cc e)
becomes_shared t (Some object) e = refl

-- an opening value names no object
opens_without : (kind : Kind) (named : ℕ) → opening_value kind ≡ value.Ref named → ⊥
opens_without kind.Long named e = absurd (cc e)
opens_without kind.Bool named e = absurd (cc e)
opens_without kind.Text named e = absurd (cc e)
opens_without kind.Ref named e = absurd (cc e)

-- nor does an opening field
opens_no_name : (b : Bool) (kind : Kind) (named : ℕ) → cond b (Some (opening_value kind)) None ≡ Some (value.Ref named) → ⊥
opens_no_name true kind named e = opens_without kind named (cc e)
opens_no_name false kind named e = absurd (cc e)

-- what stands in a new past is the present value
stands_present : (v : Option Value) (named : ℕ) → StandsFrom 0 (value.Ref named) (present v) → v ≡ Some (value.Ref named)
stands_present None named h = absurd h
stands_present (Some v) named (inl h) = ap Some (sym h.1)
stands_present (Some v) named (inr h) = absurd h

-- what stands from a place on stands in the past
stands_at_all : (place : ℕ) (v : Value) (past : List Value) → StandsFrom place v past → StandsFrom 0 v past
stands_at_all place v [] h = absurd h
stands_at_all place v (first ∷ older) (inl h) = inl (omega arith, h.1)
stands_at_all place v (first ∷ older) (inr h) = inr (stands_at_all place v older h)

-- the newest stands in it
newest_stands : (v : Value) (past : List Value) → newest past ≡ Some v → StandsFrom 0 v past
newest_stands v [] e = absurd (cc e)
newest_stands v (first ∷ older) e = inl (omega arith, sym (cc e))

-- a field that holds a reference to an object names it
holds_it : (o : ℕ) (v : Option Value) → v ≡ Some (value.Ref o) → holds_reference o v ≡ true
holds_it o v e = subst (λ x. holds_reference o x ≡ true) (sym e) (number_self o)

names_field : (heap : ℕ × ℕ → Option Value) (a o f n : ℕ) → f < n → heap (a, f) ≡ Some (value.Ref o) → names_below heap n a o ≡ true
names_field heap a o f zero lt e = absurd (omega (arith, lt))
names_field heap a o f (suc n) lt e = elim (cases_eq f n) [
  | inl same ↦ ap (λ b. b || names_below heap n a o) (holds_it o (heap (a, n)) (sym (ap (λ x. heap (a, x)) same) ∙ e))
  | inr other ↦ or_later (holds_reference o (heap (a, n))) (names_below heap n a o) (names_field heap a o f n (omega (arith, lt, other)) e)
]
  where
    or_later : (a b : Bool) → b ≡ true → (a || b) ≡ true
    or_later true b e = refl
    or_later false b e = e

-- what an object that is reached names is reached, if it is private
pub reached_onward : (mine : ℕ → Bool) (names : ℕ → ℕ → Bool) (v : Value) (a b : ℕ) → Reached mine names v a → names a b ≡ true → mine b ≡ true → Reached mine names v b
reached_onward mine names (value.Ref x) a b h e m = onward b h e m
reached_onward mine names value.Null a b h e m = absurd h
reached_onward mine names (value.Long n) a b h e m = absurd h
reached_onward mine names (value.Bool x) a b h e m = absurd h
reached_onward mine names (value.Text n) a b h e m = absurd h

-- One act, in a state in which every thread knows its names.
module _ (shape : Shape) (t : ThreadId) (s : PlainState) (before : ThreadId → List Event) (k : (w : ThreadId) → KeepsNames w (before w) s) (kept : PastInvariant s) where
  -- a new object
  module _ (class : ClassId) (n o : ℕ) (absent : s.objects o ≡ None) where
    abbrev with_new : ℕ → Bool → Option Object
    with_new p b = or_old (cond b (Some (Some (new_object t class n))) None) (s.objects p)

    -- the other objects are what they were
    new_among : (w : ThreadId) (p : ℕ) (b : Bool) → eqb p o ≡ b → IsAmong w p s.objects → (is_private_to w (with_new p b) ≡ true) ⊎ (is_shared (with_new p b) ≡ true)
    new_among w p true is h = absent_among w p s.objects (ap s.objects (same_number p o is) ∙ absent) h
    new_among w p false is h = h

    new_shared : (p : ℕ) (b : Bool) → eqb p o ≡ b → IsShared p s → is_shared (with_new p b) ≡ true
    new_shared p true is h = absent_shared (s.objects p) (ap s.objects (same_number p o is) ∙ absent) h
    new_shared p false is h = h

    new_own : (w : ThreadId) (p f named : ℕ) (b : Bool) → is_private_to w (with_new p b) ≡ true → or_old (cond b (Some (opening_field shape class n f)) None) (s.heap (p, f)) ≡ Some (value.Ref named) → IsAmong w named s.objects
    new_own w p f named true mine e = absurd (opens_no_name (ltb f n) (kind_of shape class f) named e)
    new_own w p f named false mine e = (k w).own p f named mine e

    new_names : (w : ThreadId) (p f named : ℕ) (b : Bool) → is_shared (with_new p b) ≡ true → StandsFrom 0 (value.Ref named) (s.past (p, f)) → IsShared named s
    new_names w p f named true common h = absurd (cc common)
    new_names w p f named false common h = (k w).shared p f named common h

    new_known : (w : ThreadId) → KeepsNames w (before w) (apply (made_new shape t class n o s) s)
    new_known w = record {
      told = λ p e. new_among w p (eqb p o) refl ((k w).told p e);
      own = λ p f named mine e. new_among w named (eqb named o) refl (new_own w p f named (eqb p o) mine e);
      shared = λ p f named common h. new_shared named (eqb named o) refl (new_names w p f named (eqb p o) common h);
    }

    -- the new object is its maker's
    made_known : (p : ℕ) → eqb o p ≡ true → IsAmong t p (apply (made_new shape t class n o s) s).objects
    made_known p e = inl (made_mine (eqb p o) (eq-eqb p o (sym (same_number o p e))))
      where
        made_mine : (b : Bool) → b ≡ true → is_private_to t (with_new p b) ≡ true
        made_mine true is = thread_self t
        made_mine false is = absurd (cc is)

  -- a put of a value of which the object that it names, if it names one, was told
  module _ (o f : ℕ) (v : Value) (its : IsToldValue v (before t)) where
    -- the thread knows what it puts
    put_known : (named : ℕ) → v ≡ value.Ref named → IsAmong t named s.objects
    put_known named e = (k t).told named (subst (λ x. IsToldValue x (before t)) e its).1

    -- into a private object
    put_own : (own : IsPrivate t o s) (w : ThreadId) (p g named : ℕ) (b : Bool) → is_field o f (p, g) ≡ b → IsPrivate w p s → or_old (cond b (Some (Some v)) None) (s.heap (p, g)) ≡ Some (value.Ref named) → IsAmong w named s.objects
    put_own own w p g named true is mine e =
        let same : w ≡ t = same_owner t w (s.objects o) own (subst (λ x. is_private_to w (s.objects x.0) ≡ true) (same_field o f (p, g) is) mine) in
        subst (λ x. IsAmong x named s.objects) (sym same) (put_known named (cc e))
    put_own own w p g named false is mine e = (k w).own p g named mine e

    put_own_known : IsPrivate t o s → (w : ThreadId) → KeepsNames w (before w) (apply (put t o f v false s) s)
    put_own_known own w = record {
      told = (k w).told;
      own = λ p g named mine e. put_own own w p g named (is_field o f (p, g)) refl mine e;
      shared = (k w).shared;
    }

    -- into a shared object
    module _ (common : IsShared o s) where
      abbrev after_put : ℕ → Bool → Option Object
      after_put p c = or_old (cond c (Some (shared (s.objects p))) None) (s.objects p)

      -- what is published is shared
      published_shared : (p : ℕ) (c : Bool) → published t v s p ≡ c → c ≡ true → is_shared (after_put p c) ≡ true
      published_shared p true is e = becomes_shared t (s.objects p) (published_private t v s p is)
      published_shared p false is e = absurd (cc e)

      -- what was shared is
      still_shared : (p : ℕ) (c : Bool) → published t v s p ≡ c → IsShared p s → is_shared (after_put p c) ≡ true
      still_shared p true is h = becomes_shared t (s.objects p) (published_private t v s p is)
      still_shared p false is h = h

      -- what was known is
      still_known : (w : ThreadId) (p : ℕ) (c : Bool) → published t v s p ≡ c → IsAmong w p s.objects → (is_private_to w (after_put p c) ≡ true) ⊎ (is_shared (after_put p c) ≡ true)
      still_known w p true is h = inr (becomes_shared t (s.objects p) (published_private t v s p is))
      still_known w p false is h = h

      -- what is reached from the value is shared
      reached_shared : (p : ℕ) → Reached (is_mine t s) (names s) v p → is_shared (after_put p (published t v s p)) ≡ true
      reached_shared p h = published_shared p (published t v s p) refl ((published_is_reached t v s p (λ x mine. kept.private_listed t x mine)).1 h)

      -- the object that the value names is shared
      value_shared : (named : ℕ) → v ≡ value.Ref named → is_shared (after_put named (published t v s named)) ≡ true
      value_shared named e = elim (put_known named e) [
        | inl mine ↦ reached_shared named (subst (λ x. Reached (is_mine t s) (names s) x named) (sym e) (start mine))
        | inr h ↦ still_shared named (published t v s named) refl h
      ]

      -- and what a published object names is shared
      named_shared : (p g named : ℕ) → published t v s p ≡ true → s.heap (p, g) ≡ Some (value.Ref named) → is_shared (after_put named (published t v s named)) ≡ true
      named_shared p g named is e = elim ((k t).own p g named (published_private t v s p is) e) [
        | inl mine ↦ reached_shared named (reached_onward (is_mine t s) (names s) v p named
            ((published_is_reached t v s p (λ x own. kept.private_listed t x own)).0 is)
            (names_field s.heap p named g (size_of (s.objects p)) (ltb-true g (size_of (s.objects p)) (sym (kept.fields p g) ∙ ap (λ x. is_some x) e)) e)
            mine)
        | inr h ↦ still_shared named (published t v s named) refl h
      ]

      common_own : (w : ThreadId) (p g named : ℕ) (b c : Bool) → is_field o f (p, g) ≡ b → published t v s p ≡ c → is_private_to w (after_put p c) ≡ true
          → or_old (cond b (Some (Some v)) None) (s.heap (p, g)) ≡ Some (value.Ref named) → IsAmong w named s.objects
      common_own w p g named b true is out mine e = differ (is_private_to w (shared (s.objects p))) (shared_private w (s.objects p)) mine
      common_own w p g named true false is out mine e = private_or_shared w (s.objects o) (subst (λ x. is_private_to w (s.objects x.0) ≡ true) (same_field o f (p, g) is) mine) common
      common_own w p g named false false is out mine e = (k w).own p g named mine e

      common_names : (w : ThreadId) (p g named : ℕ) (b c : Bool) → is_field o f (p, g) ≡ b → published t v s p ≡ c → is_shared (after_put p c) ≡ true
          → StandsFrom 0 (value.Ref named) (or_old (cond b (Some (v ∷ s.past (o, f))) (cond c (Some (present (s.heap (p, g)))) None)) (s.past (p, g)))
          → is_shared (after_put named (published t v s named)) ≡ true
      common_names w p g named true c is out now (inl h) = value_shared named (sym h.1)
      common_names w p g named true c is out now (inr h) = still_shared named (published t v s named) refl ((k w).shared o f named common h)
      common_names w p g named false true is out now h = named_shared p g named out (stands_present (s.heap (p, g)) named h)
      common_names w p g named false false is out now h = still_shared named (published t v s named) refl ((k w).shared p g named now h)

      put_shared_known : (w : ThreadId) → KeepsNames w (before w) (apply (put t o f v true s) s)
      put_shared_known w = record {
        told = λ p e. still_known w p (published t v s p) refl ((k w).told p e);
        own = λ p g named mine e. still_known w named (published t v s named) refl (common_own w p g named (is_field o f (p, g)) (published t v s p) refl refl mine e);
        shared = λ p g named now h. common_names w p g named (is_field o f (p, g)) (published t v s p) refl refl now h;
      }

  -- a put
  put_names : (o f : ℕ) (v : Value) → IsToldValue v (before t) → AnswersPut shape t o f Done s → (w : ThreadId) → KeepsNames w (before w) (apply (put t o f v (is_shared (s.objects o)) s) s)
  put_names o f v its a w = elim a.1 [
    | inl own ↦ subst (λ b. KeepsNames w (before w) (apply (put t o f v b s) s)) (sym (private_unshared t (s.objects o) own)) (put_own_known o f v its own w)
    | inr h ↦ subst (λ b. KeepsNames w (before w) (apply (put t o f v b s) s)) (sym h.0) (put_shared_known o f v its h.0 w)
  ]

  -- a read
  read_shared_names : (o f : ℕ) (hold : Option Hold) (w : ThreadId) → KeepsNames w (before w) (apply (read_shared t o f hold s) s)
  read_shared_names o f None w = k w
  read_shared_names o f (Some hold) w = k w

  read_names : (o f : ℕ) (b : Bool) (w : ThreadId) → KeepsNames w (before w) (apply (read shape t o f b s) s)
  read_names o f true w = read_shared_names o f (hold_on_guard shape t o f s) w
  read_names o f false w = k w

  -- a notification
  notify_names : (l : _) (woken : Option ThreadId) (w : ThreadId) → KeepsNames w (before w) (apply (notifies l woken) s)
  notify_names l None w = k w
  notify_names l (Some u) w = k w

  -- Each act that names only what was told keeps names known, by what was told before it.
  pub act_names : (request : Request) (reply : Reply) (woken : Option ThreadId) → NamesOnlyTold request (before t) → AnswersRequest shape t request reply s → (w : ThreadId) → KeepsNames w (before w) (apply (change_of shape t request reply woken s) s)
  act_names (New class n) (Made o) woken its a w = new_known class n o a.1 w
  act_names (Get o f) (Val v) woken its a w = read_names o f (is_shared (s.objects o)) w
  act_names (Put o f v) Done woken its a w = put_names o f v its.1 a w
  act_names (Enter l level) Done woken its a w = k w
  act_names (Exit l) Done woken its a w = k w
  act_names (Wait l) Done woken its a w = k w
  act_names (Timeout l) Done woken its a w = k w
  act_names (Resume l) Done woken its a w = k w
  act_names (Notify l) Done woken its a w = notify_names l woken w
  act_names (NotifyAll l) Done woken its a w = k w
  act_names (Print v) Done woken its a w = k w
  act_names (End fault) Done woken its a w = k w
  act_names request reply woken its a w = k w

  -- what a Get reads is known
  got : (o f named : ℕ) → AnswersGet shape t o f (Val (value.Ref named)) s → IsAmong t named s.objects
  got o f named (inl own) = (k t).own o f named own.0 own.1
  got o f named (inr (inl guarded)) = inr ((k t).shared o f named guarded.0 (newest_stands (value.Ref named) (s.past (o, f)) (kept.newest_is_heap o f guarded.0 ∙ guarded.2)))
  got o f named (inr (inr past)) = inr ((k t).shared o f named past.0 (stands_at_all (s.seen (t, o, f)) (value.Ref named) (s.past (o, f)) past.2))

  read_shared_among : (o f p : ℕ) (hold : Option Hold) → IsAmong t p s.objects → IsAmong t p (apply (read_shared t o f hold s) s).objects
  read_shared_among o f p None h = h
  read_shared_among o f p (Some hold) h = h

  read_among : (o f p : ℕ) (b : Bool) → IsAmong t p s.objects → IsAmong t p (apply (read shape t o f b s) s).objects
  read_among o f p true h = read_shared_among o f p (hold_on_guard shape t o f s) h
  read_among o f p false h = h

  -- What the reply tells of is known after it.
  pub reply_known : (request : Request) (reply : Reply) (woken : Option ThreadId) → AnswersRequest shape t request reply s → (o : ℕ) → tells o reply ≡ true → IsAmong t o (apply (change_of shape t request reply woken s) s).objects
  reply_known (New class n) (Made x) woken a o e = made_known class n x a.1 o e
  reply_known (Get x f) (Val (value.Ref named)) woken a o e = read_among x f o (is_shared (s.objects x)) (subst (λ y. IsAmong t y s.objects) (same_number named o e) (got x f named a))
  reply_known (Put x f v) (Made y) woken a o e = absurd a.1
  reply_known (Put x f v) (Val (value.Ref named)) woken a o e = absurd a.1
  reply_known request (Made y) woken a o e = absurd a
  reply_known request (Val (value.Ref named)) woken a o e = absurd a
  reply_known request reply woken a o e = absurd (cc e)
