-- A thread that hands its block in, or comes to wait, keeps the waiters of a lock as they should stand at its client.
use Rattle.std.specs.List.{list_any}
use Rattle.std.proofs.Common.{◌≡◌, ◌≢◌, ◌⊎◌, ◌↔◌, inl, inr, refl, sym, ◌∙◌, ap, subst, Bool, true, false, cond, ◌||◌, Option, Some, None, [], ◌∷◌, ◌++◌}
use Rattle.dso_base.specs.declared.lock.Level.{Level}
use Rattle.dso_base.specs.declared.lock.Level.TheVariants.{Read, Write}
use Rattle.dso_base.specs.declared.lock.LockName.{LockName}
use Rattle.dso_base.specs.declared.lock.ThreadId.{ThreadId}
use Rattle.dso_base.specs.Following.{is_thread}
use Rattle.dso_plain.proofs.keys.SameKeys.{same_thread, thread_self}
use Rattle.dso_law.specs.ClientWaiters.{without}
use Rattle.dso_law.specs.FitsDown.{IsWaitingOn}
use Rattle.dso_law.specs.RequestNeeds.{hold_level}
use Rattle.dso_law.specs.Threads.{Locks, hold_in}
use Rattle.dso_legal.specs.Places.{Place, Away, Kept, Gone, unkept, places_noted, MayNote}
use Rattle.dso_legal.proofs.leases.LeaseSteps.{no_both}
use Rattle.dso_legal.proofs.marks.BlockMarks.{left_out, left_in, neither_way}
use Rattle.dso_legal.proofs.waiting.ClientView.{View, level_of, Waits, is_in, IsAlone, OneHolds, KeepsWaiters, silent, kept_free}
use Rattle.dso_legal.proofs.waiting.NotedPlaces.{names_lock, others_leave, others_may, away_stays, kept_before, away_may}
use Rattle.dso_legal.proofs.waiting.PlacesCommute.{all_noted}
use Rattle.dso_legal.proofs.waiting.ServerWaiters.{all_noted_gone, any_append}

-- the level is Write, or it isn't
pub is_write : (level : Option Level) → (level ≡ Some Write) ⊎ (level ≢ Some Write)
is_write (Some Write) = inl refl
is_write (Some Read) = inr (λ e. cc e)
is_write None = inr (λ e. cc e)

-- A thread hands its notifications in, whatever becomes of its holds.
pub record HandsIn (l : LockName) (a : ThreadId) (v r : View) : Type 0 where
  pub place : (t : ThreadId) → r.place l t ≡ places_noted l t (v.notes a) (v.place l t)
  pub list : r.list l ≡ v.list l
  pub lease : r.lease l ≡ v.lease l
  pub own : r.notes a ≡ []
  pub notes : (u : ThreadId) → is_thread u a ≡ false → r.notes u ≡ v.notes u
  pub holds : (u : ThreadId) → is_thread u a ≡ false → level_of l r u ≡ level_of l v u
  pub waits : (t : ThreadId) → Waits l v t → Waits l r t
  pub waited : (t : ThreadId) → Waits l r t → Waits l v t
  pub marked : (t : ThreadId) → Waits l v t → r.marked t ≡ v.marked t

module _ (l : LockName) (a : ThreadId) (v r : View) (one : OneHolds l v) (h : HandsIn l a v r) (k : KeepsWaiters l v) where
  -- another thread than a has a's notifications in front of it, or none of the lock of its own
  apart : (u : ThreadId) → is_thread u a ≡ false → (names_lock l (v.notes a) ≡ false) ⊎ (names_lock l (v.notes u) ≡ false)
  apart u other = elim (is_write (level_of l v a)) [
    | inl held ↦ inr (silent l v k u ((one.alone a held).others u (neither_way u a other)))
    | inr unheld ↦ inl (silent l v k a unheld)
  ]

  -- who is alone in the new view, if it isn't a, was alone before or a was
  alone_before : (u : ThreadId) → is_thread u a ≡ false → IsAlone l r u → (IsAlone l v a) ⊎ (IsAlone l v u × (names_lock l (v.notes a) ≡ false))
  alone_before u other alone = elim (is_write (level_of l v a)) [
    | inl held ↦ inl (one.alone a held)
    | inr unheld ↦ inr (record { others = λ w ne held. by w (is_thread w a) refl ne held unheld }, silent l v k a unheld)
  ]
    where
      by : (w : ThreadId) (b : Bool) → is_thread w a ≡ b → is_thread u w ≡ false → level_of l v w ≡ Some Write → level_of l v a ≢ Some Write → ⊥
      by w true same ne held unheld = unheld (subst (λ x. level_of l v x ≡ Some Write) (sym (same_thread w a same)) held)
      by w false ne' ne held unheld = alone.others w ne (h.holds w ne' ∙ held)

  -- a itself was alone too
  alone_own : IsAlone l r a → IsAlone l v a
  alone_own alone = record { others = λ w ne held. alone.others w ne (h.holds w (neither_way a w ne) ∙ held) }

  is_now : (t : ThreadId) → is_in l v t ≡ is_in l r t
  is_now t = ap (list_any (is_thread t)) (sym h.list)

  -- where a was alone, who is kept is who is in the list
  kept_now : (t : ThreadId) → IsAlone l v a → (r.place l t ≡ Kept) ↔ (is_in l r t ≡ true)
  kept_now t alone = subst (λ b. (r.place l t ≡ Kept) ↔ (b ≡ true)) (is_now t) (subst (λ s. (s ≡ Kept) ↔ (is_in l v t ≡ true)) (sym (h.place t)) (k.kept a t alone))

  kept_other : (u t : ThreadId) → is_thread u a ≡ false → IsAlone l r u → (places_noted l t (r.notes u) (r.place l t) ≡ Kept) ↔ (is_in l r t ≡ true)
  kept_other u t other alone = elim (alone_before u other alone) [
    | inl first ↦ subst (λ s. (s ≡ Kept) ↔ (is_in l r t ≡ true)) (sym (ap (λ notes. places_noted l t notes (r.place l t)) (h.notes u other)
        ∙ others_leave l t (v.notes u) (r.place l t) (silent l v k u (λ held. first.others u (neither_way u a other) held)))) (kept_now t first)
    | inr both ↦ subst (λ b. (places_noted l t (r.notes u) (r.place l t) ≡ Kept) ↔ (b ≡ true)) (is_now t)
        (subst (λ s. (s ≡ Kept) ↔ (is_in l v t ≡ true)) (sym (ap (λ notes. places_noted l t notes (r.place l t)) (h.notes u other)
        ∙ ap (places_noted l t (v.notes u)) (h.place t ∙ others_leave l t (v.notes a) (v.place l t) both.1))) (k.kept u t both.0))
  ]

  kept_by : (u t : ThreadId) (b : Bool) → is_thread u a ≡ b → IsAlone l r u → (places_noted l t (r.notes u) (r.place l t) ≡ Kept) ↔ (is_in l r t ≡ true)
  kept_by u t true same alone = subst (λ x. (places_noted l t (r.notes x) (r.place l t) ≡ Kept) ↔ (is_in l r t ≡ true)) (same_thread u a same)
      (subst (λ notes. (places_noted l t notes (r.place l t) ≡ Kept) ↔ (is_in l r t ≡ true)) (sym h.own) (kept_now t (alone_own (subst (IsAlone l r) (sym (same_thread u a same)) alone))))
  kept_by u t false other alone = kept_other u t other alone

  may_by : (u t : ThreadId) (b : Bool) → is_thread u a ≡ b → MayNote l t (r.notes u) (r.place l t)
  may_by u t true same = subst (λ x. MayNote l t (r.notes x) (r.place l t)) (same_thread u a same) (subst (λ notes. MayNote l t notes (r.place l t)) (sym h.own) tt)
  may_by u t false other = subst (λ notes. MayNote l t notes (r.place l t)) (sym (h.notes u other)) (elim (apart u other) [
    | inl none ↦ subst (MayNote l t (v.notes u)) (sym (h.place t ∙ others_leave l t (v.notes a) (v.place l t) none)) (k.may u t)
    | inr none ↦ others_may l t (v.notes u) (r.place l t) none
  ])

  holder_by : (u : ThreadId) (b : Bool) → is_thread u a ≡ b → names_lock l (r.notes u) ≡ true → level_of l r u ≡ Some Write
  holder_by u true same names = absurd (cc (sym (ap (names_lock l) (subst (λ x. r.notes x ≡ []) (same_thread u a same) h.own)) ∙ names))
  holder_by u false other names = h.holds u other ∙ k.holder u (ap (names_lock l) (sym (h.notes u other)) ∙ names)

  gone_before : (t : ThreadId) → r.place l t ≡ Gone → v.place l t ≡ Gone
  gone_before t gone = all_noted_gone l t (v.notes a) (v.place l t) (sym (h.place t) ∙ gone)

  gone_still : (t : ThreadId) → v.place l t ≡ Gone → r.place l t ≡ Gone
  gone_still t gone = h.place t ∙ ap (places_noted l t (v.notes a)) gone ∙ (all_noted l t (v.notes a) (subst (MayNote l t (v.notes a)) gone (k.may a t))).gone

  pub handed_keeps : KeepsWaiters l r
  handed_keeps = record {
    kept = λ u t alone. kept_by u t (is_thread u a) refl alone;
    may = λ u t. may_by u t (is_thread u a) refl;
    holder = λ u names. holder_by u (is_thread u a) refl names;
    listed = λ t there. h.waits t (k.listed t (is_now t ∙ there));
    leased = λ t there. h.lease ∙ k.leased t (is_now t ∙ there);
    placed = λ t placed. h.waits t (k.placed t (λ away. placed (h.place t ∙ ap (places_noted l t (v.notes a)) away ∙ away_stays l t (v.notes a))));
    gone = λ t gone. sym (is_now t) ∙ k.gone t (gone_before t gone);
    marked = λ t waits is.
        let was = k.marked t (h.waited t waits) (sym (h.marked t (h.waited t waits)) ∙ is) in
        (sym (is_now t) ∙ was.0, λ gone. was.1 (gone_before t gone));
    unmarked = λ t waits isnt. elim (k.unmarked t (h.waited t waits) (sym (h.marked t (h.waited t waits)) ∙ isnt)) [
      | inl there ↦ inl (sym (is_now t) ∙ there)
      | inr gone ↦ inr (gone_still t gone)
    ];
  }

-- A thread that nobody keeps from it, and that is in no list, comes to wait: it is kept, unmarked, last in the list.
pub record ComesToWait (l : LockName) (a : ThreadId) (v r : View) : Type 0 where
  pub place : (t : ThreadId) → r.place l t ≡ cond (is_thread t a) Kept (v.place l t)
  pub list : r.list l ≡ v.list l ++ a ∷ []
  pub lease : r.lease l ≡ v.lease l
  pub notes : (u : ThreadId) → r.notes u ≡ v.notes u
  pub holds : (u : ThreadId) → level_of l r u ≡ level_of l v u
  pub own : Waits l r a
  pub waits : (t : ThreadId) → is_thread t a ≡ false → Waits l v t → Waits l r t
  pub waited : (t : ThreadId) → is_thread t a ≡ false → Waits l r t → Waits l v t
  pub fresh : r.marked a ≡ false
  pub marked : (t : ThreadId) → is_thread t a ≡ false → r.marked t ≡ v.marked t

module _ (l : LockName) (a : ThreadId) (v r : View) (free : (u : ThreadId) → level_of l v u ≢ Some Write) (leased : v.lease l ≡ Some Write) (w : ComesToWait l a v r) (k : KeepsWaiters l v) where
  -- who is in the list now: a, and who was
  in_now : (t : ThreadId) (b : Bool) → is_thread t a ≡ b → is_in l r t ≡ cond b true (is_in l v t)
  in_now t b is = ap (list_any (is_thread t)) w.list ∙ any_append (is_thread t) (v.list l) (a ∷ []) ∙ ap (λ b. is_in l v t || (b || false)) is ∙ by (is_in l v t) b
    where
      by : (x b : Bool) → (x || (b || false)) ≡ cond b true x
      by true true = refl
      by true false = refl
      by false true = refl
      by false false = refl

  placed_now : (t : ThreadId) (b : Bool) → is_thread t a ≡ b → r.place l t ≡ cond b Kept (v.place l t)
  placed_now t b is = w.place t ∙ ap (λ b. cond b Kept (v.place l t)) is

  none : (u : ThreadId) → names_lock l (r.notes u) ≡ false
  none u = ap (names_lock l) (w.notes u) ∙ silent l v k u (free u)

  waits_own : (t : ThreadId) → is_thread t a ≡ true → Waits l r t
  waits_own t same = subst (Waits l r) (same_thread t a same) w.own

  -- by whether it is a
  record StandsNow (t : ThreadId) : Type 0 where
    kept : (r.place l t ≡ Kept) ↔ (is_in l r t ≡ true)
    listed : is_in l r t ≡ true → Waits l r t
    placed : r.place l t ≢ Away → Waits l r t
    gone : r.place l t ≡ Gone → is_in l r t ≡ false
    marked : Waits l r t → r.marked t ≡ true → (is_in l r t ≡ false) × (r.place l t ≢ Gone)
    unmarked : Waits l r t → r.marked t ≡ false → (is_in l r t ≡ true) ⊎ (r.place l t ≡ Gone)

  stands : (t : ThreadId) (b : Bool) → is_thread t a ≡ b → StandsNow t
  stands t true is =
      let there : is_in l r t ≡ true = in_now t true is in
      let here : r.place l t ≡ Kept = placed_now t true is in
      record {
        kept = ((λ _. there), λ _. here);
        listed = λ _. waits_own t is;
        placed = λ _. waits_own t is;
        gone = λ gone. absurd (cc (sym here ∙ gone));
        marked = λ _ marked. no_both (r.marked t) marked (subst (λ x. r.marked x ≡ false) (same_thread t a is) w.fresh);
        unmarked = λ _ _. inl there;
      }
  stands t false is =
      let same_in : is_in l r t ≡ is_in l v t = in_now t false is in
      let same_place : r.place l t ≡ v.place l t = placed_now t false is in
      record {
        kept = subst (λ b. (r.place l t ≡ Kept) ↔ (b ≡ true)) (sym same_in) (subst (λ s. (s ≡ Kept) ↔ (is_in l v t ≡ true)) (sym same_place) (kept_free l v k t free));
        listed = λ there. w.waits t is (k.listed t (sym same_in ∙ there));
        placed = λ placed. w.waits t is (k.placed t (λ away. placed (same_place ∙ away)));
        gone = λ gone. same_in ∙ k.gone t (sym same_place ∙ gone);
        marked = λ waits marked.
            let was = k.marked t (w.waited t is waits) (sym (w.marked t is) ∙ marked) in
            (same_in ∙ was.0, λ gone. was.1 (sym same_place ∙ gone));
        unmarked = λ waits unmarked. elim (k.unmarked t (w.waited t is waits) (sym (w.marked t is) ∙ unmarked)) [
          | inl there ↦ inl (same_in ∙ there)
          | inr gone ↦ inr (same_place ∙ gone)
        ];
      }

  pub waiting_keeps : KeepsWaiters l r
  waiting_keeps = record {
    kept = λ u t alone. subst (λ s. (s ≡ Kept) ↔ (is_in l r t ≡ true)) (sym (others_leave l t (r.notes u) (r.place l t) (none u))) (stands t (is_thread t a) refl).kept;
    may = λ u t. others_may l t (r.notes u) (r.place l t) (none u);
    holder = λ u names. no_both (names_lock l (r.notes u)) names (none u);
    listed = λ t. (stands t (is_thread t a) refl).listed;
    leased = λ t there. w.lease ∙ leased;
    placed = λ t. (stands t (is_thread t a) refl).placed;
    gone = λ t. (stands t (is_thread t a) refl).gone;
    marked = λ t. (stands t (is_thread t a) refl).marked;
    unmarked = λ t. (stands t (is_thread t a) refl).unmarked;
  }

-- A waiting, unmarked thread times out: it leaves the list, and is marked where it was in it.
pub record TimesOutNow (l : LockName) (a : ThreadId) (v r : View) : Type 0 where
  pub place : (t : ThreadId) → r.place l t ≡ cond (is_thread t a) (unkept (v.place l t)) (v.place l t)
  pub list : r.list l ≡ without a (v.list l)
  pub lease : r.lease l ≡ v.lease l
  pub notes : (u : ThreadId) → r.notes u ≡ v.notes u
  pub locks : (u : ThreadId) → r.locks u ≡ v.locks u
  pub own : r.marked a ≡ is_in l v a
  pub marked : (t : ThreadId) → is_thread t a ≡ false → r.marked t ≡ v.marked t

module _ (l : LockName) (a : ThreadId) (v r : View) (one : OneHolds l v) (waits : Waits l v a) (fresh : v.marked a ≡ false) (o : TimesOutNow l a v r) (k : KeepsWaiters l v) where
  level_same : (u : ThreadId) → level_of l r u ≡ level_of l v u
  level_same u = ap (λ (x : Locks). hold_level (hold_in l x.holds)) (o.locks u)

  alone_was : (u : ThreadId) → IsAlone l r u → IsAlone l v u
  alone_was u alone = record { others = λ w ne held. alone.others w ne (level_same w ∙ held) }

  waits_now : (t : ThreadId) → Waits l v t → Waits l r t
  waits_now t = subst (λ (x : Locks). IsWaitingOn l x.waiting) (sym (o.locks t))

  waits_was : (t : ThreadId) → Waits l r t → Waits l v t
  waits_was t = subst (λ (x : Locks). IsWaitingOn l x.waiting) (o.locks t)

  -- of a: it is not in the list, and not kept
  own_out : is_in l r a ≡ false
  own_out = ap (list_any (is_thread a)) o.list ∙ left_out a (v.list l)

  own_place : r.place l a ≡ unkept (v.place l a)
  own_place = o.place a ∙ ap (λ b. cond b (unkept (v.place l a)) (v.place l a)) (thread_self a)

  -- of another
  other_in : (t : ThreadId) → is_thread t a ≡ false → is_in l r t ≡ is_in l v t
  other_in t ne = ap (list_any (is_thread t)) o.list ∙ left_in a t (v.list l) (neither_way t a ne)

  other_place : (t : ThreadId) → is_thread t a ≡ false → r.place l t ≡ v.place l t
  other_place t ne = o.place t ∙ ap (λ b. cond b (unkept (v.place l t)) (v.place l t)) ne

  never_kept : (s : Place) → unkept s ≡ Kept → ⊥
  never_kept Away e = cc e
  never_kept Kept e = cc e
  never_kept Gone e = cc e

  -- whom another thread's notifications name: not a, who is unmarked
  may_own : (u : ThreadId) (s : Place) → v.place l a ≡ s → MayNote l a (v.notes u) (unkept s)
  may_own u Away is = subst (MayNote l a (v.notes u)) is (k.may u a)
  may_own u Gone is = subst (MayNote l a (v.notes u)) is (k.may u a)
  may_own u Kept is = elim (is_write (level_of l v u)) [
    | inl held ↦ away_may l a (v.notes u) (ap (places_noted l a (v.notes u)) (sym is) ∙ (k.kept u a (one.alone u held)).1 there)
    | inr unheld ↦ others_may l a (v.notes u) Away (silent l v k u unheld)
  ]
    where
      there : is_in l v a ≡ true
      there = elim (k.unmarked a waits fresh) [
        | inl listed ↦ listed
        | inr gone ↦ absurd (cc (sym is ∙ gone))
      ]

  gone_own : unkept (v.place l a) ≡ Gone → v.place l a ≡ Gone
  gone_own = by (v.place l a)
    where
      by : (s : Place) → unkept s ≡ Gone → s ≡ Gone
      by Away e = absurd (cc e)
      by Kept e = absurd (cc e)
      by Gone e = refl

  record StandsOut (t : ThreadId) : Type 0 where
    kept : (u : ThreadId) → IsAlone l r u → (places_noted l t (r.notes u) (r.place l t) ≡ Kept) ↔ (is_in l r t ≡ true)
    may : (u : ThreadId) → MayNote l t (r.notes u) (r.place l t)
    listed : is_in l r t ≡ true → Waits l r t × (r.lease l ≡ Some Write)
    placed : r.place l t ≢ Away → Waits l r t
    gone : r.place l t ≡ Gone → is_in l r t ≡ false
    marked : Waits l r t → r.marked t ≡ true → (is_in l r t ≡ false) × (r.place l t ≢ Gone)
    unmarked : Waits l r t → r.marked t ≡ false → (is_in l r t ≡ true) ⊎ (r.place l t ≡ Gone)

  own_stands : StandsOut a
  own_stands = record {
    kept = λ u alone. ((λ kept. absurd (never_kept (v.place l a) (sym own_place ∙ kept_before l a (r.notes u) (r.place l a) kept))), λ there. no_both (is_in l r a) there own_out);
    may = λ u. subst (λ notes. MayNote l a notes (r.place l a)) (sym (o.notes u)) (subst (MayNote l a (v.notes u)) (sym own_place) (may_own u (v.place l a) refl));
    listed = λ there. no_both (is_in l r a) there own_out;
    placed = λ _. waits_now a waits;
    gone = λ _. own_out;
    marked = λ _ marked. (own_out, λ gone. no_both (is_in l v a) (sym o.own ∙ marked) (k.gone a (gone_own (sym own_place ∙ gone))));
    unmarked = λ _ unmarked. elim (k.unmarked a waits fresh) [
      | inl there ↦ no_both (is_in l v a) there (sym o.own ∙ unmarked)
      | inr gone ↦ inr (own_place ∙ ap unkept gone)
    ];
  }

  other_stands : (t : ThreadId) → is_thread t a ≡ false → StandsOut t
  other_stands t ne = record {
    kept = λ u alone. subst (λ notes. (places_noted l t notes (r.place l t) ≡ Kept) ↔ (is_in l r t ≡ true)) (sym (o.notes u))
        (subst (λ s. (places_noted l t (v.notes u) s ≡ Kept) ↔ (is_in l r t ≡ true)) (sym (other_place t ne))
        (subst (λ b. (places_noted l t (v.notes u) (v.place l t) ≡ Kept) ↔ (b ≡ true)) (sym (other_in t ne)) (k.kept u t (alone_was u alone))));
    may = λ u. subst (λ notes. MayNote l t notes (r.place l t)) (sym (o.notes u)) (subst (MayNote l t (v.notes u)) (sym (other_place t ne)) (k.may u t));
    listed = λ there. (waits_now t (k.listed t (sym (other_in t ne) ∙ there)), o.lease ∙ k.leased t (sym (other_in t ne) ∙ there));
    placed = λ placed. waits_now t (k.placed t (λ away. placed (other_place t ne ∙ away)));
    gone = λ gone. other_in t ne ∙ k.gone t (sym (other_place t ne) ∙ gone);
    marked = λ waits marked.
        let was = k.marked t (waits_was t waits) (sym (o.marked t ne) ∙ marked) in
        (other_in t ne ∙ was.0, λ gone. was.1 (sym (other_place t ne) ∙ gone));
    unmarked = λ waits unmarked. elim (k.unmarked t (waits_was t waits) (sym (o.marked t ne) ∙ unmarked)) [
      | inl there ↦ inl (other_in t ne ∙ there)
      | inr gone ↦ inr (other_place t ne ∙ gone)
    ];
  }

  stands_out : (t : ThreadId) (b : Bool) → is_thread t a ≡ b → StandsOut t
  stands_out t true same = subst StandsOut (same_thread t a same) own_stands
  stands_out t false ne = other_stands t ne

  pub timeout_keeps : KeepsWaiters l r
  timeout_keeps = record {
    kept = λ u t. (stands_out t (is_thread t a) refl).kept u;
    may = λ u t. (stands_out t (is_thread t a) refl).may u;
    holder = λ u names. level_same u ∙ k.holder u (ap (names_lock l) (sym (o.notes u)) ∙ names);
    listed = λ t there. ((stands_out t (is_thread t a) refl).listed there).0;
    leased = λ t there. ((stands_out t (is_thread t a) refl).listed there).1;
    placed = λ t. (stands_out t (is_thread t a) refl).placed;
    gone = λ t. (stands_out t (is_thread t a) refl).gone;
    marked = λ t. (stands_out t (is_thread t a) refl).marked;
    unmarked = λ t. (stands_out t (is_thread t a) refl).unmarked;
  }
