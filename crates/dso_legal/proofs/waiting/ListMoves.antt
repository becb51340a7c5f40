-- What a notification, a resumption, a return and a wake make of the waiters of a lock at a client: they stand as they should.
use Rattle.std.specs.List.{list_any}
use Rattle.std.proofs.Common.{◌≡◌, ◌≢◌, ◌⊎◌, ◌↔◌, inl, inr, refl, sym, ◌∙◌, ap, subst, Bool, true, false, cond, ◌||◌, Some, [], ◌∷◌, ◌++◌}
use Rattle.dso_base.specs.declared.lock.Level.TheVariants.{Write}
use Rattle.dso_base.specs.declared.lock.LockName.{LockName}
use Rattle.dso_base.specs.declared.lock.ThreadId.{ThreadId}
use Rattle.dso_base.specs.declared.record.Choice.{Choice}
use Rattle.dso_base.specs.declared.record.Note.{Note}
use Rattle.dso_base.specs.Following.{is_thread}
use Rattle.dso_plain.proofs.keys.SameKeys.{same_thread, thread_self}
use Rattle.dso_law.specs.FitsDown.{IsWaitingOn}
use Rattle.dso_law.specs.RequestNeeds.{hold_level}
use Rattle.dso_law.specs.Threads.{Locks, hold_in}
use Rattle.dso_legal.specs.Places.{Place, Away, Kept, Gone, place_chosen, places_noted, MayChoose, MayNote}
use Rattle.dso_legal.proofs.leases.LeaseSteps.{no_both}
use Rattle.dso_legal.proofs.leases.Queues.{lock_self}
use Rattle.dso_legal.proofs.waiting.ClientView.{View, level_of, Waits, is_in, IsAlone, KeepsWaiters, silent, kept_free}
use Rattle.dso_legal.proofs.waiting.NotedPlaces.{names_lock, others_leave, others_may, away_stays, noted_both, may_both}
use Rattle.dso_legal.proofs.waiting.PlacesCommute.{all_noted}

-- where something doesn't hold, it fails
pub fails : (b : Bool) → (b ≡ true → ⊥) → b ≡ false
fails true isnt = absurd (isnt refl)
fails false isnt = refl

-- who stands in no place but away is away
pub is_away : (s : Place) → s ≢ Kept → s ≢ Gone → s ≡ Away
is_away Away unkept ungone = refl
is_away Kept unkept ungone = absurd (unkept refl)
is_away Gone unkept ungone = absurd (ungone refl)

-- The views have the same locks of threads.
module _ (l : LockName) (v r : View) (same : (u : ThreadId) → r.locks u ≡ v.locks u) where
  pub level_same : (u : ThreadId) → level_of l r u ≡ level_of l v u
  level_same u = ap (λ (x : Locks). hold_level (hold_in l x.holds)) (same u)

  pub alone_was : (u : ThreadId) → IsAlone l r u → IsAlone l v u
  alone_was u alone = record { others = λ w ne held. alone.others w ne (level_same w ∙ held) }

  pub waits_now : (t : ThreadId) → Waits l v t → Waits l r t
  waits_now t = subst (λ (x : Locks). IsWaitingOn l x.waiting) (sym (same t))

  pub waits_was : (t : ThreadId) → Waits l r t → Waits l v t
  waits_was t = subst (λ (x : Locks). IsWaitingOn l x.waiting) (same t)

-- A thread that holds the lock at Write notifies: whom it chooses leaves the list, and is marked.
pub record Notifies (l : LockName) (a : ThreadId) (choice : Choice) (v r : View) : Type 0 where
  pub held : level_of l v a ≡ Some Write
  pub place : (t : ThreadId) → r.place l t ≡ v.place l t
  pub lease : r.lease l ≡ v.lease l
  pub own : r.notes a ≡ v.notes a ++ record { lock = l; choice = choice } ∷ []
  pub notes : (u : ThreadId) → is_thread u a ≡ false → r.notes u ≡ v.notes u
  pub locks : (u : ThreadId) → r.locks u ≡ v.locks u
  pub chosen : (t : ThreadId) → MayChoose t choice (places_noted l t (v.notes a) (v.place l t))
  pub kept : (t : ThreadId) → (place_chosen t choice (places_noted l t (v.notes a) (v.place l t)) ≡ Kept) ↔ (is_in l r t ≡ true)
  pub left : (t : ThreadId) → is_in l r t ≡ true → is_in l v t ≡ true
  pub marked : (t : ThreadId) → r.marked t ≡ true → (v.marked t ≡ true) ⊎ ((is_in l v t ≡ true) × (is_in l r t ≡ false))
  pub unmarked : (t : ThreadId) → r.marked t ≡ false → (v.marked t ≡ false) × (is_in l v t ≡ true → is_in l r t ≡ true)

module _ (l : LockName) (a : ThreadId) (choice : Choice) (v r : View) (n : Notifies l a choice v r) (k : KeepsWaiters l v) where
  abbrev note : Note
  note = record { lock = l; choice = choice }

  -- a's notification is of the lock
  noted_now : (t : ThreadId) → places_noted l t (r.notes a) (r.place l t) ≡ place_chosen t choice (places_noted l t (v.notes a) (v.place l t))
  noted_now t =
      ap (λ notes. places_noted l t notes (r.place l t)) n.own ∙ ap (places_noted l t (v.notes a ++ note ∷ [])) (n.place t) ∙ noted_both l t (v.notes a) (note ∷ []) (v.place l t)
      ∙ ap (λ b. cond b (place_chosen t choice (places_noted l t (v.notes a) (v.place l t))) (places_noted l t (v.notes a) (v.place l t))) (lock_self l)

  kept_by : (u t : ThreadId) (b : Bool) → is_thread u a ≡ b → IsAlone l r u → (places_noted l t (r.notes u) (r.place l t) ≡ Kept) ↔ (is_in l r t ≡ true)
  kept_by u t true same alone = subst (λ x. (places_noted l t (r.notes x) (r.place l t) ≡ Kept) ↔ (is_in l r t ≡ true)) (same_thread u a same)
      (subst (λ s. (s ≡ Kept) ↔ (is_in l r t ≡ true)) (sym (noted_now t)) (n.kept t))
  kept_by u t false other alone = absurd (alone.others a other (level_same l v r n.locks a ∙ n.held))

  may_by : (u t : ThreadId) (b : Bool) → is_thread u a ≡ b → MayNote l t (r.notes u) (r.place l t)
  may_by u t true same = subst (λ x. MayNote l t (r.notes x) (r.place l t)) (same_thread u a same)
      (subst (λ notes. MayNote l t notes (r.place l t)) (sym n.own) (subst (MayNote l t (v.notes a ++ note ∷ [])) (sym (n.place t))
      (may_both l t (v.notes a) (note ∷ []) (v.place l t) (k.may a t) ((λ _. n.chosen t), tt))))
  may_by u t false other = subst (λ notes. MayNote l t notes (r.place l t)) (sym (n.notes u other)) (subst (MayNote l t (v.notes u)) (sym (n.place t)) (k.may u t))

  holder_by : (u : ThreadId) (b : Bool) → is_thread u a ≡ b → names_lock l (r.notes u) ≡ true → level_of l r u ≡ Some Write
  holder_by u true same names = level_same l v r n.locks u ∙ subst (λ x. level_of l v x ≡ Some Write) (same_thread u a same) n.held
  holder_by u false other names = level_same l v r n.locks u ∙ k.holder u (ap (names_lock l) (sym (n.notes u other)) ∙ names)

  out_now : (t : ThreadId) → is_in l v t ≡ false → is_in l r t ≡ false
  out_now t out = fails (is_in l r t) (λ there. no_both (is_in l v t) (n.left t there) out)

  pub notified_keeps : KeepsWaiters l r
  notified_keeps = record {
    kept = λ u t alone. kept_by u t (is_thread u a) refl alone;
    may = λ u t. may_by u t (is_thread u a) refl;
    holder = λ u names. holder_by u (is_thread u a) refl names;
    listed = λ t there. waits_now l v r n.locks t (k.listed t (n.left t there));
    leased = λ t there. n.lease ∙ k.leased t (n.left t there);
    placed = λ t placed. waits_now l v r n.locks t (k.placed t (λ away. placed (n.place t ∙ away)));
    gone = λ t gone. out_now t (k.gone t (sym (n.place t) ∙ gone));
    marked = λ t waits is. elim (n.marked t is) [
      | inl before ↦
          let was = k.marked t (waits_was l v r n.locks t waits) before in
          (out_now t was.0, λ gone. was.1 (sym (n.place t) ∙ gone))
      | inr now ↦ (now.1, λ gone. no_both (is_in l v t) now.0 (k.gone t (sym (n.place t) ∙ gone)))
    ];
    unmarked = λ t waits isnt. elim (k.unmarked t (waits_was l v r n.locks t waits) (n.unmarked t isnt).0) [
      | inl there ↦ inl ((n.unmarked t isnt).1 there)
      | inr gone ↦ inr (n.place t ∙ gone)
    ];
  }

-- A marked thread goes on, where nobody holds the lock at Write.
pub record GoesOn (l : LockName) (a : ThreadId) (v r : View) : Type 0 where
  pub waits : Waits l v a
  pub is_marked : v.marked a ≡ true
  pub free : (u : ThreadId) → level_of l v u ≢ Some Write
  pub place : (t : ThreadId) → r.place l t ≡ v.place l t
  pub list : r.list l ≡ v.list l
  pub lease : r.lease l ≡ v.lease l
  pub notes : (u : ThreadId) → r.notes u ≡ v.notes u
  pub marked : (t : ThreadId) → r.marked t ≡ v.marked t
  pub own : Waits l r a → ⊥
  pub locks : (t : ThreadId) → is_thread t a ≡ false → r.locks t ≡ v.locks t

module _ (l : LockName) (a : ThreadId) (v r : View) (g : GoesOn l a v r) (k : KeepsWaiters l v) where
  none : (u : ThreadId) → names_lock l (r.notes u) ≡ false
  none u = ap (names_lock l) (g.notes u) ∙ silent l v k u (g.free u)

  -- it stands in no list
  pub goes_away : v.place l a ≡ Away
  goes_away =
      let it = k.marked a g.waits g.is_marked in
      is_away (v.place l a) (λ kept. no_both (is_in l v a) ((kept_free l v k a g.free).0 kept) it.0) it.1

  is_now : (t : ThreadId) → is_in l v t ≡ is_in l r t
  is_now t = ap (list_any (is_thread t)) (sym g.list)

  -- who is in a list or placed isn't it
  still_waits : (t : ThreadId) → (is_thread t a ≡ true → ⊥) → Waits l v t → Waits l r t
  still_waits t other = subst (λ (x : Locks). IsWaitingOn l x.waiting) (sym (g.locks t (fails (is_thread t a) other)))

  was_waiting : (t : ThreadId) → Waits l r t → Waits l v t
  was_waiting t waits = by (is_thread t a) refl
    where
      by : (b : Bool) → is_thread t a ≡ b → Waits l v t
      by true same = absurd (g.own (subst (Waits l r) (sym (same_thread t a same)) waits))
      by false other = subst (λ (x : Locks). IsWaitingOn l x.waiting) (g.locks t other) waits

  pub resumed_keeps : KeepsWaiters l r
  resumed_keeps = record {
    kept = λ u t alone. subst (λ s. (s ≡ Kept) ↔ (is_in l r t ≡ true)) (sym (others_leave l t (r.notes u) (r.place l t) (none u) ∙ g.place t))
        (subst (λ b. (v.place l t ≡ Kept) ↔ (b ≡ true)) (is_now t) (kept_free l v k t g.free));
    may = λ u t. others_may l t (r.notes u) (r.place l t) (none u);
    holder = λ u names. no_both (names_lock l (r.notes u)) names (none u);
    listed = λ t there. still_waits t (λ same. no_both (is_in l v a) (subst (λ x. is_in l v x ≡ true) (sym (same_thread t a same)) (is_now t ∙ there)) (k.marked a g.waits g.is_marked).0) (k.listed t (is_now t ∙ there));
    leased = λ t there. g.lease ∙ k.leased t (is_now t ∙ there);
    placed = λ t placed. still_waits t (λ same. placed (g.place t ∙ subst (λ x. v.place l x ≡ Away) (same_thread t a same) goes_away)) (k.placed t (λ away. placed (g.place t ∙ away)));
    gone = λ t gone. sym (is_now t) ∙ k.gone t (sym (g.place t) ∙ gone);
    marked = λ t waits is.
        let was = k.marked t (was_waiting t waits) (sym (g.marked t) ∙ is) in
        (sym (is_now t) ∙ was.0, λ gone. was.1 (sym (g.place t) ∙ gone));
    unmarked = λ t waits isnt. elim (k.unmarked t (was_waiting t waits) (sym (g.marked t) ∙ isnt)) [
      | inl there ↦ inl (sym (is_now t) ∙ there)
      | inr gone ↦ inr (g.place t ∙ gone)
    ];
  }

-- The client gives the lock's lease back, where nobody holds it: its list goes to the server.
pub record GivesBack (l : LockName) (v r : View) : Type 0 where
  pub free : (u : ThreadId) → level_of l v u ≢ Some Write
  pub place : (t : ThreadId) → r.place l t ≡ cond (is_in l v t) Gone (v.place l t)
  pub list : r.list l ≡ []
  pub notes : (u : ThreadId) → r.notes u ≡ v.notes u
  pub marked : (t : ThreadId) → r.marked t ≡ v.marked t
  pub locks : (u : ThreadId) → r.locks u ≡ v.locks u

module _ (l : LockName) (v r : View) (g : GivesBack l v r) (k : KeepsWaiters l v) where
  silent_now : (u : ThreadId) → names_lock l (r.notes u) ≡ false
  silent_now u = ap (names_lock l) (g.notes u) ∙ silent l v k u (g.free u)

  nobody : (t : ThreadId) → is_in l r t ≡ false
  nobody t = ap (list_any (is_thread t)) g.list

  -- by whether the thread was in the list
  record StandsBack (t : ThreadId) : Type 0 where
    unkept : r.place l t ≢ Kept
    placed : r.place l t ≢ Away → Waits l r t
    marked : Waits l r t → r.marked t ≡ true → r.place l t ≢ Gone
    unmarked : Waits l r t → r.marked t ≡ false → r.place l t ≡ Gone

  stands_back : (t : ThreadId) (b : Bool) → is_in l v t ≡ b → StandsBack t
  stands_back t true there =
      let here : r.place l t ≡ Gone = g.place t ∙ ap (λ b. cond b Gone (v.place l t)) there in
      record {
        unkept = λ kept. cc (sym here ∙ kept);
        placed = λ _. waits_now l v r g.locks t (k.listed t there);
        marked = λ waits is. no_both (is_in l v t) there (k.marked t (waits_was l v r g.locks t waits) (sym (g.marked t) ∙ is)).0;
        unmarked = λ _ _. here;
      }
  stands_back t false out =
      let same : r.place l t ≡ v.place l t = g.place t ∙ ap (λ b. cond b Gone (v.place l t)) out in
      record {
        unkept = λ kept. no_both (is_in l v t) ((kept_free l v k t g.free).0 (sym same ∙ kept)) out;
        placed = λ placed. waits_now l v r g.locks t (k.placed t (λ away. placed (same ∙ away)));
        marked = λ waits is gone. (k.marked t (waits_was l v r g.locks t waits) (sym (g.marked t) ∙ is)).1 (sym same ∙ gone);
        unmarked = λ waits isnt. elim (k.unmarked t (waits_was l v r g.locks t waits) (sym (g.marked t) ∙ isnt)) [
          | inl there ↦ no_both (is_in l v t) there out
          | inr gone ↦ same ∙ gone
        ];
      }

  pub returned_keeps : KeepsWaiters l r
  returned_keeps = record {
    kept = λ u t alone. ((λ kept. absurd ((stands_back t (is_in l v t) refl).unkept (sym (others_leave l t (r.notes u) (r.place l t) (silent_now u)) ∙ kept))), λ there. no_both (is_in l r t) there (nobody t));
    may = λ u t. others_may l t (r.notes u) (r.place l t) (silent_now u);
    holder = λ u names. no_both (names_lock l (r.notes u)) names (silent_now u);
    listed = λ t there. no_both (is_in l r t) there (nobody t);
    leased = λ t there. no_both (is_in l r t) there (nobody t);
    placed = λ t. (stands_back t (is_in l v t) refl).placed;
    gone = λ t gone. nobody t;
    marked = λ t waits is. (nobody t, (stands_back t (is_in l v t) refl).marked waits is);
    unmarked = λ t waits isnt. inr ((stands_back t (is_in l v t) refl).unmarked waits isnt);
  }

-- A thread that is gone to the server is woken.
pub record IsWokenNow (l : LockName) (a : ThreadId) (v r : View) : Type 0 where
  pub was : v.place l a ≡ Gone
  pub place : (t : ThreadId) → r.place l t ≡ cond (is_thread t a) Away (v.place l t)
  pub list : r.list l ≡ v.list l
  pub lease : r.lease l ≡ v.lease l
  pub notes : (u : ThreadId) → r.notes u ≡ v.notes u
  pub locks : (u : ThreadId) → r.locks u ≡ v.locks u
  pub marked : (t : ThreadId) → r.marked t ≡ (is_thread t a || v.marked t)

module _ (l : LockName) (a : ThreadId) (v r : View) (w : IsWokenNow l a v r) (k : KeepsWaiters l v) where
  in_still : (t : ThreadId) → is_in l r t ≡ is_in l v t
  in_still t = ap (list_any (is_thread t)) w.list

  record StandsWoken (t : ThreadId) : Type 0 where
    kept : (u : ThreadId) → IsAlone l r u → (places_noted l t (r.notes u) (r.place l t) ≡ Kept) ↔ (is_in l r t ≡ true)
    may : (u : ThreadId) → MayNote l t (r.notes u) (r.place l t)
    placed : r.place l t ≢ Away → Waits l r t
    gone : r.place l t ≡ Gone → is_in l r t ≡ false
    marked : Waits l r t → r.marked t ≡ true → (is_in l r t ≡ false) × (r.place l t ≢ Gone)
    unmarked : Waits l r t → r.marked t ≡ false → (is_in l r t ≡ true) ⊎ (r.place l t ≡ Gone)

  own_woken : StandsWoken a
  own_woken =
      let here : r.place l a ≡ Away = w.place a ∙ ap (λ b. cond b Away (v.place l a)) (thread_self a) in
      let out : is_in l r a ≡ false = in_still a ∙ k.gone a w.was in
      record {
        kept = λ u alone. ((λ kept. absurd (cc (sym (ap (places_noted l a (r.notes u)) here ∙ away_stays l a (r.notes u)) ∙ kept))), λ there. no_both (is_in l r a) there out);
        may = λ u. subst (λ notes. MayNote l a notes (r.place l a)) (sym (w.notes u)) (subst (MayNote l a (v.notes u)) (sym here) (all_noted l a (v.notes u) (subst (MayNote l a (v.notes u)) w.was (k.may u a))).later);
        placed = λ placed. absurd (placed here);
        gone = λ _. out;
        marked = λ _ _. (out, λ gone. cc (sym here ∙ gone));
        unmarked = λ _ isnt. absurd (cc (sym (w.marked a ∙ ap (λ b. b || v.marked a) (thread_self a)) ∙ isnt));
      }

  other_woken : (t : ThreadId) → is_thread t a ≡ false → StandsWoken t
  other_woken t ne =
      let same : r.place l t ≡ v.place l t = w.place t ∙ ap (λ b. cond b Away (v.place l t)) ne in
      let mark : r.marked t ≡ v.marked t = w.marked t ∙ ap (λ b. b || v.marked t) ne in
      record {
        kept = λ u alone. subst (λ notes. (places_noted l t notes (r.place l t) ≡ Kept) ↔ (is_in l r t ≡ true)) (sym (w.notes u))
            (subst (λ s. (places_noted l t (v.notes u) s ≡ Kept) ↔ (is_in l r t ≡ true)) (sym same)
            (subst (λ b. (places_noted l t (v.notes u) (v.place l t) ≡ Kept) ↔ (b ≡ true)) (sym (in_still t)) (k.kept u t (alone_was l v r w.locks u alone))));
        may = λ u. subst (λ notes. MayNote l t notes (r.place l t)) (sym (w.notes u)) (subst (MayNote l t (v.notes u)) (sym same) (k.may u t));
        placed = λ placed. waits_now l v r w.locks t (k.placed t (λ away. placed (same ∙ away)));
        gone = λ gone. in_still t ∙ k.gone t (sym same ∙ gone);
        marked = λ waits is.
            let was = k.marked t (waits_was l v r w.locks t waits) (sym mark ∙ is) in
            (in_still t ∙ was.0, λ gone. was.1 (sym same ∙ gone));
        unmarked = λ waits isnt. elim (k.unmarked t (waits_was l v r w.locks t waits) (sym mark ∙ isnt)) [
          | inl there ↦ inl (in_still t ∙ there)
          | inr gone ↦ inr (same ∙ gone)
        ];
      }

  stands_woken : (t : ThreadId) (b : Bool) → is_thread t a ≡ b → StandsWoken t
  stands_woken t true same = subst StandsWoken (same_thread t a same) own_woken
  stands_woken t false ne = other_woken t ne

  pub woken_keeps : KeepsWaiters l r
  woken_keeps = record {
    kept = λ u t. (stands_woken t (is_thread t a) refl).kept u;
    may = λ u t. (stands_woken t (is_thread t a) refl).may u;
    holder = λ u names. level_same l v r w.locks u ∙ k.holder u (ap (names_lock l) (sym (w.notes u)) ∙ names);
    listed = λ t there. waits_now l v r w.locks t (k.listed t (sym (in_still t) ∙ there));
    leased = λ t there. w.lease ∙ k.leased t (sym (in_still t) ∙ there);
    placed = λ t. (stands_woken t (is_thread t a) refl).placed;
    gone = λ t. (stands_woken t (is_thread t a) refl).gone;
    marked = λ t. (stands_woken t (is_thread t a) refl).marked;
    unmarked = λ t. (stands_woken t (is_thread t a) refl).unmarked;
  }
