-- Legal histories of code that keeps the rules are guarded: step by step, each thread's view agrees with the plain state.
use Rattle.std.specs.List.{list_any}
use Rattle.std.proofs.Common.{◌≡◌, ◌≢◌, ◌⊎◌, inl, inr, refl, ℕ, Bool, true, false, cond, eqb, ◌||◌, List, [], ◌∷◌, ◌++◌, Option, None, Some, subst, sym, ap, ◌∙◌}
use Rattle.std.specs.Prelude.{Contains}
use Rattle.std.proofs.lemmas.Bool.{eq-eqb}
use Rattle.std.proofs.lemmas.List.{append_assoc}
use Rattle.dso_base.specs.declared.lock.LockName.{LockName}
use Rattle.dso_base.specs.declared.lock.LockName.TheVariants.{Mon, Name}
use Rattle.dso_base.specs.declared.lock.ThreadId.{ThreadId}
use Rattle.dso_base.specs.declared.request.Event.{Event}
use Rattle.dso_base.specs.declared.request.Event.TheVariants.{Act, Lost}
use Rattle.dso_base.specs.declared.request.Reply.{Reply}
use Rattle.dso_base.specs.declared.request.Reply.TheVariants.{Made, Val}
use Rattle.dso_base.specs.declared.request.Request.{Request}
use Rattle.dso_base.specs.declared.request.Request.TheVariants.{Look, Get, Put, Enter}
use Rattle.dso_base.specs.declared.shape.Shape.{Shape}
use Rattle.dso_base.specs.declared.value.ClassId.{ClassId}
use Rattle.dso_base.specs.declared.value.ClassId.TheVariants.{Roots}
use Rattle.dso_base.specs.declared.value.Value.{Value}
use Rattle.dso_base.specs.declared.value.Value.TheVariants as value
use Rattle.dso_base.specs.Following.{IsListed, IsListedFor, Listed, IsNext, FollowsFrom, FollowsProgram, is_thread}
use Rattle.dso_lookup.specs.Maps.{or_old}
use Rattle.dso_plain.specs.State.{PlainState, opening, roots_object, is_shared, IsShared}
use Rattle.dso_plain.specs.Possible.{May, IsPossible, IsPossibleButMarks, AnswersRequest, AnswersGet}
use Rattle.dso_plain.specs.After.{after, counted}
use Rattle.dso_plain.specs.History.{Runs, end_of, events_of, IsLegal}
use Rattle.dso_plain.specs.StepInvariants.{PastInvariant}
use Rattle.dso_plain.proofs.histories.RunKinds.{may_but_marks}
use Rattle.dso_plain.proofs.independence.LeavesOthers.{private_or_shared}
use Rattle.dso_plain.proofs.independence.RunsSwap.{quiet_act}
use Rattle.dso_plain.proofs.invariants.PastsHold.{opening_kept, event_kept}
use Rattle.dso_plain.proofs.keys.SameKeys.{thread_self, same_thread}
use Rattle.dso_legal.specs.Names.{NameOnlyTold, NamesAreKnown}
use Rattle.dso_legal.specs.SoundProgram.{tells, event_tells, was_told, IsToldValue, IsToldLock, NamesOnlyTold}
use Rattle.dso_legal.proofs.acts.KnownNames.{KeepsNames}
use Rattle.dso_legal.proofs.acts.Names.{AllKnow, AllNameTold, none_behind, run_known, names_stay_known}
use Rattle.dso_legal.proofs.acts.SoundNames.{follows_one_more}
use Rattle.dso_machine.specs.declared.code.Code.{Code}
use Rattle.dso_machine.specs.Next.{next_request}
use Rattle.dso_machine.specs.Sound.{IsSoundCode}
use Rattle.dso_lint.specs.declared.answer.Place.{Place}
use Rattle.dso_lint.specs.Clean.{Choice, KeepsRules}
use Rattle.dso_lint.specs.Verdict.{Passes}
use Rattle.dso_lint.proofs.standing.Trees.{none_there, cons_cases}
use Rattle.dso_lint_law.specs.GuardedHistories.{RefusesForLocks, IsLockRefusal, IsGuardedHistory, YesIsGuarded}
use Rattle.dso_lint_law.proofs.parts.Views.{View, first, viewed, Safe, MayCome}
use Rattle.dso_lint_law.proofs.threads.Threads.{view_after, Follows, asks_safely}
use Rattle.dso_lint_law.proofs.history.Naming.{Tells, ToldBy, told_in, StoresTold, LocksTold, NamesBy, names_told}
use Rattle.dso_lint_law.proofs.history.Zero.{NoZero, StoresNoZero, opening_none, act_none, untold, stands_at_all, newest_stands}
use Rattle.dso_lint_law.proofs.history.Agrees.{class_in, Agrees, may_come, accepted, uncounted}
use Rattle.dso_lint_law.proofs.history.Acts.{foreign, lost_other, own_act}

-- ---- what was told

tells_true : (o : ℕ) (r : Reply) → Tells o r → tells o r ≡ true
tells_true o (Made made) told = eq-eqb made o told
tells_true o (Val (value.Ref named)) told = eq-eqb named o told
tells_true o (Val value.Null) told = absurd told
tells_true o (Val (value.Long n)) told = absurd told
tells_true o (Val (value.Bool b)) told = absurd told
tells_true o (Val (value.Text n)) told = absurd told
tells_true o r told = absurd told

-- what replies told was told before, or an event tells it
told_event : (o : ℕ) (events : List Event) (g : List Reply) → ToldBy o (told_in g events) → ToldBy o g ⊎ (list_any (event_tells o) events ≡ true)
told_event o [] g told = inl told
told_event o (Act t q r woken ∷ events) g told = by (told_event o events (r ∷ g) told)
  where
    or_left : (a b : Bool) → a ≡ true → (a || b) ≡ true
    or_left true b is = refl
    or_left false b is = absurd (cc is)

    or_later : (a b : Bool) → b ≡ true → (a || b) ≡ true
    or_later true b is = refl
    or_later false b is = is

    by : ToldBy o (r ∷ g) ⊎ (list_any (event_tells o) events ≡ true) → ToldBy o g ⊎ (list_any (event_tells o) (Act t q r woken ∷ events) ≡ true)
    by (inl (inl now)) = inr (or_left (tells o r) (list_any (event_tells o) events) (tells_true o r now))
    by (inl (inr before)) = inl before
    by (inr later) = inr (or_later (tells o r) (list_any (event_tells o) events) later)
told_event o (Lost client ∷ events) g told = told_event o events g told

module _ (events : List Event) (none : list_any (event_tells 0) events ≡ false) where
  any_told : (o : ℕ) → ToldBy o (told_in [] events) → list_any (event_tells o) events ≡ true
  any_told o told = by (told_event o events [] told)
    where
      by : ⊥ ⊎ (list_any (event_tells o) events ≡ true) → list_any (event_tells o) events ≡ true
      by (inl no_way) = absurd no_way
      by (inr is) = is

  told_real : (o : ℕ) → ToldBy o (told_in [] events) → o ≢ 0
  told_real o told zero = cc (sym none ∙ subst (λ k. list_any (event_tells k) events ≡ true) zero (any_told o told))

  told_was : (o : ℕ) → ToldBy o (told_in [] events) → was_told o events ≡ true
  told_was o told = by (eqb o 0) (any_told o told)
    where
      by : (b : Bool) → list_any (event_tells o) events ≡ true → (b || list_any (event_tells o) events) ≡ true
      by true is = refl
      by false is = is

  told_or_root : (o : ℕ) → (o ≡ 0) ⊎ ToldBy o (told_in [] events) → was_told o events ≡ true
  told_or_root o (inl zero) = subst (λ k. was_told k events ≡ true) (sym zero) refl
  told_or_root o (inr told) = told_was o told

  told_value : (v : Value) → StoresTold v (told_in [] events) → IsToldValue v events
  told_value (value.Ref o) told = (told.0, told_was o told.1)
  told_value value.Null told = tt
  told_value (value.Long n) told = tt
  told_value (value.Bool b) told = tt
  told_value (value.Text t) told = tt

  told_lock : (l : LockName) → LocksTold l (told_in [] events) → IsToldLock l events
  told_lock (Mon o) told = (told_real o told, told_was o told)
  told_lock (Name n) told = tt

  -- a request that names only what replies told names only what was told
  told_request : (q : Request) → NamesBy (told_in [] events) q → NamesOnlyTold q events
  told_request (Look o) named = told_was o named
  told_request (Get o f) named = told_or_root o named
  told_request (Put o f v) named = (told_or_root o named.0, told_value v named.1)
  told_request (Enter l level) named = told_lock l named
  told_request q named = tt

-- what is told is not object 0
stores_none : (q : Request) (events : List Event) → NamesOnlyTold q events → StoresNoZero q
stores_none (Put o f v) events named = λ zero. (subst (λ x. IsToldValue x events) zero named.1).0 refl
stores_none q events named = tt

-- none of a list with one more
none_more : {X : Type 0} (test : X → Bool) (xs : List X) (x : X) → list_any test xs ≡ false → test x ≡ false → list_any test (xs ++ x ∷ []) ≡ false
none_more test [] x none one = ap (λ b. b || false) one
none_more test (first ∷ rest) x none one = by (test first) none (none_more test rest x)
  where
    by : (b : Bool) → (b || list_any test rest) ≡ false → (list_any test rest ≡ false → test x ≡ false → list_any test (rest ++ x ∷ []) ≡ false) → (b || list_any test (rest ++ x ∷ [])) ≡ false
    by true is later = absurd (cc is)
    by false is later = later is one

-- one more event, and the view after it
follows_more : (next : List Event → Option Request) (before events : List Event) (g : View) (t : ThreadId) (q : Request) (r : Reply) (woken : Option ThreadId) → Follows next before g events → next (before ++ events) ≡ Some q → MayCome (view_after g events) q r
    → Follows next before g (events ++ Act t q r woken ∷ [])
follows_more next before [] g t q r woken follows asked comes = (subst (λ es. next es ≡ Some q) (none_behind before) asked, comes, tt)
follows_more next before (Act u p a w ∷ events) g t q r woken follows asked comes = (
  follows.0,
  follows.1,
  follows_more next (before ++ Act u p a w ∷ []) events (viewed p a g) t q r woken follows.2 (subst (λ es. next es ≡ Some q) (sym (append_assoc before (Act u p a w ∷ []) events)) asked) comes,
)
follows_more next before (Lost client ∷ events) g t q r woken follows asked comes = absurd follows

view_more : (g : View) (events : List Event) (t : ThreadId) (q : Request) (r : Reply) (woken : Option ThreadId) → view_after g (events ++ Act t q r woken ∷ []) ≡ viewed q r (view_after g events)
view_more g [] t q r woken = refl
view_more g (Act u p a w ∷ events) t q r woken = view_more (viewed p a g) events t q r woken
view_more g (Lost client ∷ events) t q r woken = view_more g events t q r woken

-- what a shared field holds is shared
names_shared : (shape : Shape) (t : ThreadId) (s : PlainState) (events : List Event) → PastInvariant s → KeepsNames t events s → (q : Request) (r : Reply) → AnswersRequest shape t q r s
    → (o f p : ℕ) → q ≡ Get o f → r ≡ Val (value.Ref p) → IsShared o s → IsShared p s
names_shared shape t s events kept names q r answers o f p is_get is_ref common = by (subst (λ x. AnswersRequest shape t (Get o f) x s) is_ref (subst (λ x. AnswersRequest shape t x r s) is_get answers))
  where
    by : AnswersGet shape t o f (Val (value.Ref p)) s → IsShared p s
    by (inl own) = private_or_shared t (s.objects o) own.0 common
    by (inr (inl guarded)) = names.shared o f p common (newest_stands (value.Ref p) (s.past (o, f)) (kept.newest_is_heap o f common ∙ guarded.2))
    by (inr (inr past)) = names.shared o f p common (stands_at_all (s.seen (t, o, f)) (value.Ref p) (s.past (o, f)) past.2)

module _ (code : Code) (sound : IsSoundCode code) (choice : Choice) (rules : KeepsRules code choice) (passes : (at : Place) → Passes code choice at) where
  abbrev shape : Shape
  shape = code.shape

  abbrev next : ThreadId → List Event → Option Request
  next = next_request code

  -- The thread's view, after these events of its own, agrees with the state.
  record Known (t : ThreadId) (events : List Event) (s : PlainState) : Type 0 where
    follows : Follows (next t) [] first events
    agrees : Agrees t (view_after first events) s

  -- What holds after each part of a history, by the events of each thread in it.
  record AllStand (before : ThreadId → List Event) (s : PlainState) : Type 0 where
    past : PastInvariant s
    none : NoZero s
    names : AllKnow before s
    real : (t : ThreadId) → list_any (event_tells 0) (before t) ≡ false
    program : (t : ThreadId) → FollowsProgram next (Listed next) t (before t)
    known : (t : ThreadId) → s.lost t.client ≡ false → Known t (before t) s
    none_counted : s.unguarded ≡ 0

  -- the events of each thread with those of one event more
  abbrev grown : (ThreadId → List Event) → Event → ThreadId → List Event
  grown before e t = before t ++ events_of t (e ∷ [])

  -- ---- an act

  module _ (before : ThreadId → List Event) (s : PlainState) (stand : AllStand before s) (u : ThreadId) (q : Request) (r : Reply) (woken : Option ThreadId) (may : IsPossible shape u q r woken s) (is_next : IsNext next (Listed next) u (before u) (Act u q r woken)) where
    abbrev event : Event
    event = Act u q r woken

    possible : IsPossibleButMarks shape u q r s
    possible = may_but_marks shape event s may

    its : Known u (before u) s
    its = stand.known u may.connected

    safe : Safe shape (view_after first (before u)) q
    safe = asks_safely code sound choice rules passes u (before u) q its.follows is_next.0

    listed : IsListed q r
    listed = subst (λ asked. IsListedFor asked r) is_next.0 is_next.1

    comes : MayCome (view_after first (before u)) q r
    comes = may_come shape u (view_after first (before u)) s its.agrees q r listed may.answers

    named : NamesOnlyTold q (before u)
    named = told_request (before u) (stand.real u) q (names_told code sound u (before u) q (stand.program u) is_next.0)

    -- it isn't refused for want of a lock
    act_accepted : RefusesForLocks r → ⊥
    act_accepted = accepted shape u (view_after first (before u)) s its.agrees q r safe may.answers

    -- what holds after it, by thread
    all_told : AllNameTold before (event ∷ [])
    all_told t = by (is_thread t u) refl
      where
        by : (b : Bool) → is_thread t u ≡ b → NameOnlyTold (before t) (cond b (event ∷ []) [])
        by true is = (subst (λ x. NamesOnlyTold q (before x)) (same_thread t u is) named, tt)
        by false is = tt

    still_real : (t : ThreadId) → list_any (event_tells 0) (grown before event t) ≡ false
    still_real t = by (is_thread t u)
      where
        by : (b : Bool) → list_any (event_tells 0) (before t ++ cond b (event ∷ []) []) ≡ false
        by true = none_more (event_tells 0) (before t) event (stand.real t) (untold shape u s stand.none stand.past q r may.answers)
        by false = ap (list_any (event_tells 0)) (none_behind (before t)) ∙ stand.real t

    still_follows : (t : ThreadId) → FollowsProgram next (Listed next) t (grown before event t)
    still_follows t = by (is_thread t u) refl
      where
        by : (b : Bool) → is_thread t u ≡ b → FollowsProgram next (Listed next) t (before t ++ cond b (event ∷ []) [])
        by true is = follows_one_more next (Listed next) t [] (before t) event (stand.program t) (subst (λ x. IsNext next (Listed next) x (before x) event) (same_thread t u is) is_next)
        by false is = subst (FollowsProgram next (Listed next) t) (sym (none_behind (before t))) (stand.program t)

    its_known : Known u (before u ++ event ∷ []) (after shape event s)
    its_known = record {
      follows = follows_more (next u) [] (before u) first u q r woken its.follows is_next.0 comes;
      agrees = subst (λ g. Agrees u g (after shape event s)) (sym (view_more first (before u) u q r woken))
          (own_act shape u (view_after first (before u)) s its.agrees q r woken possible (names_shared shape u s (before u) stand.past (stand.names u) q r may.answers));
    }

    still_known : (t : ThreadId) → (after shape event s).lost t.client ≡ false → Known t (grown before event t) (after shape event s)
    still_known t connected = by (is_thread t u) refl
      where
        was : s.lost t.client ≡ false
        was = sym ((quiet_act shape u q r woken s possible).lost t.client) ∙ connected

        by : (b : Bool) → is_thread t u ≡ b → Known t (before t ++ cond b (event ∷ []) []) (after shape event s)
        by true is = subst (λ x. Known x (before x ++ event ∷ []) (after shape event s)) (same_thread t u is) its_known
        by false is = subst (λ es. Known t es (after shape event s)) (sym (none_behind (before t))) (record {
          follows = (stand.known t was).follows;
          agrees = foreign shape t u (view_after first (before t)) q r woken s (λ same. cc (sym is ∙ subst (λ x. is_thread t x ≡ true) (sym same) (thread_self t))) possible (stand.known t was).agrees;
        })

    act_stands : AllStand (grown before event) (after shape event s)
    act_stands = record {
      past = event_kept shape event s possible stand.past;
      none = act_none shape u s stand.none q r woken (stores_none q (before u) named);
      names = run_known shape (event ∷ []) s before (possible, tt) stand.past all_told stand.names;
      real = still_real;
      program = still_follows;
      known = still_known;
      none_counted = ap (λ b. counted b s.unguarded) (uncounted shape u (view_after first (before u)) s its.agrees q r woken safe) ∙ stand.none_counted;
    }

  -- ---- the loss of a client

  lost_stands : (before : ThreadId → List Event) (s : PlainState) (client : ℕ) → AllStand before s → May shape (Lost client) s → AllStand (grown before (Lost client)) (after shape (Lost client) s)
  lost_stands before s client stand may = record {
    past = event_kept shape (Lost client) s may stand.past;
    none = record { heap_none = stand.none.heap_none; past_none = stand.none.past_none };
    names = run_known shape (Lost client ∷ []) s before (may, tt) stand.past (λ t. tt) stand.names;
    real = λ t. ap (list_any (event_tells 0)) (none_behind (before t)) ∙ stand.real t;
    program = λ t. subst (FollowsProgram next (Listed next) t) (sym (none_behind (before t))) (stand.program t);
    known = λ t connected. by t (eqb t.client client) refl connected;
    none_counted = stand.none_counted;
  }
    where
      by : (t : ThreadId) (b : Bool) → eqb t.client client ≡ b → or_old (cond b (Some true) None) (s.lost t.client) ≡ false → Known t (before t ++ []) (after shape (Lost client) s)
      by t true is connected = absurd (cc connected)
      by t false is connected = subst (λ es. Known t es (after shape (Lost client) s)) (sym (none_behind (before t))) (record {
        follows = (stand.known t connected).follows;
        agrees = lost_other shape t client (view_after first (before t)) s is (stand.known t connected).agrees;
      })

  -- ---- a whole history

  -- each thread's events follow the program after those before
  abbrev AllFollow : (ThreadId → List Event) → List Event → Type 0
  AllFollow before es = (t : ThreadId) → FollowsFrom next (Listed next) t (before t) (events_of t es)

  -- the act of a thread is its next
  act_next : (before : ThreadId → List Event) (u : ThreadId) (q : Request) (r : Reply) (woken : Option ThreadId) (es : List Event) → AllFollow before (Act u q r woken ∷ es) → IsNext next (Listed next) u (before u) (Act u q r woken)
  act_next before u q r woken es follow = by (is_thread u u) (thread_self u) (follow u)
    where
      by : (b : Bool) → b ≡ true → FollowsFrom next (Listed next) u (before u) (cond b (Act u q r woken ∷ events_of u es) (events_of u es)) → IsNext next (Listed next) u (before u) (Act u q r woken)
      by true is follows = follows.0
      by false is follows = absurd (cc is)

  later_follow : (before : ThreadId → List Event) (u : ThreadId) (q : Request) (r : Reply) (woken : Option ThreadId) (es : List Event) → AllFollow before (Act u q r woken ∷ es) → AllFollow (grown before (Act u q r woken)) es
  later_follow before u q r woken es follow t = by (is_thread t u) (follow t)
    where
      by : (b : Bool) → FollowsFrom next (Listed next) t (before t) (cond b (Act u q r woken ∷ events_of t es) (events_of t es)) → FollowsFrom next (Listed next) t (before t ++ cond b (Act u q r woken ∷ []) []) (events_of t es)
      by true follows = follows.1
      by false follows = subst (λ xs. FollowsFrom next (Listed next) t xs (events_of t es)) (sym (none_behind (before t))) follows

  -- a run from where all stands is guarded
  record IsGuardedRun (es : List Event) (s : PlainState) : Type 0 where
    accepts : (e : Event) → Contains es e → IsLockRefusal e → ⊥
    counts : (end_of shape es s).unguarded ≡ 0

  guarded_run : (es : List Event) (before : ThreadId → List Event) (s : PlainState) → AllStand before s → Runs shape es s → AllFollow before es → IsGuardedRun es s
  guarded_run [] before s stand runs follow = record { accepts = λ e there refused. none_there e there; counts = stand.none_counted }
  guarded_run (Act u q r woken ∷ es) before s stand runs follow =
      let is_next : IsNext next (Listed next) u (before u) (Act u q r woken) = act_next before u q r woken es follow in
      let rest : IsGuardedRun es (after shape (Act u q r woken) s) = guarded_run es (grown before (Act u q r woken)) (after shape (Act u q r woken) s) (act_stands before s stand u q r woken runs.0 is_next) runs.1 (later_follow before u q r woken es follow) in
      record { accepts = λ e there. one rest.accepts (act_accepted before s stand u q r woken runs.0 is_next) e (cons_cases (Act u q r woken) es e there); counts = rest.counts }
    where
      one : ((e : Event) → Contains es e → IsLockRefusal e → ⊥) → (RefusesForLocks r → ⊥) → (e : Event) → (Act u q r woken ≡ e) ⊎ Contains es e → IsLockRefusal e → ⊥
      one rest accepts e (inl same) refused = accepts (subst IsLockRefusal (sym same) refused)
      one rest accepts e (inr there) refused = rest e there refused
  guarded_run (Lost client ∷ es) before s stand runs follow =
      let rest : IsGuardedRun es (after shape (Lost client) s) = guarded_run es (grown before (Lost client)) (after shape (Lost client) s) (lost_stands before s client stand runs.0) runs.1 (λ t. subst (λ xs. FollowsFrom next (Listed next) t xs (events_of t es)) (sym (none_behind (before t))) (follow t)) in
      record { accepts = λ e there. one rest.accepts e (cons_cases (Lost client) es e there); counts = rest.counts }
    where
      one : ((e : Event) → Contains es e → IsLockRefusal e → ⊥) → (e : Event) → (Lost client ≡ e) ⊎ Contains es e → IsLockRefusal e → ⊥
      one rest e (inl same) refused = subst IsLockRefusal (sym same) refused
      one rest e (inr there) refused = rest e there refused

  -- at first all stands
  opening_stands : AllStand (λ t. []) (opening shape)
  opening_stands = record {
    past = opening_kept shape;
    none = opening_none shape;
    names = λ t. record { told = (names_first t).told; own = (names_first t).own; shared = (names_first t).shared };
    real = λ t. refl;
    program = λ t. tt;
    known = λ t connected. record {
      follows = tt;
      agrees = record { holds = λ l. refl; asleep = λ l. refl; class = λ o c is. class_first (eqb o 0) c is; shared = λ o is. shared_first (eqb o 0) is; own = λ o is. absurd (cc is) };
    };
    none_counted = refl;
  }
    where
      names_first : (t : ThreadId) → NamesAreKnown t [] (opening shape)
      names_first t = names_stay_known shape [] tt (λ u. tt) t

      class_first : (b : Bool) (c : ClassId) → cond b (Some Roots) None ≡ Some c → class_in (cond b (Some (roots_object shape)) None) ≡ Some c
      class_first true c is = is
      class_first false c is = absurd (cc is)

      shared_first : (b : Bool) → b ≡ true → is_shared (cond b (Some (roots_object shape)) None) ≡ true
      shared_first true is = refl
      shared_first false is = absurd (cc is)

  -- a legal history is guarded
  pub guarded_history : (h : List Event) → IsLegal next (Listed next) shape h → IsGuardedHistory shape h
  guarded_history h legal =
      let run : IsGuardedRun h (opening shape) = guarded_run h (λ t. []) (opening shape) opening_stands legal.runs legal.follows in
      record { accepted = run.accepts; guarded = run.counts }

-- Where the answer is Yes, each legal history is guarded.
pub yes_is_guarded : YesIsGuarded
yes_is_guarded code sound verdict h legal = guarded_history code sound verdict.choice verdict.clean.keeps verdict.tells h legal
