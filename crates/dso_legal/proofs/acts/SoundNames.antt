-- Where the program is sound, a thread that follows it names only what it was told, and goes on only where it has no end.
use Rattle.std.specs.List.{list_any}
use Rattle.std.proofs.Common.{◌≡◌, refl, sym, subst, Bool, true, false, ◌||◌, Option, List, [], ◌∷◌, ◌++◌}
use Rattle.std.proofs.lemmas.List.{append_assoc}
use Rattle.dso_base.specs.declared.lock.ThreadId.{ThreadId}
use Rattle.dso_base.specs.declared.request.Event.{Event}
use Rattle.dso_base.specs.declared.request.Event.TheVariants.{Act, Lost}
use Rattle.dso_base.specs.declared.request.Reply.{Reply}
use Rattle.dso_base.specs.declared.request.Request.{Request}
use Rattle.dso_base.specs.declared.shape.Shape.{Shape}
use Rattle.dso_base.specs.Following.{IsNext, FollowsFrom, FollowsProgram, Listed}
use Rattle.dso_plain.specs.Touches.{AreActsOf}
use Rattle.dso_law.specs.Threads.{Locks, locks_after}
use Rattle.dso_legal.specs.Names.{NameOnlyTold}
use Rattle.dso_legal.specs.PendingBlocks.{no_locks}
use Rattle.dso_legal.specs.SoundProgram.{event_tells, WaitsAreHeld, AsksSoundly}
use Rattle.dso_legal.proofs.acts.Names.{none_behind}
use Rattle.dso_legal.proofs.blocks.OpenRuns.{acts_in_parts}

-- what none of a list passes, none of its first items does
pub has_before : {X : Type 0} (test : X → Bool) (xs ys : List X) → list_any test (xs ++ ys) ≡ false → list_any test xs ≡ false
has_before test [] ys none = refl
has_before test (x ∷ xs) ys none = by (test x) none (has_before test xs ys)
  where
    by : (b : Bool) → (b || list_any test (xs ++ ys)) ≡ false → (list_any test (xs ++ ys) ≡ false → list_any test xs ≡ false) → (b || list_any test xs) ≡ false
    by true none later = none
    by false none later = later none

-- where each wait of a list has its lock, so has each of a prefix
pub waits_before : (t : ThreadId) (xs ys : List Event) (locks : Locks) → WaitsAreHeld t (xs ++ ys) locks → WaitsAreHeld t xs locks
waits_before t [] ys locks held = tt
waits_before t (x ∷ xs) ys locks held = (held.0, waits_before t xs ys (locks_after t x locks) held.1)

-- a prefix of what follows the program follows it
pub first_follows : (next : ThreadId → List Event → Option Request) (t : ThreadId) (before first second : List Event) → FollowsFrom next (Listed next) t before (first ++ second) → FollowsFrom next (Listed next) t before first
first_follows next t before [] second follows = tt
first_follows next t before (event ∷ first) second follows = (follows.0, first_follows next t (before ++ event ∷ []) first second follows.1)

module _ (next : ThreadId → List Event → Option Request) (listed : ThreadId → List Event → Reply → Type 0) (t : ThreadId) where
  -- events that follow the program, with one more that is next
  pub follows_one_more : (before events : List Event) (e : Event) → FollowsFrom next listed t before events → IsNext next listed t (before ++ events) e → FollowsFrom next listed t before (events ++ e ∷ [])
  follows_one_more before [] e h is = (subst (λ xs. IsNext next listed t xs e) (none_behind before) is, tt)
  follows_one_more before (first ∷ events) e h is = (h.0, follows_one_more (before ++ first ∷ []) events e h.1 (subst (λ xs. IsNext next listed t xs e) (sym (append_assoc before (first ∷ []) events)) is))

module _ (shape : Shape) (next : ThreadId → List Event → Option Request) (sound : AsksSoundly shape next) (t : ThreadId) where
  -- from where the thread stands
  names_from : (before events : List Event) → AreActsOf t (before ++ events) → list_any (event_tells 0) (before ++ events) ≡ false → WaitsAreHeld t (before ++ events) no_locks → FollowsProgram next (Listed next) t before
      → FollowsFrom next (Listed next) t before events → NameOnlyTold before events
  names_from before [] acts untold held so_far h = tt
  names_from before (Act u request reply woken ∷ events) acts untold held so_far h =
      let act : Event = Act u request reply woken in
      let on : before ++ act ∷ events ≡ (before ++ act ∷ []) ++ events = sym (append_assoc before (act ∷ []) events) in (
        (sound.keeps t before request (acts_in_parts t before (act ∷ events) acts).0 (has_before (event_tells 0) before (act ∷ events) untold) (waits_before t before (act ∷ events) no_locks held) so_far h.0.0).names,
        names_from (before ++ act ∷ []) events (subst (AreActsOf t) on acts) (subst (λ all. list_any (event_tells 0) all ≡ false) on untold) (subst (λ all. WaitsAreHeld t all no_locks) on held) (follows_one_more next (Listed next) t [] before act so_far h.0) h.1,
      )
  names_from before (Lost client ∷ events) acts untold held so_far h = absurd h.0

  -- Told: the thread's events that follow the program name only what was told.
  pub sound_names : (events : List Event) → AreActsOf t events → list_any (event_tells 0) events ≡ false → WaitsAreHeld t events no_locks → FollowsProgram next (Listed next) t events → NameOnlyTold [] events
  sound_names events acts untold held h = names_from [] events acts untold held tt h
