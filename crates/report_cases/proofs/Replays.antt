-- A thread that runs again through its events.
use Rattle.std.proofs.Common.{◌≡◌, refl, sym, ◌∙◌, ap, subst, ℕ, ◌<◌, ◌+◌, Bool, true, false, cond, Option, Some, List, [], ◌∷◌, ◌++◌, length, take, drop, get_or, add-one}
use Rattle.std.proofs.lemmas.List.{append_assoc, append-nil, take-append-drop}
use Rattle.std.proofs.lemmas.Option.{none-some}
use Rattle.std.proofs.Math.Seq.{take-suc}
use Rattle.dso_base.specs.declared.lock.ThreadId.{ThreadId}
use Rattle.dso_base.specs.declared.request.Event.{Event}
use Rattle.dso_base.specs.declared.request.Event.TheVariants.{Act}
use Rattle.dso_base.specs.declared.request.Reply.{Reply}
use Rattle.dso_base.specs.declared.request.Request.{Request}
use Rattle.dso_base.specs.Following.{FollowsFrom, IsListedFor, Listed}
use Rattle.dso_machine.specs.declared.code.Code.{Code}
use Rattle.dso_machine.specs.declared.thread.Thread.{Thread}
use Rattle.dso_machine.specs.Next.{next_request}
use Rattle.dso_machine.specs.Standing.{IsOver, ThreadStands}
use Rattle.dso_machine.proofs.standing.Ends.{over_asks}
use Rattle.dso_plain.specs.History.{events_of}
use Rattle.dso_plain.proofs.keys.SameKeys.{thread_self}
use Rattle.dso_plain.proofs.histories.LegalGoesOn.{events_in_parts}
use Rattle.report_cases.specs.LegalRun.{CanFollow, FollowsCode}

-- an act of the thread is its own part
own_part : (t u : ThreadId) (q : Request) (r : Reply) (woken : Option ThreadId) → u ≡ t → events_of t (Act u q r woken ∷ []) ≡ Act t q r woken ∷ []
own_part t u q r woken same =
    ap (λ v. events_of t (Act v q r woken ∷ [])) same ∙ ap (λ b. cond b (Act t q r woken ∷ []) []) (thread_self t)

module _ (code : Code) (t u : ThreadId) (run : Thread) (q : Request) (r : Reply) (woken : Option ThreadId) where
  -- an act of the thread that it can follow has its next request, and a reply that is listed there
  next_is : (can : CanFollow code t run (Act u q r woken)) → u ≡ t → (next_request code t can.past ≡ Some q) × IsListedFor (next_request code t can.past) r
  next_is can same = (subst (FollowsFrom (next_request code) (Listed (next_request code)) t can.past) (own_part t u q r woken same) can.next).0

  -- a thread that can follow an act of its own goes on
  pub goes : CanFollow code t run (Act u q r woken) → u ≡ t → IsOver run → ⊥
  goes can same over = none-some q (sym (over_asks code t run can.past can.stands over) ∙ (next_is can same).0)

module _ (code : Code) (t : ThreadId) where
  -- events that follow the code do so from behind the first of them on
  behind : (before first second : List Event) → FollowsFrom (next_request code) (Listed (next_request code)) t before (first ++ second)
      → FollowsFrom (next_request code) (Listed (next_request code)) t (before ++ first) second
  behind before [] second follows = subst (λ es. FollowsFrom (next_request code) (Listed (next_request code)) t es second) (sym (append-nil before)) follows
  behind before (e ∷ first) second follows =
      subst (λ es. FollowsFrom (next_request code) (Listed (next_request code)) t es second) (append_assoc before (e ∷ []) first)
      (behind (before ++ e ∷ []) first second follows.1)

  -- the first of events that follow the code follow it
  front : (before first second : List Event) → FollowsFrom (next_request code) (Listed (next_request code)) t before (first ++ second)
      → FollowsFrom (next_request code) (Listed (next_request code)) t before first
  front before [] second follows = tt
  front before (e ∷ first) second follows = (follows.0, front (before ++ e ∷ []) first second follows.1)

  -- the thread's events among the first ones, with the next one
  pub taken_more : (events : List Event) (i : ℕ) (d : Event) → i < length events → events_of t (take (i + 1) events) ≡ events_of t (take i events) ++ events_of t (get_or events i d ∷ [])
  taken_more events i d within = ap (λ k. events_of t (take k events)) (add-one i) ∙ ap (events_of t) (take-suc events i d within) ∙ events_in_parts t (take i events) (get_or events i d ∷ [])

  -- a list is what is taken of it with the next item, and the rest
  parts : (events : List Event) (i : ℕ) (d : Event) → i < length events → events ≡ take i events ++ (get_or events i d ∷ drop (i + 1) events)
  parts events i d within =
      sym (take-append-drop (i + 1) events) ∙ ap (λ taken. taken ++ drop (i + 1) events) (ap (λ k. take k events) (add-one i) ∙ take-suc events i d within)
      ∙ append_assoc (take i events) (get_or events i d ∷ []) (drop (i + 1) events)

  -- the thread can follow the next event, where it stands for its events among those before
  pub can_follow : (events : List Event) (run : Thread) (i : ℕ) (d : Event) → i < length events → FollowsCode code t events → ThreadStands code t run (events_of t (take i events)) → CanFollow code t run (get_or events i d)
  can_follow events run i d within follows stands =
      let e = get_or events i d in
      let rest = drop (i + 1) events in
      let split : events_of t events ≡ events_of t (take i events) ++ events_of t (e ∷ rest) =
      ap (events_of t) (parts events i d within) ∙ events_in_parts t (take i events) (e ∷ rest) in
      let ahead = behind [] (events_of t (take i events)) (events_of t (e ∷ rest)) (subst (λ es. FollowsFrom (next_request code) (Listed (next_request code)) t [] es) split follows) in
      record {
        past = events_of t (take i events);
        stands = stands;
        next = front (events_of t (take i events)) (events_of t (e ∷ [])) (events_of t rest)
            (subst (λ es. FollowsFrom (next_request code) (Listed (next_request code)) t (events_of t (take i events)) es) (events_in_parts t (e ∷ []) rest) ahead);
      }
