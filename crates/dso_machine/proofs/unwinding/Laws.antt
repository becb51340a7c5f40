-- The laws on how a thread leaves its locks and waits, by its events.
use Rattle.std.proofs.Common.{◌≡◌, refl, ℕ, ◌+◌, ◌≤◌, Bool, true, false, List, [], ◌∷◌, ◌++◌, length, Option, None, Some, subst, sym, ap, ◌∙◌, append_assoc, ◌⊎◌, inl, inr, arith}
use Rattle.std.specs.Prelude.{slice_get}
use Rattle.std.proofs.lemmas.List.{append-nil, length-append}
use Rattle.dso_base.specs.declared.lock.LockName.{LockName}
use Rattle.dso_base.specs.declared.lock.ThreadId.{ThreadId}
use Rattle.dso_base.specs.declared.request.Event.{Event}
use Rattle.dso_base.specs.declared.request.Event.TheVariants.{Act, Lost}
use Rattle.dso_base.specs.declared.request.Fault.{Fault}
use Rattle.dso_base.specs.declared.request.Reply.{Reply}
use Rattle.dso_base.specs.declared.request.Reply.TheVariants.{Done, Refused}
use Rattle.dso_base.specs.declared.request.Request.{Request}
use Rattle.dso_base.specs.declared.request.Request.TheVariants.{Exit, End, Settle}
use Rattle.dso_base.specs.Following.{IsListed, IsListedFor, Listed, FollowsFrom}
use Rattle.dso_machine.specs.declared.code.Code.{Code}
use Rattle.dso_machine.specs.declared.code.ThreadBody.{ThreadBody}
use Rattle.dso_machine.specs.Next.{body_of, enough_for, next_of, next_request, opening, replies_in, request_of, whole}
use Rattle.dso_machine.specs.Outcome.{Outcome, Fails}
use Rattle.dso_machine.specs.Statements.{block, methods}
use Rattle.dso_machine.specs.Unwinding.{outer, locks_after, with_replies, Hold, in_context, holds_around, locks_of, IsAtFault, FailsAfter, FollowsCode, unwinding, HoldsAfter, Unwinds, SettlesAsEntered, AreBehindExit}
use Rattle.dso_machine.specs.WaitingThreads.{Awake, waiting_after, waited_on_by, AsksAsItWaits}
use Rattle.dso_machine.proofs.moves.MoreRepliesInTrees.{moves_enough, same_wanted}
use Rattle.dso_machine.proofs.protocol.Parts.{one_function}
use Rattle.dso_machine.proofs.unwinding.Tidy.{Goes, Settles, left_at}
use Rattle.dso_machine.proofs.unwinding.Trees.{tidy_block, tidy_methods}
use Rattle.dso_machine.proofs.unwinding.Runs.{Run, Leaving, Facts, facts, run_asks}
use Rattle.dso_machine.proofs.unwinding.RunsOn.{Follow, front_follows, rest_follows, RunsOn, run_on}
use Rattle.dso_machine.proofs.unwinding.Unwound.{settled, holds_agree, unwound, context_unwound, unwound_goes, follow_same}

-- ---- the events of a thread

-- the replies of two lists of events
replies_both : (events more : List Event) → replies_in (events ++ more) ≡ replies_in events ++ replies_in more
replies_both [] more = refl
replies_both (Act t q r woken ∷ events) more = ap (λ rs. r ∷ rs) (replies_both events more)
replies_both (Lost client ∷ events) more = replies_both events more

-- one more event behind others, and what follows its reply
replies_behind : (before : List Event) (t : ThreadId) (q : Request) (r : Reply) (woken : Option ThreadId) (rs : List Reply) → replies_in (before ++ Act t q r woken ∷ []) ++ rs ≡ replies_in before ++ r ∷ rs
replies_behind [] t q r woken rs = refl
replies_behind (Act u p s by ∷ before) t q r woken rs = ap (λ all. s ∷ all) (replies_behind before t q r woken rs)
replies_behind (Lost client ∷ before) t q r woken rs = replies_behind before t q r woken rs

-- more replies need no fewer moves
enough_front : (past more : List Reply) → enough_for past ≤ enough_for (past ++ more)
enough_front past more =
    let longer : length (past ++ more) ≡ length past + length more = length-append past more in
    omega arith

-- the front of a list
front_is : (l : LockName) (ls rest : List LockName) → ls ≡ l ∷ rest → ls ≡ l ∷ outer ls
front_is l ls rest is = is ∙ ap (λ ks. l ∷ ks) (sym (ap outer is))

-- the run behind an exit settles exactly where that is said
settles_left : (synchronous : Bool) (hs : List Hold) (w : List Reply → Outcome) → Run (left_at synchronous) hs w
    → (synchronous ≡ true → request_of (w []) ≡ Some Settle) × (request_of (w []) ≡ Some Settle → synchronous ≡ true)
settles_left true hs w run = (λ same. (settled Settles hs w refl run).wanted, λ wanted. refl)
settles_left false hs w run = (λ same. absurd (cc same), λ wanted. absurd (goes_on ((facts Goes hs w run Settle wanted).settles refl)))
  where
    goes_on : Goes ≡ Settles → ⊥
    goes_on same = cc same

-- a thread does not settle at its start
from_start : (events : List Event) → ((events ≡ []) × (Goes ≡ Settles)) ⊎ AreBehindExit events → AreBehindExit events
from_start events (inl start) = absurd (goes_on start.1)
  where
    goes_on : Goes ≡ Settles → ⊥
    goes_on same = cc same
from_start events (inr behind) = behind

module _ (c : Code) (t : ThreadId) (body : ThreadBody) (found : body_of t c.bodies ≡ Some body) where
  -- the run of a thread from its start
  start : (n : ℕ) → Run Goes [] (whole c body n)
  start n = Run.within (λ rs. block c (methods c n) n body.body (opening body.vars rs)) ((tidy_block c (methods c n) (tidy_methods c n) n body.body).from (opening body.vars [])) (λ rs. refl)

  -- the next request is what is wanted, for any number of moves that is enough
  next_is : (before : List Event) (n : ℕ) → enough_for (replies_in before) ≤ n → next_request c t before ≡ request_of (whole c body n (replies_in before))
  next_is before n le = ap (next_of c (replies_in before)) found ∙ sym (moves_enough c body n (replies_in before) le)

  -- the thread's events follow what is wanted
  follow_from : (n : ℕ) (events before : List Event) → enough_for (replies_in before ++ replies_in events) ≤ n → FollowsFrom (next_request c) (Listed (next_request c)) t before events
      → Follow (λ rs. whole c body n (replies_in before ++ rs)) events
  follow_from n [] before le follows = tt
  follow_from n (Act u q r woken ∷ events) before le follows =
      let further : List Event = before ++ Act u q r woken ∷ [] in
      let shorter : enough_for (replies_in before) ≤ enough_for (replies_in before ++ r ∷ replies_in events) = enough_front (replies_in before) (r ∷ replies_in events) in
      let wanted : request_of (whole c body n (replies_in before ++ [])) ≡ Some q =
      subst (λ rs. request_of (whole c body n rs) ≡ Some q) (sym (append-nil (replies_in before))) (sym (next_is before n (omega arith)) ∙ follows.0.0) in
      let listed : IsListed q r = subst (λ next. IsListedFor next r) follows.0.0 follows.0.1 in
      let rest : Follow (λ rs. whole c body n (replies_in further ++ rs)) events =
      follow_from n events further (subst (λ rs. enough_for rs ≤ n) (sym (replies_behind before u q r woken (replies_in events))) le) follows.1 in
      (wanted, listed, subst (λ o. Follow o events) (one_function _ _ (λ rs. ap (whole c body n) (replies_behind before u q r woken rs))) rest)
  follow_from n (Lost client ∷ events) before le follows = absurd follows.0

  -- so from the start
  follow_all : (n : ℕ) (events : List Event) → enough_for (replies_in events) ≤ n → FollowsCode c t events → Follow (whole c body n) events
  follow_all n events le follows = follow_from n events [] le follows

  -- the run after the thread's events
  ran : (n : ℕ) (events : List Event) → enough_for (replies_in events) ≤ n → FollowsCode c t events → RunsOn Goes [] (whole c body n) events
  ran n events le follows = run_on events Goes [] (whole c body n) (start n) (follow_all n events le follows)

  -- What the thread wants, from where its code is at a fault, the number of moves does not change.
  module _ (events : List Event) (fault : Fault) (fails : FailsAfter c body (replies_in events) fault) where
    -- so many moves are enough there
    abbrev enough : ℕ
    enough = enough_for (replies_in events)

    here : IsAtFault fault fails.locks (λ rs. whole c body enough (replies_in events ++ rs))
    here = fails.fails enough (omega arith)

    same_here : (n : ℕ) → enough ≤ n → (rs : List Reply) → request_of (whole c body n (replies_in events ++ rs)) ≡ request_of (whole c body enough (replies_in events ++ rs))
    same_here n le rs = same_wanted c body enough n (replies_in events ++ rs) le
        (λ stopped. unwound_goes (in_context here.context (Fails fault (with_replies rs here.at))) (context_unwound here.context (Fails fault (with_replies rs here.at)) tt) (sym (here.comes rs) ∙ stopped))

    -- after more events the next request is that of the unwinding
    unwinds_next : (more : List Event) → FollowsCode c t (events ++ more) → next_request c t (events ++ more) ≡ slice_get (unwinding fault (holds_around here.context)) (length more)
    unwinds_next more follows =
        let n : ℕ = enough_for (replies_in (events ++ more)) in
        let both : replies_in (events ++ more) ≡ replies_in events ++ replies_in more = replies_both events more in
        let front : enough ≤ enough_for (replies_in events ++ replies_in more) = enough_front (replies_in events) (replies_in more) in
        let le : enough ≤ n = subst (λ rs. enough ≤ enough_for rs) (sym both) front in
        let all : Follow (λ rs. whole c body n (replies_in events ++ rs)) more = rest_follows (whole c body n) events more (follow_all n (events ++ more) (omega arith) follows) in
        next_is (events ++ more) n (omega arith) ∙ ap (λ rs. request_of (whole c body n rs)) both ∙ same_here n le (replies_in more)
        ∙ unwound fault here.context here.at _ here.comes more (follow_same _ _ (same_here n le) more all)

    -- The thread unwinds.
    unwinds_there : FollowsCode c t events → Unwinds c t events fault
    unwinds_there follows =
        let on : RunsOn Goes [] (whole c body enough) events = ran enough events (omega arith) follows in
        let agree : holds_around here.context ≡ on.holds = holds_agree fault here.context here.at on.phase on.holds _ on.run here.comes in
        record {
          holds = on.holds;
          its = record { body = body; its = found; moves = enough; enough = omega arith; after = on.after; locks = on.locks };
          asks = λ more further. unwinds_next more further ∙ ap (λ hs. slice_get (unwinding fault hs) (length more)) agree;
        }

  -- The run where the last of the thread's events is still to come.
  module _ (events : List Event) (q : Request) (r : Reply) (woken : Option ThreadId) (follows : FollowsCode c t (events ++ Act t q r woken ∷ [])) (n : ℕ)
      (le : enough_for (replies_in (events ++ Act t q r woken ∷ [])) ≤ n) where
    -- its event follows
    last_follows : Follow (λ rs. whole c body n (replies_in events ++ rs)) (Act t q r woken ∷ [])
    last_follows = rest_follows (whole c body n) events (Act t q r woken ∷ []) (follow_all n (events ++ Act t q r woken ∷ []) le follows)

    -- the run there
    last_run : RunsOn Goes [] (whole c body n) events
    last_run = run_on events Goes [] (whole c body n) (start n) (front_follows (whole c body n) events (Act t q r woken ∷ []) (follow_all n (events ++ Act t q r woken ∷ []) le follows))

    -- and what is so there
    last_facts : Facts last_run.phase last_run.holds (λ rs. whole c body n (replies_in events ++ rs)) q
    last_facts = facts last_run.phase last_run.holds _ last_run.run q last_follows.0

    -- the replies with the last one
    last_replies : (rs : List Reply) → whole c body n (replies_in events ++ r ∷ rs) ≡ whole c body n (replies_in (events ++ Act t q r woken ∷ []) ++ rs)
    last_replies rs = ap (whole c body n) (sym (replies_behind events t q r woken rs))

  -- A refusal puts the code at its fault.
  refusal_fails : (events : List Event) (q : Request) (fault : Fault) (woken : Option ThreadId) → FollowsCode c t (events ++ Act t q (Refused fault) woken ∷ [])
      → FailsAfter c body (replies_in (events ++ Act t q (Refused fault) woken ∷ [])) fault
  refusal_fails events q fault woken follows = record {
    locks = locks_after [] events;
    fails = λ n le.
        let at : IsAtFault fault (locks_of (last_run events q (Refused fault) woken follows n le).holds) (λ rs. whole c body n (replies_in events ++ Refused fault ∷ rs)) =
        (last_facts events q (Refused fault) woken follows n le).fails fault (last_follows events q (Refused fault) woken follows n le).1 in
        subst (IsAtFault fault (locks_after [] events)) (one_function _ _ (last_replies events q (Refused fault) woken follows n le))
        (subst (λ ls. IsAtFault fault ls (λ rs. whole c body n (replies_in events ++ Refused fault ∷ rs))) (last_run events q (Refused fault) woken follows n le).locks at);
  }

  -- What is so where this is the thread's next request, for any number of moves that is enough.
  facts_there : (events : List Event) (q : Request) (n : ℕ) (le : enough_for (replies_in events) ≤ n) (follows : FollowsCode c t events) → next_request c t events ≡ Some q
      → Facts (ran n events le follows).phase (ran n events le follows).holds (λ rs. whole c body n (replies_in events ++ rs)) q
  facts_there events q n le follows wanted = facts _ _ _ (ran n events le follows).run q
      (ap (λ rs. request_of (whole c body n rs)) (append-nil (replies_in events)) ∙ sym (next_is events n le) ∙ wanted)

  -- A thread that ends with a fault is at it.
  fault_there : (events : List Event) (fault : Fault) → FollowsCode c t events → next_request c t events ≡ Some (End (Some fault)) → FailsAfter c body (replies_in events) fault
  fault_there events fault follows wanted = record {
    locks = locks_after [] events;
    fails = λ n le. subst (λ ls. IsAtFault fault ls (λ rs. whole c body n (replies_in events ++ rs))) (ran n events le follows).locks
        ((facts_there events (End (Some fault)) n le follows wanted).at_its_fault fault refl);
  }

  -- It leaves the innermost of its locks,
  exits_there : (events : List Event) (l : LockName) → FollowsCode c t events → next_request c t events ≡ Some (Exit l) → locks_after [] events ≡ l ∷ outer (locks_after [] events)
  exits_there events l follows wanted =
      let n : ℕ = enough_for (replies_in events) in
      let on : RunsOn Goes [] (whole c body n) events = ran n events (omega arith) follows in
      let here : Leaving l on.holds (λ rs. whole c body n (replies_in events ++ rs)) = (facts_there events (Exit l) n (omega arith) follows wanted).exits l refl in
      front_is l (locks_after [] events) (locks_of (outer on.holds)) (sym on.locks ∙ ap locks_of here.is ∙ ap (λ k. k ∷ locks_of (outer on.holds)) here.lock)

  -- has none at its end,
  ends_there : (events : List Event) (fault : Option Fault) → FollowsCode c t events → next_request c t events ≡ Some (End fault) → locks_after [] events ≡ []
  ends_there events fault follows wanted =
      let n : ℕ = enough_for (replies_in events) in
      let on : RunsOn Goes [] (whole c body n) events = ran n events (omega arith) follows in
      sym on.locks ∙ ap locks_of ((facts_there events (End fault) n (omega arith) follows wanted).ends fault refl)

  -- and asks as it waits.
  waits_there : (events : List Event) → FollowsCode c t events → AsksAsItWaits (waiting_after Awake events) (next_request c t events)
  waits_there events follows =
      let n : ℕ = enough_for (replies_in events) in
      let on : RunsOn Goes [] (whole c body n) events = ran n events (omega arith) follows in
      let is : request_of (whole c body n (replies_in events ++ [])) ≡ next_request c t events = ap (λ rs. request_of (whole c body n rs)) (append-nil (replies_in events)) ∙ sym (next_is events n (omega arith)) in
      subst (AsksAsItWaits (waiting_after Awake events)) is (subst (λ x. AsksAsItWaits x (request_of (whole c body n (replies_in events ++ [])))) on.waits (run_asks on.phase on.holds _ on.run))

  -- After an exit it settles where the entry was at synchronous write.
  module _ (events : List Event) (l : LockName) (woken : Option ThreadId) (follows : FollowsCode c t (events ++ Act t (Exit l) Done woken ∷ [])) where
    -- so many moves are enough behind the exit
    abbrev behind : ℕ
    behind = enough_for (replies_in (events ++ Act t (Exit l) Done woken ∷ []))

    before_exit : RunsOn Goes [] (whole c body behind) events
    before_exit = last_run events (Exit l) Done woken follows behind (omega arith)

    leaving_it : Leaving l before_exit.holds (λ rs. whole c body behind (replies_in events ++ rs))
    unfolding before_exit last_run
    leaving_it = (last_facts events (Exit l) Done woken follows behind (omega arith)).exits l refl

    -- the next request is what is wanted behind the exit
    wanted_behind : next_request c t (events ++ Act t (Exit l) Done woken ∷ []) ≡ request_of (whole c body behind (replies_in events ++ Done ∷ []))
    wanted_behind = next_is (events ++ Act t (Exit l) Done woken ∷ []) behind (omega arith)
        ∙ ap request_of (sym (last_replies events (Exit l) Done woken follows behind (omega arith) [] ∙ ap (whole c body behind) (append-nil (replies_in (events ++ Act t (Exit l) Done woken ∷ [])))))

    fewer : enough_for (replies_in events) ≤ behind
    fewer = subst (λ rs. enough_for (replies_in events) ≤ enough_for rs) (sym (replies_both events (Act t (Exit l) Done woken ∷ []))) (enough_front (replies_in events) (Done ∷ []))

    settles_there : SettlesAsEntered c t events (next_request c t (events ++ Act t (Exit l) Done woken ∷ []))
    settles_there = record {
      hold = leaving_it.front;
      others = outer before_exit.holds;
      its = record {
        body = body;
        its = found;
        moves = behind;
        enough = fewer;
        after = subst (HoldsAfter (whole c body behind) [] events) leaving_it.is before_exit.after;
        locks = ap locks_of (sym leaving_it.is) ∙ before_exit.locks;
      };
      settles = λ synchronous. wanted_behind ∙ (settles_left leaving_it.front.synchronous (outer before_exit.holds) _ leaving_it.run).0 synchronous;
      only_then = λ wanted. (settles_left leaving_it.front.synchronous (outer before_exit.holds) _ leaving_it.run).1 (sym wanted_behind ∙ wanted);
    }

  -- It settles only behind an exit.
  behind_exit : (events : List Event) → FollowsCode c t events → next_request c t events ≡ Some Settle → AreBehindExit events
  behind_exit events follows wanted =
      let n : ℕ = enough_for (replies_in events) in
      let on : RunsOn Goes [] (whole c body n) events = ran n events (omega arith) follows in
      from_start events (on.behind ((facts_there events Settle n (omega arith) follows wanted).settles refl))

-- ---- the laws

-- a thread that asks something is there
pub record IsThere (c : Code) (t : ThreadId) : Type 0 where
  pub body : ThreadBody
  pub found : body_of t c.bodies ≡ Some body

there : (c : Code) (t : ThreadId) (events : List Event) (q : Request) (body : Option ThreadBody) → body_of t c.bodies ≡ body → next_request c t events ≡ Some q → IsThere c t
there c t events q (Some body) found wanted = record { body = body; found = found }
there c t events q None found wanted = absurd (cc (sym (ap (next_of c (replies_in events)) found) ∙ wanted))

-- the last of events that follow was the next request
last_wanted : (c : Code) (t : ThreadId) (events before : List Event) (q : Request) (r : Reply) (woken : Option ThreadId)
    → FollowsFrom (next_request c) (Listed (next_request c)) t before (events ++ Act t q r woken ∷ []) → next_request c t (before ++ events) ≡ Some q
last_wanted c t [] before q r woken follows = subst (λ es. next_request c t es ≡ Some q) (sym (append-nil before)) follows.0.0
last_wanted c t (e ∷ events) before q r woken follows =
    subst (λ es. next_request c t es ≡ Some q) (append_assoc before (e ∷ []) events) (last_wanted c t events (before ++ e ∷ []) q r woken follows.1)

pub refused : (c : Code) (t : ThreadId) (events : List Event) (q : Request) (fault : Fault) (woken : Option ThreadId) → FollowsCode c t (events ++ Act t q (Refused fault) woken ∷ [])
    → Unwinds c t (events ++ Act t q (Refused fault) woken ∷ []) fault
refused c t events q fault woken follows =
    let h : IsThere c t = there c t events q (body_of t c.bodies) refl (last_wanted c t events [] q (Refused fault) woken follows) in
    unwinds_there c t h.body h.found (events ++ Act t q (Refused fault) woken ∷ []) fault (refusal_fails c t h.body h.found events q fault woken follows) follows

pub failed : (c : Code) (t : ThreadId) (body : ThreadBody) (events : List Event) (fault : Fault) → body_of t c.bodies ≡ Some body → FollowsCode c t events → FailsAfter c body (replies_in events) fault
    → Unwinds c t events fault
failed c t body events fault found follows fails = unwinds_there c t body found events fault fails follows

pub ended : (c : Code) (t : ThreadId) (body : ThreadBody) (events : List Event) (fault : Fault) → body_of t c.bodies ≡ Some body → FollowsCode c t events
    → next_request c t events ≡ Some (End (Some fault)) → FailsAfter c body (replies_in events) fault
ended c t body events fault found follows wanted = fault_there c t body found events fault follows wanted

pub exits : (c : Code) (t : ThreadId) (events : List Event) (l : LockName) → FollowsCode c t events → next_request c t events ≡ Some (Exit l) → locks_after [] events ≡ l ∷ outer (locks_after [] events)
exits c t events l follows wanted =
    let h : IsThere c t = there c t events (Exit l) (body_of t c.bodies) refl wanted in
    exits_there c t h.body h.found events l follows wanted

pub ends : (c : Code) (t : ThreadId) (events : List Event) (fault : Option Fault) → FollowsCode c t events → next_request c t events ≡ Some (End fault) → locks_after [] events ≡ []
ends c t events fault follows wanted =
    let h : IsThere c t = there c t events (End fault) (body_of t c.bodies) refl wanted in
    ends_there c t h.body h.found events fault follows wanted

-- a thread that isn't there has no events, and asks nothing
waits_found : (c : Code) (t : ThreadId) (body : Option ThreadBody) → body_of t c.bodies ≡ body → (events : List Event) → FollowsCode c t events → AsksAsItWaits (waiting_after Awake events) (next_request c t events)
waits_found c t (Some body) found events follows = waits_there c t body found events follows
waits_found c t None found [] follows = ap (λ x. waited_on_by (next_of c [] x)) found
waits_found c t None found (Act u q r woken ∷ events) follows = absurd (cc (sym (ap (next_of c []) found) ∙ follows.0.0))
waits_found c t None found (Lost client ∷ events) follows = absurd follows.0

pub waits : (c : Code) (t : ThreadId) (events : List Event) → FollowsCode c t events → AsksAsItWaits (waiting_after Awake events) (next_request c t events)
waits c t events follows = waits_found c t (body_of t c.bodies) refl events follows

pub settles : (c : Code) (t : ThreadId) (events : List Event) (l : LockName) (woken : Option ThreadId) → FollowsCode c t (events ++ Act t (Exit l) Done woken ∷ [])
    → SettlesAsEntered c t events (next_request c t (events ++ Act t (Exit l) Done woken ∷ []))
settles c t events l woken follows =
    let h : IsThere c t = there c t events (Exit l) (body_of t c.bodies) refl (last_wanted c t events [] (Exit l) Done woken follows) in
    settles_there c t h.body h.found events l woken follows

pub settles_only : (c : Code) (t : ThreadId) (events : List Event) → FollowsCode c t events → next_request c t events ≡ Some Settle → AreBehindExit events
settles_only c t events follows wanted =
    let h : IsThere c t = there c t events Settle (body_of t c.bodies) refl wanted in
    behind_exit c t h.body h.found events follows wanted
