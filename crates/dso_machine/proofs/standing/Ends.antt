-- A thread is over exactly where its program asks nothing more.
use Rattle.std.proofs.Common.{◌≡◌, ◌≢◌, ◌⊎◌, inl, inr, ℕ, ◌+◌, ◌-◌, List, [], ◌∷◌, Some, None, refl, sym, ap, ◌∙◌, subst, arith}
use Rattle.std.proofs.lemmas.List.{append-nil}
use Rattle.dso_base.specs.declared.lock.ThreadId.{ThreadId}
use Rattle.dso_base.specs.declared.request.Event.{Event}
use Rattle.dso_base.specs.declared.request.Reply.{Reply}
use Rattle.dso_base.specs.declared.request.Request.{Request}
use Rattle.dso_base.specs.declared.request.Request.TheVariants as request
use Rattle.dso_machine.specs.declared.code.Code.{Code}
use Rattle.dso_machine.specs.declared.code.ThreadBody.{ThreadBody}
use Rattle.dso_machine.specs.declared.machine.Core.{Core}
use Rattle.dso_machine.specs.declared.continuation.Now.{Now}
use Rattle.dso_machine.specs.declared.continuation.OnReply.{OnReply}
use Rattle.dso_machine.specs.declared.thread.Due.{Due}
use Rattle.dso_machine.specs.declared.thread.Due.TheVariants as due
use Rattle.dso_machine.specs.declared.thread.Thread.{Thread}
use Rattle.dso_machine.specs.Next.{replies_in, opening, finish, whole, enough_for, next_of, next_request, request_of}
use Rattle.dso_machine.specs.Outcome.{State, Outcome, Wants, Gives, Leaves, Fails, Hears, Over, Stopped, on_reply, asked}
use Rattle.dso_machine.specs.Continuation.{Means, StandsAt}
use Rattle.dso_machine.specs.Standing.{ThreadStands, StandsFor, HearsAt, MeansHeard, IsEnded, IsOver, is_over}
use Rattle.dso_machine.specs.Statements.{block, methods}
use Rattle.dso_machine.proofs.moves.Enough.{never_stopped}
use Rattle.dso_machine.proofs.standing.ContinuationNotOver.{live_now, live_heard, live_rest}

-- the end of a thread's code wants its reply, or is over
ending : (q : Request) (at : State) (rs : List Reply) → request_of (on_reply (λ r u. Over) (asked [] q at rs)) ≡ None → on_reply (λ r u. Over) (asked [] q at rs) ≡ Over
ending q at [] e = absurd (cc e)
ending q at (r ∷ rs) e = refl

-- all of a thread's code wants something, or is over, or was stopped
wants_or_ends : (p : Outcome) → request_of (finish p) ≡ None → (finish p ≡ Over) ⊎ (finish p ≡ Stopped)
wants_or_ends (Wants q env) e = absurd (cc e)
wants_or_ends (Gives v at) e = inl (ending (request.End None) at at.replies e)
wants_or_ends (Leaves v at) e = inl (ending (request.End None) at at.replies e)
wants_or_ends (Fails fault at) e = inl (ending (request.End (Some fault)) at at.replies e)
wants_or_ends (Hears r at) e = inl refl
wants_or_ends Over e = inl refl
wants_or_ends Stopped e = inr refl

-- a program that asks nothing is over
asks_none : (code : Code) (body : ThreadBody) (past : List Reply) → request_of (whole code body (enough_for past) past) ≡ None → whole code body (enough_for past) past ≡ Over
asks_none code body past e = by (wants_or_ends (block code (methods code (enough_for past)) (enough_for past) body.body (opening body.vars past)) e)
  where
    by : (whole code body (enough_for past) past ≡ Over) ⊎ (whole code body (enough_for past) past ≡ Stopped) → whole code body (enough_for past) past ≡ Over
    by (inl over) = over
    by (inr stopped) = absurd (never_stopped code body past stopped)

-- a thread that goes on is not over
goes_on : (code : Code) (body : ThreadBody) (a : Now) (core : Core) (past : List Reply) → StandsAt code body a core past → whole code body (enough_for past) past ≢ Over
goes_on code body a core past st over =
    let left : ℕ = enough_for past - st.made in
    let b = st.bounded in
    let f = st.few in
    let e : st.made + left ≡ enough_for past = omega arith in
    let means : Means code left a core [] (whole code body (enough_for past) past) = subst (λ i. Means code left a core [] (whole code body i past)) e
    (subst (λ xs. Means code left a core [] (whole code body (st.made + left) xs)) (append-nil past) (st.means left [])) in
    live_rest code left core.tasks _ _ (live_now code means.fuel.n means.fuel.k a core) means.rest over

-- nor is one whose reply is there
hears_on : (code : Code) (body : ThreadBody) (r : Reply) (on : OnReply) (core : Core) (past : List Reply) → HearsAt code body r on core past → whole code body (enough_for past) past ≢ Over
hears_on code body r on core past st over =
    let left : ℕ = enough_for past - st.made in
    let b = st.bounded in
    let e : st.made + left ≡ enough_for past = omega arith in
    let means : MeansHeard code left r on core [] (whole code body (enough_for past) past) = subst (λ i. MeansHeard code left r on core [] (whole code body i past)) e
    (subst (λ xs. MeansHeard code left r on core [] (whole code body (st.made + left) xs)) (append-nil past) (st.means left [])) in
    live_rest code left core.tasks _ _ (live_heard code means.fuel.n means.fuel.k on r core) means.rest over

-- a thread that has ended is over, by so many moves as are enough,
pub over_after : (code : Code) (body : ThreadBody) (past : List Reply) → IsEnded code body past → whole code body (enough_for past) past ≡ Over
over_after code body past st =
    let left : ℕ = enough_for past - st.made in
    let b = st.bounded in
    let e : st.made + left ≡ enough_for past = omega arith in
    subst (λ i. whole code body i past ≡ Over) e (st.over left)

-- so it asks nothing
asks_nothing : (code : Code) (body : ThreadBody) (past : List Reply) → IsEnded code body past → request_of (whole code body (enough_for past) past) ≡ None
asks_nothing code body past st = ap request_of (over_after code body past st)

-- a thread that has ended asks nothing more
ends_none : (code : Code) (body : ThreadBody) (d : Due) (core : Core) (past : List Reply) → StandsFor code body d core past → is_over d → request_of (whole code body (enough_for past) past) ≡ None
ends_none code body due.Over core past st over = asks_nothing code body past st
ends_none code body (due.Going a) core past st over = absurd over
ends_none code body (due.Heard r on) core past st over = absurd over

-- and one that asks nothing more has ended
none_ends : (code : Code) (body : ThreadBody) (d : Due) (core : Core) (past : List Reply) → StandsFor code body d core past → request_of (whole code body (enough_for past) past) ≡ None → is_over d
none_ends code body due.Over core past st none = tt
none_ends code body (due.Going a) core past st none = absurd (goes_on code body a core past st (asks_none code body past none))
none_ends code body (due.Heard r on) core past st none = absurd (hears_on code body r on core past st (asks_none code body past none))

-- A thread that has ended is one whose program asks nothing more.
pub over_asks : (code : Code) (t : ThreadId) (thread : Thread) (events : List Event) → ThreadStands code t thread events → IsOver thread → next_request code t events ≡ None
over_asks code t thread events st over = ap (next_of code (replies_in events)) st.its ∙ ends_none code st.body thread.due thread.core (replies_in events) st.stands over

pub asks_over : (code : Code) (t : ThreadId) (thread : Thread) (events : List Event) → ThreadStands code t thread events → next_request code t events ≡ None → IsOver thread
asks_over code t thread events st none =
    none_ends code st.body thread.due thread.core (replies_in events) st.stands (sym (ap (next_of code (replies_in events)) st.its) ∙ none)

-- a thread is over where that is due
pub over_is : (d : Due) → is_over d → d ≡ due.Over
over_is due.Over h = refl
over_is (due.Going a) h = absurd h
over_is (due.Heard r on) h = absurd h
