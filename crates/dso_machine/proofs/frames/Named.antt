-- The values that a thread's frame, continuation and request have are those that it holds after its events, in another order.
use Rattle.std.specs.List.{fold}
use Rattle.std.proofs.Common.{◌≡◌, ◌≢◌, ◌⊎◌, inl, inr, None, refl, ℕ, false, ◌||◌, eqb, List, [], ◌∷◌, ◌++◌, Some, subst, sym, ap, ◌∙◌, reverse}
use Rattle.std.proofs.Math.Bool.{or_assoc, or_comm}
use Rattle.std.proofs.lemmas.List.{reverse-append}
use Rattle.std.proofs.lemmas.List.Folds.{list_any-append}
use Rattle.dso_base.specs.declared.lock.ThreadId.{ThreadId}
use Rattle.dso_base.specs.declared.request.Event.{Event}
use Rattle.dso_base.specs.declared.request.Request.{Request}
use Rattle.dso_base.specs.declared.value.Value.{Value}
use Rattle.dso_base.specs.declared.value.Value.TheVariants as value
use Rattle.dso_base.specs.Block.{has_reference}
use Rattle.dso_base.specs.Naming.{request_names}
use Rattle.dso_machine.specs.declared.code.Code.{Code}
use Rattle.dso_machine.specs.declared.machine.Core.{Core}
use Rattle.dso_machine.specs.declared.continuation.Now.{Now}
use Rattle.dso_machine.specs.declared.continuation.Now.TheVariants as now
use Rattle.dso_machine.specs.declared.continuation.Task.{Task}
use Rattle.dso_machine.specs.declared.thread.Due.TheVariants as due
use Rattle.dso_machine.specs.declared.thread.Thread.{Thread}
use Rattle.dso_machine.specs.Continuation.{IsAsk, StandsAt, held_at, outer_of, task_values}
use Rattle.dso_machine.specs.Frames.{IsAtRest, all_held, frames_after, holds_then, is_listed, object_in, objects_of, request_values, with_tasks}
use Rattle.dso_machine.specs.Next.{next_request, replies_in}
use Rattle.dso_machine.specs.Outcome.{Wants}
use Rattle.dso_machine.specs.Standing.{IsEnded, StandsFor, ThreadStands, asked_at, asked_by, is_over}
use Rattle.dso_machine.proofs.standing.AfterEvents.{environment_at, wanted_at}
use Rattle.dso_machine.proofs.standing.Ends.{over_after}
use Rattle.dso_machine.proofs.frames.Held.{or_false, request_named}
use Rattle.dso_machine.proofs.frames.Law.{held_there, held_after}

-- ---- values in lists

-- what is named in two lists is named in one of them
named_in_both : (o : ℕ) (vs ws : List Value) → has_reference o (vs ++ ws) ≡ (has_reference o vs || has_reference o ws)
named_in_both o [] ws = refl
named_in_both o (value.Ref named ∷ vs) ws = ap (λ b. eqb named o || b) (named_in_both o vs ws) ∙ sym (or_assoc (eqb named o) (has_reference o vs) (has_reference o ws))
named_in_both o (value.Null ∷ vs) ws = named_in_both o vs ws
named_in_both o (value.Long n ∷ vs) ws = named_in_both o vs ws
named_in_both o (value.Bool b ∷ vs) ws = named_in_both o vs ws
named_in_both o (value.Text t ∷ vs) ws = named_in_both o vs ws

-- an object is listed with those of values where it is named there, or was listed
listed_with : (o : ℕ) (found : List ℕ) (vs : List Value) → is_listed o (fold (λ before v. before ++ object_in v) found vs) ≡ (is_listed o found || has_reference o vs)
listed_with o found [] = sym (or_false (is_listed o found))
listed_with o found (v ∷ vs) = listed_with o (found ++ object_in v) vs ∙ ap (λ b. b || has_reference o vs) (list_any-append (λ listed. eqb listed o) found (object_in v)) ∙ one_more v
  where
    one_more : (v : Value) → ((is_listed o found || is_listed o (object_in v)) || has_reference o vs) ≡ (is_listed o found || has_reference o (v ∷ vs))
    one_more (value.Ref named) = or_assoc (is_listed o found) (eqb named o || false) (has_reference o vs) ∙ ap (λ b. is_listed o found || (b || has_reference o vs)) (or_false (eqb named o))
    one_more value.Null = ap (λ b. b || has_reference o vs) (or_false (is_listed o found))
    one_more (value.Long n) = ap (λ b. b || has_reference o vs) (or_false (is_listed o found))
    one_more (value.Bool b) = ap (λ b. b || has_reference o vs) (or_false (is_listed o found))
    one_more (value.Text t) = ap (λ b. b || has_reference o vs) (or_false (is_listed o found))

-- ---- the tasks of a continuation

-- what is named by tasks is held by them
named_by_tasks : (o : ℕ) (held : List Value) (ts : List Task) → has_reference o (with_tasks held ts) ≡ (has_reference o held || has_reference o (outer_of ts))
named_by_tasks o held [] = sym (or_false (has_reference o held))
named_by_tasks o held (t ∷ ts) = named_by_tasks o (held ++ task_values t) ts
    ∙ ap (λ b. b || has_reference o (outer_of ts)) (named_in_both o held (task_values t))
    ∙ or_assoc (has_reference o held) (has_reference o (task_values t)) (has_reference o (outer_of ts))
    ∙ ap (λ b. has_reference o held || b) (sym (named_in_both o (task_values t) (outer_of ts)))

-- so by tasks and one more below them,
named_below : (o : ℕ) (ts : List Task) (t : Task) → has_reference o (outer_of (ts ++ t ∷ [])) ≡ (has_reference o (task_values t) || has_reference o (outer_of ts))
named_below o [] t = named_in_both o (task_values t) []
named_below o (s ∷ ts) t = named_in_both o (task_values s) (outer_of (ts ++ t ∷ []))
    ∙ ap (λ b. has_reference o (task_values s) || b) (named_below o ts t)
    ∙ sym (or_assoc (has_reference o (task_values s)) (has_reference o (task_values t)) (has_reference o (outer_of ts)))
    ∙ ap (λ b. b || has_reference o (outer_of ts)) (or_comm (has_reference o (task_values s)) (has_reference o (task_values t)))
    ∙ or_assoc (has_reference o (task_values t)) (has_reference o (task_values s)) (has_reference o (outer_of ts))
    ∙ ap (λ b. has_reference o (task_values t) || b) (sym (named_in_both o (task_values s) (outer_of ts)))

-- and by tasks the other way round
named_reversed : (o : ℕ) (ts : List Task) → has_reference o (outer_of (reverse ts)) ≡ has_reference o (outer_of ts)
named_reversed o [] = refl
named_reversed o (t ∷ ts) = ap (λ xs. has_reference o (outer_of xs)) (reverse-append (t ∷ []) ts)
    ∙ named_below o (reverse ts) t
    ∙ ap (λ b. has_reference o (task_values t) || b) (named_reversed o ts)
    ∙ sym (named_in_both o (task_values t) (outer_of ts))

-- ---- what a thread holds

-- all that is held where a request is out is what the frames hold and the request names
named_held : (a : Now) (core : Core) (q : Request) (o : ℕ) → has_reference o (all_held a core q) ≡ held_there (Wants q (environment_at a core)) o
named_held a core q o =
    let frame : List Value = core.frame.this ∷ core.frame.vars in
    let tasks : List Task = reverse core.tasks in
    named_in_both o (with_tasks (frame ++ held_at a) tasks) (request_values q)
    ∙ ap (λ b. has_reference o (with_tasks (frame ++ held_at a) tasks) || b) (request_named q o)
    ∙ ap (λ b. b || request_names q o) (named_by_tasks o (frame ++ held_at a) tasks
    ∙ ap (λ b. b || has_reference o (outer_of tasks)) (named_in_both o frame (held_at a))
    ∙ or_assoc (has_reference o frame) (has_reference o (held_at a)) (has_reference o (outer_of tasks))
    ∙ ap (λ b. has_reference o frame || (has_reference o (held_at a) || b)) (named_reversed o core.tasks)
    ∙ ap (λ b. has_reference o frame || b) (sym (named_in_both o (held_at a) (outer_of core.tasks)))
    ∙ sym (named_in_both o frame (held_at a ++ outer_of core.tasks)))

-- a thread whose request is out
pub named_out : (code : Code) (t : ThreadId) (thread : Thread) (events : List Event) (a : Now) (q : Request) (o : ℕ) → ThreadStands code t thread events
    → thread.due ≡ due.Going a → asked_by a ≡ Some q → is_listed o (objects_of (all_held a thread.core q)) ≡ holds_then (next_request code) (frames_after code) t events o
named_out code t thread events a q o st going out =
    let stands : StandsAt code st.body a thread.core (replies_in events) = subst (λ d. StandsFor code st.body d thread.core (replies_in events)) going st.stands in
    listed_with o [] (all_held a thread.core q) ∙ named_held a thread.core q o
    ∙ ap (λ w. held_there w o) (sym (wanted_at code st.body a thread.core q (replies_in events) out stands))
    ∙ sym (held_after code t st.body st.its events o)

-- a thread that has ended holds nothing
pub named_over : (code : Code) (t : ThreadId) (thread : Thread) (events : List Event) (o : ℕ) → ThreadStands code t thread events → thread.due ≡ due.Over
    → false ≡ holds_then (next_request code) (frames_after code) t events o
named_over code t thread events o st is =
    let ended : IsEnded code st.body (replies_in events) = subst (λ d. StandsFor code st.body d thread.core (replies_in events)) is st.stands in
    ap (λ w. held_there w o) (sym (over_after code st.body (replies_in events) ended)) ∙ sym (held_after code t st.body st.its events o)

-- ---- a thread at rest

-- what asks is at a request
ask_at : (a : Now) → asked_by a ≢ None → IsAsk a
ask_at (now.Ask q on) out = tt
ask_at (now.End fault) out = tt
ask_at a out = absurd (out refl)

-- a thread at rest that goes on has its request out
pub rests_at_ask : (thread : Thread) (a : Now) → thread.due ≡ due.Going a → IsAtRest thread → IsAsk a
rests_at_ask thread a going rests = by_way (subst (λ d. (asked_at d ≢ None) ⊎ is_over d) going rests)
  where
    by_way : (asked_by a ≢ None) ⊎ ⊥ → IsAsk a
    by_way (inl out) = ask_at a out
    by_way (inr over) = absurd over
