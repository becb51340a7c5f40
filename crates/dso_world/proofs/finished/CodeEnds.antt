-- A thread's code asks nothing more only once the thread's end was answered.
use Rattle.std.specs.List.{list_any}
use Rattle.std.proofs.Common.{ℕ, suc, ◌+◌, ◌≤◌, ◌≡◌, ◌⊎◌, inl, inr, refl, sym, ◌∙◌, ap, subst, Bool, true, false, List, [], ◌∷◌, ◌++◌, length, Option, Some, None, arith}
use Rattle.std.proofs.lemmas.List.{append-nil, length-append}
use Rattle.dso_base.specs.declared.lock.LockName.{LockName}
use Rattle.dso_base.specs.declared.lock.ThreadId.{ThreadId}
use Rattle.dso_base.specs.declared.request.Event.{Event}
use Rattle.dso_base.specs.declared.request.Event.TheVariants.{Act, Lost}
use Rattle.dso_base.specs.declared.request.Reply.{Reply}
use Rattle.dso_base.specs.declared.request.Reply.TheVariants.{Done, Val}
use Rattle.dso_base.specs.declared.request.Request.{Request}
use Rattle.dso_base.specs.declared.request.Request.TheVariants.{Exit, Wait, Tick, Timeout, Resume, End, Settle}
use Rattle.dso_base.specs.declared.value.Value.TheVariants as value
use Rattle.dso_base.specs.Following.{IsListed, IsListedFor, Listed, FollowsFrom}
use Rattle.dso_lookup.proofs.Tests.{left_holds, right_holds}
use Rattle.dso_machine.specs.declared.code.Code.{Code}
use Rattle.dso_machine.specs.declared.code.ThreadBody.{ThreadBody}
use Rattle.dso_machine.specs.Next.{body_of, enough_for, finish, next_of, next_request, opening, replies_in, request_of, whole}
use Rattle.dso_machine.specs.Outcome.{Environment, Outcome, Wants, Gives, Leaves, Fails, Hears, Over, Stopped}
use Rattle.dso_machine.specs.Statements.{block, methods}
use Rattle.dso_machine.specs.Unwinding.{FollowsCode, Hold}
use Rattle.dso_machine.proofs.moves.Enough.{never_stopped}
use Rattle.dso_machine.proofs.moves.MoreRepliesInTrees.{moves_enough}
use Rattle.dso_machine.proofs.protocol.Parts.{one_function, refilled}
use Rattle.dso_machine.proofs.unwinding.Runs.{the_request, wants_none}
use Rattle.dso_machine.proofs.unwinding.Tidy.{IsEnd, Phase, Goes, Waits, Tidy, left_at, ticked}
use Rattle.dso_machine.proofs.unwinding.Trees.{tidy_block, tidy_methods}
use Rattle.dso_legal.specs.Slots.{ends, is_end}

-- ---- while the body goes on

-- the thread is within its body, or at its end
record Within (w : List Reply → Outcome) : Type 0 where
  phase : Phase
  holds : List Hold
  part : List Reply → Outcome
  tidy : Tidy phase holds part
  is : (rs : List Reply) → w rs ≡ finish (part rs)

-- the request was the thread's end, or it is still within its body after the reply
abbrev EndsOrStays : (List Reply → Outcome) → Request → Reply → Type 0
EndsOrStays w q r = (is_end q ≡ true) ⊎ Within (λ rs. w (r ∷ rs))

module _ (w o : List Reply → Outcome) (is : (rs : List Reply) → w rs ≡ finish (o rs)) where
  stays : (phase : Phase) (holds : List Hold) (q : Request) (r : Reply) → Tidy phase holds (λ rs. o (r ∷ rs)) → EndsOrStays w q r
  stays phase holds q r tidy = inr (record { phase = phase; holds = holds; part = λ rs. o (r ∷ rs); tidy = tidy; is = λ rs. is (r ∷ rs) })

  -- after an entry or a wait, by the reply
  by_done : (done phase : Phase) (inside holds : List Hold) (q : Request) → Tidy done inside (λ rs. o (Done ∷ rs)) → ((r : Reply) → (r ≡ Done → ⊥) → Tidy phase holds (λ rs. o (r ∷ rs))) → (r : Reply) → EndsOrStays w q r
  by_done done phase inside holds q go other Done = stays done inside q Done go
  by_done done phase inside holds q go other r = stays phase holds q r (other r (λ same. cc same))

  after_exit : (l : LockName) (phase : Phase) (holds : List Hold) → Tidy phase holds (λ rs. o (Done ∷ rs)) → (r : Reply) → IsListed (Exit l) r → EndsOrStays w (Exit l) r
  after_exit l phase holds go Done listed = stays phase holds (Exit l) Done go
  after_exit l phase holds go r listed = absurd listed

  after_settling : (phase : Phase) (holds : List Hold) → Tidy phase holds (λ rs. o (Done ∷ rs)) → (r : Reply) → IsListed Settle r → EndsOrStays w Settle r
  after_settling phase holds go Done listed = stays phase holds Settle Done go
  after_settling phase holds go r listed = absurd listed

  after_tick : (l : LockName) (holds : List Hold) → ((woken : Bool) → Tidy (ticked l woken) holds (λ rs. o (Val (value.Bool woken) ∷ rs))) → (r : Reply) → IsListed (Tick l) r → EndsOrStays w (Tick l) r
  after_tick l holds go (Val (value.Bool woken)) listed = stays (ticked l woken) holds (Tick l) (Val (value.Bool woken)) (go woken)
  after_tick l holds go r listed = absurd listed

  after_timeout : (l : LockName) (holds : List Hold) → Tidy (Waits l false) holds (λ rs. o (Done ∷ rs)) → Tidy (Waits l false) holds (λ rs. o (Val (value.Bool true) ∷ rs)) → (r : Reply) → IsListed (Timeout l) r
      → EndsOrStays w (Timeout l) r
  after_timeout l holds out woken Done listed = stays (Waits l false) holds (Timeout l) Done out
  after_timeout l holds out woken (Val (value.Bool true)) listed = stays (Waits l false) holds (Timeout l) (Val (value.Bool true)) woken
  after_timeout l holds out woken r listed = absurd listed

  after_resuming : (l : LockName) (holds : List Hold) → Tidy Goes holds (λ rs. o (Done ∷ rs)) → (r : Reply) → IsListed (Resume l) r → EndsOrStays w (Resume l) r
  after_resuming l holds go Done listed = stays Goes holds (Resume l) Done go
  after_resuming l holds go r listed = absurd listed

-- where a body has come to an end, the thread asks for its own
at_body_end : (w : List Reply → Outcome) (e : Outcome) → w [] ≡ finish (refilled [] e) → IsEnd e → (q : Request) → request_of (w []) ≡ Some q → is_end q ≡ true
at_body_end w (Gives v u) is end q wanted = ap is_end (sym (the_request (w []) (End None) q is wanted))
at_body_end w (Leaves v u) is end q wanted = ap is_end (sym (the_request (w []) (End None) q is wanted))
at_body_end w (Fails fault u) is end q wanted = ap is_end (sym (the_request (w []) (End (Some fault)) q is wanted))
at_body_end w (Wants p env) is end q wanted = absurd end
at_body_end w (Hears r u) is end q wanted = absurd end
at_body_end w Over is end q wanted = absurd end
at_body_end w Stopped is end q wanted = absurd end

-- a request and its reply
reply_comes : {p : Phase} {hs : List Hold} (w o : List Reply → Outcome) → Tidy p hs o → ((rs : List Reply) → w rs ≡ finish (o rs)) → (q : Request) (r : Reply) → request_of (w []) ≡ Some q → IsListed q r → EndsOrStays w q r
reply_comes {p} {hs} w o (Tidy.asks x wants simple fails go) is q r wanted listed = stays w o is Goes hs q r (go r)
reply_comes {p} {hs} w o (Tidy.enters l g wants entry fails inside other) is q r wanted listed = by_done w o is Goes Goes _ hs q inside other r
reply_comes w o (Tidy.exits h wants go) is q r wanted listed =
    let same = the_request (w []) (Exit h.lock) q (is [] ∙ ap finish wants) wanted in
    subst (λ x. EndsOrStays w x r) same (after_exit w o is h.lock (left_at h.synchronous) _ go r (subst (λ x. IsListed x r) (sym same) listed))
reply_comes {p} {hs} w o (Tidy.settles wants go) is q r wanted listed =
    let same = the_request (w []) Settle q (is [] ∙ ap finish wants) wanted in
    subst (λ x. EndsOrStays w x r) same (after_settling w o is Goes hs go r (subst (λ x. IsListed x r) (sym same) listed))
reply_comes {p} {hs} w o (Tidy.waits l wants fails asleep other) is q r wanted listed = by_done w o is (Waits l true) Goes hs hs q asleep other r
reply_comes {p} {hs} w o (Tidy.ticks l wants go) is q r wanted listed =
    let same = the_request (w []) (Tick l) q (is [] ∙ ap finish wants) wanted in
    subst (λ x. EndsOrStays w x r) same (after_tick w o is l hs go r (subst (λ x. IsListed x r) (sym same) listed))
reply_comes {p} {hs} w o (Tidy.times_out l wants out woken) is q r wanted listed =
    let same = the_request (w []) (Timeout l) q (is [] ∙ ap finish wants) wanted in
    subst (λ x. EndsOrStays w x r) same (after_timeout w o is l hs out woken r (subst (λ x. IsListed x r) (sym same) listed))
reply_comes {p} {hs} w o (Tidy.resumes l more wants go) is q r wanted listed =
    let same = the_request (w []) (Resume l) q (is [] ∙ ap finish wants) wanted in
    subst (λ x. EndsOrStays w x r) same (after_resuming w o is l hs go r (subst (λ x. IsListed x r) (sym same) listed))
reply_comes w o (Tidy.ends e comes end) is q r wanted listed = inl (at_body_end w e (is [] ∙ ap finish (comes [])) end q wanted)
reply_comes w o (Tidy.stops comes) is q r wanted listed = absurd (wants_none (w []) q (ap request_of (is [] ∙ ap finish (comes []))) wanted)

-- an end of the body wants the thread's
end_wants : (e : Outcome) → IsEnd e → request_of (finish (refilled [] e)) ≡ None → ⊥
end_wants (Gives v u) end none = cc none
end_wants (Leaves v u) end none = cc none
end_wants (Fails fault u) end none = cc none
end_wants (Wants p env) end none = end
end_wants (Hears r u) end none = end
end_wants Over end none = end
end_wants Stopped end none = end

-- what wants a request asks something
asks_one : (w o : List Reply → Outcome) (q : Request) {env : Environment} → w [] ≡ finish (o []) → o [] ≡ Wants q env → request_of (w []) ≡ None → ⊥
asks_one w o q is wants none = wants_none (w []) q none (ap request_of (is ∙ ap finish wants))

-- a thread within its body asks something, where it isn't stopped
asks_on : {p : Phase} {hs : List Hold} (w o : List Reply → Outcome) → Tidy p hs o → ((rs : List Reply) → w rs ≡ finish (o rs)) → (w [] ≡ Stopped → ⊥) → request_of (w []) ≡ None → ⊥
asks_on w o (Tidy.asks x wants simple fails go) is going none = asks_one w o x (is []) wants none
asks_on w o (Tidy.enters l g wants entry fails inside other) is going none = asks_one w o _ (is []) wants none
asks_on w o (Tidy.exits h wants go) is going none = asks_one w o (Exit h.lock) (is []) wants none
asks_on w o (Tidy.settles wants go) is going none = asks_one w o Settle (is []) wants none
asks_on w o (Tidy.waits l wants fails asleep other) is going none = asks_one w o (Wait l) (is []) wants none
asks_on w o (Tidy.ticks l wants go) is going none = asks_one w o (Tick l) (is []) wants none
asks_on w o (Tidy.times_out l wants out woken) is going none = asks_one w o (Timeout l) (is []) wants none
asks_on w o (Tidy.resumes l more wants go) is going none = asks_one w o (Resume l) (is []) wants none
asks_on w o (Tidy.ends e comes end) is going none = end_wants e end (ap request_of (sym (is [] ∙ ap finish (comes []))) ∙ none)
asks_on w o (Tidy.stops comes) is going none = going (is [] ∙ ap finish (comes []))

-- ---- by the events of a thread

-- one more event behind others, and what follows its reply
replies_behind : (before : List Event) (t : ThreadId) (q : Request) (r : Reply) (woken : Option ThreadId) (rs : List Reply) → replies_in (before ++ Act t q r woken ∷ []) ++ rs ≡ replies_in before ++ r ∷ rs
replies_behind [] t q r woken rs = refl
replies_behind (Act u p s by ∷ before) t q r woken rs = ap (λ all. s ∷ all) (replies_behind before t q r woken rs)
replies_behind (Lost client ∷ before) t q r woken rs = replies_behind before t q r woken rs

module _ (c : Code) (t : ThreadId) (body : ThreadBody) (found : body_of t c.bodies ≡ Some body) (n : ℕ) where
  -- what comes of the thread's code behind these events
  abbrev comes_after : List Event → List Reply → Outcome
  comes_after before = λ rs. whole c body n (replies_in before ++ rs)

  ends_from : (events before : List Event) → enough_for (replies_in before ++ replies_in events) ≤ n → FollowsFrom (next_request c) (Listed (next_request c)) t before events → Within (comes_after before)
      → (comes_after before (replies_in events) ≡ Stopped → ⊥) → request_of (comes_after before (replies_in events)) ≡ None → list_any ends events ≡ true
  ends_from [] before le follows within going none = absurd (asks_on (comes_after before) within.part within.tidy within.is going none)
  ends_from (Act u q r woken ∷ events) before le follows within going none =
      let further : List Event = before ++ Act u q r woken ∷ [] in
      let longer : length (replies_in before ++ r ∷ replies_in events) ≡ length (replies_in before) + suc (length (replies_in events)) = length-append (replies_in before) (r ∷ replies_in events) in
      let next_is : next_request c t before ≡ request_of (whole c body n (replies_in before)) = ap (next_of c (replies_in before)) found ∙ sym (moves_enough c body n (replies_in before) (omega arith)) in
      let wanted : request_of (comes_after before []) ≡ Some q = subst (λ rs. request_of (whole c body n rs) ≡ Some q) (sym (append-nil (replies_in before))) (sym next_is ∙ follows.0.0) in
      let listed : IsListed q r = subst (λ next. IsListedFor next r) follows.0.0 follows.0.1 in
      let same = replies_behind before u q r woken in
      elim (reply_comes (comes_after before) within.part within.tidy within.is q r wanted listed) [
        | inl end ↦ left_holds (is_end q) (list_any ends events) end
        | inr later ↦ right_holds (is_end q) (list_any ends events)
            (ends_from events further (subst (λ rs. enough_for rs ≤ n) (sym (same (replies_in events))) le) follows.1
            (subst Within (one_function (λ rs. comes_after before (r ∷ rs)) (comes_after further) (λ rs. ap (whole c body n) (sym (same rs)))) later)
            (λ stopped. going (ap (whole c body n) (sym (same (replies_in events))) ∙ stopped)) (ap (λ rs. request_of (whole c body n rs)) (same (replies_in events)) ∙ none))
      ]
  ends_from (Lost client ∷ events) before le follows within going none = absurd follows.0

-- A thread whose events follow its code, and that has no next request, has its end among them.
pub code_ends : (c : Code) (t : ThreadId) (body : ThreadBody) (events : List Event) → body_of t c.bodies ≡ Some body → FollowsCode c t events → next_request c t events ≡ None → list_any ends events ≡ true
code_ends c t body events found follows none =
    let n : ℕ = enough_for (replies_in events) in
    ends_from c t body found n events [] (omega arith) follows
    (record { phase = Goes; holds = []; part = λ rs. block c (methods c n) n body.body (opening body.vars rs); tidy = (tidy_block c (methods c n) (tidy_methods c n) n body.body).from (opening body.vars []); is = λ rs. refl })
    (never_stopped c body (replies_in events)) (sym (ap (next_of c (replies_in events)) found) ∙ none)
