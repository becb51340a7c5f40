-- The client rule looks at the next requests of the client's own threads alone.
use Rattle.std.specs.List.{list_any}
use Rattle.std.proofs.Common.{ℕ, ◌≡◌, refl, ◌∙◌, ap, subst, Bool, true, false, cond, not, eqb, ◌&&◌, ◌||◌, is_some, Option, Some, None, List, [], ◌∷◌, ◌++◌, map, filter}
use Rattle.std.specs.Prelude.{is_none}
use Rattle.dso_base.specs.declared.journal.Entry.{Entry}
use Rattle.dso_base.specs.declared.journal.Input.{Input}
use Rattle.dso_base.specs.declared.journal.Input.TheVariants as input
use Rattle.dso_base.specs.declared.journal.Sent.TheVariants.{ToServer}
use Rattle.dso_base.specs.declared.lock.Level.{Level}
use Rattle.dso_base.specs.declared.lock.Level.TheVariants.{Write}
use Rattle.dso_base.specs.declared.lock.LockName.{LockName}
use Rattle.dso_base.specs.declared.lock.ThreadId.{ThreadId}
use Rattle.dso_base.specs.declared.message.Up.{Up}
use Rattle.dso_base.specs.declared.message.Up.TheVariants as up
use Rattle.dso_base.specs.declared.request.Event.TheVariants.{Act}
use Rattle.dso_base.specs.declared.request.Request.{Request}
use Rattle.dso_base.specs.declared.request.Request.TheVariants.{Enter, Resume}
use Rattle.dso_plain.specs.KeyTests.{is_lock}
use Rattle.dso_plain.proofs.keys.SameKeys.{number_self}
use Rattle.dso_law.specs.Settings.{Settings, threads_of}
use Rattle.dso_law.specs.Entries.{unsent}
use Rattle.dso_law.specs.Threads.{hold_of, is_local}
use Rattle.dso_law.specs.Leases.{leased, is_entered, is_recalled, leased_locks}
use Rattle.dso_law.specs.ClientWaiters.{client_list, is_marked}
use Rattle.dso_law.specs.Closing.{wants_write, is_read, awaits_write, is_closing, is_free, due}
use Rattle.dso_law.specs.RequestNeeds.{Need, NeedsMark, NeedsLease, NeedsOthersOut, is_enough, is_in_conflict, unless, first_unmet, entry_need, unmet}
use Rattle.dso_law.specs.Replies.{woken_by}
use Rattle.dso_law.specs.ClientStep.{commits, returns, asks_again, Does, Asks, DoesOrAsks, ActsOn, ClientStepOn}
use Rattle.dso_law.specs.ClientRun.{AreSameFor}
use Rattle.dso_law.specs.RunLaws.{OwnRequestsCount}

-- tests that are the same for the client's threads are passed by the same of them
pub same_any : (c : ℕ) (test other : ThreadId → Bool) → ((t : ThreadId) → eqb t.client c ≡ true → test t ≡ other t) → (threads : List ThreadId)
    → list_any test (filter (λ t. eqb t.client c) threads) ≡ list_any other (filter (λ t. eqb t.client c) threads)
same_any c test other same [] = refl
same_any c test other same (t ∷ threads) = by (eqb t.client c) (same t) (same_any c test other same threads)
  where
    by : (own : Bool) → (own ≡ true → test t ≡ other t) → list_any test (filter (λ t. eqb t.client c) threads) ≡ list_any other (filter (λ t. eqb t.client c) threads)
        → list_any test (cond own (t ∷ filter (λ t. eqb t.client c) threads) (filter (λ t. eqb t.client c) threads)) ≡ list_any other (cond own (t ∷ filter (λ t. eqb t.client c) threads) (filter (λ t. eqb t.client c) threads))
    by true first rest = λ i. first refl i || rest i
    by false first rest = rest

module _ (p : Settings) (c : ℕ) (next other : ThreadId → Option Request) (same : AreSameFor c next other) where
  same_closing : (l : LockName) (es : List Entry) → is_closing p c next l es ≡ is_closing p c other l es
  same_closing l es = ap (λ wanted. is_recalled l es || (is_read (leased l es) && wanted))
      (same_any c (awaits_write p c next l es) (awaits_write p c other l es) (λ t own. ap (λ request. is_none (hold_of t l es) && wants_write l (is_marked t es) request) (same t own)) p.threads)

  pub same_due : (es : List Entry) → due p c next es ≡ due p c other es
  same_due es = λ i. filter (λ l. same_closing l es i && (is_entered l es && is_free p c next l es)) (leased_locks es)

  same_returns : (es : List Entry) → returns p c next es ≡ returns p c other es
  same_returns es = ap (map (λ l. up.Return l (client_list l es))) (same_due es)

  same_entry : (t : ThreadId) (l : LockName) (level : Level) (es : List Entry) → entry_need p c next t l level es ≡ entry_need p c other t l level es
  same_entry t l level es = ap (λ closing. first_unmet (unless (is_enough level (leased l es) && (not closing || not (is_entered l es))) (NeedsLease l level))
      (unless (not (list_any (is_in_conflict p c next t l level es) (threads_of p c))) (NeedsOthersOut l))) (same_closing l es)

  same_unmet : (t : ThreadId) (request : Request) (es : List Entry) → unmet p c next t request es ≡ unmet p c other t request es
  same_unmet t (Enter l level) es = ap (cond (is_local p.shape t l es || is_some (hold_of t l es)) None) (same_entry t l level es)
  same_unmet t (Resume l) es = ap (first_unmet (unless (is_marked t es) (NeedsMark l))) (same_entry t l Write es)
  same_unmet t request es = refl

module _ (p : Settings) (c : ℕ) (before other_before later other_later : ThreadId → Option Request) (same_before : AreSameFor c before other_before)
    (same_later : AreSameFor c later other_later) (e : Entry) (es : List Entry) where
  same_again : (request : Option Request) → asks_again p c before later request (unsent e ∷ es) es ≡ asks_again p c other_before other_later request (unsent e ∷ es) es
  same_again (Some (Enter l Write)) = λ i. cond (not (same_closing p c before other_before same_before l es i) && list_any (is_lock l) (same_due p c later other_later same_later (unsent e ∷ es) i)) (up.Request l Write ∷ []) []
  same_again request = refl

  same_does : (t : ThreadId) (request : Request) → eqb t.client c ≡ true → Does p c t request before later e es → Does p c t request other_before other_later e es
  same_does t request own does =
      let commit : List Up = commits p t (Act t request does.reply (woken_by request does.reply es)) es in
      record {
        reply = does.reply;
        answered = does.answered;
        event = does.event;
        sends = does.sends ∙ ap (λ ms. map ToServer (commit ++ ms ++ asks_again p c before later (later t) (unsent e ∷ es) es)) (same_returns p c later other_later same_later (unsent e ∷ es))
            ∙ ap (λ ms. map ToServer (commit ++ returns p c other_later (unsent e ∷ es) ++ ms))
            (same_again (later t) ∙ ap (λ request. asks_again p c other_before other_later request (unsent e ∷ es) es) (same_later t own));
      }

  same_asks : (need : Need) → Asks p c need later e es → Asks p c need other_later e es
  same_asks need asks = record {
    message = asks.message;
    asked = asks.asked;
    event = asks.event;
    sends = asks.sends ∙ ap (λ ms. map ToServer (ms ++ asks.message ∷ [])) (same_returns p c later other_later same_later (unsent e ∷ es));
  }

  same_by_need : (t : ThreadId) (request : Request) (need : Option Need) → eqb t.client c ≡ true → DoesOrAsks p c t request need before later e es → DoesOrAsks p c t request need other_before other_later e es
  same_by_need t request None own h = same_does t request own h
  same_by_need t request (Some need) own h = same_asks need h

  same_acts : (t : ThreadId) (request : Option Request) → eqb t.client c ≡ true → ActsOn p c t request before later e es → ActsOn p c t request other_before other_later e es
  same_acts t None own h = h
  same_acts t (Some request) own h = same_by_need t request (unmet p c other_before t request es) own
      (subst (λ need. DoesOrAsks p c t request need before later e es) (same_unmet p c before other_before same_before t request es) h)

  same_step : (i : Input) → ClientStepOn p c i before later e es → ClientStepOn p c i other_before other_later e es
  same_step (input.Act index) h =
      let t : ThreadId = record { client = c; index = index } in
      record { its = h.its; acts = subst (λ request. ActsOn p c t request other_before other_later e es) (same_before t (number_self c)) (same_acts t (before t) (number_self c) h.acts) }
  same_step (input.TookDown m) h = record { fits = h.fits; event = h.event; sends = h.sends ∙ ap (map ToServer) (same_returns p c later other_later same_later (unsent e ∷ es)) }
  same_step (input.Flush o) h = h
  same_step (input.Rejoin d) h = h
  same_step i h = absurd h

-- The client rule looks at no other thread's next request.
pub own_requests : OwnRequestsCount
own_requests p c before other_before later other_later e es same_before same_later step = same_step p c before other_before later other_later same_before same_later e es e.input step
