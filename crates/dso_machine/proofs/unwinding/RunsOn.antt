-- A thread's run after events that follow.
use Rattle.std.proofs.Common.{◌≡◌, refl, List, [], ◌∷◌, ◌++◌, Option, Some, ap, ◌∙◌, ◌⊎◌, inl, inr}
use Rattle.dso_base.specs.declared.lock.Grade.{Grade}
use Rattle.dso_base.specs.declared.lock.ThreadId.{ThreadId}
use Rattle.dso_base.specs.declared.request.Event.{Event}
use Rattle.dso_base.specs.declared.request.Event.TheVariants.{Act, Lost}
use Rattle.dso_base.specs.declared.request.Reply.{Reply}
use Rattle.dso_base.specs.declared.request.Reply.TheVariants.{Done}
use Rattle.dso_base.specs.declared.request.Request.{Request}
use Rattle.dso_base.specs.declared.request.Request.TheVariants.{Enter, Exit}
use Rattle.dso_base.specs.Following.{IsListed}
use Rattle.dso_machine.specs.Next.{replies_in, request_of}
use Rattle.dso_machine.specs.Outcome.{Outcome}
use Rattle.dso_machine.specs.Unwinding.{locks_after_reply, locks_after, Hold, locks_of, holds_after_reply, HoldsAfter, AreBehindExit}
use Rattle.dso_machine.specs.WaitingThreads.{waiting_after}
use Rattle.dso_machine.proofs.unwinding.Tidy.{Phase, Settles}
use Rattle.dso_machine.proofs.unwinding.Runs.{Run, waiting_in, IsLeft, Stepped, facts}

-- ---- events

-- each event is an act with what is wanted after the replies before it, and a reply that is listed for it
abbrev pub Follow : (List Reply → Outcome) → List Event → Type 0
Follow w [] = Unit {0}
Follow w (Act t q r woken ∷ events) = (request_of (w []) ≡ Some q) × IsListed q r × Follow (λ rs. w (r ∷ rs)) events
Follow w (Lost client ∷ events) = ⊥

-- what of a list follows, its front follows,
pub front_follows : (w : List Reply → Outcome) (events more : List Event) → Follow w (events ++ more) → Follow w events
front_follows w [] more follows = tt
front_follows w (Act t q r woken ∷ events) more follows = (follows.0, follows.1, front_follows (λ rs. w (r ∷ rs)) events more follows.2)
front_follows w (Lost client ∷ events) more follows = absurd follows

-- and what is behind it follows then
pub rest_follows : (w : List Reply → Outcome) (events more : List Event) → Follow w (events ++ more) → Follow (λ rs. w (replies_in events ++ rs)) more
rest_follows w [] more follows = follows
rest_follows w (Act t q r woken ∷ events) more follows = rest_follows (λ rs. w (r ∷ rs)) events more follows.2
rest_follows w (Lost client ∷ events) more follows = absurd follows

-- what is so of the run after events that follow
pub record RunsOn (p : Phase) (hs : List Hold) (w : List Reply → Outcome) (events : List Event) : Type 0 where
  pub phase : Phase
  pub holds : List Hold
  pub run : Run phase holds (λ rs. w (replies_in events ++ rs))
  pub after : HoldsAfter w hs events holds
  pub locks : locks_of holds ≡ locks_after (locks_of hs) events
  pub waits : waiting_in phase ≡ waiting_after (waiting_in p) events
  pub behind : phase ≡ Settles → ((events ≡ []) × (p ≡ Settles)) ⊎ AreBehindExit events

-- with one more event in front, the last one is still an exit, or this one is
pub behind_more : (p : Phase) (t : ThreadId) (q : Request) (r : Reply) (woken : Option ThreadId) (events : List Event) → (p ≡ Settles → IsLeft q r)
    → ((events ≡ []) × (p ≡ Settles)) ⊎ AreBehindExit events → AreBehindExit (Act t q r woken ∷ events)
behind_more p t q r woken events left (inl here) =
    let exit : IsLeft q r = left here.1 in
    record {
      before = [];
      thread = t;
      lock = exit.lock;
      woken = woken;
      is = ap (λ x. Act t x r woken ∷ events) exit.asked ∙ ap (λ x. Act t (Exit exit.lock) x woken ∷ events) exit.answered ∙ ap (λ x. Act t (Exit exit.lock) Done woken ∷ x) here.0;
    }
behind_more p t q r woken events left (inr there) =
    record { before = Act t q r woken ∷ there.before; thread = there.thread; lock = there.lock; woken = there.woken; is = ap (λ x. Act t q r woken ∷ x) there.is }

-- the locks of the holds after a reply
pub locks_stack : (g : Grade) (q : Request) (r : Reply) (hs : List Hold) → locks_of (holds_after_reply g q r hs) ≡ locks_after_reply q r (locks_of hs)
locks_stack g (Enter l level) Done hs = refl
locks_stack g (Enter l level) r hs = refl
locks_stack g (Exit l) r [] = refl
locks_stack g (Exit l) r (h ∷ hs) = refl
locks_stack g q r hs = refl

-- the run after events that follow
pub run_on : (events : List Event) (p : Phase) (hs : List Hold) (w : List Reply → Outcome) → Run p hs w → Follow w events → RunsOn p hs w events
run_on [] p hs w run follows = record { phase = p; holds = hs; run = run; after = refl; locks = refl; waits = refl; behind = λ same. inl (refl, same) }
run_on (Act t q r woken ∷ events) p hs w run follows =
    let step : Stepped p hs w q r = (facts p hs w run q follows.0).steps r follows.1 in
    let on : RunsOn step.phase (holds_after_reply step.grade q r hs) (λ rs. w (r ∷ rs)) events =
    run_on events step.phase (holds_after_reply step.grade q r hs) (λ rs. w (r ∷ rs)) step.run follows.2 in
    record {
      phase = on.phase;
      holds = on.holds;
      run = on.run;
      after = (step.grade, step.entry, on.after);
      locks = on.locks ∙ ap (λ ls. locks_after ls events) (locks_stack step.grade q r hs);
      waits = on.waits ∙ ap (λ x. waiting_after x events) step.waits;
      behind = λ same. inr (behind_more step.phase t q r woken events step.left (on.behind same));
    }
run_on (Lost client ∷ events) p hs w run follows = absurd follows
