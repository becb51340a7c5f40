-- What a client answers, the one heap allows.
use Rattle.std.proofs.Common.{◌≡◌, ◌⊎◌, inl, inr, refl, sym, ◌∙◌, ap, subst, Option, Some, None, List}
use Rattle.dso_base.specs.declared.journal.Entry.{Entry}
use Rattle.dso_base.specs.declared.lock.ThreadId.{ThreadId}
use Rattle.dso_base.specs.declared.request.Reply.{Reply}
use Rattle.dso_base.specs.declared.request.Reply.TheVariants.{Done}
use Rattle.dso_base.specs.declared.request.Request.{Request}
use Rattle.dso_base.specs.declared.request.Request.TheVariants.{New, Look, Get, Put, Enter, Exit, Wait, Tick, Timeout, Resume, Notify, NotifyAll, Print, End, Pause, Settle}
use Rattle.dso_plain.specs.State.{PlainState}
use Rattle.dso_plain.specs.Possible.{AnswersRequest, AnswersExit, AnswersResume, AnswersEnd, AnswersDone, IsAwake, IsAwakeFor, IsPossibleButMarks}
use Rattle.dso_law.specs.Settings.{Settings}
use Rattle.dso_law.specs.Entries.{events_in}
use Rattle.dso_law.specs.RequestNeeds.{unmet}
use Rattle.dso_law.specs.Replies.{reply_of}
use Rattle.dso_law.specs.Threads.{Locks, Waiting, locks_of}
use Rattle.dso_legal.specs.SoundProgram.{IsOfWaiter, KeepsTo}
use Rattle.dso_legal.specs.Views.{IsOrderly, ActsArePossible, Sees}
use Rattle.dso_legal.specs.Works.{wait_count}
use Rattle.dso_legal.proofs.blocks.SameLocks.{same_locks}
use Rattle.dso_legal.proofs.acts.ActsOnObjects.{may_make, may_look, may_read, may_put}
use Rattle.dso_legal.proofs.acts.ActsOnLocks.{may_enter, may_exit, may_end, may_tick, may_time_out, may_resume, may_monitor}

module _ (p : Settings) (next : ThreadId → Option Request) (t : ThreadId) (client : List Entry) (start_state s : PlainState) (sees : Sees p t client start_state s) (orderly : IsOrderly p t client) where
  -- the reply is possible
  may_answer : (request : Request) (reply : Reply) → KeepsTo p.shape t (events_in t client) request
      → unmet p t.client next t request client ≡ None → reply_of p t request client ≡ Some reply → AnswersRequest p.shape t request reply s
  may_answer (New class n) reply keeps need e = may_make p t client start_state s sees class n reply keeps.makes e
  may_answer (Look o) reply keeps need e = may_look p t client start_state s sees next o reply need e
  may_answer (Get o f) reply keeps need e = may_read p t client start_state s sees next o f reply need e
  may_answer (Put o f v) reply keeps need e = may_put p t client start_state s sees next o f reply need e
  may_answer (Enter l level) reply keeps need e = may_enter p t client start_state s sees next l level reply orderly.listed keeps.names need e
  may_answer (Exit l) reply keeps need e = subst (λ r. AnswersExit t l r s) {x = Done} (cc e) (may_exit p t client start_state s sees (same_locks t client) l keeps.locks)
  may_answer (Wait l) reply keeps need e = may_monitor p t client start_state s sees l reply e
  may_answer (Tick l) reply keeps need e = may_tick p t client start_state s sees (same_locks t client) l reply keeps.locks e
  may_answer (Timeout l) reply keeps need e = may_time_out p t client start_state s sees (same_locks t client) l reply keeps.locks e
  may_answer (Resume l) reply keeps need e = subst (λ r. AnswersResume t l r s) {x = Done} (cc e) (may_resume p t client start_state s sees (same_locks t client) next l orderly.listed orderly.apart keeps.locks need)
  may_answer (Notify l) reply keeps need e = may_monitor p t client start_state s sees l reply e
  may_answer (NotifyAll l) reply keeps need e = may_monitor p t client start_state s sees l reply e
  may_answer (Print v) reply keeps need e = subst (λ r. AnswersDone r) {x = Done} (cc e) tt
  may_answer (End fault) reply keeps need e = subst (λ r. AnswersEnd t r s) {x = Done} (cc e) (may_end p t client start_state s sees (same_locks t client) fault keeps.locks)
  may_answer Pause reply keeps need e = subst (λ r. AnswersDone r) {x = Done} (cc e) tt
  may_answer Settle reply keeps need e = subst (λ r. AnswersDone r) {x = Done} (cc e) tt

  -- a thread that doesn't wait is awake,
  asleep_nowhere : (locks_of t client).waiting ≡ None → IsAwake t s
  asleep_nowhere none l = sees.holds.own.waits l ∙ ap (λ waiting. wait_count l waiting) none

  -- and one that waits does what waiters do
  awake_for : (request : Request) → IsAwake t s ⊎ IsOfWaiter request → IsAwakeFor request t s
  awake_for (Tick l) either = tt
  awake_for (Timeout l) either = tt
  awake_for (Resume l) either = tt
  awake_for request (inl awake) = awake
  awake_for request (inr waiter) = absurd waiter

  is_awake : (request : Request) → KeepsTo p.shape t (events_in t client) request → IsAwakeFor request t s
  is_awake request keeps = awake_for request (by (locks_of t client).waiting refl)
    where
      by : (waiting : Option Waiting) → (locks_of t client).waiting ≡ waiting → IsAwake t s ⊎ IsOfWaiter request
      by None is = inl (asleep_nowhere is)
      by (Some waiting) is = inr (keeps.waits (λ none. cc (sym is ∙ ap (λ (locks : Locks). locks.waiting) (same_locks t client) ∙ none)))

  -- so the act is possible
  pub may_act : (request : Request) (reply : Reply) → KeepsTo p.shape t (events_in t client) request
      → unmet p t.client next t request client ≡ None → reply_of p t request client ≡ Some reply → IsPossibleButMarks p.shape t request reply s
  may_act request reply keeps need e = record {
    connected = sees.connected;
    going = sees.going;
    awake = is_awake request keeps;
    answers = may_answer request reply keeps need e;
  }

pub acts_are_possible : ActsArePossible
acts_are_possible p next t request reply client start_state s sees orderly keeps need e = may_act p next t client start_state s sees orderly request reply keeps need e
