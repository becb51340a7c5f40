-- That each of the wrong entries is refused: the clause that it breaks would make two different numbers equal.
use Rattle.std.specs.Prelude.{ℕ, suc, ◌≡◌, ◌≢◌, ◌≤◌, eqb, Bool, false, cond, Option, Some, None, List, [], ◌∷◌, ◌++◌, map, length, sum_by}
use Rattle.std.proofs.Common.{refl, sym, ◌∙◌, ap, subst, arith}
use Rattle.dso_base.specs.declared.journal.Sent.{Sent}
use Rattle.dso_base.specs.declared.journal.Sent.TheVariants.{ToServer, ToClient}
use Rattle.dso_base.specs.declared.message.Down.TheVariants as down
use Rattle.dso_base.specs.declared.message.Up.TheVariants as up
use Rattle.dso_base.specs.declared.request.Event.{Event}
use Rattle.dso_base.specs.declared.request.Event.TheVariants.{Act}
use Rattle.dso_base.specs.declared.request.Reply.{Reply}
use Rattle.dso_base.specs.declared.request.Reply.TheVariants as reply
use Rattle.dso_base.specs.Weight.{sent_values_of}
use Rattle.dso_base.specs.declared.journal.Entry.{Entry}
use Rattle.dso_base.specs.declared.lock.ThreadId.{ThreadId}
use Rattle.dso_base.specs.declared.request.Request.{Request}
use Rattle.dso_law.specs.Settings.{Settings}
use Rattle.dso_law.specs.Entries.{unsent}
use Rattle.dso_law.specs.ClientStep.{Does, commits, returns, asks_again}
use Rattle.dso_law.specs.Replies.{reply_of, woken_by}
use Rattle.dso_legal.specs.examples.Refusals.{Refusals, WrongSendings}

-- two numbers that are told apart aren't equal
pub differ : {a b : ℕ} → eqb a b ≡ false → a ≡ b → ⊥
differ {a} {b} apart e = grind arith

-- a test as a number
abbrev pub number : Bool → ℕ
number b = cond b 1 0

-- whether there is something, as a number
abbrev pub there : {X : Type 0} → Option X → ℕ
there None = 0
there (Some x) = 1

-- whether a reply is Done, as a number
abbrev done : Reply → ℕ
done reply.Done = 1
done other = 0

-- whether there is a reply that is Done, and whether there is an event answered Done, as a number
abbrev done_reply : Option Reply → ℕ
done_reply None = 0
done_reply (Some r) = done r

abbrev done_event : Option Event → ℕ
done_event (Some (Act t request r woken)) = done r
done_event other = 0

-- whether there is an event that woke a thread, as a number
abbrev woke : Option Event → ℕ
woke (Some (Act t request r woken)) = there woken
woke other = 0

-- the reply that is there, Done where there is none
abbrev reply_in : Option Reply → Reply
reply_in None = reply.Done
reply_in (Some r) = r

-- the event of an act that is answered Done
event_done : (p : Settings) (c : ℕ) (t : ThreadId) (request : Request) (before after : ThreadId → Option Request) (e : Entry) (es : List Entry)
    → Does p c t request before after e es → reply_of p t request es ≡ Some reply.Done → e.event ≡ Some (Act t request reply.Done (woken_by request reply.Done es))
event_done p c t request before after e es h answered =
    subst (λ r. e.event ≡ Some (Act t request r (woken_by request r es))) (ap reply_in (sym h.answered ∙ answered)) h.event

-- how many grants there are
abbrev grants : List Sent → ℕ
grants [] = 0
grants (ToClient c (down.Grant l level) ∷ sent) = suc (grants sent)
grants (s ∷ sent) = grants sent

pub refusals : Refusals
refusals = record {
  clock_stands_still = λ h. differ refl h.clocks;
  message_is_not_first = λ h. let never : up.Fault 0 ≢ up.IdAsk = λ e. cc in never h.channels;
  get_without_copy = λ h. differ refl (ap there h.rule.step.acts.event);
  enter_without_lease = λ h. differ refl (ap there h.rule.step.acts.event);
  second_request = λ h. differ refl (ap there h.rule.step.acts.asked);
  act_after_end = λ h. h.rule.step.acts;
  closing_lease_admits = λ h. differ refl (ap there h.rule.step.acts.event);
  entered_beside_other_thread = λ h. differ refl (ap there h.rule.step.acts.event);
  unguarded_write_done = λ h. differ refl (ap done_reply h.rule.step.acts.answered ∙ sym (ap done_event h.rule.step.acts.event));
  settled_unacknowledged = λ h. differ refl (ap there h.rule.step.acts.event);
  timed_out_thread_chosen = λ h. differ refl (ap woke (event_done _ _ _ _ _ _ _ _ h.rule.step.acts refl));
  flush_unacknowledged = λ h. differ refl (ap number h.rule.step.may.flushable);
  flush_of_few = λ h. differ refl (ap number h.rule.step.may.full);
  rejoin_unbroken = λ h. differ refl (ap number h.rule.connection);
  break_not_due = λ h. differ refl (ap number h.rule.step.due);
  loss_not_due = λ h. differ refl (ap number h.rule.step.due);
  taken_where_break_is_due = λ h. differ refl (ap number h.rule.step.no_break);
  padded = λ h. let more : 1 ≤ 0 = h.connections.0.at_client in omega arith;
}

-- what an act that is answered Done sends
abbrev SendsDone : Settings → ℕ → ThreadId → Request → (ThreadId → Option Request) → (ThreadId → Option Request) → Entry → List Entry → Reply → Type 0
SendsDone p c t request before after e es r = e.sent ≡ map ToServer (commits p t (Act t request r (woken_by request r es)) es ++ returns p c after (unsent e ∷ es) ++ asks_again p c before after (after t) (unsent e ∷ es) es)

does_done : (p : Settings) (c : ℕ) (t : ThreadId) (request : Request) (before after : ThreadId → Option Request) (e : Entry) (es : List Entry)
    → Does p c t request before after e es → reply_of p t request es ≡ Some reply.Done → SendsDone p c t request before after e es reply.Done
does_done p c t request before after e es h answered = subst (SendsDone p c t request before after e es) (ap reply_in (sym h.answered ∙ answered)) h.sends

pub wrong_sendings : WrongSendings
wrong_sendings = record {
  extra_return = λ h. differ refl (ap length (does_done _ _ _ _ _ _ _ _ h.rule.step.acts refl));
  record_missing = λ h. differ refl (ap length (does_done _ _ _ _ _ _ _ _ h.rule.step.acts refl));
  ack_missing = λ h. differ refl (ap length h.rule.step.heard.sends);
  output_missing = λ h. differ refl (ap (λ sent. sum_by sent_values_of sent) (does_done _ _ _ _ _ _ _ _ h.rule.step.acts refl));
  write_granted_beside_write = λ h. differ refl (ap grants h.rule.step.heard.sends);
  changes_miss_a_holder = λ h. differ refl (ap length h.rule.step.heard.sends);
  notify_wakes_nobody = λ h. differ refl (ap length h.rule.step.heard.sends);
  lost_client_answered = λ h. differ refl (ap length h.rule.step.heard);
  loss_serves_nobody = λ h. differ refl (ap length h.rule.step.sends);
}
