-- Each waking in flight to a client is of one of its own threads.
use Rattle.std.specs.List.{list_any, AllByRecursion}
use Rattle.std.proofs.Common.{Bool, List, [], ap, cond, eqb, false, refl, subst, sym, true, ℕ, ◌++◌, ◌∙◌, ◌∷◌, ◌≡◌}
use Rattle.dso_base.specs.Following.{is_thread}
use Rattle.dso_base.specs.declared.journal.Entry.{Entry}
use Rattle.dso_base.specs.declared.journal.Input.{Input}
use Rattle.dso_base.specs.declared.journal.Input.TheVariants as input
use Rattle.dso_base.specs.declared.journal.Node.{Node}
use Rattle.dso_base.specs.declared.journal.Node.TheVariants.{Client, Server}
use Rattle.dso_base.specs.declared.journal.Sent.{Sent}
use Rattle.dso_base.specs.declared.journal.Sent.TheVariants.{ToClient, ToServer}
use Rattle.dso_base.specs.declared.lock.LockName.{LockName}
use Rattle.dso_base.specs.declared.lock.ThreadId.{ThreadId}
use Rattle.dso_base.specs.declared.message.Down.{Down}
use Rattle.dso_base.specs.declared.message.Down.TheVariants as down
use Rattle.dso_base.specs.declared.message.Up.{Up}
use Rattle.dso_base.specs.declared.message.Up.TheVariants as up
use Rattle.dso_base.specs.declared.record.Ending.{Ending}
use Rattle.dso_base.specs.declared.record.Ending.TheVariants as ending
use Rattle.dso_base.specs.declared.record.Note.{Note}
use Rattle.dso_base.specs.declared.record.Txn.{Txn}
use Rattle.dso_base.specs.declared.request.Event.{Event}
use Rattle.dso_base.specs.declared.request.Request.{Request}
use Rattle.std.specs.Prelude.{Option}
use Rattle.dso_plain.proofs.keys.SameKeys.{same_number}
use Rattle.dso_law.specs.Channels.{down_in_flight, takes_down}
use Rattle.dso_law.specs.Entries.{entries_of, unsent}
use Rattle.dso_law.specs.Granting.{leases_so_far, queue_of, serves, serves_all}
use Rattle.dso_law.specs.ServerReadings.{counted}
use Rattle.dso_law.specs.ServerStep.{HeardOrLost, ServerStepOn, answers, changes_of, object_to}
use Rattle.dso_law.specs.ServerWaiters.{lists_after, lists_noted, waiters_of, waiters_woken, wake_each, wakes, wakes_of, wakes_timed_out}
use Rattle.dso_law.specs.Settings.{Settings}
use Rattle.dso_law.specs.Store.{stored}
use Rattle.dso_legal.specs.Agreement.{messages}
use Rattle.dso_legal.specs.Lawful.{AllFollow, NodeFollows, ServerFollows}
use Rattle.dso_legal.proofs.channels.AfterEntry.{other_turn, own_turn, server_turn}
use Rattle.dso_legal.proofs.channels.InFlight.{told_to}
use Rattle.dso_legal.proofs.copies.ServerMessages.{IsOfLease, serve_each, serves_all_told}
use Rattle.dso_legal.proofs.fitting.Carried.{rest_of}
use Rattle.dso_legal.proofs.fitting.InHand.{each_of_two}
use Rattle.dso_legal.proofs.records.ServerSent.{EachTold, told_each_so}
use Rattle.dso_legal.proofs.waiting.ServerWaiters.{IsNoWake, changes_wake_none, lease_wakes_none, object_wakes_none}

-- a waking is of one of the client's threads
abbrev pub WakesIts : ℕ → Down → Type 0
WakesIts c (down.Wake l t) = t.client ≡ c
WakesIts c m = Unit {0}

-- so each of these is, at the client that it is sent to
abbrev EachToIts : List Sent → Type 0
EachToIts [] = Unit {0}
EachToIts (ToServer m ∷ out) = EachToIts out
EachToIts (ToClient c m ∷ out) = WakesIts c m × EachToIts out

to_its_both : (xs ys : List Sent) → EachToIts xs → EachToIts ys → EachToIts (xs ++ ys)
to_its_both [] ys h k = k
to_its_both (ToServer m ∷ xs) ys h k = to_its_both xs ys h k
to_its_both (ToClient c m ∷ xs) ys h k = (h.0, to_its_both xs ys h.1 k)

-- what wakes nobody
none_to_its : (out : List Sent) → EachTold IsNoWake out → EachToIts out
none_to_its [] none = tt
none_to_its (ToServer m ∷ out) none = none_to_its out none
none_to_its (ToClient c m ∷ out) none = (one m none.0, none_to_its out none.1)
  where
    one : (m : Down) → IsNoWake m → WakesIts c m
    one (down.Wake l t) none = absurd none
    one m none = tt

-- what is told to one client
told_its : (c : ℕ) (out : List Sent) → EachToIts out → AllByRecursion (WakesIts c) (told_to c out)
told_its c [] h = tt
told_its c (ToServer m ∷ out) h = told_its c out h
told_its c (ToClient d m ∷ out) h = by (eqb c d) refl (told_its c out h.1)
  where
    by : (b : Bool) → eqb c d ≡ b → AllByRecursion (WakesIts c) (told_to c out) → AllByRecursion (WakesIts c) (cond b (m ∷ told_to c out) (told_to c out))
    by true same rest = (subst (λ n. WakesIts n m) (sym (same_number c d same)) h.0, rest)
    by false other rest = rest

-- ---- the wakings of a record

each_its : (l : LockName) (threads : List ThreadId) → EachToIts (wake_each l threads)
each_its l [] = tt
each_its l (t ∷ threads) = (refl, each_its l threads)

noted_its : (notes : List Note) (lists : LockName → List ThreadId) → EachToIts (wakes notes lists)
noted_its [] lists = tt
noted_its (note ∷ notes) lists = to_its_both (wake_each note.lock (waiters_woken note.choice (lists note.lock))) (wakes notes (lists_after note.lock note.choice lists))
    (each_its note.lock (waiters_woken note.choice (lists note.lock))) (noted_its notes (lists_after note.lock note.choice lists))

timed_out_its : (t : ThreadId) (end : Ending) (lists : LockName → List ThreadId) → EachToIts (wakes_timed_out t end lists)
timed_out_its t (ending.Exit l) lists = tt
timed_out_its t (ending.Wait l) lists = tt
timed_out_its t (ending.End fault) lists = tt
timed_out_its t (ending.Timeout l) lists = by (list_any (is_thread t) (lists l))
  where
    by : (b : Bool) → EachToIts (cond b (wake_each l (t ∷ [])) [])
    by true = (refl, tt)
    by false = tt

woken_its : (txn : Txn) (lists : LockName → List ThreadId) → EachToIts (wakes_of txn lists)
woken_its txn lists = to_its_both (wakes txn.notes lists) (wakes_timed_out txn.thread txn.ending (lists_noted txn.notes lists)) (noted_its txn.notes lists)
    (timed_out_its txn.thread txn.ending (lists_noted txn.notes lists))

-- ---- what an entry of the server sends

module _ (p : Settings) (e : Entry) (all : List Entry) where
  abbrev now : List Entry
  now = unsent e ∷ counted all

  leases_its : (out : List Sent) → EachTold IsOfLease out → EachToIts out
  leases_its out each = none_to_its out (told_each_so IsOfLease IsNoWake lease_wakes_none out each)

  answers_its : (d : ℕ) (m : Up) → EachToIts (answers p d m now)
  answers_its d up.IdAsk = (tt, tt)
  answers_its d (up.Fault o) = none_to_its (object_to d (stored p.shape o now)) (object_wakes_none d (stored p.shape o now))
  answers_its d (up.Flushed o) = tt
  answers_its d (up.Request l level) = leases_its (serves p l now) (serve_each p l (queue_of l now) (leases_so_far l now))
  answers_its d (up.Return l threads) = leases_its (serves p l now) (serve_each p l (queue_of l now) (leases_so_far l now))
  answers_its d (up.Commit txn) = (
    tt,
    to_its_both (changes_of p d txn now) (wakes_of txn (λ l. waiters_of l now)) (none_to_its (changes_of p d txn now) (changes_wake_none p d txn now)) (woken_its txn (λ l. waiters_of l now)),
  )

  heard_its : (d : ℕ) (m : Up) (lost : Bool) → HeardOrLost p d m lost e (counted all) → EachToIts e.sent
  heard_its d m true heard = subst EachToIts (sym heard) tt
  heard_its d m false heard = subst EachToIts (sym heard.sends) (answers_its d m)

  sent_its : (i : Input) → ServerStepOn p i e all → EachToIts e.sent
  sent_its (input.TookUp d m) step = heard_its d m _ step.heard
  sent_its (input.Lose d) step = subst EachToIts (sym step.sends) (leases_its (serves_all p now) (serves_all_told p now))
  sent_its (input.Break d) step = subst EachToIts (sym step.sends) tt
  sent_its (input.Rejoin d) step = subst EachToIts (sym step.sends) tt
  sent_its other step = absurd step

-- After entries each of which follows those before it, to a lost client too.
module _ (p : Settings) (next : ThreadId → List Event → Option Request) (c : ℕ) where
  pub wakes_its : (es : List Entry) → AllFollow p next es → AllByRecursion (WakesIts c) (messages (down_in_flight c es))
  wakes_its [] follow = tt
  wakes_its (e ∷ es) follow = at e.node refl (wakes_its es follow.0)
    where
      at : (node : Node) → e.node ≡ node → AllByRecursion (WakesIts c) (messages (down_in_flight c es)) → AllByRecursion (WakesIts c) (messages (down_in_flight c (e ∷ es)))
      at Server node before =
          let rule : ServerFollows p next e es = subst (λ n. NodeFollows p next n e es) node follow.1.rule in
          subst (AllByRecursion (WakesIts c)) (sym (server_turn c e es node).down)
          (each_of_two (WakesIts c) (messages (down_in_flight c es)) (told_to c e.sent) before (told_its c e.sent (sent_its p e (entries_of Server es) e.input rule.step)))
      at (Client d) node before = by (eqb c d) refl
        where
          by : (b : Bool) → eqb c d ≡ b → AllByRecursion (WakesIts c) (messages (down_in_flight c (e ∷ es)))
          by true same = subst (AllByRecursion (WakesIts c)) (sym (own_turn c e es (node ∙ ap Client (sym (same_number c d same)))).down)
              (rest_of (WakesIts c) (takes_down e.input) (messages (down_in_flight c es)) before)
          by false other = subst (λ letters. AllByRecursion (WakesIts c) (messages letters)) (sym (other_turn c d e es node other).down) before
