-- A client's run and the journal that it is of: its next requests, its next entry, its open slots.
use Rattle.std.specs.List.{list_any}
use Rattle.std.proofs.Common.{ℕ, ◌≡◌, refl, sym, ◌∙◌, ap, true, cond, not, eqb, ◌&&◌, ◌||◌, is_some, Option, Some, None, List, ◌∷◌}
use Rattle.std.specs.Prelude.{is_none}
use Rattle.dso_base.specs.declared.journal.Entry.{Entry}
use Rattle.dso_base.specs.declared.journal.Node.TheVariants.{Client}
use Rattle.dso_base.specs.declared.lock.Level.{Level}
use Rattle.dso_base.specs.declared.lock.Level.TheVariants.{Write}
use Rattle.dso_base.specs.declared.lock.LockName.{LockName}
use Rattle.dso_base.specs.declared.lock.ThreadId.{ThreadId}
use Rattle.dso_base.specs.declared.request.Event.{Event}
use Rattle.dso_base.specs.declared.request.Request.{Request}
use Rattle.dso_base.specs.declared.request.Request.TheVariants.{Enter, Resume}
use Rattle.dso_plain.proofs.keys.SameKeys.{same_number, number_self}
use Rattle.dso_law.specs.Settings.{Settings, clients_of, threads_of}
use Rattle.dso_law.specs.Entries.{entries_of, events_in}
use Rattle.dso_law.specs.Threads.{hold_of, is_local}
use Rattle.dso_law.specs.Leases.{leased, is_entered, is_recalled}
use Rattle.dso_law.specs.ClientWaiters.{is_marked}
use Rattle.dso_law.specs.Closing.{wants_write, is_read, awaits_write, is_closing}
use Rattle.dso_law.specs.RequestNeeds.{NeedsMark, NeedsLease, NeedsOthersOut, is_enough, is_in_conflict, unless, first_unmet, entry_need, unmet}
use Rattle.dso_law.specs.ClientStep.{can_do, can_act, may_act}
use Rattle.dso_law.specs.ClientRun.{ClientRun, AreSameFor, next_in}
use Rattle.dso_law.proofs.runs.OwnRequests.{own_requests, same_any}
use Rattle.dso_legal.specs.Lawful.{next_after, ClientFollows}
use Rattle.dso_legal.specs.Slots.{is_open, Acts}
use Rattle.dso_legal.proofs.channels.AfterEntry.{own_turn}
use Rattle.dso_client.specs.Openings.{thread_at}

-- what a thread needs, and so whether it may act, goes by the next requests of its client's threads alone
module _ (p : Settings) (c : ℕ) (next other : ThreadId → Option Request) (same : AreSameFor c next other) where
  same_closing : (l : LockName) (es : List Entry) → is_closing p c next l es ≡ is_closing p c other l es
  same_closing l es = ap (λ wanted. is_recalled l es || (is_read (leased l es) && wanted))
      (same_any c (awaits_write p c next l es) (awaits_write p c other l es) (λ t own. ap (λ request. is_none (hold_of t l es) && wants_write l (is_marked t es) request) (same t own)) p.threads)

  same_entry : (t : ThreadId) (l : LockName) (level : Level) (es : List Entry) → entry_need p c next t l level es ≡ entry_need p c other t l level es
  same_entry t l level es = ap (λ closing. first_unmet (unless (is_enough level (leased l es) && (not closing || not (is_entered l es))) (NeedsLease l level))
      (unless (not (list_any (is_in_conflict p c next t l level es) (threads_of p c))) (NeedsOthersOut l))) (same_closing l es)

  pub same_unmet : (t : ThreadId) (request : Request) (es : List Entry) → unmet p c next t request es ≡ unmet p c other t request es
  same_unmet t (Enter l level) es = ap (cond (is_local p.shape t l es || is_some (hold_of t l es)) None) (same_entry t l level es)
  same_unmet t (Resume l) es = ap (first_unmet (unless (is_marked t es) (NeedsMark l))) (same_entry t l Write es)
  same_unmet t request es = refl

  pub same_may_act : (t : ThreadId) (es : List Entry) → eqb t.client c ≡ true → may_act p c next t es ≡ may_act p c other t es
  same_may_act t es own = ap (λ request. can_act p c next t request es) (same t own) ∙ by (other t)
    where
      by : (request : Option Request) → can_act p c next t request es ≡ can_act p c other t request es
      by None = refl
      by (Some request) = ap (λ need. can_do p t request need es) (same_unmet t request es)

module _ (p : Settings) (next : ThreadId → List Event → Option Request) (c : ℕ) (es : List Entry) where
  -- the next requests of the client's threads, by its own entries
  pub own_next : AreSameFor c (next_in next (entries_of (Client c) es)) (next_after next es)
  own_next t its = ap (λ n. next t (events_in t (entries_of (Client n) es))) (sym (same_number t.client c its))

  -- and with one more entry of it
  pub more_next : (e : Entry) → e.node ≡ Client c → AreSameFor c (next_in next (e ∷ entries_of (Client c) es)) (next_after next (e ∷ es))
  more_next e is t its = ap (λ own. next t (events_in t own)) (sym (own_turn c e es is).own)
      ∙ ap (λ n. next t (events_in t (entries_of (Client n) (e ∷ es)))) (sym (same_number t.client c its))

  -- An entry that goes on with the client's run follows the journal by the client rule.
  pub run_follows : (e : Entry) → e.node ≡ Client c → list_any (eqb c) (clients_of p) ≡ true → ClientRun p c next (e ∷ entries_of (Client c) es) → ClientFollows p next c e es
  run_follows e is its run = record {
    its = its;
    step = own_requests p c (next_in next (entries_of (Client c) es)) (next_after next es) (next_in next (e ∷ entries_of (Client c) es)) (next_after next (e ∷ es)) e (entries_of (Client c) es)
        own_next (more_next e is) run.1;
  }

  -- The slot of a thread is open where the client rule has an act of it in the client's run.
  pub acts_open : (index : ℕ) → is_open p next es (Acts (thread_at c index)) ≡ may_act p c (next_in next (entries_of (Client c) es)) (thread_at c index) (entries_of (Client c) es)
  acts_open index = sym (same_may_act p c (next_in next (entries_of (Client c) es)) (next_after next es) own_next (thread_at c index) (entries_of (Client c) es) (number_self c))
