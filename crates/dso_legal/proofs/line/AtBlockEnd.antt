-- As a block of a client ends: what it sets is resident and its guards leased, and what the client's threads have seen of
-- fields whose guards aren't leased stays.
use Rattle.std.specs.List.{list_any}
use Rattle.std.proofs.Common.{ℕ, ◌≡◌, ◌≢◌, ◌⊎◌, inl, inr, refl, sym, ◌∙◌, ap, subst, Bool, true, false, List, ◌∷◌}
use Rattle.std.specs.Prelude.{Option, Some, None}
use Rattle.dso_base.specs.Block.{Work, start, work_by, worked}
use Rattle.dso_base.specs.declared.journal.Entry.{Entry}
use Rattle.dso_base.specs.declared.journal.Node.TheVariants.{Server, Client}
use Rattle.dso_base.specs.declared.lock.Level.{Level}
use Rattle.dso_base.specs.declared.lock.Level.TheVariants.{Write}
use Rattle.dso_base.specs.declared.lock.LockName.{LockName}
use Rattle.dso_base.specs.declared.lock.ThreadId.{ThreadId}
use Rattle.dso_base.specs.declared.record.Body.{Body}
use Rattle.dso_base.specs.declared.record.Ending.{Ending}
use Rattle.dso_base.specs.declared.request.Event.{Event}
use Rattle.dso_base.specs.declared.request.Event.TheVariants.{Act}
use Rattle.dso_base.specs.declared.request.Reply.{Reply}
use Rattle.dso_base.specs.declared.request.Request.{Request}
use Rattle.dso_base.specs.declared.request.Request.TheVariants.{Exit, Wait, Timeout, End}
use Rattle.dso_base.specs.declared.shape.Shape.{Shape}
use Rattle.dso_base.specs.Following.{is_thread}
use Rattle.dso_plain.specs.History.{RunsButMarks, end_of, last_state}
use Rattle.dso_plain.specs.StepInvariants.{PastInvariant}
use Rattle.dso_plain.specs.State.{PlainState, IsShared, guard_in}
use Rattle.dso_plain.specs.Touches.{AreActsOf, TouchesIn}
use Rattle.dso_plain.proofs.keys.SameKeys.{same_thread}
use Rattle.dso_plain.proofs.independence.LeftAlone.{leaves_own}
use Rattle.dso_plain.proofs.invariants.PastsHold.{kept_past}
use Rattle.dso_plain.proofs.invariants.PastsHold.{run_kept}
use Rattle.dso_law.specs.Copies.{is_resident, is_set_of}
use Rattle.dso_law.specs.Entries.{entries_of}
use Rattle.dso_law.specs.Leases.{standing, leased}
use Rattle.dso_law.specs.ServerReadings.{is_lost, counted}
use Rattle.dso_law.specs.Channels.{up_in_flight}
use Rattle.dso_law.specs.Granting.{standing_with}
use Rattle.dso_law.specs.Settings.{Settings}
use Rattle.dso_law.specs.Threads.{Locks, ending_by, locks_of, open_block, privates_before, work_of}
use Rattle.dso_legal.specs.Agreement.{messages}
use Rattle.dso_legal.specs.AsMade.{as_made}
use Rattle.dso_legal.specs.CopiesStand.{state_at}
use Rattle.dso_legal.specs.Lawful.{AllFollow}
use Rattle.dso_legal.specs.PendingBlocks.{joined, pending}
use Rattle.dso_legal.specs.Residency.{is_set}
use Rattle.dso_legal.specs.Works.{ArePrivates}
use Rattle.dso_legal.proofs.blocks.ClientBlocks.{block_acts, keeps_thread}
use Rattle.dso_legal.proofs.records.ClientRecords.{EndsBlock, block_ended, record_ended}
use Rattle.dso_legal.proofs.records.ClientWords.{ClientWord, IsWord, Records}
use Rattle.dso_legal.proofs.copies.CopiesOwn.{Ends}
use Rattle.dso_legal.proofs.leases.Holds.{enough_there}
use Rattle.dso_legal.proofs.line.LineParts.{line_runs}
use Rattle.dso_legal.proofs.blocks.OpenBlocksHold.{OpensFrom, held_leased, ended_touches}
use Rattle.dso_legal.proofs.objects.OwnObjects.{worked_more}
use Rattle.dso_legal.proofs.objects.PrivatesTaken.{acts_of_others, ending_thread, privates_at_of}
use Rattle.dso_legal.proofs.copies.SeenStays.{seen_stays}
use Rattle.dso_legal.proofs.objects.SetsResident.{all_held}
use Rattle.dso_legal.proofs.objects.SetsTouched.{sets_touched}
use Rattle.dso_legal.proofs.line.StandsOn.{AllStand, opens_from}
use Rattle.dso_legal.proofs.objects.WorksTell.{start_goes, history_kept, works_tell_from, works_tell}

-- an ending leaves what is in hand
ending_work : (shape : Shape) (request : Request) (reply : Reply) (woken : Option ThreadId) (work : Work) (locks : Locks) (ending : Ending) → ending_by request reply locks ≡ Some ending → work_by shape request reply woken work ≡ work
ending_work shape (Exit l) reply woken work locks ending ends = refl
ending_work shape (Wait l) reply woken work locks ending ends = refl
ending_work shape (Timeout l) reply woken work locks ending ends = refl
ending_work shape (End fault) reply woken work locks ending ends = refl
ending_work shape request reply woken work locks ending ends = absurd (cc ends)

module _ (p : Settings) (next : ThreadId → List Event → Option Request) (e : Entry) (es : List Entry) (follow : AllFollow p next (e ∷ es)) (stand : AllStand p es)
    (c : ℕ) (at : e.node ≡ Client c) (alive : is_lost c (entries_of Server es) ≡ false) (it : EndsBlock p e (entries_of (Client c) es)) (runs : RunsButMarks p.shape (block_ended it) (state_at p c es)) where
  abbrev own : List Entry
  own = entries_of (Client c) es

  -- where the client stands, and the block leaves it
  abbrev s : PlainState
  s = state_at p c es

  abbrev r : PlainState
  r = end_of p.shape (block_ended it) s

  -- the private objects at the block's start
  abbrev privates : List Body
  privates = privates_before p.shape it.thread own

  -- what the thread has in hand at its end
  abbrev work : Work
  work = worked p.shape (block_ended it) (start privates)

  its_client : it.thread.client ≡ c
  its_client = ending_thread p next c e es follow.0 follow.1 at it

  opens : OpensFrom p.shape it.thread own s
  opens = opens_from p next es follow.0 stand c alive it.thread its_client

  acts : AreActsOf it.thread (block_ended it)
  acts = block_acts it.thread it.request it.reply it.woken own

  -- what the block touches is within a lease
  touched : (l : LockName) (x : Level) → TouchesIn p.shape (block_ended it) s l x → (standing l own).lease ≢ None
  touched l x touch = enough_there x (leased l own) (held_leased p next es follow.0 c it.thread l x
      (ended_touches p next es follow.0 c it.thread s opens it.ending (Act it.thread it.request it.reply it.woken) refl it.ends acts runs l x touch))

  -- the blocks in flight run
  pends : RunsButMarks p.shape (joined (pending c es)) (last_state p.shape (as_made es))
  pends = line_runs p.shape c (messages (up_in_flight c es)) (pending c es) (λ l. standing_with c l (counted (entries_of Server es))) (last_state p.shape (as_made es)) (stand.lines c alive).line

  -- pasts are kept where the client stands
  kept : PastInvariant s
  kept = run_kept p.shape (joined (pending c es)) (last_state p.shape (as_made es)) pends (history_kept p.shape (as_made es) stand.runs)

  -- the private objects are those of the state
  are : ArePrivates it.thread privates s
  are = subst (λ bodies. ArePrivates it.thread bodies s) (sym (keeps_thread p.shape it.thread own).privates)
      (privates_at_of works_tell p next it.thread c its_client es follow.0 alive stand.runs pends)

  -- what the block sets is of leased guards
  sets_leased : (o f : ℕ) → list_any (is_set_of o f) work.sets ≡ true → (standing (guard_in p.shape s o f) own).lease ≢ None
  sets_leased o f set = by (sets_touched p.shape it.thread o f (block_ended it) (start privates) s s acts runs (start_goes it.thread privates s kept are) set)
    where
      by : (false ≡ true) ⊎ TouchesIn p.shape (block_ended it) s (guard_in p.shape s o f) Write → (standing (guard_in p.shape s o f) own).lease ≢ None
      by (inl none) = absurd (cc none)
      by (inr touch) = touched (guard_in p.shape s o f) Write touch

  -- the ending adds nothing to what the open block has in hand
  same_work : work ≡ work_of p.shape it.thread own
  same_work = worked_more p.shape (open_block it.thread own) (Act it.thread it.request it.reply it.woken) (start privates)
      ∙ ending_work p.shape it.request it.reply it.woken (work_of p.shape it.thread own) (locks_of it.thread own) it.ending it.ends

  -- so what the block sets is resident
  sets_resident : (o : ℕ) → is_set o work.sets ≡ true → is_resident o own ≡ true
  sets_resident o set = (all_held o p c next es follow.0 it.thread).there (sym (ap (λ (w : Work). is_set o w.sets) same_work) ∙ set)

  -- what is seen under guards that aren't leased stays
  seen_by : (u : ThreadId) (o f : ℕ) → IsShared o s → (standing (guard_in p.shape s o f) own).lease ≡ None → (b : Bool) → is_thread u it.thread ≡ b → r.seen (u, o, f) ≡ s.seen (u, o, f)
  seen_by u o f shared unleased true same = subst (λ w. r.seen (w, o, f) ≡ s.seen (w, o, f)) (same_thread u it.thread same)
      (seen_stays p.shape it.thread o f (block_ended it) s acts runs shared (λ x touch. touched (guard_in p.shape s o f) x touch unleased))
  seen_by u o f shared unleased false other = (leaves_own p.shape u (block_ended it) s runs (acts_of_others u it.thread (block_ended it) other acts)).seen o f

  -- What the client's copies need as the block ends, and its record is what the entry says.
  pub ends_stand : (w : ClientWord p c e own) → w.word ≡ Records (record_ended it) → Ends p c it.thread work s r e own
  ends_stand w records = record {
    past = kept_past r (run_kept p.shape (block_ended it) s runs kept);
    tells = works_tell_from p.shape it.thread privates (block_ended it) s kept are acts runs;
    acts = (subst (IsWord p c e own e.input) records w.is).0;
    word = w;
    txn = record_ended it;
    records = records;
    news = refl;
    sets = refl;
    resident = sets_resident;
    leased = sets_leased;
    seen = λ u o f its shared unleased. seen_by u o f shared unleased (is_thread u it.thread) refl;
  }
