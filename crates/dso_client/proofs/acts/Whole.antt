-- The whole of an act that is answered: the client stands for its entries with it.
use Rattle.std.specs.List.{AllByRecursion, list_any}
use Rattle.std.proofs.Common.{◌≡◌, ◌≢◌, ℕ, refl, sym, ◌∙◌, ap, Bool, true, Option, Some, List, [], ◌∷◌, ◌++◌, map}
use Rattle.dso_base.specs.declared.journal.Entry.{Entry}
use Rattle.dso_base.specs.declared.lock.ThreadId.{ThreadId}
use Rattle.dso_base.specs.declared.message.Up.{Up}
use Rattle.dso_base.specs.declared.record.Txn.{Txn}
use Rattle.dso_base.specs.declared.request.Reply.{Reply}
use Rattle.dso_base.specs.declared.request.Request.{Request}
use Rattle.dso_base.specs.Following.{is_thread}
use Rattle.dso_law.specs.ClientRun.{next_in}
use Rattle.dso_law.specs.ClientStep.{asks_again, commits, returns}
use Rattle.dso_law.specs.Entries.{events_in}
use Rattle.dso_law.specs.Settings.{Settings, threads_of}
use Rattle.dso_machine.specs.declared.code.Code.{Code}
use Rattle.dso_machine.specs.declared.thread.Thread.{Thread}
use Rattle.dso_machine.specs.Next.{next_request}
use Rattle.dso_machine.specs.Standing.{ThreadStands}
use Rattle.dso_client.specs.declared.answered.Answered.{Answered}
use Rattle.dso_client.specs.declared.client_state.ClientState.{ClientState}
use Rattle.dso_client.specs.declared.thread_context.ThreadContext.{ThreadContext}
use Rattle.dso_client.specs.AnsweredActs.{IsAnswering, StandsHandedIn, StandsApplied, StandsSent, TellsClosing}
use Rattle.dso_client.specs.ClientStands.{ClientStands, point}
use Rattle.dso_client.specs.CodeRuns.{Runs, ContextRuns}
use Rattle.dso_client.specs.ThreadProgress.{HasGoneOn, with_next}
use Rattle.dso_client.specs.StateStands.{StateStands, ClientPartsStand}
use Rattle.dso_client.specs.ActEffects.{acting, acting_entry, event_of, applied, applied_entry}
use Rattle.dso_client.specs.Openings.{thread_at}
use Rattle.dso_client.specs.RunPoints.{RunPoint}
use Rattle.dso_client.specs.LeaseReturns.{AreNextOfOthers, record_sent}
use Rattle.dso_client.specs.RunFacts.{RunFacts}
use Rattle.dso_client.specs.ContextPlaces.{running, context_in}
use Rattle.dso_client.specs.TakenMessages.{IsQuiet}
use Rattle.dso_client.specs.Turns.{AnswersNext}
use Rattle.dso_client.proofs.contexts.AtStart.{all_as}
use Rattle.dso_client.proofs.contexts.ContextsFound.{context_is, context_there}
use Rattle.dso_client.proofs.due.Leased.{quiet_lease}
use Rattle.dso_client.proofs.due.Took.{same_told}
use Rattle.dso_client.proofs.acts.Going.{kept_gone, running_next}
use Rattle.dso_client.proofs.acts.Machine.{asks_next, events_there, runs_gone_on, threads_gone_on}
use Rattle.dso_client.proofs.acts.Next.{parts_then}
use Rattle.dso_client.proofs.sent.Parts.{other_thread}
use Rattle.dso_client.proofs.contexts.ChangedContexts.{told_unchanged}
use Rattle.dso_client.proofs.acts.Step.{acted_stands, later}
use Rattle.dso_client.proofs.standing.Parts.{parts_of}

-- a thread with its machine
abbrev machine : ThreadContext → ThreadId × Thread
machine context = (context.id, context.thread)

machine_told : (xs ys : List ThreadContext) → map running xs ≡ map running ys → map machine xs ≡ map machine ys
machine_told [] [] e = refl
machine_told [] (y ∷ ys) e = absurd (cc e)
machine_told (x ∷ xs) [] e = absurd (cc e)
machine_told (x ∷ xs) (y ∷ ys) e =
    let first : running x ≡ running y = cc e in
    let rest : map running xs ≡ map running ys = cc e in
    λ i. ((first i).0, (first i).1) ∷ machine_told xs ys rest i

-- contexts with the same threads and next requests run the same code
abbrev Told : Code → ThreadContext → Type 0
Told code context = (request : Request) → context.next ≡ Some request → Runs code context.id context.thread request

runs_as : (code : Code) (old new : List ThreadContext) → map running new ≡ map running old → AllByRecursion (ContextRuns code) old → AllByRecursion (ContextRuns code) new
runs_as code old new same h = all_as (Told code) (ContextRuns code) (λ context f. record { runs = f }) new
    (same_told running (λ (x : ThreadId × Thread × Option Request). (request : Request) → x.2 ≡ Some request → Runs code x.0 x.1 request) old new same
    (all_as (ContextRuns code) (Told code) (λ context s. s.runs) old h))

-- The threads run the code still, once the acting one has its new next request.
pub runs_answered : (code : Code) (index : ℕ) (reply : Reply) (old gone mid new : List ThreadContext) (next : Option Request) → HasGoneOn code index reply old gone next → AllByRecursion (ContextRuns code) old
    → map running mid ≡ map running gone → new ≡ with_next index next mid → AllByRecursion (ContextRuns code) new
runs_answered code index reply old gone mid new next h runs same is =
    runs_as code (with_next index next gone) new (ap (map running) is ∙ running_next mid gone index next same) (runs_gone_on code index reply old gone next h runs)

module _ (code : Code) (p : Settings) (clock : ℕ) (act : Answered) (es : List Entry) (old : ClientState) (h : ClientStands code p act.thread.client old es)
    (its : list_any (is_thread act.thread) (threads_of p act.thread.client) ≡ true) (is : next_in (next_request code) es act.thread ≡ Some act.request)
    (answers : AnswersNext (point code p act.thread.client es) act.thread act.request act.reply act.woken) where
  abbrev at : RunPoint
  at = point code p act.thread.client es

  abbrev behind : ThreadId → Option Request
  behind = later code p clock act es old h

  module _ (gone mid sent_by then new : ClientState) (next : Option Request) (was_closing : Bool) (txn : Option Txn) (sent all : List Up)
      (goes : HasGoneOn code act.thread.index act.reply old.contexts.items gone.contexts.items next) (heard_alone : gone ≡ record old { contexts = gone.contexts })
      (closing : (at : RunPoint) → ClientPartsStand at gone → TellsClosing at next was_closing)
      (applies : (clock : ℕ) (at : RunPoint) → IsAnswering at code.shape act gone → StandsApplied clock at act txn mid)
      (hands : (clock : ℕ) (at : RunPoint) → ClientPartsStand (applied clock act at) mid → RunFacts at → act.thread ≡ thread_at at.client act.thread.index
      → record_sent txn ≡ commits at.settings act.thread (event_of act) at.entries → StandsHandedIn clock at act txn sent sent_by)
      (runs_mid : map running sent_by.contexts.items ≡ map running gone.contexts.items)
      (set : then.contexts.items ≡ with_next act.thread.index next sent_by.contexts.items) (set_alone : then ≡ record sent_by { contexts = then.contexts })
      (rests : (clock : ℕ) (txn : Option Txn) (later : ThreadId → Option Request) (at : RunPoint) → ClientPartsStand (acting clock act (record_sent txn) later at) then → IsQuiet at → RunFacts at
      → list_any (is_thread act.thread) (threads_of at.settings at.client) ≡ true → next ≡ later act.thread → AreNextOfOthers act.thread at.next later → TellsClosing at next was_closing
      → sent ≡ record_sent txn → StandsSent clock at act txn later all new)
      (rest_alone : new.contexts.items ≡ then.contexts.items) where
    kept_now : StateStands at gone
    kept_now = kept_gone at code act.reply old gone act.thread.index next goes heard_alone h.parts

    answering : IsAnswering at code.shape act gone
    answering = record { stands = kept_now; shape_is = h.shape; mine = refl; its = its; answers = answers }

    applied_now : StandsApplied clock at act txn mid
    applied_now = applies clock at answering

    handed_now : StandsHandedIn clock at act txn sent sent_by
    handed_now = hands clock at applied_now.parts h.parts.facts refl applied_now.commits

    mine : goes.context.id ≡ act.thread
    mine = context_is act.thread.client old.contexts.items act.thread.index goes.context h.parts.numbered goes.there

    next_is : next ≡ behind act.thread
    next_is = asks_next code clock act.thread.client act.thread.index act es old.contexts.items gone.contexts.items next refl h.parts.numbered goes h.threads ∙ ap behind mine

    context_now : (context : ThreadContext) × (context_in sent_by.contexts.items act.thread.index ≡ Some context)
    context_now = context_there act.thread.client sent_by.contexts.items act.thread.index handed_now.parts.numbered (ap (list_any (is_thread act.thread)) handed_now.parts.places ∙ its)

    here : next ≡ behind context_now.0.id
    here = next_is ∙ ap behind (sym (context_is act.thread.client sent_by.contexts.items act.thread.index context_now.0 handed_now.parts.numbered context_now.1))

    -- the others go on to the same
    others_next : AreNextOfOthers act.thread at.next behind
    others_next t other = ap (next_request code t) (events_there clock act.thread.client act es t other)

    others : (k : ℕ) (other : ThreadContext) → k ≢ act.thread.index → context_in sent_by.contexts.items k ≡ Some other → next_in (next_request code) es other.id ≡ behind other.id
    others k other differ there = sym (others_next other.id
        (ap (λ t. is_thread t act.thread) (context_is act.thread.client sent_by.contexts.items k other handed_now.parts.numbered there) ∙ other_thread act.thread.client k act.thread.index differ))

    parts_set : ClientPartsStand (acting clock act (record_sent txn) behind at) then
    parts_set = parts_then (acting clock act (record_sent txn) at.next at) behind sent_by then act.thread.index context_now.0 next context_now.1 here others
        (ap (λ (kept : ClientState). kept.number) set_alone) (ap (λ (kept : ClientState). kept.table) set_alone) (ap (λ (kept : ClientState). kept.lock_state) set_alone) (ap (λ (kept : ClientState). kept.sequences) set_alone) set handed_now.parts

    sent_now : StandsSent clock at act txn behind all new
    sent_now = rests clock txn behind at parts_set (λ l. quiet_lease p act.thread.client (next_request code) es h.run l) h.parts.facts its next_is others_next (closing at (parts_of at gone kept_now)) handed_now.sends

    machines : map machine new.contexts.items ≡ map machine gone.contexts.items
    machines = ap (map machine) (rest_alone ∙ set) ∙ (told_unchanged (λ (context : ThreadContext). record context { next = next }) machine (λ context. refl) sent_by.contexts.items act.thread.index
        ∙ machine_told sent_by.contexts.items gone.contexts.items runs_mid)

    threads : AllByRecursion (λ (context : ThreadContext). ThreadStands code context.id context.thread (events_in context.id (applied_entry clock act.thread.client act ∷ es))) new.contexts.items
    threads = same_told machine (λ (x : ThreadId × Thread). ThreadStands code x.0 x.1 (events_in x.0 (applied_entry clock act.thread.client act ∷ es))) gone.contexts.items new.contexts.items machines
        (threads_gone_on code clock act.thread.client act.thread.index act es old.contexts.items gone.contexts.items next refl h.parts.numbered goes h.threads)

    pub answered_stands : ClientStands code p act.thread.client new (acting_entry clock act.thread.client act all ∷ es)
    answered_stands = acted_stands code p clock act es old h all answers
        (sent_now.sends ∙ ap (λ first. first ++ returns p act.thread.client behind (applied_entry clock act.thread.client act ∷ es)
        ++ asks_again p act.thread.client (next_in (next_request code) es) behind (behind act.thread) (applied_entry clock act.thread.client act ∷ es) es) applied_now.commits)
        new its is sent_now.parts threads
