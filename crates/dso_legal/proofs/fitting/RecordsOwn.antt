-- A record that comes is of a thread of its client that hasn't ended; and who holds an object at the server, it is stored.
use Rattle.std.specs.List.{list_any}
use Rattle.std.proofs.Common.{Bool, List, None, Option, Some, [], ap, cond, eqb, false, is_some, refl, subst, sym, true, ℕ, ◌&&◌, ◌++◌, ◌||◌, ◌∙◌, ◌∷◌, ◌≡◌, ◌≢◌}
use Rattle.dso_base.specs.Following.{IsListed, is_thread}
use Rattle.dso_base.specs.declared.journal.Entry.{Entry}
use Rattle.dso_base.specs.declared.journal.Input.{Input}
use Rattle.dso_base.specs.declared.journal.Input.TheVariants as input
use Rattle.dso_base.specs.declared.journal.Node.{Node}
use Rattle.dso_base.specs.declared.journal.Node.TheVariants.{Client, Server}
use Rattle.dso_base.specs.declared.lock.ThreadId.{ThreadId}
use Rattle.dso_base.specs.declared.message.Up.{Up}
use Rattle.dso_base.specs.declared.message.Up.TheVariants as up
use Rattle.dso_base.specs.declared.record.Ending.{Ending}
use Rattle.dso_base.specs.declared.record.Txn.{Txn}
use Rattle.dso_base.specs.declared.request.Event.{Event}
use Rattle.dso_base.specs.declared.request.Event.TheVariants.{Act}
use Rattle.dso_base.specs.declared.request.Reply.{Reply}
use Rattle.dso_base.specs.declared.request.Reply.TheVariants.{Done, Local, Made, Refused, Seen, Val}
use Rattle.dso_base.specs.declared.request.Request.{Request}
use Rattle.dso_base.specs.declared.request.Request.TheVariants.{End, Exit, Timeout, Wait}
use Rattle.dso_plain.specs.After.{exited}
use Rattle.dso_plain.specs.State.{Hold}
use Rattle.dso_plain.proofs.keys.SameKeys.{same_number, same_thread}
use Rattle.dso_law.specs.Channels.{IsFirst, up_in_flight}
use Rattle.dso_law.specs.Copies.{is_among}
use Rattle.dso_law.specs.Entries.{by_taken_up, entries_of, events_in}
use Rattle.dso_law.specs.FitsUp.{FitsUp}
use Rattle.dso_law.specs.Replies.{woken_by}
use Rattle.dso_law.specs.ServerReadings.{counted, ended_by, is_end, is_ended, is_lost, is_of_lost}
use Rattle.dso_law.specs.ServerStep.{HeardOrLost, ServerStepOn}
use Rattle.dso_law.specs.Settings.{Settings}
use Rattle.dso_law.specs.Store.{body_by, held_by, held_by_message, holds_object, stored}
use Rattle.dso_law.specs.Threads.{Locks, asks_end, ending_by, ending_of, ends_thread, exit_ending, hold_in, locks_of}
use Rattle.dso_legal.specs.Lawful.{AllFollow, NodeFollows}
use Rattle.dso_legal.specs.OwnObjects.{published_by}
use Rattle.dso_legal.specs.RecordsOwn.{HeldAreStored, IsOwnRecord, RecordsAreOwn}
use Rattle.dso_legal.specs.SoundProgram.{AsksSoundly}
use Rattle.dso_legal.proofs.blocks.Histories.{client_of_thread}
use Rattle.dso_legal.proofs.blocks.OwnActs.{reply_listed}
use Rattle.dso_legal.proofs.fitting.Carried.{first_of}
use Rattle.dso_legal.proofs.fitting.NamesInHand.{right_so}
use Rattle.dso_legal.proofs.fitting.NamesKept.{stored_by_message}
use Rattle.dso_legal.proofs.fitting.ThreadsOwn.{RecordIsIts, own_threads}
use Rattle.dso_legal.proofs.fitting.ThreadRecords.{Tells, moved, record_comes, stepped, taken_status}
use Rattle.dso_legal.proofs.fitting.Untold.{keeps_to}
use Rattle.dso_legal.proofs.records.BothEnds.{server_with}

-- ---- ends

-- whether an ending is the thread's end
abbrev ends_so : Option Ending → Bool
ends_so None = false
ends_so (Some ending) = is_end ending

-- an act ends its thread exactly where it is the end that the record tells
ends_same : (request : Request) (reply : Reply) (locks : Locks) → IsListed request reply → ends_so (ending_by request reply locks) ≡ asks_end request
ends_same (Exit l) Done locks listed = by (exited (hold_in l locks.holds))
  where
    by : (hold : Option Hold) → ends_so (exit_ending l hold) ≡ false
    by None = refl
    by (Some hold) = refl
ends_same (Wait l) Done locks listed = refl
ends_same (Wait l) (Refused fault) locks listed = refl
ends_same (Timeout l) Done locks listed = refl
ends_same (Timeout l) (Val v) locks listed = refl
ends_same (End fault) Done locks listed = refl
ends_same (End fault) (Made o) locks listed = absurd listed
ends_same (End fault) (Seen class n) locks listed = absurd listed
ends_same (End fault) (Val v) locks listed = absurd listed
ends_same (End fault) Local locks listed = absurd listed
ends_same (End fault) (Refused f) locks listed = absurd listed
ends_same request reply locks listed = refl

-- what a thread's events end
ends_more : (events : List Event) (event : Event) → list_any ends_thread (events ++ event ∷ []) ≡ (list_any ends_thread events || ends_thread event)
ends_more [] event = by (ends_thread event)
  where
    by : (b : Bool) → (b || false) ≡ b
    by true = refl
    by false = refl
ends_more (first ∷ events) event = ap (λ b. ends_thread first || b) (ends_more events event) ∙ around (ends_thread first) (list_any ends_thread events) (ends_thread event)
  where
    around : (a b c : Bool) → (a || (b || c)) ≡ ((a || b) || c)
    around true b c = refl
    around false b c = refl

-- ---- a thread and its records

module _ (p : Settings) (next : ThreadId → List Event → Option Request) (sound : AsksSoundly p.shape next) (t : ThreadId) where
  -- any ending may come where the thread hasn't ended
  abbrev MayEnd : Ending → Bool → Type 0
  MayEnd ending ended = ended ≡ false

  abbrev ends_then : Ending → Bool → Bool
  ends_then ending ended = is_end ending || ended

  abbrev has_ended : List Event → Bool
  has_ended events = list_any ends_thread events

  moved_so : (ending : Option Ending) (s : Bool) → moved ends_then ending s ≡ (ends_so ending || s)
  moved_so None s = refl
  moved_so (Some ending) s = refl

  swap : (a b : Bool) → (a || b) ≡ (b || a)
  swap true true = refl
  swap true false = refl
  swap false true = refl
  swap false false = refl

  ending_tells : Tells p next t MayEnd ends_then false has_ended
  ending_tells = record {
    begins = refl;
    moves = λ e es follow act same.
        let own : List Entry = entries_of (Client t.client) es in
        let woken : Option ThreadId = woken_by act.request act.reply own in
        let ending : Option Ending = ending_of (Act act.thread act.request act.reply woken) (locks_of act.thread own) in
        ends_more (events_in t own) (Act act.thread act.request act.reply woken) ∙ swap (has_ended (events_in t own)) (asks_end act.request)
        ∙ ap (λ b. b || has_ended (events_in t own)) (sym (ends_same act.request act.reply (locks_of act.thread own) (reply_listed p act.thread own act.request act.reply act.answered)))
        ∙ sym (moved_so ending (has_ended (events_in t own)));
    may = λ e es follow act same ending is.
        subst (λ v. has_ended (events_in v (entries_of (Client v.client) es)) ≡ false) (same_thread t act.thread same)
        (keeps_to p next sound es follow act.thread act.request act.asked).goes;
  }

  ended_taken : (server : List Entry) → taken_status p next t MayEnd ends_then false has_ended server ≡ is_ended t server
  ended_taken [] = refl
  ended_taken (e ∷ server) = by e.input (taken_status p next t MayEnd ends_then false has_ended server) (is_ended t server) (ended_taken server)
    where
      by : (i : Input) (a b : Bool) → a ≡ b → by_taken_up (λ c m s. stepped p next t MayEnd ends_then false has_ended m s) i a ≡ by_taken_up (ended_by t) i b
      by (input.TookUp d (up.Commit txn)) a b same = ap (λ s. cond (is_thread t txn.thread) (is_end txn.ending || s) s) same ∙ either (is_thread t txn.thread)
        where
          either : (its : Bool) → cond its (is_end txn.ending || b) b ≡ ((its && is_end txn.ending) || b)
          either true = refl
          either false = refl
      by (input.TookUp d up.IdAsk) a b same = same
      by (input.TookUp d (up.Fault o)) a b same = same
      by (input.TookUp d (up.Flushed o)) a b same = same
      by (input.TookUp d (up.Request l level)) a b same = same
      by (input.TookUp d (up.Return l threads)) a b same = same
      by i a b same = same

  pub record_goes : (es : List Entry) → AllFollow p next es → is_lost t.client (entries_of Server es) ≡ false → (txn : Txn) → txn.thread ≡ t → IsFirst (up.Commit txn) (up_in_flight t.client es) → is_ended t (counted (entries_of Server es)) ≡ false
  record_goes es follow alive txn is first = sym (ended_taken (counted (entries_of Server es))) ∙ record_comes p next t MayEnd ends_then false has_ended ending_tells es follow alive txn is first

module _ (p : Settings) (next : ThreadId → List Event → Option Request) (sound : AsksSoundly p.shape next) where
  pub own_record : (es : List Entry) → AllFollow p next es → (c : ℕ) → is_lost c (entries_of Server es) ≡ false → (txn : Txn) → IsFirst (up.Commit txn) (up_in_flight c es) → IsOwnRecord p c (counted (entries_of Server es)) txn
  own_record es follow c alive txn first =
      let its : RecordIsIts p c (up.Commit txn) = first_of (RecordIsIts p c) (up.Commit txn) (up_in_flight c es) first (own_threads p next c es follow).up in
      let client : txn.thread.client ≡ c = client_of_thread p c txn.thread its.0 in
      record {
        thread = its.0;
        going = record_goes p next sound txn.thread es follow (subst (λ d. is_lost d (entries_of Server es) ≡ false) (sym client) alive) txn refl (subst (λ d. IsFirst (up.Commit txn) (up_in_flight d es)) (sym client) first);
        woken = its.1;
      }

pub records_are_own : RecordsAreOwn
records_are_own p next sound es follow c alive txn first = own_record p next sound es follow c alive txn first

-- ---- who holds an object, it is stored

module _ (p : Settings) (next : ThreadId → List Event → Option Request) (c o : ℕ) where
  abbrev IsStoredIf : List Entry → Type 0
  IsStoredIf server = holds_object c o server ≡ true → is_some (stored p.shape o server) ≡ true

  held_message : (d : ℕ) (m : Up) (server : List Entry) → FitsUp p d m server → IsStoredIf server
      → cond (eqb c d) (held_by_message o m (holds_object c o server)) (holds_object c o server) ≡ true → published_by o m (is_some (stored p.shape o server)) ≡ true
  held_message d m server fits before held = by m (eqb c d) fits held
    where
      there : {X : Type 0} (x : Option X) → x ≢ None → is_some x ≡ true
      there None some = absurd (some refl)
      there (Some x) some = refl

      by : (m : Up) (b : Bool) → FitsUp p d m server → cond b (held_by_message o m (holds_object c o server)) (holds_object c o server) ≡ true → published_by o m (is_some (stored p.shape o server)) ≡ true
      by (up.Fault x) true fits held = if_same (eqb x o) refl held
        where
          if_same : (b : Bool) → eqb x o ≡ b → cond b true (holds_object c o server) ≡ true → is_some (stored p.shape o server) ≡ true
          if_same true same held = subst (λ n. is_some (stored p.shape n server) ≡ true) (same_number x o same) (there (stored p.shape x server) fits.0)
          if_same false other held = before held
      by (up.Fault x) false fits held = before held
      by (up.Flushed x) true fits held = if_same (eqb x o) held
        where
          if_same : (b : Bool) → cond b false (holds_object c o server) ≡ true → is_some (stored p.shape o server) ≡ true
          if_same true held = absurd (cc held)
          if_same false held = before held
      by (up.Flushed x) false fits held = before held
      by (up.Commit txn) true fits held = if_among (is_among o txn.news) held
        where
          if_among : (b : Bool) → cond b true (holds_object c o server) ≡ true → (b || is_some (stored p.shape o server)) ≡ true
          if_among true held = refl
          if_among false held = before held
      by (up.Commit txn) false fits held = right_so (is_among o txn.news) (is_some (stored p.shape o server)) (before held)
      by up.IdAsk true fits held = before held
      by up.IdAsk false fits held = before held
      by (up.Request l level) true fits held = before held
      by (up.Request l level) false fits held = before held
      by (up.Return l threads) true fits held = before held
      by (up.Return l threads) false fits held = before held

  held_input : (i : Input) (e : Entry) (all : List Entry) → e.input ≡ i → ServerStepOn p i e all → is_of_lost i all ≡ false → IsStoredIf (counted all) → IsStoredIf (e ∷ counted all)
  held_input i e all is step counts before held = subst (λ i. is_some (by_taken_up (body_by o) i (stored p.shape o (counted all))) ≡ true) (sym is)
      (by i step counts (subst (λ i. held_by c o i (holds_object c o (counted all)) ≡ true) is held))
    where
      by : (i : Input) → ServerStepOn p i e all → is_of_lost i all ≡ false → held_by c o i (holds_object c o (counted all)) ≡ true → is_some (by_taken_up (body_by o) i (stored p.shape o (counted all))) ≡ true
      by (input.TookUp d m) step counts held = stored_by_message o d m (stored p.shape o (counted all))
          ∙ held_message d m (counted all) (subst (λ b. HeardOrLost p d m b e (counted all)) counts step.heard).fits before held
      by (input.Lose d) step counts held = if_same (eqb c d) held
        where
          if_same : (b : Bool) → cond b false (holds_object c o (counted all)) ≡ true → is_some (stored p.shape o (counted all)) ≡ true
          if_same true held = absurd (cc held)
          if_same false held = before held
      by (input.Break d) step counts held = before held
      by (input.Rejoin d) step counts held = before held
      by other step counts held = absurd step

  held_counted : (b : Bool) (e : Entry) (all : List Entry) → is_of_lost e.input all ≡ b → ServerStepOn p e.input e all → IsStoredIf (counted all) → IsStoredIf (cond b (counted all) (e ∷ counted all))
  held_counted true e all counts step before = before
  held_counted false e all counts step before = held_input e.input e all refl step counts before

  held_at : (node : Node) (e : Entry) (es : List Entry) → NodeFollows p next node e es → IsStoredIf (counted (entries_of Server es)) → IsStoredIf (counted (server_with node e es))
  held_at Server e es rule before = held_counted (is_of_lost e.input (entries_of Server es)) e (entries_of Server es) refl rule.step before
  held_at (Client d) e es rule before = before

  pub held_stored : (es : List Entry) → AllFollow p next es → IsStoredIf (counted (entries_of Server es))
  held_stored [] follow = λ held. absurd (cc held)
  held_stored (e ∷ es) follow = held_at e.node e es follow.1.rule (held_stored es follow.0)

pub held_are_stored : HeldAreStored
held_are_stored p next es follow c o held none = some_none (stored p.shape o (counted (entries_of Server es))) (held_stored p next c o es follow held) none
  where
    some_none : {X : Type 0} (x : Option X) → is_some x ≡ true → x ≡ None → ⊥
    some_none None is none = cc is
    some_none (Some x) is none = cc none
