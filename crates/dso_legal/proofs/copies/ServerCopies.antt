-- A client's copies stand again after an entry of the server.
use Rattle.std.specs.List.{list_any}
use Rattle.std.proofs.Common.{ℕ, ◌≡◌, ◌≢◌, inl, inr, refl, sym, ◌∙◌, ap, subst, Bool, true, false, cond, eqb, Option, Some, None, List, [], ◌∷◌, ◌++◌, filter, length}
use Rattle.std.proofs.lemmas.List.{append_assoc, append-nil}
use Rattle.dso_base.specs.Shape.{guard_of}
use Rattle.dso_base.specs.declared.journal.Entry.{Entry}
use Rattle.dso_base.specs.declared.journal.Input.{Input}
use Rattle.dso_base.specs.declared.journal.Input.TheVariants as input
use Rattle.dso_base.specs.declared.journal.Node.TheVariants.{Server, Client}
use Rattle.dso_base.specs.declared.lock.ThreadId.{ThreadId}
use Rattle.dso_base.specs.declared.message.Down.{Down}
use Rattle.dso_base.specs.declared.message.Down.TheVariants as down
use Rattle.dso_base.specs.declared.message.Up.TheVariants as up
use Rattle.dso_base.specs.declared.record.Body.{Body}
use Rattle.dso_base.specs.declared.record.Txn.{Txn}
use Rattle.dso_base.specs.declared.request.Event.{Event}
use Rattle.dso_base.specs.declared.request.Request.{Request}
use Rattle.dso_base.specs.declared.shape.Shape.{Shape}
use Rattle.dso_base.specs.declared.value.ClassId.{ClassId}
use Rattle.dso_plain.specs.History.{RunsButMarks, end_of, last_state}
use Rattle.dso_plain.specs.StepInvariants.{PastInvariant}
use Rattle.dso_plain.specs.Possible.{IsOf}
use Rattle.dso_plain.specs.State.{PlainState, Object, IsShared, is_shared, guard_in, guard_of_object}
use Rattle.dso_plain.proofs.keys.SameKeys.{same_number, number_self}
use Rattle.dso_plain.proofs.independence.LeftAlone.{leaves_own}
use Rattle.dso_plain.proofs.loss.RunsSurvive.{left}
use Rattle.dso_plain.proofs.invariants.PastsHold.{kept_past}
use Rattle.dso_plain.proofs.invariants.PastsHold.{run_kept, pasts_grow}
use Rattle.dso_law.specs.Channels.{up_in_flight, down_in_flight}
use Rattle.dso_law.specs.Copies.{is_resident, resident_by_taken, is_set_of, value_by_sets}
use Rattle.dso_law.specs.Entries.{entries_of}
use Rattle.dso_law.specs.Leases.{standing, standing_down}
use Rattle.dso_law.specs.ServerReadings.{is_lost, is_of_lost, counted}
use Rattle.dso_law.specs.ServerStep.{sets_for, ServerStepOn}
use Rattle.dso_law.specs.Granting.{standing_with}
use Rattle.dso_law.specs.Settings.{Settings}
use Rattle.dso_law.specs.Store.{stored, holds_object}
use Rattle.dso_legal.specs.Agreement.{messages, after}
use Rattle.dso_legal.specs.AsMade.{as_made}
use Rattle.dso_legal.specs.CopiesStand.{state_at, CopiesStand}
use Rattle.dso_legal.specs.Lawful.{ServerFollows, AllFollow}
use Rattle.dso_legal.specs.PendingBlocks.{joined, pending, taken_in, records_in}
use Rattle.dso_legal.specs.Residency.{is_set}
use Rattle.dso_legal.proofs.copies.CopiesLost.{copies_lost}
use Rattle.dso_legal.proofs.line.AllStandOn.{takes, passes, unlike_lost}
use Rattle.dso_legal.proofs.line.LossTaken.{at_client_lost}
use Rattle.dso_legal.proofs.records.BothEnds.{not_lost_before, skipped_silent}
use Rattle.dso_legal.proofs.objects.BodiesHeld.{set_of_object}
use Rattle.dso_legal.proofs.blocks.BlockSteps as steps
use Rattle.dso_legal.proofs.copies.CopiesForeign.{IsForeign, copies_after_foreign}
use Rattle.dso_legal.proofs.copies.ChangesSent.{changes_down}
use Rattle.dso_legal.proofs.channels.InFlight.{told_to}
use Rattle.dso_legal.proofs.copies.CopiesGoOn.{copies_go_on}
use Rattle.dso_legal.proofs.copies.CopiesObject.{Brings, copies_after_object}
use Rattle.dso_legal.proofs.copies.FieldMoves.{apart, sets_other}
use Rattle.dso_legal.proofs.copies.ForeignRecord.{set_is_stored, set_is_held, set_is_unleased_behind}
use Rattle.dso_legal.proofs.records.HandedIn.{TakesBlock, are_records_split}
use Rattle.dso_legal.proofs.leases.LeasesInFlight.{server_rule}
use Rattle.dso_legal.proofs.line.LineParts.{line_runs}
use Rattle.dso_legal.proofs.line.LineForeign.{acts_of_other, clients_apart}
use Rattle.dso_legal.proofs.line.LineTaken.{RecordPasses}
use Rattle.dso_legal.proofs.objects.ObjectsInFlight.{ObjectSent, object_sent}
use Rattle.dso_legal.proofs.blocks.OwnThreads.{way_of_client}
use Rattle.dso_legal.proofs.objects.PrivatesTaken.{TellsRecord, tells_elsewhere, privates_taken_of}
use Rattle.dso_legal.proofs.acts.SeesAll.{AllCopies}
use Rattle.dso_legal.proofs.objects.SharedStays.{shared_stays, LeavesObject, pending_leaves}
use Rattle.dso_legal.proofs.line.StandsOn.{AllStand}
use Rattle.dso_legal.specs.Store.{IsHeapBody}
use Rattle.dso_legal.proofs.objects.StoreIsHeap.{store_is_heap}
use Rattle.dso_legal.proofs.channels.AfterEntry.{ServerTurn, server_turn}
use Rattle.dso_legal.proofs.line.LineElsewhere.{LeavesHistory, IsElsewhere, moves, stands_still}
use Rattle.dso_legal.proofs.copies.ServerMessages as messages_to
use Rattle.dso_legal.proofs.copies.ServerMessages.{IsElse, told_silent}
use Rattle.dso_legal.proofs.objects.WorksTell.{works_tell, history_kept}

-- copies of one client by what they speak of
pub moved : (p : Settings) (c : ℕ) (s r : PlainState) (ms ns : List Down) (own now : List Entry) → r ≡ s → ns ≡ ms → now ≡ own → CopiesStand p.shape c s ms own → CopiesStand p.shape c r ns now
moved p c s r ms ns own now states ways entries h =
    subst (λ x. CopiesStand p.shape c x ns now) (sym states) (subst (λ x. CopiesStand p.shape c s x now) (sym ways) (subst (λ x. CopiesStand p.shape c s ms x) (sym entries) h))

-- the guard of a field of an object of the class
guard_is : (shape : Shape) (o f : ℕ) (class : ClassId) (n : ℕ) (object : Option Object) → IsOf class n object → guard_of_object shape object o f ≡ guard_of shape class o f
guard_is shape o f class n None is = absurd is
guard_is shape o f class n (Some object) is = ap (λ x. guard_of shape x o f) is.0

module _ (p : Settings) (next : ThreadId → List Event → Option Request) (e : Entry) (es : List Entry) (follow : AllFollow p next (e ∷ es)) (stand : AllStand p es) (copies : AllCopies p es) (at : e.node ≡ Server) (c : ℕ) (alive_now : is_lost c (entries_of Server (e ∷ es)) ≡ false) where
  rule : ServerFollows p next e es
  rule = server_rule p next e es at follow.1

  alive : is_lost c (entries_of Server es) ≡ false
  alive = not_lost_before c e.node e es alive_now

  -- its copies before
  before : CopiesStand p.shape c (state_at p c es) (messages (down_in_flight c es)) (entries_of (Client c) es)
  before = copies c alive

  turn : ServerTurn c e es
  turn = server_turn c e es at

  abbrev own : List Entry
  own = entries_of (Client c) es

  abbrev ms : List Down
  ms = messages (down_in_flight c es)

  abbrev s : PlainState
  s = state_at p c es

  abbrev history_state : PlainState
  history_state = last_state p.shape (as_made es)

  -- the client's blocks in flight run
  pends : RunsButMarks p.shape (joined (pending c es)) history_state
  pends = line_runs p.shape c (messages (up_in_flight c es)) (pending c es) (λ l. standing_with c l (counted (entries_of Server es))) history_state (stand.lines c alive).line

  kept_here : PastInvariant s
  kept_here = run_kept p.shape (joined (pending c es)) history_state pends (history_kept p.shape (as_made es) stand.runs)

  -- what is told speaks of no object, and the state stays
  silent_copies : IsElse c e.input → state_at p c (e ∷ es) ≡ s → CopiesStand p.shape c (state_at p c (e ∷ es)) (messages (down_in_flight c (e ∷ es))) (entries_of (Client c) (e ∷ es))
  silent_copies quiet same = moved p c s (state_at p c (e ∷ es)) (ms ++ told_to c e.sent) (messages (down_in_flight c (e ∷ es))) own (entries_of (Client c) (e ∷ es)) same turn.down turn.own
      (copies_go_on p.shape c s ms (told_to c e.sent) own (told_silent p next c e es follow.0 rule quiet) before)

  -- the state stays where the input leaves the history
  still : LeavesHistory e.input es → state_at p c (e ∷ es) ≡ s
  still leaves = (stands_still p c e es (subst (λ node. IsElsewhere c node e.input es) (sym at) leaves)).state

  -- a message of a lost client is answered by nothing
  skipped_copies : is_of_lost e.input (entries_of Server es) ≡ true → CopiesStand p.shape c (state_at p c (e ∷ es)) (messages (down_in_flight c (e ∷ es))) (entries_of (Client c) (e ∷ es))
  skipped_copies skipped = moved p c s (state_at p c (e ∷ es)) ms (messages (down_in_flight c (e ∷ es))) own (entries_of (Client c) (e ∷ es)) (still (inl skipped))
      (turn.down ∙ ap (λ out. ms ++ told_to c out) (skipped_silent p e (entries_of Server es) e.input rule.step skipped) ∙ append-nil ms) turn.own before

  -- the server sends the object that the client asked for
  module _ (o : ℕ) (asks : e.input ≡ input.TookUp c (up.Fault o)) where
    sent : ObjectSent p c o e es
    sent = object_sent p next c o e es follow.0 alive rule asks

    heap_body : IsHeapBody o sent.body history_state
    heap_body = (store_is_heap works_tell p next es follow.0 stand.runs o).each sent.body sent.is_stored

    leaves : LeavesObject o history_state s
    leaves = pending_leaves p.shape c o (taken_in c es) (records_in (messages (up_in_flight c es))) (pending c es) (as_made es) stand.runs pends (are_records_split p next c es follow.0 alive) (way_of_client p next c es follow.0 alive)
        (λ t its. privates_taken_of works_tell p next t c its es follow.0 alive stand.runs) sent.untouched heap_body.shared

    brings_it : Brings c sent.body s ms own
    brings_it = record {
      past = kept_past s kept_here;
      away = ap (λ x. after (resident_by_taken x) ms (is_resident x own)) sent.its ∙ sent.absent;
      shared = subst (λ x. IsShared x s) (sym sent.its) (ap is_shared leaves.object ∙ heap_body.shared);
      class = subst (λ x. IsOf sent.body.class (length sent.body.values) (s.objects x)) (sym sent.its) (subst (IsOf sent.body.class (length sent.body.values)) (sym leaves.object) heap_body.class);
      values = λ f. ap (λ x. s.heap (x, f)) sent.its ∙ (leaves.heap f ∙ heap_body.values f);
    }

    object_copies : CopiesStand p.shape c (state_at p c (e ∷ es)) (messages (down_in_flight c (e ∷ es))) (entries_of (Client c) (e ∷ es))
    object_copies = moved p c s (state_at p c (e ∷ es)) (ms ++ down.Object sent.body ∷ []) (messages (down_in_flight c (e ∷ es))) own (entries_of (Client c) (e ∷ es))
        (still (inr (ap moves asks))) (turn.down ∙ ap (λ more. ms ++ more) sent.tells) turn.own
        (copies_after_object p.shape c sent.body s ms own brings_it before)

  -- the server takes a record of a client that isn't lost
  module _ (d : ℕ) (txn : Txn) (took : e.input ≡ input.TookUp d (up.Commit txn)) (alive_then : is_lost d (entries_of Server es) ≡ false) where
    abbrev taken : TakesBlock p d txn e es
    taken = takes p next e es follow stand at d txn took alive_then

    -- of the client itself
    own_record : c ≡ d → CopiesStand p.shape c (state_at p c (e ∷ es)) (messages (down_in_flight c (e ∷ es))) (entries_of (Client c) (e ∷ es))
    own_record same = silent_copies (subst (IsElse c) (sym took) (subst (λ n. eqb c n ≡ true) same (number_self c)))
        (subst (λ n. state_at p n (e ∷ es) ≡ state_at p n es) (sym same) (steps.state_taken p next d es follow.0 alive_then e follow.1 txn taken))

    -- of another client
    module _ (other : eqb c d ≡ false) where
      passed : RecordPasses p c txn taken.block e es
      passed = passes p next e es follow stand at d txn took alive_then c other alive

      abbrev r : PlainState
      r = end_of p.shape taken.block s

      apart_too : eqb d c ≡ false
      apart_too = by (eqb d c) refl
        where
          by : (b : Bool) → eqb d c ≡ b → eqb d c ≡ false
          by true same = absurd (apart (subst (λ n. eqb c n ≡ true) (sym (same_number d c same)) (number_self c)) other)
          by false unlike = unlike

      tells : TellsRecord txn s r
      tells = tells_elsewhere works_tell p next es follow.0 stand.runs e follow.1 d alive_then txn taken c apart_too alive pends passed.runs

      -- where the record sets a field of a shared object, its guard isn't leased to the client
      unleased : (o f : ℕ) → IsShared o s → value_by_sets o f tells.work.sets None ≢ None → (after (standing_down (guard_in p.shape s o f)) ms (standing (guard_in p.shape s o f) own)).lease ≡ None
      unleased o f shared gives = by (list_any (is_set_of o f) tells.work.sets) refl
        where
          from_body : list_any (is_set_of o f) tells.work.sets ≡ true → (body : Body) → stored p.shape o (counted (entries_of Server es)) ≡ Some body → (after (standing_down (guard_in p.shape s o f)) ms (standing (guard_in p.shape s o f) own)).lease ≡ None
          from_body set body is = subst (λ l. (after (standing_down l) ms (standing l own)).lease ≡ None) (sym guard) (set_is_unleased_behind p next d txn e es follow.0 rule took alive_then c alive apart_too o f body is (subst (λ sets. list_any (is_set_of o f) sets ≡ true) tells.sets set))
            where
              heap_body : IsHeapBody o body history_state
              heap_body = (store_is_heap works_tell p next es follow.0 stand.runs o).each body is

              guard : guard_in p.shape s o f ≡ guard_of p.shape body.class o f
              guard = ap (λ object. guard_of_object p.shape object o f) (shared_stays p.shape (joined (pending c es)) history_state o pends heap_body.shared) ∙ guard_is p.shape o f body.class (length body.values) (history_state.objects o) heap_body.class

          there : list_any (is_set_of o f) tells.work.sets ≡ true → (body : Option Body) → stored p.shape o (counted (entries_of Server es)) ≡ body → (after (standing_down (guard_in p.shape s o f)) ms (standing (guard_in p.shape s o f) own)).lease ≡ None
          there set None is = absurd (set_is_stored p next d txn e es follow.0 rule took alive_then o (subst (λ sets. is_set o sets ≡ true) tells.sets (set_of_object o f tells.work.sets set)) is)
          there set (Some body) is = from_body set body is

          by : (b : Bool) → list_any (is_set_of o f) tells.work.sets ≡ b → (after (standing_down (guard_in p.shape s o f)) ms (standing (guard_in p.shape s o f) own)).lease ≡ None
          by true set = there set (stored p.shape o (counted (entries_of Server es))) refl
          by false set = absurd (gives (sets_other o f tells.work.sets None set))

      foreign : IsForeign p.shape c txn.thread tells.work (λ o. holds_object c o (counted (entries_of Server es))) s r ms own
      foreign = record {
        past = kept_past r (run_kept p.shape taken.block s passed.runs kept_here);
        tells = tells.tells;
        grows = pasts_grow p.shape taken.block s passed.runs;
        seen = λ t o f its. (leaves_own p.shape t taken.block s passed.runs (acts_of_other t txn.thread taken.block (clients_apart c t txn.thread its passed.other) passed.acts)).seen o f;
        held = λ o f set here. set_is_held p next d txn e es follow.0 rule took alive_then c alive o (subst (λ sets. is_set o sets ≡ true) tells.sets (set_of_object o f tells.work.sets set)) here;
        unleased = unleased;
      }

      -- what it is told: the changes, and then who is woken
      told : messages_to.TellsRecord c d txn (counted (entries_of Server es)) (told_to c e.sent)
      told = messages_to.record_is_told p next c e es follow.0 rule d txn took alive_then

      abbrev changes : List Down
      changes = changes_down (filter (λ set. holds_object c set.object (counted (entries_of Server es))) tells.work.sets)

      sends : told_to c e.sent ≡ changes ++ told.woken
      sends = told.tells ∙ ap (λ ms. ms ++ told.woken) (ap (λ b. cond b (down.Ack txn.seq ∷ []) (changes_down (sets_for c txn (counted (entries_of Server es))))) other
          ∙ ap (λ sets. changes_down (filter (λ set. holds_object c set.object (counted (entries_of Server es))) sets)) (sym tells.sets))

      foreign_copies : CopiesStand p.shape c (state_at p c (e ∷ es)) (messages (down_in_flight c (e ∷ es))) (entries_of (Client c) (e ∷ es))
      foreign_copies = moved p c r (state_at p c (e ∷ es)) ((ms ++ changes) ++ told.woken) (messages (down_in_flight c (e ∷ es))) own (entries_of (Client c) (e ∷ es))
          passed.state (turn.down ∙ ap (λ more. ms ++ more) sends ∙ sym (append_assoc ms changes told.woken)) turn.own
          (copies_go_on p.shape c r (ms ++ changes) told.woken own (messages_to.each_so messages_to.wake_silent told.woken told.wake)
          (copies_after_foreign p.shape c txn.thread tells.work (λ o. holds_object c o (counted (entries_of Server es))) s r ms own foreign before))

  -- the server loses a client: what it tells others is of leases
  loss_copies : (d : ℕ) → e.input ≡ input.Lose d → CopiesStand p.shape c (state_at p c (e ∷ es)) (messages (down_in_flight c (e ∷ es))) (entries_of (Client c) (e ∷ es))
  loss_copies d lose = moved p c (left d s) (state_at p c (e ∷ es)) (ms ++ told_to c e.sent) (messages (down_in_flight c (e ∷ es))) own (entries_of (Client c) (e ∷ es))
      (at_client_lost p next e es follow at d lose c (unlike_lost p next e es follow stand at d lose (subst (λ i. ServerStepOn p i e (entries_of Server es)) lose rule.step).due c alive_now) (stand.lines c alive).line) turn.down turn.own
      (copies_go_on p.shape c (left d s) ms (told_to c e.sent) own (told_silent p next c e es follow.0 rule (subst (IsElse c) (sym lose) tt)) (copies_lost c d s p.shape ms own before))

  -- The copies stand again.
  server_by : (i : Input) → e.input ≡ i → CopiesStand p.shape c (state_at p c (e ∷ es)) (messages (down_in_flight c (e ∷ es))) (entries_of (Client c) (e ∷ es))
  server_by (input.TookUp d (up.Commit txn)) took = of_lost (is_lost d (entries_of Server es)) refl
    where
      by : is_lost d (entries_of Server es) ≡ false → (b : Bool) → eqb c d ≡ b → CopiesStand p.shape c (state_at p c (e ∷ es)) (messages (down_in_flight c (e ∷ es))) (entries_of (Client c) (e ∷ es))
      by alive_then true same = own_record d txn took alive_then (same_number c d same)
      by alive_then false other = foreign_copies d txn took alive_then other

      of_lost : (b : Bool) → is_lost d (entries_of Server es) ≡ b → CopiesStand p.shape c (state_at p c (e ∷ es)) (messages (down_in_flight c (e ∷ es))) (entries_of (Client c) (e ∷ es))
      of_lost true lost = skipped_copies (ap (λ i. is_of_lost i (entries_of Server es)) took ∙ lost)
      of_lost false alive_then = by alive_then (eqb c d) refl
  server_by (input.TookUp d (up.Fault o)) took = by (eqb c d) refl
    where
      by : (b : Bool) → eqb c d ≡ b → CopiesStand p.shape c (state_at p c (e ∷ es)) (messages (down_in_flight c (e ∷ es))) (entries_of (Client c) (e ∷ es))
      by true same = object_copies o (took ∙ ap (λ n. input.TookUp n (up.Fault o)) (sym (same_number c d same)))
      by false other = silent_copies (subst (IsElse c) (sym took) other) (still (inr (ap moves took)))
  server_by (input.Lose d) took = loss_copies d took
  server_by i took = silent_copies (subst (IsElse c) (sym took) tt) (still (inr (ap moves took)))

  pub server_copies : CopiesStand p.shape c (state_at p c (e ∷ es)) (messages (down_in_flight c (e ∷ es))) (entries_of (Client c) (e ∷ es))
  server_copies = server_by e.input refl
