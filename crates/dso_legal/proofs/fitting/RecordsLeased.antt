-- Records are leased: a record is sent while its locks are leased, and comes before they are given back.
use Rattle.std.specs.List.{AllByRecursion}
use Rattle.std.proofs.Common.{Bool, List, None, Option, Some, [], ap, cond, false, inl, inr, length, refl, subst, sym, true, ℕ, ◌++◌, ◌∙◌, ◌∷◌, ◌≡◌, ◌≢◌, ◌⊎◌}
use Rattle.dso_base.specs.Block.{Work, start, work_after, worked}
use Rattle.dso_base.specs.Shape.{guard_of}
use Rattle.dso_base.specs.declared.journal.Entry.{Entry}
use Rattle.dso_base.specs.declared.journal.Input.{Input}
use Rattle.dso_base.specs.declared.journal.Input.TheVariants as input
use Rattle.dso_base.specs.declared.journal.Node.TheVariants.{Client, Server}
use Rattle.dso_base.specs.declared.lock.Level.{Level}
use Rattle.dso_base.specs.declared.lock.Level.TheVariants.{Read, Write}
use Rattle.dso_base.specs.declared.lock.LockName.{LockName}
use Rattle.dso_base.specs.declared.lock.ThreadId.{ThreadId}
use Rattle.dso_base.specs.declared.message.Down.{Down}
use Rattle.dso_base.specs.declared.message.Down.TheVariants as down
use Rattle.dso_base.specs.declared.message.Up.{Up}
use Rattle.dso_base.specs.declared.message.Up.TheVariants as up
use Rattle.dso_base.specs.declared.record.Body.{Body}
use Rattle.dso_base.specs.declared.record.Ending.{Ending}
use Rattle.dso_base.specs.declared.record.Ending.TheVariants as ending
use Rattle.dso_base.specs.declared.record.Note.{Note}
use Rattle.dso_base.specs.declared.record.Set.{Set}
use Rattle.dso_base.specs.declared.record.Txn.{Txn}
use Rattle.dso_base.specs.declared.request.Event.{Event}
use Rattle.dso_base.specs.declared.request.Event.TheVariants.{Act}
use Rattle.dso_base.specs.declared.request.Reply.{Reply}
use Rattle.dso_base.specs.declared.request.Reply.TheVariants.{Done}
use Rattle.dso_base.specs.declared.request.Request.{Request}
use Rattle.dso_base.specs.declared.request.Request.TheVariants.{End, Exit, Timeout, Wait}
use Rattle.dso_base.specs.declared.shape.Shape.{Shape}
use Rattle.dso_base.specs.declared.value.ClassId.{ClassId}
use Rattle.dso_plain.specs.After.{exited}
use Rattle.dso_plain.specs.KeyTests.{is_lock}
use Rattle.dso_plain.specs.State.{Hold}
use Rattle.dso_plain.proofs.keys.SameKeys.{same_lock}
use Rattle.dso_law.specs.Channels.{IsFirst, up_in_flight}
use Rattle.dso_law.specs.ClientStep.{ClientStepOn, commits, record_of}
use Rattle.dso_law.specs.Entries.{by_taken_down, entries_of, events_in}
use Rattle.dso_law.specs.Granting.{leased_to, standing_with}
use Rattle.dso_law.specs.Leases.{leased, standing, standing_down, standing_up}
use Rattle.dso_law.specs.Replies.{reply_of, woken_by}
use Rattle.dso_law.specs.RequestNeeds.{hold_level, is_enough}
use Rattle.dso_law.specs.ServerReadings.{counted, is_lost}
use Rattle.dso_law.specs.Settings.{Settings}
use Rattle.dso_law.specs.Store.{stored}
use Rattle.dso_law.specs.Threads.{ending_by, ending_of, exit_ending, hold_of, locks_of, open_block, privates_before, work_of}
use Rattle.dso_law.specs.declared.readings.LockStanding.{LockStanding}
use Rattle.dso_legal.specs.Agreement.{EachMay, after}
use Rattle.dso_legal.specs.ClassesKept.{class_made}
use Rattle.dso_legal.specs.Lawful.{AllFollow, ClientFollows, next_after}
use Rattle.dso_legal.specs.RecordsLeased.{IsEndingLeased, IsGuardLeased, IsNoteLeased, IsRecordLeased, RecordsAreLeased}
use Rattle.dso_legal.specs.SoundProgram.{GivesKnownTexts, AsksSoundly, KeepsLocks}
use Rattle.dso_legal.specs.Tokens.{MayGoDown, MayGoUp}
use Rattle.dso_legal.specs.WithinShape.{StaysWithinShape}
use Rattle.dso_legal.proofs.acts.ClientActs.{IsNoRecord, IsQuiet, NoRecords}
use Rattle.dso_legal.proofs.blocks.OwnActs.{IsNextAct}
use Rattle.dso_legal.proofs.blocks.SameLocks.{same_locks}
use Rattle.dso_legal.proofs.channels.Agreement.{Commutes, may_append}
use Rattle.dso_legal.proofs.channels.InFlight.{said_of}
use Rattle.dso_legal.proofs.fitting.Acting.{Acts, quiet_or_acts}
use Rattle.dso_legal.proofs.fitting.Carried.{C}
use Rattle.dso_legal.proofs.fitting.ClassesMade.{class_stays}
use Rattle.dso_legal.proofs.fitting.GuardsHeld.{IsHeldToWrite, IsNoteHeld, IsSetHeld, IsWorkHeld, all_held, done_at_write, later_held}
use Rattle.dso_legal.proofs.fitting.InHand.{each_so}
use Rattle.dso_legal.proofs.fitting.Messages.{StoredHas}
use Rattle.dso_legal.proofs.fitting.Values.{Asked, F, V, all_fine, same_pair, what_is_asked}
use Rattle.dso_legal.proofs.leases.Holds.{enough_there, holds_well}
use Rattle.dso_legal.proofs.leases.LeaseSteps.{lock_commutes}
use Rattle.dso_legal.proofs.leases.Queues.{lock_self}
use Rattle.dso_legal.proofs.leases.Tokens.{at_server, known, says}
use Rattle.dso_legal.proofs.objects.OwnObjects.{worked_more}
use Rattle.dso_legal.proofs.records.BothEnds.{AgreeAt, EndsAt, agree_after, first_may_up, not_lost_before}

-- ---- levels

-- what is enough to write is Write
enough_to_write : (lease : Option Level) → is_enough Write lease ≡ true → lease ≡ Some Write
enough_to_write None enough = absurd (cc enough)
enough_to_write (Some Write) enough = refl
enough_to_write (Some Read) enough = absurd (cc enough)

-- what is enough for a level is enough to read
enough_to_read : (level : Level) (lease : Option Level) → is_enough level lease ≡ true → is_enough Read lease ≡ true
enough_to_read level None enough = absurd (enough_there level None enough refl)
enough_to_read level (Some lease) enough = refl

-- two facts of each message where it comes
pub each_both : {M S : Type 0} (P Q : M → S → Type 0) (step : M → S → S) (ms : List M) (s : S) → EachMay P step ms s → EachMay Q step ms s → EachMay (λ m s. P m s × Q m s) step ms s
each_both P Q step [] s h k = tt
each_both P Q step (m ∷ ms) s h k = ((h.0, k.0), each_both P Q step ms (step m s) h.1 k.1)

-- ---- one lock

-- which class and size each object was made with is said; it is the one lock's standing that is spoken of
module _ (made : ℕ → Option (ClassId × ℕ)) (shape : Shape) (l : LockName) where
  -- where the lock is this one, it is leased at the level
  abbrev IsLeasedFor : LockStanding → LockName → Level → Type 0
  IsLeasedFor s k level = is_lock l k ≡ true → is_enough level s.lease ≡ true

  abbrev IsSetLeased : LockStanding → Set → Type 0
  IsSetLeased s set = (class : ClassId × ℕ) → made set.object ≡ Some class → IsLeasedFor s (guard_of shape class.0 set.object set.field) Write

  abbrev IsNoteOfLease : LockStanding → Note → Type 0
  IsNoteOfLease s note = IsLeasedFor s note.lock Write

  abbrev IsEndingOfLease : LockStanding → Ending → Type 0
  IsEndingOfLease s (ending.Exit k) = IsLeasedFor s k Read
  IsEndingOfLease s (ending.Wait k) = IsLeasedFor s k Write
  IsEndingOfLease s other = Unit {0}

  record IsOfLease (s : LockStanding) (txn : Txn) : Type 0 where
    pub sets : AllByRecursion (IsSetLeased s) txn.sets
    pub notes : AllByRecursion (IsNoteOfLease s) txn.notes
    pub ending : IsEndingOfLease s txn.ending

  -- a record may come where all that it names is leased so
  abbrev MayCommit : Up → LockStanding → Type 0
  MayCommit (up.Commit txn) s = IsOfLease s txn
  MayCommit m s = Unit {0}

  abbrev MayGoLeased : Up → LockStanding → Type 0
  MayGoLeased m s = MayGoUp l m s × MayCommit m s

  ending_on : (s x : LockStanding) (ending : Ending) → ((k : LockName) (level : Level) → IsLeasedFor s k level → IsLeasedFor x k level) → IsEndingOfLease s ending → IsEndingOfLease x ending
  ending_on s x (ending.Exit k) on h = on k Read h
  ending_on s x (ending.Wait k) on h = on k Write h
  ending_on s x other on h = tt

  -- so it may where all that is leased in one standing is in the other
  commit_on : (m : Up) (s x : LockStanding) → ((k : LockName) (level : Level) → IsLeasedFor s k level → IsLeasedFor x k level) → MayCommit m s → MayCommit m x
  commit_on (up.Commit txn) s x on h = record {
    sets = each_so (IsSetLeased s) (IsSetLeased x) (λ set it class is. on (guard_of shape class.0 set.object set.field) Write (it class is)) txn.sets h.sets;
    notes = each_so (IsNoteOfLease s) (IsNoteOfLease x) (λ note it. on note.lock Write it) txn.notes h.notes;
    ending = ending_on s x txn.ending on h.ending;
  }
  commit_on m s x on h = tt

  -- a grant comes only where there is no lease, where the record doesn't name the lock
  commit_later : (m : Up) (d : Down) (s : LockStanding) → MayCommit m s → MayGoDown l d s → MayCommit m (standing_down l d s)
  commit_later m (down.Grant k level) s h may = by (is_lock l k) refl
    where
      by : (b : Bool) → is_lock l k ≡ b → MayCommit m (cond b (record { lease = Some level; is_asked = false }) s)
      by true is = commit_on m s (record { lease = Some level; is_asked = false })
          (λ j x leased here. absurd (enough_there x s.lease (leased here) (ap (λ (s : LockStanding). s.lease) (may is)))) h
      by false is = h
  commit_later m d s h may = h

  leased_commutes : Commutes MayGoLeased (standing_up l) (MayGoDown l) (standing_down l)
  leased_commutes m d s up down =
      let base = lock_commutes l m d s up.0 down in
      record { down_later = base.down_later; up_later = (base.up_later, commit_later m d s up.1 down); same = base.same }

  -- messages that are no records
  none_commit : (ms : List Up) (s : LockStanding) → NoRecords ms → EachMay MayCommit (standing_up l) ms s
  none_commit [] s none = tt
  none_commit (m ∷ ms) s none = (one m none.0, none_commit ms (standing_up l m s) none.1)
    where
      one : (m : Up) → IsNoRecord m → MayCommit m s
      one (up.Commit txn) none = absurd none
      one m none = tt

-- ---- the client's end

module _ (p : Settings) (next : ThreadId → List Event → Option Request) where
  -- the class that is said of each object is the one with which it was made
  abbrev Says : (ℕ → Option (ClassId × ℕ)) → List Entry → Type 0
  Says made es = (o : ℕ) (class : ClassId × ℕ) → class_made p.shape o es ≡ Some class → made o ≡ Some class

  says_before : (made : ℕ → Option (ClassId × ℕ)) (e : Entry) (es : List Entry) → AllFollow p next (e ∷ es) → Says made (e ∷ es) → Says made es
  says_before made e es follow says o class is = says o class (class_stays p.shape p next e es follow o class is)

  -- an entry that has an event takes no message in
  untaken : {S : Type 0} (step : Down → S → S) (c : ℕ) (before after_it : ThreadId → Option Request) (e : Entry) (own_entries : List Entry) (i : Input) (s : S) (event : Event)
      → ClientStepOn p c i before after_it e own_entries → e.event ≡ Some event → by_taken_down step i s ≡ s
  untaken step c before after_it e own_entries (input.TookDown m) s event rule is = absurd (some_none (sym rule.event ∙ is))
    where
      some_none : None ≡ Some event → ⊥
      some_none is = cc is
  untaken step c before after_it e own_entries i s event rule is = refl

  module _ (sound : AsksSoundly p.shape next) (texts : GivesKnownTexts p.shape next) (within : StaysWithinShape p.shape next) where
    module _ (made : ℕ → Option (ClassId × ℕ)) (l : LockName) (e : Entry) (es : List Entry) (follow : AllFollow p next (e ∷ es)) (says : Says made es) (c : ℕ) where
      abbrev mine : List Entry
      mine = entries_of (Client c) es

      -- a lock that is held is leased
      held_leased : (t : ThreadId) (k : LockName) → IsHeldToWrite (locks_of t mine) k → IsLeasedFor made p.shape l (standing l mine) k Write
      held_leased t k held is = subst (λ j. is_enough Write (leased j mine) ≡ true) (same_lock l k is) (by (hold_of t k mine) refl held)
        where
          by : (hold : Option Hold) → hold_of t k mine ≡ hold → hold_level hold ≡ Some Write → is_enough Write (leased k mine) ≡ true
          by None there held = absurd (cc held)
          by (Some hold) there held =
              let write : hold.level ≡ Write = cc held in
              subst (λ level. is_enough level (leased k mine) ≡ true) write ((holds_well p next es follow.0 c).within t k hold there).enough

      some_leased : (t : ThreadId) (k : LockName) → hold_of t k mine ≢ None → IsLeasedFor made p.shape l (standing l mine) k Read
      some_leased t k held is = subst (λ j. is_enough Read (leased j mine) ≡ true) (same_lock l k is) (by (hold_of t k mine) refl)
        where
          by : (hold : Option Hold) → hold_of t k mine ≡ hold → is_enough Read (leased k mine) ≡ true
          by None none = absurd (held none)
          by (Some hold) there = enough_to_read hold.level (leased k mine) ((holds_well p next es follow.0 c).within t k hold there).enough

      module _ (act : IsNextAct p c (next_after next es) e mine) where
        abbrev event : Event
        event = Act act.thread act.request act.reply (woken_by act.request act.reply mine)

        -- the thread leaves only what it holds
        keeps_locks : KeepsLocks act.request (locks_of act.thread mine)
        keeps_locks =
            let asked : Asked p next act.thread (events_in act.thread (entries_of (Client act.thread.client) es)) act.request =
            what_is_asked p next sound texts within es follow.0 (all_fine p next sound texts within es follow.0) act.thread act.request act.asked in
            subst (λ d. KeepsLocks act.request (locks_of act.thread (entries_of (Client d) es))) act.its
            (subst (KeepsLocks act.request) (sym (same_locks act.thread (entries_of (Client act.thread.client) es))) asked.keeps.locks)

        ending_leased : (request : Request) (reply : Reply) (last : Ending) → reply_of p act.thread request mine ≡ Some reply → KeepsLocks request (locks_of act.thread mine)
            → ending_by request reply (locks_of act.thread mine) ≡ Some last → IsEndingOfLease made p.shape l (standing l mine) last
        ending_leased (Exit k) Done last answered keeps is = by (exited (hold_of act.thread k mine)) is
          where
            by : (left : Option Hold) → exit_ending k left ≡ Some last → IsEndingOfLease made p.shape l (standing l mine) last
            by None is =
                let same : ending.Exit k ≡ last = cc is in
                subst (IsEndingOfLease made p.shape l (standing l mine)) same (some_leased act.thread k keeps)
            by (Some hold) is = absurd (cc is)
        ending_leased (Wait k) Done last answered keeps is =
            let same : ending.Wait k ≡ last = cc is in
            subst (IsEndingOfLease made p.shape l (standing l mine)) same (held_leased act.thread k (done_at_write (hold_level (hold_of act.thread k mine)) answered))
        ending_leased (Timeout k) Done last answered keeps is =
            let same : ending.Timeout k ≡ last = cc is in
            subst (IsEndingOfLease made p.shape l (standing l mine)) same tt
        ending_leased (End fault) Done last answered keeps is =
            let same : ending.End fault ≡ last = cc is in
            subst (IsEndingOfLease made p.shape l (standing l mine)) same tt
        ending_leased request reply last answered keeps is = absurd (cc is)

        set_leased : (set : Set) → IsSetHeld p.shape es (locks_of act.thread mine) set → IsSetLeased made p.shape l (standing l mine) set
        set_leased set it class is =
            let same = same_pair (it.class, it.size) class (sym (says set.object (it.class, it.size) it.made) ∙ is) in
            subst (λ named. IsLeasedFor made p.shape l (standing l mine) (guard_of p.shape named set.object set.field) Write) same.0
            (held_leased act.thread (guard_of p.shape it.class set.object set.field) it.held)

        record_leased : (ending : Option Ending) → ending_of event (locks_of act.thread mine) ≡ ending → EachMay (MayCommit made p.shape l) (standing_up l) (record_of p act.thread event ending mine) (standing l mine)
        record_leased None is = tt
        record_leased (Some ending) is =
            let work : Work = work_after p.shape event (work_of p.shape act.thread mine) in
            let held : IsWorkHeld p.shape es (locks_of act.thread mine) work = later_held p next sound texts within e es follow c (all_held p next sound texts within es follow.0 c) act in
            let whole : IsWorkHeld p.shape es (locks_of act.thread mine) (worked p.shape (open_block act.thread mine ++ event ∷ []) (start (privates_before p.shape act.thread mine))) =
            subst (IsWorkHeld p.shape es (locks_of act.thread mine)) (sym (worked_more p.shape (open_block act.thread mine) event (start (privates_before p.shape act.thread mine)))) held in (
              record {
                sets = each_so (IsSetHeld p.shape es (locks_of act.thread mine)) (IsSetLeased made p.shape l (standing l mine)) set_leased
                    (worked p.shape (open_block act.thread mine ++ event ∷ []) (start (privates_before p.shape act.thread mine))).sets whole.sets;
                notes = each_so (IsNoteHeld p.shape (locks_of act.thread mine)) (IsNoteOfLease made p.shape l (standing l mine)) (λ note it. held_leased act.thread note.lock it)
                    (worked p.shape (open_block act.thread mine ++ event ∷ []) (start (privates_before p.shape act.thread mine))).notes whole.notes;
                ending = ending_leased act.request act.reply ending act.answered keeps_locks is;
              },
              tt,
            )

      -- what the client's entry says
      said_leased : ClientFollows p next c e es → EachMay (MayCommit made p.shape l) (standing_up l) (said_of e.sent) (by_taken_down (standing_down l) e.input (standing l mine))
      said_leased rule = by (quiet_or_acts p c (next_after next es) (next_after next (e ∷ es)) e mine rule.step)
        where
          by : IsQuiet e ⊎ Acts p c (next_after next es) e mine → EachMay (MayCommit made p.shape l) (standing_up l) (said_of e.sent) (by_taken_down (standing_down l) e.input (standing l mine))
          by (inl quiet) = none_commit made p.shape l (said_of e.sent) (by_taken_down (standing_down l) e.input (standing l mine)) quiet.no_records
          by (inr acts) =
              let first : List Up = commits p acts.act.thread (event acts.act) mine in
              subst (EachMay (MayCommit made p.shape l) (standing_up l) (said_of e.sent)) (sym (untaken (standing_down l) c (next_after next es) (next_after next (e ∷ es)) e mine e.input (standing l mine) _ rule.step acts.act.event))
              (subst (λ ms. EachMay (MayCommit made p.shape l) (standing_up l) ms (standing l mine)) (sym acts.whole)
              (may_append (MayCommit made p.shape l) (standing_up l) first acts.rest (standing l mine) (record_leased acts.act (ending_of (event acts.act) (locks_of acts.act.thread mine)) refl)
              (none_commit made p.shape l acts.rest (after (standing_up l) first (standing l mine)) acts.no_records)))

    -- ---- both ends

    module _ (made : ℕ → Option (ClassId × ℕ)) (c : ℕ) (l : LockName) where
      abbrev AgreeLeased : List Entry → Type 0
      AgreeLeased es = AgreeAt p next c (MayGoLeased made p.shape l) (standing_up l) (MayGoDown l) (standing_down l) (standing l) (standing_with c l) es

      ends : (e : Entry) (es : List Entry) → AllFollow p next (e ∷ es) → Says made es → EndsAt p next c (MayGoLeased made p.shape l) (standing_up l) (MayGoDown l) (standing_down l) (standing l) (standing_with c l) e es
      ends e es follow said = record {
        at_client = λ first rule. record {
          comes = each_both (MayGoUp l) (MayCommit made p.shape l) (standing_up l) (said_of e.sent) (by_taken_down (standing_down l) e.input (standing l (entries_of (Client c) es)))
              (says p next e es c l (known p next es follow.0) rule).comes (said_leased made l e es follow said c rule);
          reads = refl;
        };
        at_server = λ first rule counts stays.
            let end = at_server p next c l e es follow.0 rule counts stays in
            record { comes = end.comes; reads = end.reads };
      }

      leased_agree : (es : List Entry) → AllFollow p next es → is_lost c (entries_of Server es) ≡ false → Says made es → AgreeLeased es
      leased_agree [] follow alive said = record { ups = tt; downs = tt; meet = refl }
      leased_agree (e ∷ es) follow alive said =
          let before : Says made es = says_before made e es follow said in
          agree_after p next c (MayGoLeased made p.shape l) (standing_up l) (MayGoDown l) (standing_down l) (standing l) (standing_with c l) (leased_commutes made p.shape l) e es
          (ends e es follow before) e.node follow.1.channels follow.1.rule alive (leased_agree es follow.0 (not_lost_before c e.node e es alive) before)

    -- ---- in the words of the law

    module _ (es : List Entry) (follow : AllFollow p next es) (c : ℕ) (alive : is_lost c (entries_of Server es) ≡ false) (txn : Txn) (first : IsFirst (up.Commit txn) (up_in_flight c es)) where
      abbrev server : List Entry
      server = counted (entries_of Server es)

      abbrev class_of : ℕ → Option (ClassId × ℕ)
      class_of o = class_made p.shape o es

      comes : (l : LockName) → IsOfLease class_of p.shape l (standing_with c l server) txn
      comes l = (first_may_up p next c (MayGoLeased class_of p.shape l) (standing_up l) (MayGoDown l) (standing_down l) (standing l) (standing_with c l) es
          (leased_agree class_of c l es follow alive (λ o class is. is)) (up.Commit txn) first).1

      stored_class : (o : ℕ) (body : Body) → stored p.shape o server ≡ Some body → class_made p.shape o es ≡ Some (body.class, length body.values)
      stored_class o body is = by (stored p.shape o server) ((all_fine p next sound texts within es follow).graph o) is
        where
          by : (at : Option Body) → StoredHas (C p next (F p next) (V p next) (V p next) es) (F p next es) (V p next es) (V p next es) o at → at ≡ Some body → class_made p.shape o es ≡ Some (body.class, length body.values)
          by None there is = absurd (cc is)
          by (Some at) there is =
              let same : at ≡ body = cc is in
              subst (λ (x : Body). class_made p.shape o es ≡ Some (x.class, length x.values)) same (ap (λ n. class_made p.shape n es) (sym there.0) ∙ there.1.class)

      sets_leased : (sets : List Set) → ((l : LockName) → AllByRecursion (IsSetLeased class_of p.shape l (standing_with c l server)) sets) → AllByRecursion (IsGuardLeased p c server) sets
      sets_leased [] h = tt
      sets_leased (set ∷ sets) h = (one, sets_leased sets (λ l. (h l).1))
        where
          one : IsGuardLeased p c server set
          one body is =
              let guard : LockName = guard_of p.shape body.class set.object set.field in
              enough_to_write (leased_to c guard server) ((h guard).0 (body.class, length body.values) (stored_class set.object body is) (lock_self guard))

      notes_leased : (notes : List Note) → ((l : LockName) → AllByRecursion (IsNoteOfLease class_of p.shape l (standing_with c l server)) notes) → AllByRecursion (IsNoteLeased c server) notes
      notes_leased [] h = tt
      notes_leased (note ∷ notes) h = (enough_to_write (leased_to c note.lock server) ((h note.lock).0 (lock_self note.lock)), notes_leased notes (λ l. (h l).1))

      ending_known : (ending : Ending) → ((l : LockName) → IsEndingOfLease class_of p.shape l (standing_with c l server) ending) → IsEndingLeased c server ending
      ending_known (ending.Exit l) h = enough_there Read (leased_to c l server) (h l (lock_self l))
      ending_known (ending.Wait l) h = enough_to_write (leased_to c l server) (h l (lock_self l))
      ending_known (ending.End fault) h = tt
      ending_known (ending.Timeout l) h = tt

      pub record_known : IsRecordLeased p c server txn
      record_known = record {
        sets = sets_leased txn.sets (λ l. (comes l).sets);
        notes = notes_leased txn.notes (λ l. (comes l).notes);
        ending = ending_known txn.ending (λ l. (comes l).ending);
      }

pub records_are_leased : RecordsAreLeased
records_are_leased p next sound texts within es follow c alive txn first = record_known p next sound texts within es follow c alive txn first
