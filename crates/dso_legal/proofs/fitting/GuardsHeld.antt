-- While a block is open its thread holds at Write the guard of each field that the block set and the lock of each notification.
use Rattle.std.specs.List.{AllByRecursion}
use Rattle.std.proofs.Common.{Bool, List, None, Option, Some, [], ap, cond, eqb, false, inl, inr, is_some, ltb, refl, subst, sym, true, ℕ, ◌-◌, ◌∙◌, ◌∷◌, ◌≡◌, ◌⊎◌}
use Rattle.dso_base.specs.Block.{Work, body_in, choice_of, insert_set, publish, put, put_shared, with_value, work_after, work_by}
use Rattle.dso_base.specs.Following.{is_thread}
use Rattle.dso_base.specs.Shape.{guard_of}
use Rattle.dso_base.specs.declared.journal.Entry.{Entry}
use Rattle.dso_base.specs.declared.journal.Node.{Node}
use Rattle.dso_base.specs.declared.journal.Node.TheVariants.{Client, Server}
use Rattle.dso_base.specs.declared.lock.Level.{Level}
use Rattle.dso_base.specs.declared.lock.Level.TheVariants.{Read, Write}
use Rattle.dso_base.specs.declared.lock.LockName.{LockName}
use Rattle.dso_base.specs.declared.lock.ThreadId.{ThreadId}
use Rattle.dso_base.specs.declared.record.Choice.TheVariants.{All}
use Rattle.dso_base.specs.declared.record.Ending.{Ending}
use Rattle.dso_base.specs.declared.record.Note.{Note}
use Rattle.dso_base.specs.declared.record.Set.{Set}
use Rattle.dso_base.specs.declared.request.Event.{Event}
use Rattle.dso_base.specs.declared.request.Event.TheVariants.{Act}
use Rattle.dso_base.specs.declared.request.Reply.{Reply}
use Rattle.dso_base.specs.declared.request.Reply.TheVariants.{Done, Made}
use Rattle.dso_base.specs.declared.request.Request.{Request}
use Rattle.dso_base.specs.declared.request.Request.TheVariants.{Enter, Exit, New, Notify, NotifyAll, Print, Put, Resume, Wait}
use Rattle.dso_base.specs.declared.shape.Shape.{Shape}
use Rattle.dso_base.specs.declared.value.ClassId.{ClassId}
use Rattle.dso_base.specs.declared.value.Value.{Value}
use Rattle.dso_plain.specs.After.{entered, exited}
use Rattle.dso_plain.specs.KeyTests.{is_lock}
use Rattle.dso_plain.specs.State.{Hold}
use Rattle.dso_plain.proofs.keys.SameKeys.{same_lock, same_number, same_thread, thread_self}
use Rattle.dso_law.specs.Entries.{by_event, entries_of}
use Rattle.dso_law.specs.Laws.{WorkAfter}
use Rattle.dso_law.specs.Replies.{answer_put, class_known, monitor_reply, put_reply, reply_of, woken_by}
use Rattle.dso_law.specs.RequestNeeds.{hold_level}
use Rattle.dso_law.specs.Settings.{Settings}
use Rattle.dso_law.specs.Threads.{Held, Locks, Waiting, ending_by, ending_of, exit_ending, hold_in, hold_of, is_private, locks_after, locks_by, locks_of, resumed, with_hold, work_of}
use Rattle.dso_law.proofs.client.ClientLaws.{holds_after}
use Rattle.dso_law.proofs.client.WorkByEntry.{work_goes_on}
use Rattle.dso_legal.specs.ClassesKept.{class_made}
use Rattle.dso_legal.specs.Lawful.{AllFollow, ClientFollows, NodeFollows, next_after}
use Rattle.dso_legal.specs.SoundProgram.{GivesKnownTexts, AsksSoundly}
use Rattle.dso_legal.specs.WithinShape.{StaysWithinShape}
use Rattle.dso_legal.proofs.blocks.OwnActs.{IsNextAct, next_act}
use Rattle.dso_legal.proofs.fitting.Carried.{C, WorkNow}
use Rattle.dso_legal.proofs.fitting.ClassesMade.{class_stays}
use Rattle.dso_legal.proofs.fitting.InHand.{each_of_two, each_so, set_inserted}
use Rattle.dso_legal.proofs.fitting.Messages.{ClassHas}
use Rattle.dso_legal.proofs.fitting.Replies.{CopiesHave, known_has}
use Rattle.dso_legal.proofs.fitting.Values.{F, V, all_fine}
use Rattle.dso_legal.proofs.objects.OwnObjects.{IsOthers, work_alone}
use Rattle.dso_legal.proofs.records.BothEnds.{client_with}

-- ---- locks

-- the lock is held at Write
abbrev pub IsHeldToWrite : Locks → LockName → Type 0
IsHeldToWrite locks l = hold_level (hold_in l locks.holds) ≡ Some Write

-- after a change of one lock's hold, if that lock is held so then
held_with : (k l : LockName) (hold : Option Hold) (holds : List Held) → hold_level (hold_in l holds) ≡ Some Write → (is_lock k l ≡ true → hold_level hold ≡ Some Write)
    → hold_level (hold_in l (with_hold k hold holds)) ≡ Some Write
held_with k l hold holds held if_same = ap hold_level (holds_after k l hold holds) ∙ by (is_lock k l) refl
  where
    by : (b : Bool) → is_lock k l ≡ b → hold_level (cond b hold (hold_in l holds)) ≡ Some Write
    by true is = if_same is
    by false is = held

-- a further entry leaves the level,
entered_level : (level : Level) (hold : Option Hold) → hold_level hold ≡ Some Write → hold_level (entered level hold) ≡ Some Write
entered_level level None held = absurd (cc held)
entered_level level (Some hold) held = held

-- and so does an exit that doesn't end the block
exited_level : (k : LockName) (hold : Option Hold) → exit_ending k (exited hold) ≡ None → hold_level hold ≡ Some Write → hold_level (exited hold) ≡ Some Write
exited_level k None none held = absurd (cc held)
exited_level k (Some hold) none held = by (eqb hold.count 1) none
  where
    by : (b : Bool) → exit_ending k (cond b None (Some (record { level = hold.level; count = hold.count - 1 }))) ≡ None → hold_level (cond b None (Some (record { level = hold.level; count = hold.count - 1 }))) ≡ Some Write
    by true none = absurd (cc none)
    by false none = held

resumed_held : (k l : LockName) (waiting : Option Waiting) (locks : Locks) → IsHeldToWrite locks l → IsHeldToWrite (resumed k waiting locks) l
resumed_held k l None locks held = held
resumed_held k l (Some waiting) locks held = held_with k l (Some (record { level = Write; count = waiting.count })) locks.holds held (λ is. refl)

-- what is held at Write stays so until the block ends
pub still_held : (request : Request) (reply : Reply) (locks : Locks) (l : LockName) → ending_by request reply locks ≡ None → IsHeldToWrite locks l → IsHeldToWrite (locks_by request reply locks) l
still_held (Enter k level) Done locks l none held = held_with k l (entered level (hold_in k locks.holds)) locks.holds held
    (λ is. entered_level level (hold_in k locks.holds) (subst (λ j. hold_level (hold_in j locks.holds) ≡ Some Write) (same_lock k l is) held))
still_held (Exit k) Done locks l none held = held_with k l (exited (hold_in k locks.holds)) locks.holds held
    (λ is. exited_level k (hold_in k locks.holds) none (subst (λ j. hold_level (hold_in j locks.holds) ≡ Some Write) (same_lock k l is) held))
still_held (Wait k) Done locks l none held = absurd (cc none)
still_held (Resume k) Done locks l none held = resumed_held k l locks.waiting locks held
still_held request reply locks l none held = held

-- ---- what a block did

module _ (shape : Shape) where
  -- the field's guard is held at Write, by the class with which its object was made
  pub record IsGuarded (now : List Entry) (locks : Locks) (o f : ℕ) : Type 0 where
    pub class : ClassId
    pub size : ℕ
    pub made : class_made shape o now ≡ Some (class, size)
    pub held : IsHeldToWrite locks (guard_of shape class o f)

  abbrev pub IsSetHeld : List Entry → Locks → Set → Type 0
  IsSetHeld now locks set = IsGuarded now locks set.object set.field

  abbrev pub IsNoteHeld : Locks → Note → Type 0
  IsNoteHeld locks note = IsHeldToWrite locks note.lock

  -- so of all that the block set and notified
  pub record IsWorkHeld (now : List Entry) (locks : Locks) (work : Work) : Type 0 where
    pub sets : AllByRecursion (IsSetHeld now locks) work.sets
    pub notes : AllByRecursion (IsNoteHeld locks) work.notes

  -- later locks that hold at Write what these hold so
  work_held_on : (now : List Entry) (locks later : Locks) (work : Work) → ((l : LockName) → IsHeldToWrite locks l → IsHeldToWrite later l) → IsWorkHeld now locks work → IsWorkHeld now later work
  work_held_on now locks later work on h = record {
    sets = each_so (IsSetHeld now locks) (IsSetHeld now later) (λ set it. record { class = it.class; size = it.size; made = it.made; held = on (guard_of shape it.class set.object set.field) it.held }) work.sets h.sets;
    notes = each_so (IsNoteHeld locks) (IsNoteHeld later) (λ note it. on note.lock it) work.notes h.notes;
  }

  -- a put into any object: into a shared one under its guard
  put_held : (now : List Entry) (locks : Locks) (o f : ℕ) (v : Value) (work : Work) → IsWorkHeld now locks work → (is_some (body_in o work.privates) ≡ false → IsGuarded now locks o f) → IsWorkHeld now locks (put o f v work)
  put_held now locks o f v work h guarded = by (is_some (body_in o work.privates)) refl
    where
      shared : IsGuarded now locks o f → (b : Bool) → IsWorkHeld now locks (publish v (cond b (record work { news = with_value o f v work.news }) (record work { sets = insert_set (record { object = o; field = f; value = v }) work.sets })))
      shared it true = record { sets = h.sets; notes = h.notes }
      shared it false = record { sets = set_inserted (IsSetHeld now locks) (record { object = o; field = f; value = v }) work.sets it h.sets; notes = h.notes }

      by : (b : Bool) → is_some (body_in o work.privates) ≡ b → IsWorkHeld now locks (cond b (record work { privates = with_value o f v work.privates }) (publish v (put_shared o f v work)))
      by true is = record { sets = h.sets; notes = h.notes }
      by false is = shared (guarded is) (is_some (body_in o work.news))

  -- what an act must bring: the guard of a shared field that it sets, the lock that it notifies
  abbrev pub Holding : List Entry → Locks → Work → Request → Reply → Type 0
  Holding now locks work (Put o f v) Done = is_some (body_in o work.privates) ≡ false → IsGuarded now locks o f
  Holding now locks work (Notify l) Done = IsHeldToWrite locks l
  Holding now locks work (NotifyAll l) Done = IsHeldToWrite locks l
  Holding now locks work request reply = Unit {0}

  act_held : (now : List Entry) (locks : Locks) (request : Request) (reply : Reply) (woken : Option ThreadId) (work : Work) → IsWorkHeld now locks work → Holding now locks work request reply
      → IsWorkHeld now locks (work_by shape request reply woken work)
  act_held now locks (New class n) (Made o) woken work h it = record { sets = h.sets; notes = h.notes }
  act_held now locks (Put o f v) Done woken work h it = put_held now locks o f v work h it
  act_held now locks (Print v) Done woken work h it = record { sets = h.sets; notes = h.notes }
  act_held now locks (Notify l) Done woken work h it = record { sets = h.sets; notes = each_of_two (IsNoteHeld locks) work.notes (record { lock = l; choice = choice_of woken } ∷ []) h.notes (it, tt) }
  act_held now locks (NotifyAll l) Done woken work h it = record { sets = h.sets; notes = each_of_two (IsNoteHeld locks) work.notes (record { lock = l; choice = All } ∷ []) h.notes (it, tt) }
  act_held now locks request reply woken work h it = h

-- ---- what a client answers

-- done only at Write
pub done_at_write : (level : Option Level) → Some (monitor_reply level) ≡ Some Done → level ≡ Some Write
done_at_write (Some Write) answered = refl
done_at_write (Some Read) answered = absurd (cc answered)
done_at_write None answered = absurd (cc answered)

put_at_write : (level : Option Level) (holds : List Held) → Some (put_reply level holds) ≡ Some Done → level ≡ Some Write
put_at_write (Some Write) holds answered = refl
put_at_write (Some Read) holds answered = absurd (cc answered)
put_at_write None [] answered = absurd (cc answered)
put_at_write None (held ∷ holds) answered = absurd (cc answered)

module _ (p : Settings) (next : ThreadId → List Event → Option Request) where
  module _ (es own_entries : List Entry) (t : ThreadId) (works : WorkNow p next (F p next) (V p next) (V p next) es (work_of p.shape t own_entries)) (copies : CopiesHave (C p next (F p next) (V p next) (V p next) es) (F p next es) (V p next es) (V p next es) own_entries) where
    put_guarded : (o f : ℕ) (class : Option (ClassId × ℕ)) → ClassHas (C p next (F p next) (V p next) (V p next) es) (F p next es) (V p next es) (V p next es) o class → answer_put p t o f class own_entries ≡ Some Done
        → is_private p.shape t o own_entries ≡ false → IsGuarded p.shape es (locks_of t own_entries) o f
    put_guarded o f None made answered shared = absurd (cc answered)
    put_guarded o f (Some class) made answered shared = record { class = class.0; size = class.1; made = made; held = by (ltb f class.1) (is_private p.shape t o own_entries) answered shared }
      where
        by : (there private : Bool) → cond there (Some (cond private Done (put_reply (hold_level (hold_of t (guard_of p.shape class.0 o f) own_entries)) (locks_of t own_entries).holds))) None ≡ Some Done → private ≡ false
            → hold_level (hold_of t (guard_of p.shape class.0 o f) own_entries) ≡ Some Write
        by true true answered shared = absurd (cc shared)
        by true false answered shared = put_at_write (hold_level (hold_of t (guard_of p.shape class.0 o f) own_entries)) (locks_of t own_entries).holds answered
        by false private answered shared = absurd (cc answered)

    -- an act that is answered brings what it must
    holding : (request : Request) (reply : Reply) → reply_of p t request own_entries ≡ Some reply → Holding p.shape es (locks_of t own_entries) (work_of p.shape t own_entries) request reply
    holding (Put o f v) Done answered = put_guarded o f (class_known p t o own_entries) (known_has (C p next (F p next) (V p next) (V p next) es) (F p next es) (V p next es) (V p next es) p t own_entries works copies o) answered
    holding (Notify l) Done answered = done_at_write (hold_level (hold_of t l own_entries)) answered
    holding (NotifyAll l) Done answered = done_at_write (hold_level (hold_of t l own_entries)) answered
    holding request reply answered = tt

  -- so of all threads of a client
  abbrev pub AllHeld : List Entry → List Entry → Type 0
  AllHeld now own_entries = (t : ThreadId) → IsWorkHeld p.shape now (locks_of t own_entries) (work_of p.shape t own_entries)

  module _ (sound : AsksSoundly p.shape next) (known : GivesKnownTexts p.shape next) (within : StaysWithinShape p.shape next) where
    module _ (e : Entry) (es : List Entry) (follow : AllFollow p next (e ∷ es)) where
      guard_still : (locks : Locks) (o f : ℕ) → IsGuarded p.shape es locks o f → IsGuarded p.shape (e ∷ es) locks o f
      guard_still locks o f it = record { class = it.class; size = it.size; made = class_stays p.shape p next e es follow o (it.class, it.size) it.made; held = it.held }

      work_still : (locks : Locks) (work : Work) → IsWorkHeld p.shape es locks work → IsWorkHeld p.shape (e ∷ es) locks work
      work_still locks work h = record {
        sets = each_so (IsSetHeld p.shape es locks) (IsSetHeld p.shape (e ∷ es) locks) (λ set it. guard_still locks set.object set.field it) work.sets h.sets;
        notes = h.notes;
      }

      module _ (c : ℕ) (have : AllHeld es (entries_of (Client c) es)) where
        abbrev mine : List Entry
        mine = entries_of (Client c) es

        module _ (act : IsNextAct p c (next_after next es) e mine) where
          abbrev event : Event
          event = Act act.thread act.request act.reply (woken_by act.request act.reply mine)

          -- what the act makes of the work in hand, by the locks before it
          pub later_held : IsWorkHeld p.shape es (locks_of act.thread mine) (work_after p.shape event (work_of p.shape act.thread mine))
          later_held =
              let all = (all_fine p next sound known within es follow.0).clients c in
              act_held p.shape es (locks_of act.thread mine) act.request act.reply (woken_by act.request act.reply mine) (work_of p.shape act.thread mine) (have act.thread)
              (holding es mine act.thread (all.works act.thread) all.copies act.request act.reply act.answered)

          goes : WorkAfter p.shape act.thread event e mine
          goes = work_goes_on p.shape act.thread event e mine (record { event_is = act.event; its = thread_self act.thread })

          locks_go_on : locks_of act.thread (e ∷ mine) ≡ locks_by act.request act.reply (locks_of act.thread mine)
          locks_go_on = ap (λ event. by_event (locks_after act.thread) event (locks_of act.thread mine)) act.event
              ∙ ap (λ b. cond b (locks_by act.request act.reply (locks_of act.thread mine)) (locks_of act.thread mine)) (thread_self act.thread)

          own_held : (ending : Option Ending) → ending_of event (locks_of act.thread mine) ≡ ending → IsWorkHeld p.shape es (locks_of act.thread (e ∷ mine)) (work_of p.shape act.thread (e ∷ mine))
          own_held None is = subst (IsWorkHeld p.shape es (locks_of act.thread (e ∷ mine))) (sym (goes.goes_on is))
              (subst (λ locks. IsWorkHeld p.shape es locks (work_after p.shape event (work_of p.shape act.thread mine))) (sym locks_go_on)
              (work_held_on p.shape es (locks_of act.thread mine) (locks_by act.request act.reply (locks_of act.thread mine)) (work_after p.shape event (work_of p.shape act.thread mine))
              (λ l held. still_held act.request act.reply (locks_of act.thread mine) l is held) later_held))
          own_held (Some ending) is = subst (IsWorkHeld p.shape es (locks_of act.thread (e ∷ mine))) (sym (goes.ends (λ none. some_ending (sym is ∙ none)))) (record { sets = tt; notes = tt })
            where
              some_ending : Some ending ≡ None → ⊥
              some_ending none = cc none

        by_thread : (e.event ≡ None) ⊎ IsNextAct p c (next_after next es) e mine → (t : ThreadId) → IsWorkHeld p.shape es (locks_of t (e ∷ mine)) (work_of p.shape t (e ∷ mine))
        by_thread (inl none) t = subst (λ locks. IsWorkHeld p.shape es locks (work_of p.shape t (e ∷ mine))) (sym (ap (λ event. by_event (locks_after t) event (locks_of t mine)) none))
            (subst (IsWorkHeld p.shape es (locks_of t mine)) (sym (work_alone p.shape t e mine (subst (IsOthers t) (sym none) tt))) (have t))
        by_thread (inr act) t = by (is_thread t act.thread) refl
          where
            by : (b : Bool) → is_thread t act.thread ≡ b → IsWorkHeld p.shape es (locks_of t (e ∷ mine)) (work_of p.shape t (e ∷ mine))
            by true is = subst (λ u. IsWorkHeld p.shape es (locks_of u (e ∷ mine)) (work_of p.shape u (e ∷ mine))) (same_thread t act.thread is) (own_held act (ending_of (event act) (locks_of act.thread mine)) refl)
            by false is = subst (λ locks. IsWorkHeld p.shape es locks (work_of p.shape t (e ∷ mine)))
                (sym (ap (λ event. by_event (locks_after t) event (locks_of t mine)) act.event ∙ ap (λ b. cond b (locks_by act.request act.reply (locks_of t mine)) (locks_of t mine)) is))
                (subst (IsWorkHeld p.shape es (locks_of t mine)) (sym (work_alone p.shape t e mine (subst (IsOthers t) (sym act.event) is))) (have t))

        held_client : (b : Bool) (d : ℕ) → eqb c d ≡ b → ClientFollows p next d e es → AllHeld es (cond b (e ∷ mine) mine)
        held_client true d same rule =
            let step = (subst (λ n. ClientFollows p next n e es) (sym (same_number c d same)) rule).step in
            by_thread (next_act p c (next_after next es) (next_after next (e ∷ es)) e mine step)
        held_client false d other rule = have

        held_node : (node : Node) → NodeFollows p next node e es → AllHeld es (client_with c node e es)
        held_node Server rule = have
        held_node (Client d) rule = held_client (eqb c d) d refl rule

    -- At each client, of all threads, after entries each of which follows those before it.
    pub all_held : (es : List Entry) → AllFollow p next es → (c : ℕ) → AllHeld es (entries_of (Client c) es)
    all_held [] follow c t = record { sets = tt; notes = tt }
    all_held (e ∷ es) follow c t = work_still e es follow (locks_of t (entries_of (Client c) (e ∷ es))) (work_of p.shape t (entries_of (Client c) (e ∷ es)))
        (held_node e es follow c (all_held es follow.0 c) e.node follow.1.rule t)
