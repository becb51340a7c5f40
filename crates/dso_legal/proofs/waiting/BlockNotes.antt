-- The notifications of a record are those of its block's acts, in their order.
use Rattle.std.proofs.Common.{ℕ, ◌≡◌, refl, sym, ◌∙◌, ap, Bool, true, false, cond, is_some, Option, List, [], ◌∷◌, ◌++◌}
use Rattle.std.proofs.lemmas.List.{append_assoc, append-nil}
use Rattle.dso_base.specs.declared.lock.ThreadId.{ThreadId}
use Rattle.dso_base.specs.declared.record.Body.{Body}
use Rattle.dso_base.specs.declared.record.Choice.TheVariants.{All}
use Rattle.dso_base.specs.declared.record.Note.{Note}
use Rattle.dso_base.specs.declared.request.Event.{Event}
use Rattle.dso_base.specs.declared.request.Event.TheVariants.{Act, Lost}
use Rattle.dso_base.specs.declared.request.Reply.{Reply}
use Rattle.dso_base.specs.declared.request.Reply.TheVariants.{Done, Made}
use Rattle.dso_base.specs.declared.request.Request.{Request}
use Rattle.dso_base.specs.declared.request.Request.TheVariants.{New, Look, Get, Put, Enter, Exit, Wait, Tick, Timeout, Resume, Notify, NotifyAll, Print, End, Pause, Settle}
use Rattle.dso_base.specs.declared.shape.Shape.{Shape}
use Rattle.dso_base.specs.declared.value.Value.{Value}
use Rattle.dso_base.specs.Block.{Work, start, body_in, with_value, insert_set, publish, put, put_shared, choice_of, work_by, worked}

-- the notification that an act makes, as a list
abbrev pub note_by : Request → Reply → Option ThreadId → List Note
note_by (New class n) reply woken = []
note_by (Look o) reply woken = []
note_by (Get o f) reply woken = []
note_by (Put o f v) reply woken = []
note_by (Enter l level) reply woken = []
note_by (Exit l) reply woken = []
note_by (Wait l) reply woken = []
note_by (Tick l) reply woken = []
note_by (Timeout l) reply woken = []
note_by (Resume l) reply woken = []
note_by (Notify l) Done woken = record { lock = l; choice = choice_of woken } ∷ []
note_by (Notify l) reply woken = []
note_by (NotifyAll l) Done woken = record { lock = l; choice = All } ∷ []
note_by (NotifyAll l) reply woken = []
note_by (Print v) reply woken = []
note_by (End fault) reply woken = []
note_by Pause reply woken = []
note_by Settle reply woken = []

-- the notifications of a block
abbrev pub notes_of : List Event → List Note
notes_of [] = []
notes_of (Act t request reply woken ∷ events) = note_by request reply woken ++ notes_of events
notes_of (Lost client ∷ events) = notes_of events

-- those of two lists of events
pub notes_both : (xs ys : List Event) → notes_of (xs ++ ys) ≡ notes_of xs ++ notes_of ys
notes_both [] ys = refl
notes_both (Act t request reply woken ∷ xs) ys = ap (λ notes. note_by request reply woken ++ notes) (notes_both xs ys) ∙ sym (append_assoc (note_by request reply woken) (notes_of xs) (notes_of ys))
notes_both (Lost client ∷ xs) ys = notes_both xs ys

-- a put makes none
put_notes : (o f : ℕ) (v : Value) (work : Work) → (put o f v work).notes ≡ work.notes
put_notes o f v work = by (is_some (body_in o work.privates))
  where
    shared : (b : Bool) → (cond b (let r : Work = record work { news = with_value o f v work.news } in r) (let r : Work = record work { sets = insert_set (record { object = o; field = f; value = v }) work.sets } in r)).notes ≡ work.notes
    shared true = refl
    shared false = refl

    by : (b : Bool) → (cond b (let r : Work = record work { privates = with_value o f v work.privates } in r) (publish v (put_shared o f v work))).notes ≡ work.notes
    by true = refl
    by false = shared (is_some (body_in o work.news))

-- what an act makes of the notifications in hand
act_notes : (shape : Shape) (request : Request) (reply : Reply) (woken : Option ThreadId) (work : Work) → (work_by shape request reply woken work).notes ≡ work.notes ++ note_by request reply woken
act_notes shape (New class n) (Made o) woken work = sym (append-nil work.notes)
act_notes shape (Put o f v) Done woken work = put_notes o f v work ∙ sym (append-nil work.notes)
act_notes shape (Notify l) Done woken work = refl
act_notes shape (NotifyAll l) Done woken work = refl
act_notes shape (Print v) Done woken work = sym (append-nil work.notes)
act_notes shape request reply woken work = sym (append-nil work.notes)

-- The notifications in hand after a block.
pub worked_notes : (shape : Shape) (events : List Event) (work : Work) → (worked shape events work).notes ≡ work.notes ++ notes_of events
worked_notes shape [] work = sym (append-nil work.notes)
worked_notes shape (Act t request reply woken ∷ events) work =
    worked_notes shape events (work_by shape request reply woken work) ∙ ap (λ notes. notes ++ notes_of events) (act_notes shape request reply woken work)
    ∙ append_assoc work.notes (note_by request reply woken) (notes_of events)
worked_notes shape (Lost client ∷ events) work = worked_notes shape events work

-- from the start of the block
pub block_notes : (shape : Shape) (events : List Event) (privates : List Body) → (worked shape events (start privates)).notes ≡ notes_of events
block_notes shape events privates = worked_notes shape events (start privates)
