-- The work in hand, entry by entry.
use Rattle.std.proofs.Common.{ℕ, ◌≡◌, refl, sym, ◌∙◌, ap, Bool, true, false, cond, is_some, Option, Some, None, List, [], ◌∷◌, ◌++◌}
use Rattle.dso_base.specs.declared.journal.Entry.{Entry}
use Rattle.dso_base.specs.declared.lock.ThreadId.{ThreadId}
use Rattle.dso_base.specs.declared.record.Body.{Body}
use Rattle.dso_base.specs.declared.record.Ending.{Ending}
use Rattle.dso_base.specs.declared.request.Event.{Event}
use Rattle.dso_base.specs.declared.shape.Shape.{Shape}
use Rattle.dso_base.specs.Block.{Work, start, work_after, worked, txn_of}
use Rattle.dso_plain.specs.History.{is_act_of}
use Rattle.dso_law.specs.Entries.{by_event}
use Rattle.dso_law.specs.Threads.{Locks, ending_of, locks_of, open_block, block_after, privates_before, privates_after, work_of}
use Rattle.dso_law.specs.Laws.{WorkGoesOn}

-- the work in hand after an event of its thread, whose locks before it these are: an ending leaves the private objects
-- alone
abbrev work_on : Shape → Event → Locks → Work → Work
work_on shape event locks work = cond (is_some (ending_of event locks))
    (start (work_after shape event work).privates) (work_after shape event work)

-- what an entry makes of the work that thread t has in hand
abbrev work_by_entry : Shape → ThreadId → Entry → Locks → Work → Work
work_by_entry shape t e locks work = by_event
    (λ event before. cond (is_act_of t event) (work_on shape event locks before) before) e.event work

-- one more event is one more step of the work
worked_more : (shape : Shape) (events : List Event) (event : Event) (work : Work) → worked shape (events ++ event ∷ []) work ≡ work_after shape event (worked shape events work)
worked_more shape [] event work = refl
worked_more shape (first ∷ events) event work = worked_more shape events event (work_after shape first work)

-- after an event of the thread
on_event : (shape : Shape) (event : Event) (n : Option Ending) (block : List Event) (privates : List Body)
    → worked shape (cond (is_some n) [] (block ++ event ∷ [])) (start (cond (is_some n) (worked shape (block ++ event ∷ []) (start privates)).privates privates))
    ≡ cond (is_some n) (start (work_after shape event (worked shape block (start privates))).privates) (work_after shape event (worked shape block (start privates)))
on_event shape event None block privates = worked_more shape block event (start privates)
on_event shape event (Some ending) block privates = ap (λ work. start work.privates) (worked_more shape block event (start privates))

-- the work in hand after an event, of this thread or another
on_any : (shape : Shape) (event : Event) (locks : Locks) (block : List Event) (privates : List Body) (b : Bool)
    → worked shape (cond b (block_after event locks block) block) (start (cond b (privates_after shape event locks block privates) privates))
    ≡ cond b (work_on shape event locks (worked shape block (start privates))) (worked shape block (start privates))
on_any shape event locks block privates true = on_event shape event (ending_of event locks) block privates
on_any shape event locks block privates false = refl

-- the work in hand after the event of an entry, if it has one
on_entry : (shape : Shape) (t : ThreadId) (es : List Entry) (o : Option Event)
    → worked shape (by_event (λ event block. cond (is_act_of t event) (block_after event (locks_of t es) block) block) o (open_block t es))
    (start (by_event (λ event privates. cond (is_act_of t event) (privates_after shape event (locks_of t es) (open_block t es) privates) privates) o (privates_before shape t es)))
    ≡ by_event (λ event before. cond (is_act_of t event) (work_on shape event (locks_of t es) before) before) o (work_of shape t es)
on_entry shape t es None = refl
on_entry shape t es (Some event) = on_any shape event (locks_of t es) (open_block t es) (privates_before shape t es) (is_act_of t event)

-- one more entry is one more step of the work in hand
work_next : (shape : Shape) (t : ThreadId) (e : Entry) (es : List Entry) → work_of shape t (e ∷ es) ≡ work_by_entry shape t e (locks_of t es) (work_of shape t es)
work_next shape t e es = on_entry shape t es e.event

-- what an entry with an event of the thread makes of the work
work_of_event : (shape : Shape) (t : ThreadId) (event : Event) (locks : Locks) (work : Work) (o : Option Event) → o ≡ Some event → is_act_of t event ≡ true
    → by_event (λ ev before. cond (is_act_of t ev) (work_on shape ev locks before) before) o work ≡ work_on shape event locks work
work_of_event shape t event locks work o e its = rw (e, its) refl

-- the first of two where there is an ending
ended : (n : Option Ending) (work other : Work) → (n ≡ None → ⊥) → cond (is_some n) work other ≡ work
ended None work other e = absurd (e refl)
ended (Some ending) work other e = refl

pub work_goes_on : WorkGoesOn
work_goes_on shape t event e es h =
    let locks = locks_of t es in
    let after : Work = work_after shape event (work_of shape t es) in
    let next = work_next shape t e es ∙ work_of_event shape t event locks (work_of shape t es) e.event h.event_is h.its in
    record {
      goes_on = λ none. next ∙ ap (λ n. cond (is_some n) (start after.privates) after) none;
      ends = λ some. next ∙ ended (ending_of event locks) (start after.privates) after some;
    }

-- the record of the work after one more event
pub recorded : (shape : Shape) (seq : ℕ) (t : ThreadId) (es : List Entry) (event : Event) (ending : Ending) (work : Work) → work ≡ work_after shape event (work_of shape t es)
    → record { seq = seq; thread = t; news = work.news; sets = work.sets; outs = work.outs; notes = work.notes; ending = ending }
    ≡ txn_of shape seq t (privates_before shape t es) (open_block t es ++ event ∷ []) ending
recorded shape seq t es event ending work w =
    let all : work ≡ worked shape (open_block t es ++ event ∷ []) (start (privates_before shape t es)) = w ∙ sym (worked_more shape (open_block t es) event (start (privates_before shape t es))) in
    λ i. record { seq = seq; thread = t; news = (all i).news; sets = (all i).sets; outs = (all i).outs; notes = (all i).notes; ending = ending }
