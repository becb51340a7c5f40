-- The central law: all stands after each entry, so the history runs, marks and all, and what runs commits legally.
use Rattle.std.proofs.Common.{ℕ, sym, subst, Bool, Option}
use Rattle.dso_base.specs.declared.journal.Node.TheVariants.{Server}
use Rattle.dso_base.specs.declared.lock.LockName.{LockName}
use Rattle.dso_base.specs.declared.lock.ThreadId.{ThreadId}
use Rattle.dso_base.specs.declared.record.Body.{Body}
use Rattle.dso_plain.specs.State.{PlainState, opening}
use Rattle.dso_plain.specs.History.{last_state}
use Rattle.dso_plain.specs.SameActs.{with_marks}
use Rattle.dso_law.specs.Entries.{entries_of}
use Rattle.dso_law.specs.ServerReadings.{counted}
use Rattle.dso_law.specs.Store.{stored}
use Rattle.dso_legal.specs.AsMade.{as_made}
use Rattle.dso_legal.specs.Central.{CentralLaw, CommitsWhatWasMade, ClientsStand}
use Rattle.dso_legal.specs.Committed.{committed}
use Rattle.dso_legal.specs.Marks.{WaitersAreKnown}
use Rattle.dso_legal.specs.Places.{WaitersAreTokens}
use Rattle.dso_legal.specs.Store.{IsHeapOf, StoreIsHeap}
use Rattle.dso_legal.proofs.blocks.ResolvedBlocks.{history_resolved}
use Rattle.dso_legal.proofs.central.AllHold.{AllHolds, all_holds}
use Rattle.dso_legal.proofs.central.Finished.{commits_as_made, commits_where_it_runs}
use Rattle.dso_legal.proofs.marks.MarksHold.{marks_hold, marks_are_known, kept_at_write}
use Rattle.dso_legal.proofs.marks.SameRuns.{RunsResolved, runs_resolved}
use Rattle.dso_legal.proofs.objects.StoreIsHeap.{store_is_heap}
use Rattle.dso_legal.proofs.objects.WorksTell.{works_tell}
use Rattle.dso_legal.proofs.waiting.Waiters.{waiters_stand}

-- A lawful journal commits legally,
pub central_law : CentralLaw
central_law p next sound es lawful = commits_where_it_runs p next sound es lawful (marks_hold p next sound es lawful.follow).runs

-- and without waits just what its threads made.
pub commits_what_was_made : CommitsWhatWasMade
commits_what_was_made p next sound es lawful calm = commits_as_made p next sound es lawful calm

-- After it all clients stand that aren't lost.
pub clients_stand : ClientsStand
clients_stand p next sound es lawful =
    let all : AllHolds p es = all_holds p next sound es lawful.follow in
    record {
      made = all.stand.runs;
      client = λ c alive. record { line = (all.stand.lines c alive).line; opens = (all.stand.lines c alive).opens; copies = all.copies c alive };
    }

-- Who waits on a lock, both ends tell alike,
pub waiters_are_tokens : WaitersAreTokens
waiters_are_tokens p next sound es follow l t alive = (waiters_stand p next sound es follow).agree l t alive

-- and the unmarked ones are those that the client with the lock keeps and those of the server's list.
pub waiters_are_known : WaitersAreKnown
waiters_are_known p next sound es lawful = record {
  marks = marks_are_known p next sound es lawful.follow;
  leased = λ l t kept. kept_at_write p next sound es lawful.follow l t kept;
}

-- And the store is the heap, whatever is marked.
heap_but_marks : (o : ℕ) (at : Option Body) (marks : LockName × ThreadId → Bool) (s : PlainState) → IsHeapOf o at s → IsHeapOf o at (with_marks marks s)
heap_but_marks o at marks s heap = record {
  each = λ body is. record { shared = (heap.each body is).shared; class = (heap.each body is).class; values = (heap.each body is).values };
  all = heap.all;
}

pub the_store_is_heap : StoreIsHeap
the_store_is_heap p next sound es lawful o =
    let made : AllHolds p es = all_holds p next sound es lawful.follow in
    let body : Option Body = stored p.shape o (counted (entries_of Server es)) in
    let same : RunsResolved p.shape (opening p.shape).marked (as_made es) (committed es) (opening p.shape) = runs_resolved p.shape (opening p.shape).marked (as_made es) (committed es) (opening p.shape) made.stand.runs (history_resolved es) in
    subst (IsHeapOf o body) (sym same.same_end) (heap_but_marks o body (last_state p.shape (committed es)).marked (last_state p.shape (as_made es)) (store_is_heap works_tell p next es lawful.follow made.stand.runs o))
