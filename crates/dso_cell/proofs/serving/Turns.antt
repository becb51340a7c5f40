-- The parts of a turn of the server's cell that log no entry, and what a turn that logged none found.
use Rattle.std.specs.Global.{Vec}
use Rattle.std.proofs.Common.{ℕ, ◌≡◌, ◌⊎◌, inl, inr, refl, ap, sym, subst, true}
use Rattle.dso_base.specs.declared.journal.Entry.{Entry}
use Rattle.dso_log.specs.Logs.{with_entry}
use Rattle.dso_machine.specs.declared.code.Code.{Code}
use Rattle.dso_port.specs.declared.arrival.Arrival.TheVariants as arrival
use Rattle.dso_cell.specs.declared.server_cell.ServerCell.{ServerCell}
use Rattle.dso_cell.specs.declared.server_end.ServerEnd.{ServerEnd}
use Rattle.dso_cell.specs.ClientCells.{IsOneMore}
use Rattle.dso_cell.specs.ServerCells.{AreServed, IsServerAtLimit, ServerGoesOn}
use Rattle.dso_cell.specs.ServerEnds.{AreGivenDown, ArePassed, HasLookedUp, IsAnyLate, OneChanged}
use Rattle.dso_cell.specs.ServerSteps.{HaveNoneDue, LookedInVain}
use Rattle.dso_cell.proofs.serving.Cells.{ends_given, ends_left, given_many, late_ends, stay_goes_on}
use Rattle.dso_cell.proofs.serving.Ends.{as_many, left_many, passed_left}
use Rattle.dso_cell.proofs.serving.Served.{all_served, late_given}

-- an entry that is logged is one more
pub one_more : (old new : ServerCell) (e : Entry) → new.log ≡ with_entry e old.log → IsOneMore true old.log.entries new.log.entries
one_more old new e log = (e, ap (λ log. log.entries) log)

module _ (code : Code) (old : ServerCell) where
  -- room was made for an entry
  pub reserved_goes_on : ServerGoesOn code old (record old { log = record old.log { has_room = true } })
  reserved_goes_on = stay_goes_on code old (record old { log = record old.log { has_room = true } }) refl refl refl refl (λ cluster c es its. its)

  -- all looked in vain
  pub passed_goes_on : (mids : Vec ServerEnd) → ArePassed old.ends.items mids.items → ServerGoesOn code old (record old { ends = mids })
  passed_goes_on mids passed =
      let left = passed_left old.ends.items mids.items passed in
      stay_goes_on code old (record old { ends = mids }) refl refl refl (left_many old.ends.items mids.items left) (λ cluster c es its. ends_left cluster c es old.ends.items mids.items left its)

  -- an end took a message at the limit
  pub late_goes_on : (place next : ℕ) (mids : Vec ServerEnd) → OneChanged (HasLookedUp arrival.Late) place old.ends.items mids.items → ServerGoesOn code old (record old { ends = mids; next = next })
  late_goes_on place next mids one =
      stay_goes_on code old (record old { ends = mids; next = next }) refl refl refl (as_many (HasLookedUp arrival.Late) place old.ends.items mids.items one)
      (λ cluster c es its. late_ends cluster place c es old.ends.items mids.items one its)

  -- frames went to the rings
  pub given_goes_on : (mids : Vec ServerEnd) → AreGivenDown old.ends.items mids.items → ServerGoesOn code old (record old { ends = mids })
  given_goes_on mids gives =
      stay_goes_on code old (record old { ends = mids }) refl refl refl (given_many old.ends.items mids.items gives) (λ cluster c es its. ends_given cluster c es old.ends.items mids.items gives its)

-- Where no entry was made and frames went to the rings, the cell is at its limit, or each client is served.
pub served_by : (old mid : ServerCell) (news : Vec ServerEnd) → AreGivenDown mid.ends.items news.items
    → IsAnyLate mid.ends.items ⊎ (LookedInVain old mid × HaveNoneDue old.core 1 old.ends.items)
    → IsServerAtLimit (record mid { ends = news }) ⊎ AreServed mid.core 1 old.ends.items news.items
served_by old mid news gives (inl late) = inl (inr (late_given mid.ends.items news.items gives late))
served_by old mid news gives (inr vain) =
    inr (subst (λ kept. AreServed kept 1 old.ends.items news.items) (sym vain.0.core) (all_served old.core 1 old.ends.items mid.ends.items news.items vain.0.ends vain.1 gives))
