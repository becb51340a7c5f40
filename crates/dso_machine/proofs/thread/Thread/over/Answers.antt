use Rattle.std.proofs.Common.{sym, subst, rules}
use Rattle.dso_machine.specs.Standing.{IsOver, is_over}
use Rattle.dso_machine.proofs.standing.Ends.{over_asks, asks_over, over_is}
use Rattle.dso_machine.proofs.thread.Thread.over.Goals as goal

-- the thread has ended where that is due
is_ended : (c : goal.In-Over) → IsOver c.args.self.now
is_ended c = subst is_over (sym c.in-Over.is) tt

-- and it hasn't where anything else is
goes_on : (c : goal.In_default) → IsOver c.args.self.now → ⊥
goes_on c over = c.in_default.not-Over (over_is c.args.self.now.due over)

pub returns-in-Over-clause-ended : goal.returns-in-Over-clause-ended
returns-in-Over-clause-ended c = (λ yes. is_ended c, λ over. search rules)

pub returns-in-Over-clause-asks : goal.returns-in-Over-clause-asks
returns-in-Over-clause-asks c = λ code t events st.
    (λ yes. over_asks code t c.args.self.now events st (is_ended c), λ none. search rules)

pub returns-in_default-clause-ended : goal.returns-in_default-clause-ended
returns-in_default-clause-ended c = (λ yes. absurd (search rules), λ over. absurd (goes_on c over))

pub returns-in_default-clause-asks : goal.returns-in_default-clause-asks
returns-in_default-clause-asks c = λ code t events st.
    (λ yes. absurd (search rules), λ none. absurd (goes_on c (asks_over code t c.args.self.now events st none)))
