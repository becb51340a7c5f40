use Rattle.std.proofs.Common.{◌≡◌, ◌≤◌, ◌+◌, ℕ, ◌∙◌, ap, arith, Option, Some, None}
use Rattle.dso_base.specs.declared.lock.Level.TheVariants.{Write}
use Rattle.dso_base.specs.declared.lock.LockName.{LockName}
use Rattle.dso_base.specs.declared.lock.ThreadId.{ThreadId}
use Rattle.dso_hold.specs.declared.held.Held.{Held}
use Rattle.dso_hold.specs.Holds.{NoConflict, count_at, entered, exited, hold_in, with_hold}
use Rattle.dso_client.specs.LockEntries.{IsLetIn}
use Rattle.dso_client.specs.ActEffects.{CountsAtMost}
use Rattle.dso_client.proofs.replies.Outcomes.{on_ok}
use Rattle.dso_client.proofs.applied.Counts.{counts_with, count_exited, none_held}
use Rattle.dso_client.proofs.applied.Entered.{held_again, written_here}
use Rattle.dso_client.proofs.applied.Holds.{none_left}
use Rattle.dso_client.proofs.hold_effect.hold_again.Goals as goal

pub returns-then-count-eq0-clause-most : goal.returns-then-count-eq0-clause-most
returns-then-count-eq0-clause-most c = λ most h few.
    let t = c.args.thread in
    let l = c.args.lock in
    let old = c.args.holds.now in
    let n = c.count-before.result in
    counts_with most l t (exited n (hold_in old (l, t))) old c.exit.new.self c.exit.ensures.holds h (count_exited most n (hold_in old (l, t)) (h t l))

pub enter-requires-clause-fits : goal.enter-requires-clause-fits
enter-requires-clause-fits c =
    let t = c.args.thread in
    let l = c.args.lock in
    let old = hold_in c.args.holds.now in
    let mid = hold_in c.exit.new.self in
    let gone : mid ≡ with_hold l t None old = c.exit.ensures.holds ∙ ap (λ held. with_hold l t held old) (ap (λ n. exited n (old (l, t))) c.count-before.ensures ∙ none_left (old (l, t))) in
    let none : count_at (mid (l, t)) ≡ 0 = ap count_at (ap (λ (holds : LockName × ThreadId → Option Held). holds (l, t)) gone ∙ written_here l t None old) in
    omega (arith, none)

pub returns-clause-held : goal.returns-clause-held
returns-clause-held c =
    let t = c.args.thread in
    let l = c.args.lock in
    let n = c.args.count in
    let old = hold_in c.args.holds.now in
    let mid = hold_in c.exit.new.self in
    let new = hold_in c.enter.new.holds in
    let gone : mid ≡ with_hold l t None old = c.exit.ensures.holds ∙ ap (λ held. with_hold l t held old) (ap (λ n. exited n (old (l, t))) c.count-before.ensures ∙ none_left (old (l, t))) in
    on_ok c.enter.result (IsLetIn t l Write mid → new ≡ with_hold l t (Some (entered Write n (mid (l, t)))) mid)
    (1 ≤ n → NoConflict t l Write old → new ≡ with_hold l t (Some (record { level = Write; count = n })) old)
    (λ enters. λ once free. held_again t l n old mid new gone enters free) c.enter.ensures.entered

pub returns-clause-most : goal.returns-clause-most
returns-clause-most c =
    let t = c.args.thread in
    let l = c.args.lock in
    let n = c.args.count in
    let before = c.count-before.result in
    let old = hold_in c.args.holds.now in
    let mid = hold_in c.exit.new.self in
    let gone : mid ≡ with_hold l t None old = c.exit.ensures.holds ∙ ap (λ held. with_hold l t held old) (ap (λ n. exited n (old (l, t))) c.count-before.ensures ∙ none_left (old (l, t))) in
    let none : count_at (mid (l, t)) ≡ 0 = ap count_at (ap (λ (holds : LockName × ThreadId → Option Held). holds (l, t)) gone ∙ written_here l t None old) in
    on_ok c.enter.result ((most : ℕ) → CountsAtMost most c.exit.new.self → count_at (mid (l, t)) + n ≤ most → CountsAtMost most c.enter.new.holds)
    ((most : ℕ) → CountsAtMost most c.args.holds.now → n ≤ most → CountsAtMost most c.enter.new.holds)
    (λ counts. λ most h few. counts most
    (counts_with most l t (exited before (old (l, t))) c.args.holds.now c.exit.new.self c.exit.ensures.holds h (count_exited most before (old (l, t)) (h t l)))
    (none_held most n (count_at (mid (l, t))) none few)) c.enter.ensures.most
