use Rattle.std.proofs.Common.{◌≡◌, ◌<◌, ◌≤◌, arith, ℕ, List, length, get_or, subst, ap, ◌∙◌}
use Rattle.std.specs.Prelude.{Contains}
use Rattle.std.proofs.lemmas.Grind.{common_steps}
use Rattle.std.proofs.lemmas.List.{get_or_read}
use Rattle.std.proofs.lemmas.Result.{on_ok_weaker}
use Rattle.dso_lint.specs.Leads.{Within}
use Rattle.dso_lint.specs.Marked.{MarksMore}
use Rattle.dso_lint.proofs.calling.Leading.{found_low, leads_next, leads_past}
use Rattle.dso_lint.proofs.leads.look_back.Goals as goal

pub returns-then-next-len : goal.returns-then-next-len
returns-then-next-len c code begun size are so =
    let past : length c.args.marks.now.found.items ≤ c.args.next = grind (arith, common_steps) in
    leads_past code (Within begun) size c.args.next c.args.marks.now past so

pub returns-then-number-callers : goal.returns-then-number-callers
returns-then-number-callers c code begun size are so =
    let found = c.args.marks.now.found.items in
    let next = c.args.next in
    let low : next < length found = grind (arith, common_steps) in
    let is = get_or_read found next c.index-number.result.now low c.index-number.ensures 0 in
    let fits = found_low code (Within begun) size next c.args.marks.now low so in
    let high : length c.args.callers.now ≤ c.index-number.result.now = grind (arith, common_steps) in
    absurd (omega (arith, is, fits, high, are.number))

pub returns : goal.returns
returns c code begun size are so =
    let found = c.args.marks.now.found.items in
    let callers = c.args.callers.now in
    let next = c.args.next in
    let low : next < length found = grind (arith, common_steps) in
    let is = get_or_read found next c.index-number.result.now low c.index-number.ensures 0 in
    let fits = found_low code (Within begun) size next c.args.marks.now low so in
    let one = c.index-callers-number.result in
    let items : c.as_slice.result.now ≡ (get_or callers (get_or found next 0) one).by.items = c.as_slice.ensures.value ∙ ap (λ n. (get_or callers n one).by.items) is in
    on_ok_weaker c.add_each.result
    (λ more. leads_next code (Within begun) size next c.args.marks.now c.add_each.new.self callers one low fits are
    (subst (λ (xs : List ℕ). MarksMore (λ k. Contains xs k) c.args.marks.now c.add_each.new.self) items more) so) c.add_each.ensures
