use Rattle.std.proofs.Common.{◌≡◌, ◌+◌, ◌*◌, ◌-◌, ◌/◌, ◌≤◌, sym, ◌∙◌, ap, None, drop, take, arith}
use Rattle.dso_world.specs.Flags.{nth_set}
use Rattle.dso_world.proofs.flags.Blocks.{next_behind, next_in_block, next_of_all, no_places, rest_of_block}
use Rattle.dso_world.proofs.chooser.next_set.Goals as goal

pub returns-in-Some-clause-place : goal.returns-in-Some-clause-place
returns-in-Some-clause-place c = next_in_block c.args.begin (c.min-end.result - c.args.begin) c.in-Some.at c.args.flags.now (sym c.in-Some.ensures.place)

pub returns-in-Some-nth_from-clause-place : goal.returns-in-Some-nth_from-clause-place
returns-in-Some-nth_from-clause-place c =
    let begin = c.args.begin in
    let to = 64 * (begin / 64 + 1) in
    let before : begin ≤ to = omega arith in
    let none : nth_set 0 (take (to - begin) (drop begin c.args.flags.now)) ≡ None = ap (nth_set 0) (sym (rest_of_block begin to c.min-end.result c.args.flags.now c.min-end.ensures before)) ∙ sym c.nth_set.ensures.place ∙ c.in_default.is in
    let sum : begin + (to - begin) ≡ to = omega arith in
    next_behind begin (to - begin) to c.in-Some-nth_from.place c.args.flags.now none sum c.in-Some-nth_from.ensures.place

pub returns-in-None-clause-place : goal.returns-in-None-clause-place
returns-in-None-clause-place c =
    let begin = c.args.begin in
    let to = 64 * (begin / 64 + 1) in
    let before : begin ≤ to = omega arith in
    let none : nth_set 0 (take (to - begin) (drop begin c.args.flags.now)) ≡ None = ap (nth_set 0) (sym (rest_of_block begin to c.min-end.result c.args.flags.now c.min-end.ensures before)) ∙ sym c.nth_set.ensures.place ∙ c.in_default.is in
    let sum : begin + (to - begin) ≡ to = omega arith in
    c.nth_from-in-None.ensures.place ∙ sym (no_places (nth_set 0 c.args.flags.now)) ∙ next_of_all begin (to - begin) to c.args.flags.now none sum c.in-None.ensures.place
