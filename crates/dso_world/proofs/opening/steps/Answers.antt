use Rattle.std.proofs.Common.{◌≡◌, length, map, arith}
use Rattle.dso_legal.specs.Slots.{slots}
use Rattle.dso_world.specs.WorldSteps.{settings_of, slot_of}
use Rattle.dso_world.proofs.places.OwnSteps.{all_listed, table_placed, table_within}
use Rattle.dso_world.proofs.opening.steps.Goals as goal

pub new-requires-clause-placed : goal.new-requires-clause-placed
new-requires-clause-placed c =
    let program = c.args.program.now in
    let front = c.in_ok-steps.steps in
    let behind : c.len-behind.result ≡ length front.items = (let is = c.len-behind.ensures in let items = front.ok.0 in omega (arith, is, items)) in
    let takes : c.loop-number.number ≡ program.clients = (let past = c.loop-number-test.false in let within = c.loop-number.auto.number-end in omega (arith, past, within)) in
    let triggers : c.loop-number-2.number ≡ program.clients = (let past = c.loop-number-2-test.false in let within = c.loop-number-2.auto.number-end in omega (arith, past, within)) in
    let all : map slot_of c.loop-number-2.steps.items ≡ slots (settings_of program) = all_listed (settings_of program) front.items c.loop-number.steps.items c.loop-number-2.steps.items c.loop-number.number c.loop-number-2.number
    c.in_ok-steps.ensures.listed c.loop-number.invariant c.loop-number-2.invariant takes triggers in
    table_placed program c.requires c.in_ok-steps.own.items c.in_ok-steps.ensures.own front.items c.in_ok-steps.ensures.listed c.len-behind.result behind c.loop-number-2.steps.items all

pub new-requires-clause-within : goal.new-requires-clause-within
new-requires-clause-within c =
    let front = c.in_ok-steps.steps in
    let behind : c.len-behind.result ≡ length front.items = (let is = c.len-behind.ensures in let items = front.ok.0 in omega (arith, is, items)) in
    table_within c.args.program.now c.requires c.in_ok-steps.own.items c.in_ok-steps.ensures.own front.items c.in_ok-steps.ensures.listed c.len-behind.result behind
