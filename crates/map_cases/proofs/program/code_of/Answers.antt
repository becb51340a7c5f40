use Rattle.std.proofs.Common.{◌≡◌, refl, length}
use Rattle.dso_machine.specs.declared.code.Code.{Code}
use Rattle.map_cases.specs.CallCode.{call_code}
use Rattle.map_cases.proofs.Soundness.{sound_made}
use Rattle.map_cases.proofs.program.code_of.Goals as goal

pub returns-clause-sound : goal.returns-clause-sound
returns-clause-sound c =
    let code : Code = record { shape = c.in_ok-shape.field-0; methods = c.new-6.result; bodies = c.in_ok-one.field-0 } in
    let is : code ≡ call_code c.args.map c.in_ok-callees.callees c.in_ok-args.args =
    rw (
      c.in_ok-shape.ensures,
      c.new-6.ensures,
      c.in_ok-one.ensures,
      c.in_ok-new.ensures.ok,
      c.in_ok-body.ensures,
      c.in_ok-print.ensures.ok,
      c.in_ok-call.ensures.ok,
      c.in_ok-called.ensures.ok,
      c.in_ok-on.ensures.ok,
    ) refl in
    sound_made c.args.map c.in_ok-callees.callees c.in_ok-args.args (length c.args.values.now) code is c.requires.part c.in_ok-args.ensures.parts
    c.in_ok-args.ensures.count c.in_ok-callees.ensures
