use Rattle.std.proofs.Common.{ap, ◌∙◌}
use Rattle.std.proofs.lemmas.Result.{IfOk-weaker}
use Rattle.dso_machine.specs.Frames.{is_listed}
use Rattle.dso_machine.proofs.frames.Named.{named_out, named_over, rests_at_ask}
use Rattle.dso_machine.proofs.thread.Thread.named.Goals as goal

pub returns-in-Going : goal.returns-in-Going
returns-in-Going c = IfOk-weaker c.objects_held.result _ _
    (λ objects listed code t events st o. ap (is_listed o) listed ∙ named_out code t c.args.self.now events c.in-Going.now c.request_of.result o st c.in-Going.is c.request_of.ensures)
    c.objects_held.ensures

pub returns-in-Over : goal.returns-in-Over
returns-in-Over c = λ code t events st o. ap (is_listed o) c.new.ensures.items ∙ named_over code t c.args.self.now events o st c.in-Over.is

pub request_of-requires : goal.request_of-requires
request_of-requires c = rests_at_ask c.args.self.now c.in-Going.now c.in-Going.is c.requires.rests
