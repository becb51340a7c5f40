use Rattle.std.proofs.Common.{◌≡◌, refl}
use Rattle.dso_base.specs.declared.both.Both.TheVariants as both
use Rattle.dso_session.specs.Ends.{sent_count}
use Rattle.dso_wire.specs.Spelling.{IsFrame, IsUp, up_frame_cells}
use Rattle.dso_line.proofs.standing.Clients.{client_given}
use Rattle.dso_cell.proofs.standing.Cells.{goes_through}
use Rattle.dso_cell.proofs.standing.Idle.{idle_given}
use Rattle.dso_cell.proofs.standing.SentCounts.{count_given}
use Rattle.dso_cell.proofs.standing.Steps.{stay_goes_on}
use Rattle.dso_cell.proofs.client_cell.ClientCell.pump.Goals as goal

pub returns-clause-stands : goal.returns-clause-stands
returns-clause-stands c =
    let mid = c.take.new.self in
    let port = c.give.new.self in
    goes_through c.args.code.now c.args.self.now mid (record mid { port = port }) c.in_ok-added.ensures.stands
    (stay_goes_on c.args.code.now mid (record mid { port = port }) refl refl refl refl refl c.give.ensures.rings
    (λ n es stands. client_given n es mid.port port stands c.in_ok-give.ensures.gives c.give.ensures.into))

pub returns-clause-idle : goal.returns-clause-idle
returns-clause-idle c = λ none.
    let mid = c.take.new.self in
    let port = c.give.new.self in
    let gives = c.in_ok-give.ensures.gives in
    let sent : sent_count port.session ≡ sent_count mid.port.session = count_given both.Up up_frame_cells (IsFrame IsUp) gives.frames mid.port.session port.session gives.next in
    idle_given c.args.self.now mid port c.give.ensures.into c.give.ensures.late sent c.in_ok-give.ensures.all (c.in_ok-added.ensures.idle none)
