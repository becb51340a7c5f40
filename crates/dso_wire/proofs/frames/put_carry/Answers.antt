use Rattle.std.proofs.Common.{◌∷◌, []}
use Rattle.std.specs.Int.{w32, w64}
use Rattle.dso_wire.specs.Cells.{number, tag, ◌▸◌}
use Rattle.dso_wire.proofs.OverItems.{put_behind}
use Rattle.dso_wire.proofs.frames.put_carry.Goals as goal

pub returns-clause-spelled : goal.returns-clause-spelled
returns-clause-spelled g c =
    let head = c.args.head in
    let last = c.put.new.bytes.items in
    let message = g.M.Wire.cells c.args.message.now in
    let clock = put_behind (number w64 head.clock) message c.put_u64-2.new.bytes.items c.put_u64-3.new.bytes.items last c.in_ok-put_u64-3.ensures.spelled c.in_ok-put.ensures.spelled in
    let seen = put_behind (number w64 head.seen) (number w64 head.clock ▸ message) c.put_u64.new.bytes.items c.put_u64-2.new.bytes.items last c.in_ok-put_u64-2.ensures.spelled clock in
    let place = put_behind (number w64 head.number) (number w64 head.seen ▸ number w64 head.clock ▸ message) c.put_u32.new.bytes.items c.put_u64.new.bytes.items last c.in_ok-put_u64.ensures.spelled seen in
    let epoch = put_behind (number w32 head.epoch) (number w64 head.number ▸ number w64 head.seen ▸ number w64 head.clock ▸ message) c.push.new.self.items c.put_u32.new.bytes.items last c.in_ok-put_u32.ensures.spelled place in
    put_behind (tag c.args.direction ∷ []) (number w32 head.epoch ▸ number w64 head.number ▸ number w64 head.seen ▸ number w64 head.clock ▸ message) c.args.bytes.now.items c.push.new.self.items last c.in_ok-push.ensures.items epoch
