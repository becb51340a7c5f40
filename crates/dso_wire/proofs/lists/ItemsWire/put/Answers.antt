use Rattle.std.proofs.Common.{◌++◌, ◌≡◌, length}
use Rattle.std.specs.List.{flat_map}
use Rattle.std.specs.Int.{w32}
use Rattle.std.proofs.lemmas.List.Elements.{recursion_from_All}
use Rattle.dso_wire.specs.Cells.{bytes_of, number}
use Rattle.dso_wire.proofs.OverItems.{bytes_flat, put_behind}
use Rattle.dso_wire.proofs.lists.ItemsWire.put.Goals as goal

pub returns-clause-spelled : goal.returns-clause-spelled
returns-clause-spelled g c =
    let items = c.args.self.now in
    let each : c.put_each.new.bytes.items ≡ c.put_u32.new.bytes.items ++ bytes_of (flat_map g.T.Wire.cells items) =
    rw (bytes_flat g.T.Wire.cells items) (rw c.as_slice.ensures at c.in_ok-put_each.ensures.spelled) in
    put_behind (number w32 (length items)) (flat_map g.T.Wire.cells items) c.args.bytes.now.items c.put_u32.new.bytes.items c.put_each.new.bytes.items (rw c.len.ensures at c.in_ok-put_u32.ensures.spelled) each

pub returns-clause-is : goal.returns-clause-is
returns-clause-is g c = (c.requires.0, recursion_from_All g.T.Wire.is c.args.self.now (rw c.as_slice.ensures at c.in_ok-put_each.ensures.is))
