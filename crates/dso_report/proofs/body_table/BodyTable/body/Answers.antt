use Rattle.std.proofs.Common.{◌≡◌, sym, ap, ◌∙◌, slice_get}
use Rattle.std.specs.Option.{option_and_then, option_copied}
use Rattle.dso_report.proofs.bodies.Found.{found, looked_up}
use Rattle.dso_report.proofs.body_table.BodyTable.body.Goals as goal

-- the body stands where its object does
pub returns-in-Some : goal.returns-in-Some
returns-in-Some c =
    let table = c.args.self.now in
    let there : option_copied c.get.result ≡ slice_get table.bodies.now c.in-Some.place = looked_up table.bodies.now c.in-Some.place c.get.result c.get.ensures.lookup.1 c.get.ensures.lookup.3 in
    there ∙ ap (option_and_then (slice_get table.bodies.now)) (sym c.in-Some.is ∙ c.get_index_of.ensures.index) ∙ found table.bodies.now table.objects.keys c.args.object table.placed

-- an object without a place has no body
pub returns-in-None : goal.returns-in-None
returns-in-None c =
    let table = c.args.self.now in
    ap (option_and_then (slice_get table.bodies.now)) (sym c.in-None.is ∙ c.get_index_of.ensures.index) ∙ found table.bodies.now table.objects.keys c.args.object table.placed
