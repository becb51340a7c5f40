use Rattle.std.proofs.Common.{◌∙◌}
use Rattle.dso_base.specs.declared.value.ClassId.TheVariants as class
use Rattle.dso_law.specs.Store.{opening_roots}
use Rattle.dso_store.proofs.BodiesWritten.{one_body}
use Rattle.dso_store.proofs.bodies.opening_bodies.Goals as goal

pub returns : goal.returns
returns c = one_body (opening_roots c.args.shape.now) (record { object = 0; class = class.Roots; values = c.from_vec.result }) c.new-bodies.result c.put.new.map c.new-bodies.ensures.empty (λ i. record { object = 0; class = class.Roots; values = (c.from_vec.ensures ∙ c.in_ok-values.ensures) i }) c.in_ok-put.ensures
