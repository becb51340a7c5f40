use Rattle.std.proofs.Common.{rules, ◌≡◌, sym, ◌∙◌, ap, Some, []}
use Rattle.std.specs.Ordering.{nat_cmp}
use Rattle.dso_base.specs.Block.{body_names, has_reference}
use Rattle.dso_lookup.specs.Maps.{look}
use Rattle.dso_lookup.specs.Search.{is_listed}
use Rattle.dso_change.proofs.Published.{references_listed}
use Rattle.dso_change.proofs.publish.PrivateBodiesPrivateObjects.named.Goals as goal

pub returns-in_ok-named-in-Some : goal.returns-in_ok-named-in-Some
returns-in_ok-named-in-Some c =
    let there : look nat_cmp c.args.self.now.bodies.now c.args.object ≡ Some c.in-Some.body.now = search rules in
    let values : c.as_slice.result.now ≡ c.in-Some.body.now.values = search rules in
    λ o. ap (λ xs. is_listed o xs) c.in_ok-named-in-Some.ensures ∙ references_listed c.as_slice.result.now [] o ∙ ap (λ xs. has_reference o xs) values ∙ sym (ap (λ b. body_names b o) there)
