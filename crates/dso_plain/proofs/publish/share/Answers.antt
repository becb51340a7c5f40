use Rattle.std.proofs.Common.{rules, ◌≡◌, refl, ap, ◌∙◌, ltb, None, Some}
use Rattle.std.specs.Option.{option_map}
use Rattle.std.specs.Ordering.{nat_cmp}
use Rattle.dso_lookup.specs.Maps.{look}
use Rattle.dso_plain.specs.State.{size_of}
use Rattle.dso_plain.specs.HeapTables.{object_of, pasts_of, state_of}
use Rattle.dso_plain.proofs.publishing.ObjectShared.{object_shared, absent_shared}
use Rattle.dso_plain.proofs.publish.share.Goals as goal

pub returns-in_default-clause-state : goal.returns-in_default-clause-state
returns-in_default-clause-state c =
    let none : None ≡ look nat_cmp c.args.tables.now.objects c.args.object = search rules in
    absent_shared c.args.object c.args.tables.now none c.requires

pub returns-clause-state : goal.returns-clause-state
returns-clause-state c =
    let there : look nat_cmp c.args.tables.now.objects c.args.object ≡ Some c.in-Some.record = search rules in
    let size : size_of ((state_of c.args.tables.now).objects c.args.object) ≡ c.in-Some.record.size = ap (λ x. size_of (option_map object_of x)) there in
    object_shared c.args.object c.in-Some.record record { class = c.in-Some.record.class; size = c.in-Some.record.size; owner = None } c.args.tables.now (look nat_cmp c.put.new.map) (pasts_of c.open_fields.new.past) there refl c.in_ok-put.ensures (λ f out. c.requires.no_other_past f (ap (λ n. ltb f n) size ∙ out)) (λ f. c.requires.values f ∙ ap (λ n. ltb f n) size) c.in_ok-open_fields.ensures
