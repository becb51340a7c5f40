use Rattle.std.proofs.Common.{rules, ◌≡◌, None, length, subst, sym}
use Rattle.std.specs.BTreeMap.{get}
use Rattle.dso_config_entries.specs.FirstPlace.{place_of}
use Rattle.dso_config_entries.proofs.lists.Places as laws
use Rattle.dso_config_entries.proofs.interner.Interner.add.Goals as goal

pub invariant_of-self-in-Ok : goal.invariant_of-self-in-Ok
invariant_of-self-in-Ok g c thing =
    let things = c.self.inside.things.items in
    let counts : c.len-number.result ≡ length things = search rules in
    let absent : place_of g.K.Ord.cmp things c.args.thing ≡ None = laws.placeless g.met.K.Ord.total things c.args.thing c.self.invariant c.contains_key.ensures c.if-contains_key.false in
    subst (λ all. get g.K.Ord.cmp c.insert.new.self thing ≡ place_of g.K.Ord.cmp all thing) (sym c.in_ok-push.ensures.items)
    (laws.added g.met.K.Ord.total things c.args.thing c.len-number.result counts absent c.self.invariant
    c.in-Ok.ensures.updates.0 thing)
