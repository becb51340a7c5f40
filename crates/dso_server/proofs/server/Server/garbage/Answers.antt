use Rattle.std.proofs.Common.{rules, ◌≡◌, ◌↔◌, ◌++◌, subst, true}
use Rattle.std.proofs.lemmas.Result.{IfOk-weaker}
use Rattle.dso_gc.specs.Garbage.{IsGarbageOf}
use Rattle.dso_lookup.specs.Search.{is_listed}
use Rattle.dso_server.proofs.Collected.{garbage_here}
use Rattle.dso_server.proofs.server.Server.garbage.Goals as goal

pub returns-clause-exact : goal.returns-clause-exact
returns-clause-exact c = IfOk-weaker c.garbage.result _ _ (λ swept exact o.
    let both : c.as_slice-2.result.now ≡ c.in_ok-all.all.items ++ c.args.edges.now = search rules in
    let by_lists : (is_listed o swept.items ≡ true) ↔ IsGarbageOf c.in_ok-objects.objects.items c.args.starts.now (c.in_ok-all.all.items ++ c.args.edges.now) o =
    subst (λ edges. (is_listed o swept.items ≡ true) ↔ IsGarbageOf c.in_ok-objects.objects.items c.args.starts.now edges o) both
    (subst (λ objects. (is_listed o swept.items ≡ true) ↔ IsGarbageOf objects c.args.starts.now c.as_slice-2.result.now o) c.as_slice.ensures.value (exact o)) in
    let at = garbage_here c.args.self.now c.args.starts.now c.args.edges.now c.in_ok-all.all.items c.in_ok-all.ensures c.in_ok-objects.objects.items c.in_ok-objects.ensures.there o in
    ((λ e. at.0 (by_lists.0 e)), (λ g. by_lists.1 (at.1 g)))) c.garbage.ensures.exact
