use Rattle.std.proofs.Common.{◌≡◌, ◌≤◌, length, slice_get, sym, ◌∙◌, ap, subst, rules, Some}
use Rattle.dso_store.specs.Graph.{body_in}
use Rattle.dso_keep.proofs.lists.News.{IsOther, body_elsewhere, body_here, slice_at, slice_past}
use Rattle.dso_keep.proofs.fitting.body_of.Goals.{in_default-via-in-Some+else-body-object, in_default-via-in_default}
use Rattle.dso_keep.proofs.fitting.body_of.Goals as goal

pub returns-in-Some : goal.returns-in-Some
returns-in-Some c =
    let body = c.in-Some.body.now in
    let found = c.in-Some.ensures.lookup in
    let is : slice_get c.args.news.now c.place_of.result ≡ Some body = slice_at c.args.news.now c.place_of.result body found.3.0 ∙ ap Some (sym found.1) in
    sym (body_here c.args.object c.args.news.now c.place_of.result (body_in c.args.store.now c.args.object) body c.requires c.place_of.ensures is c.if-body-object.true)

pub returns-in_default : goal.returns-in_default
returns-in_default c =
    let other : IsOther c.args.object (slice_get c.args.news.now c.place_of.result) = elim c.in_default.branch [
      | in_default-via-in-Some+else-body-object w ↦
          let found = w.in-Some.ensures.lookup in
          subst (IsOther c.args.object) (sym (slice_at c.args.news.now c.place_of.result w.in-Some.body.now found.3.0 ∙ ap Some (sym found.1))) w.if-body-object.false
      | in_default-via-in_default w ↦
          let past : length c.args.news.now ≤ c.place_of.result = search rules in
          subst (IsOther c.args.object) (sym (slice_past c.args.news.now c.place_of.result past)) tt
    ] in
    c.object.ensures ∙ sym (body_elsewhere c.args.object c.args.news.now c.place_of.result (body_in c.args.store.now c.args.object) c.requires c.place_of.ensures other)
