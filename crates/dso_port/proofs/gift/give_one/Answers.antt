use Rattle.std.proofs.Common.{◌≡◌, ◌+◌, sym, ◌∙◌, ap, subst, Some, [], ◌∷◌, ◌++◌, map}
use Rattle.std.proofs.lemmas.List.{map-append}
use Rattle.dso_session.specs.Ends.{next_frame}
use Rattle.dso_wire.specs.Cells.{bytes_of}
use Rattle.dso_port.specs.Ports.{EndKeeps, frames_left, given, lifted}
use Rattle.dso_port.proofs.ends.Given.{given_one, keeps_behind, one_less, own_frame}
use Rattle.dso_port.proofs.gift.give_one.Goals as goal

pub own_frame-requires : goal.own_frame-requires
own_frame-requires g c = own_frame g.S.Carried.as_both c.args.session.now c.requires c.in-Some.frame (sym c.in_ok-frame.ensures.frame ∙ c.in-Some.is)

pub returns-in_err-bytes-in-Some-clause-keeps : goal.returns-in_err-bytes-in-Some-clause-keeps
returns-in_err-bytes-in-Some-clause-keeps g c = subst (EndKeeps g.S.Carried.as_both) (sym c.in_ok-frame.ensures.behind)
    (keeps_behind g.S.Carried.as_both c.args.session.now c.requires)

pub returns-in_ok-bytes-in-Some-clause-keeps : goal.returns-in_ok-bytes-in-Some-clause-keeps
returns-in_ok-bytes-in-Some-clause-keeps g c = subst (EndKeeps g.S.Carried.as_both) (sym c.in_ok-frame.ensures.behind)
    (keeps_behind g.S.Carried.as_both c.args.session.now c.requires)

pub returns-in_ok-bytes-in-Some-clause-gives : goal.returns-in_ok-bytes-in-Some-clause-gives
returns-in_ok-bytes-in-Some-clause-gives g c =
    let is : next_frame c.args.session.now ≡ Some (lifted g.S.Carried.as_both c.own_frame.result) = sym c.in_ok-frame.ensures.frame ∙ c.in-Some.is ∙ ap Some c.own_frame.ensures in
    let sent = c.push_reserved.ensures.sent.0 ∙ ap (λ list. list ++ c.in_ok-bytes-in-Some.bytes ∷ []) c.if-is_full.ensures.looked.1 in
    let more : given c.push_reserved.new.self ≡ given c.args.out.now ++ bytes_of (g.S.Carried.cells c.own_frame.result) ∷ [] =
    ap (map (λ item. item.items)) sent ∙ map-append (λ item. item.items) _ (c.in_ok-bytes-in-Some.bytes ∷ [])
    ∙ ap (λ bytes. given c.args.out.now ++ bytes ∷ []) c.in_ok-bytes-in-Some.ensures.bytes in
    given_one g.S.Carried.as_both g.S.Carried.cells g.S.Carried.is c.args.session.now c.next_frame.new.self (given c.args.out.now) (given c.push_reserved.new.self)
    c.own_frame.result c.requires.order.seen c.in_ok-bytes-in-Some.ensures.is is c.in_ok-frame.ensures.behind more

pub returns-in_ok-bytes-in-Some-clause-less : goal.returns-in_ok-bytes-in-Some-clause-less
returns-in_ok-bytes-in-Some-clause-less g c =
    ap (λ end. frames_left end + 1) c.in_ok-frame.ensures.behind
    ∙ one_less g.S.Carried.as_both c.args.session.now c.requires c.in-Some.frame (sym c.in_ok-frame.ensures.frame ∙ c.in-Some.is)
