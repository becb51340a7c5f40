use Rattle.std.proofs.Common.{◌∙◌, ap, subst}
use Rattle.dso_server.specs.Records.{IsPlaceOf}
use Rattle.dso_server.proofs.lists.Among.{among_at, is_there}
use Rattle.dso_server.proofs.fits_parts.is_among.Goals as goal

pub returns-in-Some : goal.returns-in-Some
returns-in-Some c = ap (is_there c.args.object) c.in-Some.ensures ∙ among_at c.args.object c.args.news.now c.place_of.result c.requires (subst (λ news. IsPlaceOf c.args.object news c.place_of.result) c.as_slice.ensures c.place_of.ensures)

pub returns-in-None : goal.returns-in-None
returns-in-None c = ap (is_there c.args.object) c.in-None.ensures ∙ among_at c.args.object c.args.news.now c.place_of.result c.requires (subst (λ news. IsPlaceOf c.args.object news c.place_of.result) c.as_slice.ensures c.place_of.ensures)
