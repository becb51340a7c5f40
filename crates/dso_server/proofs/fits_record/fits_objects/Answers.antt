use Rattle.std.proofs.Common.{sym, ◌∙◌}
use Rattle.std.specs.List.{AllByRecursion}
use Rattle.dso_base.specs.Block.{is_field_before}
use Rattle.dso_law.specs.FitsUp.{FitsNewsBy, FitsSetBy, Rises}
use Rattle.dso_law.specs.ServerReadings.{counted}
use Rattle.dso_server.specs.Fitting.{graph_in}
use Rattle.dso_server.proofs.lists.Telling.{no, told_at, told_by}
use Rattle.dso_server.proofs.fits_record.fits_objects.Goals as goal

pub returns-then-not-all_news_fit : goal.returns-then-not-all_news_fit
returns-then-not-all_news_fit c = λ p es ps s.
    let news = told_at (AllByRecursion (FitsNewsBy (graph_in c.args.server.now) p c.args.client (counted es))) c.as_slice.ensures (c.all_news_fit.ensures p es ps s) in
    no (λ fits. cc (sym c.if-not-all_news_fit.true ∙ news.1 fits.0))

pub returns-then-not-all_sets_fit : goal.returns-then-not-all_sets_fit
returns-then-not-all_sets_fit c = λ p es ps s.
    let sets = told_at (AllByRecursion (FitsSetBy (graph_in c.args.server.now) p c.args.client (counted es))) c.as_slice-2.ensures (c.all_sets_fit.ensures p es ps s) in
    no (λ fits. cc (sym c.if-not-all_sets_fit.true ∙ sets.1 fits.1))

pub returns : goal.returns
returns c = λ p es ps s.
    let news = told_at (AllByRecursion (FitsNewsBy (graph_in c.args.server.now) p c.args.client (counted es))) c.as_slice.ensures (c.all_news_fit.ensures p es ps s) in
    let sets = told_at (AllByRecursion (FitsSetBy (graph_in c.args.server.now) p c.args.client (counted es))) c.as_slice-2.ensures (c.all_sets_fit.ensures p es ps s) in
    told_by (told_at (Rises is_field_before) c.as_slice-3.ensures c.are_rising_sets.ensures) (λ rise. (news.0 c.if-not-all_news_fit.false, sets.0 c.if-not-all_sets_fit.false, rise)) (λ fits. fits.2)
