use Rattle.std.proofs.Common.{refl, sym, ◌∙◌, ap}
use Rattle.dso_law.specs.ServerReadings.{counted}
use Rattle.dso_law.proofs.server.SameGraph.{same_graph_fits}
use Rattle.dso_server.specs.Fitting.{graph_in}
use Rattle.dso_server.proofs.server.Server.take.Goals as goal

pub returns-then-contains-clause-taken : goal.returns-then-contains-clause-taken
returns-then-contains-clause-taken c = λ p es ps s its knows. (sym (c.contains.ensures ∙ ap (λ f. f c.args.client) s.lost) ∙ c.if-contains.true, (c.new.ensures.items, refl))

pub returns-then-not-fits-clause-taken : goal.returns-then-not-fits-clause-taken
returns-then-not-fits-clause-taken c = λ p es ps s its knows.
    let here = sym (c.contains.ensures ∙ ap (λ f. f c.args.client) s.lost) ∙ c.if-contains.false in
    let by_graph = same_graph_fits (graph_in c.args.self.now) p c.args.client c.args.message.now (counted es) (knows here) in
    (here, λ fits. cc (sym c.if-not-fits.true ∙ (c.fits.ensures.tells p es ps s).1 (by_graph.1 fits)), c.tag.ensures, c.in_ok-messages.ensures.lost p es s)

pub returns-clause-taken : goal.returns-clause-taken
returns-clause-taken c = λ p es ps s its knows.
    let here = sym (c.contains.ensures ∙ ap (λ f. f c.args.client) s.lost) ∙ c.if-contains.false in
    let by_graph = same_graph_fits (graph_in c.args.self.now) p c.args.client c.args.message.now (counted es) (knows here) in
    let fit = by_graph.0 ((c.fits.ensures.tells p es ps s).0 c.if-not-fits.false) in
    (here, fit, c.in_ok-messages-2.ensures.answers p es s its here fit knows)
