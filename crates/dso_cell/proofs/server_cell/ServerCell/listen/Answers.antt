use Rattle.std.proofs.Common.{rules, ◌+◌, ◌<◌, ◌^◌, subst, arith}
use Rattle.dso_port.specs.declared.arrival.Arrival.TheVariants as arrival
use Rattle.dso_cell.specs.ServerEnds.{HasLookedUp, HaveLooked, OneChanged, arrival_of}
use Rattle.dso_cell.proofs.serving.Bounds.{looked_bounds, looked_log}
use Rattle.dso_cell.proofs.serving.Ends.{subject}
use Rattle.dso_cell.proofs.serving.Steps.{rejoin_goes_on}
use Rattle.dso_cell.proofs.server_cell.ServerCell.listen.Goals as goal

pub hear-requires-clause-may : goal.hear-requires-clause-may
hear-requires-clause-may c =
    let old = c.args.self.now in
    let found = c.in-Some.found in
    let mids = c.first_news.new.ends in
    looked_log old c.requires.may (arrival_of found.news) found.place (found.place + 1) mids
    (subst (λ found. HaveLooked found old.ends.items mids.items) c.in-Some.is c.in_ok-found.ensures.looked)

pub hear-requires-clause-low : goal.hear-requires-clause-low
hear-requires-clause-low c =
    let old = c.args.self.now in
    let found = c.in-Some.found in
    let mids = c.first_news.new.ends in
    let looked : OneChanged (HasLookedUp (arrival_of found.news)) found.place old.ends.items mids.items =
    subst (λ found. HaveLooked found old.ends.items mids.items) c.in-Some.is c.in_ok-found.ensures.looked in
    let came : OneChanged (HasLookedUp (arrival.Message c.in-Message.message c.in-Message.heard)) found.place old.ends.items mids.items =
    subst (λ news. OneChanged (HasLookedUp (arrival_of news)) found.place old.ends.items mids.items) c.in-Message.is looked in
    let its = subject (HasLookedUp (arrival.Message c.in-Message.message c.in-Message.heard)) found.place old.ends.items mids.items came in
    let low : c.in-Message.heard < 2 ^ 28 = its.changed.took.heard.low in
    search (rules, low, c.in-Message.heard-is)

pub rejoin-requires : goal.rejoin-requires
rejoin-requires c =
    let old = c.args.self.now in
    let found = c.in-Some.found in
    let mids = c.first_news.new.ends in
    looked_log old c.requires.may (arrival_of found.news) found.place (found.place + 1) mids
    (subst (λ found. HaveLooked found old.ends.items mids.items) c.in-Some.is c.in_ok-found.ensures.looked)

pub returns-in_ok-rejoin-in-Rejoined-clause-stands : goal.returns-in_ok-rejoin-in-Rejoined-clause-stands
returns-in_ok-rejoin-in-Rejoined-clause-stands c =
    let old = c.args.self.now in
    let found = c.in-Some.found in
    let mids = c.first_news.new.ends in
    let looked : OneChanged (HasLookedUp (arrival_of found.news)) found.place old.ends.items mids.items =
    subst (λ found. HaveLooked found old.ends.items mids.items) c.in-Some.is c.in_ok-found.ensures.looked in
    let came : OneChanged (HasLookedUp arrival.Rejoined) found.place old.ends.items mids.items =
    subst (λ news. OneChanged (HasLookedUp (arrival_of news)) found.place old.ends.items mids.items) c.in-Rejoined.is looked in
    rejoin_goes_on c.args.code.now old c.rejoin.new.self mids (found.place + 1) (found.place + 1) found.place (omega arith) came c.in_ok-rejoin-in-Rejoined.ensures.rejoined

pub returns-in-Late-clause-bounds : goal.returns-in-Late-clause-bounds
returns-in-Late-clause-bounds c =
    let old = c.args.self.now in
    let found = c.in-Some.found in
    let mids = c.first_news.new.ends in
    looked_bounds old c.requires.may (arrival_of found.news) found.place (found.place + 1) mids
    (subst (λ found. HaveLooked found old.ends.items mids.items) c.in-Some.is c.in_ok-found.ensures.looked)
