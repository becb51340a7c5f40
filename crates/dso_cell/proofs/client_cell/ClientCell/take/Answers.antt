use Rattle.std.proofs.Common.{rules, ◌≡◌, ◌⊎◌, inl, inr, ℕ, ap, refl, ◌∙◌, subst, List}
use Rattle.dso_base.specs.declared.both.Both.TheVariants as both
use Rattle.dso_base.specs.declared.journal.Entry.{Entry}
use Rattle.dso_base.specs.declared.message.Down.{Down}
use Rattle.dso_base.specs.declared.message.Up.{Up}
use Rattle.dso_session.specs.Ends.{sent_count}
use Rattle.dso_wire.specs.Spelling.{IsDown, IsFrame, down_frame_cells}
use Rattle.dso_port.specs.Ports.{HasTaken, PortState, TookFrame, lifted}
use Rattle.dso_port.specs.declared.arrival.Arrival.{Arrival}
use Rattle.dso_port.specs.declared.arrival.Arrival.TheVariants as arrival
use Rattle.dso_line.specs.Lines.{ClientLineStands}
use Rattle.dso_line.proofs.standing.Clients.{client_dropped, client_unmoved}
use Rattle.dso_cell.proofs.standing.Bounds.{may_still}
use Rattle.dso_cell.proofs.standing.Cells.{goes_through}
use Rattle.dso_cell.proofs.standing.SentCounts.{count_taken}
use Rattle.dso_cell.proofs.standing.Steps.{rejoin_goes_on, stay_goes_on}
use Rattle.dso_cell.proofs.client_cell.ClientCell.take.Goals as goal

-- no frame came, or one that makes no entry
unheard : (n : ℕ) (es : List Entry) (old mid : PortState Up Down) → mid.out ≡ old.out → (told : Arrival Down) → (told ≡ arrival.Nothing) ⊎ (told ≡ arrival.Dropped)
    → HasTaken both.Down down_frame_cells (IsFrame IsDown) told old mid → ClientLineStands n es old → ClientLineStands n es mid
unheard n es old mid out told (inl nothing) taken stands =
    let none = subst (λ told. HasTaken both.Down down_frame_cells (IsFrame IsDown) told old mid) nothing taken in
    client_unmoved n es old mid stands none.1 none.0 out
unheard n es old mid out told (inr dropped) taken stands =
    let took = subst (λ told. HasTaken both.Down down_frame_cells (IsFrame IsDown) told old mid) dropped taken in
    client_dropped n es old mid stands took.frame took.took took.heard out

pub rejoin-requires : goal.rejoin-requires
rejoin-requires c =
    let old = c.args.self.now in
    let mid = c.take.new.self in
    let took : TookFrame both.Down down_frame_cells (IsFrame IsDown) arrival.Rejoined old.port mid = search rules in
    let same : sent_count mid.session ≡ sent_count old.port.session = ap (λ end. sent_count end) took.heard.now ∙ count_taken (lifted both.Down took.frame) old.port.session in
    record { may = (c.args.code.now, may_still c.args.code.now old mid same c.requires.may) }

pub flush-requires : goal.flush-requires
flush-requires c =
    let old = c.args.self.now in
    let mid = c.take.new.self in
    let same : mid.session ≡ old.port.session = search rules in
    record { may = (c.args.code.now, may_still c.args.code.now old mid (ap (λ end. sent_count end) same) c.requires.may) }

pub returns-in_ok-rejoin-in-Rejoined-clause-bounds : goal.returns-in_ok-rejoin-in-Rejoined-clause-bounds
returns-in_ok-rejoin-in-Rejoined-clause-bounds c =
    let old = c.args.self.now in
    let mid = c.take.new.self in
    let took : TookFrame both.Down down_frame_cells (IsFrame IsDown) arrival.Rejoined old.port mid = search rules in
    let same : sent_count mid.session ≡ sent_count old.port.session = ap (λ end. sent_count end) took.heard.now ∙ count_taken (lifted both.Down took.frame) old.port.session in
    c.in_ok-rejoin-in-Rejoined.ensures.bounds c.args.code.now (may_still c.args.code.now old mid same c.requires.may)

pub returns-in_ok-rejoin-in-Rejoined-clause-stands : goal.returns-in_ok-rejoin-in-Rejoined-clause-stands
returns-in_ok-rejoin-in-Rejoined-clause-stands c =
    let old = c.args.self.now in
    let mid = c.take.new.self in
    let took : TookFrame both.Down down_frame_cells (IsFrame IsDown) arrival.Rejoined old.port mid = search rules in
    rejoin_goes_on c.args.code.now old c.rejoin.new.self mid c.take.ensures.rings c.take.ensures.out took c.rejoins_change_nothing.ensures c.in_ok-rejoin-in-Rejoined.ensures.rejoined

pub returns-in-Late-clause-stands : goal.returns-in-Late-clause-stands
returns-in-Late-clause-stands c =
    let old = c.args.self.now in
    let mid = c.take.new.self in
    let took : TookFrame both.Down down_frame_cells (IsFrame IsDown) arrival.Late old.port mid = search rules in
    stay_goes_on c.args.code.now old (record old { port = mid }) refl refl refl refl refl c.take.ensures.rings
    (λ n es stands. client_dropped n es old.port mid stands took.frame took.took took.heard c.take.ensures.out)

pub returns-in_ok-flush-in-Nothing-clause-bounds : goal.returns-in_ok-flush-in-Nothing-clause-bounds
returns-in_ok-flush-in-Nothing-clause-bounds c =
    let old = c.args.self.now in
    let mid = c.take.new.self in
    let same : mid.session ≡ old.port.session = search rules in
    c.in_ok-flush-in-Nothing.ensures.bounds c.args.code.now (may_still c.args.code.now old mid (ap (λ end. sent_count end) same) c.requires.may)

pub returns-in_ok-flush-in-Nothing-clause-stands : goal.returns-in_ok-flush-in-Nothing-clause-stands
returns-in_ok-flush-in-Nothing-clause-stands c =
    let old = c.args.self.now in
    let mid = c.take.new.self in
    goes_through c.args.code.now old (record old { port = mid }) c.flush.new.self
    (stay_goes_on c.args.code.now old (record old { port = mid }) refl refl refl refl refl c.take.ensures.rings
    (λ n es stands. unheard n es old.port mid c.take.ensures.out c.in_ok-message.field-0 c.in-Nothing.is c.in_ok-message.ensures.taken stands))
    (c.in_ok-flush-in-Nothing.ensures.stands c.args.code.now)
