use Rattle.std.proofs.Common.{◌≡◌, ℕ, sym, ◌∙◌, subst}
use Rattle.dso_base.specs.declared.record.Txn.{Txn}
use Rattle.dso_keep.specs.Reading.{IsRecordIn, graph_in}
use Rattle.dso_keep.specs.Records.{FitsGraph}
use Rattle.dso_keep.proofs.once.Records.{same_record}
use Rattle.dso_keep.proofs.kept.Kept.add.Goals as goal

pub returns-then-not-fits_graph-clause-none : goal.returns-then-not-fits_graph-clause-none
returns-then-not-fits_graph-clause-none c = λ same s has own fits.
    let r : ℕ × Txn = (c.in-Some.client, c.in-Some.txn) in
    let told = subst (IsRecordIn c.args.packet.now) c.in-Some.is c.in_ok-client.ensures in
    let one : s ≡ r = same_record c.one_frame.ensures.record_too s r has told.0 (sym own ∙ told.1) in
    cc (sym c.if-not-fits_graph.true ∙ c.fits_graph.ensures.1 (subst (FitsGraph c.args.shape.now (graph_in c.args.self.now.store)) one fits))

pub returns-clause-added : goal.returns-clause-added
returns-clause-added c = λ same.
    let told = subst (IsRecordIn c.args.packet.now) c.in-Some.is c.in_ok-client.ensures in
    record {
      r = (c.in-Some.client, c.in-Some.txn);
      is = told.0;
      own = told.1;
      fits = c.fits_graph.ensures.0 c.if-not-fits_graph.false;
      records = c.in_ok-push.ensures.items;
      graph = λ i. record { bodies = c.in_ok-apply.ensures.bodies i; last = c.in_ok-apply.ensures.last i };
    }
