use Rattle.std.proofs.Common.{refl, sym, ap, subst}
use Rattle.std.specs.Option.{IfSome, IfNone}
use Rattle.dso_client.specs.declared.client_state.ClientState.{ClientState}
use Rattle.dso_client.specs.ThreadActs.{HoldsAtMost}
use Rattle.dso_client.specs.ObjectFlushes.{Flushes, IsVictimOf, NoneDue}
use Rattle.dso_client.proofs.flushed.FlushMade.{flush_made, flush_named, flush_none}
use Rattle.dso_client.proofs.client.Client.flush.Goals as goal

pub returns-clause-made : goal.returns-clause-made
returns-clause-made c =
    let new = record c.self.inside.kept { table = c.flush.new.table } in
    subst (λ old. IfSome c.flush.result (Flushes old new)) c.self.view_is
    (flush_made c.flush.result c.self.inside.kept new c.flush.ensures.victim c.flush.ensures.flushed refl)

pub returns-clause-named : goal.returns-clause-named
returns-clause-named c = subst (λ old. IfSome c.flush.result (IsVictimOf old)) c.self.view_is
    (flush_named c.flush.result c.self.inside.kept c.flush.ensures.victim)

pub returns-clause-none : goal.returns-clause-none
returns-clause-none c = subst (λ old. IfNone c.flush.result (NoneDue old)) c.self.view_is
    (flush_none c.flush.result c.self.inside.kept c.flush.ensures.none)

pub returns-clause-holds : goal.returns-clause-holds
returns-clause-holds c = λ most h.
    let before = subst (HoldsAtMost most) (sym c.self.view_is) h in
    record { held = before.held; waiting = before.waiting }

pub returns-clause-records : goal.returns-clause-records
returns-clause-records c = ap (λ (kept : ClientState). kept.sequences.records) c.self.view_is
