-- The flush of a client.
use Rattle.std.proofs.Common.{◌≡◌, ℕ, ap, sym, ◌∙◌, is_some, inl, inr, Option, Some, None}
use Rattle.std.specs.Option.{IfSome, IfNone}
use Rattle.dso_law.proofs.core.Bodies.{bodies_are_held}
use Rattle.dso_law.proofs.runs.Numbers.{records_are_acked_in_order}
use Rattle.dso_machine.specs.Next.{next_request}
use Rattle.dso_table.specs.States.{flushed}
use Rattle.dso_table.specs.ObjectTables.{state_in}
use Rattle.dso_table.specs.Victims.{IsFlushable, IsVictim, NoVictim}
use Rattle.dso_client.specs.declared.client_state.ClientState.{ClientState}
use Rattle.dso_client.specs.ClientStands.{point}
use Rattle.dso_client.specs.ObjectFlushes.{Flushes, IsVictimOf, NoneDue, TellsFlush}
use Rattle.dso_client.proofs.flushed.Flushable.{may_flush_it, none_due, victim_as}
use Rattle.dso_client.proofs.flushed.Flushed.{stands_flushed}
use Rattle.dso_client.proofs.flushed.OneVictim.{one_victim}
use Rattle.dso_client.proofs.flushed.ResidentsListed.{may_flush_some}

victim_goes : (kept : ClientState) (o : ℕ) → IsVictim (state_in kept.table) o → IsFlushable (state_in kept.table) o
victim_goes kept o h = elim h.chosen [ inl first ↦ first.flushable | inr last ↦ last.flushable ]

pub flush_made : (found : Option ℕ) (old new : ClientState) → IfSome found (IsVictim (state_in old.table)) → IfSome found (λ o. state_in new.table ≡ flushed o (state_in old.table))
    → new ≡ record old { table = new.table } → IfSome found (Flushes old new)
flush_made None old new victim is same = tt
flush_made (Some o) old new victim is same = λ code p c clock es h.
    let goes = victim_goes old o victim in
    let table = h.parts.table in
    stands_flushed code p c clock o es old new h
    (may_flush_it (point code p c es) old.table table h.parts.facts (records_are_acked_in_order p c (next_request code) es h.run) o victim.full goes)
    (sym (ap is_some (table.bodies o) ∙ (bodies_are_held o es).resident) ∙ goes.resident) is same

-- the victim is the one that the entries name
pub flush_named : (found : Option ℕ) (kept : ClientState) → IfSome found (IsVictim (state_in kept.table)) → IfSome found (IsVictimOf kept)
flush_named None kept victim = tt
flush_named (Some o) kept victim = λ code p c es h.
    let named = victim_as (point code p c es) kept.table h.parts.table h.parts.facts (records_are_acked_in_order p c (next_request code) es h.run) o victim in
    (named, λ x other. one_victim p c o x es named other)

pub flush_none : (found : Option ℕ) (kept : ClientState) → IfNone found (NoVictim (state_in kept.table)) → IfNone found (NoneDue kept)
flush_none (Some o) kept none = tt
flush_none None kept none = λ code p c es h.
    none_due (point code p c es) kept.table h.parts.table h.parts.facts (records_are_acked_in_order p c (next_request code) es h.run) none

-- whether there is a victim tells whether there is a flush
pub flush_told : (found : Option ℕ) (kept : ClientState) → IfSome found (IsVictim (state_in kept.table)) → IfNone found (NoVictim (state_in kept.table)) → TellsFlush kept (is_some found)
flush_told None kept victim none = λ code p c es h. sym (flush_none None kept none code p c es h)
flush_told (Some o) kept victim none = λ code p c es h. sym (may_flush_some p c o es
    (may_flush_it (point code p c es) kept.table h.parts.table h.parts.facts (records_are_acked_in_order p c (next_request code) es h.run) o victim.full (victim_goes kept o victim)))
