use Rattle.std.proofs.Common.{◌≡◌, ℕ, sym, ◌∙◌, ap, subst, true, Some}
use Rattle.dso_base.specs.declared.message.Up.TheVariants as up
use Rattle.dso_law.specs.UseOrder.{use_order}
use Rattle.dso_lease.specs.Leases.{after_want, standing_in, with_standing}
use Rattle.dso_table.specs.States.{State, asked as with_asked, is_absent}
use Rattle.dso_table.specs.ObjectTables.{state_in}
use Rattle.dso_client.specs.AskedActs.{IsMissing, asked}
use Rattle.dso_client.specs.StateStands.{StateStands, ClientPartsStand}
use Rattle.dso_client.specs.RunPoints.{RunPoint}
use Rattle.dso_client.proofs.replies.Outcomes.{on_ok}
use Rattle.dso_client.proofs.asked.Locks.{lock_asked}
use Rattle.dso_client.proofs.asked.Objects.{ids_asked, lease_asked, object_asked, absent}
use Rattle.dso_client.proofs.asked.Parts.{lock_state_ids, lock_state_object, sequences_ids, sequences_kept, parts_asked}
use Rattle.dso_client.proofs.asked_act.ask.Goals as goal

pub returns-in-IdAsk-clause-parts : goal.returns-in-IdAsk-clause-parts
returns-in-IdAsk-clause-parts c = λ clock at h mine missing.
    let old = c.args.kept.now in
    let t = c.args.thread in
    let table = c.acted.new.self in
    let sequences = record old.sequences { is_asking = true } in
    subst (λ m. ClientPartsStand (asked clock t.index m at) (record old { table = table; sequences = sequences })) (sym c.in-IdAsk.is)
    (parts_asked clock t.index at up.IdAsk tt old h table old.lock_state sequences (ids_asked clock at t mine old.table (use_order at.settings at.entries) h.table table c.acted.ensures)
    (lock_state_ids clock t.index at old.lock_state h.lock_state) (sequences_ids clock t.index at old.sequences h.sequences))

pub returns-in-Fault-clause-parts : goal.returns-in-Fault-clause-parts
returns-in-Fault-clause-parts c =
    let old = c.args.kept.now in
    let t = c.args.thread in
    let o = c.in-Fault.object in
    let m = up.Fault o in
    let mid = c.acted.new.self in
    let table = c.ask_object.new.table in
    on_ok c.ask_object.result (is_absent ((state_in mid).standing o) ≡ true → state_in table ≡ with_asked o t (state_in mid))
    ((clock : ℕ) (at : RunPoint) → StateStands at old → t.client ≡ at.client → IsMissing at.entries c.args.message.now → ClientPartsStand (asked clock t.index c.args.message.now at) (record old { table = table }))
    (λ is. λ clock at h mine missing.
    let lacks = subst (IsMissing at.entries) c.in-Fault.is missing in
    let away = absent clock at t mine old.table (use_order at.settings at.entries) h.table o lacks.0 lacks.1 in
    let there = is (ap (λ (s : State). is_absent (s.standing o)) c.acted.ensures ∙ away) ∙ ap (with_asked o t) c.acted.ensures in
    subst (λ m. ClientPartsStand (asked clock t.index m at) (record old { table = table })) (sym c.in-Fault.is)
    (parts_asked clock t.index at m lacks old h table old.lock_state old.sequences (object_asked clock at t mine old.table (use_order at.settings at.entries) h.table o lacks.0 table there)
    (lock_state_object clock t.index at o old.lock_state h.lock_state) (sequences_kept clock t.index at m lacks (λ e. cc e) old.sequences h.sequences)))
    c.ask_object.ensures

pub returns-in-Request-clause-parts : goal.returns-in-Request-clause-parts
returns-in-Request-clause-parts c =
    let old = c.args.kept.now in
    let t = c.args.thread in
    let l = c.in-Request.lock in
    let level = c.in-Request.level in
    let m = up.Request l level in
    let table = c.acted.new.self in
    let lock_state = c.ask_lock.new.lock_state in
    on_ok c.ask_lock.result (standing_in lock_state.leases ≡ with_standing l (Some (after_want level (standing_in old.lock_state.leases l))) (standing_in old.lock_state.leases))
    ((clock : ℕ) (at : RunPoint) → StateStands at old → t.client ≡ at.client → IsMissing at.entries c.args.message.now
    → ClientPartsStand (asked clock t.index c.args.message.now at) (record old { table = table; lock_state = lock_state }))
    (λ is. λ clock at h mine missing.
    let lacks = subst (IsMissing at.entries) c.in-Request.is missing in
    subst (λ m. ClientPartsStand (asked clock t.index m at) (record old { table = table; lock_state = lock_state })) (sym c.in-Request.is)
    (parts_asked clock t.index at m lacks old h table lock_state old.sequences (lease_asked clock at t mine old.table (use_order at.settings at.entries) h.table l level table c.acted.ensures)
    (lock_asked clock t.index at l level old.lock_state lock_state h.lock_state lacks.0 lacks.1 c.ask_lock.ensures.holds c.ask_lock.ensures.lists is)
    (sequences_kept clock t.index at m lacks (λ e. cc e) old.sequences h.sequences)))
    c.ask_lock.ensures.wanted
