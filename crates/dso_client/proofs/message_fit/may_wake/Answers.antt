use Rattle.std.proofs.Common.{◌≡◌, ◌↔◌, IsTrue, subst, Bool, true, false, refl}
use Rattle.std.specs.List.{list_any}
use Rattle.dso_base.specs.Following.{is_thread}
use Rattle.dso_law.specs.FitsDown.{IsWaitingOn}
use Rattle.dso_law.specs.Settings.{threads_of}
use Rattle.dso_client.specs.MessageFits.{MayWake}
use Rattle.dso_client.specs.StateStands.{StateStands}
use Rattle.dso_client.specs.Openings.{thread_at}
use Rattle.dso_client.specs.RunPoints.{RunPoint}
use Rattle.dso_client.proofs.contexts.ContextsFound.{found_stands, found_is, never_missing}
use Rattle.dso_client.proofs.message_fit.may_wake.Goals as goal

pub returns-in-Some : goal.returns-in-Some
returns-in-Some c = λ at stands.
    subst (λ t. IsTrue c.awaits_wake.result ↔ MayWake c.args.lock t at.entries) (found_is at c.args.kept.now stands c.args.index c.in-Some.context.now c.in-Some.ensures)
    (c.awaits_wake.ensures at stands.lock_state (found_stands at c.args.kept.now stands c.args.index c.in-Some.context.now c.in-Some.ensures))

pub returns-in-None : goal.returns-in-None
returns-in-None c = λ at stands. ((λ e. absurd (cc e)), (λ w. absurd (by at stands w (list_any (is_thread (thread_at at.client c.args.index)) (threads_of at.settings at.client)) refl)))
  where
    by : (at : RunPoint) (stands : StateStands at c.args.kept.now) (w : MayWake c.args.lock (thread_at at.client c.args.index) at.entries) (b : Bool)
        → list_any (is_thread (thread_at at.client c.args.index)) (threads_of at.settings at.client) ≡ b → ⊥
    by at stands w true its = never_missing at c.args.kept.now stands c.args.index its c.in-None.ensures
    by at stands w false its = subst (IsWaitingOn c.args.lock) (stands.facts.waitless (thread_at at.client c.args.index) its) w.waits
