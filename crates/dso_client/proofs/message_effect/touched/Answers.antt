use Rattle.std.proofs.Common.{◌≡◌, ◌∙◌, sym, ap, subst, Bool, true, false, refl}
use Rattle.std.specs.List.{list_any}
use Rattle.dso_base.specs.Following.{is_thread}
use Rattle.dso_law.specs.FitsDown.{FitsDown, FitsWake, IsWaitingOn}
use Rattle.dso_law.specs.Settings.{threads_of}
use Rattle.dso_client.specs.StateStands.{StateStands}
use Rattle.dso_client.specs.Openings.{thread_at}
use Rattle.dso_client.specs.RunPoints.{RunPoint}
use Rattle.dso_client.specs.TouchedLocks.{resumed_lock, touched}
use Rattle.dso_client.proofs.contexts.ContextsFound.{found_stands, found_is, never_missing}
use Rattle.dso_client.proofs.message_effect.touched.Goals as goal

pub returns-in-Some : goal.returns-in-Some
returns-in-Some c = λ at h fits.
    let kept = c.args.kept.now in
    let t = c.in-Wake.thread in
    let context = c.in-Some.context.now in
    let right = subst (λ m. FitsDown at.settings at.client m at.entries) c.in-Wake.is fits in
    let stands = found_stands at kept h t.index context c.in-Some.ensures in
    let id = found_is at kept h t.index context c.in-Some.ensures ∙ ap (λ client. thread_at client t.index) (sym right.its) in
    c.resumed_lock.ensures ∙ (ap resumed_lock (stands.next ∙ ap at.next id) ∙ ap (touched at) (sym c.in-Wake.is))

pub returns-in-None : goal.returns-in-None
returns-in-None c = λ at h fits.
    let right = subst (λ m. FitsDown at.settings at.client m at.entries) c.in-Wake.is fits in
    absurd (by at h right (list_any (is_thread (thread_at at.client c.in-Wake.thread.index)) (threads_of at.settings at.client)) refl)
  where
    by : (at : RunPoint) (h : StateStands at c.args.kept.now) (w : FitsWake at.client c.in-Wake.field-0 c.in-Wake.thread at.entries) (b : Bool)
        → list_any (is_thread (thread_at at.client c.in-Wake.thread.index)) (threads_of at.settings at.client) ≡ b → ⊥
    by at h w true its = never_missing at c.args.kept.now h c.in-Wake.thread.index its c.in-None.ensures
    by at h w false its =
        let same = ap (λ client. thread_at client c.in-Wake.thread.index) w.its in
        subst (IsWaitingOn c.in-Wake.field-0) (h.facts.waitless c.in-Wake.thread (ap (λ t. list_any (is_thread t) (threads_of at.settings at.client)) same ∙ its)) w.waits
