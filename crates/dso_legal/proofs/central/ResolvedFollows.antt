-- What follows the program still follows it when its notifications are resolved: the program goes by requests and replies alone.
use Rattle.std.proofs.Common.{◌≡◌, sym, ◌∙◌, ap, subst, Option, Some, List, [], ◌∷◌, ◌++◌}
use Rattle.dso_base.specs.declared.lock.ThreadId.{ThreadId}
use Rattle.dso_base.specs.declared.request.Event.{Event}
use Rattle.dso_base.specs.declared.request.Event.TheVariants.{Act, Lost}
use Rattle.dso_base.specs.declared.request.Request.{Request}
use Rattle.dso_base.specs.Following.{IsListedFor, Listed, FollowsFrom, FollowsProgram}
use Rattle.dso_plain.specs.SameActs.{IsSameAct, AreSameActs}
use Rattle.dso_legal.specs.Resolved.{AreResolved}

-- the same acts, with one more that is the same
pub same_behind : (events same : List Event) (event other : Event) → AreSameActs events same → IsSameAct event other → AreSameActs (events ++ event ∷ []) (same ++ other ∷ [])
same_behind [] [] event other are is = (is, tt)
same_behind [] (y ∷ ys) event other are is = absurd are
same_behind (x ∷ xs) [] event other are is = absurd are
same_behind (x ∷ xs) (y ∷ ys) event other are is = (are.0, same_behind xs ys event other are.1 is)

module _ (next : ThreadId → List Event → Option Request) (t : ThreadId) (goes_by_replies : (events same : List Event) → AreSameActs events same → next t same ≡ next t events) where
  -- events that follow the program, resolved, behind the same acts
  resolved_from : (before same mades events : List Event) → AreSameActs before same → AreResolved mades events → FollowsFrom next (Listed next) t before mades → FollowsFrom next (Listed next) t same events
  resolved_from before same [] [] acts are follows = tt
  resolved_from before same [] (event ∷ events) acts are follows = absurd are
  resolved_from before same (made ∷ mades) [] acts are follows = absurd are
  resolved_from before same (Lost client ∷ mades) (event ∷ events) acts are follows = absurd follows.0
  resolved_from before same (Act u request reply woken ∷ mades) (Lost client ∷ events) acts are follows = absurd (cc are.0.same)
  resolved_from before same (Act u request reply woken ∷ mades) (Act v asked answer chosen ∷ events) acts are follows =
      let still : next t same ≡ next t before = goes_by_replies before same acts in
      let same_request : asked ≡ request = cc are.0.same in
      let same_reply : answer ≡ reply = cc are.0.same in
      let same_thread : v ≡ u = cc are.0.same in (
        (still ∙ follows.0.0 ∙ ap Some (sym same_request), subst (λ reply. IsListedFor (next t same) reply) (sym same_reply) (subst (λ request. IsListedFor request reply) (sym still) follows.0.1)),
        resolved_from (before ++ Act u request reply woken ∷ []) (same ++ Act v asked answer chosen ∷ []) mades events
            (same_behind before same (Act u request reply woken) (Act v asked answer chosen) acts (same_thread, same_request, same_reply)) are.1 follows.1,
      )

  -- So a thread's events, resolved, follow the program.
  pub resolved_follows : (mades events : List Event) → AreResolved mades events → FollowsProgram next (Listed next) t mades → FollowsProgram next (Listed next) t events
  resolved_follows mades events are follows = resolved_from [] [] mades events tt are follows
