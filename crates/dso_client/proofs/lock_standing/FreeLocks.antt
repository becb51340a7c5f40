-- Whether no thread of a client holds a lock, by its list of holds.
use Rattle.std.specs.List.{list_any}
use Rattle.std.proofs.Common.{◌≡◌, ◌↔◌, refl, sym, ◌∙◌, ap, Bool, true, false, not, ◌||◌, is_none, IsTrue, Option, Some, None, List, [], ◌∷◌}
use Rattle.std.specs.Option.{option_map}
use Rattle.dso_base.specs.declared.lock.LockName.{LockName}
use Rattle.dso_base.specs.declared.lock.ThreadId.{ThreadId}
use Rattle.dso_base.specs.Following.{is_thread}
use Rattle.dso_hold.specs.declared.tables.HoldTables.{HoldTables}
use Rattle.dso_hold.specs.Holds as hold
use Rattle.dso_hold.specs.Holds.{IsFree}
use Rattle.dso_plain.specs.State.{Hold}
use Rattle.dso_law.specs.Closing.{is_free}
use Rattle.dso_law.specs.Settings.{threads_of}
use Rattle.dso_law.specs.Threads.{hold_in, hold_of}
use Rattle.dso_client.specs.ActEffects.{HoldsStand}
use Rattle.dso_client.specs.LockStateStands.{as_hold}
use Rattle.dso_client.specs.RunPoints.{RunPoint}
use Rattle.dso_client.specs.RunFacts.{AreOwnHolds}
use Rattle.dso_client.proofs.applied.Entered.{passes_not}
use Rattle.dso_client.proofs.lock_standing.HoldsSome.{gone}

-- what passes for none of a list passes for none in it
none_passes : (test : ThreadId → Bool) (threads : List ThreadId) → ((t : ThreadId) → test t ≡ false) → list_any test threads ≡ false
none_passes test [] fails = refl
none_passes test (t ∷ threads) fails = ap (λ b. b || list_any test threads) (fails t) ∙ none_passes test threads fails

isnt_there : (held : Option Hold) → not (is_none held) ≡ false → held ≡ None
isnt_there None e = refl
isnt_there (Some held) e = absurd (cc e)

module _ (at : RunPoint) (holds : HoldTables) (h : HoldsStand at holds) (own : AreOwnHolds at) (l : LockName) where
  abbrev is_holder : ThreadId → Bool
  is_holder t = not (is_none (hold_of t l at.entries))

  abbrev is_held : Bool
  is_held = list_any is_holder (threads_of at.settings at.client)

  none_holds : is_held ≡ false → IsFree l (hold.hold_in holds)
  none_holds none t = gone (hold.hold_in holds (l, t)) (h t l ∙ isnt_there (hold_of t l at.entries) (by (list_any (is_thread t) (threads_of at.settings at.client)) refl))
    where
      by : (b : Bool) → list_any (is_thread t) (threads_of at.settings at.client) ≡ b → is_holder t ≡ false
      by true its = passes_not t is_holder (threads_of at.settings at.client) none its
      by false stranger = ap (λ holds. not (is_none (hold_in l holds))) (own t stranger)

  all_free : IsFree l (hold.hold_in holds) → is_held ≡ false
  all_free free = none_passes is_holder (threads_of at.settings at.client) (λ t. ap (λ held. not (is_none held)) (sym (h t l) ∙ ap (option_map as_hold) (free t)))

  pub free_as : (told : Bool) → IsTrue told ↔ IsFree l (hold.hold_in holds) → told ≡ is_free at.settings at.client at.next l at.entries
  free_as told tells = by told is_held refl tells
    where
      by : (told held : Bool) → is_held ≡ held → IsTrue told ↔ IsFree l (hold.hold_in holds) → told ≡ not held
      by true true is tells = absurd (cc (sym is ∙ all_free (tells.0 refl)))
      by true false is tells = refl
      by false true is tells = refl
      by false false is tells = absurd (cc (tells.1 (none_holds is)))
