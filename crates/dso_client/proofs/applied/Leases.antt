-- The leases once a request was answered.
use Rattle.std.proofs.Common.{◌≡◌, ℕ, refl, sym, ◌∙◌, ap, Bool, true, false, cond, ◌||◌, Option, Some, None}
use Rattle.std.specs.Option.{option_map, option_map_or}
use Rattle.dso_base.specs.declared.lock.Level.{Level}
use Rattle.dso_base.specs.declared.lock.LockName.{LockName}
use Rattle.dso_base.specs.declared.request.Reply.{Reply}
use Rattle.dso_base.specs.declared.request.Reply.TheVariants.{Done}
use Rattle.dso_base.specs.declared.request.Request.{Request}
use Rattle.dso_base.specs.declared.request.Request.TheVariants.{Enter, Resume}
use Rattle.dso_lease.specs.declared.leases.Leases.{Leases}
use Rattle.dso_lease.specs.declared.standing.LeaseStanding.{LeaseStanding}
use Rattle.dso_lease.specs.Leases as lease
use Rattle.dso_lease.specs.Leases.{standing_in, with_standing}
use Rattle.dso_plain.specs.KeyTests.{is_lock}
use Rattle.dso_plain.proofs.keys.SameKeys.{same_lock}
use Rattle.dso_law.specs.Leases.{leased, is_entered, is_recalled, is_asked_for, enters}
use Rattle.dso_client.specs.declared.answered.Answered.{Answered}
use Rattle.dso_client.specs.ActEffects.{applied, entered_lock, LeasesStand}
use Rattle.dso_client.specs.LockStateStands.{standing_as}
use Rattle.dso_client.specs.RunPoints.{RunPoint}
use Rattle.dso_client.proofs.heard.Locks.{at_lock}

-- an act enters its lock
enter_tells : (x : LockName) (request : Request) (reply : Reply) → enters x request reply ≡ option_map_or (is_lock x) (entered_lock request reply) false
enter_tells x (Enter l level) Done = refl
enter_tells x (Enter l level) reply = refl
enter_tells x (Resume l) Done = refl
enter_tells x (Resume l) reply = refl
enter_tells x request reply = refl

entered_so : (level : Option Level) (entered recalled asked : Bool) → option_map lease.entered (standing_as level entered recalled asked) ≡ standing_as level true recalled asked
entered_so (Some level) entered recalled asked = refl
entered_so None entered recalled true = refl
entered_so None entered recalled false = refl

module _ (clock : ℕ) (at : RunPoint) (act : Answered) (old : Leases) (h : LeasesStand at old) where
  abbrev after : LockName → Bool → Option LeaseStanding
  after x entered = standing_as (leased x at.entries) (entered || is_entered x at.entries) (is_recalled x at.entries) (is_asked_for x at.entries)

  pub lease_entered : (l : LockName) (new : Leases) → entered_lock act.request act.reply ≡ Some l → standing_in new ≡ with_standing l (option_map lease.entered (standing_in old l)) (standing_in old)
      → LeasesStand (applied clock act at) new
  lease_entered l new is entered x = ap (λ leases. leases x) entered
      ∙ (at_lock l (option_map lease.entered (standing_in old l)) (standing_in old) x
      ∙ (by (is_lock x l) refl ∙ ap (after x) (sym (enter_tells x act.request act.reply ∙ ap (λ k. option_map_or (is_lock x) k false) is))))
    where
      by : (b : Bool) → is_lock x l ≡ b → cond b (option_map lease.entered (standing_in old l)) (standing_in old x)
          ≡ standing_as (leased x at.entries) (b || is_entered x at.entries) (is_recalled x at.entries) (is_asked_for x at.entries)
      by true e = ap (option_map lease.entered) (h l)
          ∙ (entered_so (leased l at.entries) (is_entered l at.entries) (is_recalled l at.entries) (is_asked_for l at.entries)
          ∙ ap (λ k. standing_as (leased k at.entries) true (is_recalled k at.entries) (is_asked_for k at.entries)) (same_lock x l e))
      by false e = h x
