-- The leases that clients have are known to the server; so no two threads hold a lock in conflict.
use Rattle.std.proofs.Common.{◌≡◌, refl, sym, ◌∙◌, ap, subst, Bool, true, false, cond, eqb, Option, Some, None, List, [], ◌∷◌}
use Rattle.dso_base.specs.declared.journal.Entry.{Entry}
use Rattle.dso_base.specs.declared.journal.Node.TheVariants.{Server, Client}
use Rattle.dso_base.specs.declared.lock.Level.{Level}
use Rattle.dso_base.specs.declared.lock.Level.TheVariants.{Read, Write}
use Rattle.dso_base.specs.declared.lock.LockName.{LockName}
use Rattle.dso_base.specs.declared.lock.ThreadId.{ThreadId}
use Rattle.dso_base.specs.declared.message.Down.{Down}
use Rattle.dso_base.specs.declared.message.Down.TheVariants as down
use Rattle.dso_base.specs.declared.message.Up.{Up}
use Rattle.dso_base.specs.declared.message.Up.TheVariants as up
use Rattle.dso_base.specs.declared.request.Event.{Event}
use Rattle.dso_base.specs.declared.request.Request.{Request}
use Rattle.dso_base.specs.Following.{is_thread}
use Rattle.dso_plain.specs.KeyTests.{is_lock}
use Rattle.dso_plain.specs.State.{Hold}
use Rattle.dso_plain.proofs.keys.SameKeys.{same_number}
use Rattle.dso_law.specs.declared.readings.LockStanding.{LockStanding}
use Rattle.dso_law.specs.Settings.{Settings}
use Rattle.dso_law.specs.Entries.{entries_of}
use Rattle.dso_law.specs.Channels.{up_in_flight, down_in_flight}
use Rattle.dso_law.specs.Threads.{hold_of}
use Rattle.dso_law.specs.Leases.{standing_up, standing_down, standing, leased}
use Rattle.dso_law.specs.RequestNeeds.{is_enough, conflicts}
use Rattle.dso_law.specs.ServerReadings.{is_lost, counted}
use Rattle.dso_law.specs.Granting.{standing_with}
use Rattle.dso_legal.specs.Agreement.{messages, after, EachMay}
use Rattle.dso_legal.specs.Holds.{LeasesAreKnown, HoldsAreCompatible}
use Rattle.dso_legal.specs.Lawful.{IsLawful}
use Rattle.dso_legal.specs.Tokens.{MayGoDown}
use Rattle.dso_legal.proofs.leases.Holds.{enough_there, holds_well}
use Rattle.dso_legal.proofs.leases.KeptLeases.{with_lease}
use Rattle.dso_legal.proofs.leases.LeasesCompatible.{leases_are_compatible}
use Rattle.dso_legal.proofs.leases.Tokens.{leases_are_tokens}

-- a lease that is there after a message up was there before it
one_before : (l : LockName) (m : Up) (s : LockStanding) (level : Level) → (standing_up l m s).lease ≡ Some level → s.lease ≡ Some level
one_before l (up.Request k wanted) s level e = by (is_lock l k) e
  where
    by : (b : Bool) → (cond b (record s { is_asked = true }) s).lease ≡ Some level → s.lease ≡ Some level
    by true e = e
    by false e = e
one_before l (up.Return k threads) s level e = by (is_lock l k) e
  where
    by : (b : Bool) → (cond b (record s { lease = None }) s).lease ≡ Some level → s.lease ≡ Some level
    by true e = absurd (cc e)
    by false e = e
one_before l m s level e = e

lease_before : (l : LockName) (ms : List Up) (s : LockStanding) (level : Level) → (after (standing_up l) ms s).lease ≡ Some level → s.lease ≡ Some level
lease_before l [] s level e = e
lease_before l (m ∷ ms) s level e = one_before l m s level (lease_before l ms (standing_up l m s) level e)

-- and a lease stays as messages come down, since a grant comes only where there is none
one_stays : (l : LockName) (m : Down) (s : LockStanding) (level : Level) → MayGoDown l m s → s.lease ≡ Some level → (standing_down l m s).lease ≡ Some level
one_stays l (down.Grant k granted) s level may e = by (is_lock l k) refl
  where
    by : (b : Bool) → is_lock l k ≡ b → (cond b (with_lease granted) s).lease ≡ Some level
    by true f = absurd (let both : Some level ≡ None = sym e ∙ ap (λ (s : LockStanding). s.lease) (may f) in cc both)
    by false f = e
one_stays l m s level may e = e

lease_stays : (l : LockName) (ms : List Down) (s : LockStanding) (level : Level) → EachMay (MayGoDown l) (standing_down l) ms s → s.lease ≡ Some level → (after (standing_down l) ms s).lease ≡ Some level
lease_stays l [] s level may e = e
lease_stays l (m ∷ ms) s level may e = lease_stays l ms (standing_down l m s) level may.1 (one_stays l m s level may.0 e)

pub leases_are_known : LeasesAreKnown
leases_are_known p next es h c l level alive e =
    let agree = leases_are_tokens p next es h c l alive in
    lease_before l (messages (up_in_flight c es)) (standing_with c l (counted (entries_of Server es))) level
    (ap (λ (s : LockStanding). s.lease) agree.meet ∙ lease_stays l (messages (down_in_flight c es)) (standing l (entries_of (Client c) es)) level agree.downs e)

-- holds within leases that don't conflict don't conflict
covered : (a b x y : Level) → is_enough a (Some x) ≡ true → is_enough b (Some y) ≡ true → conflicts x (Some y) ≡ false → conflicts a (Some b) ≡ false
covered Read Read x y e f g = refl
covered Write b Read y e f g = absurd (cc e)
covered Write b Write Read e f g = absurd (cc g)
covered Write b Write Write e f g = absurd (cc g)
covered Read Write x Read e f g = absurd (cc f)
covered Read Write Read Write e f g = absurd (cc g)
covered Read Write Write Write e f g = absurd (cc g)

module _ (p : Settings) (next : ThreadId → List Event → Option Request) (es : List Entry) (h : IsLawful p next es) (t u : ThreadId) (l : LockName) (a b : Hold) (other : is_thread t u ≡ false)
    (held : hold_of t l (entries_of (Client t.client) es) ≡ Some a) (held_too : hold_of u l (entries_of (Client u.client) es) ≡ Some b) where
  -- of one client
  at_one : t.client ≡ u.client → conflicts a.level (Some b.level) ≡ false
  at_one same = (holds_well p next es h.follow t.client).apart t u l a b other held (subst (λ n. hold_of u l (entries_of (Client n) es) ≡ Some b) (sym same) held_too)

  -- of two clients, by their leases
  by_leases : (x y : Option Level) → eqb t.client u.client ≡ false → is_lost t.client (entries_of Server es) ≡ false → is_lost u.client (entries_of Server es) ≡ false
      → leased l (entries_of (Client t.client) es) ≡ x → leased l (entries_of (Client u.client) es) ≡ y → is_enough a.level x ≡ true → is_enough b.level y ≡ true → conflicts a.level (Some b.level) ≡ false
  by_leases None y apart alive alive_too e f enough enough_too = absurd (enough_there a.level None enough refl)
  by_leases (Some x) None apart alive alive_too e f enough enough_too = absurd (enough_there b.level None enough_too refl)
  by_leases (Some x) (Some y) apart alive alive_too e f enough enough_too = covered a.level b.level x y enough enough_too
      (subst (λ (lease : Option Level). conflicts x lease ≡ false) (leases_are_known p next es h u.client l y alive_too f)
      (leases_are_compatible p next es h t.client u.client l x apart (leases_are_known p next es h t.client l x alive e)))

  by_clients : (same : Bool) → eqb t.client u.client ≡ same → is_lost t.client (entries_of Server es) ≡ false → is_lost u.client (entries_of Server es) ≡ false → conflicts a.level (Some b.level) ≡ false
  by_clients true e alive alive_too = at_one (same_number t.client u.client e)
  by_clients false e alive alive_too = by_leases (leased l (entries_of (Client t.client) es)) (leased l (entries_of (Client u.client) es)) e alive alive_too refl refl
      ((holds_well p next es h.follow t.client).within t l a held).enough ((holds_well p next es h.follow u.client).within u l b held_too).enough

pub holds_are_compatible : HoldsAreCompatible
holds_are_compatible p next es h t u l a b other alive alive_too held held_too = by_clients p next es h t u l a b other held held_too (eqb t.client u.client) refl alive alive_too
