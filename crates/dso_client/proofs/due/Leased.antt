-- What is leased was granted, and nothing that was granted is due in a run.
use Rattle.std.specs.List.{list_any}
use Rattle.std.proofs.Common.{◌≡◌, ℕ, refl, sym, ◌∙◌, ap, Bool, true, false, cond, ◌&&◌, ◌||◌, is_some, Option, Some, None, List, [], ◌∷◌}
use Rattle.dso_base.specs.declared.journal.Entry.{Entry}
use Rattle.dso_base.specs.declared.journal.Input.{Input}
use Rattle.dso_base.specs.declared.journal.Input.TheVariants as input
use Rattle.dso_base.specs.declared.journal.Sent.{Sent}
use Rattle.dso_base.specs.declared.journal.Sent.TheVariants.{ToServer, ToClient}
use Rattle.dso_base.specs.declared.lock.LockName.{LockName}
use Rattle.dso_base.specs.declared.lock.ThreadId.{ThreadId}
use Rattle.dso_base.specs.declared.message.Down.TheVariants as down
use Rattle.dso_base.specs.declared.message.Up.{Up}
use Rattle.dso_base.specs.declared.message.Up.TheVariants as up
use Rattle.dso_base.specs.declared.request.Event.{Event}
use Rattle.dso_base.specs.declared.request.Request.{Request}
use Rattle.dso_plain.specs.KeyTests.{is_lock}
use Rattle.dso_plain.proofs.keys.SameKeys.{same_lock}
use Rattle.dso_law.specs.declared.readings.LockStanding.{LockStanding}
use Rattle.dso_law.specs.Settings.{Settings}
use Rattle.dso_law.specs.Entries.{by_sent_up, by_taken_down}
use Rattle.dso_law.specs.Leases.{standing_up, standing_down, standing, leased, insert_lock, is_lock_before, granted_by, granted}
use Rattle.dso_law.specs.Closing.{is_lease_due}
use Rattle.dso_law.specs.ClientRun.{ClientRun, next_in}
use Rattle.dso_law.proofs.runs.Quiet.{nothing_is_due}
use Rattle.dso_client.proofs.due.Parts.{each_fails}

again : (a r : Bool) → (a || r) ≡ (a || (a || r))
again true r = refl
again false r = refl

swapped : (a b r : Bool) → (b || (a || r)) ≡ (a || (b || r))
swapped true true r = refl
swapped true false r = refl
swapped false b r = refl

pub among_insert : (l k : LockName) (locks : List LockName) → list_any (is_lock l) (insert_lock k locks) ≡ (is_lock l k || list_any (is_lock l) locks)
among_insert l k [] = refl
among_insert l k (first ∷ rest) = by (is_lock k first) refl (is_lock_before k first) (among_insert l k rest)
  where
    by : (a : Bool) → is_lock k first ≡ a → (b : Bool) → list_any (is_lock l) (insert_lock k rest) ≡ (is_lock l k || list_any (is_lock l) rest)
        → list_any (is_lock l) (cond a (first ∷ rest) (cond b (k ∷ first ∷ rest) (first ∷ insert_lock k rest))) ≡ (is_lock l k || (is_lock l first || list_any (is_lock l) rest))
    by true same b later = again (is_lock l first) (list_any (is_lock l) rest) ∙ ap (λ x. is_lock l x || (is_lock l first || list_any (is_lock l) rest)) (same_lock k first same)
    by false differ true later = refl
    by false differ false later = ap (λ b. is_lock l first || b) later ∙ swapped (is_lock l k) (is_lock l first) (list_any (is_lock l) rest)

module _ (l : LockName) where
  said_lease : (m : Up) (s : LockStanding) → is_some (standing_up l m s).lease ≡ true → is_some s.lease ≡ true
  said_lease (up.Request k level) s = by (is_lock l k)
    where
      by : (b : Bool) → is_some (cond b (record s { is_asked = true }) s).lease ≡ true → is_some s.lease ≡ true
      by true h = h
      by false h = h
  said_lease (up.Return k threads) s = by (is_lock l k)
    where
      by : (b : Bool) → is_some (cond b (record s { lease = None }) s).lease ≡ true → is_some s.lease ≡ true
      by true h = absurd (cc h)
      by false h = h
  said_lease m s = λ h. h

  sent_lease : (out : List Sent) (s : LockStanding) → is_some (by_sent_up (standing_up l) out s).lease ≡ true → is_some s.lease ≡ true
  sent_lease [] s h = h
  sent_lease (ToServer m ∷ out) s h = said_lease m s (sent_lease out (standing_up l m s) h)
  sent_lease (ToClient c m ∷ out) s h = sent_lease out s h

  by_input : (i : Input) (s : LockStanding) (locks : List LockName) → (is_some s.lease ≡ true → list_any (is_lock l) locks ≡ true) → is_some (by_taken_down (standing_down l) i s).lease ≡ true
      → list_any (is_lock l) (by_taken_down granted_by i locks) ≡ true
  by_input (input.TookDown (down.Grant k level)) s locks before h = among_insert l k locks ∙ by (is_lock l k) h
    where
      by : (b : Bool) → is_some (cond b (record { lease = Some level; is_asked = false }) s).lease ≡ true → (b || list_any (is_lock l) locks) ≡ true
      by true h = refl
      by false h = before h
  by_input (input.TookDown m) s locks before h = before h
  by_input i s locks before h = before h

  pub leased_granted : (es : List Entry) → is_some (leased l es) ≡ true → list_any (is_lock l) (granted es) ≡ true
  leased_granted [] h = absurd (cc h)
  leased_granted (e ∷ es) h = by_input e.input (standing l es) (granted es) (leased_granted es) (sent_lease e.sent (by_taken_down (standing_down l) e.input (standing l es)) h)

-- no lease of a run is to be given back between two entries
pub quiet_lease : (p : Settings) (c : ℕ) (next : ThreadId → List Event → Option Request) (es : List Entry) → ClientRun p c next es → (l : LockName)
    → (is_some (leased l es) && is_lease_due p c (next_in next es) l es) ≡ false
quiet_lease p c next es run l = by (is_some (leased l es)) refl
  where
    by : (b : Bool) → is_some (leased l es) ≡ b → (b && is_lease_due p c (next_in next es) l es) ≡ false
    by false e = refl
    by true e = ap (λ b. b && is_lease_due p c (next_in next es) l es) (sym e)
        ∙ each_fails (λ k. is_lease_due p c (next_in next es) k es) (λ k. is_some (leased k es)) l (granted es) (nothing_is_due p c next es run) (leased_granted l es e)
