-- The lease of a lock tells what the rule asks of leases.
use Rattle.std.specs.List.{list_any}
use Rattle.std.specs.Option.{option_map, option_map_or}
use Rattle.std.proofs.Common.{ℕ, ◌≡◌, refl, ap, false, not, ◌||◌, ◌&&◌, is_some, Option, Some, None, List, [], ◌∷◌, Bool, true, ◌∙◌}
use Rattle.dso_base.specs.declared.journal.Entry.{Entry}
use Rattle.dso_base.specs.declared.lock.Level.{Level}
use Rattle.dso_base.specs.declared.lock.LockName.{LockName}
use Rattle.dso_base.specs.declared.lock.ThreadId.{ThreadId}
use Rattle.dso_base.specs.declared.request.Request.{Request}
use Rattle.dso_law.specs.Settings.{Settings, threads_of}
use Rattle.dso_law.specs.Threads.{is_local}
use Rattle.dso_law.specs.Leases.{leased, is_entered, is_recalled}
use Rattle.dso_law.specs.Closing.{is_read, awaits_write, admits, is_closing, is_free, is_lease_due}
use Rattle.dso_law.specs.LeaseHeld.{Lease, awaits_lease}
use Rattle.dso_law.specs.CoreLaws.{LeasesTell, ClosingIsKept}

module _ (p : Settings) (c : ℕ) (next : ThreadId → Option Request) (l : LockName) (es : List Entry) where
  -- the lease of this level, where there is one
  abbrev of_level : Option Level → Option Lease
  of_level level = option_map (λ level. record { level = level; is_entered = is_entered l es; is_closing = is_closing p c next l es }) level

  level_is : (level : Option Level) → option_map (λ lease. lease.level) (of_level level) ≡ level
  level_is None = refl
  level_is (Some level) = refl

  admits_is : (level : Option Level) (lease : Lease) → of_level level ≡ Some lease → admits p c next l es ≡ (not lease.is_closing || not lease.is_entered)
  admits_is None lease is = absurd (cc is)
  admits_is (Some level) lease is = let same : record { level = level; is_entered = is_entered l es; is_closing = is_closing p c next l es } ≡ lease = cc is in
      ap (λ lease. not lease.is_closing || not lease.is_entered) same

  due_is : (level : Option Level) → (is_some level && is_lease_due p c next l es) ≡ option_map_or (λ lease. lease.is_closing && (lease.is_entered && is_free p c next l es)) (of_level level) false
  due_is None = refl
  due_is (Some level) = refl

-- Whatever the entries are, the lease tells what is asked of it.
pub leases_tell : LeasesTell
leases_tell p c next l es = record { level = level_is p c next l es (leased l es); admits_so = admits_is p c next l es (leased l es); due_so = due_is p c next l es (leased l es) }

-- one of several passes a test: one that passes another one too, or one that doesn't
in_two_parts : {X : Type 0} (own test : X → Bool) (xs : List X) → list_any test xs ≡ (list_any (λ x. not (own x) && test x) xs || list_any (λ x. own x && test x) xs)
in_two_parts own test [] = refl
in_two_parts own test (x ∷ xs) = ap (λ rest. test x || rest) (in_two_parts own test xs) ∙ by (own x) (test x) (list_any (λ x. not (own x) && test x) xs) (list_any (λ x. own x && test x) xs)
  where
    by : (o t a b : Bool) → (t || (a || b)) ≡ (((not o && t) || a) || ((o && t) || b))
    by true true true b = refl
    by true true false b = refl
    by true false a b = refl
    by false true a b = refl
    by false false a b = refl

-- by two causes, of a lease of level Read
two_causes : (recalled read a b : Bool) → (recalled || (read && (a || b))) ≡ ((recalled || (read && a)) || (read && b))
two_causes true read a b = refl
two_causes false true a b = refl
two_causes false false a b = refl

-- Whatever the entries are, closing is told by what is kept and by the threads that need no lease.
pub closing_is_kept : ClosingIsKept
closing_is_kept p c next l es = ap (λ wanted. is_recalled l es || (is_read (leased l es) && wanted)) (in_two_parts (λ t. is_local p.shape t l es) (awaits_write p c next l es) (threads_of p c))
    ∙ two_causes (is_recalled l es) (is_read (leased l es)) (list_any (awaits_lease p c next l es) (threads_of p c)) (list_any (λ t. is_local p.shape t l es && awaits_write p c next l es t) (threads_of p c))
