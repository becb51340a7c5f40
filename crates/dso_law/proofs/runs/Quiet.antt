-- In a run no lease is to be given back between two entries.
use Rattle.std.specs.List.{list_any}
use Rattle.std.proofs.Common.{ℕ, ◌≡◌, refl, sym, ◌∙◌, ap, Bool, true, false, cond, ◌&&◌, ◌||◌, is_some, Option, None, List, [], ◌∷◌, filter}
use Rattle.dso_base.specs.declared.journal.Entry.{Entry}
use Rattle.dso_base.specs.declared.journal.Input.{Input}
use Rattle.dso_base.specs.declared.journal.Input.TheVariants as input
use Rattle.dso_base.specs.declared.journal.Node.{Node}
use Rattle.dso_base.specs.declared.journal.Sent.TheVariants.{ToServer}
use Rattle.dso_base.specs.declared.lock.Level.{Level}
use Rattle.dso_base.specs.declared.lock.LockName.{LockName}
use Rattle.dso_base.specs.declared.lock.LockName.TheVariants.{Mon, Name}
use Rattle.dso_base.specs.declared.lock.ThreadId.{ThreadId}
use Rattle.dso_base.specs.declared.message.Up.TheVariants as up
use Rattle.dso_base.specs.declared.request.Event.{Event}
use Rattle.dso_base.specs.declared.request.Request.{Request}
use Rattle.dso_plain.specs.KeyTests.{is_lock}
use Rattle.dso_plain.proofs.keys.SameKeys.{same_lock, number_self}
use Rattle.dso_law.specs.Settings.{Settings, threads_of}
use Rattle.dso_law.specs.Entries.{unsent}
use Rattle.dso_law.specs.Leases.{leased, is_entered, is_recalled, granted, leased_locks}
use Rattle.dso_law.specs.Closing.{is_read, awaits_write, is_free, is_lease_due, due}
use Rattle.dso_law.specs.ClientStep.{ClientStepOn}
use Rattle.dso_law.specs.ClientRun.{next_in}
use Rattle.dso_law.specs.RunLaws.{NothingIsDue}
use Rattle.dso_law.proofs.runs.Returned.{ReturnsDue, acts_return, taken_return}

-- a lock is itself
pub lock_self : (l : LockName) → is_lock l l ≡ true
lock_self (Mon o) = number_self o
lock_self (Name n) = number_self n

-- true isn't false
no_both : {P : Type 0} (b : Bool) → b ≡ true → b ≡ false → P
no_both true e f = absurd (cc f)
no_both false e f = absurd (cc e)

-- a lock of a list that passes the test is in the part that does
in_part : (l : LockName) (test : LockName → Bool) (locks : List LockName) → test l ≡ true → list_any (is_lock l) locks ≡ true → list_any (is_lock l) (filter test locks) ≡ true
in_part l test [] is there = absurd (cc there)
in_part l test (k ∷ locks) is there = by (is_lock l k) (test k) refl refl there (in_part l test locks is)
  where
    by : (a b : Bool) → is_lock l k ≡ a → test k ≡ b → (a || list_any (is_lock l) locks) ≡ true → (list_any (is_lock l) locks ≡ true → list_any (is_lock l) (filter test locks) ≡ true)
        → list_any (is_lock l) (cond b (k ∷ filter test locks) (filter test locks)) ≡ true
    by true true same passes there later = ap (λ t. t || list_any (is_lock l) (filter test locks)) same
    by true false same passes there later = no_both (test l) is (ap test (sym (same_lock l k same)) ∙ passes)
    by false true other passes there later = ap (λ t. t || list_any (is_lock l) (filter test locks)) other ∙ later there
    by false false other passes there later = later there

-- where no lock of a list passes both tests, none is left
none_left : (test other : LockName → Bool) (locks : List LockName) → ((l : LockName) → list_any (is_lock l) locks ≡ true → (other l && test l) ≡ false) → filter test (filter other locks) ≡ []
none_left test other [] none = refl
none_left test other (k ∷ locks) none = by (other k) (none k (ap (λ t. t || list_any (is_lock k) locks) (lock_self k)))
    (none_left test other locks (λ l there. none l (behind (is_lock l k) (list_any (is_lock l) locks) there)))
  where
    behind : (a b : Bool) → b ≡ true → (a || b) ≡ true
    behind true b is = refl
    behind false b is = is

    first : (b : Bool) → b ≡ false → filter test (filter other locks) ≡ [] → cond b (k ∷ filter test (filter other locks)) (filter test (filter other locks)) ≡ []
    first b fails rest = ap (λ t. cond t (k ∷ filter test (filter other locks)) (filter test (filter other locks))) fails ∙ rest

    by : (b : Bool) → (b && test k) ≡ false → filter test (filter other locks) ≡ [] → filter test (cond b (k ∷ filter other locks) (filter other locks)) ≡ []
    by true fails rest = first (test k) fails rest
    by false fails rest = rest

module _ (p : Settings) (c : ℕ) (next : ThreadId → Option Request) (e : Entry) (es : List Entry) (returned : ReturnsDue p c next next e es) where
  -- whether a lock with this lease is to be given back, as it stands before the entry's messages
  abbrev is_due_at : LockName → Option Level → Bool
  is_due_at l lease = is_some lease && ((is_recalled l (unsent e ∷ es) || (is_read lease && list_any (awaits_write p c next l (unsent e ∷ es)) (threads_of p c)))
      && (is_entered l (unsent e ∷ es) && is_free p c next l (unsent e ∷ es)))

  -- a lock that was granted and isn't returned isn't to be
  not_due : (l : LockName) → list_any (is_lock l) (granted (unsent e ∷ es)) ≡ true → list_any (is_lock l) (due p c next (unsent e ∷ es)) ≡ false → is_due_at l (leased l (unsent e ∷ es)) ≡ false
  not_due l there none = by (is_some (leased l (unsent e ∷ es))) (is_lease_due p c next l (unsent e ∷ es)) refl refl
    where
      by : (a b : Bool) → is_some (leased l (unsent e ∷ es)) ≡ a → is_lease_due p c next l (unsent e ∷ es) ≡ b → (a && b) ≡ false
      by true true some is = no_both (list_any (is_lock l) (due p c next (unsent e ∷ es)))
          (in_part l (λ k. is_lease_due p c next k (unsent e ∷ es)) (leased_locks (unsent e ∷ es)) is (in_part l (λ k. is_some (leased k (unsent e ∷ es))) (granted (unsent e ∷ es)) some there)) none
      by true false some is = refl
      by false b some is = refl

  quiet_lock : (l : LockName) → list_any (is_lock l) (granted (unsent e ∷ es)) ≡ true → is_due_at l (leased l (e ∷ es)) ≡ false
  quiet_lock l there = ap (is_due_at l) (returned l) ∙ by (list_any (is_lock l) (due p c next (unsent e ∷ es))) refl
    where
      by : (b : Bool) → list_any (is_lock l) (due p c next (unsent e ∷ es)) ≡ b → is_due_at l (cond b None (leased l (unsent e ∷ es))) ≡ false
      by true is = refl
      by false none = not_due l there none

  -- what the entry returns is all that is due
  pub quiet_entry : due p c next (e ∷ es) ≡ []
  quiet_entry = none_left (λ l. is_lease_due p c next l (e ∷ es)) (λ l. is_some (leased l (e ∷ es))) (granted (unsent e ∷ es)) quiet_lock

module _ (p : Settings) (c : ℕ) (next : ThreadId → List Event → Option Request) where
  -- a flush changes nothing that is asked of leases, and neither does a rejoin
  after_flush : (clock : ℕ) (node : Node) (o : ℕ) (es : List Entry) → let e : Entry = record { clock = clock; node = node; input = input.Flush o; sent = ToServer (up.Flushed o) ∷ []; event = None } in
      due p c (next_in next (e ∷ es)) (e ∷ es) ≡ due p c (next_in next es) es
  after_flush clock node o es = refl

  after_rejoin : (clock : ℕ) (node : Node) (d : ℕ) (es : List Entry) → let e : Entry = record { clock = clock; node = node; input = input.Rejoin d; sent = []; event = None } in
      due p c (next_in next (e ∷ es)) (e ∷ es) ≡ due p c (next_in next es) es
  after_rejoin clock node d es = refl

  quiet_by : (e : Entry) (es : List Entry) (i : Input) → e.input ≡ i → due p c (next_in next es) es ≡ [] → ClientStepOn p c i (next_in next es) (next_in next (e ∷ es)) e es → due p c (next_in next (e ∷ es)) (e ∷ es) ≡ []
  quiet_by e es (input.Act index) is before h = quiet_entry p c (next_in next (e ∷ es)) e es
      (acts_return p c (next_in next es) (next_in next (e ∷ es)) e es (record { client = c; index = index }) (next_in next es (record { client = c; index = index })) h.acts)
  quiet_by e es (input.TookDown m) is before h = quiet_entry p c (next_in next (e ∷ es)) e es (taken_return p c (next_in next es) (next_in next (e ∷ es)) e es h.sends)
  quiet_by e es (input.Flush o) is before h =
      let same : e ≡ record { clock = e.clock; node = e.node; input = input.Flush o; sent = ToServer (up.Flushed o) ∷ []; event = None } =
      λ k. record { clock = e.clock; node = e.node; input = is k; sent = h.sends k; event = h.event k } in
      ap (λ x. due p c (next_in next (x ∷ es)) (x ∷ es)) same ∙ after_flush e.clock e.node o es ∙ before
  quiet_by e es (input.Rejoin d) is before h =
      let same : e ≡ record { clock = e.clock; node = e.node; input = input.Rejoin d; sent = []; event = None } =
      λ k. record { clock = e.clock; node = e.node; input = is k; sent = h.sends k; event = h.event k } in
      ap (λ x. due p c (next_in next (x ∷ es)) (x ∷ es)) same ∙ after_rejoin e.clock e.node d es ∙ before
  quiet_by e es i is before h = absurd h

-- Nothing is due between two entries.
pub nothing_is_due : NothingIsDue
nothing_is_due p c next [] run = refl
nothing_is_due p c next (e ∷ es) run = quiet_by p c next e es e.input refl (nothing_is_due p c next es run.0) run.1
