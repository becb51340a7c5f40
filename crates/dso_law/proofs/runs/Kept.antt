-- The lease of a lock that stays closing is kept from entry to entry.
use Rattle.std.specs.List.{list_any}
use Rattle.std.specs.Option.{option_map}
use Rattle.std.proofs.Common.{ℕ, ◌≡◌, refl, sym, ◌∙◌, ap, subst, Bool, true, false, cond, eqb, ◌&&◌, ◌||◌, Option, Some, None, List, [], ◌∷◌, filter}
use Rattle.dso_base.specs.declared.journal.Entry.{Entry}
use Rattle.dso_base.specs.declared.journal.Input.{Input}
use Rattle.dso_base.specs.declared.journal.Input.TheVariants as input
use Rattle.dso_base.specs.declared.journal.Node.{Node}
use Rattle.dso_base.specs.declared.journal.Sent.TheVariants.{ToServer}
use Rattle.dso_base.specs.declared.lock.Level.{Level}
use Rattle.dso_base.specs.declared.lock.Level.TheVariants.{Read, Write}
use Rattle.dso_base.specs.declared.lock.LockName.{LockName}
use Rattle.dso_base.specs.declared.lock.ThreadId.{ThreadId}
use Rattle.dso_base.specs.declared.message.Down.TheVariants as down
use Rattle.dso_base.specs.declared.message.Up.TheVariants as up
use Rattle.dso_base.specs.declared.request.Event.{Event}
use Rattle.dso_base.specs.declared.request.Request.{Request}
use Rattle.dso_plain.specs.KeyTests.{is_lock}
use Rattle.dso_law.specs.Settings.{Settings, threads_of}
use Rattle.dso_law.specs.Entries.{unsent, by_event, by_taken_down}
use Rattle.dso_law.specs.Leases.{standing_down, standing, leased, since_grant, entered_by, is_entered, recalled_by, is_recalled}
use Rattle.dso_law.specs.Closing.{is_read, due}
use Rattle.dso_law.specs.ClientStep.{ClientStepOn}
use Rattle.dso_law.specs.LeaseHeld.{Lease, awaits_lease, stays_closing, kept_lease, lease_by_taken, lease_by_event, lease_by_wants, lease_by_return}
use Rattle.dso_law.specs.ClientRun.{ClientRun, next_in}
use Rattle.dso_law.specs.RunLaws.{LeasesAreKept}
use Rattle.dso_law.proofs.runs.Returned.{ReturnsDue, acts_return, taken_return}
use Rattle.dso_law.proofs.runs.Quiet.{nothing_is_due}
use Rattle.dso_law.proofs.runs.Awaiting.{who_awaits_goes_on}

-- ---- each entry of a run gives back what is due

module _ (p : Settings) (c : ℕ) (next : ThreadId → List Event → Option Request) (es : List Entry) (quiet : due p c (next_in next es) es ≡ []) where
  -- after the entry, by the next requests then
  abbrev Returned : Entry → Type 0
  Returned e = ReturnsDue p c (next_in next es) (next_in next (e ∷ es)) e es

  after_flush : (clock : ℕ) (node : Node) (o : ℕ) → Returned (record { clock = clock; node = node; input = input.Flush o; sent = ToServer (up.Flushed o) ∷ []; event = None })
  after_flush clock node o l = sym (ap (λ locks. cond (list_any (is_lock l) locks) None (leased l es)) quiet)

  after_rejoin : (clock : ℕ) (node : Node) (d : ℕ) → Returned (record { clock = clock; node = node; input = input.Rejoin d; sent = []; event = None })
  after_rejoin clock node d l = sym (ap (λ locks. cond (list_any (is_lock l) locks) None (leased l es)) quiet)

  returned_by : (e : Entry) (i : Input) → e.input ≡ i → ClientStepOn p c i (next_in next es) (next_in next (e ∷ es)) e es → Returned e
  returned_by e (input.Act index) is h = acts_return p c (next_in next es) (next_in next (e ∷ es)) e es (record { client = c; index = index }) (next_in next es (record { client = c; index = index })) h.acts
  returned_by e (input.TookDown m) is h = taken_return p c (next_in next es) (next_in next (e ∷ es)) e es h.sends
  returned_by e (input.Flush o) is h =
      let same : e ≡ record { clock = e.clock; node = e.node; input = input.Flush o; sent = ToServer (up.Flushed o) ∷ []; event = None } =
      λ k. record { clock = e.clock; node = e.node; input = is k; sent = h.sends k; event = h.event k } in
      subst Returned (sym same) (after_flush e.clock e.node o)
  returned_by e (input.Rejoin d) is h =
      let same : e ≡ record { clock = e.clock; node = e.node; input = input.Rejoin d; sent = []; event = None } =
      λ k. record { clock = e.clock; node = e.node; input = is k; sent = h.sends k; event = h.event k } in
      subst Returned (sym same) (after_rejoin e.clock e.node d)
  returned_by e i is h = absurd h

-- in a run each entry gives back exactly what is due
pub returns_due : (p : Settings) (c : ℕ) (next : ThreadId → List Event → Option Request) (e : Entry) (es : List Entry) → ClientRun p c next (e ∷ es) → ReturnsDue p c (next_in next es) (next_in next (e ∷ es)) e es
returns_due p c next e es run = returned_by p c next es (nothing_is_due p c next es run.0) e e.input refl run.1

-- ---- closing goes on

-- a test that one of the client's threads passes, and whoever does passes another
any_too : (c : ℕ) (test other : ThreadId → Bool) → ((t : ThreadId) → eqb t.client c ≡ true → test t ≡ true → other t ≡ true) → (threads : List ThreadId)
    → list_any test (filter (λ t. eqb t.client c) threads) ≡ true → list_any other (filter (λ t. eqb t.client c) threads) ≡ true
any_too c test other too [] is = absurd (cc is)
any_too c test other too (t ∷ threads) is = by (eqb t.client c) (too t) (any_too c test other too threads) is
  where
    first : (a b rest later : Bool) → (a ≡ true → b ≡ true) → (rest ≡ true → later ≡ true) → (a || rest) ≡ true → (b || later) ≡ true
    first true b rest later one more is = ap (λ t. t || later) (one refl)
    first false true rest later one more is = refl
    first false false rest later one more is = more is

    by : (own : Bool) → (own ≡ true → test t ≡ true → other t ≡ true)
        → (list_any test (filter (λ t. eqb t.client c) threads) ≡ true → list_any other (filter (λ t. eqb t.client c) threads) ≡ true)
        → list_any test (cond own (t ∷ filter (λ t. eqb t.client c) threads) (filter (λ t. eqb t.client c) threads)) ≡ true
        → list_any other (cond own (t ∷ filter (λ t. eqb t.client c) threads) (filter (λ t. eqb t.client c) threads)) ≡ true
    by true one more is = first (test t) (other t) (list_any test (filter (λ t. eqb t.client c) threads)) (list_any other (filter (λ t. eqb t.client c) threads)) (one refl) more is
    by false one more is = more is

-- what was wanted and is wanted still counts once
closing_goes : (recalled read was now : Bool) → (read ≡ true → was ≡ true → now ≡ true) → (recalled || (read && now)) ≡ ((recalled || (read && was)) || (read && now))
closing_goes true read was now still = refl
closing_goes false false was now still = refl
closing_goes false true true now still = still refl refl
closing_goes false true false now still = refl

-- a lease of this level, entered and closing so
abbrev lease_at : Option Level → Bool → Bool → Option Lease
lease_at level entered closing = option_map (λ level. record { level = level; is_entered = entered; is_closing = closing }) level

-- only a lease of level Read is one of level Read
is_of_read : (lease : Option Level) (level : Level) → lease ≡ Some level → is_read (Some level) ≡ true → lease ≡ Some Read
is_of_read lease Read is read = is
is_of_read lease Write is read = absurd (cc read)

module _ (l : LockName) (wanted : Bool) where
  -- by the event and by who wants it, where closing comes out the same
  goes : (lease : Option Level) (entered closing recalled : Bool) (event : Option Event)
      → ((level : Level) → lease ≡ Some level → (recalled || (is_read (Some level) && wanted)) ≡ (closing || (is_read (Some level) && wanted)))
      → lease_at lease (by_event (entered_by l) event entered) (recalled || (is_read lease && wanted)) ≡ lease_by_wants wanted (by_event (lease_by_event l) event (lease_at lease entered closing))
  goes None entered closing recalled None same = refl
  goes None entered closing recalled (Some event) same = refl
  goes (Some level) entered closing recalled None same = ap (λ b. Some (record { level = level; is_entered = entered; is_closing = b })) (same level refl)
  goes (Some level) entered closing recalled (Some event) same = ap (λ b. Some (record { level = level; is_entered = entered_by l event entered; is_closing = b })) (same level refl)

  module _ (p : Settings) (c : ℕ) (next : ThreadId → Option Request) (es : List Entry) (event : Option Event)
      (still : leased l es ≡ Some Read → list_any (awaits_lease p c next l es) (threads_of p c) ≡ true → wanted ≡ true) where
    -- the lease so far
    abbrev so_far : Option Lease
    so_far = kept_lease p c next l es

    -- as it stands after the message taken and the event, by who wants it
    abbrev GoesBy : Option Level → Bool → Bool → Option Lease → Type 0
    GoesBy lease entered recalled before = lease_at lease (by_event (entered_by l) event entered) (recalled || (is_read lease && wanted)) ≡ lease_by_wants wanted (by_event (lease_by_event l) event before)

    -- nothing of the lock was taken
    untaken : GoesBy (leased l es) (is_entered l es) (is_recalled l es) so_far
    untaken = goes (leased l es) (is_entered l es) (stays_closing p c next l es) (is_recalled l es) event
        (λ level is. ap (λ lease. is_recalled l es || (is_read lease && wanted)) (sym is)
        ∙ closing_goes (is_recalled l es) (is_read (leased l es)) (list_any (awaits_lease p c next l es) (threads_of p c)) wanted
        (λ read was. still (is_of_read (leased l es) level is (sym (ap is_read is) ∙ read)) was)
        ∙ ap (λ lease. stays_closing p c next l es || (is_read lease && wanted)) is)

    -- a grant of it
    after_grant : (k : LockName) (level : Level) → GoesBy (by_taken_down (standing_down l) (input.TookDown (down.Grant k level)) (standing l es)).lease (since_grant l (down.Grant k level) (is_entered l es))
        (recalled_by l (down.Grant k level) (is_recalled l es)) (lease_by_taken l (down.Grant k level) so_far)
    after_grant k level = by (is_lock l k)
      where
        by : (b : Bool) → GoesBy (cond b (record { lease = Some level; is_asked = false }) (standing l es)).lease (cond b false (is_entered l es)) (cond b false (is_recalled l es))
            (cond b (Some (record { level = level; is_entered = false; is_closing = false })) so_far)
        by true = goes (Some level) false false false event (λ level is. refl)
        by false = untaken

    -- a recall of it
    closed : (lease : Option Level) (entered closing : Bool) → option_map (λ (s : Lease). record s { is_closing = true }) (lease_at lease entered closing) ≡ lease_at lease entered true
    closed None entered closing = refl
    closed (Some level) entered closing = refl

    after_recall : (k : LockName) → GoesBy (leased l es) (is_entered l es) (is_lock l k || is_recalled l es) (lease_by_taken l (down.Recall k) so_far)
    after_recall k = by (is_lock l k)
      where
        by : (b : Bool) → GoesBy (leased l es) (is_entered l es) (b || is_recalled l es) (cond b (option_map (λ (s : Lease). record s { is_closing = true }) so_far) so_far)
        by true = goes (leased l es) (is_entered l es) true true event (λ level is. refl)
            ∙ ap (λ lease. lease_by_wants wanted (by_event (lease_by_event l) event lease)) (sym (closed (leased l es) (is_entered l es) (stays_closing p c next l es)))
        by false = untaken

    after_taken : (i : Input) → GoesBy (by_taken_down (standing_down l) i (standing l es)).lease (by_taken_down (since_grant l) i (is_entered l es)) (by_taken_down (recalled_by l) i (is_recalled l es))
        (by_taken_down (lease_by_taken l) i so_far)
    after_taken (input.TookDown (down.Grant k level)) = after_grant k level
    after_taken (input.TookDown (down.Recall k)) = after_recall k
    after_taken (input.TookDown m) = untaken
    after_taken i = untaken

-- a lease that is gone, or stays as it is
gone_or_kept : {X Y : Type 0} (f : Option X → Option Y) → f None ≡ None → (gone : Bool) (x : Option X) → f (cond gone None x) ≡ cond gone None (f x)
gone_or_kept f none true x = none
gone_or_kept f none false x = refl

-- In a run the lease that stays closing is kept.
pub leases_are_kept : LeasesAreKept
leases_are_kept p c next l e es run =
    let wanted : Bool = list_any (awaits_lease p c (next_in next (e ∷ es)) l (e ∷ es)) (threads_of p c) in
    let returned : Bool = list_any (is_lock l) (due p c (next_in next (e ∷ es)) (unsent e ∷ es)) in
    let after : Option Level → Option Lease = λ lease. lease_at lease (is_entered l (e ∷ es)) (is_recalled l (e ∷ es) || (is_read lease && wanted)) in
    ap after (returns_due p c next e es run l) ∙ gone_or_kept after refl returned (leased l (unsent e ∷ es))
    ∙ ap (lease_by_return returned) (after_taken l wanted p c (next_in next es) es e.event
    (λ read is. any_too c (awaits_lease p c (next_in next es) l es) (awaits_lease p c (next_in next (e ∷ es)) l (e ∷ es))
    (λ t own awaits. who_awaits_goes_on p c next e es t l run own read awaits) p.threads is) e.input)
