-- Holds are within leases, and two threads of one client hold no lock in conflict, over lawful journals.
use Rattle.std.specs.List.{list_any}
use Rattle.std.proofs.Common.{ℕ, ◌≡◌, ◌≢◌, inl, inr, refl, sym, ◌∙◌, ap, subst, Bool, true, false, cond, eqb, ◌||◌, Option, Some, None, List, [], ◌∷◌}
use Rattle.dso_base.specs.declared.journal.Entry.{Entry}
use Rattle.dso_base.specs.declared.journal.Node.{Node}
use Rattle.dso_base.specs.declared.journal.Node.TheVariants.{Server, Client}
use Rattle.dso_base.specs.declared.lock.Level.{Level}
use Rattle.dso_base.specs.declared.lock.Level.TheVariants.{Read, Write}
use Rattle.dso_base.specs.declared.lock.LockName.{LockName}
use Rattle.dso_base.specs.declared.lock.ThreadId.{ThreadId}
use Rattle.dso_base.specs.declared.request.Event.{Event}
use Rattle.dso_base.specs.declared.request.Event.TheVariants.{Act, Lost}
use Rattle.dso_base.specs.declared.request.Request.{Request}
use Rattle.dso_base.specs.Following.{is_thread}
use Rattle.dso_plain.specs.State.{Hold}
use Rattle.dso_plain.proofs.keys.SameKeys.{same_number, same_thread, thread_self}
use Rattle.dso_law.specs.Settings.{Settings, threads_of}
use Rattle.dso_law.specs.Entries.{is_node, entries_of, by_event}
use Rattle.dso_law.specs.Threads.{hold_of}
use Rattle.dso_law.specs.Leases.{leased, enters, entered_by, is_entered}
use Rattle.dso_law.specs.RequestNeeds.{is_enough, conflicts, hold_level, is_in_conflict}
use Rattle.dso_legal.specs.Holds.{IsWithinLease, HoldsAreWithinLeases}
use Rattle.dso_legal.specs.Lawful.{next_after, ClientFollows, NodeFollows, AllFollow}
use Rattle.dso_legal.proofs.leases.LeaseSteps.{no_both}
use Rattle.dso_legal.proofs.leases.LeasesCompatible.{conflict_back, second_fails}
use Rattle.dso_legal.proofs.leases.Tokens.{Known, known}
use Rattle.dso_legal.proofs.leases.Holding.{HeldBefore, EntersNow, Moves, moves}
use Rattle.dso_legal.proofs.leases.KeptLeases.{KeepsLeases, keeps_leases, found}

-- By a client's entries: who holds a lock is one of its threads, the hold is within the lease, and two threads hold none in
-- conflict.
pub record HoldsWell (p : Settings) (c : ℕ) (es : List Entry) : Type 0 where
  pub its : (t : ThreadId) (l : LockName) (hold : Hold) → hold_of t l es ≡ Some hold → list_any (is_thread t) (threads_of p c) ≡ true
  pub within : (t : ThreadId) (l : LockName) (hold : Hold) → hold_of t l es ≡ Some hold → IsWithinLease l hold es
  pub apart : (t u : ThreadId) (l : LockName) (a b : Hold) → is_thread t u ≡ false → hold_of t l es ≡ Some a → hold_of u l es ≡ Some b → conflicts a.level (Some b.level) ≡ false

-- what is enough is there
pub enough_there : (level : Level) (lease : Option Level) → is_enough level lease ≡ true → lease ≢ None
enough_there Read None e = absurd (cc e)
enough_there Write None e = absurd (cc e)
enough_there level (Some lease) e = λ f. cc

-- what was entered is after an event
still_entered : (l : LockName) (o : Option Event) (before : Bool) → before ≡ true → by_event (entered_by l) o before ≡ true
still_entered l None before e = e
still_entered l (Some (Act thread request reply woken)) before e = by (enters l request reply) before e
  where
    by : (a b : Bool) → b ≡ true → (a || b) ≡ true
    by true b e = refl
    by false b e = e
still_entered l (Some (Lost client)) before e = e

-- who passes no test of a list that none passes, doesn't pass it
none_passes : (t : ThreadId) (test : ThreadId → Bool) (threads : List ThreadId) → list_any test threads ≡ false → list_any (is_thread t) threads ≡ true → test t ≡ false
none_passes t test threads none its = by (test t) refl
  where
    by : (b : Bool) → test t ≡ b → b ≡ false
    by true e = no_both (list_any test threads) (found t test threads e its) none
    by false e = refl

module _ (p : Settings) (c : ℕ) (next after : ThreadId → Option Request) (e : Entry) (es : List Entry) (well : HoldsWell p c es) (moved : Moves p c next after e es) (keeps : KeepsLeases p c next after e es) where
  its_after : (t : ThreadId) (l : LockName) (hold : Hold) → hold_of t l (e ∷ es) ≡ Some hold → list_any (is_thread t) (threads_of p c) ≡ true
  its_after t l hold h = elim (moved t l hold h) [
    | inl before ↦ well.its t l before.was before.held
    | inr enters ↦ enters.its
  ]

  -- a lease that is enough, and entered, is so after the entry
  within_still : (t : ThreadId) (l : LockName) (hold : Hold) → hold_of t l (e ∷ es) ≡ Some hold → is_enough hold.level (leased l es) ≡ true → by_event (entered_by l) e.event (is_entered l es) ≡ true → IsWithinLease l hold (e ∷ es)
  within_still t l hold h enough entered =
      let same = keeps.taken l (enough_there hold.level (leased l es) enough) in
      record {
        enough = subst (λ (o : Option Level). is_enough hold.level o ≡ true) (sym (keeps.sent t l hold (its_after t l hold h) h ∙ same.0)) enough;
        entered = subst (λ (b : Bool). by_event (entered_by l) e.event b ≡ true) (sym same.1) entered;
      }

  within_after : (t : ThreadId) (l : LockName) (hold : Hold) → hold_of t l (e ∷ es) ≡ Some hold → IsWithinLease l hold (e ∷ es)
  within_after t l hold h = elim (moved t l hold h) [
    | inl before ↦
        let was = well.within t l before.was before.held in
        within_still t l hold h (subst (λ (level : Level). is_enough level (leased l es) ≡ true) before.level was.enough) (still_entered l e.event (is_entered l es) was.entered)
    | inr now ↦ within_still t l hold h now.entry.may.enough
        (subst (λ (o : Option Event). by_event (entered_by l) o (is_entered l es) ≡ true) (sym now.event) (ap (λ (b : Bool). b || is_entered l es) now.entry.enters_it))
  ]

  -- who enters is in conflict with no hold that was there
  enters_apart : (t u : ThreadId) (l : LockName) (a b : Hold) → is_thread t u ≡ false → EntersNow p c next after e es t l a → HeldBefore u l b es → conflicts a.level (Some b.level) ≡ false
  enters_apart t u l a b other now before =
      let passes_not : is_in_conflict p c next t l a.level es u ≡ false = none_passes u (is_in_conflict p c next t l a.level es) (threads_of p c) now.entry.may.alone (well.its u l before.was before.held) in
      let apart : conflicts a.level (hold_level (hold_of u l es)) ≡ false = second_fails (is_thread t u) (conflicts a.level (hold_level (hold_of u l es))) other passes_not in
      subst (λ (level : Level). conflicts a.level (Some level) ≡ false) before.level (subst (λ (o : Option Hold). conflicts a.level (hold_level o) ≡ false) before.held apart)

  -- only one thread acts
  one_acts : (t u : ThreadId) (l : LockName) (a b : Hold) → EntersNow p c next after e es t l a → EntersNow p c next after e es u l b → t ≡ u
  one_acts t u l a b one other =
      let same : Some (Act t one.request one.reply one.woken) ≡ Some (Act u other.request other.reply other.woken) = sym one.event ∙ other.event in
      cc same

  -- the test of two threads fails either way
  other_way : (t u : ThreadId) → is_thread t u ≡ false → is_thread u t ≡ false
  other_way t u other = by (is_thread u t) refl
    where
      by : (b : Bool) → is_thread u t ≡ b → b ≡ false
      by true e = no_both (is_thread t t) (thread_self t) (subst (λ v. is_thread t v ≡ false) (sym (same_thread u t e)) other)
      by false e = refl

  apart_after : (t u : ThreadId) (l : LockName) (a b : Hold) → is_thread t u ≡ false → hold_of t l (e ∷ es) ≡ Some a → hold_of u l (e ∷ es) ≡ Some b → conflicts a.level (Some b.level) ≡ false
  apart_after t u l a b other h k = elim (moved t l a h) [
    | inl first ↦ elim (moved u l b k) [
      | inl second ↦ subst (λ (level : Level). conflicts a.level (Some level) ≡ false) second.level
          (subst (λ (level : Level). conflicts level (Some second.was.level) ≡ false) first.level (well.apart t u l first.was second.was other first.held second.held))
      | inr enters ↦ conflict_back b.level a.level (enters_apart u t l b a (other_way t u other) enters first)
    ]
    | inr enters ↦ elim (moved u l b k) [
      | inl second ↦ enters_apart t u l a b other enters second
      | inr both ↦ no_both (is_thread t t) (thread_self t) (subst (λ v. is_thread t v ≡ false) (sym (one_acts t u l a b enters both)) other)
    ]
  ]

  pub well_after : HoldsWell p c (e ∷ es)
  well_after = record { its = its_after; within = within_after; apart = apart_after }

module _ (p : Settings) (next : ThreadId → List Event → Option Request) where
  well_client : (b : Bool) (c d : ℕ) (e : Entry) (es : List Entry) → eqb c d ≡ b → Known es → ClientFollows p next d e es → HoldsWell p c (entries_of (Client c) es)
      → HoldsWell p c (cond b (e ∷ entries_of (Client c) es) (entries_of (Client c) es))
  well_client true c d e es own known h well =
      let step = (subst (λ n. ClientFollows p next n e es) (sym (same_number c d own)) h).step in
      well_after p c (next_after next es) (next_after next (e ∷ es)) e (entries_of (Client c) es) well
      (moves p c (next_after next es) (next_after next (e ∷ es)) e (entries_of (Client c) es) step)
      (keeps_leases p c (next_after next es) (next_after next (e ∷ es)) e (entries_of (Client c) es) (known.plain c) step)
  well_client false c d e es own known h well = well

  well_at : (node : Node) (c : ℕ) (e : Entry) (es : List Entry) → Known es → NodeFollows p next node e es → HoldsWell p c (entries_of (Client c) es)
      → HoldsWell p c (cond (is_node (Client c) node) (e ∷ entries_of (Client c) es) (entries_of (Client c) es))
  well_at Server c e es known h well = well
  well_at (Client d) c e es known h well = well_client (eqb c d) c d e es refl known h well

  -- over a whole journal
  pub holds_well : (es : List Entry) → AllFollow p next es → (c : ℕ) → HoldsWell p c (entries_of (Client c) es)
  holds_well [] h c = record { its = λ t l hold e. absurd (cc e); within = λ t l hold e. absurd (cc e); apart = λ t u l a b other e f. absurd (cc e) }
  holds_well (e ∷ es) h c = well_at e.node c e es (known p next es h.0) h.1.rule (holds_well es h.0 c)

pub holds_are_within_leases : HoldsAreWithinLeases
holds_are_within_leases p next es h c t l hold held = (holds_well p next es h.follow c).within t l hold held
