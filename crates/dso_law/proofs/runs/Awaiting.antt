-- A thread that wants at Write a lease of level Read makes no act entry, and wants it after each other entry.
use Rattle.std.specs.List.{list_any}
use Rattle.std.proofs.Common.{ℕ, ◌≡◌, refl, sym, ◌∙◌, ap, subst, Bool, true, false, cond, not, eqb, ◌&&◌, ◌||◌, is_some, Option, Some, None, List, ◌∷◌}
use Rattle.std.specs.Prelude.{is_none}
use Rattle.dso_base.specs.declared.journal.Entry.{Entry}
use Rattle.dso_base.specs.declared.journal.Input.{Input}
use Rattle.dso_base.specs.declared.journal.Input.TheVariants as input
use Rattle.dso_base.specs.declared.lock.Level.TheVariants.{Read, Write}
use Rattle.dso_base.specs.declared.lock.LockName.{LockName}
use Rattle.dso_base.specs.declared.lock.ThreadId.{ThreadId}
use Rattle.dso_base.specs.declared.message.Up.TheVariants as up
use Rattle.dso_base.specs.declared.request.Event.{Event}
use Rattle.dso_base.specs.declared.request.Request.{Request}
use Rattle.dso_base.specs.declared.request.Request.TheVariants.{Enter, Resume}
use Rattle.dso_base.specs.Following.{is_thread}
use Rattle.dso_plain.specs.KeyTests.{is_lock}
use Rattle.dso_plain.specs.State.{Hold}
use Rattle.dso_plain.proofs.keys.SameKeys.{same_lock, same_number, same_thread}
use Rattle.dso_lookup.proofs.Tests.{both}
use Rattle.dso_law.specs.Settings.{Settings, threads_of}
use Rattle.dso_law.specs.Threads.{is_local, hold_of}
use Rattle.dso_law.specs.Leases.{leased, is_asked_for}
use Rattle.dso_law.specs.ClientWaiters.{is_marked}
use Rattle.dso_law.specs.Closing.{wants_write, admits}
use Rattle.dso_law.specs.RequestNeeds.{Need, NeedsMark, NeedsLease, NeedsOthersOut, is_enough, is_in_conflict, unless, unless_asked, first_unmet, entry_need, unmet}
use Rattle.dso_law.specs.ClientStep.{DoesOrAsks, ActsOn, ClientStepOn}
use Rattle.dso_law.specs.LeaseHeld.{awaits_lease}
use Rattle.dso_law.specs.ClientRun.{next_in}
use Rattle.dso_law.specs.RunLaws.{WhoAwaitsStays, WhoAwaitsGoesOn}
use Rattle.dso_law.proofs.runs.Others.{IsOthers, same_events, same_hold, same_local, mark_stays}

-- what isn't so
isnt : (b : Bool) → not b ≡ true → b ≡ false
isnt true e = absurd (cc e)
isnt false e = refl

-- a hold that isn't there
not_held : (hold : Option Hold) → is_none hold ≡ true → is_some hold ≡ false
not_held None e = refl
not_held (Some hold) e = absurd (cc e)

module _ (p : Settings) (c : ℕ) (before later : ThreadId → Option Request) (e : Entry) (es : List Entry) (t : ThreadId) (l : LockName) where
  -- a lease of level Read isn't enough
  lease_wanted : leased l es ≡ Some Read → entry_need p c before t l Write es ≡ Some (NeedsLease l Write)
  lease_wanted read = ap (λ lease. first_unmet (unless (is_enough Write lease && admits p c before l es) (NeedsLease l Write))
      (unless (not (list_any (is_in_conflict p c before t l Write es) (threads_of p c))) (NeedsOthersOut l))) read

  -- and it isn't asked for again
  not_asked : (request : Request) (need : Option Need) → need ≡ Some (NeedsLease l Write) → leased l es ≡ Some Read → DoesOrAsks p c t request need before later e es → ⊥
  not_asked request need is read h =
      let asks = subst (λ need. DoesOrAsks p c t request need before later e es) is h in
      let none = ap (λ lease. unless_asked (is_some lease || is_asked_for l es) (up.Request l Write)) read in
      cc (sym none ∙ asks.asked)

  -- a thread whose next request is for the lock at Write
  stuck : (request : Option Request) → leased l es ≡ Some Read → is_local p.shape t l es ≡ false → is_some (hold_of t l es) ≡ false → wants_write l (is_marked t es) request ≡ true
      → ActsOn p c t request before later e es → ⊥
  stuck None read shared free wants h = absurd h
  stuck (Some (Enter k Write)) read shared free wants h =
      let same : k ≡ l = same_lock l k wants in
      let needs : unmet p c before t (Enter l Write) es ≡ Some (NeedsLease l Write) =
      ap (λ b. cond (b || is_some (hold_of t l es)) None (entry_need p c before t l Write es)) shared ∙ ap (λ b. cond b None (entry_need p c before t l Write es)) free ∙ lease_wanted read in
      not_asked (Enter k Write) (unmet p c before t (Enter k Write) es) (ap (λ k. unmet p c before t (Enter k Write) es) same ∙ needs) read h
  stuck (Some (Resume k)) read shared free wants h =
      let parts = both (is_lock l k) (is_marked t es) wants in
      let same : k ≡ l = same_lock l k parts.0 in
      let needs : unmet p c before t (Resume l) es ≡ Some (NeedsLease l Write) =
      ap (λ b. first_unmet (unless b (NeedsMark l)) (entry_need p c before t l Write es)) parts.1 ∙ lease_wanted read in
      not_asked (Resume k) (unmet p c before t (Resume k) es) (ap (λ k. unmet p c before t (Resume k) es) same ∙ needs) read h
  stuck (Some (Enter k Read)) read shared free wants h = absurd (cc wants)
  stuck (Some request) read shared free wants h = absurd (cc wants)

  -- what it is to want a lease
  record Awaits : Type 0 where
    shared : is_local p.shape t l es ≡ false
    free : is_none (hold_of t l es) ≡ true
    wants : wants_write l (is_marked t es) (before t) ≡ true

  awaits : awaits_lease p c before l es t ≡ true → Awaits
  awaits is =
      let first = both (not (is_local p.shape t l es)) (is_none (hold_of t l es) && wants_write l (is_marked t es) (before t)) is in
      let rest = both (is_none (hold_of t l es)) (wants_write l (is_marked t es) (before t)) first.1 in
      record { shared = isnt (is_local p.shape t l es) first.0; free = rest.0; wants = rest.1 }

  -- so it makes no act entry
  no_act : leased l es ≡ Some Read → Awaits → ActsOn p c t (before t) before later e es → ⊥
  no_act read it h = stuck (before t) read it.shared (not_held (hold_of t l es) it.free) it.wants h

-- a thread of the client by its index
of_index : (c : ℕ) (t : ThreadId) → eqb t.client c ≡ true → t ≡ record { client = c; index = t.index }
of_index c t own = λ i. record { client = same_number t.client c own i; index = t.index }

stays_on : (p : Settings) (c : ℕ) (before later : ThreadId → Option Request) (e : Entry) (es : List Entry) (t : ThreadId) (l : LockName) (i : Input) → ClientStepOn p c i before later e es
    → eqb t.client c ≡ true → leased l es ≡ Some Read → awaits_lease p c before l es t ≡ true → i ≡ input.Act t.index → ⊥
stays_on p c before later e es t l i step own read is acts =
    let act = subst (λ i. ClientStepOn p c i before later e es) acts step in
    let mine = subst (λ u. ActsOn p c u (before u) before later e es) (sym (of_index c t own)) act.acts in
    no_act p c before later e es t l read (awaits p c before later e es t l is) mine

pub who_awaits_stays : WhoAwaitsStays
who_awaits_stays p c before later e es t l step own read is acts = stays_on p c before later e es t l e.input step own read is acts

-- ---- and wants it still

-- who wants the lock wants it, marked or not, if marked still where it was
still_wants : (l : LockName) (was now : Bool) (request : Option Request) → (was ≡ true → now ≡ true) → wants_write l was request ≡ true → wants_write l now request ≡ true
still_wants l was now None marks wants = wants
still_wants l was now (Some (Enter k Read)) marks wants = wants
still_wants l was now (Some (Enter k Write)) marks wants = wants
still_wants l was now (Some (Resume k)) marks wants = let parts = both (is_lock l k) was wants in λ i. both_so (is_lock l k) now parts.0 (marks parts.1) i
  where
    both_so : (a b : Bool) → a ≡ true → b ≡ true → (a && b) ≡ true
    both_so true b is so = so
    both_so false b is so = is
still_wants l was now (Some request) marks wants = absurd (cc wants)

module _ (p : Settings) (c : ℕ) (next : ThreadId → List Event → Option Request) (e : Entry) (es : List Entry) (t : ThreadId) (l : LockName) where
  -- an event of another thread leaves it wanting
  goes_on_by : IsOthers t e.event → awaits_lease p c (next_in next es) l es t ≡ true → awaits_lease p c (next_in next (e ∷ es)) l (e ∷ es) t ≡ true
  goes_on_by others is =
      let it = awaits p c (next_in next es) (next_in next es) e es t l is in
      let wants : wants_write l (is_marked t (e ∷ es)) (next_in next (e ∷ es) t) ≡ true =
      ap (λ events. wants_write l (is_marked t (e ∷ es)) (next t events)) (same_events t e es others)
      ∙ still_wants l (is_marked t es) (is_marked t (e ∷ es)) (next_in next es t) (mark_stays t e es others) it.wants in
      let shared : is_local p.shape t l (e ∷ es) ≡ false = same_local t e es others p.shape l ∙ it.shared in
      let free : is_none (hold_of t l (e ∷ es)) ≡ true = ap is_none (same_hold t e es others l) ∙ it.free in
      ap (λ b. not b && (is_none (hold_of t l (e ∷ es)) && wants_write l (is_marked t (e ∷ es)) (next_in next (e ∷ es) t))) shared
      ∙ ap (λ b. b && wants_write l (is_marked t (e ∷ es)) (next_in next (e ∷ es) t)) free ∙ wants

  -- the event of an act entry is of the thread that acts
  others_acted : (v : ThreadId) (request : Option Request) (later : ThreadId → Option Request) → is_thread t v ≡ false → ActsOn p c v request (next_in next es) later e es → IsOthers t e.event
  others_acted v None later other h = absurd h
  others_acted v (Some request) later other h = by (unmet p c (next_in next es) v request es) h
    where
      by : (need : Option Need) → DoesOrAsks p c v request need (next_in next es) later e es → IsOthers t e.event
      by None does = subst (IsOthers t) (sym does.event) other
      by (Some need) asks = subst (IsOthers t) (sym asks.event) tt

  others_by : (i : Input) → e.input ≡ i → ClientStepOn p c i (next_in next es) (next_in next (e ∷ es)) e es → eqb t.client c ≡ true → leased l es ≡ Some Read → awaits_lease p c (next_in next es) l es t ≡ true → IsOthers t e.event
  others_by (input.Act index) is step own read awaiting = by (is_thread t v) refl
    where
      v : ThreadId
      v = record { client = c; index = index }

      by : (b : Bool) → is_thread t v ≡ b → IsOthers t e.event
      by true same = absurd (stays_on p c (next_in next es) (next_in next (e ∷ es)) e es t l (input.Act index) step own read awaiting (ap (λ (u : ThreadId). input.Act u.index) (same_thread t v same)))
      by false other = others_acted v (next_in next es v) (next_in next (e ∷ es)) other step.acts
  others_by (input.TookDown m) is step own read awaiting = subst (IsOthers t) (sym step.event) tt
  others_by (input.Flush o) is step own read awaiting = subst (IsOthers t) (sym step.event) tt
  others_by (input.Rejoin d) is step own read awaiting = subst (IsOthers t) (sym step.event) tt
  others_by i is step own read awaiting = absurd step

pub who_awaits_goes_on : WhoAwaitsGoesOn
who_awaits_goes_on p c next e es t l run own read is = goes_on_by p c next e es t l (others_by p c next e es t l e.input refl run.1 own read is) is
