-- What an entry makes of what a thread holds: a hold was there at its level before, or the entry enters its lock.
use Rattle.std.specs.List.{list_any}
use Rattle.std.proofs.Common.{ℕ, suc, ◌-◌, ◌≡◌, ◌⊎◌, inl, inr, refl, sym, ◌∙◌, ap, subst, Bool, true, false, cond, not, eqb, ◌&&◌, ◌||◌, is_some, Option, Some, None, List, [], ◌∷◌}
use Rattle.std.specs.Prelude.{filter}
use Rattle.dso_base.specs.declared.journal.Entry.{Entry}
use Rattle.dso_base.specs.declared.journal.Input.{Input}
use Rattle.dso_base.specs.declared.journal.Input.TheVariants as input
use Rattle.dso_base.specs.declared.lock.Level.{Level}
use Rattle.dso_base.specs.declared.lock.Level.TheVariants.{Write}
use Rattle.dso_base.specs.declared.lock.LockName.{LockName}
use Rattle.dso_base.specs.declared.lock.ThreadId.{ThreadId}
use Rattle.dso_base.specs.declared.request.Event.TheVariants.{Act}
use Rattle.dso_base.specs.declared.request.Reply.{Reply}
use Rattle.dso_base.specs.declared.request.Reply.TheVariants.{Done, Local}
use Rattle.dso_base.specs.declared.request.Request.{Request}
use Rattle.dso_base.specs.declared.request.Request.TheVariants.{Enter, Exit, Wait, Resume}
use Rattle.dso_base.specs.Following.{is_thread}
use Rattle.dso_plain.specs.KeyTests.{is_lock}
use Rattle.dso_plain.specs.State.{Hold}
use Rattle.dso_plain.specs.After.{entered, exited}
use Rattle.dso_plain.proofs.keys.SameKeys.{same_lock, same_thread, number_self}
use Rattle.dso_lookup.proofs.Tests.{both}
use Rattle.dso_law.specs.Settings.{Settings, threads_of}
use Rattle.dso_law.specs.Entries.{by_event}
use Rattle.dso_law.specs.Threads.{Held, Waiting, hold_in, with_hold, resumed, locks_by, locks_after, locks_of, hold_of, is_local}
use Rattle.dso_law.specs.ClientWaiters.{is_marked}
use Rattle.dso_law.specs.Leases.{leased, enters}
use Rattle.dso_law.specs.Closing.{admits}
use Rattle.dso_law.specs.RequestNeeds.{Need, NeedsMark, NeedsLease, NeedsOthersOut, is_enough, hold_level, unless, first_unmet, is_in_conflict, entry_need, unmet}
use Rattle.dso_law.specs.Replies.{enter_reply, woken_by, reply_of}
use Rattle.dso_law.specs.ClientStep.{Does, DoesOrAsks, ActsOn, ClientStepOn, ClientStep}
use Rattle.dso_law.proofs.client.ClientLaws.{holds_after}
use Rattle.dso_legal.proofs.leases.LeaseSteps.{no_both}
use Rattle.dso_legal.proofs.leases.Queues.{lock_self}

-- the thread held the lock before, at the same level
pub record HeldBefore (t : ThreadId) (l : LockName) (hold : Hold) (es : List Entry) : Type 0 where
  pub was : Hold
  pub held : hold_of t l es ≡ Some was
  pub level : was.level ≡ hold.level

-- holds that are the same have one level
same_level : (a b : Hold) → Some a ≡ Some b → a.level ≡ b.level
same_level a b e = let same : a ≡ b = cc in ap (λ (hold : Hold). hold.level) same

-- a hold with one entry more, or one less
abbrev one_more : Hold → Hold
one_more hold = record { level = hold.level; count = suc hold.count }

abbrev one_less : Hold → Hold
one_less hold = record { level = hold.level; count = hold.count - 1 }

-- a hold after a change is the one that was set, or was there
changed : (k l : LockName) (o : Option Hold) (holds : List Held) (hold : Hold) → hold_in l (with_hold k o holds) ≡ Some hold → ((is_lock k l ≡ true) × (o ≡ Some hold)) ⊎ (hold_in l holds ≡ Some hold)
changed k l o holds hold h = by (is_lock k l) refl (sym (holds_after k l o holds) ∙ h)
  where
    by : (b : Bool) → is_lock k l ≡ b → cond b o (hold_in l holds) ≡ Some hold → ((is_lock k l ≡ true) × (o ≡ Some hold)) ⊎ (hold_in l holds ≡ Some hold)
    by true e h = inl (e, h)
    by false e h = inr h

-- of two needs neither is there
neither_needed : (a b : Option Need) → first_unmet a b ≡ None → (a ≡ None) × (b ≡ None)
neither_needed None b e = (refl, e)
neither_needed (Some need) b e = absurd (cc e)

-- a need that isn't there is met
is_met : (b : Bool) (need : Need) → unless b need ≡ None → b ≡ true
is_met true need e = refl
is_met false need e = absurd (cc e)

-- what isn't so is false
pub isnt_so : (b : Bool) → not b ≡ true → b ≡ false
isnt_so true e = absurd (cc e)
isnt_so false e = refl

-- what is in a list and kept is in the part that is kept
pub in_part : (t : ThreadId) (keep : ThreadId → Bool) (threads : List ThreadId) → keep t ≡ true → list_any (is_thread t) threads ≡ true → list_any (is_thread t) (filter keep threads) ≡ true
in_part t keep [] kept e = absurd (cc e)
in_part t keep (u ∷ threads) kept e = by (is_thread t u) (keep u) refl refl e (in_part t keep threads kept)
  where
    by : (a b : Bool) → is_thread t u ≡ a → keep u ≡ b → (a || list_any (is_thread t) threads) ≡ true → (list_any (is_thread t) threads ≡ true → list_any (is_thread t) (filter keep threads) ≡ true)
        → list_any (is_thread t) (cond b (u ∷ filter keep threads) (filter keep threads)) ≡ true
    by true true f g e later = ap (λ a. a || list_any (is_thread t) (filter keep threads)) f
    by true false f g e later = no_both (keep t) kept (subst (λ v. keep v ≡ false) (same_thread t u f) g)
    by false true f g e later = ap (λ a. a || list_any (is_thread t) (filter keep threads)) f ∙ later e
    by false false f g e later = later e

module _ (p : Settings) (c : ℕ) (next : ThreadId → Option Request) (t : ThreadId) (es : List Entry) where
  -- what an entry of the thread at this level needs of the lease and of other threads
  pub record MayEnter (l : LockName) (level : Level) : Type 0 where
    pub enough : is_enough level (leased l es) ≡ true
    pub alone : list_any (is_in_conflict p c next t l level es) (threads_of p c) ≡ false

  -- the act enters the lock
  pub record Enters (request : Request) (reply : Reply) (l : LockName) (hold : Hold) : Type 0 where
    pub enters_it : enters l request reply ≡ true
    pub may : MayEnter l hold.level

  -- the hold was there, or the act enters the lock
  abbrev WasOrEnters : Request → Reply → LockName → Hold → Type 0
  WasOrEnters request reply l hold = HeldBefore t l hold es ⊎ Enters request reply l hold

  -- a hold that stays as it was
  as_before : (l : LockName) (hold : Hold) → hold_of t l es ≡ Some hold → HeldBefore t l hold es
  as_before l hold h = record { was = hold; held = h; level = refl }

  entry_met : (l : LockName) (level : Level) → entry_need p c next t l level es ≡ None → MayEnter l level
  entry_met l level e =
      let it = neither_needed (unless (is_enough level (leased l es) && admits p c next l es) (NeedsLease l level))
      (unless (not (list_any (is_in_conflict p c next t l level es) (threads_of p c))) (NeedsOthersOut l)) e in
      record {
        enough = (both (is_enough level (leased l es)) (admits p c next l es) (is_met (is_enough level (leased l es) && admits p c next l es) (NeedsLease l level) it.0)).0;
        alone = isnt_so (list_any (is_in_conflict p c next t l level es) (threads_of p c)) (is_met (not (list_any (is_in_conflict p c next t l level es) (threads_of p c))) (NeedsOthersOut l) it.1);
      }

  -- an outer entry that is done isn't of a private lock
  outer_met : (l : LockName) (level : Level) (b d : Bool) (reply : Reply) → cond (b || d) None (entry_need p c next t l level es) ≡ None → Some (cond b Local reply) ≡ Some Done → d ≡ false → MayEnter l level
  outer_met l level true d reply met answered none = absurd (cc answered)
  outer_met l level false true reply met answered none = absurd (cc none)
  outer_met l level false false reply met answered none = entry_met l level met

  enter_sets : (l : LockName) (level : Level) (hold : Hold) (before : Option Hold) → hold_of t l es ≡ before → (is_some before ≡ false → MayEnter l level) → entered level before ≡ Some hold
      → WasOrEnters (Enter l level) Done l hold
  enter_sets l level hold None was may e = inr (record { enters_it = lock_self l; may = subst (λ (level : Level). MayEnter l level) (same_level (record { level = level; count = 1 }) hold e) (may refl) })
  enter_sets l level hold (Some before) was may e = inl (record { was = before; held = was; level = same_level (one_more before) hold e })

  exit_sets : (l : LockName) (hold : Hold) (before : Option Hold) → hold_of t l es ≡ before → exited before ≡ Some hold → HeldBefore t l hold es
  exit_sets l hold None was e = absurd (cc e)
  exit_sets l hold (Some before) was e = by (eqb before.count 1) e
    where
      by : (b : Bool) → cond b None (Some (one_less before)) ≡ Some hold → HeldBefore t l hold es
      by true e = absurd (cc e)
      by false e = record { was = before; held = was; level = same_level (one_less before) hold e }

  resume_sets : (k l : LockName) (waiting : Option Waiting) (hold : Hold) → MayEnter k Write → hold_in l (resumed k waiting (locks_of t es)).holds ≡ Some hold → WasOrEnters (Resume k) Done l hold
  resume_sets k l None hold may h = inl (as_before l hold h)
  resume_sets k l (Some waiting) hold may h = elim (changed k l (Some (record { level = Write; count = waiting.count })) (locks_of t es).holds hold h) [
    | inl here ↦ subst (λ m. WasOrEnters (Resume k) Done m hold) (sym (same_lock k l here.0)) (inr (record {
      enters_it = lock_self k;
      may = subst (λ (level : Level). MayEnter k level) (same_level (record { level = Write; count = waiting.count }) hold here.1) may;
    }))
    | inr before ↦ inl (as_before l hold before)
  ]

  -- An act whose needs are met leaves a hold that was there, or enters the lock.
  by_act : (request : Request) (reply : Reply) (l : LockName) (hold : Hold) → unmet p c next t request es ≡ None → reply_of p t request es ≡ Some reply
      → hold_in l (locks_by request reply (locks_of t es)).holds ≡ Some hold → WasOrEnters request reply l hold
  by_act (Enter k level) Done l hold met answered h = elim (changed k l (entered level (hold_of t k es)) (locks_of t es).holds hold h) [
    | inl here ↦ subst (λ m. WasOrEnters (Enter k level) Done m hold) (sym (same_lock k l here.0)) (enter_sets k level hold (hold_of t k es) refl
        (λ none. outer_met k level (is_local p.shape t k es) (is_some (hold_of t k es)) (enter_reply level (hold_level (hold_of t k es))) met answered none) here.1)
    | inr before ↦ inl (as_before l hold before)
  ]
  by_act (Exit k) Done l hold met answered h = elim (changed k l (exited (hold_of t k es)) (locks_of t es).holds hold h) [
    | inl here ↦ inl (subst (λ m. HeldBefore t m hold es) (sym (same_lock k l here.0)) (exit_sets k hold (hold_of t k es) refl here.1))
    | inr before ↦ inl (as_before l hold before)
  ]
  by_act (Wait k) Done l hold met answered h = elim (changed k l None (locks_of t es).holds hold h) [
    | inl here ↦ absurd (cc here.1)
    | inr before ↦ inl (as_before l hold before)
  ]
  by_act (Resume k) Done l hold met answered h = resume_sets k l (locks_of t es).waiting hold
      (entry_met k Write (neither_needed (unless (is_marked t es) (NeedsMark k)) (entry_need p c next t k Write es) met).1) h
  by_act request reply l hold met answered h = inl (as_before l hold h)

module _ (p : Settings) (c : ℕ) (next after : ThreadId → Option Request) (e : Entry) (es : List Entry) where
  -- the entry is an act of the thread, one of the client's, that enters the lock
  pub record EntersNow (t : ThreadId) (l : LockName) (hold : Hold) : Type 0 where
    pub request : Request
    pub reply : Reply
    pub woken : Option ThreadId
    pub event : e.event ≡ Some (Act t request reply woken)
    pub its : list_any (is_thread t) (threads_of p c) ≡ true
    pub entry : Enters p c next t es request reply l hold

  -- each hold after the entry was there, or the entry enters its lock
  abbrev pub Moves : Type 0
  Moves = (t : ThreadId) (l : LockName) (hold : Hold) → hold_of t l (e ∷ es) ≡ Some hold → HeldBefore t l hold es ⊎ EntersNow t l hold

  no_event : e.event ≡ None → Moves
  no_event none t l hold h = inl (record { was = hold; held = subst (λ o. hold_in l (by_event (locks_after t) o (locks_of t es)).holds ≡ Some hold) none h; level = refl })

  acted : (v : ThreadId) (request : Request) → list_any (is_thread v) (threads_of p c) ≡ true → unmet p c next v request es ≡ None → Does p c v request next after e es → Moves
  acted v request its met does t l hold h = by (is_thread t v) refl (subst (λ o. hold_in l (by_event (locks_after t) o (locks_of t es)).holds ≡ Some hold) does.event h)
    where
      own : hold_in l (locks_by request does.reply (locks_of v es)).holds ≡ Some hold → HeldBefore v l hold es ⊎ EntersNow v l hold
      own h = elim (by_act p c next v es request does.reply l hold met does.answered h) [
        | inl before ↦ inl before
        | inr entry ↦ inr (record { request = request; reply = does.reply; woken = woken_by request does.reply es; event = does.event; its = its; entry = entry })
      ]

      by : (b : Bool) → is_thread t v ≡ b → hold_in l (cond b (locks_by request does.reply (locks_of t es)) (locks_of t es)).holds ≡ Some hold → HeldBefore t l hold es ⊎ EntersNow t l hold
      by true f h = subst (λ w. HeldBefore w l hold es ⊎ EntersNow w l hold) (same_thread t v f) (own (subst (λ w. hold_in l (locks_by request does.reply (locks_of w es)).holds ≡ Some hold) (sym (same_thread t v f)) h))
      by false f h = inl (record { was = hold; held = h; level = refl })

  act_or_ask : (v : ThreadId) (request : Request) (need : Option Need) → list_any (is_thread v) (threads_of p c) ≡ true → unmet p c next v request es ≡ need → DoesOrAsks p c v request need next after e es → Moves
  act_or_ask v request None its met h = acted v request its met h
  act_or_ask v request (Some need) its met h = no_event h.event

  acts : (v : ThreadId) (request : Option Request) → list_any (is_thread v) (threads_of p c) ≡ true → ActsOn p c v request next after e es → Moves
  acts v None its h = absurd h
  acts v (Some request) its h = act_or_ask v request (unmet p c next v request es) its refl h

  by_input : (i : Input) → ClientStepOn p c i next after e es → Moves
  by_input (input.Act index) h = acts (record { client = c; index = index }) (next (record { client = c; index = index }))
      (in_part (record { client = c; index = index }) (λ t. eqb t.client c) p.threads (number_self c) h.its) h.acts
  by_input (input.TookDown m) h = no_event h.event
  by_input (input.Flush o) h = no_event h.event
  by_input (input.Rejoin d) h = no_event h.event
  by_input other h = absurd h

  -- What a client's entry makes of what a thread holds.
  pub moves : ClientStep p c next after e es → Moves
  moves h = by_input e.input h
