-- A thread whose needs are met is let into its lock, and holds it then as the rule says.
use Rattle.std.specs.List.{list_any}
use Rattle.std.proofs.Common.{◌≡◌, ℕ, suc, ◌+◌, ◌-◌, inl, inr, refl, sym, ◌∙◌, ap, arith, Bool, true, false, cond, not, ◌&&◌, ◌||◌, is_some, Option, Some, None, List, [], ◌∷◌}
use Rattle.std.proofs.Math.Path.{fun_ext}
use Rattle.std.proofs.lemmas.Bool.{le-ltb, lt-ltb}
use Rattle.std.proofs.lemmas.Bool.Decides.{eqb_tells}
use Rattle.std.specs.BTreeMap.{is_at}
use Rattle.std.specs.Option.{option_map, option_map_or}
use Rattle.dso_base.specs.declared.lock.Level.{Level}
use Rattle.dso_base.specs.declared.lock.Level.TheVariants.{Read, Write}
use Rattle.dso_base.specs.declared.lock.LockName.{LockName}
use Rattle.dso_base.specs.declared.lock.ThreadId.{ThreadId}
use Rattle.dso_base.specs.declared.request.Reply.{Reply}
use Rattle.dso_base.specs.declared.request.Reply.TheVariants.{Done, Local}
use Rattle.dso_base.specs.declared.request.Request.TheVariants.{Enter, Resume}
use Rattle.dso_base.specs.Following.{is_thread}
use Rattle.dso_hold.specs.declared.held.Held.{Held}
use Rattle.dso_hold.specs.declared.tables.HoldTables.{HoldTables}
use Rattle.dso_hold.specs.Holds as hold
use Rattle.dso_hold.specs.Holds.{IsInConflict, NoConflict}
use Rattle.dso_lookup.specs.Maps.{or_old}
use Rattle.dso_lookup.specs.Orders.{thread_order}
use Rattle.dso_plain.specs.After as plain
use Rattle.dso_plain.proofs.keys.SameKeys.{same_thread, thread_self}
use Rattle.dso_plain.proofs.keys.TableOrders.{lock_at, thread_at}
use Rattle.dso_law.specs.Settings.{threads_of}
use Rattle.dso_law.specs.Threads.{hold_in, hold_of, is_local}
use Rattle.dso_law.specs.ClientWaiters.{is_marked}
use Rattle.dso_law.specs.Closing.{admits}
use Rattle.dso_law.specs.Leases.{leased}
use Rattle.dso_law.specs.RequestNeeds.{Need, NeedsMark, NeedsLease, NeedsOthersOut, conflicts, entry_need, first_unmet, hold_level, is_enough, is_in_conflict, unless}
use Rattle.dso_law.specs.Replies.{enter_reply}
use Rattle.dso_law.proofs.runs.Quiet.{lock_self}
use Rattle.dso_client.specs.LockEntries.{IsLetIn}
use Rattle.dso_client.specs.ActEffects.{HoldsStand}
use Rattle.dso_client.specs.LockStateStands.{as_hold}
use Rattle.dso_client.specs.RunPoints.{RunPoint}
use Rattle.dso_client.specs.RunFacts.{RunFacts}
use Rattle.dso_client.specs.Turns.{AnswersNext}
use Rattle.dso_client.proofs.facts.Counts.{AtLeastOnce}

-- ---- holds as the rule has them

-- one exit
pub exited_once : (held : Option Held) → AtLeastOnce (option_map as_hold held) → option_map as_hold (hold.exited 1 held) ≡ plain.exited (option_map as_hold held)
exited_once None once = refl
exited_once (Some held) once = elim (eqb_tells held.count 1) [
  | inl e ↦
      let same = e.1 in
      ap (λ b. option_map as_hold (cond b (Some (record held { count = held.count - 1 })) None)) (le-ltb 1 held.count (omega (arith, same)))
      ∙ sym (ap (λ b. cond b None (Some (record { level = held.level; count = held.count - 1 }))) e.0)
  | inr e ↦
      let differ = e.1 in
      ap (λ b. option_map as_hold (cond b (Some (record held { count = held.count - 1 })) None)) (lt-ltb 1 held.count (omega (arith, once, differ)))
      ∙ sym (ap (λ b. cond b None (Some (record { level = held.level; count = held.count - 1 }))) e.0)
]

-- one entry
pub entered_once : (level : Level) (held : Option Held) → option_map as_hold (Some (hold.entered level 1 held)) ≡ plain.entered level (option_map as_hold held)
entered_once level None = refl
entered_once level (Some held) = let one : held.count + 1 ≡ suc held.count = omega arith in ap (λ n. Some (record { level = held.level; count = n })) one

-- of two changes of one hold the second counts
pub with_twice : (l : LockName) (t : ThreadId) (first second : Option Held) (holds : LockName × ThreadId → Option Held) → hold.with_hold l t second (hold.with_hold l t first holds) ≡ hold.with_hold l t second holds
with_twice l t first second holds = fun_ext (λ key. by key (hold.is_place l t key))
  where
    by : (key : LockName × ThreadId) (b : Bool) → or_old (cond b (Some second) None) (or_old (cond b (Some first) None) (holds key)) ≡ or_old (cond b (Some second) None) (holds key)
    by key true = refl
    by key false = refl

-- ---- who is let in

-- of two needs the second is met
second_met : (a b : Option Need) → first_unmet a b ≡ None → b ≡ None
second_met None b e = e
second_met (Some need) b e = absurd (cc e)

is_met : (b : Bool) (need : Need) → unless b need ≡ None → b ≡ true
is_met true need e = refl
is_met false need e = absurd (cc e)

isnt : (b : Bool) → not b ≡ true → b ≡ false
isnt true e = absurd (cc e)
isnt false e = refl

-- what a hold excludes it is in conflict with
pub excludes_conflicts : (level : Level) (held : Option Held) → option_map_or (hold.excludes level) held false ≡ conflicts level (hold_level (option_map as_hold held))
excludes_conflicts Read None = refl
excludes_conflicts Write None = refl
excludes_conflicts Write (Some held) = refl
excludes_conflicts Read (Some held) = by held.level
  where
    by : (level : Level) → hold.excludes Read (record held { level = level }) ≡ conflicts Read (Some level)
    by Read = refl
    by Write = refl

pub none_conflicts : (level : Level) → conflicts level None ≡ false
none_conflicts Read = refl
none_conflicts Write = refl

-- one of a list of which none passes doesn't pass
pub passes_not : (u : ThreadId) (test : ThreadId → Bool) (threads : List ThreadId) → list_any test threads ≡ false → list_any (is_thread u) threads ≡ true → test u ≡ false
passes_not u test [] none its = absurd (cc its)
passes_not u test (x ∷ xs) none its = by (is_thread u x) refl its (test x) refl none (passes_not u test xs)
  where
    by : (a : Bool) → is_thread u x ≡ a → (a || list_any (is_thread u) xs) ≡ true → (b : Bool) → test x ≡ b → (b || list_any test xs) ≡ false
        → (list_any test xs ≡ false → list_any (is_thread u) xs ≡ true → test u ≡ false) → test u ≡ false
    by a same its true passes none later = absurd (cc none)
    by true same its false passes none later = ap test (sym (same_thread u x same)) ∙ passes
    by false same its false passes none later = later none its

module _ (at : RunPoint) (t : ThreadId) (l : LockName) (old : HoldTables) (h : HoldsStand at old) (facts : RunFacts at) where
  abbrev Alone : Level → Type 0
  Alone level = list_any (is_in_conflict at.settings at.client at.next t l level at.entries) (threads_of at.settings at.client) ≡ false

  alone_by : (level : Level) → entry_need at.settings at.client at.next t l level at.entries ≡ None → Alone level
  alone_by level met =
      let rivals = list_any (is_in_conflict at.settings at.client at.next t l level at.entries) (threads_of at.settings at.client) in
      isnt rivals (is_met (not rivals) (NeedsOthersOut l)
      (second_met (unless (is_enough level (leased l at.entries) && admits at.settings at.client at.next l at.entries) (NeedsLease l level)) (unless (not rivals) (NeedsOthersOut l)) met))

  -- so no other thread holds the lock in conflict
  no_conflict : (level : Level) → Alone level → NoConflict t l level (hold.hold_in old)
  no_conflict level alone u rival = by (list_any (is_thread u) (threads_of at.settings at.client)) refl
    where
      conflicting : conflicts level (hold_level (hold_of u l at.entries)) ≡ true
      conflicting = sym (excludes_conflicts level (hold.hold_in old (l, u)) ∙ ap (λ held. conflicts level (hold_level held)) (h u l)) ∙ rival.excludes

      other : (b : Bool) → is_thread t u ≡ b → (not b && conflicts level (hold_level (hold_of u l at.entries))) ≡ false → ⊥
      other true e f = rival.other (same_thread t u e)
      other false e f = cc (sym f ∙ conflicting)

      by : (b : Bool) → list_any (is_thread u) (threads_of at.settings at.client) ≡ b → ⊥
      by true its = other (is_thread t u) refl (passes_not u (is_in_conflict at.settings at.client at.next t l level at.entries) (threads_of at.settings at.client) alone its)
      by false stranger =
          let none : conflicts level (hold_level (hold_of u l at.entries)) ≡ false = ap (λ holds. conflicts level (hold_level (hold_in l holds))) (facts.holdless u stranger) ∙ none_conflicts level in
          cc (sym none ∙ conflicting)

  -- an entry that is done isn't of a private lock, and no upgrade
  answered : (b : Bool) (reply : Reply) → Some (cond b Local reply) ≡ Some Done → (b ≡ false) × (reply ≡ Done)
  answered true reply e = absurd (cc e)
  answered false reply e = (refl, cc e)

  no_upgrade : (level : Level) (held : Option Held) → enter_reply level (hold_level (option_map as_hold held)) ≡ Done → hold.is_upgrade level held ≡ false
  no_upgrade Read None e = refl
  no_upgrade Write None e = refl
  no_upgrade Read (Some held) e = refl
  no_upgrade Write (Some held) e = by held.level e
    where
      by : (level : Level) → enter_reply Write (Some level) ≡ Done → hold.is_lower Write (record held { level = level }) ≡ false
      by Read e = absurd (cc e)
      by Write e = refl

  pub entry_let_in : (level : Level) (woken : Option ThreadId) → AnswersNext at t (Enter l level) Done woken → IsLetIn t l level (hold.hold_in old)
  entry_let_in level woken answers =
      let need = entry_need at.settings at.client at.next t l level at.entries in
      let so = answered (is_local at.settings.shape t l at.entries) (enter_reply level (hold_level (hold_of t l at.entries))) answers.replied in (
        no_upgrade level (hold.hold_in old (l, t)) (ap (λ held. enter_reply level (hold_level held)) (h t l) ∙ so.1),
        λ none. no_conflict level (alone_by level
            (sym (ap (λ b. cond (b || is_some (hold_of t l at.entries)) None need) so.0
            ∙ ap (λ held. cond (is_some held) None need) (sym (h t l) ∙ ap (option_map as_hold) none)) ∙ answers.met)),
      )

  pub resume_let_in : (woken : Option ThreadId) → AnswersNext at t (Resume l) Done woken → NoConflict t l Write (hold.hold_in old)
  resume_let_in woken answers = no_conflict Write (alone_by Write
      (second_met (unless (is_marked t at.entries) (NeedsMark l)) (entry_need at.settings at.client at.next t l Write at.entries) answers.met))

-- a thread that has left the lock is let in where it was before
pub left_let_in : (t : ThreadId) (l : LockName) (old mid : LockName × ThreadId → Option Held) → mid ≡ hold.with_hold l t None old → mid (l, t) ≡ None → NoConflict t l Write old → IsLetIn t l Write mid
left_let_in t l old mid is gone free = (ap (hold.is_upgrade Write) gone, λ none u rival. free u (record { other = rival.other; excludes = there u rival }))
  where
    there : (u : ThreadId) → IsInConflict t l Write mid u → option_map_or (hold.excludes Write) (old (l, u)) false ≡ true
    there u rival = by (hold.is_place l t (l, u)) (sym (ap (λ (holds : LockName × ThreadId → Option Held). option_map_or (hold.excludes Write) (holds (l, u)) false) is) ∙ rival.excludes)
      where
        by : (b : Bool) → option_map_or (hold.excludes Write) (or_old (cond b (Some None) None) (old (l, u))) false ≡ true → option_map_or (hold.excludes Write) (old (l, u)) false ≡ true
        by true e = absurd (cc e)
        by false e = e

-- what was written at a place stands there
pub written_here : (l : LockName) (t : ThreadId) (held : Option Held) (holds : LockName × ThreadId → Option Held) → hold.with_hold l t held holds (l, t) ≡ held
written_here l t held holds = ap (λ b. or_old (cond b (Some held) None) (holds (l, t)))
    (ap (λ b. b && is_at (thread_order t) t) (lock_at l l ∙ lock_self l) ∙ (thread_at t t ∙ thread_self t))

-- a thread that leaves the lock and enters it so often holds it so
pub held_again : (t : ThreadId) (l : LockName) (count : ℕ) (old mid new : LockName × ThreadId → Option Held) → mid ≡ hold.with_hold l t None old
    → (IsLetIn t l Write mid → new ≡ hold.with_hold l t (Some (hold.entered Write count (mid (l, t)))) mid) → NoConflict t l Write old
    → new ≡ hold.with_hold l t (Some (record { level = Write; count = count })) old
held_again t l count old mid new is enters free =
    let gone : mid (l, t) ≡ None = ap (λ (holds : LockName × ThreadId → Option Held). holds (l, t)) is ∙ written_here l t None old in
    enters (left_let_in t l old mid is gone free)
    ∙ (ap (λ held. hold.with_hold l t (Some (hold.entered Write count held)) mid) gone
    ∙ (ap (hold.with_hold l t (Some (record { level = Write; count = count }))) is
    ∙ with_twice l t None (Some (record { level = Write; count = count })) old))
