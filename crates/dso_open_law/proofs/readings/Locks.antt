-- How a lock stands with the client after an entry that doesn't touch it: its lease, whether it is asked for, entered or
-- recalled.
use Rattle.std.proofs.Common.{◌≡◌, refl, sym, ◌∙◌, ap, Bool, true, false, cond, ◌&&◌, ◌||◌, is_some, Option, Some, None, List, [], ◌∷◌}
use Rattle.std.proofs.lemmas.Bool.{cond-false}
use Rattle.dso_base.specs.declared.journal.Entry.{Entry}
use Rattle.dso_base.specs.declared.lock.LockName.{LockName}
use Rattle.dso_base.specs.declared.lock.ThreadId.{ThreadId}
use Rattle.dso_base.specs.declared.message.Down.{Down}
use Rattle.dso_base.specs.declared.message.Down.TheVariants as down
use Rattle.dso_base.specs.declared.message.Up.{Up}
use Rattle.dso_base.specs.declared.message.Up.TheVariants as up
use Rattle.dso_base.specs.declared.request.Event.{Event}
use Rattle.dso_base.specs.declared.request.Event.TheVariants.{Act, Lost}
use Rattle.dso_base.specs.declared.request.Reply.{Reply}
use Rattle.dso_base.specs.declared.request.Reply.TheVariants.{Done}
use Rattle.dso_base.specs.declared.request.Request.{Request}
use Rattle.dso_base.specs.declared.request.Request.TheVariants.{Enter, Resume}
use Rattle.dso_plain.specs.KeyTests.{is_lock}
use Rattle.dso_plain.proofs.keys.SameKeys.{same_lock}
use Rattle.dso_law.specs.declared.readings.LockStanding.{LockStanding}
use Rattle.dso_law.specs.Entries.{by_taken_down, by_event}
use Rattle.dso_law.specs.Threads.{hold_of}
use Rattle.dso_law.specs.Leases.{standing_up, standing_down, standing, leased, is_asked_for, since_grant, enters, entered_by, is_entered, recalled_by, is_recalled}
use Rattle.dso_open_law.specs.TouchedThreads.{OfLock, up_topics, down_topics, done_topics, event_topics}
use Rattle.dso_open_law.proofs.readings.Untouched.{IsSpared, spared_one, Spares, act_spares, sent_leave, taken_leave}

module _ (before after : ThreadId → Option Request) (es : List Entry) (l : LockName) where
  -- a grant of another lock
  apart : {X : Type 0} (k : LockName) (x y : X) → IsSpared (OfLock l) (OfLock k ∷ []) → cond (is_lock l k) x y ≡ y
  apart k x y none = cond-false (is_lock l k) x y (spared_one (OfLock l) (OfLock k) none)

  standing_taken : (m : Down) (s : LockStanding) → IsSpared (OfLock l) (down_topics before after es m) → standing_down l m s ≡ s
  standing_taken (down.Grant k level) s none = apart k (record { lease = Some level; is_asked = false }) s none
  standing_taken m s none = refl

  standing_sent : (m : Up) (s : LockStanding) → IsSpared (OfLock l) (up_topics m) → standing_up l m s ≡ s
  standing_sent (up.Request k level) s none = apart k (record s { is_asked = true }) s none
  standing_sent (up.Return k threads) s none = apart k (record s { lease = None }) s none
  standing_sent m s none = refl

  since_taken : (m : Down) (b : Bool) → IsSpared (OfLock l) (down_topics before after es m) → since_grant l m b ≡ b
  since_taken (down.Grant k level) b none = apart k false b none
  since_taken m b none = refl

  recalled_taken : (m : Down) (b : Bool) → IsSpared (OfLock l) (down_topics before after es m) → recalled_by l m b ≡ b
  recalled_taken (down.Grant k level) b none = apart k false b none
  recalled_taken (down.Recall k) b none = ap (λ t. t || b) (spared_one (OfLock l) (OfLock k) none)
  recalled_taken m b none = refl

  -- an entry that doesn't touch the lock is of another, or of a lease that was entered
  enter_left : (k : LockName) (held : Bool) → IsSpared (OfLock l) (cond (held && is_entered k es) [] (OfLock k ∷ [])) → (is_lock l k || is_entered l es) ≡ is_entered l es
  enter_left k held none = by (is_lock l k) (is_entered k es) refl refl held none
    where
      by : (same entered : Bool) → is_lock l k ≡ same → is_entered k es ≡ entered → (held : Bool) → IsSpared (OfLock l) (cond (held && entered) [] (OfLock k ∷ [])) → (same || is_entered l es) ≡ is_entered l es
      by false entered other is held none = refl
      by true true same is held none = sym (ap (λ n. is_entered n es) (sym (same_lock l k same)) ∙ is)
      by true false same is true none = absurd (cc (sym same ∙ spared_one (OfLock l) (OfLock k) none))
      by true false same is false none = absurd (cc (sym same ∙ spared_one (OfLock l) (OfLock k) none))

  enters_left : (t : ThreadId) (request : Request) (reply : Reply) (woken : Option ThreadId) → IsSpared (OfLock l) (done_topics before after es t request reply woken) → (enters l request reply || is_entered l es) ≡ is_entered l es
  enters_left t (Enter k level) Done woken none = enter_left k (is_some (hold_of t k es)) none
  enters_left t (Resume k) Done woken none = ap (λ enters. enters || is_entered l es) (spared_one (OfLock l) (OfLock k) none)
  enters_left t request reply woken none = refl

  entered_acted : (event : Option Event) → IsSpared (OfLock l) (event_topics before after es event) → by_event (entered_by l) event (is_entered l es) ≡ is_entered l es
  entered_acted None none = refl
  entered_acted (Some (Act t request reply woken)) none = enters_left t request reply woken (act_spares before after es (OfLock l) t request reply woken none).does
  entered_acted (Some (Lost client)) none = refl

  module _ (e : Entry) (spares : Spares before after es (OfLock l) e) where
    standing_stays : standing l (e ∷ es) ≡ standing l es
    standing_stays = sent_leave (OfLock l) (λ s. s) (standing_up l) standing_sent e.sent (by_taken_down (standing_down l) e.input (standing l es)) spares.sent
        ∙ taken_leave before after es (OfLock l) (λ s. s) (standing_down l) standing_taken e.input (standing l es) spares.taken

    pub lease_stays : leased l (e ∷ es) ≡ leased l es
    lease_stays = ap (λ (s : LockStanding). s.lease) standing_stays

    pub asked_stays : is_asked_for l (e ∷ es) ≡ is_asked_for l es
    asked_stays = ap (λ (s : LockStanding). s.is_asked) standing_stays

    pub entered_stays : is_entered l (e ∷ es) ≡ is_entered l es
    entered_stays = ap (by_event (entered_by l) e.event) (taken_leave before after es (OfLock l) (λ b. b) (since_grant l) since_taken e.input (is_entered l es) spares.taken) ∙ entered_acted e.event spares.done

    pub recall_stays : is_recalled l (e ∷ es) ≡ is_recalled l es
    recall_stays = taken_leave before after es (OfLock l) (λ b. b) (recalled_by l) recalled_taken e.input (is_recalled l es) spares.taken
