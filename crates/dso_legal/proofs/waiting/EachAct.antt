-- A notification and a resumption keep the waiters of a lock as they should stand at their client; so each act does.
use Rattle.std.specs.List.{list_any}
use Rattle.std.proofs.Common.{ℕ, ◌≡◌, ◌≢◌, ◌⊎◌, ◌↔◌, inl, inr, refl, sym, ◌∙◌, ap, subst, Bool, true, false, cond, ◌||◌, Option, Some, None, List, [], ◌∷◌, ◌++◌}
use Rattle.std.proofs.lemmas.List.{append-nil}
use Rattle.dso_base.specs.declared.journal.Entry.{Entry}
use Rattle.dso_base.specs.declared.lock.Level.{Level}
use Rattle.dso_base.specs.declared.lock.Level.TheVariants.{Read, Write}
use Rattle.dso_base.specs.declared.lock.LockName.{LockName}
use Rattle.dso_base.specs.declared.lock.ThreadId.{ThreadId}
use Rattle.dso_base.specs.declared.record.Choice.TheVariants.{Here, There, All}
use Rattle.dso_base.specs.declared.record.Ending.{Ending}
use Rattle.dso_base.specs.declared.record.Ending.TheVariants as ending
use Rattle.dso_base.specs.declared.request.Event.TheVariants.{Act}
use Rattle.dso_base.specs.declared.request.Fault.{Fault}
use Rattle.dso_base.specs.declared.request.Reply.{Reply}
use Rattle.dso_base.specs.declared.request.Reply.TheVariants.{Done}
use Rattle.dso_base.specs.declared.request.Request.{Request}
use Rattle.dso_base.specs.declared.request.Request.TheVariants.{Enter, Exit, Wait, Timeout, Resume, Notify, NotifyAll, End}
use Rattle.dso_base.specs.Following.{is_thread}
use Rattle.dso_plain.specs.KeyTests.{is_lock}
use Rattle.dso_plain.specs.State.{Hold}
use Rattle.dso_plain.proofs.keys.SameKeys.{same_lock, same_thread, thread_self}
use Rattle.dso_law.specs.ClientWaiters.{without, without_woken, client_list, is_woken, is_marked, is_listed}
use Rattle.dso_law.specs.FitsDown.{IsWaitingOn}
use Rattle.dso_law.specs.Replies.{monitor_reply, first_of_list, woken_by}
use Rattle.dso_law.specs.RequestNeeds.{Need, NeedsMark, hold_level, unless, first_unmet, entry_need}
use Rattle.dso_law.specs.Settings.{Settings}
use Rattle.dso_law.specs.Threads.{Waiting, hold_in, resumed, locks_by, locks_of, hold_of, open_block}
use Rattle.dso_law.proofs.client.ClientLaws.{holds_after}
use Rattle.dso_legal.specs.Places.{Place, Away, Kept, Gone, unkept, places_noted}
use Rattle.dso_legal.proofs.blocks.LocksOfEvents.{lock_either_way}
use Rattle.dso_legal.proofs.leases.LeaseSteps.{no_both}
use Rattle.dso_legal.proofs.leases.Queues.{lock_self}
use Rattle.dso_legal.proofs.marks.BlockMarks.{left_out, left_in, neither_way}
use Rattle.dso_legal.proofs.waiting.BlockNotes.{notes_of, notes_both}
use Rattle.dso_legal.proofs.waiting.ClientView.{View, level_of, Waits, is_in, OneHolds, KeepsWaiters, quiet_keeps}
use Rattle.dso_legal.proofs.waiting.HandedIn.{handed_keeps}
use Rattle.dso_legal.proofs.waiting.ListMoves.{notified_keeps, resumed_keeps}
use Rattle.dso_legal.proofs.waiting.ActedView.{view_of, acted, waits_on_one, not_waiting, holds_again, others_locks, Leaves, leaves_quiet, Ends, ends_hands, IsFair}
use Rattle.dso_legal.proofs.waiting.WaitingActs.{enter_keeps, exit_keeps, wait_keeps, timeout_acts}

module _ (p : Settings) (c : ℕ) (next : ThreadId → Option Request) (own : List Entry) (a : ThreadId) (l : LockName) (k : (j : LockName) → KeepsWaiters j (view_of own)) where
  abbrev v : View
  v = view_of own

  -- as they should stand after an act
  abbrev KeptBy : Request → Reply → Option ThreadId → Type 0
  KeptBy request reply woken = KeepsWaiters l (acted own a request reply woken)

  abbrev Fair : Request → Reply → Option ThreadId → Type 0
  Fair request reply woken = IsFair own l a request reply woken p c next

  -- an act that leaves them
  left : (request : Request) (reply : Reply) (woken : Option ThreadId) → Leaves own l a request reply woken → KeptBy request reply woken
  left request reply woken leaves = quiet_keeps l v (acted own a request reply woken) (leaves_quiet own l a request reply woken leaves) (k l)

  -- one that ends a block
  handed : (request : Request) (reply : Reply) (woken : Option ThreadId) (end : Ending) → Ends own l a request reply woken end → OneHolds l v → KeptBy request reply woken
  handed request reply woken end ends one = handed_keeps l a v (acted own a request reply woken) one (ends_hands own l a request reply woken end ends) (k l)

  -- A notification of another lock: who is marked doesn't wait on this one.
  notify_elsewhere : (j : LockName) (list : List ThreadId) → client_list j own ≡ list → is_lock l j ≡ false → KeptBy (Notify j) Done (first_of_list list)
  notify_elsewhere j list is other = left (Notify j) Done (first_of_list list) (record {
    ends = refl;
    silent = ap (λ b. b || false) other;
    list = λ t. ap (λ b. list_any (is_thread t) (cond b (without_woken (first_of_list list) (client_list l own)) (client_list l own))) other;
    holds = λ h. h;
    waits = λ w. w;
    waited = λ w. w;
    marked = λ t w. unmarked t w list is;
  })
    where
      by : (t w : ThreadId) (ws : List ThreadId) → client_list j own ≡ w ∷ ws → Waits l v t → (b : Bool) → is_thread t w ≡ b → (b || is_marked t own) ≡ is_marked t own
      by t w ws there waits true same =
          no_both (is_lock l j) (waits_on_one l j (locks_of t own).waiting waits ((k j).listed t (ap (list_any (is_thread t)) there ∙ ap (λ b. b || list_any (is_thread t) ws) same))) other
      by t w ws there waits false ne = refl

      unmarked : (t : ThreadId) → Waits l v t → (list : List ThreadId) → client_list j own ≡ list → (is_woken t (first_of_list list) || is_marked t own) ≡ is_marked t own
      unmarked t waits [] there = refl
      unmarked t waits (w ∷ ws) there = by t w ws there waits (is_thread t w) refl

  -- of the lock, with nobody in the list
  notify_nobody : client_list l own ≡ [] → level_of l v a ≡ Some Write → OneHolds l v → KeptBy (Notify l) Done None
  notify_nobody none held one = notified_keeps l a There v (acted own a (Notify l) Done None) (record {
    held = held;
    place = λ t. refl;
    lease = refl;
    own = ap (λ b. notes_of (cond b (open_block a own ++ Act a (Notify l) Done None ∷ []) (open_block a own))) (thread_self a) ∙ notes_both (open_block a own) (Act a (Notify l) Done None ∷ []);
    notes = λ u ne. ap (λ b. notes_of (cond b (open_block u own ++ Act a (Notify l) Done None ∷ []) (open_block u own))) ne;
    locks = λ u. same (is_thread u a) (locks_of u own);
    chosen = λ t kept. out t (((k l).kept a t (one.alone a held)).0 kept);
    kept = λ t. subst (λ ts. (places_noted l t (v.notes a) (v.place l t) ≡ Kept) ↔ (list_any (is_thread t) ts ≡ true)) (sym (same (is_lock l l) (client_list l own))) ((k l).kept a t (one.alone a held));
    left = λ t there. ap (list_any (is_thread t)) (sym (same (is_lock l l) (client_list l own))) ∙ there;
    marked = λ t is. inl is;
    unmarked = λ t isnt. (isnt, λ there. ap (list_any (is_thread t)) (same (is_lock l l) (client_list l own)) ∙ there);
  }) (k l)
    where
      same : {X : Type 0} (b : Bool) (x : X) → cond b x x ≡ x
      same true x = refl
      same false x = refl

      out : (t : ThreadId) → is_in l v t ≡ true → ⊥
      out t there = cc (sym there ∙ ap (list_any (is_thread t)) none)

  -- with somebody
  notify_first : (w : ThreadId) (ws : List ThreadId) → client_list l own ≡ w ∷ ws → level_of l v a ≡ Some Write → OneHolds l v → KeptBy (Notify l) Done (Some w)
  notify_first w ws there held one = notified_keeps l a (Here w) v (acted own a (Notify l) Done (Some w)) (record {
    held = held;
    place = λ t. refl;
    lease = refl;
    own = ap (λ b. notes_of (cond b (open_block a own ++ Act a (Notify l) Done (Some w) ∷ []) (open_block a own))) (thread_self a) ∙ notes_both (open_block a own) (Act a (Notify l) Done (Some w) ∷ []);
    notes = λ u ne. ap (λ b. notes_of (cond b (open_block u own ++ Act a (Notify l) Done (Some w) ∷ []) (open_block u own))) ne;
    locks = λ u. same (is_thread u a) (locks_of u own);
    chosen = λ t is. ((k l).kept a t (one.alone a held)).1 (is_first t is);
    kept = λ t. kept t (is_thread t w) refl;
    left = λ t. left_before t (is_thread t w) refl;
    marked = λ t. marked t (is_thread t w) refl;
    unmarked = λ t. unmarked t (is_thread t w) refl;
  }) (k l)
    where
      same : {X : Type 0} (b : Bool) (x : X) → cond b x x ≡ x
      same true x = refl
      same false x = refl

      is_first : (t : ThreadId) → is_thread t w ≡ true → is_in l v t ≡ true
      is_first t is = ap (list_any (is_thread t)) there ∙ ap (λ b. b || list_any (is_thread t) ws) is

      list_now : cond (is_lock l l) (without w (client_list l own)) (client_list l own) ≡ without w (client_list l own)
      list_now = ap (λ b. cond b (without w (client_list l own)) (client_list l own)) (lock_self l)

      out : (t : ThreadId) → is_thread t w ≡ true → list_any (is_thread t) (cond (is_lock l l) (without w (client_list l own)) (client_list l own)) ≡ false
      out t is = ap (list_any (is_thread t)) list_now ∙ subst (λ x. list_any (is_thread x) (without w (client_list l own)) ≡ false) (same_thread t w is) (left_out w (client_list l own))

      still : (t : ThreadId) → is_thread t w ≡ false → list_any (is_thread t) (cond (is_lock l l) (without w (client_list l own)) (client_list l own)) ≡ is_in l v t
      still t ne = ap (list_any (is_thread t)) list_now ∙ left_in w t (client_list l own) (neither_way t w ne)

      kept : (t : ThreadId) (b : Bool) → is_thread t w ≡ b → (cond b Away (places_noted l t (v.notes a) (v.place l t)) ≡ Kept) ↔ (list_any (is_thread t) (cond (is_lock l l) (without w (client_list l own)) (client_list l own)) ≡ true)
      kept t true is = ((λ e. absurd (cc e)), λ there. no_both (list_any (is_thread t) (cond (is_lock l l) (without w (client_list l own)) (client_list l own))) there (out t is))
      kept t false ne = subst (λ b. (places_noted l t (v.notes a) (v.place l t) ≡ Kept) ↔ (b ≡ true)) (sym (still t ne)) ((k l).kept a t (one.alone a held))

      left_before : (t : ThreadId) (b : Bool) → is_thread t w ≡ b → list_any (is_thread t) (cond (is_lock l l) (without w (client_list l own)) (client_list l own)) ≡ true → is_in l v t ≡ true
      left_before t true is there = is_first t is
      left_before t false ne there = sym (still t ne) ∙ there

      marked : (t : ThreadId) (b : Bool) → is_thread t w ≡ b → (b || is_marked t own) ≡ true
          → (is_marked t own ≡ true) ⊎ ((is_in l v t ≡ true) × (list_any (is_thread t) (cond (is_lock l l) (without w (client_list l own)) (client_list l own)) ≡ false))
      marked t true is e = inr (is_first t is, out t is)
      marked t false ne e = inl e

      unmarked : (t : ThreadId) (b : Bool) → is_thread t w ≡ b → (b || is_marked t own) ≡ false
          → (is_marked t own ≡ false) × (is_in l v t ≡ true → list_any (is_thread t) (cond (is_lock l l) (without w (client_list l own)) (client_list l own)) ≡ true)
      unmarked t true is e = absurd (cc e)
      unmarked t false ne e = (e, λ there. still t ne ∙ there)

  notify_same : (list : List ThreadId) → client_list l own ≡ list → level_of l v a ≡ Some Write → OneHolds l v → KeptBy (Notify l) Done (first_of_list list)
  notify_same [] is held one = notify_nobody is held one
  notify_same (w ∷ ws) is held one = notify_first w ws is held one

  -- an answer Done has the lock held at Write
  done_held : (level : Option Level) → Some (monitor_reply level) ≡ Some Done → level ≡ Some Write
  done_held (Some Write) answered = refl
  done_held (Some Read) answered = absurd (cc answered)
  done_held None answered = absurd (cc answered)

  notify_keeps : (j : LockName) → Fair (Notify j) Done (first_of_list (client_list j own)) → KeptBy (Notify j) Done (first_of_list (client_list j own))
  notify_keeps j fair = by (is_lock l j) refl
    where
      by : (b : Bool) → is_lock l j ≡ b → KeptBy (Notify j) Done (first_of_list (client_list j own))
      by true is = subst (λ x. KeptBy (Notify x) Done (first_of_list (client_list x own))) (sym (same_lock l j is))
          (notify_same (client_list l own) refl (done_held (hold_level (hold_of a l own)) (subst (λ x. Some (monitor_reply (hold_level (hold_of a x own))) ≡ Some Done) (same_lock l j is) fair.answered)) fair.one)
      by false other = notify_elsewhere j (client_list j own) refl other

  -- All of another lock
  all_elsewhere : (j : LockName) → is_lock l j ≡ false → KeptBy (NotifyAll j) Done None
  all_elsewhere j other = left (NotifyAll j) Done None (record {
    ends = refl;
    silent = ap (λ b. b || false) other;
    list = λ t. ap (λ b. list_any (is_thread t) (cond b [] (client_list l own))) other;
    holds = λ h. h;
    waits = λ w. w;
    waited = λ w. w;
    marked = λ t w. by t w (is_listed t j own) refl;
  })
    where
      by : (t : ThreadId) → Waits l v t → (b : Bool) → is_listed t j own ≡ b → (b || is_marked t own) ≡ is_marked t own
      by t waits true there = no_both (is_lock l j) (waits_on_one l j (locks_of t own).waiting waits ((k j).listed t there)) other
      by t waits false none = refl

  -- all of the lock
  all_here : level_of l v a ≡ Some Write → KeptBy (NotifyAll l) Done None
  all_here held = notified_keeps l a All v (acted own a (NotifyAll l) Done None) (record {
    held = held;
    place = λ t. refl;
    lease = refl;
    own = ap (λ b. notes_of (cond b (open_block a own ++ Act a (NotifyAll l) Done None ∷ []) (open_block a own))) (thread_self a) ∙ notes_both (open_block a own) (Act a (NotifyAll l) Done None ∷ []);
    notes = λ u ne. ap (λ b. notes_of (cond b (open_block u own ++ Act a (NotifyAll l) Done None ∷ []) (open_block u own))) ne;
    locks = λ u. same (is_thread u a) (locks_of u own);
    chosen = λ t. tt;
    kept = λ t. ((λ e. absurd (never_kept (places_noted l t (v.notes a) (v.place l t)) e)), λ there. absurd (cc (sym (out t) ∙ there)));
    left = λ t there. absurd (cc (sym (out t) ∙ there));
    marked = λ t. marked t (is_in l v t) refl;
    unmarked = λ t. unmarked t (is_in l v t) refl;
  }) (k l)
    where
      same : {X : Type 0} (b : Bool) (x : X) → cond b x x ≡ x
      same true x = refl
      same false x = refl

      never_kept : (s : Place) → unkept s ≡ Kept → ⊥
      never_kept Away e = cc e
      never_kept Kept e = cc e
      never_kept Gone e = cc e

      out : (t : ThreadId) → list_any (is_thread t) (cond (is_lock l l) [] (client_list l own)) ≡ false
      out t = ap (λ b. list_any (is_thread t) (cond b [] (client_list l own))) (lock_self l)

      marked : (t : ThreadId) (b : Bool) → is_in l v t ≡ b → (b || is_marked t own) ≡ true → (is_marked t own ≡ true) ⊎ ((is_in l v t ≡ true) × (list_any (is_thread t) (cond (is_lock l l) [] (client_list l own)) ≡ false))
      marked t true there e = inr (there, out t)
      marked t false none e = inl e

      unmarked : (t : ThreadId) (b : Bool) → is_in l v t ≡ b → (b || is_marked t own) ≡ false
          → (is_marked t own ≡ false) × (is_in l v t ≡ true → list_any (is_thread t) (cond (is_lock l l) [] (client_list l own)) ≡ true)
      unmarked t true there e = absurd (cc e)
      unmarked t false none e = (e, λ there. no_both (is_in l v t) there none)

  all_keeps : (j : LockName) → Fair (NotifyAll j) Done None → KeptBy (NotifyAll j) Done None
  all_keeps j fair = by (is_lock l j) refl
    where
      by : (b : Bool) → is_lock l j ≡ b → KeptBy (NotifyAll j) Done None
      by true is = subst (λ x. KeptBy (NotifyAll x) Done None) (sym (same_lock l j is))
          (all_here (done_held (hold_level (hold_of a l own)) (subst (λ x. Some (monitor_reply (hold_level (hold_of a x own))) ≡ Some Done) (same_lock l j is) fair.answered)))
      by false other = all_elsewhere j other

  -- A resumption of another lock.
  resume_elsewhere : (j : LockName) → is_lock l j ≡ false → Fair (Resume j) Done None → KeptBy (Resume j) Done None
  resume_elsewhere j other fair = left (Resume j) Done None (record {
    ends = refl;
    silent = refl;
    list = λ t. refl;
    holds = λ h. ap hold_level (holds (locks_of a own).waiting) ∙ h;
    waits = λ w. no_both (is_lock l j) (waits_on_one l j (locks_of a own).waiting w fair.keeps) other;
    waited = λ w. absurd (subst (IsWaitingOn l) (not_waiting j (locks_of a own).waiting (locks_of a own) fair.keeps) w);
    marked = λ t w. refl;
  })
    where
      holds : (waiting : Option Waiting) → hold_in l (resumed j waiting (locks_of a own)).holds ≡ hold_in l (locks_of a own).holds
      holds None = refl
      holds (Some waiting) =
          let hold : Option Hold = Some (record { level = Write; count = waiting.count }) in
          holds_after j l hold (locks_of a own).holds ∙ ap (λ b. cond b hold (hold_in l (locks_of a own).holds)) (lock_either_way j l ∙ other)

  -- Of the lock: it needs the thread's mark, and that nobody else holds the lock.
  is_met : (b : Bool) (need : Need) (later : Option Need) → first_unmet (unless b need) later ≡ None → b ≡ true
  is_met true need later met = refl
  is_met false need later met = absurd (cc met)

  resume_here : Fair (Resume l) Done None → KeptBy (Resume l) Done None
  resume_here fair = resumed_keeps l a v (acted own a (Resume l) Done None) (record {
    waits = fair.keeps;
    is_marked = is_met (is_marked a own) (NeedsMark l) (entry_need p c next a l Write own) fair.met;
    free = λ u. free u (is_thread u a) refl;
    place = λ t. refl;
    list = refl;
    lease = refl;
    notes = λ u. notes u (is_thread u a);
    marked = λ t. refl;
    own = λ w. subst (IsWaitingOn l) (own_locks_waiting) w;
    locks = λ t ne. ap (λ b. cond b (locks_by (Resume l) Done (locks_of t own)) (locks_of t own)) ne;
  }) (k l)
    where
      notes : (u : ThreadId) (b : Bool) → notes_of (cond b (open_block u own ++ Act a (Resume l) Done None ∷ []) (open_block u own)) ≡ notes_of (open_block u own)
      notes u true = notes_both (open_block u own) (Act a (Resume l) Done None ∷ []) ∙ append-nil (notes_of (open_block u own))
      notes u false = refl

      own_locks_waiting : (cond (is_thread a a) (locks_by (Resume l) Done (locks_of a own)) (locks_of a own)).waiting ≡ None
      own_locks_waiting = ap (λ b. (cond b (locks_by (Resume l) Done (locks_of a own)) (locks_of a own)).waiting) (thread_self a) ∙ not_waiting l (locks_of a own).waiting (locks_of a own) fair.keeps

      own_level : level_of l (acted own a (Resume l) Done None) a ≡ Some Write
      own_level = ap (λ b. hold_level (hold_in l (cond b (locks_by (Resume l) Done (locks_of a own)) (locks_of a own)).holds)) (thread_self a) ∙ holds_again l (locks_of a own).waiting (locks_of a own) fair.keeps

      free : (u : ThreadId) (b : Bool) → is_thread u a ≡ b → level_of l v u ≢ Some Write
      free u true same = λ held. cc (sym (subst (λ x. hold_level (hold_in l (locks_of x own).holds) ≡ None) (same_thread u a same) (ap hold_level (fair.apart l fair.keeps))) ∙ held)
      free u false ne = λ held. (fair.one_now.alone a own_level).others u (neither_way u a ne) (others_locks own l a (Resume l) Done None u ne ∙ held)

  resume_keeps : (j : LockName) → Fair (Resume j) Done None → KeptBy (Resume j) Done None
  resume_keeps j fair = by (is_lock l j) refl
    where
      by : (b : Bool) → is_lock l j ≡ b → KeptBy (Resume j) Done None
      by true is = subst (λ x. KeptBy (Resume x) Done None) (sym (same_lock l j is)) (resume_here (subst (λ x. Fair (Resume x) Done None) (same_lock l j is) fair))
      by false other = resume_elsewhere j other fair

  -- The thread's end.
  end_keeps : (fault : Option Fault) → Fair (End fault) Done None → KeptBy (End fault) Done None
  end_keeps fault fair = handed (End fault) Done None (ending.End fault) (record {
    ends = refl;
    leaves = λ t s. refl;
    list = refl;
    waits = λ w. w;
    waited = λ w. w;
    marked = λ t w. refl;
  }) fair.one

  -- Each act keeps the waiters.
  pub acts_keep : (request : Request) (reply : Reply) → Fair request reply (woken_by request reply own) → KeptBy request reply (woken_by request reply own)
  acts_keep (Enter j level) Done fair = enter_keeps p c next own a l k j level
  acts_keep (Exit j) Done fair = exit_keeps p c next own a l k j fair.one
  acts_keep (Wait j) Done fair = wait_keeps p c next own a l k j fair
  acts_keep (Timeout j) Done fair = timeout_acts p c next own a l k j fair
  acts_keep (Notify j) Done fair = notify_keeps j fair
  acts_keep (NotifyAll j) Done fair = all_keeps j fair
  acts_keep (Resume j) Done fair = resume_keeps j fair
  acts_keep (End fault) Done fair = end_keeps fault fair
  acts_keep request reply fair = left request reply (woken_by request reply own) (record {
    ends = refl;
    silent = refl;
    list = λ t. refl;
    holds = λ h. h;
    waits = λ w. w;
    waited = λ w. w;
    marked = λ t w. refl;
  })
