-- An act that enters or leaves a lock, waits or times out keeps the waiters of a lock as they should stand at its client.
use Rattle.std.proofs.Common.{ℕ, ◌-◌, ◌≡◌, ◌≢◌, refl, sym, ◌∙◌, ap, subst, Bool, true, false, cond, eqb, ◌&&◌, ◌||◌, Option, Some, None, List, [], ◌∷◌, ◌++◌}
use Rattle.dso_base.specs.declared.journal.Entry.{Entry}
use Rattle.dso_base.specs.declared.lock.Level.{Level}
use Rattle.dso_base.specs.declared.lock.Level.TheVariants.{Read, Write}
use Rattle.dso_base.specs.declared.lock.LockName.{LockName}
use Rattle.dso_base.specs.declared.lock.ThreadId.{ThreadId}
use Rattle.dso_base.specs.declared.record.Ending.{Ending}
use Rattle.dso_base.specs.declared.record.Ending.TheVariants as ending
use Rattle.dso_base.specs.declared.request.Event.TheVariants.{Act}
use Rattle.dso_base.specs.declared.request.Reply.{Reply}
use Rattle.dso_base.specs.declared.request.Reply.TheVariants.{Done}
use Rattle.dso_base.specs.declared.request.Request.{Request}
use Rattle.dso_base.specs.declared.request.Request.TheVariants.{Enter, Exit, Wait, Timeout}
use Rattle.dso_base.specs.Following.{is_thread}
use Rattle.dso_plain.specs.KeyTests.{is_lock}
use Rattle.dso_plain.specs.State.{Hold}
use Rattle.dso_plain.specs.After.{entered, exited}
use Rattle.dso_plain.proofs.keys.SameKeys.{same_lock, same_thread, thread_self}
use Rattle.dso_law.specs.ClientWaiters.{without, client_list, is_marked, is_listed}
use Rattle.dso_law.specs.FitsDown.{IsWaitingOn}
use Rattle.dso_law.specs.Leases.{leased}
use Rattle.dso_law.specs.Replies.{monitor_reply, timeout_reply}
use Rattle.dso_law.specs.RequestNeeds.{hold_level}
use Rattle.dso_law.specs.Settings.{Settings}
use Rattle.dso_law.specs.Threads.{Locks, hold_in, with_hold, locks_by, locks_of, hold_of, exit_ending, block_after, open_block}
use Rattle.dso_law.proofs.client.ClientLaws.{holds_after}
use Rattle.dso_legal.specs.Places.{Kept, unkept, places_noted, place_of}
use Rattle.dso_legal.proofs.blocks.OpenLocks.{set_there}
use Rattle.dso_legal.proofs.leases.LeaseSteps.{no_both}
use Rattle.dso_legal.proofs.leases.Queues.{lock_self}
use Rattle.dso_legal.proofs.marks.BlockMarks.{neither_way}
use Rattle.dso_legal.proofs.waiting.BlockNotes.{notes_of}
use Rattle.dso_legal.proofs.waiting.ClientView.{View, level_of, Waits, OneHolds, KeepsWaiters, quiet_keeps}
use Rattle.dso_legal.proofs.waiting.HandedIn.{handed_keeps, ComesToWait, waiting_keeps, TimesOutNow, timeout_keeps}
use Rattle.dso_legal.proofs.waiting.ActedView.{view_of, acted, waits_on_one, none_waiting, Leaves, leaves_quiet, Ends, ends_hands, IsFair}

module _ (p : Settings) (c : ℕ) (next : ThreadId → Option Request) (own : List Entry) (a : ThreadId) (l : LockName) (k : (j : LockName) → KeepsWaiters j (view_of own)) where
  abbrev v : View
  v = view_of own

  -- as they should stand after an act
  abbrev KeptBy : Request → Reply → Option ThreadId → Type 0
  KeptBy request reply woken = KeepsWaiters l (acted own a request reply woken)

  abbrev Fair : Request → Reply → Option ThreadId → Type 0
  Fair request reply woken = IsFair own l a request reply woken p c next

  -- an act that leaves them
  left : (request : Request) (reply : Reply) (woken : Option ThreadId) → Leaves own l a request reply woken → KeptBy request reply woken
  left request reply woken leaves = quiet_keeps l v (acted own a request reply woken) (leaves_quiet own l a request reply woken leaves) (k l)

  -- one that ends a block
  handed : (request : Request) (reply : Reply) (woken : Option ThreadId) (end : Ending) → Ends own l a request reply woken end → OneHolds l v → KeptBy request reply woken
  handed request reply woken end ends one = handed_keeps l a v (acted own a request reply woken) one (ends_hands own l a request reply woken end ends) (k l)

  -- a hold that is entered once more, or is there, keeps its level
  entered_level : (level : Level) (hold : Option Hold) → hold_level hold ≡ Some Write → hold_level (entered level hold) ≡ Some Write
  entered_level level None held = absurd (cc held)
  entered_level level (Some hold) held = held

  exited_level : (hold : Option Hold) (after_it : Hold) → exited hold ≡ Some after_it → hold_level hold ≡ Some Write → hold_level (exited hold) ≡ Some Write
  exited_level None after_it is held = absurd (cc is)
  exited_level (Some hold) after_it is held = by (eqb hold.count 1) is
    where
      by : (b : Bool) → cond b None (let r : Hold = record { level = hold.level; count = hold.count - 1 } in Some r) ≡ Some after_it → hold_level (cond b None (let r : Hold = record { level = hold.level; count = hold.count - 1 } in Some r)) ≡ Some Write
      by true e = absurd (cc e)
      by false e = held

  -- how a lock is held once another's hold, or its own, is changed
  changed_level : (j : LockName) (hold : Option Hold) (locks : Locks) → (is_lock j l ≡ true → hold_level (hold_in l locks.holds) ≡ Some Write → hold_level hold ≡ Some Write)
      → hold_level (hold_in l locks.holds) ≡ Some Write → hold_level (hold_in l (with_hold j hold locks.holds)) ≡ Some Write
  changed_level j hold locks same held = ap hold_level (holds_after j l hold locks.holds) ∙ by (is_lock j l) refl
    where
      by : (b : Bool) → is_lock j l ≡ b → hold_level (cond b hold (hold_in l locks.holds)) ≡ Some Write
      by true is = same is held
      by false other = held

  pub enter_keeps : (j : LockName) (level : Level) → KeptBy (Enter j level) Done None
  enter_keeps j level = left (Enter j level) Done None (record {
    ends = refl;
    silent = refl;
    list = λ t. refl;
    holds = changed_level j (entered level (hold_in j (locks_of a own).holds)) (locks_of a own)
        (λ same held. entered_level level (hold_in j (locks_of a own).holds) (subst (λ x. hold_level (hold_in x (locks_of a own).holds) ≡ Some Write) (same_lock j l same) held));
    waits = λ w. w;
    waited = λ w. w;
    marked = λ t w. refl;
  })

  pub exit_keeps : (j : LockName) → OneHolds l v → KeptBy (Exit j) Done None
  exit_keeps j one = by (exited (hold_in j (locks_of a own).holds)) refl
    where
      by : (after_it : Option Hold) → exited (hold_in j (locks_of a own).holds) ≡ after_it → KeptBy (Exit j) Done None
      by None is = handed (Exit j) Done None (ending.Exit j) (record {
        ends = ap (exit_ending j) is;
        leaves = λ t s. refl;
        list = refl;
        waits = λ w. w;
        waited = λ w. w;
        marked = λ t w. refl;
      }) one
      by (Some hold) is = left (Exit j) Done None (record {
        ends = ap (exit_ending j) is;
        silent = refl;
        list = λ t. refl;
        holds = changed_level j (exited (hold_in j (locks_of a own).holds)) (locks_of a own)
            (λ same held. exited_level (hold_in j (locks_of a own).holds) hold is (subst (λ x. hold_level (hold_in x (locks_of a own).holds) ≡ Some Write) (same_lock j l same) held));
        waits = λ w. w;
        waited = λ w. w;
        marked = λ t w. refl;
      })

  -- A wait on another lock: its thread hands in.
  wait_elsewhere : (j : LockName) → is_lock l j ≡ false → Fair (Wait j) Done None → KeptBy (Wait j) Done None
  wait_elsewhere j other fair = handed (Wait j) Done None (ending.Wait j) (record {
    ends = refl;
    leaves = λ t s. ap (λ b. cond (b && is_thread t a) Kept s) other;
    list = ap (λ b. cond b (client_list l own ++ a ∷ []) (client_list l own)) other;
    waits = λ w. none_waiting l (locks_of a own).waiting w fair.waits;
    waited = λ w. no_both (is_lock l j) (subst (λ x. is_lock l x ≡ true) (sym w) (lock_self l)) other;
    marked = λ t w. by t w (is_thread t a) refl;
  }) fair.one
    where
      by : (t : ThreadId) → Waits l v t → (b : Bool) → is_thread t a ≡ b → cond b false (is_marked t own) ≡ is_marked t own
      by t w true same = none_waiting l (locks_of a own).waiting (subst (λ x. Waits l v x) (sym (same_thread t a same)) w) fair.waits
      by t w false ne = refl

  -- A wait on the lock: its thread hands in, lets go, and comes to wait.
  abbrev unlocked : Locks → Locks
  unlocked locks = record { holds = with_hold l None locks.holds; waiting = locks.waiting }

  abbrev let_go : View
  let_go = record {
    place = λ j t. places_noted j t (notes_of (open_block a own)) (place_of j t own);
    list = λ j. client_list j own;
    notes = λ u. cond (is_thread u a) [] (notes_of (open_block u own));
    locks = λ u. cond (is_thread u a) (unlocked (locks_of u own)) (locks_of u own);
    marked = λ u. is_marked u own;
    lease = λ j. leased j own;
  }

  let_go_keeps : OneHolds l v → KeepsWaiters l let_go
  let_go_keeps one = handed_keeps l a v let_go one (record {
    place = λ t. refl;
    list = refl;
    lease = refl;
    own = ap (λ b. cond b [] (notes_of (open_block a own))) (thread_self a);
    notes = λ u ne. ap (λ b. cond b [] (notes_of (open_block u own))) ne;
    holds = λ u ne. ap (λ b. hold_level (hold_in l (cond b (unlocked (locks_of u own)) (locks_of u own)).holds)) ne;
    waits = λ t. waits t (is_thread t a);
    waited = λ t. waited t (is_thread t a);
    marked = λ t w. refl;
  }) (k l)
    where
      waits : (t : ThreadId) (b : Bool) → Waits l v t → IsWaitingOn l (cond b (unlocked (locks_of t own)) (locks_of t own)).waiting
      waits t true w = w
      waits t false w = w

      waited : (t : ThreadId) (b : Bool) → IsWaitingOn l (cond b (unlocked (locks_of t own)) (locks_of t own)).waiting → Waits l v t
      waited t true w = w
      waited t false w = w

  -- a held it, and no other thread; so once it let go nobody does
  let_go_free : level_of l v a ≡ Some Write → OneHolds l v → (u : ThreadId) → level_of l let_go u ≢ Some Write
  let_go_free held one u = by (is_thread u a) refl
    where
      by : (b : Bool) → is_thread u a ≡ b → hold_level (hold_in l (cond b (unlocked (locks_of u own)) (locks_of u own)).holds) ≢ Some Write
      by true same = λ e. cc (sym (ap hold_level (set_there l None (locks_of u own).holds)) ∙ e)
      by false other = (one.alone a held).others u (neither_way u a other)

  comes : ComesToWait l a let_go (acted own a (Wait l) Done None)
  comes = record {
    place = λ t. ap (λ b. cond (b && is_thread t a) Kept (places_noted l t (notes_of (open_block a own)) (place_of l t own))) (lock_self l);
    list = ap (λ b. cond b (client_list l own ++ a ∷ []) (client_list l own)) (lock_self l);
    lease = refl;
    notes = λ u. notes u (is_thread u a);
    holds = λ u. holds u (is_thread u a);
    own = ap_own (is_thread a a) (thread_self a);
    waits = λ t ne w. subst (λ b. IsWaitingOn l (cond b (locks_by (Wait l) Done (locks_of t own)) (locks_of t own)).waiting) (sym ne)
        (subst (λ b. IsWaitingOn l (cond b (unlocked (locks_of t own)) (locks_of t own)).waiting) ne w);
    waited = λ t ne w. subst (λ b. IsWaitingOn l (cond b (unlocked (locks_of t own)) (locks_of t own)).waiting) (sym ne)
        (subst (λ b. IsWaitingOn l (cond b (locks_by (Wait l) Done (locks_of t own)) (locks_of t own)).waiting) ne w);
    fresh = ap (λ b. cond b false (is_marked a own)) (thread_self a);
    marked = λ t ne. ap (λ b. cond b false (is_marked t own)) ne;
  }
    where
      notes : (u : ThreadId) (b : Bool) → notes_of (cond b (block_after (Act a (Wait l) Done None) (locks_of u own) (open_block u own)) (open_block u own)) ≡ cond b [] (notes_of (open_block u own))
      notes u true = refl
      notes u false = refl

      holds : (u : ThreadId) (b : Bool) → hold_level (hold_in l (cond b (locks_by (Wait l) Done (locks_of u own)) (locks_of u own)).holds) ≡ hold_level (hold_in l (cond b (unlocked (locks_of u own)) (locks_of u own)).holds)
      holds u true = refl
      holds u false = refl

      ap_own : (b : Bool) → b ≡ true → IsWaitingOn l (cond b (locks_by (Wait l) Done (locks_of a own)) (locks_of a own)).waiting
      ap_own true is = refl
      ap_own false is = absurd (cc is)

  -- an answer Done has the lock held at Write
  done_held : (level : Option Level) → Some (monitor_reply level) ≡ Some Done → level ≡ Some Write
  done_held (Some Write) answered = refl
  done_held (Some Read) answered = absurd (cc answered)
  done_held None answered = absurd (cc answered)

  wait_here : Fair (Wait l) Done None → KeptBy (Wait l) Done None
  wait_here fair =
      let held : level_of l v a ≡ Some Write = done_held (hold_level (hold_of a l own)) fair.answered in
      waiting_keeps l a let_go (acted own a (Wait l) Done None) (let_go_free held fair.one) (fair.leased a held) comes (let_go_keeps fair.one)

  pub wait_keeps : (j : LockName) → Fair (Wait j) Done None → KeptBy (Wait j) Done None
  wait_keeps j fair = by (is_lock l j) refl
    where
      by : (b : Bool) → is_lock l j ≡ b → KeptBy (Wait j) Done None
      by true same = subst (λ x. KeptBy (Wait x) Done None) (sym (same_lock l j same)) (wait_here (subst (λ x. Fair (Wait x) Done None) (same_lock l j same) fair))
      by false other = wait_elsewhere j other fair

  -- an answer Done to a timeout finds its thread unmarked
  done_unmarked : (b : Bool) → Some (timeout_reply b) ≡ Some Done → b ≡ false
  done_unmarked true answered = absurd (cc answered)
  done_unmarked false answered = refl

  -- a timeout of a wait on another lock
  timeout_elsewhere : (j : LockName) → is_lock l j ≡ false → Fair (Timeout j) Done None → KeptBy (Timeout j) Done None
  timeout_elsewhere j other fair = handed (Timeout j) Done None (ending.Timeout j) (record {
    ends = refl;
    leaves = λ t s. ap (λ b. cond (b && is_thread t a) (unkept s) s) other;
    list = ap (λ b. cond b (without a (client_list l own)) (client_list l own)) other;
    waits = λ w. w;
    waited = λ w. w;
    marked = λ t w. by t w (is_thread t a) refl;
  }) fair.one
    where
      by : (t : ThreadId) → Waits l v t → (b : Bool) → is_thread t a ≡ b → ((b && is_listed t j own) || is_marked t own) ≡ is_marked t own
      by t w true same = no_both (is_lock l j) (waits_on_one l j (locks_of a own).waiting (subst (λ x. Waits l v x) (sym (same_thread t a same)) w) fair.keeps) other
      by t w false ne = refl

  -- of a wait on the lock: its thread hands in, and leaves the list
  abbrev given_in : View
  given_in = record {
    place = λ j t. places_noted j t (notes_of (open_block a own)) (place_of j t own);
    list = λ j. client_list j own;
    notes = λ u. cond (is_thread u a) [] (notes_of (open_block u own));
    locks = λ u. locks_of u own;
    marked = λ u. is_marked u own;
    lease = λ j. leased j own;
  }

  given_in_keeps : OneHolds l v → KeepsWaiters l given_in
  given_in_keeps one = handed_keeps l a v given_in one (record {
    place = λ t. refl;
    list = refl;
    lease = refl;
    own = ap (λ b. cond b [] (notes_of (open_block a own))) (thread_self a);
    notes = λ u ne. ap (λ b. cond b [] (notes_of (open_block u own))) ne;
    holds = λ u ne. refl;
    waits = λ t w. w;
    waited = λ t w. w;
    marked = λ t w. refl;
  }) (k l)

  times_out : is_marked a own ≡ false → TimesOutNow l a given_in (acted own a (Timeout l) Done None)
  times_out fresh = record {
    place = λ t. ap (λ b. cond (b && is_thread t a) (unkept (places_noted l t (notes_of (open_block a own)) (place_of l t own))) (places_noted l t (notes_of (open_block a own)) (place_of l t own))) (lock_self l);
    list = ap (λ b. cond b (without a (client_list l own)) (client_list l own)) (lock_self l);
    lease = refl;
    notes = λ u. notes u (is_thread u a);
    locks = λ u. same (locks_of u own) (is_thread u a);
    own = ap (λ b. (b && is_listed a l own) || is_marked a own) (thread_self a) ∙ ap (λ b. is_listed a l own || b) fresh ∙ or_none (is_listed a l own);
    marked = λ t ne. ap (λ b. (b && is_listed t l own) || is_marked t own) ne;
  }
    where
      notes : (u : ThreadId) (b : Bool) → notes_of (cond b (block_after (Act a (Timeout l) Done None) (locks_of u own) (open_block u own)) (open_block u own)) ≡ cond b [] (notes_of (open_block u own))
      notes u true = refl
      notes u false = refl

      same : (x : Locks) (b : Bool) → cond b x x ≡ x
      same x true = refl
      same x false = refl

      or_none : (b : Bool) → (b || false) ≡ b
      or_none true = refl
      or_none false = refl

  timeout_here : Fair (Timeout l) Done None → KeptBy (Timeout l) Done None
  timeout_here fair =
      let fresh : is_marked a own ≡ false = done_unmarked (is_marked a own) fair.answered in
      timeout_keeps l a given_in (acted own a (Timeout l) Done None) (record { alone = λ u held. record { others = (fair.one.alone u held).others } }) fair.keeps fresh (times_out fresh) (given_in_keeps fair.one)

  pub timeout_acts : (j : LockName) → Fair (Timeout j) Done None → KeptBy (Timeout j) Done None
  timeout_acts j fair = by (is_lock l j) refl
    where
      by : (b : Bool) → is_lock l j ≡ b → KeptBy (Timeout j) Done None
      by true same = subst (λ x. KeptBy (Timeout x) Done None) (sym (same_lock l j same)) (timeout_here (subst (λ x. Fair (Timeout x) Done None) (same_lock l j same) fair))
      by false other = timeout_elsewhere j other fair
