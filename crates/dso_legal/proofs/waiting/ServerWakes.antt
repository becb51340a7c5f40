-- Whom the server wakes stands in its list as the wake is sent, once: so the list is what the notifications and the timeout leave,
-- and each wake finds its thread gone to the server.
use Rattle.std.specs.List.{list_any}
use Rattle.std.proofs.Common.{ℕ, ◌≡◌, ◌↔◌, refl, sym, ◌∙◌, ap, subst, Bool, true, false, cond, eqb, ◌&&◌, List, [], ◌∷◌, ◌++◌}
use Rattle.dso_base.specs.declared.journal.Sent.{Sent}
use Rattle.dso_base.specs.declared.journal.Sent.TheVariants.{ToServer, ToClient}
use Rattle.dso_base.specs.declared.lock.LockName.{LockName}
use Rattle.dso_base.specs.declared.lock.ThreadId.{ThreadId}
use Rattle.dso_base.specs.declared.message.Down.{Down}
use Rattle.dso_base.specs.declared.message.Down.TheVariants as down
use Rattle.dso_base.specs.declared.record.Choice.{Choice}
use Rattle.dso_base.specs.declared.record.Choice.TheVariants.{Here, There, All}
use Rattle.dso_base.specs.declared.record.Ending.{Ending}
use Rattle.dso_base.specs.declared.record.Ending.TheVariants as ending
use Rattle.dso_base.specs.declared.record.Note.{Note}
use Rattle.dso_base.specs.declared.record.Txn.{Txn}
use Rattle.dso_base.specs.Following.{is_thread}
use Rattle.dso_lookup.proofs.Tests.{both}
use Rattle.dso_plain.specs.KeyTests.{is_lock}
use Rattle.dso_plain.proofs.keys.SameKeys.{same_lock, same_thread, number_self}
use Rattle.dso_law.specs.ClientWaiters.{without}
use Rattle.dso_law.specs.Entries.{by_sent_down, if_to}
use Rattle.dso_law.specs.FitsUp.{AreDistinct}
use Rattle.dso_law.specs.ServerWaiters.{waiters_by_sent, waiters_woken, waiters_left, lists_after, wake_each, wakes, lists_noted, wakes_timed_out, wakes_of}
use Rattle.dso_legal.specs.Agreement.{EachMay}
use Rattle.dso_legal.specs.Marks.{lists_without}
use Rattle.dso_legal.specs.Places.{Place, Away, Gone, place_down, MayPlaceDown}
use Rattle.dso_legal.specs.Resolved.{WaiterLists}
use Rattle.dso_legal.proofs.blocks.LocksOfEvents.{lock_either_way}
use Rattle.dso_legal.proofs.channels.InFlight.{told_to}
use Rattle.dso_legal.proofs.leases.LeaseSteps.{no_both}
use Rattle.dso_legal.proofs.marks.BlockMarks.{left_out, left_in, neither_way}
use Rattle.dso_legal.proofs.waiting.ThreadLists.{without_absent, without_first, without_all, none_left, AllThere, all_of, all_left}

-- the lists after the ending of a thread's record: a timeout takes the thread out
abbrev pub lists_ended : ThreadId → Ending → WaiterLists → WaiterLists
lists_ended t (ending.Exit k) lists = lists
lists_ended t (ending.Wait k) lists = lists
lists_ended t (ending.End fault) lists = lists
lists_ended t (ending.Timeout k) lists = lists_without t k lists

module _ (l : LockName) where
  -- a wake of the lock goes to its thread's client, and finds the thread in the list
  abbrev pub WakesThere : ℕ → Down → List ThreadId → Type 0
  WakesThere c (down.Wake k u) ts = is_lock l k ≡ true → (u.client ≡ c) × (list_any (is_thread u) ts ≡ true)
  WakesThere c m ts = Unit {0}

  -- each of what is sent does so
  abbrev pub EachWakes : List Sent → List ThreadId → Type 0
  EachWakes [] ts = Unit {0}
  EachWakes (ToServer m ∷ out) ts = EachWakes out ts
  EachWakes (ToClient c m ∷ out) ts = WakesThere c m ts × EachWakes out (waiters_by_sent l c m ts)

  -- what is sent wakes so, and leaves this list
  pub record Woken (out : List Sent) (ts left : List ThreadId) : Type 0 where
    pub each : EachWakes out ts
    pub leaves : by_sent_down (waiters_by_sent l) out ts ≡ left

  -- two lists of messages, one after the other
  pub woken_both : (xs ys : List Sent) (ts us vs : List ThreadId) → Woken xs ts us → Woken ys us vs → Woken (xs ++ ys) ts vs
  woken_both [] ys ts us vs first second = subst (λ x. Woken ys x vs) (sym first.leaves) second
  woken_both (ToServer m ∷ xs) ys ts us vs first second =
      let rest : Woken (xs ++ ys) ts vs = woken_both xs ys ts us vs (record { each = first.each; leaves = first.leaves }) second in
      record { each = rest.each; leaves = rest.leaves }
  woken_both (ToClient c m ∷ xs) ys ts us vs first second =
      let rest : Woken (xs ++ ys) (waiters_by_sent l c m ts) vs = woken_both xs ys (waiters_by_sent l c m ts) us vs (record { each = first.each.1; leaves = first.leaves }) second in
      record { each = (first.each.0, rest.each); leaves = rest.leaves }

  -- wakes of another lock leave the list
  others_woken : (k : LockName) (us ts : List ThreadId) → is_lock l k ≡ false → Woken (wake_each k us) ts ts
  others_woken k [] ts other = record { each = tt; leaves = refl }
  others_woken k (u ∷ us) ts other =
      let still : cond (is_lock l k) (without u ts) ts ≡ ts = ap (λ b. cond b (without u ts) ts) other in
      let rest : Woken (wake_each k us) ts ts = others_woken k us ts other in
      record {
        each = ((λ same. no_both (is_lock l k) same other), subst (EachWakes (wake_each k us)) (sym still) rest.each);
        leaves = ap (by_sent_down (waiters_by_sent l) (wake_each k us)) still ∙ rest.leaves;
      }

  -- wakes of the lock take their threads out
  own_woken : (k : LockName) (us ts : List ThreadId) → is_lock l k ≡ true → AreDistinct us → AllThere us ts → Woken (wake_each k us) ts (without_all us ts)
  own_woken k [] ts same once there = record { each = tt; leaves = refl }
  own_woken k (u ∷ us) ts same once there =
      let now : cond (is_lock l k) (without u ts) ts ≡ without u ts = ap (λ b. cond b (without u ts) ts) same in
      let rest : Woken (wake_each k us) (without u ts) (without_all us (without u ts)) = own_woken k us (without u ts) same once.1 (all_left u us ts once.0 there.1) in
      record {
        each = ((λ is. (refl, there.0)), subst (EachWakes (wake_each k us)) (sym now) rest.each);
        leaves = ap (by_sent_down (waiters_by_sent l) (wake_each k us)) now ∙ rest.leaves;
      }

  -- whom a choice wakes of a list
  choice_woken : (k : LockName) (choice : Choice) (ts : List ThreadId) → is_lock l k ≡ true → AreDistinct ts → Woken (wake_each k (waiters_woken choice ts)) ts (waiters_left choice ts)
  choice_woken k (Here u) ts same once = record { each = tt; leaves = refl }
  choice_woken k There [] same once = record { each = tt; leaves = refl }
  choice_woken k There (t ∷ ts) same once =
      let there : Woken (wake_each k (t ∷ [])) (t ∷ ts) (without t (t ∷ ts)) = own_woken k (t ∷ []) (t ∷ ts) same (refl, tt) ((all_of (t ∷ ts)).0, tt) in
      record { each = there.each; leaves = there.leaves ∙ without_first t ts once.0 }
  choice_woken k All ts same once =
      let all : Woken (wake_each k ts) ts (without_all ts ts) = own_woken k ts ts same once (all_of ts) in
      record { each = all.each; leaves = all.leaves ∙ none_left ts once }

  -- a list keeps its threads once each
  left_once : (choice : Choice) (ts : List ThreadId) → AreDistinct ts → AreDistinct (waiters_left choice ts)
  left_once (Here u) ts once = once
  left_once There [] once = tt
  left_once There (t ∷ ts) once = once.1
  left_once All ts once = tt

  -- a notification, by whether it is of the lock
  note_woken : (note : Note) (lists : WaiterLists) (b : Bool) → is_lock l note.lock ≡ b → AreDistinct (lists l)
      → Woken (wake_each note.lock (waiters_woken note.choice (lists note.lock))) (lists l) (lists_after note.lock note.choice lists l) × AreDistinct (lists_after note.lock note.choice lists l)
  note_woken note lists true is once =
      let now : lists_after note.lock note.choice lists l ≡ waiters_left note.choice (lists l) = ap (λ b. cond b (waiters_left note.choice (lists l)) (lists l)) (sym (lock_either_way l note.lock) ∙ is) in (
        subst (λ k. Woken (wake_each note.lock (waiters_woken note.choice (lists k))) (lists l) (lists_after note.lock note.choice lists l)) (sym (same_lock l note.lock is))
            (subst (Woken (wake_each note.lock (waiters_woken note.choice (lists l))) (lists l)) (sym now) (choice_woken note.lock note.choice (lists l) is once)),
        subst AreDistinct (sym now) (left_once note.choice (lists l) once),
      )
  note_woken note lists false other once =
      let now : lists_after note.lock note.choice lists l ≡ lists l = ap (λ b. cond b (waiters_left note.choice (lists l)) (lists l)) (sym (lock_either_way l note.lock) ∙ other) in (
        subst (Woken (wake_each note.lock (waiters_woken note.choice (lists note.lock))) (lists l)) (sym now) (others_woken note.lock (waiters_woken note.choice (lists note.lock)) (lists l) other),
        subst AreDistinct (sym now) once,
      )

  -- all notifications of a record
  notes_woken : (notes : List Note) (lists : WaiterLists) → AreDistinct (lists l) → Woken (wakes notes lists) (lists l) (lists_noted notes lists l) × AreDistinct (lists_noted notes lists l)
  notes_woken [] lists once = (record { each = tt; leaves = refl }, once)
  notes_woken (note ∷ notes) lists once =
      let now : WaiterLists = lists_after note.lock note.choice lists in
      let first = note_woken note lists (is_lock l note.lock) refl once in
      let rest = notes_woken notes now first.1 in
      (woken_both (wake_each note.lock (waiters_woken note.choice (lists note.lock))) (wakes notes now) (lists l) (now l) (lists_noted notes now l) first.0 rest.0, rest.1)

  -- its timeout, by whether the thread is in the list of that lock, and whether that is the lock
  timeout_woken : (t : ThreadId) (k : LockName) (lists : WaiterLists) (a b : Bool) → list_any (is_thread t) (lists k) ≡ a → is_lock l k ≡ b
      → Woken (cond a (wake_each k (t ∷ [])) []) (lists l) (lists_without t k lists l)
  timeout_woken t k lists a true there is =
      let now : lists_without t k lists l ≡ without t (lists l) = ap (λ b. cond b (without t (lists l)) (lists l)) (sym (lock_either_way l k) ∙ is) in
      subst (Woken (cond a (wake_each k (t ∷ [])) []) (lists l)) (sym now) (by a (subst (λ x. list_any (is_thread t) (lists x) ≡ a) (same_lock l k is) there))
    where
      by : (a : Bool) → list_any (is_thread t) (lists l) ≡ a → Woken (cond a (wake_each k (t ∷ [])) []) (lists l) (without t (lists l))
      by true there = own_woken k (t ∷ []) (lists l) is (refl, tt) (there, tt)
      by false none = record { each = tt; leaves = sym (without_absent t (lists l) none) }
  timeout_woken t k lists a false there other =
      let now : lists_without t k lists l ≡ lists l = ap (λ b. cond b (without t (lists l)) (lists l)) (sym (lock_either_way l k) ∙ other) in
      subst (Woken (cond a (wake_each k (t ∷ [])) []) (lists l)) (sym now) (by a)
    where
      by : (a : Bool) → Woken (cond a (wake_each k (t ∷ [])) []) (lists l) (lists l)
      by true = others_woken k (t ∷ []) (lists l) other
      by false = record { each = tt; leaves = refl }

  ending_woken : (t : ThreadId) (end : Ending) (lists : WaiterLists) → Woken (wakes_timed_out t end lists) (lists l) (lists_ended t end lists l)
  ending_woken t (ending.Exit k) lists = record { each = tt; leaves = refl }
  ending_woken t (ending.Wait k) lists = record { each = tt; leaves = refl }
  ending_woken t (ending.End fault) lists = record { each = tt; leaves = refl }
  ending_woken t (ending.Timeout k) lists = timeout_woken t k lists (list_any (is_thread t) (lists k)) (is_lock l k) refl refl

  -- What a record wakes: each finds its thread in the list, and the list is what its notifications and its timeout leave.
  pub record_wakes : (txn : Txn) (lists : WaiterLists) → AreDistinct (lists l) → Woken (wakes_of txn lists) (lists l) (lists_ended txn.thread txn.ending (lists_noted txn.notes lists) l)
  record_wakes txn lists once = woken_both (wakes txn.notes lists) (wakes_timed_out txn.thread txn.ending (lists_noted txn.notes lists)) (lists l) (lists_noted txn.notes lists l)
      (lists_ended txn.thread txn.ending (lists_noted txn.notes lists) l) (notes_woken txn.notes lists once).0 (ending_woken txn.thread txn.ending (lists_noted txn.notes lists))

  -- who is in the list is who is gone
  abbrev pub ListedAreGone : ThreadId → List ThreadId → Place → Type 0
  ListedAreGone t ts s = (list_any (is_thread t) ts ≡ true) ↔ (s ≡ Gone)

  -- a wake moves its thread out of both
  wake_moves : (t u : ThreadId) (k : LockName) (ts : List ThreadId) (s : Place) (a b : Bool) → is_lock l k ≡ a → is_thread t u ≡ b → ListedAreGone t ts s
      → ListedAreGone t (cond (is_lock l k) (without u ts) ts) (cond (is_lock l k && is_thread t u) Away s)
  wake_moves t u k ts s true true is same gone =
      subst (λ x. ListedAreGone t (cond x (without u ts) ts) (cond (x && is_thread t u) Away s)) (sym is)
      (subst (λ x. ListedAreGone t (without u ts) (cond x Away s)) (sym same)
      ((λ there. no_both (list_any (is_thread t) (without u ts)) there (subst (λ x. list_any (is_thread x) (without u ts) ≡ false) (same_thread t u same) (left_out u ts))), λ away. absurd (cc away)))
  wake_moves t u k ts s true false is other gone =
      subst (λ x. ListedAreGone t (cond x (without u ts) ts) (cond (x && is_thread t u) Away s)) (sym is)
      (subst (λ x. ListedAreGone t (without u ts) (cond x Away s)) (sym other)
      (subst (λ x. (x ≡ true) ↔ (s ≡ Gone)) (sym (left_in u t ts (neither_way t u other))) gone))
  wake_moves t u k ts s false b is same gone = subst (λ x. ListedAreGone t (cond x (without u ts) ts) (cond (x && is_thread t u) Away s)) (sym is) gone

  -- so does each message sent to a client; those to other clients than the thread's concern it in no way
  module _ (t : ThreadId) where
    -- what a message sent makes of both, by whether it goes to the thread's client
    record SentMoves (c : ℕ) (m : Down) (ts : List ThreadId) (s : Place) : Type 0 where
      comes : eqb t.client c ≡ true → MayPlaceDown l t m s
      moves : ListedAreGone t (waiters_by_sent l c m ts) (if_to t.client (place_down l t) c m s)

    -- a wake of another lock or thread leaves the place, one of the thread goes to its client
    wake_sent : (c : ℕ) (k : LockName) (u : ThreadId) (ts : List ThreadId) (s : Place) (b : Bool) → eqb t.client c ≡ b → WakesThere c (down.Wake k u) ts → ListedAreGone t ts s → SentMoves c (down.Wake k u) ts s
    wake_sent c k u ts s true its there gone = record {
      comes = λ _ here.
          let parts = both (is_lock l k) (is_thread t u) here in
          gone.0 (subst (λ x. list_any (is_thread x) ts ≡ true) (same_thread t u parts.1) (there parts.0).1);
      moves = subst (λ x. ListedAreGone t (waiters_by_sent l c (down.Wake k u) ts) (cond x (place_down l t (down.Wake k u) s) s)) (sym its) (wake_moves t u k ts s (is_lock l k) (is_thread t u) refl refl gone);
    }
    wake_sent c k u ts s false other there gone = record {
      comes = λ its. no_both (eqb t.client c) its other;
      moves = subst (λ x. ListedAreGone t (waiters_by_sent l c (down.Wake k u) ts) (cond x (place_down l t (down.Wake k u) s) s)) (sym other)
          (subst (λ x. ListedAreGone t (waiters_by_sent l c (down.Wake k u) ts) x) (left (is_lock l k) (is_thread t u) refl refl) (wake_moves t u k ts s (is_lock l k) (is_thread t u) refl refl gone));
    }
      where
        left : (a b : Bool) → is_lock l k ≡ a → is_thread t u ≡ b → cond (is_lock l k && is_thread t u) Away s ≡ s
        left true true is same = no_both (eqb t.client c) (ap (eqb t.client) (sym (there is).0 ∙ ap (λ (x : ThreadId). x.client) (same_thread t u same)) ∙ number_self t.client) other
        left true false is same = ap (λ b. cond b Away s) (ap (λ a. a && is_thread t u) is ∙ same)
        left false b is same = ap (λ b. cond b Away s) (ap (λ a. a && is_thread t u) is)

    -- every other message leaves both
    quiet_sent : (c : ℕ) (m : Down) (ts : List ThreadId) (s : Place) → MayPlaceDown l t m s → place_down l t m s ≡ s → waiters_by_sent l c m ts ≡ ts → ListedAreGone t ts s → SentMoves c m ts s
    quiet_sent c m ts s may still same gone = record {
      comes = λ _. may;
      moves = subst (λ x. ListedAreGone t x (cond (eqb t.client c) (place_down l t m s) s)) (sym same)
          (subst (λ x. ListedAreGone t ts (cond (eqb t.client c) x s)) (sym still) (subst (λ x. ListedAreGone t ts x) (sym (either (eqb t.client c))) gone));
    }
      where
        either : (b : Bool) → cond b s s ≡ s
        either true = refl
        either false = refl

    sent_moves : (c : ℕ) (m : Down) (ts : List ThreadId) (s : Place) → WakesThere c m ts → ListedAreGone t ts s → SentMoves c m ts s
    sent_moves c (down.Wake k u) ts s there gone = wake_sent c k u ts s (eqb t.client c) refl there gone
    sent_moves c (down.Ids first) ts s there gone = quiet_sent c (down.Ids first) ts s tt refl refl gone
    sent_moves c (down.Object body) ts s there gone = quiet_sent c (down.Object body) ts s tt refl refl gone
    sent_moves c (down.Grant k level) ts s there gone = quiet_sent c (down.Grant k level) ts s tt refl refl gone
    sent_moves c (down.Recall k) ts s there gone = quiet_sent c (down.Recall k) ts s tt refl refl gone
    sent_moves c (down.Ack seq) ts s there gone = quiet_sent c (down.Ack seq) ts s tt refl refl gone
    sent_moves c (down.Changes sets) ts s there gone = quiet_sent c (down.Changes sets) ts s tt refl refl gone

    -- What is sent may come to the thread as it stands at the server, and who is in the list is still who is gone.
    pub record PlacesFollow (out : List Sent) (ts : List ThreadId) (s : Place) : Type 0 where
      pub comes : EachMay (MayPlaceDown l t) (place_down l t) (told_to t.client out) s
      pub moves : ListedAreGone t (by_sent_down (waiters_by_sent l) out ts) (by_sent_down (if_to t.client (place_down l t)) out s)

    pub places_follow : (out : List Sent) (ts : List ThreadId) (s : Place) → EachWakes out ts → ListedAreGone t ts s → PlacesFollow out ts s
    places_follow [] ts s each gone = record { comes = tt; moves = gone }
    places_follow (ToServer m ∷ out) ts s each gone =
        let rest : PlacesFollow out ts s = places_follow out ts s each gone in
        record { comes = rest.comes; moves = rest.moves }
    places_follow (ToClient c m ∷ out) ts s each gone =
        let first : SentMoves c m ts s = sent_moves c m ts s each.0 gone in
        let rest : PlacesFollow out (waiters_by_sent l c m ts) (if_to t.client (place_down l t) c m s) = places_follow out (waiters_by_sent l c m ts) (if_to t.client (place_down l t) c m s) each.1 first.moves in
        record { comes = by (eqb t.client c) first.comes rest.comes; moves = rest.moves }
      where
        by : (b : Bool) → (b ≡ true → MayPlaceDown l t m s) → EachMay (MayPlaceDown l t) (place_down l t) (told_to t.client out) (cond b (place_down l t m s) s)
            → EachMay (MayPlaceDown l t) (place_down l t) (cond b (m ∷ told_to t.client out) (told_to t.client out)) s
        by true comes rest = (comes refl, rest)
        by false comes rest = rest
