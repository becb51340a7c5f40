-- The blocks of a client's thread, by the client's entries: its events are those of the ended blocks and then its open block.
use Rattle.std.specs.List.{list_any}
use Rattle.std.proofs.Common.{◌≡◌, refl, sym, ◌∙◌, ap, subst, Bool, true, false, cond, ◌||◌, is_some, Option, Some, None, List, [], ◌∷◌, ◌++◌}
use Rattle.std.proofs.lemmas.List.{append_assoc, append-nil}
use Rattle.dso_base.specs.declared.journal.Entry.{Entry}
use Rattle.dso_base.specs.declared.lock.ThreadId.{ThreadId}
use Rattle.dso_base.specs.declared.record.Body.{Body}
use Rattle.dso_base.specs.declared.record.Ending.{Ending}
use Rattle.dso_base.specs.declared.request.Event.{Event}
use Rattle.dso_base.specs.declared.request.Event.TheVariants.{Act, Lost}
use Rattle.dso_base.specs.declared.request.Reply.{Reply}
use Rattle.dso_base.specs.declared.request.Request.{Request}
use Rattle.dso_base.specs.declared.shape.Shape.{Shape}
use Rattle.dso_base.specs.Block.{start, worked}
use Rattle.dso_base.specs.Following.{is_thread}
use Rattle.dso_plain.specs.History.{is_act_of, events_of}
use Rattle.dso_plain.specs.Touches.{AreActsOf}
use Rattle.dso_plain.proofs.keys.SameKeys.{same_thread, thread_self}
use Rattle.dso_plain.proofs.histories.LegalGoesOn.{events_in_parts}
use Rattle.dso_law.specs.Entries.{by_event, add_event, events_in}
use Rattle.dso_law.specs.Threads.{Locks, locks_by, locks_after, locks_of, ending_of, block_after, open_block, privates_after, privates_before}
use Rattle.dso_legal.specs.Committed.{block_if, ended_by, ended_blocks}
use Rattle.dso_legal.specs.PendingBlocks.{joined, no_locks, locks_through, privates_by, privates_through, StaysOpen}
use Rattle.dso_legal.specs.Blocks.{KeepsThread}
use Rattle.dso_legal.proofs.leases.LeaseSteps.{unless_true, if_true}

-- lists behind one another, with one more at the end
pub joined_more : {X : Type 0} (lists : List (List X)) (xs : List X) → joined (lists ++ xs ∷ []) ≡ joined lists ++ xs
joined_more [] xs = append-nil xs
joined_more (first ∷ rest) xs = ap (λ ys. first ++ ys) (joined_more rest xs) ∙ sym (append_assoc first (joined rest) xs)

-- and in two parts
pub joined_parts : {X : Type 0} (first second : List (List X)) → joined (first ++ second) ≡ joined first ++ joined second
joined_parts [] second = refl
joined_parts (xs ∷ first) second = ap (λ ys. xs ++ ys) (joined_parts first second) ∙ sym (append_assoc xs (joined first) (joined second))

-- an act of the thread is found as one
pub is_of_thread : (t thread : ThreadId) → thread ≡ t → is_thread t thread ≡ true
is_of_thread t thread same = subst (λ u. is_thread t u ≡ true) (sym same) (thread_self t)

-- an act of another thread is not
pub is_of_other : (t u thread : ThreadId) → is_thread t u ≡ false → thread ≡ u → is_thread t thread ≡ false
is_of_other t u thread other same = subst (λ v. is_thread t v ≡ false) (sym same) other

-- the thread's events among its own acts are all of them
pub own_events : (t : ThreadId) (block : List Event) → AreActsOf t block → events_of t block ≡ block
own_events t [] acts = refl
own_events t (Act thread request reply woken ∷ block) acts =
    if_true (is_thread t thread) (Act thread request reply woken ∷ events_of t block) (events_of t block) (is_of_thread t thread acts.0)
    ∙ ap (λ events. Act thread request reply woken ∷ events) (own_events t block acts.1)
own_events t (Lost client ∷ block) acts = absurd acts.0

-- among another thread's acts there are none
pub no_events : (t u : ThreadId) (block : List Event) → is_thread t u ≡ false → AreActsOf u block → events_of t block ≡ []
no_events t u [] other acts = refl
no_events t u (Act thread request reply woken ∷ block) other acts =
    unless_true (is_thread t thread) (Act thread request reply woken ∷ events_of t block) (events_of t block) (is_of_other t u thread other acts.0)
    ∙ no_events t u block other acts.1
no_events t u (Lost client ∷ block) other acts = absurd acts.0

-- and none is found
pub none_of_thread : (t u : ThreadId) (block : List Event) → is_thread t u ≡ false → AreActsOf u block → list_any (is_act_of t) block ≡ false
none_of_thread t u [] other acts = refl
none_of_thread t u (Act thread request reply woken ∷ block) other acts =
    ap (λ b. b || list_any (is_act_of t) block) (is_of_other t u thread other acts.0) ∙ none_of_thread t u block other acts.1
none_of_thread t u (Lost client ∷ block) other acts = absurd acts.0

-- a list that ends with what passes the test has such an item
pub has_last : {X : Type 0} (test : X → Bool) (xs : List X) (x : X) → test x ≡ true → list_any test (xs ++ x ∷ []) ≡ true
has_last test [] x is = ap (λ b. b || false) is
has_last test (y ∷ xs) x is = by (test y) (has_last test xs x is)
  where
    by : (b : Bool) → list_any test (xs ++ x ∷ []) ≡ true → (b || list_any test (xs ++ x ∷ [])) ≡ true
    by true later = refl
    by false later = later

-- the acts of a thread in two lists
pub acts_both : (t : ThreadId) (first second : List Event) → AreActsOf t first → AreActsOf t second → AreActsOf t (first ++ second)
acts_both t [] second acts later = later
acts_both t (event ∷ first) second acts later = (acts.0, acts_both t first second acts.1 later)

-- the locks after two lists of events
pub locks_in_parts : (t : ThreadId) (first second : List Event) (locks : Locks) → locks_through t (first ++ second) locks ≡ locks_through t second (locks_through t first locks)
locks_in_parts t [] second locks = refl
locks_in_parts t (event ∷ first) second locks = locks_in_parts t first second (locks_after t event locks)

-- only the thread's own events change its locks
pub locks_by_own : (t : ThreadId) (events : List Event) (locks : Locks) → locks_through t (events_of t events) locks ≡ locks_through t events locks
locks_by_own t [] locks = refl
locks_by_own t (Lost client ∷ events) locks = locks_by_own t events locks
locks_by_own t (Act thread request reply woken ∷ events) locks = by (λ locks. locks_by_own t events locks) (is_thread t thread) refl
  where
    by : ((locks : Locks) → locks_through t (events_of t events) locks ≡ locks_through t events locks) → (b : Bool) → is_thread t thread ≡ b → locks_through t (cond b (Act thread request reply woken ∷ events_of t events) (events_of t events)) locks
        ≡ locks_through t events (cond b (locks_by request reply locks) locks)
    by later true is = ap (locks_through t (events_of t events)) (if_true (is_thread t thread) (locks_by request reply locks) locks is) ∙ later (locks_by request reply locks)
    by later false is = later locks

-- one more event that is no ending
pub stays_more : (t : ThreadId) (block : List Event) (event : Event) (locks : Locks) → StaysOpen t block locks → ending_of event (locks_through t block locks) ≡ None → StaysOpen t (block ++ event ∷ []) locks
stays_more t [] event locks stays none = (none, tt)
stays_more t (first ∷ block) event locks stays none = (stays.0, stays_more t block event (locks_after t first locks) stays.1 none)

-- the private objects after one more block
pub privates_more : (shape : Shape) (t : ThreadId) (blocks : List (List Event)) (block : List Event) (privates : List Body)
    → privates_through shape t (blocks ++ block ∷ []) privates ≡ privates_by shape t block (privates_through shape t blocks privates)
privates_more shape t [] block privates = refl
privates_more shape t (first ∷ blocks) block privates = privates_more shape t blocks block (privates_by shape t first privates)

-- an act keeps an open block of the thread's acts
act_opens : (t thread : ThreadId) (request : Request) (reply : Reply) (woken : Option ThreadId) (block : List Event) (b ends : Bool) → is_thread t thread ≡ b → AreActsOf t block
    → AreActsOf t (cond b (cond ends [] (block ++ Act thread request reply woken ∷ [])) block)
act_opens t thread request reply woken block true true is acts = tt
act_opens t thread request reply woken block true false is acts = acts_both t block (Act thread request reply woken ∷ []) acts (same_thread t thread is, tt)
act_opens t thread request reply woken block false ends is acts = acts

-- and so does any event
event_opens : (t : ThreadId) (event : Option Event) (locks : Locks) (block : List Event) → AreActsOf t block
    → AreActsOf t (by_event (λ event block. cond (is_act_of t event) (block_after event locks block) block) event block)
event_opens t None locks block acts = acts
event_opens t (Some (Lost client)) locks block acts = acts
event_opens t (Some (Act thread request reply woken)) locks block acts =
    act_opens t thread request reply woken block (is_thread t thread) (is_some (ending_of (Act thread request reply woken) locks)) refl acts

-- the open block of a thread has only acts of it
pub open_acts : (t : ThreadId) (own : List Entry) → AreActsOf t (open_block t own)
open_acts t [] = tt
open_acts t (e ∷ es) = event_opens t e.event (locks_of t es) (open_block t es) (open_acts t es)

-- a block with its last event is of its thread
pub block_acts : (t : ThreadId) (request : Request) (reply : Reply) (woken : Option ThreadId) (own : List Entry) → AreActsOf t (open_block t own ++ Act t request reply woken ∷ [])
block_acts t request reply woken own = acts_both t (open_block t own) (Act t request reply woken ∷ []) (open_acts t own) (refl, tt)

-- what the entries keep of a thread, by the blocks and readings that they make
record Kept (shape : Shape) (t : ThreadId) (blocks : List (List Event)) (block events : List Event) (locks : Locks) (privates : List Body) : Type 0 where
  events_are : events_of t (joined blocks) ++ block ≡ events
  locks_are : locks ≡ locks_through t events no_locks
  stays : StaysOpen t block (locks_through t (joined blocks) no_locks)
  privates_are : privates ≡ privates_through shape t blocks []

module _ (shape : Shape) (t : ThreadId) where
  -- the locks after the blocks and the open block
  locks_now : (blocks : List (List Event)) (block events : List Event) (locks : Locks) (privates : List Body) → Kept shape t blocks block events locks privates → AreActsOf t block
      → locks_through t block (locks_through t (joined blocks) no_locks) ≡ locks
  locks_now blocks block events locks privates kept acts =
      sym (locks_in_parts t (joined blocks) block no_locks) ∙ sym (locks_by_own t (joined blocks ++ block) no_locks)
      ∙ ap (λ all. locks_through t all no_locks) (events_in_parts t (joined blocks) block ∙ ap (λ own. events_of t (joined blocks) ++ own) (own_events t block acts) ∙ kept.events_are)
      ∙ sym kept.locks_are

  -- a block of another thread ends
  other_ends : (u : ThreadId) (ended : List Event) (blocks : List (List Event)) (block events : List Event) (locks : Locks) (privates : List Body) → is_thread t u ≡ false → AreActsOf u ended
      → Kept shape t blocks block events locks privates → Kept shape t (blocks ++ ended ∷ []) block events locks privates
  other_ends u ended blocks block events locks privates other acts kept =
      let none : events_of t (joined (blocks ++ ended ∷ [])) ≡ events_of t (joined blocks) =
      ap (events_of t) (joined_more blocks ended) ∙ events_in_parts t (joined blocks) ended ∙ ap (λ own. events_of t (joined blocks) ++ own) (no_events t u ended other acts) ∙ append-nil (events_of t (joined blocks)) in
      record {
        events_are = ap (λ own. own ++ block) none ∙ kept.events_are;
        locks_are = kept.locks_are;
        stays = subst (StaysOpen t block)
            (sym (locks_by_own t (joined blocks) no_locks) ∙ ap (λ own. locks_through t own no_locks) (sym none) ∙ locks_by_own t (joined (blocks ++ ended ∷ [])) no_locks) kept.stays;
        privates_are = kept.privates_are ∙ sym (privates_more shape t blocks ended []
            ∙ unless_true (list_any (is_act_of t) ended) (worked shape ended (start (privates_through shape t blocks []))).privates (privates_through shape t blocks []) (none_of_thread t u ended other acts));
      }

  module _ (request : Request) (reply : Reply) (woken : Option ThreadId) where
    -- the act
    abbrev act : ThreadId → Event
    act thread = Act thread request reply woken

    module _ (blocks : List (List Event)) (block events : List Event) (locks : Locks) (privates : List Body) (acts : AreActsOf t block) (kept : Kept shape t blocks block events locks privates) where
      -- its events with one more
      events_more : events_of t (joined blocks) ++ (block ++ act t ∷ []) ≡ events ++ act t ∷ []
      events_more = sym (append_assoc (events_of t (joined blocks)) block (act t ∷ [])) ∙ ap (λ own. own ++ act t ∷ []) kept.events_are

      -- its locks after it
      locks_more : locks_by request reply locks ≡ locks_through t (events ++ act t ∷ []) no_locks
      locks_more = ap (locks_by request reply) kept.locks_are
          ∙ sym (if_true (is_thread t t) (locks_by request reply (locks_through t events no_locks)) (locks_through t events no_locks) (thread_self t))
          ∙ sym (locks_in_parts t events (act t ∷ []) no_locks)

      -- an act of the thread, an ending or not
      own_acts : (ending : Option Ending) → ending_of (act t) locks ≡ ending
          → Kept shape t (blocks ++ block_if ending (block ++ act t ∷ [])) (cond (is_some ending) [] (block ++ act t ∷ [])) (events ++ act t ∷ []) (locks_by request reply locks)
          (cond (is_some ending) (worked shape (block ++ act t ∷ []) (start privates)).privates privates)
      own_acts None none = record {
        events_are = ap (λ all. events_of t (joined all) ++ (block ++ act t ∷ [])) (append-nil blocks) ∙ events_more;
        locks_are = locks_more;
        stays = subst (λ all. StaysOpen t (block ++ act t ∷ []) (locks_through t (joined all) no_locks)) (sym (append-nil blocks))
            (stays_more t block (act t) (locks_through t (joined blocks) no_locks) kept.stays (ap (ending_of (act t)) (locks_now blocks block events locks privates kept acts) ∙ none));
        privates_are = kept.privates_are ∙ ap (λ all. privates_through shape t all []) (sym (append-nil blocks));
      }
      own_acts (Some ending) some = record {
        events_are = append-nil (events_of t (joined (blocks ++ (block ++ act t ∷ []) ∷ [])))
            ∙ ap (events_of t) (joined_more blocks (block ++ act t ∷ [])) ∙ events_in_parts t (joined blocks) (block ++ act t ∷ [])
            ∙ ap (λ own. events_of t (joined blocks) ++ own) (own_events t (block ++ act t ∷ []) (acts_both t block (act t ∷ []) acts (refl, tt))) ∙ events_more;
        locks_are = locks_more;
        stays = tt;
        privates_are = ap (λ own. (worked shape (block ++ act t ∷ []) (start own)).privates) kept.privates_are
            ∙ sym (privates_more shape t blocks (block ++ act t ∷ []) []
            ∙ if_true (list_any (is_act_of t) (block ++ act t ∷ [])) (worked shape (block ++ act t ∷ []) (start (privates_through shape t blocks []))).privates (privates_through shape t blocks [])
            (has_last (is_act_of t) block (act t) (thread_self t)));
      }

    module _ (es : List Entry) (kept : Kept shape t (ended_blocks es) (open_block t es) (events_in t es) (locks_of t es) (privates_before shape t es)) where
      -- another thread's act, an ending or not
      other_acts : (thread : ThreadId) (ending : Option Ending) → is_thread t thread ≡ false
          → Kept shape t (ended_blocks es ++ block_if ending (open_block thread es ++ act thread ∷ [])) (open_block t es) (events_in t es) (locks_of t es) (privates_before shape t es)
      other_acts thread None other = subst (λ all. Kept shape t all (open_block t es) (events_in t es) (locks_of t es) (privates_before shape t es)) (sym (append-nil (ended_blocks es))) kept
      other_acts thread (Some ending) other = other_ends thread (open_block thread es ++ act thread ∷ []) (ended_blocks es) (open_block t es) (events_in t es) (locks_of t es) (privates_before shape t es) other
          (block_acts thread request reply woken es) kept

      -- an act of some thread
      some_acts : (thread : ThreadId) (b : Bool) → is_thread t thread ≡ b
          → Kept shape t (ended_blocks es ++ block_if (ending_of (act thread) (locks_of thread es)) (open_block thread es ++ act thread ∷ []))
          (cond b (block_after (act thread) (locks_of t es) (open_block t es)) (open_block t es)) (cond b (events_in t es ++ act thread ∷ []) (events_in t es))
          (cond b (locks_by request reply (locks_of t es)) (locks_of t es)) (cond b (privates_after shape (act thread) (locks_of t es) (open_block t es) (privates_before shape t es)) (privates_before shape t es))
      some_acts thread true is = subst (λ u. Kept shape t (ended_blocks es ++ block_if (ending_of (act u) (locks_of u es)) (open_block u es ++ act u ∷ []))
          (block_after (act u) (locks_of t es) (open_block t es)) (events_in t es ++ act u ∷ []) (locks_by request reply (locks_of t es)) (privates_after shape (act u) (locks_of t es) (open_block t es) (privates_before shape t es)))
          (sym (same_thread t thread is))
          (own_acts (ended_blocks es) (open_block t es) (events_in t es) (locks_of t es) (privates_before shape t es) (open_acts t es) kept (ending_of (act t) (locks_of t es)) refl)
      some_acts thread false is = other_acts thread (ending_of (act thread) (locks_of thread es)) is

  -- one more entry, by its event
  pass_state_after : (event : Option Event) (es : List Entry) → Kept shape t (ended_blocks es) (open_block t es) (events_in t es) (locks_of t es) (privates_before shape t es)
      → Kept shape t (by_event (λ event blocks. blocks ++ ended_by event es) event (ended_blocks es))
      (by_event (λ event block. cond (is_act_of t event) (block_after event (locks_of t es) block) block) event (open_block t es))
      (by_event (add_event t) event (events_in t es)) (by_event (locks_after t) event (locks_of t es))
      (by_event (λ event privates. cond (is_act_of t event) (privates_after shape event (locks_of t es) (open_block t es) privates) privates) event (privates_before shape t es))
  pass_state_after None es kept = kept
  pass_state_after (Some (Lost client)) es kept = subst (λ all. Kept shape t all (open_block t es) (events_in t es) (locks_of t es) (privates_before shape t es)) (sym (append-nil (ended_blocks es))) kept
  pass_state_after (Some (Act thread request reply woken)) es kept = some_acts request reply woken es kept thread (is_thread t thread) refl

  -- all entries
  kept_by : (es : List Entry) → Kept shape t (ended_blocks es) (open_block t es) (events_in t es) (locks_of t es) (privates_before shape t es)
  kept_by [] = record { events_are = refl; locks_are = refl; stays = tt; privates_are = refl }
  kept_by (e ∷ es) = pass_state_after e.event es (kept_by es)

-- A client's entries keep each thread: its events are those of the ended blocks and then its open block, in which none is an
-- ending; its locks are those that its events make; its private objects those that its blocks leave.
pub keeps_thread : (shape : Shape) (t : ThreadId) (own : List Entry) → KeepsThread shape t own
keeps_thread shape t own =
    let kept = kept_by shape t own in
    record { events = kept.events_are; acts = open_acts t own; locks = kept.locks_are; stays = kept.stays; privates = kept.privates_are }

-- The thread's locks are those after its ended blocks and its open block.
pub locks_at_block : (shape : Shape) (t : ThreadId) (own : List Entry) → locks_through t (open_block t own) (locks_through t (joined (ended_blocks own)) no_locks) ≡ locks_of t own
locks_at_block shape t own = locks_now shape t (ended_blocks own) (open_block t own) (events_in t own) (locks_of t own) (privates_before shape t own) (kept_by shape t own) (open_acts t own)
