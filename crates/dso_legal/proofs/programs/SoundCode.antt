-- Sound code is a sound program: each of its threads keeps to what the law asks. Of the texts that may be named, the whole list of the
-- thread's events tells, so they are the same at each point of its run.
use Rattle.std.specs.List.{list_any}
use Rattle.std.proofs.Common.{◌≡◌, ◌<◌, inl, inr, refl, ℕ, Bool, true, false, cond, eqb, ◌||◌, List, [], ◌∷◌, ◌++◌, Option, None, Some, subst, sym, ap, ◌∙◌}
use Rattle.dso_base.specs.declared.lock.LockName.{LockName}
use Rattle.dso_base.specs.declared.lock.LockName.TheVariants.{Mon, Name}
use Rattle.dso_base.specs.declared.lock.ThreadId.{ThreadId}
use Rattle.dso_base.specs.declared.request.Event.{Event}
use Rattle.dso_base.specs.declared.request.Event.TheVariants.{Act, Lost}
use Rattle.dso_base.specs.declared.request.Reply.{Reply}
use Rattle.dso_base.specs.declared.request.Reply.TheVariants.{Done, Made, Seen, Val, Local, Refused}
use Rattle.dso_base.specs.declared.request.Request.{Request}
use Rattle.dso_base.specs.declared.request.Request.TheVariants.{Look, Get, Put, Enter, Wait}
use Rattle.dso_base.specs.declared.shape.Shape.{Shape}
use Rattle.dso_base.specs.declared.value.Value.{Value}
use Rattle.dso_base.specs.declared.value.Value.TheVariants as value
use Rattle.dso_base.specs.Following.{IsListedFor, Listed, FollowsFrom, FollowsProgram}
use Rattle.dso_plain.specs.SameActs.{AreSameActs}
use Rattle.dso_plain.specs.Touches.{AreActsOf}
use Rattle.dso_plain.proofs.keys.SameKeys.{thread_self, number_self}
use Rattle.dso_law.specs.Threads.{Locks, or_else, locks_by, locks_after, ending_by, ends_thread}
use Rattle.dso_legal.specs.PendingBlocks.{no_locks, locks_through}
use Rattle.dso_legal.specs.SoundCode.{SoundCodeIsSoundProgram, SoundCodeGivesKnownTexts}
use Rattle.dso_legal.specs.SoundProgram.{tells, event_tells, event_tells_text, was_told, IsToldText, IsTextAmong, IsToldValue, IsToldLock, NamesOnlyTold, KeepsLocks, IsOfWaiter, latest_ending, TimesOutOnce, WaitIsHeld, WaitsAreHeld}
use Rattle.dso_legal.specs.SoundProgram as law
use Rattle.dso_machine.specs.declared.code.Code.{Code}
use Rattle.dso_machine.specs.Next.{replies_in, body_of, next_of, next_request}
use Rattle.dso_machine.specs.Sound as machine
use Rattle.dso_machine.proofs.protocol.Protocol.{KnowsValue, KnowsLock, through, FollowsAt}
use Rattle.dso_machine.proofs.protocol.Threads.{keeps_to}
use Rattle.dso_legal.proofs.programs.LawKeeper.{Point, first, next_point, Knows, NamesAt, TellsTextAmong, Asks, WaitsHeld, law_keeper}

-- ---- what the points are of events

-- the second of two that don't hold
first_false : (a b : Bool) → (a || b) ≡ false → a ≡ false
first_false true b is = is
first_false false b is = refl

rest_false : (a b : Bool) → (a || b) ≡ false → b ≡ false
rest_false true b is = absurd (cc is)
rest_false false b is = is

either_of_three : (a b c : Bool) → ((a || b) || c) ≡ (a || (b || c))
either_of_three true b c = refl
either_of_three false b c = refl

or_false : (b : Bool) → b ≡ (b || false)
or_false true = refl
or_false false = refl

-- an act of the thread changes its locks
own_act : (t u : ThreadId) (q : Request) (r : Reply) (woken : Option ThreadId) (locks : Locks) → u ≡ t → locks_after t (Act u q r woken) locks ≡ locks_by q r locks
own_act t u q r woken locks own = ap (λ x. locks_after t (Act x q r woken) locks) own ∙ ap (λ b. cond b (locks_by q r locks) locks) (thread_self t)

-- an own act, where one of two holds
or_left : (a b : Bool) → a ≡ true → (a || b) ≡ true
or_left true b is = refl
or_left false b is = absurd (cc is)

or_right : (a b : Bool) → b ≡ true → (a || b) ≡ true
or_right true b is = refl
or_right false b is = is

module _ (shape : Shape) (HasText : ℕ → Type 0) (own : (text : ℕ) → text < shape.texts → HasText text) (t : ThreadId) where
  -- the locks after events
  through_locks : (events : List Event) (g : Point) → AreActsOf t events → (through (law_keeper shape HasText own) g events).locks ≡ locks_through t events g.locks
  through_locks [] g acts = refl
  through_locks (Act u q r woken ∷ events) g acts = through_locks events (next_point q r g) acts.1 ∙ ap (locks_through t events) (sym (own_act t u q r woken g.locks acts.0))
  through_locks (Lost client ∷ events) g acts = absurd acts.0

  -- the latest ending after them
  through_latest : (events : List Event) (g : Point) → AreActsOf t events → (through (law_keeper shape HasText own) g events).latest ≡ latest_ending t events g.locks g.latest
  through_latest [] g acts = refl
  through_latest (Act u q r woken ∷ events) g acts = through_latest events (next_point q r g) acts.1
      ∙ ap (λ locks. latest_ending t events locks (or_else (ending_by q r g.locks) g.latest)) (sym (own_act t u q r woken g.locks acts.0))
  through_latest (Lost client ∷ events) g acts = absurd acts.0

  -- what they told
  through_told : (events : List Event) (g : Point) (object : ℕ) → (through (law_keeper shape HasText own) g events).told object ≡ (g.told object || list_any (event_tells object) events)
  through_told [] g object = or_false (g.told object)
  through_told (Act u q r woken ∷ events) g object = through_told events (next_point q r g) object ∙ either_of_three (g.told object) (tells object r) (list_any (event_tells object) events)
  through_told (Lost client ∷ events) g object = through_told events g object

  -- whether one was the end
  through_ended : (events : List Event) (g : Point) → (through (law_keeper shape HasText own) g events).ended ≡ (g.ended || list_any ends_thread events)
  through_ended [] g = or_false g.ended
  through_ended (Act u q r woken ∷ events) g = through_ended events (next_point q r g) ∙ either_of_three g.ended (ends_thread (Act u q r woken)) (list_any ends_thread events)
  through_ended (Lost client ∷ events) g = through_ended events g

-- ---- what follows

-- a wait answered Done is of a lock that is held
waits_held : (u : ThreadId) (q : Request) (r : Reply) (woken : Option ThreadId) (locks : Locks) → WaitIsHeld (Act u q r woken) locks → WaitsHeld q r locks
waits_held u (Wait l) Done woken locks held = held
waits_held u q r woken locks held = tt

module _ (HasText : ℕ → Type 0) (u : ThreadId) (q : Request) (woken : Option ThreadId) (events : List Event) where
  -- a text that the first of the events tells is one that may be named, where all that they tell are
  told_value_text : (v : Value) → ((text : ℕ) → list_any (event_tells_text text) (Act u q (Val v) woken ∷ events) ≡ true → HasText text) → IsTextAmong HasText v
  told_value_text (value.Text text) within = within text (or_left (eqb text text) (list_any (event_tells_text text) events) (number_self text))
  told_value_text (value.Ref object) within = tt
  told_value_text value.Null within = tt
  told_value_text (value.Long n) within = tt
  told_value_text (value.Bool b) within = tt

  told_text : (r : Reply) → ((text : ℕ) → list_any (event_tells_text text) (Act u q r woken ∷ events) ≡ true → HasText text) → TellsTextAmong HasText r
  told_text (Val v) within = told_value_text v within
  told_text (Made object) within = tt
  told_text (Seen class n) within = tt
  told_text Done within = tt
  told_text Local within = tt
  told_text (Refused fault) within = tt

module _ (code : Code) (HasText : ℕ → Type 0) (own : (text : ℕ) → text < code.shape.texts → HasText text) (t : ThreadId) where
  -- events that follow the program follow the code
  follows_code : (events before : List Event) (g : Point) → AreActsOf t events → list_any (event_tells 0) events ≡ false → WaitsAreHeld t events g.locks
      → ((text : ℕ) → list_any (event_tells_text text) events ≡ true → HasText text)
      → FollowsFrom (next_request code) (Listed (next_request code)) t before events → FollowsAt (law_keeper code.shape HasText own) (next_request code t) before g events
  follows_code [] before g acts untold held within follows = tt
  follows_code (Act u q r woken ∷ events) before g acts untold held within follows = (
    follows.0.0,
    record {
      listed = subst (λ asked. IsListedFor asked r) follows.0.0 follows.0.1;
      real = first_false (tells 0 r) (list_any (event_tells 0) events) untold;
      text = told_text HasText u q woken events r within;
      held = waits_held u q r woken g.locks held.0;
    },
    follows_code events (before ++ Act u q r woken ∷ []) (next_point q r g) acts.1 (rest_false (tells 0 r) (list_any (event_tells 0) events) untold)
        (subst (WaitsAreHeld t events) (own_act t u q r woken g.locks acts.0) held.1)
        (λ text is. within text (or_right (event_tells_text text (Act u q r woken)) (list_any (event_tells_text text) events) is)) follows.1,
  )
  follows_code (Lost client ∷ events) before g acts untold held within follows = absurd acts.0

-- ---- what is asked

module _ (HasText : ℕ → Type 0) (events : List Event) (g : Point) (told : (object : ℕ) → g.told object ≡ was_told object events) where
  told_value : (v : Value) → KnowsValue HasText (Knows g) v → IsToldValue v events
  told_value (value.Ref object) known = (known.real, sym (told object) ∙ known.told)
  told_value value.Null known = tt
  told_value (value.Long n) known = tt
  told_value (value.Bool b) known = tt
  told_value (value.Text n) known = tt

  told_lock : (l : LockName) → KnowsLock (Knows g) l → IsToldLock l events
  told_lock (Mon object) known = (known.real, sym (told object) ∙ known.told)
  told_lock (Name n) known = tt

  told_names : (q : Request) → NamesAt HasText g.told (Knows g) q → NamesOnlyTold q events
  told_names (Look object) names = sym (told object) ∙ names
  told_names (Get object place) names = sym (told object) ∙ names
  told_names (Put object place v) names = (sym (told object) ∙ names.0, told_value v names.1)
  told_names (Enter l level) names = told_lock l names
  told_names q names = tt

-- what a thread of sound code asks next may be asked at the point that its events lead to
may_ask : (code : Code) → machine.IsSoundCode code → (t : ThreadId) (events : List Event) (q : Request) → AreActsOf t events → list_any (event_tells 0) events ≡ false
    → WaitsAreHeld t events no_locks → FollowsProgram (next_request code) (Listed (next_request code)) t events → next_request code t events ≡ Some q
    → Asks code.shape (IsToldText code.shape events) (through (law_keeper code.shape (IsToldText code.shape events) (λ text less. inl less)) first events) q
may_ask code sound t events q acts untold held follows asked =
    let HasText : ℕ → Type 0 = IsToldText code.shape events in
    let own : (text : ℕ) → text < code.shape.texts → HasText text = λ text less. inl less in
    keeps_to code (law_keeper code.shape HasText own) sound t events q
    (follows_code code HasText own t events [] first acts untold held (λ text is. inr is) follows) asked

-- what it asks keeps to what the law asks of a program
keeps_law : (code : Code) → machine.IsSoundCode code → (t : ThreadId) (events : List Event) (q : Request) → AreActsOf t events → list_any (event_tells 0) events ≡ false
    → WaitsAreHeld t events no_locks → FollowsProgram (next_request code) (Listed (next_request code)) t events → next_request code t events ≡ Some q → law.KeepsTo code.shape t events q
keeps_law code sound t events q acts untold held follows asked =
    let HasText : ℕ → Type 0 = IsToldText code.shape events in
    let own : (text : ℕ) → text < code.shape.texts → HasText text = λ text less. inl less in
    let g : Point = through (law_keeper code.shape HasText own) first events in
    let locks : g.locks ≡ locks_through t events no_locks = through_locks code.shape HasText own t events first acts in
    let may : Asks code.shape HasText g q = may_ask code sound t events q acts untold held follows asked in
    record {
      goes = sym (through_ended code.shape HasText own t events first) ∙ may.goes;
      names = told_names HasText events g (through_told code.shape HasText own t events first) q may.names;
      locks = subst (KeepsLocks q) locks may.locks;
      makes = may.makes;
      waits = subst (λ (x : Locks). (x.waiting ≡ None → ⊥) → IsOfWaiter q) locks may.waits;
      times_out_once = subst (TimesOutOnce q) (through_latest code.shape HasText own t events first acts) may.once;
    }

-- the same acts have the same replies
same_replies : (events same : List Event) → AreSameActs events same → replies_in same ≡ replies_in events
same_replies [] [] are = refl
same_replies [] (e ∷ same) are = absurd are
same_replies (e ∷ events) [] are = absurd are
same_replies (Act u q r woken ∷ events) (Act v q' r' woken' ∷ same) are = ap (λ reply. reply ∷ replies_in same) are.0.2 ∙ ap (λ replies. r ∷ replies) (same_replies events same are.1)
same_replies (Act u q r woken ∷ events) (Lost client ∷ same) are = absurd are.0
same_replies (Lost client ∷ events) (e ∷ same) are = absurd are.0

-- Sound code is a sound program: what it asks next goes by the replies.
pub sound_program : SoundCodeIsSoundProgram
sound_program code sound = record {
  keeps = keeps_law code sound;
  goes_by_replies = λ t events same are. ap (λ replies. next_of code replies (body_of t code.bodies)) (same_replies events same are);
}

-- Sound code gives only known texts.
pub known_texts : SoundCodeGivesKnownTexts
known_texts code sound t events q acts untold held follows asked = (may_ask code sound t events q acts untold held follows asked).texts
