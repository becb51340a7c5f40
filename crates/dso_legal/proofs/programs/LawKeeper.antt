-- What the law asks of a program, at points of a thread's run.
use Rattle.std.proofs.Common.{◌≡◌, refl, ℕ, suc, ◌-◌, ◌<◌, ◌≤◌, ◌≢◌, Bool, true, false, cond, eqb, ◌||◌, List, [], ◌∷◌, length, slice_get, get_or, inl, inr, ◌⊎◌, Option, None, Some, subst, sym, ap, ◌∙◌, arith}
use Rattle.std.proofs.lemmas.Option.{slice_get_cases}
use Rattle.dso_base.specs.declared.lock.Level.{Level}
use Rattle.dso_base.specs.declared.lock.Level.TheVariants.{Write}
use Rattle.dso_base.specs.declared.lock.LockName.{LockName}
use Rattle.dso_base.specs.declared.lock.LockName.TheVariants.{Mon}
use Rattle.dso_base.specs.declared.record.Ending.{Ending}
use Rattle.dso_base.specs.declared.record.Ending.TheVariants as ending
use Rattle.dso_base.specs.declared.request.Fault.{Fault}
use Rattle.dso_base.specs.declared.request.Reply.{Reply}
use Rattle.dso_base.specs.declared.request.Reply.TheVariants.{Done, Made, Val}
use Rattle.dso_base.specs.declared.request.Request.{Request}
use Rattle.dso_base.specs.declared.request.Request.TheVariants.{New, Look, Get, Put, Enter, Exit, Wait, Tick, Timeout, Resume, Notify, NotifyAll, Print, End, Pause, Settle}
use Rattle.dso_base.specs.declared.shape.ClassShape.{ClassShape}
use Rattle.dso_base.specs.declared.shape.Shape.{Shape}
use Rattle.dso_base.specs.declared.value.ClassId.TheVariants.{Plain, Array}
use Rattle.dso_base.specs.declared.value.Value.{Value}
use Rattle.dso_base.specs.declared.value.Value.TheVariants as value
use Rattle.dso_base.specs.Following.{IsListed}
use Rattle.dso_base.specs.Shape.{fields_at, fields_of}
use Rattle.dso_plain.specs.KeyTests.{is_lock}
use Rattle.dso_plain.specs.State.{Hold}
use Rattle.dso_plain.specs.After.{entered, exited, count_of}
use Rattle.dso_plain.specs.Possible.{IsFieldCount}
use Rattle.dso_plain.proofs.keys.SameKeys.{number_self, same_lock}
use Rattle.dso_law.specs.FitsDown.{IsWaitingOn}
use Rattle.dso_law.specs.RequestNeeds.{hold_level}
use Rattle.dso_law.specs.Threads.{Held, Locks, or_else, hold_in, with_hold, waiting_on, resumed, locks_by, ending_by, asks_end}
use Rattle.dso_law.proofs.client.ClientLaws.{holds_after}
use Rattle.dso_legal.specs.PendingBlocks.{no_locks}
use Rattle.dso_legal.specs.SoundProgram.{tells, IsTextAmong, GivesTextsAmong, KeepsLocks, MakesOnly, IsOfWaiter, TimesOutOnce}
use Rattle.dso_legal.proofs.leases.Queues.{lock_self}
use Rattle.dso_machine.proofs.protocol.Protocol.{KnowsValue, KnowsLock, is_plain, Keeper}

-- ---- points

-- a thread's locks, its latest ending, the objects that it was told of, and whether it has ended
pub record Point : Type 0 where
  pub locks : Locks
  pub latest : Option Ending
  pub told : ℕ → Bool
  pub ended : Bool

-- a thread's start: it was told of object 0
abbrev pub first : Point
first = record { locks = no_locks; latest = None; told = λ object. eqb object 0; ended = false }

-- the point after a request with its reply
abbrev pub next_point : Request → Reply → Point → Point
next_point q r g = record {
  locks = locks_by q r g.locks;
  latest = or_else (ending_by q r g.locks) g.latest;
  told = λ object. g.told object || tells object r;
  ended = g.ended || asks_end q;
}

-- the thread was told of the object, which is not object 0
pub record Knows (g : Point) (object : ℕ) : Type 0 where
  pub real : object ≢ 0
  pub told : g.told object ≡ true

-- it names only objects that it was told of, and in a put only texts that may be named
abbrev pub NamesAt : (ℕ → Type 0) → (ℕ → Bool) → (ℕ → Type 0) → Request → Type 0
NamesAt HasText told knows (Look o) = told o ≡ true
NamesAt HasText told knows (Get o f) = told o ≡ true
NamesAt HasText told knows (Put o f v) = (told o ≡ true) × KnowsValue HasText knows v
NamesAt HasText told knows (Enter l level) = KnowsLock knows l
NamesAt HasText told knows request = Unit {0}

-- it keeps to what the law asks, where the texts that may be named are these
pub record Asks (shape : Shape) (HasText : ℕ → Type 0) (g : Point) (q : Request) : Type 0 where
  pub goes : g.ended ≡ false
  pub names : NamesAt HasText g.told (Knows g) q
  pub texts : GivesTextsAmong HasText q
  pub locks : KeepsLocks q g.locks
  pub makes : MakesOnly shape q
  pub waits : g.locks.waiting ≢ None → IsOfWaiter q
  pub once : TimesOutOnce q g.latest

-- a thread that waits held the lock at Write
abbrev pub WaitsHeld : Request → Reply → Locks → Type 0
WaitsHeld (Wait l) Done locks = hold_level (hold_in l locks.holds) ≡ Some Write
WaitsHeld q r locks = Unit {0}

-- the text that the reply tells, if it tells one, may be named
abbrev pub TellsTextAmong : (ℕ → Type 0) → Reply → Type 0
TellsTextAmong HasText (Val v) = IsTextAmong HasText v
TellsTextAmong HasText r = Unit {0}

-- the reply is listed, does not tell of object 0, and tells no other text than those that may be named
pub record MayCome (HasText : ℕ → Type 0) (g : Point) (q : Request) (r : Reply) : Type 0 where
  pub listed : IsListed q r
  pub real : tells 0 r ≡ false
  pub text : TellsTextAmong HasText r
  pub held : WaitsHeld q r g.locks

-- a hold counts at least one entry
abbrev pub Counts : Option Hold → Type 0
Counts None = Unit {0}
Counts (Some hold) = 1 ≤ hold.count

-- the thread goes on: it has not ended, waits on nothing, each of its holds counts an entry, and it was told of object 0
pub record Awake (g : Point) : Type 0 where
  pub goes : g.ended ≡ false
  pub up : g.locks.waiting ≡ None
  pub counts : (l : LockName) → Counts (hold_in l g.locks.holds)
  pub roots : g.told 0 ≡ true

-- At the second point the thread waits on the lock since the first one, at which it was awake and held the lock at Write; no
-- less was told.
pub record Roused (g : Point) (l : LockName) (h : Point) : Type 0 where
  pub awake : Awake g
  pub held : hold_level (hold_in l g.locks.holds) ≡ Some Write
  pub locks : h.locks ≡ waiting_on l g.locks
  pub goes : h.ended ≡ false
  pub told : (object : ℕ) → g.told object ≡ true → h.told object ≡ true

-- and its latest ending is the wait
pub record Asleep (g : Point) (l : LockName) (h : Point) : Type 0 where
  pub roused : Roused g l h
  pub latest : h.latest ≡ Some (ending.Wait l)

-- each lock is held so, nothing else has changed, and no less was told
pub record Same (g h : Point) : Type 0 where
  pub holds : (l : LockName) → hold_in l h.locks.holds ≡ hold_in l g.locks.holds
  pub waiting : h.locks.waiting ≡ g.locks.waiting
  pub ended : h.ended ≡ g.ended
  pub told : (object : ℕ) → g.told object ≡ true → h.told object ≡ true

-- ---- what is told

-- what was told stays told
told_on : (a b : Bool) → a ≡ true → (a || b) ≡ true
told_on true b is = refl
told_on false b is = absurd (cc is)

-- and what the reply tells is told
told_now : (a b : Bool) → b ≡ true → (a || b) ≡ true
told_now true b is = refl
told_now false b is = is

-- an object whose number isn't that of object 0
real_object : (object : ℕ) → eqb object 0 ≡ false → object ≢ 0
real_object object is same = cc (sym (ap (λ n. eqb n 0) same) ∙ is)

pub still_known : (g : Point) (q : Request) (r : Reply) (object : ℕ) → Knows g object → Knows (next_point q r g) object
still_known g q r object known = record { real = known.real; told = told_on (g.told object) (tells object r) known.told }

pub made_known : {HasText : ℕ → Type 0} (g : Point) (q : Request) (object : ℕ) → MayCome HasText g q (Made object) → Knows (next_point q (Made object) g) object
made_known g q object comes = record { real = real_object object comes.real; told = told_now (g.told object) (eqb object object) (number_self object) }

pub read_known : {HasText : ℕ → Type 0} (g : Point) (q : Request) (object : ℕ) → MayCome HasText g q (Val (value.Ref object)) → Knows (next_point q (Val (value.Ref object)) g) object
read_known g q object comes = record { real = real_object object comes.real; told = told_now (g.told object) (eqb object object) (number_self object) }

-- ---- the same locks

pub same_itself : (g : Point) → Same g g
same_itself g = record { holds = λ l. refl; waiting = refl; ended = refl; told = λ object is. is }

pub same_then : (g h i : Point) → Same g h → Same h i → Same g i
same_then g h i some others = record {
  holds = λ l. others.holds l ∙ some.holds l;
  waiting = others.waiting ∙ some.waiting;
  ended = others.ended ∙ some.ended;
  told = λ object is. others.told object (some.told object is);
}

pub same_awake : (g h : Point) → Same g h → Awake g → Awake h
same_awake g h same awake = record { goes = same.ended ∙ awake.goes; up = same.waiting ∙ awake.up; counts = λ l. subst Counts (sym (same.holds l)) (awake.counts l); roots = same.told 0 awake.roots }

pub same_knows : (g h : Point) → Same g h → (object : ℕ) → Knows g object → Knows h object
same_knows g h same object known = record { real = known.real; told = same.told object known.told }

-- a request that leaves the locks and ends nothing
unchanged : (g : Point) (q : Request) (r : Reply) → locks_by q r g.locks ≡ g.locks → asks_end q ≡ false → Awake g → Same g (next_point q r g)
unchanged g q r locks goes awake = record {
  holds = λ l. ap (λ (x : Locks). hold_in l x.holds) locks;
  waiting = ap (λ (x : Locks). x.waiting) locks;
  ended = ap (λ b. g.ended || b) goes ∙ or_nothing g.ended;
  told = λ object is. told_on (g.told object) (tells object r) is;
}
  where
    or_nothing : (b : Bool) → (b || false) ≡ b
    or_nothing true = refl
    or_nothing false = refl

pub plain_same : {HasText : ℕ → Type 0} (g : Point) (q : Request) (r : Reply) → Awake g → is_plain q ≡ true → MayCome HasText g q r → Same g (next_point q r g)
plain_same g (Enter l level) r awake plain comes = absurd (cc plain)
plain_same g (Exit l) r awake plain comes = absurd (cc plain)
plain_same g (Wait l) r awake plain comes = absurd (cc plain)
plain_same g (Tick l) r awake plain comes = absurd (cc plain)
plain_same g (Timeout l) r awake plain comes = absurd (cc plain)
plain_same g (Resume l) r awake plain comes = absurd (cc plain)
plain_same g (End fault) r awake plain comes = absurd (cc plain)
plain_same g q r awake plain comes = unchanged g q r refl refl awake

pub enter_same : {HasText : ℕ → Type 0} (g : Point) (l : LockName) (level : Level) (r : Reply) → Awake g → MayCome HasText g (Enter l level) r → (r ≡ Done → ⊥) → Same g (next_point (Enter l level) r g)
enter_same g l level Done awake comes other = absurd (other refl)
enter_same g l level r awake comes other = unchanged g (Enter l level) r refl refl awake

pub wait_same : {HasText : ℕ → Type 0} (g : Point) (l : LockName) (r : Reply) → Awake g → MayCome HasText g (Wait l) r → (r ≡ Done → ⊥) → Same g (next_point (Wait l) r g)
wait_same g l Done awake comes other = absurd (other refl)
wait_same g l r awake comes other = unchanged g (Wait l) r refl refl awake

-- ---- locks

-- a hold counts an entry after one more
entered_counts : (level : Level) (hold : Option Hold) → Counts (entered level hold)
entered_counts level None = omega arith
entered_counts level (Some hold) = omega arith

-- and is there
entered_there : (level : Level) (hold : Option Hold) → entered level hold ≢ None
entered_there level None none = cc none
entered_there level (Some hold) none = cc none

-- one exit takes one entry back
exit_entered : (level : Level) (hold : Option Hold) → Counts hold → exited (entered level hold) ≡ hold
exit_entered level None counts = refl
exit_entered level (Some hold) counts =
    let more : eqb (suc hold.count) 1 ≡ false = grind arith in
    let less : suc hold.count - 1 ≡ hold.count = omega arith in
    ap (λ b. cond b None (Some (record { level = hold.level; count = suc hold.count - 1 }))) more ∙ ap (λ n. Some (record { level = hold.level; count = n })) less

-- a hold at Write is the one that a waiter has again
held_again : (hold : Option Hold) → hold_level hold ≡ Some Write → Some (record { level = Write; count = count_of hold }) ≡ hold
held_again None is = absurd (cc is)
held_again (Some hold) is =
    let same : hold.level ≡ Write = cc is in
    ap (λ level. Some (record { level = level; count = hold.count })) (sym same)

-- where no lock is held, no hold is there
no_holds : (holds : List Held) → ((l : LockName) → hold_in l holds ≡ None) → holds ≡ []
no_holds [] none = refl
no_holds (held ∷ holds) none =
    let there : cond (is_lock held.lock held.lock) (Some held.hold) (hold_in held.lock holds) ≡ None = none held.lock in
    absurd (found (is_lock held.lock held.lock) (lock_self held.lock) held.hold (hold_in held.lock holds) there)
  where
    found : (b : Bool) → b ≡ true → (hold : Hold) (others : Option Hold) → cond b (Some hold) others ≡ None → ⊥
    found true is hold others none = cc none
    found false is hold others none = cc is

-- at one of two: where the lock is set, and elsewhere
counts_either : (b : Bool) (here there : Option Hold) → Counts here → Counts there → Counts (cond b here there)
counts_either true here there h t = h
counts_either false here there h t = t

-- no waiting, no resume
not_waiting : (g : Point) (q : Request) → Awake g → g.locks.waiting ≢ None → IsOfWaiter q
not_waiting g q awake waits = absurd (waits awake.up)

module _ (g : Point) (l : LockName) (level : Level) (awake : Awake g) where
  -- the point after an entry
  abbrev inside : Point
  inside = next_point (Enter l level) Done g

  -- the lock's hold there
  hold_inside : hold_in l inside.locks.holds ≡ entered level (hold_in l g.locks.holds)
  hold_inside = holds_after l l (entered level (hold_in l g.locks.holds)) g.locks.holds ∙ ap (λ b. cond b (entered level (hold_in l g.locks.holds)) (hold_in l g.locks.holds)) (lock_self l)

  not_ended : (g.ended || false) ≡ false
  not_ended = ap (λ b. b || false) awake.goes

  pub enter_awake : Awake inside
  enter_awake = record {
    goes = not_ended;
    up = awake.up;
    counts = λ k. subst Counts (sym (holds_after l k (entered level (hold_in l g.locks.holds)) g.locks.holds))
        (counts_either (is_lock l k) (entered level (hold_in l g.locks.holds)) (hold_in k g.locks.holds) (entered_counts level (hold_in l g.locks.holds)) (awake.counts k));
    roots = told_on (g.told 0) false awake.roots;
  }

  module _ (h : Point) (same : Same inside h) where
    pub exit_asked : (shape : Shape) (HasText : ℕ → Type 0) → Asks shape HasText h (Exit l)
    exit_asked shape HasText =
        let still : Awake h = same_awake inside h same enter_awake in
        record {
          goes = still.goes;
          names = tt;
          texts = tt;
          locks = λ none. entered_there level (hold_in l g.locks.holds) (sym (same.holds l ∙ hold_inside) ∙ none);
          makes = tt;
          waits = not_waiting h (Exit l) still;
          once = tt;
        }

    -- each lock is held as before the entry
    as_before : (k : LockName) (b : Bool) → is_lock l k ≡ b → cond b (exited (hold_in l h.locks.holds)) (hold_in k h.locks.holds) ≡ hold_in k g.locks.holds
    as_before k true is = ap exited (same.holds l ∙ hold_inside) ∙ exit_entered level (hold_in l g.locks.holds) (awake.counts l) ∙ ap (λ x. hold_in x g.locks.holds) (sym (same_lock l k is))
    as_before k false is = same.holds k ∙ holds_after l k (entered level (hold_in l g.locks.holds)) g.locks.holds ∙ ap (λ b. cond b (entered level (hold_in l g.locks.holds)) (hold_in k g.locks.holds)) is

    pub exit_same : Same g (next_point (Exit l) Done h)
    exit_same = record {
      holds = λ k. holds_after l k (exited (hold_in l h.locks.holds)) h.locks.holds ∙ as_before k (is_lock l k) refl;
      waiting = same.waiting;
      ended = ap (λ b. b || false) (same.ended ∙ not_ended) ∙ sym awake.goes;
      told = λ object is. told_on (h.told object) false (same.told object (told_on (g.told object) false is));
    }

-- ---- waits

module _ (g : Point) (l : LockName) where
  -- a wait answered Done is the thread's latest ending
  pub wait_asleep : Awake g → hold_level (hold_in l g.locks.holds) ≡ Some Write → Asleep g l (next_point (Wait l) Done g)
  wait_asleep awake held = record {
    roused = record { awake = awake; held = held; locks = refl; goes = ap (λ b. b || false) awake.goes; told = λ object is. told_on (g.told object) false is };
    latest = refl;
  }

  module _ (h : Point) where
    -- where the thread waits on the lock
    waits_here : Roused g l h → IsWaitingOn l h.locks.waiting
    waits_here roused = subst (λ (locks : Locks). IsWaitingOn l locks.waiting) (sym roused.locks) refl

    -- a tick and a timeout leave it so
    pub still_roused : (q : Request) (r : Reply) → locks_by q r h.locks ≡ h.locks → asks_end q ≡ false → Roused g l h → Roused g l (next_point q r h)
    still_roused q r same goes roused = record {
      awake = roused.awake;
      held = roused.held;
      locks = same ∙ roused.locks;
      goes = ap (λ b. b || asks_end q) roused.goes ∙ goes;
      told = λ object is. told_on (h.told object) (tells object r) (roused.told object is);
    }

    pub still_asleep : (r : Reply) → Asleep g l h → Asleep g l (next_point (Tick l) r h)
    still_asleep r asleep = record { roused = still_roused (Tick l) r refl refl asleep.roused; latest = asleep.latest }

    module _ (shape : Shape) (HasText : ℕ → Type 0) where
      -- what a waiting thread may ask
      pub tick_asked : Roused g l h → Asks shape HasText h (Tick l)
      tick_asked roused = record { goes = roused.goes; names = tt; texts = tt; locks = waits_here roused; makes = tt; waits = λ waits. tt; once = tt }

      pub timeout_asked : Asleep g l h → Asks shape HasText h (Timeout l)
      timeout_asked asleep = record { goes = asleep.roused.goes; names = tt; texts = tt; locks = waits_here asleep.roused; makes = tt; waits = λ waits. tt; once = asleep.latest }

      pub resume_asked : Roused g l h → Asks shape HasText h (Resume l)
      resume_asked roused = record { goes = roused.goes; names = tt; texts = tt; locks = waits_here roused; makes = tt; waits = λ waits. tt; once = tt }

    pub roused_knows : Roused g l h → (object : ℕ) → Knows g object → Knows h object
    roused_knows roused object known = record { real = known.real; told = roused.told object known.told }

    -- each lock is held as before the wait
    as_woken : hold_level (hold_in l g.locks.holds) ≡ Some Write → (k : LockName) (b : Bool) → is_lock l k ≡ b
        → cond b (Some (record { level = Write; count = count_of (hold_in l g.locks.holds) })) (cond b None (hold_in k g.locks.holds)) ≡ hold_in k g.locks.holds
    as_woken held k true is = held_again (hold_in l g.locks.holds) held ∙ ap (λ x. hold_in x g.locks.holds) (sym (same_lock l k is))
    as_woken held k false is = refl

    pub resume_same : Roused g l h → Same g (next_point (Resume l) Done h)
    resume_same roused = record {
      holds = λ k. ap (λ (locks : Locks). hold_in k (resumed l locks.waiting locks).holds) roused.locks
          ∙ holds_after l k (Some (record { level = Write; count = count_of (hold_in l g.locks.holds) })) (with_hold l None g.locks.holds)
          ∙ ap (cond (is_lock l k) (Some (record { level = Write; count = count_of (hold_in l g.locks.holds) }))) (holds_after l k None g.locks.holds)
          ∙ as_woken roused.held k (is_lock l k) refl;
      waiting = ap (λ (locks : Locks). (resumed l locks.waiting locks).waiting) roused.locks ∙ sym roused.awake.up;
      ended = ap (λ b. b || false) roused.goes ∙ sym roused.awake.goes;
      told = λ object is. told_on (h.told object) false (roused.told object is);
    }

-- ---- what may be asked

pub start_awake : Awake first
start_awake = record { goes = refl; up = refl; counts = λ l. tt; roots = refl }

-- the end, where nothing is held
pub end_asked : (shape : Shape) (HasText : ℕ → Type 0) (g : Point) (fault : Option Fault) → Same first g → Asks shape HasText g (End fault)
end_asked shape HasText g fault same =
    let still : Awake g = same_awake first g same start_awake in
    record { goes = still.goes; names = tt; texts = tt; locks = no_holds g.locks.holds same.holds; makes = tt; waits = not_waiting g (End fault) still; once = tt }

-- a class that is there, with its number of fields
pub field_count : (class : Option ClassShape) → (class ≡ None → ⊥) → IsFieldCount class (length (fields_of class))
field_count None there = absurd (there refl)
field_count (Some class) there = refl

pub class_there : (shape : Shape) (class : ℕ) → class < length shape.classes → slice_get shape.classes class ≡ None → ⊥
class_there shape class less none = by (slice_get_cases shape.classes class).1
  where
    by : ((x : ClassShape) × (class < length shape.classes) × (slice_get shape.classes class ≡ Some x) × (get_or shape.classes class x ≡ x)) ⊎ ((length shape.classes ≤ class) × (slice_get shape.classes class ≡ None)) → ⊥
    by (inl found) = cc (sym found.2 ∙ none)
    by (inr past) = omega (arith, past.0, less)

-- a value whose text, if it is one, may be named stays so where its object is left out of sight
pub text_known : (HasText knows : ℕ → Type 0) (v : Value) → KnowsValue HasText knows v → IsTextAmong HasText v
text_known HasText knows (value.Text t) known = known
text_known HasText knows (value.Ref object) known = tt
text_known HasText knows value.Null known = tt
text_known HasText knows (value.Long n) known = tt
text_known HasText knows (value.Bool b) known = tt

module _ (shape : Shape) (HasText : ℕ → Type 0) where
  -- a request of a thread that is awake
  pub plainly : (g : Point) (q : Request) → Awake g → NamesAt HasText g.told (Knows g) q → GivesTextsAmong HasText q → KeepsLocks q g.locks → MakesOnly shape q → TimesOutOnce q g.latest → Asks shape HasText g q
  plainly g q awake names texts locks makes once = record { goes = awake.goes; names = names; texts = texts; locks = locks; makes = makes; waits = not_waiting g q awake; once = once }

  -- What the law asks of a program of this shape, where the texts that may be named are these, the program's own among them.
  abbrev pub law_keeper : ((t : ℕ) → t < shape.texts → HasText t) → Keeper shape
  law_keeper own = record {
    Point = Point;
    start = first;
    after = next_point;
    Asks = Asks shape HasText;
    IsReply = MayCome HasText;
    Knows = Knows;
    Looked = λ g object class size. Unit {0};
    HasText = HasText;
    Awake = Awake;
    Asleep = Asleep;
    Roused = Roused;
    Same = Same;
    listed = λ g q r comes. comes.listed;
    start_awake = start_awake;
    still_known = still_known;
    made_known = made_known;
    read_known = read_known;
    still_looked = λ g q r object class size looked. tt;
    seen_looked = λ g object class size comes. tt;
    literal_text = own;
    read_text = λ g q t comes. comes.text;
    same_itself = same_itself;
    same_then = same_then;
    same_awake = same_awake;
    same_knows = same_knows;
    same_looked = λ g h same object class size looked. tt;
    plain_same = plain_same;
    enter_same = enter_same;
    wait_same = wait_same;
    enter_awake = λ g l level awake comes. enter_awake g l level awake;
    exit_asked = λ g h l level awake comes same. exit_asked g l level awake h same shape HasText;
    exit_same = λ g h l level awake comes same. exit_same g l level awake h same;
    wait_asleep = λ g l awake comes. wait_asleep g l awake comes.held;
    tick_asked = λ g h l asleep. tick_asked g l h shape HasText asleep.roused;
    tick_asleep = λ g h l asleep comes. still_asleep g l h (Val (value.Bool false)) asleep;
    tick_roused = λ g h l asleep comes. still_roused g l h (Tick l) (Val (value.Bool true)) refl refl asleep.roused;
    timeout_asked = λ g h l asleep. timeout_asked g l h shape HasText asleep;
    timeout_roused = λ g h l r asleep comes. still_roused g l h (Timeout l) r refl refl asleep.roused;
    asleep_roused = λ g h l asleep. asleep.roused;
    roused_knows = λ g h l roused. roused_knows g l h roused;
    resume_asked = λ g h l roused. resume_asked g l h shape HasText roused;
    resume_same = λ g h l roused comes. resume_same g l h roused;
    end_asked = end_asked shape HasText;
    class_asked = λ g class awake less. plainly g (New (Plain class) (length (fields_at shape class))) awake tt tt tt (field_count (slice_get shape.classes class) (class_there shape class less)) tt;
    array_asked = λ g kind size awake few. plainly g (New (Array kind) size) awake tt tt tt few tt;
    look_asked = λ g object awake known. plainly g (Look object) awake known.told tt tt tt tt;
    get_asked = λ g object place class size awake known looked there. plainly g (Get object place) awake known.told tt tt tt tt;
    put_asked = λ g object place v class size awake known v_known looked there fits. plainly g (Put object place v) awake (known.told, v_known) (text_known HasText (Knows g) v v_known) tt tt tt;
    get_root_asked = λ g r awake there. plainly g (Get 0 r) awake awake.roots tt tt tt tt;
    put_root_asked = λ g r v awake known there fits. plainly g (Put 0 r v) awake (awake.roots, known) (text_known HasText (Knows g) v known) tt tt tt;
    enter_asked = λ g l level awake known there. plainly g (Enter l level) awake known tt tt tt tt;
    wait_asked = λ g object awake known. plainly g (Wait (Mon object)) awake tt tt tt tt tt;
    notify_asked = λ g object awake known. plainly g (Notify (Mon object)) awake tt tt tt tt tt;
    notify_all_asked = λ g object awake known. plainly g (NotifyAll (Mon object)) awake tt tt tt tt tt;
    print_asked = λ g v awake known. plainly g (Print v) awake tt (text_known HasText (Knows g) v known) tt tt tt;
    pause_asked = λ g awake. plainly g Pause awake tt tt tt tt tt;
    settle_asked = λ g awake. plainly g Settle awake tt tt tt tt tt;
  }
