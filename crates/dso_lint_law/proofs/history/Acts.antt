-- What acts leave: a thread's view still agrees with the state after its own acts, and after those of others.
use Rattle.std.proofs.Common.{◌≡◌, ◌≢◌, refl, ℕ, Bool, true, false, cond, eqb, ◌||◌, ◌&&◌, Option, None, Some, subst, sym, ap, ◌∙◌}
use Rattle.std.proofs.lemmas.Bool.{eqb-true}
use Rattle.dso_base.specs.declared.lock.Level.{Level}
use Rattle.dso_base.specs.declared.lock.LockName.{LockName}
use Rattle.dso_base.specs.declared.lock.LockName.TheVariants.{Mon, Name}
use Rattle.dso_base.specs.declared.lock.ThreadId.{ThreadId}
use Rattle.dso_base.specs.declared.request.Event.TheVariants.{Act, Lost}
use Rattle.dso_base.specs.declared.request.Reply.{Reply}
use Rattle.dso_base.specs.declared.request.Reply.TheVariants.{Done, Made, Seen, Val, Local}
use Rattle.dso_base.specs.declared.request.Request.{Request}
use Rattle.dso_base.specs.declared.request.Request.TheVariants.{New, Look, Get, Put, Enter, Exit, Wait, Timeout, Resume, Notify, NotifyAll, Print, End}
use Rattle.dso_base.specs.declared.shape.Shape.{Shape}
use Rattle.dso_base.specs.declared.value.ClassId.{ClassId}
use Rattle.dso_base.specs.declared.value.Value.{Value}
use Rattle.dso_base.specs.declared.value.Value.TheVariants as value
use Rattle.dso_base.specs.Following.{is_thread}
use Rattle.dso_lookup.specs.Maps.{writes, written, or_old}
use Rattle.dso_plain.specs.KeyTests.{is_lock, is_place}
use Rattle.dso_plain.specs.State.{Object, Hold, PlainState, IsPrivate, IsShared, is_private_to, is_shared, hold_on_guard}
use Rattle.dso_plain.specs.Possible.{IsPossibleButMarks, AnswersRequest, IsPrivateMonitor, IsClusterLock, IsOf}
use Rattle.dso_plain.specs.After as plain
use Rattle.dso_plain.specs.Touches.{ActTouches, ActMakes}
use Rattle.dso_plain.specs.After.{after, change_of}
use Rattle.dso_plain.proofs.independence.LeavesOthers.{IsQuiet, absent_shared, private_or_shared}
use Rattle.dso_plain.proofs.independence.RunsSwap.{quiet_act}
use Rattle.dso_plain.proofs.keys.SameKeys.{thread_self, same_number}
use Rattle.dso_lint_law.proofs.parts.Views.{View, viewed, set, shared_by, own_by, shared_read, own_stored}
use Rattle.dso_lint_law.proofs.history.Agrees.{class_in, Agrees}

-- ---- classes stay

-- the class of an object is the same where it becomes shared
class_shared : (object : Option Object) → class_in (plain.shared object) ≡ class_in object
class_shared None = refl
class_shared (Some object) = refl

module _ (shape : Shape) (t : ThreadId) (s : PlainState) (o : ℕ) (class : ClassId) (was : class_in (s.objects o) ≡ Some class) where
  class_made : (made_class : ClassId) (n p : ℕ) → s.objects p ≡ None → (b : Bool) → eqb o p ≡ b → class_in (or_old (cond b (Some (Some (plain.new_object t made_class n))) None) (s.objects o)) ≡ Some class
  class_made made_class n p absent true is = absurd (cc (sym (ap class_in (ap s.objects (same_number o p is) ∙ absent)) ∙ was))
  class_made made_class n p absent false is = was

  class_put : (p f : ℕ) (v : Value) (b : Bool) → class_in ((plain.apply (plain.put t p f v b s) s).objects o) ≡ Some class
  class_put p f v false = was
  class_put p f v true = by (plain.published t v s o)
    where
      by : (c : Bool) → class_in (or_old (cond c (Some (plain.shared (s.objects o))) None) (s.objects o)) ≡ Some class
      by true = class_shared (s.objects o) ∙ was
      by false = was

  class_read_shared : (p f : ℕ) (hold : Option Hold) → class_in ((plain.apply (plain.read_shared t p f hold s) s).objects o) ≡ Some class
  class_read_shared p f None = was
  class_read_shared p f (Some hold) = was

  class_read : (p f : ℕ) (b : Bool) → class_in ((plain.apply (plain.read shape t p f b s) s).objects o) ≡ Some class
  class_read p f true = class_read_shared p f (hold_on_guard shape t p f s)
  class_read p f false = was

  class_notify : (l : LockName) (woken : Option ThreadId) → class_in ((plain.apply (plain.notifies l woken) s).objects o) ≡ Some class
  class_notify l None = was
  class_notify l (Some w) = was

  -- an act leaves an object its class
  pub class_stays : (q : Request) (r : Reply) (woken : Option ThreadId) → AnswersRequest shape t q r s → class_in ((after shape (Act t q r woken) s).objects o) ≡ Some class
  class_stays (New made_class n) (Made p) woken answers = class_made made_class n p answers.1 (eqb o p) refl
  class_stays (Get p f) (Val v) woken answers = class_read p f (is_shared (s.objects p))
  class_stays (Put p f v) Done woken answers = class_put p f v (is_shared (s.objects p))
  class_stays (Enter l level) Done woken answers = was
  class_stays (Exit l) Done woken answers = was
  class_stays (Wait l) Done woken answers = was
  class_stays (Timeout l) Done woken answers = was
  class_stays (Resume l) Done woken answers = was
  class_stays (Notify l) Done woken answers = class_notify l woken
  class_stays (NotifyAll l) Done woken answers = was
  class_stays (Print v) Done woken answers = was
  class_stays (End fault) Done woken answers = was
  class_stays q r woken answers = was

-- ---- acts of others

-- what is shared stays so
shared_stays : (shape : Shape) (u : ThreadId) (q : Request) (r : Reply) (woken : Option ThreadId) (s : PlainState) (o : ℕ) → IsPossibleButMarks shape u q r s → IsShared o s → IsShared o (after shape (Act u q r woken) s)
shared_stays shape u q r woken s o may shared =
    let same : (after shape (Act u q r woken) s).objects o ≡ s.objects o = (quiet_act shape u q r woken s may).stays o (λ own. private_or_shared u (s.objects o) own shared) (λ absent. absent_shared (s.objects o) absent shared) in
    ap is_shared same ∙ shared

-- An act of another thread leaves the view as right as it was.
pub foreign : (shape : Shape) (t u : ThreadId) (g : View) (q : Request) (r : Reply) (woken : Option ThreadId) (s : PlainState) → u ≢ t → IsPossibleButMarks shape u q r s → Agrees t g s → Agrees t g (after shape (Act u q r woken) s)
foreign shape t u g q r woken s other may agrees = record {
  holds = λ l. agrees.holds l ∙ sym (quiet.monitors l t (λ same. other (sym same)));
  asleep = λ l. agrees.asleep l ∙ sym (quiet.own_waits l t (λ same. other (sym same)));
  class = λ o class seen. class_stays shape u s o class (agrees.class o class seen) q r woken may.answers;
  shared = λ o is. shared_stays shape u q r woken s o may (agrees.shared o is);
  own = λ o is. quiet.privacy t o (λ same. other (sym same)) ∙ agrees.own o is;
}
  where
    quiet : IsQuiet shape u (ActTouches u q r s) (ActMakes q r) s (after shape (Act u q r woken) s)
    quiet = quiet_act shape u q r woken s may

-- The loss of another client does, too.
pub lost_other : (shape : Shape) (t : ThreadId) (client : ℕ) (g : View) (s : PlainState) → eqb t.client client ≡ false → Agrees t g s → Agrees t g (after shape (Lost client) s)
lost_other shape t client g s other agrees = record {
  holds = λ l. agrees.holds l ∙ sym (ap (λ b. or_old (cond b (Some None) None) (s.monitors (l, t))) other);
  asleep = λ l. agrees.asleep l ∙ sym (ap (λ b. or_old (cond b (Some None) None) (s.asleep (l, t))) other);
  class = agrees.class;
  shared = agrees.shared;
  own = agrees.own;
}

-- ---- own acts

and_first : (a b : Bool) → (a && b) ≡ true → a ≡ true
and_first true b is = refl
and_first false b is = absurd (cc is)

and_second : (a b : Bool) → (a && b) ≡ true → b ≡ true
and_second true b is = is
and_second false b is = absurd (cc is)

-- where a part is written at the thread's own lock, the view is written at the lock
same_places : {V : Type 0} (l k : LockName) (t : ThreadId) (new : V) (old : LockName × ThreadId → V) (mine : LockName → V) → is_thread t t ≡ true → mine k ≡ old (k, t)
    → set (is_lock l) new mine k ≡ written (writes (is_place l t) (λ key. new)) old (k, t)
same_places l k t new old mine self is = by (is_lock l k) (is_thread t t) self
  where
    by : (a b : Bool) → b ≡ true → cond a new (mine k) ≡ or_old (cond (a && b) (Some new) None) (old (k, t))
    by true true same = refl
    by false true same = is
    by true false same = absurd (cc same)
    by false false same = is

module _ (shape : Shape) (t : ThreadId) (g : View) (s : PlainState) (agrees : Agrees t g s) where
  -- a state with the same objects
  with_objects : (h : View) (r : PlainState) → r.objects ≡ s.objects → ((l : LockName) → h.holds l ≡ r.monitors (l, t)) → ((l : LockName) → h.asleep l ≡ r.asleep (l, t))
      → ((o : ℕ) (c : ClassId) → h.class o ≡ Some c → class_in (s.objects o) ≡ Some c) → ((o : ℕ) → h.shared o ≡ true → IsShared o s) → ((o : ℕ) → h.own o ≡ true → IsPrivate t o s) → Agrees t h r
  with_objects h r objects holds asleep class shared own = record {
    holds = holds;
    asleep = asleep;
    class = λ o c is. ap (λ (f : ℕ → Option Object). class_in (f o)) objects ∙ class o c is;
    shared = λ o is. ap (λ (f : ℕ → Option Object). is_shared (f o)) objects ∙ shared o is;
    own = λ o is. ap (λ (f : ℕ → Option Object). is_private_to t (f o)) objects ∙ own o is;
  }

  -- nothing that the view tells has changed
  same_view : (r : PlainState) → r.objects ≡ s.objects → r.monitors ≡ s.monitors → r.asleep ≡ s.asleep → Agrees t g r
  same_view r objects monitors asleep = with_objects g r objects (λ l. agrees.holds l ∙ sym (ap (λ (f : LockName × ThreadId → Option Hold). f (l, t)) monitors)) (λ l. agrees.asleep l ∙ sym (ap (λ (f : LockName × ThreadId → Option ℕ). f (l, t)) asleep)) agrees.class agrees.shared agrees.own

  -- an entry
  entered : (l : LockName) (level : Level) (woken : Option ThreadId) → AnswersRequest shape t (Enter l level) Done s → Agrees t (viewed (Enter l level) Done g) (after shape (Act t (Enter l level) Done woken) s)
  entered l level woken answers = with_objects (viewed (Enter l level) Done g) (after shape (Act t (Enter l level) Done woken) s) refl
      (λ k. ap (λ hold. set (is_lock l) (plain.entered level hold) g.holds k) (agrees.holds l) ∙ same_places l k t (plain.entered level (s.monitors (l, t))) s.monitors g.holds (thread_self t) (agrees.holds k)) agrees.asleep agrees.class (shared l answers.0) agrees.own
    where
      one : (o p : ℕ) (b : Bool) → eqb o p ≡ b → IsShared p s → (b || g.shared o) ≡ true → IsShared o s
      one o p true same common is = subst (λ x. IsShared x s) (sym (eqb-true o p same)) common
      one o p false same common is = agrees.shared o is

      shared : (m : LockName) → IsClusterLock m s → (o : ℕ) → shared_by m g.shared o ≡ true → IsShared o s
      shared (Mon p) common o is = one o p (eqb o p) refl common.0 is
      shared (Name n) common o is = agrees.shared o is

  -- an entry of an own object's monitor
  entered_own : (l : LockName) (level : Level) (woken : Option ThreadId) → AnswersRequest shape t (Enter l level) Local s → Agrees t (viewed (Enter l level) Local g) (after shape (Act t (Enter l level) Local woken) s)
  entered_own l level woken answers = with_objects (viewed (Enter l level) Local g) (after shape (Act t (Enter l level) Local woken) s) refl agrees.holds agrees.asleep agrees.class agrees.shared (own l answers)
    where
      one : (o p : ℕ) (b : Bool) → eqb o p ≡ b → IsPrivate t p s → (b || g.own o) ≡ true → IsPrivate t o s
      one o p true same mine is = subst (λ x. IsPrivate t x s) (sym (eqb-true o p same)) mine
      one o p false same mine is = agrees.own o is

      own : (m : LockName) → IsPrivateMonitor t m s → (o : ℕ) → own_by m g.own o ≡ true → IsPrivate t o s
      own (Mon p) mine o is = one o p (eqb o p) refl mine is
      own (Name n) mine o is = absurd mine

  -- an exit
  exited : (l : LockName) (woken : Option ThreadId) → Agrees t (viewed (Exit l) Done g) (after shape (Act t (Exit l) Done woken) s)
  exited l woken = with_objects (viewed (Exit l) Done g) (after shape (Act t (Exit l) Done woken) s) refl
      (λ k. ap (λ hold. set (is_lock l) (plain.exited hold) g.holds k) (agrees.holds l) ∙ same_places l k t (plain.exited (s.monitors (l, t))) s.monitors g.holds (thread_self t) (agrees.holds k)) agrees.asleep agrees.class agrees.shared agrees.own

  -- a wait
  waits : (l : LockName) (woken : Option ThreadId) → Agrees t (viewed (Wait l) Done g) (after shape (Act t (Wait l) Done woken) s)
  waits l woken = with_objects (viewed (Wait l) Done g) (after shape (Act t (Wait l) Done woken) s) refl
      (λ k. same_places l k t None s.monitors g.holds (thread_self t) (agrees.holds k))
      (λ k. ap (λ hold. set (is_lock l) (Some (plain.count_of hold)) g.asleep k) (agrees.holds l) ∙ same_places l k t (Some (plain.count_of (s.monitors (l, t)))) s.asleep g.asleep (thread_self t) (agrees.asleep k)) agrees.class agrees.shared agrees.own

  -- its end
  resumes : (l : LockName) (woken : Option ThreadId) → Agrees t (viewed (Resume l) Done g) (after shape (Act t (Resume l) Done woken) s)
  resumes l woken = with_objects (viewed (Resume l) Done g) (after shape (Act t (Resume l) Done woken) s) refl
      (λ k. ap (λ wait. set (is_lock l) (plain.resumed wait) g.holds k) (agrees.asleep l) ∙ same_places l k t (plain.resumed (s.asleep (l, t))) s.monitors g.holds (thread_self t) (agrees.holds k))
      (λ k. same_places l k t None s.asleep g.asleep (thread_self t) (agrees.asleep k)) agrees.class agrees.shared agrees.own

  -- a look
  class_of : (object : Option Object) (class : ClassId) (n : ℕ) → IsOf class n object → class_in object ≡ Some class
  class_of None class n is = absurd is
  class_of (Some object) class n is = ap Some is.0

  looked : (o : ℕ) (class : ClassId) (n : ℕ) (woken : Option ThreadId) → AnswersRequest shape t (Look o) (Seen class n) s → Agrees t (viewed (Look o) (Seen class n) g) (after shape (Act t (Look o) (Seen class n) woken) s)
  looked o class n woken answers = with_objects (viewed (Look o) (Seen class n) g) (after shape (Act t (Look o) (Seen class n) woken) s) refl agrees.holds agrees.asleep (λ p c is. by p c (eqb p o) refl is) agrees.shared agrees.own
    where
      by : (p : ℕ) (c : ClassId) (b : Bool) → eqb p o ≡ b → cond b (Some class) (g.class p) ≡ Some c → class_in (s.objects p) ≡ Some c
      by p c true same is =
          let one : class ≡ c = cc is in
          ap (λ x. class_in (s.objects x)) (eqb-true p o same) ∙ class_of (s.objects o) class n answers.1 ∙ ap Some one
      by p c false same is = agrees.class p c is

  -- a value that is read; what a shared field holds is shared
  read : (o f : ℕ) (v : Value) (woken : Option ThreadId) → ((p : ℕ) → v ≡ value.Ref p → IsShared o s → IsShared p s) → Agrees t (viewed (Get o f) (Val v) g) (after shape (Act t (Get o f) (Val v) woken) s)
  read o f v woken names = by (is_shared (s.objects o))
    where
      one : (p k : ℕ) (a b : Bool) → eqb k p ≡ a → (b ≡ true → IsShared p s) → ((a && b) || g.shared k) ≡ true → IsShared k s
      one p k true true same common is = subst (λ x. IsShared x s) (sym (eqb-true k p same)) (common refl)
      one p k true false same common is = agrees.shared k is
      one p k false b same common is = agrees.shared k is

      shared : (x : Value) → x ≡ v → (k : ℕ) → shared_read o x g.shared k ≡ true → IsShared k s
      shared (value.Ref p) same k is = one p k (eqb k p) (g.shared o) refl (λ at. names p (sym same) (agrees.shared o at)) is
      shared value.Null same k is = agrees.shared k is
      shared (value.Long n) same k is = agrees.shared k is
      shared (value.Bool b) same k is = agrees.shared k is
      shared (value.Text n) same k is = agrees.shared k is

      by_hold : (hold : Option Hold) → Agrees t (viewed (Get o f) (Val v) g) (plain.apply (plain.read_shared t o f hold s) s)
      by_hold None = with_objects (viewed (Get o f) (Val v) g) (plain.apply (plain.read_shared t o f None s) s) refl agrees.holds agrees.asleep agrees.class (shared v refl) agrees.own
      by_hold (Some hold) = with_objects (viewed (Get o f) (Val v) g) (plain.apply (plain.read_shared t o f (Some hold) s) s) refl agrees.holds agrees.asleep agrees.class (shared v refl) agrees.own

      by : (b : Bool) → Agrees t (viewed (Get o f) (Val v) g) (plain.apply (plain.read shape t o f b s) s)
      by true = by_hold (hold_on_guard shape t o f s)
      by false = with_objects (viewed (Get o f) (Val v) g) (plain.apply plain.nothing s) refl agrees.holds agrees.asleep agrees.class (shared v refl) agrees.own

  -- a value that is stored: of what is the thread's own nothing is published
  module _ (o f : ℕ) (v : Value) (woken : Option ThreadId) (may : IsPossibleButMarks shape t (Put o f v) Done s) where
    own_after : (x : Value) (b : Bool) → is_shared (s.objects o) ≡ b → (p : ℕ) → own_stored o x g.own p ≡ true → IsPrivate t p (plain.apply (plain.put t o f x b s) s)
    own_after (value.Ref n) true common p is = private_or_shared t (s.objects o) (agrees.own o (and_first (g.own o) (g.own p) is)) common
    own_after (value.Ref n) false common p is = agrees.own p (and_second (g.own o) (g.own p) is)
    own_after value.Null true common p is = agrees.own p is
    own_after (value.Long n) true common p is = agrees.own p is
    own_after (value.Bool n) true common p is = agrees.own p is
    own_after (value.Text n) true common p is = agrees.own p is
    own_after value.Null false common p is = agrees.own p is
    own_after (value.Long n) false common p is = agrees.own p is
    own_after (value.Bool n) false common p is = agrees.own p is
    own_after (value.Text n) false common p is = agrees.own p is

    same_locks : (b : Bool) → ((l : LockName) → g.holds l ≡ (plain.apply (plain.put t o f v b s) s).monitors (l, t)) × ((l : LockName) → g.asleep l ≡ (plain.apply (plain.put t o f v b s) s).asleep (l, t))
    same_locks true = (agrees.holds, agrees.asleep)
    same_locks false = (agrees.holds, agrees.asleep)

    stored : Agrees t (viewed (Put o f v) Done g) (after shape (Act t (Put o f v) Done woken) s)
    stored = record {
      holds = (same_locks (is_shared (s.objects o))).0;
      asleep = (same_locks (is_shared (s.objects o))).1;
      class = λ p c seen. class_stays shape t s p c (agrees.class p c seen) (Put o f v) Done woken may.answers;
      shared = λ p is. shared_stays shape t (Put o f v) Done woken s p may (agrees.shared p is);
      own = λ p is. own_after v (is_shared (s.objects o)) refl p is;
    }

  -- a new object
  made : (class : ClassId) (n o : ℕ) (woken : Option ThreadId) → IsPossibleButMarks shape t (New class n) (Made o) s → Agrees t g (after shape (Act t (New class n) (Made o) woken) s)
  made class n o woken may = record {
    holds = agrees.holds;
    asleep = agrees.asleep;
    class = λ p c seen. class_stays shape t s p c (agrees.class p c seen) (New class n) (Made o) woken may.answers;
    shared = λ p is. shared_stays shape t (New class n) (Made o) woken s p may (agrees.shared p is);
    own = λ p is. own p (eqb p o) refl (agrees.own p is);
  }
    where
      own : (p : ℕ) (b : Bool) → eqb p o ≡ b → IsPrivate t p s → is_private_to t (or_old (cond b (Some (Some (plain.new_object t class n))) None) (s.objects p)) ≡ true
      own p true same mine = thread_self t
      own p false same mine = mine

  notified : (l : LockName) (woken : Option ThreadId) → Agrees t g (plain.apply (plain.notifies l woken) s)
  notified l None = same_view (plain.apply (plain.notifies l None) s) refl refl refl
  notified l (Some w) = same_view (plain.apply (plain.notifies l (Some w)) s) refl refl refl

  -- Each act of the thread leaves its view as right as it was.
  pub own_act : (q : Request) (r : Reply) (woken : Option ThreadId) → IsPossibleButMarks shape t q r s → ((o f p : ℕ) → q ≡ Get o f → r ≡ Val (value.Ref p) → IsShared o s → IsShared p s)
      → Agrees t (viewed q r g) (after shape (Act t q r woken) s)
  own_act (New class n) (Made o) woken may names = made class n o woken may
  own_act (Look o) (Seen class n) woken may names = looked o class n woken may.answers
  own_act (Get o f) (Val v) woken may names = read o f v woken (λ p is. names o f p refl (ap Val is))
  own_act (Put o f v) Done woken may names = stored o f v woken may
  own_act (Enter l level) Done woken may names = entered l level woken may.answers
  own_act (Enter l level) Local woken may names = entered_own l level woken may.answers
  own_act (Exit l) Done woken may names = exited l woken
  own_act (Wait l) Done woken may names = waits l woken
  own_act (Timeout l) Done woken may names = same_view (after shape (Act t (Timeout l) Done woken) s) refl refl refl
  own_act (Resume l) Done woken may names = resumes l woken
  own_act (Notify l) Done woken may names = notified l woken
  own_act (NotifyAll l) Done woken may names = same_view (after shape (Act t (NotifyAll l) Done woken) s) refl refl refl
  own_act (Print v) Done woken may names = same_view (after shape (Act t (Print v) Done woken) s) refl refl refl
  own_act (End fault) Done woken may names = same_view (after shape (Act t (End fault) Done woken) s) refl refl refl
  own_act q r woken may names = same_view (after shape (Act t q r woken) s) refl refl refl
