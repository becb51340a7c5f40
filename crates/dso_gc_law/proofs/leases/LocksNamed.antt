-- Which requests, events and messages are of a lock, and that what is of a monitor names its object.
use Rattle.std.specs.List.{list_any}
use Rattle.std.specs.Option.{option_map_or}
use Rattle.std.proofs.Common.{ℕ, ◌≡◌, refl, subst, ◌∙◌, Bool, true, false, ◌||◌, Option, Some, None, List, []}
use Rattle.std.proofs.Common.{◌∷◌, Contains}
use Rattle.std.proofs.lemmas.List.Elements.{Contains-push, Contains-append_left, Contains-append_right}
use Rattle.dso_base.specs.declared.journal.Input.{Input}
use Rattle.dso_base.specs.declared.journal.Input.TheVariants.{TookDown}
use Rattle.dso_base.specs.declared.lock.LockName.{LockName}
use Rattle.dso_base.specs.declared.lock.LockName.TheVariants.{Mon, Name}
use Rattle.dso_base.specs.declared.lock.ThreadId.{ThreadId}
use Rattle.dso_base.specs.declared.message.Down.TheVariants as down
use Rattle.dso_base.specs.declared.request.Event.{Event}
use Rattle.dso_base.specs.declared.request.Event.TheVariants.{Act, Lost}
use Rattle.dso_base.specs.declared.request.Request.{Request}
use Rattle.dso_base.specs.declared.request.Request.TheVariants.{Enter, Exit, Wait, Tick, Timeout}
use Rattle.dso_base.specs.declared.request.Request.TheVariants.{Resume, Notify, NotifyAll}
use Rattle.dso_base.specs.Following.{is_thread}
use Rattle.dso_base.specs.Naming.{lock_names, request_names, reply_names, event_names, down_names}
use Rattle.dso_plain.specs.KeyTests.{is_lock}
use Rattle.dso_plain.proofs.keys.SameKeys.{same_thread, thread_self}
use Rattle.dso_legal.proofs.leases.KeptLeases.{found}
use Rattle.dso_lookup.proofs.Tests.{left_holds, right_holds}

-- whether the request is of the lock
abbrev pub request_is_of : LockName → Request → Bool
request_is_of l (Enter k level) = is_lock l k
request_is_of l (Exit k) = is_lock l k
request_is_of l (Wait k) = is_lock l k
request_is_of l (Tick k) = is_lock l k
request_is_of l (Timeout k) = is_lock l k
request_is_of l (Resume k) = is_lock l k
request_is_of l (Notify k) = is_lock l k
request_is_of l (NotifyAll k) = is_lock l k
request_is_of l request = false

-- whether a thread that has this next request asks for the lock
abbrev pub asks_of : LockName → Option Request → Bool
asks_of l None = false
asks_of l (Some request) = request_is_of l request

-- whether it asks to enter the lock, or to go on at it
abbrev pub seeks : LockName → Option Request → Bool
seeks l (Some (Enter k level)) = is_lock l k
seeks l (Some (Resume k)) = is_lock l k
seeks l request = false

-- who does so asks for the lock
pub seeks_asks : (l : LockName) (request : Option Request) → seeks l request ≡ true → asks_of l request ≡ true
seeks_asks l None is = absurd (cc is)
seeks_asks l (Some (Enter k level)) is = is
seeks_asks l (Some (Resume k)) is = is
seeks_asks l (Some request) is = absurd (cc is)

-- whether the event is an act of the lock
abbrev pub event_is_of : LockName → Option Event → Bool
event_is_of l None = false
event_is_of l (Some (Act thread request reply woken)) = request_is_of l request
event_is_of l (Some (Lost client)) = false

-- whether the input is a grant or a recall of the lock
abbrev pub takes_of : LockName → Input → Bool
takes_of l (TookDown (down.Grant k level)) = is_lock l k
takes_of l (TookDown (down.Recall k)) = is_lock l k
takes_of l input = false

-- ---- of a monitor

-- a lock names the object whose monitor it is
pub lock_names_is : (k : LockName) (o : ℕ) → lock_names k o ≡ is_lock (Mon o) k
lock_names_is (Mon key) o = refl
lock_names_is (Name n) o = refl

-- so a lock that is the monitor does
named_by : (k : LockName) (o : ℕ) → is_lock (Mon o) k ≡ true → lock_names k o ≡ true
named_by k o is = lock_names_is k o ∙ is

-- a request of the monitor names the object
pub request_of_monitor : (o : ℕ) (request : Request) → request_is_of (Mon o) request ≡ true
    → request_names request o ≡ true
request_of_monitor o (Enter k level) is = named_by k o is
request_of_monitor o (Exit k) is = named_by k o is
request_of_monitor o (Wait k) is = named_by k o is
request_of_monitor o (Tick k) is = named_by k o is
request_of_monitor o (Timeout k) is = named_by k o is
request_of_monitor o (Resume k) is = named_by k o is
request_of_monitor o (Notify k) is = named_by k o is
request_of_monitor o (NotifyAll k) is = named_by k o is
request_of_monitor o request is = absurd (cc is)

-- and so does a thread that asks for it
pub asker_of_monitor : (o : ℕ) (request : Option Request) → asks_of (Mon o) request ≡ true
    → option_map_or (λ r. request_names r o) request false ≡ true
asker_of_monitor o None is = absurd (cc is)
asker_of_monitor o (Some request) is = request_of_monitor o request is

-- and an act of it
pub event_of_monitor : (o : ℕ) (event : Option Event) → event_is_of (Mon o) event ≡ true
    → option_map_or (λ event. event_names event o) event false ≡ true
event_of_monitor o None is = absurd (cc is)
event_of_monitor o (Some (Act thread request reply woken)) is =
    left_holds (request_names request o) (reply_names reply o) (request_of_monitor o request is)
event_of_monitor o (Some (Lost client)) is = absurd (cc is)

-- whether the input is a message taken that names the object
abbrev pub input_names : Input → ℕ → Bool
input_names (TookDown m) o = down_names m o
input_names input o = false

-- and a grant or a recall of it
pub input_of_monitor : (o : ℕ) (i : Input) → takes_of (Mon o) i ≡ true → input_names i o ≡ true
input_of_monitor o (TookDown (down.Grant k level)) is = named_by k o is
input_of_monitor o (TookDown (down.Recall k)) is = named_by k o is
input_of_monitor o (TookDown m) is = absurd (cc is)
input_of_monitor o input is = absurd (cc is)

-- ---- threads of a list

-- a thread that a test finds is in the list
pub is_contained : (t : ThreadId) (threads : List ThreadId) → list_any (is_thread t) threads ≡ true
    → Contains threads t
is_contained t [] is = absurd (cc is)
is_contained t (u ∷ threads) is = by (is_thread t u) refl is (is_contained t threads)
  where
    by : (b : Bool) → is_thread t u ≡ b → (b || list_any (is_thread t) threads) ≡ true
        → (list_any (is_thread t) threads ≡ true → Contains threads t) → Contains (u ∷ threads) t
    by true same is later = subst (Contains (u ∷ threads)) (same_thread t u same)
        (Contains-append_left (u ∷ []) threads u (Contains-push [] u))
    by false other is later = Contains-append_right (u ∷ []) threads t (later is)

-- one of a list that passes a test
pub record OneOf (threads : List ThreadId) (test : ThreadId → Bool) : Type 0 where
  pub thread : ThreadId
  pub listed : list_any (is_thread thread) threads ≡ true
  pub passes : test thread ≡ true

-- it is in the list
pub one_contained : (threads : List ThreadId) (test : ThreadId → Bool) (one : OneOf threads test)
    → Contains threads one.thread
one_contained threads test one = is_contained one.thread threads one.listed

-- where one passes a test, there is such a thread
pub one_of : (threads : List ThreadId) (test : ThreadId → Bool) → list_any test threads ≡ true → OneOf threads test
one_of [] test is = absurd (cc is)
one_of (u ∷ threads) test is = by (test u) refl is (one_of threads test)
  where
    by : (b : Bool) → test u ≡ b → (b || list_any test threads) ≡ true
        → (list_any test threads ≡ true → OneOf threads test) → OneOf (u ∷ threads) test
    by true passes is later = record {
      thread = u;
      listed = left_holds (is_thread u u) (list_any (is_thread u) threads) (thread_self u);
      passes = passes;
    }
    by false fails is later = let rest : OneOf threads test = later is in record {
      thread = rest.thread;
      listed = right_holds (is_thread rest.thread u) (list_any (is_thread rest.thread) threads) rest.listed;
      passes = rest.passes;
    }

-- and where there is such a thread, one passes it
pub some_passes : (threads : List ThreadId) (test : ThreadId → Bool) → OneOf threads test
    → list_any test threads ≡ true
some_passes threads test one = found one.thread test threads one.passes one.listed
