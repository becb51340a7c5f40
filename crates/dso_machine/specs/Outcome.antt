-- What a part of a program means: from where a thread stands to what comes of it.
--
-- A part asks its requests of a list of replies. Where the list is at its end, what the part comes to is the request
-- itself.
use Rattle.std.specs.Prelude.{ℕ, ◌+◌, Bool, true, false, nat_lt, List, [], ◌∷◌, ◌++◌, Result, Ok, Err}
use Rattle.dso_base.specs.declared.lock.Grade.{Grade}
use Rattle.dso_base.specs.declared.lock.Grade.TheVariants as grade
use Rattle.dso_base.specs.declared.lock.Level.{Level}
use Rattle.dso_base.specs.declared.lock.Level.TheVariants.{Read, Write}
use Rattle.dso_base.specs.declared.lock.LockName.{LockName}
use Rattle.dso_base.specs.declared.lock.LockName.TheVariants.{Mon, Name}
use Rattle.dso_base.specs.declared.request.Fault.{Fault}
use Rattle.dso_base.specs.declared.request.Fault.TheVariants.{NullPointer, BadValue}
use Rattle.dso_base.specs.declared.request.Reply.{Reply}
use Rattle.dso_base.specs.declared.request.Reply.TheVariants.{Done, Made, Seen, Val, Local, Refused}
use Rattle.dso_base.specs.declared.request.Request.{Request}
use Rattle.dso_base.specs.declared.request.Request.TheVariants as request
use Rattle.dso_base.specs.declared.value.ClassId.{ClassId}
use Rattle.dso_base.specs.declared.value.Value.{Value}
use Rattle.dso_base.specs.declared.value.Value.TheVariants as value
use Rattle.dso_machine.specs.Limits.{most_moves}

-- the environment of a body: the object that the method is called on, its variables, how many more calls may nest in
-- it; and what is held meanwhile for what comes after the part that runs: values that were evaluated and aren't used
-- yet, objects whose blocks are still to be left, and the environments of the callers
pub record Environment : Type 0 where
  pub this : Value
  pub vars : List Value
  pub depth_left : ℕ
  pub outer : List Value

-- where a thread stands: the environment of the body that it runs, its moves since the last request, and the replies
-- that are left
pub record State : Type 0 where
  pub environment : Environment
  pub moves : ℕ
  pub replies : List Reply

-- What a part comes to: it wants a reply where it stands in this environment, gives a value, leaves its body with one,
-- or fails. Between a request and what is made of its reply, it hears the reply. The thread is over, or was stopped
-- since it made more moves than were counted.
pub data Outcome : Type 0 where
  Wants : Request → Environment → Outcome
  Gives : Value → State → Outcome
  Leaves : Value → State → Outcome
  Fails : Fault → State → Outcome
  Hears : Reply → State → Outcome
  Over : Outcome
  Stopped : Outcome

-- what a part means
abbrev pub Meaning : Type 0
Meaning = State → Outcome

-- one or the other
abbrev pub choose : Bool → Meaning → Meaning → Meaning
choose true a b at = a at
choose false a b at = b at

-- goes on from a value
abbrev pub on_value : (Value → Meaning) → Outcome → Outcome
on_value f (Gives v at) = f v at
on_value f o = o

-- goes on from a reply
abbrev pub on_reply : (Reply → Meaning) → Outcome → Outcome
on_reply f (Hears r at) = f r at
on_reply f o = o

-- ---- what is held

-- where a thread stands, with this held for what comes after
abbrev pub with_outer : List Value → State → State
with_outer outer at = record at { environment = record at.environment { outer = outer } }

-- what is held after a part, however it ends
abbrev pub restored : List Value → Outcome → Outcome
restored outer (Gives v at) = Gives v (with_outer outer at)
restored outer (Leaves v at) = Leaves v (with_outer outer at)
restored outer (Fails fault at) = Fails fault (with_outer outer at)
restored outer o = o

-- after a part in which these values were held, what was held before it is held again
abbrev pub letting_go : List Value → List Value → Outcome → Outcome
letting_go [] outer o = o
letting_go (v ∷ vs) outer o = restored outer o

-- a part, while these values are held for what comes after it
abbrev pub holding : List Value → Meaning → Meaning
holding vs m at = letting_go vs at.environment.outer (m (with_outer (vs ++ at.environment.outer) at))

-- the object whose monitor a lock is, if it is one
abbrev pub monitor_of : LockName → List Value
monitor_of (Mon object) = value.Ref object ∷ []
monitor_of (Name n) = []

-- goes on from a value to the part beside it, and then from both values; others are held besides
abbrev pub on_next_beside : List Value → (Value → Value → Meaning) → Meaning → Value → Meaning
on_next_beside vs f m x at = on_value (f x) (holding (vs ++ x ∷ []) m at)

-- goes on from a value to the part beside it, and then from both values
abbrev pub on_next : (Value → Value → Meaning) → Meaning → Value → Meaning
on_next = on_next_beside []

-- a value, or the fault in its place
abbrev pub result_of : Result Value Fault → Meaning
result_of (Ok v) at = Gives v at
result_of (Err fault) at = Fails fault at

-- ---- requests

-- a request with the replies that are left, while these values are held for what is done with its reply
abbrev pub asked : List Value → Request → State → List Reply → Outcome
asked vs q at [] = Wants q (record at.environment { outer = vs ++ at.environment.outer })
asked vs q at (r ∷ rs) = Hears r (record at { moves = 0; replies = rs })

-- a request, while these values are held for what is done with its reply
abbrev pub asking : List Value → Request → Meaning
asking vs q at = asked vs q at at.replies

-- a request
abbrev pub ask : Request → Meaning
ask = asking []

-- What a reply comes to where another one is wanted: a refusal is its fault, all else is no value that is wanted.
abbrev pub unwanted : Reply → Meaning
unwanted (Refused fault) at = Fails fault at
unwanted r at = Fails BadValue at

-- the reply Done
abbrev pub done : Reply → Meaning
done Done at = Gives value.Null at
done r at = unwanted r at

-- the object that was made
abbrev pub made : Reply → Meaning
made (Made object) at = Gives (value.Ref object) at
made r at = unwanted r at

-- the value that was read
abbrev pub got : Reply → Meaning
got (Val v) at = Gives v at
got r at = unwanted r at

-- the class and the size that were seen
abbrev pub seen : (ClassId → ℕ → Meaning) → Reply → Meaning
seen f (Seen class size) at = f class size at
seen f r at = unwanted r at

-- a request that is answered Done, while these values are held
abbrev pub telling : List Value → Request → Meaning
telling vs q at = on_reply done (asking vs q at)

-- a request that is answered Done
abbrev pub tell : Request → Meaning
tell = telling []

-- a field or an element is read, while these values are held
abbrev pub getting : List Value → ℕ → ℕ → Meaning
getting vs object place at = on_reply got (asking vs (request.Get object place) at)

-- a field or an element is read
abbrev pub get : ℕ → ℕ → Meaning
get = getting []

-- a field or an element is written
abbrev pub put : ℕ → ℕ → Value → Meaning
put object place v = tell (request.Put object place v)

-- an object is looked at, while these values are held
abbrev pub looking : List Value → (ClassId → ℕ → Meaning) → ℕ → Meaning
looking vs f object at = on_reply (seen f) (asking vs (request.Look object) at)

-- an object is looked at
abbrev pub look : (ClassId → ℕ → Meaning) → ℕ → Meaning
look = looking []

-- the value is to be an object
abbrev pub on_object : (ℕ → Meaning) → Value → Meaning
on_object f value.Null at = Fails NullPointer at
on_object f (value.Ref object) at = f object at
on_object f v at = Fails BadValue at

-- ---- moves

-- a move is made
abbrev pub moved : Meaning → Meaning
moved m at = m (record at { moves = at.moves + 1 })

-- a move, after a pause where one is due
abbrev pub paced : Bool → Meaning → Meaning
paced true m at = moved m at
paced false m at = on_value (λ v. moved m) (tell request.Pause at)

-- a move, before which the thread pauses where it made the most moves since its last request
abbrev pub moving : Meaning → Meaning
moving m at = paced (nat_lt at.moves most_moves) m at

-- ---- locks

-- at which level a lock is entered
abbrev pub level_of : Grade → Level
level_of grade.Read = Read
level_of grade.Write = Write
level_of grade.Synchronous = Write

-- a lock was left that was entered at this grade: after an entry at synchronous write the thread settles, and then it
-- is as before, with these values
abbrev pub settling : List Value → Grade → Meaning → Meaning
settling vs grade.Read m at = m at
settling vs grade.Write m at = m at
settling vs grade.Synchronous m at = on_value (λ v. m) (telling vs request.Settle at)

-- the lock is left that was entered at this grade, and then it is as before, with these values
abbrev pub leaving : List Value → LockName → Grade → Meaning → Meaning
leaving vs l grade m at = on_value (λ v. settling vs grade m) (telling vs (request.Exit l) at)

-- the lock is left at the end of a part, whichever end that is
abbrev pub leave : LockName → Grade → Outcome → Outcome
leave l grade (Gives v at) = leaving (v ∷ []) l grade (Gives v) at
leave l grade (Leaves v at) = leaving (v ∷ []) l grade (Leaves v) at
leave l grade (Fails fault at) = leaving [] l grade (Fails fault) at
leave l grade o = o

-- A part under a lock that was asked for at this grade: meanwhile the object whose monitor it is is held. One that is
-- Local is not left.
abbrev pub entered : LockName → Grade → Meaning → Reply → Meaning
entered l grade m Done at = leave l grade (holding (monitor_of l) m at)
entered l grade m Local at = holding (monitor_of l) m at
entered l grade m r at = unwanted r at

-- a part under a lock, which is entered at this grade while these values are held
abbrev pub under_with : List Value → LockName → Grade → Meaning → Meaning
under_with vs l grade m at = on_reply (entered l grade m) (asking vs (request.Enter l (level_of grade)) at)

-- a part under a lock, which is entered at this grade
abbrev pub under : LockName → Grade → Meaning → Meaning
under = under_with []
