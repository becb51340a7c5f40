-- The record of a block: what a thread did since its previous ending, as its client hands it to the server.
use Rattle.std.specs.Prelude.{ℕ, zero, suc, Bool, false, cond, not, eqb, ltb, ◌&&◌, ◌||◌, is_some, pos, Option}
use Rattle.std.specs.Prelude.{Some, None, List, [], ◌∷◌, ◌++◌, map, filter, find, slice_set}
use Rattle.dso_base.specs.declared.lock.LockName.{LockName}
use Rattle.dso_base.specs.declared.lock.ThreadId.{ThreadId}
use Rattle.dso_base.specs.declared.record.Body.{Body}
use Rattle.dso_base.specs.declared.record.Choice.{Choice}
use Rattle.dso_base.specs.declared.record.Choice.TheVariants.{Here, There, All}
use Rattle.dso_base.specs.declared.record.Ending.{Ending}
use Rattle.dso_base.specs.declared.record.Note.{Note}
use Rattle.dso_base.specs.declared.record.Set.{Set}
use Rattle.dso_base.specs.declared.record.Txn.{Txn}
use Rattle.dso_base.specs.declared.request.Event.{Event}
use Rattle.dso_base.specs.declared.request.Event.TheVariants.{Act, Lost}
use Rattle.dso_base.specs.declared.request.Reply.{Reply}
use Rattle.dso_base.specs.declared.request.Reply.TheVariants.{Done, Made}
use Rattle.dso_base.specs.declared.request.Request.{Request}
use Rattle.dso_base.specs.declared.request.Request.TheVariants.{New, Look, Get, Put, Enter, Exit, Wait, Tick, Timeout}
use Rattle.dso_base.specs.declared.request.Request.TheVariants.{Resume, Notify, NotifyAll, Print, End, Pause, Settle}
use Rattle.dso_base.specs.declared.shape.Shape.{Shape}
use Rattle.dso_base.specs.declared.value.ClassId.{ClassId}
use Rattle.dso_base.specs.declared.value.Kind.{Kind}
use Rattle.dso_base.specs.declared.value.Kind.TheVariants as kind
use Rattle.dso_base.specs.declared.value.Value.{Value}
use Rattle.dso_base.specs.declared.value.Value.TheVariants as value
use Rattle.dso_base.specs.Reach.{reach}
use Rattle.dso_base.specs.Shape.{kind_of}

-- What a thread has in hand: its private objects; and of its open block the objects published, by rising id, the
-- last value of each field put in an object that was shared before, by rising object and field, the printed values
-- and the notifications in order.
pub record Work : Type 0 where
  pub privates : List Body
  pub news : List Body
  pub sets : List Set
  pub outs : List Value
  pub notes : List Note

-- at the start of a block: private objects alone
abbrev pub start : List Body → Work
start privates = record { privates = privates; news = []; sets = []; outs = []; notes = [] }

-- the body of this object in a list of bodies
abbrev pub body_in : ℕ → List Body → Option Body
body_in o bodies = find (λ body. eqb body.object o) bodies

-- what a field of this kind begins as: 0, false, null, null
abbrev pub opening_value : Kind → Value
opening_value kind.Long = value.Long (pos 0)
opening_value kind.Bool = value.Bool false
opening_value kind.Text = value.Null
opening_value kind.Ref = value.Null

-- the opening values of n fields of the class, the first of them being field f
abbrev pub opening_from : Shape → ClassId → ℕ → ℕ → List Value
opening_from shape class f zero = []
opening_from shape class f (suc n) = opening_value (kind_of shape class f) ∷ opening_from shape class (suc f) n

-- a new object of this class with n fields or elements, each with its opening value
abbrev pub opening_body : Shape → ClassId → ℕ → ℕ → Body
opening_body shape class n o = record { object = o; class = class; values = opening_from shape class 0 n }

-- the bodies with this value in this field of the object
abbrev pub with_value : ℕ → ℕ → Value → List Body → List Body
with_value o f v bodies = map
    (λ body. cond (eqb body.object o) (record body { values = slice_set body.values f v }) body) bodies

-- whether one of the values is a reference to the object
abbrev pub has_reference : ℕ → List Value → Bool
has_reference o [] = false
has_reference o (value.Ref named ∷ values) = eqb named o || has_reference o values
has_reference o (v ∷ values) = has_reference o values

-- whether the body, if it is there, names the object in a field
abbrev pub body_names : Option Body → ℕ → Bool
body_names None o = false
body_names (Some body) o = has_reference o body.values

-- whether the object is one of these and found from the value through fields of these: what the value publishes
-- where it is stored in a shared object
abbrev pub is_published : List Body → Value → ℕ → Bool
is_published privates v o = reach (λ a. is_some (body_in a privates)) (λ a b. body_names (body_in a privates) b)
    (map (λ body. body.object) privates) v o

-- the bodies with one more, by rising id
abbrev pub insert_body : Body → List Body → List Body
insert_body body [] = body ∷ []
insert_body body (first ∷ rest) = cond (ltb body.object first.object) (body ∷ first ∷ rest)
    (first ∷ insert_body body rest)

-- the bodies with all of these beside them, by rising id
abbrev pub insert_bodies : List Body → List Body → List Body
insert_bodies [] news = news
insert_bodies (body ∷ bodies) news = insert_body body (insert_bodies bodies news)

-- the two sets are of one field
abbrev pub is_same_field : Set → Set → Bool
is_same_field a b = eqb a.object b.object && eqb a.field b.field

-- the first set is of a lesser object, or of a lesser field of the same object
abbrev pub is_field_before : Set → Set → Bool
is_field_before a b = ltb a.object b.object || (eqb a.object b.object && ltb a.field b.field)

-- the sets with this one in its place by rising object and field, instead of an earlier one of the same field
abbrev pub insert_set : Set → List Set → List Set
insert_set set [] = set ∷ []
insert_set set (first ∷ rest) = cond (is_same_field set first) (set ∷ rest)
    (cond (is_field_before set first) (set ∷ first ∷ rest) (first ∷ insert_set set rest))

-- what the value publishes is no longer private, and stands among the objects published
abbrev pub publish : Value → Work → Work
publish v work = record work {
  privates = filter (λ body. not (is_published work.privates v body.object)) work.privates;
  news = insert_bodies (filter (λ body. is_published work.privates v body.object) work.privates) work.news;
}

-- a put into a shared object: into its new contents where it was published in the block, else a set
abbrev pub put_shared : ℕ → ℕ → Value → Work → Work
put_shared o f v work = cond (is_some (body_in o work.news))
    (record work { news = with_value o f v work.news })
    (record work { sets = insert_set (record { object = o; field = f; value = v }) work.sets })

-- a done Put: into a private object it changes that object alone; into a shared one it also publishes
abbrev pub put : ℕ → ℕ → Value → Work → Work
put o f v work = cond (is_some (body_in o work.privates))
    (record work { privates = with_value o f v work.privates })
    (publish v (put_shared o f v work))

-- whom a done Notify woke: the thread that the client chose, or whom the server will choose
abbrev pub choice_of : Option ThreadId → Choice
choice_of None = There
choice_of (Some woken) = Here woken

-- one more notification
abbrev pub noted : LockName → Choice → Work → Work
noted l choice work = record work { notes = work.notes ++ record { lock = l; choice = choice } ∷ [] }

-- What an act makes of the work in hand, by its request and reply. Refusals leave it as it is, and so do the requests
-- that read, that enter or leave a lock, that wait or go on, and the thread's end.
abbrev pub work_by : Shape → Request → Reply → Option ThreadId → Work → Work
work_by shape (New class n) (Made o) woken work = record work
    { privates = opening_body shape class n o ∷ work.privates }
work_by shape (New class n) reply woken work = work
work_by shape (Look o) reply woken work = work
work_by shape (Get o f) reply woken work = work
work_by shape (Put o f v) Done woken work = put o f v work
work_by shape (Put o f v) reply woken work = work
work_by shape (Enter l level) reply woken work = work
work_by shape (Exit l) reply woken work = work
work_by shape (Wait l) reply woken work = work
work_by shape (Tick l) reply woken work = work
work_by shape (Timeout l) reply woken work = work
work_by shape (Resume l) reply woken work = work
work_by shape (Notify l) Done woken work = noted l (choice_of woken) work
work_by shape (Notify l) reply woken work = work
work_by shape (NotifyAll l) Done woken work = noted l All work
work_by shape (NotifyAll l) reply woken work = work
work_by shape (Print v) Done woken work = record work { outs = work.outs ++ v ∷ [] }
work_by shape (Print v) reply woken work = work
work_by shape (End fault) reply woken work = work
work_by shape Pause reply woken work = work
work_by shape Settle reply woken work = work

-- what an event makes of the work in hand
abbrev pub work_after : Shape → Event → Work → Work
work_after shape (Act thread request reply woken) work = work_by shape request reply woken work
work_after shape (Lost client) work = work

-- the work in hand after these events, the first of them first
abbrev pub worked : Shape → List Event → Work → Work
worked shape [] work = work
worked shape (event ∷ events) work = worked shape events (work_after shape event work)

-- The record of a block: its number and thread; the objects published, with their contents after the block; the last
-- value of each field put in an object that is shared and not among these; the printed values; the notifications; the
-- ending. It takes the thread's private objects as they stood before the block, and the block's events.
abbrev pub txn_of : Shape → ℕ → ThreadId → List Body → List Event → Ending → Txn
txn_of shape seq thread privates events ending = let work = worked shape events (start privates) in record {
  seq = seq;
  thread = thread;
  news = work.news;
  sets = work.sets;
  outs = work.outs;
  notes = work.notes;
  ending = ending;
}
