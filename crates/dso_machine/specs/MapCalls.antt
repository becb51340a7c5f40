-- How a thread goes from call to call of maps: what a call asks, and what touches a map's fields.
use Rattle.std.specs.Prelude.{ℕ, ◌≡◌, ◌⊎◌, Bool, true, false, cond, Option, Some, None, List, [], ◌∷◌, ◌++◌}
use Rattle.dso_base.specs.declared.lock.LockName.TheVariants.{Mon}
use Rattle.dso_base.specs.declared.lock.ThreadId.{ThreadId}
use Rattle.dso_base.specs.declared.request.Event.{Event}
use Rattle.dso_base.specs.declared.request.Event.TheVariants.{Act, Lost}
use Rattle.dso_base.specs.declared.request.Reply.{Reply}
use Rattle.dso_base.specs.declared.request.Reply.TheVariants.{Done, Local, Seen}
use Rattle.dso_base.specs.declared.request.Request.{Request}
use Rattle.dso_base.specs.declared.request.Request.TheVariants.{Look, Get, Put, Enter, Exit}
use Rattle.dso_base.specs.declared.shape.Shape.{Shape}
use Rattle.dso_base.specs.declared.value.ClassId.{ClassId}
use Rattle.dso_base.specs.declared.value.ClassId.TheVariants.{Plain}
use Rattle.dso_base.specs.declared.value.Value.{Value}
use Rattle.dso_map.specs.declared.map_op.MapOp.{MapOp}
use Rattle.dso_map.specs.Calls.{request_of, accepts, after_reply}
use Rattle.dso_map.specs.MapClass.{is_map}
use Rattle.dso_map.specs.Talk.{Talk, talk}
use Rattle.dso_map.specs.Talk.Talk.{Ends}
use Rattle.dso_machine.specs.declared.code.Code.{Code}
use Rattle.dso_machine.specs.Maps.{grade_of}
use Rattle.dso_machine.specs.Next.{next_request, replies_in}
use Rattle.dso_machine.specs.Outcome.{level_of}
use Rattle.dso_machine.specs.Sound.{IsSoundCode}
use Rattle.dso_machine.specs.Unwinding.{FollowsCode}

-- ---- what a call asks

-- the entry of the map's monitor, with which a call begins
abbrev pub entry_of : ℕ → MapOp → Request
entry_of object call = Enter (Mon object) (level_of (grade_of call))

-- what is asked where this much of a call is left: at its end the monitor's exit, where it was entered
abbrev pub asked_at : ℕ → Talk → Bool → Option Request
asked_at object (Ends v) true = Some (Exit (Mon object))
asked_at object rest locked = request_of object rest

-- what is asked after these replies
abbrev pub asked_after : ℕ → Talk → Bool → List Reply → Option Request
asked_after object rest locked [] = asked_at object rest locked
asked_after object rest locked (r ∷ rs) =
    cond (accepts rest r) (asked_after object (after_reply rest r) locked rs) None

-- What a call asks after these replies: the map's monitor, its talk, the exit; None behind its end, and where it
-- failed.
abbrev pub call_asks : ℕ → MapOp → List Reply → Option Request
call_asks object call [] = Some (entry_of object call)
call_asks object call (Done ∷ rs) = asked_after object (talk call) true rs
call_asks object call (Local ∷ rs) = asked_after object (talk call) false rs
call_asks object call (r ∷ rs) = None

-- ---- which objects are maps

-- an object of this class is a map
abbrev pub IsOfMaps : Shape → ClassId → Type 0
IsOfMaps shape (Plain class) = is_map shape class ≡ true
IsOfMaps shape class = ⊥

-- the reply tells that the object is of this class
abbrev pub TellsClass : ℕ → ClassId → Request → Reply → Type 0
TellsClass o class (Look looked) (Seen seen n) = (looked ≡ o) × (seen ≡ class)
TellsClass o class q r = ⊥

-- one of the events told that the object is of this class
abbrev pub Saw : ℕ → ClassId → List Event → Type 0
Saw o class [] = ⊥
Saw o class (Act thread q r woken ∷ events) = TellsClass o class q r ⊎ Saw o class events
Saw o class (Lost client ∷ events) = Saw o class events

-- the object is no map: it is object 0, or was seen to be of another class
abbrev pub IsNoMap : Shape → List Event → ℕ → Type 0
IsNoMap shape before o = (o ≡ 0) ⊎ ((class : ClassId) × Saw o class before × (IsOfMaps shape class → ⊥))

-- the request touches no map's field
abbrev pub IsApart : Shape → List Event → Request → Type 0
IsApart shape before (Get o f) = IsNoMap shape before o
IsApart shape before (Put o f v) = IsNoMap shape before o
IsApart shape before q = Unit {0}

-- ---- where a thread is

-- a call with what it gave
pub record Called : Type 0 where
  pub object : ℕ
  pub call : MapOp
  pub gave : Value

-- outside of calls, or in one of which this much is left, and whether its monitor was entered
pub data Phase : Type 0 where
  Outside : Phase
  Inside : ℕ → MapOp → Talk → Bool → Phase

module _ (shape : Shape) (next : ThreadId → List Event → Option Request) where
  -- The thread calls the map here: whatever it is answered, it asks what the call asks, up to the call's end; and it
  -- saw the object to be a map.
  pub record IsCalling (t : ThreadId) (before : List Event) (object : ℕ) (call : MapOp) : Type 0 where
    pub asks : (events : List Event) (q : Request) → call_asks object call (replies_in events) ≡ Some q
        → next t (before ++ events) ≡ Some q
    pub class : ℕ
    pub is : is_map shape class ≡ true
    pub saw : Saw object (Plain class) before

  -- An act of a thread takes it from phase to phase, and may end a call.
  pub data PhaseStep (t : ThreadId) (before : List Event) :
      Phase → Request → Reply → Phase → Option Called → Type 0 where
    other : {q : Request} {r : Reply} → IsApart shape before q → PhaseStep t before Outside q r Outside None
    enters : {object : ℕ} {call : MapOp} → IsCalling t before object call
        → PhaseStep t before Outside (entry_of object call) Done (Inside object call (talk call) true) None
    passes : {object : ℕ} {call : MapOp} → IsCalling t before object call
        → PhaseStep t before Outside (entry_of object call) Local (Inside object call (talk call) false) None
    goes_on : {object : ℕ} {call : MapOp} {rest : Talk} {locked : Bool} {q p : Request} {r : Reply}
        → request_of object rest ≡ Some q → accepts rest r ≡ true
        → asked_at object (after_reply rest r) locked ≡ Some p
        → PhaseStep t before (Inside object call rest locked) q r (Inside object call (after_reply rest r) locked) None
    ends : {object : ℕ} {call : MapOp} {rest : Talk} {gave : Value} {q : Request} {r : Reply}
        → request_of object rest ≡ Some q → accepts rest r ≡ true → after_reply rest r ≡ Ends gave
        → PhaseStep t before (Inside object call rest false) q r Outside
        (Some (record { object = object; call = call; gave = gave }))
    leaves : {object : ℕ} {call : MapOp} {gave : Value}
        → PhaseStep t before (Inside object call (Ends gave) true) (Exit (Mon object)) Done Outside
        (Some (record { object = object; call = call; gave = gave }))
    fails : {object : ℕ} {call : MapOp} {rest : Talk} {locked : Bool} {q : Request} {r : Reply}
        → request_of object rest ≡ Some q → accepts rest r ≡ false
        → PhaseStep t before (Inside object call rest locked) q r Outside None

  -- the events of one thread, from phase to phase
  abbrev pub Walks : ThreadId → List Event → Phase → List Event → Phase → Type 0
  Walks t before phase [] last = phase ≡ last
  Walks t before phase (Act thread q r woken ∷ events) last = (other : Phase) × (ended : Option Called)
      × PhaseStep t before phase q r other ended × Walks t (before ++ Act thread q r woken ∷ []) other events last
  Walks t before phase (Lost client ∷ events) last = ⊥

-- A thread of sound code goes from call to call of maps, and touches no map's field outside of them, whatever it is
-- answered of what is listed.
abbrev pub MapsAreCalled : Type 0
MapsAreCalled = (code : Code) → IsSoundCode code → (t : ThreadId) (events : List Event) → FollowsCode code t events
    → (last : Phase) × Walks code.shape (next_request code) t [] Outside events last
