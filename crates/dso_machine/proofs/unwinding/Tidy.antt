-- Parts of a program that leave their locks in order, wait as they may, and at a refusal are at its fault.
use Rattle.std.proofs.Common.{◌≡◌, refl, Bool, true, false, not, List, [], ◌∷◌, ◌++◌, subst, sym, ap, ◌∙◌}
use Rattle.dso_base.specs.declared.lock.Grade.{Grade}
use Rattle.dso_base.specs.declared.lock.Grade.TheVariants as grade
use Rattle.dso_base.specs.declared.lock.LockName.{LockName}
use Rattle.dso_base.specs.declared.request.Fault.{Fault}
use Rattle.dso_base.specs.declared.request.Reply.{Reply}
use Rattle.dso_base.specs.declared.request.Reply.TheVariants.{Done, Val, Refused}
use Rattle.dso_base.specs.declared.request.Request.{Request}
use Rattle.dso_base.specs.declared.request.Request.TheVariants.{Enter, Exit, Wait, Tick, Timeout, Resume, End, Settle}
use Rattle.dso_base.specs.declared.value.Value.{Value}
use Rattle.dso_base.specs.declared.value.Value.TheVariants as value
use Rattle.dso_machine.specs.Calls.{back_in}
use Rattle.dso_machine.specs.Outcome.{Environment, State, Outcome, Wants, Gives, Leaves, Fails, Hears, Over, Stopped, Meaning, on_value, level_of, settling, leave, under_with, restored, holding, with_outer}
use Rattle.dso_machine.specs.Unwinding.{with_replies, Hold, is_synchronous, hold_at, Layer, UsesValue, HoldsAgain, ReturnsTo, LeavesLock, in_layer, in_context, holds_around, locks_of}
use Rattle.dso_machine.proofs.protocol.Parts.{refilled, one_function}

-- the requests that leave a part's locks as they are, whatever the reply, and that nothing has to follow or to come before
abbrev pub is_simple : Request → Bool
is_simple (Enter l level) = false
is_simple (Exit l) = false
is_simple (Wait l) = false
is_simple (Tick l) = false
is_simple (Timeout l) = false
is_simple (Resume l) = false
is_simple (End fault) = false
is_simple Settle = false
is_simple q = true

-- whatever replies are still to come, a part comes to what comes of one that fails, in a context that ends these holds
pub record Failing (fault : Fault) (holds : List Hold) (o : List Reply → Outcome) : Type 0 where
  pub context : List Layer
  pub held : locks_of (holds_around context) ≡ locks_of holds
  pub at : State
  pub comes : (rs : List Reply) → o rs ≡ in_context context (Fails fault (with_replies rs at))

-- whatever replies are still to come, a part comes to what comes of one under this lock, which is entered while some values are held, in a context
pub record Entering (l : LockName) (grade : Grade) (o : List Reply → Outcome) : Type 0 where
  pub context : List Layer
  pub values : List Value
  pub part : Meaning
  pub at : State
  pub comes : (rs : List Reply) → o rs ≡ in_context context (under_with values l grade part (with_replies rs at))

-- an end of a part
abbrev pub IsEnd : Outcome → Type 0
IsEnd (Gives v u) = Unit {0}
IsEnd (Leaves v u) = Unit {0}
IsEnd (Fails fault u) = Unit {0}
IsEnd o = ⊥

-- where a part is in its run: it goes on, it left a lock after which it settles, or it waits on a lock and may have ticks
-- and its timeout still
pub data Phase : Type 0 where
  Goes : Phase
  Settles : Phase
  Waits : LockName → Bool → Phase

-- after an exit
abbrev pub left_at : Bool → Phase
left_at false = Goes
left_at true = Settles

-- after a tick
abbrev pub ticked : LockName → Bool → Phase
ticked l woken = Waits l (not woken)

-- What comes of the replies where a part has these holds: it leaves the innermost one first, settles after it where that was entered
-- so, and has none at its end; at a refusal it is at the fault; and it asks for a lock again after it waited.
pub data Tidy : Phase → List Hold → (List Reply → Outcome) → Type 0 where
  asks : {hs : List Hold} {o : List Reply → Outcome} (q : Request) {env : Environment} → o [] ≡ Wants q env → is_simple q ≡ true → ((fault : Fault) → Failing fault hs (λ rs. o (Refused fault ∷ rs)))
      → ((r : Reply) → Tidy Goes hs (λ rs. o (r ∷ rs))) → Tidy Goes hs o
  enters : {hs : List Hold} {o : List Reply → Outcome} (l : LockName) (grade : Grade) {env : Environment} → o [] ≡ Wants (Enter l (level_of grade)) env → Entering l grade o
      → ((fault : Fault) → Failing fault hs (λ rs. o (Refused fault ∷ rs)))
      → Tidy Goes (hold_at l grade ∷ hs) (λ rs. o (Done ∷ rs)) → ((r : Reply) → (r ≡ Done → ⊥) → Tidy Goes hs (λ rs. o (r ∷ rs))) → Tidy Goes hs o
  exits : {hs : List Hold} {o : List Reply → Outcome} (h : Hold) {env : Environment} → o [] ≡ Wants (Exit h.lock) env → Tidy (left_at h.synchronous) hs (λ rs. o (Done ∷ rs)) → Tidy Goes (h ∷ hs) o
  settles : {hs : List Hold} {o : List Reply → Outcome} {env : Environment} → o [] ≡ Wants Settle env → Tidy Goes hs (λ rs. o (Done ∷ rs)) → Tidy Settles hs o
  waits : {hs : List Hold} {o : List Reply → Outcome} (l : LockName) {env : Environment} → o [] ≡ Wants (Wait l) env → ((fault : Fault) → Failing fault hs (λ rs. o (Refused fault ∷ rs)))
      → Tidy (Waits l true) hs (λ rs. o (Done ∷ rs)) → ((r : Reply) → (r ≡ Done → ⊥) → Tidy Goes hs (λ rs. o (r ∷ rs))) → Tidy Goes hs o
  ticks : {hs : List Hold} {o : List Reply → Outcome} (l : LockName) {env : Environment} → o [] ≡ Wants (Tick l) env → ((woken : Bool) → Tidy (ticked l woken) hs (λ rs. o (Val (value.Bool woken) ∷ rs)))
      → Tidy (Waits l true) hs o
  times_out : {hs : List Hold} {o : List Reply → Outcome} (l : LockName) {env : Environment} → o [] ≡ Wants (Timeout l) env → Tidy (Waits l false) hs (λ rs. o (Done ∷ rs))
      → Tidy (Waits l false) hs (λ rs. o (Val (value.Bool true) ∷ rs)) → Tidy (Waits l true) hs o
  resumes : {hs : List Hold} {o : List Reply → Outcome} (l : LockName) (more : Bool) {env : Environment} → o [] ≡ Wants (Resume l) env → Tidy Goes hs (λ rs. o (Done ∷ rs)) → Tidy (Waits l more) hs o
  ends : {o : List Reply → Outcome} (e : Outcome) → ((rs : List Reply) → o rs ≡ refilled rs e) → IsEnd e → Tidy Goes [] o
  stops : {hs : List Hold} {o : List Reply → Outcome} → ((rs : List Reply) → o rs ≡ Stopped) → Tidy Goes hs o

-- a part that is tidy from each state, where it has no lock yet
pub record IsTidy (m : Meaning) : Type 0 where
  pub from : (u : State) → Tidy Goes [] (λ rs. m (with_replies rs u))

-- ---- a layer around a part

-- what is wanted in a layer is wanted
pub wants_in : (layer : Layer) (q : Request) {env : Environment} → in_layer layer (Wants q env) ≡ Wants q env
wants_in (UsesValue f) q = refl
wants_in (HoldsAgain outer) q = refl
wants_in (ReturnsTo caller) q = refl
wants_in (LeavesLock l grade) q = refl

-- in a context a request is still what is wanted
pub wants_within : (context : List Layer) (q : Request) {env : Environment} → in_context context (Wants q env) ≡ Wants q env
wants_within [] q = refl
wants_within (layer ∷ context) q = ap (in_context context) (wants_in layer q) ∙ wants_within context q

-- where more moves were made than are counted, a layer changes nothing
stops_in : (layer : Layer) → in_layer layer Stopped ≡ Stopped
stops_in (UsesValue f) = refl
stops_in (HoldsAgain outer) = refl
stops_in (ReturnsTo caller) = refl
stops_in (LeavesLock l grade) = refl

-- the holds with that of a layer around them, if it ends one
abbrev pub holds_in : List Hold → Layer → List Hold
holds_in hs (UsesValue f) = hs
holds_in hs (HoldsAgain outer) = hs
holds_in hs (ReturnsTo caller) = hs
holds_in hs (LeavesLock l grade) = hs ++ hold_at l grade ∷ []

-- one more layer around a context
context_more : (context : List Layer) (layer : Layer) (o : Outcome) → in_context (context ++ layer ∷ []) o ≡ in_layer layer (in_context context o)
context_more [] layer o = refl
context_more (x ∷ context) layer o = context_more context layer (in_layer x o)

-- and its hold
holds_more : (context : List Layer) (layer : Layer) → holds_around (context ++ layer ∷ []) ≡ holds_in (holds_around context) layer
holds_more [] (UsesValue f) = refl
holds_more [] (HoldsAgain outer) = refl
holds_more [] (ReturnsTo caller) = refl
holds_more [] (LeavesLock l grade) = refl
holds_more (UsesValue g ∷ context) layer = holds_more context layer
holds_more (HoldsAgain held ∷ context) layer = holds_more context layer
holds_more (ReturnsTo back ∷ context) layer = holds_more context layer
holds_more (LeavesLock k at ∷ context) (UsesValue f) = ap (λ hs. hold_at k at ∷ hs) (holds_more context (UsesValue f))
holds_more (LeavesLock k at ∷ context) (HoldsAgain outer) = ap (λ hs. hold_at k at ∷ hs) (holds_more context (HoldsAgain outer))
holds_more (LeavesLock k at ∷ context) (ReturnsTo caller) = ap (λ hs. hold_at k at ∷ hs) (holds_more context (ReturnsTo caller))
holds_more (LeavesLock k at ∷ context) (LeavesLock l grade) = ap (λ hs. hold_at k at ∷ hs) (holds_more context (LeavesLock l grade))

-- the locks with that of a layer around them
abbrev locks_in : List LockName → Layer → List LockName
locks_in ls (UsesValue f) = ls
locks_in ls (HoldsAgain outer) = ls
locks_in ls (ReturnsTo caller) = ls
locks_in ls (LeavesLock l grade) = ls ++ l ∷ []

-- they are those of the holds
locks_of_in : (hs : List Hold) (layer : Layer) → locks_of (holds_in hs layer) ≡ locks_in (locks_of hs) layer
locks_of_in hs (UsesValue f) = refl
locks_of_in hs (HoldsAgain outer) = refl
locks_of_in hs (ReturnsTo caller) = refl
locks_of_in [] (LeavesLock l grade) = refl
locks_of_in (h ∷ hs) (LeavesLock l grade) = ap (λ ls. h.lock ∷ ls) (locks_of_in hs (LeavesLock l grade))

-- a part that is at a fault is so in a layer
failing_in : (layer : Layer) {fault : Fault} {hs : List Hold} {o : List Reply → Outcome} → Failing fault hs o → Failing fault (holds_in hs layer) (λ rs. in_layer layer (o rs))
failing_in layer {fault} {hs} f = record {
  context = f.context ++ layer ∷ [];
  held = ap locks_of (holds_more f.context layer) ∙ locks_of_in (holds_around f.context) layer ∙ ap (λ ls. locks_in ls layer) f.held ∙ sym (locks_of_in hs layer);
  at = f.at;
  comes = λ rs. ap (in_layer layer) (f.comes rs) ∙ sym (context_more f.context layer (Fails fault (with_replies rs f.at)));
}

-- so is one that is at an entry
entering_in : (layer : Layer) {l : LockName} {grade : Grade} {o : List Reply → Outcome} → Entering l grade o → Entering l grade (λ rs. in_layer layer (o rs))
entering_in layer {l} {grade} e = record {
  context = e.context ++ layer ∷ [];
  values = e.values;
  part = e.part;
  at = e.at;
  comes = λ rs. ap (in_layer layer) (e.comes rs) ∙ sym (context_more e.context layer (under_with e.values l grade e.part (with_replies rs e.at)));
}

-- one more hold inside
more_inside : (layer : Layer) (h : Hold) (hs : List Hold) → holds_in (h ∷ hs) layer ≡ h ∷ holds_in hs layer
more_inside (UsesValue f) h hs = refl
more_inside (HoldsAgain outer) h hs = refl
more_inside (ReturnsTo caller) h hs = refl
more_inside (LeavesLock k grade) h hs = refl

-- the same with holds that are equal
same_holds : {p : Phase} {hs ks : List Hold} {o : List Reply → Outcome} → hs ≡ ks → Tidy p hs o → Tidy p ks o
same_holds {p} {hs} {ks} {o} same tidy = subst (λ x. Tidy p x o) same tidy

-- A tidy part in a layer is tidy, if the layer's own hold is left behind each of its ends.
pub tidy_in : (layer : Layer) {p : Phase} {hs : List Hold} {o : List Reply → Outcome} → Tidy p hs o → ((e : Outcome) → IsEnd e → Tidy Goes (holds_in [] layer) (λ rs. in_layer layer (refilled rs e)))
    → Tidy p (holds_in hs layer) (λ rs. in_layer layer (o rs))
tidy_in layer (Tidy.asks q is simple fails go) then = Tidy.asks q (ap (in_layer layer) is ∙ wants_in layer q) simple (λ fault. failing_in layer (fails fault)) (λ r. tidy_in layer (go r) then)
tidy_in layer (Tidy.enters l grade is entry fails inside other) then = Tidy.enters l grade (ap (in_layer layer) is ∙ wants_in layer (Enter l (level_of grade))) (entering_in layer entry)
    (λ fault. failing_in layer (fails fault)) (same_holds (more_inside layer (hold_at l grade) _) (tidy_in layer inside then)) (λ r unlike. tidy_in layer (other r unlike) then)
tidy_in layer (Tidy.exits h is go) then = same_holds (sym (more_inside layer h _)) (Tidy.exits h (ap (in_layer layer) is ∙ wants_in layer (Exit h.lock)) (tidy_in layer go then))
tidy_in layer (Tidy.settles is go) then = Tidy.settles (ap (in_layer layer) is ∙ wants_in layer Settle) (tidy_in layer go then)
tidy_in layer (Tidy.waits l is fails asleep other) then = Tidy.waits l (ap (in_layer layer) is ∙ wants_in layer (Wait l)) (λ fault. failing_in layer (fails fault)) (tidy_in layer asleep then)
    (λ r unlike. tidy_in layer (other r unlike) then)
tidy_in layer (Tidy.ticks l is go) then = Tidy.ticks l (ap (in_layer layer) is ∙ wants_in layer (Tick l)) (λ woken. tidy_in layer (go woken) then)
tidy_in layer (Tidy.times_out l is over woken) then = Tidy.times_out l (ap (in_layer layer) is ∙ wants_in layer (Timeout l)) (tidy_in layer over then) (tidy_in layer woken then)
tidy_in layer (Tidy.resumes l more is go) then = Tidy.resumes l more (ap (in_layer layer) is ∙ wants_in layer (Resume l)) (tidy_in layer go then)
tidy_in layer (Tidy.ends e is end) then = subst (Tidy Goes (holds_in [] layer)) (one_function _ _ (λ rs. ap (in_layer layer) (sym (is rs)))) (then e end)
tidy_in layer (Tidy.stops is) then = Tidy.stops (λ rs. ap (in_layer layer) (is rs) ∙ stops_in layer)

-- ---- values

-- a value is given
pub tidy_gives : (v : Value) → IsTidy (Gives v)
tidy_gives v = record { from = λ u. Tidy.ends (Gives v u) (λ rs. refl) tt }

-- a body is left
pub tidy_leaves : (v : Value) → IsTidy (Leaves v)
tidy_leaves v = record { from = λ u. Tidy.ends (Leaves v u) (λ rs. refl) tt }

-- a part fails
pub tidy_fails : (fault : Fault) → IsTidy (Fails fault)
tidy_fails fault = record { from = λ u. Tidy.ends (Fails fault u) (λ rs. refl) tt }

-- no more moves are counted
pub tidy_stopped : IsTidy (λ at. Stopped)
tidy_stopped = record { from = λ u. Tidy.stops (λ rs. refl) }

-- what is made of the value at an end
value_used : (f : Value → Meaning) → ((v : Value) → IsTidy (f v)) → (e : Outcome) → IsEnd e → Tidy Goes [] (λ rs. on_value f (refilled rs e))
value_used f tidy (Gives v u) end = (tidy v).from u
value_used f tidy (Leaves v u) end = Tidy.ends (Leaves v u) (λ rs. refl) tt
value_used f tidy (Fails fault u) end = Tidy.ends (Fails fault u) (λ rs. refl) tt
value_used f tidy (Wants q env) end = absurd end
value_used f tidy (Hears r u) end = absurd end
value_used f tidy Over end = absurd end
value_used f tidy Stopped end = absurd end

-- a part, and then what is made of its value
pub tidy_after : (f : Value → Meaning) (m : Meaning) → IsTidy m → ((v : Value) → IsTidy (f v)) → IsTidy (λ at. on_value f (m at))
tidy_after f m tidy then = record { from = λ u. tidy_in (UsesValue f) (tidy.from u) (value_used f then) }

-- what was held before, at an end
held_again : (outer : List Value) (e : Outcome) → IsEnd e → Tidy Goes [] (λ rs. restored outer (refilled rs e))
held_again outer (Gives v u) end = Tidy.ends (Gives v (with_outer outer u)) (λ rs. refl) tt
held_again outer (Leaves v u) end = Tidy.ends (Leaves v (with_outer outer u)) (λ rs. refl) tt
held_again outer (Fails fault u) end = Tidy.ends (Fails fault (with_outer outer u)) (λ rs. refl) tt
held_again outer (Wants q env) end = absurd end
held_again outer (Hears r u) end = absurd end
held_again outer Over end = absurd end
held_again outer Stopped end = absurd end

-- a part, while these values are held
pub tidy_holding : (vs : List Value) (m : Meaning) → IsTidy m → IsTidy (holding vs m)
tidy_holding [] m tidy = tidy
tidy_holding (v ∷ vs) m tidy = record { from = λ u. tidy_in (HoldsAgain u.environment.outer) (tidy.from (with_outer (v ∷ vs ++ u.environment.outer) u)) (held_again u.environment.outer) }

-- the environment of the caller at an end
environment_back : (caller : Environment) (e : Outcome) → IsEnd e → Tidy Goes [] (λ rs. back_in caller (refilled rs e))
environment_back caller (Gives v u) end = Tidy.ends (back_in caller (Gives v u)) (λ rs. refl) tt
environment_back caller (Leaves v u) end = Tidy.ends (back_in caller (Leaves v u)) (λ rs. refl) tt
environment_back caller (Fails fault u) end = Tidy.ends (back_in caller (Fails fault u)) (λ rs. refl) tt
environment_back caller (Wants q env) end = absurd end
environment_back caller (Hears r u) end = absurd end
environment_back caller Over end = absurd end
environment_back caller Stopped end = absurd end

-- a body, after which the environment of the caller comes back
pub tidy_back : (caller : Environment) {o : List Reply → Outcome} → Tidy Goes [] o → Tidy Goes [] (λ rs. back_in caller (o rs))
tidy_back caller tidy = tidy_in (ReturnsTo caller) tidy (environment_back caller)

-- what is done after an exit, of a lock that was entered at this grade
end_left : (vs : List Value) (grade : Grade) (m : Meaning) → IsTidy m → (u : State) → Tidy (left_at (is_synchronous grade)) [] (λ rs. settling vs grade m (with_replies rs u))
end_left vs grade.Read m tidy u = tidy.from u
end_left vs grade.Write m tidy u = tidy.from u
end_left vs grade.Synchronous m tidy u = Tidy.settles refl (tidy.from (record u { moves = 0 }))

-- a lock is left at an end
lock_left : (l : LockName) (grade : Grade) (e : Outcome) → IsEnd e → Tidy Goes (hold_at l grade ∷ []) (λ rs. leave l grade (refilled rs e))
lock_left l grade (Gives v u) end = Tidy.exits (hold_at l grade) refl (end_left (v ∷ []) grade (Gives v) (tidy_gives v) (record u { moves = 0 }))
lock_left l grade (Leaves v u) end = Tidy.exits (hold_at l grade) refl (end_left (v ∷ []) grade (Leaves v) (tidy_leaves v) (record u { moves = 0 }))
lock_left l grade (Fails fault u) end = Tidy.exits (hold_at l grade) refl (end_left [] grade (Fails fault) (tidy_fails fault) (record u { moves = 0 }))
lock_left l grade (Wants q env) end = absurd end
lock_left l grade (Hears r u) end = absurd end
lock_left l grade Over end = absurd end
lock_left l grade Stopped end = absurd end

-- a part, after which its lock is left
pub tidy_leave : (l : LockName) (grade : Grade) {o : List Reply → Outcome} → Tidy Goes [] o → Tidy Goes (hold_at l grade ∷ []) (λ rs. leave l grade (o rs))
tidy_leave l grade tidy = tidy_in (LeavesLock l grade) tidy (lock_left l grade)
