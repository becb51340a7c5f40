-- Parts that are not stopped, while enough moves are left: requests, moves, locks, calls.
use Rattle.std.proofs.Common.{◌≡◌, refl, ℕ, ◌+◌, ◌-◌, ◌*◌, ◌<◌, ◌≤◌, Bool, true, false, List, [], ◌∷◌, ◌++◌, length, Option, None, Some, arith}
use Rattle.std.specs.Prelude.{nat_lt, slice_get, Result, Ok, Err}
use Rattle.std.proofs.lemmas.Bool.{ltb-true}
use Rattle.dso_base.specs.declared.lock.Grade.{Grade}
use Rattle.dso_base.specs.declared.lock.Grade.TheVariants as grade
use Rattle.dso_base.specs.declared.lock.LockName.{LockName}
use Rattle.dso_base.specs.declared.lock.LockName.TheVariants.{Mon, Name}
use Rattle.dso_base.specs.declared.request.Fault.{Fault}
use Rattle.dso_base.specs.declared.request.Fault.TheVariants.{BadValue}
use Rattle.dso_base.specs.declared.request.Reply.{Reply}
use Rattle.dso_base.specs.declared.request.Reply.TheVariants.{Done, Made, Seen, Val, Local, Refused}
use Rattle.dso_base.specs.declared.request.Request.{Request}
use Rattle.dso_base.specs.declared.request.Request.TheVariants as request
use Rattle.dso_base.specs.declared.value.ClassId.{ClassId}
use Rattle.dso_base.specs.declared.value.Value.{Value}
use Rattle.dso_base.specs.declared.value.Value.TheVariants as value
use Rattle.dso_map.specs.declared.map_op.MapOp.{MapOp}
use Rattle.dso_map.specs.Calls.{map_op}
use Rattle.dso_map.specs.Fields.{MapField, place_of, field_takes}
use Rattle.dso_map.specs.Talk.{Talk, talk}
use Rattle.dso_map.specs.Talk.Talk.{Gets, Puts, Ends}
use Rattle.dso_machine.specs.declared.code.Code.{Code}
use Rattle.dso_machine.specs.declared.code.Method.{Method}
use Rattle.dso_machine.specs.Calls.{lookup_class, back_in, callee, in_callee, under_name, under_monitor, run_method, call_method, call_number, call_in, call_on, variables, MethodMeanings}
use Rattle.dso_machine.specs.Limits.{most_moves}
use Rattle.dso_machine.specs.Maps.{told, told_value, grade_of, call_map}
use Rattle.dso_machine.specs.Outcome.{Environment, State, Outcome, Wants, Gives, Leaves, Fails, Hears, Over, Stopped, Meaning, choose, on_value, on_reply, result_of, asked, ask, unwanted, done, made, got, seen, tell, get, look, on_object, moved, paced, moving, level_of, settling, leaving, leave, entered, under, under_with, restored, holding, with_outer, asking, telling, getting, looking, monitor_of}

-- how many moves there may be before the replies are used up
abbrev pub budget : State → ℕ
budget at = most_moves * length at.replies + (most_moves - at.moves)

-- the outcome is not stopped, and no more moves are left than were
abbrev pub Good : ℕ → Outcome → Type 0
Good b (Wants q env) = Unit {0}
Good b (Gives v u) = budget u ≤ b
Good b (Leaves v u) = budget u ≤ b
Good b (Fails f u) = budget u ≤ b
Good b (Hears r u) = budget u ≤ b
Good b Over = Unit {0}
Good b Stopped = ⊥

-- where fewer moves than N are left, what a part comes to is good
abbrev pub GoodAt : ℕ → Meaning → Type 0
GoodAt N m = (at : State) → budget at < N → Good (budget at) (m at)

pub good_more : (a b : ℕ) (o : Outcome) → a ≤ b → Good a o → Good b o
good_more a b (Wants q env) h g = tt
good_more a b (Gives v u) h g = omega arith
good_more a b (Leaves v u) h g = omega arith
good_more a b (Fails f u) h g = omega arith
good_more a b (Hears r u) h g = omega arith
good_more a b Over h g = tt
good_more a b Stopped h g = absurd g

pub good_value : (b : ℕ) (f : Value → Meaning) (o : Outcome) → Good b o → ((v : Value) (u : State) → budget u ≤ b → Good (budget u) (f v u)) → Good b (on_value f o)
good_value b f (Wants q env) g h = tt
good_value b f (Gives v u) g h = good_more (budget u) b (f v u) g (h v u g)
good_value b f (Leaves v u) g h = g
good_value b f (Fails x u) g h = g
good_value b f (Hears r u) g h = g
good_value b f Over g h = tt
good_value b f Stopped g h = absurd g

pub good_reply : (b : ℕ) (f : Reply → Meaning) (o : Outcome) → Good b o → ((r : Reply) (u : State) → budget u ≤ b → Good (budget u) (f r u)) → Good b (on_reply f o)
good_reply b f (Wants q env) g h = tt
good_reply b f (Hears r u) g h = good_more (budget u) b (f r u) g (h r u g)
good_reply b f (Leaves v u) g h = g
good_reply b f (Fails x u) g h = g
good_reply b f (Gives r u) g h = g
good_reply b f Over g h = tt
good_reply b f Stopped g h = absurd g

pub good_choose : (b : ℕ) (x : Bool) (m k : Meaning) (at : State) → Good b (m at) → Good b (k at) → Good b (choose x m k at)
good_choose b true m k at g h = g
good_choose b false m k at g h = h

pub good_result : (r : Result Value Fault) (at : State) → Good (budget at) (result_of r at)
good_result (Ok v) at = omega arith
good_result (Err f) at = omega arith

-- ---- what is held

good_restored : (b : ℕ) (outer : List Value) (o : Outcome) → Good b o → Good b (restored outer o)
good_restored b outer (Wants q env) g = tt
good_restored b outer (Gives v u) g = g
good_restored b outer (Leaves v u) g = g
good_restored b outer (Fails f u) g = g
good_restored b outer (Hears r u) g = g
good_restored b outer Over g = tt
good_restored b outer Stopped g = absurd g

pub good_holding : (N : ℕ) (vs : List Value) (m : Meaning) → GoodAt N m → GoodAt N (holding vs m)
good_holding N [] m fine at h = fine at h
good_holding N (v ∷ vs) m fine at h = good_restored (budget at) at.environment.outer (m (with_outer (v ∷ vs ++ at.environment.outer) at)) (fine (with_outer (v ∷ vs ++ at.environment.outer) at) h)

-- ---- requests

pub good_asked : (vs : List Value) (q : Request) (at : State) (rs : List Reply) → Good (most_moves * length rs + (most_moves - at.moves)) (asked vs q at rs)
good_asked vs q at [] = tt
good_asked vs q at (r ∷ rs) = omega arith

pub good_asking : (vs : List Value) (q : Request) (at : State) → Good (budget at) (asking vs q at)
good_asking vs q at = good_asked vs q at at.replies

pub good_ask : (q : Request) (at : State) → Good (budget at) (ask q at)
good_ask q at = good_asking [] q at

pub good_unwanted : (r : Reply) (at : State) → Good (budget at) (unwanted r at)
good_unwanted (Refused f) at = omega arith
good_unwanted r at = omega arith

pub good_done : (r : Reply) (at : State) → Good (budget at) (done r at)
good_done Done at = omega arith
good_done r at = good_unwanted r at

pub good_made : (r : Reply) (at : State) → Good (budget at) (made r at)
good_made (Made o) at = omega arith
good_made r at = good_unwanted r at

pub good_got : (r : Reply) (at : State) → Good (budget at) (got r at)
good_got (Val v) at = omega arith
good_got r at = good_unwanted r at

pub good_seen : (f : ClassId → ℕ → Meaning) (r : Reply) (at : State) → ((class : ClassId) (size : ℕ) → Good (budget at) (f class size at)) → Good (budget at) (seen f r at)
good_seen f (Seen class size) at g = g class size
good_seen f r at g = good_unwanted r at

pub good_telling : (vs : List Value) (q : Request) (at : State) → Good (budget at) (telling vs q at)
good_telling vs q at = good_reply (budget at) done (asking vs q at) (good_asking vs q at) (λ r u le. good_done r u)

pub good_tell : (q : Request) (at : State) → Good (budget at) (tell q at)
good_tell q at = good_telling [] q at

pub good_getting : (vs : List Value) (o f : ℕ) (at : State) → Good (budget at) (getting vs o f at)
good_getting vs o f at = good_reply (budget at) got (asking vs (request.Get o f) at) (good_asking vs (request.Get o f) at) (λ r u le. good_got r u)

pub good_get : (o f : ℕ) (at : State) → Good (budget at) (get o f at)
good_get o f at = good_getting [] o f at

pub good_looking : (vs : List Value) (f : ClassId → ℕ → Meaning) (o : ℕ) (at : State) → ((class : ClassId) (size : ℕ) (u : State) → budget u ≤ budget at → Good (budget u) (f class size u))
    → Good (budget at) (looking vs f o at)
good_looking vs f o at g = good_reply (budget at) (seen f) (asking vs (request.Look o) at) (good_asking vs (request.Look o) at) (λ r u le. good_seen f r u (λ class size. g class size u le))

pub good_look : (f : ClassId → ℕ → Meaning) (o : ℕ) (at : State) → ((class : ClassId) (size : ℕ) (u : State) → budget u ≤ budget at → Good (budget u) (f class size u))
    → Good (budget at) (look f o at)
good_look f o at g = good_looking [] f o at g

pub good_object : (f : ℕ → Meaning) (v : Value) (at : State) → ((o : ℕ) → Good (budget at) (f o at)) → Good (budget at) (on_object f v at)
good_object f value.Null at g = omega arith
good_object f (value.Ref o) at g = g o
good_object f v at g = omega arith

-- ---- moves: each leaves fewer

pub good_paused : (N : ℕ) (m : Meaning) → ((u : State) → budget u + 1 < N → Good (budget u) (m u)) → (r : Reply) (at u : State)
    → budget u < N → 0 < most_moves - u.moves → Good (budget u) (on_value (λ v. moved m) (done r u))
good_paused N m fine Done at u h less =
    let w : State = record { environment = u.environment; moves = u.moves + 1; replies = u.replies } in good_more (budget w) (budget u) (m w) (omega arith) (fine w (omega arith))
good_paused N m fine (Refused f) at u h less = omega arith
good_paused N m fine r at u h less = omega arith

pub good_pause : (N : ℕ) (m : Meaning) → ((u : State) → budget u + 1 < N → Good (budget u) (m u)) → (at : State) (rs : List Reply)
    → most_moves * length rs + (most_moves - at.moves) < N
    → Good (most_moves * length rs + (most_moves - at.moves)) (on_value (λ v. moved m) (on_reply done (asked [] request.Pause at rs)))
good_pause N m fine at [] h = tt
good_pause N m fine at (r ∷ rs) h =
    let u : State = record { environment = at.environment; moves = 0; replies = rs } in
    good_more (budget u) (most_moves * length (r ∷ rs) + (most_moves - at.moves)) (on_value (λ v. moved m) (done r u)) (omega arith)
    (good_paused N m fine r at u (omega arith) (omega arith))

pub good_paced : (N : ℕ) (m : Meaning) → ((u : State) → budget u + 1 < N → Good (budget u) (m u)) → (few : Bool) (at : State)
    → nat_lt at.moves most_moves ≡ few → budget at < N → Good (budget at) (paced few m at)
good_paced N m fine true at few h =
    let u : State = record { environment = at.environment; moves = at.moves + 1; replies = at.replies } in
    let less : at.moves < most_moves = ltb-true at.moves most_moves few in
    good_more (budget u) (budget at) (m u) (omega arith) (fine u (omega arith))
good_paced N m fine false at few h = good_pause N m fine at at.replies h

pub good_moving : (N : ℕ) (m : Meaning) → ((u : State) → budget u + 1 < N → Good (budget u) (m u)) → GoodAt N (moving m)
good_moving N m fine at h = good_paced N m fine (nat_lt at.moves most_moves) at refl h

-- ---- locks

good_settling : (vs : List Value) (grade : Grade) (m : Meaning) (at : State) → ((u : State) → budget u ≤ budget at → Good (budget u) (m u)) → Good (budget at) (settling vs grade m at)
good_settling vs grade.Read m at g = g at (omega arith)
good_settling vs grade.Write m at g = g at (omega arith)
good_settling vs grade.Synchronous m at g = good_value (budget at) (λ v. m) (telling vs request.Settle at) (good_telling vs request.Settle at) (λ v u le. g u le)

pub good_leaving : (vs : List Value) (l : LockName) (grade : Grade) (m : Meaning) (at : State) → ((u : State) → budget u ≤ budget at → Good (budget u) (m u)) → Good (budget at) (leaving vs l grade m at)
good_leaving vs l grade m at g = good_value (budget at) (λ v. settling vs grade m) (telling vs (request.Exit l) at) (good_telling vs (request.Exit l) at)
    (λ v u le. good_settling vs grade m u (λ w less. g w (omega arith)))

pub good_leave : (b : ℕ) (l : LockName) (grade : Grade) (o : Outcome) → Good b o → Good b (leave l grade o)
good_leave b l grade (Wants q env) g = tt
good_leave b l grade (Gives v u) g = good_more (budget u) b (leaving (v ∷ []) l grade (Gives v) u) g (good_leaving (v ∷ []) l grade (Gives v) u (λ w le. omega arith))
good_leave b l grade (Leaves v u) g = good_more (budget u) b (leaving (v ∷ []) l grade (Leaves v) u) g (good_leaving (v ∷ []) l grade (Leaves v) u (λ w le. omega arith))
good_leave b l grade (Fails f u) g = good_more (budget u) b (leaving [] l grade (Fails f) u) g (good_leaving [] l grade (Fails f) u (λ w le. omega arith))
good_leave b l grade (Hears r u) g = g
good_leave b l grade Over g = tt
good_leave b l grade Stopped g = absurd g

pub good_entered : (l : LockName) (grade : Grade) (m : Meaning) (r : Reply) (at : State) → Good (budget at) (holding (monitor_of l) m at) → Good (budget at) (entered l grade m r at)
good_entered l grade m Done at g = good_leave (budget at) l grade (holding (monitor_of l) m at) g
good_entered l grade m Local at g = g
good_entered l grade m r at g = good_unwanted r at

pub good_under_with : (N : ℕ) (vs : List Value) (l : LockName) (grade : Grade) (m : Meaning) → GoodAt N m → GoodAt N (under_with vs l grade m)
good_under_with N vs l grade m fine at h = good_reply (budget at) (entered l grade m) (asking vs (request.Enter l (level_of grade)) at) (good_asking vs (request.Enter l (level_of grade)) at)
    (λ r u le. good_entered l grade m r u (good_holding N (monitor_of l) m fine u (omega arith)))

pub good_under : (N : ℕ) (l : LockName) (grade : Grade) (m : Meaning) → GoodAt N m → GoodAt N (under l grade m)
good_under N l grade m fine = good_under_with N [] l grade m fine

-- ---- calls

-- the methods are good after a move
abbrev pub FineWays : ℕ → MethodMeanings → Type 0
FineWays N w = (m : ℕ) (u : State) → budget u + 1 < N → Good (budget u) (w m u)

pub good_back : (b : ℕ) (caller : Environment) (o : Outcome) → Good b o → Good b (back_in caller o)
good_back b caller (Wants q env) g = tt
good_back b caller (Gives v u) g = g
good_back b caller (Leaves v u) g = g
good_back b caller (Fails f u) g = g
good_back b caller (Hears r u) g = g
good_back b caller Over g = tt
good_back b caller Stopped g = absurd g

pub good_callee : (N : ℕ) (this : Value) (vars : List Value) (m : Meaning) → GoodAt N m → GoodAt N (in_callee this vars m)
good_callee N this vars m fine at h = good_back (budget at) at.environment _ (fine (record { environment = callee this vars at.environment; moves = at.moves; replies = at.replies }) h)

pub good_under_name : (N : ℕ) (named : Option (ℕ × Grade)) (m : Meaning) → GoodAt N m → GoodAt N (under_name named m)
good_under_name N None m fine = fine
good_under_name N (Some lock) m fine = good_under N (Name lock.0) lock.1 m fine

pub good_under_monitor : (N : ℕ) (synced : Option Grade) (o : ℕ) (m : Meaning) → GoodAt N m → GoodAt N (under_monitor synced o m)
good_under_monitor N None o m fine = fine
good_under_monitor N (Some grade) o m fine = good_under N (Mon o) grade m fine

pub good_run : (N : ℕ) (w : MethodMeanings) → FineWays N w → (m : ℕ) (method : Method) (o : ℕ) (args : List Value) → GoodAt N (run_method w m method o args)
good_run N w fw m method o args = good_callee N (value.Ref o) (variables method.vars args) _ (good_under_name N method.named _ (good_under_monitor N method.synced o _ (good_moving N (w m) (fw m))))

-- ---- maps

good_told_value : (f : MapField) (m : Value → Meaning) → ((v : Value) (at : State) → Good (budget at) (m v at)) → (v : Value) (at : State) → Good (budget at) (told_value f m v at)
good_told_value f m g v at = good_choose (budget at) (field_takes f v) (m v) (Fails BadValue) at (g v at) (omega arith)

-- what a map's talk asks
good_told : (o : ℕ) (talk : Talk) (at : State) → Good (budget at) (told o talk at)
good_told o (Gets f then) at = good_value (budget at) (told_value f (λ v. told o (then v))) (get o (place_of f) at) (good_get o (place_of f) at) (λ v u le. good_told_value f (λ v. told o (then v)) (λ v u. good_told o (then v) u) v u)
good_told o (Puts f v then) at = good_value (budget at) (λ x. told o then) (tell (request.Put o (place_of f) v) at) (good_tell (request.Put o (place_of f) v) at) (λ x u le. good_told o then u)
good_told o (Ends v) at = omega arith

-- a call of a map
good_call_map : (N o : ℕ) (args : List Value) (call : Option MapOp) → GoodAt N (call_map o args call)
good_call_map N o args None at h = omega arith
good_call_map N o args (Some call) at h = good_holding N (value.Ref o ∷ args) (under (Mon o) (grade_of call) (told o (talk call)))
    (good_under N (Mon o) (grade_of call) (told o (talk call)) (λ u le. good_told o (talk call) u)) at h

pub good_method : (c : Code) (N : ℕ) (w : MethodMeanings) → FineWays N w → (m o : ℕ) (args : List Value) (method : Option Method) → GoodAt N (call_method c w m o args method)
good_method c N w fw m o args None at h = good_call_map N o args (map_op (m - length c.methods) args) at h
good_method c N w fw m o args (Some method) at h = good_choose (budget at) (nat_lt 0 at.environment.depth_left) _ _ at (good_run N w fw m method o args at h) (omega arith)

pub good_number : (c : Code) (N : ℕ) (w : MethodMeanings) → FineWays N w → (o : ℕ) (args : List Value) (number : Option ℕ) → GoodAt N (call_number c w o args number)
good_number c N w fw o args None at h = omega arith
good_number c N w fw o args (Some m) at h = good_method c N w fw m o args (slice_get c.methods m) at h

pub good_call : (c : Code) (N : ℕ) (w : MethodMeanings) → FineWays N w → (callees : List (ℕ × ℕ)) (x : Value) (args : List Value) → GoodAt N (call_on c w callees x args)
good_call c N w fw callees x args at h = good_object (λ o. looking args (call_in c w callees args o) o) x at
    (λ o. good_looking args (call_in c w callees args o) o at (λ class size u le. good_number c N w fw o args (lookup_class callees class) u (omega arith)))
