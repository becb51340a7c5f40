-- What comes later makes no difference: with more replies and more moves, a part that was not stopped comes to the same.
use Rattle.std.proofs.Common.{◌≡◌, refl, ℕ, ◌+◌, ◌-◌, Bool, true, false, List, [], ◌∷◌, ◌++◌, length, map, Option, None, Some, subst, sym, ap}
use Rattle.std.specs.Prelude.{nat_lt, slice_get, Result, Ok, Err}
use Rattle.dso_base.specs.declared.lock.Grade.{Grade}
use Rattle.dso_base.specs.declared.lock.Grade.TheVariants as grade
use Rattle.dso_base.specs.declared.lock.LockName.{LockName}
use Rattle.dso_base.specs.declared.lock.LockName.TheVariants.{Mon, Name}
use Rattle.dso_base.specs.declared.request.Fault.{Fault}
use Rattle.dso_base.specs.declared.request.Fault.TheVariants.{BadValue, StackOverflow}
use Rattle.dso_base.specs.declared.request.Reply.{Reply}
use Rattle.dso_base.specs.declared.request.Reply.TheVariants.{Done, Made, Seen, Val, Local, Refused}
use Rattle.dso_base.specs.declared.request.Request.{Request}
use Rattle.dso_base.specs.declared.request.Request.TheVariants as request
use Rattle.dso_base.specs.declared.value.ClassId.{ClassId}
use Rattle.dso_base.specs.declared.value.Value.{Value}
use Rattle.dso_base.specs.declared.value.Value.TheVariants as value
use Rattle.dso_map.specs.declared.map_op.MapOp.{MapOp}
use Rattle.dso_map.specs.Calls.{map_op}
use Rattle.dso_map.specs.Fields.{MapField, place_of, field_takes}
use Rattle.dso_map.specs.Talk.{Talk, talk}
use Rattle.dso_map.specs.Talk.Talk.{Gets, Puts, Ends}
use Rattle.dso_machine.specs.declared.code.Code.{Code}
use Rattle.dso_machine.specs.declared.code.Method.{Method}
use Rattle.dso_machine.specs.declared.tree.Expr.{Expr}
use Rattle.dso_machine.specs.Calls.{lookup_class, back_in, in_callee, under_name, under_monitor, run_method, call_method, call_number, call_on, arguments, variables, callee, MethodMeanings}
use Rattle.dso_machine.specs.Expressions.{make, expr}
use Rattle.dso_machine.specs.Limits.{most_moves}
use Rattle.dso_machine.specs.Maps.{told, told_value, grade_of, call_map}
use Rattle.dso_machine.specs.Outcome.{Environment, State, Outcome, Wants, Gives, Leaves, Fails, Hears, Over, Stopped, Meaning, choose, on_value, on_reply, result_of, asked, ask, unwanted, done, made, got, seen, tell, get, look, on_object, moved, paced, moving, level_of, settling, leaving, leave, entered, under, under_with, restored, holding, with_outer, asking, telling, getting, looking, monitor_of}

-- the same with more replies behind those that are left
abbrev pub later : List Reply → State → State
later more at = record { environment = at.environment; moves = at.moves; replies = at.replies ++ more }

-- The second outcome is the first one with more replies left. Where a reply was wanted, that is said only if there are no more,
-- and where moves were wanted, nothing is.
abbrev pub Extends : List Reply → Outcome → Outcome → Type 0
Extends more (Wants q env) o = more ≡ [] → o ≡ Wants q env
Extends more (Gives v u) o = o ≡ Gives v (later more u)
Extends more (Leaves v u) o = o ≡ Leaves v (later more u)
Extends more (Fails f u) o = o ≡ Fails f (later more u)
Extends more (Hears r u) o = o ≡ Hears r (later more u)
Extends more Over o = o ≡ Over
Extends more Stopped o = Unit {0}

-- from each state the second part goes on as the first does, whatever is heard later
abbrev pub Steady : Meaning → Meaning → Type 0
Steady m k = (more : List Reply) (at : State) → Extends more (m at) (k (later more at))

pub ext_value : (more : List Reply) (f g : Value → Meaning) (o n : Outcome) → Extends more o n → ((v : Value) → Steady (f v) (g v)) → Extends more (on_value f o) (on_value g n)
ext_value more f g (Wants q env) n e s = λ none. ap (on_value g) (e none)
ext_value more f g (Gives v u) n e s = subst (λ x. Extends more (f v u) (on_value g x)) (sym e) (s v more u)
ext_value more f g (Leaves v u) n e s = ap (on_value g) e
ext_value more f g (Fails x u) n e s = ap (on_value g) e
ext_value more f g (Hears r u) n e s = ap (on_value g) e
ext_value more f g Over n e s = ap (on_value g) e
ext_value more f g Stopped n e s = tt

pub ext_reply : (more : List Reply) (f g : Reply → Meaning) (o n : Outcome) → Extends more o n → ((r : Reply) → Steady (f r) (g r)) → Extends more (on_reply f o) (on_reply g n)
ext_reply more f g (Wants q env) n e s = λ none. ap (on_reply g) (e none)
ext_reply more f g (Hears r u) n e s = subst (λ x. Extends more (f r u) (on_reply g x)) (sym e) (s r more u)
ext_reply more f g (Leaves v u) n e s = ap (on_reply g) e
ext_reply more f g (Fails x u) n e s = ap (on_reply g) e
ext_reply more f g (Gives r u) n e s = ap (on_reply g) e
ext_reply more f g Over n e s = ap (on_reply g) e
ext_reply more f g Stopped n e s = tt

pub ext_choose : (more : List Reply) (b : Bool) (m k n l : Meaning) (at : State) → Extends more (m at) (n (later more at)) → Extends more (k at) (l (later more at))
    → Extends more (choose b m k at) (choose b n l (later more at))
ext_choose more true m k n l at g h = g
ext_choose more false m k n l at g h = h

pub steady_result : (r : Result Value Fault) → Steady (result_of r) (result_of r)
steady_result (Ok v) more at = refl
steady_result (Err f) more at = refl

-- ---- what is held

ext_restored : (more : List Reply) (outer : List Value) (o n : Outcome) → Extends more o n → Extends more (restored outer o) (restored outer n)
ext_restored more outer (Wants q env) n e = λ none. ap (restored outer) (e none)
ext_restored more outer (Gives v u) n e = ap (restored outer) e
ext_restored more outer (Leaves v u) n e = ap (restored outer) e
ext_restored more outer (Fails x u) n e = ap (restored outer) e
ext_restored more outer (Hears r u) n e = ap (restored outer) e
ext_restored more outer Over n e = ap (restored outer) e
ext_restored more outer Stopped n e = tt

pub steady_holding : (vs : List Value) (m k : Meaning) → Steady m k → Steady (holding vs m) (holding vs k)
steady_holding [] m k s more at = s more at
steady_holding (v ∷ vs) m k s more at = ext_restored more at.environment.outer (m (with_outer (v ∷ vs ++ at.environment.outer) at)) (k (later more (with_outer (v ∷ vs ++ at.environment.outer) at))) (s more (with_outer (v ∷ vs ++ at.environment.outer) at))

-- ---- requests

steady_asked : (vs : List Value) (q : Request) (more : List Reply) (at : State) (rs : List Reply) → Extends more (asked vs q at rs) (asked vs q (later more at) (rs ++ more))
steady_asked vs q more at [] = λ none. ap (asked vs q (later more at)) none
steady_asked vs q more at (r ∷ rs) = refl

pub steady_asking : (vs : List Value) (q : Request) → Steady (asking vs q) (asking vs q)
steady_asking vs q more at = steady_asked vs q more at at.replies

pub steady_ask : (q : Request) → Steady (ask q) (ask q)
steady_ask q = steady_asking [] q

pub steady_unwanted : (r : Reply) → Steady (unwanted r) (unwanted r)
steady_unwanted (Refused f) more at = refl
steady_unwanted r more at = refl

pub steady_done : (r : Reply) → Steady (done r) (done r)
steady_done Done more at = refl
steady_done r more at = steady_unwanted r more at

steady_made : (r : Reply) → Steady (made r) (made r)
steady_made (Made o) more at = refl
steady_made r more at = steady_unwanted r more at

steady_got : (r : Reply) → Steady (got r) (got r)
steady_got (Val v) more at = refl
steady_got r more at = steady_unwanted r more at

steady_seen : (f g : ClassId → ℕ → Meaning) → ((class : ClassId) (size : ℕ) → Steady (f class size) (g class size)) → (r : Reply) → Steady (seen f r) (seen g r)
steady_seen f g s (Seen class size) more at = s class size more at
steady_seen f g s r more at = steady_unwanted r more at

pub steady_telling : (vs : List Value) (q : Request) → Steady (telling vs q) (telling vs q)
steady_telling vs q more at = ext_reply more done done (asking vs q at) _ (steady_asking vs q more at) steady_done

pub steady_tell : (q : Request) → Steady (tell q) (tell q)
steady_tell q = steady_telling [] q

pub steady_getting : (vs : List Value) (o f : ℕ) → Steady (getting vs o f) (getting vs o f)
steady_getting vs o f more at = ext_reply more got got (asking vs (request.Get o f) at) _ (steady_asking vs (request.Get o f) more at) steady_got

pub steady_get : (o f : ℕ) → Steady (get o f) (get o f)
steady_get o f = steady_getting [] o f

pub steady_make : (class : ClassId) (size : ℕ) → Steady (make class size) (make class size)
steady_make class size more at = ext_reply more made made (ask (request.New class size) at) _ (steady_ask (request.New class size) more at) steady_made

pub steady_looking : (vs : List Value) (f g : ClassId → ℕ → Meaning) → ((class : ClassId) (size : ℕ) → Steady (f class size) (g class size)) → (o : ℕ) → Steady (looking vs f o) (looking vs g o)
steady_looking vs f g s o more at = ext_reply more (seen f) (seen g) (asking vs (request.Look o) at) _ (steady_asking vs (request.Look o) more at) (steady_seen f g s)

pub steady_look : (f g : ClassId → ℕ → Meaning) → ((class : ClassId) (size : ℕ) → Steady (f class size) (g class size)) → (o : ℕ) → Steady (look f o) (look g o)
steady_look f g s o = steady_looking [] f g s o

pub steady_object : (f g : ℕ → Meaning) → ((o : ℕ) → Steady (f o) (g o)) → (v : Value) → Steady (on_object f v) (on_object g v)
steady_object f g s value.Null more at = refl
steady_object f g s (value.Ref o) more at = s o more at
steady_object f g s v more at = refl

-- a part, and then what is made of its value
pub steady_after : (f g : Value → Meaning) (m k : Meaning) → Steady m k → ((v : Value) → Steady (f v) (g v)) → Steady (λ at. on_value f (m at)) (λ at. on_value g (k at))
steady_after f g m k s t more at = ext_value more f g (m at) (k (later more at)) (s more at) t

-- ---- moves

steady_moved : (m k : Meaning) → Steady m k → Steady (moved m) (moved k)
steady_moved m k s more at = s more (record { environment = at.environment; moves = at.moves + 1; replies = at.replies })

steady_paced : (few : Bool) (m k : Meaning) → Steady m k → Steady (paced few m) (paced few k)
steady_paced true m k s more at = steady_moved m k s more at
steady_paced false m k s more at = ext_value more (λ v. moved m) (λ v. moved k) (tell request.Pause at) _ (steady_tell request.Pause more at) (λ v. steady_moved m k s)

pub steady_moving : (m k : Meaning) → Steady m k → Steady (moving m) (moving k)
steady_moving m k s more at = steady_paced (nat_lt at.moves most_moves) m k s more at

-- ---- locks

steady_settling : (vs : List Value) (grade : Grade) (m : Meaning) → Steady m m → Steady (settling vs grade m) (settling vs grade m)
steady_settling vs grade.Read m s more at = s more at
steady_settling vs grade.Write m s more at = s more at
steady_settling vs grade.Synchronous m s more at = ext_value more (λ v. m) (λ v. m) (telling vs request.Settle at) _ (steady_telling vs request.Settle more at) (λ v. s)

steady_leaving : (vs : List Value) (l : LockName) (grade : Grade) (m : Meaning) → Steady m m → Steady (leaving vs l grade m) (leaving vs l grade m)
steady_leaving vs l grade m s more at = ext_value more (λ v. settling vs grade m) (λ v. settling vs grade m) (telling vs (request.Exit l) at) _ (steady_telling vs (request.Exit l) more at) (λ v. steady_settling vs grade m s)

ext_leave : (more : List Reply) (l : LockName) (grade : Grade) (o n : Outcome) → Extends more o n → Extends more (leave l grade o) (leave l grade n)
ext_leave more l grade (Wants q env) n e = λ none. ap (leave l grade) (e none)
ext_leave more l grade (Gives v u) n e = subst (λ x. Extends more (leaving (v ∷ []) l grade (Gives v) u) (leave l grade x)) (sym e) (steady_leaving (v ∷ []) l grade (Gives v) (λ more at. refl) more u)
ext_leave more l grade (Leaves v u) n e = subst (λ x. Extends more (leaving (v ∷ []) l grade (Leaves v) u) (leave l grade x)) (sym e) (steady_leaving (v ∷ []) l grade (Leaves v) (λ more at. refl) more u)
ext_leave more l grade (Fails f u) n e = subst (λ x. Extends more (leaving [] l grade (Fails f) u) (leave l grade x)) (sym e) (steady_leaving [] l grade (Fails f) (λ more at. refl) more u)
ext_leave more l grade (Hears r u) n e = ap (leave l grade) e
ext_leave more l grade Over n e = ap (leave l grade) e
ext_leave more l grade Stopped n e = tt

steady_entered : (l : LockName) (grade : Grade) (m k : Meaning) → Steady m k → (r : Reply) → Steady (entered l grade m r) (entered l grade k r)
steady_entered l grade m k s Done more at = ext_leave more l grade (holding (monitor_of l) m at) (holding (monitor_of l) k (later more at)) (steady_holding (monitor_of l) m k s more at)
steady_entered l grade m k s Local more at = steady_holding (monitor_of l) m k s more at
steady_entered l grade m k s r more at = steady_unwanted r more at

pub steady_under_with : (vs : List Value) (l : LockName) (grade : Grade) (m k : Meaning) → Steady m k → Steady (under_with vs l grade m) (under_with vs l grade k)
steady_under_with vs l grade m k s more at = ext_reply more (entered l grade m) (entered l grade k) (asking vs (request.Enter l (level_of grade)) at) _ (steady_asking vs (request.Enter l (level_of grade)) more at) (steady_entered l grade m k s)

pub steady_under : (l : LockName) (grade : Grade) (m k : Meaning) → Steady m k → Steady (under l grade m) (under l grade k)
steady_under l grade m k s = steady_under_with [] l grade m k s

-- ---- calls

-- the methods are steady
abbrev pub SteadyWays : MethodMeanings → MethodMeanings → Type 0
SteadyWays w x = (m : ℕ) → Steady (w m) (x m)

ext_back : (more : List Reply) (caller : Environment) (o n : Outcome) → Extends more o n → Extends more (back_in caller o) (back_in caller n)
ext_back more caller (Wants q env) n e = λ none. ap (back_in caller) (e none)
ext_back more caller (Gives v u) n e = ap (back_in caller) e
ext_back more caller (Leaves v u) n e = ap (back_in caller) e
ext_back more caller (Fails f u) n e = ap (back_in caller) e
ext_back more caller (Hears r u) n e = ap (back_in caller) e
ext_back more caller Over n e = ap (back_in caller) e
ext_back more caller Stopped n e = tt

steady_callee : (this : Value) (vars : List Value) (m k : Meaning) → Steady m k → Steady (in_callee this vars m) (in_callee this vars k)
steady_callee this vars m k s more at = ext_back more at.environment _ _
    (s more (record { environment = callee this vars at.environment; moves = at.moves; replies = at.replies }))

steady_name : (named : Option (ℕ × Grade)) (m k : Meaning) → Steady m k → Steady (under_name named m) (under_name named k)
steady_name None m k s = s
steady_name (Some lock) m k s = steady_under (Name lock.0) lock.1 m k s

steady_monitor : (synced : Option Grade) (o : ℕ) (m k : Meaning) → Steady m k → Steady (under_monitor synced o m) (under_monitor synced o k)
steady_monitor None o m k s = s
steady_monitor (Some grade) o m k s = steady_under (Mon o) grade m k s

-- ---- maps

steady_value : (f : MapField) (m : Value → Meaning) → ((v : Value) → Steady (m v) (m v)) → (v : Value) → Steady (told_value f m v) (told_value f m v)
steady_value f m s v more at = ext_choose more (field_takes f v) (m v) (Fails BadValue) (m v) (Fails BadValue) at (s v more at) refl

-- what a map's talk asks
steady_told : (o : ℕ) (talk : Talk) → Steady (told o talk) (told o talk)
steady_told o (Gets f then) = steady_after (told_value f (λ v. told o (then v))) (told_value f (λ v. told o (then v))) (get o (place_of f)) (get o (place_of f)) (steady_get o (place_of f)) (steady_value f (λ v. told o (then v)) (λ v. steady_told o (then v)))
steady_told o (Puts f v then) = steady_after (λ x. told o then) (λ x. told o then) (tell (request.Put o (place_of f) v)) (tell (request.Put o (place_of f) v)) (steady_tell (request.Put o (place_of f) v)) (λ x. steady_told o then)
steady_told o (Ends v) = λ more at. refl

-- a call of a map
steady_call_map : (o : ℕ) (args : List Value) (call : Option MapOp) → Steady (call_map o args call) (call_map o args call)
steady_call_map o args None more at = refl
steady_call_map o args (Some call) more at = steady_holding (value.Ref o ∷ args) (under (Mon o) (grade_of call) (told o (talk call))) (under (Mon o) (grade_of call) (told o (talk call)))
    (steady_under (Mon o) (grade_of call) (told o (talk call)) (told o (talk call)) (steady_told o (talk call))) more at

module _ (c : Code) (w x : MethodMeanings) (s : SteadyWays w x) where
  steady_run : (m : ℕ) (method : Method) (o : ℕ) (args : List Value) → Steady (run_method w m method o args) (run_method x m method o args)
  steady_run m method o args =
      steady_callee (value.Ref o) (variables method.vars args) (under_name method.named (under_monitor method.synced o (moving (w m)))) (under_name method.named (under_monitor method.synced o (moving (x m))))
      (steady_name method.named (under_monitor method.synced o (moving (w m))) (under_monitor method.synced o (moving (x m)))
      (steady_monitor method.synced o (moving (w m)) (moving (x m)) (steady_moving (w m) (x m) (s m))))

  steady_method : (m o : ℕ) (args : List Value) (method : Option Method) → Steady (call_method c w m o args method) (call_method c x m o args method)
  steady_method m o args None more at = steady_call_map o args (map_op (m - length c.methods) args) more at
  steady_method m o args (Some method) more at = ext_choose more (nat_lt 0 at.environment.depth_left) _ (Fails StackOverflow) _ (Fails StackOverflow) at (steady_run m method o args more at) refl

  steady_number : (o : ℕ) (args : List Value) (number : Option ℕ) → Steady (call_number c w o args number) (call_number c x o args number)
  steady_number o args None more at = refl
  steady_number o args (Some m) more at = steady_method m o args (slice_get c.methods m) more at

  pub steady_call : (callees : List (ℕ × ℕ)) (on : Value) (args : List Value) → Steady (call_on c w callees on args) (call_on c x callees on args)
  steady_call callees on args = steady_object _ _ (λ o. steady_looking args _ _ (λ class size. steady_number o args (lookup_class callees class)) o) on

  -- an expression that is steady
  abbrev pub Kid : Type 0
  Kid = (a : Expr) × Steady (expr c w a) (expr c x a)

  pub steady_arguments : (f g : List Value → Meaning) → ((vs : List Value) → Steady (f vs) (g vs)) → (y : Value) (kids : List Kid) (vs : List Value)
      → Steady (arguments f y (map (expr c w) (map (λ k. k.0) kids)) vs) (arguments g y (map (expr c x) (map (λ k. k.0) kids)) vs)
  steady_arguments f g t y [] vs more at = t vs more at
  steady_arguments f g t y (k ∷ ks) vs more at = ext_value more (λ v. arguments f y (map (expr c w) (map (λ k. k.0) ks)) (vs ++ v ∷ [])) (λ v. arguments g y (map (expr c x) (map (λ k. k.0) ks)) (vs ++ v ∷ []))
      (holding (y ∷ vs) (expr c w k.0) at) (holding (y ∷ vs) (expr c x k.0) (later more at)) (steady_holding (y ∷ vs) (expr c w k.0) (expr c x k.0) k.1 more at) (λ v. steady_arguments f g t y ks (vs ++ v ∷ []))
