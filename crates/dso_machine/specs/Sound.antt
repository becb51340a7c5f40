-- Which code is sound: every number in it names something that is there, and nothing is more than there may be.
use Rattle.std.specs.Prelude.{◌≡◌, ◌≢◌, ◌⊎◌, ℕ, suc, ◌+◌, ◌<◌, ◌≤◌, Bool, true, false, List, [], ◌∷◌, length, map, All}
use Rattle.std.specs.Prelude.{AllPairs, Contains, slice_get, Some, None, IfSome}
use Rattle.dso_base.specs.declared.lock.Grade.{Grade}
use Rattle.dso_base.specs.declared.lock.ThreadId.{ThreadId}
use Rattle.dso_base.specs.declared.op.Op.{Op}
use Rattle.dso_base.specs.declared.op.Op.TheVariants as op
use Rattle.dso_base.specs.declared.shape.ClassShape.{ClassShape}
use Rattle.dso_base.specs.declared.shape.Guard.{Guard}
use Rattle.dso_base.specs.declared.shape.Guard.TheVariants as guard
use Rattle.dso_base.specs.declared.shape.Shape.{Shape}
use Rattle.dso_base.specs.declared.value.ClassId.TheVariants.{Plain}
use Rattle.dso_base.specs.declared.value.Kind.{Kind}
use Rattle.dso_base.specs.declared.value.Value.{Value}
use Rattle.dso_base.specs.declared.value.Value.TheVariants as value
use Rattle.dso_base.specs.Shape.{HasField}
use Rattle.dso_map.specs.MapClass.{IsMapClass, map_size, is_map}
use Rattle.dso_machine.specs.declared.code.Code.{Code}
use Rattle.dso_machine.specs.declared.code.Method.{Method}
use Rattle.dso_machine.specs.declared.code.ThreadBody.{ThreadBody}
use Rattle.dso_machine.specs.declared.tree.FieldRef.{FieldRef}
use Rattle.dso_machine.specs.declared.tree.Expr.{Expr}
use Rattle.dso_machine.specs.declared.tree.Expr.TheVariants as x
use Rattle.dso_machine.specs.declared.tree.Stmt.{Stmt}
use Rattle.dso_machine.specs.declared.tree.Stmt.TheVariants as s
use Rattle.dso_machine.specs.Limits.{most_clients, most_threads, most_classes, most_fields, most_roots, most_locks}
use Rattle.dso_machine.specs.Limits.{most_methods, most_texts, most_params, most_vars, most_nested}

-- what a body may name: what the code has, so many variables, and `this` where it is a method's
pub record Scope : Type 0 where
  pub code : Code
  pub vars : ℕ
  pub in_method : Bool

-- the value may stand in a program: it is no object, and a text is one of the program's
abbrev pub IsLiteral : Shape → Value → Type 0
IsLiteral shape (value.Text t) = t < shape.texts
IsLiteral shape (value.Ref object) = ⊥
IsLiteral shape v = Unit {0}

-- the operators that stand before one operand; the others stand between two
abbrev pub is_unary : Op → Bool
is_unary op.Not = true
is_unary op.Neg = true
is_unary other = false

-- the places name fields that are there, in different classes, of which none is that of maps
pub record ArePlaces (shape : Shape) (places : List (ℕ × ℕ)) : Type 0 where
  pub there : All (λ place. HasField shape (Plain place.0) place.1) places
  pub of_no_map : All (λ place. is_map shape place.0 ≡ false) places
  pub differ : AllPairs (λ place other. place.0 ≢ other.0) places

-- the method of this number is there, of the class beside it, and takes so many arguments
pub record IsCodeCallee (code : Code) (count : ℕ) (callee : ℕ × ℕ) : Type 0 where
  pub method : Method
  pub there : slice_get code.methods callee.1 ≡ Some method
  pub class : method.class ≡ callee.0
  pub params : method.params ≡ count

-- how many arguments the methods of a map take: get, has, size, put, remove
abbrev pub map_arguments : List ℕ
map_arguments = 1 ∷ 1 ∷ 0 ∷ 2 ∷ 1 ∷ []

-- the class is that of maps; the number is that of a method of maps, behind all of the code, which takes so many
-- arguments
pub record IsMapCallee (code : Code) (count : ℕ) (callee : ℕ × ℕ) : Type 0 where
  pub class : is_map code.shape callee.0 ≡ true
  pub place : ℕ
  pub number : callee.1 ≡ length code.methods + place
  pub params : slice_get map_arguments place ≡ Some count

-- a call may reach this method of this class
abbrev pub IsCallee : Code → ℕ → ℕ × ℕ → Type 0
IsCallee code count callee = IsCodeCallee code count callee ⊎ IsMapCallee code count callee

-- the methods that a call may reach are there, in different classes
pub record AreCallees (code : Code) (count : ℕ) (callees : List (ℕ × ℕ)) : Type 0 where
  pub there : All (IsCallee code count) callees
  pub differ : AllPairs (λ callee other. callee.0 ≢ other.0) callees

mutual
  -- what an expression names is there, form by form
  pub data SoundExpr (scope : Scope) : Expr → Type 0 where
    constant : {v : Value} → IsLiteral scope.code.shape v → SoundExpr scope (x.Const v)
    variable : {i : ℕ} → i < scope.vars → SoundExpr scope (x.Var i)
    this : scope.in_method ≡ true → SoundExpr scope x.This
    root : {r : ℕ} → r < scope.code.shape.roots → SoundExpr scope (x.Root r)
    field : {a : Expr} {f : FieldRef} → SoundExpr scope a → ArePlaces scope.code.shape f.places →
        SoundExpr scope (x.Field a f)
    element : {a b : Expr} → SoundExpr scope a → SoundExpr scope b → SoundExpr scope (x.Elem a b)
    call : {a : Expr} {callees : List (ℕ × ℕ)} {args : List Expr} → SoundExpr scope a →
        AreCallees scope.code (length args) callees → SoundExprs scope args →
        SoundExpr scope (x.Call a callees args)
    object : {c : ℕ} → c < length scope.code.shape.classes → SoundExpr scope (x.NewObject c)
    array : {k : Kind} {a : Expr} → SoundExpr scope a → SoundExpr scope (x.NewArray k a)
    unary : {o : Op} {a : Expr} → is_unary o ≡ true → SoundExpr scope a → SoundExpr scope (x.Unary o a)
    binary : {o : Op} {a b : Expr} → is_unary o ≡ false → SoundExpr scope a → SoundExpr scope b →
        SoundExpr scope (x.Binary o a b)

  -- what each expression of a list names is there
  pub data SoundExprs (scope : Scope) : List Expr → Type 0 where
    none : SoundExprs scope []
    more : {a : Expr} {rest : List Expr} → SoundExpr scope a → SoundExprs scope rest → SoundExprs scope (a ∷ rest)

mutual
  -- what a statement names is there, form by form, and at most so many statements stand one inside another, itself
  -- among them
  pub data SoundStmt (scope : Scope) : ℕ → Stmt → Type 0 where
    assign : {room i : ℕ} {a : Expr} → i < scope.vars → SoundExpr scope a → SoundStmt scope (suc room) (s.Assign i a)
    put_field : {room : ℕ} {a b : Expr} {f : FieldRef} → SoundExpr scope a → ArePlaces scope.code.shape f.places →
        SoundExpr scope b →
        SoundStmt scope (suc room) (s.PutField a f b)
    put_element : {room : ℕ} {a b c : Expr} → SoundExpr scope a → SoundExpr scope b → SoundExpr scope c →
        SoundStmt scope (suc room) (s.PutElem a b c)
    put_root : {room r : ℕ} {a : Expr} → r < scope.code.shape.roots → SoundExpr scope a →
        SoundStmt scope (suc room) (s.PutRoot r a)
    evaluate : {room : ℕ} {a : Expr} → SoundExpr scope a → SoundStmt scope (suc room) (s.Eval a)
    conditional : {room : ℕ} {a : Expr} {all others : List Stmt} → SoundExpr scope a → SoundBlock scope room all →
        SoundBlock scope room others →
        SoundStmt scope (suc room) (s.If a all others)
    loop : {room : ℕ} {a : Expr} {all : List Stmt} → SoundExpr scope a → SoundBlock scope room all →
        SoundStmt scope (suc room) (s.While a all)
    locked : {room : ℕ} {a : Expr} {grade : Grade} {all : List Stmt} → SoundExpr scope a →
        SoundBlock scope room all → SoundStmt scope (suc room) (s.Sync a grade all)
    wait : {room : ℕ} {a : Expr} → SoundExpr scope a → SoundStmt scope (suc room) (s.Wait a)
    timed_wait : {room : ℕ} {a b : Expr} → SoundExpr scope a → SoundExpr scope b →
        SoundStmt scope (suc room) (s.TimedWait a b)
    notify : {room : ℕ} {a : Expr} → SoundExpr scope a → SoundStmt scope (suc room) (s.Notify a)
    notify_all : {room : ℕ} {a : Expr} → SoundExpr scope a → SoundStmt scope (suc room) (s.NotifyAll a)
    print : {room : ℕ} {a : Expr} → SoundExpr scope a → SoundStmt scope (suc room) (s.Print a)
    leave : {room : ℕ} → SoundStmt scope (suc room) (s.Return None)
    answer : {room : ℕ} {a : Expr} → SoundExpr scope a → SoundStmt scope (suc room) (s.Return (Some a))

  -- what each statement of a block names is there, and each has at most so many statements one inside another
  pub data SoundBlock (scope : Scope) : ℕ → List Stmt → Type 0 where
    done : {room : ℕ} → SoundBlock scope room []
    next : {room : ℕ} {a : Stmt} {rest : List Stmt} → SoundStmt scope room a → SoundBlock scope room rest →
        SoundBlock scope room (a ∷ rest)

-- a field's guard is its object's monitor, or a named lock that is there
abbrev pub IsGuard : Shape → Guard → Type 0
IsGuard shape guard.Own = Unit {0}
IsGuard shape (guard.Name lock) = lock < shape.names

-- a class has no more fields than there may be, and each one's guard is there; one of as many fields as a map is that
-- of maps
pub record IsSoundClass (shape : Shape) (class : ClassShape) : Type 0 where
  pub few_fields : length class.fields ≤ most_fields
  pub as_map : length class.fields ≡ map_size → IsMapClass class
  pub guards : All (λ field. IsGuard shape field.guard) class.fields

-- a method's named lock is there, and is no root's own
pub record IsMethodLock (shape : Shape) (lock : ℕ × Grade) : Type 0 where
  pub no_root : shape.roots ≤ lock.0
  pub there : lock.0 < shape.names

-- a method's class and lock are there, its parameters are the first of its variables, and its statements are sound
pub record IsSoundMethod (code : Code) (method : Method) : Type 0 where
  pub class : method.class < length code.shape.classes
  pub few_params : method.params ≤ most_params
  pub params_first : method.params ≤ method.vars
  pub few_vars : method.vars ≤ most_vars
  pub lock : IfSome method.named (IsMethodLock code.shape)
  pub statements : SoundBlock (record { code = code; vars = method.vars; in_method = true }) most_nested method.body

-- a thread's body has a thread that may be, and sound statements
pub record IsSoundBody (code : Code) (body : ThreadBody) : Type 0 where
  pub client_from_one : 1 ≤ body.thread.client
  pub client_to_last : body.thread.client ≤ most_clients
  pub index_from_one : 1 ≤ body.thread.index
  pub index_to_last : body.thread.index ≤ most_threads
  pub few_vars : body.vars ≤ most_vars
  pub statements : SoundBlock (record { code = code; vars = body.vars; in_method = false }) most_nested body.body

-- the threads of code, in the order of its bodies
abbrev pub threads_of : Code → List ThreadId
threads_of code = map (λ body. body.thread) code.bodies

-- with a thread each lower index of its client is there too
abbrev pub HasNoGap : List ThreadId → Type 0
HasNoGap threads = (client index lower : ℕ) → Contains threads (record { client = client; index = index }) →
    1 ≤ lower → lower ≤ index →
    Contains threads (record { client = client; index = lower })

-- The code is sound.
pub record IsSoundCode (code : Code) : Type 0 where
  pub few_classes : length code.shape.classes ≤ most_classes
  pub few_roots : code.shape.roots ≤ most_roots
  pub few_locks : code.shape.names ≤ most_locks
  pub few_methods : length code.methods ≤ most_methods
  pub few_texts : code.shape.texts ≤ most_texts
  pub roots_are_locks : code.shape.roots ≤ code.shape.names
  pub classes : All (IsSoundClass code.shape) code.shape.classes
  pub methods : All (IsSoundMethod code) code.methods
  pub bodies : All (IsSoundBody code) code.bodies
  pub threads_differ : AllPairs (λ thread other. thread ≢ other) (threads_of code)
  pub threads_gapless : HasNoGap (threads_of code)
