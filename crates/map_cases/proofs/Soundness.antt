-- The code of a thread that makes one call of a map is sound.
use Rattle.std.proofs.Common.{◌≡◌, ◌≢◌, ◌∙◌, refl, sym, subst, ap, ap₂, arith, ℕ, ℤ, Bool, true, zero, suc, ◌+◌, ◌*◌, ◌≤◌, ◌<◌, inr, All, AllPairs, Contains, List, [], ◌∷◌, ◌++◌, length, None, Some}
use Rattle.std.specs.Prelude.{slice_index_or}
use Rattle.std.proofs.lemmas.List.Elements.{All-nil, All-cons, All-head, All-tail, All-push}
use Rattle.dso_base.specs.declared.shape.FieldShape.{FieldShape}
use Rattle.dso_base.specs.declared.value.Kind.TheVariants as kind
use Rattle.dso_base.specs.declared.value.Value.{Value}
use Rattle.dso_base.specs.declared.value.Value.TheVariants as value
use Rattle.dso_map.specs.Fields.{slots}
use Rattle.dso_map.specs.MapClass.{own_field, slot_fields, map_fields, is_map}
use Rattle.dso_machine.specs.declared.code.Code.{Code}
use Rattle.dso_machine.specs.declared.tree.Expr.{Expr}
use Rattle.dso_machine.specs.declared.tree.Expr.TheVariants as x
use Rattle.dso_machine.specs.Next.{body_of}
use Rattle.dso_machine.specs.declared.code.ThreadBody.{ThreadBody}
use Rattle.dso_machine.specs.declared.tree.Stmt.TheVariants as s
use Rattle.dso_base.specs.declared.lock.ThreadId.{ThreadId}
use Rattle.dso_machine.specs.Sound.{Scope, AreCallees, IsCallee, IsMapCallee, IsGuard, IsLiteral, IsSoundClass, IsSoundMethod, IsSoundBody, IsSoundCode, HasNoGap, SoundExpr, SoundExprs, SoundStmt, SoundBlock}
use Rattle.map_cases.specs.CallCode.{call_shape, call_code, IsPart, AreMethods}

-- ---- the class of maps

-- the fields of one slot more
pub slot_more : (n : ℕ) → ((slot_fields n ++ own_field kind.Bool ∷ []) ++ own_field kind.Long ∷ []) ++ own_field kind.Ref ∷ [] ≡ slot_fields (suc n)
slot_more zero = refl
slot_more (suc n) = ap (λ fields. own_field kind.Bool ∷ own_field kind.Long ∷ own_field kind.Ref ∷ fields) (slot_more n)

-- behind those of all slots comes the size
pub all_made : (fields : List FieldShape) → fields ≡ slot_fields 256 → fields ++ own_field kind.Long ∷ [] ≡ map_fields
unfolding slots
all_made fields is = ap (λ made. made ++ own_field kind.Long ∷ []) is

pub ruleset fields = (slot_more, all_made)

-- how many there are
fields_long : (n : ℕ) (last : FieldShape) → length (slot_fields n ++ last ∷ []) ≡ 3 * n + 1
fields_long zero last = refl
fields_long (suc n) last = ap (λ long. suc (suc (suc long))) (fields_long n last) ∙ omega arith

all_long : 3 * slots + 1 ≡ 769
unfolding slots
all_long = refl

-- the map's own monitor guards each
abbrev IsGuarded : FieldShape → Type 0
IsGuarded field = IsGuard call_shape field.guard

own_guards : (n : ℕ) → All IsGuarded (slot_fields n ++ own_field kind.Long ∷ [])
own_guards zero = All-cons IsGuarded (own_field kind.Long) [] tt (All-nil IsGuarded)
own_guards (suc n) =
    let rest = slot_fields n ++ own_field kind.Long ∷ [] in
    All-cons IsGuarded (own_field kind.Bool) (own_field kind.Long ∷ own_field kind.Ref ∷ rest) tt
    (All-cons IsGuarded (own_field kind.Long) (own_field kind.Ref ∷ rest) tt (All-cons IsGuarded (own_field kind.Ref) rest tt (own_guards n)))

maps_sound : IsSoundClass call_shape (record { fields = map_fields })
maps_sound = record {
  few_fields = let long : length map_fields ≡ 769 = fields_long slots (own_field kind.Long) ∙ all_long in omega (arith, long);
  as_map = λ same. refl;
  guards = own_guards slots;
}

objects_sound : IsSoundClass call_shape (record { fields = [] })
objects_sound = record { few_fields = omega arith; as_map = λ same. absurd (cc same); guards = All-nil IsGuarded }

-- ---- parts of a call

object_part : (class : ℕ) → class < 2 → IsPart (x.NewObject class)
object_part class there scope is = SoundExpr.object (subst (λ shape. class < length shape.classes) (sym is) there)

literal_part : (v : Value) → IsLiteral call_shape v → IsPart (x.Const v)
literal_part v literal scope is = SoundExpr.constant (subst (λ shape. IsLiteral shape v) (sym is) literal)

-- a new object of either class
pub object_made : IsPart (x.NewObject 0)
object_made = object_part 0 (omega arith)

pub map_made : IsPart (x.NewObject 1)
map_made = object_part 1 (omega arith)

-- null, a number, a truth, the text
pub null_part : IsPart (x.Const value.Null)
null_part = literal_part value.Null tt

pub long_part : (n : ℤ) → IsPart (x.Const (value.Long n))
long_part n = literal_part (value.Long n) tt

pub bool_part : (b : Bool) → IsPart (x.Const (value.Bool b))
bool_part b = literal_part (value.Bool b) tt

pub text_part : IsPart (x.Const (value.Text 0))
text_part = literal_part (value.Text 0) (omega arith)

pub ruleset parts = (object_made, map_made, null_part, long_part, bool_part, text_part)

-- one part more
pub part_pushed : (parts : List Expr) (part : Expr) → All IsPart parts → IsPart part → All IsPart (parts ++ part ∷ [])
part_pushed parts part all one = All-push IsPart parts part all one

-- ---- the thread

abbrev thread_of : ℕ → ℕ → ThreadId
thread_of client index = record { client = client; index = index }

-- one thread has no gap
no_gap : HasNoGap (thread_of 1 1 ∷ [])
no_gap client index lower there least most = at there.0 there.1 there.2
  where
    at : (k : ℕ) → k < 1 → slice_index_or (thread_of 1 1 ∷ []) k (thread_of client index) ≡ thread_of client index → Contains (thread_of 1 1 ∷ []) (thread_of client lower)
    at (suc k) below is = absurd (omega (arith, below))
    at zero below is =
        let last : 1 ≡ index = ap (λ (thread : ThreadId). thread.index) is in
        let first : 1 ≡ client = ap (λ (thread : ThreadId). thread.client) is in
        let low : 1 ≡ lower = omega (arith, last, least, most) in
        (0, omega arith, ap₂ thread_of first low)

-- ---- the call

-- the body of the thread
abbrev body_with : Expr → List (ℕ × ℕ) → List Expr → ThreadBody
body_with map callees args = record { thread = thread_of 1 1; vars = 0; body = s.Print (x.Call map callees args) ∷ [] }

module _ (map : Expr) (callees : List (ℕ × ℕ)) (args : List Expr) where
  -- each argument is sound
  args_sound : (scope : Scope) → scope.code.shape ≡ call_shape → (args : List Expr) → All IsPart args → SoundExprs scope args
  args_sound scope is [] parts = SoundExprs.none
  args_sound scope is (a ∷ rest) parts = SoundExprs.more (All-head IsPart a rest parts scope is) (args_sound scope is rest (All-tail IsPart a rest parts))

  -- so is the method that is called
  callees_sound : (count : ℕ) (found : List (ℕ × ℕ)) → AreMethods count found → AreCallees (call_code map callees args) count found
  callees_sound count [] are = record { there = All-nil (IsCallee (call_code map callees args) count); differ = λ i j d less below. absurd (omega (arith, below)) }
  callees_sound count (callee ∷ []) are = record {
    there = All-cons (IsCallee (call_code map callees args) count) callee [] (inr of_a_map) (All-nil (IsCallee (call_code map callees args) count));
    differ = λ i j d less below. absurd (omega (arith, less, below));
  }
    where
      of_maps : is_map call_shape callee.0 ≡ true
      of_maps = subst (λ class. is_map call_shape class ≡ true) (sym are.0) (rw (fields_long slots (own_field kind.Long) ∙ all_long) refl)

      of_a_map : IsMapCallee (call_code map callees args) count callee
      of_a_map = record { class = of_maps; place = callee.1; number = omega arith; params = are.1 }
  callees_sound count (callee ∷ other ∷ rest) are = absurd are

  sound_call : IsPart map → All IsPart args → AreMethods (length args) callees → IsSoundCode (call_code map callees args)
  sound_call part parts are = record {
    few_classes = omega arith;
    few_roots = omega arith;
    few_locks = omega arith;
    few_methods = omega arith;
    few_texts = omega arith;
    roots_are_locks = omega arith;
    classes = All-cons (IsSoundClass call_shape) (record { fields = [] }) (record { fields = map_fields } ∷ []) objects_sound
        (All-cons (IsSoundClass call_shape) (record { fields = map_fields }) [] maps_sound (All-nil (IsSoundClass call_shape)));
    methods = All-nil (IsSoundMethod (call_code map callees args));
    bodies = All-cons (IsSoundBody (call_code map callees args)) (body_with map callees args) [] (record {
      client_from_one = omega arith;
      client_to_last = omega arith;
      index_from_one = omega arith;
      index_to_last = omega arith;
      few_vars = omega arith;
      statements = SoundBlock.next (SoundStmt.print (SoundExpr.call (part _ refl) (callees_sound (length args) callees are) (args_sound _ refl args parts))) SoundBlock.done;
    }) (All-nil (IsSoundBody (call_code map callees args)));
    threads_differ = λ i j d less below. absurd (omega (arith, less, below));
    threads_gapless = no_gap;
  }

-- the code that was made of these parts is sound, with so many arguments
pub sound_made : (map : Expr) (callees : List (ℕ × ℕ)) (args : List Expr) (count : ℕ) (code : Code) → code ≡ call_code map callees args → IsPart map → All IsPart args → length args ≡ count
    → AreMethods count callees → IsSoundCode code
sound_made map callees args count code is part parts long are =
    subst IsSoundCode (sym is) (sound_call map callees args part parts (subst (λ count. AreMethods count callees) (sym long) are))

-- and its thread is there
pub there_made : (map : Expr) (callees : List (ℕ × ℕ)) (args : List Expr) (code : Code) → code ≡ call_code map callees args → body_of (record { client = 1; index = 1 }) code.bodies ≢ None
there_made map callees args code is none = absurd (cc (sym (ap (λ code. body_of (record { client = 1; index = 1 }) code.bodies) is) ∙ none))

pub ruleset made = (sound_made, there_made)
