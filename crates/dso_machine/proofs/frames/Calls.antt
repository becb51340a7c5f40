-- Calls hold only what is known: the object and the variables in the method's environment, and what the caller holds all the while.
use Rattle.std.proofs.Common.{◌≡◌, refl, ℕ, ◌-◌, List, [], ◌∷◌, ◌++◌, length, Option, None, Some, subst, sym}
use Rattle.std.specs.Prelude.{nat_lt, slice_get}
use Rattle.dso_base.specs.declared.lock.Grade.{Grade}
use Rattle.dso_base.specs.declared.lock.LockName.TheVariants.{Mon, Name}
use Rattle.dso_base.specs.declared.request.Fault.TheVariants.{NoSuchField, StackOverflow}
use Rattle.dso_base.specs.declared.request.Reply.{Reply}
use Rattle.dso_base.specs.declared.request.Reply.TheVariants.{Done, Local}
use Rattle.dso_base.specs.declared.request.Request.TheVariants.{Enter}
use Rattle.dso_base.specs.declared.value.ClassId.{ClassId}
use Rattle.dso_base.specs.declared.value.Value.{Value}
use Rattle.dso_base.specs.declared.value.Value.TheVariants as value
use Rattle.dso_map.specs.Calls.{map_op}
use Rattle.dso_machine.specs.declared.code.Code.{Code}
use Rattle.dso_machine.specs.declared.code.Method.{Method}
use Rattle.dso_machine.specs.Calls.{lookup_class, back_in, callee, held_by, in_callee, under_name, under_monitor, run_method, call_method, call_number, call_in, call_on, variables, MethodMeanings}
use Rattle.dso_machine.specs.Outcome.{Environment, State, Outcome, Wants, Gives, Leaves, Fails, Hears, Over, Stopped, Meaning, looking, level_of, leave, entered, under}
use Rattle.dso_machine.specs.Unwinding.{with_replies}
use Rattle.dso_machine.proofs.protocol.Calls.{known_variables}
use Rattle.dso_machine.proofs.protocol.Parts.{refilled}
use Rattle.dso_machine.proofs.steps.Maps.{args_are}
use Rattle.dso_machine.proofs.frames.Held.{Objects, IsOne, IsOf, AreOf, front, behind, both, all_within, Within, within_both, Stands, EndsIn, HoldsOnly, Part, goes_on, part_by, part_fails, asked_with}
use Rattle.dso_machine.proofs.frames.Maps.{part_call_map}
use Rattle.dso_machine.proofs.frames.Parts.{left_end, part_choose, part_looking, part_moving, part_object, part_under_with, part_unwanted}

-- the methods' bodies hold only what is known
abbrev pub Bodies : MethodMeanings → Type 0
Bodies w = (m : ℕ) → Part [] (w m)

-- the environment of the caller at an end
back_end : (kept : List Value) (caller : Environment) → Within kept caller.outer → (k : Objects) (e : Outcome) → EndsIn k (held_by caller) e → HoldsOnly kept k (λ rs. back_in caller (refilled rs e))
back_end kept caller within k e end = by_end e end
  where
    again : (env : Environment) → Stands k (held_by caller) env → Stands k kept caller
    again env st =
        let frames : AreOf k (held_by caller) = all_within k (held_by caller) env.outer st.stays st.outer in
        record { this = frames.0; vars = front k caller.vars caller.outer frames.1; outer = behind k caller.vars caller.outer frames.1; stays = within }

    by_end : (e : Outcome) → EndsIn k (held_by caller) e → HoldsOnly kept k (λ rs. back_in caller (refilled rs e))
    by_end (Gives v u) end = HoldsOnly.ends (Gives value.Null (record u { environment = caller })) (λ rs. refl) (tt, again u.environment end.1)
    by_end (Leaves v u) end = HoldsOnly.ends (Gives v (record u { environment = caller })) (λ rs. refl) (end.0, again u.environment end.1)
    by_end (Fails fault u) end = HoldsOnly.ends (Fails fault (record u { environment = caller })) (λ rs. refl) (again u.environment end)
    by_end (Wants q env) end = absurd end
    by_end (Hears r u) end = absurd end
    by_end Over end = absurd end
    by_end Stopped end = absurd end

-- A part in the environment of a method that is called on this object holds only what is known.
record OnObject (object : ℕ) (m : Meaning) : Type 0 where
  pub from : (known : Objects) (kept : List Value) (u : State) → Stands known kept u.environment → u.environment.this ≡ value.Ref object → HoldsOnly kept known (λ rs. m (with_replies rs u))

-- so does all of the method, where the caller holds only that
part_callee : (object : ℕ) (vars : List Value) (m : Meaning) → OnObject object m → Part (value.Ref object ∷ vars) (in_callee (value.Ref object) vars m)
part_callee object vars m part = record {
  from = λ known kept u st all.
      let caller : Environment = u.environment in
      goes_on (back_in caller) (record { wants = λ q env. refl; stopped = refl; over = refl })
      (λ o e. within_both (caller.this ∷ caller.vars) caller.outer o (st.stays o e))
      (part.from known (held_by caller) (record u { environment = callee (value.Ref object) vars caller })
      (record { this = all.0; vars = all.1; outer = both known (caller.this ∷ caller.vars) caller.outer (st.this, st.vars) st.outer; stays = λ o e. e }) refl)
      (back_end kept caller st.stays);
}

-- a part whose named lock was asked for
named_entered : (object : ℕ) (l : ℕ) (grade : Grade) (m : Meaning) → OnObject object m → (r : Reply) → OnObject object (entered (Name l) grade m r)
named_entered object l grade m part Done = record {
  from = λ known kept u st is. goes_on (leave (Name l) grade) (record { wants = λ q env. refl; stopped = refl; over = refl }) (λ o e. e) (part.from known kept u st is)
      (λ k e end. left_end (Name l) grade kept k e end tt);
}
named_entered object l grade m part Local = record { from = λ known kept u st is. part.from known kept u st is }
named_entered object l grade m part r = record { from = λ known kept u st is. (part_unwanted [] r).from known kept u st tt }

-- a part under a method's named lock, if it has one
under_named : (object : ℕ) (named : Option (ℕ × Grade)) (m : Meaning) → OnObject object m → OnObject object (under_name named m)
under_named object None m part = part
under_named object (Some lock) m part = record {
  from = λ known kept u st is. asked_with known kept [] (Enter (Name lock.0) (level_of lock.1)) u (λ rs. under (Name lock.0) lock.1 m (with_replies rs u)) st tt refl
      (λ r k stands told. (named_entered object lock.0 lock.1 m part r).from k kept (record u { moves = 0 }) stands is);
}

-- a part under the object's monitor, if the method takes it
under_own : (object : ℕ) (synced : Option Grade) (m : Meaning) → Part [] m → OnObject object (under_monitor synced object m)
under_own object None m part = record { from = λ known kept u st is. part.from known kept u st tt }
under_own object (Some grade) m part = record {
  from = λ known kept u st is. (part_under_with [] (Mon object) grade m part).from known kept u st (subst (IsOf known) is st.this, tt);
}

module _ (c : Code) (w : MethodMeanings) (bodies : Bodies w) where
  -- a method of an object
  part_run : (m : ℕ) (method : Method) (object : ℕ) (args : List Value) → Part (value.Ref object ∷ args) (run_method w m method object args)
  part_run m method object args =
      part_by (value.Ref object ∷ args) (λ k all. (all.0, known_variables (λ t. Unit {0}) (IsOne k) method.vars args all.1))
      (part_callee object (variables method.vars args) _ (under_named object method.named _ (under_own object method.synced _ (part_moving (w m) (bodies m)))))

  -- a method that was found, or one of the map's
  part_method : (m object : ℕ) (args : List Value) (method : Option Method) → Part (value.Ref object ∷ args) (call_method c w m object args method)
  part_method m object args None = part_call_map object args (map_op (m - length c.methods) args)
      (λ call is k all. subst (AreOf k) (sym (args_are (m - length c.methods) args call is)) all)
  part_method m object args (Some method) = record {
    from = λ known kept u st all. (part_choose (value.Ref object ∷ args) (nat_lt 0 u.environment.depth_left) (run_method w m method object args) (Fails StackOverflow)
        (part_run m method object args) (part_fails (value.Ref object ∷ args) StackOverflow)).from known kept u st all;
  }

  -- the method of the object's class
  part_number : (object : ℕ) (args : List Value) (number : Option ℕ) → Part (value.Ref object ∷ args) (call_number c w object args number)
  part_number object args None = part_fails (value.Ref object ∷ args) NoSuchField
  part_number object args (Some m) = part_method m object args (slice_get c.methods m)

  -- a call on an object of this class
  part_call_in : (callees : List (ℕ × ℕ)) (args : List Value) (object : ℕ) (class : ClassId) (size : ℕ) → Part (args ++ value.Ref object ∷ []) (call_in c w callees args object class size)
  part_call_in callees args object class size = part_by (args ++ value.Ref object ∷ []) (λ k all. ((behind k args (value.Ref object ∷ []) all).0, front k args (value.Ref object ∷ []) all))
      (part_number object args (lookup_class callees class))

  -- a call with its operands
  pub part_call : (callees : List (ℕ × ℕ)) (x : Value) (args : List Value) → Part (x ∷ args) (call_on c w callees x args)
  part_call callees x args = part_object args (λ object. looking args (call_in c w callees args object) object)
      (λ object. part_by (value.Ref object ∷ args) (λ k all. both k args (value.Ref object ∷ []) all.1 (all.0, tt))
      (part_looking args (call_in c w callees args object) object (part_call_in callees args object))) x
