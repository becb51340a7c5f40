-- A client's copy of a field, as its messages come and go and the one heap goes on.
use Rattle.std.specs.List.{list_any, AllByRecursion}
use Rattle.std.proofs.Common.{ℕ, ◌≡◌, ◌≢◌, refl, sym, ◌∙◌, ap, subst, Bool, true, false, cond, eqb, ◌&&◌, ◌||◌, Option, Some, None, List, [], ◌∷◌, ◌++◌, slice_get}
use Rattle.dso_base.specs.declared.lock.LockName.{LockName}
use Rattle.dso_base.specs.declared.message.Down.{Down}
use Rattle.dso_base.specs.declared.message.Down.TheVariants as down
use Rattle.dso_base.specs.declared.record.Set.{Set}
use Rattle.dso_base.specs.declared.value.Value.{Value}
use Rattle.dso_plain.specs.KeyTests.{is_lock}
use Rattle.dso_plain.specs.State.{PlainState}
use Rattle.dso_law.specs.declared.readings.LockStanding.{LockStanding}
use Rattle.dso_law.specs.Leases.{standing_down}
use Rattle.dso_law.specs.Copies.{resident_by_taken, value_by_taken, value_by_sets, is_set_of}
use Rattle.dso_legal.specs.Agreement.{after, EachMay}
use Rattle.dso_legal.specs.CopiesStand.{sets_field, brings, speaks_of, IsPastValue, FieldCopy, field_by_taken, IsPastCopy, MayTake, FieldStands}
use Rattle.dso_legal.specs.Residency.{is_set}
use Rattle.dso_legal.proofs.channels.Agreement.{after_append, may_append}
use Rattle.dso_legal.proofs.leases.ClientLeases.{neither}
use Rattle.dso_legal.proofs.records.Numbered.{same_either}
use Rattle.dso_legal.proofs.channels.Simulation.{each_implies}

-- sets of which none is of the field leave its value
pub sets_other : (o f : ℕ) (sets : List Set) (value : Option Value) → list_any (is_set_of o f) sets ≡ false → value_by_sets o f sets value ≡ value
sets_other o f [] value none = refl
sets_other o f (set ∷ sets) value none =
    let no : (is_set_of o f set ≡ false) × (list_any (is_set_of o f) sets ≡ false) = neither (is_set_of o f set) (list_any (is_set_of o f) sets) none in
    ap (λ b. value_by_sets o f sets (cond b (Some set.value) value)) no.0 ∙ sets_other o f sets value no.1

-- a message that neither sets the field nor brings the object leaves its value
pub value_other : (o f : ℕ) (m : Down) (value : Option Value) → sets_field o f m ≡ false → brings o m ≡ false → value_by_taken o f m value ≡ value
value_other o f (down.Ids first) value unset absent = refl
value_other o f (down.Object body) value unset absent = ap (λ b. cond b (slice_get body.values f) value) absent
value_other o f (down.Grant l level) value unset absent = refl
value_other o f (down.Recall l) value unset absent = refl
value_other o f (down.Ack seq) value unset absent = refl
value_other o f (down.Changes sets) value unset absent = sets_other o f sets value unset
value_other o f (down.Wake l t) value unset absent = refl

-- and one that doesn't bring the object leaves whether it is resident
pub resident_other : (o : ℕ) (m : Down) (resident : Bool) → brings o m ≡ false → resident_by_taken o m resident ≡ resident
resident_other o (down.Ids first) resident absent = refl
resident_other o (down.Object body) resident absent = ap (λ b. cond b true resident) absent
resident_other o (down.Grant l level) resident absent = refl
resident_other o (down.Recall l) resident absent = refl
resident_other o (down.Ack seq) resident absent = refl
resident_other o (down.Changes sets) resident absent = refl
resident_other o (down.Wake l t) resident absent = refl

-- what is resident stays so in flight
pub stays_resident : (o : ℕ) (m : Down) (resident : Bool) → resident ≡ true → resident_by_taken o m resident ≡ true
stays_resident o (down.Ids first) resident is = is
stays_resident o (down.Object body) resident is = ap (λ b. cond (eqb body.object o) true b) is ∙ same_either (eqb body.object o) true
stays_resident o (down.Grant l level) resident is = is
stays_resident o (down.Recall l) resident is = is
stays_resident o (down.Ack seq) resident is = is
stays_resident o (down.Changes sets) resident is = is
stays_resident o (down.Wake l t) resident is = is

-- a lease stays in flight
pub stays_leased : (l : LockName) (m : Down) (guard : LockStanding) → guard.lease ≢ None → (standing_down l m guard).lease ≢ None
stays_leased l (down.Ids first) guard is = is
stays_leased l (down.Object body) guard is = is
stays_leased l (down.Grant k level) guard is = by (is_lock l k)
  where
    by : (b : Bool) → (cond b (record { lease = Some level; is_asked = false }) guard).lease ≢ None
    by true = λ e. cc e
    by false = is
stays_leased l (down.Recall k) guard is = is
stays_leased l (down.Ack seq) guard is = is
stays_leased l (down.Changes sets) guard is = is
stays_leased l (down.Wake k t) guard is = is

-- nothing is both
pub apart : {b : Bool} → b ≡ true → b ≡ false → ⊥
apart is isnt = false_true (sym isnt ∙ is)
  where
    false_true : false ≡ true → ⊥
    false_true e = cc e

-- a message that doesn't speak of the object doesn't bring it
pub silent_absent : (o : ℕ) (m : Down) → speaks_of o m ≡ false → brings o m ≡ false
silent_absent o (down.Ids first) silent = refl
silent_absent o (down.Object body) silent = silent
silent_absent o (down.Grant k level) silent = refl
silent_absent o (down.Recall k) silent = refl
silent_absent o (down.Ack seq) silent = refl
silent_absent o (down.Changes sets) silent = refl
silent_absent o (down.Wake k t) silent = refl

-- and sets no field of it
pub no_set_of : (o f : ℕ) (sets : List Set) → is_set o sets ≡ false → list_any (is_set_of o f) sets ≡ false
no_set_of o f [] none = refl
no_set_of o f (set ∷ sets) none =
    let no : (eqb set.object o ≡ false) × (is_set o sets ≡ false) = neither (eqb set.object o) (is_set o sets) none in
    ap (λ b. (b && eqb set.field f) || list_any (is_set_of o f) sets) no.0 ∙ no_set_of o f sets no.1

pub silent_unset : (o f : ℕ) (m : Down) → speaks_of o m ≡ false → sets_field o f m ≡ false
silent_unset o f (down.Ids first) silent = refl
silent_unset o f (down.Object body) silent = refl
silent_unset o f (down.Grant k level) silent = refl
silent_unset o f (down.Recall k) silent = refl
silent_unset o f (down.Ack seq) silent = refl
silent_unset o f (down.Changes sets) silent = no_set_of o f sets silent
silent_unset o f (down.Wake k t) silent = refl

-- where one is resident only where another is, so it is after a message
pub less_resident : (o : ℕ) (m : Down) (resident less : Bool) → (less ≡ true → resident ≡ true) → resident_by_taken o m less ≡ true → resident_by_taken o m resident ≡ true
less_resident o (down.Ids first) resident less h = h
less_resident o (down.Object body) resident less h = by (eqb body.object o)
  where
    by : (b : Bool) → cond b true less ≡ true → cond b true resident ≡ true
    by true e = refl
    by false e = h e
less_resident o (down.Grant l level) resident less h = h
less_resident o (down.Recall l) resident less h = h
less_resident o (down.Ack seq) resident less h = h
less_resident o (down.Changes sets) resident less h = h
less_resident o (down.Wake l t) resident less h = h

-- where there is a lease after a message only if there was one in the other reading, so it is after the message
pub less_leased : (l : LockName) (m : Down) (guard less : LockStanding) → (less.lease ≢ None → guard.lease ≢ None) → (standing_down l m less).lease ≢ None → (standing_down l m guard).lease ≢ None
less_leased l (down.Ids first) guard less h = h
less_leased l (down.Object body) guard less h = h
less_leased l (down.Grant k level) guard less h = by (is_lock l k)
  where
    by : (b : Bool) → (cond b (record { lease = Some level; is_asked = false }) less).lease ≢ None → (cond b (record { lease = Some level; is_asked = false }) guard).lease ≢ None
    by true e = e
    by false e = h e
less_leased l (down.Recall k) guard less h = h
less_leased l (down.Ack seq) guard less h = h
less_leased l (down.Changes sets) guard less h = h
less_leased l (down.Wake k t) guard less h = h

module _ (l : LockName) (c o f : ℕ) where
  -- a copy now is a past value
  pub now_stands : (s : PlainState) (ms : List Down) (copy : FieldCopy) → FieldStands l c o f s ms copy → IsPastCopy c o f s copy
  now_stands s [] copy h = h.past
  now_stands s (m ∷ ms) copy h = h.along.0.past

  -- the client takes the first message
  pub field_taken : (s : PlainState) (m : Down) (ms : List Down) (copy : FieldCopy) → FieldStands l c o f s (m ∷ ms) copy → FieldStands l c o f s ms (field_by_taken l o f m copy)
  field_taken s m ms copy h = record { along = h.along.1; past = h.past; meets = h.meets }

  -- a message that may come stands in front of those in flight
  comes_first : (s : PlainState) (m : Down) (ms : List Down) (copy : FieldCopy) → MayTake c o f s m copy → FieldStands l c o f s ms (field_by_taken l o f m copy) → FieldStands l c o f s (m ∷ ms) copy
  comes_first s m ms copy now h = record { along = (now, h.along); past = h.past; meets = h.meets }

  -- Settled: where the guard is leased, the copy of a resident object is the heap's value.
  abbrev pub IsSettled : PlainState → FieldCopy → Type 0
  IsSettled s copy = copy.guard.lease ≢ None → copy.resident ≡ true → copy.value ≡ s.heap (o, f)

  -- each copy that stands is settled
  pub settled : (s : PlainState) (ms : List Down) (copy : FieldCopy) → FieldStands l c o f s ms copy → IsSettled s copy
  settled s [] copy h leased is = h.meets is
  settled s (m ∷ ms) copy h leased is =
      sym (value_other o f m copy.value (h.along.0.unchanged leased) (h.along.0.absent is))
      ∙ settled s ms (field_by_taken l o f m copy) (field_taken s m ms copy h) (stays_leased l m copy.guard leased) (stays_resident o m copy.resident is)

  -- the state goes on to another, and the past values of the field stay so for the client
  abbrev pub PastGoesOn : PlainState → PlainState → Type 0
  PastGoesOn s r = (v : Value) → IsPastValue c o f s v → IsPastValue c o f r v

  -- what may come may still come
  pub may_still : (s r : PlainState) → PastGoesOn s r → (m : Down) (copy : FieldCopy) → MayTake c o f s m copy → MayTake c o f r m copy
  may_still s r on m copy h = record { past = λ is v e. on v (h.past is v e); unchanged = h.unchanged; absent = h.absent }

  -- what more messages do behind those in flight: they may come, and behind them the copy is a past value and the heap's
  pub record ComesBehind (s : PlainState) (more : List Down) (copy : FieldCopy) : Type 0 where
    pub along : EachMay (MayTake c o f s) (field_by_taken l o f) more copy
    pub past : IsPastCopy c o f s (after (field_by_taken l o f) more copy)
    pub meets : (after (field_by_taken l o f) more copy).resident ≡ true → (after (field_by_taken l o f) more copy).value ≡ s.heap (o, f)

  -- The state goes on, and more messages stand behind those in flight.
  pub field_goes_on : (s r : PlainState) (ms more : List Down) (copy : FieldCopy) → PastGoesOn s r → FieldStands l c o f s ms copy
      → ComesBehind r more (after (field_by_taken l o f) ms copy) → FieldStands l c o f r (ms ++ more) copy
  field_goes_on s r ms more copy on h b = record {
    along = may_append (MayTake c o f r) (field_by_taken l o f) ms more copy (each_implies (MayTake c o f s) (MayTake c o f r) (field_by_taken l o f) (may_still s r on) ms copy h.along) b.along;
    past = subst (IsPastCopy c o f r) (sym (after_append (field_by_taken l o f) ms more copy)) b.past;
    meets = subst (λ (z : FieldCopy). z.resident ≡ true → z.value ≡ r.heap (o, f)) (sym (after_append (field_by_taken l o f) ms more copy)) b.meets;
  }

  -- The state goes on, and the field's value stays.
  pub field_stays : (s r : PlainState) (ms : List Down) (copy : FieldCopy) → PastGoesOn s r → r.heap (o, f) ≡ s.heap (o, f) → FieldStands l c o f s ms copy → FieldStands l c o f r ms copy
  field_stays s r ms copy on same h = record {
    along = each_implies (MayTake c o f s) (MayTake c o f r) (field_by_taken l o f) (may_still s r on) ms copy h.along;
    past = λ is v e. on v (h.past is v e);
    meets = λ is. h.meets is ∙ sym same;
  }

  -- the heap's value is a past value
  abbrev pub IsNewest : PlainState → Type 0
  IsNewest r = (v : Value) → r.heap (o, f) ≡ Some v → IsPastValue c o f r v

  -- The state goes on and the field's value stays; its guard is leased now, so each copy in flight is the heap's value.
  pub field_leased : (s r : PlainState) (ms : List Down) (copy : FieldCopy) → copy.guard.lease ≢ None → IsNewest r → r.heap (o, f) ≡ s.heap (o, f) → FieldStands l c o f s ms copy → FieldStands l c o f r ms copy
  field_leased s r [] copy leased newest same h = record {
    along = tt;
    past = λ is v e. newest v (same ∙ (sym (h.meets is) ∙ e));
    meets = λ is. h.meets is ∙ sym same;
  }
  field_leased s r (m ∷ ms) copy leased newest same h = comes_first r m ms copy now (field_leased s r ms (field_by_taken l o f m copy) (stays_leased l m copy.guard leased) newest same (field_taken s m ms copy h))
    where
      now : MayTake c o f r m copy
      now = record {
        past = λ is v e. newest v (same ∙ (sym (settled s (m ∷ ms) copy h leased is) ∙ e));
        unchanged = h.along.0.unchanged;
        absent = h.along.0.absent;
      }

  -- the copy with another value
  abbrev pub with_value : Option Value → FieldCopy → FieldCopy
  with_value x copy = record { resident = copy.resident; value = x; guard = copy.guard }

  -- The client sets a field of a resident object under its guard: nothing in flight changes it.
  pub field_set : (s r : PlainState) (x : Option Value) (ms : List Down) (copy : FieldCopy) → copy.resident ≡ true → copy.guard.lease ≢ None → IsNewest r → x ≡ r.heap (o, f) → FieldStands l c o f s ms copy
      → FieldStands l c o f r ms (with_value x copy)
  field_set s r x [] copy here leased newest is h = record { along = tt; past = λ _ v e. newest v (sym is ∙ e); meets = λ _. is }
  field_set s r x (m ∷ ms) copy here leased newest is h = comes_first r m ms (with_value x copy) now
      (rest (field_set s r x ms (field_by_taken l o f m copy) (stays_resident o m copy.resident here) (stays_leased l m copy.guard leased) newest is (field_taken s m ms copy h)))
    where
      unset : value_by_taken o f m x ≡ x
      unset = value_other o f m x (h.along.0.unchanged leased) (h.along.0.absent here)

      rest : FieldStands l c o f r ms (with_value x (field_by_taken l o f m copy)) → FieldStands l c o f r ms (field_by_taken l o f m (with_value x copy))
      rest = subst (λ (y : Option Value). FieldStands l c o f r ms (with_value y (field_by_taken l o f m copy))) (sym unset)

      now : MayTake c o f r m (with_value x copy)
      now = record { past = λ _ v e. newest v (sym is ∙ e); unchanged = h.along.0.unchanged; absent = h.along.0.absent }

  -- The client publishes an object of which nothing in flight speaks.
  pub field_fresh : (r : PlainState) (ms : List Down) (copy : FieldCopy) → IsNewest r → copy.value ≡ r.heap (o, f) → AllByRecursion (λ m. speaks_of o m ≡ false) ms → FieldStands l c o f r ms copy
  field_fresh r [] copy newest is silent = record { along = tt; past = λ _ v e. newest v (sym is ∙ e); meets = λ _. is }
  field_fresh r (m ∷ ms) copy newest is silent = comes_first r m ms copy now (field_fresh r ms (field_by_taken l o f m copy) newest (value_other o f m copy.value unset absent ∙ is) silent.1)
    where
      unset : sets_field o f m ≡ false
      unset = silent_unset o f m silent.0

      absent : brings o m ≡ false
      absent = silent_absent o m silent.0

      now : MayTake c o f r m copy
      now = record { past = λ _ v e. newest v (sym is ∙ e); unchanged = λ _. unset; absent = λ _. absent }

  -- the second copy has the first one's value, and is resident and leased only where the first is
  pub record IsLess (copy less : FieldCopy) : Type 0 where
    pub resident : less.resident ≡ true → copy.resident ≡ true
    pub value : less.value ≡ copy.value
    pub leased : less.guard.lease ≢ None → copy.guard.lease ≢ None

  -- a message keeps it so
  less_taken : (m : Down) (copy less : FieldCopy) → IsLess copy less → IsLess (field_by_taken l o f m copy) (field_by_taken l o f m less)
  less_taken m copy less h = record {
    resident = less_resident o m copy.resident less.resident h.resident;
    value = ap (value_by_taken o f m) h.value;
    leased = less_leased l m copy.guard less.guard h.leased;
  }

  -- The client flushes the object, gives the lease of the guard back, or asks for it.
  pub field_less : (s : PlainState) (ms : List Down) (copy less : FieldCopy) → IsLess copy less → FieldStands l c o f s ms copy → FieldStands l c o f s ms less
  field_less s [] copy less is h = record {
    along = tt;
    past = λ here v e. h.past (is.resident here) v (sym is.value ∙ e);
    meets = λ here. is.value ∙ h.meets (is.resident here);
  }
  field_less s (m ∷ ms) copy less is h = comes_first s m ms less now (field_less s ms (field_by_taken l o f m copy) (field_by_taken l o f m less) (less_taken m copy less is) (field_taken s m ms copy h))
    where
      now : MayTake c o f s m less
      now = record {
        past = λ here v e. h.along.0.past (is.resident here) v (sym is.value ∙ e);
        unchanged = λ leased. h.along.0.unchanged (is.leased leased);
        absent = λ here. h.along.0.absent (is.resident here);
      }

  -- An object that isn't resident, and of which nothing in flight speaks.
  pub field_absent : (s : PlainState) (ms : List Down) (copy : FieldCopy) → copy.resident ≡ false → AllByRecursion (λ m. speaks_of o m ≡ false) ms → FieldStands l c o f s ms copy
  field_absent s [] copy away silent = record { along = tt; past = λ here. absurd (apart here away); meets = λ here. absurd (apart here away) }
  field_absent s (m ∷ ms) copy away silent = comes_first s m ms copy now (field_absent s ms (field_by_taken l o f m copy) (resident_other o m copy.resident (silent_absent o m silent.0) ∙ away) silent.1)
    where
      now : MayTake c o f s m copy
      now = record { past = λ here. absurd (apart here away); unchanged = λ _. silent_unset o f m silent.0; absent = λ _. silent_absent o m silent.0 }

  -- Messages that don't speak of the object stand behind those in flight.
  pub silent_field : (s : PlainState) (more : List Down) (copy : FieldCopy) → IsPastCopy c o f s copy → (copy.resident ≡ true → copy.value ≡ s.heap (o, f)) → AllByRecursion (λ m. speaks_of o m ≡ false) more → ComesBehind s more copy
  silent_field s [] copy past meets silent = record { along = tt; past = past; meets = meets }
  silent_field s (m ∷ more) copy past meets silent = behind_first (silent_field s more (field_by_taken l o f m copy) past_on meets_on silent.1)
    where
      unset : sets_field o f m ≡ false
      unset = silent_unset o f m silent.0

      absent : brings o m ≡ false
      absent = silent_absent o m silent.0

      still_here : resident_by_taken o m copy.resident ≡ true → copy.resident ≡ true
      still_here here = sym (resident_other o m copy.resident absent) ∙ here

      past_on : IsPastCopy c o f s (field_by_taken l o f m copy)
      past_on here v e = past (still_here here) v (sym (value_other o f m copy.value unset absent) ∙ e)

      meets_on : resident_by_taken o m copy.resident ≡ true → value_by_taken o f m copy.value ≡ s.heap (o, f)
      meets_on here = value_other o f m copy.value unset absent ∙ meets (still_here here)

      behind_first : ComesBehind s more (field_by_taken l o f m copy) → ComesBehind s (m ∷ more) copy
      behind_first b = record { along = (record { past = past; unchanged = λ _. unset; absent = λ _. absent }, b.along); past = b.past; meets = b.meets }
