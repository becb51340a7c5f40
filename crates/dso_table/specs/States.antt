-- How objects stand with a client, which notes there are of them, and in which order they were used.
use Rattle.std.specs.Prelude.{ℕ, ◌+◌, ◌-◌, Bool, true, false, cond, not, eqb, ltb, max, is_some, Option, Some, None}
use Rattle.std.specs.Prelude.{take, filter, List, [], ◌∷◌}
use Rattle.std.specs.BTreeMap.{is_at}
use Rattle.std.specs.Option.{option_map}
use Rattle.std.specs.Ordering.{nat_cmp}
use Rattle.dso_base.specs.declared.lock.ThreadId.{ThreadId}
use Rattle.dso_base.specs.declared.record.Body.{Body}
use Rattle.dso_base.specs.declared.record.Set.{Set}
use Rattle.dso_base.specs.declared.value.Value.{Value}
use Rattle.dso_change.specs.Hands.{with_field}
use Rattle.dso_lookup.specs.Maps.{writes, written}
use Rattle.dso_lookup.specs.Orders.{thread_order}
use Rattle.dso_lookup.specs.Rows.{is_at_pair}
use Rattle.dso_table.specs.declared.slot.ObjectStanding.{ObjectStanding}
use Rattle.dso_table.specs.declared.slot.ObjectStanding.TheVariants.{Asked, Resident}

-- What a client keeps of objects. By object: how it stands, None where it is absent, and the number of the last own
-- record that changed it and is not acknowledged. By thread and object: whether the thread's open block puts to it, and
-- whether the thread wants it. The objects used last, the last one first, no more than the limit. How many objects are
-- resident. The greatest number acknowledged.
pub record State : Type 0 where
  pub standing : ℕ → Option ObjectStanding
  pub marks : ℕ → Option ℕ
  pub opened : ThreadId × ℕ → Bool
  pub wanted : ThreadId × ℕ → Bool
  pub used : List ℕ
  pub residents : ℕ
  pub acked : ℕ
  pub limit : ℕ

-- the client's copy, if there is one
abbrev pub copy_of : ObjectStanding → Option Body
copy_of Asked = None
copy_of (Resident body) = Some body

-- the copy of an object that may be absent
abbrev pub body_of : Option ObjectStanding → Option Body
body_of None = None
body_of (Some standing) = copy_of standing

-- there is a copy
abbrev pub is_resident : Option ObjectStanding → Bool
is_resident standing = is_some (body_of standing)

-- the object is neither resident nor asked for
abbrev pub is_absent : Option ObjectStanding → Bool
is_absent standing = not (is_some standing)

-- the object was asked for, and didn't come yet
abbrev pub is_asked : Option ObjectStanding → Bool
is_asked (Some Asked) = true
is_asked standing = false

-- the list without the object
abbrev pub without : ℕ → List ℕ → List ℕ
without o objects = filter (λ p. not (eqb p o)) objects

-- the function with another value at the object
abbrev pub with_at : {V : Type 0} → ℕ → V → (ℕ → V) → ℕ → V
with_at o new old = written (writes (is_at (nat_cmp o)) (λ _. new)) old

-- the notes with one more
abbrev pub with_note : ThreadId → ℕ → (ThreadId × ℕ → Bool) → ThreadId × ℕ → Bool
with_note t o notes = written (writes (is_at_pair thread_order nat_cmp t o) (λ _. true)) notes

-- the notes without those of the thread
abbrev pub without_thread : ThreadId → (ThreadId × ℕ → Bool) → ThreadId × ℕ → Bool
without_thread t notes = written (writes (λ key. is_at (thread_order t) key.0) (λ _. false)) notes

-- the mark, unless its number is at most this one
abbrev pub later_than : ℕ → Option ℕ → Option ℕ
later_than seq None = None
later_than seq (Some n) = cond (ltb seq n) (Some n) None

-- The marks where an own record of this number, if any, changed the object. One that was acknowledged leaves no mark.
abbrev pub marked : ℕ → Option ℕ → State → ℕ → Option ℕ
marked o None s = s.marks
marked o (Some n) s = with_at o (later_than s.acked (Some n)) s.marks

-- an object with this value in the field of its copy
abbrev pub with_value : ℕ → Value → ObjectStanding → ObjectStanding
with_value f v Asked = Asked
with_value f v (Resident body) = Resident (with_field f v body)

-- nothing is known; so many objects are to be resident
abbrev pub nothing_known : ℕ → State
nothing_known limit = record {
  standing = λ _. None;
  marks = λ _. None;
  opened = λ _. false;
  wanted = λ _. false;
  used = [];
  residents = 0;
  acked = 0;
  limit = limit;
}

-- the thread asked for the object
abbrev pub asked : ℕ → ThreadId → State → State
asked o t s = record s { standing = with_at o (Some Asked) s.standing; wanted = with_note t o s.wanted }

-- the object came, or was published
abbrev pub put : Body → Option ℕ → State → State
put body changed s = record s {
  standing = with_at body.object (Some (Resident body)) s.standing;
  marks = marked body.object changed s;
  residents = s.residents + cond (is_resident (s.standing body.object)) 0 1;
}

-- a field of the object's copy was set
abbrev pub set : Set → Option ℕ → State → State
set change changed s = record s {
  standing =
      let o = change.object in
      with_at o (option_map (with_value change.field change.value) (s.standing o)) s.standing;
  marks = marked change.object changed s;
}

-- the thread acted: it wants nothing
abbrev pub acted : ThreadId → State → State
acted t s = record s { wanted = without_thread t s.wanted }

-- the records up to this number are acknowledged
abbrev pub acknowledged : ℕ → State → State
acknowledged seq s = record s { marks = λ o. later_than seq (s.marks o); acked = max seq s.acked }

-- the thread's open block puts to the object
abbrev pub opened : ℕ → ThreadId → State → State
opened o t s = record s { opened = with_note t o s.opened }

-- the thread's block is closed
abbrev pub closed : ThreadId → State → State
closed t s = record s { opened = without_thread t s.opened }

-- The object was used, if it is resident: it is the first of those used last, of which no more than the limit stay.
abbrev pub used : ℕ → State → State
used o s = cond (is_resident (s.standing o)) (record s { used = take s.limit (o ∷ without o s.used) }) s

-- the object is flushed
abbrev pub flushed : ℕ → State → State
flushed o s = record s {
  standing = with_at o None s.standing;
  used = without o s.used;
  residents = s.residents - 1;
}
