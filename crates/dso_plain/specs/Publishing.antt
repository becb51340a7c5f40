-- Publishing: which objects become shared, in the state and in the tables.
use Rattle.std.specs.Prelude.{ℕ, ◌≡◌, ◌↔◌, refl, Bool, true, false, ltb, is_some, Option, Some, None, []}
use Rattle.std.specs.Option.{option_map}
use Rattle.dso_base.specs.declared.lock.ThreadId.{ThreadId}
use Rattle.dso_base.specs.declared.value.Value.{Value}
use Rattle.dso_base.specs.Reach.{Reached}
use Rattle.dso_lookup.specs.Maps.{writes, written}
use Rattle.dso_lookup.specs.Reaching.{ListsEach}
use Rattle.dso_plain.specs.declared.tables.Object as table
use Rattle.dso_plain.specs.HeapTables.{object_of}
use Rattle.dso_plain.specs.State.{PlainState, is_mine, is_private_to, size_of}
use Rattle.dso_plain.specs.After.{shared, present, published, names}

-- Published: where the thread's list has each object that is private to it (as in every state that is reached), what
-- is published of a value is exactly what is found from it.
abbrev pub PublishedIsReached : Type 0
PublishedIsReached = (t : ThreadId) (v : Value) (s : PlainState) (o : ℕ) → ListsEach (is_mine t s) (s.made t)
    → (published t v s o ≡ true) ↔ Reached (is_mine t s) (names s) v o

-- The state in which the objects that the test tells are shared, each field of them with its present value as its past.
abbrev pub with_shared : (ℕ → Bool) → PlainState → PlainState
with_shared test s = record s {
  objects = written (writes test (λ key. shared (s.objects key))) s.objects;
  past = written (writes (λ key. test key.0) (λ key. present (s.heap key))) s.past;
}

-- the heap has a value at exactly the fields that the object has, and there is no past of any other field
pub record HasItsFields (o : ℕ) (s : PlainState) : Type 0 where
  pub values : (f : ℕ) → is_some (s.heap (o, f)) ≡ ltb f (size_of (s.objects o))
  pub no_other_past : (f : ℕ) → ltb f (size_of (s.objects o)) ≡ false → s.past (o, f) ≡ []

-- what the tables have as private to a thread is there
pub private_is_there : (t : ThreadId) (x : Option table.Object) → is_private_to t (option_map object_of x) ≡ true
    → is_some x ≡ true
private_is_there t None e = absurd (cc e)
private_is_there t (Some object) e = refl
