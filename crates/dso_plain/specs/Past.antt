-- What holds of pasts in every state that a run from the opening state reaches.
use Rattle.std.specs.Prelude.{ℕ, ◌<◌, ◌≡◌, false, ltb, is_some, Option, Some, None, List, [], ◌∷◌, ◌++◌, length}
use Rattle.dso_base.specs.declared.lock.ThreadId.{ThreadId}
use Rattle.dso_base.specs.declared.value.Value.{Value}
use Rattle.dso_lookup.specs.Reaching.{IsListed}
use Rattle.dso_plain.specs.State.{PlainState, IsPrivate, IsShared, HasField, size_of, is_shared}

-- the newest of a past, none where it is empty
abbrev pub newest : List Value → Option Value
newest [] = None
newest (v ∷ older) = Some v

-- Past: the newest of a shared field's past is the heap's value; an object that is not shared has no past; `seen` is
-- a place in the past, never beyond the newest; the heap has a value at exactly the fields that the object has; and
-- a thread's list of what it made has each object that is private to it.
pub record KeepsPast (s : PlainState) : Type 0 where
  pub newest_is_heap : (o f : ℕ) → IsShared o s → newest (s.past (o, f)) ≡ s.heap (o, f)
  pub none_before : (o f : ℕ) → is_shared (s.objects o) ≡ false → s.past (o, f) ≡ []
  pub seen_in_past : (t : ThreadId) (o f : ℕ) → IsShared o s → HasField o f s
      → s.seen (t, o, f) < length (s.past (o, f))
  pub unseen_before : (t : ThreadId) (o f : ℕ) → is_shared (s.objects o) ≡ false → s.seen (t, o, f) ≡ 0
  pub fields : (o f : ℕ) → is_some (s.heap (o, f)) ≡ ltb f (size_of (s.objects o))
  pub private_listed : (t : ThreadId) (o : ℕ) → IsPrivate t o s → IsListed o (s.made t)

-- Pasts only grow: a shared object of s is shared in r, and each of its fields has the past that it had, with newer
-- values before it.
pub record PastsGrow (s r : PlainState) : Type 0 where
  pub shared : (o : ℕ) → IsShared o s → IsShared o r
  pub grown : (o f : ℕ) → IsShared o s → (newer : List Value) × (r.past (o, f) ≡ newer ++ s.past (o, f))
