-- What publishing makes shared is exactly what is found from the value.
use Rattle.std.proofs.Common.{ℕ, ◌≡◌, ◌↔◌, true}
use Rattle.dso_base.specs.declared.lock.ThreadId.{ThreadId}
use Rattle.dso_base.specs.declared.value.Value.{Value}
use Rattle.dso_base.specs.Reach.{Reached}
use Rattle.dso_lookup.specs.Reaching.{ListsEach}
use Rattle.dso_lookup.proofs.Reaching.{reach_tells}
use Rattle.dso_plain.specs.State.{PlainState, is_mine}
use Rattle.dso_plain.specs.After.{published, names}

-- what a thread publishes of a value is exactly what is found from it
pub published_is_reached : (t : ThreadId) (v : Value) (s : PlainState) (o : ℕ) → ListsEach (is_mine t s) (s.made t) → (published t v s o ≡ true) ↔ Reached (is_mine t s) (names s) v o
published_is_reached t v s o lists = reach_tells (is_mine t s) (names s) (s.made t) v o lists
