-- Values of a past: they stay past values as the past grows, and the heap's value is always one.
use Rattle.std.proofs.Common.{ℕ, suc, ◌≡◌, ◌≤◌, ◌<◌, ltb, is_some, inl, inr, sym, ◌∙◌, ap, true, Some, List, [], ◌∷◌, ◌++◌, length, arith}
use Rattle.std.proofs.lemmas.Bool.Decides.{nat_tests}
use Rattle.dso_base.specs.declared.lock.ThreadId.{ThreadId}
use Rattle.dso_base.specs.declared.value.Value.{Value}
use Rattle.dso_plain.specs.Past.{KeepsPast, newest}
use Rattle.dso_plain.specs.Possible.{StandsFrom}
use Rattle.dso_plain.specs.State.{PlainState, IsShared, size_of}

-- a value of a past stands in it still where newer ones come
pub stands_behind : (place : ℕ) (v : Value) (newer past : List Value) → StandsFrom place v past → StandsFrom place v (newer ++ past)
stands_behind place v [] past h = h
stands_behind place v (x ∷ newer) past h = inr (stands_behind place v newer past h)

-- a place below one more is at most it
at_most : (place n : ℕ) → place < suc n → place ≤ n
at_most place n short = omega (arith, short)

-- values that are there and the same
same_value : (x v : Value) → Some x ≡ Some v → x ≡ v
same_value x v e = cc

-- a field that has a value is one of the object's
field_there : (f n : ℕ) → ltb f n ≡ true → f < n
field_there f n e = grind (arith, nat_tests)

-- the newest of a past stands at its end
stands_newest : (place : ℕ) (v : Value) (past : List Value) → newest past ≡ Some v → place < length past → StandsFrom place v past
stands_newest place v [] e short = absurd (cc e)
stands_newest place v (x ∷ older) e short = inl (at_most place (length older) short, sym (same_value x v e))

-- The heap's value of a shared field is a past value, whatever a thread has seen.
pub newest_stands : (s : PlainState) → KeepsPast s → (o f : ℕ) (v : Value) → IsShared o s → s.heap (o, f) ≡ Some v → (t : ThreadId) → StandsFrom (s.seen (t, o, f)) v (s.past (o, f))
newest_stands s keeps o f v shared e t = stands_newest (s.seen (t, o, f)) v (s.past (o, f)) (keeps.newest_is_heap o f shared ∙ e)
    (keeps.seen_in_past t o f shared (field_there f (size_of (s.objects o)) (sym (keeps.fields o f) ∙ ap is_some e)))
