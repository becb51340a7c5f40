-- Lists of threads in which each is named once, and who is left in them where some are taken out.
use Rattle.std.specs.List.{list_any}
use Rattle.std.proofs.Common.{◌≡◌, refl, ◌∙◌, ap, Bool, true, false, cond, not, ◌||◌, List, [], ◌∷◌}
use Rattle.dso_base.specs.declared.lock.ThreadId.{ThreadId}
use Rattle.dso_base.specs.Following.{is_thread}
use Rattle.dso_plain.proofs.keys.SameKeys.{thread_self}
use Rattle.dso_law.specs.ClientWaiters.{without}
use Rattle.dso_law.specs.FitsUp.{AreDistinct}
use Rattle.dso_legal.proofs.marks.BlockMarks.{left_in}

-- who isn't there is not taken out
pub without_absent : (t : ThreadId) (ts : List ThreadId) → list_any (is_thread t) ts ≡ false → without t ts ≡ ts
without_absent t [] none = refl
without_absent t (u ∷ ts) none = by (is_thread t u) refl none (without_absent t ts)
  where
    by : (b : Bool) → is_thread t u ≡ b → (b || list_any (is_thread t) ts) ≡ false → (list_any (is_thread t) ts ≡ false → without t ts ≡ ts) → cond (not b) (u ∷ without t ts) (without t ts) ≡ u ∷ ts
    by true is none later = absurd (cc none)
    by false is none later = ap (λ rest. u ∷ rest) (later none)

-- the first of a list is taken out where the rest is left
pub without_first : (t : ThreadId) (ts : List ThreadId) → list_any (is_thread t) ts ≡ false → without t (t ∷ ts) ≡ ts
without_first t ts none = ap (λ b. cond (not b) (t ∷ without t ts) (without t ts)) (thread_self t) ∙ without_absent t ts none

-- the list without each of these
abbrev pub without_all : List ThreadId → List ThreadId → List ThreadId
without_all [] ts = ts
without_all (u ∷ us) ts = without_all us (without u ts)

-- without all of its threads a list is empty
pub none_left : (ts : List ThreadId) → AreDistinct ts → without_all ts ts ≡ []
none_left [] once = refl
none_left (t ∷ ts) once = ap (without_all ts) (without_first t ts once.0) ∙ none_left ts once.1

-- each of these is in the list
abbrev pub AllThere : List ThreadId → List ThreadId → Type 0
AllThere [] ts = Unit {0}
AllThere (u ∷ us) ts = (list_any (is_thread u) ts ≡ true) × AllThere us ts

-- so it is with one more in front
pub all_behind : (us : List ThreadId) (t : ThreadId) (ts : List ThreadId) → AllThere us ts → AllThere us (t ∷ ts)
all_behind [] t ts there = tt
all_behind (u ∷ us) t ts there = (either (is_thread u t) (list_any (is_thread u) ts) there.0, all_behind us t ts there.1)
  where
    either : (a b : Bool) → b ≡ true → (a || b) ≡ true
    either true b is = refl
    either false b is = is

-- all of a list are in it
pub all_of : (ts : List ThreadId) → AllThere ts ts
all_of [] = tt
all_of (t ∷ ts) = (ap (λ b. b || list_any (is_thread t) ts) (thread_self t), all_behind ts t ts (all_of ts))

-- and still are where another is taken out
pub all_left : (t : ThreadId) (us ts : List ThreadId) → list_any (is_thread t) us ≡ false → AllThere us ts → AllThere us (without t ts)
all_left t [] ts none there = tt
all_left t (u ∷ us) ts none there = by (is_thread t u) refl none (all_left t us ts)
  where
    by : (b : Bool) → is_thread t u ≡ b → (b || list_any (is_thread t) us) ≡ false → (list_any (is_thread t) us ≡ false → AllThere us ts → AllThere us (without t ts)) → AllThere (u ∷ us) (without t ts)
    by true is none later = absurd (cc none)
    by false is none later = (left_in t u ts is ∙ there.0, later none there.1)
