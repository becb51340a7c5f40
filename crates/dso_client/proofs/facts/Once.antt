-- What a thread has in hand it has once.
use Rattle.std.specs.List.{AllByRecursion}
use Rattle.std.proofs.Common.{◌≡◌, ℕ, ◌+◌, ◌≤◌, ◌<◌, refl, ap, arith, Bool, true, false, cond, eqb, ltb, is_some, Some, None, List, [], ◌∷◌}
use Rattle.std.proofs.lemmas.Bool.Decides.{nat_tests}
use Rattle.dso_base.specs.declared.journal.Entry.{Entry}
use Rattle.dso_base.specs.declared.lock.ThreadId.{ThreadId}
use Rattle.dso_base.specs.declared.record.Body.{Body}
use Rattle.dso_base.specs.Block.{body_in}
use Rattle.dso_change.specs.Hands.{AreDifferent, AreRising, IsOnce}
use Rattle.dso_plain.proofs.keys.SameKeys.{number_self}
use Rattle.dso_law.specs.FitsUp.{Rises}
use Rattle.dso_law.specs.Settings.{Settings}
use Rattle.dso_law.specs.Threads.{work_of}
use Rattle.dso_legal.specs.OwnObjects.{count_bodies}
use Rattle.dso_legal.specs.Runs.{HandIsOnce}

-- a body that doesn't count isn't there
none_counted : (o : ℕ) (bodies : List Body) → count_bodies o bodies ≡ 0 → body_in o bodies ≡ None
none_counted o [] none = refl
none_counted o (body ∷ bodies) none = by (none_counted o bodies) (eqb body.object o) none
  where
    by : (count_bodies o bodies ≡ 0 → body_in o bodies ≡ None) → (b : Bool) → cond b 1 0 + count_bodies o bodies ≡ 0 → cond b (Some body) (body_in o bodies) ≡ None
    by rest true none = absurd (omega (arith, none))
    by rest false none = rest (omega (arith, none))

-- one that is there counts
some_counted : (o : ℕ) (bodies : List Body) → is_some (body_in o bodies) ≡ true → 1 ≤ count_bodies o bodies
some_counted o [] some = absurd (cc some)
some_counted o (body ∷ bodies) some = by (some_counted o bodies) (eqb body.object o) some
  where
    by : (is_some (body_in o bodies) ≡ true → 1 ≤ count_bodies o bodies) → (b : Bool) → is_some (cond b (Some body) (body_in o bodies)) ≡ true → 1 ≤ cond b 1 0 + count_bodies o bodies
    by rest true some = omega arith
    by rest false some = let counts = rest some in omega (arith, counts)

-- where each counts once at most, the bodies differ
once_different : (bodies : List Body) → ((o : ℕ) → count_bodies o bodies ≤ 1) → AreDifferent bodies
once_different [] once = tt
once_different (body ∷ bodies) once = (none_counted body.object bodies none, once_different bodies rest)
  where
    none : count_bodies body.object bodies ≡ 0
    none =
        let all : cond (eqb body.object body.object) 1 0 + count_bodies body.object bodies ≤ 1 = once body.object in
        let here : ◌≡◌ {A = ℕ} (cond (eqb body.object body.object) 1 0) 1 = ap (λ b. cond b 1 0) (number_self body.object) in
        omega (arith, all, here)

    rest : (o : ℕ) → count_bodies o bodies ≤ 1
    rest o =
        let all : cond (eqb body.object o) 1 0 + count_bodies o bodies ≤ 1 = once o in
        omega (arith, all)

-- a body that is less than the first is less than all that rise behind it
all_above : (n : ℕ) (first : Body) (bodies : List Body) → n < first.object → Rises (λ a b. ltb a.object b.object) (first ∷ bodies)
    → AllByRecursion (λ later. n < later.object) (first ∷ bodies)
all_above n first [] less rise = (less, tt)
all_above n first (next ∷ bodies) less rise =
    let step : first.object < next.object = let test : ltb first.object next.object ≡ true = rise.0 in grind (arith, nat_tests) in
    (less, all_above n next bodies (omega (arith, less, step)) rise.1)

rising : (bodies : List Body) → Rises (λ a b. ltb a.object b.object) bodies → AreRising bodies
rising [] rise = tt
rising (body ∷ []) rise = (tt, tt)
rising (body ∷ next ∷ bodies) rise =
    let step : body.object < next.object = let test : ltb body.object next.object ≡ true = rise.0 in grind (arith, nat_tests) in
    (all_above body.object next bodies step rise.1, rising (next ∷ bodies) rise.1)

-- each object counts once at most in all, and the published ones rise
pub work_is_once : (p : Settings) (t : ThreadId) (es : List Entry) → HandIsOnce p t es → IsOnce (work_of p.shape t es)
work_is_once p t es h = record {
  privates = once_different (work_of p.shape t es).privates (λ o. let all = h.once o in omega (arith, all));
  apart = λ o some.
      let all = h.once o in
      let there = some_counted o (work_of p.shape t es).privates some in
      none_counted o (work_of p.shape t es).news (omega (arith, all, there));
  news = rising (work_of p.shape t es).news h.news;
}
