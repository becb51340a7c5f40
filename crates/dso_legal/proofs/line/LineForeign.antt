-- A run of another client's thread in front of a client's line: where it touches no lock in conflict with the client's
-- leases, the line stands behind it, and it runs where the line ends.
use Rattle.std.proofs.Common.{ℕ, ◌≡◌, ◌≢◌, inl, inr, refl, sym, ◌∙◌, ap, subst, true, List, [], ◌∷◌, ◌++◌}
use Rattle.dso_base.specs.declared.lock.Level.{Level}
use Rattle.dso_base.specs.declared.lock.Level.TheVariants.{Read}
use Rattle.dso_base.specs.declared.lock.LockName.{LockName}
use Rattle.dso_base.specs.declared.lock.ThreadId.{ThreadId}
use Rattle.dso_base.specs.declared.message.Up.{Up}
use Rattle.dso_base.specs.declared.message.Up.TheVariants as up
use Rattle.dso_base.specs.declared.record.Txn.{Txn}
use Rattle.dso_base.specs.declared.request.Event.{Event}
use Rattle.dso_base.specs.declared.request.Event.TheVariants.{Act, Lost}
use Rattle.dso_base.specs.declared.shape.Shape.{Shape}
use Rattle.dso_plain.specs.State.{PlainState, level_of}
use Rattle.dso_plain.specs.History.{RunsButMarks, end_of}
use Rattle.dso_plain.specs.Touches.{TouchesIn, MakesIn, IsActOf, IsActOfOther, AreActsOf, AreActsOfOthers, NoCommonId}
use Rattle.dso_plain.proofs.independence.RunsSwap.{ends_in_parts}
use Rattle.dso_plain.specs.Laws.{CanSwap}
use Rattle.dso_plain.proofs.independence.LeftAlone.{leaves_own}
use Rattle.dso_plain.proofs.independence.RunsSwap.{diamond}
use Rattle.dso_law.specs.RequestNeeds.{is_enough}
use Rattle.dso_legal.specs.PendingBlocks.{joined}
use Rattle.dso_legal.specs.Line.{Standings, standings_up, HoldsWithin, CanRun, Line}
use Rattle.dso_legal.proofs.line.LineParts.{message_shrinks}

-- an act of a thread is one of another thread than any other
pub act_of_other : (t u : ThreadId) (e : Event) → u ≢ t → IsActOf u e → IsActOfOther t e
act_of_other t u (Act thread request reply woken) ne its = λ is. ne (sym its ∙ is)
act_of_other t u (Lost client) ne its = absurd its

-- so are all of them
pub acts_of_other : (t u : ThreadId) (x : List Event) → u ≢ t → AreActsOf u x → AreActsOfOthers t x
acts_of_other t u [] ne acts = tt
acts_of_other t u (e ∷ x) ne acts = (act_of_other t u e ne acts.0, acts_of_other t u x ne acts.1)

-- threads of different clients are different
pub clients_apart : (c : ℕ) (t u : ThreadId) → t.client ≡ c → u.client ≢ c → u ≢ t
clients_apart c t u its ne same = ne (ap (λ (w : ThreadId). w.client) same ∙ its)

-- what the first of two lists makes both make
pub makes_first : (xs ys : List Event) (id : ℕ) → MakesIn xs id → MakesIn (xs ++ ys) id
makes_first [] ys id h = absurd h
makes_first (e ∷ xs) ys id (inl h) = inl h
makes_first (e ∷ xs) ys id (inr h) = inr (makes_first xs ys id h)

-- and what the second makes
pub makes_second : (xs ys : List Event) (id : ℕ) → MakesIn ys id → MakesIn (xs ++ ys) id
makes_second [] ys id h = h
makes_second (e ∷ xs) ys id h = inr (makes_second xs ys id h)

-- the run touches no lock in conflict with these leases
abbrev pub IsFreeOf : Shape → List Event → Standings → PlainState → Type 0
IsFreeOf shape x st s = (l : LockName) (a b : Level) → TouchesIn shape x s l a → is_enough b (st l).lease ≡ true → (a ≡ Read) × (b ≡ Read)

-- The line stands behind the foreign run, which runs where the line ends and touches there no more than it did; both orders
-- end in the same state.
pub record PassesLine (shape : Shape) (c : ℕ) (x : List Event) (ms : List Up) (blocks : List (List Event)) (st : Standings) (s : PlainState) : Type 0 where
  pub line : Line shape c ms blocks st (end_of shape x s)
  pub runs : RunsButMarks shape x (end_of shape (joined blocks) s)
  pub touches : (l : LockName) (a : Level) → TouchesIn shape x (end_of shape (joined blocks) s) l a → TouchesIn shape x s l a
  pub same : end_of shape (joined blocks) (end_of shape x s) ≡ end_of shape x (end_of shape (joined blocks) s)

module _ (shape : Shape) (c : ℕ) (u : ThreadId) (foreign : u.client ≢ c) (x : List Event) (acts : AreActsOf u x) where
  -- the client's threads hold what they held
  pub holds_stay_within : (st : Standings) (s : PlainState) → RunsButMarks shape x s → HoldsWithin c st s → HoldsWithin c st (end_of shape x s)
  holds_stay_within st s runs h t l a its held =
      h t l a its (sym (ap level_of ((leaves_own shape t x s runs (acts_of_other t u x (clients_apart c t u its foreign) acts)).monitors l)) ∙ held)

  -- the run and a block of the client can swap
  swaps : (txn : Txn) (block : List Event) (st : Standings) (s : PlainState) → RunsButMarks shape x s → IsFreeOf shape x st s → NoCommonId (MakesIn x) (MakesIn block)
      → CanRun shape c txn block st s → CanSwap shape x block s
  swaps txn block st s runs free ids can = diamond shape txn.thread x block s (record {
    others_act = acts_of_other txn.thread u x (clients_apart c txn.thread u can.its foreign) acts;
    own_acts = can.acts;
    others_run = runs;
    own_runs = can.runs;
    locks = λ l a b p q. free l a b p (can.within l b q);
    ids = ids;
  })

  -- A foreign run passes a client's line.
  pub line_foreign : (ms : List Up) (blocks : List (List Event)) (st : Standings) (s : PlainState) → RunsButMarks shape x s → IsFreeOf shape x st s → NoCommonId (MakesIn x) (MakesIn (joined blocks))
      → Line shape c ms blocks st s → PassesLine shape c x ms blocks st s
  line_foreign [] [] st s runs free ids h = record { line = holds_stay_within st s runs h; runs = runs; touches = λ l a k. k; same = refl }
  line_foreign [] (block ∷ blocks) st s runs free ids h = absurd h
  line_foreign (up.Commit txn ∷ ms) [] st s runs free ids h = absurd h
  line_foreign (up.Commit txn ∷ ms) (block ∷ blocks) st s runs free ids h =
      let swap = swaps txn block st s runs free (λ id p q. ids id p (makes_first block (joined blocks) id q)) h.1 in
      let rest = line_foreign ms blocks st (end_of shape block s) swap.others_after (λ l a b p q. free l a b (swap.others_touch l a p) q)
      (λ id p q. ids id p (makes_second block (joined blocks) id q)) h.2 in
      let ends = ends_in_parts shape block (joined blocks) s in
      record {
        line = (
          holds_stay_within st s runs h.0,
          record { its = h.1.its; acts = h.1.acts; runs = swap.own_after; within = λ l a p. h.1.within l a (swap.own_touches l a p) },
          subst (λ r. Line shape c ms blocks st r) (sym swap.same_end) rest.line,
        );
        runs = subst (λ r. RunsButMarks shape x r) (sym ends) rest.runs;
        touches = λ l a p. swap.others_touch l a (rest.touches l a (subst (λ r. TouchesIn shape x r l a) ends p));
        same = ends_in_parts shape block (joined blocks) (end_of shape x s) ∙ ap (λ r. end_of shape (joined blocks) r) swap.same_end ∙ rest.same ∙ ap (λ r. end_of shape x r) (sym ends);
      }
  line_foreign (m ∷ ms) blocks st s runs free ids h =
      let rest = line_foreign ms blocks (standings_up m st) s runs (λ l a b p q. free l a b p (message_shrinks m st l b q)) ids h.1 in
      record { line = (holds_stay_within st s runs h.0, rest.line); runs = rest.runs; touches = rest.touches; same = rest.same }
