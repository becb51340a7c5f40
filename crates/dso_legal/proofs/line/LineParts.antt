-- A client's line: the run that it is, where it ends, and how it grows at its end.
use Rattle.std.specs.List.{AllByRecursion}
use Rattle.std.proofs.Common.{ℕ, ◌≡◌, refl, sym, ◌∙◌, subst, Bool, true, false, cond, List, [], ◌∷◌, ◌++◌}
use Rattle.std.specs.Prelude.{None}
use Rattle.dso_base.specs.declared.lock.Level.{Level}
use Rattle.dso_base.specs.declared.lock.LockName.{LockName}
use Rattle.dso_base.specs.declared.message.Up.{Up}
use Rattle.dso_base.specs.declared.message.Up.TheVariants as up
use Rattle.dso_base.specs.declared.record.Txn.{Txn}
use Rattle.dso_base.specs.declared.request.Event.{Event}
use Rattle.dso_base.specs.declared.shape.Shape.{Shape}
use Rattle.dso_plain.specs.KeyTests.{is_lock}
use Rattle.dso_plain.specs.State.{PlainState}
use Rattle.dso_plain.specs.History.{RunsButMarks, end_of}
use Rattle.dso_plain.proofs.independence.RunsSwap.{runs_but_marks_in_parts, ends_in_parts}
use Rattle.dso_law.specs.declared.readings.LockStanding.{LockStanding}
use Rattle.dso_law.specs.RequestNeeds.{is_enough}
use Rattle.dso_legal.specs.Agreement.{after}
use Rattle.dso_legal.specs.PendingBlocks.{joined}
use Rattle.dso_legal.specs.Line.{Standings, standings_up, HoldsWithin, CanRun, Line}

-- whether the message is a record
abbrev pub is_record : Up → Bool
is_record (up.Commit txn) = true
is_record m = false

-- each lease of the first is at least one of the second
abbrev pub IsMore : Standings → Standings → Type 0
IsMore st st' = (l : LockName) (x : Level) → is_enough x (st l).lease ≡ true → is_enough x (st' l).lease ≡ true

-- where a standing is without a lease, the choice has no more than the other one
less_if : (b : Bool) (q r : LockStanding) (x : Level) → is_enough x q.lease ≡ false → is_enough x (cond b q r).lease ≡ true → is_enough x r.lease ≡ true
less_if true q r x none e = absurd (cc (sym none ∙ e))
less_if false q r x none e = e

-- a standing that asks has the lease that it had
asks_same : (b : Bool) (r : LockStanding) (x : Level) → is_enough x (cond b (record r { is_asked = true }) r).lease ≡ true → is_enough x r.lease ≡ true
asks_same true r x e = e
asks_same false r x e = e

-- a message leaves no more leases than there were
pub message_shrinks : (m : Up) (st : Standings) (l : LockName) (x : Level) → is_enough x (standings_up m st l).lease ≡ true → is_enough x (st l).lease ≡ true
message_shrinks (up.Request k level) st l x e = asks_same (is_lock l k) (st l) x e
message_shrinks (up.Return k threads) st l x e = less_if (is_lock l k) (record (st l) { lease = None }) (st l) x refl e
message_shrinks m st l x e = e

-- so do messages
pub leases_shrink : (ms : List Up) (st : Standings) (l : LockName) (x : Level) → is_enough x (after standings_up ms st l).lease ≡ true → is_enough x (st l).lease ≡ true
leases_shrink [] st l x e = e
leases_shrink (m ∷ ms) st l x e = message_shrinks m st l x (leases_shrink ms (standings_up m st) l x e)

-- what stands alike in both stays less
choice_grows : (b : Bool) (q q' r r' : LockStanding) (x : Level) → (is_enough x q.lease ≡ true → is_enough x q'.lease ≡ true) → (is_enough x r.lease ≡ true → is_enough x r'.lease ≡ true)
    → is_enough x (cond b q r).lease ≡ true → is_enough x (cond b q' r').lease ≡ true
choice_grows true q q' r r' x f g e = f e
choice_grows false q q' r r' x f g e = g e

-- more leases are more after a message
message_grows : (m : Up) (st st' : Standings) → IsMore st st' → IsMore (standings_up m st) (standings_up m st')
message_grows (up.Request k level) st st' more l x e = choice_grows (is_lock l k) (record (st l) { is_asked = true }) (record (st' l) { is_asked = true }) (st l) (st' l) x (more l x) (more l x) e
message_grows (up.Return k threads) st st' more l x e = choice_grows (is_lock l k) (record (st l) { lease = None }) (record (st' l) { lease = None }) (st l) (st' l) x (λ e. e) (more l x) e
message_grows m st st' more l x e = more l x e

module _ (shape : Shape) (c : ℕ) where
  -- the blocks of a line run one after the other
  pub line_runs : (ms : List Up) (blocks : List (List Event)) (st : Standings) (s : PlainState) → Line shape c ms blocks st s → RunsButMarks shape (joined blocks) s
  line_runs [] [] st s h = tt
  line_runs [] (block ∷ blocks) st s h = absurd h
  line_runs (up.Commit txn ∷ ms) [] st s h = absurd h
  line_runs (up.Commit txn ∷ ms) (block ∷ blocks) st s h = (runs_but_marks_in_parts shape block (joined blocks) s).1 (h.1.runs, line_runs ms blocks st (end_of shape block s) h.2)
  line_runs (m ∷ ms) blocks st s h = line_runs ms blocks (standings_up m st) s h.1

  -- at the line's front what is held is within the leases
  pub line_starts : (ms : List Up) (blocks : List (List Event)) (st : Standings) (s : PlainState) → Line shape c ms blocks st s → HoldsWithin c st s
  line_starts [] [] st s h = h
  line_starts [] (block ∷ blocks) st s h = absurd h
  line_starts (up.Commit txn ∷ ms) [] st s h = absurd h
  line_starts (up.Commit txn ∷ ms) (block ∷ blocks) st s h = h.0
  line_starts (m ∷ ms) blocks st s h = h.0

  -- what is held within leases is within more of them
  pub holds_grow : (st st' : Standings) (s : PlainState) → IsMore st st' → HoldsWithin c st s → HoldsWithin c st' s
  holds_grow st st' s more h t l x its held = more l x (h t l x its held)

  -- a line stands with more leases
  pub line_grows : (ms : List Up) (blocks : List (List Event)) (st st' : Standings) (s : PlainState) → IsMore st st' → Line shape c ms blocks st s → Line shape c ms blocks st' s
  line_grows [] [] st st' s more h = holds_grow st st' s more h
  line_grows [] (block ∷ blocks) st st' s more h = absurd h
  line_grows (up.Commit txn ∷ ms) [] st st' s more h = absurd h
  line_grows (up.Commit txn ∷ ms) (block ∷ blocks) st st' s more h = (
    holds_grow st st' s more h.0,
    record { its = h.1.its; acts = h.1.acts; runs = h.1.runs; within = λ l x touched. more l x (h.1.within l x touched) },
    line_grows ms blocks st st' (end_of shape block s) more h.2,
  )
  line_grows (m ∷ ms) blocks st st' s more h = (holds_grow st st' s more h.0, line_grows ms blocks (standings_up m st) (standings_up m st') s (message_grows m st st' more) h.1)

  -- a message that is no record stands in front of a line
  pub line_front : (m : Up) (ms : List Up) (blocks : List (List Event)) (st : Standings) (s : PlainState) → is_record m ≡ false → HoldsWithin c st s
      → Line shape c ms blocks (standings_up m st) s → Line shape c (m ∷ ms) blocks st s
  line_front (up.Commit txn) ms blocks st s plain held h = absurd (cc plain)
  line_front m ms blocks st s plain held h = (held, h)

  -- messages that are no records are a line without blocks, where what is held is within the leases that they leave
  pub line_alone : (ns : List Up) (st : Standings) (s : PlainState) → AllByRecursion (λ m. is_record m ≡ false) ns → HoldsWithin c (after standings_up ns st) s → Line shape c ns [] st s
  line_alone [] st s plain held = held
  line_alone (n ∷ ns) st s plain held = line_front n ns [] st s plain.0 (holds_grow (after standings_up (n ∷ ns) st) st s (leases_shrink (n ∷ ns) st) held) (line_alone ns (standings_up n st) s plain.1 held)

  -- messages that are no records stand behind a line, where what is held is within the leases that they leave
  pub line_more_all : (ns ms : List Up) (blocks : List (List Event)) (st : Standings) (s : PlainState) → AllByRecursion (λ m. is_record m ≡ false) ns → Line shape c ms blocks st s
      → HoldsWithin c (after standings_up ns (after standings_up ms st)) (end_of shape (joined blocks) s) → Line shape c (ms ++ ns) blocks st s
  line_more_all ns [] [] st s plain h held = line_alone ns st s plain held
  line_more_all ns [] (block ∷ blocks) st s plain h held = absurd h
  line_more_all ns (up.Commit txn ∷ ms) [] st s plain h held = absurd h
  line_more_all ns (up.Commit txn ∷ ms) (block ∷ blocks) st s plain h held = (
    h.0,
    h.1,
    line_more_all ns ms blocks st (end_of shape block s) plain h.2 (subst (λ r. HoldsWithin c (after standings_up ns (after standings_up ms st)) r) (ends_in_parts shape block (joined blocks) s) held),
  )
  line_more_all ns (m ∷ ms) blocks st s plain h held = (h.0, line_more_all ns ms blocks (standings_up m st) s plain h.1 held)

  -- a record stands behind a line with its block behind the line's
  pub line_record : (txn : Txn) (block : List Event) (ms : List Up) (blocks : List (List Event)) (st : Standings) (s : PlainState) → Line shape c ms blocks st s
      → CanRun shape c txn block (after standings_up ms st) (end_of shape (joined blocks) s)
      → HoldsWithin c (after standings_up ms st) (end_of shape block (end_of shape (joined blocks) s)) → Line shape c (ms ++ up.Commit txn ∷ []) (blocks ++ block ∷ []) st s
  line_record txn block [] [] st s h can held = (h, can, held)
  line_record txn block [] (first ∷ blocks) st s h can held = absurd h
  line_record txn block (up.Commit first ∷ ms) [] st s h can held = absurd h
  line_record txn block (up.Commit other ∷ ms) (first ∷ blocks) st s h can held =
      let same = ends_in_parts shape first (joined blocks) s in (
        h.0,
        h.1,
        line_record txn block ms blocks st (end_of shape first s) h.2 (subst (λ r. CanRun shape c txn block (after standings_up ms st) r) same can)
            (subst (λ r. HoldsWithin c (after standings_up ms st) (end_of shape block r)) same held),
      )
  line_record txn block (m ∷ ms) blocks st s h can held = (h.0, line_record txn block ms blocks (standings_up m st) s h.1 can held)
