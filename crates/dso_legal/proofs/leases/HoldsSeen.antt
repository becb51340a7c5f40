-- How a thread sees the holds of others, where it acts: those of its client's other threads are as the client knows them, and
-- those of other clients' threads don't conflict with its client's leases.
use Rattle.std.proofs.Common.{ℕ, ◌≡◌, ◌≢◌, ◌⊎◌, inl, inr, refl, sym, ◌∙◌, ap, subst, Bool, true, false, eqb, List, [], ◌∷◌, ◌++◌}
use Rattle.std.specs.Prelude.{Option, Some, None}
use Rattle.dso_base.specs.declared.journal.Entry.{Entry}
use Rattle.dso_base.specs.declared.journal.Node.TheVariants.{Server, Client}
use Rattle.dso_base.specs.declared.lock.Level.{Level}
use Rattle.dso_base.specs.declared.lock.Level.TheVariants.{Read}
use Rattle.dso_base.specs.declared.lock.LockName.{LockName}
use Rattle.dso_base.specs.declared.lock.ThreadId.{ThreadId}
use Rattle.dso_base.specs.declared.message.Up.{Up}
use Rattle.dso_base.specs.declared.message.Up.TheVariants as up
use Rattle.dso_base.specs.declared.request.Event.{Event}
use Rattle.dso_base.specs.declared.request.Request.{Request}
use Rattle.dso_base.specs.declared.shape.Shape.{Shape}
use Rattle.dso_plain.specs.State.{Hold, PlainState, level_of}
use Rattle.dso_plain.specs.Possible.{IsCompatible}
use Rattle.dso_plain.specs.History.{end_of, last_state}
use Rattle.dso_plain.specs.Own.{LeavesOwn}
use Rattle.dso_plain.specs.Touches.{AreActsOfOthers}
use Rattle.dso_plain.proofs.keys.SameKeys.{same_number}
use Rattle.dso_plain.proofs.independence.LeftAlone.{leaves_own}
use Rattle.dso_law.specs.Settings.{Settings}
use Rattle.dso_law.specs.Entries.{entries_of}
use Rattle.dso_law.specs.Channels.{up_in_flight}
use Rattle.dso_law.specs.Leases.{leased}
use Rattle.dso_law.specs.RequestNeeds.{is_enough, hold_level}
use Rattle.dso_law.specs.ServerReadings.{is_lost, counted}
use Rattle.dso_law.specs.Granting.{standing_with, leased_to}
use Rattle.dso_law.specs.Threads.{hold_of, open_block}
use Rattle.dso_legal.specs.Agreement.{messages}
use Rattle.dso_legal.specs.AsMade.{as_made}
use Rattle.dso_legal.specs.CopiesStand.{state_at}
use Rattle.dso_legal.specs.Lawful.{AllFollow}
use Rattle.dso_legal.specs.Line.{Standings, standings_up, HoldsWithin, Line}
use Rattle.dso_legal.specs.PendingBlocks.{joined, pending}
use Rattle.dso_legal.specs.Views.{SeesHolds}
use Rattle.dso_legal.proofs.leases.LeasesCompatible.{all_lent}
use Rattle.dso_legal.proofs.line.LineForeign.{acts_of_other}
use Rattle.dso_legal.proofs.line.LineParts.{line_runs}
use Rattle.dso_legal.proofs.line.LineTaken.{both_read}
use Rattle.dso_legal.proofs.blocks.OpenBlocksHold.{OpensFrom, have_now, holds_still, lease_is_lent}
use Rattle.dso_legal.proofs.line.LineElsewhere.{LineStands}

-- acts of others in two lists
pub others_in_both : (t : ThreadId) (xs ys : List Event) → AreActsOfOthers t xs → AreActsOfOthers t ys → AreActsOfOthers t (xs ++ ys)
others_in_both t [] ys h k = k
others_in_both t (e ∷ xs) ys h k = (h.0, others_in_both t xs ys h.1 k)

-- the blocks of a client's line are acts of others for each thread of another client
pub line_of_others : (shape : Shape) (c : ℕ) (u : ThreadId) → u.client ≢ c → (ms : List Up) (blocks : List (List Event)) (st : Standings) (s : PlainState) → Line shape c ms blocks st s → AreActsOfOthers u (joined blocks)
line_of_others shape c u other [] [] st s h = tt
line_of_others shape c u other [] (block ∷ blocks) st s h = absurd h
line_of_others shape c u other (up.Commit txn ∷ ms) [] st s h = absurd h
line_of_others shape c u other (up.Commit txn ∷ ms) (block ∷ blocks) st s h = others_in_both u block (joined blocks)
    (acts_of_other u txn.thread block (λ same. other (sym (ap (λ (w : ThreadId). w.client) same) ∙ h.1.its)) h.1.acts)
    (line_of_others shape c u other ms blocks st (end_of shape block s) h.2)
line_of_others shape c u other (m ∷ ms) blocks st s h = line_of_others shape c u other ms blocks (standings_up m st) s h.1

-- The line of a client leaves the own parts of other clients' threads.
pub line_leaves_own : (shape : Shape) (c : ℕ) (u : ThreadId) → u.client ≢ c → (ms : List Up) (blocks : List (List Event)) (st : Standings) (s : PlainState) → Line shape c ms blocks st s → LeavesOwn u s (end_of shape (joined blocks) s)
line_leaves_own shape c u other ms blocks st s h = leaves_own shape u (joined blocks) s (line_runs shape c ms blocks st s h) (line_of_others shape c u other ms blocks st s h)

-- both ways to read a hold's level
same_levels : (hold : Option Hold) → level_of hold ≡ hold_level hold
same_levels None = refl
same_levels (Some hold) = refl

-- two levels at Read are beside each other
beside_read : (x : Level) (hold : Option Hold) → ((y : Level) → level_of hold ≡ Some y → (y ≡ Read) × (x ≡ Read)) → IsCompatible x (level_of hold)
beside_read x None both = tt
beside_read x (Some hold) both =
    let it = both hold.level refl in
    subst (λ z. IsCompatible z (Some hold.level)) (sym it.1) (subst (λ y. IsCompatible Read (Some y)) (sym it.0) tt)

-- two numbers that aren't the same a test doesn't take for the same
pub told_apart : (c d : ℕ) → c ≢ d → eqb c d ≡ false
told_apart c d ne = by (eqb c d) refl
  where
    by : (b : Bool) → eqb c d ≡ b → b ≡ false
    by true e = absurd (ne (same_number c d e))
    by false e = refl

module _ (p : Settings) (next : ThreadId → List Event → Option Request) (es : List Entry) (follow : AllFollow p next es) (c : ℕ) (alive : is_lost c (entries_of Server es) ≡ false) where
  abbrev own : List Entry
  own = entries_of (Client c) es

  module _ (t : ThreadId) (its : t.client ≡ c) (opens : (u : ThreadId) → u.client ≡ c → OpensFrom p.shape u own (state_at p c es)) where
    -- where the thread acts
    abbrev s : PlainState
    s = end_of p.shape (open_block t own) (state_at p c es)

    -- its open block leaves what others hold
    left_by_open : (u : ThreadId) → u ≢ t → LeavesOwn u (state_at p c es) s
    left_by_open u other = leaves_own p.shape u (open_block t own) (state_at p c es) (opens t its).runs (acts_of_other u t (open_block t own) (λ same. other (sym same)) (opens t its).keeps.acts)

    -- what another thread of the client holds the client knows
    mate_known : (u : ThreadId) (l : LockName) → u.client ≡ c → (hold : Option Hold) → (state_at p c es).monitors (l, u) ≡ hold → (hold ≡ None) ⊎ (level_of hold ≡ hold_level (hold_of u l own))
    mate_known u l mate None e = inl refl
    mate_known u l mate (Some hold) e = inr (sym (holds_still p next es follow c u (state_at p c es) (opens u mate) l hold.level (ap level_of e)) ∙ same_levels (hold_of u l own))

    -- what a thread of another client holds doesn't conflict with the client's leases
    other_beside : LineStands p c es → (u : ThreadId) → u.client ≢ c → HoldsWithin u.client (λ l. standing_with u.client l (counted (entries_of Server es))) (last_state p.shape (as_made es))
        → (l : LockName) (x : Level) → is_enough x (leased l own) ≡ true → IsCompatible x (level_of (s.monitors (l, u)))
    other_beside line u other within l x enough =
        let same : s.monitors (l, u) ≡ (last_state p.shape (as_made es)).monitors (l, u) =
        (left_by_open u (λ e. other (ap (λ (w : ThreadId). w.client) e ∙ its))).monitors l
        ∙ (line_leaves_own p.shape c u other (messages (up_in_flight c es)) (pending c es) (λ l. standing_with c l (counted (entries_of Server es))) (last_state p.shape (as_made es)) line).monitors l in
        beside_read x (s.monitors (l, u)) (λ y e. both_read y x (leased_to u.client l (counted (entries_of Server es))) (leased_to c l (counted (entries_of Server es)))
        (within u l y refl (sym (ap level_of same) ∙ e))
        (lease_is_lent p next es follow c l x alive enough)
        (λ z f. (all_lent p next es follow l).compatible c u.client z (told_apart c u.client (λ e. other (sym e))) f))

    -- A thread sees the holds, where its open block ends.
    pub sees_holds : LineStands p c es → ((d : ℕ) → HoldsWithin d (λ l. standing_with d l (counted (entries_of Server es))) (last_state p.shape (as_made es))) → SeesHolds t own s
    sees_holds line within = record {
      own = have_now p next es follow c t (state_at p c es) (opens t its);
      mates = λ u l other mate.
          let left = (left_by_open u other).monitors l in
          subst (λ hold. (hold ≡ None) ⊎ (level_of hold ≡ hold_level (hold_of u l own))) (sym left) (mate_known u l (mate ∙ its) ((state_at p c es).monitors (l, u)) refl);
      others = λ u l x other enough. other_beside line u (λ e. other (e ∙ sym its)) (within u.client) l x enough;
    }
