-- The open blocks of a client's threads run again after an entry: from the same state, from the state behind another client's
-- block, or from that behind the block that another thread of the client ended.
use Rattle.std.proofs.Common.{ℕ, ◌≡◌, ◌≢◌, refl, sym, ◌∙◌, ap, subst, true, false, cond, eqb, is_some, List, [], ◌∷◌, ◌++◌}
use Rattle.std.specs.Prelude.{Option, Some, None}
use Rattle.dso_base.specs.declared.journal.Entry.{Entry}
use Rattle.dso_base.specs.declared.journal.Node.{Node}
use Rattle.dso_base.specs.declared.journal.Node.TheVariants.{Server, Client}
use Rattle.dso_base.specs.declared.lock.Level.{Level}
use Rattle.dso_base.specs.declared.lock.Level.TheVariants.{Read}
use Rattle.dso_base.specs.declared.lock.LockName.{LockName}
use Rattle.dso_base.specs.declared.lock.ThreadId.{ThreadId}
use Rattle.dso_base.specs.declared.record.Ending.{Ending}
use Rattle.dso_base.specs.declared.record.Txn.{Txn}
use Rattle.dso_base.specs.declared.request.Event.{Event}
use Rattle.dso_base.specs.declared.request.Request.{Request}
use Rattle.dso_base.specs.Following.{is_thread}
use Rattle.dso_plain.specs.State.{PlainState}
use Rattle.dso_plain.specs.History.{RunsButMarks, end_of, is_act_of}
use Rattle.dso_plain.specs.Touches.{MakesIn, IsActOf, AreActsOf, NoCommonId}
use Rattle.dso_plain.proofs.keys.SameKeys.{thread_self}
use Rattle.dso_law.specs.Settings.{Settings}
use Rattle.dso_law.specs.Entries.{entries_of, by_event}
use Rattle.dso_law.specs.RequestNeeds.{conflicts}
use Rattle.dso_law.specs.ServerReadings.{is_lost}
use Rattle.dso_law.specs.Threads.{block_after, ending_of, locks_of, open_block}
use Rattle.dso_legal.specs.CopiesStand.{state_at}
use Rattle.dso_legal.specs.Lawful.{AllFollow}
use Rattle.dso_legal.proofs.records.BothEnds.{client_with}
use Rattle.dso_legal.proofs.leases.LeaseSteps.{unless_true, if_true, no_both}
use Rattle.dso_legal.proofs.leases.Holds.{holds_well}
use Rattle.dso_legal.proofs.line.LineTaken.{RecordPasses, both_read}
use Rattle.dso_legal.proofs.blocks.OpenLocks.{IsHeldFor}
use Rattle.dso_legal.proofs.blocks.OpenRuns.{open_passed, held_enough}
use Rattle.dso_legal.proofs.blocks.OpenBlocksHold.{OpensFrom, locks_before, locks_now, held_leased, lease_is_lent, ended_touches}
use Rattle.dso_legal.proofs.line.LineElsewhere.{IsElsewhere, stands_still}

-- an entry elsewhere is none of the client's
pub own_still : (c : ℕ) (node : Node) (e : Entry) (es : List Entry) → IsElsewhere c node e.input es → client_with c node e es ≡ entries_of (Client c) es
own_still c Server e es leaves = refl
own_still c (Client d) e es other = unless_true (eqb c d) (e ∷ entries_of (Client c) es) (entries_of (Client c) es) other

-- The open blocks run again after an entry elsewhere.
pub opens_still : (p : Settings) (c : ℕ) (t : ThreadId) (e : Entry) (es : List Entry) → IsElsewhere c e.node e.input es → RunsButMarks p.shape (open_block t (entries_of (Client c) es)) (state_at p c es)
    → RunsButMarks p.shape (open_block t (entries_of (Client c) (e ∷ es))) (state_at p c (e ∷ es))
opens_still p c t e es elsewhere runs = subst (λ own. RunsButMarks p.shape (open_block t own) (state_at p c (e ∷ es))) (sym (own_still c e.node e es elsewhere))
    (subst (λ s. RunsButMarks p.shape (open_block t (entries_of (Client c) es)) s) (sym (stands_still p c e es elsewhere).state) runs)

module _ (p : Settings) (next : ThreadId → List Event → Option Request) (es : List Entry) (follow : AllFollow p next es) (c : ℕ) where
  abbrev own : List Entry
  own = entries_of (Client c) es

  -- The open block of a thread of the client runs from behind another client's block.
  pub opens_passed : (t : ThreadId) (txn : Txn) (block : List Event) (e : Entry) → t.client ≡ c → is_lost c (entries_of Server es) ≡ false → OpensFrom p.shape t own (state_at p c es) → RecordPasses p c txn block e es
      → NoCommonId (MakesIn block) (MakesIn (open_block t own)) → RunsButMarks p.shape (open_block t own) (state_at p c (e ∷ es))
  opens_passed t txn block e its alive opens passes ids =
      let other : txn.thread ≢ t = λ same. passes.other (ap (λ (w : ThreadId). w.client) same ∙ its) in
      let swap = open_passed p.shape t txn.thread (open_block t own) block (state_at p c es) (locks_before t own) other opens.keeps.acts passes.acts opens.runs passes.runs opens.have opens.keeps.stays
      (λ l a b touched held. passes.free l a b touched (lease_is_lent p next es follow c l b alive
      (held_leased p next es follow c t l b (subst (IsHeldFor l b) (locks_now p.shape t own opens.keeps) held)))) ids in
      subst (λ s. RunsButMarks p.shape (open_block t own) s) (sym passes.state) swap.own_after

  -- two threads of the client hold no lock in conflict
  mates_apart : (t u : ThreadId) → is_thread t u ≡ false → (l : LockName) (a b : Level) → IsHeldFor l a (locks_of u own) → IsHeldFor l b (locks_of t own) → (a ≡ Read) × (b ≡ Read)
  mates_apart t u apart l a b held held_too =
      let first = held_enough l a (locks_of u own) held in
      let second = held_enough l b (locks_of t own) held_too in
      both_read a b (Some first.hold.level) (Some second.hold.level) first.enough second.enough
      (λ z e. subst (λ (y : Level). conflicts y (Some first.hold.level) ≡ false) (cc e) ((holds_well p next es follow c).apart t u l second.hold first.hold apart second.held first.held))

  -- The open block of a thread of the client runs from behind the block that another thread of the client ends.
  pub opens_mate : (t u : ThreadId) (s : PlainState) (ending : Ending) (event : Event) → is_thread t u ≡ false → OpensFrom p.shape t own s → OpensFrom p.shape u own s → IsActOf u event → ending_of event (locks_of u own) ≡ Some ending
      → AreActsOf u (open_block u own ++ event ∷ []) → RunsButMarks p.shape (open_block u own ++ event ∷ []) s → NoCommonId (MakesIn (open_block u own ++ event ∷ [])) (MakesIn (open_block t own))
      → RunsButMarks p.shape (open_block t own) (end_of p.shape (open_block u own ++ event ∷ []) s)
  opens_mate t u s ending event apart mine its is_act ends acts runs ids =
      let other : u ≢ t = λ same. no_both (is_thread t t) (thread_self t) (subst (λ w. is_thread t w ≡ false) same apart) in
      (open_passed p.shape t u (open_block t own) (open_block u own ++ event ∷ []) s (locks_before t own) other mine.keeps.acts acts mine.runs runs mine.have mine.keeps.stays
      (λ l a b touched held. mates_apart t u apart l a b (ended_touches p next es follow c u s its ending event is_act ends acts runs l a touched)
      (subst (IsHeldFor l b) (locks_now p.shape t own mine.keeps) held)) ids).own_after

-- the open block after one more entry of the client, by its event
abbrev block_with : ThreadId → List Entry → Option Event → List Event
block_with t own event = by_event (λ event block. cond (is_act_of t event) (block_after event (locks_of t own) block) block) event (open_block t own)

-- it stays where there is no event
pub open_at_none : (t : ThreadId) (e : Entry) (own : List Entry) → e.event ≡ None → open_block t (e ∷ own) ≡ open_block t own
open_at_none t e own none = ap (block_with t own) none

-- and at an event that is no act of the thread
pub open_at_other : (t : ThreadId) (e : Entry) (own : List Entry) (event : Event) → e.event ≡ Some event → is_act_of t event ≡ false → open_block t (e ∷ own) ≡ open_block t own
open_at_other t e own event is other = ap (block_with t own) is ∙ unless_true (is_act_of t event) (block_after event (locks_of t own) (open_block t own)) (open_block t own) other

-- an act of the thread that is no ending stands at its end
pub open_grows : (t : ThreadId) (e : Entry) (own : List Entry) (event : Event) → e.event ≡ Some event → is_act_of t event ≡ true → ending_of event (locks_of t own) ≡ None → open_block t (e ∷ own) ≡ open_block t own ++ event ∷ []
open_grows t e own event is mine none = ap (block_with t own) is ∙ if_true (is_act_of t event) (block_after event (locks_of t own) (open_block t own)) (open_block t own) mine
    ∙ ap (λ ending. cond (is_some ending) [] (open_block t own ++ event ∷ [])) none

-- and after one that is an ending it is empty
pub open_ends : (t : ThreadId) (e : Entry) (own : List Entry) (event : Event) (ending : Ending) → e.event ≡ Some event → is_act_of t event ≡ true → ending_of event (locks_of t own) ≡ Some ending → open_block t (e ∷ own) ≡ []
open_ends t e own event ending is mine ends = ap (block_with t own) is ∙ if_true (is_act_of t event) (block_after event (locks_of t own) (open_block t own)) (open_block t own) mine
    ∙ ap (λ ending. cond (is_some ending) [] (open_block t own ++ event ∷ [])) ends
