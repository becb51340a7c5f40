-- What holds of every event of a journal holds of each event of its open blocks, of its ended blocks and of its history as made.
use Rattle.std.specs.List.{AllByRecursion}
use Rattle.std.proofs.Common.{ℕ, zero, suc, Bool, true, false, cond, eqb, is_some, Option, Some, None, List, [], ◌∷◌, ◌++◌}
use Rattle.std.specs.Prelude.{slice_get, drop}
use Rattle.dso_base.specs.declared.journal.Entry.{Entry}
use Rattle.dso_base.specs.declared.journal.Input.{Input}
use Rattle.dso_base.specs.declared.journal.Input.TheVariants as input
use Rattle.dso_base.specs.declared.journal.Node.{Node}
use Rattle.dso_base.specs.declared.journal.Node.TheVariants.{Server, Client}
use Rattle.dso_base.specs.declared.lock.ThreadId.{ThreadId}
use Rattle.dso_base.specs.declared.message.Up.TheVariants as up
use Rattle.dso_base.specs.declared.record.Ending.{Ending}
use Rattle.dso_base.specs.declared.request.Event.{Event}
use Rattle.dso_base.specs.declared.request.Event.TheVariants.{Act, Lost}
use Rattle.dso_law.specs.Entries.{is_node, entries_of, by_event}
use Rattle.dso_law.specs.ServerReadings.{is_lost}
use Rattle.dso_law.specs.Threads.{Locks, ending_of, locks_of, block_after, open_block}
use Rattle.dso_plain.specs.History.{is_act_of}
use Rattle.dso_legal.specs.AsMade.{made_by, made_at, as_made}
use Rattle.dso_legal.specs.Committed.{block_if, ended_by, ended_blocks, or_empty, block_numbered}

-- what holds of each item of two lists holds of each item of both behind one another
pub each_both : {X : Type 0} (P : X → Type 0) (first second : List X) → AllByRecursion P first → AllByRecursion P second → AllByRecursion P (first ++ second)
each_both P [] second each later = later
each_both P (x ∷ first) second each later = (each.0, each_both P first second each.1 later)

-- what follows from what holds of each item holds of each
pub each_follows : {X : Type 0} (P Q : X → Type 0) → ((x : X) → P x → Q x) → (xs : List X) → AllByRecursion P xs → AllByRecursion Q xs
each_follows P Q follows [] each = tt
each_follows P Q follows (x ∷ xs) each = (follows x each.0, each_follows P Q follows xs each.1)

-- what holds of each holds of those that are left when the first are dropped
pub each_dropped : {X : Type 0} (P : X → Type 0) (n : ℕ) (xs : List X) → AllByRecursion P xs → AllByRecursion P (drop n xs)
each_dropped P zero xs each = each
each_dropped P (suc n) [] each = tt
each_dropped P (suc n) (x ∷ xs) each = each_dropped P n xs each.1

-- there is no event, or it is such
abbrev pub IfEvent : (Event → Type 0) → Option Event → Type 0
IfEvent P None = Unit {0}
IfEvent P (Some event) = P event

-- each event of a client's own entries is such
abbrev pub EachOwn : (Event → Type 0) → List Entry → Type 0
EachOwn P own = AllByRecursion (λ e. IfEvent P e.event) own

-- an event of an entry is such where the entry is a client's
abbrev pub AtClient : (Event → Type 0) → Node → Option Event → Type 0
AtClient P Server event = Unit {0}
AtClient P (Client c) event = IfEvent P event

-- each event of the clients is such
abbrev pub EachEvent : (Event → Type 0) → List Entry → Type 0
EachEvent P es = AllByRecursion (λ e. AtClient P e.node e.event) es

module _ (P : Event → Type 0) where
  -- an open block goes on so, by an event that is none's or its thread's
  goes : (event : Event) (b ends : Bool) (block : List Event) → P event → AllByRecursion P block → AllByRecursion P (cond b (cond ends [] (block ++ event ∷ [])) block)
  goes event true true block is each = tt
  goes event true false block is each = each_both P block (event ∷ []) each (is, tt)
  goes event false ends block is each = each

  goes_by : (t : ThreadId) (event : Option Event) (locks : Locks) (block : List Event) → IfEvent P event → AllByRecursion P block
      → AllByRecursion P (by_event (λ event block. cond (is_act_of t event) (block_after event locks block) block) event block)
  goes_by t None locks block is each = each
  goes_by t (Some event) locks block is each = goes event (is_act_of t event) (is_some (ending_of event locks)) block is each

  -- Each event of an open block is such,
  pub each_open : (t : ThreadId) (own : List Entry) → EachOwn P own → AllByRecursion P (open_block t own)
  each_open t [] each = tt
  each_open t (e ∷ es) each = goes_by t e.event (locks_of t es) (open_block t es) each.0 (each_open t es each.1)

  -- the block that an event ends
  each_if : (ending : Option Ending) (block : List Event) → AllByRecursion P block → AllByRecursion (AllByRecursion P) (block_if ending block)
  each_if None block each = tt
  each_if (Some ending) block each = (each, tt)

  ended_with : (event : Option Event) (es : List Entry) (blocks : List (List Event)) → IfEvent P event → EachOwn P es → AllByRecursion (AllByRecursion P) blocks
      → AllByRecursion (AllByRecursion P) (by_event (λ event blocks. blocks ++ ended_by event es) event blocks)
  ended_with None es blocks is each before = before
  ended_with (Some (Lost client)) es blocks is each before = each_both (AllByRecursion P) blocks [] before tt
  ended_with (Some (Act thread request reply woken)) es blocks is each before =
      let event : Event = Act thread request reply woken in
      each_both (AllByRecursion P) blocks (block_if (ending_of event (locks_of thread es)) (open_block thread es ++ event ∷ [])) before
      (each_if (ending_of event (locks_of thread es)) (open_block thread es ++ event ∷ [])
      (each_both P (open_block thread es) (event ∷ []) (each_open thread es each) (is, tt)))

  -- of every ended block,
  pub each_ended : (own : List Entry) → EachOwn P own → AllByRecursion (AllByRecursion P) (ended_blocks own)
  each_ended [] each = tt
  each_ended (e ∷ es) each = ended_with e.event es (ended_blocks es) each.0 each.1 (each_ended es each.1)

  -- of the one of each number,
  each_at : (n : ℕ) (blocks : List (List Event)) → AllByRecursion (AllByRecursion P) blocks → AllByRecursion P (or_empty (slice_get blocks n))
  each_at n [] each = tt
  each_at zero (block ∷ blocks) each = each.0
  each_at (suc n) (block ∷ blocks) each = each_at n blocks each.1

  pub each_numbered : (n : ℕ) (blocks : List (List Event)) → AllByRecursion (AllByRecursion P) blocks → AllByRecursion P (block_numbered n blocks)
  each_numbered zero blocks each = tt
  each_numbered (suc n) blocks each = each_at n blocks each

  -- the events of one client
  pub each_own : (c : ℕ) (es : List Entry) → EachEvent P es → EachOwn P (entries_of (Client c) es)
  each_own c [] each = tt
  each_own c (e ∷ es) each = by e.node each.0 (each_own c es each.1)
    where
      at : (b : Bool) → IfEvent P e.event → EachOwn P (entries_of (Client c) es) → EachOwn P (cond b (e ∷ entries_of (Client c) es) (entries_of (Client c) es))
      at true is later = (is, later)
      at false is later = later

      by : (node : Node) → AtClient P node e.event → EachOwn P (entries_of (Client c) es) → EachOwn P (cond (is_node (Client c) node) (e ∷ entries_of (Client c) es) (entries_of (Client c) es))
      by Server is later = later
      by (Client d) is later = at (eqb c d) is later

  -- of the one whose record the server takes,
  pub each_taken : (c n : ℕ) (es : List Entry) → EachEvent P es → AllByRecursion P (block_numbered n (ended_blocks (entries_of (Client c) es)))
  each_taken c n es each = each_numbered n (ended_blocks (entries_of (Client c) es)) (each_ended (entries_of (Client c) es) (each_own c es each))

  module _ (lost : (c : ℕ) → P (Lost c)) where
    taken_or_none : (b : Bool) (block : List Event) → AllByRecursion P block → AllByRecursion P (cond b [] block)
    taken_or_none true block each = tt
    taken_or_none false block each = each

    given : (i : Input) (es : List Entry) → EachEvent P es → AllByRecursion P (made_by i es)
    given (input.TookUp c (up.Commit txn)) es each = taken_or_none (is_lost c (entries_of Server es)) (block_numbered txn.seq (ended_blocks (entries_of (Client c) es))) (each_taken c txn.seq es each)
    given (input.Lose c) es each = (lost c, tt)
    given i es each = tt

    given_at : (node : Node) (i : Input) (es : List Entry) → EachEvent P es → AllByRecursion P (made_at node i es)
    given_at Server i es each = given i es each
    given_at (Client c) i es each = tt

    -- and of the history as made.
    pub each_made : (es : List Entry) → EachEvent P es → AllByRecursion P (as_made es)
    each_made [] each = tt
    each_made (e ∷ es) each = each_both P (as_made es) (made_at e.node e.input es) (each_made es each.1) (given_at e.node e.input es each.1)
