-- Who failed and who is lost, told by a walk through a journal.
use Rattle.std.proofs.Common.{◌≡◌, ◌∙◌, refl, sym, ap, ℕ, Bool, true, false, cond, not, ◌&&◌, ◌||◌, Option, Some, None, List, [], ◌∷◌, ◌++◌, reverse, slice_index_or}
use Rattle.std.specs.List.{list_any}
use Rattle.std.proofs.lemmas.List.Folds.{list_any-append, list_any_none}
use Rattle.std.proofs.lemmas.List.Sorted.{IsPermutation-reverse, list_any-IsPermutation}
use Rattle.dso_base.specs.declared.journal.Entry.{Entry}
use Rattle.dso_base.specs.declared.journal.Node.{Node}
use Rattle.dso_base.specs.declared.journal.Node.TheVariants.{Server, Client}
use Rattle.dso_base.specs.declared.lock.ThreadId.{ThreadId}
use Rattle.dso_base.specs.declared.request.Event.{Event}
use Rattle.dso_law.specs.Entries.{add_event, by_event, entries_of, events_in, is_node}
use Rattle.dso_law.specs.ServerReadings.{is_lost, loses}
use Rattle.dso_plain.specs.History.{is_act_of}
use Rattle.dso_run.specs.Failing.{fails, fails_kept, is_failure_of, is_fault, is_loss, tells_fault}
use Rattle.dso_run.specs.RunEnds.{has_failed, is_failure, is_faulty}

-- a test finds the same in a list and in its reverse
reversed : {X : Type 0} (test : X → Bool) (xs : List X) → list_any test (reverse xs) ≡ list_any test xs
reversed test xs = sym (list_any-IsPermutation test xs (reverse xs) (IsPermutation-reverse xs))

-- what a test finds among a node's entries
of_node : (test : Entry → Bool) (node : Node) (es : List Entry) → list_any test (entries_of node es) ≡ list_any (λ e. is_node node e.node && test e) es
of_node test node [] = refl
of_node test node (e ∷ es) = by (is_node node e.node) (of_node test node es)
  where
    by : (own : Bool) → list_any test (entries_of node es) ≡ list_any (λ e. is_node node e.node && test e) es
        → list_any test (cond own (e ∷ entries_of node es) (entries_of node es)) ≡ (own && test e || list_any (λ e. is_node node e.node && test e) es)
    by true before = ap (λ b. test e || b) before
    by false before = before

-- one event more, by whether it is an act of the thread
with_event : (t : ThreadId) (event : Event) (events : List Event) (own : Bool)
    → list_any is_failure (cond own (events ++ event ∷ []) events) ≡ (own && is_failure event || list_any is_failure events)
with_event t event events true = list_any-append is_failure events (event ∷ []) ∙ either (list_any is_failure events) (is_failure event)
  where
    either : (a b : Bool) → (a || (b || false)) ≡ (b || a)
    either true true = refl
    either true false = refl
    either false true = refl
    either false false = refl
with_event t event events false = refl

-- and by whether there is an event
with_any : (t : ThreadId) (event : Option Event) (events : List Event)
    → list_any is_failure (by_event (add_event t) event events) ≡ (is_failure_of t event || list_any is_failure events)
with_any t None events = refl
with_any t (Some event) events = with_event t event events (is_act_of t event)

-- the thread failed where one of the entries tells so
failed_by : (t : ThreadId) (es : List Entry) → has_failed t es ≡ list_any (fails t) es
failed_by t [] = refl
failed_by t (e ∷ es) = by (is_node (Client t.client) e.node) (failed_by t es)
  where
    by : (own : Bool) → has_failed t es ≡ list_any (fails t) es
        → list_any is_failure (events_in t (cond own (e ∷ entries_of (Client t.client) es) (entries_of (Client t.client) es)))
        ≡ (own && is_failure_of t e.event || list_any (fails t) es)
    by true before = with_any t e.event (events_in t (entries_of (Client t.client) es)) ∙ ap (λ b. is_failure_of t e.event || b) before
    by false before = before

-- so of a journal, whose first entry stands first
pub failed : (t : ThreadId) (journal : List Entry) → has_failed t (reverse journal) ≡ list_any (fails t) journal
failed t journal = failed_by t (reverse journal) ∙ reversed (fails t) journal

-- and the client is lost where one of them tells that
pub lost : (c : ℕ) (journal : List Entry) → is_lost c (entries_of Server (reverse journal)) ≡ list_any (is_loss c) journal
lost c journal = of_node (λ e. loses c e.input) Server (reverse journal) ∙ reversed (is_loss c) journal

-- two tests of a journal, the first one behind a condition, are one test
both : {X : Type 0} (first second : X → Bool) (kept : Bool) (xs : List X)
    → (list_any first xs && kept || list_any second xs) ≡ list_any (λ x. first x && kept || second x) xs
both first second kept [] = refl
both first second kept (x ∷ xs) = either (first x) (list_any first xs) kept (second x) (list_any second xs)
    ∙ ap (λ rest. (first x && kept || second x) || rest) (both first second kept xs)
  where
    either : (a b k c d : Bool) → ((a || b) && k || (c || d)) ≡ ((a && k || c) || (b && k || d))
    either true b true c d = refl
    either true b false true d = refl
    either true true false false d = refl
    either true false false false d = refl
    either false true true true d = refl
    either false true true false d = refl
    either false true false true d = refl
    either false true false false d = refl
    either false false k true d = refl
    either false false k false d = refl

-- a kept thread failed where one of the entries tells so of one of the threads
pub faulty : (threads : List ThreadId) (journal : List Entry) → is_faulty threads (reverse journal) ≡ list_any (tells_fault threads (reverse journal)) journal
faulty threads journal = by threads
  where
    by : (ts : List ThreadId) → is_faulty ts (reverse journal) ≡ list_any (tells_fault ts (reverse journal)) journal
    by [] = sym (list_any_none (λ e. false) journal (λ k d within. refl))
    by (t ∷ ts) = ap (λ b. b && kept || is_faulty ts (reverse journal)) (failed t journal)
        ∙ ap (λ b. list_any (fails t) journal && kept || b) (by ts)
        ∙ both (fails t) (tells_fault ts (reverse journal)) kept journal
      where
        kept : Bool
        kept = not (is_lost t.client (entries_of Server (reverse journal)))

-- and none where the entry's event is no such fault
pub of_no_fault : (threads : List ThreadId) (es : List Entry) (e : Entry) → is_fault e.event ≡ false → tells_fault threads es e ≡ false
of_no_fault threads es e none = list_any_none (fails_kept es e) threads (λ k d within. not_this (slice_index_or threads k d))
  where
    no_failure : (t : ThreadId) (event : Option Event) → is_fault event ≡ false → is_failure_of t event ≡ false
    no_failure t None none = refl
    no_failure t (Some event) none = ap (λ b. is_act_of t event && b) none ∙ ends (is_act_of t event)
      where
        ends : (own : Bool) → (own && false) ≡ false
        ends true = refl
        ends false = refl

    one : (own kept : Bool) → ((own && false) && kept) ≡ false
    one true kept = refl
    one false kept = refl

    not_this : (t : ThreadId) → fails_kept es e t ≡ false
    not_this t = ap (λ b. (is_node (Client t.client) e.node && b) && not (is_lost t.client (entries_of Server es))) (no_failure t e.event none)
        ∙ one (is_node (Client t.client) e.node) (not (is_lost t.client (entries_of Server es)))
