-- A history played on one heap, event by event, and as its entries give it.
use Rattle.std.proofs.Common.{ℕ, ◌+◌, ◌<◌, ◌≡◌, sym, ◌∙◌, ap, subst, List, [], ◌∷◌, ◌++◌, length, take, reverse, get_or}
use Rattle.std.specs.Prelude.{drop}
use Rattle.std.proofs.lemmas.List.{take_more, drop_more, take-append-drop, reverse-append}
use Rattle.dso_base.specs.declared.journal.Entry.{Entry}
use Rattle.dso_base.specs.declared.request.Event.{Event}
use Rattle.dso_base.specs.declared.shape.Shape.{Shape}
use Rattle.dso_plain.specs.After.{after}
use Rattle.dso_plain.specs.History.{Runs, end_of}
use Rattle.dso_plain.specs.Possible.{May}
use Rattle.dso_plain.specs.State.{PlainState}
use Rattle.dso_plain.proofs.independence.RunsSwap.{runs_in_parts, ends_in_parts}
use Rattle.dso_legal.specs.Committed.{committed_at, committed}
use Rattle.dso_legal.specs.JournalPass.{PassState, pass_state_of, given_at, without_history}
use Rattle.dso_legal.proofs.journal_pass.EachEntry.{entry_given}

module _ (shape : Shape) (events : List Event) (s : PlainState) (i : ℕ) (e : Event) (here : i < length events) (item : e ≡ get_or events i e) (runs : Runs shape events s) where
  -- the event is possible where it stands
  pub possible : May shape e (end_of shape (take i events) s)
  possible = subst (λ at. May shape at (end_of shape (take i events) s)) (sym item) (subst (λ rest. Runs shape rest (end_of shape (take i events) s)) (drop_more events i e here)
      ((runs_in_parts shape (take i events) (drop i events) s).0 (subst (λ all. Runs shape all s) (sym (take-append-drop i events)) runs)).1).0

  -- and leads to where the next one stands
  pub leads : after shape e (end_of shape (take i events) s) ≡ end_of shape (take (i + 1) events) s
  leads = ap (λ at. after shape at (end_of shape (take i events) s)) item ∙ (sym (ends_in_parts shape (take i events) (get_or events i e ∷ []) s) ∙ ap (λ first. end_of shape first s) (sym (take_more events i e here)))

-- where all that entries commit runs, what the earlier ones of them commit does
earlier_runs : (shape : Shape) (later es : List Entry) (s : PlainState) → Runs shape (committed (later ++ es)) s → Runs shape (committed es) s
earlier_runs shape [] es s runs = runs
earlier_runs shape (e ∷ later) es s runs = earlier_runs shape later es s ((runs_in_parts shape (committed (later ++ es)) (committed_at e.node e.input (later ++ es)) s).0 runs).0

-- One entry was taken in by a pass that stands behind those before it, and nothing else waits to be played.
module _ (shape : Shape) (entries : List Entry) (s : PlainState) (i : ℕ) (e : Entry) (kept : PassState) (waiting given : List Event) (here : i < length entries) (item : e ≡ get_or entries i e) (stands : kept ≡ without_history (pass_state_of (reverse (take i entries)))) (none : waiting ≡ []) (gives : given ≡ waiting ++ given_at e.node e.input kept) where
  -- what the entries commit is what those before it do, and what it gives
  more : committed (reverse (take (i + 1) entries)) ≡ committed (reverse (take i entries)) ++ given
  more = entry_given entries i e kept given here item stands (gives ∙ ap (λ front. front ++ given_at e.node e.input kept) none)

  -- what it gives runs from where those before it lead
  pub given_runs : Runs shape (committed (reverse entries)) s → Runs shape given (end_of shape (committed (reverse (take i entries))) s)
  given_runs runs =
      let parts : reverse entries ≡ reverse (drop (i + 1) entries) ++ reverse (take (i + 1) entries) = ap reverse (sym (take-append-drop (i + 1) entries)) ∙ reverse-append (take (i + 1) entries) (drop (i + 1) entries) in
      let so_far = earlier_runs shape (reverse (drop (i + 1) entries)) (reverse (take (i + 1) entries)) s (subst (λ es. Runs shape (committed es) s) parts runs) in
      ((runs_in_parts shape (committed (reverse (take i entries))) given s).0 (subst (λ all. Runs shape all s) more so_far)).1

  -- and leads to where the next one stands
  pub given_leads : end_of shape given (end_of shape (committed (reverse (take i entries))) s) ≡ end_of shape (committed (reverse (take (i + 1) entries))) s
  given_leads = sym (ends_in_parts shape (committed (reverse (take i entries))) given s) ∙ ap (λ all. end_of shape all s) (sym more)
