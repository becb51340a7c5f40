-- How the order of the graph's objects grows by a visit.
use Rattle.std.proofs.Common.{◌≡◌, ℕ, suc, ◌≤◌, ◌<◌, ◌+◌, Some, List, length, get_or, slice_get, sym, ap, ◌∙◌, arith, add-one}
use Rattle.std.proofs.lemmas.Option.{slice_get-get_or}
use Rattle.dso_plain.specs.State.{PlainState}
use Rattle.dso_report.specs.MapEntries.{is_map_there}
use Rattle.dso_report.specs.Numbering.{add_shown, visit, visited}
use Rattle.dso_report.proofs.ordering.GoesOn.{shown_goes_on, no_shorter}

-- where the objects that an object shows are added the order gets no shorter
shown_grows : (s : PlainState) (o : ℕ) (order : List ℕ) → length order ≤ length (add_shown s o order)
shown_grows s o order = no_shorter order (add_shown s o order) (shown_goes_on s o (is_map_there (s.objects o)) order)

-- one visit more
pub visits_more : (s : PlainState) (order next : List ℕ) (n : ℕ) → n < length order → order ≡ visited s n → next ≡ add_shown s (get_or order n 0) order → (next ≡ visited s (n + 1)) × (n + 1 ≤ length next)
visits_more s order next n within so is =
    let o = get_or order n 0 in
    let stands : slice_get order n ≡ Some o = slice_get-get_or order n 0 within in
    let seen : next ≡ visited s (suc n) = is ∙ ap (λ found. visit s found order) (sym stands) ∙ ap (λ before. visit s (slice_get before n) before) so in
    (rw add-one seen, omega (arith, within, ap length is, shown_grows s o order))
