-- How the order of the graph's objects grows by the entries of a map.
use Rattle.std.proofs.Common.{◌≡◌, ℕ, ◌<◌, ◌+◌, List, length, get_or, take, sym, ap, ◌∙◌}
use Rattle.std.proofs.lemmas.List.Sums.{fold_more}
use Rattle.dso_report.specs.declared.maps.MapEntry.{MapEntry}
use Rattle.dso_report.specs.Numbering.{add_entries, add_object}

-- the order with the object of an entry
abbrev with_object : List ℕ → MapEntry → List ℕ
with_object order entry = add_object order entry.object

-- one entry more
pub entries_more : (entries : List MapEntry) (i : ℕ) (d : MapEntry) (before old new : List ℕ) → i < length entries → old ≡ add_entries (take i entries) before → new ≡ add_object old (get_or entries i d).object → new ≡ add_entries (take (i + 1) entries) before
entries_more entries i d before old new within so is =
    is ∙ ap (λ order. with_object order (get_or entries i d)) so ∙ sym (fold_more with_object before entries i d within)
