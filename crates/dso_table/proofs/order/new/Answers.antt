use Rattle.std.proofs.Common.{rules, ◌≡◌, ◌∙◌, ap, [], ◌||◌}
use Rattle.std.proofs.Math.Path.{fun_ext}
use Rattle.std.specs.BTreeMap.{is_at}
use Rattle.std.specs.List.{list_any}
use Rattle.std.specs.Ordering.{nat_cmp}
use Rattle.dso_lookup.specs.Search.{is_listed}
use Rattle.dso_table.specs.ObjectTables.{used_in}
use Rattle.dso_table.proofs.order.new.Goals.{in-Some+in_ok-sparse-in-Some, in-None}
use Rattle.dso_table.proofs.order.new.Goals as goal

pub returns-clause-ordered : goal.returns-clause-ordered
returns-clause-ordered c =
    let used : used_in (record { recent = c.match-new.recent; others = c.new-2.result }) ≡ [] = search rules in
    fun_ext (λ p. ap (λ xs. is_listed p xs || list_any (is_at (nat_cmp p)) c.new-2.result.keys) used ∙ ap (λ xs. list_any (is_at (nat_cmp p)) xs) c.new-2.ensures.empty)
