use Rattle.std.proofs.Common.{◌≡◌}
use Rattle.toml.specs.View.{members_view}
use Rattle.dso_config.specs.Keys.{has_known_keys}
use Rattle.dso_config.proofs.keys.has_known_keys.Given as goal

-- the keys that still come decide
abbrev pub invariant-members : goal.invariant-members
invariant-members l =
    (goal.iterator-members).can_next l.key-iterator × (goal.iterator-members).is_finite l.key-iterator
    × (has_known_keys l.section (members_view l.key-iterator) ≡ has_known_keys l.section (members_view l.table.entries))
