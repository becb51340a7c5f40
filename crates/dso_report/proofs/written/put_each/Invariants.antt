use Rattle.std.proofs.Common.{◌≡◌, ◌++◌, take}
use Rattle.std.specs.Prelude.{flat_map}
use Rattle.dso_report.proofs.written.put_each.Given as goal

-- the words of the items so far stand behind what stood before
abbrev pub invariant-loop-item : goal.invariant-loop-item
invariant-loop-item g l = l.text.items ≡ l.fn.text.items ++ flat_map (λ item. l.lead ++ g.T.Written.words item) (take l.item-index l.items)
