use Rattle.std.proofs.Common.{◌≡◌, take}
use Rattle.dso_machine.proofs.copies.copied_places.Given as goal

-- the list has what was gone over so far
abbrev pub invariant-loop-place : goal.invariant-loop-place
invariant-loop-place l = l.copy ≡ take l.place-index l.all
