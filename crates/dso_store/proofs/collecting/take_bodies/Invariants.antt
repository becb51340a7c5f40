use Rattle.std.proofs.Common.{ℕ, ◌+◌, ◌≤◌, ◌≡◌, drop, Option, List}
use Rattle.std.specs.Ordering.{nat_cmp}
use Rattle.dso_base.specs.declared.record.Body.{Body}
use Rattle.dso_lookup.specs.Maps.{look}
use Rattle.dso_store.specs.Collecting.{count_there, without}
use Rattle.dso_store.proofs.collecting.take_bodies.Given as goal

-- the rest is to be taken out and counted
pub record AreTaken (objects : List ℕ) (first now : ℕ → Option Body) (count place : ℕ) : Type 0 where
  pub bodies : without (drop place objects) now ≡ without objects first
  pub counted : count + count_there now (drop place objects) ≡ count_there first objects
  pub few : count ≤ place

abbrev pub invariant-loop-object : goal.invariant-loop-object
invariant-loop-object l = AreTaken l.objects (look nat_cmp l.initial.bodies) (look nat_cmp l.bodies) l.count l.object-index
