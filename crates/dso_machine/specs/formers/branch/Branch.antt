-- How a branch holds its value, so that a tree may reach itself through a branch of its own kind.
use mathlib.Core.Path.{refl}
use mathlib.Core.Former.{Former, this, const, pair, via}
use base.Stored.{gnil}
use base.Fml.{ftrue}
use denote.RattleType.{RattleType}
use denote.Memory.{part_of}
use denote.RawPtr.{Ptr}
use denote.Sharing.{nothing}
use denote.HoleLaws.{Alike}
use denote.HolePlaces.{Recodes, struct_places, laid, one_value}
use denote.Hole.Fix.{over}
use denote.Param.Weighed.{Weighed}
use denote.Model.Placed.{view_places}
use Rattle.std.specs.declared.sync.Arc.{Arc}
use Rattle.std.specs.contracts.sync.Arc as arc
use Rattle.std.specs.declared.alloc.Global.{Global}
use Rattle.std.specs.contracts.alloc.Global as heap
use Rattle.std.specs.contracts.impls.GlobalAllocator.TheImpl.{ghosts}
use Rattle.dso_machine.specs.declared.branch.Branch.TheInside.{Inside}
use Rattle.dso_machine.specs.declared.branch.Branch.TheView.{view, invariant}
use Rattle.dso_machine.specs.contracts.branch.Branch as outside
use Rattle.dso_machine.specs.contracts.branch.Branch.TheInside as inside

-- the value of a branch is the value in it
abbrev pub the_former : Former {0} → Former {0}
the_former value = value

-- it measures as the value in it
abbrev pub the_weighed : {value : Former {0}} → Weighed value → Weighed (the_former value)
the_weighed measure = measure

-- the standard library's counted block inside: where it is, and the value
abbrev the_field : Former {0}
the_field = via (pair (const Ptr) this) Inside
    (λ X fields. (fields.inner.ptr, fields.inner.value))
    (λ X held. record { inner = record { ptr = held.0; value = held.1 } }) (λ X fields. refl)
    (λ X held. refl)

-- the same block with another value in it
abbrev with_value : {X Y : Type 0} → Arc X Global → Y → Arc Y Global
with_value block y = record { ptr = block.ptr; value = y }

-- the standard library's counted block of a type
abbrev arc_of : RattleType → RattleType
arc_of R = arc.the_row R heap.the_row ghosts

module _ (R S : RattleType) (h : R.Denot → S.Denot) where
  -- where two types lie alike, so do the standard library's counted blocks of them
  arc_places : Alike R S h → Alike (arc_of R) (arc_of S) (λ block. with_value block (h block.value))
  unfolding part_of
  arc_places alike = record {
    mir_same = λ i. (arc_of (one_value R (alike.mir_same i) (λ _. ftrue) (λ _ _. nothing) gnil)).mir;
    own_same = λ block i. (arc_of
        (one_value R (alike.mir_same i) (alike.own_same block.value i) (alike.shr_same block.value i) gnil)).own_val
        (with_value block tt);
    shr_same = λ block i. (arc_of
        (one_value R (alike.mir_same i) (alike.own_same block.value i) (alike.shr_same block.value i) gnil)).shr_at
        (with_value block tt);
  }

  -- where two types lie alike, so do the branches of them
  pub the_places : Alike R S h → Alike (outside.the_row R) (outside.the_row S) ((the_former this).map R.Denot S.Denot h)
  the_places alike = view_places the_field this view (λ X Y k fields. refl) (λ X fields. refl) R.Denot S.Denot h
      (outside.the_row R).coded (outside.the_row S).coded (invariant R.Denot) (invariant S.Denot) (λ fields p q. refl)
      (λ fields p q. refl)
      (λ fields same. tt) (λ fields same. tt) (over (inside.the_row R)) (over (inside.the_row S))
      (struct_places (inside.the_type R) (inside.the_type S) ((λ block. with_value block (h block.value)), tt) _
      (λ fields. refl) refl
      (laid _ _ _ (arc_places alike), tt))

  -- where two types have the same codes, so have the branches of them
  pub the_codes_placed : Recodes R S h
      → Recodes (outside.the_row R) (outside.the_row S) ((the_former this).map R.Denot S.Denot h)
  the_codes_placed same value = same value
