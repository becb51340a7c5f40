-- How a list holds its items, so that a type may reach itself through a list of its own kind.
-- A list holds exactly its items, in their order; the vector inside is the only place where they lie.
use mathlib.Core.Path.{◌≡◌, refl, sym}
use mathlib.Core.List.{List, []}
use mathlib.Core.Former.{Former, this, list, via, children}
use base.Stored.{code_map}
use denote.RattleType.{RattleType}
use denote.HoleLaws.{Alike}
use denote.HolePlaces.{Recodes, struct_places, laid}
use denote.Hole.Carrier.{listed, list-listed}
use denote.Hole.Fix.{over}
use denote.Param.Weighed.{Weighed, w_list}
use denote.Model.Placed.{view_places}
use Rattle.std.specs.formers.vec.Vec as vec
use Rattle.std.specs.declared.alloc.Global.{Global}
use Rattle.std.specs.contracts.alloc.Global as heap
use Rattle.std.specs.contracts.impls.GlobalAllocator.TheImpl.{ghosts}
use Rattle.dso_base.specs.declared.items.Items.TheInside.{Inside}
use Rattle.dso_base.specs.declared.items.Items.TheView.{view, invariant}
use Rattle.dso_base.specs.contracts.items.Items as outside
use Rattle.dso_base.specs.contracts.items.Items.TheInside as inside

-- the value of a list of things is the list of what the things are
abbrev pub the_former : Former {0} → Former {0}
the_former item = list item

-- it measures as its largest item
abbrev pub the_weighed : {item : Former {0}} → Weighed item → Weighed (the_former item)
the_weighed measure = w_list measure

-- the list that needs no item
pub the_empty : List ⊥
the_empty = []

-- its items are the list itself
abbrev pub the_items : (X : Type 0) → List X → List X
the_items X items = items

-- and they are what it holds, in this order
pub the_items_listed : (X : Type 0) (items : List X) → listed _ (children (the_former this) X items) ≡ the_items X items
the_items_listed X items = list-listed X items

-- the vector inside, as the one field
abbrev the_field : Former {0}
the_field = via (vec.the_former this Global) Inside (λ X fields. fields.items) (λ X held. record { items = held })
    (λ X fields. refl)
    (λ X held. refl)

module _ (R S : RattleType) (h : R.Denot → S.Denot) where
  -- where two kinds of item lie alike, so do the lists of them
  pub the_places : Alike R S h → Alike (outside.the_row R) (outside.the_row S) ((the_former this).map R.Denot S.Denot h)
  the_places alike = view_places the_field (list this) view (λ X Y k fields. refl) (λ X fields. refl) R.Denot S.Denot h
      (outside.the_row R).coded (outside.the_row S).coded (invariant R.Denot) (invariant S.Denot) (λ fields p q. refl)
      (λ fields p q. refl)
      (λ fields same. tt) (λ fields same. tt) (over (inside.the_row R)) (over (inside.the_row S))
      (struct_places (inside.the_type R) (inside.the_type S) (vec.mapped h, tt) _ (λ fields. refl) refl
      (laid _ _ _ (vec.the_places heap.the_row ghosts R S h alike), tt))

  -- where two kinds of item have the same codes, so have the lists of them
  pub the_codes_placed : Recodes R S h
      → Recodes (outside.the_row R) (outside.the_row S) ((the_former this).map R.Denot S.Denot h)
  the_codes_placed same items = sym (code_map R.coded.code S.coded.code h (λ item. sym (same item)) items)
