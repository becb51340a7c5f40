-- What a thread has in hand, as its private objects and its open block keep it.
use Rattle.std.specs.Prelude.{ℕ, Bool, eqb, ◌&&◌, Option, Some, None, List, [], ◌∷◌, ◌++◌, find, slice_get}
use Rattle.std.specs.Option.{option_map}
use Rattle.std.specs.Ordering.{nat_cmp}
use Rattle.dso_base.specs.declared.lock.ThreadId.{ThreadId}
use Rattle.dso_base.specs.declared.record.Body.{Body}
use Rattle.dso_base.specs.declared.record.Note.{Note}
use Rattle.dso_base.specs.declared.record.Set.{Set}
use Rattle.dso_base.specs.declared.value.Value.{Value}
use Rattle.dso_change.specs.Hands as hands
use Rattle.dso_change.specs.Hands.{Hand, IsBlank, sets_of}
use Rattle.dso_lookup.specs.Maps.{look}
use Rattle.dso_txn.specs.declared.open_block.OpenBlock.{OpenBlock}
use Rattle.dso_txn.specs.declared.privates.Privates.{Privates}

-- the private objects, by id
abbrev pub bodies_in : Privates → ℕ → Option Body
bodies_in privates = look nat_cmp privates.bodies

-- the thread whose block it is
abbrev pub thread_of : OpenBlock → ThreadId
thread_of block = block.thread

-- nothing was done in the block
abbrev pub IsEmpty : OpenBlock → Type 0
IsEmpty block = IsBlank block.draft

-- the block with a printed value more
abbrev pub with_output : Value → OpenBlock → OpenBlock
with_output value block = record block { draft = record block.draft { outs = block.draft.outs ++ value ∷ [] } }

-- the block with a notification more
abbrev pub with_note : Note → OpenBlock → OpenBlock
with_note note block = record block { draft = record block.draft { notes = block.draft.notes ++ note ∷ [] } }

-- the objects that the block published, by id
abbrev pub news_in : OpenBlock → ℕ → Option Body
news_in block = look nat_cmp block.draft.news

-- the sets of the block, by rising object and field
abbrev pub sets_in : OpenBlock → List Set
sets_in block = sets_of block.draft.sets

-- both together
abbrev pub hand_in : Privates → OpenBlock → Hand
hand_in privates block = hands.hand_in privates.bodies block.draft

-- the set is of this field
abbrev pub is_of_field : ℕ → ℕ → Set → Bool
is_of_field o f set = eqb set.object o && eqb set.field f

-- the value that was put in the field of an object that was shared before
abbrev pub put_value : ℕ → ℕ → List Set → Option Value
put_value o f sets = option_map (λ set. set.value) (find (is_of_field o f) sets)

-- the field's value in a published object, where it is one, else the other
abbrev pub in_body : ℕ → Option Body → Option Value → Option Value
in_body f None other = other
in_body f (Some body) other = slice_get body.values f

-- the block's latest value of the field
abbrev pub value_in : (ℕ → Option Body) → List Set → ℕ → ℕ → Option Value
value_in news sets o f = in_body f (news o) (put_value o f sets)
