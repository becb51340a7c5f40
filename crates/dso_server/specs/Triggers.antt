-- The triggers of a client, in order, and which of them are due.
use Rattle.std.specs.List.{list_any}
use Rattle.std.specs.List.Sorted.{IsNonDecreasing}
use Rattle.std.specs.Prelude.{ℕ, Bool, eqb, not, ltb, ◌&&◌, List, IsPermutation, filter, length, map}
use Rattle.dso_base.specs.declared.journal.Trigger.{Trigger}
use Rattle.dso_law.specs.ServerReadings.{is_reached}
use Rattle.dso_server.specs.declared.triggers.Triggers.{Triggers}

-- a loss is due of a client, of which so many messages were taken
abbrev pub loss_due_by : ℕ → ℕ → Bool → List Trigger → Bool
loss_due_by c taken lost losses = not lost && list_any (is_reached c taken) losses

-- a break of its connection is due, which was broken so often, where no loss is
abbrev pub break_due_by : ℕ → ℕ → Bool → Bool → ℕ → List Trigger → Bool
break_due_by c taken lost loss_due broke breaks =
    not lost && (not loss_due && ltb broke (length (filter (is_reached c taken) breaks)))

-- the numbers of messages taken at which the client's triggers are reached
abbrev pub numbers_of : ℕ → List Trigger → List ℕ
numbers_of c triggers = map (λ trigger. trigger.after) (filter (λ trigger. eqb trigger.client c) triggers)

-- these are those, the least first
pub record AreInOrder (c : ℕ) (triggers : List Trigger) (numbers : List ℕ) : Type 0 where
  pub all : IsPermutation (numbers_of c triggers) numbers
  pub rising : IsNonDecreasing numbers

-- the triggers of the client are those among these losses and breaks
pub record AreTriggersOf (c : ℕ) (losses breaks : List Trigger) (triggers : Triggers) : Type 0 where
  pub at_loss : AreInOrder c losses triggers.losses.items
  pub at_break : AreInOrder c breaks triggers.breaks.items
