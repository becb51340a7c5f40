-- Requests of a lock, as the server rule has them.
use Rattle.std.specs.List.{list_any}
use Rattle.std.specs.Prelude.{◌≡◌, false, eqb, List, [], ◌∷◌}
use Rattle.dso_law.specs.Granting.{Waiter}
use Rattle.dso_locks.specs.declared.queue.Request.{Request}

-- the request as the rule has it
abbrev pub waiter_of : Request → Waiter
waiter_of request = record { client = request.client; level = request.level }

-- each client has one request at most
abbrev pub AreDifferent : List Waiter → Type 0
AreDifferent [] = Unit {0}
AreDifferent (waiter ∷ queue) = (list_any (λ other. eqb other.client waiter.client) queue ≡ false)
    × AreDifferent queue
