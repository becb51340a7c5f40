-- Whether a client is ahead of the server, by its first record that isn't acknowledged.
use Rattle.std.proofs.Common.{ℕ, ◌≡◌, ◌≤◌, ◌-◌, ◌↔◌, false, arith}
use Rattle.dso_client.specs.declared.client_state.ClientState.{ClientState}
use Rattle.dso_client.specs.ClientViews.{is_unacknowledged, records_sent}
use Rattle.dso_txn.specs.Numbers.{IsLeast}
use Rattle.dso_cell.specs.ClientCells.{IsAhead}

-- it is where that one is far enough behind
pub ahead_by_first : (core : ClientState) (first : ℕ) → IsLeast first (is_unacknowledged core) → (16 ≤ records_sent core - first) ↔ IsAhead core
ahead_by_first core first h =
    (λ far. record { first = first; waits = h.kept; far = omega (arith, far) }, λ is. omega (arith, h.least is.first is.waits, is.far))

-- it isn't where there is none
pub not_ahead : (core : ClientState) → ((n : ℕ) → is_unacknowledged core n ≡ false) → IsAhead core → ⊥
not_ahead core none is = absurd (cc (none is.first, is.waits))
