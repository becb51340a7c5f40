-- Bounds on what a client holds.
use Rattle.std.proofs.Common.{ℕ, ◌≤◌, arith}
use Rattle.dso_client.specs.declared.client_state.ClientState.{ClientState}
use Rattle.dso_client.specs.ThreadActs.{HoldsAtMost}

-- holds that are no more than some are no more than more
pub holds_more : (few more : ℕ) (kept : ClientState) → few ≤ more → HoldsAtMost few kept → HoldsAtMost more kept
holds_more few more kept less holds = record {
  held = λ t l. let h = holds.held t l in omega (arith, less, h);
  waiting = λ index. let h = holds.waiting index in omega (arith, less, h);
}
