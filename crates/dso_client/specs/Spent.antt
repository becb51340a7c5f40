-- That a client is spent: an allocation was refused it, and what it keeps stands for no entries that are known.
use Rattle.std.specs.Prelude.{◌≡◌, Bool, false, is_some}
use Rattle.dso_client.specs.declared.client_state.ClientState.{ClientState}

-- the client keeps the refusal that spent it
abbrev pub is_spent : ClientState → Bool
is_spent kept = is_some kept.spent

-- what is claimed of a client unless it is spent
abbrev pub WhileWhole : ClientState → Type 0 → Type 0
WhileWhole kept claim = is_spent kept ≡ false → claim
