-- What a message that is taken makes of a client.
use Rattle.std.specs.Prelude.{◌≡◌, ◌&&◌, ℕ, false, is_some, List, [], ◌∷◌}
use Rattle.dso_base.specs.declared.journal.Entry.{Entry}
use Rattle.dso_base.specs.declared.lock.LockName.{LockName}
use Rattle.dso_base.specs.declared.message.Down.{Down}
use Rattle.dso_base.specs.declared.message.Up.{Up}
use Rattle.dso_law.specs.ClientStep.{returns}
use Rattle.dso_law.specs.Closing.{is_lease_due}
use Rattle.dso_law.specs.FitsDown.{FitsDown}
use Rattle.dso_law.specs.Leases.{leased}
use Rattle.dso_law.specs.Settings.{Settings}
use Rattle.dso_machine.specs.declared.code.Code.{Code}
use Rattle.dso_client.specs.declared.client_state.ClientState.{ClientState}
use Rattle.dso_client.specs.ClientStands.{ClientStands}
use Rattle.dso_client.specs.Entries.{taken_entry}
use Rattle.dso_client.specs.MessageEffects.{heard}
use Rattle.dso_client.specs.StateStands.{ClientPartsStand}
use Rattle.dso_client.specs.RunPoints.{RunPoint}

-- A message that fits: the client stands for its entries with the one that takes it, which follows them by the client
-- rule. One that doesn't changes and sends nothing.
pub record TakesIn (code : Code) (p : Settings) (c clock : ℕ) (m : Down) (es : List Entry) (sent : List Up)
    (old new : ClientState) : Type 0 where
  pub taken : FitsDown p c m es → ClientStands code p c new (taken_entry clock c m sent ∷ es)
  pub unfit : (FitsDown p c m es → ⊥) → (new ≡ old) × (sent ≡ [])

-- so for whatever entries the client stood for
abbrev pub Takes : Code → Down → ClientState → ClientState → List Up → Type 0
Takes code m old new sent = (p : Settings) (c clock : ℕ) (es : List Entry) → ClientStands code p c old es
    → TakesIn code p c clock m es sent old new

-- the point once the message was taken, and these were sent
abbrev pub settled : ℕ → Down → List Up → RunPoint → RunPoint
settled clock m sent at = record at { entries = taken_entry clock at.client m sent ∷ at.entries }

-- What is sent are the leases that are to be given back once the message was taken, and the parts stand with the entry.
pub record Settles (clock : ℕ) (m : Down) (at : RunPoint) (sent : List Up) (new : ClientState) : Type 0 where
  pub sends : sent ≡ returns at.settings at.client at.next (heard clock m at).entries
  pub parts : ClientPartsStand (settled clock m sent at) new

-- no lease is to be given back
abbrev pub IsQuiet : RunPoint → Type 0
IsQuiet at = (l : LockName)
    → (is_some (leased l at.entries) && is_lease_due at.settings at.client at.next l at.entries) ≡ false
