-- What a flush makes of a client.
use Rattle.std.specs.Prelude.{◌≡◌, ℕ, Bool, false, List, ◌∷◌}
use Rattle.dso_base.specs.declared.journal.Entry.{Entry}
use Rattle.dso_law.specs.Settings.{Settings}
use Rattle.dso_law.specs.ClientStep.{may_flush}
use Rattle.dso_law.specs.UseOrder.{IsFlushVictim}
use Rattle.dso_machine.specs.declared.code.Code.{Code}
use Rattle.dso_client.specs.declared.client_state.ClientState.{ClientState}
use Rattle.dso_client.specs.ClientStands.{ClientStands}
use Rattle.dso_client.specs.Entries.{flush_entry}

-- Whatever entries the client stood for, it stands for them with the flush of the object, which follows them by the
-- client rule: that is part of what it stands for.
abbrev pub Flushes : ClientState → ClientState → ℕ → Type 0
Flushes old new o = (code : Code) (p : Settings) (c clock : ℕ) (es : List Entry) → ClientStands code p c old es
    → ClientStands code p c new (flush_entry clock c o ∷ es)

-- Whatever entries the client stood for, they name this object for the flush, and no other.
abbrev pub IsVictimOf : ClientState → ℕ → Type 0
IsVictimOf kept o = (code : Code) (p : Settings) (c : ℕ) (es : List Entry) → ClientStands code p c kept es
    → IsFlushVictim p c es o × ((x : ℕ) → IsFlushVictim p c es x → x ≡ o)

-- whatever entries the client stands for, the client rule has no flush behind them
abbrev pub NoneDue : ClientState → Type 0
NoneDue kept = (code : Code) (p : Settings) (c : ℕ) (es : List Entry) → ClientStands code p c kept es
    → may_flush p c es ≡ false

-- the answer tells, whatever entries the client stands for, whether the client rule has a flush behind them
abbrev pub TellsFlush : ClientState → Bool → Type 0
TellsFlush kept answer = (code : Code) (p : Settings) (c : ℕ) (es : List Entry) → ClientStands code p c kept es
    → answer ≡ may_flush p c es
