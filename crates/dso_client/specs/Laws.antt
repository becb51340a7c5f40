-- Which entries of a client change nothing that it keeps.
use Rattle.std.specs.Prelude.{ℕ, List, ◌∷◌}
use Rattle.dso_base.specs.declared.journal.Entry.{Entry}
use Rattle.dso_law.specs.Settings.{Settings}
use Rattle.dso_machine.specs.declared.code.Code.{Code}
use Rattle.dso_client.specs.declared.client_state.ClientState.{ClientState}
use Rattle.dso_client.specs.ClientStands.{ClientStands}
use Rattle.dso_client.specs.Entries.{rejoined_entry}

-- A rejoin of its connection changes nothing: the client stands for its entries also with one.
abbrev pub RejoinsChangeNothing : Type 0
RejoinsChangeNothing = (code : Code) (p : Settings) (c clock : ℕ) (es : List Entry) (kept : ClientState)
    → ClientStands code p c kept es → ClientStands code p c kept (rejoined_entry clock c ∷ es)
