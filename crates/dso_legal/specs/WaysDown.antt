-- What comes to a client finds it as it must, whether the client is lost or not.
use Rattle.std.specs.Prelude.{List, Option, ℕ}
use Rattle.dso_base.specs.declared.journal.Entry.{Entry}
use Rattle.dso_base.specs.declared.journal.Node.TheVariants.{Client}
use Rattle.dso_base.specs.declared.lock.ThreadId.{ThreadId}
use Rattle.dso_base.specs.declared.message.Down.{Down}
use Rattle.dso_base.specs.declared.request.Event.{Event}
use Rattle.dso_base.specs.declared.request.Request.{Request}
use Rattle.dso_law.specs.Channels.{IsFirst, down_in_flight}
use Rattle.dso_law.specs.Entries.{entries_of}
use Rattle.dso_law.specs.Records.{unacked}
use Rattle.dso_law.specs.Settings.{Settings}
use Rattle.dso_legal.specs.Batches.{BatchFits}
use Rattle.dso_legal.specs.Lawful.{AllFollow}
use Rattle.dso_legal.specs.Numbered.{IsOfFirst}
use Rattle.dso_legal.specs.Residency.{ObjectFitsDown}
use Rattle.dso_legal.specs.Tokens.{LeaseFitsDown}

-- By the client's entries a grant was asked for, a batch of ids was asked for and is above those before it, an
-- acknowledgement is of the first record that isn't acknowledged, and an object was asked for.
pub record FindsClient (c : ℕ) (m : Down) (es : List Entry) : Type 0 where
  pub lease : LeaseFitsDown m (entries_of (Client c) es)
  pub batch : BatchFits c m es
  pub acknowledged : IsOfFirst m (unacked (entries_of (Client c) es))
  pub object : ObjectFitsDown m (entries_of (Client c) es)

-- So the first message in flight to each client, after entries each of which follows those before it, to a lost
-- client too.
abbrev pub WaysDownFit : Type 0
WaysDownFit = (p : Settings) (next : ThreadId → List Event → Option Request) (es : List Entry) → AllFollow p next es
    → (c : ℕ) (m : Down) → IsFirst m (down_in_flight c es) → FindsClient c m es
