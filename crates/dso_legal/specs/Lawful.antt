-- Lawful journals. Entries stand with the newest first.
use Rattle.std.specs.List.{list_any, AllByRecursion}
use Rattle.std.specs.Prelude.{ℕ, ◌≡◌, true, eqb, Option, List, [], ◌∷◌}
use Rattle.dso_base.specs.declared.journal.Entry.{Entry}
use Rattle.dso_base.specs.declared.journal.Node.{Node}
use Rattle.dso_base.specs.declared.journal.Node.TheVariants.{Server, Client}
use Rattle.dso_base.specs.declared.lock.ThreadId.{ThreadId}
use Rattle.dso_base.specs.declared.request.Event.{Event}
use Rattle.dso_base.specs.declared.request.Request.{Request}
use Rattle.dso_law.specs.Settings.{Settings, clients_of}
use Rattle.dso_law.specs.Entries.{entries_of, events_in}
use Rattle.dso_law.specs.Channels.{RespectsChannels, RespectsClocks, FitsConnection, CountsRejoins}
use Rattle.dso_law.specs.ClientStep.{ClientStep}
use Rattle.dso_law.specs.ServerStep.{ServerStep}

-- A program tells the next request of a thread after its events, the first of them first; None after its end. Here: the
-- next request of each thread after these entries.
abbrev pub next_after : (ThreadId → List Event → Option Request) → List Entry → ThreadId → Option Request
next_after next es t = next t (events_in t (entries_of (Client t.client) es))

module _ (p : Settings) (next : ThreadId → List Event → Option Request) where
  -- an entry of client c, which is one of the cluster's, follows the client's entries by the client rule
  pub record ClientFollows (c : ℕ) (e : Entry) (es : List Entry) : Type 0 where
    pub its : list_any (eqb c) (clients_of p) ≡ true
    pub step : ClientStep p c (next_after next es) (next_after next (e ∷ es)) e (entries_of (Client c) es)

  -- an entry of the server follows the server's entries by the server rule, and fits the connection
  pub record ServerFollows (e : Entry) (es : List Entry) : Type 0 where
    pub step : ServerStep p e (entries_of Server es)
    pub connection : FitsConnection e.input (entries_of Server es)

  -- by the entry's node
  abbrev pub NodeFollows : Node → Entry → List Entry → Type 0
  NodeFollows Server e es = ServerFollows e es
  NodeFollows (Client c) e es = ClientFollows c e es

  -- an entry may follow: what it takes is the first in flight, its clock is right, and its node's rule allows it
  pub record MayFollow (e : Entry) (es : List Entry) : Type 0 where
    pub channels : RespectsChannels e es
    pub clocks : RespectsClocks e es
    pub rule : NodeFollows e.node e es

  -- each entry follows those before it
  abbrev pub AllFollow : List Entry → Type 0
  AllFollow [] = Unit {0}
  AllFollow (e ∷ es) = AllFollow es × MayFollow e es

  -- Lawful: each entry follows those before it, and over the whole journal no client's connection is taken up more
  -- often than it is broken.
  pub record IsLawful (es : List Entry) : Type 0 where
    pub follow : AllFollow es
    pub connections : AllByRecursion (λ c. CountsRejoins c es) (clients_of p)
