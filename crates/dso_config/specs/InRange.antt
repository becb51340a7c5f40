-- Which configurations a text can say: the numbers are in range, no section is too long, and nothing is said twice.
use Rattle.std.specs.Prelude.{◌≢◌, ℕ, ◌≤◌, All, AllPairs, List, [], length, Option, Some, None}
use Rattle.dso_base.specs.declared.journal.Trigger.{Trigger}
use Rattle.dso_config.specs.declared.config.Config.{Config}

-- the most clients of a cluster
abbrev pub most_clients : ℕ
most_clients = 16

-- the most objects that a client may be told to keep
abbrev pub most_resident : ℕ
most_resident = 1000000

-- the latest message after which a client may be lost or cut off
abbrev pub latest_message : ℕ
latest_message = 1000000

-- the most entries of one section
abbrev pub most_entries : ℕ
most_entries = 1024

-- a section that may be absent, as a list
abbrev pub entries : {A : Type 0} → Option (List A) → List A
entries None = []
entries (Some all) = all

-- the trigger is of one of so many clients, and not too late
pub record IsTrigger (clients : ℕ) (trigger : Trigger) : Type 0 where
  pub from_one : 1 ≤ trigger.client
  pub to_last : trigger.client ≤ clients
  pub after : trigger.after ≤ latest_message

-- The configuration is one that a text can say: so many clients and resident objects as there may be, no section too
-- long, no root named twice, no client lost twice, no break of a client twice at one message.
pub record IsInRange (config : Config) : Type 0 where
  pub some_client : 1 ≤ config.clients
  pub no_more_clients : config.clients ≤ most_clients
  pub some_resident : 1 ≤ config.resident
  pub no_more_resident : config.resident ≤ most_resident
  pub few_roots : length (entries config.roots) ≤ most_entries
  pub few_autolocks : length (entries config.autolocks) ≤ most_entries
  pub few_named : length (entries config.named) ≤ most_entries
  pub few_guards : length config.guards ≤ most_entries
  pub few_losses : length config.losses ≤ most_entries
  pub few_breaks : length config.breaks ≤ most_entries
  pub roots_differ : AllPairs (λ entry other. entry ≢ other) (entries config.roots)
  pub losses_fit : All (IsTrigger config.clients) config.losses
  pub lost_once : AllPairs (λ trigger other. trigger.client ≢ other.client) config.losses
  pub breaks_fit : All (IsTrigger config.clients) config.breaks
  pub breaks_differ : AllPairs (λ trigger other. trigger ≢ other) config.breaks
