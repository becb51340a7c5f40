-- What a thread lacks, as its client tells it.
use Rattle.std.specs.Prelude.{◌≡◌, Some, None, Option, find}
use Rattle.std.specs.Option.{option_map}
use Rattle.dso_base.specs.declared.lock.ThreadId.{ThreadId}
use Rattle.dso_law.specs.RequestNeeds.{Need, NeedsId, NeedsObject, NeedsClass, NeedsMark, NeedsLease}
use Rattle.dso_law.specs.RequestNeeds.{NeedsOthersOut, NeedsAck, is_in_conflict}
use Rattle.dso_law.specs.Settings.{threads_of}
use Rattle.dso_client.specs.declared.unmet_need.UnmetNeed.{UnmetNeed}
use Rattle.dso_client.specs.declared.unmet_need.UnmetNeed.TheVariants.{Id, Object, Class, Mark, Lease, OthersOut, Ack}
use Rattle.dso_client.specs.RunPoints.{RunPoint}
use Rattle.dso_client.specs.ContextStands.{last_record}

-- the need that is lacking
abbrev pub need_of : UnmetNeed → Need
need_of Id = NeedsId
need_of (Object o) = NeedsObject o
need_of (Class o) = NeedsClass o
need_of (Mark l) = NeedsMark l
need_of (Lease l level) = NeedsLease l level
need_of (OthersOut l level other) = NeedsOthersOut l
need_of (Ack seq) = NeedsAck

-- who holds the lock in conflict is the first such thread of the client; the record that is to be acknowledged is the
-- thread's last one
abbrev pub IsNamed : RunPoint → ThreadId → UnmetNeed → Type 0
IsNamed at t (OthersOut l level other) =
    find (is_in_conflict at.settings at.client at.next t l level at.entries) (threads_of at.settings at.client)
    ≡ Some other
IsNamed at t (Ack seq) = last_record t at.entries ≡ Some seq
IsNamed at t unmet_need = Unit {0}

-- so where something is lacking
abbrev pub AreNamed : RunPoint → ThreadId → Option UnmetNeed → Type 0
AreNamed at t None = Unit {0}
AreNamed at t (Some unmet_need) = IsNamed at t unmet_need

-- What is lacking is this need, and the others that it names are the right ones.
pub record TellsNeed (at : RunPoint) (t : ThreadId) (need : Option Need) (unmet_need : Option UnmetNeed) : Type 0 where
  pub is : option_map need_of unmet_need ≡ need
  pub named : AreNamed at t unmet_need
