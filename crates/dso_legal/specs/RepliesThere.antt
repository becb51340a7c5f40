-- A thread whose needs are met has a reply.
use Rattle.std.specs.Prelude.{◌≡◌, ◌≢◌, Option, Some, None, List}
use Rattle.dso_base.specs.declared.journal.Entry.{Entry}
use Rattle.dso_base.specs.declared.journal.Node.TheVariants.{Client}
use Rattle.dso_base.specs.declared.lock.ThreadId.{ThreadId}
use Rattle.dso_base.specs.declared.request.Event.{Event}
use Rattle.dso_base.specs.declared.request.Request.{Request}
use Rattle.dso_law.specs.Settings.{Settings}
use Rattle.dso_law.specs.Entries.{entries_of}
use Rattle.dso_law.specs.Replies.{reply_of}
use Rattle.dso_law.specs.RequestNeeds.{unmet}
use Rattle.dso_legal.specs.Lawful.{next_after, AllFollow}
use Rattle.dso_legal.specs.SoundProgram.{AsksSoundly, GivesKnownTexts}
use Rattle.dso_legal.specs.WithinShape.{StaysWithinShape}

-- Replies are there: after entries each of which follows those before it, of a sound program that gives only known
-- texts and stays within its shape, the client has a reply to the next request of each of its threads, where all
-- that it needs is met. So where a thread can't act, a need of it isn't met.
abbrev pub RepliesAreThere : Type 0
RepliesAreThere = (p : Settings) (next : ThreadId → List Event → Option Request) → AsksSoundly p.shape next
    → GivesKnownTexts p.shape next → StaysWithinShape p.shape next
    → (es : List Entry) → AllFollow p next es → (t : ThreadId) (request : Request)
    → next_after next es t ≡ Some request
    → unmet p t.client (next_after next es) t request (entries_of (Client t.client) es) ≡ None
    → reply_of p t request (entries_of (Client t.client) es) ≢ None
