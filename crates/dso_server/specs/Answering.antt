-- What the server's calls make of it, whatever entries it stood for.
use Rattle.std.specs.Prelude.{ℕ, ◌≡◌, true, false, None, List, [], ◌∷◌, length}
use Rattle.dso_base.specs.declared.journal.Entry.{Entry}
use Rattle.dso_base.specs.declared.message.Down.{Down}
use Rattle.dso_base.specs.declared.message.Up.{Up}
use Rattle.dso_base.specs.Naming.{up_names}
use Rattle.dso_law.specs.FitsUp.{FitsUp}
use Rattle.dso_law.specs.Granting.{serves_all}
use Rattle.dso_law.specs.ServerReadings.{counted, is_lost}
use Rattle.dso_law.specs.ServerStep.{answers}
use Rattle.dso_law.specs.Settings.{Settings}
use Rattle.dso_locks.specs.Locks.{IsClient}
use Rattle.dso_server.specs.declared.server.Server.{Server}
use Rattle.dso_server.specs.declared.taken.Taken.{Taken}
use Rattle.dso_server.specs.declared.taken.Taken.TheVariants.{Done, Gone, BadMessage}
use Rattle.dso_server.specs.Lacking.{KnowsNamed, Lacks}
use Rattle.dso_server.specs.Sending.{lost, sent_of, took}
use Rattle.dso_server.specs.ServerStands.{ServerStands}
use Rattle.dso_server.specs.Tags.{tag_of}
use Rattle.dso_store.specs.Graph.{body_in}

-- how many batches of ids the server gave
abbrev pub given_by : Server → ℕ
given_by server = length server.ids

-- A message answered: the messages are those of the rule's row, and the server stands for the entries with the one in
-- which it took it, at any clock. What it lacks of these it lacked before; and it gets no body that it didn't have but
-- of what the message names.
pub record IsAnswered (p : Settings) (c : ℕ) (m : Up) (messages : List (ℕ × Down)) (old new : Server) (es : List Entry)
    : Type 0 where
  pub sends : (clock : ℕ) → sent_of messages ≡ answers p c m (took clock c m [] ∷ counted es)
  pub stands : (clock : ℕ) → ServerStands p new (took clock c m (sent_of messages) ∷ es)
  pub lacks : (clock o : ℕ) → Lacks p new (took clock c m (sent_of messages) ∷ es) o → Lacks p old es o
  pub keeps : (o : ℕ) → up_names m o ≡ false → body_in old.store o ≡ None → body_in new.store o ≡ None

-- the message of a client that isn't lost is answered where it fits and the server has what it names
abbrev pub AnswersMessage : ℕ → Up → List (ℕ × Down) → Server → Server → Type 0
AnswersMessage c m messages old new = (p : Settings) (es : List Entry) → ServerStands p old es → IsClient p c
    → is_lost c es ≡ false → FitsUp p c m (counted es) → KnowsNamed p old c m es → IsAnswered p c m messages old new es

-- nothing is sent and nothing changed
abbrev pub ChangesNothing : List (ℕ × Down) → Server → Server → Type 0
ChangesNothing messages old new = (messages ≡ []) × (new ≡ old)

-- A client lost: the messages are those that the queues' serving makes, and the server stands for the entries with the
-- one in which it lost the client, at any clock. What it lacks of these it lacked before, and its bodies are as before.
pub record IsLost (p : Settings) (c : ℕ) (messages : List (ℕ
    × Down)) (old new : Server) (es : List Entry) : Type 0 where
  pub sends : (clock : ℕ) → sent_of messages ≡ serves_all p (lost clock c [] ∷ counted es)
  pub stands : (clock : ℕ) → ServerStands p new (lost clock c (sent_of messages) ∷ es)
  pub lacks : (clock o : ℕ) → Lacks p new (lost clock c (sent_of messages) ∷ es) o → Lacks p old es o
  pub keeps : (o : ℕ) → body_in new.store o ≡ body_in old.store o

-- What is told of a message: it is done where it fits and its client isn't lost; of a lost client it changes nothing;
-- and where it doesn't fit, its client, which wasn't lost, is lost.
abbrev pub IsTaken : Settings → ℕ → Up → Taken → List (ℕ × Down) → Server → Server → List Entry → Type 0
IsTaken p c m Done messages old new es = (is_lost c es ≡ false) × FitsUp p c m (counted es)
    × IsAnswered p c m messages old new es
IsTaken p c m Gone messages old new es = (is_lost c es ≡ true) × ChangesNothing messages old new
IsTaken p c m (BadMessage tag) messages old new es = (is_lost c es ≡ false) × (¬ FitsUp p c m (counted es))
    × (tag ≡ tag_of m) × IsLost p c messages old new es

-- the message made an entry: it was done, or its client was lost before
abbrev pub WasTaken : Taken → Type 0
WasTaken Done = Unit {0}
WasTaken Gone = Unit {0}
WasTaken (BadMessage tag) = ⊥
