-- What the connection of a client is, by what was sent and taken over it, how often it broke and how often it was
-- taken up again.
use Rattle.std.specs.Prelude.{ℕ, ◌+◌, ◌≤◌, ◌≡◌, ◌↔◌, Bool, true, false, ltb, Some, List, [], ◌∷◌, ◌++◌, drop, length}
use Rattle.std.specs.Prelude.{slice_get}
use Rattle.dso_session.specs.declared.frame.Accepted.TheVariants.{Rejoined, Up}
use Rattle.dso_session.specs.declared.frame.Frame.{Frame}
use Rattle.dso_session.specs.declared.frame.Frame.TheVariants.{Carry, Hello}
use Rattle.dso_session.specs.declared.session.Posted.{Posted}
use Rattle.dso_session.specs.declared.session.Role.{Role}
use Rattle.dso_session.specs.declared.session.Role.TheVariants as role
use Rattle.dso_session.specs.Ends.{End}
use Rattle.dso_session.specs.Laws.{HasSent}
use Rattle.dso_world.specs.Link.{Line, cut, first_answer, opening_line, sent_down, sent_up, taken_down, taken_up}

-- Joined: both ends know one connection. Broken: the client doesn't know yet that it broke. Half: the client has taken
-- it up again, and the server not yet.
pub data Course : Type 0 where
  Joined : Course
  Broken : Course
  Half : Course

-- what the client sent, how many of these messages the server took, and the same the other way; how often the
-- connection broke, and how often the client took it up again
pub record Past (M : Type 0) : Type 0 where
  pub up : List (Posted M)
  pub up_taken : ℕ
  pub down : List (Posted M)
  pub down_taken : ℕ
  pub breaks : ℕ
  pub rejoins : ℕ

-- the frame carries the message of this number in this epoch, from an end that has seen no more than the limit
pub record Carries {M : Type 0} (epoch number limit : ℕ) (one : Posted M) (frame : Frame M) : Type 0 where
  pub seen : ℕ
  pub few : seen ≤ limit
  pub is : frame ≡ Carry epoch number seen one.clock one.message

-- the frames carry the messages, which are numbered behind this number
abbrev pub AreCarried : {M : Type 0} → ℕ → ℕ → ℕ → List (Posted M) → List (Frame M) → Type 0
AreCarried epoch number limit [] [] = Unit {0}
AreCarried epoch number limit (one ∷ rest) (frame ∷ frames) = Carries epoch (number + 1) limit one frame
    × AreCarried epoch (number + 1) limit rest frames
AreCarried epoch number limit messages frames = ⊥

-- the frame is a Hello of this epoch, from an end that has seen so many messages
pub record Greets {M : Type 0} (epoch seen : ℕ) (frame : Frame M) : Type 0 where
  pub clock : ℕ
  pub is : frame ≡ Hello epoch seen clock

-- first a Hello, then frames of which this is so
abbrev pub GreetsFirst : {M : Type 0} → ℕ → ℕ → (List (Frame M) → Type 0) → List (Frame M) → Type 0
GreetsFirst epoch seen Then [] = ⊥
GreetsFirst epoch seen Then (frame ∷ frames) = Greets epoch seen frame × Then frames

-- an end: what it sent, how many messages it has accepted, and in which epoch it is
pub record EndStands {M : Type 0} (own : Role) (posts : List (Posted M)) (heard era : ℕ) (end : End M) : Type 0 where
  pub role : end.role ≡ own
  pub sent : HasSent posts end
  pub accepted : end.accepted ≡ heard
  pub epoch : end.epoch ≡ era
  pub said_hello : end.owes_hello ≡ false

-- joined: on each way are the messages that were sent and not taken
pub record JoinedStands {M : Type 0} (past : Past M) (line : Line M) : Type 0 where
  pub epochs : past.rejoins ≡ past.breaks
  pub ready : line.server.is_ready ≡ true
  pub given : line.server.given ≡ length past.down
  pub up : AreCarried past.breaks past.up_taken past.down_taken (drop past.up_taken past.up) line.up
  pub down : AreCarried past.breaks past.down_taken past.up_taken (drop past.down_taken past.down) line.down

-- broken: nothing is in flight to the server, and to the client goes the server's Hello alone
pub record BrokenStands {M : Type 0} (past : Past M) (line : Line M) : Type 0 where
  pub epochs : past.rejoins + 1 ≡ past.breaks
  pub ready : line.server.is_ready ≡ false
  pub up : line.up ≡ []
  pub down : GreetsFirst past.breaks past.up_taken (λ frames. frames ≡ []) line.down

-- half: nothing is in flight to the client, and to the server go the client's Hello and then the messages that were
-- sent and not taken
pub record HalfStands {M : Type 0} (past : Past M) (line : Line M) : Type 0 where
  pub epochs : past.rejoins ≡ past.breaks
  pub ready : line.server.is_ready ≡ false
  pub up : GreetsFirst past.breaks past.down_taken
      (AreCarried past.breaks past.up_taken past.down_taken (drop past.up_taken past.up)) line.up
  pub down : line.down ≡ []

abbrev pub CourseStands : {M : Type 0} → Course → Past M → Line M → Type 0
CourseStands Joined past line = JoinedStands past line
CourseStands Broken past line = BrokenStands past line
CourseStands Half past line = HalfStands past line

-- the connection stands for this past
pub record LinkStands {M : Type 0} (course : Course) (past : Past M) (line : Line M) : Type 0 where
  pub client : EndStands role.Client past.up past.down_taken past.rejoins line.client
  pub server : EndStands role.Server past.down past.up_taken past.breaks line.server
  pub ready : line.client.is_ready ≡ true
  pub given : line.client.given ≡ length past.up
  pub up_seen : line.client.seen ≤ past.up_taken
  pub down_seen : line.server.seen ≤ past.down_taken
  pub up_few : past.up_taken ≤ length past.up
  pub down_few : past.down_taken ≤ length past.down
  pub ways : CourseStands course past line

-- nothing has happened
abbrev pub opening_past : {M : Type 0} → Past M
opening_past = record { up = []; up_taken = 0; down = []; down_taken = 0; breaks = 0; rejoins = 0 }

-- whether the server can take a frame, and whether the client can
abbrev pub can_take_up : {M : Type 0} → Course → Past M → Bool
can_take_up Joined past = ltb past.up_taken (length past.up)
can_take_up Broken past = false
can_take_up Half past = true

abbrev pub can_take_down : {M : Type 0} → Course → Past M → Bool
can_take_down Joined past = ltb past.down_taken (length past.down)
can_take_down Broken past = true
can_take_down Half past = false

-- the server takes this message, and the connection stands for what then happened
pub record TakesUp {M : Type 0} (past : Past M) (line : Line M) (one : Posted M) : Type 0 where
  pub answer : first_answer line.up line.server ≡ Some (Up one.message one.clock)
  pub stands : LinkStands Joined (record past { up_taken = past.up_taken + 1 }) (taken_up line)

-- so does the client
pub record TakesDown {M : Type 0} (past : Past M) (line : Line M) (one : Posted M) : Type 0 where
  pub answer : first_answer line.down line.client ≡ Some (Up one.message one.clock)
  pub stands : LinkStands Joined (record past { down_taken = past.down_taken + 1 }) (taken_down line)

-- the client takes the broken connection up again
pub record ClientRejoins {M : Type 0} (past : Past M) (line : Line M) : Type 0 where
  pub answer : first_answer line.down line.client ≡ Some (Rejoined past.up_taken)
  pub stands : LinkStands Half (record past { rejoins = past.rejoins + 1 }) (taken_down line)

-- and then the server
pub record ServerRejoins {M : Type 0} (past : Past M) (line : Line M) : Type 0 where
  pub answer : first_answer line.up line.server ≡ Some (Rejoined past.down_taken)
  pub stands : LinkStands Joined past (taken_up line)

-- Connections: what happens to a connection makes of it one that stands for what has happened. Messages are sent at
-- any time; a frame that is taken gives up the next message of the other end, or joins the connection again; frames
-- wait exactly where one can be taken.
pub record LinksGoOn (M : Type 0) : Type 0 where
  pub opens : LinkStands Joined (opening_past {M = M}) opening_line
  pub sends_up : (course : Course) (past : Past M) (line : Line M) (message : M) (clock : ℕ)
      → LinkStands course past line
      → LinkStands course (record past { up = past.up ++ record { message = message; clock = clock } ∷ [] })
      (sent_up message clock line)
  pub sends_down : (course : Course) (past : Past M) (line : Line M) (message : M) (clock : ℕ)
      → LinkStands course past line
      → LinkStands course (record past { down = past.down ++ record { message = message; clock = clock } ∷ [] })
      (sent_down message clock line)
  pub takes_up : (past : Past M) (line : Line M) (one : Posted M) → LinkStands Joined past line
      → slice_get past.up past.up_taken ≡ Some one → TakesUp past line one
  pub takes_down : (past : Past M) (line : Line M) (one : Posted M) → LinkStands Joined past line
      → slice_get past.down past.down_taken ≡ Some one → TakesDown past line one
  pub client_rejoins : (past : Past M) (line : Line M) → LinkStands Broken past line → ClientRejoins past line
  pub server_rejoins : (past : Past M) (line : Line M) → LinkStands Half past line → ServerRejoins past line
  pub breaks : (past : Past M) (line : Line M) → LinkStands Joined past line
      → LinkStands Broken (record past { breaks = past.breaks + 1 }) (cut line)
  pub none_up : (course : Course) (past : Past M) (line : Line M) → LinkStands course past line
      → (line.up ≡ []) ↔ (can_take_up course past ≡ false)
  pub none_down : (course : Course) (past : Past M) (line : Line M) → LinkStands course past line
      → (line.down ≡ []) ↔ (can_take_down course past ≡ false)
