-- The connection of a client: its two ends, and the frames that wait in its two channels.
use Rattle.std.specs.Prelude.{ℕ, ◌+◌, ◌-◌, false, cond, eqb, Option, List, [], ◌∷◌, ◌++◌, drop, option_map}
use Rattle.dso_law.specs.Replies.{first_of_list}
use Rattle.dso_session.specs.declared.frame.Accepted.{Accepted}
use Rattle.dso_session.specs.declared.frame.Frame.{Frame}
use Rattle.dso_session.specs.declared.frame.Frame.TheVariants.{Carry, Hello}
use Rattle.dso_session.specs.declared.session.Posted.{Posted}
use Rattle.dso_session.specs.declared.session.Role.TheVariants as role
use Rattle.dso_session.specs.Ends.{End, IsInOrder, after_frame, answer, broken, opened, posted, sent_count}

-- both ends, and the frames in flight up to the server and down to the client, the first one first
pub record Line (M : Type 0) : Type 0 where
  pub client : End M
  pub server : End M
  pub up : List (Frame M)
  pub down : List (Frame M)

-- what each end gave is among what it sent, and what the other end has seen was given
pub record IsOrdered {M : Type 0} (line : Line M) : Type 0 where
  pub client : IsInOrder line.client
  pub server : IsInOrder line.server

-- at first
abbrev pub opening_line : {M : Type 0} → Line M
opening_line = record { client = opened role.Client; server = opened role.Server; up = []; down = [] }

-- the frames of messages, numbered behind this number
abbrev pub carried : {M : Type 0} → ℕ → ℕ → ℕ → List (Posted M) → List (Frame M)
carried epoch number seen [] = []
carried epoch number seen (one ∷ rest) = Carry epoch (number + 1) seen one.clock one.message
    ∷ carried epoch (number + 1) seen rest

-- the messages that an end has not given
abbrev pub left_to_give : {M : Type 0} → End M → List (Posted M)
left_to_give end = cond end.is_ready (drop (end.given - end.seen) end.kept) []

-- the Hello that is due, if one is
abbrev pub hello_due : {M : Type 0} → End M → List (Frame M)
hello_due end = cond end.owes_hello (Hello end.epoch end.accepted end.clock ∷ []) []

-- all frames that an end can give
abbrev pub gives : {M : Type 0} → End M → List (Frame M)
gives end = hello_due end ++ carried end.epoch end.given end.accepted (left_to_give end)

-- the end once it gave them
abbrev pub emptied : {M : Type 0} → End M → End M
emptied end = record end { owes_hello = false; given = cond end.is_ready (sent_count end) end.given }

-- The client gives its frames. Those of a connection that the server knows to be broken are dropped: no step could
-- take them.
abbrev pub pumped_up : {M : Type 0} → Line M → Line M
pumped_up line = record line {
  client = emptied line.client;
  up = cond (eqb line.client.epoch line.server.epoch) (line.up ++ gives line.client) [];
}

-- the server gives its frames
abbrev pub pumped_down : {M : Type 0} → Line M → Line M
pumped_down line = record line { server = emptied line.server; down = line.down ++ gives line.server }

-- the client sends a message
abbrev pub sent_up : {M : Type 0} → M → ℕ → Line M → Line M
sent_up message clock line = pumped_up (record line { client = posted message clock line.client })

-- the server sends a message
abbrev pub sent_down : {M : Type 0} → M → ℕ → Line M → Line M
sent_down message clock line = pumped_down (record line { server = posted message clock line.server })

-- an end that takes the first of these frames
abbrev pub after_first : {M : Type 0} → List (Frame M) → End M → End M
after_first [] end = end
after_first (frame ∷ rest) end = after_frame frame end

-- what it answers, None where there is none
abbrev pub first_answer : {M : Type 0} → List (Frame M) → End M → Option (Accepted M)
first_answer frames end = option_map (λ frame. answer frame end) (first_of_list frames)

-- the server takes the first frame in flight to it, and gives what it then can
abbrev pub taken_up : {M : Type 0} → Line M → Line M
taken_up line = pumped_down (record line { server = after_first line.up line.server; up = drop 1 line.up })

-- the client takes the first frame in flight to it, and gives what it then can
abbrev pub taken_down : {M : Type 0} → Line M → Line M
taken_down line = pumped_up (record line { client = after_first line.down line.client; down = drop 1 line.down })

-- the connection breaks: what is in flight is lost
abbrev pub cut : {M : Type 0} → Line M → Line M
cut line = pumped_down (record line { server = broken line.server; up = []; down = [] })
