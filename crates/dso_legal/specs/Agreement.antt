-- A status that two ends keep by the same steps of messages: the end that sends a message steps as it sends it, the
-- other as it takes it. Messages of one direction stand in a list, the first of them first.
use Rattle.std.specs.Prelude.{◌≡◌, List, [], ◌∷◌, map}
use Rattle.dso_law.specs.Channels.{Letter}

-- the messages of the letters
abbrev pub messages : {M : Type 0} → List (Letter M) → List M
messages letters = map (λ letter. letter.message) letters

-- the status after the messages
abbrev pub after : {M S : Type 0} → (M → S → S) → List M → S → S
after step [] s = s
after step (m ∷ ms) s = after step ms (step m s)

-- each message may come where it stands
abbrev pub EachMay : {M S : Type 0} → (M → S → Type 0) → (M → S → S) → List M → S → Type 0
EachMay may step [] s = Unit {0}
EachMay may step (m ∷ ms) s = may m s × EachMay may step ms (step m s)

-- The two ends agree: each message in flight to the server may come where it stands from the server's status on, each
-- in flight to the client from the client's on, and once all in flight is taken both have one status.
pub record Agree {U D S : Type 0} (may_up : U → S → Type 0) (step_up : U → S → S) (may_down : D → S → Type 0)
    (step_down : D → S → S) (up : List U) (down : List D) (server client : S) : Type 0 where
  pub ups : EachMay may_up step_up up server
  pub downs : EachMay may_down step_down down client
  pub meet : after step_up up server ≡ after step_down down client
