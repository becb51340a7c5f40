-- What an entry does to what a client's law speaks of: its entries, the server's, what is in flight, and the history.
use Rattle.std.proofs.Common.{ℕ, ◌≡◌, refl, ◌∙◌, ap, Bool, true, false, cond, eqb, List, [], ◌∷◌, ◌++◌, drop}
use Rattle.std.proofs.lemmas.List.{append-nil}
use Rattle.dso_base.specs.declared.journal.Entry.{Entry}
use Rattle.dso_base.specs.declared.journal.Node.TheVariants.{Server, Client}
use Rattle.dso_plain.proofs.keys.SameKeys.{number_self}
use Rattle.dso_law.specs.Entries.{is_node, entries_of, by_sent_up}
use Rattle.dso_law.specs.Channels.{Letter, up_in_flight, down_in_flight, in_flight_after, to_server, to_client, takes_up, takes_down, posted}
use Rattle.dso_legal.specs.Agreement.{messages}
use Rattle.dso_legal.specs.AsMade.{as_made, made_at, made_by}
use Rattle.dso_legal.proofs.channels.InFlight.{said_of, told_to, said_letters, told_letters}

-- an entry of the client itself
pub record OwnTurn (c : ℕ) (e : Entry) (es : List Entry) : Type 0 where
  pub own : entries_of (Client c) (e ∷ es) ≡ e ∷ entries_of (Client c) es
  pub server : entries_of Server (e ∷ es) ≡ entries_of Server es
  pub up : messages (up_in_flight c (e ∷ es)) ≡ messages (up_in_flight c es) ++ said_of e.sent
  pub down : messages (down_in_flight c (e ∷ es)) ≡ cond (takes_down e.input) (drop 1 (messages (down_in_flight c es))) (messages (down_in_flight c es))
  pub history : as_made (e ∷ es) ≡ as_made es

-- an entry of another client
pub record OtherTurn (c : ℕ) (e : Entry) (es : List Entry) : Type 0 where
  pub own : entries_of (Client c) (e ∷ es) ≡ entries_of (Client c) es
  pub server : entries_of Server (e ∷ es) ≡ entries_of Server es
  pub up : up_in_flight c (e ∷ es) ≡ up_in_flight c es
  pub down : down_in_flight c (e ∷ es) ≡ down_in_flight c es
  pub history : as_made (e ∷ es) ≡ as_made es

-- an entry of the server
pub record ServerTurn (c : ℕ) (e : Entry) (es : List Entry) : Type 0 where
  pub own : entries_of (Client c) (e ∷ es) ≡ entries_of (Client c) es
  pub server : entries_of Server (e ∷ es) ≡ e ∷ entries_of Server es
  pub up : messages (up_in_flight c (e ∷ es)) ≡ cond (takes_up c e.input) (drop 1 (messages (up_in_flight c es))) (messages (up_in_flight c es))
  pub down : messages (down_in_flight c (e ∷ es)) ≡ messages (down_in_flight c es) ++ told_to c e.sent
  pub history : as_made (e ∷ es) ≡ as_made es ++ made_by e.input es

-- dropping a letter drops its message
dropped : {M : Type 0} (b : Bool) (letters : List (Letter M)) → messages (cond b (drop 1 letters) letters) ≡ cond b (drop 1 (messages letters)) (messages letters)
dropped true [] = refl
dropped true (letter ∷ letters) = refl
dropped false letters = refl

pub own_turn : (c : ℕ) (e : Entry) (es : List Entry) → e.node ≡ Client c → OwnTurn c e es
own_turn c e es is = record {
  own = ap (λ node. cond (is_node (Client c) node) (e ∷ entries_of (Client c) es) (entries_of (Client c) es)) is ∙ ap (λ b. cond b (e ∷ entries_of (Client c) es) (entries_of (Client c) es)) (number_self c);
  server = ap (λ node. cond (is_node Server node) (e ∷ entries_of Server es) (entries_of Server es)) is;
  up = ap (λ node. messages (in_flight_after (to_server c) e node (up_in_flight c es))) is ∙ (ap (λ b. messages (cond b (by_sent_up (posted e.clock) e.sent (up_in_flight c es)) (up_in_flight c es))) (number_self c) ∙ said_letters e.clock e.sent (up_in_flight c es));
  down = ap (λ node. messages (in_flight_after (to_client c) e node (down_in_flight c es))) is ∙ (ap (λ b. messages (cond b (cond (takes_down e.input) (drop 1 (down_in_flight c es)) (down_in_flight c es)) (down_in_flight c es))) (number_self c) ∙ dropped (takes_down e.input) (down_in_flight c es));
  history = ap (λ node. as_made es ++ made_at node e.input es) is ∙ append-nil (as_made es);
}

pub other_turn : (c d : ℕ) (e : Entry) (es : List Entry) → e.node ≡ Client d → eqb c d ≡ false → OtherTurn c e es
other_turn c d e es is other = record {
  own = ap (λ node. cond (is_node (Client c) node) (e ∷ entries_of (Client c) es) (entries_of (Client c) es)) is ∙ ap (λ b. cond b (e ∷ entries_of (Client c) es) (entries_of (Client c) es)) other;
  server = ap (λ node. cond (is_node Server node) (e ∷ entries_of Server es) (entries_of Server es)) is;
  up = ap (λ node. in_flight_after (to_server c) e node (up_in_flight c es)) is ∙ ap (λ b. cond b (by_sent_up (posted e.clock) e.sent (up_in_flight c es)) (up_in_flight c es)) other;
  down = ap (λ node. in_flight_after (to_client c) e node (down_in_flight c es)) is ∙ ap (λ b. cond b (cond (takes_down e.input) (drop 1 (down_in_flight c es)) (down_in_flight c es)) (down_in_flight c es)) other;
  history = ap (λ node. as_made es ++ made_at node e.input es) is ∙ append-nil (as_made es);
}

pub server_turn : (c : ℕ) (e : Entry) (es : List Entry) → e.node ≡ Server → ServerTurn c e es
server_turn c e es is = record {
  own = ap (λ node. cond (is_node (Client c) node) (e ∷ entries_of (Client c) es) (entries_of (Client c) es)) is;
  server = ap (λ node. cond (is_node Server node) (e ∷ entries_of Server es) (entries_of Server es)) is;
  up = ap (λ node. messages (in_flight_after (to_server c) e node (up_in_flight c es))) is ∙ dropped (takes_up c e.input) (up_in_flight c es);
  down = ap (λ node. messages (in_flight_after (to_client c) e node (down_in_flight c es))) is ∙ told_letters c e.clock e.sent (down_in_flight c es);
  history = ap (λ node. as_made es ++ made_at node e.input es) is;
}
