-- What an entry does to the two directions of a client, as lists of messages.
use Rattle.std.proofs.Common.{ℕ, ◌≡◌, refl, sym, ◌∙◌, ap, subst, Bool, true, false, cond, eqb, List, [], ◌∷◌, ◌++◌, map, drop}
use Rattle.std.proofs.lemmas.List.{append_assoc, append-nil}
use Rattle.dso_base.specs.declared.journal.Entry.{Entry}
use Rattle.dso_base.specs.declared.journal.Input.{Input}
use Rattle.dso_base.specs.declared.journal.Input.TheVariants.{TookUp, TookDown}
use Rattle.dso_base.specs.declared.journal.Node.TheVariants.{Server, Client}
use Rattle.dso_base.specs.declared.journal.Sent.{Sent}
use Rattle.dso_base.specs.declared.journal.Sent.TheVariants.{ToServer, ToClient}
use Rattle.dso_base.specs.declared.message.Down.{Down}
use Rattle.dso_base.specs.declared.message.Up.{Up}
use Rattle.dso_plain.proofs.keys.SameKeys.{same_number}
use Rattle.dso_law.specs.Entries.{by_sent_up, by_sent_down, by_taken_down, by_taken_up, if_to}
use Rattle.dso_law.specs.Channels.{Letter, posted, takes_up, takes_down, up_in_flight, down_in_flight, IsFirst, TakesFirst}
use Rattle.dso_legal.specs.Agreement.{messages, after, EachMay, Agree}
use Rattle.dso_legal.proofs.channels.Agreement.{Commutes, all_sent_up, all_sent_down, took_up, took_down}

-- the messages to the server among those sent
abbrev pub said_of : List Sent → List Up
said_of [] = []
said_of (ToServer m ∷ out) = m ∷ said_of out
said_of (ToClient c m ∷ out) = said_of out

-- the messages to the client among those sent
abbrev pub told_to : ℕ → List Sent → List Down
told_to c [] = []
told_to c (ToServer m ∷ out) = told_to c out
told_to c (ToClient d m ∷ out) = cond (eqb c d) (m ∷ told_to c out) (told_to c out)

-- the messages of two lists of letters
messages_append : {M : Type 0} (xs ys : List (Letter M)) → messages (xs ++ ys) ≡ messages xs ++ messages ys
messages_append [] ys = refl
messages_append (x ∷ xs) ys = ap (λ ms. x.message ∷ ms) (messages_append xs ys)

-- one more letter is one more message
posted_messages : {M : Type 0} (clock : ℕ) (m : M) (letters : List (Letter M)) → messages (posted clock m letters) ≡ messages letters ++ m ∷ []
posted_messages clock m letters = messages_append letters (record { message = m; clock = clock } ∷ [])

-- all that is sent up stands at the end
pub said_letters : (clock : ℕ) (out : List Sent) (letters : List (Letter Up)) → messages (by_sent_up (posted clock) out letters) ≡ messages letters ++ said_of out
said_letters clock [] letters = sym (append-nil (messages letters))
said_letters clock (ToServer m ∷ out) letters = said_letters clock out (posted clock m letters) ∙ ap (λ ms. ms ++ said_of out) (posted_messages clock m letters)
    ∙ append_assoc (messages letters) (m ∷ []) (said_of out)
said_letters clock (ToClient c m ∷ out) letters = said_letters clock out letters

-- and so all that is sent to the client
pub told_letters : (c clock : ℕ) (out : List Sent) (letters : List (Letter Down)) → messages (by_sent_down (if_to c (posted clock)) out letters) ≡ messages letters ++ told_to c out
told_letters c clock [] letters = sym (append-nil (messages letters))
told_letters c clock (ToServer m ∷ out) letters = told_letters c clock out letters
told_letters c clock (ToClient d m ∷ out) letters = told_letters c clock out (if_to c (posted clock) d m letters) ∙ by (eqb c d)
  where
    by : (b : Bool) → messages (cond b (posted clock m letters) letters) ++ told_to c out ≡ messages letters ++ cond b (m ∷ told_to c out) (told_to c out)
    by true = ap (λ ms. ms ++ told_to c out) (posted_messages clock m letters) ∙ append_assoc (messages letters) (m ∷ []) (told_to c out)
    by false = refl

-- a reading after all that is sent up
pub said_status : {S : Type 0} (step : Up → S → S) (out : List Sent) (s : S) → by_sent_up step out s ≡ after step (said_of out) s
said_status step [] s = refl
said_status step (ToServer m ∷ out) s = said_status step out (step m s)
said_status step (ToClient c m ∷ out) s = said_status step out s

-- a reading after all that is sent to the client
pub told_status : {S : Type 0} (c : ℕ) (step : Down → S → S) (out : List Sent) (s : S) → by_sent_down (if_to c step) out s ≡ after step (told_to c out) s
told_status c step [] s = refl
told_status c step (ToServer m ∷ out) s = told_status c step out s
told_status c step (ToClient d m ∷ out) s = told_status c step out (if_to c step d m s) ∙ by (eqb c d)
  where
    by : (b : Bool) → after step (told_to c out) (cond b (step m s) s) ≡ after step (cond b (m ∷ told_to c out) (told_to c out)) s
    by true = refl
    by false = refl

-- messages that all go to the server
pub said_all : (ms : List Up) → said_of (map ToServer ms) ≡ ms
said_all [] = refl
said_all (m ∷ ms) = ap (λ ms. m ∷ ms) (said_all ms)

-- what is sent to the client in two lists
pub told_append : (c : ℕ) (xs ys : List Sent) → told_to c (xs ++ ys) ≡ told_to c xs ++ told_to c ys
told_append c [] ys = refl
told_append c (ToServer m ∷ xs) ys = told_append c xs ys
told_append c (ToClient d m ∷ xs) ys = by (eqb c d) (told_append c xs ys)
  where
    by : (b : Bool) → told_to c (xs ++ ys) ≡ told_to c xs ++ told_to c ys → cond b (m ∷ told_to c (xs ++ ys)) (told_to c (xs ++ ys)) ≡ cond b (m ∷ told_to c xs) (told_to c xs) ++ told_to c ys
    by true h = ap (λ ms. m ∷ ms) h
    by false h = h

module _ {S : Type 0} (may_up : Up → S → Type 0) (step_up : Up → S → S) (may_down : Down → S → Type 0) (step_down : Down → S → S) where
  -- the message is the first in flight to the client, which the client takes
  first_down : (m : Down) (up : List Up) (letters : List (Letter Down)) (server client : S) → IsFirst m letters
      → Agree may_up step_up may_down step_down up (messages letters) server client → Agree may_up step_up may_down step_down up (messages (drop 1 letters)) server (step_down m client)
  first_down m up [] server client f a = absurd f
  first_down m up (letter ∷ letters) server client f a = subst (λ n. Agree may_up step_up may_down step_down up (messages letters) server (step_down n client)) (sym f)
      (took_down may_up step_up may_down step_down letter.message up (messages letters) server client a)

  -- the message is the first in flight to the server, which the server takes
  first_up : (m : Up) (letters : List (Letter Up)) (down : List Down) (server client : S) → IsFirst m letters
      → Agree may_up step_up may_down step_down (messages letters) down server client → Agree may_up step_up may_down step_down (messages (drop 1 letters)) down (step_up m server) client
  first_up m [] down server client f a = absurd f
  first_up m (letter ∷ letters) down server client f a = subst (λ n. Agree may_up step_up may_down step_down (messages letters) down (step_up n server) client) (sym f)
      (took_up may_up step_up may_down step_down letter.message (messages letters) down server client a)

  -- what the client takes in
  pub client_takes : (c : ℕ) (input : Input) (es : List Entry) (up : List Up) (server client : S) → TakesFirst input (Client c) es
      → Agree may_up step_up may_down step_down up (messages (down_in_flight c es)) server client
      → Agree may_up step_up may_down step_down up (messages (cond (takes_down input) (drop 1 (down_in_flight c es)) (down_in_flight c es))) server (by_taken_down step_down input client)
  client_takes c (TookDown m) es up server client f a = first_down m up (down_in_flight c es) server client f a
  client_takes c input es up server client f a = a

  -- what the server takes of client d, as client c sees it
  server_takes : (b : Bool) (c d : ℕ) (m : Up) (es : List Entry) (down : List Down) (server client : S) → eqb c d ≡ b → IsFirst m (up_in_flight d es)
      → Agree may_up step_up may_down step_down (messages (up_in_flight c es)) down server client
      → Agree may_up step_up may_down step_down (messages (cond b (drop 1 (up_in_flight c es)) (up_in_flight c es))) down (cond b (step_up m server) server) client
  server_takes true c d m es down server client e f a = first_up m (up_in_flight c es) down server client (subst (λ n. IsFirst m (up_in_flight n es)) (sym (same_number c d e)) f) a
  server_takes false c d m es down server client e f a = a

  -- what the server takes in
  pub server_hears : (c : ℕ) (input : Input) (es : List Entry) (down : List Down) (server client : S) → TakesFirst input Server es
      → Agree may_up step_up may_down step_down (messages (up_in_flight c es)) down server client
      → Agree may_up step_up may_down step_down (messages (cond (takes_up c input) (drop 1 (up_in_flight c es)) (up_in_flight c es))) down (by_taken_up (if_to c step_up) input server) client
  server_hears c (TookUp d m) es down server client f a = server_takes (eqb c d) c d m es down server client refl f a
  server_hears c input es down server client f a = a

  module _ (commutes : Commutes may_up step_up may_down step_down) where
    -- what the client's entry sends
    pub client_sends : (clock : ℕ) (out : List Sent) (letters : List (Letter Up)) (down : List Down) (server client : S) → EachMay may_up step_up (said_of out) client
        → Agree may_up step_up may_down step_down (messages letters) down server client
        → Agree may_up step_up may_down step_down (messages (by_sent_up (posted clock) out letters)) down server (by_sent_up step_up out client)
    client_sends clock out letters down server client may a =
        subst (λ s. Agree may_up step_up may_down step_down (messages (by_sent_up (posted clock) out letters)) down server s) (sym (said_status step_up out client))
        (subst (λ up. Agree may_up step_up may_down step_down up down server (after step_up (said_of out) client)) (sym (said_letters clock out letters))
        (all_sent_up may_up step_up may_down step_down commutes (said_of out) (messages letters) down server client may a))

    -- what the server's entry sends to the client
    pub server_sends : (c clock : ℕ) (out : List Sent) (up : List Up) (letters : List (Letter Down)) (server client : S) → EachMay may_down step_down (told_to c out) server
        → Agree may_up step_up may_down step_down up (messages letters) server client
        → Agree may_up step_up may_down step_down up (messages (by_sent_down (if_to c (posted clock)) out letters)) (by_sent_down (if_to c step_down) out server) client
    server_sends c clock out up letters server client may a =
        subst (λ s. Agree may_up step_up may_down step_down up (messages (by_sent_down (if_to c (posted clock)) out letters)) s client) (sym (told_status c step_down out server))
        (subst (λ down. Agree may_up step_up may_down step_down up down (after step_down (told_to c out) server) client) (sym (told_letters c clock out letters))
        (all_sent_down may_up step_up may_down step_down commutes (told_to c out) up (messages letters) server client may a))
