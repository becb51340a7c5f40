-- What was taken and what is in flight is what was sent; so a message taken is the first in flight exactly where what was
-- taken stays a prefix.
use Rattle.std.proofs.Common.{ℕ, ◌≡◌, refl, sym, ◌∙◌, ap, subst, Bool, true, false, cond, eqb, Option, Some, None, List, [], ◌∷◌, ◌++◌, map, drop}
use Rattle.std.proofs.lemmas.List.{append_assoc, append_cancel_left}
use Rattle.dso_base.specs.declared.journal.Entry.{Entry}
use Rattle.dso_base.specs.declared.journal.Input.{Input}
use Rattle.dso_base.specs.declared.journal.Input.TheVariants.{TookUp, TookDown}
use Rattle.dso_base.specs.declared.journal.Node.{Node}
use Rattle.dso_base.specs.declared.journal.Node.TheVariants.{Server, Client}
use Rattle.dso_base.specs.declared.journal.Sent.{Sent}
use Rattle.dso_base.specs.declared.journal.Sent.TheVariants.{ToServer, ToClient}
use Rattle.dso_base.specs.declared.message.Down.{Down}
use Rattle.dso_base.specs.declared.message.Up.{Up}
use Rattle.dso_plain.proofs.keys.SameKeys.{same_number, number_self}
use Rattle.dso_law.specs.Entries.{is_node, if_to, by_sent_up, by_sent_down}
use Rattle.dso_law.specs.Channels.{Letter, posted, Direction, to_server, to_client, in_flight, up_in_flight, down_in_flight, IsFirst, TakesFirst, KeepsChannels}
use Rattle.dso_law.specs.Prefixes.{added, added_if_some, messages_sent, with_taken, messages_taken, IsPrefix, TakenWasSent, Prefixes}

-- the messages of the letters
abbrev messages : {M : Type 0} → List (Letter M) → List M
messages letters = map (λ letter. letter.message) letters

-- the messages of two lists of letters
messages_append : {M : Type 0} (xs ys : List (Letter M)) → messages (xs ++ ys) ≡ messages xs ++ messages ys
messages_append [] ys = refl
messages_append (x ∷ xs) ys = ap (λ ms. x.message ∷ ms) (messages_append xs ys)

-- one more letter is one more message
one_more : {M : Type 0} (clock : ℕ) (m : M) (taken : List M) (letters : List (Letter M)) → taken ++ messages (posted clock m letters) ≡ added m (taken ++ messages letters)
one_more clock m taken letters = ap (λ ms. taken ++ ms) (messages_append letters (record { message = m; clock = clock } ∷ []))
    ∙ sym (append_assoc taken (messages letters) (m ∷ []))

-- the message is there, and is that of the first letter
abbrev IsSomeFirst : {M : Type 0} → Option M → List (Letter M) → Type 0
IsSomeFirst None letters = ⊥
IsSomeFirst (Some m) letters = IsFirst m letters

-- the first letter's message goes over from what is in flight to what was taken
goes_over : {M : Type 0} (o : Option M) (sent taken : List M) (letters : List (Letter M)) → IsSomeFirst o letters → sent ≡ taken ++ messages letters
    → sent ≡ added_if_some o taken ++ messages (drop 1 letters)
goes_over None sent taken letters f h = absurd f
goes_over (Some m) sent taken [] f h = absurd f
goes_over (Some m) sent taken (letter ∷ letters) f h = h ∙ ap (λ n. taken ++ n ∷ messages letters) (sym f) ∙ sym (append_assoc taken (m ∷ []) (messages letters))

-- a reading after what is sent in a direction turns into another one where each of its steps does
abbrev Turns : {M : Type 0} → Direction M → Type 1
Turns {M} direction = (S T : Type 0) (h : S → T) (f : M → S → S) (g : M → T → T) → ((m : M) (s : S) → h (f m s) ≡ g m (h s))
    → (sent : List Sent) (s : S) → h (direction.by_sent f sent s) ≡ direction.by_sent g sent (h s)

-- What both directions keep to: receiver and sender are not one node; readings turn; and a message that the receiver takes
-- is the first in flight, where each entry takes that.
record IsRegular {M : Type 0} (direction : Direction M) : Type 1 where
  apart : (node : Node) → is_node direction.receiver node ≡ true → is_node direction.sender node ≡ false
  turns : Turns direction
  first : (node : Node) (input : Input) (es : List Entry) → is_node direction.receiver node ≡ true → direction.takes input ≡ true → TakesFirst input node es
      → IsSomeFirst (direction.message input) (in_flight direction es)

-- readings turn in the direction to the server
up_turns : (S T : Type 0) (h : S → T) (f : Up → S → S) (g : Up → T → T) → ((m : Up) (s : S) → h (f m s) ≡ g m (h s))
    → (sent : List Sent) (s : S) → h (by_sent_up f sent s) ≡ by_sent_up g sent (h s)
up_turns S T h f g e [] s = refl
up_turns S T h f g e (ToServer m ∷ sent) s = up_turns S T h f g e sent (f m s) ∙ ap (by_sent_up g sent) (e m s)
up_turns S T h f g e (ToClient c m ∷ sent) s = up_turns S T h f g e sent s

-- a reading after a step that may be another client's
turns_if : {S T : Type 0} (h : S → T) (b : Bool) (x y : S) (z : T) → h x ≡ z → h (cond b x y) ≡ cond b z (h y)
turns_if h true x y z e = e
turns_if h false x y z e = refl

-- readings turn in the direction to a client
down_turns : (c : ℕ) (S T : Type 0) (h : S → T) (f : Down → S → S) (g : Down → T → T) → ((m : Down) (s : S) → h (f m s) ≡ g m (h s))
    → (sent : List Sent) (s : S) → h (by_sent_down (if_to c f) sent s) ≡ by_sent_down (if_to c g) sent (h s)
down_turns c S T h f g e [] s = refl
down_turns c S T h f g e (ToServer m ∷ sent) s = down_turns c S T h f g e sent s
down_turns c S T h f g e (ToClient d m ∷ sent) s = down_turns c S T h f g e sent (if_to c f d m s)
    ∙ ap (by_sent_down (if_to c g) sent) (turns_if h (eqb c d) (f m s) s (g m (h s)) (e m s))

-- the server is no client
apart_up : (c : ℕ) (node : Node) → is_node Server node ≡ true → is_node (Client c) node ≡ false
apart_up c Server is = refl
apart_up c (Client d) is = absurd (cc is)

apart_down : (c : ℕ) (node : Node) → is_node (Client c) node ≡ true → is_node Server node ≡ false
apart_down c Server is = absurd (cc is)
apart_down c (Client d) is = refl

-- what the server takes of a client is the first in flight
first_up : (c : ℕ) (node : Node) (input : Input) (es : List Entry) → is_node Server node ≡ true → (to_server c).takes input ≡ true → TakesFirst input node es
    → IsSomeFirst ((to_server c).message input) (up_in_flight c es)
first_up c Server (TookUp d m) es is takes f = subst (λ n. IsFirst m (up_in_flight n es)) (sym (same_number c d takes)) f
first_up c Server input es is takes f = absurd (cc takes)
first_up c (Client d) input es is takes f = absurd (cc is)

-- what a client takes is the first in flight
first_down : (c : ℕ) (node : Node) (input : Input) (es : List Entry) → is_node (Client c) node ≡ true → (to_client c).takes input ≡ true → TakesFirst input node es
    → IsSomeFirst ((to_client c).message input) (down_in_flight c es)
first_down c Server input es is takes f = absurd (cc is)
first_down c (Client d) (TookDown m) es is takes f = subst (λ n. IsFirst m (down_in_flight n es)) (sym (same_number c d is)) f
first_down c (Client d) input es is takes f = absurd (cc takes)

up_regular : (c : ℕ) → IsRegular (to_server c)
up_regular c = record { apart = apart_up c; turns = up_turns; first = first_up c }

down_regular : (c : ℕ) → IsRegular (to_client c)
down_regular c = record { apart = apart_down c; turns = down_turns c; first = first_down c }

module _ {M : Type 0} (direction : Direction M) (regular : IsRegular direction) where
  -- what the receiver takes goes over; else all stays
  stays_whole : (e : Entry) (es : List Entry) (sent taken : List M) (r k : Bool) → is_node direction.receiver e.node ≡ r → direction.takes e.input ≡ k → TakesFirst e.input e.node es
      → sent ≡ taken ++ messages (in_flight direction es)
      → sent ≡ cond r (cond k (added_if_some (direction.message e.input) taken) taken) taken ++ messages (cond r (cond k (drop 1 (in_flight direction es)) (in_flight direction es)) (in_flight direction es))
  stays_whole e es sent taken true true its takes f h = goes_over (direction.message e.input) sent taken (in_flight direction es) (regular.first e.node e.input es its takes f) h
  stays_whole e es sent taken true false its takes f h = h
  stays_whole e es sent taken false k its takes f h = h

  -- one more entry
  whole_next : (e : Entry) (es : List Entry) (sent taken : List M) (r s : Bool) → is_node direction.receiver e.node ≡ r → is_node direction.sender e.node ≡ s → TakesFirst e.input e.node es
      → sent ≡ taken ++ messages (in_flight direction es)
      → cond s (direction.by_sent added e.sent sent) sent ≡ cond r (with_taken direction e.input taken) taken
      ++ messages (cond r (cond (direction.takes e.input) (drop 1 (in_flight direction es)) (in_flight direction es)) (cond s (direction.by_sent (posted e.clock) e.sent (in_flight direction es)) (in_flight direction es)))
  whole_next e es sent taken true true its own f h = let never : true ≡ false = sym own ∙ regular.apart e.node its in absurd (cc never)
  whole_next e es sent taken true false its own f h = stays_whole e es sent taken true (direction.takes e.input) its refl f h
  whole_next e es sent taken false true its own f h = ap (direction.by_sent added e.sent) h
      ∙ sym (regular.turns (List (Letter M)) (List M) (λ letters. taken ++ messages letters) (posted e.clock) added (λ m letters. one_more e.clock m taken letters) e.sent (in_flight direction es))
  whole_next e es sent taken false false its own f h = h

  -- what was sent is what was taken and what is in flight
  whole : (es : List Entry) → KeepsChannels es → messages_sent direction es ≡ messages_taken direction es ++ messages (in_flight direction es)
  whole [] keeps = refl
  whole (e ∷ es) keeps = whole_next e es (messages_sent direction es) (messages_taken direction es) (is_node direction.receiver e.node) (is_node direction.sender e.node) refl refl keeps.1 (whole es keeps.0)

  -- where the first in flight is taken, what was taken stays a prefix
  taken_was_sent : (es : List Entry) → KeepsChannels es → TakenWasSent direction es
  taken_was_sent [] keeps = tt
  taken_was_sent (e ∷ es) keeps = (
    taken_was_sent es keeps.0,
    record {
      rest = messages (cond (is_node direction.receiver e.node) (cond (direction.takes e.input) (drop 1 (in_flight direction es)) (in_flight direction es)) (in_flight direction es));
      whole = stays_whole e es (messages_sent direction es) (messages_taken direction es) (is_node direction.receiver e.node) (direction.takes e.input) refl refl keeps.1 (whole es keeps.0);
    },
  )

-- the first of a list, or another where it is empty
abbrev head_or : {M : Type 0} → M → List M → M
head_or m [] = m
head_or m (x ∷ xs) = x

-- whether there is one
abbrev is_there : {M : Type 0} → List M → Bool
is_there [] = false
is_there (x ∷ xs) = true

-- the first message is that of the first letter
is_first : {M : Type 0} (m : M) (rest : List M) (letters : List (Letter M)) → messages letters ≡ m ∷ rest → IsFirst m letters
is_first m rest [] h = let never : false ≡ true = ap is_there h in absurd (cc never)
is_first m rest (letter ∷ letters) h = sym (ap (head_or m) h)

-- where what was taken stays a prefix with one more message, that is the first in flight
first_by_prefix : {M : Type 0} (b : Bool) (m : M) (sent taken : List M) (letters : List (Letter M)) → b ≡ true → sent ≡ taken ++ messages letters
    → IsPrefix (cond b (added m taken) taken) sent → IsFirst m letters
first_by_prefix true m sent taken letters e h p = is_first m p.rest letters
    (append_cancel_left taken (messages letters) (m ∷ p.rest) (sym h ∙ p.whole ∙ append_assoc taken (m ∷ []) p.rest))
first_by_prefix false m sent taken letters e h p = absurd (cc e)

-- what was taken in a direction, with what an input at the node takes
abbrev taken_with : {M : Type 0} → Direction M → Node → Input → List Entry → List M
taken_with direction node input es = cond (is_node direction.receiver node) (with_taken direction input (messages_taken direction es)) (messages_taken direction es)

-- what an entry takes is the first in flight, where what was taken stays a prefix
takes_first : (input : Input) (node : Node) (es : List Entry) → KeepsChannels es
    → ((c : ℕ) → IsPrefix (taken_with (to_server c) node input es) (messages_sent (to_server c) es))
    → ((c : ℕ) → IsPrefix (taken_with (to_client c) node input es) (messages_sent (to_client c) es)) → TakesFirst input node es
takes_first (TookUp d m) Server es keeps up down = first_by_prefix (eqb d d) m (messages_sent (to_server d) es) (messages_taken (to_server d) es) (up_in_flight d es) (number_self d)
    (whole (to_server d) (up_regular d) es keeps) (up d)
takes_first (TookDown m) (Client c) es keeps up down = first_by_prefix (eqb c c) m (messages_sent (to_client c) es) (messages_taken (to_client c) es) (down_in_flight c es) (number_self c)
    (whole (to_client c) (down_regular c) es keeps) (down c)
takes_first input node es keeps up down = tt

keeps_channels : (es : List Entry) → ((c : ℕ) → TakenWasSent (to_server c) es × TakenWasSent (to_client c) es) → KeepsChannels es
keeps_channels [] all = tt
keeps_channels (e ∷ es) all = let keeps = keeps_channels es (λ c. ((all c).0.0, (all c).1.0)) in
    (keeps, takes_first e.input e.node es keeps (λ c. (all c).0.1) (λ c. (all c).1.1))

pub prefixes : Prefixes
prefixes es = (λ keeps c. (taken_was_sent (to_server c) (up_regular c) es keeps, taken_was_sent (to_client c) (down_regular c) es keeps), λ all. keeps_channels es all)
