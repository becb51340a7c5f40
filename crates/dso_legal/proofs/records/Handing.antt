-- What an entry does to a client's records: the server takes one, the client says some, or they stay.
use Rattle.std.proofs.Common.{ℕ, suc, ◌≡◌, ◌⊎◌, inl, inr, refl, sym, ◌∙◌, ap, subst, Bool, true, false, cond, eqb, ◌||◌, Option, List, [], ◌∷◌, ◌++◌}
use Rattle.std.specs.Prelude.{drop}
use Rattle.dso_base.specs.declared.journal.Entry.{Entry}
use Rattle.dso_base.specs.declared.journal.Input.{Input}
use Rattle.dso_base.specs.declared.journal.Input.TheVariants as input
use Rattle.dso_base.specs.declared.journal.Node.{Node}
use Rattle.dso_base.specs.declared.journal.Node.TheVariants.{Server, Client}
use Rattle.dso_base.specs.declared.lock.ThreadId.{ThreadId}
use Rattle.dso_base.specs.declared.message.Up.{Up}
use Rattle.dso_base.specs.declared.message.Up.TheVariants as up
use Rattle.dso_base.specs.declared.record.Txn.{Txn}
use Rattle.dso_base.specs.declared.request.Event.{Event}
use Rattle.dso_base.specs.declared.request.Request.{Request}
use Rattle.dso_plain.proofs.keys.SameKeys.{same_number, number_self}
use Rattle.dso_law.specs.Settings.{Settings}
use Rattle.dso_law.specs.Entries.{entries_of, by_taken_up}
use Rattle.dso_law.specs.Channels.{Letter, takes_up, up_in_flight, in_flight_after, to_server, IsFirst, TakesFirst}
use Rattle.dso_law.specs.ServerReadings.{loses, is_lost, is_of_lost, counted, number_by, last_number}
use Rattle.dso_law.specs.ServerStep.{HeardOrLost, ServerStepOn}
use Rattle.dso_legal.specs.Agreement.{messages}
use Rattle.dso_legal.specs.Lawful.{NodeFollows, MayFollow}
use Rattle.dso_legal.specs.PendingBlocks.{handed_in, record_in, records_in}
use Rattle.dso_legal.proofs.records.BothEnds.{server_with, client_with}
use Rattle.dso_legal.proofs.leases.LeaseSteps.{unless_true, if_true}
use Rattle.dso_legal.proofs.records.Numbered.{same_either}
use Rattle.dso_legal.proofs.channels.InFlight.{said_of, said_letters}

-- how many records of the client the server took, with one more entry of this node
abbrev pub handed_with : ℕ → Node → Entry → List Entry → ℕ
handed_with c node e es = last_number c (counted (server_with node e es))

-- what is in flight to the server, with one more entry of this node
abbrev pub way_with : ℕ → Node → Entry → List Entry → List Up
way_with c node e es = messages (in_flight_after (to_server c) e node (up_in_flight c es))

-- the server takes this record of the client, the first in flight, with the next number
pub record TakesRecord (c : ℕ) (txn : Txn) (node : Node) (e : Entry) (es : List Entry) : Type 0 where
  pub node_is : node ≡ Server
  pub input_is : e.input ≡ input.TookUp c (up.Commit txn)
  pub number : txn.seq ≡ suc (handed_in c es)
  pub taken : handed_with c node e es ≡ suc (handed_in c es)
  pub own : client_with c node e es ≡ entries_of (Client c) es
  pub way : messages (up_in_flight c es) ≡ up.Commit txn ∷ way_with c node e es

-- the entry is the client's
pub record SaysRecords (c : ℕ) (node : Node) (e : Entry) (es : List Entry) : Type 0 where
  pub node_is : node ≡ Client c
  pub taken : handed_with c node e es ≡ handed_in c es
  pub own : client_with c node e es ≡ e ∷ entries_of (Client c) es
  pub way : way_with c node e es ≡ messages (up_in_flight c es) ++ said_of e.sent

-- the server takes a record of the client
abbrev pub takes_record : ℕ → Node → Input → Bool
takes_record c Server (input.TookUp d (up.Commit txn)) = eqb c d
takes_record c node i = false

-- the client's records stay as they are
pub record LeavesRecords (c : ℕ) (node : Node) (e : Entry) (es : List Entry) : Type 0 where
  pub none : takes_record c node e.input ≡ false
  pub taken : handed_with c node e es ≡ handed_in c es
  pub own : client_with c node e es ≡ entries_of (Client c) es
  pub way : records_in (way_with c node e es) ≡ records_in (messages (up_in_flight c es))

-- an entry does one of these
abbrev pub DoesToRecords : ℕ → Node → Entry → List Entry → Type 0
DoesToRecords c node e es = ((txn : Txn) × TakesRecord c txn node e es) ⊎ (SaysRecords c node e es ⊎ LeavesRecords c node e es)

-- the first message in flight, and those behind it
first_on_way : (m : Up) (letters : List (Letter Up)) → IsFirst m letters → messages letters ≡ m ∷ messages (drop 1 letters)
first_on_way m [] first = absurd first
first_on_way m (letter ∷ letters) first = ap (λ n. n ∷ messages letters) (sym first)

-- the number after an entry that counts or not
number_counted : (c : ℕ) (e : Entry) (js : List Entry) (b : Bool) → last_number c (cond b js (e ∷ js)) ≡ cond b (last_number c js) (by_taken_up (number_by c) e.input (last_number c js))
number_counted c e js true = refl
number_counted c e js false = refl

-- a message of another client has no number of this one
other_number : (c d : ℕ) (m : Up) (n : ℕ) → eqb c d ≡ false → number_by c d m n ≡ n
other_number c d (up.Commit txn) n other = unless_true (eqb c d) txn.seq n other
other_number c d m n other = refl

-- who takes nothing of the client takes no record of it
no_record_taken : (c : ℕ) (i : Input) → takes_up c i ≡ false → takes_record c Server i ≡ false
no_record_taken c (input.TookUp d (up.Commit txn)) none = none
no_record_taken c (input.TookUp d m) none = refl
no_record_taken c other none = refl

-- and no number of it
unheard : (c : ℕ) (i : Input) (n : ℕ) → takes_up c i ≡ false → by_taken_up (number_by c) i n ≡ n
unheard c (input.TookUp d m) n none = other_number c d m n none
unheard c other n none = refl

module _ (p : Settings) (next : ThreadId → List Event → Option Request) (c : ℕ) (e : Entry) (es : List Entry) where
  abbrev server : List Entry
  server = entries_of Server es

  -- the number after an entry of the server
  number_after : (i : Input) → e.input ≡ i → handed_with c Server e es ≡ cond (is_of_lost i server) (handed_in c es) (by_taken_up (number_by c) i (handed_in c es))
  number_after i is = number_counted c e (counted server) (is_of_lost e.input server)
      ∙ ap (λ i. cond (is_of_lost i server) (handed_in c es) (by_taken_up (number_by c) i (handed_in c es))) is

  -- what is in flight after an entry of the server
  way_after : (i : Input) → e.input ≡ i → way_with c Server e es ≡ messages (cond (takes_up c i) (drop 1 (up_in_flight c es)) (up_in_flight c es))
  way_after i is = ap (λ i. messages (cond (takes_up c i) (drop 1 (up_in_flight c es)) (up_in_flight c es))) is

  -- an entry of the server that takes nothing of the client
  server_leaves : (i : Input) → e.input ≡ i → takes_up c i ≡ false → LeavesRecords c Server e es
  server_leaves i is none = record {
    none = ap (takes_record c Server) is ∙ no_record_taken c i none;
    taken = number_after i is ∙ ap (λ n. cond (is_of_lost i server) (handed_in c es) n) (unheard c i (handed_in c es) none) ∙ same_either (is_of_lost i server) (handed_in c es);
    own = refl;
    way = ap records_in (way_after i is ∙ ap (λ b. messages (cond b (drop 1 (up_in_flight c es)) (up_in_flight c es))) none);
  }

  module _ (m : Up) (is : e.input ≡ input.TookUp c m) (alive : is_lost c server ≡ false) (first : IsFirst m (up_in_flight c es)) where
    -- the number after a message of the client
    number_heard : handed_with c Server e es ≡ number_by c c m (handed_in c es)
    number_heard = number_after (input.TookUp c m) is ∙ unless_true (is_lost c server) (handed_in c es) (number_by c c m (handed_in c es)) alive

    -- what was in flight before it
    way_before : messages (up_in_flight c es) ≡ m ∷ way_with c Server e es
    way_before = first_on_way m (up_in_flight c es) first
        ∙ ap (λ ms. m ∷ ms) (sym (way_after (input.TookUp c m) is ∙ ap messages (if_true (eqb c c) (drop 1 (up_in_flight c es)) (up_in_flight c es) (number_self c))))

    -- a message that is no record
    took_no_record : takes_record c Server (input.TookUp c m) ≡ false → ((n : ℕ) → number_by c c m n ≡ n) → ((txns : List Txn) → record_in m txns ≡ txns) → LeavesRecords c Server e es
    took_no_record none unheard unsaid = record {
      none = ap (takes_record c Server) is ∙ none;
      taken = number_heard ∙ unheard (handed_in c es);
      own = refl;
      way = sym (ap records_in way_before ∙ unsaid (records_in (way_with c Server e es)));
    }

  -- a record of the client
  took_record : (txn : Txn) → e.input ≡ input.TookUp c (up.Commit txn) → is_lost c server ≡ false → IsFirst (up.Commit txn) (up_in_flight c es)
      → HeardOrLost p c (up.Commit txn) (is_lost c server) e (counted server) → TakesRecord c txn Server e es
  took_record txn is alive first heard =
      let number : txn.seq ≡ suc (handed_in c es) = (subst (λ b. HeardOrLost p c (up.Commit txn) b e (counted server)) alive heard).fits.number in
      record {
        node_is = refl;
        input_is = is;
        number = number;
        taken = number_heard (up.Commit txn) is alive first ∙ if_true (eqb c c) txn.seq (handed_in c es) (number_self c) ∙ number;
        own = refl;
        way = way_before (up.Commit txn) is alive first;
      }

  -- a message of the client
  took_own : (m : Up) → e.input ≡ input.TookUp c m → is_lost c server ≡ false → IsFirst m (up_in_flight c es) → HeardOrLost p c m (is_lost c server) e (counted server) → DoesToRecords c Server e es
  took_own (up.Commit txn) is alive first heard = inl (txn, took_record txn is alive first heard)
  took_own m is alive first heard = inr (inr (took_no_record m is alive first refl (λ n. refl) (λ txns. refl)))

  -- a message of some client
  took_some : (d : ℕ) (m : Up) (b : Bool) → eqb c d ≡ b → e.input ≡ input.TookUp d m → is_lost c server ≡ false → IsFirst m (up_in_flight d es) → HeardOrLost p d m (is_lost d server) e (counted server)
      → DoesToRecords c Server e es
  took_some d m true own is alive first heard =
      let same : d ≡ c = sym (same_number c d own) in
      took_own m (is ∙ ap (λ n. input.TookUp n m) same) alive (subst (λ n. IsFirst m (up_in_flight n es)) same first) (subst (λ n. HeardOrLost p n m (is_lost n server) e (counted server)) same heard)
  took_some d m false other is alive first heard = inr (inr (server_leaves (input.TookUp d m) is other))

  -- an entry of the server
  server_does : (i : Input) → e.input ≡ i → is_lost c server ≡ false → TakesFirst i Server es → ServerStepOn p i e server → DoesToRecords c Server e es
  server_does (input.TookUp d m) is alive first step = took_some d m (eqb c d) refl is alive first step.heard
  server_does other is alive first step = inr (inr (server_leaves other is refl))

  -- an entry of a client
  client_does : (d : ℕ) (b : Bool) → eqb c d ≡ b → DoesToRecords c (Client d) e es
  client_does d true same = inr (inl (record {
    node_is = ap Client (sym (same_number c d same));
    taken = refl;
    own = if_true (eqb c d) (e ∷ entries_of (Client c) es) (entries_of (Client c) es) same;
    way = ap messages (if_true (eqb c d) _ (up_in_flight c es) same) ∙ said_letters e.clock e.sent (up_in_flight c es);
  }))
  client_does d false other = inr (inr (record {
    none = refl;
    taken = refl;
    own = unless_true (eqb c d) (e ∷ entries_of (Client c) es) (entries_of (Client c) es) other;
    way = ap (λ letters. records_in (messages letters)) (unless_true (eqb c d) _ (up_in_flight c es) other);
  }))

  does_at : (node : Node) → TakesFirst e.input node es → NodeFollows p next node e es → is_lost c server ≡ false → DoesToRecords c node e es
  does_at Server first follows alive = server_does e.input refl alive first follows.step
  does_at (Client d) first follows alive = client_does d (eqb c d) refl

  -- What an entry does to the records of a client that isn't lost before it.
  pub does_to_records : MayFollow p next e es → is_lost c server ≡ false → DoesToRecords c e.node e es
  does_to_records follows alive = does_at e.node follows.channels follows.rule alive

  -- the server takes no more records of a lost client
  lost_heard : (i : Input) → e.input ≡ i → is_lost c server ≡ true → handed_with c Server e es ≡ handed_in c es
  lost_heard (input.TookUp d m) is lost = by (eqb c d) refl
    where
      by : (b : Bool) → eqb c d ≡ b → handed_with c Server e es ≡ handed_in c es
      by true same = number_after (input.TookUp d m) is ∙ if_true (is_lost d server) (handed_in c es) (by_taken_up (number_by c) (input.TookUp d m) (handed_in c es)) (subst (λ n. is_lost n server ≡ true) (same_number c d same) lost)
      by false other = (server_leaves (input.TookUp d m) is other).taken
  lost_heard other is lost = (server_leaves other is refl).taken

  lost_at : (node : Node) → is_lost c server ≡ true → handed_with c node e es ≡ handed_in c es
  lost_at Server lost = lost_heard e.input refl lost
  lost_at (Client d) lost = refl

  -- nor as it loses it
  lost_now : (node : Node) → is_lost c (server_with node e es) ≡ true → handed_with c node e es ≡ handed_in c es
  lost_now Server lost = by e.input refl lost
    where
      by : (i : Input) → e.input ≡ i → (loses c i || is_lost c server) ≡ true → handed_with c Server e es ≡ handed_in c es
      by (input.TookUp d m) is lost = lost_heard (input.TookUp d m) is lost
      by other is lost = (server_leaves other is refl).taken
  lost_now (Client d) lost = refl

  -- An entry hands in no record of a client that is lost by it or before it,
  pub lost_after_hands : is_lost c (entries_of Server (e ∷ es)) ≡ true → handed_with c e.node e es ≡ handed_in c es
  lost_after_hands lost = lost_now e.node lost

  -- so none of one that is lost before it.
  pub lost_hands : is_lost c server ≡ true → handed_with c e.node e es ≡ handed_in c es
  lost_hands lost = lost_at e.node lost

  record_at : (node : Node) (txn : Txn) → node ≡ Server → e.input ≡ input.TookUp c (up.Commit txn) → TakesFirst e.input node es → NodeFollows p next node e es → is_lost c server ≡ false → TakesRecord c txn node e es
  record_at Server txn at is first follows alive =
      took_record txn is alive (subst (λ i. TakesFirst i Server es) is first) (subst (λ i. ServerStepOn p i e server) is follows.step).heard
  record_at (Client d) txn at is first follows alive = absurd (cc at)

  -- The server takes a record of a client that isn't lost.
  pub takes_its_record : (txn : Txn) → MayFollow p next e es → is_lost c server ≡ false → e.node ≡ Server → e.input ≡ input.TookUp c (up.Commit txn) → TakesRecord c txn e.node e es
  takes_its_record txn follows alive at is = record_at e.node txn at is follows.channels follows.rule alive

  says_own : SaysRecords c (Client c) e es
  says_own = record {
    node_is = refl;
    taken = refl;
    own = if_true (eqb c c) (e ∷ entries_of (Client c) es) (entries_of (Client c) es) (number_self c);
    way = ap messages (if_true (eqb c c) _ (up_in_flight c es) (number_self c)) ∙ said_letters e.clock e.sent (up_in_flight c es);
  }

  -- The client's own entry says what it sends.
  pub says_its_own : e.node ≡ Client c → SaysRecords c e.node e es
  says_its_own at = subst (λ node. SaysRecords c node e es) (sym at) says_own
