-- The clocks of a journal's entries are no greater than their number, nor are those of the letters in flight.
use Rattle.std.proofs.Common.{ℕ, suc, max, ◌≤◌, ◌≡◌, Bool, true, false, cond, eqb, Option, List, [], ◌∷◌, drop, length, arith}
use Rattle.dso_base.specs.declared.journal.Entry.{Entry}
use Rattle.dso_base.specs.declared.journal.Input.{Input}
use Rattle.dso_base.specs.declared.journal.Input.TheVariants.{TookUp, TookDown}
use Rattle.dso_base.specs.declared.journal.Node.{Node}
use Rattle.dso_base.specs.declared.journal.Node.TheVariants.{Server, Client}
use Rattle.dso_base.specs.declared.journal.Sent.{Sent}
use Rattle.dso_base.specs.declared.journal.Sent.TheVariants.{ToServer, ToClient}
use Rattle.dso_base.specs.declared.lock.ThreadId.{ThreadId}
use Rattle.dso_base.specs.declared.message.Down.{Down}
use Rattle.dso_base.specs.declared.message.Up.{Up}
use Rattle.dso_base.specs.declared.request.Event.{Event}
use Rattle.dso_base.specs.declared.request.Request.{Request}
use Rattle.dso_law.specs.Settings.{Settings}
use Rattle.dso_law.specs.Entries.{is_node, if_to, by_sent_up, by_sent_down}
use Rattle.dso_law.specs.Channels.{Letter, RespectsClocks, down_in_flight, first_clock, last_clock, posted, taken_clock, takes_down, takes_up, up_in_flight}
use Rattle.dso_legal.specs.Lawful.{AllFollow}

-- no letter has a greater clock
abbrev pub Below : {M : Type 0} → ℕ → List (Letter M) → Type 0
Below n [] = Unit {0}
Below n (letter ∷ letters) = (letter.clock ≤ n) × Below n letters

below_more : {M : Type 0} (n : ℕ) (letters : List (Letter M)) → Below n letters → Below (suc n) letters
below_more n [] below = tt
below_more n (letter ∷ letters) below = let few : letter.clock ≤ n = below.0 in (omega (arith, few), below_more n letters below.1)

below_rest : {M : Type 0} (n : ℕ) (letters : List (Letter M)) → Below n letters → Below n (drop 1 letters)
below_rest n [] below = tt
below_rest n (letter ∷ letters) below = below.1

below_posted : {M : Type 0} (n clock : ℕ) (m : M) (letters : List (Letter M)) → clock ≤ n → Below n letters → Below n (posted clock m letters)
below_posted n clock m [] few below = (few, tt)
below_posted n clock m (letter ∷ letters) few below = (below.0, below_posted n clock m letters few below.1)

below_first : {M : Type 0} (n : ℕ) (letters : List (Letter M)) → Below n letters → first_clock letters ≤ n
below_first n [] below = omega arith
below_first n (letter ∷ letters) below = below.0

below_up : (n clock : ℕ) (sent : List Sent) (letters : List (Letter Up)) → clock ≤ n → Below n letters → Below n (by_sent_up (posted clock) sent letters)
below_up n clock [] letters few below = below
below_up n clock (ToServer m ∷ sent) letters few below = below_up n clock sent (posted clock m letters) few (below_posted n clock m letters few below)
below_up n clock (ToClient c m ∷ sent) letters few below = below_up n clock sent letters few below

below_down : (c n clock : ℕ) (sent : List Sent) (letters : List (Letter Down)) → clock ≤ n → Below n letters → Below n (by_sent_down (if_to c (posted clock)) sent letters)
below_down c n clock [] letters few below = below
below_down c n clock (ToServer m ∷ sent) letters few below = below_down c n clock sent letters few below
below_down c n clock (ToClient d m ∷ sent) letters few below = below_down c n clock sent (cond (eqb c d) (posted clock m letters) letters) few (by (eqb c d))
  where
    by : (its : Bool) → Below n (cond its (posted clock m letters) letters)
    by true = below_posted n clock m letters few below
    by false = below

-- no clock is greater than the number of entries
pub record HasFewClocks (es : List Entry) : Type 0 where
  pub last : (node : Node) → last_clock node es ≤ length es
  pub up : (c : ℕ) → Below (length es) (up_in_flight c es)
  pub down : (c : ℕ) → Below (length es) (down_in_flight c es)

taken_few : (input : Input) (node : Node) (es : List Entry) → HasFewClocks es → taken_clock input node es ≤ length es
taken_few (TookUp c m) Server es few = below_first (length es) (up_in_flight c es) (few.up c)
taken_few (TookDown m) (Client c) es few = below_first (length es) (down_in_flight c es) (few.down c)
taken_few input node es few = omega arith

module _ (e : Entry) (es : List Entry) (few : HasFewClocks es) (right : RespectsClocks e es) where
  own_few : e.clock ≤ suc (length es)
  own_few =
      let a : last_clock e.node es ≤ length es = few.last e.node in
      let b : taken_clock e.input e.node es ≤ length es = taken_few e.input e.node es few in
      let c : e.clock ≡ suc (max (last_clock e.node es) (taken_clock e.input e.node es)) = right in
      omega (arith, a, b, c)

  more_few : HasFewClocks (e ∷ es)
  more_few = record {
    last = λ node. by_last (is_node node e.node) (few.last node);
    up = λ c. by_up c (is_node Server e.node) (is_node (Client c) e.node);
    down = λ c. by_down c (is_node (Client c) e.node) (is_node Server e.node);
  }
    where
      by_last : {n : ℕ} (its : Bool) → n ≤ length es → cond its e.clock n ≤ suc (length es)
      by_last true less = own_few
      by_last false less = omega (arith, less)

      by_up : (c : ℕ) (takes sends : Bool) → Below (suc (length es)) (cond takes (cond (takes_up c e.input) (drop 1 (up_in_flight c es)) (up_in_flight c es)) (cond sends (by_sent_up (posted e.clock) e.sent (up_in_flight c es)) (up_in_flight c es)))
      by_up c true sends = rest (takes_up c e.input)
        where
          rest : (takes : Bool) → Below (suc (length es)) (cond takes (drop 1 (up_in_flight c es)) (up_in_flight c es))
          rest true = below_rest (suc (length es)) (up_in_flight c es) (below_more (length es) (up_in_flight c es) (few.up c))
          rest false = below_more (length es) (up_in_flight c es) (few.up c)
      by_up c false true = below_up (suc (length es)) e.clock e.sent (up_in_flight c es) own_few (below_more (length es) (up_in_flight c es) (few.up c))
      by_up c false false = below_more (length es) (up_in_flight c es) (few.up c)

      by_down : (c : ℕ) (takes sends : Bool) → Below (suc (length es)) (cond takes (cond (takes_down e.input) (drop 1 (down_in_flight c es)) (down_in_flight c es)) (cond sends (by_sent_down (if_to c (posted e.clock)) e.sent (down_in_flight c es)) (down_in_flight c es)))
      by_down c true sends = rest (takes_down e.input)
        where
          rest : (takes : Bool) → Below (suc (length es)) (cond takes (drop 1 (down_in_flight c es)) (down_in_flight c es))
          rest true = below_rest (suc (length es)) (down_in_flight c es) (below_more (length es) (down_in_flight c es) (few.down c))
          rest false = below_more (length es) (down_in_flight c es) (few.down c)
      by_down c false true = below_down c (suc (length es)) e.clock e.sent (down_in_flight c es) own_few (below_more (length es) (down_in_flight c es) (few.down c))
      by_down c false false = below_more (length es) (down_in_flight c es) (few.down c)

pub clocks_are_few : (p : Settings) (next : ThreadId → List Event → Option Request) (es : List Entry) → AllFollow p next es → HasFewClocks es
clocks_are_few p next [] follow = record { last = λ node. omega arith; up = λ c. tt; down = λ c. tt }
clocks_are_few p next (e ∷ es) follow = more_few e es (clocks_are_few p next es follow.0) follow.1.clocks
