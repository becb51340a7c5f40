-- The journal that the logs of a cluster make is lawful: entry by entry, the oldest first.
use Rattle.std.specs.List.{list_any, AllByRecursion}
use Rattle.std.proofs.Common.{ℕ, suc, max, ◌≤◌, ◌<◌, ◌^◌, ◌≡◌, refl, sym, ◌∙◌, ap, subst, Bool, true, false, cond, eqb, Option, Some, List, [], ◌∷◌, ◌++◌, drop, length, slice_get, arith}
use Rattle.std.proofs.lemmas.List.{append_assoc}
use Rattle.dso_base.specs.declared.journal.Entry.{Entry}
use Rattle.dso_base.specs.declared.journal.Input.{Input}
use Rattle.dso_base.specs.declared.journal.Input.TheVariants as input
use Rattle.dso_base.specs.declared.journal.Node.{Node}
use Rattle.dso_base.specs.declared.journal.Node.TheVariants.{Server, Client}
use Rattle.dso_base.specs.declared.lock.ThreadId.{ThreadId}
use Rattle.dso_base.specs.declared.message.Down.{Down}
use Rattle.dso_base.specs.declared.message.Up.{Up}
use Rattle.dso_base.specs.declared.request.Event.{Event}
use Rattle.dso_base.specs.declared.request.Request.{Request}
use Rattle.dso_plain.proofs.keys.SameKeys.{number_self}
use Rattle.dso_law.specs.Channels.{CountsRejoins, Direction, FitsConnection, IsFirst, Letter, TakesFirst, breaks, count_inputs, down_in_flight, first_clock, in_flight, last_clock, rejoins, taken_clock, to_client, to_server, up_in_flight}
use Rattle.dso_law.specs.ClientRun.{next_in}
use Rattle.dso_law.specs.ClientStep.{ClientStepOn}
use Rattle.dso_law.specs.Entries.{entries_of, is_node}
use Rattle.dso_law.specs.FitsDown.{FitsDown}
use Rattle.dso_law.specs.FitsUp.{FitsUp}
use Rattle.dso_law.specs.ServerReadings.{counted}
use Rattle.dso_law.specs.ServerStep.{ServerStep, ServerStepOn}
use Rattle.dso_law.specs.Settings.{Settings, clients_of}
use Rattle.dso_law.proofs.runs.OwnRequests.{own_requests}
use Rattle.dso_machine.specs.declared.code.Code.{Code}
use Rattle.dso_machine.specs.Next.{next_request}
use Rattle.dso_machine.specs.Sound.{IsSoundCode}
use Rattle.dso_legal.specs.Lawful.{AllFollow, ClientFollows, MayFollow, NodeFollows, next_after}
use Rattle.dso_world.specs.PastOf.{AreLeft, LettersAreLeft, letters_posted}
use Rattle.dso_world.proofs.journals.Letters.{letters_are_left}
use Rattle.dso_world.proofs.premises.OwnRun.{more_next, own_next}
use Rattle.dso_world.proofs.premises.Sizes.{sizes_are_kept}
use Rattle.dso_world.proofs.premises.WhatComes.{comes_down, comes_up}
use Rattle.dso_cell.specs.Logs.{FitsLog, IsLocalRun}
use Rattle.dso_line.specs.Letters.{KeepsClock, KeepsConnections, is_taking, letters_of, log_clock}
use Rattle.dso_line.specs.Ways.{TakesInOrder, TakesNext}
use Rattle.dso_host.specs.Merged.{AreLogs, ClocksRise, MergedIsLawful}
use Rattle.dso_host.proofs.merging.Fronts.{clocks_behind, connections_behind, runs_behind, takes_behind}
use Rattle.dso_host.proofs.merging.Order.{in_order}
use Rattle.dso_host.proofs.merging.Posting.{PostsBehind, down_behind, earlier, first_left, own_letters, posts_later, up_behind}

-- ---- logs and the journal's older part

-- what the log has besides the node's entries among these: the newer ones, none of which has a lower clock than any of these
record Front (log es : List Entry) (node : Node) : Type 0 where
  front : List Entry
  is : log ≡ front ++ entries_of node es
  above : AllByRecursion (λ f. AllByRecursion (λ e. e.clock ≤ f.clock) es) front

all_rest : (e : Entry) (es front : List Entry) → AllByRecursion (λ f. AllByRecursion (λ one. one.clock ≤ f.clock) (e ∷ es)) front → AllByRecursion (λ f. AllByRecursion (λ one. one.clock ≤ f.clock) es) front
all_rest e es [] above = tt
all_rest e es (f ∷ front) above = (above.0.1, all_rest e es front above.1)

all_snoc : (P : Entry → Type 0) (front : List Entry) (e : Entry) → AllByRecursion P front → P e → AllByRecursion P (front ++ e ∷ [])
all_snoc P [] e all its = (its, tt)
all_snoc P (f ∷ front) e all its = (all.0, all_snoc P front e all.1 its)

-- the newer ones have no lower clock than the first of these
above_first : (e : Entry) (es front : List Entry) → AllByRecursion (λ f. AllByRecursion (λ one. one.clock ≤ f.clock) (e ∷ es)) front → AllByRecursion (λ f. e.clock ≤ f.clock) front
above_first e es [] above = tt
above_first e es (f ∷ front) above = (above.0.0, above_first e es front above.1)

-- one entry less
front_behind : (log : List Entry) (e : Entry) (es : List Entry) (node : Node) → AllByRecursion (λ one. one.clock ≤ e.clock) es → Front log (e ∷ es) node → Front log es node
front_behind log e es node rises front = by (is_node node e.node) front.is
  where
    by : (its : Bool) → log ≡ front.front ++ cond its (e ∷ entries_of node es) (entries_of node es) → Front log es node
    by false is = record { front = front.front; is = is; above = all_rest e es front.front front.above }
    by true is = record {
      front = front.front ++ e ∷ [];
      is = is ∙ sym (append_assoc front.front (e ∷ []) (entries_of node es));
      above = all_snoc (λ f. AllByRecursion (λ one. one.clock ≤ f.clock) es) front.front e (all_rest e es front.front front.above) rises;
    }

-- the clock of a node's last entry is that of its own entries
own_clock : (node : Node) (es : List Entry) → last_clock node es ≡ log_clock (entries_of node es)
own_clock node [] = refl
own_clock node (e ∷ es) = by (is_node node e.node) (own_clock node es)
  where
    by : (its : Bool) → last_clock node es ≡ log_clock (entries_of node es) → cond its e.clock (last_clock node es) ≡ log_clock (cond its (e ∷ entries_of node es) (entries_of node es))
    by true before = refl
    by false before = before

node_self : (node : Node) → is_node node node ≡ true
node_self Server = refl
node_self (Client c) = number_self c

-- ---- the letter that is taken is the first in flight
letters : LettersAreLeft (Unit {0})
letters = letters_are_left

-- those behind it
abbrev behind_first : {M : Type 0} → Direction M → List Entry → List (Letter M)
behind_first direction es = drop (suc (count_inputs direction.takes (entries_of direction.receiver es))) (letters_posted direction es)

module _ {M : Type 0} (direction : Direction M) (behind : PostsBehind direction) (log : List Entry) (e : Entry) (es : List Entry)
    (front : Front log (e ∷ es) direction.sender) (other : entries_of direction.sender (e ∷ es) ≡ entries_of direction.sender es)
    (left : AreLeft direction es)
    (takes : TakesNext direction (letters_of direction log) e (entries_of direction.receiver es)) where
  low : takes.letter.clock < e.clock
  low = omega (arith, takes.clock)

  there : slice_get (letters_posted direction es) (count_inputs direction.takes (entries_of direction.receiver es)) ≡ Some takes.letter
  there =
      let later = posts_later direction behind e.clock front.front (entries_of direction.sender es) (above_first e es front.front front.above) in
      let whole : letters_of direction log ≡ letters_of direction (entries_of direction.sender es) ++ later.rest = ap (letters_of direction) (front.is ∙ ap (λ own. front.front ++ own) other) ∙ later.is in
      let at : slice_get (letters_of direction (entries_of direction.sender es) ++ later.rest) (count_inputs direction.takes (entries_of direction.receiver es)) ≡ Some takes.letter =
      ap (λ letters. slice_get letters (count_inputs direction.takes (entries_of direction.receiver es))) (sym whole) ∙ takes.next in
      ap (λ letters. slice_get letters (count_inputs direction.takes (entries_of direction.receiver es))) (own_letters direction es)
      ∙ earlier e.clock (letters_of direction (entries_of direction.sender es)) later.rest (count_inputs direction.takes (entries_of direction.receiver es)) takes.letter later.above at low

  first_in_flight : in_flight direction es ≡ takes.letter ∷ behind_first direction es
  first_in_flight = left.left ∙ first_left (letters_posted direction es) (count_inputs direction.takes (entries_of direction.receiver es)) takes.letter there

-- ---- one entry more
module _ (code : Code) (sound : IsSoundCode code) (p : Settings) (shaped : p.shape ≡ code.shape) (log : Node → List Entry) (logs : AreLogs code p log) where
  abbrev next : ThreadId → List Event → Option Request
  next = next_request code

  abbrev Fronts : List Entry → Type 0
  Fronts es = (node : Node) → Front (log node) es node

  module _ (e : Entry) (es : List Entry) (fronts : Fronts (e ∷ es)) (follow : AllFollow p next es) (few : length es < 2 ^ 54) where
    -- the log up to the entry
    own : (node : Node) → e.node ≡ node → entries_of node (e ∷ es) ≡ e ∷ entries_of node es
    own node is = ap (λ b. cond b (e ∷ entries_of node es) (entries_of node es)) (subst (λ n. is_node node n ≡ true) (sym is) (node_self node))

    up_to : (node : Node) → e.node ≡ node → log node ≡ (fronts node).front ++ e ∷ entries_of node es
    up_to node is = (fronts node).is ∙ ap (λ list. (fronts node).front ++ list) (own node is)

    run : (node : Node) → e.node ≡ node → IsLocalRun code p node (e ∷ entries_of node es)
    run node is = runs_behind code p node (fronts node).front (e ∷ entries_of node es) (subst (IsLocalRun code p node) (up_to node is) (logs.runs node))

    clock : (node : Node) → e.node ≡ node → is_taking e.input ≡ false → e.clock ≡ suc (max (last_clock node es) 0)
    clock node is quiet =
        let keeps = clocks_behind (fronts node).front (e ∷ entries_of node es) (subst KeepsClock (up_to node is) (logs.clocks node)) in
        let here : e.clock ≡ suc (log_clock (entries_of node es)) = keeps.1 quiet in
        here ∙ ap suc (sym (own_clock node es)) ∙ omega arith

    -- ---- of a client
    module _ (c : ℕ) (is : e.node ≡ Client c) where
      its_by : (b : Bool) → list_any (eqb c) (clients_of p) ≡ b → b ≡ true
      its_by true one = refl
      its_by false none =
          let empty : (fronts (Client c)).front ++ e ∷ entries_of (Client c) es ≡ [] = sym (up_to (Client c) is) ∙ logs.none_else c none in
          absurd (not_empty (fronts (Client c)).front empty)
        where
          not_empty : (front : List Entry) → front ++ e ∷ entries_of (Client c) es ≡ [] → ⊥
          not_empty [] same = absurd (cc same)
          not_empty (f ∷ front) same = absurd (cc same)

      its : list_any (eqb c) (clients_of p) ≡ true
      its = let b = its_by (list_any (eqb c) (clients_of p)) refl in b

      client_rule : FitsLog code p (Client c) e.input (entries_of (Client c) es) → ClientFollows p next c e es
      client_rule fits = record {
        its = its;
        step = own_requests p c (next_in next (entries_of (Client c) es)) (next_after next es) (next_in next (e ∷ entries_of (Client c) es)) (next_after next (e ∷ es)) e (entries_of (Client c) es)
            (own_next p next c es) (more_next p next c es e is) ((run (Client c) is).2 (in_order code sound p shaped (Client c) es follow, fits));
      }

      takes_down_next : (m : Down) → e.input ≡ input.TookDown m → TakesNext (to_client c) (letters_of (to_client c) (log Server)) e (entries_of (Client c) es)
      takes_down_next m at =
          (takes_behind (to_client c) (letters_of (to_client c) (log Server)) (fronts (Client c)).front (e ∷ entries_of (Client c) es)
          (subst (TakesInOrder (to_client c) (letters_of (to_client c) (log Server))) (up_to (Client c) is) (logs.down c))).1
          (ap (to_client c).takes at)

      no_server : entries_of Server (e ∷ es) ≡ entries_of Server es
      no_server = ap (λ n. cond (is_node Server n) (e ∷ entries_of Server es) (entries_of Server es)) is

      -- by what it takes in
      client_may : (i : Input) → e.input ≡ i → TakesFirst i (Client c) es × (e.clock ≡ suc (max (last_clock (Client c) es) (taken_clock i (Client c) es))) × ClientFollows p next c e es
      client_may (input.TookDown m) at =
          let takes = takes_down_next m at in
          let first = first_in_flight (to_client c) (down_behind c) (log Server) e es (fronts Server) no_server (letters.down p next es follow c) takes in
          let same : Some m ≡ Some takes.letter.message = sym (ap (to_client c).message at) ∙ takes.message in
          let message : m ≡ takes.letter.message = cc same in
          let is_first : IsFirst m (down_in_flight c es) = subst (IsFirst m) (sym first) message in
          let fits : FitsDown p c m (entries_of (Client c) es) = subst (λ one. FitsDown p c one (entries_of (Client c) es)) (sym message)
          (comes_down code sound p shaped es follow few c takes.letter (behind_first (to_client c) es) first) in (
            is_first,
            takes.clock ∙ ap (λ n. suc (max n takes.letter.clock)) (sym (own_clock (Client c) es)) ∙ ap (λ letters. suc (max (last_clock (Client c) es) (first_clock letters))) (sym first),
            client_rule (subst (λ i. FitsLog code p (Client c) i (entries_of (Client c) es)) (sym at) fits),
          )
      client_may (input.Act index) at = (tt, clock (Client c) is (ap is_taking at), client_rule (subst (λ i. FitsLog code p (Client c) i (entries_of (Client c) es)) (sym at) (sizes_are_kept code sound p shaped es follow c)))
      client_may (input.Flush o) at = (tt, clock (Client c) is (ap is_taking at), client_rule (subst (λ i. FitsLog code p (Client c) i (entries_of (Client c) es)) (sym at) tt))
      client_may (input.Rejoin d) at = (tt, clock (Client c) is (ap is_taking at), client_rule (subst (λ i. FitsLog code p (Client c) i (entries_of (Client c) es)) (sym at) tt))
      client_may (input.TookUp d m) at = absurd (subst (λ i. ClientStepOn p c i (next_after next es) (next_after next (e ∷ es)) e (entries_of (Client c) es)) at (client_rule (subst (λ i. FitsLog code p (Client c) i (entries_of (Client c) es)) (sym at) tt)).step)
      client_may (input.Lose d) at = absurd (subst (λ i. ClientStepOn p c i (next_after next es) (next_after next (e ∷ es)) e (entries_of (Client c) es)) at (client_rule (subst (λ i. FitsLog code p (Client c) i (entries_of (Client c) es)) (sym at) tt)).step)
      client_may (input.Break d) at = absurd (subst (λ i. ClientStepOn p c i (next_after next es) (next_after next (e ∷ es)) e (entries_of (Client c) es)) at (client_rule (subst (λ i. FitsLog code p (Client c) i (entries_of (Client c) es)) (sym at) tt)).step)

      client_follows : MayFollow p next e es
      client_follows =
          let may = client_may e.input refl in record {
            channels = subst (λ n. TakesFirst e.input n es) (sym is) may.0;
            clocks = subst (λ n. e.clock ≡ suc (max (last_clock n es) (taken_clock e.input n es))) (sym is) may.1;
            rule = subst (λ n. NodeFollows p next n e es) (sym is) may.2;
          }

    -- ---- of the server
    module _ (is : e.node ≡ Server) where
      server_rule : FitsLog code p Server e.input (entries_of Server es) → ServerStep p e (entries_of Server es)
      server_rule fits = (run Server is).2 (in_order code sound p shaped Server es follow, fits)

      connection : FitsConnection e.input (entries_of Server es)
      connection = (connections_behind (fronts Server).front (e ∷ entries_of Server es) (subst KeepsConnections (up_to Server is) logs.connections)).1

      no_client : (c : ℕ) → entries_of (Client c) (e ∷ es) ≡ entries_of (Client c) es
      no_client c = ap (λ n. cond (is_node (Client c) n) (e ∷ entries_of (Client c) es) (entries_of (Client c) es)) is

      takes_up_next : (c : ℕ) (m : Up) → e.input ≡ input.TookUp c m → TakesNext (to_server c) (letters_of (to_server c) (log (Client c))) e (entries_of Server es)
      takes_up_next c m at =
          (takes_behind (to_server c) (letters_of (to_server c) (log (Client c))) (fronts Server).front (e ∷ entries_of Server es)
          (subst (TakesInOrder (to_server c) (letters_of (to_server c) (log (Client c)))) (up_to Server is) (logs.up c))).1
          (ap (to_server c).takes at ∙ number_self c)

      abbrev Fits : Input → Type 0
      Fits i = FitsLog code p Server i (entries_of Server es)

      server_may : (i : Input) → e.input ≡ i → TakesFirst i Server es × (e.clock ≡ suc (max (last_clock Server es) (taken_clock i Server es))) × ServerStep p e (entries_of Server es)
      server_may (input.TookUp c m) at =
          let takes = takes_up_next c m at in
          let first = first_in_flight (to_server c) (up_behind c) (log (Client c)) e es (fronts (Client c)) (no_client c) (letters.up p next es follow c) takes in
          let same : Some m ≡ Some takes.letter.message = sym (ap (to_server c).message at) ∙ takes.message in
          let message : m ≡ takes.letter.message = cc same in
          let is_first : IsFirst m (up_in_flight c es) = subst (IsFirst m) (sym first) message in (
            is_first,
            takes.clock ∙ ap (λ n. suc (max n takes.letter.clock)) (sym (own_clock Server es)) ∙ ap (λ letters. suc (max (last_clock Server es) (first_clock letters))) (sym first),
            server_rule (subst Fits (sym at) (λ alive. subst (λ one. FitsUp p c one (counted (entries_of Server es))) (sym message)
                (comes_up code sound p shaped es follow few c alive takes.letter (behind_first (to_server c) es) first))),
          )
      server_may (input.Lose c) at = (tt, clock Server is (ap is_taking at), server_rule (subst Fits (sym at) tt))
      server_may (input.Break c) at = (tt, clock Server is (ap is_taking at), server_rule (subst Fits (sym at) tt))
      server_may (input.Rejoin c) at = (tt, clock Server is (ap is_taking at), server_rule (subst Fits (sym at) tt))
      server_may (input.Act index) at = (tt, clock Server is (ap is_taking at), server_rule (subst Fits (sym at) tt))
      server_may (input.Flush o) at = (tt, clock Server is (ap is_taking at), server_rule (subst Fits (sym at) tt))
      server_may (input.TookDown m) at = absurd (subst (λ i. ServerStepOn p i e (entries_of Server es)) at (server_rule (subst Fits (sym at) tt)))

      server_follows : MayFollow p next e es
      server_follows =
          let may = server_may e.input refl in record {
            channels = subst (λ n. TakesFirst e.input n es) (sym is) may.0;
            clocks = subst (λ n. e.clock ≡ suc (max (last_clock n es) (taken_clock e.input n es))) (sym is) may.1;
            rule = subst (λ n. NodeFollows p next n e es) (sym is) (record { step = may.2; connection = connection });
          }

    may_follow : (node : Node) → e.node ≡ node → MayFollow p next e es
    may_follow Server is = server_follows is
    may_follow (Client c) is = client_follows c is

  -- entry by entry
  all_follow : (es : List Entry) → Fronts es → ClocksRise es → length es < 2 ^ 54 → AllFollow p next es
  all_follow [] fronts order few = tt
  all_follow (e ∷ es) fronts order few =
      let before = all_follow es (λ node. front_behind (log node) e es node order.1 (fronts node)) order.0 (omega (arith, few)) in
      (before, may_follow e es fronts before (omega (arith, few)) e.node refl)

pub merged_is_lawful : MergedIsLawful
merged_is_lawful code p sound shaped log es logs merged few = record {
  follow = all_follow code sound p shaped log logs es (λ node. record { front = []; is = sym (merged.whole node); above = tt }) merged.order few;
  connections = each (clients_of p);
}
  where
    counts : (c : ℕ) → CountsRejoins c es
    counts c = record {
      at_client = subst (λ own. count_inputs (rejoins c) own ≤ count_inputs (breaks c) (entries_of Server es)) (sym (merged.whole (Client c)))
          (subst (λ own. count_inputs (rejoins c) (log (Client c)) ≤ count_inputs (breaks c) own) (sym (merged.whole Server)) (logs.rejoined c));
      at_server = subst (λ own. count_inputs (rejoins c) own ≤ count_inputs (rejoins c) (entries_of (Client c) es)) (sym (merged.whole Server))
          (subst (λ own. count_inputs (rejoins c) (log Server) ≤ count_inputs (rejoins c) own) (sym (merged.whole (Client c))) (logs.taken_up c));
    }

    each : (cs : List ℕ) → AllByRecursion (λ c. CountsRejoins c es) cs
    each [] = tt
    each (c ∷ cs) = (counts c, each cs)
