-- What no client published is nowhere: at no client resident, in no message, not in the graph. So what a thread has in hand is
-- resident nowhere.
use Rattle.std.specs.List.{AllByRecursion}
use Rattle.std.proofs.Common.{ℕ, ◌≤◌, ◌≡◌, ◌≢◌, refl, sym, ◌∙◌, ap, subst, Bool, true, false, cond, eqb, Option, Some, None, List, [], ◌∷◌, arith}
use Rattle.dso_base.specs.declared.journal.Entry.{Entry}
use Rattle.dso_base.specs.declared.journal.Input.{Input}
use Rattle.dso_base.specs.declared.journal.Input.TheVariants as input
use Rattle.dso_base.specs.declared.journal.Node.{Node}
use Rattle.dso_base.specs.declared.journal.Node.TheVariants.{Server, Client}
use Rattle.dso_base.specs.declared.journal.Sent.{Sent}
use Rattle.dso_base.specs.declared.journal.Sent.TheVariants.{ToServer, ToClient}
use Rattle.dso_base.specs.declared.lock.ThreadId.{ThreadId}
use Rattle.dso_base.specs.declared.message.Down.{Down}
use Rattle.dso_base.specs.declared.message.Down.TheVariants as down
use Rattle.dso_base.specs.declared.message.Up.{Up}
use Rattle.dso_base.specs.declared.message.Up.TheVariants as up
use Rattle.dso_base.specs.declared.record.Body.{Body}
use Rattle.dso_base.specs.declared.record.Set.{Set}
use Rattle.dso_base.specs.declared.request.Event.{Event}
use Rattle.dso_base.specs.declared.request.Request.{Request}
use Rattle.dso_plain.proofs.keys.SameKeys.{same_number}
use Rattle.dso_law.specs.Settings.{Settings}
use Rattle.dso_law.specs.Entries.{entries_of, by_sent_up, by_taken_down, by_taken_up}
use Rattle.dso_law.specs.Channels.{up_in_flight, down_in_flight, takes_up, takes_down, TakesFirst}
use Rattle.dso_law.specs.Copies.{is_among, resident_by_taken, resident_by_sent, unless_flushed, is_resident}
use Rattle.dso_law.specs.ServerReadings.{is_of_lost, counted}
use Rattle.dso_law.specs.ServerStep.{sets_for}
use Rattle.dso_law.specs.Store.{opening_roots, body_by_news, body_by_sets, body_by, stored}
use Rattle.dso_legal.specs.Agreement.{messages}
use Rattle.dso_legal.specs.FlushWords.{InHandIsAbsent}
use Rattle.dso_legal.specs.Lawful.{ServerFollows, NodeFollows, AllFollow}
use Rattle.dso_legal.specs.OwnObjects.{published_by, was_published, has_in_hand}
use Rattle.dso_legal.proofs.channels.AfterEntry.{OwnTurn, OtherTurn, ServerTurn, own_turn, other_turn, server_turn}
use Rattle.dso_legal.proofs.channels.InFlight.{said_of, told_to}
use Rattle.dso_legal.proofs.copies.ChangesSent.{changes_down}
use Rattle.dso_legal.proofs.copies.ServerMessages.{IsOfLease, IsWake, IsTold, IsToldOn, what_is_told}
use Rattle.dso_legal.proofs.fitting.Carried.{first_of, rest_of}
use Rattle.dso_legal.proofs.fitting.ClassesMade.{given_from_one}
use Rattle.dso_legal.proofs.fitting.InHand.{each_of_two}
use Rattle.dso_legal.proofs.ids.GivenOnce.{in_turn}
use Rattle.dso_legal.proofs.ids.MadeOnce.{made_once}
use Rattle.dso_legal.proofs.leases.ClientLeases.{neither}
use Rattle.dso_legal.proofs.objects.OwnObjects.{in_hand_is_made, in_hand_is_own}

-- one claim for another
each_so : {X : Type 0} (P Q : X → Type 0) → ((x : X) → P x → Q x) → (xs : List X) → AllByRecursion P xs → AllByRecursion Q xs
each_so P Q so [] h = tt
each_so P Q so (x ∷ xs) h = (so x h.0, each_so P Q so xs h.1)

module _ (o : ℕ) where
  -- a message that brings the object to nobody
  abbrev UpLeaves : Up → Type 0
  UpLeaves (up.Commit txn) = is_among o txn.news ≡ false
  UpLeaves m = Unit {0}

  abbrev DownLeaves : Down → Type 0
  DownLeaves (down.Object body) = eqb body.object o ≡ false
  DownLeaves m = Unit {0}

  -- no client published it
  abbrev Unpublished : List Entry → Type 0
  Unpublished es = (c : ℕ) → was_published o (entries_of (Client c) es) ≡ false

  -- ---- what an entry of a client sends

  -- what was published stays so
  said_before : (m : Up) (b : Bool) → published_by o m b ≡ false → b ≡ false
  said_before (up.Commit txn) b h = (neither (is_among o txn.news) b h).1
  said_before m b h = h

  sent_before : (out : List Sent) (b : Bool) → by_sent_up (published_by o) out b ≡ false → b ≡ false
  sent_before [] b h = h
  sent_before (ToServer m ∷ out) b h = said_before m b (sent_before out (published_by o m b) h)
  sent_before (ToClient c m ∷ out) b h = sent_before out b h

  said_leaves : (m : Up) (b : Bool) → published_by o m b ≡ false → UpLeaves m
  said_leaves (up.Commit txn) b h = (neither (is_among o txn.news) b h).0
  said_leaves m b h = tt

  sent_leave : (out : List Sent) (b : Bool) → by_sent_up (published_by o) out b ≡ false → AllByRecursion UpLeaves (said_of out)
  sent_leave [] b h = tt
  sent_leave (ToServer m ∷ out) b h = (said_leaves m b (sent_before out (published_by o m b) h), sent_leave out (published_by o m b) h)
  sent_leave (ToClient c m ∷ out) b h = sent_leave out b h

  -- ---- it stays absent

  absent_said : (m : Up) (b : Bool) → UpLeaves m → b ≡ false → resident_by_sent o m b ≡ false
  absent_said (up.Commit txn) b leaves is = ap (λ t. cond t true b) leaves ∙ is
  absent_said m b leaves is = is

  absent_sent : (out : List Sent) (b : Bool) → AllByRecursion UpLeaves (said_of out) → b ≡ false → by_sent_up (resident_by_sent o) out b ≡ false
  absent_sent [] b leave is = is
  absent_sent (ToServer m ∷ out) b leave is = absent_sent out (resident_by_sent o m b) leave.1 (absent_said m b leave.0 is)
  absent_sent (ToClient c m ∷ out) b leave is = absent_sent out b leave is

  absent_told : (m : Down) (b : Bool) → DownLeaves m → b ≡ false → resident_by_taken o m b ≡ false
  absent_told (down.Object body) b leaves is = ap (λ t. cond t true b) leaves ∙ is
  absent_told m b leaves is = is

  absent_taken : (i : Input) (b : Bool) → ((m : Down) → i ≡ input.TookDown m → DownLeaves m) → b ≡ false → by_taken_down (resident_by_taken o) i b ≡ false
  absent_taken (input.TookDown m) b took is = absent_told m b (took m refl) is
  absent_taken i b took is = is

  absent_flushed : (i : Input) (b : Bool) → b ≡ false → unless_flushed o i b ≡ false
  absent_flushed (input.Flush x) b is = by (eqb x o)
    where
      by : (here : Bool) → cond here false b ≡ false
      by true = refl
      by false = is
  absent_flushed i b is = is

  -- ---- not in the graph

  no_news : (bodies : List Body) (before : Option Body) → is_among o bodies ≡ false → body_by_news o bodies before ≡ before
  no_news [] before h = refl
  no_news (body ∷ bodies) before h =
      let parts = neither (eqb body.object o) (is_among o bodies) h in
      ap (body_by_news o bodies) (ap (λ t. cond t (Some body) before) parts.0) ∙ no_news bodies before parts.1

  no_sets : (sets : List Set) → body_by_sets o sets None ≡ None
  no_sets [] = refl
  no_sets (set ∷ sets) = ap (body_by_sets o sets) (by (eqb set.object o)) ∙ no_sets sets
    where
      by : (b : Bool) → ◌≡◌ {A = Option Body} (cond b None None) None
      by true = refl
      by false = refl

  unstored_by : (d : ℕ) (m : Up) → UpLeaves m → body_by o d m None ≡ None
  unstored_by d (up.Commit txn) leaves = ap (body_by_sets o txn.sets) (no_news txn.news None leaves) ∙ no_sets txn.sets
  unstored_by d m leaves = refl

  unstored_in : (i : Input) (before : Option Body) → ((d : ℕ) (m : Up) → i ≡ input.TookUp d m → UpLeaves m) → before ≡ None → by_taken_up (body_by o) i before ≡ None
  unstored_in (input.TookUp d m) before took is = ap (body_by o d m) is ∙ unstored_by d m (took d m refl)
  unstored_in i before took is = is

  -- ---- what the server tells

  leases_leave : (ms : List Down) → AllByRecursion IsOfLease ms → AllByRecursion DownLeaves ms
  leases_leave = each_so IsOfLease DownLeaves one
    where
      one : (m : Down) → IsOfLease m → DownLeaves m
      one (down.Grant l level) h = tt
      one (down.Recall l) h = tt
      one m h = absurd h

  wakes_leave : (ms : List Down) → AllByRecursion IsWake ms → AllByRecursion DownLeaves ms
  wakes_leave = each_so IsWake DownLeaves one
    where
      one : (m : Down) → IsWake m → DownLeaves m
      one (down.Wake l t) h = tt
      one m h = absurd h

  changes_leave : (sets : List Set) → AllByRecursion DownLeaves (changes_down sets)
  changes_leave [] = tt
  changes_leave (set ∷ sets) = (tt, tt)

  none_leaves : (ms : List Down) → ms ≡ [] → AllByRecursion DownLeaves ms
  none_leaves ms is = subst (AllByRecursion DownLeaves) (sym is) tt

  one_leaves : (b : Bool) (m : Down) → DownLeaves m → AllByRecursion DownLeaves (cond b (m ∷ []) [])
  one_leaves true m h = (h, tt)
  one_leaves false m h = tt

  -- a body that is stored is of another object
  other_stored : (p : Settings) (x : ℕ) (body : Body) (server : List Entry) → stored p.shape o server ≡ None → body.object ≡ x → stored p.shape x server ≡ Some body → eqb body.object o ≡ false
  other_stored p x body server none its is = by (eqb body.object o) refl
    where
      never : None ≡ Some body → ⊥
      never e = cc e

      by : (b : Bool) → eqb body.object o ≡ b → b ≡ false
      by true same = absurd (never (sym none ∙ (ap (λ n. stored p.shape n server) (sym (sym its ∙ same_number body.object o same)) ∙ is)))
      by false other = refl

  told_leaves : (p : Settings) (c d : ℕ) (m : Up) (server : List Entry) (ms : List Down) → stored p.shape o server ≡ None → IsTold p c d m server ms → AllByRecursion DownLeaves ms
  told_leaves p c d up.IdAsk server ms none is = subst (AllByRecursion DownLeaves) (sym is) (one_leaves (eqb c d) _ tt)
  told_leaves p c d (up.Fault x) server ms none is = subst (AllByRecursion DownLeaves) (sym is.tells) (one_leaves (eqb c d) (down.Object is.body) (other_stored p x is.body server none is.its is.is_stored))
  told_leaves p c d (up.Flushed x) server ms none is = none_leaves ms is
  told_leaves p c d (up.Request l level) server ms none is = leases_leave ms is
  told_leaves p c d (up.Return l threads) server ms none is = leases_leave ms is
  told_leaves p c d (up.Commit txn) server ms none is = subst (AllByRecursion DownLeaves) (sym is.tells)
      (each_of_two DownLeaves (cond (eqb c d) (down.Ack txn.seq ∷ []) (changes_down (sets_for c txn server))) is.woken (by (eqb c d)) (wakes_leave is.woken is.wake))
    where
      by : (b : Bool) → AllByRecursion DownLeaves (cond b (down.Ack txn.seq ∷ []) (changes_down (sets_for c txn server)))
      by true = (tt, tt)
      by false = changes_leave (sets_for c txn server)

  told_on_leaves : (p : Settings) (c : ℕ) (i : Input) (lost : Bool) (server : List Entry) (ms : List Down) → stored p.shape o server ≡ None → IsToldOn p c i lost server ms → AllByRecursion DownLeaves ms
  told_on_leaves p c i true server ms none h = none_leaves ms h
  told_on_leaves p c (input.TookUp d m) false server ms none h = told_leaves p c d m server ms none h
  told_on_leaves p c (input.Lose d) false server ms none h = leases_leave ms h
  told_on_leaves p c other false server ms none h = none_leaves ms h

  -- ---- over a journal

  module _ (p : Settings) (next : ThreadId → List Event → Option Request) (real : o ≢ 0) where
    -- a client hasn't got it, and no message brings it
    record AbsentAt (own : List Entry) (ups : List Up) (downs : List Down) : Type 0 where
      resident : is_resident o own ≡ false
      up : AllByRecursion UpLeaves ups
      down : AllByRecursion DownLeaves downs

    abbrev AbsentBy : ℕ → List Entry → Type 0
    AbsentBy c es = AbsentAt (entries_of (Client c) es) (messages (up_in_flight c es)) (messages (down_in_flight c es))

    -- so it is of all clients, and of the graph
    record Nowhere (es : List Entry) : Type 0 where
      clients : (c : ℕ) → AbsentBy c es
      graph : stored p.shape o (counted (entries_of Server es)) ≡ None

    module _ (e : Entry) (es : List Entry) (follow : AllFollow p next (e ∷ es)) (before : Nowhere es) where
      abbrev now : List Entry
      now = e ∷ es

      -- the client's own entry
      own_client : (c : ℕ) → e.node ≡ Client c → was_published o (entries_of (Client c) now) ≡ false → AbsentBy c now
      own_client c node unpublished =
          let own : List Entry = entries_of (Client c) es in
          let turn : OwnTurn c e es = own_turn c e es node in
          let had = before.clients c in
          let sent : by_sent_up (published_by o) e.sent (was_published o own) ≡ false = sym (ap (was_published o) turn.own) ∙ unpublished in
          let leave = sent_leave e.sent (was_published o own) sent in
          let first : TakesFirst e.input (Client c) es = subst (λ n. TakesFirst e.input n es) node follow.1.channels in
          let taken = absent_taken e.input (is_resident o own) (λ m is. first_of DownLeaves m (down_in_flight c es) (subst (λ i. TakesFirst i (Client c) es) is first) had.down) had.resident in
          record {
            resident = ap (is_resident o) turn.own ∙ absent_flushed e.input _ (absent_sent e.sent (by_taken_down (resident_by_taken o) e.input (is_resident o own)) leave taken);
            up = subst (AllByRecursion UpLeaves) (sym turn.up) (each_of_two UpLeaves (messages (up_in_flight c es)) (said_of e.sent) had.up leave);
            down = subst (AllByRecursion DownLeaves) (sym turn.down) (rest_of DownLeaves (takes_down e.input) (messages (down_in_flight c es)) had.down);
          }

      -- another client's
      other_client : (c d : ℕ) → e.node ≡ Client d → eqb c d ≡ false → AbsentBy c now
      other_client c d node other =
          let turn : OtherTurn c e es = other_turn c d e es node other in
          let had = before.clients c in
          record {
            resident = ap (is_resident o) turn.own ∙ had.resident;
            up = subst (λ letters. AllByRecursion UpLeaves (messages letters)) (sym turn.up) had.up;
            down = subst (λ letters. AllByRecursion DownLeaves (messages letters)) (sym turn.down) had.down;
          }

      -- the server's
      server_client : e.node ≡ Server → (c : ℕ) → AbsentBy c now
      server_client node c =
          let turn : ServerTurn c e es = server_turn c e es node in
          let rule : ServerFollows p next e es = subst (λ n. NodeFollows p next n e es) node follow.1.rule in
          let had = before.clients c in
          let told = told_on_leaves p c e.input (is_of_lost e.input (entries_of Server es)) (counted (entries_of Server es)) (told_to c e.sent) before.graph (what_is_told p next c e es follow.0 rule) in
          record {
            resident = ap (is_resident o) turn.own ∙ had.resident;
            up = subst (AllByRecursion UpLeaves) (sym turn.up) (rest_of UpLeaves (takes_up c e.input) (messages (up_in_flight c es)) had.up);
            down = subst (AllByRecursion DownLeaves) (sym turn.down) (each_of_two DownLeaves (messages (down_in_flight c es)) (told_to c e.sent) had.down told);
          }

      -- what the server takes was in flight
      up_taken : (d : ℕ) (m : Up) → e.node ≡ Server → e.input ≡ input.TookUp d m → UpLeaves m
      up_taken d m node is = first_of UpLeaves m (up_in_flight d es) (subst (λ i. TakesFirst i Server es) is (subst (λ n. TakesFirst e.input n es) node follow.1.channels)) (before.clients d).up

      server_graph : e.node ≡ Server → stored p.shape o (counted (entries_of Server now)) ≡ None
      server_graph node = ap (λ entries. stored p.shape o (counted entries)) (server_turn 0 e es node).server ∙ by (is_of_lost e.input (entries_of Server es))
        where
          by : (lost : Bool) → stored p.shape o (cond lost (counted (entries_of Server es)) (e ∷ counted (entries_of Server es))) ≡ None
          by true = before.graph
          by false = unstored_in e.input (stored p.shape o (counted (entries_of Server es))) (λ d m is. up_taken d m node is) before.graph

      all_more : (node : Node) → e.node ≡ node → Unpublished now → Nowhere now
      all_more Server is unpublished = record { clients = server_client is; graph = server_graph is }
      all_more (Client d) is unpublished = record {
        clients = λ c. by c (eqb c d) refl;
        graph = ap (λ entries. stored p.shape o (counted entries)) (own_turn d e es is).server ∙ before.graph;
      }
        where
          by : (c : ℕ) (b : Bool) → eqb c d ≡ b → AbsentBy c now
          by c true same = own_client c (is ∙ ap Client (sym (same_number c d same))) (unpublished c)
          by c false other = other_client c d is other

    -- what isn't published now wasn't before
    earlier : (node : Node) (c : ℕ) (e : Entry) (es : List Entry) → e.node ≡ node → was_published o (entries_of (Client c) (e ∷ es)) ≡ false → was_published o (entries_of (Client c) es) ≡ false
    earlier Server c e es is h = sym (ap (was_published o) (server_turn c e es is).own) ∙ h
    earlier (Client d) c e es is h = by (eqb c d) refl
      where
        by : (b : Bool) → eqb c d ≡ b → was_published o (entries_of (Client c) es) ≡ false
        by true same = sent_before e.sent (was_published o (entries_of (Client c) es)) (sym (ap (was_published o) (own_turn c e es (is ∙ ap Client (sym (same_number c d same)))).own) ∙ h)
        by false other = sym (ap (was_published o) (other_turn c d e es is other).own) ∙ h

    not_zero : eqb o 0 ≡ false
    not_zero = by (eqb o 0) refl
      where
        by : (b : Bool) → eqb o 0 ≡ b → b ≡ false
        by true same = absurd (real (same_number o 0 same))
        by false other = refl

    -- So what no client published is nowhere.
    nowhere : (es : List Entry) → AllFollow p next es → Unpublished es → Nowhere es
    nowhere [] follow unpublished = record { clients = λ c. record { resident = refl; up = tt; down = tt }; graph = ap (λ b. cond b (Some (opening_roots p.shape)) None) not_zero }
    nowhere (e ∷ es) follow unpublished = all_more e es follow (nowhere es follow.0 (λ c. earlier e.node c e es refl (unpublished c))) e.node refl unpublished

    pub absent_unpublished : (es : List Entry) → AllFollow p next es → Unpublished es → (c : ℕ) → is_resident o (entries_of (Client c) es) ≡ false
    absent_unpublished es follow unpublished c = ((nowhere es follow unpublished).clients c).resident

-- what is in hand is no root's object
in_hand_is_real : (p : Settings) (next : ThreadId → List Event → Option Request) (es : List Entry) → AllFollow p next es → (t : ThreadId) (o : ℕ) → has_in_hand p t o es ≡ true → o ≢ 0
in_hand_is_real p next es follow t o hand zero_is =
    let given = (made_once p next es follow).given t.client o (in_hand_is_made p next es follow t o hand) in
    none_is_zero (given_from_one t.client o _ (in_turn p next es follow) given) zero_is
  where
    none_is_zero : {n : ℕ} → 1 ≤ n → n ≡ 0 → ⊥
    none_is_zero le zero_is = omega (arith, le, zero_is)

pub in_hand_is_absent : InHandIsAbsent
in_hand_is_absent p next es lawful t o hand c =
    absent_unpublished o p next (in_hand_is_real p next es lawful.follow t o hand) es lawful.follow (in_hand_is_own p next es lawful.follow t o hand).unpublished c
