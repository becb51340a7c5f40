-- Objects are made once: a client's batches are those that were given to it, so far as they came.
use Rattle.std.specs.List.{list_any, AllByRecursion}
use Rattle.std.proofs.Common.{ℕ, ◌<◌, ◌≤◌, ◌≡◌, refl, sym, ◌∙◌, ap, subst, Bool, true, false, cond, eqb, ◌||◌, Option, Some, List, [], ◌∷◌, length, drop, arith}
use Rattle.dso_base.specs.declared.journal.Entry.{Entry}
use Rattle.dso_base.specs.declared.journal.Input.{Input}
use Rattle.dso_base.specs.declared.journal.Input.TheVariants as input
use Rattle.dso_base.specs.declared.journal.Node.{Node}
use Rattle.dso_base.specs.declared.journal.Node.TheVariants.{Server, Client}
use Rattle.dso_base.specs.declared.lock.ThreadId.{ThreadId}
use Rattle.dso_base.specs.declared.message.Down.{Down}
use Rattle.dso_base.specs.declared.request.Event.{Event}
use Rattle.dso_base.specs.declared.request.Request.{Request}
use Rattle.dso_base.specs.Following.{is_thread}
use Rattle.dso_plain.specs.Touches.{MakesIn, NoCommonId}
use Rattle.dso_plain.proofs.keys.SameKeys.{same_number}
use Rattle.dso_law.specs.Settings.{Settings}
use Rattle.dso_law.specs.Entries.{entries_of, by_taken_down, by_sent_down, events_in, if_to}
use Rattle.dso_law.specs.Channels.{Letter, posted, takes_down, down_in_flight, in_flight_after, to_client, IsFirst, TakesFirst}
use Rattle.dso_law.specs.Records.{batches_by_taken, batches, made, next_id}
use Rattle.dso_law.specs.ServerReadings.{batches_given, is_of_lost, counted, is_given_to}
use Rattle.dso_legal.specs.Agreement.{messages, after}
use Rattle.dso_legal.specs.Batches.{given_to}
use Rattle.dso_legal.specs.Lawful.{ServerFollows, NodeFollows, AllFollow}
use Rattle.dso_legal.specs.MadeOnce.{objects_made, objects_of, is_made, MadeOnce, ObjectsAreMadeOnce}
use Rattle.dso_legal.proofs.channels.Agreement.{after_append}
use Rattle.dso_legal.proofs.records.BothEnds.{server_with, client_with, skipped_silent}
use Rattle.dso_legal.proofs.ids.GivenOnce.{in_turn, given_once}
use Rattle.dso_legal.proofs.leases.LeaseSteps.{unless_true, if_true}
use Rattle.dso_legal.proofs.objects.Makers.{count_listed, within, apart, falls_once, listed_if, makes_counts, not_two, at_least}
use Rattle.dso_legal.proofs.ids.Making.{fails, AtPlaces, in_order, rises}
use Rattle.dso_legal.proofs.ids.OfBatches.{is_of, id_in, after_more, covers_all}
use Rattle.dso_legal.proofs.channels.InFlight.{told_to, told_letters, told_status}

-- a client takes the first in flight to it
took : (m : Down) (letters : List (Letter Down)) (firsts : List ℕ) → IsFirst m letters → after batches_by_taken (messages (drop 1 letters)) (batches_by_taken m firsts) ≡ after batches_by_taken (messages letters) firsts
took m [] firsts f = absurd f
took m (letter ∷ letters) firsts f = ap (λ n. after batches_by_taken (messages letters) (batches_by_taken n firsts)) f

takes : (c : ℕ) (i : Input) (es : List Entry) (firsts : List ℕ) → TakesFirst i (Client c) es
    → after batches_by_taken (messages (cond (takes_down i) (drop 1 (down_in_flight c es)) (down_in_flight c es))) (by_taken_down batches_by_taken i firsts) ≡ after batches_by_taken (messages (down_in_flight c es)) firsts
takes c (input.TookDown m) es firsts f = took m (down_in_flight c es) firsts f
takes c other es firsts f = refl

module _ (p : Settings) (next : ThreadId → List Event → Option Request) (c : ℕ) where
  -- with what is in flight to the client, the client has the batches that were given to it
  abbrev Come : List (Letter Down) → List Entry → List Entry → Type 0
  Come letters server client = after batches_by_taken (messages letters) (batches client) ≡ given_to c (counted server)

  module _ (e : Entry) (es : List Entry) where
    -- an entry of the server
    server_at : (b : Bool) → is_of_lost e.input (entries_of Server es) ≡ b → ServerFollows p next e es → Come (down_in_flight c es) (entries_of Server es) (entries_of (Client c) es)
        → Come (in_flight_after (to_client c) e Server (down_in_flight c es)) (e ∷ entries_of Server es) (entries_of (Client c) es)
    server_at true counts follows h =
        ap (λ out. after batches_by_taken (messages (by_sent_down (if_to c (posted e.clock)) out (down_in_flight c es))) (batches (entries_of (Client c) es)))
        (skipped_silent p e (entries_of Server es) e.input follows.step counts)
        ∙ h
        ∙ sym (ap (given_to c) (if_true (is_of_lost e.input (entries_of Server es)) (counted (entries_of Server es)) (e ∷ counted (entries_of Server es)) counts))
    server_at false counts follows h =
        ap (λ ms. after batches_by_taken ms (batches (entries_of (Client c) es))) (told_letters c e.clock e.sent (down_in_flight c es))
        ∙ after_append batches_by_taken (messages (down_in_flight c es)) (told_to c e.sent) (batches (entries_of (Client c) es))
        ∙ ap (after batches_by_taken (told_to c e.sent)) h
        ∙ sym (told_status c batches_by_taken e.sent (given_to c (counted (entries_of Server es))))
        ∙ sym (ap (given_to c) (unless_true (is_of_lost e.input (entries_of Server es)) (counted (entries_of Server es)) (e ∷ counted (entries_of Server es)) counts))

    -- an entry of a client
    client_at : (b : Bool) (d : ℕ) → eqb c d ≡ b → TakesFirst e.input (Client d) es → Come (down_in_flight c es) (entries_of Server es) (entries_of (Client c) es)
        → Come (cond b (cond (takes_down e.input) (drop 1 (down_in_flight c es)) (down_in_flight c es)) (down_in_flight c es)) (entries_of Server es) (cond b (e ∷ entries_of (Client c) es) (entries_of (Client c) es))
    client_at true d is first h = takes c e.input es (batches (entries_of (Client c) es)) (subst (λ n. TakesFirst e.input (Client n) es) (sym (same_number c d is)) first) ∙ h
    client_at false d is first h = h

    come_at : (node : Node) → TakesFirst e.input node es → NodeFollows p next node e es → Come (down_in_flight c es) (entries_of Server es) (entries_of (Client c) es)
        → Come (in_flight_after (to_client c) e node (down_in_flight c es)) (server_with node e es) (client_with c node e es)
    come_at Server first follows h = server_at (is_of_lost e.input (entries_of Server es)) refl follows h
    come_at (Client d) first follows h = client_at (eqb c d) d refl first h

  -- over a whole journal, a client's that is lost too
  pub come : (es : List Entry) → AllFollow p next es → Come (down_in_flight c es) (entries_of Server es) (entries_of (Client c) es)
  come [] follow = refl
  come (e ∷ es) follow = come_at e es e.node follow.1.channels follow.1.rule (come es follow.0)

  -- an id of a batch that the client has was given to it
  pub given_if : (es : List Entry) → AllFollow p next es → (o : ℕ) → list_any (is_of o) (batches (entries_of (Client c) es)) ≡ true → is_given_to c o (counted (entries_of Server es)) ≡ true
  given_if es follow o mine = covers_all c o (counted (entries_of Server es))
      (subst (λ firsts. list_any (is_of o) firsts ≡ true) (come es follow) (after_more (is_of o) (messages (down_in_flight c es)) (batches (entries_of (Client c) es)) mine))

-- an object made is of a batch
made_in : (firsts objects : List ℕ) → AtPlaces firsts objects → (o : ℕ) → list_any (eqb o) objects ≡ true → list_any (is_of o) firsts ≡ true
made_in firsts [] places o e = absurd (cc e)
made_in firsts (x ∷ objects) places o e = by (eqb o x) refl e (made_in firsts objects places.1 o)
  where
    by : (b : Bool) → eqb o x ≡ b → (b || list_any (eqb o) objects) ≡ true → (list_any (eqb o) objects ≡ true → list_any (is_of o) firsts ≡ true) → list_any (is_of o) firsts ≡ true
    by true is f later = subst (λ n. list_any (is_of n) firsts ≡ true) (sym (same_number o x is)) (id_in firsts (length objects) x places.0)
    by false is f later = later f

never_less : (n m : ℕ) → n ≡ m → m < n → ⊥
never_less n m e lt = omega (arith, e, lt)

-- a number above all isn't among them
not_among : (objects : List ℕ) (o : ℕ) → AllByRecursion (λ m. m < o) objects → list_any (eqb o) objects ≡ true → ⊥
not_among [] o h e = cc e
not_among (x ∷ objects) o h e = by (eqb o x) refl e (not_among objects o h.1)
  where
    by : (b : Bool) → eqb o x ≡ b → (b || list_any (eqb o) objects) ≡ true → (list_any (eqb o) objects ≡ true → ⊥) → ⊥
    by true is f later = never_less o x (same_number o x is) h.0
    by false is f later = later f

-- after entries each of which follows those before it
pub made_once : (p : Settings) (next : ThreadId → List Event → Option Request) (es : List Entry) → AllFollow p next es → MadeOnce es
made_once p next es follow = record {
  rise = λ c. rises (entries_of (Client c) es) (in_order p next c es follow);
  given = given;
  next_given = next_given;
  by_one = by_one;
  next_is_new = λ c d o e. fails (is_made d o es) (λ f. new c d o e f);
  apart = no_common;
}
  where
    given : (c o : ℕ) → is_made c o es ≡ true → is_given_to c o (counted (entries_of Server es)) ≡ true
    given c o e = given_if p next c es follow o (made_in (batches (entries_of (Client c) es)) (objects_made (entries_of (Client c) es)) (in_order p next c es follow).places o e)

    next_given : (c o : ℕ) → next_id (entries_of (Client c) es) ≡ Some o → is_given_to c o (counted (entries_of Server es)) ≡ true
    next_given c o e = given_if p next c es follow o (id_in (batches (entries_of (Client c) es)) (made (entries_of (Client c) es)) o e)

    by_one : (c d o : ℕ) → is_made c o es ≡ true → is_made d o es ≡ true → c ≡ d
    by_one c d o e f = given_once c d o (batches_given (counted (entries_of Server es))) (in_turn p next es follow) (given c o e) (given d o f)

    new : (c d o : ℕ) → next_id (entries_of (Client c) es) ≡ Some o → is_made d o es ≡ true → ⊥
    new c d o e f =
        let same : c ≡ d = given_once c d o (batches_given (counted (entries_of Server es))) (in_turn p next es follow) (next_given c o e) (given d o f) in
        let mine : is_made c o es ≡ true = subst (λ n. is_made n o es ≡ true) (sym same) f in
        not_among (objects_made (entries_of (Client c) es)) o ((rises (entries_of (Client c) es) (in_order p next c es follow)).next o e) mine

    -- the client of a thread that made it made it
    client_made : (t : ThreadId) (o : ℕ) → 1 ≤ count_listed o (objects_of t (entries_of (Client t.client) es)) → is_made t.client o es ≡ true
    client_made t o some = listed_if o (objects_made (entries_of (Client t.client) es))
        (at_least (count_listed o (objects_of t (entries_of (Client t.client) es))) (count_listed o (objects_made (entries_of (Client t.client) es))) some (within o t (entries_of (Client t.client) es)))

    no_common : (t u : ThreadId) → is_thread t u ≡ false → NoCommonId (MakesIn (events_in t (entries_of (Client t.client) es))) (MakesIn (events_in u (entries_of (Client u.client) es)))
    no_common t u other o makes too =
        let some = makes_counts o t (entries_of (Client t.client) es) makes in
        let more = makes_counts o u (entries_of (Client u.client) es) too in
        let same : u.client ≡ t.client = by_one u.client t.client o (client_made u o more) (client_made t o some) in
        not_two (count_listed o (objects_of t (entries_of (Client t.client) es))) (count_listed o (objects_of u (entries_of (Client t.client) es))) (count_listed o (objects_made (entries_of (Client t.client) es)))
        (apart o t u other (entries_of (Client t.client) es)) (falls_once o (objects_made (entries_of (Client t.client) es)) (rises (entries_of (Client t.client) es) (in_order p next t.client es follow)).made)
        some (subst (λ n. 1 ≤ count_listed o (objects_of u (entries_of (Client n) es))) same more)

pub objects_are_made_once : ObjectsAreMadeOnce
objects_are_made_once p next es h = made_once p next es h.follow
