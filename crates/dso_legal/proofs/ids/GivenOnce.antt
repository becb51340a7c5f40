-- Each id is given to one client: batches are numbered as they are given.
use Rattle.std.specs.List.{list_any}
use Rattle.std.proofs.Common.{ℕ, suc, ◌+◌, ◌*◌, ◌<◌, ◌≤◌, ◌≡◌, refl, sym, ◌∙◌, ap, subst, Bool, true, false, cond, eqb, ◌&&◌, ◌||◌, Option, List, [], ◌∷◌, length, arith}
use Rattle.std.specs.Prelude.{leb, ltb}
use Rattle.std.proofs.lemmas.Bool.Decides.{nat_tests}
use Rattle.dso_base.specs.declared.journal.Entry.{Entry}
use Rattle.dso_base.specs.declared.journal.Input.{Input}
use Rattle.dso_base.specs.declared.journal.Input.TheVariants as input
use Rattle.dso_base.specs.declared.journal.Node.{Node}
use Rattle.dso_base.specs.declared.journal.Node.TheVariants.{Server, Client}
use Rattle.dso_base.specs.declared.lock.ThreadId.{ThreadId}
use Rattle.dso_base.specs.declared.message.Up.TheVariants as up
use Rattle.dso_base.specs.declared.request.Event.{Event}
use Rattle.dso_base.specs.declared.request.Request.{Request}
use Rattle.dso_plain.proofs.keys.SameKeys.{same_number}
use Rattle.dso_lookup.proofs.Tests.{both}
use Rattle.dso_law.specs.Settings.{Settings}
use Rattle.dso_law.specs.Entries.{is_node, unsent, entries_of, by_sent_down}
use Rattle.dso_law.specs.ServerReadings.{is_of_lost, counted, Batch, batch_by, batches_given, is_in_batch}
use Rattle.dso_law.specs.ServerStep.{object_to, ServerStep}
use Rattle.dso_law.specs.Store.{stored}
use Rattle.dso_legal.specs.GivenOnce.{IdsAreGivenOnce}
use Rattle.dso_legal.specs.Lawful.{NodeFollows, AllFollow}
use Rattle.dso_legal.proofs.ids.Batches.{IsNoIds, no_reply_no_ids, no_batches, object_no_ids, told_by_append}
use Rattle.dso_legal.proofs.leases.LeaseSteps.{unless_true, if_true}
use Rattle.dso_legal.proofs.records.ServerSent.{told_each_so, IsNoReply, reply_on, ServerSent, server_sent}

-- each batch begins after as many batches of 256 as were given before it, from 1 on; the latest stands first
abbrev pub InTurn : List Batch → Type 0
InTurn [] = Unit {0}
InTurn (b ∷ given) = (b.first ≡ 1 + 256 * length given) × InTurn given

-- the reply to what the server takes in
reply_in_turn : (p : Settings) (i : Input) (es : List Entry) → InTurn (batches_given es) → InTurn (by_sent_down batch_by (reply_on p i es) (batches_given es))
reply_in_turn p (input.TookUp d up.IdAsk) es h = (refl, h)
reply_in_turn p (input.TookUp d (up.Fault o)) es h = subst InTurn (sym (no_batches (object_to d (stored p.shape o es)) (batches_given es) (object_no_ids d (stored p.shape o es)))) h
reply_in_turn p (input.TookUp d (up.Commit txn)) es h = h
reply_in_turn p (input.TookUp d m) es h = h
reply_in_turn p other es h = h

-- and all that it sends
sent_in_turn : (p : Settings) (e : Entry) (es : List Entry) → ServerSent p e es → InTurn (batches_given es) → InTurn (batches_given (e ∷ es))
sent_in_turn p e es sent h =
    let reply = reply_on p e.input (unsent e ∷ es) in
    let none = told_each_so IsNoReply IsNoIds no_reply_no_ids sent.others sent.no_replies in
    subst InTurn (sym (ap (λ out. by_sent_down batch_by out (batches_given es)) sent.whole ∙ told_by_append batch_by reply sent.others (batches_given es) ∙ no_batches sent.others (by_sent_down batch_by reply (batches_given es)) none))
    (reply_in_turn p e.input (unsent e ∷ es) h)

turn_after : (b : Bool) (p : Settings) (e : Entry) (es : List Entry) → is_of_lost e.input es ≡ b → ServerStep p e es → InTurn (batches_given (counted es)) → InTurn (batches_given (counted (e ∷ es)))
turn_after true p e es counts h turn = subst (λ js. InTurn (batches_given js)) (sym (if_true (is_of_lost e.input es) (counted es) (e ∷ counted es) counts)) turn
turn_after false p e es counts h turn = subst (λ js. InTurn (batches_given js)) (sym (unless_true (is_of_lost e.input es) (counted es) (e ∷ counted es) counts))
    (sent_in_turn p e (counted es) (server_sent p e es h counts) turn)

module _ (p : Settings) (next : ThreadId → List Event → Option Request) where
  turn_at : (node : Node) (e : Entry) (es : List Entry) → NodeFollows p next node e es → InTurn (batches_given (counted (entries_of Server es)))
      → InTurn (batches_given (counted (cond (is_node Server node) (e ∷ entries_of Server es) (entries_of Server es))))
  turn_at Server e es h turn = turn_after (is_of_lost e.input (entries_of Server es)) p e (entries_of Server es) refl h.step turn
  turn_at (Client d) e es h turn = turn

  -- over a whole journal
  pub in_turn : (es : List Entry) → AllFollow p next es → InTurn (batches_given (counted (entries_of Server es)))
  in_turn [] h = tt
  in_turn (e ∷ es) h = turn_at e.node e es h.1.rule (in_turn es h.0)

-- whether a batch is the client's and has the id
abbrev pub gives : ℕ → ℕ → Batch → Bool
gives c o batch = eqb batch.client c && is_in_batch o batch

-- an id of a batch is within it
pub within : (o first n : ℕ) → first ≡ 1 + 256 * n → (leb first o && ltb o (first + 256)) ≡ true → (1 + 256 * n ≤ o) × (o < 1 + 256 * suc n)
within o first n e h =
    let it = both (leb first o) (ltb o (first + 256)) h in
    (above o first n e it.0, below o first n e it.1)
  where
    above : (o first n : ℕ) → first ≡ 1 + 256 * n → leb first o ≡ true → 1 + 256 * n ≤ o
    above o first n e h = grind (arith, nat_tests)

    below : (o first n : ℕ) → first ≡ 1 + 256 * n → ltb o (first + 256) ≡ true → o < 1 + 256 * suc n
    below o first n e h = let lt : o < first + 256 = grind (arith, nat_tests) in omega (arith, lt, e)

-- an id that was given is below the next batch
given_below : (c o : ℕ) (given : List Batch) → InTurn given → list_any (gives c o) given ≡ true → o < 1 + 256 * length given
given_below c o [] h e = absurd (cc e)
given_below c o (b ∷ given) h e = by (gives c o b) refl e (given_below c o given h.1)
  where
    later : (o n : ℕ) → o < 1 + 256 * n → o < 1 + 256 * suc n
    later o n lt = omega (arith, lt)

    by : (t : Bool) → gives c o b ≡ t → (t || list_any (gives c o) given) ≡ true → (list_any (gives c o) given ≡ true → o < 1 + 256 * length given) → o < 1 + 256 * suc (length given)
    by true f e rest = (within o b.first (length given) h.0 (both (eqb b.client c) (is_in_batch o b) f).1).1
    by false f e rest = later o (length given) (rest e)

-- not both: in a batch, and below it
not_both : (o n : ℕ) → 1 + 256 * n ≤ o → o < 1 + 256 * n → ⊥
not_both o n le lt = omega (arith, le, lt)

-- an id is given to one client
pub given_once : (c d o : ℕ) (given : List Batch) → InTurn given → list_any (gives c o) given ≡ true → list_any (gives d o) given ≡ true → c ≡ d
given_once c d o [] h e f = absurd (cc e)
given_once c d o (b ∷ given) h e f = by (gives c o b) (gives d o b) refl refl e f (given_once c d o given h.1)
  where
    inside : (x : ℕ) → gives x o b ≡ true → 1 + 256 * length given ≤ o
    inside x g = (within o b.first (length given) h.0 (both (eqb b.client x) (is_in_batch o b) g).1).0

    by : (s t : Bool) → gives c o b ≡ s → gives d o b ≡ t → (s || list_any (gives c o) given) ≡ true → (t || list_any (gives d o) given) ≡ true → (list_any (gives c o) given ≡ true → list_any (gives d o) given ≡ true → c ≡ d) → c ≡ d
    by true true x y e f rest = sym (same_number b.client c (both (eqb b.client c) (is_in_batch o b) x).0) ∙ same_number b.client d (both (eqb b.client d) (is_in_batch o b) y).0
    by true false x y e f rest = absurd (not_both o (length given) (inside c x) (given_below d o given h.1 f))
    by false true x y e f rest = absurd (not_both o (length given) (inside d y) (given_below c o given h.1 e))
    by false false x y e f rest = rest e f

pub ids_are_given_once : IdsAreGivenOnce
ids_are_given_once p next es h c d o e f = given_once c d o (batches_given (counted (entries_of Server es))) (in_turn p next es h.follow) e f
