-- The records that a server has applied fit, each the graph of those before it, and leave the server's graph.
use Rattle.std.specs.List.{AllByRecursion, flat_map}
use Rattle.std.proofs.Common.{ℕ, zero, suc, ◌≤◌, ◌≡◌, ◌≢◌, ◌||◌, inl, inr, refl, sym, subst, ap, ◌∙◌, Bool, true, false, cond, eqb, Option, Some, None, List, [], ◌∷◌, ◌++◌, map, arith}
use Rattle.dso_base.specs.declared.journal.Entry.{Entry}
use Rattle.dso_base.specs.declared.journal.Input.{Input}
use Rattle.dso_base.specs.declared.journal.Input.TheVariants as input
use Rattle.dso_base.specs.declared.journal.Node.{Node}
use Rattle.dso_base.specs.declared.journal.Node.TheVariants.{Server, Client}
use Rattle.dso_base.specs.declared.lock.ThreadId.{ThreadId}
use Rattle.dso_base.specs.declared.message.Up.{Up}
use Rattle.dso_base.specs.declared.message.Up.TheVariants as up
use Rattle.dso_base.specs.declared.record.Body.{Body}
use Rattle.dso_base.specs.declared.record.Set.{Set}
use Rattle.dso_base.specs.declared.record.Txn.{Txn}
use Rattle.dso_base.specs.declared.request.Event.{Event}
use Rattle.dso_base.specs.declared.request.Request.{Request}
use Rattle.dso_base.specs.declared.shape.Shape.{Shape}
use Rattle.dso_base.specs.declared.value.Value.{Value}
use Rattle.dso_base.specs.declared.value.Value.TheVariants as value
use Rattle.dso_keep.specs.Records.{AllFit, FitsField, FitsGraph, FitsObject, IsNewObject, IsThere, KeptGraph, applied_to, graph_after, opening}
use Rattle.dso_law.specs.Copies.{is_among}
use Rattle.dso_law.specs.Entries.{by_taken_up, entries_of, is_node}
use Rattle.dso_law.specs.FitsUp.{FitsNews, FitsRecord, FitsSet, FitsStored, IsLiteral, IsNamed, stored_values}
use Rattle.dso_law.specs.ServerReadings.{counted, is_lost, is_of_lost, last_number, number_by}
use Rattle.dso_law.specs.ServerStep.{HeardOrLost, ServerStepOn}
use Rattle.dso_law.specs.Settings.{Settings}
use Rattle.dso_law.specs.Store.{body_by, body_by_news, body_by_sets, body_with, stored}
use Rattle.dso_legal.specs.Lawful.{AllFollow, NodeFollows}
use Rattle.dso_plain.proofs.keys.SameKeys.{same_number}
use Rattle.dso_kept.specs.Keeping.{AppliedRecordsFit, Leave, graph_of, records_in, with_record}

-- ---- one record more at the end

graph_push : (graph : KeptGraph) (records : List (ℕ × Txn)) (r : ℕ × Txn) → graph_after graph (records ++ r ∷ []) ≡ applied_to r (graph_after graph records)
graph_push graph [] r = refl
graph_push graph (first ∷ records) r = graph_push (applied_to first graph) records r

fit_push : (shape : Shape) (graph : KeptGraph) (records : List (ℕ × Txn)) (r : ℕ × Txn) → AllFit shape graph records → FitsGraph shape (graph_after graph records) r → AllFit shape graph (records ++ r ∷ [])
fit_push shape graph [] r all fits = (fits, tt)
fit_push shape graph (first ∷ records) r all fits = (all.0, fit_push shape (applied_to first graph) records r all.1 fits)

-- ---- what is stored stays stored

news_stay : (o : ℕ) (bodies : List Body) (before : Option Body) → before ≢ None → body_by_news o bodies before ≢ None
news_stay o [] before there = there
news_stay o (body ∷ bodies) before there = news_stay o bodies (cond (eqb body.object o) (Some body) before) (by (eqb body.object o))
  where
    by : (b : Bool) → cond b (Some body) before ≢ None
    by true none = absurd (cc none)
    by false none = there none

sets_stay : (o : ℕ) (sets : List Set) (before : Option Body) → before ≢ None → body_by_sets o sets before ≢ None
sets_stay o [] before there = there
sets_stay o (set ∷ sets) before there = sets_stay o sets (cond (eqb set.object o) (body_with set before) before) (by before there (eqb set.object o))
  where
    by : (before : Option Body) → before ≢ None → (b : Bool) → cond b (body_with set before) before ≢ None
    by None there b = absurd (there refl)
    by (Some body) there true = λ none. absurd (cc none)
    by (Some body) there false = λ none. absurd (cc none)

by_message : (c : ℕ) (m : Up) (before : Option Body) → before ≢ None → body_by 0 c m before ≢ None
by_message c (up.Commit txn) before there = sets_stay 0 txn.sets _ (news_stay 0 txn.news before there)
by_message c m before there = there

by_input : (i : Input) (before : Option Body) → before ≢ None → by_taken_up (body_by 0) i before ≢ None
by_input (input.TookUp c m) before there = by_message c m before there
by_input i before there = there

roots_stored : (shape : Shape) (es : List Entry) → stored shape 0 es ≢ None
roots_stored shape [] = λ none. absurd (cc none)
roots_stored shape (e ∷ es) = by_input e.input (stored shape 0 es) (roots_stored shape es)

-- what is among the news has a body
among_there : (o : ℕ) (news : List Body) (before : Option Body) → is_among o news ≡ true → body_by_news o news before ≢ None
among_there o [] before among = absurd (cc among)
among_there o (body ∷ news) before among = by (eqb body.object o) among (among_there o news before)
  where
    by : (b : Bool) → (b || is_among o news) ≡ true → (is_among o news ≡ true → body_by_news o news before ≢ None) → body_by_news o news (cond b (Some body) before) ≢ None
    by true is more = news_stay o news (Some body) (λ none. absurd (cc none))
    by false is more = more is

-- ---- what holds of all values of a record, body by body and set by set

module _ {X : Type 0} (P : X → Type 0) where
  front : (xs ys : List X) → AllByRecursion P (xs ++ ys) → AllByRecursion P xs
  front [] ys all = tt
  front (x ∷ xs) ys all = (all.0, front xs ys all.1)

  back : (xs ys : List X) → AllByRecursion P (xs ++ ys) → AllByRecursion P ys
  back [] ys all = all
  back (x ∷ xs) ys all = back xs ys all.1

module _ (P : Value → Type 0) where
  in_bodies : (bodies : List Body) → AllByRecursion P (flat_map (λ body. body.values) bodies) → AllByRecursion (λ body. AllByRecursion P body.values) bodies
  in_bodies [] all = tt
  in_bodies (body ∷ bodies) all =
      (front P body.values (flat_map (λ b. b.values) bodies) all, in_bodies bodies (back P body.values (flat_map (λ b. b.values) bodies) all))

  in_sets : (sets : List Set) → AllByRecursion P (map (λ set. set.value) sets) → AllByRecursion (λ set. P set.value) sets
  in_sets [] all = tt
  in_sets (set ∷ sets) all = (all.0, in_sets sets all.1)

-- ---- a record that fits at the server fits the graph

module _ (p : Settings) (es : List Entry) (c : ℕ) where
  abbrev bodies_now : ℕ → Option Body
  bodies_now o = stored p.shape o es

  from_one : (o : ℕ) → stored p.shape o es ≡ None → 1 ≤ o
  from_one o none = by o none
    where
      by : (o : ℕ) → stored p.shape o es ≡ None → 1 ≤ o
      by zero none = absurd (roots_stored p.shape es none)
      by (suc o) none = omega arith

  value_there : (news : List Body) (v : Value) → IsNamed p news es v → IsLiteral p v → IsThere p.shape bodies_now news v
  value_there news (value.Ref o) (inl there) literal = news_stay o news (stored p.shape o es) there
  value_there news (value.Ref o) (inr among) literal = among_there o news (stored p.shape o es) among
  value_there news (value.Text t) named literal = literal
  value_there news (value.Long n) named literal = tt
  value_there news (value.Bool b) named literal = tt
  value_there news value.Null named literal = tt

  all_there : (news : List Body) (vs : List Value) → AllByRecursion (IsNamed p news es) vs → AllByRecursion (IsLiteral p) vs → AllByRecursion (IsThere p.shape bodies_now news) vs
  all_there news [] named literal = tt
  all_there news (v ∷ vs) named literal = (value_there news v named.0 literal.0, all_there news vs named.1 literal.1)

  news_fit : (news bodies : List Body) → AllByRecursion (FitsNews p c es) bodies → AllByRecursion (λ body. AllByRecursion (IsThere p.shape bodies_now news) body.values) bodies
      → AllByRecursion (IsNewObject p.shape bodies_now news) bodies
  news_fit news [] fit named = tt
  news_fit news (body ∷ bodies) fit named = (
    record { counted = from_one body.object fit.0.new; new = fit.0.new; class = fit.0.class; shaped = fit.0.shaped; named = named.0 },
    news_fit news bodies fit.1 named.1,
  )

  -- what is stored is none of the news
  none_of_news : (o : ℕ) (before : Option Body) (news : List Body) → AllByRecursion (FitsNews p c es) news → stored p.shape o es ≢ None → body_by_news o news before ≡ before
  none_of_news o before [] fit there = refl
  none_of_news o before (body ∷ news) fit there = by (eqb body.object o) refl ∙ none_of_news o before news fit.1 there
    where
      by : (b : Bool) → eqb body.object o ≡ b → body_by_news o news (cond b (Some body) before) ≡ body_by_news o news before
      by true is = absurd (there (ap (λ x. stored p.shape x es) (sym (same_number body.object o is)) ∙ fit.0.new))
      by false is = refl

  field_fits : (news : List Body) (set : Set) → AllByRecursion (FitsNews p c es) news → FitsSet p c es set → FitsField p.shape set (body_by_news set.object news (stored p.shape set.object es))
  field_fits news set fit it = by (stored p.shape set.object es) refl it.1
    where
      by : (found : Option Body) → stored p.shape set.object es ≡ found → FitsStored p c set found es → FitsField p.shape set (body_by_news set.object news (stored p.shape set.object es))
      by None is fits = absurd fits
      by (Some body) is fits = subst (FitsField p.shape set) (sym (none_of_news set.object (stored p.shape set.object es) news fit (λ none. absurd (cc (is, none))) ∙ is)) (fits.0, fits.2)

  sets_fit : (news : List Body) (sets : List Set) → AllByRecursion (FitsNews p c es) news → AllByRecursion (FitsSet p c es) sets
      → AllByRecursion (λ set. IsThere p.shape bodies_now news set.value) sets → AllByRecursion (FitsObject p.shape bodies_now news) sets
  sets_fit news [] fit all named = tt
  sets_fit news (set ∷ sets) fit all named = ((field_fits news set fit all.0, named.0), sets_fit news sets fit all.1 named.1)

  record_fits : (txn : Txn) → FitsRecord p c txn es → FitsGraph p.shape (graph_of p.shape es) (c, txn)
  record_fits txn fits =
      let Named : Value → Type 0 = IsThere p.shape bodies_now txn.news in
      let of_news : List Value = flat_map (λ body. body.values) txn.news in
      let of_sets : List Value = map (λ set. set.value) txn.sets in
      let named : AllByRecursion Named (of_news ++ of_sets) = all_there txn.news (stored_values txn) fits.named (front (IsLiteral p) (stored_values txn) txn.outs fits.texts) in
      record {
        number = fits.number;
        rise = fits.news_rise;
        news = news_fit txn.news txn.news fits.news (in_bodies Named txn.news (front Named of_news of_sets named));
        sets = sets_fit txn.news txn.sets fits.news fits.sets (in_sets Named txn.sets (back Named of_news of_sets named));
      }

-- ---- entry by entry

-- what an input makes of the records and of the graph of the server's entries before it
record LeaveBy (p : Settings) (i : Input) (es : List Entry) (records : List (ℕ × Txn)) : Type 0 where
  fit : AllFit p.shape (opening p.shape) (by_taken_up with_record i records)
  graph : graph_after (opening p.shape) (by_taken_up with_record i records)
      ≡ record { bodies = λ o. by_taken_up (body_by o) i (stored p.shape o es); last = λ c. by_taken_up (number_by c) i (last_number c es) }

-- an entry of the server, behind those that it has made
module _ (p : Settings) (e : Entry) (own : List Entry) (so_far : Leave (records_in (counted own)) p.shape (counted own)) where
  -- a message of a client that isn't lost
  taken : (c : ℕ) (m : Up) → HeardOrLost p c m false e (counted own) → LeaveBy p (input.TookUp c m) (counted own) (records_in (counted own))
  taken c (up.Commit txn) heard = record {
    fit = fit_push p.shape (opening p.shape) (records_in (counted own)) (c, txn) so_far.fit
        (subst (λ g. FitsGraph p.shape g (c, txn)) (sym so_far.graph) (record_fits p (counted own) c txn heard.fits));
    graph = graph_push (opening p.shape) (records_in (counted own)) (c, txn) ∙ ap (applied_to (c, txn)) so_far.graph;
  }
  taken c up.IdAsk heard = record { fit = so_far.fit; graph = so_far.graph }
  taken c (up.Fault o) heard = record { fit = so_far.fit; graph = so_far.graph }
  taken c (up.Flushed o) heard = record { fit = so_far.fit; graph = so_far.graph }
  taken c (up.Request l level) heard = record { fit = so_far.fit; graph = so_far.graph }
  taken c (up.Return l threads) heard = record { fit = so_far.fit; graph = so_far.graph }

  counts : (i : Input) → e.input ≡ i → LeaveBy p i (counted own) (records_in (counted own)) → Leave (records_in (e ∷ counted own)) p.shape (e ∷ counted own)
  counts i is leaves =
      let mine : LeaveBy p e.input (counted own) (records_in (counted own)) = subst (λ j. LeaveBy p j (counted own) (records_in (counted own))) (sym is) leaves in
      record { fit = mine.fit; graph = mine.graph }

  abbrev Goal : Bool → Type 0
  Goal lost = Leave (records_in (cond lost (counted own) (e ∷ counted own))) p.shape (cond lost (counted own) (e ∷ counted own))

  by_loss : (c : ℕ) (m : Up) (lost : Bool) → e.input ≡ input.TookUp c m → HeardOrLost p c m lost e (counted own) → Goal lost
  by_loss c m true is heard = so_far
  by_loss c m false is heard = counts (input.TookUp c m) is (taken c m heard)

  by_entry : (i : Input) → e.input ≡ i → ServerStepOn p i e own → Goal (is_of_lost i own)
  by_entry (input.TookUp c m) is step = by_loss c m (is_lost c own) is step.heard
  by_entry (input.Lose c) is step = counts (input.Lose c) is (record { fit = so_far.fit; graph = so_far.graph })
  by_entry (input.Break c) is step = counts (input.Break c) is (record { fit = so_far.fit; graph = so_far.graph })
  by_entry (input.Rejoin c) is step = counts (input.Rejoin c) is (record { fit = so_far.fit; graph = so_far.graph })
  by_entry i is step = absurd step

module _ (p : Settings) (next : ThreadId → List Event → Option Request) where
  abbrev LeaveOf : List Entry → Type 0
  LeaveOf own = Leave (records_in (counted own)) p.shape (counted own)

  leave_at : (node : Node) (e : Entry) (es : List Entry) → NodeFollows p next node e es → LeaveOf (entries_of Server es)
      → LeaveOf (cond (is_node Server node) (e ∷ entries_of Server es) (entries_of Server es))
  leave_at Server e es follows so_far = by_entry p e (entries_of Server es) so_far e.input refl follows.step
  leave_at (Client c) e es follows so_far = so_far

  leave_all : (es : List Entry) → AllFollow p next es → LeaveOf (entries_of Server es)
  leave_all [] follow = record { fit = tt; graph = refl }
  leave_all (e ∷ es) follow = leave_at e.node e es follow.1.rule (leave_all es follow.0)

pub applied_records_fit : AppliedRecordsFit
applied_records_fit p next es follow = leave_all p next es follow
