-- What stays as entries come: an object that is stored is stored later, and a client that is lost is lost later.
use Rattle.std.specs.List.{list_any}
use Rattle.std.proofs.Common.{ℕ, ◌≡◌, ◌≢◌, refl, ◌∙◌, ap, Bool, true, false, cond, not, eqb, ◌&&◌, is_some, Option}
use Rattle.std.proofs.Common.{Some, None, List, [], ◌∷◌, ◌++◌}
use Rattle.dso_base.specs.declared.journal.Entry.{Entry}
use Rattle.dso_base.specs.declared.journal.Input.{Input}
use Rattle.dso_base.specs.declared.journal.Input.TheVariants.{TookUp}
use Rattle.dso_base.specs.declared.journal.Node.{Node}
use Rattle.dso_base.specs.declared.journal.Node.TheVariants.{Server, Client}
use Rattle.dso_base.specs.declared.lock.ThreadId.{ThreadId}
use Rattle.dso_base.specs.declared.record.Body.{Body}
use Rattle.dso_base.specs.declared.request.Event.{Event}
use Rattle.dso_base.specs.declared.request.Request.{Request}
use Rattle.dso_base.specs.declared.shape.Shape.{Shape}
use Rattle.dso_lookup.proofs.Tests.{both}
use Rattle.dso_law.specs.Settings.{Settings, clients_of}
use Rattle.dso_law.specs.Entries.{entries_of, by_taken_up}
use Rattle.dso_law.specs.ServerReadings.{counted, is_lost, is_of_lost}
use Rattle.dso_law.specs.Store.{body_by, stored}
use Rattle.dso_legal.specs.Collection.{is_kept}
use Rattle.dso_legal.specs.Lawful.{AllFollow}
use Rattle.dso_legal.proofs.fitting.NamesKept.{still_published, stored_by_message}
use Rattle.dso_legal.proofs.records.BothEnds.{not_lost_before, server_with}

-- ---- entries

-- the first entries of those that follow one another do
pub first_follow : (p : Settings) (next : ThreadId → List Event → Option Request) (later es : List Entry)
    → AllFollow p next (later ++ es) → AllFollow p next es
first_follow p next [] es follow = follow
first_follow p next (e ∷ later) es follow = first_follow p next later es follow.0

-- ---- what is stored

-- there is something
something : {X : Type 0} (x : Option X) → x ≢ None → is_some x ≡ true
something None some = absurd (some refl)
something (Some x) some = refl

not_nothing : {X : Type 0} (x : Option X) → is_some x ≡ true → x ≢ None
not_nothing None is = absurd (cc is)
not_nothing (Some x) is = λ none. cc none

module _ (shape : Shape) (o : ℕ) where
  -- the object is stored after these entries of the server
  abbrev IsThere : List Entry → Type 0
  IsThere server = is_some (stored shape o (counted server)) ≡ true

  by_input : (input : Input) (before : Option Body) → is_some before ≡ true
      → is_some (by_taken_up (body_by o) input before) ≡ true
  by_input (TookUp c m) before is = stored_by_message o c m before ∙ still_published o m (is_some before) is
  by_input input before is = is

  by_entry : (b : Bool) (e : Entry) (server : List Entry) → IsThere server
      → is_some (stored shape o (cond b (counted server) (e ∷ counted server))) ≡ true
  by_entry true e server is = is
  by_entry false e server is = by_input e.input (stored shape o (counted server)) is

  by_node : (node : Node) (e : Entry) (es : List Entry) → IsThere (entries_of Server es)
      → IsThere (server_with node e es)
  by_node Server e es is = by_entry (is_of_lost e.input (entries_of Server es)) e (entries_of Server es) is
  by_node (Client c) e es is = is

  there_later : (later es : List Entry) → IsThere (entries_of Server es) → IsThere (entries_of Server (later ++ es))
  there_later [] es is = is
  there_later (e ∷ later) es is = by_node e.node e (later ++ es) (there_later later es is)

  -- What is stored stays stored.
  pub stored_later : (later es : List Entry) → stored shape o (counted (entries_of Server es)) ≢ None
      → stored shape o (counted (entries_of Server (later ++ es))) ≢ None
  stored_later later es some = not_nothing (stored shape o (counted (entries_of Server (later ++ es))))
      (there_later later es (something (stored shape o (counted (entries_of Server es))) some))

-- ---- which clients are lost

-- A client that isn't lost wasn't lost before.
pub alive_before : (c : ℕ) (later es : List Entry) → is_lost c (entries_of Server (later ++ es)) ≡ false
    → is_lost c (entries_of Server es) ≡ false
alive_before c [] es alive = alive
alive_before c (e ∷ later) es alive = alive_before c later es (not_lost_before c e.node e (later ++ es) alive)

module _ (p : Settings) (c : ℕ) where
  -- a client of the cluster that isn't lost is kept,
  pub is_kept_so : (es : List Entry) → list_any (eqb c) (clients_of p) ≡ true
      → is_lost c (entries_of Server es) ≡ false → is_kept p es c ≡ true
  is_kept_so es its alive = ap (λ b. b && not (is_lost c (entries_of Server es))) its ∙ ap not alive

  -- and one that is kept was kept before.
  pub kept_before : (later es : List Entry) → is_kept p (later ++ es) c ≡ true → is_kept p es c ≡ true
  kept_before later es kept =
      let parts = both (list_any (eqb c) (clients_of p)) (not (is_lost c (entries_of Server (later ++ es)))) kept in
      is_kept_so es parts.0
      (alive_before c later es (alive_so (is_lost c (entries_of Server (later ++ es))) parts.1))
    where
      alive_so : (b : Bool) → not b ≡ true → b ≡ false
      alive_so true is = absurd (cc is)
      alive_so false is = refl
