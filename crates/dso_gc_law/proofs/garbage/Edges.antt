-- An edge that is there after one entry more was there before it, or a path reached before it where the edge leads, or
-- nobody had made that object by then.
use Rattle.std.proofs.Common.{ℕ, ◌≡◌, ◌⊎◌, inl, inr, refl, sym, ◌∙◌, ap, Bool, true, false, eqb, Option}
use Rattle.std.proofs.Common.{List, ◌∷◌}
use Rattle.dso_base.specs.declared.journal.Entry.{Entry}
use Rattle.dso_base.specs.declared.journal.Node.{Node}
use Rattle.dso_base.specs.declared.journal.Node.TheVariants.{Server, Client}
use Rattle.dso_base.specs.declared.lock.ThreadId.{ThreadId}
use Rattle.dso_base.specs.declared.request.Event.{Event}
use Rattle.dso_base.specs.declared.request.Request.{Request}
use Rattle.dso_base.specs.declared.value.Value.{Value}
use Rattle.dso_base.specs.Block.{body_names}
use Rattle.dso_plain.proofs.keys.SameKeys.{same_number}
use Rattle.dso_law.specs.Settings.{Settings}
use Rattle.dso_law.specs.Entries.{entries_of}
use Rattle.dso_law.specs.HeldBody.{held_body}
use Rattle.dso_law.specs.ServerReadings.{counted}
use Rattle.dso_law.specs.Store.{stored}
use Rattle.dso_legal.specs.Collection.{IsEdge}
use Rattle.dso_legal.specs.Lawful.{AllFollow}
use Rattle.dso_legal.proofs.channels.AfterEntry.{other_turn, server_turn}
use Rattle.dso_legal.proofs.records.BothEnds.{server_with}
use Rattle.dso_gc_law.proofs.Known.{CountsLiving, IsKnown}
use Rattle.dso_gc_law.proofs.garbage.Names.{of_kept, of_server}
use Rattle.dso_gc_law.proofs.garbage.Rows.{Rows}

module _ (p : Settings) (next : ThreadId → List Event → Option Request)
    (frames : ThreadId → List Event → List Value) (rows : Rows p next frames) (kept : ℕ → Bool) (e : Entry)
    (es : List Entry) (follow : AllFollow p next (e ∷ es)) (living : CountsLiving p next frames kept es)
    (a b : ℕ) where
  -- the edge was there, or where it leads was known
  abbrev Before : Type 0
  Before = IsEdge p next frames kept es a b ⊎ IsKnown p next frames kept es b

  -- of the object's body at the server
  at_server : (node : Node) → e.node ≡ node
      → body_names (stored p.shape a (counted (server_with node e es))) b ≡ true → Before
  at_server Server at is =
      let now = ap (λ n. body_names (stored p.shape a (counted (server_with n e es))) b) at ∙ is in
      elim (rows.stored kept e es (of_server p next frames rows kept e es follow living at) a b now) [
        | inl before ↦ inl (inl before)
        | inr known ↦ inr known
      ]
  at_server (Client d) at is = inl (inl is)

  -- of its copy at a client that counts
  module _ (c : ℕ) (counts : kept c ≡ true)
      (is : body_names (held_body a (entries_of (Client c) (e ∷ es))) b ≡ true) where
    -- an entry that is not of the client
    elsewhere : entries_of (Client c) (e ∷ es) ≡ entries_of (Client c) es → Before
    elsewhere same = inl (inr (c, counts, sym (ap (λ its. body_names (held_body a its) b) same) ∙ is))

    at_own : e.node ≡ Client c → Before
    at_own node =
        let its = of_kept p next frames rows kept e es follow living c node counts in
        elim (rows.copies kept c e es its a b is) [
          | inl before ↦ inl (inr (c, counts, before))
          | inr known ↦ inr known
        ]

    of_client : (d : ℕ) (same : Bool) → eqb c d ≡ same → e.node ≡ Client d → Before
    of_client d true same node = at_own (node ∙ ap Client (sym (same_number c d same)))
    of_client d false other node = elsewhere (other_turn c d e es node other).own

    at_client : (node : Node) → e.node ≡ node → Before
    at_client Server at = elsewhere (server_turn c e es at).own
    at_client (Client d) at = of_client d (eqb c d) refl at

  pub edge_known : IsEdge p next frames kept (e ∷ es) a b → Before
  edge_known (inl is) = at_server e.node refl is
  edge_known (inr (c, counts, is)) = at_client c counts is e.node refl
