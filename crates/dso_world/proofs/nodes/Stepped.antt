-- The nodes once one of the clients made its step.
use Rattle.std.proofs.Common.{ℕ, zero, suc, ◌-◌, ◌<◌, ◌≡◌, ◌≢◌, ◌↔◌, ◌⊎◌, inl, inr, refl, sym, ◌∙◌, ap, subst, false, cond, eqb, Some, List, [], ◌∷◌, length, slice_get, slice_index_or, slice_set, arith}
use Rattle.std.proofs.lemmas.Bool.{ne_eqb}
use Rattle.std.specs.Vec.{with_item}
use Rattle.dso_base.specs.declared.journal.Entry.{Entry}
use Rattle.dso_base.specs.declared.journal.Node.{Node}
use Rattle.dso_base.specs.declared.journal.Node.TheVariants as node
use Rattle.dso_class.specs.declared.program.Program.{Program}
use Rattle.dso_client.specs.ClientStands.{ClientStands}
use Rattle.dso_law.specs.Channels.{last_clock}
use Rattle.dso_law.specs.Entries.{entries_of}
use Rattle.dso_legal.specs.Slots.{Slot}
use Rattle.dso_server.specs.Lacking.{Lacks}
use Rattle.dso_server.specs.ServerStands.{ServerStands}
use Rattle.dso_base.specs.declared.both.Both.TheVariants as both
use Rattle.dso_world.specs.declared.client_node.ClientNode.{ClientNode}
use Rattle.dso_world.specs.declared.nodes.Nodes.{Nodes}
use Rattle.dso_world.specs.LinkStands.{LinkStands}
use Rattle.dso_world.specs.ClientSteps.{Steps}
use Rattle.dso_world.specs.NodeSteps.{LacksAsBefore, StepsAll}
use Rattle.dso_world.specs.NodesStand.{ClientNodeStands}
use Rattle.dso_world.specs.PastOf.{course_of, past_of}
use Rattle.dso_world.specs.WorldSteps.{settings_of}
use Rattle.dso_client.proofs.standing.Bounds.{holds_more}
use Rattle.dso_world.proofs.nodes.Lacking.{garbage_still}
use Rattle.dso_world.proofs.pasts.OwnEntry.{other_course, other_past}
use Rattle.dso_world.proofs.places.Clients.{numbered_so}

-- what stands at a place within a list
pub got : {A : Type 0} (xs : List A) (place : ℕ) (x : A) → place < length xs → x ≡ slice_index_or xs place x → slice_get xs place ≡ Some x
got [] place x within is = absurd (omega (arith, within))
got (y ∷ xs) zero x within is = ap (λ z. Some z) (sym is)
got (y ∷ xs) (suc place) x within is = got xs place x (omega (arith, within)) is

-- an item written stands at its place, and the others where they stood
pub written : {A : Type 0} (xs : List A) (at place : ℕ) (new x : A) → slice_get (slice_set xs at new) place ≡ Some x → ((place ≡ at) × (x ≡ new)) ⊎ ((place ≢ at) × (slice_get xs place ≡ Some x))
written [] at place new x is = absurd (cc is)
written (y ∷ xs) zero zero new x is = inl (refl, cc is)
written (y ∷ xs) zero (suc place) new x is = inr (λ same. absurd (omega (arith, same)), is)
written (y ∷ xs) (suc at) zero new x is = inr (λ same. absurd (omega (arith, same)), is)
written (y ∷ xs) (suc at) (suc place) new x is = elim (written xs at place new x is) [
  | inl h ↦ inl (ap (λ n. suc n) h.0, h.1)
  | inr h ↦ inr ((λ same. h.0 (omega (arith, same))), h.1)
]

pub same_many : {A : Type 0} (xs : List A) (at : ℕ) (new : A) → length (slice_set xs at new) ≡ length xs
same_many [] at new = refl
same_many (x ∷ xs) zero new = refl
same_many (x ∷ xs) (suc at) new = ap (λ n. suc n) (same_many xs at new)

module _ (program : Program) (c : ℕ) (entry : Entry) (its : entry.node ≡ node.Client c) (es : List Entry) where
  -- the entry with its node said
  abbrev said : Node → Entry
  said n = record { clock = entry.clock; node = n; input = entry.input; sent = entry.sent; event = entry.event }

  is_said : said (node.Client c) ≡ entry
  is_said = ap said (sym its)

  -- Another client is what it was.
  pub other_client_node : (d : ℕ) (client_node : ClientNode) → eqb d c ≡ false → ClientNodeStands program d client_node es → ClientNodeStands program d client_node (entry ∷ es)
  other_client_node d client_node other stands = subst (λ e. ClientNodeStands program d client_node (e ∷ es)) is_said (record {
    client = subst (ClientStands program.code (settings_of program) d client_node.client) (sym (ap (λ b. cond b (said (node.Client c) ∷ entries_of (node.Client d) es) (entries_of (node.Client d) es)) other)) stands.client;
    runs = stands.runs;
    records = let few = stands.records in omega (arith, few);
    holds = holds_more (length es) (suc (length es)) client_node.client (omega arith) stands.holds;
    link = subst (λ course. LinkStands course (past_of both.Up both.Down d (said (node.Client c) ∷ es)) client_node.link) (sym (other_course d es entry.clock entry.input entry.event (settings_of program) c entry.sent other))
        (subst (λ past. LinkStands (course_of (settings_of program) d es) past client_node.link) (sym (other_past d es entry.clock entry.input entry.event c entry.sent other)) stands.link);
    clock = stands.clock ∙ sym (ap (λ b. cond b entry.clock (last_clock (node.Client d) es)) other);
    triggers = stands.triggers;
  })

  -- So is the server.
  pub server_same : entries_of node.Server es ≡ entries_of node.Server (entry ∷ es)
  server_same = ap (λ e. entries_of node.Server (e ∷ es)) is_said

  pub server_clock : last_clock node.Server es ≡ last_clock node.Server (entry ∷ es)
  server_clock = ap (λ e. last_clock node.Server (e ∷ es)) is_said

module _ (program : Program) (c : ℕ) (slot : Slot) (nodes : Nodes) (old new : ClientNode) (entry : Entry) (steps : Steps program c slot entry old new) (there : slice_get nodes.client_nodes.items (c - 1) ≡ Some old) where
  pub client_node_steps : StepsAll program c slot entry nodes (record nodes { client_nodes = with_item nodes.client_nodes (c - 1) new })
  client_node_steps = λ es journal its stands opened.
      let place : suc (c - 1) ≡ c = (let low = (numbered_so c program.clients its).0 in omega (arith, low)) in
      let follows = steps es journal its (subst (λ d. ClientNodeStands program d old es) place (stands.client_nodes (c - 1) old there)) opened in
      let given = stands.given in
      let lacked : LacksAsBefore program entry nodes.server nodes.server es =
      λ o. subst (λ own. Lacks (settings_of program) nodes.server own o ↔ Lacks (settings_of program) nodes.server (entries_of node.Server es) o) (server_same program c entry follows.its es) (λ lacks. lacks, λ lacks. lacks) in
      record {
        lawful = follows.lawful;
        at = follows.at;
        stands = record {
          count = same_many nodes.client_nodes.items (c - 1) new ∙ stands.count;
          client_nodes = λ at client_node is. elim (written nodes.client_nodes.items (c - 1) at new client_node is) [
            | inl h ↦ subst (λ m. ClientNodeStands program (suc at) m (entry ∷ es)) (sym h.1) (subst (λ d. ClientNodeStands program d new (entry ∷ es)) (sym (ap (λ n. suc n) h.0 ∙ place)) follows.stands)
            | inr h ↦ other_client_node program c entry follows.its es (suc at) client_node (ne_eqb (suc at) c (λ same. h.0 (omega (arith, same)))) (stands.client_nodes at client_node h.1)
          ];
          server = subst (ServerStands (settings_of program) nodes.server) (server_same program c entry follows.its es) stands.server;
          lacks = garbage_still program es journal entry nodes.server nodes.server follows.lawful lacked stands.lacks;
          given = omega (arith, given);
          clock = stands.clock ∙ server_clock program c entry follows.its es;
        };
        swept = lacked;
      }
