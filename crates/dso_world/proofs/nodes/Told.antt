-- The nodes with one entry more of the server.
use Rattle.std.proofs.Common.{ℕ, suc, ◌^◌, ◌<◌, ◌≤◌, ◌≡◌, refl, sym, ◌∙◌, ap, subst, Bool, true, false, cond, eqb, Option, Some, None, List, [], ◌∷◌, length, slice_get, arith}
use Rattle.std.specs.Option.{option_map}
use Rattle.dso_base.specs.declared.journal.Entry.{Entry}
use Rattle.dso_base.specs.declared.journal.Node.TheVariants as node
use Rattle.dso_base.specs.declared.message.Down.{Down}
use Rattle.dso_class.specs.declared.program.Program.{Program}
use Rattle.dso_law.specs.Entries.{entries_of}
use Rattle.dso_server.specs.Answering.{given_by}
use Rattle.dso_server.specs.ServerStands.{ServerStands}
use Rattle.dso_base.specs.declared.both.Both.{Both}
use Rattle.dso_base.specs.declared.both.Both.TheVariants as both
use Rattle.dso_world.specs.declared.entry_draft.EntryDraft.{EntryDraft}
use Rattle.dso_world.specs.declared.client_node.ClientNode.{ClientNode}
use Rattle.dso_world.specs.declared.nodes.Nodes.{Nodes}
use Rattle.dso_world.specs.LinkStands.{Course, LinkStands, Past}
use Rattle.dso_world.specs.Link.{sent_down}
use Rattle.dso_world.specs.NodeSteps.{AreTold, ChangesLine, HasTold, HaveRoom, with_line}
use Rattle.dso_world.specs.NodesStand.{ClientNodeStandsBy, LacksGarbage, NodesStand}
use Rattle.dso_world.specs.PastOf.{course_of, past_of}
use Rattle.dso_world.specs.SentMessages.{after_hearing, server_entry}
use Rattle.dso_world.specs.WorldSteps.{settings_of}
use Rattle.dso_client.proofs.standing.Bounds.{holds_more}
use Rattle.dso_world.proofs.sending.Posts.{all_down_stand, down_posts, with_down}

-- lists that are alike place by place are as long
pub same_length : {A B : Type 0} (f : ℕ → A → B) (old : List A) (new : List B) → ((place : ℕ) → slice_get new place ≡ option_map (f place) (slice_get old place)) → length new ≡ length old
same_length f [] [] same = refl
same_length f [] (y ∷ new) same = let h = same 0 in absurd (cc h)
same_length f (x ∷ old) [] same = let h = same 0 in absurd (cc h)
same_length f (x ∷ old) (y ∷ new) same = ap (λ n. suc n) (same_length (λ place. f (suc place)) old new (λ place. same (suc place)))

-- what stands at a place of the new list comes of what stands there in the old one
pub came_of : {A B : Type 0} (f : A → B) (before : Option A) (y : B) → Some y ≡ option_map f before → (x : A) × (before ≡ Some x) × (f x ≡ y)
came_of f None y is = absurd (cc is)
came_of f (Some x) y is = (x, refl, cc is)

-- ---- what the server's messages make of the clients

-- a message to the client changes its connection alone
pub one_told : (c clock : ℕ) (m : Down) (old new : List ClientNode) → ChangesLine c (sent_down (both.Down m) clock) old new → AreTold clock ((c, m) ∷ []) old new
one_told c clock m old new changes place = changes place ∙ by (slice_get old place)
  where
    of : (client_node : ClientNode) (its : Bool) → cond its (record client_node { link = sent_down (both.Down m) clock client_node.link }) client_node ≡ record client_node { link = cond its (sent_down (both.Down m) clock client_node.link) client_node.link }
    of client_node true = refl
    of client_node false = refl

    by : (client_node : Option ClientNode) → option_map (with_line c (sent_down (both.Down m) clock) (suc place)) client_node ≡ option_map (after_hearing (suc place) clock ((c, m) ∷ [])) client_node
    by None = refl
    by (Some client_node) = ap (λ x. Some x) (of client_node (eqb (suc place) c))

-- where nothing is sent, nothing changes
pub none_told : (clock : ℕ) (client_nodes : List ClientNode) → AreTold clock [] client_nodes client_nodes
none_told clock client_nodes place = by (slice_get client_nodes place)
  where
    by : (client_node : Option ClientNode) → client_node ≡ option_map (after_hearing (suc place) clock []) client_node
    by None = refl
    by (Some client_node) = refl

-- one message, and then the others
pub more_told : (clock : ℕ) (m : ℕ × Down) (rest : List (ℕ × Down)) (old between new : List ClientNode) → AreTold clock (m ∷ []) old between → AreTold clock rest between new → AreTold clock (m ∷ rest) old new
more_told clock m rest old between new first others place = others place ∙ ap (option_map (after_hearing (suc place) clock rest)) (first place) ∙ by (slice_get old place)
  where
    by : (client_node : Option ClientNode) → option_map (after_hearing (suc place) clock rest) (option_map (after_hearing (suc place) clock (m ∷ [])) client_node) ≡ option_map (after_hearing (suc place) clock (m ∷ rest)) client_node
    by None = refl
    by (Some client_node) = refl

-- a message leaves the room that there is
pub room_kept : (c clock : ℕ) (m : Down) (old new : List ClientNode) → HaveRoom old → ChangesLine c (sent_down (both.Down m) clock) old new → HaveRoom new
room_kept c clock m old new room changes place client_node is =
    let from = came_of (with_line c (sent_down (both.Down m) clock) (suc place)) (slice_get old place) client_node (sym is ∙ changes place) in
    by from.0 (eqb (suc place) c) from.2 (room place from.0 from.1)
  where
    by : (before : ClientNode) (its : Bool) → cond its (record before { link = sent_down (both.Down m) clock before.link }) before ≡ client_node → before.link.server.seen < 2 ^ 63 → client_node.link.server.seen < 2 ^ 63
    by before true is room = subst (λ (client_node : ClientNode). client_node.link.server.seen < 2 ^ 63) is room
    by before false is room = subst (λ (client_node : ClientNode). client_node.link.server.seen < 2 ^ 63) is room

module _ (program : Program) (course : ℕ → Course) (past : ℕ → Past Both) (made : EntryDraft) (messages : List (ℕ × Down)) (old new : Nodes) (es : List Entry) where
  abbrev pub entry : Entry
  entry = server_entry old.clock made messages

  -- a client, by what it was
  told_client_node : (place : ℕ) (before client_node : ClientNode) → after_hearing (suc place) entry.clock messages before ≡ client_node
      → ClientNodeStandsBy program (suc place) (course (suc place)) (past (suc place)) before es
      → course_of (settings_of program) (suc place) (entry ∷ es) ≡ course (suc place)
      → past_of both.Up both.Down (suc place) (entry ∷ es) ≡ with_down (down_posts (suc place) entry.clock messages) (past (suc place))
      → ClientNodeStandsBy program (suc place) (course_of (settings_of program) (suc place) (entry ∷ es)) (past_of both.Up both.Down (suc place) (entry ∷ es)) client_node (entry ∷ es)
  told_client_node place before client_node is stands same_course same_past = subst (λ client_node. ClientNodeStandsBy program (suc place) (course_of (settings_of program) (suc place) (entry ∷ es)) (past_of both.Up both.Down (suc place) (entry ∷ es)) client_node (entry ∷ es)) is (record {
    client = stands.client;
    runs = stands.runs;
    records = let few : before.client.sequences.records ≤ length es = stands.records in omega (arith, few);
    holds = holds_more (length es) (suc (length es)) before.client (omega arith) stands.holds;
    link = subst (λ course. LinkStands course (past_of both.Up both.Down (suc place) (entry ∷ es)) (after_hearing (suc place) entry.clock messages before).link) (sym same_course)
        (subst (λ past. LinkStands (course (suc place)) past (after_hearing (suc place) entry.clock messages before).link) (sym same_past)
        (all_down_stand (course (suc place)) entry.clock (suc place) messages (past (suc place)) before.link stands.link));
    clock = stands.clock;
    triggers = stands.triggers;
  })

  pub told_stand : length old.client_nodes.items ≡ program.clients
      → ((place : ℕ) (client_node : ClientNode) → slice_get old.client_nodes.items place ≡ Some client_node → ClientNodeStandsBy program (suc place) (course (suc place)) (past (suc place)) client_node es)
      → HasTold made messages old new
      → ServerStands (settings_of program) old.server (entry ∷ entries_of node.Server es) → LacksGarbage program old.server (entry ∷ es)
      → given_by old.server ≤ suc (length es)
      → ((d : ℕ) → course_of (settings_of program) d (entry ∷ es) ≡ course d)
      → ((d : ℕ) → past_of both.Up both.Down d (entry ∷ es) ≡ with_down (down_posts d entry.clock messages) (past d))
      → NodesStand program new (entry ∷ es)
  told_stand count client_nodes told server lacks given same_course same_past = record {
    count = same_length (λ place. after_hearing (suc place) entry.clock messages) old.client_nodes.items new.client_nodes.items told.client_nodes ∙ count;
    client_nodes = λ place client_node is.
        let from = came_of (after_hearing (suc place) entry.clock messages) (slice_get old.client_nodes.items place) client_node (sym is ∙ told.client_nodes place) in
        told_client_node place from.0 client_node from.2 (client_nodes place from.0 from.1) (same_course (suc place)) (same_past (suc place));
    server = subst (λ server. ServerStands (settings_of program) server (entry ∷ entries_of node.Server es)) (sym told.server) server;
    lacks = subst (λ server. LacksGarbage program server (entry ∷ es)) (sym told.server) lacks;
    given = subst (λ server. given_by server ≤ suc (length es)) (sym told.server) given;
    clock = told.clock;
  }
