-- What the pair of a client tells of the journal that is gathered of the cells of a host.
use Rattle.std.specs.List.{list_any}
use Rattle.std.proofs.Common.{ℕ, ◌≡◌, refl, sym, ◌∙◌, ap, subst, Bool, true, false, cond, eqb, ltb, not, ◌&&◌, ◌||◌, List, length, map, reverse}
use Rattle.std.proofs.lemmas.List.{length-map}
use Rattle.dso_base.specs.declared.both.Both.{Both}
use Rattle.dso_base.specs.declared.both.Both.TheVariants as both
use Rattle.dso_base.specs.declared.journal.Entry.{Entry}
use Rattle.dso_base.specs.declared.journal.Node.{Node}
use Rattle.dso_base.specs.declared.journal.Node.TheVariants as node
use Rattle.dso_class.specs.declared.program.Program.{Program}
use Rattle.dso_client.specs.ClientStands.{ClientStands}
use Rattle.dso_law.specs.Channels.{breaks, count_inputs, down_in_flight, is_broken, rejoins, to_client, to_server, up_in_flight}
use Rattle.dso_law.specs.Entries.{entries_of}
use Rattle.dso_law.specs.ServerReadings.{is_break_due, is_loss_due, is_lost, taken_count}
use Rattle.dso_law.specs.Settings.{Settings, clients_of}
use Rattle.dso_legal.specs.Lawful.{IsLawful}
use Rattle.dso_legal.specs.Slots.{can_take_down, can_take_up, has_rejoined, is_any, is_loss_or_break_due}
use Rattle.dso_machine.specs.Next.{next_request}
use Rattle.dso_server.specs.ServerStands.{ServerStands}
use Rattle.dso_server.specs.Triggers.{break_due_by, loss_due_by}
use Rattle.dso_session.proofs.Sent.{all_sent}
use Rattle.dso_port.specs.Ports.{lifted_post}
use Rattle.dso_line.specs.Letters.{letters_of, newest}
use Rattle.dso_line.specs.Ways.{posts_of}
use Rattle.dso_line.specs.Ways as ways
use Rattle.dso_world.specs.PastOf.{letters_posted, letters_taken, post_of}
use Rattle.dso_world.specs.WorldSteps.{settings_of}
use Rattle.dso_world.proofs.journals.Letters.{any_left, letters_are_left}
use Rattle.dso_cell.specs.ClientCells.{ClientPartsStand}
use Rattle.dso_cell.specs.Clusters.{Cluster}
use Rattle.dso_cell.specs.Logs.{LogIsInOrder}
use Rattle.dso_cell.specs.Pairs.{Pair, can_be_heard, can_hear, down_sent, down_taken, is_behind, is_break_due_at, is_loss_due_at, is_trigger_due, up_sent, up_taken}
use Rattle.dso_cell.specs.ServerCells.{ServerEndStands}
use Rattle.dso_host.specs.declared.cells.Cells.{Cells}
use Rattle.dso_host.specs.Hosts.{cluster_of}
use Rattle.dso_host.specs.Journals.{IsJournalOf, log_in}
use Rattle.dso_host.specs.Merged.{AreMerged}
use Rattle.dso_host.specs.OpenSlots.{IsPairOf}
use Rattle.dso_host.proofs.hosts.Journals.{are_merged, gathered_is_lawful}
use Rattle.dso_host.proofs.hosts.Pairs.{has_pair}
use Rattle.dso_host.proofs.merging.Order.{in_order}
use Rattle.dso_host.proofs.merging.Posting.{own_letters}

-- a choice by what isn't so
turned : {X : Type 0} (b : Bool) (x y : X) → cond (not b) x y ≡ cond b y x
turned true x y = refl
turned false x y = refl

-- the pair's parts stand
pub record PairStandsBy (cluster : Cluster) (cells : Cells) (c : ℕ) (pair : Pair) : Type 0 where
  pub its : pair.client ≡ c
  pub log : log_in cells (node.Client c) ≡ newest pair.cell.log
  pub cell : ClientPartsStand cluster c (newest pair.cell.log) pair.cell.core pair.cell.rejoins pair.cell.port
  pub lost : (p : Settings) (es : List Entry) → ServerStands p cells.server.core es → pair.is_lost ≡ is_lost c es
  pub end : ServerEndStands cluster c (newest cells.server.log) pair.end

module _ (program : Program) (cells : Cells) (entries : List Entry) (journal : IsJournalOf program cells entries) where
  abbrev cluster : Cluster
  cluster = cluster_of program cells

  abbrev p : Settings
  p = settings_of program

  abbrev es : List Entry
  es = reverse entries

  -- the server's entries in the journal
  abbrev served : List Entry
  served = entries_of node.Server es

  pub lawful : IsLawful p (next_request program.code) es
  lawful = gathered_is_lawful program cells entries journal

  merged : AreMerged (log_in cells) es
  merged = are_merged cluster cells journal.host.stand entries journal.gathered

  -- the entries of each node are in order
  ordered : (of : Node) → LogIsInOrder program.code p of (log_in cells of)
  ordered of = subst (LogIsInOrder program.code p of) (merged.whole of) (in_order program.code journal.sound.code p refl of es lawful.follow)

  -- so the server's core stands for its entries
  pub server_stands : ServerStands p cells.server.core served
  server_stands = subst (ServerStands p cells.server.core) (sym (merged.whole node.Server)) (journal.host.stand.server.parts.core (ordered node.Server)).0

  -- What is the pair of a client stands.
  pub pair_stands : (c : ℕ) (pair : Pair) → list_any (eqb c) (clients_of p) ≡ true → IsPairOf cells c pair → PairStandsBy cluster cells c pair
  pair_stands c pair its is =
      let has = has_pair cluster cells journal.host.stand journal.host.known c its in
      let cell : has.cell ≡ pair.cell = cc (sym has.at ∙ is.cell) in
      let end : has.end ≡ pair.end = cc (sym has.across ∙ is.end) in
      record {
        its = is.its;
        log = has.log ∙ ap (λ cell. newest cell.log) cell;
        cell = subst (λ cell. ClientPartsStand cluster c (newest cell.log) cell.core cell.rejoins cell.port) cell has.stands;
        lost = is.lost;
        end = subst (ServerEndStands cluster c (newest cells.server.log)) end has.its;
      }

  -- ---- the readings of a pair
  module _ (c : ℕ) (pair : Pair) (stands : PairStandsBy cluster cells c pair) where
    -- the client's entries in the journal
    abbrev own : List Entry
    own = entries_of (node.Client c) es

    own_is : own ≡ newest pair.cell.log
    own_is = merged.whole (node.Client c) ∙ stands.log

    served_is : served ≡ newest cells.server.log
    served_is = merged.whole node.Server

    -- the client's core stands for its entries
    pub client_stands : ClientStands program.code p c pair.cell.core own
    client_stands = subst (ClientStands program.code p c pair.cell.core) (sym own_is) (stands.cell.core (subst (LogIsInOrder program.code p (node.Client c)) stands.log (ordered (node.Client c))))

    pub lost_is : pair.is_lost ≡ is_lost c served
    lost_is = stands.lost p served server_stands

    -- how many messages were taken and sent
    pub up_taken_is : up_taken pair ≡ letters_taken (to_server c) es
    up_taken_is = stands.end.line.end.accepted ∙ ap (count_inputs (to_server c).takes) (sym served_is)

    pub down_taken_is : down_taken pair ≡ letters_taken (to_client c) es
    down_taken_is = stands.cell.line.accepted ∙ ap (count_inputs (to_client c).takes) (sym own_is)

    pub up_sent_is : up_sent pair ≡ length (map (post_of both.Up) (letters_posted (to_server c) es))
    up_sent_is =
        let letters = letters_of (to_server c) (newest pair.cell.log) in
        all_sent (map (lifted_post both.Up) (posts_of (to_server c) (newest pair.cell.log))) pair.cell.port.session stands.cell.line.sends.sent
        ∙ length-map (map ways.post_of letters) (lifted_post both.Up) ∙ length-map letters ways.post_of
        ∙ ap (λ log. length (letters_of (to_server c) log)) (sym own_is) ∙ ap length (sym (own_letters (to_server c) es)) ∙ sym (length-map (letters_posted (to_server c) es) (post_of both.Up))

    pub down_sent_is : down_sent pair ≡ length (map (post_of both.Down) (letters_posted (to_client c) es))
    down_sent_is =
        let letters = letters_of (to_client c) (newest cells.server.log) in
        all_sent (map (lifted_post both.Down) (posts_of (to_client c) (newest cells.server.log))) pair.end.port.session stands.end.line.end.sends.sent
        ∙ length-map (map ways.post_of letters) (lifted_post both.Down) ∙ length-map letters ways.post_of
        ∙ ap (λ log. length (letters_of (to_client c) log)) (sym served_is) ∙ ap length (sym (own_letters (to_client c) es)) ∙ sym (length-map (letters_posted (to_client c) es) (post_of both.Down))

    -- a message is in flight where not all was taken
    up_flies : ltb (up_taken pair) (up_sent pair) ≡ is_any (up_in_flight c es)
    up_flies = ap (λ n. ltb n (up_sent pair)) up_taken_is ∙ ap (ltb (letters_taken (to_server c) es)) up_sent_is
        ∙ sym (any_left both.Up (letters_taken (to_server c) es) (letters_posted (to_server c) es) (up_in_flight c es) ((letters_are_left {M = Both}).up p (next_request program.code) es lawful.follow c).left)

    down_flies : ltb (down_taken pair) (down_sent pair) ≡ is_any (down_in_flight c es)
    down_flies = ap (λ n. ltb n (down_sent pair)) down_taken_is ∙ ap (ltb (letters_taken (to_client c) es)) down_sent_is
        ∙ sym (any_left both.Down (letters_taken (to_client c) es) (letters_posted (to_client c) es) (down_in_flight c es) ((letters_are_left {M = Both}).down p (next_request program.code) es lawful.follow c).left)

    -- breaks and rejoins
    broke_is : pair.end.port.session.epoch ≡ count_inputs (breaks c) served
    broke_is = stands.end.line.epoch ∙ ap (count_inputs (breaks c)) (sym served_is)

    ready_is : pair.end.port.session.is_ready ≡ not (is_broken c served)
    ready_is = stands.end.line.ready ∙ ap (λ log. not (is_broken c log)) (sym served_is)

    behind_is : not (is_behind pair) ≡ has_rejoined p c es
    behind_is = ap (λ n. not (ltb n pair.end.port.session.epoch)) (stands.cell.rejoined ∙ ap (count_inputs (rejoins c)) (sym own_is))
        ∙ ap (λ n. not (ltb (count_inputs (rejoins c) own) n)) broke_is

    twice : (b : Bool) → not (not b) ≡ b
    twice true = refl
    twice false = refl

    pub hears : can_hear pair ≡ can_take_down p c es
    hears =
        ap (λ ready. cond ready (ltb (down_taken pair) (down_sent pair)) (is_behind pair)) ready_is
        ∙ turned (is_broken c served) (ltb (down_taken pair) (down_sent pair)) (is_behind pair)
        ∙ ap (λ b. cond (is_broken c served) b (ltb (down_taken pair) (down_sent pair))) (sym (twice (is_behind pair)) ∙ ap not behind_is)
        ∙ ap (cond (is_broken c served) (not (has_rejoined p c es))) down_flies

    heard : can_be_heard pair ≡ cond (is_broken c served) (has_rejoined p c es) (is_any (up_in_flight c es))
    heard =
        ap (λ ready. cond ready (ltb (up_taken pair) (up_sent pair)) (not (is_behind pair))) ready_is
        ∙ turned (is_broken c served) (ltb (up_taken pair) (up_sent pair)) (not (is_behind pair))
        ∙ ap (λ b. cond (is_broken c served) b (ltb (up_taken pair) (up_sent pair))) behind_is
        ∙ ap (cond (is_broken c served) (has_rejoined p c es)) up_flies

    -- triggers
    pub loss_is : is_loss_due_at p pair ≡ is_loss_due p c served
    loss_is = ap (λ n. loss_due_by n (up_taken pair) pair.is_lost p.losses) stands.its
        ∙ ap (λ n. loss_due_by c n pair.is_lost p.losses) up_taken_is
        ∙ ap (λ b. loss_due_by c (taken_count c served) b p.losses) lost_is

    pub break_is : is_break_due_at p pair ≡ is_break_due p c served
    break_is =
        let broke = pair.end.port.session.epoch in
        let loss = is_loss_due_at p pair in
        ap (λ n. break_due_by n (up_taken pair) pair.is_lost loss broke p.breaks) stands.its
        ∙ ap (λ n. break_due_by c n pair.is_lost loss broke p.breaks) up_taken_is
        ∙ ap (λ b. break_due_by c (taken_count c served) b loss broke p.breaks) lost_is
        ∙ ap (λ b. break_due_by c (taken_count c served) (is_lost c served) b broke p.breaks) loss_is
        ∙ ap (λ n. break_due_by c (taken_count c served) (is_lost c served) (is_loss_due p c served) n p.breaks) broke_is

    pub trigger_is : is_trigger_due p pair ≡ is_loss_or_break_due p c es
    trigger_is = ap (λ b. b || is_break_due_at p pair) loss_is ∙ ap (λ b. is_loss_due p c served || b) break_is

    pub is_heard : (not (is_trigger_due p pair) && can_be_heard pair) ≡ can_take_up p c es
    is_heard = ap (λ b. not b && can_be_heard pair) trigger_is ∙ ap (λ b. not (is_loss_or_break_due p c es) && b) heard
