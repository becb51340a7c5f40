-- What the steps of the server make of a journal and of the nodes.
use Rattle.std.specs.List.{list_any}
use Rattle.std.proofs.Common.{ℕ, suc, max, ◌+◌, ◌≤◌, ◌≡◌, refl, sym, ◌∙◌, ap, subst, Bool, true, false, cond, eqb, ◌||◌, Some, None, List, [], ◌∷◌, length, slice_get, arith}
use Rattle.std.proofs.lemmas.Bool.{eqb-true}
use Rattle.std.proofs.lemmas.List.{append-nil}
use Rattle.dso_base.specs.declared.journal.Entry.{Entry}
use Rattle.dso_base.specs.declared.journal.Input.TheVariants as input
use Rattle.dso_base.specs.declared.journal.Node.TheVariants as node
use Rattle.dso_base.specs.declared.message.Down.{Down}
use Rattle.dso_base.specs.declared.message.Up.{Up}
use Rattle.dso_class.specs.declared.program.Program.{Program}
use Rattle.dso_law.specs.Channels.{Letter, last_clock}
use Rattle.dso_law.specs.Entries.{entries_of}
use Rattle.dso_law.specs.ServerReadings.{is_break_due, is_loss_due}
use Rattle.dso_law.specs.Settings.{clients_of}
use Rattle.dso_legal.specs.Slots.{Breaks, Loses, TakesUp}
use Rattle.dso_machine.specs.Next.{next_request}
use Rattle.dso_server.specs.declared.server.Server.{Server}
use Rattle.dso_server.specs.declared.taken.Taken.{Taken}
use Rattle.dso_server.specs.declared.taken.Taken.TheVariants.{Done, Gone, BadMessage}
use Rattle.dso_server.specs.Answering.{IsLost, IsTaken, WasTaken, given_by}
use Rattle.dso_server.specs.Lacking.{KnowsNamed}
use Rattle.dso_server.specs.Sending.{broke, lost, rejoined, sent_of, took}
use Rattle.dso_server.specs.ServerStands.{ServerStands}
use Rattle.dso_server.proofs.standing.ByRule.{breaks_change_nothing, lost_by_rule, lost_change_nothing, rejoins_change_nothing, taken_by_rule}
use Rattle.dso_store.specs.Graph.{body_in}
use Rattle.dso_base.specs.declared.both.Both.{Both}
use Rattle.dso_base.specs.declared.both.Both.TheVariants as both
use Rattle.dso_world.specs.declared.entry_draft.EntryDraft.{EntryDraft}
use Rattle.dso_world.specs.declared.client_node.ClientNode.{ClientNode}
use Rattle.dso_world.specs.declared.nodes.Nodes.{Nodes}
use Rattle.dso_world.specs.LinkStands.{Broken, Course, Half, Joined, Past}
use Rattle.dso_world.specs.ClientSteps.{IsJournal}
use Rattle.dso_world.specs.NodeSteps.{FollowsAll, HasTold, Heard, LacksAsBefore, course_heard, past_heard}
use Rattle.dso_world.specs.NodesStand.{ClientNodeStandsBy, NodesStand}
use Rattle.dso_world.specs.PastOf.{course_of, past_of}
use Rattle.dso_world.specs.SentMessages.{clock_after, server_entry}
use Rattle.dso_world.specs.WorldSteps.{settings_of}
use Rattle.dso_world.proofs.follows.Lawful.{lawful_with_broke, lawful_with_lost, lawful_with_rejoined, lawful_with_took}
use Rattle.dso_world.proofs.follows.Server.{broke_follows, lost_follows, rejoined_follows, took_follows}
use Rattle.dso_world.proofs.nodes.Lacking.{garbage_still, same_lacked, taken_lacked}
use Rattle.dso_world.proofs.nodes.Told.{told_stand}
use Rattle.dso_world.proofs.pasts.Courses.{broken_where_half, whole_where_joined}
use Rattle.dso_world.proofs.pasts.ServerEntry.{server_breaks, server_breaks_course, server_breaks_other, server_breaks_other_course, server_loses, server_rejoins_course, server_rejoins_other_course, server_takes, server_takes_other}
use Rattle.dso_world.proofs.sending.Posts.{down_posts, with_down}

-- neither holds where not one of both does
neither : (a b : Bool) → (a || b) ≡ false → (a ≡ false) × (b ≡ false)
neither true b e = absurd (cc e)
neither false b e = (refl, e)

-- ---- a message

-- what the server then stands for
after_taken : (program : Program) (c : ℕ) (letter : Letter Up) (clock : ℕ) (taken : Taken) (messages : List (ℕ × Down)) (old new : Server) (own : List Entry) → WasTaken taken
    → IsTaken (settings_of program) c letter.message taken messages old new own → ServerStands (settings_of program) old own
    → ServerStands (settings_of program) new (took clock c letter.message (sent_of messages) ∷ own)
after_taken program c letter clock Done messages old new own was taken stands = taken.2.stands clock
after_taken program c letter clock Gone messages old new own was taken stands =
    subst (λ server. ServerStands (settings_of program) server (took clock c letter.message (sent_of messages) ∷ own)) (sym taken.1.1) (lost_change_nothing (settings_of program) old clock c letter.message (sent_of messages) own taken.0 stands)
after_taken program c letter clock (BadMessage tag) messages old new own was taken stands = absurd was

module _ (program : Program) (c : ℕ) (letter : Letter Up) (nodes : Nodes) (es : List Entry) (heard : Heard program c letter nodes es)
    (taken : Taken) (messages : List (ℕ × Down)) (server : Server) (was : WasTaken taken)
    (is : IsTaken (settings_of program) c letter.message taken messages nodes.server server (entries_of node.Server es)) (given : given_by server ≤ given_by nodes.server + 1) where
  abbrev hearing : EntryDraft
  hearing = record { heard = letter.clock; input = input.TookUp c letter.message; event = None }

  abbrev clock : ℕ
  clock = clock_after nodes.clock letter.clock

  heard_course : (d : ℕ) → course_of (settings_of program) d (took clock c letter.message (sent_of messages) ∷ es) ≡ course_heard program c es d
  heard_course d = by (eqb d c) refl
    where
      by : (its : Bool) → eqb d c ≡ its → course_of (settings_of program) d es ≡ cond its Joined (course_of (settings_of program) d es)
      by true same = ap (λ n. course_of (settings_of program) n es) (eqb-true d c same) ∙ heard.joined
      by false other = refl

  heard_past : (d : ℕ) → past_of both.Up both.Down d (took clock c letter.message (sent_of messages) ∷ es) ≡ with_down (down_posts d clock messages) (past_heard program c es d)
  heard_past d = by (eqb d c) refl
    where
      by : (its : Bool) → eqb d c ≡ its → past_of both.Up both.Down d (took clock c letter.message (sent_of messages) ∷ es)
          ≡ with_down (down_posts d clock messages) (cond its (record (past_of both.Up both.Down c es) { up_taken = (past_of both.Up both.Down c es).up_taken + 1 }) (past_of both.Up both.Down d es))
      by true same = server_takes d es clock c letter.message messages same
          ∙ ap (λ n. with_down (down_posts d clock messages) (record (past_of both.Up both.Down n es) { up_taken = (past_of both.Up both.Down n es).up_taken + 1 })) (eqb-true d c same)
      by false other = server_takes_other d es clock c letter.message messages other

  pub heard_follows : (new : Nodes) → HasTold hearing messages (record nodes { server = server }) new → KnowsNamed (settings_of program) nodes.server c letter.message (entries_of node.Server es)
      → FollowsAll program (TakesUp c) (server_entry nodes.clock hearing messages) nodes.server new es
  heard_follows new told named =
      let no_triggers = neither (is_loss_due (settings_of program) c (entries_of node.Server es)) (is_break_due (settings_of program) c (entries_of node.Server es)) heard.none_due in
      let few : given_by nodes.server ≤ length es = heard.stands.given in
      let lawful = lawful_with_took (settings_of program) (next_request program.code) es heard.journal.lawful clock c letter.message (sent_of messages)
      (took_follows (settings_of program) (next_request program.code) c es clock letter heard.rest (sent_of messages) heard.first (whole_where_joined (settings_of program) c es heard.joined)
      (ap (λ n. suc (max n letter.clock)) heard.stands.clock)
      (taken_by_rule (settings_of program) clock c letter.message taken messages nodes.server server (entries_of node.Server es) was is heard.its no_triggers.0 no_triggers.1)) in
      let lacked : LacksAsBefore program (took clock c letter.message (sent_of messages)) nodes.server server es =
      taken_lacked (settings_of program) clock c letter.message taken messages nodes.server server (entries_of node.Server es) was is named in
      record {
        lawful = lawful;
        at = refl;
        stands = told_stand program (course_heard program c es) (past_heard program c es) hearing messages (record nodes { server = server }) new es heard.stands.count heard.stands.client_nodes told
            (after_taken program c letter clock taken messages nodes.server server (entries_of node.Server es) was is heard.stands.server)
            (garbage_still program es heard.journal (took clock c letter.message (sent_of messages)) nodes.server server lawful lacked heard.stands.lacks)
            (omega (arith, few, given)) heard_course heard_past;
        swept = subst (λ last. LacksAsBefore program (took clock c letter.message (sent_of messages)) nodes.server last es) (sym told.server) lacked;
      }

-- ---- a loss

module _ (program : Program) (c : ℕ) (nodes : Nodes) (es : List Entry) (journal : IsJournal program es) (its : list_any (eqb c) (clients_of (settings_of program)) ≡ true)
    (stands : NodesStand program nodes es) where
  abbrev quiet_clock : ℕ
  quiet_clock = clock_after nodes.clock 0

  -- the clock of an entry that hears nothing
  now : quiet_clock ≡ suc (max (last_clock node.Server es) 0)
  now = ap (λ n. suc (max n 0)) stands.clock

  module _ (messages : List (ℕ × Down)) (server : Server) (is : IsLost (settings_of program) c messages nodes.server server (entries_of node.Server es)) (given : given_by server ≡ given_by nodes.server)
      (due : is_loss_due (settings_of program) c (entries_of node.Server es) ≡ true) where
    abbrev losing : EntryDraft
    losing = record { heard = 0; input = input.Lose c; event = None }

    pub lost_follows_all : (new : Nodes) → HasTold losing messages (record nodes { server = server }) new → FollowsAll program (Loses c) (server_entry nodes.clock losing messages) nodes.server new es
    lost_follows_all new told =
        let few : given_by nodes.server ≤ length es = stands.given in
        let lawful = lawful_with_lost (settings_of program) (next_request program.code) es journal.lawful quiet_clock c (sent_of messages)
        (lost_follows (settings_of program) (next_request program.code) c es quiet_clock (sent_of messages) now
        (lost_by_rule (settings_of program) quiet_clock c messages nodes.server server (entries_of node.Server es) is its due)) in
        let lacked : LacksAsBefore program (lost quiet_clock c (sent_of messages)) nodes.server server es =
        same_lacked (settings_of program) nodes.server server (entries_of node.Server es) (lost quiet_clock c (sent_of messages) ∷ entries_of node.Server es) is.keeps (λ o. refl) in
        record {
          lawful = lawful;
          at = refl;
          stands = told_stand program (λ d. course_of (settings_of program) d es) (λ d. past_of both.Up both.Down d es) losing messages (record nodes { server = server }) new es stands.count stands.client_nodes told
              (is.stands quiet_clock) (garbage_still program es journal (lost quiet_clock c (sent_of messages)) nodes.server server lawful lacked stands.lacks)
              (omega (arith, few, given)) (λ d. refl) (λ d. server_loses d es quiet_clock c messages);
          swept = subst (λ last. LacksAsBefore program (lost quiet_clock c (sent_of messages)) nodes.server last es) (sym told.server) lacked;
        }

  -- ---- a rejoin

  -- a past with nothing sent
  with_none : (past : Past Both) → past ≡ with_down [] past
  with_none past = ap (λ down. record past { down = down }) (sym (append-nil past.down))

  abbrev rejoining : EntryDraft
  rejoining = record { heard = 0; input = input.Rejoin c; event = None }

  rejoined_course : (d : ℕ) → course_of (settings_of program) d (rejoined quiet_clock c ∷ es) ≡ course_heard program c es d
  rejoined_course d = by (eqb d c) refl
    where
      by : (its : Bool) → eqb d c ≡ its → course_of (settings_of program) d (rejoined quiet_clock c ∷ es) ≡ cond its Joined (course_of (settings_of program) d es)
      by true same = server_rejoins_course d es quiet_clock c (settings_of program) same
      by false other = server_rejoins_other_course d es quiet_clock c (settings_of program) other

  rejoined_past : (d : ℕ) → past_of both.Up both.Down d (rejoined quiet_clock c ∷ es) ≡ with_down [] (cond (eqb d c) (past_of both.Up both.Down c es) (past_of both.Up both.Down d es))
  rejoined_past d = by (eqb d c) refl ∙ with_none (cond (eqb d c) (past_of both.Up both.Down c es) (past_of both.Up both.Down d es))
    where
      by : (its : Bool) → eqb d c ≡ its → past_of both.Up both.Down d es ≡ cond its (past_of both.Up both.Down c es) (past_of both.Up both.Down d es)
      by true same = ap (λ n. past_of both.Up both.Down n es) (eqb-true d c same)
      by false other = refl

  pub rejoined_follows_all : (between new : Nodes) → length between.client_nodes.items ≡ program.clients → between.server ≡ nodes.server → between.clock ≡ nodes.clock
      → course_of (settings_of program) c es ≡ Half
      → ((place : ℕ) (client_node : ClientNode) → slice_get between.client_nodes.items place ≡ Some client_node
      → ClientNodeStandsBy program (suc place) (course_heard program c es (suc place)) (cond (eqb (suc place) c) (past_of both.Up both.Down c es) (past_of both.Up both.Down (suc place) es)) client_node es)
      → HasTold rejoining [] between new → FollowsAll program (TakesUp c) (server_entry between.clock rejoining []) nodes.server new es
  rejoined_follows_all between new count same_server same_clock half client_nodes told = subst (λ last. FollowsAll program (TakesUp c) (server_entry last rejoining []) nodes.server new es) (sym same_clock)
      (let few : given_by nodes.server ≤ length es = stands.given in
      let lawful = lawful_with_rejoined (settings_of program) (next_request program.code) es journal.lawful quiet_clock c half
      (rejoined_follows (settings_of program) (next_request program.code) c es quiet_clock its now (broken_where_half (settings_of program) c es half)) in
      let lacked : LacksAsBefore program (rejoined quiet_clock c) nodes.server between.server es =
      same_lacked (settings_of program) nodes.server between.server (entries_of node.Server es) (rejoined quiet_clock c ∷ entries_of node.Server es) (λ o. ap (λ server. body_in server.store o) same_server) (λ o. refl) in
      record {
        lawful = lawful;
        at = refl;
        stands = told_stand program (course_heard program c es) (λ d. cond (eqb d c) (past_of both.Up both.Down c es) (past_of both.Up both.Down d es)) rejoining [] (record between { clock = nodes.clock }) new es count client_nodes
            (subst (λ last. HasTold rejoining [] (record between { clock = last }) new) same_clock told)
            (subst (λ server. ServerStands (settings_of program) server (rejoined quiet_clock c ∷ entries_of node.Server es)) (sym same_server) (rejoins_change_nothing (settings_of program) nodes.server quiet_clock c (entries_of node.Server es) stands.server))
            (garbage_still program es journal (rejoined quiet_clock c) nodes.server between.server lawful lacked stands.lacks)
            (subst (λ server. given_by server ≤ suc (length es)) (sym same_server) (omega (arith, few))) rejoined_course rejoined_past;
        swept = subst (λ last. LacksAsBefore program (rejoined quiet_clock c) nodes.server last es) (sym told.server) lacked;
      })

  -- ---- a break

  abbrev breaking : EntryDraft
  breaking = record { heard = 0; input = input.Break c; event = None }

  -- the course and the past of each connection, where that of the client is broken once more
  abbrev pub course_cut : ℕ → Course
  course_cut d = cond (eqb d c) Broken (course_of (settings_of program) d es)

  abbrev pub past_cut : ℕ → Past Both
  past_cut d = cond (eqb d c) (record (past_of both.Up both.Down c es) { breaks = (past_of both.Up both.Down c es).breaks + 1 }) (past_of both.Up both.Down d es)

  module _ (even : (past_of both.Up both.Down c es).rejoins ≡ (past_of both.Up both.Down c es).breaks) (due : is_break_due (settings_of program) c (entries_of node.Server es) ≡ true) where
    cut_course : (d : ℕ) → course_of (settings_of program) d (broke quiet_clock c ∷ es) ≡ course_cut d
    cut_course d = by (eqb d c) refl
      where
        by : (its : Bool) → eqb d c ≡ its → course_of (settings_of program) d (broke quiet_clock c ∷ es) ≡ cond its Broken (course_of (settings_of program) d es)
        by true same = server_breaks_course d es quiet_clock c (settings_of program) same (subst (λ n. (past_of both.Up both.Down n es).rejoins ≡ (past_of both.Up both.Down n es).breaks) (sym (eqb-true d c same)) even)
        by false other = server_breaks_other_course d es quiet_clock c (settings_of program) other

    cut_past : (d : ℕ) → past_of both.Up both.Down d (broke quiet_clock c ∷ es) ≡ with_down [] (past_cut d)
    cut_past d = by (eqb d c) refl ∙ with_none (past_cut d)
      where
        by : (its : Bool) → eqb d c ≡ its → past_of both.Up both.Down d (broke quiet_clock c ∷ es)
            ≡ cond its (record (past_of both.Up both.Down c es) { breaks = (past_of both.Up both.Down c es).breaks + 1 }) (past_of both.Up both.Down d es)
        by true same = server_breaks d es quiet_clock c same ∙ ap (λ n. record (past_of both.Up both.Down n es) { breaks = (past_of both.Up both.Down n es).breaks + 1 }) (eqb-true d c same)
        by false other = server_breaks_other d es quiet_clock c other

    pub broke_follows_all : (between new : Nodes) → length between.client_nodes.items ≡ program.clients → between.server ≡ nodes.server → between.clock ≡ nodes.clock
        → ((place : ℕ) (client_node : ClientNode) → slice_get between.client_nodes.items place ≡ Some client_node → ClientNodeStandsBy program (suc place) (course_cut (suc place)) (past_cut (suc place)) client_node es)
        → HasTold breaking [] between new → FollowsAll program (Breaks c) (server_entry between.clock breaking []) nodes.server new es
    broke_follows_all between new count same_server same_clock client_nodes told = subst (λ last. FollowsAll program (Breaks c) (server_entry last breaking []) nodes.server new es) (sym same_clock)
        (let few : given_by nodes.server ≤ length es = stands.given in
        let lawful = lawful_with_broke (settings_of program) (next_request program.code) es journal.lawful quiet_clock c
        (broke_follows (settings_of program) (next_request program.code) c es quiet_clock its now due) in
        let lacked : LacksAsBefore program (broke quiet_clock c) nodes.server between.server es =
        same_lacked (settings_of program) nodes.server between.server (entries_of node.Server es) (broke quiet_clock c ∷ entries_of node.Server es) (λ o. ap (λ server. body_in server.store o) same_server) (λ o. refl) in
        record {
          lawful = lawful;
          at = refl;
          stands = told_stand program course_cut past_cut breaking [] (record between { clock = nodes.clock }) new es count client_nodes
              (subst (λ last. HasTold breaking [] (record between { clock = last }) new) same_clock told)
              (subst (λ server. ServerStands (settings_of program) server (broke quiet_clock c ∷ entries_of node.Server es)) (sym same_server) (breaks_change_nothing (settings_of program) nodes.server quiet_clock c (entries_of node.Server es) stands.server))
              (garbage_still program es journal (broke quiet_clock c) nodes.server between.server lawful lacked stands.lacks)
              (subst (λ server. given_by server ≤ suc (length es)) (sym same_server) (omega (arith, few))) cut_course cut_past;
          swept = subst (λ last. LacksAsBefore program (broke quiet_clock c) nodes.server last es) (sym told.server) lacked;
        })
