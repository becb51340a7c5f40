-- One step of the induction for lines and open blocks: what stands of all clients stands again after one more entry.
use Rattle.std.specs.List.{list_any}
use Rattle.std.proofs.Common.{ℕ, ◌≡◌, ◌≢◌, inl, inr, refl, sym, ◌∙◌, ap, subst, Bool, true, false, not, eqb, ◌&&◌, ◌||◌, List, ◌∷◌, ◌++◌}
use Rattle.std.specs.Prelude.{Option, None}
use Rattle.dso_base.specs.declared.journal.Entry.{Entry}
use Rattle.dso_base.specs.declared.journal.Input.{Input}
use Rattle.dso_base.specs.declared.journal.Input.TheVariants as input
use Rattle.dso_base.specs.declared.journal.Node.{Node}
use Rattle.dso_base.specs.declared.journal.Node.TheVariants.{Server, Client}
use Rattle.dso_base.specs.declared.lock.LockName.{LockName}
use Rattle.dso_base.specs.declared.lock.ThreadId.{ThreadId}
use Rattle.dso_base.specs.declared.message.Up.TheVariants as up
use Rattle.dso_base.specs.declared.record.Txn.{Txn}
use Rattle.dso_base.specs.declared.request.Event.{Event}
use Rattle.dso_base.specs.declared.request.Request.{Request}
use Rattle.dso_plain.specs.State.{PlainState, opening}
use Rattle.dso_plain.specs.History.{RunsButMarks, last_state}
use Rattle.dso_plain.specs.Touches.{MakesIn, NoCommonId}
use Rattle.dso_plain.proofs.independence.LeftAlone.{leaves_own}
use Rattle.dso_plain.proofs.keys.SameKeys.{same_number, number_self}
use Rattle.dso_law.specs.Settings.{Settings}
use Rattle.dso_law.specs.Entries.{entries_of}
use Rattle.dso_law.specs.ServerReadings.{loses, is_lost, is_of_lost, is_loss_due, is_reached, taken_count}
use Rattle.dso_law.specs.ServerStep.{ServerStepOn}
use Rattle.dso_law.specs.Threads.{open_block}
use Rattle.dso_legal.specs.AsMade.{as_made}
use Rattle.dso_legal.specs.CopiesStand.{state_at}
use Rattle.dso_legal.specs.Lawful.{NodeFollows, AllFollow}
use Rattle.dso_legal.specs.PendingBlocks.{joined, pending}
use Rattle.dso_legal.proofs.records.BothEnds.{not_lost_before}
use Rattle.dso_legal.proofs.records.HandedIn.{TakesBlock, takes_its_block}
use Rattle.dso_legal.proofs.blocks.Histories.{history_takes}
use Rattle.dso_legal.proofs.leases.LeaseSteps.{no_both}
use Rattle.dso_legal.proofs.line.LineForeign.{acts_of_other, clients_apart, makes_first}
use Rattle.dso_legal.proofs.line.LineTaken.{RecordPasses, taken_block, state_now, line_taken, line_passed, runs_taken, state_taken}
use Rattle.dso_legal.proofs.line.LossTaken.{runs_lost, gone_lost, line_lost, opens_lost}
use Rattle.dso_legal.proofs.ids.MadeOnce.{made_once}
use Rattle.dso_legal.proofs.objects.MakesApart.{pending_apart, open_apart}
use Rattle.dso_legal.proofs.blocks.OpenBlocksPass.{opens_still, opens_passed}
use Rattle.dso_legal.proofs.line.StandsOn.{LinesStand, AllStand, ActsCan, opens_from}
use Rattle.dso_legal.proofs.line.StandsOwn.{stands_own}
use Rattle.dso_legal.proofs.channels.AfterEntry.{own_turn, server_turn}
use Rattle.dso_legal.proofs.line.LineElsewhere.{LineStands, LeavesHistory, IsElsewhere, moves, line_still, stands_still}

-- a choice that fails of two that fail
neither : (a b : Bool) → (a || b) ≡ false → (a ≡ false) × (b ≡ false)
neither true b none = absurd (cc none)
neither false b none = (refl, none)

module _ (p : Settings) (next : ThreadId → List Event → Option Request) (e : Entry) (es : List Entry) (follow : AllFollow p next (e ∷ es)) (stand : AllStand p es) where
  -- who isn't lost wasn't
  pub alive_before : (c : ℕ) → is_lost c (entries_of Server (e ∷ es)) ≡ false → is_lost c (entries_of Server es) ≡ false
  alive_before c alive = not_lost_before c e.node e es alive

  -- A client stands again after an entry elsewhere.
  stands_elsewhere : (c : ℕ) → is_lost c (entries_of Server es) ≡ false → IsElsewhere c e.node e.input es → LinesStand p c (e ∷ es)
  stands_elsewhere c alive elsewhere = record {
    line = line_still p next c e es follow alive elsewhere (stand.lines c alive).line;
    opens = λ t its. opens_still p c t e es elsewhere ((stand.lines c alive).opens t its);
  }

  -- the history runs again where it stays,
  runs_still : as_made (e ∷ es) ≡ as_made es → RunsButMarks p.shape (as_made (e ∷ es)) (opening p.shape)
  runs_still history = subst (λ h. RunsButMarks p.shape h (opening p.shape)) (sym history) stand.runs

  -- and where nobody is lost now, the threads of lost clients hold nothing
  gone_still : as_made (e ∷ es) ≡ as_made es → ((c : ℕ) → is_lost c (entries_of Server (e ∷ es)) ≡ is_lost c (entries_of Server es)) → (t : ThreadId) (l : LockName) → is_lost t.client (entries_of Server (e ∷ es)) ≡ true
      → (last_state p.shape (as_made (e ∷ es))).monitors (l, t) ≡ None
  gone_still history same t l lost = ap (λ h. (last_state p.shape h).monitors (l, t)) history ∙ stand.gone t l (sym (same t.client) ∙ lost)

  -- an entry of a client
  module _ (d : ℕ) (is : e.node ≡ Client d) (can : ActsCan p next e es) where
    own_by : (c : ℕ) → is_lost c (entries_of Server es) ≡ false → (b : Bool) → eqb c d ≡ b → LinesStand p c (e ∷ es)
    own_by c alive true same = stands_own p next e es follow stand c (is ∙ ap Client (sym (same_number c d same))) alive can
    own_by c alive false other = stands_elsewhere c alive (subst (λ node. IsElsewhere c node e.input es) (sym is) other)

    -- all stand again after it
    all_by_client : AllStand p (e ∷ es)
    all_by_client = record {
      runs = runs_still (own_turn d e es is).history;
      lines = λ c alive. own_by c (alive_before c alive) (eqb c d) refl;
      gone = gone_still (own_turn d e es is).history (λ c. ap (is_lost c) (own_turn d e es is).server);
    }

  -- an entry of the server
  module _ (is : e.node ≡ Server) where
    lost_now : (c : ℕ) → is_lost c (entries_of Server (e ∷ es)) ≡ (loses c e.input || is_lost c (entries_of Server es))
    lost_now c = ap (is_lost c) (server_turn 0 e es is).server

    -- that leaves the history
    all_by_server : ((c : ℕ) → loses c e.input ≡ false) → LeavesHistory e.input es → AllStand p (e ∷ es)
    all_by_server none leaves =
        let elsewhere : (c : ℕ) → IsElsewhere c e.node e.input es = λ c. subst (λ node. IsElsewhere c node e.input es) (sym is) leaves in
        let history : as_made (e ∷ es) ≡ as_made es = (stands_still p 0 e es (elsewhere 0)).history in
        record {
          runs = runs_still history;
          lines = λ c alive. stands_elsewhere c (alive_before c alive) (elsewhere c);
          gone = gone_still history (λ c. lost_now c ∙ ap (λ b. b || is_lost c (entries_of Server es)) (none c));
        }

    -- that takes a record of a client that isn't lost
    module _ (d : ℕ) (txn : Txn) (took : e.input ≡ input.TookUp d (up.Commit txn)) (alive : is_lost d (entries_of Server es) ≡ false) where
      pub takes : TakesBlock p d txn e es
      takes = takes_its_block p next d es follow.0 alive e follow.1 txn is took

      abbrev block : List Event
      block = takes.block

      history : as_made (e ∷ es) ≡ as_made es ++ block
      history = history_takes p next e es follow.1 follow.0 d txn alive takes

      -- the line of the client whose record it is
      line_before : LineStands p d es
      line_before = (stand.lines d alive).line

      -- the client
      stands_taken : LinesStand p d (e ∷ es)
      stands_taken = record {
        line = line_taken p next e es follow d txn is took alive block history takes.first line_before;
        opens = λ t its. subst (λ own. RunsButMarks p.shape (open_block t own) (state_at p d (e ∷ es))) (sym (server_turn d e es is).own)
            (subst (λ s. RunsButMarks p.shape (open_block t (entries_of (Client d) es)) s) (sym (state_taken p next e es follow d txn is took alive block history takes.first line_before)) ((stand.lines d alive).opens t its));
      }

      -- another client
      module _ (c : ℕ) (other : eqb c d ≡ false) (alive_other : is_lost c (entries_of Server es) ≡ false) where
        unlike : c ≢ d
        unlike same = no_both (eqb c d) (subst (λ n. eqb c n ≡ true) same (number_self c)) other

        -- what the block makes the pending blocks of its client make
        block_makes : (id : ℕ) → MakesIn block id → MakesIn (joined (pending d es)) id
        block_makes id made = subst (λ blocks. MakesIn (joined blocks) id) (sym takes.first) (makes_first block (joined (pending d (e ∷ es))) id made)

        ids : NoCommonId (MakesIn block) (MakesIn (joined (pending c es)))
        ids id made too = pending_apart p es (made_once p next es follow.0) c d unlike line_before (stand.lines c alive_other).line id (block_makes id made) too

        pub passes : RecordPasses p c txn block e es
        passes = line_passed p next e es follow d txn is took alive block history takes.first line_before c other ids (stand.lines c alive_other).line

        stands_passed : LinesStand p c (e ∷ es)
        stands_passed = record {
          line = passes.line;
          opens = λ t its. subst (λ own. RunsButMarks p.shape (open_block t own) (state_at p c (e ∷ es))) (sym (server_turn c e es is).own)
              (opens_passed p next es follow.0 c t txn block e its alive_other (opens_from p next es follow.0 stand c alive_other t its) passes
              (λ id made too. open_apart p es (made_once p next es follow.0) c d unlike line_before t its id (block_makes id made) too));
        }

      taken_by : (c : ℕ) → is_lost c (entries_of Server es) ≡ false → (b : Bool) → eqb c d ≡ b → LinesStand p c (e ∷ es)
      taken_by c alive_too true same = subst (λ n. LinesStand p n (e ∷ es)) (sym (same_number c d same)) stands_taken
      taken_by c alive_too false other = stands_passed c other alive_too

      -- the threads of lost clients hold nothing behind the block
      gone_taken : (t : ThreadId) (l : LockName) → is_lost t.client (entries_of Server (e ∷ es)) ≡ true → (last_state p.shape (as_made (e ∷ es))).monitors (l, t) ≡ None
      gone_taken t l lost =
          let block_taken = taken_block p next e es follow d txn is took alive block history takes.first line_before in
          let lost_then : is_lost t.client (entries_of Server es) ≡ true = sym (lost_now t.client ∙ ap (λ i. loses t.client i || is_lost t.client (entries_of Server es)) took) ∙ lost in
          let unlike : txn.thread.client ≢ t.client = λ same. no_both (is_lost d (entries_of Server es)) (subst (λ n. is_lost n (entries_of Server es) ≡ true) (sym same ∙ block_taken.can.its) lost_then) alive in
          ap (λ (s : PlainState). s.monitors (l, t)) (state_now p next e es follow d txn is took alive block history takes.first line_before)
          ∙ (leaves_own p.shape t block (last_state p.shape (as_made es)) block_taken.can.runs (acts_of_other t txn.thread block (clients_apart t.client t txn.thread refl unlike) block_taken.can.acts)).monitors l
          ∙ stand.gone t l lost_then

      -- all stand again after it
      all_by_record : AllStand p (e ∷ es)
      all_by_record = record {
        runs = runs_taken p next e es follow d txn is took alive block history takes.first line_before stand.runs;
        lines = λ c alive_now. taken_by c (alive_before c alive_now) (eqb c d) refl;
        gone = gone_taken;
      }

    -- that loses a client
    module _ (d : ℕ) (lose : e.input ≡ input.Lose d) (due : is_loss_due p d (entries_of Server es) ≡ true) where
      spared : is_lost d (entries_of Server es) ≡ false
      spared = by (is_lost d (entries_of Server es)) due
        where
          by : (b : Bool) → (not b && list_any (is_reached d (taken_count d (entries_of Server es))) p.losses) ≡ true → b ≡ false
          by true due = absurd (cc due)
          by false due = refl

      -- who isn't lost is another client
      pub unlike_lost : (c : ℕ) → is_lost c (entries_of Server (e ∷ es)) ≡ false → c ≢ d
      unlike_lost c alive same = no_both (eqb c d) (subst (λ n. eqb c n ≡ true) same (number_self c)) (neither (eqb c d) (is_lost c (entries_of Server es)) (sym (lost_now c ∙ ap (λ i. loses c i || is_lost c (entries_of Server es)) lose) ∙ alive)).0

      all_by_loss : AllStand p (e ∷ es)
      all_by_loss = record {
        runs = runs_lost p next e es follow is d lose spared stand.runs;
        lines = λ c alive. let before = stand.lines c (alive_before c alive) in record {
          line = line_lost p next e es follow is d lose c (unlike_lost c alive) before.line;
          opens = λ t its. opens_lost p next e es follow is d lose c (unlike_lost c alive) before.line t (before.opens t its);
        };
        gone = λ t l lost. gone_lost p next e es follow is d lose t l lost (stand.gone t l);
      }

    -- by what the server takes in
    server_by : (i : Input) → e.input ≡ i → ServerStepOn p i e (entries_of Server es) → AllStand p (e ∷ es)
    server_by (input.TookUp d (up.Commit txn)) took step = by (is_lost d (entries_of Server es)) refl
      where
        by : (b : Bool) → is_lost d (entries_of Server es) ≡ b → AllStand p (e ∷ es)
        by true lost = all_by_server (λ c. ap (loses c) took) (inl (ap (λ i. is_of_lost i (entries_of Server es)) took ∙ lost))
        by false alive = all_by_record d txn took alive
    server_by (input.TookUp d m) took step = all_by_server (λ c. ap (loses c) took) (inr (ap moves took))
    server_by (input.Lose d) took step = all_by_loss d took step.due
    server_by other took step = all_by_server (λ c. ap (loses c) took) (inr (ap moves took))

  -- by the entry's node
  all_at : ActsCan p next e es → (node : Node) → e.node ≡ node → NodeFollows p next node e es → AllStand p (e ∷ es)
  all_at can Server is rule = server_by is e.input refl rule.step
  all_at can (Client d) is rule = all_by_client d is can

-- All stands again after an entry whose event is possible.
pub all_stand_on : (p : Settings) (next : ThreadId → List Event → Option Request) (e : Entry) (es : List Entry) → AllFollow p next (e ∷ es) → ActsCan p next e es
    → AllStand p es → AllStand p (e ∷ es)
all_stand_on p next e es follow can stand = all_at p next e es follow stand can e.node refl follow.1.rule
