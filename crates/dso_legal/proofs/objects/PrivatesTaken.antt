-- A thread's private objects along the history: they are those that its blocks leave.
use Rattle.std.specs.List.{list_any, AllByRecursion}
use Rattle.std.proofs.Common.{ℕ, ◌≡◌, inl, inr, refl, sym, ◌∙◌, ap, subst, Bool, true, false, cond, ◌||◌, Option, Some, None, List, [], ◌∷◌, ◌++◌, length, eqb, arith, take-append-drop}
use Rattle.dso_base.specs.declared.journal.Entry.{Entry}
use Rattle.dso_base.specs.declared.journal.Node.TheVariants.{Server, Client}
use Rattle.dso_base.specs.declared.lock.ThreadId.{ThreadId}
use Rattle.dso_base.specs.declared.record.Body.{Body}
use Rattle.dso_base.specs.declared.record.Txn.{Txn}
use Rattle.dso_base.specs.declared.request.Event.{Event}
use Rattle.dso_base.specs.declared.request.Event.TheVariants.{Act, Lost}
use Rattle.dso_base.specs.declared.request.Request.{Request}
use Rattle.dso_base.specs.declared.shape.Shape.{Shape}
use Rattle.dso_base.specs.Block.{Work, start, worked}
use Rattle.dso_base.specs.Following.{is_thread}
use Rattle.dso_plain.specs.State.{PlainState, IsPrivate, roots_object, is_private_to, opening}
use Rattle.dso_plain.specs.History.{RunsButMarks, end_of, last_state, is_act_of}
use Rattle.dso_plain.specs.Own.{LeavesOwn}
use Rattle.dso_plain.specs.Possible.{IsOf}
use Rattle.dso_plain.specs.Touches.{AreActsOf, AreActsOfOthers}
use Rattle.dso_plain.proofs.independence.RunsSwap.{runs_but_marks_in_parts, ends_in_parts}
use Rattle.dso_plain.proofs.keys.SameKeys.{number_self, same_thread}
use Rattle.dso_plain.proofs.independence.LeftAlone.{leaves_own}
use Rattle.dso_law.specs.Settings.{Settings}
use Rattle.dso_law.specs.Channels.{up_in_flight}
use Rattle.dso_law.specs.Entries.{is_node, entries_of}
use Rattle.dso_law.specs.ServerReadings.{is_lost}
use Rattle.dso_legal.specs.Agreement.{messages}
use Rattle.dso_legal.specs.Committed.{ended_blocks}
use Rattle.dso_legal.specs.AsMade.{made_at, as_made}
use Rattle.dso_legal.specs.CopiesStand.{state_at}
use Rattle.dso_legal.specs.Lawful.{MayFollow, AllFollow}
use Rattle.dso_legal.specs.PendingBlocks.{joined, handed_in, taken_in, pending, privates_by, privates_through, records_in, IsRecordOf, AreRecordsOf}
use Rattle.dso_legal.specs.Works.{HasBody, ArePrivates, TellsWork, WorksTell}
use Rattle.dso_legal.proofs.acts.ActsOnObjects.{body_object}
use Rattle.dso_legal.proofs.blocks.ClientBlocks.{is_of_thread, none_of_thread}
use Rattle.dso_legal.proofs.records.ClientRecords.{EndsBlock}
use Rattle.dso_legal.proofs.records.BothEnds.{not_lost_before}
use Rattle.dso_legal.proofs.records.Handing.{takes_record}
use Rattle.dso_legal.proofs.records.HandedIn.{TakesBlock, DoesToBlocks, does_to_blocks, are_records_split}
use Rattle.dso_legal.proofs.blocks.Histories.{taken_of_client, history_takes, Gives, gives}
use Rattle.dso_legal.proofs.blocks.OwnThreads.{IsOwnEvent, AreOwnEvents, IsRecordOfClient, of_client, way_of_client}

-- a block is the block of one thread
pub record OfOneThread (block : List Event) : Type 0 where
  pub thread : ThreadId
  pub acts : AreActsOf thread block

-- blocks that have records are
pub one_threads : (shape : Shape) (before : List (List Event)) (txns : List Txn) (blocks : List (List Event)) → AreRecordsOf shape before txns blocks → AllByRecursion OfOneThread blocks
one_threads shape before [] [] are = tt
one_threads shape before (txn ∷ txns) (block ∷ blocks) are = (record { thread = txn.thread; acts = are.0.acts }, one_threads shape (before ++ block ∷ []) txns blocks are.1)
one_threads shape before [] (block ∷ blocks) are = absurd are
one_threads shape before (txn ∷ txns) [] are = absurd are

-- what another thread does is done by others
pub acts_of_others : (t u : ThreadId) (block : List Event) → is_thread t u ≡ false → AreActsOf u block → AreActsOfOthers t block
acts_of_others t u [] other acts = tt
acts_of_others t u (Act thread request reply woken ∷ block) other acts =
    ((λ (same : thread ≡ t). absurd (cc (sym other ∙ is_of_thread t u (sym acts.0 ∙ same)))), acts_of_others t u block other acts.1)
acts_of_others t u (Lost client ∷ block) other acts = absurd acts.0

-- the body's object is private to the thread, and has it
abbrev HasPrivate : ThreadId → ℕ → Body → PlainState → Type 0
HasPrivate t o body s = IsPrivate t o s × HasBody body s

module _ (shape : Shape) (t : ThreadId) where
  -- one body is left
  body_left : (o : ℕ) (body : Body) (s r : PlainState) → body.object ≡ o → LeavesOwn t s r → HasPrivate t o body s → HasPrivate t o body r
  body_left o body s r is left list_any =
      let own : IsPrivate t body.object s = subst (λ x. IsPrivate t x s) (sym is) list_any.0 in (
        left.mine o ∙ list_any.0,
        record {
          class = subst (λ object. IsOf body.class (length body.values) object) (sym (left.objects body.object own)) list_any.1.class;
          values = λ f. left.heap body.object f own ∙ list_any.1.values f;
        },
      )

  -- Acts of others leave a thread's private objects.
  pub private_left : (bodies : List Body) (events : List Event) (s : PlainState) → ArePrivates t bodies s → AreActsOfOthers t events → RunsButMarks shape events s → ArePrivates t bodies (end_of shape events s)
  private_left bodies events s are others runs =
      let left = leaves_own shape t events s runs others in
      record {
        once = are.once;
        each = λ o body is. body_left o body s (end_of shape events s) (body_object o bodies body is) left (are.each o body is);
        all = λ o own. are.all o (sym (left.mine o) ∙ own);
      }

  -- so does a loss
  pub private_lost : (bodies : List Body) (client : ℕ) (s : PlainState) → ArePrivates t bodies s → ArePrivates t bodies (end_of shape (Lost client ∷ []) s)
  private_lost bodies client s are = record {
    once = are.once;
    each = λ o body is. let it = are.each o body is in (it.0, record { class = it.1.class; values = it.1.values });
    all = are.all;
  }

  -- its own block has an act of it
  own_has : (e : Event) (block : List Event) → AreActsOf t (e ∷ block) → list_any (is_act_of t) (e ∷ block) ≡ true
  own_has (Act thread request reply woken) block acts = ap (λ b. b || list_any (is_act_of t) block) (is_of_thread t thread acts.0)
  own_has (Lost client) block acts = absurd acts.0

  -- the private objects after one more block
  pub through_more : (blocks : List (List Event)) (block : List Event) (bodies : List Body) → privates_through shape t (blocks ++ block ∷ []) bodies ≡ privates_by shape t block (privates_through shape t blocks bodies)
  through_more [] block bodies = refl
  through_more (first ∷ blocks) block bodies = through_more blocks block (privates_by shape t first bodies)

  -- and after more blocks
  pub through_parts : (first second : List (List Event)) (bodies : List Body) → privates_through shape t (first ++ second) bodies ≡ privates_through shape t second (privates_through shape t first bodies)
  through_parts [] second bodies = refl
  through_parts (block ∷ first) second bodies = through_parts first second (privates_by shape t block bodies)

  module _ (works_tell : WorksTell) where
    -- a block of its own
    own_block : (bodies : List Body) (block : List Event) (h : List Event) → RunsButMarks shape h (opening shape) → AreActsOf t block → RunsButMarks shape block (last_state shape h) → ArePrivates t bodies (last_state shape h)
        → ArePrivates t (privates_by shape t block bodies) (end_of shape block (last_state shape h))
    own_block bodies [] h ran acts runs are = are
    own_block bodies (e ∷ block) h ran acts runs are =
        subst (λ b. ArePrivates t (cond b (worked shape (e ∷ block) (start bodies)).privates bodies) (end_of shape (e ∷ block) (last_state shape h))) (sym (own_has e block acts))
        (works_tell shape t bodies (e ∷ block) h ran are acts runs).privates

    -- The private objects after a block of one thread.
    pub privates_of_block : (bodies : List Body) (block : List Event) (h : List Event) → RunsButMarks shape h (opening shape) → OfOneThread block → RunsButMarks shape block (last_state shape h) → ArePrivates t bodies (last_state shape h)
        → ArePrivates t (privates_by shape t block bodies) (end_of shape block (last_state shape h))
    privates_of_block bodies block h ran one runs are = by (is_thread t one.thread) refl
      where
        by : (b : Bool) → is_thread t one.thread ≡ b → ArePrivates t (privates_by shape t block bodies) (end_of shape block (last_state shape h))
        by true is = own_block bodies block h ran (subst (λ u. AreActsOf u block) (same_thread t one.thread is) one.acts) runs are
        by false is =
            subst (λ b. ArePrivates t (cond b (worked shape block (start bodies)).privates bodies) (end_of shape block (last_state shape h))) (sym (none_of_thread t one.thread block is one.acts))
            (private_left bodies block (last_state shape h) are (acts_of_others t one.thread block is one.acts) runs)

    -- The private objects after blocks, each of one thread, are those that the blocks leave.
    pub privates_of_blocks : (blocks : List (List Event)) (bodies : List Body) (h : List Event) → RunsButMarks shape h (opening shape) → AllByRecursion OfOneThread blocks → RunsButMarks shape (joined blocks) (last_state shape h) → ArePrivates t bodies (last_state shape h)
        → ArePrivates t (privates_through shape t blocks bodies) (end_of shape (joined blocks) (last_state shape h))
    privates_of_blocks [] bodies h ran ones runs are = are
    privates_of_blocks (block ∷ blocks) bodies h ran ones runs are =
        let s : PlainState = last_state shape h in
        let parts = (runs_but_marks_in_parts shape block (joined blocks) s).0 runs in
        let now : last_state shape (h ++ block) ≡ end_of shape block s = ends_in_parts shape h block (opening shape) in
        let rest = privates_of_blocks blocks (privates_by shape t block bodies) (h ++ block) ((runs_but_marks_in_parts shape h block (opening shape)).1 (ran, parts.0)) ones.1
        (subst (RunsButMarks shape (joined blocks)) (sym now) parts.1)
        (subst (ArePrivates t (privates_by shape t block bodies)) (sym now) (privates_of_block bodies block h ran ones.0 parts.0 are)) in
        subst (ArePrivates t (privates_through shape t blocks (privates_by shape t block bodies)))
        (ap (end_of shape (joined blocks)) now ∙ sym (ends_in_parts shape block (joined blocks) s)) rest

-- threads of different clients are different
pub other_thread : (t u : ThreadId) → eqb t.client u.client ≡ false → is_thread t u ≡ false
other_thread t u apart = by (is_thread t u) refl
  where
    by : (b : Bool) → is_thread t u ≡ b → b ≡ false
    by true same = absurd (cc (sym (subst (λ n. eqb t.client n ≡ true) (ap (λ (t : ThreadId). t.client) (sym (same_thread t u same))) (number_self t.client)) ∙ apart))
    by false same = refl

-- a history grew by these events, which run from where it ended
pub record Grew (shape : Shape) (h more r : List Event) : Type 0 where
  pub ran : RunsButMarks shape h (opening shape)
  pub runs : RunsButMarks shape more (last_state shape h)
  pub ends : last_state shape r ≡ end_of shape more (last_state shape h)

-- a history that is one and more behind it grew so
pub grew : (shape : Shape) (h more r : List Event) → r ≡ h ++ more → RunsButMarks shape r (opening shape) → Grew shape h more r
grew shape h more r is runs =
    let parts = (runs_but_marks_in_parts shape h more (opening shape)).0 (subst (λ r. RunsButMarks shape r (opening shape)) is runs) in
    record { ran = parts.0; runs = parts.1; ends = ap (last_state shape) is ∙ ends_in_parts shape h more (opening shape) }

-- what ran before the last entry
pub ran_before : (p : Settings) (e : Entry) (es : List Entry) → RunsButMarks p.shape (as_made (e ∷ es)) (opening p.shape) → RunsButMarks p.shape (as_made es) (opening p.shape)
ran_before p e es runs = (grew p.shape (as_made es) (made_at e.node e.input es) (as_made (e ∷ es)) refl runs).ran

-- at first a thread has no private objects
pub none_at_first : (shape : Shape) (t : ThreadId) → ArePrivates t [] (opening shape)
none_at_first shape t = record { once = λ o. omega arith; each = λ o body is. absurd (cc is); all = λ o own. absurd (nobody (eqb o 0) own) }
  where
    nobody : (b : Bool) → is_private_to t (cond b (Some (roots_object shape)) None) ≡ true → ⊥
    nobody true e = absurd (cc e)
    nobody false e = absurd (cc e)

-- acts of others behind acts of others
others_both : (t : ThreadId) (first second : List Event) → AreActsOfOthers t first → AreActsOfOthers t second → AreActsOfOthers t (first ++ second)
others_both t [] second others more = more
others_both t (e ∷ first) second others more = (others.0, others_both t first second others.1 more)

-- blocks whose records are of another client are not the thread's
blocks_of_others : (shape : Shape) (t : ThreadId) (d : ℕ) (before : List (List Event)) (txns : List Txn) (blocks : List (List Event)) → eqb t.client d ≡ false → AreRecordsOf shape before txns blocks → AllByRecursion (IsRecordOfClient d) txns
    → AreActsOfOthers t (joined blocks)
blocks_of_others shape t d before [] [] other are its = tt
blocks_of_others shape t d before (txn ∷ txns) (block ∷ blocks) other are its =
    others_both t block (joined blocks) (acts_of_others t txn.thread block (other_thread t txn.thread (ap (eqb t.client) its.0 ∙ other)) are.0.acts)
    (blocks_of_others shape t d (before ++ block ∷ []) txns blocks other are.1 its.1)
blocks_of_others shape t d before [] (block ∷ blocks) other are its = absurd are
blocks_of_others shape t d before (txn ∷ txns) [] other are its = absurd are

-- What is pending at another client that isn't lost is not the thread's.
pub pending_of_others : (p : Settings) (next : ThreadId → List Event → Option Request) (t : ThreadId) (d : ℕ) (es : List Entry) → eqb t.client d ≡ false → AllFollow p next es → is_lost d (entries_of Server es) ≡ false
    → AreActsOfOthers t (joined (pending d es))
pending_of_others p next t d es other follow stays =
    blocks_of_others p.shape t d (taken_in d es) (records_in (messages (up_in_flight d es))) (pending d es) other (are_records_split p next d es follow stays) (way_of_client p next d es follow stays)

-- A block that ends at a client is of a thread of the client.
pub ending_thread : (p : Settings) (next : ThreadId → List Event → Option Request) (c : ℕ) (e : Entry) (es : List Entry) → AllFollow p next es → MayFollow p next e es → e.node ≡ Client c
    → (it : EndsBlock p e (entries_of (Client c) es)) → it.thread.client ≡ c
ending_thread p next c e es follow follows at it =
    let all : AreOwnEvents c (entries_of (Client c) (e ∷ es)) = (of_client p next c (e ∷ es) (follow, follows)).events in
    let mine : AreOwnEvents c (e ∷ entries_of (Client c) es) = subst (AreOwnEvents c) (ap (λ node. cond (is_node (Client c) node) (e ∷ entries_of (Client c) es) (entries_of (Client c) es)) at
    ∙ ap (λ b. cond b (e ∷ entries_of (Client c) es) (entries_of (Client c) es)) (number_self c)) all in
    subst (IsOwnEvent c) it.event mine.0

module _ (works_tell : WorksTell) (p : Settings) (next : ThreadId → List Event → Option Request) (t : ThreadId) where
  -- the thread's private objects at the end of the history are those that the blocks taken in leave
  abbrev pub PrivatesTaken : List Entry → Type 0
  PrivatesTaken es = ArePrivates t (privates_through p.shape t (taken_in t.client es) []) (last_state p.shape (as_made es))

  module _ (e : Entry) (es : List Entry) (follows : MayFollow p next e es) (follow : AllFollow p next es) (alive : is_lost t.client (entries_of Server es) ≡ false)
      (runs : RunsButMarks p.shape (as_made (e ∷ es)) (opening p.shape)) (before : PrivatesTaken es) where
    -- by what the entry gives the history, where it takes no record of the thread's client
    by_given : takes_record t.client e.node e.input ≡ false → Gives p next e es follows follow
        → ArePrivates t (privates_through p.shape t (taken_in t.client es) []) (last_state p.shape (as_made (e ∷ es)))
    by_given none (inl given) =
        let it = grew p.shape (as_made es) given.takes.block (as_made (e ∷ es)) given.grows runs in
        let other : eqb t.client given.client ≡ false = sym (ap (λ node. takes_record t.client node e.input) given.takes.does.node_is ∙ ap (takes_record t.client Server) given.takes.does.input_is) ∙ none in
        let apart : is_thread t given.txn.thread ≡ false = other_thread t given.txn.thread (ap (eqb t.client) (taken_of_client p next e es follows given.client given.txn given.alive given.takes) ∙ other) in
        subst (ArePrivates t (privates_through p.shape t (taken_in t.client es) [])) (sym it.ends)
        (private_left p.shape t (privates_through p.shape t (taken_in t.client es) []) given.takes.block (last_state p.shape (as_made es)) before (acts_of_others t given.txn.thread given.takes.block apart given.takes.its.acts) it.runs)
    by_given none (inr (inl given)) =
        let it = grew p.shape (as_made es) (Lost given.client ∷ []) (as_made (e ∷ es)) given.grows runs in
        subst (ArePrivates t (privates_through p.shape t (taken_in t.client es) [])) (sym it.ends)
        (private_lost p.shape t (privates_through p.shape t (taken_in t.client es) []) given.client (last_state p.shape (as_made es)) before)
    by_given none (inr (inr same)) = subst (λ h. ArePrivates t (privates_through p.shape t (taken_in t.client es) []) (last_state p.shape h)) (sym same) before

    -- by what the entry does to the client's blocks
    by_blocks : DoesToBlocks p t.client e es → PrivatesTaken (e ∷ es)
    by_blocks (inl (txn, takes)) =
        let it = grew p.shape (as_made es) takes.block (as_made (e ∷ es)) (history_takes p next e es follows follow t.client txn alive takes) runs in
        let bodies : List Body = privates_through p.shape t (taken_in t.client es) [] in
        subst (λ blocks. ArePrivates t (privates_through p.shape t blocks []) (last_state p.shape (as_made (e ∷ es)))) (sym takes.taken)
        (subst (λ bodies. ArePrivates t bodies (last_state p.shape (as_made (e ∷ es)))) (sym (through_more p.shape t (taken_in t.client es) takes.block []))
        (subst (ArePrivates t (privates_by p.shape t takes.block bodies)) (sym it.ends)
        (privates_of_block p.shape t works_tell bodies takes.block (as_made es) it.ran (record { thread = txn.thread; acts = takes.its.acts }) it.runs before)))
    by_blocks (inr (inl ends)) =
        subst (λ blocks. ArePrivates t (privates_through p.shape t blocks []) (last_state p.shape (as_made (e ∷ es)))) (sym ends.taken)
        (by_given (ap (λ node. takes_record t.client node e.input) ends.does.node_is) (gives p next e es follows follow))
    by_blocks (inr (inr keeps)) =
        subst (λ blocks. ArePrivates t (privates_through p.shape t blocks []) (last_state p.shape (as_made (e ∷ es)))) (sym keeps.taken_stays)
        (by_given keeps.none (gives p next e es follows follow))

  -- The private objects of a thread of a client that isn't lost, at the end of the history, are those that its blocks taken in leave.
  pub privates_taken : (es : List Entry) → AllFollow p next es → is_lost t.client (entries_of Server es) ≡ false → RunsButMarks p.shape (as_made es) (opening p.shape) → PrivatesTaken es
  privates_taken [] follow alive runs = none_at_first p.shape t
  privates_taken (e ∷ es) follow alive runs =
      let before = not_lost_before t.client e.node e es alive in
      by_blocks e es follow.1 follow.0 before runs (privates_taken es follow.0 before (ran_before p e es runs))
      (does_to_blocks p next t.client es follow.0 before e follow.1)

  -- And at its client, where the pending blocks run, they are those that all its ended blocks leave.
  pub privates_at : (es : List Entry) → AllFollow p next es → is_lost t.client (entries_of Server es) ≡ false → RunsButMarks p.shape (as_made es) (opening p.shape)
      → RunsButMarks p.shape (joined (pending t.client es)) (last_state p.shape (as_made es))
      → ArePrivates t (privates_through p.shape t (ended_blocks (entries_of (Client t.client) es)) []) (state_at p t.client es)
  privates_at es follow alive runs pends =
      let blocks : List (List Event) = ended_blocks (entries_of (Client t.client) es) in
      subst (λ bodies. ArePrivates t bodies (state_at p t.client es))
      (sym (through_parts p.shape t (taken_in t.client es) (pending t.client es) []) ∙ ap (λ blocks. privates_through p.shape t blocks []) (take-append-drop (handed_in t.client es) blocks))
      (privates_of_blocks p.shape t works_tell (pending t.client es) (privates_through p.shape t (taken_in t.client es) []) (as_made es) runs
      (one_threads p.shape (taken_in t.client es) _ (pending t.client es) (are_records_split p next t.client es follow alive)) pends
      (privates_taken es follow alive runs))

  -- what the thread has in hand, with these private objects, tells what a run of its acts made of a state that a history reaches
  tells_from : (h : List Event) (s : PlainState) (bodies : List Body) (block : List Event) → last_state p.shape h ≡ s → RunsButMarks p.shape h (opening p.shape) → ArePrivates t bodies s → AreActsOf t block → RunsButMarks p.shape block s
      → TellsWork t (worked p.shape block (start bodies)) s (end_of p.shape block s)
  tells_from h s bodies block is ran are acts runs =
      subst (λ s. TellsWork t (worked p.shape block (start bodies)) s (end_of p.shape block s)) is
      (works_tell p.shape t bodies block h ran (subst (ArePrivates t bodies) (sym is) are) acts (subst (RunsButMarks p.shape block) (sym is) runs))

  -- what stands at a client is the last state of a history
  ran_at : (d : ℕ) (es : List Entry) → RunsButMarks p.shape (as_made es) (opening p.shape) → RunsButMarks p.shape (joined (pending d es)) (last_state p.shape (as_made es)) → RunsButMarks p.shape (as_made es ++ joined (pending d es)) (opening p.shape)
  ran_at d es runs pends = (runs_but_marks_in_parts p.shape (as_made es) (joined (pending d es)) (opening p.shape)).1 (runs, pends)

  module _ (es : List Entry) (follow : AllFollow p next es) (alive : is_lost t.client (entries_of Server es) ≡ false) (runs : RunsButMarks p.shape (as_made es) (opening p.shape)) where
    -- the work of a block behind those taken in
    abbrev work_taken : List Event → Work
    work_taken block = worked p.shape block (start (privates_through p.shape t (taken_in t.client es) []))

    -- it tells what the block makes of the history's last state
    work_tells_taken : (block : List Event) → AreActsOf t block → RunsButMarks p.shape block (last_state p.shape (as_made es))
        → TellsWork t (work_taken block) (last_state p.shape (as_made es)) (end_of p.shape block (last_state p.shape (as_made es)))
    work_tells_taken block acts may = works_tell p.shape t (privates_through p.shape t (taken_in t.client es) []) block (as_made es) runs (privates_taken es follow alive runs) acts may

    -- and what it makes of the state where another client stands
    work_tells_elsewhere : (d : ℕ) → eqb t.client d ≡ false → is_lost d (entries_of Server es) ≡ false → RunsButMarks p.shape (joined (pending d es)) (last_state p.shape (as_made es))
        → (block : List Event) → AreActsOf t block → RunsButMarks p.shape block (state_at p d es)
        → TellsWork t (work_taken block) (state_at p d es) (end_of p.shape block (state_at p d es))
    work_tells_elsewhere d other stays pends block acts may =
        let bodies : List Body = privates_through p.shape t (taken_in t.client es) [] in
        tells_from (as_made es ++ joined (pending d es)) (state_at p d es) bodies block (ends_in_parts p.shape (as_made es) (joined (pending d es)) (opening p.shape)) (ran_at d es runs pends)
        (private_left p.shape t bodies (joined (pending d es)) (last_state p.shape (as_made es)) (privates_taken es follow alive runs) (pending_of_others p next t d es other follow stays) pends) acts may

-- The work of a record tells what its block made of a state.
pub record TellsRecord (txn : Txn) (start_state s : PlainState) : Type 0 where
  pub work : Work
  pub news : work.news ≡ txn.news
  pub sets : work.sets ≡ txn.sets
  pub tells : TellsWork txn.thread work start_state s

module _ (works_tell : WorksTell) (p : Settings) (next : ThreadId → List Event → Option Request) (es : List Entry) (follow : AllFollow p next es) (runs : RunsButMarks p.shape (as_made es) (opening p.shape)) where
  -- what can be said of a record of the client's, whose block stands behind those taken in
  record_tells : (c : ℕ) (txn : Txn) (block : List Event) (s r : PlainState) → IsRecordOf p.shape (taken_in c es) txn block
      → TellsWork txn.thread (worked p.shape block (start (privates_through p.shape txn.thread (taken_in c es) []))) s r → TellsRecord txn s r
  record_tells c txn block s r its tells = record {
    work = worked p.shape block (start (privates_through p.shape txn.thread (taken_in c es) []));
    news = sym (ap (λ (txn : Txn). txn.news) its.whole);
    sets = sym (ap (λ (txn : Txn). txn.sets) its.whole);
    tells = tells;
  }

  module _ (e : Entry) (follows : MayFollow p next e es) (c : ℕ) (alive : is_lost c (entries_of Server es) ≡ false) (txn : Txn) (takes : TakesBlock p c txn e es) where
    -- the record's thread is one of the client
    its_client : txn.thread.client ≡ c
    its_client = taken_of_client p next e es follows c txn alive takes

    -- Where the server takes a record, it tells what its block makes of the history's last state,
    pub tells_taken : RunsButMarks p.shape takes.block (last_state p.shape (as_made es)) → TellsRecord txn (last_state p.shape (as_made es)) (end_of p.shape takes.block (last_state p.shape (as_made es)))
    tells_taken may = record_tells c txn takes.block (last_state p.shape (as_made es)) (end_of p.shape takes.block (last_state p.shape (as_made es))) takes.its
        (subst (λ n. is_lost n (entries_of Server es) ≡ false
        → TellsWork txn.thread (worked p.shape takes.block (start (privates_through p.shape txn.thread (taken_in n es) []))) (last_state p.shape (as_made es)) (end_of p.shape takes.block (last_state p.shape (as_made es)))) its_client
        (λ alive. work_tells_taken works_tell p next txn.thread es follow alive runs takes.block takes.its.acts may) alive)

    -- and of the state where another client that isn't lost stands.
    pub tells_elsewhere : (d : ℕ) → eqb c d ≡ false → is_lost d (entries_of Server es) ≡ false → RunsButMarks p.shape (joined (pending d es)) (last_state p.shape (as_made es)) → RunsButMarks p.shape takes.block (state_at p d es)
        → TellsRecord txn (state_at p d es) (end_of p.shape takes.block (state_at p d es))
    tells_elsewhere d other stays pends may = record_tells c txn takes.block (state_at p d es) (end_of p.shape takes.block (state_at p d es)) takes.its
        (subst (λ n. eqb n d ≡ false → is_lost n (entries_of Server es) ≡ false
        → TellsWork txn.thread (worked p.shape takes.block (start (privates_through p.shape txn.thread (taken_in n es) []))) (state_at p d es) (end_of p.shape takes.block (state_at p d es))) its_client
        (λ other alive. work_tells_elsewhere works_tell p next txn.thread es follow alive runs d other stays pends takes.block takes.its.acts may) other alive)

-- The private objects of a thread of the client, at the end of the history and where the client stands.
module _ (works_tell : WorksTell) (p : Settings) (next : ThreadId → List Event → Option Request) (t : ThreadId) (c : ℕ) (its : t.client ≡ c) (es : List Entry) (follow : AllFollow p next es) (alive : is_lost c (entries_of Server es) ≡ false)
    (runs : RunsButMarks p.shape (as_made es) (opening p.shape)) where
  -- at the end of the history those that its blocks taken in leave
  pub privates_taken_of : ArePrivates t (privates_through p.shape t (taken_in c es) []) (last_state p.shape (as_made es))
  privates_taken_of =
      subst (λ n. is_lost n (entries_of Server es) ≡ false → ArePrivates t (privates_through p.shape t (taken_in n es) []) (last_state p.shape (as_made es))) its
      (λ alive. privates_taken works_tell p next t es follow alive runs) alive

  -- and where the client stands those that all its ended blocks leave
  pub privates_at_of : RunsButMarks p.shape (joined (pending c es)) (last_state p.shape (as_made es)) → ArePrivates t (privates_through p.shape t (ended_blocks (entries_of (Client c) es)) []) (state_at p c es)
  privates_at_of pends =
      subst (λ n. is_lost n (entries_of Server es) ≡ false → RunsButMarks p.shape (joined (pending n es)) (last_state p.shape (as_made es))
      → ArePrivates t (privates_through p.shape t (ended_blocks (entries_of (Client n) es)) []) (state_at p n es)) its
      (λ alive pends. privates_at works_tell p next t es follow alive runs pends) alive pends
