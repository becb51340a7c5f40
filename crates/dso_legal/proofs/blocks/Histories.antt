-- The history as made: the blocks whose records the server took, of each client, a lost one too, in the order of their endings.
use Rattle.std.specs.List.{list_any}
use Rattle.std.proofs.Common.{ℕ, ◌≡◌, ◌⊎◌, inl, inr, refl, sym, ◌∙◌, ap, subst, Bool, true, false, cond, eqb, ◌||◌, Option, List, [], ◌∷◌, ◌++◌}
use Rattle.std.specs.Prelude.{filter}
use Rattle.std.proofs.lemmas.List.{append_assoc, append-nil, take-append-drop}
use Rattle.dso_base.specs.declared.journal.Entry.{Entry}
use Rattle.dso_base.specs.declared.journal.Input.{Input}
use Rattle.dso_base.specs.declared.journal.Input.TheVariants as input
use Rattle.dso_base.specs.declared.journal.Node.{Node}
use Rattle.dso_base.specs.declared.journal.Node.TheVariants.{Server, Client}
use Rattle.dso_base.specs.declared.lock.ThreadId.{ThreadId}
use Rattle.dso_base.specs.declared.message.Up.TheVariants as up
use Rattle.dso_base.specs.declared.record.Txn.{Txn}
use Rattle.dso_base.specs.declared.request.Event.{Event}
use Rattle.dso_base.specs.declared.request.Event.TheVariants.{Act, Lost}
use Rattle.dso_base.specs.declared.request.Request.{Request}
use Rattle.dso_base.specs.Following.{is_thread}
use Rattle.dso_plain.specs.History.{events_of}
use Rattle.dso_plain.specs.Touches.{AreActsOf}
use Rattle.dso_plain.proofs.keys.SameKeys.{same_number, number_self, same_thread}
use Rattle.dso_plain.proofs.histories.LegalGoesOn.{events_in_parts}
use Rattle.dso_law.specs.Settings.{Settings, threads_of}
use Rattle.dso_law.specs.Entries.{entries_of, events_in}
use Rattle.dso_law.specs.Threads.{open_block}
use Rattle.dso_law.specs.ServerReadings.{is_lost, counted}
use Rattle.dso_law.specs.ServerStep.{HeardOrLost, ServerStepOn}
use Rattle.dso_legal.specs.Lawful.{NodeFollows, MayFollow, AllFollow}
use Rattle.dso_law.specs.Prefixes.{IsPrefix}
use Rattle.dso_legal.specs.Blocks.{is_act_at, acts_at}
use Rattle.dso_legal.specs.Committed.{ended_blocks, block_numbered}
use Rattle.dso_legal.specs.AsMade.{made_by, made_at, as_made}
use Rattle.dso_legal.specs.PendingBlocks.{joined, handed_in, taken_in, pending}
use Rattle.dso_legal.proofs.blocks.ClientBlocks.{joined_more, joined_parts, keeps_thread}
use Rattle.dso_legal.proofs.blocks.LocksOfEvents.{either_way}
use Rattle.dso_legal.proofs.records.Handing.{takes_record}
use Rattle.dso_legal.proofs.records.HandedIn.{TakesBlock, DoesToBlocks, does_to_blocks, takes_its_block, lost_keeps}
use Rattle.dso_legal.proofs.leases.LeaseSteps.{unless_true, if_true, no_both}

-- a thread that is found among those of a client is one of the client
found_in : (t : ThreadId) (c : ℕ) (threads : List ThreadId) → list_any (is_thread t) (filter (λ u. eqb u.client c) threads) ≡ true → t.client ≡ c
found_in t c [] found = absurd (cc found)
found_in t c (u ∷ threads) found = by (eqb u.client c) refl (found_in t c threads) found
  where
    first : (b : Bool) → is_thread t u ≡ b → eqb u.client c ≡ true → (list_any (is_thread t) (filter (λ u. eqb u.client c) threads) ≡ true → t.client ≡ c)
        → (b || list_any (is_thread t) (filter (λ u. eqb u.client c) threads)) ≡ true → t.client ≡ c
    first true is its later found = ap (λ (t : ThreadId). t.client) (sym (same_thread t u is)) ∙ same_number u.client c its
    first false is its later found = later found

    by : (b : Bool) → eqb u.client c ≡ b → (list_any (is_thread t) (filter (λ u. eqb u.client c) threads) ≡ true → t.client ≡ c)
        → list_any (is_thread t) (cond b (u ∷ filter (λ u. eqb u.client c) threads) (filter (λ u. eqb u.client c) threads)) ≡ true → t.client ≡ c
    by true its later found = first (is_thread t u) refl its later found
    by false its later found = later found

pub client_of_thread : (p : Settings) (c : ℕ) (t : ThreadId) → list_any (is_thread t) (threads_of p c) ≡ true → t.client ≡ c
client_of_thread p c t found = found_in t c p.threads found

-- the acts of a client in two lists
acts_in_two : (c : ℕ) (xs ys : List Event) → acts_at c (xs ++ ys) ≡ acts_at c xs ++ acts_at c ys
acts_in_two c [] ys = refl
acts_in_two c (x ∷ xs) ys = by (is_act_at c x) (acts_in_two c xs ys)
  where
    by : (b : Bool) → acts_at c (xs ++ ys) ≡ acts_at c xs ++ acts_at c ys → cond b (x ∷ acts_at c (xs ++ ys)) (acts_at c (xs ++ ys)) ≡ cond b (x ∷ acts_at c xs) (acts_at c xs) ++ acts_at c ys
    by true rest = ap (λ acts. x ∷ acts) rest
    by false rest = rest

-- the acts of a thread are all at its client,
all_at : (c : ℕ) (t : ThreadId) (events : List Event) → t.client ≡ c → AreActsOf t events → acts_at c events ≡ events
all_at c t [] its acts = refl
all_at c t (Act u request reply woken ∷ events) its acts =
    ap (λ b. cond b (Act u request reply woken ∷ acts_at c events) (acts_at c events)) (subst (λ n. eqb n c ≡ true) (sym (ap (λ (w : ThreadId). w.client) acts.0 ∙ its)) (number_self c))
    ∙ ap (λ rest. Act u request reply woken ∷ rest) (all_at c t events its acts.1)
all_at c t (Lost client ∷ events) its acts = absurd acts.0

-- and none at another
none_at : (c d : ℕ) (t : ThreadId) (events : List Event) → t.client ≡ d → eqb c d ≡ false → AreActsOf t events → acts_at c events ≡ []
none_at c d t [] its other acts = refl
none_at c d t (Act u request reply woken ∷ events) its other acts =
    ap (λ b. cond b (Act u request reply woken ∷ acts_at c events) (acts_at c events)) (ap (λ n. eqb n c) (ap (λ (w : ThreadId). w.client) acts.0 ∙ its) ∙ either_way d c ∙ other)
    ∙ none_at c d t events its other acts.1
none_at c d t (Lost client ∷ events) its other acts = absurd acts.0

-- a thread's events are among the acts of its client
events_at : (t : ThreadId) (events : List Event) → events_of t (acts_at t.client events) ≡ events_of t events
events_at t [] = refl
events_at t (Lost client ∷ events) = events_at t events
events_at t (Act u request reply woken ∷ events) = by (eqb u.client t.client) refl (events_at t events)
  where
    by : (b : Bool) → eqb u.client t.client ≡ b → events_of t (acts_at t.client events) ≡ events_of t events
        → events_of t (cond b (Act u request reply woken ∷ acts_at t.client events) (acts_at t.client events)) ≡ cond (is_thread t u) (Act u request reply woken ∷ events_of t events) (events_of t events)
    by true its rest = ap (λ rest. cond (is_thread t u) (Act u request reply woken ∷ rest) rest) rest
    by false other rest = rest ∙ ap (λ b. cond b (Act u request reply woken ∷ events_of t events) (events_of t events)) (sym (apart (is_thread t u) refl))
      where
        apart : (b : Bool) → is_thread t u ≡ b → b ≡ false
        apart true same = no_both (eqb u.client t.client) (subst (λ (w : ThreadId). eqb w.client t.client ≡ true) (sym (same_thread t u same)) (number_self t.client)) other
        apart false same = refl

module _ (p : Settings) (next : ThreadId → List Event → Option Request) (e : Entry) (es : List Entry) (follows : MayFollow p next e es) where
  -- a record that the server takes is of a thread of its client
  step_its : (d : ℕ) (txn : Txn) → is_lost d (entries_of Server es) ≡ false → ServerStepOn p (input.TookUp d (up.Commit txn)) e (entries_of Server es) → txn.thread.client ≡ d
  step_its d txn alive step =
      client_of_thread p d txn.thread (subst (λ b. HeardOrLost p d (up.Commit txn) b e (counted (entries_of Server es))) alive step.heard).fits.thread

  its_at : (node : Node) (d : ℕ) (txn : Txn) → node ≡ Server → e.input ≡ input.TookUp d (up.Commit txn) → is_lost d (entries_of Server es) ≡ false → NodeFollows p next node e es → txn.thread.client ≡ d
  its_at Server d txn at is alive h = step_its d txn alive (subst (λ i. ServerStepOn p i e (entries_of Server es)) is h.step)
  its_at (Client c) d txn at is alive h = absurd (cc at)

  -- The record of a block that the server takes is of a thread of its client.
  pub taken_of_client : (d : ℕ) (txn : Txn) → is_lost d (entries_of Server es) ≡ false → TakesBlock p d txn e es → txn.thread.client ≡ d
  taken_of_client d txn alive takes = its_at e.node d txn takes.does.node_is takes.does.input_is alive follows.rule

  module _ (follow : AllFollow p next es) where
    -- The history goes on by the block whose record the server takes.
    pub history_takes : (d : ℕ) (txn : Txn) → is_lost d (entries_of Server es) ≡ false → (takes : TakesBlock p d txn e es) → as_made (e ∷ es) ≡ as_made es ++ takes.block
    history_takes d txn alive takes = ap (λ more. as_made es ++ more)
        (ap (λ node. made_at node e.input es) takes.does.node_is ∙ ap (λ i. made_by i es) takes.does.input_is
        ∙ unless_true (is_lost d (entries_of Server es)) [] (block_numbered txn.seq (ended_blocks (entries_of (Client d) es))) alive ∙ sym takes.numbered)

    -- the entry gives the history the block of a client that isn't lost
    pub record GivesBlock : Type 0 where
      pub client : ℕ
      pub txn : Txn
      pub alive : is_lost client (entries_of Server es) ≡ false
      pub takes : TakesBlock p client txn e es
      pub grows : as_made (e ∷ es) ≡ as_made es ++ takes.block

    -- it gives a loss
    pub record GivesLoss : Type 0 where
      pub client : ℕ
      pub at : e.node ≡ Server
      pub is : e.input ≡ input.Lose client
      pub grows : as_made (e ∷ es) ≡ as_made es ++ Lost client ∷ []

    -- it gives a block, a loss, or nothing
    abbrev pub Gives : Type 0
    Gives = GivesBlock ⊎ (GivesLoss ⊎ (as_made (e ∷ es) ≡ as_made es))

    -- where it gives nothing
    gives_nothing : (node : Node) (i : Input) → e.node ≡ node → e.input ≡ i → made_at node i es ≡ [] → Gives
    gives_nothing node i at is none = inr (inr (ap (λ more. as_made es ++ more) (ap (λ node. made_at node e.input es) at ∙ ap (λ i. made_at node i es) is ∙ none) ∙ append-nil (as_made es)))

    gives_record : (d : ℕ) (txn : Txn) (b : Bool) → is_lost d (entries_of Server es) ≡ b → e.node ≡ Server → e.input ≡ input.TookUp d (up.Commit txn) → Gives
    gives_record d txn true lost at is = gives_nothing Server (input.TookUp d (up.Commit txn)) at is (if_true (is_lost d (entries_of Server es)) [] (block_numbered txn.seq (ended_blocks (entries_of (Client d) es))) lost)
    gives_record d txn false alive at is =
        let takes = takes_its_block p next d es follow alive e follows txn at is in
        inl (record { client = d; txn = txn; alive = alive; takes = takes; grows = history_takes d txn alive takes })

    gives_at : (node : Node) (i : Input) → e.node ≡ node → e.input ≡ i → Gives
    gives_at Server (input.TookUp d (up.Commit txn)) at is = gives_record d txn (is_lost d (entries_of Server es)) refl at is
    gives_at Server (input.Lose d) at is = inr (inl (record {
      client = d;
      at = at;
      is = is;
      grows = ap (λ more. as_made es ++ more) (ap (λ node. made_at node e.input es) at ∙ ap (λ i. made_by i es) is);
    }))
    gives_at node i at is = gives_nothing node i at is refl

    -- What an entry gives the history.
    pub gives : Gives
    gives = gives_at e.node e.input refl refl

  module _ (follow : AllFollow p next es) (c : ℕ) where
    -- a record of another client
    record_of_other : (d : ℕ) (txn : Txn) (b : Bool) → is_lost d (entries_of Server es) ≡ b → e.node ≡ Server → e.input ≡ input.TookUp d (up.Commit txn) → eqb c d ≡ false
        → acts_at c (cond b [] (block_numbered txn.seq (ended_blocks (entries_of (Client d) es)))) ≡ []
    record_of_other d txn true lost at is other = refl
    record_of_other d txn false alive at is other =
        let takes = takes_its_block p next d es follow alive e follows txn at is in
        ap (acts_at c) (sym takes.numbered) ∙ none_at c d txn.thread takes.block (taken_of_client d txn alive takes) other takes.its.acts

    -- what an entry gives that takes no record of the client
    gives_none : (node : Node) (i : Input) → e.node ≡ node → e.input ≡ i → takes_record c node i ≡ false → acts_at c (made_at node i es) ≡ []
    gives_none Server (input.TookUp d (up.Commit txn)) at is other = record_of_other d txn (is_lost d (entries_of Server es)) refl at is other
    gives_none Server (input.Lose d) at is other = refl
    gives_none node i at is other = refl

    -- and what it gives where the client is lost before it
    gives_no_lost : (node : Node) (i : Input) → e.node ≡ node → e.input ≡ i → is_lost c (entries_of Server es) ≡ true → acts_at c (made_at node i es) ≡ []
    gives_no_lost Server (input.TookUp d (up.Commit txn)) at is lost = by (eqb c d) refl
      where
        by : (b : Bool) → eqb c d ≡ b → acts_at c (made_by (input.TookUp d (up.Commit txn)) es) ≡ []
        by true same = ap (acts_at c) (if_true (is_lost d (entries_of Server es)) [] (block_numbered txn.seq (ended_blocks (entries_of (Client d) es))) (subst (λ n. is_lost n (entries_of Server es) ≡ true) (same_number c d same) lost))
        by false other = record_of_other d txn (is_lost d (entries_of Server es)) refl at is other
    gives_no_lost Server (input.Lose d) at is lost = refl
    gives_no_lost node i at is lost = refl

    -- the history has the blocks that the server took in
    abbrev HoldsBlocks : List Entry → Type 0
    HoldsBlocks js = acts_at c (as_made js) ≡ joined (taken_in c js)

    -- so it is where the entry gives nothing of the client, and what was taken in stays
    still_holds : acts_at c (made_at e.node e.input es) ≡ [] → taken_in c (e ∷ es) ≡ taken_in c es → HoldsBlocks es → HoldsBlocks (e ∷ es)
    still_holds none taken before = acts_in_two c (as_made es) (made_at e.node e.input es) ∙ ap (λ more. acts_at c (as_made es) ++ more) none ∙ append-nil (acts_at c (as_made es)) ∙ before ∙ ap joined (sym taken)

    -- and has them after the entry
    holds_after : is_lost c (entries_of Server es) ≡ false → DoesToBlocks p c e es → HoldsBlocks es → HoldsBlocks (e ∷ es)
    holds_after alive (inl (txn, takes)) before =
        ap (acts_at c) (history_takes follow c txn alive takes) ∙ acts_in_two c (as_made es) takes.block
        ∙ ap (λ acts. acts ++ acts_at c takes.block) before ∙ ap (λ acts. joined (taken_in c es) ++ acts) (all_at c txn.thread takes.block (taken_of_client c txn alive takes) takes.its.acts)
        ∙ sym (ap joined takes.taken ∙ joined_more (taken_in c es) takes.block)
    holds_after alive (inr (inl ends)) before = still_holds (gives_none e.node e.input refl refl (ap (λ node. takes_record c node e.input) ends.does.node_is)) ends.taken before
    holds_after alive (inr (inr keeps)) before = still_holds (gives_none e.node e.input refl refl keeps.none) keeps.taken_stays before

    -- also where the client is lost before it
    holds_lost : is_lost c (entries_of Server es) ≡ true → HoldsBlocks es → HoldsBlocks (e ∷ es)
    holds_lost lost before = still_holds (gives_no_lost e.node e.input refl refl lost) (lost_keeps p next c e es follow lost) before

module _ (p : Settings) (next : ThreadId → List Event → Option Request) where
  -- The history has, of each client, a lost one too, the blocks that the server took in.
  pub history_holds : (c : ℕ) (es : List Entry) → AllFollow p next es → acts_at c (as_made es) ≡ joined (taken_in c es)
  history_holds c [] follow = refl
  history_holds c (e ∷ es) follow = by (is_lost c (entries_of Server es)) refl (history_holds c es follow.0)
    where
      by : (b : Bool) → is_lost c (entries_of Server es) ≡ b → acts_at c (as_made es) ≡ joined (taken_in c es) → acts_at c (as_made (e ∷ es)) ≡ joined (taken_in c (e ∷ es))
      by true lost before = holds_lost p next e es follow.1 follow.0 c lost before
      by false alive before = holds_after p next e es follow.1 follow.0 c alive (does_to_blocks p next c es follow.0 alive e follow.1) before

  module _ (t : ThreadId) where
    -- So it has the thread's events of these.
    pub holds_blocks : (es : List Entry) → AllFollow p next es → events_of t (as_made es) ≡ events_of t (joined (taken_in t.client es))
    holds_blocks es follow = sym (events_at t (as_made es)) ∙ ap (events_of t) (history_holds t.client es follow)

    -- a thread's events in three parts, at its client
    in_parts : (es : List Entry) → AllFollow p next es
        → events_of t (as_made es) ++ (events_of t (joined (pending t.client es)) ++ open_block t (entries_of (Client t.client) es)) ≡ events_in t (entries_of (Client t.client) es)
    in_parts es follow =
        let own = entries_of (Client t.client) es in
        let n = handed_in t.client es in
        ap (λ events. events ++ (events_of t (joined (pending t.client es)) ++ open_block t own)) (holds_blocks es follow)
        ∙ sym (append_assoc (events_of t (joined (taken_in t.client es))) (events_of t (joined (pending t.client es))) (open_block t own))
        ∙ ap (λ events. events ++ open_block t own) (sym (events_in_parts t (joined (taken_in t.client es)) (joined (pending t.client es)))
        ∙ ap (events_of t) (sym (joined_parts (taken_in t.client es) (pending t.client es)) ∙ ap joined (take-append-drop n (ended_blocks own))))
        ∙ (keeps_thread p.shape t own).events

    -- The history has a prefix of the thread's events.
    pub first_in_history : (es : List Entry) → AllFollow p next es → IsPrefix (events_of t (as_made es)) (events_in t (entries_of (Client t.client) es))
    first_in_history es follow = record { rest = events_of t (joined (pending t.client es)) ++ open_block t (entries_of (Client t.client) es); whole = sym (in_parts es follow) }

-- A thread's events in three parts: those in the history, those of its client's ended blocks that the server didn't take in, and its
-- open block.
pub thread_in_parts : (p : Settings) (next : ThreadId → List Event → Option Request) (t : ThreadId) (c : ℕ) → t.client ≡ c → (es : List Entry) → AllFollow p next es
    → events_of t (as_made es) ++ (events_of t (joined (pending c es)) ++ open_block t (entries_of (Client c) es)) ≡ events_in t (entries_of (Client c) es)
thread_in_parts p next t c its es follow =
    subst (λ n. events_of t (as_made es) ++ (events_of t (joined (pending n es)) ++ open_block t (entries_of (Client n) es)) ≡ events_in t (entries_of (Client n) es)) its
    (in_parts p next t es follow)
