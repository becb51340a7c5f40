-- The committed history runs, marks and all, and the unmarked waiters of a lock are those that their clients keep and those of the
-- server's list: over entries each of which follows those before it, of a sound program.
use Rattle.std.specs.List.{list_any}
use Rattle.std.proofs.Common.{ℕ, suc, ◌+◌, ◌≤◌, ◌≡◌, ◌⊎◌, ◌↔◌, inl, inr, refl, sym, ◌∙◌, ap, subst, Bool, true, false, cond, not, eqb, ◌&&◌, ◌||◌, Option, Some, List, [], ◌∷◌, ◌++◌, arith}
use Rattle.dso_base.specs.declared.journal.Entry.{Entry}
use Rattle.dso_base.specs.declared.journal.Input.{Input}
use Rattle.dso_base.specs.declared.journal.Input.TheVariants as input
use Rattle.dso_base.specs.declared.journal.Node.{Node}
use Rattle.dso_base.specs.declared.journal.Node.TheVariants.{Server, Client}
use Rattle.dso_base.specs.declared.journal.Sent.{Sent}
use Rattle.dso_base.specs.declared.journal.Sent.TheVariants.{ToServer, ToClient}
use Rattle.dso_base.specs.declared.lock.Level.TheVariants.{Write}
use Rattle.dso_base.specs.declared.lock.LockName.{LockName}
use Rattle.dso_base.specs.declared.lock.ThreadId.{ThreadId}
use Rattle.dso_base.specs.declared.message.Down.{Down}
use Rattle.dso_base.specs.declared.message.Down.TheVariants as down
use Rattle.dso_base.specs.declared.message.Up.{Up}
use Rattle.dso_base.specs.declared.message.Up.TheVariants as up
use Rattle.dso_base.specs.declared.record.Txn.{Txn}
use Rattle.dso_base.specs.declared.request.Event.{Event}
use Rattle.dso_base.specs.declared.request.Event.TheVariants.{Lost}
use Rattle.dso_base.specs.declared.request.Request.{Request}
use Rattle.dso_base.specs.Following.{is_thread}
use Rattle.dso_plain.specs.KeyTests.{is_lock}
use Rattle.dso_plain.specs.State.{PlainState, opening}
use Rattle.dso_plain.specs.Possible.{IsUnmarkedWaiter}
use Rattle.dso_plain.specs.History.{Runs, RunsButMarks, last_state}
use Rattle.dso_plain.proofs.independence.RunsSwap.{runs_in_parts, ends_in_parts}
use Rattle.dso_plain.proofs.keys.SameKeys.{same_number, number_self}
use Rattle.dso_plain.proofs.loss.RunsSurvive.{left, waiters_left}
use Rattle.dso_law.specs.Channels.{IsFirst, TakesFirst, up_in_flight}
use Rattle.dso_law.specs.Entries.{unsent, entries_of, by_taken_up, by_sent_down, if_to}
use Rattle.dso_law.specs.ServerReadings.{loses, is_lost, is_of_lost, counted, is_reached, taken_count}
use Rattle.dso_law.specs.ServerStep.{HeardStep, HeardOrLost, LoseStep, ServerStepOn}
use Rattle.dso_law.specs.Settings.{Settings}
use Rattle.dso_legal.specs.AsMade.{as_made}
use Rattle.dso_legal.specs.Committed.{block_taken, committed_by, committed_at, committed}
use Rattle.dso_legal.specs.Lawful.{ServerFollows, NodeFollows, AllFollow}
use Rattle.dso_legal.specs.Marks.{MarksAreKnown, is_kept, kept_at, lists_at}
use Rattle.dso_legal.specs.Places.{Place, Away, Kept, Gone, place_up, place_down, MayPlaceUp, MayPlaceDown, place_of, place_with}
use Rattle.dso_legal.specs.SoundProgram.{AsksSoundly}
use Rattle.dso_legal.proofs.blocks.ResolvedBlocks.{history_resolved}
use Rattle.dso_legal.proofs.blocks.SparedHistory.{history_spared}
use Rattle.dso_legal.proofs.central.AllHold.{all_holds}
use Rattle.dso_legal.proofs.central.ThreadEnds.{connected}
use Rattle.dso_legal.proofs.fitting.LostClients.{isnt_its, lost_are_gone}
use Rattle.dso_legal.proofs.marks.SameRuns.{runs_resolved}
use Rattle.dso_legal.proofs.channels.AfterEntry.{server_turn}
use Rattle.dso_legal.proofs.leases.LeaseSteps.{unless_true, if_true, no_both}
use Rattle.dso_legal.proofs.records.BothEnds.{first_may_up}
use Rattle.dso_legal.proofs.waiting.ListMoves.{fails}
use Rattle.dso_legal.proofs.waiting.Waiters.{WaitersStand, waiters_stand, enough_write}
use Rattle.dso_legal.proofs.waiting.KeptLeased.{kept_leased}
use Rattle.std.proofs.lemmas.List.{append-nil}
use Rattle.dso_law.specs.Granting.{leased_to, queue_of, leases_so_far, serves, serves_all}
use Rattle.dso_law.specs.Store.{stored}
use Rattle.dso_legal.proofs.copies.ServerMessages.{IsOfLease, serve_each, serves_all_told}
use Rattle.dso_legal.proofs.channels.AfterEntry.{own_turn}
use Rattle.dso_legal.proofs.marks.RecordTaken.{place_at, record_knows}
use Rattle.dso_legal.proofs.records.ServerSent.{EachTold, told_each_so}
use Rattle.dso_legal.proofs.waiting.ServerWaiters.{IsNoWake, lease_wakes_none, object_wakes_none}

-- the thread stands in a list, or on the way between them
abbrev pub is_placed : Place → Bool
is_placed Away = false
is_placed Kept = true
is_placed Gone = true

-- what wakes nobody leaves every place
unwoken_one : (l : LockName) (t : ThreadId) (m : Down) (s : Place) → IsNoWake m → place_down l t m s ≡ s
unwoken_one l t (down.Wake k u) s quiet = absurd quiet
unwoken_one l t m s quiet = refl

unwoken : (c : ℕ) (l : LockName) (t : ThreadId) (out : List Sent) (s : Place) → EachTold IsNoWake out → by_sent_down (if_to c (place_down l t)) out s ≡ s
unwoken c l t [] s quiet = refl
unwoken c l t (ToServer m ∷ out) s quiet = unwoken c l t out s quiet
unwoken c l t (ToClient d m ∷ out) s quiet = ap (by_sent_down (if_to c (place_down l t)) out) (by (eqb c d)) ∙ unwoken c l t out s quiet.1
  where
    by : (b : Bool) → cond b (place_down l t m s) s ≡ s
    by true = unwoken_one l t m s quiet.0
    by false = refl

-- the message is no record
abbrev IsNoRecord : Up → Type 0
IsNoRecord (up.Commit txn) = ⊥
IsNoRecord m = Unit {0}

-- what the server sends for it wakes nobody
unwoken_for : (p : Settings) (d : ℕ) (m : Up) (e : Entry) (server : List Entry) → IsNoRecord m → HeardStep p d m e server → EachTold IsNoWake e.sent
unwoken_for p d (up.Commit txn) e server none h = absurd none
unwoken_for p d up.IdAsk e server none h = subst (EachTold IsNoWake) (sym h.sends) (tt, tt)
unwoken_for p d (up.Fault o) e server none h = subst (EachTold IsNoWake) (sym h.sends) (object_wakes_none d (stored p.shape o (unsent e ∷ server)))
unwoken_for p d (up.Flushed o) e server none h = subst (EachTold IsNoWake) (sym h.sends) tt
unwoken_for p d (up.Request l level) e server none h = subst (EachTold IsNoWake) (sym h.sends) (told_each_so IsOfLease IsNoWake lease_wakes_none (serves p l (unsent e ∷ server)) (serve_each p l (queue_of l (unsent e ∷ server)) (leases_so_far l (unsent e ∷ server))))
unwoken_for p d (up.Return l threads) e server none h = subst (EachTold IsNoWake) (sym h.sends) (told_each_so IsOfLease IsNoWake lease_wakes_none (serves p l (unsent e ∷ server)) (serve_each p l (queue_of l (unsent e ∷ server)) (leases_so_far l (unsent e ∷ server))))

-- and it leaves who is placed
placed_up : (l : LockName) (t : ThreadId) (m : Up) (s : Place) → IsNoRecord m → MayPlaceUp l t m s → is_placed (place_up l t m s) ≡ is_placed s
placed_up l t (up.Commit txn) s none may = absurd none
placed_up l t (up.Return k threads) s none may = by (is_lock l k) (list_any (is_thread t) threads) refl refl
  where
    by : (a b : Bool) → is_lock l k ≡ a → list_any (is_thread t) threads ≡ b → is_placed (cond (a && b) Gone s) ≡ is_placed s
    by true true same there = sym (ap is_placed ((may same).0 there))
    by true false same out = refl
    by false b other there = refl
placed_up l t m s none may = refl

-- the client that an input loses, 0 for others
abbrev lost_by : Input → ℕ
lost_by (input.Lose d) = d
lost_by other = 0

-- above all clients that are lost
abbrev above_lost : List Entry → ℕ
above_lost [] = 0
above_lost (e ∷ es) = suc (lost_by e.input + above_lost es)

-- there none is lost
unlost_by : (c : ℕ) (i : Input) → suc (lost_by i) ≤ c → loses c i ≡ false
unlost_by c (input.Lose d) less = fails (eqb c d) (λ same. too_many d (subst (λ n. suc d ≤ n) (same_number c d same) less))
  where
    too_many : (n : ℕ) → suc n ≤ n → ⊥
    too_many n le = omega (arith, le)
unlost_by c other less = refl

first_less : (a b c : ℕ) → suc (a + b) ≤ c → suc a ≤ c
first_less a b c le = omega (arith, le)

second_less : (a b c : ℕ) → suc (a + b) ≤ c → b ≤ c
second_less a b c le = omega (arith, le)

unlost : (c : ℕ) (es : List Entry) → above_lost es ≤ c → is_lost c es ≡ false
unlost c [] le = refl
unlost c (e ∷ es) le = ap (λ b. b || is_lost c es) (unlost_by c e.input (first_less (lost_by e.input) (above_lost es) c le)) ∙ unlost c es (second_less (lost_by e.input) (above_lost es) c le)

at_itself : (n : ℕ) → n ≤ n
at_itself n = omega arith

-- the thread of a client that isn't lost stands in a list, or on the way between them
abbrev pub is_there : List Entry → LockName → ThreadId → Bool
is_there es l t = not (is_lost t.client (entries_of Server es)) && is_placed (place_at es l t)

module _ (p : Settings) (next : ThreadId → List Event → Option Request) (sound : AsksSoundly p.shape next) where
  -- What is so of the history.
  pub record MarksHold (es : List Entry) : Type 0 where
    pub runs : Runs p.shape (committed es) (opening p.shape)
    pub placed : (l : LockName) (t : ThreadId) → IsUnmarkedWaiter l t (last_state p.shape (committed es)) ↔ (is_there es l t ≡ true)

  -- where each client that isn't lost and the server agree, it tells who is kept and who is listed
  module _ (es : List Entry) (follow : AllFollow p next es) (stand : WaitersStand p next sound es) where
    -- no thread of a lost client is listed,
    listed_alive : (l : LockName) (t : ThreadId) → list_any (is_thread t) (lists_at es l) ≡ true → is_lost t.client (entries_of Server es) ≡ false
    listed_alive l t there = fails (is_lost t.client (entries_of Server es)) (λ lost. no_both (eqb t.client t.client) (number_self t.client)
        (isnt_its t.client t (lists_at es l) ((lost_are_gone p next t.client es follow lost).waiters l) there))

    -- nor kept
    kept_alive : (l : LockName) (t : ThreadId) → kept_at es l t ≡ true → (is_lost t.client (entries_of Server es) ≡ false) × (is_kept (place_at es l t) ≡ true)
    kept_alive l t kept = by (is_lost t.client (entries_of Server es)) kept
      where
        by : (b : Bool) → (not b && is_kept (place_at es l t)) ≡ true → (b ≡ false) × (is_kept (place_at es l t) ≡ true)
        by true kept = absurd (cc kept)
        by false kept = (refl, kept)

    -- who is there and alive
    there_alive : (l : LockName) (t : ThreadId) → is_there es l t ≡ true → (is_lost t.client (entries_of Server es) ≡ false) × (is_placed (place_at es l t) ≡ true)
    there_alive l t there = by (is_lost t.client (entries_of Server es)) there
      where
        by : (b : Bool) → (not b && is_placed (place_at es l t)) ≡ true → (b ≡ false) × (is_placed (place_at es l t) ≡ true)
        by true there = absurd (cc there)
        by false there = (refl, there)

    placed_by : (l : LockName) (t : ThreadId) → is_there es l t ≡ true → (kept_at es l t ≡ true) ⊎ (list_any (is_thread t) (lists_at es l) ≡ true)
    placed_by l t there = by (place_at es l t) refl (there_alive l t there).1
      where
        by : (s : Place) → place_at es l t ≡ s → is_placed s ≡ true → (kept_at es l t ≡ true) ⊎ (list_any (is_thread t) (lists_at es l) ≡ true)
        by Away is placed = absurd (cc placed)
        by Kept is placed = inl (ap (λ b. not b && is_kept (place_at es l t)) (there_alive l t there).0 ∙ ap is_kept is)
        by Gone is placed = inr ((stand.server l t (there_alive l t there).0).gone.1 is)

    by_placed : (l : LockName) (t : ThreadId) → (kept_at es l t ≡ true) ⊎ (list_any (is_thread t) (lists_at es l) ≡ true) → is_there es l t ≡ true
    by_placed l t (inl kept) = ap (λ b. not b && is_placed (place_at es l t)) (kept_alive l t kept).0 ∙ by (place_at es l t) (kept_alive l t kept).1
      where
        by : (s : Place) → is_kept s ≡ true → is_placed s ≡ true
        by Away kept = absurd (cc kept)
        by Kept kept = refl
        by Gone kept = refl
    by_placed l t (inr there) = ap (λ b. not b && is_placed (place_at es l t)) (listed_alive l t there) ∙ ap is_placed ((stand.server l t (listed_alive l t there)).gone.0 there)

    -- a thread of a client that isn't lost
    abbrev spare : ThreadId
    spare = record { client = above_lost (entries_of Server es); index = 0 }

    spare_alive : is_lost spare.client (entries_of Server es) ≡ false
    spare_alive = unlost (above_lost (entries_of Server es)) (entries_of Server es) (at_itself (above_lost (entries_of Server es)))

    pub marks_known : MarksHold es → MarksAreKnown (kept_at es) (lists_at es) (last_state p.shape (committed es))
    marks_known hold = record {
      known = λ l t. ((λ waits. placed_by l t ((hold.placed l t).0 waits)), λ there. (hold.placed l t).1 (by_placed l t there));
      apart = λ l t kept. fails (list_any (is_thread t) (lists_at es l)) (λ there. cc (sym (ap is_kept ((stand.server l t (listed_alive l t there)).gone.0 there)) ∙ (kept_alive l t kept).1));
      once = λ l. (stand.server l spare spare_alive).once;
    }

  -- before the first entry
  starts : MarksHold []
  starts = record { runs = tt; placed = λ l t. ((λ waits. absurd (waits.0 refl)), λ placed. absurd (cc placed)) }

  module _ (e : Entry) (es : List Entry) (follow : AllFollow p next (e ∷ es)) (hold : MarksHold es) where
    stand : WaitersStand p next sound es
    stand = waiters_stand p next sound es follow.0

    -- an entry that gives the history nothing and leaves who is there
    stays : committed (e ∷ es) ≡ committed es → ((l : LockName) (t : ThreadId) → is_there (e ∷ es) l t ≡ is_there es l t) → MarksHold (e ∷ es)
    stays same placed = record {
      runs = subst (λ h. Runs p.shape h (opening p.shape)) (sym same) hold.runs;
      placed = λ l t. subst (λ h. IsUnmarkedWaiter l t (last_state p.shape h) ↔ (is_there (e ∷ es) l t ≡ true)) (sym same)
          (subst (λ b. IsUnmarkedWaiter l t (last_state p.shape (committed es)) ↔ (b ≡ true)) (sym (placed l t)) (hold.placed l t));
    }

    -- an entry of a client
    client_holds : (c : ℕ) → e.node ≡ Client c → MarksHold (e ∷ es)
    client_holds c at = stays (ap (λ n. committed es ++ committed_at n e.input es) at ∙ append-nil (committed es))
        (λ l t. ap (λ js. not (is_lost t.client js) && is_placed (place_with t.client l t (counted js))) (own_turn c e es at).server)

    -- an entry of the server
    module _ (at : e.node ≡ Server) where
      rule : ServerFollows p next e es
      rule = subst (λ n. NodeFollows p next n e es) at follow.1.rule

      first : TakesFirst e.input Server es
      first = subst (λ n. TakesFirst e.input n es) at follow.1.channels

      now_server : entries_of Server (e ∷ es) ≡ e ∷ entries_of Server es
      now_server = (server_turn 0 e es at).server

      -- what counts then, where the entry does
      counted_now : is_of_lost e.input (entries_of Server es) ≡ false → counted (entries_of Server (e ∷ es)) ≡ e ∷ counted (entries_of Server es)
      counted_now counts = ap counted now_server ∙ unless_true (is_of_lost e.input (entries_of Server es)) (counted (entries_of Server es)) (e ∷ counted (entries_of Server es)) counts

      -- where each thread is, once the input is heard, where nobody is woken
      placed_now : (i : Input) → e.input ≡ i → is_of_lost i (entries_of Server es) ≡ false → EachTold IsNoWake e.sent → (l : LockName) (t : ThreadId)
          → place_at (e ∷ es) l t ≡ by_taken_up (if_to t.client (place_up l t)) i (place_at es l t)
      placed_now i is counts quiet l t = ap (place_with t.client l t) (counted_now (ap (λ i. is_of_lost i (entries_of Server es)) is ∙ counts))
          ∙ unwoken t.client l t e.sent (by_taken_up (if_to t.client (place_up l t)) e.input (place_at es l t)) quiet ∙ ap (λ i. by_taken_up (if_to t.client (place_up l t)) i (place_at es l t)) is

      -- an entry that wakes nobody and loses nobody
      quiet_holds : (i : Input) → e.input ≡ i → committed_by i es ≡ [] → is_of_lost i (entries_of Server es) ≡ false → ((c : ℕ) → loses c i ≡ false) → EachTold IsNoWake e.sent
          → ((l : LockName) (t : ThreadId) → is_lost t.client (entries_of Server es) ≡ false → is_placed (by_taken_up (if_to t.client (place_up l t)) i (place_at es l t)) ≡ is_placed (place_at es l t)) → MarksHold (e ∷ es)
      quiet_holds i is none counts stay quiet placed = stays (ap (λ more. committed es ++ more) (ap (λ n. committed_at n e.input es) at ∙ ap (λ i. committed_by i es) is ∙ none) ∙ append-nil (committed es))
          (λ l t. ap (λ js. not (is_lost t.client js) && is_placed (place_at (e ∷ es) l t)) now_server ∙ ap (λ i. not (loses t.client i || is_lost t.client (entries_of Server es)) && is_placed (place_at (e ∷ es) l t)) is
          ∙ ap (λ b. not (b || is_lost t.client (entries_of Server es)) && is_placed (place_at (e ∷ es) l t)) (stay t.client)
          ∙ by l t (is_lost t.client (entries_of Server es)) refl)
        where
          by : (l : LockName) (t : ThreadId) (b : Bool) → is_lost t.client (entries_of Server es) ≡ b → (not (is_lost t.client (entries_of Server es)) && is_placed (place_at (e ∷ es) l t)) ≡ is_there es l t
          by l t true lost = ap (λ b. not b && is_placed (place_at (e ∷ es) l t)) lost ∙ sym (ap (λ b. not b && is_placed (place_at es l t)) lost)
          by l t false there = ap (λ b. not (is_lost t.client (entries_of Server es)) && b) (ap is_placed (placed_now i is counts quiet l t) ∙ placed l t there)

      -- that takes a message of a lost client
      skipped_holds : is_of_lost e.input (entries_of Server es) ≡ true → committed_by e.input es ≡ [] → ((c : ℕ) → loses c e.input ≡ false) → MarksHold (e ∷ es)
      skipped_holds skipped none stay = stays (ap (λ more. committed es ++ more) (ap (λ n. committed_at n e.input es) at ∙ none) ∙ append-nil (committed es))
          (λ l t. ap (λ js. not (is_lost t.client js) && is_placed (place_with t.client l t (counted js))) now_server
          ∙ ap (λ b. not (b || is_lost t.client (entries_of Server es)) && is_placed (place_with t.client l t (counted (e ∷ entries_of Server es)))) (stay t.client)
          ∙ ap (λ js. not (is_lost t.client (entries_of Server es)) && is_placed (place_with t.client l t js)) (if_true (is_of_lost e.input (entries_of Server es)) (counted (entries_of Server es)) (e ∷ counted (entries_of Server es)) skipped))

      -- that takes a message other than a record
      message_holds : (d : ℕ) (m : Up) → e.input ≡ input.TookUp d m → IsNoRecord m → committed_by (input.TookUp d m) es ≡ [] → MarksHold (e ∷ es)
      message_holds d m is none gives = of_lost (is_lost d (entries_of Server es)) refl
        where
          heard : is_lost d (entries_of Server es) ≡ false → HeardStep p d m e (counted (entries_of Server es))
          heard there = subst (λ b. HeardOrLost p d m b e (counted (entries_of Server es))) there (subst (λ i. ServerStepOn p i e (entries_of Server es)) is rule.step).heard

          by : (l : LockName) (t : ThreadId) → is_lost t.client (entries_of Server es) ≡ false → (b : Bool) → eqb t.client d ≡ b → is_placed (cond b (place_up l t m (place_at es l t)) (place_at es l t)) ≡ is_placed (place_at es l t)
          by l t there true same = placed_up l t m (place_at es l t) none
              (first_may_up p next t.client (MayPlaceUp l t) (place_up l t) (MayPlaceDown l t) (place_down l t) (place_of l t) (place_with t.client l t) es (stand.agree l t there) m
              (subst (λ n. IsFirst m (up_in_flight n es)) (sym (same_number t.client d same)) (subst (λ i. TakesFirst i Server es) is first)))
          by l t there false other = refl

          of_lost : (b : Bool) → is_lost d (entries_of Server es) ≡ b → MarksHold (e ∷ es)
          of_lost true lost = skipped_holds (ap (λ i. is_of_lost i (entries_of Server es)) is ∙ lost) (ap (λ i. committed_by i es) is ∙ gives) (λ c. ap (loses c) is)
          of_lost false there = quiet_holds (input.TookUp d m) is gives there (λ c. refl) (unwoken_for p d m e (counted (entries_of Server es)) none (heard there)) (λ l t alive. by l t alive (eqb t.client d) refl)

      -- that takes a record
      record_holds : (d : ℕ) (txn : Txn) → e.input ≡ input.TookUp d (up.Commit txn) → is_lost d (entries_of Server es) ≡ false → MarksHold (e ∷ es)
      record_holds d txn is alive =
          let knows = record_knows p next sound e es follow at d txn is alive hold.runs (marks_known es follow.0 stand hold) in
          let now : WaitersStand p next sound (e ∷ es) = waiters_stand p next sound (e ∷ es) follow in
          record {
            runs = knows.runs;
            placed = λ l t. ((λ waits. by_placed (e ∷ es) follow now l t ((knows.known l t).0 waits)), λ placed. (knows.known l t).1 (placed_by (e ∷ es) follow now l t placed));
          }

      -- that loses a client: its threads leave the one heap, its list and the server's
      loss_holds : (d : ℕ) → e.input ≡ input.Lose d → LoseStep p d e (entries_of Server es) → MarksHold (e ∷ es)
      loss_holds d is step = record {
        runs = subst (λ h. Runs p.shape h (opening p.shape)) (sym history)
            ((runs_in_parts p.shape (committed es) (Lost d ∷ []) (opening p.shape)).1 (hold.runs, (connected_still, tt)));
        placed = λ l t. subst (λ s. IsUnmarkedWaiter l t s ↔ (is_there (e ∷ es) l t ≡ true)) (sym state)
            (subst (λ b. IsUnmarkedWaiter l t (left d (last_state p.shape (committed es))) ↔ (b ≡ true)) (sym (there l t)) (by l t (eqb t.client d) refl));
      }
        where
          history : committed (e ∷ es) ≡ committed es ++ Lost d ∷ []
          history = ap (λ more. committed es ++ more) (ap (λ n. committed_at n e.input es) at ∙ ap (λ i. committed_by i es) is)

          state : last_state p.shape (committed (e ∷ es)) ≡ left d (last_state p.shape (committed es))
          state = ap (last_state p.shape) history ∙ ends_in_parts p.shape (committed es) (Lost d ∷ []) (opening p.shape)

          made : RunsButMarks p.shape (as_made es) (opening p.shape)
          made = (all_holds p next sound es follow.0).stand.runs

          spared : is_lost d (entries_of Server es) ≡ false
          spared = by (is_lost d (entries_of Server es)) step.due
            where
              by : (b : Bool) → (not b && list_any (is_reached d (taken_count d (entries_of Server es))) p.losses) ≡ true → b ≡ false
              by true due = absurd (cc due)
              by false due = refl

          connected_still : (last_state p.shape (committed es)).lost d ≡ false
          connected_still = ap (λ (s : PlainState). s.lost d) (runs_resolved p.shape (opening p.shape).marked (as_made es) (committed es) (opening p.shape) made (history_resolved es)).same_end
              ∙ connected p.shape (as_made es) d made (history_spared d es spared)

          quiet : EachTold IsNoWake e.sent
          quiet = subst (EachTold IsNoWake) (sym step.sends) (told_each_so IsOfLease IsNoWake lease_wakes_none (serves_all p (unsent e ∷ counted (entries_of Server es))) (serves_all_told p (unsent e ∷ counted (entries_of Server es))))

          there : (l : LockName) (t : ThreadId) → is_there (e ∷ es) l t ≡ (not (eqb t.client d || is_lost t.client (entries_of Server es)) && is_placed (place_at es l t))
          there l t = ap (λ js. not (is_lost t.client js) && is_placed (place_at (e ∷ es) l t)) now_server ∙ ap (λ i. not (loses t.client i || is_lost t.client (entries_of Server es)) && is_placed (place_at (e ∷ es) l t)) is
              ∙ ap (λ s. not (eqb t.client d || is_lost t.client (entries_of Server es)) && is_placed s) (placed_now (input.Lose d) is refl quiet l t)

          by : (l : LockName) (t : ThreadId) (b : Bool) → eqb t.client d ≡ b → IsUnmarkedWaiter l t (left d (last_state p.shape (committed es))) ↔ ((not (b || is_lost t.client (entries_of Server es)) && is_placed (place_at es l t)) ≡ true)
          by l t true same = ((λ waits. absurd (((waiters_left d (last_state p.shape (committed es)) l t).0 waits).1 (same_number t.client d same))), λ none. absurd (cc none))
          by l t false other = (
            (λ waits. (hold.placed l t).0 ((waiters_left d (last_state p.shape (committed es)) l t).0 waits).0),
            λ is. (waiters_left d (last_state p.shape (committed es)) l t).1 ((hold.placed l t).1 is, (λ same. no_both (eqb t.client d) (subst (λ n. eqb t.client n ≡ true) same (number_self t.client)) other)),
          )

      by_input : (i : Input) → e.input ≡ i → ServerStepOn p i e (entries_of Server es) → MarksHold (e ∷ es)
      by_input (input.TookUp d (up.Commit txn)) is step = by (is_lost d (entries_of Server es)) refl
        where
          by : (b : Bool) → is_lost d (entries_of Server es) ≡ b → MarksHold (e ∷ es)
          by true lost = skipped_holds (ap (λ i. is_of_lost i (entries_of Server es)) is ∙ lost)
              (ap (λ i. committed_by i es) is ∙ if_true (is_lost d (entries_of Server es)) [] (block_taken d txn.seq es) lost) (λ c. ap (loses c) is)
          by false alive = record_holds d txn is alive
      by_input (input.TookUp d (up.Return k threads)) is step = message_holds d (up.Return k threads) is tt refl
      by_input (input.TookUp d up.IdAsk) is step = message_holds d up.IdAsk is tt refl
      by_input (input.TookUp d (up.Fault o)) is step = message_holds d (up.Fault o) is tt refl
      by_input (input.TookUp d (up.Flushed o)) is step = message_holds d (up.Flushed o) is tt refl
      by_input (input.TookUp d (up.Request k level)) is step = message_holds d (up.Request k level) is tt refl
      by_input (input.Lose d) is step = loss_holds d is step
      by_input (input.Break d) is step = quiet_holds (input.Break d) is refl refl (λ c. refl) (subst (EachTold IsNoWake) (sym step.sends) tt) (λ l t alive. refl)
      by_input (input.Rejoin d) is step = quiet_holds (input.Rejoin d) is refl refl (λ c. refl) (subst (EachTold IsNoWake) (sym step.sends) tt) (λ l t alive. refl)
      by_input other is step = absurd step

    holds_on : (node : Node) → e.node ≡ node → MarksHold (e ∷ es)
    holds_on Server at = by_input at e.input refl (rule at).step
    holds_on (Client c) at = client_holds c at

  -- So it is after entries each of which follows those before it.
  pub marks_hold : (es : List Entry) → AllFollow p next es → MarksHold es
  marks_hold [] follow = starts
  marks_hold (e ∷ es) follow = holds_on e es follow (marks_hold es follow.0) e.node refl

  -- And the marks are known.
  pub marks_are_known : (es : List Entry) → AllFollow p next es → MarksAreKnown (kept_at es) (lists_at es) (last_state p.shape (committed es))
  marks_are_known es follow = marks_known es follow (waiters_stand p next sound es follow) (marks_hold es follow)

  -- Who is kept has a client with the lock at Write.
  pub kept_at_write : (es : List Entry) → AllFollow p next es → (l : LockName) (t : ThreadId) → kept_at es l t ≡ true → leased_to t.client l (counted (entries_of Server es)) ≡ Some Write
  kept_at_write es follow l t kept = by (place_at es l t) refl
    where
      alive_then : (is_lost t.client (entries_of Server es) ≡ false) × (is_kept (place_at es l t) ≡ true)
      alive_then = kept_alive es follow (waiters_stand p next sound es follow) l t kept

      by : (s : Place) → place_at es l t ≡ s → leased_to t.client l (counted (entries_of Server es)) ≡ Some Write
      by Away is = absurd (cc (sym (ap is_kept is) ∙ alive_then.1))
      by Gone is = absurd (cc (sym (ap is_kept is) ∙ alive_then.1))
      by Kept is = enough_write (leased_to t.client l (counted (entries_of Server es))) (kept_leased p next sound es follow l t alive_then.0 is)
