-- What one more entry makes of what the pass keeps.
use Rattle.std.proofs.Common.{ℕ, suc, ◌-◌, ◌≡◌, refl, sym, ◌∙◌, ap, Bool, true, false, cond, eqb, is_some, ◌||◌, Option, Some, None, List, [], ◌∷◌, ◌++◌}
use Rattle.std.proofs.Math.Path.{fun_ext}
use Rattle.std.proofs.lemmas.List.{append-nil}
use Rattle.dso_base.specs.declared.journal.Entry.{Entry}
use Rattle.dso_base.specs.declared.journal.Input.{Input}
use Rattle.dso_base.specs.declared.journal.Input.TheVariants as input
use Rattle.dso_base.specs.declared.journal.Node.{Node}
use Rattle.dso_base.specs.declared.journal.Node.TheVariants.{Server, Client}
use Rattle.dso_base.specs.declared.lock.LockName.{LockName}
use Rattle.dso_base.specs.declared.lock.ThreadId.{ThreadId}
use Rattle.dso_base.specs.declared.message.Up.TheVariants as up
use Rattle.dso_base.specs.declared.request.Event.{Event}
use Rattle.dso_base.specs.declared.request.Event.TheVariants.{Act, Lost}
use Rattle.dso_base.specs.declared.request.Reply.{Reply}
use Rattle.dso_base.specs.declared.request.Reply.TheVariants.{Done}
use Rattle.dso_base.specs.declared.request.Request.{Request}
use Rattle.dso_base.specs.declared.request.Request.TheVariants.{Enter, Exit, Wait, Timeout, Resume, End}
use Rattle.std.specs.Option.{unwrap_or}
use Rattle.dso_base.specs.declared.lock.Level.TheVariants.{Write}
use Rattle.dso_base.specs.declared.record.Ending.{Ending}
use Rattle.dso_plain.specs.After.{entered, exited, count_of}
use Rattle.dso_plain.proofs.keys.SameKeys.{same_thread, same_number}
use Rattle.dso_plain.specs.History.{is_act_of}
use Rattle.dso_plain.specs.KeyTests.{is_lock}
use Rattle.dso_lookup.specs.Maps.{or_old}
use Rattle.dso_plain.specs.State.{Hold}
use Rattle.dso_law.specs.Entries.{is_node, entries_of, by_event}
use Rattle.dso_law.specs.ServerReadings.{is_lost, is_of_lost, counted, loses}
use Rattle.dso_law.specs.ServerWaiters.{waiters_of}
use Rattle.dso_law.specs.Threads.{Waiting, Locks, hold_in, with_hold, resumed, locks_by, locks_after, locks_of, exit_ending, ending_by, block_after, open_block}
use Rattle.dso_law.proofs.client.ClientLaws.{holds_after}
use Rattle.dso_legal.proofs.leases.Queues.{lock_self}
use Rattle.dso_legal.specs.Committed.{block_if, ended_by, ended_blocks, committed_by, committed_at, committed}
use Rattle.dso_legal.specs.JournalPass.{list_after, is_of_lost as kept_is_of_lost, hold_count, waiting_count, thread_state_of, client_state_of, server_state_of, pass_state_of, one_less, with_count, with_resume, counts_after, held_so_often, ends_block, block_left, block_ended, thread_state_after, client_state_after, server_state_after, given_events, pass_state_at_client, pass_state_after}

-- a count that is written, seen in the holds
count_with : (l : LockName) (hold : Option Hold) (locks : Locks) → (λ k. hold_count (hold_in k (with_hold l hold locks.holds))) ≡ with_count l (hold_count hold) (λ k. hold_count (hold_in k locks.holds))
count_with l hold locks = fun_ext (λ k. ap hold_count (holds_after l k hold locks.holds) ∙ by (is_lock l k) (hold_in k locks.holds))
  where
    by : (b : Bool) (was : Option Hold) → hold_count (cond b hold was) ≡ or_old (cond b (Some (hold_count hold)) None) (hold_count was)
    by true was = refl
    by false was = refl

-- the count after one entry more
count_entered : (level : _) (hold : Option Hold) → hold_count (entered level hold) ≡ Some (suc (unwrap_or (hold_count hold) 0))
count_entered level None = refl
count_entered level (Some hold) = refl

-- the count after one exit
count_exited : (hold : Option Hold) → hold_count (exited hold) ≡ one_less (hold_count hold)
count_exited None = refl
count_exited (Some hold) = by (eqb hold.count 1)
  where
    by : (b : Bool) → hold_count (cond b None (Some (record { level = hold.level; count = hold.count - 1 }))) ≡ cond b None (Some (hold.count - 1))
    by true = refl
    by false = refl

-- the count that a wait keeps
pub count_kept : (hold : Option Hold) → count_of hold ≡ unwrap_or (hold_count hold) 0
count_kept None = refl
count_kept (Some hold) = refl

-- a resume, by what was waited for
resumed_is : (l : LockName) (waiting : Option Waiting) (locks : Locks) (block : List Event) → thread_state_of (resumed l waiting locks) block ≡ with_resume l (waiting_count waiting) (thread_state_of locks block)
resumed_is l None locks block = refl
resumed_is l (Some waiting) locks block = λ i. record { counts = count_with l (Some (record { level = Write; count = waiting.count })) locks i; waiting = None; block = block }

-- a hold that is changed, as its count is
held_so : (l : LockName) (hold : Option Hold) (count : Option ℕ) (locks : Locks) (block : List Event) → hold_count hold ≡ count → thread_state_of (record locks { holds = with_hold l hold locks.holds }) block ≡ record (thread_state_of locks block) { counts = with_count l count (λ k. hold_count (hold_in k locks.holds)) }
held_so l hold count locks block e =
    let counts = count_with l hold locks ∙ ap (λ n. with_count l n (λ k. hold_count (hold_in k locks.holds))) e in
    λ i. record { counts = counts i; waiting = waiting_count locks.waiting; block = block }

-- what an act makes of its thread's locks, as what is kept of them
held_is : (request : Request) (reply : Reply) (locks : Locks) (block : List Event) → thread_state_of (locks_by request reply locks) block ≡ counts_after request reply (thread_state_of locks block)
held_is (Enter l level) Done locks block = held_so l (entered level (hold_in l locks.holds)) (Some (suc (unwrap_or (hold_count (hold_in l locks.holds)) 0))) locks block (count_entered level (hold_in l locks.holds))
held_is (Exit l) Done locks block = held_so l (exited (hold_in l locks.holds)) (one_less (hold_count (hold_in l locks.holds))) locks block (count_exited (hold_in l locks.holds))
held_is (Wait l) Done locks block = λ i. record { counts = count_with l None locks i; waiting = Some (count_kept (hold_in l locks.holds) i); block = block }
held_is (Resume l) Done locks block = resumed_is l locks.waiting locks block
held_is request reply locks block = refl

-- an exit ends the block where the lock isn't held after it, be it told by the hold or by how often it is held
exit_ends : (l : LockName) (hold : Option Hold) → is_some (exit_ending l (exited hold)) ≡ is_some (exit_ending l (exited (hold_in l (held_so_often l (hold_count hold)))))
exit_ends l None = refl
exit_ends l (Some hold) = by (eqb hold.count 1) ∙ ap (λ b. is_some (exit_ending l (exited (cond b (Some (record { level = Write; count = hold.count })) None)))) (sym (lock_self l))
  where
    by : (b : Bool) → is_some (exit_ending l (cond b None (Some (record { level = hold.level; count = hold.count - 1 })))) ≡ is_some (exit_ending l (cond b None (Some (record { level = Write; count = hold.count - 1 }))))
    by true = refl
    by false = refl

-- an act is an ending exactly where it ends the block
ends_is : (request : Request) (reply : Reply) (locks : Locks) (block : List Event) → is_some (ending_by request reply locks) ≡ ends_block request reply (thread_state_of locks block)
ends_is (Exit l) Done locks block = exit_ends l (hold_in l locks.holds)
ends_is (Wait l) Done locks block = refl
ends_is (Timeout l) Done locks block = refl
ends_is (End fault) Done locks block = refl
ends_is request reply locks block = refl

-- the block that an ending gives, by whether there is one
block_of : (ending : Option Ending) (block : List Event) (event : Event) → block_if ending (block ++ event ∷ []) ≡ block_ended (is_some ending) event block
block_of None block event = refl
block_of (Some ending) block event = refl

module _ (thread : ThreadId) (request : Request) (reply : Reply) (woken : Option ThreadId) (own : List Entry) where
  -- the event
  abbrev it : Event
  it = Act thread request reply woken

  -- what is kept of its thread after it
  its_hand : thread_state_of (locks_by request reply (locks_of thread own)) (block_after it (locks_of thread own) (open_block thread own)) ≡ thread_state_after request reply it (thread_state_of (locks_of thread own) (open_block thread own))
  its_hand =
      let locks = locks_of thread own in
      let block = open_block thread own in
      let held = held_is request reply locks block in
      let ends = ends_is request reply locks block in
      λ i. record (held i) { block = block_left (ends i) it block }

  -- and of each thread
  each_hand : (t : ThreadId) (b : Bool) → is_act_of t it ≡ b → thread_state_of (cond b (locks_by request reply (locks_of t own)) (locks_of t own)) (cond b (block_after it (locks_of t own) (open_block t own)) (open_block t own))
      ≡ or_old (cond b (Some (thread_state_after request reply it (thread_state_of (locks_of thread own) (open_block thread own)))) None) (thread_state_of (locks_of t own) (open_block t own))
  each_hand t true e = ap (λ u. thread_state_of (locks_by request reply (locks_of u own)) (block_after it (locks_of u own) (open_block u own))) (sym (same_thread t thread e)) ∙ its_hand
  each_hand t false e = refl

  -- the blocks that are ended
  its_block : ended_by it own ≡ block_ended (ends_block request reply (thread_state_of (locks_of thread own) (open_block thread own))) it (open_block thread own)
  its_block = block_of (ending_by request reply (locks_of thread own)) (open_block thread own) it ∙ ap (λ b. block_ended b it (open_block thread own)) (ends_is request reply (locks_of thread own) (open_block thread own))

-- what is kept of a client after an event
event_step : (o : Option Event) (own : List Entry) → record {
  threads = λ t. thread_state_of (by_event (locks_after t) o (locks_of t own)) (by_event (λ event block. cond (is_act_of t event) (block_after event (locks_of t own) block) block) o (open_block t own));
  ended = by_event (λ event blocks. blocks ++ ended_by event own) o (ended_blocks own);
} ≡ by_event client_state_after o (client_state_of own)
event_step None own = refl
event_step (Some (Lost client)) own = λ i. record { threads = (client_state_of own).threads; ended = append-nil (ended_blocks own) i }
event_step (Some (Act thread request reply woken)) own =
    let threads = fun_ext (λ t. each_hand thread request reply woken own t (is_act_of t (Act thread request reply woken)) refl) in
    λ i. record { threads = threads i; ended = ended_blocks own ++ its_block thread request reply woken own i }

-- one more entry of a client
threads_step : (e : Entry) (own : List Entry) → client_state_of (e ∷ own) ≡ by_event client_state_after e.event (client_state_of own)
threads_step e own = event_step e.event own

-- of the clients the one of the entry is changed
clients_step : (c : ℕ) (e : Entry) (es : List Entry) → (λ d. client_state_of (cond (eqb d c) (e ∷ entries_of (Client d) es) (entries_of (Client d) es))) ≡ (pass_state_at_client c e.event (pass_state_of es)).clients
clients_step c e es = fun_ext (λ d. by d (eqb d c) refl)
  where
    by : (d : ℕ) (b : Bool) → eqb d c ≡ b → client_state_of (cond b (e ∷ entries_of (Client d) es) (entries_of (Client d) es)) ≡ or_old (cond b (Some (by_event client_state_after e.event (client_state_of (entries_of (Client c) es)))) None) (client_state_of (entries_of (Client d) es))
    by d true h = ap (λ x. client_state_of (e ∷ entries_of (Client x) es)) (same_number d c h) ∙ threads_step e (entries_of (Client c) es)
    by d false h = refl

-- what an entry of the server gives, whatever the history so far is taken for
pub gives_is : (input : Input) (es : List Entry) (so_far : List Event) → committed_by input es ≡ given_events input (record (pass_state_of es) { history = so_far })
gives_is (input.TookUp c (up.Commit txn)) es so_far = refl
gives_is (input.TookUp c up.IdAsk) es so_far = refl
gives_is (input.TookUp c (up.Fault o)) es so_far = refl
gives_is (input.TookUp c (up.Flushed o)) es so_far = refl
gives_is (input.TookUp c (up.Request l level)) es so_far = refl
gives_is (input.TookUp c (up.Return l threads)) es so_far = refl
gives_is (input.Lose c) es so_far = refl
gives_is (input.Act index) es so_far = refl
gives_is (input.TookDown m) es so_far = refl
gives_is (input.Flush o) es so_far = refl
gives_is (input.Break c) es so_far = refl
gives_is (input.Rejoin c) es so_far = refl

-- the lists of the entries that count
counted_lists : (b : Bool) (e : Entry) (own : List Entry) (l : LockName) → waiters_of l (cond b (counted own) (e ∷ counted own)) ≡ cond b (waiters_of l (counted own)) (list_after l e.input e.sent (waiters_of l (counted own)))
counted_lists true e own l = refl
counted_lists false e own l = refl

-- a loss or an earlier one
lost_either : (a b : Bool) → (a || b) ≡ cond a true b
lost_either true b = refl
lost_either false b = refl

-- whether an input is of a lost client
of_lost : (input : Input) (own : List Entry) → is_of_lost input own ≡ kept_is_of_lost input (λ c. is_lost c own)
of_lost (input.TookUp c m) own = refl
of_lost (input.Lose c) own = refl
of_lost (input.Act index) own = refl
of_lost (input.TookDown m) own = refl
of_lost (input.Flush o) own = refl
of_lost (input.Break c) own = refl
of_lost (input.Rejoin c) own = refl

-- one more entry of the server
lists_step : (e : Entry) (own : List Entry) → server_state_of (e ∷ own) ≡ server_state_after e.input e.sent (server_state_of own)
lists_step e own =
    let lost = fun_ext (λ c. lost_either (loses c e.input) (is_lost c own)) in
    let waiters = fun_ext (λ l. counted_lists (is_of_lost e.input own) e own l ∙ ap (λ b. cond b (waiters_of l (counted own)) (list_after l e.input e.sent (waiters_of l (counted own)))) (of_lost e.input own)) in
    λ i. record { lost = lost i; waiters = waiters i }

-- one more entry, by its node
node_step : (node : Node) (e : Entry) (es : List Entry) → record {
  clients = λ c. client_state_of (cond (is_node (Client c) node) (e ∷ entries_of (Client c) es) (entries_of (Client c) es));
  lists = server_state_of (cond (is_node Server node) (e ∷ entries_of Server es) (entries_of Server es));
  history = committed es ++ committed_at node e.input es;
} ≡ pass_state_after node e.input e.sent e.event (pass_state_of es)
node_step Server e es = λ i. record { clients = (pass_state_of es).clients; lists = lists_step e (entries_of Server es) i; history = committed es ++ gives_is e.input es (committed es) i }
node_step (Client c) e es = λ i. record { clients = clients_step c e es i; lists = (pass_state_of es).lists; history = append-nil (committed es) i }

-- what is kept after one more entry is what the entry makes of it
pub kept_step : (e : Entry) (es : List Entry) → pass_state_of (e ∷ es) ≡ pass_state_after e.node e.input e.sent e.event (pass_state_of es)
kept_step e es = node_step e.node e es
