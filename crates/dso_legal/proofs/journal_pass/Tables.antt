-- What is changed in the tables of the pass is changed in what they stand for.
use Rattle.std.proofs.Common.{ℕ, ◌≡◌, inl, inr, refl, sym, ◌∙◌, ap, Bool, true, false, cond, eqb, ◌&&◌, Option, Some, None, OnOk, Result, Ok, Err, List, ◌++◌}
use Rattle.std.proofs.lemmas.Bool.Decides.{eqb_tells}
use Rattle.std.specs.declared.cmp.Ordering.{Ordering}
use Rattle.std.proofs.Math.Path.{fun_ext}
use Rattle.std.specs.BTreeMap.{BTreeMap, is_at}
use Rattle.dso_base.specs.declared.lock.LockName.{LockName}
use Rattle.dso_base.specs.declared.lock.ThreadId.{ThreadId}
use Rattle.dso_base.specs.declared.lock.LockName.TheVariants.{Mon, Name}
use Rattle.dso_base.specs.declared.request.Event.{Event}
use Rattle.dso_base.specs.declared.request.Event.TheVariants.{Act}
use Rattle.dso_base.specs.declared.request.Reply.{Reply}
use Rattle.dso_base.specs.declared.request.Request.{Request}
use Rattle.dso_base.specs.Following.{is_thread}
use Rattle.dso_plain.specs.KeyTests.{is_lock}
use Rattle.dso_lookup.specs.Maps.{writes, or_old, written, look}
use Rattle.dso_lookup.specs.Orders.{lock_order, thread_order}
use Rattle.dso_plain.proofs.keys.TableOrders.{lock_at, thread_at}
use Rattle.dso_plain.proofs.keys.Writes.{through, renamed}
use Rattle.dso_legal.specs.JournalPass.{ThreadState, ClientState, with_count, ends_block, block_ended, thread_state_after, client_state_after}
use Rattle.dso_legal.specs.JournalPassTables.{no_thread_state, thread_state_in, thread_state_at, threads_in, client_state_in}
use Rattle.dso_legal.specs.declared.threads.ThreadState as table_thread
use Rattle.dso_legal.specs.declared.threads.ClientState as table_client

-- a count that is put, or taken out
pub count_put : (l : LockName) (count waiting : Option ℕ) (block : List Event) (old new : BTreeMap LockName ℕ) → look lock_order new ≡ written (writes (is_at (lock_order l)) (λ _. count)) (look lock_order old)
    → let before : ThreadState = record { counts = look lock_order old; waiting = waiting; block = block } in
    let after : ThreadState = record { counts = look lock_order new; waiting = waiting; block = block } in
    after ≡ record before { counts = with_count l count (look lock_order old) }
count_put l count waiting block old new e = λ i. record { counts = renamed (is_at (lock_order l)) (is_lock l) count (look lock_order old) (look lock_order new) (lock_at l) e i; waiting = waiting; block = block }

-- two numbers are told apart either way
pub flipped : (a b : ℕ) → eqb a b ≡ eqb b a
flipped a b = elim (eqb_tells a b) [
  | inl h ↦ elim (eqb_tells b a) [
    | inl g ↦ h.0 ∙ sym g.0
    | inr g ↦ absurd (g.1 (sym h.1))
  ]
  | inr h ↦ elim (eqb_tells b a) [
    | inl g ↦ absurd (h.1 (sym g.1))
    | inr g ↦ h.0 ∙ sym g.0
  ]
]

-- and so are two threads
pub turned : (t u : ThreadId) → is_thread t u ≡ is_thread u t
turned t u = λ i. flipped u.client t.client i && flipped u.index t.index i

-- and two locks
pub lock_turned : (l k : LockName) → is_lock l k ≡ is_lock k l
lock_turned (Mon o) (Mon p) = flipped p o
lock_turned (Name n) (Name m) = flipped m n
lock_turned (Mon o) (Name m) = refl
lock_turned (Name n) (Mon p) = refl

-- what stands at a key is taken out and put back changed: seen through a function, it is written there
pub row_changed : {K V W : Type 0} (R : K → K → Ordering) (g : Option V → W) (key : K) (test : K → Bool) (old mid new : BTreeMap K V) (value : V) (w : W) → ((k : K) → is_at (R key) k ≡ test k)
    → look R mid ≡ written (writes (is_at (R key)) (λ _. None)) (look R old) → look R new ≡ written (writes (is_at (R key)) (λ _. Some value)) (look R mid) → g (Some value) ≡ w
    → (λ k. g (look R new k)) ≡ written (writes test (λ _. w)) (λ k. g (look R old k))
row_changed {K} R g key test old mid new value w same gone puts e = fun_ext (λ k. ap (λ f. g (f k)) puts ∙ (ap (λ f. g (or_old (cond (is_at (R key) k) (Some (Some value)) None) (f k))) gone ∙ (ap (λ b. g (or_old (cond b (Some (Some value)) None) (or_old (cond b (Some None) None) (look R old k)))) (same k) ∙ by k (test k))))
  where
    by : (k : K) (b : Bool) → g (or_old (cond b (Some (Some value)) None) (or_old (cond b (Some None) None) (look R old k))) ≡ or_old (cond b (Some w) None) (g (look R old k))
    by k true = e
    by k false = refl

-- what follows where a call succeeded
pub on_ok : {T E A B : Type 0} (r : Result T E) → (A → B) → OnOk r A → OnOk r B
on_ok (Ok x) f a = f a
on_ok (Err e) f a = tt

-- what is kept of a thread that is there
pub hand_there : (t : ThreadId) (table : BTreeMap ThreadId table_thread.ThreadState) (state : table_thread.ThreadState) → Some state ≡ look thread_order table t → thread_state_in state ≡ threads_in table t
hand_there t table state found = ap thread_state_at found

-- and of one that isn't
pub no_hand : (t : ThreadId) (table : BTreeMap ThreadId table_thread.ThreadState) (state : table_thread.ThreadState) → None ≡ look thread_order table t → thread_state_in state ≡ no_thread_state → thread_state_in state ≡ threads_in table t
no_hand t table state absent is = is ∙ ap thread_state_at absent

-- an act of a thread, where what it makes of what was kept of the thread is written in the table
pub hand_taken : (t : ThreadId) (request : Request) (reply : Reply) (event : Event) (old new : BTreeMap ThreadId table_thread.ThreadState) (was state : table_thread.ThreadState)
    → thread_state_in was ≡ threads_in old t → look thread_order new ≡ written (writes (is_at (thread_order t)) (λ _. Some state)) (look thread_order old)
    → thread_state_in state ≡ thread_state_after request reply event (thread_state_in was)
    → threads_in new ≡ written (writes (λ u. is_thread u t) (λ _. thread_state_after request reply event (threads_in old t))) (threads_in old)
hand_taken t request reply event old new was state is puts takes =
    let held : thread_state_in state ≡ thread_state_after request reply event (threads_in old t) = takes ∙ ap (λ hand. thread_state_after request reply event hand) is in
    through thread_state_at (is_at (thread_order t)) (λ u. is_thread u t) (Some state) (look thread_order old) (look thread_order new) (λ u. thread_at t u ∙ turned t u) puts ∙ ap (λ hand. written (writes (λ u. is_thread u t) (λ _. hand)) (threads_in old)) held

-- and the block that it ends
pub block_taken : (t : ThreadId) (request : Request) (reply : Reply) (event : Event) (old : BTreeMap ThreadId table_thread.ThreadState) (was : table_thread.ThreadState) (blocks : List (List Event)) → thread_state_in was ≡ threads_in old t
    → blocks ≡ block_ended (ends_block request reply (thread_state_in was)) event (thread_state_in was).block → blocks ≡ block_ended (ends_block request reply (threads_in old t)) event (threads_in old t).block
block_taken t request reply event old was blocks is ends = ends ∙ ap (λ hand. block_ended (ends_block request reply hand) event hand.block) is

-- and what that makes of what is kept of the client, where the event is the act
pub client_taken : (t : ThreadId) (request : Request) (reply : Reply) (woken : Option ThreadId) (event : Event) (old : table_client.ClientState) (new : BTreeMap ThreadId table_thread.ThreadState) (ended more : List (List Event))
    → Act t request reply woken ≡ event
    → threads_in new ≡ written (writes (λ u. is_thread u t) (λ _. thread_state_after request reply event (threads_in old.threads t))) (threads_in old.threads)
    → more ≡ block_ended (ends_block request reply (threads_in old.threads t)) event (threads_in old.threads t).block → ended ≡ old.ended ++ more
    → let after : ClientState = record { threads = threads_in new; ended = ended } in
    after ≡ client_state_after event (client_state_in old)
client_taken t request reply woken event old new ended more is threads ends stands =
    let hand : ThreadState = threads_in old.threads t in
    let with_event : Event → ClientState = λ e. record { threads = written (writes (λ u. is_thread u t) (λ _. thread_state_after request reply e hand)) (threads_in old.threads); ended = old.ended ++ block_ended (ends_block request reply hand) e hand.block } in
    let after : ClientState = record { threads = threads_in new; ended = ended } in
    let blocks = stands ∙ ap (λ x. old.ended ++ x) ends in
    let taken : after ≡ with_event event = λ i. record { threads = threads i; ended = blocks i } in
    taken ∙ (ap with_event (sym is) ∙ ap (λ e. client_state_after e (client_state_in old)) is)
