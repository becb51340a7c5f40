-- What blocks make: a thread's open block and a client's pending blocks make what their threads' events make, so blocks of
-- different threads make no common id.
use Rattle.std.proofs.Common.{ℕ, ◌≡◌, ◌≢◌, ◌⊎◌, inl, inr, refl, sym, ◌∙◌, ap, subst, Bool, true, false, List, [], ◌∷◌, ◌++◌}
use Rattle.std.specs.Prelude.{Some}
use Rattle.std.proofs.lemmas.List.{append_assoc, take-append-drop}
use Rattle.dso_base.specs.declared.journal.Entry.{Entry}
use Rattle.dso_base.specs.declared.journal.Node.TheVariants.{Server, Client}
use Rattle.dso_base.specs.declared.lock.ThreadId.{ThreadId}
use Rattle.dso_base.specs.declared.message.Up.{Up}
use Rattle.dso_base.specs.declared.message.Up.TheVariants as up
use Rattle.dso_base.specs.declared.request.Event.{Event}
use Rattle.dso_base.specs.declared.shape.Shape.{Shape}
use Rattle.dso_base.specs.Following.{is_thread}
use Rattle.dso_plain.specs.State.{PlainState}
use Rattle.dso_plain.specs.History.{end_of, is_act_of, events_of, last_state}
use Rattle.dso_plain.specs.Touches.{MakesIn, NoCommonId}
use Rattle.dso_plain.proofs.keys.SameKeys.{same_thread}
use Rattle.dso_plain.proofs.histories.LegalGoesOn.{events_in_parts}
use Rattle.dso_law.specs.Settings.{Settings}
use Rattle.dso_law.specs.Entries.{entries_of, by_event, add_event, events_in}
use Rattle.dso_law.specs.Channels.{up_in_flight}
use Rattle.dso_law.specs.ServerReadings.{counted}
use Rattle.dso_law.specs.Granting.{standing_with}
use Rattle.dso_law.specs.Threads.{open_block}
use Rattle.dso_legal.specs.Agreement.{messages}
use Rattle.dso_legal.specs.Committed.{ended_blocks}
use Rattle.dso_legal.specs.AsMade.{as_made}
use Rattle.dso_legal.specs.Line.{Standings, standings_up, Line}
use Rattle.dso_legal.specs.MadeOnce.{MadeOnce}
use Rattle.dso_legal.specs.PendingBlocks.{joined, handed_in, taken_in, pending}
use Rattle.dso_legal.proofs.blocks.ClientBlocks.{joined_parts, keeps_thread, own_events}
use Rattle.dso_legal.proofs.leases.LeaseSteps.{if_true}
use Rattle.dso_legal.proofs.line.LineForeign.{clients_apart, makes_first, makes_second}
use Rattle.dso_legal.proofs.line.LineElsewhere.{LineStands}

-- another thread is told from this one
pub thread_told : (t u : ThreadId) → u ≢ t → is_thread t u ≡ false
thread_told t u ne = by (is_thread t u) refl
  where
    by : (b : Bool) → is_thread t u ≡ b → b ≡ false
    by true e = absurd (ne (same_thread t u e))
    by false e = refl

-- what two lists make one of them makes
pub makes_either : (xs ys : List Event) (id : ℕ) → MakesIn (xs ++ ys) id → MakesIn xs id ⊎ MakesIn ys id
makes_either [] ys id made = inr made
makes_either (e ∷ xs) ys id (inl made) = inl (inl made)
makes_either (e ∷ xs) ys id (inr made) = elim (makes_either xs ys id made) [
  | inl first ↦ inl (inr first)
  | inr second ↦ inr second
]

-- what a thread's open block makes its events make
pub open_makes : (shape : Shape) (t : ThreadId) (own : List Entry) (id : ℕ) → MakesIn (open_block t own) id → MakesIn (events_in t own) id
open_makes shape t own id made = subst (λ events. MakesIn events id) (keeps_thread shape t own).events (makes_second (events_of t (joined (ended_blocks own))) (open_block t own) id made)

-- so does the open block with one more act of the thread
pub act_makes : (shape : Shape) (t : ThreadId) (e : Entry) (own : List Entry) (event : Event) → e.event ≡ Some event → is_act_of t event ≡ true → (id : ℕ) → MakesIn (open_block t own ++ event ∷ []) id → MakesIn (events_in t (e ∷ own)) id
act_makes shape t e own event is mine id made =
    let before : List Event = events_of t (joined (ended_blocks own)) in
    let now : events_in t (e ∷ own) ≡ before ++ (open_block t own ++ event ∷ []) =
    ap (λ event. by_event (add_event t) event (events_in t own)) is ∙ if_true (is_act_of t event) (events_in t own ++ event ∷ []) (events_in t own) mine
    ∙ ap (λ events. events ++ event ∷ []) (sym (keeps_thread shape t own).events) ∙ append_assoc before (open_block t own) (event ∷ []) in
    subst (λ events. MakesIn events id) (sym now) (makes_second before (open_block t own ++ event ∷ []) id made)

-- different threads of clients make no common id
pub threads_apart : (es : List Entry) → MadeOnce es → (c d : ℕ) (t u : ThreadId) → t.client ≡ c → u.client ≡ d → is_thread t u ≡ false
    → NoCommonId (MakesIn (events_in t (entries_of (Client c) es))) (MakesIn (events_in u (entries_of (Client d) es)))
threads_apart es once c d t u its others apart =
    subst (λ n. NoCommonId (MakesIn (events_in t (entries_of (Client n) es))) (MakesIn (events_in u (entries_of (Client d) es)))) its
    (subst (λ n. NoCommonId (MakesIn (events_in t (entries_of (Client t.client) es))) (MakesIn (events_in u (entries_of (Client n) es)))) others (once.apart t u apart))

-- a thread of the client makes the id among these events
record MadeByThread (c : ℕ) (events : List Event) (id : ℕ) : Type 0 where
  thread : ThreadId
  its : thread.client ≡ c
  makes : MakesIn (events_of thread events) id

-- more events before those of the thread
made_later : (c : ℕ) (first second : List Event) (id : ℕ) → MadeByThread c second id → MadeByThread c (first ++ second) id
made_later c first second id made = record {
  thread = made.thread;
  its = made.its;
  makes = subst (λ events. MakesIn events id) (sym (events_in_parts made.thread first second)) (makes_second (events_of made.thread first) (events_of made.thread second) id made.makes);
}

-- and behind them
made_before : (c : ℕ) (first second : List Event) (id : ℕ) → MadeByThread c first id → MadeByThread c (first ++ second) id
made_before c first second id made = record {
  thread = made.thread;
  its = made.its;
  makes = subst (λ events. MakesIn events id) (sym (events_in_parts made.thread first second)) (makes_first (events_of made.thread first) (events_of made.thread second) id made.makes);
}

-- what the blocks of a client's line make a thread of the client makes
line_makes : (shape : Shape) (c id : ℕ) (ms : List Up) (blocks : List (List Event)) (st : Standings) (s : PlainState) → Line shape c ms blocks st s → MakesIn (joined blocks) id → MadeByThread c (joined blocks) id
line_makes shape c id [] [] st s line made = absurd made
line_makes shape c id [] (block ∷ blocks) st s line made = absurd line
line_makes shape c id (up.Commit txn ∷ ms) [] st s line made = absurd line
line_makes shape c id (up.Commit txn ∷ ms) (block ∷ blocks) st s line made = elim (makes_either block (joined blocks) id made) [
  | inl first ↦ made_before c block (joined blocks) id (record { thread = txn.thread; its = line.1.its; makes = subst (λ events. MakesIn events id) (sym (own_events txn.thread block line.1.acts)) first })
  | inr second ↦ made_later c block (joined blocks) id (line_makes shape c id ms blocks st (end_of shape block s) line.2 second)
]
line_makes shape c id (m ∷ ms) blocks st s line made = line_makes shape c id ms blocks (standings_up m st) s line.1 made

module _ (p : Settings) (es : List Entry) where
  -- what a client's pending blocks make the events of a thread of the client make
  pub record MadeByClient (c id : ℕ) : Type 0 where
    pub thread : ThreadId
    pub its : thread.client ≡ c
    pub makes : MakesIn (events_in thread (entries_of (Client c) es)) id

  pub pending_makes : (c id : ℕ) → LineStands p c es → MakesIn (joined (pending c es)) id → MadeByClient c id
  pending_makes c id line made =
      let own : List Entry = entries_of (Client c) es in
      let it = line_makes p.shape c id (messages (up_in_flight c es)) (pending c es) (λ l. standing_with c l (counted (entries_of Server es))) (last_state p.shape (as_made es)) line made in
      let ended : joined (taken_in c es) ++ joined (pending c es) ≡ joined (ended_blocks own) = sym (joined_parts (taken_in c es) (pending c es)) ∙ ap joined (take-append-drop (handed_in c es) (ended_blocks own)) in
      let among = made_later c (joined (taken_in c es)) (joined (pending c es)) id it in
      record {
        thread = among.thread;
        its = among.its;
        makes = subst (λ events. MakesIn events id) (keeps_thread p.shape among.thread own).events
            (makes_first (events_of among.thread (joined (ended_blocks own))) (open_block among.thread own) id (subst (λ events. MakesIn (events_of among.thread events) id) ended among.makes));
      }

  module _ (once : MadeOnce es) (c d : ℕ) (apart : c ≢ d) (other : LineStands p d es) where
    -- threads of the two clients are different
    client_threads : (t u : ThreadId) → u.client ≡ d → t.client ≡ c → is_thread u t ≡ false
    client_threads t u theirs its = thread_told u t (clients_apart d u t theirs (λ same. apart (sym its ∙ same)))

    -- The pending blocks of different clients make no common id.
    pub pending_apart : LineStands p c es → NoCommonId (MakesIn (joined (pending d es))) (MakesIn (joined (pending c es)))
    pending_apart line id made too =
        let theirs = pending_makes d id other made in
        let its = pending_makes c id line too in
        threads_apart es once d c theirs.thread its.thread theirs.its its.its (client_threads its.thread theirs.thread theirs.its its.its) id theirs.makes its.makes

    -- Nor do a client's pending blocks and another client's open block.
    pub open_apart : (t : ThreadId) → t.client ≡ c → NoCommonId (MakesIn (joined (pending d es))) (MakesIn (open_block t (entries_of (Client c) es)))
    open_apart t its id made too =
        let theirs = pending_makes d id other made in
        threads_apart es once d c theirs.thread t theirs.its its (client_threads t theirs.thread theirs.its its) id theirs.makes (open_makes p.shape t (entries_of (Client c) es) id too)
