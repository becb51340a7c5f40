-- The pass over a journal, entry by entry.
use Rattle.std.proofs.Common.{ℕ, ◌+◌, ◌-◌, ◌^◌, ◌<◌, ◌≡◌, refl, sym, ◌∙◌, ap, subst, eqb, Option, Some, None, List, [], ◌++◌, length, take, reverse, get_or}
use Rattle.std.specs.BTreeMap.{BTreeMap, is_at}
use Rattle.std.specs.Ordering.{nat_cmp}
use Rattle.dso_base.specs.declared.journal.Entry.{Entry}
use Rattle.dso_base.specs.declared.journal.Input.{Input}
use Rattle.dso_base.specs.declared.journal.Node.{Node}
use Rattle.dso_base.specs.declared.journal.Node.TheVariants.{Server, Client}
use Rattle.dso_base.specs.declared.journal.Sent.{Sent}
use Rattle.dso_base.specs.declared.request.Event.{Event}
use Rattle.dso_lookup.specs.Maps.{written, writes, look}
use Rattle.dso_lookup.proofs.Tests.{number_at}
use Rattle.dso_plain.proofs.keys.Writes.{through}
use Rattle.dso_law.specs.Entries.{entries_of}
use Rattle.dso_law.specs.Threads.{hold_in, locks_of}
use Rattle.dso_law.proofs.client.HoldCounts.{counts_fit}
use Rattle.dso_law.proofs.Lists.{one_newer}
use Rattle.dso_legal.specs.Committed.{committed_at, committed}
use Rattle.dso_legal.specs.JournalPass.{PassState, client_state_after, pass_state_of, pass_state_after, given_at, without_history, AllCountsFit}
use Rattle.dso_legal.specs.JournalPassTables.{no_client_state, client_state_in, client_state_at, clients_in}
use Rattle.dso_legal.specs.declared.threads.ClientState as table_client
use Rattle.dso_legal.proofs.journal_pass.OneEntry.{count_kept, gives_is, kept_step}

-- what is kept of a client that is there
pub client_there : (c : ℕ) (table : BTreeMap ℕ table_client.ClientState) (threads : table_client.ClientState) → Some threads ≡ look nat_cmp table c → client_state_in threads ≡ clients_in table c
client_there c table threads found = ap client_state_at found

-- and of one that isn't
pub no_client : (c : ℕ) (table : BTreeMap ℕ table_client.ClientState) (threads : table_client.ClientState) → None ≡ look nat_cmp table c → client_state_in threads ≡ no_client_state → client_state_in threads ≡ clients_in table c
no_client c table threads absent is = is ∙ ap client_state_at absent

-- an event of a client, where what it makes of what was kept of the client is written in the table
pub event_kept : (c : ℕ) (event : Event) (old new : BTreeMap ℕ table_client.ClientState) (was threads : table_client.ClientState)
    → client_state_in was ≡ clients_in old c → look nat_cmp new ≡ written (writes (is_at (nat_cmp c)) (λ _. Some threads)) (look nat_cmp old) → client_state_in threads ≡ client_state_after event (client_state_in was)
    → clients_in new ≡ written (writes (λ d. eqb d c) (λ _. client_state_after event (clients_in old c))) (clients_in old)
event_kept c event old new was threads is puts takes =
    let held : client_state_in threads ≡ client_state_after event (clients_in old c) = takes ∙ ap (λ state. client_state_after event state) is in
    through client_state_at (is_at (nat_cmp c)) (λ d. eqb d c) (Some threads) (look nat_cmp old) (look nat_cmp new) (λ d. number_at c d) puts ∙ ap (λ state. written (writes (λ d. eqb d c) (λ _. state)) (clients_in old)) held

-- the counts that are kept are of fewer entries than a journal may have
pub kept_fits : (entries : List Entry) (i : ℕ) → i < length entries → length entries < 2 ^ 64 → AllCountsFit (pass_state_of (reverse (take i entries)))
kept_fits entries i less short = λ c t l.
    let locks = locks_of t (entries_of (Client c) (reverse (take i entries))) in
    subst (λ n. n < 2 ^ 64 - 1) (count_kept (hold_in l locks.holds)) (counts_fit t (Client c) entries i locks refl less short l)

-- what an entry makes of what is kept doesn't read the history
unread : (node : Node) (input : Input) (sent : List Sent) (event : Option Event) (kept : PassState) → without_history (pass_state_after node input sent event (without_history kept)) ≡ without_history (pass_state_after node input sent event kept)
unread Server input sent event kept = refl
unread (Client c) input sent event kept = refl

-- one more entry was taken in
pub entry_taken : (entries : List Entry) (i : ℕ) (e : Entry) (before after : PassState) → i < length entries → e ≡ get_or entries i e → before ≡ without_history (pass_state_of (reverse (take i entries))) → after ≡ without_history (pass_state_after e.node e.input e.sent e.event before)
    → after ≡ without_history (pass_state_of (reverse (take (i + 1) entries)))
entry_taken entries i e before after less item was takes =
    let es = reverse (take i entries) in
    takes ∙ (ap (λ kept. without_history (pass_state_after e.node e.input e.sent e.event kept)) was ∙ (unread e.node e.input e.sent e.event (pass_state_of es) ∙ (ap without_history (sym (kept_step e es)) ∙ sym (ap (λ all. without_history (pass_state_of all)) (one_newer entries i e less item)))))

-- what an entry gives
gives_at : (node : Node) (input : Input) (es : List Entry) → committed_at node input es ≡ given_at node input (without_history (pass_state_of es))
gives_at Server input es = gives_is input es []
gives_at (Client c) input es = refl

-- and the history with what it gave
pub entry_given : (entries : List Entry) (i : ℕ) (e : Entry) (before : PassState) (given : List Event) → i < length entries → e ≡ get_or entries i e → before ≡ without_history (pass_state_of (reverse (take i entries))) → given ≡ given_at e.node e.input before
    → committed (reverse (take (i + 1) entries)) ≡ committed (reverse (take i entries)) ++ given
entry_given entries i e before given less item was gives =
    let es = reverse (take i entries) in
    ap committed (one_newer entries i e less item) ∙ ap (λ more. committed es ++ more) (gives_at e.node e.input es ∙ (ap (λ kept. given_at e.node e.input kept) (sym was) ∙ sym gives))
