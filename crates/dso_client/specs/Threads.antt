-- What a client tells of its threads.
use Rattle.std.specs.List.{list_any}
use Rattle.std.specs.Prelude.{◌≡◌, ℕ, Bool, true, false, ltb, is_some, count_by, Option, List}
use Rattle.dso_base.specs.declared.journal.Entry.{Entry}
use Rattle.dso_base.specs.declared.request.Request.{Request}
use Rattle.dso_base.specs.Following.{is_thread}
use Rattle.dso_law.specs.Settings.{Settings, threads_of}
use Rattle.dso_law.specs.ClientRun.{next_in}
use Rattle.dso_law.specs.ClientStep.{may_act}
use Rattle.dso_machine.specs.declared.code.Code.{Code}
use Rattle.dso_machine.specs.Next.{next_request}
use Rattle.dso_client.specs.declared.client_state.ClientState.{ClientState}
use Rattle.dso_client.specs.ClientStands.{ClientStands, point}
use Rattle.dso_client.specs.Openings.{thread_at}
use Rattle.dso_client.specs.RunFacts.{SizesAreKept}

-- The answer tells, whatever entries the client stands for whose sizes are kept, whether the client rule has an act of
-- its thread of this index behind them.
abbrev pub IsEnabled : ClientState → ℕ → Bool → Type 0
IsEnabled kept index answer = (code : Code) (p : Settings) (c : ℕ) (es : List Entry) → ClientStands code p c kept es
    → SizesAreKept (point code p c es)
    → list_any (is_thread (thread_at c index)) (threads_of p c) ≡ true
    → answer ≡ may_act p c (next_in (next_request code) es) (thread_at c index) es

-- The request is, whatever entries the client stands for, the next one of its thread of this index behind them; None
-- where that has ended.
abbrev pub IsNextRequest : ClientState → ℕ → Option Request → Type 0
IsNextRequest kept index request =
    (code : Code) (p : Settings) (c : ℕ) (es : List Entry) → ClientStands code p c kept es
    → list_any (is_thread (thread_at c index)) (threads_of p c) ≡ true
    → request ≡ next_in (next_request code) es (thread_at c index)

-- the number is that of the client's threads that have a next request
abbrev pub TellsAlive : ClientState → ℕ → Type 0
TellsAlive kept n = (code : Code) (p : Settings) (c : ℕ) (es : List Entry) → ClientStands code p c kept es
    → n ≡ count_by (λ t. is_some (next_in (next_request code) es t)) (threads_of p c)

-- the answer tells whether one of the client's threads has a next request
pub record TellsGoing (kept : ClientState) (answer : Bool) : Type 0 where
  pub alive : ℕ
  pub threads : TellsAlive kept alive
  pub is : answer ≡ ltb 0 alive

-- this holds where the client, whatever entries it stands for, has no thread of this index
abbrev pub WhereAbsent : ClientState → ℕ → Type 0 → Type 0
WhereAbsent kept index claim = (code : Code) (p : Settings) (c : ℕ) (es : List Entry) → ClientStands code p c kept es
    → list_any (is_thread (thread_at c index)) (threads_of p c) ≡ false
    → claim
