-- A client's batches of ids come as they are asked for, each above those before it.
use Rattle.std.specs.List.{AllByRecursion}
use Rattle.std.specs.Prelude.{ℕ, ◌+◌, ◌≤◌, ◌≡◌, Bool, true, false, cond, eqb, Option, List, [], ◌∷◌}
use Rattle.dso_base.specs.declared.journal.Entry.{Entry}
use Rattle.dso_base.specs.declared.journal.Node.TheVariants.{Server, Client}
use Rattle.dso_base.specs.declared.lock.ThreadId.{ThreadId}
use Rattle.dso_base.specs.declared.message.Down.{Down}
use Rattle.dso_base.specs.declared.message.Down.TheVariants as down
use Rattle.dso_base.specs.declared.message.Up.{Up}
use Rattle.dso_base.specs.declared.message.Up.TheVariants as up
use Rattle.dso_base.specs.declared.request.Event.{Event}
use Rattle.dso_base.specs.declared.request.Request.{Request}
use Rattle.dso_law.specs.Settings.{Settings, batch_size}
use Rattle.dso_law.specs.Entries.{entries_of, by_sent_down}
use Rattle.dso_law.specs.Channels.{up_in_flight, down_in_flight, IsFirst}
use Rattle.dso_law.specs.Records.{batches_by_taken, batches, batch_asked_by_taken, batch_asked_by_sent, is_batch_asked}
use Rattle.dso_law.specs.ServerReadings.{is_lost, counted}
use Rattle.dso_legal.specs.Agreement.{messages, Agree}
use Rattle.dso_legal.specs.Lawful.{IsLawful}
use Rattle.dso_legal.specs.Numbered.{Always, unchanged}

-- an ask for ids may come where none is asked for
abbrev pub MayAskIds : Up → Bool → Type 0
MayAskIds up.IdAsk is_asked = is_asked ≡ false
MayAskIds m is_asked = Unit {0}

-- ids may come where they are asked for
abbrev pub MayGiveIds : Down → Bool → Type 0
MayGiveIds (down.Ids first) is_asked = is_asked ≡ true
MayGiveIds m is_asked = Unit {0}

-- each batch begins above the ids of those before it
abbrev pub IsAbove : Down → List ℕ → Type 0
IsAbove (down.Ids first) before = (1 ≤ first) × AllByRecursion (λ b. b + batch_size ≤ first) before
IsAbove m before = Unit {0}

-- a batch sent to the client stands at the end
abbrev pub given_by : ℕ → ℕ → Down → List ℕ → List ℕ
given_by c d m given = cond (eqb c d) (batches_by_taken m given) given

-- the first ids of the batches that the server gave the client, in order
abbrev pub given_to : ℕ → List Entry → List ℕ
given_to c [] = []
given_to c (e ∷ es) = by_sent_down (given_by c) e.sent (given_to c es)

-- The batches of a client, in flight and at both ends: each in flight was asked for; and those that the server gave
-- are those that the client has and behind them those in flight, each above those before it.
pub record BatchesInOrder (c : ℕ) (es : List Entry) : Type 0 where
  pub asked : Agree MayAskIds batch_asked_by_sent MayGiveIds batch_asked_by_taken (messages (up_in_flight c es))
      (messages (down_in_flight c es))
      false (is_batch_asked (entries_of (Client c) es))
  pub above : Agree Always unchanged IsAbove batches_by_taken (messages (up_in_flight c es))
      (messages (down_in_flight c es))
      (given_to c (counted (entries_of Server es))) (batches (entries_of (Client c) es))

-- In a lawful journal the batches of each client that isn't lost are so.
abbrev pub BatchesStayInOrder : Type 0
BatchesStayInOrder = (p : Settings) (next : ThreadId → List Event → Option Request) (es : List Entry)
    → IsLawful p next es
    → (c : ℕ) → is_lost c (entries_of Server es) ≡ false → BatchesInOrder c es

-- a batch that is the first in flight to the client was asked for, and is above those that the client has
pub record BatchFits (c : ℕ) (m : Down) (es : List Entry) : Type 0 where
  pub asked : MayGiveIds m (is_batch_asked (entries_of (Client c) es))
  pub above : IsAbove m (batches (entries_of (Client c) es))

-- In a lawful journal, for each client that isn't lost, a batch that comes does.
abbrev pub BatchesFit : Type 0
BatchesFit = (p : Settings) (next : ThreadId → List Event → Option Request) (es : List Entry) → IsLawful p next es
    → (c : ℕ) → is_lost c (entries_of Server es) ≡ false → (m : Down) → IsFirst m (down_in_flight c es)
    → BatchFits c m es
