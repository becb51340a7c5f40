-- The law of one client: an entry changes for no thread that it doesn't touch whether it may act. Entries stand with
-- the newest first.
use Rattle.std.specs.Prelude.{ℕ, ◌≡◌, true, false, eqb, Option, List, ◌∷◌}
use Rattle.dso_base.specs.declared.journal.Entry.{Entry}
use Rattle.dso_base.specs.declared.lock.ThreadId.{ThreadId}
use Rattle.dso_base.specs.declared.request.Request.{Request}
use Rattle.dso_law.specs.Settings.{Settings}
use Rattle.dso_law.specs.ClientStep.{may_act}
use Rattle.dso_open_law.specs.TouchedThreads.{acts, touches_thread}

-- the next request of a thread of the client is another after the entry than before it only where the thread acts
abbrev pub OnlyActorsGoOn : ℕ → (before after : ThreadId → Option Request) → Entry → Type 0
OnlyActorsGoOn c before after e = (t : ThreadId) → eqb t.client c ≡ true → acts t e.event ≡ false → after t ≡ before t

-- Others may act as before: whether the client's rule allows or forbids the entry, a thread of the client that it
-- doesn't touch may act after it exactly where it might before.
abbrev pub OthersMayAct : Type 0
OthersMayAct = (p : Settings) (c : ℕ) (before after : ThreadId → Option Request) (e : Entry) (es : List Entry)
    (t : ThreadId)
    → OnlyActorsGoOn c before after e → eqb t.client c ≡ true → touches_thread before after es e t (before t) ≡ false
    → may_act p c after t (e ∷ es) ≡ may_act p c before t es
