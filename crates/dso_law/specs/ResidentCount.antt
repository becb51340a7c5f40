-- How many objects are resident at a client.
use Rattle.std.specs.Prelude.{ℕ, suc, ◌-◌, Bool, true, false, cond, eqb, List, [], ◌∷◌, fold}
use Rattle.dso_base.specs.declared.journal.Entry.{Entry}
use Rattle.dso_base.specs.declared.journal.Input.{Input}
use Rattle.dso_base.specs.declared.journal.Input.TheVariants.{Flush}
use Rattle.dso_base.specs.declared.message.Down.{Down}
use Rattle.dso_base.specs.declared.message.Down.TheVariants as down
use Rattle.dso_base.specs.declared.message.Up.{Up}
use Rattle.dso_base.specs.declared.message.Up.TheVariants as up
use Rattle.dso_law.specs.Entries.{by_taken_down, by_sent_up}

-- which objects are there, and how many
pub record Presence : Type 0 where
  pub has : ℕ → Bool
  pub count : ℕ

-- one object comes: it counts where it wasn't there
abbrev pub come : Presence → ℕ → Presence
come s o = record { has = λ x. cond (eqb o x) true (s.has x); count = cond (s.has o) s.count (suc s.count) }

-- one object goes: it counts no more where it was there
abbrev pub gone : Presence → ℕ → Presence
gone s o = record { has = λ x. cond (eqb o x) false (s.has x); count = cond (s.has o) (s.count - 1) s.count }

-- an object that is taken comes
abbrev pub presence_by_taken : Down → Presence → Presence
presence_by_taken (down.Object body) s = come s body.object
presence_by_taken m s = s

-- so does each that a record sent publishes
abbrev pub presence_by_sent : Up → Presence → Presence
presence_by_sent (up.Commit txn) s = fold (λ s body. come s body.object) s txn.news
presence_by_sent m s = s

-- a flush drops its object
abbrev pub presence_by_flush : Input → Presence → Presence
presence_by_flush (Flush o) s = gone s o
presence_by_flush input s = s

-- which objects are resident, and how many
abbrev pub presence : List Entry → Presence
presence [] = record { has = λ o. false; count = 0 }
presence (e ∷ es) = presence_by_flush e.input
    (by_sent_up presence_by_sent e.sent (by_taken_down presence_by_taken e.input (presence es)))

-- how many objects are resident
abbrev pub resident_count : List Entry → ℕ
resident_count es = (presence es).count
