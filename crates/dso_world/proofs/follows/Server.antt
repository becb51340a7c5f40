-- Entries of the server that may follow a journal: one for each slot, each with what its core and its connections tell.
use Rattle.std.specs.List.{list_any}
use Rattle.std.proofs.Common.{ℕ, suc, ◌≡◌, refl, sym, ◌∙◌, ap, subst, true, false, eqb, Option, List, ◌∷◌}
use Rattle.std.specs.Prelude.{max}
use Rattle.dso_base.specs.declared.journal.Entry.{Entry}
use Rattle.dso_base.specs.declared.journal.Node.TheVariants.{Server}
use Rattle.dso_base.specs.declared.journal.Sent.{Sent}
use Rattle.dso_base.specs.declared.lock.ThreadId.{ThreadId}
use Rattle.dso_base.specs.declared.message.Up.{Up}
use Rattle.dso_base.specs.declared.request.Event.{Event}
use Rattle.dso_base.specs.declared.request.Request.{Request}
use Rattle.dso_law.specs.Settings.{Settings, clients_of}
use Rattle.dso_law.specs.Channels.{IsFirst, Letter, first_clock, is_broken, last_clock, up_in_flight}
use Rattle.dso_law.specs.Entries.{entries_of}
use Rattle.dso_law.specs.ServerReadings.{is_break_due}
use Rattle.dso_law.specs.ServerStep.{ServerStep}
use Rattle.dso_legal.specs.Lawful.{MayFollow}
use Rattle.dso_server.specs.Sending.{broke, lost, rejoined, took}

module _ (p : Settings) (next : ThreadId → List Event → Option Request) (c : ℕ) (es : List Entry) (clock : ℕ) where
  -- The taking of the first message in flight from a client whose connection isn't broken,
  pub took_follows : (letter : Letter Up) (rest : List (Letter Up)) (sent : List Sent) → up_in_flight c es ≡ letter ∷ rest → is_broken c (entries_of Server es) ≡ false
      → clock ≡ suc (max (last_clock Server es) letter.clock) → ServerStep p (took clock c letter.message sent) (entries_of Server es) → MayFollow p next (took clock c letter.message sent) es
  took_follows letter rest sent first whole now step = record {
    channels = subst (IsFirst letter.message) (sym first) refl;
    clocks = now ∙ ap (λ letters. suc (max (last_clock Server es) (first_clock letters))) (sym first);
    rule = record { step = step; connection = whole };
  }

  -- a loss,
  pub lost_follows : (sent : List Sent) → clock ≡ suc (max (last_clock Server es) 0) → ServerStep p (lost clock c sent) (entries_of Server es) → MayFollow p next (lost clock c sent) es
  lost_follows sent now step = record { channels = tt; clocks = now; rule = record { step = step; connection = tt } }

  -- a break where one is due,
  pub broke_follows : list_any (eqb c) (clients_of p) ≡ true → clock ≡ suc (max (last_clock Server es) 0) → is_break_due p c (entries_of Server es) ≡ true → MayFollow p next (broke clock c) es
  broke_follows its now due = record { channels = tt; clocks = now; rule = record { step = record { its = its; due = due; event = refl; sends = refl }; connection = tt } }

  -- and a rejoin where the connection is broken.
  pub rejoined_follows : list_any (eqb c) (clients_of p) ≡ true → clock ≡ suc (max (last_clock Server es) 0) → is_broken c (entries_of Server es) ≡ true → MayFollow p next (rejoined clock c) es
  rejoined_follows its now broken = record { channels = tt; clocks = now; rule = record { step = record { its = its; event = refl; sends = refl }; connection = broken } }
