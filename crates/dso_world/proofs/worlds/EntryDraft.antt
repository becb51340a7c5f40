-- A step is made: the world with one entry more.
use Rattle.std.proofs.Common.{ℕ, ◌+◌, ◌-◌, ◌<◌, ◌^◌, ◌≡◌, ◌↔◌, sym, ◌∙◌, ap, subst, List, [], ◌∷◌, ◌++◌, length, min, reverse, arith}
use Rattle.std.proofs.lemmas.List.{length-reverse, reverse-append}
use Rattle.dso_base.specs.declared.journal.Entry.{Entry}
use Rattle.dso_base.specs.Weight.{entry_weight_of}
use Rattle.dso_class.specs.declared.program.Program.{Program}
use Rattle.dso_gc_law.specs.Lacking.{IsLacked}
use Rattle.dso_legal.specs.Lawful.{IsLawful}
use Rattle.dso_legal.specs.Slots.{weight}
use Rattle.dso_machine.specs.Next.{next_request}
use Rattle.dso_store.specs.Graph.{body_in}
use Rattle.dso_world.specs.declared.step.Step.{Step}
use Rattle.dso_world.specs.declared.world.World.{World}
use Rattle.dso_world.specs.StepUpdates.{Follows}
use Rattle.dso_world.specs.ClientSteps.{IsJournal}
use Rattle.dso_world.specs.NodeSteps.{FollowsAll}
use Rattle.dso_world.specs.WorldSteps.{settings_of, slot_of}
use Rattle.dso_world.specs.WorldStands.{IsMade, IsMakeable, IsSweptIn, WorldPartsStand, entries_in}

-- the newest entry stands first
pub one_more : (old new : World) (entry : Entry) → new.journal.entries ≡ old.journal.entries ++ entry ∷ [] → entry ∷ entries_in old ≡ entries_in new
one_more old new entry more = sym (ap reverse more ∙ reverse-append old.journal.entries (entry ∷ []))

module _ (program : Program) (step : Step) (place : ℕ) (old new : World) (entry : Entry) (can : IsMakeable program step place old) where
  abbrev es : List Entry
  es = entries_in old

  module _ (follows : FollowsAll program (slot_of step) entry old.nodes.server new.nodes (entries_in old)) (open_steps : Follows program new.nodes entry place old.open_steps new.open_steps)
      (heavier : (before : ℕ) → old.weight ≡ min before (2 ^ 64 - 1) → new.weight ≡ min (before + entry_weight_of entry) (2 ^ 64 - 1))
      (more : new.journal.entries ≡ old.journal.entries ++ entry ∷ []) where
    longer : IsJournal program (entry ∷ es)
    longer = record {
      sound = can.journal.sound;
      lawful = follows.lawful;
      few =
          let long : length (entries_in old) ≡ length old.journal.entries = length-reverse old.journal.entries in
          let few : length old.journal.entries < 2 ^ 28 = can.few in
          omega (arith, long, few);
    }

    parts_now : WorldPartsStand program new (entry ∷ es)
    parts_now = record {
      nodes = follows.stands;
      open_steps = open_steps es longer follows.stands can.parts.open_steps (can.at ∙ sym follows.at);
      weight = heavier (weight es) can.parts.weight;
    }

    pub made_so : IsMade program step old new
    made_so = record {
      makes = record { entry = entry; added = more; at = follows.at };
      lawful = subst (IsLawful (settings_of program) (next_request program.code)) (one_more old new entry more) follows.lawful;
      parts = subst (WorldPartsStand program new) (one_more old new entry more) parts_now;
      swept = λ o. subst (λ es. IsLacked (settings_of program) (body_in new.nodes.server.store) es o ↔ IsSweptIn program old o) (one_more old new entry more) (follows.swept o);
    }
