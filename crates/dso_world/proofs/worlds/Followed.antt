-- The open steps is followed by an entry.
use Rattle.std.proofs.Common.{ℕ, ◌+◌, ◌<◌, ◌≡◌, ◌≢◌, inl, inr, sym, ◌∙◌, ap, Bool, Option, Some, None, List, ◌∷◌, length, slice_get, AllPairs, arith}
use Rattle.std.proofs.lemmas.List.{length-map}
use Rattle.std.proofs.lemmas.Option.{slice_get-get_or}
use Rattle.dso_base.specs.declared.journal.Entry.{Entry}
use Rattle.dso_base.specs.declared.lock.ThreadId.{ThreadId}
use Rattle.dso_class.specs.declared.program.Program.{Program}
use Rattle.dso_class.specs.Sound.{IsSoundProgram}
use Rattle.dso_class.specs.TextProgram.{IsThreadBefore}
use Rattle.dso_legal.specs.Slots.{Slot, TakesDown, is_open, slots}
use Rattle.dso_machine.specs.Next.{next_request}
use Rattle.dso_world.specs.declared.open_steps.OpenSteps.{OpenSteps}
use Rattle.dso_world.specs.declared.nodes.Nodes.{Nodes}
use Rattle.dso_world.specs.AskingThreads.{AreListed}
use Rattle.dso_world.specs.ChosenSlot.{slot_at}
use Rattle.dso_world.specs.ClientSteps.{IsJournal}
use Rattle.dso_world.specs.Flags.{Row}
use Rattle.dso_world.specs.NodesStand.{NodesStand}
use Rattle.dso_world.specs.StepUpdates.{AreFlags, Follows, KeepsRound, Marks}
use Rattle.dso_world.specs.Laws.{place_behind}
use Rattle.dso_world.specs.SlotTests.{TellsFinished}
use Rattle.dso_world.specs.WorldSteps.{settings_of}
use Rattle.dso_world.specs.WorldStands.{OpenStepsStand}
use Rattle.dso_world.proofs.slots.Once.{rounds_go_on}

-- a thread that stands before another is another
before_differs : (t u : ThreadId) → IsThreadBefore t u → t ≢ u
before_differs t u (inl less) = λ same. let its : t.client ≡ u.client = ap (λ x. x.client) same in absurd (omega (arith, less, its))
before_differs t u (inr after) = λ same. let its : t.index ≡ u.index = ap (λ x. x.index) same in absurd (omega (arith, after.1, its))

-- threads that stand in order stand once each
threads_once : (threads : List ThreadId) → AllPairs IsThreadBefore threads → AllPairs (λ thread other. thread ≢ other) threads
threads_once threads rise = λ i j d less within. before_differs _ _ (rise i j d less within)

module _ (program : Program) (nodes : Nodes) (entry : Entry) (place : ℕ) (old : OpenSteps) (marked : Row) (asking : List ℕ) (finished : Bool)
    (within : place < length old.chooser.flags) (marks : Marks program old.asking nodes entry old.steps old.chooser marked) (round : KeepsRound old.chooser marked)
    (lists : (es : List Entry) → IsJournal program (entry ∷ es) → NodesStand program nodes (entry ∷ es) → AreListed program old.asking es → AreListed program asking (entry ∷ es)) where
  -- the place of the round goes on behind the place of the entry's slot
  goes_on : (es : List Entry) → IsSoundProgram program → OpenStepsStand program old es → slice_get (slots (settings_of program)) place ≡ slot_at entry.node entry.input
      → place + 1 ≡ place_behind (slot_at entry.node entry.input) (slots (settings_of program))
  goes_on es sound stands at = by (slot_at entry.node entry.input) at
    where
      many : length old.chooser.flags ≡ length (slots (settings_of program))
      many = ap length stands.row.flags ∙ length-map (slots (settings_of program)) (is_open (settings_of program) (next_request program.code) es)

      by : (slot : Option Slot) → slice_get (slots (settings_of program)) place ≡ slot → place + 1 ≡ place_behind slot (slots (settings_of program))
      by None is = absurd (cc (sym is ∙ slice_get-get_or (slots (settings_of program)) place (TakesDown 0) (omega (arith, within, many))))
      by (Some slot) is = sym (rounds_go_on (settings_of program) (threads_once program.threads sound.threads_rise) slot place is)

  pub followed : TellsFinished program nodes finished
      → Follows program nodes entry place old (record old { chooser = record marked { begin = place + 1; entries = marked.entries + 1 }; asking = asking; is_finished = finished })
  followed ends = λ es journal nodes_stand stands at.
      let now : AreFlags program old.steps marked (entry ∷ es) = marks es journal nodes_stand stands.asking (record { listed = stands.steps; flags = stands.row.flags }) in
      record {
        steps = stands.steps;
        row = record {
          flags = now.flags;
          begin = goes_on es journal.sound stands at;
          entries = let same : marked.entries ≡ length es = round.entries ∙ stands.row.entries in omega (arith, same);
        };
        asking = lists es journal nodes_stand stands.asking;
        finished = ends (entry ∷ es) journal nodes_stand;
      }
