use Rattle.std.specs.Option.{option_and_then, option_map_or}
use Rattle.std.proofs.Common.{◌<◌, ◌^◌, ◌≡◌, refl, ◌∙◌, ap, true, false, is_some, Option, Some, None, length, slice_get, arith}
use Rattle.std.proofs.lemmas.List.{length-reverse}
use Rattle.dso_base.specs.declared.no_memory.NoMemory.{NoMemory}
use Rattle.dso_world.specs.Flags.{is_set}
use Rattle.dso_world.specs.WorldStands.{WorldPartsStand, entries_in}
use Rattle.dso_world.proofs.worlds.Stepped.{flag_in, open_told, opens_there, slot_stands}
use Rattle.dso_world.proofs.world.World.step.Goals as goal

-- what holds no refusal isn't spent
not_spent : (spent : Option NoMemory) → ((refusal : NoMemory) → spent ≡ Some refusal → ⊥) → is_some spent ≡ false
not_spent None none = refl
not_spent (Some refusal) none = absurd (none refusal refl)

pub make-requires : goal.make-requires
make-requires c =
    let program = c.args.program.now in
    let step = c.args.step in
    let world = c.args.self.now in
    let place = c.in-Some-open_place.place in
    let there = c.in-Some-open_place.ensures in
    let parts : WorldPartsStand program world (entries_in world) = c.requires.stands.parts (not_spent _ c.in_default.not-Some) in
    let few : length world.journal.entries < 2 ^ 28 = c.requires.few in
    let long : length (entries_in world) ≡ length world.journal.entries = length-reverse world.journal.entries in
    record {
      journal = record {
        sound = c.requires.sound;
        lawful = c.requires.stands.lawful;
        few = omega (arith, few, long);
      };
      few = few;
      parts = record { nodes = parts.nodes; open_steps = parts.open_steps; weight = parts.weight };
      at = slot_stands program step world.open_steps (entries_in world) parts.open_steps place there.place;
      opened = opens_there program step world.open_steps (entries_in world) parts.open_steps place there.place there.«open»;
    }

pub returns-clause-stepped : goal.returns-clause-stepped
returns-clause-stepped c =
    let program = c.args.program.now in
    let step = c.args.step in
    let world = c.args.self.now in
    let place = c.in-Some-open_place.place in
    let there = c.in-Some-open_place.ensures in
    let parts : WorldPartsStand program world (entries_in world) = c.requires.stands.parts (not_spent _ c.in_default.not-Some) in
    let set : flag_in step world.open_steps ≡ true =
    ap (λ at. option_map_or is_set (option_and_then (slice_get world.open_steps.chooser.flags) at) false) there.place ∙ ap (λ flag. option_map_or is_set flag false) there.«open» in
    let makes = c.in_default-make.ensures.made.makes in
    (open_told program step world.open_steps (entries_in world) parts.open_steps ∙ set, record { entry = makes.entry; added = makes.added; at = makes.at })

pub returns-in_default-open_place-clause-stepped : goal.returns-in_default-open_place-clause-stepped
returns-in_default-open_place-clause-stepped c =
    let world = c.args.self.now in
    let parts : WorldPartsStand c.args.program.now world (entries_in world) = c.requires.stands.parts (not_spent _ c.in_default.not-Some) in
    (open_told c.args.program.now c.args.step world.open_steps (entries_in world) parts.open_steps ∙ c.in_default-open_place.ensures.none, refl)
