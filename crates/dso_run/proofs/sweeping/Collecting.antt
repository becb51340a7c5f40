-- A run goes on by its collections: what it swept at first, after one step more, and at the end.
use Rattle.std.proofs.Common.{ℕ, suc, ◌≡◌, ◌≤◌, ◌<◌, ◌+◌, ◌*◌, ◌/◌, ◌%◌, ◌⊎◌, inl, inr, refl, sym, ◌∙◌, ap, subst, arith, Bool, true, false, eqb, Option, Some, None, List, [], ◌∷◌, ◌++◌, length, reverse}
use Rattle.std.proofs.lemmas.Bool.{cases_lt, eq-eqb, eqb-true}
use Rattle.std.proofs.lemmas.List.{length-append}
use Rattle.std.proofs.Math.Nat.{div-add-mod, mul_comm, mul-mod_left, suc-mul}
use Rattle.dso_base.specs.declared.journal.Entry.{Entry}
use Rattle.dso_class.specs.declared.program.Program.{Program}
use Rattle.dso_class.specs.Sound.{IsSoundProgram}
use Rattle.dso_command_line.specs.Words.{IsInterval}
use Rattle.dso_legal.specs.Lawful.{AllFollow}
use Rattle.dso_legal.proofs.programs.SoundCode.{sound_program}
use Rattle.dso_machine.specs.Frames.{frames_after}
use Rattle.dso_machine.specs.Next.{next_request}
use Rattle.dso_machine.proofs.frames.Law.{keeps_frames}
use Rattle.dso_world.specs.declared.world.World.{World}
use Rattle.dso_world.specs.Collections.{IsGarbageThen, Sweeps}
use Rattle.dso_world.specs.WorldStands.{IsSweptIn, SweepsNothing, WorldStands, entries_in, is_spent}
use Rattle.dso_world.specs.WorldSteps.{settings_of}
use Rattle.dso_gc_law.proofs.garbage.Laws.{garbage_stays}
use Rattle.dso_run.specs.Collecting.{Collects, CollectsIf, CountsSoFar, SweptSoFar, is_due}
use Rattle.dso_run.specs.Swept.{AreSoMany, CountsSwept}
use Rattle.dso_run.proofs.sweeping.Counting.{more_so_many, no_garbage_at_first, none_so_many, swept_count}
use Rattle.dso_run.proofs.sweeping.Lists.{rising_distinct}
use Rattle.dso_run.proofs.sweeping.MadeObjects.{few_stored}

-- as many entries as a multiple of n are a multiple of n, and so a collection is due after them
times_due : (n times count : ℕ) → count ≡ suc times * n → eqb (count % n) 0 ≡ true
times_due n times count is = eq-eqb (count % n) 0 (ap (λ m. m % n) is ∙ mul-mod_left (suc times) n)

-- and where one is due there are so many
due_times : (n count : ℕ) → eqb (count % n) 0 ≡ true → count ≡ (count / n) * n
due_times n count is =
    let none : count % n ≡ 0 = eqb-true (count % n) 0 is in
    let parts : n * (count / n) + count % n ≡ count = div-add-mod count n in
    let swapped : n * (count / n) ≡ (count / n) * n = mul_comm n (count / n) in
    omega (arith, none, parts, swapped)

module _ (program : Program) (sound : IsSoundProgram program) where
  -- the entries follow, each those before it
  abbrev Follow : List Entry → Type 0
  Follow es = AllFollow (settings_of program) (next_request program.code) es

  -- what follows does so from the first entries on
  follow_from : (later es : List Entry) → Follow (later ++ es) → Follow es
  follow_from [] es follow = follow
  follow_from (e ∷ later) es follow = follow_from later es follow.0

  -- what is garbage stays garbage
  stays : (es later first : List Entry) → Follow es → es ≡ later ++ first → (o : ℕ) → IsGarbageThen program first o → IsGarbageThen program es o
  stays es later first follow whole o garbage =
      subst (λ entries. IsGarbageThen program entries o) (sym whole)
      (garbage_stays (settings_of program) (next_request program.code) (frames_after program.code) (keeps_frames program.code sound.code)
      (sound_program program.code sound.code) later first (subst Follow whole follow) o garbage)

  none_at_first : (o : ℕ) → IsGarbageThen program [] o → ⊥
  none_at_first o garbage = no_garbage_at_first (settings_of program) (next_request program.code) (frames_after program.code) o garbage

  -- Before the first step nothing was swept.
  pub sweeps_none : (interval : Option ℕ) (world : World) → IsInterval interval → WorldStands program world → is_spent world ≡ false → world.journal.entries ≡ []
      → CountsSoFar program interval 0 world
  sweeps_none None world within stands whole empty = refl
  sweeps_none (Some n) world within stands whole empty = record {
    times = 0;
    later = [];
    first = [];
    whole = no_entry;
    multiple = omega arith;
    few = within.0;
    swept = λ o. (λ swept. subst (λ entries. IsGarbageThen program entries o) no_entry ((stands.parts whole).nodes.lacks o swept), λ garbage. absurd (none_at_first o garbage));
    counted = none_so_many none_at_first;
  }
    where
      no_entry : entries_in world ≡ []
      no_entry = ap reverse empty

  -- ONE ENTRY MORE, with which nothing is swept but by the collection that may be due after it:
  module _ (n count more : ℕ) (some : 1 ≤ n) (old between new : World) (e : Entry) (so_far : SweptSoFar program n count old)
      (added : entries_in between ≡ e ∷ entries_in old) (nothing : SweepsNothing program old between) (stands : WorldStands program between) where
    with_entry : entries_in between ≡ (e ∷ so_far.later) ++ so_far.first
    with_entry = added ∙ ap (λ es. e ∷ es) so_far.whole

    long : length (entries_in between) ≡ suc (length so_far.later) + so_far.times * n
    long =
        let parts = ap length with_entry in
        let both = length-append (e ∷ so_far.later) so_far.first in
        let multiple = so_far.multiple in
        omega (arith, parts, both, multiple)

    -- those that the collection sweeps weren't garbage after the last one
    newly : Sweeps program more between new
        → AreSoMany (λ o. IsGarbageThen program (entries_in between) o × (IsGarbageThen program so_far.first o → ⊥)) more
    newly sweeps = record {
      objects = sweeps.ids;
      different = rising_distinct sweeps.ids sweeps.rising;
      many = sweeps.many;
      exact = λ o. (
        λ is. (((sweeps.newly o).0 is).0, λ was. ((sweeps.newly o).0 is).1 ((nothing o).1 ((so_far.swept o).1 was))),
        λ now. (sweeps.newly o).1 (now.0, λ swept. now.1 ((so_far.swept o).0 ((nothing o).0 swept))),
      );
    }

    -- it is due
    collected : entries_in new ≡ entries_in between → is_due n (entries_in between) ≡ true → Sweeps program more between new
        → SweptSoFar program n (count + more) new
    collected same due sweeps = record {
      times = length (entries_in between) / n;
      later = [];
      first = entries_in between;
      whole = same;
      multiple = due_times n (length (entries_in between)) due;
      few = some;
      swept = sweeps.swept;
      counted = more_so_many count more (stays (entries_in between) (e ∷ so_far.later) so_far.first stands.lawful.follow with_entry) so_far.counted (newly sweeps);
    }

    -- it isn't: the entry makes no multiple
    still_few : is_due n (entries_in between) ≡ false → suc (length so_far.later) < n
    still_few none = by (cases_lt (suc (length so_far.later)) n)
      where
        by : (suc (length so_far.later) < n) ⊎ (n ≤ suc (length so_far.later)) → suc (length so_far.later) < n
        by (inl less) = less
        by (inr enough) =
            let few = so_far.few in
            let next = suc-mul so_far.times n in
            let is : length (entries_in between) ≡ suc so_far.times * n = omega (arith, few, enough, next, long) in
            let due : is_due n (entries_in between) ≡ true = times_due n so_far.times (length (entries_in between)) is in
            absurd (cc (none, due))

    left : entries_in new ≡ entries_in between → is_due n (entries_in between) ≡ false → more ≡ 0 → new ≡ between → SweptSoFar program n (count + more) new
    left same none no_more is = record {
      times = so_far.times;
      later = e ∷ so_far.later;
      first = so_far.first;
      whole = same ∙ with_entry;
      multiple = so_far.multiple;
      few = still_few none;
      swept = λ o. (
        λ swept. (so_far.swept o).0 ((nothing o).0 (subst (λ world. IsSweptIn program world o) is swept)),
        λ garbage. subst (λ world. IsSweptIn program world o) (sym is) ((nothing o).1 ((so_far.swept o).1 garbage)),
      );
      counted = subst (AreSoMany (IsGarbageThen program so_far.first)) (let e : count ≡ count + more = omega (arith, no_more) in e) so_far.counted;
    }

    pub collects : entries_in new ≡ entries_in between → Collects program (Some n) more between new → SweptSoFar program n (count + more) new
    collects same done = by (is_due n (entries_in between)) refl done
      where
        by : (due : Bool) → is_due n (entries_in between) ≡ due → CollectsIf due program more between new → SweptSoFar program n (count + more) new
        by true due sweeps = collected same due sweeps
        by false none done = left same none done.0 done.1

  -- So the run goes on: one entry more, and the collection where it is due.
  pub sweeps_on : (interval : Option ℕ) (count more : ℕ) (old between new : World) (e : Entry) → IsInterval interval → CountsSoFar program interval count old
      → entries_in between ≡ e ∷ entries_in old → SweepsNothing program old between → WorldStands program between → entries_in new ≡ entries_in between
      → Collects program interval more between new → CountsSoFar program interval (count + more) new
  sweeps_on None count more old between new e within so_far added nothing stands same done =
      let none = done.0 in
      omega (arith, so_far, none)
  sweeps_on (Some n) count more old between new e within so_far added nothing stands same done =
      collects n count more within.0 old between new e so_far added nothing stands same done

  -- No more was swept than there are entries, and one.
  pub few_swept : (interval : Option ℕ) (count : ℕ) (world : World) → WorldStands program world → CountsSoFar program interval count world
      → count ≤ suc (length (entries_in world))
  few_swept None count world stands none = omega (arith, none)
  few_swept (Some n) count world stands so_far =
      let many = so_far.counted.many in
      let few = few_stored (settings_of program) (next_request program.code) (entries_in world) stands.lawful.follow so_far.counted.objects so_far.counted.different
      (λ o is. (stays (entries_in world) so_far.later so_far.first stands.lawful.follow so_far.whole o ((so_far.counted.exact o).0 is)).there) in
      omega (arith, many, few)

  -- At the end so many were swept as are garbage after some multiple of the entries.
  pub counts_swept : (interval : Option ℕ) (count : ℕ) (world : World) → WorldStands program world → CountsSoFar program interval count world
      → CountsSwept program interval world.journal.entries count
  counts_swept None count world stands none = tt
  counts_swept (Some n) count world stands so_far =
      swept_count (settings_of program) (next_request program.code) (frames_after program.code) n (entries_in world) so_far.later so_far.first so_far.times count
      so_far.whole so_far.multiple so_far.few
      (λ between less is o garbage. stays so_far.first between less (follow_from so_far.later so_far.first (subst Follow so_far.whole stands.lawful.follow)) is o garbage)
      so_far.counted
