-- What a step of a cluster adds to the records that its server has applied, and that it can be kept.
use Rattle.std.specs.List.{All}
use Rattle.std.specs.Option.{IfSome}
use Rattle.std.proofs.Common.{ℕ, ◌-◌, ◌<◌, ◌≤◌, ◌^◌, ◌≡◌, inl, inr, refl, sym, subst, ap, ◌∙◌, Bool, true, Option, Some, None, List, [], ◌∷◌, ◌++◌, length, reverse, slice_get, arith}
use Rattle.std.proofs.lemmas.List.{length-append, length-reverse, reverse-append}
use Rattle.std.proofs.lemmas.List.Elements.{All-map, All-weaker}
use Rattle.std.proofs.lemmas.List.Sorted.{All-permutation}
use Rattle.dso_base.specs.declared.journal.Entry.{Entry}
use Rattle.dso_base.specs.declared.record.Txn.{Txn}
use Rattle.dso_class.specs.declared.program.Program.{Program}
use Rattle.dso_class.specs.Sound.{IsSoundProgram}
use Rattle.dso_keep.specs.Records.{AllFit, opening}
use Rattle.dso_legal.specs.Lawful.{AllFollow}
use Rattle.dso_legal.specs.RecordsLight.{RecordsAreLight}
use Rattle.dso_legal.specs.Slots.{weight}
use Rattle.dso_machine.specs.Next.{next_request}
use Rattle.dso_machine.specs.Sound.{IsSoundBody, threads_of}
use Rattle.dso_wire.specs.Spelling.{IsThread}
use Rattle.dso_world.specs.declared.step.Step.{Step}
use Rattle.dso_world.specs.declared.world.World.{World}
use Rattle.dso_world.specs.WorldStands.{IsStepped, MakesEntry, WorldStands, entries_in, journal_of}
use Rattle.dso_world.specs.WorldSteps.{settings_of}
use Rattle.dso_kept.specs.Keeping.{CanBeKept, GoesOnByOne, applied, record_applied, with_one}
use Rattle.dso_kept.proofs.keeping.Adding.{applied_more}
use Rattle.dso_kept.proofs.keeping.Applied.{applied_records_fit}
use Rattle.dso_kept.proofs.keeping.Lightness.{can_be_kept}

-- the threads of a sound program are numbered as those of records are
numbered : (program : Program) → IsSoundProgram program → All IsThread program.threads
numbered program sound = All-permutation IsThread (threads_of program.code) program.threads sound.threads
    (All-map IsThread (λ body. body.thread) program.code.bodies
    (All-weaker (IsSoundBody program.code) (λ body. IsThread body.thread) (λ body fine. ((fine.client_from_one, fine.client_to_last), (fine.index_from_one, fine.index_to_last)))
    program.code.bodies sound.code.bodies))

-- what a world's server has applied fits
pub world_fits : (program : Program) (world : World) → WorldStands program world → AllFit program.code.shape (opening program.code.shape) (applied (entries_in world))
world_fits program world stands = (applied_records_fit (settings_of program) (next_request program.code) (entries_in world) stands.lawful.follow).fit

-- the last of a list
at_end : (es : List Entry) (e : Entry) → slice_get (es ++ e ∷ []) (length es) ≡ Some e
at_end [] e = refl
at_end (first ∷ es) e = at_end es e

last_is : (es : List Entry) (e : Entry) → slice_get (es ++ e ∷ []) (length (es ++ e ∷ []) - 1) ≡ Some e
last_is es e =
    let place : length (es ++ e ∷ []) - 1 ≡ length es = omega (arith, length-append es (e ∷ [])) in
    ap (slice_get (es ++ e ∷ [])) place ∙ at_end es e

pub one_by : (r : Option (ℕ × Txn)) (before after : List (ℕ × Txn)) → after ≡ with_one r before → GoesOnByOne before after
one_by None before after is = inl is
one_by (Some r) before after is = inr (r, is)

module _ (program : Program) (step : Step) (old new : World) (made : MakesEntry step old new) where
  -- the entry that a step makes is the world's last
  pub is_last : slice_get (journal_of new).entries (length (journal_of new).entries - 1) ≡ Some made.entry
  is_last = ap (λ es. slice_get es (length es - 1)) made.added ∙ last_is (journal_of old).entries made.entry

  newest : entries_in new ≡ made.entry ∷ entries_in old
  newest = ap reverse made.added ∙ reverse-append (journal_of old).entries (made.entry ∷ [])

  module _ (after : WorldStands program new) where
    follow : AllFollow (settings_of program) (next_request program.code) (made.entry ∷ entries_in old)
    follow = subst (AllFollow (settings_of program) (next_request program.code)) newest after.lawful.follow

    -- the records applied are those before it, and the one that the entry applies
    pub more_applied : applied (entries_in new) ≡ with_one (record_applied made.entry) (applied (entries_in old))
    more_applied = ap applied newest ∙ applied_more (settings_of program) (next_request program.code) made.entry (entries_in old) follow.1

    -- that one can be kept
    pub can_keep : IsSoundProgram program → RecordsAreLight → WorldStands program old → weight (entries_in old) < 4000000 → IfSome (record_applied made.entry) CanBeKept
    can_keep sound light before few =
        can_be_kept (settings_of program) (numbered program sound) light (next_request program.code) made.entry (entries_in old) before.lawful few follow.1

-- a journal has no more entries than it weighs
long_weighs : (es : List Entry) → length es ≤ weight es
long_weighs [] = omega arith
long_weighs (e ∷ es) = let before : length es ≤ weight es = long_weighs es in omega arith

-- so one that is lighter than a budget is short
pub is_short : (world : World) → weight (entries_in world) < 4000000 → length world.journal.entries < 2 ^ 28
is_short world light =
    let long : length (entries_in world) ≤ weight (entries_in world) = long_weighs (entries_in world) in
    let same : length (entries_in world) ≡ length world.journal.entries = length-reverse world.journal.entries in
    omega (arith, light, long, same)

-- What a step adds, by its entry.
pub record StepAdds (program : Program) (old new : World) (e : Entry) : Type 0 where
  pub more : applied (entries_in new) ≡ with_one (record_applied e) (applied (entries_in old))
  pub can : IsSoundProgram program → RecordsAreLight → WorldStands program old → weight (entries_in old) < 4000000 → IfSome (record_applied e) CanBeKept

module _ (program : Program) (step : Step) (b : Bool) (old new : World) (last : Option Entry) (is_made : b ≡ true) (stepped : IsStepped program step b old new)
    (told : last ≡ slice_get (journal_of new).entries (length (journal_of new).entries - 1)) where
  made_so : IsStepped program step true old new
  made_so = subst (λ made. IsStepped program step made old new) is_made stepped

  last_told : last ≡ Some made_so.1.entry
  last_told = told ∙ is_last program step old new made_so.1

  -- a step that made an entry left a last one
  pub some_last : last ≡ None → ⊥
  some_last none = cc (sym none ∙ last_told)

  pub step_adds : (e : Entry) → last ≡ Some e → WorldStands program new → StepAdds program old new e
  step_adds e is after =
      let some : Some made_so.1.entry ≡ Some e = sym last_told ∙ is in
      let same : made_so.1.entry ≡ e = cc some in
      record {
        more = more_applied program step old new made_so.1 after ∙ ap (λ x. with_one (record_applied x) (applied (entries_in old))) same;
        can = λ sound light before few. subst (λ x. IfSome (record_applied x) CanBeKept) same (can_keep program step old new made_so.1 after sound light before few);
      }
