-- The paths of the clients, one after the other.
use Rattle.std.proofs.Common.{ℕ, suc, ◌≤◌, ◌≡◌, ◌⊎◌, inl, inr, refl, sym, ◌∙◌, subst, Bool, true, false, eqb, List, arith}
use Rattle.std.proofs.lemmas.Bool.{eqb-false, eqb-true, or_cases}
use Rattle.dso_base.specs.declared.journal.Entry.{Entry}
use Rattle.dso_class.specs.declared.program.Program.{Program}
use Rattle.dso_legal.specs.Collection.{is_kept}
use Rattle.dso_lookup.specs.Search.{has_edge, is_listed}
use Rattle.dso_lookup.proofs.Tests.{left_holds, right_holds}
use Rattle.dso_world.specs.declared.collection.Paths.{Paths}
use Rattle.dso_world.specs.Collections.{AddsClient, ArePathsOf, copy_names, names_then}
use Rattle.dso_world.specs.WorldSteps.{settings_of}

-- the first numbers with one more: what is told of them all is told of those before, or of it
module _ (IsKept : ℕ → Type 0) (Tells : ℕ → Type 0) where
  abbrev pub OfFirst : ℕ → Type 0
  OfFirst count = (c : ℕ) × (c ≤ count) × (IsKept c) × (Tells c)

  pub one_more : (count : ℕ) → OfFirst (suc count) → OfFirst count ⊎ (IsKept (suc count) × Tells (suc count))
  one_more count (c, few, kept, tells) = by (eqb c (suc count)) refl
    where
      by : (b : Bool) → eqb c (suc count) ≡ b → OfFirst count ⊎ (IsKept (suc count) × Tells (suc count))
      by true same = let is = eqb-true c (suc count) same in inr (subst IsKept is kept, subst Tells is tells)
      by false other = let differs = eqb-false c (suc count) other in inl (c, omega (arith, few, differs), kept, tells)

  pub still : (count : ℕ) → OfFirst count → OfFirst (suc count)
  still count (c, few, kept, tells) = (c, omega (arith, few), kept, tells)

module _ (program : Program) (es : List Entry) (count : ℕ) where
  abbrev Kept : ℕ → Type 0
  Kept c = is_kept (settings_of program) es c ≡ true

  -- a client that counts
  pub with_kept : (old new : Paths) → is_kept (settings_of program) es (suc count) ≡ true → AddsClient program (suc count) es old new
      → ArePathsOf program count es old → ArePathsOf program (suc count) es new
  with_kept old new kept adds before = record {
    starts = λ o. (
      λ listed. elim (or_cases (is_listed o old.starts.items) (names_then program (suc count) es o) (sym (adds.starts o) ∙ listed)) [
        | inl there ↦ elim ((before.starts o).0 there) [ inl root ↦ inl root | inr named ↦ inr (still Kept (λ c. names_then program c es o ≡ true) count named) ]
        | inr named ↦ inr (suc count, omega arith, kept, named)
      ],
      λ start. adds.starts o ∙ elim start [
        | inl root ↦ left_holds (is_listed o old.starts.items) (names_then program (suc count) es o) ((before.starts o).1 (inl root))
        | inr named ↦ elim (one_more Kept (λ c. names_then program c es o ≡ true) count named) [
          | inl earlier ↦ left_holds (is_listed o old.starts.items) (names_then program (suc count) es o) ((before.starts o).1 (inr earlier))
          | inr last ↦ right_holds (is_listed o old.starts.items) (names_then program (suc count) es o) last.1
        ]
      ],
    );
    edges = λ a b. (
      λ there. elim (or_cases (has_edge a b old.edges.items) (copy_names program (suc count) es a b) (sym (adds.edges a b) ∙ there)) [
        | inl before_it ↦ still Kept (λ c. copy_names program c es a b ≡ true) count ((before.edges a b).0 before_it)
        | inr named ↦ (suc count, omega arith, kept, named)
      ],
      λ edge. adds.edges a b ∙ elim (one_more Kept (λ c. copy_names program c es a b ≡ true) count edge) [
        | inl earlier ↦ left_holds (has_edge a b old.edges.items) (copy_names program (suc count) es a b) ((before.edges a b).1 earlier)
        | inr last ↦ right_holds (has_edge a b old.edges.items) (copy_names program (suc count) es a b) last.1
      ],
    );
  }

  -- one that doesn't
  pub with_lost : (paths : Paths) → is_kept (settings_of program) es (suc count) ≡ false → ArePathsOf program count es paths → ArePathsOf program (suc count) es paths
  with_lost paths lost before = record {
    starts = λ o. (
      λ listed. elim ((before.starts o).0 listed) [ inl root ↦ inl root | inr named ↦ inr (still Kept (λ c. names_then program c es o ≡ true) count named) ],
      λ start. elim start [
        | inl root ↦ (before.starts o).1 (inl root)
        | inr named ↦ elim (one_more Kept (λ c. names_then program c es o ≡ true) count named) [
          | inl earlier ↦ (before.starts o).1 (inr earlier)
          | inr last ↦ absurd (cc (sym last.0 ∙ lost))
        ]
      ],
    );
    edges = λ a b. (
      λ there. still Kept (λ c. copy_names program c es a b ≡ true) count ((before.edges a b).0 there),
      λ edge. elim (one_more Kept (λ c. copy_names program c es a b ≡ true) count edge) [
        | inl earlier ↦ (before.edges a b).1 earlier
        | inr last ↦ absurd (cc (sym last.0 ∙ lost))
      ],
    );
  }
