use Rattle.std.proofs.Common.{◌≡◌, ◌<◌, ℕ, get_or}
use Rattle.dso_base.specs.declared.value.ClassId.TheVariants.{Plain}
use Rattle.dso_base.specs.declared.value.Kind.TheVariants as kind
use Rattle.dso_base.specs.Shape.{kind_of}
use Rattle.dso_lint.proofs.fields.is_ref_field.Given as goal

-- none of the places so far is of kind ref
abbrev pub invariant-loop-place : goal.invariant-loop-place
invariant-loop-place l = (k : ℕ) (d : ℕ × ℕ) → k < l.place-index → kind_of l.fn.shape (Plain (get_or l.places k d).0) (get_or l.places k d).1 ≡ kind.Ref → ⊥
