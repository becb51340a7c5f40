use Rattle.std.proofs.Common.{◌≡◌, ℕ, Bool, true, false, eqb, ◌||◌, refl, sym, ap, ◌∙◌, inl, inr}
use Rattle.std.proofs.lemmas.Bool.{eqb-true}
use Rattle.dso_admission.specs.Laws.{knows_lost}
use Rattle.dso_admission.proofs.laws.one_is_cut_off.Goals as goal

-- who was lost before stays lost
one_more : (c d : ℕ) (known : ℕ → Bool) → known c ≡ true → known d ≡ (eqb d c || known d)
one_more c d known lost = by (eqb d c) refl
  where
    by : (same : Bool) → eqb d c ≡ same → known d ≡ (same || known d)
    by true e = ap known (eqb-true d c e) ∙ lost
    by false e = refl

pub returns : goal.returns
returns c = λ p client messages old new es stands cut d. elim (cut p es stands) [
  | inl before ↦ ap (λ server. knows_lost server d) before.1.1
      ∙ one_more client d (knows_lost old) (ap (λ f. f client) stands.lost ∙ before.0)
  | inr now ↦ ap (λ f. f d) (now.1.stands 0).lost ∙ ap (λ b. eqb d client || b) (sym (ap (λ f. f d) stands.lost))
]
