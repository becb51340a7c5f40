-- The entries of a client name one object for the flush.
use Rattle.std.proofs.Common.{◌≡◌, ◌≤◌, ℕ, refl, sym, ◌∙◌, ap, arith, Bool, true, false, eqb, ◌||◌, inl, inr, List, [], ◌∷◌, ◌++◌}
use Rattle.dso_base.specs.declared.journal.Entry.{Entry}
use Rattle.dso_plain.proofs.keys.SameKeys.{number_self}
use Rattle.dso_lookup.specs.Search.{is_listed}
use Rattle.dso_law.specs.Settings.{Settings}
use Rattle.dso_law.specs.UseOrder.{IsFlushVictim, IsOldestVictim, IsUnusedVictim}

-- what stands in a list is listed
stands_in : (o : ℕ) (later earlier : List ℕ) → is_listed o (later ++ o ∷ earlier) ≡ true
stands_in o [] earlier = ap (λ b. b || is_listed o earlier) (number_self o)
stands_in o (x ∷ later) earlier = by (eqb x o) (stands_in o later earlier)
  where
    by : (b : Bool) → is_listed o (later ++ o ∷ earlier) ≡ true → (b || is_listed o (later ++ o ∷ earlier)) ≡ true
    by true e = refl
    by false e = e

-- two places of a list, behind each of which the other's object doesn't stand, are of one object
same_last : (o q : ℕ) (later1 later2 earlier1 earlier2 : List ℕ) → later1 ++ o ∷ earlier1 ≡ later2 ++ q ∷ earlier2
    → is_listed q earlier1 ≡ false → is_listed o earlier2 ≡ false → o ≡ q
same_last o q [] [] earlier1 earlier2 e behind before = cc e
same_last o q [] (x ∷ later2) earlier1 earlier2 e behind before =
    let rest : earlier1 ≡ later2 ++ q ∷ earlier2 = cc e in
    absurd (cc (sym behind ∙ (ap (is_listed q) rest ∙ stands_in q later2 earlier2)))
same_last o q (x ∷ later1) [] earlier1 earlier2 e behind before =
    let rest : later1 ++ o ∷ earlier1 ≡ earlier2 = cc e in
    absurd (cc (sym before ∙ (ap (is_listed o) (sym rest) ∙ stands_in o later1 earlier1)))
same_last o q (x ∷ later1) (y ∷ later2) earlier1 earlier2 e behind before =
    let rest : later1 ++ o ∷ earlier1 ≡ later2 ++ q ∷ earlier2 = cc e in
    same_last o q later1 later2 earlier1 earlier2 rest behind before

least_both : (o q : ℕ) → o ≤ q → q ≤ o → q ≡ o
least_both o q below above = omega (arith, below, above)

module _ (p : Settings) (c o q : ℕ) (es : List Entry) where
  both_unused : IsUnusedVictim p c o es → IsUnusedVictim p c q es → q ≡ o
  both_unused h k = least_both o q (h.least q k.flushable k.unused) (k.least o h.flushable h.unused)

  -- one that isn't in the order of use and one that was used longest ago aren't both there
  apart : (x y : ℕ) → IsUnusedVictim p c x es → IsOldestVictim p c y es → ⊥
  apart x y h k = cc (sym h.unused ∙ k.all_used x h.flushable)

  both_oldest : IsOldestVictim p c o es → IsOldestVictim p c q es → q ≡ o
  both_oldest h k = sym (same_last o q h.later k.later h.earlier k.earlier (sym h.stands ∙ k.stands) (h.last q k.flushable) (k.last o h.flushable))

  pub one_victim : IsFlushVictim p c es o → IsFlushVictim p c es q → q ≡ o
  one_victim h k = elim h.chosen [
    | inl first ↦ elim k.chosen [ inl other ↦ both_unused first other | inr other ↦ absurd (apart o q first other) ]
    | inr last ↦ elim k.chosen [ inl other ↦ absurd (apart q o other last) | inr other ↦ both_oldest last other ]
  ]
