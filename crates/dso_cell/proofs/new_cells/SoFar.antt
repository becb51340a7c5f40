-- New cells, one client after the other.
use Rattle.std.proofs.Common.{ℕ, suc, ◌+◌, ◌≡◌, refl, sym, ◌∙◌, ap, subst, List, [], ◌∷◌, ◌++◌, length, arith}
use Rattle.std.proofs.lemmas.List.{length-append}
use Rattle.dso_base.specs.declared.journal.Trigger.{Trigger}
use Rattle.dso_machine.specs.declared.code.Code.{Code}
use Rattle.dso_port.specs.Ports.{AreTogether}
use Rattle.dso_cell.specs.declared.client_cell.ClientCell.{ClientCell}
use Rattle.dso_cell.specs.declared.server_end.ServerEnd.{ServerEnd}
use Rattle.dso_cell.specs.Meetings.{AllTogether}
use Rattle.dso_cell.specs.CellOpenings.{AreNewCells, AreNewEnds, IsNewCell, IsNewEnd}

module _ (code : Code) (resident : ℕ) (losses breaks : List Trigger) where
  -- the cells and the ends of the first so many clients
  pub record AreSoFar (count : ℕ) (cells : List ClientCell) (ends : List ServerEnd) : Type 0 where
    pub new : AreNewCells code resident 1 cells
    pub fresh : AreNewEnds losses breaks 1 ends
    pub paired : AllTogether cells ends
    pub all : length cells ≡ count

  -- those of one client more
  pub record IsNext (n : ℕ) (cell : ClientCell) (end : ServerEnd) : Type 0 where
    pub new : IsNewCell code resident n cell
    pub fresh : IsNewEnd losses breaks n end
    pub together : AreTogether cell.port end.port

  cells_more : (c : ℕ) (cells : List ClientCell) (cell : ClientCell) → AreNewCells code resident c cells → IsNewCell code resident (c + length cells) cell → AreNewCells code resident c (cells ++ cell ∷ [])
  cells_more c [] cell all one = let none : c + 0 ≡ c = omega arith in (subst (λ n. IsNewCell code resident n cell) none one, tt)
  cells_more c (first ∷ cells) cell all one =
      let next : c + suc (length cells) ≡ suc c + length cells = omega arith in
      (all.0, cells_more (suc c) cells cell all.1 (subst (λ n. IsNewCell code resident n cell) next one))

  ends_more : (c : ℕ) (ends : List ServerEnd) (end : ServerEnd) → AreNewEnds losses breaks c ends → IsNewEnd losses breaks (c + length ends) end → AreNewEnds losses breaks c (ends ++ end ∷ [])
  ends_more c [] end all one = let none : c + 0 ≡ c = omega arith in (subst (λ n. IsNewEnd losses breaks n end) none one, tt)
  ends_more c (first ∷ ends) end all one =
      let next : c + suc (length ends) ≡ suc c + length ends = omega arith in
      (all.0, ends_more (suc c) ends end all.1 (subst (λ n. IsNewEnd losses breaks n end) next one))

  pairs_more : (cells : List ClientCell) (ends : List ServerEnd) (cell : ClientCell) (end : ServerEnd) → AllTogether cells ends → AreTogether cell.port end.port → AllTogether (cells ++ cell ∷ []) (ends ++ end ∷ [])
  pairs_more [] [] cell end paired one = (one, tt)
  pairs_more [] (other ∷ ends) cell end paired one = absurd paired
  pairs_more (first ∷ cells) [] cell end paired one = absurd paired
  pairs_more (first ∷ cells) (other ∷ ends) cell end paired one = (paired.0, pairs_more cells ends cell end paired.1 one)

  as_many : (cells : List ClientCell) (ends : List ServerEnd) → AllTogether cells ends → length ends ≡ length cells
  as_many [] [] paired = refl
  as_many [] (end ∷ ends) paired = absurd paired
  as_many (cell ∷ cells) [] paired = absurd paired
  as_many (cell ∷ cells) (end ∷ ends) paired = ap suc (as_many cells ends paired.1)

  pub one_more : (count : ℕ) (cells more : List ClientCell) (ends others : List ServerEnd) (cell : ClientCell) (end : ServerEnd) → AreSoFar count cells ends → IsNext (count + 1) cell end
      → more ≡ cells ++ cell ∷ [] → others ≡ ends ++ end ∷ [] → AreSoFar (count + 1) more others
  one_more count cells more ends others cell end so next is are =
      let place : count + 1 ≡ 1 + length cells = omega (arith, so.all) in
      let there : count + 1 ≡ 1 + length ends = omega (arith, so.all, as_many cells ends so.paired) in
      record {
        new = subst (AreNewCells code resident 1) (sym is) (cells_more 1 cells cell so.new (subst (λ n. IsNewCell code resident n cell) place next.new));
        fresh = subst (AreNewEnds losses breaks 1) (sym are) (ends_more 1 ends end so.fresh (subst (λ n. IsNewEnd losses breaks n end) there next.fresh));
        paired = subst (λ list. AllTogether list others) (sym is) (subst (AllTogether (cells ++ cell ∷ [])) (sym are) (pairs_more cells ends cell end so.paired next.together));
        all = ap length is ∙ length-append cells (cell ∷ []) ∙ omega (arith, so.all);
      }
