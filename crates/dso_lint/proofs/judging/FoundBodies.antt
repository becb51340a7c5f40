-- A body by its number, with its clean variables and its place.
use Rattle.std.proofs.Common.{◌≡◌, ◌+◌, ℕ, ◌<◌, arith, [], length, get_or, sym, subst, ap, ◌∙◌}
use Rattle.dso_machine.specs.declared.code.Code.{Code}
use Rattle.dso_lint.specs.declared.checker.Bodies.{Bodies}
use Rattle.dso_lint.specs.declared.listed.Listed.{Listed}
use Rattle.dso_lint.specs.declared.row.Row.{Row}
use Rattle.dso_lint.specs.CleanRows.{place_at}
use Rattle.dso_lint.specs.Judged.{AreBodies, choice_by}
use Rattle.dso_lint.specs.Listed.{IsListed, routine_of_block, routines}
use Rattle.dso_lint.specs.Routines.{Routine, IsAt}
use Rattle.dso_lint.specs.Rows.{chosen_by}
use Rattle.dso_lint.proofs.cleanness.Choices.{long, stands_at}

module _ (code : Code) (bodies : Bodies) (are : AreBodies code bodies) where
  -- there are as many as the code has methods and bodies of threads, and a row for each
  pub as_many : length bodies.all.items ≡ length code.methods + length code.bodies
  as_many = are.listed.number ∙ long code

  pub as_many_rows : length bodies.rows.items ≡ length bodies.all.items
  as_many_rows = are.clean.number ∙ sym as_many

  -- this listed body and this row are those of this number
  pub record IsFound (number : ℕ) (body : Listed) (row : Row) : Type 0 where
    pub routine : Routine
    pub stands : IsAt code (place_at (length code.methods) number) routine
    pub listed : IsListed body routine
    pub chosen : choice_by code bodies (place_at (length code.methods) number) ≡ chosen_by row

  pub found : (number : ℕ) (body : Listed) (row : Row) → number < length bodies.all.items → get_or bodies.all.items number body ≡ body → get_or bodies.rows.items number row ≡ row → IsFound number body row
  found number body row there is_body is_row =
      let low : number < length (routines code) = omega (arith, there, are.listed.number) in
      let few : number < length bodies.rows.items = omega (arith, there, as_many_rows) in
      let routine = get_or (routines code) number (routine_of_block []) in
      record {
        routine = routine;
        stands = stands_at code number (routine_of_block []) low;
        listed = subst (λ (l : Listed). IsListed l routine) is_body (are.listed.each number body (routine_of_block []) low);
        chosen = are.clean.chosen_at number row few ∙ ap chosen_by is_row;
      }
