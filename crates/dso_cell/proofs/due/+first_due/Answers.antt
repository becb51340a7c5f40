use Rattle.std.proofs.Common.{ℕ, suc, ◌+◌, ◌-◌, ◌≤◌, ◌≡◌, inl, refl, ◌∙◌, ap, subst, Option, List, [], ◌∷◌, drop, get_or, length, take, arith}
use Rattle.std.proofs.lemmas.List.{take_all}
use Rattle.dso_server.specs.declared.server.Server as core
use Rattle.dso_cell.specs.declared.due.Due.{Due}
use Rattle.dso_cell.specs.declared.server_end.ServerEnd.{ServerEnd}
use Rattle.dso_cell.specs.ServerCells.{HasNoneDue}
use Rattle.dso_cell.specs.ServerSteps.{IsDue, IsFirstDue, IsOneDue}
use Rattle.dso_cell.proofs.serving.Due.{due_behind}
use Rattle.dso_cell.proofs.due.+first_due.Goals as goal

-- all behind the first one, as a slice has them
others_are : (ends : List ServerEnd) → take (suc (length ends) - 1) ends ≡ ends
others_are ends =
    let many : suc (length ends) - 1 ≡ length ends = omega arith in
    ap (λ n. take n ends) many ∙ take_all (length ends) ends (omega arith)

module _ (kept : core.Server) (c : ℕ) (end : ServerEnd) where
  -- one is due of the first client
  due_here : (due : Due) (ends : List ServerEnd) → 1 ≤ length ends → end ≡ get_or ends 0 end → due.client ≡ c → IsDue kept c due.mishap end → IsOneDue kept c due ends
  due_here due [] many is own its = absurd (omega (arith, many))
  due_here due (first ∷ ends) many is own its = inl (own, subst (λ end. IsDue kept c due.mishap end) is its)

  -- none is
  due_later : (found : Option Due) (ends : List ServerEnd) → 1 ≤ length ends → end ≡ get_or ends 0 end → HasNoneDue kept c end
      → IsFirstDue kept (c + 1) found (take (length ends - 1) (drop 1 ends)) → IsFirstDue kept c found ends
  due_later found [] many is none later = absurd (omega (arith, many))
  due_later found (first ∷ ends) many is none later =
      due_behind kept c found first ends (subst (λ end. HasNoneDue kept c end) is none)
      (subst (λ ends. IsFirstDue kept (c + 1) found ends) (others_are ends) later)

pub returns-in-Some : goal.returns-in-Some
returns-in-Some t c =
    due_here c.args.core.now c.args.client c.end-item.result (record { client = c.args.client; mishap = c.in-Some.mishap }) c.args.ends.now
    c.in-len1-up.len_at_least c.end-item.is refl c.in-Some.ensures

pub returns-in-None : goal.returns-in-None
returns-in-None t c =
    due_later c.args.core.now c.args.client c.end-item.result c.first_due.result c.args.ends.now
    c.in-len1-up.len_at_least c.end-item.is c.in-None.ensures c.first_due.ensures
