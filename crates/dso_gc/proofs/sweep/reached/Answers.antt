use Rattle.std.proofs.Common.{ℕ, ap, subst, sym, ◌≡◌, ◌∙◌, [], List, length, ◌<◌, ◌∷◌, refl, arith}
use Rattle.std.specs.BTreeMap.{is_at}
use Rattle.std.specs.List.{list_any}
use Rattle.std.specs.Ordering.{nat_cmp}
use Rattle.dso_base.specs.Reached.{Reaches}
use Rattle.dso_gc.specs.Garbage.{IsIn, IsEdgeIn}
use Rattle.dso_gc.proofs.Reaching.{none_reached}
use Rattle.dso_gc.proofs.sweep.reached.Goals as goal

-- a list of less than one item is empty
none_there : (xs : List ℕ) → length xs < 1 → xs ≡ []
none_there [] less = refl
none_there (x ∷ xs) less = absurd (omega arith)

pub returns-in-empty : goal.returns-in-empty
returns-in-empty c = λ o. ((λ e. absurd (cc (sym (ap (λ ks. list_any (is_at (nat_cmp o)) ks) c.new.ensures.empty) ∙ e))), (λ r. absurd (none_reached c.args.edges.now o (subst (λ xs. Reaches (IsIn xs) (IsEdgeIn c.args.edges.now) o) (none_there c.args.starts.now c.in-empty.len_below) r))))
