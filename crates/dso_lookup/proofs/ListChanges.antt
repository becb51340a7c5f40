-- Changes of a map of lists, as changes of the function of its keys.
use Rattle.std.proofs.Common.{◌≡◌, refl, ◌∙◌, ap, Bool, true, false, cond, Option, Some, None, List, [], ◌∷◌, ◌++◌, reverse}
use Rattle.std.proofs.Math.Path.{fun_ext}
use Rattle.std.proofs.lemmas.List.{reverse-append}
use Rattle.std.specs.declared.cmp.Ordering.{Ordering}
use Rattle.std.specs.BTreeMap.{BTreeMap, is_at}
use Rattle.dso_lookup.specs.Maps.{look, writes, or_old, written}
use Rattle.dso_lookup.specs.Lists.{newest_first, lists_of}

-- a list that is taken out, has one value more at its end and is put back
pub list_pushed : {K V : Type 0} (R : K → K → Ordering) (old mid new : BTreeMap K (List V)) (items pushed : List V) (key : K) (v : V) → reverse items ≡ lists_of R old key → look R mid ≡ written (writes (is_at (R key)) (λ _. None)) (look R old) → pushed ≡ items ++ v ∷ [] → look R new ≡ written (writes (is_at (R key)) (λ _. Some pushed)) (look R mid) → lists_of R new ≡ written (writes (is_at (R key)) (λ _. v ∷ lists_of R old key)) (lists_of R old)
list_pushed R old mid new items pushed key v was gone more puts = fun_ext (λ q. λ i. newest_first (puts i q)) ∙ (fun_ext (λ q. λ i. newest_first (or_old (cond (is_at (R key) q) (Some (Some pushed)) None) (gone i q))) ∙ fun_ext (λ q. by q (is_at (R key) q)))
  where
    list : reverse pushed ≡ v ∷ lists_of R old key
    list = ap (λ xs. reverse xs) more ∙ (reverse-append items (v ∷ []) ∙ ap (λ xs. v ∷ xs) was)

    by : (q : _) (b : Bool) → newest_first (or_old (cond b (Some (Some pushed)) None) (or_old (cond b (Some None) None) (look R old q))) ≡ or_old (cond b (Some (v ∷ lists_of R old key)) None) (lists_of R old q)
    by q true = list
    by q false = refl
