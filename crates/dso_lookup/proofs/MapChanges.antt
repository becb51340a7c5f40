-- Changes of a map, as changes of the function of its keys.
use Rattle.std.proofs.Common.{◌≡◌, ◌<◌, length, arith, refl, ◌∙◌, ap, Bool, true, false, cond, Option, Some, None, List, [], ◌∷◌}
use Rattle.std.proofs.Math.Path.{fun_ext}
use Rattle.std.specs.declared.cmp.Ordering.{Ordering}
use Rattle.std.specs.declared.cmp.Ordering.TheVariants.{Less, Equal, Greater}
use Rattle.std.specs.Ordering.{is_eq}
use Rattle.std.specs.Cmp.{IsTotalOrder, tied_itself}
use Rattle.std.specs.Map.{lookup}
use Rattle.std.specs.BTreeMap.{BTreeMap, get, is_at, Updates}
use Rattle.dso_lookup.specs.Maps.{look, writes, or_old, written}

-- an answer that is `Equal`
equal_is : (r : Ordering) → is_eq r ≡ true → r ≡ Equal
equal_is Less e = absurd (cc e)
equal_is Equal e = refl
equal_is Greater e = absurd (cc e)

-- equal keys find the same
pub same_found : {J X : Type 0} {R : J → J → Ordering} (o : IsTotalOrder R) (m : BTreeMap J X) (i j : J) → is_at (R i) j ≡ true → get R m i ≡ get R m j
same_found {R = R} o m i j e = ap (λ r. lookup (is_at r) m.entries) (fun_ext (λ z. o.congr i j z (equal_is (R i j) e)))

-- a map in which nothing is found has no entries
pub none_found : {K V : Type 0} {R : K → K → Ordering} (o : IsTotalOrder R) (m : BTreeMap K V) → ((k : K) → get R m k ≡ None) → m.entries ≡ []
none_found {K} {V} {R} o m h = by m.entries h
  where
    by : (es : List (K × V)) → ((k : K) → lookup (is_at (R k)) es ≡ None) → es ≡ []
    by [] h = refl
    by (e ∷ es) h =
        let t : is_at (R e.0) e.0 ≡ true = ap is_eq (tied_itself o e.0) in
        let c : cond (is_at (R e.0) e.0) (Some e.1) (lookup (is_at (R e.0)) es) ≡ None = h e.0 in
        let f : cond true (Some e.1) (lookup (is_at (R e.0)) es) ≡ None = rw t at c in
        absurd (cc f)

-- a change at one key as a write
pub changed_by : {K V : Type 0} (R : K → K → Ordering) (m n : BTreeMap K V) (key : K) (w : Option V) → Updates R m n key w → look R n ≡ written (writes (is_at (R key)) (λ _. w)) (look R m)
changed_by R m n key w h = fun_ext (λ q. h.0 q ∙ by (is_at (R key) q) (get R m q))
  where
    by : (b : Bool) (x : Option _) → cond b w x ≡ or_old (cond b (Some w) None) x
    by true x = refl
    by false x = refl

-- a map from which nothing can be taken
pub emptied : {K V : Type 0} (R : K → K → Ordering) (m : BTreeMap K V) → (0 < length m.entries → ⊥) → look R m ≡ (λ _. None)
emptied {K} {V} R m none = fun_ext (λ key. by m.entries none key)
  where
    by : (es : List (K × V)) → (0 < length es → ⊥) → (key : K) → lookup (is_at (R key)) es ≡ None
    by [] h key = refl
    by (e ∷ es) h key = absurd (h (omega arith))
