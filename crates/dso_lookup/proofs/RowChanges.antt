-- Changes of a map of rows, as changes of the function of both keys.
use Rattle.std.proofs.Common.{◌≡◌, ◌≢◌, ◌↔◌, not, IsTrue, length, arith, refl, ◌∙◌, ap, Bool, true, false, cond, ◌&&◌, Option, Some, None, List, [], ◌∷◌}
use Rattle.std.proofs.Math.Path.{fun_ext}
use Rattle.std.specs.declared.cmp.Ordering.{Ordering}
use Rattle.std.specs.Ordering.{is_eq}
use Rattle.std.specs.Cmp.{IsTotalOrder, tied_itself}
use Rattle.std.specs.Map.{lookup}
use Rattle.std.specs.BTreeMap.{BTreeMap, get, is_at}
use Rattle.dso_lookup.specs.Maps.{look, writes, or_old, written}
use Rattle.dso_lookup.specs.Rows.{in_row, look_in, is_at_pair}
use Rattle.dso_lookup.proofs.MapChanges.{same_found, none_found}

module _ {J K V : Type 0} {R : J → J → Ordering} (o : IsTotalOrder R) (S : K → K → Ordering) where
  -- a row that is taken out, changed at one key and put back
  pub row_put : (old mid new : BTreeMap J (BTreeMap K V)) (row changed : BTreeMap K V) (at : J) (key : K) (value : Option V) → ((q : K) → look S row q ≡ in_row S (look R old at) q) → look R mid ≡ written (writes (is_at (R at)) (λ _. None)) (look R old) → look S changed ≡ written (writes (is_at (S key)) (λ _. value)) (look S row) → look R new ≡ written (writes (is_at (R at)) (λ _. Some changed)) (look R mid) → look_in R S new ≡ written (writes (is_at_pair R S at key) (λ _. value)) (look_in R S old)
  row_put old mid new row changed at key value was gone changes puts = fun_ext (λ k. by k.0 k.1 (is_at (R at) k.0) refl)
    where
      there : (q : K) (c : Bool) → or_old (cond c (Some value) None) (look S row q) ≡ or_old (cond c (Some value) None) (in_row S (look R old at) q)
      there q c = ap (λ x. or_old (cond c (Some value) None) x) (was q)

      by : (j : J) (q : K) (b : Bool) → is_at (R at) j ≡ b → in_row S (get R new j) q ≡ or_old (cond (is_at (R at) j && is_at (S key) q) (Some value) None) (in_row S (get R old j) q)
      by j q true e =
          let n : get R new j ≡ Some changed = ap (λ f. f j) puts ∙ rw e refl in
          let d : get S changed q ≡ or_old (cond (is_at (S key) q) (Some value) None) (in_row S (look R old at) q) = ap (λ f. f q) changes ∙ there q (is_at (S key) q) in
          rw (n, e) (d ∙ ap (λ x. or_old (cond (is_at (S key) q) (Some value) None) (in_row S x q)) (same_found o old at j e))
      by j q false e =
          let n : get R new j ≡ get R old j = ap (λ f. f j) puts ∙ (rw e (ap (λ f. f j) gone ∙ rw e refl)) in
          rw (n, e) refl

-- a row has no entries exactly where nothing is found in it
pub row_empty : {J K V : Type 0} (R : J → J → Ordering) {S : K → K → Ordering} (o : IsTotalOrder S) (rows : BTreeMap J (BTreeMap K V)) (row : BTreeMap K V) (at : J) (b : Bool) → (IsTrue b ↔ (length row.entries ≡ 0)) → Some row ≡ get R rows at → IsTrue b ↔ ((key : K) → look_in R S rows (at, key) ≡ None)
row_empty {K = K} {V = V} R {S} o rows row at b tells found = rw (← found) (λ t key. empty row.entries (tells.0 t) key, λ h. tells.1 (ap (λ es. length es) (none_found o row h)))
  where
    empty : (es : List (K × V)) → length es ≡ 0 → (key : K) → lookup (is_at (S key)) es ≡ None
    empty [] e key = refl
    empty (x ∷ es) e key = absurd (omega arith)

-- a row that has entries has something at some key
pub row_taken : {J K V : Type 0} (R : J → J → Ordering) {S : K → K → Ordering} (o : IsTotalOrder S) (rows : BTreeMap J (BTreeMap K V)) (row : BTreeMap K V) (at : J) (b : Bool) → (IsTrue b ↔ (length row.entries ≡ 0)) → Some row ≡ get R rows at → IsTrue (not b) ↔ ((key : K) × (look_in R S rows (at, key) ≢ None))
row_taken {K = K} {V = V} R {S} o rows row at b tells found = rw (← found) (by b row.entries tells)
  where
    head : (e : K × V) (es : List (K × V)) → lookup (is_at (S e.0)) (e ∷ es) ≢ None
    head e es h =
        let t : is_at (S e.0) e.0 ≡ true = ap is_eq (tied_itself o e.0) in
        let f : cond true (Some e.1) (lookup (is_at (S e.0)) es) ≡ None = rw t at h in
        absurd (cc f)

    by : (b : Bool) (es : List (K × V)) → (IsTrue b ↔ (length es ≡ 0)) → IsTrue (not b) ↔ ((key : K) × (lookup (is_at (S key)) es ≢ None))
    by b [] tells = (λ h. absurd (no b (tells.1 refl) h), λ h. absurd (h.1 refl))
      where
        no : (b : Bool) → IsTrue b → IsTrue (not b) → ⊥
        no true t f = absurd (cc f)
        no false t f = absurd (cc t)
    by true (e ∷ es) tells = absurd (some (tells.0 refl))
      where
        some : length (e ∷ es) ≡ 0 → ⊥
        some h = omega arith
    by false (e ∷ es) tells = (λ _. (e.0, head e es), λ _. refl)
