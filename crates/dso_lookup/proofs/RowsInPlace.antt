-- Changes of a map of rows in place, as changes of the function of both keys.
use Rattle.std.proofs.Common.{◌≡◌, refl, sym, ◌∙◌, ap, is_some, Bool, true, false, cond, ◌&&◌, Option, Some, None, OnErr, Result, Ok, Err}
use Rattle.std.proofs.Math.Path.{fun_ext}
use Rattle.std.specs.declared.cmp.Ordering.{Ordering}
use Rattle.std.specs.Cmp.{IsTotalOrder}
use Rattle.std.specs.Map.{lookup}
use Rattle.std.specs.BTreeMap.{BTreeMap, get, is_at, IsEmpty, IsUnchanged, WritesThrough}
use Rattle.dso_lookup.specs.Maps.{look, writes, or_old, written}
use Rattle.dso_lookup.specs.Rows.{in_row, look_in, is_at_pair}
use Rattle.dso_lookup.proofs.MapChanges.{same_found, changed_by}

-- what holds anyway holds on an error
pub on_err : {T E P : Type 0} (r : Result T E) → P → OnErr r P
on_err (Ok x) p = tt
on_err (Err e) p = p

-- a value that was written in place
pub written_through : {K V : Type 0} (R : K → K → Ordering) (old new : BTreeMap K V) (key : K) (was value : V) → WritesThrough R (R key) old value new → Some was ≡ look R old key → look R new ≡ written (writes (is_at (R key)) (λ _. Some value)) (look R old)
written_through R old new key was value through there = changed_by R old new key (Some value) (through.3 (sym (ap (λ x. is_some x) there)))

-- maps with the same entries find the same
pub same_entries : {K V : Type 0} (R : K → K → Ordering) (old new : BTreeMap K V) → IsUnchanged old new → look R new ≡ look R old
same_entries R old new same = λ i key. lookup (is_at (R key)) (same i)

module _ {J K V : Type 0} {R : J → J → Ordering} (o : IsTotalOrder R) (S : K → K → Ordering) where
  -- what stands in a row that is there
  pub in_there : (rows : BTreeMap J (BTreeMap K V)) (row : BTreeMap K V) (at : J) → Some row ≡ look R rows at → (q : K) → look S row q ≡ in_row S (look R rows at) q
  in_there rows row at there q = λ i. in_row S (there i) q

  -- an empty row has what stands where there is no row
  pub in_none : (rows : BTreeMap J (BTreeMap K V)) (row : BTreeMap K V) (at : J) → IsEmpty row → None ≡ look R rows at → (q : K) → look S row q ≡ in_row S (look R rows at) q
  in_none rows row at empty absent q = (λ i. lookup (is_at (S q)) (empty i)) ∙ (λ i. in_row S (absent i) q)

  -- a row, or the empty one where there is none, that is changed at one key
  pub row_changed : (old new : BTreeMap J (BTreeMap K V)) (row changed : BTreeMap K V) (at : J) (key : K) (value : Option V) → ((q : K) → look S row q ≡ in_row S (look R old at) q) → look S changed ≡ written (writes (is_at (S key)) (λ _. value)) (look S row) → look R new ≡ written (writes (is_at (R at)) (λ _. Some changed)) (look R old) → look_in R S new ≡ written (writes (is_at_pair R S at key) (λ _. value)) (look_in R S old)
  row_changed old new row changed at key value was changes puts = fun_ext (λ k. by k.0 k.1 (is_at (R at) k.0) refl)
    where
      by : (j : J) (q : K) (b : Bool) → is_at (R at) j ≡ b → in_row S (get R new j) q ≡ or_old (cond (is_at (R at) j && is_at (S key) q) (Some value) None) (in_row S (get R old j) q)
      by j q true e =
          let n : get R new j ≡ Some changed = ap (λ f. f j) puts ∙ rw e refl in
          let d : get S changed q ≡ or_old (cond (is_at (S key) q) (Some value) None) (in_row S (look R old at) q) = ap (λ f. f q) changes ∙ ap (λ x. or_old (cond (is_at (S key) q) (Some value) None) x) (was q) in
          rw (n, e) (d ∙ ap (λ x. or_old (cond (is_at (S key) q) (Some value) None) (in_row S x q)) (same_found o old at j e))
      by j q false e =
          let n : get R new j ≡ get R old j = ap (λ f. f j) puts ∙ rw e refl in
          rw (n, e) refl

  -- a row that is put in the place of one with the same entries
  pub row_kept : (old new : BTreeMap J (BTreeMap K V)) (row same : BTreeMap K V) (at : J) → Some row ≡ look R old at → look S same ≡ look S row → look R new ≡ written (writes (is_at (R at)) (λ _. Some same)) (look R old) → look_in R S new ≡ look_in R S old
  row_kept old new row same at was keeps puts = fun_ext (λ k. by k.0 k.1 (is_at (R at) k.0) refl)
    where
      by : (j : J) (q : K) (b : Bool) → is_at (R at) j ≡ b → in_row S (get R new j) q ≡ in_row S (get R old j) q
      by j q true e =
          let n : get R new j ≡ Some same = ap (λ f. f j) puts ∙ rw e refl in
          rw n (ap (λ f. f q) keeps ∙ ap (λ x. in_row S x q) (was ∙ same_found o old at j e))
      by j q false e =
          let n : get R new j ≡ get R old j = ap (λ f. f j) puts ∙ rw e refl in
          rw n refl

  -- where there is no row, nothing need be dropped
  pub row_absent : (rows : BTreeMap J (BTreeMap K V)) (at : J) (key : K) → None ≡ look R rows at → look_in R S rows ≡ written (writes (is_at_pair R S at key) (λ _. None)) (look_in R S rows)
  row_absent rows at key absent = fun_ext (λ k. by k.0 k.1 (is_at (R at) k.0) (is_at (S key) k.1) refl)
    where
      by : (j : J) (q : K) (b c : Bool) → is_at (R at) j ≡ b → in_row S (get R rows j) q ≡ or_old (cond (b && c) (Some None) None) (in_row S (get R rows j) q)
      by j q true true e = ap (λ x. in_row S x q) (sym (absent ∙ same_found o rows at j e))
      by j q true false e = refl
      by j q false c e = refl

  -- a row in which nothing stands can be dropped
  pub row_dropped : (old new : BTreeMap J (BTreeMap K V)) (at : J) → ((key : K) → look_in R S old (at, key) ≡ None) → look R new ≡ written (writes (is_at (R at)) (λ _. None)) (look R old) → look_in R S new ≡ look_in R S old
  row_dropped old new at empty gone = fun_ext (λ k. by k.0 k.1 (is_at (R at) k.0) refl)
    where
      by : (j : J) (q : K) (b : Bool) → is_at (R at) j ≡ b → in_row S (get R new j) q ≡ in_row S (get R old j) q
      by j q true e =
          let n : get R new j ≡ None = ap (λ f. f j) gone ∙ rw e refl in
          rw n (sym (empty q) ∙ ap (λ x. in_row S x q) (same_found o old at j e))
      by j q false e =
          let n : get R new j ≡ get R old j = ap (λ f. f j) gone ∙ rw e refl in
          rw n refl
