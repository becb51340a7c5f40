-- The objects that are found from a value are made shared one after the other.
use Rattle.std.proofs.Common.{ℕ, ◌<◌, ◌≡◌, ◌↔◌, refl, sym, ◌∙◌, ap, subst, Bool, true, false, cond, eqb, ltb, ◌||◌, is_some, IsTrue, Option, Some, None, List, [], ◌∷◌, length, arith}
use Rattle.std.proofs.lemmas.Bool.{eqb-true}
use Rattle.std.proofs.Math.Path.{fun_ext}
use Rattle.std.specs.List.{list_any}
use Rattle.std.specs.Ordering.{nat_cmp}
use Rattle.std.specs.BTreeSet.{BTreeSet, contains, Updates}
use Rattle.std.specs.BTreeMap.{is_at}
use Rattle.dso_base.specs.declared.lock.ThreadId.{ThreadId}
use Rattle.dso_base.specs.declared.value.Value.{Value}
use Rattle.dso_base.specs.Reach.{Reached}
use Rattle.dso_lookup.specs.Maps.{or_old}
use Rattle.dso_lookup.proofs.Tests.{number_at, same_tests, left_holds, right_holds}
use Rattle.dso_plain.specs.State.{Object, PlainState, is_mine, is_shared, size_of}
use Rattle.dso_plain.specs.StepInvariants.{PastInvariant}
use Rattle.dso_plain.specs.Past.{newest}
use Rattle.dso_plain.specs.After.{published, names, shared, present}
use Rattle.dso_plain.specs.Publishing.{with_shared, HasItsFields}
use Rattle.dso_plain.proofs.publishing.PublishedIsReached.{published_is_reached}
use Rattle.dso_plain.proofs.invariants.PastsHold.{shared_size}

-- sharing twice is sharing
shared_twice : (object : Option Object) → shared (shared object) ≡ shared object
shared_twice None = refl
shared_twice (Some object) = refl

-- sharing one object more
one_shared : (m : ℕ → Bool) (s : PlainState) (o : ℕ) → with_shared (λ x. eqb x o) (with_shared m s) ≡ with_shared (λ x. eqb x o || m x) s
one_shared m s o =
    let objects = fun_ext (λ x. object x (eqb x o) (m x)) in
    let pasts = fun_ext (λ (key : ℕ × ℕ). past key (eqb key.0 o) (m key.0)) in
    λ i. record s { objects = objects i; past = pasts i }
  where
    object : (x : ℕ) (a b : Bool) → or_old (cond a (Some (shared (or_old (cond b (Some (shared (s.objects x))) None) (s.objects x)))) None) (or_old (cond b (Some (shared (s.objects x))) None) (s.objects x)) ≡ or_old (cond (a || b) (Some (shared (s.objects x))) None) (s.objects x)
    object x true true = shared_twice (s.objects x)
    object x true false = refl
    object x false b = refl

    past : (key : ℕ × ℕ) (a b : Bool) → or_old (cond a (Some (present (s.heap key))) None) (or_old (cond b (Some (present (s.heap key))) None) (s.past key)) ≡ or_old (cond (a || b) (Some (present (s.heap key))) None) (s.past key)
    past key true b = refl
    past key false b = refl

-- How far it has come: the objects that are marked are shared, and they and those that are left are all.
pub record SharesSoFar (all : BTreeSet ℕ) (s n : PlainState) (left : BTreeSet ℕ) : Type 0 where
  pub marks : ℕ → Bool
  pub is : n ≡ with_shared marks s
  pub rest : (x : ℕ) → (marks x || contains nat_cmp left x) ≡ contains nat_cmp all x

-- before any of them is shared
pub shares_first : (all : BTreeSet ℕ) (s : PlainState) → SharesSoFar all s s all
shares_first all s = record { marks = λ _. false; is = refl; rest = λ x. refl }

-- one object is shared
pub shares_next : (all left rest : BTreeSet ℕ) (s n r : PlainState) (o : ℕ) → SharesSoFar all s n left → contains nat_cmp left o ≡ true → Updates nat_cmp left rest o false → r ≡ with_shared (λ x. eqb x o) n → SharesSoFar all s r rest
shares_next all left rest s n r o p there updates e = record {
  marks = λ x. eqb x o || p.marks x;
  is = e ∙ (ap (λ x. with_shared (λ y. eqb y o) x) p.is ∙ one_shared p.marks s o);
  rest = λ x. ap (λ b. (eqb x o || p.marks x) || b) (updates.0 x ∙ ap (λ b. cond b false (contains nat_cmp left x)) (number_at o x)) ∙ by x (eqb x o) refl;
}
  where
    by : (x : ℕ) (b : Bool) → eqb x o ≡ b → ((b || p.marks x) || cond b false (contains nat_cmp left x)) ≡ contains nat_cmp all x
    by x true d = sym (ap (λ y. contains nat_cmp all y) (eqb-true x o d) ∙ sym (p.rest o) ∙ right_holds (p.marks o) (contains nat_cmp left o) there)
    by x false d = p.rest x

-- a set with no keys
none_left : (left : BTreeSet ℕ) → (0 < length left.keys → ⊥) → (x : ℕ) → contains nat_cmp left x ≡ false
none_left left none x = by left.keys none
  where
    by : (keys : List ℕ) → (0 < length keys → ⊥) → list_any (is_at (nat_cmp x)) keys ≡ false
    by [] h = refl
    by (key ∷ keys) h = absurd (h (omega arith))

-- where the second of two tests fails, the first decides
alone : (a b : Bool) → b ≡ false → (a || b) ≡ a
alone true b e = refl
alone false b e = e

-- where none is left, what was shared is what is published
pub shares_all : (t : ThreadId) (v : Value) (s n : PlainState) (all left : BTreeSet ℕ) → PastInvariant s → ((o : ℕ) → IsTrue (contains nat_cmp all o) ↔ Reached (is_mine t s) (names s) v o) → SharesSoFar all s n left → (0 < length left.keys → ⊥) → n ≡ with_shared (published t v s) s
shares_all t v s n all left kept reached p none = p.is ∙ ap (λ m. with_shared m s) (fun_ext (λ x. same_tests (p.marks x) (published t v s x) (to x) (from x)))
  where
    tells : (x : ℕ) → (published t v s x ≡ true) ↔ Reached (is_mine t s) (names s) v x
    tells x = published_is_reached t v s x (kept.private_listed t)

    to : (x : ℕ) → p.marks x ≡ true → published t v s x ≡ true
    to x m = (tells x).1 ((reached x).0 (sym (p.rest x) ∙ left_holds (p.marks x) (contains nat_cmp left x) m))

    from : (x : ℕ) → published t v s x ≡ true → p.marks x ≡ true
    from x m = sym (alone (p.marks x) (contains nat_cmp left x) (none_left left none x)) ∙ (p.rest x ∙ (reached x).1 ((tells x).0 m))

-- a value that is not there has no past
not_there : (v : Option Value) → is_some v ≡ false → present v ≡ []
not_there None e = refl
not_there (Some v) e = absurd (cc e)

-- a past without a newest value is empty
no_newest : (past : List Value) (v : Option Value) → newest past ≡ v → is_some v ≡ false → past ≡ []
no_newest [] v e d = refl
no_newest (w ∷ past) v e d = absurd (cc (sym d ∙ ap (λ x. is_some x) (sym e)))

-- while objects are shared, each has its fields as before
pub its_fields : (all left : BTreeSet ℕ) (s n : PlainState) → PastInvariant s → SharesSoFar all s n left → (o : ℕ) → HasItsFields o n
its_fields all left s n kept p o = subst (λ r. HasItsFields o r) (sym p.is) record {
  values = λ f. kept.fields o f ∙ ap (λ k. ltb f k) (sym (same_size (p.marks o)));
  no_other_past = λ f out. by f (p.marks o) (kept.fields o f ∙ ap (λ k. ltb f k) (sym (same_size (p.marks o))) ∙ out);
}
  where
    same_size : (b : Bool) → size_of (or_old (cond b (Some (shared (s.objects o))) None) (s.objects o)) ≡ size_of (s.objects o)
    same_size true = shared_size (s.objects o)
    same_size false = refl

    unpublished : (f : ℕ) (b : Bool) → is_shared (s.objects o) ≡ b → is_some (s.heap (o, f)) ≡ false → s.past (o, f) ≡ []
    unpublished f true is none = no_newest (s.past (o, f)) (s.heap (o, f)) (kept.newest_is_heap o f is) none
    unpublished f false is none = kept.none_before o f is

    by : (f : ℕ) (b : Bool) → is_some (s.heap (o, f)) ≡ false → or_old (cond b (Some (present (s.heap (o, f)))) None) (s.past (o, f)) ≡ []
    by f true none = not_there (s.heap (o, f)) none
    by f false none = unpublished f (is_shared (s.objects o)) refl none
