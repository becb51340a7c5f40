-- Lists of objects with those that bodies, sets, values and notifications name.
use Rattle.std.proofs.Common.{ℕ, ◌≡◌, inl, inr, refl, sym, ◌∙◌, ap, Bool, true, false, cond, eqb, ◌||◌, is_some}
use Rattle.std.proofs.Common.{Option, Some, None, List, [], ◌∷◌, ◌++◌, map}
use Rattle.std.proofs.lemmas.Bool.{or_cases, eqb-true, eq-eqb}
use Rattle.std.proofs.lemmas.List.Folds.{list_any-append}
use Rattle.std.specs.BTreeMap.{is_at}
use Rattle.std.specs.List.{AllByRecursion, list_any}
use Rattle.std.specs.List.Sorted.{IsStrictlySortedBy}
use Rattle.std.specs.Map.{lookup}
use Rattle.std.specs.Ordering.{is_eq, nat_cmp}
use Rattle.std.specs.declared.cmp.Ordering.TheVariants.{Less}
use Rattle.dso_base.specs.declared.record.Body.{Body}
use Rattle.dso_base.specs.declared.record.Note.{Note}
use Rattle.dso_base.specs.declared.record.Set.{Set}
use Rattle.dso_base.specs.declared.value.Value.{Value}
use Rattle.dso_base.specs.Block.{Work, body_in, has_reference}
use Rattle.dso_base.specs.Naming.{body_with_names, note_names, set_names, work_names}
use Rattle.dso_change.specs.Hands.{AreDifferent, IsOnce, hand_of, sets_of, values_of, with_references}
use Rattle.dso_change.proofs.Published.{references_listed}
use Rattle.dso_change.proofs.RisingBodies.{same_bodies}
use Rattle.dso_lookup.proofs.Tests.{left_holds, right_holds, number_at, same_tests}
use Rattle.dso_lookup.specs.Search.{is_listed}
use Rattle.dso_txn.specs.InHand.{hand_in}
use Rattle.dso_txn.specs.NamedInHand.{AddsNamed}
use Rattle.dso_txn.specs.declared.open_block.OpenBlock.{OpenBlock}
use Rattle.dso_txn.specs.declared.privates.Privates.{Privates}

regrouped : (a b c : Bool) → ((a || (b || false)) || c) ≡ (a || (b || c))
regrouped true b c = refl
regrouped false true c = refl
regrouped false false c = refl

or_false : (a : Bool) → (a || false) ≡ a
or_false true = refl
or_false false = refl

or_moved : (a b c : Bool) → ((a || b) || c) ≡ (a || (b || c))
or_moved true b c = refl
or_moved false b c = refl

-- an object with the values beside it
pub object_added : (object : ℕ) (values : List Value) (old : List ℕ) (o : ℕ)
    → is_listed o (with_references values (old ++ object ∷ [])) ≡ (is_listed o old || (eqb object o || has_reference o values))
object_added object values old o = references_listed values (old ++ object ∷ []) o
    ∙ ap (λ b. b || has_reference o values) (list_any-append (λ x. eqb x o) old (object ∷ []))
    ∙ regrouped (is_listed o old) (eqb object o) (has_reference o values)

-- One step of a walk: what is to be named behind it, with what this one names, was to be named before it.
pub one_on : {A : Type 0} (test : A → Bool) (x : A) (xs : List A) (old new all : Bool) → new ≡ (old || test x)
    → (old || list_any test (x ∷ xs)) ≡ all → (new || list_any test xs) ≡ all
one_on test x xs old new all e whole = ap (λ b. b || list_any test xs) e ∙ or_moved old (test x) (list_any test xs) ∙ whole

-- the end of a walk
pub walked : {A : Type 0} (test : A → Bool) (xs : List A) (new all : Bool) → xs ≡ [] → (new || list_any test xs) ≡ all → new ≡ all
walked test xs new all none whole = sym (or_false new) ∙ ap (λ ys. new || list_any test ys) (sym none) ∙ whole

-- ---- different bodies, and a table that has the same

-- what a list of different bodies has of a test is the body of some object
some_body : (test : Body → Bool) (bodies : List Body) → AreDifferent bodies → list_any test bodies ≡ true
    → (o : ℕ) × (body : Body) × (body_in o bodies ≡ Some body) × (test body ≡ true)
some_body test [] differ some = absurd (cc some)
some_body test (first ∷ rest) differ some = elim (or_cases (test first) (list_any test rest) some) [
  | inl h ↦ (first.object, first, ap (λ b. cond b (Some first) (body_in first.object rest)) (eq-eqb first.object first.object refl), h)
  | inr h ↦ let at = some_body test rest differ.1 h in (at.0, at.1, behind at.0 at.1 at.2 (eqb first.object at.0) refl, at.3)
]
  where
    behind : (o : ℕ) (body : Body) → body_in o rest ≡ Some body → (b : Bool) → eqb first.object o ≡ b → cond (eqb first.object o) (Some first) (body_in o rest) ≡ Some body
    behind o body found true is = absurd (cc (sym differ.0 ∙ (ap (λ n. body_in n rest) (eqb-true first.object o is) ∙ found)))
    behind o body found false is = rw is found

-- and the other way round
body_some : (test : Body → Bool) (bodies : List Body) (o : ℕ) (body : Body) → body_in o bodies ≡ Some body → test body ≡ true → list_any test bodies ≡ true
body_some test [] o body found holds = absurd (cc found)
body_some test (first ∷ rest) o body found holds = by (body_some test rest o body) (eqb first.object o) found
  where
    by : (body_in o rest ≡ Some body → test body ≡ true → list_any test rest ≡ true) → (b : Bool) → cond b (Some first) (body_in o rest) ≡ Some body → list_any test (first ∷ rest) ≡ true
    by onward true is = left_holds (test first) (list_any test rest) (let same : first ≡ body = cc is in ap test same ∙ holds)
    by onward false is = right_holds (test first) (list_any test rest) (onward is holds)

-- a key that is greater than another by their order isn't that one
apart : (a b : ℕ) → nat_cmp a b ≡ Less → is_at (nat_cmp b) a ≡ false
apart a b less = number_at b a ∙ by (eqb a b) refl
  where
    by : (t : Bool) → eqb a b ≡ t → t ≡ false
    by true e = absurd (cc (sym (number_at b b ∙ eq-eqb b b refl) ∙ ap (λ n. is_eq (nat_cmp n b)) (sym (eqb-true a b e)) ∙ ap is_eq less))
    by false e = refl

-- what stands behind a key is found there, where all keys behind it are greater
found_behind : (k o : ℕ) (es : List (ℕ × Body)) (body : Body) → AllByRecursion (λ key. nat_cmp k key ≡ Less) (map (λ e. e.0) es)
    → lookup (is_at (nat_cmp o)) es ≡ Some body → is_at (nat_cmp o) k ≡ false
found_behind k o [] body all found = absurd (cc found)
found_behind k o (e ∷ es) body all found = by (found_behind k o es body all.1) (is_at (nat_cmp o) e.0) refl found
  where
    by : (lookup (is_at (nat_cmp o)) es ≡ Some body → is_at (nat_cmp o) k ≡ false) → (b : Bool) → is_at (nat_cmp o) e.0 ≡ b → cond b (Some e.1) (lookup (is_at (nat_cmp o)) es) ≡ Some body → is_at (nat_cmp o) k ≡ false
    by onward true is found =
        let same = eqb-true e.0 o (sym (number_at o e.0) ∙ is) in
        ap (λ n. is_at (nat_cmp n) k) (sym same) ∙ apart k e.0 all.0
    by onward false is found = onward found

-- what a table has of a test is found at some key
some_entry : (test : Body → Bool) (es : List (ℕ × Body)) → IsStrictlySortedBy nat_cmp (map (λ e. e.0) es)
    → list_any test (map (λ e. e.1) es) ≡ true → (o : ℕ) × (body : Body) × (lookup (is_at (nat_cmp o)) es ≡ Some body) × (test body ≡ true)
unfolding IsStrictlySortedBy
some_entry test [] sorted some = absurd (cc some)
some_entry test (e ∷ es) sorted some = elim (or_cases (test e.1) (list_any test (map (λ x. x.1) es)) some) [
  | inl h ↦ (e.0, e.1, ap (λ b. cond b (Some e.1) (lookup (is_at (nat_cmp e.0)) es)) (number_at e.0 e.0 ∙ eq-eqb e.0 e.0 refl), h)
  | inr h ↦
      let at = some_entry test es sorted.1 h in
      (at.0, at.1, ap (λ b. cond b (Some e.1) (lookup (is_at (nat_cmp at.0)) es)) (found_behind e.0 at.0 es at.1 sorted.0 at.2) ∙ at.2, at.3)
]

entry_some : (test : Body → Bool) (es : List (ℕ × Body)) (o : ℕ) (body : Body) → lookup (is_at (nat_cmp o)) es ≡ Some body → test body ≡ true
    → list_any test (map (λ e. e.1) es) ≡ true
entry_some test [] o body found holds = absurd (cc found)
entry_some test (e ∷ es) o body found holds = by (entry_some test es o body) (is_at (nat_cmp o) e.0) found
  where
    by : (lookup (is_at (nat_cmp o)) es ≡ Some body → test body ≡ true → list_any test (map (λ x. x.1) es) ≡ true) → (b : Bool) → cond b (Some e.1) (lookup (is_at (nat_cmp o)) es) ≡ Some body → list_any test (map (λ x. x.1) (e ∷ es)) ≡ true
    by onward true is = left_holds (test e.1) (list_any test (map (λ x. x.1) es)) (let same : e.1 ≡ body = cc is in ap test same ∙ holds)
    by onward false is = right_holds (test e.1) (list_any test (map (λ x. x.1) es)) (onward is holds)

-- a table that finds what is found in different bodies has the same of each test
pub same_any : (test : Body → Bool) (es : List (ℕ × Body)) (bodies : List Body) → IsStrictlySortedBy nat_cmp (map (λ e. e.0) es) → AreDifferent bodies
    → ((o : ℕ) → lookup (is_at (nat_cmp o)) es ≡ body_in o bodies) → list_any test (map (λ e. e.1) es) ≡ list_any test bodies
same_any test es bodies sorted differ same = same_tests (list_any test (map (λ e. e.1) es)) (list_any test bodies)
    (λ some. let at = some_entry test es sorted some in body_some test bodies at.0 at.1 (sym (same at.0) ∙ at.2) at.3)
    (λ some. let at = some_body test bodies differ some in entry_some test es at.0 at.1 (same at.0 ∙ at.2) at.3)

-- ---- the work in hand

-- five parts, one behind the other
five : (old p n s u t : Bool) → (((((old || p) || n) || s) || u) || t) ≡ (old || (p || (n || (s || (u || t)))))
five true p n s u t = refl
five false true n s u t = refl
five false false true s u t = refl
five false false false true u t = refl
five false false false false u t = refl

-- the objects that a thread's private objects and its open block name are those that the work in hand names
pub hand_named : (privates : Privates) (block : OpenBlock) (work : Work) (zero one two three four five : List ℕ)
    → IsStrictlySortedBy nat_cmp (map (λ e. e.0) privates.bodies.entries) → IsStrictlySortedBy nat_cmp (map (λ e. e.0) block.draft.news.entries)
    → AddsNamed (λ o. list_any (λ body. body_with_names body o) (values_of privates.bodies)) zero one
    → AddsNamed (λ o. list_any (λ body. body_with_names body o) (values_of block.draft.news)) one two
    → AddsNamed (λ o. list_any (λ set. set_names set o) (sets_of block.draft.sets)) two three
    → four ≡ with_references block.draft.outs three
    → AddsNamed (λ o. list_any (λ note. note_names note o) block.draft.notes) four five
    → IsOnce work → hand_in privates block ≡ hand_of work → AddsNamed (work_names work) zero five
hand_named privates block work zero one two three four last rising risen own published put printed noted once same o =
    noted o ∙ ap (λ b. b || list_any (λ note. note_names note o) block.draft.notes) (ap (is_listed o) printed ∙ references_listed block.draft.outs three o
    ∙ ap (λ b. b || has_reference o block.draft.outs) (put o ∙ ap (λ b. b || list_any (λ set. set_names set o) (sets_of block.draft.sets)) (published o
    ∙ ap (λ b. b || list_any (λ body. body_with_names body o) (values_of block.draft.news)) (own o))))
    ∙ five (is_listed o zero) (list_any (λ body. body_with_names body o) (values_of privates.bodies)) (list_any (λ body. body_with_names body o) (values_of block.draft.news))
    (list_any (λ set. set_names set o) (sets_of block.draft.sets)) (has_reference o block.draft.outs) (list_any (λ note. note_names note o) block.draft.notes)
    ∙ whole
  where
    privates_same : list_any (λ body. body_with_names body o) (values_of privates.bodies) ≡ list_any (λ body. body_with_names body o) work.privates
    privates_same = same_any (λ body. body_with_names body o) privates.bodies.entries work.privates rising once.privates (λ q. ap (λ hand. hand.privates q) same)

    news_same : values_of block.draft.news ≡ work.news
    news_same = same_bodies block.draft.news.entries work.news risen once.news (λ q. ap (λ hand. hand.news q) same)

    whole : (is_listed o zero || (list_any (λ body. body_with_names body o) (values_of privates.bodies) || (list_any (λ body. body_with_names body o) (values_of block.draft.news)
        || (list_any (λ set. set_names set o) (sets_of block.draft.sets) || (has_reference o block.draft.outs || list_any (λ note. note_names note o) block.draft.notes)))))
        ≡ (is_listed o zero || work_names work o)
    whole =
        let sets_same : sets_of block.draft.sets ≡ work.sets = ap (λ hand. hand.sets) same in
        let outs_same : block.draft.outs ≡ work.outs = ap (λ hand. hand.outs) same in
        let notes_same : block.draft.notes ≡ work.notes = ap (λ hand. hand.notes) same in
        rw (privates_same, news_same, sets_same, outs_same, notes_same) refl
