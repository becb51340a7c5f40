-- A list of objects to which what messages name is added.
use Rattle.std.specs.List.{list_any}
use Rattle.std.specs.Prelude.{OnOk}
use Rattle.std.proofs.Common.{ℕ, suc, ◌+◌, ◌<◌, ◌≡◌, refl, sym, ◌∙◌, ap, Bool, true, false, ◌||◌, List, [], ◌∷◌, ◌++◌, length, slice_index_or, take, arith, Result, Ok, Err}
use Rattle.std.proofs.Math.Seq.{take-suc}
use Rattle.std.proofs.lemmas.List.Folds.{list_any-append}
use Rattle.dso_base.specs.declared.both.Both.{Both}
use Rattle.dso_base.specs.declared.record.Body.{Body}
use Rattle.dso_base.specs.declared.record.Set.{Set}
use Rattle.dso_base.specs.declared.record.Txn.{Txn}
use Rattle.dso_base.specs.declared.value.Value.{Value}
use Rattle.dso_base.specs.Block.{has_reference}
use Rattle.dso_base.specs.Naming.{body_with_names, ending_names, note_names, record_names, set_names}
use Rattle.dso_change.proofs.Published.{references_listed}
use Rattle.dso_change.specs.Hands.{with_references}
use Rattle.dso_lookup.specs.Search.{is_listed}
use Rattle.dso_session.specs.declared.session.Posted.{Posted}
use Rattle.dso_txn.proofs.NamesInHand.{object_added}
use Rattle.dso_txn.specs.NamedInHand.{AddsNamed}
use Rattle.dso_world.specs.Collections.{message_names, posts_name}

either_moved : (a b c : Bool) → ((a || b) || c) ≡ (a || (b || c))
either_moved true b c = refl
either_moved false b c = refl

or_false : (a : Bool) → (a || false) ≡ a
or_false true = refl
or_false false = refl

-- what follows where a call answered Ok
pub ok_then : {A E : Type 0} (r : Result A E) (P Q : Type 0) → (P → Q) → OnOk r P → OnOk r Q
ok_then (Ok x) P Q then p = then p
ok_then (Err e) P Q then p = tt

-- one item more of a list
pub one_more : {A : Type 0} (test : ℕ → A → Bool) (xs : List A) (i : ℕ) (x : A) (all old new : List ℕ) → i < length xs → x ≡ slice_index_or xs i x
    → AddsNamed (λ o. list_any (test o) (take i xs)) all old → AddsNamed (λ o. test o x) old new → AddsNamed (λ o. list_any (test o) (take (i + 1) xs)) all new
one_more test xs i x all old new less is before one o =
    let later : i + 1 ≡ suc i = omega arith in
    let longer = ap (λ n. take n xs) later ∙ (take-suc xs i x less ∙ ap (λ y. take i xs ++ y ∷ []) (sym is)) in
    one o ∙ (ap (λ b. b || test o x) (before o) ∙ (either_moved (is_listed o all) (list_any (test o) (take i xs)) (test o x)
    ∙ ap (λ b. is_listed o all || b) (sym (ap (list_any (test o)) longer ∙ (list_any-append (test o) (take i xs) (x ∷ [])
    ∙ ap (λ b. list_any (test o) (take i xs) || b) (or_false (test o x)))))))

-- what one test tells, and then what another does
pub then_added : (first second : ℕ → Bool) (old between new : List ℕ) → AddsNamed first old between → AddsNamed second between new
    → AddsNamed (λ o. first o || second o) old new
then_added first second old between new one two o =
    two o ∙ (ap (λ b. b || second o) (one o) ∙ either_moved (is_listed o old) (first o) (second o))

pub values_added : (values : List Value) (old new : List ℕ) → new ≡ with_references values old → AddsNamed (λ o. has_reference o values) old new
values_added values old new is o = ap (is_listed o) is ∙ references_listed values old o

pub body_added : (body : Body) (old new : List ℕ) → new ≡ with_references body.values (old ++ body.object ∷ []) → AddsNamed (body_with_names body) old new
body_added body old new is o = ap (is_listed o) is ∙ object_added body.object body.values old o

pub set_added : (set : Set) (old new : List ℕ) → new ≡ with_references (set.value ∷ []) (old ++ set.object ∷ []) → AddsNamed (set_names set) old new
set_added set old new is o = ap (is_listed o) is ∙ object_added set.object (set.value ∷ []) old o

-- a record, part by part
pub record_added : (txn : Txn) (old news sets outs notes new : List ℕ) → AddsNamed (λ o. list_any (λ body. body_with_names body o) txn.news) old news
    → AddsNamed (λ o. list_any (λ set. set_names set o) txn.sets) news sets → outs ≡ with_references txn.outs sets
    → AddsNamed (λ o. list_any (λ note. note_names note o) txn.notes) outs notes → AddsNamed (ending_names txn.ending) notes new → AddsNamed (record_names txn) old new
record_added txn old news sets outs notes new bodies fields values notices ending =
    then_added (λ o. list_any (λ body. body_with_names body o) txn.news) (λ o. list_any (λ set. set_names set o) txn.sets || (has_reference o txn.outs || (list_any (λ note. note_names note o) txn.notes || ending_names txn.ending o))) old news new bodies
    (then_added (λ o. list_any (λ set. set_names set o) txn.sets) (λ o. has_reference o txn.outs || (list_any (λ note. note_names note o) txn.notes || ending_names txn.ending o)) news sets new fields
    (then_added (λ o. has_reference o txn.outs) (λ o. list_any (λ note. note_names note o) txn.notes || ending_names txn.ending o) sets outs new (values_added txn.outs sets outs values)
    (then_added (λ o. list_any (λ note. note_names note o) txn.notes) (ending_names txn.ending) outs notes new notices ending)))

-- the messages of two parts
pub posts_added : (first second : List (Posted Both)) (old between new : List ℕ) → AddsNamed (λ o. list_any (λ posted. message_names posted.message o) first) old between
    → AddsNamed (λ o. list_any (λ posted. message_names posted.message o) second) between new → AddsNamed (posts_name (first ++ second)) old new
posts_added first second old between new one two o =
    then_added (λ o. list_any (λ posted. message_names posted.message o) first) (λ o. list_any (λ posted. message_names posted.message o) second) old between new one two o
    ∙ ap (λ b. is_listed o old || b) (sym (list_any-append (λ posted. message_names posted.message o) first second))
