-- The ids that a client makes are of the batches that were given to it.
use Rattle.std.specs.List.{list_any}
use Rattle.std.proofs.Common.{ℕ, ◌+◌, ◌-◌, ◌≡◌, refl, sym, ◌∙◌, subst, Bool, true, false, cond, eqb, ◌&&◌, ◌||◌, Some, List, [], ◌∷◌, ◌++◌, arith}
use Rattle.std.specs.Prelude.{leb, ltb}
use Rattle.std.proofs.lemmas.Bool.Decides.{nat_tests}
use Rattle.dso_base.specs.declared.journal.Entry.{Entry}
use Rattle.dso_base.specs.declared.journal.Node.TheVariants.{Server, Client}
use Rattle.dso_base.specs.declared.journal.Sent.{Sent}
use Rattle.dso_base.specs.declared.journal.Sent.TheVariants.{ToServer, ToClient}
use Rattle.dso_base.specs.declared.message.Down.{Down}
use Rattle.dso_base.specs.declared.message.Down.TheVariants as down
use Rattle.dso_plain.proofs.keys.SameKeys.{same_number, number_self}
use Rattle.dso_law.specs.Entries.{entries_of, by_sent_down}
use Rattle.dso_law.specs.Channels.{up_in_flight, down_in_flight}
use Rattle.dso_law.specs.Records.{batches_by_taken, batches, made, id_at}
use Rattle.dso_law.specs.ServerReadings.{counted, Batch, batch_by, batches_given, is_in_batch}
use Rattle.dso_legal.specs.Agreement.{messages, after}
use Rattle.dso_legal.specs.Batches.{given_by, given_to}
use Rattle.dso_legal.specs.GivenOnce.{IdsAreOfBatches}
use Rattle.dso_legal.proofs.ids.Batches.{batches_stay_in_order}
use Rattle.dso_legal.proofs.records.Numbered.{after_unchanged}

-- whether the id is of the batch that begins so
abbrev pub is_of : ℕ → ℕ → Bool
is_of o first = leb first o && ltb o (first + 256)

-- an id of the batch
id_is_of : (first n o : ℕ) → ltb n 256 ≡ true → first + n ≡ o → is_of o first ≡ true
id_is_of first n o lt e = grind (arith, nat_tests)

-- an id in order is of one of the batches
pub id_in : (q : List ℕ) (n o : ℕ) → id_at q n ≡ Some o → list_any (is_of o) q ≡ true
id_in [] n o e = absurd (cc e)
id_in (first ∷ rest) n o e = by (ltb n 256) refl e (id_in rest (n - 256) o)
  where
    here : (t : Bool) → t ≡ true → (t || list_any (is_of o) rest) ≡ true
    here true e = refl
    here false e = absurd (cc e)

    later : (t : Bool) → list_any (is_of o) rest ≡ true → (t || list_any (is_of o) rest) ≡ true
    later true e = refl
    later false e = e

    by : (b : Bool) → ltb n 256 ≡ b → cond b (Some (first + n)) (id_at rest (n - 256)) ≡ Some o → (id_at rest (n - 256) ≡ Some o → list_any (is_of o) rest ≡ true) → (is_of o first || list_any (is_of o) rest) ≡ true
    by true lt e rest_in = here (is_of o first) (id_is_of first n o lt (cc e))
    by false lt e rest_in = later (is_of o first) (rest_in e)

-- what is in a list is in a longer one
pub has_more : {X : Type 0} (test : X → Bool) (xs ys : List X) → list_any test xs ≡ true → list_any test (xs ++ ys) ≡ true
has_more test [] ys e = absurd (cc e)
has_more test (x ∷ xs) ys e = by (test x) e (has_more test xs ys)
  where
    by : (b : Bool) → (b || list_any test xs) ≡ true → (list_any test xs ≡ true → list_any test (xs ++ ys) ≡ true) → (b || list_any test (xs ++ ys)) ≡ true
    by true e later = refl
    by false e later = later e

taken_more : (test : ℕ → Bool) (m : Down) (q : List ℕ) → list_any test q ≡ true → list_any test (batches_by_taken m q) ≡ true
taken_more test (down.Ids first) q e = has_more test q (first ∷ []) e
taken_more test m q e = e

pub after_more : (test : ℕ → Bool) (ms : List Down) (q : List ℕ) → list_any test q ≡ true → list_any test (after batches_by_taken ms q) ≡ true
after_more test [] q e = e
after_more test (m ∷ ms) q e = after_more test ms (batches_by_taken m q) (taken_more test m q e)

-- what is in a list with one more is that one or in the list
has_one_more : (test : ℕ → Bool) (xs : List ℕ) (x : ℕ) → list_any test (xs ++ x ∷ []) ≡ true → (test x || list_any test xs) ≡ true
has_one_more test [] x e = e
has_one_more test (y ∷ xs) x e = by (test y) (test x) e (has_one_more test xs x)
  where
    by : (a b : Bool) → (a || list_any test (xs ++ x ∷ [])) ≡ true → (list_any test (xs ++ x ∷ []) ≡ true → (b || list_any test xs) ≡ true) → (b || (a || list_any test xs)) ≡ true
    by a true e later = refl
    by true false e later = refl
    by false false e later = later e

-- whether a batch is the client's and has the id
abbrev pub gives : ℕ → ℕ → Batch → Bool
gives c o batch = eqb batch.client c && is_in_batch o batch

-- An id of one of the firsts is of one of the client's batches.
abbrev pub Covers : ℕ → ℕ → List ℕ → List Batch → Type 0
Covers c o firsts given = list_any (is_of o) firsts ≡ true → list_any (gives c o) given ≡ true

-- one more batch, to the client or another
covers_ids : (b : Bool) (c o d first : ℕ) (firsts : List ℕ) (given : List Batch) → eqb c d ≡ b → Covers c o firsts given
    → Covers c o (cond b (firsts ++ first ∷ []) firsts) (record { client = d; first = first } ∷ given)
covers_ids true c o d first firsts given e h in_it = by (is_of o first) (eqb d c) (subst (λ n. eqb n c ≡ true) (same_number c d e) (number_self c)) (has_one_more (is_of o) firsts first in_it) h
  where
    by : (a b : Bool) → b ≡ true → (a || list_any (is_of o) firsts) ≡ true → (list_any (is_of o) firsts ≡ true → list_any (gives c o) given ≡ true) → ((b && a) || list_any (gives c o) given) ≡ true
    by true true own f later = refl
    by false true own f later = later f
    by a false own f later = absurd (cc own)
covers_ids false c o d first firsts given e h in_it = by (gives c o (record { client = d; first = first })) (h in_it)
  where
    by : (b : Bool) → list_any (gives c o) given ≡ true → (b || list_any (gives c o) given) ≡ true
    by true f = refl
    by false f = f

-- a message that gives none
covers_same : (b : Bool) (c o : ℕ) (firsts : List ℕ) (given : List Batch) → Covers c o firsts given → Covers c o (cond b firsts firsts) given
covers_same true c o firsts given h = h
covers_same false c o firsts given h = h

covers_message : (c o d : ℕ) (m : Down) (firsts : List ℕ) (given : List Batch) → Covers c o firsts given → Covers c o (given_by c d m firsts) (batch_by d m given)
covers_message c o d (down.Ids first) firsts given h = covers_ids (eqb c d) c o d first firsts given refl h
covers_message c o d m firsts given h = covers_same (eqb c d) c o firsts given h

covers_sent : (c o : ℕ) (out : List Sent) (firsts : List ℕ) (given : List Batch) → Covers c o firsts given → Covers c o (by_sent_down (given_by c) out firsts) (by_sent_down batch_by out given)
covers_sent c o [] firsts given h = h
covers_sent c o (ToServer m ∷ out) firsts given h = covers_sent c o out firsts given h
covers_sent c o (ToClient d m ∷ out) firsts given h = covers_sent c o out (given_by c d m firsts) (batch_by d m given) (covers_message c o d m firsts given h)

-- over the server's entries
pub covers_all : (c o : ℕ) (es : List Entry) → Covers c o (given_to c es) (batches_given es)
covers_all c o [] = λ e. absurd (cc e)
covers_all c o (e ∷ es) = covers_sent c o e.sent (given_to c es) (batches_given es) (covers_all c o es)

pub ids_are_of_batches : IdsAreOfBatches
ids_are_of_batches p next es h c o alive e =
    let order = (batches_stay_in_order p next es h c alive).above in
    let client = entries_of (Client c) es in
    let server = counted (entries_of Server es) in
    let mine : list_any (is_of o) (batches client) ≡ true = id_in (batches client) (made client) o e in
    let told : list_any (is_of o) (after batches_by_taken (messages (down_in_flight c es)) (batches client)) ≡ true = after_more (is_of o) (messages (down_in_flight c es)) (batches client) mine in
    covers_all c o server (subst (λ q. list_any (is_of o) q ≡ true) (sym (sym (after_unchanged (messages (up_in_flight c es)) (given_to c server)) ∙ order.meet)) told)
