-- What the tables keep after a change stands for the work after it.
use Rattle.std.proofs.Common.{ℕ, ◌<◌, ◌≡◌, refl, sym, ◌∙◌, ap, Bool, true, false, cond, eqb, ltb, is_some, Some, None, List, [], ◌∷◌, ◌++◌, map, filter, ◌&&◌, ◌||◌, arith}
use Rattle.std.proofs.Math.Path.{fun_ext}
use Rattle.std.proofs.lemmas.Bool.{eqb-true, eq-eqb, lt-ltb, le-ltb}
use Rattle.std.specs.BTreeMap.{BTreeMap, is_at, insert_entry, IsOrdered}
use Rattle.std.specs.BTreeSet.{BTreeSet, contains}
use Rattle.std.specs.Cmp.{ranked}
use Rattle.std.specs.Map.{lookup}
use Rattle.std.specs.Ordering.{nat_cmp, ordering_then, match_ordering}
use Rattle.std.specs.declared.cmp.Ordering.{Ordering}
use Rattle.std.specs.declared.cmp.Ordering.TheVariants.{Less, Equal, Greater}
use Rattle.dso_base.specs.declared.lock.LockName.{LockName}
use Rattle.dso_base.specs.declared.lock.ThreadId.{ThreadId}
use Rattle.dso_base.specs.declared.record.Body.{Body}
use Rattle.dso_base.specs.declared.record.Choice.{Choice}
use Rattle.dso_base.specs.declared.record.Ending.{Ending}
use Rattle.dso_base.specs.declared.record.Note.{Note}
use Rattle.dso_base.specs.declared.record.Set.{Set}
use Rattle.dso_base.specs.declared.value.Value.{Value}
use Rattle.dso_base.specs.Block.{Work, body_in, with_value, insert_set, is_published, insert_bodies, publish, put_shared, put, noted, start}
use Rattle.dso_change.specs.declared.draft.Draft.{Draft}
use Rattle.dso_change.specs.Hands.{Bodies, hand_of, hand_in, set_of_entry, sets_of, values_of, record_from, IsBlank, with_field_at, either, kept, joined, IsOnce}
use Rattle.dso_change.proofs.BodyLists.{value_written, kept_found, moved_found, inserts_found}
use Rattle.dso_change.proofs.RisingBodies.{different_moved, same_bodies}
use Rattle.dso_lookup.specs.Maps.{look, writes, or_old, written}
use Rattle.dso_lookup.proofs.Tests.{number_at}

-- what the order of two numbers tells: the first is less
less_told : (a b : ℕ) → Less ≡ nat_cmp a b → (eqb a b ≡ false) × (ltb a b ≡ true)
less_told a b e =
    let h = ranked a b Less e in
    (by h (eqb a b) refl, lt-ltb a b h)
  where
    by : a < b → (t : Bool) → eqb a b ≡ t → t ≡ false
    by h true is =
        let k = eqb-true a b is in
        absurd (omega arith)
    by h false is = refl

-- they are equal
equal_told : (a b : ℕ) → Equal ≡ nat_cmp a b → (eqb a b ≡ true) × (ltb a b ≡ false) × (a ≡ b)
equal_told a b e =
    let h = ranked a b Equal e in
    (eq-eqb a b h, le-ltb a b (omega arith), h)

-- the first is greater
greater_told : (a b : ℕ) → Greater ≡ nat_cmp a b → (eqb a b ≡ false) × (ltb a b ≡ false)
greater_told a b e =
    let h = ranked a b Greater e in
    (by h (eqb a b) refl, le-ltb a b (omega arith))
  where
    by : b < a → (t : Bool) → eqb a b ≡ t → t ≡ false
    by h true is =
        let k = eqb-true a b is in
        absurd (omega arith)
    by h false is = refl

-- an entry that is put in its place is a set that is put in its place
pub entry_inserted : (o f : ℕ) (v : Value) (es : List ((ℕ × ℕ) × Value)) → map set_of_entry (insert_entry (λ a b. ordering_then (nat_cmp a.0 b.0) (nat_cmp a.1 b.1)) es (o, f) v) ≡ insert_set (record { object = o; field = f; value = v }) (map set_of_entry es)
entry_inserted o f v [] = refl
entry_inserted o f v (e ∷ es) = by (nat_cmp o e.0.0) (nat_cmp f e.0.1) refl refl (entry_inserted o f v es)
  where
    set : Set
    set = record { object = o; field = f; value = v }

    same_set : eqb o e.0.0 ≡ true → ltb o e.0.0 ≡ false → eqb f e.0.1 ≡ true → o ≡ e.0.0 → f ≡ e.0.1
        → set_of_entry (e.0, v) ∷ map set_of_entry es ≡ cond (eqb o e.0.0 && eqb f e.0.1) (set ∷ map set_of_entry es) (cond (ltb o e.0.0 || (eqb o e.0.0 && ltb f e.0.1)) (set ∷ set_of_entry e ∷ map set_of_entry es) (set_of_entry e ∷ insert_set set (map set_of_entry es)))
    same_set a b c object field = rw (a, c) (λ i. record { object = sym object i; field = sym field i; value = v } ∷ map set_of_entry es)

    by : (r s : Ordering) → r ≡ nat_cmp o e.0.0 → s ≡ nat_cmp f e.0.1
        → map set_of_entry (insert_entry (λ a b. ordering_then (nat_cmp a.0 b.0) (nat_cmp a.1 b.1)) es (o, f) v) ≡ insert_set set (map set_of_entry es)
        → map set_of_entry (match_ordering (ordering_then r s) (((o, f), v) ∷ e ∷ es) ((e.0, v) ∷ es) (e ∷ insert_entry (λ a b. ordering_then (nat_cmp a.0 b.0) (nat_cmp a.1 b.1)) es (o, f) v))
        ≡ cond (eqb o e.0.0 && eqb f e.0.1) (set ∷ map set_of_entry es) (cond (ltb o e.0.0 || (eqb o e.0.0 && ltb f e.0.1)) (set ∷ set_of_entry e ∷ map set_of_entry es) (set_of_entry e ∷ insert_set set (map set_of_entry es)))
    by Less s first second rest = let h = less_told o e.0.0 first in rw (h.0, h.1) refl
    by Greater s first second rest = let h = greater_told o e.0.0 first in rw (h.0, h.1) (ap (λ sets. set_of_entry e ∷ sets) rest)
    by Equal Less first second rest = let h = equal_told o e.0.0 first in let k = less_told f e.0.1 second in rw (h.0, h.1, k.0, k.1) refl
    by Equal Equal first second rest = let h = equal_told o e.0.0 first in let k = equal_told f e.0.1 second in same_set h.0 h.1 k.0 h.2 k.2
    by Equal Greater first second rest = let h = equal_told o e.0.0 first in let k = greater_told f e.0.1 second in rw (h.0, h.1, k.0, k.1) (ap (λ sets. set_of_entry e ∷ sets) rest)

module _ (privates : Bodies) (draft : Draft) (work : Work) (same : hand_in privates draft ≡ hand_of work) where
  -- the private objects
  pub same_privates : look nat_cmp privates ≡ (λ o. body_in o work.privates)
  same_privates = ap (λ hand. hand.privates) same

  -- the objects published
  pub same_news : look nat_cmp draft.news ≡ (λ o. body_in o work.news)
  same_news = ap (λ hand. hand.news) same

  -- a field of a private object was written
  pub private_written : (new : Bodies) (o f : ℕ) (v : Value) → look nat_cmp new ≡ with_field_at o f v (look nat_cmp privates) → hand_in new draft ≡ hand_of (record work { privates = with_value o f v work.privates })
  private_written new o f v writes = λ i. record (same i) { privates = (writes ∙ (ap (λ bodies. with_field_at o f v bodies) same_privates ∙ value_written o f v work.privates)) i }

  -- a field of an object published was written
  pub new_written : (news : Bodies) (o f : ℕ) (v : Value) → look nat_cmp news ≡ with_field_at o f v (look nat_cmp draft.news) → hand_in privates (record draft { news = news }) ≡ hand_of (record work { news = with_value o f v work.news })
  new_written news o f v writes = λ i. record (same i) { news = (writes ∙ (ap (λ bodies. with_field_at o f v bodies) same_news ∙ value_written o f v work.news)) i }

  -- a set was put in its place
  pub set_written : (sets : BTreeMap (ℕ × ℕ) Value) (set : Set) → sets_of sets ≡ insert_set set (sets_of draft.sets) → hand_in privates (record draft { sets = sets }) ≡ hand_of (record work { sets = insert_set set work.sets })
  set_written sets set writes = λ i. record (same i) { sets = (writes ∙ ap (λ list. insert_set set list) (ap (λ hand. hand.sets) same)) i }

  -- an object was made
  pub body_made : (new : Bodies) (body : Body) → look nat_cmp new ≡ written (writes (is_at (nat_cmp body.object)) (λ _. Some body)) (look nat_cmp privates) → hand_in new draft ≡ hand_of (record work { privates = body ∷ work.privates })
  body_made new body puts = λ i. record (same i) { privates = (puts ∙ (ap (λ bodies. written (writes (is_at (nat_cmp body.object)) (λ _. Some body)) bodies) same_privates ∙ fun_ext (λ q. found q))) i }
    where
      found : (q : ℕ) → or_old (cond (is_at (nat_cmp body.object) q) (Some (Some body)) None) (body_in q work.privates) ≡ cond (eqb body.object q) (Some body) (body_in q work.privates)
      found q = ap (λ b. or_old (cond b (Some (Some body)) None) (body_in q work.privates)) (number_at body.object q ∙ flip (eqb q body.object) (eqb body.object q) refl refl) ∙ by (eqb body.object q)
        where
          by : (b : Bool) → or_old (cond b (Some (Some body)) None) (body_in q work.privates) ≡ cond b (Some body) (body_in q work.privates)
          by true = refl
          by false = refl

          flip : (a b : Bool) → eqb q body.object ≡ a → eqb body.object q ≡ b → a ≡ b
          flip true b e d = sym (eq-eqb body.object q (sym (eqb-true q body.object e))) ∙ d
          flip false true e d = absurd (cc (sym e ∙ eq-eqb q body.object (sym (eqb-true body.object q d))))
          flip false false e d = refl

  -- what a value publishes was moved
  pub published_moved : (new news : Bodies) (v : Value) (found : BTreeSet ℕ) → IsOnce work → ((o : ℕ) → contains nat_cmp found o ≡ is_published work.privates v o) → look nat_cmp new ≡ kept (contains nat_cmp found) (look nat_cmp privates) → look nat_cmp news ≡ joined (contains nat_cmp found) (look nat_cmp privates) (look nat_cmp draft.news) → hand_in new (record draft { news = news }) ≡ hand_of (publish v work)
  published_moved new news v found once tells keeps joins = λ i. record (same i) { privates = stays i; news = goes i }
    where
      test : ℕ → Bool
      test = is_published work.privates v

      all : contains nat_cmp found ≡ test
      all = fun_ext tells

      stays : look nat_cmp new ≡ (λ o. body_in o (publish v work).privates)
      stays = keeps ∙ ((λ i. kept (all i) (same_privates i)) ∙ fun_ext (λ o. sym (kept_found test work.privates o)))

      goes : look nat_cmp news ≡ (λ o. body_in o (publish v work).news)
      goes = joins ∙ ((λ i. joined (all i) (same_privates i) (same_news i)) ∙ fun_ext (λ o. moves o))
        where
          moved : List Body
          moved = filter (λ body. test body.object) work.privates

          apart : (o : ℕ) → is_some (body_in o moved) ≡ true → body_in o work.news ≡ None
          apart o there = once.apart o (by (test o) (ap (λ x. is_some x) (sym (moved_found test work.privates o)) ∙ there))
            where
              by : (b : Bool) → is_some (cond b (body_in o work.privates) None) ≡ true → is_some (body_in o work.privates) ≡ true
              by true e = e
              by false e = absurd (cc e)

          moves : (o : ℕ) → joined test (λ q. body_in q work.privates) (λ q. body_in q work.news) o ≡ body_in o (insert_bodies moved work.news)
          moves o = by (test o) ∙ sym (inserts_found moved work.news o (different_moved test work.privates once.privates) apart ∙ ap (λ x. either x (body_in o work.news)) (moved_found test work.privates o))
            where
              by : (b : Bool) → cond b (either (body_in o work.privates) (body_in o work.news)) (body_in o work.news) ≡ either (cond b (body_in o work.privates) None) (body_in o work.news)
              by true = refl
              by false = refl

  -- a put into an object that was published in the block
  pub new_put : (news : Bodies) (o f : ℕ) (v : Value) → is_some (look nat_cmp draft.news o) ≡ true → look nat_cmp news ≡ with_field_at o f v (look nat_cmp draft.news) → hand_in privates (record draft { news = news }) ≡ hand_of (put_shared o f v work)
  new_put news o f v there writes = new_written news o f v writes ∙ ap (λ w. hand_of w) (by (is_some (body_in o work.news)) (ap (λ bodies. is_some (bodies o)) (sym same_news) ∙ there))
    where
      by : (b : Bool) → b ≡ true → record work { news = with_value o f v work.news } ≡ cond b (record work { news = with_value o f v work.news }) (record work { sets = insert_set (record { object = o; field = f; value = v }) work.sets })
      by true e = refl
      by false e = absurd (cc e)

  -- a put into an object that was shared before
  pub set_put : (sets : BTreeMap (ℕ × ℕ) Value) (o f : ℕ) (v : Value) → is_some (look nat_cmp draft.news o) ≡ false → sets_of sets ≡ insert_set (record { object = o; field = f; value = v }) (sets_of draft.sets) → hand_in privates (record draft { sets = sets }) ≡ hand_of (put_shared o f v work)
  set_put sets o f v there writes = set_written sets (record { object = o; field = f; value = v }) writes ∙ ap (λ w. hand_of w) (by (is_some (body_in o work.news)) (ap (λ bodies. is_some (bodies o)) (sym same_news) ∙ there))
    where
      by : (b : Bool) → b ≡ false → record work { sets = insert_set (record { object = o; field = f; value = v }) work.sets } ≡ cond b (record work { news = with_value o f v work.news }) (record work { sets = insert_set (record { object = o; field = f; value = v }) work.sets })
      by true e = absurd (cc e)
      by false e = refl

  -- a put into a private object
  pub private_put : (new : Bodies) (o f : ℕ) (v : Value) → is_some (look nat_cmp privates o) ≡ true → look nat_cmp new ≡ with_field_at o f v (look nat_cmp privates) → hand_in new draft ≡ hand_of (put o f v work)
  private_put new o f v there writes = private_written new o f v writes ∙ ap (λ w. hand_of w) (by (is_some (body_in o work.privates)) (ap (λ bodies. is_some (bodies o)) (sym same_privates) ∙ there))
    where
      by : (b : Bool) → b ≡ true → record work { privates = with_value o f v work.privates } ≡ cond b (record work { privates = with_value o f v work.privates }) (publish v (put_shared o f v work))
      by true e = refl
      by false e = absurd (cc e)

  -- another put is one into a shared object
  pub shared_put : (o f : ℕ) (v : Value) → is_some (look nat_cmp privates o) ≡ false → publish v (put_shared o f v work) ≡ put o f v work
  shared_put o f v there = by (is_some (body_in o work.privates)) (ap (λ bodies. is_some (bodies o)) (sym same_privates) ∙ there)
    where
      by : (b : Bool) → b ≡ false → publish v (put_shared o f v work) ≡ cond b (record work { privates = with_value o f v work.privates }) (publish v (put_shared o f v work))
      by true e = absurd (cc e)
      by false e = refl

  -- one more value was printed
  pub value_printed : (outs : List Value) (v : Value) → outs ≡ draft.outs ++ v ∷ [] → hand_in privates (record draft { outs = outs }) ≡ hand_of (record work { outs = work.outs ++ v ∷ [] })
  value_printed outs v adds = λ i. record (same i) { outs = (adds ∙ ap (λ list. list ++ v ∷ []) (ap (λ hand. hand.outs) same)) i }

  -- one more notification
  pub note_added : (notes : List Note) (l : LockName) (choice : Choice) → notes ≡ draft.notes ++ record { lock = l; choice = choice } ∷ [] → hand_in privates (record draft { notes = notes }) ≡ hand_of (noted l choice work)
  note_added notes l choice adds = λ i. record (same i) { notes = (adds ∙ ap (λ list. list ++ record { lock = l; choice = choice } ∷ []) (ap (λ hand. hand.notes) same)) i }

  -- the record of the block
  pub record_closed : (seq : ℕ) (thread : ThreadId) (ending : Ending) (news : List Body) (sets : List Set) (outs : List Value) (notes : List Note) → IsOnce work → IsOrdered nat_cmp draft.news
      → news ≡ values_of draft.news → sets ≡ sets_of draft.sets → outs ≡ draft.outs → notes ≡ draft.notes
      → record { seq = seq; thread = thread; news = news; sets = sets; outs = outs; notes = notes; ending = ending } ≡ record_from seq thread work ending
  record_closed seq thread ending news sets outs notes once ordered n s o m = λ i. record {
    seq = seq;
    thread = thread;
    news = (n ∙ same_bodies draft.news.entries work.news ordered once.news (λ q. ap (λ bodies. bodies q) same_news)) i;
    sets = (s ∙ ap (λ hand. hand.sets) same) i;
    outs = (o ∙ ap (λ hand. hand.outs) same) i;
    notes = (m ∙ ap (λ hand. hand.notes) same) i;
    ending = ending;
  }

-- the work at the start of a block
pub hand_begun : (privates : Bodies) (draft : Draft) (bodies : List Body) → look nat_cmp privates ≡ (λ o. body_in o bodies) → IsBlank draft → hand_in privates draft ≡ hand_of (start bodies)
hand_begun privates draft bodies is blank = λ i. record {
  privates = is i;
  news = λ o. lookup (is_at (nat_cmp o)) (blank.news i);
  sets = map set_of_entry (blank.sets i);
  outs = blank.outs i;
  notes = blank.notes i;
}
