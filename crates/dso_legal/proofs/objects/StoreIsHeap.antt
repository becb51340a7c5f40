-- The server's store is the heap of the history.
use Rattle.std.specs.List.{AllByRecursion}
use Rattle.std.proofs.Common.{ℕ, ◌≤◌, ◌≡◌, ◌⊎◌, inl, inr, refl, sym, ◌∙◌, ap, subst, Bool, true, false, cond, eqb, ltb, ◌&&◌, is_some, Option, Some, None, List, [], ◌∷◌, ◌++◌, length, slice_get}
use Rattle.std.proofs.lemmas.List.{append-nil, length-replicate}
use Rattle.dso_base.specs.declared.journal.Entry.{Entry}
use Rattle.dso_base.specs.declared.journal.Input.{Input}
use Rattle.dso_base.specs.declared.journal.Input.TheVariants as input
use Rattle.dso_base.specs.declared.journal.Node.{Node}
use Rattle.dso_base.specs.declared.journal.Node.TheVariants.{Server, Client}
use Rattle.dso_base.specs.declared.lock.ThreadId.{ThreadId}
use Rattle.dso_base.specs.declared.message.Up.TheVariants as up
use Rattle.dso_base.specs.declared.record.Body.{Body}
use Rattle.dso_base.specs.declared.record.Set.{Set}
use Rattle.dso_base.specs.declared.record.Txn.{Txn}
use Rattle.dso_base.specs.declared.request.Event.{Event}
use Rattle.dso_base.specs.declared.request.Event.TheVariants.{Lost}
use Rattle.dso_base.specs.declared.request.Request.{Request}
use Rattle.dso_base.specs.declared.shape.Shape.{Shape}
use Rattle.dso_base.specs.declared.value.Value.TheVariants as value
use Rattle.dso_base.specs.Block.{body_in}
use Rattle.dso_plain.specs.State.{PlainState, IsShared, is_shared, roots_object, opening}
use Rattle.dso_plain.specs.Possible.{IsOf}
use Rattle.dso_plain.specs.History.{RunsButMarks, end_of, last_state}
use Rattle.dso_plain.proofs.keys.SameKeys.{same_number}
use Rattle.dso_law.specs.Settings.{Settings}
use Rattle.dso_law.specs.Copies.{value_by_sets}
use Rattle.dso_law.specs.Entries.{by_taken_up, entries_of}
use Rattle.dso_law.specs.FitsUp.{FitsStored, FitsSet, FitsRecord}
use Rattle.dso_law.specs.ServerReadings.{is_lost, is_of_lost, counted}
use Rattle.dso_law.specs.ServerStep.{HeardOrLost, ServerStepOn}
use Rattle.dso_law.specs.Store.{opening_roots, body_by_news, body_by_sets, body_by, stored}
use Rattle.dso_legal.specs.Committed.{ended_blocks, block_numbered}
use Rattle.dso_legal.specs.AsMade.{made_at, made_by, as_made}
use Rattle.dso_legal.specs.Lawful.{NodeFollows, MayFollow, AllFollow}
use Rattle.dso_legal.specs.Residency.{is_set}
use Rattle.dso_legal.specs.OwnObjects.{count_bodies}
use Rattle.dso_legal.specs.Store.{IsHeapBody, IsHeapOf}
use Rattle.dso_legal.specs.Works.{WorksTell}
use Rattle.dso_legal.proofs.acts.ActsOnObjects.{body_object}
use Rattle.dso_legal.proofs.records.BothEnds.{server_with}
use Rattle.dso_legal.proofs.copies.FieldMoves.{apart}
use Rattle.dso_legal.proofs.records.HandedIn.{TakesBlock, takes_its_block}
use Rattle.dso_legal.proofs.blocks.Histories.{history_takes}
use Rattle.dso_legal.proofs.leases.LeaseSteps.{unless_true, if_true}
use Rattle.dso_legal.proofs.objects.PrivatesTaken.{grew, ran_before, TellsRecord, tells_taken}
use Rattle.dso_legal.proofs.objects.SetsOfFields.{gives_some}
use Rattle.dso_legal.proofs.objects.StoredBodies.{news_elsewhere, news_found, sets_elsewhere, sets_of_none, IsWithin, MadeBySets, made_by_sets, value_of_many}

-- a body that is so
one_body : (o : ℕ) (body : Body) (s : PlainState) → IsHeapBody o body s → IsHeapOf o (Some body) s
one_body o body s is = record { each = λ found same. subst (λ body. IsHeapBody o body s) (cc same) is; all = λ shared none. absurd (cc none) }

-- none, of an object that isn't shared
no_body : (o : ℕ) (s : PlainState) → is_shared (s.objects o) ≡ false → IsHeapOf o None s
no_body o s away = record { each = λ found same. absurd (cc same); all = λ shared. absurd (apart shared away) }

-- at first: the roots
opening_is_heap : (shape : Shape) (o : ℕ) → IsHeapOf o (stored shape o []) (opening shape)
opening_is_heap shape o = by (eqb o 0) refl
  where
    by : (b : Bool) → eqb o 0 ≡ b → IsHeapOf o (cond b (Some (opening_roots shape)) None) (opening shape)
    by true is = one_body o (opening_roots shape) (opening shape) (record {
      shared = ap (λ b. is_shared (cond b (Some (roots_object shape)) None)) is;
      class = subst (λ b. IsOf (opening_roots shape).class (length (opening_roots shape).values) (cond b (Some (roots_object shape)) None)) (sym is) (refl, sym (length-replicate shape.roots value.Null));
      values = λ f. ap (λ b. cond (b && ltb f shape.roots) (Some value.Null) None) is ∙ value_of_many shape.roots f value.Null;
    })
    by false is = no_body o (opening shape) (ap (λ b. is_shared (cond b (Some (roots_object shape)) None)) is)

-- A record whose work tells what its block made of the state, and whose sets are of fields of the bodies that are there.
module _ (o : ℕ) (txn : Txn) (s r : PlainState) (it : TellsRecord txn s r) where
  -- the body after the record
  abbrev after_record : Option Body → Option Body
  after_record before = body_by_sets o txn.sets (body_by_news o txn.news before)

  -- of an object that was shared
  was_shared : (body : Body) → IsHeapBody o body s → AllByRecursion (IsWithin o (length body.values)) txn.sets → IsHeapOf o (after_record (Some body)) r
  was_shared body is within =
      let made : MadeBySets o txn.sets body = made_by_sets o txn.sets body within in
      let left = it.tells.left o is.shared in
      subst (λ at. IsHeapOf o at r) (sym (ap (body_by_sets o txn.sets) (news_elsewhere o txn.news (Some body) (subst (λ news. body_in o news ≡ None) it.news unpublished)) ∙ made.is))
      (one_body o made.now r (record {
        shared = ap is_shared left.object ∙ is.shared;
        class = subst (λ object. IsOf made.now.class (length made.now.values) object) (sym left.object)
            (subst (λ n. IsOf made.now.class n (s.objects o)) (sym made.size) (subst (λ class. IsOf class (length body.values) (s.objects o)) (sym made.class) is.class));
        values = λ f. left.heap f ∙ ap (λ sets. value_by_sets o f sets (s.heap (o, f))) it.sets ∙ ap (value_by_sets o f txn.sets) (is.values f) ∙ sym (made.values f);
      }))
    where
      none : (at : Option Body) → body_in o it.work.news ≡ at → at ≡ None
      none None found = refl
      none (Some body) found = absurd (apart is.shared (it.tells.news o body found).2)

      unpublished : body_in o it.work.news ≡ None
      unpublished = none (body_in o it.work.news) refl

  -- of one that was not
  was_away : is_shared (s.objects o) ≡ false → IsHeapOf o (after_record None) r
  was_away away = by (body_in o it.work.news) refl
    where
      none_set : (f : ℕ) → value_by_sets o f it.work.sets None ≡ None ⊎ IsShared o s → value_by_sets o f it.work.sets None ≡ None
      none_set f (inl none) = none
      none_set f (inr shared) = absurd (apart shared away)

      unset : is_set o txn.sets ≡ false
      unset = subst (λ sets. is_set o sets ≡ false) it.sets (gives_some o it.work.sets (λ f. none_set f (it.tells.sets o f)))

      still : body_in o it.work.news ≡ None → IsShared o s ⊎ (is_some (body_in o it.work.news) ≡ true) → ⊥
      still none (inl shared) = apart shared away
      still none (inr there) = apart there (ap is_some none)

      private_still : (b : Bool) → is_shared (r.objects o) ≡ b → (IsShared o r → ⊥) → b ≡ false
      private_still true is not = absurd (not is)
      private_still false is not = refl

      by : (at : Option Body) → body_in o it.work.news ≡ at → IsHeapOf o (after_record None) r
      by None none =
          subst (λ at. IsHeapOf o at r) (sym (ap (body_by_sets o txn.sets) (news_elsewhere o txn.news None (subst (λ news. body_in o news ≡ None) it.news none)) ∙ sets_of_none o txn.sets))
          (no_body o r (private_still (is_shared (r.objects o)) refl (λ shared. still none (it.tells.shared o shared))))
      by (Some body) found =
          let same : body.object ≡ o = body_object o it.work.news body found in
          let told = it.tells.news o body found in
          subst (λ at. IsHeapOf o at r) (sym (ap (body_by_sets o txn.sets) (news_found o txn.news body None (subst (λ news. count_bodies o news ≤ 1) it.news (it.tells.once o)) (subst (λ news. body_in o news ≡ Some body) it.news found))
          ∙ sets_elsewhere o txn.sets (Some body) unset))
          (one_body o body r (record {
            shared = told.0;
            class = subst (λ x. IsOf body.class (length body.values) (r.objects x)) same told.1.class;
            values = λ f. subst (λ x. r.heap (x, f) ≡ slice_get body.values f) same (told.1.values f);
          }))

  -- the body that was there before the record, if there was one, is the heap's still
  record_keeps : (before : Option Body) → IsHeapOf o before s → ((body : Body) → before ≡ Some body → AllByRecursion (IsWithin o (length body.values)) txn.sets) → IsHeapOf o (after_record before) r
  record_keeps None is within = was_away (away (is_shared (s.objects o)) refl)
    where
      away : (b : Bool) → is_shared (s.objects o) ≡ b → b ≡ false
      away true shared = absurd (is.all shared refl)
      away false private = refl
  record_keeps (Some body) is within = was_shared body (is.each body refl) (within body refl)

-- what an entry of this node with this input makes of a stored body
abbrev stored_by : ℕ → Node → Input → List Entry → Option Body → Option Body
stored_by o Server i server before = cond (is_of_lost i server) before (by_taken_up (body_by o) i before)
stored_by o (Client c) i server before = before

-- where the entry counts and where it does not
stored_either : (shape : Shape) (o : ℕ) (e : Entry) (js : List Entry) (b : Bool) → stored shape o (cond b js (e ∷ js)) ≡ cond b (stored shape o js) (by_taken_up (body_by o) e.input (stored shape o js))
stored_either shape o e js true = refl
stored_either shape o e js false = refl

-- by its node
stored_at : (shape : Shape) (o : ℕ) (e : Entry) (es : List Entry) (node : Node) → stored shape o (counted (server_with node e es)) ≡ stored_by o node e.input (entries_of Server es) (stored shape o (counted (entries_of Server es)))
stored_at shape o e es Server = stored_either shape o e (counted (entries_of Server es)) (is_of_lost e.input (entries_of Server es))
stored_at shape o e es (Client c) = refl

-- by its node and input
stored_with : (shape : Shape) (o : ℕ) (e : Entry) (es : List Entry) (node : Node) (i : Input) → e.node ≡ node → e.input ≡ i
    → stored shape o (counted (entries_of Server (e ∷ es))) ≡ stored_by o node i (entries_of Server es) (stored shape o (counted (entries_of Server es)))
stored_with shape o e es node i at is = stored_at shape o e es e.node
    ∙ ap (λ node. stored_by o node e.input (entries_of Server es) (stored shape o (counted (entries_of Server es)))) at
    ∙ ap (λ i. stored_by o node i (entries_of Server es) (stored shape o (counted (entries_of Server es)))) is

-- either way the same
either_way : {X : Type 0} (b : Bool) (x : X) → cond b x x ≡ x
either_way true x = refl
either_way false x = refl

-- The server's store is the heap of the history.
abbrev pub StoresHeap : Settings → List Entry → Type 0
StoresHeap p es = (o : ℕ) → IsHeapOf o (stored p.shape o (counted (entries_of Server es))) (last_state p.shape (as_made es))

module _ (works_tell : WorksTell) (p : Settings) (next : ThreadId → List Event → Option Request) where
  module _ (e : Entry) (es : List Entry) (follows : MayFollow p next e es) (follow : AllFollow p next es) (runs : RunsButMarks p.shape (as_made (e ∷ es)) (opening p.shape)) (before : StoresHeap p es) where
    abbrev js : List Entry
    js = counted (entries_of Server es)

    -- an entry that leaves the store and the history
    unmoved : (node : Node) (i : Input) → e.node ≡ node → e.input ≡ i → ((o : ℕ) → stored_by o node i (entries_of Server es) (stored p.shape o js) ≡ stored p.shape o js) → made_at node i es ≡ [] → StoresHeap p (e ∷ es)
    unmoved node i at is same none o =
        subst (λ at. IsHeapOf o at (last_state p.shape (as_made (e ∷ es)))) (sym (stored_with p.shape o e es node i at is ∙ same o))
        (subst (λ h. IsHeapOf o (stored p.shape o js) (last_state p.shape h))
        (sym (ap (λ more. as_made es ++ more) (ap (λ node. made_at node e.input es) at ∙ ap (λ i. made_at node i es) is ∙ none) ∙ append-nil (as_made es)))
        (before o))

    -- a loss
    loss : (d : ℕ) → e.node ≡ Server → e.input ≡ input.Lose d → StoresHeap p (e ∷ es)
    loss d at is o =
        let it = grew p.shape (as_made es) (Lost d ∷ []) (as_made (e ∷ es)) (ap (λ more. as_made es ++ more) (ap (λ node. made_at node e.input es) at ∙ ap (λ i. made_by i es) is)) runs in
        subst (λ at. IsHeapOf o at (last_state p.shape (as_made (e ∷ es)))) (sym (stored_with p.shape o e es Server (input.Lose d) at is))
        (subst (IsHeapOf o (stored p.shape o js)) (sym it.ends)
        (record {
          each = λ body found. let had = before o in let is = had.each body found in record { shared = is.shared; class = is.class; values = is.values };
          all = (before o).all;
        }))

    -- the sets of a record that fits are of fields of the bodies that are there
    within_one : (d : ℕ) (o : ℕ) (body : Body) (set : Set) → stored p.shape o js ≡ Some body → FitsSet p d js set → IsWithin o (length body.values) set
    within_one d o body set there fits is =
        (subst (λ at. FitsStored p d set at js) (ap (λ x. stored p.shape x js) (same_number set.object o is) ∙ there) fits.1).0

    -- so each of them
    within_all : (d : ℕ) (o : ℕ) (body : Body) (sets : List Set) → stored p.shape o js ≡ Some body → AllByRecursion (FitsSet p d js) sets → AllByRecursion (IsWithin o (length body.values)) sets
    within_all d o body [] there fits = tt
    within_all d o body (set ∷ sets) there fits = (within_one d o body set there fits.0, within_all d o body sets there fits.1)

    -- a record that the server takes fits
    fits_step : (d : ℕ) (txn : Txn) → is_lost d (entries_of Server es) ≡ false → ServerStepOn p (input.TookUp d (up.Commit txn)) e (entries_of Server es) → FitsRecord p d txn js
    fits_step d txn alive step = (subst (λ b. HeardOrLost p d (up.Commit txn) b e js) alive step.heard).fits

    -- by its node and input
    fits_record : (d : ℕ) (txn : Txn) → e.node ≡ Server → e.input ≡ input.TookUp d (up.Commit txn) → is_lost d (entries_of Server es) ≡ false → FitsRecord p d txn js
    fits_record d txn at is alive = fits_step d txn alive (subst (λ i. ServerStepOn p i e (entries_of Server es)) is (subst (λ node. NodeFollows p next node e es) at follows.rule).step)

    -- a record of a client that isn't lost
    taken : (d : ℕ) (txn : Txn) → is_lost d (entries_of Server es) ≡ false → e.node ≡ Server → e.input ≡ input.TookUp d (up.Commit txn) → StoresHeap p (e ∷ es)
    taken d txn alive at is o =
        let takes : TakesBlock p d txn e es = takes_its_block p next d es follow alive e follows txn at is in
        let it = grew p.shape (as_made es) takes.block (as_made (e ∷ es)) (history_takes p next e es follows follow d txn alive takes) runs in
        let s : PlainState = last_state p.shape (as_made es) in
        let tells = tells_taken works_tell p next es follow it.ran e follows d alive txn takes it.runs in
        let fits = fits_record d txn at is alive in
        subst (λ at. IsHeapOf o at (last_state p.shape (as_made (e ∷ es))))
        (sym (stored_with p.shape o e es Server (input.TookUp d (up.Commit txn)) at is
        ∙ unless_true (is_lost d (entries_of Server es)) (stored p.shape o js) (body_by o d (up.Commit txn) (stored p.shape o js)) alive))
        (subst (IsHeapOf o (body_by o d (up.Commit txn) (stored p.shape o js))) (sym it.ends)
        (record_keeps o txn s (end_of p.shape takes.block s) tells (stored p.shape o js) (before o) (λ body there. within_all d o body txn.sets there fits.sets)))

    -- a record, of a client that is lost or isn't
    of_record : (d : ℕ) (txn : Txn) (b : Bool) → is_lost d (entries_of Server es) ≡ b → e.node ≡ Server → e.input ≡ input.TookUp d (up.Commit txn) → StoresHeap p (e ∷ es)
    of_record d txn true lost at is =
        unmoved Server (input.TookUp d (up.Commit txn)) at is
        (λ o. if_true (is_lost d (entries_of Server es)) (stored p.shape o js) (body_by o d (up.Commit txn) (stored p.shape o js)) lost)
        (if_true (is_lost d (entries_of Server es)) [] (block_numbered txn.seq (ended_blocks (entries_of (Client d) es))) lost)
    of_record d txn false alive at is = taken d txn alive at is

    -- any entry
    of_entry : (node : Node) (i : Input) → e.node ≡ node → e.input ≡ i → StoresHeap p (e ∷ es)
    of_entry Server (input.TookUp d (up.Commit txn)) at is = of_record d txn (is_lost d (entries_of Server es)) refl at is
    of_entry Server (input.TookUp d m) at is = unmoved Server (input.TookUp d m) at is (λ o. either_way (is_lost d (entries_of Server es)) (stored p.shape o js)) refl
    of_entry Server (input.Lose d) at is = loss d at is
    of_entry node i at is = unmoved node i at is (λ o. refl) refl

  -- The server's store is the heap of the history, over a whole journal, with losses or without.
  pub store_is_heap : (es : List Entry) → AllFollow p next es → RunsButMarks p.shape (as_made es) (opening p.shape) → StoresHeap p es
  store_is_heap [] follow runs = λ o. opening_is_heap p.shape o
  store_is_heap (e ∷ es) follow runs = of_entry e es follow.1 follow.0 runs (store_is_heap es follow.0 (ran_before p e es runs)) e.node e.input refl refl
