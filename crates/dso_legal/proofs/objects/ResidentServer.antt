-- How an object stands with a client at the server: what each of the server's entries makes of it.
use Rattle.std.specs.List.{AllByRecursion}
use Rattle.std.proofs.Common.{ℕ, ◌≡◌, ◌≢◌, refl, sym, ◌∙◌, ap, subst, Bool, true, false, cond, not, eqb, ◌&&◌, ◌||◌, Option, Some, None, List, [], ◌∷◌, ◌++◌}
use Rattle.dso_base.specs.declared.journal.Entry.{Entry}
use Rattle.dso_base.specs.declared.journal.Input.{Input}
use Rattle.dso_base.specs.declared.journal.Input.TheVariants as input
use Rattle.dso_base.specs.declared.message.Down.{Down}
use Rattle.dso_base.specs.declared.message.Down.TheVariants as down
use Rattle.dso_base.specs.declared.message.Up.{Up}
use Rattle.dso_base.specs.declared.message.Up.TheVariants as up
use Rattle.dso_base.specs.declared.record.Body.{Body}
use Rattle.dso_base.specs.declared.record.Set.{Set}
use Rattle.dso_base.specs.declared.record.Txn.{Txn}
use Rattle.dso_base.specs.declared.shape.Shape.{Shape}
use Rattle.dso_lookup.proofs.Tests.{both}
use Rattle.dso_plain.proofs.keys.SameKeys.{same_number, number_self}
use Rattle.dso_law.specs.Settings.{Settings}
use Rattle.dso_law.specs.Entries.{unsent, by_taken_up, by_sent_down, if_to}
use Rattle.dso_law.specs.Copies.{is_among}
use Rattle.dso_law.specs.FitsUp.{FitsNews}
use Rattle.dso_law.specs.ServerReadings.{loses, is_given_to, next_batch}
use Rattle.dso_law.specs.ServerStep.{object_to}
use Rattle.dso_law.specs.Store.{opening_roots, body_by_news, body_with, body_by_sets, body_by, stored, held_by, holds_object}
use Rattle.dso_legal.specs.Agreement.{after, EachMay}
use Rattle.dso_legal.specs.Residency.{Residency, Unpublished, Absent, Asked, Resident, unless_unpublished, residency_up, residency_down, MayCome, published_from, is_published_by, residency_with}
use Rattle.dso_legal.proofs.channels.Agreement.{IsDeaf, may_append, after_append}
use Rattle.dso_legal.proofs.leases.ClientLeases.{neither}
use Rattle.dso_legal.proofs.leases.LeaseSteps.{unless_true, if_true, no_both}
use Rattle.dso_legal.proofs.records.Numbered.{same_either}
use Rattle.dso_legal.proofs.objects.ResidentClient.{other_object, published_now}
use Rattle.dso_legal.proofs.records.ServerSent.{told_each_deaf, told_each_so, IsNoReply, reply_on, FitsInput, ServerSent}
use Rattle.dso_legal.proofs.channels.InFlight.{told_to, told_append, told_status}

-- the body, if there is one, is of the object
abbrev pub IsOf : ℕ → Option Body → Type 0
IsOf o None = Unit {0}
IsOf o (Some body) = body.object ≡ o

of_either : (b : Bool) (o : ℕ) (body : Body) (before : Option Body) → eqb body.object o ≡ b → IsOf o before → IsOf o (cond b (Some body) before)
of_either true o body before e h = same_number body.object o e
of_either false o body before e h = h

of_news : (o : ℕ) (bodies : List Body) (before : Option Body) → IsOf o before → IsOf o (body_by_news o bodies before)
of_news o [] before h = h
of_news o (body ∷ bodies) before h = of_news o bodies (cond (eqb body.object o) (Some body) before) (of_either (eqb body.object o) o body before refl h)

of_with : (o : ℕ) (set : Set) (before : Option Body) → IsOf o before → IsOf o (body_with set before)
of_with o set None h = tt
of_with o set (Some body) h = h

of_set : (b : Bool) (o : ℕ) (set : Set) (before : Option Body) → IsOf o before → IsOf o (cond b (body_with set before) before)
of_set true o set before h = of_with o set before h
of_set false o set before h = h

of_sets : (o : ℕ) (sets : List Set) (before : Option Body) → IsOf o before → IsOf o (body_by_sets o sets before)
of_sets o [] before h = h
of_sets o (set ∷ sets) before h = of_sets o sets (cond (eqb set.object o) (body_with set before) before) (of_set (eqb set.object o) o set before h)

of_message : (o c : ℕ) (m : Up) (before : Option Body) → IsOf o before → IsOf o (body_by o c m before)
of_message o c (up.Commit txn) before h = of_sets o txn.sets (body_by_news o txn.news before) (of_news o txn.news before h)
of_message o c m before h = h

of_heard : (o : ℕ) (i : Input) (before : Option Body) → IsOf o before → IsOf o (by_taken_up (body_by o) i before)
of_heard o (input.TookUp c m) before h = of_message o c m before h
of_heard o other before h = h

of_opening : (b : Bool) (shape : Shape) (o : ℕ) → eqb o 0 ≡ b → IsOf o (cond b (Some (opening_roots shape)) None)
of_opening true shape o e = sym (same_number o 0 e)
of_opening false shape o e = tt

-- the server's body of an object is of it
pub stored_is_of : (shape : Shape) (o : ℕ) (es : List Entry) → IsOf o (stored shape o es)
stored_is_of shape o [] = of_opening (eqb o 0) shape o refl
stored_is_of shape o (e ∷ es) = of_heard o e.input (stored shape o es) (stored_is_of shape o es)

-- what isn't among the news isn't stored by them
none_by_news : (o : ℕ) (bodies : List Body) → is_among o bodies ≡ false → body_by_news o bodies None ≡ None
none_by_news o [] e = refl
none_by_news o (body ∷ bodies) e =
    let no = neither (eqb body.object o) (is_among o bodies) e in
    ap (body_by_news o bodies) (unless_true (eqb body.object o) (Some body) None no.0) ∙ none_by_news o bodies no.1

none_by_sets : (o : ℕ) (sets : List Set) → body_by_sets o sets None ≡ None
none_by_sets o [] = refl
none_by_sets o (set ∷ sets) = ap (body_by_sets o sets) (same_either (eqb set.object o) None) ∙ none_by_sets o sets

-- what is among the news that fit was given to the client
pub among_given : (p : Settings) (d o : ℕ) (es : List Entry) (bodies : List Body) → AllByRecursion (FitsNews p d es) bodies → is_among o bodies ≡ true → is_given_to d o es ≡ true
among_given p d o es [] fits e = absurd (cc e)
among_given p d o es (body ∷ bodies) fits e = by (eqb body.object o) refl e (among_given p d o es bodies fits.1)
  where
    by : (b : Bool) → eqb body.object o ≡ b → (b || is_among o bodies) ≡ true → (is_among o bodies ≡ true → is_given_to d o es ≡ true) → is_given_to d o es ≡ true
    by true f e later = subst (λ n. is_given_to d n es ≡ true) (same_number body.object o f) fits.0.given
    by false f e later = later e

-- how an object stands with a client, by whether it has still to be published, and is held
abbrev pub held_stands : Bool → Bool → Residency
held_stands unpublished holds = cond unpublished Unpublished (cond holds Resident Absent)

pub held_alike : {u v h k : Bool} → u ≡ v → h ≡ k → held_stands u h ≡ held_stands v k
held_alike e f = λ i. held_stands (e i) (f i)

-- what becomes of what is flushed
flushed_held : (unpublished holds : Bool) → unless_unpublished Absent (held_stands unpublished holds) ≡ held_stands unpublished false
flushed_held true holds = refl
flushed_held false true = refl
flushed_held false false = refl

-- What the server knows of an object that the client has still to publish: it isn't stored, and the client doesn't hold it.
pub record IsKept (unpublished holds : Bool) (body : Option Body) : Type 0 where
  pub unstored : unpublished ≡ true → body ≡ None
  pub gone : unpublished ≡ true → holds ≡ false

-- the reply to what the server hears may come, and makes the object stand so
record Replied (o : ℕ) (ms : List Down) (heard now : Residency) : Type 0 where
  comes : EachMay (MayCome o) (residency_down o) ms heard
  reads : after (residency_down o) ms heard ≡ now

module _ (o c : ℕ) (own published holds : Bool) where
  -- a fault of the object comes where it is published and the client doesn't hold it
  abbrev pub FaultComes : ℕ → Type 0
  FaultComes x = eqb x o ≡ true → ((own && not published) ≡ false) × (holds ≡ false)

  -- nothing is said of the object
  nothing_said : (b : Bool) → Replied o [] (cond b (held_stands (own && not published) holds) (held_stands (own && not published) holds)) (held_stands (own && not (cond b published published)) (cond b holds holds))
  nothing_said true = record { comes = tt; reads = refl }
  nothing_said false = record { comes = tt; reads = refl }

  deaf_said : (b : Bool) (m : Down) → IsDeaf (MayCome o) (residency_down o) m
      → Replied o (cond b (m ∷ []) []) (cond b (held_stands (own && not published) holds) (held_stands (own && not published) holds)) (held_stands (own && not (cond b published published)) (cond b holds holds))
  deaf_said true m deaf = record { comes = ((deaf (held_stands (own && not published) holds)).0, tt); reads = (deaf (held_stands (own && not published) holds)).1 }
  deaf_said false m deaf = record { comes = tt; reads = refl }

  -- the object to the client itself
  object_here : (z : Bool) (x : ℕ) (body : Body) → eqb x o ≡ z → body.object ≡ x → FaultComes x
      → Replied o (down.Object body ∷ []) (cond (eqb x o) (unless_unpublished Asked (held_stands (own && not published) holds)) (held_stands (own && not published) holds)) (held_stands (own && not published) (cond (eqb x o) true holds))
  object_here true x body e same fault =
      let s : Residency = held_stands (own && not published) holds in
      let here : eqb body.object o ≡ true = ap (λ n. eqb n o) same ∙ e in
      let absent : s ≡ Absent = held_alike (fault e).0 (fault e).1 in
      let heard : Residency = cond (eqb x o) (unless_unpublished Asked s) s in
      let asked : heard ≡ Asked = if_true (eqb x o) (unless_unpublished Asked s) s e ∙ ap (unless_unpublished Asked) absent in
      let there : held_stands (own && not published) (cond (eqb x o) true holds) ≡ Resident = held_alike (fault e).0 (if_true (eqb x o) true holds e) in
      record {
        comes = (λ yes. asked, tt);
        reads = if_true (eqb body.object o) (unless_unpublished Resident heard) heard here ∙ ap (unless_unpublished Resident) asked ∙ sym there;
      }
  object_here false x body e same fault =
      let s : Residency = held_stands (own && not published) holds in
      let deaf = other_object o body (ap (λ n. eqb n o) same ∙ e) in
      let heard : Residency = cond (eqb x o) (unless_unpublished Asked s) s in
      let still : held_stands (own && not published) (cond (eqb x o) true holds) ≡ s = held_alike {u = own && not published} {v = own && not published} refl (unless_true (eqb x o) true holds e) in
      record {
        comes = ((deaf heard).0, tt);
        reads = (deaf heard).1 ∙ unless_true (eqb x o) (unless_unpublished Asked s) s e ∙ sym still;
      }

  -- the object to the client or another
  object_said : (b : Bool) (x : ℕ) (body : Body) → body.object ≡ x → (b ≡ true → FaultComes x)
      → Replied o (cond b (down.Object body ∷ []) []) (cond b (cond (eqb x o) (unless_unpublished Asked (held_stands (own && not published) holds)) (held_stands (own && not published) holds)) (held_stands (own && not published) holds))
      (held_stands (own && not (cond b published published)) (cond b (cond (eqb x o) true holds) holds))
  object_said true x body same fault = object_here (eqb x o) x body refl same (fault refl)
  object_said false x body same fault = record { comes = tt; reads = refl }

  fault_said : (d x : ℕ) (body : Option Body) → IsOf x body → (eqb c d ≡ true → (body ≢ None) × FaultComes x)
      → Replied o (told_to c (object_to d body)) (cond (eqb c d) (cond (eqb x o) (unless_unpublished Asked (held_stands (own && not published) holds)) (held_stands (own && not published) holds)) (held_stands (own && not published) holds))
      (held_stands (own && not (cond (eqb c d) published published)) (cond (eqb c d) (cond (eqb x o) true holds) holds))
  fault_said d x None same fits = by (eqb c d) (λ e. (fits e).0 refl)
    where
      by : (b : Bool) → (b ≡ true → ⊥)
          → Replied o [] (cond b (cond (eqb x o) (unless_unpublished Asked (held_stands (own && not published) holds)) (held_stands (own && not published) holds)) (held_stands (own && not published) holds))
          (held_stands (own && not (cond b published published)) (cond b (cond (eqb x o) true holds) holds))
      by true never = absurd (never refl)
      by false never = record { comes = tt; reads = refl }
  fault_said d x (Some body) same fits = object_said (eqb c d) x body same (λ e. (fits e).1)

  flush_said : (b z : Bool) → Replied o [] (cond b (cond z (unless_unpublished Absent (held_stands (own && not published) holds)) (held_stands (own && not published) holds)) (held_stands (own && not published) holds))
      (held_stands (own && not (cond b published published)) (cond b (cond z false holds) holds))
  flush_said true true = record { comes = tt; reads = flushed_held (own && not published) holds }
  flush_said true false = record { comes = tt; reads = refl }
  flush_said false z = record { comes = tt; reads = refl }

  with_record_sent : (b z : Bool) (seq : ℕ) → Replied o (cond b (down.Ack seq ∷ []) []) (cond b (cond z Resident (held_stands (own && not published) holds)) (held_stands (own && not published) holds))
      (held_stands (own && not (cond b (z || published) published)) (cond b (cond z true holds) holds))
  with_record_sent true true seq = record { comes = (tt, tt); reads = sym (ap (λ u. held_stands u true) (published_now own)) }
  with_record_sent true false seq = record { comes = (tt, tt); reads = refl }
  with_record_sent false z seq = record { comes = tt; reads = refl }

  -- what the server hears, where it is a fault of the client, comes so; the entry, without what it sends, stands in front
  abbrev pub FaultFits : Settings → Input → List Entry → Type 0
  FaultFits p (input.TookUp d (up.Fault x)) now = eqb c d ≡ true → (stored p.shape x now ≢ None) × FaultComes x
  FaultFits p i now = Unit {0}

  replied : (p : Settings) (i : Input) (now : List Entry) → FaultFits p i now → loses c i ≡ false
      → Replied o (told_to c (reply_on p i now)) (by_taken_up (if_to c (residency_up o)) i (held_stands (own && not published) holds)) (held_stands (own && not (by_taken_up (published_from c o) i published)) (held_by c o i holds))
  replied p (input.TookUp d up.IdAsk) now fits stays = deaf_said (eqb c d) (down.Ids (next_batch now)) (λ s. (tt, refl))
  replied p (input.TookUp d (up.Fault x)) now fits stays = fault_said d x (stored p.shape x now) (stored_is_of p.shape x now) fits
  replied p (input.TookUp d (up.Flushed x)) now fits stays = flush_said (eqb c d) (eqb x o)
  replied p (input.TookUp d (up.Commit txn)) now fits stays = with_record_sent (eqb c d) (is_among o txn.news) txn.seq
  replied p (input.TookUp d m) now fits stays = nothing_said (eqb c d)
  replied p (input.Lose d) now fits stays = record { comes = tt; reads = held_alike {u = own && not published} {v = own && not published} refl (sym (unless_true (eqb c d) false holds stays)) }
  replied p other now fits stays = record { comes = tt; reads = refl }

  -- what nobody publishes
  kept_same : (b : Bool) (body : Option Body) → IsKept (own && not published) holds body → IsKept (own && not (cond b published published)) (cond b holds holds) body
  kept_same true body k = k
  kept_same false body k = k

  kept_fault : (b z : Bool) (body : Option Body) → (b ≡ true → z ≡ true → ((own && not published) ≡ false) × (holds ≡ false)) → IsKept (own && not published) holds body
      → IsKept (own && not (cond b published published)) (cond b (cond z true holds) holds) body
  kept_fault true true body fault k = record { unstored = k.unstored; gone = λ yes. no_both (own && not published) yes (fault refl refl).0 }
  kept_fault true false body fault k = k
  kept_fault false z body fault k = k

  kept_flush : (b z : Bool) (body : Option Body) → IsKept (own && not published) holds body → IsKept (own && not (cond b published published)) (cond b (cond z false holds) holds) body
  kept_flush true true body k = record { unstored = k.unstored; gone = λ yes. refl }
  kept_flush true false body k = k
  kept_flush false z body k = k

  -- what others publish is none of the client's own
  kept_record : (b z : Bool) (txn : Txn) (body : Option Body) → is_among o txn.news ≡ z → (z ≡ true → own ≡ true → b ≡ true) → IsKept (own && not published) holds body
      → IsKept (own && not (cond b (z || published) published)) (cond b (cond z true holds) holds) (body_by_sets o txn.sets (body_by_news o txn.news body))
  kept_record true true txn body e its k = record {
    unstored = λ yes. no_both (own && not true) yes (published_now own);
    gone = λ yes. no_both (own && not true) yes (published_now own);
  }
  kept_record false true txn body e its k = record {
    unstored = λ yes. absurd (cc (its refl (both own (not published) yes).0));
    gone = λ yes. absurd (cc (its refl (both own (not published) yes).0));
  }
  kept_record b false txn body e its k =
      let still : IsKept (own && not (cond b published published)) (cond b holds holds) body = kept_same b body k in
      record {
        unstored = λ yes. ap (λ body. body_by_sets o txn.sets (body_by_news o txn.news body)) (still.unstored yes) ∙ ap (body_by_sets o txn.sets) (none_by_news o txn.news e) ∙ none_by_sets o txn.sets;
        gone = still.gone;
      }

  -- what the server knows stays so
  kept : (p : Settings) (i : Input) (now es : List Entry) (body : Option Body) → FaultFits p i now → FitsInput p i es → (own ≡ true → (d : ℕ) → is_given_to d o es ≡ true → d ≡ c) → loses c i ≡ false
      → IsKept (own && not published) holds body → IsKept (own && not (by_taken_up (published_from c o) i published)) (held_by c o i holds) (by_taken_up (body_by o) i body)
  kept p (input.TookUp d (up.Fault x)) now es body fits input_fits given stays k = kept_fault (eqb c d) (eqb x o) body (λ e f. (fits e).1 f) k
  kept p (input.TookUp d (up.Flushed x)) now es body fits input_fits given stays k = kept_flush (eqb c d) (eqb x o) body k
  kept p (input.TookUp d (up.Commit txn)) now es body fits input_fits given stays k = kept_record (eqb c d) (is_among o txn.news) txn body refl
      (λ among its. subst (λ n. eqb c n ≡ true) (sym (given its d (among_given p d o es txn.news input_fits.0.news among))) (number_self c)) k
  kept p (input.TookUp d m) now es body fits input_fits given stays k = kept_same (eqb c d) body k
  kept p (input.Lose d) now es body fits input_fits given stays k = record {
    unstored = k.unstored;
    gone = λ yes. unless_true (eqb c d) false holds stays ∙ k.gone yes;
  }
  kept p other now es body fits input_fits given stays k = k

-- what is no reply is no object
no_reply_deaf : (o : ℕ) (m : Down) → IsNoReply m → IsDeaf (MayCome o) (residency_down o) m
no_reply_deaf o (down.Ids first) h = absurd h
no_reply_deaf o (down.Object body) h = absurd h
no_reply_deaf o (down.Ack seq) h = absurd h
no_reply_deaf o m h = λ s. (tt, refl)

-- The server's entry, for an object and a client: what it tells may come, and what is known stays so. The entries are those
-- that count.
pub record ServerTurn (o c : ℕ) (own : Bool) (p : Settings) (e : Entry) (es : List Entry) : Type 0 where
  pub comes : EachMay (MayCome o) (residency_down o) (told_to c e.sent) (by_taken_up (if_to c (residency_up o)) e.input (residency_with own c o es))
  pub reads : residency_with own c o (e ∷ es) ≡ by_sent_down (if_to c (residency_down o)) e.sent (by_taken_up (if_to c (residency_up o)) e.input (residency_with own c o es))
  pub kept : IsKept (own && not (is_published_by c o (e ∷ es))) (holds_object c o (e ∷ es)) (stored p.shape o (e ∷ es))

pub server_turn : (o c : ℕ) (own : Bool) (p : Settings) (e : Entry) (es : List Entry) → ServerSent p e es → FaultFits o c own (is_published_by c o es) (holds_object c o es) p e.input (unsent e ∷ es)
    → (own ≡ true → (d : ℕ) → is_given_to d o es ≡ true → d ≡ c) → loses c e.input ≡ false → IsKept (own && not (is_published_by c o es)) (holds_object c o es) (stored p.shape o es) → ServerTurn o c own p e es
server_turn o c own p e es sent fits given stays k =
    let heard = by_taken_up (if_to c (residency_up o)) e.input (residency_with own c o es) in
    let reply = replied o c own (is_published_by c o es) (holds_object c o es) p e.input (unsent e ∷ es) fits stays in
    let first = told_to c (reply_on p e.input (unsent e ∷ es)) in
    let deaf = told_each_deaf (MayCome o) (residency_down o) c sent.others (told_each_so IsNoReply (IsDeaf (MayCome o) (residency_down o)) (no_reply_deaf o) sent.others sent.no_replies) in
    let same : told_to c e.sent ≡ first ++ told_to c sent.others = ap (told_to c) sent.whole ∙ told_append c (reply_on p e.input (unsent e ∷ es)) sent.others in
    record {
      comes = subst (λ ms. EachMay (MayCome o) (residency_down o) ms heard) (sym same)
          (may_append (MayCome o) (residency_down o) first (told_to c sent.others) heard reply.comes (deaf.comes (after (residency_down o) first heard)));
      reads = sym (told_status c (residency_down o) e.sent heard ∙ ap (λ ms. after (residency_down o) ms heard) same ∙ after_append (residency_down o) first (told_to c sent.others) heard
          ∙ deaf.stays (after (residency_down o) first heard) ∙ reply.reads);
      kept = kept o c own (is_published_by c o es) (holds_object c o es) p e.input (unsent e ∷ es) es (stored p.shape o es) fits sent.fits given stays k;
    }
