-- How an object stands at a client: what each of the client's entries makes of it.
use Rattle.std.proofs.Common.{ℕ, ◌≡◌, refl, sym, ◌∙◌, ap, subst, Bool, true, false, cond, not, eqb, ◌&&◌, ◌||◌, List, ◌∷◌}
use Rattle.dso_base.specs.declared.journal.Entry.{Entry}
use Rattle.dso_base.specs.declared.journal.Input.{Input}
use Rattle.dso_base.specs.declared.journal.Input.TheVariants as input
use Rattle.dso_base.specs.declared.message.Down.{Down}
use Rattle.dso_base.specs.declared.message.Down.TheVariants as down
use Rattle.dso_base.specs.declared.message.Up.{Up}
use Rattle.dso_base.specs.declared.message.Up.TheVariants as up
use Rattle.dso_base.specs.declared.record.Body.{Body}
use Rattle.dso_base.specs.declared.record.Txn.{Txn}
use Rattle.dso_plain.proofs.keys.SameKeys.{same_number}
use Rattle.dso_law.specs.Settings.{Settings}
use Rattle.dso_law.specs.Entries.{by_sent_up, by_taken_down}
use Rattle.dso_law.specs.Copies.{is_among, resident_by_taken, resident_by_sent, unless_flushed, is_resident, asked_by_taken, asked_by_sent, is_object_asked}
use Rattle.dso_legal.specs.Agreement.{after, EachMay}
use Rattle.dso_legal.specs.OwnObjects.{published_by, was_published}
use Rattle.dso_legal.specs.Residency.{Residency, Unpublished, Absent, Asked, Resident, unless_unpublished, is_set, residency_up, residency_down, IsAway, MayMove, MayCome, asked_or_resident, residency_at}
use Rattle.dso_legal.proofs.channels.Agreement.{IsDeaf, Commutes, turns_commute}
use Rattle.dso_legal.proofs.records.ClientWords.{IsQuiet, Word, Silent, Records, AsksFor, Flushes, spoken, IsAct, IsNoFlush, IsWord, ClientWord, word_status, word_comes}
use Rattle.dso_legal.proofs.leases.LeaseSteps.{unless_true, if_true, no_both}
use Rattle.dso_legal.proofs.channels.InFlight.{said_of}
use Rattle.std.proofs.Common.{◌⊎◌, inl, inr}

-- a fault of another object is deaf
other_fault : (o x : ℕ) → eqb x o ≡ false → IsDeaf (MayMove o) (residency_up o) (up.Fault x)
other_fault o x e s = (λ yes. no_both (eqb x o) yes e, unless_true (eqb x o) (unless_unpublished Asked s) s e)

other_flush : (o x : ℕ) → eqb x o ≡ false → IsDeaf (MayMove o) (residency_up o) (up.Flushed x)
other_flush o x e s = (λ yes. no_both (eqb x o) yes e, unless_true (eqb x o) (unless_unpublished Absent s) s e)

other_record : (o : ℕ) (txn : Txn) → is_among o txn.news ≡ false → is_set o txn.sets ≡ false → IsDeaf (MayMove o) (residency_up o) (up.Commit txn)
other_record o txn e f s = ((λ yes. no_both (is_among o txn.news) yes e, λ yes. no_both (is_set o txn.sets) yes f), unless_true (is_among o txn.news) Resident s e)

pub other_object : (o : ℕ) (body : Body) → eqb body.object o ≡ false → IsDeaf (MayCome o) (residency_down o) (down.Object body)
other_object o body e s = (λ yes. no_both (eqb body.object o) yes e, unless_true (eqb body.object o) (unless_unpublished Resident s) s e)

-- the server speaks of an object that is asked for, else the client does
abbrev IsNotAsked : Residency → Type 0
IsNotAsked Asked = ⊥
IsNotAsked s = Unit {0}

away_isnt_asked : (s : Residency) → IsAway s → IsNotAsked s
away_isnt_asked Unpublished h = tt
away_isnt_asked Absent h = tt
away_isnt_asked s h = absurd h

turn_fault : (o x : ℕ) (s : Residency) (b : Bool) → eqb x o ≡ b → (eqb x o ≡ true → IsAway s) → IsDeaf (MayMove o) (residency_up o) (up.Fault x) ⊎ IsNotAsked s
turn_fault o x s true e may = inr (away_isnt_asked s (may e))
turn_fault o x s false e may = inl (other_fault o x e)

turn_flush : (o x : ℕ) (s : Residency) (b : Bool) → eqb x o ≡ b → (eqb x o ≡ true → s ≡ Resident) → IsDeaf (MayMove o) (residency_up o) (up.Flushed x) ⊎ IsNotAsked s
turn_flush o x s true e may = inr (subst IsNotAsked (sym (may e)) tt)
turn_flush o x s false e may = inl (other_flush o x e)

turn_record : (o : ℕ) (txn : Txn) (s : Residency) (b d : Bool) → is_among o txn.news ≡ b → is_set o txn.sets ≡ d → MayMove o (up.Commit txn) s → IsDeaf (MayMove o) (residency_up o) (up.Commit txn) ⊎ IsNotAsked s
turn_record o txn s true d e f may = inr (subst IsNotAsked (sym (may.0 e)) tt)
turn_record o txn s false true e f may = inr (subst IsNotAsked (sym (may.1 f)) tt)
turn_record o txn s false false e f may = inl (other_record o txn e f)

turn_up : (o : ℕ) (m : Up) (s : Residency) → MayMove o m s → IsDeaf (MayMove o) (residency_up o) m ⊎ IsNotAsked s
turn_up o (up.Fault x) s may = turn_fault o x s (eqb x o) refl may
turn_up o (up.Flushed x) s may = turn_flush o x s (eqb x o) refl may
turn_up o (up.Commit txn) s may = turn_record o txn s (is_among o txn.news) (is_set o txn.sets) refl refl may
turn_up o m s may = inl (λ s. (tt, refl))

turn_object : (o : ℕ) (body : Body) (s : Residency) (b : Bool) → eqb body.object o ≡ b → (eqb body.object o ≡ true → s ≡ Asked) → IsDeaf (MayCome o) (residency_down o) (down.Object body) ⊎ (s ≡ Asked)
turn_object o body s true e may = inr (may e)
turn_object o body s false e may = inl (other_object o body e)

turn_down : (o : ℕ) (m : Down) (s : Residency) → MayCome o m s → IsDeaf (MayCome o) (residency_down o) m ⊎ (s ≡ Asked)
turn_down o (down.Object body) s may = turn_object o body s (eqb body.object o) refl may
turn_down o m s may = inl (λ s. (tt, refl))

pub object_commutes : (o : ℕ) → Commutes (MayMove o) (residency_up o) (MayCome o) (residency_down o)
object_commutes o = turns_commute (MayMove o) (residency_up o) (MayCome o) (residency_down o) IsNotAsked (λ s. s ≡ Asked)
    (record { up = turn_up o; down = turn_down o; never_both = λ s h e. subst IsNotAsked e h })

-- What a client knows of an object: whether it has still to publish it, and that what is resident is neither asked for nor
-- still to be published.
pub record IsClear (unpublished asked resident : Bool) : Type 0 where
  pub unasked : resident ≡ true → asked ≡ false
  pub gone : unpublished ≡ true → resident ≡ false

-- how an object stands, by what is known of it
abbrev pub stands : Bool → Bool → Bool → Residency
stands unpublished asked resident = cond unpublished Unpublished (asked_or_resident asked resident)

-- the same, by what is the same
pub stands_alike : {u v a b r q : Bool} → u ≡ v → a ≡ b → r ≡ q → stands u a r ≡ stands v b q
stands_alike e f g = λ i. stands (e i) (f i) (g i)

-- what becomes of what is published
becomes : (new : Residency) (unpublished asked resident : Bool) → cond unpublished Unpublished new ≡ unless_unpublished new (stands unpublished asked resident)
becomes new true asked resident = refl
becomes new false true resident = refl
becomes new false false true = refl
becomes new false false false = refl

-- what is resident is published
pub resident_stands : (unpublished asked resident : Bool) → IsClear unpublished asked resident → resident ≡ true → stands unpublished asked resident ≡ Resident
resident_stands true asked resident clear e = no_both resident e (clear.gone refl)
resident_stands false true resident clear e = absurd (cc (clear.unasked e))
resident_stands false false true clear e = refl
resident_stands false false false clear e = absurd (cc e)

-- what is neither asked for nor resident is away
away_stands : (unpublished asked resident : Bool) → asked ≡ false → resident ≡ false → IsAway (stands unpublished asked resident)
away_stands true asked resident e f = tt
away_stands false true resident e f = absurd (cc e)
away_stands false false true e f = absurd (cc f)
away_stands false false false e f = tt

-- the object comes only where it is published
abbrev pub ComesPublished : ℕ → Bool → Input → Type 0
ComesPublished o unpublished (input.TookDown (down.Object body)) = eqb body.object o ≡ true → unpublished ≡ false
ComesPublished o unpublished i = Unit {0}

-- a record with the object among its news comes only where it is not published, and one that sets it where it is resident
abbrev pub IsNews : ℕ → Bool → Bool → Word → Type 0
IsNews o unpublished resident (Records txn) = (is_among o txn.news ≡ true → unpublished ≡ true) × (is_set o txn.sets ≡ true → resident ≡ true)
IsNews o unpublished resident word = Unit {0}

-- what is published is published for all
pub published_now : (own : Bool) → (own && not true) ≡ false
published_now true = refl
published_now false = refl

module _ (o : ℕ) where
  -- What the word makes of what is known.
  record Turned (own published asked resident : Bool) (i : Input) (word : Word) : Type 0 where
    reads : stands (own && not (after (published_by o) (spoken word) published)) (after (asked_by_sent o) (spoken word) (by_taken_down (asked_by_taken o) i asked)) (unless_flushed o i (after (resident_by_sent o) (spoken word) (by_taken_down (resident_by_taken o) i resident)))
        ≡ after (residency_up o) (spoken word) (by_taken_down (residency_down o) i (stands (own && not published) asked resident))
    clear : IsClear (own && not (after (published_by o) (spoken word) published)) (after (asked_by_sent o) (spoken word) (by_taken_down (asked_by_taken o) i asked)) (unless_flushed o i (after (resident_by_sent o) (spoken word) (by_taken_down (resident_by_taken o) i resident)))
    comes : EachMay (MayMove o) (residency_up o) (spoken word) (by_taken_down (residency_down o) i (stands (own && not published) asked resident))

  -- an object that comes
  turned_object : (b own published asked resident : Bool) (body : Body) → eqb body.object o ≡ b → IsClear (own && not published) asked resident → (eqb body.object o ≡ true → (own && not published) ≡ false)
      → Turned own published asked resident (input.TookDown (down.Object body)) Silent
  turned_object true own published asked resident body e clear comes = record {
    reads = stands_alike {u = own && not published} {v = own && not published} refl (if_true (eqb body.object o) false asked e) (if_true (eqb body.object o) true resident e) ∙ becomes Resident (own && not published) asked resident
        ∙ sym (if_true (eqb body.object o) (unless_unpublished Resident (stands (own && not published) asked resident)) (stands (own && not published) asked resident) e);
    clear = record {
      unasked = λ yes. if_true (eqb body.object o) false asked e;
      gone = λ yes. no_both (own && not published) yes (comes e);
    };
    comes = tt;
  }
  turned_object false own published asked resident body e clear comes = record {
    reads = stands_alike {u = own && not published} {v = own && not published} refl (unless_true (eqb body.object o) false asked e) (unless_true (eqb body.object o) true resident e)
        ∙ sym (unless_true (eqb body.object o) (unless_unpublished Resident (stands (own && not published) asked resident)) (stands (own && not published) asked resident) e);
    clear = record {
      unasked = λ yes. unless_true (eqb body.object o) false asked e ∙ clear.unasked (sym (unless_true (eqb body.object o) true resident e) ∙ yes);
      gone = λ yes. unless_true (eqb body.object o) true resident e ∙ clear.gone yes;
    };
    comes = tt;
  }

  turned_silent : (i : Input) (own published asked resident : Bool) → IsNoFlush i → IsClear (own && not published) asked resident → ComesPublished o (own && not published) i → Turned own published asked resident i Silent
  turned_silent (input.TookDown (down.Object body)) own published asked resident h clear comes = turned_object (eqb body.object o) own published asked resident body refl clear comes
  turned_silent (input.Flush x) own published asked resident h clear comes = absurd h
  turned_silent other own published asked resident h clear comes = record { reads = refl; clear = clear; comes = tt }

  -- a record
  turned_record : (b own published asked resident : Bool) (index : ℕ) (txn : Txn) → is_among o txn.news ≡ b → IsClear (own && not published) asked resident → IsNews o (own && not published) resident (Records txn)
      → Turned own published asked resident (input.Act index) (Records txn)
  turned_record true own published asked resident index txn e clear news = record {
    reads = stands_alike (ap (λ t. own && not t) (ap (λ b. b || published) e)) (if_true (is_among o txn.news) false asked e) (if_true (is_among o txn.news) true resident e)
        ∙ ap (λ u. cond u Unpublished Resident) (published_now own) ∙ sym (if_true (is_among o txn.news) Resident (stands (own && not published) asked resident) e);
    clear = record {
      unasked = λ yes. if_true (is_among o txn.news) false asked e;
      gone = λ yes. no_both (own && not true) (sym (ap (λ b. own && not b) (ap (λ b. b || published) e)) ∙ yes) (published_now own);
    };
    comes = ((λ yes. ap (λ u. stands u asked resident) (news.0 e), λ set. resident_stands (own && not published) asked resident clear (news.1 set)), tt);
  }
  turned_record false own published asked resident index txn e clear news = record {
    reads = stands_alike (ap (λ t. own && not t) (ap (λ b. b || published) e)) (unless_true (is_among o txn.news) false asked e) (unless_true (is_among o txn.news) true resident e)
        ∙ sym (unless_true (is_among o txn.news) Resident (stands (own && not published) asked resident) e);
    clear = record {
      unasked = λ yes. unless_true (is_among o txn.news) false asked e ∙ clear.unasked (sym (unless_true (is_among o txn.news) true resident e) ∙ yes);
      gone = λ yes. unless_true (is_among o txn.news) true resident e ∙ clear.gone (sym (ap (λ b. own && not b) (ap (λ b. b || published) e)) ∙ yes);
    };
    comes = ((λ yes. no_both (is_among o txn.news) yes e, λ set. resident_stands (own && not published) asked resident clear (news.1 set)), tt);
  }

  -- a fault
  turned_ask : (b own published asked resident : Bool) (index x : ℕ) → eqb x o ≡ b → IsClear (own && not published) asked resident → (eqb x o ≡ true → (asked ≡ false) × (resident ≡ false))
      → Turned own published asked resident (input.Act index) (AsksFor x)
  turned_ask true own published asked resident index x e clear lacks = record {
    reads = stands_alike {u = own && not published} {v = own && not published} {r = resident} {q = resident} refl (if_true (eqb x o) true asked e) refl ∙ becomes Asked (own && not published) asked resident
        ∙ sym (if_true (eqb x o) (unless_unpublished Asked (stands (own && not published) asked resident)) (stands (own && not published) asked resident) e);
    clear = record {
      unasked = λ yes. no_both resident yes (lacks e).1;
      gone = clear.gone;
    };
    comes = (λ yes. away_stands (own && not published) asked resident (lacks e).0 (lacks e).1, tt);
  }
  turned_ask false own published asked resident index x e clear lacks = record {
    reads = stands_alike {u = own && not published} {v = own && not published} {r = resident} {q = resident} refl (unless_true (eqb x o) true asked e) refl
        ∙ sym (unless_true (eqb x o) (unless_unpublished Asked (stands (own && not published) asked resident)) (stands (own && not published) asked resident) e);
    clear = record {
      unasked = λ yes. unless_true (eqb x o) true asked e ∙ clear.unasked yes;
      gone = clear.gone;
    };
    comes = (λ yes. no_both (eqb x o) yes e, tt);
  }

  -- a flush
  turned_flush : (b own published asked resident : Bool) (x : ℕ) → eqb x o ≡ b → IsClear (own && not published) asked resident → (eqb x o ≡ true → resident ≡ true)
      → Turned own published asked resident (input.Flush x) (Flushes x)
  turned_flush true own published asked resident x e clear there = record {
    reads = stands_alike {u = own && not published} {v = own && not published} refl (clear.unasked (there e)) (if_true (eqb x o) false resident e) ∙ becomes Absent (own && not published) asked resident
        ∙ sym (if_true (eqb x o) (unless_unpublished Absent (stands (own && not published) asked resident)) (stands (own && not published) asked resident) e);
    clear = record {
      unasked = λ yes. no_both (cond (eqb x o) false resident) yes (if_true (eqb x o) false resident e);
      gone = λ yes. if_true (eqb x o) false resident e;
    };
    comes = (λ yes. resident_stands (own && not published) asked resident clear (there e), tt);
  }
  turned_flush false own published asked resident x e clear there = record {
    reads = stands_alike {u = own && not published} {v = own && not published} {a = asked} {b = asked} refl refl (unless_true (eqb x o) false resident e)
        ∙ sym (unless_true (eqb x o) (unless_unpublished Absent (stands (own && not published) asked resident)) (stands (own && not published) asked resident) e);
    clear = record {
      unasked = λ yes. clear.unasked (sym (unless_true (eqb x o) false resident e) ∙ yes);
      gone = λ yes. unless_true (eqb x o) false resident e ∙ clear.gone yes;
    };
    comes = (λ yes. no_both (eqb x o) yes e, tt);
  }

  turned_act : (P : Input → Type 0) → ((index : ℕ) → P (input.Act index)) → (i : Input) → IsAct i → P i
  turned_act P by (input.Act index) h = by index
  turned_act P by other h = absurd h

  module _ (p : Settings) (c : ℕ) (own : Bool) (e : Entry) (es : List Entry) where
    -- what any word makes
    turned : (i : Input) (word : Word) → IsWord p c e es i word → IsClear (own && not (was_published o es)) (is_object_asked o es) (is_resident o es) → ComesPublished o (own && not (was_published o es)) i
        → IsNews o (own && not (was_published o es)) (is_resident o es) word → Turned own (was_published o es) (is_object_asked o es) (is_resident o es) i word
    turned i Silent is clear comes news = turned_silent i own (was_published o es) (is_object_asked o es) (is_resident o es) is clear comes
    turned i (Records txn) is clear comes news = turned_act (λ i. Turned own (was_published o es) (is_object_asked o es) (is_resident o es) i (Records txn))
        (λ index. turned_record (is_among o txn.news) own (was_published o es) (is_object_asked o es) (is_resident o es) index txn refl clear news) i is.0
    turned i (AsksFor x) is clear comes news = turned_act (λ i. Turned own (was_published o es) (is_object_asked o es) (is_resident o es) i (AsksFor x))
        (λ index. turned_ask (eqb x o) own (was_published o es) (is_object_asked o es) (is_resident o es) index x refl clear
        (λ e. (subst (λ n. is_object_asked n es ≡ false) (same_number x o e) is.1, subst (λ n. is_resident n es ≡ false) (same_number x o e) is.2))) i is.0
    turned i (Flushes x) is clear comes news = subst (λ i. Turned own (was_published o es) (is_object_asked o es) (is_resident o es) i (Flushes x)) (sym is.0)
        (turned_flush (eqb x o) own (was_published o es) (is_object_asked o es) (is_resident o es) x refl clear (λ e. subst (λ n. is_resident n es ≡ true) (same_number x o e) is.1))

    -- quiet messages are heard by no reading of objects
    quiet_published : (m : Up) → IsQuiet m → (s : Bool) → published_by o m s ≡ s
    quiet_published (up.Fault x) h s = absurd h
    quiet_published (up.Flushed x) h s = absurd h
    quiet_published (up.Commit txn) h s = absurd h
    quiet_published m h s = refl

    quiet_asked : (m : Up) → IsQuiet m → (s : Bool) → asked_by_sent o m s ≡ s
    quiet_asked (up.Fault x) h s = absurd h
    quiet_asked (up.Flushed x) h s = absurd h
    quiet_asked (up.Commit txn) h s = absurd h
    quiet_asked m h s = refl

    quiet_resident : (m : Up) → IsQuiet m → (s : Bool) → resident_by_sent o m s ≡ s
    quiet_resident (up.Fault x) h s = absurd h
    quiet_resident (up.Flushed x) h s = absurd h
    quiet_resident (up.Commit txn) h s = absurd h
    quiet_resident m h s = refl

    quiet_deaf : (m : Up) → IsQuiet m → IsDeaf (MayMove o) (residency_up o) m
    quiet_deaf (up.Fault x) h s = absurd h
    quiet_deaf (up.Flushed x) h s = absurd h
    quiet_deaf (up.Commit txn) h s = absurd h
    quiet_deaf m h s = (tt, refl)

    -- how the object stands after the entry: what it says may come, and what is known stays clear
    pub record ClientTurn : Type 0 where
      pub comes : EachMay (MayMove o) (residency_up o) (said_of e.sent) (by_taken_down (residency_down o) e.input (residency_at own o es))
      pub reads : residency_at own o (e ∷ es) ≡ by_sent_up (residency_up o) e.sent (by_taken_down (residency_down o) e.input (residency_at own o es))
      pub clear : IsClear (own && not (was_published o (e ∷ es))) (is_object_asked o (e ∷ es)) (is_resident o (e ∷ es))

    pub client_turn : (w : ClientWord p c e es) → IsClear (own && not (was_published o es)) (is_object_asked o es) (is_resident o es) → ComesPublished o (own && not (was_published o es)) e.input
        → IsNews o (own && not (was_published o es)) (is_resident o es) w.word → ClientTurn
    client_turn w clear comes news =
        let it = turned e.input w.word w.is clear comes news in
        let published = word_status w (published_by o) quiet_published (was_published o es) in
        let asked = word_status w (asked_by_sent o) quiet_asked (by_taken_down (asked_by_taken o) e.input (is_object_asked o es)) in
        let resident = ap (unless_flushed o e.input) (word_status w (resident_by_sent o) quiet_resident (by_taken_down (resident_by_taken o) e.input (is_resident o es))) in
        let s = by_taken_down (residency_down o) e.input (residency_at own o es) in
        record {
          comes = word_comes w (MayMove o) (residency_up o) quiet_deaf s it.comes;
          reads = stands_alike (ap (λ t. own && not t) published) asked resident ∙ it.reads ∙ sym (word_status w (residency_up o) (λ m h s. (quiet_deaf m h s).1) s);
          clear = subst (λ t. IsClear (own && not t) (is_object_asked o (e ∷ es)) (is_resident o (e ∷ es))) (sym published)
              (subst (λ t. IsClear (own && not (after (published_by o) (spoken w.word) (was_published o es))) t (is_resident o (e ∷ es))) (sym asked)
              (subst (λ t. IsClear (own && not (after (published_by o) (spoken w.word) (was_published o es))) (after (asked_by_sent o) (spoken w.word) (by_taken_down (asked_by_taken o) e.input (is_object_asked o es))) t) (sym resident) it.clear));
        }
