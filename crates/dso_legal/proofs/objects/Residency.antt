-- Residency agrees, over lawful journals.
use Rattle.std.specs.List.{list_any}
use Rattle.std.proofs.Common.{ℕ, ◌+◌, ◌*◌, ◌≤◌, ◌≡◌, ◌≢◌, refl, sym, ap, subst, Bool, true, false, cond, not, eqb, ◌&&◌, ◌||◌, Option, None, List, [], ◌∷◌, length, arith}
use Rattle.std.proofs.lemmas.Bool.Decides.{nat_tests}
use Rattle.dso_base.specs.declared.journal.Entry.{Entry}
use Rattle.dso_base.specs.declared.journal.Input.{Input}
use Rattle.dso_base.specs.declared.journal.Input.TheVariants as input
use Rattle.dso_base.specs.declared.journal.Node.{Node}
use Rattle.dso_base.specs.declared.journal.Node.TheVariants.{Server, Client}
use Rattle.dso_base.specs.declared.journal.Sent.{Sent}
use Rattle.dso_base.specs.declared.journal.Sent.TheVariants.{ToServer, ToClient}
use Rattle.dso_base.specs.declared.lock.ThreadId.{ThreadId}
use Rattle.dso_base.specs.declared.message.Down.{Down}
use Rattle.dso_base.specs.declared.message.Down.TheVariants as down
use Rattle.dso_base.specs.declared.message.Up.{Up}
use Rattle.dso_base.specs.declared.message.Up.TheVariants as up
use Rattle.dso_base.specs.declared.request.Event.{Event}
use Rattle.dso_base.specs.declared.request.Request.{Request}
use Rattle.dso_plain.proofs.keys.SameKeys.{same_number, number_self}
use Rattle.dso_lookup.proofs.Tests.{both}
use Rattle.dso_law.specs.Settings.{Settings}
use Rattle.dso_law.specs.Entries.{is_node, unsent, entries_of, by_taken_up, by_sent_down}
use Rattle.dso_law.specs.Channels.{up_in_flight, down_in_flight, IsFirst, TakesFirst}
use Rattle.dso_law.specs.Copies.{is_resident, is_object_asked}
use Rattle.dso_law.specs.ServerReadings.{loses, is_lost, is_of_lost, counted, Batch, batch_by, batches_given, is_in_batch, is_given_to}
use Rattle.dso_law.specs.Store.{body_by, stored, holds_object}
use Rattle.dso_legal.specs.Agreement.{messages, EachMay}
use Rattle.dso_legal.specs.Lawful.{next_after, ClientFollows, ServerFollows, NodeFollows, AllFollow}
use Rattle.dso_legal.specs.OwnObjects.{was_published}
use Rattle.dso_legal.specs.Residency.{Asked, Resident, residency_up, residency_down, IsAway, MayMove, MayCome, is_published_by, residency_at, residency_with, is_own, ResidencyAgrees, ObjectFitsUp, ObjectFitsDown, ObjectsFit}
use Rattle.dso_legal.proofs.records.ClientWords.{Word, Records, IsWord, client_word}
use Rattle.dso_legal.proofs.records.BothEnds.{first_down, server_with, client_with, AgreeAt, EndsAt, agree_after, not_lost_before, first_may_up, first_may_down}
use Rattle.dso_legal.proofs.records.FreshNews.{IsFresh, news_are_fresh, record_sets_resident}
use Rattle.dso_legal.proofs.ids.GivenOnce.{InTurn, in_turn, gives, within, given_once}
use Rattle.dso_legal.proofs.leases.ClientLeases.{neither}
use Rattle.dso_legal.proofs.leases.LeaseSteps.{unless_true, if_true, no_both}
use Rattle.dso_legal.proofs.objects.ResidentClient.{object_commutes, IsClear, stands, ComesPublished, IsNews, ClientTurn, client_turn}
use Rattle.dso_legal.proofs.objects.ResidentServer.{held_stands, IsKept, FaultFits, ServerTurn, server_turn}
use Rattle.dso_legal.proofs.records.ServerSent.{FitsInput, server_sent}

-- what was given stays given
given_told : (d o : ℕ) (out : List Sent) (given : List Batch) → list_any (gives d o) given ≡ true → list_any (gives d o) (by_sent_down batch_by out given) ≡ true
given_told d o [] given e = e
given_told d o (ToServer m ∷ out) given e = given_told d o out given e
given_told d o (ToClient c m ∷ out) given e = given_told d o out (batch_by c m given) (one c m)
  where
    more : (b : Bool) → (b || list_any (gives d o) given) ≡ true
    more true = refl
    more false = e

    one : (c : ℕ) (m : Down) → list_any (gives d o) (batch_by c m given) ≡ true
    one c (down.Ids first) = more (gives d o (record { client = c; first = first }))
    one c m = e

given_counted : (b : Bool) (d o : ℕ) (e : Entry) (es : List Entry) → is_given_to d o (counted es) ≡ true → is_given_to d o (cond b (counted es) (e ∷ counted es)) ≡ true
given_counted true d o e es h = h
given_counted false d o e es h = given_told d o e.sent (batches_given (counted es)) h

given_after : (b : Bool) (d o : ℕ) (e : Entry) (es : List Entry) → is_given_to d o (counted es) ≡ true → is_given_to d o (counted (cond b (e ∷ es) es)) ≡ true
given_after true d o e es h = given_counted (is_of_lost e.input es) d o e es h
given_after false d o e es h = h

given_more : (d o : ℕ) (e : Entry) (es : List Entry) → is_own d o es ≡ true → is_own d o (e ∷ es) ≡ true
given_more d o e es h = given_after (is_node Server e.node) d o e (entries_of Server es) h

-- whose the id is: given to this client and to no other, and not that of the roots; or not given to it
pub record IsTheirs (c o : ℕ) (es : List Entry) : Type 0 where
  pub isnt_roots : eqb o 0 ≡ false
  pub alone : (d : ℕ) → is_own d o es ≡ true → d ≡ c

abbrev pub IsOwner : Bool → ℕ → ℕ → List Entry → Type 0
IsOwner true c o es = IsTheirs c o es
IsOwner false c o es = is_own c o es ≡ false

-- so it was before
pub owner_before : (own : Bool) (c o : ℕ) (e : Entry) (es : List Entry) → IsOwner own c o (e ∷ es) → IsOwner own c o es
owner_before true c o e es h = record { isnt_roots = h.isnt_roots; alone = λ d given. h.alone d (given_more d o e es given) }
owner_before false c o e es h = by (is_own c o es) refl
  where
    by : (b : Bool) → is_own c o es ≡ b → b ≡ false
    by true f = no_both (is_own c o (e ∷ es)) (given_more c o e es f) h
    by false f = refl

-- what is asked for is published
asked_published : (u a r : Bool) → stands u a r ≡ Asked → u ≡ false
asked_published true a r e = absurd (cc e)
asked_published false a r e = refl

pub asked_asked : (u a r : Bool) → stands u a r ≡ Asked → a ≡ true
asked_asked true a r e = absurd (cc e)
asked_asked false true r e = refl
asked_asked false false true e = absurd (cc e)
asked_asked false false false e = absurd (cc e)

-- what is away and stored is published, and not held
away_stored : {X : Type 0} (u holds : Bool) (body : Option X) → IsAway (held_stands u holds) → body ≢ None → (u ≡ true → body ≡ None) → (u ≡ false) × (holds ≡ false)
away_stored true holds body away there unstored = absurd (there (unstored refl))
away_stored false true body away there unstored = absurd away
away_stored false false body away there unstored = (refl, refl)

-- what is away isn't held
away_gone : (u holds : Bool) → IsAway (held_stands u holds) → (u ≡ true → holds ≡ false) → holds ≡ false
away_gone true holds away gone = gone refl
away_gone false true away gone = absurd away
away_gone false false away gone = refl

-- what is resident is held
resident_held : (u holds : Bool) → held_stands u holds ≡ Resident → holds ≡ true
resident_held true holds e = absurd (cc e)
resident_held false true e = refl
resident_held false false e = absurd (cc e)

module _ (p : Settings) (next : ThreadId → List Event → Option Request) (c o : ℕ) (own : Bool) where
  -- what is known of the object after a client's entries
  abbrev pub ClearAt : List Entry → Type 0
  ClearAt js = IsClear (own && not (was_published o js)) (is_object_asked o js) (is_resident o js)

  -- and after the server's entries that count
  abbrev pub KeptAt : List Entry → Type 0
  KeptAt js = IsKept (own && not (is_published_by c o js)) (holds_object c o js) (stored p.shape o js)

  -- what is known of the object at both ends, and that they agree
  pub record Known (es : List Entry) : Type 0 where
    pub agree : AgreeAt p next c (MayMove o) (residency_up o) (MayCome o) (residency_down o) (residency_at own o) (residency_with own c o) es
    pub clear : ClearAt (entries_of (Client c) es)
    pub kept : KeptAt (counted (entries_of Server es))

  -- at the client, where what is in flight to it may come and what it knows is clear
  module _ (e : Entry) (es : List Entry) (follow : AllFollow p next es) (owner : IsOwner own c o es)
      (downs : EachMay (MayCome o) (residency_down o) (messages (down_in_flight c es)) (residency_at own o (entries_of (Client c) es))) (clear : ClearAt (entries_of (Client c) es)) where
    -- an object comes where it is published
    comes_published : (i : Input) → TakesFirst i (Client c) es → ComesPublished o (own && not (was_published o (entries_of (Client c) es))) i
    comes_published (input.TookDown (down.Object body)) first = λ same. asked_published (own && not (was_published o (entries_of (Client c) es))) (is_object_asked o (entries_of (Client c) es)) (is_resident o (entries_of (Client c) es))
        (first_down p next c (MayMove o) (residency_up o) (MayCome o) (residency_down o) (residency_at own o) (residency_with own c o) (down.Object body) (down_in_flight c es) (residency_at own o (entries_of (Client c) es)) first downs same)
    comes_published i first = tt

    -- a fresh object is still to be published
    fresh_unpublished : (b : Bool) → IsOwner b c o es → IsFresh c o es → (b && not (was_published o (entries_of (Client c) es))) ≡ true
    fresh_unpublished true h fresh = ap not fresh.unpublished
    fresh_unpublished false h fresh = no_both (is_own c o es) fresh.own h

    is_news : (i : Input) (word : Word) → IsWord p c e (entries_of (Client c) es) i word → IsNews o (own && not (was_published o (entries_of (Client c) es))) (is_resident o (entries_of (Client c) es)) word
    is_news i (Records txn) is = (λ among. fresh_unpublished own owner (news_are_fresh p next c o e es txn follow is.1 among), λ set. record_sets_resident p next c o e es txn follow is.1 set)
    is_news i word is = tt

    pub at_client : TakesFirst e.input (Client c) es → ClientFollows p next c e es → ClientTurn o p c own e (entries_of (Client c) es)
    at_client first h =
        let w = client_word p c (next_after next es) (next_after next (e ∷ es)) e (entries_of (Client c) es) h.step in
        client_turn o p c own e (entries_of (Client c) es) w clear (comes_published e.input first) (is_news e.input w.word w.is)

  module _ (e : Entry) (es : List Entry) (follow : AllFollow p next es) (alive : is_lost c (entries_of Server es) ≡ false) (owner : IsOwner own c o es) (k : Known es) where
    -- a fault comes where the object is published and not held
    fault_fits : (i : Input) → e.input ≡ i → TakesFirst i Server es → FitsInput p i (counted (entries_of Server es))
        → FaultFits o c own (is_published_by c o (counted (entries_of Server es))) (holds_object c o (counted (entries_of Server es))) p i (unsent e ∷ counted (entries_of Server es))
    fault_fits (input.TookUp d (up.Fault x)) is first fits = λ mine.
        let server = counted (entries_of Server es) in
        let same : stored p.shape x (unsent e ∷ server) ≡ stored p.shape x server = ap (λ i. by_taken_up (body_by x) i (stored p.shape x server)) is in (
          subst (λ body. body ≢ None) (sym same) fits.0.0,
          λ e. away_stored (own && not (is_published_by c o server)) (holds_object c o server) (stored p.shape o server)
              (first_may_up p next c (MayMove o) (residency_up o) (MayCome o) (residency_down o) (residency_at own o) (residency_with own c o) es k.agree (up.Fault x)
              (subst (λ n. IsFirst (up.Fault x) (up_in_flight n es)) (sym (same_number c d mine)) first) e)
              (subst (λ n. stored p.shape n server ≢ None) (same_number x o e) fits.0.0) k.kept.unstored,
        )
    fault_fits i is first fits = tt

    alone : (b : Bool) → IsOwner b c o es → b ≡ true → (d : ℕ) → is_own d o es ≡ true → d ≡ c
    alone true h e d given = h.alone d given
    alone false h e d given = absurd (cc e)

    at_server : TakesFirst e.input Server es → ServerFollows p next e es → is_of_lost e.input (entries_of Server es) ≡ false → loses c e.input ≡ false → ServerTurn o c own p e (counted (entries_of Server es))
    at_server first h counts stays =
        let sent = server_sent p e (entries_of Server es) h.step counts in
        server_turn o c own p e (counted (entries_of Server es)) sent (fault_fits e.input refl first sent.fits) (alone own owner) stays k.kept

    ends_at : EndsAt p next c (MayMove o) (residency_up o) (MayCome o) (residency_down o) (residency_at own o) (residency_with own c o) e es
    ends_at = record {
      at_client = λ first h. let turn = at_client e es follow owner k.agree.downs k.clear first h in record { comes = turn.comes; reads = turn.reads };
      at_server = λ first h counts stays. let turn = at_server first h counts stays in record { comes = turn.comes; reads = turn.reads };
    }

    -- what the client knows stays so
    clear_client : (b : Bool) (d : ℕ) → eqb c d ≡ b → TakesFirst e.input (Client d) es → ClientFollows p next d e es → ClearAt (cond b (e ∷ entries_of (Client c) es) (entries_of (Client c) es))
    clear_client true d mine first h = (at_client e es follow owner k.agree.downs k.clear (subst (λ n. TakesFirst e.input (Client n) es) (sym (same_number c d mine)) first) (subst (λ n. ClientFollows p next n e es) (sym (same_number c d mine)) h)).clear
    clear_client false d mine first h = k.clear

    clear_after : (node : Node) → TakesFirst e.input node es → NodeFollows p next node e es → ClearAt (client_with c node e es)
    clear_after Server first h = k.clear
    clear_after (Client d) first h = clear_client (eqb c d) d refl first h

    -- and what the server knows
    kept_server : (b : Bool) → is_of_lost e.input (entries_of Server es) ≡ b → TakesFirst e.input Server es → ServerFollows p next e es → loses c e.input ≡ false → KeptAt (counted (e ∷ entries_of Server es))
    kept_server true counts first h stays = subst KeptAt (sym (if_true (is_of_lost e.input (entries_of Server es)) (counted (entries_of Server es)) (e ∷ counted (entries_of Server es)) counts)) k.kept
    kept_server false counts first h stays = subst KeptAt (sym (unless_true (is_of_lost e.input (entries_of Server es)) (counted (entries_of Server es)) (e ∷ counted (entries_of Server es)) counts)) (at_server first h counts stays).kept

    pass_state_after : (node : Node) → TakesFirst e.input node es → NodeFollows p next node e es → is_lost c (server_with node e es) ≡ false → KeptAt (counted (server_with node e es))
    pass_state_after Server first h still = kept_server (is_of_lost e.input (entries_of Server es)) refl first h (neither (loses c e.input) (is_lost c (entries_of Server es)) still).0
    pass_state_after (Client d) first h still = k.kept

  -- nothing is known of the roots' id as the client's own
  start_kept : (b : Bool) → IsOwner b c o [] → IsKept (b && not false) false (stored p.shape o [])
  start_kept true h = record { unstored = λ yes. unless_true (eqb o 0) _ None h.isnt_roots; gone = λ yes. refl }
  start_kept false h = record { unstored = λ yes. absurd (cc yes); gone = λ yes. refl }

  start_meets : (b : Bool) → residency_with b c o [] ≡ residency_at b o []
  start_meets true = refl
  start_meets false = refl

  -- over a whole journal
  pub known : (es : List Entry) → AllFollow p next es → is_lost c (entries_of Server es) ≡ false → IsOwner own c o es → Known es
  known [] follow alive owner = record {
    agree = record { ups = tt; downs = tt; meet = start_meets own };
    clear = record { unasked = λ yes. absurd (cc yes); gone = λ yes. refl };
    kept = start_kept own owner;
  }
  known (e ∷ es) follow still owner =
      let alive = not_lost_before c e.node e es still in
      let mine = owner_before own c o e es owner in
      let k = known es follow.0 alive mine in
      record {
        agree = agree_after p next c (MayMove o) (residency_up o) (MayCome o) (residency_down o) (residency_at own o) (residency_with own c o) (object_commutes o) e es
            (ends_at e es follow.0 alive mine k) e.node follow.1.channels follow.1.rule still k.agree;
        clear = clear_after e es follow.0 alive mine k e.node follow.1.channels follow.1.rule;
        kept = pass_state_after e es follow.0 alive mine k e.node follow.1.channels follow.1.rule still;
      }

-- an id that was given isn't 0
above_zero : (o n : ℕ) → 1 + 256 * n ≤ o → eqb o 0 ≡ false
above_zero o n le = let positive : 1 ≤ o = omega (arith, le) in grind (arith, nat_tests)

pub given_above : (c o : ℕ) (given : List Batch) → InTurn given → list_any (gives c o) given ≡ true → eqb o 0 ≡ false
given_above c o [] turn e = absurd (cc e)
given_above c o (b ∷ given) turn e = by (gives c o b) refl e (given_above c o given turn.1)
  where
    by : (t : Bool) → gives c o b ≡ t → (t || list_any (gives c o) given) ≡ true → (list_any (gives c o) given ≡ true → eqb o 0 ≡ false) → eqb o 0 ≡ false
    by true f e rest = above_zero o (length given) (within o b.first (length given) turn.0 (both (eqb b.client c) (is_in_batch o b) f).1).0
    by false f e rest = rest e

module _ (p : Settings) (next : ThreadId → List Event → Option Request) (es : List Entry) (follow : AllFollow p next es) (c : ℕ) where
  -- whose an id is
  pub owner_of : (o : ℕ) (b : Bool) → is_own c o es ≡ b → IsOwner b c o es
  owner_of o true e = record {
    isnt_roots = given_above c o (batches_given (counted (entries_of Server es))) (in_turn p next es follow) e;
    alone = λ d given. sym (given_once c d o (batches_given (counted (entries_of Server es))) (in_turn p next es follow) e given);
  }
  owner_of o false e = e

module _ (p : Settings) (next : ThreadId → List Event → Option Request) (es : List Entry) (follow : AllFollow p next es) (c : ℕ) (alive : is_lost c (entries_of Server es) ≡ false) where
  all_known : (o : ℕ) → Known p next c o (is_own c o es) es
  all_known o = known p next c o (is_own c o es) es follow alive (owner_of p next es follow c o (is_own c o es) refl)

  pub object_fits_up : (m : Up) → IsFirst m (up_in_flight c es) → ObjectFitsUp c m (counted (entries_of Server es))
  object_fits_up (up.Fault o) f =
      let k = all_known o in
      let may = first_may_up p next c (MayMove o) (residency_up o) (MayCome o) (residency_down o) (residency_at (is_own c o es) o) (residency_with (is_own c o es) c o) es k.agree (up.Fault o) f (number_self o) in
      away_gone (is_own c o es && not (is_published_by c o (counted (entries_of Server es)))) (holds_object c o (counted (entries_of Server es))) may k.kept.gone
  object_fits_up (up.Flushed o) f =
      let k = all_known o in
      resident_held (is_own c o es && not (is_published_by c o (counted (entries_of Server es)))) (holds_object c o (counted (entries_of Server es)))
      (first_may_up p next c (MayMove o) (residency_up o) (MayCome o) (residency_down o) (residency_at (is_own c o es) o) (residency_with (is_own c o es) c o) es k.agree (up.Flushed o) f (number_self o))
  object_fits_up (up.Commit txn) f = λ o set.
      let k = all_known o in
      resident_held (is_own c o es && not (is_published_by c o (counted (entries_of Server es)))) (holds_object c o (counted (entries_of Server es)))
      ((first_may_up p next c (MayMove o) (residency_up o) (MayCome o) (residency_down o) (residency_at (is_own c o es) o) (residency_with (is_own c o es) c o) es k.agree (up.Commit txn) f).1 set)
  object_fits_up m f = tt

  pub object_fits_down : (m : Down) → IsFirst m (down_in_flight c es) → ObjectFitsDown m (entries_of (Client c) es)
  object_fits_down (down.Object body) f =
      let o : ℕ = body.object in
      let k = all_known o in
      asked_asked (is_own c o es && not (was_published o (entries_of (Client c) es))) (is_object_asked o (entries_of (Client c) es)) (is_resident o (entries_of (Client c) es))
      (first_may_down p next c (MayMove o) (residency_up o) (MayCome o) (residency_down o) (residency_at (is_own c o es) o) (residency_with (is_own c o es) c o) es k.agree (down.Object body) f (number_self o))
  object_fits_down m f = tt

pub residency_agrees : ResidencyAgrees
residency_agrees p next es h c o alive = (all_known p next es h.follow c alive o).agree

pub objects_fit : ObjectsFit
objects_fit p next es h c alive = record { ups = object_fits_up p next es h.follow c alive; downs = object_fits_down p next es h.follow c alive }
