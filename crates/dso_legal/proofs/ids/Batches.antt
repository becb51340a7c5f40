-- The batches of ids of a client come as they are asked for, each above those before it.
use Rattle.std.specs.List.{AllByRecursion}
use Rattle.std.proofs.Common.{ℕ, suc, ◌+◌, ◌*◌, ◌≤◌, ◌≡◌, ◌⊎◌, inl, inr, refl, sym, ◌∙◌, ap, subst, Bool, true, false, cond, eqb, Option, Some, None, List, [], ◌∷◌, ◌++◌, length, arith}
use Rattle.dso_base.specs.declared.journal.Entry.{Entry}
use Rattle.dso_base.specs.declared.journal.Input.{Input}
use Rattle.dso_base.specs.declared.journal.Input.TheVariants as input
use Rattle.dso_base.specs.declared.journal.Node.{Node}
use Rattle.dso_base.specs.declared.journal.Node.TheVariants.{Server, Client}
use Rattle.dso_base.specs.declared.journal.Sent.{Sent}
use Rattle.dso_base.specs.declared.journal.Sent.TheVariants.{ToServer, ToClient}
use Rattle.dso_base.specs.declared.lock.ThreadId.{ThreadId}
use Rattle.dso_base.specs.declared.message.Down.{Down}
use Rattle.dso_base.specs.declared.message.Down.TheVariants as down
use Rattle.dso_base.specs.declared.message.Up.{Up}
use Rattle.dso_base.specs.declared.message.Up.TheVariants as up
use Rattle.dso_base.specs.declared.record.Body.{Body}
use Rattle.dso_base.specs.declared.request.Event.{Event}
use Rattle.dso_base.specs.declared.request.Request.{Request}
use Rattle.dso_law.specs.Settings.{Settings, batch_size}
use Rattle.dso_law.specs.Entries.{is_node, unsent, entries_of, by_taken_down, by_taken_up, by_sent_down, if_to}
use Rattle.dso_law.specs.Records.{batches_by_taken, batches, batch_asked_by_taken, batch_asked_by_sent, is_batch_asked}
use Rattle.dso_law.specs.ServerReadings.{is_of_lost, counted, Batch, batch_by, batches_given, next_batch}
use Rattle.dso_law.specs.ServerStep.{object_to, ServerStep}
use Rattle.dso_law.specs.Store.{stored}
use Rattle.dso_legal.specs.Agreement.{after, EachMay}
use Rattle.dso_legal.specs.Batches.{MayAskIds, MayGiveIds, IsAbove, given_to, BatchesStayInOrder, BatchesFit}
use Rattle.dso_legal.specs.Lawful.{next_after, NodeFollows, AllFollow}
use Rattle.dso_legal.specs.Numbered.{Always, unchanged}
use Rattle.dso_legal.proofs.channels.Agreement.{AllDeaf, IsDeaf, more_deaf, may_append, after_append, Commutes, turns_commute, deaf_up}
use Rattle.dso_legal.proofs.records.ClientSends.{AtMostRecord, IsAboutLock, EachAboutLock, IsAskOrFlush, AtMostAsk, ClientSent, client_sent}
use Rattle.dso_legal.proofs.records.BothEnds.{Ends, ends_agree, first_may_down}
use Rattle.dso_legal.proofs.leases.LeaseSteps.{unless_true, if_true, no_both}
use Rattle.dso_legal.proofs.records.Numbered.{each_always, after_unchanged, same_either}
use Rattle.dso_legal.proofs.records.ServerSent.{EachTold, told_each_deaf, told_each_so, IsNoReply, reply_on, ServerSent, server_sent}
use Rattle.dso_legal.proofs.channels.InFlight.{said_of, told_to, told_append, said_status, told_status}

-- whose turn it is: the client's where nothing is asked for, the server's where something is
turn_up : (m : Up) (s : Bool) → MayAskIds m s → IsDeaf MayAskIds batch_asked_by_sent m ⊎ (s ≡ false)
turn_up up.IdAsk s may = inr may
turn_up m s may = inl (λ s. (tt, refl))

turn_down : (m : Down) (s : Bool) → MayGiveIds m s → IsDeaf MayGiveIds batch_asked_by_taken m ⊎ (s ≡ true)
turn_down (down.Ids first) s may = inr may
turn_down m s may = inl (λ s. (tt, refl))

pub ask_commutes : Commutes MayAskIds batch_asked_by_sent MayGiveIds batch_asked_by_taken
ask_commutes = turns_commute MayAskIds batch_asked_by_sent MayGiveIds batch_asked_by_taken (λ s. s ≡ false) (λ s. s ≡ true)
    (record { up = turn_up; down = turn_down; never_both = λ s e f. no_both s f e })

pub above_commutes : Commutes (Always {M = Up}) unchanged IsAbove batches_by_taken
above_commutes m d s up down = deaf_up Always unchanged IsAbove batches_by_taken m d s (λ s. (tt, refl)) down

-- messages about locks ask for no ids
lock_deaf : (m : Up) → IsAboutLock m → IsDeaf MayAskIds batch_asked_by_sent m
lock_deaf (up.Request l level) h = λ n. (tt, refl)
lock_deaf (up.Return l threads) h = λ n. (tt, refl)
lock_deaf other h = absurd h

locks_deaf : (ms : List Up) → EachAboutLock ms → AllDeaf MayAskIds batch_asked_by_sent ms
locks_deaf [] h = record { comes = λ n. tt; stays = λ n. refl }
locks_deaf (m ∷ ms) h = more_deaf MayAskIds batch_asked_by_sent m ms (lock_deaf m h.0) (locks_deaf ms h.1)

-- nor do records
record_deaf : (es : List Entry) (ms : List Up) → AtMostRecord es ms → AllDeaf MayAskIds batch_asked_by_sent ms
record_deaf es [] h = record { comes = λ n. tt; stays = λ n. refl }
record_deaf es (m ∷ []) h = subst (λ m. AllDeaf MayAskIds batch_asked_by_sent (m ∷ [])) (sym h.is) (record { comes = λ n. (tt, tt); stays = λ n. refl })
record_deaf es (m ∷ k ∷ ms) h = absurd h

-- an ask comes where none is asked for
ask_comes : (i : Input) (es : List Entry) (m : Up) → IsAskOrFlush i es m → MayAskIds m (is_batch_asked es)
ask_comes i es up.IdAsk h = h
ask_comes i es m h = tt

asks_come : (i : Input) (es : List Entry) (ms : List Up) → AtMostAsk i es ms → EachMay MayAskIds batch_asked_by_sent ms (is_batch_asked es)
asks_come i es [] h = tt
asks_come i es (m ∷ []) h = (ask_comes i es m h, tt)
asks_come i es (m ∷ k ∷ ms) h = absurd h

-- what a client's entry asks for
sent_asks : (e : Entry) (es : List Entry) → ClientSent e es → EachMay MayAskIds batch_asked_by_sent (said_of e.sent) (is_batch_asked (unsent e ∷ es))
sent_asks e es sent =
    let s = is_batch_asked (unsent e ∷ es) in
    let first = record_deaf es sent.first sent.records in
    let locks = locks_deaf sent.locks sent.about_locks in
    subst (λ ms. EachMay MayAskIds batch_asked_by_sent ms s) (sym sent.whole)
    (may_append MayAskIds batch_asked_by_sent sent.first (sent.locks ++ sent.last) s (first.comes s)
    (subst (EachMay MayAskIds batch_asked_by_sent (sent.locks ++ sent.last)) (sym (first.stays s))
    (may_append MayAskIds batch_asked_by_sent sent.locks sent.last s (locks.comes s)
    (subst (EachMay MayAskIds batch_asked_by_sent sent.last) (sym (locks.stays s)) (asks_come e.input (unsent e ∷ es) sent.last sent.asks)))))

-- the server answers an ask at once
record GivesAtOnce (ms : List Down) (s : Bool) : Type 0 where
  comes : EachMay MayGiveIds batch_asked_by_taken ms s
  none : after batch_asked_by_taken ms s ≡ false

give_one : (b : Bool) (first : ℕ) → GivesAtOnce (cond b (down.Ids first ∷ []) []) (cond b true false)
give_one true first = record { comes = (refl, tt); none = refl }
give_one false first = record { comes = tt; none = refl }

nothing_to_give : (b : Bool) → GivesAtOnce [] (cond b false false)
nothing_to_give true = record { comes = tt; none = refl }
nothing_to_give false = record { comes = tt; none = refl }

other_reply : (b : Bool) (m : Down) → IsDeaf MayGiveIds batch_asked_by_taken m → GivesAtOnce (cond b (m ∷ []) []) (cond b false false)
other_reply true m deaf = record { comes = ((deaf false).0, tt); none = (deaf false).1 }
other_reply false m deaf = record { comes = tt; none = refl }

object_reply : (c d : ℕ) (body : Option Body) → GivesAtOnce (told_to c (object_to d body)) (cond (eqb c d) false false)
object_reply c d None = nothing_to_give (eqb c d)
object_reply c d (Some body) = other_reply (eqb c d) (down.Object body) (λ s. (tt, refl))

reply_gives : (p : Settings) (c : ℕ) (i : Input) (es : List Entry) → GivesAtOnce (told_to c (reply_on p i es)) (by_taken_up (if_to c batch_asked_by_sent) i false)
reply_gives p c (input.TookUp d up.IdAsk) es = give_one (eqb c d) (next_batch es)
reply_gives p c (input.TookUp d (up.Fault o)) es = object_reply c d (stored p.shape o es)
reply_gives p c (input.TookUp d (up.Commit txn)) es = other_reply (eqb c d) (down.Ack txn.seq) (λ s. (tt, refl))
reply_gives p c (input.TookUp d m) es = nothing_to_give (eqb c d)
reply_gives p c other es = record { comes = tt; none = refl }

no_reply_deaf : (m : Down) → IsNoReply m → IsDeaf MayGiveIds batch_asked_by_taken m
no_reply_deaf (down.Ids first) h = absurd h
no_reply_deaf (down.Object body) h = absurd h
no_reply_deaf (down.Ack seq) h = absurd h
no_reply_deaf m h = λ s. (tt, refl)

sent_gives : (p : Settings) (c : ℕ) (e : Entry) (es : List Entry) → ServerSent p e es → GivesAtOnce (told_to c e.sent) (by_taken_up (if_to c batch_asked_by_sent) e.input false)
sent_gives p c e es sent =
    let s = by_taken_up (if_to c batch_asked_by_sent) e.input false in
    let first = told_to c (reply_on p e.input (unsent e ∷ es)) in
    let reply = reply_gives p c e.input (unsent e ∷ es) in
    let deaf = told_each_deaf MayGiveIds batch_asked_by_taken c sent.others (told_each_so IsNoReply (IsDeaf MayGiveIds batch_asked_by_taken) no_reply_deaf sent.others sent.no_replies) in
    let same : told_to c e.sent ≡ first ++ told_to c sent.others = ap (told_to c) sent.whole ∙ told_append c (reply_on p e.input (unsent e ∷ es)) sent.others in
    record {
      comes = subst (λ ms. EachMay MayGiveIds batch_asked_by_taken ms s) (sym same)
          (may_append MayGiveIds batch_asked_by_taken first (told_to c sent.others) s reply.comes (deaf.comes (after batch_asked_by_taken first s)));
      none = ap (λ ms. after batch_asked_by_taken ms s) same ∙ after_append batch_asked_by_taken first (told_to c sent.others) s ∙ deaf.stays (after batch_asked_by_taken first s) ∙ reply.none;
    }

-- The batches given begin below the next one.
abbrev Below : ℕ → List ℕ → Type 0
Below next firsts = AllByRecursion (λ b. b + batch_size ≤ next) firsts

below_later : (firsts : List ℕ) (n m : ℕ) → n ≤ m → Below n firsts → Below m firsts
below_later [] n m le h = tt
below_later (b ∷ firsts) n m le h = ((let first : b + 256 ≤ n = h.0 in omega (arith, first, le)), below_later firsts n m le h.1)

below_append : (firsts : List ℕ) (b n : ℕ) → Below n firsts → b + 256 ≤ n → Below n (firsts ++ b ∷ [])
below_append [] b n h lt = (lt, tt)
below_append (x ∷ firsts) b n h lt = (h.0, below_append firsts b n h.1 lt)

-- what is sent to client c, where some batches were given: what may come, and what is below the next
record Gives (c : ℕ) (out : List Sent) (given : List Batch) (mine : List ℕ) : Type 0 where
  comes : EachMay IsAbove batches_by_taken (told_to c out) mine
  below : Below (1 + 256 * length (by_sent_down batch_by out given)) (after batches_by_taken (told_to c out) mine)

-- the message gives no ids
abbrev pub IsNoIds : Down → Type 0
IsNoIds (down.Ids first) = ⊥
IsNoIds m = Unit {0}

pub no_reply_no_ids : (m : Down) → IsNoReply m → IsNoIds m
no_reply_no_ids (down.Ids first) h = absurd h
no_reply_no_ids m h = tt

no_ids_deaf : (m : Down) → IsNoIds m → IsDeaf IsAbove batches_by_taken m
no_ids_deaf (down.Ids first) h = absurd h
no_ids_deaf m h = λ s. (tt, refl)

no_batch : (c : ℕ) (m : Down) (given : List Batch) → IsNoIds m → batch_by c m given ≡ given
no_batch c (down.Ids first) given h = absurd h
no_batch c m given h = refl

pub no_batches : (out : List Sent) (given : List Batch) → EachTold IsNoIds out → by_sent_down batch_by out given ≡ given
no_batches [] given h = refl
no_batches (ToServer m ∷ out) given h = no_batches out given h
no_batches (ToClient c m ∷ out) given h = ap (by_sent_down batch_by out) (no_batch c m given h.0) ∙ no_batches out given h.1

-- the first id of the next batch, after so many
abbrev next_after_given : List Batch → ℕ
next_after_given given = 1 + 256 * length given

-- a reading after what is told in two lists
pub told_by_append : {S : Type 0} (step : ℕ → Down → S → S) (xs ys : List Sent) (s : S) → by_sent_down step (xs ++ ys) s ≡ by_sent_down step ys (by_sent_down step xs s)
told_by_append step [] ys s = refl
told_by_append step (ToServer m ∷ xs) ys s = told_by_append step xs ys s
told_by_append step (ToClient c m ∷ xs) ys s = told_by_append step xs ys (step c m s)

-- what gives no ids, behind what may give some
gives_then_none : (c : ℕ) (xs ys : List Sent) (given : List Batch) (mine : List ℕ) → Gives c xs given mine → EachTold IsNoIds ys → Gives c (xs ++ ys) given mine
gives_then_none c xs ys given mine g none =
    let deaf = told_each_deaf IsAbove batches_by_taken c ys (told_each_so IsNoIds (IsDeaf IsAbove batches_by_taken) no_ids_deaf ys none) in
    let told = told_append c xs ys in
    record {
      comes = subst (λ ms. EachMay IsAbove batches_by_taken ms mine) (sym told) (may_append IsAbove batches_by_taken (told_to c xs) (told_to c ys) mine g.comes (deaf.comes (after batches_by_taken (told_to c xs) mine)));
      below = subst (λ given. Below (next_after_given given) (after batches_by_taken (told_to c (xs ++ ys)) mine)) (sym (told_by_append batch_by xs ys given ∙ no_batches ys (by_sent_down batch_by xs given) none))
          (subst (Below (next_after_given (by_sent_down batch_by xs given))) (sym (ap (λ ms. after batches_by_taken ms mine) told ∙ after_append batches_by_taken (told_to c xs) (told_to c ys) mine ∙ deaf.stays (after batches_by_taken (told_to c xs) mine))) g.below);
    }

next_rises : (n : ℕ) → 1 + 256 * n ≤ 1 + 256 * suc n
next_rises n = omega arith

next_is_over : (n : ℕ) → (1 + 256 * n) + 256 ≤ 1 + 256 * suc n
next_is_over n = omega arith

at_least_one : (n : ℕ) → 1 ≤ 1 + n
at_least_one n = omega arith

gives_ids : (b : Bool) (c d : ℕ) (given : List Batch) (mine : List ℕ) → eqb c d ≡ b → Below (next_after_given given) mine → Gives c (ToClient d (down.Ids (next_after_given given)) ∷ []) given mine
gives_ids true c d given mine e below =
    let told : told_to c (ToClient d (down.Ids (next_after_given given)) ∷ []) ≡ down.Ids (next_after_given given) ∷ [] = if_true (eqb c d) _ _ e in
    record {
      comes = subst (λ ms. EachMay IsAbove batches_by_taken ms mine) (sym told) ((at_least_one (256 * length given), below), tt);
      below = subst (λ ms. Below (1 + 256 * suc (length given)) (after batches_by_taken ms mine)) (sym told)
          (below_append mine (next_after_given given) (1 + 256 * suc (length given)) (below_later mine (next_after_given given) (1 + 256 * suc (length given)) (next_rises (length given)) below) (next_is_over (length given)));
    }
gives_ids false c d given mine e below =
    let told : told_to c (ToClient d (down.Ids (next_after_given given)) ∷ []) ≡ [] = unless_true (eqb c d) _ _ e in
    record {
      comes = subst (λ ms. EachMay IsAbove batches_by_taken ms mine) (sym told) tt;
      below = subst (λ ms. Below (1 + 256 * suc (length given)) (after batches_by_taken ms mine)) (sym told)
          (below_later mine (next_after_given given) (1 + 256 * suc (length given)) (next_rises (length given)) below);
    }

gives_none : (c : ℕ) (given : List Batch) (mine : List ℕ) → Below (next_after_given given) mine → Gives c [] given mine
gives_none c given mine below = record { comes = tt; below = below }

pub object_no_ids : (d : ℕ) (body : Option Body) → EachTold IsNoIds (object_to d body)
object_no_ids d None = tt
object_no_ids d (Some body) = (tt, tt)

-- the reply to what the server takes in
reply_above : (p : Settings) (c : ℕ) (i : Input) (es : List Entry) (mine : List ℕ) → Below (next_batch es) mine → Gives c (reply_on p i es) (batches_given es) mine
reply_above p c (input.TookUp d up.IdAsk) es mine below = gives_ids (eqb c d) c d (batches_given es) mine refl below
reply_above p c (input.TookUp d (up.Fault o)) es mine below = gives_then_none c [] (object_to d (stored p.shape o es)) (batches_given es) mine (gives_none c (batches_given es) mine below) (object_no_ids d (stored p.shape o es))
reply_above p c (input.TookUp d (up.Commit txn)) es mine below = gives_then_none c [] (ToClient d (down.Ack txn.seq) ∷ []) (batches_given es) mine (gives_none c (batches_given es) mine below) (tt, tt)
reply_above p c (input.TookUp d m) es mine below = gives_none c (batches_given es) mine below
reply_above p c other es mine below = gives_none c (batches_given es) mine below

-- and all that it sends
sent_above : (p : Settings) (c : ℕ) (e : Entry) (es : List Entry) (mine : List ℕ) → ServerSent p e es → Below (next_batch es) mine → Gives c e.sent (batches_given es) mine
sent_above p c e es mine sent below = subst (λ out. Gives c out (batches_given es) mine) (sym sent.whole)
    (gives_then_none c (reply_on p e.input (unsent e ∷ es)) sent.others (batches_given es) mine (reply_above p c e.input (unsent e ∷ es) mine below)
    (told_each_so IsNoReply IsNoIds no_reply_no_ids sent.others sent.no_replies))

-- The batches given to each client begin below the next one; the entries are those that count.
abbrev AllBelow : List Entry → Type 0
AllBelow es = (c : ℕ) → Below (next_batch es) (given_to c es)

below_counted : (p : Settings) (e : Entry) (es : List Entry) → ServerSent p e es → AllBelow es → AllBelow (e ∷ es)
below_counted p e es sent all c = subst (Below (next_batch (e ∷ es))) (sym (told_status c batches_by_taken e.sent (given_to c es))) (sent_above p c e es (given_to c es) sent (all c)).below

below_after : (b : Bool) (p : Settings) (e : Entry) (es : List Entry) → is_of_lost e.input es ≡ b → ServerStep p e es → AllBelow (counted es) → AllBelow (counted (e ∷ es))
below_after true p e es counts h all = subst AllBelow (sym (if_true (is_of_lost e.input es) (counted es) (e ∷ counted es) counts)) all
below_after false p e es counts h all = subst AllBelow (sym (unless_true (is_of_lost e.input es) (counted es) (e ∷ counted es) counts))
    (below_counted p e (counted es) (server_sent p e es h counts) all)

module _ (p : Settings) (next : ThreadId → List Event → Option Request) where
  below_at : (node : Node) (e : Entry) (es : List Entry) → NodeFollows p next node e es → AllBelow (counted (entries_of Server es)) → AllBelow (counted (cond (is_node Server node) (e ∷ entries_of Server es) (entries_of Server es)))
  below_at Server e es h all = below_after (is_of_lost e.input (entries_of Server es)) p e (entries_of Server es) refl h.step all
  below_at (Client d) e es h all = all

  -- over a whole journal
  all_below : (es : List Entry) → AllFollow p next es → AllBelow (counted (entries_of Server es))
  all_below [] h = λ c. tt
  all_below (e ∷ es) h = below_at e.node e es h.1.rule (all_below es h.0)

  module _ (c : ℕ) where
    -- what the server takes in gives nothing by itself
    heard_unchanged : (i : Input) (s : List ℕ) → by_taken_up (if_to c (unchanged {M = Up})) i s ≡ s
    heard_unchanged (input.TookUp d m) s = same_either (eqb c d) s
    heard_unchanged other s = refl

    -- both ends of the asks
    pub ask_ends : Ends p next c MayAskIds batch_asked_by_sent MayGiveIds batch_asked_by_taken is_batch_asked (λ es. false)
    ask_ends = record {
      start = refl;
      at_client = λ e es follow h. record {
        comes = sent_asks e (entries_of (Client c) es) (client_sent p c (next_after next es) (next_after next (e ∷ es)) e (entries_of (Client c) es) h.step);
        reads = refl;
      };
      at_server = λ e es follow h counts stays.
          let gives = sent_gives p c e (counted (entries_of Server es)) (server_sent p e (entries_of Server es) h.step counts) in
          record { comes = gives.comes; reads = sym (told_status c batch_asked_by_taken e.sent (by_taken_up (if_to c batch_asked_by_sent) e.input false) ∙ gives.none) };
    }

    -- both ends of the batches
    pub batch_ends : Ends p next c Always unchanged IsAbove batches_by_taken batches (given_to c)
    batch_ends = record {
      start = refl;
      at_client = λ e es follow h.
          let s = by_taken_down batches_by_taken e.input (batches (entries_of (Client c) es)) in
          record {
            comes = each_always unchanged (said_of e.sent) s;
            reads = sym (said_status unchanged e.sent s ∙ after_unchanged (said_of e.sent) s);
          };
      at_server = λ e es follow h counts stays.
          let before = counted (entries_of Server es) in
          let heard = heard_unchanged e.input (given_to c before) in
          record {
            comes = subst (EachMay IsAbove batches_by_taken (told_to c e.sent)) (sym heard)
                (sent_above p c e before (given_to c before) (server_sent p e (entries_of Server es) h.step counts) (all_below es follow c)).comes;
            reads = ap (by_sent_down (if_to c batches_by_taken) e.sent) (sym heard);
          };
    }

pub batches_stay_in_order : BatchesStayInOrder
batches_stay_in_order p next es h c alive = record {
  asked = ends_agree p next c MayAskIds batch_asked_by_sent MayGiveIds batch_asked_by_taken is_batch_asked (λ es. false) ask_commutes (ask_ends p next c) es h.follow alive;
  above = ends_agree p next c Always unchanged IsAbove batches_by_taken batches (given_to c) above_commutes (batch_ends p next c) es h.follow alive;
}

pub batches_fit : BatchesFit
batches_fit p next es h c alive m f =
    let order = batches_stay_in_order p next es h c alive in
    record {
      asked = first_may_down p next c MayAskIds batch_asked_by_sent MayGiveIds batch_asked_by_taken is_batch_asked (λ es. false) es order.asked m f;
      above = first_may_down p next c Always unchanged IsAbove batches_by_taken batches (given_to c) es order.above m f;
    }
