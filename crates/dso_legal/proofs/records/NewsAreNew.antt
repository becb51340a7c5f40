-- A record that comes publishes objects that the server doesn't know yet.
use Rattle.std.specs.List.{list_any, AllByRecursion}
use Rattle.std.proofs.Common.{ℕ, zero, suc, ◌+◌, ◌*◌, ◌≤◌, ◌≡◌, refl, sym, ◌∙◌, ap, subst, Bool, true, false, cond, eqb, ◌||◌, Option, Some, None, List, [], ◌∷◌, length, drop, arith}
use Rattle.std.proofs.lemmas.Bool.Decides.{nat_tests}
use Rattle.dso_base.specs.declared.journal.Entry.{Entry}
use Rattle.dso_base.specs.declared.journal.Input.{Input}
use Rattle.dso_base.specs.declared.journal.Input.TheVariants as input
use Rattle.dso_base.specs.declared.journal.Node.{Node}
use Rattle.dso_base.specs.declared.journal.Node.TheVariants.{Server, Client}
use Rattle.dso_base.specs.declared.lock.ThreadId.{ThreadId}
use Rattle.dso_base.specs.declared.message.Up.{Up}
use Rattle.dso_base.specs.declared.message.Up.TheVariants as up
use Rattle.dso_base.specs.declared.record.Body.{Body}
use Rattle.dso_base.specs.declared.record.Set.{Set}
use Rattle.dso_base.specs.declared.request.Event.{Event}
use Rattle.dso_base.specs.declared.request.Request.{Request}
use Rattle.dso_base.specs.declared.shape.Shape.{Shape}
use Rattle.dso_lookup.proofs.Tests.{both}
use Rattle.dso_plain.proofs.keys.SameKeys.{same_number, number_self}
use Rattle.dso_law.specs.Settings.{Settings}
use Rattle.dso_law.specs.Entries.{entries_of, by_taken_up, by_sent_up, if_to}
use Rattle.dso_law.specs.Channels.{Letter, posted, takes_up, up_in_flight, in_flight_after, to_server, IsFirst, TakesFirst}
use Rattle.dso_law.specs.Copies.{is_among}
use Rattle.dso_law.specs.ServerReadings.{is_of_lost, counted, Batch, batches_given, is_in_batch, is_given_to}
use Rattle.dso_law.specs.Store.{opening_roots, body_by_news, body_by_sets, body_by, stored}
use Rattle.dso_legal.specs.Agreement.{messages, after}
use Rattle.dso_legal.specs.Lawful.{AllFollow}
use Rattle.dso_legal.specs.MadeOnce.{is_made, MadeOnce}
use Rattle.dso_legal.specs.NewsAreNew.{IsUnknown, PublishesUnknown, NewsAreNew}
use Rattle.dso_legal.specs.OwnObjects.{count_bodies}
use Rattle.dso_legal.proofs.channels.Agreement.{after_append}
use Rattle.dso_legal.proofs.objects.BodyCounts.{count_there}
use Rattle.dso_legal.proofs.records.BothEnds.{server_with, client_with}
use Rattle.dso_legal.proofs.ids.GivenOnce.{InTurn, in_turn, gives, within}
use Rattle.dso_legal.proofs.leases.LeaseSteps.{unless_true, if_true}
use Rattle.dso_legal.proofs.ids.MadeOnce.{made_once}
use Rattle.dso_legal.proofs.records.SentNews.{news_of, sent_news, sent_once, sent_made}
use Rattle.dso_legal.proofs.channels.InFlight.{said_of, said_letters, said_status}

-- sums
both_more : (a n k : ℕ) → n ≤ k → a + n ≤ a + k
both_more a n k le = omega (arith, le)

no_less_with : (a n : ℕ) → n ≤ a + n
no_less_with a n = omega arith

pub through : (a b c : ℕ) → a ≤ b → b ≤ c → a ≤ c
through a b c le more = omega (arith, le, more)

itself : (n : ℕ) → n ≤ n
itself n = omega arith

neither_counts : (a b : ℕ) → a + b ≡ 0 → (a ≡ 0) × (b ≡ 0)
neither_counts a b e = (omega (arith, e), omega (arith, e))

none_left : (news before sent : ℕ) → news + before ≤ sent → sent ≤ 1 → 1 ≤ news → before ≡ 0
none_left news before sent le few some = omega (arith, le, few, some)

some_there : (news before sent : ℕ) → news + before ≤ sent → 1 ≤ news → 1 ≤ sent
some_there news before sent le some = omega (arith, le, some)

never_none : (n : ℕ) → 1 + n ≡ 0 → ⊥
never_none n e = omega (arith, e)

nothing : (n : ℕ) → n ≤ 0 → n ≡ 0
nothing n le = omega (arith, le)

module _ (o : ℕ) where
  -- how often the records that the server took of the client publish the object
  abbrev pub taken_news : ℕ → List Entry → ℕ
  taken_news c [] = 0
  taken_news c (e ∷ es) = by_taken_up (if_to c (news_of o)) e.input (taken_news c es)

  more_news : (m : Up) (n k : ℕ) → n ≤ k → news_of o m n ≤ news_of o m k
  more_news (up.Commit txn) n k le = both_more (count_bodies o txn.news) n k le
  more_news m n k le = le

  more_after : (ms : List Up) (n k : ℕ) → n ≤ k → after (news_of o) ms n ≤ after (news_of o) ms k
  more_after [] n k le = le
  more_after (m ∷ ms) n k le = more_after ms (news_of o m n) (news_of o m k) (more_news m n k le)

  not_less : (m : Up) (n : ℕ) → n ≤ news_of o m n
  not_less (up.Commit txn) n = no_less_with (count_bodies o txn.news) n
  not_less m n = itself n

  pub none_less : (ms : List Up) (n : ℕ) → n ≤ after (news_of o) ms n
  none_less [] n = itself n
  none_less (m ∷ ms) n = through n (news_of o m n) (after (news_of o) ms (news_of o m n)) (not_less m n) (none_less ms (news_of o m n))

  -- the server takes the first in flight to it
  took : (m : Up) (letters : List (Letter Up)) (n : ℕ) → IsFirst m letters → after (news_of o) (messages (drop 1 letters)) (news_of o m n) ≡ after (news_of o) (messages letters) n
  took m [] n f = absurd f
  took m (letter ∷ letters) n f = ap (λ x. after (news_of o) (messages letters) (news_of o x n)) f

  -- or passes it over
  passed : (b : Bool) (letters : List (Letter Up)) (n : ℕ) → after (news_of o) (messages (cond b (drop 1 letters) letters)) n ≤ after (news_of o) (messages letters) n
  passed true [] n = itself n
  passed true (letter ∷ letters) n = more_after (messages letters) n (news_of o letter.message n) (not_less letter.message n)
  passed false letters n = itself (after (news_of o) (messages letters) n)

  module _ (p : Settings) (next : ThreadId → List Event → Option Request) (c : ℕ) where
    hears : (i : Input) (es : List Entry) (n : ℕ) → TakesFirst i Server es
        → after (news_of o) (messages (cond (takes_up c i) (drop 1 (up_in_flight c es)) (up_in_flight c es))) (by_taken_up (if_to c (news_of o)) i n) ≡ after (news_of o) (messages (up_in_flight c es)) n
    hears (input.TookUp d m) es n first = by (eqb c d) refl
      where
        by : (b : Bool) → eqb c d ≡ b → after (news_of o) (messages (cond b (drop 1 (up_in_flight c es)) (up_in_flight c es))) (cond b (news_of o m n) n) ≡ after (news_of o) (messages (up_in_flight c es)) n
        by true is = took m (up_in_flight c es) n (subst (λ x. IsFirst m (up_in_flight x es)) (sym (same_number c d is)) first)
        by false is = refl
    hears other es n first = refl

    -- what the server took and what is in flight was sent
    abbrev WasSent : List (Letter Up) → List Entry → List Entry → Type 0
    WasSent letters server client = after (news_of o) (messages letters) (taken_news c (counted server)) ≤ sent_news o client

    module _ (e : Entry) (es : List Entry) where
      server_at : (b : Bool) → is_of_lost e.input (entries_of Server es) ≡ b → TakesFirst e.input Server es → WasSent (up_in_flight c es) (entries_of Server es) (entries_of (Client c) es)
          → WasSent (in_flight_after (to_server c) e Server (up_in_flight c es)) (e ∷ entries_of Server es) (entries_of (Client c) es)
      server_at true counts first h =
          subst (λ js. after (news_of o) (messages (in_flight_after (to_server c) e Server (up_in_flight c es))) (taken_news c js) ≤ sent_news o (entries_of (Client c) es))
          (sym (if_true (is_of_lost e.input (entries_of Server es)) (counted (entries_of Server es)) (e ∷ counted (entries_of Server es)) counts))
          (through (after (news_of o) (messages (in_flight_after (to_server c) e Server (up_in_flight c es))) (taken_news c (counted (entries_of Server es)))) (after (news_of o) (messages (up_in_flight c es)) (taken_news c (counted (entries_of Server es))))
          (sent_news o (entries_of (Client c) es)) (passed (takes_up c e.input) (up_in_flight c es) (taken_news c (counted (entries_of Server es)))) h)
      server_at false counts first h =
          subst (λ js. after (news_of o) (messages (in_flight_after (to_server c) e Server (up_in_flight c es))) (taken_news c js) ≤ sent_news o (entries_of (Client c) es))
          (sym (unless_true (is_of_lost e.input (entries_of Server es)) (counted (entries_of Server es)) (e ∷ counted (entries_of Server es)) counts))
          (subst (λ n. n ≤ sent_news o (entries_of (Client c) es)) (sym (hears e.input es (taken_news c (counted (entries_of Server es))) first)) h)

      client_at : (b : Bool) → WasSent (up_in_flight c es) (entries_of Server es) (entries_of (Client c) es)
          → WasSent (cond b (by_sent_up (posted e.clock) e.sent (up_in_flight c es)) (up_in_flight c es)) (entries_of Server es) (cond b (e ∷ entries_of (Client c) es) (entries_of (Client c) es))
      client_at true h =
          let n = taken_news c (counted (entries_of Server es)) in
          subst (λ ms. after (news_of o) ms n ≤ sent_news o (e ∷ entries_of (Client c) es)) (sym (said_letters e.clock e.sent (up_in_flight c es)))
          (subst (λ k. k ≤ sent_news o (e ∷ entries_of (Client c) es)) (sym (after_append (news_of o) (messages (up_in_flight c es)) (said_of e.sent) n))
          (subst (λ k. after (news_of o) (said_of e.sent) (after (news_of o) (messages (up_in_flight c es)) n) ≤ k) (sym (said_status (news_of o) e.sent (sent_news o (entries_of (Client c) es))))
          (more_after (said_of e.sent) (after (news_of o) (messages (up_in_flight c es)) n) (sent_news o (entries_of (Client c) es)) h)))
      client_at false h = h

      sent_at : (node : Node) → TakesFirst e.input node es → WasSent (up_in_flight c es) (entries_of Server es) (entries_of (Client c) es)
          → WasSent (in_flight_after (to_server c) e node (up_in_flight c es)) (server_with node e es) (client_with c node e es)
      sent_at Server first h = server_at (is_of_lost e.input (entries_of Server es)) refl first h
      sent_at (Client d) first h = client_at (eqb c d) h

    -- over a whole journal
    pub was_sent : (es : List Entry) → AllFollow p next es → WasSent (up_in_flight c es) (entries_of Server es) (entries_of (Client c) es)
    was_sent [] follow = itself 0
    was_sent (e ∷ es) follow = sent_at e es e.node follow.1.channels (was_sent es follow.0)

  -- an object of which no record was taken isn't in the graph
  no_body : (bodies : List Body) → count_bodies o bodies ≡ 0 → body_by_news o bodies None ≡ None
  no_body [] e = refl
  no_body (body ∷ bodies) e = by (eqb body.object o) e (no_body bodies)
    where
      by : (b : Bool) → cond b 1 0 + count_bodies o bodies ≡ 0 → (count_bodies o bodies ≡ 0 → body_by_news o bodies None ≡ None) → body_by_news o bodies (cond b (Some body) None) ≡ None
      by true f later = absurd (never_none (count_bodies o bodies) f)
      by false f later = later (neither_counts 0 (count_bodies o bodies) f).1

  no_set : (sets : List Set) → body_by_sets o sets None ≡ None
  no_set [] = refl
  no_set (set ∷ sets) = by (eqb set.object o) (no_set sets)
    where
      by : (b : Bool) → body_by_sets o sets None ≡ None → body_by_sets o sets (cond b None None) ≡ None
      by true e = e
      by false e = e

  -- nothing was taken before either
  before_too : (i : Input) (c n : ℕ) → by_taken_up (if_to c (news_of o)) i n ≡ 0 → n ≡ 0
  before_too (input.TookUp d m) c n e = by (eqb c d) e
    where
      by : (b : Bool) → cond b (news_of o m n) n ≡ 0 → n ≡ 0
      by true f = nothing n (subst (λ k. n ≤ k) f (not_less m n))
      by false f = f
  before_too other c n e = e

  heard_none : (i : Input) (n : ℕ → ℕ) → ((c : ℕ) → by_taken_up (if_to c (news_of o)) i (n c) ≡ 0) → by_taken_up (body_by o) i None ≡ None
  heard_none (input.TookUp d (up.Commit txn)) n h =
      let count : count_bodies o txn.news + n d ≡ 0 = sym (if_true (eqb d d) (count_bodies o txn.news + n d) (n d) (number_self d)) ∙ h d in
      ap (body_by_sets o txn.sets) (no_body txn.news (neither_counts (count_bodies o txn.news) (n d) count).0) ∙ no_set txn.sets
  heard_none (input.TookUp d m) n h = refl
  heard_none other n h = refl

  not_stored : (shape : Shape) → eqb o 0 ≡ false → (es : List Entry) → ((c : ℕ) → taken_news c es ≡ 0) → stored shape o es ≡ None
  not_stored shape other [] h = unless_true (eqb o 0) (Some (opening_roots shape)) None other
  not_stored shape other (e ∷ es) h = ap (by_taken_up (body_by o) e.input) (not_stored shape other es (λ c. before_too e.input c (taken_news c es) (h c))) ∙ heard_none e.input (λ c. taken_news c es) h

-- object 0 is given to nobody
from_one_on : (n o : ℕ) → 1 + 256 * n ≤ o → eqb o 0 ≡ false
from_one_on n o le = let some : 1 ≤ o = omega (arith, le) in grind (arith, nat_tests)

not_zero : (c o : ℕ) (given : List Batch) → InTurn given → list_any (gives c o) given ≡ true → eqb o 0 ≡ false
not_zero c o [] h e = absurd (cc e)
not_zero c o (b ∷ given) h e = by (gives c o b) refl e (not_zero c o given h.1)
  where
    by : (t : Bool) → gives c o b ≡ t → (t || list_any (gives c o) given) ≡ true → (list_any (gives c o) given ≡ true → eqb o 0 ≡ false) → eqb o 0 ≡ false
    by true f found later = from_one_on (length given) o (within o b.first (length given) h.0 (both (eqb b.client c) (is_in_batch o b) f).1).0
    by false f found later = later found

module _ (p : Settings) (next : ThreadId → List Event → Option Request) (es : List Entry) (follow : AllFollow p next es) where
  abbrev server : List Entry
  server = counted (entries_of Server es)

  once : MadeOnce es
  once = made_once p next es follow

  -- a record taken was sent, and its client made what it publishes
  taken_made : (c o : ℕ) → 1 ≤ taken_news o c server → is_made c o es ≡ true
  taken_made c o le = sent_made o p next c es follow (through 1 (taken_news o c server) (sent_news o (entries_of (Client c) es)) le
      (through (taken_news o c server) (after (news_of o) (messages (up_in_flight c es)) (taken_news o c server)) (sent_news o (entries_of (Client c) es))
      (none_less o (messages (up_in_flight c es)) (taken_news o c server)) (was_sent o p next c es follow)))

  -- an object that comes
  unknown : (c o news : ℕ) → news + taken_news o c server ≤ sent_news o (entries_of (Client c) es) → 1 ≤ news → (is_given_to c o server ≡ true) × (stored p.shape o server ≡ None)
  unknown c o news le some = (given, not_stored o p.shape (not_zero c o (batches_given server) (in_turn p next es follow) given) server none)
    where
      mine : is_made c o es ≡ true
      mine = sent_made o p next c es follow (some_there news (taken_news o c server) (sent_news o (entries_of (Client c) es)) le some)

      given : is_given_to c o server ≡ true
      given = once.given c o mine

      own_none : taken_news o c server ≡ 0
      own_none = none_left news (taken_news o c server) (sent_news o (entries_of (Client c) es)) le (sent_once o p next c es follow) some

      by : (d n : ℕ) → taken_news o d server ≡ n → taken_news o d server ≡ 0
      by d zero is = is
      by d (suc n) is = subst (λ x. taken_news o x server ≡ 0) (once.by_one c d o mine (taken_made d o (some_taken (taken_news o d server) n is))) own_none
        where
          some_taken : (a b : ℕ) → a ≡ suc b → 1 ≤ a
          some_taken a b e = omega (arith, e)

      none : (d : ℕ) → taken_news o d server ≡ 0
      none d = by d (taken_news o d server) refl

  -- each of the objects among them
  each_of : (c : ℕ) (all bodies : List Body) → ((o : ℕ) → is_among o bodies ≡ true → is_among o all ≡ true)
      → ((o : ℕ) → is_among o all ≡ true → (is_given_to c o server ≡ true) × (stored p.shape o server ≡ None)) → AllByRecursion (IsUnknown p c server) bodies
  each_of c all [] within so = tt
  each_of c all (body ∷ bodies) within so =
      let it = so body.object (within body.object (ap (λ b. b || is_among body.object bodies) (number_self body.object))) in
      (record { given = it.0; new = it.1 }, each_of c all bodies (λ o e. within o (or_later (eqb body.object o) (is_among o bodies) e)) so)
    where
      or_later : (a b : Bool) → b ≡ true → (a || b) ≡ true
      or_later true b e = refl
      or_later false b e = e

  first_unknown : (c : ℕ) (m : Up) (letters : List (Letter Up)) → IsFirst m letters
      → ((o : ℕ) → after (news_of o) (messages letters) (taken_news o c server) ≤ sent_news o (entries_of (Client c) es)) → PublishesUnknown p c m server
  first_unknown c m [] f le = absurd f
  first_unknown c m (letter ∷ letters) f le = by m (λ o. through (news_of o m (taken_news o c server)) (after (news_of o) (messages letters) (news_of o m (taken_news o c server))) (sent_news o (entries_of (Client c) es))
      (none_less o (messages letters) (news_of o m (taken_news o c server)))
      (subst (λ x. after (news_of o) (messages letters) (news_of o x (taken_news o c server)) ≤ sent_news o (entries_of (Client c) es)) (sym f) (le o)))
    where
      by : (m : Up) → ((o : ℕ) → news_of o m (taken_news o c server) ≤ sent_news o (entries_of (Client c) es)) → PublishesUnknown p c m server
      by (up.Commit txn) most = each_of c txn.news txn.news (λ o e. e) (λ o e. unknown c o (count_bodies o txn.news) (most o) (count_there o txn.news e))
      by other most = tt

-- after entries each of which follows those before it
pub news_unknown : (p : Settings) (next : ThreadId → List Event → Option Request) (es : List Entry) → AllFollow p next es
    → (c : ℕ) (m : Up) → IsFirst m (up_in_flight c es) → PublishesUnknown p c m (counted (entries_of Server es))
news_unknown p next es follow c m f = first_unknown p next es follow c m (up_in_flight c es) f (λ o. was_sent o p next c es follow)

pub news_are_new : NewsAreNew
news_are_new p next es h = news_unknown p next es h.follow
