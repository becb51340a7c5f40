-- Which objects a client's messages, copies and threads name, and how that is kept where more is known.
use Rattle.std.specs.List.{AllByRecursion, list_any}
use Rattle.std.proofs.Common.{Bool, List, None, Option, Some, [], arith, cond, drop, eqb, false, inl, inr, is_some, refl, subst, sym, true, ℕ, ◌++◌, ◌+◌, ◌||◌, ◌∙◌, ◌∷◌, ◌≡◌, ◌≤◌, ◌⊎◌}
use Rattle.dso_base.specs.declared.journal.Entry.{Entry}
use Rattle.dso_base.specs.declared.lock.ThreadId.{ThreadId}
use Rattle.dso_base.specs.declared.message.Down.{Down}
use Rattle.dso_base.specs.declared.message.Down.TheVariants as down
use Rattle.dso_base.specs.declared.message.Up.{Up}
use Rattle.dso_base.specs.declared.message.Up.TheVariants as up
use Rattle.dso_base.specs.declared.record.Body.{Body}
use Rattle.dso_base.specs.declared.record.Set.{Set}
use Rattle.dso_base.specs.declared.request.Event.{Event}
use Rattle.dso_base.specs.declared.value.Value.{Value}
use Rattle.dso_law.specs.Channels.{IsFirst, Letter}
use Rattle.dso_law.specs.Copies.{is_among, value_held}
use Rattle.dso_law.specs.Entries.{events_in}
use Rattle.dso_law.specs.Settings.{Settings}
use Rattle.dso_law.specs.Store.{body_by, body_by_news, body_by_sets, body_with}
use Rattle.dso_law.specs.Threads.{work_of}
use Rattle.dso_legal.specs.Agreement.{EachMay, after, messages}
use Rattle.dso_legal.specs.OwnObjects.{count_bodies, published_by}
use Rattle.dso_legal.specs.SoundProgram.{event_tells}
use Rattle.dso_legal.proofs.acts.ClientActs.{IsNoRecord, NoRecords}
use Rattle.dso_legal.proofs.fitting.InHand.{each_so}
use Rattle.dso_legal.proofs.fitting.Messages.{DownHas, StoredHas, UpHas, ValueHas}
use Rattle.dso_legal.proofs.fitting.NamesInHand.{AnyClass, AnyValue, InField, WorkNames, bodies_on, body_on, in_hand, names_on, or_on, right_so, sets_on, work_on}

-- ---- lists

-- a fact that holds of all
pub all_so : {X : Type 0} (P : X → Type 0) → ((x : X) → P x) → (xs : List X) → AllByRecursion P xs
all_so P it [] = tt
all_so P it (x ∷ xs) = (it x, all_so P it xs)

-- one more event
pub told_one_more : (x : ℕ) (events : List Event) (event : Event) → list_any (event_tells x) (events ++ event ∷ []) ≡ true → (list_any (event_tells x) events ≡ true) ⊎ (event_tells x event ≡ true)
told_one_more x [] event is = elim (either (event_tells x event) is) [
  | inl now ↦ inr now
  | inr none ↦ absurd (cc none)
]
  where
    either : (a : Bool) → (a || false) ≡ true → (a ≡ true) ⊎ (false ≡ true)
    either true is = inl refl
    either false is = inr is
told_one_more x (first ∷ events) event is = by (event_tells x first) is (told_one_more x events event)
  where
    by : (b : Bool) → (b || list_any (event_tells x) (events ++ event ∷ [])) ≡ true
        → (list_any (event_tells x) (events ++ event ∷ []) ≡ true → (list_any (event_tells x) events ≡ true) ⊎ (event_tells x event ≡ true))
        → ((b || list_any (event_tells x) events) ≡ true) ⊎ (event_tells x event ≡ true)
    by true is later = inl refl
    by false is later = later is

-- an object that isn't among bodies counts at most once
pub few_there : (o : ℕ) (bodies : List Body) → is_among o bodies ≡ false → count_bodies o bodies ≤ 1
few_there o [] none = omega arith
few_there o (body ∷ bodies) none = by (eqb body.object o) none (few_there o bodies)
  where
    no_more : (n : ℕ) → n ≤ 1 → 0 + n ≤ 1
    no_more n le = omega (arith, le)

    by : (b : Bool) → (b || is_among o bodies) ≡ false → (is_among o bodies ≡ false → count_bodies o bodies ≤ 1) → cond b 1 0 + count_bodies o bodies ≤ 1
    by true none later = absurd (cc none)
    by false none later = no_more (count_bodies o bodies) (later none)

module _ (x : ℕ) where
  -- ---- what messages name

  -- a message publishes the object, or it was known
  pub published_on : (m : Up) (a b : Bool) → (a ≡ true → b ≡ true) → published_by x m a ≡ true → published_by x m b ≡ true
  published_on (up.Commit txn) a b on = or_on x (is_among x txn.news) a (is_among x txn.news) b (λ is. is) on
  published_on m a b on = on

  pub out_on : (ms : List Up) (a b : Bool) → (a ≡ true → b ≡ true) → after (published_by x) ms a ≡ true → after (published_by x) ms b ≡ true
  out_on [] a b on = on
  out_on (m ∷ ms) a b on = out_on ms (published_by x m a) (published_by x m b) (published_on m a b on)

  pub still_published : (m : Up) (a : Bool) → a ≡ true → published_by x m a ≡ true
  still_published (up.Commit txn) a is = right_so (is_among x txn.news) a is
  still_published m a is = is

  pub still_out : (ms : List Up) (a : Bool) → a ≡ true → after (published_by x) ms a ≡ true
  still_out [] a is = is
  still_out (m ∷ ms) a is = still_out ms (published_by x m a) (still_published m a is)

  -- a fault of the object comes where it is known,
  abbrev pub FaultNames : Up → Bool → Type 0
  FaultNames (up.Fault o) known = eqb o x ≡ true → known ≡ true
  FaultNames m known = Unit {0}

  -- and a record that names it where it is known or among the news
  abbrev pub CarriesNames : Bool → Up → Type 0
  CarriesNames known = UpHas (AnyClass x) (InField x known) (AnyValue x) (AnyValue x)

  abbrev pub CommitNames : Up → Bool → Type 0
  CommitNames m known = CarriesNames (published_by x m known) m

  abbrev pub MayName : Up → Bool → Type 0
  MayName m known = FaultNames m known × CommitNames m known

  abbrev pub DownNames : Bool → Down → Type 0
  DownNames known = DownHas (AnyClass x) (InField x known) (AnyValue x) (AnyValue x)

  abbrev pub HeldNames : Bool → ℕ → ℕ → Option Value → Type 0
  HeldNames known = ValueHas (AnyClass x) (InField x known) (AnyValue x) (AnyValue x)

  abbrev pub StoredNames : Bool → ℕ → Option Body → Type 0
  StoredNames known = StoredHas (AnyClass x) (InField x known) (AnyValue x) (AnyValue x)

  -- ---- where more is known

  module _ (a b : Bool) (on : a ≡ true → b ≡ true) where
    pub carries_on : (m : Up) → CarriesNames a m → CarriesNames b m
    carries_on (up.Commit txn) h = (bodies_on x a b on txn.news h.0, sets_on x a b on txn.sets h.1, h.2)
    carries_on m h = tt

    pub down_on : (m : Down) → DownNames a m → DownNames b m
    down_on (down.Object body) h = body_on x a b on body h
    down_on (down.Changes sets) h = sets_on x a b on sets h
    down_on m h = tt

    pub held_on : (o f : ℕ) (v : Option Value) → HeldNames a o f v → HeldNames b o f v
    held_on o f None h = tt
    held_on o f (Some v) h = names_on x a b on v h

    pub stored_on : (o : ℕ) (body : Option Body) → StoredNames a o body → StoredNames b o body
    stored_on o None h = tt
    stored_on o (Some body) h = (h.0, body_on x a b on body h.1)

    pub fault_on : (m : Up) → FaultNames m a → FaultNames m b
    fault_on (up.Fault o) h = λ same. on (h same)
    fault_on m h = tt

  pub may_on : (ms : List Up) (a b : Bool) → (a ≡ true → b ≡ true) → EachMay MayName (published_by x) ms a → EachMay MayName (published_by x) ms b
  may_on [] a b on h = tt
  may_on (m ∷ ms) a b on h = (
    (fault_on a b on m h.0.0, carries_on (published_by x m a) (published_by x m b) (published_on m a b on) m h.0.1),
    may_on ms (published_by x m a) (published_by x m b) (published_on m a b on) h.1,
  )

  -- faults of what is known, among messages that publish only more
  pub faults_come : (ms : List Up) (a : Bool) → AllByRecursion (λ m. FaultNames m a) ms → EachMay FaultNames (published_by x) ms a
  faults_come [] a h = tt
  faults_come (m ∷ ms) a h = (h.0, faults_come ms (published_by x m a) (each_so (λ k. FaultNames k a) (λ k. FaultNames k (published_by x m a)) (fault_on a (published_by x m a) (still_published m a)) ms h.1))

  -- messages that are no records
  pub none_name : (ms : List Up) (a : Bool) → NoRecords ms → EachMay CommitNames (published_by x) ms a
  none_name [] a none = tt
  none_name (m ∷ ms) a none = (one m none.0, none_name ms (published_by x m a) none.1)
    where
      one : (m : Up) → IsNoRecord m → CommitNames m a
      one (up.Commit txn) none = absurd none
      one m none = tt

  pub none_carry : (ms : List Up) (a : Bool) → NoRecords ms → AllByRecursion (CarriesNames a) ms
  none_carry [] a none = tt
  none_carry (m ∷ ms) a none = (one m none.0, none_carry ms a none.1)
    where
      one : (m : Up) → IsNoRecord m → CarriesNames a m
      one (up.Commit txn) none = absurd none
      one m none = tt

  -- ---- the graph

  -- what a record makes of whether the object is in the graph
  pub stored_by_sets : (o : ℕ) (sets : List Set) (body : Option Body) → is_some (body_by_sets o sets body) ≡ is_some body
  stored_by_sets o [] body = refl
  stored_by_sets o (set ∷ sets) body = stored_by_sets o sets (cond (eqb set.object o) (body_with set body) body) ∙ by (eqb set.object o) body
    where
      by : (b : Bool) (body : Option Body) → is_some (cond b (body_with set body) body) ≡ is_some body
      by true None = refl
      by true (Some body) = refl
      by false body = refl

  pub stored_by_news : (o : ℕ) (news : List Body) (body : Option Body) → is_some (body_by_news o news body) ≡ (is_among o news || is_some body)
  stored_by_news o [] body = refl
  stored_by_news o (new ∷ news) body = stored_by_news o news (cond (eqb new.object o) (Some new) body) ∙ by (eqb new.object o)
    where
      swap : (a b : Bool) → (a || b) ≡ (b || a)
      swap true true = refl
      swap true false = refl
      swap false true = refl
      swap false false = refl

      by : (b : Bool) → (is_among o news || is_some (cond b (Some new) body)) ≡ ((b || is_among o news) || is_some body)
      by true = swap (is_among o news) true
      by false = refl

  pub stored_by_message : (d : ℕ) (m : Up) (body : Option Body) → is_some (body_by x d m body) ≡ published_by x m (is_some body)
  stored_by_message d (up.Commit txn) body = stored_by_sets x txn.sets (body_by_news x txn.news body) ∙ stored_by_news x txn.news body
  stored_by_message d up.IdAsk body = refl
  stored_by_message d (up.Fault o) body = refl
  stored_by_message d (up.Flushed o) body = refl
  stored_by_message d (up.Request l level) body = refl
  stored_by_message d (up.Return l threads) body = refl

  -- ---- a client

  module _ (p : Settings) where
    -- what is out, where so much is known and these are in flight
    abbrev pub out : Bool → List Up → Bool
    out known ups = after (published_by x) ups known

    -- So of a client: what its threads have in hand and were told names only what they have in hand or is out; copies name what is
    -- out; messages up what is known or in front of them; messages down what is known.
    pub record ClientNames (known : Bool) (own_entries : List Entry) (ups : List Up) (downs : List Down) : Type 0 where
      pub works : (t : ThreadId) → WorkNames x (out known ups) (work_of p.shape t own_entries)
      pub told : (t : ThreadId) → list_any (event_tells x) (events_in t own_entries) ≡ true → (in_hand x (work_of p.shape t own_entries) || out known ups) ≡ true
      pub copies : (o f : ℕ) → HeldNames (out known ups) o f (value_held o f own_entries)
      pub up : EachMay MayName (published_by x) ups known
      pub down : AllByRecursion (DownNames known) downs

    pub client_on : (a b : Bool) → (a ≡ true → b ≡ true) → (own_entries : List Entry) (ups : List Up) (downs : List Down) → ClientNames a own_entries ups downs → ClientNames b own_entries ups downs
    client_on a b on own_entries ups downs h = record {
      works = λ t. work_on x (out a ups) (out b ups) (out_on ups a b on) (work_of p.shape t own_entries) (h.works t);
      told = λ t is. or_on x (in_hand x (work_of p.shape t own_entries)) (out a ups) (in_hand x (work_of p.shape t own_entries)) (out b ups) (λ is. is) (out_on ups a b on) (h.told t is);
      copies = λ o f. held_on (out a ups) (out b ups) (out_on ups a b on) o f (value_held o f own_entries) (h.copies o f);
      up = may_on ups a b on h.up;
      down = each_so (DownNames a) (DownNames b) (down_on a b on) downs h.down;
    }

    -- the server takes the first
    pub client_took : (known : Bool) (own_entries : List Entry) (m : Up) (letters : List (Letter Up)) (downs : List Down) → IsFirst m letters → ClientNames known own_entries (messages letters) downs
        → ClientNames (published_by x m known) own_entries (drop 1 (messages letters)) downs
    client_took known own_entries m [] downs first h = absurd first
    client_took known own_entries m (letter ∷ letters) downs first h = subst (λ k. ClientNames (published_by x k known) own_entries (messages letters) downs) (sym first) (record {
      works = h.works;
      told = h.told;
      copies = h.copies;
      up = h.up.1;
      down = each_so (DownNames known) (DownNames (published_by x letter.message known)) (down_on known (published_by x letter.message known) (still_published letter.message known)) downs h.down;
    })
