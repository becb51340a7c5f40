-- What is added to the topics that an entry touches: one list of topics after the other, and those of a record.
use Rattle.std.specs.Int.{bit_at}
use Rattle.std.specs.List.{list_any, flat_map}
use Rattle.std.specs.Option.{option_map_or}
use Rattle.std.proofs.Common.{ℕ, suc, ◌-◌, ◌<◌, ◌≤◌, ◌≡◌, refl, sym, ◌∙◌, ap, subst, Bool, true, false, ◌||◌, Option, Some, List, [], None, ◌∷◌, ◌++◌, ◌+◌, ◌%◌, cond, drop, filter, get_or, length, map, take, arith}
use Rattle.std.proofs.lemmas.Bool.{eq-eqb, eqb-true}
use Rattle.std.proofs.lemmas.List.{take_all}
use Rattle.std.proofs.lemmas.List.Folds.{list_any-append}
use Rattle.dso_base.specs.declared.journal.Entry.{Entry}
use Rattle.dso_base.specs.declared.journal.Sent.{Sent}
use Rattle.dso_base.specs.declared.lock.ThreadId.{ThreadId}
use Rattle.dso_base.specs.declared.record.Body.{Body}
use Rattle.dso_base.specs.declared.record.Txn.{Txn}
use Rattle.dso_base.specs.declared.request.Event.TheVariants.{Act}
use Rattle.dso_base.specs.declared.request.Reply.{Reply}
use Rattle.dso_base.specs.declared.request.Request.{Request}
use Rattle.dso_plain.proofs.keys.SameKeys.{same_lock, same_number}
use Rattle.dso_open_law.specs.FewTouched.{few_taken, few_done, few_acted, few_topics}
use Rattle.dso_open_law.specs.TouchedThreads.{Topic, OfIds, OfObject, OfLock, OfRecords, OfNothing, is_topic, acked_topics, awaited, closed_topics, is_of_read, made_topics, record_topics, sent_topics}
use Rattle.dso_world.specs.declared.touched_threads.Touches.{Touches}
use Rattle.dso_world.specs.AskingThreads.{bucket_of, lock_number}
use Rattle.dso_world.specs.EntryTouches.{Adds, AddsActed, AddsBucket, AddsDone, AddsMade, AddsTaken, Covers, has, has_bucket}

-- a topic is in the bucket of the topic that it is
same_bucket : (about key : Topic) → is_topic about key ≡ true → bucket_of about ≡ bucket_of key
same_bucket OfIds OfIds is = refl
same_bucket OfIds (OfObject key) is = absurd (cc is)
same_bucket OfIds (OfLock key) is = absurd (cc is)
same_bucket OfIds (OfRecords key) is = absurd (cc is)
same_bucket OfIds OfNothing is = absurd (cc is)
same_bucket (OfObject o) OfIds is = absurd (cc is)
same_bucket (OfObject o) (OfObject key) is = ap (λ n. Some (n % 31 + 2)) (sym (same_number key o is))
same_bucket (OfObject o) (OfLock key) is = absurd (cc is)
same_bucket (OfObject o) (OfRecords key) is = absurd (cc is)
same_bucket (OfObject o) OfNothing is = absurd (cc is)
same_bucket (OfLock l) OfIds is = absurd (cc is)
same_bucket (OfLock l) (OfObject key) is = absurd (cc is)
same_bucket (OfLock l) (OfLock key) is = ap (λ name. Some (lock_number name % 31 + 33)) (sym (same_lock l key is))
same_bucket (OfLock l) (OfRecords key) is = absurd (cc is)
same_bucket (OfLock l) OfNothing is = absurd (cc is)
same_bucket (OfRecords t) OfIds is = absurd (cc is)
same_bucket (OfRecords t) (OfObject key) is = absurd (cc is)
same_bucket (OfRecords t) (OfLock key) is = absurd (cc is)
same_bucket (OfRecords t) (OfRecords key) is = refl
same_bucket (OfRecords t) OfNothing is = absurd (cc is)
same_bucket OfNothing OfIds is = absurd (cc is)
same_bucket OfNothing (OfObject key) is = absurd (cc is)
same_bucket OfNothing (OfLock key) is = absurd (cc is)
same_bucket OfNothing (OfRecords key) is = absurd (cc is)
same_bucket OfNothing OfNothing is = absurd (cc is)

-- a topic whose bucket is one of some is among these
bucket_has : (about : Topic) (b : ℕ) (new : Touches) → bucket_of about ≡ Some b → bit_at new.buckets b ≡ 1 → has new about ≡ true
bucket_has about b new is there = ap (λ bucket. option_map_or (has_bucket new) bucket false) is ∙ eq-eqb (bit_at new.buckets b) 1 there

-- So the other way,
pub has_its_bucket : (about : Topic) (touches : Touches) → has touches about ≡ true → (b : ℕ) × (bucket_of about ≡ Some b) × (bit_at touches.buckets b ≡ 1)
has_its_bucket about touches is = by (bucket_of about) refl is
  where
    by : (bucket : Option ℕ) → bucket_of about ≡ bucket → option_map_or (has_bucket touches) bucket false ≡ true → (b : ℕ) × (bucket_of about ≡ Some b) × (bit_at touches.buckets b ≡ 1)
    by None none is = absurd (cc is)
    by (Some b) its is = (b, its, eqb-true (bit_at touches.buckets b) 1 is)

-- and there are 64 buckets.
pub bucket_within : (about : Topic) (b : ℕ) → bucket_of about ≡ Some b → b < 64
bucket_within OfIds b is = let same : 0 ≡ b = cc is in omega (arith, same)
bucket_within (OfRecords t) b is = let same : 1 ≡ b = cc is in omega (arith, same)
bucket_within (OfObject o) b is = let same : o % 31 + 2 ≡ b = cc is in omega (arith, same)
bucket_within (OfLock l) b is = let same : lock_number l % 31 + 33 ≡ b = cc is in omega (arith, same)
bucket_within OfNothing b is = absurd (cc is)

-- One bucket more has all of its topics.
pub bucket_added : (key : Topic) (b : ℕ) (old new : Touches) → bucket_of key ≡ Some b → AddsBucket b old new → Adds (key ∷ []) old new
bucket_added key b old new its adds about found = by (has old about) refl (is_topic about key) refl found
  where
    kept : (bucket : Option ℕ) → bucket_of about ≡ bucket → option_map_or (has_bucket old) bucket false ≡ true → has new about ≡ true
    kept None is was = absurd (cc was)
    kept (Some i) is was = bucket_has about i new is (adds.others i (eqb-true (bit_at old.buckets i) 1 was))

    by : (a : Bool) → has old about ≡ a → (c : Bool) → is_topic about key ≡ c → (a || (c || false)) ≡ true → has new about ≡ true
    by true was c is found = kept (bucket_of about) refl was
    by false was true is found = bucket_has about b new (same_bucket about key is ∙ its) adds.here
    by false was false is found = absurd (cc found)

-- One list and then the other.
pub adds_both : (xs ys : List Topic) (old between new : Touches) → Adds xs old between → Adds ys between new → Adds (xs ++ ys) old new
adds_both xs ys old between new one two about is =
    two about (by (has old about) (list_any (is_topic about) xs) (has between about) (list_any (is_topic about) ys) (one about)
    (sym (ap (λ b. has old about || b) (list_any-append (is_topic about) xs ys)) ∙ is))
  where
    by : (a b c d : Bool) → ((a || b) ≡ true → c ≡ true) → (a || (b || d)) ≡ true → (c || d) ≡ true
    by true b c d first is = ap (λ b. b || d) (first refl)
    by false true c d first is = ap (λ b. b || d) (first refl)
    by false false true d first is = refl
    by false false false d first is = is

-- No more than one list, where a test says so,
pub part_added : (none : Bool) (xs : List Topic) (old new : Touches) → Adds xs old new → Adds (cond none [] xs) old new
part_added false xs old new adds about is = adds about is
part_added true xs old new adds about is = adds about (by (has old about) (list_any (is_topic about) xs) is)
  where
    by : (a b : Bool) → (a || false) ≡ true → (a || b) ≡ true
    by true b is = refl
    by false b is = absurd (cc is)

-- and no more than those of a list that pass a test.
passed_added : (test : Topic → Bool) (xs : List Topic) (old new : Touches) → Adds xs old new → Adds (filter test xs) old new
passed_added test xs old new adds about is = adds about (by (has old about) (list_any (is_topic about) (filter test xs)) (list_any (is_topic about) xs) (among xs) is)
  where
    among : (xs : List Topic) → list_any (is_topic about) (filter test xs) ≡ true → list_any (is_topic about) xs ≡ true
    among [] found = found
    among (x ∷ xs) found = one (test x) (is_topic about x) refl (list_any (is_topic about) xs) (among xs) found
      where
        one : (passes here : Bool) → is_topic about x ≡ here → (later : Bool) → (list_any (is_topic about) (filter test xs) ≡ true → later ≡ true)
            → list_any (is_topic about) (cond passes (x ∷ filter test xs) (filter test xs)) ≡ true → (here || later) ≡ true
        one passes true is later more found = refl
        one true false is later more found = more (ap (λ b. b || list_any (is_topic about) (filter test xs)) (sym is) ∙ found)
        one false false is later more found = more found

    by : (a b c : Bool) → (b ≡ true → c ≡ true) → (a || b) ≡ true → (a || c) ≡ true
    by true b c more is = refl
    by false b c more is = more is

-- all behind the first one, as a slice has them
others_are : {X : Type 0} (messages : List X) → take (suc (length messages) - 1) messages ≡ messages
others_are messages =
    let many : suc (length messages) - 1 ≡ length messages = omega arith in
    ap (λ n. take n messages) many ∙ take_all (length messages) messages (omega arith)

-- The first message and then the others.
pub more_added : (messages : List Sent) (message : Sent) (old between new : Touches) → 1 ≤ length messages → message ≡ get_or messages 0 message
    → Adds (sent_topics message) old between → Adds (flat_map sent_topics (take (length messages - 1) (drop 1 messages))) between new → Adds (flat_map sent_topics messages) old new
more_added [] message old between new many is one two = absurd (omega (arith, many))
more_added (first ∷ messages) message old between new many is one two =
    adds_both (sent_topics first) (flat_map sent_topics messages) old between new
    (subst (λ m. Adds (sent_topics m) old between) is one)
    (subst (λ ms. Adds (flat_map sent_topics ms) between new) (others_are messages) two)

-- The others behind the first of the objects that a record publishes.
pub news_added : (news : List Body) (body : Body) (old between new : Touches) → 1 ≤ length news → body ≡ get_or news 0 body
    → Adds (OfObject body.object ∷ []) old between → Adds (map (λ body. OfObject body.object) (take (length news - 1) (drop 1 news))) between new
    → Adds (map (λ body. OfObject body.object) news) old new
news_added [] body old between new many is one two = absurd (omega (arith, many))
news_added (first ∷ news) body old between new many is one two =
    adds_both (OfObject first.object ∷ []) (map (λ body. OfObject body.object) news) old between new
    (subst (λ (b : Body). Adds (OfObject b.object ∷ []) old between) is one)
    (subst (λ bodies. Adds (map (λ body. OfObject body.object) bodies) between new) (others_are news) two)

-- A record touches records, and the objects that it publishes.
pub record_added : (txn : Txn) (old between new : Touches) → ((t : ThreadId) → Adds (OfRecords t ∷ []) old between) → Adds (map (λ body. OfObject body.object) txn.news) between new
    → Adds (record_topics txn) old new
record_added txn old between new one two = adds_both (OfRecords txn.thread ∷ []) (map (λ body. OfObject body.object) txn.news) old between new (one txn.thread) two

-- So does one that is acknowledged: the first that waits to be, if any does.
pub acked_added : (txns : List Txn) (old new : Touches) → ((t : ThreadId) → Adds (OfRecords t ∷ []) old new) → Adds (acked_topics txns) old new
acked_added [] old new adds = part_added true (OfRecords (record { client = 0; index = 0 }) ∷ []) old new (adds (record { client = 0; index = 0 }))
acked_added (txn ∷ txns) old new adds = adds txn.thread

-- What an act touches: what it makes, what it does, what its thread awaited before it and what it awaits after it.
pub act_added : (t : ThreadId) (request : Request) (reply : Reply) (woken : Option ThreadId) (next : Option Request) (old made done before_it after_it : Touches)
    → AddsMade reply old made → AddsDone request reply woken made done → Adds (awaited (Some request)) done before_it → Adds (awaited next) before_it after_it
    → AddsActed (Some (Act t request reply woken)) next old after_it
act_added t request reply woken next old made done before_it after_it one two three four before after es asked =
    let makes = made_topics es reply in
    let does = few_done before after es t request reply woken in
    let closes = λ (asks : Option Request). closed_topics before after es asks in
    let tests = is_of_read before after es in
    adds_both (makes ++ does ++ closes (before t)) (closes (after t)) old before_it after_it
    (adds_both (makes ++ does) (closes (before t)) old done before_it
    (adds_both makes does old made done (one es) (two before after es t))
    (passed_added tests (awaited (before t)) done before_it (subst (λ asks. Adds (awaited asks) done before_it) (sym asked.0) three)))
    (passed_added tests (awaited (after t)) before_it after_it (subst (λ asks. Adds (awaited asks) before_it after_it) (sym asked.1) four))

right_is : (a b : Bool) → b ≡ true → (a || b) ≡ true
right_is true b is = refl
right_is false b is = is

-- So what an entry touches: what it takes in, its event, and what it sends.
pub entry_added : (entry : Entry) (next : Option Request) (old taken acted all : Touches)
    → AddsTaken entry.input old taken → AddsActed entry.event next taken acted → Adds (flat_map sent_topics entry.sent) acted all → Covers entry next all
entry_added entry next old taken acted all one two three before after es asked about is =
    adds_both (few_taken before after es entry.input ++ few_acted before after es entry.event) (flat_map sent_topics entry.sent) old acted all
    (adds_both (few_taken before after es entry.input) (few_acted before after es entry.event) old taken acted (one before after es) (two before after es asked))
    three about (right_is (has old about) (list_any (is_topic about) (few_topics before after es entry)) is)
