-- An entry that doesn't touch a topic: none of its parts does, and a reading that only parts that touch the topic change
-- is the same after it.
use Rattle.std.specs.List.{list_any}
use Rattle.std.proofs.Common.{◌≡◌, refl, sym, ◌∙◌, ap, Bool, true, false, cond, ◌||◌, Option, Some, List, [], ◌∷◌, ◌++◌, map, filter, flat_map}
use Rattle.std.proofs.lemmas.Bool.{or_parts, or_from}
use Rattle.std.proofs.lemmas.List.Folds.{list_any-append}
use Rattle.dso_base.specs.declared.journal.Entry.{Entry}
use Rattle.dso_base.specs.declared.journal.Input.{Input}
use Rattle.dso_base.specs.declared.journal.Input.TheVariants as input
use Rattle.dso_base.specs.declared.journal.Sent.{Sent}
use Rattle.dso_base.specs.declared.journal.Sent.TheVariants.{ToServer, ToClient}
use Rattle.dso_base.specs.declared.lock.ThreadId.{ThreadId}
use Rattle.dso_base.specs.declared.message.Down.{Down}
use Rattle.dso_base.specs.declared.message.Up.{Up}
use Rattle.dso_base.specs.declared.request.Event.TheVariants.{Act}
use Rattle.dso_base.specs.declared.request.Reply.{Reply}
use Rattle.dso_base.specs.declared.request.Request.{Request}
use Rattle.dso_law.specs.Entries.{by_taken_down, by_sent_up}
use Rattle.dso_open_law.specs.TouchedThreads.{Topic, is_topic, made_topics, up_topics, sent_topics, closed_topics, down_topics, input_topics, done_topics, event_topics, touched_topics}

-- the topic isn't among these
abbrev pub IsSpared : Topic → List Topic → Type 0
IsSpared topic topics = list_any (is_topic topic) topics ≡ false

module _ (topic : Topic) where
  -- what isn't among two lists is among neither
  pub spared_parts : (a b : List Topic) → IsSpared topic (a ++ b) → IsSpared topic a × IsSpared topic b
  spared_parts a b none = or_parts (list_any (is_topic topic) a) (list_any (is_topic topic) b) (sym (list_any-append (is_topic topic) a b) ∙ none)

  -- what isn't among the topics of some isn't the topic of any
  pub spared_map : {X : Type 0} (f : X → Topic) (xs : List X) → IsSpared topic (map f xs) → list_any (λ x. is_topic topic (f x)) xs ≡ false
  spared_map f [] none = refl
  spared_map f (x ∷ xs) none =
      let h = or_parts (is_topic topic (f x)) (list_any (is_topic topic) (map f xs)) none in
      ap (λ b. b || list_any (λ x. is_topic topic (f x)) xs) h.0 ∙ spared_map f xs h.1

  -- what isn't among some isn't among those of them that pass a test
  pub spared_filter : (test : Topic → Bool) (topics : List Topic) → IsSpared topic topics → IsSpared topic (filter test topics)
  spared_filter test [] none = refl
  spared_filter test (key ∷ topics) none =
      let h = or_parts (is_topic topic key) (list_any (is_topic topic) topics) none in
      by (test key) h.0 (spared_filter test topics h.1)
    where
      by : (b : Bool) → is_topic topic key ≡ false → IsSpared topic (filter test topics) → IsSpared topic (cond b (key ∷ filter test topics) (filter test topics))
      by true other rest = or_from (is_topic topic key) (list_any (is_topic topic) (filter test topics)) other rest
      by false other rest = rest

  -- a topic that is the only one
  pub spared_one : (key : Topic) → IsSpared topic (key ∷ []) → is_topic topic key ≡ false
  spared_one key none = (or_parts (is_topic topic key) false none).0

  -- ---- messages sent

  -- what is read of the messages sent, where each that doesn't touch the topic leaves it
  pub sent_leave : {S V : Type 0} (view : S → V) (step : Up → S → S) → ((m : Up) (s : S) → IsSpared topic (up_topics m) → view (step m s) ≡ view s)
      → (sent : List Sent) (s : S) → IsSpared topic (flat_map sent_topics sent) → view (by_sent_up step sent s) ≡ view s
  sent_leave view step leaves [] s none = refl
  sent_leave view step leaves (ToServer m ∷ sent) s none =
      let h = spared_parts (up_topics m) (flat_map sent_topics sent) none in
      sent_leave view step leaves sent (step m s) h.1 ∙ leaves m s h.0
  sent_leave view step leaves (ToClient c m ∷ sent) s none = sent_leave view step leaves sent s none

-- ---- the parts of an entry

-- the topic isn't touched by what the entry takes in, by its event, or by what it sends
pub record Spares (before after : ThreadId → Option Request) (es : List Entry) (topic : Topic) (e : Entry) : Type 0 where
  pub taken : IsSpared topic (input_topics before after es e.input)
  pub done : IsSpared topic (event_topics before after es e.event)
  pub sent : IsSpared topic (flat_map sent_topics e.sent)

module _ (before after : ThreadId → Option Request) (es : List Entry) (topic : Topic) where
  pub parts_spare : (e : Entry) → IsSpared topic (touched_topics before after es e) → Spares before after es topic e
  parts_spare e none =
      let all = spared_parts topic (input_topics before after es e.input ++ event_topics before after es e.event) (flat_map sent_topics e.sent) none in
      let own = spared_parts topic (input_topics before after es e.input) (event_topics before after es e.event) all.0 in
      record { taken = own.0; done = own.1; sent = all.1 }

  -- an act that doesn't touch the topic: neither what it makes nor what it does, nor which lease its thread closes
  pub record ActSpares (t : ThreadId) (request : Request) (reply : Reply) (woken : Option ThreadId) : Type 0 where
    pub made : IsSpared topic (made_topics es reply)
    pub does : IsSpared topic (done_topics before after es t request reply woken)
    pub closed_before : IsSpared topic (closed_topics before after es (before t))
    pub closed_after : IsSpared topic (closed_topics before after es (after t))

  pub act_spares : (t : ThreadId) (request : Request) (reply : Reply) (woken : Option ThreadId) → IsSpared topic (event_topics before after es (Some (Act t request reply woken))) → ActSpares t request reply woken
  act_spares t request reply woken none =
      let all = spared_parts topic (made_topics es reply ++ done_topics before after es t request reply woken ++ closed_topics before after es (before t)) (closed_topics before after es (after t)) none in
      let but_last = spared_parts topic (made_topics es reply ++ done_topics before after es t request reply woken) (closed_topics before after es (before t)) all.0 in
      let first = spared_parts topic (made_topics es reply) (done_topics before after es t request reply woken) but_last.0 in
      record { made = first.0; does = first.1; closed_before = but_last.1; closed_after = all.1 }

  -- what is read of a message taken, where each that doesn't touch the topic leaves it
  pub taken_leave : {S V : Type 0} (view : S → V) (step : Down → S → S) → ((m : Down) (s : S) → IsSpared topic (down_topics before after es m) → view (step m s) ≡ view s)
      → (i : Input) (s : S) → IsSpared topic (input_topics before after es i) → view (by_taken_down step i s) ≡ view s
  taken_leave view step leaves (input.TookDown m) s none = leaves m s none
  taken_leave view step leaves i s none = refl
