-- What a client has of an object after an entry that doesn't touch it: whether it is resident or asked for, its class and
-- size, and its fields' values.
use Rattle.std.specs.List.{list_any}
use Rattle.std.proofs.Common.{ℕ, ◌≡◌, refl, ◌∙◌, ap, Bool, true, false, cond, eqb, Option, Some, None, List, [], ◌∷◌, flat_map, length, slice_get}
use Rattle.std.proofs.lemmas.Bool.{cond-false, or_parts, and_left}
use Rattle.dso_base.specs.declared.journal.Entry.{Entry}
use Rattle.dso_base.specs.declared.journal.Input.{Input}
use Rattle.dso_base.specs.declared.journal.Input.TheVariants as input
use Rattle.dso_base.specs.declared.journal.Sent.{Sent}
use Rattle.dso_base.specs.declared.journal.Sent.TheVariants.{ToServer, ToClient}
use Rattle.dso_base.specs.declared.lock.ThreadId.{ThreadId}
use Rattle.dso_base.specs.declared.message.Down.{Down}
use Rattle.dso_base.specs.declared.message.Down.TheVariants as down
use Rattle.dso_base.specs.declared.message.Up.{Up}
use Rattle.dso_base.specs.declared.message.Up.TheVariants as up
use Rattle.dso_base.specs.declared.record.Body.{Body}
use Rattle.dso_base.specs.declared.record.Set.{Set}
use Rattle.dso_base.specs.declared.record.Txn.{Txn}
use Rattle.dso_base.specs.declared.request.Request.{Request}
use Rattle.dso_base.specs.declared.value.ClassId.{ClassId}
use Rattle.dso_base.specs.declared.value.Value.{Value}
use Rattle.dso_law.specs.Entries.{by_taken_down, by_sent_up}
use Rattle.dso_law.specs.Copies.{is_among, resident_by_taken, resident_by_sent, unless_flushed, is_resident, value_by_body, value_by_bodies, is_set_of, value_by_set, value_by_sets, value_by_taken, value_by_sent, value_held, copy_of, class_by_bodies, class_by_taken, class_by_sent, class_held, asked_by_taken, asked_by_sent, is_object_asked}
use Rattle.dso_open_law.specs.TouchedThreads.{OfObject, up_topics, sent_topics, set_topics, sets_taken, sets_sent, set_objects, down_topics, input_topics}
use Rattle.dso_open_law.proofs.readings.Untouched.{IsSpared, spared_one, spared_parts, spared_map, Spares, sent_leave, taken_leave}

module _ (o : ℕ) where
  -- ---- bodies and sets of other objects

  class_left : (bodies : List Body) (before : Option (ClassId × ℕ)) → is_among o bodies ≡ false → class_by_bodies o bodies before ≡ before
  class_left [] before none = refl
  class_left (body ∷ bodies) before none =
      let h = or_parts (eqb body.object o) (is_among o bodies) none in
      class_left bodies (cond (eqb body.object o) (Some (body.class, length body.values)) before) h.1 ∙ cond-false (eqb body.object o) (Some (body.class, length body.values)) before h.0

  values_left : (f : ℕ) (bodies : List Body) (before : Option Value) → is_among o bodies ≡ false → value_by_bodies o f bodies before ≡ before
  values_left f [] before none = refl
  values_left f (body ∷ bodies) before none =
      let h = or_parts (eqb body.object o) (is_among o bodies) none in
      values_left f bodies (value_by_body o f before body) h.1 ∙ cond-false (eqb body.object o) (slice_get body.values f) before h.0

  sets_left : (f : ℕ) (sets : List Set) (before : Option Value) → list_any (λ set. eqb set.object o) sets ≡ false → value_by_sets o f sets before ≡ before
  sets_left f [] before none = refl
  sets_left f (set ∷ sets) before none =
      let h = or_parts (eqb set.object o) (list_any (λ set. eqb set.object o) sets) none in
      sets_left f sets (value_by_set o f before set) h.1 ∙ cond-false (is_set_of o f set) (Some set.value) before (and_left (eqb set.object o) (eqb set.field f) h.0)

  -- a record that doesn't publish the object
  not_among : (txn : Txn) → IsSpared (OfObject o) (up_topics (up.Commit txn)) → is_among o txn.news ≡ false
  not_among txn none = spared_map (OfObject o) (λ body. OfObject body.object) txn.news none

  -- sets of other objects
  not_set : (sets : List Set) → IsSpared (OfObject o) (set_topics sets) → list_any (λ set. eqb set.object o) sets ≡ false
  not_set sets none = spared_map (OfObject o) (λ set. OfObject set.object) sets none

module _ (before after : ThreadId → Option Request) (es : List Entry) (o : ℕ) where
  -- another object
  apart : {X : Type 0} (x : ℕ) (a b : X) → IsSpared (OfObject o) (OfObject x ∷ []) → cond (eqb x o) a b ≡ b
  apart x a b none = cond-false (eqb x o) a b (spared_one (OfObject o) (OfObject x) none)

  resident_taken : (m : Down) (b : Bool) → IsSpared (OfObject o) (down_topics before after es m) → resident_by_taken o m b ≡ b
  resident_taken (down.Object body) b none = apart body.object true b none
  resident_taken m b none = refl

  resident_sent : (m : Up) (b : Bool) → IsSpared (OfObject o) (up_topics m) → resident_by_sent o m b ≡ b
  resident_sent (up.Commit txn) b none = cond-false (is_among o txn.news) true b (not_among o txn none)
  resident_sent m b none = refl

  not_flushed : (i : Input) (b : Bool) → IsSpared (OfObject o) (input_topics before after es i) → unless_flushed o i b ≡ b
  not_flushed (input.Flush x) b none = apart x false b none
  not_flushed i b none = refl

  class_taken : (m : Down) (class : Option (ClassId × ℕ)) → IsSpared (OfObject o) (down_topics before after es m) → class_by_taken o m class ≡ class
  class_taken (down.Object body) class none = apart body.object (Some (body.class, length body.values)) class none
  class_taken m class none = refl

  class_sent : (m : Up) (class : Option (ClassId × ℕ)) → IsSpared (OfObject o) (up_topics m) → class_by_sent o m class ≡ class
  class_sent (up.Commit txn) class none = class_left o txn.news class (not_among o txn none)
  class_sent m class none = refl

  asked_taken : (m : Down) (b : Bool) → IsSpared (OfObject o) (down_topics before after es m) → asked_by_taken o m b ≡ b
  asked_taken (down.Object body) b none = apart body.object false b none
  asked_taken m b none = refl

  asked_sent : (m : Up) (b : Bool) → IsSpared (OfObject o) (up_topics m) → asked_by_sent o m b ≡ b
  asked_sent (up.Fault x) b none = apart x true b none
  asked_sent (up.Commit txn) b none = cond-false (is_among o txn.news) false b (not_among o txn none)
  asked_sent m b none = refl

  value_taken : (f : ℕ) (i : Input) (v : Option Value) → IsSpared (OfObject o) (input_topics before after es i) → IsSpared (OfObject o) (sets_taken i) → by_taken_down (value_by_taken o f) i v ≡ v
  value_taken f (input.TookDown (down.Object body)) v none unset = apart body.object (slice_get body.values f) v none
  value_taken f (input.TookDown (down.Changes sets)) v none unset = sets_left o f sets v (not_set o sets unset)
  value_taken f (input.TookDown m) v none unset = refl
  value_taken f i v none unset = refl

  value_said : (f : ℕ) (m : Up) (v : Option Value) → IsSpared (OfObject o) (up_topics m) → IsSpared (OfObject o) (sets_sent (ToServer m)) → value_by_sent o f m v ≡ v
  value_said f (up.Commit txn) v none unset = sets_left o f txn.sets (value_by_bodies o f txn.news v) (not_set o txn.sets unset) ∙ values_left o f txn.news v (not_among o txn none)
  value_said f m v none unset = refl

  value_sent : (f : ℕ) (sent : List Sent) (v : Option Value) → IsSpared (OfObject o) (flat_map sent_topics sent) → IsSpared (OfObject o) (flat_map sets_sent sent) → by_sent_up (value_by_sent o f) sent v ≡ v
  value_sent f [] v none unset = refl
  value_sent f (ToServer m ∷ sent) v none unset =
      let h = spared_parts (OfObject o) (up_topics m) (flat_map sent_topics sent) none in
      let g = spared_parts (OfObject o) (sets_sent (ToServer m)) (flat_map sets_sent sent) unset in
      value_sent f sent (value_by_sent o f m v) h.1 g.1 ∙ value_said f m v h.0 g.0
  value_sent f (ToClient c m ∷ sent) v none unset = value_sent f sent v none unset

  module _ (e : Entry) (spares : Spares before after es (OfObject o) e) where
    pub resident_stays : is_resident o (e ∷ es) ≡ is_resident o es
    resident_stays = not_flushed e.input (by_sent_up (resident_by_sent o) e.sent (by_taken_down (resident_by_taken o) e.input (is_resident o es))) spares.taken
        ∙ sent_leave (OfObject o) (λ b. b) (resident_by_sent o) resident_sent e.sent (by_taken_down (resident_by_taken o) e.input (is_resident o es)) spares.sent
        ∙ taken_leave before after es (OfObject o) (λ b. b) (resident_by_taken o) resident_taken e.input (is_resident o es) spares.taken

    pub class_stays : class_held o (e ∷ es) ≡ class_held o es
    class_stays = sent_leave (OfObject o) (λ class. class) (class_by_sent o) class_sent e.sent (by_taken_down (class_by_taken o) e.input (class_held o es)) spares.sent
        ∙ taken_leave before after es (OfObject o) (λ class. class) (class_by_taken o) class_taken e.input (class_held o es) spares.taken

    pub object_asked_stays : is_object_asked o (e ∷ es) ≡ is_object_asked o es
    object_asked_stays = sent_leave (OfObject o) (λ b. b) (asked_by_sent o) asked_sent e.sent (by_taken_down (asked_by_taken o) e.input (is_object_asked o es)) spares.sent
        ∙ taken_leave before after es (OfObject o) (λ b. b) (asked_by_taken o) asked_taken e.input (is_object_asked o es) spares.taken

    -- where the entry doesn't set it either
    module _ (unset : IsSpared (OfObject o) (set_objects e)) where
      value_stays : (f : ℕ) → value_held o f (e ∷ es) ≡ value_held o f es
      value_stays f =
          let h = spared_parts (OfObject o) (sets_taken e.input) (flat_map sets_sent e.sent) unset in
          value_sent f e.sent (by_taken_down (value_by_taken o f) e.input (value_held o f es)) spares.sent h.1 ∙ value_taken f e.input (value_held o f es) spares.taken h.0

      pub copy_stays : (f : ℕ) → copy_of o f (e ∷ es) ≡ copy_of o f es
      copy_stays f = ap (λ b. cond b (value_held o f (e ∷ es)) None) resident_stays ∙ ap (λ v. cond (is_resident o es) v None) (value_stays f)
