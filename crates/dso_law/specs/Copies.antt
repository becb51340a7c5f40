-- A client's copies: which objects are resident, and what they hold.
use Rattle.std.specs.List.{list_any}
use Rattle.std.specs.Prelude.{ℕ, Bool, true, false, cond, eqb, ◌&&◌, ltb, Option, Some, None, List, [], ◌∷◌, filter}
use Rattle.std.specs.Prelude.{length, slice_get, fold}
use Rattle.dso_base.specs.declared.journal.Entry.{Entry}
use Rattle.dso_base.specs.declared.journal.Input.{Input}
use Rattle.dso_base.specs.declared.journal.Input.TheVariants.{Flush}
use Rattle.dso_base.specs.declared.message.Down.{Down}
use Rattle.dso_base.specs.declared.message.Down.TheVariants as down
use Rattle.dso_base.specs.declared.message.Up.{Up}
use Rattle.dso_base.specs.declared.message.Up.TheVariants as up
use Rattle.dso_base.specs.declared.record.Body.{Body}
use Rattle.dso_base.specs.declared.record.Set.{Set}
use Rattle.dso_base.specs.declared.value.ClassId.{ClassId}
use Rattle.dso_base.specs.declared.value.Value.{Value}
use Rattle.dso_law.specs.Entries.{by_taken_down, by_sent_up}

-- whether the object is one of the bodies
abbrev pub is_among : ℕ → List Body → Bool
is_among o bodies = list_any (λ body. eqb body.object o) bodies

-- an object that is taken becomes resident
abbrev pub resident_by_taken : ℕ → Down → Bool → Bool
resident_by_taken o (down.Object body) before = cond (eqb body.object o) true before
resident_by_taken o m before = before

-- an object among the news of a record that is sent becomes resident
abbrev pub resident_by_sent : ℕ → Up → Bool → Bool
resident_by_sent o (up.Commit txn) before = cond (is_among o txn.news) true before
resident_by_sent o m before = before

-- a flush of the object ends its residency
abbrev pub unless_flushed : ℕ → Input → Bool → Bool
unless_flushed o (Flush x) before = cond (eqb x o) false before
unless_flushed o input before = before

-- whether the object is resident after one more entry
abbrev pub resident_after : ℕ → Entry → Bool → Bool
resident_after o e before = unless_flushed o e.input
    (by_sent_up (resident_by_sent o) e.sent (by_taken_down (resident_by_taken o) e.input before))

-- Resident: the latest entry that took the object, sent a record with it among the news, or is a flush of it, is there
-- and isn't the flush.
abbrev pub is_resident : ℕ → List Entry → Bool
is_resident o [] = false
is_resident o (e ∷ es) = resident_after o e (is_resident o es)

-- the value of the field in the body, if it is of the object
abbrev pub value_by_body : ℕ → ℕ → Option Value → Body → Option Value
value_by_body o f before body = cond (eqb body.object o) (slice_get body.values f) before

-- the value of the field in the last of the bodies that is of the object
abbrev pub value_by_bodies : ℕ → ℕ → List Body → Option Value → Option Value
value_by_bodies o f bodies before = fold (value_by_body o f) before bodies

-- whether the set is of this field of this object
abbrev pub is_set_of : ℕ → ℕ → Set → Bool
is_set_of o f set = eqb set.object o && eqb set.field f

-- the value of the set, if it is of the field
abbrev pub value_by_set : ℕ → ℕ → Option Value → Set → Option Value
value_by_set o f before set = cond (is_set_of o f set) (Some set.value) before

-- the value of the last of the sets that is of the field
abbrev pub value_by_sets : ℕ → ℕ → List Set → Option Value → Option Value
value_by_sets o f sets before = fold (value_by_set o f) before sets

-- what a message taken makes of the value held for the field
abbrev pub value_by_taken : ℕ → ℕ → Down → Option Value → Option Value
value_by_taken o f (down.Object body) before = value_by_body o f before body
value_by_taken o f (down.Changes sets) before = value_by_sets o f sets before
value_by_taken o f m before = before

-- what a message sent makes of the value held for the field
abbrev pub value_by_sent : ℕ → ℕ → Up → Option Value → Option Value
value_by_sent o f (up.Commit txn) before = value_by_sets o f txn.sets (value_by_bodies o f txn.news before)
value_by_sent o f m before = before

-- the value held for the field after one more entry
abbrev pub value_after : ℕ → ℕ → Entry → Option Value → Option Value
value_after o f e before = by_sent_up (value_by_sent o f) e.sent (by_taken_down (value_by_taken o f) e.input before)

-- The value held for a field: that given by the latest entry that took the object, sent a record with it among the
-- news or with a set of that field, or took changes with such a set. Changes of an absent object count here and are
-- never seen: it is resident again only by an entry that gives all its values.
abbrev pub value_held : ℕ → ℕ → List Entry → Option Value
value_held o f [] = None
value_held o f (e ∷ es) = value_after o f e (value_held o f es)

-- The copy of a field: the value held for it while the object is resident; else there is none.
abbrev pub copy_of : ℕ → ℕ → List Entry → Option Value
copy_of o f es = cond (is_resident o es) (value_held o f es) None

-- the class and size of the last of the bodies that is of the object
abbrev pub class_by_bodies : ℕ → List Body → Option (ClassId × ℕ) → Option (ClassId × ℕ)
class_by_bodies o [] before = before
class_by_bodies o (body ∷ bodies) before = class_by_bodies o bodies
    (cond (eqb body.object o) (Some (body.class, length body.values)) before)

-- what a message taken makes of the class held for the object
abbrev pub class_by_taken : ℕ → Down → Option (ClassId × ℕ) → Option (ClassId × ℕ)
class_by_taken o (down.Object body) before = class_by_bodies o (body ∷ []) before
class_by_taken o m before = before

-- what a message sent makes of the class held for the object
abbrev pub class_by_sent : ℕ → Up → Option (ClassId × ℕ) → Option (ClassId × ℕ)
class_by_sent o (up.Commit txn) before = class_by_bodies o txn.news before
class_by_sent o m before = before

-- the class and the size of the object, by the latest entry that took it or sent a record with it among the news
abbrev pub class_held : ℕ → List Entry → Option (ClassId × ℕ)
class_held o [] = None
class_held o (e ∷ es) = by_sent_up (class_by_sent o) e.sent (by_taken_down (class_by_taken o) e.input (class_held o es))

-- an object that is taken is no longer asked for
abbrev pub asked_by_taken : ℕ → Down → Bool → Bool
asked_by_taken o (down.Object body) before = cond (eqb body.object o) false before
asked_by_taken o m before = before

-- an object is asked for by a fault, and no longer where a record makes it resident
abbrev pub asked_by_sent : ℕ → Up → Bool → Bool
asked_by_sent o (up.Fault x) before = cond (eqb x o) true before
asked_by_sent o (up.Commit txn) before = cond (is_among o txn.news) false before
asked_by_sent o m before = before

-- Asked: the object was asked for since it was last absent, and hasn't come.
abbrev pub is_object_asked : ℕ → List Entry → Bool
is_object_asked o [] = false
is_object_asked o (e ∷ es) = by_sent_up (asked_by_sent o) e.sent
    (by_taken_down (asked_by_taken o) e.input (is_object_asked o es))

-- the numbers with one more, rising, each once
abbrev pub insert_number : ℕ → List ℕ → List ℕ
insert_number n [] = n ∷ []
insert_number n (first ∷ rest) = cond (eqb n first) (first ∷ rest)
    (cond (ltb n first) (n ∷ first ∷ rest) (first ∷ insert_number n rest))

-- the numbers with those of the bodies
abbrev pub insert_objects : List Body → List ℕ → List ℕ
insert_objects [] objects = objects
insert_objects (body ∷ bodies) objects = insert_objects bodies (insert_number body.object objects)

-- the objects that were ever resident, with the one that a message taken brings
abbrev pub ever_resident_by_taken : Down → List ℕ → List ℕ
ever_resident_by_taken (down.Object body) objects = insert_number body.object objects
ever_resident_by_taken m objects = objects

-- the objects that were ever resident, with those that a message sent publishes
abbrev pub ever_resident_by_sent : Up → List ℕ → List ℕ
ever_resident_by_sent (up.Commit txn) objects = insert_objects txn.news objects
ever_resident_by_sent m objects = objects

-- the objects that were ever resident, rising
abbrev pub ever_resident : List Entry → List ℕ
ever_resident [] = []
ever_resident (e ∷ es) = by_sent_up ever_resident_by_sent e.sent
    (by_taken_down ever_resident_by_taken e.input (ever_resident es))

-- the resident objects, rising
abbrev pub residents : List Entry → List ℕ
residents es = filter (λ o. is_resident o es) (ever_resident es)
