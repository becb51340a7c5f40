-- What a call of a map reads and writes: only the map's fields, and none is written by a call that only reads.
use Rattle.std.proofs.Common.{◌≡◌, refl, ℕ, zero, suc, Bool, true, false, Option, None, Some}
use Rattle.dso_base.specs.declared.value.Value.{Value}
use Rattle.dso_map.specs.declared.map_op.MapOp.{MapOp}
use Rattle.dso_map.specs.declared.map_op.MapOp.TheVariants as op
use Rattle.dso_map.specs.Fields.{MapField, IsMapField, slots}
use Rattle.dso_map.specs.KeptMaps.{PutsObject}
use Rattle.dso_map.specs.Talk.{Talk, slot_of, key_of, is_true, is_long, either, found, missing, wants_hole, noting, along, talk}
use Rattle.dso_map.specs.Talk.Talk.{Gets, Puts, Ends}
use Rattle.dso_map.specs.Within.{StaysWithin}
use Rattle.dso_map.proofs.Within.{talk_within}
use Rattle.dso_machine.specs.Maps.{grade_of}
use Rattle.dso_lint.specs.Access.{writes}

-- the talk writes nothing, whatever is answered
abbrev OnlyReads : Talk → Type 0
OnlyReads (Gets f then) = (v : Value) → OnlyReads (then v)
OnlyReads (Puts f v then) = ⊥
OnlyReads (Ends v) = Unit {0}

-- the call is one that only reads
abbrev IsReading : MapOp → Type 0
IsReading (op.Put k o) = ⊥
IsReading (op.Remove k) = ⊥
IsReading call = Unit {0}

either_reads : (t : Bool) (a b : Talk) → OnlyReads a → OnlyReads b → OnlyReads (either t a b)
either_reads true a b first second = first
either_reads false a b first second = second

found_reads : (call : MapOp) → IsReading call → (i : ℕ) → OnlyReads (found call i)
found_reads (op.Get k) reads i = λ v. tt
found_reads (op.Has k) reads i = λ v. tt
found_reads op.Size reads i = λ v. tt
found_reads (op.Put k o) reads i = absurd reads
found_reads (op.Remove k) reads i = absurd reads

missing_reads : (call : MapOp) → IsReading call → (end hole : Option ℕ) → OnlyReads (missing call end hole)
missing_reads (op.Get k) reads end hole = tt
missing_reads (op.Has k) reads end hole = tt
missing_reads op.Size reads end hole = tt
missing_reads (op.Put k o) reads end hole = absurd reads
missing_reads (op.Remove k) reads end hole = absurd reads

noting_reads : (t : Bool) (i : ℕ) (hole : Option ℕ) (then : Option ℕ → Talk) → ((next : Option ℕ) → OnlyReads (then next)) → OnlyReads (noting t i hole then)
noting_reads true i hole then all = λ v. all _
noting_reads false i hole then all = all hole

along_reads : (call : MapOp) → IsReading call → (left d : ℕ) (hole : Option ℕ) → OnlyReads (along call left d hole)
along_reads call reads zero d hole = missing_reads call reads None hole
along_reads call reads (suc left) d hole = λ touched. either_reads (is_true touched) _ _
    (λ key. either_reads (is_long (key_of call) key) _ _ (found_reads call reads (slot_of (key_of call) d))
    (noting_reads (wants_hole call hole) (slot_of (key_of call) d) hole _ (λ next. along_reads call reads left (suc d) next)))
    (missing_reads call reads (Some (slot_of (key_of call) d)) hole)

talk_reads : (call : MapOp) → IsReading call → OnlyReads (talk call)
talk_reads (op.Get k) reads = along_reads (op.Get k) tt slots 0 None
talk_reads (op.Has k) reads = along_reads (op.Has k) tt slots 0 None
talk_reads op.Size reads = λ v. tt
talk_reads (op.Put k o) reads = absurd reads
talk_reads (op.Remove k) reads = absurd reads

-- the talk touches only fields that a map has, and writes only where it may
pub data Touches (may : Bool) : Talk → Type 0 where
  reading : {f : MapField} {then : Value → Talk} → IsMapField f → ((v : Value) → Touches may (then v)) → Touches may (Gets f then)
  writing : {f : MapField} {v : Value} {then : Talk} → may ≡ true → IsMapField f → Touches may then → Touches may (Puts f v then)
  ending : {v : Value} → Touches may (Ends v)

within_touches : (rest : Talk) → StaysWithin rest → Touches true rest
within_touches (Gets f then) within = Touches.reading within.0 (λ v. within_touches (then v) (within.1 v))
within_touches (Puts f v then) within = Touches.writing refl within.0 (within_touches then within.2)
within_touches (Ends v) within = Touches.ending

reading_touches : (rest : Talk) → StaysWithin rest → OnlyReads rest → Touches false rest
reading_touches (Gets f then) within reads = Touches.reading within.0 (λ v. reading_touches (then v) (within.1 v) (reads v))
reading_touches (Puts f v then) within reads = absurd reads
reading_touches (Ends v) within reads = Touches.ending

-- a call writes only where it takes the monitor at Write
pub call_touches : (call : MapOp) → PutsObject call → Touches (writes (grade_of call)) (talk call)
call_touches (op.Put k o) real = within_touches (talk (op.Put k o)) (talk_within (op.Put k o) real)
call_touches (op.Remove k) real = within_touches (talk (op.Remove k)) (talk_within (op.Remove k) real)
call_touches (op.Get k) real = reading_touches (talk (op.Get k)) (talk_within (op.Get k) real) (talk_reads (op.Get k) tt)
call_touches (op.Has k) real = reading_touches (talk (op.Has k)) (talk_within (op.Has k) real) (talk_reads (op.Has k) tt)
call_touches op.Size real = reading_touches (talk op.Size) (talk_within op.Size real) (talk_reads op.Size tt)
