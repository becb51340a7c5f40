-- Each thing is read exactly.
use Rattle.std.proofs.Common.{◌≡◌, ℕ, ◌^◌, ◌<◌, Bool, true, false, eqb, Option, Some, None, List, [], ◌∷◌, ◌++◌, Ok, refl, ap, arith}
use Rattle.std.specs.Prelude.{FitsSigned}
use Rattle.std.specs.Int.{w32, w64, cast_signed, cast_unsigned}
use Rattle.dso_base.specs.declared.lock.Level.{Level}
use Rattle.dso_base.specs.declared.lock.Level.TheVariants.{Read, Write}
use Rattle.dso_base.specs.declared.lock.LockName.{LockName}
use Rattle.dso_base.specs.declared.lock.LockName.TheVariants.{Mon, Name}
use Rattle.dso_base.specs.declared.message.Down.{Down}
use Rattle.dso_base.specs.declared.message.Down.TheVariants as down
use Rattle.dso_base.specs.declared.message.Up.{Up}
use Rattle.dso_base.specs.declared.message.Up.TheVariants as up
use Rattle.dso_base.specs.declared.record.Choice.{Choice}
use Rattle.dso_base.specs.declared.record.Choice.TheVariants as choice
use Rattle.dso_base.specs.declared.record.Ending.{Ending}
use Rattle.dso_base.specs.declared.record.Ending.TheVariants as ending
use Rattle.dso_base.specs.declared.request.Fault.{Fault}
use Rattle.dso_base.specs.declared.request.Fault.TheVariants as fault
use Rattle.dso_base.specs.declared.value.ClassId.{ClassId}
use Rattle.dso_base.specs.declared.value.ClassId.TheVariants as class
use Rattle.dso_base.specs.declared.value.Kind.{Kind}
use Rattle.dso_base.specs.declared.value.Kind.TheVariants as kind
use Rattle.dso_base.specs.declared.value.Value.{Value}
use Rattle.dso_base.specs.declared.value.Value.TheVariants as value
use Rattle.dso_session.specs.declared.frame.Frame.{Frame}
use Rattle.dso_session.specs.declared.frame.Frame.TheVariants.{Carry, Hello}
use Rattle.dso_wire.specs.Cells.{Cell, Tag, Ranged, bytes_of, number, ranged, listed}
use Rattle.dso_wire.specs.Spelling.{truth_cells, signed_cells, value_cells, lock_cells, level_cells, thread_cells, kind_cells, class_cells, body_cells, set_cells, choice_cells, note_cells, fault_cells, ending_cells, record_cells, up_cells, down_cells, frame_cells, IsList, IsValue, IsLock, IsLevel, IsThread, IsNumber, IsClass, IsBody, IsSet, IsChoice, IsNote, IsEnding, IsRecord, IsUp, IsDown, IsFrame}
use Rattle.dso_wire.specs.Reading.{◌>>=◌, Reader, made, both, alone, number_at, ranged_at, list_at, truth_at, signed_at, value_at, lock_at, level_at, thread_at, kind_at, class_at, body_at, set_at, choice_at, note_at, fault_at, ending_at, record_at, up_at, down_at, carry_at, hello_at, frame_at}
use Rattle.std.proofs.lemmas.Int.{of_z-to_z, to_z-of_z}
use Rattle.std.proofs.Math.Facts.{sfits_to_z, Fits-of_lt, Fits-lt-pow, Fits-of_z}
use Rattle.dso_wire.proofs.Bytes.{wide32, wide64}
use Rattle.dso_wire.proofs.Exact.{Exact, made_exact, number_exact}
use Rattle.dso_wire.proofs.Ways.{◌▹◌, way_alone, way_made, one_exact, ranged_exact}
use Rattle.dso_wire.proofs.Several.{both_exact, list_exact}

pub word_exact : Exact (number_at w32) (number w32) (λ n. n < 2 ^ 32)
word_exact = number_exact w32 (2 ^ 32) wide32 (omega arith)

pub long_exact : Exact (number_at w64) (number w64) (λ n. n < 2 ^ 64)
long_exact = number_exact w64 (2 ^ 64) wide64 (omega arith)

pub signed_exact : Exact signed_at signed_cells (λ n. FitsSigned w64 n)
signed_exact = made_exact (λ n. cast_signed w64 n) (λ z. cast_unsigned w64 z) (number_at w64) (number w64) signed_cells (λ n. n < 2 ^ 64) (λ z. FitsSigned w64 z)
    (λ z is. to_z-of_z w64 z is) (λ n is. ap (number w64) (of_z-to_z w64 n is)) (λ n is. sfits_to_z (Fits-of_lt {w = w64} {n = n} is)) (λ z is. Fits-lt-pow (Fits-of_z {w = w64} {z = z} is)) long_exact

-- ---- locks

lock_again : (lock : LockName) (rest : List ℕ) → IsLock lock → lock_at (bytes_of (lock_cells lock) ++ rest) ≡ Ok (lock, rest)
unfolding lock_at
lock_again (Mon o) rest is = rw (long_exact.again o rest is) refl
lock_again (Name n) rest is = rw (word_exact.again n rest is) refl

pub lock_exact : Exact lock_at lock_cells IsLock
unfolding lock_at
lock_exact = one_exact Tag lock_cells IsLock ((1, made Mon (number_at w64)) ∷ (2, made Name (number_at w32)) ∷ [])
    (way_made Mon (λ n is. refl) (λ n is. is) long_exact ▹ way_made Name (λ n is. refl) (λ n is. is) word_exact ▹ tt)
    (Name 0) (omega arith) 2 (number w32 0) refl lock_again

-- ---- levels

level_again : (level : Level) (rest : List ℕ) → IsLevel level → level_at (bytes_of (level_cells level) ++ rest) ≡ Ok (level, rest)
unfolding level_at
level_again Read rest is = refl
level_again Write rest is = refl

pub level_exact : Exact level_at level_cells IsLevel
unfolding level_at
level_exact = one_exact Tag level_cells IsLevel ((1, alone Read) ∷ (2, alone Write) ∷ [])
    (way_alone refl tt ▹ way_alone refl tt ▹ tt)
    Read tt 1 [] refl level_again

-- ---- truths

abbrev IsTruth : Bool → Type 0
IsTruth b = Unit {0}

truth_again : (b : Bool) (rest : List ℕ) → IsTruth b → truth_at (bytes_of (truth_cells b) ++ rest) ≡ Ok (b, rest)
unfolding truth_at
truth_again false rest is = refl
truth_again true rest is = refl

pub truth_exact : Exact truth_at truth_cells IsTruth
unfolding truth_at
truth_exact = one_exact Ranged truth_cells IsTruth ((0, alone false) ∷ (1, alone true) ∷ [])
    (way_alone refl tt ▹ way_alone refl tt ▹ tt)
    false tt 0 [] refl truth_again

-- ---- threads

pub thread_exact : Exact thread_at thread_cells IsThread
unfolding thread_at
thread_exact = made_exact (λ x. record { client = x.0; index = x.1 }) (λ t. (t.client, t.index)) (both (ranged_at 1 16) (ranged_at 1 16)) (λ x. ranged x.0 ∷ ranged x.1 ∷ []) thread_cells (λ x. IsNumber x.0 × IsNumber x.1) IsThread
    (λ t is. refl) (λ x is. refl) (λ x is. is) (λ t is. is)
    (both_exact (ranged_at 1 16) (ranged_at 1 16) (λ b. ranged b ∷ []) (λ b. ranged b ∷ []) IsNumber IsNumber (ranged_exact 1 16 (omega arith)) (ranged_exact 1 16 (omega arith)))

-- ---- values

value_again : (v : Value) (rest : List ℕ) → IsValue v → value_at (bytes_of (value_cells v) ++ rest) ≡ Ok (v, rest)
unfolding value_at
value_again value.Null rest is = refl
value_again (value.Long n) rest is = rw (signed_exact.again n rest is) refl
value_again (value.Bool b) rest is = rw (truth_exact.again b rest tt) refl
value_again (value.Text t) rest is = rw (word_exact.again t rest is) refl
value_again (value.Ref o) rest is = rw (long_exact.again o rest is) refl

pub value_exact : Exact value_at value_cells IsValue
unfolding value_at
value_exact = one_exact Tag value_cells IsValue
    ((0, alone value.Null)
    ∷ (1, made value.Long signed_at)
    ∷ (2, made value.Bool truth_at)
    ∷ (3, made value.Text (number_at w32))
    ∷ (4, made value.Ref (number_at w64))
    ∷ [])
    (way_alone refl tt
    ▹ way_made value.Long (λ n is. refl) (λ n is. is) signed_exact
    ▹ way_made value.Bool (λ b is. refl) (λ b is. tt) truth_exact
    ▹ way_made value.Text (λ t is. refl) (λ t is. is) word_exact
    ▹ way_made value.Ref (λ o is. refl) (λ o is. is) long_exact
    ▹ tt)
    value.Null tt 0 [] refl value_again

-- ---- classes

abbrev IsKind : Kind → Type 0
IsKind k = Unit {0}

kind_again : (k : Kind) (rest : List ℕ) → IsKind k → kind_at (bytes_of (kind_cells k) ++ rest) ≡ Ok (k, rest)
unfolding kind_at
kind_again kind.Long rest is = refl
kind_again kind.Bool rest is = refl
kind_again kind.Text rest is = refl
kind_again kind.Ref rest is = refl

kind_exact : Exact kind_at kind_cells IsKind
unfolding kind_at
kind_exact = one_exact Tag kind_cells IsKind ((1, alone kind.Long) ∷ (2, alone kind.Bool) ∷ (3, alone kind.Text) ∷ (4, alone kind.Ref) ∷ [])
    (way_alone refl tt ▹ way_alone refl tt ▹ way_alone refl tt ▹ way_alone refl tt ▹ tt)
    kind.Long tt 1 [] refl kind_again

class_again : (c : ClassId) (rest : List ℕ) → IsClass c → class_at (bytes_of (class_cells c) ++ rest) ≡ Ok (c, rest)
unfolding class_at
class_again (class.Plain n) rest is = rw (word_exact.again n rest is) refl
class_again (class.Array k) rest is = rw (kind_exact.again k rest tt) refl
class_again class.Roots rest is = refl

class_exact : Exact class_at class_cells IsClass
unfolding class_at
class_exact = one_exact Tag class_cells IsClass ((1, made class.Plain (number_at w32)) ∷ (2, made class.Array kind_at) ∷ (3, alone class.Roots) ∷ [])
    (way_made class.Plain (λ n is. refl) (λ n is. is) word_exact ▹ way_made class.Array (λ k is. refl) (λ k is. tt) kind_exact ▹ way_alone refl tt ▹ tt)
    class.Roots tt 3 [] refl class_again

-- ---- bodies and sets

body_exact : Exact body_at body_cells IsBody
unfolding body_at
body_exact = made_exact (λ x. record { object = x.0; class = x.1.0; values = x.1.1 }) (λ b. (b.object, (b.class, b.values))) (both (number_at w64) (both class_at (list_at value_at)))
    (λ x. number w64 x.0 ++ (class_cells x.1.0 ++ listed value_cells x.1.1)) body_cells (λ x. (x.0 < 2 ^ 64) × (IsClass x.1.0 × IsList IsValue x.1.1)) IsBody
    (λ b is. refl) (λ x is. refl) (λ x is. is) (λ b is. is)
    (both_exact _ _ _ _ _ _ long_exact (both_exact _ _ _ _ _ _ class_exact (list_exact _ _ _ value_exact)))

set_exact : Exact set_at set_cells IsSet
unfolding set_at
set_exact = made_exact (λ x. record { object = x.0; field = x.1.0; value = x.1.1 }) (λ s. (s.object, (s.field, s.value))) (both (number_at w64) (both (number_at w32) value_at))
    (λ x. number w64 x.0 ++ (number w32 x.1.0 ++ value_cells x.1.1)) set_cells (λ x. (x.0 < 2 ^ 64) × ((x.1.0 < 2 ^ 32) × IsValue x.1.1)) IsSet
    (λ s is. refl) (λ x is. refl) (λ x is. is) (λ s is. is)
    (both_exact _ _ _ _ _ _ long_exact (both_exact _ _ _ _ _ _ word_exact value_exact))

-- ---- notes

choice_again : (c : Choice) (rest : List ℕ) → IsChoice c → choice_at (bytes_of (choice_cells c) ++ rest) ≡ Ok (c, rest)
unfolding choice_at
choice_again (choice.Here t) rest is = rw (thread_exact.again t rest is) refl
choice_again choice.There rest is = refl
choice_again choice.All rest is = refl

choice_exact : Exact choice_at choice_cells IsChoice
unfolding choice_at
choice_exact = one_exact Tag choice_cells IsChoice ((1, made choice.Here thread_at) ∷ (2, alone choice.There) ∷ (3, alone choice.All) ∷ [])
    (way_made choice.Here (λ t is. refl) (λ t is. is) thread_exact ▹ way_alone refl tt ▹ way_alone refl tt ▹ tt)
    choice.There tt 2 [] refl choice_again

note_exact : Exact note_at note_cells IsNote
unfolding note_at
note_exact = made_exact (λ x. record { lock = x.0; choice = x.1 }) (λ n. (n.lock, n.choice)) (both lock_at choice_at)
    (λ x. lock_cells x.0 ++ choice_cells x.1) note_cells (λ x. IsLock x.0 × IsChoice x.1) IsNote
    (λ n is. refl) (λ x is. refl) (λ x is. is) (λ n is. is)
    (both_exact _ _ _ _ _ _ lock_exact choice_exact)

-- ---- endings

abbrev IsFault : Option Fault → Type 0
IsFault x = Unit {0}

fault_again : (x : Option Fault) (rest : List ℕ) → IsFault x → fault_at (bytes_of (fault_cells x) ++ rest) ≡ Ok (x, rest)
unfolding fault_at
fault_again None rest is = refl
fault_again (Some fault.NullPointer) rest is = refl
fault_again (Some fault.NoSuchField) rest is = refl
fault_again (Some fault.BadValue) rest is = refl
fault_again (Some fault.BadIndex) rest is = refl
fault_again (Some fault.BadSize) rest is = refl
fault_again (Some fault.ZeroDivide) rest is = refl
fault_again (Some fault.StackOverflow) rest is = refl
fault_again (Some fault.UnlockedSharedObject) rest is = refl
fault_again (Some fault.WrongLock) rest is = refl
fault_again (Some fault.ReadOnly) rest is = refl
fault_again (Some fault.LockUpgrade) rest is = refl
fault_again (Some fault.IllegalMonitor) rest is = refl

fault_exact : Exact fault_at fault_cells IsFault
unfolding fault_at
fault_exact = one_exact Ranged fault_cells IsFault
    ((0, alone None)
    ∷ (1, alone (Some fault.NullPointer))
    ∷ (2, alone (Some fault.NoSuchField))
    ∷ (3, alone (Some fault.BadValue))
    ∷ (4, alone (Some fault.BadIndex))
    ∷ (5, alone (Some fault.BadSize))
    ∷ (6, alone (Some fault.ZeroDivide))
    ∷ (7, alone (Some fault.StackOverflow))
    ∷ (8, alone (Some fault.UnlockedSharedObject))
    ∷ (9, alone (Some fault.WrongLock))
    ∷ (10, alone (Some fault.ReadOnly))
    ∷ (11, alone (Some fault.LockUpgrade))
    ∷ (12, alone (Some fault.IllegalMonitor))
    ∷ [])
    (way_alone refl tt ▹ way_alone refl tt ▹ way_alone refl tt ▹ way_alone refl tt ▹ way_alone refl tt ▹ way_alone refl tt ▹ way_alone refl tt
    ▹ way_alone refl tt ▹ way_alone refl tt ▹ way_alone refl tt ▹ way_alone refl tt ▹ way_alone refl tt ▹ way_alone refl tt ▹ tt)
    None tt 0 [] refl fault_again

ending_again : (x : Ending) (rest : List ℕ) → IsEnding x → ending_at (bytes_of (ending_cells x) ++ rest) ≡ Ok (x, rest)
unfolding ending_at
ending_again (ending.Exit l) rest is = rw (lock_exact.again l rest is) refl
ending_again (ending.Wait l) rest is = rw (lock_exact.again l rest is) refl
ending_again (ending.End x) rest is = rw (fault_exact.again x rest tt) refl
ending_again (ending.Timeout l) rest is = rw (lock_exact.again l rest is) refl

ending_exact : Exact ending_at ending_cells IsEnding
unfolding ending_at
ending_exact = one_exact Tag ending_cells IsEnding ((1, made ending.Exit lock_at) ∷ (2, made ending.Wait lock_at) ∷ (3, made ending.End fault_at) ∷ (4, made ending.Timeout lock_at) ∷ [])
    (way_made ending.Exit (λ l is. refl) (λ l is. is) lock_exact
    ▹ way_made ending.Wait (λ l is. refl) (λ l is. is) lock_exact
    ▹ way_made ending.End (λ x is. refl) (λ x is. tt) fault_exact
    ▹ way_made ending.Timeout (λ l is. refl) (λ l is. is) lock_exact
    ▹ tt)
    (ending.End None) tt 3 (ranged 0 ∷ []) refl ending_again

-- ---- records

pub record_exact : Exact record_at record_cells IsRecord
unfolding record_at
record_exact = made_exact (λ x. record { seq = x.0; thread = x.1.0; news = x.1.1.0; sets = x.1.1.1.0; outs = x.1.1.1.1.0; notes = x.1.1.1.1.1.0; ending = x.1.1.1.1.1.1 })
    (λ r. (r.seq, (r.thread, (r.news, (r.sets, (r.outs, (r.notes, r.ending)))))))
    (both (number_at w64) (both thread_at (both (list_at body_at) (both (list_at set_at) (both (list_at value_at) (both (list_at note_at) ending_at))))))
    (λ x. number w64 x.0 ++ (thread_cells x.1.0 ++ (listed body_cells x.1.1.0 ++ (listed set_cells x.1.1.1.0 ++ (listed value_cells x.1.1.1.1.0 ++ (listed note_cells x.1.1.1.1.1.0 ++ ending_cells x.1.1.1.1.1.1)))))) record_cells
    (λ x. (x.0 < 2 ^ 64) × (IsThread x.1.0 × (IsList IsBody x.1.1.0 × (IsList IsSet x.1.1.1.0 × (IsList IsValue x.1.1.1.1.0 × (IsList IsNote x.1.1.1.1.1.0 × IsEnding x.1.1.1.1.1.1)))))) IsRecord
    (λ r is. refl) (λ x is. refl) (λ x is. is) (λ r is. is)
    (both_exact _ _ _ _ _ _ long_exact (both_exact _ _ _ _ _ _ thread_exact (both_exact _ _ _ _ _ _ (list_exact _ _ _ body_exact) (both_exact _ _ _ _ _ _ (list_exact _ _ _ set_exact)
    (both_exact _ _ _ _ _ _ (list_exact _ _ _ value_exact) (both_exact _ _ _ _ _ _ (list_exact _ _ _ note_exact) ending_exact))))))

-- ---- messages

up_again : (m : Up) (rest : List ℕ) → IsUp m → up_at (bytes_of (up_cells m) ++ rest) ≡ Ok (m, rest)
unfolding up_at
up_again up.IdAsk rest is = refl
up_again (up.Fault o) rest is = rw (long_exact.again o rest is) refl
up_again (up.Flushed o) rest is = rw (long_exact.again o rest is) refl
up_again (up.Request l level) rest is = ap (λ r. r >>= λ x. Ok (up.Request x.0.0 x.0.1, x.1)) ((both_exact _ _ _ _ _ _ lock_exact level_exact).again (l, level) rest is)
up_again (up.Return l threads) rest is = ap (λ r. r >>= λ x. Ok (up.Return x.0.0 x.0.1, x.1)) ((both_exact _ _ _ _ _ _ lock_exact (list_exact _ _ _ thread_exact)).again (l, threads) rest is)
up_again (up.Commit r) rest is = rw (record_exact.again r rest is) refl

pub up_exact : Exact up_at up_cells IsUp
unfolding up_at
up_exact = one_exact Tag up_cells IsUp
    ((1, alone up.IdAsk)
    ∷ (2, made up.Fault (number_at w64))
    ∷ (3, made up.Flushed (number_at w64))
    ∷ (4, made (λ x. up.Request x.0 x.1) (both lock_at level_at))
    ∷ (5, made (λ x. up.Return x.0 x.1) (both lock_at (list_at thread_at)))
    ∷ (6, made up.Commit record_at)
    ∷ [])
    (way_alone refl tt
    ▹ way_made up.Fault (λ o is. refl) (λ o is. is) long_exact
    ▹ way_made up.Flushed (λ o is. refl) (λ o is. is) long_exact
    ▹ way_made (λ x. up.Request x.0 x.1) (λ x is. refl) (λ x is. is) (both_exact _ _ _ _ _ _ lock_exact level_exact)
    ▹ way_made (λ x. up.Return x.0 x.1) (λ x is. refl) (λ x is. is) (both_exact _ _ _ _ _ _ lock_exact (list_exact _ _ _ thread_exact))
    ▹ way_made up.Commit (λ r is. refl) (λ r is. is) record_exact
    ▹ tt)
    up.IdAsk tt 1 [] refl up_again

down_again : (m : Down) (rest : List ℕ) → IsDown m → down_at (bytes_of (down_cells m) ++ rest) ≡ Ok (m, rest)
unfolding down_at
down_again (down.Ids o) rest is = rw (long_exact.again o rest is) refl
down_again (down.Object b) rest is = rw (body_exact.again b rest is) refl
down_again (down.Grant l level) rest is = ap (λ r. r >>= λ x. Ok (down.Grant x.0.0 x.0.1, x.1)) ((both_exact _ _ _ _ _ _ lock_exact level_exact).again (l, level) rest is)
down_again (down.Recall l) rest is = rw (lock_exact.again l rest is) refl
down_again (down.Ack s) rest is = rw (long_exact.again s rest is) refl
down_again (down.Changes sets) rest is = rw ((list_exact _ _ _ set_exact).again sets rest is) refl
down_again (down.Wake l t) rest is = ap (λ r. r >>= λ x. Ok (down.Wake x.0.0 x.0.1, x.1)) ((both_exact _ _ _ _ _ _ lock_exact thread_exact).again (l, t) rest is)

pub down_exact : Exact down_at down_cells IsDown
unfolding down_at
down_exact = one_exact Tag down_cells IsDown
    ((1, made down.Ids (number_at w64))
    ∷ (2, made down.Object body_at)
    ∷ (3, made (λ x. down.Grant x.0 x.1) (both lock_at level_at))
    ∷ (4, made down.Recall lock_at)
    ∷ (5, made down.Ack (number_at w64))
    ∷ (6, made down.Changes (list_at set_at))
    ∷ (7, made (λ x. down.Wake x.0 x.1) (both lock_at thread_at))
    ∷ [])
    (way_made down.Ids (λ o is. refl) (λ o is. is) long_exact
    ▹ way_made down.Object (λ b is. refl) (λ b is. is) body_exact
    ▹ way_made (λ x. down.Grant x.0 x.1) (λ x is. refl) (λ x is. is) (both_exact _ _ _ _ _ _ lock_exact level_exact)
    ▹ way_made down.Recall (λ l is. refl) (λ l is. is) lock_exact
    ▹ way_made down.Ack (λ s is. refl) (λ s is. is) long_exact
    ▹ way_made down.Changes (λ s is. refl) (λ s is. is) (list_exact _ _ _ set_exact)
    ▹ way_made (λ x. down.Wake x.0 x.1) (λ x is. refl) (λ x is. is) (both_exact _ _ _ _ _ _ lock_exact thread_exact)
    ▹ tt)
    (down.Recall (Name 0)) (omega arith) 4 (lock_cells (Name 0)) refl down_again

-- ---- frames

module _ {M : Type 0} (message : Reader M) (cells : M → List Cell) (IsMessage : M → Type 0) (exact : Exact message cells IsMessage) where
  abbrev Head : Type 0
  Head = ℕ × (ℕ × (ℕ × (ℕ × M)))

  carried : Exact (both (number_at w32) (both (number_at w64) (both (number_at w64) (both (number_at w64) message))))
      (λ x. number w32 x.0 ++ (number w64 x.1.0 ++ (number w64 x.1.1.0 ++ (number w64 x.1.1.1.0 ++ cells x.1.1.1.1))))
      (λ x. (x.0 < 2 ^ 32) × ((x.1.0 < 2 ^ 64) × ((x.1.1.0 < 2 ^ 64) × ((x.1.1.1.0 < 2 ^ 64) × IsMessage x.1.1.1.1))))
  carried = both_exact _ _ _ _ _ _ word_exact (both_exact _ _ _ _ _ _ long_exact (both_exact _ _ _ _ _ _ long_exact (both_exact _ _ _ _ _ _ long_exact exact)))

  greeted : Exact (both (number_at w32) (both (number_at w64) (number_at w64)))
      (λ x. number w32 x.0 ++ (number w64 x.1.0 ++ number w64 x.1.1))
      (λ x. (x.0 < 2 ^ 32) × ((x.1.0 < 2 ^ 64) × (x.1.1 < 2 ^ 64)))
  greeted = both_exact _ _ _ _ _ _ word_exact (both_exact _ _ _ _ _ _ long_exact long_exact)

  frame_again : (way : ℕ) → eqb 3 way ≡ false → eqb way way ≡ true → (frame : Frame M) (rest : List ℕ) → IsFrame IsMessage frame → frame_at way message (bytes_of (frame_cells way cells frame) ++ rest) ≡ Ok (frame, rest)
  unfolding frame_at carry_at hello_at
  frame_again way differs same (Carry epoch n seen clock m) rest is = rw same (ap (λ r. r >>= λ x. Ok (Carry x.0.0 x.0.1.0 x.0.1.1.0 x.0.1.1.1.0 x.0.1.1.1.1, x.1)) (carried.again (epoch, (n, (seen, (clock, m)))) rest is))
  frame_again way differs same (Hello epoch seen clock) rest is = rw differs (ap (λ r. r >>= λ x. Ok (Hello x.0.0 x.0.1.0 x.0.1.1, x.1)) (greeted.again (epoch, (seen, clock)) rest is))

  pub frame_exact : (way : ℕ) → eqb 3 way ≡ false → eqb way way ≡ true → Exact (frame_at way message) (frame_cells way cells) (IsFrame IsMessage)
  unfolding frame_at carry_at hello_at
  frame_exact way differs same = one_exact Tag (frame_cells way cells) (IsFrame IsMessage) ((way, carry_at message) ∷ (3, hello_at) ∷ [])
      (way_made (λ x. Carry x.0 x.1.0 x.1.1.0 x.1.1.1.0 x.1.1.1.1) (λ x is. refl) (λ x is. is) carried
      ▹ way_made (λ x. Hello x.0 x.1.0 x.1.1) (λ x is. refl) (λ x is. is) greeted
      ▹ tt)
      (Hello 0 0 0) (omega arith, (omega arith, omega arith)) 3 (number w32 0 ++ (number w64 0 ++ number w64 0)) refl (frame_again way differs same)
