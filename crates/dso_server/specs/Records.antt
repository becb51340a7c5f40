-- Parts of a record that fit a shape, and a graph.
use Rattle.std.specs.List.{AllByRecursion, AllWithin, list_any}
use Rattle.std.specs.Prelude.{ℕ, suc, ◌<◌, ◌≤◌, ◌≡◌, true, false, ltb, Option, List, length}
use Rattle.dso_base.specs.declared.journal.Entry.{Entry}
use Rattle.dso_base.specs.declared.record.Body.{Body}
use Rattle.dso_base.specs.declared.record.Set.{Set}
use Rattle.dso_base.specs.declared.record.Txn.{Txn}
use Rattle.dso_base.specs.declared.shape.Shape.{Shape}
use Rattle.dso_base.specs.declared.value.Value.{Value}
use Rattle.dso_base.specs.declared.value.Value.TheVariants as value
use Rattle.dso_base.specs.Block.{is_field_before}
use Rattle.dso_base.specs.Following.{is_thread}
use Rattle.dso_base.specs.Shape.{kind_of}
use Rattle.dso_base.specs.Value.{Fits}
use Rattle.dso_law.specs.FitsUp.{FitsEnding, FitsNewsBy, FitsNote, FitsSetBy, IsNamedBy, IsPrinted, Rises}
use Rattle.dso_law.specs.ServerReadings.{is_ended, last_number}
use Rattle.dso_law.specs.Settings.{Settings, threads_of}

-- the body has the field, and the value fits it
abbrev pub FitsField : Shape → Set → Body → Type 0
FitsField shape set body = (set.field < length body.values) × Fits (kind_of shape body.class set.field) set.value

-- a text named is a literal
abbrev pub IsLiteralOf : Shape → Value → Type 0
IsLiteralOf shape (value.Text t) = t < shape.texts
IsLiteralOf shape v = Unit {0}

-- the news rise by object
abbrev pub IsRising : List Body → Type 0
IsRising news = Rises (λ a b. ltb a.object b.object) news

-- the news before the place are under the object, and the others aren't
abbrev pub IsPlaceOf : ℕ → List Body → ℕ → Type 0
IsPlaceOf o news at = AllWithin (λ body. body.object < o) news 0 at
    × AllWithin (λ body. o ≤ body.object) news at (length news)

-- an object named is there, and a text named is a literal
abbrev pub FitsValue : Shape → (ℕ → Option Body) → List Body → Value → Type 0
FitsValue shape graph news v = IsNamedBy graph news v × IsLiteralOf shape v

-- an object printed has an id that was given out, and a text printed is a literal
abbrev pub FitsOut : Shape → List Entry → Value → Type 0
FitsOut shape es v = IsPrinted es v × IsLiteralOf shape v

-- the parts of a record that tell whose it is: its number is the client's next, and its thread is one of the client's
-- and hasn't ended
abbrev pub FitsMaker : Settings → ℕ → Txn → List Entry → Type 0
FitsMaker p c txn es = (txn.seq ≡ suc (last_number c es)) × (list_any (is_thread txn.thread) (threads_of p c) ≡ true)
    × (is_ended txn.thread es ≡ false)

-- the objects published and the sets fit, and the sets rise by object and field
abbrev pub FitsObjects : (ℕ → Option Body) → Settings → ℕ → Txn → List Entry → Type 0
FitsObjects graph p c txn es = AllByRecursion (FitsNewsBy graph p c es) txn.news
    × AllByRecursion (FitsSetBy graph p c es) txn.sets × Rises is_field_before txn.sets

-- the values that the record would put in the graph, and those printed, fit
abbrev pub FitsValues : Shape → (ℕ → Option Body) → Txn → List Entry → Type 0
FitsValues shape graph txn es = AllByRecursion (λ body. AllByRecursion
    (FitsValue shape graph txn.news) body.values) txn.news
    × AllByRecursion (λ set. FitsValue shape graph txn.news set.value) txn.sets
    × AllByRecursion (FitsOut shape es) txn.outs

-- the notifications and the ending fit
abbrev pub FitsRest : Settings → ℕ → Txn → List Entry → Type 0
FitsRest p c txn es = AllByRecursion (FitsNote p c es) txn.notes × FitsEnding c txn.thread txn.ending es
