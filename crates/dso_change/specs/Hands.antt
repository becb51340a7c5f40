-- What a thread has in hand, as look-ups by object and as the tables of a block keep it.
use Rattle.std.specs.Prelude.{ℕ, ◌<◌, ◌≡◌, Bool, true, false, cond, ltb, is_some, length, Option, Some, None, List}
use Rattle.std.specs.Prelude.{[], ◌∷◌, ◌++◌, map, filter, fold, slice_set}
use Rattle.std.specs.BTreeMap.{BTreeMap, is_at}
use Rattle.std.specs.List.{AllByRecursion}
use Rattle.std.specs.Option.{option_map, option_map_or}
use Rattle.std.specs.Ordering.{nat_cmp}
use Rattle.dso_base.specs.declared.lock.ThreadId.{ThreadId}
use Rattle.dso_base.specs.declared.record.Body.{Body}
use Rattle.dso_base.specs.declared.record.Ending.{Ending}
use Rattle.dso_base.specs.declared.record.Note.{Note}
use Rattle.dso_base.specs.declared.record.Set.{Set}
use Rattle.dso_base.specs.declared.record.Txn.{Txn}
use Rattle.dso_base.specs.declared.value.Value.{Value}
use Rattle.dso_base.specs.Block.{Work, body_in}
use Rattle.dso_change.specs.declared.draft.Draft.{Draft}
use Rattle.dso_lookup.specs.Maps.{look, writes, written}
use Rattle.dso_lookup.specs.Search.{is_listed, reference_in}

-- a table of bodies by object
abbrev pub Bodies : Type 0
Bodies = BTreeMap ℕ Body

-- What a thread has in hand: by object the bodies of its private objects, and of those that its open block published;
-- and the sets, the printed values and the notifications of that block.
pub record Hand : Type 0 where
  pub privates : ℕ → Option Body
  pub news : ℕ → Option Body
  pub sets : List Set
  pub outs : List Value
  pub notes : List Note

-- the work in hand, as the definition of a record has it
abbrev pub hand_of : Work → Hand
hand_of work = record {
  privates = λ o. body_in o work.privates;
  news = λ o. body_in o work.news;
  sets = work.sets;
  outs = work.outs;
  notes = work.notes;
}

-- a set from its entry in a table
abbrev pub set_of_entry : (ℕ × ℕ) × Value → Set
set_of_entry e = record { object = e.0.0; field = e.0.1; value = e.1 }

-- the sets of a table, by rising object and field
abbrev pub sets_of : BTreeMap (ℕ × ℕ) Value → List Set
sets_of table = map set_of_entry table.entries

-- the bodies of a table, by rising id
abbrev pub values_of : Bodies → List Body
values_of table = map (λ e. e.1) table.entries

-- what a table of private bodies and a draft of the open block keep
abbrev pub hand_in : Bodies → Draft → Hand
hand_in privates draft = record {
  privates = look nat_cmp privates;
  news = look nat_cmp draft.news;
  sets = sets_of draft.sets;
  outs = draft.outs;
  notes = draft.notes;
}

-- nothing was gathered yet
pub record IsBlank (draft : Draft) : Type 0 where
  pub news : draft.news.entries ≡ []
  pub sets : draft.sets.entries ≡ []
  pub outs : draft.outs ≡ []
  pub notes : draft.notes ≡ []

-- the bodies are of different objects
abbrev pub AreDifferent : List Body → Type 0
AreDifferent [] = Unit {0}
AreDifferent (body ∷ bodies) = (body_in body.object bodies ≡ None) × AreDifferent bodies

-- the bodies stand by rising id
abbrev pub AreRising : List Body → Type 0
AreRising [] = Unit {0}
AreRising (body ∷ bodies) = AllByRecursion (λ later. body.object < later.object) bodies × AreRising bodies

-- Each object is in hand once: the private objects differ, none of them was published in the open block, and those that
-- were stand by rising id.
pub record IsOnce (work : Work) : Type 0 where
  pub privates : AreDifferent work.privates
  pub apart : (o : ℕ) → is_some (body_in o work.privates) ≡ true → body_in o work.news ≡ None
  pub news : AreRising work.news

-- the record of the work at the end of a block
abbrev pub record_from : ℕ → ThreadId → Work → Ending → Txn
record_from seq thread work ending = record {
  seq = seq;
  thread = thread;
  news = work.news;
  sets = work.sets;
  outs = work.outs;
  notes = work.notes;
  ending = ending;
}

-- the body with this value in the field
abbrev pub with_field : ℕ → Value → Body → Body
with_field f v body = record body { values = slice_set body.values f v }

-- the body is there and has the field
abbrev pub has_field : ℕ → Option Body → Bool
has_field f body = option_map_or (λ b. ltb f (length b.values)) body false

-- the bodies with this value in the field of the object, if it is there
abbrev pub with_field_at : ℕ → ℕ → Value → (ℕ → Option Body) → ℕ → Option Body
with_field_at o f v bodies = written (writes (is_at (nat_cmp o)) (λ _. option_map (with_field f v) (bodies o))) bodies

-- the first where it is there, else the second
abbrev pub either : {A : Type 0} → Option A → Option A → Option A
either None second = second
either (Some x) second = Some x

-- the private objects without those that the test tells
abbrev pub kept : (ℕ → Bool) → (ℕ → Option Body) → ℕ → Option Body
kept test privates o = cond (test o) None (privates o)

-- the objects published, with the private ones that the test tells
abbrev pub joined : (ℕ → Bool) → (ℕ → Option Body) → (ℕ → Option Body) → ℕ → Option Body
joined test privates news o = cond (test o) (either (privates o) (news o)) (news o)

-- the list with the objects that the values name behind it, each as often as it is named
abbrev pub with_references : List Value → List ℕ → List ℕ
with_references values objects = fold (λ found value. found ++ reference_in value) objects values

-- the sets whose objects are among these, in order
abbrev pub changes_among : List ℕ → List Set → List Set
changes_among held sets = filter (λ set. is_listed set.object held) sets
