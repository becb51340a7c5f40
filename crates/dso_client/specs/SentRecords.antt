-- The work that a thread has in hand, and the record that hands it in.
use Rattle.std.specs.List.{list_any}
use Rattle.std.specs.Option.{option_map}
use Rattle.std.specs.Prelude.{◌≡◌, ◌||◌, ℕ, zero, suc, Bool, true, cond, eqb, is_some, Option, Some, None}
use Rattle.std.specs.Prelude.{List, slice_get, slice_set}
use Rattle.dso_base.specs.declared.record.Ending.{Ending}
use Rattle.dso_base.specs.declared.record.Txn.{Txn}
use Rattle.dso_base.specs.declared.shape.Shape.{Shape}
use Rattle.dso_change.specs.Hands.{IsOnce, hand_of}
use Rattle.dso_law.specs.ClientStep.{commits}
use Rattle.dso_law.specs.Copies.{is_resident}
use Rattle.dso_law.specs.Records.{records}
use Rattle.dso_law.specs.RequestNeeds.{unmet}
use Rattle.dso_law.specs.Threads.{ending_by, locks_of, work_of}
use Rattle.dso_table.specs.States.{State, used}
use Rattle.dso_txn.specs.declared.open_block.OpenBlock.{OpenBlock}
use Rattle.dso_txn.specs.declared.privates.Privates.{Privates}
use Rattle.dso_txn.specs.InHand.{bodies_in, news_in, hand_in}
use Rattle.dso_client.specs.declared.answered.Answered.{Answered}
use Rattle.dso_client.specs.declared.answered.BlockEnd.{BlockEnd}
use Rattle.dso_client.specs.declared.client_state.ClientState.{ClientState}
use Rattle.dso_client.specs.declared.thread_context.ThreadContext.{ThreadContext}
use Rattle.dso_client.specs.SequencesStand.{SequencesStand}
use Rattle.dso_client.specs.ActEffects.{event_of, applied}
use Rattle.dso_client.specs.Openings.{thread_at}
use Rattle.dso_client.specs.RunPoints.{RunPoint}
use Rattle.dso_client.specs.LeaseReturns.{record_sent}
use Rattle.dso_client.specs.ContextPlaces.{context_in}
use Rattle.dso_client.specs.TableStands.{TableStands}

-- the thread has in hand what its entries tell
abbrev pub HasWork : RunPoint → ThreadContext → Type 0
HasWork at context = hand_in context.privates context.block ≡ hand_of (work_of at.settings.shape context.id at.entries)

-- The request of the context's thread is answered at this point: the program has this shape, the thread has in hand
-- what its entries tell, each object once, and the act is this ending, if it is one.
pub record IsActing (at : RunPoint) (shape : Shape) (act : Answered) (ending : Option Ending)
    (context : ThreadContext) : Type 0 where
  pub shape_is : at.settings.shape ≡ shape
  pub its : context.id ≡ act.thread
  pub work : HasWork at context
  pub once : IsOnce (work_of at.settings.shape act.thread at.entries)
  pub ends : ending ≡ ending_by act.request act.reply (locks_of act.thread at.entries)

-- the ending of a block that ends
abbrev pub ending_in : Option BlockEnd → Option Ending
ending_in end = option_map (λ end. end.ending) end

-- the contexts with another one at a place, if one is there
abbrev pub replaced_at : ℕ → (ThreadContext → ThreadContext) → Option ThreadContext → List ThreadContext
    → List ThreadContext
replaced_at at change None contexts = contexts
replaced_at at change (Some context) contexts = slice_set contexts at (change context)

-- the contexts with that of the thread of an index changed
abbrev pub changed_context : ℕ → (ThreadContext → ThreadContext) → List ThreadContext → List ThreadContext
changed_context zero change contexts = contexts
changed_context (suc at) change contexts = replaced_at at change (slice_get contexts at) contexts

-- a context with this work in hand
abbrev pub with_work : Privates → OpenBlock → ThreadContext → ThreadContext
with_work privates block context = record context { privates = privates; block = block }

-- a context whose last record has this number
abbrev pub with_record : ℕ → ThreadContext → ThreadContext
with_record seq context = record context { last_record = Some seq }

-- the contexts differ at most in the work in hand of the thread of this index
pub record WorksAlone (index : ℕ) (old new : List ThreadContext) : Type 0 where
  pub privates : Privates
  pub block : OpenBlock
  pub contexts : new ≡ changed_context index (with_work privates block) old

-- The request of the thread of this index was answered: the objects and the ids stand for it, and so does the work
-- that the thread has in hand; and this record, if any, is the one that the rule sends.
pub record IsApplied (clock : ℕ) (at : RunPoint) (act : Answered) (index : ℕ) (txn : Option Txn) (new : ClientState)
    : Type 0 where
  pub table : TableStands (applied clock act at) new.table
  pub sequences : SequencesStand (applied clock act at) new.sequences
  pub work : (context : ThreadContext) → context_in new.contexts.items index ≡ Some context
      → HasWork (applied clock act at) context
  pub commits : record_sent txn ≡ commits at.settings act.thread (event_of act) at.entries

-- The request of the thread of this index is answered at this point, where the objects and the ids stand: its needs are
-- met.
pub record Applies (at : RunPoint) (shape : Shape) (act : Answered) (index : ℕ) (ending : Option Ending)
    (old : ClientState)
    : Type 0 where
  pub its : act.thread ≡ thread_at at.client index
  pub table : TableStands at old.table
  pub sequences : SequencesStand at old.sequences
  pub acting : (context : ThreadContext) → context_in old.contexts.items index ≡ Some context
      → IsActing at shape act ending context
  pub met : unmet at.settings at.client at.next act.thread act.request at.entries ≡ None

-- the record may be sent: it has the next number, and what it sets is resident
pub record MaySend (at : RunPoint) (txn : Txn) : Type 0 where
  pub next : txn.seq ≡ suc (records at.entries)
  pub resident : (o : ℕ) → list_any (λ set. eqb set.object o) txn.sets ≡ true → is_resident o at.entries ≡ true

-- the thread has the object in hand: it is private to it, or published in its open block
abbrev pub has_in_hand : ThreadContext → ℕ → Bool
has_in_hand context o = is_some (bodies_in context.privates o) || is_some (news_in context.block o)

-- what the table tells once an object was used, if one was that the thread hasn't in hand
abbrev pub used_by : ThreadContext → Option ℕ → State → State
used_by context None s = s
used_by context (Some o) s = cond (has_in_hand context o) s (used o s)
