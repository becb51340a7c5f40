-- A shared object stays what it is; and blocks whose records don't set it leave its fields.
use Rattle.std.specs.List.{AllByRecursion}
use Rattle.std.proofs.Common.{ℕ, ◌≡◌, refl, sym, ◌∙◌, ap, subst, List, [], ◌∷◌, ◌++◌}
use Rattle.dso_base.specs.Block.{start, worked}
use Rattle.dso_base.specs.declared.lock.ThreadId.{ThreadId}
use Rattle.dso_base.specs.declared.record.Txn.{Txn}
use Rattle.dso_base.specs.declared.request.Event.{Event}
use Rattle.dso_base.specs.declared.request.Event.TheVariants.{Act, Lost}
use Rattle.dso_base.specs.declared.shape.Shape.{Shape}
use Rattle.dso_plain.specs.After.{after}
use Rattle.dso_plain.specs.History.{RunsButMarks, end_of, last_state}
use Rattle.dso_plain.specs.Possible.{MayButMarks}
use Rattle.dso_plain.specs.State.{PlainState, IsShared, is_shared, opening}
use Rattle.dso_plain.proofs.independence.RunsSwap.{runs_but_marks_in_parts, ends_in_parts}
use Rattle.dso_plain.proofs.independence.RunsSwap.{quiet_act}
use Rattle.dso_plain.proofs.independence.LeavesOthers.{absent_shared}
use Rattle.dso_plain.proofs.independence.LeavesOthers.{private_or_shared}
use Rattle.dso_legal.specs.PendingBlocks.{joined, privates_through, IsRecordOf, AreRecordsOf}
use Rattle.dso_legal.specs.Residency.{is_set}
use Rattle.dso_legal.specs.Works.{ArePrivates, TellsWork}
use Rattle.dso_legal.proofs.copies.FieldMoves.{sets_other, no_set_of}
use Rattle.dso_legal.proofs.objects.ObjectsInFlight.{LeavesAlone}
use Rattle.dso_legal.proofs.blocks.OwnThreads.{IsRecordOfClient}
use Rattle.dso_legal.proofs.objects.PrivatesTaken.{privates_of_block, through_more}
use Rattle.dso_legal.proofs.objects.WorksTell.{works_tell}

-- an event
shared_after : (shape : Shape) (e : Event) (s : PlainState) (o : ℕ) → MayButMarks shape e s → IsShared o s → (after shape e s).objects o ≡ s.objects o
shared_after shape (Lost client) s o may shared = refl
shared_after shape (Act t request reply woken) s o may shared = (quiet_act shape t request reply woken s may).stays o (λ own. private_or_shared t (s.objects o) own shared) (λ absent. absent_shared (s.objects o) absent shared)

-- A run leaves a shared object what it is.
pub shared_stays : (shape : Shape) (es : List Event) (s : PlainState) (o : ℕ) → RunsButMarks shape es s → IsShared o s → (end_of shape es s).objects o ≡ s.objects o
shared_stays shape [] s o runs shared = refl
shared_stays shape (e ∷ es) s o runs shared =
    let one : (after shape e s).objects o ≡ s.objects o = shared_after shape e s o runs.0 shared in
    shared_stays shape es (after shape e s) o runs.1 (ap is_shared one ∙ shared) ∙ one

-- the object and its fields are as they were
pub record LeavesObject (o : ℕ) (s r : PlainState) : Type 0 where
  pub object : r.objects o ≡ s.objects o
  pub heap : (f : ℕ) → r.heap (o, f) ≡ s.heap (o, f)

module _ (shape : Shape) (c o : ℕ) where
  -- the private objects of the client's threads, behind these blocks
  abbrev pub PrivatesOf : List (List Event) → PlainState → Type 0
  PrivatesOf before s = (t : ThreadId) → t.client ≡ c → ArePrivates t (privates_through shape t before []) s

  -- a block whose record leaves the object alone
  block_leaves : (before : List (List Event)) (txn : Txn) (block : List Event) (h : List Event) → RunsButMarks shape h (opening shape) → RunsButMarks shape block (last_state shape h) → IsRecordOf shape before txn block → txn.thread.client ≡ c
      → PrivatesOf before (last_state shape h) → LeavesAlone o txn → IsShared o (last_state shape h) → LeavesObject o (last_state shape h) (end_of shape block (last_state shape h))
  block_leaves before txn block h ran runs is its privates alone shared = record {
    object = (tells.left o shared).object;
    heap = λ f. (tells.left o shared).heap f ∙ sets_other o f (worked shape block (start (privates_through shape txn.thread before []))).sets ((last_state shape h).heap (o, f)) (no_set_of o f (worked shape block (start (privates_through shape txn.thread before []))).sets (ap (λ (x : Txn). is_set o x.sets) (sym is.whole) ∙ alone.0));
  }
    where
      tells : TellsWork txn.thread (worked shape block (start (privates_through shape txn.thread before []))) (last_state shape h) (end_of shape block (last_state shape h))
      tells = works_tell shape txn.thread (privates_through shape txn.thread before []) block h ran (privates txn.thread its) is.acts runs

  -- Blocks whose records leave the object alone leave it what it is.
  pub pending_leaves : (before : List (List Event)) (txns : List Txn) (blocks : List (List Event)) (h : List Event) → RunsButMarks shape h (opening shape) → RunsButMarks shape (joined blocks) (last_state shape h) → AreRecordsOf shape before txns blocks
      → AllByRecursion (IsRecordOfClient c) txns → PrivatesOf before (last_state shape h) → AllByRecursion (LeavesAlone o) txns → IsShared o (last_state shape h) → LeavesObject o (last_state shape h) (end_of shape (joined blocks) (last_state shape h))
  pending_leaves before [] [] h ran runs are its privates alone shared = record { object = refl; heap = λ f. refl }
  pending_leaves before [] (block ∷ blocks) h ran runs are its privates alone shared = absurd are
  pending_leaves before (txn ∷ txns) [] h ran runs are its privates alone shared = absurd are
  pending_leaves before (txn ∷ txns) (block ∷ blocks) h ran runs are its privates alone shared =
      behind (pending_leaves (before ++ block ∷ []) txns blocks (h ++ block) ran_on (subst (RunsButMarks shape (joined blocks)) (sym ends) both.1) are.1 its.1 privates_on alone.1 (ap (λ (s : PlainState). is_shared (s.objects o)) ends ∙ (ap is_shared first.object ∙ shared)))
    where
      both : RunsButMarks shape block (last_state shape h) × RunsButMarks shape (joined blocks) (end_of shape block (last_state shape h))
      both = (runs_but_marks_in_parts shape block (joined blocks) (last_state shape h)).0 runs

      ends : last_state shape (h ++ block) ≡ end_of shape block (last_state shape h)
      ends = ends_in_parts shape h block (opening shape)

      ran_on : RunsButMarks shape (h ++ block) (opening shape)
      ran_on = (runs_but_marks_in_parts shape h block (opening shape)).1 (ran, both.0)

      first : LeavesObject o (last_state shape h) (end_of shape block (last_state shape h))
      first = block_leaves before txn block h ran both.0 are.0 its.0 privates alone.0 shared

      privates_on : PrivatesOf (before ++ block ∷ []) (last_state shape (h ++ block))
      privates_on t of = subst (ArePrivates t (privates_through shape t (before ++ block ∷ []) [])) (sym ends)
          (subst (λ bodies. ArePrivates t bodies (end_of shape block (last_state shape h))) (sym (through_more shape t before block []))
          (privates_of_block shape t works_tell (privates_through shape t before []) block h ran (record { thread = txn.thread; acts = are.0.acts }) both.0 (privates t of)))

      behind : LeavesObject o (last_state shape (h ++ block)) (end_of shape (joined blocks) (last_state shape (h ++ block))) → LeavesObject o (last_state shape h) (end_of shape (joined (block ∷ blocks)) (last_state shape h))
      behind rest = record {
        object = ap (λ (s : PlainState). s.objects o) (ends_in_parts shape block (joined blocks) (last_state shape h) ∙ ap (end_of shape (joined blocks)) (sym ends)) ∙ (rest.object ∙ (ap (λ (s : PlainState). s.objects o) ends ∙ first.object));
        heap = λ f. ap (λ (s : PlainState). s.heap (o, f)) (ends_in_parts shape block (joined blocks) (last_state shape h) ∙ ap (end_of shape (joined blocks)) (sym ends)) ∙ (rest.heap f ∙ (ap (λ (s : PlainState). s.heap (o, f)) ends ∙ first.heap f));
      }
