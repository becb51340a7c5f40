-- What a thread sees of its client's copies, in the state behind its open block.
use Rattle.std.specs.List.{list_any}
use Rattle.std.proofs.Common.{ℕ, ◌≡◌, ◌≢◌, refl, sym, ◌∙◌, ap, subst, Bool, true, false, cond, Option, Some, None, List}
use Rattle.dso_base.specs.declared.journal.Entry.{Entry}
use Rattle.dso_base.specs.declared.lock.Level.{Level}
use Rattle.dso_base.specs.declared.lock.LockName.{LockName}
use Rattle.dso_base.specs.declared.lock.ThreadId.{ThreadId}
use Rattle.dso_base.specs.declared.message.Down.{Down}
use Rattle.dso_base.specs.declared.request.Event.{Event}
use Rattle.dso_base.specs.declared.value.Value.{Value}
use Rattle.dso_plain.specs.History.{RunsButMarks, end_of}
use Rattle.dso_plain.specs.Past.{KeepsPast}
use Rattle.dso_plain.specs.Possible.{StandsFrom, IsOf}
use Rattle.dso_plain.specs.State.{PlainState, IsShared, is_shared, HoldsGuard, guard_in, guard_of_object, hold_on_guard}
use Rattle.dso_plain.specs.Touches.{AreActsOf, TouchesIn}
use Rattle.dso_law.specs.Settings.{Settings}
use Rattle.dso_law.specs.Copies.{is_resident, value_held, is_set_of, value_by_sets}
use Rattle.dso_law.specs.Leases.{standing}
use Rattle.dso_law.specs.Replies.{value_seen}
use Rattle.dso_law.specs.Threads.{work_of}
use Rattle.dso_legal.specs.CopiesStand.{CopiesStand, class_copy, field_copy}
use Rattle.dso_legal.specs.Views.{SeesCopy}
use Rattle.dso_legal.specs.Works.{TellsWork}
use Rattle.dso_legal.proofs.objects.BodiesHeld.{set_anew}
use Rattle.dso_legal.proofs.copies.ClassMoves as class_moves
use Rattle.dso_legal.proofs.copies.FieldMoves as field
use Rattle.dso_legal.proofs.copies.FieldMoves.{sets_other}
use Rattle.dso_legal.proofs.copies.PastValues.{newest_stands}
use Rattle.dso_legal.proofs.copies.SeenStays.{seen_stays}

-- A thread's events since its block's start took the state from s to r, by what it has in hand; what they touch it holds in r,
-- and what it holds there its client has a lease of.
pub record ActsFrom (p : Settings) (t : ThreadId) (events : List Event) (s r : PlainState) (own : List Entry) : Type 0 where
  pub acts : AreActsOf t events
  pub runs : RunsButMarks p.shape events s
  pub ends : r ≡ end_of p.shape events s
  pub past : KeepsPast r
  pub tells : TellsWork t (work_of p.shape t own) s r
  pub touched : (l : LockName) (x : Level) → TouchesIn p.shape events s l x → r.monitors (l, t) ≢ None
  pub leased : (l : LockName) → r.monitors (l, t) ≢ None → (standing l own).lease ≢ None

module _ (p : Settings) (t : ThreadId) (events : List Event) (s r : PlainState) (ms : List Down) (own : List Entry) (from : ActsFrom p t events s r own) (h : CopiesStand p.shape t.client s ms own) (o : ℕ) (here : is_resident o own ≡ true) where
  shared_before : IsShared o s
  shared_before = (class_moves.now_shared o s ms (class_copy o own) (h.class o)).shared here

  same_object : r.objects o ≡ s.objects o
  same_object = (from.tells.left o shared_before).object

  same_guard : (f : ℕ) → guard_in p.shape r o f ≡ guard_in p.shape s o f
  same_guard f = ap (λ object. guard_of_object p.shape object o f) same_object

  module _ (f : ℕ) (v : Value) (e : value_seen p t o f own ≡ Some v) where
    abbrev sets : Option Value → Option Value
    sets before = value_by_sets o f (work_of p.shape t own).sets before

    -- it is by what the block set, over the value held
    by_held : sets (value_held o f own) ≡ Some v
    by_held = ap (λ b. sets (cond b (value_held o f own) None)) (sym here) ∙ e

    heap_now : r.heap (o, f) ≡ sets (s.heap (o, f))
    heap_now = (from.tells.left o shared_before).heap f

    under_guard : HoldsGuard p.shape t o f r → r.heap (o, f) ≡ Some v
    under_guard holds = heap_now ∙ (ap sets (sym (field.settled (guard_in p.shape s o f) t.client o f s ms (field_copy (guard_in p.shape s o f) o f own) (h.field o f) leased here)) ∙ by_held)
      where
        leased : (standing (guard_in p.shape s o f) own).lease ≢ None
        leased = from.leased (guard_in p.shape s o f) (subst (λ l. r.monitors (l, t) ≢ None) (same_guard f) holds)

    -- without the guard
    module _ (none : hold_on_guard p.shape t o f r ≡ None) where
      untouched : (x : Level) → TouchesIn p.shape events s (guard_in p.shape s o f) x → ⊥
      untouched x touch = from.touched (guard_in p.shape s o f) x touch (ap (λ l. r.monitors (l, t)) (sym (same_guard f)) ∙ none)

      same_seen : r.seen (t, o, f) ≡ s.seen (t, o, f)
      same_seen = ap (λ (z : PlainState). z.seen (t, o, f)) from.ends ∙ seen_stays p.shape t o f events s from.acts from.runs shared_before untouched

      stands : (b : Bool) → list_any (is_set_of o f) (work_of p.shape t own).sets ≡ b → StandsFrom (r.seen (t, o, f)) v (r.past (o, f))
      stands true set = newest_stands r from.past o f v (ap is_shared same_object ∙ shared_before) (heap_now ∙ (set_anew o f (work_of p.shape t own).sets (s.heap (o, f)) (value_held o f own) set ∙ by_held)) t
      stands false set = subst (λ place. StandsFrom place v (r.past (o, f))) (sym same_seen) (subst (StandsFrom (s.seen (t, o, f)) v) (sym same_past)
          (field.now_stands (guard_in p.shape s o f) t.client o f s ms (field_copy (guard_in p.shape s o f) o f own) (h.field o f) here v (sym (sets_other o f (work_of p.shape t own).sets (value_held o f own) set) ∙ by_held) t refl))
        where
          same_past : r.past (o, f) ≡ s.past (o, f)
          same_past = (from.tells.left o shared_before).past f (sets_other o f (work_of p.shape t own).sets None set)

  -- What the thread sees of a resident object.
  pub sees_copy : SeesCopy p t own o r
  sees_copy = record {
    shared = ap is_shared same_object ∙ shared_before;
    class = λ class held. subst (IsOf class.0 class.1) (sym same_object) ((class_moves.now_shared o s ms (class_copy o own) (h.class o)).of here class held);
    values = λ f v e. record {
      shared = ap is_shared same_object ∙ shared_before;
      guarded = under_guard f v e;
      unguarded = λ none. stands f v e none (list_any (is_set_of o f) (work_of p.shape t own).sets) refl;
    };
  }
