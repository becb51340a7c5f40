-- One entry more: what paths reach after it they reached before it, or nobody had made it by then.
use Rattle.std.proofs.Common.{ℕ, inl, inr, Bool, Option, List, ◌∷◌}
use Rattle.dso_base.specs.declared.journal.Entry.{Entry}
use Rattle.dso_base.specs.declared.lock.ThreadId.{ThreadId}
use Rattle.dso_base.specs.declared.request.Event.{Event}
use Rattle.dso_base.specs.declared.request.Request.{Request}
use Rattle.dso_base.specs.declared.value.Value.{Value}
use Rattle.dso_base.specs.Reached.{begins, goes_on}
use Rattle.dso_law.specs.Settings.{Settings}
use Rattle.dso_legal.specs.Collection.{IsEdge, IsLive, IsStart}
use Rattle.dso_legal.specs.Lawful.{AllFollow}
use Rattle.dso_gc_law.proofs.Known.{CountsLiving, IsKnown}
use Rattle.dso_gc_law.proofs.garbage.Bare.{no_edge, unmade_before}
use Rattle.dso_gc_law.proofs.garbage.Edges.{edge_known}
use Rattle.dso_gc_law.proofs.garbage.Names.{names_known}
use Rattle.dso_gc_law.proofs.garbage.Rows.{Rows}

module _ (p : Settings) (next : ThreadId → List Event → Option Request)
    (frames : ThreadId → List Event → List Value) (rows : Rows p next frames) (kept : ℕ → Bool) (e : Entry)
    (es : List Entry) (follow : AllFollow p next (e ∷ es)) (living : CountsLiving p next frames kept es) where
  -- a start is known
  start_known : (o : ℕ) → IsStart p next frames kept (e ∷ es) o → IsKnown p next frames kept es o
  start_known o (inl zero) = inl (begins o (inl zero))
  start_known o (inr (c, counts, is)) = names_known p next frames rows kept e es follow living c o counts is

  -- and where an edge leads from what is known
  onward_known : (a b : ℕ) → IsKnown p next frames kept es a → IsEdge p next frames kept (e ∷ es) a b
      → IsKnown p next frames kept es b
  onward_known a b known edge = elim (edge_known p next frames rows kept e es follow living a b edge) [
    | inl before ↦ elim known [
      | inl live ↦ inl (goes_on a b live before)
      | inr unmade ↦ absurd (no_edge p next frames kept es follow.0 a b unmade before)
    ]
    | inr led ↦ led
  ]

  -- so what a path reaches
  live_known : (o : ℕ) → IsLive p next frames kept (e ∷ es) o → IsKnown p next frames kept es o
  live_known o (begins s is) = start_known o is
  live_known o (goes_on a b live edge) = onward_known a o (live_known a live) edge

  -- What is known after the entry was known before it.
  pub known_before : (o : ℕ) → IsKnown p next frames kept (e ∷ es) o → IsKnown p next frames kept es o
  known_before o (inl live) = live_known o live
  known_before o (inr unmade) = inr (unmade_before p next e es follow o unmade)
