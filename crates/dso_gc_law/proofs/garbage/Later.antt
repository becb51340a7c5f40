-- From the entries of a collection on: what is known later was known then, for the clients that weren't lost then. So
-- what was garbage then is never known again.
use Rattle.std.proofs.Common.{ℕ, ◌≡◌, inl, inr, Bool, true, Option, List, [], ◌∷◌, ◌++◌}
use Rattle.dso_base.specs.declared.journal.Entry.{Entry}
use Rattle.dso_base.specs.declared.lock.ThreadId.{ThreadId}
use Rattle.dso_base.specs.declared.request.Event.{Event}
use Rattle.dso_base.specs.declared.request.Request.{Request}
use Rattle.dso_base.specs.declared.value.Value.{Value}
use Rattle.dso_law.specs.Settings.{Settings}
use Rattle.dso_legal.specs.Collection.{IsEdge, IsGarbageAfter, IsLive, IsStart, is_kept}
use Rattle.dso_legal.specs.Lawful.{AllFollow}
use Rattle.dso_gc_law.proofs.Known.{CountsLiving, IsKnown}
use Rattle.dso_gc_law.proofs.garbage.Bare.{unstored}
use Rattle.dso_gc_law.proofs.garbage.OneMore.{known_before}
use Rattle.dso_gc_law.proofs.garbage.Paths.{reaches_so}
use Rattle.dso_gc_law.proofs.garbage.Rows.{Rows}
use Rattle.dso_gc_law.proofs.garbage.Stays.{alive_before, first_follow, is_kept_so}

module _ (p : Settings) (next : ThreadId → List Event → Option Request)
    (frames : ThreadId → List Event → List Value) where
  -- ---- fewer clients

  module _ (some all : ℕ → Bool) (fewer : (c : ℕ) → some c ≡ true → all c ≡ true) (es : List Entry) where
    -- fewer clients that count give fewer starts,
    fewer_starts : (o : ℕ) → IsStart p next frames some es o → IsStart p next frames all es o
    fewer_starts o (inl zero) = inl zero
    fewer_starts o (inr (c, counts, is)) = inr (c, fewer c counts, is)

    -- fewer edges,
    fewer_edges : (a b : ℕ) → IsEdge p next frames some es a b → IsEdge p next frames all es a b
    fewer_edges a b (inl is) = inl is
    fewer_edges a b (inr (c, counts, is)) = inr (c, fewer c counts, is)

    -- and so fewer paths.
    pub fewer_live : (o : ℕ) → IsLive p next frames some es o → IsLive p next frames all es o
    fewer_live = reaches_so (IsStart p next frames some es) (IsStart p next frames all es)
        (IsEdge p next frames some es) (IsEdge p next frames all es) fewer_starts (λ a b live. fewer_edges a b)

  -- ---- later entries

  -- the clients that weren't lost at the first entries count later
  pub living_later : (later es : List Entry) → CountsLiving p next frames (is_kept p es) (later ++ es)
  living_later later es = λ c its alive. is_kept_so p c es its (alive_before c later es alive)

  module _ (rows : Rows p next frames) (es : List Entry) where
    -- what is known later was known at the first entries
    pub known_then : (later : List Entry) → AllFollow p next (later ++ es) → (o : ℕ)
        → IsKnown p next frames (is_kept p es) (later ++ es) o → IsKnown p next frames (is_kept p es) es o
    known_then [] follow o known = known
    known_then (e ∷ later) follow o known = known_then later follow.0 o
        (known_before p next frames rows (is_kept p es) e (later ++ es) follow (living_later later es) o known)

    -- What was garbage then isn't known later.
    pub unknown_later : (later : List Entry) → AllFollow p next (later ++ es) → (o : ℕ)
        → IsGarbageAfter p next frames es o → IsKnown p next frames (is_kept p es) (later ++ es) o → ⊥
    unknown_later later follow o garbage known = by (known_then later follow o known)
      where
        by : IsKnown p next frames (is_kept p es) es o → ⊥
        by (inl live) = garbage.unreached live
        by (inr unmade) = garbage.there (unstored p next es (first_follow p next later es follow) o unmade)
