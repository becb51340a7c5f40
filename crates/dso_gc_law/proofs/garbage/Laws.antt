-- The laws of collection: garbage stays garbage, and is named no more.
use Rattle.std.specs.List.{list_any}
use Rattle.std.specs.Option.{option_map_or}
use Rattle.std.proofs.Common.{ℕ, ◌≡◌, inl, refl, false, Option, List, ◌∷◌, ◌++◌}
use Rattle.dso_base.specs.declared.journal.Entry.{Entry}
use Rattle.dso_base.specs.declared.journal.Node.{Node}
use Rattle.dso_base.specs.declared.journal.Node.TheVariants.{Server, Client}
use Rattle.dso_base.specs.declared.lock.ThreadId.{ThreadId}
use Rattle.dso_base.specs.declared.request.Event.{Event}
use Rattle.dso_base.specs.declared.request.Request.{Request}
use Rattle.dso_base.specs.declared.value.Value.{Value}
use Rattle.dso_base.specs.Naming.{event_names}
use Rattle.dso_law.specs.Settings.{Settings}
use Rattle.dso_legal.specs.Collection.{IsGarbageAfter, is_kept}
use Rattle.dso_legal.specs.Lawful.{AllFollow}
use Rattle.dso_legal.proofs.ids.Making.{fails}
use Rattle.dso_gc_law.specs.Garbage.{GarbageStays, Spares, SweptAreUnnamed, sent_names}
use Rattle.dso_gc_law.proofs.Known.{CountsLiving, IsKnown}
use Rattle.dso_gc_law.proofs.garbage.Later.{fewer_live, living_later, unknown_later}
use Rattle.dso_gc_law.proofs.garbage.Names.{of_kept, of_server}
use Rattle.dso_gc_law.proofs.garbage.Rows.{Rows, rows}
use Rattle.dso_gc_law.proofs.garbage.Stays.{kept_before, stored_later}

module _ (p : Settings) (next : ThreadId → List Event → Option Request)
    (frames : ThreadId → List Event → List Value) (known : Rows p next frames) where
  stays : (later es : List Entry) → AllFollow p next (later ++ es) → (o : ℕ) → IsGarbageAfter p next frames es o
      → IsGarbageAfter p next frames (later ++ es) o
  stays later es follow o garbage = record {
    there = stored_later p.shape o later es garbage.there;
    unreached = λ live. unknown_later p next frames known es later follow o garbage (inl
        (fewer_live p next frames (is_kept p (later ++ es)) (is_kept p es) (λ c. kept_before p c later es)
        (later ++ es) o live));
  }

  module _ (e : Entry) (later es : List Entry) (follow : AllFollow p next (e ∷ later ++ es)) (o : ℕ)
      (garbage : IsGarbageAfter p next frames es o) where
    -- it isn't known
    not_known : IsKnown p next frames (is_kept p es) (later ++ es) o → ⊥
    not_known = unknown_later p next frames known es later follow.0 o garbage

    living : CountsLiving p next frames (is_kept p es) (later ++ es)
    living = living_later p next frames later es

    spared : (node : Node) → e.node ≡ node → Spares (is_kept p es) o e node
    spared Server at =
        let its = of_server p next frames known (is_kept p es) e (later ++ es) follow living at in
        fails (list_any (λ m. sent_names m o) e.sent)
        (λ is. not_known (known.server_sends (is_kept p es) e (later ++ es) its o is))
    spared (Client c) at = λ counts.
        let its = of_kept p next frames known (is_kept p es) e (later ++ es) follow living c at counts in (
          fails (option_map_or (λ event. event_names event o) e.event false)
              (λ is. not_known (known.events (is_kept p es) c e (later ++ es) its o is)),
          fails (list_any (λ m. sent_names m o) e.sent)
              (λ is. not_known (known.client_sends (is_kept p es) c e (later ++ es) its o is)),
        )

pub garbage_stays : GarbageStays
garbage_stays p next frames keeps sound later es follow o garbage =
    stays p next frames (rows p next frames keeps sound) later es follow o garbage

pub swept_are_unnamed : SweptAreUnnamed
swept_are_unnamed p next frames keeps sound e later es follow o garbage =
    spared p next frames (rows p next frames keeps sound) e later es follow o garbage e.node refl
