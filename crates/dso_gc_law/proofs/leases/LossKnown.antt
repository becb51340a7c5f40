-- So what the server's messages name as it loses a client is known: it is a start, since a thread of a client that
-- counts names it.
use Rattle.std.specs.List.{list_any}
use Rattle.std.specs.Option.{option_map_or}
use Rattle.std.proofs.Common.{ℕ, ◌≡◌, inl, inr, true, false, Bool, Option, List}
use Rattle.dso_base.specs.declared.journal.Entry.{Entry}
use Rattle.dso_base.specs.declared.journal.Input.TheVariants as input
use Rattle.dso_base.specs.declared.journal.Node.TheVariants.{Client}
use Rattle.dso_base.specs.declared.lock.ThreadId.{ThreadId}
use Rattle.dso_base.specs.declared.request.Event.{Event}
use Rattle.dso_base.specs.declared.request.Request.{Request}
use Rattle.dso_base.specs.declared.value.Value.{Value}
use Rattle.dso_base.specs.Block.{has_reference}
use Rattle.dso_base.specs.Naming.{request_names, work_names}
use Rattle.dso_base.specs.Reached.{begins}
use Rattle.dso_machine.specs.Frames.{holds_then}
use Rattle.dso_lookup.proofs.Tests.{left_holds, right_holds}
use Rattle.dso_law.specs.Entries.{entries_of, events_in}
use Rattle.dso_law.specs.Settings.{Settings, threads_of}
use Rattle.dso_law.specs.Threads.{work_of}
use Rattle.dso_legal.specs.Collection.{IsLive, thread_names, is_in_flight}
use Rattle.dso_legal.specs.Lawful.{next_after}
use Rattle.dso_gc_law.specs.Garbage.{sent_names}
use Rattle.dso_gc_law.proofs.Known.{IsKnown, IsOfServer}
use Rattle.dso_gc_law.proofs.leases.LocksNamed.{OneOf, some_passes}
use Rattle.dso_gc_law.proofs.leases.Served.{WanterOf, lose_names_wanted}

module _ (p : Settings) (next : ThreadId → List Event → Option Request) (frames : ThreadId → List Event → List Value)
    (kept : ℕ → Bool) where
  -- a thread whose next request names the object names it
  named_next : (t : ThreadId) (es : List Entry) (o : ℕ)
      → option_map_or (λ r. request_names r o) (next_after next es t) false ≡ true
      → thread_names p next frames t es o ≡ true
  named_next t es o is =
      let its : List Entry = entries_of (Client t.client) es in
      left_holds (holds_then next frames t (events_in t its) o) (work_names (work_of p.shape t its) o)
      (right_holds (has_reference o (frames t (events_in t its)))
      (option_map_or (λ r. request_names r o) (next t (events_in t its)) false) is)

  -- what a thread of a client that counts names next is live
  pub next_is_live : (c : ℕ) → kept c ≡ true → (es : List Entry) (o : ℕ)
      → OneOf (threads_of p c) (λ t. option_map_or (λ r. request_names r o) (next_after next es t) false)
      → IsLive p next frames kept es o
  next_is_live c counts es o one = begins o
      (inr (
        c,
        counts,
        left_holds (list_any (λ t. thread_names p next frames t es o) (threads_of p c))
            (is_in_flight c es o) (some_passes (threads_of p c) (λ t. thread_names p next frames t es o)
            (record { thread = one.thread; listed = one.listed; passes = named_next one.thread es o one.passes })),
      ))

  -- What the messages of a loss name is known.
  pub lose_is_known : (e : Entry) (es : List Entry) → IsOfServer p next frames kept e es → (c : ℕ)
      → e.input ≡ input.Lose c → (o : ℕ) → list_any (λ m. sent_names m o) e.sent ≡ true
      → IsKnown p next frames kept es o
  lose_is_known e es h c lost o is =
      let one : WanterOf p next o e es = lose_names_wanted p next h.sound e es h.follow h.node c lost o is in
      inl (next_is_live one.client (h.living one.client one.its one.before) es o one.one)
