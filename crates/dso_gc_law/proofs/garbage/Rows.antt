-- The rows of the law's induction together, and where they come from.
use Rattle.std.proofs.Common.{ℕ, ◌≡◌, inl, inr, Bool, true, Option, List, ◌∷◌}
use Rattle.dso_base.specs.declared.journal.Input.{Input}
use Rattle.dso_base.specs.declared.journal.Input.TheVariants.{TookDown}
use Rattle.dso_base.specs.declared.lock.ThreadId.{ThreadId}
use Rattle.dso_base.specs.declared.request.Event.{Event}
use Rattle.dso_base.specs.declared.request.Request.{Request}
use Rattle.dso_base.specs.declared.value.Value.{Value}
use Rattle.dso_machine.specs.Frames.{KeepsFrames}
use Rattle.dso_law.specs.Settings.{Settings, threads_of}
use Rattle.dso_law.specs.ClientRun.{next_in}
use Rattle.dso_legal.specs.SoundProgram.{AsksSoundly}
use Rattle.dso_gc_law.proofs.Known.{EventIsKnown, ThreadsAreKnown, ClientSendsKnown, CopiesAreKnown, ServerSendsKnown}
use Rattle.dso_gc_law.proofs.Known.{StoredAreKnown}
use Rattle.dso_gc_law.proofs.leases.LocksNamed.{input_names, is_contained}
use Rattle.dso_gc_law.proofs.leases.Returned.{returns_are_named}
use Rattle.dso_gc_law.proofs.leases.Served.{lose_names_wanted}
use Rattle.dso_gc_law.proofs.leases.Touched.{Names}
use Rattle.dso_gc_law.proofs.server.Copies.{copies_are_known}
use Rattle.dso_gc_law.proofs.server.Sends.{LoseNamesWanted, server_sends_known}
use Rattle.dso_gc_law.proofs.server.Stored.{stored_are_known}
use Rattle.dso_gc_law.proofs.threads.EventNames.{event_is_known}
use Rattle.dso_gc_law.proofs.threads.Returned.{IsTouched, ReturnsNamed, taken_names}
use Rattle.dso_gc_law.proofs.threads.SentNames.{client_sends_known}
use Rattle.dso_gc_law.proofs.threads.ThreadNames.{threads_are_known}

-- of a program that asks soundly, whichever clients count
pub record Rows (p : Settings) (next : ThreadId → List Event → Option Request)
    (frames : ThreadId → List Event → List Value) : Type 0 where
  pub sound : AsksSoundly p.shape next
  pub events : (kept : ℕ → Bool) → EventIsKnown p next frames kept
  pub threads : (kept : ℕ → Bool) → ThreadsAreKnown p next frames kept
  pub client_sends : (kept : ℕ → Bool) → ClientSendsKnown p next frames kept
  pub copies : (kept : ℕ → Bool) → CopiesAreKnown p next frames kept
  pub server_sends : (kept : ℕ → Bool) → ServerSendsKnown p next frames kept
  pub stored : (kept : ℕ → Bool) → StoredAreKnown p next frames kept

-- what a lease that is given back names, the entry touches
returns_named : ReturnsNamed
returns_named p c next e own run o is = by (returns_are_named p c next e own run o is)
  where
    taken : (i : Input) → input_names i o ≡ true → taken_names i o ≡ true
    taken (TookDown m) is = is
    taken other is = is

    by : Names p c (next_in next (e ∷ own)) e o → IsTouched p c (next_in next (e ∷ own)) e o
    by (inl acts) = inl acts
    by (inr (inl takes)) = inr (inl (taken e.input takes))
    by (inr (inr one)) = inr (inr (one.thread, is_contained one.thread (threads_of p c) one.listed, one.passes))

-- what the server sends as it loses a client, a thread of another client wants
wanted_at_loss : (p : Settings) (next : ThreadId → List Event → Option Request) → AsksSoundly p.shape next
    → LoseNamesWanted p next
wanted_at_loss p next sound e es follow node c lost o names =
    let it = lose_names_wanted p next sound e es follow node c lost o names in
    record {
      client = it.client;
      cluster = it.its;
      living = it.alive;
      thread = it.one.thread;
      its = is_contained it.one.thread (threads_of p it.client) it.one.listed;
      names = it.one.passes;
    }

-- The rows, of each such program whose threads keep their frames.
pub rows : (p : Settings) (next : ThreadId → List Event → Option Request) (frames : ThreadId → List Event → List Value)
    → KeepsFrames next frames → AsksSoundly p.shape next → Rows p next frames
rows p next frames keeps sound = record {
  sound = sound;
  events = λ kept. event_is_known p next frames kept;
  threads = λ kept. threads_are_known p next frames kept keeps;
  client_sends = λ kept. client_sends_known p next frames kept keeps returns_named;
  copies = λ kept. copies_are_known p next frames kept (client_sends_known p next frames kept keeps returns_named);
  server_sends = λ kept. server_sends_known p next frames kept (wanted_at_loss p next sound);
  stored = λ kept. stored_are_known p next frames kept;
}
