-- What a client's copies name after an entry is known, or they named it before.
use Rattle.std.proofs.Common.{ℕ, ◌≡◌, inl, inr, subst, Bool, true, Option, List}
use Rattle.dso_base.specs.declared.journal.Entry.{Entry}
use Rattle.dso_base.specs.declared.journal.Input.TheVariants as input
use Rattle.dso_base.specs.declared.journal.Node.TheVariants.{Client}
use Rattle.dso_base.specs.declared.lock.ThreadId.{ThreadId}
use Rattle.dso_base.specs.declared.message.Down.{Down}
use Rattle.dso_base.specs.declared.request.Event.{Event}
use Rattle.dso_base.specs.declared.request.Request.{Request}
use Rattle.dso_base.specs.declared.value.Value.{Value}
use Rattle.dso_base.specs.Block.{body_names}
use Rattle.dso_law.specs.Channels.{TakesFirst}
use Rattle.dso_law.specs.Entries.{entries_of}
use Rattle.dso_law.specs.HeldBody.{held_body}
use Rattle.dso_law.specs.Settings.{Settings}
use Rattle.dso_legal.proofs.channels.AfterEntry.{own_turn}
use Rattle.dso_gc_law.proofs.Known.{ClientSendsKnown, CopiesAreKnown}
use Rattle.dso_gc_law.proofs.server.Bodies.{held_by_entry}
use Rattle.dso_gc_law.proofs.server.Starts.{down_live}

module _ (p : Settings) (next : ThreadId → List Event → Option Request) (frames : ThreadId → List Event → List Value)
    (kept : ℕ → Bool) where
  -- A copy changes by a message that the client takes, which was in flight, and by what it sends.
  pub copies_are_known : ClientSendsKnown p next frames kept → CopiesAreKnown p next frames kept
  copies_are_known sends c e es its a b names =
      let own : List Entry = entries_of (Client c) es in
      elim (held_by_entry b a e own
      (subst (λ entries. body_names (held_body a entries) b ≡ true) (own_turn c e es its.node).own names)) [
        | inl old ↦ inl old
        | inr new ↦ inr (elim new [
          | inl taken ↦ inl (down_live p next frames kept c its.counts es b taken.0 (first taken.0 taken.1) taken.2)
          | inr sent ↦ sends c e es its b sent
        ])
      ]
    where
      first : (m : Down) → e.input ≡ input.TookDown m → TakesFirst (input.TookDown m) (Client c) es
      first m is = subst (λ i. TakesFirst i (Client c) es) is
          (subst (λ n. TakesFirst e.input n es) its.node its.follow.1.channels)
