-- What the server's bodies name after an entry is known, or they named it before.
use Rattle.std.proofs.Common.{ℕ, ◌≡◌, ◌⊎◌, inl, inr, refl, subst, Bool, true, false, cond, Option, List, ◌∷◌}
use Rattle.dso_base.specs.declared.journal.Entry.{Entry}
use Rattle.dso_base.specs.declared.journal.Input.{Input}
use Rattle.dso_base.specs.declared.journal.Input.TheVariants as input
use Rattle.dso_base.specs.declared.journal.Node.TheVariants.{Server}
use Rattle.dso_base.specs.declared.lock.ThreadId.{ThreadId}
use Rattle.dso_base.specs.declared.record.Body.{Body}
use Rattle.dso_base.specs.declared.request.Event.{Event}
use Rattle.dso_base.specs.declared.request.Request.{Request}
use Rattle.dso_base.specs.declared.value.Value.{Value}
use Rattle.dso_base.specs.Block.{body_names}
use Rattle.dso_law.specs.Channels.{TakesFirst}
use Rattle.dso_law.specs.Entries.{by_taken_up, entries_of}
use Rattle.dso_law.specs.ServerReadings.{counted, is_of_lost}
use Rattle.dso_law.specs.ServerStep.{ServerStepOn}
use Rattle.dso_law.specs.Settings.{Settings}
use Rattle.dso_law.specs.Store.{body_by, stored}
use Rattle.dso_legal.specs.Lawful.{NodeFollows, ServerFollows}
use Rattle.dso_legal.proofs.channels.AfterEntry.{server_turn}
use Rattle.dso_gc_law.proofs.Known.{IsKnown, IsOfServer, StoredAreKnown}
use Rattle.dso_gc_law.proofs.server.Bodies.{stored_by}
use Rattle.dso_gc_law.proofs.server.Starts.{up_live}

module _ (p : Settings) (next : ThreadId → List Event → Option Request) (frames : ThreadId → List Event → List Value)
    (kept : ℕ → Bool) where
  module _ (e : Entry) (es : List Entry) (its : IsOfServer p next frames kept e es) (a b : ℕ) where
    abbrev server : List Entry
    server = entries_of Server es

    abbrev before : Option Body
    before = stored p.shape a (counted server)

    -- a message of a client that isn't lost was in flight
    by_input : (i : Input) → is_of_lost i server ≡ false → TakesFirst i Server es → ServerStepOn p i e server
        → body_names (by_taken_up (body_by a) i before) b ≡ true
        → (body_names before b ≡ true) ⊎ IsKnown p next frames kept es b
    by_input (input.TookUp c m) alive first step names = elim (stored_by b a c m before names) [
      | inl old ↦ inl old
      | inr new ↦ inr (inl (up_live p next frames kept c (its.living c step.its alive) es b m first new))
    ]
    by_input i alive first step names = inl names

    -- one of a lost client doesn't count
    by_loss : (lost : Bool) → is_of_lost e.input server ≡ lost
        → body_names (stored p.shape a (cond lost (counted server) (e ∷ counted server))) b ≡ true
        → (body_names before b ≡ true) ⊎ IsKnown p next frames kept es b
    by_loss true is names = inl names
    by_loss false is names =
        let rule : ServerFollows p next e es = subst (λ n. NodeFollows p next n e es) its.node its.follow.1.rule in
        by_input e.input is (subst (λ n. TakesFirst e.input n es) its.node its.follow.1.channels) rule.step names

  -- The server's bodies change by the records that it takes, which were in flight.
  pub stored_are_known : StoredAreKnown p next frames kept
  stored_are_known e es its a b names = by_loss e es its a b (is_of_lost e.input (entries_of Server es)) refl
      (subst (λ entries. body_names (stored p.shape a (counted entries)) b ≡ true)
      (server_turn 0 e es its.node).server names)
