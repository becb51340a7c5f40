-- The logs of a lawful journal are in order.
use Rattle.std.proofs.Common.{ℕ, ◌≡◌, refl, sym, ap, subst, Bool, true, false, cond, Option, List, [], ◌∷◌}
use Rattle.dso_base.specs.declared.journal.Entry.{Entry}
use Rattle.dso_base.specs.declared.journal.Input.{Input}
use Rattle.dso_base.specs.declared.journal.Input.TheVariants as input
use Rattle.dso_base.specs.declared.journal.Node.{Node}
use Rattle.dso_base.specs.declared.journal.Node.TheVariants.{Server, Client}
use Rattle.dso_base.specs.declared.lock.ThreadId.{ThreadId}
use Rattle.dso_base.specs.declared.message.Up.{Up}
use Rattle.dso_base.specs.declared.request.Request.{Request}
use Rattle.dso_plain.proofs.keys.SameKeys.{same_number}
use Rattle.dso_law.specs.ClientStep.{ClientStepOn}
use Rattle.dso_law.specs.Entries.{entries_of, is_node}
use Rattle.dso_law.specs.FitsUp.{FitsUp}
use Rattle.dso_law.specs.ServerReadings.{counted, is_lost}
use Rattle.dso_law.specs.ServerStep.{HeardOrLost, ServerStepOn}
use Rattle.dso_law.specs.Settings.{Settings}
use Rattle.dso_legal.specs.Lawful.{AllFollow, NodeFollows, next_after}
use Rattle.dso_machine.specs.declared.code.Code.{Code}
use Rattle.dso_machine.specs.Next.{next_request}
use Rattle.dso_machine.specs.Sound.{IsSoundCode}
use Rattle.dso_client.specs.ClientStands.{point}
use Rattle.dso_client.specs.RunFacts.{SizesAreKept}
use Rattle.dso_world.proofs.premises.Sizes.{sizes_are_kept}
use Rattle.dso_cell.specs.Logs.{FitsLog, LogIsInOrder}

module _ (code : Code) (sound : IsSoundCode code) (p : Settings) (shaped : p.shape ≡ code.shape) where
  heard_fits : (c : ℕ) (m : Up) (lost : Bool) (e : Entry) (es : List Entry) → HeardOrLost p c m lost e (counted es) → lost ≡ false → FitsUp p c m (counted es)
  heard_fits c m true e es heard is = absurd (cc is)
  heard_fits c m false e es heard is = heard.fits

  server_fits : (i : Input) (e : Entry) (es : List Entry) → ServerStepOn p i e es → FitsLog code p Server i es
  server_fits (input.TookUp c m) e es step = heard_fits c m (is_lost c es) e es step.heard
  server_fits (input.Lose c) e es step = tt
  server_fits (input.Break c) e es step = tt
  server_fits (input.Rejoin c) e es step = tt
  server_fits (input.Act index) e es step = tt
  server_fits (input.TookDown m) e es step = tt
  server_fits (input.Flush o) e es step = tt

  client_fits : (c : ℕ) (i : Input) (before after : ThreadId → Option Request) (e : Entry) (es : List Entry) → SizesAreKept (point code p c es) → ClientStepOn p c i before after e es → FitsLog code p (Client c) i es
  client_fits c (input.TookDown m) before after e es its step = step.fits
  client_fits c (input.TookUp d m) before after e es its step = tt
  client_fits c (input.Act index) before after e es its step = its
  client_fits c (input.Flush o) before after e es its step = tt
  client_fits c (input.Lose d) before after e es its step = tt
  client_fits c (input.Break d) before after e es its step = tt
  client_fits c (input.Rejoin d) before after e es its step = tt

  -- an entry of the node takes what fits
  taken_fits : (node : Node) (e : Entry) (es : List Entry) → AllFollow p (next_request code) es → NodeFollows p (next_request code) node e es → FitsLog code p node e.input (entries_of node es)
  taken_fits Server e es before follows = server_fits e.input e (entries_of Server es) follows.step
  taken_fits (Client c) e es before follows = client_fits c e.input (next_after (next_request code) es) (next_after (next_request code) (e ∷ es)) e (entries_of (Client c) es) (sizes_are_kept code sound p shaped es before c) follows.step

  same_node : (node other : Node) → is_node node other ≡ true → node ≡ other
  same_node Server Server is = refl
  same_node Server (Client d) is = absurd (cc is)
  same_node (Client c) Server is = absurd (cc is)
  same_node (Client c) (Client d) is = ap Client (same_number c d is)

  pub in_order : (node : Node) (es : List Entry) → AllFollow p (next_request code) es → LogIsInOrder code p node (entries_of node es)
  in_order node [] follow = tt
  in_order node (e ∷ es) follow = by (is_node node e.node) refl (in_order node es follow.0)
    where
      by : (its : Bool) → is_node node e.node ≡ its → LogIsInOrder code p node (entries_of node es) → LogIsInOrder code p node (cond its (e ∷ entries_of node es) (entries_of node es))
      by false is before = before
      by true is before = (before, taken_fits node e es follow.0 (subst (λ n. NodeFollows p (next_request code) n e es) (sym (same_node node e.node is)) follow.1.rule))
