-- A client's loss in front of another client's line: the line stands behind it, and it makes no difference whether the loss comes
-- before the client's blocks or behind them.
use Rattle.std.specs.List.{AllByRecursion}
use Rattle.std.proofs.Common.{ℕ, ◌≡◌, ◌≢◌, refl, sym, ◌∙◌, ap, subst, List, [], ◌∷◌}
use Rattle.dso_base.specs.declared.message.Up.{Up}
use Rattle.dso_base.specs.declared.message.Up.TheVariants as up
use Rattle.dso_base.specs.declared.request.Event.{Event}
use Rattle.dso_base.specs.declared.shape.Shape.{Shape}
use Rattle.dso_plain.specs.State.{PlainState, level_of}
use Rattle.dso_plain.specs.History.{end_of}
use Rattle.dso_plain.specs.Loss.{AreApartFrom}
use Rattle.dso_plain.proofs.independence.RunsSwap.{ends_in_parts}
use Rattle.dso_plain.proofs.loss.RunsSurvive.{left, same_hold, loss}
use Rattle.dso_legal.specs.Line.{Standings, standings_up, HoldsWithin, Line}
use Rattle.dso_legal.specs.PendingBlocks.{joined}

-- The line stands behind the loss, and the client's blocks end where they did, with the loss behind them.
pub record LineSurvives (shape : Shape) (c d : ℕ) (ms : List Up) (blocks : List (List Event)) (st : Standings) (s : PlainState) : Type 0 where
  pub line : Line shape c ms blocks st (left d s)
  pub same : end_of shape (joined blocks) (left d s) ≡ left d (end_of shape (joined blocks) s)

module _ (shape : Shape) (c d : ℕ) (other : c ≢ d) where
  -- the client's threads hold what they held
  holds_still : (st : Standings) (s : PlainState) → HoldsWithin c st s → HoldsWithin c st (left d s)
  holds_still st s h t l x its held = h t l x its (sym (ap level_of (same_hold shape d s t (λ same. other (sym its ∙ same)) l)) ∙ held)

  -- A loss passes another client's line.
  pub line_survives : (ms : List Up) (blocks : List (List Event)) (st : Standings) (s : PlainState) → AllByRecursion (AreApartFrom d) blocks → Line shape c ms blocks st s → LineSurvives shape c d ms blocks st s
  line_survives [] [] st s apart h = record { line = holds_still st s h; same = refl }
  line_survives [] (block ∷ blocks) st s apart h = absurd h
  line_survives (up.Commit txn ∷ ms) [] st s apart h = absurd h
  line_survives (up.Commit txn ∷ ms) (block ∷ blocks) st s apart h =
      let one = loss shape d block s h.1.runs apart.0 in
      let rest = line_survives ms blocks st (end_of shape block s) apart.1 h.2 in
      record {
        line = (
          holds_still st s h.0,
          record { its = h.1.its; acts = h.1.acts; runs = one.still_runs; within = λ l x touched. h.1.within l x (one.touches l x touched) },
          subst (λ r. Line shape c ms blocks st r) (sym one.same_end) rest.line,
        );
        same = ends_in_parts shape block (joined blocks) (left d s) ∙ ap (λ r. end_of shape (joined blocks) r) one.same_end ∙ rest.same ∙ ap (left d) (sym (ends_in_parts shape block (joined blocks) s));
      }
  line_survives (m ∷ ms) blocks st s apart h =
      let rest = line_survives ms blocks (standings_up m st) s apart h.1 in
      record { line = (holds_still st s h.0, rest.line); same = rest.same }
