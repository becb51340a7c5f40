use Rattle.std.proofs.Common.{inl, inr, refl, sym, ◌∙◌}
use Rattle.dso_admission.proofs.admission.cut_off.Goals as goal

pub returns-then-is_lost-clause-cut : goal.returns-then-is_lost-clause-cut
returns-then-is_lost-clause-cut c = λ p es s. inl (sym (c.is_lost.ensures p es s) ∙ c.if-is_lost.true, (c.new.ensures.items, refl))

pub returns-clause-cut : goal.returns-clause-cut
returns-clause-cut c = λ p es s. inr (sym (c.is_lost.ensures p es s) ∙ c.if-is_lost.false, c.in_ok-messages.ensures.lost p es s)
