use Rattle.std.proofs.Common.{sym, ◌∙◌, refl, rules}
use Rattle.dso_tokens.proofs.tokens.LiteralContent.{at_backslash, at_content, at_end}
use Rattle.dso_tokens.proofs.literal.content_at.Goals as goal

pub returns-clause-value : goal.returns-clause-value
returns-clause-value c =
    sym (c.loop-text.invariant.0 ∙ at_end c.loop-text.content c.loop-text.len c.loop-text.text.now c.loop-text.after_backslash c.in_default.len_below)

pub loop-text-preserved-in-Backslash : goal.loop-text-preserved-in-Backslash
loop-text-preserved-in-Backslash c = (
  c.loop-text.invariant.0
      ∙ at_backslash c.loop-text.content c.loop-text.len c.loop-text.text.now c.loop-text.after_backslash c.in-len1-up.len_at_least (sym c.in-Backslash.is ∙ c.literal_byte_of.ensures),
  search rules,
)

pub loop-text-preserved : goal.loop-text-preserved
loop-text-preserved c = (
  c.loop-text.invariant.0
      ∙ at_content c.loop-text.content c.loop-text.len c.loop-text.text.now c.loop-text.after_backslash c.in-len1-up.len_at_least (sym c.in-Content.is ∙ c.literal_byte_of.ensures)
      ∙ (rw c.in_ok-push-in-Content.ensures.ok refl),
  search rules,
)
