use Rattle.std.proofs.Common.{rules, ◌≤◌, length, ◌+◌, sym, subst, ◌∙◌}
use Rattle.dso_tokens.proofs.tokens.Lexing.{Going, gap_goes, token_takes, part, part_shorter, going_gap, going_token, going_ends, going_bad_byte, going_bad_token}
use Rattle.dso_tokens.proofs.lex.tokens_of.Goals as goal

pub returns-in-End : goal.returns-in-End
returns-in-End c = going_ends _ _ _ _ _ c.loop-tokens.invariant (sym c.in-End.is ∙ c.in_ok-len.ensures)

pub returns-in-BadByte : goal.returns-in-BadByte
returns-in-BadByte c = going_bad_byte _ _ _ _ _ c.loop-tokens.invariant (sym c.in-BadByte.is ∙ c.in_ok-len.ensures)

pub returns-in-BadToken : goal.returns-in-BadToken
returns-in-BadToken c = going_bad_token _ _ _ _ _ c.loop-tokens.invariant (sym c.in-BadToken.is ∙ c.in_ok-len.ensures)

pub slice_bounds-rest-count : goal.slice_bounds-rest-count
slice_bounds-rest-count c = (gap_goes c.loop-tokens.rest.now c.in-Gap.len (sym c.in-Gap.is ∙ c.in_ok-len.ensures)).1

pub slice_bounds-rest-start : goal.slice_bounds-rest-start
slice_bounds-rest-start c = (gap_goes c.loop-tokens.rest.now c.in-Gap.len (sym c.in-Gap.is ∙ c.in_ok-len.ensures)).1

pub overflow_add-place : goal.overflow_add-place
overflow_add-place c =
    let within : c.in-Gap.len ≤ length c.loop-tokens.rest.now = (gap_goes c.loop-tokens.rest.now c.in-Gap.len (sym c.in-Gap.is ∙ c.in_ok-len.ensures)).1 in
    search (rules, within, c.loop-tokens.invariant.places)

pub loop-tokens-smaller-in-Gap : goal.loop-tokens-smaller-in-Gap
loop-tokens-smaller-in-Gap c = part_shorter c.in-Gap.len c.loop-tokens.rest.now (gap_goes c.loop-tokens.rest.now c.in-Gap.len (sym c.in-Gap.is ∙ c.in_ok-len.ensures))

pub loop-tokens-preserved-in-Gap : goal.loop-tokens-preserved-in-Gap
loop-tokens-preserved-in-Gap c =
    subst (λ l. Going c.args.text.now c.loop-tokens.tokens (c.loop-tokens.place + c.in-Gap.len) l (part c.in-Gap.len c.loop-tokens.rest.now)) (sym c.line_after-line.ensures)
    (going_gap _ _ _ _ c.loop-tokens.rest.now c.in-Gap.len c.loop-tokens.invariant (sym c.in-Gap.is ∙ c.in_ok-len.ensures))

pub slice_bounds-rest-count-in-Token : goal.slice_bounds-rest-count-in-Token
slice_bounds-rest-count-in-Token c = (token_takes c.loop-tokens.rest.now c.in-Token.form c.in-Token.len (sym c.in-Token.is ∙ c.in_ok-len.ensures)).1

pub slice_bounds-rest-start-in-Token : goal.slice_bounds-rest-start-in-Token
slice_bounds-rest-start-in-Token c = (token_takes c.loop-tokens.rest.now c.in-Token.form c.in-Token.len (sym c.in-Token.is ∙ c.in_ok-len.ensures)).1

pub overflow_add-place-in-Token : goal.overflow_add-place-in-Token
overflow_add-place-in-Token c =
    let within : c.in-Token.len ≤ length c.loop-tokens.rest.now = (token_takes c.loop-tokens.rest.now c.in-Token.form c.in-Token.len (sym c.in-Token.is ∙ c.in_ok-len.ensures)).1 in
    search (rules, within, c.loop-tokens.invariant.places)

pub loop-tokens-smaller : goal.loop-tokens-smaller
loop-tokens-smaller c = part_shorter c.in-Token.len c.loop-tokens.rest.now (token_takes c.loop-tokens.rest.now c.in-Token.form c.in-Token.len (sym c.in-Token.is ∙ c.in_ok-len.ensures))

pub loop-tokens-preserved : goal.loop-tokens-preserved
loop-tokens-preserved c =
    subst (λ ts. Going c.args.text.now ts (c.loop-tokens.place + c.in-Token.len) c.loop-tokens.line (part c.in-Token.len c.loop-tokens.rest.now)) (sym c.in_ok-push-in-Token.ensures.ok)
    (going_token _ _ _ _ c.loop-tokens.rest.now c.in-Token.form c.in-Token.len c.loop-tokens.invariant (sym c.in-Token.is ∙ c.in_ok-len.ensures))
