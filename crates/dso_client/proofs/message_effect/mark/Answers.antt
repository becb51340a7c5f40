use Rattle.std.proofs.Common.{◌≡◌, ◌∙◌, sym, ap, suc, ◌-◌, arith}
use Rattle.std.proofs.lemmas.Option.{slice_get-get_or, slice_get_past}
use Rattle.dso_client.specs.ContextPlaces.{with_mark, marked_at}
use Rattle.dso_client.proofs.message_effect.mark.Goals as goal

pub returns-then-at-contexts : goal.returns-then-at-contexts
returns-then-at-contexts c =
    let n = c.args.index in
    let contexts = c.args.contexts.now in
    let not_none = c.if-index-eq0.false in
    let less = c.if-at-contexts.true in
    let same : suc (n - 1) ≡ n = omega (arith, not_none) in
    ap (λ found. marked_at (n - 1) found contexts) (sym (slice_get-get_or contexts (n - 1) c.index-contexts-at.result (omega (arith, less)))) ∙ ap (λ k. with_mark k contexts) same

pub returns-else-at-contexts : goal.returns-else-at-contexts
returns-else-at-contexts c =
    let n = c.args.index in
    let contexts = c.args.contexts.now in
    let not_none = c.if-index-eq0.false in
    let most = c.if-at-contexts.false in
    let same : suc (n - 1) ≡ n = omega (arith, not_none) in
    ap (λ found. marked_at (n - 1) found contexts) (sym (slice_get_past contexts (n - 1) (omega (arith, most)))) ∙ ap (λ k. with_mark k contexts) same
