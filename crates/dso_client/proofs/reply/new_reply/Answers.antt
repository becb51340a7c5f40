use Rattle.std.proofs.Common.{sym, ◌∙◌, ap, arith, Some, option_map}
use Rattle.dso_base.specs.declared.request.Reply.TheVariants.{Made}
use Rattle.dso_client.proofs.contexts.NextIds.{next_there, next_gone}
use Rattle.dso_client.proofs.reply.new_reply.Goals as goal

pub returns-then-next-end-clause-next : goal.returns-then-next-end-clause-next
returns-then-next-end-clause-next c = λ at stands.
    ap (λ id. Some (Made id)) c.next-then-next-end.ensures
    ∙ ap (λ id. option_map Made id) (sym (next_there c.args.sequences.now.pool at.entries (stands.ids 0) (omega (arith, c.next.ensures, c.end.ensures))))

pub returns-else-next-end-clause-next : goal.returns-else-next-end-clause-next
returns-else-next-end-clause-next c = λ at stands.
    ap (λ id. option_map Made id) (sym (next_gone c.args.sequences.now.pool at.entries (stands.ids 0) (omega (arith, c.next.ensures, c.end.ensures))))
