use Rattle.std.proofs.Common.{sym, ◌∙◌, ap, Some, option_map}
use Rattle.dso_base.specs.declared.request.Reply.TheVariants.{Seen}
use Rattle.dso_client.proofs.objects.KnownObjects.{size_fits}
use Rattle.dso_client.proofs.reply.look_reply.Goals as goal

pub returns-clause-known : goal.returns-clause-known
returns-clause-known c = λ at h sizes.
    let known = c.in_ok-class.ensures.known at h in
    let fits = size_fits at c.args.table.now c.args.context.now c.args.object c.in_ok-class.class c.in_ok-class.size h sizes (sym known) in
    ap (λ size. Some (Seen c.in_ok-class.class size)) (c.told_size.ensures fits) ∙ ap (option_map (λ class. Seen class.0 class.1)) known
