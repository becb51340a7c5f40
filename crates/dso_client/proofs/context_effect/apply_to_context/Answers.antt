use Rattle.std.proofs.Common.{refl, sym, subst}
use Rattle.dso_client.specs.declared.thread_context.ThreadContext.{ThreadContext}
use Rattle.dso_client.specs.ContextEffects.{AppliesTo}
use Rattle.dso_client.proofs.context_effect.apply_to_context.Goals as goal

pub returns : goal.returns
returns c = λ index.
    let old = c.args.context.now in
    let mid = c.apply_to_own.new.context in
    let is_marked = c.marked_after-is_marked.result in
    let own = c.apply_to_own.ensures in
    let applies : AppliesTo c.args.lock_state.now c.args.act index old (record old { seen = mid.seen; waiting = mid.waiting; is_marked = is_marked }) = record {
      rest = λ clock at _ h r. record {
        next = r.next;
        seen = own.seen clock at r;
        waiting = own.waiting clock at h r;
        marked = c.marked_after-is_marked.ensures clock at h r.marked;
        last = r.last;
      };
      runs = refl;
      privates = refl;
      block = refl;
      waits = own.most;
    } in
    subst (λ (context : ThreadContext). AppliesTo c.args.lock_state.now c.args.act index old (record context { is_marked = is_marked })) (sym own.rest) applies
