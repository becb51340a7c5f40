use Rattle.std.proofs.Common.{rules, ◌≡◌, ◌∙◌, ◌+◌, suc, ap, Some, arith}
use Rattle.std.specs.Option.{unwrap_or}
use Rattle.dso_legal.specs.JournalPass.{with_count}
use Rattle.dso_legal.specs.JournalPassTables.{thread_state_in}
use Rattle.dso_legal.proofs.threads.ThreadState.enter.Goals as goal

pub returns : goal.returns
returns c =
    let state = thread_state_in c.args.self.now in
    let same : c.unwrap_or-count.result ≡ unwrap_or (state.counts c.args.lock) 0 = search rules in
    let more : c.unwrap_or-count.result + 1 ≡ suc (unwrap_or (state.counts c.args.lock) 0) = omega arith in
    c.in_ok-hold.ensures ∙ ap (λ n. record state { counts = with_count c.args.lock (Some n) state.counts }) more
