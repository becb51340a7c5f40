use Rattle.std.proofs.Common.{◌≤◌, ◌^◌, ◌≡◌, refl, sym, ◌∙◌, ap, subst, length, arith}
use Rattle.dso_client.specs.Openings.{HasThreads, first_threads}
use Rattle.dso_client.specs.ThreadActs.{HoldsAtMost}
use Rattle.dso_log.specs.Logs.{last_clock}
use Rattle.dso_cell.specs.CellOpenings.{count_in, threads_in}
use Rattle.dso_cell.proofs.new_cells.FewThreads.{as_many_bodies, few_threads}
use Rattle.dso_cell.proofs.opening.Opening.client_cell.Goals as goal

pub overflow_cast-threads : goal.overflow_cast-threads
overflow_cast-threads c =
    let code = c.args.self.now.code.now in
    let count : c.thread_count-threads.result ≡ threads_in code c.args.number = c.thread_count-threads.ensures ∙ ap (count_in c.args.number) c.as_slice.ensures ∙ as_many_bodies c.args.number code.bodies in
    let few : c.thread_count-threads.result ≤ 16 = subst (λ n. n ≤ 16) (sym count) (few_threads code c.args.number (threads_in code c.args.number) c.requires.sound c.requires.threads) in
    omega (arith, few)

pub new-requires-clause-there : goal.new-requires-clause-there
new-requires-clause-there c =
    let code = c.args.self.now.code.now in
    let count : c.thread_count-threads.result ≡ threads_in code c.args.number = c.thread_count-threads.ensures ∙ ap (count_in c.args.number) c.as_slice.ensures ∙ as_many_bodies c.args.number code.bodies in
    subst (HasThreads code c.args.number) (sym count) c.requires.threads

pub returns-clause-new : goal.returns-clause-new
returns-clause-new c =
    let code = c.args.self.now.code.now in
    let count : c.thread_count-threads.result ≡ threads_in code c.args.number = c.thread_count-threads.ensures ∙ ap (count_in c.args.number) c.as_slice.ensures ∙ as_many_bodies c.args.number code.bodies in
    let log = sym c.new-log.ensures in
    record {
      number = refl;
      whole = refl;
      core = λ p shape resident threads. c.in_ok-core.ensures.stands p shape resident (threads ∙ ap (first_threads c.args.number) (sym count));
      log = c.new-log.ensures;
      rejoins = refl;
      port = c.requires.port;
      bounds = record {
        few = subst (λ log. length log.entries ≤ last_clock log) log (omega arith);
        within = subst (λ log. last_clock log ≤ 2 ^ 28) log (omega arith);
        runs = c.in_ok-core.ensures.runs;
        records = omega (arith, c.in_ok-core.ensures.records);
        holds = subst (λ log. HoldsAtMost (length log.entries) c.in_ok-core.core) log c.in_ok-core.ensures.holds;
        rejoined = omega arith;
      };
    }
