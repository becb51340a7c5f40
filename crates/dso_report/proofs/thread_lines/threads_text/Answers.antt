use Rattle.dso_plain.specs.HeapTables.{state_of}
use Rattle.dso_report.proofs.texts.ThreadLines.{threads_more}
use Rattle.dso_report.proofs.thread_lines.threads_text.Goals as goal

-- a thread more
pub loop-thread-preserved : goal.loop-thread-preserved
loop-thread-preserved c =
    threads_more c.args.names.now (state_of c.args.plain.now) c.args.threads.now c.loop-thread.text.items c.push_thread.new.text.items c.loop-thread.thread-index _ c.standing_of-standing.result c.loop-thread-test.true c.loop-thread.invariant c.standing_of-standing.ensures c.in_ok-push_thread.ensures.written
