-- That the example journals are those of runs: each is lawful, since it is replayed, and the rest is computed.
use Rattle.std.proofs.Common.{refl}
use Rattle.dso_legal.specs.examples.Broken as broken
use Rattle.dso_legal.specs.examples.Counter as counter
use Rattle.dso_legal.specs.examples.Flush as flush
use Rattle.dso_legal.specs.examples.LostClient as lost
use Rattle.dso_legal.specs.examples.LostWaiters as lost_waiters
use Rattle.dso_legal.specs.examples.SettledThenLost as settled_then_lost
use Rattle.dso_legal.specs.examples.Recall as recall
use Rattle.dso_legal.specs.examples.Settling as settling
use Rattle.dso_legal.specs.examples.TimedOutHere as here
use Rattle.dso_legal.specs.examples.TimedOutThere as there
use Rattle.dso_legal.specs.examples.CrossedTimeout as crossed
use Rattle.dso_legal.specs.examples.Waiting as waiting
use Rattle.dso_legal.proofs.journals.Replay.{lawful_by_replay}

pub counter_runs : counter.CounterJournal
counter_runs = record { lawful = lawful_by_replay counter.settings counter.next counter.entries refl refl; finished = refl; opens = refl; commits = refl; weighs = refl }

pub recall_runs : recall.RecallJournal
recall_runs = record { lawful = lawful_by_replay recall.settings recall.next recall.entries refl refl; finished = refl; opens = refl; commits = refl; weighs = refl }

pub flush_runs : flush.FlushJournal
flush_runs = record { lawful = lawful_by_replay flush.settings flush.next flush.entries refl refl; finished = refl; opens = refl; commits = refl; weighs = refl }

pub waiting_runs : waiting.WaitingJournal
waiting_runs = record { lawful = lawful_by_replay waiting.settings waiting.next waiting.entries refl refl; finished = refl; opens = refl; commits = refl; weighs = refl }

pub timed_out_here_runs : here.TimedOutHereJournal
timed_out_here_runs = record { lawful = lawful_by_replay here.settings here.next here.entries refl refl; finished = refl; opens = refl; commits = refl; weighs = refl }

pub timed_out_there_runs : there.TimedOutThereJournal
timed_out_there_runs = record { lawful = lawful_by_replay there.settings there.next there.entries refl refl; finished = refl; opens = refl; commits = refl; weighs = refl }

pub crossed_timeout_runs : crossed.CrossedTimeoutJournal
crossed_timeout_runs = record { lawful = lawful_by_replay crossed.settings crossed.next crossed.entries refl refl; finished = refl; opens = refl; commits = refl; weighs = refl }

pub settling_runs : settling.SettlingJournal
settling_runs = record { lawful = lawful_by_replay settling.settings settling.next settling.entries refl refl; finished = refl; opens = refl; commits = refl; weighs = refl }

pub broken_runs : broken.BrokenJournal
broken_runs = record { lawful = lawful_by_replay broken.settings broken.next broken.entries refl refl; finished = refl; opens = refl; commits = refl; weighs = refl }

pub lost_client_runs : lost.LostClientJournal
lost_client_runs = record { lawful = lawful_by_replay lost.settings lost.next lost.entries refl refl; finished = refl; opens = refl; commits = refl; weighs = refl }

pub lost_waiters_runs : lost_waiters.LostWaitersJournal
lost_waiters_runs = record { lawful = lawful_by_replay lost_waiters.settings lost_waiters.next lost_waiters.entries refl refl; finished = refl; opens = refl; commits = refl; weighs = refl }

pub settled_then_lost_runs : settled_then_lost.SettledThenLostJournal
settled_then_lost_runs = record { lawful = lawful_by_replay settled_then_lost.settings settled_then_lost.next settled_then_lost.entries refl refl; finished = refl; opens = refl; commits = refl; weighs = refl }
