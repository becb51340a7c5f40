use Rattle.dso_legal.proofs.examples.law_applies.Goals as goal
use Rattle.dso_legal.proofs.journals.Meets.{counter_meets, recall_meets, flush_meets, settling_meets, timed_out_here_meets, timed_out_there_meets, crossed_timeout_meets, lost_client_meets, lost_waiters_meets, settled_then_lost_meets}

pub returns-clause-counter : goal.returns-clause-counter
returns-clause-counter c = counter_meets

pub returns-clause-recall : goal.returns-clause-recall
returns-clause-recall c = recall_meets

pub returns-clause-flush : goal.returns-clause-flush
returns-clause-flush c = flush_meets

pub returns-clause-settling : goal.returns-clause-settling
returns-clause-settling c = settling_meets

pub returns-clause-timed_out_here : goal.returns-clause-timed_out_here
returns-clause-timed_out_here c = timed_out_here_meets

pub returns-clause-timed_out_there : goal.returns-clause-timed_out_there
returns-clause-timed_out_there c = timed_out_there_meets

pub returns-clause-crossed_timeout : goal.returns-clause-crossed_timeout
returns-clause-crossed_timeout c = crossed_timeout_meets

pub returns-clause-lost_client : goal.returns-clause-lost_client
returns-clause-lost_client c = lost_client_meets

pub returns-clause-lost_waiters : goal.returns-clause-lost_waiters
returns-clause-lost_waiters c = lost_waiters_meets

pub returns-clause-settled_then_lost : goal.returns-clause-settled_then_lost
returns-clause-settled_then_lost c = settled_then_lost_meets
