-- What the entries of a run keep, all together.
use Rattle.std.proofs.Common.{ℕ, Option, List}
use Rattle.dso_base.specs.declared.journal.Entry.{Entry}
use Rattle.dso_base.specs.declared.lock.ThreadId.{ThreadId}
use Rattle.dso_base.specs.declared.request.Event.{Event}
use Rattle.dso_base.specs.declared.request.Request.{Request}
use Rattle.dso_law.specs.Settings.{Settings}
use Rattle.dso_law.specs.ClientRun.{ClientRun, next_in}
use Rattle.dso_law.proofs.runs.Numbers.{records_are_numbered}
use Rattle.dso_legal.proofs.runs.ChangesResident.{changes_stay_resident}
use Rattle.dso_legal.proofs.runs.HandsInRuns.{hands_are_once}
use Rattle.dso_client.specs.RunFacts.{RunFacts}
use Rattle.dso_client.proofs.facts.Apart.{leased_unasked}
use Rattle.dso_client.proofs.facts.Counts.{counted_in_runs}
use Rattle.dso_client.proofs.facts.Once.{work_is_once}
use Rattle.dso_client.proofs.facts.Settled.{settled_by_last}
use Rattle.dso_client.proofs.facts.Strangers.{does_nothing}

pub run_facts : (p : Settings) (c : ℕ) (next : ThreadId → List Event → Option Request) (es : List Entry) → ClientRun p c next es
    → RunFacts (record { settings = p; client = c; next = next_in next es; entries = es })
run_facts p c next es run = record {
  apart = λ l there. leased_unasked l p c next es run there;
  settled = λ t. settled_by_last p c next es run t;
  numbered = records_are_numbered p c next es run;
  strangers = λ t stranger. (does_nothing p c t stranger next es run).block;
  waitless = λ t stranger. (does_nothing p c t stranger next es run).waitless;
  unwanted = λ t o stranger mine. (does_nothing p c t stranger next es run).unwanted o mine;
  holdless = λ t stranger. (does_nothing p c t stranger next es run).holdless;
  counted = λ t l. (counted_in_runs t p c next es run).held l;
  owed = λ t. (counted_in_runs t p c next es run).waiting;
  once = λ t. work_is_once p t es (hands_are_once p c next es run t);
  changed = λ t o set. (changes_stay_resident p c next es run).in_block t o set;
}
