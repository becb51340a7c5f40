-- A client that is driven goes on.
use Rattle.std.proofs.Common.{◌≡◌, ◌≢◌, ℕ, suc, ◌+◌, ◌≤◌, subst, sym, arith}
use Rattle.std.specs.Prelude.{Result, Ok, Err, OnOk}
use Rattle.dso_client.specs.ClientViews.{records_sent}
use Rattle.dso_client.specs.ThreadActs.{HoldsAtMost}
use Rattle.dso_client.specs.CodeRuns.{RunsCode}
use Rattle.dso_client.specs.declared.client_state.ClientState.{ClientState}
use Rattle.dso_machine.specs.declared.code.Code.{Code}
use Rattle.cluster_cases.specs.Driving.{Goes}
use Rattle.cluster_cases.specs.declared.driven.Driven.{Driven}

-- with a client that holds no more and sent no more records
pub with_client : (code : Code) (driven : Driven) (kept : ClientState) → (RunsCode code driven.client → RunsCode code kept)
    → ((most : ℕ) → HoldsAtMost most driven.client → HoldsAtMost most kept) → records_sent kept ≡ records_sent driven.client
    → Goes code driven → Goes code (record driven { client = kept })
with_client code driven kept runs holds same goes = record {
  runs = runs goes.runs;
  holds = holds driven.acts goes.holds;
  records = subst (λ n. n ≤ driven.acts) (sym same) goes.records;
  few = goes.few;
}

-- with one more act
pub after_act : (code : Code) (driven : Driven) (kept : ClientState) → driven.acts ≢ 1000000 → RunsCode code kept
    → ((most : ℕ) → HoldsAtMost most driven.client → HoldsAtMost (suc most) kept) → records_sent kept ≤ records_sent driven.client + 1
    → Goes code driven → Goes code (record driven { client = kept; acts = driven.acts + 1 })
after_act code driven kept more runs holds records goes = record {
  runs = runs;
  holds = subst (λ n. HoldsAtMost n kept) one (holds driven.acts goes.holds);
  records = let sent = goes.records in omega (arith, records, sent);
  few = let few = goes.few in omega (arith, more, few);
}
  where
    one : suc driven.acts ≡ driven.acts + 1
    one = omega arith

-- what holds anyway holds where there is an answer
pub anyway : {A E : Type 0} (result : Result A E) (claim : Type 0) → claim → OnOk result claim
anyway (Ok a) claim h = h
anyway (Err e) claim h = tt
