use Rattle.std.proofs.Common.{ℕ, ◌≤◌, ◌-◌, ◌^◌, arith}
use Rattle.dso_client.specs.ThreadActs.{HoldsAtMost}
use Rattle.dso_client.specs.declared.client_state.ClientState.{ClientState}
use Rattle.cluster_cases.specs.Driving.{Goes}
use Rattle.cluster_cases.proofs.Going.{after_act, anyway}
use Rattle.cluster_cases.proofs.driven.Driven.act.Goals as goal

-- what is no more than some is no more than more
more : (few most : ℕ) (kept : ClientState) → few ≤ most → HoldsAtMost few kept → HoldsAtMost most kept
more few most kept less holds = record {
  held = λ t l. let h = holds.held t l in omega (arith, less, h);
  waiting = λ index. let h = holds.waiting index in omega (arith, less, h);
}

pub act-requires-clause-few : goal.act-requires-clause-few
act-requires-clause-few c = λ whole.
    let sent = c.requires.goes.records in
    let few = c.requires.goes.few in
    omega (arith, sent, few)

pub act-requires-clause-counts : goal.act-requires-clause-counts
act-requires-clause-counts c = λ whole.
    let few = c.requires.goes.few in
    more c.args.self.now.acts (2 ^ 32 - 2) c.args.self.now.client (omega (arith, few)) c.requires.goes.holds

pub returns : goal.returns
returns c =
    anyway c.acted.result (Goes c.args.code.now c.acted.new.self) (c.acted.ensures c.args.code.now
    (after_act c.args.code.now c.args.self.now c.act.new.self c.if-self-eq-MOST_ACTS.false c.in_ok-acted.ensures.runs c.in_ok-acted.ensures.holds c.in_ok-acted.ensures.records c.requires.goes))
