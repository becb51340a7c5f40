use Rattle.std.proofs.Common.{sym, ◌∙◌, ◌&&◌}
use Rattle.std.specs.List.{list_any}
use Rattle.dso_law.specs.Closing.{admits}
use Rattle.dso_law.specs.Leases.{leased}
use Rattle.dso_law.specs.RequestNeeds.{NeedsLease, NeedsOthersOut, is_enough, is_in_conflict}
use Rattle.dso_law.specs.Settings.{threads_of}
use Rattle.dso_client.proofs.lock_standing.Rivals.{first_rival, none_rivals}
use Rattle.dso_client.proofs.objects.Found.{none_any, one_any}
use Rattle.dso_client.proofs.replies.TwoNeeds.{both_met, lease_unmet, second_unmet}
use Rattle.dso_client.proofs.standing.Parts.{parts_of}
use Rattle.dso_client.proofs.unmet_need.entry_unmet_need.Goals as goal

pub returns-then-not-admits : goal.returns-then-not-admits
returns-then-not-admits c = λ at stands.
    let l = c.args.wanted.lock in
    let level = c.args.wanted.level in
    record {
      is = lease_unmet (is_enough level (leased l at.entries) && admits at.settings at.client at.next l at.entries)
          (list_any (is_in_conflict at.settings at.client at.next c.args.wanted.thread l level at.entries) (threads_of at.settings at.client))
          (NeedsLease l level) (NeedsOthersOut l) (sym (c.admits.ensures at (parts_of at c.args.kept.now stands)) ∙ c.if-not-admits.true);
      named = tt;
    }

pub returns-in-Some : goal.returns-in-Some
returns-in-Some c = λ at stands.
    let t = c.args.wanted.thread in
    let l = c.args.wanted.lock in
    let level = c.args.wanted.level in
    let rival = is_in_conflict at.settings at.client at.next t l level at.entries in
    let found = first_rival at c.args.kept.now stands t l level c.in-Some.other c.in-Some.ensures.first in
    record {
      is = second_unmet (is_enough level (leased l at.entries) && admits at.settings at.client at.next l at.entries) (list_any rival (threads_of at.settings at.client))
          (NeedsLease l level) (NeedsOthersOut l) (sym (c.admits.ensures at (parts_of at c.args.kept.now stands)) ∙ c.if-not-admits.false)
          (one_any rival (threads_of at.settings at.client) c.in-Some.other found);
      named = found;
    }

pub returns-in-None : goal.returns-in-None
returns-in-None c = λ at stands.
    let t = c.args.wanted.thread in
    let l = c.args.wanted.lock in
    let level = c.args.wanted.level in
    let rival = is_in_conflict at.settings at.client at.next t l level at.entries in
    record {
      is = both_met (is_enough level (leased l at.entries) && admits at.settings at.client at.next l at.entries) (list_any rival (threads_of at.settings at.client))
          (NeedsLease l level) (NeedsOthersOut l) (sym (c.admits.ensures at (parts_of at c.args.kept.now stands)) ∙ c.if-not-admits.false)
          (none_any rival (threads_of at.settings at.client) (none_rivals at c.args.kept.now stands t l level c.in-None.ensures.none));
      named = tt;
    }
