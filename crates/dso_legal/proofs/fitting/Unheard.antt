-- A message of a lost client changes nothing and is answered by nothing.
use Rattle.std.proofs.Common.{ℕ, ◌≡◌, refl, ◌∙◌, ap, subst, true, List, [], ◌∷◌, ◌++◌}
use Rattle.std.proofs.lemmas.List.{append-nil}
use Rattle.dso_base.specs.declared.journal.Entry.{Entry}
use Rattle.dso_base.specs.declared.journal.Input.TheVariants as input
use Rattle.dso_base.specs.declared.journal.Node.TheVariants.{Server}
use Rattle.dso_base.specs.declared.message.Up.{Up}
use Rattle.dso_base.specs.declared.message.Up.TheVariants as up
use Rattle.dso_law.specs.Entries.{entries_of}
use Rattle.dso_law.specs.ServerReadings.{is_lost, is_of_lost, counted}
use Rattle.dso_legal.specs.Committed.{block_taken, committed_by, committed_at, committed}
use Rattle.dso_legal.specs.Lawful.{ServerFollows, NodeFollows}
use Rattle.dso_legal.specs.LostClients.{LostAreUnheard}
use Rattle.dso_legal.proofs.channels.AfterEntry.{server_turn}
use Rattle.dso_legal.proofs.leases.LeaseSteps.{if_true}
use Rattle.dso_legal.proofs.records.BothEnds.{skipped_silent}

-- it gives the history nothing
gives_none : (c : ℕ) (m : Up) (es : List Entry) → is_lost c (entries_of Server es) ≡ true → committed_by (input.TookUp c m) es ≡ []
gives_none c (up.Commit txn) es lost = if_true (is_lost c (entries_of Server es)) [] (block_taken c txn.seq es) lost
gives_none c m es lost = refl

pub lost_are_unheard : LostAreUnheard
lost_are_unheard p next e es follow at c m is lost =
    let rule : ServerFollows p next e es = subst (λ n. NodeFollows p next n e es) at follow.1.rule in
    let skipped : is_of_lost e.input (entries_of Server es) ≡ true = ap (λ i. is_of_lost i (entries_of Server es)) is ∙ lost in
    record {
      silent = skipped_silent p e (entries_of Server es) e.input rule.step skipped;
      readings = ap counted (server_turn 0 e es at).server ∙ if_true (is_of_lost e.input (entries_of Server es)) (counted (entries_of Server es)) (e ∷ counted (entries_of Server es)) skipped;
      history = ap (λ more. committed es ++ more) (ap (λ n. committed_at n e.input es) at ∙ ap (λ i. committed_by i es) is ∙ gives_none c m es lost) ∙ append-nil (committed es);
    }
