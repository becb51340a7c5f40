use Rattle.std.proofs.Common.{sym, ◌∙◌, ap, true}
use Rattle.dso_txn.specs.Numbers.{numbers_in, with_number}
use Rattle.dso_client.proofs.sent.Parts.{sequences_sent}
use Rattle.dso_client.proofs.sent_record.count_record.Goals as goal

pub returns-clause-stands : goal.returns-clause-stands
returns-clause-stands c = λ clock act next at txn same h. sequences_sent clock act next at txn c.args.sequences.now c.add.new.self h
    (c.in_ok-add.ensures.ok ∙ ap (λ seq. with_number seq true (numbers_in c.args.sequences.now.unacked)) (sym same))
