use Rattle.std.proofs.Common.{◌∙◌, ap}
use Rattle.dso_class.specs.Heads.{IsThreadNamed, thread_head}
use Rattle.dso_config_entries.specs.BorrowedWords.{words_of}
use Rattle.dso_class.specs.TextWalk.{IsToldOf, clients_in}
use Rattle.dso_class.proofs.rules.ComposingItems as judging
use Rattle.dso_class.proofs.walks.ThreadItems as laws
use Rattle.dso_class.proofs.thread.thread.Goals as goal

pub returns-in_err-thread : goal.returns-in_err-thread
returns-in_err-thread c source before set met =
    let e = c.in_err-thread.field-0.0 in
    judging.passed_on source before _ _ c.from_residual.result e c.from_residual.ensures
    (laws.told_of_head source before c.args.head.line c.args.head.number c.args.head.number_line c.args.statements.now e
    (c.in_err-thread.ensures source before set.config (ap clients_in c.as_slice.ensures ∙ met.threads)))

pub returns-in_err-body : goal.returns-in_err-body
returns-in_err-body c source before set met =
    let e = c.in_err-body.field-0.0 in
    let line = c.args.head.line in
    let number = c.args.head.number in
    let number_line = c.args.head.number_line in
    let named = c.in_ok-thread.ensures source before set.config (ap clients_in c.as_slice.ensures ∙ met.threads) in
    judging.passed_on source before _ _ c.from_residual-in_err-body.result e c.from_residual-in_err-body.ensures
    (laws.told_of_statements source before line number number_line c.args.statements.now _ (words_of c.args.resolved.now.texts) (words_of c.body_of.new.texts) e (laws.owner_is _ _ set.thread_class set.thread_method) named.fine
    (c.in_err-body.ensures.right source (laws.behind_head before line number number_line) (record { config = set.config; tables = set.tables }) (laws.body_begins before line number number_line) (laws.texts_met before line number number_line met)))

pub returns : goal.returns
returns c source before set met =
    let line = c.args.head.line in
    let number = c.args.head.number in
    let number_line = c.args.head.number_line in
    let named = c.in_ok-thread.ensures source before set.config (ap clients_in c.as_slice.ensures ∙ met.threads) in
    laws.thread_right source before line number number_line c.args.statements.now c.args.resolved.now c.as_slice.result.now c.in_ok-thread.thread _ c.body_of.new.texts c.in_ok-body.body c.push.new.self
    (laws.owner_is _ _ set.thread_class set.thread_method) c.as_slice.ensures met named
    (c.in_ok-body.ensures.right source (laws.behind_head before line number number_line) (record { config = set.config; tables = set.tables }) (laws.body_begins before line number number_line) (laws.texts_met before line number number_line met))
    c.in_ok-push.ensures.ok
