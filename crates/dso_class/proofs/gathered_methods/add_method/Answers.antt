use Rattle.dso_class.proofs.gathering.Multimap.{with_method, number_after}
use Rattle.dso_class.proofs.gathered_methods.add_method.Goals as goal

pub returns-clause-rows : goal.returns-clause-rows
returns-clause-rows c method before spelt class number takes are =
    with_method before c.args.rows.now c.push.new.rows method c.args.name c.args.declared.class c.args.declared.number c.args.declared.params spelt class number takes are c.in_ok-push.ensures

pub returns-clause-next : goal.returns-clause-next
returns-clause-next c method before number = number_after before method c.args.declared.number c.next-number.result number c.next-number.ensures
