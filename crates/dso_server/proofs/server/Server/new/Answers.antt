use Rattle.std.proofs.Common.{ap, map, ◌∙◌}
use Rattle.dso_base.specs.Following.{is_thread}
use Rattle.dso_machine.specs.declared.code.ThreadBody.{ThreadBody}
use Rattle.std.proofs.Math.Path.{fun_ext}
use Rattle.std.specs.BTreeMap.{is_at}
use Rattle.std.specs.List.{list_any}
use Rattle.std.specs.Ordering.{nat_cmp}
use Rattle.dso_server.specs.Threads.{threads_in}
use Rattle.dso_server.proofs.standing.Opening.{opening_body, stands_opening}
use Rattle.dso_server.proofs.server.Server.new.Goals as goal

pub returns-clause-stands : goal.returns-clause-stands
returns-clause-stands c = λ p ps pt pc. stands_opening p c.args.code.now.shape (threads_in c.args.code.now) _ ps pt (fun_ext (λ d. ap (λ ks. list_any (is_at (nat_cmp d)) ks) c.new-2.ensures.empty)) c.new-3.ensures c.in_ok-store.ensures.bodies c.in_ok-store.ensures.holds c.in_ok-store.ensures.last c.new-4.ensures.locks c.new-4.ensures.requested c.new-5.ensures.empty (c.in_ok-threads.ensures.known ∙ ap (λ ts t. list_any (is_thread t) ts) (c.as_slice-2.ensures.value ∙ c.in_ok-listed.ensures ∙ ap (map (λ (body : ThreadBody). body.thread)) c.as_slice.ensures)) c.in_ok-threads.ensures.last

pub returns-clause-lacks : goal.returns-clause-lacks
returns-clause-lacks c = λ p ps. opening_body p c.args.code.now.shape c.in_ok-store.store ps c.in_ok-store.ensures.bodies
