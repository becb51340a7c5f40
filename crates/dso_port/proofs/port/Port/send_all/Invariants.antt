use Rattle.std.proofs.Common.{◌≡◌, take}
use Rattle.dso_port.specs.Ports.{all_posted}
use Rattle.dso_port.proofs.port.Port.send_all.Given as goal

-- the messages so far were sent, and nothing else of the port changed
abbrev pub invariant-loop-message : goal.invariant-loop-message
invariant-loop-message g l = record {
  sent : l.self.session ≡ all_posted g.S.Carried.as_both l.clock (take l.message-index l.messages) l.initial.self.session;
  seen : l.self.session.seen ≡ l.initial.self.session.seen;
  out : l.self.out ≡ l.initial.self.out;
  into : l.self.into ≡ l.initial.self.into;
  late : l.self.late ≡ l.initial.self.late;
}
