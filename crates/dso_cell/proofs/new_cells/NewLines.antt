-- Ends of connections before the first entry of their nodes.
use Rattle.std.proofs.Common.{ℕ, sym, ◌∙◌, ap, [], arith}
use Rattle.std.proofs.lemmas.List.{drop_all}
use Rattle.dso_base.specs.declared.message.Down.{Down}
use Rattle.dso_base.specs.declared.message.Up.{Up}
use Rattle.dso_session.specs.declared.session.Role.{Role}
use Rattle.dso_session.specs.declared.session.Role.TheVariants as role
use Rattle.dso_port.specs.Ports.{IsNew, PortState, owed}
use Rattle.dso_line.specs.Lines.{ClientLineStands, EndStands, ServerLineStands, Way, down_way, up_way}

module _ {S T : Type 0} (own : Way S) (other : Way T) (end : Role) (port : PortState S T) (new : IsNew end port) where
  -- a new end stands for no entries
  new_end : EndStands own other end [] [] 0 0 port
  new_end = record {
    role = ap (λ session. session.role) new.session;
    accepted = ap (λ session. session.accepted) new.session;
    sends = record {
      sent = record { seen = omega (arith, ap (λ session. session.seen) new.session); kept = ap (λ session. session.kept) new.session ∙ sym (drop_all port.session.seen [] (omega arith)) };
      gave = record {
        frames = [];
        spelled = record { grammar = tt; bytes = new.gave };
        carry = tt;
        greets = omega (arith, ap (λ session. owed session) new.session);
      };
    };
    took = record {
      frames = [];
      spelled = record { grammar = tt; bytes = new.took };
      takes = tt;
      greets = omega arith;
    };
  }

pub new_client_line : (c : ℕ) (port : PortState Up Down) → IsNew role.Client port → ClientLineStands c [] port
new_client_line c port new = new_end (up_way c) (down_way c) role.Client port new

pub new_server_line : (c : ℕ) (port : PortState Down Up) → IsNew role.Server port → ServerLineStands c [] port
new_server_line c port new = record {
  end = new_end (down_way c) (up_way c) role.Server port new;
  epoch = ap (λ session. session.epoch) new.session;
  ready = ap (λ session. session.is_ready) new.session;
}
