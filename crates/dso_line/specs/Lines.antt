-- What the end of a connection says of the log of its node. Entries stand with the newest first.
use Rattle.std.specs.Prelude.{ℕ, ◌≡◌, List, not}
use Rattle.dso_base.specs.declared.both.Both.{Both}
use Rattle.dso_base.specs.declared.both.Both.TheVariants as both
use Rattle.dso_base.specs.declared.journal.Entry.{Entry}
use Rattle.dso_base.specs.declared.message.Down.{Down}
use Rattle.dso_base.specs.declared.message.Up.{Up}
use Rattle.dso_law.specs.Channels.{Direction, breaks, count_inputs, is_broken, rejoins, to_client, to_server}
use Rattle.dso_session.specs.declared.frame.Frame.{Frame}
use Rattle.dso_session.specs.declared.session.Role.{Role}
use Rattle.dso_session.specs.declared.session.Role.TheVariants as role
use Rattle.dso_wire.specs.Cells.{Cell}
use Rattle.dso_wire.specs.Spelling.{IsDown, IsFrame, IsUp, down_frame_cells, up_frame_cells}
use Rattle.dso_port.specs.Ports.{EndGave, PortState, given, taken}
use Rattle.dso_line.specs.Ways.{TookFromRing, posts_of}

-- One way of a connection: its messages as messages of either way, how their frames are spelled, and its direction.
pub record Way (M : Type 0) : Type 1 where
  pub as_both : M → Both
  pub cells : Frame M → List Cell
  pub is : Frame M → Type 0
  pub direction : Direction M

-- from client c to the server
abbrev pub up_way : ℕ → Way Up
up_way c = record { as_both = both.Up; cells = up_frame_cells; is = IsFrame IsUp; direction = to_server c }

-- from the server to client c
abbrev pub down_way : ℕ → Way Down
down_way c = record { as_both = both.Down; cells = down_frame_cells; is = IsFrame IsDown; direction = to_client c }

module _ {S T : Type 0} (own : Way S) (other : Way T) where
  -- The end of this role sent what some entries send, and of its frames no more Hellos than it was to greet; it
  -- accepted as many messages as these entries take, each from one of the frames that it took, and took as many
  -- Hellos at least as it was greeted.
  pub record EndStands (end : Role) (sent es : List Entry) (greetings greeted : ℕ) (port : PortState S T)
      : Type 0 where
    pub role : port.session.role ≡ end
    pub accepted : port.session.accepted ≡ count_inputs other.direction.takes es
    pub sends : EndGave own.as_both own.cells own.is (posts_of own.direction sent) greetings port.session
        (given port.out)
    pub took : TookFromRing other.cells other.is other.direction es greeted (taken port.into)

-- The end of client c stands for the client's log: it greeted as often as the client rejoined, and was greeted so.
abbrev pub ClientLineStands : ℕ → List Entry → PortState Up Down → Type 0
ClientLineStands c es port = EndStands (up_way c) (down_way c) role.Client es es (count_inputs (rejoins c) es)
    (count_inputs (rejoins c) es) port

-- The server's end of client c's connection stands for the server's log: it greeted as often as the connection broke,
-- and was greeted as often as it was taken up; its epoch counts the breaks, and it is ready where the connection
-- isn't broken.
pub record ServerLineStands (c : ℕ) (es : List Entry) (port : PortState Down Up) : Type 0 where
  pub end : EndStands (down_way c) (up_way c) role.Server es es (count_inputs (breaks c) es)
      (count_inputs (rejoins c) es) port
  pub epoch : port.session.epoch ≡ count_inputs (breaks c) es
  pub ready : port.session.is_ready ≡ not (is_broken c es)
