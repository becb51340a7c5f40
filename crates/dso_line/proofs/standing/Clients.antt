-- How a client's end of its connection goes on standing for the client's log.
use Rattle.std.proofs.Common.{ℕ, suc, ◌+◌, ◌≡◌, sym, ◌∙◌, ap, subst, false, true, cond, max, Some, List, ◌∷◌, map, arith}
use Rattle.dso_base.specs.declared.both.Both.TheVariants as both
use Rattle.dso_base.specs.declared.journal.Entry.{Entry}
use Rattle.dso_base.specs.declared.journal.Sent.TheVariants.{ToServer}
use Rattle.dso_base.specs.declared.message.Down.{Down}
use Rattle.dso_base.specs.declared.message.Up.{Up}
use Rattle.dso_law.specs.Channels.{count_inputs, message_to_client, rejoins, takes_down, to_client, to_server}
use Rattle.dso_session.specs.declared.frame.Frame.{Frame}
use Rattle.dso_session.specs.declared.session.Role.TheVariants as role
use Rattle.dso_wire.specs.Spelling.{IsDown, IsFrame, IsUp, down_frame_cells, up_frame_cells}
use Rattle.dso_port.specs.Frames.{TookOne}
use Rattle.dso_port.specs.Ports.{HasGiven, PortState, TookFrame, all_posted, given, taken}
use Rattle.dso_port.specs.declared.arrival.Arrival.TheVariants as arrival
use Rattle.dso_line.specs.Letters.{log_clock}
use Rattle.dso_line.specs.Lines.{ClientLineStands, EndStands, down_way, up_way}
use Rattle.dso_line.specs.Ways.{TookFromRing, posts_of}
use Rattle.dso_line.proofs.standing.Given.{end_given}
use Rattle.dso_line.proofs.standing.Posts.{end_said, gives_same, posts_up}
use Rattle.dso_line.proofs.standing.Taken.{end_dropped, end_heard, end_rejoined, end_stays, owes_one}

module _ (c : ℕ) (es : List Entry) (e : Entry) (messages : List Up) (sent : e.sent ≡ map ToServer messages) where
  -- where the end stands but for what the entry sends, it does once that was sent
  client_said : (mid after : PortState Up Down) → after.session ≡ all_posted both.Up e.clock messages mid.session → after.out ≡ mid.out → after.into ≡ mid.into
      → EndStands (up_way c) (down_way c) role.Client es (e ∷ es) (count_inputs (rejoins c) (e ∷ es)) (count_inputs (rejoins c) (e ∷ es)) mid → ClientLineStands c (e ∷ es) after
  client_said mid after session out into stands = end_said (up_way c) (down_way c) role.Client es (e ∷ es) (count_inputs (rejoins c) (e ∷ es)) (count_inputs (rejoins c) (e ∷ es)) mid after e messages
      (posts_up c e es messages sent) session out into stands

  module _ (old after : PortState Up Down) (stands : ClientLineStands c es old) where
    -- an act, or a flush
    pub client_stays : takes_down e.input ≡ false → rejoins c e.input ≡ false
        → after.session ≡ all_posted both.Up e.clock messages old.session → after.out ≡ old.out → after.into ≡ old.into → ClientLineStands c (e ∷ es) after
    client_stays takes none session out into =
        let n = count_inputs (rejoins c) es in
        let r : count_inputs (rejoins c) (e ∷ es) ≡ count_inputs (rejoins c) es = ap (λ b. cond b (suc n) n) none in
        client_said old after session out into (subst (λ k. EndStands (up_way c) (down_way c) role.Client es (e ∷ es) k k old) (sym r)
        (end_stays (up_way c) (down_way c) role.Client es es n n old e takes stands))

    -- a message of the server
    pub client_heard : (mid : PortState Up Down) (message : Down) (heard : ℕ) → TookFrame both.Down down_frame_cells (IsFrame IsDown) (arrival.Message message heard) old mid → mid.out ≡ old.out
        → takes_down e.input ≡ true → message_to_client e.input ≡ Some message → rejoins c e.input ≡ false → e.clock ≡ suc (max (log_clock es) heard)
        → after.session ≡ all_posted both.Up e.clock messages mid.session → after.out ≡ mid.out → after.into ≡ mid.into → ClientLineStands c (e ∷ es) after
    client_heard mid message heard told kept takes taken_is none next session out into =
        let n = count_inputs (rejoins c) es in
        let r : count_inputs (rejoins c) (e ∷ es) ≡ count_inputs (rejoins c) es = ap (λ b. cond b (suc n) n) none in
        client_said mid after session out into (subst (λ k. EndStands (up_way c) (down_way c) role.Client es (e ∷ es) k k mid) (sym r)
        (end_heard (up_way c) (down_way c) role.Client es es n n old mid kept stands (λ x y same. cc same) message heard e told takes taken_is next))

    -- the connection is taken up again
    pub client_rejoined : (mid : PortState Up Down) → TookFrame both.Down down_frame_cells (IsFrame IsDown) arrival.Rejoined old mid → mid.out ≡ old.out
        → takes_down e.input ≡ false → rejoins c e.input ≡ true
        → after.session ≡ all_posted both.Up e.clock messages mid.session → after.out ≡ mid.out → after.into ≡ mid.into → ClientLineStands c (e ∷ es) after
    client_rejoined mid told kept takes one session out into =
        let n = count_inputs (rejoins c) es in
        let r : count_inputs (rejoins c) (e ∷ es) ≡ suc (count_inputs (rejoins c) es) = ap (λ b. cond b (suc n) n) one in
        let more : count_inputs (rejoins c) es + 1 ≡ suc (count_inputs (rejoins c) es) = omega arith in
        client_said mid after session out into (subst (λ k. EndStands (up_way c) (down_way c) role.Client es (e ∷ es) k k mid) (sym r)
        (subst (λ k. EndStands (up_way c) (down_way c) role.Client es (e ∷ es) k (suc n) mid) more
        (end_rejoined (up_way c) (down_way c) role.Client es es n n old mid kept stands 1 e told (omega (arith, owes_one mid.session)) takes)))

module _ (c : ℕ) (es : List Entry) (old new : PortState Up Down) (stands : ClientLineStands c es old) where
  -- a frame came that makes no entry
  pub client_dropped : (frame : Frame Down) → TookOne down_frame_cells (IsFrame IsDown) (taken old.into) (taken new.into) frame → new.session ≡ old.session → new.out ≡ old.out → ClientLineStands c es new
  client_dropped frame one same out = end_dropped (up_way c) (down_way c) role.Client es es (count_inputs (rejoins c) es) (count_inputs (rejoins c) es) old new out stands frame one same

  -- none came
  pub client_unmoved : taken new.into ≡ taken old.into → new.session ≡ old.session → new.out ≡ old.out → ClientLineStands c es new
  client_unmoved took same out = record {
    role = ap (λ x. x.role) same ∙ stands.role;
    accepted = ap (λ x. x.accepted) same ∙ stands.accepted;
    sends = gives_same (up_way c) (posts_of (to_server c) es) (count_inputs (rejoins c) es) old.session new.session old.out new.out same out stands.sends;
    took = subst (λ items. TookFromRing down_frame_cells (IsFrame IsDown) (to_client c) es (count_inputs (rejoins c) es) items) (sym took) stands.took;
  }

  -- frames went to the ring
  pub client_given : HasGiven both.Up up_frame_cells (IsFrame IsUp) old.session new.session (given old.out) (given new.out) → new.into ≡ old.into → ClientLineStands c es new
  client_given gives into = end_given (up_way c) (down_way c) (λ x y same. cc same) old new gives role.Client es (count_inputs (rejoins c) es) (count_inputs (rejoins c) es) into stands
