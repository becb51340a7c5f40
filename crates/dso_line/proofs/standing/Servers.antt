-- How the server's end of a client's connection goes on standing for the server's log.
use Rattle.std.proofs.Common.{ℕ, suc, ◌+◌, ◌≡◌, refl, sym, ◌∙◌, ap, subst, Bool, true, false, cond, eqb, ltb, max, not, ◌&&◌, ◌||◌, Some, List, ◌∷◌, map, arith}
use Rattle.std.proofs.lemmas.Bool.{eqb-true}
use Rattle.dso_base.specs.declared.both.Both.{Both}
use Rattle.dso_base.specs.declared.both.Both.TheVariants as both
use Rattle.dso_base.specs.declared.journal.Entry.{Entry}
use Rattle.dso_base.specs.declared.journal.Sent.TheVariants.{ToClient}
use Rattle.dso_base.specs.declared.message.Down.{Down}
use Rattle.dso_base.specs.declared.message.Up.{Up}
use Rattle.dso_law.specs.Channels.{breaks, count_inputs, is_broken, message_to_server, rejoins, takes_up}
use Rattle.dso_session.specs.declared.frame.Accepted.{Accepted}
use Rattle.dso_session.specs.declared.frame.Accepted.TheVariants as accepted
use Rattle.dso_session.specs.declared.session.Role.TheVariants as role
use Rattle.dso_session.specs.Ends.{End, answer, answer_hello, broken, is_new, sent_count}
use Rattle.dso_wire.specs.Spelling.{IsFrame, IsUp, up_frame_cells}
use Rattle.dso_port.specs.Ports.{PortState, TookFrame, all_posted, lifted, owed}
use Rattle.dso_port.specs.declared.arrival.Arrival.TheVariants as arrival
use Rattle.dso_port.proofs.ends.Taken.{given_up_next}
use Rattle.dso_line.specs.Letters.{log_clock}
use Rattle.dso_line.specs.Lines.{EndStands, ServerLineStands, down_way, up_way}
use Rattle.dso_line.proofs.standing.Posts.{end_broken, end_said, messages_to, posts_down, same_posted}
use Rattle.dso_line.proofs.standing.Taken.{end_heard, end_rejoined, end_stays, greeted_by, server_owes}

-- one input more of those that are counted, and one of no such
counts_more : (test : Bool) (n : ℕ) → test ≡ true → cond test (suc n) n ≡ suc n
counts_more test n is = ap (λ b. cond b (suc n) n) is

counts_same : (test : Bool) (n : ℕ) → test ≡ false → cond test (suc n) n ≡ n
counts_same test n is = ap (λ b. cond b (suc n) n) is

-- a server's end begins anew only where it waits for that, in its own epoch
own_epoch : (epoch : ℕ) (end : End Both) → is_new epoch end role.Server ≡ true → epoch ≡ end.epoch
own_epoch epoch end new = by (eqb epoch end.epoch) refl new
  where
    by : (same : Bool) → eqb epoch end.epoch ≡ same → (same && not end.is_ready) ≡ true → epoch ≡ end.epoch
    by true is new = eqb-true epoch end.epoch is
    by false is new = absurd (cc new)

server_new : (epoch seen behind : ℕ) (end : End Both) → end.role ≡ role.Server → answer_hello epoch seen end ≡ accepted.Rejoined behind → epoch ≡ end.epoch
server_new epoch seen behind end own answered = own_epoch epoch end (subst (λ r. is_new epoch end r ≡ true) own (by (is_new epoch end end.role) refl answered))
  where
    by : (new : Bool) → is_new epoch end end.role ≡ new
        → cond {A = Accepted Both} (not new) (accepted.OldConnection epoch) (cond (ltb (sent_count end) seen || ltb seen end.seen) (accepted.Gap seen) (accepted.Rejoined seen)) ≡ accepted.Rejoined behind
        → is_new epoch end end.role ≡ true
    by true is answered = is
    by false is answered = absurd (cc answered)

module _ (c : ℕ) (es : List Entry) (e : Entry) (pairs : List (ℕ × Down)) (sent : e.sent ≡ map (λ one. ToClient one.0 one.1) pairs) where
  -- where the end stands but for what the entry sends, it does once that was sent
  server_said : (mid after : PortState Down Up) → after.session ≡ all_posted both.Down e.clock (messages_to c pairs) mid.session → after.out ≡ mid.out → after.into ≡ mid.into
      → EndStands (down_way c) (up_way c) role.Server es (e ∷ es) (count_inputs (breaks c) (e ∷ es)) (count_inputs (rejoins c) (e ∷ es)) mid
      → mid.session.epoch ≡ count_inputs (breaks c) (e ∷ es) → mid.session.is_ready ≡ not (is_broken c (e ∷ es)) → ServerLineStands c (e ∷ es) after
  server_said mid after session out into stands epoch ready =
      let same = same_posted both.Down e.clock (messages_to c pairs) mid.session in
      record {
        end = end_said (down_way c) (up_way c) role.Server es (e ∷ es) (count_inputs (breaks c) (e ∷ es)) (count_inputs (rejoins c) (e ∷ es)) mid after e (messages_to c pairs)
            (posts_down c e es pairs sent) session out into stands;
        epoch = ap (λ x. x.epoch) session ∙ same.epoch ∙ epoch;
        ready = ap (λ x. x.is_ready) session ∙ same.ready ∙ ready;
      }

  module _ (old after : PortState Down Up) (stands : ServerLineStands c es old) where
    -- an entry of another client, or a loss
    pub server_stays : takes_up c e.input ≡ false → breaks c e.input ≡ false → rejoins c e.input ≡ false
        → after.session ≡ all_posted both.Down e.clock (messages_to c pairs) old.session → after.out ≡ old.out → after.into ≡ old.into → ServerLineStands c (e ∷ es) after
    server_stays takes breaks_none rejoins_none session out into =
        let b = counts_same (breaks c e.input) (count_inputs (breaks c) es) breaks_none in
        let r = counts_same (rejoins c e.input) (count_inputs (rejoins c) es) rejoins_none in
        let same : is_broken c (e ∷ es) ≡ is_broken c es = ap (λ t. cond t true (cond (rejoins c e.input) false (is_broken c es))) breaks_none ∙ ap (λ t. cond t false (is_broken c es)) rejoins_none in
        server_said old after session out into
        (subst (λ n. EndStands (down_way c) (up_way c) role.Server es (e ∷ es) n (count_inputs (rejoins c) (e ∷ es)) old) (sym b)
        (subst (λ n. EndStands (down_way c) (up_way c) role.Server es (e ∷ es) (count_inputs (breaks c) es) n old) (sym r)
        (end_stays (down_way c) (up_way c) role.Server es es (count_inputs (breaks c) es) (count_inputs (rejoins c) es) old e takes stands.end)))
        (stands.epoch ∙ sym b) (stands.ready ∙ ap not (sym same))

    -- a message of the client
    pub server_heard : (mid : PortState Down Up) (message : Up) (heard : ℕ) → TookFrame both.Up up_frame_cells (IsFrame IsUp) (arrival.Message message heard) old mid → mid.out ≡ old.out
        → takes_up c e.input ≡ true → message_to_server e.input ≡ Some message → breaks c e.input ≡ false → rejoins c e.input ≡ false → e.clock ≡ suc (max (log_clock es) heard)
        → after.session ≡ all_posted both.Down e.clock (messages_to c pairs) mid.session → after.out ≡ mid.out → after.into ≡ mid.into → ServerLineStands c (e ∷ es) after
    server_heard mid message heard told kept takes taken_is breaks_none rejoins_none next session out into =
        let b = counts_same (breaks c e.input) (count_inputs (breaks c) es) breaks_none in
        let r = counts_same (rejoins c e.input) (count_inputs (rejoins c) es) rejoins_none in
        let same : is_broken c (e ∷ es) ≡ is_broken c es = ap (λ t. cond t true (cond (rejoins c e.input) false (is_broken c es))) breaks_none ∙ ap (λ t. cond t false (is_broken c es)) rejoins_none in
        let one = given_up_next both.Up (λ x y same. cc same) message heard old.session told.frame mid.session told.heard in
        server_said mid after session out into
        (subst (λ n. EndStands (down_way c) (up_way c) role.Server es (e ∷ es) n (count_inputs (rejoins c) (e ∷ es)) mid) (sym b)
        (subst (λ n. EndStands (down_way c) (up_way c) role.Server es (e ∷ es) (count_inputs (breaks c) es) n mid) (sym r)
        (end_heard (down_way c) (up_way c) role.Server es es (count_inputs (breaks c) es) (count_inputs (rejoins c) es) old mid kept stands.end (λ x y same. cc same) message heard e told takes taken_is next)))
        (one.epoch_same ∙ stands.epoch ∙ sym b) (one.ready ∙ stands.ready ∙ ap not (sym same))

    -- the connection breaks
    pub server_broken : (mid : PortState Down Up) → mid.session ≡ broken old.session → mid.out ≡ old.out → mid.into ≡ old.into
        → takes_up c e.input ≡ false → breaks c e.input ≡ true → rejoins c e.input ≡ false
        → after.session ≡ all_posted both.Down e.clock (messages_to c pairs) mid.session → after.out ≡ mid.out → after.into ≡ mid.into → ServerLineStands c (e ∷ es) after
    server_broken mid now kept kept_too takes breaks_one rejoins_none session out into =
        let b : count_inputs (breaks c) (e ∷ es) ≡ count_inputs (breaks c) es + 1 = counts_more (breaks c e.input) (count_inputs (breaks c) es) breaks_one ∙ omega arith in
        let r = counts_same (rejoins c e.input) (count_inputs (rejoins c) es) rejoins_none in
        let is : is_broken c (e ∷ es) ≡ true = ap (λ t. cond t true (cond (rejoins c e.input) false (is_broken c es))) breaks_one in
        server_said mid after session out into
        (subst (λ n. EndStands (down_way c) (up_way c) role.Server es (e ∷ es) n (count_inputs (rejoins c) (e ∷ es)) mid) (sym b)
        (subst (λ n. EndStands (down_way c) (up_way c) role.Server es (e ∷ es) (count_inputs (breaks c) es + 1) n mid) (sym r)
        (end_stays (down_way c) (up_way c) role.Server es es (count_inputs (breaks c) es + 1) (count_inputs (rejoins c) es) mid e takes
        (end_broken (down_way c) (up_way c) role.Server es es (count_inputs (breaks c) es) (count_inputs (rejoins c) es) old mid now kept kept_too stands.end))))
        (ap (λ x. x.epoch) now ∙ ap (λ n. n + 1) stands.epoch ∙ sym b) (ap (λ x. x.is_ready) now ∙ ap not (sym is))

    -- the connection is taken up again
    pub server_rejoined : (mid : PortState Down Up) → TookFrame both.Up up_frame_cells (IsFrame IsUp) arrival.Rejoined old mid → mid.out ≡ old.out
        → takes_up c e.input ≡ false → breaks c e.input ≡ false → rejoins c e.input ≡ true
        → after.session ≡ all_posted both.Down e.clock (messages_to c pairs) mid.session → after.out ≡ mid.out → after.into ≡ mid.into → ServerLineStands c (e ∷ es) after
    server_rejoined mid told kept takes breaks_none rejoins_one session out into =
        let b = counts_same (breaks c e.input) (count_inputs (breaks c) es) breaks_none in
        let r = counts_more (rejoins c e.input) (count_inputs (rejoins c) es) rejoins_one in
        let is : is_broken c (e ∷ es) ≡ false = ap (λ t. cond t true (cond (rejoins c e.input) false (is_broken c es))) breaks_none ∙ ap (λ t. cond t false (is_broken c es)) rejoins_one in
        let hello = greeted_by both.Up old.session told.heard.behind told.frame told.heard.answered in
        let answered : answer_hello hello.epoch hello.seen old.session ≡ accepted.Rejoined told.heard.behind =
        subst (λ frame. answer (lifted both.Up frame) old.session ≡ accepted.Rejoined told.heard.behind) hello.is told.heard.answered in
        let epoch = server_new hello.epoch hello.seen told.heard.behind old.session stands.end.role answered in
        let owes : owed mid.session ≡ owed old.session = ap (λ x. owed x) told.heard.now ∙ server_owes (lifted both.Up told.frame) old.session stands.end.role in
        let none : count_inputs (breaks c) es + 0 ≡ count_inputs (breaks c) es = omega arith in
        server_said mid after session out into
        (subst (λ n. EndStands (down_way c) (up_way c) role.Server es (e ∷ es) n (count_inputs (rejoins c) (e ∷ es)) mid) (none ∙ sym b)
        (subst (λ n. EndStands (down_way c) (up_way c) role.Server es (e ∷ es) (count_inputs (breaks c) es + 0) n mid) (sym r)
        (end_rejoined (down_way c) (up_way c) role.Server es es (count_inputs (breaks c) es) (count_inputs (rejoins c) es) old mid kept stands.end 0 e told (omega (arith, owes)) takes)))
        (ap (λ x. x.epoch) told.heard.now ∙ ap (λ x. x.epoch) hello.now ∙ epoch ∙ stands.epoch ∙ sym b) (ap (λ x. x.is_ready) told.heard.now ∙ ap (λ x. x.is_ready) hello.now ∙ ap not (sym is))
