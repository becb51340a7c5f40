-- A frame that is taken gives up the next message, or joins the connection again.
use Rattle.std.proofs.Common.{ℕ, suc, ◌+◌, ◌<◌, ◌≤◌, ◌≡◌, ◌↔◌, refl, sym, ◌∙◌, ap, subst, true, false, cond, eqb, ltb, Some, List, [], ◌∷◌, ◌++◌, drop, length, slice_get, arith}
use Rattle.std.proofs.lemmas.List.{append-nil, length-drop}
use Rattle.std.proofs.Math.ListN.{drop_of_length-le}
use Rattle.std.proofs.lemmas.Bool.{le-ltb, ltb-false}
use Rattle.std.proofs.lemmas.Option.{slice_get_within}
use Rattle.dso_session.specs.declared.frame.Frame.{Frame}
use Rattle.dso_session.specs.declared.frame.Frame.TheVariants.{Carry, Hello}
use Rattle.dso_session.specs.declared.session.Posted.{Posted}
use Rattle.dso_session.specs.declared.session.Role.TheVariants as role
use Rattle.dso_session.specs.declared.frame.Accepted.TheVariants as accepted
use Rattle.dso_session.specs.Ends.{End, after_frame, answer, answers_hello, forgotten, is_new, rejoined}
use Rattle.dso_session.specs.Laws.{HasSent}
use Rattle.dso_world.specs.Link.{Line, after_first, carried, cut, emptied, first_answer, gives, left_to_give, pumped_down, pumped_up, taken_down, taken_up}
use Rattle.dso_world.specs.LinkStands.{AreCarried, ClientRejoins, Course, EndStands, GreetsFirst, LinkStands, LinksGoOn, Past, ServerRejoins, TakesDown, TakesUp, can_take_down, can_take_up}
use Rattle.dso_world.specs.LinkStands.{Joined, Broken, Half}
use Rattle.dso_world.proofs.links.Carried.{carried_are, carried_none, carried_wider, gives_rest, none_carried}
use Rattle.dso_world.proofs.links.Ends.{heard_after, heard_answer, heard_given, heard_gives, heard_stands, new_after, new_answer, new_at_client, new_at_server, new_given, new_has, new_order, new_stands}
use Rattle.dso_world.proofs.links.Stands.{goes_up, sends_down, sends_up}
use Rattle.dso_world.proofs.links.Pumping.{from_here}

module _ {M : Type 0} where
  -- the first of these frames, and the others
  record FirstCarried (epoch taken limit : ℕ) (posts : List (Posted M)) (one : Posted M) (frames : List (Frame M)) : Type 0 where
    seen : ℕ
    few : seen ≤ limit
    rest : List (Frame M)
    is : frames ≡ Carry epoch (taken + 1) seen one.clock one.message ∷ rest
    then : AreCarried epoch (taken + 1) limit (drop (taken + 1) posts) rest

  first_carried : (epoch taken limit : ℕ) (posts : List (Posted M)) (one : Posted M) (frames : List (Frame M)) → slice_get posts taken ≡ Some one → AreCarried epoch taken limit (drop taken posts) frames
      → FirstCarried epoch taken limit posts one frames
  first_carried epoch taken limit posts one frames next are = by frames (subst (λ list. AreCarried epoch taken limit list frames) (from_here posts taken one next) are)
    where
      by : (frames : List (Frame M)) → AreCarried epoch taken limit (one ∷ drop (suc taken) posts) frames → FirstCarried epoch taken limit posts one frames
      by [] are = absurd are
      by (frame ∷ rest) are = record {
        seen = are.0.seen;
        few = are.0.few;
        rest = rest;
        is = ap (λ f. f ∷ rest) are.0.is;
        then = let place : suc taken ≡ taken + 1 = omega arith in subst (λ n. AreCarried epoch (taken + 1) limit (drop n posts) rest) place are.1;
      }

  -- the Hello at the head of these frames, and the others
  record FirstGreets (epoch seen : ℕ) (Then : List (Frame M) → Type 0) (frames : List (Frame M)) : Type 0 where
    clock : ℕ
    rest : List (Frame M)
    is : frames ≡ Hello epoch seen clock ∷ rest
    then : Then rest

  first_greets : (epoch seen : ℕ) (Then : List (Frame M) → Type 0) (frames : List (Frame M)) → GreetsFirst epoch seen Then frames → FirstGreets epoch seen Then frames
  first_greets epoch seen Then [] greets = absurd greets
  first_greets epoch seen Then (frame ∷ rest) greets = record { clock = greets.0.clock; rest = rest; is = ap (λ f. f ∷ rest) greets.0.is; then = greets.1 }

  -- the Hello that is due goes first
  gives_hello : (end : End M) → end.owes_hello ≡ true → gives end ≡ Hello end.epoch end.accepted end.clock ∷ gives (record end { owes_hello = false })
  gives_hello end owes = ap (λ x. cond x (Hello end.epoch end.accepted end.clock ∷ []) [] ++ carried end.epoch end.given end.accepted (left_to_give end)) owes

  -- the line once an end has taken the first frame, by what it then is
  up_taken : (line : Line M) (server : End M) (rest : List (Frame M)) → after_first line.up line.server ≡ server → drop 1 line.up ≡ rest → pumped_down (record line { server = server; up = rest }) ≡ taken_up line
  up_taken line server rest after left = ap (λ up. pumped_down (record line { server = server; up = up })) (sym left) ∙ ap (λ end. pumped_down (record line { server = end; up = drop 1 line.up })) (sym after)

  down_taken : (line : Line M) (client : End M) (rest : List (Frame M)) → after_first line.down line.client ≡ client → drop 1 line.down ≡ rest → pumped_up (record line { client = client; down = rest }) ≡ taken_down line
  down_taken line client rest after left = ap (λ down. pumped_up (record line { client = client; down = down })) (sym left) ∙ ap (λ end. pumped_up (record line { client = end; down = drop 1 line.down })) (sym after)

  module _ (past : Past M) (line : Line M) where
    pub takes_up : (one : Posted M) → LinkStands Joined past line → slice_get past.up past.up_taken ≡ Some one → TakesUp past line one
    takes_up one stands next =
        let first : FirstCarried past.breaks past.up_taken past.down_taken past.up one line.up = first_carried past.breaks past.up_taken past.down_taken past.up one line.up next stands.ways.up in
        let few : first.seen ≤ length past.down = omega (arith, first.few, stands.down_few) in
        by first few
      where
        by : (first : FirstCarried past.breaks past.up_taken past.down_taken past.up one line.up) → first.seen ≤ length past.down → TakesUp past line one
        by first few = record {
          answer = ap (λ frames. first_answer frames line.server) first.is ∙ ap (λ a. Some a) (heard_answer role.Server past.down past.up_taken past.breaks line.server stands.server first.seen one.clock one.message few);
          stands = subst (LinkStands Joined (record past { up_taken = past.up_taken + 1 }))
              (up_taken line server first.rest
              (ap (λ frames. after_first frames line.server) first.is ∙ heard_after role.Server past.down past.up_taken past.breaks line.server stands.server first.seen one.clock one.message few)
              (ap (drop 1) first.is))
              now;
        }
          where
            server : End M
            server = record (forgotten first.seen line.server) { accepted = past.up_taken + 1 }

            now : LinkStands Joined (record past { up_taken = past.up_taken + 1 }) (pumped_down (record line { server = server; up = first.rest }))
            now = record {
              client = stands.client;
              server = heard_stands role.Server past.down past.up_taken past.breaks line.server stands.server first.seen one.clock one.message few;
              ready = stands.ready;
              given = stands.given;
              up_seen = omega (arith, stands.up_seen);
              down_seen = omega (arith, stands.down_seen, first.few);
              up_few = omega (arith, slice_get_within past.up past.up_taken one next);
              down_few = stands.down_few;
              ways = record {
                epochs = stands.ways.epochs;
                ready = stands.ways.ready;
                given = heard_given role.Server past.down past.up_taken past.breaks line.server stands.server first.seen one.clock one.message few stands.ways.ready;
                up = first.then;
                down = subst (AreCarried past.breaks past.down_taken (past.up_taken + 1) (drop past.down_taken past.down))
                    (sym (ap (λ frames. line.down ++ frames) (heard_gives role.Server past.down past.up_taken past.breaks line.server stands.server first.seen one.clock one.message few stands.ways.ready stands.ways.given) ∙ append-nil line.down))
                    (carried_wider past.breaks past.down_taken past.up_taken (past.up_taken + 1) (drop past.down_taken past.down) line.down (omega arith) stands.ways.down);
              };
            }

    pub takes_down : (one : Posted M) → LinkStands Joined past line → slice_get past.down past.down_taken ≡ Some one → TakesDown past line one
    takes_down one stands next =
        let first : FirstCarried past.breaks past.down_taken past.up_taken past.down one line.down = first_carried past.breaks past.down_taken past.up_taken past.down one line.down next stands.ways.down in
        let few : first.seen ≤ length past.up = omega (arith, first.few, stands.up_few) in
        by first few
      where
        by : (first : FirstCarried past.breaks past.down_taken past.up_taken past.down one line.down) → first.seen ≤ length past.up → TakesDown past line one
        by first few = record {
          answer = ap (λ frames. first_answer frames line.client) first.is ∙ ap (λ a. Some a) (subst HeardBy stands.ways.epochs (heard_answer role.Client past.up past.down_taken past.rejoins line.client stands.client first.seen one.clock one.message few));
          stands = subst (LinkStands Joined (record past { down_taken = past.down_taken + 1 }))
              (down_taken line client first.rest
              (ap (λ frames. after_first frames line.client) first.is ∙ subst AfterBy stands.ways.epochs (heard_after role.Client past.up past.down_taken past.rejoins line.client stands.client first.seen one.clock one.message few))
              (ap (drop 1) first.is))
              now;
        }
          where
            client : End M
            client = record (forgotten first.seen line.client) { accepted = past.down_taken + 1 }

            HeardBy : ℕ → Type 0
            HeardBy epoch = answer (Carry epoch (past.down_taken + 1) first.seen one.clock one.message) line.client ≡ accepted.Up one.message one.clock

            AfterBy : ℕ → Type 0
            AfterBy epoch = after_frame (Carry epoch (past.down_taken + 1) first.seen one.clock one.message) line.client ≡ client

            same_up : cond (eqb client.epoch line.server.epoch) (line.up ++ gives client) [] ≡ line.up
            same_up = goes_up line client (stands.client.epoch ∙ stands.ways.epochs ∙ sym stands.server.epoch)
                ∙ ap (λ frames. line.up ++ frames) (heard_gives role.Client past.up past.down_taken past.rejoins line.client stands.client first.seen one.clock one.message few stands.ready stands.given) ∙ append-nil line.up

            now : LinkStands Joined (record past { down_taken = past.down_taken + 1 }) (pumped_up (record line { client = client; down = first.rest }))
            now = record {
              client = heard_stands role.Client past.up past.down_taken past.rejoins line.client stands.client first.seen one.clock one.message few;
              server = stands.server;
              ready = stands.ready;
              given = heard_given role.Client past.up past.down_taken past.rejoins line.client stands.client first.seen one.clock one.message few stands.ready;
              up_seen = omega (arith, stands.up_seen, first.few);
              down_seen = omega (arith, stands.down_seen);
              up_few = stands.up_few;
              down_few = omega (arith, slice_get_within past.down past.down_taken one next);
              ways = record {
                epochs = stands.ways.epochs;
                ready = stands.ways.ready;
                given = stands.ways.given;
                up = subst (AreCarried past.breaks past.up_taken (past.down_taken + 1) (drop past.up_taken past.up)) (sym same_up)
                    (carried_wider past.breaks past.up_taken past.down_taken (past.down_taken + 1) (drop past.up_taken past.up) line.up (omega arith) stands.ways.up);
                down = first.then;
              };
            }

    pub client_rejoins : LinkStands Broken past line → ClientRejoins past line
    client_rejoins stands = by (first_greets past.breaks past.up_taken (λ frames. frames ≡ []) line.down stands.ways.down)
      where
        later : line.client.epoch < past.breaks
        later = omega (arith, stands.client.epoch, stands.ways.epochs)

        new : is_new past.breaks line.client line.client.role ≡ true
        new = new_at_client past.breaks line.client stands.client.role later

        client : End M
        client = rejoined past.breaks past.up_taken line.client

        owes : client.owes_hello ≡ true
        owes = ap (λ own. answers_hello own line.client.owes_hello) stands.client.role

        has : HasSent past.up client
        has = new_has role.Client past.up past.down_taken past.rejoins line.client stands.client past.breaks past.up_taken 0 new stands.up_few stands.up_seen

        frames_up : cond (eqb client.epoch line.server.epoch) (line.up ++ gives client) [] ≡ Hello past.breaks line.client.accepted line.client.clock ∷ carried past.breaks past.up_taken line.client.accepted (drop past.up_taken past.up)
        frames_up = goes_up line client (sym stands.server.epoch) ∙ ap (λ frames. frames ++ gives client) stands.ways.up ∙ gives_hello client owes
            ∙ ap (λ frames. Hello past.breaks line.client.accepted line.client.clock ∷ frames) (gives_rest past.up (record client { owes_hello = false }) (record { seen = has.seen; kept = has.kept }) refl refl (omega (arith, stands.up_seen)))

        by : FirstGreets past.breaks past.up_taken (λ frames. frames ≡ []) line.down → ClientRejoins past line
        by first = record {
          answer = ap (λ frames. first_answer frames line.client) first.is ∙ ap (λ a. Some a) (new_answer role.Client past.up past.down_taken past.rejoins line.client stands.client past.breaks past.up_taken first.clock new stands.up_few stands.up_seen);
          stands = subst (LinkStands Half (record past { rejoins = past.rejoins + 1 }))
              (down_taken line client first.rest
              (ap (λ frames. after_first frames line.client) first.is ∙ new_after role.Client past.up past.down_taken past.rejoins line.client stands.client past.breaks past.up_taken first.clock new stands.up_few stands.up_seen)
              (ap (drop 1) first.is))
              now;
        }
          where
            now : LinkStands Half (record past { rejoins = past.rejoins + 1 }) (pumped_up (record line { client = client; down = first.rest }))
            now = record {
              client = subst (λ era. EndStands role.Client past.up past.down_taken era (emptied client)) (sym stands.ways.epochs)
                  (new_stands role.Client past.up past.down_taken past.rejoins line.client stands.client past.breaks past.up_taken 0 new stands.up_few stands.up_seen);
              server = stands.server;
              ready = refl;
              given = new_given role.Client past.up past.down_taken past.rejoins line.client stands.client past.breaks past.up_taken 0 new stands.up_few stands.up_seen;
              up_seen = new_order role.Client past.up past.down_taken past.rejoins line.client stands.client past.breaks past.up_taken 0 new stands.up_few stands.up_seen;
              down_seen = stands.down_seen;
              up_few = stands.up_few;
              down_few = stands.down_few;
              ways = record {
                epochs = stands.ways.epochs;
                ready = stands.ways.ready;
                up = subst (GreetsFirst past.breaks past.down_taken (AreCarried past.breaks past.up_taken past.down_taken (drop past.up_taken past.up))) (sym frames_up) (
                  record { clock = line.client.clock; is = ap (λ n. Hello past.breaks n line.client.clock) stands.client.accepted },
                  carried_are past.breaks past.up_taken line.client.accepted past.down_taken (drop past.up_taken past.up) (omega (arith, stands.client.accepted)),
                );
                down = first.then;
              };
            }

    pub server_rejoins : LinkStands Half past line → ServerRejoins past line
    server_rejoins stands = by (first_greets past.breaks past.down_taken (AreCarried past.breaks past.up_taken past.down_taken (drop past.up_taken past.up)) line.up stands.ways.up)
      where
        new : is_new past.breaks line.server line.server.role ≡ true
        new = new_at_server past.breaks line.server stands.server.role (sym stands.server.epoch) stands.ways.ready

        server : End M
        server = rejoined past.breaks past.down_taken line.server

        owes : server.owes_hello ≡ false
        owes = ap (λ own. answers_hello own line.server.owes_hello) stands.server.role ∙ stands.server.said_hello

        frames_down : line.down ++ gives server ≡ carried past.breaks past.down_taken line.server.accepted (drop past.down_taken past.down)
        frames_down = ap (λ frames. frames ++ gives server) stands.ways.down
            ∙ gives_rest past.down server (new_has role.Server past.down past.up_taken past.breaks line.server stands.server past.breaks past.down_taken 0 new stands.down_few stands.down_seen) owes refl (omega (arith, stands.down_seen))

        by : FirstGreets past.breaks past.down_taken (AreCarried past.breaks past.up_taken past.down_taken (drop past.up_taken past.up)) line.up → ServerRejoins past line
        by first = record {
          answer = ap (λ frames. first_answer frames line.server) first.is ∙ ap (λ a. Some a) (new_answer role.Server past.down past.up_taken past.breaks line.server stands.server past.breaks past.down_taken first.clock new stands.down_few stands.down_seen);
          stands = subst (LinkStands Joined past)
              (up_taken line server first.rest
              (ap (λ frames. after_first frames line.server) first.is ∙ new_after role.Server past.down past.up_taken past.breaks line.server stands.server past.breaks past.down_taken first.clock new stands.down_few stands.down_seen)
              (ap (drop 1) first.is))
              now;
        }
          where
            now : LinkStands Joined past (pumped_down (record line { server = server; up = first.rest }))
            now = record {
              client = stands.client;
              server = new_stands role.Server past.down past.up_taken past.breaks line.server stands.server past.breaks past.down_taken 0 new stands.down_few stands.down_seen;
              ready = stands.ready;
              given = stands.given;
              up_seen = stands.up_seen;
              down_seen = new_order role.Server past.down past.up_taken past.breaks line.server stands.server past.breaks past.down_taken 0 new stands.down_few stands.down_seen;
              up_few = stands.up_few;
              down_few = stands.down_few;
              ways = record {
                epochs = stands.ways.epochs;
                ready = refl;
                given = new_given role.Server past.down past.up_taken past.breaks line.server stands.server past.breaks past.down_taken 0 new stands.down_few stands.down_seen;
                up = first.then;
                down = subst (AreCarried past.breaks past.down_taken past.up_taken (drop past.down_taken past.down)) (sym frames_down)
                    (carried_are past.breaks past.down_taken line.server.accepted past.up_taken (drop past.down_taken past.down) (omega (arith, stands.server.accepted)));
              };
            }

    pub breaks : LinkStands Joined past line → LinkStands Broken (record past { breaks = past.breaks + 1 }) (cut line)
    breaks stands = record {
      client = stands.client;
      server = record {
        role = stands.server.role;
        sent = record { seen = stands.server.sent.seen; kept = stands.server.sent.kept };
        accepted = stands.server.accepted;
        epoch = ap (λ n. n + 1) stands.server.epoch;
        said_hello = refl;
      };
      ready = stands.ready;
      given = stands.given;
      up_seen = stands.up_seen;
      down_seen = stands.down_seen;
      up_few = stands.up_few;
      down_few = stands.down_few;
      ways = record {
        epochs = ap (λ n. n + 1) stands.ways.epochs;
        ready = refl;
        up = refl;
        down = (record { clock = line.server.clock; is = ap (λ n. Hello (n + 1) line.server.accepted line.server.clock) stands.server.epoch ∙ ap (λ n. Hello (past.breaks + 1) n line.server.clock) stands.server.accepted }, refl);
      };
    }

    -- frames wait where messages were sent and not taken
    waits : (epoch taken limit : ℕ) (posts : List (Posted M)) (frames : List (Frame M)) → AreCarried epoch taken limit (drop taken posts) frames → (frames ≡ []) ↔ (ltb taken (length posts) ≡ false)
    waits epoch taken limit posts frames are = (
      λ none. le-ltb taken (length posts) (omega (arith, length-drop taken posts, ap length (carried_none epoch taken limit (drop taken posts) (subst (AreCarried epoch taken limit (drop taken posts)) none are)))),
      λ none. none_carried epoch taken limit frames (subst (λ list. AreCarried epoch taken limit list frames) (drop_of_length-le posts (ltb-false taken (length posts) none)) are),
    )

    -- where a Hello is first there is a frame
    greets : (epoch seen : ℕ) (Then : List (Frame M) → Type 0) (frames : List (Frame M)) → GreetsFirst epoch seen Then frames → (frames ≡ []) ↔ (true ≡ false)
    greets epoch seen Then frames first = (λ none. absurd (subst (GreetsFirst epoch seen Then) none first), λ no. absurd (cc no))

    pub none_up : (course : Course) → LinkStands course past line → (line.up ≡ []) ↔ (can_take_up course past ≡ false)
    none_up Joined stands = waits past.breaks past.up_taken past.down_taken past.up line.up stands.ways.up
    none_up Broken stands = (λ none. refl, λ no. stands.ways.up)
    none_up Half stands = greets past.breaks past.down_taken (AreCarried past.breaks past.up_taken past.down_taken (drop past.up_taken past.up)) line.up stands.ways.up

    pub none_down : (course : Course) → LinkStands course past line → (line.down ≡ []) ↔ (can_take_down course past ≡ false)
    none_down Joined stands = waits past.breaks past.down_taken past.up_taken past.down line.down stands.ways.down
    none_down Broken stands = greets past.breaks past.up_taken (λ frames. frames ≡ []) line.down stands.ways.down
    none_down Half stands = (λ none. refl, λ no. stands.ways.down)

pub links_go_on : {M : Type 0} → LinksGoOn M
links_go_on = record {
  opens = record {
    client = record { role = refl; sent = record { seen = omega arith; kept = refl }; accepted = refl; epoch = refl; said_hello = refl };
    server = record { role = refl; sent = record { seen = omega arith; kept = refl }; accepted = refl; epoch = refl; said_hello = refl };
    ready = refl;
    given = refl;
    up_seen = omega arith;
    down_seen = omega arith;
    up_few = omega arith;
    down_few = omega arith;
    ways = record { epochs = refl; ready = refl; given = refl; up = tt; down = tt };
  };
  sends_up = λ course past line message clock stands. sends_up past line message clock course stands;
  sends_down = λ course past line message clock stands. sends_down past line message clock course stands;
  takes_up = λ past line one stands next. takes_up past line one stands next;
  takes_down = λ past line one stands next. takes_down past line one stands next;
  client_rejoins = λ past line stands. client_rejoins past line stands;
  server_rejoins = λ past line stands. server_rejoins past line stands;
  breaks = λ past line stands. breaks past line stands;
  none_up = λ course past line stands. none_up past line course stands;
  none_down = λ course past line stands. none_down past line course stands;
}
