-- What happens to the connection of a client makes of it one that stands for what has happened.
use Rattle.std.proofs.Common.{ℕ, ◌+◌, ◌≤◌, ◌≡◌, sym, ◌∙◌, ap, subst, false, cond, eqb, List, [], ◌∷◌, ◌++◌, drop, length, arith}
use Rattle.std.proofs.lemmas.List.{append-nil, drop-append-le, length-append, length-drop}
use Rattle.std.proofs.lemmas.Bool.{eq-eqb, ne_eqb}
use Rattle.dso_session.specs.declared.frame.Frame.{Frame}
use Rattle.dso_session.specs.declared.session.Posted.{Posted}
use Rattle.dso_session.specs.declared.session.Role.TheVariants as role
use Rattle.dso_session.specs.Ends.{End, posted}
use Rattle.dso_world.specs.Link.{Line, carried, gives, sent_down, sent_up}
use Rattle.dso_world.specs.LinkStands.{AreCarried, Course, CourseStands, GreetsFirst, LinkStands, Past}
use Rattle.dso_world.specs.LinkStands.{Joined, Broken, Half}
use Rattle.dso_world.proofs.links.Carried.{carried_are, carried_more, greets_more, unready_gives}
use Rattle.dso_world.proofs.links.Ends.{gave_all, posted_gives, posted_stands, sent_one}

module _ {M : Type 0} where
  -- a message more, and its frame
  one_more : (epoch taken limit seen : ℕ) (posts : List (Posted M)) (one : Posted M) (frames : List (Frame M)) → taken ≤ length posts → seen ≤ limit → AreCarried epoch taken limit (drop taken posts) frames
      → AreCarried epoch taken limit (drop taken (posts ++ one ∷ [])) (frames ++ carried epoch (length posts) seen (one ∷ []))
  one_more epoch taken limit seen posts one frames few less are =
      let place : length posts ≡ taken + length (drop taken posts) = omega (arith, length-drop taken posts) in
      subst (λ list. AreCarried epoch taken limit list (frames ++ carried epoch (length posts) seen (one ∷ []))) (sym (drop-append-le taken posts (one ∷ []) few))
      (carried_more epoch taken limit (drop taken posts) (one ∷ []) frames (carried epoch (length posts) seen (one ∷ [])) are
      (subst (λ n. AreCarried epoch n limit (one ∷ []) (carried epoch (length posts) seen (one ∷ []))) place (carried_are epoch (length posts) seen limit (one ∷ []) less)))

  -- frames of the server's epoch go up, others don't
  pub goes_up : (line : Line M) (client : End M) → client.epoch ≡ line.server.epoch → cond (eqb client.epoch line.server.epoch) (line.up ++ gives client) [] ≡ line.up ++ gives client
  goes_up line client same = ap (λ b. cond b (line.up ++ gives client) []) (eq-eqb client.epoch line.server.epoch same)

  pub dropped_up : (line : Line M) (client : End M) → client.epoch + 1 ≡ line.server.epoch → cond (eqb client.epoch line.server.epoch) (line.up ++ gives client) [] ≡ []
  dropped_up line client other = ap (λ b. cond b (line.up ++ gives client) []) (ne_eqb client.epoch line.server.epoch (λ same. absurd (omega (arith, same, other))))

  module _ (past : Past M) (line : Line M) (message : M) (clock : ℕ) where
    abbrev said_up : Past M
    said_up = record past { up = past.up ++ record { message = message; clock = clock } ∷ [] }

    abbrev said_down : Past M
    said_down = record past { down = past.down ++ record { message = message; clock = clock } ∷ [] }

    longer : (posts : List (Posted M)) (taken : ℕ) → taken ≤ length posts → taken ≤ length (posts ++ record { message = message; clock = clock } ∷ [])
    longer posts taken few = omega (arith, few, length-append posts (record { message = message; clock = clock } ∷ []))

    -- the client sends
    up_sent : (course : Course) → LinkStands course past line → CourseStands course said_up (sent_up message clock line) → LinkStands course said_up (sent_up message clock line)
    up_sent course stands ways = record {
      client = posted_stands role.Client past.up past.down_taken past.rejoins line.client stands.client message clock;
      server = stands.server;
      ready = stands.ready;
      given = gave_all said_up.up (posted message clock line.client) (sent_one role.Client past.up past.down_taken past.rejoins line.client stands.client message clock) stands.ready;
      up_seen = stands.up_seen;
      down_seen = stands.down_seen;
      up_few = longer past.up past.up_taken stands.up_few;
      down_few = stands.down_few;
      ways = ways;
    }

    -- of both ends in one epoch the frame goes up
    up_frames : (course : Course) → (stands : LinkStands course past line) → past.rejoins ≡ past.breaks
        → (sent_up message clock line).up ≡ line.up ++ carried past.breaks (length past.up) past.down_taken (record { message = message; clock = clock } ∷ [])
    up_frames course stands same =
        goes_up line (posted message clock line.client) (stands.client.epoch ∙ same ∙ sym stands.server.epoch)
        ∙ ap (λ frames. line.up ++ frames) (posted_gives role.Client past.up past.down_taken past.rejoins line.client stands.client message clock stands.ready stands.given)
        ∙ ap (λ epoch. line.up ++ carried epoch (length past.up) past.down_taken (record { message = message; clock = clock } ∷ [])) same

    pub sends_up : (course : Course) → LinkStands course past line → LinkStands course said_up (sent_up message clock line)
    sends_up Joined stands = up_sent Joined stands (record {
      epochs = stands.ways.epochs;
      ready = stands.ways.ready;
      given = stands.ways.given;
      up = subst (AreCarried past.breaks past.up_taken past.down_taken (drop past.up_taken said_up.up)) (sym (up_frames Joined stands stands.ways.epochs))
          (one_more past.breaks past.up_taken past.down_taken past.down_taken past.up (record { message = message; clock = clock }) line.up stands.up_few (omega arith) stands.ways.up);
      down = stands.ways.down;
    })
    sends_up Broken stands = up_sent Broken stands (record {
      epochs = stands.ways.epochs;
      ready = stands.ways.ready;
      up = dropped_up line (posted message clock line.client) (ap (λ n. n + 1) stands.client.epoch ∙ stands.ways.epochs ∙ sym stands.server.epoch);
      down = stands.ways.down;
    })
    sends_up Half stands = up_sent Half stands (record {
      epochs = stands.ways.epochs;
      ready = stands.ways.ready;
      up = subst (GreetsFirst past.breaks past.down_taken (AreCarried past.breaks past.up_taken past.down_taken (drop past.up_taken said_up.up))) (sym (up_frames Half stands stands.ways.epochs))
          (greets_more past.breaks past.down_taken (AreCarried past.breaks past.up_taken past.down_taken (drop past.up_taken past.up)) (AreCarried past.breaks past.up_taken past.down_taken (drop past.up_taken said_up.up))
          line.up (carried past.breaks (length past.up) past.down_taken (record { message = message; clock = clock } ∷ []))
          (λ rest are. one_more past.breaks past.up_taken past.down_taken past.down_taken past.up (record { message = message; clock = clock }) rest stands.up_few (omega arith) are) stands.ways.up);
      down = stands.ways.down;
    })

    -- the server sends
    down_sent : (course : Course) → LinkStands course past line → CourseStands course said_down (sent_down message clock line) → LinkStands course said_down (sent_down message clock line)
    down_sent course stands ways = record {
      client = stands.client;
      server = posted_stands role.Server past.down past.up_taken past.breaks line.server stands.server message clock;
      ready = stands.ready;
      given = stands.given;
      up_seen = stands.up_seen;
      down_seen = stands.down_seen;
      up_few = stands.up_few;
      down_few = longer past.down past.down_taken stands.down_few;
      ways = ways;
    }

    -- nothing goes down where the server isn't ready
    same_down : (course : Course) → LinkStands course past line → line.server.is_ready ≡ false → (sent_down message clock line).down ≡ line.down
    same_down course stands ready = ap (λ frames. line.down ++ frames) (unready_gives (posted message clock line.server) stands.server.said_hello ready) ∙ append-nil line.down

    pub sends_down : (course : Course) → LinkStands course past line → LinkStands course said_down (sent_down message clock line)
    sends_down Joined stands = down_sent Joined stands (record {
      epochs = stands.ways.epochs;
      ready = stands.ways.ready;
      given = gave_all said_down.down (posted message clock line.server) (sent_one role.Server past.down past.up_taken past.breaks line.server stands.server message clock) stands.ways.ready;
      up = stands.ways.up;
      down = subst (AreCarried past.breaks past.down_taken past.up_taken (drop past.down_taken said_down.down))
          (sym (ap (λ frames. line.down ++ frames) (posted_gives role.Server past.down past.up_taken past.breaks line.server stands.server message clock stands.ways.ready stands.ways.given)))
          (one_more past.breaks past.down_taken past.up_taken past.up_taken past.down (record { message = message; clock = clock }) line.down stands.down_few (omega arith) stands.ways.down);
    })
    sends_down Broken stands = down_sent Broken stands (record {
      epochs = stands.ways.epochs;
      ready = stands.ways.ready;
      up = stands.ways.up;
      down = subst (GreetsFirst past.breaks past.up_taken (λ frames. frames ≡ [])) (sym (same_down Broken stands stands.ways.ready)) stands.ways.down;
    })
    sends_down Half stands = down_sent Half stands (record {
      epochs = stands.ways.epochs;
      ready = stands.ways.ready;
      up = stands.ways.up;
      down = same_down Half stands stands.ways.ready ∙ stands.ways.down;
    })
