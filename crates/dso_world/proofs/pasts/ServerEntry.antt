-- What an entry of the server does to the pasts of the connections.
use Rattle.std.proofs.Common.{ℕ, suc, ◌+◌, ◌≡◌, ◌∙◌, ap, true, false, cond, eqb, ltb, not, List, ◌∷◌, ◌++◌, arith}
use Rattle.dso_base.specs.declared.journal.Entry.{Entry}
use Rattle.dso_base.specs.declared.journal.Node.TheVariants.{Server}
use Rattle.dso_base.specs.declared.message.Down.{Down}
use Rattle.dso_base.specs.declared.message.Up.{Up}
use Rattle.dso_law.specs.Settings.{Settings}
use Rattle.dso_law.specs.Channels.{is_broken, to_client}
use Rattle.dso_law.specs.Entries.{entries_of}
use Rattle.dso_server.specs.Sending.{broke, lost, rejoined, sent_of, took}
use Rattle.dso_world.specs.LinkStands.{Joined, Broken, Half, Past}
use Rattle.dso_world.specs.PastOf.{course_of, letters_posted, past_of}
use Rattle.dso_base.specs.declared.both.Both.{Both}
use Rattle.dso_base.specs.declared.both.Both.TheVariants as both
use Rattle.dso_world.proofs.links.Ends.{below}
use Rattle.dso_world.proofs.pasts.Courses.{course_by}
use Rattle.dso_world.proofs.pasts.Posting.{posts_down}
use Rattle.dso_world.proofs.sending.Posts.{down_posts, with_down}

module _ (c : ℕ) (es : List Entry) where
  -- the past of the client's connection
  abbrev past : Past Both
  past = past_of both.Up both.Down c es

  module _ (clock : ℕ) (d : ℕ) where
    -- ---- a message taken

    -- A message taken of the client is one more taken, and what goes to the client is added;
    pub server_takes : (m : Up) (messages : List (ℕ × Down)) → eqb c d ≡ true
        → past_of both.Up both.Down c (took clock d m (sent_of messages) ∷ es) ≡ with_down (down_posts c clock messages) (record past { up_taken = past.up_taken + 1 })
    server_takes m messages its = ap (λ down. record past { up_taken = cond (eqb c d) (suc past.up_taken) past.up_taken; down = down }) (posts_down c clock messages (letters_posted (to_client c) es))
        ∙ ap (λ b. record past { up_taken = cond b (suc past.up_taken) past.up_taken; down = past.down ++ down_posts c clock messages }) its
        ∙ ap (λ n. record past { up_taken = n; down = past.down ++ down_posts c clock messages }) next
      where
        next : suc past.up_taken ≡ past.up_taken + 1
        next = omega arith

    -- of another client, only what goes to this one is.
    pub server_takes_other : (m : Up) (messages : List (ℕ × Down)) → eqb c d ≡ false
        → past_of both.Up both.Down c (took clock d m (sent_of messages) ∷ es) ≡ with_down (down_posts c clock messages) past
    server_takes_other m messages other = ap (λ down. record past { up_taken = cond (eqb c d) (suc past.up_taken) past.up_taken; down = down }) (posts_down c clock messages (letters_posted (to_client c) es))
        ∙ ap (λ b. record past { up_taken = cond b (suc past.up_taken) past.up_taken; down = past.down ++ down_posts c clock messages }) other

    -- ---- a loss

    -- At a loss of any client what goes to this one is added.
    pub server_loses : (messages : List (ℕ × Down)) → past_of both.Up both.Down c (lost clock d (sent_of messages) ∷ es) ≡ with_down (down_posts c clock messages) past
    server_loses messages = ap (λ down. record past { down = down }) (posts_down c clock messages (letters_posted (to_client c) es))

    -- ---- a break

    -- A break of the client's connection is one more, and the connection is broken then;
    pub server_breaks : eqb c d ≡ true → past_of both.Up both.Down c (broke clock d ∷ es) ≡ record past { breaks = past.breaks + 1 }
    server_breaks its = ap (λ b. record past { breaks = cond b (suc past.breaks) past.breaks }) its ∙ ap (λ n. record past { breaks = n }) next
      where
        next : suc past.breaks ≡ past.breaks + 1
        next = omega arith

    pub server_breaks_course : (p : Settings) → eqb c d ≡ true → past.rejoins ≡ past.breaks → course_of p c (broke clock d ∷ es) ≡ Broken
    server_breaks_course p its even =
        let behind : ltb past.rejoins (suc past.breaks) ≡ true = below past.rejoins (suc past.breaks) (omega (arith, even)) in
        ap (λ b. course_by (cond b true (cond false false (is_broken c (entries_of Server es)))) past.rejoins (cond b (suc past.breaks) past.breaks)) its
        ∙ ap (λ b. cond (not b) Half Broken) behind

    -- of another's, this one stays as it is.
    pub server_breaks_other : eqb c d ≡ false → past_of both.Up both.Down c (broke clock d ∷ es) ≡ past
    server_breaks_other other = ap (λ b. record past { breaks = cond b (suc past.breaks) past.breaks }) other

    pub server_breaks_other_course : (p : Settings) → eqb c d ≡ false → course_of p c (broke clock d ∷ es) ≡ course_of p c es
    server_breaks_other_course p other =
        ap (λ b. course_by (cond b true (cond false false (is_broken c (entries_of Server es)))) past.rejoins (cond b (suc past.breaks) past.breaks)) other

    -- ---- a rejoin

    pub server_rejoins_course : (p : Settings) → eqb c d ≡ true → course_of p c (rejoined clock d ∷ es) ≡ Joined
    server_rejoins_course p its = ap (λ b. course_by (cond false true (cond b false (is_broken c (entries_of Server es)))) past.rejoins past.breaks) its

    -- that of another's leaves this one as it is.
    pub server_rejoins_other_course : (p : Settings) → eqb c d ≡ false → course_of p c (rejoined clock d ∷ es) ≡ course_of p c es
    server_rejoins_other_course p other = ap (λ b. course_by (cond false true (cond b false (is_broken c (entries_of Server es)))) past.rejoins past.breaks) other
