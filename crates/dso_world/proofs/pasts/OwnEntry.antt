-- What an entry of a client does to the pasts of the connections.
use Rattle.std.proofs.Common.{ℕ, suc, ◌+◌, ◌≡◌, ◌∙◌, ap, Bool, true, false, cond, eqb, ltb, not, Option, None, List, [], ◌∷◌, ◌++◌, map, arith}
use Rattle.std.proofs.lemmas.Bool.{le-ltb}
use Rattle.dso_base.specs.declared.journal.Entry.{Entry}
use Rattle.dso_base.specs.declared.journal.Input.{Input}
use Rattle.dso_base.specs.declared.journal.Input.TheVariants as input
use Rattle.dso_base.specs.declared.journal.Node.TheVariants.{Server, Client}
use Rattle.dso_base.specs.declared.journal.Sent.{Sent}
use Rattle.dso_base.specs.declared.journal.Sent.TheVariants.{ToServer}
use Rattle.dso_base.specs.declared.message.Down.{Down}
use Rattle.dso_base.specs.declared.message.Up.{Up}
use Rattle.dso_base.specs.declared.request.Event.{Event}
use Rattle.dso_plain.proofs.keys.SameKeys.{number_self}
use Rattle.dso_law.specs.Settings.{Settings}
use Rattle.dso_law.specs.Channels.{count_inputs, is_broken, posted, rejoins, takes_down, to_server}
use Rattle.dso_law.specs.Entries.{by_sent_up, entries_of}
use Rattle.dso_world.specs.LinkStands.{Broken, Half, Past}
use Rattle.dso_world.specs.PastOf.{course_of, letters_posted, past_of, post_of}
use Rattle.dso_base.specs.declared.both.Both.{Both}
use Rattle.dso_base.specs.declared.both.Both.TheVariants as both
use Rattle.dso_world.proofs.pasts.Courses.{course_by, is_broken_by}
use Rattle.dso_world.proofs.pasts.Posting.{posts_up}
use Rattle.dso_world.proofs.sending.Posts.{up_post, with_up}

module _ (c : ℕ) (es : List Entry) where
  -- the past of the client's connection
  abbrev past : Past Both
  past = past_of both.Up both.Down c es

  -- the past after an entry of a client, by whether it is this one
  abbrev past_with : Bool → Entry → Past Both
  past_with its e = record past {
    up = map (post_of both.Up) (cond its (by_sent_up (posted e.clock) e.sent (letters_posted (to_server c) es)) (letters_posted (to_server c) es));
    down_taken = count_inputs takes_down (cond its (e ∷ entries_of (Client c) es) (entries_of (Client c) es));
    rejoins = count_inputs (rejoins c) (cond its (e ∷ entries_of (Client c) es) (entries_of (Client c) es));
  }

  module _ (clock : ℕ) (input : Input) (event : Option Event) where
    -- an entry of another client leaves it as it is
    pub other_past : (d : ℕ) (sent : List Sent) → eqb c d ≡ false
        → past_of both.Up both.Down c (record { clock = clock; node = Client d; input = input; sent = sent; event = event } ∷ es) ≡ past
    other_past d sent other = ap (λ its. past_with its (record { clock = clock; node = Client d; input = input; sent = sent; event = event })) other

    pub other_course : (p : Settings) (d : ℕ) (sent : List Sent) → eqb c d ≡ false
        → course_of p c (record { clock = clock; node = Client d; input = input; sent = sent; event = event } ∷ es) ≡ course_of p c es
    other_course p d sent other = ap (λ its. course_by (is_broken c (entries_of Server es))
        (count_inputs (rejoins c) (cond its (record { clock = clock; node = Client d; input = input; sent = sent; event = event } ∷ entries_of (Client c) es) (entries_of (Client c) es))) past.breaks) other

    -- what the client's own entry sends stands behind what it sent before
    own_sent : (messages : List Up) → past_with true (record { clock = clock; node = Client c; input = input; sent = map ToServer messages; event = event })
        ≡ record past { up = past.up ++ map (up_post clock) messages; down_taken = cond (takes_down input) (suc past.down_taken) past.down_taken; rejoins = cond (rejoins c input) (suc past.rejoins) past.rejoins }
    own_sent messages = ap (λ up. record past { up = up; down_taken = cond (takes_down input) (suc past.down_taken) past.down_taken; rejoins = cond (rejoins c input) (suc past.rejoins) past.rejoins })
        (posts_up clock messages (letters_posted (to_server c) es))

    own_past : (messages : List Up) → past_of both.Up both.Down c (record { clock = clock; node = Client c; input = input; sent = map ToServer messages; event = event } ∷ es)
        ≡ record past { up = past.up ++ map (up_post clock) messages; down_taken = cond (takes_down input) (suc past.down_taken) past.down_taken; rejoins = cond (rejoins c input) (suc past.rejoins) past.rejoins }
    own_past messages = ap (λ its. past_with its (record { clock = clock; node = Client c; input = input; sent = map ToServer messages; event = event })) (number_self c) ∙ own_sent messages

    -- An act or a flush of the client adds what it sends,
    pub own_sends : (messages : List Up) → takes_down input ≡ false → rejoins c input ≡ false
        → past_of both.Up both.Down c (record { clock = clock; node = Client c; input = input; sent = map ToServer messages; event = event } ∷ es) ≡ with_up (map (up_post clock) messages) past
    own_sends messages none still = own_past messages
        ∙ ap (λ b. record past { up = past.up ++ map (up_post clock) messages; down_taken = cond b (suc past.down_taken) past.down_taken; rejoins = cond (rejoins c input) (suc past.rejoins) past.rejoins }) none
        ∙ ap (λ b. record past { up = past.up ++ map (up_post clock) messages; rejoins = cond b (suc past.rejoins) past.rejoins }) still

    -- and leaves the course.
    pub own_course : (p : Settings) (sent : List Sent) → rejoins c input ≡ false
        → course_of p c (record { clock = clock; node = Client c; input = input; sent = sent; event = event } ∷ es) ≡ course_of p c es
    own_course p sent still = ap (λ its. course_by (is_broken c (entries_of Server es))
        (count_inputs (rejoins c) (cond its (record { clock = clock; node = Client c; input = input; sent = sent; event = event } ∷ entries_of (Client c) es) (entries_of (Client c) es))) past.breaks) (number_self c)
        ∙ ap (λ b. course_by (is_broken c (entries_of Server es)) (cond b (suc past.rejoins) past.rejoins) past.breaks) still

  module _ (clock : ℕ) where
    -- A message that the client takes is one more taken, and what is sent then is added.
    pub own_takes : (m : Down) (messages : List Up) → past_of both.Up both.Down c (record { clock = clock; node = Client c; input = input.TookDown m; sent = map ToServer messages; event = None } ∷ es)
        ≡ with_up (map (up_post clock) messages) (record past { down_taken = past.down_taken + 1 })
    own_takes m messages = own_past clock (input.TookDown m) None messages ∙ ap (λ n. record past { up = past.up ++ map (up_post clock) messages; down_taken = n }) next
      where
        next : suc past.down_taken ≡ past.down_taken + 1
        next = omega arith

    -- A rejoin of the client is one more,
    pub own_rejoins : past_of both.Up both.Down c (record { clock = clock; node = Client c; input = input.Rejoin c; sent = []; event = None } ∷ es) ≡ record past { rejoins = past.rejoins + 1 }
    own_rejoins = ap (λ its. past_with its (record { clock = clock; node = Client c; input = input.Rejoin c; sent = []; event = None })) (number_self c)
        ∙ ap (λ b. record past { rejoins = cond b (suc past.rejoins) past.rejoins }) (number_self c) ∙ ap (λ n. record past { rejoins = n }) next
      where
        next : suc past.rejoins ≡ past.rejoins + 1
        next = omega arith

    -- and makes of a broken connection one that the client has taken up again.
    pub own_half : (p : Settings) → course_of p c es ≡ Broken → past.rejoins + 1 ≡ past.breaks
        → course_of p c (record { clock = clock; node = Client c; input = input.Rejoin c; sent = []; event = None } ∷ es) ≡ Half
    own_half p broken once =
        let broke : is_broken c (entries_of Server es) ≡ true = (is_broken_by (is_broken c (entries_of Server es)) past.rejoins past.breaks broken).0 in
        let none : ltb (suc past.rejoins) past.breaks ≡ false = le-ltb (suc past.rejoins) past.breaks (omega (arith, once)) in
        ap (λ its. course_by (is_broken c (entries_of Server es))
        (count_inputs (rejoins c) (cond its (record { clock = clock; node = Client c; input = input.Rejoin c; sent = []; event = None } ∷ entries_of (Client c) es) (entries_of (Client c) es))) past.breaks) (number_self c)
        ∙ ap (λ b. course_by (is_broken c (entries_of Server es)) (cond b (suc past.rejoins) past.rejoins) past.breaks) (number_self c)
        ∙ ap (λ b. course_by b (suc past.rejoins) past.breaks) broke
        ∙ ap (λ b. cond (not b) Half Broken) none
