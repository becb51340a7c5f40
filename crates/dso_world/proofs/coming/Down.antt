-- What a client can take over its connection: the first letter in flight, or the Hello of a connection that broke.
use Rattle.std.proofs.Common.{ℕ, suc, ◌+◌, ◌≡◌, ◌⊎◌, inl, inr, refl, sym, ◌∙◌, true, Option, Some, List, ◌∷◌, drop}
use Rattle.dso_base.specs.declared.journal.Entry.{Entry}
use Rattle.dso_base.specs.declared.lock.ThreadId.{ThreadId}
use Rattle.dso_base.specs.declared.message.Down.{Down}
use Rattle.dso_base.specs.declared.request.Event.{Event}
use Rattle.dso_base.specs.declared.request.Request.{Request}
use Rattle.dso_law.specs.Channels.{Letter, down_in_flight, to_client}
use Rattle.dso_law.specs.Settings.{Settings}
use Rattle.dso_legal.specs.Lawful.{IsLawful}
use Rattle.dso_legal.specs.Slots as slots
use Rattle.dso_session.specs.declared.frame.Accepted.TheVariants as accepted
use Rattle.dso_base.specs.declared.both.Both.{Both}
use Rattle.dso_base.specs.declared.both.Both.TheVariants as both
use Rattle.dso_world.specs.Link.{Line, first_answer, taken_down}
use Rattle.dso_world.specs.LinkStands.{Course, Joined, Broken, Half, LinkStands, Past, can_take_down}
use Rattle.dso_world.specs.PastOf.{course_of, letters_posted, letters_taken, past_of}
use Rattle.dso_world.proofs.journals.Letters.{letters_are_left}
use Rattle.dso_world.proofs.links.Takes.{links_go_on}
use Rattle.dso_world.proofs.premises.WhatComes.{next_letter}

module _ (p : Settings) (next : ThreadId → List Event → Option Request) (es : List Entry) (c : ℕ) (line : Line Both) where
  abbrev pub past : Past Both
  past = past_of both.Up both.Down c es

  -- a message comes down, over a joined connection
  pub record MessageComes : Type 0 where
    pub letter : Letter Down
    pub rest : List (Letter Down)
    pub first : down_in_flight c es ≡ letter ∷ rest
    pub answer : first_answer line.down line.client ≡ Some (accepted.Up (both.Down letter.message) letter.clock)
    pub stands : LinkStands Joined (record past { down_taken = past.down_taken + 1 }) (taken_down line)
    pub course : course_of p c es ≡ Joined

  -- the connection is taken up again, which was broken
  pub record RejoinComes : Type 0 where
    pub answer : first_answer line.down line.client ≡ Some (accepted.Rejoined past.up_taken)
    pub stands : LinkStands Half (record past { rejoins = past.rejoins + 1 }) (taken_down line)
    pub course : course_of p c es ≡ Broken
    pub once : past.rejoins + 1 ≡ past.breaks

  module _ (lawful : IsLawful p next es) (link : LinkStands (course_of p c es) past line) (can : slots.can_take_down p c es ≡ true) where
    pub comes_down : MessageComes ⊎ RejoinComes
    comes_down = by (course_of p c es) refl link (sym (letters_are_left.takes p next es lawful both.Up both.Down c).down ∙ can)
      where
        by : (course : Course) → course_of p c es ≡ course → LinkStands course past line → can_take_down course past ≡ true → MessageComes ⊎ RejoinComes
        by Joined is link can =
            let found = next_letter both.Down (letters_posted (to_client c) es) (down_in_flight c es) (letters_taken (to_client c) es) ((letters_are_left {M = Both}).down p next es lawful.follow c).left can in
            let takes = links_go_on.takes_down past line (record { message = both.Down found.0.message; clock = found.0.clock }) link found.1.place in
            inl (record { letter = found.0; rest = drop (suc (letters_taken (to_client c) es)) (letters_posted (to_client c) es); first = found.1.first; answer = takes.answer; stands = takes.stands; course = is })
        by Broken is link can =
            let rejoins = links_go_on.client_rejoins past line link in
            inr (record { answer = rejoins.answer; stands = rejoins.stands; course = is; once = link.ways.epochs })
        by Half is link can = absurd (cc can)
