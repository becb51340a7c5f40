-- What the server can take over a client's connection: the first letter in flight, or the Hello that joins it again.
use Rattle.std.proofs.Common.{ℕ, suc, ◌+◌, ◌≡◌, ◌⊎◌, inl, inr, refl, sym, ◌∙◌, Bool, true, false, not, Option, Some, List, ◌∷◌, drop}
use Rattle.dso_base.specs.declared.journal.Entry.{Entry}
use Rattle.dso_base.specs.declared.lock.ThreadId.{ThreadId}
use Rattle.dso_base.specs.declared.message.Up.{Up}
use Rattle.dso_base.specs.declared.request.Event.{Event}
use Rattle.dso_base.specs.declared.request.Request.{Request}
use Rattle.dso_law.specs.Channels.{Letter, to_server, up_in_flight}
use Rattle.dso_law.specs.Settings.{Settings}
use Rattle.dso_legal.specs.Lawful.{IsLawful}
use Rattle.dso_legal.specs.Slots as slots
use Rattle.dso_lookup.proofs.Tests.{both as each}
use Rattle.dso_session.specs.declared.frame.Accepted.TheVariants as accepted
use Rattle.dso_base.specs.declared.both.Both.{Both}
use Rattle.dso_base.specs.declared.both.Both.TheVariants as both
use Rattle.dso_world.specs.Link.{Line, first_answer, taken_up}
use Rattle.dso_world.specs.LinkStands.{Course, Joined, Broken, Half, LinkStands, Past, can_take_up}
use Rattle.dso_world.specs.PastOf.{course_of, letters_posted, letters_taken, past_of}
use Rattle.dso_world.proofs.journals.Letters.{letters_are_left}
use Rattle.dso_world.proofs.links.Takes.{links_go_on}
use Rattle.dso_world.proofs.premises.WhatComes.{next_letter}

module _ (p : Settings) (next : ThreadId → List Event → Option Request) (es : List Entry) (c : ℕ) (line : Line Both) where
  abbrev pub past : Past Both
  past = past_of both.Up both.Down c es

  -- a message comes up, over a joined connection
  pub record MessageComes : Type 0 where
    pub letter : Letter Up
    pub rest : List (Letter Up)
    pub first : up_in_flight c es ≡ letter ∷ rest
    pub answer : first_answer line.up line.server ≡ Some (accepted.Up (both.Up letter.message) letter.clock)
    pub stands : LinkStands Joined (record past { up_taken = past.up_taken + 1 }) (taken_up line)
    pub course : course_of p c es ≡ Joined

  -- the connection is joined again, which the client had taken up again
  pub record RejoinComes : Type 0 where
    pub answer : first_answer line.up line.server ≡ Some (accepted.Rejoined past.down_taken)
    pub stands : LinkStands Joined past (taken_up line)
    pub course : course_of p c es ≡ Half

  not_false : (b : Bool) → not b ≡ true → b ≡ false
  not_false true e = absurd (cc e)
  not_false false e = refl

  module _ (lawful : IsLawful p next es) (link : LinkStands (course_of p c es) past line) (can : slots.can_take_up p c es ≡ true) where
    -- both halves of the test
    halves : (not (slots.is_loss_or_break_due p c es) ≡ true) × (can_take_up (course_of p c es) past ≡ true)
    halves = each (not (slots.is_loss_or_break_due p c es)) (can_take_up (course_of p c es) past) (sym (letters_are_left.takes p next es lawful both.Up both.Down c).up ∙ can)

    pub none_due : slots.is_loss_or_break_due p c es ≡ false
    none_due = not_false (slots.is_loss_or_break_due p c es) halves.0

    pub comes_up : MessageComes ⊎ RejoinComes
    comes_up = by (course_of p c es) refl link halves.1
      where
        by : (course : Course) → course_of p c es ≡ course → LinkStands course past line → can_take_up course past ≡ true → MessageComes ⊎ RejoinComes
        by Joined is link can =
            let found = next_letter both.Up (letters_posted (to_server c) es) (up_in_flight c es) (letters_taken (to_server c) es) ((letters_are_left {M = Both}).up p next es lawful.follow c).left can in
            let takes = links_go_on.takes_up past line (record { message = both.Up found.0.message; clock = found.0.clock }) link found.1.place in
            inl (record { letter = found.0; rest = drop (suc (letters_taken (to_server c) es)) (letters_posted (to_server c) es); first = found.1.first; answer = takes.answer; stands = takes.stands; course = is })
        by Broken is link can = absurd (cc can)
        by Half is link can =
            let rejoins = links_go_on.server_rejoins past line link in
            inr (record { answer = rejoins.answer; stands = rejoins.stands; course = is })
