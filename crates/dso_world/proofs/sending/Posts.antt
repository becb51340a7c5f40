-- The messages of an entry, as its connections carry them, and that a connection stands with them.
use Rattle.std.proofs.Common.{ℕ, sym, subst, Bool, true, false, cond, eqb, List, [], ◌∷◌, ◌++◌, map}
use Rattle.std.proofs.lemmas.List.{append-nil, append_assoc}
use Rattle.dso_base.specs.declared.message.Down.{Down}
use Rattle.dso_base.specs.declared.message.Up.{Up}
use Rattle.dso_session.specs.declared.session.Posted.{Posted}
use Rattle.dso_base.specs.declared.both.Both.{Both}
use Rattle.dso_base.specs.declared.both.Both.TheVariants as both
use Rattle.dso_world.specs.Link.{Line, sent_down, sent_up}
use Rattle.dso_world.specs.LinkStands.{Course, LinkStands, Past}
use Rattle.dso_world.specs.SentMessages.{all_sent_down, all_sent_up}
use Rattle.dso_world.proofs.links.Takes.{links_go_on}

-- a message up, as its connection carries it
abbrev pub up_post : ℕ → Up → Posted Both
up_post clock m = record { message = both.Up m; clock = clock }

abbrev pub down_post : ℕ → Down → Posted Both
down_post clock m = record { message = both.Down m; clock = clock }

-- those of these messages that are for client c, as its connection carries them
abbrev pub down_posts : ℕ → ℕ → List (ℕ × Down) → List (Posted Both)
down_posts c clock [] = []
down_posts c clock (m ∷ messages) = cond (eqb c m.0) (down_post clock m.1 ∷ down_posts c clock messages) (down_posts c clock messages)

-- what happened to a connection, with these messages sent up, or down
abbrev pub with_up : List (Posted Both) → Past Both → Past Both
with_up posts past = record past { up = past.up ++ posts }

abbrev pub with_down : List (Posted Both) → Past Both → Past Both
with_down posts past = record past { down = past.down ++ posts }

module _ (course : Course) (clock : ℕ) where
  pub all_up_stand : (messages : List Up) (past : Past Both) (line : Line Both) → LinkStands course past line
      → LinkStands course (with_up (map (up_post clock) messages) past) (all_sent_up clock messages line)
  all_up_stand [] past line stands = subst (λ up. LinkStands course (record past { up = up }) line) (sym (append-nil past.up)) stands
  all_up_stand (m ∷ messages) past line stands =
      subst (λ up. LinkStands course (record past { up = up }) (all_sent_up clock (m ∷ messages) line)) (append_assoc past.up (up_post clock m ∷ []) (map (up_post clock) messages))
      (all_up_stand messages (with_up (up_post clock m ∷ []) past) (sent_up (both.Up m) clock line) (links_go_on.sends_up course past line (both.Up m) clock stands))

  -- the connection stands with those of these messages that are for its client
  abbrev StandsWith : ℕ → List (ℕ × Down) → List (Posted Both) → Past Both → Line Both → Type 0
  StandsWith c messages posts past line = LinkStands course (with_down posts past) (all_sent_down c clock messages line)

  pub all_down_stand : (c : ℕ) (messages : List (ℕ × Down)) (past : Past Both) (line : Line Both) → LinkStands course past line
      → LinkStands course (with_down (down_posts c clock messages) past) (all_sent_down c clock messages line)
  all_down_stand c [] past line stands = subst (λ down. LinkStands course (record past { down = down }) line) (sym (append-nil past.down)) stands
  all_down_stand c (m ∷ messages) past line stands =
      by (eqb c m.0) (all_down_stand c messages past line stands)
      (all_down_stand c messages (with_down (down_post clock m.1 ∷ []) past) (sent_down (both.Down m.1) clock line) (links_go_on.sends_down course past line (both.Down m.1) clock stands))
    where
      by : (its : Bool) → StandsWith c messages (down_posts c clock messages) past line
          → StandsWith c messages (down_posts c clock messages) (with_down (down_post clock m.1 ∷ []) past) (sent_down (both.Down m.1) clock line)
          → StandsWith c messages (cond its (down_post clock m.1 ∷ down_posts c clock messages) (down_posts c clock messages)) past (cond its (sent_down (both.Down m.1) clock line) line)
      by true rest more = subst (λ down. LinkStands course (record past { down = down }) (all_sent_down c clock messages (sent_down (both.Down m.1) clock line))) (append_assoc past.down (down_post clock m.1 ∷ []) (down_posts c clock messages)) more
      by false rest more = rest
