-- Frames that carry messages.
use Rattle.std.proofs.Common.{ℕ, ◌+◌, ◌-◌, ◌≤◌, ◌≡◌, refl, ◌∙◌, ap, subst, true, false, cond, List, [], ◌∷◌, ◌++◌, drop, length, arith}
use Rattle.std.proofs.Math.ListN.{drop_of_length-le}
use Rattle.std.proofs.lemmas.List.{drop-drop}
use Rattle.dso_session.specs.declared.frame.Frame.{Frame}
use Rattle.dso_session.specs.declared.frame.Frame.TheVariants.{Hello}
use Rattle.dso_session.specs.declared.session.Posted.{Posted}
use Rattle.dso_session.specs.Ends.{End}
use Rattle.dso_session.specs.Laws.{HasSent}
use Rattle.dso_world.specs.Link.{carried, emptied, gives, left_to_give}
use Rattle.dso_world.specs.LinkStands.{AreCarried, GreetsFirst}

module _ {M : Type 0} where
  -- frames carry the messages of which they are made
  pub carried_are : (epoch number seen limit : ℕ) (messages : List (Posted M)) → seen ≤ limit → AreCarried epoch number limit messages (carried epoch number seen messages)
  carried_are epoch number seen limit [] few = tt
  carried_are epoch number seen limit (one ∷ rest) few = (record { seen = seen; few = few; is = refl }, carried_are epoch (number + 1) seen limit rest few)

  -- so many messages on
  pub carried_more : (epoch number limit : ℕ) (messages more : List (Posted M)) (frames others : List (Frame M)) → AreCarried epoch number limit messages frames
      → AreCarried epoch (number + length messages) limit more others → AreCarried epoch number limit (messages ++ more) (frames ++ others)
  carried_more epoch number limit [] more [] others are then = subst (λ n. AreCarried epoch n limit more others) (omega arith) then
  carried_more epoch number limit (one ∷ rest) more (frame ∷ frames) others are then =
      (are.0, carried_more epoch (number + 1) limit rest more frames others are.1 (subst (λ n. AreCarried epoch n limit more others) (omega arith) then))
  carried_more epoch number limit [] more (frame ∷ frames) others are then = absurd are
  carried_more epoch number limit (one ∷ rest) more [] others are then = absurd are

  -- a greater limit
  pub carried_wider : (epoch number limit wider : ℕ) (messages : List (Posted M)) (frames : List (Frame M)) → limit ≤ wider → AreCarried epoch number limit messages frames → AreCarried epoch number wider messages frames
  carried_wider epoch number limit wider [] [] less are = tt
  carried_wider epoch number limit wider (one ∷ rest) (frame ∷ frames) less are =
      (record { seen = are.0.seen; few = omega (arith, are.0.few, less); is = are.0.is }, carried_wider epoch (number + 1) limit wider rest frames less are.1)
  carried_wider epoch number limit wider [] (frame ∷ frames) less are = absurd are
  carried_wider epoch number limit wider (one ∷ rest) [] less are = absurd are

  -- as many frames as messages
  pub carried_none : (epoch number limit : ℕ) (messages : List (Posted M)) → AreCarried epoch number limit messages [] → messages ≡ []
  carried_none epoch number limit [] are = refl
  carried_none epoch number limit (one ∷ rest) are = absurd are

  pub none_carried : (epoch number limit : ℕ) (frames : List (Frame M)) → AreCarried epoch number limit [] frames → frames ≡ []
  none_carried epoch number limit [] are = refl
  none_carried epoch number limit (frame ∷ frames) are = absurd are

  -- more frames behind those that begin with a Hello
  pub greets_more : (epoch seen : ℕ) (Then Now : List (Frame M) → Type 0) (frames others : List (Frame M)) → ((rest : List (Frame M)) → Then rest → Now (rest ++ others))
      → GreetsFirst epoch seen Then frames → GreetsFirst epoch seen Now (frames ++ others)
  greets_more epoch seen Then Now [] others on are = absurd are
  greets_more epoch seen Then Now (frame ∷ frames) others on are = (are.0, on frames are.1)

  module _ (sent : List (Posted M)) (end : End M) (has : HasSent sent end) where
    -- what an end that is ready and owes no Hello can give
    pub gives_rest : end.owes_hello ≡ false → end.is_ready ≡ true → end.seen ≤ end.given → gives end ≡ carried end.epoch end.given end.accepted (drop end.given sent)
    gives_rest hello ready order =
        let all : end.seen + (end.given - end.seen) ≡ end.given = omega (arith, order) in
        ap (λ owes. cond owes (Hello end.epoch end.accepted end.clock ∷ []) [] ++ carried end.epoch end.given end.accepted (left_to_give end)) hello
        ∙ ap (λ is. carried end.epoch end.given end.accepted (cond is (drop (end.given - end.seen) end.kept) [])) ready
        ∙ ap (λ kept. carried end.epoch end.given end.accepted (drop (end.given - end.seen) kept)) has.kept
        ∙ ap (carried end.epoch end.given end.accepted) (drop-drop (end.given - end.seen) end.seen sent)
        ∙ ap (λ n. carried end.epoch end.given end.accepted (drop n sent)) all

    -- nothing, where it gave all
    pub gives_nothing : end.owes_hello ≡ false → end.is_ready ≡ true → end.seen ≤ end.given → length sent ≤ end.given → gives end ≡ []
    gives_nothing hello ready order all = gives_rest hello ready order ∙ ap (carried end.epoch end.given end.accepted) (drop_of_length-le sent all)

    -- what it sent stays
    pub emptied_has : HasSent sent (emptied end)
    emptied_has = record { seen = has.seen; kept = has.kept }

  -- nothing, where it isn't ready
  pub unready_gives : (end : End M) → end.owes_hello ≡ false → end.is_ready ≡ false → gives end ≡ []
  unready_gives end hello ready =
      ap (λ owes. cond owes (Hello end.epoch end.accepted end.clock ∷ []) [] ++ carried end.epoch end.given end.accepted (left_to_give end)) hello
      ∙ ap (λ is. carried end.epoch end.given end.accepted (cond is (drop (end.given - end.seen) end.kept) [])) ready
