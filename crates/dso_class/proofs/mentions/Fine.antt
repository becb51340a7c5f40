-- Mentions none of which breaks a rule: of two lists, and from the last to the first.
use Rattle.std.proofs.Common.{◌≡◌, refl, sym, ap, ◌∙◌, subst, List, [], ◌∷◌, ◌++◌, reverse, append_assoc, append-nil}
use Rattle.std.proofs.lemmas.List.{reverse-append}
use Rattle.dso_config.specs.declared.config.Config.{Config}
use Rattle.dso_syntax.specs.declared.tree.Ast.{Ast}
use Rattle.dso_class.specs.Mentions.{Mention, mentions_of}
use Rattle.dso_class.specs.NameFaults.{IsClean, HasNoFault}
use Rattle.dso_class.specs.FaultsAmong.{behind, AreFine}

-- the mentions of two lists, put before those that were there
pub behind_append : (before xs ys : List Mention) → behind before (xs ++ ys) ≡ behind (behind before xs) ys
behind_append before [] ys = refl
behind_append before (x ∷ xs) ys = behind_append (x ∷ before) xs ys

-- they stand from the last to the first
pub behind_reverse : (before xs : List Mention) → behind before xs ≡ reverse xs ++ before
behind_reverse before [] = refl
behind_reverse before (x ∷ xs) =
    behind_reverse (x ∷ before) xs ∙ sym (append_assoc (reverse xs) (x ∷ []) before) ∙ ap (λ front. front ++ before) (sym (reverse-append (x ∷ []) xs))

module _ (config : Config) (ast : Ast) where
  -- two lists break no rule where the first breaks none, and the second none behind the first
  pub fine_both : (before xs ys : List Mention) → AreFine config ast before xs → AreFine config ast (behind before xs) ys → AreFine config ast before (xs ++ ys)
  fine_both before [] ys one other = other
  fine_both before (x ∷ xs) ys one other = (one.0, fine_both (x ∷ before) xs ys one.1 other)

  pub fine_front : (before xs ys : List Mention) → AreFine config ast before (xs ++ ys) → AreFine config ast before xs
  fine_front before [] ys fine = tt
  fine_front before (x ∷ xs) ys fine = (fine.0, fine_front (x ∷ before) xs ys fine.1)

  pub fine_rest : (before xs ys : List Mention) → AreFine config ast before (xs ++ ys) → AreFine config ast (behind before xs) ys
  fine_rest before [] ys fine = fine
  fine_rest before (x ∷ xs) ys fine = fine_rest (x ∷ before) xs ys fine.1

  -- clean mentions: those before, and those behind them
  pub clean_before : (before xs : List Mention) → IsClean config ast (behind before xs) → IsClean config ast before
  clean_before before [] clean = clean
  clean_before before (x ∷ xs) clean = (clean_before (x ∷ before) xs clean).0

  pub fine_of_clean : (before xs : List Mention) → IsClean config ast (behind before xs) → AreFine config ast before xs
  fine_of_clean before [] clean = tt
  fine_of_clean before (x ∷ xs) clean = ((clean_before (x ∷ before) xs clean).1, fine_of_clean (x ∷ before) xs clean)

  pub clean_of_fine : (before xs : List Mention) → IsClean config ast before → AreFine config ast before xs → IsClean config ast (behind before xs)
  clean_of_fine before [] clean fine = clean
  clean_of_fine before (x ∷ xs) clean fine = clean_of_fine (x ∷ before) xs (clean, fine.0) fine.1

  -- a text has no fault exactly where its mentions break no rule
  pub fine_text : HasNoFault config ast → AreFine config ast [] (mentions_of ast)
  fine_text clean =
      let ms = mentions_of ast in
      fine_of_clean [] ms (subst (IsClean config ast) (sym (behind_reverse [] ms ∙ append-nil (reverse ms))) clean)

  pub no_fault_of_fine : AreFine config ast [] (mentions_of ast) → HasNoFault config ast
  no_fault_of_fine fine =
      let ms = mentions_of ast in
      subst (IsClean config ast) (behind_reverse [] ms ∙ append-nil (reverse ms)) (clean_of_fine [] ms tt fine)
