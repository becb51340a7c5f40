use Rattle.std.proofs.Common.{◌≡◌, ◌≤◌, ◌-◌, ◌∙◌, subst, sym, List, [], ◌∷◌, drop, take, get_or, length, map, MatchOption, ap, arith, refl}
use Rattle.std.proofs.lemmas.List.{take_all}
use Rattle.std.specs.String.{string_bytes}
use Rattle.dso_command_line.specs.Said.{said}
use Rattle.dso_command_line.specs.Words.{AreLawful, AreUnlawful}
use Rattle.dso_command_line.proofs.words.command_of.Goals as goal

-- a list is its first item and the rest
whole : {X : Type 0} (xs : List X) (first : X) → 1 ≤ length xs → first ≡ get_or xs 0 first → first ∷ take (length xs - 1) (drop 1 xs) ≡ xs
whole [] first some is = absurd (omega (arith, some))
whole (x ∷ xs) first some is =
    let rest : length (x ∷ xs) - 1 ≡ length xs = omega arith in
    rw rest (ap (λ y. y ∷ take (length xs) xs) is ∙ ap (λ ys. x ∷ ys) (take_all (length xs) xs (omega arith)))

pub returns-in-len1-up : goal.returns-in-len1-up
returns-in-len1-up c =
    subst (λ words. MatchOption c.command_behind.result (AreUnlawful (map string_bytes words)) (λ command. AreLawful (map string_bytes words) (said command)))
    (whole c.args.words.now c.first-item.result c.in-len1-up.len_at_least c.first-item.is)
    (rw c.as_str.ensures.value at c.command_behind.ensures)
