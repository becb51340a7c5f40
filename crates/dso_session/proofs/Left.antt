-- What is left behind a number of messages.
use Rattle.std.proofs.Common.{ℕ, zero, suc, ◌-◌, ◌≤◌, ◌+◌, ◌≡◌, ◌∙◌, ap, List, [], ◌∷◌, ◌++◌, drop, length, arith}
use Rattle.std.proofs.lemmas.List.{drop-drop}
use Rattle.dso_session.specs.declared.session.Posted.{Posted}
use Rattle.dso_session.specs.Ends.{End, left_behind}
use Rattle.dso_session.specs.Laws.{HasSent}

-- what is left of two parts, one behind the other
pub left_of_parts : {X : Type 0} (n : ℕ) (xs ys : List X) → drop n xs ++ drop (n - length xs) ys ≡ drop n (xs ++ ys)
left_of_parts zero xs ys =
    let none : 0 - length xs ≡ 0 = omega arith in
    ap (λ m. xs ++ drop m ys) none
left_of_parts (suc n) [] ys =
    let all : suc n - 0 ≡ suc n = omega arith in
    ap (λ m. drop m ys) all
left_of_parts (suc n) (x ∷ xs) ys =
    let less : suc n - suc (length xs) ≡ n - length xs = omega arith in
    ap (λ m. drop n xs ++ drop m ys) less ∙ left_of_parts n xs ys

-- what is kept behind a number that the other end has not passed was sent behind it
pub left_was_sent : {M : Type 0} (number : ℕ) (sent : List (Posted M)) (end : End M) → HasSent sent end → end.seen ≤ number → left_behind number end ≡ drop number sent
left_was_sent number sent end has least =
    let onward : end.seen + (number - end.seen) ≡ number = omega (arith, least) in
    ap (drop (number - end.seen)) has.kept ∙ (drop-drop (number - end.seen) end.seen sent ∙ ap (λ n. drop n sent) onward)

-- so many items behind each of the two parts of what is kept
pub parts_left : {M : Type 0} (number passed more : ℕ) (end : End M) (first second behind_first behind_second : List (Posted M)) → passed ≡ number - end.seen → more ≡ passed - length first → first ++ second ≡ end.kept
    → behind_first ≡ drop passed first → behind_second ≡ drop more second → behind_first ++ behind_second ≡ left_behind number end
parts_left number passed more end first second behind_first behind_second is further parts one two =
    ap (λ xs. xs ++ behind_second) one ∙ (ap (λ ys. drop passed first ++ ys) (two ∙ ap (λ n. drop n second) further)
    ∙ (left_of_parts passed first second ∙ (ap (drop passed) parts ∙ ap (λ n. drop n end.kept) is)))
