-- Lists, the newest item first.
use Rattle.std.proofs.Common.{ℕ, ◌+◌, ◌<◌, ◌≡◌, sym, ◌∙◌, ap, List, [], ◌∷◌, ◌++◌, length, get_or, take, reverse}
use Rattle.std.proofs.lemmas.List.{take_more, reverse-append}

-- the first items newest first, with the next of them, that is at its place
pub one_newer : {X : Type 0} (xs : List X) (i : ℕ) (x : X) → i < length xs → x ≡ get_or xs i x → reverse (take (i + 1) xs) ≡ x ∷ reverse (take i xs)
one_newer xs i x here is = ap reverse (take_more xs i x here ∙ ap (λ y. take i xs ++ y ∷ []) (sym is)) ∙ reverse-append (take i xs) (x ∷ [])
