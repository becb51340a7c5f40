-- What a sink has taken, as it takes more.
use Rattle.std.proofs.Common.{◌≡◌, ◌∙◌, ℕ, ◌+◌, List, ◌++◌, take, drop, Option, None, Some, refl, ap, append_assoc, sym}
use Rattle.std.proofs.Math.Seq.{take-add}
use Rattle.dso_io.specs.Environment.{taken_after}

-- two pieces, one after the other, are one
pub taken_after-append : (taken : Option (List ℕ)) (xs ys : List ℕ) → taken_after (taken_after taken xs) ys ≡ taken_after taken (xs ++ ys)
taken_after-append None xs ys = refl
taken_after-append (Some before) xs ys = ap Some (append_assoc before xs ys)

-- the first n bytes and then m of the rest are the first n + m
pub taken_after-more : (taken now : Option (List ℕ)) (text : List ℕ) (n m : ℕ) → now ≡ taken_after (taken_after taken (take n text)) (take m (drop n text)) → now ≡ taken_after taken (take (n + m) text)
taken_after-more taken now text n m is = is ∙ taken_after-append taken (take n text) (take m (drop n text)) ∙ ap (taken_after taken) (sym (take-add n m text))
