-- The one map that a sound body holds.
use Rattle.std.proofs.Common.{◌≡◌, ◌≢◌, ◌<◌, refl, sym, ap, ◌∙◌, ℕ, true, ℤ, Option, None}
use Rattle.dso_base.specs.declared.value.Value.{Value}
use Rattle.dso_map.specs.Bodies.{MapBody}
use Rattle.dso_map.specs.Contents.{Content, value_in, Holds, Same}
use Rattle.dso_map.specs.Fields.{slots}
use Rattle.dso_map.specs.Fields.MapField.{Held}
use Rattle.dso_map.specs.SoundMap.{touched, key, IsSoundMap}
use Rattle.dso_map.proofs.Counts.{FindsKey, find_key}

-- what is found of a key
abbrev value_found : (b : MapBody) (k : ℤ) → FindsKey b slots k → Option Value
value_found b k (FindsKey.at i less was own) = value_in (b (Held i))
value_found b k (FindsKey.nowhere none) = None

module _ (b : MapBody) (sound : IsSoundMap b) where
  abbrev content : Content
  content k = value_found b k (find_key b slots k)

  there : (i : ℕ) → i < slots → touched b i ≡ true → content (key b i) ≡ value_in (b (Held i))
  there i less is = by (find_key b slots (key b i))
    where
      by : (found : FindsKey b slots (key b i)) → value_found b (key b i) found ≡ value_in (b (Held i))
      by (FindsKey.at j j_less was own) = ap (λ x. value_in (b (Held x))) (sound.differ j i j_less less was is own)
      by (FindsKey.nowhere none) = absurd (none i less is refl)

  only : (k : ℤ) → ((i : ℕ) → i < slots → touched b i ≡ true → key b i ≢ k) → content k ≡ None
  only k nobody = by (find_key b slots k)
    where
      by : (found : FindsKey b slots k) → value_found b k found ≡ None
      by (FindsKey.at j less was own) = absurd (nobody j less was own)
      by (FindsKey.nowhere none) = refl

  -- any other that it holds is the same
  alike : (n : Content) → Holds b n → Same content n
  alike n holds k = by (find_key b slots k)
    where
      by : (found : FindsKey b slots k) → n k ≡ value_found b k found
      by (FindsKey.at j less was own) = ap n (sym own) ∙ holds.there j less was
      by (FindsKey.nowhere none) = holds.only k none

pub holds_one : (b : MapBody) → IsSoundMap b → (m : Content) × Holds b m × ((n : Content) → Holds b n → Same m n)
holds_one b sound = (content b sound, record { there = there b sound; only = only b sound }, alike b sound)
