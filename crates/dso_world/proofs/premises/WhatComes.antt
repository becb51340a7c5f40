-- What comes over a client's connection: the first letter in flight, which fits.
use Rattle.std.proofs.Common.{ℕ, zero, suc, ◌<◌, ◌^◌, ◌≡◌, refl, sym, ◌∙◌, ap, subst, true, false, ltb, Option, Some, None, List, [], ◌∷◌, drop, length, map, slice_get, arith}
use Rattle.std.proofs.lemmas.Bool.{ltb-true}
use Rattle.std.proofs.lemmas.List.{length-map}
use Rattle.std.proofs.lemmas.Option.{slice_get-map}
use Rattle.std.specs.Option.{option_map}
use Rattle.dso_base.specs.declared.journal.Entry.{Entry}
use Rattle.dso_base.specs.declared.journal.Node.TheVariants.{Server, Client}
use Rattle.dso_base.specs.declared.message.Down.{Down}
use Rattle.dso_base.specs.declared.message.Up.{Up}
use Rattle.dso_law.specs.Channels.{IsFirst, Letter, down_in_flight, up_in_flight}
use Rattle.dso_law.specs.Entries.{entries_of}
use Rattle.dso_law.specs.FitsDown.{FitsDown}
use Rattle.dso_law.specs.FitsUp.{FitsUp}
use Rattle.dso_law.specs.ServerReadings.{counted, is_lost}
use Rattle.dso_law.specs.Settings.{Settings}
use Rattle.dso_machine.specs.declared.code.Code.{Code}
use Rattle.dso_machine.specs.Next.{next_request}
use Rattle.dso_machine.specs.Sound.{IsSoundCode}
use Rattle.dso_legal.specs.Lawful.{AllFollow}
use Rattle.dso_legal.specs.MessagesFit.{FirstsFit}
use Rattle.dso_legal.proofs.fitting.MessagesFit.{messages_fit}
use Rattle.dso_world.specs.PastOf.{post_of}
use Rattle.dso_world.proofs.links.Pumping.{from_here}
use Rattle.dso_world.proofs.premises.SoundPrograms.{sound_code}

-- A letter is the next one to be taken: it is the first in flight, and stands behind those taken of all that were sent.
pub record IsNext {N M : Type 0} (one : N → M) (letters flight : List (Letter N)) (taken : ℕ) (letter : Letter N) : Type 0 where
  pub first : flight ≡ letter ∷ drop (suc taken) letters
  pub place : slice_get (map (post_of one) letters) taken ≡ Some (post_of one letter)

-- there is one where fewer were taken than sent
pub next_letter : {N M : Type 0} (one : N → M) (letters flight : List (Letter N)) (taken : ℕ) → flight ≡ drop taken letters
    → ltb taken (length (map (post_of one) letters)) ≡ true → (letter : Letter N) × IsNext one letters flight taken letter
next_letter {N = N} one letters flight taken left more = by (slice_get letters taken) refl
  where
    by : (letter : Option (Letter N)) → slice_get letters taken ≡ letter → (letter : Letter N) × IsNext one letters flight taken letter
    by None is = absurd (omega (arith, ltb-true taken (length (map (post_of one) letters)) more, length-map letters (post_of one), none_past letters taken is))
      where
        none_past : (xs : List (Letter N)) (k : ℕ) → slice_get xs k ≡ None → length xs < suc k
        none_past [] k is = omega arith
        none_past (x ∷ xs) zero is = absurd (cc is)
        none_past (x ∷ xs) (suc k) is = omega (arith, none_past xs k is)
    by (Some letter) is = (letter, record { first = left ∙ from_here letters taken letter is; place = slice_get-map (post_of one) letters taken ∙ ap (option_map (post_of one)) is })

module _ (code : Code) (sound : IsSoundCode code) (p : Settings) (shaped : p.shape ≡ code.shape) (es : List Entry) (follow : AllFollow p (next_request code) es) (few : length es < 2 ^ 54) (c : ℕ) where
  firsts : FirstsFit p c es
  firsts = let program = sound_code code p.shape sound shaped in messages_fit p (next_request code) program.sound program.texts program.within es follow few c

  -- The first letter from a client that isn't lost fits at the server,
  pub comes_up : is_lost c (entries_of Server es) ≡ false → (letter : Letter Up) (rest : List (Letter Up)) → up_in_flight c es ≡ letter ∷ rest
      → FitsUp p c letter.message (counted (entries_of Server es))
  comes_up alive letter rest first = firsts.ups alive letter.message (subst (IsFirst letter.message) (sym first) refl)

  -- and the first one to a client, to a lost one too, fits there.
  pub comes_down : (letter : Letter Down) (rest : List (Letter Down)) → down_in_flight c es ≡ letter ∷ rest → FitsDown p c letter.message (entries_of (Client c) es)
  comes_down letter rest first = firsts.downs letter.message (subst (IsFirst letter.message) (sym first) refl)
