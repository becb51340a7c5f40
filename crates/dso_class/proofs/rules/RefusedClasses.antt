-- Names of classes that are refused.
use Rattle.std.proofs.Common.{◌≡◌, ◌⊎◌, ◌↔◌, inl, inr, refl, ◌∙◌, ℕ, Bool, true, false, ◌||◌, ◌&&◌, IsTrue, subst, sym, List, Contains, Result, Ok, Err, IsErr, IsErrAnd, IfErr}
use Rattle.std.specs.Str.{bytes_eq}
use Rattle.std.proofs.lemmas.Slice.Eq.{bytes_eq-Decides}
use Rattle.dso_class.specs.declared.fault.NameFault.{NameFault}
use Rattle.dso_class.specs.declared.fault.What.{What}
use Rattle.dso_config_entries.specs.Words.{Word, thread_word}
use Rattle.dso_class.specs.Maps.{map_word}
use Rattle.dso_class.specs.Heads.{IsRefused, IsClassTaken, twice, many, no_memory}

-- the name is this word
pub is_word : (name slice word : Word) (tells : Bool) → tells ≡ bytes_eq name slice → slice ≡ word → IsTrue tells ↔ (name ≡ word)
is_word name slice word tells is spelt =
    (λ same. (bytes_eq-Decides name slice).0 (sym is ∙ same) ∙ spelt, λ same. is ∙ (bytes_eq-Decides name slice).1 (same ∙ sym spelt))

-- one of two tests says that one of two facts holds, and both say that both do
pub either : {P Q : Type 0} (a b : Bool) → IsTrue a ↔ P → IsTrue b ↔ Q → IsTrue (a || b) ↔ (P ⊎ Q)
either true b one other = (λ is. inl (one.0 refl), λ holds. refl)
either false b one other = (λ is. inr (other.0 is), λ holds. elim holds [ inl first ↦ absurd (cc (one.1 first)) | inr second ↦ other.1 second ])

pub all_of : {P Q : Type 0} (a b : Bool) → IsTrue a ↔ P → IsTrue b ↔ Q → IsTrue (a && b) ↔ (P × Q)
all_of true b one other = (λ is. (one.0 refl, other.0 is), λ holds. other.1 holds.1)
all_of false b one other = (λ is. absurd (cc is), λ holds. one.1 holds.0)

-- a name that no class may have is taken
pub reserved_taken : (names : List Word) (name : Word) → (name ≡ thread_word) ⊎ (name ≡ map_word) → IsClassTaken names name
reserved_taken names name (inl is) = inl is
reserved_taken names name (inr is) = inr (inl is)

-- a refusal that is passed on
pub passed_refused : {A : Type 0} (Taken Full : Type 0) (sort : What) (line : ℕ) (result : Result A NameFault) (e : NameFault) → IsErr result × IsErrAnd result (λ told. told ≡ e)
    → IsRefused Taken Full sort line e → IfErr result (IsRefused Taken Full sort line)
passed_refused Taken Full sort line (Ok value) e is refused = absurd is.1
passed_refused Taken Full sort line (Err other) e is refused = subst (IsRefused Taken Full sort line) (sym is.1) refused

-- a name that is neither `Thread` nor that of maps is free behind names among which it isn't
pub class_free : (names : List Word) (name : Word) → (name ≡ thread_word → ⊥) → (name ≡ map_word → ⊥) → (Contains names name → ⊥) → IsClassTaken names name → ⊥
class_free names name other no_map free (inl is) = other is
class_free names name other no_map free (inr (inl is)) = no_map is
class_free names name other no_map free (inr (inr there)) = free there

-- the name of a class that is neither is refused as other names are
pub class_refused : (names : List Word) (name : Word) (Full : Type 0) (sort : What) (line : ℕ) (e : NameFault) → (name ≡ thread_word → ⊥) → (name ≡ map_word → ⊥) → IsRefused (Contains names name) Full sort line e
    → IsRefused (IsClassTaken names name) Full sort line e
class_refused names name Full sort line _ other no_map (twice there) = twice (inr (inr there))
class_refused names name Full sort line _ other no_map (many free full) = many (class_free names name other no_map free) full
class_refused names name Full sort line _ other no_map (no_memory refusal) = no_memory refusal
