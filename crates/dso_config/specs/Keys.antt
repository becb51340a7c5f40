-- What stands at a key of a table, and what is wrong with it.
use Rattle.std.specs.Prelude.{⊤, ◌≡◌, ℕ, ℤ, pos, negsuc, Bool, true, false, ◌&&◌, nat_le, List, [], ◌∷◌, Option}
use Rattle.std.specs.Prelude.{Some, None, if◌then◌else◌, codes, bytes_eq, option_and_then}
use Rattle.std.specs.List.{list_any}
use Rattle.toml.specs.Data.{Members, no_members, member, get_member, as_str, as_integer}
use Rattle.dso_config.specs.declared.fault.ConfigFault.{ConfigFault}
use Rattle.dso_config.specs.declared.fault.ConfigFault.TheVariants as fault
use Rattle.dso_config.specs.declared.fault.Section.{Section}
use Rattle.dso_config.specs.declared.fault.Section.TheVariants as section
use Rattle.dso_config.specs.declared.fault.Spot.{Spot}

-- the word for each section: its key at the top
abbrev pub key_of : Section → List ℕ
key_of section.Top = codes "top"
key_of section.Root = codes "root"
key_of section.Autolock = codes "autolock"
key_of section.NamedLock = codes "named_lock"
key_of section.Guard = codes "guard"
key_of section.Lose = codes "lose"
key_of section.Break = codes "break"

-- the keys that there are at the top and in an entry of each section
abbrev pub keys_of : Section → List (List ℕ)
keys_of section.Top =
    codes "clients" ∷ codes "resident" ∷ codes "root" ∷ codes "autolock" ∷ codes "named_lock" ∷ codes "guard"
    ∷ codes "lose" ∷ codes "break" ∷ []
keys_of section.Root = codes "field" ∷ []
keys_of section.Autolock = codes "method" ∷ codes "level" ∷ []
keys_of section.NamedLock = codes "name" ∷ codes "method" ∷ codes "level" ∷ []
keys_of section.Guard = codes "field" ∷ codes "lock" ∷ []
keys_of section.Lose = codes "client" ∷ codes "after" ∷ []
keys_of section.Break = codes "client" ∷ codes "after" ∷ []

-- the section has this key
abbrev pub is_known : Section → List ℕ → Bool
is_known s key = list_any (bytes_eq key) (keys_of s)

-- each key of the table is one of the section
abbrev pub has_known_keys : Section → Members → Bool
has_known_keys s no_members = true
has_known_keys s (member key value rest) = is_known s key && has_known_keys s rest

-- the text at a key
abbrev pub text_at : List ℕ → Members → Option (List ℕ)
text_at key table = option_and_then as_str (get_member key table)

-- the number at a key
abbrev pub number_at : List ℕ → Members → Option ℤ
number_at key table = option_and_then as_integer (get_member key table)

-- the number, where it is in this range
abbrev pub in_range : ℕ → ℕ → ℤ → Option ℕ
in_range least most (pos n) = if nat_le least n && nat_le n most then Some n else None
in_range least most (negsuc n) = None

-- what two parts make together, where both are there
abbrev pub both : {A B C : Type 0} → (A → B → C) → Option A → Option B → Option C
both make None b = None
both make (Some a) None = None
both make (Some a) (Some b) = Some (make a b)

-- the fault, where nothing was found
abbrev pub unless_found : {A : Type 0} → ConfigFault → Option A → Option ConfigFault
unless_found fault None = Some fault
unless_found fault (Some found) = None

-- the fault, where the test fails
abbrev pub unless : ConfigFault → Bool → Option ConfigFault
unless fault true = None
unless fault false = Some fault

-- the first of these faults; one that isn't there without a fault is passed over
abbrev pub first_fault : List (Option ConfigFault) → Option ConfigFault
first_fault [] = None
first_fault (None ∷ rest) = first_fault rest
first_fault (Some fault ∷ rest) = Some fault

-- what is wrong with a value at a spot: it is of another kind, or it has another form
abbrev pub value_fault : {X A : Type 0} → Spot → ConfigFault → (X → Option A) → Option X → Option ConfigFault
value_fault spot other_form form value =
    first_fault (unless_found (fault.WrongKind spot) value ∷ unless_found other_form (option_and_then form value) ∷ [])

-- the text at a key, read in some form
abbrev pub form_at : {A : Type 0} → (List ℕ → Option A) → List ℕ → Members → Option A
form_at form key table = option_and_then form (text_at key table)

-- what is wrong with the text at a key: there is none, or it has another form
abbrev pub form_fault : {A : Type 0} → Spot → ConfigFault → (List ℕ → Option A) → List ℕ → Members → Option ConfigFault
form_fault spot other_form form key table = value_fault spot other_form form (text_at key table)

-- the number at a key, in a range
abbrev pub number_in : ℕ → ℕ → List ℕ → Members → Option ℕ
number_in least most key table = option_and_then (in_range least most) (number_at key table)

-- what is wrong with the number at a key: there is none, or it is out of range
abbrev pub number_fault : Spot → ℕ → ℕ → List ℕ → Members → Option ConfigFault
number_fault spot least most key table = value_fault spot (fault.OutOfRange spot) (in_range least most)
    (number_at key table)

-- it is said so, and nothing is wrong
pub record IsSaid {A : Type 0} (value : Option A) (wrong : Option ConfigFault) (said : A) : Type 0 where
  pub is : value ≡ Some said
  pub right : wrong ≡ None

-- a fault of the text, and not that an allocation was refused
abbrev pub IsOfText : ConfigFault → Type 0
IsOfText fault.NotToml = ⊤
IsOfText (fault.UnknownKey spot) = ⊤
IsOfText (fault.WrongKind spot) = ⊤
IsOfText (fault.OutOfRange spot) = ⊤
IsOfText (fault.BadMethodPattern spot) = ⊤
IsOfText (fault.BadGuard spot) = ⊤
IsOfText (fault.Twice spot) = ⊤
IsOfText fault.TooLong = ⊤
IsOfText (fault.BadName spot) = ⊤
IsOfText (fault.NoMemory refused) = ⊥

-- what is told is what is wrong, but for want of memory
pub record IsTold (wrong : Option ConfigFault) (told : ConfigFault) : Type 0 where
  pub is : IsOfText told → wrong ≡ Some told
