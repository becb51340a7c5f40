-- Frames that go through a ring, as bytes, and what was given to one.
use Rattle.std.specs.List.{AllByRecursion}
use Rattle.std.specs.Prelude.{ℕ, suc, ◌+◌, ◌≤◌, ◌≡◌, List, [], ◌∷◌, ◌++◌, map}
use Rattle.dso_session.specs.declared.frame.Frame.{Frame}
use Rattle.dso_session.specs.declared.frame.Frame.TheVariants.{Carry, Hello}
use Rattle.dso_session.specs.declared.session.Posted.{Posted}
use Rattle.dso_session.specs.Laws.{CarriesSent}
use Rattle.dso_wire.specs.Cells.{Cell, bytes_of}
use Rattle.dso_port.specs.declared.fault.PortFault.{PortFault}
use Rattle.dso_port.specs.declared.fault.PortFault.TheVariants as fault

-- how many of the frames are a Hello
abbrev pub hellos : {M : Type 0} → List (Frame M) → ℕ
hellos [] = 0
hellos (Hello epoch seen clock ∷ frames) = suc (hellos frames)
hellos (Carry epoch number seen clock message ∷ frames) = hellos frames

module _ {M : Type 0} (cells : Frame M → List Cell) (Is : Frame M → Type 0) where
  -- the bytes are those of a frame
  abbrev pub IsSpelling : List ℕ → Type 0
  IsSpelling bytes = (frame : Frame M) × Is frame × (bytes ≡ bytes_of (cells frame))

  -- the items of a ring are these frames, which have a spelling
  pub record AreSpelled (frames : List (Frame M)) (items : List (List ℕ)) : Type 0 where
    pub grammar : AllByRecursion Is frames
    pub bytes : items ≡ map (λ frame. bytes_of (cells frame)) frames

  -- one item more was taken from a ring, which has the bytes of this frame
  pub record TookOne (before after : List (List ℕ)) (frame : Frame M) : Type 0 where
    pub is : Is frame
    pub more : after ≡ before ++ bytes_of (cells frame) ∷ []

  -- What was given to a ring: frames, of which each carries one of these messages; and with those that are owed there
  -- are no more Hellos than this.
  pub record GaveOf (posts : List (Posted M)) (owed greetings : ℕ) (items : List (List ℕ)) : Type 0 where
    pub frames : List (Frame M)
    pub spelled : AreSpelled frames items
    pub carry : AllByRecursion (CarriesSent posts) frames
    pub greets : hellos frames + owed ≤ greetings

-- why a frame isn't spelled: it can't be, or memory was refused
abbrev pub HasNoBytes : {M : Type 0} → (Frame M → Type 0) → Frame M → PortFault → Type 0
HasNoBytes CanGo frame (fault.NoMemory refused) = Unit {0}
HasNoBytes CanGo frame fault.Gap = ⊥
HasNoBytes CanGo frame fault.NoBytes = CanGo frame → ⊥
