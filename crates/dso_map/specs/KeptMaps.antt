-- What every call of a map keeps.
use Rattle.std.specs.Prelude.{◌≡◌, ◌≢◌, ◌≤◌, ◌<◌, ℕ}
use Rattle.dso_map.specs.declared.map_op.MapOp.{MapOp}
use Rattle.dso_map.specs.declared.map_op.MapOp.TheVariants as op
use Rattle.dso_map.specs.Bodies.{MapBody, left_by, given_by, asked_by}
use Rattle.dso_map.specs.Contents.{Content, Holds, Meets}
use Rattle.dso_map.specs.Fields.{MapField, slots}
use Rattle.dso_map.specs.Fields.MapField.{Touched, Key, Held, Size}
use Rattle.dso_map.specs.SoundMap.{IsSoundMap}
use Rattle.dso_map.specs.Talk.{talk}

-- the field is not of this slot, nor the size
abbrev pub IsApart : ℕ → MapField → Type 0
IsApart i (Touched j) = i ≢ j
IsApart i (Key j) = i ≢ j
IsApart i (Held j) = i ≢ j
IsApart i Size = ⊥

-- the call only asks
abbrev pub IsQuestion : MapOp → Type 0
IsQuestion (op.Put k o) = ⊥
IsQuestion (op.Remove k) = ⊥
IsQuestion op = Unit {0}

-- From this body the call ends after few requests, leaves a sound body, and gives and leaves what it should of what
-- the body holds. It writes at most one slot and the size, and nothing where it only asks.
pub record KeepsMap (op : MapOp) (b : MapBody) : Type 0 where
  pub few : asked_by (talk op) b ≤ 800
  pub sound : IsSoundMap (left_by (talk op) b)
  pub meets : (m : Content) → Holds b m
      → (n : Content) × Holds (left_by (talk op) b) n × Meets op (given_by (talk op) b) m n
  pub slot : ℕ
  pub within : slot < slots
  pub only : (f : MapField) → IsApart slot f → left_by (talk op) b f ≡ b f
  pub asks : IsQuestion op → left_by (talk op) b ≡ b

-- what a call puts is an object other than object 0
abbrev pub PutsObject : MapOp → Type 0
PutsObject (op.Put k o) = o ≢ 0
PutsObject op = Unit {0}

-- Maps are kept: by every call from every sound body.
abbrev pub MapsAreKept : Type 0
MapsAreKept = (op : MapOp) (b : MapBody) → PutsObject op → IsSoundMap b → KeepsMap op b
