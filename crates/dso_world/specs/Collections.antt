-- Collections: what messages in flight name, where paths begin, which edges they go along, what a collection sweeps.
use Rattle.std.specs.List.{list_any}
use Rattle.std.specs.List.Sorted.{IsStrictlySortedBy}
use Rattle.std.specs.Ordering.{nat_cmp}
use Rattle.std.specs.Prelude.{ℕ, ◌≡◌, ◌≤◌, ◌↔◌, ◌⊎◌, Bool, true, ◌||◌, List, length}
use Rattle.dso_base.specs.declared.both.Both.{Both}
use Rattle.dso_base.specs.declared.both.Both.TheVariants as both
use Rattle.dso_base.specs.declared.journal.Entry.{Entry}
use Rattle.dso_base.specs.declared.journal.Node.TheVariants as node
use Rattle.dso_base.specs.Block.{body_names}
use Rattle.dso_base.specs.Naming.{down_names, up_names}
use Rattle.dso_class.specs.declared.program.Program.{Program}
use Rattle.dso_class.specs.Sound.{IsSoundProgram}
use Rattle.dso_gc_law.specs.Lacking.{IsLacked}
use Rattle.dso_gc.specs.Garbage.{IsEdgeIn, IsIn}
use Rattle.dso_law.specs.Entries.{entries_of}
use Rattle.dso_law.specs.HeldBody.{held_body}
use Rattle.dso_legal.specs.Collection.{IsGarbageAfter, client_names, is_kept}
use Rattle.dso_legal.specs.Lawful.{IsLawful}
use Rattle.dso_lookup.specs.Search.{has_edge, is_listed}
use Rattle.dso_machine.specs.Frames.{frames_after}
use Rattle.dso_machine.specs.Next.{next_request}
use Rattle.dso_store.specs.Graph.{body_in}
use Rattle.dso_session.specs.declared.session.Posted.{Posted}
use Rattle.dso_world.specs.declared.collection.Paths.{Paths}
use Rattle.dso_world.specs.declared.nodes.Nodes.{Nodes}
use Rattle.dso_world.specs.declared.world.World.{World}
use Rattle.dso_world.specs.NodesStand.{NodesStand}
use Rattle.dso_world.specs.WorldStands.{IsSweptIn, WorldStands, entries_in}
use Rattle.dso_world.specs.WorldSteps.{settings_of}

-- the entries are a lawful journal of the program, which is sound
pub record IsLawfulOf (program : Program) (es : List Entry) : Type 0 where
  pub sound : IsSoundProgram program
  pub lawful : IsLawful (settings_of program) (next_request program.code) es

-- the nodes are those of some sound program after the entries of some lawful journal
pub record AreSomeNodes (nodes : Nodes) : Type 0 where
  pub program : Program
  pub entries : List Entry
  pub journal : IsLawfulOf program entries
  pub stand : NodesStand program nodes entries

-- the world is one of some sound program
pub record IsSomeWorld (world : World) : Type 0 where
  pub program : Program
  pub sound : IsSoundProgram program
  pub stands : WorldStands program world

-- whether the message names the object, of either way
abbrev pub message_names : Both → ℕ → Bool
message_names (both.Up m) o = up_names m o
message_names (both.Down m) o = down_names m o

-- whether one of the messages that were sent does
abbrev pub posts_name : List (Posted Both) → ℕ → Bool
posts_name posts o = list_any (λ posted. message_names posted.message o) posts

module _ (program : Program) where
  -- whether the client names the object after the entries: a thread of it does, or a message in flight
  abbrev pub names_then : ℕ → List Entry → ℕ → Bool
  names_then c es o = client_names (settings_of program) (next_request program.code) (frames_after program.code) c es o

  -- whether the client's copy of object a names object b after the entries
  abbrev pub copy_names : ℕ → List Entry → ℕ → ℕ → Bool
  copy_names c es a b = body_names (held_body a (entries_of (node.Client c) es)) b

  -- the paths have what they had before, and what client c adds to them
  pub record AddsClient (c : ℕ) (es : List Entry) (old new : Paths) : Type 0 where
    pub starts : (o : ℕ) → is_listed o new.starts.items ≡ (is_listed o old.starts.items || names_then c es o)
    pub edges : (a b : ℕ) → has_edge a b new.edges.items ≡ (has_edge a b old.edges.items || copy_names c es a b)

  -- Paths begin at object 0 and at what the first clients name, so many of them, as far as they aren't lost; and they
  -- go along the edges of these clients' copies.
  pub record ArePathsOf (count : ℕ) (es : List Entry) (paths : Paths) : Type 0 where
    pub starts : (o : ℕ) → IsIn paths.starts.items o ↔ ((o ≡ 0) ⊎ ((c : ℕ) × (c ≤ count)
        × (is_kept (settings_of program) es c ≡ true) × (names_then c es o ≡ true)))
    pub edges : (a b : ℕ) → IsEdgeIn paths.edges.items a b ↔ ((c : ℕ) × (c ≤ count)
        × (is_kept (settings_of program) es c ≡ true) × (copy_names c es a b ≡ true))

  -- the object is garbage after the entries
  abbrev pub IsGarbageThen : List Entry → ℕ → Type 0
  IsGarbageThen es o = IsGarbageAfter (settings_of program) (next_request program.code) (frames_after program.code) es o

  -- the object is stored, and the nodes' server has no body of it
  abbrev pub LacksIn : Nodes → List Entry → ℕ → Type 0
  LacksIn nodes es o = IsLacked (settings_of program) (body_in nodes.server.store) es o

  -- A collection by the nodes: they stand for the entries as before, but for the bodies of so many objects, which are
  -- those that are garbage and weren't swept before.
  pub record SweepsNodes (count : ℕ) (old new : Nodes) (es : List Entry) : Type 0 where
    pub stands : NodesStand program new es
    pub ids : List ℕ
    pub rising : IsStrictlySortedBy nat_cmp ids
    pub many : length ids ≡ count
    pub newly : (o : ℕ) → IsIn ids o ↔ (IsGarbageThen es o × (LacksIn old es o → ⊥))
    pub swept : (o : ℕ) → LacksIn new es o ↔ IsGarbageThen es o

  -- A collection swept so many objects: those that are garbage after the journal, and that weren't swept before; so
  -- just what is garbage was swept.
  pub record Sweeps (count : ℕ) (old new : World) : Type 0 where
    pub ids : List ℕ
    pub rising : IsStrictlySortedBy nat_cmp ids
    pub many : length ids ≡ count
    pub newly : (o : ℕ) → IsIn ids o ↔ (IsGarbageThen (entries_in old) o × (IsSweptIn program old o → ⊥))
    pub swept : (o : ℕ) → IsSweptIn program new o ↔ IsGarbageThen (entries_in old) o
