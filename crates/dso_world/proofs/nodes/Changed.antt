-- The nodes where the connection of one client has changed.
use Rattle.std.proofs.Common.{ℕ, zero, suc, ◌<◌, ◌≡◌, refl, sym, ◌∙◌, subst, Bool, true, false, cond, eqb, Some, List, [], ◌∷◌, length, slice_get, arith}
use Rattle.std.proofs.lemmas.Bool.{eqb-true}
use Rattle.dso_base.specs.declared.journal.Entry.{Entry}
use Rattle.dso_class.specs.declared.program.Program.{Program}
use Rattle.dso_base.specs.declared.both.Both.{Both}
use Rattle.dso_base.specs.declared.both.Both.TheVariants as both
use Rattle.dso_world.specs.declared.client_node.ClientNode.{ClientNode}
use Rattle.dso_world.specs.Link.{Line}
use Rattle.dso_world.specs.LinkStands.{Course, LinkStands, Past}
use Rattle.dso_world.specs.NodeSteps.{ChangesLine, with_line}
use Rattle.dso_world.specs.NodesStand.{ClientNodeStandsBy}
use Rattle.dso_world.specs.PastOf.{course_of, past_of}
use Rattle.dso_world.specs.WorldSteps.{settings_of}
use Rattle.dso_world.proofs.nodes.Told.{came_of}

-- there is an item at a place within a list
pub there : {A : Type 0} (xs : List A) (place : ℕ) → place < length xs → (x : A) × (slice_get xs place ≡ Some x)
there [] place within = absurd (omega (arith, within))
there (x ∷ xs) zero within = (x, refl)
there (x ∷ xs) (suc place) within = there xs place (omega (arith, within))

module _ (program : Program) (c : ℕ) (change : Line Both → Line Both) (course : Course) (past : Past Both) (old new : List ClientNode) (es : List Entry) where
  -- the course and the past of each connection
  abbrev pub course_now : ℕ → Course
  course_now d = cond (eqb d c) course (course_of (settings_of program) d es)

  abbrev pub past_now : ℕ → Past Both
  past_now d = cond (eqb d c) past (past_of both.Up both.Down d es)

  changed_client_node : (d : ℕ) (its : Bool) (before client_node : ClientNode) → cond its (record before { link = change before.link }) before ≡ client_node
      → ClientNodeStandsBy program d (course_of (settings_of program) d es) (past_of both.Up both.Down d es) before es → (its ≡ true → LinkStands course past (change before.link))
      → ClientNodeStandsBy program d (cond its course (course_of (settings_of program) d es)) (cond its past (past_of both.Up both.Down d es)) client_node es
  changed_client_node d true before client_node is stands link = subst (λ client_node. ClientNodeStandsBy program d course past client_node es) is
      (record { client = stands.client; runs = stands.runs; records = stands.records; holds = stands.holds; link = link refl; clock = stands.clock; triggers = stands.triggers })
  changed_client_node d false before client_node is stands link = subst (λ client_node. ClientNodeStandsBy program d (course_of (settings_of program) d es) (past_of both.Up both.Down d es) client_node es) is stands

  pub changed : ((place : ℕ) (client_node : ClientNode) → slice_get old place ≡ Some client_node → ClientNodeStandsBy program (suc place) (course_of (settings_of program) (suc place) es) (past_of both.Up both.Down (suc place) es) client_node es)
      → ChangesLine c change old new
      → ((place : ℕ) (client_node : ClientNode) → suc place ≡ c → slice_get old place ≡ Some client_node → LinkStands course past (change client_node.link))
      → (place : ℕ) (client_node : ClientNode) → slice_get new place ≡ Some client_node → ClientNodeStandsBy program (suc place) (course_now (suc place)) (past_now (suc place)) client_node es
  changed stands changes link place client_node is =
      let from = came_of (with_line c change (suc place)) (slice_get old place) client_node (sym is ∙ changes place) in
      changed_client_node (suc place) (eqb (suc place) c) from.0 client_node from.2 (stands place from.0 from.1) (λ its. link place from.0 (eqb-true (suc place) c its) from.1)
