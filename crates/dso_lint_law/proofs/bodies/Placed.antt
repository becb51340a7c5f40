-- Where a block, a statement and an expression stand in their body, step by step inward.
use Rattle.std.proofs.Common.{◌≡◌, ◌⊎◌, inl, inr, List, [], ◌∷◌, subst, sym, ap, ◌∙◌}
use Rattle.std.specs.Prelude.{Contains}
use Rattle.dso_base.specs.declared.lock.Grade.{Grade}
use Rattle.dso_machine.specs.declared.tree.Expr.{Expr}
use Rattle.dso_machine.specs.declared.tree.Stmt.{Stmt, out-roll-Stmt}
use Rattle.dso_machine.specs.declared.tree.Stmt.TheOpen as sf
use Rattle.dso_machine.specs.declared.tree.Stmt.TheVariants as s
use Rattle.dso_lint.specs.Routines.{Routine}
use Rattle.dso_lint.specs.Trees.{operands, IsPart, itself, of_operand, evaluated, blocks, StandsIn, here, deeper, Evaluates}
use Rattle.dso_lint.specs.Sites as sites
use Rattle.dso_lint.specs.Sites.{Site, Inside, insides_in, insides, StandsUnder, own_sites}
use Rattle.dso_lint.proofs.standing.Trees.{head_there, later_there, cons_cases, has_If, has_While, has_Sync}

-- ---- the blocks of a statement, with the sites around them

pub under_If : (around : List Site) (a : Expr) (all others : List Stmt) → insides around (s.If a all others) ≡ record { sites = around; block = all } ∷ record { sites = around; block = others } ∷ []
under_If around a all others = ap (insides around) (sym (s.rolls-If a all others)) ∙ ap (insides_in around) (out-roll-Stmt (sf.If a all others))

pub under_While : (around : List Site) (a : Expr) (all : List Stmt) → insides around (s.While a all) ≡ record { sites = around; block = all } ∷ []
under_While around a all = ap (insides around) (sym (s.rolls-While a all)) ∙ ap (insides_in around) (out-roll-Stmt (sf.While a all))

pub under_Sync : (around : List Site) (a : Expr) (grade : Grade) (all : List Stmt) → insides around (s.Sync a grade all) ≡ record { sites = record { lock = a; grade = grade; block = all } ∷ around; block = all } ∷ []
under_Sync around a grade all = ap (insides around) (sym (s.rolls-Sync a grade all)) ∙ ap (insides_in around) (out-roll-Stmt (sf.Sync a grade all))

-- ---- blocks

-- what stands in the rest of a block stands in it
stands_rest : (first : Stmt) (rest : List Stmt) (b : Stmt) → StandsIn b rest → StandsIn b (first ∷ rest)
stands_rest first rest b (here there) = here (later_there first rest b there)
stands_rest first rest b (deeper {inner = inner} {b = d} there has stands) = deeper (later_there first rest d there) has stands

under_rest : (first : Stmt) (rest : List Stmt) (b : Stmt) (inner around : List Site) → StandsUnder b inner around rest → StandsUnder b inner around (first ∷ rest)
under_rest first rest b inner around (sites.here there) = sites.here (later_there first rest b there)
under_rest first rest b inner around (sites.deeper {b = d} {inside = inside} there has stands) = sites.deeper (later_there first rest d there) has stands

-- The statements stand in the body, with these sites around them; in the block of each of these sites; and in the block at hand.
pub record Placed (body : Routine) (around : List Site) (block : List Stmt) (statements : List Stmt) : Type 0 where
  pub under : (b : Stmt) (inner : List Site) → StandsUnder b inner around statements → StandsUnder b inner (own_sites body) body.statements
  pub in_body : (b : Stmt) → StandsIn b statements → StandsIn b body.statements
  pub in_site : (site : Site) → Contains around site → (b : Stmt) → StandsIn b statements → StandsIn b site.block
  pub in_block : (b : Stmt) → StandsIn b statements → StandsIn b block

-- So one of them.
pub record PlacedOne (body : Routine) (around : List Site) (block : List Stmt) (a : Stmt) : Type 0 where
  pub statements : List Stmt
  pub placed : Placed body around block statements
  pub there : Contains statements a

module _ {body : Routine} {around : List Site} {block : List Stmt} where
  pub placed_first : {first : Stmt} {rest : List Stmt} → Placed body around block (first ∷ rest) → PlacedOne body around block first
  placed_first {first} {rest} placed = record { statements = first ∷ rest; placed = placed; there = head_there first rest }

  pub placed_rest : {first : Stmt} {rest : List Stmt} → Placed body around block (first ∷ rest) → Placed body around block rest
  placed_rest {first} {rest} placed = record {
    under = λ b inner stands. placed.under b inner (under_rest first rest b inner around stands);
    in_body = λ b stands. placed.in_body b (stands_rest first rest b stands);
    in_site = λ site there b stands. placed.in_site site there b (stands_rest first rest b stands);
    in_block = λ b stands. placed.in_block b (stands_rest first rest b stands);
  }

  module _ {a : Stmt} (one : PlacedOne body around block a) where
    -- where the statement itself stands
    pub one_under : StandsUnder a around (own_sites body) body.statements
    one_under = one.placed.under a around (sites.here one.there)

    pub one_in_body : StandsIn a body.statements
    one_in_body = one.placed.in_body a (here one.there)

    pub one_in_site : (site : Site) → Contains around site → StandsIn a site.block
    one_in_site site there = one.placed.in_site site there a (here one.there)

    pub one_in_block : StandsIn a block
    one_in_block = one.placed.in_block a (here one.there)

    -- a block of it, with the same sites around
    pub placed_inner : (inner : List Stmt) → Contains (insides around a) (record { sites = around; block = inner }) → Contains (blocks a) inner → Placed body around block inner
    placed_inner inner inside has = record {
      under = λ b further stands. one.placed.under b further (sites.deeper one.there inside stands);
      in_body = λ b stands. one.placed.in_body b (deeper one.there has stands);
      in_site = λ site there b stands. one.placed.in_site site there b (deeper one.there has stands);
      in_block = λ b stands. one.placed.in_block b (deeper one.there has stands);
    }

    -- its block, where it is a site
    pub placed_site : (site : Site) → Contains (insides around a) (record { sites = site ∷ around; block = site.block }) → Contains (blocks a) site.block → Placed body (site ∷ around) site.block site.block
    placed_site site inside has = record {
      under = λ b further stands. one.placed.under b further (sites.deeper one.there inside stands);
      in_body = λ b stands. one.placed.in_body b (deeper one.there has stands);
      in_site = λ other there b stands. by other (cons_cases site around other there) b stands;
      in_block = λ b stands. stands;
    }
      where
        by : (other : Site) → (site ≡ other) ⊎ Contains around other → (b : Stmt) → StandsIn b site.block → StandsIn b other.block
        by other (inl same) b stands = subst (λ (x : Site). StandsIn b x.block) same stands
        by other (inr there) b stands = one.placed.in_site other there b (deeper one.there has stands)

  -- ---- the blocks of each form

  pub placed_all : (a : Expr) (all others : List Stmt) → PlacedOne body around block (s.If a all others) → Placed body around block all
  placed_all a all others one = placed_inner one all (subst (λ list. Contains list (record { sites = around; block = all })) (sym (under_If around a all others)) (head_there (record { sites = around; block = all }) (record { sites = around; block = others } ∷ [])))
      (subst (λ list. Contains list all) (sym (has_If a all others)) (head_there all (others ∷ [])))

  pub placed_others : (a : Expr) (all others : List Stmt) → PlacedOne body around block (s.If a all others) → Placed body around block others
  placed_others a all others one = placed_inner one others
      (subst (λ list. Contains list (record { sites = around; block = others })) (sym (under_If around a all others))
      (later_there (record { sites = around; block = all }) (record { sites = around; block = others } ∷ []) (record { sites = around; block = others }) (head_there (record { sites = around; block = others }) [])))
      (subst (λ list. Contains list others) (sym (has_If a all others)) (later_there all (others ∷ []) others (head_there others [])))

  pub placed_loop : (a : Expr) (all : List Stmt) → PlacedOne body around block (s.While a all) → Placed body around block all
  placed_loop a all one = placed_inner one all (subst (λ list. Contains list (record { sites = around; block = all })) (sym (under_While around a all)) (head_there (record { sites = around; block = all }) []))
      (subst (λ list. Contains list all) (sym (has_While a all)) (head_there all []))

  pub placed_locked : (a : Expr) (grade : Grade) (all : List Stmt) → PlacedOne body around block (s.Sync a grade all) → Placed body (record { lock = a; grade = grade; block = all } ∷ around) all all
  placed_locked a grade all one = placed_site one (record { lock = a; grade = grade; block = all })
      (subst (λ list. Contains list (record { sites = record { lock = a; grade = grade; block = all } ∷ around; block = all })) (sym (under_Sync around a grade all)) (head_there (record { sites = record { lock = a; grade = grade; block = all } ∷ around; block = all }) []))
      (subst (λ list. Contains list all) (sym (has_Sync a grade all)) (head_there all []))

  -- what stands in the block of a site stands in the block at hand
  pub site_in_block : (a : Expr) (grade : Grade) (all : List Stmt) → PlacedOne body around block (s.Sync a grade all) → (b : Stmt) → StandsIn b all → StandsIn b block
  site_in_block a grade all one b stands = one.placed.in_block b (deeper one.there (subst (λ list. Contains list all) (sym (has_Sync a grade all)) (head_there all [])) stands)

-- the whole body
pub placed_whole : (body : Routine) → (((site : Site) → Contains (own_sites body) site → site.block ≡ body.statements)) → Placed body (own_sites body) body.statements body.statements
placed_whole body own = record {
  under = λ b inner stands. stands;
  in_body = λ b stands. stands;
  in_site = λ site there b stands. subst (StandsIn b) (sym (own site there)) stands;
  in_block = λ b stands. stands;
}

-- ---- expressions

-- The expression stands in what the statement evaluates.
pub record InStmt (a : Stmt) (e : Expr) : Type 0 where
  pub evaluates : (part : Expr) → IsPart part e → Evaluates a part

-- one of its own expressions
pub in_own : (a : Stmt) (e : Expr) (list : List Expr) → evaluated a ≡ list → Contains list e → InStmt a e
in_own a e list is there = record { evaluates = λ part stands. record { whole = e; evaluates = subst (λ all. Contains all e) (sym is) there; is_part = stands } }

-- an operand
pub in_operand : (a : Stmt) (e operand : Expr) (list : List Expr) → operands e ≡ list → Contains list operand → InStmt a e → InStmt a operand
in_operand a e operand list is there inside = record { evaluates = λ part stands. inside.evaluates part (of_operand (subst (λ all. Contains all operand) (sym is) there) stands) }

-- the expression itself
pub evaluates_it : (a : Stmt) (e : Expr) → InStmt a e → Evaluates a e
evaluates_it a e inside = inside.evaluates e itself
