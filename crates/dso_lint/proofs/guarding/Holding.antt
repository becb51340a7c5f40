-- The good holds of some sites, and of one site more.
use Rattle.std.proofs.Common.{◌≡◌, ◌⊎◌, inl, inr, refl, Bool, List, [], ◌∷◌, ◌++◌, sym, subst, ap, ◌∙◌}
use Rattle.std.specs.Prelude.{Contains, Option, None, Some}
use Rattle.std.proofs.lemmas.List.Elements.{Contains-append_left, Contains-append_cases, Contains-push, Contains-push_cases}
use Rattle.dso_base.specs.declared.shape.Shape.{Shape}
use Rattle.dso_machine.specs.declared.tree.Stmt.{Stmt}
use Rattle.dso_machine.specs.declared.tree.Stmt.TheVariants as s
use Rattle.dso_lint.specs.declared.holds.Hold.{Hold}
use Rattle.dso_lint.specs.declared.holds.Variable.{Variable}
use Rattle.dso_lint.specs.declared.holds.Variable.TheVariants.{This, Numbered}
use Rattle.dso_lint.specs.Access.{IsVariable, variable, this, HoldsWell, IsLocked, IsQuiet, writes}
use Rattle.dso_lint.specs.Clean.{Chosen, IsClean}
use Rattle.dso_lint.specs.Holds.{expr_of, IsAssigned, IsHeld, hold_at, IsGoodHold, IsHoldOf, AreHolds}
use Rattle.dso_lint.specs.Sites.{Site}
use Rattle.dso_lint.specs.Trees.{StandsIn}
use Rattle.dso_lint.proofs.standing.Trees.{none_there, head_there, later_there, cons_cases}

-- ---- variables

pub same_variable : (v w : Variable) → expr_of v ≡ expr_of w → v ≡ w
same_variable This This is = refl
same_variable This (Numbered i) is = absurd (cc is)
same_variable (Numbered i) This is = absurd (cc is)
same_variable (Numbered i) (Numbered j) is = let same : i ≡ j = cc is in ap Numbered same

pub variable_expr : (v : Variable) → IsVariable (expr_of v)
variable_expr This = this
variable_expr (Numbered i) = variable i

-- a hold on a variable
abbrev make : Variable → Bool → Hold
make v w = record { variable = v; writes = w }

-- nothing assigns `this`
pub this_stays : (block : List Stmt) → IsAssigned block This → ⊥
this_stays block assigned = cc assigned.2.same

module _ (shape : Shape) (chosen : Chosen) where
  -- ---- what is held is locked

  pub held_locked : (holds : List Hold) (sites : List Site) (v : Variable) (write : Bool) → AreHolds shape chosen holds sites → IsHeld holds v write → IsLocked shape chosen (expr_of v) write sites
  held_locked holds sites v write are held =
      let of = are.only held.0 held.1 in
      record {
        site = of.site;
        around = of.there;
        holds = subst (λ w. HoldsWell shape chosen (expr_of w) of.site) held.2.is of.holds;
        allows = λ w. sym of.grade ∙ held.2.allows w;
      }

  pub locked_held : (holds : List Hold) (sites : List Site) (v : Variable) (write : Bool) → AreHolds shape chosen holds sites → IsLocked shape chosen (expr_of v) write sites → IsHeld holds v write
  locked_held holds sites v write are locked =
      let hold = make v (writes locked.site.grade) in
      (hold, are.all hold (record { site = locked.site; there = locked.around; holds = locked.holds; grade = refl }), record { is = refl; allows = locked.allows })

  -- ---- the good hold of one site

  pub no_good : (site : Site) → (IsVariable site.lock → ⊥) → IsGoodHold shape chosen site None
  no_good site never v is = never (subst IsVariable (sym is.locks) is.is_variable)

  pub assigned_not_good : (site : Site) (v : Variable) → site.lock ≡ expr_of v → IsAssigned site.block v → IsGoodHold shape chosen site None
  assigned_not_good site v locks assigned w is =
      let at = assigned.2 in
      is.stays at.number at.value (sym is.locks ∙ locks ∙ ap expr_of at.same) (subst (λ a. StandsIn a site.block) at.is assigned.1)

  pub good : (site : Site) (v : Variable) → site.lock ≡ expr_of v → (IsAssigned site.block v → ⊥) → IsClean chosen site.lock ⊎ IsQuiet shape site.block → IsGoodHold shape chosen site (Some v)
  good site v locks stays is = record {
    locks = locks;
    is_variable = variable_expr v;
    stays = λ i a same stands. stays (s.Assign i a, stands, record { number = i; value = a; is = refl; same = same_variable v (Numbered i) same });
    good = by is;
  }
    where
      by : IsClean chosen site.lock ⊎ IsQuiet shape site.block → IsClean chosen (expr_of v) ⊎ IsQuiet shape site.block
      by (inl clean) = inl (subst (IsClean chosen) locks clean)
      by (inr quiet) = inr quiet

  pub neither_good : (site : Site) → (IsClean chosen site.lock → ⊥) → (IsQuiet shape site.block → ⊥) → IsGoodHold shape chosen site None
  neither_good site unclean loud v is = by is.good
    where
      by : IsClean chosen v ⊎ IsQuiet shape site.block → ⊥
      by (inl clean) = unclean (subst (IsClean chosen) (sym is.locks) clean)
      by (inr quiet) = loud quiet

  -- ---- the good holds of more sites

  pub no_holds : AreHolds shape chosen [] []
  no_holds = record { only = λ hold there. absurd (none_there hold there); all = λ hold of. absurd (none_there of.site of.there) }

  further : (site : Site) (sites : List Site) (hold : Hold) → IsHoldOf shape chosen sites hold → IsHoldOf shape chosen (site ∷ sites) hold
  further site sites hold of = record { site = of.site; there = later_there site sites of.site of.there; holds = of.holds; grade = of.grade }

  nearer : (site : Site) (sites : List Site) (hold : Hold) → IsHoldOf shape chosen (site ∷ sites) hold → (HoldsWell shape chosen (expr_of hold.variable) site × (hold.writes ≡ writes site.grade)) ⊎ IsHoldOf shape chosen sites hold
  nearer site sites hold of = by (cons_cases site sites of.site of.there)
    where
      by : (site ≡ of.site) ⊎ Contains sites of.site → (HoldsWell shape chosen (expr_of hold.variable) site × (hold.writes ≡ writes site.grade)) ⊎ IsHoldOf shape chosen sites hold
      by (inl same) = inl (subst (HoldsWell shape chosen (expr_of hold.variable)) (sym same) of.holds, of.grade ∙ ap (λ (at : Site). writes at.grade) (sym same))
      by (inr there) = inr (record { site = of.site; there = there; holds = of.holds; grade = of.grade })

  same_hold : (hold : Hold) (v : Variable) (w : Bool) → hold.variable ≡ v → hold.writes ≡ w → make v w ≡ hold
  same_hold hold v w same_v same_w = ap (λ (u : Variable). make u w) (sym same_v) ∙ ap (make hold.variable) (sym same_w)

  pub more_holds : (holds : List Hold) (sites : List Site) (site : Site) (held : Option Variable) → AreHolds shape chosen holds sites → IsGoodHold shape chosen site held → AreHolds shape chosen (holds ++ hold_at held site.grade) (site ∷ sites)
  more_holds holds sites site None are none = record { only = only; all = all }
    where
      only : (hold : Hold) → Contains (holds ++ []) hold → IsHoldOf shape chosen (site ∷ sites) hold
      only hold there = by (Contains-append_cases holds [] hold there)
        where
          by : Contains holds hold ⊎ Contains [] hold → IsHoldOf shape chosen (site ∷ sites) hold
          by (inl here) = further site sites hold (are.only hold here)
          by (inr nowhere) = absurd (none_there hold nowhere)

      all : (hold : Hold) → IsHoldOf shape chosen (site ∷ sites) hold → Contains (holds ++ []) hold
      all hold of = by (nearer site sites hold of)
        where
          by : (HoldsWell shape chosen (expr_of hold.variable) site × (hold.writes ≡ writes site.grade)) ⊎ IsHoldOf shape chosen sites hold → Contains (holds ++ []) hold
          by (inl mine) = absurd (none (expr_of hold.variable) mine.0)
          by (inr its) = Contains-append_left holds [] hold (are.all hold its)
  more_holds holds sites site (Some v) are well = record { only = only; all = all }
    where
      only : (hold : Hold) → Contains (holds ++ make v (writes site.grade) ∷ []) hold → IsHoldOf shape chosen (site ∷ sites) hold
      only hold there = by (Contains-push_cases holds (make v (writes site.grade)) hold there)
        where
          by : Contains holds hold ⊎ (make v (writes site.grade) ≡ hold) → IsHoldOf shape chosen (site ∷ sites) hold
          by (inl here) = further site sites hold (are.only hold here)
          by (inr same) = subst (IsHoldOf shape chosen (site ∷ sites)) same (record { site = site; there = head_there site sites; holds = well; grade = refl })

      all : (hold : Hold) → IsHoldOf shape chosen (site ∷ sites) hold → Contains (holds ++ make v (writes site.grade) ∷ []) hold
      all hold of = by (nearer site sites hold of)
        where
          by : (HoldsWell shape chosen (expr_of hold.variable) site × (hold.writes ≡ writes site.grade)) ⊎ IsHoldOf shape chosen sites hold → Contains (holds ++ make v (writes site.grade) ∷ []) hold
          by (inl is) =
              let same = same_variable hold.variable v (sym is.0.locks ∙ well.locks) in
              subst (Contains (holds ++ make v (writes site.grade) ∷ [])) (same_hold hold v (writes site.grade) same is.1) (Contains-push holds (make v (writes site.grade)))
          by (inr its) = Contains-append_left holds (make v (writes site.grade) ∷ []) hold (are.all hold its)
