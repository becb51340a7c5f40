-- Which methods take a lock at Write, and what may be taken from a block by what calls lead to.
use Rattle.std.proofs.Common.{◌≡◌, ◌⊎◌, inl, inr, ℕ, suc, ◌+◌, ◌-◌, ◌<◌, ◌≤◌, arith, Bool, List, length, sym, subst, ◌∙◌}
use Rattle.dso_machine.specs.declared.code.Code.{Code}
use Rattle.dso_machine.specs.declared.tree.Stmt.{Stmt}
use Rattle.dso_lint.specs.declared.answer.Place.{Place}
use Rattle.dso_lint.specs.declared.answer.Place.TheVariants as place
use Rattle.dso_lint.specs.Leads.{CallsMarked}
use Rattle.dso_lint.specs.Tables.{AreMonitors, AreTakers}
use Rattle.dso_lint.specs.Routines.{Routine, IsAt}
use Rattle.dso_lint.specs.Upgrades.{HasWriteSite, IsWriter, MayWriteMonitor, MayWriteName, TakesForWrite}
use Rattle.dso_lint.specs.Upgrading.{TakesMonitor, TakesName}
use Rattle.dso_lint.proofs.calling.Calling.{method_low}
use Rattle.dso_lint.proofs.calling.Leading.{leads_marked, marked_leads}

-- the place of a map's method behind so many
pub place_map : (n methods m : ℕ) → methods ≡ n → n ≤ m → (m - methods ≡ 3) ⊎ (m - methods ≡ 4) → (m ≡ n + 3) ⊎ (m ≡ n + 4)
place_map n methods m same high (inl is) = inl (omega (arith, same, high, is))
place_map n methods m same high (inr is) = inr (omega (arith, same, high, is))

pub map_place : (n methods m : ℕ) → methods ≡ n → n ≤ m → (m ≡ n + 3) ⊎ (m ≡ n + 4) → (m - methods ≡ 3) ⊎ (m - methods ≡ 4)
map_place n methods m same high (inl is) = inl (omega (arith, same, high, is))
map_place n methods m same high (inr is) = inr (omega (arith, same, high, is))

module _ (code : Code) where
  pub same_body : (at : Place) (a b : Routine) → IsAt code at a → IsAt code at b → a ≡ b
  same_body at a b is other = cc (sym is ∙ other)

  -- ---- monitors

  pub writer_takes : (m : ℕ) (body : Routine) → m < length code.methods → IsAt code (place.Method (suc m)) body → IsWriter code m → TakesMonitor body
  writer_takes m body low at (inl is) = absurd (omega (arith, low, is))
  writer_takes m body low at (inr (inl is)) = absurd (omega (arith, low, is))
  writer_takes m body low at (inr (inr is)) = subst TakesMonitor (same_body (place.Method (suc m)) is.0 body is.1 at) is.2

  pub takes_writer : (m : ℕ) (body : Routine) → IsAt code (place.Method (suc m)) body → TakesMonitor body → IsWriter code m
  takes_writer m body at takes = inr (inr (body, at, takes))

  pub behind_writer : (m : ℕ) → length code.methods ≤ m → IsWriter code m → (m ≡ length code.methods + 3) ⊎ (m ≡ length code.methods + 4)
  behind_writer m high (inl is) = inl is
  behind_writer m high (inr (inl is)) = inr is
  behind_writer m high (inr (inr is)) = let low = method_low code m is.0 is.1 in absurd (omega (arith, low, high))

  pub map_writer : (m : ℕ) → (m ≡ length code.methods + 3) ⊎ (m ≡ length code.methods + 4) → IsWriter code m
  map_writer m (inl is) = inl is
  map_writer m (inr is) = inr (inl is)

  pub writer_low : (m : ℕ) → IsWriter code m → m < length code.methods + 5
  writer_low m (inl is) = omega (arith, is)
  writer_low m (inr (inl is)) = omega (arith, is)
  writer_low m (inr (inr is)) = let low = method_low code m is.0 is.1 in omega (arith, low)

  pub taker_low : (lock m : ℕ) → TakesName code lock m → m < length code.methods + 5
  taker_low lock m takes = let low = method_low code m takes.0 takes.1 in omega (arith, low)

  -- what a block may take whose calls may reach what is marked
  module _ (block : List Stmt) (marked : List Bool) where
    pub monitors_may : AreMonitors code marked → CallsMarked marked block → MayWriteMonitor code block
    monitors_may are has =
        let into = marked_leads code (IsWriter code) (length code.methods + 5) marked are block has in
        inr (into.0, into.2, into.1)

    pub may_monitors : AreMonitors code marked → (HasWriteSite block → ⊥) → MayWriteMonitor code block → CallsMarked marked block
    may_monitors are never (inl site) = absurd (never site)
    may_monitors are never (inr may) = leads_marked code (IsWriter code) (length code.methods + 5) marked are block writer_low (omega (arith)) (may.0, may.2, may.1)

    -- ---- named locks

    pub takers_may : (lock : ℕ) → AreTakers code lock marked → CallsMarked marked block → MayWriteName code lock block
    takers_may lock are has =
        let into = marked_leads code (TakesName code lock) (length code.methods + 5) marked are block has in
        (into.0, into.1.0, into.2, into.1.1, into.1.2)

    pub may_takers : (lock : ℕ) → AreTakers code lock marked → MayWriteName code lock block → CallsMarked marked block
    may_takers lock are may =
        leads_marked code (TakesName code lock) (length code.methods + 5) marked are block (λ m takes. taker_low lock m takes) (omega (arith)) (may.0, (may.1, may.3, may.4), may.2)

  pub takes_named : (lock m : ℕ) (body : Routine) → IsAt code (place.Method (suc m)) body → TakesName code lock m → TakesForWrite lock body.named
  takes_named lock m body at takes = subst (λ (b : Routine). TakesForWrite lock b.named) (same_body (place.Method (suc m)) takes.0 body takes.1 at) takes.2

  pub no_name_behind : (lock m : ℕ) → length code.methods ≤ m → TakesName code lock m → ⊥
  no_name_behind lock m high takes = let low = method_low code m takes.0 takes.1 in absurd (omega (arith, low, high))
