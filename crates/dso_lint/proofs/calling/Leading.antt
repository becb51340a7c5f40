-- From which methods calls lead to where P holds, as they are found backwards one after the other.
use Rattle.std.proofs.Common.{◌≡◌, ◌⊎◌, inl, inr, refl, ℕ, suc, ◌+◌, ◌<◌, ◌≤◌, arith, Bool, false, List, length, get_or, sym, subst, ap, ◌∙◌}
use Rattle.std.proofs.lemmas.Bool.{cases_eq, cases_lt}
use Rattle.std.proofs.lemmas.List.{get_or_default, get_or_append_left, get_or_past}
use Rattle.std.proofs.lemmas.List.Sums.{count_by-le-length}
use Rattle.dso_machine.specs.declared.code.Code.{Code}
use Rattle.dso_machine.specs.declared.tree.Stmt.{Stmt}
use Rattle.dso_lint.specs.declared.answer.Place.TheVariants as place
use Rattle.dso_lint.specs.declared.callers.Called.{Called}
use Rattle.dso_lint.specs.declared.marks.Marks.{Marks}
use Rattle.dso_lint.specs.Callers.{AreCallers, CallsMethod, IsCaller}
use Rattle.dso_lint.specs.Leads.{AreLeading, CallsMarked, Leading, LeadsOn, LeadsSoFar, Within}
use Rattle.dso_lint.specs.Marked.{AreTidy, IsMarked, MarksMore}
use Rattle.dso_lint.specs.Routines.{Routine, IsAt}
use Rattle.dso_lint.specs.Upgrades.{Calls, LeadsTo, calls, onward}
use Rattle.dso_lint.proofs.calling.Calling.{method_low}

-- a number that is marked is one of those that may be
pub marked_low : (marked : List Bool) (m : ℕ) → Within marked m → m < length marked
marked_low marked m is = by (cases_lt m (length marked))
  where
    by : (m < length marked) ⊎ (length marked ≤ m) → m < length marked
    by (inl low) = low
    by (inr past) = absurd (cc (sym is ∙ get_or_past marked m false past))

module _ (code : Code) (P : ℕ → Type 0) where
  -- what calls a method from which calls lead to where P holds is such a method itself
  leads_back : (k m : ℕ) → CallsMethod code k m → Leading code P m → LeadsOn code P k
  leads_back k m may (inl is) = record { to = m; body = may.body; is = is; at = may.at; leads = calls may.calls }
  leads_back k m may (inr on) = record { to = on.to; body = may.body; is = on.is; at = may.at; leads = onward m may.calls on.at on.leads }

module _ (code : Code) (P : ℕ → Type 0) (size : ℕ) where
  pub leads_begun : (marks : Marks) → AreTidy marks → length marks.marked.items ≡ size → ((m : ℕ) → IsMarked marks m → P m) → ((m : ℕ) → P m → IsMarked marks m) → LeadsSoFar code P size 0 marks
  leads_begun marks tidy number only all = record { tidy = tidy; number = number; sound = λ m is. inl (only m is); start = all; closed = λ p low. absurd (omega (arith, low)) }

  pub leads_past : (next : ℕ) (marks : Marks) → length marks.found.items ≤ next → LeadsSoFar code P size next marks → LeadsSoFar code P size (next + 1) marks
  leads_past next marks past so = record {
    tidy = so.tidy;
    number = so.number;
    sound = so.sound;
    start = so.start;
    closed = λ p low high. so.closed p (omega (arith, high, past)) high;
  }

  -- what is found is marked
  pub found_marked : (next : ℕ) (marks : Marks) → next < length marks.found.items → LeadsSoFar code P size next marks → IsMarked marks (get_or marks.found.items next 0)
  found_marked next marks low so =
      so.tidy.marked (get_or marks.found.items next 0) (next, low, get_or_default marks.found.items next (get_or marks.found.items next 0) 0 low)

  pub found_low : (next : ℕ) (marks : Marks) → next < length marks.found.items → LeadsSoFar code P size next marks → get_or marks.found.items next 0 < size
  found_low next marks low so =
      let few = marked_low marks.marked.items (get_or marks.found.items next 0) (found_marked next marks low so) in
      omega (arith, few, so.number)

  module _ (next : ℕ) (marks new : Marks) (callers : List Called) (d : Called) (low : next < length marks.found.items) (fits : get_or marks.found.items next 0 < size) (are : AreCallers code size (length code.methods) callers)
      (more : MarksMore (λ k. IsCaller k (get_or callers (get_or marks.found.items next 0) d)) marks new) (so : LeadsSoFar code P size next marks) where
    abbrev here : ℕ
    here = get_or marks.found.items next 0

    sound : (k : ℕ) → IsMarked marks k ⊎ IsCaller k (get_or callers here d) → Leading code P k
    sound k (inl was) = so.sound k was
    sound k (inr calling) = inr (leads_back code P k here (are.only here k d fits calling) (so.sound here (found_marked next marks low so)))

    same_found : (p : ℕ) → p < next + 1 → get_or new.found.items p 0 ≡ get_or marks.found.items p 0
    same_found p early =
        let there : p < length marks.found.items = omega (arith, early, low) in
        ap (λ xs. get_or xs p 0) more.behind ∙ get_or_append_left marks.found.items more.more 0 p there

    closed : (p : ℕ) → p < next + 1 → (k : ℕ) → k < size → CallsMethod code k (get_or marks.found.items p 0) → (p ≡ next) ⊎ (p ≡ next → ⊥) → IsMarked new k
    closed p early k few may (inl same) =
        let mine : CallsMethod code k here = subst (λ n. CallsMethod code k (get_or marks.found.items n 0)) same may in
        let method = method_low code k mine.body mine.at in
        more.added k (omega (arith, few, so.number)) (are.all here k d fits method mine)
    closed p early k few may (inr other) =
        let before : p < next = omega (arith, early, other) in
        let there : p < length marks.found.items = omega (arith, before, low) in
        more.kept k (so.closed p before there k few may)

    pub leads_next : LeadsSoFar code P size (next + 1) new
    leads_next = record {
      tidy = more.tidy so.tidy;
      number = more.size ∙ so.number;
      sound = λ k is. sound k (more.only k is);
      start = λ k is. more.kept k (so.start k is);
      closed = λ p early there k few may. closed p early k few (subst (CallsMethod code k) (same_found p early) may) (cases_eq p next);
    }

-- ---- at the end

module _ (code : Code) (P : ℕ → Type 0) (size count : ℕ) (marks : Marks) (so : LeadsSoFar code P size count marks) (whole : length marks.found.items ≤ count) (few : length code.methods ≤ size) where
  caller_marked : (k m : ℕ) → IsMarked marks m → CallsMethod code k m → IsMarked marks k
  caller_marked k m is may =
      let there = so.tidy.found m is in
      let early : there.0 < count = omega (arith, there.1, whole) in
      let here : get_or marks.found.items there.0 0 ≡ m = get_or_default marks.found.items there.0 0 m there.1 ∙ there.2 in
      let method = method_low code k may.body may.at in
      so.closed there.0 early there.1 k (omega (arith, method, few)) (subst (CallsMethod code k) (sym here) may)

  all_marked : (w : ℕ) → P w → (from : List Stmt) → LeadsTo code w from → (k : ℕ) (body : Routine) → IsAt code (place.Method (suc k)) body → from ≡ body.statements → IsMarked marks k
  all_marked w is from (calls may) k body at same = caller_marked k w (so.start w is) (record { body = body; at = at; calls = subst (λ block. Calls block w) same may })
  all_marked w is from (onward {body = other} j may there rest) k body at same =
      caller_marked k j (all_marked w is other.statements rest j other there refl) (record { body = body; at = at; calls = subst (λ block. Calls block j) same may })

  leading_marked : (m : ℕ) → Leading code P m → IsMarked marks m
  leading_marked m (inl is) = so.start m is
  leading_marked m (inr on) = all_marked on.to on.is on.body.statements on.leads m on.body on.at refl

  pub leads_end : AreLeading code P size marks.marked.items
  leads_end = record { number = so.number; sound = so.sound; whole = λ m low is. leading_marked m is }

-- what is found is not more than what may be marked
pub found_fit : (marks : Marks) → AreTidy marks → length marks.found.items ≤ length marks.marked.items
found_fit marks tidy =
    let most = count_by-le-length (λ (mark : Bool). mark) marks.marked.items in
    omega (arith, most, tidy.counted)

-- ---- what a block's calls lead to

module _ (code : Code) (P : ℕ → Type 0) (size : ℕ) (marked : List Bool) (are : AreLeading code P size marked) (block : List Stmt) where
  abbrev pub LeadsInto : Type 0
  LeadsInto = (m : ℕ) × P m × LeadsTo code m block

  pub marked_leads : CallsMarked marked block → LeadsInto
  marked_leads has = by (are.sound has.method has.is)
    where
      by : Leading code P has.method → LeadsInto
      by (inl is) = (has.method, is, calls has.calls)
      by (inr on) = (on.to, on.is, onward has.method has.calls on.at on.leads)

  pub leads_marked : ((m : ℕ) → P m → m < size) → length code.methods ≤ size → LeadsInto → CallsMarked marked block
  leads_marked low few into = by into.2
    where
      by : LeadsTo code into.0 block → CallsMarked marked block
      by (calls may) = record { method = into.0; calls = may; is = are.whole into.0 (low into.0 into.1) (inl into.1) }
      by (onward {body = body} k may at rest) =
          let method = method_low code k body at in
          record { method = k; calls = may; is = are.whole k (omega (arith, method, few)) (inr (record { to = into.0; body = body; is = into.1; at = at; leads = rest })) }

-- the same marks say the same of what is the same
pub leading_as : (code : Code) (P Q : ℕ → Type 0) (size : ℕ) (marked : List Bool) → ((m : ℕ) → P m → Q m) → ((m : ℕ) → Q m → P m) → AreLeading code P size marked → AreLeading code Q size marked
leading_as code P Q size marked so back are = record {
  number = are.number;
  sound = λ m is. there m (are.sound m is);
  whole = λ m low is. are.whole m low (here m is);
}
  where
    there : (m : ℕ) → Leading code P m → Leading code Q m
    there m (inl is) = inl (so m is)
    there m (inr on) = inr (record { to = on.to; body = on.body; is = so on.to on.is; at = on.at; leads = on.leads })

    here : (m : ℕ) → Leading code Q m → Leading code P m
    here m (inl is) = inl (back m is)
    here m (inr on) = inr (record { to = on.to; body = on.body; is = back on.to on.is; at = on.at; leads = on.leads })
