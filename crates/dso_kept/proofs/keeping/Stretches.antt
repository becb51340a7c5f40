-- What a crash leaves in one stretch of time and then another.
use Rattle.std.proofs.Common.{◌≡◌, ◌⊎◌, inl, inr, ℕ, suc, ◌+◌, ◌<◌, ◌≤◌, List, [], ◌∷◌, ◌++◌, length, length-append, append_assoc, sym, ◌∙◌, ap, subst, arith, Option, Some, None}
use Rattle.std.proofs.lemmas.Bool.{cases_lt}
use Rattle.dso_keep.specs.Crash.{CrashLeaves, LeavesOnly}
use Rattle.dso_keep.specs.Disk.{Change, File, MayLeave}

-- an end of a list, no longer than the second of two parts, is an end of that
parts : {X : Type 0} (more old later sooner : List X) → more ++ old ≡ later ++ sooner → length sooner ≤ length old
    → (rest : List X) × (old ≡ rest ++ sooner)
parts [] old later sooner is le = (later, is)
parts (x ∷ more) old [] sooner is le =
    let long : length (x ∷ more ++ old) ≡ length sooner = ap length is in
    let total : length (x ∷ more ++ old) ≡ suc (length more) + length old = length-append (x ∷ more) old in absurd (omega (arith, long, total, le))
parts (x ∷ more) old (y ∷ later) sooner is le = parts more old later sooner (cc is) le

through : (P : List ℕ → Type 0) (old mid new : File) → LeavesOnly P old mid → LeavesOnly P mid new → LeavesOnly P old new
through P old mid new before after = record {
  first = after.first ∙ before.first;
  goes_on = (after.goes_on.0 ++ before.goes_on.0, after.goes_on.1 ∙ ap (λ (l : List Change). after.goes_on.0 ++ l) before.goes_on.1 ∙ sym (append_assoc after.goes_on.0 before.goes_on.0 old.changes));
  each = λ later sooner is long left may. by later sooner is long left may (cases_lt (length sooner) (length mid.changes));
}
  where
    by : (later sooner : List Change) → new.changes ≡ later ++ sooner → length old.changes ≤ length sooner → (left : List ℕ) → MayLeave new.first sooner left
        → (length sooner < length mid.changes) ⊎ (length mid.changes ≤ length sooner) → P left
    by later sooner is long left may (inr late) = after.each later sooner is late left may
    by later sooner is long left may (inl early) =
        let split = parts after.goes_on.0 mid.changes later sooner (sym after.goes_on.1 ∙ is) (omega (arith, early)) in
        before.each split.0 sooner split.1 long left (subst (λ first. MayLeave first sooner left) after.first may)

pub goes_through : (P : List ℕ → Type 0) (old mid new : Option File) → CrashLeaves P old mid → CrashLeaves P mid new → CrashLeaves P old new
goes_through P None None None before after = tt
goes_through P (Some old) (Some mid) (Some new) before after = through P old mid new before after
goes_through P None None (Some new) before after = after
goes_through P None (Some mid) new before after = absurd before
goes_through P (Some old) None new before after = absurd before
goes_through P (Some old) (Some mid) None before after = after
