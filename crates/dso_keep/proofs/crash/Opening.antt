-- What a crash leaves while bytes are put behind a closed gate and the gate is opened.
use Rattle.std.proofs.Common.{◌≡◌, inl, inr, ℕ, ◌+◌, ◌≤◌, List, [], ◌∷◌, ◌++◌, length, length-append, take, drop, get_or, refl, sym, ◌∙◌, ap, subst, arith, append_assoc, take-append-drop, Option, Some, None, Result, Ok, Err, OnOk}
use Rattle.std.proofs.lemmas.List.{take_at, drop_at, drop_more, take_all, drop_all, append-nil}
use Rattle.std.specs.Option.{IfSome}
use Rattle.dso_keep.specs.Disk.{File, MayLeave, Torn, Wrote, Synced, with_bytes, bytes_in, changed, Makes}
use Rattle.dso_keep.specs.Packets.{IsStaged, IsKept}
use Rattle.dso_keep.proofs.crash.Moments.{settled_leaves}
use Rattle.dso_keep.proofs.crash.Torn.{torn_wider}

module _ (front : List ℕ) (gate : ℕ) (is_at : gate ≡ length front) where
  long : (tail : List ℕ) → length (front ++ tail) ≡ gate + length tail
  long tail = omega (arith, is_at, length-append front tail)

  -- whatever a torn write behind the gate leaves
  torn_behind : (n : ℕ) (left : List ℕ) → Torn (gate + 1) n (front ++ 0 ∷ []) left → (rest : List ℕ) × (left ≡ front ++ 0 ∷ rest)
  torn_behind n left torn =
      let whole : take (gate + 1) left ≡ front ++ 0 ∷ [] = torn.before ∙ take_all _ _ (omega (arith, long (0 ∷ []))) in
      (drop (gate + 1) left, sym (take-append-drop (gate + 1) left) ∙ ap (λ (l : List ℕ). l ++ drop (gate + 1) left) whole ∙ append_assoc front (0 ∷ []) (drop (gate + 1) left))

  written_behind : (bytes : List ℕ) → with_bytes (gate + 1) bytes (front ++ 0 ∷ []) ≡ front ++ 0 ∷ bytes
  written_behind bytes =
      ap (λ (l : List ℕ). l ++ bytes ++ drop (gate + 1 + length bytes) (front ++ 0 ∷ [])) (take_all _ _ (omega (arith, long (0 ∷ []))))
      ∙ ap (λ (l : List ℕ). (front ++ 0 ∷ []) ++ bytes ++ l) (drop_all (gate + 1 + length bytes) (front ++ 0 ∷ []) (omega (arith, long (0 ∷ []))))
      ∙ append-nil ((front ++ 0 ∷ []) ++ bytes)
      ∙ append_assoc front (0 ∷ []) bytes

  ahead : (bytes : List ℕ) → take gate (front ++ 0 ∷ bytes) ≡ front
  ahead bytes = take_at front (0 ∷ bytes) gate (sym is_at)

  past : (bytes : List ℕ) → drop (gate + 1) (front ++ 0 ∷ bytes) ≡ bytes
  past bytes = ap (λ (l : List ℕ). drop (gate + 1) l) (sym (append_assoc front (0 ∷ []) bytes)) ∙ drop_at (front ++ 0 ∷ []) bytes (gate + 1) (omega (arith, long (0 ∷ [])))

  -- whatever a torn write of the gate leaves
  torn_gate : (bytes left : List ℕ) → Torn gate 1 (front ++ 0 ∷ bytes) left → (byte : ℕ) × (left ≡ front ++ byte ∷ bytes)
  torn_gate bytes left torn =
      let byte = get_or left gate 0 in
      let rest : drop gate left ≡ byte ∷ bytes =
      drop_more left gate 0 (omega (arith, torn.no_shorter, long (0 ∷ bytes))) ∙ ap (λ (l : List ℕ). byte ∷ l) (torn.behind ∙ past bytes) in
      (byte, sym (take-append-drop gate left) ∙ ap (λ (l : List ℕ). l ++ drop gate left) (torn.before ∙ ahead bytes) ∙ ap (λ (l : List ℕ). front ++ l) rest)

  written_gate : (bytes : List ℕ) → with_bytes gate (1 ∷ []) (front ++ 0 ∷ bytes) ≡ front ++ 1 ∷ bytes
  written_gate bytes =
      ap (λ (l : List ℕ). l ++ (1 ∷ []) ++ drop (gate + 1) (front ++ 0 ∷ bytes)) (ahead bytes) ∙ ap (λ (l : List ℕ). front ++ (1 ∷ []) ++ l) (past bytes) ∙ append_assoc front (1 ∷ []) bytes

  module _ (bytes : List ℕ) where
    -- at the start
    pub at_start : (file : Option File) → IsKept (front ++ 0 ∷ []) file → IfSome file (λ f. (left : List ℕ) → MayLeave f.first f.changes left → IsStaged front bytes left)
    at_start None kept = tt
    at_start (Some f) kept = λ left leaves. inl ([], settled_leaves f.first f.changes left kept.1 leaves ∙ kept.0)

    -- in the first write, of whatever bytes
    pub in_write : (file : Option File) → IsKept (front ++ 0 ∷ []) file → (part : List ℕ) → length part ≤ length bytes
        → IfSome file (λ f. (left : List ℕ) → MayLeave f.first (Wrote (gate + 1) part ∷ f.changes) left → IsStaged front bytes left)
    in_write None kept part few = tt
    in_write (Some f) kept part few = λ left leaves. let is = settled_leaves f.first f.changes leaves.0 kept.1 leaves.1 ∙ kept.0 in
        inl (torn_behind (length part) left (subst (λ old. Torn (gate + 1) (length part) old left) is leaves.2))

    -- in the first sync
    pub in_sync : (file : Option File) → IsKept (front ++ 0 ∷ []) file
        → IfSome (changed (Wrote (gate + 1) bytes) file) (λ f. (left : List ℕ) → MayLeave f.first (Synced ∷ f.changes) left → IsStaged front bytes left)
    in_sync None kept = tt
    in_sync (Some f) kept = λ left leaves. inl (bytes, leaves ∙ ap (with_bytes (gate + 1) bytes) kept.0 ∙ written_behind bytes)

    -- after it
    pub synced : (file : Option File) → IsKept (front ++ 0 ∷ []) file → IsKept (front ++ 0 ∷ bytes) (changed Synced (changed (Wrote (gate + 1) bytes) file))
    synced None kept = tt
    synced (Some f) kept = (ap (with_bytes (gate + 1) bytes) kept.0 ∙ written_behind bytes, refl)

    -- in the second write, of whatever byte
    pub in_gate : (file : Option File) → IsKept (front ++ 0 ∷ bytes) file → (part : List ℕ) → length part ≤ 1
        → IfSome file (λ f. (left : List ℕ) → MayLeave f.first (Wrote gate part ∷ f.changes) left → IsStaged front bytes left)
    in_gate None kept part few = tt
    in_gate (Some f) kept part few = λ left leaves. let is = settled_leaves f.first f.changes leaves.0 kept.1 leaves.1 ∙ kept.0 in
        let torn : Torn gate (length part) (front ++ 0 ∷ bytes) left = subst (λ old. Torn gate (length part) old left) is leaves.2 in
        inr (torn_gate bytes left (torn_wider gate (length part) 1 (front ++ 0 ∷ bytes) left few torn))

    -- in the second sync
    pub in_last : (file : Option File) → IsKept (front ++ 0 ∷ bytes) file
        → IfSome (changed (Wrote gate (1 ∷ [])) file) (λ f. (left : List ℕ) → MayLeave f.first (Synced ∷ f.changes) left → IsStaged front bytes left)
    in_last None kept = tt
    in_last (Some f) kept = λ left leaves. inr (1, leaves ∙ ap (with_bytes gate (1 ∷ [])) kept.0 ∙ written_gate bytes)

    pub opened : (file : Option File) → IsKept (front ++ 0 ∷ bytes) file → IsKept (front ++ 1 ∷ bytes) (changed Synced (changed (Wrote gate (1 ∷ [])) file))
    opened None kept = tt
    opened (Some f) kept = (ap (with_bytes gate (1 ∷ [])) kept.0 ∙ written_gate bytes, refl)

    pub opened_if_ok : {A F : Type 0} (file mid new : Option File) (result : Result A F) → IsKept (front ++ 0 ∷ bytes) file → mid ≡ changed (Wrote gate (1 ∷ [])) file → Makes Synced mid new result
        → OnOk result (IsKept (front ++ 1 ∷ bytes) new)
    opened_if_ok file mid new (Ok answer) kept wrote synced = subst (IsKept (front ++ 1 ∷ bytes)) (sym (synced ∙ ap (changed Synced) wrote)) (opened file kept)
    opened_if_ok file mid new (Err fault) kept wrote synced = tt

  -- a write is within the file
  pub within : (at : ℕ) (bytes : List ℕ) (file : Option File) → IsKept bytes file → at ≤ length bytes → IfSome file (λ f. at ≤ length (bytes_in f))
  within at bytes None kept le = tt
  within at bytes (Some f) kept le = omega (arith, ap length kept.0, le)
