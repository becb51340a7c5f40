-- The order of use after calls on its two parts.
use Rattle.std.proofs.Common.{ℕ, ◌+◌, ◌-◌, ◌≡◌, ◌<◌, refl, sym, ◌∙◌, ap, subst, arith, Bool, true, false, cond, not, eqb, nat_eq, ◌&&◌, ◌||◌, [], ◌∷◌, length, take, drop, is_some, Some}
use Rattle.std.specs.BTreeMap.{is_at}
use Rattle.std.specs.BTreeSet.{BTreeSet, contains}
use Rattle.std.specs.Map.{keys_of, remove_entry, lookup}
use Rattle.std.specs.Option.{option_map_or}
use Rattle.std.specs.Ordering.{nat_cmp}
use Rattle.lru.specs.LruCache.{LruCache, lru_cache, promoted}
use Rattle.dso_lookup.specs.Search.{is_listed}
use Rattle.dso_table.specs.declared.order.Order.{Order}
use Rattle.dso_table.specs.States.{without, with_at}
use Rattle.dso_table.specs.ObjectTables.{used_in, limit_in, is_ordered, number_in, JoinedBy, IsEachOnce, OrderAgrees}
use Rattle.dso_table.proofs.lists.Lists.{keys_removed, keys_promoted, keys_taken, listed_keys}
use Rattle.dso_table.proofs.lists.Numbers.{at_number}
use Rattle.dso_table.proofs.uses.Orders.{IsMoved, moved_first, moved_in, moved_out}

-- the objects used last that a cache keeps
abbrev pub Recent : Type 0
Recent = LruCache ℕ (Unit {0})

-- what is at a number or not, told by the test of numbers
pub told_at : (o q : ℕ) (b : Bool) → cond (is_at (nat_cmp o) q) false b ≡ (not (eqb q o) && b)
told_at o q b = ap (λ t. cond t false b) (at_number o q) ∙ by (eqb q o)
  where
    by : (t : Bool) → cond t false b ≡ (not t && b)
    by true = refl
    by false = refl

module _ (old : Order) (agrees : OrderAgrees old) (o : ℕ) (recent after : Recent) (is : old.recent ≡ Some recent) where
  -- the objects used last, by the cache
  pub used_is : used_in old ≡ keys_of recent.entries
  used_is = ap (λ r. option_map_or (λ x. keys_of x.entries) r []) is

  -- how many are kept, by the cache
  pub limit_is : limit_in old ≡ recent.cap
  limit_is = ap (λ r. option_map_or (λ x. x.cap) r 0) is

  -- each of them stands there once
  once_is : IsEachOnce (keys_of recent.entries)
  once_is = subst (λ xs. IsEachOnce xs) used_is agrees.once

  -- an object was taken out of both parts
  pub popped : (others : BTreeSet ℕ) (was : Bool) → after ≡ lru_cache (remove_entry (nat_eq o) recent.entries) recent.cap → ((q : ℕ) → contains nat_cmp others q ≡ cond (is_at (nat_cmp o) q) false (contains nat_cmp old.others q)) → was ≡ contains nat_cmp old.others o → length others.keys + cond was 1 0 ≡ length old.others.keys → is_ordered old o ≡ true → IsMoved (record { recent = Some after; others = others }) (without o (used_in old)) (with_at o false (is_ordered old)) (number_in old - 1)
  popped others was pop gone test len there = moved_out old (record { recent = Some after; others = others }) agrees o (ap (λ c. c.cap) pop ∙ sym limit_is) (ap (λ c. keys_of c.entries) pop ∙ (keys_removed o recent.entries once_is ∙ ap (λ xs. without o xs) (sym used_is))) (λ q. gone q ∙ told_at o q (contains nat_cmp old.others q)) there (subst (λ b. length others.keys + cond b 1 0 ≡ length old.others.keys) test len)

  -- an object of those used last was used
  pub promoted_by : after ≡ lru_cache (promoted (nat_eq o) recent.entries) recent.cap → is_some (lookup (nat_eq o) recent.entries) ≡ true → IsMoved (record { recent = Some after; others = old.others }) (take (limit_in old) (o ∷ without o (used_in old))) (is_ordered old) (number_in old)
  promoted_by first there = moved_first old (record { recent = Some after; others = old.others }) agrees o (ap (λ c. c.cap) first ∙ sym limit_is) (ap (λ c. keys_of c.entries) first ∙ (keys_promoted o recent.entries once_is there ∙ ap (λ xs. o ∷ without o xs) (sym used_is))) (ap (λ xs. is_listed o xs) used_is ∙ (sym (listed_keys o recent.entries) ∙ there)) refl

  -- an object of the others was used, and those that there is no room for joined them
  pub pushed : (mid others : BTreeSet ℕ) (was : Bool) → 0 < recent.cap → after ≡ lru_cache ((o, tt) ∷ take (recent.cap - 1) recent.entries) recent.cap → JoinedBy (drop (recent.cap - 1) (keys_of recent.entries)) old.others mid → ((q : ℕ) → contains nat_cmp others q ≡ cond (is_at (nat_cmp o) q) false (contains nat_cmp mid q)) → was ≡ contains nat_cmp mid o → length others.keys + cond was 1 0 ≡ length mid.keys → is_ordered old o ≡ true → is_listed o (keys_of recent.entries) ≡ false → IsMoved (record { recent = Some after; others = others }) (take (limit_in old) (o ∷ without o (used_in old))) (is_ordered old) (number_in old)
  pushed mid others was some push joined gone test len there absent =
      let absent' : is_listed o (used_in old) ≡ false = ap (λ xs. is_listed o xs) used_is ∙ absent in
      let among : contains nat_cmp old.others o ≡ true = sym (ap (λ b. b || contains nat_cmp old.others o) absent') ∙ there in
      let has : contains nat_cmp mid o ≡ true = joined.has o ∙ ap (λ b. b || is_listed o (drop (recent.cap - 1) (keys_of recent.entries))) among in
      let fewer : length others.keys + 1 ≡ length mid.keys = subst (λ b. length others.keys + cond b 1 0 ≡ length mid.keys) (test ∙ has) len in
      moved_in old (record { recent = Some after; others = others }) agrees o (ap (λ c. c.cap) push ∙ sym limit_is) (recent.cap - 1) (limit_is ∙ omega (arith, some)) (ap (λ c. keys_of c.entries) push ∙ (ap (λ xs. o ∷ xs) (keys_taken (recent.cap - 1) recent.entries) ∙ ap (λ xs. o ∷ take (recent.cap - 1) xs) (sym used_is))) there absent' (λ q. gone q ∙ (told_at o q (contains nat_cmp mid q) ∙ (ap (λ b. not (eqb q o) && b) (joined.has q) ∙ ap (λ xs. not (eqb q o) && (contains nat_cmp old.others q || is_listed q (drop (recent.cap - 1) xs))) (sym used_is)))) (fewer ∙ (joined.number ∙ ap (λ xs. length old.others.keys + length (drop (recent.cap - 1) xs)) (sym used_is)))
