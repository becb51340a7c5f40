-- Static fields by lent names of their class and field.
use Rattle.std.proofs.Common.{◌≡◌, refl, ap, ◌∙◌, true}
use Rattle.std.specs.Borrow.{Bor}
use Rattle.std.specs.declared.cmp.Ordering.{Ordering}
use Rattle.std.specs.declared.cmp.Ordering.TheVariants.{Less, Equal, Greater}
use Rattle.std.specs.Ordering.{is_eq, ordering_then}
use Rattle.std.specs.BTreeMap.{is_at}
use Rattle.dso_config_entries.specs.Words.{Word}
use Rattle.dso_class.specs.Gathered.{by_name, static_named}
use Rattle.dso_config_entries.proofs.lists.BorrowedWords.{same_word, tied_word}
use Rattle.dso_config_entries.proofs.lists.Places.{equal_is}

-- the order of lent static fields: by the class, then by the field
abbrev pub by_static : Bor Word × Bor Word → Bor Word × Bor Word → Ordering
by_static x y = ordering_then (by_name x.0 y.0) (by_name x.1 y.1)

-- both parts compare equal where the whole does
first_equal : (one two : Ordering) → ordering_then one two ≡ Equal → one ≡ Equal
first_equal Less two e = absurd (cc e)
first_equal Equal two e = refl
first_equal Greater two e = absurd (cc e)

second_equal : (one two : Ordering) → ordering_then one two ≡ Equal → two ≡ Equal
second_equal Less two e = absurd (cc e)
second_equal Equal two e = e
second_equal Greater two e = absurd (cc e)

both_equal : (one two : Ordering) → one ≡ Equal → two ≡ Equal → is_eq (ordering_then one two) ≡ true
both_equal one two e f = ap (λ first. is_eq (ordering_then first two)) e ∙ ap is_eq f

-- static fields that compare equal are the same
pub same_static : (x y : Bor Word × Bor Word) → by_static x y ≡ Equal → static_named y ≡ static_named x
same_static x y e =
    let class = same_word x.0 y.0 (first_equal (by_name x.0 y.0) (by_name x.1 y.1) e) in
    let field = same_word x.1 y.1 (second_equal (by_name x.0 y.0) (by_name x.1 y.1) e) in
    ap (λ word. record { class = word; field = y.1.now }) class ∙ ap (λ word. record { class = x.0.now; field = word }) field

-- the same static fields compare equal
pub tied_static : (x y : Bor Word × Bor Word) → static_named y ≡ static_named x → is_at (by_static x) y ≡ true
tied_static x y e =
    both_equal (by_name x.0 y.0) (by_name x.1 y.1)
    (equal_is (by_name x.0 y.0) (tied_word x.0 y.0 (ap (λ entry. entry.class) e)))
    (equal_is (by_name x.1 y.1) (tied_word x.1 y.1 (ap (λ entry. entry.field) e)))
