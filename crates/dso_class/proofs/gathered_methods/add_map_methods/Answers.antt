use Rattle.std.proofs.Common.{◌∙◌, ap, [], ◌∷◌, ◌++◌}
use Rattle.dso_class.proofs.maps.MapRows.{none_there, map_rows, get_of, has_of, size_of, put_of, remove_of}
use Rattle.dso_class.proofs.gathered_methods.add_map_methods.Goals as goal

pub returns-then-not-makes_map : goal.returns-then-not-makes_map
returns-then-not-makes_map c number before class first rows =
    none_there number before c.args.makes_map c.args.rows.now c.if-not-makes_map.true rows

pub returns : goal.returns
returns c number before class first rows =
    let get = get_of number in
    let has = has_of number in
    let size = size_of number in
    let put = put_of number in
    let remove = remove_of number in
    let one = before ++ get ∷ [] in
    let two = one ++ has ∷ [] in
    let three = two ++ size ∷ [] in
    let four = three ++ put ∷ [] in
    let second = c.in_ok-second.ensures.next get before (ap (λ d. d.number) c.taking.ensures ∙ first) in
    let third = c.in_ok-third.ensures.next has one (ap (λ d. d.number) c.taking-2.ensures ∙ second) in
    let fourth = c.in_ok-fourth.ensures.next size two (ap (λ d. d.number) c.taking-3.ensures ∙ third) in
    let fifth = c.in_ok-fifth.ensures.next put three (ap (λ d. d.number) c.taking-4.ensures ∙ fourth) in
    let with_get = c.in_ok-second.ensures.rows get before c.as_slice.ensures (ap (λ d. d.class) c.taking.ensures ∙ class) (ap (λ d. d.number) c.taking.ensures ∙ first) (ap (λ d. d.params) c.taking.ensures) rows in
    let with_has = c.in_ok-third.ensures.rows has one c.as_slice-2.ensures (ap (λ d. d.class) c.taking-2.ensures ∙ class) (ap (λ d. d.number) c.taking-2.ensures ∙ second) (ap (λ d. d.params) c.taking-2.ensures) with_get in
    let with_size = c.in_ok-fourth.ensures.rows size two c.as_slice-3.ensures (ap (λ d. d.class) c.taking-3.ensures ∙ class) (ap (λ d. d.number) c.taking-3.ensures ∙ third) (ap (λ d. d.params) c.taking-3.ensures) with_has in
    let with_put = c.in_ok-fifth.ensures.rows put three c.as_slice-4.ensures (ap (λ d. d.class) c.taking-4.ensures ∙ class) (ap (λ d. d.number) c.taking-4.ensures ∙ fourth) (ap (λ d. d.params) c.taking-4.ensures) with_size in
    let with_remove = c.in_ok-add_method.ensures.rows remove four c.as_slice-5.ensures (ap (λ d. d.class) c.taking-5.ensures ∙ class) (ap (λ d. d.number) c.taking-5.ensures ∙ fifth) (ap (λ d. d.params) c.taking-5.ensures) with_put in
    map_rows number before c.args.makes_map _ c.if-not-makes_map.false with_remove
