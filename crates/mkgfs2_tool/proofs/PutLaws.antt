-- Bytes that are put over others.
use Rattle.std.proofs.Common.{ℕ, ◌≡◌, ◌≤◌, ◌+◌, ◌-◌, List, [], ◌++◌, length, take, drop, min, replicate, refl, ap, sym, ◌∙◌, arith, append_assoc, length-append, length-drop, Bool, true, false, ◌<◌}
use Rattle.std.proofs.lemmas.List.{drop-drop, length-take-le, take-append-drop, drop-replicate, take_all, drop_all}
use Rattle.std.proofs.lemmas.Bool.Decides.{nat_tests}
use Rattle.std.specs.Prelude.{nat_le}
use Rattle.std.proofs.Math.Seq.{take-append_seam, drop-append-add}
use borrow.Rule.Slice.PartMut.{put_mid}
use Rattle.gfs2_layout.specs.Bytes.{put_at, slice}

-- a part of a slice that was written as a whole
pub put_part : (at k : ℕ) (bytes part : List ℕ) → length part ≡ k → put_mid at k bytes part ≡ put_at at part bytes
put_part at k bytes part is = ap (λ xs. take at bytes ++ (part ++ xs)) (drop-drop k at bytes ∙ ap (λ n. drop (at + n) bytes) (sym is))

-- one part behind another is both parts at once
pub put_more : (at : ℕ) (xs ys zs : List ℕ) → at ≤ length zs → put_at (at + length xs) ys (put_at at xs zs) ≡ put_at at (xs ++ ys) zs
put_more at xs ys zs within =
    let front : List ℕ = take at zs ++ xs in
    let back : List ℕ = drop (at + length xs) zs in
    let long : length front ≡ at + length xs = length-append (take at zs) xs ∙ ap (λ n. n + length xs) (length-take-le at zs within) in
    let whole : put_at at xs zs ≡ front ++ back = sym (append_assoc (take at zs) xs back) in
    let before : take (at + length xs) (front ++ back) ≡ front = ap (λ n. take n (front ++ back)) (sym long) ∙ take-append_seam front back in
    let behind : drop (at + length xs + length ys) (front ++ back) ≡ drop (at + length (xs ++ ys)) zs =
    ap (λ n. drop (n + length ys) (front ++ back)) (sym long) ∙ drop-append-add front back (length ys) ∙ drop-drop (length ys) (at + length xs) zs
    ∙ ap (λ n. drop n zs) (let sum : at + length xs + length ys ≡ at + (length xs + length ys) = omega arith in sum ∙ ap (λ n. at + n) (sym (length-append xs ys))) in
    ap (put_at (at + length xs) ys) whole
    ∙ ap (λ f. f ++ (ys ++ drop (at + length xs + length ys) (front ++ back))) before
    ∙ ap (λ b. front ++ (ys ++ b)) behind
    ∙ append_assoc (take at zs) xs (ys ++ drop (at + length (xs ++ ys)) zs)
    ∙ ap (λ b. take at zs ++ b) (sym (append_assoc xs ys (drop (at + length (xs ++ ys)) zs)))

-- nothing put over bytes leaves them
pub put_none : (at : ℕ) (zs : List ℕ) → put_at at [] zs ≡ zs
put_none at zs = ap (λ n. take at zs ++ drop n zs) (let none : at + 0 ≡ at = omega arith in none) ∙ take-append-drop at zs

-- a part of a slice that was written as a whole, over what stood there
pub put_over : (at k : ℕ) (bytes base part made : List ℕ) → length part ≡ k → bytes ≡ base → part ≡ made → put_mid at k bytes part ≡ put_at at made base
put_over at k bytes base part made long bytes_are part_is = put_part at k bytes part long ∙ ap (put_at at part) bytes_are ∙ ap (λ p. put_at at p base) part_is

-- bytes put over the beginning of zeros
pub put_first : (n : ℕ) (xs : List ℕ) → put_at 0 xs (replicate n 0) ≡ xs ++ replicate (n - length xs) 0
put_first n xs = ap (λ k. xs ++ drop k (replicate n 0)) (let same : 0 + length xs ≡ length xs = omega arith in same) ∙ ap (λ zs. xs ++ zs) (drop-replicate (length xs) n 0)

-- so many bytes from a place on, as far as there are any
pub piece : (xs : List ℕ) (at n : ℕ) → take (min (length xs) (min (length xs) at + n) - min (length xs) at) (drop (min (length xs) at) xs) ≡ slice at n xs
piece xs at n = by_place (nat_le at (length xs)) (nat_le (at + n) (length xs)) refl refl
  where
    whole : List ℕ
    whole = take (min (length xs) (min (length xs) at + n) - min (length xs) at) (drop (min (length xs) at) xs)

    cut : (start count : ℕ) → min (length xs) at ≡ start → min (length xs) (min (length xs) at + n) - min (length xs) at ≡ count → whole ≡ take count (drop start xs)
    cut start count start_is count_is = ap (λ k. take (min (length xs) (min (length xs) at + n) - min (length xs) at) (drop k xs)) start_is ∙ ap (λ k. take k (drop start xs)) count_is

    by_place : (v w : Bool) → nat_le at (length xs) ≡ v → nat_le (at + n) (length xs) ≡ w → whole ≡ slice at n xs
    by_place true true inside within =
        let low : at ≤ length xs = grind (arith, nat_tests) in
        let high : at + n ≤ length xs = grind (arith, nat_tests) in
        cut at n (omega (arith, low)) (omega (arith, low, high))
    by_place true false inside beyond =
        let low : at ≤ length xs = grind (arith, nat_tests) in
        let high : length xs < at + n = grind (arith, nat_tests) in
        let long : length (drop at xs) ≡ length xs - at = length-drop at xs in
        cut at (length xs - at) (omega (arith, low)) (omega (arith, low, high)) ∙ take_all (length xs - at) (drop at xs) (omega (arith, long)) ∙ sym (take_all n (drop at xs) (omega (arith, long, high)))
    by_place false w beyond other =
        let high : length xs < at = grind (arith, nat_tests) in
        cut (length xs) 0 (omega (arith, high)) (omega (arith, high)) ∙ sym (ap (take n) (drop_all at xs (omega (arith, high))) ∙ take_all n [] (omega arith))
