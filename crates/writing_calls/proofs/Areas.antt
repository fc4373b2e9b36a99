-- Bytes written over an area whose front is content.
use Rattle.std.proofs.Common.{◌≡◌, ℕ, ◌+◌, ◌-◌, ◌<◌, ◌≤◌, inl, inr, List, [], ◌++◌, length, take, drop, sym, ap, ◌∙◌, arith, append_assoc}
use Rattle.std.specs.Prelude.{nat_lt, replicate}
use Rattle.std.proofs.lemmas.Bool.{cases_lt, lt-ltb, le-ltb, cond-true, cond-false}
use Rattle.std.proofs.lemmas.List.{append-nil, take_all, take-take, drop_all, take-append-drop, drop-drop, drop-take, length-append, length-drop, length-replicate, length-take-le}
use Rattle.std.proofs.Math.Seq.{take-append_seam, drop-append-add}
use Rattle.file_tree.specs.Apply.{resized, overwritten}
use Rattle.writing_calls.specs.Contents.{size_after, area_after, cleared_between, put_over}

none_more : (m n : ℕ) → m ≤ n → replicate {A = ℕ} (m - n) 0 ≡ []
none_more m n small = let none : m - n ≡ 0 = omega (arith, small) in ap (λ k. replicate k 0) none

seam : (n : ℕ) (xs ys : List ℕ) → length xs ≡ n → take n (xs ++ ys) ≡ xs
seam n xs ys long = ap (λ k. take k (xs ++ ys)) (sym long) ∙ take-append_seam xs ys

past : (n k : ℕ) (xs ys : List ℕ) → length xs ≡ n → drop (n + k) (xs ++ ys) ≡ drop k ys
past n k xs ys long = ap (λ m. drop (m + k) (xs ++ ys)) (sym long) ∙ drop-append-add xs ys k

module _ (at size : ℕ) (new area : List ℕ) (within : size ≤ length area) (room : at + length new ≤ length area) where
  abbrev end : ℕ
  end = at + length new

  abbrev content : List ℕ
  content = take size area

  abbrev after : List ℕ
  after = overwritten at new content

  content_long : length content ≡ size
  content_long = length-take-le size area within

  -- behind the end of the content: zeros stand between
  module _ (short : size < at) where
    abbrev front : List ℕ
    front = content ++ replicate (at - size) 0

    front_long : length front ≡ at
    front_long = omega (arith, short, content_long, length-append content (replicate (at - size) 0), length-replicate {A = ℕ} (at - size) 0)

    cleared : cleared_between size at area ≡ front ++ drop at area
    cleared = cond-true (nat_lt size at) (front ++ drop at area) area (lt-ltb size at short)

    grown : resized at content ≡ front
    grown = ap (λ xs. xs ++ replicate (at - length content) 0) (take_all at content (omega (arith, short, content_long))) ∙ ap (λ n. content ++ replicate (at - n) 0) content_long

    nothing_left : drop end content ≡ []
    nothing_left = drop_all end content (omega (arith, short, content_long))

    after_far : after ≡ front ++ new
    after_far = ap (λ xs. xs ++ new ++ drop end content) grown ∙ ap (λ xs. front ++ new ++ xs) nothing_left ∙ append-nil (front ++ new)

    far_long : length after ≡ end
    far_long = ap length after_far ∙ length-append front new ∙ ap (λ n. n + length new) front_long

    far : put_over at new (cleared_between size at area) ≡ area_after at new size area
    far =
        ap (put_over at new) cleared
        ∙ ap (λ xs. xs ++ new ++ drop end (front ++ drop at area)) (seam at front (drop at area) front_long)
        ∙ ap (λ xs. front ++ new ++ xs) (past at (length new) front (drop at area) front_long ∙ drop-drop (length new) at area)
        ∙ ap (λ xs. xs ++ drop end area) (sym after_far)
        ∙ ap (λ n. after ++ drop n area) (sym far_long)

  -- within the content, or right behind it
  module _ (near : at ≤ size) where
    unchanged : cleared_between size at area ≡ area
    unchanged = cond-false (nat_lt size at) (take size area ++ replicate (at - size) 0 ++ drop at area) area (le-ltb size at near)

    front_same : resized at content ≡ take at area
    front_same =
        ap (λ xs. take at content ++ xs) (none_more at (length content) (omega (arith, near, content_long))) ∙ append-nil (take at content)
        ∙ take-take at size area near

    after_near : after ≡ take at area ++ new ++ drop end content
    after_near = ap (λ xs. xs ++ new ++ drop end content) front_same

    front_near : length (take at area ++ new) ≡ end
    front_near = length-append (take at area) new ∙ ap (λ n. n + length new) (length-take-le at area (omega (arith, near, within)))

    -- up to the content's end, and behind it what stood there
    rest_near : drop end content ++ drop (size_after size end) area ≡ drop end area
    rest_near = elim (cases_lt size end) [
      | inl beyond ↦
          ap (λ n. drop end content ++ drop n area) (cond-true (nat_lt size end) end size (lt-ltb size end beyond))
          ∙ ap (λ xs. xs ++ drop end area) (drop_all end content (omega (arith, beyond, content_long)))
      | inr inside ↦
          let more : size ≡ end + (size - end) = omega (arith, inside) in
          ap (λ n. drop end content ++ drop n area) (cond-false (nat_lt size end) end size (le-ltb size end inside))
          ∙ ap (λ n. drop end (take n area) ++ drop n area) more
          ∙ ap (λ xs. xs ++ drop (end + (size - end)) area) (drop-take end (size - end) area)
          ∙ ap (λ xs. take (size - end) (drop end area) ++ xs) (sym (drop-drop (size - end) end area))
          ∙ take-append-drop (size - end) (drop end area)
    ]

    left_near : length (drop end content) ≡ size - end
    left_near = length-drop end content ∙ ap (λ n. n - end) content_long

    near_long : length after ≡ size_after size end
    near_long = elim (cases_lt size end) [
      | inl beyond ↦
          ap length after_near ∙ length-append (take at area ++ new) (drop end content) ∙ omega (arith, front_near, left_near, beyond)
          ∙ sym (cond-true (nat_lt size end) end size (lt-ltb size end beyond))
      | inr inside ↦
          ap length after_near ∙ length-append (take at area ++ new) (drop end content) ∙ omega (arith, front_near, left_near, inside)
          ∙ sym (cond-false (nat_lt size end) end size (le-ltb size end inside))
    ]

    near_is : put_over at new (cleared_between size at area) ≡ area_after at new size area
    near_is =
        ap (put_over at new) unchanged
        ∙ ap (λ xs. take at area ++ new ++ xs) (sym rest_near)
        ∙ sym (append_assoc (take at area ++ new) (drop end content) (drop (size_after size end) area))
        ∙ ap (λ xs. xs ++ drop (size_after size end) area) (sym after_near)
        ∙ ap (λ n. after ++ drop n area) (sym near_long)

  -- how long the content is then
  pub after_long : length after ≡ size_after size end
  after_long = elim (cases_lt size at) [
    | inl short ↦ far_long short ∙ sym (cond-true (nat_lt size end) end size (lt-ltb size end (omega (arith, short))))
    | inr near ↦ near_long near
  ]

  pub area_written : put_over at new (cleared_between size at area) ≡ area_after at new size area
  area_written = elim (cases_lt size at) [
    | inl short ↦ far short
    | inr near ↦ near_is near
  ]

  -- of the area the content is the front again
  pub content_front : take (size_after size end) (area_after at new size area) ≡ after
  content_front = seam (size_after size end) after (drop (length after) area) after_long

  pub area_long : length (area_after at new size area) ≡ length area
  area_long = ap length (sym area_written) ∙ put_long (cleared_between size at area) clear_long
    where
      put_long : (xs : List ℕ) → length xs ≡ length area → length (put_over at new xs) ≡ length area
      put_long xs long =
          let front : length (take at xs) ≡ at = length-take-le at xs (omega (arith, long, room)) in
          length-append (take at xs ++ new) (drop end xs) ∙ omega (arith, length-append (take at xs) new, front, length-drop end xs, long, room)

      clear_long : length (cleared_between size at area) ≡ length area
      clear_long = elim (cases_lt size at) [
        | inl short ↦ ap length (cleared short) ∙ length-append (front short) (drop at area) ∙ omega (arith, front_long short, length-drop at area, room)
        | inr near ↦ ap length (unchanged near)
      ]
