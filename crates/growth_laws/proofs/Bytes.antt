-- Lists of bytes by their bytes: what is at a place, 0 past the end.
use Rattle.std.proofs.Common.{◌≡◌, ℕ, zero, suc, ◌+◌, ◌-◌, ◌*◌, ◌<◌, ◌≤◌, inl, inr, List, ◌++◌, length, take, drop, get_or, refl, sym, ap, ◌∙◌, arith}
use Rattle.std.proofs.lemmas.Bool.{cases_lt}
use Rattle.std.proofs.lemmas.List.{length-take, length-drop, length-append, length-replicate, get_or-replicate, get_or_append_left, get_or-append_right, get_or-take, get_or-drop, get_or_past, ext_get_or}
use Rattle.std.specs.Prelude.{replicate, flat_map}
use Rattle.std.specs.List.{range_with_len}
use Rattle.file_tree.specs.Apply.{resized, overwritten}
use Rattle.growth_laws.specs.Laws.{WritesJoin, WritesGrowFirst}

abbrev pub byte : List ℕ → ℕ → ℕ
byte xs n = get_or xs n 0

pub same_bytes : (xs ys : List ℕ) → length xs ≡ length ys → ((n : ℕ) → n < length xs → byte xs n ≡ byte ys n) → xs ≡ ys
same_bytes xs ys long each = ext_get_or 0 xs ys long each

pub left_byte : (xs ys : List ℕ) (n : ℕ) → n < length xs → byte (xs ++ ys) n ≡ byte xs n
left_byte xs ys n low = get_or_append_left xs ys 0 n low

pub right_byte : (xs ys : List ℕ) (n k : ℕ) → length xs ≡ k → k ≤ n → byte (xs ++ ys) n ≡ byte ys (n - k)
right_byte xs ys n k long past = get_or-append_right xs ys k n 0 long past

pub zero_byte : (m n : ℕ) → byte (replicate m 0) n ≡ 0
zero_byte m n = elim (cases_lt n m) [
  | inl low ↦ get_or-replicate m n 0 0 low
  | inr past ↦ get_or_past (replicate m 0) n 0 (omega (arith, past, length-replicate {A = ℕ} m 0))
]

-- ---- resized

pub resized_length : (m : ℕ) (xs : List ℕ) → length (resized m xs) ≡ m
resized_length m xs = omega (arith, length-append (take m xs) (replicate (m - length xs) 0), length-take m xs, length-replicate {A = ℕ} (m - length xs) 0)

pub resized_in : (m : ℕ) (xs : List ℕ) (n : ℕ) → n < m → byte (resized m xs) n ≡ byte xs n
resized_in m xs n low = elim (cases_lt n (length xs)) [
  | inl inside ↦ left_byte (take m xs) _ n (omega (arith, length-take m xs, inside, low)) ∙ get_or-take m xs n 0 low
  | inr past ↦
      right_byte (take m xs) (replicate (m - length xs) 0) n (length xs) (omega (arith, length-take m xs, past, low)) past
      ∙ zero_byte (m - length xs) (n - length xs) ∙ sym (get_or_past xs n 0 past)
]

pub resized_past : (m : ℕ) (xs : List ℕ) (n : ℕ) → m ≤ n → byte (resized m xs) n ≡ 0
resized_past m xs n past = get_or_past (resized m xs) n 0 (omega (arith, past, resized_length m xs))

-- ---- overwritten

front_length : (at : ℕ) (new xs : List ℕ) → length (resized at xs ++ new) ≡ at + length new
front_length at new xs = omega (arith, length-append (resized at xs) new, resized_length at xs)

pub over_length : (at : ℕ) (new xs : List ℕ) → length (overwritten at new xs) ≡ at + length new + (length xs - (at + length new))
over_length at new xs = omega (arith, length-append (resized at xs ++ new) (drop (at + length new) xs), front_length at new xs, length-drop (at + length new) xs)

pub over_before : (at : ℕ) (new xs : List ℕ) (n : ℕ) → n < at → byte (overwritten at new xs) n ≡ byte xs n
over_before at new xs n low =
    left_byte (resized at xs ++ new) (drop (at + length new) xs) n (omega (arith, low, front_length at new xs))
    ∙ left_byte (resized at xs) new n (omega (arith, low, resized_length at xs)) ∙ resized_in at xs n low

pub over_in : (at : ℕ) (new xs : List ℕ) (n : ℕ) → at ≤ n → n < at + length new → byte (overwritten at new xs) n ≡ byte new (n - at)
over_in at new xs n low high =
    left_byte (resized at xs ++ new) (drop (at + length new) xs) n (omega (arith, high, front_length at new xs))
    ∙ right_byte (resized at xs) new n at (resized_length at xs) low

pub over_behind : (at : ℕ) (new xs : List ℕ) (n : ℕ) → at + length new ≤ n → byte (overwritten at new xs) n ≡ byte xs n
over_behind at new xs n past =
    let back : at + length new + (n - (at + length new)) ≡ n = omega (arith, past) in
    right_byte (resized at xs ++ new) (drop (at + length new) xs) n (at + length new) (front_length at new xs) past
    ∙ get_or-drop (at + length new) xs (n - (at + length new)) 0 ∙ ap (byte xs) back

pub writes_join : WritesJoin
writes_join at front back bytes = same_bytes _ _ long each
  where
    both : length (front ++ back) ≡ length front + length back
    both = length-append front back

    long : length (overwritten (at + length front) back (overwritten at front bytes)) ≡ length (overwritten at (front ++ back) bytes)
    long = omega (arith, both, over_length (at + length front) back (overwritten at front bytes), over_length at front bytes, over_length at (front ++ back) bytes)

    each : (n : ℕ) → n < length (overwritten (at + length front) back (overwritten at front bytes))
        → byte (overwritten (at + length front) back (overwritten at front bytes)) n ≡ byte (overwritten at (front ++ back) bytes) n
    each n low = elim (cases_lt n at) [
      | inl before ↦
          over_before (at + length front) back _ n (omega (arith, before)) ∙ over_before at front bytes n before ∙ sym (over_before at (front ++ back) bytes n before)
      | inr past ↦ elim (cases_lt n (at + length front)) [
        | inl first ↦
            over_before (at + length front) back _ n first ∙ over_in at front bytes n past first
            ∙ sym (left_byte front back (n - at) (omega (arith, past, first))) ∙ sym (over_in at (front ++ back) bytes n past (omega (arith, first, both)))
        | inr behind ↦ elim (cases_lt n (at + length front + length back)) [
          | inl second ↦
              let less : n - at - length front ≡ n - (at + length front) = omega arith in
              over_in (at + length front) back _ n behind second ∙ ap (byte back) (sym less)
              ∙ sym (right_byte front back (n - at) (length front) refl (omega (arith, behind))) ∙ sym (over_in at (front ++ back) bytes n past (omega (arith, second, both)))
          | inr after ↦
              over_behind (at + length front) back _ n after ∙ over_behind at front bytes n behind ∙ sym (over_behind at (front ++ back) bytes n (omega (arith, after, both)))
        ]
      ]
    ]

pub writes_grow_first : WritesGrowFirst
writes_grow_first at size new bytes short ends = same_bytes _ _ long each
  where
    long : length (overwritten at new (resized size bytes)) ≡ length (overwritten at new bytes)
    long = omega (arith, over_length at new (resized size bytes), over_length at new bytes, resized_length size bytes, short, ends)

    each : (n : ℕ) → n < length (overwritten at new (resized size bytes)) → byte (overwritten at new (resized size bytes)) n ≡ byte (overwritten at new bytes) n
    each n low = elim (cases_lt n at) [
      | inl before ↦ over_before at new _ n before ∙ resized_in size bytes n (omega (arith, before, ends)) ∙ sym (over_before at new bytes n before)
      | inr past ↦
          let inside : n < at + length new = omega (arith, low, over_length at new (resized size bytes), resized_length size bytes, ends) in
          over_in at new _ n past inside ∙ sym (over_in at new bytes n past inside)
    ]

-- ---- pieces of one length, joined

pub pieces_length : (f : ℕ → List ℕ) (u a c : ℕ) → ((x : ℕ) → x < a + c → length (f x) ≡ u) → length (flat_map f (range_with_len a c)) ≡ c * u
pieces_length f u a zero each = omega arith
pieces_length f u a (suc c) each =
    omega (arith, length-append (f a) (flat_map f (range_with_len (a + 1) c)), each a (omega arith), pieces_length f u (a + 1) c (λ x low. each x (omega (arith, low))))

pub piece_byte : (f : ℕ → List ℕ) (u a c q r : ℕ) → ((x : ℕ) → x < a + c → length (f x) ≡ u) → q < c → r < u → byte (flat_map f (range_with_len a c)) (q * u + r) ≡ byte (f (a + q)) r
piece_byte f u a zero q r each low less = absurd (omega (arith, low))
piece_byte f u a (suc c) zero r each low less =
    let none : 0 * u + r ≡ r = omega arith in
    let here : a ≡ a + 0 = omega arith in
    ap (byte (f a ++ flat_map f (range_with_len (a + 1) c))) none
    ∙ left_byte (f a) (flat_map f (range_with_len (a + 1) c)) r (omega (arith, less, each a (omega arith))) ∙ ap (λ x. byte (f x) r) here
piece_byte f u a (suc c) (suc q) r each low less =
    let step : suc q * u + r - u ≡ q * u + r = omega arith in
    let next : a + 1 + q ≡ a + suc q = omega arith in
    right_byte (f a) (flat_map f (range_with_len (a + 1) c)) (suc q * u + r) u (each a (omega arith)) (omega arith)
    ∙ ap (byte (flat_map f (range_with_len (a + 1) c))) step
    ∙ piece_byte f u (a + 1) c q r (λ x lower. each x (omega (arith, lower))) (omega (arith, low)) less ∙ ap (λ x. byte (f x) r) next
