-- What is read of bytes that were put.
use Rattle.std.proofs.Common.{ℕ, zero, suc, ◌≡◌, ◌+◌, ◌-◌, ◌*◌, ◌^◌, ◌<◌, ◌≤◌, inl, inr, List, [], ◌∷◌, ◌++◌, length, take, drop, replicate, get_or, Option, None, Some, Ok, refl, sym, ap, ◌∙◌, arith, length-append, length-drop, append_assoc, append-nil}
use Rattle.std.specs.Prelude.{◌==◌}
use Rattle.std.specs.List.{flat_map, range_with_len}
use Rattle.std.specs.Int.{w64, to_be_bytes, from_be_bytes}
use Rattle.std.proofs.lemmas.Bool.{cases_lt, cases_Bool, cond-false, eqb-true}
use Rattle.std.proofs.lemmas.List.{take_at, drop_at, take_all, take-append-drop, drop-drop, drop_all, length-take-le, drop-replicate, take-replicate}
use Rattle.std.proofs.Math.Seq.{take-append-add}
use Rattle.std.proofs.Math.Nat.{suc-mul}
use Rattle.std.proofs.lemmas.Nat.{from_be_bytes-to_be_bytes_8}
use Rattle.gfs2_layout.specs.Bytes.{slice, put_at, number_at, u32_at, u64_at}
use Rattle.gfs2_layout.specs.Structures.{or_else, length_fault, magic_fault, header_of, header_read, magic}
use Rattle.gfs2_layout.specs.declared.header.MetaHeader.{MetaHeader}
use Rattle.gfs2_layout.specs.declared.fault.LayoutFault.{LayoutFault}
use Rattle.gfs2_layout.specs.declared.fault.LayoutFault.TheVariants.{Magic}
use Rattle.gfs2_layout.specs.Headers.{HasHeader}
-- ---- answers

pub use Rattle.gfs2_layout.proofs.HeaderLaws.{answer_ok, some_none, header_from}

both_none : (o q : Option LayoutFault) → or_else o q ≡ None → q ≡ None
both_none None q e = e
both_none (Some f) q e = absurd (some_none f e)

magic_there : (bytes : List ℕ) → magic_fault bytes ≡ None → u32_at 0 bytes ≡ magic
magic_there bytes e = elim (cases_Bool (u32_at 0 bytes == magic)) [
  | inl so ↦ eqb-true (u32_at 0 bytes) magic so
  | inr off ↦ absurd (some_none Magic (sym (cond-false _ _ _ off) ∙ e))
]

pub plain_header : (h : MetaHeader) (bytes : List ℕ) → header_read bytes ≡ Ok h → HasHeader h.kind h.format bytes
plain_header h bytes e =
    let back = answer_ok (or_else (length_fault 24 bytes) (magic_fault bytes)) (header_of bytes) h e in
    record {
      magic_is = magic_there bytes (both_none (length_fault 24 bytes) (magic_fault bytes) back.0);
      kind_is = ap (λ (m : MetaHeader). m.kind) back.1;
      format_is = ap (λ (m : MetaHeader). m.format) back.1;
    }

-- ---- bytes put behind a structure, over zeros

pub take_put : (n : ℕ) (part bytes : List ℕ) → n ≤ length bytes → take n (put_at n part bytes) ≡ take n bytes
take_put n part bytes long = take_at (take n bytes) (part ++ drop (n + length part) bytes) n (length-take-le n bytes long)

pub drop_put : (n : ℕ) (part bytes : List ℕ) → n ≤ length bytes → drop n (put_at n part bytes) ≡ part ++ drop (n + length part) bytes
drop_put n part bytes long = drop_at (take n bytes) (part ++ drop (n + length part) bytes) n (length-take-le n bytes long)

pub behind_put : (n m : ℕ) (part bytes : List ℕ) → n ≤ length bytes → drop n bytes ≡ replicate m 0 → drop n (put_at n part bytes) ≡ part ++ replicate (m - length part) 0
behind_put n m part bytes long clear =
    drop_put n part bytes long ∙ ap (λ (xs : List ℕ). part ++ xs) (sym (drop-drop (length part) n bytes) ∙ ap (drop (length part)) clear ∙ drop-replicate (length part) m 0)

eight : (n : ℕ) → length (to_be_bytes w64 n) ≡ 8
eight n = refl

-- ---- addresses one after another, and zeros behind them

abbrev pub spelled : (ℕ → ℕ) → List ℕ → List ℕ
spelled f xs = flat_map (λ n. to_be_bytes w64 (f n)) xs

abbrev pub AreLow : (ℕ → ℕ) → Type 0
AreLow f = (n : ℕ) → f n < 2 ^ 64

pub length_spelled : (f : ℕ → ℕ) (xs : List ℕ) → length (spelled f xs) ≡ 8 * length xs
length_spelled f [] = refl
length_spelled f (x ∷ xs) = omega (arith, length-append (to_be_bytes w64 (f x)) (spelled f xs), eight (f x), length_spelled f xs)

slice_behind : (a rest : List ℕ) (at n k : ℕ) → length a ≡ k → slice (k + at) n (a ++ rest) ≡ slice at n rest
slice_behind a rest at n k long = ap (take n) (sym (drop-drop at k (a ++ rest)) ∙ ap (drop at) (drop_at a rest k long))

pub read_spelled : (f : ℕ → ℕ) (xs : List ℕ) (rest : List ℕ) (k : ℕ) → k < length xs → f (get_or xs k 0) < 2 ^ 64 → u64_at (8 * k) (spelled f xs ++ rest) ≡ f (get_or xs k 0)
unfolding number_at
read_spelled f [] rest k few low = absurd (omega (arith, few))
read_spelled f (x ∷ xs) rest zero few low =
    ap (λ (b : List ℕ). from_be_bytes w64 (take 8 b)) (append_assoc (to_be_bytes w64 (f x)) (spelled f xs) rest)
    ∙ ap (from_be_bytes w64) (take_at (to_be_bytes w64 (f x)) (spelled f xs ++ rest) 8 (eight (f x))) ∙ from_be_bytes-to_be_bytes_8 (f x) low
read_spelled f (x ∷ xs) rest (suc k) few low =
    ap (λ n. from_be_bytes w64 (slice n 8 ((to_be_bytes w64 (f x) ++ spelled f xs) ++ rest))) (let e : 8 * suc k ≡ 8 + 8 * k = omega arith in e)
    ∙ ap (λ (b : List ℕ). from_be_bytes w64 (slice (8 + 8 * k) 8 b)) (append_assoc (to_be_bytes w64 (f x)) (spelled f xs) rest)
    ∙ ap (from_be_bytes w64) (slice_behind (to_be_bytes w64 (f x)) (spelled f xs ++ rest) (8 * k) 8 8 (eight (f x)))
    ∙ read_spelled f xs rest k (omega (arith, few)) low

pub read_zeros : (front : List ℕ) (m at : ℕ) → length front ≤ at → at + 8 ≤ length front + m → u64_at at (front ++ replicate m 0) ≡ 0
unfolding number_at
read_zeros front m at far inside =
    ap (λ n. from_be_bytes w64 (slice n 8 (front ++ replicate m 0))) (let e : at ≡ length front + (at - length front) = omega (arith, far) in e)
    ∙ ap (from_be_bytes w64) (slice_behind front (replicate m 0) (at - length front) 8 (length front) refl
    ∙ ap (take 8) (drop-replicate (at - length front) m 0) ∙ take-replicate 8 (m - (at - length front)) 0 (omega (arith, far, inside)))

pub u64_behind : (start at : ℕ) (bytes : List ℕ) → u64_at (start + at) bytes ≡ u64_at at (drop start bytes)
unfolding number_at
u64_behind start at bytes = ap (λ (b : List ℕ). from_be_bytes w64 (take 8 b)) (sym (drop-drop at start bytes))

-- ---- pieces of one length

pub slice_piece : {X : Type 0} (f : X → List ℕ) (n : ℕ) (xs : List X) (i : ℕ) (d : X) → ((x : X) → length (f x) ≡ n) → i < length xs → slice (n * i) n (flat_map f xs) ≡ f (get_or xs i d)
slice_piece f n [] i d each low = absurd (omega (arith, low))
slice_piece f n (x ∷ xs) zero d each low = ap (λ m. slice m n (f x ++ flat_map f xs)) (let e : n * 0 ≡ 0 = omega arith in e) ∙ take_at (f x) (flat_map f xs) n (each x)
slice_piece f n (x ∷ xs) (suc i) d each low =
    ap (λ m. slice m n (f x ++ flat_map f xs)) (mul-suc n i) ∙ slice_behind (f x) (flat_map f xs) (n * i) n n (each x) ∙ slice_piece f n xs i d each (omega (arith, low))
  where
    mul-suc : (n i : ℕ) → n * suc i ≡ n + n * i
    mul-suc n i = grind arith

pub length_pieces : {X : Type 0} (f : X → List ℕ) (n : ℕ) (xs : List X) → ((x : X) → length (f x) ≡ n) → length (flat_map f xs) ≡ length xs * n
length_pieces f n [] each = omega arith
length_pieces f n (x ∷ xs) each = length-append (f x) (flat_map f xs) ∙ sum (length (f x)) (length (flat_map f xs)) (length xs) (each x) (length_pieces f n xs each)
  where
    sum : (a b m : ℕ) → a ≡ n → b ≡ m * n → a + b ≡ suc m * n
    sum a b m e g = omega (arith, e, g, suc-mul m n)

-- bytes cut into blocks, each filled up with zeros, and joined again
abbrev pub filled : ℕ → List ℕ → List ℕ
filled size bytes = bytes ++ replicate (size - length bytes) 0

join_piece : (size n : ℕ) (here later : List ℕ) → n ≡ length here → take (n - size) later ≡ drop size here → take n (filled size (take size here) ++ later) ≡ here
join_piece size n here later is rest = elim (cases_lt size n) [
  | inr le ↦
      ap (λ (t : List ℕ). take n (filled size t ++ later)) (take_all size here (omega (arith, le, is)))
      ∙ ap (take n) (append_assoc here (replicate (size - length here) 0) later)
      ∙ take_at here (replicate (size - length here) 0 ++ later) n (sym is)
  | inl less ↦
      let long : length (take size here) ≡ size = length-take-le size here (omega (arith, less, is)) in
      ap (λ (t : List ℕ). take n (t ++ later)) (ap (λ m. take size here ++ replicate (size - m) 0) long ∙ ap (λ m. take size here ++ replicate m 0) (none size) ∙ append-nil (take size here))
      ∙ ap (λ m. take m (take size here ++ later)) (let e : n ≡ length (take size here) + (n - size) = omega (arith, long, less) in e)
      ∙ take-append-add (take size here) later (n - size)
      ∙ ap (λ (t : List ℕ). take size here ++ t) rest ∙ take-append-drop size here
]
  where
    none : (n : ℕ) → n - n ≡ 0
    none n = omega arith

pub joined_again : (size : ℕ) (bytes : List ℕ) (k c : ℕ) → length bytes ≤ (k + c) * size
    → take (length bytes - k * size) (flat_map (λ i. filled size (slice (i * size) size bytes)) (range_with_len k c)) ≡ drop (k * size) bytes
joined_again size bytes k zero all =
    ap (λ n. take n []) (let e : length bytes - k * size ≡ 0 = omega (arith, all, ap (λ m. m * size) (let s : k + 0 ≡ k = omega arith in s)) in e)
    ∙ sym (drop_all (k * size) bytes (omega (arith, all, ap (λ m. m * size) (let s : k + 0 ≡ k = omega arith in s))))
joined_again size bytes k (suc c) all =
    join_piece size (length bytes - k * size) (drop (k * size) bytes) (flat_map (λ i. filled size (slice (i * size) size bytes)) (range_with_len (k + 1) c)) (sym (length-drop (k * size) bytes))
    (ap (λ n. take n (flat_map (λ i. filled size (slice (i * size) size bytes)) (range_with_len (k + 1) c))) (let e : length bytes - k * size - size ≡ length bytes - (k + 1) * size = omega (arith, next) in e)
    ∙ joined_again size bytes (k + 1) c (omega (arith, all, ap (λ m. m * size) (let s : k + suc c ≡ k + 1 + c = omega arith in s)))
    ∙ ap (λ n. drop n bytes) next ∙ sym (drop-drop size (k * size) bytes))
  where
    next : (k + 1) * size ≡ k * size + size
    next = add-one-mul k size
      where
        add-one-mul : (k n : ℕ) → (k + 1) * n ≡ k * n + n
        add-one-mul k n = ap (λ m. m * n) (let e : k + 1 ≡ suc k = omega arith in e) ∙ suc-mul k n
