-- The addresses of a file's blocks, one after another.
use Rattle.std.proofs.Common.{ℕ, zero, suc, ◌≡◌, ◌≤◌, ◌+◌, ◌*◌, List, [], ◌∷◌, ◌++◌, length, refl, ap, sym, ◌∙◌, arith, append-nil, length-append, flat_map}
use Rattle.std.specs.List.{range_with_len}
use Rattle.std.specs.Int.{w64, to_be_bytes}
use Rattle.std.proofs.lemmas.Grind.{flat_map-append}
use Rattle.std.proofs.lemmas.List.FromFn.{length-range_with_len}
use Rattle.gfs2_layout.specs.Bytes.{put_at}
use Rattle.mkgfs2_tool.specs.Groups.{data_address}
use Rattle.mkgfs2_tool.specs.Order.{leaf_place}
use Rattle.mkgfs2_tool.specs.Hashing.{leaf_of_pointer}
use Rattle.mkgfs2_tool.specs.Blocks.{addresses}
use Rattle.mkgfs2_tool.specs.declared.plan.Plan.{Plan}
use Rattle.mkgfs2_tool.proofs.PutLaws.{put_more}

-- a range with one number more
pub range_more : (a n : ℕ) → range_with_len a (n + 1) ≡ range_with_len a n ++ (a + n) ∷ []
range_more a n = ap (range_with_len a) (let next : n + 1 ≡ suc n = omega arith in next) ∙ by_suc a n
  where
    by_suc : (a n : ℕ) → range_with_len a (suc n) ≡ range_with_len a n ++ (a + n) ∷ []
    by_suc a zero = ap (λ k. k ∷ []) (let same : a ≡ a + 0 = omega arith in same)
    by_suc a (suc n) = ap (λ ks. a ∷ ks) (by_suc (a + 1) n ∙ ap (λ k. range_with_len (a + 1) n ++ k ∷ []) (let same : a + 1 + n ≡ a + suc n = omega arith in same))

length-addresses : (p : Plan) (place : ℕ) (ns : List ℕ) → length (addresses p place ns) ≡ 8 * length ns
length-addresses p place [] = refl
length-addresses p place (n ∷ ns) = let rest = length-addresses p place ns in omega (arith, rest)

-- one address more
pub address_more : (p : Plan) (at place first n : ℕ) (bytes : List ℕ) → at + 8 * n ≤ length bytes
    → put_at (at + 8 * n) (to_be_bytes w64 (data_address p (place + (first + n)))) (put_at at (addresses p place (range_with_len first n)) bytes)
    ≡ put_at at (addresses p place (range_with_len first (n + 1))) bytes
address_more p at place first n bytes room =
    let old = addresses p place (range_with_len first n) in
    let new = to_be_bytes w64 (data_address p (place + (first + n))) in
    let long : length old ≡ 8 * n = length-addresses p place (range_with_len first n) ∙ ap (λ k. 8 * k) (length-range_with_len first n) in
    let all : addresses p place (range_with_len first (n + 1)) ≡ old ++ new =
    ap (addresses p place) (range_more first n) ∙ flat_map-append (λ k. to_be_bytes w64 (data_address p (place + k))) (range_with_len first n) ((first + n) ∷ []) ∙ ap (λ b. old ++ b) (append-nil new) in
    ap (λ k. put_at (at + k) new (put_at at old bytes)) (sym long) ∙ put_more at old new bytes (omega (arith, room)) ∙ ap (λ b. put_at at b bytes) (sym all)

-- ---- the table of a hashed directory

-- its first pointers, so many
abbrev pub table_part : Plan → ℕ → List ℕ
table_part p n = flat_map (λ i. to_be_bytes w64 (data_address p (leaf_place p (leaf_of_pointer p i)))) (range_with_len 0 n)

pub length-pointers : (f : ℕ → ℕ) (ns : List ℕ) → length (flat_map (λ i. to_be_bytes w64 (f i)) ns) ≡ 8 * length ns
length-pointers f [] = refl
length-pointers f (n ∷ ns) = omega (arith, length-append (to_be_bytes w64 (f n)) (flat_map (λ i. to_be_bytes w64 (f i)) ns), eight (f n), length-pointers f ns)
  where
    eight : (n : ℕ) → length (to_be_bytes w64 n) ≡ 8
    eight n = refl

pub table_more : (p : Plan) (n : ℕ) (bytes : List ℕ) → 232 ≤ length bytes
    → put_at (232 + 8 * n) (to_be_bytes w64 (data_address p (leaf_place p (leaf_of_pointer p n)))) (put_at 232 (table_part p n) bytes) ≡ put_at 232 (table_part p (n + 1)) bytes
table_more p n bytes room =
    let f : ℕ → ℕ = λ i. data_address p (leaf_place p (leaf_of_pointer p i)) in
    let old : List ℕ = table_part p n in
    let new : List ℕ = to_be_bytes w64 (f n) in
    let long : length old ≡ 8 * n = length-pointers f (range_with_len 0 n) ∙ ap (λ k. 8 * k) (length-range_with_len 0 n) in
    let all : table_part p (n + 1) ≡ old ++ new =
    ap (flat_map (λ i. to_be_bytes w64 (f i))) (range_more 0 n) ∙ flat_map-append (λ i. to_be_bytes w64 (f i)) (range_with_len 0 n) ((0 + n) ∷ []) ∙ ap (λ b. old ++ b) (append-nil (to_be_bytes w64 (f (0 + n))))
    ∙ ap (λ k. old ++ to_be_bytes w64 (f k)) (let same : 0 + n ≡ n = omega arith in same) in
    ap (λ k. put_at (232 + k) new (put_at 232 old bytes)) (sym long) ∙ put_more 232 old new bytes room ∙ ap (λ b. put_at 232 b bytes) (sym all)
