-- A device that is large enough for any image of a plan.
use Rattle.std.proofs.Common.{ℕ, zero, suc, ◌≡◌, ◌+◌, ◌-◌, ◌*◌, ◌/◌, ◌<◌, ◌≤◌, ◌⊎◌, inl, inr, true, false, refl, sym, ap, subst, ◌∙◌, arith, Bool}
use Rattle.std.specs.Prelude.{nat_le, ◌&&◌, ◌==◌, ◌^◌}
use Rattle.std.proofs.lemmas.Bool.Decides.{nat_tests}
use Rattle.std.proofs.Math.Nat.{mul-div_cancel_left, suc-mul, mul-le-mul, mul-pos, pow-suc, pow-zero}
use Rattle.mkgfs2_tool.specs.Groups.{parts, super_block, share, group_address, group_blocks, data_blocks, header_blocks, last_group, data_before}
use Rattle.mkgfs2_tool.specs.Files.{content_blocks, height, level_blocks, level_start, file_blocks, block_pointers, IsShape}
use Rattle.mkgfs2_tool.specs.Order.{taken, fits, group_list, journal}
use Rattle.mkgfs2_tool.specs.Making.{IsPlan}
use Rattle.mkgfs2_tool.proofs.LeafLaws.{leaves_few}
use Rattle.mkgfs2_tool.specs.declared.plan.Plan.{Plan}
use Rattle.mkgfs2_tool.specs.declared.files.Shape.{Shape}

-- a group that alone has room for everything
abbrev pub large_group : Plan → ℕ
large_group p = 2 * taken p + 10 + p.count

unfoldable pub enough : Plan → ℕ
enough p = super_block p + 1 + p.groups * large_group p

abbrev pub enlarged : Plan → Plan
enlarged p = record p { count = enough p }

-- most blocks of a large group are data blocks
roomy : (size t c : ℕ) → (size ≡ 512) ⊎ ((size ≡ 1024) ⊎ ((size ≡ 2048) ⊎ (size ≡ 4096)))
    → t + 4 ≤ (2 * t + 10 + c - header_blocks size (2 * t + 10 + c)) / 4 * 4
roomy size t c (inl is) = rw is (omega arith)
roomy size t c (inr (inl is)) = rw is (omega arith)
roomy size t c (inr (inr (inl is))) = rw is (omega arith)
roomy size t c (inr (inr (inr is))) = rw is (omega arith)

shared : (s g m : ℕ) → 1 ≤ g → (s + 1 + g * m - s - 1) / g ≡ m
shared s g m some =
    let behind : s + 1 + g * m - s - 1 ≡ g * m = omega arith in
    ap (λ n. n / g) behind ∙ mul-div_cancel_left m some

left_over : (s g m : ℕ) → 1 ≤ g → s + 1 + g * m - (s + 1 + (g - 1) * m) ≡ m
left_over s zero m some = omega arith
left_over s (suc g) m some = by_previous (suc g - 1) (omega arith)
  where
    by_previous : (n : ℕ) → n ≡ g → s + 1 + suc g * m - (s + 1 + n * m) ≡ m
    by_previous n is = rw is (let step : suc g * m ≡ g * m + m = suc-mul g m in omega (arith, step))

share_of-enlarged : (p : Plan) → 1 ≤ p.groups → share (enlarged p) ≡ large_group p
unfolding enough
share_of-enlarged p some = shared (super_block p) p.groups (large_group p) some

last_of-enlarged : (p : Plan) → 1 ≤ p.groups → (enlarged p).count - group_address (enlarged p) (last_group p) ≡ large_group p
unfolding enough
last_of-enlarged p some =
    ap (λ m. enough p - (super_block p + 1 + (p.groups - 1) * m)) (share_of-enlarged p some) ∙ left_over (super_block p) p.groups (large_group p) some

-- the first and the last group have as many blocks as a share
even_last : (p : Plan) → 1 ≤ p.groups → group_blocks (enlarged p) (last_group p) ≡ large_group p
even_last p some =
    let is : (last_group p == last_group p) ≡ true = grind (arith, nat_tests) in
    rw is (last_of-enlarged p some)

even_first : (p : Plan) → 1 ≤ p.groups → group_blocks (enlarged p) 0 ≡ large_group p
even_first p some = by_place (0 == last_group p) refl
  where
    by_place : (v : Bool) → (0 == last_group p) ≡ v → group_blocks (enlarged p) 0 ≡ large_group p
    by_place true is = let only : 0 ≡ last_group p = grind (arith, nat_tests) in subst (λ g. group_blocks (enlarged p) g ≡ large_group p) (sym only) (even_last p some)
    by_place false is = rw is (share_of-enlarged p some)

data_of : (p : Plan) (group : ℕ) → IsPlan p → group_blocks (enlarged p) group ≡ large_group p → taken p + 4 ≤ data_blocks (enlarged p) group
data_of p group is blocks = rw blocks (roomy p.size (taken p) p.count is.size)

all_true : (x y t before : ℕ) → t + 4 ≤ x → t + 4 ≤ y → (nat_le 4 x && nat_le 4 y && nat_le t (before + y)) ≡ true
all_true x y t before first last = grind (arith, nat_tests)

-- the enlarged device has room for the image
pub enlarged_fits : (p : Plan) → IsPlan p → fits (enlarged p) ≡ true
enlarged_fits p is =
    all_true (data_blocks (enlarged p) 0) (data_blocks (enlarged p) (last_group p)) (taken p) (data_before (enlarged p) (last_group p))
    (data_of p 0 is (even_first p is.some_groups)) (data_of p (last_group p) is (even_last p is.some_groups))

-- ---- how many blocks are taken at most

parts-few : (whole size : ℕ) → 1 ≤ size → parts whole size ≤ whole
parts-few whole size some = grind arith

pow-some : (base k : ℕ) → 1 ≤ base → 1 ≤ base ^ k
pow-some base zero some = grind (arith, pow-zero base)
pow-some base (suc k) some = rw (pow-suc base k) (mul-pos (pow-some base k some) some)

level_blocks-few : (f : Shape) (level : ℕ) → IsShape f → level_blocks f level ≤ content_blocks f
level_blocks-few f level is = parts-few (content_blocks f) (block_pointers f.size ^ (height f - level)) (pow-some (block_pointers f.size) (height f - level) (some_pointers f.size is.size))
  where
    some_pointers : (size : ℕ) → (size ≡ 512) ⊎ ((size ≡ 1024) ⊎ ((size ≡ 2048) ⊎ (size ≡ 4096))) → 1 ≤ block_pointers size
    some_pointers size which = omega (arith, which)

level_start-few : (f : Shape) (level : ℕ) → IsShape f → level_start f level ≤ 1 + level * content_blocks f
level_start-few f zero is = omega arith
level_start-few f (suc zero) is = omega arith
level_start-few f (suc (suc level)) is =
    let step : suc (suc level) * content_blocks f ≡ suc level * content_blocks f + content_blocks f = suc-mul (suc level) (content_blocks f) in
    omega (arith, step, level_start-few f (suc level) is, level_blocks-few f (suc level) is)

-- no file is higher than three
file_blocks-few : (f : Shape) → IsShape f → file_blocks f ≤ 1 + 4 * f.bytes
file_blocks-few f is =
    let low : 1 + height f ≤ 4 = grind (arith, nat_tests) in
    let all : (1 + height f) * content_blocks f ≤ 4 * f.bytes = mul-le-mul {m₂ = f.bytes} low (parts-few f.bytes f.size (omega (arith, is.size))) in
    omega (arith, all, level_start-few f (1 + height f) is)

taken-few : (p : Plan) → IsPlan p → taken p < 2 ^ 36
taken-few p is =
    let bytes : p.journal_blocks * p.size ≤ 65536 * 4096 = mul-le-mul {m₂ = 4096} is.journal_blocks (omega (arith, is.size)) in
    let one : file_blocks (journal p) ≤ 1 + 4 * (p.journal_blocks * p.size) = file_blocks-few (journal p) (record { size = is.size; bytes = omega (arith, bytes) }) in
    let list : file_blocks (group_list p) ≤ 1 + 4 * (96 * p.groups) = file_blocks-few (group_list p) (record { size = is.size; bytes = omega (arith, is.groups) }) in
    let all : p.journals * file_blocks (journal p) ≤ 8 * (1 + 4 * (65536 * 4096)) = mul-le-mul {m₂ = 1 + 4 * (65536 * 4096)} is.journals (omega (arith, one, bytes)) in
    omega (arith, all, list, is.groups, leaves_few p.size p.journals)

-- and its number of blocks is small
pub enough-small : (p : Plan) → IsPlan p → p.count ≤ 131072 → enough p < 2 ^ 48
unfolding enough
enough-small p is few =
    let some : taken p < 2 ^ 36 = taken-few p is in
    let product : p.groups * large_group p ≤ 64 * 2 ^ 38 = mul-le-mul {m₂ = 2 ^ 38} is.groups (omega arith) in
    omega (arith, product)

-- the device's own number of blocks is no greater
pub enough-more : (p : Plan) → IsPlan p → p.count ≤ enough p
unfolding enough
enough-more p is =
    let product : 1 * large_group p ≤ p.groups * large_group p = mul-le-mul {m₂ = large_group p} is.some_groups (omega arith) in
    omega (arith, product)
