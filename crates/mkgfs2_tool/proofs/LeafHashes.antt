-- To which half the hashes of a new image's names belong.
use Rattle.std.proofs.Common.{ℕ, ◌≡◌, refl}
use Rattle.crc_words.specs.Remainder.{crc32_of, remainder, after_bits, after_bit}
use Rattle.gfs2_layout.specs.Inode.{top_bits}
use Rattle.mkgfs2_tool.specs.Directories.{name_bytes}
use Rattle.mkgfs2_tool.specs.declared.directory.Name.{Name}
use Rattle.mkgfs2_tool.specs.declared.directory.Name.TheVariants as name

-- the first bit of a name's hash
abbrev pub half_of : Name → ℕ
half_of n = top_bits 1 (crc32_of (name_bytes n))

pub half_this : half_of name.This ≡ 0
unfolding crc32_of remainder after_bits after_bit
half_this = refl

pub half_parent : half_of name.Parent ≡ 1
unfolding crc32_of remainder after_bits after_bit
half_parent = refl

pub half_0 : half_of (name.Journal 0) ≡ 1
unfolding crc32_of remainder after_bits after_bit
half_0 = refl

pub half_1 : half_of (name.Journal 1) ≡ 1
unfolding crc32_of remainder after_bits after_bit
half_1 = refl

pub half_2 : half_of (name.Journal 2) ≡ 0
unfolding crc32_of remainder after_bits after_bit
half_2 = refl

pub half_3 : half_of (name.Journal 3) ≡ 0
unfolding crc32_of remainder after_bits after_bit
half_3 = refl

pub half_4 : half_of (name.Journal 4) ≡ 1
unfolding crc32_of remainder after_bits after_bit
half_4 = refl

pub half_5 : half_of (name.Journal 5) ≡ 1
unfolding crc32_of remainder after_bits after_bit
half_5 = refl

pub half_6 : half_of (name.Journal 6) ≡ 0
unfolding crc32_of remainder after_bits after_bit
half_6 = refl

pub half_7 : half_of (name.Journal 7) ≡ 0
unfolding crc32_of remainder after_bits after_bit
half_7 = refl
