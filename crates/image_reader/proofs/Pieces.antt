-- How many pieces it takes.
use Rattle.std.proofs.Common.{◌≡◌, ℕ, suc, ◌+◌, ◌-◌, ◌*◌, ◌/◌, ◌%◌, ◌<◌, ◌≤◌, min, sym, subst, arith}
use Rattle.std.proofs.lemmas.Grind.{div_ceil_times}
use Rattle.std.proofs.lemmas.Nat.{le-div}
use Rattle.std.proofs.Math.Nat.{div-lt_iff_lt-mul}
use Rattle.gfs2_layout.specs.declared.dinode.Dinode.{Dinode}
use Rattle.gfs2_layout.specs.Inode.{pieces, dinode_in, unit, content_count}
use Rattle.image_reader.specs.Reading.{held}
use Rattle.image_reader.specs.declared.inode.Inode.{Inode}

-- the quotient, and one more for a rest
pub pieces_of : (n e : ℕ) → 0 < e → n / e + min 1 (n % e) ≡ pieces n e
pieces_of n e some =
    let c = n / e + min 1 (n % e) in
    let times = div_ceil_times n e some in
    let low : c ≤ (n + e - 1) / e = le-div c (n + e - 1) e some (omega (arith, times.0, times.1)) in
    let high : (n + e - 1) / e < suc c = (div-lt_iff_lt-mul some).1 (omega (arith, times.0, times.1)) in
    omega (arith, low, high)

-- the pieces are long enough
pub pieces_cover : (n e : ℕ) → 0 < e → n ≤ pieces n e * e
pieces_cover n e some =
    let same = pieces_of n e some in
    let times = div_ceil_times n e some in
    let P : ℕ → Type 0 = λ c. n ≤ c * e in
    subst P same times.0

-- what the dinode says that was read is what it says
pub dinode_is : (inode : Inode) → inode.dinode ≡ dinode_in (held inode)
unfolding dinode_in
dinode_is inode = inode.is

-- what an inode's blocks of content carry is as long as its size
pub carried_enough : (inode : Inode) (n u : ℕ) → u ≡ unit (held inode) → 0 < u → n ≡ content_count (held inode) * unit (held inode) → inode.dinode.size ≤ n
carried_enough inode n u is some long =
    let P : Dinode → Type 0 = λ d. d.size ≤ content_count (held inode) * unit (held inode) in
    let enough : inode.dinode.size ≤ content_count (held inode) * unit (held inode) = subst P (sym (dinode_is inode)) (pieces_cover _ _ (omega (arith, is, some))) in
    omega (arith, enough, long)
