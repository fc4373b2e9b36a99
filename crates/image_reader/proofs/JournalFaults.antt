-- What a journal breaks, as the code finds it.
use Rattle.std.proofs.Common.{◌≡◌, ◌≢◌, ℕ, zero, suc, ◌+◌, ◌-◌, ◌/◌, ◌%◌, ◌<◌, ◌≤◌, inl, inr, None, refl, sym, ap, subst, ◌∙◌, arith}
use Rattle.std.proofs.lemmas.Bool.{cases_Bool, cond-true, cond-false}
use Rattle.std.proofs.lemmas.Nat.{le-div}
use Rattle.std.proofs.Math.Nat.{div-mul-le_self, mul-le-mul_left}
use Rattle.gfs2_layout.specs.Inode.{dinode_in, is_directory_in, header_length, unit, content_block, content_count}
use Rattle.log_layout.specs.Journal.{Ring, ring_of, accepted, better, best_from, head_in}
use Rattle.gfs2_layout.specs.declared.dinode.Dinode.{Dinode}
use Rattle.image_model.specs.Claims.{HasJournal}
use Rattle.image_reader.specs.Reading.{held, image_at, IsTrueOf}
use Rattle.image_model.specs.Rules.{journal_hole, journal_part, headless}
use Rattle.image_reader.specs.declared.image.ImageFault.{ImageFault}
use Rattle.image_reader.specs.declared.image.ImageFault.TheVariants.{Damaged}
use Rattle.image_reader.specs.declared.inode.Inode.{Inode}
use Rattle.image_reader.proofs.InodeFaults.{told_of}
use Rattle.image_model.proofs.Lengths.{whole_pieces}
use Rattle.image_reader.proofs.Pieces.{dinode_is}

size_is : (inode : Inode) → inode.dinode.size ≡ (dinode_in (held inode)).size
size_is inode = ap (λ (d : Dinode). d.size) (dinode_is inode)

unit_bounds : (inode : Inode) → (0 < unit (held inode)) × (unit (held inode) ≤ inode.block.image.size)
unit_bounds inode = elim (cases_Bool (is_directory_in (held inode))) [
  | inl dir ↦ let e : unit (held inode) ≡ inode.block.image.size - header_length = cond-true _ _ _ dir in (omega (arith, e, inode.block.image.least), omega (arith, e))
  | inr file ↦ let e : unit (held inode) ≡ inode.block.image.size = cond-false _ _ _ file in (omega (arith, e, inode.block.image.least), omega (arith, e))
]

fewer : (n size unit : ℕ) → 0 < unit → unit ≤ size → n / size ≤ n / unit
fewer n size unit some low = le-div (n / size) n unit some (omega (arith, mul-le-mul_left (n / size) low, div-mul-le_self n size))

-- its places are among its blocks of content
pub is_within : (inode : Inode) (place : ℕ) → place < inode.dinode.size / inode.block.image.size → place < content_count (held inode)
is_within inode place low =
    let bounds = unit_bounds inode in
    let few = fewer inode.dinode.size inode.block.image.size (unit (held inode)) bounds.0 bounds.1 in
    let all : inode.dinode.size / unit (held inode) ≤ content_count (held inode)
    = subst (λ n. n / unit (held inode) ≤ content_count (held inode)) (sym (size_is inode)) (whole_pieces (dinode_in (held inode)).size (unit (held inode)) bounds.0) in
    omega (arith, low, few, all)

pub part_of_block : (inode : Inode) (fault : ImageFault) → fault ≡ Damaged inode.block.number 8 → (j : ℕ) × HasJournal (image_at inode.block.image) j inode.block.number
    → inode.dinode.size % inode.block.image.size ≢ 0 → IsTrueOf (image_at inode.block.image) fault
part_of_block inode fault is has other =
    told_of inode.block fault _ is (journal_part has.0 inode.block.number has.1 (λ e. other (ap (λ n. n % inode.block.image.size) (size_is inode) ∙ e)))

pub has_hole : (inode : Inode) (fault : ImageFault) (place : ℕ) → fault ≡ Damaged inode.block.number 8 → (j : ℕ) × HasJournal (image_at inode.block.image) j inode.block.number
    → place < inode.dinode.size / inode.block.image.size → content_block (held inode) place ≡ 0 → IsTrueOf (image_at inode.block.image) fault
has_hole inode fault place is has low hole =
    told_of inode.block fault _ is (journal_hole has.0 inode.block.number place has.1 (subst (λ n. place < n / inode.block.image.size) (size_is inode) low) hole)

-- ---- a journal without a head

-- no header is accepted at the first so many places
abbrev pub IsHeadless : Inode → ℕ → Type 0
IsHeadless inode n = (p : ℕ) → p < n → accepted p ((ring_of (held inode)).at p) ≡ None

none_best : (ring : Ring) (p n : ℕ) → ((q : ℕ) → p ≤ q → q < p + n → accepted q (ring.at q) ≡ None) → best_from ring p n ≡ None
none_best ring p zero none = refl
none_best ring p (suc n) none =
    ap (λ o. better o (best_from ring (p + 1) n)) (none p (omega arith) (omega arith)) ∙ none_best ring (p + 1) n (λ q from below. none q (omega arith) (omega arith))

pub no_head : (inode : Inode) (fault : ImageFault) (n : ℕ) → fault ≡ Damaged inode.block.number 16 → (j : ℕ) × HasJournal (image_at inode.block.image) j inode.block.number
    → inode.dinode.size / inode.block.image.size ≤ n → IsHeadless inode n → IsTrueOf (image_at inode.block.image) fault
unfolding head_in
no_head inode fault n is has all none =
    let places : (dinode_in (held inode)).size / inode.block.image.size ≤ n = subst (λ k. k / inode.block.image.size ≤ n) (size_is inode) all in
    told_of inode.block fault _ is (headless has.0 inode.block.number has.1
    (none_best (ring_of (held inode)) 0 (ring_of (held inode)).places (λ q from below. none q (omega (arith, below, places)))))
