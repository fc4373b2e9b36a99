-- What shows that a block is on the device: its number in what was read, or that something stands in it, since blocks behind the
-- device's end hold no bytes.
use Rattle.std.proofs.Common.{◌≡◌, ℕ, ◌+◌, ◌*◌, ◌<◌, ◌≤◌, List, [], take, drop, inl, inr, refl, sym, ap, subst, ◌∙◌, arith}
use Rattle.std.specs.Prelude.{Contains}
use Rattle.std.specs.Int.{w64, from_be_bytes}
use Rattle.std.proofs.lemmas.Bool.{cases_lt}
use Rattle.std.proofs.Math.ListN.{drop_of_length-le}
use Rattle.std.proofs.Math.Nat.{mul-le-mul_right}
use Rattle.std.proofs.Math.Seq.{drop-nil, take-nil}
use Rattle.gfs2_layout.specs.Area.{Slot, slots_of, IsArea}
use Rattle.gfs2_layout.specs.Bytes.{number_at, u64_at}
use Rattle.gfs2_layout.specs.Inode.{Leads, from_dinode, from_block}
use Rattle.gfs2_layout.specs.Records.{Record, records_in}
use Rattle.image_model.specs.Claims.{every, HasArea, behind_dinode, of_leaf}
use Rattle.image_model.specs.Rules.{Breaks, IsBrokenBlock, HasRecordIn}
use Rattle.image_model.proofs.Members.{is_in}
use Rattle.image_reader.specs.Reading.{held, image_at}
use Rattle.image_reader.specs.declared.blocks.Block.{Block}
use Rattle.image_reader.specs.declared.blocks.Blocks.{Blocks}
use Rattle.image_reader.specs.declared.inode.Inode.{Inode}
use Rattle.image_reader.proofs.InodeFaults.{broken}

-- ---- a block that was read

pub block_inside : (block : Block) (image : Blocks) → block.image ≡ image → block.number < image.count
block_inside block image same = subst (λ (i : Blocks). block.number < i.count) same block.inside

pub block_broken : (block : Block) (image : Blocks) (rule : ℕ) → block.image ≡ image → Breaks (image_at image) rule block.number → IsBrokenBlock (image_at image) rule block.number
block_broken block image rule same breaks = broken (image_at image) block.number rule (omega (arith, block_inside block image same, image.counted)) breaks

-- ---- a block in which something stands

holds_none : (image : Blocks) (x : ℕ) → image.count ≤ x → (image_at image).at x ≡ []
holds_none image x past =
    let far : image.count * image.size ≤ x * image.size = mul-le-mul_right image.size past in
    let behind : drop (x * image.size) image.bytes.now ≡ [] = drop_of_length-le image.bytes.now (omega (arith, far, image.whole)) in
    ap (take image.size) behind ∙ take-nil image.size

holds_some : (image : Blocks) (x : ℕ) → ((image_at image).at x ≡ [] → ⊥) → x < image.count
holds_some image x some = elim (cases_lt x image.count) [
  | inl low ↦ low
  | inr past ↦ absurd (some (holds_none image x past))
]

pub no_number : (n : ℕ) → u64_at n [] ≡ 0
unfolding number_at
no_number n = ap (λ (l : List ℕ). from_be_bytes w64 (take 8 l)) (drop-nil n)

-- where a pointer stands
leads_inside : (image : Blocks) (a b k level first c : ℕ) → Leads (every (image_at image) a) b k level first c → b < image.count
leads_inside image a _ _ _ _ _ (from_dinode k level high low some) = holds_some image a (λ none. some (ap (u64_at (232 + 8 * k)) none ∙ no_number (232 + 8 * k)))
leads_inside image a _ _ _ _ _ (from_block b k level first c j leads low some) = holds_some image c (λ none. some (ap (u64_at (24 + 8 * j)) none ∙ no_number (24 + 8 * j)))

pub pointer_inside : (inode : Inode) (b k level first c : ℕ) → Leads (held inode) b k level first c → b < inode.block.image.count
pointer_inside inode b k level first c leads = leads_inside inode.block.image inode.block.number b k level first c leads

-- an area of a block behind the end has nothing
area_none : (image : Blocks) (a x : ℕ) (area : List ℕ) → HasArea (image_at image) a x area → image.count ≤ x → area ≡ []
area_none image a _ _ (behind_dinode dir plain) past = ap (drop 232) (holds_none image a past)
area_none image a _ _ (of_leaf x has) past = ap (drop 104) (holds_none image x past)

area_some : (image : Blocks) (a x : ℕ) (area : List ℕ) → HasArea (image_at image) a x area → (area ≡ [] → ⊥) → x < image.count
area_some image a x area has some = elim (cases_lt x image.count) [
  | inl low ↦ low
  | inr past ↦ absurd (some (area_none image a x area has past))
]

no_slot : (s : Slot) → Contains (slots_of []) s → ⊥
unfolding slots_of
no_slot s there = is_in s [] there

no_record : (r : Record) → Contains (records_in []) r → ⊥
unfolding records_in slots_of
no_record r there = is_in r [] there

empty_area : IsArea []
unfolding slots_of
empty_area = record { filled = refl; named = tt }

-- where an area of records stands that they don't fill, a record of a directory, or one in use or not
pub area_inside : (image : Blocks) (a x : ℕ) (area : List ℕ) → HasArea (image_at image) a x area → ¬ (IsArea area) → x < image.count
area_inside image a x area has lacks = area_some image a x area has (λ none. lacks (subst IsArea (sym none) empty_area))

pub record_inside : (image : Blocks) (a x : ℕ) (r : Record) → HasRecordIn (image_at image) a x r → x < image.count
record_inside image a x r has = area_some image a x has.0 has.1 (λ none. no_record r (subst (λ l. Contains (records_in l) r) none has.2))

pub slot_inside : (image : Blocks) (a x : ℕ) (area : List ℕ) (s : Slot) → HasArea (image_at image) a x area → Contains (slots_of area) s → x < image.count
slot_inside image a x area s has there = area_some image a x area has (λ none. no_slot s (subst (λ l. Contains (slots_of l) s) none there))
