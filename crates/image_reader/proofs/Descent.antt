-- The way from a dinode down to a block of content.
use Rattle.std.proofs.Common.{◌≡◌, ◌≢◌, ◌⊎◌, ℕ, zero, suc, ◌+◌, ◌-◌, ◌*◌, ◌/◌, ◌%◌, ◌^◌, ◌<◌, ◌≤◌, min, inl, inr, refl, sym, ap, subst, ◌∙◌, arith}
use Rattle.std.proofs.lemmas.Bool.{cases_lt, cond-false, ne_eqb}
use Rattle.std.proofs.lemmas.Nat.{div_below}
use Rattle.std.proofs.Math.Nat.{mod-lt, min-eq_left, min-eq_right, div-eq_of_lt, mod-eq_of_lt}
use Rattle.gfs2_layout.specs.Structures.{dinode_length}
use Rattle.gfs2_layout.specs.Holding.{Holding}
use Rattle.gfs2_layout.specs.Inode.{height_in, header_length, fan, span, pointer, descend, content_block, content_count, Fits, Leads, from_dinode, from_block}
use Rattle.gfs2_layout.specs.Bytes.{u64_at}
use Rattle.image_model.specs.Claims.{every, HasInode, below}
use Rattle.image_model.specs.Image.{Image}
use Rattle.image_model.specs.Owners.{Below}
use Rattle.image_reader.specs.Reading.{held, image_at, IsDinodeBlock, IsTrueOf}
use Rattle.image_model.specs.Rules.{Breaks, beyond_device}
use Rattle.image_reader.specs.declared.blocks.Block.{Block}
use Rattle.image_reader.specs.declared.blocks.Blocks.{Blocks}
use Rattle.image_reader.specs.declared.inode.Inode.{Inode}
use Rattle.image_reader.specs.declared.image.ImageFault.{ImageFault}
use Rattle.image_reader.specs.declared.image.ImageFault.TheVariants.{Damaged}
use Rattle.image_reader.proofs.InodeFaults.{told_at}
use Rattle.image_reader.proofs.Inside.{pointer_inside}
use Rattle.image_reader.proofs.Spans.{span_some}

-- ---- numbers that are cut off

div_same : (n s m : ℕ) → n < m → 0 < s → n / min s m ≡ n / s
div_same n s m low some = elim (cases_lt m s) [
  | inl high ↦ ap (λ d. n / d) (min-eq_right (omega (arith, high))) ∙ div-eq_of_lt low ∙ sym (div-eq_of_lt (omega (arith, low, high)))
  | inr less ↦ ap (λ d. n / d) (min-eq_left less)
]

mod_same : (n s m : ℕ) → n < m → 0 < s → n % min s m ≡ n % s
mod_same n s m low some = elim (cases_lt m s) [
  | inl high ↦ ap (λ d. n % d) (min-eq_right (omega (arith, high))) ∙ mod-eq_of_lt low ∙ sym (mod-eq_of_lt (omega (arith, low, high)))
  | inr less ↦ ap (λ d. n % d) (min-eq_left less)
]

-- ---- the way

descend_none : (h : Holding) (level i : ℕ) → descend h level 0 i ≡ 0
descend_none h zero i = refl
descend_none h (suc level) i = refl

below_dinode : (h : Holding) (level i : ℕ) → height_in h ≡ suc level → content_block h i ≡ descend h level (pointer h dinode_length h.own (i / span h.size level)) (i % span h.size level)
unfolding content_block
below_dinode h level i high =
    let less : height_in h - 1 ≡ level = omega (arith, high) in
    ap (λ n. descend h n (pointer h dinode_length h.own (i / span h.size n)) (i % span h.size n)) less

below_block : (h : Holding) (level b i : ℕ) → b ≢ 0 → descend h (suc level) b i ≡ descend h level (pointer h header_length b (i / span h.size level)) (i % span h.size level)
below_block h level b i some = cond-false _ _ _ (ne_eqb b 0 some)

-- a block below the dinode, so many levels above content, below which the content with index i has this index
pub record IsBelow (h : Holding) (i n b left : ℕ) : Type 0 where
  pub some : b ≢ 0
  pub low : left < span h.size n
  pub same : content_block h i ≡ descend h n b left
  pub leads : (a k first : ℕ) × Leads h a k n first b

abbrev pub IsOnWay : Holding → ℕ → ℕ → ℕ → ℕ → ℕ → Type 0
IsOnWay h i n b start left = ((b ≡ h.own) × (start ≡ dinode_length) × (n ≡ height_in h) × (left ≡ i)) ⊎ ((start ≡ header_length) × IsBelow h i n b left)

-- what the next pointer says
pub record IsNext (h : Holding) (i level b start left c : ℕ) : Type 0 where
  pub within : left / span h.size level < fan h.size start
  pub hole : c ≡ 0 → content_block h i ≡ 0
  pub leads : c ≢ 0 → (k first : ℕ) × Leads h b k level first c
  pub way : c ≢ 0 → IsBelow h i level c (left % span h.size level)

module _ (h : Holding) (i level : ℕ) (fits : Fits h) (within : i < content_count h) (some : 0 < span h.size level) where
  next_in_dinode : height_in h ≡ suc level → IsNext h i level h.own dinode_length i (pointer h dinode_length h.own (i / span h.size level))
  next_in_dinode high =
      let k = i / span h.size level in
      let c = pointer h dinode_length h.own k in
      let low : k < fan h.size dinode_length = div_below i (span h.size level) (fan h.size dinode_length) some (omega (arith, within, fits.under level high)) in
      let same = below_dinode h level i high in
      let way : c ≢ 0 → (j first : ℕ) × Leads h h.own j level first c = λ d. (k, k * span h.size level, from_dinode k level high low d) in
      record {
        within = low;
        hole = λ e. same ∙ ap (λ b. descend h level b (i % span h.size level)) e ∙ descend_none h level (i % span h.size level);
        leads = way;
        way = λ d. record { some = d; low = mod-lt i some; same = same; leads = (h.own, (way d).0, (way d).1, (way d).2) };
      }

  next_in_block : (b left : ℕ) → IsBelow h i (suc level) b left → IsNext h i level b header_length left (pointer h header_length b (left / span h.size level))
  next_in_block b left is =
      let k = left / span h.size level in
      let c = pointer h header_length b k in
      let low : k < fan h.size header_length = div_below left (span h.size level) (fan h.size header_length) some is.low in
      let same : content_block h i ≡ descend h level c (left % span h.size level) = is.same ∙ below_block h level b left is.some in
      let way : c ≢ 0 → (j first : ℕ) × Leads h b j level first c
      = λ d. (k, is.leads.2 + k * span h.size level, from_block is.leads.0 is.leads.1 level is.leads.2 b k is.leads.3 low d) in
      record {
        within = low;
        hole = λ e. same ∙ ap (λ a. descend h level a (left % span h.size level)) e ∙ descend_none h level (left % span h.size level);
        leads = way;
        way = λ d. record { some = d; low = mod-lt left some; same = same; leads = (b, (way d).0, (way d).1, (way d).2) };
      }

  next_at : (n b start left : ℕ) → n ≡ suc level → IsOnWay h i n b start left → IsNext h i level b start left (pointer h start b (left / span h.size level))
  next_at n b start left up (inl is) =
      let first = next_in_dinode (sym is.2 ∙ up) in
      subst (λ l. IsNext h i level b start l (pointer h start b (l / span h.size level))) (sym is.3)
      (subst (λ s. IsNext h i level b s i (pointer h s b (i / span h.size level))) (sym is.1)
      (subst (λ a. IsNext h i level a dinode_length i (pointer h dinode_length a (i / span h.size level))) (sym is.0) first))
  next_at n b start left up (inr is) =
      let more = next_in_block b left (subst (λ m. IsBelow h i m b left) up is.1) in
      subst (λ s. IsNext h i level b s left (pointer h s b (left / span h.size level))) (sym is.0) more

-- the same by what was read
next_read : (h : Holding) (i n level b start left s c : ℕ) → Fits h → i < content_count h → 1 ≤ span h.size level → n ≡ level + 1 → IsOnWay h i n b start left
    → left < 2 ^ 64 - 1 → s ≡ min (span h.size level) (2 ^ 64 - 1)
    → (left / s < fan h.size start → c ≡ pointer h start b (left / s)) → IsNext h i level b start left c × (left % s ≡ left % span h.size level)
next_read h i n level b start left s c fits within some up way small cut read =
    let next = next_at h i level fits within some n b start left (omega (arith, up)) way in
    let div : left / s ≡ left / span h.size level = ap (λ d. left / d) cut ∙ div_same left (span h.size level) (2 ^ 64 - 1) small some in
    let rest : left % s ≡ left % span h.size level = ap (λ d. left % d) cut ∙ mod_same left (span h.size level) (2 ^ 64 - 1) small some in
    let low : left / s < fan h.size start = omega (arith, div, next.within) in
    let same : pointer h start b (left / span h.size level) ≡ c = ap (pointer h start b) (sym div) ∙ sym (read low) in
    (subst (IsNext h i level b start left) same next, rest)

pub next_of : (inode : Inode) (block : Block) (i n start left s c : ℕ) → block.image ≡ inode.block.image → Fits (held inode) → i < content_count (held inode) → 0 < n
    → IsOnWay (held inode) i n block.number start left → left < 2 ^ 64 - 1 → s ≡ min (span inode.block.image.size (n - 1)) (2 ^ 64 - 1)
    → (left / s < (block.image.size - start) / 8 → c ≡ u64_at (start + 8 * (left / s)) ((image_at block.image).at block.number))
    → IsNext (held inode) i (n - 1) block.number start left c × (left % s ≡ left % span inode.block.image.size (n - 1))
next_of inode block i n start left s c same fits within some way small cut read =
    let read' : left / s < fan inode.block.image.size start → c ≡ pointer (held inode) start block.number (left / s)
    = subst (λ (image : Blocks). left / s < (image.size - start) / 8 → c ≡ u64_at (start + 8 * (left / s)) ((image_at image).at block.number)) same read in
    next_read (held inode) i n (n - 1) block.number start left s c fits within (span_some inode.block.image.size (n - 1) inode.block.image.least) (omega (arith, some)) way small cut read'

-- the block at the end of the way
pub at_end : (h : Holding) (i n b start left : ℕ) → n ≡ 0 → height_in h ≢ 0 → IsOnWay h i n b start left → (b ≢ 0) × (b ≡ content_block h i)
at_end h i n b start left none high (inl is) = absurd (high (sym is.2 ∙ none))
at_end h i n b start left none high (inr is) = (is.1.some, sym (is.1.same ∙ ap (λ m. descend h m b left) none))

-- a pointer of an inode that leads out of the device
pub leads_out : (im : Image) (a b level c : ℕ) → HasInode im a → ((k first : ℕ) × Leads (every im a) b k level first c) → im.count ≤ c → Breaks im 2 b
leads_out im a b level c here leads out =
    let o = here.0 in
    let by = here.1.by in
    beyond_device b c (Below a b leads.0 level leads.1) (below by a o b leads.0 level leads.1 c here.1.claimed here.1.dinode leads.2) out

pub led_out : (inode : Inode) (fault : ImageFault) (b level c : ℕ) → fault ≡ Damaged b 2 → IsDinodeBlock inode.block
    → ((k first : ℕ) × Leads (held inode) b k level first c) → inode.block.image.count ≤ c → IsTrueOf (image_at inode.block.image) fault
led_out inode fault b level c is here leads out =
    told_at inode.block.image fault b 2 is (pointer_inside inode b leads.0 level leads.1 c leads.2) (leads_out (image_at inode.block.image) inode.block.number b level c here leads (omega (arith, out, inode.block.image.counted)))
