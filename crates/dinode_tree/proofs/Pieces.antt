-- What the blocks of content of an inode carry.
use Rattle.std.proofs.Common.{◌≡◌, ◌≢◌, true, ℕ, suc, ◌+◌, ◌-◌, ◌*◌, ◌/◌, ◌%◌, ◌<◌, ◌≤◌, min, inl, inr, List, [], ◌++◌, length, take, drop, Option, Some, None, refl, sym, ap, ap₂, subst, ◌∙◌, arith, length-drop, length-take, drop-drop, div-add-mod'}
use Rattle.std.proofs.lemmas.Bool.{cond-true, cond-false, eq-eqb, ne_eqb, cases_eq, cases_lt}
use Rattle.std.proofs.lemmas.List.{length-replicate}
use Rattle.std.specs.Prelude.{replicate}
use Rattle.gfs2_layout.specs.Headers.{HasHeader}
use Rattle.gfs2_layout.specs.Holding.{Holding, bytes_at}
use Rattle.gfs2_layout.specs.Inode.{Leads, dinode_in, is_directory_in, height_in, fan, span, descend, unit, carried, content_block, content_count, content_of, Fits}
use Rattle.gfs2_layout.specs.Structures.{dinode_length, is_directory}
use Rattle.gfs2_layout.specs.declared.dinode.Dinode.{Dinode}
use Rattle.glock_names.specs.Steps.{IsDamage}
use Rattle.glock_names.specs.Views.{Seen}
use Rattle.glock_names.specs.declared.steps.CallFault.{CallFault}
use Rattle.glock_names.specs.declared.steps.CallFault.TheVariants.{Damaged}
use Rattle.glock_names.specs.declared.steps.Missing.{Missing}
use Rattle.dinode_tree.specs.Broken.{IsBroken, no_header, of_table}
use Rattle.dinode_tree.specs.Reading.{AreHeaded, IsHeadedAt, IsHeadedWay, reach, block_at, content_range, AreWholeBefore, IsInRange, IsNeeded, IsOnWay, the_dinode, led_to}
use Rattle.dinode_tree.specs.Shown.{IsShown}
use Rattle.dinode_tree.specs.Walking.{held, IsIn, IsOf, IsLink, IsStep, carried_all, laid_out, laid_range, ArePieces}
use Rattle.dinode_tree.specs.declared.inode.Inode.{Inode}
use Rattle.dinode_tree.specs.declared.ways.Link.{Link}
use Rattle.dinode_tree.proofs.Dinodes.{told, dinode_is, held_is, height_held, height_same, size_same, count_same, unit_same, unit_large, unit_most}
use Rattle.dinode_tree.proofs.Pointers.{leads_somewhere, none_past, some_within, same_bytes, shown_of}
use Rattle.dinode_tree.proofs.Ranges.{range_of_piece, joined_ranges, range_to_end, piece_before, piece_within, before_end}
use Rattle.std.proofs.lemmas.Nat.{mod_below}
use Rattle.std.proofs.Math.Nat.{mul-le-mul_right}

-- ---- one block of content

-- the pointers reach each block of content before the end
pub within_reach : (h : Holding) (inode : Inode) (index : ℕ) → IsOf h inode → Fits (held inode) → 1 ≤ inode.dinode.height → index < content_count (held inode) → index < reach h.size (height_in h)
within_reach h inode index o fits some low =
    let high : inode.dinode.height ≡ suc (inode.dinode.height - 1) = omega (arith, some) in
    let up : height_in h ≡ suc (inode.dinode.height - 1) = sym (height_same h inode o) ∙ high in
    let under : content_count (held inode) ≤ fan (length inode.bytes.now) 232 * span (length inode.bytes.now) (inode.dinode.height - 1) =
    fits.under (inode.dinode.height - 1) (sym (height_held inode) ∙ high) in
    let under_h : content_count (held inode) ≤ fan h.size 232 * span h.size (inode.dinode.height - 1) =
    subst (λ n. content_count (held inode) ≤ fan n 232 * span n (inode.dinode.height - 1)) (sym o.size) under in
    subst (λ n. index < reach h.size n) (sym up) (omega (arith, low, under_h))

hole_at : (h : Holding) (index : ℕ) → index < reach h.size (height_in h) → block_at h index ≡ None → content_block h index ≡ 0
hole_at h index low none = elim (cases_eq (content_block h index) 0) [
  | inl none_there ↦ none_there
  | inr some ↦ let both : Some (content_block h index) ≡ None = sym (some_within h index (content_block h index) low refl some) ∙ none in absurd (cc)
]

pub none_at : (h : Holding) (index : ℕ) (found : Option Link) → found ≡ None → IsStep h index found → block_at h index ≡ None
none_at h index found is step = subst (IsStep h index) is step

carried_hole : (h : Holding) (b : ℕ) → b ≡ 0 → carried h b ≡ replicate (unit h) 0
carried_hole h b none = cond-true _ _ _ (eq-eqb b 0 none)

carried_block : (h : Holding) (b : ℕ) → b ≢ 0 → carried h b ≡ drop (h.size - unit h) (bytes_at h b)
carried_block h b some = cond-false _ _ _ (ne_eqb b 0 some)

pub hole_carries : (h : Holding) (inode : Inode) (index : ℕ) (bytes : List ℕ) → IsOf h inode → Fits (held inode) → 1 ≤ inode.dinode.height → index < content_count (held inode)
    → block_at h index ≡ None → bytes ≡ replicate (unit (held inode)) 0 → bytes ≡ carried h (content_block h index)
hole_carries h inode index bytes o fits some low none is =
    is ∙ ap (λ n. replicate n 0) (unit_same h inode o)
    ∙ sym (carried_hole h (content_block h index) (hole_at h index (within_reach h inode index o fits some low) none))

pub block_carries : (v : Seen) (h : Holding) (inode : Inode) (index : ℕ) (link : Link) (bytes piece : List ℕ) → IsShown v inode.block h → IsIn v inode → IsLink h index link → link.way.level ≡ 0
    → v.block_at link.block ≡ Some bytes → v.size ≡ length bytes → piece ≡ drop (length bytes - unit (held inode)) bytes → piece ≡ carried h (content_block h index)
block_carries v h inode index link bytes piece shown seen is content has size at =
    let o = shown_of v h inode shown seen in
    let block : content_block h index ≡ link.block = is.block ∙ ap (λ l. descend h l link.block link.way.left) content in
    let whole : length bytes ≡ h.size = sym size ∙ sym shown.size in
    at ∙ ap₂ (λ n u. drop (n - u) bytes) whole (unit_same h inode o) ∙ ap (drop (h.size - unit h)) (sym (same_bytes v h inode.block index link bytes shown is has))
    ∙ sym (carried_block h link.block (leads_somewhere h _ _ _ _ _ is.leads.1)) ∙ ap (carried h) (sym block)

pub lacks_table : (v : Seen) (h : Holding) (inode : Inode) (index : ℕ) (link : Link) (bytes : List ℕ) (fault : CallFault) → IsShown v inode.block h → IsIn v inode → IsLink h index link → link.way.level ≡ 0
    → v.block_at link.block ≡ Some bytes → is_directory inode.dinode ≡ true → fault ≡ Damaged link.block 1 → ¬ (HasHeader 7 700 bytes) → IsDamage (IsBroken h) fault
lacks_table v h inode index link bytes fault shown seen is content has directory at lacks =
    let o = shown_of v h inode shown seen in
    let leads : Leads h link.way.from is.leads.0 0 (index - link.way.left) link.block = subst (λ l. Leads h link.way.from is.leads.0 l (index - link.way.left) link.block) content is.leads.1 in
    told h fault link.block 1 at (no_header link.block 7 700 (of_table _ _ _ _ leads (ap is_directory (dinode_is h inode o) ∙ directory))
    (λ header. lacks (subst (HasHeader 7 700) (same_bytes v h inode.block index link bytes shown is has) header)))

-- ---- ranges

in_blocks : (h : Holding) → 1 ≤ height_in h → laid_out h ≡ carried_all h
in_blocks h some = cond-false _ _ _ (ne_eqb (height_in h) 0 (λ e. omega (arith, e, some)))

pub in_dinode : (h : Holding) → height_in h ≡ 0 → laid_out h ≡ drop dinode_length (bytes_at h h.own)
in_dinode h none = cond-true _ _ _ (eq-eqb (height_in h) 0 none)

pub unit_some : (h : Holding) (inode : Inode) → IsOf h inode → 0 < unit h
unit_some h inode o = omega (arith, unit_same h inode o, unit_large inode)

pub unit_small : (h : Holding) (inode : Inode) → IsOf h inode → unit h ≤ h.size
unit_small h inode o = omega (arith, unit_same h inode o, unit_most inode, o.size)

-- what the blocks before a byte carry, where they are whole
pub pieces_of_whole : (h : Holding) (inode : Inode) (at : ℕ) → IsOf h inode → Fits (held inode) → 1 ≤ inode.dinode.height → at ≤ inode.dinode.size → AreWholeBefore h at
    → ArePieces h (at / unit h)
pieces_of_whole h inode at o fits below within whole i low = elim (cases_eq (content_block h i) 0) [
  | inl none ↦ ap length (carried_hole h (content_block h i) none) ∙ length-replicate (unit h) 0
  | inr some ↦
      let counted : i < content_count h = before_end i at (dinode_in h).size (unit h) (unit_some h inode o) (omega (arith, within, size_same h inode o)) low in
      let reached : i < reach h.size (height_in h) = within_reach h inode i o fits below (omega (arith, counted, count_same h inode o)) in
      ap length (carried_block h (content_block h i) some) ∙ length-drop (h.size - unit h) (bytes_at h (content_block h i))
      ∙ omega (arith, whole i (content_block h i) low counted (some_within h i (content_block h i) reached refl some), unit_small h inode o)
]

module _ (h : Holding) (inode : Inode) (o : IsOf h inode) (some : 1 ≤ inode.dinode.height) (u at end from to : ℕ) (piece : List ℕ)
    (u_is : u ≡ unit (held inode)) (u_some : 0 < u) (from_is : from ≡ at % u) (to_is : to ≡ min u (from + (end - at))) (low : at / u < content_count (held inode))
    (pieces : ArePieces h (at / unit h)) (long : length piece ≡ unit (held inode)) (is : piece ≡ carried h (content_block h (at / u))) where
  u_h : u ≡ unit h
  u_h = u_is ∙ unit_same h inode o

  before : ArePieces h (at / u)
  before = subst (λ n. ArePieces h (at / n)) (sym u_h) pieces

  here : length (carried h (content_block h (at / u))) ≡ unit h
  here = ap length (sym is) ∙ long ∙ unit_same h inode o

  split : at / u * u + from ≡ at
  split = ap (λ r. at / u * u + r) from_is ∙ div-add-mod' at u

  short : from + (to - from) ≤ u
  short = omega (arith, to_is, from_is, mod_below at u u_some)

  pub part_length : length (take (to - from) (drop from piece)) ≡ to - from
  part_length = omega (arith, length-take (to - from) (drop from piece), length-drop from piece, long, u_is, short)

  pub part_is : take (to - from) (drop from piece) ≡ laid_range h at (at + length (take (to - from) (drop from piece)))
  part_is =
      let count : at + length (take (to - from) (drop from piece)) - at ≡ to - from = omega (arith, part_length) in
      let blocks : laid_out h ≡ carried_all h = in_blocks h (omega (arith, some, height_same h inode o)) in
      ap (λ l. take (to - from) (drop from l)) is
      ∙ sym (range_of_piece (λ i. carried h (content_block h i)) u (content_count h) (at / u) from (to - from) (λ i less. before i less ∙ sym u_h) (here ∙ sym u_h)
      (omega (arith, low, count_same h inode o)) short)
      ∙ ap (λ k. take (to - from) (drop k (carried_all h))) split
      ∙ ap₂ (λ m l. take m (drop at l)) (sym count) (sym blocks)

  pub part_pieces : ArePieces h ((at + length (take (to - from) (drop from piece))) / unit h)
  part_pieces = subst (λ n. ArePieces h ((at + length (take (to - from) (drop from piece))) / n)) u_h (subst (λ d. ArePieces h ((at + d) / u)) (sym part_length) each)
    where
      each : ArePieces h ((at + (to - from)) / u)
      each i less = elim (piece_before i at (to - from) u u_some (omega (arith, short, from_is)) less) [
        | inl lower ↦ before i lower
        | inr same ↦ subst (λ n. length (carried h (content_block h n)) ≡ unit h) (sym same) here
      ]

-- ---- what is needed

-- what is needed for fewer blocks of content, or further up, is needed for more
pub needed_for : (v : Seen) (h : Holding) (w w' : ℕ → Type 0) (least least' : ℕ) (m : Missing) → ((i : ℕ) → w i → w' i) → least' ≤ least → IsNeeded v h w least m → IsNeeded v h w' least' m
needed_for v h w w' least least' m more lower needed = record { lock = needed.lock; absent = needed.absent; way = way needed.way }
  where
    way : IsOnWay h w least m → IsOnWay h w' least' m
    way (the_dinode block from plain) = the_dinode block from plain
    way (led_to i k level first wanted above leads low high plain) = led_to i k level first (more i wanted) (omega (arith, lower, above)) leads low high plain

-- the block of content with a byte of a range before the end is one of the range
pub in_range : (h : Holding) (inode : Inode) (at end next : ℕ) → IsOf h inode → 0 < unit h → at ≤ next → next < end → end ≤ inode.dinode.size → (i : ℕ) → i ≡ next / unit h → IsInRange h at (end - at) i
in_range h inode at end next o some low less within i is =
    let split : next / unit h * unit h + next % unit h ≡ next = div-add-mod' next (unit h) in
    let same : i * unit h ≡ next / unit h * unit h = ap (λ n. n * unit h) is in
    let more : (i + 1) * unit h ≡ i * unit h + unit h = omega arith in
    record {
      ends = omega (arith, low, split, same, more, mod_below next (unit h) some);
      begins = omega (arith, low, less, split, same);
      within = omega (arith, is, piece_within next (dinode_in h).size (unit h) some (omega (arith, less, within, size_same h inode o)));
    }

-- the block of content with a byte before the end is one of those that the size asks for
pub count_held : (inode : Inode) (at u : ℕ) → u ≡ unit (held inode) → at < inode.dinode.size → at / u < content_count (held inode)
count_held inode at u is low =
    subst (λ n. at / n < content_count (held inode)) (sym is)
    (piece_within at (dinode_in (held inode)).size (unit (held inode)) (omega (arith, unit_large inode)) (omega (arith, low, ap (λ (d : Dinode). d.size) (held_is inode))))

pub in_longer : (h : Holding) (at len len' i : ℕ) → len ≤ len' → IsInRange h at len i → IsInRange h at len' i
in_longer h at len len' i more within = record { ends = within.ends; begins = omega (arith, within.begins, more); within = within.within }

-- ---- the whole content

-- how far a range goes
pub end_is : (h : Holding) (inode : Inode) (at len end : ℕ) → IsOf h inode → end ≡ min (at + len) inode.dinode.size → end ≡ min (at + len) (dinode_in h).size
end_is h inode at len end o is = is ∙ ap (min (at + len)) (size_same h inode o)

-- up to the end of the content
pub range_is : (h : Holding) (at len end : ℕ) → end ≡ min (at + len) (dinode_in h).size → laid_range h at end ≡ content_range h at len
unfolding content_of
range_is h at len end is = ap (λ e. take (e - at) (drop at (laid_out h))) is ∙ range_to_end (laid_out h) (dinode_in h).size at len

pub range_none : (h : Holding) (at len end : ℕ) → end ≡ min (at + len) (dinode_in h).size → end ≤ at → [] ≡ content_range h at len
range_none h at len end is past =
    let none : end - at ≡ 0 = omega (arith, past) in
    sym (ap (λ k. take k (drop at (laid_out h))) none) ∙ range_is h at len end is

pub stuffed_is : (h : Holding) (inode : Inode) (at end : ℕ) → IsOf h inode → inode.dinode.height ≡ 0 → take (end - at) (drop (232 + at) inode.bytes.now) ≡ laid_range h at end
stuffed_is h inode at end o none =
    sym (ap (λ l. take (end - at) (drop at l)) (in_dinode h (sym (height_same h inode o) ∙ none) ∙ ap (drop 232) o.bytes) ∙ ap (take (end - at)) (drop-drop at 232 inode.bytes.now))

pub nothing_read : (h : Holding) (at : ℕ) → [] ≡ laid_range h at at
nothing_read h at = let none : at - at ≡ 0 = omega arith in sym (ap (λ k. take k (drop at (laid_out h))) none)

pub appended : (h : Holding) (at next : ℕ) (bytes part : List ℕ) → at ≤ next → bytes ≡ laid_range h at next → part ≡ laid_range h next (next + length part)
    → bytes ++ part ≡ laid_range h at (next + length part)
appended h at next bytes part low read is = ap₂ ◌++◌ read is ∙ joined_ranges (laid_out h) at next (next + length part) low (omega arith)

-- ---- headers

-- the block to which a link leads, whose own header was looked at
pub link_headed : (h : Holding) (index : ℕ) (link : Link) → link.way.level ≡ 0 → IsLink h index link → IsHeadedWay h index → (is_directory_in h ≡ true → HasHeader 7 700 (bytes_at h link.block)) → IsHeadedAt h index
link_headed h index link content is way table b at =
    let block : content_block h index ≡ link.block = is.block ∙ ap (λ l. descend h l link.block link.way.left) content in
    let there : block_at h index ≡ Some link.block = some_within h index link.block is.within block (leads_somewhere h _ _ _ _ _ is.leads.1) in
    (way, λ directory. subst (λ n. HasHeader 7 700 (bytes_at h n)) (same link.block b (sym there ∙ at)) (table directory))
  where
    same : (x y : ℕ) → Some x ≡ Some y → x ≡ y
    same x y e = cc

pub none_headed : (h : Holding) (index : ℕ) → block_at h index ≡ None → IsHeadedAt h index
none_headed h index none b at = absurd (no b (sym none ∙ at))
  where
    no : (x : ℕ) → None ≡ Some x → ⊥
    no x e = cc

-- a part ends with its block of content
pub part_short : (u at end from to : ℕ) (piece : List ℕ) → 0 < u → from ≡ at % u → to ≡ min u (from + (end - at)) → at + length (take (to - from) (drop from piece)) ≤ (at / u + 1) * u
part_short u at end from to piece some from_is to_is =
    let split : at / u * u + at % u ≡ at = div-add-mod' at u in
    let wide : (at / u + 1) * u ≡ at / u * u + u = omega arith in
    omega (arith, split, wide, from_is, to_is, length-take (to - from) (drop from piece), mod_below at u some)

-- one more part
pub headed_more : (h : Holding) (at next more : ℕ) → 0 < unit h → AreHeaded h at next → IsHeadedAt h (next / unit h) → next + more ≤ (next / unit h + 1) * unit h → AreHeaded h at (next + more)
headed_more h at next more some before here short i low high = elim (cases_lt (i * unit h) next) [
  | inl less ↦ before i low less
  | inr past ↦
      let u = unit h in
      let q = next / u in
      let split : q * u + next % u ≡ next = div-add-mod' next u in
      let above : q ≤ i = elim (cases_lt i q) [
        | inr enough ↦ enough
        | inl few ↦
            let rises : (i + 1) * u ≤ q * u = mul-le-mul_right u (omega (arith, few)) in
            let wide : (i + 1) * u ≡ i * u + u = omega arith in
            absurd (omega (arith, rises, wide, split, past, some))
      ] in
      let below : i ≤ q = elim (cases_lt q i) [
        | inr enough ↦ enough
        | inl many ↦
            let rises : (q + 1) * u ≤ i * u = mul-le-mul_right u (omega (arith, many)) in
            absurd (omega (arith, rises, high, short))
      ] in
      let same : q ≡ i = omega (arith, above, below) in
      subst (IsHeadedAt h) same here
]

-- content that stands behind its dinode is in no block
pub stuffed_headed : (h : Holding) (at end : ℕ) → height_in h ≡ 0 → AreHeaded h at end
stuffed_headed h at end none i low high = none_headed h i (none_past h i (subst (λ n. reach h.size n ≤ i) (sym none) (omega arith)))
