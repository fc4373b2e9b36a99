-- Where the pointers of an inode lead on the way to a block of content.
use Rattle.std.proofs.Common.{◌≡◌, ◌≢◌, ◌⊎◌, ℕ, zero, suc, ◌+◌, ◌-◌, ◌*◌, ◌/◌, ◌%◌, ◌<◌, ◌≤◌, inl, inr, length, List, Option, Some, None, Result, Ok, Err, IfOk, IfErr, OnErr, IfSome, IfNone, refl, sym, ap, ap₂, subst, ◌∙◌, arith}
use Rattle.std.proofs.lemmas.Bool.{cond-true, cond-false, eq-eqb, ne_eqb, cases_lt, lt-ltb, le-ltb}
use Rattle.std.proofs.Math.Nat.{mod-lt, div-add-mod', div-lt_iff_lt-mul}
use Rattle.std.specs.Prelude.{◌==◌, ◌&&◌, nat_lt, if◌then◌else◌}
use Rattle.gfs2_layout.specs.Bytes.{u64_at}
use Rattle.gfs2_layout.specs.Headers.{HasHeader}
use Rattle.gfs2_layout.specs.Holding.{Holding, bytes_at}
use Rattle.gfs2_layout.specs.Inode.{Leads, from_dinode, from_block, height_in, header_length, fan, span, pointer, descend, content_block, content_count}
use Rattle.gfs2_layout.specs.Structures.{dinode_length, is_regular}
use Rattle.glock_names.specs.Steps.{IsDamage}
use Rattle.glock_names.specs.Views.{Seen}
use Rattle.glock_names.specs.declared.steps.CallFault.{CallFault}
use Rattle.glock_names.specs.declared.steps.CallFault.TheVariants.{Damaged}
use Rattle.glock_names.specs.declared.steps.Missing.{Missing}
use Rattle.dinode_tree.specs.Broken.{IsBroken, no_header, of_indirect, past_end}
use Rattle.dinode_tree.specs.Reading.{IsHeadedDown, IsHeadedWay, reach, target, block_at, inode_lock, IsNeeded, led_to}
use Rattle.dinode_tree.specs.Shown.{IsShown}
use Rattle.dinode_tree.specs.Walking.{held, IsIn, IsOf, IsLink, IsStep}
use Rattle.dinode_tree.specs.declared.inode.Inode.{Inode}
use Rattle.dinode_tree.specs.declared.ways.Link.{Link}
use Rattle.dinode_tree.specs.declared.ways.Way.{Way}
use Rattle.dinode_tree.proofs.Dinodes.{told, told_own, dinode_is, height_same, count_same}
use Rattle.dinode_tree.proofs.Spans.{span_some, rest_below}

-- ---- which block has which index

-- a pointer leads to a block
pub leads_somewhere : (h : Holding) (b k level first c : ℕ) → Leads h b k level first c → c ≢ 0
leads_somewhere h _ _ _ _ _ (from_dinode k level high low some) = some
leads_somewhere h _ _ _ _ _ (from_block b k level first c j leads low some) = some

abbrev within : ℕ → ℕ → ℕ → Option ℕ
within reached i b = if nat_lt i reached then target b else None

within_low : (reached i b : ℕ) → i < reached → within reached i b ≡ target b
within_low reached i b low = cond-true _ _ _ (lt-ltb i reached low)

within_high : (reached i b : ℕ) → reached ≤ i → within reached i b ≡ None
within_high reached i b high = cond-false _ _ _ (le-ltb i reached high)

target_zero : (b : ℕ) → b ≡ 0 → target b ≡ None
target_zero b none = cond-true _ _ _ (eq-eqb b 0 none)

target_some : (b : ℕ) → b ≢ 0 → target b ≡ Some b
target_some b some = cond-false _ _ _ (ne_eqb b 0 some)

pub none_at_hole : (h : Holding) (i : ℕ) → content_block h i ≡ 0 → block_at h i ≡ None
none_at_hole h i hole = elim (cases_lt i (reach h.size (height_in h))) [
  | inl low ↦ within_low _ i _ low ∙ target_zero (content_block h i) hole
  | inr high ↦ within_high _ i _ high
]

pub none_past : (h : Holding) (i : ℕ) → reach h.size (height_in h) ≤ i → block_at h i ≡ None
none_past h i past = within_high _ i _ past

pub some_within : (h : Holding) (i b : ℕ) → i < reach h.size (height_in h) → content_block h i ≡ b → b ≢ 0 → block_at h i ≡ Some b
some_within h i b low is some = within_low _ i _ low ∙ ap target is ∙ target_some b some

-- nothing is below no block
pub descend_zero : (h : Holding) (level i : ℕ) → descend h level 0 i ≡ 0
descend_zero h zero i = refl
descend_zero h (suc level) i = refl

-- a block one level further up
pub descend_one : (h : Holding) (level b i : ℕ) → b ≢ 0
    → descend h (suc level) b i ≡ descend h level (pointer h header_length b (i / span h.size level)) (i % span h.size level)
descend_one h level b i some = cond-false _ _ _ (ne_eqb b 0 some)

pub descend_top : (h : Holding) (level i : ℕ) → height_in h ≡ suc level
    → content_block h i ≡ descend h level (pointer h dinode_length h.own (i / span h.size level)) (i % span h.size level)
unfolding content_block
descend_top h level i high =
    let same : height_in h - 1 ≡ level = omega (arith, high) in
    ap (λ l. descend h l (pointer h dinode_length h.own (i / span h.size l)) (i % span h.size l)) same

-- ---- one step

-- the quotient and the rest of an index
parts_of : (i s k left : ℕ) → k ≡ i / s → left ≡ i % s → k * s + left ≡ i
parts_of i s k left k_is left_is = ap₂ (λ q r. q * s + r) k_is left_is ∙ div-add-mod' i s

module _ (h : Holding) (large : 512 ≤ h.size) (index level : ℕ) (high : height_in h ≡ suc level) (k left p : ℕ)
    (k_is : k ≡ index / span h.size level) (left_is : left ≡ index % span h.size level) (p_is : p ≡ pointer h dinode_length h.own k) where
  top_block : content_block h index ≡ descend h level p left
  top_block = descend_top h level index high ∙ ap₂ (descend h level) (ap (pointer h dinode_length h.own) (sym k_is) ∙ sym p_is) (sym left_is)

  top_headed : IsHeadedDown h level p left → IsHeadedWay h index
  top_headed down =
      let same : height_in h - 1 ≡ level = omega (arith, high) in
      let pointed : p ≡ pointer h dinode_length h.own (index / span h.size level) = p_is ∙ ap (pointer h dinode_length h.own) k_is in
      let here : IsHeadedDown h level (pointer h dinode_length h.own (index / span h.size level)) (index % span h.size level)
      = subst (λ i. IsHeadedDown h level (pointer h dinode_length h.own (index / span h.size level)) i) left_is (subst (λ b. IsHeadedDown h level b left) pointed down) in
      subst (λ l. IsHeadedDown h l (pointer h dinode_length h.own (index / span h.size l)) (index % span h.size l)) (sym same) here

  pub top_none : p ≡ 0 → block_at h index ≡ None
  top_none none = none_at_hole h index (top_block ∙ ap (λ b. descend h level b left) none ∙ descend_zero h level left)

  pub top_past : fan h.size dinode_length ≤ k → block_at h index ≡ None
  top_past far = none_past h index (rest (cases_lt index (fan h.size dinode_length * span h.size level)))
    where
      rest : (index < fan h.size dinode_length * span h.size level) ⊎ (fan h.size dinode_length * span h.size level ≤ index) → reach h.size (height_in h) ≤ index
      rest (inl low) = absurd (omega (arith, far, k_is, (div-lt_iff_lt-mul (span_some h.size level large)).1 low))
      rest (inr past) = subst (λ n. reach h.size n ≤ index) (sym high) past

  top_within : k < fan h.size dinode_length → index < reach h.size (height_in h)
  top_within low = subst (λ n. index < reach h.size n) (sym high) ((div-lt_iff_lt-mul (span_some h.size level large)).0 (subst (λ n. n < fan h.size dinode_length) k_is low))

  pub top_leads : k < fan h.size dinode_length → p ≢ 0 → Leads h h.own k level (index - left) p
  top_leads low some =
      let leads : Leads h h.own k level (k * span h.size level) (pointer h dinode_length h.own k) = from_dinode k level high low (λ e. some (p_is ∙ e)) in
      let at : k * span h.size level ≡ index - left = omega (arith, parts_of index (span h.size level) k left k_is left_is) in
      subst (λ f. Leads h h.own k level f p) at (subst (Leads h h.own k level (k * span h.size level)) (sym p_is) leads)

-- a pointer on the way, from what it leads to
pub link_of : (h : Holding) (way : Way) (p k : ℕ) → way.left ≤ way.index → way.left < span h.size way.level → Leads h way.from k way.level (way.index - way.left) p
    → way.index < reach h.size (height_in h) → content_block h way.index ≡ descend h way.level p way.left → (IsHeadedDown h way.level p way.left → IsHeadedWay h way.index) → IsLink h way.index (record { way = way; block = p })
link_of h way p k least small leads low is headed = record { wanted = refl; least = least; left = small; leads = (k, leads); within = low; block = is; headed = headed }

-- the dinode's own pointer
module _ (h : Holding) (inode : Inode) (o : IsOf h inode) (way : Way) (from_is : way.from ≡ inode.block) (high : inode.dinode.height ≡ suc way.level) (k p : ℕ)
    (k_is : k ≡ way.index / span (length inode.bytes.now) way.level) (left_is : way.left ≡ way.index % span (length inode.bytes.now) way.level)
    (p_is : p ≡ u64_at (232 + 8 * k) inode.bytes.now) where
  large : 512 ≤ h.size
  large = omega (arith, o.size, inode.least)

  high_h : height_in h ≡ suc way.level
  high_h = sym (height_same h inode o) ∙ high

  k_h : k ≡ way.index / span h.size way.level
  k_h = k_is ∙ ap (λ n. way.index / span n way.level) (sym o.size)

  left_h : way.left ≡ way.index % span h.size way.level
  left_h = left_is ∙ ap (λ n. way.index % span n way.level) (sym o.size)

  p_h : p ≡ pointer h dinode_length h.own k
  p_h = p_is ∙ ap (u64_at (232 + 8 * k)) (sym o.bytes)

  pub first_none : p ≡ 0 → block_at h way.index ≡ None
  first_none = top_none h large way.index way.level high_h k way.left p k_h left_h p_h

  pub first_past : fan (length inode.bytes.now) 232 ≤ k → block_at h way.index ≡ None
  first_past far = top_past h large way.index way.level high_h k way.left p k_h left_h p_h (subst (λ n. fan n 232 ≤ k) (sym o.size) far)

  pub first_leads : k < fan (length inode.bytes.now) 232 → p ≢ 0 → Leads h way.from k way.level (way.index - way.left) p
  first_leads low some =
      let own : h.own ≡ way.from = o.own ∙ sym from_is in
      subst (λ b. Leads h b k way.level (way.index - way.left) p) own
      (top_leads h large way.index way.level high_h k way.left p k_h left_h p_h (subst (λ n. k < fan n 232) (sym o.size) low) some)

  pub first_link_is : k < fan (length inode.bytes.now) 232 → p ≢ 0 → IsLink h way.index (record { way = way; block = p })
  first_link_is low some =
      link_of h way p k
      (rest_below way.index _ way.left left_h)
      (subst (λ n. n < span h.size way.level) (sym left_h) (mod-lt way.index (span_some h.size way.level large)))
      (first_leads low some)
      (top_within h large way.index way.level high_h k way.left p k_h left_h p_h (subst (λ n. k < fan n 232) (sym o.size) low))
      (top_block h large way.index way.level high_h k way.left p k_h left_h p_h) (top_headed h large way.index way.level high_h k way.left p k_h left_h p_h)

-- the pointer of an indirect block
module _ (h : Holding) (large : 512 ≤ h.size) (index : ℕ) (link : Link) (is : IsLink h index link) (way : Way) (from_is : way.from ≡ link.block) (index_is : way.index ≡ link.way.index)
    (high : link.way.level ≡ suc way.level) (bytes : List ℕ) (same : bytes_at h link.block ≡ bytes) (k p : ℕ)
    (k_is : k ≡ link.way.left / span h.size way.level) (left_is : way.left ≡ link.way.left % span h.size way.level)
    (p_is : p ≡ u64_at (24 + 8 * k) bytes) where
  index_h : way.index ≡ index
  index_h = index_is ∙ is.wanted

  next_some : link.block ≢ 0
  next_some = leads_somewhere h _ _ _ _ _ is.leads.1

  next_p : p ≡ pointer h header_length link.block k
  next_p = p_is ∙ ap (u64_at (24 + 8 * k)) (sym same)

  next_block : content_block h index ≡ descend h way.level p way.left
  next_block =
      is.block ∙ ap (λ l. descend h l link.block link.way.left) high ∙ descend_one h way.level link.block link.way.left next_some
      ∙ ap₂ (descend h way.level) (ap (pointer h header_length link.block) (sym k_is) ∙ sym next_p) (sym left_is)

  next_headed : HasHeader 5 500 bytes → IsHeadedDown h way.level p way.left → IsHeadedWay h index
  next_headed header down =
      let pointed : p ≡ pointer h header_length link.block (link.way.left / span h.size way.level) = next_p ∙ ap (pointer h header_length link.block) k_is in
      let here : IsHeadedDown h way.level (pointer h header_length link.block (link.way.left / span h.size way.level)) (link.way.left % span h.size way.level)
      = subst (λ i. IsHeadedDown h way.level (pointer h header_length link.block (link.way.left / span h.size way.level)) i) left_is (subst (λ b. IsHeadedDown h way.level b way.left) pointed down) in
      is.headed (subst (λ l. IsHeadedDown h l link.block link.way.left) (sym high) (subst (HasHeader 5 500) (sym same) header, here))

  pub next_none : p ≡ 0 → block_at h index ≡ None
  next_none none = none_at_hole h index (next_block ∙ ap (λ b. descend h way.level b way.left) none ∙ descend_zero h way.level way.left)

  pub next_low : k < fan h.size header_length
  next_low =
      let below : link.way.left < fan h.size header_length * span h.size way.level = subst (λ l. link.way.left < span h.size l) high is.left in
      subst (λ n. n < fan h.size header_length) (sym k_is) ((div-lt_iff_lt-mul (span_some h.size way.level large)).1 below)

  pub next_leads : p ≢ 0 → Leads h way.from k way.level (way.index - way.left) p
  next_leads some =
      let above : Leads h link.way.from is.leads.0 (suc way.level) (index - link.way.left) link.block =
      subst (λ l. Leads h link.way.from is.leads.0 l (index - link.way.left) link.block) high is.leads.1 in
      let leads : Leads h link.block k way.level (index - link.way.left + k * span h.size way.level) (pointer h header_length link.block k) =
      from_block link.way.from is.leads.0 way.level (index - link.way.left) link.block k above next_low (λ e. some (next_p ∙ e)) in
      let at : index - link.way.left + k * span h.size way.level ≡ way.index - way.left =
      omega (arith, parts_of link.way.left (span h.size way.level) k way.left k_is left_is, is.least, index_h) in
      subst (λ b. Leads h b k way.level (way.index - way.left) p) (sym from_is)
      (subst (λ f. Leads h link.block k way.level f p) at (subst (Leads h link.block k way.level (index - link.way.left + k * span h.size way.level)) (sym next_p) leads))

  pub next_link_is : HasHeader 5 500 bytes → p ≢ 0 → IsLink h index (record { way = way; block = p })
  next_link_is header some =
      let small : way.left < span h.size way.level = subst (λ n. n < span h.size way.level) (sym left_is) (mod-lt link.way.left (span_some h.size way.level large)) in
      let made : IsLink h way.index (record { way = way; block = p }) =
      link_of h way p k (omega (arith, rest_below link.way.left _ way.left left_is, is.least, index_h)) small (next_leads some) (subst (λ n. n < reach h.size (height_in h)) (sym index_h) is.within) (ap (content_block h) index_h ∙ next_block)
      (λ down. subst (IsHeadedWay h) (sym index_h) (next_headed header down)) in
      subst (λ n. IsLink h n (record { way = way; block = p })) index_h made

-- a link to content has its way behind it
pub all_headed : (h : Holding) (index : ℕ) (link : Link) → link.way.level ≡ 0 → IsLink h index link → IsHeadedWay h index
all_headed h index link low is = is.headed (subst (λ l. IsHeadedDown h l link.block link.way.left) (sym low) tt)

-- ---- what following a pointer gives

pub followed : (h : Holding) (index p : ℕ) (way : Way) (result : Result (Option Link) CallFault) → IfOk result (λ found. IfNone found (p ≡ 0))
    → IfOk result (λ found. IfSome found (λ link. link ≡ record { way = way; block = p })) → IfOk result (λ found. IfSome found (λ link. p ≢ 0))
    → (p ≡ 0 → block_at h index ≡ None) → (p ≢ 0 → IsLink h index (record { way = way; block = p })) → IfOk result (IsStep h index)
followed h index p way (Ok None) none some leads hole link = hole none
followed h index p way (Ok (Some found)) none some leads hole link = subst (IsLink h index) (sym some) (link leads)
followed h index p way (Err fault) none some leads hole link = tt

pub followed_past : (h : Holding) (inode : Inode) (p : ℕ) (way : Way) (result : Result (Option Link) CallFault) → IsOf h inode
    → IfErr result (λ fault. fault ≡ Damaged inode.block 8) → OnErr result (content_count (held inode) ≤ way.index - way.left) → OnErr result (p ≢ 0)
    → (p ≢ 0 → (k : ℕ) × Leads h way.from k way.level (way.index - way.left) p) → IfErr result (IsDamage (IsBroken h))
followed_past h inode p way (Ok found) o fault past some leads = tt
followed_past h inode p way (Err other) o fault past some leads =
    let led = leads some in
    told_own h other inode.block 8 fault o.own (past_end way.from led.0 way.level (way.index - way.left) p led.1 (omega (arith, past, count_same h inode o)))

-- ---- a block on the way that is missing, or lacks its header

pub shown_of : (v : Seen) (h : Holding) (inode : Inode) → IsShown v inode.block h → IsIn v inode → IsOf h inode
shown_of v h inode shown seen = record {
  own = shown.own;
  size = shown.size ∙ seen.size;
  bytes = shown.same h.own inode.bytes.now shown.dinode (ap v.block_at shown.own ∙ seen.bytes);
}

-- what the holding has in a block to which a pointer leads is what the view has
pub same_bytes : (v : Seen) (h : Holding) (a index : ℕ) (link : Link) (bytes : List ℕ) → IsShown v a h → IsLink h index link → v.block_at link.block ≡ Some bytes → bytes_at h link.block ≡ bytes
same_bytes v h a index link bytes shown is has = shown.same link.block bytes (shown.led_to _ _ _ _ _ is.leads.1) has

pub lacks_indirect : (v : Seen) (h : Holding) (a index : ℕ) (link : Link) (bytes : List ℕ) (fault : CallFault) → IsShown v a h → IsLink h index link → 1 ≤ link.way.level
    → v.block_at link.block ≡ Some bytes → fault ≡ Damaged link.block 1 → ¬ (HasHeader 5 500 bytes) → IsDamage (IsBroken h) fault
lacks_indirect v h a index link bytes fault shown is above has at lacks =
    let up : link.way.level ≡ suc (link.way.level - 1) = omega (arith, above) in
    let leads : Leads h link.way.from is.leads.0 (suc (link.way.level - 1)) (index - link.way.left) link.block =
    subst (λ l. Leads h link.way.from is.leads.0 l (index - link.way.left) link.block) up is.leads.1 in
    told h fault link.block 1 at (no_header link.block 5 500 (of_indirect _ _ _ _ _ leads)
    (λ header. lacks (subst (HasHeader 5 500) (same_bytes v h a index link bytes shown is has) header)))

pub needed_link : (v : Seen) (h : Holding) (inode : Inode) (index least : ℕ) (link : Link) (m : Missing) → IsShown v inode.block h → IsIn v inode → IsLink h index link → least ≤ link.way.level
    → v.block_at link.block ≡ None
    → m ≡ record { lock = inode_lock inode.block; block = link.block; plain = link.way.level == 0 && is_regular inode.dinode; from = link.way.from }
    → IsNeeded v h (λ i. i ≡ index) least m
needed_link v h inode index least link m shown seen is above absent at =
    subst (IsNeeded v h (λ i. i ≡ index) least) (sym at) (record {
      lock = ap inode_lock (sym shown.own);
      absent = absent;
      way = led_to index is.leads.0 link.way.level (index - link.way.left) refl above is.leads.1 (omega arith) (omega (arith, is.left, is.least))
          (ap (λ d. link.way.level == 0 && is_regular d) (sym (dinode_is h inode (shown_of v h inode shown seen))));
    })
