-- Where the pointers of an inode lead.
use Rattle.std.proofs.Common.{◌≡◌, ◌≢◌, true, ℕ, zero, suc, ◌+◌, ◌-◌, ◌*◌, ◌/◌, ◌^◌, ◌<◌, ◌≤◌, min, inl, inr, Result, IfErr, refl, sym, ap, subst, ◌∙◌, arith}
use Rattle.gfs2_layout.specs.Bytes.{u64_at}
use Rattle.gfs2_layout.specs.declared.dinode.Dinode.{Dinode}
use Rattle.gfs2_layout.specs.Structures.{dinode_length, is_directory}
use Rattle.image_model.specs.Claims.{Claims, below}
use Rattle.gfs2_layout.specs.Inode.{Leads, from_dinode, from_block, header_length, fan, span, pointer, content_count, is_directory_in}
use Rattle.image_model.specs.Image.{Image}
use Rattle.gfs2_layout.specs.Headers.{HasHeader}
use Rattle.gfs2_layout.specs.Holding.{Holding}
use Rattle.image_model.specs.Owners.{Owner, Below}
use Rattle.image_reader.specs.Reading.{held, image_at, IsDinodeBlock, IsTrueOf}
use Rattle.image_model.specs.Rules.{no_header, of_indirect, of_table, past_end}
use Rattle.image_reader.specs.Walking.{AreReached, IsReached, IsContentOf}
use Rattle.image_reader.specs.declared.blocks.Block.{Block}
use Rattle.image_reader.specs.declared.blocks.Blocks.{Blocks}
use Rattle.image_reader.specs.declared.image.ImageFault.{ImageFault}
use Rattle.image_reader.specs.declared.image.ImageFault.TheVariants.{Damaged}
use Rattle.image_reader.specs.declared.inode.Inode.{Inode}
use Rattle.image_reader.specs.declared.walk.Pointers.{Pointers}
use Rattle.image_reader.proofs.InodeFaults.{told, told_at, told_of}
use Rattle.image_reader.proofs.Inside.{block_inside}
use Rattle.image_reader.proofs.Pieces.{dinode_is}
use Rattle.image_reader.proofs.Spans.{capped_product}

-- ---- one pointer further

leads_from : (h : Holding) (b start level first k : ℕ) → AreReached h b start level first → k < fan h.size start → pointer h start b k ≢ 0
    → Leads h b k level (first + k * span h.size level) (pointer h start b k)
leads_from h b start level first k (inl top) within some =
    let Goal : ℕ → ℕ → ℕ → Type 0 = λ x s f. k < fan h.size s → pointer h s x k ≢ 0 → Leads h x k level (f + k * span h.size level) (pointer h s x k) in
    let plain : Goal h.own dinode_length 0 = λ i n.
    let e : k * span h.size level ≡ 0 + k * span h.size level = omega arith in
    subst (λ m. Leads h h.own k level m (pointer h dinode_length h.own k)) e (from_dinode k level top.2 i n) in
    let one : Goal b dinode_length 0 = subst (λ x. Goal x dinode_length 0) (sym top.0) plain in
    let two : Goal b start 0 = subst (λ s. Goal b s 0) (sym top.1) one in
    let three : Goal b start first = subst (λ f. Goal b start f) (sym top.3) two in
    three within some
leads_from h b start level first k (inr block) within some =
    let Goal : ℕ → Type 0 = λ s. k < fan h.size s → pointer h s b k ≢ 0 → Leads h b k level (first + k * span h.size level) (pointer h s b k) in
    let plain : Goal header_length = λ i n. from_block block.1.0 block.1.1 level first b k block.1.2 i n in
    subst Goal (sym block.0) plain within some

-- the same of a number that was read
pub leads_to : (h : Holding) (b start level first k number reached : ℕ) → AreReached h b start level first → k < fan h.size start
    → number ≡ pointer h start b k → number ≢ 0 → reached ≡ first + k * span h.size level → Leads h b k level reached number
leads_to h b start level first k number reached are within is some same =
    let plain = leads_from h b start level first k are within (λ e. some (is ∙ e)) in
    subst (λ f. Leads h b k level f number) (sym same) (subst (λ n. Leads h b k level (first + k * span h.size level) n) (sym is) plain)

-- ---- first indexes, which are cut off at the greatest number

sum_capped : (m f k s before : ℕ) → before ≡ min (min s m * k) m → min (f + before) m ≡ min (f + k * s) m
sum_capped m f k s before is =
    let same : before ≡ min (k * s) m = is ∙ capped_product m s k in
    omega (arith, same)

pub first_exact : (m f k s before first count : ℕ) → before ≡ min (min s m * k) m → first ≡ min (f + before) m → count ≤ m → first < count → first ≡ f + k * s
first_exact m f k s before first count is sum small low =
    let same = sum_capped m f k s before is in
    omega (arith, same, sum, small, low)

pub first_past : (m f k s before first count : ℕ) → before ≡ min (min s m * k) m → first ≡ min (f + before) m → count ≤ m → count ≤ first → count ≤ f + k * s
first_past m f k s before first count is sum small past =
    let same = sum_capped m f k s before is in
    omega (arith, same, sum, small, past)

-- ---- what is broken

pub leads_past : (inode : Inode) (fault : ImageFault) (b k level first c : ℕ) → fault ≡ Damaged inode.block.number 8 → IsDinodeBlock inode.block
    → Leads (held inode) b k level first c → content_count (held inode) ≤ first → IsTrueOf (image_at inode.block.image) fault
leads_past inode fault b k level first c is here leads past =
    told_of inode.block fault _ is (past_end inode.block.number b k level first c here leads past)

-- what leads to a block claims it
pub claims_below : (inode : Inode) (b k level first c : ℕ) → IsDinodeBlock inode.block → Leads (held inode) b k level first c
    → Claims (image_at inode.block.image) b c (Below inode.block.number b k level first)
claims_below inode b k level first c here leads =
    below here.1.by inode.block.number here.0 b k level first c here.1.claimed here.1.dinode leads

pub lacks_indirect : (im : Image) (fault : ImageFault) (by a b k level first x : ℕ) → fault ≡ Damaged x 1 → x < im.count → Claims im by x (Below a b k (suc level) first)
    → ¬ (HasHeader 5 500 (im.at x)) → IsTrueOf im fault
lacks_indirect im fault by a b k level first x is inside claimed lacks = told im fault x 1 is inside (no_header x 5 500 (of_indirect by a x b k level first claimed) lacks)

pub lacks_table : (inode : Inode) (fault : ImageFault) (x : ℕ) → fault ≡ Damaged x 1 → x < inode.block.image.count → IsContentOf inode x → is_directory inode.dinode ≡ true
    → ¬ (HasHeader 7 700 ((image_at inode.block.image).at x)) → IsTrueOf (image_at inode.block.image) fault
lacks_table inode fault x is inside (by, b, k, first, claimed) directory lacks =
    let said : is_directory_in (held inode) ≡ true = ap is_directory (sym (dinode_is inode)) ∙ directory in
    told_at inode.block.image fault x 1 is inside (no_header x 7 700 (of_table by inode.block.number x b k first claimed said) lacks)

-- ---- of one image under two names

pub lacks_table_at : (inode : Inode) (block : Block) (fault : ImageFault) → block.image ≡ inode.block.image → fault ≡ Damaged block.number 1
    → IsContentOf inode block.number → is_directory inode.dinode ≡ true → ¬ (HasHeader 7 700 ((image_at block.image).at block.number)) → IsTrueOf (image_at inode.block.image) fault
lacks_table_at inode block fault same is content directory lacks =
    let P : Blocks → Type 0 = λ i. ¬ (HasHeader 7 700 ((image_at i).at block.number)) in
    lacks_table inode fault block.number is (block_inside block inode.block.image same) content directory (subst P same lacks)

pub err_of : {A : Type 0} → (i j : Blocks) (r : Result A ImageFault) → i ≡ j → IfErr r (IsTrueOf (image_at i)) → IfErr r (IsTrueOf (image_at j))
err_of i j r same true_of = subst (λ (x : Blocks). IfErr r (IsTrueOf (image_at x))) same true_of

pub fault_of : (i j : Blocks) (fault : ImageFault) → i ≡ j → IsTrueOf (image_at i) fault → IsTrueOf (image_at j) fault
fault_of i j fault same true_of = subst (λ (x : Blocks). IsTrueOf (image_at x) fault) same true_of

pub claims_of : (i j : Blocks) (b c : ℕ) (o : Owner) → i ≡ j → Claims (image_at i) b c o → Claims (image_at j) b c o
claims_of i j b c o same claims = subst (λ (x : Blocks). Claims (image_at x) b c o) same claims

pub lacks_indirect_at : (image : Blocks) (block : Block) (fault : ImageFault) (by a b k level first x : ℕ) → block.image ≡ image → block.number ≡ x → fault ≡ Damaged x 1
    → Claims (image_at image) by x (Below a b k (suc level) first) → ¬ (HasHeader 5 500 ((image_at block.image).at block.number)) → IsTrueOf (image_at image) fault
lacks_indirect_at image block fault by a b k level first x same at is claimed lacks =
    let P : Blocks → Type 0 = λ i. ¬ (HasHeader 5 500 ((image_at i).at block.number)) in
    let Q : ℕ → Type 0 = λ n. ¬ (HasHeader 5 500 ((image_at image).at n)) in
    lacks_indirect (image_at image) fault by a b k level first x is (omega (arith, block_inside block image same, at, image.counted)) claimed (subst Q at (subst P same lacks))

-- what a block of pointers leads to is reached
pub reached_below : (inode : Inode) (p : Pointers) (b k number level : ℕ) → p.block.image ≡ inode.block.image → p.block.number ≡ number → p.start ≡ 24 → p.level + 1 ≡ level
    → Leads (held inode) b k level p.first number → IsReached inode p
reached_below inode p b k number level same at start up leads = record {
  image = same;
  reached = inr (
    start,
    (
      b,
      k,
      subst (λ n. Leads (held inode) b k (suc p.level) p.first n) (sym at)
          (subst (λ l. Leads (held inode) b k l p.first number) (omega (arith, up)) leads),
    ),
  );
}

pub content_claimed : (inode : Inode) (b k level first c x : ℕ) → IsDinodeBlock inode.block → Leads (held inode) b k level first c → level ≡ 0 → x ≡ c → IsContentOf inode x
content_claimed inode b k level first c x here leads bottom at =
    let low : Leads (held inode) b k 0 first c = subst (λ l. Leads (held inode) b k l first c) bottom leads in
    (b, b, k, first, claims_below inode b k 0 first x here (subst (λ n. Leads (held inode) b k 0 first n) (sym at) low))

pub lacks_indirect_leads : (image : Blocks) (inode : Inode) (block : Block) (fault : ImageFault) (b k level first c : ℕ) → inode.block.image ≡ image → block.image ≡ image
    → block.number ≡ c → level ≢ 0 → fault ≡ Damaged c 1 → IsDinodeBlock inode.block → Leads (held inode) b k level first c
    → ¬ (HasHeader 5 500 ((image_at block.image).at block.number)) → IsTrueOf (image_at image) fault
lacks_indirect_leads image inode block fault b k zero first c own same at inner is here leads lacks = absurd (inner refl)
lacks_indirect_leads image inode block fault b k (suc level) first c own same at inner is here leads lacks =
    lacks_indirect_at image block fault b inode.block.number b k level first c same at is
    (claims_of inode.block.image image b c (Below inode.block.number b k (suc level) first) own (claims_below inode b k (suc level) first c here leads)) lacks

-- ---- what the code reads on its way

number_is : (inode : Inode) (p : Pointers) (k number : ℕ) → p.block.image ≡ inode.block.image → k < fan inode.block.image.size p.start
    → (k < (p.block.image.size - p.start) / 8 → number ≡ u64_at (p.start + 8 * k) ((image_at p.block.image).at p.block.number)) → number ≡ pointer (held inode) p.start p.block.number k
number_is inode p k number same within read =
    let P : Blocks → Type 0 = λ i. k < (i.size - p.start) / 8 → number ≡ u64_at (p.start + 8 * k) ((image_at i).at p.block.number) in
    subst P same read within

-- what was read of pointer k: the number there, and the first index as far as numbers go
pub record IsFollowed (inode : Inode) (p : Pointers) (k number sp before first count : ℕ) : Type 0 where
  pub reached : IsReached inode p
  pub within : k < fan inode.block.image.size p.start
  pub read : k < (p.block.image.size - p.start) / 8 → number ≡ u64_at (p.start + 8 * k) ((image_at p.block.image).at p.block.number)
  pub some : number ≢ 0
  pub span_is : sp ≡ min (span inode.block.image.size p.level) (2 ^ 64 - 1)
  pub before_is : before ≡ min (sp * k) (2 ^ 64 - 1)
  pub first_is : first ≡ min (p.first + before) (2 ^ 64 - 1)
  pub count_is : count ≡ content_count (held inode)
  pub small : count < 2 ^ 64

before_of : (inode : Inode) (p : Pointers) (k number sp before first count : ℕ) → IsFollowed inode p k number sp before first count
    → before ≡ min (min (span inode.block.image.size p.level) (2 ^ 64 - 1) * k) (2 ^ 64 - 1)
before_of inode p k number sp before first count f = f.before_is ∙ ap (λ n. min (n * k) (2 ^ 64 - 1)) f.span_is

leads_followed : (inode : Inode) (p : Pointers) (k number sp before first count reached : ℕ) → IsFollowed inode p k number sp before first count
    → reached ≡ p.first + k * span inode.block.image.size p.level → Leads (held inode) p.block.number k p.level reached number
leads_followed inode p k number sp before first count reached f same =
    leads_to (held inode) p.block.number p.start p.level p.first k number reached f.reached.reached f.within (number_is inode p k number f.reached.image f.within f.read) f.some same

pub follows : (inode : Inode) (p : Pointers) (k number sp before first count : ℕ) → IsFollowed inode p k number sp before first count → first < count
    → Leads (held inode) p.block.number k p.level first number
follows inode p k number sp before first count f low =
    leads_followed inode p k number sp before first count first f
    (first_exact (2 ^ 64 - 1) p.first k (span inode.block.image.size p.level) before first count (before_of inode p k number sp before first count f) f.first_is (omega (arith, f.small)) low)

pub follows_past : (image : Blocks) (inode : Inode) (p : Pointers) (fault : ImageFault) (k number sp before first count : ℕ) → inode.block.image ≡ image → fault ≡ Damaged inode.block.number 8
    → IsDinodeBlock inode.block → IsFollowed inode p k number sp before first count → count ≤ first → IsTrueOf (image_at image) fault
follows_past image inode p fault k number sp before first count own is here f past =
    let s = span inode.block.image.size p.level in
    let far : count ≤ p.first + k * s = first_past (2 ^ 64 - 1) p.first k s before first count (before_of inode p k number sp before first count f) f.first_is (omega (arith, f.small)) past in
    fault_of inode.block.image image fault own
    (leads_past inode fault p.block.number k p.level (p.first + k * s) number is here (leads_followed inode p k number sp before first count (p.first + k * s) f refl) (omega (arith, far, f.count_is)))

-- the dinode's own pointers are reached
pub reached_top : (inode : Inode) (p : Pointers) → p.block ≡ inode.block → p.start ≡ 232 → inode.dinode.height ≡ p.level + 1 → p.first ≡ 0 → IsReached inode p
reached_top inode p same start height first = record {
  image = ap (λ (b : Block). b.image) same;
  reached = inl (
    ap (λ (b : Block). b.number) same,
    start,
    let tall : inode.dinode.height ≡ suc p.level = omega (arith, height) in ap (λ (d : Dinode). d.height) (sym (dinode_is inode)) ∙ tall,
    first,
  );
}

-- what leads to an indirect block
pub leads_on : (inode : Inode) (b k level first c x : ℕ) → Leads (held inode) b k level first c → level ≢ 0 → x ≡ c
    → (by : ℕ) × ((j : ℕ) × Leads (held inode) by j (level - 1 + 1) first x)
leads_on inode b k level first c x leads inner at =
    let up : level ≡ level - 1 + 1 = omega (arith, inner) in
    (b, (k, subst (λ n. Leads (held inode) b k (level - 1 + 1) first n) (sym at) (subst (λ l. Leads (held inode) b k l first c) up leads)))
