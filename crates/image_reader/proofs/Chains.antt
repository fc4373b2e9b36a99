-- The chains of leaves of a hashed directory, as the code goes over them.
use Rattle.std.proofs.Common.{◌≡◌, ◌≢◌, true, ℕ, suc, ◌+◌, ◌-◌, ◌*◌, ◌/◌, ◌%◌, ◌^◌, ◌<◌, ◌≤◌, List, Option, Some, None, inl, inr, sym, ap, subst, ◌∙◌, arith}
use Rattle.std.specs.Prelude.{IfSome, is_none}
use Rattle.std.proofs.Math.Pow.{pow_mono}
use Rattle.std.proofs.lemmas.List.Sums.{count_by-le-length}
use Rattle.std.proofs.lemmas.Nat.{div-add-mod', le-div, pow-add, pow_pos}
use Rattle.std.proofs.Math.Nat.{div-lt_iff_lt-mul, div-le_self, mul-div_cancel, mul-mod_left, mul_assoc}
use Rattle.gfs2_layout.specs.Bytes.{u64_at}
use Rattle.gfs2_layout.specs.Inode.{depth_in, entry, entry_block, first_hash, index_bits, is_hashed_in, leaf_in, table_count}
use Rattle.gfs2_layout.specs.Structures.{leaf_of}
use Rattle.gfs2_layout.specs.declared.leaf.Leaf.{Leaf}
use Rattle.image_model.specs.Claims.{every, Claims, HasInode, HasLeaf, IsLeafBehind, first_leaf, next_behind, next_leaf, same_leaf}
use Rattle.image_reader.specs.Going.{IsVisitIn, IsOf, ClaimsOnly}
use Rattle.image_model.specs.Image.{Image}
use Rattle.image_reader.specs.Leaves.{HasClaim, IsTableOf, IsHeaded, AreChained}
use Rattle.image_model.specs.Owners.{Owner, Chained}
use Rattle.image_reader.specs.Owning.{AreClaims, IsPlaced}
use Rattle.image_reader.specs.Reading.{held, image_at, IsTrueOf}
use Rattle.image_model.specs.Rules.{IsHashedAt, chain_depth, no_leaf, pointer_missing}
use Rattle.image_reader.specs.declared.blocks.Blocks.{Blocks}
use Rattle.image_reader.specs.declared.directory.Visit.{Visit}
use Rattle.image_reader.specs.declared.hashed.LeafAt.{LeafAt}
use Rattle.image_reader.specs.declared.hash_table.HashTable.{HashTable}
use Rattle.image_reader.specs.declared.image.ImageFault.{ImageFault}
use Rattle.image_reader.specs.declared.image.ImageFault.TheVariants.{Damaged}
use Rattle.image_reader.specs.declared.inode.Inode.{Inode}
use Rattle.image_reader.specs.declared.owners.Claim.{Claim}
use Rattle.image_reader.specs.declared.walk.Walk.{Walk}
use Rattle.std.proofs.lemmas.Bool.{cases_lt}
use Rattle.image_reader.proofs.InodeFaults.{told_at}
use Rattle.image_reader.proofs.Leaves.{claim_kept, all_claimed}

-- ---- along a chain

pub claim_of : (im : Image) (entries : List (Option Claim)) (x : ℕ) (o : Owner) → AreClaims im entries → HasClaim entries x o → (from : ℕ) × Claims im from x o
claim_of im entries x o claims has =
    let from = claims x has.claim has.there in
    (from.0, subst (Claims im from.0 x) has.owner from.1)

leaf_same : (image : Blocks) (inode : Inode) (x : ℕ) (leaf : Leaf) → inode.block.image ≡ image → leaf ≡ leaf_in (held inode) x → leaf ≡ leaf_in (every (image_at image) inode.block.number) x
leaf_same image inode x leaf own read = read ∙ ap (λ (i : Blocks). leaf_of ((image_at i).at x)) own

pub next_claim : (image : Blocks) (inode : Inode) (x hash place : ℕ) (leaf : Leaf) (entries : List (Option Claim)) → inode.block.image ≡ image → leaf ≡ leaf_in (held inode) x
    → AreClaims (image_at image) entries → HasClaim entries x (Chained inode.block.number hash place) → leaf.next ≢ 0
    → Claims (image_at image) x leaf.next (Chained inode.block.number hash (place + 1))
next_claim image inode x hash place leaf entries own read claims has more =
    let im = image_at image in
    let a = inode.block.number in
    let from = claim_of im entries x (Chained a hash place) claims has in
    let is : leaf.next ≡ (leaf_in (every im a) x).next = ap (λ (l : Leaf). l.next) (leaf_same image inode x leaf own read) in
    subst (λ n. Claims im x n (Chained a hash (place + 1))) (sym is) (next_leaf from.0 x a hash place from.1 (λ e. more (is ∙ e)))

-- and it stands at its place
pub next_placed : (image : Blocks) (inode : Inode) (x y hash place : ℕ) (leaf : Leaf) (entries : List (Option Claim)) → inode.block.image ≡ image → leaf ≡ leaf_in (held inode) x
    → AreClaims (image_at image) entries → HasClaim entries x (Chained inode.block.number hash place) → leaf.next ≢ 0 → y ≡ leaf.next
    → IsPlaced (image_at image) y (Chained inode.block.number hash (place + 1))
next_placed image inode x y hash place leaf entries own read claims has more at =
    let im = image_at image in
    let a = inode.block.number in
    let placed : IsPlaced im x (Chained a hash place) = subst (IsPlaced im x) has.owner (claims x has.claim has.there).2 in
    let is : leaf.next ≡ (leaf_in (every im a) x).next = ap (λ (l : Leaf). l.next) (leaf_same image inode x leaf own read) in
    subst (λ n. IsPlaced im n (Chained a hash (place + 1))) (sym (at ∙ is)) (next_behind place x placed (λ e. more (is ∙ e)))

pub claim_at : (im : Image) (by x y : ℕ) (o : Owner) → y ≡ x → Claims im by x o → Claims im by y o
claim_at im by x y o same claimed = subst (λ n. Claims im by n o) (sym same) claimed

pub leaf_there : (image : Blocks) (inode : Inode) (by x y hash place : ℕ) → inode.block.image ≡ image → y ≡ x → Claims (image_at image) by x (Chained inode.block.number hash place)
    → HasLeaf (image_at inode.block.image) inode.block.number y
leaf_there image inode by x y hash place own at claimed =
    (by, hash, place, subst (λ (i : Blocks). Claims (image_at i) by y (Chained inode.block.number hash place)) (sym own) (claim_at (image_at image) by x y (Chained inode.block.number hash place) at claimed))

pub depth_differs : (image : Blocks) (inode : Inode) (x y hash place : ℕ) (leaf next : Leaf) (entries : List (Option Claim)) (fault : ImageFault) → inode.block.image ≡ image → leaf ≡ leaf_in (held inode) x
    → next ≡ leaf_in (held inode) y → y ≡ leaf.next → y < image.count → AreClaims (image_at image) entries → HasClaim entries x (Chained inode.block.number hash place) → leaf.next ≢ 0
    → fault ≡ Damaged leaf.next 14 → next.depth ≢ leaf.depth → IsTrueOf (image_at image) fault
depth_differs image inode x y hash place leaf next entries fault own read next_read at inside claims has more is other =
    let im = image_at image in
    let a = inode.block.number in
    let h = every im a in
    let from = claim_of im entries x (Chained a hash place) claims has in
    let leaf_is = leaf_same image inode x leaf own read in
    let goes : leaf.next ≡ (leaf_in h x).next = ap (λ (l : Leaf). l.next) leaf_is in
    let next_is : next ≡ leaf_in h (leaf_in h x).next = leaf_same image inode y next own next_read ∙ ap (leaf_in h) (at ∙ goes) in
    told_at image fault (leaf_in h x).next 14 (is ∙ ap (λ n. Damaged n 14) goes) (subst (λ n. n < image.count) (at ∙ goes) inside)
    (chain_depth a x (from.0, hash, place, from.1) (λ e. more (goes ∙ e)) (λ e. other (ap (λ (l : Leaf). l.depth) next_is ∙ e ∙ sym (ap (λ (l : Leaf). l.depth) leaf_is))))

pub next_is : (inode : Inode) (x y : ℕ) (leaf : Leaf) → leaf ≡ leaf_in (held inode) x → y ≡ leaf.next → (leaf_in (held inode) x).next ≡ y
next_is inode x y leaf read at = sym (ap (λ (l : Leaf). l.next) read) ∙ sym at

-- a chain has no more leaves than the image has blocks
pub place_small : (walk : Walk) (place left : ℕ) → place + left ≤ walk.owners.free → place + 1 < 2 ^ 64
place_small walk place left low =
    omega (arith, low, walk.owners.counted, count_by-le-length (λ (e : Option Claim). is_none e) walk.owners.entries.items, walk.one_entry_a_block, walk.image.few, walk.owners.entries.ok.0)

pub step_place : (o : Option LeafAt) (p f g most : ℕ) → IfSome o (λ (n : LeafAt). n.place ≡ p + 1) → IfSome o (λ (n : LeafAt). g + 1 ≤ f) → p + f ≤ most → IfSome o (λ (n : LeafAt). n.place + g ≤ most)
step_place None p f g most one two low = tt
step_place (Some n) p f g most one two low = omega (arith, one, two, low)

-- ---- a pointer of the table

pub entry_is : (inode : Inode) (table : HashTable) (j : ℕ) → IsTableOf inode table → u64_at (8 * j) table.bytes.items ≡ entry (held inode) j
entry_is inode table j of = ap (u64_at (8 * j)) of.content

pub low_index : (i d : ℕ) → d ≤ 15 → i < 2 ^ d → i < 2 ^ 16
low_index i d low below =
    let p : 2 ^ d ≤ 2 ^ 15 = pow_mono {i = d} {j = 15} low in
    omega (arith, p, below)

pub in_table : (inode : Inode) (table : HashTable) (i : ℕ) → IsTableOf inode table → i < 2 ^ table.depth → i < table_count (held inode)
in_table inode table i of below = subst (λ d. i < 2 ^ d) of.depth below

pub no_leaf_there : (image : Blocks) (inode : Inode) (table : HashTable) (i by number : ℕ) (fault : ImageFault) → inode.block.image ≡ image → IsHashedAt (image_at image) inode.block.number
    → IsTableOf inode table → i < 2 ^ table.depth → by ≡ entry_block (held inode) i → number ≡ u64_at (8 * i) table.bytes.items → number ≡ 0 → fault ≡ Damaged by 14
    → by < inode.block.image.count → IsTrueOf (image_at image) fault
no_leaf_there image inode table i by number fault own hashed of below by_is number_is none is inside =
    let P : Blocks → Type 0 = λ im. IsHashedAt (image_at im) inode.block.number → IsTrueOf (image_at im) fault in
    let here : P inode.block.image = λ has.
    told_at inode.block.image fault (entry_block (held inode) i) 14 (is ∙ ap (λ n. Damaged n 14) by_is) (subst (λ n. n < inode.block.image.count) by_is inside)
    (no_leaf inode.block.number i has (in_table inode table i of below) (sym (entry_is inode table i of) ∙ sym number_is ∙ none)) in
    subst P own here hashed

pub first_claim : (image : Blocks) (visit : Visit) (table : HashTable) (i by number : ℕ) → IsVisitIn image visit → IsHashedAt (image_at image) visit.inode.block.number
    → IsTableOf visit.inode table → i < 2 ^ table.depth → by ≡ entry_block (held visit.inode) i → number ≡ u64_at (8 * i) table.bytes.items → number ≢ 0
    → Claims (image_at image) by number (Chained visit.inode.block.number (first_hash (held visit.inode) i) 0)
first_claim image visit table i by number v hashed of below by_is number_is some =
    let inode = visit.inode in
    let a = inode.block.number in
    let P : Blocks → Type 0 = λ im. HasInode (image_at im) a → is_hashed_in (every (image_at im) a) ≡ true → Claims (image_at im) by number (Chained a (first_hash (held inode) i) 0) in
    let here : P inode.block.image = λ has is.
    let at : number ≡ entry (held inode) i = number_is ∙ entry_is inode table i of in
    let plain = first_leaf has.1.by a has.0 i has.1.claimed has.1.dinode is (in_table inode table i of below) (λ e. some (at ∙ e)) in
    subst (λ n. Claims (image_at inode.block.image) by n (Chained a (first_hash (held inode) i) 0)) (sym at)
    (subst (λ n. Claims (image_at inode.block.image) n (entry (held inode) i) (Chained a (first_hash (held inode) i) 0)) (sym by_is) plain) in
    subst P v.same here (v.owner, v.at) hashed.1

-- a run of pointers is aligned
start_at : (i run : ℕ) → 0 < run → i - i % run ≡ i / run * run
start_at i run some = let split : i / run * run + i % run ≡ i = div-add-mod' i run in omega (arith, split)

pub start_whole : (i run : ℕ) → 0 < run → (i - i % run) % run ≡ 0
start_whole i run some = ap (λ n. n % run) (start_at i run some) ∙ mul-mod_left (i / run) run

-- the run of pointers with this one has the same top bits
pub same_bits : (i j run : ℕ) → 0 < run → i - i % run ≤ j → j < i - i % run + run → j / run ≡ i / run
same_bits i j run some low high =
    let split : i / run * run + i % run ≡ i = div-add-mod' i run in
    let q = i / run in
    let below : j / run < suc q = (div-lt_iff_lt-mul some).1 (omega (arith, split, high)) in
    let above : q ≤ j / run = le-div q j run some (omega (arith, split, low)) in
    omega (arith, below, above)

pub missing : (image : Blocks) (inode : Inode) (table : HashTable) (i j number run : ℕ) (leaf : Leaf) (fault : ImageFault) → inode.block.image ≡ image → IsHashedAt (image_at image) inode.block.number
    → IsTableOf inode table → i < 2 ^ table.depth → j < 2 ^ table.depth → number ≡ u64_at (8 * i) table.bytes.items → number ≢ 0 → leaf ≡ leaf_in (held inode) number → run ≡ 2 ^ (table.depth - leaf.depth)
    → j / run ≡ i / run → u64_at (8 * j) table.bytes.items ≢ number → fault ≡ Damaged number 14 → number < inode.block.image.count → IsTrueOf (image_at image) fault
missing image inode table i j number run leaf fault own hashed of below j_below number_is some leaf_is run_is bits other is inside =
    let h = held inode in
    let at : number ≡ entry h i = number_is ∙ entry_is inode table i of in
    let depth : leaf.depth ≡ (leaf_in h (entry h i)).depth = ap (λ (l : Leaf). l.depth) (leaf_is ∙ ap (leaf_in h) at) in
    let run_here : run ≡ 2 ^ (depth_in h - (leaf_in h (entry h i)).depth) = run_is ∙ (λ k. 2 ^ (of.depth k - depth k)) in
    let same : index_bits h (leaf_in h (entry h i)).depth j ≡ index_bits h (leaf_in h (entry h i)).depth i = subst (λ r. j / r ≡ i / r) run_here bits in
    let P : Blocks → Type 0 = λ im. IsHashedAt (image_at im) inode.block.number → IsTrueOf (image_at im) fault in
    let here : P inode.block.image = λ has.
    told_at inode.block.image fault (entry h i) 14 (is ∙ ap (λ n. Damaged n 14) at) (subst (λ n. n < inode.block.image.count) at inside)
    (pointer_missing inode.block.number i j has (in_table inode table i of below) (λ e. some (at ∙ e)) (in_table inode table j of j_below) same (λ e. other (entry_is inode table j of ∙ e ∙ sym at))) in
    subst P own here hashed

-- the first hash of a pointer's chain, by the run of pointers that it is in
pub hash_by_run : (inode : Inode) (table : HashTable) (i number run : ℕ) (leaf : Leaf) → IsTableOf inode table → number ≡ entry (held inode) i → leaf ≡ leaf_in (held inode) number
    → run ≡ 2 ^ (table.depth - leaf.depth) → i / run * 2 ^ (32 - leaf.depth) ≡ first_hash (held inode) i
hash_by_run inode table i number run leaf of at leaf_is run_is =
    let h = held inode in
    let depth : leaf.depth ≡ (leaf_in h (entry h i)).depth = ap (λ (l : Leaf). l.depth) (leaf_is ∙ ap (leaf_in h) at) in
    λ k. i / (run_is ∙ (λ m. 2 ^ (of.depth m - depth m))) k * 2 ^ (32 - depth k)

pub headed_run : (walk : Walk) (visit : Visit) (table : HashTable) (i j number run hash : ℕ) (leaf : Leaf) → IsTableOf visit.inode table → number ≡ u64_at (8 * i) table.bytes.items
    → leaf ≡ leaf_in (held visit.inode) number → run ≡ 2 ^ (table.depth - leaf.depth) → hash ≡ i / run * 2 ^ (32 - leaf.depth) → j / run ≡ i / run
    → u64_at (8 * j) table.bytes.items ≡ number → HasClaim walk.owners.entries.items number (Chained visit.inode.block.number hash 0) → IsHeaded walk visit j
headed_run walk visit table i j number run hash leaf of number_is leaf_is run_is hash_is bits pointer has =
    let h = held visit.inode in
    let a = visit.inode.block.number in
    let at : number ≡ entry h j = sym pointer ∙ entry_is visit.inode table j of in
    let same : hash ≡ first_hash h j = hash_is ∙ ap (λ n. n * 2 ^ (32 - leaf.depth)) (sym bits) ∙ hash_by_run visit.inode table j number run leaf of at leaf_is run_is in
    subst (λ n. HasClaim walk.owners.entries.items n (Chained a (first_hash h j) 0)) at (subst (λ n. HasClaim walk.owners.entries.items number (Chained a n 0)) same has)

pub hash_claim : (image : Blocks) (inode : Inode) (table : HashTable) (i by number run hash : ℕ) (leaf : Leaf) → IsTableOf inode table → number ≡ u64_at (8 * i) table.bytes.items
    → leaf ≡ leaf_in (held inode) number → run ≡ 2 ^ (table.depth - leaf.depth) → hash ≡ i / run * 2 ^ (32 - leaf.depth)
    → Claims (image_at image) by number (Chained inode.block.number (first_hash (held inode) i) 0) → Claims (image_at image) by number (Chained inode.block.number hash 0)
hash_claim image inode table i by number run hash leaf of number_is leaf_is run_is hash_is claimed =
    let same : hash ≡ first_hash (held inode) i = hash_is ∙ hash_by_run inode table i number run leaf of (number_is ∙ entry_is inode table i of) leaf_is run_is in
    subst (λ n. Claims (image_at image) by number (Chained inode.block.number n 0)) (sym same) claimed

pub run_some : (run k : ℕ) → run ≡ 2 ^ k → 0 < run
run_some run k is = subst (λ n. 0 < n) (sym is) (pow_pos k)

-- the pointer for the first hash of a run is the run's first
pub run_start : (i d deep run hash : ℕ) → d ≤ deep → deep ≤ 15 → run ≡ 2 ^ (deep - d) → hash ≡ i / run * 2 ^ (32 - d) → hash / 2 ^ (32 - deep) ≡ i - i % run
run_start i d deep run hash low small run_is hash_is =
    let width : ℕ = 2 ^ (32 - deep) in
    let split : 32 - d ≡ deep - d + (32 - deep) = omega (arith, low, small) in
    let wide : 2 ^ (32 - d) ≡ run * width = ap (λ k. 2 ^ k) split ∙ pow-add 2 (deep - d) (32 - deep) ∙ ap (λ r. r * width) (sym run_is) in
    let is : hash ≡ i / run * run * width = hash_is ∙ ap (λ w. i / run * w) wide ∙ sym (mul_assoc (i / run) run width) in
    ap (λ n. n / width) is ∙ mul-div_cancel (i / run * run) (pow_pos (32 - deep)) ∙ sym (start_at i run (run_some run (deep - d) run_is))

-- so the leaf to which the run leads is the first of its chain
pub first_placed : (image : Blocks) (inode : Inode) (table : HashTable) (i number x run hash : ℕ) (leaf : Leaf) → inode.block.image ≡ image → IsTableOf inode table → leaf.depth ≤ table.depth → table.depth ≤ 15
    → run ≡ 2 ^ (table.depth - leaf.depth) → hash ≡ i / run * 2 ^ (32 - leaf.depth) → u64_at (8 * (i - i % run)) table.bytes.items ≡ number → x ≡ number
    → IsPlaced (image_at image) x (Chained inode.block.number hash 0)
first_placed image inode table i number x run hash leaf own of low small run_is hash_is leads at =
    let h = held inode in
    let a = inode.block.number in
    let start : hash / 2 ^ (32 - depth_in h) ≡ i - i % run = subst (λ d. hash / 2 ^ (32 - d) ≡ i - i % run) of.depth (run_start i leaf.depth table.depth run hash low small run_is hash_is) in
    let there : entry h (hash / 2 ^ (32 - depth_in h)) ≡ x = ap (entry h) start ∙ sym (entry_is inode table (i - i % run) of) ∙ leads ∙ sym at in
    let here : IsPlaced (image_at inode.block.image) x (Chained a hash 0) = subst (λ n. IsLeafBehind (image_at inode.block.image) a (entry h (hash / 2 ^ (32 - depth_in h))) 0 n) there same_leaf in
    subst (λ (b : Blocks). IsPlaced (image_at b) x (Chained a hash 0)) own here

-- the bits of a pointer are few
pub few_bits : (i run d : ℕ) → d ≤ 15 → i < 2 ^ d → i / run < 2 ^ 16
few_bits i run d low below = omega (arith, low_index i d low below, div-le_self i run)

-- the pointers before this one, and those of its run
pub headed_more : (old new : Walk) (visit : Visit) (i run : ℕ) → ClaimsOnly (IsOf visit.inode.block.number) old.owners.entries.items new.owners.entries.items
    → ((j : ℕ) → j < i → IsHeaded old visit j) → ((j : ℕ) → i ≤ j → j < i + run → IsHeaded new visit j) → (j : ℕ) → j < i + run → IsHeaded new visit j
headed_more old new visit i run on before these j low = elim (cases_lt j i) [
  | inl less ↦ claim_kept (IsOf visit.inode.block.number) old.owners.entries.items new.owners.entries.items _ _ on (before j less)
  | inr past ↦ these j past low
]

pub all_leaves : (walk : Walk) (visit : Visit) (image : Blocks) (d by x hash place : ℕ) → visit.inode.block.image ≡ image → d ≡ depth_in (held visit.inode)
    → AreChained (held visit.inode) walk.owners.entries.items None → ((j : ℕ) → j < 2 ^ d → IsHeaded walk visit j)
    → Claims (image_at image) by x (Chained visit.inode.block.number hash place) → HasClaim walk.owners.entries.items x (Chained visit.inode.block.number hash place)
all_leaves walk visit image d by x hash place own depth chained headed claimed =
    let a = visit.inode.block.number in
    let here : Claims (image_at visit.inode.block.image) by x (Chained a hash place) = subst (λ (i : Blocks). Claims (image_at i) by x (Chained a hash place)) (sym own) claimed in
    all_claimed (image_at visit.inode.block.image) a walk.owners.entries.items by x hash place here chained (λ j low. headed j (subst (λ n. j < 2 ^ n) (sym depth) low))
