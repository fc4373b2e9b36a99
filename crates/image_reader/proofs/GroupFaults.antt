-- What a group breaks, as the code finds it.
use Rattle.std.proofs.Common.{◌≡◌, ◌≢◌, ℕ, zero, suc, ◌+◌, ◌-◌, ◌*◌, ◌<◌, ◌≤◌, inl, inr, List, [], ◌∷◌, ◌++◌, drop, Option, None, Some, Ok, refl, sym, ap, subst, ◌∙◌, arith}
use Rattle.std.proofs.lemmas.Bool.{cases_eq}
use Rattle.std.proofs.Math.Nat.{suc-mul}
use Rattle.std.proofs.lemmas.List.{append_assoc, append-nil}
use Rattle.std.proofs.lemmas.List.Concat.{flat_map-append}
use Rattle.std.proofs.lemmas.List.FromFn.{get_or-map-range_with_len, map-range_with_len_more}
use Rattle.std.specs.Prelude.{flat_map, map, slice_get, slice_index_or}
use Rattle.std.specs.List.{range_with_len}
use Rattle.gfs2_layout.specs.Bitmap.{state_at}
use Rattle.gfs2_layout.specs.Headers.{HasHeader}
use Rattle.gfs2_layout.specs.Structures.{group_of, group_read, header_fault, answer}
use Rattle.gfs2_layout.specs.declared.fault.LayoutFault.{LayoutFault}
use Rattle.gfs2_layout.specs.declared.group_header.GroupHeader.{GroupHeader}
use Rattle.gfs2_layout.specs.declared.rindex.Rindex.{Rindex}
use Rattle.image_reader.specs.Bitmaps.{header_of, Repeats, bits_in, state_by, AreAllClaims}
use Rattle.gfs2_layout.specs.Groups.{bitmap_of, count_of}
use Rattle.image_model.specs.Groups.{GroupFits, IsDataOf, group_blocks}
use Rattle.image_model.specs.Image.{Image}
use Rattle.image_model.specs.Owners.{Owner}
use Rattle.image_reader.specs.Owning.{owner_of}
use Rattle.image_reader.specs.Reading.{image_at, states_of, IsTrueOf}
use Rattle.image_model.specs.Rules.{Breaks, HasSoundGroup, bits_of, states_at, HasWrongBits, of_owner, stray, no_header, of_group, of_bitmap, other_data0, other_data_blocks, other_bitbytes, wrong_bits, free_count, dinode_count}
use Rattle.image_reader.specs.declared.blocks.Block.{Block}
use Rattle.image_reader.specs.declared.blocks.Blocks.{Blocks}
use Rattle.image_reader.specs.declared.image.ImageFault.{ImageFault}
use Rattle.image_reader.specs.declared.image.ImageFault.TheVariants.{Damaged}
use Rattle.image_reader.specs.declared.owners.Claim.{Claim}
use Rattle.image_reader.proofs.InodeFaults.{told, told_at}
use Rattle.image_reader.proofs.Inside.{block_inside}

-- ---- headers

-- the header of a group that fits is on the device
header_inside : (im : Image) (g : Rindex) → GroupFits im g → g.address < im.count
header_inside im g fits = omega (arith, fits.some, fits.first, fits.inside)

pub lacks_group_header : (image : Blocks) (block : Block) (g : Rindex) (fault : ImageFault) → fault ≡ Damaged g.address 1 → GroupFits (image_at image) g → HasSoundGroup (image_at image) g → block.number ≡ g.address
    → block.image ≡ image → ¬ (HasHeader 2 200 ((image_at block.image).at block.number)) → IsTrueOf (image_at image) fault
lacks_group_header image block g fault is fits has number same lacks =
    let lacks' : ¬ (HasHeader 2 200 ((image_at image).at g.address))
    = subst (λ n. ¬ (HasHeader 2 200 ((image_at image).at n))) number (subst (λ (b : Blocks). ¬ (HasHeader 2 200 ((image_at b).at block.number))) same lacks) in
    told_at image fault g.address 1 is (subst (λ n. n < image.count) number (block_inside block image same)) (no_header g.address 2 200 (of_group g has) lacks')

pub lacks_bitmap_header : (image : Blocks) (block : Block) (g : Rindex) (k number : ℕ) (fault : ImageFault) → fault ≡ Damaged number 1 → GroupFits (image_at image) g → HasSoundGroup (image_at image) g → 0 < k → k < g.length
    → number ≡ g.address + k → block.number ≡ number → block.image ≡ image → ¬ (HasHeader 3 300 ((image_at block.image).at block.number)) → IsTrueOf (image_at image) fault
lacks_bitmap_header image block g k number fault is fits has some within at here same lacks =
    let lacks' : ¬ (HasHeader 3 300 ((image_at image).at (g.address + k)))
    = subst (λ n. ¬ (HasHeader 3 300 ((image_at image).at n))) (here ∙ at) (subst (λ (b : Blocks). ¬ (HasHeader 3 300 ((image_at b).at block.number))) same lacks) in
    told_at image fault number 1 is (subst (λ n. n < image.count) here (block_inside block image same)) (subst (Breaks (image_at image) 1) (sym at) (no_header (g.address + k) 3 300 (of_bitmap g k has some within) lacks'))

group_is : (bytes : List ℕ) (h : GroupHeader) → Ok h ≡ group_read bytes → h ≡ group_of bytes
group_is bytes h e = each (header_fault 128 2 200 bytes) e
  where
    each : (o : Option LayoutFault) → Ok h ≡ answer o (group_of bytes) → h ≡ group_of bytes
    each None e = cc
    each (Some f) e = cc

pub header_read : (image : Blocks) (block : Block) (g : Rindex) (h : GroupHeader) (bytes : List ℕ) → GroupFits (image_at image) g → block.number ≡ g.address → block.image ≡ image
    → bytes ≡ (image_at block.image).at block.number → Ok h ≡ group_read bytes → h ≡ header_of (image_at image) g
header_read image block g h bytes fits number same read is =
    let first : slice_index_or (group_blocks (image_at image).at g) 0 [] ≡ (image_at image).at g.address
    = get_or-map-range_with_len (image_at image).at g.address g.length 0 g.address [] (omega (arith, fits.some)) (omega arith) in
    let block_is : bytes ≡ (image_at image).at g.address = read ∙ ap (λ (b : Blocks). (image_at b).at block.number) same ∙ ap (image_at image).at number in
    group_is bytes h is ∙ ap group_of (block_is ∙ sym first)

pub other_header : (im : Image) (g : Rindex) (h : GroupHeader) (fault : ImageFault) → fault ≡ Damaged g.address 4 → GroupFits im g → HasSoundGroup im g → h ≡ header_of im g → ¬ (Repeats h g) → IsTrueOf im fault
other_header im g h fault is fits has read other = told im fault g.address 4 is (header_inside im g fits) (subst (λ (k : GroupHeader). ¬ (Repeats k g) → Breaks im 4 g.address) (sym read) each other)
  where
    each : ¬ (Repeats (header_of im g) g) → Breaks im 4 g.address
    each other = elim (cases_eq (header_of im g).data0 g.data0) [
      | inr d ↦ other_data0 g has d
      | inl a ↦ elim (cases_eq (header_of im g).data_blocks g.data_blocks) [
        | inr d ↦ other_data_blocks g has d
        | inl b ↦ elim (cases_eq (header_of im g).bitbytes g.bitbytes) [
          | inr d ↦ other_bitbytes g has d
          | inl c ↦ absurd (other (a, b, c))
        ]
      ]
    ]

-- ---- bits

further : (at : ℕ → List ℕ) (a n : ℕ) → flat_map (λ (bytes : List ℕ). drop 24 bytes) (map at (range_with_len a (n + 1)))
    ≡ flat_map (λ (bytes : List ℕ). drop 24 bytes) (map at (range_with_len a n)) ++ drop 24 (at (a + n))
further at a n =
    let f : List ℕ → List ℕ = λ (bytes : List ℕ). drop 24 bytes in
    ap (flat_map f) (map-range_with_len_more at a n (a + n) refl) ∙ flat_map-append f (map at (range_with_len a n)) (at (a + n) ∷ [])
    ∙ ap (λ l. flat_map f (map at (range_with_len a n)) ++ l) (append-nil (drop 24 (at (a + n))))

-- the bits in one more block
bits_next : (im : Image) (g : Rindex) (n : ℕ) → bits_in im g (suc (n + 1)) ≡ bits_in im g (suc n) ++ drop 24 (im.at (g.address + 1 + n))
bits_next im g n =
    ap (λ l. drop 128 (im.at g.address) ++ l) (further im.at (g.address + 1) n)
    ∙ sym (append_assoc (drop 128 (im.at g.address)) (flat_map (λ (bytes : List ℕ). drop 24 bytes) (map im.at (range_with_len (g.address + 1) n))) (drop 24 (im.at (g.address + 1 + n))))

pub bits_more : (im : Image) (g : Rindex) (k : ℕ) (bits more : List ℕ) → 1 ≤ k → bits ≡ bits_in im g k → more ≡ bits ++ drop 24 (im.at (g.address + k)) → more ≡ bits_in im g (k + 1)
bits_more im g zero bits more some is put = absurd (omega arith)
bits_more im g (suc n) bits more some is put =
    let place : g.address + suc n ≡ g.address + 1 + n = omega arith in
    let count : suc (n + 1) ≡ suc n + 1 = omega arith in
    put ∙ ap (λ l. l ++ drop 24 (im.at (g.address + suc n))) is ∙ ap (λ a. bits_in im g (suc n) ++ drop 24 (im.at a)) place ∙ sym (bits_next im g n) ∙ ap (bits_in im g) count

pub bits_first : (image : Blocks) (block : Block) (g : Rindex) (bytes bits : List ℕ) → block.number ≡ g.address → block.image ≡ image → bytes ≡ (image_at block.image).at block.number
    → bits ≡ drop 128 bytes → bits ≡ bits_in (image_at image) g 1
bits_first image block g bytes bits number same read cut =
    let block_is : bytes ≡ (image_at image).at g.address = read ∙ ap (λ (b : Blocks). (image_at b).at block.number) same ∙ ap (image_at image).at number in
    cut ∙ ap (drop 128) block_is ∙ sym (append-nil (drop 128 ((image_at image).at g.address)))

-- ---- states

some_same : {X : Type 0} (x y : X) → Some x ≡ Some y → x ≡ y
some_same x y e = cc

wrong : (im : Image) (g : Rindex) (b : ℕ) (entries : List (Option Claim)) (entry : Option Claim) → AreAllClaims im entries → slice_get entries b ≡ Some entry
    → bits_of im g b ≢ state_by entry → HasWrongBits im g b
wrong im g b entries None all there other = stray (λ by o claim. nothing o (all.all by b o claim)) other
  where
    nothing : (o : Owner) → (claim : Claim) × (slice_get entries b ≡ Some (Some claim)) × (owner_of claim ≡ o) → ⊥
    nothing o has = let same : None ≡ Some has.0 = some_same None (Some has.0) (sym there ∙ has.1) in cc
wrong im g b entries (Some claim) all there other =
    let from = all.sound b claim there in
    of_owner from.0 (owner_of claim) from.1 other

pub wrong_state : (im : Image) (g : Rindex) (n : ℕ) (entries : List (Option Claim)) (entry : Option Claim) (bits : List ℕ) (fault : ImageFault) (at state told_state : ℕ)
    → fault ≡ Damaged at 5 → at ≡ g.data0 + n → GroupFits im g → HasSoundGroup im g → n < g.data_blocks → AreAllClaims im entries → slice_get entries (g.data0 + n) ≡ Some entry
    → bits ≡ bits_in im g g.length → state ≡ state_at bits n → told_state ≡ state_by entry → state ≢ told_state → IsTrueOf im fault
wrong_state im g n entries entry bits fault at state told_state is at_is fits has within all there bits_is state_is by_is other =
    let b = g.data0 + n in
    let place : b - g.data0 ≡ n = omega arith in
    let says : bits_of im g b ≡ state = ap (state_at (bitmap_of (group_blocks im.at g))) place ∙ ap (λ l. state_at l n) (sym bits_is) ∙ sym state_is in
    let of_data : IsDataOf g b = record { low = omega arith; high = omega (arith, within) } in
    told im fault at 5 is (omega (arith, at_is, within, fits.inside)) (subst (Breaks im 5) (sym at_is) (wrong_bits g b has of_data (wrong im g b entries entry all there (λ e. other (sym says ∙ e ∙ sym by_is)))))

-- ---- counts

states_are : (im : Image) (g : Rindex) (bits : List ℕ) → bits ≡ bits_in im g g.length → states_of bits g.data_blocks ≡ states_at im g
states_are im g bits is = ap (λ l. map (state_at l) (range_with_len 0 g.data_blocks)) is

pub wrong_free : (im : Image) (g : Rindex) (h : GroupHeader) (bits : List ℕ) (fault : ImageFault) (count : ℕ) → fault ≡ Damaged g.address 6 → GroupFits im g → HasSoundGroup im g → h ≡ header_of im g
    → bits ≡ bits_in im g g.length → count ≡ count_of 0 (states_of bits g.data_blocks) → h.free ≢ count → IsTrueOf im fault
wrong_free im g h bits fault count is fits has read bits_is counted other =
    told im fault g.address 6 is (header_inside im g fits) (free_count g has (λ e. other (ap (λ (k : GroupHeader). k.free) read ∙ e ∙ ap (count_of 0) (sym (states_are im g bits bits_is)) ∙ sym counted)))

pub wrong_dinodes : (im : Image) (g : Rindex) (h : GroupHeader) (bits : List ℕ) (fault : ImageFault) (count : ℕ) → fault ≡ Damaged g.address 6 → GroupFits im g → HasSoundGroup im g → h ≡ header_of im g
    → bits ≡ bits_in im g g.length → count ≡ count_of 3 (states_of bits g.data_blocks) → h.dinodes ≢ count → IsTrueOf im fault
wrong_dinodes im g h bits fault count is fits has read bits_is counted other =
    told im fault g.address 6 is (header_inside im g fits) (dinode_count g has (λ e. other (ap (λ (k : GroupHeader). k.dinodes) read ∙ e ∙ ap (count_of 3) (sym (states_are im g bits bits_is)) ∙ sym counted)))

pub bits_length : (before after first k each : ℕ) → 1 ≤ k → before ≡ first + (k - 1) * each → after ≡ before + each → after ≡ first + (k + 1 - 1) * each
bits_length before after first zero each some is more = absurd (omega arith)
bits_length before after first (suc n) each some is more =
    let less : suc n - 1 ≡ n = omega arith in
    let same : suc n + 1 - 1 ≡ suc n = omega arith in
    let grown : (suc n + 1 - 1) * each ≡ n * each + each = ap (λ m. m * each) same ∙ suc-mul n each in
    let old : (suc n - 1) * each ≡ n * each = ap (λ m. m * each) less in
    omega (arith, is, more, grown, old)
