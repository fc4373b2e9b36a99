-- What carries the content of an inode, as the code reads it.
use Rattle.std.proofs.Common.{◌≡◌, ◌≢◌, ℕ, zero, suc, ◌+◌, ◌-◌, ◌*◌, ◌≤◌, ◌++◌, List, [], ◌∷◌, length, take, drop, sym, ap, ap₂, ◌∙◌, min, arith}
use Rattle.std.proofs.lemmas.Bool.{cond-true, cond-false, eq-eqb, ne_eqb}
use Rattle.std.proofs.lemmas.List.{append-nil, take_all, length-drop, length-take}
use Rattle.std.proofs.lemmas.List.Concat.{flat_map-append}
use Rattle.std.proofs.Math.Nat.{suc-mul}
use Rattle.std.specs.Prelude.{flat_map}
use Rattle.std.specs.List.{range_with_len}
use Rattle.gfs2_layout.specs.declared.dinode.Dinode.{Dinode}
use Rattle.gfs2_layout.specs.Structures.{dinode_length}
use Rattle.gfs2_layout.specs.Holding.{Holding, bytes_at}
use Rattle.gfs2_layout.specs.Inode.{dinode_in, height_in, carried, content_block, content_count, content_of, Fits}
use Rattle.image_reader.specs.Carrying.{carrier_of, pieces_before}
use Rattle.image_reader.specs.Reading.{held}
use Rattle.image_reader.specs.declared.inode.Inode.{Inode}
use Rattle.image_reader.proofs.Pieces.{dinode_is}

-- what carries the content, cut at the size, is the content
pub content_is : (inode : Inode) (bytes cut : List ℕ) → bytes ≡ carrier_of (held inode) → cut ≡ take inode.dinode.size bytes → cut ≡ content_of (held inode)
unfolding content_of
content_is inode bytes cut is took = took ∙ ap₂ take (ap (λ (d : Dinode). d.size) (dinode_is inode)) is

height_is : (inode : Inode) → inode.dinode.height ≡ height_in (held inode)
height_is inode = ap (λ (d : Dinode). d.height) (dinode_is inode)

pub carrier_stuffed : (inode : Inode) (bytes : List ℕ) → inode.dinode.height ≡ 0 → bytes ≡ drop dinode_length (bytes_at (held inode) inode.block.number) → bytes ≡ carrier_of (held inode)
carrier_stuffed inode bytes none is = is ∙ sym (cond-true _ _ _ (eq-eqb (height_in (held inode)) 0 (sym (height_is inode) ∙ none)))

pub carrier_pointed : (inode : Inode) (bytes : List ℕ) → inode.dinode.height ≢ 0 → bytes ≡ pieces_before (held inode) (content_count (held inode)) → bytes ≡ carrier_of (held inode)
carrier_pointed inode bytes some is = is ∙ sym (cond-false _ _ _ (ne_eqb (height_in (held inode)) 0 (λ e. some (height_is inode ∙ e))))

last : (a n j : ℕ) → a + n ≡ j → range_with_len a (suc n) ≡ range_with_len a n ++ j ∷ []
last a zero j e = let same : a ≡ j = omega arith in ap (λ k. k ∷ []) same
last a (suc n) j e = ap (λ l. a ∷ l) (last (a + 1) n j (omega arith))

range_more : (n : ℕ) → range_with_len 0 (n + 1) ≡ range_with_len 0 n ++ n ∷ []
range_more n = let on : n + 1 ≡ suc n = omega arith in ap (range_with_len 0) on ∙ last 0 n n (omega arith)

-- one more piece
pub piece_more : (h : Holding) (n : ℕ) (bytes more : List ℕ) → bytes ≡ pieces_before h n → more ≡ bytes ++ carried h (content_block h n) → more ≡ pieces_before h (n + 1)
piece_more h n bytes more is put =
    let piece : ℕ → List ℕ = λ i. carried h (content_block h i) in
    let longer : pieces_before h (n + 1) ≡ pieces_before h n ++ piece n
    = ap (flat_map piece) (range_more n) ∙ flat_map-append piece (range_with_len 0 n) (n ∷ []) ∙ ap (λ l. pieces_before h n ++ l) (append-nil (piece n)) in
    put ∙ ap (λ l. l ++ piece n) is ∙ sym longer

-- what was copied from behind the dinode
pub copied : (inode : Inode) (block bytes : List ℕ) → inode.dinode.height ≡ 0 → block ≡ bytes_at (held inode) inode.block.number
    → bytes ≡ take (length block - 232) (drop 232 block) → bytes ≡ carrier_of (held inode)
copied inode block bytes none is took =
    let long : length (drop 232 block) ≡ length block - 232 = length-drop 232 block in
    let all : take (length block - 232) (drop 232 block) ≡ drop 232 block = ap (λ n. take n (drop 232 block)) (sym long) ∙ take_all (length (drop 232 block)) (drop 232 block) (omega arith) in
    carrier_stuffed inode bytes none (took ∙ all ∙ ap (drop 232) is)

pub copied_enough : (inode : Inode) (block bytes : List ℕ) → Fits (held inode) → inode.dinode.height ≡ 0 → length block ≡ inode.block.image.size
    → bytes ≡ take (length block - 232) (drop 232 block) → inode.dinode.size ≤ length bytes
copied_enough inode block bytes fits none whole took =
    let low : 232 + (dinode_in (held inode)).size ≤ inode.block.image.size = fits.stuffed (sym (height_is inode) ∙ none) in
    let size : inode.dinode.size ≡ (dinode_in (held inode)).size = ap (λ (d : Dinode). d.size) (dinode_is inode) in
    let long : length (drop 232 block) ≡ length block - 232 = length-drop 232 block in
    let cut : length (take (length block - 232) (drop 232 block)) ≡ min (length block - 232) (length (drop 232 block)) = length-take (length block - 232) (drop 232 block) in
    omega (arith, ap length took, cut, long, whole, low, size)

pub length_more : (before after n unit : ℕ) → before ≡ n * unit → after ≡ before + unit → after ≡ (n + 1) * unit
length_more before after n unit is more =
    let on : suc n ≡ n + 1 = omega arith in
    more ∙ ap (λ k. k + unit) is ∙ sym (suc-mul n unit) ∙ ap (λ k. k * unit) on
