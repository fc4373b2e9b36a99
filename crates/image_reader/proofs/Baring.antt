-- Trees without their names, one after another.
use Rattle.std.proofs.Common.{◌≡◌, ℕ, zero, suc, ◌+◌, ◌<◌, ◌≤◌, true, false, List, [], ◌∷◌, ◌++◌, length, get_or, Option, None, Some, refl, sym, ap, ◌∙◌, subst, arith, inl, inr}
use Rattle.std.proofs.lemmas.Bool.{cases_eq, cond-true, cond-false}
use Rattle.std.proofs.lemmas.List.{length_push, get_or_push, get_or_append_left}
use Rattle.std.specs.Prelude.{slice_get}
use Rattle.std.specs.Option.{option_map}
use Rattle.file_tree.specs.Tree.{Tree, file, dir, none}
use Rattle.gfs2_layout.specs.Inode.{is_directory_in, content_of}
use Rattle.gfs2_layout.specs.Structures.{is_directory}
use Rattle.image_reader.specs.Assembled.{bare_of, tree_in, AreBare}
use Rattle.image_model.specs.Claims.{HasInode}
use Rattle.image_reader.specs.Found.{inode_at, IsTreeOf, IsEntryAt}
use Rattle.image_reader.specs.Reading.{held, image_at, IsDinodeBlock}
use Rattle.image_reader.specs.declared.blocks.Blocks.{Blocks}
use Rattle.image_reader.specs.declared.directory.Found.{Found}
use Rattle.image_reader.specs.declared.inode.Inode.{Inode}
use Rattle.image_reader.proofs.Pieces.{dinode_is}
use Rattle.image_reader.proofs.Listed.{get_at, got_low}

-- every entry's inode is one
pub entry_dinode : (image : Blocks) (top : Inode) (found : List Found) (i : ℕ) (f : Found) → IsTreeOf image top found → IsEntryAt found i f → IsDinodeBlock f.inode.block
entry_dinode image top found i f tree at =
    let is = tree.named i f at in
    subst (λ (b : Blocks). HasInode (image_at b) f.inode.block.number) (sym is.of_image) (_, record { by = f.by; claimed = is.claimed; dinode = refl })

-- the trees of the first places
pub record AreBareTo (top : Inode) (found : List Found) (i : ℕ) (trees : List Tree) : Type 0 where
  pub count : length trees ≡ 1 + i
  pub each : (p : ℕ) (inode : Inode) → p ≤ i → inode_at top found p ≡ Some inode → tree_in trees p ≡ bare_of (held inode)

some_same : {X : Type 0} (x y : X) → Some x ≡ Some y → x ≡ y
some_same x y e = cc

pub bare_top : (top : Inode) (found : List Found) (trees : List Tree) (t : Tree) → t ≡ bare_of (held top) → trees ≡ t ∷ [] → AreBareTo top found 0 trees
bare_top top found trees t bare is = record {
  count = ap length is ∙ omega arith;
  each = λ p inode low at. each p inode low at;
}
  where
    each : (p : ℕ) (inode : Inode) → p ≤ 0 → inode_at top found p ≡ Some inode → tree_in trees p ≡ bare_of (held inode)
    each zero inode low at = ap (λ ts. tree_in ts 0) is ∙ bare ∙ ap (λ n. bare_of (held n)) (some_same top inode at)
    each (suc p) inode low at = absurd (omega arith)

inode_of : (found : List Found) (i : ℕ) (f : Found) (inode : Inode) → slice_get found i ≡ Some f → option_map (λ (g : Found). g.inode) (slice_get found i) ≡ Some inode → f.inode ≡ inode
inode_of found i f inode at is = some_same f.inode inode (ap (option_map (λ (g : Found). g.inode)) (sym at) ∙ is)

pub bare_more : (top : Inode) (found : List Found) (i : ℕ) (f : Found) (trees more : List Tree) (t : Tree) → AreBareTo top found i trees → i < length found → f ≡ get_or found i f
    → t ≡ bare_of (held f.inode) → more ≡ trees ++ t ∷ [] → AreBareTo top found (i + 1) more
bare_more top found i f trees more t are low read bare is = record {
  count = ap length is ∙ length_push trees t ∙ omega (arith, are.count);
  each = λ p inode below at. elim (cases_eq p (i + 1)) [
    | inl last ↦
        let next : p ≡ suc i = omega (arith, last) in
        let same : f.inode ≡ inode = inode_of found i f inode (get_at found i f low read) (ap (inode_at top found) (sym next) ∙ at) in
        ap (λ ts. tree_in ts p) is ∙ get_or_push trees t (dir none) p (omega (arith, last, are.count)) ∙ bare ∙ ap (λ n. bare_of (held n)) same
    | inr other ↦
        let before : p < length trees = omega (arith, other, below, are.count) in
        ap (λ ts. tree_in ts p) is ∙ get_or_append_left trees (t ∷ []) (dir none) p before ∙ are.each p inode (omega (arith, other, below)) at
  ];
}

pub bare_all : (top : Inode) (found : List Found) (i : ℕ) (trees : List Tree) → AreBareTo top found i trees → length found ≤ i → i ≤ length found → AreBare top found trees
bare_all top found i trees are past within = record {
  count = omega (arith, are.count);
  each = λ p inode at. are.each p inode (omega (arith, place_low p inode at)) at;
}
  where
    place_low : (p : ℕ) (inode : Inode) → inode_at top found p ≡ Some inode → p ≤ length found
    place_low zero inode at = omega arith
    place_low (suc p) inode at = elim_some (slice_get found p) refl at
      where
        elim_some : (o : Option Found) → slice_get found p ≡ o → option_map (λ (g : Found). g.inode) o ≡ Some inode → suc p ≤ length found
        elim_some None is e = cc
        elim_some (Some f) is e = omega (arith, got_low found p f is)

-- ---- one tree

is_directory_of : (inode : Inode) → is_directory inode.dinode ≡ is_directory_in (held inode)
is_directory_of inode = ap is_directory (dinode_is inode)

pub bare_dir : (inode : Inode) (t : Tree) → is_directory inode.dinode ≡ true → t ≡ dir none → t ≡ bare_of (held inode)
bare_dir inode t is made = made ∙ sym (cond-true _ (dir none) (file (content_of (held inode))) (sym (is_directory_of inode) ∙ is))

pub bare_file : (inode : Inode) (t : Tree) (bytes : List ℕ) → is_directory inode.dinode ≡ false → bytes ≡ content_of (held inode) → t ≡ file bytes → t ≡ bare_of (held inode)
bare_file inode t bytes is read made = made ∙ ap file read ∙ sym (cond-false _ (dir none) (file (content_of (held inode))) (sym (is_directory_of inode) ∙ is))
