-- In an image that stands, the tree that was found is the tree that it stands for.
use Rattle.std.proofs.Common.{◌≡◌, ℕ, zero, suc, true, List, [], ◌∷◌, Option, None, Some, refl, sym, ap, subst, ◌∙◌}
use Rattle.std.proofs.lemmas.Bool.{cond-true}
use Rattle.std.specs.Prelude.{slice_get, if◌then◌else◌}
use Rattle.std.specs.Option.{option_and_then, option_map}
use Rattle.file_tree.specs.Tree.{Tree}
use Rattle.gfs2_layout.specs.Inode.{is_directory_in, content_of}
use Rattle.image_reader.specs.Assembled.{thing_found, flat_found}
use Rattle.image_model.specs.Claims.{every, Claims, LeadsTo}
use Rattle.image_model.specs.Flat.{Path, AFile, ADir, Node, no_node, Flat, follow, thing_from, ReadsAs}
use Rattle.image_reader.specs.Found.{inode_at, IsTreeOf}
use Rattle.image_model.specs.Image.{superblock_in}
use Rattle.image_model.specs.Nodes.{thing_of, node_of}
use Rattle.image_model.specs.Owners.{Owners, Named, is_dinode, holding}
use Rattle.image_reader.specs.Reading.{held, image_at}
use Rattle.image_model.specs.Stands.{Layout, IsLaid, flat_of, Stands}
use Rattle.image_reader.specs.declared.blocks.Blocks.{Blocks}
use Rattle.image_reader.specs.declared.directory.Found.{Found}
use Rattle.image_reader.specs.declared.inode.Inode.{Inode}
use Rattle.image_model.proofs.Facts.{leads_row, leads_child_of, child_leads}
use Rattle.image_reader.proofs.Growing.{IsChildAt, child_place, place_child}
use Rattle.image_model.proofs.Held.{none_some, some_same}
use Rattle.image_model.proofs.Rows.{directory_is}
use Rattle.image_model.proofs.Same.{content_same}
use Rattle.image_model.proofs.Trees.{same_trees}

module _ (image : Blocks) (owners : Owners) (l : Layout) (laid : IsLaid (image_at image) owners l) (top : Inode) (found : List Found) (is : IsTreeOf image top found) where
  abbrev places : Flat
  places = flat_found top found

  abbrev blocks : Flat
  blocks = flat_of (image_at image) owners

  -- the inode is of the image
  of_image : (p : ℕ) (inode : Inode) → inode_at top found p ≡ Some inode → inode.block.image ≡ image
  of_image zero inode e = ap (λ (n : Inode). n.block.image) (sym (some_same e)) ∙ is.of_image
  of_image (suc p) inode e = each (slice_get found p) refl e
    where
      each : (o : Option Found) → slice_get found p ≡ o → option_map (λ (g : Found). g.inode) o ≡ Some inode → inode.block.image ≡ image
      each None got e = absurd (none_some e)
      each (Some g) got e = ap (λ (n : Inode). n.block.image) (sym (some_same e)) ∙ (is.named p g got).of_image

  -- it says the same from every block as from its own
  thing_same : (a : ℕ) → is_dinode (owners a) ≡ true → thing_of (every (image_at image) a) ≡ (blocks a).thing
  thing_same a dinode =
      let im = image_at image in
      let directory : is_directory_in (every im a) ≡ is_directory_in (holding im owners a) = sym (directory_is im owners l laid a dinode) in
      let content : content_of (every im a) ≡ content_of (holding im owners a) = sym (content_same im owners a dinode (laid.inodes a dinode)) in
      (λ i. if directory i then ADir else AFile (content i)) ∙ ap (λ (n : Node). n.thing) (sym (cond-true _ (node_of (holding im owners a)) no_node dinode))

  -- a place and a block are of the same inode
  record AreOf (q b : ℕ) : Type 0 where
    inode : Inode
    at : inode_at top found q ≡ Some inode
    block : inode.block.number ≡ b
    dinode : is_dinode (owners b) ≡ true

  abbrev Match : Option ℕ → Option ℕ → Type 0
  Match None None = Unit {0}
  Match (Some q) (Some b) = AreOf q b
  Match _ _ = ⊥

  -- an entry leads where the name leads
  entry_leads : (p : ℕ) (inode : Inode) (name : List ℕ) (i : ℕ) → inode_at top found p ≡ Some inode → (at : IsChildAt found p name i)
      → LeadsTo (image_at image) inode.block.number name at.entry.inode.block.number
  entry_leads p inode name i here at =
      let f = at.entry in
      let named = is.named i f at.there in
      let above : named.above ≡ inode = some_same (sym named.up ∙ ap (inode_at top found) at.up ∙ here) in
      let parent : f.parent ≡ inode.block.number = named.parent ∙ ap (λ (n : Inode). n.block.number) above in
      (f.by, subst (λ a. Claims (image_at image) f.by f.inode.block.number (Named a name)) parent (subst (λ n. Claims (image_at image) f.by f.inode.block.number (Named f.parent n)) at.named named.claimed))

  module _ (p : ℕ) (inode : Inode) (here : inode_at top found p ≡ Some inode) (name : List ℕ) where
    both : (c d : Option ℕ) → (places p).child name ≡ c → (blocks inode.block.number).child name ≡ d → Match c d
    both None None c_is d_is = tt
    both None (Some b) c_is d_is =
        let leads = child_leads (image_at image) owners l laid inode.block.number name b d_is in
        let entry = is.all p inode leads.0 b name here leads.1 in
        let at : IsChildAt found p name entry.index = record { entry = entry.entry; there = entry.there; up = entry.up; named = entry.named } in
        absurd (none_some (sym c_is ∙ place_child image top found is p name entry.index at))
    both (Some q) d c_is d_is =
        let there = child_place image top found is p name q c_is in
        let f = there.2.entry in
        let leads = entry_leads p inode name there.0 here there.2 in
        let to : d ≡ Some f.inode.block.number = sym d_is ∙ leads_child_of (image_at image) owners l laid inode.block.number name f.inode.block.number leads in
        let row = leads_row (image_at image) owners l laid inode.block.number name f.inode.block.number leads in
        let place : inode_at top found q ≡ Some f.inode = ap (inode_at top found) there.1 ∙ ap (option_map (λ (g : Found). g.inode)) there.2.there in
        subst (Match (Some q)) (sym to) (record { inode = f.inode; at = place; block = refl; dinode = ap is_dinode row })

  under : (path : Path) (c d : Option ℕ) → Match c d → ((q : ℕ) (n : Inode) → inode_at top found q ≡ Some n → is_dinode (owners n.block.number) ≡ true → thing_from places q path ≡ thing_from blocks n.block.number path)
      → option_and_then (λ q. Some (places q).thing) (option_and_then (λ q. follow places q path) c) ≡ option_and_then (λ b. Some (blocks b).thing) (option_and_then (λ b. follow blocks b path) d)
  under path None None match more = refl
  under path None (Some b) match more = absurd match
  under path (Some q) None match more = absurd match
  under path (Some q) (Some b) match more =
      more q match.inode match.at (ap (λ a. is_dinode (owners a)) match.block ∙ match.dinode) ∙ ap (λ a. thing_from blocks a path) match.block

  -- every path leads to the same
  same_things : (path : Path) (p : ℕ) (inode : Inode) → inode_at top found p ≡ Some inode → is_dinode (owners inode.block.number) ≡ true
      → thing_from places p path ≡ thing_from blocks inode.block.number path
  same_things [] p inode here dinode =
      let all : held inode ≡ every (image_at image) inode.block.number = ap (λ (b : Blocks). every (image_at b) inode.block.number) (of_image p inode here) in
      ap Some (ap thing_found here ∙ ap thing_of all ∙ thing_same inode.block.number dinode)
  same_things (n ∷ path) p inode here dinode =
      under path ((places p).child n) ((blocks inode.block.number).child n) (both p inode here n ((places p).child n) ((blocks inode.block.number).child n) refl refl) (same_things path)

  pub found_is : (t u : Tree) → top.block.number ≡ l.root → ReadsAs places 0 t → ReadsAs blocks l.root u → t ≡ u
  found_is t u root mine its =
      let dinode : is_dinode (owners top.block.number) ≡ true = ap (λ a. is_dinode (owners a)) root ∙ ap is_dinode laid.root.0 in
      same_trees t u mine.tree its.tree (λ path. sym (mine.same path) ∙ same_things path 0 top refl dinode ∙ ap (λ a. thing_from blocks a path) root ∙ its.same path)

-- the tree that reads from what was found below the root is the tree that the image stands for
pub found_stands : (image : Blocks) (top : Inode) (found : List Found) (t u : Tree) → IsTreeOf image top found → top.block.number ≡ (superblock_in (image_at image)).root.address
    → ReadsAs (flat_found top found) 0 t → Stands (image_at image) u → t ≡ u
found_stands image top found t u is root reads stands =
    found_is image stands.owners stands.layout stands.laid top found is t u (root ∙ stands.laid.super.root) reads stands.reads
