-- Blocks that a search wants, in which the image has what it looks for.
use Rattle.std.proofs.Common.{◌≡◌, ◌<◌, ℕ, suc, true, List, None, Some, inl, inr, sym, ap, subst, ◌∙◌, arith}
use Rattle.dinode_tree.specs.Reading.{IsNeeded, IsOnWay, the_dinode, led_to}
use Rattle.gfs2_layout.specs.Inode.{Leads, content_count}
use Rattle.glock_names.specs.declared.steps.Missing.{Missing}
use Rattle.image_model.specs.Claims.{every, Claims, below}
use Rattle.image_model.specs.Image.{Image}
use Rattle.image_model.specs.Owners.{Owner, Below, Chained, is_dinode}
use Rattle.image_model.specs.SystemFiles.{IsSystemBlock, IsSystemFile, is_jindex, is_master, is_rindex, of_content, of_dinode, of_leaf}
use Rattle.image_mount.specs.Found.{HasFormat, IsReached}
use Rattle.image_mount.specs.Searching.{StopsRightly, IsLeading, IsWanted, IsRead, IsListingFile}
use Rattle.image_mount.specs.Kept.{Kept, seen_of}
use Rattle.image_mount.specs.declared.stop.Stop.{Stop}
use Rattle.image_mount.specs.declared.stop.Stop.TheVariants as stop
use Rattle.image_mount.proofs.Shown.{needed_inside}
use Rattle.image_mount.proofs.Steps.{seen_in}

-- ---- owners by which a block is read

-- a dinode's block is no content
pub dinode_leads : (im : Image) (o : Owner) → is_dinode o ≡ true → IsLeading im o
dinode_leads im o dinode d b k first e = let no : is_dinode (Below d b k 0 first) ≡ true = ap is_dinode (sym e) ∙ dinode in cc

-- nor is a block that stands above content
pub above_leads : (im : Image) (a b k level first : ℕ) → IsLeading im (Below a b k (suc level) first)
above_leads im a b k level first d c j other e = absurd (apart a b k level first d c j other e)
  where
    apart : (a b k level first d c j other : ℕ) → Below a b k (suc level) first ≡ Below d c j 0 other → ⊥
    apart a b k level first d c j other e = cc

-- such a file is a system file
pub listing_file : (im : Image) (d : ℕ) → IsListingFile im d → IsSystemFile im d
listing_file im d (inl list) = is_rindex list
listing_file im d (inr (inl master)) = is_master master
listing_file im d (inr (inr jindex)) = is_jindex jindex

-- each block of a system file that is read block by block
pub list_leads : (im : Image) (a b k level first : ℕ) → IsListingFile im a → IsLeading im (Below a b k level first)
list_leads im a b k level first list d c j other e = subst (IsListingFile im) (same a b k level first d c j other e) list
  where
    same : (a b k level first d c j other : ℕ) → Below a b k level first ≡ Below d c j 0 other → a ≡ d
    same a b k level first d c j other e = cc

-- ---- blocks that are wanted

-- the block of an inode that is claimed is wanted by its number there
pub wanted : (im : Image) (block from : ℕ) (o : Owner) (s : Stop) → s ≡ stop.Reads block from → Claims im from block o → is_dinode o ≡ true → HasFormat im → IsReached im from → IsSystemFile im block → StopsRightly im s
wanted im block from o s is claimed dinode format inside file = subst (StopsRightly im) (sym is) (inr (format, (o, claimed, dinode_leads im o dinode, inside, of_dinode file)))

-- a leaf is no content
pub leaf_leads : (im : Image) (a hash place : ℕ) → IsLeading im (Chained a hash place)
leaf_leads im a hash place d b k first e = absurd (apart a hash place d b k first e)
  where
    apart : (a hash place d b k first : ℕ) → Chained a hash place ≡ Below d b k 0 first → ⊥
    apart a hash place d b k first e = cc

-- a leaf is wanted by its number in its directory
pub leaf_wanted : (im : Image) (by x a hash place : ℕ) → Claims im by x (Chained a hash place) → HasFormat im → IsReached im by → IsListingFile im a → IsWanted im x by
leaf_wanted im by x a hash place claimed format inside list = inr (format, (Chained a hash place, claimed, leaf_leads im a hash place, inside, of_leaf a by hash place (listing_file im a list) claimed))

-- a block of content of a system file is wanted by its number in the block that leads to it
pub content_wanted : (im : Image) (by a from k index block : ℕ) (o : Owner) (s : Stop) → s ≡ stop.Reads block from → Claims im by a o → is_dinode o ≡ true → HasFormat im → IsListingFile im a
    → Leads (every im a) from k 0 index block → IsReached im from → index < content_count (every im a) → StopsRightly im s
content_wanted im by a from k index block o s is claimed dinode format list leads inside within =
    subst (StopsRightly im) (sym is) (inr (format, (Below a from k 0 index, below by a o from k 0 index block claimed dinode leads, list_leads im a from k 0 index list, inside, of_content a from k 0 index (listing_file im a list) leads within)))

-- a block that is missing below the dinode of a system file, which is kept
pub wanted_below : (im : Image) (k : Kept) (by a : ℕ) (o : Owner) (bytes : List ℕ) (P Q : ℕ → Type 0) (least : ℕ) (m : Missing) (s : Stop) → s ≡ stop.Reads m.block m.from → Claims im by a o → is_dinode o ≡ true
    → HasFormat im → IsListingFile im a → (seen_of k).block_at a ≡ Some bytes → IsNeeded (seen_of k) (every im a) P least m → IsNeeded (seen_of k) (seen_in (seen_of k) a) Q least m → IsRead im k → ((i : ℕ) → P i → i < content_count (every im a)) → StopsRightly im s
wanted_below im k by a o bytes P Q least m s is claimed dinode format list kept needed seen read low_of = subst (StopsRightly im) (sym is) (inr (format, on_way needed.way))
  where
    inside : IsReached im m.from
    inside = needed_inside im k a Q least m read seen (λ same. absurd (let none : Some bytes ≡ None = sym kept ∙ ap (seen_of k).block_at (sym same) ∙ needed.absent in cc))

    on_way : IsOnWay (every im a) P least m → (p : Owner) × Claims im m.from m.block p × IsLeading im p × IsReached im m.from × IsSystemBlock im m.block
    on_way (the_dinode same from plain) = let none : Some bytes ≡ None = sym kept ∙ ap (seen_of k).block_at (sym same) ∙ needed.absent in cc
    on_way (led_to i j level first wants low leads before within plain) =
        let end : i < content_count (every im a) = low_of i wants in (
          Below a m.from j level first,
          below by a o m.from j level first m.block claimed dinode leads,
          list_leads im a m.from j level first list,
          inside,
          of_content a m.from j level first (listing_file im a list) leads (omega (arith, before, end)),
        )
