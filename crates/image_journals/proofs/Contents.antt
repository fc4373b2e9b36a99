-- The content of a system file, and the list of groups.
use Rattle.std.proofs.Common.{◌≡◌, ℕ, List, ap, ◌∙◌, arith}
use Rattle.std.proofs.lemmas.List.{take_all}
use Rattle.gfs2_layout.specs.Inode.{content_of, dinode_in}
use Rattle.glock_names.specs.Views.{Seen}
use Rattle.dinode_tree.specs.Reading.{content_range}
use Rattle.image_model.specs.Groups.{groups_in}
use Rattle.image_model.specs.Image.{Image}
use Rattle.image_model.specs.Owners.{Owners, holding}
use Rattle.image_model.specs.Stands.{Layout}
use Rattle.image_model.proofs.Facts.{rindex_file}
use Rattle.image_model.proofs.Lengths.{length_content, size_large}
use Rattle.image_journals.specs.Shown.{IsIndex, ShowsFrame}
use Rattle.image_journals.proofs.Held as held

module _ (v : Seen) (r : Image) (o : Owners) (l : Layout) (s : ShowsFrame v r o l) where
  -- a file that was read up to its size is there whole
  pub whole : (d n : ℕ) (bytes : List ℕ) → IsIndex l d → n ≡ (dinode_in (holding r o d)).size → bytes ≡ content_range (holding r o d) 0 n → bytes ≡ content_of (holding r o d)
  whole d n bytes index size is =
      let long = length_content r o (size_large r.size s.laid.image.block_size) d (held.dinode v r o l s d (held.index_file r o l s.laid d index)) (held.index_sound v r o l s d index) in
      is ∙ take_all n (content_of (holding r o d)) (omega (arith, long, size))

  pub groups_are : (d : ℕ) (bytes : List ℕ) → d ≡ l.rindex → bytes ≡ content_of (holding r o d) → groups_in bytes ≡ l.groups
  groups_are d bytes at is =
      ap groups_in (is ∙ ap (λ a. content_of (holding r o a)) at ∙ (rindex_file r o l s.laid).1) ∙ s.laid.system.groups.2.listed
