-- How many records a linear directory has.
use Rattle.std.proofs.Common.{◌≡◌, ◌≢◌, ℕ, ◌-◌, List, length, drop, Some, refl, sym, ap, ◌∙◌, subst}
use Rattle.std.specs.Prelude.{take}
use Rattle.gfs2_layout.specs.Area.{IsArea}
use Rattle.gfs2_layout.specs.Holding.{Holding}
use Rattle.gfs2_layout.specs.Inode.{dinode_in, records_of, linear_area}
use Rattle.gfs2_layout.specs.Records.{records_in}
use Rattle.gfs2_layout.specs.Structures.{dinode_length}
use Rattle.glock_names.specs.Views.{Seen}
use Rattle.dinode_tree.specs.Shown.{IsShown}
use Rattle.linear_dirs.specs.Broken.{no_area, wrong_entries}
use Rattle.linear_dirs.proofs.Looked.{bytes_of, rest_is}
use Rattle.directories.specs.Shown.{IsLinearDirectory}
use Rattle.removing_calls.specs.Removing.{BreaksAsLinear, CountsItsRecords}

-- the records of a directory that isn't hashed
pub records_are : (h : Holding) → IsLinearDirectory h → records_of h ≡ records_in (linear_area h)
unfolding records_of
records_are h is = rw is.linear refl

module _ (v : Seen) (h : Holding) (dir : ℕ) (bytes : List ℕ) (shown : IsShown v dir h) (there : v.block_at dir ≡ Some bytes) (is : IsLinearDirectory h) where
  area_is : take (length bytes - dinode_length) (drop dinode_length bytes) ≡ linear_area h
  area_is = rest_is dinode_length bytes ∙ ap (drop dinode_length) (sym (bytes_of v h dir bytes shown there))

  pub area_broken : ¬ (IsArea (take (length bytes - dinode_length) (drop dinode_length bytes))) → BreaksAsLinear h 9 dir
  area_broken lacks = subst (BreaksAsLinear h 9) shown.own (is, no_area (λ has. lacks (subst IsArea (sym area_is) has)))

  counted : (n : ℕ) → n ≡ length (records_in (take (length bytes - dinode_length) (drop dinode_length bytes))) → n ≡ length (records_of h)
  counted n e = e ∙ ap (λ area. length (records_in area)) area_is ∙ ap length (sym (records_are h is))

  pub count_right : (n entries : ℕ) → n ≡ length (records_in (take (length bytes - dinode_length) (drop dinode_length bytes))) → entries ≡ (dinode_in h).entries → n ≡ entries → CountsItsRecords h
  count_right n entries e read same = sym read ∙ sym same ∙ counted n e

  pub count_wrong : (n entries : ℕ) → n ≡ length (records_in (take (length bytes - dinode_length) (drop dinode_length bytes))) → entries ≡ (dinode_in h).entries → n ≢ entries → BreaksAsLinear h 12 dir
  count_wrong n entries e read other = subst (BreaksAsLinear h 12) shown.own (is, wrong_entries (λ right. other (counted n e ∙ sym right ∙ sym read)))
