-- How a call is refused by what stands at the new name, and when that may go.
use Rattle.std.proofs.Common.{◌≡◌, ◌≢◌, ℕ, Bool, true, false, refl, sym, ap, ◌∙◌, subst}
use Rattle.file_tree.specs.declared.reply.Reply.{Reply}
use Rattle.file_tree.specs.declared.reply.Reply.TheVariants as reply
use Rattle.gfs2_layout.specs.Holding.{Holding}
use Rattle.gfs2_layout.specs.Inode.{dinode_in, is_hashed_in}
use Rattle.gfs2_layout.specs.Structures.{is_directory}
use Rattle.glock_names.specs.Views.{Seen}
use Rattle.dinode_tree.specs.Shown.{IsShown}
use Rattle.dinode_tree.proofs.Sound.{some_is_shown}
use Rattle.pair_walks.specs.walk.Place.{Place}
use Rattle.removing_calls.specs.Removing.{CountsItsRecords, IsDirectoryAim, IsFileAim}
use Rattle.removing_calls.specs.declared.aims.Aim.TheVariants as aim
use Rattle.move_ends.specs.Ends.{IsKindAt, MayGo, a_directory, a_file}
use Rattle.move_ends.specs.Over.{IsAimOver, by_directory, by_file}

-- so it is refused, by the kinds of both and the count of names
pub data RefusesOver (v : Seen) (from at : ℕ) (r : Reply) : Type 0 where
  is_directory_there : r ≡ reply.IsDir → IsKindAt v from false → IsKindAt v at true → RefusesOver v from at r
  is_file_there : r ≡ reply.NotDir → IsKindAt v from true → IsKindAt v at false → RefusesOver v from at r
  has_names : r ≡ reply.NotEmpty → IsKindAt v from true → IsKindAt v at true → ((h : Holding) → IsShown v at h → ((dinode_in h).entries ≢ 2) × (is_hashed_in h ≡ false → CountsItsRecords h)) → RefusesOver v from at r

file_aim : (h : Holding) (r : Reply) → IsFileAim h (aim.Refused r) → r ≡ reply.IsDir
file_aim h reply.IsDir is = refl
file_aim h reply.NotDir is = absurd is
file_aim h reply.NotEmpty is = absurd is
file_aim h (reply.Stat kind size) is = absurd is
file_aim h (reply.Bytes bytes) is = absurd is
file_aim h (reply.Names names) is = absurd is
file_aim h reply.NotFound is = absurd is
file_aim h reply.Exists is = absurd is
file_aim h reply.Inside is = absurd is
file_aim h reply.TooBig is = absurd is
file_aim h reply.NoSpace is = absurd is
file_aim h reply.Ok is = absurd is

pub data IsEither (r : Reply) : Type 0 where
  a_file_there : r ≡ reply.NotDir → IsEither r
  names_there : r ≡ reply.NotEmpty → IsEither r

directory_aim : (h : Holding) (r : Reply) → IsDirectoryAim h (aim.Refused r) → IsEither r
directory_aim h reply.NotDir is = a_file_there refl
directory_aim h reply.NotEmpty is = names_there refl
directory_aim h reply.IsDir is = absurd is
directory_aim h (reply.Stat kind size) is = absurd is
directory_aim h (reply.Bytes bytes) is = absurd is
directory_aim h (reply.Names names) is = absurd is
directory_aim h reply.NotFound is = absurd is
directory_aim h reply.Exists is = absurd is
directory_aim h reply.Inside is = absurd is
directory_aim h reply.TooBig is = absurd is
directory_aim h reply.NoSpace is = absurd is
directory_aim h reply.Ok is = absurd is

module _ (v : Seen) (from at : Place) (read : (h : Holding) → IsShown v from.inode h → from.dinode ≡ dinode_in h) where
  kind : (b : Bool) → is_directory from.dinode ≡ b → IsKindAt v from.inode b
  kind b is h shown = ap is_directory (sym (read h shown)) ∙ is

  pub refuses : (r : Reply) → IsAimOver v from at (aim.Refused r) → RefusesOver v from.inode at.inode r
  refuses r (by_file plain aims) =
      let s = some_is_shown v at.inode in
      let is = file_aim s.0 r (aims s.0 s.1.0) in
      is_directory_there is (kind false plain) (λ h shown. subst (λ x. IsFileAim h (aim.Refused x)) is (aims h shown))
  refuses r (by_directory directory aims) =
      let s = some_is_shown v at.inode in
      elim (directory_aim s.0 r (aims s.0 s.1.0)) [
        | a_file_there is ↦ is_file_there is (kind true directory) (λ h shown. subst (λ x. IsDirectoryAim h (aim.Refused x)) is (aims h shown))
        | names_there is ↦
            has_names is (kind true directory) (λ h shown. (subst (λ x. IsDirectoryAim h (aim.Refused x)) is (aims h shown)).0)
            (λ h shown. let so = subst (λ x. IsDirectoryAim h (aim.Refused x)) is (aims h shown) in (so.1, so.2))
      ]

  pub may_go : IsAimOver v from at aim.Taken → MayGo v from at
  may_go (by_file plain aims) = a_file (kind false plain) aims
  may_go (by_directory directory aims) = a_directory (kind true directory) (record { directory = λ h shown. (aims h shown).0; two = λ h shown. (aims h shown).1; counted = λ h shown. (aims h shown).2 })
