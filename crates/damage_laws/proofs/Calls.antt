-- Damage that each call meets, but one that moves a name.
use Rattle.std.proofs.Common.{ℕ, inl, inr, List, []}
use Rattle.std.specs.Prelude.{false}
use Rattle.call_locks.specs.declared.want.Want.{Want}
use Rattle.file_tree.specs.declared.call.Call.{Call}
use Rattle.call_locks.specs.Wants.{wanted}
use Rattle.call_locks.specs.WantLaws.{path_of}
use Rattle.file_tree.specs.Names.{parent_of}
use Rattle.file_calls.specs.FileDrafting.{IsWrongAt, in_group, in_inode, stray}
use Rattle.glock_names.specs.Views.{Seen}
use Rattle.image_model.specs.Claims.{every, below}
use Rattle.image_model.specs.Flat.{Path}
use Rattle.image_model.specs.Image.{Image, IsImage}
use Rattle.file_calls.specs.Walks.{LeadsTo}
use Rattle.file_calls.specs.Making as making
use Rattle.file_calls.specs.Walks as path
use Rattle.file_calls.specs.Removing as removing
use Rattle.file_calls.specs.Writing as writing
use Rattle.damage_laws.specs.Telling.{IsReadFrom, HasWholeGroups, IsTold, itself, astray, IsToldOf, on_path, WritesTell, WritesTellExactly, RemovalsTell, RemovalsTellExactly, MakingsTell, MakingsTellExactly}
use Rattle.damage_laws.proofs.Claimed.{shown, led_there}
use Rattle.damage_laws.proofs.Owned.{from_parent, record_told, shared_told}
use Rattle.damage_laws.proofs.Inodes.{free_on_way_told, group_shown, group_told, inode_told, inside_told, longer, name_told, own_told, root_told, some_told, stray_told, told_or}
use Rattle.damage_laws.proofs.Paths.{broken_inode, paths_tell}

-- ---- a file whose content changes

module _ (v : Seen) (im : Image) (read : IsReadFrom v im) (whole : HasWholeGroups v im) where
  -- a file whose content changes, and the groups of blocks that it takes or gives back
  file_told : (wants : List Want) (names : Path) (a : ℕ) (blocks : List ℕ) → LeadsTo v wants names a → (rule b : ℕ) → IsWrongAt v a blocks rule b → IsTold v im wants names rule b
  file_told wants names a blocks leads rule b (in_inode r x broken) = elim (led_there v im read whole.image wants names a leads) [
    | inr ahead ↦ astray r x ahead
    | inl has ↦ itself r x (broken_inode im a has r x (broken (every im a) (shown v im read whole.image a)))
  ]
  file_told wants names a blocks leads rule b (stray from x led out) = told_or v im wants names 2 from (stray_told v im read whole.image wants names a from x leads (led (every im a) (shown v im read whole.image a)) out)
  file_told wants names a blocks leads rule b (in_group r x breaks) = itself r x (group_told v im read whole breaks.0 breaks.1 r x breaks.3)

-- ---- the calls

pub path_told : (v : Seen) (im : Image) (call : Call) (rule b : ℕ) → IsReadFrom v im → IsImage im → path.IsDamage v (wanted call) (path_of call false) rule b → IsToldOf v im call rule b
path_told v im call rule b read is_image broken = own_told v im call rule b (paths_tell v im (wanted call) (path_of call false) rule b read is_image broken)

pub writes_tell : WritesTell
writes_tell v im call rule b read whole (writing.on_path r x broken) = path_told v im call r x read whole.image broken
writes_tell v im call rule b read whole (writing.no_data_block a leads out) = root_told v im read call (wanted call) (path_of call false) a whole.image leads out
writes_tell v im call rule b read whole (writing.in_file a r x changes wrong) = own_told v im call r x (file_told v im read whole (wanted call) (path_of call false) a [] changes.at.leads r x wrong)
writes_tell v im call rule b read whole (writing.of_taken node a at new need room r x changes puts needs is_room wrong) =
    own_told v im call r x (file_told v im read whole (wanted call) (path_of call false) a room changes.at.leads r x wrong)
writes_tell v im call rule b read whole (writing.of_freed a size time freed fates r x changes cuts draft held wrong) =
    own_told v im call r x (file_told v im read whole (wanted call) (path_of call false) a freed changes.at.leads r x wrong)
writes_tell v im call rule b read whole (writing.in_group a at new need r x changes puts needs broken) = own_told v im call r x (itself r x (group_told v im read whole broken.group broken.has r x broken.broken))

pub writes_tell_exactly : WritesTellExactly
writes_tell_exactly v im call rule b read whole inside told = inside_told v im call inside rule b (writes_tell v im call rule b read whole told)

pub removals_tell : RemovalsTell
removals_tell v im call rule b read whole (removing.on_path r x broken) = path_told v im call r x read whole.image broken
removals_tell v im call rule b read whole (removing.stray a from x taken led out) =
    own_told v im call 2 from (told_or v im (wanted call) (path_of call false) 2 from (stray_told v im read whole.image (wanted call) (path_of call false) a from x taken.leads (led (every im a) (shown v im read whole.image a)) out))
removals_tell v im call rule b read whole (removing.above a leads out) = root_told v im read call (wanted call) (parent_of (path_of call false)) a whole.image leads out
removals_tell v im call rule b read whole (removing.shared a dir taken leads goes) =
    own_told v im call 3 dir (told_or v im (wanted call) (path_of call false) 3 dir (shared_told v im read whole.image (wanted call) (path_of call false) a dir taken.below taken.leads leads goes))
removals_tell v im call rule b read whole (removing.shared_leaf a dir x name apart taken leads last held goes) =
    own_told v im call 3 x (told_or v im (wanted call) (path_of call false) 3 x (record_told v im read whole.image (wanted call) (path_of call false) a dir x name apart taken.below taken.leads leads held goes))
removals_tell v im call rule b read whole (removing.in_group a r x blocks taken all held breaks) = own_told v im call r x (itself r x (some_told v im read whole blocks r x breaks))

pub removals_tell_exactly : RemovalsTellExactly
removals_tell_exactly v im call rule b read whole inside told = inside_told v im call inside rule b (removals_tell v im call rule b read whole told)

module _ (v : Seen) (im : Image) (call : Call) (read : IsReadFrom v im) (whole : HasWholeGroups v im) where
  -- what is told on the directory's path is told on the call's
  on_directory_path : (rule b : ℕ) → IsTold v im (wanted call) (making.directory_path call) rule b → IsToldOf v im call rule b
  on_directory_path rule b told =
      let f = from_parent (path_of call false) in
      own_told v im call rule b (longer v im read whole.image (wanted call) (making.directory_path call) f.0 (path_of call false) f.1 rule b told)

  makings_told : (rule b : ℕ) → making.IsDamage v call rule b → IsToldOf v im call rule b
  makings_told rule b (making.on_path r x broken) = on_directory_path r x (paths_tell v im (wanted call) (making.directory_path call) r x read whole.image broken)
  makings_told rule b (making.in_directory a r x leads wrong) = on_directory_path r x (inode_told v im read whole (wanted call) (making.directory_path call) a leads r x wrong)
  makings_told rule b (making.for_name r x gets wrong) = on_directory_path r x (name_told v im read whole (wanted call) (making.directory_path call) gets.directory gets.leads gets.lacks.directory r x wrong)
  makings_told rule b (making.in_group r x gets broken) = own_told v im call r x (itself r x (group_told v im read whole broken.group broken.has r x broken.broken))
  makings_told rule b (making.called_free x gets on free) =
      on_directory_path 5 x (free_on_way_told v im read whole (wanted call) (making.directory_path call) gets.directory gets.leads gets.lacks.directory (making.name_in call) x on (free.group, free.has, free.data_block, free.free im.at (group_shown v im read whole)))
  makings_told rule b (making.no_data_block a leads out) = root_told v im read call (wanted call) (making.directory_path call) a whole.image leads out

pub makings_tell : MakingsTell
makings_tell v im call rule b read whole told = makings_told v im call read whole rule b told

pub makings_tell_exactly : MakingsTellExactly
makings_tell_exactly v im call rule b read whole inside told = inside_told v im call inside rule b (makings_told v im call read whole rule b told)
