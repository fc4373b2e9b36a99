-- A new inode that was put in a draft.
use Rattle.std.proofs.Common.{◌≡◌, ◌≢◌, ℕ, ◌-◌, ◌<◌, ◌≤◌, true, false, inl, inr, List, [], ◌∷◌, length, take, drop, Result, Ok, Err, OnOk, refl, ap, ◌∙◌, subst, arith}
use Rattle.std.specs.Prelude.{codes}
use Rattle.gfs2_layout.specs.Area.{slots_of}
use Rattle.gfs2_layout.specs.Holding.{Holding, alone}
use Rattle.gfs2_layout.specs.Inode.{Head, dinode_in, content_of}
use Rattle.gfs2_layout.specs.Laws.{StructuresReadBack}
use Rattle.gfs2_layout.specs.Records.{IsRecordArea, records_in}
use Rattle.gfs2_layout.specs.Structures.{dinode_read, dinode_length, is_directory}
use Rattle.gfs2_layout.specs.declared.dinode.Dinode.{Dinode}
use Rattle.glock_names.specs.declared.steps.Entry.{Entry}
use Rattle.glock_names.specs.Views.{Seen}
use Rattle.glock_names.specs.declared.LockName.{LockName}
use Rattle.std.specs.FinMap.{insert}
use Rattle.drafts.specs.Fates.{Drafted}
use Rattle.drafts.specs.declared.fate.Fate.TheVariants.{Put}
use Rattle.dinode_tree.specs.Reading.{inode_lock}
use Rattle.linear_dirs.specs.Shown.{dots_in, record_for}
use Rattle.new_inodes.specs.New.{IsInodePut, new_file, new_directory, cleared_with, own_entry, IsNewFile, IsNewDirectory}
use Rattle.new_inodes.proofs.Alone.{IsWhole, bytes_are, dinode_is, linear_is, records_are, is_sound}

pub ok_so : {A E P Q : Type 0} (result : Result A E) → (P → Q) → OnOk result P → OnOk result Q
ok_so (Ok x) so holds = so holds
ok_so (Err e) so holds = holds

abbrev head_from : Dinode → Head
head_from d = record { number = d.num.number; is_dir = is_directory d }

nothing : (n : ℕ) (bytes : List ℕ) → n ≡ 0 → take n bytes ≡ []
nothing n bytes none = ap (λ k. take k bytes) none

module _ (size number block time : ℕ) (bytes : List ℕ) (some : number ≢ 0) (large : dinode_length ≤ size) (long : length bytes ≡ size) (read : dinode_read bytes ≡ Ok (new_file number block time))
    (are : bytes ≡ cleared_with size (new_file number block time)) where
  file_whole : IsWhole size block bytes (new_file number block time)
  file_whole = record {
    long = long;
    read = read;
    address = refl;
    number = some;
    mode = inr refl;
    links = λ file. refl;
    height = refl;
    blocks = refl;
    fits = large;
    unhashed = refl;
    filled = λ directory. absurd (no directory);
  }
    where
      no : false ≡ true → ⊥
      no e = cc

  pub file_is : (count : ℕ) → block < count → IsNewFile number block time (alone size count block bytes)
  unfolding content_of
  file_is count low = record {
    sound = is_sound size count block bytes (new_file number block time) low file_whole;
    dinode = dinode_is size count block bytes (new_file number block time) low file_whole;
    head = ap head_from (dinode_is size count block bytes (new_file number block time) low file_whole);
    content = nothing (dinode_in (alone size count block bytes)).size _ (ap (λ (d : Dinode). d.size) (dinode_is size count block bytes (new_file number block time) low file_whole));
    bytes = bytes_are size count block bytes (new_file number block time) low file_whole ∙ are;
  }

module _ (given : StructuresReadBack) (size number block : ℕ) (parent : Entry) (time : ℕ) (clear bytes : List ℕ) (some : number ≢ 0) (least : 512 ≤ size) (long : length bytes ≡ size) (clear_long : length clear ≡ size)
    (are : clear ≡ cleared_with size (new_directory size number block time)) (read : dinode_read clear ≡ Ok (new_directory size number block time))
    (front : take dinode_length bytes ≡ take dinode_length clear) (area : IsRecordArea (drop dinode_length bytes)) where
  directory_whole : IsWhole size block bytes (new_directory size number block time)
  directory_whole = record {
    long = long;
    read = given.dinode.own bytes clear (omega (arith, long, least)) (omega (arith, clear_long, least)) front ∙ read;
    address = refl;
    number = some;
    mode = inl refl;
    links = λ file. absurd (no file);
    height = refl;
    blocks = refl;
    fits = omega (arith, least);
    unhashed = refl;
    filled = λ directory. (omega (arith, least), area);
  }
    where
      no : true ≡ false → ⊥
      no e = cc

  pub directory_is : slots_of (drop dinode_length bytes) ≡ dots_in (size - dinode_length) (own_entry number block) parent
      → records_in (drop dinode_length bytes) ≡ record_for (codes ".") (own_entry number block) ∷ record_for (codes "..") parent ∷ []
      → (count : ℕ) → block < count → IsNewDirectory number block parent time (alone size count block bytes)
  directory_is slots records count low =
      let d : Dinode = new_directory size number block time in
      record {
        sound = is_sound size count block bytes d low directory_whole;
        dinode = dinode_is size count block bytes d low directory_whole;
        head = ap head_from (dinode_is size count block bytes d low directory_whole);
        linear = linear_is size count block bytes d low directory_whole;
        records = records_are size count block bytes d low directory_whole ∙ records;
        front = ap (take dinode_length) (bytes_are size count block bytes d low directory_whole) ∙ front ∙ ap (take dinode_length) are;
        slots = ap (λ (b : List ℕ). slots_of (drop dinode_length b)) (bytes_are size count block bytes d low directory_whole) ∙ slots;
      }

-- ---- in a draft

-- a block was put under an inode's lock
abbrev PutWhole : {V : Type 0} → (old new : Drafted V) (block : ℕ) (lock : LockName) (bytes : List ℕ) → Type 0
PutWhole old new block lock bytes = new ≡ record old { fates = insert old.fates block (Put lock false bytes) }

module _ {V : Type 0} (seen : V → Seen) (old new : Drafted V) (block : ℕ) (lock : LockName) (bytes items : List ℕ) (size : ℕ) (size_is : size ≡ (seen old.view).size) (lock_is : lock ≡ inode_lock block)
    (same : bytes ≡ items) (long : length items ≡ size) where
  inode_put : (Is : Holding → Type 0) → ((count : ℕ) → block < count → Is (alone size count block items)) → PutWhole old new block lock bytes
      → (x : List ℕ) × IsInodePut seen old new block Is x
  inode_put Is is put = (
    items,
    record {
      put = put ∙ (λ t. record old { fates = insert old.fates block (Put (lock_is t) false (same t)) });
      whole = long ∙ size_is;
      is = λ count low. subst (λ n. Is (alone n count block items)) size_is (is count low);
    },
  )

  pub file_put : (number time : ℕ) (d : Dinode) → number ≢ 0 → dinode_length ≤ size → d ≡ new_file number block time → items ≡ cleared_with size d → dinode_read items ≡ Ok d
      → PutWhole old new block lock bytes → (x : List ℕ) × IsInodePut seen old new block (IsNewFile number block time) x
  file_put number time d some large d_is are read = inode_put (IsNewFile number block time)
      (file_is size number block time items some large long (read ∙ ap (λ (x : Dinode). Ok x) d_is) (are ∙ ap (cleared_with size) d_is))

  pub directory_put : (given : StructuresReadBack) (number : ℕ) (parent : Entry) (time : ℕ) (d : Dinode) (clear : List ℕ) → number ≢ 0 → 512 ≤ size
      → d ≡ new_directory size number block time → clear ≡ cleared_with size d → dinode_read clear ≡ Ok d → length clear ≡ size → take dinode_length items ≡ take dinode_length clear
      → slots_of (drop dinode_length items) ≡ dots_in (length clear - dinode_length) (own_entry number block) parent
      → records_in (drop dinode_length items) ≡ record_for (codes ".") (own_entry number block) ∷ record_for (codes "..") parent ∷ [] → IsRecordArea (drop dinode_length items)
      → PutWhole old new block lock bytes → (x : List ℕ) × IsInodePut seen old new block (IsNewDirectory number block parent time) x
  directory_put given number parent time d clear some least d_is are read clear_long front slots records area = inode_put (IsNewDirectory number block parent time)
      (directory_is given size number block parent time clear items some least long clear_long (are ∙ ap (cleared_with size) d_is) (read ∙ ap (λ (x : Dinode). Ok x) d_is) front area
      (slots ∙ ap (λ n. dots_in (n - dinode_length) (own_entry number block) parent) clear_long) records)
