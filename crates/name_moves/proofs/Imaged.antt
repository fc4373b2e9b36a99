-- In an image that the view may be of: the directories and the inode of a move are apart, and the one that gets the name can do so.
use Rattle.std.proofs.Common.{◌≡◌, ◌≢◌, ◌⊎◌, inl, inr, ℕ, ◌^◌, ◌<◌, ◌≤◌, Bool, true, false, List, [], ◌∷◌, ◌++◌, length, Option, None, Some, refl, sym, ap, ◌∙◌, subst, arith, cond}
use Rattle.std.proofs.lemmas.List.Sums.{sum_by-cons}
use Rattle.std.proofs.lemmas.List.Sorted.{Contains-permutation, IsPermutation-sym, sum_by-IsPermutation}
use Rattle.std.specs.Prelude.{Contains, IsSome, count_by, is_some, option_map}
use Rattle.std.specs.Str.{bytes_eq}
use Rattle.file_tree.specs.Tree.{Tree}
use Rattle.gfs2_layout.specs.Holding.{Cell, Holding}
use Rattle.gfs2_layout.specs.Inode.{dinode_in, records_of}
use Rattle.gfs2_layout.specs.Structures.{is_directory}
use Rattle.gfs2_layout.specs.Records.{Record, record_named}
use Rattle.glock_names.specs.Views.{Seen, IsView}
use Rattle.growth_drafts.specs.Taken.{AreFreeFor}
use Rattle.hash_dirs.specs.Shown.{IsSound}
use Rattle.hash_dirs.proofs.Named.{find_none, find_some}
use Rattle.directories.proofs.Counted.{differ}
use Rattle.directories.proofs.Forms.{is_directory_here}
use Rattle.image_model.specs.Flat.{Path}
use Rattle.image_model.specs.Image.{Image}
use Rattle.image_model.specs.Owners.{Owners, holding}
use Rattle.image_model.specs.Stands.{Layout}
use Rattle.image_model.proofs.Held.{none_some, some_same}
use Rattle.image_model.proofs.Members.{IsIn, contained, is_in}
use Rattle.image_model.proofs.Rows.{and_left}
use Rattle.image_changes.specs.Does.{IsOf}
use Rattle.image_changes.specs.Flats.{in_directory}
use Rattle.image_changes.specs.Instances.{IsAt, is_directory_at}
use Rattle.image_changes.proofs.Frame.{dinode_its}
use Rattle.draft_changes.proofs.Rows.{cell_its, its_cell}
use Rattle.draft_changes.proofs.Saying.{free_blocks_are_new}
use Rattle.name_drafts.proofs.Images.{is_inode, is_shown, shown_inode, sound_directory}
use Rattle.name_drafts.specs.HashInserting.{CanCountOne}
use Rattle.name_drafts.specs.Inserting.{CanGetName}
use Rattle.name_drafts.proofs.InImage.{no_group_block}
use Rattle.name_moves.specs.Becoming.{HasItsBlocks, LosesAll, LosesName, losses, of_none, of_one}
use Rattle.name_moves.specs.Moving.{AreApart, CanBeMoved, IsClearOf, IsMoveIn, Move, ShareNone, StandsThere, an_inode, blocks_or_none, freed_by, is_reparented, is_within, lost_there, nothing}
use Rattle.name_moves.proofs.Few.{few_blocks, few_counts}
use Rattle.name_moves.proofs.Loses.{all_directory, all_kept, all_sound, kept_cells}

-- ---- the name that went is no more there

count_has : (test : Record → Bool) (xs : List Record) (x : Record) → IsIn x xs → test x ≡ true → 1 ≤ count_by test xs
count_has test [] x at so = elim at [ ]
count_has test (y ∷ ys) x (inl e) so =
    let here : ◌≡◌ {A = ℕ} (cond (test y) 1 0) 1 = ap (λ b. cond b 1 0) (ap test (sym e) ∙ so) in
    omega (arith, sum_by-cons (λ r. cond (test r) 1 0) y ys, here)
count_has test (y ∷ ys) x (inr at) so = omega (arith, sum_by-cons (λ r. cond (test r) 1 0) y ys, count_has test ys x at so)

no_mapped : {X Y : Type 0} (f : X → Y) (x : Option X) → option_map f x ≡ None → x ≡ None
no_mapped f None e = refl
no_mapped f (Some x) e = absurd (none_some (sym e))

abbrev named_test : List ℕ → Record → Bool
named_test name r = bytes_eq name r.name

-- where it was once, it is nowhere
pub gone_once : (h g : Holding) (name : List ℕ) → LosesName h g name → IsSound h → record_named (records_of g) name ≡ None
gone_once h g name lost sound = by (record_named (records_of g) name) refl
  where
    by : (o : Option Record) → record_named (records_of g) name ≡ o → o ≡ None
    by None e = refl
    by (Some r) e =
        let test = named_test name in
        let rest = lost.exchanged.records.rest in
        let here = find_some test (records_of g) r e in
        let went = find_some test (records_of h) lost.gone lost.named in
        let in_g = count_has test (records_of g) r here.0 here.1 in
        let g_rest = sum_by-IsPermutation (λ x. cond (test x) 1 0) (records_of g) ([] ++ rest) lost.exchanged.records.after in
        let h_all = sum_by-IsPermutation (λ x. cond (test x) 1 0) (records_of h) ((lost.gone ∷ []) ++ rest) lost.exchanged.records.before in
        let first : ◌≡◌ {A = ℕ} (cond (test lost.gone) 1 0) 1 = ap (λ b. cond b 1 0) went.1 in
        absurd (omega (arith, in_g, g_rest, h_all, first, sum_by-cons (λ x. cond (test x) 1 0) lost.gone rest, sound.once name))

-- and a name that isn't there doesn't come
pub absent_lost : (h g : Holding) (other name : List ℕ) → LosesName h g other → record_named (records_of h) name ≡ None → record_named (records_of g) name ≡ None
absent_lost h g other name lost none = by (record_named (records_of g) name) refl
  where
    by : (o : Option Record) → record_named (records_of g) name ≡ o → o ≡ None
    by None e = refl
    by (Some r) e =
        let test = named_test name in
        let rest = lost.exchanged.records.rest in
        let here = find_some test (records_of g) r e in
        let in_rest : Contains ([] ++ rest) r = Contains-permutation (records_of g) ([] ++ rest) r lost.exchanged.records.after (contained r (records_of g) here.0) in
        let in_all : IsIn r ((lost.gone ∷ []) ++ rest) = inr (is_in r rest in_rest) in
        let in_h = Contains-permutation ((lost.gone ∷ []) ++ rest) (records_of h) r (IsPermutation-sym (records_of h) ((lost.gone ∷ []) ++ rest) lost.exchanged.records.before) (contained r ((lost.gone ∷ []) ++ rest) in_all) in
        absurd (find_none test (records_of h) r none (is_in r (records_of h) in_h) here.1)

pub absent_all : (names : List (List ℕ)) (h g : Holding) (name : List ℕ) → LosesAll names h g → record_named (records_of h) name ≡ None → record_named (records_of g) name ≡ None
absent_all _ _ _ name (of_none h) none = none
absent_all _ _ _ name (of_one other names h k g first later) none = absent_all names k g name later (absent_lost h k other name first none)

-- counts don't rise
counts_lost : (names : List (List ℕ)) (h g : Holding) → LosesAll names h g → ((dinode_in g).entries ≤ (dinode_in h).entries) × ((dinode_in g).nlink ≤ (dinode_in h).nlink)
counts_lost _ _ _ (of_none h) = (omega arith, omega arith)
counts_lost _ _ _ (of_one name names h k g first later) =
    let rest = counts_lost names k g later in
    (omega (arith, rest.0, first.exchanged.counted.entries), omega (arith, rest.1, first.exchanged.counted.links))

no_cell : (c : Option Cell) → (IsSome c → ⊥) → c ≡ None
no_cell None never = refl
no_cell (Some c) never = absurd (never refl)

not_some : (c : Option Cell) → c ≡ None → IsSome c → ⊥
not_some c none some = absurd (no (sym (ap is_some none) ∙ some))
  where
    no : false ≡ true → ⊥
    no e = cc

none_in : (b : ℕ) → ¬ (Contains [] b)
none_in b c = omega (arith, c.1)

module _ (v : Seen) (im : Image) (o : Owners) (l : Layout) (t : Tree) (of : IsOf v im o l t) (view : IsView v) (m : Move) (room : List ℕ) (path path' : Path) (can : CanBeMoved v m) (place : IsMoveIn im o l path path' m room) where
  abbrev source : Holding
  source = holding im o m.from

  abbrev target : Holding
  target = holding im o m.to.inode

  abbrev inode : Holding
  inode = holding im o m.moved.inode

  pub source_directory : is_directory_at im o m.from ≡ true
  source_directory = is_directory_here v m.from source can.source can.source_there (is_shown v im o l t of path m.from place.source)

  pub moved_directory : is_reparented m ≡ true → is_directory_at im o m.moved.inode ≡ true
  moved_directory moves = ap is_directory (sym place.inode_dinode) ∙ and_left (is_directory m.moved.dinode) _ moves

  pub two_directories : is_within m ≡ false → m.from ≢ m.to.inode
  two_directories between = differ m.from m.to.inode between

  pub cells_apart : (a c : ℕ) → a ≢ c → ShareNone (holding im o a) (holding im o c)
  cells_apart a c other b first second = other (some_same (sym (cell_its im o a b first) ∙ cell_its im o c b second))

  own_cell : (q : Path) (a : ℕ) → IsAt im o l q a → IsSome ((holding im o a).cell a)
  own_cell q a at = its_cell im o a a (dinode_its a (o a) (is_inode v im o l t of q a at))

  -- what goes is another inode's
  pub freed_of : (b : ℕ) → Contains (freed_by m) b → (c : ℕ) × IsSome ((holding im o c).cell b) × (c ≢ m.from) × (c ≢ m.to.inode) × (c ≢ m.moved.inode)
  freed_of b goes = by place.stood
    where
      by : StandsThere im o l path' m → (c : ℕ) × IsSome ((holding im o c).cell b) × (c ≢ m.from) × (c ≢ m.to.inode) × (c ≢ m.moved.inode)
      by (nothing none child) = absurd (none_in b (subst (λ r. Contains (blocks_or_none r) b) none goes))
      by (an_inode c blocks is at childless own) =
          let its : IsSome ((holding im o c).cell b) = (own b).0 (subst (λ r. Contains (blocks_or_none r) b) is goes) in
          let itself = (own c).1 (own_cell (in_directory path' m.new_name) c at) in
          let others = can.others c (subst (λ r. Contains (blocks_or_none r) c) (sym is) itself) in
          (c, its, others.0, others.1, others.2)

  clear : (a : ℕ) → (a ≡ m.from) ⊎ ((a ≡ m.to.inode) ⊎ (a ≡ m.moved.inode)) → IsClearOf v m room (holding im o a)
  clear a which = record {
    not_taken = λ b some there. not_some ((holding im o a).cell b) ((free_blocks_are_new im o l b of.stands.laid (place.free b there)).0 a) some;
    not_freed = λ b some goes. let c = freed_of b goes in cells_apart a c.0 (other c.0 c.2 c.3 c.4) b some c.1;
    not_header = λ k b some has own. not_some ((holding im o a).cell b) (no_group_block v im o l t of view a k b has own) some;
  }
    where
      other : (c : ℕ) → c ≢ m.from → c ≢ m.to.inode → c ≢ m.moved.inode → a ≢ c
      other c first second third same = elim which [
        | inl e ↦ first (sym same ∙ e)
        | inr rest ↦ elim rest [ inl e ↦ second (sym same ∙ e) | inr e ↦ third (sym same ∙ e) ]
      ]

  pub target_sound : IsSound target
  target_sound = sound_directory v im o l t of path' m.to.inode place.target place.directory

  module _ (k : Holding) (lost : LosesAll (lost_there m) target k) where
    kept : HasItsBlocks target k
    kept = all_kept (lost_there m) target k lost

    absent : record_named (records_of k) m.new_name ≡ None
    absent = by place.stood
      where
        first_gone : (names : List (List ℕ)) → LosesAll (m.new_name ∷ names) target k → record_named (records_of k) m.new_name ≡ None
        first_gone names (of_one _ _ _ j _ first later) = absent_all names j k m.new_name later (gone_once target j m.new_name first target_sound)

        by : StandsThere im o l path' m → record_named (records_of k) m.new_name ≡ None
        by (nothing none child) = absent_all (lost_there m) target k m.new_name lost (no_mapped (λ (x : Record). x.address) (record_named (records_of target) m.new_name) child)
        by (an_inode c blocks is at childless own) = first_gone _ (subst (λ r. LosesAll (losses (is_some r) (is_within m) m.name m.new_name) target k) is lost)

    counts : CanCountOne k
    counts =
        let few = few_counts v im o l t of view path' m.to.inode place.target place.directory in
        let less = counts_lost (lost_there m) target k lost in
        record { records = omega (arith, few.0, less.0); links = omega (arith, few.1, less.1) }

    free : AreFreeFor k room
    free = record {
      some = λ c. (free_blocks_are_new im o l 0 of.stands.laid (place.free 0 c)).1 refl;
      once = place.once;
      inside = λ b c. subst (λ n. b < n) (sym kept.count) (free_blocks_are_new im o l b of.stands.laid (place.free b c)).2;
      new = λ b c. no_cell (k.cell b) (λ some. not_some (target.cell b) ((free_blocks_are_new im o l b of.stands.laid (place.free b c)).0 m.to.inode) (kept_cells target k kept b some));
    }

    pub can_get : CanGetName k m.new_name room
    can_get = record {
      sound = all_sound (lost_there m) target k lost target_sound;
      directory = all_directory (lost_there m) target k lost ∙ place.directory;
      counts = counts;
      few = subst (λ n. n < 2 ^ 64) (sym kept.count) (let few = few_blocks v im o l t of view in omega (arith, few));
      absent = absent;
      free = free;
      enough = subst (λ n. n ≤ length room) (place.as_many k lost) (omega arith);
    }

  pub apart_there : AreApart v m room source target inode
  apart_there = record {
    source_shown = λ between. shown_inode v im o l t of path m.from place.source;
    source_sound = λ between. sound_directory v im o l t of path m.from place.source source_directory;
    source_clear = λ between. clear m.from (inl refl);
    target_shown = shown_inode v im o l t of path' m.to.inode place.target;
    target_sound = target_sound;
    target_clear = clear m.to.inode (inr (inl refl));
    inode_shown = λ moves. shown_inode v im o l t of (in_directory path m.name) m.moved.inode place.inode;
    inode_sound = λ moves. sound_directory v im o l t of (in_directory path m.name) m.moved.inode place.inode (moved_directory moves);
    inode_clear = clear m.moved.inode (inr (inr refl));
    source_target = λ between. cells_apart m.from m.to.inode (two_directories between);
    source_inode = λ between. cells_apart m.from m.moved.inode (λ same. can.apart.0 (sym same));
    target_inode = cells_apart m.to.inode m.moved.inode (λ same. can.apart.1 (sym same));
    can = can_get;
  }
