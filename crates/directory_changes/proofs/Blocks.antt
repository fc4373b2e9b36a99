-- Blocks of directories, in a draft.
use Rattle.std.proofs.Common.{zero, suc, ◌≡◌, ◌≢◌, ℕ, ◌⊎◌, inl, inr, true, false, true≢false, List, [], ◌∷◌, Option, None, Some, refl, sym, ap, ◌∙◌, subst, arith}
use Rattle.std.specs.Prelude.{Contains, IsSome}
use Rattle.std.specs.Ordering.{nat_cmp}
use Rattle.std.specs.FinMap.{FinMap, get}
use Rattle.std.proofs.lemmas.Bool.{eqb-true, ne_eqb}
use Rattle.drafts.specs.declared.change.Written.{Written}
use Rattle.drafts.specs.declared.fate.Fate.{Fate}
use Rattle.drafts.specs.declared.fate.Fate.TheVariants.{Put}
use Rattle.gfs2_layout.specs.declared.dinode.Dinode.{Dinode}
use Rattle.gfs2_layout.specs.declared.rindex.Rindex.{Rindex}
use Rattle.gfs2_layout.specs.Holding.{Part, Pointed, InChain, Cell, Holding, cell_part, cell_bytes}
use Rattle.gfs2_layout.specs.Inode.{Head, is_directory_in}
use Rattle.gfs2_layout.specs.Records.{Record}
use Rattle.gfs2_layout.specs.Structures.{file_type, is_directory, is_regular}
use Rattle.glock_names.specs.declared.LockName.{LockName}
use Rattle.image_model.specs.Groups.{state_of}
use Rattle.image_model.specs.Image.{Image}
use Rattle.image_model.specs.Owners.{Owner, Owners, Super, InGroup, Free, Nobody, Root, Master, Named, Below, Chained, cell_of, holding}
use Rattle.image_model.specs.Flat.{Path, follow}
use Rattle.image_model.specs.Stands.{Layout, IsRecordOf, kind_of, flat_of}
use Rattle.image_model.proofs.Held.{none_some, some_same}
use Rattle.image_model.proofs.Members.{contained, is_in}
use Rattle.image_changes.specs.Changes.{inode_of, IsOf, inode_lock, cover, is_free}
use Rattle.image_changes.specs.Does.{IsWritten, is_content_of}
use Rattle.image_changes.specs.Drafted.{is_gone, is_freed}
use Rattle.image_changes.specs.Flats.{in_directory}
use Rattle.image_changes.specs.Instances.{IsAt, among, dinode_at}
use Rattle.image_changes.proofs.FlatPaths.{follow-append, after_some}
use Rattle.image_changes.proofs.Frame.{inode_cover}
use Rattle.image_changes.proofs.Nodes.{among_in, in_among, not_among}
use Rattle.draft_changes.proofs.Rows.{of_its, its_used}
use Rattle.draft_changes.proofs.Framed.{none_drafted, put_drafted, put_not_gone, MakesOf, moves, of_inodes}
use Rattle.directory_changes.specs.Growing.{IsPutOrLeft}

-- ---- blocks of a list

pub has : (xs : List ℕ) (b : ℕ) → among xs b ≡ true → Contains xs b
has xs b e = contained b xs (among_in xs b e)

pub in_list : (xs : List ℕ) (b : ℕ) → Contains xs b → among xs b ≡ true
in_list xs b c = in_among xs b (is_in b xs c)

pub lacks : (xs : List ℕ) (b : ℕ) → ¬ (Contains xs b) → among xs b ≡ false
lacks xs b none = not_among xs b (λ h. none (contained b xs h))

-- ---- names

-- the inode that is found by a name in a directory is that to which the name leads there
pub child_at : (im : Image) (o : Owners) (l : Layout) (path : Path) (dir : ℕ) (name : List ℕ) (a : ℕ) → IsAt im o l path dir → IsAt im o l (in_directory path name) a → (flat_of im o dir).child name ≡ Some a
child_at im o l path dir name a at at_a =
    let s = after_some (λ b. follow (flat_of im o) b []) ((flat_of im o dir).child name) a (sym (follow-append (flat_of im o) path (name ∷ []) l.root dir at) ∙ at_a) in
    s.1 ∙ s.2

-- where an inode keeps its number and kind, a record of it is one still
pub record_here : (heads heads' : ℕ → Head) (b : ℕ) (r : Record) → heads' b ≡ heads b → IsRecordOf heads b r → IsRecordOf heads' b r
record_here heads heads' b r e of = record { address = of.address; number = of.number ∙ ap (λ (h : Head). h.number) (sym e); kind = of.kind ∙ ap kind_of (sym e) }

-- ---- one block

-- a block of an inode isn't free
pub not_free_its : (b a k : ℕ) (x : Owner) → inode_of b x ≡ Some a → x ≡ Free k → ⊥
not_free_its b a k x its free = none_some (sym (ap (inode_of b) free) ∙ its)

-- a block of an inode beside its dinode has the state of one in use
pub within_state : (b a : ℕ) (x : Owner) → b ≢ a → inode_of b x ≡ Some a → state_of x ≡ 1
within_state b a (Below d above k level first) other e = refl
within_state b a (Chained d hash place) other e = refl
within_state b a Root other e = absurd (other (some_same e))
within_state b a Master other e = absurd (other (some_same e))
within_state b a (Named parent name) other e = absurd (other (some_same e))
within_state b a Super other e = absurd (none_some e)
within_state b a (InGroup g) other e = absurd (none_some e)
within_state b a (Free g) other e = absurd (none_some e)
within_state b a Nobody other e = absurd (none_some e)

-- what an inode has of a block is told by its part and its bytes
pub cell_is : (c : Option Cell) (p : Part) (bytes : List ℕ) → cell_part c ≡ Some p → cell_bytes c ≡ bytes → cell_of (Some p) bytes ≡ c
cell_is None p bytes e f = absurd (none_some e)
cell_is (Some c) p bytes e f = λ i. Some (record { part = some_same (sym e) i; bytes = sym f i })

pub part_some : (c : Option Cell) (p : Part) → cell_part c ≡ Some p → IsSome c
part_some None p e = absurd (none_some e)
part_some (Some c) p e = refl

pub none_not : (c : Option Cell) → c ≡ None → IsSome c → ⊥
none_not c e h = true≢false (sym (subst IsSome e h))

pub not_some : (c : Option Cell) → (IsSome c → ⊥) → c ≡ None
not_some None h = refl
not_some (Some c) h = absurd (h refl)

-- no block of a directory is content of a regular file
pub no_content : (im : Image) (o : Owners) (b a : ℕ) (x : Owner) → is_regular (dinode_at im o a) ≡ false → inode_of b x ≡ Some a → is_content_of im o x ≡ false
no_content im o b a (Below d above k zero first) plain e = ap (λ z. is_regular (dinode_at im o z)) (some_same e) ∙ plain
no_content im o b a (Below d above k (suc level) first) plain e = refl
no_content im o b a (Chained d hash place) plain e = refl
no_content im o b a Root plain e = refl
no_content im o b a Master plain e = refl
no_content im o b a (Named parent name) plain e = refl
no_content im o b a Super plain e = refl
no_content im o b a (InGroup g) plain e = refl
no_content im o b a (Free g) plain e = refl
no_content im o b a Nobody plain e = refl

pub directory_not_regular : (d : Dinode) → is_directory d ≡ true → is_regular d ≡ false
directory_not_regular d is =
    let four : file_type d.mode ≡ 4 = eqb-true (file_type d.mode) 4 is in
    ne_eqb (file_type d.mode) 8 (λ eight. absurd (omega (arith, four, eight)))

-- the owner of a block afterwards: the directory, as the block's part in it says; and else the owner of before
abbrev pub owner_in : Option Part → ℕ → Owner → Owner
owner_in (Some (Pointed from k level first)) p was = Below p from k level first
owner_in (Some (InChain hash place)) p was = Chained p hash place
owner_in q p was = was

-- a block that is put or left isn't freed
pub kept_not_freed : (fates : FinMap nat_cmp Fate) (h : Holding) (dir b : ℕ) → IsPutOrLeft fates h dir b → is_freed fates b ≡ false
kept_not_freed fates h dir b (inl put) = put_not_gone fates b _ _ _ put.1
kept_not_freed fates h dir b (inr left) = ap is_gone left.1

-- what becomes of a directory's block
pub kept_block : (o o' : Owners) (fates : FinMap nat_cmp Fate) (ys : List ℕ) (gs : List Rindex) (h : Holding) (dir b : ℕ) → among ys dir ≡ true → IsPutOrLeft fates h dir b
    → IsOf (among ys) b (o b) → (IsSome (h.cell b) → inode_of b (o b) ≡ Some dir) → inode_of b (o' b) ≡ Some dir → MakesOf o o' fates ys gs b
kept_block o o' fates ys gs h dir b touched (inl put) old its its' = of_inodes (put_drafted fates b _ _ _ put.1) old (of_its (among ys) b dir (o' b) its' touched)
kept_block o o' fates ys gs h dir b touched (inr left) old its its' = moves dir (none_drafted fates b left.1) touched (its left.0) its'

-- what is put of a directory's block
pub put_so : (fates : FinMap nat_cmp Fate) (h : Holding) (dir : ℕ) (w : Written) (lock : LockName) → get fates w.block ≡ Some (Put lock w.plain w.bytes) → IsPutOrLeft fates h dir w.block
    → (lock ≡ record { kind = 2; number = dir }) × (w.plain ≡ false)
put_so fates h dir w lock e (inl put) = both (some_same (sym e ∙ put.1))
  where
    both : Put lock w.plain w.bytes ≡ Put (record { kind = 2; number = dir }) false put.0 → (lock ≡ record { kind = 2; number = dir }) × (w.plain ≡ false)
    both e = (cc, cc)
put_so fates h dir w lock e (inr left) = absurd (none_some (sym left.1 ∙ e))

-- such a block is written as it should be
pub block_written : (l : Layout) (im' : Image) (o o' : Owners) (dir : ℕ) → inode_lock l dir ≡ Some (record { kind = 2; number = dir }) → is_directory_in (holding im' o' dir) ≡ true
    → (w : Written) (lock : LockName) → (lock ≡ record { kind = 2; number = dir }) × (w.plain ≡ false) → inode_of w.block (o' w.block) ≡ Some dir
    → (inode_of w.block (o w.block) ≡ Some dir) ⊎ (is_free (o w.block) ≡ true) → IsWritten l im' o o' w lock
block_written l im' o o' dir own is w lock put its was = record {
  told = covers (o' w.block) its;
  used = (its_used w.block dir (o' w.block) its).1;
  plain = put.1 ∙ sym (no_content im' o' w.block dir (o' w.block) (directory_not_regular (dinode_at im' o' dir) is) its);
  stayed = elim was [ inl old ↦ inl (covers (o w.block) old) | inr free ↦ inr free ];
}
  where
    covers : (x : Owner) → inode_of w.block x ≡ Some dir → cover l w.block x ≡ Some lock
    covers x so = inode_cover l w.block x dir so ∙ own ∙ ap Some (sym put.0)
