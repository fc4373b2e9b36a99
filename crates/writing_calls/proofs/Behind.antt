-- A write whose bytes have room behind the dinode: it needs no block, and so no group's lock.
use Rattle.std.proofs.Common.{◌≡◌, ◌+◌, ◌-◌, ◌≤◌, ℕ, false, List, ◌++◌, length, refl, sym, ap, ◌∙◌, subst, arith}
use Rattle.std.proofs.lemmas.Bool.{cond-false, le-ltb}
use Rattle.std.proofs.lemmas.List.{append-nil}
use Rattle.std.specs.Prelude.{max, nat_lt}
use Rattle.file_tree.specs.Apply.{apply, file_limit}
use Rattle.file_tree.specs.Tree.{Tree}
use Rattle.file_tree.specs.declared.call.Call.{Call}
use Rattle.file_tree.specs.declared.reply.Reply.{Reply}
use Rattle.file_tree.specs.declared.reply.Reply.TheVariants.{Ok as OkReply}
use Rattle.drafts.specs.declared.change.Change.{Change}
use Rattle.gfs2_layout.specs.Holding.{Holding}
use Rattle.gfs2_layout.specs.Inode.{dinode_in, height_in}
use Rattle.gfs2_layout.specs.Structures.{dinode_length, is_directory}
use Rattle.gfs2_layout.specs.declared.dinode.Dinode.{Dinode}
use Rattle.glock_names.specs.Views.{Seen}
use Rattle.call_locks.specs.Wants.{wanted}
use Rattle.call_locks.specs.WantLaws.{path_of}
use Rattle.growth_laws.specs.Need.{capacity, height_for, needed, needed_below, raised_to}
use Rattle.image_model.specs.Image.{Image}
use Rattle.image_model.specs.Owners.{Owners, holding}
use Rattle.image_model.specs.Stands.{Layout}
use Rattle.image_changes.specs.Does.{IsOf}
use Rattle.path_walks.specs.Holds.{Hold, AreHeld, IsUnder, holds_in}
use Rattle.path_walks.specs.Walks.{IsSeenAt, IsWalked}
use Rattle.path_walks.specs.declared.walk.Place.{Place}
use Rattle.path_walks.specs.declared.walk.Walk.TheVariants.{At}
use Rattle.writing_calls.specs.Contents.{IsAimOf, StaysStuffed}
use Rattle.writing_calls.specs.Drafting.{IsWrite}
use Rattle.writing_calls.specs.Writing.{IsEdit, Writes, by_write, call_holds, end_of}
use Rattle.writing_calls.specs.declared.aims.Aim.{Aim}
use Rattle.writing_calls.specs.declared.aims.Aim.TheVariants as aim
use Rattle.writing_calls.proofs.Alone.{file_listed, is_under}
use Rattle.writing_calls.proofs.Images as images
use Rattle.writing_calls.proofs.Listed.{room_list}

-- where nothing else is to be done the bytes stay in the dinode's block
pub stays_so : (size : ℕ) (d : Dinode) (end : ℕ) (a : Aim) → ((r : Reply) → a ≡ aim.Refused r → ⊥) → (a ≡ aim.Broken → ⊥) → (a ≡ aim.Blocks → ⊥) → IsAimOf size d end a → StaysStuffed size d end
stays_so size d end (aim.Refused r) refuses breaks grows is = absurd (refuses r refl)
stays_so size d end aim.Broken refuses breaks grows is = absurd (breaks refl)
stays_so size d end aim.Blocks refuses breaks grows is = absurd (grows refl)
stays_so size d end aim.Stuffed refuses breaks grows is = is
stays_so size d end aim.Cut refuses breaks grows is = absurd is

-- content that has room in the dinode's block needs no block
stuffed_needs_none : (h : Holding) (at len : ℕ) → height_in h ≡ 0 → max (dinode_in h).size (at + len) ≤ h.size - dinode_length → needed h at len ≡ 0
stuffed_needs_none h at len low fits = ap (needed_below h at (at + len)) stays_low
  where
    bytes : ℕ
    bytes = max (dinode_in h).size (at + len)

    stays_low : height_for h (max (dinode_in h).size (at + len)) ≡ 0
    stays_low =
        ap (λ n. raised_to h.size n (max (dinode_in h).size (at + len)) (10 - n)) low
        ∙ cond-false (nat_lt (capacity h.size 0) (max (dinode_in h).size (at + len))) (raised_to h.size 1 (max (dinode_in h).size (at + len)) 9) 0
        (le-ltb (capacity h.size 0) (max (dinode_in h).size (at + len)) fits)

module _ (v : Seen) (c : Call) (p : Place) (is : IsEdit c) (seen : IsSeenAt v (wanted c) (path_of c false) p) (plain : is_directory p.dinode ≡ false) (short : end_of c ≤ file_limit)
    (at : ℕ) (new : List ℕ) (writes : Writes c at new) (stays : StaysStuffed v.size p.dinode (at + length new)) (time : ℕ) (change : Change) (w : IsWrite v p.inode at new time change)
    (im : Image) (o : Owners) (l : Layout) (t : Tree) (of : IsOf v im o l t) (walked : IsWalked v im o l t (path_of c false) (wanted c) (At p)) (node : ℕ) where
  abbrev path_list : List Hold
  path_list = holds_in im o l (path_of c false) (wanted c)

  none : 0 ≡ needed (holding im o p.inode) at (length new)
  none =
      let low : height_in (holding im o p.inode) ≡ 0 = ap (λ (d : Dinode). d.height) (sym walked.0.dinode) ∙ stays.height in
      let long : (dinode_in (holding im o p.inode)).size ≡ p.dinode.size = ap (λ (d : Dinode). d.size) (sym walked.0.dinode) in
      sym (stuffed_needs_none (holding im o p.inode) at (length new) low (omega (arith, stays.room, stays.fits, long, of.size)))

  list_is : call_holds im o l t c node ≡ path_list
  list_is =
      images.list_is v c p is seen plain short im o l t of walked node
      ∙ ap (λ xs. path_list ++ xs)
      (room_list im o l c node p.inode p.dinode.size at new 0 (images.size_is v c p is seen plain short im o l t of walked) (by_write at new writes) none)
      ∙ append-nil path_list

  pub stuffed_found : ((apply c t).reply ≡ OkReply) × AreHeld v (call_holds im o l t c node) × IsUnder o (call_holds im o l t c node) change
  stuffed_found = (
    images.ok v c p is seen plain short im o l t of walked,
    subst (AreHeld v) (sym list_is) walked.2,
    subst (λ list. IsUnder o list change) (sym list_is) (is_under v p.inode at new time change w o path_list (file_listed c im o l p.inode is walked.0.at)),
  )
