-- A removal at the place to which the walk came, where the call takes the inode.
use Rattle.std.proofs.Common.{◌≡◌, ℕ, false, List, ap, ◌∙◌, subst, subst₂, sym, None}
use Rattle.std.specs.Prelude.{Contains, unwrap_or}
use Rattle.cluster_history.specs.Changes.{is_ok}
use Rattle.file_tree.specs.Apply.{remove_at, Answer}
use Rattle.file_tree.specs.Names.{parent_of}
use Rattle.file_tree.specs.Tree.{Tree}
use Rattle.file_tree.specs.declared.call.Call.{Call}
use Rattle.file_tree.specs.declared.reply.Reply.TheVariants.{Ok}
use Rattle.drafts.specs.Fates.{block_with, seen_with}
use Rattle.linear_dirs.specs.Shown.{holding_over}
use Rattle.draft_changes.proofs.Rows.{cell_its}
use Rattle.draft_changes.proofs.Views.{inodes_stay, shows_inodes}
use Rattle.drafts.specs.declared.change.Change.{Change}
use Rattle.gfs2_layout.specs.Holding.{Holding}
use Rattle.gfs2_layout.specs.Records.{record_named}
use Rattle.gfs2_layout.specs.Structures.{dinode_of}
use Rattle.glock_names.specs.Views.{Seen}
use Rattle.glock_names.specs.declared.State.TheVariants.{Ex}
use Rattle.call_locks.specs.Wants.{wanted}
use Rattle.call_locks.specs.WantLaws.{path_of}
use Rattle.dinode_tree.specs.Shown.{IsShown}
use Rattle.image_model.specs.Image.{Image}
use Rattle.image_model.specs.Owners.{Owners, holding}
use Rattle.image_model.specs.Stands.{Layout}
use Rattle.image_changes.specs.Does.{IsOf, Does, with_change}
use Rattle.image_changes.specs.Instances.{IsAt, records_at}
use Rattle.image_changes.proofs.Finishing.{finish_makes}
use Rattle.path_walks.specs.Holds.{holds_in, IsUnder}
use Rattle.path_walks.specs.Walks.{IsSeenAt, IsLastOf}
use Rattle.path_walks.specs.declared.walk.Place.{Place}
use Rattle.path_walks.proofs.Images.{says_child, shown_directory, shown_inode, is_shown}
use Rattle.path_walks.proofs.Lists.{parent_of_next}
use Rattle.removing_calls.specs.Drafting.{HasTimes, IsRemoval, LosesInLeaf, LosesRecord}
use Rattle.group_locks.specs.Groups.{GroupsAreHeld}
use Rattle.removing_calls.specs.Removing.{AreAllOf, IsRemoving, IsAimOf, IsPlaceIn, IsStamped, holds_for}
use Rattle.removing_calls.specs.declared.aims.Aim.TheVariants as aim
use Rattle.removing_calls.proofs.Above.{above_names, inode_inside, record_of_child}
use Rattle.removing_calls.proofs.Found.{sound_hashed, taken_list}
use Rattle.removing_calls.proofs.Under.{directory_listed, inode_listed, is_under}
use Rattle.removing_calls.proofs.Imaged.{parent_put, stays_at}
use Rattle.removing_calls.proofs.Doing.{IsRemovedIn, removal_does}
use Rattle.removing_calls.proofs.Trees.{aim_takes, changes}
use Rattle.removing_calls.proofs.Wanted.{above_held, inode_held}

module _ {V : Type 0} (seen : V → Seen) (view : V) (c : Call) (removing : IsRemoving c) (p : Place) (name : List ℕ) (last : IsLastOf (path_of c false) name)
    (there : IsSeenAt (seen view) (wanted c) (path_of c false) p) (blocks : List ℕ) (groups : GroupsAreHeld (seen view) blocks)
    (goes : AreAllOf (seen view) p.inode blocks)
    (taken : (h : Holding) → IsShown (seen view) p.inode h → IsAimOf c h aim.Taken)
    {time : ℕ} (change : Change) (is : IsRemoval seen view p.above name time blocks change) where
  pub dir_held : (seen view).state_of (record { kind = 2; number = p.above }) ≡ Ex
  dir_held = above_held (seen view) c name p.above removing last there.above

  -- in each image that the view may be of, the place is where the walk comes to
  pub in_image : ((im : Image) (o : Owners) (l : Layout) (t : Tree) → IsOf (seen view) im o l t → IsPlaceIn im o l c p)
      → (im : Image) (o : Owners) (l : Layout) (t : Tree) → IsOf (seen view) im o l t → IsRemovedIn seen view p.above name blocks change is dir_held groups c last.0 p.inode im o l t
  in_image places im o l t of =
      let place = places im o l t of in
      let at_p : IsAt im o l last.0 p.above = subst (λ q. IsAt im o l q p.above) (ap parent_of last.1 ∙ parent_of_next last.0 name) place.above in
      let shown_p = is_shown (seen view) im o l t of last.0 p.above at_p in
      let shown_a = is_shown (seen view) im o l t of (path_of c false) p.inode place.at in
      let names = above_names (seen view) (wanted c) (path_of c false) p name is.shows there last in
      let dir = names.directory (holding im o p.above) shown_p in
      let r = record_of_child (record_named (records_at im o p.above) name) p.inode
      (says_child (seen view) im o l t of last.0 p.above name p.inode at_p dir (names.child (holding im o p.above) (shown_directory (seen view) im o l t of last.0 p.above at_p dir))) in
      let takes = aim_takes (seen view) im o l t of c name p.inode last place.at (taken (holding im o p.inode) shown_a) in
      record {
        at = at_p;
        at_a = subst (λ q. IsAt im o l q p.inode) last.1 place.at;
        record_is = r.0;
        named = r.1;
        childless = takes.childless;
        goes = goes (holding im o p.inode) (shown_inode (seen view) im o l t of (path_of c false) p.inode place.at);
        applies = takes.applies ∙ ap (λ q. record { reply = Ok; tree = remove_at q t }) last.1;
      }

  pub does : ((im : Image) (o : Owners) (l : Layout) (t : Tree) → IsOf (seen view) im o l t → IsPlaceIn im o l c p) → Contains blocks p.inode → Does (seen view) c Ok change
  does places own = removal_does seen view p.above name blocks change is dir_held groups c last.0 p.inode (changes c removing)
      (inode_held (seen view) c name p.inode removing last there.leads) own (inode_inside (seen view) (wanted c) (path_of c false) p name there last) (in_image places)

  -- the directory above has the time, and lacks the name's record
  pub stamped : ((im : Image) (o : Owners) (l : Layout) (t : Tree) → IsOf (seen view) im o l t → IsPlaceIn im o l c p)
      → (im : Image) (o : Owners) (l : Layout) (t : Tree) → IsOf (seen view) im o l t → IsStamped im o l c time change
  stamped places im o l t of =
      let r = in_image places im o l t of in
      let put = parent_put seen view im o l t of last.0 p.above name p.inode r.at r.at_a r.record_is r.named r.childless blocks r.goes change is in
      let image = (finish_makes is.freed.fates change is.freed.finished).image im in
      let bytes : (with_change im change).at p.above ≡ is.taken.bytes = ap (λ (i : Image). i.at p.above) image ∙ ap (λ f. unwrap_or (block_with f None) (im.at p.above)) put in
      let has = (above_names (seen view) (wanted c) (path_of c false) p name is.shows there last).there in
      let shown_p = shown_inode (seen view) im o l t of last.0 p.above r.at in
      let after : holding_over (seen_with (seen view) is.fates) (holding im o p.above) ≡ holding (with_change im change) o p.above =
      shows_inodes (seen view) is.fates im o p.above of.agrees
      ∙ sym (inodes_stay is.fates is.freed.fates im o p.above (λ b some. stays_at seen view im o l t of last.0 p.above name p.inode r.at r.at_a r.record_is r.named r.childless blocks r.goes change is b (cell_its im o p.above b some)))
      ∙ ap (λ (i : Image). holding i o p.above) (sym image) in
      record {
        directory = p.above;
        at = (places im o l t of).above;
        times = subst (λ b. HasTimes (dinode_of b) time) (sym bytes) is.taken.times;
        name = name;
        last = last;
        in_linear = λ plain. subst₂ (λ old new. LosesRecord old new name time) (sym (of.agrees p.above has.0 has.1)) (sym bytes) (is.taken.in_linear (holding im o p.above) has.0 shown_p plain has.1);
        in_hashed = λ hashed. subst (λ g. LosesInLeaf (holding im o p.above) g name time) after
            (is.taken.in_hashed (holding im o p.above) r.record_is shown_p hashed (sound_hashed (seen view) im o l t of last.0 p.above r.at hashed) r.named);
      }

  -- the locks that it touches are of the call's list
  pub under : ((im : Image) (o : Owners) (l : Layout) (t : Tree) → IsOf (seen view) im o l t → IsPlaceIn im o l c p)
      → (im : Image) (o : Owners) (l : Layout) (t : Tree) → IsOf (seen view) im o l t → IsUnder o (holds_for im o l t c) change
  under places im o l t of =
      let r = in_image places im o l t of in
      let at = (places im o l t of).at in
      subst (λ list. IsUnder o list change) (sym (taken_list im o l t c p.inode (ap (λ (x : Answer). is_ok x.reply) r.applies) at))
      (is_under seen view im o l t of p.above name (path_of c false) p.inode at blocks r.goes change is (holds_in im o l (path_of c false) (wanted c))
      (directory_listed im o l c removing name last p.above r.at) (inode_listed im o l c removing name last p.inode at))
