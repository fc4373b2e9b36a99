-- What was done over a view is an addition.
use Rattle.std.proofs.Common.{◌≡◌, ◌<◌, ℕ, Bool, false, List, ◌∷◌, sym, ap, ◌∙◌, subst, subst₂}
use Rattle.std.specs.Prelude.{Contains}
use Rattle.std.specs.FinMap.{empty, insert}
use Rattle.drafts.specs.Fates.{Drafted}
use Rattle.drafts.specs.declared.fate.Fate.TheVariants.{Put}
use Rattle.gfs2_layout.specs.Holding.{alone}
use Rattle.dinode_tree.specs.Reading.{inode_lock}
use Rattle.new_inodes.specs.New.{IsInodePut}
use Rattle.resource_groups.proofs.Sets.{some_bytes, some_shown}
use Rattle.name_drafts.specs.Steps.{IsNamePut, IsSaidAndDone, LeavesGroups}
use Rattle.file_tree.specs.Names.{IsName}
use Rattle.drafts.specs.declared.change.Change.{Change}
use Rattle.glock_names.specs.Views.{Seen, HasBlock, HasGroup, IsView}
use Rattle.resource_groups.specs.Putting.{HasDataBlock}
use Rattle.resource_groups.specs.Shown.{IsDataOf}
use Rattle.resource_groups.specs.Shown as group
use Rattle.path_walks.specs.declared.walk.Place.{Place}
use Rattle.name_drafts.specs.Drafting.{CountsNumber, IsAddition, IsNewOf, IsNextOf, SaysMade, entry_for, kind_for}
use Rattle.name_drafts.specs.declared.drafting.NewBlock.{NewBlock}
use Rattle.name_drafts.proofs.Adds.{adds}
use Rattle.name_drafts.proofs.Done.{AreDone, counted, header_put, insides, locks, new_put, none_freed, parent_put, third_leaves, times}
use Rattle.name_drafts.proofs.Grown.{gets_record, grown, grows_into}

-- the drafts, one after another
module _ {V : Type 0} (seen : V → Seen) (view : V) (d0 d2 d3 : Drafted V) (fresh : d0 ≡ record { view = view; fates = empty }) (same2 : d2.view ≡ d0.view) (is_directory : Bool) (p : Place) (r : NewBlock) (number time : ℕ)
    (put : (bytes : List ℕ) × IsInodePut seen d2 d3 r.block (IsNewOf is_directory p number r.block time) bytes) where
  pub view0 : d0.view ≡ view
  view0 = ap (λ (d : Drafted V). d.view) fresh

  pub view2 : d2.view ≡ view
  view2 = same2 ∙ view0

  pub view3 : d3.view ≡ view
  view3 = ap (λ (d : Drafted V). d.view) put.1.put ∙ view2

  pub fates3 : d3.fates ≡ insert d2.fates r.block (Put (inode_lock r.block) false put.0)
  fates3 = ap (λ (d : Drafted V). d.fates) put.1.put

  module _ (name : List ℕ) (kind : ℕ) (kinds : kind ≡ kind_for is_directory) (room taken : List ℕ)
      (named : IsNamePut (seen d0.view) p.inode name (record { number = number; addr = r.block; kind = kind }) time room taken d2.fates) where
    pub named_over : IsNamePut (seen view) p.inode name (entry_for is_directory number r.block) time room taken d2.fates
    named_over = subst₂ (λ x k. IsNamePut (seen x) p.inode name (record { number = number; addr = r.block; kind = k }) time room taken d2.fates) view0 kinds named

    pub leaves_over : IsView (seen view) → HasGroup (seen view) r.group → IsDataOf r.group r.block → HasDataBlock (seen view) p.inode → ((b : ℕ) → Contains room b → HasDataBlock (seen view) b) → LeavesGroups (seen d3.view) d3.fates
    leaves_over shows has block inside rooms = subst (λ x. LeavesGroups (seen x) d3.fates) (sym view3)
        (third_leaves (seen view) shows p.inode name (entry_for is_directory number r.block) time room taken d2.fates named_over inside rooms r.block put.0 d3.fates fates3 (r.group, has, block))

    pub done_is : (change : Change) → IsSaidAndDone (seen d3.view) d3.fates r taken change → IsView (seen view) → ((at : ℕ → List ℕ) → group.IsShown (seen view) r.group at → IsNextOf at r.group number)
        → AreDone (seen view) is_directory p name r room time change
    done_is change done shows next =
        let said : IsSaidAndDone (seen view) d3.fates r taken change = subst (λ x. IsSaidAndDone (seen x) d3.fates r taken change) view3 done in
        let at = some_bytes (seen view) in
        let shown = some_shown (seen view) r.group shows in
        record {
          taken = taken;
          number = number;
          second = d2.fates;
          named = named_over;
          third = d3.fates;
          bytes = put.0;
          put = fates3;
          new = subst (λ x. (count : ℕ) → r.block < count → IsNewOf is_directory p number r.block time (alone (seen x).size count r.block put.0)) view2 put.1.is;
          said = said;
          same = said.next at shown ∙ sym (next at shown);
        }

pub addition_is : (v : Seen) (is_directory : Bool) (p : Place) (name : List ℕ) (r : NewBlock) (room : List ℕ) (time : ℕ) (change : Change) → AreDone v is_directory p name r room time change
    → IsView v → HasGroup v r.group → IsDataOf r.group r.block → HasDataBlock v p.inode → ((b : ℕ) → Contains room b → HasDataBlock v b) → ¬ (Contains (r.block ∷ room) p.inode) → IsName name → HasBlock v p.inode
    → IsAddition v is_directory p name r room time change
addition_is v is_directory p name r room time change is shows has block inside rooms apart is_name there =
    let header = header_put v is_directory p name r room time change is shows has block inside rooms apart in
    record {
      fates = is.said.fates;
      finished = is.said.finished;
      whole = is.said.whole;
      taken = is.taken;
      left = is.named.left;
      front = is.named.front;
      locks = locks v is_directory p name r room time change is shows has block inside rooms apart;
      none_freed = none_freed v is_directory p name r room time change is shows has block inside rooms apart;
      inside = insides v is_directory p name r room time change is shows has block inside rooms apart;
      number = is.number;
      next = λ at shown. subst (IsNextOf at r.group) is.same (is.said.next at shown);
      header = header.0;
      header_put = header.1;
      counted = λ at at' shown now. subst (CountsNumber at at' r.group) is.same (counted v is_directory p name r room time change is shows has block inside rooms apart at at' shown now);
      says = λ at g there shown. subst (SaysMade at _ r is.taken g) is.same (is.said.says at g there shown);
      bytes = is.bytes;
      put = new_put v is_directory p name r room time change is shows has block inside rooms apart;
      new = is.new;
      parent_bytes = is.named.final;
      parent_put = parent_put v is_directory p name r room time change is shows has block inside rooms apart;
      times = times v is_directory p name r room time change is shows has block inside rooms apart;
      gets = λ h shown linear. gets_record v shows p.inode name _ time room is.taken is.second is.named there h shown linear;
      grows = λ h shown can free clear. (
        grown v is_directory p name r room time change is shows has block inside rooms apart h shown can free clear,
        grows_into v is_directory p name r room time change is shows has block inside rooms apart h shown can free clear,
      );
      adds = λ im o l t path of place. adds v is_directory p name r room time change is shows has block inside rooms apart is_name im o l t path of place;
    }
