-- The file that lists the groups, among what the master directory names.
use Rattle.std.proofs.Common.{◌≡◌, inl, inr, ℕ, List, [], length, Option, Some, None, refl, sym, ap, subst, ◌∙◌, arith}
use Rattle.std.specs.Prelude.{codes, slice_get, Contains}
use Rattle.std.specs.List.{All}
use Rattle.gfs2_layout.specs.declared.rindex.Rindex.{Rindex}
use Rattle.image_model.specs.Claims.{Claims, IsRindex, HasInode, master_of}
use Rattle.image_reader.specs.Complete.{AllAreFound}
use Rattle.image_reader.specs.Finding.{IsFoundIn}
use Rattle.image_reader.specs.Found.{IsEntryAt, HasEntry}
use Rattle.image_reader.specs.Going.{FindsOnlyOf}
use Rattle.image_model.specs.Groups.{IsListed}
use Rattle.image_model.specs.Owners.{Named}
use Rattle.image_reader.specs.Reading.{image_at, IsDinodeBlock}
use Rattle.image_model.specs.Rules.{Breaks, HasSoundGroup, IsWholeList, no_rindex}
use Rattle.image_reader.specs.System.{IsNamedAmong, HasNoneNamed}
use Rattle.image_reader.specs.Untouched.{AreNamedApart}
use Rattle.image_reader.specs.declared.blocks.Blocks.{Blocks}
use Rattle.image_reader.specs.declared.directory.Found.{Found}
use Rattle.image_reader.specs.declared.directory.Visit.{Visit}
use Rattle.image_reader.specs.declared.inode.Inode.{Inode}
use Rattle.image_reader.specs.declared.owners.Claim.{Claim}
use Rattle.std.proofs.lemmas.Option.{slice_get-get_or}
use Rattle.image_model.specs.Image.{Image}
use Rattle.image_reader.proofs.Listed.{got_low, got_is, got_one}

all_of : {X : Type 0} (P : X → Type 0) (xs : List X) (i : ℕ) (x : X) → All P xs → slice_get xs i ≡ Some x → P x
all_of P xs i x all there = subst P (got_is xs i x x there) (all i x (got_low xs i x there))

module _ (image : Blocks) (visit : Visit) (entries : List (Option Claim)) (before found : List Found) (none : before ≡ []) (at : visit.inode.block.number ≡ master_of (image_at image))
    (true_of : All (IsFoundIn image) found) (finds : FindsOnlyOf visit before found) (all : AllAreFound (image_at image) visit entries found) where
  named_by : (i : ℕ) (f : Found) → IsEntryAt found i f → f.parent ≡ master_of (image_at image)
  named_by i f there = elim (finds.own i f there) [
    | inl old ↦ absurd (let e : None ≡ Some f = sym (ap (λ l. slice_get l i) none) ∙ old in cc)
    | inr by ↦ by.1 ∙ at
  ]

  entry_for : (d : ℕ) → IsRindex (image_at image) d → HasEntry found visit.place (codes "rindex") d
  entry_for d has = all.names has.0 d (codes "rindex") (subst (λ a. Claims (image_at image) has.0 d (Named a (codes "rindex"))) (sym at) has.1)

  pub none_found : HasNoneNamed found (length found) (master_of (image_at image)) (codes "rindex") → Breaks (image_at image) 18 (master_of (image_at image))
  none_found nothing = no_rindex (λ d has. let e = entry_for d has in nothing e.index e.entry (got_low found e.index e.entry e.there) e.there (named_by e.index e.entry e.there) e.named)

  module _ (rindex : Inode) (is : IsNamedAmong found (master_of (image_at image)) (codes "rindex") rindex) where
    pub found_rindex : IsRindex (image_at image) rindex.block.number
    found_rindex =
        let f = is.entry in
        let claimed = (all_of (IsFoundIn image) found is.index f true_of is.there).claimed in
        let named = subst (λ n. Claims (image_at image) f.by f.inode.block.number (Named f.parent n)) is.named claimed in
        let from = subst (λ a. Claims (image_at image) f.by f.inode.block.number (Named a (codes "rindex"))) is.above named in
        (f.by, subst (λ (n : Inode). Claims (image_at image) f.by n.block.number (Named (master_of (image_at image)) (codes "rindex"))) (sym is.is) from)

    pub found_in : rindex.block.image ≡ image
    found_in = ap (λ (n : Inode). n.block.image) is.is ∙ (all_of (IsFoundIn image) found is.index is.entry true_of is.there).same

    pub only_rindex : AreNamedApart 0 found → (d : ℕ) → IsRindex (image_at image) d → d ≡ rindex.block.number
    only_rindex apart d has =
        let e = entry_for d has in
        let same : e.index ≡ is.index = apart e.index is.index e.entry is.entry (omega arith) (omega arith) e.there is.there (e.named ∙ sym is.named) in
        let one : e.entry ≡ is.entry = got_one found e.index is.index e.entry is.entry same e.there is.there in
        sym e.block ∙ ap (λ (f : Found). f.inode.block.number) one ∙ ap (λ (n : Inode). n.block.number) (sym is.is)

-- the file that lists the groups has an inode
pub rindex_dinode : (image : Blocks) (rindex : Inode) → rindex.block.image ≡ image → IsRindex (image_at image) rindex.block.number → IsDinodeBlock rindex.block
rindex_dinode image rindex same is =
    let has : HasInode (image_at image) rindex.block.number = (Named (master_of (image_at image)) (codes "rindex"), record { by = is.0; claimed = is.1; dinode = refl }) in
    subst (λ (b : Blocks). HasInode (image_at b) rindex.block.number) (sym same) has

-- ---- the groups that it lists

-- each is a group of a whole list
pub are_groups : (im : Image) (groups : List Rindex) → IsWholeList im groups → All (HasSoundGroup im) groups
are_groups im groups list k e low = (groups, list, (k, slice_get-get_or groups k e low))

pub is_contained : (groups : List Rindex) (g : Rindex) → IsListed groups g → Contains groups g
is_contained groups g at = (at.0, got_low groups at.0 g at.1, got_is groups at.0 g g at.1)
