use Rattle.std.proofs.Common.{◌≡◌, ℕ, Some, refl, sym, ap, subst, ◌∙◌}
use Rattle.std.proofs.lemmas.Result.{IfOk-weaker}
use Rattle.gfs2_layout.specs.Device.{superblock_place}
use Rattle.gfs2_layout.specs.declared.superblock.SuperBlock.{SuperBlock}
use Rattle.image_model.specs.Claims.{Claims, IsUnder, root, master}
use Rattle.image_reader.specs.Found.{IsTreeOf}
use Rattle.image_model.specs.Owners.{Root, Master}
use Rattle.image_reader.specs.Leaves.{HasClaim}
use Rattle.image_reader.specs.Owning.{AreClaims}
use Rattle.image_reader.proofs.Leaves.{claim_kept}
use Rattle.image_reader.specs.Reading.{image_at}
use Rattle.image_reader.specs.declared.blocks.Blocks.{Blocks}
use Rattle.image_reader.specs.Untouched.{AreEntire, IsLimit, IsOfSome}
use Rattle.image_reader.proofs.TopClaims.{all_claims, root_limit, root_unclaimed}
use Rattle.image_reader.proofs.FoundStands.{found_stands}
use Rattle.image_reader.proofs.MasterFound.{are_groups}
use Rattle.image_reader.proofs.tree.read_from.Goals as goal

pub top-requires-clause-claimed : goal.top-requires-clause-claimed
top-requires-clause-claimed c =
    let at = ap (λ (s : SuperBlock). s.master.address) (sym c.requires.superblock) in
    let claim = subst (λ n. Claims (image_at c.args.image) (superblock_place c.args.image.size) n Master) at master in
    subst (λ (b : Blocks). Claims (image_at b) (superblock_place b.size) c.args.superblock.now.master.address Master) (sym c.in_ok-walk.ensures.image) claim

pub top-requires-2-clause-claimed : goal.top-requires-2-clause-claimed
top-requires-2-clause-claimed c =
    let walked : c.tree.new.self.image ≡ c.args.image = c.tree.ensures.same ∙ c.top.ensures.same ∙ c.in_ok-walk.ensures.image in
    let at = ap (λ (s : SuperBlock). s.root.address) (sym c.requires.superblock) in
    let claim = subst (λ n. Claims (image_at c.args.image) (superblock_place c.args.image.size) n Root) at root in
    subst (λ (b : Blocks). Claims (image_at b) (superblock_place b.size) c.args.superblock.now.root.address Root) (sym walked) claim

pub returns-clause-right : goal.returns-clause-right
returns-clause-right c =
    let walked : c.top-2.new.self.image ≡ c.args.image = c.top-2.ensures.same ∙ c.tree.ensures.same ∙ c.top.ensures.same ∙ c.in_ok-walk.ensures.image in
    let files = subst (λ (b : Blocks). IsTreeOf b c.in_ok-root.root.inode c.tree-2.new.found.items) walked c.in_ok-tree-2.ensures.found in
    let at = c.in_ok-root.ensures.number ∙ ap (λ (s : SuperBlock). s.root.address) c.requires.superblock in
    IfOk-weaker c.assemble.result _ _ (λ tree reads t stands. found_stands c.args.image c.in_ok-root.root.inode c.tree-2.new.found.items tree t files at reads stands) c.assemble.ensures.reads

pub top-requires-2-clause-unclaimed : goal.top-requires-2-clause-unclaimed
top-requires-2-clause-unclaimed c =
    root_unclaimed c.in_ok-walk.walk.owners.entries.items c.top.new.self.owners.entries.items c.tree.new.self.owners.entries.items Master refl c.in_ok-walk.ensures.empty c.in_ok-top.ensures.claims c.in_ok-tree.ensures.claims

pub tree-requires-2-clause-limit : goal.tree-requires-2-clause-limit
tree-requires-2-clause-limit c =
    let walked : c.top-2.new.self.image ≡ c.args.image = c.top-2.ensures.same ∙ c.tree.ensures.same ∙ c.top.ensures.same ∙ c.in_ok-walk.ensures.image in
    let at = c.in_ok-root.ensures.number ∙ ap (λ (s : SuperBlock). s.root.address) c.requires.superblock in
    let n = c.in_ok-root.root.inode.block.number in
    let P : Blocks → Type 0 = λ b. (a : ℕ) → IsUnder (image_at b) n a → IsLimit (image_at b) (Some 67108864) a in
    subst P (sym walked) (λ a. root_limit c.args.image n a 67108864 at refl)

pub check_groups-requires-clause-listed : goal.check_groups-requires-clause-listed
check_groups-requires-clause-listed c = are_groups (image_at c.args.image) c.args.groups.now c.requires.list

pub check_groups-requires-clause-claims : goal.check_groups-requires-clause-claims
check_groups-requires-clause-claims c =
    let image = c.args.image in
    let first : c.top.new.self.image ≡ image = c.top.ensures.same ∙ c.in_ok-walk.ensures.image in
    let second : c.top-2.new.self.image ≡ image = c.top-2.ensures.same ∙ c.tree.ensures.same ∙ first in
    let walked : c.tree-2.new.self.image ≡ image = c.tree-2.ensures.same ∙ second in
    let entries = c.tree-2.new.self.owners.entries.items in
    let of_root = claim_kept IsOfSome c.top-2.new.self.owners.entries.items entries _ Root c.in_ok-tree-2.ensures.claims c.in_ok-root.ensures.entered in
    let of_master = claim_kept IsOfSome c.top-2.new.self.owners.entries.items entries _ Master c.in_ok-tree-2.ensures.claims
    (claim_kept (λ o. o ≡ Root) c.tree.new.self.owners.entries.items c.top-2.new.self.owners.entries.items _ Master c.in_ok-root.ensures.claims
    (claim_kept IsOfSome c.top.new.self.owners.entries.items c.tree.new.self.owners.entries.items _ Master c.in_ok-tree.ensures.claims c.in_ok-top.ensures.entered)) in
    all_claims (image_at image) entries (subst (λ (b : Blocks). AreClaims (image_at b) entries) walked c.in_ok-tree-2.ensures.sound.claims)
    (subst (λ n. HasClaim entries n Root) (ap (λ (s : SuperBlock). s.root.address) c.requires.superblock) of_root)
    (subst (λ n. HasClaim entries n Master) (ap (λ (s : SuperBlock). s.master.address) c.requires.superblock) of_master)
    (subst (λ (b : Blocks). AreEntire (image_at b) entries) second c.in_ok-tree-2.ensures.entire)
