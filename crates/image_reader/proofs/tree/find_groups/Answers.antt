use Rattle.std.proofs.Common.{ℕ, ◌≡◌, ◌%◌, ap, sym, subst, ◌∙◌}
use Rattle.gfs2_layout.specs.Headers.{HasHeader}
use Rattle.gfs2_layout.specs.Inode.{content_of, dinode_in}
use Rattle.image_model.specs.Claims.{every, IsRindex}
use Rattle.image_model.specs.Groups.{groups_in}
use Rattle.image_model.specs.Rules.{IsSoundList, IsWholeList}
use Rattle.image_reader.specs.Reading.{image_at}
use Rattle.image_reader.specs.declared.blocks.Blocks.{Blocks}
use Rattle.image_model.proofs.Listing.{all_fit, all_by_index, sound_list}
use Rattle.image_reader.proofs.tree.find_groups.Goals as goal

pub check_cover-requires-clause-list : goal.check_cover-requires-clause-list
check_cover-requires-clause-list c =
    let im = image_at c.args.image in
    let d = c.in_ok-rindex.rindex.block.number in
    let same = c.in_ok-rindex.ensures.image ∙ c.in_ok-walk.ensures.image in
    let listed = c.in_ok-groups.ensures.listed ∙ ap groups_in (c.deref.ensures.value ∙ c.in_ok-content.ensures.content ∙ ap (λ (b : Blocks). content_of (every (image_at b) d)) same) in
    let rindex = subst (λ (b : Blocks). IsRindex (image_at b) d) c.in_ok-walk.ensures.image c.in_ok-rindex.ensures.rindex in
    let only = subst (λ (b : Blocks). (e : ℕ) → IsRindex (image_at b) e → e ≡ d) c.in_ok-walk.ensures.image c.in_ok-rindex.ensures.only in
    let header = subst (λ (b : Blocks). HasHeader 4 400 ((image_at b).at d)) same c.in_ok-rindex.rindex.headed in
    let whole = subst (λ (b : Blocks). (dinode_in (every (image_at b) d)).size % 96 ≡ 0) same c.in_ok-check_entries.ensures.whole in
    subst (IsSoundList im) (sym c.deref-2.ensures.value) (sound_list im d c.in_ok-groups.groups.items rindex only header whole listed c.in_ok-groups.ensures.rise)

pub returns-clause-fit : goal.returns-clause-fit
returns-clause-fit c = all_by_index _ c.in_ok-groups.groups.items (all_fit (image_at c.args.image) 0 c.in_ok-groups.groups.items c.in_ok-groups.ensures.rise)

pub returns-clause-list : goal.returns-clause-list
returns-clause-list c = subst (IsWholeList (image_at c.args.image)) c.deref-2.ensures.value c.in_ok-check_cover.ensures.whole
