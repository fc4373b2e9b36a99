use Rattle.std.proofs.Common.{◌≡◌, ℕ, ◌-◌, ◌*◌, ◌/◌, ◌<◌, Some, None, sym, ap, subst, ◌∙◌, arith}
use Rattle.std.specs.Prelude.{IfSome}
use Rattle.std.specs.Option.{option_map}
use Rattle.dinode_tree.specs.Reading.{block_at}
use Rattle.dinode_tree.specs.declared.locating.Located.{Located}
use Rattle.gfs2_layout.specs.Inode.{Leads, content_count}
use Rattle.glock_names.specs.declared.steps.Step.TheVariants.{Is}
use Rattle.image_model.specs.Claims.{every}
use Rattle.image_mount.specs.Kept.{seen_of}
use Rattle.image_mount.proofs.Masters.{block_there, file_inode, hole_there, index_within, stuffed_block}
use Rattle.image_mount.proofs.Shown.{shown, damage_told, kept_on, leads_kept}
use Rattle.image_mount.proofs.Steps.{answer_at, needed_at, seen_in, shown_by, lacks_needed}
use Rattle.image_mount.proofs.Stops.{passed, stopped}
use Rattle.image_mount.proofs.Wanted.{content_wanted, listing_file, wanted, wanted_below}
use Rattle.image_mount.proofs.leaves.entry_block.Goals as goal

pub returns-in_err-get-clause-stops : goal.returns-in_err-get-clause-stops
returns-in_err-get-clause-stops c im read of =
    let inode = c.args.inode.now in
    passed im _ _ c.from_residual.ensures.1 (wanted im inode.block inode.from of.file.owner _ c.in_err-get.ensures.stops of.file.claimed of.file.is_inode of.file.format of.file.from_reached (listing_file im inode.block of.file.read))

pub returns-in_err-located-clause-stops : goal.returns-in_err-located-clause-stops
returns-in_err-located-clause-stops c im read of =
    let inode = c.args.inode.now in
    stopped im _ _ c.from_residual-in_err-located.ensures.1
    (damage_told im c.args.table.now inode.block c.in_err-located.field-0.0 (file_inode im inode of.file) of.file.format read
    (c.in_err-located.ensures.damaged (every im inode.block) (shown im c.args.table.now inode.block read)) c.in_err-located.ensures.kept)

pub returns-in_err-get-in-Is-Some-clause-stops : goal.returns-in_err-get-in-Is-Some-clause-stops
returns-in_err-get-in-Is-Some-clause-stops c im read of =
    let inode = c.args.inode.now in
    let a = inode.block in
    let v = seen_of c.args.table.now in
    let located = c.in-Is-Some.located in
    let index : ℕ = 8 * c.args.i / (c.from-unit.result - 24) in
    let is = c.in-Is-Some.is ∙ ap Is c.in-Is-Some.field-0-is in
    let leads = answer_at c.in_ok-located.field-0 (Some located) (λ o. IfSome o (λ (l : Located). (k : ℕ) × Leads (every im a) l.from k 0 index l.block)) is (c.in_ok-located.ensures.leads (every im a) (shown im c.args.table.now a read)) in
    let seen = answer_at c.in_ok-located.field-0 (Some located) (λ o. IfSome o (λ (l : Located). (k : ℕ) × Leads (seen_in v a) l.from k 0 index l.block)) is (c.in_ok-located.ensures.leads (seen_in v a) (shown_by v a)) in
    passed im _ _ c.from_residual-in_err-get-in-Is-Some.ensures.1
    (content_wanted im inode.from a located.from leads.0 index located.block of.file.owner _ c.in_err-get-in-Is-Some.ensures.stops of.file.claimed of.file.is_inode of.file.format of.file.read leads.1
    (kept_on im c.args.table.now located.from read (leads_kept c.args.table.now a located.from seen.0 0 index located.block seen.1))
    (index_within im inode c.args.pointers.now of c.args.i c.requires c.from-unit.result (c.from-unit.ensures ∙ c.block_size.ensures.value ∙ read.size) (omega (arith, c.in_ok-get.ensures.least, c.in_ok-get.ensures.whole, c.from-unit.ensures, c.block_size.ensures.value))))

pub returns-then-inode-eq0-clause-found : goal.returns-then-inode-eq0-clause-found
returns-then-inode-eq0-clause-found c im read of = stuffed_block im c.args.inode.now c.args.pointers.now of c.args.i c.requires c.if-inode-eq0.true

pub returns-in_ok-get-in-Is-Some-clause-found : goal.returns-in_ok-get-in-Is-Some-clause-found
returns-in_ok-get-in-Is-Some-clause-found c im read of =
    let inode = c.args.inode.now in
    let size : c.from-unit.result ≡ im.size = c.from-unit.ensures ∙ c.block_size.ensures.value ∙ read.size in
    block_there im inode c.args.pointers.now of c.args.i c.requires c.from-unit.result size (omega (arith, c.in_ok-get.ensures.least, c.in_ok-get.ensures.whole, c.from-unit.ensures, c.block_size.ensures.value)) c.in-Is-Some.located.block c.if-inode-eq0.false
    (answer_at c.in_ok-located.field-0 (Some c.in-Is-Some.located) (λ o. option_map (λ (l : Located). l.block) o ≡ block_at (every im inode.block) (8 * c.args.i / (c.from-unit.result - 24)))
    (c.in-Is-Some.is ∙ ap Is c.in-Is-Some.field-0-is) (c.in_ok-located.ensures.found (every im inode.block) (shown im c.args.table.now inode.block read)))

pub returns-in_ok-get-in-Is-Some-clause-reached : goal.returns-in_ok-get-in-Is-Some-clause-reached
returns-in_ok-get-in-Is-Some-clause-reached c im read of = kept_on im c.args.table.now c.in-Is-Some.located.block read (_, c.in_ok-get-in-Is-Some.ensures.bytes)

pub returns-in-Is-None-clause-found : goal.returns-in-Is-None-clause-found
returns-in-Is-None-clause-found c im read of =
    let inode = c.args.inode.now in
    let size : c.from-unit.result ≡ im.size = c.from-unit.ensures ∙ c.block_size.ensures.value ∙ read.size in
    hole_there im inode c.args.pointers.now of c.args.i c.requires c.from-unit.result size (omega (arith, c.in_ok-get.ensures.least, c.in_ok-get.ensures.whole, c.from-unit.ensures, c.block_size.ensures.value)) c.if-inode-eq0.false
    (answer_at c.in_ok-located.field-0 None (λ o. option_map (λ (l : Located). l.block) o ≡ block_at (every im inode.block) (8 * c.args.i / (c.from-unit.result - 24))) (c.in-Is-None.is ∙ ap Is c.in-Is-None.field-0-is)
    (c.in_ok-located.ensures.found (every im inode.block) (shown im c.args.table.now inode.block read)))

pub returns-in-NeedBlock-clause-stops : goal.returns-in-NeedBlock-clause-stops
returns-in-NeedBlock-clause-stops c im read of =
    let inode = c.args.inode.now in
    let v = seen_of c.args.table.now in
    wanted_below im c.args.table.now inode.from inode.block of.file.owner _ _ _ 1 c.in-NeedBlock.missing _ c.reads.ensures of.file.claimed of.file.is_inode of.file.format of.file.read
    c.in_ok-get.ensures.bytes
    (needed_at c.in_ok-located.field-0 c.in-NeedBlock.missing _ c.in-NeedBlock.is (c.in_ok-located.ensures.needed (every im inode.block) (shown im c.args.table.now inode.block read)))
    (needed_at c.in_ok-located.field-0 c.in-NeedBlock.missing _ c.in-NeedBlock.is (c.in_ok-located.ensures.needed (seen_in v inode.block) (shown_by v inode.block))) read
    (λ j same. subst (λ n. n < content_count (every im inode.block)) (sym same)
    (index_within im inode c.args.pointers.now of c.args.i c.requires c.from-unit.result (c.from-unit.ensures ∙ c.block_size.ensures.value ∙ read.size) (omega (arith, c.in_ok-get.ensures.least, c.in_ok-get.ensures.whole, c.from-unit.ensures, c.block_size.ensures.value))))

pub returns-in-NeedBlock-clause-lacks : goal.returns-in-NeedBlock-clause-lacks
returns-in-NeedBlock-clause-lacks c =
    let v = seen_of c.args.table.now in
    let a = c.args.inode.now.block in
    lacks_needed c.args.table.now (seen_in v a) _ 1 c.in-NeedBlock.missing _ c.reads.ensures
    (needed_at c.in_ok-located.field-0 c.in-NeedBlock.missing _ c.in-NeedBlock.is (c.in_ok-located.ensures.needed (seen_in v a) (shown_by v a)))
