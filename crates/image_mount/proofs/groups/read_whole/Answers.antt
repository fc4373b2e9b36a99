use Rattle.std.proofs.Common.{◌≡◌, ◌+◌, ◌-◌, [], length, sym, ap, ◌∙◌, arith}
use Rattle.gfs2_layout.specs.Structures.{dinode_of}
use Rattle.gfs2_layout.specs.declared.dinode.Dinode.{Dinode}
use Rattle.std.specs.Prelude.{min, unwrap_or}
use Rattle.std.proofs.Math.Nat.{min-le_left}
use Rattle.gfs2_layout.specs.Inode.{dinode_in}
use Rattle.dinode_tree.specs.Reading.{AreHeaded, content_range}
use Rattle.image_model.specs.Claims.{every}
use Rattle.image_mount.proofs.Grouping.{content_all, content_headed, none_before}
use Rattle.image_mount.proofs.KeptContent.{content_kept}
use Rattle.image_mount.proofs.Marked.{has_kept}
use Rattle.image_mount.proofs.Shown.{shown, inode_at, call_told}
use Rattle.image_mount.proofs.Steps.{answer_at, needed_at, seen_in, shown_by, lacks_needed}
use Rattle.image_mount.proofs.Stops.{passed, stopped}
use Rattle.image_mount.proofs.Wanted.{listing_file, wanted, wanted_below}
use Rattle.image_mount.specs.Kept.{seen_of}
use Rattle.image_mount.proofs.groups.read_whole.Goals as goal

pub returns-in_err-get-clause-stops : goal.returns-in_err-get-clause-stops
returns-in_err-get-clause-stops c im o read claimed dinode format low list =
    passed im _ _ c.from_residual.ensures.1 (wanted im c.args.inode.now.block c.args.inode.now.from o _ c.in_err-get.ensures.stops claimed dinode format low (listing_file im c.args.inode.now.block list))

pub returns-in_err-content-clause-stops : goal.returns-in_err-content-clause-stops
returns-in_err-content-clause-stops c im o read claimed dinode format low list =
    stopped im _ _ c.from_residual-in_err-content.ensures.1
    (call_told im c.args.table.now c.args.inode.now.block c.in_err-content.field-0.0 (inode_at im c.args.inode.now.from c.args.inode.now.block o claimed dinode) format read
    (c.in_err-content.ensures.damaged (every im c.args.inode.now.block) (shown im c.args.table.now c.args.inode.now.block read)) c.in_err-content.ensures.kept)

pub returns-in-Is-clause-found : goal.returns-in-Is-clause-found
returns-in-Is-clause-found c im read size =
    let a = c.args.inode.now.block in
    content_all im a c.args.bytes _ size
    (answer_at c.in_ok-content.field-0 c.in-Is.content (λ b. b.items ≡ content_range (every im a) 0 c.args.bytes) c.in-Is.is (c.in_ok-content.ensures.found (every im a) (shown im c.args.table.now a read) (none_before (every im a))))

pub returns-in-Is-clause-length : goal.returns-in-Is-clause-length
returns-in-Is-clause-length c im read size =
    let a = c.args.inode.now.block in
    let is = answer_at c.in_ok-content.field-0 c.in-Is.content (λ b. length b.items ≡ min c.args.bytes ((dinode_in (every im a)).size - 0)) c.in-Is.is (c.in_ok-content.ensures.length (every im a) (shown im c.args.table.now a read)) in
    omega (arith, is, size)

pub returns-in-Is-clause-whole : goal.returns-in-Is-clause-whole
unfolding dinode_in
returns-in-Is-clause-whole c kept size =
    let v = seen_of c.args.table.now in
    let a = c.args.inode.now.block in
    let dinode : c.args.inode.now.dinode ≡ dinode_in (seen_in v a) = kept _ c.in_ok-get.ensures.bytes ∙ sym (ap (λ o. dinode_of (unwrap_or o [])) c.in_ok-get.ensures.bytes) in
    let is = answer_at c.in_ok-content.field-0 c.in-Is.content (λ b. length b.items ≡ min c.args.bytes ((dinode_in (seen_in v a)).size - 0)) c.in-Is.is (c.in_ok-content.ensures.length (seen_in v a) (shown_by v a)) in
    omega (arith, is, size, ap (λ (d : Dinode). d.size) dinode)

pub returns-in-Is-clause-most : goal.returns-in-Is-clause-most
returns-in-Is-clause-most c =
    let v = seen_of c.args.table.now in
    let a = c.args.inode.now.block in
    let rest = (dinode_in (seen_in v a)).size - 0 in
    let is = answer_at c.in_ok-content.field-0 c.in-Is.content (λ b. length b.items ≡ min c.args.bytes rest) c.in-Is.is (c.in_ok-content.ensures.length (seen_in v a) (shown_by v a)) in
    omega (arith, is, min-le_left c.args.bytes rest)

pub returns-in-NeedBlock-clause-stops : goal.returns-in-NeedBlock-clause-stops
returns-in-NeedBlock-clause-stops c im o read claimed dinode format low list =
    let a = c.args.inode.now.block in
    wanted_below im c.args.table.now c.args.inode.now.from a o _ _ _ 0 c.in-NeedBlock.missing _ c.reads.ensures claimed dinode format list c.in_ok-get.ensures.bytes
    (needed_at c.in_ok-content.field-0 c.in-NeedBlock.missing _ c.in-NeedBlock.is (c.in_ok-content.ensures.needed (every im a) (shown im c.args.table.now a read)))
    (needed_at c.in_ok-content.field-0 c.in-NeedBlock.missing _ c.in-NeedBlock.is (c.in_ok-content.ensures.needed (seen_in (seen_of c.args.table.now) a) (shown_by (seen_of c.args.table.now) a))) read (λ i in_range. in_range.within)

pub returns-in-NeedBlock-clause-lacks : goal.returns-in-NeedBlock-clause-lacks
returns-in-NeedBlock-clause-lacks c =
    let v = seen_of c.args.table.now in
    let a = c.args.inode.now.block in
    lacks_needed c.args.table.now (seen_in v a) _ 0 c.in-NeedBlock.missing _ c.reads.ensures
    (needed_at c.in_ok-content.field-0 c.in-NeedBlock.missing _ c.in-NeedBlock.is (c.in_ok-content.ensures.needed (seen_in v a) (shown_by v a)))

pub returns-in-Is-clause-headed : goal.returns-in-Is-clause-headed
returns-in-Is-clause-headed c im read size =
    let a = c.args.inode.now.block in
    content_headed im a c.args.bytes (omega (arith, c.in_ok-get.ensures.least, c.in_ok-get.ensures.whole, read.size)) size
    (answer_at c.in_ok-content.field-0 c.in-Is.content (λ b. AreHeaded (every im a) 0 (min (0 + c.args.bytes) (dinode_in (every im a)).size)) c.in-Is.is (c.in_ok-content.ensures.headed (every im a) (shown im c.args.table.now a read)))

pub returns-in-Is-clause-kept : goal.returns-in-Is-clause-kept
returns-in-Is-clause-kept c im read view size =
    let a = c.args.inode.now.block in
    content_kept c.args.table.now a c.args.bytes c.in-Is.content.items view (has_kept c.args.table.now a (_, c.in_ok-get.ensures.bytes))
    (λ h shows. answer_at c.in_ok-content.field-0 c.in-Is.content (λ b. b.items ≡ content_range h 0 c.args.bytes) c.in-Is.is (c.in_ok-content.ensures.found h shows (none_before h)))
    (λ h shows. answer_at c.in_ok-content.field-0 c.in-Is.content (λ b. length b.items ≡ min c.args.bytes ((dinode_in h).size - 0)) c.in-Is.is (c.in_ok-content.ensures.length h shows))
    (λ h shows. answer_at c.in_ok-content.field-0 c.in-Is.content (λ b. AreHeaded h 0 (min (0 + c.args.bytes) (dinode_in h).size)) c.in-Is.is (c.in_ok-content.ensures.headed h shows))
    im read size
