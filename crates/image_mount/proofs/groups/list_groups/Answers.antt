use Rattle.std.proofs.Common.{◌≡◌, inl, ◌%◌, length, refl, sym, ap, subst, ◌∙◌, arith}
use Rattle.gfs2_layout.specs.Inode.{dinode_in}
use Rattle.dinode_tree.specs.Reading.{IsRightDinode}
use Rattle.gfs2_layout.specs.declared.dinode.Dinode.{Dinode}
use Rattle.std.specs.Prelude.{codes}
use Rattle.image_model.specs.Claims.{every, Claims, IsRindex, master_of}
use Rattle.image_model.specs.Owners.{Named}
use Rattle.image_model.specs.Groups.{groups_in}
use Rattle.image_model.specs.Rules.{HasRecordIn}
use Rattle.image_model.specs.SystemFiles.{is_rindex}
use Rattle.image_mount.specs.Looks.{IsLookedAt}
use Rattle.image_mount.specs.Found.{IsReached}
use Rattle.image_mount.specs.Marked.{HasKeptContent}
use Rattle.image_mount.specs.Refusals.{RefusesRightly}
use Rattle.image_mount.proofs.Grouping.{list_of, list_groups, groups_some, groups_are}
use Rattle.image_mount.proofs.Stops.{passed, stopped}
use Rattle.image_mount.proofs.groups.list_groups.Goals as goal

pub returns-in_err-check_record-clause-stops : goal.returns-in_err-check_record-clause-stops
returns-in_err-check_record-clause-stops c im read of_count is =
    let inode = c.in_ok-inode.inode in
    let dinode : inode.dinode ≡ dinode_in (every im inode.block) = c.in_ok-inode.ensures.found im read ∙ ap (λ a. dinode_in (every im a)) (sym c.in_ok-inode.ensures.block) in
    stopped im _ _ c.from_residual-in_err-check_record.ensures.1
    (c.in_err-check_record.ensures.refused im (master_of im) is.named.row dinode is.found.format (subst (IsReached im) (sym c.in_ok-inode.ensures.from) is.named.reached) (subst (λ x. HasRecordIn im (master_of im) x is.named.row) (sym c.in_ok-inode.ensures.from) is.named.there) is.named.is)

pub returns-in_err-bytes-clause-stops : goal.returns-in_err-bytes-clause-stops
returns-in_err-bytes-clause-stops c im read of_count is =
    let inode = c.in_ok-inode.inode in
    let block = c.in_ok-inode.ensures.block in
    let dinode : inode.dinode ≡ dinode_in (every im inode.block) = c.in_ok-inode.ensures.found im read ∙ ap (λ a. dinode_in (every im a)) (sym block) in
    stopped im _ _ c.from_residual-in_err-bytes.ensures.1
    (c.in_err-bytes.ensures.refused im is.layout is.found (subst (IsReached im) (sym block) (c.in_ok-inode.ensures.reached im read)) (is.rindex ∙ sym block) dinode (c.block_size-size.ensures.value ∙ read.size) (subst (λ a. IsRightDinode (every im a)) (sym block) (c.in_ok-inode.ensures.right im read)))

pub returns-in_err-content-clause-stops : goal.returns-in_err-content-clause-stops
returns-in_err-content-clause-stops c im read of_count is =
    let inode = c.in_ok-inode.inode in
    let at = c.in_ok-inode.ensures.block in
    passed im _ _ c.from_residual-in_err-content.ensures.1
    (c.in_err-content.ensures.stops im (Named (master_of im) (codes "rindex")) read
    (subst (λ a. Claims im inode.from a (Named (master_of im) (codes "rindex"))) (sym at) (subst (λ b. Claims im b c.args.rindex.now.entry.addr (Named (master_of im) (codes "rindex"))) (sym c.in_ok-inode.ensures.from) is.named.claimed))
    refl is.found.format (subst (IsReached im) (sym c.in_ok-inode.ensures.from) is.named.reached) (inl (subst (IsRindex im) (is.rindex ∙ sym at) is.found.rindex)))

pub returns-in_err-groups-clause-stops : goal.returns-in_err-groups-clause-stops
returns-in_err-groups-clause-stops c im read of_count is = stopped im _ _ c.from_residual-in_err-groups.ensures.1 (subst (RefusesRightly im) (sym c.in_err-groups.ensures.memory) tt)

pub returns-in_err-check_groups-clause-stops : goal.returns-in_err-check_groups-clause-stops
returns-in_err-check_groups-clause-stops c im read of_count is =
    let inode = c.in_ok-inode.inode in
    let dinode : inode.dinode ≡ dinode_in (every im inode.block) = c.in_ok-inode.ensures.found im read ∙ ap (λ a. dinode_in (every im a)) (sym c.in_ok-inode.ensures.block) in
    let size : (dinode_in (every im inode.block)).size ≡ c.in_ok-bytes.bytes = ap (λ (d : Dinode). d.size) (sym dinode) ∙ sym c.in_ok-bytes.ensures.value in
    let whole : (dinode_in (every im inode.block)).size % 96 ≡ 0 = ap (λ (d : Dinode). d.size % 96) (sym dinode) ∙ c.in_ok-bytes.ensures.whole in
    let looked : IsLookedAt im inode.block = record {
      dinode = subst (λ a. IsRightDinode (every im a)) (sym c.in_ok-inode.ensures.block) (c.in_ok-inode.ensures.right im read);
      sized = c.in_ok-bytes.ensures.sized im dinode (c.block_size-size.ensures.value ∙ read.size);
    } in
    let content = c.in_ok-content.content.items in
    let listed : c.deref-2.result.now ≡ groups_in content = c.deref-2.ensures.value ∙ c.in_ok-groups.ensures.found ∙ ap groups_in c.deref.ensures.value in
    let list = list_of im c.block_size-size.result c.args.count inode.block c.args.rindex.now c.deref-2.result.now content is (c.block_size-size.ensures.value ∙ read.size) of_count c.in_ok-inode.ensures.block (subst (IsReached im) (sym c.in_ok-inode.ensures.block) (c.in_ok-inode.ensures.reached im read)) looked whole
    (c.in_ok-content.ensures.found im read size) listed in
    stopped im _ _ c.from_residual-in_err-check_groups.ensures.1
    (c.in_err-check_groups.ensures.refused im list (groups_some c.deref-2.result.now content c.in_ok-bytes.bytes listed (c.in_ok-content.ensures.length im read size) c.in_ok-bytes.ensures.least))

pub returns-clause-found : goal.returns-clause-found
returns-clause-found c im read of_count is =
    let inode = c.in_ok-inode.inode in
    let dinode : inode.dinode ≡ dinode_in (every im inode.block) = c.in_ok-inode.ensures.found im read ∙ ap (λ a. dinode_in (every im a)) (sym c.in_ok-inode.ensures.block) in
    let size : (dinode_in (every im inode.block)).size ≡ c.in_ok-bytes.bytes = ap (λ (d : Dinode). d.size) (sym dinode) ∙ sym c.in_ok-bytes.ensures.value in
    let whole : (dinode_in (every im inode.block)).size % 96 ≡ 0 = ap (λ (d : Dinode). d.size % 96) (sym dinode) ∙ c.in_ok-bytes.ensures.whole in
    let looked : IsLookedAt im inode.block = record {
      dinode = subst (λ a. IsRightDinode (every im a)) (sym c.in_ok-inode.ensures.block) (c.in_ok-inode.ensures.right im read);
      sized = c.in_ok-bytes.ensures.sized im dinode (c.block_size-size.ensures.value ∙ read.size);
    } in
    let content = c.in_ok-content.content.items in
    let listed : c.deref-2.result.now ≡ groups_in content = c.deref-2.ensures.value ∙ c.in_ok-groups.ensures.found ∙ ap groups_in c.deref.ensures.value in
    let list = list_of im c.block_size-size.result c.args.count inode.block c.args.rindex.now c.deref-2.result.now content is (c.block_size-size.ensures.value ∙ read.size) of_count c.in_ok-inode.ensures.block (subst (IsReached im) (sym c.in_ok-inode.ensures.block) (c.in_ok-inode.ensures.reached im read)) looked whole
    (c.in_ok-content.ensures.found im read size) listed in
    let value = c.deref-2.ensures.value in
    groups_are im inode.block c.args.rindex.now.entry.addr c.deref-2.result.now c.in_ok-groups.groups.items value c.in_ok-inode.ensures.block (record {
      reached = list.reached;
      looked = looked;
      headed = c.in_ok-content.ensures.headed im read size;
      whole = whole;
      listed = list_groups im _ _ _ _ list;
      some = groups_some c.deref-2.result.now content c.in_ok-bytes.bytes listed (c.in_ok-content.ensures.length im read size) c.in_ok-bytes.ensures.least;
      few = omega (arith, ap length value, c.in_ok-groups.ensures.most, ap length c.deref.ensures.value, c.in_ok-content.ensures.most, c.in_ok-bytes.ensures.short);
      fit = c.in_ok-check_groups.ensures.fit im list;
      short = c.in_ok-check_groups.ensures.short;
    })

pub returns-clause-repeats : goal.returns-clause-repeats
returns-clause-repeats c im read =
    let inode = c.in_ok-inode.inode in
    c.in_ok-check_record.ensures.repeats im (c.in_ok-inode.ensures.found im read ∙ ap (λ a. dinode_in (every im a)) (sym c.in_ok-inode.ensures.block))

pub returns-in_err-inode-clause-stops : goal.returns-in_err-inode-clause-stops
returns-in_err-inode-clause-stops c im read of_count is =
    passed im _ _ c.from_residual.ensures.1
    (c.in_err-inode.ensures.stops im (Named (master_of im) (codes "rindex")) read is.named.claimed refl is.found.format is.named.reached (is_rindex (c.args.rindex.now.from, is.named.claimed)))

pub returns-clause-kept : goal.returns-clause-kept
returns-clause-kept c im read =
    let inode = c.in_ok-inode.inode in
    let dinode : inode.dinode ≡ dinode_in (every im inode.block) = c.in_ok-inode.ensures.found im read ∙ ap (λ a. dinode_in (every im a)) (sym c.in_ok-inode.ensures.block) in
    let size : (dinode_in (every im inode.block)).size ≡ c.in_ok-bytes.bytes = ap (λ (d : Dinode). d.size) (sym dinode) ∙ sym c.in_ok-bytes.ensures.value in
    subst (λ a. HasKeptContent c.args.table.now (every im a)) c.in_ok-inode.ensures.block (c.in_ok-content.ensures.kept im read c.block_size-size.ensures.view size)
