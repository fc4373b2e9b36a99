use Rattle.std.proofs.Common.{◌≡◌, length, rules, ap, subst, ◌∙◌}
use Rattle.image_model.specs.Image.{image_of}
use Rattle.disk_trees.specs.Reading.{ending}
use Rattle.image_reader.specs.Reading.{IsTrueOf}
use Rattle.disk_trees.proofs.Answered.{same_image, stands_read, gives_handed, told_handed}
use Rattle.disk_trees.proofs.Over.{over, put_read, written_back}
use Rattle.disk_trees.proofs.replayed.read_replayed_tree.Goals as goal

pub returns-in_err-read_tree-clause-stands : goal.returns-in_err-read_tree-clause-stands
returns-in_err-read_tree-clause-stands g c tells t stands =
    let s = over (g.D.SharedDisk.state c.args.disk.now) c.args.plans.now in
    let long : length c.put_plans.new.row ≡ length c.in_ok-bytes.bytes.items = c.put_plans.ensures.length ∙ ap length c.deref_mut.ensures.value in
    let count : c.in_ok-bytes.bytes.len ≡ length c.in_ok-bytes.bytes.items = search rules in
    let back = written_back c.put_plans.new.row c.in_ok-bytes.bytes.items c.in_ok-bytes.bytes.len long count in
    let is : c.new.result ≡ c.put_plans.new.row = search (rules, c.new.ensures, c.deref_mut.ensures.writes_back, back) in
    let same = same_image s c.block_size-block_size.result c.put_plans.new.row c.new.result c.block_size-block_size.ensures c.requires.size tells is
    (put_read (g.D.SharedDisk.state c.args.disk.now) c.args.plans.now c.in_ok-bytes.bytes.items c.deref_mut.result.now c.put_plans.new.row c.block_size-block_size.result c.block_size-block_size.ensures c.deref_mut.ensures.value
    c.in_ok-bytes.ensures.blocks c.put_plans.ensures.length c.put_plans.ensures.blocks) in
    gives_handed t _ _ c.from_residual-in_err-read_tree.ensures.1 (c.in_err-read_tree.ensures.stands t (stands_read s _ _ t same stands))

pub returns-in_err-read_tree-clause-damaged : goal.returns-in_err-read_tree-clause-damaged
returns-in_err-read_tree-clause-damaged g c =
    let s = over (g.D.SharedDisk.state c.args.disk.now) c.args.plans.now in
    let long : length c.put_plans.new.row ≡ length c.in_ok-bytes.bytes.items = c.put_plans.ensures.length ∙ ap length c.deref_mut.ensures.value in
    let count : c.in_ok-bytes.bytes.len ≡ length c.in_ok-bytes.bytes.items = search rules in
    let back = written_back c.put_plans.new.row c.in_ok-bytes.bytes.items c.in_ok-bytes.bytes.len long count in
    let is : c.new.result ≡ c.put_plans.new.row = search (rules, c.new.ensures, c.deref_mut.ensures.writes_back, back) in
    told_handed _ (ending (image_of s)) _ _ c.from_residual-in_err-read_tree.ensures.1
    (λ tells.
    let same = same_image s c.block_size-block_size.result c.put_plans.new.row c.new.result c.block_size-block_size.ensures c.requires.size tells is
    (put_read (g.D.SharedDisk.state c.args.disk.now) c.args.plans.now c.in_ok-bytes.bytes.items c.deref_mut.result.now c.put_plans.new.row c.block_size-block_size.result c.block_size-block_size.ensures c.deref_mut.ensures.value
    c.in_ok-bytes.ensures.blocks c.put_plans.ensures.length c.put_plans.ensures.blocks) in
    subst (λ im. IsTrueOf im c.in_err-read_tree.field-0.0) same c.in_err-read_tree.ensures.damaged)

pub returns-clause-stands : goal.returns-clause-stands
returns-clause-stands g c tells t stands =
    let s = over (g.D.SharedDisk.state c.args.disk.now) c.args.plans.now in
    let long : length c.put_plans.new.row ≡ length c.in_ok-bytes.bytes.items = c.put_plans.ensures.length ∙ ap length c.deref_mut.ensures.value in
    let count : c.in_ok-bytes.bytes.len ≡ length c.in_ok-bytes.bytes.items = search rules in
    let back = written_back c.put_plans.new.row c.in_ok-bytes.bytes.items c.in_ok-bytes.bytes.len long count in
    let is : c.new.result ≡ c.put_plans.new.row = search (rules, c.new.ensures, c.deref_mut.ensures.writes_back, back) in
    let same = same_image s c.block_size-block_size.result c.put_plans.new.row c.new.result c.block_size-block_size.ensures c.requires.size tells is
    (put_read (g.D.SharedDisk.state c.args.disk.now) c.args.plans.now c.in_ok-bytes.bytes.items c.deref_mut.result.now c.put_plans.new.row c.block_size-block_size.result c.block_size-block_size.ensures c.deref_mut.ensures.value
    c.in_ok-bytes.ensures.blocks c.put_plans.ensures.length c.put_plans.ensures.blocks) in
    c.in_ok-read_tree.ensures.stands t (stands_read s _ _ t same stands)
