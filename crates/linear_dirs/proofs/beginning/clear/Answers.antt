use Rattle.std.proofs.Common.{◌≡◌, ap, ◌∙◌, length, replicate, rules}
use Rattle.gfs2_layout.specs.declared.dirent.Dirent.{Dirent}
use Rattle.linear_dirs.proofs.Begun.{cleared_body}
use Rattle.linear_dirs.proofs.beginning.clear.Goals as goal

pub returns-clause-body : goal.returns-clause-body
returns-clause-body c =
    let zeros : c.fill.new.self ≡ replicate (length c.args.area.now) 0 = search rules in
    let long : length c.fill.new.self ≡ length c.args.area.now = c.fill.auto.self in
    cleared_body c.write.new.bytes c.fill.new.self (length c.args.area.now) (ap (λ (d : Dirent). d.rec_len) c.write.ensures.head ∙ long) c.write.ensures.behind zeros
