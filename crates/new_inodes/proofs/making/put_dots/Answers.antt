use Rattle.std.proofs.Common.{◌-◌, sym, ap, ◌∙◌, subst, arith, length, length-drop}
use Rattle.std.proofs.lemmas.Slice.{take-put_mid_below}
use Rattle.gfs2_layout.specs.Area.{slots_of}
use Rattle.gfs2_layout.specs.Records.{IsRecordArea, records_in}
use Rattle.linear_dirs.specs.Shown.{dots_in}
use Rattle.linear_dirs.proofs.Looked.{rest_is, rest_put}
use Rattle.new_inodes.proofs.making.put_dots.Goals as goal

pub returns-clause-front : goal.returns-clause-front
returns-clause-front c = take-put_mid_below 232 (length c.args.block.now - 232) c.args.block.now c.begin.new.area 232 (omega arith) (omega (arith, c.requires.least))

pub returns-clause-slots : goal.returns-clause-slots
returns-clause-slots c =
    ap slots_of (rest_put 232 c.args.block.now c.begin.new.area (omega (arith, c.requires.least))) ∙ c.begin.ensures.slots
    ∙ ap (λ n. dots_in n c.args.own c.args.parent) (ap length (rest_is 232 c.args.block.now) ∙ length-drop 232 c.args.block.now)

pub returns-clause-records : goal.returns-clause-records
returns-clause-records c = ap records_in (rest_put 232 c.args.block.now c.begin.new.area (omega (arith, c.requires.least))) ∙ c.begin.ensures.records

pub returns-clause-area : goal.returns-clause-area
returns-clause-area c = subst IsRecordArea (sym (rest_put 232 c.args.block.now c.begin.new.area (omega (arith, c.requires.least)))) c.begin.ensures.area
