use Rattle.std.proofs.Common.{length, drop, sym, ap, ◌∙◌, subst}
use Rattle.gfs2_layout.specs.Area.{IsArea}
use Rattle.gfs2_layout.specs.Inode.{leaf_length}
use Rattle.gfs2_layout.specs.Records.{records_in}
use Rattle.linear_dirs.proofs.Looked.{rest_is}
use Rattle.hash_dirs.proofs.Gathered.{same_some}
use Rattle.hash_dirs.proofs.gathering.records_at.Goals as goal

pub count_records-requires : goal.count_records-requires
count_records-requires g c =
    let same = same_some (c.in-Some.ensures.some) c.requires.there in
    subst IsArea (ap (drop leaf_length) (sym same) ∙ sym (rest_is leaf_length c.in-Some.bytes.now)) c.requires.area.filled

pub returns : goal.returns
returns g c bytes there =
    c.count_records.ensures ∙ ap (λ area. length (records_in area)) (rest_is leaf_length c.in-Some.bytes.now ∙ ap (drop leaf_length) (same_some c.in-Some.ensures.some there))
