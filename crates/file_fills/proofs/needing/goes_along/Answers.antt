use Rattle.std.proofs.Common.{◌*◌, ◌+◌, ◌<◌, sym, ap, subst, ◌∙◌}
use Rattle.gfs2_layout.specs.Bytes.{u64_at}
use Rattle.gfs2_layout.specs.Inode.{fan}
use Rattle.gfs2_layout.specs.declared.dinode.Dinode.{Dinode}
use Rattle.file_fills.proofs.Counted.{pointers_go_along}
use Rattle.file_fills.proofs.needing.goes_along.Goals as goal

pub returns-else-dinode-eq0 : goal.returns-else-dinode-eq0
returns-else-dinode-eq0 c h o d_is =
    pointers_go_along h c.has_pointer.result (λ e. c.if-dinode-eq0.false (ap (λ (d : Dinode). d.height) d_is ∙ e)) (
      λ t. let found = c.has_pointer.ensures.0 t in (found.0, subst (λ n. found.0 < fan n 232) o.size found.1, λ e. found.2 (ap (u64_at (232 + 8 * found.0)) (sym o.same) ∙ e)),
      λ found. c.has_pointer.ensures.1 (found.0, subst (λ n. found.0 < fan n 232) (sym o.size) found.1, λ e. found.2 (ap (u64_at (232 + 8 * found.0)) o.same ∙ e)),
    )
