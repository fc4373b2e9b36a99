use Rattle.std.proofs.Common.{◌*◌, vec_len, length, ap, sym, ◌∙◌, Some, refl}
use Rattle.frame_pool.specs.Lending.{with_bytes_over}
use Rattle.frame_pool.proofs.Pooling.{out_inside, bytes_inside, no_overflow, frames_of-written}
use Rattle.frame_pool.proofs.Regions.{length-with_part}
use Rattle.frame_pool.proofs.Side.{frame_within, length-frame_at}
use Rattle.frame_pool.proofs.pool.Pool.bytes_mut.Goals as goal

pub overflow_mul-frame-inside : goal.overflow_mul-frame-inside
overflow_mul-frame-inside c =
    let p = c.self.inside in record { fits = no_overflow p c.self.invariant c.frame.inside.number (out_inside p c.frame.inside.number _ _ c.self.view_is c.frame.view_is c.requires).0 }

pub part_mut-requires : goal.part_mut-requires
part_mut-requires c =
    let p = c.self.inside in let out = out_inside p c.frame.inside.number _ _ c.self.view_is c.frame.view_is c.requires in
    frame_within p.size (vec_len p.order) p.region c.self.invariant.region c.frame.inside.number out.0

pub invariant_of-self-lent : goal.invariant_of-self-lent
invariant_of-self-lent c = λ w.
    let p = c.self.inside in let ok = c.self.invariant in let n = c.frame.inside.number in
    let out = out_inside p n _ _ c.self.view_is c.frame.view_is c.requires in
    record {
      few = ok.few;
      short = ok.short;
      region = length-with_part p.region (n * p.size) p.size w (frame_within p.size (vec_len p.order) p.region ok.region n out.0) ∙ ok.region;
      placed = ok.placed;
      some_out = ok.some_out;
      stands = ok.stands;
      has_place = ok.has_place;
    }

pub returns : goal.returns
returns c =
    let p = c.self.inside in let ok = c.self.invariant in let n = c.frame.inside.number in
    let out = out_inside p n _ _ c.self.view_is c.frame.view_is c.requires in (
      (
        refl,
        λ w. frames_of-written p n w out.0 ok.region out.1 ∙ (λ i. with_bytes_over (c.self.view_is i) (c.frame.view_is i) w),
      ),
      record {
        written = tt;
        bytes = bytes_inside p n _ _ c.self.view_is c.frame.view_is c.requires ∙ ap Some (sym c.part_mut.ensures.value);
        whole = ap length c.part_mut.ensures.value ∙ length-frame_at p.size (vec_len p.order) p.region ok.region n out.0 ∙ ap (λ v. v.size) c.self.view_is;
      },
    )
