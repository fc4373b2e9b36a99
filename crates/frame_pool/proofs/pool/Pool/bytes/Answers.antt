use Rattle.std.proofs.Common.{vec_len, length, ap, sym, ◌∙◌, Some}
use Rattle.frame_pool.proofs.Pooling.{out_inside, bytes_inside, no_overflow}
use Rattle.frame_pool.proofs.Side.{frame_within, length-frame_at}
use Rattle.frame_pool.proofs.pool.Pool.bytes.Goals as goal

pub overflow_mul-frame-inside : goal.overflow_mul-frame-inside
overflow_mul-frame-inside c =
    let p = c.self.inside in record { fits = no_overflow p c.self.invariant c.frame.inside.number (out_inside p c.frame.inside.number _ _ c.self.view_is c.frame.view_is c.requires).0 }

pub part-requires : goal.part-requires
part-requires c =
    let p = c.self.inside in let out = out_inside p c.frame.inside.number _ _ c.self.view_is c.frame.view_is c.requires in
    frame_within p.size (vec_len p.order) p.region c.self.invariant.region c.frame.inside.number out.0

pub returns : goal.returns
returns c =
    let p = c.self.inside in let out = out_inside p c.frame.inside.number _ _ c.self.view_is c.frame.view_is c.requires in
    record {
      bytes = bytes_inside p c.frame.inside.number _ _ c.self.view_is c.frame.view_is c.requires ∙ ap Some (sym c.part.ensures);
      whole = ap length c.part.ensures ∙ length-frame_at p.size (vec_len p.order) p.region c.self.invariant.region c.frame.inside.number out.0 ∙ ap (λ v. v.size) c.self.view_is;
    }
