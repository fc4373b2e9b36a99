use Rattle.std.proofs.Common.{◌≡◌, ℕ, ◌+◌, cond, ap, ◌∙◌, is_some, List, Option}
use Rattle.std.specs.FinMap as map
use Rattle.std.specs.Ordering.{nat_cmp}
use Rattle.std.specs.Cmp.{nat_cmp_total}
use Rattle.frame_pool.specs.Frames.{Frames, with_bytes}
use Rattle.log_tables.proofs.Counting.{at_key, apart, len_with}
use Rattle.log_tables.proofs.frames.frame_with.Goals as goal

pub write_frame-requires-clause-out : goal.write_frame-requires-clause-out
write_frame-requires-clause-out c =
    ap (λ (p : Frames). is_some (map.get p.out c.take_frame-frame.result)) c.take_frame-frame.ensures.taken
    ∙ ap is_some (at_key c.args.pool.now.out c.take_frame-frame.result c.take_frame-frame.ensures.bytes)

pub returns : goal.returns
returns c =
    let old : Frames = c.args.pool.now in let f : ℕ = c.take_frame-frame.result in let first : List ℕ = c.take_frame-frame.ensures.bytes in
    let once : map.FinMap nat_cmp (List ℕ) = map.insert old.out f first in let bytes : List ℕ = c.args.bytes.now in
    let is : c.write_frame.new.pool ≡ with_bytes (with_bytes old f first) f bytes = c.write_frame.ensures ∙ ap (λ (p : Frames). with_bytes p f bytes) c.take_frame-frame.ensures.taken in
    record {
      size = ap (λ (p : Frames). p.size) is;
      count = ap (λ (p : Frames). p.count) is;
      was_in = c.take_frame-frame.ensures.was_in;
      here = ap (λ (p : Frames). map.get p.out f) is ∙ at_key once f bytes;
      others = λ g ne. ap (λ (p : Frames). map.get p.out g) is ∙ apart once f bytes g ne ∙ apart old.out f first g ne;
      more = ap (λ (p : Frames). map.len p.out) is ∙ map.len-insert nat_cmp_total once f bytes
          ∙ ap (λ (o : Option (List ℕ)). cond (is_some o) (map.len once) (map.len once + 1)) (at_key old.out f first)
          ∙ len_with old.out f first c.take_frame-frame.ensures.was_in;
    }
