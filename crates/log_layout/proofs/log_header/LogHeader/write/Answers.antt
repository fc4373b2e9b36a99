use Rattle.std.proofs.Common.{◌≡◌, List, ℕ, ◌-◌, ◌≤◌, ◌<◌, ◌^◌, length, drop, replicate, ap, subst, ◌∙◌, sym, Ok, arith}
use Rattle.log_layout.specs.Headers.{log_read, as_read, with_crc, crc_of, later_fields}
use Rattle.log_layout.specs.Fields.{with_fields}
use Rattle.log_layout.proofs.HeaderBack.{later_back, later_behind, plain_back, plain_behind}
use Rattle.log_layout.proofs.log_header.LogHeader.write.Goals as goal

-- the block before the later fields, and what is known of it
module _ (c : goal.After-slice_known-in-Some-2-1) where
  long : 120 ≤ length c.write.new.block
  long = omega (arith, c.requires, c.write.auto.block)

  low : crc_of (with_fields (later_fields c.in-Some.later) c.write.new.block) < 2 ^ 32
  low = subst (λ (b : List ℕ). crc_of b < 2 ^ 32) c.write-in-Some.ensures.bytes c.put_checksum.ensures.width

  is : c.put_checksum.new.bytes ≡ with_crc (with_fields (later_fields c.in-Some.later) c.write.new.block)
  is = c.put_checksum.ensures.bytes ∙ ap with_crc c.write-in-Some.ensures.bytes

  zeros : drop 48 c.write.new.block ≡ replicate (length c.write.new.block - 48) 0
  zeros = c.write.ensures.behind ∙ ap (λ n. replicate n 0) (ap (λ n. n - 48) (sym c.write.auto.block))

pub returns-in-Some-clause-read : goal.returns-in-Some-clause-read
returns-in-Some-clause-read c =
    ap log_read (is c)
    ∙ later_back c.args.self.now c.in-Some.later c.write.new.block (long c) c.write.ensures.read c.in-Some.is c.write-in-Some.ensures.widths (low c)
    ∙ (λ i. Ok (as_read c.args.self.now (sym (is c) i)))

pub returns-in-Some-clause-behind : goal.returns-in-Some-clause-behind
returns-in-Some-clause-behind c =
    ap (drop 120) (is c)
    ∙ later_behind c.args.self.now c.in-Some.later c.write.new.block (long c) c.write.ensures.read c.in-Some.is c.write-in-Some.ensures.widths (low c) (zeros c)
    ∙ ap (λ n. replicate (n - 120) 0) c.write.auto.block

pub returns-in_default-clause-read : goal.returns-in_default-clause-read
returns-in_default-clause-read c = plain_back c.args.self.now c.write.new.block (omega (arith, c.requires, c.write.auto.block)) c.write.ensures.read (c.write.ensures.behind ∙ ap (λ n. replicate (n - 48) 0) (sym c.write.auto.block))

pub returns-in_default-clause-behind : goal.returns-in_default-clause-behind
returns-in_default-clause-behind c = plain_behind c.write.new.block (c.write.ensures.behind ∙ ap (λ n. replicate (n - 48) 0) (sym c.write.auto.block)) ∙ ap (λ n. replicate (n - 120) 0) c.write.auto.block
