use Rattle.std.proofs.Common.{◌≡◌, ◌<◌, ◌^◌, drop, ap, subst, ◌∙◌, sym}
use Rattle.std.proofs.lemmas.List.{drop-drop}
use Rattle.log_layout.specs.Fields.{with_fields, HaveWidths}
use Rattle.log_layout.specs.Descriptors.{descriptor_fields, descriptor_read}
use Rattle.log_layout.proofs.DescriptorBack.{descriptor_back, descriptor_behind}
use Rattle.log_layout.proofs.descriptor.LogDescriptor.write.Goals as goal

over_head : (c : goal.After-slice_known-6-1) → c.put_u32-4.new.bytes ≡ with_fields (descriptor_fields c.args.self.now) c.write.new.bytes
unfolding with_fields
over_head c = cc

pub returns-clause-bytes : goal.returns-clause-bytes
returns-clause-bytes c = over_head c ∙ ap (with_fields (descriptor_fields c.args.self.now)) c.write.ensures.bytes

widths : (c : goal.After-slice_known-6-1) → HaveWidths (descriptor_fields c.args.self.now)
widths c = (subst (λ n. n < 2 ^ 32) c.number.ensures c.put_u32.ensures.width, (c.put_u32-2.ensures.width, (c.put_u32-3.ensures.width, (c.put_u32-4.ensures.width, tt))))

pub returns-clause-read : goal.returns-clause-read
returns-clause-read c = ap descriptor_read (over_head c) ∙ descriptor_back c.args.self.now c.write.new.bytes c.args.bytes.now c.requires c.write.auto.bytes c.write.ensures.read (widths c)

pub returns-clause-behind : goal.returns-clause-behind
returns-clause-behind c = ap (drop 72) (over_head c) ∙ descriptor_behind c.args.self.now c.write.new.bytes c.args.bytes.now c.requires c.write.auto.bytes c.write.ensures.read (widths c) ∙ behind_more
  where
    behind_more : drop 72 c.write.new.bytes ≡ drop 72 c.args.bytes.now
    behind_more = sym (drop-drop 48 24 c.write.new.bytes) ∙ ap (drop 48) c.write.ensures.behind ∙ drop-drop 48 24 c.args.bytes.now
