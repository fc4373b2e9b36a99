-- A descriptor is read as it was written.
use Rattle.std.proofs.Common.{◌≡◌, ℕ, ◌≤◌, List, length, drop, Option, None, Some, Ok, refl, sym, ap, ◌∙◌, inl, inr, arith}
use Rattle.std.specs.Prelude.{◌==◌, nat_lt}
use Rattle.std.proofs.lemmas.Bool.{cases_Bool, cond-true, cond-false, eqb-true}
use Rattle.std.specs.Int.{w32}
use Rattle.gfs2_layout.specs.Bytes.{u32_at}
use Rattle.gfs2_layout.specs.Structures.{magic, or_else, length_fault, magic_fault, header_of, header_read}
use Rattle.gfs2_layout.specs.declared.fault.LayoutFault.{LayoutFault}
use Rattle.gfs2_layout.specs.declared.fault.LayoutFault.TheVariants.{Short, Magic}
use Rattle.gfs2_layout.specs.declared.header.MetaHeader.{MetaHeader}
use Rattle.gfs2_layout.proofs.HeaderLaws.{answer_ok, some_none}
use Rattle.gfs2_layout.proofs.ReadBack.{no_header_fault}
use Rattle.log_layout.specs.Fields.{Four, HaveWidths, with_fields}
use Rattle.log_layout.specs.Descriptors.{kind_number, kind_of, of_kind, of_header, descriptor_in, descriptor_fields, descriptor_read}
use Rattle.log_layout.specs.declared.descriptor.ChunkKind.{ChunkKind}
use Rattle.log_layout.specs.declared.descriptor.ChunkKind.TheVariants.{Metadata, Revoke, Journaled}
use Rattle.log_layout.specs.declared.descriptor.LogDescriptor.{LogDescriptor}
use Rattle.log_layout.proofs.InPlace.{EndWithin, length-fields, number-fields_other, drop-fields, field-read}

pub kind_back : (k : ChunkKind) → kind_of (kind_number k) ≡ Some k
kind_back Metadata = refl
kind_back Revoke = refl
kind_back Journaled = refl

magic_from : (bytes : List ℕ) → or_else (length_fault 24 bytes) (magic_fault bytes) ≡ None → u32_at 0 bytes ≡ magic
magic_from bytes e = elim (cases_Bool (nat_lt (length bytes) 24)) [
  | inl short ↦ absurd (some_none Short (sym (ap (λ f. or_else f (magic_fault bytes)) (cond-true _ (Some Short) None short)) ∙ e))
  | inr long ↦ elim (cases_Bool (u32_at 0 bytes == magic)) [
    | inl a ↦ eqb-true (u32_at 0 bytes) magic a
    | inr off ↦ absurd (some_none Magic (sym (ap (λ f. or_else f (magic_fault bytes)) (cond-false _ (Some Short) None long) ∙ cond-false _ None (Some Magic) off) ∙ e))
  ]
]

module _ (d : LogDescriptor) (head bytes : List ℕ) (long : 72 ≤ length bytes) (as_long : length head ≡ length bytes)
    (is : header_read head ≡ Ok (record { kind = 9; format = 900; jid = d.jid })) (widths : HaveWidths (descriptor_fields d)) where
  room : EndWithin (descriptor_fields d) (length head)
  room = (omega (arith, long, as_long), (omega (arith, long, as_long), (omega (arith, long, as_long), (omega (arith, long, as_long), tt))))

  pub descriptor_back : descriptor_read (with_fields (descriptor_fields d) head) ≡ Ok d
  descriptor_back =
      let new = with_fields (descriptor_fields d) head in
      let h : MetaHeader = record { kind = 9; format = 900; jid = d.jid } in
      let both = answer_ok (or_else (length_fault 24 head) (magic_fault head)) (header_of head) h is in
      let other = λ (k : ℕ). number-fields_other (descriptor_fields d) head room w32 k in
      let at = λ (i : ℕ). field-read (descriptor_fields d) i (Four 0 0) head room widths in
      let long_new : 72 ≤ length new = omega (arith, long, as_long, length-fields (descriptor_fields d) head room) in
      let none = no_header_fault 72 9 900 new long_new (other 0 refl ∙ magic_from head both.0) (other 4 refl ∙ ap (λ (m : MetaHeader). m.kind) both.1) (other 16 refl ∙ ap (λ (m : MetaHeader). m.format) both.1) in
      let same : descriptor_in d.kind new ≡ d = λ i. record { jid = (other 20 refl ∙ ap (λ (m : MetaHeader). m.jid) both.1) i; kind = d.kind; length = at 1 refl i; entries = at 2 refl i } in
      ap (λ (f : Option LayoutFault). of_header f new) none ∙ ap (λ (k : Option ChunkKind). of_kind k new) (ap kind_of (at 0 refl) ∙ kind_back d.kind) ∙ (λ i. Ok (same i))

  pub descriptor_long : length (with_fields (descriptor_fields d) head) ≡ length bytes
  descriptor_long = length-fields (descriptor_fields d) head room ∙ as_long

  pub descriptor_behind : drop 72 (with_fields (descriptor_fields d) head) ≡ drop 72 head
  descriptor_behind = drop-fields (descriptor_fields d) head 72 room (omega arith, (omega arith, (omega arith, (omega arith, tt))))
