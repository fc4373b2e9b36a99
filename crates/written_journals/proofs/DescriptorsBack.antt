-- A descriptor with numbers behind it is read as it was written.
use Rattle.std.proofs.Common.{◌≡◌, ◌+◌, ◌*◌, ◌<◌, ◌≤◌, ◌^◌, ℕ, List, length, Option, None, Some, Result, Ok, Err, refl, sym, ap, ◌∙◌, arith}
use Rattle.std.proofs.lemmas.List.{length-replicate}
use Rattle.std.specs.Prelude.{◌==◌, not, nat_lt, if◌then◌else◌}
use Rattle.std.specs.Int.{w32}
use Rattle.gfs2_layout.specs.Bytes.{u32_at}
use Rattle.gfs2_layout.specs.Structures.{header_fault, header_read, magic}
use Rattle.gfs2_layout.specs.Writing.{header_put}
use Rattle.gfs2_layout.specs.declared.fault.LayoutFault.{LayoutFault}
use Rattle.gfs2_layout.specs.declared.fault.LayoutFault.TheVariants.{Short, Magic, Kind, Format, Value}
use Rattle.gfs2_layout.specs.declared.header.MetaHeader.{MetaHeader}
use Rattle.gfs2_layout.proofs.HeaderLaws.{header_from}
use Rattle.gfs2_layout.specs.Writing.{header_fields}
use Rattle.gfs2_layout.proofs.FieldsInPlace.{length-fields}
use Rattle.gfs2_layout.proofs.ReadBack.{header_back}
use Rattle.log_layout.specs.Descriptors.{descriptor_fields, descriptor_put, descriptor_read, kind_number, kind_of, of_header, of_kind}
use Rattle.log_layout.specs.Fields.{HaveWidths}
use Rattle.log_layout.specs.declared.descriptor.ChunkKind.{ChunkKind}
use Rattle.log_layout.specs.declared.descriptor.ChunkKind.TheVariants.{Metadata, Revoke, Journaled}
use Rattle.log_layout.specs.declared.descriptor.LogDescriptor.{LogDescriptor}
use Rattle.log_layout.proofs.DescriptorBack.{descriptor_back, descriptor_long}
use Rattle.node_journal.specs.Encoding.{descriptor_block, zeros}
use Rattle.written_journals.proofs.NumbersBack.{length-numbers, numbers_below}

-- ---- two blocks that begin alike

-- what is read, by the numbers
abbrev of_numbers : Option LayoutFault → Option ChunkKind → ℕ → ℕ → ℕ → ℕ → Result LogDescriptor LayoutFault
of_numbers (Some fault) kind jid number blocks entries = Err fault
of_numbers None None jid number blocks entries = Err (Value 24 number)
of_numbers None (Some kind) jid number blocks entries = Ok (record { jid = jid; kind = kind; length = blocks; entries = entries })

by_numbers : (bytes : List ℕ) (fault : Option LayoutFault) (kind : Option ChunkKind) → header_fault 72 9 900 bytes ≡ fault → kind_of (u32_at 24 bytes) ≡ kind
    → descriptor_read bytes ≡ of_numbers fault kind (u32_at 20 bytes) (u32_at 24 bytes) (u32_at 28 bytes) (u32_at 32 bytes)
by_numbers bytes (Some f) kind e k = ap (λ (o : Option LayoutFault). of_header o bytes) e
by_numbers bytes None None e k = ap (λ (o : Option LayoutFault). of_header o bytes) e ∙ ap (λ (o : Option ChunkKind). of_kind o bytes) k
by_numbers bytes None (Some x) e k = ap (λ (o : Option LayoutFault). of_header o bytes) e ∙ ap (λ (o : Option ChunkKind). of_kind o bytes) k

fault_same : (a b : List ℕ) → length a ≡ length b → ((k : ℕ) → k + 4 ≤ 72 → u32_at k a ≡ u32_at k b) → header_fault 72 9 900 a ≡ header_fault 72 9 900 b
fault_same a b long same =
    let zero_ = same 0 (omega arith) in
    let four = same 4 (omega arith) in
    let sixteen = same 16 (omega arith) in
    λ i. if nat_lt (long i) 72 then Some Short
    else if not (zero_ i == magic) then Some Magic
    else if not (four i == 9) then Some (Kind (four i))
    else if not (sixteen i == 900) then Some (Format (sixteen i))
    else None

pub descriptor_same : (a b : List ℕ) → length a ≡ length b → ((k : ℕ) → k + 4 ≤ 72 → u32_at k a ≡ u32_at k b) → descriptor_read a ≡ descriptor_read b
descriptor_same a b long same =
    by_numbers a (header_fault 72 9 900 b) (kind_of (u32_at 24 b)) (fault_same a b long same) (ap kind_of (same 24 (omega arith)))
    ∙ (λ i. of_numbers (header_fault 72 9 900 b) (kind_of (u32_at 24 b)) (same 20 (omega arith) i) (same 24 (omega arith) i) (same 28 (omega arith) i) (same 32 (omega arith) i))
    ∙ sym (by_numbers b (header_fault 72 9 900 b) (kind_of (u32_at 24 b)) refl refl)

-- what is read as a descriptor has its kind
kind_read : (bytes : List ℕ) (d : LogDescriptor) → descriptor_read bytes ≡ Ok d → u32_at 4 bytes ≡ 9
kind_read bytes d is = by (header_fault 72 9 900 bytes) refl
  where
    by : (o : Option LayoutFault) → header_fault 72 9 900 bytes ≡ o → u32_at 4 bytes ≡ 9
    by None e = (header_from 72 9 900 bytes e).kind_is
    by (Some f) e = let bad : Err f ≡ Ok d = sym (ap (λ (o : Option LayoutFault). of_header o bytes) e) ∙ is in absurd cc

-- ---- a descriptor as it is written

module _ (size jid blocks entries : ℕ) (kind : ChunkKind) (numbers : List ℕ) (room : 72 + 8 * length numbers ≤ size) (jid_low : jid < 2 ^ 32) (blocks_low : blocks < 2 ^ 32) (entries_low : entries < 2 ^ 32) where
  abbrev pub d : LogDescriptor
  d = record { jid = jid; kind = kind; length = blocks; entries = entries }

  abbrev pub h : MetaHeader
  h = record { kind = 9; format = 900; jid = jid }

  long : length (zeros size) ≡ size
  long = length-replicate size 0

  head_read : header_read (header_put h (zeros size)) ≡ Ok h
  head_read = header_back h (zeros size) (omega (arith, long, room)) (omega arith, (omega arith, (omega arith, (jid_low, tt))))

  head_long : length (header_put h (zeros size)) ≡ length (zeros size)
  head_long = length-fields (header_fields h) (zeros size) (omega (arith, long, room))

  widths : HaveWidths (descriptor_fields d)
  widths = (kind_low kind, (blocks_low, (entries_low, (omega arith, tt))))
    where
      kind_low : (k : ChunkKind) → kind_number k < 2 ^ 32
      kind_low Metadata = omega arith
      kind_low Revoke = omega arith
      kind_low Journaled = omega arith

  put_read : descriptor_read (descriptor_put d (zeros size)) ≡ Ok d
  put_read = descriptor_back d (header_put h (zeros size)) (zeros size) (omega (arith, long, room)) head_long head_read widths

  pub put_long : length (descriptor_put d (zeros size)) ≡ size
  put_long = descriptor_long d (header_put h (zeros size)) (zeros size) (omega (arith, long, room)) head_long head_read widths ∙ long

  pub fits : 72 + 8 * length numbers ≤ length (descriptor_put d (zeros size))
  fits = omega (arith, put_long, room)

  pub block_long : length (descriptor_block size jid kind blocks entries numbers) ≡ size
  block_long = length-numbers 72 numbers (descriptor_put d (zeros size)) fits ∙ put_long

  pub block_read : descriptor_read (descriptor_block size jid kind blocks entries numbers) ≡ Ok d
  block_read =
      descriptor_same (descriptor_block size jid kind blocks entries numbers) (descriptor_put d (zeros size)) (length-numbers 72 numbers (descriptor_put d (zeros size)) fits)
      (λ k below. numbers_below 72 numbers (descriptor_put d (zeros size)) w32 k fits below)
      ∙ put_read

  -- the header of a descriptor is no log header's
  pub block_kind : u32_at 4 (descriptor_block size jid kind blocks entries numbers) ≡ 9
  block_kind = kind_read (descriptor_block size jid kind blocks entries numbers) d block_read
