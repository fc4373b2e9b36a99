-- The descriptor at the head of a chunk. Places are in bytes from the block's start.
use Rattle.std.specs.Prelude.{ℕ, ◌==◌, if◌then◌else◌, List, [], ◌∷◌, Option, None, Some, Result, Ok, Err}
use Rattle.gfs2_layout.specs.Bytes.{u32_at}
use Rattle.gfs2_layout.specs.Structures.{header_fault}
use Rattle.gfs2_layout.specs.Writing.{header_put}
use Rattle.gfs2_layout.specs.declared.fault.LayoutFault.{LayoutFault}
use Rattle.gfs2_layout.specs.declared.fault.LayoutFault.TheVariants.{Value}
use Rattle.log_layout.specs.Fields.{Field, Four, with_fields}
use Rattle.log_layout.specs.declared.descriptor.ChunkKind.{ChunkKind}
use Rattle.log_layout.specs.declared.descriptor.ChunkKind.TheVariants.{Metadata, Revoke, Journaled}
use Rattle.log_layout.specs.declared.descriptor.LogDescriptor.{LogDescriptor}

-- the number that stands for a kind of chunk
abbrev pub kind_number : ChunkKind → ℕ
kind_number Metadata = 300
kind_number Revoke = 301
kind_number Journaled = 302

abbrev pub kind_of : ℕ → Option ChunkKind
kind_of n =
    if n == 300 then Some Metadata
    else if n == 301 then Some Revoke
    else if n == 302 then Some Journaled
    else None

abbrev pub descriptor_in : ChunkKind → List ℕ → LogDescriptor
descriptor_in kind bytes = record { jid = u32_at 20 bytes; kind = kind; length = u32_at 28 bytes; entries = u32_at 32 bytes }

abbrev pub of_kind : Option ChunkKind → List ℕ → Result LogDescriptor LayoutFault
of_kind None bytes = Err (Value 24 (u32_at 24 bytes))
of_kind (Some kind) bytes = Ok (descriptor_in kind bytes)

abbrev pub of_header : Option LayoutFault → List ℕ → Result LogDescriptor LayoutFault
of_header (Some fault) bytes = Err fault
of_header None bytes = of_kind (kind_of (u32_at 24 bytes)) bytes

abbrev pub descriptor_read : List ℕ → Result LogDescriptor LayoutFault
descriptor_read bytes = of_header (header_fault 72 9 900 bytes) bytes

-- the second of its two data numbers is written as zero and not looked at
abbrev pub descriptor_fields : LogDescriptor → List Field
descriptor_fields d =
    Four 24 (kind_number d.kind) ∷
    Four 28 d.length ∷
    Four 32 d.entries ∷
    Four 36 0 ∷ []

abbrev pub descriptor_put : LogDescriptor → List ℕ → List ℕ
descriptor_put d bytes = with_fields (descriptor_fields d) (header_put (record { kind = 9; format = 900; jid = d.jid }) bytes)
