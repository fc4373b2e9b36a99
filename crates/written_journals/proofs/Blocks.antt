-- Blocks of a chunk: none of them is a log header, and a descriptor is read as it was written.
use Rattle.std.proofs.Common.{◌≡◌, ℕ, List, length, Option, None, Some, Result, Ok, Err, refl, sym, ◌∙◌, inl, inr}
use Rattle.std.specs.Prelude.{nat_lt}
use Rattle.std.proofs.lemmas.Bool.{cases_Bool, cond-true, cond-false}
use Rattle.gfs2_layout.specs.Bytes.{u32_at}
use Rattle.gfs2_layout.specs.Structures.{hash_fault, header_fault, log_of, magic, or_else}
use Rattle.gfs2_layout.specs.Structures.{log_read as front_read}
use Rattle.gfs2_layout.specs.declared.fault.LayoutFault.{LayoutFault}
use Rattle.gfs2_layout.specs.declared.fault.LayoutFault.TheVariants.{Short}
use Rattle.gfs2_layout.specs.declared.log_header.LogHeader.{LogHeader as Front}
use Rattle.gfs2_layout.proofs.HeaderLaws.{answer_ok, header_from, some_none}
use Rattle.log_layout.specs.Headers.{log_read, read_behind}
use Rattle.log_layout.specs.Journal.{accepted, if_at}
use Rattle.log_layout.specs.declared.log_header.LogHeader.{LogHeader}

pub none_of : {A : Type 0} (o : Option A) → ((x : A) → o ≡ Some x → ⊥) → o ≡ None
none_of None never = refl
none_of (Some x) never = absurd (never x refl)

or_none : (o later : Option LayoutFault) → or_else o later ≡ None → o ≡ None
or_none None later e = refl
or_none (Some f) later e = absurd (some_none f e)

-- what is read as the first part of a log header begins like one
front_begins : (bytes : List ℕ) (r : Result Front LayoutFault) → front_read bytes ≡ r → (h : LogHeader) → read_behind r bytes ≡ Ok h → (u32_at 0 bytes ≡ magic) × (u32_at 4 bytes ≡ 8)
front_begins bytes (Err fault) is h e = cc
front_begins bytes (Ok front) is h e =
    let none = (answer_ok (or_else (header_fault 48 8 800 bytes) (hash_fault bytes)) (log_of bytes) front is).0 in
    let has = header_from 48 8 800 bytes (or_none (header_fault 48 8 800 bytes) (hash_fault bytes) none) in
    (has.magic_is, has.kind_is)

log_begins : (bytes : List ℕ) (h : LogHeader) → log_read bytes ≡ Ok h → (u32_at 0 bytes ≡ magic) × (u32_at 4 bytes ≡ 8)
log_begins bytes h e = elim (cases_Bool (nat_lt (length bytes) 120)) [
  | inl short ↦ (let bad : Err Short ≡ Ok h = sym (cond-true _ _ _ short) ∙ e in cc)
  | inr long ↦ front_begins bytes (front_read bytes) refl h (sym (cond-false _ _ _ long) ∙ e)
]

read_of : (place : ℕ) (r : Result LogHeader LayoutFault) (h : LogHeader) → if_at place r ≡ Some h → (g : LogHeader) × (r ≡ Ok g)
read_of place (Ok g) h e = (g, refl)
read_of place (Err f) h e = absurd (some_none h (sym e))

-- a header that is accepted begins like one
pub accepted_begins : (place : ℕ) (bytes : List ℕ) (h : LogHeader) → accepted place bytes ≡ Some h → (u32_at 0 bytes ≡ magic) × (u32_at 4 bytes ≡ 8)
unfolding accepted
accepted_begins place bytes h e = let g = read_of place (log_read bytes) h e in log_begins bytes g.0 g.1

pub not_accepted : (place : ℕ) (bytes : List ℕ) → (u32_at 0 bytes ≡ magic → u32_at 4 bytes ≡ 8 → ⊥) → accepted place bytes ≡ None
not_accepted place bytes other = none_of (accepted place bytes) (λ h e. let begins = accepted_begins place bytes h e in other begins.0 begins.1)
