-- What follows from a structure's being read.
use Rattle.std.proofs.Common.{ℕ, ◌≡◌, inl, inr, List, length, Option, None, Some, Ok, refl, sym, ap, ◌∙◌}
use Rattle.std.specs.Prelude.{◌==◌, nat_lt, not}
use Rattle.std.proofs.lemmas.Bool.{cases_Bool, cond-true, cond-false, eqb-true}
use Rattle.gfs2_layout.specs.Bytes.{u32_at}
use Rattle.gfs2_layout.specs.Structures.{answer, header_fault, magic}
use Rattle.gfs2_layout.specs.declared.fault.LayoutFault.{LayoutFault}
use Rattle.gfs2_layout.specs.declared.fault.LayoutFault.TheVariants.{Short, Magic, Kind, Format}
use Rattle.gfs2_layout.specs.Headers.{HasHeader}

pub answer_ok : {A : Type 0} (o : Option LayoutFault) (x y : A) → answer o x ≡ Ok y → (o ≡ None) × (x ≡ y)
answer_ok None x y e = (refl, cc)
answer_ok (Some f) x y e = cc

pub some_none : {A : Type 0} (x : A) → ◌≡◌ {A = Option A} (Some x) None → ⊥
some_none x e = cc

pub header_from : (needed kind format : ℕ) (bytes : List ℕ) → header_fault needed kind format bytes ≡ None → HasHeader kind format bytes
header_from needed kind format bytes e = elim (cases_Bool (nat_lt (length bytes) needed)) [
  | inl short ↦ absurd (some_none Short (sym (cond-true _ (Some Short) _ short) ∙ e))
  | inr long ↦ elim (cases_Bool (u32_at 0 bytes == magic)) [
    | inr off ↦ absurd (some_none Magic (sym (cond-false _ _ _ long ∙ cond-true _ _ _ (ap not off)) ∙ e))
    | inl a ↦ elim (cases_Bool (u32_at 4 bytes == kind)) [
      | inr off ↦ absurd (some_none (Kind (u32_at 4 bytes)) (sym (cond-false _ _ _ long ∙ cond-false _ _ _ (ap not a) ∙ cond-true _ _ _ (ap not off)) ∙ e))
      | inl b ↦ elim (cases_Bool (u32_at 16 bytes == format)) [
        | inr off ↦ absurd (some_none (Format (u32_at 16 bytes)) (sym (cond-false _ _ _ long ∙ cond-false _ _ _ (ap not a) ∙ cond-false _ _ _ (ap not b) ∙ cond-true _ _ _ (ap not off)) ∙ e))
        | inl c ↦ record {
          magic_is = eqb-true (u32_at 0 bytes) magic a;
          kind_is = eqb-true (u32_at 4 bytes) kind b;
          format_is = eqb-true (u32_at 16 bytes) format c;
        }
      ]
    ]
  ]
]
