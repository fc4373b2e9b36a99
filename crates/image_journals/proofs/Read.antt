-- Structures that are read, and what is handed on where nothing was found.
use Rattle.std.proofs.Common.{◌≡◌, ◌≤◌, ℕ, List, length, None, Result, Ok, Err, sym, ap, subst, ◌∙◌}
use Rattle.std.proofs.lemmas.Bool.{cond-true, cond-false, eq-eqb, le-ltb}
use Rattle.std.specs.Prelude.{not, IsErrAnd}
use Rattle.gfs2_layout.specs.Bytes.{u32_at}
use Rattle.gfs2_layout.specs.Headers.{HasHeader}
use Rattle.gfs2_layout.specs.Structures.{answer, header_fault, leaf_of, leaf_read, magic, or_else, records_fault, superblock_of, superblock_read}
use Rattle.image_journals.specs.Shown.{IfMemory}
use Rattle.image_journals.specs.declared.unfound.Unfound.{Unfound}
use Rattle.image_journals.specs.declared.unfound.Unfound.TheVariants.{Broken, NoMemory}

pub no_fault : (needed kind format : ℕ) (bytes : List ℕ) → needed ≤ length bytes → HasHeader kind format bytes → header_fault needed kind format bytes ≡ None
no_fault needed kind format bytes long has =
    cond-false _ _ _ (le-ltb (length bytes) needed long)
    ∙ cond-false _ _ _ (ap not (eq-eqb (u32_at 0 bytes) magic has.magic_is))
    ∙ cond-false _ _ _ (ap not (eq-eqb (u32_at 4 bytes) kind has.kind_is))
    ∙ cond-false _ _ _ (ap not (eq-eqb (u32_at 16 bytes) format has.format_is))

pub leaf_reads : (bytes : List ℕ) → 104 ≤ length bytes → HasHeader 6 600 bytes → u32_at 28 bytes ≡ 1200 → leaf_read bytes ≡ Ok (leaf_of bytes)
leaf_reads bytes long has records =
    ap (λ f. answer (or_else f (records_fault bytes)) (leaf_of bytes)) (no_fault 104 6 600 bytes long has)
    ∙ ap (λ f. answer f (leaf_of bytes)) (cond-true _ _ _ (eq-eqb (u32_at 28 bytes) 1200 records))

pub superblock_reads : (bytes : List ℕ) → 272 ≤ length bytes → HasHeader 1 100 bytes → superblock_read bytes ≡ Ok (superblock_of bytes)
superblock_reads bytes long has = ap (λ f. answer f (superblock_of bytes)) (no_fault 272 1 100 bytes long has)

-- what isn't for want of memory is told of no image that stands
pub handed : {A B : Type 0} (result : Result B Unfound) (fault : Unfound) (P : A → Type 0) (Q : B → Type 0) → IsErrAnd result (λ f. f ≡ fault) → IfMemory {A = A} (Err fault) P → IfMemory result Q
handed (Ok b) fault P Q is so = absurd is
handed (Err f) Broken P Q is so = absurd so
handed (Err f) NoMemory P Q is so = subst (λ g. IfMemory (Err g) Q) (sym is) tt

-- want of memory says nothing
pub starved : {B : Type 0} (result : Result B Unfound) (Q : B → Type 0) → IsErrAnd result (λ f. f ≡ NoMemory) → IfMemory result Q
starved (Ok b) Q is = absurd is
starved (Err f) Q is = subst (λ g. IfMemory (Err g) Q) (sym is) tt

pub so_found : {A : Type 0} (result : Result A Unfound) (P Q : A → Type 0) → ((a : A) → P a → Q a) → IfMemory result P → IfMemory result Q
so_found (Ok a) P Q more is = more a is
so_found (Err Broken) P Q more is = is
so_found (Err NoMemory) P Q more is = tt
