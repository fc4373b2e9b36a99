-- The blocks of a chunk add what they were written for.
use Rattle.std.proofs.Common.{◌≡◌, ◌+◌, ◌<◌, ◌≤◌, ◌++◌, ℕ, Bool, true, false, List, [], ◌∷◌, length, get_or, take, drop, Option, None, Some, refl, sym, ap, ◌∙◌, inl, inr, arith, append_assoc}
use Rattle.std.specs.Prelude.{if◌then◌else◌}
use Rattle.std.specs.List.{All}
use Rattle.std.specs.Int.{w32, to_be_bytes}
use Rattle.std.proofs.lemmas.Nat.{be_bytes_4}
use Rattle.std.proofs.lemmas.List.Elements.{All-take}
use Rattle.std.proofs.Math.ListN.{get_or-eq_default}
use Rattle.std.proofs.lemmas.Bool.{cases_lt, cond-true, eq-eqb, eqb-true}
use Rattle.std.proofs.lemmas.List.{append-nil, length-take, take-append-drop}
use Rattle.std.proofs.Math.Seq.{take-length}
use Rattle.gfs2_layout.specs.Bytes.{number_at, u32_at, with_number}
use Rattle.gfs2_layout.specs.Structures.{magic}
use Rattle.gfs2_layout.proofs.InPlace.{is_width_32, length-with, with-again}
use Rattle.log_layout.specs.Chunks.{Logged, Transaction, joined, nothing, one_block, part_of, restored}
use Rattle.log_layout.specs.Journal.{Placed, next}
use Rattle.log_layout.specs.Transactions.{reading}
use Rattle.log_layout.specs.declared.due.Due.{Due}
use Rattle.log_layout.specs.declared.due.Due.TheVariants as due
use Rattle.journal_scan.proofs.Steps.{read_due}
use Rattle.node_journal.specs.Encoding.{begins_with_magic, escaped}
use Rattle.node_journal.specs.Places.{placed_from}

-- ---- joined transactions

pub joined_assoc : (a b c : Transaction) → joined (joined a b) c ≡ joined a (joined b c)
joined_assoc a b c = λ i. record { blocks = append_assoc a.blocks b.blocks c.blocks i; revokes = append_assoc a.revokes b.revokes c.revokes i }

pub joined_nothing : (a : Transaction) → joined a nothing ≡ a
joined_nothing a = λ i. record { blocks = append-nil a.blocks i; revokes = append-nil a.revokes i }

-- so many blocks
abbrev pub of_blocks : List Logged → Transaction
of_blocks es = record { blocks = es; revokes = [] }

abbrev pub of_revokes : List ℕ → Transaction
of_revokes rs = record { blocks = []; revokes = rs }

-- ---- what is due, block by block

-- each block is what is due, and adds its part
pub data AreParts : List Due → List (List ℕ) → List Transaction → Type 0 where
  none : AreParts [] [] []
  one : (d : Due) (b : List ℕ) (p : Transaction) (ds : List Due) (bs : List (List ℕ)) (ps : List Transaction) → part_of d b ≡ Some p → AreParts ds bs ps → AreParts (d ∷ ds) (b ∷ bs) (p ∷ ps)

-- all parts together
abbrev pub all_joined : Transaction → List Transaction → Transaction
all_joined t [] = t
all_joined t (p ∷ ps) = all_joined (joined t p) ps

pub read_parts : (size places p : ℕ) (last : Option ℕ) (begun : Transaction) (ds : List Due) (bs : List (List ℕ)) (ps : List Transaction) (rest : List Placed) → AreParts ds bs ps
    → reading size ds last begun (placed_from places p bs ++ rest) ≡ reading size [] last (all_joined begun ps) rest
read_parts size places p last begun [] [] [] rest none = refl
read_parts size places p last begun [] [] (q ∷ ps) rest parts = elim parts [ ]
read_parts size places p last begun [] (b ∷ bs) ps rest parts = elim parts [ ]
read_parts size places p last begun (d ∷ ds) [] ps rest parts = elim parts [ ]
read_parts size places p last begun (d ∷ ds) (b ∷ bs) [] rest parts = elim parts [ ]
read_parts size places p last begun (d ∷ ds) (b ∷ bs) (q ∷ ps) rest (one _ _ _ _ _ _ is more) =
    read_due size last begun (record { place = p; bytes = b }) (placed_from places (next places p) bs ++ rest) d ds q is
    ∙ read_parts size places (next places p) last (joined begun q) ds bs ps rest more

-- ---- content

byte_low : (bytes : List ℕ) → All (λ byte. byte < 256) bytes → (i : ℕ) → get_or (take 4 bytes) i 0 < 256
byte_low bytes low i = elim (cases_lt i (length (take 4 bytes))) [
  | inl inside ↦ All-take (λ byte. byte < 256) 4 bytes low i 0 inside
  | inr past ↦ (let e : get_or (take 4 bytes) i 0 ≡ 0 = get_or-eq_default (take 4 bytes) 0 past in omega (arith, e))
]

-- the number that stands there already
put_again : (bytes : List ℕ) → 4 ≤ length bytes → All (λ byte. byte < 256) bytes → u32_at 0 bytes ≡ magic → with_number w32 0 magic bytes ≡ bytes
unfolding with_number number_at
put_again bytes long low is =
    let part : to_be_bytes w32 magic ≡ take 4 bytes = be_bytes_4 (take 4 bytes) magic (let e : length (take 4 bytes) ≡ 4 = omega (arith, length-take 4 bytes, long) in e) (byte_low bytes low) (sym is) in
    let count : 0 + length (take 4 bytes) ≡ 4 = omega (arith, length-take 4 bytes, long) in
    ap (λ p. p ++ drop (0 + length p) bytes) part ∙ ap (λ n. take 4 bytes ++ drop n bytes) count ∙ take-append-drop 4 bytes

-- the magic is taken out, and put back
pub restored_again : (bytes : List ℕ) → 4 ≤ length bytes → All (λ byte. byte < 256) bytes → u32_at 0 bytes ≡ magic → restored (with_number w32 0 0 bytes) ≡ bytes
restored_again bytes long low is =
    let out = with_number w32 0 0 bytes in
    let same : length out ≡ length bytes = length-with w32 0 0 bytes is_width_32 long in
    ap (with_number w32 0 magic) (sym (ap (λ n. take n out) (sym same) ∙ take-length out))
    ∙ with-again w32 0 0 bytes is_width_32 long magic (length bytes) long (omega arith)
    ∙ ap (with_number w32 0 magic) (take-length bytes)
    ∙ put_again bytes long low is

pub content_part : (e : Logged) → 4 ≤ length e.bytes → All (λ byte. byte < 256) e.bytes → e.plain ≡ true → part_of (due.Content e.block (begins_with_magic e.bytes)) (escaped e.bytes) ≡ Some (of_blocks (e ∷ []))
content_part e long low plain = by (begins_with_magic e.bytes) refl
  where
    whole : (bytes : List ℕ) → bytes ≡ e.bytes → one_block e.block true bytes ≡ of_blocks (e ∷ [])
    whole bytes same = λ i. of_blocks (record { block = e.block; plain = sym plain i; bytes = same i } ∷ [])

    by : (b : Bool) → begins_with_magic e.bytes ≡ b → part_of (due.Content e.block (begins_with_magic e.bytes)) (escaped e.bytes) ≡ Some (of_blocks (e ∷ []))
    by true is = (λ i. Some (one_block e.block true (if is i then restored (if is i then with_number w32 0 0 e.bytes else e.bytes) else (if is i then with_number w32 0 0 e.bytes else e.bytes))))
        ∙ ap Some (whole (restored (with_number w32 0 0 e.bytes)) (restored_again e.bytes long low (eqb-true (u32_at 0 e.bytes) magic is)))
    by false is = (λ i. Some (one_block e.block true (if is i then restored (if is i then with_number w32 0 0 e.bytes else e.bytes) else (if is i then with_number w32 0 0 e.bytes else e.bytes))))
        ∙ ap Some (whole e.bytes refl)

-- ---- metadata

pub metadata_part : (e : Logged) → e.plain ≡ false → u32_at 0 e.bytes ≡ magic → part_of (due.Metadata e.block) e.bytes ≡ Some (of_blocks (e ∷ []))
metadata_part e plain is = cond-true _ (Some (one_block e.block false e.bytes)) None (eq-eqb (u32_at 0 e.bytes) magic is) ∙ (λ i. Some (of_blocks (record { block = e.block; plain = sym plain i; bytes = e.bytes } ∷ [])))
