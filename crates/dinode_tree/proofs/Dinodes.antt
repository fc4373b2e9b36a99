-- What a dinode says that was read, and what it breaks.
use Rattle.std.proofs.Common.{◌≡◌, ◌↔◌, IsTrue, ◌≢◌, Bool, true, false, inl, inr, ℕ, ◌+◌, ◌-◌, ◌*◌, ◌/◌, ◌<◌, ◌≤◌, length, List, sym, ap, ap₂, subst, ◌∙◌, arith}
use Rattle.std.proofs.lemmas.Bool.{cond-true, cond-false, cases_Bool}
use Rattle.std.specs.Prelude.{if◌then◌else◌}
use Rattle.gfs2_layout.specs.Holding.{Holding, bytes_at}
use Rattle.gfs2_layout.specs.Headers.{HasHeader}
use Rattle.gfs2_layout.specs.Inode.{dinode_in, height_in, header_length, fan, span, unit, pieces, content_count, Fits}
use Rattle.gfs2_layout.specs.Structures.{dinode_of, is_directory, is_regular}
use Rattle.gfs2_layout.specs.declared.dinode.Dinode.{Dinode}
use Rattle.glock_names.specs.Steps.{IsDamage}
use Rattle.glock_names.specs.declared.steps.CallFault.{CallFault}
use Rattle.glock_names.specs.declared.steps.CallFault.TheVariants.{Damaged}
use Rattle.dinode_tree.specs.Broken.{IsBroken, no_header, of_dinode, other_address, no_number, no_mode, too_high, too_large_for_dinode, too_large_for_height}
use Rattle.dinode_tree.specs.Walking.{held, IsOf}
use Rattle.dinode_tree.specs.declared.inode.Inode.{Inode}
use Rattle.dinode_tree.proofs.Spans.{enough, too_many, span_some}

-- a fault that tells of a broken rule
pub told : (h : Holding) (fault : CallFault) (b rule : ℕ) → fault ≡ Damaged b rule → IsBroken h rule b → IsDamage (IsBroken h) fault
told h fault b rule is broken = subst (λ f. IsDamage (IsBroken h) f) (sym is) broken

pub told_own : (h : Holding) (fault : CallFault) (b rule : ℕ) → fault ≡ Damaged b rule → h.own ≡ b → IsBroken h rule h.own → IsDamage (IsBroken h) fault
told_own h fault b rule is own broken = told h fault b rule is (subst (IsBroken h rule) own broken)

-- a test that failed
pub lacks : {P : Type 0} (b : Bool) → IsTrue b ↔ P → b ≡ false → ¬ P
lacks b test failed p = let t : IsTrue false = subst IsTrue failed (test.1 p) in grind arith

-- what was read is what the dinode says
pub dinode_is : (h : Holding) (inode : Inode) → IsOf h inode → dinode_in h ≡ inode.dinode
unfolding dinode_in
dinode_is h inode o = ap dinode_of o.bytes ∙ sym inode.is

pub held_is : (inode : Inode) → dinode_in (held inode) ≡ inode.dinode
unfolding dinode_in
held_is inode = sym inode.is

-- of the same dinode and the same size
abbrev unit_as : ℕ → Dinode → ℕ
unit_as size d = if is_directory d then size - header_length else size

pub unit_is : (inode : Inode) → unit (held inode) ≡ unit_as (length inode.bytes.now) inode.dinode
unit_is inode = ap (unit_as (length inode.bytes.now)) (held_is inode)

pub unit_of_directory : (inode : Inode) → is_directory inode.dinode ≡ true → unit (held inode) ≡ length inode.bytes.now - header_length
unit_of_directory inode directory =
    let e : unit_as (length inode.bytes.now) inode.dinode ≡ length inode.bytes.now - header_length = cond-true _ _ _ directory in
    unit_is inode ∙ e

pub unit_of_file : (inode : Inode) → is_directory inode.dinode ≡ false → unit (held inode) ≡ length inode.bytes.now
unit_of_file inode file =
    let e : unit_as (length inode.bytes.now) inode.dinode ≡ length inode.bytes.now = cond-false _ _ _ file in
    unit_is inode ∙ e

pub unit_large : (inode : Inode) → 488 ≤ unit (held inode)
unit_large inode = elim (cases_Bool (is_directory inode.dinode)) [
  | inl directory ↦ omega (arith, unit_of_directory inode directory, inode.least)
  | inr file ↦ omega (arith, unit_of_file inode file, inode.least)
]

pub unit_most : (inode : Inode) → unit (held inode) ≤ length inode.bytes.now
unit_most inode = elim (cases_Bool (is_directory inode.dinode)) [
  | inl directory ↦ omega (arith, unit_of_directory inode directory)
  | inr file ↦ omega (arith, unit_of_file inode file)
]

pub unit_same : (h : Holding) (inode : Inode) → IsOf h inode → unit (held inode) ≡ unit h
unit_same h inode o = unit_is inode ∙ sym (ap₂ unit_as o.size (dinode_is h inode o))

pub size_same : (h : Holding) (inode : Inode) → IsOf h inode → inode.dinode.size ≡ (dinode_in h).size
size_same h inode o = ap (λ (d : Dinode). d.size) (sym (dinode_is h inode o))

pub height_same : (h : Holding) (inode : Inode) → IsOf h inode → inode.dinode.height ≡ height_in h
height_same h inode o = ap (λ (d : Dinode). d.height) (sym (dinode_is h inode o))

pub height_held : (inode : Inode) → inode.dinode.height ≡ height_in (held inode)
height_held inode = ap (λ (d : Dinode). d.height) (sym (held_is inode))

pub size_held : (inode : Inode) → inode.dinode.size ≡ (dinode_in (held inode)).size
size_held inode = ap (λ (d : Dinode). d.size) (sym (held_is inode))

pub count_same : (h : Holding) (inode : Inode) → IsOf h inode → content_count (held inode) ≡ content_count h
count_same h inode o = ap₂ pieces (ap (λ (d : Dinode). d.size) (held_is inode) ∙ size_same h inode o) (unit_same h inode o)

-- ---- what it breaks

pub lacks_header : (h : Holding) (fault : CallFault) (b : ℕ) (bytes : List ℕ) → fault ≡ Damaged b 1 → h.own ≡ b → bytes_at h h.own ≡ bytes → ¬ (HasHeader 4 400 bytes)
    → IsDamage (IsBroken h) fault
lacks_header h fault b bytes is own same lacks =
    told_own h fault b 1 is own (no_header h.own 4 400 of_dinode (λ has. lacks (subst (HasHeader 4 400) same has)))

pub wrong_address : (h : Holding) (inode : Inode) (fault : CallFault) → IsOf h inode → fault ≡ Damaged inode.block 7 → inode.dinode.num.address ≢ inode.block
    → IsDamage (IsBroken h) fault
wrong_address h inode fault o is wrong =
    told_own h fault inode.block 7 is o.own (other_address (λ e. wrong (sym (ap (λ (d : Dinode). d.num.address) (dinode_is h inode o)) ∙ e ∙ o.own)))

pub wrong_number : (h : Holding) (inode : Inode) (fault : CallFault) → IsOf h inode → fault ≡ Damaged inode.block 7 → inode.dinode.num.number ≡ 0
    → IsDamage (IsBroken h) fault
wrong_number h inode fault o is none =
    told_own h fault inode.block 7 is o.own (no_number (ap (λ (d : Dinode). d.num.number) (dinode_is h inode o) ∙ none))

pub wrong_mode : (h : Holding) (inode : Inode) (fault : CallFault) → IsOf h inode → fault ≡ Damaged inode.block 8
    → is_directory inode.dinode ≡ false → is_regular inode.dinode ≡ false → IsDamage (IsBroken h) fault
wrong_mode h inode fault o is directory regular =
    told_own h fault inode.block 8 is o.own (no_mode (ap is_directory (dinode_is h inode o) ∙ directory) (ap is_regular (dinode_is h inode o) ∙ regular))

pub wrong_height : (h : Holding) (inode : Inode) (fault : CallFault) → IsOf h inode → fault ≡ Damaged inode.block 8 → 10 < inode.dinode.height
    → IsDamage (IsBroken h) fault
wrong_height h inode fault o is high = told_own h fault inode.block 8 is o.own (too_high (omega (arith, high, height_same h inode o)))

pub wrong_stuffed : (h : Holding) (inode : Inode) (fault : CallFault) → IsOf h inode → fault ≡ Damaged inode.block 8 → inode.dinode.height ≡ 0
    → length inode.bytes.now < 232 + inode.dinode.size → IsDamage (IsBroken h) fault
wrong_stuffed h inode fault o is low large =
    told_own h fault inode.block 8 is o.own (too_large_for_dinode (omega (arith, low, height_same h inode o)) (omega (arith, large, o.size, size_same h inode o)))

pub wrong_pointed : (h : Holding) (inode : Inode) (fault : CallFault) (level count last : ℕ) → IsOf h inode → fault ≡ Damaged inode.block 8 → inode.dinode.height ≡ level + 1
    → count ≡ content_count (held inode) → count ≢ 0 → last ≡ (count - 1) / span (length inode.bytes.now) level → fan (length inode.bytes.now) 232 ≤ last
    → IsDamage (IsBroken h) fault
wrong_pointed h inode fault level count last o is high same some at far =
    let over : fan (length inode.bytes.now) 232 * span (length inode.bytes.now) level < count = too_many count _ _ (omega (arith, some)) (omega (arith, at, far)) in
    let over_h : fan h.size 232 * span h.size level < count = subst (λ n. fan n 232 * span n level < count) (sym o.size) over in
    told_own h fault inode.block 8 is o.own (too_large_for_height level (omega (arith, high, height_same h inode o)) (omega (arith, over_h, same, count_same h inode o)))

-- ---- what fits

pub fits_stuffed : (inode : Inode) → inode.dinode.height ≡ 0 → 232 + inode.dinode.size ≤ length inode.bytes.now → Fits (held inode)
fits_stuffed inode low small = record {
  low = omega (arith, low, height_held inode);
  stuffed = λ zero. omega (arith, small, ap (λ (d : Dinode). d.size) (held_is inode));
  under = λ level high. absurd (omega (arith, low, high, height_held inode));
}

pub fits_pointed : (inode : Inode) (level : ℕ) → inode.dinode.height ≡ level + 1 → level ≤ 9 → content_count (held inode) ≤ fan (length inode.bytes.now) 232 * span (length inode.bytes.now) level
    → Fits (held inode)
fits_pointed inode level high low small = record {
  low = omega (arith, low, high, height_held inode);
  stuffed = λ zero. absurd (omega (arith, zero, high, height_held inode));
  under = λ other up.
      let same : level ≡ other = omega (arith, up, high, height_held inode) in
      subst (λ l. content_count (held inode) ≤ fan (length inode.bytes.now) 232 * span (length inode.bytes.now) l) same small;
}

pub fits_last : (inode : Inode) (level count last : ℕ) → inode.dinode.height ≡ level + 1 → level ≤ 9 → count ≡ content_count (held inode)
    → last ≡ (count - 1) / span (length inode.bytes.now) level → last < fan (length inode.bytes.now) 232 → Fits (held inode)
fits_last inode level count last high low same at near =
    let few : count ≤ fan (length inode.bytes.now) 232 * span (length inode.bytes.now) level = enough count _ _ (span_some (length inode.bytes.now) level inode.least) (omega (arith, at, near)) in
    fits_pointed inode level high low (omega (arith, few, same))
