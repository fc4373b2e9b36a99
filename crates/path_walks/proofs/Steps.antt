-- A step of a walk, as far as the view tells.
use Rattle.std.proofs.Common.{◌≡◌, ◌==◌, inl, inr, ℕ, true, false, List, Option, None, Some, Result, Ok, Err, true≢false, sym, ap, subst, ◌∙◌}
use Rattle.std.proofs.lemmas.Bool.{eqb-true, cases_Bool}
use Rattle.std.specs.Prelude.{is_some, IfSome, IfNone, IsErrAnd}
use Rattle.gfs2_layout.specs.Holding.{Holding}
use Rattle.gfs2_layout.specs.Inode.{dinode_in, has_hash_flag, is_directory_in}
use Rattle.gfs2_layout.specs.Structures.{dinode_of, is_directory}
use Rattle.gfs2_layout.specs.declared.dinode.Dinode.{Dinode}
use Rattle.glock_names.specs.Steps.{OnlyDamaged, IsDamage}
use Rattle.glock_names.specs.Views.{Seen, HasGroup}
use Rattle.glock_names.specs.declared.views.Group.{Group}
use Rattle.resource_groups.specs.Shown.{IsDataOf}
use Rattle.resource_groups.specs.Putting.{HasDataBlock}
use Rattle.glock_names.specs.declared.steps.CallFault.{CallFault}
use Rattle.glock_names.specs.declared.steps.CallFault.TheVariants.{Damaged, NoMemory}
use Rattle.dinode_tree.specs.Shown.{IsShown}
use Rattle.dinode_tree.proofs.Sound.{some_is_shown}
use Rattle.directories.specs.Shown.{IsDirectoryIn, IsLinearDirectory}
use Rattle.directories.specs.Shown as dirs
use Rattle.directories.proofs.Forms.{linear_here}
use Rattle.directories.specs.Broken as linear
use Rattle.directories.specs.LinearShown.{IsLinearIn}
use Rattle.path_walks.specs.Walks.{IsDirectoryAt, IsWrongAt}

-- the dinode that was read is that of the block which the view has
pub read_here : (v : Seen) (a : ℕ) (d : Dinode) (bytes : List ℕ) → ((h : Holding) → IsShown v a h → d ≡ dinode_in h) → v.block_at a ≡ Some bytes → d ≡ dinode_of bytes
unfolding dinode_in
read_here v a d bytes dinode there =
    let s = some_is_shown v a in
    dinode s.0 s.1.0 ∙ ap dinode_of (s.1.0.same s.0.own bytes s.1.0.dinode (ap v.block_at s.1.0.own ∙ there))

pub directory_here : (v : Seen) (a : ℕ) (d : Dinode) → ((h : Holding) → IsShown v a h → d ≡ dinode_in h) → is_directory d ≡ true → IsDirectoryIn v a
directory_here v a d dinode directory bytes there = ap is_directory (sym (read_here v a d bytes dinode there)) ∙ directory

-- what the walk read of the dinode, of an inode that is so shown
pub differs : (n m : ℕ) → (n ≡ m → ⊥) → (n == m) ≡ false
differs n m other = elim (cases_Bool (n == m)) [
  | inr apart ↦ apart
  | inl same ↦ absurd (other (eqb-true n m same))
]

pub directory_so : (h : Holding) (d : Dinode) → d ≡ dinode_in h → is_directory d ≡ true → is_directory_in h ≡ true
directory_so h d is directory = ap is_directory (sym is) ∙ directory

-- a fault that is handed on
pub handed : {B : Type 0} (Q : ℕ → ℕ → Type 0) (r : Result B CallFault) (f : CallFault) → IsErrAnd r (λ g. g ≡ f) → IsDamage Q f → OnlyDamaged r Q
handed Q (Ok answer) f is damage = tt
handed Q (Err g) f is damage = subst (IsDamage Q) (sym is) damage

-- damage of one kind is damage of another
pub fault_so : (P Q : ℕ → ℕ → Type 0) → ((rule b : ℕ) → P rule b → Q rule b) → (f : CallFault) → IsDamage P f → IsDamage Q f
fault_so P Q so NoMemory damage = absurd damage
fault_so P Q so (Damaged b rule) damage = so rule b damage

pub damage_so : {A : Type 0} (P Q : ℕ → ℕ → Type 0) → ((rule b : ℕ) → P rule b → Q rule b) → (r : Result A CallFault) → OnlyDamaged r P → OnlyDamaged r Q
damage_so P Q so (Ok answer) damage = tt
damage_so P Q so (Err f) damage = fault_so P Q so f damage

-- what is told is so of whatever the view shows
pub fault_all : (v : Seen) (a : ℕ) (P : Holding → ℕ → ℕ → Type 0) (f : CallFault) → ((h : Holding) → IsShown v a h → IsDamage (P h) f)
    → IsDamage (λ rule b. (h : Holding) → IsShown v a h → P h rule b) f
fault_all v a P NoMemory damage = let s = some_is_shown v a in absurd (damage s.0 s.1.0)
fault_all v a P (Damaged b rule) damage = damage

-- the same of directories; that there is no other fault, what else is told says
pub fault_of_all : (S : Holding → Type 0) (P : Holding → ℕ → ℕ → Type 0) (Q : ℕ → ℕ → Type 0) (f : CallFault) → IsDamage Q f → ((h : Holding) → S h → IsDamage (P h) f)
    → IsDamage (λ rule b. (h : Holding) → S h → P h rule b) f
fault_of_all S P Q NoMemory only damage = absurd only
fault_of_all S P Q (Damaged b rule) only damage = damage

pub damage_all : {A : Type 0} (v : Seen) (a : ℕ) (P : Holding → ℕ → ℕ → Type 0) (r : Result A CallFault) → ((h : Holding) → IsShown v a h → OnlyDamaged r (P h))
    → OnlyDamaged r (λ rule b. (h : Holding) → IsShown v a h → P h rule b)
damage_all v a P (Ok answer) damage = tt
damage_all v a P (Err f) damage = fault_all v a P f damage

pub fault_both : (P Q : ℕ → ℕ → Type 0) (f : CallFault) → IsDamage P f → IsDamage Q f → IsDamage (λ rule b. P rule b × Q rule b) f
fault_both P Q NoMemory p q = p
fault_both P Q (Damaged b rule) p q = (p, q)

pub damage_both : {A : Type 0} (P Q : ℕ → ℕ → Type 0) (r : Result A CallFault) → OnlyDamaged r P → OnlyDamaged r Q → OnlyDamaged r (λ rule b. P rule b × Q rule b)
damage_both P Q (Ok answer) p q = tt
damage_both P Q (Err f) p q = fault_both P Q f p q

pub none_so : {X : Type 0} (P : Type 0) (x : Option X) → is_some x ≡ false → IfNone x P → P
none_so P None none so = so
none_so P (Some x) none so = absurd (true≢false none)

-- the directory that was read
pub directory_all : (v : Seen) (a : ℕ) (d : Dinode) → ((h : Holding) → IsShown v a h → d ≡ dinode_in h) → is_directory d ≡ true → IsDirectoryAt v a
directory_all v a d dinode dir h shown = directory_so h d (dinode h shown) dir

pub inside_so : (v : Seen) (b : ℕ) (x : Option Group) → is_some x ≡ true → IfSome x (HasGroup v) → IfSome x (λ g. IsDataOf g b) → HasDataBlock v b
inside_so v b None some group own = absurd (true≢false (sym some))
inside_so v b (Some g) some group own = (g, group, own)

-- ---- linear directories

-- the directory whose dinode was read, and says that it is linear
pub linear_all : (v : Seen) (a : ℕ) (d : Dinode) → ((h : Holding) → IsShown v a h → d ≡ dinode_in h) → is_directory d ≡ true → has_hash_flag d ≡ false
    → (h : Holding) → IsShown v a h → IsLinearDirectory h
linear_all v a d dinode dir plain h shown = record { directory = directory_so h d (dinode h shown) dir; linear = linear_here h d (dinode h shown) plain }

pub linear_block : (v : Seen) (a : ℕ) (d : Dinode) → ((h : Holding) → IsShown v a h → d ≡ dinode_in h) → is_directory d ≡ true → has_hash_flag d ≡ false → IsLinearIn v a
linear_block v a d dinode directory plain bytes there =
    let e = read_here v a d bytes dinode there in
    (ap is_directory (sym e) ∙ directory, ap has_hash_flag (sym e) ∙ plain)

-- what is broken in it is wrong there
pub wrong_linear : (v : Seen) (a : ℕ) → ((h : Holding) → IsShown v a h → IsLinearDirectory h) → (rule b : ℕ) → ((h : Holding) → IsShown v a h → linear.IsBroken h rule b) → IsWrongAt v a rule b
wrong_linear v a is rule b broken =
    IsWrongAt.in_directory rule b (λ h shown. (is h shown).directory)
    (λ h shown. let it = is h shown.inode in dirs.IsBroken.in_linear it.directory it.linear (broken h shown.inode))
