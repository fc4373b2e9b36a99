-- The forms of a directory, by what its dinode says.
use Rattle.std.proofs.Common.{◌≡◌, ◌&&◌, ℕ, Bool, true, false, true≢false, List, Option, None, Some, Result, Ok, Err, sym, ap, ◌∙◌, subst, refl}
use Rattle.std.specs.Option.{option_map}
use Rattle.gfs2_layout.specs.Holding.{Holding}
use Rattle.gfs2_layout.specs.Inode.{dinode_in, has_hash_flag, is_directory_in, is_hashed_in, records_of}
use Rattle.gfs2_layout.specs.Records.{record_named}
use Rattle.gfs2_layout.specs.Structures.{dinode_of, is_directory}
use Rattle.gfs2_layout.specs.declared.dinode.Dinode.{Dinode}
use Rattle.glock_names.specs.Steps.{IfDamaged, IfIs, IsDamage, OnlyDamaged, TellsOf}
use Rattle.glock_names.specs.Views.{Seen, HasBlock, IsView}
use Rattle.dinode_tree.proofs.Sound.{all_is_shown}
use Rattle.std.proofs.lemmas.List.{length-replicate}
use Rattle.std.specs.Prelude.{length, replicate}
use Rattle.gfs2_layout.specs.Holding.{Itself}
use Rattle.glock_names.specs.declared.steps.CallFault.{CallFault}
use Rattle.glock_names.specs.declared.steps.CallFault.TheVariants.{Damaged, NoMemory}
use Rattle.glock_names.specs.declared.steps.Entry.{Entry}
use Rattle.glock_names.specs.declared.steps.Step.{Step}
use Rattle.glock_names.specs.declared.steps.Step.TheVariants.{Is, NeedBlock}
use Rattle.dinode_tree.specs.Shown as inode
use Rattle.linear_dirs.specs.Shown.{IsLinearIn, entry_of}
use Rattle.tree_tables.specs.Shown as hashed
use Rattle.directories.specs.Shown.{IsDirectoryIn, IsShown, Says, in_linear}

-- as a hashed one
pub leaves_shown : (v : Seen) (a : ℕ) (h : Holding) → IsShown v a h → is_hashed_in h ≡ true → hashed.IsShown v a h
leaves_shown v a h shown is = record { inode = shown.inode; hashed = is; leaves = shown.leaves is }

-- the view's block is the dinode's
pub dinode_here : (v : Seen) (a : ℕ) (h : Holding) (bytes : List ℕ) → inode.IsShown v a h → v.block_at a ≡ Some bytes → dinode_in h ≡ dinode_of bytes
unfolding dinode_in
dinode_here v a h bytes shown there = ap dinode_of (shown.same h.own bytes shown.dinode (ap v.block_at shown.own ∙ there))

pub is_directory_here : (v : Seen) (a : ℕ) (h : Holding) → IsDirectoryIn v a → HasBlock v a → inode.IsShown v a h → is_directory_in h ≡ true
is_directory_here v a h directory there shown = ap is_directory (dinode_here v a h there.0 shown there.1) ∙ directory there.0 there.1

both : (a b : Bool) → a ≡ true → b ≡ true → (a && b) ≡ true
both true b e f = f
both false b e f = absurd (true≢false (sym e))

neither : (a b : Bool) → b ≡ false → (a && b) ≡ false
neither true b e = e
neither false b e = refl

pub hashed_here : (h : Holding) (d : Dinode) → d ≡ dinode_in h → is_directory_in h ≡ true → has_hash_flag d ≡ true → is_hashed_in h ≡ true
hashed_here h d is directory flag = both (is_directory (dinode_in h)) (has_hash_flag (dinode_in h)) directory (ap has_hash_flag (sym is) ∙ flag)

pub linear_here : (h : Holding) (d : Dinode) → d ≡ dinode_in h → has_hash_flag d ≡ false → is_hashed_in h ≡ false
linear_here h d is flag = neither (is_directory (dinode_in h)) (has_hash_flag (dinode_in h)) (ap has_hash_flag (sym is) ∙ flag)

-- where the dinode says that it is linear, so does the view's block
pub linear_in : (v : Seen) (a : ℕ) (d : Dinode) → IsDirectoryIn v a → ((h : Holding) → inode.IsShown v a h → d ≡ dinode_in h) → ((h : Holding) × inode.IsShown v a h) → has_hash_flag d ≡ false → IsLinearIn v a
linear_in v a d directory is some flag bytes there =
    (directory bytes there, ap has_hash_flag (sym (is some.0 some.1 ∙ dinode_here v a some.0 bytes some.1 there)) ∙ flag)

-- what a fault tells
pub fault_as : (P Q : ℕ → ℕ → Type 0) (fault : CallFault) → ((rule b : ℕ) → P rule b → Q rule b) → IsDamage P fault → IsDamage Q fault
fault_as P Q (Damaged b rule) so told = so rule b told
fault_as P Q NoMemory so told = told

pub answer_as : {A : Type 0} (P Q : ℕ → ℕ → Type 0) (result : Result A CallFault) → ((rule b : ℕ) → P rule b → Q rule b) → OnlyDamaged result P → OnlyDamaged result Q
answer_as P Q (Ok x) so told = tt
answer_as P Q (Err fault) so told = fault_as P Q fault so told

-- the answer of a linear one is what it says
pub says_linear : (h : Holding) (name : List ℕ) (r : Result (Step (Option Entry)) CallFault) → is_hashed_in h ≡ false
    → IfIs r (λ found. found ≡ option_map entry_of (record_named (records_of h) name)) → IfIs r (Says h name)
says_linear h name (Ok (Is found)) plain is = subst (Says h name) (sym is) (in_linear plain)
says_linear h name (Ok (NeedBlock m)) plain is = tt
says_linear h name (Err fault) plain is = tt

-- a view shows some directory in a block, whatever it has: the one of which each block is what the view has, or zeros
abbrev bytes_or_zeros : ℕ → Option (List ℕ) → List ℕ
bytes_or_zeros size None = replicate size 0
bytes_or_zeros size (Some bytes) = bytes

abbrev as_seen : Seen → ℕ → Holding
as_seen v a = record { size = v.size; count = 0; own = a; cell = λ b. Some (record { part = Itself; bytes = bytes_or_zeros v.size (v.block_at b) }) }

pub some_directory : (v : Seen) (a : ℕ) → IsView v → (h : Holding) × IsShown v a h
some_directory v a view = (
  as_seen v a,
  record {
    inode = all_is_shown v (as_seen v a) refl (λ b. refl) (λ b bytes there is. ap (bytes_or_zeros v.size) is);
    leaves = λ hashed i place x chain some. refl;
    whole = λ hashed at i b low counted is. each b (v.block_at b) refl;
  },
)
  where
    each : (b : ℕ) (o : Option (List ℕ)) → v.block_at b ≡ o → length (bytes_or_zeros v.size o) ≡ v.size
    each b None is = length-replicate v.size 0
    each b (Some bytes) is = view.whole b bytes is

-- the same of a call that takes memory
pub tells_as : (P Q : ℕ → ℕ → Type 0) (fault : CallFault) → ((rule b : ℕ) → P rule b → Q rule b) → TellsOf P fault → TellsOf Q fault
tells_as P Q (Damaged b rule) so told = so rule b told
tells_as P Q NoMemory so told = tt

pub damaged_as : {A : Type 0} (P Q : ℕ → ℕ → Type 0) (result : Result A CallFault) → ((rule b : ℕ) → P rule b → Q rule b) → IfDamaged result P → IfDamaged result Q
damaged_as P Q (Ok x) so told = tt
damaged_as P Q (Err fault) so told = tells_as P Q fault so told

pub only_tells : (P : ℕ → ℕ → Type 0) (fault : CallFault) → IsDamage P fault → TellsOf P fault
only_tells P (Damaged b rule) told = told
only_tells P NoMemory told = tt
