-- What the blocks that are kept show of an inode, and what a call over them breaks of the image's rules.
use Rattle.std.proofs.Common.{◌≡◌, ◌≢◌, ◌+◌, ◌*◌, ◌<◌, ℕ, zero, suc, List, [], ◌∷◌, length, Option, None, Some, true, refl, sym, arith}
use Rattle.std.specs.Prelude.{slice_get, unwrap_or}
use Rattle.gfs2_layout.specs.Bytes.{u64_at}
use Rattle.gfs2_layout.specs.Inode.{Leads, from_dinode, from_block}
use Rattle.image_reader.proofs.Inside.{no_number}
use Rattle.glock_names.specs.Steps.{IsDamage, TellsOf}
use Rattle.glock_names.specs.declared.steps.CallFault.{CallFault}
use Rattle.glock_names.specs.declared.steps.CallFault.TheVariants as call
use Rattle.dinode_tree.specs.Broken.{IsBroken, of_dinode, of_indirect, of_table}
use Rattle.dinode_tree.specs.Broken as broken
use Rattle.dinode_tree.specs.Reading.{IsNeeded, IsOnWay, the_dinode, led_to}
use Rattle.glock_names.specs.declared.steps.Missing.{Missing}
use Rattle.dinode_tree.specs.Shown.{IsShown}
use Rattle.glock_names.specs.Views.{HasBlock, IsOfView}
use Rattle.image_model.specs.Claims.{every, Claims, below, HasInode}
use Rattle.image_model.specs.Image.{Image}
use Rattle.image_model.specs.Owners.{Owner, is_dinode}
use Rattle.image_model.specs.Rules.{Breaks}
use Rattle.image_model.specs.Rules as rules
use Rattle.image_mount.proofs.Causes.{told}
use Rattle.image_mount.proofs.Steps.{seen_in}
use Rattle.image_mount.specs.Found.{HasFormat, IsReached}
use Rattle.image_mount.specs.Refusals.{RefusesRightly}
use Rattle.image_mount.specs.Searching.{IsRead, of_call}
use Rattle.image_mount.specs.Kept.{Kept, seen_of, bytes_of}

pub shown : (im : Image) (k : Kept) (a : ℕ) → IsRead im k → IsShown (seen_of k) a (every im a)
shown im k a read = record {
  own = refl;
  size = sym read.size;
  dinode = refl;
  led_to = λ b n level first c leads. refl;
  same = λ b bytes some at. read.same b bytes at;
}

-- a block that is kept is one of the table
pub kept_inside : (entries : List (Option (List ℕ))) (b : ℕ) (bytes : List ℕ) → bytes_of (slice_get entries b) ≡ Some bytes → b < length entries
kept_inside [] b bytes at = absurd cc
kept_inside (e ∷ es) zero bytes at = omega arith
kept_inside (e ∷ es) (suc b) bytes at = omega (arith, kept_inside es b bytes at)

-- mounting comes to it in the image
pub kept_on : (im : Image) (k : Kept) (b : ℕ) → IsRead im k → HasBlock (seen_of k) b → IsReached im b
kept_on im k b read has = read.reached b has.0 has.1

-- a block in which a pointer stands is kept
some_kept : (o : Option (List ℕ)) (n : ℕ) → u64_at n (unwrap_or o []) ≢ 0 → (bytes : List ℕ) × (o ≡ Some bytes)
some_kept (Some bytes) n some = (bytes, refl)
some_kept None n some = absurd (some (no_number n))

pub leads_kept : (k : Kept) (a b j level first c : ℕ) → Leads (seen_in (seen_of k) a) b j level first c → HasBlock (seen_of k) b
leads_kept k a _ _ _ _ _ (from_dinode j level high low some) = some_kept ((seen_of k).block_at a) (232 + 8 * j) some
leads_kept k a _ _ _ _ _ (from_block b j level first c i leads low some) = some_kept ((seen_of k).block_at c) (24 + 8 * i) some

-- what leads to a block that is missing is kept, if that isn't the dinode
pub needed_inside : (im : Image) (k : Kept) (a : ℕ) (P : ℕ → Type 0) (least : ℕ) (m : Missing) → IsRead im k → IsNeeded (seen_of k) (seen_in (seen_of k) a) P least m → m.block ≢ a → IsReached im m.from
needed_inside im k a P least m read needed other = each needed.way
  where
    each : IsOnWay (seen_in (seen_of k) a) P least m → IsReached im m.from
    each (the_dinode same from plain) = absurd (other same)
    each (led_to i j level first wants low leads before within plain) = kept_on im k m.from read (leads_kept k a m.from j level first m.block leads)

-- an inode that is claimed
pub inode_at : (im : Image) (by a : ℕ) (o : Owner) → Claims im by a o → is_dinode o ≡ true → HasInode im a
inode_at im by a o claimed dinode = (o, record { by = by; claimed = claimed; dinode = dinode })

needs : (im : Image) (a b kind format : ℕ) → HasInode im a → broken.Needs (every im a) b kind format → rules.Needs im b kind format
needs im a _ _ _ has of_dinode = rules.of_dinode a has
needs im a _ _ _ has (of_indirect b k level first x leads) =
    rules.of_indirect b a x b k level first (below has.1.by a has.0 b k (suc level) first x has.1.claimed has.1.dinode leads)
needs im a _ _ _ has (of_table b k first x leads directory) =
    rules.of_table b a x b k first (below has.1.by a has.0 b k 0 first x has.1.claimed has.1.dinode leads) directory

-- what breaks a rule in an inode breaks it in the image
pub breaks : (im : Image) (a rule b : ℕ) → HasInode im a → IsBroken (every im a) rule b → Breaks im rule b
breaks im a _ _ has (broken.no_header b kind format need lacks) = rules.no_header b kind format (needs im a b kind format has need) lacks
breaks im a _ _ has (broken.other_address other) = rules.other_address a has other
breaks im a _ _ has (broken.no_number none) = rules.no_number a has none
breaks im a _ _ has (broken.no_mode directory regular) = rules.no_mode a has directory regular
breaks im a _ _ has (broken.too_high high) = rules.too_high a has high
breaks im a _ _ has (broken.too_large_for_dinode low large) = rules.too_large_for_dinode a has low large
breaks im a _ _ has (broken.too_large_for_height level high large) = rules.too_large_for_height a level has high large
breaks im a _ _ has (broken.past_end b k level first c leads past) = rules.past_end a b k level first c has leads past

-- the fault of a call over the blocks that are kept
pub call_told : (im : Image) (k : Kept) (a : ℕ) (f : CallFault) → HasInode im a → HasFormat im → IsRead im k → TellsOf (IsBroken (every im a)) f → TellsOf (IsOfView (seen_of k)) f → RefusesRightly im (of_call f)
call_told im k a (call.Damaged block rule) has format read tells kept = told im _ block rule refl format (kept_on im k block read kept) (breaks im a rule block has tells)
call_told im k a call.NoMemory has format read tells kept = tt

pub damage_told : (im : Image) (k : Kept) (a : ℕ) (f : CallFault) → HasInode im a → HasFormat im → IsRead im k → IsDamage (IsBroken (every im a)) f → IsDamage (IsOfView (seen_of k)) f → RefusesRightly im (of_call f)
damage_told im k a (call.Damaged block rule) has format read tells kept = told im _ block rule refl format (kept_on im k block read kept) (breaks im a rule block has tells)
damage_told im k a call.NoMemory has format read tells kept = absurd tells
