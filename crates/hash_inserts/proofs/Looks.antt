-- What is told of the blocks of a table.
use Rattle.std.proofs.Common.{◌≡◌, ℕ, ◌<◌, ◌≤◌, Bool, true, false, None, refl, sym, ap, ◌∙◌, subst, arith}
use Rattle.std.specs.Prelude.{◌==◌, ◌&&◌, Contains, List, ◌∷◌}
use Rattle.std.proofs.lemmas.Bool.Decides.{nat_tests}
use Rattle.gfs2_layout.specs.Holding.{Holding}
use Rattle.gfs2_layout.specs.Inode.{dinode_in, has_hash_flag, is_directory_in, span}
use Rattle.gfs2_layout.specs.Structures.{is_directory, is_regular}
use Rattle.gfs2_layout.specs.declared.dinode.Dinode.{Dinode}
use Rattle.image_model.proofs.Rows.{and_left}
use Rattle.glock_names.specs.Steps.{IsDamage, TellsOf}
use Rattle.glock_names.specs.Views.{Seen, IsView}
use Rattle.glock_names.specs.declared.steps.CallFault.{CallFault}
use Rattle.glock_names.specs.declared.steps.CallFault.TheVariants.{Damaged, NoMemory}
use Rattle.glock_names.specs.declared.steps.Missing.{Missing}
use Rattle.dinode_tree.specs.Below.{AnyIndex, IsLedFrom}
use Rattle.dinode_tree.specs.Broken as inode
use Rattle.dinode_tree.specs.Reading.{IsNeeded, IsOnWay, inode_lock, the_dinode, led_to}
use Rattle.dinode_tree.specs.Walking.{missing_dinode}
use Rattle.dinode_tree.specs.declared.below.PointedBlock.{PointedBlock}
use Rattle.dinode_tree.proofs.Spans.{span_some}
use Rattle.hash_steps.specs.Broken.{IsWrongIn, breaks, of_inode}
use Rattle.hash_steps.specs.Shown.{IsShown}
use Rattle.growth_drafts.specs.Taken.{AreFreeFor}
use Rattle.hash_inserts.specs.Drafting.{IsFree}
use Rattle.hash_inserts.specs.Inserting.{IsWrongToInsert, in_directory}
use Rattle.hash_inserts.proofs.Blockwise.{size_bounds}

-- what an inode breaks, and what a directory is wrong in, is wrong to an insertion
pub tells_inode : (v : Seen) (h : Holding) (fault : CallFault) → TellsOf (inode.IsBroken h) fault → TellsOf (IsWrongToInsert v h) fault
tells_inode v h (Damaged block rule) broken = in_directory rule block (breaks rule block (of_inode rule block broken))
tells_inode v h NoMemory broken = tt

pub tells_wrong : (v : Seen) (h : Holding) (fault : CallFault) → TellsOf (IsWrongIn v h) fault → TellsOf (IsWrongToInsert v h) fault
tells_wrong v h (Damaged block rule) wrong = in_directory rule block wrong
tells_wrong v h NoMemory wrong = tt

-- what is needed above content is needed
pub lower : (v : Seen) (h : Holding) (wanted : ℕ → Type 0) (m : Missing) → IsNeeded v h wanted 1 m → IsNeeded v h wanted 0 m
lower v h wanted m needed = record { lock = needed.lock; absent = needed.absent; way = by needed.way }
  where
    by : IsOnWay h wanted 1 m → IsOnWay h wanted 0 m
    by (the_dinode is from plain) = the_dinode is from plain
    by (led_to i k level first want least leads low high plain) = led_to i k level first want (omega arith) leads low high plain

not_both : (d : Dinode) → is_directory d ≡ true → is_regular d ≡ false
not_both d directory = grind (arith, nat_tests, directory)

large_view : (v : Seen) → IsView v → 512 ≤ v.size
large_view v view = (size_bounds v.size view.block_size).0

-- a block to which a pointer leads, and which isn't there
pub way_to : (v : Seen) (dir : ℕ) (h : Holding) (m : Missing) (p : PointedBlock) → IsShown v dir h → IsView v → m.lock ≡ inode_lock dir → m ≡ record { lock = m.lock; block = p.block; plain = false; from = p.from } → v.block_at p.block ≡ None
    → IsLedFrom h p.from p.block → IsNeeded v h AnyIndex 0 m
way_to v dir h m p shown view lock is absent led =
    let large : 512 ≤ h.size = omega (arith, large_view v view, shown.inode.size) in
    let some : 0 < span h.size led.1 = span_some h.size led.1 large in
    let directory = and_left (is_directory_in h) (has_hash_flag (dinode_in h)) shown.hashed in
    subst (IsNeeded v h AnyIndex 0) (sym is) (record {
      lock = lock ∙ ap inode_lock (sym shown.inode.own);
      absent = absent;
      way = led_to led.2 led.0 led.1 led.2 tt (omega arith) led.3 (omega arith) (omega (arith, some)) (no_file led.1 (is_regular (dinode_in h)) (not_both (dinode_in h) directory));
    })
  where
    no_file : (level : ℕ) (regular : Bool) → regular ≡ false → false ≡ (level == 0 && regular)
    no_file level regular is = sym (ap (λ r. level == 0 && r) is ∙ and_false (level == 0))
      where
        and_false : (b : Bool) → (b && false) ≡ false
        and_false true = refl
        and_false false = refl

-- the dinode's block, where it isn't there
pub dinode_needed : (v : Seen) (dir : ℕ) (h : Holding) (m : Missing) (wanted : ℕ → Type 0) → IsShown v dir h → m ≡ missing_dinode dir → v.block_at dir ≡ None → IsNeeded v h wanted 0 m
dinode_needed v dir h m wanted shown is absent = subst (IsNeeded v h wanted 0) (sym is) (record {
  lock = ap inode_lock (sym shown.inode.own);
  absent = absent;
  way = the_dinode (sym shown.inode.own) (sym shown.inode.own) refl;
})

pub absent_of : (v : Seen) (h : Holding) (wanted : ℕ → Type 0) (least : ℕ) (m : Missing) → IsNeeded v h wanted least m → v.block_at m.block ≡ None
absent_of v h wanted least m needed = needed.absent

pub only_tells : (P : ℕ → ℕ → Type 0) (fault : CallFault) → IsDamage P fault → TellsOf P fault
only_tells P (Damaged block rule) damage = damage
only_tells P NoMemory damage = tt

-- ---- the block at the front of the room

pub free_front : (h : Holding) (b : ℕ) (room left : List ℕ) → room ≡ b ∷ left → AreFreeFor h room → IsFree h b
free_front h b room left front free = record {
  some = λ is. free.some (subst (Contains room) is there);
  inside = free.inside b there;
  new = free.new b there;
}
  where
    there : Contains room b
    there = subst (λ xs. Contains xs b) (sym front) (0, omega arith, refl)
