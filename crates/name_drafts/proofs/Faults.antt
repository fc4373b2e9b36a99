-- What is told, or asked for, of groups of which a draft over a view put the headers.
use Rattle.std.proofs.Common.{◌≡◌, ◌≢◌, inl, ℕ, zero, suc, ◌+◌, ◌<◌, ◌≤◌, List, [], Result, Ok, Err, refl, sym, ap, ◌∙◌, subst, subst₂, arith}
use Rattle.std.proofs.lemmas.List.FromFn.{get_or-map-range_with_len}
use Rattle.std.specs.List.{range_with_len}
use Rattle.std.specs.Prelude.{Contains, map, slice_index_or}
use Rattle.std.specs.Ordering.{nat_cmp}
use Rattle.std.specs.FinMap.{FinMap}
use Rattle.drafts.specs.Fates.{seen_with}
use Rattle.drafts.specs.declared.fate.Fate.{Fate}
use Rattle.gfs2_layout.specs.Bitmap.{state_at}
use Rattle.gfs2_layout.specs.Groups.{count_of}
use Rattle.gfs2_layout.specs.Headers.{HasHeader}
use Rattle.gfs2_layout.specs.Holding.{Holding}
use Rattle.gfs2_layout.specs.Inode.{dinode_in}
use Rattle.gfs2_layout.specs.Structures.{group_of}
use Rattle.gfs2_layout.specs.declared.dinode.Dinode.{Dinode}
use Rattle.gfs2_layout.specs.declared.group_header.GroupHeader.{GroupHeader}
use Rattle.glock_names.specs.Steps.{IfDamaged, TellsOf}
use Rattle.glock_names.specs.Views.{Seen, HasBlock, HasGroup, IsView}
use Rattle.glock_names.specs.declared.steps.CallFault.{CallFault}
use Rattle.glock_names.specs.declared.steps.CallFault.TheVariants.{Damaged, NoMemory}
use Rattle.glock_names.specs.declared.steps.Missing.{Missing}
use Rattle.glock_names.specs.declared.views.Group.{Group}
use Rattle.dinode_tree.specs.Broken as rules
use Rattle.name_inserts.specs.DirectoryShown as dirs
use Rattle.name_inserts.specs.Inserting.{IsWrongForName, of_directory}
use Rattle.resource_groups.specs.Freeing.{BreaksSome, IsNeededFor}
use Rattle.resource_groups.specs.Numbering.{IsNumberPut}
use Rattle.resource_groups.specs.Putting.{HasDataBlock}
use Rattle.resource_groups.specs.Shown.{IsBroken, IsDataOf, IsHeaderOf, IsMissing, IsShown, blocks_of, format_of, kind_of, no_header, wrong_dinodes, wrong_free}
use Rattle.resource_groups.proofs.Apart.{no_header_data}
use Rattle.resource_groups.proofs.Fits.{fit_of}
use Rattle.resource_groups.proofs.Sets.{some_shown, some_bytes}
use Rattle.name_drafts.specs.Drafting.{header_in}
use Rattle.name_drafts.specs.Steps.{LeavesGroups}
use Rattle.name_drafts.proofs.Fates.{absent_below, left_seen}

-- two things that are told of a fault
pub told_both : {A : Type 0} (P Q R : ℕ → ℕ → Type 0) → ((rule b : ℕ) → P rule b → Q rule b → R rule b) → (r : Result A CallFault) → IfDamaged r P → IfDamaged r Q → IfDamaged r R
told_both P Q R so (Ok x) p q = tt
told_both P Q R so (Err (Damaged block rule)) p q = so rule block p q
told_both P Q R so (Err NoMemory) p q = tt

pub tells_both : (P Q R : ℕ → ℕ → Type 0) → ((rule b : ℕ) → P rule b → Q rule b → R rule b) → (f : CallFault) → TellsOf P f → TellsOf Q f → TellsOf R f
tells_both P Q R so (Damaged block rule) p q = so rule block p q
tells_both P Q R so NoMemory p q = tt

pub missing_before : (v : Seen) (fates : FinMap nat_cmp Fate) (g : Group) (m : Missing) → IsMissing (seen_with v fates) g m → IsMissing v g m
missing_before v fates g m is = record { own = is.own; absent = absent_below v fates m.block is.absent; lock = is.lock; plain = is.plain; from = is.from }

pub needed_before : (v : Seen) (fates : FinMap nat_cmp Fate) (blocks : List ℕ) (m : Missing) → IsNeededFor (seen_with v fates) blocks m → IsNeededFor v blocks m
needed_before v fates blocks m needed = (
  needed.0,
  needed.1,
  (needed.2.0, needed.2.1, needed.2.2, record { block = missing_before v fates needed.0 m needed.2.3.block; which = needed.2.3.which }),
)

-- the header of a group that has some of these blocks is needed for them
pub header_needed : (v : Seen) (g : Group) (b : ℕ) (blocks : List ℕ) (m : Missing) → HasGroup v g → IsDataOf g b → Contains blocks b → IsMissing v g m → m.block ≡ g.addr → IsNeededFor v blocks m
header_needed v g b blocks m has own there missing which = (g, has, (b, there, own, record { block = missing; which = inl which }))

-- block k of a group
block_in : (at : ℕ → List ℕ) (g : Group) (k : ℕ) → k < g.length → slice_index_or (blocks_of at g) k [] ≡ at (g.addr + k)
block_in at g k low = get_or-map-range_with_len at g.addr g.length k (g.addr + k) [] low refl

-- what a group's header says stands in its first block
pub header_same : (at at' : ℕ → List ℕ) (g : Group) → 0 < g.length → at g.addr ≡ at' g.addr → header_in at g ≡ header_in at' g
header_same at at' g some same =
    let first : g.addr + 0 ≡ g.addr = omega arith in
    ap group_of (block_in at g 0 some ∙ ap at first ∙ same ∙ sym (block_in at' g 0 some ∙ ap at' first))

-- a number that is put breaks nothing
pub number_breaks_nothing : (at at' : ℕ → List ℕ) (g : Group) (number rule b : ℕ) → IsNumberPut at at' g number → IsBroken at' g rule b → IsBroken at g rule b
number_breaks_nothing at at' g number rule b is (no_header zero low lacks) = absurd (lacks (subst (HasHeader 2 200) (block_in at' g 0 low) is.kind))
number_breaks_nothing at at' g number rule b is (no_header (suc k) low lacks) =
    let same : at' (g.addr + suc k) ≡ at (g.addr + suc k) = sym (block_in at' g (suc k) low) ∙ is.more (suc k) (omega arith) ∙ block_in at g (suc k) low in
    no_header (suc k) low (λ has. lacks (subst (HasHeader (kind_of (suc k)) (format_of (suc k))) (sym same) has))
number_breaks_nothing at at' g number rule b is (wrong_free other) =
    wrong_free (λ e. other (ap (λ (x : GroupHeader). x.free) is.header ∙ e ∙ ap (λ bits. count_of 0 (map (state_at bits) (range_with_len 0 g.count))) (sym is.bits)))
number_breaks_nothing at at' g number rule b is (wrong_dinodes other) =
    wrong_dinodes (λ e. other (ap (λ (x : GroupHeader). x.dinodes) is.header ∙ e ∙ ap (λ bits. count_of 3 (map (state_at bits) (range_with_len 0 g.count))) (sym is.bits)))

-- the block of which a group's rule is told is of its header and bitmap
pub broken_own : (at : ℕ → List ℕ) (g : Group) (rule b : ℕ) → 1 ≤ g.length → IsBroken at g rule b → IsHeaderOf g b
broken_own at g rule b some (no_header k low lacks) = record { low = omega arith; high = omega (arith, low) }
broken_own at g rule b some (wrong_free other) = record { low = omega arith; high = omega (arith, some) }
broken_own at g rule b some (wrong_dinodes other) = record { low = omega arith; high = omega (arith, some) }

pub own_header : (v : Seen) (g : Group) → IsView v → HasGroup v g → IsHeaderOf g g.addr
own_header v g shows has = let fit = fit_of v g shows has in record { low = omega arith; high = omega (arith, fit.some) }

-- a data block is no block of a group's header and bitmap
pub data_apart : (v : Seen) (g : Group) (b c : ℕ) → IsView v → HasGroup v g → HasDataBlock v b → IsHeaderOf g c → c ≢ b
data_apart v g b c shows has inside header same = no_header_data v shows g inside.0 has inside.1 c header (subst (IsDataOf inside.0) (sym same) inside.2)

-- more blocks of a group
pub breaks_wide : (v : Seen) (xs ys : List ℕ) (rule c : ℕ) → ((b : ℕ) → Contains xs b → Contains ys b) → BreaksSome v xs rule c → BreaksSome v ys rule c
breaks_wide v xs ys rule c wide (g, has, some, broken) = (g, has, (some.0, wide some.0 some.1, some.2), broken)

pub needed_wide : (v : Seen) (xs ys : List ℕ) (m : Missing) → ((b : ℕ) → Contains xs b → Contains ys b) → IsNeededFor v xs m → IsNeededFor v ys m
needed_wide v xs ys m wide (g, has, (b, there, own, two)) = (g, has, (b, wide b there, own, two))

-- ---- of a draft that leaves the groups

module _ (v : Seen) (fates : FinMap nat_cmp Fate) (leaves : LeavesGroups v fates) where
  -- it shows the groups as the view does
  pub shown_then : (g : Group) (at : ℕ → List ℕ) → HasGroup v g → IsShown v g at → IsShown (seen_with v fates) g at
  shown_then g at has shown = record {
    whole = shown.whole;
    same = λ b bytes own there. shown.same b bytes own (sym (left_seen v fates b (leaves g b has own)) ∙ there);
  }

  pub shown_before : (g : Group) (at : ℕ → List ℕ) → HasGroup v g → IsShown (seen_with v fates) g at → IsShown v g at
  shown_before g at has shown = record {
    whole = shown.whole;
    same = λ b bytes own there. shown.same b bytes own (left_seen v fates b (leaves g b has own) ∙ there);
  }

  pub breaks_before : (blocks : List ℕ) (rule c : ℕ) → BreaksSome (seen_with v fates) blocks rule c → BreaksSome v blocks rule c
  breaks_before blocks rule c (g, has, some, broken) = (g, has, some, λ at shown. broken at (shown_then g at has shown))

  -- where a rule is told of a group, the block is of its header and bitmap
  pub told_header : IsView (seen_with v fates) → (blocks : List ℕ) (rule c : ℕ) → BreaksSome v blocks rule c → (g : Group) × HasGroup v g × IsHeaderOf g c
  told_header shows blocks rule c (g, has, some, broken) =
      let w = seen_with v fates in
      (g, has, broken_own (some_bytes w) g rule c (fit_of w g shows has).some (broken (some_bytes w) (shown_before g (some_bytes w) has (some_shown w g shows))))

  -- so the view has it, if a later draft sees none of these that it hasn't
  pub kept_before : IsView (seen_with v fates) → (later : Seen) → ((g : Group) (c : ℕ) → HasGroup v g → IsHeaderOf g c → HasBlock later c → HasBlock v c)
      → (blocks : List ℕ) (rule c : ℕ) → BreaksSome v blocks rule c → HasBlock later c → HasBlock v c
  kept_before shows later sees blocks rule c breaks there =
      let of = told_header shows blocks rule c breaks in
      sees of.0 c of.1 of.2 there

  pub sees_below : (g : Group) (c : ℕ) → HasGroup v g → IsHeaderOf g c → HasBlock (seen_with v fates) c → HasBlock v c
  sees_below g c has own there = (there.0, sym (left_seen v fates c (leaves g c has own)) ∙ there.1)

-- no data block is the first block of the image
pub positive_block : (v : Seen) → IsView v → (b : ℕ) → HasDataBlock v b → b ≢ 0
positive_block v shows b inside none = let fit = fit_of v inside.0 shows inside.1 in omega (arith, inside.2.low, fit.first, fit.above, none)

-- a directory without a number
pub no_number_wrong : (v : Seen) (dir : ℕ) (d : Dinode) (h : Holding) → dirs.IsShown v dir h → d ≡ dinode_in h → d.num.number ≡ 0 → (rule b : ℕ) → rule ≡ 7 → b ≡ dir → IsWrongForName v h rule b
no_number_wrong v dir d h shown same none rule b seven at =
    subst₂ (IsWrongForName v h) (sym seven) (shown.inode.own ∙ sym at) (of_directory (dirs.IsBroken.of_inode (rules.IsBroken.no_number (ap (λ (x : Dinode). x.num.number) (sym same) ∙ none))))
