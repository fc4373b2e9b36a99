-- One place that is gone over, as a draft shows it.
use Rattle.std.proofs.Common.{◌≡◌, ◌≢◌, ◌⊎◌, inr, false, Option, Some, ℕ, suc, ◌+◌, ◌*◌, ◌<◌, List, [], ◌∷◌, ◌++◌, refl, sym, ap, subst, ◌∙◌, arith}
use Rattle.std.specs.Prelude.{IsSome}
use Rattle.std.specs.FinMap.{FinMap, insert}
use Rattle.std.specs.Ordering.{nat_cmp}
use Rattle.drafts.specs.Fates.{Drafted, seen_in, seen_with}
use Rattle.drafts.specs.declared.fate.Fate.{Fate}
use Rattle.drafts.specs.declared.fate.Fate.TheVariants.{Freed, Put}
use Rattle.gfs2_layout.specs.Holding.{Pointed, Cell, Holding, part_at, bytes_at}
use Rattle.gfs2_layout.specs.Inode.{Leads, fan, header_length, pointer, span}
use Rattle.glock_names.specs.Views.{Seen}
use Rattle.dinode_tree.specs.Reading.{inode_lock}
use Rattle.dinode_tree.specs.Shown.{IsShown}
use Rattle.dinode_tree.proofs.Sound.{is_there, part_of_led}
use Rattle.growth_laws.specs.Blocks.{freed_cells, start_in, with_pointer}
use Rattle.growth_laws.specs.Files.{with_cells}
use Rattle.growth_drafts.specs.Taken.{DraftsFile}
use Rattle.growth_drafts.specs.Touched.{IsReached}
use Rattle.growth_drafts.proofs.Rooms.{none_some}
use Rattle.growth_drafts.proofs.Shown.{from_there}
use Rattle.file_walks.specs.Walks.{IsStop, LeadsNowhere, LeadsOn, first_of, place_above}
use Rattle.file_walks.specs.declared.walks.Stop.{Stop}
use Rattle.file_walks.proofs.Above.{above_self}
use Rattle.file_fills.specs.Causes.{ChangesOnly}
use Rattle.file_heights.proofs.Changing.{changes_two}
use Rattle.file_cuts.specs.Progress.{CanFree, HasCutTo}
use Rattle.file_cuts.proofs.Freed.{free_drafted, free_fronts, free_has, freed as block_freed}
use Rattle.file_cuts.proofs.Going.{cut_freed}
use Rattle.file_cuts.proofs.Ways.{seen_on}

module _ {V : Type 0} (seen : V → Seen) (f0 : FinMap nat_cmp Fate) (old now : Drafted V) (inode : ℕ) (h : Holding) (end level place : ℕ) (freed : List ℕ) (can : CanFree h inode) (reach : end < (place + 1) * span h.size level)
    (a : HasCutTo (seen old.view) f0 old.fates h end level place freed) (stop : Stop) (stopped : IsStop (with_cells h a.cell) level place stop) (same : stop.level ≡ level) (some : stop.block ≢ 0) (leads : LeadsOn (with_cells h a.cell) level place stop) where
  abbrev g : Holding
  g = with_cells h a.cell

  -- the file so far, as the draft shows it
  pub shown_now : IsShown (seen_in seen old) inode (with_cells h a.cell)
  shown_now = subst (λ x. IsShown (seen_in seen old) x (with_cells h a.cell)) can.own a.shown

  first_is : first_of (with_cells h a.cell) level place stop ≡ place * span h.size level
  first_is = (λ t. place_above h.size level place (same t) * span h.size (same t)) ∙ ap (λ n. n * span h.size level) (above_self h.size level place)

  pub leads_here : Leads (with_cells h a.cell) stop.pointer.from stop.pointer.index level (place * span h.size level) stop.block
  leads_here = subst (λ l. Leads (with_cells h a.cell) stop.pointer.from stop.pointer.index l (place * span h.size level) stop.block) same
      (subst (λ f. Leads (with_cells h a.cell) stop.pointer.from stop.pointer.index stop.level f stop.block) first_is (leads some))

  pub part_here : part_at (with_cells h a.cell) stop.block ≡ Some (Pointed stop.pointer.from stop.pointer.index level (place * span h.size level))
  part_here = part_of_led (with_cells h a.cell) stop.pointer.from stop.pointer.index level (place * span h.size level) stop.block a.cut.file.tree leads_here

  there : IsSome (a.cell stop.block)
  there = is_there (a.cell stop.block) _ part_here

  pub inside : stop.block < h.count
  inside = can.inside stop.block ((a.cut.blocks.kept stop.block).0 there).0

  pub start_here : start_in (with_cells h a.cell) stop.pointer.from ≡ stop.pointer.start
  start_here = stopped.passed.start

  module _ (nowhere : (low : ℕ) → level ≡ suc low → LeadsNowhere (with_cells h a.cell) stop.block) (bytes : List ℕ) (has : (seen_in seen old).block_at stop.pointer.from ≡ Some bytes)
      (put : now ≡ record old { fates = insert (insert old.fates stop.pointer.from (Put (inode_lock inode) false (with_pointer stop.pointer.start stop.pointer.index 0 bytes))) stop.block Freed })
      (shown : IsShown (seen_in seen now) inode (with_cells h (freed_cells (with_cells h a.cell) stop.pointer.from stop.pointer.index stop.block))) where
    led : (below j : ℕ) → level ≡ suc below → j < fan h.size header_length → pointer (with_cells h a.cell) header_length stop.block j ≡ 0
    led below j up near = nowhere below up j near

    bytes_are : bytes_at (with_cells h a.cell) stop.pointer.from ≡ bytes
    bytes_are =
        let pointed = a.cut.file.tree.pointed stop.block stop.pointer.from stop.pointer.index level (place * span h.size level) part_here in
        let from_part = from_there (with_cells h a.cell) stop.block stop.pointer.from stop.pointer.index level (place * span h.size level) a.cut.file pointed in
        shown_now.same stop.pointer.from bytes (is_there (a.cell stop.pointer.from) from_part.0 from_part.1) has

    abbrev after : ℕ → Option Cell
    after = freed_cells (with_cells h a.cell) stop.pointer.from stop.pointer.index stop.block

    fates_are : insert (insert old.fates stop.pointer.from (Put (inode_lock h.own) false (with_pointer stop.pointer.start stop.pointer.index 0 bytes))) stop.block Freed ≡ now.fates
    fates_are =
        (λ t. insert (insert old.fates stop.pointer.from (Put (inode_lock (can.own t)) false (with_pointer stop.pointer.start stop.pointer.index 0 bytes))) stop.block Freed)
        ∙ sym (ap (λ (d : Drafted V). d.fates) put)

    drafted : DraftsFile old.fates now.fates (with_cells h a.cell) (with_cells h after) (stop.block ∷ [])
    drafted = subst (λ fates. DraftsFile old.fates fates (with_cells h a.cell) (with_cells h after) (stop.block ∷ [])) fates_are
        (free_drafted old.fates (with_cells h a.cell) stop.pointer.from stop.pointer.index level (place * span h.size level) stop.block stop.pointer.start bytes a.cut.file part_here inside led start_here bytes_are)

    changed : ChangesOnly old.fates now.fates (λ x. (x ≡ stop.pointer.from) ⊎ (x ≡ stop.block))
    changed = subst (λ fates. ChangesOnly old.fates fates (λ x. (x ≡ stop.pointer.from) ⊎ (x ≡ stop.block))) fates_are
        (changes_two old.fates stop.pointer.from stop.block (Put (inode_lock h.own) false (with_pointer stop.pointer.start stop.pointer.index 0 bytes)) Freed)

    reaches : end < place * span h.size level + span h.size level
    reaches = (let flat : (place + 1) * span h.size level ≡ place * span h.size level + span h.size level = omega arith in omega (arith, reach, flat))

    pub one_freed : HasCutTo (seen old.view) f0 now.fates h end level (place + 1) (freed ++ stop.block ∷ [])
    one_freed =
        let step = block_freed old.fates (with_cells h a.cell) stop.pointer.from stop.pointer.index level (place * span h.size level) stop.block stop.pointer.start bytes a.cut.file part_here inside led start_here bytes_are in
        let gone = free_has old.fates (with_cells h a.cell) stop.pointer.from stop.pointer.index level (place * span h.size level) stop.block stop.pointer.start bytes a.cut.file part_here inside led start_here bytes_are in
        let fronts = free_fronts old.fates (with_cells h a.cell) stop.pointer.from stop.pointer.index level (place * span h.size level) stop.block stop.pointer.start bytes a.cut.file part_here inside led start_here bytes_are in
        let next = cut_freed f0 old.fates h a.cell end level place freed can.file a.cut now.fates stop.pointer.from stop.pointer.index (place * span h.size level) stop.block step refl gone drafted fronts changed reaches nowhere in
        record {
          cell = after;
          shown = subst (λ (v : V). IsShown (seen_with (seen v) now.fates) h.own (with_cells h after)) (ap (λ (d : Drafted V). d.view) put) (subst (λ x. IsShown (seen_in seen now) x (with_cells h after)) (sym can.own) shown);
          cut = next;
          ways = λ i from near.
              seen_on old.fates now.fates (seen old.view) (with_cells h a.cell) after (stop.block ∷ []) a.cut.file next.file drafted i
              (λ b l f placed. let there_after = is_there (after b) _ placed.2 in (placed.0, placed.1, sym (step.stays.parts b (λ e. none_some (after b) (ap after e ∙ step.gone) there_after)) ∙ placed.2)) (a.ways i from near);
        }

-- the block to which the pointer of a stop leads
pub reached_at : (v : Seen) (inode : ℕ) (room : List ℕ) (level place : ℕ) (stop : Stop) → stop.block ≢ 0 → ((h : Holding) → IsShown v inode h → LeadsOn h level place stop) → IsReached v inode room stop.block
reached_at v inode room level place stop some leads = inr (inr (λ h shown. (stop.pointer.from, stop.pointer.index, stop.level, _, leads h shown some)))
