-- Another size in a draft.
use Rattle.std.proofs.Common.{◌≡◌, ℕ, false, List, length, drop, Result, Ok, Err, OnOk, Some, sym, ap, ◌∙◌, subst}
use Rattle.std.specs.FinMap.{insert}
use Rattle.drafts.specs.Fates.{Drafted, seen_in, seen_with}
use Rattle.drafts.specs.declared.fate.Fate.TheVariants.{Put}
use Rattle.file_tree.specs.Apply.{resized}
use Rattle.gfs2_layout.specs.Holding.{Itself, Holding, bytes_at}
use Rattle.gfs2_layout.specs.Inode.{dinode_in, content_of}
use Rattle.gfs2_layout.specs.Structures.{dinode_length, dinode_read}
use Rattle.gfs2_layout.specs.declared.dinode.Dinode.{Dinode}
use Rattle.glock_names.specs.Views.{Seen}
use Rattle.dinode_tree.specs.Reading.{inode_lock}
use Rattle.dinode_tree.specs.Shown.{IsShown}
use Rattle.growth_laws.specs.Blocks.{rewritten_cells}
use Rattle.growth_laws.specs.Files.{IsFile, with_cells}
use Rattle.growth_laws.specs.Steps.{IsSized}
use Rattle.growth_laws.proofs.Numbers.{written_dinodes_are_said}
use Rattle.growth_laws.proofs.Pointing.{rewrites_keep_the_rest}
use Rattle.growth_laws.proofs.Sizes.{sizes_resize}
use Rattle.growth_drafts.proofs.Shown.{rewrites_are_shown}
use Rattle.growth_steps.specs.Sizes.{CanHaveSize}

pub sized_after : {V : Type 0} (seen : V → Seen) (old now : Drafted V) (inode size : ℕ) (d : Dinode) (bytes new : List ℕ) → (seen_in seen old).block_at inode ≡ Some bytes
    → now ≡ record old { fates = insert old.fates inode (Put (inode_lock inode) false new) } → dinode_read new ≡ Ok (record d { size = size })
    → drop dinode_length new ≡ drop dinode_length bytes → length new ≡ (seen old.view).size
    → (h : Holding) → IsFile h → IsShown (seen_in seen old) inode h → d ≡ dinode_in h → CanHaveSize h size
    → IsShown (seen_in seen now) inode (with_cells h (rewritten_cells h h.own new)) × IsFile (with_cells h (rewritten_cells h h.own new))
    × (content_of (with_cells h (rewritten_cells h h.own new)) ≡ resized size (content_of h))
sized_after {V} seen old now inode size d bytes new there is read behind long h file shown d_is can = (
  subst (λ (x : Drafted V). IsShown (seen_in seen x) inode (with_cells h (rewritten_cells h h.own new))) (sym is)
      (subst (λ a. IsShown (seen_with (seen old.view) (insert old.fates a (Put (inode_lock inode) false new))) inode (with_cells h (rewritten_cells h h.own new))) shown.own
      (subst (λ a. IsShown (seen_with (seen old.view) (insert old.fates h.own (Put (inode_lock inode) false new))) a (with_cells h (rewritten_cells h h.own new))) shown.own
      (rewrites_are_shown (seen old.view) old.fates h h.own Itself new (inode_lock inode) false file shown_own file.own done.0))),
  done.0,
  done.1,
)
  where
    shown_own : IsShown (seen_in seen old) h.own h
    shown_own = subst (λ a. IsShown (seen_in seen old) a h) (sym shown.own) shown

    bytes_are : bytes_at h h.own ≡ bytes
    bytes_are = shown.same h.own bytes shown.dinode (ap (seen_in seen old).block_at shown.own ∙ there)

    step : IsSized h (rewritten_cells h h.own new) size
    step =
        let kept = rewrites_keep_the_rest h h.own Itself new file.own in
        let said = written_dinodes_are_said h Itself new (record d { size = size }) file.own read in
        record {
          in_blocks = can.in_blocks;
          reached = can.reached;
          no_block = can.no_block;
          clear = can.clear;
          dinode = said.0 ∙ ap (λ (x : Dinode). record x { size = size }) d_is;
          own_header = said.1;
          own_whole = ap length kept.1 ∙ long ∙ sym shown.size;
          pointers = said.2 (behind ∙ ap (drop dinode_length) (sym bytes_are));
          parts = kept.0;
          others = kept.2;
        }

    done : IsFile (with_cells h (rewritten_cells h h.own new)) × (content_of (with_cells h (rewritten_cells h h.own new)) ≡ resized size (content_of h))
    done = sizes_resize h (rewritten_cells h h.own new) size file step

pub on_all : {E : Type 0} (r : Result Unit E) (P Q R S T : Type 0) → (P → Q → R → S → T) → OnOk r P → OnOk r Q → OnOk r R → OnOk r S → OnOk r T
on_all (Ok u) P Q R S T to p q r s = to p q r s
on_all (Err e) P Q R S T to p q r s = tt
