-- The steps of a cut, one after another, over a view.
use Rattle.std.proofs.Common.{◌≡◌, ℕ, List, [], Option, None, Some, Ok, sym, ap, ◌∙◌, subst}
use Rattle.std.specs.Prelude.{Contains, IfSome, IsSomeAnd}
use Rattle.std.specs.FinMap.{FinMap, empty}
use Rattle.std.specs.Ordering.{nat_cmp}
use Rattle.file_tree.specs.Tree.{Tree}
use Rattle.drafts.specs.Fates.{Drafted, seen_in, seen_with}
use Rattle.drafts.specs.declared.fate.Fate.{Fate}
use Rattle.gfs2_layout.specs.Holding.{Holding}
use Rattle.gfs2_layout.specs.Inode.{IsInode}
use Rattle.glock_names.specs.Steps.{IfIs}
use Rattle.glock_names.specs.Views.{Seen, HasBlock}
use Rattle.glock_names.specs.declared.steps.Step.{Step}
use Rattle.glock_names.specs.declared.steps.Step.TheVariants.{Is}
use Rattle.glock_names.proofs.StepLaws.{answer_at}
use Rattle.dinode_tree.specs.Shown.{IsShown}
use Rattle.growth_drafts.specs.Touched.{Follows}
use Rattle.growth_laws.specs.Laws.{FilesAreInodes}
use Rattle.file_cuts.specs.Cut.{CanCut, HasCut, WasLedTo}
use Rattle.resource_groups.specs.Putting.{HasDataBlock}
use Rattle.image_model.specs.Flat.{Path}
use Rattle.image_model.specs.Image.{Image}
use Rattle.image_model.specs.Owners.{Owners, holding}
use Rattle.image_model.specs.Stands.{Layout}
use Rattle.image_changes.specs.Does.{IsOf}
use Rattle.image_changes.specs.Instances.{IsAt}
use Rattle.group_locks.proofs.Images.{is_shown}
use Rattle.file_changes.specs.Drafting.{GetsTime, IsCutDraft}
use Rattle.file_changes.proofs.Fresh.{seen_new, seen_over, still_there}
use Rattle.file_changes.proofs.Standing.{own_inside}

pub some_at : {X : Type 0} (step : Step (Option X)) (o : Option X) (x : X) (P : X → Type 0) → step ≡ Is o → o ≡ Some x → IfIs (Ok step) (λ done. IsSomeAnd done P) → P x
some_at step o x P is some holds = answer_at step (Some x) (λ done. IsSomeAnd done P) (is ∙ ap Is some) holds

pub if_some_at : {X : Type 0} (step : Step (Option X)) (o : Option X) (x : X) (P : X → Type 0) → step ≡ Is o → o ≡ Some x → IfIs (Ok step) (λ done. IfSome done P) → P x
if_some_at step o x P is some holds = answer_at step (Some x) (λ done. IfSome done P) (is ∙ ap Is some) holds

pub none_at : {X : Type 0} (step : Step (Option X)) (o : Option X) (P : X → Type 0) → step ≡ Is o → o ≡ None → IfIs (Ok step) (λ done. IsSomeAnd done P) → ⊥
none_at step o P is none holds = answer_at step None (λ done. IsSomeAnd done P) (is ∙ ap Is none) holds

module _ {V : Type 0} (seen : V → Seen) (view : V) (d0 : Drafted V) (new : d0 ≡ record { view = view; fates = empty }) (a size : ℕ) where
  pub shown_new : (h : Holding) → IsShown (seen view) a h → IsShown (seen_in seen d0) a h
  shown_new h = subst (λ w. IsShown w a h) (sym (seen_new seen view d0 new))

  module _ (d1 : Drafted V) (same : d1.view ≡ d0.view) where
    over : d1.view ≡ view
    over = same ∙ ap (λ (d : Drafted V). d.view) new

    cut_over : (h : Holding) (freed : List ℕ) → HasCut (seen_in seen d1) d0.fates d1.fates h size freed → HasCut (seen_with (seen view) d1.fates) empty d1.fates h size freed
    cut_over h freed cut =
        subst (λ w. HasCut w empty d1.fates h size freed) (seen_over seen view d1 over)
        (subst (λ (f : FinMap nat_cmp Fate). HasCut (seen_in seen d1) f d1.fates h size freed) (ap (λ (d : Drafted V). d.fates) new) cut)

    pub there_still : HasBlock (seen_in seen d0) a → HasBlock (seen_in seen d1) a
    there_still has = subst (λ w. HasBlock w a) (sym (seen_over seen view d1 over)) (still_there (seen view) d1.fates a (subst (λ w. HasBlock w a) (seen_new seen view d0 new) has))

    pub is_cut_draft : (time : ℕ) (freed : List ℕ) (last : FinMap nat_cmp Fate) → Follows (seen d0.view) a [] d0.fates d1.fates
        → ((h : Holding) → IsShown (seen_in seen d0) a h → CanCut h size → HasCut (seen_in seen d1) d0.fates d1.fates h size freed)
        → ((b : ℕ) → Contains freed b → WasLedTo (seen d0.view) a d0.fates d1.fates b) → ((b : ℕ) → Contains freed b → HasDataBlock (seen view) b)
        → GetsTime (seen d1.view) d1.fates a time last → IsCutDraft (seen view) a size time freed last
    is_cut_draft time freed last within cuts led inside timed = record {
      first = d1.fates;
      within = subst (λ (d : Drafted V). Follows (seen d.view) a [] d.fates d1.fates) new within;
      is_cut = λ h shown can. cut_over h freed (cuts h (shown_new h shown) can);
      led = λ b is. subst (λ (d : Drafted V). WasLedTo (seen d.view) a d.fates d1.fates b) new (led b is);
      inside = inside;
      timed = subst (λ (x : V). GetsTime (seen x) d1.fates a time last) over timed;
    }

-- what is left of the file is an inode
pub left_inode : FilesAreInodes → (after : Seen) (old new : FinMap nat_cmp Fate) (h : Holding) (size : ℕ) (freed : List ℕ) (cut : HasCut after old new h size freed) → IsInode cut.g
left_inode inodes after old new h size freed cut = inodes cut.g cut.is_cut.sound.file cut.is_cut.sound.blocks

-- in an image that stands the file can be cut, and what is freed are data blocks
module _ (v : Seen) (im : Image) (o : Owners) (l : Layout) (t : Tree) (path : Path) (of : IsOf v im o l t) (a : ℕ) (at : IsAt im o l path a) where
  pub shown_there : IsShown v a (holding im o a)
  shown_there = is_shown v im o l t of path a at

  pub freed_inside : (after : Seen) (old new : FinMap nat_cmp Fate) (size : ℕ) (freed : List ℕ) → HasCut after old new (holding im o a) size freed → (b : ℕ) → Contains freed b → HasDataBlock v b
  freed_inside after old new size freed cut b has = own_inside v im o l t of a b (cut.is_cut.blocks.were b has)
