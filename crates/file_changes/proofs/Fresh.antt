-- What a draft over a view sees: nothing more, while nothing is put; and groups as the view does, while none of them is put.
use Rattle.std.proofs.Common.{◌≡◌, ℕ, List, Option, None, Some, refl, sym, ap, ◌∙◌, subst}
use Rattle.std.specs.Ordering.{nat_cmp}
use Rattle.std.specs.FinMap.{FinMap, get, empty, get-empty}
use Rattle.file_tree.specs.Tree.{Tree}
use Rattle.drafts.specs.Fates.{Drafted, block_with, seen_in, seen_with}
use Rattle.drafts.specs.declared.fate.Fate.{Fate}
use Rattle.drafts.specs.declared.fate.Fate.TheVariants.{Put, Freed}
use Rattle.gfs2_layout.specs.declared.rindex.Rindex.{Rindex}
use Rattle.glock_names.specs.Views.{Seen, HasBlock, group_of_entry}
use Rattle.glock_names.specs.Steps.{TellsOf}
use Rattle.glock_names.specs.declared.steps.CallFault.{CallFault}
use Rattle.glock_names.specs.declared.steps.CallFault.TheVariants.{Damaged}
use Rattle.glock_names.specs.declared.steps.Missing.{Missing}
use Rattle.resource_groups.specs.Freeing.{AreFreed, BreaksSome, IsNeededFor, KeepsRest}
use Rattle.resource_groups.specs.Shown as group
use Rattle.image_model.specs.Groups.{IsHeaderOf}
use Rattle.image_model.specs.Image.{Image}
use Rattle.image_model.specs.Owners.{Owners}
use Rattle.image_model.specs.Stands.{Layout}
use Rattle.image_changes.specs.Does.{IsOf}
use Rattle.draft_changes.specs.Resizing.{LeavesGroups}
use Rattle.draft_changes.proofs.Views.{groups_are_listed}
use Rattle.group_locks.specs.Laws.{GroupsBreakNothing}
use Rattle.file_changes.specs.Drafting.{FreesIn}

pub unchanged : (v : Seen) → seen_with v empty ≡ v
unchanged v = λ i. record v { block_at = λ b. ap (λ f. block_with f (v.block_at b)) (get-empty nat_cmp b) i }

pub seen_new : {V : Type 0} (seen : V → Seen) (view : V) (d : Drafted V) → d ≡ record { view = view; fates = empty } → seen_in seen d ≡ seen view
seen_new seen view d new = ap (seen_in seen) new ∙ unchanged (seen view)

pub seen_over : {V : Type 0} (seen : V → Seen) (view : V) (d : Drafted V) → d.view ≡ view → seen_in seen d ≡ seen_with (seen view) d.fates
seen_over seen view d over = ap (λ x. seen_with (seen x) d.fates) over

-- a block that the draft doesn't see the view hasn't
pub unseen : (f : Option Fate) (s : Option (List ℕ)) → block_with f s ≡ None → s ≡ None
unseen None s e = e
unseen (Some Freed) s e = e
unseen (Some (Put lock plain bytes)) s e = cc

-- and one that the view has the draft sees
pub still_there : (v : Seen) (fates : FinMap nat_cmp Fate) (b : ℕ) → HasBlock v b → HasBlock (seen_with v fates) b
still_there v fates b has = by (get fates b)
  where
    by : (f : Option Fate) → (bytes : List ℕ) × (block_with f (v.block_at b) ≡ Some bytes)
    by None = has
    by (Some Freed) = has
    by (Some (Put lock plain bytes)) = (bytes, refl)

pub needed_below : (v : Seen) (fates : FinMap nat_cmp Fate) (blocks : List ℕ) (m : Missing) → IsNeededFor (seen_with v fates) blocks m → IsNeededFor v blocks m
needed_below v fates blocks m needed = (
  needed.0,
  needed.1,
  (
    needed.2.0,
    needed.2.1,
    needed.2.2,
    record {
      block = record {
        own = needed.2.3.block.own;
        absent = unseen (get fates m.block) (v.block_at m.block) needed.2.3.block.absent;
        lock = needed.2.3.block.lock;
        plain = needed.2.3.block.plain;
        from = needed.2.3.block.from;
      };
      which = needed.2.3.which;
    },
  ),
)

-- in an image that stands no group is damaged in a draft that puts none of them
pub none_breaks : GroupsBreakNothing → (v : Seen) (fates : FinMap nat_cmp Fate) (im : Image) (o : Owners) (l : Layout) (t : Tree) → IsOf v im o l t → LeavesGroups l fates
    → (blocks : List ℕ) (rule b : ℕ) → BreaksSome (seen_with v fates) blocks rule b → ⊥
none_breaks sound v fates im o l t of leaves blocks rule b breaks =
    let f = (groups_are_listed v im o l t breaks.0 of).0 breaks.1 in
    sound v im o l t blocks rule b of (
      breaks.0,
      breaks.1,
      breaks.2,
      λ at shown. breaks.3 at (record {
        whole = shown.whole;
        same = λ c bytes head e. shown.same c bytes head (sym (ap (λ x. block_with x (v.block_at c)) (leaves f.0 c f.1 (own_header f.0 c (subst (λ k. group.IsHeaderOf k c) f.2 head)))) ∙ e);
      }),
    )
  where
    own_header : (k : Rindex) (c : ℕ) → group.IsHeaderOf (group_of_entry k) c → IsHeaderOf k c
    own_header k c head = record { low = head.low; high = head.high }

-- blocks that are freed in a draft over the view
pub frees_in : {V : Type 0} (seen : V → Seen) (view : V) (old new : Drafted V) (blocks : List ℕ) → old.view ≡ view → AreFreed seen old new blocks → KeepsRest seen old new blocks
    → FreesIn (seen view) old.fates new.fates blocks
frees_in {V} seen view old new blocks over freed rest = by old.view over (subst (λ (n : V). AreFreed seen old (record { view = n; fates = new.fates }) blocks) rest.view freed) (subst (λ (n : V). KeepsRest seen old (record { view = n; fates = new.fates }) blocks) rest.view rest)
  where
    by : (x : V) → x ≡ view → AreFreed seen (record { view = x; fates = old.fates }) (record { view = x; fates = new.fates }) blocks → KeepsRest seen (record { view = x; fates = old.fates }) (record { view = x; fates = new.fates }) blocks
        → FreesIn (seen view) old.fates new.fates blocks
    by x e f r = subst (λ y. FreesIn (seen y) old.fates new.fates blocks) e (record {
      frees = record { freed = f.freed; puts = f.puts; headers = f.headers; only = f.only; counts = f.counts; sees = f.sees };
      rest = record { view = refl; others = r.others; groups = r.groups };
    })

-- damage that can't be isn't told
pub told_never : (P : ℕ → ℕ → Type 0) (f : CallFault) (block rule : ℕ) → f ≡ Damaged block rule → TellsOf P f → ((r b : ℕ) → P r b → ⊥) → ⊥
told_never P f block rule is told never = never rule block (subst (TellsOf P) is told)

-- a draft in which nothing is put sees what its view does
pub seen_old : {V : Type 0} (seen : V → Seen) (d : Drafted V) → d.fates ≡ empty → seen_in seen d ≡ seen d.view
seen_old seen d new = ap (seen_with (seen d.view)) new ∙ unchanged (seen d.view)
