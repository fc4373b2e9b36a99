-- A change of nothing.
use Rattle.std.proofs.Common.{◌≡◌, ℕ, inl, false, true≢false, not, ◌&&◌, List, [], length, map, slice_get, refl, sym, ap, ◌∙◌, subst}
use Rattle.std.specs.Prelude.{◌||◌, ◌==◌, is_some, unwrap_or}
use Rattle.std.specs.List.{list_any}
use Rattle.std.specs.List.Sorted.{IsStrictlySortedBy}
use Rattle.std.specs.Ordering.{nat_cmp}
use Rattle.file_tree.specs.Tree.{Tree}
use Rattle.file_tree.specs.Apply.{apply, Answers}
use Rattle.cluster_history.proofs.Changing.{others_leave}
use Rattle.drafts.specs.declared.change.Change.{Change}
use Rattle.drafts.specs.declared.change.Written.{Written}
use Rattle.image_model.specs.Image.{Image}
use Rattle.image_model.specs.Owners.{Owners}
use Rattle.image_model.specs.Stands.{Layout}
use Rattle.image_model.proofs.Held.{none_some}
use Rattle.image_changes.specs.Changes.{SystemStays}
use Rattle.image_changes.specs.Does.{bytes_for, with_change, frees, has_block, is_empty, IsOf, DoesIn, NothingDoes}
use Rattle.image_changes.specs.Instances.{StandsBy}
use Rattle.image_changes.proofs.System.{system_none}

module _ (change : Change) (none : change.blocks.items ≡ []) (none' : change.freed.items ≡ []) where
  same_image : (im : Image) → with_change im change ≡ im
  same_image im = λ i. record { size = im.size; count = im.count; at = λ b. unwrap_or (bytes_for (none i) b) (im.at b) }

  has_none : (b : ℕ) → has_block change b ≡ false
  has_none b = λ i. is_some (bytes_for (none i) b) || list_any (λ f. f == b) (none' i)

  freed_none : (b : ℕ) → frees change b ≡ false
  freed_none b = λ i. list_any (λ f. f == b) (none' i)

pub nothing_does : NothingDoes
unfolding IsStrictlySortedBy
nothing_does v call reply change none none'' none' still replies = record {
  form = record {
    blocks = subst (λ (ws : List Written). IsStrictlySortedBy nat_cmp (map (λ (w : Written). w.block) ws)) (sym none) tt;
    freed = subst (IsStrictlySortedBy nat_cmp) (sym none') tt;
    locks = ap length none'' ∙ sym (ap length none);
    apart = λ b frees. absurd (true≢false (sym frees ∙ freed_none change none none' b));
  };
  tells = (λ i. is_empty (none i) && is_empty (none' i)) ∙ sym (ap not still);
  images = in_each;
}
  where
    in_each : (im : Image) (o : Owners) (l : Layout) (t : Tree) → IsOf v im o l t → DoesIn v call reply change im o l t
    in_each im o l t is = record {
      replies = replies im o l t is;
      owners = o;
      stands = subst (StandsBy (with_change im change) o l) (sym tree) (subst (λ z. StandsBy z o l t) (sym same) is.stands);
      system = subst (λ z. SystemStays im z o o l) (sym same) (system_none im o l);
      before = λ b has. absurd (true≢false (sym has ∙ has_none change none none' b));
      after = λ b has. absurd (true≢false (sym has ∙ has_none change none none' b));
      written = λ i w lock at at'. absurd (none_some (sym (ap (λ l. slice_get l i) none) ∙ at));
      freed = λ b frees. absurd (true≢false (sym frees ∙ freed_none change none none' b));
      groups = λ b g has which. absurd (true≢false (sym has ∙ has_none change none none' b));
      others = λ b not. refl;
    }
      where
        same : with_change im change ≡ im
        same = same_image change none none' im

        answered : Answers call t reply (apply call t).tree
        answered = inl (λ i. record { reply = replies im o l t is i; tree = (apply call t).tree })

        tree : (apply call t).tree ≡ t
        tree = others_leave call reply t (apply call t).tree answered still
