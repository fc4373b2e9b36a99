-- What becomes of blocks in a draft over a view, and what it sees of them.
use Rattle.std.proofs.Common.{◌≡◌, ◌≢◌, inl, inr, ℕ, Bool, List, Option, None, Some, refl, sym, ap, ◌∙◌}
use Rattle.std.proofs.lemmas.Bool.{cases_eq}
use Rattle.std.specs.Cmp.{nat_cmp_total}
use Rattle.std.specs.Ordering.{nat_cmp}
use Rattle.std.specs.FinMap.{FinMap, get, empty, insert, get-empty, nat_cmp-IsAntisymmetric}
use Rattle.finite_maps.proofs.Keys.{inserted_at, inserted_apart}
use Rattle.drafts.specs.Fates.{AreWhole, Drafted, block_with, seen_in, seen_with}
use Rattle.drafts.specs.declared.fate.Fate.{Fate}
use Rattle.drafts.specs.declared.fate.Fate.TheVariants.{Put, Freed}
use Rattle.glock_names.specs.Views.{Seen, HasBlock, IsView}
use Rattle.glock_names.specs.declared.LockName.{LockName}
use Rattle.image_model.proofs.Held.{none_some}

pub put_there : (f : FinMap nat_cmp Fate) (b : ℕ) (x : Fate) → get (insert f b x) b ≡ Some x
put_there f b x = inserted_at nat_cmp_total nat_cmp-IsAntisymmetric f b x

pub put_elsewhere : (f : FinMap nat_cmp Fate) (b : ℕ) (x : Fate) (c : ℕ) → c ≢ b → get (insert f b x) c ≡ get f c
put_elsewhere f b x c apart = inserted_apart nat_cmp_total nat_cmp-IsAntisymmetric f b x c apart

pub unchanged : (v : Seen) → seen_with v empty ≡ v
unchanged v = λ i. record v { block_at = λ b. ap (λ f. block_with f (v.block_at b)) (get-empty nat_cmp b) i }

-- a draft in which nothing is put sees what its view does
pub seen_old : {V : Type 0} (seen : V → Seen) (d : Drafted V) → d.fates ≡ empty → seen_in seen d ≡ seen d.view
seen_old seen d new = ap (seen_with (seen d.view)) new ∙ unchanged (seen d.view)

pub seen_new : {V : Type 0} (seen : V → Seen) (view : V) (d : Drafted V) → d ≡ record { view = view; fates = empty } → seen_in seen d ≡ seen view
seen_new seen view d new = ap (seen_in seen) new ∙ unchanged (seen view)

pub seen_over : {V : Type 0} (seen : V → Seen) (view : V) (d : Drafted V) → d.view ≡ view → seen_in seen d ≡ seen_with (seen view) d.fates
seen_over seen view d over = ap (λ x. seen_with (seen x) d.fates) over

-- a block that the draft doesn't see the view hasn't
unseen : (f : Option Fate) (s : Option (List ℕ)) → block_with f s ≡ None → s ≡ None
unseen None s e = e
unseen (Some Freed) s e = e
unseen (Some (Put lock plain bytes)) s e = absurd (none_some (sym e))

pub absent_below : (v : Seen) (fates : FinMap nat_cmp Fate) (b : ℕ) → (seen_with v fates).block_at b ≡ None → v.block_at b ≡ None
absent_below v fates b e = unseen (get fates b) (v.block_at b) e

-- and one that the view has the draft sees
pub still_there : (v : Seen) (fates : FinMap nat_cmp Fate) (b : ℕ) → HasBlock v b → HasBlock (seen_with v fates) b
still_there v fates b has = by (get fates b)
  where
    by : (f : Option Fate) → (bytes : List ℕ) × (block_with f (v.block_at b) ≡ Some bytes)
    by None = has
    by (Some Freed) = has
    by (Some (Put lock plain bytes)) = (bytes, refl)

-- of a block that is left a draft sees what the view does
pub left_seen : (v : Seen) (fates : FinMap nat_cmp Fate) (b : ℕ) → get fates b ≡ None → (seen_with v fates).block_at b ≡ v.block_at b
left_seen v fates b e = ap (λ f. block_with f (v.block_at b)) e

pub put_seen : (v : Seen) (fates : FinMap nat_cmp Fate) (b : ℕ) (lock : LockName) (plain : Bool) (bytes : List ℕ) → get fates b ≡ Some (Put lock plain bytes) → (seen_with v fates).block_at b ≡ Some bytes
put_seen v fates b lock plain bytes e = ap (λ f. block_with f (v.block_at b)) e

-- drafts that make the same of a block see the same of it
pub alike_seen : (v : Seen) (f g : FinMap nat_cmp Fate) (b : ℕ) → get g b ≡ get f b → (seen_with v g).block_at b ≡ (seen_with v f).block_at b
alike_seen v f g b e = ap (λ fate. block_with fate (v.block_at b)) e

-- a view of a draft knows what was put whole
pub view_whole : (v : Seen) (fates : FinMap nat_cmp Fate) → IsView (seen_with v fates) → AreWhole v.size fates
view_whole v fates view b lock plain bytes put = view.whole b bytes (ap (λ f. block_with f (v.block_at b)) put)

pub lock_put : (x y : LockName) (c d : Bool) (m n : List ℕ) → Some (Put x c m) ≡ Some (Put y d n) → x ≡ y
lock_put x y c d m n e = cc

-- a draft that puts one more block sees each block that it saw
pub sees_more : (v : Seen) (f : FinMap nat_cmp Fate) (b : ℕ) (lock : LockName) (plain : Bool) (bytes : List ℕ) (c : ℕ) → HasBlock (seen_with v f) c
    → HasBlock (seen_with v (insert f b (Put lock plain bytes))) c
sees_more v f b lock plain bytes c has = elim (cases_eq c b) [
  | inl same ↦ (bytes, put_seen v (insert f b (Put lock plain bytes)) c lock plain bytes (ap (get (insert f b (Put lock plain bytes))) same ∙ put_there f b (Put lock plain bytes)))
  | inr apart ↦ (has.0, alike_seen v f (insert f b (Put lock plain bytes)) c (put_elsewhere f b (Put lock plain bytes) c apart) ∙ has.1)
]
