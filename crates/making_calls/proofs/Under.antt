-- The locks that a change touches are of the call's list.
use Rattle.std.proofs.Common.{◌≡◌, ℕ, Bool, false, true≢false, List, [], ◌∷◌, length, get_or, take, Option, Some, inl, refl, sym, ap, ◌∙◌, subst, arith}
use Rattle.std.proofs.lemmas.List.{take_all}
use Rattle.std.proofs.lemmas.Option.{slice_get-get_or}
use Rattle.std.specs.Prelude.{Contains, ◌==◌, None, unwrap_or}
use Rattle.std.specs.List.{list_any}
use Rattle.std.specs.Ordering.{nat_cmp}
use Rattle.std.specs.FinMap.{FinMap, get}
use Rattle.file_tree.specs.declared.call.Call.{Call}
use Rattle.drafts.specs.Fates.{block_with}
use Rattle.drafts.specs.declared.change.Change.{Change}
use Rattle.drafts.specs.declared.change.Written.{Written}
use Rattle.drafts.specs.declared.fate.Fate.{Fate}
use Rattle.drafts.specs.declared.fate.Fate.TheVariants.{Put}
use Rattle.glock_names.specs.declared.LockName.{LockName}
use Rattle.glock_names.specs.declared.State.TheVariants.{Ex}
use Rattle.call_locks.specs.Wants.{want, shared_above, wanted}
use Rattle.call_locks.specs.WantLaws.{path_of}
use Rattle.call_locks.specs.declared.want.Want.{Want}
use Rattle.image_model.specs.Flat.{Path, Flat, follow}
use Rattle.image_model.specs.Image.{Image}
use Rattle.image_model.specs.Owners.{Owners}
use Rattle.image_model.specs.Stands.{Layout, flat_of}
use Rattle.image_model.proofs.Members.{IsIn, is_in, in_right, in_flat_map}
use Rattle.image_changes.specs.Does.{with_change}
use Rattle.image_changes.specs.Drafted.{IsFinished}
use Rattle.image_changes.specs.Instances.{IsAt}
use Rattle.image_changes.proofs.Finishing.{finish_makes}
use Rattle.name_drafts.specs.Holds.{Hold, hold_of, hold_for, holds_on, IsUnder}
use Rattle.making_calls.specs.Making.{IsMaking, directory_path, path_holds}
use Rattle.making_calls.proofs.Wanted.{wants_are}
use Rattle.name_drafts.specs.Walks.{IsLastOf}

-- each lock of a change is one with which its draft put a block
pub each_lock : (fates : FinMap nat_cmp Fate) (change : Change) → IsFinished fates change → (P : LockName → Type 0)
    → ((b : ℕ) (lock : LockName) (plain : Bool) (bytes : List ℕ) → get fates b ≡ Some (Put lock plain bytes) → P lock) → (lock : LockName) → Contains change.locks.items lock → P lock
each_lock fates change finished P puts lock has =
    let d = finish_makes fates change finished in
    let nothing : Written = record { block = 0; plain = false; bytes = [] } in
    let w : Written = get_or change.blocks.items has.0 nothing in
    puts w.block lock w.plain w.bytes
    (d.told has.0 w lock (slice_get-get_or change.blocks.items has.0 nothing (omega (arith, has.1, d.form.locks))) (slice_get-get_or change.locks.items has.0 lock has.1 ∙ ap Some has.2))

hold_there : (f : Flat) (root : ℕ) (path : Path) (wants : List Want) (w : Want) (a : ℕ) → IsIn w wants → follow f root (take w.depth path) ≡ Some a → IsIn (hold_of a w.state) (holds_on f root path wants)
hold_there f root path wants w a at leads =
    in_flat_map (λ (x : Want). hold_for (follow f root (take x.depth path)) x.state) w (hold_of a w.state) wants at
    (subst (λ (x : Option ℕ). IsIn (hold_of a w.state) (hold_for x w.state)) (sym leads) (inl refl))

-- the directory's lock is of those of the path
pub directory_listed : (im : Image) (o : Owners) (l : Layout) (c : Call) (name : List ℕ) → IsMaking c → IsLastOf (path_of c false) name → (a : ℕ) → IsAt im o l (directory_path c) a
    → IsIn (hold_of a Ex) (path_holds im o l c)
directory_listed im o l c name is last a at =
    let path = directory_path c in
    let n = length path in
    hold_there (flat_of im o) l.root path (wanted c) (want false n Ex) a
    (subst (IsIn (want false n Ex)) (sym (wants_are c name is last)) (in_right (want false n Ex) (shared_above false n) (want false n Ex ∷ []) (inl refl)))
    (ap (follow (flat_of im o) l.root) (take_all n path (omega arith)) ∙ at)

-- a change of nothing touches none
pub nothing_under : (o : Owners) (list : List Hold) (change : Change) → change.locks.items ≡ [] → change.freed.items ≡ [] → IsUnder o list change
nothing_under o list change locks freed = record {
  written = λ lock has. elim (is_in lock [] (subst (λ xs. Contains xs lock) locks has)) [ ];
  freed = λ b a gone its. absurd (true≢false (sym gone ∙ ap (list_any (λ f. f == b)) freed));
}

-- where a draft put a block, the image with its change has these bytes
pub change_at : (fates : FinMap nat_cmp Fate) (change : Change) → IsFinished fates change → (im : Image) (b : ℕ) (lock : LockName) (bytes : List ℕ) → get fates b ≡ Some (Put lock false bytes)
    → (with_change im change).at b ≡ bytes
change_at fates change finished im b lock bytes put =
    ap (λ (i : Image). i.at b) ((finish_makes fates change finished).image im) ∙ ap (λ f. unwrap_or (block_with f None) (im.at b)) put
