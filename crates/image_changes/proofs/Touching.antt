-- A change touches the lock of each of its blocks, before and after.
use Rattle.std.proofs.Common.{◌≡◌, ◌⊎◌, ℕ, suc, inl, inr, Bool, true, false, List, [], ◌∷◌, length, Option, None, Some, slice_get, refl, sym, ap, ◌∙◌, subst, arith}
use Rattle.std.specs.Prelude.{◌==◌, is_some, if◌then◌else◌}
use Rattle.std.specs.List.{list_any}
use Rattle.std.proofs.lemmas.Bool.{eqb-true, true≢false}
use Rattle.file_tree.specs.Tree.{Tree}
use Rattle.file_tree.specs.declared.call.Call.{Call}
use Rattle.file_tree.specs.declared.reply.Reply.{Reply}
use Rattle.glock_names.specs.Views.{Seen}
use Rattle.glock_names.specs.declared.LockName.{LockName}
use Rattle.drafts.specs.declared.change.Change.{Change}
use Rattle.drafts.specs.declared.change.Written.{Written}
use Rattle.image_model.specs.Image.{Image}
use Rattle.image_model.specs.Owners.{Owners, Free}
use Rattle.image_model.specs.Stands.{Layout}
use Rattle.image_model.proofs.Held.{none_some, some_same}
use Rattle.image_changes.specs.Changes.{inode_lock, cover, is_free}
use Rattle.image_changes.specs.Does.{bytes_for, writes, frees, has_block, IsFormed, DoesIn, Touches, LocksAreTouched}
use Rattle.image_changes.proofs.Frame.{dinode_its, inode_cover}
use Rattle.image_changes.proofs.Drafting.{free_group, either}

-- a block that is written, with its place in the change and the lock there
record IsAtPlace (ws : List Written) (ks : List LockName) (b : ℕ) : Type 0 where
  place : ℕ
  block : Written
  lock : LockName
  there : slice_get ws place ≡ Some block
  told : slice_get ks place ≡ Some lock
  same : block.block ≡ b

at_place : (ws : List Written) (ks : List LockName) (b : ℕ) → length ks ≡ length ws → is_some (bytes_for ws b) ≡ true → IsAtPlace ws ks b
at_place [] ks b long e = absurd (true≢false (sym e))
at_place (w ∷ ws) [] b long e = absurd (omega (arith, long))
at_place (w ∷ ws) (k ∷ ks) b long e = by (w.block == b) refl e (λ rest. at_place ws ks b (omega (arith, long)) rest)
  where
    by : (t : Bool) → (w.block == b) ≡ t → is_some (if t then Some w.bytes else bytes_for ws b) ≡ true → (is_some (bytes_for ws b) ≡ true → IsAtPlace ws ks b) → IsAtPlace (w ∷ ws) (k ∷ ks) b
    by true here e later = record { place = 0; block = w; lock = k; there = refl; told = refl; same = eqb-true w.block b here }
    by false away e later =
        let r = later e in
        record { place = suc r.place; block = r.block; lock = r.lock; there = r.there; told = r.told; same = r.same }

-- the lock of an inode is that of its number
numbered : (l : Layout) (a : ℕ) (lock : LockName) → inode_lock l a ≡ Some lock → lock ≡ record { kind = 2; number = a }
numbered l a lock = by (list_any (λ d. d == a) l.journals)
  where
    by : (t : Bool) → (if t then None else Some (record { kind = 2; number = a })) ≡ Some lock → lock ≡ record { kind = 2; number = a }
    by true e = absurd (none_some e)
    by false e = sym (some_same e)

module _ (v : Seen) (call : Call) (reply : Reply) (change : Change) (im : Image) (o : Owners) (l : Layout) (t : Tree) (form : IsFormed change) (does : DoesIn v call reply change im o l t) where
  -- the lock that is told with a written block, which covers it
  record IsToldHere (b : ℕ) : Type 0 where
    lock : LockName
    touched : Touches change lock
    after : cover l b (does.owners b) ≡ Some lock
    before : (cover l b (o b) ≡ Some lock) ⊎ (is_free (o b) ≡ true)

  told_here : (b : ℕ) → writes change b ≡ true → IsToldHere b
  told_here b wrote =
      let p = at_place change.blocks.items change.locks.items b form.locks wrote in
      let is = does.written p.place p.block p.lock p.there p.told in
      record {
        lock = p.lock;
        touched = inl (p.place, p.told);
        after = subst (λ z. cover l z (does.owners z) ≡ Some p.lock) p.same is.told;
        before = subst (λ z. (cover l z (o z) ≡ Some p.lock) ⊎ (is_free (o z) ≡ true)) p.same is.stayed;
      }

  same_lock : (k lock : LockName) {x : Option LockName} → Touches change k → x ≡ Some k → x ≡ Some lock → Touches change lock
  same_lock k lock touched e f = subst (Touches change) (some_same (sym e ∙ f)) touched

  -- of a group of which a block is taken or freed
  group_touched : (b g : ℕ) (lock : LockName) → has_block change b ≡ true → (o b ≡ Free g) ⊎ (does.owners b ≡ Free g) → Some (record { kind = 3; number = g }) ≡ Some lock → Touches change lock
  group_touched b g lock has which e =
      let n = does.groups b g has which in
      let w = told_here n.0 n.1 in
      same_lock w.lock lock w.touched (sym (ap (cover l n.0) n.2) ∙ w.after) e

  written_touched : (b : ℕ) (lock : LockName) → has_block change b ≡ true → IsToldHere b → (cover l b (o b) ≡ Some lock) ⊎ (cover l b (does.owners b) ≡ Some lock) → Touches change lock
  written_touched b lock has w (inr now) = same_lock w.lock lock w.touched w.after now
  written_touched b lock has w (inl was) = elim w.before [
    | inl same ↦ same_lock w.lock lock w.touched same was
    | inr free ↦ let g = free_group (o b) free in group_touched b g.0 lock has (inl g.1) (sym (ap (cover l b) g.1) ∙ was)
  ]

  freed_touched : (b : ℕ) (lock : LockName) → has_block change b ≡ true → frees change b ≡ true → (cover l b (o b) ≡ Some lock) ⊎ (cover l b (does.owners b) ≡ Some lock) → Touches change lock
  freed_touched b lock has gone (inr now) =
      let g = free_group (does.owners b) (does.freed b gone).free in
      group_touched b g.0 lock has (inr g.1) (sym (ap (cover l b) g.1) ∙ now)
  freed_touched b lock has gone (inl was) =
      let f = does.freed b gone in
      let inode : inode_lock l f.inode ≡ Some lock = sym (inode_cover l b (o b) f.inode f.was) ∙ was in
      elim f.dinode [
        | inl too ↦ inr (f.inode, too, numbered l f.inode lock inode)
        | inr wrote ↦
            let w = told_here f.inode wrote.0 in
            same_lock w.lock lock w.touched (sym (inode_cover l f.inode (does.owners f.inode) f.inode (dinode_its f.inode (does.owners f.inode) wrote.1)) ∙ w.after) inode
      ]

  touched : (b : ℕ) (lock : LockName) → has_block change b ≡ true → (cover l b (o b) ≡ Some lock) ⊎ (cover l b (does.owners b) ≡ Some lock) → Touches change lock
  touched b lock has which = elim (either (writes change b) (frees change b) has) [
    | inl wrote ↦ written_touched b lock has (told_here b wrote) which
    | inr gone ↦ freed_touched b lock has gone which
  ]

pub locks_are_touched : LocksAreTouched
locks_are_touched = touched
