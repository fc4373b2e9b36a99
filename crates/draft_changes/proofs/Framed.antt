-- What is common to drafts: each block is left, or is one of a few inodes or of a few groups.
use Rattle.std.proofs.Common.{◌≡◌, ℕ, ◌<◌, ◌⊎◌, inl, inr, Bool, true, false, true≢false, List, [], ◌∷◌, length, Option, None, Some, refl, sym, ap, ◌∙◌, subst}
use Rattle.std.specs.Prelude.{◌||◌, ◌==◌, is_some, unwrap_or}
use Rattle.std.specs.List.{list_any}
use Rattle.std.specs.Ordering.{nat_cmp}
use Rattle.std.specs.FinMap.{FinMap, get}
use Rattle.std.proofs.lemmas.Bool.{cases_Bool, eqb-true, eq-eqb, or_cases}
use Rattle.drafts.specs.Fates.{AreWhole, block_with}
use Rattle.drafts.specs.declared.change.Written.{Written}
use Rattle.drafts.specs.declared.fate.Fate.{Fate}
use Rattle.drafts.specs.declared.fate.Fate.TheVariants.{Put, Freed}
use Rattle.gfs2_layout.specs.Inode.{IsInode}
use Rattle.gfs2_layout.specs.declared.rindex.Rindex.{Rindex}
use Rattle.glock_names.specs.declared.LockName.{LockName}
use Rattle.image_model.specs.Groups.{IsListed, IsHeaderOf, IsDataOf, group_blocks, states_of, state_of, IsGroup}
use Rattle.image_model.specs.Image.{Image}
use Rattle.image_model.specs.Owners.{Owner, Owners, InGroup, Free, is_dinode, IsWithin, holding}
use Rattle.image_model.specs.Stands.{Layout, IsLaid, heads_of}
use Rattle.image_model.proofs.Held.{none_some, some_same}
use Rattle.image_model.proofs.Members.{IsIn}
use Rattle.image_changes.specs.Changes.{inode_of, IsOf, Becomes, kept, another_part, of_group, changed, IsChange, inode_lock, cover, is_free}
use Rattle.image_changes.specs.Does.{IsWritten, is_content_of}
use Rattle.image_changes.specs.Drafted.{is_gone, is_put, is_freed, is_drafted, with_draft}
use Rattle.image_changes.specs.Instances.{among}
use Rattle.image_changes.proofs.Frame.{dinode_its, inode_cover}
use Rattle.image_changes.proofs.Laid.{one_group}
use Rattle.draft_changes.specs.Groups.{IsPutUnder, PutsGroup}
use Rattle.draft_changes.proofs.Rows.{its_used, dinode_no_content, same_group, free_lies}

-- ---- what becomes of one block

pub none_drafted : (fates : FinMap nat_cmp Fate) (b : ℕ) → get fates b ≡ None → is_drafted fates b ≡ false
none_drafted fates b e = ap (λ (f : Option Fate). is_some (block_with f None) || is_gone f) e

pub put_drafted : (fates : FinMap nat_cmp Fate) (b : ℕ) (lock : LockName) (plain : Bool) (bytes : List ℕ) → get fates b ≡ Some (Put lock plain bytes) → is_drafted fates b ≡ true
put_drafted fates b lock plain bytes e = ap (λ (f : Option Fate). is_some (block_with f None) || is_gone f) e

pub gone_drafted : (fates : FinMap nat_cmp Fate) (b : ℕ) → get fates b ≡ Some Freed → is_drafted fates b ≡ true
gone_drafted fates b e = ap (λ (f : Option Fate). is_some (block_with f None) || is_gone f) e

pub freed_drafted : (fates : FinMap nat_cmp Fate) (b : ℕ) → is_freed fates b ≡ true → is_drafted fates b ≡ true
freed_drafted fates b e = rw e (or_true (is_put fates b))
  where
    or_true : (t : Bool) → (t || true) ≡ true
    or_true true = refl
    or_true false = refl

pub put_not_gone : (fates : FinMap nat_cmp Fate) (b : ℕ) (lock : LockName) (plain : Bool) (bytes : List ℕ) → get fates b ≡ Some (Put lock plain bytes) → is_freed fates b ≡ false
put_not_gone fates b lock plain bytes e = ap is_gone e

pub gone_there : (fates : FinMap nat_cmp Fate) (b : ℕ) → is_freed fates b ≡ true → get fates b ≡ Some Freed
gone_there fates b e = by (get fates b) e
  where
    by : (f : Option Fate) → is_gone f ≡ true → f ≡ Some Freed
    by (Some Freed) e = refl
    by (Some (Put lock plain bytes)) e = absurd (true≢false (sym e))
    by None e = absurd (true≢false (sym e))

-- the bytes of a block that isn't put
pub bytes_left : (im : Image) (fates : FinMap nat_cmp Fate) (b : ℕ) → is_drafted fates b ≡ false → (with_draft im fates).at b ≡ im.at b
bytes_left im fates b e = by (get fates b) e
  where
    by : (f : Option Fate) → (is_some (block_with f None) || is_gone f) ≡ false → unwrap_or (block_with f None) (im.at b) ≡ im.at b
    by None e = refl
    by (Some Freed) e = refl
    by (Some (Put lock plain bytes)) e = absurd (true≢false e)

pub bytes_put : (im : Image) (fates : FinMap nat_cmp Fate) (b : ℕ) (lock : LockName) (plain : Bool) (bytes : List ℕ) → get fates b ≡ Some (Put lock plain bytes) → (with_draft im fates).at b ≡ bytes
bytes_put im fates b lock plain bytes e = ap (λ (f : Option Fate). unwrap_or (block_with f None) (im.at b)) e

-- ---- a draft of a few inodes and groups

pub data MakesOf (o o' : Owners) (fates : FinMap nat_cmp Fate) (ys : List ℕ) (gs : List Rindex) (b : ℕ) : Type 0 where
  leaves : is_drafted fates b ≡ false → o' b ≡ o b → MakesOf o o' fates ys gs b
  moves : (a : ℕ) → is_drafted fates b ≡ false → among ys a ≡ true → inode_of b (o b) ≡ Some a → inode_of b (o' b) ≡ Some a → MakesOf o o' fates ys gs b
  of_inodes : is_drafted fates b ≡ true → IsOf (among ys) b (o b) → IsOf (among ys) b (o' b) → MakesOf o o' fates ys gs b
  of_header : (g : Rindex) → IsIn g gs → IsHeaderOf g b → o' b ≡ o b → MakesOf o o' fates ys gs b

pub record IsFramed (im : Image) (o o' : Owners) (l : Layout) (fates : FinMap nat_cmp Fate) (ys : List ℕ) (gs : List Rindex) : Type 0 where
  pub laid : IsLaid im o l
  pub whole : AreWhole im.size fates
  pub listed : (g : Rindex) → IsIn g gs → IsListed l.groups g
  pub groups : (g : Rindex) → IsIn g gs → PutsGroup im fates g (states_of o' g)
  pub blocks : (b : ℕ) → MakesOf o o' fates ys gs b
  -- a block that is free was so, or is one of these groups'
  pub freed : (b x : ℕ) → o' b ≡ Free x → (o b ≡ Free x) ⊎ ((g : Rindex) × IsIn g gs × IsDataOf g b × (x ≡ g.address))
  -- and so is one that has another state
  pub states : (b : ℕ) → (state_of (o' b) ≡ state_of (o b)) ⊎ ((g : Rindex) × IsIn g gs × IsDataOf g b)

-- one of the groups has its header there
any_there : (gs : List Rindex) (x : ℕ) → list_any (λ (g : Rindex). g.address == x) gs ≡ true → (g : Rindex) × IsIn g gs × (g.address ≡ x)
any_there [] x e = absurd (true≢false (sym e))
any_there (g ∷ gs) x e = elim (or_cases (g.address == x) (list_any (λ (g : Rindex). g.address == x) gs) e) [
  | inl here ↦ (g, inl refl, eqb-true g.address x here)
  | inr later ↦ let r = any_there gs x later in (r.0, inr r.1, r.2)
]

there_any : (gs : List Rindex) (g : Rindex) → IsIn g gs → list_any (λ (h : Rindex). h.address == g.address) gs ≡ true
there_any [] g h = elim h [ ]
there_any (k ∷ gs) g (inl e) = ap (λ t. t || list_any (λ (h : Rindex). h.address == g.address) gs) (eq-eqb k.address g.address (ap (λ (r : Rindex). r.address) (sym e)))
there_any (k ∷ gs) g (inr h) = rw (there_any gs g h) (or_true (k.address == g.address))
  where
    or_true : (b : Bool) → (b || true) ≡ true
    or_true true = refl
    or_true false = refl

module _ (im : Image) (o o' : Owners) (l : Layout) (fates : FinMap nat_cmp Fate) (ys : List ℕ) (gs : List Rindex) (is : IsFramed im o o' l fates ys gs) where
  abbrev after : Image
  after = with_draft im fates

  no_inode : (b g : ℕ) (x : Owner) → x ≡ InGroup g → IsOf (among ys) b x → ⊥
  no_inode b g x e h = none_some (subst (IsOf (among ys) b) e h).1

  -- a group's header and bitmap stay that
  pub header_row : (g : Rindex) → IsIn g gs → (b : ℕ) → IsHeaderOf g b → (o b ≡ InGroup g.address) × (o' b ≡ InGroup g.address)
  header_row g at b h = (was, by (is.blocks b))
    where
      was : o b ≡ InGroup g.address
      was = is.laid.zoned.headers g (is.listed g at) b h

      by : MakesOf o o' fates ys gs b → o' b ≡ InGroup g.address
      by (leaves e f) = f ∙ was
      by (moves a e at f f') = absurd (none_some (sym (ap (inode_of b) was) ∙ f))
      by (of_inodes w k k') = absurd (no_inode b g.address (o b) was k)
      by (of_header k at' h' f) = f ∙ was

  becomes : (b : ℕ) → MakesOf o o' fates ys gs b → Becomes (among ys) (λ x. list_any (λ (g : Rindex). g.address == x) gs) (is_drafted fates) b (o b) (o' b) (im.at b) (after.at b)
  becomes b (leaves e f) = kept f (bytes_left im fates b e)
  becomes b (moves a e at f f') = another_part a at f f' (bytes_left im fates b e)
  becomes b (of_inodes w h h') = changed w h h'
  becomes b (of_header g at h f) = elim (cases_Bool (is_drafted fates b)) [
    | inl here ↦ let r = header_row g at b h in of_group g.address (there_any gs g at) here r.0 r.1
    | inr away ↦ kept f (bytes_left im fates b away)
  ]

  pub whole_after : (b : ℕ) → b < im.count → length (after.at b) ≡ im.size
  whole_after b low = by (get fates b) refl
    where
      by : (f : Option Fate) → get fates b ≡ f → length (unwrap_or (block_with f None) (im.at b)) ≡ im.size
      by None e = is.laid.image.whole b low
      by (Some Freed) e = is.laid.image.whole b low
      by (Some (Put lock plain bytes)) e = is.whole b lock plain bytes e

  groups_after : (g : Rindex) → IsListed l.groups g → list_any (λ (h : Rindex). h.address == g.address) gs ≡ true → IsGroup g (group_blocks after.at g) (states_of o' g)
  groups_after g at e =
      let r = any_there gs g.address e in
      subst (λ h. IsGroup h (group_blocks after.at h) (states_of o' h)) (same_group im l.groups is.laid.fit r.0 g (is.listed r.0 r.1) at r.2) (is.groups r.0 r.1).says

  states_after : (g : Rindex) (b : ℕ) → IsListed l.groups g → list_any (λ (h : Rindex). h.address == g.address) gs ≡ false → IsDataOf g b → state_of (o' b) ≡ state_of (o b)
  states_after g b at not own = elim (is.states b) [
    | inl same ↦ same
    | inr of ↦ absurd (true≢false (sym (there_any gs of.0 of.1) ∙ ap (λ x. list_any (λ (h : Rindex). h.address == x) gs) (one_group im l.groups is.laid.fit of.0 g b (is.listed of.0 of.1) at of.2 own) ∙ not))
  ]

  freed_after : (b x : ℕ) → o' b ≡ Free x → (g : Rindex) × IsListed l.groups g × IsDataOf g b × (x ≡ g.address)
  freed_after b x e = elim (is.freed b x e) [ inl was ↦ free_lies im o l is.laid b x was | inr of ↦ (of.0, is.listed of.0 of.1, of.2, of.3) ]

  pub framed_change : ((a : ℕ) → among ys a ≡ true → is_dinode (o' a) ≡ true → IsInode (holding after o' a))
      → ((b a : ℕ) → among ys a ≡ true → IsWithin a (o' b) → is_dinode (o' a) ≡ true)
      → ((a : ℕ) → among ys a ≡ true → is_dinode (o a) ≡ true → is_dinode (o' a) ≡ true → heads_of after o' a ≡ heads_of im o a)
      → IsChange im after o o' l (among ys) (is_drafted fates)
  framed_change inodes within heads = record {
    altered = λ x. list_any (λ (g : Rindex). g.address == x) gs;
    size = refl;
    count = refl;
    blocks = λ b. becomes b (is.blocks b);
    whole = λ b w low. whole_after b low;
    freed = λ b x w e. freed_after b x e;
    groups = groups_after;
    states = states_after;
    inodes = inodes;
    within = within;
    heads = heads;
  }

  -- ---- blocks of groups

  pub header_written : (g : Rindex) → IsIn g gs → (w : Written) (lock : LockName) → IsHeaderOf g w.block → get fates w.block ≡ Some (Put lock w.plain w.bytes) → IsWritten l after o o' w lock
  header_written g at w lock h e = record {
    told = ap (cover l w.block) r.1 ∙ ap Some (sym put.0);
    used = ap is_free r.1;
    plain = put.1 ∙ sym (ap (is_content_of after o') r.1);
    stayed = inl (ap (cover l w.block) r.0 ∙ ap Some (sym put.0));
  }
    where
      r : (o w.block ≡ InGroup g.address) × (o' w.block ≡ InGroup g.address)
      r = header_row g at w.block h

      same : (bytes : List ℕ) → Put lock w.plain w.bytes ≡ Put (record { kind = 3; number = g.address }) false bytes → (lock ≡ record { kind = 3; number = g.address }) × (w.plain ≡ false)
      same bytes e = (cc, cc)

      by : (get fates w.block ≡ None) ⊎ IsPutUnder fates g w.block → (lock ≡ record { kind = 3; number = g.address }) × (w.plain ≡ false)
      by (inl none) = absurd (none_some (sym none ∙ e))
      by (inr so) = same so.0 (some_same (sym e ∙ so.1))

      put : (lock ≡ record { kind = 3; number = g.address }) × (w.plain ≡ false)
      put = by ((is.groups g at).blocks w.block h)

  -- none of them is freed
  pub header_kept : (g : Rindex) → IsIn g gs → (b : ℕ) → IsHeaderOf g b → is_freed fates b ≡ false
  header_kept g at b h = by ((is.groups g at).blocks b h)
    where
      by : (get fates b ≡ None) ⊎ IsPutUnder fates g b → is_freed fates b ≡ false
      by (inl none) = ap is_gone none
      by (inr so) = ap is_gone so.1

  -- some block of each group is written
  pub group_written : (g : Rindex) → IsIn g gs → (n : ℕ) × (is_put fates n ≡ true) × (o' n ≡ InGroup g.address)
  group_written g at = let s = (is.groups g at).some in (s.0, ap (λ f. is_some (block_with f None)) s.2.1, (header_row g at s.0 s.1).1)

-- ---- the block of a dinode

-- a dinode that is put under its own lock, and was under it or free
pub dinode_written : (im : Image) (o o' : Owners) (l : Layout) (fates : FinMap nat_cmp Fate) (b : ℕ) (bytes : List ℕ) → get fates b ≡ Some (Put (record { kind = 2; number = b }) false bytes)
    → is_dinode (o' b) ≡ true → inode_lock l b ≡ Some (record { kind = 2; number = b }) → (is_dinode (o b) ≡ true) ⊎ (is_free (o b) ≡ true)
    → (w : Written) (lock : LockName) → w.block ≡ b → get fates w.block ≡ Some (Put lock w.plain w.bytes) → IsWritten l (with_draft im fates) o o' w lock
dinode_written im o o' l fates b bytes put so own was w lock same e =
    subst (λ z. IsWritten l (with_draft im fates) o o' (record { block = z; plain = w.plain; bytes = w.bytes }) lock) (sym same) there
  where
    both : Put lock w.plain w.bytes ≡ Put (record { kind = 2; number = b }) false bytes → (lock ≡ record { kind = 2; number = b }) × (w.plain ≡ false)
    both e = (cc, cc)

    put_so : (lock ≡ record { kind = 2; number = b }) × (w.plain ≡ false)
    put_so = both (some_same (sym (subst (λ z. get fates z ≡ Some (Put lock w.plain w.bytes)) same e) ∙ put))

    covers : (x : Owner) → is_dinode x ≡ true → cover l b x ≡ Some lock
    covers x d = inode_cover l b x b (dinode_its b x d) ∙ own ∙ ap Some (sym put_so.0)

    stayed : (is_dinode (o b) ≡ true) ⊎ (is_free (o b) ≡ true) → (cover l b (o b) ≡ Some lock) ⊎ (is_free (o b) ≡ true)
    stayed (inl d) = inl (covers (o b) d)
    stayed (inr f) = inr f

    there : IsWritten l (with_draft im fates) o o' (record { block = b; plain = w.plain; bytes = w.bytes }) lock
    there = record {
      told = covers (o' b) so;
      used = (its_used b b (o' b) (dinode_its b (o' b) so)).1;
      plain = put_so.1 ∙ sym (dinode_no_content (with_draft im fates) o' (o' b) so);
      stayed = stayed was;
    }
