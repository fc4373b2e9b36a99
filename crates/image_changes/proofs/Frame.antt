-- What a change leaves alone: an inode that it doesn't touch has the blocks that it had, and so says what it said.
use Rattle.std.proofs.Common.{◌≡◌, ℕ, ◌⊎◌, inl, inr, Bool, true, false, List, Option, None, Some, refl, sym, ap, ◌∙◌, subst}
use Rattle.std.specs.Prelude.{if◌then◌else◌, ◌==◌}
use Rattle.std.proofs.lemmas.Bool.{cases_Bool, cond-false, ne_eqb, true≢false}
use Rattle.gfs2_layout.specs.Inode.{head_of}
use Rattle.image_model.specs.Flat.{no_node}
use Rattle.image_model.specs.Image.{Image}
use Rattle.image_model.specs.Nodes.{node_of}
use Rattle.image_model.specs.Owners.{Owner, Owners, Super, InGroup, Free, Nobody, Root, Master, Named, Below, Chained, is_dinode, IsWithin, part_in, cell_of, cell_in, holding}
use Rattle.image_model.specs.Stands.{Layout, flat_of, heads_of}
use Rattle.image_model.proofs.Held.{none_some, some_same}
use Rattle.image_changes.specs.Laws.{UntouchedStay, OthersStay}
use Rattle.image_changes.specs.Changes.{inode_of, IsOf, Becomes, kept, another_part, of_group, changed, IsChange, inode_lock, lock_in, cover, is_free, place_of}

not_both : {b : Bool} → b ≡ false → b ≡ true → ⊥
not_both e f = true≢false (sym f ∙ e)

other : {X : Type 0} (x a : ℕ) (s : Option X) → (x ≡ a → ⊥) → (if x == a then s else None) ≡ None
other x a s d = cond-false _ s None (ne_eqb x a d)

-- a block of another inode, or of none, is none of this inode's
pub not_its : (a b : ℕ) (o : Owner) → (inode_of b o ≡ Some a → ⊥) → part_in a b o ≡ None
not_its a b Super away = refl
not_its a b (InGroup g) away = refl
not_its a b (Free g) away = refl
not_its a b Nobody away = refl
not_its a b Root away = other b a _ (λ e. away (ap Some e))
not_its a b Master away = other b a _ (λ e. away (ap Some e))
not_its a b (Named parent name) away = other b a _ (λ e. away (ap Some e))
not_its a b (Below d parent k level first) away = other d a _ (λ e. away (ap Some e))
not_its a b (Chained d hash place) away = other d a _ (λ e. away (ap Some e))

pub dinode_its : (b : ℕ) (o : Owner) → is_dinode o ≡ true → inode_of b o ≡ Some b
dinode_its b Root e = refl
dinode_its b Master e = refl
dinode_its b (Named parent name) e = refl
dinode_its b Super e = absurd (true≢false (sym e))
dinode_its b (InGroup g) e = absurd (true≢false (sym e))
dinode_its b (Free g) e = absurd (true≢false (sym e))
dinode_its b Nobody e = absurd (true≢false (sym e))
dinode_its b (Below d parent k level first) e = absurd (true≢false (sym e))
dinode_its b (Chained d hash place) e = absurd (true≢false (sym e))

pub within_its : (b a : ℕ) (o : Owner) → IsWithin a o → inode_of b o ≡ Some a
within_its b a (Below d parent k level first) e = ap Some e
within_its b a (Chained d hash place) e = ap Some e
within_its b a Super e = elim e [ ]
within_its b a (InGroup g) e = elim e [ ]
within_its b a (Free g) e = elim e [ ]
within_its b a Nobody e = elim e [ ]
within_its b a Root e = elim e [ ]
within_its b a Master e = elim e [ ]
within_its b a (Named parent name) e = elim e [ ]

-- a block of an inode is under the inode's lock, and isn't free
of_place : (l : Layout) (b : ℕ) (x : Owner) (a : ℕ) → inode_of b x ≡ Some a → (cover l b x ≡ inode_lock l a) × (is_free x ≡ false)
of_place l b Root a e = (ap (lock_in l) e, refl)
of_place l b Master a e = (ap (lock_in l) e, refl)
of_place l b (Named parent name) a e = (ap (lock_in l) e, refl)
of_place l b (Below d parent k level first) a e = (ap (lock_in l) e, refl)
of_place l b (Chained d hash place) a e = (ap (lock_in l) e, refl)
of_place l b Super a e = absurd (none_some e)
of_place l b (InGroup g) a e = absurd (none_some e)
of_place l b (Free g) a e = absurd (none_some e)
of_place l b Nobody a e = absurd (none_some e)

pub inode_cover : (l : Layout) (b : ℕ) (x : Owner) (a : ℕ) → inode_of b x ≡ Some a → cover l b x ≡ inode_lock l a
inode_cover l b x a e = (of_place l b x a e).0

-- what may be written is a free block, or one of a touched inode
pub data OfWhat (touched : ℕ → Bool) (b : ℕ) (o : Owner) : Type 0 where
  free_block : (g : ℕ) → o ≡ Free g → OfWhat touched b o
  of_inode : (a : ℕ) → inode_of b o ≡ Some a → touched a ≡ true → OfWhat touched b o

pub of_what : (touched : ℕ → Bool) (b : ℕ) (o : Owner) → IsOf touched b o → OfWhat touched b o
of_what touched b (Free g) h = free_block g refl
of_what touched b Super h = of_inode h.0 h.1 h.2
of_what touched b (InGroup g) h = of_inode h.0 h.1 h.2
of_what touched b Nobody h = of_inode h.0 h.1 h.2
of_what touched b Root h = of_inode h.0 h.1 h.2
of_what touched b Master h = of_inode h.0 h.1 h.2
of_what touched b (Named parent name) h = of_inode h.0 h.1 h.2
of_what touched b (Below d parent k level first) h = of_inode h.0 h.1 h.2
of_what touched b (Chained d hash place) h = of_inode h.0 h.1 h.2

-- so it is none of an inode that isn't touched
pub foreign : (touched : ℕ → Bool) (a b : ℕ) (o : Owner) → touched a ≡ false → OfWhat touched b o → inode_of b o ≡ Some a → ⊥
foreign touched a b o away (free_block g e) f = none_some (sym (ap (inode_of b) e) ∙ f)
foreign touched a b o away (of_inode x e t) f = not_both away (ap touched (some_same (sym f ∙ e)) ∙ t)

module _ (im im' : Image) (o o' : Owners) (l : Layout) (touched written : ℕ → Bool) (change : IsChange im im' o o' l touched written) where
  abbrev BecomesHere : ℕ → Type 0
  BecomesHere b = Becomes touched change.altered written b (o b) (o' b) (im.at b) (im'.at b)

  group_no : (b g a : ℕ) (x : Owner) → x ≡ InGroup g → inode_of b x ≡ Some a → ⊥
  group_no b g a x e f = none_some (sym (ap (inode_of b) e) ∙ f)

  -- a block of an inode that isn't touched keeps its row and its bytes
  pub of_untouched : (a b : ℕ) → touched a ≡ false → (inode_of b (o b) ≡ Some a) ⊎ (inode_of b (o' b) ≡ Some a) → (o' b ≡ o b) × (im'.at b ≡ im.at b)
  of_untouched a b away which = each (change.blocks b) which
    where
      each : BecomesHere b → (inode_of b (o b) ≡ Some a) ⊎ (inode_of b (o' b) ≡ Some a) → (o' b ≡ o b) × (im'.at b ≡ im.at b)
      each (kept e f) w = (e, f)
      each (another_part x t e f same) (inl h) = absurd (not_both away (ap touched (some_same (sym h ∙ e)) ∙ t))
      each (another_part x t e f same) (inr h) = absurd (not_both away (ap touched (some_same (sym h ∙ f)) ∙ t))
      each (of_group g t w e f) (inl h) = absurd (group_no b g a (o b) e h)
      each (of_group g t w e f) (inr h) = absurd (group_no b g a (o' b) f h)
      each (changed w h h') (inl k) = absurd (foreign touched a b (o b) away (of_what touched b (o b) h) k)
      each (changed w h h') (inr k) = absurd (foreign touched a b (o' b) away (of_what touched b (o' b) h') k)

  -- an inode that isn't touched has the owner that it had
  pub row_kept : (a : ℕ) → touched a ≡ false → (is_dinode (o a) ≡ true) ⊎ (is_dinode (o' a) ≡ true) → o' a ≡ o a
  row_kept a away (inl so) = (of_untouched a a away (inl (dinode_its a (o a) so))).0
  row_kept a away (inr so) = (of_untouched a a away (inr (dinode_its a (o' a) so))).0

  pub same_dinode : (a : ℕ) → touched a ≡ false → is_dinode (o' a) ≡ is_dinode (o a)
  same_dinode a away = elim (cases_Bool (is_dinode (o a))) [
    | inl so ↦ ap is_dinode (row_kept a away (inl so))
    | inr non ↦ elim (cases_Bool (is_dinode (o' a))) [ inl so ↦ ap is_dinode (row_kept a away (inr so)) | inr none ↦ none ∙ sym non ]
  ]

  pub same_cell : (a b : ℕ) → touched a ≡ false → cell_in im' o' a b ≡ cell_in im o a b
  unfolding cell_in
  same_cell a b away = each (change.blocks b)
    where
      none : (x : Owner) → (inode_of b x ≡ Some a → ⊥) → (bytes : List ℕ) → cell_of (part_in a b x) bytes ≡ None
      none x not bytes = ap (λ p. cell_of p bytes) (not_its a b x not)

      both : (inode_of b (o b) ≡ Some a → ⊥) → (inode_of b (o' b) ≡ Some a → ⊥) → cell_of (part_in a b (o' b)) (im'.at b) ≡ cell_of (part_in a b (o b)) (im.at b)
      both not not' = none (o' b) not' (im'.at b) ∙ sym (none (o b) not (im.at b))

      each : BecomesHere b → cell_of (part_in a b (o' b)) (im'.at b) ≡ cell_of (part_in a b (o b)) (im.at b)
      each (kept e f) = λ i. cell_of (part_in a b (e i)) (f i)
      each (another_part x t e f same) = both (λ h. not_both away (ap touched (some_same (sym h ∙ e)) ∙ t)) (λ h. not_both away (ap touched (some_same (sym h ∙ f)) ∙ t))
      each (of_group g t w e f) = both (group_no b g a (o b) e) (group_no b g a (o' b) f)
      each (changed w h h') = both (foreign touched a b (o b) away (of_what touched b (o b) h)) (foreign touched a b (o' b) away (of_what touched b (o' b) h'))

  -- an inode that isn't touched has what it had
  pub same_holding : (a : ℕ) → touched a ≡ false → holding im' o' a ≡ holding im o a
  same_holding a away = λ i. record { size = change.size i; count = change.count i; own = a; cell = λ b. same_cell a b away i }

  pub flat_same : (a : ℕ) → touched a ≡ false → flat_of im' o' a ≡ flat_of im o a
  flat_same a away = λ i. if same_dinode a away i then node_of (same_holding a away i) else no_node

  -- an inode that stays has its number and kind
  pub head_same : (a : ℕ) → is_dinode (o a) ≡ true → is_dinode (o' a) ≡ true → heads_of im' o' a ≡ heads_of im o a
  head_same a so so' = elim (cases_Bool (touched a)) [
    | inl here ↦ change.heads a here so so'
    | inr away ↦ ap head_of (same_holding a away)
  ]

  -- a block of an inode is one of an inode that is there
  pub within_after : ((b a : ℕ) → IsWithin a (o b) → is_dinode (o a) ≡ true) → (b a : ℕ) → IsWithin a (o' b) → is_dinode (o' a) ≡ true
  within_after before b a h = elim (cases_Bool (touched a)) [
    | inl here ↦ change.within b a here h
    | inr away ↦ same_dinode a away ∙ before b a (subst (IsWithin a) (of_untouched a b away (inr (within_its b a (o' b) h))).0 h)
  ]

  -- a block that is neither written nor freed has the bytes that it had, and belongs where it belonged
  pub place_stays : (b : ℕ) → written b ≡ false → (im'.at b ≡ im.at b) × (place_of l o' b ≡ place_of l o b)
  place_stays b not = each (change.blocks b)
    where
      each : BecomesHere b → (im'.at b ≡ im.at b) × (place_of l o' b ≡ place_of l o b)
      each (kept e f) = (f, λ i. record { lock = cover l b (e i); free = is_free (e i) })
      each (another_part a t e f same) =
          let was = of_place l b (o b) a e in
          let now = of_place l b (o' b) a f in
          (same, λ i. record { lock = (now.0 ∙ sym was.0) i; free = (now.1 ∙ sym was.1) i })
      each (of_group g t w e f) = absurd (not_both not w)
      each (changed w h h') = absurd (not_both not w)

pub untouched_stay : UntouchedStay
untouched_stay = same_holding

pub others_stay : OthersStay
others_stay = place_stays
